-- The entry check_net: answers 1, then 3 with the least row not in order, else 0.
use Rattle.std.specs.Prelude.{cond, [], ⊤, Result}
use Rattle.answers.specs.Answers.{Said, done, shape, unsound}
use Rattle.numbers.specs.Numbers.{Named, at, nothing}
use Rattle.refused.specs.declared.Refusal.{Refusal}
use Rattle.refused.specs.Refused.{plain_said}
use Rattle.net.specs.declared.Counts.{Counts}
use Rattle.net.specs.Net.{Net}
use Rattle.net.specs.Counts.{is_shaped}
use Rattle.rowtests.specs.Order.{least_out}

abbrev pub check_said : Result ⊤ Refusal → Said
check_said = plain_said

-- no row is out of order, or this is the least
abbrev pub sound_or : Named → Said
sound_or nothing = done []
sound_or (at h) = unsound h

unfoldable pub check_net : Counts → Net → Said
check_net c n = cond (is_shaped c n) (sound_or (least_out c.halfedges c.vertices n.halfedges)) shape
