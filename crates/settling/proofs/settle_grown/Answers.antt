-- `settling::settle_grown` meets its contract: one write after the other.
use mathlib.Core.Path.{◌≡◌, sym, ◌∙◌}
use mathlib.Core.Bool.{true, false, true≢false}
use Rattle.std.specs.Prelude.{⊤, Result, Ok, Err}
use Rattle.std.specs.Result.{is_ok}
use Rattle.rows.specs.Triples.{zero_triples, zero_references}
use Rattle.steps.specs.declared.Stop.{Stop}
use Rattle.steps.specs.Steps.{how_after, is_refused}
use Rattle.steps.proofs.Stops.{stop_refused}
use Rattle.settling.proofs.settle_grown.Goals as goal

refused : (went : Result ⊤ Stop) → is_ok went ≡ false → is_refused (how_after went) ≡ true
refused (Ok x) t = absurd (true≢false t)
refused (Err stop) t = stop_refused stop

pub returns : goal.returns
unfolding zero_triples zero_references
returns c = rw (c.zero_faces-2.ensures, c.zero_faces.ensures, c.settle.ensures, c.zero.ensures, refused c.args.went (sym c.is_ok.ensures.value ∙ c.if-is_ok.false))
