-- A walk of a fan: the half-edges that are still to come, and what it needs to go on.
use Rattle.std.specs.Prelude.{List, [], ◌∷◌, ℕ, ◌<◌, IfSome}
use Rattle.numbers.specs.Numbers.{halfedge_number, halfedge_named, named_or}
use Rattle.steps.specs.Steps.{InUse}
use Rattle.searches.specs.Duplicates.{turns}
use Rattle.duplicates.specs.declared.fans.Fan.{Fan}

-- the one at which it is, then its turns
abbrev pub rest : Fan → List ℕ
rest s = named_or [] (halfedge_named s.at) (λ c. c ∷ turns s.halfedges s.rows.now (halfedge_number s.home) s.left c)

-- it is at one of the half-edges in use
abbrev pub Walks : Fan → Type 0
Walks s = IfSome s.at (λ c. halfedge_number c < s.halfedges) × InUse s.halfedges s.rows.now
