-- What the first pass gives.
use Rattle.std.specs.Prelude.{◌≡◌, List, ℕ, Option, Some}
use Rattle.splitting.specs.declared.Visited.{Visited}
use Rattle.ordering.specs.inner.Order.{Order}

-- the copies counted and the half-edges put into the order
abbrev pub visited_of : Order → Visited
visited_of o = record { added = o.added; steps = o.steps }

-- the fans are put into the order, with the work buffer as it is then
abbrev pub Gives : Option Visited → List ℕ → Order → Type 0
Gives r work o = (r ≡ Some (visited_of o)) × (work ≡ o.work)
