-- `folds::is_pair` meets its contract: what the pair names, and its number.
use mathlib.Core.Path.{◌≡◌, refl, ◌∙◌}
use Rattle.std.specs.Prelude.{Option, Some, None}
use Rattle.std.specs.Option.{option_eq}
use Rattle.numbers.specs.contracts.HalfedgePartialEq.TheImpl.{eq-value}
use Rattle.numbers.specs.declared.Halfedge.{Halfedge}
use Rattle.numbers.specs.Numbers.{halfedge_named, halfedge_number}
use Rattle.folds.specs.Folds.{is_at, has_pair}
use Rattle.folds.proofs.is_pair.Goals as goal

is_some : (o : Option Halfedge) (p : Halfedge) → option_eq eq-value.it o (Some p) ≡ is_at (halfedge_named o) (halfedge_number p)
is_some (Some q) p = refl
is_some None p = refl

pub returns : goal.returns
unfolding has_pair
returns c = rw (← c.pair_of.ensures) (c.eq.ensures ∙ is_some c.pair_of.result c.args.p)
