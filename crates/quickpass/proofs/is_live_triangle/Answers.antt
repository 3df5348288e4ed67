-- `quickpass::is_live_triangle` meets its contract.
use mathlib.Core.Path.{refl, sym, ◌∙◌}
use mathlib.Core.Bool.{false}
use Rattle.laws.proofs.Tests.{and2, not_both}
use Rattle.rowtests.proofs.Triangle.{room}
use Rattle.quickpass.proofs.Quick.{three, three_passed}
use Rattle.quickpass.proofs.is_live_triangle.Goals as goal

pub is_started-requires : goal.is_started-requires
is_started-requires c = room _ 0 _ _ _ c.requires

pub is_paired-requires : goal.is_paired-requires
is_paired-requires c = room _ 0 _ _ _ c.requires

pub returns-then-not-is_started-is_paired : goal.returns-then-not-is_started-is_paired
returns-then-not-is_started-is_paired c = λ e. not_both false e refl

pub is_placed-requires : goal.is_placed-requires
is_placed-requires c = (room _ 0 _ _ _ c.requires, sym c.is_started.ensures ∙ (and2 c.is_started.result c.is_paired.result c.if-not-is_started-is_paired.false).0)

pub returns-then-not-is_placed : goal.returns-then-not-is_placed
returns-then-not-is_placed c = λ e. not_both false e refl

pub is_apart-requires : goal.is_apart-requires
is_apart-requires c = room _ 0 _ _ _ c.requires

pub returns-then-not-is_apart : goal.returns-then-not-is_apart
returns-then-not-is_apart c = λ e. not_both false e refl

pub is_chained-requires : goal.is_chained-requires
is_chained-requires c = room _ 0 _ _ _ c.requires

pub returns-then-not-is_chained : goal.returns-then-not-is_chained
returns-then-not-is_chained c = λ e. not_both false e refl

pub is_met-requires : goal.is_met-requires
is_met-requires c = (c.requires, sym c.is_paired.ensures ∙ (and2 c.is_started.result c.is_paired.result c.if-not-is_started-is_paired.false).1)

pub returns : goal.returns
returns c =
    λ e.
    let w = three _ _ _ _ _ c.requires (sym c.is_placed.ensures ∙ c.if-not-is_placed.false) (sym c.is_chained.ensures ∙ c.if-not-is_chained.false) (sym c.is_apart.ensures ∙ c.if-not-is_apart.false) (c.is_met.ensures e) in
    three_passed _ _ _ _ c.requires.first w.0 w.1 w.2
