-- `judging::judge` meets its contract: each return is by what was read so far.
use mathlib.Core.Path.{sym, ◌∙◌}
use native.Mathlib.Omega.{arith}
use Rattle.numbers.proofs.Names.{names_below}
use Rattle.numbers.proofs.NextLaws.{next_in}
use Rattle.rows.specs.Halfedges.{pair_of}
use Rattle.judging.specs.Judge.{judge}
use Rattle.judging.proofs.Judging.{judged_missing, judged_long}
use Rattle.judging.proofs.judge.Goals as goal

pub returns-then-not-is_paired : goal.returns-then-not-is_paired
unfolding judge
returns-then-not-is_paired c = rw (sym c.is_paired.ensures ∙ c.if-not-is_paired.true)

pub returns-in_err-partner : goal.returns-in_err-partner
unfolding judge
returns-in_err-partner c =
    let t = sym c.is_paired.ensures ∙ c.if-not-is_paired.false in
    let n = c.in_err-partner.ensures.ok_part in
    rw (t, ← (rw n at c.pair_of.ensures)) (judged_missing _ _ c.from_residual.ensures.1 (rw n at c.in_err-partner.ensures.value))

pub returns-in_err-start : goal.returns-in_err-start
unfolding judge
returns-in_err-start c =
    let t = sym c.is_paired.ensures ∙ c.if-not-is_paired.false in
    let p = rw c.in_ok-partner.ensures.ok_part at c.pair_of.ensures in
    let n = c.in_err-start.ensures.ok_part in
    rw (t, ← p, ← (rw n at c.start_of.ensures)) (judged_missing _ _ c.from_residual-in_err-start.ensures.1 (rw n at c.in_err-start.ensures.value))

pub returns-in_err-end : goal.returns-in_err-end
unfolding judge
returns-in_err-end c =
    let t = sym c.is_paired.ensures ∙ c.if-not-is_paired.false in
    let p = rw c.in_ok-partner.ensures.ok_part at c.pair_of.ensures in
    let u = rw c.in_ok-start.ensures.ok_part at c.start_of.ensures in
    let n = c.in_err-end.ensures.ok_part in
    rw (t, ← p, ← u, ← (rw n at c.end_of.ensures)) (judged_missing _ _ c.from_residual-in_err-end.ensures.1 (rw n at c.in_err-end.ensures.value))

pub is_paired-requires-2 : goal.is_paired-requires-2
is_paired-requires-2 c =
    let a = c.args in
    let p = rw c.in_ok-partner.ensures.ok_part at c.pair_of.ensures in
    let b = next_in _ _ (names_below (pair_of a.rows.now a.e.0) a.halfedges (sym p)) c.requires.1.0.0 in
    rw c.next.ensures (omega (arith, b, c.requires.1.0.1.0))

pub returns-then-not-is_paired-2 : goal.returns-then-not-is_paired-2
unfolding judge
returns-then-not-is_paired-2 c =
    let t = sym c.is_paired.ensures ∙ c.if-not-is_paired.false in
    let p = rw c.in_ok-partner.ensures.ok_part at c.pair_of.ensures in
    let u = rw c.in_ok-start.ensures.ok_part at c.start_of.ensures in
    let v = rw c.in_ok-end.ensures.ok_part at c.end_of.ensures in
    rw (t, ← p, ← u, ← v, rw c.next.ensures at (sym c.is_paired-2.ensures ∙ c.if-not-is_paired-2.true))

pub returns-in_err-between : goal.returns-in_err-between
unfolding judge
returns-in_err-between c =
    let t = sym c.is_paired.ensures ∙ c.if-not-is_paired.false in
    let p = rw c.in_ok-partner.ensures.ok_part at c.pair_of.ensures in
    let u = rw c.in_ok-start.ensures.ok_part at c.start_of.ensures in
    let v = rw c.in_ok-end.ensures.ok_part at c.end_of.ensures in
    let s = rw c.next.ensures at (sym c.is_paired-2.ensures ∙ c.if-not-is_paired-2.false) in
    let l = rw c.in_err-between.was at c.between.ensures in
    rw (t, ← p, ← u, ← v, s, ← l) (judged_long _ _ _ _ _ _ _ _ c.from_residual-in_err-between.ensures.1 l)

pub returns : goal.returns
unfolding judge
returns c =
    let t = sym c.is_paired.ensures ∙ c.if-not-is_paired.false in
    let p = rw c.in_ok-partner.ensures.ok_part at c.pair_of.ensures in
    let u = rw c.in_ok-start.ensures.ok_part at c.start_of.ensures in
    let v = rw c.in_ok-end.ensures.ok_part at c.end_of.ensures in
    let s = rw c.next.ensures at (sym c.is_paired-2.ensures ∙ c.if-not-is_paired-2.false) in
    rw (t, ← p, ← u, ← v, s, ← (rw c.in_ok-between.was at c.between.ensures))
