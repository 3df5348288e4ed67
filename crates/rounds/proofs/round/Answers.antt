-- `rounds::round` meets its contract: each return is by the tests met so far.
use mathlib.Core.Path.{refl, sym, ap, ◌∙◌}
use mathlib.Core.List.{List}
use Prim.Native.Nat.{ℕ}
use native.Mathlib.Omega.{arith}
use Rattle.std.proofs.lemmas.Result.{err_from_is_err_and}
use Rattle.growth.specs.Growth.{beginning}
use Rattle.duplicates.proofs.Found.{found_count, found_fits, found_front, found_in, found_beyond}
use Rattle.rounds.specs.Rounds.{each, on}
use Rattle.rounds.proofs.Steps.{round_none, round_some}
use Rattle.rounds.proofs.round.Goals as goal

pub returns-then-count-eq0-clause-step : goal.returns-then-count-eq0-clause-step
returns-then-count-eq0-clause-step c =
    let s = c.args in
    let w = beginning s.rows.now s.positions.now s.normals.now s.references.now s.used.now in
    let z = found_count s.used.now.halfedges s.used.now.vertices s.limits.halfedges s.rows.now s.list.now _ _ c.list_duplicates-count.ensures.0 in
    round_none s.limits w refl (sym z ∙ c.if-count-eq0.true)

pub each-requires : goal.each-requires
each-requires c =
    let s = c.args in
    let f = c.list_duplicates-count.ensures.0 in
    let m = found_fits s.used.now.halfedges s.used.now.vertices s.limits.halfedges s.rows.now s.list.now _ _ f in
    (omega (arith, m, c.list_duplicates-count.auto.list, c.requires.0.1), (found_in s.used.now.halfedges s.used.now.vertices s.limits.halfedges s.rows.now s.list.now _ _ f c.requires.1.rows_fit.thirds, c.requires.1))

pub returns-in_err-each-clause-step : goal.returns-in_err-each-clause-step
returns-in_err-each-clause-step c =
    let s = c.args in
    let q = err_from_is_err_and c.from_residual.result c.from_residual.ensures.1 in
    let w = beginning s.rows.now s.positions.now s.normals.now s.references.now s.used.now in
    let f = c.list_duplicates-count.ensures.0 in
    let z = found_count s.used.now.halfedges s.used.now.vertices s.limits.halfedges s.rows.now s.list.now _ _ f in
    let t = found_front s.used.now.halfedges s.used.now.vertices s.limits.halfedges s.rows.now s.list.now _ _ f in
    let e = rw c.in_err-each.was at c.each.ensures.step in
    rw (q.1, q.2) (ap on (e ∙ ap (λ (ds : List ℕ). each s.limits ds w) t) ∙ round_some s.limits w refl (λ y. c.if-count-eq0.false (z ∙ y)))

pub returns-in_err-each-clause-beyond : goal.returns-in_err-each-clause-beyond
returns-in_err-each-clause-beyond c =
    let s = c.args in
    (c.list_duplicates-count.ensures.1, found_beyond s.used.now.halfedges s.used.now.vertices s.limits.halfedges s.rows.now s.list.now _ _ c.list_duplicates-count.ensures.0)

pub returns-clause-step : goal.returns-clause-step
returns-clause-step c =
    let s = c.args in
    let w = beginning s.rows.now s.positions.now s.normals.now s.references.now s.used.now in
    let f = c.list_duplicates-count.ensures.0 in
    let z = found_count s.used.now.halfedges s.used.now.vertices s.limits.halfedges s.rows.now s.list.now _ _ f in
    let t = found_front s.used.now.halfedges s.used.now.vertices s.limits.halfedges s.rows.now s.list.now _ _ f in
    let e = rw c.in_ok-each.was at c.each.ensures.step in
    ap on (e ∙ ap (λ (ds : List ℕ). each s.limits ds w) t) ∙ round_some s.limits w refl (λ y. c.if-count-eq0.false (z ∙ y))

pub returns-clause-beyond : goal.returns-clause-beyond
returns-clause-beyond c =
    let s = c.args in
    (c.list_duplicates-count.ensures.1, found_beyond s.used.now.halfedges s.used.now.vertices s.limits.halfedges s.rows.now s.list.now _ _ c.list_duplicates-count.ensures.0)
