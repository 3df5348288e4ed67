-- `cleanup::cleanup_topology` meets its contract: a net whose counts fit, with a spare that holds them, is within what there can be.
use mathlib.Core.Path.{sym, ap, ◌∙◌}
use native.Mathlib.Omega.{arith}
use borrow.Author.Tests.{leb-true}
use Rattle.laws.proofs.Tests.{and2}
use Rattle.refused.specs.Refused.{plain_said}
use Rattle.net.specs.Net.{net}
use Rattle.net.proofs.Shape.{shaped_yes, within}
use Rattle.splitting.proofs.Net.{sound_rows}
use Rattle.split.proofs.Entry.{none_out, sound_here}
use Rattle.settling.proofs.Entry.{begun_fits}
use Rattle.cleanup.proofs.cleanup_topology.Goals as goal

pub overflow_add-capacity : goal.overflow_add-capacity
overflow_add-capacity c =
    let f = begun_fits _ _ (shaped_yes _ _ (sym c.shaped.ensures ∙ c.if-not-shaped.false)) in
    rw c.limits_of-limits.ensures (omega (arith, f.rows_fit.few, f.vertices_fit.within_vertices, f.vertices_fit.few_vertices))

pub check_rows-requires : goal.check_rows-requires
check_rows-requires c =
    let w = within _ _ (shaped_yes _ _ (sym c.shaped.ensures ∙ c.if-not-shaped.false)) in
    (w.halfedges_thirds, (w.halfedges_lent, w.halfedges_most))

pub clean_at-requires : goal.clean_at-requires
clean_at-requires c =
    let s = c.args in
    let n = net s.halfedges.now s.positions.now s.normals.now s.references.now s.properties.now in
    let o = sound_here s.counts n s.work.now s.list.now (sym c.shaped.ensures ∙ c.if-not-shaped.false) (none_out _ (sym (ap plain_said c.in_ok-check_rows.was) ∙ c.check_rows.ensures)) in
    let t = and2 _ _ (sym c.enough.ensures ∙ c.if-not-enough.false) in
    let u = and2 _ _ t.0 in
    let v = and2 _ _ u.0 in
    ((sound_rows s.counts n o, rw c.limits_of-limits.ensures), ((rw c.limits_of-limits.ensures (begun_fits _ _ o.shaped)), record { halfedges_spared = leb-true _ _ v.0; positions_spared = leb-true _ _ v.1; capacity_long = omega arith; work_long = leb-true _ _ u.1; list_long = leb-true _ _ t.1 }))
