-- The entry `split::split_pinched_verts` meets its contract, for every input.
use mathlib.Core.Path.{sym, ap, ◌∙◌}
use native.Mathlib.Omega.{arith}
use Rattle.std.proofs.lemmas.Result.{err_from_is_err_and}
use Rattle.refused.specs.Refused.{plain_said}
use Rattle.net.specs.Net.{net}
use Rattle.net.proofs.Shape.{shaped_yes, within}
use Rattle.splitting.proofs.Net.{sound_rows}
use Rattle.split.proofs.Entry.{none_out, said_shape, said_short, said_refused, said_sound, sound_here}
use Rattle.split.proofs.split_pinched_verts.Goals as goal

pub returns-then-not-shaped : goal.returns-then-not-shaped
returns-then-not-shaped c = said_shape _ _ _ _ (sym c.shaped.ensures ∙ c.if-not-shaped.true)

pub overflow_add-counts : goal.overflow_add-counts
overflow_add-counts c =
    let w = within _ _ (shaped_yes _ _ (sym c.shaped.ensures ∙ c.if-not-shaped.false)) in
    record { fits = omega (arith, w.halfedges_most, w.vertices_most) }

pub returns-then-not-long_enough : goal.returns-then-not-long_enough
returns-then-not-long_enough c =
    said_short _ _ _ _ (sym c.shaped.ensures ∙ c.if-not-shaped.false) (rw (c.long_enough.ensures, c.long_enough-2.ensures) at c.if-not-long_enough.true)

pub check_rows-requires : goal.check_rows-requires
check_rows-requires c =
    let w = within _ _ (shaped_yes _ _ (sym c.shaped.ensures ∙ c.if-not-shaped.false)) in
    (w.halfedges_thirds, (w.halfedges_lent, w.halfedges_most))

pub returns-in_err-check_rows : goal.returns-in_err-check_rows
returns-in_err-check_rows c =
    let p = err_from_is_err_and c.from_residual.result c.from_residual.ensures.1 in
    rw (p.1, p.2)
    (said_refused _ _ _ _ (sym c.shaped.ensures ∙ c.if-not-shaped.false) (rw (c.long_enough.ensures, c.long_enough-2.ensures) at c.if-not-long_enough.false) _ c.in_err-check_rows.ensures)

pub split_sound-requires-clause-sound : goal.split_sound-requires-clause-sound
split_sound-requires-clause-sound c =
    sound_rows _ _
    (sound_here c.args.counts (net c.args.halfedges.now c.args.positions.now c.args.normals.now c.args.references.now c.args.properties.now) c.args.work.now c.args.visit.now (sym c.shaped.ensures ∙ c.if-not-shaped.false)
    (none_out _ (sym (ap plain_said c.in_ok-check_rows.was) ∙ c.check_rows.ensures)))

pub split_sound-requires-clause-vertices_fit : goal.split_sound-requires-clause-vertices_fit
split_sound-requires-clause-vertices_fit c = (shaped_yes _ _ (sym c.shaped.ensures ∙ c.if-not-shaped.false)).vertices_fit

pub returns : goal.returns
returns c =
    c.split_sound.ensures
    ∙ said_sound _ _ _ _ (sym c.shaped.ensures ∙ c.if-not-shaped.false) (rw (c.long_enough.ensures, c.long_enough-2.ensures) at c.if-not-long_enough.false)
    (none_out _ (sym (ap plain_said c.in_ok-check_rows.was) ∙ c.check_rows.ensures))
