-- `rows::triples::append_reference` meets its contract: the tail comes back with the row at its front.
use mathlib.Core.List.{[], ◌∷◌}
use Rattle.laws.proofs.Stretches.{put_lent}
use Rattle.rows.specs.Triples.{put_reference}
use Rattle.rows.proofs.triples.append_reference.Goals as goal

pub returns : goal.returns
unfolding put_reference
returns c = let r = c.args.r in put_lent _ (r.mesh ∷ r.coplanar ∷ r.face ∷ []) c.args.rows.now _ c.put_reference_front.ensures
