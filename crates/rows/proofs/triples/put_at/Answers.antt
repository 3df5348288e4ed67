-- `rows::triples::put_at` meets its contract: the tail comes back with the row at its front.
use mathlib.Core.List.{[], ◌∷◌}
use Rattle.laws.proofs.Stretches.{put_lent}
use Rattle.rows.specs.Triples.{put_triple}
use Rattle.rows.proofs.triples.put_at.Goals as goal

pub returns : goal.returns
unfolding put_triple
returns c = let p = c.args.p in put_lent _ (p.x ∷ p.y ∷ p.z ∷ []) c.args.rows.now _ c.put_front.ensures
