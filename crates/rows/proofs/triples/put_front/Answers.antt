-- `rows::triples::put_front` meets its contract: three writes from the front on.
use mathlib.Core.List.{[], ◌∷◌}
use native.Mathlib.Omega.{arith}
use lib.ListN.{length-set}
use Rattle.laws.proofs.Stretches.{sets_put}
use Rattle.rows.specs.Triples.{put_triple}
use Rattle.rows.proofs.triples.put_front.Goals as goal

pub bounds-free-1 : goal.bounds-free-1
bounds-free-1 c = simp length-set (omega arith)

pub returns : goal.returns
unfolding put_triple
returns c = let p = c.args.p in sets_put 0 (p.x ∷ p.y ∷ p.z ∷ []) c.args.free.now c.requires
