-- `rows::triples::put_reference_front` meets its contract: three writes from the front on.
use mathlib.Core.List.{[], ◌∷◌}
use native.Mathlib.Omega.{arith}
use lib.ListN.{length-set}
use mir.Syntax.{w32}
use Rattle.laws.proofs.Integers.{bits_back}
use Rattle.laws.proofs.Stretches.{sets_put}
use Rattle.rows.specs.Triples.{put_reference}
use Rattle.rows.proofs.triples.put_reference_front.Goals as goal

pub bounds-free-1 : goal.bounds-free-1
bounds-free-1 c = simp length-set (omega arith)

pub returns : goal.returns
unfolding put_reference
returns c =
    let r = c.args.r in
    let told = c.struct_told-1.given in
    rw (bits_back w32 r.mesh told.0.1, bits_back w32 r.coplanar told.1.0.1, bits_back w32 r.face told.1.1.0.1)
    (sets_put 0 (r.mesh ∷ r.coplanar ∷ r.face ∷ []) c.args.free.now c.requires)
