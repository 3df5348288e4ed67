-- Two results that dedupe_edge's contract allows agree; and past the checks, where it is refused, everything in use is as it was.
use mathlib.Core.Path.{◌≡◌, sym, ap, ◌∙◌}
use mathlib.Core.Bool.{true, cond}
use mathlib.Core.List.{List}
use Prim.Native.Nat.{ℕ, ◌/◌}
use lib.IntN.{ℤ}
use Rattle.std.specs.Prelude.{Result}
use Rattle.refused.specs.declared.Refusal.{Refusal}
use Rattle.rows.specs.Halfedges.{zero_rows}
use Rattle.rows.specs.Triples.{zero_triples, zero_references}
use Rattle.net.specs.declared.Counts.{Counts}
use Rattle.net.specs.Net.{Net}
use Rattle.growth.specs.declared.Limits.{Limits}
use Rattle.growth.specs.Growth.{Growing, halted}
use Rattle.settling.specs.Settling.{begun}
use Rattle.growth.specs.declared.Extent.{Extent}
use Rattle.settling.proofs.Extents.{extent_agree}
use Rattle.dedupe.specs.Dedupe.{dedupe_at}
use Rattle.dedupeedge.specs.DedupeEdge.{Left, left, dedupe_said, dedupe_edge_at, dedupe_edge}

-- 6 or 7: of every array only the free rows that the steps had filled are changed: they read zero
module _ (l : Limits) (H N e : ℕ) (rows : List ℤ) (positions normals : List ℕ) (references spare_halfedges : List ℤ) (spare_positions : List ℕ) where
  abbrev steps : Growing
  steps = dedupe_at l e (begun H N rows positions normals references)

  abbrev after : Left
  after = dedupe_edge_at l H N e rows positions normals references spare_halfedges spare_positions

  pub dedupe_refused : halted steps ≡ true →
      (after.halfedges ≡ zero_rows H steps.used rows)
      × ((after.positions ≡ zero_triples N steps.middle.run.vertices positions)
      × ((after.normals ≡ cond l.normals (zero_triples (H / 3) (steps.used / 3) normals) normals)
      × (after.references ≡ cond l.references (zero_references (H / 3) (steps.used / 3) references) references)))
  unfolding dedupe_edge_at
  dedupe_refused t = (rw t, (rw t, (rw t, rw t)))

pub dedupe_agree : (c : Counts) (n : Net) (spare_halfedges : List ℤ) (spare_positions : List ℕ) (halfedge : ℤ) (a b : Result Extent Refusal) (h h' : List ℤ) (p p' f f' : List ℕ) (r r' s s' : List ℤ) (q q' : List ℕ) →
    left (dedupe_said a) h p f r s q ≡ dedupe_edge c n spare_halfedges spare_positions halfedge → left (dedupe_said b) h' p' f' r' s' q' ≡ dedupe_edge c n spare_halfedges spare_positions halfedge →
    (a ≡ b) × ((h ≡ h') × ((p ≡ p') × ((f ≡ f') × ((r ≡ r') × ((s ≡ s') × (q ≡ q'))))))
dedupe_agree c n spare_halfedges spare_positions halfedge a b h h' p p' f f' r r' s s' q q' x y =
    let e = x ∙ sym y in
    (extent_agree a b (ap (λ (o : Left). o.said) e), (ap (λ (o : Left). o.halfedges) e, (ap (λ (o : Left). o.positions) e, (ap (λ (o : Left). o.normals) e, (ap (λ (o : Left). o.references) e, (ap (λ (o : Left). o.spare_halfedges) e, ap (λ (o : Left). o.spare_positions) e))))))
