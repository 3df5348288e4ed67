-- Two results that cleanup_topology's contract allows agree; past the checks, where it is refused, everything in use is as it was; and a
-- net without half-edges is done, with nothing in use changed.
use mathlib.Core.Path.{◌≡◌, refl, sym, ◌∙◌, subst}
use mathlib.Core.Bool.{Bool, true, cond}
use mathlib.Core.List.{List, [], ◌∷◌}
use Prim.Native.Nat.{ℕ, ◌+◌, ◌-◌, ◌/◌}
use native.Mathlib.Nat.{add-zero}
use native.Mathlib.Omega.{arith}
use borrow.Author.Tests.{le-leb}
use lib.IntN.{ℤ, pos}
use Rattle.answers.specs.Answers.{whole, done}
use Rattle.std.specs.Prelude.{Result}
use Rattle.refused.specs.declared.Refusal.{Refusal}
use Rattle.laws.specs.Stretches.{cleared}
use Rattle.numbers.specs.Numbers.{nothing}
use Rattle.rows.specs.Halfedges.{zero_rows, over_rows}
use Rattle.rows.specs.Triples.{zero_triples, zero_references, over_triples}
use Rattle.net.specs.declared.Counts.{Counts}
use Rattle.net.specs.Net.{Net}
use Rattle.net.specs.Counts.{is_shaped, vertex_capacity_over}
use Rattle.rowtests.specs.Order.{in_order, first_failing}
use Rattle.splitting.specs.Steps.{count_rows, split_rows}
use Rattle.splitting.specs.Split.{split_sound}
use Rattle.growth.specs.declared.Limits.{Limits}
use Rattle.growth.specs.Growth.{Growing, halted}
use Rattle.settling.specs.Settling.{limits_of}
use Rattle.rounds.specs.Rounds.{rounds}
use Rattle.dedupeedges.specs.DedupeEdges.{Left, left, lent_enough}
use Rattle.dedupeedges.proofs.Told.{same_left}
use Rattle.growth.specs.declared.Extent.{Extent}
use Rattle.settling.proofs.Extents.{extent_agree}
use Rattle.cleanup.specs.Cleanup.{cleanup_said, after_split, clean_at, cleanup_topology}

-- 6 or 7: of every array only the free rows that the steps had filled are changed: they read zero
module _ (l : Limits) (H N : ℕ) (rows : List ℤ) (positions normals : List ℕ) (references spare_halfedges : List ℤ) (spare_positions work list : List ℕ) where
  abbrev steps : Growing
  steps = (rounds l H (after_split l H N normals references (split_sound H N rows positions work list))).growing

  abbrev after : Left
  after = clean_at l H N rows positions normals references spare_halfedges spare_positions work list

  pub cleanup_refused : halted steps ≡ true →
      (after.halfedges ≡ zero_rows H steps.used rows)
      × ((after.positions ≡ zero_triples N steps.middle.run.vertices positions)
      × ((after.normals ≡ cond l.normals (zero_triples (H / 3) (steps.used / 3) normals) normals)
      × (after.references ≡ cond l.references (zero_references (H / 3) (steps.used / 3) references) references)))
  unfolding clean_at
  cleanup_refused t = (rw t, (rw t, (rw t, rw t)))

-- a net without half-edges: 0 with no half-edge and the vertices in use, every array as it was, the spare with the positions, the buffers zero
module _ (l : Limits) (N : ℕ) (rows : List ℤ) (positions normals : List ℕ) (references spare_halfedges : List ℤ) (spare_positions work list : List ℕ) where
  abbrev unchanged : Left
  unchanged =
      left (done (whole (pos 0) ∷ whole (pos N) ∷ [])) rows positions normals references spare_halfedges (over_triples N positions spare_positions) (cleared (l.halfedges + N) work) (cleared l.halfedges list)

  empty_done : clean_at l 0 N rows positions normals references spare_halfedges spare_positions work list ≡ unchanged
  unfolding clean_at split_sound count_rows split_rows rounds over_rows
  empty_done = rw (le-leb 0 (vertex_capacity_over positions - N) (omega arith), add-zero N)

  none_done : (H : ℕ) → H ≡ 0 → clean_at l H N rows positions normals references spare_halfedges spare_positions work list ≡ unchanged
  none_done H z = subst (λ (k : ℕ). clean_at l k N rows positions normals references spare_halfedges spare_positions work list ≡ unchanged) (sym z) empty_done

none_out : (f : ℕ → Bool) (H : ℕ) → H ≡ 0 → first_failing f H 0 ≡ nothing
unfolding first_failing
none_out f H z = subst (λ (k : ℕ). first_failing f k 0 ≡ nothing) (sym z) refl

pub cleanup_empty : (c : Counts) (n : Net) (spare_halfedges : List ℤ) (spare_positions work list : List ℕ) → c.halfedges ≡ 0 → is_shaped c n ≡ true →
    lent_enough c (limits_of c n).halfedges ((limits_of c n).halfedges + c.vertices) spare_halfedges spare_positions work list ≡ true →
    cleanup_topology c n spare_halfedges spare_positions work list ≡ unchanged (limits_of c n) c.vertices n.halfedges n.positions n.normals n.references spare_halfedges spare_positions work list
unfolding cleanup_topology
cleanup_empty c n spare_halfedges spare_positions work list z s e =
    rw (s, e, none_out (in_order c.halfedges c.vertices n.halfedges) c.halfedges z)
    (none_done (limits_of c n) c.vertices n.halfedges n.positions n.normals n.references spare_halfedges spare_positions work list c.halfedges z)

pub cleanup_agree : (c : Counts) (n : Net) (spare_halfedges : List ℤ) (spare_positions work list : List ℕ) (a b : Result Extent Refusal) (h h' : List ℤ) (p p' f f' : List ℕ) (r r' s s' : List ℤ) (q q' w w' l l' : List ℕ) →
    left (cleanup_said a) h p f r s q w l ≡ cleanup_topology c n spare_halfedges spare_positions work list → left (cleanup_said b) h' p' f' r' s' q' w' l' ≡ cleanup_topology c n spare_halfedges spare_positions work list →
    (a ≡ b) × ((h ≡ h') × ((p ≡ p') × ((f ≡ f') × ((r ≡ r') × ((s ≡ s') × ((q ≡ q') × ((w ≡ w') × (l ≡ l'))))))))
cleanup_agree c n spare_halfedges spare_positions work list a b h h' p p' f f' r r' s s' q q' w w' l l' x y =
    let e = same_left (x ∙ sym y) in (extent_agree a b e.0, e.1)
