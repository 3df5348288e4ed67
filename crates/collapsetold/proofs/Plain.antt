-- Where no loop is formed the loop about the start carries props along its walk, and leaves all else as it was.
use mathlib.Core.Path.{◌≡◌, refl, ◌∙◌}
use mathlib.Core.Bool.{Bool, true, false, ◌||◌, true≢false}
use mathlib.Core.List.{List}
use Prim.Native.Nat.{ℕ, zero, suc, ◌%◌, ◌/◌, ◌<◌, ◌≤◌}
use lib.Dec.{eqb}
use lib.IntN.{ℤ}
use lib.ListN.{get_or}
use Rattle.laws.proofs.Tests.{by_test}
use Rattle.numbers.specs.Numbers.{Named, at, nothing, names, named_or, is_named}
use Rattle.numbers.specs.Next.{next}
use Rattle.numbers.proofs.Names.{names_at}
use Rattle.rows.specs.Halfedges.{Column, prop, offset, column, start_of, end_of, pair_of, prop_of}
use Rattle.rows.proofs.Columns.{other_column}
use Rattle.rows.specs.Triples.{put_triple, reference, same_face}
use Rattle.net.specs.Counts.{most_vertices}
use Rattle.net.specs.Sound.{start_vertex, partner, InOrder, Live}
use Rattle.net.proofs.Sound.{live_row, partner_live}
use Rattle.steps.specs.Steps.{Middle, begin, refused, with_rows}
use Rattle.triangles.specs.Triangles.{collapsed, collapse}
use Rattle.triangles.proofs.Told.{collapse_goes}
use Rattle.folds.specs.Folds.{nan, lose}
use Rattle.loops.specs.Loops.{loop_at}
use Rattle.rings.specs.Ring.{find}
use Rattle.carrying.specs.Carried.{carried}
use Rattle.spinning.specs.Spin.{Fixed, out, on, formed, turn_at, turn_once, Spun, spun, after, tired, inner, spin}
use Rattle.collapsetold.specs.Plain.{carry, along, meets, Plain}

or_false : (a b : Bool) → a || b ≡ false → (a ≡ false) × (b ≡ false)
or_false true b e = absurd (true≢false e)
or_false false b e = (refl, e)

not_named : (w : Named) → is_named w ≡ false → w ≡ nothing
not_named (at k) e = absurd (true≢false e)
not_named nothing e = refl

module _ (s : Fixed) (anew : Middle → ℕ → ℕ → Spun) where
  inner_plain : (n start len c : ℕ) (m : Middle) → refused m ≡ false → meets s len n c m.halfedges ≡ false → Plain s n c start m (inner anew s n start len c m)
  unfolding inner tired meets along turn_once turn_at
  inner_plain zero start len c m g e =
      by_test (refused m) (λ t. rw t (record { starts = refl; rows = refl; positions = refl; vertices = refl }))
      (λ t. rw t (by_test (eqb c (next (next s.edge))) (λ u. rw u (record { starts = refl; rows = refl; positions = refl; vertices = refl })) (λ u. rw u (record { starts = refl; rows = refl; positions = refl; vertices = refl }))))
  inner_plain (suc n) start len c m g e =
      by_test (eqb c (next (next s.edge)))
      (λ u. rw (g, u) (record { starts = refl; rows = rw u; positions = refl; vertices = refl }))
      (λ u. rw (g, u) (go u (names (pair_of (carry s c m.halfedges) (next c)) s.halfedges) refl (rw u at e) (λ q d. inner_plain n start len q (with_rows (carry s c m.halfedges) m) g d)))
    where
      go : eqb c (next (next s.edge)) ≡ false → (w : Named) → names (pair_of (carry s c m.halfedges) (next c)) s.halfedges ≡ w →
          named_or false w (λ q. is_named (find (carry s c m.halfedges) (end_of (carry s c m.halfedges) (next c)) s.list 0 len) || meets s len n q (carry s c m.halfedges)) ≡ false →
          ((q : ℕ) → meets s len n q (carry s c m.halfedges) ≡ false → Plain s n q start (with_rows (carry s c m.halfedges) m) (inner anew s n start len q (with_rows (carry s c m.halfedges) m))) →
          Plain s (suc n) c start m
          (after start
          (named_or (out (with_rows (carry s c m.halfedges) m)) w (λ q.
          named_or (on (with_rows (carry s c m.halfedges) m) q) (find (carry s c m.halfedges) (end_of (carry s c m.halfedges) (next c)) s.list 0 len) (λ k.
          formed (loop_at s.halfedges s.capacity (get_or s.list k 0) (next c) (with_rows (carry s c m.halfedges) m)) q k)))
          (λ k q. inner anew s n start len q k) anew)
      go u nothing w d again = record { starts = refl; rows = rw (u, w); positions = refl; vertices = refl }
      go u (at q) w d again =
          let o = or_false (is_named (find (carry s c m.halfedges) (end_of (carry s c m.halfedges) (next c)) s.list 0 len)) (meets s len n q (carry s c m.halfedges)) d in
          let p = again q o.1 in
          rw (not_named (find (carry s c m.halfedges) (end_of (carry s c m.halfedges) (next c)) s.list 0 len) o.0)
          (record { starts = p.starts; rows = p.rows ∙ rw (u, w); positions = p.positions; vertices = p.vertices })

pub spin_plain : (s : Fixed) (r n start len c : ℕ) (m : Middle) → refused m ≡ false → meets s len n c m.halfedges ≡ false → Plain s n c start m (spin r s n start len c m)
unfolding spin
spin_plain s zero n start len c m g e = inner_plain s (λ k q j. spun k q) n start len c m g e
spin_plain s (suc r) n start len c m g e = inner_plain s (λ k q j. spin r s s.halfedges q j q k) n start len c m g e

-- what stays the same in a collapse of e with this list
abbrev pub around : ℕ → ℕ → Bool → List ℤ → ℕ → ℕ → List ℕ → Fixed
around H capacity props references e p l = record { halfedges = H; capacity = capacity; props = props; references = references; edge = e; partner = p; list = l }

-- on rows in order and at a live edge the steps before the loop go on: the start's position is NaN, and the partner's triangle is taken out,
-- its outer partners joined
pub begun_told : (H N : ℕ) (R : List ℤ) (P : List ℕ) → H % 3 ≡ 0 → N ≤ most_vertices → ((h : ℕ) → h < H → InOrder H N R h) → (e : ℕ) → Live H R e →
    collapse H (partner R e) (lose e (begin R P N))
    ≡ begin (collapsed (partner R e) (partner R (next (partner R e))) (partner R (next (next (partner R e)))) R) (put_triple (start_vertex R e) nan P) N
unfolding lose
begun_told H N R P thirds few in_order e l =
    let r = live_row H N R thirds in_order l in
    rw (names_at (start_of R e) N (start_vertex R e) r.start_is r.start_in)
    (collapse_goes H N (begin R (put_triple (start_vertex R e) nan P) N) thirds in_order (partner R e) (partner_live H N R thirds in_order l) refl)

-- the walk writes no number but props: every start, end and pair is as it was
pub carried_other : (d : Column) → (offset d ≡ offset prop → ⊥) → (props : Bool) (references : List ℤ) (e p h g : ℕ) (l : List ℤ) → column d (carried props references e p h l) g ≡ column d l g
unfolding carried
carried_other d o false references e p h g l = refl
carried_other d o true references e p h g l =
    by_test (same_face (reference references (h / 3)) (reference references (e / 3)))
    (λ t. rw t (other_column d prop h g (prop_of l (next e)) l o))
    (λ t. rw t (by_test (same_face (reference references (h / 3)) (reference references (p / 3))) (λ u. rw u (other_column d prop h g (prop_of l p) l o)) (λ u. rw u)))

pub along_other : (s : Fixed) (d : Column) → (offset d ≡ offset prop → ⊥) → (n c : ℕ) (l : List ℤ) (g : ℕ) → column d (along s n c l) g ≡ column d l g
unfolding along
along_other s d o zero c l g = refl
along_other s d o (suc n) c l g =
    by_test (eqb c (next (next s.edge))) (λ t. rw t) (λ t. rw t (go (names (pair_of (carry s c l) (next c)) s.halfedges) (λ q. along_other s d o n q (carry s c l) g)))
  where
    go : (w : Named) → ((q : ℕ) → column d (along s n q (carry s c l)) g ≡ column d (carry s c l) g) → column d (named_or (carry s c l) w (λ q. along s n q (carry s c l))) g ≡ column d l g
    go nothing again = carried_other d o s.props s.references s.edge s.partner (next c) g l
    go (at q) again = again q ∙ carried_other d o s.props s.references s.edge s.partner (next c) g l
