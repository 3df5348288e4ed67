-- dedupe_edge's steps on rows in order: there is no room, or the rows are in order afterwards. They never stop.
use mathlib.Core.Path.{◌≡◌, refl, sym, ap, ◌∙◌, subst}
use mathlib.Core.Bool.{true, false}
use mathlib.Core.List.{List}
use mathlib.Core.Logic.{◌⊎◌, inl, inr}
use Prim.Native.Nat.{ℕ, ◌+◌, ◌%◌, ◌<◌, ◌≤◌}
use native.Mathlib.Omega.{arith}
use borrow.Author.Tests.{leb-true, leb-false}
use lib.Dec.{leb, eqb}
use lib.IntN.{ℤ, pos}
use lib.ListN.{length}
use Rattle.laws.proofs.Tests.{by_test}
use Rattle.numbers.specs.Next.{next}
use Rattle.numbers.proofs.Names.{names_at}
use Rattle.rows.specs.Halfedges.{pair, prop, start_of, end_of, pair_of, prop_of, lent_halfedges, rows_from}
use Rattle.rows.specs.Triples.{triple, put_triple}
use Rattle.rows.proofs.Threes.{length_put}
use Rattle.net.specs.Sound.{partner, InOrder, Live}
use Rattle.net.proofs.Sound.{live_row, next_live, partner_live}
use Rattle.steps.specs.Steps.{is_refused, NoRoom, begin}
use Rattle.walks.specs.Walk.{onward, moved, walk_to, update}
use Rattle.walks.specs.Way.{move, Reached}
use Rattle.walks.proofs.Kept.{length_moved, moved_below, other_moved, length_walk, walk_below, other_walk}
use Rattle.walks.proofs.Told.{AsTold, moving, move_live, moved_end, moved_start, unmoved_end, unmoved_start, walk_there, walk_told, reach_soon}
use Rattle.loops.specs.Loops.{append}
use Rattle.turning.proofs.Orbit.{reach_trans, reach_sym}
use Rattle.growth.specs.declared.Limits.{Limits}
use Rattle.growth.specs.Growth.{Growing, growing, rows_of, Fits, FacesFit, VerticesFit, halted, relabel, copy_of, copy_round}
use Rattle.dedupesound.specs.Deduped.{Nobody, Inserted, EndCopied}
use Rattle.dedupesound.proofs.Copied.{Moved, copied, fan_told, others_told}
use Rattle.dedupe.specs.Dedupe.{stood, copy_end, second}

-- one fan relabelled, on rows in order
module _ (H N : ℕ) (rows : List ℤ) (thirds : H % 3 ≡ 0) (lent : H ≤ lent_halfedges rows) (in_order : (h : ℕ) → h < H → InOrder H N rows h) (h : ℕ) (lh : Live H rows h) where
  abbrev p : ℕ
  p = partner rows h

  lp : Live H rows p
  lp = partner_live H N rows thirds in_order lh

  abbrev q : ℕ
  q = move rows p

  lq : Live H rows q
  lq = move_live H N rows thirds lent in_order lp

  abbrev rows0 : List ℤ
  rows0 = moved N p rows

  len0 : length rows0 ≡ length rows
  len0 = length_moved N p rows

  pairs0 : (g : ℕ) → pair_of rows0 g ≡ pair_of rows g
  pairs0 g = other_moved N p rows pair (λ z. omega arith) (λ z. omega arith) g

  abbrev round : List ℤ
  round = (walk_to H H N q p rows0).rows

  there : (walk_to H H N q p rows0).there ≡ true
  there =
      walk_there H N rows thirds lent in_order N p H q rows0 lq pairs0
      ∙ reach_soon H N rows thirds lent in_order q p lq (reach_sym (moving H N rows thirds lent in_order) lp (1, refl))

  first : Moved H N p rows rows0
  first =
      let b = lp.in_use in
      let d = (next_live H N rows thirds in_order lp).in_use in
      record {
        end_moved = moved_end N p rows (omega (arith, b));
        start_moved = moved_start N p rows (omega (arith, d));
        ends = λ g n. unmoved_end N p rows g n;
        starts = λ g n. unmoved_start N p rows g n;
      }

  pairs : (g : ℕ) → pair_of round g ≡ pair_of rows g
  pairs g = other_walk H N p H rows0 q lq.in_use pair (λ z. omega arith) (λ z. omega arith) g ∙ pairs0 g

  told : (g : ℕ) → AsTold H N rows thirds lent in_order N q p rows0 round g
  told = (walk_told H N rows thirds lent in_order N q p rows0 lq pairs0 len0 there).1

  pub round_length : length round ≡ length rows
  round_length = length_walk H N p H rows0 q lq.in_use ∙ len0

  pub round_in_order : (g : ℕ) → g < H → InOrder H (N + 1) round g
  round_in_order = copied H N rows thirds lent in_order p lp rows0 round first told pairs

  pub round_told : (g : ℕ) → Reached rows p g → (end_of round g ≡ pos N) × (start_of round (next g) ≡ pos N)
  round_told = fan_told H N rows thirds lent in_order p lp rows0 round first told pairs

  pub round_others : (g : ℕ) → (Reached rows p g → ⊥) → (end_of round g ≡ end_of rows g) × (start_of round (next g) ≡ start_of rows (next g))
  round_others = others_told H N rows thirds lent in_order p lp rows0 round first told pairs

  pub round_pairs : (g : ℕ) → pair_of round g ≡ pair_of rows g
  round_pairs g = pairs g

  pub round_props : (g : ℕ) → prop_of round g ≡ prop_of rows g
  round_props g =
      other_walk H N p H rows0 q lq.in_use prop (λ z. omega arith) (λ z. omega arith) g
      ∙ other_moved N p rows prop (λ z. omega arith) (λ z. omega arith) g

  pub round_behind : rows_from H round ≡ rows_from H rows
  round_behind = walk_below H N p H rows0 q lq.in_use thirds ∙ moved_below N p rows H thirds lp.in_use

  pub round_live : {g : ℕ} → Live H rows g → Live H round g
  round_live {g} l = record { in_use = l.in_use; paired = rw (pairs g) l.paired }

  pub relabel_goes : (positions : List ℕ) (k : ℕ) → relabel H N h (begin rows positions k) ≡ begin round positions k
  unfolding relabel update onward
  relabel_goes positions k =
      let a = names_at (pair_of rows h) H p lh.paired (live_row H N rows thirds in_order lh).pair_in in
      let n = next_live H N rows thirds in_order lp in
      let b = names_at (pair_of rows0 (next p)) H q (pairs0 (next p) ∙ n.paired) (live_row H N rows thirds in_order n).pair_in in
      rw (a, b, there)

-- no room: nothing more is done
pub no_room_halts : (w : Growing) → w.middle.run.how ≡ NoRoom → halted w ≡ true
no_room_halts w z = ap is_refused z

copy_round_halted : (l : Limits) (v h : ℕ) (w : Growing) → halted w ≡ true → copy_round l v h w ≡ w
unfolding copy_round copy_of relabel
copy_round_halted l v h w t = rw (t, t)

-- a copy of v set about the end of a, in words: all to which the moves from a come end there, and their nexts start there
pub record FanCopied (v a : ℕ) (w after : Growing) : Type 0 where
  pub ends : (g : ℕ) → Reached (rows_of w) a g → end_of (rows_of after) g ≡ pos w.middle.run.vertices
  pub starts : (g : ℕ) → Reached (rows_of w) a g → start_of (rows_of after) (next g) ≡ pos w.middle.run.vertices
  pub other_ends : (g : ℕ) → (Reached (rows_of w) a g → ⊥) → end_of (rows_of after) g ≡ end_of (rows_of w) g
  pub other_starts : (g : ℕ) → (Reached (rows_of w) a g → ⊥) → start_of (rows_of after) (next g) ≡ start_of (rows_of w) (next g)
  pub pairs : (g : ℕ) → pair_of (rows_of after) g ≡ pair_of (rows_of w) g
  pub props : (g : ℕ) → prop_of (rows_of after) g ≡ prop_of (rows_of w) g
  pub behind : rows_from w.used (rows_of after) ≡ rows_from w.used (rows_of w)
  pub same_length : length (rows_of after) ≡ length (rows_of w)
  pub used_is : after.used ≡ w.used
  pub vertices_are : after.middle.run.vertices ≡ w.middle.run.vertices + 1
  pub positions_are : after.middle.positions ≡ put_triple w.middle.run.vertices (triple w.middle.positions v) w.middle.positions
  pub normals_are : after.normals ≡ w.normals
  pub references_are : after.references ≡ w.references

-- what is left past the search about the end: triangles inserted, or the end copied; one copy of v behind the vertices
pub record First (l : Limits) (e v : ℕ) (w after : Growing) : Type 0 where
  pub way : ((c : ℕ) × Inserted l e w after c Nobody) ⊎ EndCopied l e w after Nobody
  pub vertices_are : after.middle.run.vertices ≡ w.middle.run.vertices + 1
  pub positions_are : after.middle.positions ≡ put_triple w.middle.run.vertices (triple w.middle.positions v) w.middle.positions

module _ (l : Limits) (e v least : ℕ) where
  -- rows in order, at least so many, with e live and v a vertex in use, and the steps go on
  pub record Went (w : Growing) : Type 0 where
    pub rows : List ℤ
    pub positions : List ℕ
    pub N : ℕ
    pub H : ℕ
    pub normals : List ℕ
    pub references : List ℤ
    pub is : w ≡ growing (begin rows positions N) H normals references
    pub fits : Fits l H rows
    pub vertices_fit : VerticesFit l N positions
    pub faces_fit : FacesFit l normals references
    pub in_order : (h : ℕ) → h < H → InOrder H N rows h
    pub e_live : Live H rows e
    pub v_in : v < N
    pub above : least ≤ H

  abbrev pub Out : Growing → Type 0
  Out w = (w.middle.run.how ≡ NoRoom) ⊎ Went w

  -- the same, with what room is lacking, or what is left in words
  abbrev pub OutWith : Type 0 → (Growing → Type 0) → Growing → Type 0
  OutWith lack P w = ((w.middle.run.how ≡ NoRoom) × lack) ⊎ (Went w × P w)

  pub lacking : {lack more : Type 0} (P : Growing → Type 0) {w : Growing} → (lack → more) → OutWith lack P w → OutWith more P w
  lacking P f (inl (z, k)) = inl (z, f k)
  lacking P f (inr o) = inr o

  pub without : (lack : Type 0) (P : Growing → Type 0) {w : Growing} → OutWith lack P w → Out w
  without lack P (inl z) = inl z.0
  without lack P (inr (n, k)) = inr n

  -- a copy of v on the fan of a live half-edge
  module _ (w : Growing) (g : Went w) where
    abbrev H : ℕ
    H = g.H

    abbrev N : ℕ
    N = g.N

    pub lent : H ≤ lent_halfedges g.rows
    lent = let f = g.fits in omega (arith, f.within_capacity, f.lent)

    abbrev now : Growing
    now = growing (begin g.rows g.positions N) H g.normals g.references

    copy_full : (h : ℕ) → leb l.vertices N ≡ true → (copy_round l v h now).middle.run.how ≡ NoRoom
    unfolding copy_round copy_of append relabel
    copy_full h t = rw t

    same_fits : {after : List ℤ} → length after ≡ length g.rows → Fits l H after
    same_fits {after} z = let f = g.fits in record { thirds = f.thirds; capacity_thirds = f.capacity_thirds; within_capacity = f.within_capacity; lent = rw z f.lent; few = f.few }

    -- about the end of a
    module _ (a : ℕ) (la : Live H g.rows a) where
      l1 : Live H g.rows (next a)
      l1 = next_live H N g.rows g.fits.thirds g.in_order la

      abbrev rows1 : List ℤ
      rows1 = round H N g.rows g.fits.thirds lent g.in_order (next a) l1

      abbrev positions1 : List ℕ
      positions1 = put_triple N (triple g.positions v) g.positions

      -- the moves from a and from where it moves to come to the same
      from_a : {k : ℕ} → Reached g.rows a k → Reached g.rows (move g.rows a) k
      from_a r = reach_trans (move g.rows) (reach_sym (moving H N g.rows g.fits.thirds lent g.in_order) la (1, refl)) r

      to_a : {k : ℕ} → Reached g.rows (move g.rows a) k → Reached g.rows a k
      to_a r = reach_trans (move g.rows) (1, refl) r

      module _ (t : leb l.vertices N ≡ false) where
        copy_is : copy_round l v (next a) now ≡ growing (begin rows1 positions1 (N + 1)) H g.normals g.references
        unfolding copy_round copy_of append
        copy_is = rw (t, relabel_goes H N g.rows g.fits.thirds lent g.in_order (next a) l1 _ _)

        below : N < l.vertices
        below = leb-false l.vertices N t

        lent_there : length positions1 ≡ length g.positions
        lent_there = length_put N (triple g.positions v) g.positions (let r = g.vertices_fit in omega (arith, below, r.vertices_lent))

        copy_went : Went (copy_round l v (next a) now)
        copy_went = record {
          rows = rows1;
          positions = positions1;
          N = N + 1;
          H = H;
          normals = g.normals;
          references = g.references;
          is = copy_is;
          fits = same_fits (round_length H N g.rows g.fits.thirds lent g.in_order (next a) l1);
          vertices_fit = let r = g.vertices_fit in record { within_vertices = omega (arith, below); vertices_lent = rw lent_there r.vertices_lent; few_vertices = r.few_vertices };
          faces_fit = g.faces_fit;
          in_order = round_in_order H N g.rows g.fits.thirds lent g.in_order (next a) l1;
          e_live = round_live H N g.rows g.fits.thirds lent g.in_order (next a) l1 g.e_live;
          v_in = let b = g.v_in in omega arith;
          above = g.above;
        }

        copy_words : FanCopied v a now (copy_round l v (next a) now)
        copy_words = rw copy_is (record {
          ends = λ k r. (round_told H N g.rows g.fits.thirds lent g.in_order (next a) l1 k (from_a r)).0;
          starts = λ k r. (round_told H N g.rows g.fits.thirds lent g.in_order (next a) l1 k (from_a r)).1;
          other_ends = λ k n. (round_others H N g.rows g.fits.thirds lent g.in_order (next a) l1 k (λ r. n (to_a r))).0;
          other_starts = λ k n. (round_others H N g.rows g.fits.thirds lent g.in_order (next a) l1 k (λ r. n (to_a r))).1;
          pairs = round_pairs H N g.rows g.fits.thirds lent g.in_order (next a) l1;
          props = round_props H N g.rows g.fits.thirds lent g.in_order (next a) l1;
          behind = round_behind H N g.rows g.fits.thirds lent g.in_order (next a) l1;
          same_length = round_length H N g.rows g.fits.thirds lent g.in_order (next a) l1;
          used_is = refl;
          vertices_are = refl;
          positions_are = refl;
          normals_are = refl;
          references_are = refl;
        })

      pub copy_left : OutWith (l.vertices ≤ N) (FanCopied v a w) (copy_round l v (next a) w)
      copy_left =
          subst (λ (x : Growing). OutWith (l.vertices ≤ N) (FanCopied v a x) (copy_round l v (next a) x)) (sym g.is)
          (by_test (leb l.vertices N) (λ t. inl (copy_full (next a) t, leb-true l.vertices N t)) (λ t. inr (copy_went t, copy_words t)))

  pub second_halted : (w : Growing) → halted w ≡ true → second l v e w ≡ w
  unfolding second
  second_halted w t = rw t

  pub end_halted : (w : Growing) (h : ℕ) → halted w ≡ true → copy_end l v e (stood w h) ≡ w
  unfolding copy_end
  end_halted w h t = by_test (eqb h e) (λ z. rw z (copy_round_halted l v (next h) w t)) (λ z. rw z)
