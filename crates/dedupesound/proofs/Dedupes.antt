-- dedupe_edge's steps at a live half-edge of rows in order: there is no room, or the rows are in order afterwards, with as many half-edges
-- and vertices as are then in use, and what is left is told in words. They never stop.
use mathlib.Core.Path.{◌≡◌, refl, sym, ap, ◌∙◌, subst}
use mathlib.Core.Logic.{◌⊎◌, inl, inr}
use Prim.Native.Nat.{ℕ, ◌+◌, ◌<◌, ◌≤◌}
use native.Mathlib.Omega.{arith}
use borrow.Author.Tests.{eq-eqb}
use lib.IntN.{pos}
use Rattle.numbers.specs.Next.{next}
use Rattle.numbers.proofs.Names.{names_at}
use Rattle.rows.specs.Halfedges.{start_of, end_of}
use Rattle.net.specs.Sound.{start_vertex}
use Rattle.net.proofs.Sound.{live_row}
use Rattle.walks.specs.Way.{move}
use Rattle.growth.specs.declared.Limits.{Limits}
use Rattle.steps.specs.Steps.{begin}
use Rattle.growth.specs.Growth.{Growing, growing, rows_of, copy_round}
use Rattle.searches.specs.Seek.{Place, seek}
use Rattle.dedupe.specs.Dedupe.{stood, at_first, copy_end, second, dedupe_at}
use Rattle.dedupesound.specs.Deduped.{Meets, Alone, Deduped}
use Rattle.dedupesound.specs.Room.{Lacks, no_vertex, no_triangles}
use Rattle.dedupesound.proofs.Sought.{goes_on, Stops, seek_stops, none_but_home}
use Rattle.dedupesound.proofs.Steps.{FanCopied, First, Went, Out, OutWith, lacking, without, lent, no_room_halts, second_halted, copy_left}
use Rattle.dedupesound.proofs.Inserting.{insert_left}
use Rattle.dedupesound.proofs.Second.{second_left}

-- the fan about the end copied, where none but e starts where e does
end_first : (l : Limits) (e v : ℕ) (w after : Growing) → Alone (rows_of w) e → FanCopied v e w after → First l e v w after
end_first l e v w after alone f = record {
  way = inr (record {
    alone = alone;
    used_is = f.used_is;
    relabelled = record {
      these_ends = f.ends;
      these_starts = f.starts;
      those_ends = λ g x. absurd x;
      those_starts = λ g x. absurd x;
      other_ends = λ g b x y. f.other_ends g x;
      other_starts = λ g b x y. f.other_starts g x;
    };
    pairs = f.pairs;
    props = f.props;
    behind = f.behind;
    same_length = f.same_length;
    normals_kept = f.normals_are;
    references_kept = f.references_are;
  });
  vertices_are = f.vertices_are;
  positions_are = f.positions_are;
}

module _ (l : Limits) (e v least : ℕ) (w : Growing) (g : Went l e v least w) (is_v : end_of g.rows e ≡ pos v) where
  abbrev s : ℕ
  s = start_vertex g.rows e

  is_s : start_of g.rows e ≡ pos s
  is_s = (live_row g.H g.N g.rows g.fits.thirds g.in_order g.e_live).start_is

  same_rows : rows_of w ≡ g.rows
  same_rows = ap rows_of g.is

  abbrev now : Growing
  now = growing (begin g.rows g.positions g.N) g.H g.normals g.references

  lacks_here : Lacks l e now → Lacks l e w
  lacks_here k = subst (Lacks l e) (sym g.is) k

  -- about the end
  first_left : (p : Place) → Stops g.H g.N g.rows g.fits.thirds (lent l e v least w g) g.in_order s e (move g.rows e) p →
      OutWith l e v least (Lacks l e w) (First l e v w) (copy_end l v e (at_first l v e w p))
  unfolding copy_end
  first_left p (inl (c, z, m)) = rw z (lacking l e v least (First l e v w) (λ k. lacks_here (lacks k)) (insert_left l e v least w g is_v c meets))
    where
      meets : Meets g.rows e c
      meets = record {
        moves = m.moves;
        there = m.there;
        not_edge = m.not_home;
        same_start = m.starts ∙ sym is_s;
        first = λ k b y. m.first k b (y ∙ is_s);
      }

      lacks : (l.vertices ≤ g.N) ⊎ (l.halfedges < g.H + 6) → Lacks l e now
      lacks (inl b) = no_vertex b
      lacks (inr b) = no_triangles c meets (omega arith)
  first_left p (inr (z, m)) = rw z (ending (copy_left l e v least w g e g.e_live))
    where
      alone : Alone g.rows e
      alone k r y = none_but_home g.H g.N g.rows g.fits.thirds (lent l e v least w g) g.in_order s e m k r (y ∙ is_s)

      ending : OutWith l e v least (l.vertices ≤ g.N) (FanCopied v e w) (copy_round l v (next e) w) → OutWith l e v least (Lacks l e w) (First l e v w) (copy_end l v e (stood w e))
      ending (inl (y, b)) = rw (eq-eqb e e refl) (inl (y, lacks_here (no_vertex b)))
      ending (inr (n, f)) = rw (eq-eqb e e refl) (inr (n, end_first l e v w (copy_round l v (next e) w) (rw same_rows alone) f))

  -- then about the start; where there is no room nothing more is done
  then_second : (w1 : Growing) → OutWith l e v least (Lacks l e w) (First l e v w) w1 → OutWith l e v least (Lacks l e w) (Deduped l e w) (second l v e w1)
  then_second w1 (inl (z, k)) = inl (ap (λ (x : Growing). x.middle.run.how) (second_halted l e v least w1 (no_room_halts w1 z)) ∙ z, k)
  then_second w1 (inr (n, f)) = second_left l e v least w w1 g n is_v f

  -- the whole
  pub dedupe_left : OutWith l e v least (Lacks l e w) (Deduped l e w) (dedupe_at l e w)
  unfolding dedupe_at
  dedupe_left =
      let f = g.fits.thirds in
      let r = live_row g.H g.N g.rows f g.in_order g.e_live in
      let a = names_at (start_of g.rows e) g.N s r.start_is r.start_in in
      let b = names_at (end_of g.rows e) g.N v is_v g.v_in in
      let d = goes_on g.H g.N g.rows f (lent l e v least w g) g.in_order g.e_live in
      let p = seek g.H s e g.rows g.H (move g.rows e) in
      let o = then_second _ (first_left p (seek_stops g.H g.N g.rows f (lent l e v least w g) g.in_order s e g.e_live)) in
      subst (λ (x : Growing). OutWith l e v least (Lacks l e x) (Deduped l e x) (dedupe_at l e x)) (sym g.is)
      (rw (a, b, d) (subst (λ (x : Growing). OutWith l e v least (Lacks l e x) (Deduped l e x) (second l v e (copy_end l v e (at_first l v e x p)))) g.is o))

  pub dedupe_goes : Out l e v least (dedupe_at l e w)
  dedupe_goes = without l e v least (Lacks l e w) (Deduped l e w) dedupe_left
