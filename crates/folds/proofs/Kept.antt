-- What the step of remove_if_folded leaves alone, on any rows: the free rows. It writes rows and positions in use only.
use mathlib.Core.Path.{◌≡◌, refl, ◌∙◌}
use mathlib.Core.Bool.{Bool, cond, ◌&&◌, ◌||◌, not}
use mathlib.Core.List.{List}
use Prim.Native.Nat.{ℕ, ◌%◌, ◌<◌, ◌≤◌}
use native.Mathlib.Omega.{arith}
use lib.IntN.{ℤ}
use lib.ListN.{length}
use Rattle.laws.specs.Integers.{eq_z}
use Rattle.laws.proofs.Tests.{by_test}
use Rattle.numbers.specs.Numbers.{Named, at, nothing, names, named_or}
use Rattle.numbers.specs.Next.{next}
use Rattle.numbers.proofs.Names.{names_below}
use Rattle.rows.specs.Halfedges.{prop, start_of, end_of, pair_of, none, is_paired, is_started, lent_halfedges, rows_from}
use Rattle.rows.specs.Triples.{lent_triples, put_triple}
use Rattle.rows.proofs.Columns.{empty_below, length_empty, written_below, length_written}
use Rattle.rows.proofs.Threes.{put_below, length_put}
use Rattle.pairing.specs.Pairing.{paired}
use Rattle.pairing.proofs.Told.{paired_up}
use Rattle.steps.specs.Steps.{Middle, refused, Stopped, ended, with_positions}
use Rattle.steps.proofs.Frame.{Frame, frame_same, frame_trans, frame_step, frame_cond, frame_named, frame_rows, frame_ended, frame_positions}
use Rattle.triangles.proofs.Parts.{second_in, third_in}
use Rattle.folds.specs.Folds.{nan, lose, lose_folded, has_pair, outer_paired, join, gone_row, clear, take_out, fold_at, fold}

-- the vertices in use are lent
abbrev pub Fits : Middle → Type 0
Fits m = m.run.vertices ≤ lent_triples m.positions

pub length_gone : (h : ℕ) (l : List ℤ) → length (gone_row h l) ≡ length l
unfolding gone_row
length_gone h l = length_written prop h _ _ ∙ length_empty h l

module _ {H : ℕ} where
  -- the start of a row is lost
  pub lose_keeps : (h : ℕ) (m : Middle) → Fits m → Frame H m (lose h m) × Fits (lose h m)
  unfolding lose
  lose_keeps h m fit = by_test (refused m) (λ t. rw t (frame_same m, fit)) (λ t. rw t (go (names (start_of m.halfedges h) m.run.vertices) refl))
    where
      in_use : (v : ℕ) → v < m.run.vertices → Frame H m (with_positions (put_triple v nan m.positions) m) × Fits (with_positions (put_triple v nan m.positions) m)
      in_use v n =
          let room : v < lent_triples m.positions = omega arith in
          let len = length_put v nan m.positions room in
          (frame_positions m _ (put_below v nan m.positions room m.run.vertices (omega arith)) len, omega arith)

      go : (w : Named) → names (start_of m.halfedges h) m.run.vertices ≡ w → Frame H m (named_or (cond (is_started m.halfedges h) (ended Stopped m) m) w (λ v. with_positions (put_triple v nan m.positions) m))
          × Fits (named_or (cond (is_started m.halfedges h) (ended Stopped m) m) w (λ v. with_positions (put_triple v nan m.positions) m))
      go nothing e = by_test (is_started m.halfedges h) (λ t. rw t (frame_ended m Stopped, fit)) (λ t. rw t (frame_same m, fit))
      go (at v) e = in_use v (names_below (start_of m.halfedges h) m.run.vertices e)

  frame_lose_folded : (first second : Bool) (e e1 e2 f1 : ℕ) (m : Middle) → Fits m → Frame H m (lose_folded first second e e1 e2 f1 m)
  unfolding lose_folded
  frame_lose_folded first second e e1 e2 f1 m fit =
      let x = lose_keeps e m fit in
      let y = lose_keeps e1 (lose e m) x.1 in
      let z = lose_keeps e2 (lose e1 (lose e m)) y.1 in
      frame_cond first _ _
      (λ t. frame_cond second _ _ (λ u. frame_trans x.0 (frame_trans y.0 z.0)) (λ u. (lose_keeps e1 m fit).0))
      (λ t. (lose_keeps f1 m fit).0)

  frame_join : (e1 e2 f1 f2 : ℕ) (m : Middle) → H ≤ lent_halfedges m.halfedges → Frame H m (join H e1 e2 f1 f2 m)
  unfolding join outer_paired
  frame_join e1 e2 f1 f2 m lent =
      frame_step m _ (
      frame_named m (pair_of m.halfedges e1) H _ _ (λ a a_in.
      frame_named m (pair_of m.halfedges e2) H _ _ (λ b b_in.
      frame_named m (pair_of m.halfedges f1) H _ _ (λ c c_in.
      frame_named m (pair_of m.halfedges f2) H _ _ (λ d d_in.
      let x = paired_up a d m.halfedges (omega arith) (omega arith) in
      let len = x.same_length in
      let y = paired_up b c (paired a d m.halfedges) (omega arith) (omega arith) in
      frame_rows m _ m.run.how (y.behind H b_in c_in ∙ x.behind H a_in d_in) (y.same_length ∙ x.same_length))
      (frame_ended m Stopped)) (frame_ended m Stopped)) (frame_ended m Stopped)) (frame_ended m Stopped))

  pub gone_free : (h : ℕ) (l : List ℤ) → h < H → rows_from H (gone_row h l) ≡ rows_from H l
  unfolding gone_row
  gone_free h l b = written_below prop h H _ _ b ∙ empty_below h l H b

  frame_clear : (e e1 e2 : ℕ) (m : Middle) → e < H → e1 < H → e2 < H → Frame H m (clear e e1 e2 m)
  unfolding clear
  frame_clear e e1 e2 m b b1 b2 =
      frame_step m _ (frame_rows m _ m.run.how
      (gone_free e2 _ b2 ∙ gone_free e1 _ b1 ∙ gone_free e m.halfedges b)
      (length_gone e2 _ ∙ length_gone e1 _ ∙ length_gone e m.halfedges))

pub frame_fold : (H e : ℕ) (m : Middle) → e < H → H % 3 ≡ 0 → H ≤ lent_halfedges m.halfedges → Fits m → Frame H m (fold H e m)
unfolding fold fold_at take_out
frame_fold H e m b thirds lent fit =
    frame_step m _ (frame_cond (not (is_paired m.halfedges e) || eq_z (pair_of m.halfedges (next e)) none) m _ (λ t. frame_same m) (λ t.
    frame_named m (pair_of m.halfedges e) H _ _ (λ f f_in.
    frame_cond (eq_z (end_of m.halfedges (next e)) (end_of m.halfedges (next f)) && (has_pair H m.halfedges (next e) (next (next f)) || has_pair H m.halfedges (next (next e)) (next f))) _ m
    (λ u.
    let x = frame_lose_folded {H = H} (has_pair H m.halfedges (next e) (next (next f))) (has_pair H m.halfedges (next (next e)) (next f)) e (next e) (next (next e)) (next f) m fit in
    let len = x.rows_lent in
    frame_trans x (frame_trans (frame_join (next e) (next (next e)) (next f) (next (next f)) _ (omega arith))
    (frame_trans (frame_clear e (next e) (next (next e)) _ b (second_in e H b thirds) (third_in e H b thirds))
    (frame_clear f (next f) (next (next f)) _ f_in (second_in f H f_in thirds) (third_in f H f_in thirds)))))
    (λ u. frame_same m)) (frame_ended m Stopped)))
