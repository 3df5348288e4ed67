-- What pair_up does in words: two half-edges in use are paired and nothing else is changed; otherwise no number is changed. And two
-- results that its contract allows agree.
use mathlib.Core.Path.{◌≡◌, refl, sym, ap, ◌∙◌}
use mathlib.Core.List.{List, []}
use Prim.Native.Nat.{ℕ, ◌<◌}
use native.Mathlib.Decide.{ℕ_discrete}
use native.Mathlib.Omega.{arith}
use lib.IntN.{ℤ, pos}
use lib.ListN.{length}
use Rattle.answers.specs.Answers.{Said, done}
use Rattle.laws.proofs.Tests.{by_test}
use Rattle.numbers.specs.Numbers.{Named, at, nothing, names}
use Rattle.numbers.proofs.Names.{names_at}
use Rattle.rows.specs.Halfedges.{Column, start, end, pair, prop, offset, pair_of, set_column, lent_halfedges}
use Rattle.rows.proofs.Columns.{column_written, other_column, other_row, written_below, length_written}
use Rattle.std.specs.Prelude.{⊤, Result}
use Rattle.refused.specs.declared.Refusal.{Refusal}
use Rattle.refused.proofs.Laws.{plain_agree}
use Rattle.net.specs.declared.Counts.{Counts}
use Rattle.net.specs.Net.{Net}
use Rattle.net.specs.Counts.{Shaped, is_shaped}
use Rattle.net.proofs.Shape.{shaped_true, within}
use Rattle.pairing.specs.Pairing.{paired, pair_named, pair_up, pair_said, PairedUp}

not_pair : (c : Column) → (c ≡ pair → ⊥) → offset c ≡ offset pair → ⊥
not_pair start n e = omega arith
not_pair end n e = omega arith
not_pair pair n e = n refl
not_pair prop n e = omega arith

module _ (a b : ℕ) (rows : List ℤ) (la : a < lent_halfedges rows) (lb : b < lent_halfedges rows) where
  abbrev once : List ℤ
  once = set_column pair a (pos b) rows

  kept : length once ≡ length rows
  kept = length_written pair a (pos b) rows

  first : Dec (a ≡ b) → pair_of (set_column pair b (pos a) once) a ≡ pos b
  first (yes e) = ap (λ (k : ℕ). pair_of (set_column pair b (pos a) once) k) e ∙ column_written pair b (pos a) once (rw kept lb) ∙ ap pos e
  first (no n) = other_row pair pair b a (pos a) once n ∙ column_written pair a (pos b) rows la

  pub paired_up : PairedUp a b rows (paired a b rows)
  unfolding paired
  paired_up = record {
    first_pair = first (ℕ_discrete a b);
    second_pair = column_written pair b (pos a) once (rw kept lb);
    other_columns = λ c n g. other_column c pair b g (pos a) once (not_pair c n) ∙ other_column c pair a g (pos b) rows (not_pair c n);
    other_rows = λ c g m n. other_row c pair b g (pos a) once n ∙ other_row c pair a g (pos b) rows m;
    behind = λ n i j. written_below pair b n (pos a) once j ∙ written_below pair a n (pos b) rows i;
    same_length = length_written pair b (pos a) once ∙ kept;
  }

module _ (c : Counts) (n : Net) (first second : ℤ) where
  -- two half-edges in use: done
  pub pair_done : Shaped c n → (a b : ℕ) → first ≡ pos a → a < c.halfedges → second ≡ pos b → b < c.halfedges →
      ((pair_up c n first second).0 ≡ done []) × PairedUp a b n.halfedges (pair_up c n first second).1
  unfolding pair_up
  pair_done s a b p la q lb =
      let w = within c n s in
      rw (shaped_true c n s, names_at first c.halfedges a p la, names_at second c.halfedges b q lb)
      (refl, paired_up a b n.halfedges (omega (arith, w.halfedges_lent)) (omega (arith, w.halfedges_lent)))

  -- any refusal: no number is changed
  pub pair_refused : ((pair_up c n first second).0 ≡ done [] → ⊥) → (pair_up c n first second).1 ≡ n.halfedges
  unfolding pair_up
  pair_refused r = by_test (is_shaped c n) (λ t. rw t (go (names first c.halfedges) (names second c.halfedges) (rw t at r))) (λ t. rw t)
    where
      go : (v w : Named) → ((pair_named n.halfedges v w).0 ≡ done [] → ⊥) → (pair_named n.halfedges v w).1 ≡ n.halfedges
      go (at a) (at b) m = absurd (m refl)
      go (at a) nothing m = refl
      go nothing (at b) m = refl
      go nothing nothing m = refl

pub pair_agree : (c : Counts) (n : Net) (first second : ℤ) (a b : Result ⊤ Refusal) (l m : List ℤ) →
    (pair_said a, l) ≡ pair_up c n first second → (pair_said b, m) ≡ pair_up c n first second → (a ≡ b) × (l ≡ m)
pair_agree c n first second a b l m p q =
    (plain_agree a b (ap (λ (o : Said × List ℤ). o.0) (p ∙ sym q)), ap (λ (o : Said × List ℤ). o.1) (p ∙ sym q))
