-- The scan finds the duplicates: what holds before each half-edge, where it begins, what a half-edge does to it, and what is found at
-- the end. A half-edge is marked exactly where a walk has met it.
use mathlib.Core.Path.{◌≡◌, refl, sym, ap, ◌∙◌, subst}
use mathlib.Core.Bool.{Bool, true, false, cond, ◌&&◌, ◌||◌, not}
use mathlib.Core.List.{List, [], ◌∷◌, ◌++◌}
use Prim.Native.Nat.{ℕ, zero, suc, ◌+◌, ◌%◌, ◌≤◌, ◌<◌}
use native.Mathlib.Numerals.{add-one}
use native.Mathlib.Omega.{arith}
use native.Mathlib.Decide.{ℕ_discrete}
use borrow.Author.Tests.{eq-eqb, ne_eqb}
use lib.Dec.{eqb}
use lib.IntN.{ℤ}
use lib.ListN.{length, get_or, set, drop, length-set}
use lib.Seq.{get_or-set_same, get_or-set_other, drop-set-lt}
use Rattle.laws.proofs.Tests.{by_test, or_assoc, or_comm}
use Rattle.numbers.specs.Numbers.{Named, at, nothing, names, named_or}
use Rattle.numbers.specs.Next.{next}
use Rattle.numbers.proofs.Names.{names_below}
use Rattle.numbers.proofs.NextLaws.{next_in}
use Rattle.rows.specs.Halfedges.{pair_of, is_started, is_ended}
use Rattle.searches.specs.Duplicates.{turns, fan, is_duplicate, those, is_in, search_row, search_rows, duplicates}
use Rattle.duplicates.specs.Scan.{Entries, entries, push_all, picked, is_marked, is_passed, mark_all, Scan, scan, scan_row, found}
use Rattle.duplicates.proofs.Entries.{push_append, pushed}

-- every entry is below H
abbrev pub Below : ℕ → List ℕ → Type 0
Below H [] = ◌≡◌ {A = ℕ} 0 0
Below H (x ∷ xs) = (x < H) × Below H xs

in_append : (k : ℕ) (xs ys : List ℕ) → is_in k (xs ++ ys) ≡ is_in k xs || is_in k ys
unfolding is_in
in_append k [] ys = refl
in_append k (x ∷ xs) ys = ap (λ (t : Bool). eqb k x || t) (in_append k xs ys) ∙ sym (or_assoc (eqb k x) (is_in k xs) (is_in k ys))

-- ---- what marking leaves
pub length_mark : (cs work : List ℕ) → length (mark_all cs work) ≡ length work
unfolding mark_all
length_mark [] work = refl
length_mark (c ∷ cs) work = length_mark cs (set work c 1) ∙ length-set work c 1

mark_beyond : (H : ℕ) (cs work : List ℕ) → Below H cs → drop H (mark_all cs work) ≡ drop H work
unfolding mark_all
mark_beyond H [] work b = refl
mark_beyond H (c ∷ cs) work b = mark_beyond H cs (set work c 1) b.1 ∙ drop-set-lt H work c 1 b.0

marked_one : (c k : ℕ) (work : List ℕ) → k < length work → is_marked (set work c 1) k ≡ is_marked work k || eqb k c
marked_one c k work b = elim (ℕ_discrete k c) [
  | yes e ↦ rw (e, eq-eqb c c refl) (ap (λ (x : ℕ). not (eqb x 0)) (get_or-set_same work c 1 0 (rw e at b)) ∙ sym (or_comm (is_marked work c) true))
  | no q ↦ rw (ne_eqb k c q) (ap (λ (x : ℕ). not (eqb x 0)) (get_or-set_other work c k 1 0 q) ∙ sym (or_comm (is_marked work k) false))
]

marked : (cs work : List ℕ) (k : ℕ) → k < length work → is_marked (mark_all cs work) k ≡ is_marked work k || is_in k cs
unfolding mark_all is_in
marked [] work k b = sym (or_comm (is_marked work k) false)
marked (c ∷ cs) work k b =
    marked cs (set work c 1) k (rw (length-set work c 1) b)
    ∙ ap (λ (t : Bool). t || is_in k cs) (marked_one c k work b)
    ∙ or_assoc (is_marked work k) (eqb k c) (is_in k cs)

-- ---- what a walk meets is in use, and so is what is listed
module _ (H : ℕ) (rows : List ℤ) (thirds : H % 3 ≡ 0) where
  turns_in : (home n c : ℕ) → Below H (turns H rows home n c)
  unfolding turns
  turns_in home zero c = refl
  turns_in home (suc n) c = go (names (pair_of rows c) H) refl (λ p. turns_in home n (next p))
    where
      go : (w : Named) → names (pair_of rows c) H ≡ w → ((p : ℕ) → Below H (turns H rows home n (next p)))
          → Below H (named_or [] w (λ p. cond (eqb (next p) home) [] (next p ∷ turns H rows home n (next p))))
      go nothing e m = refl
      go (at p) e m = by_test (eqb (next p) home) (λ t. rw t refl) (λ t. rw t (next_in p H (names_below (pair_of rows c) H e) thirds, m p))

  pub fan_in : (i : ℕ) → i < H → Below H (fan H rows i)
  fan_in i b = (b, turns_in i H i)

-- ---- the scan: the half-edges below i are done, m tells which a walk has met, and s holds what was found
pub record Scanning (H N capacity : ℕ) (rows : List ℤ) (list₀ : List ℕ) (i : ℕ) (m : ℕ → Bool) (s : Entries) : Type 0 where
  pub upto : i ≤ H
  pub marks : (k : ℕ) → k < H → m k ≡ is_in k (search_rows H N rows i).seen
  pub are : s ≡ push_all capacity (search_rows H N rows i).list (entries list₀ 0)

those_picked : (N : ℕ) (rows : List ℤ) (w cs : List ℕ) → picked (is_duplicate N rows w) cs ≡ those N rows w cs
unfolding picked those
those_picked N rows w [] = refl
those_picked N rows w (c ∷ cs) = rw (those_picked N rows w cs)

module _ (H N capacity : ℕ) (rows : List ℤ) (list₀ : List ℕ) where
  pub scanning_begins : (m : ℕ → Bool) → ((k : ℕ) → k < H → m k ≡ false) → Scanning H N capacity rows list₀ 0 m (entries list₀ 0)
  unfolding search_rows is_in push_all
  scanning_begins m z = record { upto = omega arith; marks = z; are = refl }

  module _ {i : ℕ} {m : ℕ → Bool} {s : Entries} (S : Scanning H N capacity rows list₀ i m s) (b : i < H) where
    same : m i || not (is_started rows i && is_ended rows i) ≡ is_in i (search_rows H N rows i).seen || not (is_started rows i && is_ended rows i)
    same = ap (λ (t : Bool). t || not (is_started rows i && is_ended rows i)) (S.marks i b)

    pub scanning_passed : m i || not (is_started rows i && is_ended rows i) ≡ true → Scanning H N capacity rows list₀ (i + 1) m s
    unfolding search_rows search_row
    scanning_passed t = record {
      upto = omega arith;
      marks = λ k l. rw (add-one i) (rw (sym same ∙ t) (S.marks k l));
      are = rw (add-one i) (rw (sym same ∙ t) S.are);
    }

    pub scanning_walked : m i || not (is_started rows i && is_ended rows i) ≡ false → (m' : ℕ → Bool) → ((k : ℕ) → k < H → m' k ≡ m k || is_in k (fan H rows i))
        → Scanning H N capacity rows list₀ (i + 1) m' (push_all capacity (picked (is_duplicate N rows (fan H rows i)) (fan H rows i)) s)
    unfolding search_rows search_row
    scanning_walked t m' f = record {
      upto = omega arith;
      marks = λ k l. rw (add-one i) (rw (sym same ∙ t) (
          f k l ∙ ap (λ (y : Bool). y || is_in k (fan H rows i)) (S.marks k l)
          ∙ sym (in_append k (search_rows H N rows i).seen (fan H rows i))));
      are = rw (add-one i) (rw (sym same ∙ t) (
          ap (λ (xs : List ℕ). push_all capacity xs s) (those_picked N rows (fan H rows i) (fan H rows i))
          ∙ ap (push_all capacity (those N rows (fan H rows i) (fan H rows i))) S.are
          ∙ sym (push_append capacity (search_rows H N rows i).list (those N rows (fan H rows i) (fan H rows i)) (entries list₀ 0))));
    }

  pub scanning_done : {i : ℕ} {m : ℕ → Bool} {s : Entries} → Scanning H N capacity rows list₀ i m s → H ≤ i → capacity ≤ length list₀
      → s ≡ found H N capacity rows list₀
  scanning_done {i} S l long = let e : i ≡ H = omega (arith, S.upto) in (rw e at S.are) ∙ pushed capacity list₀ long (duplicates H N rows)

-- ---- the scan with marks
pub record Marking (H N capacity : ℕ) (rows : List ℤ) (work₀ list₀ : List ℕ) (i : ℕ) (work : List ℕ) (s : Entries) : Type 0 where
  pub scanning : Scanning H N capacity rows list₀ i (is_marked work) s
  pub kept : length work ≡ length work₀
  pub beyond : drop H work ≡ drop H work₀

module _ (H N capacity : ℕ) (rows : List ℤ) (work₀ list₀ : List ℕ) where
  pub marking_begins : ((k : ℕ) → k < H → get_or work₀ k 0 ≡ 0) → Marking H N capacity rows work₀ list₀ 0 work₀ (entries list₀ 0)
  marking_begins z = record {
    scanning = scanning_begins H N capacity rows list₀ (is_marked work₀) (λ k b. rw (z k b));
    kept = refl;
    beyond = refl;
  }

  module _ {i : ℕ} {work : List ℕ} {s : Entries} (S : Marking H N capacity rows work₀ list₀ i work s) (b : i < H) (thirds : H % 3 ≡ 0) (long : H ≤ length work₀) where
    pub marking_on : (work' : List ℕ) (s' : Entries) → scan work' s' ≡ scan_row H N capacity rows i (scan work s)
        → Marking H N capacity rows work₀ list₀ (i + 1) work' s'
    unfolding scan_row
    marking_on work' s' e =
        by_test (is_passed rows i work)
        (λ t. subst (λ (z : Scan). Marking H N capacity rows work₀ list₀ (i + 1) z.work z.found) (sym (rw t at e)) (passed t))
        (λ t. subst (λ (z : Scan). Marking H N capacity rows work₀ list₀ (i + 1) z.work z.found) (sym (rw t at e)) (walked t))
      where
        passed : is_passed rows i work ≡ true → Marking H N capacity rows work₀ list₀ (i + 1) work s
        passed t = record { scanning = scanning_passed H N capacity rows list₀ S.scanning b t; kept = S.kept; beyond = S.beyond }

        walked : is_passed rows i work ≡ false
            → Marking H N capacity rows work₀ list₀ (i + 1) (mark_all (fan H rows i) work) (push_all capacity (picked (is_duplicate N rows (fan H rows i)) (fan H rows i)) s)
        walked t = record {
          scanning = scanning_walked H N capacity rows list₀ S.scanning b t _ (λ k l. marked (fan H rows i) work k (omega (arith, S.kept)));
          kept = length_mark (fan H rows i) work ∙ S.kept;
          beyond = mark_beyond H (fan H rows i) work (fan_in H rows thirds i b) ∙ S.beyond;
        }
