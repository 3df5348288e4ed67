-- The second pass over a walk that was put into the order: it is listed, and the fan of a later one is split as the steps split it.
use mathlib.Core.Path.{◌≡◌, refl, sym, ap, ◌∙◌}
use mathlib.Core.Logic.{◌≢◌}
use mathlib.Core.Bool.{Bool, true, false}
use mathlib.Core.List.{List, [], ◌∷◌}
use Prim.Native.Nat.{ℕ, zero, suc, ◌+◌, ◌%◌, ◌<◌, ◌≤◌}
use native.Mathlib.Omega.{arith}
use native.Mathlib.Nat.{add-zero, suc-add, add-suc}
use native.Mathlib.Decide.{ℕ_discrete}
use borrow.Author.Tests.{le-leb, lt-leb}
use lib.ListN.{length, set}
use lib.Seq.{sets}
use Rattle.turning.specs.Walk.{walk, cut, walk_end, stop}
use Rattle.turning.proofs.Occ.{occ_head}
use Rattle.ordering.specs.inner.Order.{copy_bit, entry, last_entry, entry_of, order_walk, Written, written, copy_at, listed, write_entry, write_order}
use Rattle.ordering.proofs.Walks.{entry_home, entry_elsewhere, Below, below_tail, put_one, length_one, one_entry, one_entry_other}

module _ (H N : ℕ) where
  -- the pass reads only the order, below where it stands
  pub same_order : (k : ℕ) (work work' : List ℕ) (s : Written) → ((j : ℕ) → j < k → entry work j ≡ entry work' j) → write_order H N work k s ≡ write_order H N work' k s
  unfolding write_order
  same_order zero work work' s f = refl
  same_order (suc k) work work' s f =
      ap (λ x. write_entry H N k x (write_order H N work k s)) (f k (omega arith)) ∙ ap (write_entry H N k (entry work' k)) (same_order k work work' s (λ j b. f j (omega arith)))

  -- over a walk, from place k on
  unfoldable pub write_walk : Bool → ℕ → ℕ → List ℕ → Written → Written
  write_walk first home k [] s = s
  write_walk first home k (c ∷ cs) s = write_walk first home (suc k) cs (write_entry H N k (entry_of first home c) s)

  module _ (n : ℕ) (few : n ≤ copy_bit) where
    pub ordered_writes : (first : Bool) (home k : ℕ) (cs work : List ℕ) (s : Written) → Below n cs → n ≤ length work → k + length cs ≤ n
        → write_order H N (order_walk first home k cs work) (k + length cs) s ≡ write_walk first home k cs (write_order H N work k s)
    unfolding order_walk write_walk write_order
    ordered_writes first home k [] work s f l m = ap (λ j. write_order H N work j s) (add-zero k)
    ordered_writes first home k (c ∷ cs) work s f l m =
        let x : length (put_one first home k c work) ≡ length work = length_one first home k c work in
        ap (λ j. write_order H N (order_walk first home (suc k) cs (put_one first home k c work)) j s) (add-suc k (length cs) ∙ sym (suc-add k (length cs)))
        ∙ ordered_writes first home (suc k) cs (put_one first home k c work) s (below_tail n c cs f) (omega arith) (omega arith)
        ∙ ap (write_walk first home (suc k) cs) here
      where
        u : c < n
        u = f c (occ_head c cs)

        here : write_entry H N k (entry (put_one first home k c work) k) (write_order H N (put_one first home k c work) k s) ≡ write_entry H N k (entry_of first home c) (write_order H N work k s)
        here =
            ap (λ y. write_entry H N k y (write_order H N (put_one first home k c work) k s)) (one_entry first home k c work (omega arith) (omega (arith, u)) (omega (arith, u)))
            ∙ ap (write_entry H N k (entry_of first home c))
            (same_order k (put_one first home k c work) work s (λ j b. one_entry_other first home k c work (omega arith) (omega (arith, u)) (omega (arith, u)) j (omega arith)))

  -- one entry
  plain : (k c : ℕ) (s : Written) → c < copy_bit → write_entry H N k c s ≡ listed k c s
  unfolding write_entry
  plain k c s b = let e : c % copy_bit ≡ c = omega arith in rw (lt-leb copy_bit c b, e)

  copied : (k c : ℕ) (s : Written) → c < copy_bit → write_entry H N k (last_entry false c) s ≡ copy_at H N c (listed k c s)
  unfolding write_entry
  copied k c s b = let e : (c + copy_bit) % copy_bit ≡ c = omega arith in rw (le-leb copy_bit (c + copy_bit) (omega arith), e)

  told_first : (home c : ℕ) → entry_of true home c ≡ c
  told_first home c = go (ℕ_discrete c home)
    where
      go : Dec (c ≡ home) → entry_of true home c ≡ c
      go (yes e) = entry_home true home c e
      go (no q) = entry_elsewhere true home c q

  -- the first fan at its vertex is listed
  pub writes_first : (home k : ℕ) (cs : List ℕ) (s : Written) → Below copy_bit cs
      → write_walk true home k cs s ≡ written s.halfedges s.positions (sets s.visit k cs) s.added
  unfolding write_walk
  writes_first home k [] s f = refl
  writes_first home k (c ∷ cs) s f =
      ap (λ x. write_walk true home (suc k) cs (write_entry H N k x s)) (told_first home c)
      ∙ ap (write_walk true home (suc k) cs) (plain k c s (f c (occ_head c cs)))
      ∙ writes_first home (suc k) cs (listed k c s) (below_tail copy_bit c cs f)

  -- a later one is listed, and split with its last
  pub writes_later : (t : ℕ → ℕ) (home n c k : ℕ) (s : Written) → Below copy_bit (walk t n home c) → walk_end t n home c ≡ home → (n ≡ 0 → c ≢ home)
      → write_walk false home k (walk t n home c) s ≡ copy_at H N home (written s.halfedges s.positions (sets s.visit k (walk t n home c)) s.added)
  unfolding walk walk_end write_walk
  writes_later t home zero c k s f e q = absurd (q refl e)
  writes_later t home (suc n) c k s f e q = go (ℕ_discrete (t c) home) f e (writes_later t home n (t c) (suc k) (listed k (t c) s))
    where
      go : (d : Dec (t c ≡ home)) → Below copy_bit (t c ∷ cut d (walk t n home (t c))) → stop d (t c) (walk_end t n home (t c)) ≡ home
          → (Below copy_bit (walk t n home (t c)) → walk_end t n home (t c) ≡ home → (n ≡ 0 → t c ≢ home)
          → write_walk false home (suc k) (walk t n home (t c)) (listed k (t c) s)
          ≡ copy_at H N home (written s.halfedges s.positions (sets (set s.visit k (t c)) (suc k) (walk t n home (t c))) s.added))
          → write_walk false home (suc k) (cut d (walk t n home (t c))) (write_entry H N k (entry_of false home (t c)) s)
          ≡ copy_at H N home (written s.halfedges s.positions (sets (set s.visit k (t c)) (suc k) (cut d (walk t n home (t c)))) s.added)
      go (yes p) f e ih =
          ap (λ x. write_entry H N k x s) (entry_home false home (t c) p) ∙ copied k (t c) s (f (t c) (occ_head (t c) []))
          ∙ ap (λ x. copy_at H N x (listed k (t c) s)) p
      go (no r) f e ih =
          ap (λ x. write_walk false home (suc k) (walk t n home (t c)) (write_entry H N k x s)) (entry_elsewhere false home (t c) r)
          ∙ ap (write_walk false home (suc k) (walk t n home (t c))) (plain k (t c) s (f (t c) (occ_head (t c) (walk t n home (t c)))))
          ∙ ih (below_tail copy_bit (t c) (walk t n home (t c)) f) e (λ z. r)
