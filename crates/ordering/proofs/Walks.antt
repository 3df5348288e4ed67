-- What a walk put into the order leaves in the work buffer, place by place.
use mathlib.Core.Path.{◌≡◌, refl, sym, ap, ◌∙◌, subst}
use mathlib.Core.Logic.{◌⊎◌, inl, inr, ◌≢◌}
use mathlib.Core.Bool.{Bool, true, false}
use mathlib.Core.List.{List, [], ◌∷◌}
use Prim.Native.Nat.{ℕ, suc, ◌+◌, ◌/◌, ◌%◌, ◌<◌, ◌≤◌}
use native.Mathlib.Omega.{arith}
use native.Mathlib.Decide.{ℕ_discrete}
use lib.ListN.{length, get_or, drop, length-set}
use lib.Seq.{drop-set-lt}
use Rattle.turning.specs.Fan.{occ}
use Rattle.turning.proofs.Occ.{occ_head, occ_tail, occ_out, occ_in}
use Rattle.ordering.specs.inner.Order.{walked_bit, entry_limit, copy_bit, see, place, entry, last_entry, at_home, entry_of, order_walk}
use Rattle.ordering.proofs.Words.{bit, see_bit, see_entry, see_other, place_bit, place_entry, place_other}

-- ---- what is put into the order
pub entry_home : (first : Bool) (home c : ℕ) → c ≡ home → entry_of first home c ≡ last_entry first c
entry_home first home c e = go (ℕ_discrete c home)
  where
    go : (d : Dec (c ≡ home)) → at_home first c d ≡ last_entry first c
    go (yes p) = refl
    go (no q) = absurd (q e)

pub entry_elsewhere : (first : Bool) (home c : ℕ) → c ≢ home → entry_of first home c ≡ c
entry_elsewhere first home c n = go (ℕ_discrete c home)
  where
    go : (d : Dec (c ≡ home)) → at_home first c d ≡ c
    go (yes p) = absurd (n p)
    go (no q) = refl

pub last_entry_small : (first : Bool) (c : ℕ) → c < copy_bit → last_entry first c < entry_limit
last_entry_small true c b = omega arith
last_entry_small false c b = omega arith

last_entry_of : (first : Bool) (c : ℕ) → c < copy_bit → last_entry first c % copy_bit ≡ c
last_entry_of true c b = omega arith
last_entry_of false c b = omega arith

pub entry_small : (first : Bool) (home c : ℕ) → c < copy_bit → entry_of first home c < entry_limit
entry_small first home c b = go (ℕ_discrete c home)
  where
    go : (d : Dec (c ≡ home)) → at_home first c d < entry_limit
    go (yes p) = last_entry_small first c b
    go (no q) = omega arith

pub entry_tells : (first : Bool) (home c : ℕ) → c < copy_bit → entry_of first home c % copy_bit ≡ c
entry_tells first home c b = go (ℕ_discrete c home)
  where
    go : (d : Dec (c ≡ home)) → at_home first c d % copy_bit ≡ c
    go (yes p) = last_entry_of first c b
    go (no q) = omega arith

-- the half-edges of a list are below n
abbrev pub Below : ℕ → List ℕ → Type 0
Below n cs = (h : ℕ) → 0 < occ h cs → h < n

pub below_tail : (n c : ℕ) (cs : List ℕ) → Below n (c ∷ cs) → Below n cs
below_tail n c cs f h o = f h (omega (arith, occ_tail h c cs))

module _ (first : Bool) (home : ℕ) where
  -- one half-edge put into the order
  abbrev pub put_one : ℕ → ℕ → List ℕ → List ℕ
  put_one k c work = place k (entry_of first home c) (see c work)

  pub length_one : (k c : ℕ) (work : List ℕ) → length (put_one k c work) ≡ length work
  length_one k c work = length-set (see c work) k _ ∙ length-set work c _

  module _ (k c : ℕ) (work : List ℕ) (b : k < length work) (d : c < length work) (s : c < copy_bit) where
    b' : k < length (see c work)
    b' = omega (arith, length-set work c (get_or work c 0 % entry_limit + walked_bit))

    pub one_bit : bit (put_one k c work) c ≡ 1
    one_bit = place_bit (see c work) k (entry_of first home c) c b' (entry_small first home c s) ∙ see_bit work c d

    pub one_bit_other : (h : ℕ) → h ≢ c → bit (put_one k c work) h ≡ bit work h
    one_bit_other h q = place_bit (see c work) k (entry_of first home c) h b' (entry_small first home c s) ∙ ap (λ x. x / walked_bit) (see_other work c h q)

    pub one_entry : entry (put_one k c work) k ≡ entry_of first home c
    one_entry = place_entry (see c work) k (entry_of first home c) b' (entry_small first home c s)

    pub one_entry_other : (j : ℕ) → j ≢ k → entry (put_one k c work) j ≡ entry work j
    one_entry_other j q = ap (λ x. x % entry_limit) (place_other (see c work) k (entry_of first home c) j q) ∙ see_entry work c j d

  -- ---- a whole walk
  pub length_ordered : (k : ℕ) (cs work : List ℕ) → length (order_walk first home k cs work) ≡ length work
  unfolding order_walk
  length_ordered k [] work = refl
  length_ordered k (c ∷ cs) work = length_ordered (suc k) cs (put_one k c work) ∙ length_one k c work

  module _ (n : ℕ) (few : n ≤ copy_bit) where
    pub ordered_out : (h k : ℕ) (cs work : List ℕ) → Below n cs → n ≤ length work → k + length cs ≤ n → occ h cs ≡ 0
        → bit (order_walk first home k cs work) h ≡ bit work h
    unfolding order_walk
    ordered_out h k [] work f l m e = refl
    ordered_out h k (c ∷ cs) work f l m e =
        let u : c < n = f c (occ_head c cs) in
        let x : length (put_one k c work) ≡ length work = length_one k c work in
        ordered_out h (suc k) cs (put_one k c work) (below_tail n c cs f) (omega arith) (omega arith) (occ_out h c cs e).1
        ∙ one_bit_other k c work (omega arith) (omega arith) (omega arith) h (occ_out h c cs e).0

    pub ordered_in : (h k : ℕ) (cs work : List ℕ) → Below n cs → n ≤ length work → k + length cs ≤ n → 0 < occ h cs
        → bit (order_walk first home k cs work) h ≡ 1
    unfolding order_walk occ
    ordered_in h k [] work f l m e = absurd (omega arith)
    ordered_in h k (c ∷ cs) work f l m e =
        let u : c < n = f c (occ_head c cs) in
        let x : length (put_one k c work) ≡ length work = length_one k c work in
        go (ℕ_discrete (occ h cs) 0) (occ_in h c cs e) (ordered_in h (suc k) cs (put_one k c work) (below_tail n c cs f) (omega arith) (omega arith))
        (λ z. ordered_out h (suc k) cs (put_one k c work) (below_tail n c cs f) (omega arith) (omega arith) z)
        (one_bit k c work (omega arith) (omega arith) (omega arith))
      where
        go : Dec (occ h cs ≡ 0) → (h ≡ c) ⊎ (0 < occ h cs) → (0 < occ h cs → bit (order_walk first home (suc k) cs (put_one k c work)) h ≡ 1)
            → (occ h cs ≡ 0 → bit (order_walk first home (suc k) cs (put_one k c work)) h ≡ bit (put_one k c work) h) → bit (put_one k c work) c ≡ 1
            → bit (order_walk first home (suc k) cs (put_one k c work)) h ≡ 1
        go (yes z) (inl p) ih out one = out z ∙ ap (bit (put_one k c work)) p ∙ one
        go (yes z) (inr p) ih out one = ih p
        go (no q) p ih out one = ih (omega arith)

    pub ordered_behind : (j k : ℕ) (cs work : List ℕ) → Below n cs → k + length cs ≤ n → n ≤ j → get_or (order_walk first home k cs work) j 0 ≡ get_or work j 0
    unfolding order_walk
    ordered_behind j k [] work f m b = refl
    ordered_behind j k (c ∷ cs) work f m b =
        let u : c < n = f c (occ_head c cs) in
        ordered_behind j (suc k) cs (put_one k c work) (below_tail n c cs f) (omega arith) b
        ∙ place_other (see c work) k (entry_of first home c) j (omega arith) ∙ see_other work c j (omega arith)

    pub ordered_beyond : (j k : ℕ) (cs work : List ℕ) → Below n cs → k + length cs ≤ n → n ≤ j → drop j (order_walk first home k cs work) ≡ drop j work
    unfolding order_walk
    ordered_beyond j k [] work f m b = refl
    ordered_beyond j k (c ∷ cs) work f m b =
        let u : c < n = f c (occ_head c cs) in
        ordered_beyond j (suc k) cs (put_one k c work) (below_tail n c cs f) (omega arith) b
        ∙ drop-set-lt j (see c work) k _ (omega arith) ∙ drop-set-lt j work c _ (omega arith)

    -- what is told of the places before and of the walk is told of all places
    pub ordered_all : (P : ℕ → Type 0) (k : ℕ) (cs work : List ℕ) → Below n cs → n ≤ length work → k + length cs ≤ n → ((h : ℕ) → 0 < occ h cs → P h)
        → ((j : ℕ) → j < k → P (entry work j % copy_bit)) → (j : ℕ) → j < k + length cs → P (entry (order_walk first home k cs work) j % copy_bit)
    unfolding order_walk
    ordered_all P k [] work f l m p q j b = q j (omega arith)
    ordered_all P k (c ∷ cs) work f l m p q j b =
        let x : length (put_one k c work) ≡ length work = length_one k c work in
        ordered_all P (suc k) cs (put_one k c work) (below_tail n c cs f) (omega arith) (omega arith) (λ h o. p h (omega (arith, occ_tail h c cs)))
        (λ y z. go y z (ℕ_discrete y k)) j (omega arith)
      where
        u : c < n
        u = f c (occ_head c cs)

        go : (y : ℕ) → y < suc k → Dec (y ≡ k) → P (entry (put_one k c work) y % copy_bit)
        go y z (yes e) =
            subst (λ t. P (entry (put_one k c work) t % copy_bit)) (sym e)
            (subst P (sym (ap (λ t. t % copy_bit) (one_entry k c work (omega arith) (omega (arith, u)) (omega (arith, u))) ∙ entry_tells first home c (omega (arith, u)))) (p c (occ_head c cs)))
        go y z (no r) =
            subst (λ t. P (t % copy_bit)) (sym (one_entry_other k c work (omega arith) (omega (arith, u)) (omega (arith, u)) y r)) (q y (omega arith))
