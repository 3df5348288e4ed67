-- The scan with a table finds the duplicates: what entering a fan and taking it back leave, and what holds before each half-edge.
use mathlib.Core.Path.{◌≡◌, refl, sym, ap, ◌∙◌, subst}
use mathlib.Core.Bool.{Bool, true, false, cond, ◌||◌, not}
use mathlib.Core.List.{List, [], ◌∷◌}
use mathlib.Core.Logic.{◌⊎◌, inl, inr, ⊎_elim, ◌≢◌}
use Prim.Native.Nat.{ℕ, ◌+◌, ◌/◌, ◌%◌, ◌<◌, ◌≤◌}
use native.Mathlib.Omega.{arith}
use native.Mathlib.Decide.{ℕ_discrete}
use borrow.Author.Tests.{eqb-true, eq-eqb, ne_eqb, leb-true, leb-false, le-leb, lt-leb}
use lib.Dec.{eqb, leb}
use lib.IntN.{ℤ}
use lib.ListN.{length, get_or, set, drop, length-set}
use lib.Seq.{drop-set-lt}
use Rattle.laws.proofs.Tests.{by_test, not_both, and2, or_cases, or_left, or_right, or_assoc, or_comm}
use Rattle.numbers.specs.Numbers.{Named, at, nothing, names, is_named}
use Rattle.numbers.specs.Next.{most_halfedges}
use Rattle.numbers.proofs.Names.{at_inj, names_below}
use Rattle.rows.specs.Halfedges.{end_of}
use Rattle.searches.specs.Duplicates.{fan, ends_alike, is_duplicate, is_in}
use Rattle.ordering.specs.inner.Order.{walked_bit, entry_limit, see, place, is_walked, entry}
use Rattle.ordering.proofs.Words.{bit, see_bit, see_entry, see_other, place_bit, place_entry, place_other}
use Rattle.duplicates.specs.Scan.{Entries, entries, push_all, picked, Scan, scan}
use Rattle.duplicates.proofs.Scans.{Below, fan_in, Scanning, scanning_begins, scanning_passed, scanning_walked}
use Rattle.tables.specs.Table.{Table, table, lesser, enter_at, enter, enter_all, is_over, clear_at, clear_all, is_done, table_row}
use Rattle.tables.proofs.Least.{entry_small, lesser_some, lesser_bound, Ends, lowered, lowered_some, least, least_from, dup_tells, alike_ends, over_is, picked_same, picked_none}

-- the same length, and the same from n on
pub record Kept (n : ℕ) (work₀ work : List ℕ) : Type 0 where
  pub long : length work ≡ length work₀
  pub beyond : drop n work ≡ drop n work₀

pub kept_same : (n : ℕ) (work : List ℕ) → Kept n work work
kept_same n work = record { long = refl; beyond = refl }

pub kept_trans : {n : ℕ} {a b c : List ℕ} → Kept n a b → Kept n b c → Kept n a c
kept_trans f g = record { long = g.long ∙ f.long; beyond = g.beyond ∙ f.beyond }

kept_set : (n : ℕ) (work : List ℕ) (k x : ℕ) → k < n → Kept n work (set work k x)
kept_set n work k x b = record { long = length-set work k x; beyond = drop-set-lt n work k x b }

-- ---- the walked bit
same_bit : (a b : List ℕ) (k : ℕ) → bit a k ≡ bit b k → is_walked a k ≡ is_walked b k
same_bit a b k e =
    by_test (is_walked b k)
    (λ t. rw t (le-leb walked_bit (get_or a k 0) (up (get_or a k 0) (get_or b k 0) e (leb-true walked_bit (get_or b k 0) t))))
    (λ t. rw t (lt-leb walked_bit (get_or a k 0) (down (get_or a k 0) (get_or b k 0) e (leb-false walked_bit (get_or b k 0) t))))
  where
    up : (x y : ℕ) → x / walked_bit ≡ y / walked_bit → walked_bit ≤ y → walked_bit ≤ x
    up x y e b = omega arith

    down : (x y : ℕ) → x / walked_bit ≡ y / walked_bit → y < walked_bit → x < walked_bit
    down x y e b = omega arith

see_walked : (work : List ℕ) (c k : ℕ) → c < length work → is_walked (see c work) k ≡ is_walked work k || eqb k c
see_walked work c k b = elim (ℕ_discrete k c) [
  | yes e ↦ rw (e, eq-eqb c c refl) (le-leb walked_bit (get_or (see c work) c 0) (up (get_or (see c work) c 0) (see_bit work c b)) ∙ sym (or_comm (is_walked work c) true))
  | no q ↦ rw (ne_eqb k c q) (ap (leb walked_bit) (see_other work c k q) ∙ sym (or_comm (is_walked work k) false))
]
  where
    up : (x : ℕ) → x / walked_bit ≡ 1 → walked_bit ≤ x
    up x e = omega arith

-- ---- the scan: nothing stands at a vertex between two fans
pub record Tabling (H N capacity : ℕ) (rows : List ℤ) (work₀ list₀ : List ℕ) (i : ℕ) (work : List ℕ) (s : Entries) : Type 0 where
  pub scanning : Scanning H N capacity rows list₀ i (is_walked work) s
  pub lows : (v : ℕ) → v < N → entry work v ≡ 0
  pub kept : Kept capacity work₀ work

module _ (H N capacity : ℕ) (rows : List ℤ) (few : H ≤ most_halfedges) (in_h : H ≤ capacity) (in_v : N ≤ capacity) where
  -- ---- c enters
  module _ (t : Table) (c : ℕ) (b : c < H) (l : capacity ≤ length t.work) where
    abbrev end : Named
    end = names (end_of rows c) N

    low : (v : ℕ) → entry (see c t.work) v ≡ entry t.work v
    low v = see_entry t.work c v (omega arith)

    long : length (see c t.work) ≡ length t.work
    long = length-set t.work c _

    small : (u : ℕ) → lesser (entry (see c t.work) u) c < entry_limit
    small u = lesser_bound (entry (see c t.work) u) c entry_limit (entry_small (see c t.work) u) (omega arith)

    at_entry : (y : Named) → ((u : ℕ) → y ≡ at u → u < N) → (v : ℕ) → entry (enter_at c y (table (see c t.work) t.twice)).work v ≡ lowered N rows v (entry t.work v) c y
    at_entry nothing f v = low v
    at_entry (at u) f v =
        let m : u < length (see c t.work) = omega (arith, f u refl, long) in
        elim (ℕ_discrete v u) [
          | yes e ↦ rw (e, eq-eqb u u refl) (place_entry (see c t.work) u (lesser (entry (see c t.work) u) c) m (small u) ∙ ap (λ (x : ℕ). lesser x c) (low u))
          | no q ↦ rw (ne_eqb u v (λ z. q (sym z))) (ap (λ (x : ℕ). x % entry_limit) (place_other (see c t.work) u (lesser (entry (see c t.work) u) c) v q) ∙ low v)
        ]

    pub enter_entry : (v : ℕ) → entry (enter N rows c t).work v ≡ lowered N rows v (entry t.work v) c end
    unfolding enter
    enter_entry v = at_entry end (λ u e. names_below (end_of rows c) N e) v

    at_walked : (y : Named) → ((u : ℕ) → y ≡ at u → u < N) → (k : ℕ) → is_walked (enter_at c y (table (see c t.work) t.twice)).work k ≡ is_walked t.work k || eqb k c
    at_walked nothing f k = see_walked t.work c k (omega arith)
    at_walked (at u) f k =
        let m : u < length (see c t.work) = omega (arith, f u refl, long) in
        same_bit (place u (lesser (entry (see c t.work) u) c) (see c t.work)) (see c t.work) k
        (place_bit (see c t.work) u (lesser (entry (see c t.work) u) c) k m (small u))
        ∙ see_walked t.work c k (omega arith)

    pub enter_walked : (k : ℕ) → is_walked (enter N rows c t).work k ≡ is_walked t.work k || eqb k c
    unfolding enter
    enter_walked k = at_walked end (λ u e. names_below (end_of rows c) N e) k

    at_kept : (y : Named) → ((u : ℕ) → y ≡ at u → u < N) → Kept capacity t.work (enter_at c y (table (see c t.work) t.twice)).work
    at_kept nothing f = kept_set capacity t.work c _ (omega arith)
    at_kept (at u) f = kept_trans (kept_set capacity t.work c _ (omega arith)) (kept_set capacity (see c t.work) u _ (omega (arith, f u refl)))

    pub enter_kept : Kept capacity t.work (enter N rows c t).work
    unfolding enter
    enter_kept = at_kept end (λ u e. names_below (end_of rows c) N e)

    -- once entered twice, always; and at a vertex where one stands
    at_twice : (y : Named) → t.twice ≡ true → (enter_at c y (table (see c t.work) t.twice)).twice ≡ true
    at_twice nothing e = e
    at_twice (at u) e = or_left t.twice _ e

    pub enter_twice : t.twice ≡ true → (enter N rows c t).twice ≡ true
    unfolding enter
    enter_twice e = at_twice end e

    pub enter_again : (v : ℕ) → entry t.work v ≢ 0 → Ends N rows c v → (enter N rows c t).twice ≡ true
    unfolding enter
    enter_again v n e =
        rw e (or_right t.twice (not (eqb (entry (see c t.work) v) 0)) (rw (ne_eqb (entry (see c t.work) v) 0 (λ z. n (sym (low v) ∙ z)))))

  -- ---- all of a walk enter
  pub all_entry : (cs : List ℕ) (t : Table) → Below H cs → capacity ≤ length t.work → (v : ℕ) → entry (enter_all N rows cs t).work v ≡ least N rows v (entry t.work v) cs
  unfolding enter_all least
  all_entry [] t b l v = refl
  all_entry (c ∷ cs) t b l v =
      all_entry cs (enter N rows c t) b.1 (omega (arith, (enter_kept t c b.0 l).long)) v
      ∙ ap (λ (x : ℕ). least N rows v x cs) (enter_entry t c b.0 l v)

  pub all_walked : (cs : List ℕ) (t : Table) → Below H cs → capacity ≤ length t.work → (k : ℕ) → is_walked (enter_all N rows cs t).work k ≡ is_walked t.work k || is_in k cs
  unfolding enter_all is_in
  all_walked [] t b l k = sym (or_comm (is_walked t.work k) false)
  all_walked (c ∷ cs) t b l k =
      all_walked cs (enter N rows c t) b.1 (omega (arith, (enter_kept t c b.0 l).long)) k
      ∙ ap (λ (x : Bool). x || is_in k cs) (enter_walked t c b.0 l k)
      ∙ or_assoc (is_walked t.work k) (eqb k c) (is_in k cs)

  pub all_kept : (cs : List ℕ) (t : Table) → Below H cs → capacity ≤ length t.work → Kept capacity t.work (enter_all N rows cs t).work
  unfolding enter_all
  all_kept [] t b l = kept_same capacity t.work
  all_kept (c ∷ cs) t b l =
      let k = enter_kept t c b.0 l in kept_trans k (all_kept cs (enter N rows c t) b.1 (omega (arith, k.long)))

  -- two that end at one vertex are told
  all_twice : (cs : List ℕ) (t : Table) → Below H cs → capacity ≤ length t.work → t.twice ≡ true → (enter_all N rows cs t).twice ≡ true
  unfolding enter_all
  all_twice [] t b l e = e
  all_twice (c ∷ cs) t b l e = all_twice cs (enter N rows c t) b.1 (omega (arith, (enter_kept t c b.0 l).long)) (enter_twice t c b.0 l e)

  one_told : (v : ℕ) (cs : List ℕ) (t : Table) → Below H cs → capacity ≤ length t.work → entry t.work v ≢ 0 → (d : ℕ) → is_in d cs ≡ true → Ends N rows d v → (enter_all N rows cs t).twice ≡ true
  unfolding enter_all is_in
  one_told v [] t b l n d i e = not_both false i refl
  one_told v (c ∷ cs) t b l n d i e =
      let m : capacity ≤ length (enter N rows c t).work = omega (arith, (enter_kept t c b.0 l).long) in
      ⊎_elim
      (λ q. all_twice cs (enter N rows c t) b.1 m (enter_again t c b.0 l v n (rw (eqb-true d c q) at e)))
      (λ q. one_told v cs (enter N rows c t) b.1 m (rw (enter_entry t c b.0 l v) (lowered_some N rows v (entry t.work v) c (names (end_of rows c) N) n)) d q e)
      (or_cases (eqb d c) (is_in d cs) i)

  pub two_told : (v : ℕ) (cs : List ℕ) (t : Table) → Below H cs → capacity ≤ length t.work → (c d : ℕ) → c ≢ d → is_in c cs ≡ true → is_in d cs ≡ true → Ends N rows c v → Ends N rows d v
      → (enter_all N rows cs t).twice ≡ true
  unfolding enter_all is_in
  two_told v [] t b l c d n i j e f = not_both false i refl
  two_told v (a ∷ es) t b l c d n i j e f =
      let m : capacity ≤ length (enter N rows a t).work = omega (arith, (enter_kept t a b.0 l).long) in
      let new : Ends N rows a v → entry (enter N rows a t).work v ≢ 0 = λ s. rw (enter_entry t a b.0 l v, s, eq-eqb v v refl) (lesser_some (entry t.work v) a) in
      ⊎_elim
      (λ p. ⊎_elim
      (λ q. absurd (n (eqb-true c a p ∙ sym (eqb-true d a q))))
      (λ q. one_told v es (enter N rows a t) b.1 m (new (rw (eqb-true c a p) at e)) d q f)
      (or_cases (eqb d a) (is_in d es) j))
      (λ p. ⊎_elim
      (λ q. one_told v es (enter N rows a t) b.1 m (new (rw (eqb-true d a q) at f)) c p e)
      (λ q. two_told v es (enter N rows a t) b.1 m c d n p q e f)
      (or_cases (eqb d a) (is_in d es) j))
      (or_cases (eqb c a) (is_in c es) i)

  -- ---- taken back
  module _ (work : List ℕ) (l : capacity ≤ length work) where
    back_entry : (y : Named) → ((u : ℕ) → y ≡ at u → u < N) → (v : ℕ) → (entry work v ≡ 0) ⊎ (y ≡ at v) → entry (clear_at y work) v ≡ 0
    back_entry nothing f v (inl e) = e
    back_entry nothing f v (inr e) = absurd (let z : ◌≡◌ {A = ℕ} 0 1 = ap number e in omega arith)
      where
        number : Named → ℕ
        number nothing = 0
        number (at u) = 1
    back_entry (at u) f v w = elim (ℕ_discrete v u) [
      | yes e ↦ rw e (place_entry work u 0 (omega (arith, f u refl)) (omega arith))
      | no q ↦ ap (λ (x : ℕ). x % entry_limit) (place_other work u 0 v q) ∙ ⊎_elim (λ e. e) (λ e. absurd (q (sym (at_inj e)))) w
    ]

    back_walked : (y : Named) → ((u : ℕ) → y ≡ at u → u < N) → (k : ℕ) → is_walked (clear_at y work) k ≡ is_walked work k
    back_walked nothing f k = refl
    back_walked (at u) f k = same_bit (place u 0 work) work k (place_bit work u 0 k (omega (arith, f u refl)) (omega arith))

    back_kept : (y : Named) → ((u : ℕ) → y ≡ at u → u < N) → Kept capacity work (clear_at y work)
    back_kept nothing f = kept_same capacity work
    back_kept (at u) f = kept_set capacity work u _ (omega (arith, f u refl))

  below_end : (c u : ℕ) → names (end_of rows c) N ≡ at u → u < N
  below_end c u e = names_below (end_of rows c) N e

  clear_kept : (cs work : List ℕ) → capacity ≤ length work → Kept capacity work (clear_all N rows cs work)
  unfolding clear_all
  clear_kept [] work l = kept_same capacity work
  clear_kept (c ∷ cs) work l =
      let k = back_kept work l (names (end_of rows c) N) (below_end c) in kept_trans k (clear_kept cs (clear_at (names (end_of rows c) N) work) (omega (arith, k.long)))

  clear_walked : (cs work : List ℕ) → capacity ≤ length work → (k : ℕ) → is_walked (clear_all N rows cs work) k ≡ is_walked work k
  unfolding clear_all
  clear_walked [] work l k = refl
  clear_walked (c ∷ cs) work l k =
      clear_walked cs (clear_at (names (end_of rows c) N) work) (omega (arith, (back_kept work l (names (end_of rows c) N) (below_end c)).long)) k
      ∙ back_walked work l (names (end_of rows c) N) (below_end c) k

  -- nothing stands at v, or one of the walk ends there
  clear_entry : (v : ℕ) (cs work : List ℕ) → capacity ≤ length work → (entry work v ≡ 0) ⊎ ((d : ℕ) × (is_in d cs ≡ true) × Ends N rows d v) → entry (clear_all N rows cs work) v ≡ 0
  unfolding clear_all is_in
  clear_entry v [] work l w = ⊎_elim (λ e. e) (λ z. not_both false z.1 refl) w
  clear_entry v (c ∷ cs) work l w =
      clear_entry v cs (clear_at (names (end_of rows c) N) work) (omega (arith, (back_kept work l (names (end_of rows c) N) (below_end c)).long)) (⊎_elim
      (λ e. inl (back_entry work l (names (end_of rows c) N) (below_end c) v (inl e)))
      (λ z. ⊎_elim
      (λ q. inl (back_entry work l (names (end_of rows c) N) (below_end c) v (inr (subst (λ (x : ℕ). Ends N rows x v) (eqb-true z.0 c q) z.2))))
      (λ q. inr (z.0, q, z.2))
      (or_cases (eqb z.0 c) (is_in z.0 cs) z.1))
      w)

  module _ (work₀ list₀ : List ℕ) where
    pub tabling_begins : ((k : ℕ) → k < capacity → get_or work₀ k 0 ≡ 0) → Tabling H N capacity rows work₀ list₀ 0 work₀ (entries list₀ 0)
    tabling_begins z = record {
      scanning = scanning_begins H N capacity rows list₀ (is_walked work₀) (λ k b. lt-leb walked_bit (get_or work₀ k 0) (let e : get_or work₀ k 0 ≡ 0 = z k (omega arith) in omega arith));
      lows = λ v b. let e : get_or work₀ v 0 ≡ 0 = z v (omega arith) in rw e;
      kept = kept_same capacity work₀;
    }

    module _ {i : ℕ} {work : List ℕ} {s : Entries} (S : Tabling H N capacity rows work₀ list₀ i work s) (b : i < H) (thirds : H % 3 ≡ 0) (long₀ : capacity ≤ length work₀) where
      abbrev w : List ℕ
      w = fan H rows i

      walk_in : Below H (fan H rows i)
      walk_in = fan_in H rows thirds i b

      long_work : capacity ≤ length work
      long_work = omega (arith, S.kept.long)

      kept_after : Kept capacity work (enter_all N rows w (table work false)).work
      kept_after = all_kept w (table work false) walk_in long_work

      long_after : capacity ≤ length (enter_all N rows w (table work false)).work
      long_after = omega (arith, kept_after.long, long_work)

      leasts : (v : ℕ) → v < N → entry (enter_all N rows w (table work false)).work v ≡ least N rows v 0 w
      leasts v m = all_entry w (table work false) walk_in long_work v ∙ ap (λ (x : ℕ). least N rows v x w) (S.lows v m)

      -- where no vertex was entered twice there is no duplicate
      none : (enter_all N rows w (table work false)).twice ≡ false → (c : ℕ) → is_in c w ≡ true → is_duplicate N rows w c ≡ false
      none e c i = by_test (is_duplicate N rows w c) (λ t. go (names (end_of rows c) N) refl (dup_tells N rows w c t)) (λ t. t)
        where
          go : (y : Named) → names (end_of rows c) N ≡ y → (d : ℕ) × (is_in d w ≡ true) × (d < c) × (ends_alike N rows c d ≡ true) → is_duplicate N rows w c ≡ false
          go nothing q p = not_both (is_named (names (end_of rows c) N)) (and2 _ _ p.3).0 (ap is_named q)
          go (at v) q p =
              let m = p.2 in
              not_both (enter_all N rows w (table work false)).twice
              (two_told v w (table work false) walk_in long_work c p.0 (λ z. absurd (omega arith)) i p.1 q (alike_ends N rows c p.0 v q p.3)) e

      found_is : cond (enter_all N rows w (table work false)).twice (push_all capacity (picked (is_over N rows (enter_all N rows w (table work false)).work) w) s) s
          ≡ push_all capacity (picked (is_duplicate N rows w) w) s
      unfolding push_all
      found_is =
          by_test (enter_all N rows w (table work false)).twice
          (λ t. rw t (ap (λ (xs : List ℕ). push_all capacity xs s) (picked_same (is_over N rows (enter_all N rows w (table work false)).work) (is_duplicate N rows w) w (over_is N rows w (enter_all N rows w (table work false)).work leasts))))
          (λ t. rw t (sym (ap (λ (xs : List ℕ). push_all capacity xs s) (picked_none (is_duplicate N rows w) w (none t)))))

      passed : is_done rows i work ≡ true → Tabling H N capacity rows work₀ list₀ (i + 1) work s
      passed t = record { scanning = scanning_passed H N capacity rows list₀ S.scanning b t; lows = S.lows; kept = S.kept }

      walked : is_done rows i work ≡ false
          → Tabling H N capacity rows work₀ list₀ (i + 1) (clear_all N rows w (enter_all N rows w (table work false)).work) (push_all capacity (picked (is_duplicate N rows w) w) s)
      walked t = record {
        scanning =
            scanning_walked H N capacity rows list₀ S.scanning b t _
            (λ k m. clear_walked w (enter_all N rows w (table work false)).work long_after k ∙ all_walked w (table work false) walk_in long_work k);
        lows = λ v m. clear_entry v w (enter_all N rows w (table work false)).work long_after (⊎_elim
            (λ e. inl (leasts v m ∙ e))
            (λ z. inr (z.0, z.1, z.2))
            (least_from N rows v w 0));
        kept = kept_trans S.kept (kept_trans kept_after (clear_kept w (enter_all N rows w (table work false)).work long_after));
      }

      pub tabling_on : (work' : List ℕ) (s' : Entries) → scan work' s' ≡ table_row H N capacity rows i (scan work s) → Tabling H N capacity rows work₀ list₀ (i + 1) work' s'
      unfolding table_row
      tabling_on work' s' e =
          by_test (is_done rows i work)
          (λ t. subst (λ (z : Scan). Tabling H N capacity rows work₀ list₀ (i + 1) z.work z.found) (sym (rw t at e)) (passed t))
          (λ t. subst (λ (z : Scan). Tabling H N capacity rows work₀ list₀ (i + 1) z.work z.found) (sym (rw t at e)) (subst (λ (x : Entries). Tabling H N capacity rows work₀ list₀ (i + 1) (clear_all N rows w (enter_all N rows w (table work false)).work) x) (sym found_is) (walked t)))
