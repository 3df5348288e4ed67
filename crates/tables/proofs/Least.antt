-- What stands at a vertex when those of a walk have entered: the least of them that ends there. So one that is not the least at its end is
-- one for which a smaller one ends there too.
use mathlib.Core.Path.{◌≡◌, refl, sym, ap, ◌∙◌}
use mathlib.Core.Bool.{Bool, true, false, cond, ◌&&◌, ◌||◌}
use mathlib.Core.List.{List, [], ◌∷◌}
use mathlib.Core.Logic.{◌⊎◌, inl, inr, ⊎_elim, ◌≢◌}
use Prim.Native.Nat.{ℕ, ◌+◌, ◌%◌, ◌<◌, ◌≤◌}
use native.Mathlib.Omega.{arith}
use native.Mathlib.Nat.{le_refl}
use borrow.Author.Tests.{eqb-true, eqb-false, ltb-true, ltb-false, eq-eqb, ne_eqb, lt-ltb}
use lib.Dec.{eqb, ltb}
use lib.IntN.{ℤ}
use lib.ListN.{get_or}
use Rattle.laws.specs.Integers.{eq_z}
use Rattle.laws.proofs.Tests.{by_test, not_both, and2, both2, or_cases, or_left, or_right}
use Rattle.laws.proofs.Integers.{eq_z_yes, eq_z_true}
use Rattle.numbers.specs.Numbers.{Named, at, nothing, names, is_named}
use Rattle.numbers.proofs.Names.{names_is, names_below}
use Rattle.rows.specs.Halfedges.{end_of}
use Rattle.searches.specs.Duplicates.{ends_alike, is_duplicate, is_in}
use Rattle.ordering.specs.inner.Order.{entry_limit, entry}
use Rattle.duplicates.specs.Scan.{picked}
use Rattle.tables.specs.Table.{lesser, is_over, is_over_at}

neither : (a b : Bool) → a || b ≡ false → (a ≡ false) × (b ≡ false)
neither true b e = not_both true refl e
neither false b e = (refl, e)

pub entry_small : (work : List ℕ) (k : ℕ) → entry work k < entry_limit
entry_small work k = small (get_or work k 0)
  where
    small : (x : ℕ) → x % entry_limit < entry_limit
    small x = omega arith

-- ---- of what stands at a vertex and c, the less
module _ (x c : ℕ) where
  pub lesser_is : (lesser x c ≡ x) ⊎ (lesser x c ≡ c + 1)
  unfolding lesser
  lesser_is = by_test (eqb x 0 || ltb c x) (λ t. inr (rw t)) (λ t. inl (rw t))

  pub lesser_some : lesser x c ≢ 0
  unfolding lesser
  lesser_some =
      by_test (eqb x 0 || ltb c x)
      (λ t. rw t (λ z. absurd (omega arith)))
      (λ t. rw t (eqb-false x 0 (neither (eqb x 0) (ltb c x) t).0))

  pub lesser_new : lesser x c ≤ c + 1
  unfolding lesser
  lesser_new =
      by_test (eqb x 0 || ltb c x)
      (λ t. rw t (le_refl _))
      (λ t. rw t (omega (arith, ltb-false c x (neither (eqb x 0) (ltb c x) t).1)))

  pub lesser_old : x ≢ 0 → lesser x c ≤ x
  unfolding lesser
  lesser_old n =
      by_test (eqb x 0 || ltb c x)
      (λ t. rw t (⊎_elim (λ e. absurd (n (eqb-true x 0 e))) (λ e. omega (arith, ltb-true c x e)) (or_cases (eqb x 0) (ltb c x) t)))
      (λ t. rw t (le_refl _))

  pub lesser_bound : (b : ℕ) → x < b → c + 1 < b → lesser x c < b
  lesser_bound b m n = ⊎_elim (λ e. omega (arith, e)) (λ e. omega (arith, e)) lesser_is

module _ (N : ℕ) (rows : List ℤ) where
  -- c ends at vertex v
  abbrev pub Ends : ℕ → ℕ → Type 0
  Ends c v = names (end_of rows c) N ≡ at v

  abbrev pub lowered : ℕ → ℕ → ℕ → Named → ℕ
  lowered v x c nothing = x
  lowered v x c (at u) = cond (eqb u v) (lesser x c) x

  -- what stands at v when those of a walk have entered, where x stood
  unfoldable pub least : ℕ → ℕ → List ℕ → ℕ
  least v x [] = x
  least v x (c ∷ cs) = least v (lowered v x c (names (end_of rows c) N)) cs

  lowered_is : (v x c : ℕ) (w : Named) → (lowered v x c w ≡ x) ⊎ ((w ≡ at v) × (lowered v x c w ≡ lesser x c))
  lowered_is v x c nothing = inl refl
  lowered_is v x c (at u) = by_test (eqb u v) (λ t. inr (ap at (eqb-true u v t), rw t)) (λ t. inl (rw t))

  lowered_ends : (v x c : ℕ) → Ends c v → lowered v x c (names (end_of rows c) N) ≡ lesser x c
  lowered_ends v x c e = rw (e, eq-eqb v v refl)

  pub lowered_some : (v x c : ℕ) (w : Named) → x ≢ 0 → lowered v x c w ≢ 0
  lowered_some v x c w n = ⊎_elim (λ e. rw e n) (λ e. rw e.1 (lesser_some x c)) (lowered_is v x c w)

  lowered_less : (v x c : ℕ) (w : Named) → x ≢ 0 → lowered v x c w ≤ x
  lowered_less v x c w n = ⊎_elim (λ e. rw e (le_refl x)) (λ e. rw e.1 (lesser_old x c n)) (lowered_is v x c w)

  least_keeps : (v : ℕ) (cs : List ℕ) (x : ℕ) → x ≢ 0 → (least v x cs ≢ 0) × (least v x cs ≤ x)
  unfolding least
  least_keeps v [] x n = (n, le_refl x)
  least_keeps v (c ∷ cs) x n =
      let w = names (end_of rows c) N in
      let p = least_keeps v cs (lowered v x c w) (lowered_some v x c w n) in
      (p.0, omega (arith, p.1, lowered_less v x c w n))

  pub least_under : (v : ℕ) (cs : List ℕ) (x d : ℕ) → is_in d cs ≡ true → Ends d v → (least v x cs ≢ 0) × (least v x cs ≤ d + 1)
  unfolding least is_in
  least_under v [] x d i e = not_both false i refl
  least_under v (c ∷ cs) x d i e =
      ⊎_elim
      (λ q.
      let s : d ≡ c = eqb-true d c q in
      let y : lowered v x c (names (end_of rows c) N) ≡ lesser x c = lowered_ends v x c (rw s at e) in
      let p = least_keeps v cs (lowered v x c (names (end_of rows c) N)) (rw y (lesser_some x c)) in
      (p.0, omega (arith, p.1, y, s, lesser_new x c)))
      (λ q. least_under v cs (lowered v x c (names (end_of rows c) N)) d q e)
      (or_cases (eqb d c) (is_in d cs) i)

  -- it is one of them, or what stood there
  abbrev pub From : ℕ → ℕ → List ℕ → Type 0
  From v x cs = (least v x cs ≡ x) ⊎ ((d : ℕ) × (is_in d cs ≡ true) × Ends d v × (least v x cs ≡ d + 1))

  pub least_from : (v : ℕ) (cs : List ℕ) (x : ℕ) → From v x cs
  unfolding least is_in
  least_from v [] x = inl refl
  least_from v (c ∷ cs) x =
      let w = names (end_of rows c) N in
      ⊎_elim
      (λ e. ⊎_elim
      (λ z. inl (z ∙ e))
      (λ z. inr (z.0, or_right (eqb z.0 c) (is_in z.0 cs) z.1, z.2, z.3))
      (least_from v cs (lowered v x c w)))
      (λ e. ⊎_elim
      (λ z. ⊎_elim
      (λ y. inl (z ∙ e.1 ∙ y))
      (λ y. inr (c, or_left (eqb c c) (is_in c cs) (eq-eqb c c refl), e.0, z ∙ e.1 ∙ y))
      (lesser_is x c))
      (λ z. inr (z.0, or_right (eqb z.0 c) (is_in z.0 cs) z.1, z.2, z.3))
      (least_from v cs (lowered v x c w)))
      (lowered_is v x c w)

  -- ---- a smaller one with the same end
  pub dup_tells : (w : List ℕ) (c : ℕ) → is_duplicate N rows w c ≡ true → (d : ℕ) × (is_in d w ≡ true) × (d < c) × (ends_alike N rows c d ≡ true)
  unfolding is_duplicate is_in
  dup_tells [] c e = not_both false e refl
  dup_tells (d ∷ ds) c e =
      ⊎_elim
      (λ q. let p = and2 (ltb d c) (ends_alike N rows c d) q in (d, or_left (eqb d d) (is_in d ds) (eq-eqb d d refl), ltb-true d c p.0, p.1))
      (λ q. let p = dup_tells ds c q in (p.0, or_right (eqb p.0 d) (is_in p.0 ds) p.1, p.2, p.3))
      (or_cases (ltb d c && ends_alike N rows c d) (is_duplicate N rows ds c) e)

  dup_yes : (w : List ℕ) (c d : ℕ) → is_in d w ≡ true → d < c → ends_alike N rows c d ≡ true → is_duplicate N rows w c ≡ true
  unfolding is_duplicate is_in
  dup_yes [] c d i b a = not_both false i refl
  dup_yes (e ∷ es) c d i b a =
      ⊎_elim
      (λ q.
      let s : d ≡ e = eqb-true d e q in
      or_left (ltb e c && ends_alike N rows c e) (is_duplicate N rows es c) (both2 (lt-ltb e c (rw s at b)) (rw s at a)))
      (λ q. or_right (ltb e c && ends_alike N rows c e) (is_duplicate N rows es c) (dup_yes es c d q b a))
      (or_cases (eqb d e) (is_in d es) i)

  pub alike_ends : (c d v : ℕ) → Ends c v → ends_alike N rows c d ≡ true → Ends d v
  alike_ends c d v e a =
      let p = and2 (is_named (names (end_of rows c) N)) (eq_z (end_of rows d) (end_of rows c)) a in
      ap (λ (z : ℤ). names z N) (eq_z_true (end_of rows d) (end_of rows c) p.1) ∙ e

  ends_are_alike : (c d v : ℕ) → Ends c v → Ends d v → ends_alike N rows c d ≡ true
  ends_are_alike c d v e f =
      both2 (ap is_named e) (eq_z_yes (end_of rows d) (end_of rows c) (names_is (end_of rows d) N f ∙ sym (names_is (end_of rows c) N e)))

  -- ---- so the table tells the duplicates
  pub over_is : (w work : List ℕ) → ((v : ℕ) → v < N → entry work v ≡ least v 0 w) → (c : ℕ) → is_in c w ≡ true → is_over N rows work c ≡ is_duplicate N rows w c
  unfolding is_over
  over_is w work f c i = go (names (end_of rows c) N) refl
    where
      go : (y : Named) → names (end_of rows c) N ≡ y → is_over_at work c y ≡ is_duplicate N rows w c
      go nothing e =
          by_test (is_duplicate N rows w c)
          (λ t.
          let p = dup_tells w c t in
          not_both (is_named (names (end_of rows c) N)) (and2 (is_named (names (end_of rows c) N)) (eq_z (end_of rows p.0) (end_of rows c)) p.3).0 (ap is_named e))
          (λ t. sym t)
      go (at v) e =
          let m = least v 0 w in
          let y : entry work v ≡ m = f v (names_below (end_of rows c) N e) in
          let u = least_under v w 0 c i e in
          by_test (is_duplicate N rows w c)
          (λ t.
          let p = dup_tells w c t in
          let k = least_under v w 0 p.0 p.1 (alike_ends c p.0 v e p.3) in
          rw (t, y, ne_eqb m (c + 1) (λ z. absurd (omega (arith, z, k.1, p.2)))))
          (λ t. rw (
            t,
            y,
            eq-eqb m (c + 1) (⊎_elim
                (λ z. absurd (u.0 z))
                (λ z. by_test (ltb z.0 c)
                (λ b. not_both (is_duplicate N rows w c) (dup_yes w c z.0 z.1 (ltb-true z.0 c b) (ends_are_alike c z.0 v e z.2)) t)
                (λ b. let q = z.3 in omega (arith, q, u.1, ltb-false z.0 c b)))
                (least_from v w 0)),
          ))

-- those of which two tests hold that agree on a list; and of which none does
pub picked_same : (f g : ℕ → Bool) (cs : List ℕ) → ((c : ℕ) → is_in c cs ≡ true → f c ≡ g c) → picked f cs ≡ picked g cs
unfolding picked is_in
picked_same f g [] h = refl
picked_same f g (c ∷ cs) h =
    rw (h c (or_left (eqb c c) (is_in c cs) (eq-eqb c c refl)), picked_same f g cs (λ d i. h d (or_right (eqb d c) (is_in d cs) i)))

pub picked_none : (f : ℕ → Bool) (cs : List ℕ) → ((c : ℕ) → is_in c cs ≡ true → f c ≡ false) → picked f cs ≡ []
unfolding picked is_in
picked_none f [] h = refl
picked_none f (c ∷ cs) h =
    rw (h c (or_left (eqb c c) (is_in c cs) (eq-eqb c c refl)), picked_none f cs (λ d i. h d (or_right (eqb d c) (is_in d cs) i)))
