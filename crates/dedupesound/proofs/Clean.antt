-- A round that lists nothing, over rows in order: no two different live half-edges of one fan have the same end.
use mathlib.Core.Path.{◌≡◌, refl, sym, ap, ◌∙◌}
use mathlib.Core.Bool.{true, false, true≢false, ◌&&◌, ◌||◌, not}
use mathlib.Core.List.{List, [], ◌∷◌, ◌++◌}
use mathlib.Core.Logic.{⊎_elim}
use Prim.Native.Nat.{ℕ, zero, suc, ◌%◌, ◌<◌, ◌≤◌}
use native.Mathlib.Nat.{le_refl}
use native.Mathlib.Decide.{dec_lt, ℕ_discrete}
use native.Mathlib.Omega.{arith}
use borrow.Author.Tests.{eq-eqb, ne_eqb, eqb-true, lt-ltb, le-leb}
use lib.Dec.{eqb, ltb}
use lib.IntN.{ℤ, pos-ne-negsuc}
use Rattle.laws.proofs.Integers.{eq_z_yes, from_zero}
use Rattle.laws.proofs.Tests.{by_test, both2, or_cases, or_left, or_right}
use Rattle.numbers.specs.Numbers.{at, names, is_named}
use Rattle.numbers.proofs.Names.{names_at}
use Rattle.rows.specs.Halfedges.{start_of, end_of, pair_of, none, is_started, is_ended}
use Rattle.net.specs.Sound.{start_vertex, end_vertex, partner, turn, LiveRow, InOrder, Live}
use Rattle.net.proofs.Sound.{live_row, live_or_dead}
use Rattle.turning.specs.Fan.{iter, Reach, Turning}
use Rattle.turning.proofs.Fans.{turning}
use Rattle.turning.proofs.Orbit.{Period, iter_suc, live_reach, reach_trans, period, soon}
use Rattle.searches.specs.Duplicates.{turns, fan, ends_alike, is_duplicate, those, is_in, Search, search, search_row, search_rows, duplicates}
use Rattle.dedupesound.specs.Clean.{NoDuplicates}

-- membership
in_append : (h : ℕ) (xs ys : List ℕ) → is_in h (xs ++ ys) ≡ is_in h xs || is_in h ys
unfolding is_in
in_append h [] ys = refl
in_append h (x ∷ xs) ys = by_test (eqb h x) (λ t. rw t) (λ t. rw (t, in_append h xs ys))

nothing_appended : (xs ys : List ℕ) → xs ++ ys ≡ [] → (xs ≡ []) × (ys ≡ [])
nothing_appended [] ys e = (refl, e)
nothing_appended (x ∷ xs) ys e = let z : ◌≡◌ {A = ℕ} 0 1 = cc in absurd (omega arith)

module _ (H N : ℕ) (rows : List ℤ) where
  -- nothing listed: none is a duplicate
  those_none : (w cs : List ℕ) → those N rows w cs ≡ [] → (c : ℕ) → is_in c cs ≡ true → is_duplicate N rows w c ≡ false
  unfolding those is_in
  those_none w [] e c t = absurd (true≢false (sym t))
  those_none w (x ∷ cs) e c t =
      by_test (is_duplicate N rows w x)
      (λ u. let z : x ∷ those N rows w cs ≡ [] = rw u at e in let y : ◌≡◌ {A = ℕ} 0 1 = cc in absurd (omega arith))
      (λ u. ⊎_elim (λ k. rw (eqb-true c x k) u) (λ k. those_none w cs (rw u at e) c k) (or_cases (eqb c x) (is_in c cs) t))

  -- a smaller one with the same end makes a duplicate
  duplicate_yes : (w : List ℕ) (c d : ℕ) → is_in d w ≡ true → d < c → ends_alike N rows c d ≡ true → is_duplicate N rows w c ≡ true
  unfolding is_duplicate is_in
  duplicate_yes [] c d t b a = absurd (true≢false (sym t))
  duplicate_yes (x ∷ w) c d t b a =
      ⊎_elim
      (λ k. let z = eqb-true d x k in or_left (ltb x c && ends_alike N rows c x) _ (rw (← z) (both2 (lt-ltb d c b) a)))
      (λ k. or_right (ltb x c && ends_alike N rows c x) _ (duplicate_yes w c d k b a))
      (or_cases (eqb d x) (is_in d w) t)

module _ (H N : ℕ) (rows : List ℤ) (thirds : H % 3 ≡ 0) (in_order : (h : ℕ) → h < H → InOrder H N rows h) where
  abbrev T : Turning H (Live H rows) (turn rows)
  T = turning H N rows thirds in_order

  abbrev row : {h : ℕ} → Live H rows h → LiveRow H N rows h
  row l = live_row H N rows thirds in_order l

  partner_named : {c : ℕ} → Live H rows c → names (pair_of rows c) H ≡ at (partner rows c)
  partner_named {c} l = names_at (pair_of rows c) H (partner rows c) l.paired (row l).pair_in

  -- a fan holds every turn before it is home, and no other
  turns_in : (home n j c : ℕ) → Live H rows c → 0 < j → j ≤ n → ((k : ℕ) → 0 < k → k ≤ j → iter (turn rows) k c ≡ home → ⊥) → is_in (iter (turn rows) j c) (turns H rows home n c) ≡ true
  unfolding turns is_in
  turns_in home zero j c l a b f = absurd (omega arith)
  turns_in home (suc n) zero c l a b f = absurd (omega arith)
  turns_in home (suc n) (suc zero) c l a b f = rw (partner_named l, ne_eqb (turn rows c) home (f 1 (omega arith) (omega arith)), eq-eqb (turn rows c) (turn rows c) refl)
  turns_in home (suc n) (suc (suc j)) c l a b f =
      let deep = turns_in home n (suc j) (turn rows c) (T.stays c l) (omega arith) (omega arith) (λ k i m z. f (suc k) (omega arith) (omega arith) (iter_suc (turn rows) k c ∙ z)) in
      let step = sym (iter_suc (turn rows) (suc j) c) in
      rw (partner_named l, ne_eqb (turn rows c) home (f 1 (omega arith) (omega arith))) (or_right (eqb (iter (turn rows) (suc (suc j)) c) (turn rows c)) _ (ap (λ (x : ℕ). is_in x (turns H rows home n (turn rows c))) (sym step) ∙ deep))

  fan_in : {i g : ℕ} → Live H rows i → Reach (turn rows) i g → is_in g (fan H rows i) ≡ true
  unfolding is_in
  fan_in {i} {g} l r =
      let p = period T i l in
      let s = soon T i p r.0 in
      go p s.0 s.1 (s.2 ∙ r.1)
    where
      go : (p : Period (turn rows) H i) (k : ℕ) → k < p.p → iter (turn rows) k i ≡ g → eqb g i || is_in g (turns H rows i H i) ≡ true
      go p zero b z = or_left (eqb g i) _ (eq-eqb g i (sym z))
      go p (suc k) b z = or_right (eqb g i) _ (rw (← z) (turns_in i H (suc k) i l (omega arith) (let q = p.le in omega arith) (λ j a c y. p.first j a (omega arith) y)))

  turns_reach : (home n c x : ℕ) → Live H rows c → is_in x (turns H rows home n c) ≡ true → Reach (turn rows) c x
  unfolding turns is_in
  turns_reach home zero c x l t = absurd (true≢false (sym t))
  turns_reach home (suc n) c x l t =
      by_test (eqb (turn rows c) home)
      (λ u. absurd (true≢false (sym (rw (partner_named l, u) at t))))
      (λ u. ⊎_elim
      (λ k. (1, sym (eqb-true x (turn rows c) k)))
      (λ k. let r = turns_reach home n (turn rows c) x (T.stays c l) k in (suc r.0, iter_suc (turn rows) r.0 c ∙ r.1))
      (or_cases (eqb x (turn rows c)) (is_in x (turns H rows home n (turn rows c))) (rw (partner_named l, u) at t)))

  fan_reach : {i h : ℕ} → Live H rows i → is_in h (fan H rows i) ≡ true → Reach (turn rows) i h
  unfolding is_in
  fan_reach {i} {h} l t = ⊎_elim (λ k. (0, sym (eqb-true h i k))) (λ k. turns_reach i H i h l k) (or_cases (eqb h i) (is_in h (turns H rows i H i)) t)

  -- a live half-edge has start and end, a dead one none
  live_counts : {h : ℕ} → Live H rows h → is_started rows h && is_ended rows h ≡ true
  live_counts {h} l = rw ((row l).start_is, (row l).end_is) (both2 (le-leb 0 (start_vertex rows h) (omega arith)) (le-leb 0 (end_vertex rows h) (omega arith)))

  counts_live : (h : ℕ) → h < H → is_started rows h ≡ true → Live H rows h
  counts_live h b t = ⊎_elim (λ u. u.0) (λ u. absurd (pos-ne-negsuc _ _ (sym (from_zero (start_of rows h) t) ∙ u.1.this.start_none))) (live_or_dead H N rows thirds in_order h b)

  -- what the walks have met lies in a fan of which nothing was listed
  record Cover (h : ℕ) : Type 0 where
    lead : ℕ
    live : Live H rows lead
    inside : is_in h (fan H rows lead) ≡ true
    none_listed : those N rows (fan H rows lead) (fan H rows lead) ≡ []

  record Covers (i : ℕ) (s : Search) : Type 0 where
    met : (h : ℕ) → is_in h s.seen ≡ true → Cover h
    all : (h : ℕ) → h < i → Live H rows h → is_in h s.seen ≡ true

  row_covers : (i : ℕ) (s : Search) → i < H → (s.list ≡ [] → Covers i s) → (search_row H N rows i s).list ≡ [] → Covers (suc i) (search_row H N rows i s)
  unfolding search_row
  row_covers i s b before e =
      by_test (is_in i s.seen || not (is_started rows i && is_ended rows i))
      (λ t. rw t (passed t (before (rw t at e))))
      (λ t. rw t (walked t (nothing_appended s.list _ (rw t at e))))
    where
      passed : is_in i s.seen || not (is_started rows i && is_ended rows i) ≡ true → Covers i s → Covers (suc i) s
      passed t c = record { met = c.met; all = λ h a l. by_row h a l (ℕ_discrete h i) }
        where
          by_row : (h : ℕ) → h < suc i → Live H rows h → Dec (h ≡ i) → is_in h s.seen ≡ true
          by_row h a l (no n) = c.all h (omega arith) l
          by_row h a l (yes z) = rw z (⊎_elim (λ k. k) (λ k. absurd (true≢false (sym k ∙ ap not (live_counts (rw (← z) l))))) (or_cases (is_in i s.seen) _ t))

      walked : is_in i s.seen || not (is_started rows i && is_ended rows i) ≡ false → (s.list ≡ []) × (those N rows (fan H rows i) (fan H rows i) ≡ []) →
          Covers (suc i) (search (s.seen ++ fan H rows i) (s.list ++ those N rows (fan H rows i) (fan H rows i)))
      walked t (a, none) = record {
        met = λ h k. ⊎_elim (λ u. (before a).met h u) (λ u. record { lead = i; live = live_i; inside = u; none_listed = none }) (or_cases (is_in h s.seen) (is_in h (fan H rows i)) (sym (in_append h s.seen (fan H rows i)) ∙ k));
        all = λ h c l. by_row h c l (ℕ_discrete h i);
      }
        where
          live_i : Live H rows i
          live_i = by_test (is_started rows i) (λ u. counts_live i b u) (λ u. absurd (true≢false (sym (or_right (is_in i s.seen) _ (rw u refl)) ∙ t)))

          by_row : (h : ℕ) → h < suc i → Live H rows h → Dec (h ≡ i) → is_in h (s.seen ++ fan H rows i) ≡ true
          by_row h c l (no n) = in_append h s.seen (fan H rows i) ∙ or_left (is_in h s.seen) _ ((before a).all h (omega arith) l)
          by_row h c l (yes z) = in_append h s.seen (fan H rows i) ∙ or_right (is_in h s.seen) _ (rw z (fan_in live_i (0, refl)))

  rows_cover : (i : ℕ) → i ≤ H → (search_rows H N rows i).list ≡ [] → Covers i (search_rows H N rows i)
  unfolding search_rows is_in
  rows_cover zero b e = record { met = λ h k. absurd (true≢false (sym k)); all = λ h a l. absurd (omega arith) }
  rows_cover (suc i) b e = row_covers i (search_rows H N rows i) (omega arith) (λ z. rows_cover i (omega arith) z) e

  -- no two different live half-edges of one fan have the same end
  pub no_duplicates : duplicates H N rows ≡ [] → NoDuplicates H rows
  no_duplicates e h g l r z =
      let all = rows_cover H (le_refl _) e in
      let c = all.met h (all.all h l.in_use l) in
      let in_g = fan_in c.live (reach_trans (turn rows) (fan_reach c.live c.inside) r) in
      let lg = live_reach T l r in
      go c in_g lg (dec_lt h g) (dec_lt g h)
    where
      alike : (x y : ℕ) → Live H rows y → end_of rows x ≡ end_of rows y → ends_alike N rows y x ≡ true
      alike x y k q = both2 (ap is_named (names_at (end_of rows y) N (end_vertex rows y) (row k).end_is (row k).end_in)) (eq_z_yes (end_of rows x) (end_of rows y) q)

      go : (c : Cover h) → is_in g (fan H rows c.lead) ≡ true → Live H rows g → Dec (h < g) → Dec (g < h) → h ≡ g
      go c k lg (yes b) d = absurd (true≢false (sym (duplicate_yes H N rows (fan H rows c.lead) g h c.inside b (alike h g lg z)) ∙ those_none H N rows (fan H rows c.lead) (fan H rows c.lead) c.none_listed g k))
      go c k lg (no n) (yes b) = absurd (true≢false (sym (duplicate_yes H N rows (fan H rows c.lead) h g k b (alike g h l (sym z))) ∙ those_none H N rows (fan H rows c.lead) (fan H rows c.lead) c.none_listed h c.inside))
      go c k lg (no n) (no m) = omega arith
