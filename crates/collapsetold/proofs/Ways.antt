-- The two walks of a collapse about the start, on rows whose pairs are those of rows in order wherever the walk reads them: one carries
-- props, the other updates the vertex. What each leaves of every row, by whether it is on the way.
use mathlib.Core.Path.{◌≡◌, refl, sym, ap, ◌∙◌}
use mathlib.Core.Bool.{Bool, true, false}
use mathlib.Core.List.{List, [], ◌∷◌}
use mathlib.Core.Logic.{◌⊎◌, inl, inr}
use Prim.Native.Nat.{ℕ, zero, suc, ◌+◌, ◌%◌, ◌/◌, ◌<◌, ◌≤◌}
use native.Mathlib.Decide.{ℕ_discrete}
use native.Mathlib.Omega.{arith}
use borrow.Author.Tests.{eqb-true, eqb-false, eq-eqb}
use lib.Dec.{eqb}
use lib.IntN.{ℤ}
use lib.ListN.{length, get_or}
use Rattle.laws.proofs.Integers.{eq_z_no}
use Rattle.laws.proofs.Tests.{by_test}
use Rattle.numbers.specs.Numbers.{Named, at, nothing, names, named_or}
use Rattle.numbers.specs.Next.{next}
use Rattle.numbers.proofs.Names.{names_at, names_below}
use Rattle.numbers.proofs.NextLaws.{next_in, next_inj}
use Rattle.rows.specs.Halfedges.{end, pair, prop, start_of, end_of, pair_of, prop_of, lent_halfedges, rows_from}
use Rattle.rows.proofs.Columns.{column_written, other_row}
use Rattle.rows.specs.Triples.{reference, same_face}
use Rattle.net.specs.Sound.{InOrder, Live}
use Rattle.net.proofs.Sound.{live_row, next_live}
use Rattle.turning.specs.Fan.{iter}
use Rattle.turning.proofs.Orbit.{iter_suc}
use Rattle.steps.specs.Steps.{Middle, refused, with_rows}
use Rattle.walks.specs.Walk.{onward, moved, walk_to}
use Rattle.walks.specs.Way.{move, OnWay}
use Rattle.walks.proofs.Kept.{length_moved, other_moved}
use Rattle.walks.proofs.Told.{moved_end, moved_start, unmoved_end, unmoved_start, move_live, AsTold, way_on, way_back}
use Rattle.rings.specs.Ring.{Listing, ringed, listed_first, ring, find}
use Rattle.carrying.specs.Carried.{carried}
use Rattle.spinning.specs.Spin.{out, on, Fixed, turn_at, turn_once, Spun, spun, tired, inner, spin}
use Rattle.carrying.proofs.Kept.{carried_kept}
use Rattle.collapsetold.specs.Plain.{carry, along, meets}
use Rattle.collapsetold.specs.Collapsed.{prop_by}
use Rattle.collapsetold.proofs.Plain.{around, carried_other}

-- what carrying a prop to h writes, and what it leaves
module _ (props : Bool) (references : List ℤ) (e p h : ℕ) (l : List ℤ) where
  carried_off : (g : ℕ) → (g ≡ h → ⊥) → prop_of (carried props references e p h l) g ≡ prop_of l g
  unfolding carried
  carried_off g n =
      by_test props
      (λ t. rw t (by_test (same_face (reference references (h / 3)) (reference references (e / 3)))
      (λ u. rw u (other_row prop prop h g (prop_of l (next e)) l n))
      (λ u. rw u (by_test (same_face (reference references (h / 3)) (reference references (p / 3))) (λ w. rw w (other_row prop prop h g (prop_of l p) l n)) (λ w. rw w)))))
      (λ t. rw t)

  carried_here : h < lent_halfedges l → prop_of (carried props references e p h l) h ≡ prop_by props references e p l h
  unfolding carried
  carried_here b =
      by_test props
      (λ t. rw t (by_test (same_face (reference references (h / 3)) (reference references (e / 3)))
      (λ u. rw u (column_written prop h (prop_of l (next e)) l b))
      (λ u. rw u (by_test (same_face (reference references (h / 3)) (reference references (p / 3))) (λ w. rw w (column_written prop h (prop_of l p) l b)) (λ w. rw w)))))
      (λ t. rw t)

  -- the rule says the same afterwards
  module _ (b : h < lent_halfedges l) (n : h ≡ next e → ⊥) (m : h ≡ p → ⊥) where
    abbrev c : List ℤ
    c = carried props references e p h l

    rule_here : prop_by props references e p c h ≡ prop_by props references e p l h
    rule_here =
        by_test props
        (λ t. by_test (same_face (reference references (h / 3)) (reference references (e / 3)))
        (λ u. rw (t, u) (rw t at carried_off (next e) (λ q. n (sym q))))
        (λ u. by_test (same_face (reference references (h / 3)) (reference references (p / 3)))
        (λ w. rw (t, u, w) (rw t at carried_off p (λ q. m (sym q))))
        (λ w. rw (t, u, w) (rw (t, u, w) at carried_here b))))
        (λ t. rw t (rw t at carried_here b))

    pub rule_kept : (g : ℕ) → prop_by props references e p c g ≡ prop_by props references e p l g
    rule_kept g = go (ℕ_discrete g h)
      where
        go : Dec (g ≡ h) → prop_by props references e p c g ≡ prop_by props references e p l g
        go (yes q) = ap (prop_by props references e p c) q ∙ rule_here ∙ ap (prop_by props references e p l) (sym q)
        go (no q) = rw (carried_off (next e) (λ r. n (sym r)), carried_off p (λ r. m (sym r)), carried_off g q)

-- a search that finds none
find_nowhere : (rows : List ℤ) (z : ℤ) (list : List ℕ) (n k : ℕ) → ((i : ℕ) → k ≤ i → i < k + n → z ≡ end_of rows (get_or list i 0) → ⊥) → find rows z list k n ≡ nothing
unfolding find
find_nowhere rows z list zero k off = refl
find_nowhere rows z list (suc n) k off =
    rw (eq_z_no z (end_of rows (get_or list k 0)) (off k (omega arith) (omega arith))) (find_nowhere rows z list n (k + 1) (λ i b c. off i (omega arith) (omega arith)))

module _ (H N : ℕ) (R : List ℤ) (thirds : H % 3 ≡ 0) (lent : H ≤ lent_halfedges R) (in_order : (h : ℕ) → h < H → InOrder H N R h) where
  module _ (to : ℕ) where
    -- the pairs that the walk from here reads are those of R
    abbrev pub SamePairs : ℕ → List ℤ → Type 0
    SamePairs here l = (g : ℕ) → OnWay R here to g → pair_of l (next g) ≡ pair_of R (next g)

    on_way : {here g : ℕ} → (here ≡ to → ⊥) → g ≡ here → OnWay R here to g
    on_way {here} {g} n q = record { moves = 0; there = sym q; before = λ k b r. n (ap (λ (j : ℕ). iter (move R) j here) (let z : 0 ≡ k = omega arith in z) ∙ r) }

    off_way : {here g k : ℕ} → k ≤ 0 → iter (move R) k here ≡ to → OnWay R here to g → ⊥
    off_way {here} {g} {k} b e w = w.before 0 (omega arith) (ap (λ (i : ℕ). iter (move R) i here) (let z : 0 ≡ k = omega arith in z) ∙ e)

    goes : {here : ℕ} (l : List ℤ) → SamePairs here l → Live H R here → (here ≡ to → ⊥) → names (pair_of l (next here)) H ≡ at (move R here)
    goes {here} l same a n =
        let k = next_live H N R thirds in_order a in
        names_at (pair_of l (next here)) H (move R here) (same here (on_way n refl) ∙ k.paired) (live_row H N R thirds in_order k).pair_in

    onward_goes : {here : ℕ} (l : List ℤ) → SamePairs here l → Live H R here → (here ≡ to → ⊥) → onward H l here ≡ at (move R here)
    unfolding onward
    onward_goes l same a n = goes l same a n

    -- one move less
    fewer : (here n k : ℕ) → (here ≡ to → ⊥) → k ≤ suc n → iter (move R) k here ≡ to → (j : ℕ) × ((j ≤ n) × (iter (move R) j (move R here) ≡ to))
    fewer here n zero m b e = absurd (m e)
    fewer here n (suc j) m b e = (j, (omega arith, sym (iter_suc (move R) j here) ∙ e))

    moved_same : (v here : ℕ) (l : List ℤ) → SamePairs here l → SamePairs here (moved v here l)
    moved_same v here l same g w = other_moved v here l pair (λ q. omega arith) (λ q. omega arith) (next g) ∙ same g w

    live_on : {here : ℕ} → Live H R here → Live H R (move R here)
    live_on a = move_live H N R thirds lent in_order a

    -- the walk that updates comes to its end
    pub comes : (v n k here : ℕ) (l : List ℤ) → Live H R here → SamePairs here l → k ≤ n → iter (move R) k here ≡ to → (walk_to H n v here to l).there ≡ true
    unfolding walk_to
    comes v zero k here l a same b e = eq-eqb here to (ap (λ (i : ℕ). iter (move R) i here) (let z : 0 ≡ k = omega arith in z) ∙ e)
    comes v (suc n) k here l a same b e =
        by_test (eqb here to)
        (λ t. rw t)
        (λ t. let m = eqb-false here to t in
        let f = fewer here n k m b e in
        rw (t, onward_goes (moved v here l) (moved_same v here l same) a m)
        (comes v n f.0 (move R here) (moved v here l) (live_on a) (λ g w. moved_same v here l same g (way_on H N R thirds lent in_order m w)) f.1.0 f.1.1))

    -- and what it leaves
    pub updated : (v n k here : ℕ) (l : List ℤ) → Live H R here → SamePairs here l → length l ≡ length R → k ≤ n → iter (move R) k here ≡ to → (g : ℕ) →
        AsTold H N R thirds lent in_order v here to l (walk_to H n v here to l).rows g
    unfolding walk_to
    updated v zero k here l a same len b e g = inr (off_way b e, (refl, refl))
    updated v (suc n) k here l a same len b e g =
        by_test (eqb here to)
        (λ t. rw t (inr (λ w. w.before 0 (omega arith) (eqb-true here to t), (refl, refl))))
        (λ t. rw (t, onward_goes (moved v here l) (moved_same v here l same) a (eqb-false here to t))
        (later (eqb-false here to t) _
        (updated v n (fewer here n k (eqb-false here to t) b e).0 (move R here) (moved v here l) (live_on a) (λ i w. moved_same v here l same i (way_on H N R thirds lent in_order (eqb-false here to t) w)) (length_moved v here l ∙ len)
        (fewer here n k (eqb-false here to t) b e).1.0 (fewer here n k (eqb-false here to t) b e).1.1 g)))
      where
        later : (here ≡ to → ⊥) → (after : List ℤ) → AsTold H N R thirds lent in_order v (move R here) to (moved v here l) after g → AsTold H N R thirds lent in_order v here to l after g
        later m after (inl w) = inl (way_on H N R thirds lent in_order m w.0, w.1)
        later m after (inr w) = by_row (ℕ_discrete g here)
          where
            by_row : Dec (g ≡ here) → AsTold H N R thirds lent in_order v here to l after g
            by_row (yes q) =
                let c : next here < lent_halfedges l = rw len (omega (arith, next_in here H a.in_use thirds)) in
                let d : here < lent_halfedges l = rw len (omega (arith, a.in_use)) in
                inl (
                  on_way m q,
                  (w.1.0 ∙ ap (end_of (moved v here l)) q ∙ moved_end v here l d, w.1.1 ∙ ap (λ (i : ℕ). start_of (moved v here l) (next i)) q ∙ moved_start v here l c),
                )
            by_row (no q) = inr (λ x. w.0 (way_back H N R thirds lent in_order q x), (w.1.0 ∙ unmoved_end v here l g q, w.1.1 ∙ unmoved_start v here l g q))

    -- what the walk lists: the nexts of the rows on its way
    pub record Lists (here : ℕ) (x : Listing) : Type 0 where
      pub list : List ℕ
      pub is : x ≡ ringed list
      pub members : (i : ℕ) → i < length list → (k : ℕ) × (OnWay R here to k × (get_or list i 0 ≡ next k))

    pub listed : (n k here : ℕ) → Live H R here → k ≤ n → iter (move R) k here ≡ to → Lists here (ring H to R n here)
    unfolding ring
    listed zero k here a b e =
        let t = eq-eqb here to (ap (λ (i : ℕ). iter (move R) i here) (let z : 0 ≡ k = omega arith in z) ∙ e) in
        rw t (record { list = []; is = refl; members = λ i c. absurd (omega arith) })
    listed (suc n) k here a b e =
        by_test (eqb here to)
        (λ t. rw t (record { list = []; is = refl; members = λ i c. absurd (omega arith) }))
        (λ t. rw (t, goes R (λ g w. refl) a (eqb-false here to t))
        (more (eqb-false here to t) (ring H to R n (move R here)) (listed n (fewer here n k (eqb-false here to t) b e).0 (move R here) (live_on a) (fewer here n k (eqb-false here to t) b e).1.0 (fewer here n k (eqb-false here to t) b e).1.1)))
      where
        more : (here ≡ to → ⊥) → (x : Listing) → Lists (move R here) x → Lists here (listed_first (next here) x)
        more m x w = record { list = next here ∷ w.list; is = rw w.is; members = each }
          where
            each : (i : ℕ) → i < length (next here ∷ w.list) → (k : ℕ) × (OnWay R here to k × (get_or (next here ∷ w.list) i 0 ≡ next k))
            each zero c = (here, (on_way m refl, refl))
            each (suc i) c = let z = w.members i (omega arith) in (z.0, (way_on H N R thirds lent in_order m z.1.0, z.1.1))

  -- the walk that carries props
  module _ (capacity : ℕ) (props : Bool) (references : List ℤ) (e p : ℕ) (list : List ℕ) where
    abbrev s : Fixed
    s = around H capacity props references e p list

    abbrev pub AsCarried : ℕ → List ℤ → List ℤ → ℕ → Type 0
    AsCarried here l after g =
        (OnWay R here (next (next e)) g × (prop_of after (next g) ≡ prop_by props references e p l (next g)))
        ⊎ ((OnWay R here (next (next e)) g → ⊥) × (prop_of after (next g) ≡ prop_of l (next g)))

    -- it writes neither the prop of the edge's next nor that of the partner
    abbrev pub Spares : ℕ → Type 0
    Spares here = (g : ℕ) → OnWay R here (next (next e)) g → (next g ≡ next e → ⊥) × (next g ≡ p → ⊥)

    carry_same : (here : ℕ) (l : List ℤ) → SamePairs (next (next e)) here l → SamePairs (next (next e)) here (carry s here l)
    carry_same here l same g w = carried_other pair (λ q. omega arith) props references e p (next here) (next g) l ∙ same g w

    pub carried_along : (n k here : ℕ) (l : List ℤ) → Live H R here → SamePairs (next (next e)) here l → Spares here → length l ≡ length R → k ≤ n → iter (move R) k here ≡ next (next e) → (g : ℕ) →
        AsCarried here l (along s n here l) g
    unfolding along
    carried_along zero k here l a same off len b q g = inr (off_way (next (next e)) b q, refl)
    carried_along (suc n) k here l a same off len b q g =
        by_test (eqb here (next (next e)))
        (λ t. rw t (inr (λ w. w.before 0 (omega arith) (eqb-true here (next (next e)) t), refl)))
        (λ t. rw (t, goes (next (next e)) (carry s here l) (carry_same here l same) a (eqb-false here (next (next e)) t))
        (later (eqb-false here (next (next e)) t) _
        (carried_along n (fewer (next (next e)) here n k (eqb-false here (next (next e)) t) b q).0 (move R here) (carry s here l) (live_on (next (next e)) a)
        (λ i w. carry_same here l same i (way_on H N R thirds lent in_order (eqb-false here (next (next e)) t) w))
        (λ i w. off i (way_on H N R thirds lent in_order (eqb-false here (next (next e)) t) w))
        ((carried_kept H props references e p (next here) l (next_in here H a.in_use thirds)).1 ∙ len)
        (fewer (next (next e)) here n k (eqb-false here (next (next e)) t) b q).1.0 (fewer (next (next e)) here n k (eqb-false here (next (next e)) t) b q).1.1 g)))
      where
        room : next here < lent_halfedges l
        room = rw len (omega (arith, next_in here H a.in_use thirds))

        later : (here ≡ next (next e) → ⊥) → (after : List ℤ) → AsCarried (move R here) (carry s here l) after g → AsCarried here l after g
        later m after (inl w) =
            let o = off here (on_way (next (next e)) m refl) in
            inl (way_on H N R thirds lent in_order m w.0, w.1 ∙ rule_kept props references e p (next here) l room o.0 o.1 (next g))
        later m after (inr w) = by_row (ℕ_discrete g here)
          where
            by_row : Dec (g ≡ here) → AsCarried here l after g
            by_row (yes r) = inl (
              on_way (next (next e)) m r,
              w.1 ∙ ap (λ (i : ℕ). prop_of (carry s here l) (next i)) r ∙ carried_here props references e p (next here) l room ∙ ap (λ (i : ℕ). prop_by props references e p l (next i)) (sym r),
            )
            by_row (no r) = inr (λ x. w.0 (way_back H N R thirds lent in_order r x), w.1 ∙ carried_off props references e p (next here) l (next g) (λ z. r (next_inj g here z)))

    -- a walk whose nexts end nowhere where a listed row does meets none
    pub meets_none : (len n here : ℕ) (l : List ℤ) → Live H R here → SamePairs (next (next e)) here l →
        ((g : ℕ) → OnWay R here (next (next e)) g → (i : ℕ) → i < len → end_of l (next g) ≡ end_of l (get_or list i 0) → ⊥) → meets s len n here l ≡ false
    unfolding meets
    meets_none len zero here l a same off = refl
    meets_none len (suc n) here l a same off =
        by_test (eqb here (next (next e)))
        (λ t. rw t)
        (λ t. rw (t, goes (next (next e)) (carry s here l) (carry_same here l same) a (eqb-false here (next (next e)) t), nowhere (eqb-false here (next (next e)) t))
        (meets_none len n (move R here) (carry s here l) (live_on (next (next e)) a)
        (λ i w. carry_same here l same i (way_on H N R thirds lent in_order (eqb-false here (next (next e)) t) w))
        (λ g w i c q. off g (way_on H N R thirds lent in_order (eqb-false here (next (next e)) t) w) i c (sym (ends (next g)) ∙ q ∙ ends (get_or list i 0)))))
      where
        ends : (g : ℕ) → end_of (carry s here l) g ≡ end_of l g
        ends g = carried_other end (λ q. omega arith) props references e p (next here) g l

        nowhere : (here ≡ next (next e) → ⊥) → find (carry s here l) (end_of (carry s here l) (next here)) list 0 len ≡ nothing
        nowhere m = find_nowhere (carry s here l) (end_of (carry s here l) (next here)) list len 0 (λ i c d q. off here (on_way (next (next e)) m refl) i (omega arith) (sym (ends (next here)) ∙ q ∙ ends (get_or list i 0)))

    -- such a walk is not refused where it comes to its end
    tired_there : (c : ℕ) (m : Middle) → c ≡ next (next e) → tired (next (next e)) c m ≡ m
    unfolding tired
    tired_there c m q = by_test (refused m) (λ t. rw t) (λ t. rw (t, eq-eqb c (next (next e)) q))

    turn_out : (len c : ℕ) (m : Middle) → eqb c (next (next e)) ≡ true → turn_once s len c m ≡ out m
    unfolding turn_once
    turn_out len c m q = by_test (refused m) (λ t. rw t) (λ t. rw (t, q))

    turn_on : (len c q : ℕ) (m : Middle) → refused m ≡ false → eqb c (next (next e)) ≡ false → names (pair_of (carry s c m.halfedges) (next c)) H ≡ at q →
        find (carry s c m.halfedges) (end_of (carry s c m.halfedges) (next c)) list 0 len ≡ nothing → turn_once s len c m ≡ on (with_rows (carry s c m.halfedges) m) q
    unfolding turn_once turn_at
    turn_on len c q m g t u w = rw (g, t, u, w)

    inner_goes : (anew : Middle → ℕ → ℕ → Spun) (len from n k here : ℕ) (m : Middle) → refused m ≡ false → Live H R here → SamePairs (next (next e)) here m.halfedges →
        ((g : ℕ) → OnWay R here (next (next e)) g → (i : ℕ) → i < len → end_of m.halfedges (next g) ≡ end_of m.halfedges (get_or list i 0) → ⊥) →
        k ≤ n → iter (move R) k here ≡ next (next e) → refused (inner anew s n from len here m).middle ≡ false
    unfolding inner
    inner_goes anew len from zero k here m g a same off b q =
        ap (λ (x : Middle). refused x) (tired_there here m (ap (λ (i : ℕ). iter (move R) i here) (let z : 0 ≡ k = omega arith in z) ∙ q)) ∙ g
    inner_goes anew len from (suc n) k here m g a same off b q =
        by_test (eqb here (next (next e)))
        (λ t. rw (turn_out len here m t) g)
        (λ t. let o = eqb-false here (next (next e)) t in
        let f = fewer (next (next e)) here n k o b q in
        rw (turn_on len here (move R here) m g t (goes (next (next e)) (carry s here m.halfedges) (carry_same here m.halfedges same) a o) (nowhere o))
        (inner_goes anew len from n f.0 (move R here) (with_rows (carry s here m.halfedges) m) g (live_on (next (next e)) a)
        (λ i w. carry_same here m.halfedges same i (way_on H N R thirds lent in_order o w))
        (λ i w j c r. off i (way_on H N R thirds lent in_order o w) j c (sym (ends (next i)) ∙ r ∙ ends (get_or list j 0)))
        f.1.0 f.1.1))
      where
        ends : (g : ℕ) → end_of (carry s here m.halfedges) g ≡ end_of m.halfedges g
        ends g = carried_other end (λ q. omega arith) props references e p (next here) g m.halfedges

        nowhere : (here ≡ next (next e) → ⊥) → find (carry s here m.halfedges) (end_of (carry s here m.halfedges) (next here)) list 0 len ≡ nothing
        nowhere o = find_nowhere (carry s here m.halfedges) (end_of (carry s here m.halfedges) (next here)) list len 0 (λ i c d q. off here (on_way (next (next e)) o refl) i (omega arith) (sym (ends (next here)) ∙ q ∙ ends (get_or list i 0)))

    pub spin_goes : (r len from n k here : ℕ) (m : Middle) → refused m ≡ false → Live H R here → SamePairs (next (next e)) here m.halfedges →
        ((g : ℕ) → OnWay R here (next (next e)) g → (i : ℕ) → i < len → end_of m.halfedges (next g) ≡ end_of m.halfedges (get_or list i 0) → ⊥) →
        k ≤ n → iter (move R) k here ≡ next (next e) → refused (spin r s n from len here m).middle ≡ false
    unfolding spin
    spin_goes zero len from n k here m g a same off b q = inner_goes (λ x i j. spun x i) len from n k here m g a same off b q
    spin_goes (suc r) len from n k here m g a same off b q = inner_goes (λ x i j. spin r s s.halfedges i j i x) len from n k here m g a same off b q

    -- the free rows, and how many there are
    pub along_kept : (n here : ℕ) (l : List ℤ) → here < H → (rows_from H (along s n here l) ≡ rows_from H l) × (length (along s n here l) ≡ length l)
    unfolding along
    along_kept zero here l b = (refl, refl)
    along_kept (suc n) here l b =
        by_test (eqb here (next (next e)))
        (λ t. rw t (refl, refl))
        (λ t. rw t (go (names (pair_of (carry s here l) (next here)) H) refl (λ q c. along_kept n q (carry s here l) c)))
      where
        go : (w : Named) → names (pair_of (carry s here l) (next here)) H ≡ w →
            ((q : ℕ) → q < H → (rows_from H (along s n q (carry s here l)) ≡ rows_from H (carry s here l)) × (length (along s n q (carry s here l)) ≡ length (carry s here l))) →
            (rows_from H (named_or (carry s here l) w (λ q. along s n q (carry s here l))) ≡ rows_from H l) × (length (named_or (carry s here l) w (λ q. along s n q (carry s here l))) ≡ length l)
        go nothing d again = carried_kept H props references e p (next here) l (next_in here H b thirds)
        go (at q) d again =
            let k = carried_kept H props references e p (next here) l (next_in here H b thirds) in
            let a = again q (names_below (pair_of (carry s here l) (next here)) H d) in
            (a.0 ∙ k.0, a.1 ∙ k.1)
