-- The loops that walk about a vertex, turn by turn: what is still to be walked, put to what is done, is the whole walk. One law for
-- each thing that a walk leaves: the order of the visits, new starts and ends.
use mathlib.Core.Path.{◌≡◌, refl, sym, ap, ◌∙◌, subst}
use mathlib.Core.Logic.{◌⊎◌, inl, inr, ◌≢◌}
use mathlib.Core.Bool.{Bool}
use mathlib.Core.List.{List, [], ◌∷◌}
use Prim.Native.Nat.{ℕ, ◌+◌, ◌-◌, ◌<◌}
use native.Mathlib.Numerals.{add-one}
use native.Mathlib.Omega.{arith}
use lib.IntN.{ℤ}
use lib.ListN.{length, length-set}
use Rattle.rows.specs.Halfedges.{pair_of}
use Rattle.net.specs.Sound.{turn, Live}
use Rattle.turning.specs.Walk.{walk, walk_end}
use Rattle.turning.proofs.Walk.{Left, walk_step, walk_end_step, walk_none, walk_end_none, walk_some}
use Rattle.splitting.specs.inner.Needs.{Round}
use Rattle.splitting.specs.Steps.{relabel, relabel_walk}
use Rattle.ordering.specs.inner.Order.{see, place, last_entry, entry_of, order_walk}
use Rattle.ordering.specs.inner.Needs.{FanOrder}
use Rattle.ordering.proofs.Walks.{entry_home, entry_elsewhere}
use Rattle.splitting.proofs.Net.{same_turn}
use Rattle.splitting.proofs.Rows.{length_relabel, relabel_pair}

-- ---- the order, and where the walk ends
pub record Ordering (rows : List ℤ) (H i : ℕ) (first : Bool) (steps : ℕ) (work₀ work : List ℕ) (c k left : ℕ) : Type 0 where
  pub live : Live H rows c
  pub works : order_walk first i k (walk (turn rows) left i c) work ≡ order_walk first i steps (walk (turn rows) H i i) work₀
  pub ends : walk_end (turn rows) left i c ≡ walk_end (turn rows) H i i
  pub places : k + length (walk (turn rows) left i c) ≡ steps + length (walk (turn rows) H i i)
  pub work_len : length work ≡ length work₀
  pub away : (c ≢ i) ⊎ (left ≡ H)

module _ {rows : List ℤ} {H i : ℕ} {first : Bool} {steps : ℕ} {work₀ : List ℕ} (Q : FanOrder H rows work₀ i steps) where
  pub ordering_begins : Ordering rows H i first steps work₀ work₀ i steps H
  ordering_begins = record { live = Q.live; works = refl; ends = refl; places = refl; work_len = refl; away = inr refl }

  module _ {work : List ℕ} {c k left : ℕ} (L : Ordering rows H i first steps work₀ work c k left) where
    -- the fan closes, so a walk that has no turns left is home
    pub ordering_never : left ≡ 0 → ⊥
    ordering_never e = go L.away
      where
        go : (c ≢ i) ⊎ (left ≡ H) → ⊥
        go (inl n) = n (sym (walk_end_none (turn rows) left i c e) ∙ L.ends ∙ Q.closes)
        go (inr z) = omega (arith, Q.live.in_use)

    module _ (b : 0 < left) where
      pub ordering_place : k < H
      ordering_place = omega (arith, L.places, Q.fits, walk_some (turn rows) left i c b)

      module _ (c' : ℕ) (e : c' ≡ turn rows c) where
        ordering_live : Live H rows c'
        ordering_live = subst (Live H rows) (sym e) (Q.round.goes L.live)

        -- one turn more of the walk
        walk_on : (left' : ℕ) → Left i left c' left' → walk (turn rows) left i c ≡ c' ∷ walk (turn rows) left' i c'
        walk_on left' s =
            subst (λ x. walk (turn rows) left i c ≡ x ∷ walk (turn rows) left' i x) (sym e)
            (walk_step (turn rows) left i c left' b (subst (λ x. Left i left x left') e s))

        pub ordering_on : c' ≢ i → (work' : List ℕ) → work' ≡ place k c' (see c' work) → Ordering rows H i first steps work₀ work' c' (k + 1) (left - 1)
        unfolding order_walk
        ordering_on n work' q =
            let u = walk_on (left - 1) (inr (n, refl)) in
            record {
              live = ordering_live;
              works =
                  ap (order_walk first i (k + 1) (walk (turn rows) (left - 1) i c')) (q ∙ ap (λ x. place k x (see c' work)) (sym (entry_elsewhere first i c' n)))
                  ∙ ap (λ m. order_walk first i m (walk (turn rows) (left - 1) i c') (place k (entry_of first i c') (see c' work))) (add-one k)
                  ∙ ap (λ l. order_walk first i k l work) (sym u) ∙ L.works;
              ends =
                  ap (walk_end (turn rows) (left - 1) i) e ∙ sym (walk_end_step (turn rows) left i c (left - 1) b (subst (λ x. Left i left x (left - 1)) e (inr (n, refl)))) ∙ L.ends;
              places = omega (arith, L.places, ap length u);
              work_len = ap length q ∙ length-set (see c' work) k _ ∙ length-set work c' _ ∙ L.work_len;
              away = inl n;
            }

        pub ordering_home : c' ≡ i → (work' : List ℕ) → work' ≡ place k (last_entry first c') (see c' work)
            → (work' ≡ order_walk first i steps (walk (turn rows) H i i) work₀) × (k + 1 ≡ steps + length (walk (turn rows) H i i))
        unfolding order_walk
        ordering_home n work' q =
            let u : walk (turn rows) left i c ≡ c' ∷ [] = walk_on 0 (inl (n, refl)) ∙ ap (λ l. c' ∷ l) (walk_none (turn rows) 0 i c' refl) in (
              q ∙ ap (λ x. place k x (see c' work)) (sym (entry_home first i c' n)) ∙ ap (λ l. order_walk first i k l work) (sym u) ∙ L.works,
              omega (arith, L.places, ap length u),
            )

-- ---- new starts and ends: the rows change under the walk, and their pairs do not
pub record Relabelling (H i x : ℕ) (rows₀ rows : List ℤ) (c left : ℕ) : Type 0 where
  pub live : Live H rows₀ c
  pub rows_are : relabel_walk x (walk (turn rows₀) left i c) rows ≡ relabel_walk x (walk (turn rows₀) H i i) rows₀
  pub pairs : (h : ℕ) → pair_of rows h ≡ pair_of rows₀ h
  pub rows_len : length rows ≡ length rows₀

module _ {H i x : ℕ} {rows₀ : List ℤ} where
  pub relabelling_begins : Live H rows₀ i → Relabelling H i x rows₀ rows₀ i H
  relabelling_begins l = record { live = l; rows_are = refl; pairs = λ h. refl; rows_len = refl }

  module _ {rows : List ℤ} {c left : ℕ} (R : Round H rows₀) (L : Relabelling H i x rows₀ rows c left) (c' : ℕ) (e : c' ≡ turn rows c) where
    pub turned : c' ≡ turn rows₀ c
    turned = e ∙ ap (λ (t : ℕ → ℕ). t c) (same_turn rows₀ rows L.pairs)

    pub turned_live : Live H rows₀ c'
    turned_live = subst (Live H rows₀) (sym turned) (R.goes L.live)

    pub relabelling_on : 0 < left → (left' : ℕ) → Left i left c' left' → (rows' : List ℤ) → rows' ≡ relabel x c' rows
        → Relabelling H i x rows₀ rows' c' left'
    unfolding relabel_walk
    relabelling_on b left' s rows' q = record {
      live = turned_live;
      rows_are = ap (relabel_walk x (walk (turn rows₀) left' i c')) q ∙ ap (λ l. relabel_walk x l rows) (sym u) ∙ L.rows_are;
      pairs = λ h. ap (λ l. pair_of l h) q ∙ relabel_pair x c' rows h ∙ L.pairs h;
      rows_len = ap length q ∙ length_relabel x c' rows ∙ L.rows_len;
    }
      where
        u : walk (turn rows₀) left i c ≡ c' ∷ walk (turn rows₀) left' i c'
        u =
            subst (λ y. walk (turn rows₀) left i c ≡ y ∷ walk (turn rows₀) left' i y) (sym turned)
            (walk_step (turn rows₀) left i c left' b (subst (λ y. Left i left y left') turned s))

  pub relabelling_done : {rows : List ℤ} {c left : ℕ} → Relabelling H i x rows₀ rows c left → left ≡ 0 → rows ≡ relabel_walk x (walk (turn rows₀) H i i) rows₀
  unfolding relabel_walk
  relabelling_done {rows} {c} {left} L e = ap (λ l. relabel_walk x l rows) (sym (walk_none (turn rows₀) left i c e)) ∙ L.rows_are
