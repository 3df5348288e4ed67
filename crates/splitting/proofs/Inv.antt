-- What holds before half-edge i is looked at, whatever the arrays are: `start`, `flag` and `mark` read them. A half-edge that is dead or
-- of a fan walked before, a first fan and a later one each keep it; and at the end it is what splitting promises.
use mathlib.Core.Path.{◌≡◌, refl, sym, ap, ◌∙◌, subst}
use mathlib.Core.Logic.{◌⊎◌, inl, inr, ◌≢◌, ◌↔◌}
use mathlib.Core.List.{List, [], ◌∷◌, ◌++◌}
use Prim.Native.Nat.{ℕ, zero, suc, ◌+◌, ◌≤◌, ◌<◌}
use native.Mathlib.Omega.{arith}
use native.Mathlib.Decide.{dec_le, ℕ_discrete}
use lib.ListN.{length, get_or, length-append, get_or-append}
use lib.Seq.{get_or-append_seam}
use Rattle.turning.specs.Fan.{iter, Reach, Turning, Lead, IsStart, Count, occ}
use Rattle.turning.specs.Walk.{walk}
use Rattle.turning.proofs.Least.{Least, None, least}
use Rattle.turning.proofs.Orbit.{reach_refl, reach_trans, reach_sym, reach_dec, live_reach}
use Rattle.turning.proofs.Occ.{occ_append, count_length}
use Rattle.turning.proofs.Walk.{walk_once, walk_only}
use Rattle.turning.proofs.Count.{count_map, count_was_hit, count_was_miss, count_one_less, count_none, count_le}

-- h is of the fan of a live half-edge below i
abbrev pub Done : (ℕ → Type 0) → (ℕ → ℕ) → ℕ → ℕ → Type 0
Done Live turn i h = (l : ℕ) × (l < i) × Live l × Reach turn l h

-- v was the start of such a fan
abbrev pub Marked : (ℕ → Type 0) → (ℕ → ℕ) → (ℕ → ℕ) → ℕ → ℕ → Type 0
Marked Live turn start₀ i v = (h : ℕ) × Done Live turn i h × (start₀ h ≡ v)

-- vertex u is v, or the copy of v: `new` lists what the rows from N on are copies of
abbrev pub From : ℕ → List ℕ → ℕ → ℕ → Type 0
From N new u v = ((u < N) × (u ≡ v)) ⊎ ((k : ℕ) × (k < length new) × (u ≡ N + k) × (get_or new k 0 ≡ v))

-- f' is f with x at the places of w (which has no place twice)
abbrev pub Wrote : List ℕ → ℕ → (ℕ → ℕ) → (ℕ → ℕ) → ℕ → Type 0
Wrote w x f f' h = (occ h w ≡ 0 → f' h ≡ f h) × (occ h w ≡ 1 → f' h ≡ x)

pub record Inv (H N : ℕ) (Live : ℕ → Type 0) (turn start₀ : ℕ → ℕ) (i : ℕ) (start flag mark : ℕ → ℕ) (visit new : List ℕ) : Type 0 where
  pub done : (h : ℕ) → Done Live turn i h → occ h visit ≡ 1
  pub todo : (h : ℕ) → ¬ Done Live turn i h → occ h visit ≡ 0
  pub flags : (h : ℕ) → h < H → flag h ≡ occ h visit
  pub kept : (h : ℕ) → Live h → ¬ Done Live turn i h → start h ≡ start₀ h
  pub apart : (h g : ℕ) → Done Live turn i h → Done Live turn i g → start h ≡ start g → Reach turn h g
  pub joined : (h g : ℕ) → Done Live turn i h → Reach turn h g → start h ≡ start g
  pub source : (h : ℕ) → Live h → From N new (start h) (start₀ h)
  pub marked : (v : ℕ) → v < N → Marked Live turn start₀ i v → mark v ≡ 1
  pub unmarked : (v : ℕ) → v < N → ¬ Marked Live turn start₀ i v → mark v ≡ 0
  pub count : (F D : ℕ) → Count (Lead Live turn) i F → Count (Marked Live turn start₀ i) N D → length new + D ≡ F

-- where h stands when the fan of i is walked: in a fan walked before, in this one, or in neither
data Place (D R : Type 0) : Type 0 where
  old : D → ¬ R → Place D R
  fan : R → ¬ D → Place D R
  out : ¬ D → ¬ R → Place D R

module _ {H N : ℕ} {Live : ℕ → Type 0} {turn start₀ : ℕ → ℕ} (T : Turning H Live turn)
    (same : (h : ℕ) → Live h → start₀ (turn h) ≡ start₀ h) (in_v : (h : ℕ) → Live h → start₀ h < N) where
  pub done_live : {i h : ℕ} → Done Live turn i h → Live h
  done_live d = live_reach T d.2 d.3

  done_up : {i h : ℕ} → Done Live turn i h → Done Live turn (suc i) h
  done_up d = (d.0, omega arith, d.2, d.3)

  done_on : {i h g : ℕ} → Done Live turn i h → Reach turn h g → Done Live turn i g
  done_on d r = (d.0, d.1, d.2, reach_trans turn d.3 r)

  done_split : {i h : ℕ} → Done Live turn (suc i) h → Done Live turn i h ⊎ (Live i × Reach turn i h)
  done_split {i} {h} d = elim (ℕ_discrete d.0 i) [
    | yes e ↦ inr (subst Live e d.2, subst (λ x. Reach turn x h) e d.3)
    | no q ↦ inl (d.0, let l : d.0 < suc i = d.1 in omega arith, d.2, d.3)
  ]

  done_new : {i h : ℕ} → Live i → Reach turn i h → Done Live turn (suc i) h
  done_new {i} l r = (i, omega arith, l, r)

  pub done_dec : (i h : ℕ) → Dec (Done Live turn i h)
  done_dec i h = go (least (λ l. Live l × Reach turn l h) dec i)
    where
      dec : (l : ℕ) → Dec (Live l × Reach turn l h)
      dec l = elim (T.dec l) [
        | yes a ↦ elim (reach_dec T l a h) [ yes r ↦ yes (a, r) | no q ↦ no (λ p. q p.1) ]
        | no q ↦ no (λ p. q p.0)
      ]

      go : Least (λ l. Live l × Reach turn l h) i ⊎ None (λ l. Live l × Reach turn l h) i → Dec (Done Live turn i h)
      go (inl m) = yes (m.0, m.1, m.2.0, m.2.1)
      go (inr q) = no (λ d. q d.0 d.1 (d.2, d.3))

  start_iter : (n x : ℕ) → Live x → start₀ (iter turn n x) ≡ start₀ x
  start_iter zero x l = refl
  start_iter (suc n) x l = same (iter turn n x) (live_reach T l (n, refl)) ∙ start_iter n x l

  pub start_reach : {x y : ℕ} → Live x → Reach turn x y → start₀ y ≡ start₀ x
  start_reach {x} {y} l r = ap start₀ (sym r.1) ∙ start_iter r.0 x l

  marked_dec : (i v : ℕ) → Dec (Marked Live turn start₀ i v)
  marked_dec i v = go (least (λ h. Done Live turn i h × (start₀ h ≡ v)) dec H)
    where
      dec : (h : ℕ) → Dec (Done Live turn i h × (start₀ h ≡ v))
      dec h = elim (done_dec i h) [
        | yes a ↦ elim (ℕ_discrete (start₀ h) v) [ yes e ↦ yes (a, e) | no n ↦ no (λ p. n p.1) ]
        | no n ↦ no (λ p. n p.0)
      ]

      go : Least (λ h. Done Live turn i h × (start₀ h ≡ v)) H ⊎ None (λ h. Done Live turn i h × (start₀ h ≡ v)) H → Dec (Marked Live turn start₀ i v)
      go (inl m) = yes (m.0, m.2.0, m.2.1)
      go (inr n) = no (λ m. n m.0 (T.below m.0 (done_live m.1)) (m.1, m.2))

  -- ---- how the code's tests are read
  module _ {i : ℕ} {start flag mark : ℕ → ℕ} {visit new : List ℕ} (I : Inv H N Live turn start₀ i start flag mark visit new) where
    pub flag_clear : (h : ℕ) → h < H → flag h ≡ 0 → ¬ Done Live turn i h
    flag_clear h l e d = omega (arith, I.flags h l, I.done h d)

    pub flag_set : (h : ℕ) → h < H → flag h ≢ 0 → Done Live turn i h
    flag_set h l n = elim (done_dec i h) [ yes d ↦ d | no q ↦ absurd (n (I.flags h l ∙ I.todo h q)) ]

    pub mark_set : (v : ℕ) → v < N → mark v ≢ 0 → mark v ≡ 1
    mark_set v l n = elim (marked_dec i v) [ yes m ↦ I.marked v l m | no q ↦ absurd (n (I.unmarked v l q)) ]

  -- ---- the first fan's owner: not walked before, so the least of its fan
  lead : (i : ℕ) → Live i → ¬ Done Live turn i i → Lead Live turn i
  lead i l q = (l, λ n. elim (dec_le i (iter turn n i)) [ yes h ↦ h | no h ↦ absurd (q (iter turn n i, omega arith, live_reach T l (n, refl), reach_sym T l (n, refl))) ])

  not_lead : (i : ℕ) → (Live i → Done Live turn i i) → ¬ Lead Live turn i
  not_lead i f h =
      let d = f h.0 in
      let r = reach_sym T d.2 d.3 in
      let a : d.0 < i = d.1 in
      let b : i ≤ iter turn r.0 i = h.1 r.0 in
      let e : iter turn r.0 i ≡ d.0 = r.1 in
      omega arith

  pub init : {start flag mark : ℕ → ℕ} → ((h : ℕ) → Live h → start h ≡ start₀ h) → ((h : ℕ) → h < H → flag h ≡ 0) → ((v : ℕ) → v < N → mark v ≡ 0)
      → Inv H N Live turn start₀ 0 start flag mark [] []
  unfolding occ Count
  init {start} {flag} {mark} s f m = record {
    done = λ h d. absurd (none d);
    todo = λ h d. refl;
    flags = f;
    kept = λ h l d. s h l;
    apart = λ h g d. absurd (none d);
    joined = λ h g d. absurd (none d);
    source = λ h l. inl (subst (λ x. x < N) (sym (s h l)) (in_v h l), s h l);
    marked = λ v l d. absurd (none d.1);
    unmarked = λ v l d. m v l;
    count = λ F D a b. let e : F ≡ 0 = a in let u : D ≡ 0 = count_none (Marked Live turn start₀ 0) N D (λ k l d. none d.1) b in omega arith;
  }
    where
      none : {h : ℕ} → ¬ Done Live turn 0 h
      none d = let l : d.0 < 0 = d.1 in omega arith

  -- ---- a half-edge that is dead, or of a fan walked before: nothing is done
  pub skip : {i : ℕ} {start flag mark : ℕ → ℕ} {visit new : List ℕ} → Inv H N Live turn start₀ i start flag mark visit new → (Live i → Done Live turn i i)
      → Inv H N Live turn start₀ (suc i) start flag mark visit new
  skip {i} {start} {flag} {mark} {visit} {new} I f = record {
    done = λ h d. I.done h (down d);
    todo = λ h q. I.todo h (λ d. q (done_up d));
    flags = I.flags;
    kept = λ h l q. I.kept h l (λ d. q (done_up d));
    apart = λ h g d e. I.apart h g (down d) (down e);
    joined = λ h g d. I.joined h g (down d);
    source = I.source;
    marked = λ v l m. I.marked v l (m.0, down m.1, m.2);
    unmarked = λ v l q. I.unmarked v l (λ m. q (m.0, done_up m.1, m.2));
    count = λ F D a b.
        I.count F D (count_was_miss (Lead Live turn) i F (not_lead i f) a)
        (count_map (Marked Live turn start₀ (suc i)) (Marked Live turn start₀ i) N D (λ k l m. (m.0, down m.1, m.2)) (λ k l m. (m.0, done_up m.1, m.2)) b);
  }
    where
      down : {h : ℕ} → Done Live turn (suc i) h → Done Live turn i h
      down {h} d = elim (done_split d) [ inl e ↦ e | inr r ↦ done_on (f r.0) r.1 ]

  -- ---- a fan
  module _ {i : ℕ} {start flag mark : ℕ → ℕ} {visit new : List ℕ} (I : Inv H N Live turn start₀ i start flag mark visit new) (l : Live i) (q : ¬ Done Live turn i i) where
    place : (h : ℕ) → Place (Done Live turn i h) (Reach turn i h)
    place h = elim (done_dec i h) [
      | yes d ↦ old d (λ r. q (done_on d (reach_sym T l r)))
      | no n ↦ elim (reach_dec T i l h) [ yes r ↦ fan r n | no m ↦ out n m ]
    ]

    occ_new : (h : ℕ) (a b : ℕ) → occ h visit ≡ a → occ h (walk turn H i i) ≡ b → occ h (visit ++ walk turn H i i) ≡ a + b
    occ_new h a b e d = occ_append h visit (walk turn H i i) ∙ ap (λ x. x + occ h (walk turn H i i)) e ∙ ap (λ x. a + x) d

    visit_done : (h : ℕ) → Done Live turn (suc i) h → occ h (visit ++ walk turn H i i) ≡ 1
    visit_done h d = go (place h)
      where
        go : Place (Done Live turn i h) (Reach turn i h) → occ h (visit ++ walk turn H i i) ≡ 1
        go (old e n) = occ_new h 1 0 (I.done h e) (walk_only T i h l n)
        go (fan r n) = occ_new h 0 1 (I.todo h n) (walk_once T i h l r)
        go (out n m) = elim (done_split d) [ inl e ↦ absurd (n e) | inr r ↦ absurd (m r.1) ]

    visit_todo : (h : ℕ) → ¬ Done Live turn (suc i) h → occ h (visit ++ walk turn H i i) ≡ 0
    visit_todo h d = occ_new h 0 0 (I.todo h (λ e. d (done_up e))) (walk_only T i h l (λ r. d (done_new l r)))

    -- the visits so far and the walk, together, are no more than the half-edges
    pub fan_fits : length (visit ++ walk turn H i i) ≤ H
    fan_fits =
        count_le (Done Live turn (suc i)) H (length (visit ++ walk turn H i i))
        (count_length (Done Live turn (suc i)) (done_dec (suc i)) (visit ++ walk turn H i i) visit_done visit_todo H (λ h d. T.below h (done_live d)))

    flags_new : (flag' : ℕ → ℕ) → ((h : ℕ) → h < H → Wrote (walk turn H i i) 1 flag flag' h) → (h : ℕ) → h < H → flag' h ≡ occ h (visit ++ walk turn H i i)
    flags_new flag' w h b = go (place h)
      where
        go : Place (Done Live turn i h) (Reach turn i h) → flag' h ≡ occ h (visit ++ walk turn H i i)
        go (old e n) = (w h b).0 (walk_only T i h l n) ∙ I.flags h b ∙ I.done h e ∙ sym (occ_new h 1 0 (I.done h e) (walk_only T i h l n))
        go (fan r n) = (w h b).1 (walk_once T i h l r) ∙ sym (occ_new h 0 1 (I.todo h n) (walk_once T i h l r))
        go (out n m) = (w h b).0 (walk_only T i h l m) ∙ I.flags h b ∙ I.todo h n ∙ sym (occ_new h 0 0 (I.todo h n) (walk_only T i h l m))

    -- the fan's own half-edges, not walked before, start where the fan does
    fan_start : (h : ℕ) → Reach turn i h → start h ≡ start₀ i
    fan_start h r = I.kept h (live_reach T l r) (λ d. q (done_on d (reach_sym T l r))) ∙ start_reach l r

    pub start_here : start i ≡ start₀ i
    start_here = fan_start i (reach_refl turn i)

    reach_both : {h g : ℕ} → Reach turn i h → Reach turn i g → Reach turn h g
    reach_both r s = reach_trans turn (reach_sym T l r) s

    -- the first fan at its vertex keeps it
    module _ (free : mark (start i) ≡ 0) where
      fresh : ¬ Marked Live turn start₀ i (start₀ i)
      fresh m =
          let a : mark (start₀ i) ≡ 1 = I.marked (start₀ i) (in_v i l) m in
          let b : mark (start₀ i) ≡ 0 = ap mark (sym start_here) ∙ free in
          omega arith

      -- no fan walked before stands there
      alone : (h : ℕ) → Done Live turn i h → start h ≢ start₀ i
      alone h d e = elim (I.source h (done_live d)) [
        | inl s ↦ fresh (h, d, sym s.1 ∙ e)
        | inr s ↦ let a : start₀ i < N = in_v i l in let b : start h ≡ N + s.0 = s.2 in omega arith
      ]

      apart_first : (h g : ℕ) → Done Live turn (suc i) h → Done Live turn (suc i) g → start h ≡ start g → Reach turn h g
      apart_first h g d e p = go (done_split d) (done_split e)
        where
          go : Done Live turn i h ⊎ (Live i × Reach turn i h) → Done Live turn i g ⊎ (Live i × Reach turn i g) → Reach turn h g
          go (inl a) (inl b) = I.apart h g a b p
          go (inl a) (inr b) = absurd (alone h a (p ∙ fan_start g b.1))
          go (inr a) (inl b) = absurd (alone g b (sym p ∙ fan_start h a.1))
          go (inr a) (inr b) = reach_both a.1 b.1

      joined_first : (h g : ℕ) → Done Live turn (suc i) h → Reach turn h g → start h ≡ start g
      joined_first h g d r = elim (done_split d) [
        | inl a ↦ I.joined h g a r
        | inr a ↦ fan_start h a.1 ∙ sym (fan_start g (reach_trans turn a.1 r))
      ]

      marked_split : (v : ℕ) → v ≢ start₀ i → Marked Live turn start₀ (suc i) v → Marked Live turn start₀ i v
      marked_split v n m = elim (done_split m.1) [
        | inl d ↦ (m.0, d, m.2)
        | inr r ↦ absurd (n (sym m.2 ∙ start_reach l r.1))
      ]

      pub first : {flag' mark' : ℕ → ℕ} → ((h : ℕ) → h < H → Wrote (walk turn H i i) 1 flag flag' h)
          → mark' (start i) ≡ 1 → ((v : ℕ) → v < N → v ≢ start i → mark' v ≡ mark v)
          → Inv H N Live turn start₀ (suc i) start flag' mark' (visit ++ walk turn H i i) new
      first {flag'} {mark'} w m₁ m₂ = record {
        done = visit_done;
        todo = visit_todo;
        flags = flags_new flag' w;
        kept = λ h a n. I.kept h a (λ d. n (done_up d));
        apart = apart_first;
        joined = joined_first;
        source = I.source;
        marked = marked';
        unmarked = λ v b n.
            m₂ v b (λ e. n (i, done_new l (reach_refl turn i), sym start_here ∙ sym e)) ∙ I.unmarked v b (λ m. n (m.0, done_up m.1, m.2));
        count = count';
      }
        where
          marked' : (v : ℕ) → v < N → Marked Live turn start₀ (suc i) v → mark' v ≡ 1
          marked' v b m = elim (ℕ_discrete v (start i)) [
            | yes e ↦ ap mark' e ∙ m₁
            | no n ↦ m₂ v b n ∙ I.marked v b (marked_split v (λ e. n (e ∙ sym start_here)) m)
          ]

          count' : (F D : ℕ) → Count (Lead Live turn) (suc i) F → Count (Marked Live turn start₀ (suc i)) N D → length new + D ≡ F
          count' F D a b =
              let f = count_was_hit (Lead Live turn) i F (lead i l q) a in
              let d =
              count_one_less (Marked Live turn start₀ i) (Marked Live turn start₀ (suc i)) (start₀ i) fresh (i, done_new l (reach_refl turn i), refl)
              (λ k n m. (m.0, done_up m.1, m.2)) marked_split N D (in_v i l) b in
              let e : length new + d.0 ≡ f.0 = I.count f.0 d.0 f.2 d.2 in
              let u : F ≡ suc f.0 = f.1 in
              let v : D ≡ suc d.0 = d.1 in
              omega arith

    -- a later fan there gets the next row, N + length new, a copy
    module _ (taken : mark (start i) ≡ 1) where
      -- the vertex is marked by a fan walked before
      marked_before : Marked Live turn start₀ i (start₀ i)
      marked_before = go (marked_dec i (start₀ i))
        where
          go : Dec (Marked Live turn start₀ i (start₀ i)) → Marked Live turn start₀ i (start₀ i)
          go (yes m) = m
          go (no n) =
              let a : mark (start₀ i) ≡ 0 = I.unmarked (start₀ i) (in_v i l) n in
              let b : mark (start₀ i) ≡ 1 = ap mark (sym start_here) ∙ taken in
              absurd (omega arith)

      marked_down : (v : ℕ) → Marked Live turn start₀ (suc i) v → Marked Live turn start₀ i v
      marked_down v m = elim (done_split m.1) [
        | inl d ↦ (m.0, d, m.2)
        | inr r ↦ (marked_before.0, marked_before.1, marked_before.2 ∙ sym (start_reach l r.1) ∙ m.2)
      ]

      -- no vertex in use is the new one
      in_use : (h : ℕ) → Live h → start h < N + length new
      in_use h a = elim (I.source h a) [
        | inl s ↦ let b : start h < N = s.0 in omega arith
        | inr s ↦ let b : s.0 < length new = s.1 in let c : start h ≡ N + s.0 = s.2 in omega arith
      ]

      pub later : {start' flag' mark' : ℕ → ℕ} → ((h : ℕ) → h < H → Wrote (walk turn H i i) 1 flag flag' h)
          → ((h : ℕ) → Live h → Wrote (walk turn H i i) (N + length new) start start' h)
          → ((v : ℕ) → v < N → mark' v ≡ mark v)
          → Inv H N Live turn start₀ (suc i) start' flag' mark' (visit ++ walk turn H i i) (new ++ (start i ∷ []))
      later {start'} {flag'} {mark'} w s k = record {
        done = visit_done;
        todo = visit_todo;
        flags = flags_new flag' w;
        kept = λ h a n. stay h a (λ r. n (done_new l r)) ∙ I.kept h a (λ d. n (done_up d));
        apart = apart';
        joined = joined';
        source = source';
        marked = λ v b m. k v b ∙ I.marked v b (marked_down v m);
        unmarked = λ v b n. k v b ∙ I.unmarked v b (λ m. n (m.0, done_up m.1, m.2));
        count = count';
      }
        where
          stay : (h : ℕ) → Live h → ¬ Reach turn i h → start' h ≡ start h
          stay h a n = (s h a).0 (walk_only T i h l n)

          move : (h : ℕ) → Reach turn i h → start' h ≡ N + length new
          move h r = (s h (live_reach T l r)).1 (walk_once T i h l r)

          before : (h : ℕ) → Done Live turn i h → start' h ≡ start h
          before h d = stay h (done_live d) (λ r. q (done_on d (reach_sym T l r)))

          apart' : (h g : ℕ) → Done Live turn (suc i) h → Done Live turn (suc i) g → start' h ≡ start' g → Reach turn h g
          apart' h g d e p = go (done_split d) (done_split e)
            where
              go : Done Live turn i h ⊎ (Live i × Reach turn i h) → Done Live turn i g ⊎ (Live i × Reach turn i g) → Reach turn h g
              go (inl a) (inl b) = I.apart h g a b (sym (before h a) ∙ p ∙ before g b)
              go (inl a) (inr b) =
                  let x : start h ≡ N + length new = sym (before h a) ∙ p ∙ move g b.1 in
                  absurd (omega (arith, in_use h (done_live a)))
              go (inr a) (inl b) =
                  let x : start g ≡ N + length new = sym (before g b) ∙ sym p ∙ move h a.1 in
                  absurd (omega (arith, in_use g (done_live b)))
              go (inr a) (inr b) = reach_both a.1 b.1

          joined' : (h g : ℕ) → Done Live turn (suc i) h → Reach turn h g → start' h ≡ start' g
          joined' h g d r = elim (done_split d) [
            | inl a ↦ before h a ∙ I.joined h g a r ∙ sym (before g (done_on a r))
            | inr a ↦ move h a.1 ∙ sym (move g (reach_trans turn a.1 r))
          ]

          longer : length (new ++ (start i ∷ [])) ≡ length new + 1
          longer = length-append new (start i ∷ [])

          source' : (h : ℕ) → Live h → From N (new ++ (start i ∷ [])) (start' h) (start₀ h)
          source' h a = go (reach_dec T i l h)
            where
              go : Dec (Reach turn i h) → From N (new ++ (start i ∷ [])) (start' h) (start₀ h)
              go (yes r) = inr (length new, omega (arith, longer), move h r, get_or-append_seam new (start i) [] 0 ∙ start_here ∙ sym (start_reach l r))
              go (no n) = elim (I.source h a) [
                | inl b ↦ inl (subst (λ x. x < N) (sym (stay h a n)) b.0, stay h a n ∙ b.1)
                | inr b ↦
                    let c : b.0 < length new = b.1 in
                    inr (b.0, omega (arith, longer), stay h a n ∙ b.2, get_or-append new (start i ∷ []) 0 b.0 c ∙ b.3)
              ]

          count' : (F D : ℕ) → Count (Lead Live turn) (suc i) F → Count (Marked Live turn start₀ (suc i)) N D → length (new ++ (start i ∷ [])) + D ≡ F
          count' F D a b =
              let f = count_was_hit (Lead Live turn) i F (lead i l q) a in
              let d =
              count_map (Marked Live turn start₀ (suc i)) (Marked Live turn start₀ i) N D (λ k b m. marked_down k m) (λ k b m. (m.0, done_up m.1, m.2)) b in
              let e : length new + D ≡ f.0 = I.count f.0 D f.2 d in
              let u : F ≡ suc f.0 = f.1 in
              omega (arith, longer)

  -- ---- at the end
  all_done : (h : ℕ) → Live h → Done Live turn H h
  all_done h l = (h, T.below h l, l, reach_refl turn h)

  module _ {start flag mark : ℕ → ℕ} {visit new : List ℕ} (I : Inv H N Live turn start₀ H start flag mark visit new) where
    pub end_fans : (h g : ℕ) → Live h → Live g → (start h ≡ start g) ↔ Reach turn h g
    end_fans h g k l = (I.apart h g (all_done h k) (all_done g l), I.joined h g (all_done h k))

    pub end_once : (h : ℕ) → Live h → occ h visit ≡ 1
    end_once h l = I.done h (all_done h l)

    pub end_only : (h : ℕ) → ¬ Live h → occ h visit ≡ 0
    end_only h q = I.todo h (λ d. q (done_live d))

    pub end_count : (F D : ℕ) → Count (Lead Live turn) H F → Count (IsStart Live start₀) N D → length new + D ≡ F
    end_count F D a b =
        I.count F D a (count_map (IsStart Live start₀) (Marked Live turn start₀ H) N D (λ v l m. (m.0, all_done m.0 m.1, m.2)) (λ v l m. (m.0, done_live m.1, m.2)) b)

-- arrays as functions: x at the places of w
choose : ℕ → ℕ → ℕ → ℕ
choose zero x y = y
choose (suc n) x y = x

pub put : List ℕ → ℕ → (ℕ → ℕ) → ℕ → ℕ
put w x f h = choose (occ h w) x (f h)

pub put_wrote : (w : List ℕ) (x : ℕ) (f : ℕ → ℕ) (h : ℕ) → Wrote w x f (put w x f) h
unfolding put choose
put_wrote w x f h = (λ e. ap (λ n. choose n x (f h)) e, λ e. ap (λ n. choose n x (f h)) e)
