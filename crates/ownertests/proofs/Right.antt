-- The tests of the owner scan hold exactly when its words do.
use mathlib.Core.Path.{◌≡◌, refl}
use mathlib.Core.Bool.{Bool, true, false, ◌||◌, not}
use mathlib.Core.List.{List}
use mathlib.Core.Logic.{◌⊎◌, inl, inr}
use Prim.Native.Nat.{ℕ, ◌<◌}
use lib.IntN.{ℤ}
use Rattle.laws.proofs.Tests.{by_test, and2, both2, not_both, is_false}
use Rattle.rows.specs.Halfedges.{start_of, end_of, is_paired, is_started, is_ended}
use Rattle.net.specs.Sound.{Paired, turn}
use Rattle.turning.specs.Fan.{iter}
use Rattle.turning.proofs.Least.{Least, None, least}
use Rattle.ownertests.specs.declared.Eligible.{Eligible}
use Rattle.ownertests.specs.declared.Eligible.TheVariants as E
use Rattle.ownertests.specs.Words.{IsEligible, PointsBack, RunsOut, NoOwners, Owner}
use Rattle.ownertests.specs.Tests.{all_below, eligible, points_back, closes, closes_if, owns, has_owners}
use Rattle.ownertests.specs.inner.Needs.{InUse, Back}
use Rattle.ownertests.proofs.Below.{all_yes, all_stop, all_no}
use Rattle.ownertests.proofs.Points.{counts_yes, counts_true, paired_yes, paired_no, unpaired_not, points_yes, points_no, back_yes}
use Rattle.ownertests.proofs.Fan.{Closed, closes_yes}
use Rattle.ownertests.proofs.Owns.{owns_eligible, owns_true, owns_leads}

-- ---- start, or start and end, of 0 or more
module _ (rows : List ℤ) where
  pub eligible_yes : (e : Eligible) (h : ℕ) → eligible e rows h ≡ true → IsEligible e rows h
  unfolding eligible
  eligible_yes E.Start h t = counts_yes (start_of rows h) t
  eligible_yes E.StartAndEnd h t =
      let p = and2 (is_started rows h) (is_ended rows h) t in (counts_yes (start_of rows h) p.0, counts_yes (end_of rows h) p.1)

  pub eligible_true : (e : Eligible) (h : ℕ) → IsEligible e rows h → eligible e rows h ≡ true
  unfolding eligible
  eligible_true E.Start h p = counts_true (start_of rows h) p
  eligible_true E.StartAndEnd h p = both2 (counts_true (start_of rows h) p.0) (counts_true (end_of rows h) p.1)

-- ---- a fan that runs out
false_dec : (t : Bool) → Dec (t ≡ false)
false_dec true = no (λ e. not_both true refl e)
false_dec false = yes refl

module _ (H : ℕ) (rows : List ℤ) (h : ℕ) where
  pub runs_out : closes H rows h ≡ false → RunsOut rows h
  unfolding closes
  runs_out t = go (all_no (λ k. is_paired rows (iter (turn rows) k h)) H t)
    where
      first : (n : ℕ) → Least (λ k. is_paired rows (iter (turn rows) k h) ≡ false) n ⊎ None (λ k. is_paired rows (iter (turn rows) k h) ≡ false) n → (k : ℕ) → k < n → is_paired rows (iter (turn rows) k h) ≡ false → RunsOut rows h
      first n (inl m) k l q = (
        m.0,
        λ j b. paired_yes rows (iter (turn rows) j h) (by_test (is_paired rows (iter (turn rows) j h)) (λ u. u) (λ u. absurd (m.3 j b u))),
        paired_no rows (iter (turn rows) m.0 h) m.2,
      )
      first n (inr m) k l q = absurd (m k l q)

      go : (k : ℕ) × (k < H) × (is_paired rows (iter (turn rows) k h) ≡ false) → RunsOut rows h
      go s = first H (least (λ k. is_paired rows (iter (turn rows) k h) ≡ false) (λ k. false_dec (is_paired rows (iter (turn rows) k h))) H) s.0 s.1 s.2

  pub out_false : Back H rows → h < H → RunsOut rows h → closes H rows h ≡ false
  out_false B l r =
      is_false (closes H rows h) (λ t. unpaired_not rows (iter (turn rows) r.0 h) r.2 ((closes_yes H rows B h l t).paired r.0))

-- ---- answer 10, in document 01's words
or_false : (a b : Bool) → not a || b ≡ false → (a ≡ true) × (b ≡ false)
or_false true b e = (refl, e)
or_false false b e = not_both true refl e

module _ (e : Eligible) (H : ℕ) (rows : List ℤ) (U : InUse H rows) where
  pub none_words : has_owners e H rows ≡ false → NoOwners e H rows
  unfolding has_owners
  none_words t =
      by_test (all_below (points_back H rows) H)
      (λ a. inr (out (all_no (closes_if e H rows) H (by_test (all_below (closes_if e H rows) H) (λ b. not_both (has_owners e H rows) (both2 a b) t) (λ b. b)))))
      (λ a. inl (bad (all_no (points_back H rows) H a)))
    where
      bad : (h : ℕ) × (h < H) × (points_back H rows h ≡ false) → (h : ℕ) × (h < H) × Paired rows h × (PointsBack H rows h → ⊥)
      bad s = let p = points_no H rows s.0 s.1 s.2 in (s.0, s.1, p.0, p.1)

      out : (h : ℕ) × (h < H) × (closes_if e H rows h ≡ false) → (h : ℕ) × (h < H) × IsEligible e rows h × RunsOut rows h
      out s =
          let p = or_false (eligible e rows s.0) (closes H rows s.0) s.2 in
          (s.0, s.1, eligible_yes rows e s.0 p.0, runs_out H rows s.0 p.1)

  pub words_none : NoOwners e H rows → has_owners e H rows ≡ false
  unfolding has_owners
  words_none (inl w) =
      let f : points_back H rows w.0 ≡ false = is_false (points_back H rows w.0) (λ t. w.3 (points_yes H rows w.0 t w.2)) in
      rw (all_stop (points_back H rows) H w.0 w.1 f)
  words_none (inr w) =
      by_test (all_below (points_back H rows) H)
      (λ a. rw (a, all_stop (closes_if e H rows) H w.0 w.1 (rw (eligible_true rows e w.0 w.2, out_false H rows w.0 (back_yes H rows U a) w.1 w.3))))
      (λ a. rw a)

  -- ---- the owners
  module _ (t : has_owners e H rows ≡ true) where
    pub all_back : Back H rows
    unfolding has_owners
    all_back = back_yes H rows U (and2 (all_below (points_back H rows) H) (all_below (closes_if e H rows) H) t).0

    pub eligible_closed : (h : ℕ) → h < H → eligible e rows h ≡ true → Closed H rows h
    unfolding has_owners
    eligible_closed h l q =
        closes_yes H rows all_back h l (rw q at (all_yes (closes_if e H rows) H (and2 (all_below (points_back H rows) H) (all_below (closes_if e H rows) H) t).1 h l))

    pub owns_owner : (h : ℕ) → h < H → owns e H rows h ≡ true → Owner e H rows h
    owns_owner h l q =
        let y = owns_eligible e H rows h q in
        record {
          in_use = l;
          eligible = eligible_yes rows e h y;
          least = λ g r p. owns_leads e H rows all_back h (eligible_closed h l y) q g r (eligible_true rows e g p);
        }

    pub owner_owns : (h : ℕ) → Owner e H rows h → owns e H rows h ≡ true
    owner_owns h o =
        owns_true e H rows h (eligible_true rows e h o.eligible) (λ g r p. o.least g r (eligible_yes rows e g p))
