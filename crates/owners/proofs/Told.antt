-- What orbit_owners says, in words: 10 exactly when document 01 calls for it, 1 and 2 exactly when they are called for, and where it is
-- done the list holds the owners. And two results that its contract allows agree.
use mathlib.Core.Path.{◌≡◌, refl, sym, ap, ◌∙◌, subst}
use mathlib.Core.Bool.{true}
use mathlib.Core.List.{List, [], ◌∷◌}
use mathlib.Core.Logic.{◌⊎◌, inl, inr, ◌↔◌}
use Prim.Native.Nat.{ℕ, ◌≤◌, ◌<◌}
use native.Mathlib.Omega.{arith}
use native.Mathlib.Decide.{dec_lt, dec_le}
use borrow.Author.Tests.{leb-true, le-leb}
use lib.Dec.{leb}
use lib.IntN.{ℤ, pos}
use lib.ListN.{length, take, drop}
use lib.Seq.{take_at, drop_at}
use Rattle.answers.specs.Answers.{Said, whole, done, shape, short_buffer, no_owners}
use Rattle.answers.proofs.Laws.{numbers_differ}
use Rattle.laws.proofs.Tests.{by_test, and2, both2, not_both}
use Rattle.laws.specs.Stretches.{cleared}
use Rattle.std.specs.Prelude.{Result}
use Rattle.refused.specs.declared.Refusal.{Refusal}
use Rattle.refused.proofs.Laws.{count_agree}
use Rattle.net.specs.declared.Counts.{Counts}
use Rattle.net.specs.Net.{Net}
use Rattle.net.specs.Counts.{Shaped, is_shaped}
use Rattle.net.specs.Sound.{turn}
use Rattle.net.proofs.Shape.{shaped_yes, shaped_no, within}
use Rattle.turning.specs.Fan.{Reach, Count}
use Rattle.turning.proofs.Least.{Least, None, least}
use Rattle.turning.proofs.Occ.{count_length}
use Rattle.turning.proofs.Orbit.{reach_refl, reach_trans, reach_dec}
use Rattle.ownertests.specs.declared.Eligible.{Eligible}
use Rattle.ownertests.specs.Words.{IsEligible, NoOwners, Owner, IsList}
use Rattle.ownertests.specs.Tests.{eligible, owns, has_owners, owners}
use Rattle.ownertests.specs.inner.Needs.{InUse}
use Rattle.owners.specs.Scan.{OwnersOutcome, owners_outcome, listed, scan, buffers_long, orbit_owners, owners_said}
use Rattle.owners.specs.Promise.{OwnersDone}
use Rattle.owners.proofs.Listing.{those_rise, those_once, those_only}
use Rattle.ownertests.proofs.Fan.{Closed, fans}
use Rattle.ownertests.proofs.Right.{eligible_yes, eligible_true, none_words, words_none, all_back, eligible_closed, owns_owner, owner_owns}

-- the work buffer and the list have an entry for each half-edge
abbrev pub Long : ℕ → List ℕ → List ℕ → Type 0
Long H work list = (H ≤ length work) × (H ≤ length list)

long_yes : (H : ℕ) (work list : List ℕ) → buffers_long H work list ≡ true → Long H work list
long_yes H work list t =
    let p = and2 (leb H (length work)) (leb H (length list)) t in
    (leb-true H (length work) p.0, leb-true H (length list) p.1)

long_true : (H : ℕ) (work list : List ℕ) → Long H work list → buffers_long H work list ≡ true
long_true H work list p = both2 (le-leb H (length work) p.0) (le-leb H (length list) p.1)

-- g is eligible, and reached from h
abbrev Hit : Eligible → List ℤ → ℕ → ℕ → Type 0
Hit e rows h g = Reach (turn rows) h g × (eligible e rows g ≡ true)

-- ---- the list of owners
module _ (e : Eligible) (H : ℕ) (rows : List ℤ) (U : InUse H rows) (t : has_owners e H rows ≡ true) where
  pub is_list : IsList e H rows (owners e H rows)
  unfolding owners
  is_list = record {
    rising = those_rise (owns e H rows) H;
    once = λ h o. those_once (owns e H rows) H h o.in_use (owner_owns e H rows U t h o);
    no_other = λ h n. those_only (owns e H rows) H h (λ l q. n (owns_owner e H rows U t h l q));
  }

  owner_dec : (h : ℕ) → Dec (Owner e H rows h)
  owner_dec h = elim (dec_lt h H) [
    | yes l ↦ by_test (owns e H rows h) (λ q. yes (owns_owner e H rows U t h l q)) (λ q. no (λ o. not_both (owns e H rows h) (owner_owns e H rows U t h o) q))
    | no q ↦ no (λ o. q o.in_use)
  ]

  pub owners_counted : Count (Owner e H rows) H (length (owners e H rows))
  owners_counted = count_length (Owner e H rows) owner_dec (owners e H rows) is_list.once is_list.no_other H (λ h o. o.in_use)

  -- a fan's least eligible half-edge
  pub owner_there : (h : ℕ) → h < H → IsEligible e rows h → (g : ℕ) × Owner e H rows g × Reach (turn rows) h g
  owner_there h l p = go (least (Hit e rows h) dec H)
    where
      c : Closed H rows h
      c = eligible_closed e H rows U t h l (eligible_true rows e h p)

      dec : (g : ℕ) → Dec (Hit e rows h g)
      dec g = elim (reach_dec (fans H rows (all_back e H rows U t)) h c g) [
        | yes r ↦ by_test (eligible e rows g) (λ q. yes (r, q)) (λ q. no (λ z. not_both (eligible e rows g) z.1 q))
        | no r ↦ no (λ z. r z.0)
      ]

      go : Least (Hit e rows h) H ⊎ None (Hit e rows h) H → (g : ℕ) × Owner e H rows g × Reach (turn rows) h g
      go (inr n) = absurd (n h l (reach_refl (turn rows) h, eligible_true rows e h p))
      go (inl m) = (
        m.0,
        record {
          in_use = m.1;
          eligible = eligible_yes rows e m.0 m.2.1;
          least = λ k r q. elim (dec_le m.0 k) [
            | yes y ↦ y
            | no y ↦ absurd (m.3 k (omega arith) (reach_trans (turn rows) m.2.0 r, eligible_true rows e k q))
          ];
        },
        m.2.0,
      )

-- ---- the entry
module _ (e : Eligible) (c : Counts) (n : Net) (work list : List ℕ) where
  abbrev H : ℕ
  H = c.halfedges

  abbrev rows : List ℤ
  rows = n.halfedges

  abbrev result : OwnersOutcome
  result = orbit_owners e c n work list

  in_use : Shaped c n → InUse H rows
  in_use s = let w = within c n s in record { thirds = w.halfedges_thirds; lent = w.halfedges_lent; few = w.halfedges_most }

  -- the four ways that it can go, with what it then comes to
  by_answer : {P : Type 0}
      → ((Shaped c n → ⊥) → result ≡ owners_outcome shape work list → P)
      → (Shaped c n → (Long H work list → ⊥) → result ≡ owners_outcome short_buffer work list → P)
      → (Shaped c n → Long H work list → NoOwners e H rows → result ≡ owners_outcome no_owners (cleared H work) list → P)
      → (Shaped c n → Long H work list → has_owners e H rows ≡ true → result ≡ owners_outcome (done (whole (pos (length (owners e H rows))) ∷ [])) (cleared H work) (listed (owners e H rows) list) → P)
      → P
  unfolding orbit_owners scan
  by_answer p q r f =
      by_test (is_shaped c n)
      (λ s. by_test (buffers_long H work list)
      (λ b. by_test (has_owners e H rows)
      (λ t. f (shaped_yes c n s) (long_yes H work list b) t (rw (s, b, t)))
      (λ t. r (shaped_yes c n s) (long_yes H work list b) (none_words e H rows (in_use (shaped_yes c n s)) t) (rw (s, b, t))))
      (λ b. q (shaped_yes c n s) (λ z. not_both (buffers_long H work list) (long_true H work list z) b) (rw (s, b))))
      (λ s. p (shaped_no c n s) (rw s))

  said_of : {o : OwnersOutcome} → result ≡ o → result.said ≡ o.said
  said_of q = ap (λ (x : OwnersOutcome). x.said) q

  -- answer 10, as document 01 has it
  pub says_none : (result.said ≡ no_owners) ↔ (Shaped c n × Long H work list × NoOwners e H rows)
  says_none =
      by_answer
      (λ m q. (λ z. numbers_differ (sym (said_of q) ∙ z) (λ y. omega arith), λ w. absurd (m w.0)))
      (λ s m q. (λ z. numbers_differ (sym (said_of q) ∙ z) (λ y. omega arith), λ w. absurd (m w.1)))
      (λ s b w q. (λ z. (s, b, w), λ z. said_of q))
      (λ s b t q. (λ z. numbers_differ (sym (said_of q) ∙ z) (λ y. omega arith), λ w. not_both (has_owners e H rows) t (words_none e H rows (in_use s) w.2)))

  -- answers 1 and 2
  pub says_shape : (result.said ≡ shape) ↔ (Shaped c n → ⊥)
  says_shape =
      by_answer
      (λ m q. (λ z. m, λ z. said_of q))
      (λ s m q. (λ z. numbers_differ (sym (said_of q) ∙ z) (λ y. omega arith), λ w. absurd (w s)))
      (λ s b w q. (λ z. numbers_differ (sym (said_of q) ∙ z) (λ y. omega arith), λ w. absurd (w s)))
      (λ s b t q. (λ z. numbers_differ (sym (said_of q) ∙ z) (λ y. omega arith), λ w. absurd (w s)))

  pub says_short : (result.said ≡ short_buffer) ↔ (Shaped c n × (Long H work list → ⊥))
  says_short =
      by_answer
      (λ m q. (λ z. numbers_differ (sym (said_of q) ∙ z) (λ y. omega arith), λ w. absurd (m w.0)))
      (λ s m q. (λ z. (s, m), λ z. said_of q))
      (λ s b w q. (λ z. numbers_differ (sym (said_of q) ∙ z) (λ y. omega arith), λ w. absurd (w.1 b)))
      (λ s b t q. (λ z. numbers_differ (sym (said_of q) ∙ z) (λ y. omega arith), λ w. absurd (w.1 b)))

  -- on 1 and 2 all is as at entry; on 10 the list is, and the work buffer reads zero over H and is unchanged beyond
  pub refused : (result.said ≡ shape) ⊎ (result.said ≡ short_buffer) → (result.work ≡ work) × (result.list ≡ list)
  refused z =
      by_answer
      (λ m q. (ap (λ (x : OwnersOutcome). x.work) q, ap (λ (x : OwnersOutcome). x.list) q))
      (λ s m q. (ap (λ (x : OwnersOutcome). x.work) q, ap (λ (x : OwnersOutcome). x.list) q))
      (λ s b w q. neither (said_of q) (λ y. omega arith) (λ y. omega arith) z)
      (λ s b t q. neither (said_of q) (λ y. omega arith) (λ y. omega arith) z)
    where
      neither : {P : Type 0} {a : Said} → result.said ≡ a → (a.number ≡ 1 → ⊥) → (a.number ≡ 2 → ⊥) → (result.said ≡ shape) ⊎ (result.said ≡ short_buffer) → P
      neither q x y (inl z) = numbers_differ (sym q ∙ z) x
      neither q x y (inr z) = numbers_differ (sym q ∙ z) y

  pub none_leaves : result.said ≡ no_owners → (result.work ≡ cleared H work) × (result.list ≡ list)
  none_leaves z =
      by_answer
      (λ m q. numbers_differ (sym (said_of q) ∙ z) (λ y. omega arith))
      (λ s m q. numbers_differ (sym (said_of q) ∙ z) (λ y. omega arith))
      (λ s b w q. (ap (λ (x : OwnersOutcome). x.work) q, ap (λ (x : OwnersOutcome). x.list) q))
      (λ s b t q. numbers_differ (sym (said_of q) ∙ z) (λ y. omega arith))

  -- else it is done
  pub says_done : Shaped c n → Long H work list → (NoOwners e H rows → ⊥) → (count : ℕ) × OwnersDone e c n work list result count
  says_done s b w =
      by_answer
      (λ m q. absurd (m s))
      (λ s m q. absurd (m b))
      (λ s b z q. absurd (w z))
      (λ s b t q. (
        length (owners e H rows),
        record {
          said = said_of q;
          listed = subst (IsList e H rows) (sym (front q)) (is_list e H rows (in_use s) t);
          counted = ap length (front q);
          rest = ap (λ (x : OwnersOutcome). drop (length (owners e H rows)) x.list) q ∙ drop_at (owners e H rows) (drop (length (owners e H rows)) list) (length (owners e H rows)) refl;
          each_fan = owner_there e H rows (in_use s) t;
          count_is = owners_counted e H rows (in_use s) t;
          work_is = ap (λ (x : OwnersOutcome). x.work) q;
        },
      ))
    where
      front : {a : Said} {w : List ℕ} → result ≡ owners_outcome a w (listed (owners e H rows) list) → take (length (owners e H rows)) result.list ≡ owners e H rows
      front q = ap (λ (x : OwnersOutcome). take (length (owners e H rows)) x.list) q ∙ take_at (owners e H rows) (drop (length (owners e H rows)) list) (length (owners e H rows)) refl

-- ---- two results agree
pub owners_agree : (e : Eligible) (c : Counts) (n : Net) (work list : List ℕ) (a b : Result ℕ Refusal) (w w' l l' : List ℕ)
    → owners_outcome (owners_said a) w l ≡ orbit_owners e c n work list → owners_outcome (owners_said b) w' l' ≡ orbit_owners e c n work list
    → (a ≡ b) × (w ≡ w') × (l ≡ l')
owners_agree e c n work list a b w w' l l' p q =
    let z = p ∙ sym q in
    (count_agree a b (ap (λ (x : OwnersOutcome). x.said) z), ap (λ (x : OwnersOutcome). x.work) z, ap (λ (x : OwnersOutcome). x.list) z)
