-- The law over the checks: an entry that makes five tests in document 01's order, and says what the first that fails calls for, gives
-- each refusal exactly when it is called for and nothing before it is.
use mathlib.Core.Path.{◌≡◌, refl, sym, ap, ◌∙◌, subst}
use mathlib.Core.Bool.{Bool, true, false, cond}
use mathlib.Core.List.{[]}
use Prim.Native.Nat.{ℕ, zero, suc, ◌<◌}
use native.Mathlib.Omega.{arith}
use native.Mathlib.Decide.{ℕ_discrete}
use Rattle.answers.specs.Answers.{Said, done, shape, short_buffer, unsound, bad_number, dead}
use Rattle.answers.proofs.Laws.{same_row}
use Rattle.laws.proofs.Tests.{by_test, is_false, not_both}
use Rattle.numbers.specs.Numbers.{Named, at, nothing}
use Rattle.refusals.specs.Refusals.{Asked, Early, Refusals}

-- a test tells whether something holds
pub record Tells (t : Bool) (P : Type 0) : Type 0 where
  pub so : t ≡ true → P
  pub back : P → t ≡ true

-- a search tells the least row out of order
pub record TellsLeast (w : Named) (Least : ℕ → Type 0) (InOrder : Type 0) : Type 0 where
  pub none_so : w ≡ nothing → InOrder
  pub none_back : InOrder → w ≡ nothing
  pub found_so : (h : ℕ) → w ≡ at h → Least h
  pub found_back : (h : ℕ) → Least h → w ≡ at h

-- what the checks say: 0 where all are passed
abbrev pub unsound_or : Named → Said → Said
unsound_or (at h) s = unsound h
unsound_or nothing s = s

abbrev pub checked : Bool → Bool → Named → Bool → Bool → Said
checked fits long order named alive =
    cond fits (cond long (unsound_or order (cond named (cond alive (done []) dead) bad_number)) short_buffer) shape

-- an entry begins with these checks
pub record Begins {A : Type 0} (said : A → Said) (entry : Said → A) (result : A) (k : Said) : Type 0 where
  pub said_there : (s : Said) → said (entry s) ≡ s
  pub refuses : (k.number ≡ 0 → ⊥) → result ≡ entry k
  pub goes_on : k.number ≡ 0 → Early (said result) → ⊥

-- why each number is said
abbrev Reason : Asked → ℕ → Type 0
Reason a zero = a.fits × a.long × a.in_order × a.named × a.alive
Reason a (suc zero) = a.fits → ⊥
Reason a (suc (suc zero)) = a.fits × (a.long → ⊥)
Reason a (suc (suc (suc zero))) = a.fits × a.long × ((h : ℕ) × a.least_out h)
Reason a (suc (suc (suc (suc zero)))) = a.fits × a.long × a.in_order × (a.named → ⊥)
Reason a (suc (suc (suc (suc (suc zero))))) = a.fits × a.long × a.in_order × a.named × (a.alive → ⊥)
Reason a (suc (suc (suc (suc (suc (suc n)))))) = ⊥

module _ (a : Asked) (fits long : Bool) (order : Named) (named alive : Bool) (fits_told : Tells fits a.fits) (long_told : Tells long a.long)
    (order_told : TellsLeast order a.least_out a.in_order) (named_told : Tells named a.named) (alive_told : Tells alive a.alive) where
  abbrev k : Said
  k = checked fits long order named alive

  not_so : {t : Bool} {P : Type 0} → Tells t P → t ≡ false → P → ⊥
  not_so {t} w e p = not_both t (w.back p) e

  stands : Reason a k.number
  stands =
      by_test fits
      (λ f. by_test long
      (λ l. rw (f, l) (go (fits_told.so f) (long_told.so l) order refl))
      (λ l. rw (f, l) (fits_told.so f, not_so long_told l)))
      (λ f. rw f (not_so fits_told f))
    where
      go : a.fits → a.long → (w : Named) → order ≡ w → Reason a (unsound_or w (cond named (cond alive (done []) dead) bad_number)).number
      go f l (at h) e = (f, l, (h, order_told.found_so h e))
      go f l nothing e =
          by_test named
          (λ m. by_test alive
          (λ v. rw (m, v) (f, l, order_told.none_so e, named_told.so m, alive_told.so v))
          (λ v. rw (m, v) (f, l, order_told.none_so e, named_told.so m, not_so alive_told v)))
          (λ m. rw m (f, l, order_told.none_so e, not_so named_told m))

  reason_of : (n : ℕ) → k.number ≡ n → Reason a n
  reason_of n e = subst (Reason a) e stands

  shape_said : (a.fits → ⊥) → k ≡ shape
  shape_said n = rw (is_false fits (λ t. n (fits_told.so t)))

  short_said : a.fits × (a.long → ⊥) → k ≡ short_buffer
  short_said r = rw (fits_told.back r.0, is_false long (λ t. r.1 (long_told.so t)))

  unsound_said : (h : ℕ) → a.fits × a.long × a.least_out h → k ≡ unsound h
  unsound_said h r = rw (fits_told.back r.0, long_told.back r.1, order_told.found_back h r.2)

  number_said : a.fits × a.long × a.in_order × (a.named → ⊥) → k ≡ bad_number
  number_said r = rw (fits_told.back r.0, long_told.back r.1, order_told.none_back r.2, is_false named (λ t. r.3 (named_told.so t)))

  dead_said : a.fits × a.long × a.in_order × a.named × (a.alive → ⊥) → k ≡ dead
  dead_said r = rw (fits_told.back r.0, long_told.back r.1, order_told.none_back r.2, named_told.back r.3, is_false alive (λ t. r.4 (alive_told.so t)))

  all_passed : a.fits × a.long × a.in_order × a.named × a.alive → k ≡ done []
  all_passed r = rw (fits_told.back r.0, long_told.back r.1, order_told.none_back r.2, named_told.back r.3, alive_told.back r.4)

  least_of : (h : ℕ) → k ≡ unsound h → a.fits × a.long × a.least_out h
  least_of h e =
      let r = reason_of 3 (ap (λ (s : Said). s.number) e) in
      (r.0, r.1, subst a.least_out (same_row r.2.0 h (sym (unsound_said r.2.0 (r.0, r.1, r.2.1)) ∙ e)) r.2.1)

  few : k.number < 6
  few = go k.number stands
    where
      go : (n : ℕ) → Reason a n → n < 6
      go zero r = omega arith
      go (suc zero) r = omega arith
      go (suc (suc zero)) r = omega arith
      go (suc (suc (suc zero))) r = omega arith
      go (suc (suc (suc (suc zero)))) r = omega arith
      go (suc (suc (suc (suc (suc zero))))) r = omega arith
      go (suc (suc (suc (suc (suc (suc n)))))) r = absurd r

  module _ {A : Type 0} (said : A → Said) (entry : Said → A) (result : A) (b : Begins said entry result k) where
    refused_said : (k.number ≡ 0 → ⊥) → said result ≡ k
    refused_said n = ap said (b.refuses n) ∙ b.said_there k

    -- an early refusal is the entry's exactly when it is the checks'
    theirs : (s : Said) → Early s → said result ≡ s → k ≡ s
    theirs s early e = go (ℕ_discrete k.number 0)
      where
        go : Dec (k.number ≡ 0) → k ≡ s
        go (yes z) = absurd (b.goes_on z (subst Early (sym e) early))
        go (no n) = sym (refused_said n) ∙ e

    ours : (s : Said) → Early s → k ≡ s → said result ≡ s
    ours s early e = refused_said (λ z. omega (arith, early.0, ap (λ (t : Said). t.number) e)) ∙ e

    kept : Early (said result) → result ≡ entry (said result)
    kept early = go (ℕ_discrete k.number 0)
      where
        go : Dec (k.number ≡ 0) → result ≡ entry (said result)
        go (yes z) = absurd (b.goes_on z early)
        go (no n) = b.refuses n ∙ ap entry (sym (refused_said n))

    passed : (Early (said result) → ⊥) → k.number ≡ 0
    passed n = go (ℕ_discrete k.number 0)
      where
        go : Dec (k.number ≡ 0) → k.number ≡ 0
        go (yes z) = z
        go (no m) = absurd (n (rw (refused_said m) (omega arith, omega (arith, few))))

    pub refusals : Refusals a said entry result
    refusals = record {
      shape_when = (λ e. reason_of 1 (ap (λ (s : Said). s.number) (theirs shape (omega arith, omega arith) e)), λ r. ours shape (omega arith, omega arith) (shape_said r));
      short_when = (λ e. reason_of 2 (ap (λ (s : Said). s.number) (theirs short_buffer (omega arith, omega arith) e)), λ r. ours short_buffer (omega arith, omega arith) (short_said r));
      unsound_when = λ h. (λ e. least_of h (theirs (unsound h) (omega arith, omega arith) e), λ r. ours (unsound h) (omega arith, omega arith) (unsound_said h r));
      number_when = (λ e. reason_of 4 (ap (λ (s : Said). s.number) (theirs bad_number (omega arith, omega arith) e)), λ r. ours bad_number (omega arith, omega arith) (number_said r));
      dead_when = (λ e. reason_of 5 (ap (λ (s : Said). s.number) (theirs dead (omega arith, omega arith) e)), λ r. ours dead (omega arith, omega arith) (dead_said r));
      past_when = (λ n. reason_of 0 (passed n), λ r. b.goes_on (ap (λ (s : Said). s.number) (all_passed r)));
      kept = kept;
    }

-- an entry that makes the checks one behind the other, and goes on at `Y nothing` where no row is out of order
module _ {A : Type 0} (said : A → Said) (entry : Said → A) (there : (s : Said) → said (entry s) ≡ s) where
  pub stops : (s : Said) → (s.number ≡ 0 → ⊥) → Begins said entry (entry s) s
  stops s n = record { said_there = there; refuses = λ m. refl; goes_on = λ z. absurd (n z) }

  pub goes : (result : A) → (Early (said result) → ⊥) → Begins said entry result (done [])
  goes result n = record { said_there = there; refuses = λ m. absurd (m refl); goes_on = λ z. n }

  pub in_turn : (fits long : Bool) (order : Named) (named alive : Bool) (Y : Named → A) → ((h : ℕ) → Y (at h) ≡ entry (unsound h)) → Begins said entry (Y nothing) (checked true true nothing named alive)
      → Begins said entry (cond fits (cond long (Y order) (entry short_buffer)) (entry shape)) (checked fits long order named alive)
  in_turn false long order named alive Y row b = stops shape (λ z. omega arith)
  in_turn true false order named alive Y row b = stops short_buffer (λ z. omega arith)
  in_turn true true (at h) named alive Y row b = rw (row h) (stops (unsound h) (λ z. omega arith))
  in_turn true true nothing named alive Y row b = b
