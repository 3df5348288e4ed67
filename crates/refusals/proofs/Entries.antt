-- Entries by how they begin: with check_net, with buffers besides, or with no test of soundness. Of each the law is stated once.
use mathlib.Core.Path.{◌≡◌, refl}
use mathlib.Core.Bool.{Bool, true, cond}
use Prim.Native.Nat.{ℕ}
use Rattle.answers.specs.Answers.{Said, shape, short_buffer, unsound}
use Rattle.laws.proofs.Tests.{by_test}
use Rattle.numbers.specs.Numbers.{Named, at, nothing}
use Rattle.numbers.specs.Numbers as X
use Rattle.net.specs.declared.Counts.{Counts}
use Rattle.net.specs.Net.{Net}
use Rattle.net.specs.Counts.{is_shaped}
use Rattle.soundness.specs.Check.{sound_or, check_net}
use Rattle.rowtests.specs.Order.{least_out}
use Rattle.steps.specs.Entries.{past}
use Rattle.refusals.specs.Refusals.{NothingAsked, of_sound, of_any, Refusals}
use Rattle.refusals.proofs.Law.{Tells, checked, Begins, refusals, in_turn}
use Rattle.refusals.proofs.Tests.{told_nothing, told_shape, told_order, told_no_order}

module _ (c : Counts) (n : Net) where
  abbrev order : Named
  order = least_out c.halfedges c.vertices n.halfedges

  -- an entry that begins with check_net makes its checks
  by_net : {A : Type 0} (entry : Said → A) (on : A) →
      past (check_net c n) entry on ≡ cond (is_shaped c n) (cond true (past (sound_or order) entry on) (entry short_buffer)) (entry shape)
  unfolding check_net
  by_net entry on = by_test (is_shaped c n) (λ t. rw t) (λ t. rw t)

  module _ {A : Type 0} (said : A → Said) (entry : Said → A) (there : (s : Said) → said (entry s) ≡ s) where
    sound_begins : (named alive : Bool) (on : A) → Begins said entry on (checked true true nothing named alive) →
        Begins said entry (past (check_net c n) entry on) (checked (is_shaped c n) true order named alive)
    sound_begins named alive on b = rw (by_net entry on) (in_turn said entry there (is_shaped c n) true order named alive (λ w. past (sound_or w) entry on) (λ h. refl) b)

    -- of an entry that begins with check_net
    pub sound_refusals : (Named Alive : Type 0) (named alive : Bool) → Tells named Named → Tells alive Alive → (on : A) → Begins said entry on (checked true true nothing named alive) →
        Refusals (of_sound c n NothingAsked Named Alive) said entry (past (check_net c n) entry on)
    sound_refusals Named Alive named alive p q on b =
        refusals (of_sound c n NothingAsked Named Alive) (is_shaped c n) true order named alive
        (told_shape c n) told_nothing (told_order c n NothingAsked Named Alive) p q
        said entry (past (check_net c n) entry on) (sound_begins named alive on b)

    -- of one that borrows besides
    pub long_refusals : (Long Named Alive : Type 0) (long named alive : Bool) → Tells long Long → Tells named Named → Tells alive Alive → (Y : X.Named → A) → ((h : ℕ) → Y (at h) ≡ entry (unsound h)) →
        Begins said entry (Y nothing) (checked true true nothing named alive) →
        Refusals (of_sound c n Long Named Alive) said entry (cond (is_shaped c n) (cond long (Y order) (entry short_buffer)) (entry shape))
    long_refusals Long Named Alive long named alive l p q Y row b =
        refusals (of_sound c n Long Named Alive) (is_shaped c n) long order named alive
        (told_shape c n) l (told_order c n Long Named Alive) p q
        said entry _ (in_turn said entry there (is_shaped c n) long order named alive Y row b)

    -- of one that does not test soundness
    pub any_refusals : (Long Named : Type 0) (long named : Bool) → Tells long Long → Tells named Named → (on : A) → Begins said entry on (checked true true nothing named true) →
        Refusals (of_any c n Long Named) said entry (cond (is_shaped c n) (cond long on (entry short_buffer)) (entry shape))
    any_refusals Long Named long named l p on b =
        refusals (of_any c n Long Named) (is_shaped c n) long nothing named true
        (told_shape c n) l (told_no_order c n Long Named) p told_nothing
        said entry _ (in_turn said entry there (is_shaped c n) long nothing named true (λ w. past (sound_or w) entry on) (λ h. refl) b)
