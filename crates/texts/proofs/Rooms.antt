-- A text that grows piece by piece, and the room that is left: room for two pieces is room for the first, and for the second behind it.
use mathlib.Core.Path.{◌≡◌, refl, ◌∙◌}
use mathlib.Core.List.{List, [], ◌++◌}
use Prim.Native.Nat.{ℕ}
use native.Mathlib.Omega.{arith}
use lib.ListN.{length-append}
use Rattle.texts.specs.declared.Text.{Text}
use Rattle.texts.specs.Grows.{HasRoom, Grows}
use Rattle.texts.proofs.Appends.{appended_length, appended_none, appended_on}

pub room_as : {t : Text} {x y : List ℕ} → HasRoom t x → x ≡ y → HasRoom t y
room_as h e = rw (← e) h

pub room_first : {t : Text} (x y : List ℕ) → HasRoom t (x ++ y) → HasRoom t x
room_first x y h = record { fits = omega (arith, h.fits, length-append x y) }

pub room_on : {t s : Text} (x y : List ℕ) → HasRoom t (x ++ y) → Grows t x s → HasRoom s y
room_on x y h p = record { fits = omega (arith, h.fits, length-append x y, p.appended.count, appended_length p.appended (room_first x y h).fits) }

pub grows_none : (t : Text) → Grows t [] t
grows_none t = record { same_buffer = refl; appended = appended_none t.out.now t.used }

pub grows_as : {t s : Text} {x y : List ℕ} → Grows t x s → x ≡ y → Grows t y s
grows_as p e = rw (← e) p

pub grows_on : {t s r : Text} {x y : List ℕ} → Grows t x s → Grows s y r → Grows t (x ++ y) r
grows_on p q = record { same_buffer = q.same_buffer ∙ p.same_buffer; appended = appended_on p.appended q.appended }
