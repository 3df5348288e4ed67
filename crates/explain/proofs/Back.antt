-- A pair that was read as a half-edge in use is h exactly when the number is; one that names nothing is none of those in use.
use mathlib.Core.Path.{◌≡◌, sym, ◌∙◌}
use mathlib.Core.Bool.{false}
use Prim.Native.Nat.{ℕ, ◌<◌}
use lib.Dec.{eqb}
use lib.IntN.{ℤ, pos}
use Rattle.laws.specs.Integers.{eq_z}
use Rattle.laws.proofs.Integers.{eq_z_no}
use Rattle.numbers.specs.Numbers.{at, nothing, names}
use Rattle.numbers.proofs.Names.{names_is, names_at, nothing_not_at}

pub back_named : (z : ℤ) (H q h : ℕ) → at q ≡ names z H → eqb q h ≡ eq_z z (pos h)
back_named z H q h e = rw (names_is z H (sym e))

pub back_none : (z : ℤ) (H h : ℕ) → h < H → nothing ≡ names z H → false ≡ eq_z z (pos h)
back_none z H h b e = sym (eq_z_no z (pos h) (λ i. nothing_not_at (e ∙ names_at z H h i b)))
