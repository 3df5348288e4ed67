-- The second and third rows of a triangle in use.
use mathlib.Core.Path.{◌≡◌}
use Prim.Native.Nat.{ℕ, ◌%◌, ◌<◌}
use Rattle.numbers.specs.Next.{next}
use Rattle.numbers.proofs.NextLaws.{next_in}

pub second_in : (h H : ℕ) → h < H → H % 3 ≡ 0 → next h < H
second_in = next_in

pub third_in : (h H : ℕ) → h < H → H % 3 ≡ 0 → next (next h) < H
third_in h H b m = next_in (next h) H (next_in h H b m) m
