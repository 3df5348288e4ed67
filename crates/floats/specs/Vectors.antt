-- Vectors of binary64 floats: difference and dot, each operation rounded once, and the vector of three bit patterns.
use Rattle.std.specs.Prelude.{ℕ, Float}
use Rattle.std.specs.Float.{binary64}
use Rattle.std.specs.Float.Ieee.{add, sub, mul, of_bits}
use Rattle.floats.specs.declared.Vec3.{Vec3}
use Rattle.floats.specs.declared.Vec2.{Vec2}

-- by component
abbrev pub minus3 : Vec3 → Vec3 → Vec3
minus3 a b = record { x = sub binary64 a.x b.x; y = sub binary64 a.y b.y; z = sub binary64 a.z b.z }

abbrev pub minus2 : Vec2 → Vec2 → Vec2
minus2 a b = record { x = sub binary64 a.x b.x; y = sub binary64 a.y b.y }

-- x·x + y·y
abbrev pub dot2 : Vec2 → Vec2 → Float
dot2 a b = add binary64 (mul binary64 a.x b.x) (mul binary64 a.y b.y)

-- x·x + y·y, then + z·z
abbrev pub dot3 : Vec3 → Vec3 → Float
dot3 a b = add binary64 (add binary64 (mul binary64 a.x b.x) (mul binary64 a.y b.y)) (mul binary64 a.z b.z)

abbrev pub vec3_of_bits : ℕ → ℕ → ℕ → Vec3
vec3_of_bits x y z = record { x = of_bits binary64 x; y = of_bits binary64 y; z = of_bits binary64 z }
