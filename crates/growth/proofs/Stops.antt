-- Where the steps have stopped, what grows a net leaves everything as it is.
use mathlib.Core.Path.{◌≡◌, ap}
use mathlib.Core.Bool.{true}
use Prim.Native.Nat.{ℕ}
use Rattle.steps.specs.Steps.{Middle, refused}
use Rattle.growth.specs.declared.Limits.{Limits}
use Rattle.growth.specs.Growth.{Growing, growing, halted, add, join, face, beside, relabel, copy_of, copy_round}

pub relabel_halted : (H x h : ℕ) (m : Middle) → refused m ≡ true → relabel H x h m ≡ m
unfolding relabel
relabel_halted H x h m t = rw t

pub copy_halted : (capacity v : ℕ) (m : Middle) → refused m ≡ true → copy_of capacity v m ≡ m
unfolding copy_of
copy_halted capacity v m t = rw t

module _ (l : Limits) (w : Growing) (t : halted w ≡ true) where
  add_halted : (a b h e : ℕ) → add l a b h e w ≡ w
  unfolding add
  add_halted a b h e = rw t

  pub join_halted : (k h : ℕ) → join k h w ≡ w
  unfolding join
  join_halted k h = rw t

  pub face_halted : (p q : ℕ) → face l p q w ≡ w
  unfolding face
  face_halted p q = rw t

  pub beside_halted : (a b h e : ℕ) → beside l a b h e w ≡ w
  unfolding beside
  beside_halted a b h e = rw (add_halted a b h e, join_halted w.used h) (face_halted _ _)

  pub round_halted : (v h : ℕ) → copy_round l v h w ≡ w
  unfolding copy_round
  round_halted v h = rw (copy_halted l.vertices v w.middle t) (ap (λ (m : Middle). growing m w.used w.normals w.references) (relabel_halted _ _ _ w.middle t))
