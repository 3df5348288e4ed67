-- A text that grows in its buffer, byte behind byte.
use Rattle.std.specs.Prelude.{List, ◌≡◌, ℕ, ◌+◌, ◌≤◌, length}
use Rattle.texts.specs.declared.Text.{Text}
use Rattle.texts.specs.Appended.{Appended}

-- the buffer has room for these bytes behind those in use
pub record HasRoom (t : Text) (bytes : List ℕ) : Type 0 where
  pub fits : t.used + length bytes ≤ length t.out.now

-- bytes put behind those in use of the same buffer, and what is behind them kept
pub record Grows (before : Text) (bytes : List ℕ) (after : Text) : Type 0 where
  pub same_buffer : after.out.ghost_name ≡ before.out.ghost_name
  pub appended : Appended before.out.now before.used bytes after.out.now after.used
