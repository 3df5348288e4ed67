-- How the steps of an operation run: the vertices in use so far, and whether they go on. They stop where the next append would pass a
-- capacity, or where a row isn't there or a walk never ends.
use Rattle.std.specs.Prelude.{ℕ}

pub data How : Type 0 where
  Going : How
  NoRoom : How
  Stopped : How

pub record Run : Type 0 where
  pub vertices : ℕ
  pub how : How
