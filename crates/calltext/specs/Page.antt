-- What it means that pieces of text are put on a page.
use Rattle.std.specs.Prelude.{◌≡◌, ℕ, List}
use Rattle.texts.specs.Put.{puts}
use Rattle.calltext.specs.declared.show.Page.{Page}

-- the buffer is the one that was lent, and the pieces are put behind what was in use
abbrev pub Puts : List (List ℕ) → Page → Page → Type 0
Puts pieces before after = (after.out.ghost_name ≡ before.out.ghost_name) × ((after.out.now, after.used) ≡ puts pieces (before.out.now, before.used))
