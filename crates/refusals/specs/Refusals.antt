-- The refusals 1 to 5 in words: each is given exactly when document 01 says so, the first in its order where several are true, and
-- everything lent is then as at entry. Nothing here names a test.
use Rattle.std.specs.Prelude.{◌≡◌, ◌↔◌, ℕ, ◌<◌, ℤ, pos}
use Rattle.answers.specs.Answers.{Said, shape, short_buffer, unsound, bad_number, dead}
use Rattle.net.specs.declared.Counts.{Counts}
use Rattle.net.specs.Net.{Net}
use Rattle.net.specs.Counts.{Shaped}
use Rattle.net.specs.Sound.{InOrder, LeastOut, Live}

-- what a call is asked: that nothing calls for answer 1, that its buffers are long enough, that no row is the least out of order, that
-- its numbers name half-edges and vertices in use, and that the half-edges are live
pub record Asked : Type 1 where
  pub fits : Type 0
  pub long : Type 0
  pub least_out : ℕ → Type 0
  pub in_order : Type 0
  pub named : Type 0
  pub alive : Type 0

-- by an entry that borrows nothing, names nothing, or does not test soundness
abbrev pub NothingAsked : Type 0
NothingAsked = Unit {0}

-- a number of one of so many rows; of a live half-edge
abbrev pub Names : ℕ → ℤ → Type 0
Names limit z = (k : ℕ) × ((z ≡ pos k) × (k < limit))

abbrev pub NamesLive : Counts → Net → ℤ → Type 0
NamesLive c n z = (h : ℕ) × ((z ≡ pos h) × Live c.halfedges n.halfedges h)

-- of an entry that tests soundness, and of one that does not
abbrev pub of_sound : Counts → Net → Type 0 → Type 0 → Type 0 → Asked
of_sound c n long named alive = record {
  fits = Shaped c n;
  long = long;
  least_out = LeastOut c.halfedges c.vertices n.halfedges;
  in_order = (h : ℕ) → h < c.halfedges → InOrder c.halfedges c.vertices n.halfedges h;
  named = named;
  alive = alive;
}

abbrev pub of_any : Counts → Net → Type 0 → Type 0 → Asked
of_any c n long named = record {
  fits = Shaped c n;
  long = long;
  least_out = λ h. ⊥;
  in_order = NothingAsked;
  named = named;
  alive = NothingAsked;
}

-- one of 1 to 5
abbrev pub Early : Said → Type 0
Early s = (0 < s.number) × (s.number < 6)

-- `result` is what a call leaves, `entry s` everything lent as at entry with s said
pub record Refusals (a : Asked) {A : Type 0} (said : A → Said) (entry : Said → A) (result : A) : Type 0 where
  pub shape_when : (said result ≡ shape) ↔ (a.fits → ⊥)
  pub short_when : (said result ≡ short_buffer) ↔ (a.fits × (a.long → ⊥))
  pub unsound_when : (h : ℕ) → (said result ≡ unsound h) ↔ (a.fits × a.long × a.least_out h)
  pub number_when : (said result ≡ bad_number) ↔ (a.fits × a.long × a.in_order × (a.named → ⊥))
  pub dead_when : (said result ≡ dead) ↔ (a.fits × a.long × a.in_order × a.named × (a.alive → ⊥))
  pub past_when : (Early (said result) → ⊥) ↔ (a.fits × a.long × a.in_order × a.named × a.alive)
  pub kept : Early (said result) → result ≡ entry (said result)
