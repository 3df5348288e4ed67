-- The stages of the entry: each answer of the checks, and what a net past them has.
use mathlib.Core.Path.{◌≡◌, refl, sym, ap, ◌∙◌}
use mathlib.Core.Bool.{true, false}
use mathlib.Core.List.{List}
use Prim.Native.Nat.{ℕ, ◌+◌, ◌≤◌}
use borrow.Author.Tests.{leb-true}
use lib.Dec.{eqb}
use lib.ListN.{length}
use Rattle.std.specs.Prelude.{⊤, Ok}
use Rattle.answers.specs.Answers.{Said, shape, short_buffer, unsound}
use Rattle.laws.proofs.Tests.{and2}
use Rattle.numbers.specs.Numbers.{Named, at, nothing}
use Rattle.refused.specs.declared.Refusal.{Refusal}
use Rattle.refused.specs.Refused.{refused, plain_said}
use Rattle.refused.proofs.Laws.{refused_number}
use Rattle.net.specs.declared.Counts.{Counts}
use Rattle.net.specs.Net.{Net}
use Rattle.net.specs.Counts.{is_shaped, is_long}
use Rattle.net.specs.Sound.{Sound}
use Rattle.net.proofs.Shape.{shaped_yes}
use Rattle.rowtests.specs.Order.{least_out}
use Rattle.soundness.specs.Check.{sound_or}
use Rattle.soundness.proofs.Told.{nothing_out}
use Rattle.splitting.specs.Split.{split_outcome, split_sound, buffers_long, split_pinched}

-- a check that says done found no row out of order
pub none_out : (w : Named) {x : ⊤} → plain_said (Ok x) ≡ sound_or w → w ≡ nothing
none_out nothing e = refl
none_out (at h) e = let z : true ≡ false = ap (λ (s : Said). eqb s.number 0) e in cc

module _ (c : Counts) (n : Net) (work visit : List ℕ) where
  pub said_shape : is_shaped c n ≡ false → split_outcome shape n.halfedges n.positions work visit ≡ split_pinched c n work visit
  unfolding split_pinched
  said_shape e = rw e

  pub said_short : is_shaped c n ≡ true → buffers_long c.halfedges c.vertices work visit ≡ false → split_outcome short_buffer n.halfedges n.positions work visit ≡ split_pinched c n work visit
  unfolding split_pinched
  said_short e f = rw (e, f)

  pub said_unsound : is_shaped c n ≡ true → buffers_long c.halfedges c.vertices work visit ≡ true → (h : ℕ) → least_out c.halfedges c.vertices n.halfedges ≡ at h
      → split_outcome (unsound h) n.halfedges n.positions work visit ≡ split_pinched c n work visit
  unfolding split_pinched
  said_unsound e f h g = rw (e, f, g)

  -- whatever check_rows refuses
  pub said_refused : is_shaped c n ≡ true → buffers_long c.halfedges c.vertices work visit ≡ true → (r : Refusal) → refused r ≡ sound_or (least_out c.halfedges c.vertices n.halfedges)
      → split_outcome (refused r) n.halfedges n.positions work visit ≡ split_pinched c n work visit
  said_refused e f r g = go (least_out c.halfedges c.vertices n.halfedges) refl g
    where
      go : (w : Named) → least_out c.halfedges c.vertices n.halfedges ≡ w → refused r ≡ sound_or w → split_outcome (refused r) n.halfedges n.positions work visit ≡ split_pinched c n work visit
      go (at h) m q = ap (λ s. split_outcome s n.halfedges n.positions work visit) q ∙ said_unsound e f h m
      go nothing m q = let z : true ≡ false = ap (λ (s : Said). eqb s.number 0) (sym q) ∙ refused_number r in cc

  pub said_sound : is_shaped c n ≡ true → buffers_long c.halfedges c.vertices work visit ≡ true → least_out c.halfedges c.vertices n.halfedges ≡ nothing
      → split_sound c.halfedges c.vertices n.halfedges n.positions work visit ≡ split_pinched c n work visit
  unfolding split_pinched
  said_sound e f g = rw (e, f, g)

  pub sound_here : is_shaped c n ≡ true → least_out c.halfedges c.vertices n.halfedges ≡ nothing → Sound c n
  sound_here e g = record { shaped = shaped_yes c n e; in_order = nothing_out c n g }

  pub work_long : buffers_long c.halfedges c.vertices work visit ≡ true → c.halfedges + c.vertices ≤ length work
  work_long f = leb-true (c.halfedges + c.vertices) (length work) (and2 (is_long (length work) (c.halfedges + c.vertices)) (is_long (length visit) c.halfedges) f).0

  pub visit_long : buffers_long c.halfedges c.vertices work visit ≡ true → c.halfedges ≤ length visit
  visit_long f = leb-true c.halfedges (length visit) (and2 (is_long (length work) (c.halfedges + c.vertices)) (is_long (length visit) c.halfedges) f).1
