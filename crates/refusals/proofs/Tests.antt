-- What the checks' tests tell: a shape, a buffer's length, the least row out of order, a number that names a row, a live half-edge.
use mathlib.Core.Path.{◌≡◌, refl, sym}
use mathlib.Core.Bool.{Bool, true, false, true≢false, ◌&&◌}
use Prim.Native.Nat.{ℕ, ◌≤◌}
use borrow.Author.Tests.{le-leb, leb-true}
use lib.Dec.{leb}
use lib.IntN.{ℤ}
use Rattle.laws.proofs.Tests.{and2, both2}
use Rattle.numbers.specs.Numbers.{Named, at, nothing, names, is_named, named_or}
use Rattle.numbers.proofs.Names.{names_is, names_below, names_at, nothing_not_at}
use Rattle.rows.specs.Halfedges.{is_paired}
use Rattle.net.specs.declared.Counts.{Counts}
use Rattle.net.specs.Net.{Net}
use Rattle.net.specs.Counts.{Shaped, is_shaped}
use Rattle.net.proofs.Shape.{shaped_yes, shaped_true}
use Rattle.net.proofs.Sound.{live_paired, paired_live}
use Rattle.rowtests.specs.Order.{least_out}
use Rattle.soundness.proofs.Told.{least_unique, nothing_out, least_is}
use Rattle.refusals.specs.Refusals.{NothingAsked, of_sound, of_any, Names, NamesLive}
use Rattle.refusals.proofs.Law.{Tells, TellsLeast}

pub told_both : {s t : Bool} {P Q : Type 0} → Tells s P → Tells t Q → Tells (s && t) (P × Q)
told_both {s} {t} p q = record {
  so = λ e. let b = and2 s t e in (p.so b.0, q.so b.1);
  back = λ w. both2 (p.back w.0) (q.back w.1);
}

pub told_nothing : Tells true NothingAsked
told_nothing = record { so = λ e. tt; back = λ w. refl }

pub told_least : (needed lent : ℕ) → Tells (leb needed lent) (needed ≤ lent)
told_least needed lent = record { so = leb-true needed lent; back = le-leb needed lent }

-- a number of one of so many rows
named_so : (w : Named) → is_named w ≡ true → (k : ℕ) × (w ≡ at k)
named_so (at k) e = (k, refl)
named_so nothing e = absurd (true≢false (sym e))

pub told_names : (limit : ℕ) (z : ℤ) → Tells (is_named (names z limit)) (Names limit z)
told_names limit z = record {
  so = λ e. let k = named_so (names z limit) e in (k.0, (names_is z limit k.1, names_below z limit k.1));
  back = λ k. rw (names_at z limit k.0 k.1.0 k.1.1);
}

module _ (c : Counts) (n : Net) where
  pub told_shape : Tells (is_shaped c n) (Shaped c n)
  told_shape = record { so = shaped_yes c n; back = shaped_true c n }

  -- the least row out of order, of an entry that tests soundness and of one that does not
  pub told_order : (long named alive : Type 0) → TellsLeast (least_out c.halfedges c.vertices n.halfedges) (of_sound c n long named alive).least_out (of_sound c n long named alive).in_order
  told_order long named alive = record {
    none_so = nothing_out c n;
    none_back = λ o. none (λ h e. let l = least_is c n h e in l.out (o h l.row)) (least_out c.halfedges c.vertices n.halfedges) refl;
    found_so = least_is c n;
    found_back = λ h l. found h l (least_out c.halfedges c.vertices n.halfedges) refl;
  }
    where
      none : ((h : ℕ) → least_out c.halfedges c.vertices n.halfedges ≡ at h → ⊥) → (w : Named) → least_out c.halfedges c.vertices n.halfedges ≡ w → least_out c.halfedges c.vertices n.halfedges ≡ nothing
      none no_row nothing e = e
      none no_row (at h) e = absurd (no_row h e)

      found : (h : ℕ) → (of_sound c n long named alive).least_out h → (w : Named) → least_out c.halfedges c.vertices n.halfedges ≡ w → least_out c.halfedges c.vertices n.halfedges ≡ at h
      found h l nothing e = absurd (l.out (nothing_out c n e h l.row))
      found h l (at g) e = let q = least_unique c.halfedges c.vertices n.halfedges g h (least_is c n g e) l in rw (e, q)

  pub told_no_order : (long named : Type 0) → TellsLeast nothing (of_any c n long named).least_out (of_any c n long named).in_order
  told_no_order long named = record {
    none_so = λ e. tt;
    none_back = λ w. refl;
    found_so = λ h e. nothing_not_at e;
    found_back = λ h w. absurd w;
  }

  -- a live half-edge
  abbrev pub is_live : Named → Bool
  is_live w = named_or false w (λ h. is_paired n.halfedges h)

  live_so : (z : ℤ) (w : Named) → names z c.halfedges ≡ w → is_live w ≡ true → NamesLive c n z
  live_so z (at h) e t = (h, (names_is z c.halfedges e, paired_live c.halfedges n.halfedges h (names_below z c.halfedges e) t))
  live_so z nothing e t = absurd (true≢false (sym t))

  pub told_live : (z : ℤ) → Tells (is_live (names z c.halfedges)) (NamesLive c n z)
  told_live z = record {
    so = live_so z (names z c.halfedges) refl;
    back = λ k. rw (names_at z c.halfedges k.0 k.1.0 k.1.1.in_use) (live_paired c.halfedges n.halfedges k.1.1);
  }
