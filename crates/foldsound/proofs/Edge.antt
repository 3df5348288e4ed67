-- The two triangles at a live edge of rows in order: they share no row; the rows outside a triangle; and where e1 is paired with f2
-- alone, the partners of e2 and f1 are rows of neither, and mirror each other.
use mathlib.Core.Path.{◌≡◌, sym, ap, ◌∙◌}
use mathlib.Core.List.{List}
use mathlib.Core.Logic.{◌⊎◌, inl, inr}
use Prim.Native.Nat.{ℕ, ◌%◌, ◌<◌}
use native.Mathlib.Decide.{ℕ_discrete}
use lib.IntN.{ℤ}
use Rattle.numbers.specs.Next.{next}
use Rattle.numbers.proofs.NextLaws.{next_inj, next_round, next_moves, next_next_moves}
use Rattle.rows.specs.Halfedges.{start_of, end_of}
use Rattle.net.specs.Sound.{partner, LiveRow, InOrder, Live}
use Rattle.net.proofs.Sound.{live_row, next_live, pair_involution, not_own_partner}
use Rattle.triangles.specs.Triangles.{Outside}
use Rattle.foldsound.specs.Removed.{SameOpposite, Former, Latter, Outer}

-- outside a triangle, or one of its three rows
abbrev pub Inside : ℕ → ℕ → Type 0
Inside e g = (g ≡ e) ⊎ ((g ≡ next e) ⊎ (g ≡ next (next e)))

pub side : (e g : ℕ) → Inside e g ⊎ Outside e g
side e g = go (ℕ_discrete g e) (ℕ_discrete g (next e)) (ℕ_discrete g (next (next e)))
  where
    go : Dec (g ≡ e) → Dec (g ≡ next e) → Dec (g ≡ next (next e)) → Inside e g ⊎ Outside e g
    go (yes p) b c = inl (inl p)
    go (no p) (yes q) c = inl (inr (inl q))
    go (no p) (no q) (yes r) = inl (inr (inr r))
    go (no p) (no q) (no r) = inr (record { not_first = p; not_second = q; not_third = r })

-- the next of a row outside is outside
pub outside_next : {e g : ℕ} → Outside e g → Outside e (next g)
outside_next {e} {g} o = record {
  not_first = λ q. o.not_third (next_inj g (next (next e)) (q ∙ sym (next_round e)));
  not_second = λ q. o.not_first (next_inj g e q);
  not_third = λ q. o.not_second (next_inj g (next e) q);
}

pub outer_next : {e f g : ℕ} → Outer e f g → Outer e f (next g)
outer_next o = record { off_first = outside_next o.off_first; off_other = outside_next o.off_other }

pub outer_flip : {e f g : ℕ} → Outer e f g → Outer f e g
outer_flip o = record { off_first = o.off_other; off_other = o.off_first }

module _ (H N : ℕ) (rows : List ℤ) (thirds : H % 3 ≡ 0) (in_order : (h : ℕ) → h < H → InOrder H N rows h) where
  abbrev Row : ℕ → Type 0
  Row h = Live H rows h

  abbrev row : {h : ℕ} → Row h → LiveRow H N rows h
  row l = live_row H N rows thirds in_order l

  abbrev on : {h : ℕ} → Row h → Row (next h)
  on l = next_live H N rows thirds in_order l

  -- a partner's partner
  back_to : {g h : ℕ} → Row g → partner rows g ≡ h → partner rows h ≡ g
  back_to l q = ap (partner rows) (sym q) ∙ pair_involution H N rows thirds in_order l

  module _ (e f : ℕ) (l : Row e) (k : Row f) (there : partner rows e ≡ f) (back : partner rows f ≡ e) where
    -- f is no row of e's triangle
    pub f_outside : Outside e f
    f_outside =
        let r = row l in
        record {
          not_first = λ q. not_own_partner H N rows thirds in_order l (there ∙ q);
          not_second = λ q. (row (on l)).apart_23 (sym (row (on l)).joined ∙ ap (end_of rows) (sym (there ∙ q)) ∙ r.pair_end ∙ ap (start_of rows) (sym (next_round e)));
          not_third = λ q. r.apart_23 (sym r.joined ∙ sym r.pair_start ∙ ap (start_of rows) (there ∙ q));
        }

    abbrev x : ℕ
    x = partner rows (next (next e))

    abbrev y : ℕ
    y = partner rows (next f)

    -- e1 is paired with f2 alone
    module _ (former : Former rows e f) (not_latter : Latter rows e f → ⊥) where
      former_back : partner rows (next (next f)) ≡ next e
      former_back = back_to (on l) former

      pub x_outer : Outer e f x
      x_outer = record {
        off_first = record {
          not_first = λ q. f_outside.not_third (sym there ∙ back_to (on (on l)) q);
          not_second = λ q. (outside_next (outside_next f_outside)).not_third (sym former ∙ back_to (on (on l)) q);
          not_third = λ q. not_own_partner H N rows thirds in_order (on (on l)) q;
        };
        off_other = record {
          not_first = λ q. next_next_moves e (sym (back_to (on (on l)) q) ∙ back);
          not_second = λ q. not_latter q;
          not_third = λ q. next_moves (next e) (sym (back_to (on (on l)) q) ∙ former_back);
        };
      }

      pub y_outer : Outer e f y
      y_outer = record {
        off_first = record {
          not_first = λ q. next_moves f (sym (back_to (on k) q) ∙ there);
          not_second = λ q. next_moves (next f) (sym former ∙ back_to (on k) q);
          not_third = λ q. not_latter (back_to (on k) q);
        };
        off_other = record {
          not_first = λ q. (outside_next f_outside).not_first (sym (back_to (on k) q) ∙ back);
          not_second = λ q. not_own_partner H N rows thirds in_order (on k) q;
          not_third = λ q. (outside_next f_outside).not_second (sym (back_to (on k) q) ∙ former_back);
        };
      }

    -- x and y have each other's ends
    module _ (same : SameOpposite rows e f) where
      pub x_y_start : start_of rows y ≡ end_of rows x
      x_y_start = (row (on k)).pair_start ∙ sym same ∙ (row (on l)).joined ∙ sym (row (on (on l))).pair_end

      pub x_y_end : end_of rows y ≡ start_of rows x
      x_y_end =
          (row (on k)).pair_end ∙ sym (row k).joined ∙ ap (end_of rows) (sym there) ∙ (row l).pair_end
          ∙ ap (start_of rows) (sym (next_round e)) ∙ sym (row (on (on l))).joined ∙ sym (row (on (on l))).pair_start

    -- a live row outside that is none of the four partners of e1, e2, f1 and f2: its partner is outside too
    pub partner_outer : {h : ℕ} → Row h → Outer e f h →
        (h ≡ partner rows (next e) → ⊥) → (h ≡ partner rows (next (next e)) → ⊥) → (h ≡ partner rows (next f) → ⊥) → (h ≡ partner rows (next (next f)) → ⊥) →
        Outer e f (partner rows h)
    partner_outer m o na nb nc nd = record {
      off_first = record {
        not_first = λ q. o.off_other.not_first (sym (back_to m q) ∙ there);
        not_second = λ q. na (sym (back_to m q));
        not_third = λ q. nb (sym (back_to m q));
      };
      off_other = record {
        not_first = λ q. o.off_first.not_first (sym (back_to m q) ∙ back);
        not_second = λ q. nc (sym (back_to m q));
        not_third = λ q. nd (sym (back_to m q));
      };
    }
