-- The steps find exactly what the text is: a well-formed file with its positions and rows, a file that is too large, or the first
-- bad line. What they find holds in the words of the format, and whatever holds in those words is what they find.
use mathlib.Core.Path.{◌≡◌, refl, sym, ap, ◌∙◌}
use mathlib.Core.Bool.{true, false, ◌||◌}
use mathlib.Core.List.{List, [], ◌∷◌, ◌++◌}
use Prim.Native.Nat.{ℕ, ◌+◌, ◌*◌, ◌<◌}
use native.Mathlib.Omega.{arith}
use borrow.Author.Tests.{le-ltb, ltb-true}
use lib.Dec.{ltb}
use lib.ListN.{length}
use Rattle.laws.proofs.Tests.{by_test, or_cases}
use mathlib.Core.Logic.{⊎_elim}
use Rattle.digits.specs.Steps.{Got, got, bad, on, after}
use Rattle.digits.specs.Exact.{IsCount}
use Rattle.digits.proofs.Gots.{never}
use Rattle.digits.proofs.Right.{after_takes, after_took}
use Rattle.rows.specs.declared.halfedges.Row.{Row}
use Rattle.rows.specs.declared.triples.Bits3.{Bits3}
use Rattle.meshfile.specs.declared.Size.{Size}
use Rattle.meshfile.specs.Format.{form_line, verts_word, tris_word, count_line, position_line, halfedge_line, PositionFits, RowFits, all, Each, NoLine, headed, file, Few, Holds, FirstBad, bad_form, bad_verts, bad_tris, bad_position, bad_halfedge, more_text}
use Rattle.meshfile.specs.Steps.{count_step, position_step, halfedge_step, Header, header, no_header, header_of, Lines, lines, bad_line, lines_of, on_lines, Found, holding, too_large, first_bad, at_end, body_of, from_header, found, Means}
use Rattle.meshfile.proofs.Turns.{neither}
use Rattle.meshfile.proofs.Lines.{count_right, position_right, halfedge_right, no_line, no_step, Read, lines_took, lines_bad, lines_takes, lines_refused}

module _ (most : Size) where
  -- the three first lines
  data HeaderIs (text : List ℕ) : Header → Type 0 where
    good : (v t : ℕ) (s : List ℕ) → IsCount v → IsCount t → text ≡ headed v t s → HeaderIs text (header v t s)
    wrong : (k : ℕ) → FirstBad most text k → HeaderIs text (no_header k)

  abbrev with_tris : ℕ → List ℕ → Header
  with_tris v b = on (count_step tris_word b) (λ t c. header v t c) (no_header 3)

  abbrev with_verts : List ℕ → Header
  with_verts a = on (count_step verts_word a) with_tris (no_header 2)

  tris_is : (text b : List ℕ) (v : ℕ) → IsCount v → text ≡ form_line ++ (count_line verts_word v ++ b) → (g : Got ℕ) → count_step tris_word b ≡ g → HeaderIs text (on g (λ t c. header v t c) (no_header 3))
  tris_is text b v h q (got t c) e =
      let p = (count_right tris_word).took b t c e in
      good v t c h p.0 (q ∙ ap (λ (l : List ℕ). form_line ++ (count_line verts_word v ++ l)) p.1)
  tris_is text b v h q bad e = wrong 3 (bad_tris v b h q (no_line _ _ _ (count_right tris_word) b e))

  verts_is : (text a : List ℕ) → text ≡ form_line ++ a → (g : Got ℕ) → count_step verts_word a ≡ g → HeaderIs text (on g with_tris (no_header 2))
  verts_is text a q (got v b) e =
      let p = (count_right verts_word).took a v b e in
      tris_is text b v p.0 (q ∙ ap (λ (l : List ℕ). form_line ++ l) p.1) (count_step tris_word b) refl
  verts_is text a q bad e = wrong 2 (bad_verts a q (no_line _ _ _ (count_right verts_word) a e))

  form_is : (text : List ℕ) (g : Got ℕ) → after form_line text ≡ g → HeaderIs text (on g (λ _ a. with_verts a) (no_header 1))
  form_is text (got x a) e = verts_is text a (after_took form_line text x a e) (count_step verts_word a) refl
  form_is text bad e = wrong 1 (bad_form (λ rest q. never (sym e ∙ ap (after form_line) q ∙ after_takes form_line rest)))

  header_is : (text : List ℕ) → HeaderIs text (header_of text)
  unfolding header_of
  header_is text = form_is text (after form_line text) refl

  -- the lines behind them
  module _ (text : List ℕ) (v t : ℕ) (s : List ℕ) (few : Few most v t) (q : text ≡ headed v t s) where
    abbrev rows_then : List Bits3 → List ℕ → Found
    rows_then ps a = on_lines (lines_of halfedge_step (3 * t) (4 + v) a) (λ hs b. at_end b (holding v t ps hs) (first_bad (4 + v + 3 * t))) first_bad

    end_is : (ps : List Bits3) (hs : List Row) (b : List ℕ) → Holds v t ps hs → text ≡ file v t ps hs b → Means most text (at_end b (holding v t ps hs) (first_bad (4 + v + 3 * t)))
    end_is ps hs [] h e = record { few = few; holds = h; written = e }
    end_is ps hs (b ∷ rest) h e = more_text v t ps hs b rest few h e

    rows_are : (ps : List Bits3) (a : List ℕ) → Read position_step position_line PositionFits position_right v s ps a → (m : Lines Row) → lines_of halfedge_step (3 * t) (4 + v) a ≡ m → Means most text (on_lines m (λ hs b. at_end b (holding v t ps hs) (first_bad (4 + v + 3 * t))) first_bad)
    rows_are ps a p (lines hs b) e =
        let r = lines_took halfedge_step halfedge_line RowFits halfedge_right (3 * t) (4 + v) a hs b e in
        end_is ps hs b (record { positions = p.count; rows = r.count; positions_fit = p.fit; rows_fit = r.fit }) (q ∙ ap (headed v t) (p.written ∙ ap (λ (l : List ℕ). all position_line ps ++ l) r.written))
    rows_are ps a p (bad_line k) e =
        let r = lines_bad halfedge_step halfedge_line RowFits halfedge_right (3 * t) (4 + v) a k e in
        rw r.is (bad_halfedge v t ps r.good r.rest few p.count p.fit r.missing r.fit (q ∙ ap (headed v t) (p.written ∙ ap (λ (l : List ℕ). all position_line ps ++ l) r.written)) r.none)

    positions_are : (m : Lines Bits3) → lines_of position_step v 4 s ≡ m → Means most text (on_lines m rows_then first_bad)
    positions_are (lines ps a) e = rows_are ps a (lines_took position_step position_line PositionFits position_right v 4 s ps a e) (lines_of halfedge_step (3 * t) (4 + v) a) refl
    positions_are (bad_line k) e =
        let r = lines_bad position_step position_line PositionFits position_right v 4 s k e in
        rw r.is (bad_position v t r.good r.rest few r.missing r.fit (q ∙ ap (headed v t) r.written) r.none)

    body_is : Means most text (body_of v t s)
    unfolding body_of
    body_is = positions_are (lines_of position_step v 4 s) refl

  large : (v t : ℕ) → ltb most.vertices v || ltb most.triangles t ≡ true → Few most v t → ⊥
  large v t e f =
      ⊎_elim
      (λ p. omega (arith, ltb-true most.vertices v p, f.vertices_few))
      (λ p. omega (arith, ltb-true most.triangles t p, f.triangles_few))
      (or_cases (ltb most.vertices v) (ltb most.triangles t) e)

  from_is : (text : List ℕ) {h : Header} → HeaderIs text h → Means most text (from_header most h)
  from_is text (good v t s a b q) =
      by_test {P = Means most text (from_header most (header v t s))} (ltb most.vertices v || ltb most.triangles t)
      (λ e. rw e (record { vertices = v; triangles = t; rest = s; vertices_count = a; triangles_count = b; many = large v t e; written = q }))
      (λ e. let p = neither most.vertices v most.triangles t e in rw e (body_is text v t s (record { vertices_few = p.0; triangles_few = p.1 }) q))
  from_is text (wrong k f) = f

  -- what the steps find is so
  pub finds_right : (text : List ℕ) → Means most text (found most text)
  unfolding found
  finds_right text = from_is text (header_is text)

  -- the other way round: the three first lines, and counts within the limits or not
  header_takes : (v t : ℕ) (s : List ℕ) → IsCount v → IsCount t → header_of (headed v t s) ≡ header v t s
  unfolding header_of
  header_takes v t s h l =
      rw (after_takes form_line (count_line verts_word v ++ (count_line tris_word t ++ s)), (count_right verts_word).takes v (count_line tris_word t ++ s) h, (count_right tris_word).takes t s l)

  within : (v t : ℕ) → Few most v t → ltb most.vertices v || ltb most.triangles t ≡ false
  within v t f = rw (le-ltb most.vertices v f.vertices_few, le-ltb most.triangles t f.triangles_few)

  above : (v t : ℕ) → (Few most v t → ⊥) → ltb most.vertices v || ltb most.triangles t ≡ true
  above v t h =
      by_test (ltb most.vertices v || ltb most.triangles t)
      (λ e. e)
      (λ e. let p = neither most.vertices v most.triangles t e in absurd (h (record { vertices_few = p.0; triangles_few = p.1 })))

  whole_body : (ps : List Bits3) (hs : List Row) (v t : ℕ) (b : List ℕ) → Holds v t ps hs → body_of v t (all position_line ps ++ (all halfedge_line hs ++ b)) ≡ at_end b (holding v t ps hs) (first_bad (4 + v + 3 * t))
  unfolding body_of
  whole_body ps hs v t b h =
      rw (← h.positions, ← h.rows, lines_takes position_step position_line PositionFits position_right ps 4 (all halfedge_line hs ++ b) h.positions_fit, lines_takes halfedge_step halfedge_line RowFits halfedge_right hs (4 + length ps) b h.rows_fit)

  halfedge_body : (ps : List Bits3) (hs : List Row) (v t : ℕ) (b : List ℕ) → length ps ≡ v → Each PositionFits ps → length hs < 3 * t → Each RowFits hs → NoLine halfedge_line RowFits b → body_of v t (all position_line ps ++ (all halfedge_line hs ++ b)) ≡ first_bad (4 + v + length hs)
  unfolding body_of
  halfedge_body ps hs v t b h f l g none =
      rw (← h, lines_takes position_step position_line PositionFits position_right ps 4 (all halfedge_line hs ++ b) f, lines_refused halfedge_step halfedge_line RowFits halfedge_right hs (3 * t) (4 + length ps) b l g none)

  position_body : (ps : List Bits3) (v t : ℕ) (b : List ℕ) → length ps < v → Each PositionFits ps → NoLine position_line PositionFits b → body_of v t (all position_line ps ++ b) ≡ first_bad (4 + length ps)
  unfolding body_of
  position_body ps v t b l f none = rw (lines_refused position_step position_line PositionFits position_right ps v 4 b l f none)

  no_form : (text : List ℕ) (g : Got ℕ) → after form_line text ≡ g → ((rest : List ℕ) → text ≡ form_line ++ rest → ⊥) → g ≡ bad
  no_form text (got x a) e h = absurd (h a (after_took form_line text x a e))
  no_form text bad e h = refl

  -- where every count that is within the limits can be written
  module _ (counts : IsCount most.vertices) (triples : IsCount most.triangles) where
    body_found : (text : List ℕ) (v t : ℕ) (s : List ℕ) → Few most v t → text ≡ headed v t s → found most text ≡ body_of v t s
    unfolding found
    body_found text v t s f e = rw (e, header_takes v t s (omega (arith, f.vertices_few)) (omega (arith, f.triangles_few)), within v t f)

    bad_found : (text : List ℕ) {k : ℕ} → FirstBad most text k → found most text ≡ first_bad k
    unfolding found header_of
    bad_found text (bad_form h) = rw (no_form text (after form_line text) refl h)
    bad_found text (bad_verts rest e none) = rw (e, after_takes form_line rest, no_step _ _ _ (count_right verts_word) rest none)
    bad_found text (bad_tris v rest h e none) = rw (e, after_takes form_line (count_line verts_word v ++ rest), (count_right verts_word).takes v rest h, no_step _ _ _ (count_right tris_word) rest none)
    bad_found text (bad_position v t ps rest f l h e none) = body_found text v t (all position_line ps ++ rest) f e ∙ position_body ps v t rest l h none
    bad_found text (bad_halfedge v t ps hs rest f p g l h e none) = body_found text v t (all position_line ps ++ (all halfedge_line hs ++ rest)) f e ∙ halfedge_body ps hs v t rest p g l h none
    bad_found text (more_text v t ps hs b rest f h e) = body_found text v t (all position_line ps ++ (all halfedge_line hs ++ (b ∷ rest))) f e ∙ whole_body ps hs v t (b ∷ rest) h

    -- what is so is what the steps find
    pub right_found : (text : List ℕ) (f : Found) → Means most text f → found most text ≡ f
    unfolding found
    right_found text (holding v t ps hs) w = body_found text v t (all position_line ps ++ (all halfedge_line hs ++ [])) w.few w.written ∙ whole_body ps hs v t [] w.holds
    right_found text too_large w = rw (w.written, header_takes w.vertices w.triangles w.rest w.vertices_count w.triangles_count, above w.vertices w.triangles w.many)
    right_found text (first_bad k) w = bad_found text w
