-- The front of a file is enough: a good file has at most 48,936 bytes, and one byte more decides what any other text is found to be. So
-- whoever has read 65,536 bytes, or all of a shorter file, finds what stands in the whole.
use mathlib.Core.Path.{◌≡◌, refl, sym, ap, ◌∙◌}
use mathlib.Core.List.{List, [], ◌∷◌, ◌++◌, append_assoc}
use Prim.Native.Nat.{ℕ, zero, suc, ◌+◌, ◌-◌, ◌*◌, ◌/◌, ◌%◌, ◌^◌, ◌≤◌, ◌<◌}
use native.Mathlib.Nat.{pow-succ'}
use native.Mathlib.Omega.{arith}
use borrow.Author.Tests.{ltb-true, ltb-false}
use lib.Dec.{ltb}
use lib.IntN.{ℤ, pos, negsuc}
use lib.ListN.{length, take, drop, length-append, take-append-drop}
use lib.Seq.{take_all, take-append-add}
use Rattle.laws.proofs.Tests.{by_test}
use Rattle.digits.specs.Exact.{IsCount, IsNumber}
use Rattle.digits.specs.Written.{glyph, decimal, signed, hex_digits}
use Rattle.digits.proofs.Glyphs.{decimal_one, decimal_more}
use Rattle.rows.specs.declared.halfedges.Row.{Row}
use Rattle.rows.specs.declared.triples.Bits3.{Bits3}
use Rattle.meshfile.specs.declared.Size.{Size}
use Rattle.meshfile.specs.Format.{form_line, verts_word, tris_word, count_line, position_line, halfedge_line, PositionFits, RowFits, all, Each, NoLine, headed, file, Few, FirstBad, bad_form, bad_verts, bad_tris, bad_position, bad_halfedge, more_text}
use Rattle.meshfile.specs.Steps.{Found, holding, too_large, first_bad, found, Means}
use Rattle.meshfile.proofs.Right.{finds_right, right_found}

-- ---- how long the lines are
decimal_short : (d n : ℕ) → n < 10 ^ suc d → length (decimal n) ≤ suc d
decimal_short zero n h = rw (decimal_one n (omega arith)) (omega arith)
decimal_short (suc d) n h =
    by_test (ltb n 10)
    (λ t. rw (decimal_one n (ltb-true n 10 t)) (omega arith))
    (λ t.
    let l : 10 ≤ n = ltb-false n 10 t in
    let q : 10 * (n / 10) + n % 10 ≡ n = omega arith in
    let s : length (decimal (n / 10)) ≤ suc d = decimal_short d (n / 10) (omega (arith, pow-succ' 10 (suc d))) in
    let e : decimal n ≡ decimal (n / 10) ++ (glyph (n % 10) ∷ []) = sym (ap decimal q) ∙ decimal_more (n / 10) (n % 10) (omega arith) (omega arith) in
    omega (arith, ap length e, length-append (decimal (n / 10)) (glyph (n % 10) ∷ [])))

count_short : (n : ℕ) → IsCount n → length (decimal n) ≤ 10
count_short n h = decimal_short 9 n (omega arith)

signed_short : (z : ℤ) → IsNumber z → length (signed z) ≤ 10
signed_short (pos n) h = count_short n h
signed_short (negsuc n) h = rw (h, decimal_one 1 (omega arith)) (omega arith)

hex_long : (k n : ℕ) → length (hex_digits k n) ≡ k
unfolding hex_digits
hex_long zero n = refl
hex_long (suc k) n = length-append (hex_digits k (n / 16)) (glyph (n % 16) ∷ []) ∙ omega (arith, hex_long k (n / 16))

count_line_short : (word : List ℕ) (n : ℕ) → IsCount n → length (count_line word n) ≤ length word + 11
unfolding count_line
count_line_short word n h = simp length-append (omega (arith, count_short n h))

position_line_short : (p : Bits3) → PositionFits p → length (position_line p) ≤ 53
unfolding position_line
position_line_short p f = simp (length-append, hex_long) (omega arith)

halfedge_line_short : (r : Row) → RowFits r → length (halfedge_line r) ≤ 46
unfolding halfedge_line
halfedge_line_short r f =
    simp length-append
    (omega (
      arith,
      signed_short r.start f.start,
      signed_short r.end f.end,
      signed_short r.pair f.pair,
      signed_short r.prop f.prop,
    ))

all_short : {A : Type 0} (line : A → List ℕ) (Fits : A → Type 0) (k : ℕ) → ((a : A) → Fits a → length (line a) ≤ k) → (l : List A) → Each Fits l → length (all line l) ≤ k * length l
unfolding all Each
all_short line Fits k b [] f = omega arith
all_short line Fits k b (a ∷ l) f =
    let m : k * suc (length l) ≡ k + k * length l = omega arith in
    omega (arith, length-append (line a) (all line l), b a f.0, all_short line Fits k b l f.1)

-- ---- the first n bytes
-- what stands in front stays whole
front : (n : ℕ) (a b : List ℕ) → length a ≤ n → take n (a ++ b) ≡ a ++ take (n - length a) b
front n a b h = let q : length a + (n - length a) ≡ n = omega arith in ap (λ (k : ℕ). take k (a ++ b)) (sym q) ∙ take-append-add a b (n - length a)

-- what begins the front begins the whole; so where no good line stands, none stands in the front
whole : (n : ℕ) (s a r : List ℕ) → take n s ≡ a ++ r → s ≡ a ++ (r ++ drop n s)
whole n s a r e = sym (take-append-drop n s) ∙ ap (λ (x : List ℕ). x ++ drop n s) e ∙ append_assoc a r (drop n s)

no_line_in_front : {A : Type 0} (line : A → List ℕ) (Fits : A → Type 0) (n : ℕ) (s : List ℕ) → NoLine line Fits s → NoLine line Fits (take n s)
no_line_in_front line Fits n s none a r f e = none a (r ++ drop n s) f (whole n s (line a) r e)

take_cons : (m b : ℕ) (r : List ℕ) → 0 < m → take m (b ∷ r) ≡ b ∷ take (m - 1) r
take_cons zero b r h = absurd (omega arith)
take_cons (suc m) b r h = let q : suc m - 1 ≡ m = omega arith in rw q

-- the three first lines and what stands behind them, as far as it goes
joined : (vertices triangles : ℕ) (x rest : List ℕ) → headed vertices triangles x ++ rest ≡ headed vertices triangles (x ++ rest)
joined vertices triangles x rest = simp append_assoc

module _ (vertices triangles : ℕ) (v : IsCount vertices) (t : IsCount triangles) where
  headed_short : (x : List ℕ) → length (headed vertices triangles x) ≤ 40 + length x
  headed_short x =
      simp length-append (omega (arith, count_line_short verts_word vertices v, count_line_short tris_word triangles t))

  cut : (n : ℕ) (text x rest : List ℕ) → text ≡ headed vertices triangles (x ++ rest) → 40 + length x ≤ n
      → take n text ≡ headed vertices triangles (x ++ take (n - length (headed vertices triangles x)) rest)
  cut n text x rest e h =
      ap (take n) (e ∙ sym (joined vertices triangles x rest))
      ∙ front n (headed vertices triangles x) rest (omega (arith, headed_short x))
      ∙ joined vertices triangles x (take (n - length (headed vertices triangles x)) rest)

module _ (most : Size) (few_vertices : most.vertices ≤ 256) (few_triangles : most.triangles ≤ 256) (n : ℕ) (long : 65536 ≤ n) where
  counts : {vertices triangles : ℕ} → Few most vertices triangles → IsCount vertices × IsCount triangles
  counts f = (omega (arith, f.vertices_few), omega (arith, f.triangles_few))

  positions_short : (ps : List Bits3) → length ps ≤ 256 → Each PositionFits ps → length (all position_line ps) ≤ 13568
  positions_short ps h f = omega (arith, all_short position_line PositionFits 53 position_line_short ps f)

  rows_short : (hs : List Row) → length hs ≤ 768 → Each RowFits hs → length (all halfedge_line hs) ≤ 35328
  rows_short hs h f = omega (arith, all_short halfedge_line RowFits 46 halfedge_line_short hs f)

  -- the positions and rows, and what is left of n bytes behind them
  abbrev lines : List Bits3 → List Row → List ℕ
  lines ps hs = all position_line ps ++ all halfedge_line hs

  abbrev left : ℕ → ℕ → List Bits3 → List Row → ℕ
  left v t ps hs = n - length (headed v t (lines ps hs))

  lines_short : (ps : List Bits3) (hs : List Row) → length ps ≤ 256 → Each PositionFits ps → length hs ≤ 768 → Each RowFits hs → length (lines ps hs) ≤ 48896
  lines_short ps hs p f h g = omega (arith, length-append (all position_line ps) (all halfedge_line hs), positions_short ps p f, rows_short hs h g)

  file_cut : (text : List ℕ) (v t : ℕ) (ps : List Bits3) (hs : List Row) (rest : List ℕ) → Few most v t
      → length ps ≤ 256 → Each PositionFits ps → length hs ≤ 768 → Each RowFits hs
      → text ≡ file v t ps hs rest → (take n text ≡ file v t ps hs (take (left v t ps hs) rest)) × (0 < left v t ps hs)
  file_cut text v t ps hs rest few p f h g e =
      let c = counts few in
      let l = lines_short ps hs p f h g in
      let apart = append_assoc (all position_line ps) (all halfedge_line hs) in (
        cut v t c.0 c.1 n text (lines ps hs) rest (e ∙ ap (λ (x : List ℕ). headed v t x) (sym (apart rest))) (omega arith)
            ∙ ap (λ (x : List ℕ). headed v t x) (apart (take (left v t ps hs) rest)),
        omega (arith, headed_short v t c.0 c.1 (lines ps hs)),
      )

  -- what is said of a text holds of its front
  in_front : (text : List ℕ) (f : Found) → Means most text f → Means most (take n text) f
  in_front text (holding v t ps hs) w =
      let c = counts w.few in
      let x = all position_line ps ++ (all halfedge_line hs ++ []) in
      let l : length text ≤ n =
      omega (
        arith,
        ap length w.written,
        headed_short v t c.0 c.1 x,
        ap length (append_assoc (all position_line ps) (all halfedge_line hs) []),
        length-append (lines ps hs) [],
        lines_short ps hs
            (omega (arith, w.few.vertices_few, w.holds.positions)) w.holds.positions_fit
            (omega (arith, w.few.triangles_few, w.holds.rows)) w.holds.rows_fit,
      )
      in
      rw (take_all n text l) w
  in_front text too_large w = record {
    vertices = w.vertices;
    triangles = w.triangles;
    rest = take (n - length (headed w.vertices w.triangles [])) w.rest;
    vertices_count = w.vertices_count;
    triangles_count = w.triangles_count;
    many = w.many;
    written = cut w.vertices w.triangles w.vertices_count w.triangles_count n text [] w.rest w.written (omega arith);
  }
  in_front text (first_bad line) b = go b
    where
      go : {k : ℕ} → FirstBad most text k → FirstBad most (take n text) k
      go (bad_form none) = bad_form (λ r e. none (r ++ drop n text) (whole n text form_line r e))
      go (bad_verts rest e none) =
          bad_verts (take (n - 7) rest) (ap (take n) e ∙ front n form_line rest (omega arith)) (no_line_in_front (count_line verts_word) IsCount (n - 7) rest none)
      go (bad_tris v rest c e none) =
          let a = form_line ++ count_line verts_word v in
          let k = n - length a in
          let s : length a ≤ n = omega (arith, length-append form_line (count_line verts_word v), count_line_short verts_word v c) in
          bad_tris v (take k rest) c (ap (take n) e ∙ front n a rest s) (no_line_in_front (count_line tris_word) IsCount k rest none)
      go (bad_position v t ps rest f l fit e none) =
          let c = counts f in
          let x = all position_line ps in
          let k = n - length (headed v t x) in
          bad_position v t ps (take k rest) f l fit
          (cut v t c.0 c.1 n text x rest e (omega (arith, f.vertices_few, positions_short ps (omega (arith, f.vertices_few)) fit)))
          (no_line_in_front position_line PositionFits k rest none)
      go (bad_halfedge v t ps hs rest f p fit l fits e none) =
          bad_halfedge v t ps hs (take (left v t ps hs) rest) f p fit l fits
          (file_cut text v t ps hs rest f (omega (arith, f.vertices_few)) fit (omega (arith, f.triangles_few)) fits e).0
          (no_line_in_front halfedge_line RowFits (left v t ps hs) rest none)
      go (more_text v t ps hs b rest f h e) =
          let r =
          file_cut text v t ps hs (b ∷ rest) f
          (omega (arith, f.vertices_few, h.positions)) h.positions_fit
          (omega (arith, f.triangles_few, h.rows)) h.rows_fit
          e
          in
          more_text v t ps hs b (take (left v t ps hs - 1) rest) f h
          (r.0 ∙ ap (λ (x : List ℕ). file v t ps hs x) (take_cons (left v t ps hs) b rest r.1))

  pub front_found : (text : List ℕ) → found most (take n text) ≡ found most text
  front_found text =
      right_found most (omega arith) (omega arith) (take n text) (found most text) (in_front text (found most text) (finds_right most text))
