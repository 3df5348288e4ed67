-- The lines of a report behind one another; a visit list number by number; one live half-edge or triangle more; and how long a report is.
use mathlib.Core.Path.{◌≡◌, refl, sym, ap, ◌∙◌}
use mathlib.Core.Bool.{Bool, true, false, cond, ◌&&◌}
use mathlib.Core.List.{List, [], ◌∷◌, ◌++◌, append_assoc, append-nil}
use Prim.Native.Nat.{ℕ, zero, suc, ◌+◌, ◌*◌, ◌/◌, ◌^◌, ◌≤◌, ◌<◌}
use native.Mathlib.Omega.{arith}
use native.Mathlib.Numerals.{add-one}
use Rattle.std.specs.List.{range_with_len, filter}
use lib.IntN.{ℤ}
use lib.ListN.{length, take, drop, get_or, length-append}
use lib.Seq.{length-take-le, take_all}
use native.Mathlib.Nat.{zero-add}
use Rattle.std.proofs.lemmas.List.{nil_from_length, map-id}
use Rattle.std.proofs.lemmas.List.FromFn.{filter_of_map_range_with_len_more}
use Rattle.digits.specs.Written.{comma, decimal, signed}
use Rattle.texts.specs.Appended.{line}
use Rattle.texts.proofs.Numbers.{decimal_few, line_few, line_length, difference_few}
use Rattle.rows.specs.Halfedges.{is_paired}
use Rattle.report.specs.declared.Mesh.{Mesh}
use Rattle.report.specs.declared.Outcome.TheVariants as O
use Rattle.report.specs.Report.{answer_word, added_word, steps_word, visit_word, euler_word, done_text, text_of, one, commas, behind_commas, live_halfedges, live_triangles, euler}

-- a visit list, number by number
pub visit_none : (visit : List ℕ) → length visit ≡ 0 → [] ≡ commas visit
unfolding commas
visit_none visit e = rw (nil_from_length visit e)

pub visit_first : (n : ℕ) (visit others : List ℕ) → visit ≡ n ∷ others → commas visit ≡ decimal n ++ behind_commas others
unfolding commas
visit_first n visit others e = rw e

pub others_none : (others : List ℕ) → [] ≡ behind_commas (take 0 others)
unfolding behind_commas
others_none others = refl

pub others_on : (others : List ℕ) (i d : ℕ) → i < length others → behind_commas (take (i + 1) others) ≡ behind_commas (take i others) ++ ((comma ∷ []) ++ decimal (get_or others i d))
unfolding behind_commas
others_on [] i d h = absurd (omega arith)
others_on (n ∷ l) zero d h = ap (λ (w : List ℕ). comma ∷ w) (append-nil (decimal n))
others_on (n ∷ l) (suc i) d h =
    let q : suc i + 1 ≡ suc (i + 1) = omega arith in
    rw q (ap (λ (w : List ℕ). comma ∷ (decimal n ++ w)) (others_on l i d (omega arith)) ∙ ap (λ (w : List ℕ). comma ∷ w) (sym (append_assoc (decimal n) (behind_commas (take i l)) ((comma ∷ []) ++ decimal (get_or l i d)))))

others_split : (others : List ℕ) (i : ℕ) → behind_commas others ≡ behind_commas (take i others) ++ behind_commas (drop i others)
unfolding behind_commas
others_split others zero = refl
others_split [] (suc i) = refl
others_split (n ∷ l) (suc i) = ap (λ (w : List ℕ). comma ∷ (decimal n ++ w)) (others_split l i) ∙ ap (λ (w : List ℕ). comma ∷ w) (sym (append_assoc (decimal n) (behind_commas (take i l)) (behind_commas (drop i l))))

-- the number at i, between those before it and those behind
pub others_at : (others : List ℕ) (i : ℕ) → i < length others → behind_commas others ≡ behind_commas (take i others) ++ (((comma ∷ []) ++ decimal (get_or others i 0)) ++ behind_commas (drop (i + 1) others))
others_at others i h =
    others_split others (i + 1)
    ∙ ap (λ (w : List ℕ). w ++ behind_commas (drop (i + 1) others)) (others_on others i 0 h)
    ∙ append_assoc (behind_commas (take i others)) ((comma ∷ []) ++ decimal (get_or others i 0)) (behind_commas (drop (i + 1) others))

pub others_all : (others : List ℕ) (i : ℕ) → length others ≤ i → behind_commas (take i others) ≡ behind_commas others
others_all others i h = ap behind_commas (take_all i others h)

-- of numbers of 64 bits
behind_few : (l : List ℕ) (k : ℕ) → ((i : ℕ) → get_or l i 0 < 2 ^ 64) → length (behind_commas (take k l)) ≤ 21 * k
unfolding behind_commas
behind_few l zero h = omega arith
behind_few [] (suc k) h = omega arith
behind_few (n ∷ l) (suc k) h = omega (arith, decimal_few n (h 0), length-append (decimal n) (behind_commas (take k l)), behind_few l k (λ i. h (suc i)))

commas_few : (l : List ℕ) (k : ℕ) → ((i : ℕ) → get_or l i 0 < 2 ^ 64) → length (commas (take k l)) ≤ 21 * k
unfolding commas
commas_few l zero h = omega arith
commas_few [] (suc k) h = omega arith
commas_few (n ∷ l) (suc k) h = omega (arith, decimal_few n (h 0), length-append (decimal n) (behind_commas (take k l)), behind_few l k (λ i. h (suc i)))

-- how many numbers below n pass a test, and a count of them one by one
one_length : (t : Bool) (n : ℕ) → length (cond t (n ∷ []) []) ≡ one t
one_length true n = refl
one_length false n = refl

range_more : (p : ℕ → Bool) (n : ℕ) → filter p (range_with_len 0 (suc n)) ≡ filter p (range_with_len 0 n) ++ cond (p n) (n ∷ []) []
range_more p n = rw (map-id (range_with_len 0 (n + 1)), map-id (range_with_len 0 n), add-one n) at (filter_of_map_range_with_len_more p (λ x. x) 0 n n (zero-add n))

counts : (F : ℕ → ℕ) (p : ℕ → Bool) → F 0 ≡ 0 → ((n : ℕ) → F (suc n) ≡ F n + one (p n)) → (n : ℕ) → length (filter p (range_with_len 0 n)) ≡ F n
counts F p none more zero = sym none
counts F p none more (suc n) =
    ap length (range_more p n)
    ∙ length-append (filter p (range_with_len 0 n)) (cond (p n) (n ∷ []) [])
    ∙ rw (counts F p none more n, one_length (p n) n) (sym (more n))

one_le : (t : Bool) → one t ≤ 1
one_le true = omega arith
one_le false = omega arith

module _ (rows : List ℤ) where
  pub live_are : (n : ℕ) → length (filter (is_paired rows) (range_with_len 0 n)) ≡ live_halfedges rows n
  unfolding live_halfedges
  live_are = counts (live_halfedges rows) (is_paired rows) refl (λ n. refl)

  pub live_le : (n : ℕ) → live_halfedges rows n ≤ n
  unfolding live_halfedges
  live_le zero = omega arith
  live_le (suc n) = omega (arith, live_le n, one_le (is_paired rows n))

  abbrev pub is_live_triangle : ℕ → Bool
  is_live_triangle t = is_paired rows (3 * t) && is_paired rows (3 * t + 1) && is_paired rows (3 * t + 2)

  pub triangles_are : (n : ℕ) → length (filter is_live_triangle (range_with_len 0 n)) ≡ live_triangles rows n
  unfolding live_triangles
  triangles_are = counts (live_triangles rows) is_live_triangle refl (λ n. refl)

  pub triangles_le : (n : ℕ) → live_triangles rows n ≤ n
  unfolding live_triangles
  triangles_le zero = omega arith
  triangles_le (suc n) = omega (arith, triangles_le n, one_le (is_live_triangle n))

-- how long a report is
euler_few : (vertices triangles : ℕ) (rows : List ℤ) → vertices ≤ 1000000 → triangles ≤ 1000000 → length (signed (euler vertices triangles rows)) ≤ 21
unfolding euler
euler_few vertices triangles rows h l =
    difference_few (vertices + live_triangles rows triangles) (live_halfedges rows (3 * triangles) / 2)
    (omega (arith, triangles_le rows triangles))
    (omega (arith, live_le rows (3 * triangles)))

module _ (mesh : Mesh) (added steps : ℕ) (visit : List ℕ) (h : steps ≤ length visit) where
  abbrev visited : List ℕ
  visited = take steps visit

  abbrev z : ℤ
  z = euler mesh.vertices mesh.triangles mesh.rows.now

  pub done_few : added < 2 ^ 64 → steps ≤ 768 → ((i : ℕ) → get_or visit i 0 < 2 ^ 64) → length (done_text added visited z) ≤ 20000
  unfolding done_text
  done_few a s v =
      let long : length visited ≡ steps = length-take-le steps visit h in
      omega (
        arith,
        length-append (line answer_word (decimal 0)) (line added_word (decimal added) ++ (line steps_word (decimal (length visited)) ++ (line visit_word (commas visited) ++ line euler_word (signed z)))),
        length-append (line added_word (decimal added)) (line steps_word (decimal (length visited)) ++ (line visit_word (commas visited) ++ line euler_word (signed z))),
        length-append (line steps_word (decimal (length visited))) (line visit_word (commas visited) ++ line euler_word (signed z)),
        length-append (line visit_word (commas visited)) (line euler_word (signed z)),
        line_few answer_word 0 (omega arith),
        line_few added_word added a,
        line_few steps_word (length visited) (omega arith),
        line_length visit_word (commas visited),
        line_length euler_word (signed z),
        commas_few visit steps v,
        euler_few mesh.vertices mesh.triangles mesh.rows.now mesh.vertices_few mesh.triangles_few,
      )

  pub done_is : done_text added visited z ≡ text_of (O.Done added steps) visit z
  unfolding done_text text_of
  done_is = rw (length-take-le steps visit h)

pub refused_few : (answer : ℕ) (word : List ℕ) (value : ℕ) → answer < 2 ^ 64 → value < 2 ^ 64 → length (line answer_word (decimal answer) ++ line word (decimal value)) ≤ length word + 49
refused_few answer word value h l =
    omega (arith, length-append (line answer_word (decimal answer)) (line word (decimal value)), line_few answer_word answer h, line_few word value l)
