-- The steps of a line are right: each takes exactly the line that is written. So do several lines of one kind.
use mathlib.Core.Path.{◌≡◌, refl, sym, ap, ◌∙◌}
use mathlib.Core.List.{List, [], ◌∷◌, ◌++◌, append_assoc}
use Prim.Native.Nat.{ℕ, zero, suc, ◌+◌, ◌<◌}
use native.Mathlib.Nat.{add-zero}
use native.Mathlib.Omega.{arith}
use lib.ListN.{length}
use lib.IntN.{ℤ}
use Rattle.digits.specs.Steps.{Got, got, bad, on, after, digit, count_then, number_then, hex_then}
use Rattle.digits.specs.Written.{newline, comma, decimal, signed, hex}
use Rattle.digits.specs.Exact.{Exact, IsCount, IsNumber, IsPattern}
use Rattle.digits.proofs.Gots.{got_value, got_rest, never, on_got}
use Rattle.digits.proofs.Right.{after_takes, after_took, count_exact, number_exact, hex_exact}
use Rattle.rows.specs.declared.halfedges.Row.{Row}
use Rattle.rows.specs.declared.triples.Bits3.{Bits3}
use Rattle.meshfile.specs.Format.{position_word, halfedge_word, count_line, position_line, halfedge_line, PositionFits, RowFits, all, Each, NoLine}
use Rattle.meshfile.specs.Steps.{count_step, position_step, halfedge_step, Lines, lines, bad_line, behind, lines_of}

-- a number stops at a comma and at a newline
at_comma : 9 < digit comma
unfolding digit
at_comma = omega arith

at_newline : 9 < digit newline
unfolding digit
at_newline = omega arith

regroup2 : (a b r : List ℕ) → (a ++ b) ++ r ≡ a ++ (b ++ r)
regroup2 a b r = append_assoc a b r

regroup4 : (a b c d r : List ℕ) → (a ++ (b ++ (c ++ d))) ++ r ≡ a ++ (b ++ (c ++ (d ++ r)))
regroup4 a b c d r = simp append_assoc

regroup5 : (a b c d e r : List ℕ) → (a ++ (b ++ (c ++ (d ++ e)))) ++ r ≡ a ++ (b ++ (c ++ (d ++ (e ++ r))))
regroup5 a b c d e r = simp append_assoc

pub count_right : (word : List ℕ) → Exact (count_step word) (count_line word) IsCount
unfolding count_step count_line
count_right word = record {
  takes = λ n rest h. rw (regroup2 word (decimal n ++ (newline ∷ [])) rest, after_takes word ((decimal n ++ (newline ∷ [])) ++ rest)) ((count_exact newline at_newline).takes n rest h);
  took = λ s n rest e.
      let p = on_got (after word s) (λ _ a. count_then newline a) e in
      let q = (count_exact newline at_newline).took p.1 n rest p.3 in
      (q.0, after_took word s p.0 p.1 p.2 ∙ ap (λ (l : List ℕ). word ++ l) q.1 ∙ sym (regroup2 word (decimal n ++ (newline ∷ [])) rest));
}

-- the steps behind one another, each with what was read before it
abbrev position_last : ℕ → ℕ → ℕ → List ℕ → Got Bits3
position_last x y z d = got (record { x = x; y = y; z = z }) d

abbrev position_third : ℕ → ℕ → List ℕ → Got Bits3
position_third x y c = on (hex_then newline c) (position_last x y) bad

abbrev position_second : ℕ → List ℕ → Got Bits3
position_second x b = on (hex_then comma b) (position_third x) bad

abbrev position_first : ℕ → List ℕ → Got Bits3
position_first _ a = on (hex_then comma a) position_second bad

position_written : (s a b c d rest : List ℕ) (x y z : ℕ) (p : Bits3) → s ≡ position_word ++ a
    → IsPattern x × (a ≡ (hex x ++ (comma ∷ [])) ++ b) → IsPattern y × (b ≡ (hex y ++ (comma ∷ [])) ++ c) → IsPattern z × (c ≡ (hex z ++ (newline ∷ [])) ++ d)
    → position_last x y z d ≡ got p rest → PositionFits p × (s ≡ position_line p ++ rest)
unfolding position_line
position_written s a b c d rest x y z p e f g h i =
    rw (← got_value i, ← got_rest i) (
      record { x = f.0; y = g.0; z = h.0 },
      e ∙ rw (f.1, g.1, h.1) (sym (regroup4 position_word (hex x ++ (comma ∷ [])) (hex y ++ (comma ∷ [])) (hex z ++ (newline ∷ [])) d)),
    )

pub position_right : Exact position_step position_line PositionFits
unfolding position_step position_line
position_right = record {
  takes = λ p rest h.
      rw (
        regroup4 position_word (hex p.x ++ (comma ∷ [])) (hex p.y ++ (comma ∷ [])) (hex p.z ++ (newline ∷ [])) rest,
        after_takes position_word ((hex p.x ++ (comma ∷ [])) ++ ((hex p.y ++ (comma ∷ [])) ++ ((hex p.z ++ (newline ∷ [])) ++ rest))),
        (hex_exact comma).takes p.x ((hex p.y ++ (comma ∷ [])) ++ ((hex p.z ++ (newline ∷ [])) ++ rest)) h.x,
        (hex_exact comma).takes p.y ((hex p.z ++ (newline ∷ [])) ++ rest) h.y,
        (hex_exact newline).takes p.z rest h.z,
      );
  took = λ s p rest e.
      let a = on_got (after position_word s) position_first e in
      let b = on_got (hex_then comma a.1) position_second a.3 in
      let c = on_got (hex_then comma b.1) (position_third b.0) b.3 in
      let d = on_got (hex_then newline c.1) (position_last b.0 c.0) c.3 in
      position_written s a.1 b.1 c.1 d.1 rest b.0 c.0 d.0 p
      (after_took position_word s a.0 a.1 a.2)
      ((hex_exact comma).took a.1 b.0 b.1 b.2)
      ((hex_exact comma).took b.1 c.0 c.1 c.2)
      ((hex_exact newline).took c.1 d.0 d.1 d.2)
      d.3;
}

abbrev row_last : ℤ → ℤ → ℤ → ℤ → List ℕ → Got Row
row_last a b c d s = got (record { start = a; end = b; pair = c; prop = d }) s

abbrev row_fourth : ℤ → ℤ → ℤ → List ℕ → Got Row
row_fourth a b c s = on (number_then newline s) (row_last a b c) bad

abbrev row_third : ℤ → ℤ → List ℕ → Got Row
row_third a b s = on (number_then comma s) (row_fourth a b) bad

abbrev row_second : ℤ → List ℕ → Got Row
row_second a s = on (number_then comma s) (row_third a) bad

abbrev row_first : ℕ → List ℕ → Got Row
row_first _ s = on (number_then comma s) row_second bad

row_written : (s a b c d e rest : List ℕ) (v w x y : ℤ) (r : Row) → s ≡ halfedge_word ++ a
    → IsNumber v × (a ≡ (signed v ++ (comma ∷ [])) ++ b) → IsNumber w × (b ≡ (signed w ++ (comma ∷ [])) ++ c)
    → IsNumber x × (c ≡ (signed x ++ (comma ∷ [])) ++ d) → IsNumber y × (d ≡ (signed y ++ (newline ∷ [])) ++ e)
    → row_last v w x y e ≡ got r rest → RowFits r × (s ≡ halfedge_line r ++ rest)
unfolding halfedge_line
row_written s a b c d e rest v w x y r q f g h i j =
    rw (← got_value j, ← got_rest j) (
      record { start = f.0; end = g.0; pair = h.0; prop = i.0 },
      q ∙ rw (f.1, g.1, h.1, i.1) (sym (regroup5 halfedge_word (signed v ++ (comma ∷ [])) (signed w ++ (comma ∷ [])) (signed x ++ (comma ∷ [])) (signed y ++ (newline ∷ [])) e)),
    )

pub halfedge_right : Exact halfedge_step halfedge_line RowFits
unfolding halfedge_step halfedge_line
halfedge_right = record {
  takes = λ r rest h.
      let n = number_exact comma at_comma in
      rw (
        regroup5 halfedge_word (signed r.start ++ (comma ∷ [])) (signed r.end ++ (comma ∷ [])) (signed r.pair ++ (comma ∷ [])) (signed r.prop ++ (newline ∷ [])) rest,
        after_takes halfedge_word ((signed r.start ++ (comma ∷ [])) ++ ((signed r.end ++ (comma ∷ [])) ++ ((signed r.pair ++ (comma ∷ [])) ++ ((signed r.prop ++ (newline ∷ [])) ++ rest)))),
        n.takes r.start ((signed r.end ++ (comma ∷ [])) ++ ((signed r.pair ++ (comma ∷ [])) ++ ((signed r.prop ++ (newline ∷ [])) ++ rest))) h.start,
        n.takes r.end ((signed r.pair ++ (comma ∷ [])) ++ ((signed r.prop ++ (newline ∷ [])) ++ rest)) h.end,
        n.takes r.pair ((signed r.prop ++ (newline ∷ [])) ++ rest) h.pair,
        (number_exact newline at_newline).takes r.prop rest h.prop,
      );
  took = λ s r rest e.
      let n = number_exact comma at_comma in
      let a = on_got (after halfedge_word s) row_first e in
      let b = on_got (number_then comma a.1) row_second a.3 in
      let c = on_got (number_then comma b.1) (row_third b.0) b.3 in
      let d = on_got (number_then comma c.1) (row_fourth b.0 c.0) c.3 in
      let f = on_got (number_then newline d.1) (row_last b.0 c.0 d.0) d.3 in
      row_written s a.1 b.1 c.1 d.1 f.1 rest b.0 c.0 d.0 f.0 r
      (after_took halfedge_word s a.0 a.1 a.2)
      (n.took a.1 b.0 b.1 b.2)
      (n.took b.1 c.0 c.1 c.2)
      (n.took c.1 d.0 d.1 d.2)
      ((number_exact newline at_newline).took d.1 f.0 f.1 f.2)
      f.3;
}

-- a line behind which others were read
behind_lines : {A : Type 0} (a : A) (m : Lines A) {l : List A} {t : List ℕ} → behind a m ≡ lines l t → (k : List A) × (l ≡ a ∷ k) × (m ≡ lines k t)
behind_lines a (lines k s) e = (k, cc, cc)
behind_lines a (bad_line k) e = let z : ◌≡◌ {A = ℕ} 0 1 = cc in absurd (omega arith)

behind_bad : {A : Type 0} (a : A) (m : Lines A) {k : ℕ} → behind a m ≡ bad_line k → m ≡ bad_line k
behind_bad a (lines l s) e = let z : ◌≡◌ {A = ℕ} 0 1 = cc in absurd (omega arith)
behind_bad a (bad_line j) e = e

-- several lines of one kind
module _ {A : Type 0} (step : List ℕ → Got A) (line : A → List ℕ) (Fits : A → Type 0) (right : Exact step line Fits) where
  -- a step is bad exactly where no good line stands
  pub no_line : (s : List ℕ) → step s ≡ bad → NoLine line Fits s
  no_line s e a rest h q = never (sym e ∙ ap step q ∙ right.takes a rest h)

  pub no_step : (s : List ℕ) → NoLine line Fits s → step s ≡ bad
  no_step s h = by_got (step s) refl
    where
      by_got : (g : Got A) → step s ≡ g → g ≡ bad
      by_got (got a rest) e = let p = right.took s a rest e in absurd (h a rest p.0 p.1)
      by_got bad e = refl

  -- the lines that were read
  pub record Read (n : ℕ) (s : List ℕ) (l : List A) (t : List ℕ) : Type 0 where
    pub count : length l ≡ n
    pub fit : Each Fits l
    pub written : s ≡ all line l ++ t

  -- the good lines before the first bad one
  pub record Stopped (n number k : ℕ) (s : List ℕ) : Type 0 where
    pub good : List A
    pub rest : List ℕ
    pub missing : length good < n
    pub is : k ≡ number + length good
    pub fit : Each Fits good
    pub written : s ≡ all line good ++ rest
    pub none : NoLine line Fits rest

  -- the first line, and then the others
  first_read : (n : ℕ) (s u t : List ℕ) (a : A) (k l : List A) → Fits a × (s ≡ line a ++ u) → l ≡ a ∷ k → Read n u k t → Read (suc n) s l t
  unfolding all Each
  first_read n s u t a k l f e r = rw e (record {
    count = ap suc r.count;
    fit = (f.0, r.fit);
    written = f.1 ∙ ap (λ (x : List ℕ). line a ++ x) r.written ∙ sym (append_assoc (line a) (all line k) t);
  })

  first_stopped : (n number k : ℕ) (s u : List ℕ) (a : A) → Fits a × (s ≡ line a ++ u) → Stopped n (number + 1) k u → Stopped (suc n) number k s
  unfolding all Each
  first_stopped n number k s u a f r = record {
    good = a ∷ r.good;
    rest = r.rest;
    missing = omega (arith, r.missing);
    is = omega (arith, r.is);
    fit = (f.0, r.fit);
    written = f.1 ∙ ap (λ (x : List ℕ). line a ++ x) r.written ∙ sym (append_assoc (line a) (all line r.good) r.rest);
    none = r.none;
  }

  none_read : (s : List ℕ) (l : List A) (t : List ℕ) → lines [] s ≡ lines l t → Read 0 s l t
  unfolding all Each
  none_read s l t e =
      let p : [] ≡ l = cc in
      let q : s ≡ t = cc in
      rw (← p, ← q) (record { count = refl; fit = tt; written = refl })

  at_once : (n number k : ℕ) (s : List ℕ) → step s ≡ bad → k ≡ number → Stopped (suc n) number k s
  unfolding all Each
  at_once n number k s e q = record { good = []; rest = s; missing = omega arith; is = omega arith; fit = tt; written = refl; none = no_line s e }

  read_from : (g : Got A) (n number : ℕ) (s : List ℕ) (l : List A) (t : List ℕ) → step s ≡ g
      → ((u : List ℕ) (k : List A) → lines_of step n (number + 1) u ≡ lines k t → Read n u k t)
      → on g (λ a u. behind a (lines_of step n (number + 1) u)) (bad_line number) ≡ lines l t → Read (suc n) s l t
  read_from (got a u) n number s l t e more h =
      let p = behind_lines a (lines_of step n (number + 1) u) h in
      first_read n s u t a p.0 l (right.took s a u e) p.1 (more u p.0 p.2)
  read_from bad n number s l t e more h = let z : ◌≡◌ {A = ℕ} 0 1 = cc in absurd (omega arith)

  pub lines_took : (n number : ℕ) (s : List ℕ) (l : List A) (t : List ℕ) → lines_of step n number s ≡ lines l t → Read n s l t
  unfolding lines_of
  lines_took zero number s l t e = none_read s l t e
  lines_took (suc n) number s l t e = read_from (step s) n number s l t refl (λ u k q. lines_took n (number + 1) u k t q) e

  stopped_from : (g : Got A) (n number : ℕ) (s : List ℕ) (k : ℕ) → step s ≡ g
      → ((u : List ℕ) → lines_of step n (number + 1) u ≡ bad_line k → Stopped n (number + 1) k u)
      → on g (λ a u. behind a (lines_of step n (number + 1) u)) (bad_line number) ≡ bad_line k → Stopped (suc n) number k s
  stopped_from (got a u) n number s k e more h =
      first_stopped n number k s u a (right.took s a u e) (more u (behind_bad a (lines_of step n (number + 1) u) h))
  stopped_from bad n number s k e more h = at_once n number k s e (cc)

  pub lines_bad : (n number : ℕ) (s : List ℕ) (k : ℕ) → lines_of step n number s ≡ bad_line k → Stopped n number k s
  unfolding lines_of
  lines_bad zero number s k e = let z : ◌≡◌ {A = ℕ} 0 1 = cc in absurd (omega arith)
  lines_bad (suc n) number s k e = stopped_from (step s) n number s k refl (λ u q. lines_bad n (number + 1) u k q) e

  -- and the other way round
  pub lines_takes : (l : List A) (number : ℕ) (t : List ℕ) → Each Fits l → lines_of step (length l) number (all line l ++ t) ≡ lines l t
  unfolding lines_of all Each
  lines_takes [] number t h = refl
  lines_takes (a ∷ l) number t h = rw (append_assoc (line a) (all line l) t, right.takes a (all line l ++ t) h.0, lines_takes l (number + 1) t h.1)

  pub lines_refused : (l : List A) (n number : ℕ) (rest : List ℕ) → length l < n → Each Fits l → NoLine line Fits rest → lines_of step n number (all line l ++ rest) ≡ bad_line (number + length l)
  unfolding lines_of all Each
  lines_refused l zero number rest b h none = absurd (omega arith)
  lines_refused [] (suc n) number rest b h none = rw (no_step rest none, add-zero number)
  lines_refused (a ∷ l) (suc n) number rest b h none =
      let q : number + suc (length l) ≡ number + 1 + length l = omega arith in
      rw (append_assoc (line a) (all line l) rest, right.takes a (all line l ++ rest) h.0, lines_refused l n (number + 1) rest (omega arith) h.1 none, q)
