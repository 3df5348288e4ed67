-- The laws of rows of three numbers, positions and normals as bit patterns and face references alike: what a row that is put,
-- in use or free, a copy and a clearing leave in every row.
use mathlib.Core.Path.{◌≡◌, sym, ap, ◌∙◌}
use mathlib.Core.List.{List, [], ◌∷◌}
use Prim.Native.Nat.{ℕ, ◌+◌, ◌-◌, ◌*◌, ◌/◌, ◌<◌, ◌≤◌}
use native.Mathlib.Omega.{arith}
use native.Mathlib.Nat.{add-zero}
use borrow.Author.Tests.{ltb-true, ltb-false}
use lib.Dec.{ltb}
use lib.IntN.{ℤ, pos}
use lib.ListN.{length, get_or, take, drop, get_or-append}
use lib.Seq.{get_or-drop, get_or-take, length-take-le}
use Rattle.laws.specs.Stretches.{over, put_at}
use Rattle.laws.proofs.Tests.{by_test}
use Rattle.laws.proofs.Stretches.{put_before, put_in, put_behind, length_put_at, length_over, length_filled, drop_more, over_filled}
use Rattle.rows.specs.declared.triples.Bits3.{Bits3}
use Rattle.rows.specs.declared.triples.Reference.{Reference}
use Rattle.rows.specs.Triples.{lent_triples, triple, put_triple, reference, put_reference, triples_from, over_triples, zero_triples}

-- three numbers put at row v of any rows of three: read back there, and every number of another row as it was
module _ {A : Type 0} (v : ℕ) (a b c z : A) (l : List A) (room : v < lent_triples l) where
  put : List A
  put = put_at (3 * v) (a ∷ b ∷ c ∷ []) l

  first : get_or put (3 * v) z ≡ a
  unfolding put
  first = ap (λ (k : ℕ). get_or (put_at (3 * v) (a ∷ b ∷ c ∷ []) l) k z) (sym (add-zero (3 * v))) ∙ put_in (3 * v) (a ∷ b ∷ c ∷ []) l 0 z (omega arith) (omega arith)

  second : get_or put (3 * v + 1) z ≡ b
  unfolding put
  second = put_in (3 * v) (a ∷ b ∷ c ∷ []) l 1 z (omega arith) (omega arith)

  third : get_or put (3 * v + 2) z ≡ c
  unfolding put
  third = put_in (3 * v) (a ∷ b ∷ c ∷ []) l 2 z (omega arith) (omega arith)

  elsewhere : (i : ℕ) → (i / 3 ≡ v → ⊥) → get_or put i z ≡ get_or l i z
  unfolding put
  elsewhere i n = by_test (ltb i (3 * v)) (λ t. before (ltb-true i (3 * v) t)) (λ t. behind (ltb-false i (3 * v) t))
    where
      before : i < 3 * v → get_or (put_at (3 * v) (a ∷ b ∷ c ∷ []) l) i z ≡ get_or l i z
      before h = put_before (3 * v) (a ∷ b ∷ c ∷ []) l i z h (omega arith)

      behind : 3 * v ≤ i → get_or (put_at (3 * v) (a ∷ b ∷ c ∷ []) l) i z ≡ get_or l i z
      behind h =
          let k : 3 * v + 3 + (i - (3 * v + 3)) ≡ i = omega arith in
          ap (λ (j : ℕ). get_or (put_at (3 * v) (a ∷ b ∷ c ∷ []) l) j z) (sym k)
          ∙ sym (get_or-drop (3 * v + 3) (put_at (3 * v) (a ∷ b ∷ c ∷ []) l) (i - (3 * v + 3)) z)
          ∙ ap (λ (t : List A). get_or t (i - (3 * v + 3)) z) (put_behind (3 * v) (a ∷ b ∷ c ∷ []) l (omega arith))
          ∙ get_or-drop (3 * v + 3) l (i - (3 * v + 3)) z
          ∙ ap (λ (j : ℕ). get_or l j z) k

-- rows of three that agree from n on agree from m on
pub triples_more : (n m : ℕ) (s d : List ℕ) → n ≤ m → triples_from n s ≡ triples_from n d → triples_from m s ≡ triples_from m d
unfolding triples_from
triples_more n m s d h e = drop_more (3 * n) (3 * m) s d (omega arith) e

-- positions and normals
module _ (v : ℕ) (p : Bits3) (l : List ℕ) (room : v < lent_triples l) where
  pub triple_put : triple (put_triple v p l) v ≡ p
  unfolding triple put_triple put
  triple_put =
      let x = first v p.x p.y p.z 0 l room in
      let y = second v p.x p.y p.z 0 l room in
      let z = third v p.x p.y p.z 0 l room in
      λ i. record { x = x i; y = y i; z = z i }

  pub triple_other : (w : ℕ) → (w ≡ v → ⊥) → triple (put_triple v p l) w ≡ triple l w
  unfolding triple put_triple put
  triple_other w n =
      let x = elsewhere v p.x p.y p.z 0 l room (3 * w) (omega arith) in
      let y = elsewhere v p.x p.y p.z 0 l room (3 * w + 1) (omega arith) in
      let z = elsewhere v p.x p.y p.z 0 l room (3 * w + 2) (omega arith) in
      λ i. record { x = x i; y = y i; z = z i }

  pub triples_behind : triples_from (v + 1) (put_triple v p l) ≡ triples_from (v + 1) l
  unfolding put_triple triples_from
  triples_behind =
      let e : 3 * (v + 1) ≡ 3 * v + 3 = omega arith in
      rw e (put_behind (3 * v) (p.x ∷ p.y ∷ p.z ∷ []) l (omega arith))

  -- put below row n, it leaves the rows from n on
  pub put_below : (n : ℕ) → v < n → triples_from n (put_triple v p l) ≡ triples_from n l
  put_below n b = triples_more (v + 1) n (put_triple v p l) l (omega arith) triples_behind

  pub length_put : length (put_triple v p l) ≡ length l
  unfolding put_triple
  length_put = length_put_at (3 * v) (p.x ∷ p.y ∷ p.z ∷ []) l (omega arith)

-- references
module _ (v : ℕ) (r : Reference) (l : List ℤ) (room : v < lent_triples l) where
  pub reference_put : reference (put_reference v r l) v ≡ r
  unfolding reference put_reference put
  reference_put =
      let x = first v r.mesh r.coplanar r.face (pos 0) l room in
      let y = second v r.mesh r.coplanar r.face (pos 0) l room in
      let z = third v r.mesh r.coplanar r.face (pos 0) l room in
      λ i. record { mesh = x i; coplanar = y i; face = z i }

  pub reference_other : (w : ℕ) → (w ≡ v → ⊥) → reference (put_reference v r l) w ≡ reference l w
  unfolding reference put_reference put
  reference_other w n =
      let x = elsewhere v r.mesh r.coplanar r.face (pos 0) l room (3 * w) (omega arith) in
      let y = elsewhere v r.mesh r.coplanar r.face (pos 0) l room (3 * w + 1) (omega arith) in
      let z = elsewhere v r.mesh r.coplanar r.face (pos 0) l room (3 * w + 2) (omega arith) in
      λ i. record { mesh = x i; coplanar = y i; face = z i }

  pub length_put_reference : length (put_reference v r l) ≡ length l
  unfolding put_reference
  length_put_reference = length_put_at (3 * v) (r.mesh ∷ r.coplanar ∷ r.face ∷ []) l (omega arith)

-- n rows laid over another array, and back over rows that were filled behind them
pub triple_laid : (n : ℕ) (s d : List ℕ) (w : ℕ) → n ≤ lent_triples s → w < n → triple (over_triples n s d) w ≡ triple s w
unfolding triple over_triples
triple_laid n s d w h b = λ i. record { x = at (3 * w) (omega arith) i; y = at (3 * w + 1) (omega arith) i; z = at (3 * w + 2) (omega arith) i }
  where
    at : (k : ℕ) → k < 3 * n → get_or (over (3 * n) s d) k 0 ≡ get_or s k 0
    at k q =
        get_or-append (take (3 * n) s) (drop (3 * n) d) 0 k (omega (arith, length-take-le (3 * n) s (omega arith)))
        ∙ get_or-take (3 * n) s k 0 q

pub length_laid_triples : (n : ℕ) (s d : List ℕ) → n ≤ lent_triples s → n ≤ lent_triples d → length (over_triples n s d) ≡ length d
unfolding over_triples
length_laid_triples n s d hs hd = length_over (3 * n) s d (omega arith) (omega arith)

pub length_zeroed_triples : (a b : ℕ) (l : List ℕ) → a ≤ b → b ≤ lent_triples l → length (zero_triples a b l) ≡ length l
unfolding zero_triples
length_zeroed_triples a b l h k = length_filled 0 (3 * a) (3 * b) l (omega arith) (omega arith)

-- rows n up to m were filled, and n rows that were saved are laid back: rows n up to m read zero, the others are as they were
pub laid_back_zeroed : (n m : ℕ) (d e s : List ℕ) → n ≤ lent_triples d → n ≤ lent_triples e → triples_from m e ≡ triples_from m d → over_triples n (over_triples n d s) (zero_triples n m e) ≡ zero_triples n m d
unfolding over_triples zero_triples triples_from
laid_back_zeroed n m d e s hd he q = over_filled 0 (3 * n) (3 * m) d e s (omega arith) (omega arith) q
