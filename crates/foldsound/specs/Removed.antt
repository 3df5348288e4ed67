-- What remove_if_folded leaves, in words. e is the edge and f its partner; e1, e2 and f1, f2 are the second and third rows of their
-- triangles. `rows` and `positions` are the arrays at entry, `after` and `later` those afterwards.
use Rattle.std.specs.Prelude.{List, ◌⊎◌, ◌≡◌, ℕ, ℤ, pos, length}
use Rattle.numbers.specs.Next.{next}
use Rattle.rows.specs.Halfedges.{start_of, end_of, pair_of, prop_of, none, rows_from}
use Rattle.rows.specs.Triples.{triple, triples_from}
use Rattle.net.specs.Sound.{start_vertex, partner, Empty}
use Rattle.triangles.specs.Triangles.{Outside}
use Rattle.folds.specs.Folds.{nan}

-- the two triangles have the same opposite vertex
abbrev pub SameOpposite : List ℤ → ℕ → ℕ → Type 0
SameOpposite rows e f = end_of rows (next e) ≡ end_of rows (next f)

-- and meet again: e1 is paired with f2 (the former), or e2 with f1 (the latter)
abbrev pub Former : List ℤ → ℕ → ℕ → Type 0
Former rows e f = partner rows (next e) ≡ next (next f)

abbrev pub Latter : List ℤ → ℕ → ℕ → Type 0
Latter rows e f = partner rows (next (next e)) ≡ next f

-- a row of neither triangle
pub record Outer (e f g : ℕ) : Type 0 where
  pub off_first : Outside e g
  pub off_other : Outside f g

-- an emptied row, its prop −1
pub record Gone (rows : List ℤ) (h : ℕ) : Type 0 where
  pub empty : Empty rows h
  pub prop_none : prop_of rows h ≡ none

-- the six rows are emptied; every other start, end and prop is as it was
pub record TakenOut (H e f : ℕ) (rows after : List ℤ) : Type 0 where
  pub e_gone : Gone after e
  pub e1_gone : Gone after (next e)
  pub e2_gone : Gone after (next (next e))
  pub f_gone : Gone after f
  pub f1_gone : Gone after (next f)
  pub f2_gone : Gone after (next (next f))
  pub starts : (g : ℕ) → Outer e f g → start_of after g ≡ start_of rows g
  pub ends : (g : ℕ) → Outer e f g → end_of after g ≡ end_of rows g
  pub props : (g : ℕ) → Outer e f g → prop_of after g ≡ prop_of rows g
  pub behind : rows_from H after ≡ rows_from H rows
  pub same_length : length after ≡ length rows

-- two other rows are paired, and every other pair but the six is as it was
pub record Rejoined (e f x y : ℕ) (rows after : List ℤ) : Type 0 where
  pub x_outer : Outer e f x
  pub y_outer : Outer e f y
  pub x_pair : pair_of after x ≡ pos y
  pub y_pair : pair_of after y ≡ pos x
  pub pairs : (g : ℕ) → Outer e f g → (g ≡ x → ⊥) → (g ≡ y → ⊥) → pair_of after g ≡ pair_of rows g

-- the positions of some vertices are NaN, and every other is as it was
pub record Lost (lost : ℕ → Type 0) (N : ℕ) (positions later : List ℕ) : Type 0 where
  pub nan_there : (v : ℕ) → lost v → triple later v ≡ nan
  pub others : (v : ℕ) → (lost v → ⊥) → triple later v ≡ triple positions v
  pub behind : triples_from N later ≡ triples_from N positions
  pub same_length : length later ≡ length positions

-- both: no other row is touched, and the first triangle's three starts are lost
pub record Both (H N e f : ℕ) (rows after : List ℤ) (positions later : List ℕ) : Type 0 where
  pub same_opposite : SameOpposite rows e f
  pub former : Former rows e f
  pub latter : Latter rows e f
  pub taken_out : TakenOut H e f rows after
  pub pairs : (g : ℕ) → Outer e f g → pair_of after g ≡ pair_of rows g
  pub lost : Lost (λ v. ((v ≡ start_vertex rows e) ⊎ (v ≡ start_vertex rows (next e))) ⊎ (v ≡ start_vertex rows (next (next e)))) N positions later

-- only the former: the partners of e2 and f1 are paired, and the start of e1 is lost
pub record OnlyFormer (H N e f : ℕ) (rows after : List ℤ) (positions later : List ℕ) : Type 0 where
  pub same_opposite : SameOpposite rows e f
  pub former : Former rows e f
  pub not_latter : Latter rows e f → ⊥
  pub taken_out : TakenOut H e f rows after
  pub rejoined : Rejoined e f (partner rows (next (next e))) (partner rows (next f)) rows after
  pub lost : Lost (λ v. v ≡ start_vertex rows (next e)) N positions later

-- only the latter: the partners of e1 and f2 are paired, and the start of f1 is lost
pub record OnlyLatter (H N e f : ℕ) (rows after : List ℤ) (positions later : List ℕ) : Type 0 where
  pub same_opposite : SameOpposite rows e f
  pub not_former : Former rows e f → ⊥
  pub latter : Latter rows e f
  pub taken_out : TakenOut H e f rows after
  pub rejoined : Rejoined e f (partner rows (next e)) (partner rows (next (next f))) rows after
  pub lost : Lost (λ v. v ≡ start_vertex rows (next f)) N positions later

-- not folded there: nothing is changed
pub record NotFolded (e f : ℕ) (rows after : List ℤ) (positions later : List ℕ) : Type 0 where
  pub not_folded : SameOpposite rows e f → (Former rows e f) ⊎ (Latter rows e f) → ⊥
  pub rows_kept : after ≡ rows
  pub positions_kept : later ≡ positions

-- one of the four
pub data Removed (H N e f : ℕ) (rows after : List ℤ) (positions later : List ℕ) : Type 0 where
  both : Both H N e f rows after positions later → Removed H N e f rows after positions later
  only_former : OnlyFormer H N e f rows after positions later → Removed H N e f rows after positions later
  only_latter : OnlyLatter H N e f rows after positions later → Removed H N e f rows after positions later
  not_folded : NotFolded e f rows after positions later → Removed H N e f rows after positions later
