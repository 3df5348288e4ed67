-- The number inside each number type, and what a signed number names among a count of rows.
use Rattle.std.specs.Prelude.{Bool, true, false, cond, ℕ, ltb, ℤ, pos, negsuc, Option, Some, None}
use Rattle.numbers.specs.declared.Halfedge.{Halfedge}
use Rattle.numbers.specs.declared.Vertex.{Vertex}
use Rattle.numbers.specs.declared.PropRow.{PropRow}

abbrev pub halfedge_number : Halfedge → ℕ
halfedge_number h = h.0

abbrev pub vertex_number : Vertex → ℕ
vertex_number v = v.0

abbrev pub prop_row_number : PropRow → ℕ
prop_row_number p = p.0

-- one of the rows, or nothing
pub data Named : Type 0 where
  at : ℕ → Named
  nothing : Named

-- what z names among 0..limit
abbrev pub names : ℤ → ℕ → Named
names (pos n) limit = cond (ltb n limit) (at n) nothing
names (negsuc n) limit = nothing

-- it names one
abbrev pub is_named : Named → Bool
is_named (at n) = true
is_named nothing = false

-- go on with the row that is named, or refuse
abbrev pub named_or : {A : Type 0} → A → Named → (ℕ → A) → A
named_or refusal (at n) f = f n
named_or refusal nothing f = refusal

abbrev pub placed : Option ℕ → Named
placed (Some i) = at i
placed None = nothing

abbrev pub halfedge_named : Option Halfedge → Named
halfedge_named (Some h) = at (halfedge_number h)
halfedge_named None = nothing

abbrev pub vertex_named : Option Vertex → Named
vertex_named (Some v) = at (vertex_number v)
vertex_named None = nothing

abbrev pub prop_row_named : Option PropRow → Named
prop_row_named (Some p) = at (prop_row_number p)
prop_row_named None = nothing
