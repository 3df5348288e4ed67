-- How an operation on a net that grows begins, and ends by its code: from the spare. And what its entry answers.
use Rattle.std.specs.Prelude.{Result, true, cond, List, [], ◌∷◌, ◌≡◌, ℕ, ◌/◌, ◌≤◌, ltb, ℤ, pos}
use Rattle.answers.specs.Answers.{Said, whole, done, no_room, stopped}
use Rattle.rows.specs.Halfedges.{lent_halfedges, zero_rows}
use Rattle.rows.specs.Triples.{lent_triples, zero_triples, zero_references}
use Rattle.net.specs.declared.Counts.{Counts}
use Rattle.net.specs.Net.{Net}
use Rattle.net.specs.Counts.{halfedge_capacity_over, vertex_capacity_over}
use Rattle.steps.specs.Run.{How}
use Rattle.steps.specs.Run as W
use Rattle.steps.specs.Steps.{begin, with_rows}
use Rattle.steps.specs.Settle as S
use Rattle.refused.specs.declared.Refusal.{Refusal}
use Rattle.refused.specs.Refused.{said}
use Rattle.growth.specs.declared.Extent.{Extent}
use Rattle.growth.specs.declared.Limits.{Limits}
use Rattle.growth.specs.Growth.{Growing, growing, Grown, rows_of, halted}

-- what there can be, over what is lent: the capacities, and whether some normals, and references, are in use
abbrev pub limits_over : Counts → List ℤ → List ℕ → List ℕ → List ℤ → Limits
limits_over c halfedges positions normals references = record {
  halfedges = halfedge_capacity_over c halfedges normals references;
  vertices = vertex_capacity_over positions;
  normals = ltb 0 c.normals;
  references = ltb 0 c.references;
}

abbrev pub limits_of : Counts → Net → Limits
limits_of c n = limits_over c n.halfedges n.positions n.normals n.references

-- the steps begin, with H half-edges and N vertices in use
abbrev pub begun : ℕ → ℕ → List ℤ → List ℕ → List ℕ → List ℤ → Growing
begun H N rows positions normals references = growing (begin rows positions N) H normals references

-- what an entry says of how its steps ended: on 0 the half-edges and vertices in use
abbrev pub grown_said : ℕ → ℕ → How → Said
grown_said halfedges vertices W.Going = done (whole (pos halfedges) ∷ whole (pos vertices) ∷ [])
grown_said halfedges vertices W.NoRoom = no_room
grown_said halfedges vertices W.Stopped = stopped

abbrev pub said_of_grown : Grown → Said
said_of_grown g = grown_said g.halfedges g.run.vertices g.run.how

-- what an entry answers: on 0 the half-edges and vertices in use
abbrev pub extent_said : Result Extent Refusal → Said
extent_said = said (λ x. whole (pos x.halfedges) ∷ whole (pos x.vertices) ∷ [])

-- the end from the spare, which holds the H half-edge rows and N positions that were in use
abbrev pub settled_by : Limits → ℕ → ℕ → List ℤ → List ℕ → Growing → Growing
settled_by l H N spare_halfedges spare_positions w =
    cond (halted w)
    (growing (S.settled_by H N spare_halfedges spare_positions (with_rows (zero_rows H w.used (rows_of w)) w.middle)) w.used
    (cond l.normals (zero_triples (H / 3) (w.used / 3) w.normals) w.normals)
    (cond l.references (zero_references (H / 3) (w.used / 3) w.references) w.references))
    w

-- what it needs: the rows in use at entry are within the spare, and those in use now, of which there are no fewer, are lent
pub record Settles (l : Limits) (H N : ℕ) (rows : List ℤ) (positions normals : List ℕ) (references spare_halfedges : List ℤ) (spare_positions : List ℕ) (x : Extent) : Type 0 where
  pub halfedges_spared : H ≤ lent_halfedges spare_halfedges
  pub positions_spared : N ≤ lent_triples spare_positions
  pub halfedges_grow : H ≤ x.halfedges
  pub halfedges_lent : x.halfedges ≤ lent_halfedges rows
  pub vertices_grow : N ≤ x.vertices
  pub vertices_lent : x.vertices ≤ lent_triples positions
  pub normals_lent : l.normals ≡ true → x.halfedges / 3 ≤ lent_triples normals
  pub references_lent : l.references ≡ true → x.halfedges / 3 ≤ lent_triples references
