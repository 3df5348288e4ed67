-- What splitting leaves alone: the half-edge rows behind those in use, the positions behind those in use then, the list behind the
-- visits, and how many are lent.
use Rattle.std.specs.Prelude.{List, ◌≡◌, ℕ, ◌+◌, ◌≤◌, length, drop}
use Rattle.rows.specs.Halfedges.{rows_from}
use Rattle.rows.specs.Triples.{triples_from}
use Rattle.net.specs.declared.Counts.{Counts}
use Rattle.net.specs.Net.{Net}
use Rattle.net.specs.Counts.{vertex_capacity}
use Rattle.splitting.specs.Split.{SplitOutcome}

pub record FreeKept (c : Counts) (n : Net) (visit : List ℕ) (o : SplitOutcome) (added steps : ℕ) : Type 0 where
  pub rows_free : rows_from c.halfedges o.halfedges ≡ rows_from c.halfedges n.halfedges
  pub rows_lent : length o.halfedges ≡ length n.halfedges
  pub positions_free : triples_from (c.vertices + added) o.positions ≡ triples_from (c.vertices + added) n.positions
  pub positions_lent : length o.positions ≡ length n.positions
  pub vertices_fit : c.vertices + added ≤ vertex_capacity n
  pub steps_in : steps ≤ c.halfedges
  pub visit_free : drop c.halfedges o.visit ≡ drop c.halfedges visit
  pub visit_lent : length o.visit ≡ length visit
