-- What the outcome of splitting a sound net says, in words: it is done, or there is no room.
use Rattle.std.specs.Prelude.{◌≡◌, List, ℕ, ◌+◌, length, take, drop}
use Rattle.answers.specs.Answers.{no_room}
use Rattle.laws.specs.Stretches.{cleared}
use Rattle.rows.specs.Triples.{zero_triples}
use Rattle.net.specs.declared.Counts.{Counts}
use Rattle.net.specs.Net.{Net, net}
use Rattle.net.specs.Counts.{with_vertices, vertex_capacity}
use Rattle.net.specs.Sound.{Live, Sound}
use Rattle.turning.specs.Fan.{Count}
use Rattle.splitting.specs.Split.{SplitOutcome, done_with}
use Rattle.splitting.specs.Promise.{IsSplit}

-- answer 0, with the added vertices and the steps
pub record SplitDone (c : Counts) (n : Net) (work visit : List ℕ) (o : SplitOutcome) (added steps : ℕ) : Type 0 where
  pub said : o.said ≡ done_with added steps
  -- the visits are the first so many entries of the list, and the rest is kept; they number the live half-edges
  pub split : IsSplit c.halfedges c.vertices n.halfedges n.positions o.halfedges o.positions (take steps o.visit) added
  pub steps_are : length (take steps o.visit) ≡ steps
  pub steps_live : Count (Live c.halfedges n.halfedges) c.halfedges steps
  pub rest : drop steps o.visit ≡ drop steps visit
  pub work_is : o.work ≡ cleared (c.halfedges + c.vertices) work
  -- the net is sound afterwards, over the vertices there are then
  pub sound : Sound (with_vertices c (c.vertices + added)) (net o.halfedges o.positions n.normals n.references n.properties)

-- answer 6: all as at entry, but that the free vertex rows and the work buffer read zero
pub record IsFull (c : Counts) (n : Net) (work visit : List ℕ) (o : SplitOutcome) : Type 0 where
  pub said : o.said ≡ no_room
  pub halfedges_are : o.halfedges ≡ n.halfedges
  pub positions_are : o.positions ≡ zero_triples c.vertices (vertex_capacity n) n.positions
  pub work_is : o.work ≡ cleared (c.halfedges + c.vertices) work
  pub visit_is : o.visit ≡ visit
