-- The entry split_pinched_verts for every input: what it says, and the half-edges, positions, work buffer and visit list afterwards.
use Rattle.std.specs.Prelude.{Bool, cond, ◌&&◌, List, [], ◌∷◌, ℕ, ◌+◌, ◌-◌, leb, ℤ, pos, length}
use Rattle.answers.specs.Answers.{Said, whole, done, shape, short_buffer, unsound, open_fan, no_room}
use Rattle.laws.specs.Stretches.{cleared}
use Rattle.numbers.specs.Numbers.{Named, at, nothing}
use Rattle.rows.specs.Triples.{zero_triples}
use Rattle.net.specs.declared.Counts.{Counts}
use Rattle.net.specs.Net.{Net}
use Rattle.net.specs.Counts.{is_shaped, is_long, vertex_capacity_over}
use Rattle.rowtests.specs.Order.{least_out}
use Rattle.splitting.specs.Steps.{Tallied, tallied, unclosed, count_rows, State, state, split_rows}

-- what is said, and what the lent arrays hold then
pub record SplitOutcome : Type 0 where
  pub said : Said
  pub halfedges : List ℤ
  pub positions : List ℕ
  pub work : List ℕ
  pub visit : List ℕ

abbrev pub split_outcome : Said → List ℤ → List ℕ → List ℕ → List ℕ → SplitOutcome
split_outcome s h p w v = record { said = s; halfedges = h; positions = p; work = w; visit = v }

-- added vertices and half-edges visited
abbrev pub done_with : ℕ → ℕ → Said
done_with added steps = done (whole (pos added) ∷ whole (pos steps) ∷ [])

module _ (H N : ℕ) (halfedges : List ℤ) (positions work visit : List ℕ) where
  abbrev pub all_split : State
  all_split = split_rows H N H (state halfedges positions (cleared (H + N) work) visit 0 0)

  abbrev pub written : SplitOutcome
  written =
      split_outcome (done_with all_split.added all_split.steps) all_split.halfedges all_split.positions (cleared (H + N) work) all_split.visit

  -- the steps had filled the free vertex rows
  abbrev pub none_free : SplitOutcome
  none_free = split_outcome no_room halfedges (zero_triples N (vertex_capacity_over positions) positions) (cleared (H + N) work) visit

  -- the copies find room behind the vertices in use, or not
  abbrev pub by_room : ℕ → SplitOutcome
  by_room copies = cond (leb copies (vertex_capacity_over positions - N)) written none_free

  abbrev pub by_count : Tallied → SplitOutcome
  by_count unclosed = split_outcome open_fan halfedges positions (cleared (H + N) work) visit
  by_count (tallied w copies) = by_room copies

  -- a net with nothing that calls for 1, 2 or 3
  unfoldable pub split_sound : SplitOutcome
  split_sound = by_count (count_rows H N halfedges H (cleared (H + N) work))

  abbrev pub by_order : Named → SplitOutcome
  by_order nothing = split_sound
  by_order (at h) = split_outcome (unsound h) halfedges positions work visit

-- the work buffer has an entry for each half-edge and vertex, the visit list one for each half-edge
abbrev pub buffers_long : ℕ → ℕ → List ℕ → List ℕ → Bool
buffers_long H N work visit = is_long (length work) (H + N) && is_long (length visit) H

unfoldable pub split_pinched : Counts → Net → List ℕ → List ℕ → SplitOutcome
split_pinched c n work visit =
    cond (is_shaped c n)
    (cond (buffers_long c.halfedges c.vertices work visit)
    (by_order c.halfedges c.vertices n.halfedges n.positions work visit (least_out c.halfedges c.vertices n.halfedges))
    (split_outcome short_buffer n.halfedges n.positions work visit))
    (split_outcome shape n.halfedges n.positions work visit)
