-- How an operation with a spare ends: as its steps left it, or with everything put back and the free rows that were filled zero.
use Rattle.std.specs.Prelude.{cond, List, ℕ, ℤ}
use Rattle.rows.specs.Halfedges.{over_rows}
use Rattle.rows.specs.Triples.{over_triples, zero_triples}
use Rattle.steps.specs.Steps.{Middle, middle, refused}

-- `halfedges` and `positions` are the arrays at entry, with N vertices in use
abbrev pub settled : ℕ → List ℤ → List ℕ → Middle → Middle
settled N halfedges positions m =
    cond (refused m) (middle halfedges (zero_triples N m.run.vertices positions) m.run) m

-- the same as the code does it: from the spare, which holds the H half-edge rows and N positions that were in use
abbrev pub settled_by : ℕ → ℕ → List ℤ → List ℕ → Middle → Middle
settled_by H N spare_halfedges spare_positions m =
    cond (refused m)
    (middle (over_rows H spare_halfedges m.halfedges) (over_triples N spare_positions (zero_triples N m.run.vertices m.positions)) m.run)
    m
