-- The report on a well-formed file in words: 3 with the least row out of order; else, the net being sound, 0 or 6 as demand 3 has it over 256
-- vertex rows. So of such a file it never says 1, 2 or 9.
use Rattle.std.specs.Prelude.{◌≡◌, List, ◌++◌, ℕ, ◌+◌, ◌-◌, ◌<◌, ◌≤◌, take}
use Rattle.digits.specs.Written.{decimal, signed}
use Rattle.rows.specs.declared.halfedges.Row.{Row}
use Rattle.rows.specs.declared.triples.Bits3.{Bits3}
use Rattle.rows.specs.Halfedges.{append_row}
use Rattle.rows.specs.Triples.{put_triple}
use Rattle.net.specs.declared.Counts.{Counts}
use Rattle.net.specs.Net.{Net}
use Rattle.net.specs.Sound.{Sound, LeastOut}
use Rattle.splitting.specs.Split.{SplitOutcome}
use Rattle.splitsound.specs.Demand.{Demand3}
use Rattle.meshfile.specs.Told.{laid}
use Rattle.texts.specs.Appended.{line}
use Rattle.report.specs.Report.{answer_word, added_word, steps_word, visit_word, euler_word, row_word, commas, euler}
use Rattle.splitfile.specs.Printed.{no_halfedges, no_positions, counts, lent, no_work, no_visit}

-- the net that the file holds: its positions and rows in the first rows of what the program lends
abbrev pub held : List Bits3 → List Row → Net
held ps hs = lent (laid append_row 0 hs no_halfedges) (laid put_triple 0 ps no_positions)

-- some row is out of order: the least is told
pub record OutOfOrder (c : Counts) (n : Net) (report : List ℕ) : Type 0 where
  pub row : ℕ
  pub least : LeastOut c.halfedges c.vertices n.halfedges row
  pub text : report ≡ line answer_word (decimal 3) ++ line row_word (decimal row)

-- the net is sound, and `after` is what splitting it leaves
pub record Parted (c : Counts) (n : Net) (after : SplitOutcome) : Type 0 where
  pub sound : Sound c n
  pub demand : Demand3 c n no_work no_visit after

-- the copies find room in 256 vertex rows: five lines, the visits in their order
pub record SplitUp (vertices triangles : ℕ) (n : Net) (report : List ℕ) : Type 0 where
  pub after : SplitOutcome
  pub parted : Parted (counts vertices triangles) n after
  pub room : vertices + (parted.demand.fans - parted.demand.starts) ≤ 256
  pub text : report
      ≡ line answer_word (decimal 0)
      ++ (line added_word (decimal (parted.demand.fans - parted.demand.starts))
      ++ (line steps_word (decimal parted.demand.live_halfedges)
      ++ (line visit_word (commas (take parted.demand.live_halfedges after.visit))
      ++ line euler_word (signed (euler (vertices + (parted.demand.fans - parted.demand.starts)) triangles after.halfedges)))))

-- or they do not
pub record Full (vertices triangles : ℕ) (n : Net) (report : List ℕ) : Type 0 where
  pub after : SplitOutcome
  pub parted : Parted (counts vertices triangles) n after
  pub none : 256 < vertices + (parted.demand.fans - parted.demand.starts)
  pub text : report ≡ line answer_word (decimal 6)

-- one of the three
pub data Reported (vertices triangles : ℕ) (n : Net) (report : List ℕ) : Type 0 where
  out_of_order : OutOfOrder (counts vertices triangles) n report → Reported vertices triangles n report
  split_up : SplitUp vertices triangles n report → Reported vertices triangles n report
  full : Full vertices triangles n report → Reported vertices triangles n report
