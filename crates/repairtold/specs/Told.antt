-- What each exported function that repairs a net tells its caller of what was said: the number, and each value that came with it; 0 for a
-- value that did not come.
use Rattle.answers.specs.Answers.{Said, value}
use Rattle.told.specs.Told.{bits, count_on}
use Rattle.repairtold.specs.declared.DedupeEdgeAnswer.{DedupeEdgeAnswer}
use Rattle.repairtold.specs.declared.DedupeEdgesAnswer.{DedupeEdgesAnswer}
use Rattle.repairtold.specs.declared.CleanupTopologyAnswer.{CleanupTopologyAnswer}
use Rattle.repairtold.specs.declared.CollapseEdgeAnswer.{CollapseEdgeAnswer}

abbrev pub edge_told : Said → DedupeEdgeAnswer
edge_told s = record { number = s.number; row = count_on 3 s 0; halfedges = count_on 0 s 0; vertices = count_on 0 s 1 }

abbrev pub edges_told : Said → DedupeEdgesAnswer
edges_told s = record { number = s.number; row = count_on 3 s 0; halfedges = count_on 0 s 0; vertices = count_on 0 s 1 }

abbrev pub cleanup_told : Said → CleanupTopologyAnswer
cleanup_told s = record { number = s.number; row = count_on 3 s 0; halfedges = count_on 0 s 0; vertices = count_on 0 s 1 }

abbrev pub collapse_told : Said → CollapseEdgeAnswer
collapse_told s =
    record { number = s.number; row = count_on 3 s 0; vertices = count_on 0 s 0; squared_length = bits (value s.values 0); limit = bits (value s.values 1) }
