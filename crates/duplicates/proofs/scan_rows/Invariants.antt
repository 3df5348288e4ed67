-- `duplicates::scan_rows` meets its contract, by the laws of the scan.
use Rattle.duplicates.specs.Scan.{entries}
use Rattle.duplicates.proofs.Scans.{Marking}
use Rattle.duplicates.proofs.scan_rows.Given as goal

abbrev pub invariant-loop-i : goal.invariant-loop-i
invariant-loop-i l = Marking l.halfedges l.vertices l.capacity l.rows l.initial.work l.initial.list l.i l.work (entries l.list l.count)
