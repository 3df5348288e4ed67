-- `tables::table_rows` meets its contract, by the laws of the scan.
use Rattle.duplicates.specs.Scan.{entries}
use Rattle.tables.proofs.Tabling.{Tabling}
use Rattle.tables.proofs.table_rows.Given as goal

abbrev pub invariant-loop-i : goal.invariant-loop-i
invariant-loop-i l = Tabling l.halfedges l.vertices l.capacity l.rows l.initial.work l.initial.list l.i l.work (entries l.list l.count)
