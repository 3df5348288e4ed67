-- `duplicates::scan_rows` meets its contract, by the laws of the scan.
use Rattle.duplicates.proofs.Scans.{marking_begins, marking_on, scanning_done}
use Rattle.duplicates.proofs.scan_rows.Goals as goal

pub loop-i-init : goal.loop-i-init
loop-i-init c = marking_begins _ _ _ _ _ _ c.requires.1.1.1

pub loop-i-preserved : goal.loop-i-preserved
loop-i-preserved c =
    let s = c.args in
    marking_on s.halfedges s.vertices s.capacity s.rows.now _ _ c.loop-i.invariant c.loop-i-test.true c.requires.0.0 c.requires.1.0 _ _ (rw c.halfedge_counted-h.ensures at c.scan_row-count.ensures)

pub returns : goal.returns
returns c =
    let s = c.args in
    (scanning_done s.halfedges s.vertices s.capacity s.rows.now _ c.loop-i.invariant.scanning c.loop-i-test.false c.requires.1.1.0, c.loop-i.invariant.beyond)
