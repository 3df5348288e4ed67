-- `tables::table_rows` meets its contract, by the laws of the scan.
use native.Mathlib.Omega.{arith}
use Rattle.duplicates.proofs.Scans.{scanning_done}
use Rattle.tables.proofs.Tabling.{tabling_begins, tabling_on}
use Rattle.tables.proofs.table_rows.Goals as goal

pub loop-i-init : goal.loop-i-init
loop-i-init c = let s = c.args in tabling_begins s.halfedges s.vertices s.capacity s.rows.now c.requires.0.1.1 c.requires.1.0.0 c.requires.1.0.1 _ _ c.requires.1.1.1

pub table_row-count-requires : goal.table_row-count-requires
table_row-count-requires c = (omega (arith, c.halfedge_counted-h.ensures, c.loop-i-test.true), (c.requires.0, ((omega (arith, c.loop-i.auto.work, c.requires.1.0.0, c.requires.1.1.0.0), omega (arith, c.loop-i.auto.work, c.requires.1.0.1, c.requires.1.1.0.0)), omega (arith, c.loop-i.auto.list, c.requires.1.1.0.1))))

pub loop-i-preserved : goal.loop-i-preserved
loop-i-preserved c =
    let s = c.args in
    let p = c.requires in
    tabling_on s.halfedges s.vertices s.capacity s.rows.now p.0.1.1 p.1.0.0 p.1.0.1 _ _ c.loop-i.invariant c.loop-i-test.true p.0.0 p.1.1.0.0 _ _ (rw c.halfedge_counted-h.ensures at c.table_row-count.ensures)

pub returns : goal.returns
returns c =
    let s = c.args in
    (scanning_done s.halfedges s.vertices s.capacity s.rows.now _ c.loop-i.invariant.scanning c.loop-i-test.false c.requires.1.1.0.1, c.loop-i.invariant.kept.beyond)
