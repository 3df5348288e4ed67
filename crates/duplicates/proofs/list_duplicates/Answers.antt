-- `duplicates::list_duplicates` meets its contract.
use mathlib.Core.Path.{ap, ◌∙◌}
use native.Mathlib.Omega.{arith}
use lib.ListN.{drop}
use Rattle.laws.proofs.Stretches.{filled_reads, filled_beyond, drop_more}
use Rattle.duplicates.proofs.list_duplicates.Goals as goal

pub scan_rows-requires : goal.scan_rows-requires
scan_rows-requires c = (c.requires.0, (omega (arith, c.fill.auto.s, c.requires.1.0, c.requires.1.1.0), (c.requires.1.1.1, λ k b. rw c.fill.ensures (filled_reads 0 c.args.halfedges c.args.work.now k b))))

pub returns : goal.returns
returns c =
    let s = c.args in
    (c.scan_rows.ensures.0, drop_more s.halfedges s.capacity _ s.work.now c.requires.1.0 (c.scan_rows.ensures.1 ∙ ap (drop s.halfedges) c.fill.ensures ∙ filled_beyond 0 s.halfedges s.work.now))
