-- `tables::list_duplicates` meets its contract: where there is room for a table, and where there is not.
use mathlib.Core.Path.{ap, ◌∙◌}
use native.Mathlib.Omega.{arith}
use lib.ListN.{drop}
use Rattle.laws.proofs.Stretches.{filled_reads, filled_beyond}
use Rattle.tables.proofs.list_duplicates.Goals as goal

pub returns-then-capacity-vertices : goal.returns-then-capacity-vertices
returns-then-capacity-vertices c = c.list_duplicates.ensures

pub table_rows-requires : goal.table_rows-requires
table_rows-requires c = (c.requires.0, ((c.requires.1.0, omega (arith, c.if-capacity-vertices.false)), ((omega (arith, c.fill.auto.s, c.requires.1.1.0), c.requires.1.1.1), λ k b. rw c.fill.ensures (filled_reads 0 c.args.capacity c.args.work.now k b))))

pub returns : goal.returns
returns c = (c.table_rows.ensures.0, c.table_rows.ensures.1 ∙ ap (drop c.args.capacity) c.fill.ensures ∙ filled_beyond 0 c.args.capacity c.args.work.now)
