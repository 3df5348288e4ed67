-- `duplicates::scan_row` meets its contract.
use Rattle.std.proofs.Common.{rules}
use mathlib.Core.Path.{sym, ◌∙◌}
use Rattle.searches.specs.Duplicates.{fan, is_duplicate}
use Rattle.duplicates.specs.Scan.{scan_row}
use Rattle.duplicates.proofs.scan_row.Goals as goal

pub returns-then-is_passed : goal.returns-then-is_passed
unfolding scan_row
returns-then-is_passed c = rw (sym c.is_passed.ensures ∙ c.if-is_passed.true)

pub returns : goal.returns
unfolding scan_row
returns c = rw (sym c.is_passed.ensures ∙ c.if-is_passed.false, c.push_fan.ensures (is_duplicate c.args.vertices c.args.rows.now (fan c.args.halfedges c.args.rows.now c.args.h.0)) (λ d r post. search rules), c.mark_fan.ensures)
