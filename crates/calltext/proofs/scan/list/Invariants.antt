-- `calltext::scan::list` meets its contract: whoever puts the numbers that are left has put all of them.
use Rattle.std.proofs.Common.{◌≡◌, ◌-◌, length}
use Rattle.calltext.specs.Scan.{fill}
use Rattle.calltext.proofs.scan.list.Given as goal

abbrev pub invariant-loop-element : goal.invariant-loop-element
invariant-loop-element g l =
    let of = g.T.Readable.read_as in
    (length l.element-items ≡ l.length) × (fill of l.file (l.length - l.element-index) l.element-index l.next l.element-items ≡ fill of l.file l.length 0 l.initial.next l.initial.element-items)
