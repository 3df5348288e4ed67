-- `calltext::show::Page::list` meets its contract: whoever puts what is left of the list has put all of it.
use Rattle.std.proofs.Common.{◌≡◌, drop}
use Rattle.texts.specs.Put.{puts}
use Rattle.calltext.specs.Shown.{spaced}
use Rattle.calltext.proofs.show.Page.list.Given as goal

abbrev pub invariant-loop-value : goal.invariant-loop-value
invariant-loop-value g l =
    let pieces = g.T.Showable.pieces in
    (l.self.out.ghost_name ≡ l.initial.self.out.ghost_name) × (puts (spaced pieces (drop l.value-index l.values)) (l.self.out.now, l.self.used) ≡ puts (spaced pieces l.values) (l.initial.self.out.now, l.initial.self.used))
