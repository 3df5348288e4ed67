-- `writepass::write_entry` meets its contract: listed only, or the fan split too.
use mathlib.Core.Path.{sym, ap, ◌∙◌}
use Prim.Native.Nat.{◌+◌, ◌%◌}
use native.Mathlib.Omega.{arith}
use lib.ListN.{set}
use Rattle.numbers.specs.Numbers.{at, nothing}
use Rattle.numbers.proofs.Names.{names_below}
use Rattle.rows.specs.Halfedges.{start_of}
use Rattle.net.specs.Sound.{turn}
use Rattle.turning.specs.Walk.{walk}
use Rattle.splitting.specs.Steps.{relabel_walk}
use Rattle.ordering.specs.inner.Order.{copy_bit, written}
use Rattle.net.proofs.Shape.{capacity_lent, capacity_most}
use Rattle.ordering.proofs.Passes.{entry_listed, entry_named}
use Rattle.writepass.proofs.write_entry.Goals as goal

pub returns-then-x-lt-COPY : goal.returns-then-x-lt-COPY
returns-then-x-lt-COPY c =
    entry_listed c.args.halfedges c.args.vertices c.args.k c.args.x (written c.args.rows.now c.args.positions.now c.args.visit.now c.args.added) c.if-x-lt-COPY.true

pub returns-in_default : goal.returns-in_default
returns-in_default c =
    let named = sym (rw (c.in_default.is, c.halfedge_counted-i.ensures) at c.start_of.ensures) in
    entry_named c.args.halfedges c.args.vertices c.args.k c.args.x (written c.args.rows.now c.args.positions.now c.args.visit.now c.args.added) (omega (arith, c.if-x-lt-COPY.false)) nothing named

pub overflow_add-vertices : goal.overflow_add-vertices
overflow_add-vertices c =
    let named = sym (rw (c.in-Some.is, c.halfedge_counted-i.ensures) at c.start_of.ensures) in
    omega (arith, c.requires.room (omega (arith, c.if-x-lt-COPY.false)) _ named, capacity_most c.args.positions.now)

pub copy_fan-requires-clause-read : goal.copy_fan-requires-clause-read
copy_fan-requires-clause-read c =
    let named = sym (rw (c.in-Some.is, c.halfedge_counted-i.ensures) at c.start_of.ensures) in
    omega (arith, names_below (start_of c.args.rows.now (c.args.x % copy_bit)) c.args.vertices named, c.requires.vertices_fit, capacity_lent c.args.positions.now)

pub copy_fan-requires-clause-room : goal.copy_fan-requires-clause-room
copy_fan-requires-clause-room c =
    let named = sym (rw (c.in-Some.is, c.halfedge_counted-i.ensures) at c.start_of.ensures) in
    omega (arith, c.requires.room (omega (arith, c.if-x-lt-COPY.false)) _ named, capacity_lent c.args.positions.now)

pub copy_fan-requires-clause-small : goal.copy_fan-requires-clause-small
copy_fan-requires-clause-small c =
    let named = sym (rw (c.in-Some.is, c.halfedge_counted-i.ensures) at c.start_of.ensures) in
    omega (arith, c.requires.room (omega (arith, c.if-x-lt-COPY.false)) _ named, capacity_most c.args.positions.now)

pub overflow_add-result : goal.overflow_add-result
overflow_add-result c =
    let named = sym (rw (c.in-Some.is, c.halfedge_counted-i.ensures) at c.start_of.ensures) in
    omega (arith, c.requires.room (omega (arith, c.if-x-lt-COPY.false)) _ named, capacity_most c.args.positions.now)

pub returns : goal.returns
returns c =
    let a = c.args in
    let named = sym (rw (c.in-Some.is, c.halfedge_counted-i.ensures) at c.start_of.ensures) in
    let p = c.copy_fan.ensures.relabelled ∙ ap (λ k. relabel_walk (a.vertices + a.added) (walk (turn a.rows.now) a.halfedges k k) a.rows.now) c.halfedge_counted-i.ensures in
    (λ j. written (p j) (c.copy_fan.ensures.copied j) (set a.visit.now a.k (a.x % copy_bit)) (a.added + 1))
    ∙ entry_named a.halfedges a.vertices a.k a.x (written a.rows.now a.positions.now a.visit.now a.added) (omega (arith, c.if-x-lt-COPY.false)) (at _) named
