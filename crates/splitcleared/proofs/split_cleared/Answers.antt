-- `splitcleared::split_cleared` meets its contract: no room, or all written, the list alone where there are no copies. Every fan of a sound net closes.
use mathlib.Core.Path.{◌≡◌, ap, ◌∙◌}
use native.Mathlib.Omega.{arith}
use Rattle.rows.specs.Triples.{zero_triples}
use Rattle.net.proofs.Shape.{capacity_lent}
use Rattle.orderpass.proofs.Ways.{given}
use Rattle.splitcleared.proofs.Stages.{goes, full, needs_met, all_written, all_listed}
use Rattle.splitcleared.proofs.split_cleared.Goals as goal

pub zero-requires : goal.zero-requires
zero-requires c = (
  omega (arith, c.vertex_capacity-capacity.ensures, c.requires.vertices_fit),
  omega (arith, c.vertex_capacity-capacity.ensures, capacity_lent c.args.positions.now),
)

pub returns-then-counted-capacity : goal.returns-then-counted-capacity
returns-then-counted-capacity c =
    let a = c.args in
    let pre = c.requires in
    let ordered = given c.in_ok-counted.ensures.ok_part c.order_rows.ensures in
    record {
      outcome =
          full a.positions.now a.work.now a.visit.now pre.sound pre.work_long pre.clear _ _ _ ordered (omega (arith, c.vertex_capacity-capacity.ensures, c.if-counted-capacity.true)) _
          (c.zero.ensures ∙ ap (λ k. zero_triples a.vertices k a.positions.now) c.vertex_capacity-capacity.ensures);
      behind = (goes a.positions.now a.work.now a.visit.now pre.sound pre.work_long pre.clear _ _ _ ordered).beyond;
    }

pub list_order-requires : goal.list_order-requires
list_order-requires c =
    let a = c.args in
    let pre = c.requires in
    let ordered = given c.in_ok-counted.ensures.ok_part c.order_rows.ensures in
    let n = needs_met a.positions.now a.work.now a.visit.now pre.sound pre.work_long pre.clear _ _ _ ordered pre.visit_long pre.vertices_fit (omega (arith, c.vertex_capacity-capacity.ensures, c.if-counted-capacity.false)) in
    record { read = n.work_long; room = n.visit_long }

pub returns-then-nothing_copied : goal.returns-then-nothing_copied
returns-then-nothing_copied c =
    let a = c.args in
    let pre = c.requires in
    let ordered = given c.in_ok-counted.ensures.ok_part c.order_rows.ensures in
    let none : c.in_ok-counted.counted.added ≡ 0 = omega (arith, c.if-nothing_copied.true) in
    record {
      outcome =
          rw none
          (all_listed a.positions.now a.work.now a.visit.now pre.sound pre.work_long pre.clear _ _ _ ordered none (omega (arith, c.vertex_capacity-capacity.ensures, c.if-counted-capacity.false)) _ c.list_order.ensures);
      behind = (goes a.positions.now a.work.now a.visit.now pre.sound pre.work_long pre.clear _ _ _ ordered).beyond;
    }

pub write_order-added-requires : goal.write_order-added-requires
write_order-added-requires c =
    let a = c.args in
    let pre = c.requires in
    let ordered = given c.in_ok-counted.ensures.ok_part c.order_rows.ensures in
    needs_met a.positions.now a.work.now a.visit.now pre.sound pre.work_long pre.clear _ _ _ ordered pre.visit_long pre.vertices_fit (omega (arith, c.vertex_capacity-capacity.ensures, c.if-counted-capacity.false))

pub returns : goal.returns
returns c =
    let a = c.args in
    let pre = c.requires in
    let ordered = given c.in_ok-counted.ensures.ok_part c.order_rows.ensures in
    record {
      outcome =
          all_written a.positions.now a.work.now a.visit.now pre.sound pre.work_long pre.clear _ _ _ ordered (omega (arith, c.vertex_capacity-capacity.ensures, c.if-counted-capacity.false)) _ _ _ _ c.write_order-added.ensures;
      behind = (goes a.positions.now a.work.now a.visit.now pre.sound pre.work_long pre.clear _ _ _ ordered).beyond;
    }
