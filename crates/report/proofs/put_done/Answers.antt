-- `report::put_done` meets its contract: line by line.
use Rattle.report.specs.Report.{done_text}
use Rattle.texts.proofs.Rooms.{room_first, room_on, grows_on}
use Rattle.report.proofs.put_done.Goals as goal

pub put_line-requires : goal.put_line-requires
unfolding done_text
put_line-requires c = room_first _ _ c.requires

pub put_line-requires-2 : goal.put_line-requires-2
unfolding done_text
put_line-requires-2 c = room_first _ _ (room_on _ _ c.requires c.put_line.ensures)

pub put_line-requires-3 : goal.put_line-requires-3
unfolding done_text
put_line-requires-3 c = room_first _ _ (room_on _ _ (room_on _ _ c.requires c.put_line.ensures) c.put_line-2.ensures)

pub put_visit_line-requires : goal.put_visit_line-requires
unfolding done_text
put_visit_line-requires c = room_first _ _ (room_on _ _ (room_on _ _ (room_on _ _ c.requires c.put_line.ensures) c.put_line-2.ensures) c.put_line-3.ensures)

pub put_euler_line-requires : goal.put_euler_line-requires
unfolding done_text
put_euler_line-requires c = room_on _ _ (room_on _ _ (room_on _ _ (room_on _ _ c.requires c.put_line.ensures) c.put_line-2.ensures) c.put_line-3.ensures) c.put_visit_line.ensures

pub returns : goal.returns
unfolding done_text
returns c = grows_on c.put_line.ensures (grows_on c.put_line-2.ensures (grows_on c.put_line-3.ensures (grows_on c.put_visit_line.ensures c.put_euler_line.ensures)))
