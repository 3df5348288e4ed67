-- `report::put_refused` meets its contract: line by line.
use Rattle.texts.proofs.Rooms.{room_first, room_on, grows_on}
use Rattle.report.proofs.put_refused.Goals as goal

pub put_line-requires : goal.put_line-requires
put_line-requires c = room_first _ _ c.requires

pub put_line-requires-2 : goal.put_line-requires-2
put_line-requires-2 c = room_on _ _ c.requires c.put_line.ensures

pub returns : goal.returns
returns c = grows_on c.put_line.ensures c.put_line-2.ensures
