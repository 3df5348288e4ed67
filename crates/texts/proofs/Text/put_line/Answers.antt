-- `texts::Text::put_line` meets its contract: piece by piece.
use Rattle.texts.proofs.Rooms.{room_first, room_on, grows_on}
use Rattle.texts.proofs.Text.put_line.Goals as goal

pub put_bytes-requires : goal.put_bytes-requires
put_bytes-requires c = room_first _ _ c.requires

pub put_number-requires : goal.put_number-requires
put_number-requires c = room_first _ _ (room_on _ _ c.requires c.put_bytes.ensures)

pub put_bytes-requires-2 : goal.put_bytes-requires-2
put_bytes-requires-2 c = room_on _ _ (room_on _ _ c.requires c.put_bytes.ensures) c.put_number.ensures

pub returns : goal.returns
returns c = grows_on c.put_bytes.ensures (grows_on c.put_number.ensures c.put_bytes-2.ensures)
