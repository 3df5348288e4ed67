-- `report::put_next` meets its contract: piece by piece.
use Rattle.digits.specs.Written.{decimal}
use Rattle.texts.proofs.Rooms.{room_first, room_on, grows_on}
use Rattle.report.proofs.put_next.Goals as goal

pub put_bytes-requires : goal.put_bytes-requires
put_bytes-requires c = room_first _ (decimal c.args.n) c.requires

pub put_number-requires : goal.put_number-requires
put_number-requires c = room_on _ _ c.requires c.put_bytes.ensures

pub returns : goal.returns
returns c = grows_on c.put_bytes.ensures c.put_number.ensures
