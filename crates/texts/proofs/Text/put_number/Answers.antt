-- `texts::Text::put_number` meets its contract: the digits of io are the number as it is written.
use mathlib.Core.Path.{sym, ◌∙◌}
use Rattle.texts.proofs.Rooms.{room_as, grows_as}
use Rattle.texts.proofs.Numbers.{fewest_digits}
use Rattle.texts.proofs.Text.put_number.Goals as goal

pub put_bytes-requires : goal.put_bytes-requires
put_bytes-requires c = room_as c.requires (sym (c.decimal-k.ensures.digits ∙ fewest_digits _ _ c.decimal-k.ensures.len))

pub returns : goal.returns
returns c = grows_as c.put_bytes.ensures (c.decimal-k.ensures.digits ∙ fewest_digits _ _ c.decimal-k.ensures.len)
