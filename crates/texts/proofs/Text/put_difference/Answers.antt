-- `texts::Text::put_difference` meets its contract: by the sign of the difference.
use mathlib.Core.Path.{sym}
use Rattle.texts.proofs.Rooms.{room_as, room_first, room_on, grows_as, grows_on}
use Rattle.texts.proofs.Numbers.{difference_more, difference_less}
use Rattle.texts.proofs.Text.put_difference.Goals as goal

pub put_number-requires : goal.put_number-requires
put_number-requires c = room_as c.requires (sym (difference_more _ _ c.if-less-more.true))

pub put_bytes-requires : goal.put_bytes-requires
put_bytes-requires c = room_first _ _ (room_as c.requires (sym (difference_less _ _ c.if-less-more.false)))

pub put_number-requires-else-less-more : goal.put_number-requires-else-less-more
put_number-requires-else-less-more c = room_on _ _ (room_as c.requires (sym (difference_less _ _ c.if-less-more.false))) c.put_bytes.ensures

pub returns-then-less-more : goal.returns-then-less-more
returns-then-less-more c = grows_as c.put_number.ensures (difference_more _ _ c.if-less-more.true)

pub returns-else-less-more : goal.returns-else-less-more
returns-else-less-more c = grows_as (grows_on c.put_bytes.ensures c.put_number-else-less-more.ensures) (difference_less _ _ c.if-less-more.false)
