-- `texts::put_decimal` meets its contract: the digits of io are the number as it is written.
use mathlib.Core.Path.{◌∙◌}
use Rattle.texts.proofs.Numbers.{fewest_digits}
use Rattle.texts.proofs.Puts.{put_as}
use Rattle.texts.proofs.put_decimal.Goals as goal

pub returns : goal.returns
returns c = put_as _ c.put.ensures (c.decimal-k.ensures.digits ∙ fewest_digits _ _ c.decimal-k.ensures.len)
