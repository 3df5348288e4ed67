-- `texts::Text::put_bytes` meets its contract: the bytes stand behind those in use.
use mathlib.Core.Path.{refl}
use native.Mathlib.Omega.{arith}
use Rattle.texts.proofs.Appends.{appended_mid}
use Rattle.texts.proofs.Text.put_bytes.Goals as goal

pub returns : goal.returns
returns c = record { same_buffer = refl; appended = appended_mid _ _ _ _ _ c.copy_from_slice.ensures.after (omega arith) c.requires.fits }
