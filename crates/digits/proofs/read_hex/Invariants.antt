-- `digits::read_hex` meets its contract: what is left of the digits makes the whole pattern, and there is room for them.
use mathlib.Core.Path.{◌≡◌}
use Prim.Native.Nat.{◌-◌, ◌^◌, ◌<◌}
use Rattle.digits.specs.Steps.{hex_from}
use Rattle.digits.proofs.read_hex.Given as goal

abbrev pub invariant-loop : goal.invariant-loop
invariant-loop l = (l.value < 16 ^ l.counter) × (hex_from (16 - l.counter) l.rest l.value ≡ hex_from 16 l.fn.rest 0)
