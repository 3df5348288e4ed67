-- `judging::between` meets its contract: the short test of the two positions, with the number of the end.
use lib.IntN.{pos}
use mir.Syntax.{w32}
use mir.Facts.{to_z-of_z}
use Rattle.judging.specs.Judge.{between}
use Rattle.judging.proofs.between.Goals as goal

pub overflow_cast-end : goal.overflow_cast-end
overflow_cast-end c = record { sfits = rw c.number-end.ensures c.requires.1.1 }

pub returns : goal.returns
unfolding between
returns c = rw (c.place-from.ensures, c.place-to.ensures, c.number-end.ensures, to_z-of_z {w = w32} {z = pos c.args.v.0} (record { sfits = c.requires.1.1 }), to_z-of_z (record { sfits = c.struct_told-1.given.0.1 })) at c.short_test.ensures
