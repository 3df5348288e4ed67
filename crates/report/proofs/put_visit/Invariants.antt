-- `report::put_visit` meets its contract: the numbers so far were put.
use lib.ListN.{take}
use Rattle.texts.specs.Grows.{Grows}
use Rattle.report.specs.Report.{behind_commas}
use Rattle.report.proofs.put_visit.Given as goal

abbrev pub invariant-loop-n : goal.invariant-loop-n
invariant-loop-n l = Grows l.initial.text (behind_commas (take l.n-index l.others)) l.text
