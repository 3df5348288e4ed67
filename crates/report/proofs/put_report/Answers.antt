-- `report::put_report` meets its contract: by what is reported.
use native.Mathlib.Omega.{arith}
use Rattle.texts.proofs.Rooms.{grows_as}
use Rattle.texts.proofs.Numbers.{line_few}
use Rattle.report.specs.Report.{text_of, answer_word, row_word, line_word}
use Rattle.report.proofs.Texts.{done_few, done_is, refused_few}
use Rattle.report.proofs.put_report.Goals as goal

pub put_done-requires : goal.put_done-requires
put_done-requires c =
    let listed = rw c.in-Done.is at c.requires.listed in
    record {
      fits = omega (
        arith,
        c.requires.room,
        done_few c.args.mesh.now c.in-Done.added c.in-Done.steps c.args.visit.now listed.1 (omega arith) listed.0 (λ i. omega (arith, c.type_inv.visit i)),
      );
    }

pub put_line-requires : goal.put_line-requires
put_line-requires c = record { fits = omega (arith, c.requires.room, line_few answer_word c.in-Refused.answer (omega arith)) }

pub put_refused-requires : goal.put_refused-requires
put_refused-requires c = record { fits = omega (arith, c.requires.room, refused_few 3 row_word c.in-Unsound.row (omega arith) (omega arith)) }

pub put_refused-requires-in-BadFile : goal.put_refused-requires-in-BadFile
put_refused-requires-in-BadFile c = record { fits = omega (arith, c.requires.room, refused_few 11 line_word c.in-BadFile.number (omega arith) (omega arith)) }

pub returns-in-Done-clause-grows : goal.returns-in-Done-clause-grows
returns-in-Done-clause-grows c =
    let listed = rw c.in-Done.is at c.requires.listed in
    rw c.in-Done.is (grows_as c.put_done.ensures (done_is c.args.mesh.now _ _ _ listed.1))

pub returns-in-Done-clause-within : goal.returns-in-Done-clause-within
returns-in-Done-clause-within c =
    let listed = rw c.in-Done.is at c.requires.listed in
    omega (
      arith,
      c.put_done.ensures.appended.count,
      done_few c.args.mesh.now c.in-Done.added c.in-Done.steps c.args.visit.now listed.1 (omega arith) listed.0 (λ i. omega (arith, c.type_inv.visit i)),
    )

pub returns-in-Refused-clause-grows : goal.returns-in-Refused-clause-grows
unfolding text_of
returns-in-Refused-clause-grows c = rw c.in-Refused.is c.put_line.ensures

pub returns-in-Refused-clause-within : goal.returns-in-Refused-clause-within
returns-in-Refused-clause-within c = omega (arith, c.put_line.ensures.appended.count, line_few answer_word c.in-Refused.answer (omega arith))

pub returns-in-Unsound-clause-grows : goal.returns-in-Unsound-clause-grows
unfolding text_of
returns-in-Unsound-clause-grows c = rw c.in-Unsound.is c.put_refused.ensures

pub returns-in-Unsound-clause-within : goal.returns-in-Unsound-clause-within
returns-in-Unsound-clause-within c = omega (arith, c.put_refused.ensures.appended.count, refused_few 3 row_word c.in-Unsound.row (omega arith) (omega arith))

pub returns-in-BadFile-clause-grows : goal.returns-in-BadFile-clause-grows
unfolding text_of
returns-in-BadFile-clause-grows c = rw c.in-BadFile.is c.put_refused-in-BadFile.ensures

pub returns-in-BadFile-clause-within : goal.returns-in-BadFile-clause-within
returns-in-BadFile-clause-within c = omega (arith, c.put_refused-in-BadFile.ensures.appended.count, refused_few 11 line_word c.in-BadFile.number (omega arith) (omega arith))
