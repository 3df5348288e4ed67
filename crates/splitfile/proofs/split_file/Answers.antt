-- `splitfile::split_file` meets its contract: by what the reader answers.
use mathlib.Core.Path.{◌∙◌}
use native.Mathlib.Omega.{arith}
use Rattle.splitfile.proofs.Laws.{read_told, refused_listed, refused_text, put_front}
use Rattle.splitfile.proofs.split_file.Goals as goal

pub split_net-requires-clause-vertices : goal.split_net-requires-clause-vertices
split_net-requires-clause-vertices c = (read_told c.args.text.now c.in-Ok.is c.read.ensures).0.0

pub split_net-requires-clause-triangles : goal.split_net-requires-clause-triangles
split_net-requires-clause-triangles c = (read_told c.args.text.now c.in-Ok.is c.read.ensures).0.1

pub split_net-requires-clause-rows : goal.split_net-requires-clause-rows
split_net-requires-clause-rows c = let few = (read_told c.args.text.now c.in-Ok.is c.read.ensures).0 in omega (arith, few.1)

pub report-requires-clause-listed : goal.report-requires-clause-listed
report-requires-clause-listed c = rw c.refused.ensures (refused_listed _ _)

pub returns-in-Err : goal.returns-in-Err
returns-in-Err c = put_front (rw c.refused.ensures at c.report.ensures.appended) (refused_text _ _ _ ∙ (read_told c.args.text.now c.in-Err.is c.read.ensures).1)

pub returns-in-Ok : goal.returns-in-Ok
returns-in-Ok c = put_front c.split_net.ensures.appended (read_told c.args.text.now c.in-Ok.is c.read.ensures).1
