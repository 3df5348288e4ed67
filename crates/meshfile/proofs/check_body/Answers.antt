-- `meshfile::check_body` meets its contract: the positions, the rows, and the end.
use Rattle.std.proofs.Common.{rules}
use mathlib.Core.Path.{◌∙◌}
use Rattle.std.proofs.lemmas.List.{nil_from_length}
use Rattle.meshfile.specs.Steps.{body_of}
use Rattle.meshfile.proofs.Turns.{lines_passed, lines_stopped, told_bad, at_more}
use Rattle.meshfile.proofs.check_body.Goals as goal

pub returns-in_err-halfedges-clause-told : goal.returns-in_err-halfedges-clause-told
unfolding body_of
returns-in_err-halfedges-clause-told c = told_bad _ _ c.from_residual.ensures.1 ∙ rw (lines_stopped _ _ _ _ _ c.in_err-halfedges.ensures)

pub returns-in_err-end-clause-told : goal.returns-in_err-end-clause-told
unfolding body_of
returns-in_err-end-clause-told c =
    told_bad _ _ c.from_residual-in_err-end.ensures.1
    ∙ rw (lines_passed _ _ _ _ _ c.in_ok-halfedges.ensures, lines_stopped _ _ _ _ _ c.in_err-end.ensures)

pub returns-then-is_empty-clause-told : goal.returns-then-is_empty-clause-told
unfolding body_of
returns-then-is_empty-clause-told c =
    let none = nil_from_length c.in_ok-end.end.now (search rules) in
    rw (lines_passed _ _ _ _ _ c.in_ok-halfedges.ensures, lines_passed _ _ _ _ _ c.in_ok-end.ensures, none)

pub returns-else-is_empty-clause-told : goal.returns-else-is_empty-clause-told
unfolding body_of
returns-else-is_empty-clause-told c = rw (lines_passed _ _ _ _ _ c.in_ok-halfedges.ensures, lines_passed _ _ _ _ _ c.in_ok-end.ensures) (at_more _ _ _ c.if-is_empty.ensures)
