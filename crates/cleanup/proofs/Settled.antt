-- How splitting went, as the code has it, is how it went by what it says.
use mathlib.Core.Path.{◌≡◌, ap, ◌∙◌}
use mathlib.Core.List.{List}
use Prim.Native.Nat.{ℕ}
use lib.IntN.{ℤ}
use Rattle.answers.specs.Answers.{Said}
use Rattle.splitting.specs.Split.{SplitOutcome, split_outcome}
use Rattle.steps.specs.Run.{Run}
use Rattle.steps.specs.Steps.{middle}
use Rattle.growth.specs.declared.Limits.{Limits}
use Rattle.growth.specs.Growth.{growing}
use Rattle.cleanup.specs.Cleanup.{split_run, after_split}

pub split_so_far : (l : Limits) (H N : ℕ) (normals : List ℕ) (references : List ℤ) {said : Said} {rows : List ℤ} {positions work list : List ℕ} {o : SplitOutcome} {run : Run} →
    split_outcome said rows positions work list ≡ o → run ≡ split_run N l.vertices said → growing (middle rows positions run) H normals references ≡ after_split l H N normals references o
split_so_far l H N normals references {rows} {positions} e q =
    ap (λ (r : Run). growing (middle rows positions r) H normals references) q ∙ ap (after_split l H N normals references) e
