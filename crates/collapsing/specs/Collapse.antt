-- The work of collapse_edge, short arm, on a net in the middle of an operation. e is the edge, p its partner and v the vertex where e
-- ends, which is kept. It asks for no rows in order: an edge may be left alone, for a reason, and the steps may be refused.
use Rattle.std.specs.Prelude.{⊤, Bool, cond, List, ℕ, ℤ, length, Result, Ok, Err}
use Rattle.answers.specs.Answers.{Said}
use Rattle.refused.specs.declared.Refusal.{Refusal}
use Rattle.refused.specs.declared.Refusal.TheVariants as R
use Rattle.refused.specs.Refused.{refused as said}
use Rattle.numbers.specs.Numbers.{named_or}
use Rattle.numbers.specs.Next.{next}
use Rattle.steps.specs.Steps.{Middle, middle, begin, running, refused, NoRoom, Stopped, ended}
use Rattle.walks.specs.Walk.{onward, update}
use Rattle.triangles.specs.Triangles.{collapse}
use Rattle.folds.specs.Folds.{lose, fold}
use Rattle.rings.specs.Ring.{Listing, ringed, endless, ring}
use Rattle.spinning.specs.Spin.{Spun, spin}
use Rattle.judging.specs.declared.Tolerance.{Tolerance}
use Rattle.judging.specs.Judge.{Judgement, found_short, found_long, found_dead, found_open, found_missing, judge}

-- ---- after the loop: the last update, the edge's triangle taken out, and what has folded there
unfoldable pub close : ℕ → ℕ → ℕ → Spun → Middle
close H v e s = fold H s.start (collapse H e (update H v s.start (next (next e)) s.middle))

-- with the list: the start is lost, the partner's triangle taken out, then the loop about the start
unfoldable pub about : ℕ → ℕ → Bool → List ℤ → ℕ → ℕ → ℕ → ℕ → List ℕ → Middle → Middle
about H capacity props references v e p first l m =
    close H v e (spin (length l) (record { halfedges = H; capacity = capacity; props = props; references = references; edge = e; partner = p; list = l })
    H first (length l) first (collapse H p (lose e m)))

abbrev pub with_list : ℕ → ℕ → Bool → List ℤ → ℕ → ℕ → ℕ → ℕ → Middle → Listing → Middle
with_list H capacity props references v e p first m endless = ended Stopped m
with_list H capacity props references v e p first m (ringed l) = about H capacity props references v e p first l m

-- `first` is where the loop begins, and `c` where the listing does
unfoldable pub short_at : ℕ → ℕ → Bool → List ℤ → ℕ → ℕ → ℕ → Middle → Middle
short_at H capacity props references v e p m =
    named_or (ended Stopped m) (onward H m.halfedges p) (λ first.
    named_or (ended Stopped m) (onward H m.halfedges e) (λ c.
    with_list H capacity props references v e p first m (ring H (next (next p)) m.halfedges H c)))

-- ---- how a try comes out: the edge went; it was left alone, and why; or the steps were refused
pub data HowTried : Type 0 where
  went : HowTried
  left_dead : HowTried
  left_open : HowTried
  left_long : Said → HowTried
  refusal : HowTried

pub record Trial : Type 0 where
  pub how_tried : HowTried
  pub middle : Middle

abbrev pub trial : HowTried → Middle → Trial
trial o m = record { how_tried = o; middle = m }

-- the steps ran: it went, or they were refused
abbrev pub ran : Middle → Trial
ran m = cond (refused m) (trial refusal m) (trial went m)

-- what the code's try says, with the half-edge rows, positions and vertices in use that it leaves. Only a long edge is left with values
abbrev pub tried : Result ⊤ Refusal → List ℤ → List ℕ → ℕ → Trial
tried (Ok x) h p n = trial went (begin h p n)
tried (Err R.Dead) h p n = trial left_dead (begin h p n)
tried (Err R.OpenFan) h p n = trial left_open (begin h p n)
tried (Err R.NoRoom) h p n = trial refusal (middle h p (running n NoRoom))
tried (Err R.Stopped) h p n = trial refusal (middle h p (running n Stopped))
tried (Err r) h p n = trial (left_long (said r)) (begin h p n)

abbrev pub by_judgement : ℕ → ℕ → Bool → List ℤ → ℕ → Middle → Judgement → Trial
by_judgement H capacity props references e m (found_short p v) = ran (short_at H capacity props references v e p m)
by_judgement H capacity props references e m (found_long s) = trial (left_long s) m
by_judgement H capacity props references e m found_dead = trial left_dead m
by_judgement H capacity props references e m found_open = trial left_open m
by_judgement H capacity props references e m found_missing = trial refusal (ended Stopped m)

unfoldable pub collapse_at : ℕ → ℕ → Bool → List ℤ → Tolerance → ℕ → Middle → Trial
collapse_at H capacity props references t e m =
    cond (refused m) (trial refusal m)
    (by_judgement H capacity props references e m (judge H m.run.vertices m.halfedges m.positions t e))
