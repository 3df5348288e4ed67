-- split_pinched_verts past the checks, as functions on lists. The steps run twice: once with no row written, to find whether every fan
-- closes and how many copies there will be, then with rows, positions and visit list written.
--
-- H and N are the half-edges and vertices in use. The work buffer has a flag for each half-edge, set when its fan is walked, and behind
-- those a mark for each vertex, set when a fan starts there.
use Rattle.std.specs.Prelude.{List, [], ◌∷◌, ℕ, zero, suc, ◌+◌, ℤ, pos, length, get_or, set}
use Rattle.std.proofs.Math.Decide.{ℕ_discrete}
use Rattle.std.proofs.lemmas.List.Edits.{sets}
use Rattle.numbers.specs.Numbers.{Named, at, nothing, names}
use Rattle.rows.specs.Halfedges.{start, end, set_column, start_of}
use Rattle.rows.specs.Triples.{triple, put_triple}
use Rattle.net.specs.Sound.{partner, turn}
use Rattle.turning.specs.Walk.{walk, walk_end}

-- the flag of each half-edge of a walk set
unfoldable pub flag_walk : List ℕ → List ℕ → List ℕ
flag_walk [] work = work
flag_walk (c ∷ cs) work = flag_walk cs (set work c 1)

-- the mark of v set, then the flags of a walk
abbrev pub noted : ℕ → ℕ → List ℕ → List ℕ → List ℕ
noted H v w work = flag_walk w (set work (H + v) 1)

-- x set on the start of c and the end of its partner; on those of every half-edge of a walk
abbrev pub relabel : ℕ → ℕ → List ℤ → List ℤ
relabel x c rows = set_column end (partner rows c) (pos x) (set_column start c (pos x) rows)

unfoldable pub relabel_walk : ℕ → List ℕ → List ℤ → List ℤ
relabel_walk x [] rows = rows
relabel_walk x (c ∷ cs) rows = relabel_walk x cs (relabel x c rows)

-- ---- with no row written
pub data Tallied : Type 0 where
  tallied : List ℕ → ℕ → Tallied
  unclosed : Tallied

-- one more copy, but for the first fan at its vertex
abbrev pub one_more : {P : Type 0} → Dec P → ℕ → ℕ
one_more (yes unmarked) added = added
one_more (no marked) added = added + 1

abbrev pub if_closed : {P : Type 0} → Dec P → Tallied → Tallied
if_closed (yes closed) t = t
if_closed (no n) t = unclosed

abbrev pub count_fan : ℕ → List ℤ → ℕ → ℕ → List ℕ → ℕ → Tallied
count_fan H rows i v work added =
    if_closed (ℕ_discrete (walk_end (turn rows) H i i) i)
    (tallied (noted H v (walk (turn rows) H i i) work) (one_more (ℕ_discrete (get_or work (H + v) 0) 0) added))

abbrev pub count_row : {P : Type 0} → ℕ → List ℤ → ℕ → List ℕ → ℕ → Dec P → Named → Tallied
count_row H rows i work added (no flagged) v = tallied work added
count_row H rows i work added (yes e) nothing = tallied work added
count_row H rows i work added (yes e) (at v) = count_fan H rows i v work added

unfoldable pub count_step : ℕ → ℕ → List ℤ → ℕ → List ℕ → ℕ → Tallied
count_step H N rows i work added = count_row H rows i work added (ℕ_discrete (get_or work i 0) 0) (names (start_of rows i) N)

abbrev pub and_then : Tallied → (List ℕ → ℕ → Tallied) → Tallied
and_then (tallied work added) f = f work added
and_then unclosed f = unclosed

-- the half-edges below i, rising
unfoldable pub count_rows : ℕ → ℕ → List ℤ → ℕ → List ℕ → Tallied
count_rows H N rows zero work = tallied work 0
count_rows H N rows (suc i) work = and_then (count_rows H N rows i work) (count_step H N rows i)

-- ---- with all written
pub record State : Type 0 where
  pub halfedges : List ℤ
  pub positions : List ℕ
  pub work : List ℕ
  pub visit : List ℕ
  pub added : ℕ
  pub steps : ℕ

abbrev pub state : List ℤ → List ℕ → List ℕ → List ℕ → ℕ → ℕ → State
state h p w v a k = record { halfedges = h; positions = p; work = w; visit = v; added = a; steps = k }

-- the first fan at v keeps it
abbrev pub first_fan : ℕ → ℕ → List ℕ → State → State
first_fan H v w s =
    state s.halfedges s.positions (noted H v w s.work) (sets s.visit s.steps w) s.added (s.steps + length w)

-- a later one gets an appended copy of the position
abbrev pub later_fan : ℕ → ℕ → ℕ → List ℕ → State → State
later_fan H N v w s =
    state
    (relabel_walk (N + s.added) w s.halfedges)
    (put_triple (N + s.added) (triple s.positions v) s.positions)
    (noted H v w s.work)
    (sets s.visit s.steps w)
    (s.added + 1)
    (s.steps + length w)

abbrev pub split_fan : {P : Type 0} → ℕ → ℕ → ℕ → List ℕ → State → Dec P → State
split_fan H N v w s (yes unmarked) = first_fan H v w s
split_fan H N v w s (no marked) = later_fan H N v w s

abbrev pub split_row : {P : Type 0} → ℕ → ℕ → List ℕ → State → Dec P → Named → State
split_row H N w s (no flagged) v = s
split_row H N w s (yes e) nothing = s
split_row H N w s (yes e) (at v) = split_fan H N v w s (ℕ_discrete (get_or s.work (H + v) 0) 0)

unfoldable pub split_step : ℕ → ℕ → ℕ → State → State
split_step H N i s =
    split_row H N (walk (turn s.halfedges) H i i) s (ℕ_discrete (get_or s.work i 0) 0) (names (start_of s.halfedges i) N)

-- the half-edges below i, rising
unfoldable pub split_rows : ℕ → ℕ → ℕ → State → State
split_rows H N zero s = s
split_rows H N (suc i) s = split_step H N i (split_rows H N i s)
