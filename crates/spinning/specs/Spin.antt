-- The loop of a collapse about the start of its edge. e is the edge that goes and p its partner. A neighbour that is listed already forms a
-- loop and cuts the list to its place.
use Rattle.std.specs.Prelude.{⊤, Bool, true, cond, List, ◌≡◌, ℕ, zero, suc, ◌*◌, ◌%◌, ◌<◌, ◌≤◌, eqb, ℤ, get_or}
use Rattle.numbers.specs.Numbers.{names, named_or, halfedge_number}
use Rattle.numbers.specs.Next.{next, most_halfedges}
use Rattle.rows.specs.Halfedges.{end_of, pair_of}
use Rattle.rows.specs.Triples.{lent_triples}
use Rattle.net.specs.Counts.{most_vertices}
use Rattle.steps.specs.Steps.{Middle, refused, Stopped, ended, with_rows}
use Rattle.loops.specs.Loops.{loop_at}
use Rattle.rings.specs.Ring.{AllIn, find}
use Rattle.carrying.specs.Carried.{carried}
use Rattle.spinning.specs.declared.Ends.{Ends}
use Rattle.spinning.specs.declared.Turn.{Turn}
use Rattle.spinning.specs.declared.Turn.TheVariants as T

-- ---- one turn of the loop about the start: it is out; it goes on to a half-edge; or a loop was formed, and the list is cut to k
pub data Turned : Type 0 where
  out : Middle → Turned
  on : Middle → ℕ → Turned
  formed : Middle → ℕ → ℕ → Turned

-- what the code's turn says, of the net that it leaves
abbrev pub turned : Turn → Middle → Turned
turned T.Out m = out m
turned (T.On q) m = on m (halfedge_number q)
turned (T.Formed q k) m = formed m (halfedge_number q) k

-- the net that a turn leaves: all that is said of one that stops
abbrev pub net_after : Turned → Middle
net_after (out m) = m
net_after (on m q) = m
net_after (formed m q k) = m

-- what the next turn counts on
abbrev pub Ready : ℕ → ℕ → Turn → Type 0
Ready H len T.Out = ⊤
Ready H len (T.On q) = halfedge_number q < H
Ready H len (T.Formed q k) = (halfedge_number q < H) × (k < len)

-- what stays the same while it turns
pub record Fixed : Type 0 where
  pub halfedges : ℕ
  pub capacity : ℕ
  pub props : Bool
  pub references : List ℤ
  pub edge : ℕ
  pub partner : ℕ
  pub list : List ℕ

abbrev pub fixed : Ends → List ℤ → List ℕ → Fixed
fixed s references list =
    record { halfedges = s.halfedges; capacity = s.capacity; props = s.props; references = references; edge = halfedge_number s.edge; partner = halfedge_number s.partner; list = list }

-- the edge and its partner are in use, in whole triangles, with a reference each where props are carried, and so is all that is listed
pub record Around (s : Ends) (references : List ℤ) (list : List ℕ) : Type 0 where
  pub edge_in : halfedge_number s.edge < s.halfedges
  pub partner_in : halfedge_number s.partner < s.halfedges
  pub thirds : s.halfedges % 3 ≡ 0
  pub few : s.halfedges ≤ most_halfedges
  pub room : s.capacity ≤ most_vertices
  pub faces : s.props ≡ true → s.halfedges ≤ 3 * lent_triples references
  pub all_in : AllIn s.halfedges list

-- a loop is formed with the entry at place k, and the list is cut to that place: the entry goes too
abbrev pub formed_at : ℕ → ℕ → List ℕ → ℕ → ℕ → ℕ → Middle → Turned
formed_at H capacity list h q k m = formed (loop_at H capacity (get_or list k 0) h m) q k

unfoldable pub turn_at : ℕ → ℕ → List ℕ → ℕ → ℕ → Middle → Turned
turn_at H capacity list len h m =
    named_or (out m) (names (pair_of m.halfedges h) H) (λ q.
    named_or (on m q) (find m.halfedges (end_of m.halfedges h) list 0 len) (λ k.
    formed_at H capacity list h q k m))

unfoldable pub turn_once : Fixed → ℕ → ℕ → Middle → Turned
turn_once s len c m =
    cond (refused m) (out m)
    (cond (eqb c (next (next s.edge))) (out m)
    (turn_at s.halfedges s.capacity s.list len (next c) (with_rows (carried s.props s.references s.edge s.partner (next c) m.halfedges) m)))

-- ---- the loop, with `left` moves since the pairing last changed; what it leaves, and where the last update begins
pub record Spun : Type 0 where
  pub middle : Middle
  pub start : ℕ

abbrev pub spun : Middle → ℕ → Spun
spun m c = record { middle = m; start = c }

abbrev pub after : ℕ → Turned → (Middle → ℕ → Spun) → (Middle → ℕ → ℕ → Spun) → Spun
after start (out m) f g = spun m start
after start (on m q) f g = f m q
after start (formed m q k) f g = g m q k

unfoldable pub tired : ℕ → ℕ → Middle → Middle
tired to c m = cond (refused m) m (cond (eqb c to) m (ended Stopped m))

unfoldable pub inner : (Middle → ℕ → ℕ → Spun) → Fixed → ℕ → ℕ → ℕ → ℕ → Middle → Spun
inner anew s zero start len c m = spun (tired (next (next s.edge)) c m) start
inner anew s (suc n) start len c m = after start (turn_once s len c m) (λ k q. inner anew s n start len q k) anew

unfoldable pub spin : ℕ → Fixed → ℕ → ℕ → ℕ → ℕ → Middle → Spun
spin zero s left start len c m = inner (λ k q j. spun k q) s left start len c m
spin (suc r) s left start len c m = inner (λ k q j. spin r s s.halfedges q j q k) s left start len c m
