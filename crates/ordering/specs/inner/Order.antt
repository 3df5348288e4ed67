-- The steps of splitting, made with one walk of each fan. The first pass writes only the work buffer: it numbers the half-edges in the
-- order of their visits. The second goes by that order, lists it, and splits where a later fan is complete.
--
-- An entry of the work buffer below H says two things. Its top bit says of half-edge k that its fan was walked. Below 2^30 stands the
-- half-edge that is visited at place k of the order; one bit more is set with the last of a fan that is to get a copy. Behind these
-- entries are the marks of the vertices.
use Rattle.std.specs.Prelude.{Bool, cond, List, [], ◌∷◌, ℕ, zero, suc, ◌+◌, ◌*◌, ◌/◌, ◌%◌, eqb, leb, ℤ, length, get_or, set}
use Rattle.std.proofs.Math.Decide.{ℕ_discrete}
use Rattle.numbers.specs.Numbers.{Named, at, nothing, names}
use Rattle.rows.specs.Halfedges.{start_of}
use Rattle.rows.specs.Triples.{triple, put_triple}
use Rattle.net.specs.Sound.{turn}
use Rattle.turning.specs.Walk.{walk}
use Rattle.splitting.specs.Steps.{relabel_walk}

-- ---- the work buffer
abbrev pub walked_bit : ℕ
walked_bit = 2147483648

abbrev pub entry_limit : ℕ
entry_limit = 1073741824

abbrev pub copy_bit : ℕ
copy_bit = 536870912

-- the walked bit of half-edge h set
abbrev pub see : ℕ → List ℕ → List ℕ
see h work = set work h (get_or work h 0 % entry_limit + walked_bit)

-- x put at place k of the order
abbrev pub place : ℕ → ℕ → List ℕ → List ℕ
place k x work = set work k (get_or work k 0 / entry_limit * entry_limit + x)

abbrev pub is_walked : List ℕ → ℕ → Bool
is_walked work h = leb walked_bit (get_or work h 0)

abbrev pub entry : List ℕ → ℕ → ℕ
entry work k = get_or work k 0 % entry_limit

-- ---- the first pass
-- the last of a fan, with the bit that says it is to get a copy; any other as it is
abbrev pub last_entry : Bool → ℕ → ℕ
last_entry first c = cond first c (c + copy_bit)

abbrev pub at_home : {P : Type 0} → Bool → ℕ → Dec P → ℕ
at_home first c (yes e) = last_entry first c
at_home first c (no q) = c

abbrev pub entry_of : Bool → ℕ → ℕ → ℕ
entry_of first home c = at_home first c (ℕ_discrete c home)

-- a walk put into the order, from place k on
unfoldable pub order_walk : Bool → ℕ → ℕ → List ℕ → List ℕ → List ℕ
order_walk first home k [] work = work
order_walk first home k (c ∷ cs) work = order_walk first home (suc k) cs (place k (entry_of first home c) (see c work))

-- the work buffer, copies counted, and half-edges put into the order
pub record Order : Type 0 where
  pub work : List ℕ
  pub added : ℕ
  pub steps : ℕ

abbrev pub order : List ℕ → ℕ → ℕ → Order
order w a k = record { work = w; added = a; steps = k }

abbrev pub is_first : ℕ → ℕ → List ℕ → Bool
is_first H v work = eqb (get_or work (H + v) 0) 0

abbrev pub order_fan : ℕ → ℕ → ℕ → List ℕ → Order → Order
order_fan H i v w o =
    order (order_walk (is_first H v o.work) i o.steps w (set o.work (H + v) 1)) (cond (is_first H v o.work) o.added (o.added + 1)) (o.steps + length w)

abbrev pub order_named : ℕ → ℕ → List ℕ → Order → Named → Order
order_named H i w o nothing = o
order_named H i w o (at v) = order_fan H i v w o

unfoldable pub order_row : ℕ → ℕ → List ℤ → ℕ → Order → Order
order_row H N rows i o = cond (is_walked o.work i) o (order_named H i (walk (turn rows) H i i) o (names (start_of rows i) N))

-- the half-edges below i, rising
unfoldable pub order_rows : ℕ → ℕ → List ℤ → ℕ → Order → Order
order_rows H N rows zero o = o
order_rows H N rows (suc i) o = order_row H N rows i (order_rows H N rows i o)

-- ---- the second pass
pub record Written : Type 0 where
  pub halfedges : List ℤ
  pub positions : List ℕ
  pub visit : List ℕ
  pub added : ℕ

abbrev pub written : List ℤ → List ℕ → List ℕ → ℕ → Written
written h p v a = record { halfedges = h; positions = p; visit = v; added = a }

-- the fan of c gets an appended copy of the position
abbrev pub copy_named : ℕ → ℕ → ℕ → Written → Named → Written
copy_named H N c s nothing = s
copy_named H N c s (at v) =
    written
    (relabel_walk (N + s.added) (walk (turn s.halfedges) H c c) s.halfedges)
    (put_triple (N + s.added) (triple s.positions v) s.positions)
    s.visit
    (s.added + 1)

unfoldable pub copy_at : ℕ → ℕ → ℕ → Written → Written
copy_at H N c s = copy_named H N c s (names (start_of s.halfedges c) N)

abbrev pub listed : ℕ → ℕ → Written → Written
listed k c s = written s.halfedges s.positions (set s.visit k c) s.added

unfoldable pub write_entry : ℕ → ℕ → ℕ → ℕ → Written → Written
write_entry H N k x s = cond (leb copy_bit x) (copy_at H N (x % copy_bit) (listed k (x % copy_bit) s)) (listed k (x % copy_bit) s)

-- the places below k, rising
unfoldable pub write_order : ℕ → ℕ → List ℕ → ℕ → Written → Written
write_order H N work zero s = s
write_order H N work (suc k) s = write_entry H N k (entry work k) (write_order H N work k s)

-- what the second pass lists, by itself: the places below k, rising
unfoldable pub list_order : List ℕ → ℕ → List ℕ → List ℕ
list_order work zero visit = visit
list_order work (suc k) visit = set (list_order work k visit) k (entry work k % copy_bit)
