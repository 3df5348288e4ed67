-- A turn of the loop about the start, and its ways out: what is left of the loop is the whole of it.
use mathlib.Core.Path.{◌≡◌, refl, sym, ap, ◌∙◌}
use mathlib.Core.Bool.{true}
use mathlib.Core.List.{List}
use lib.IntN.{ℤ}
use lib.ListN.{length, get_or, take}
use Rattle.std.proofs.lemmas.List.{get_or-take, length-take, length-take-le, take-take}
use Rattle.numbers.specs.Numbers.{Named, at, nothing, names, named_or, halfedge_number}
use Rattle.rows.specs.Halfedges.{end_of, pair_of}
use Rattle.rings.specs.Ring.{find}
use Rattle.rings.proofs.Listed.{find_below, find_taken}
use Rattle.carrying.specs.Carried.{carried}
use Rattle.spinning.specs.declared.Ends.{Ends}
use Prim.Native.Nat.{ℕ, min, zero, suc, ◌+◌, ◌-◌, ◌*◌, ◌<◌, ◌≤◌}
use native.Mathlib.Nat.{mul-le-mul_right}
use native.Mathlib.Omega.{arith}
use Rattle.numbers.specs.Next.{next}
use Rattle.steps.specs.Steps.{Middle, refused, with_rows}
use Rattle.spinning.specs.Spin.{Turned, out, on, formed, net_after, formed_at, Fixed, fixed, Around, turn_at, turn_once, tired, Spun, spun, after, inner, spin}

module _ (s : Fixed) where
  pub spin_out : (r left start len c : ℕ) (m : Middle) {k : Middle} → 0 < left → out k ≡ turn_once s len c m → spun k start ≡ spin r s left start len c m
  unfolding spin inner
  spin_out r zero start len c m b e = absurd (omega arith)
  spin_out zero (suc left) start len c m b e = rw (← e)
  spin_out (suc r) (suc left) start len c m b e = rw (← e)

  pub spin_on : (r left start len c : ℕ) (m : Middle) {k : Middle} {q : ℕ} → 0 < left → on k q ≡ turn_once s len c m →
      spin r s (left - 1) start len q k ≡ spin r s left start len c m
  unfolding spin inner
  spin_on r zero start len c m b e = absurd (omega arith)
  spin_on zero (suc left) start len c m b e = let z : suc left - 1 ≡ left = omega arith in rw (← e, z)
  spin_on (suc r) (suc left) start len c m b e = let z : suc left - 1 ≡ left = omega arith in rw (← e, z)

  -- a loop was formed: the moves are counted anew, the list is cut to j, and the last update begins where the loop goes on
  pub spin_formed : (r left start len c : ℕ) (m : Middle) {k : Middle} {q j : ℕ} → 0 < left → 0 < r → formed k q j ≡ turn_once s len c m →
      spin (r - 1) s s.halfedges q j q k ≡ spin r s left start len c m
  unfolding spin inner
  spin_formed r zero start len c m b d e = absurd (omega arith)
  spin_formed zero (suc left) start len c m b d e = absurd (omega arith)
  spin_formed (suc r) (suc left) start len c m b d e = let z : suc r - 1 ≡ r = omega arith in rw (← e, z)

  pub spin_last : (r left start len c : ℕ) (m : Middle) → left ≤ 0 → spun (tired (next (next s.edge)) c m) start ≡ spin r s left start len c m
  unfolding spin inner
  spin_last zero zero start len c m b = refl
  spin_last (suc r) zero start len c m b = refl
  spin_last r (suc left) start len c m b = absurd (omega arith)

  -- where the steps have stopped, the loop leaves everything as it is
  inner_stopped : (anew : Middle → ℕ → ℕ → Spun) (left start len c : ℕ) (m : Middle) → refused m ≡ true → (inner anew s left start len c m).middle ≡ m
  unfolding inner tired turn_once
  inner_stopped anew zero start len c m t = rw t
  inner_stopped anew (suc left) start len c m t = rw t

  pub spin_stopped : (r left start len c : ℕ) (m : Middle) → refused m ≡ true → (spin r s left start len c m).middle ≡ m
  unfolding spin
  spin_stopped zero left start len c m t = inner_stopped _ left start len c m t
  spin_stopped (suc r) left start len c m t = inner_stopped _ left start len c m t

  after_stops : (start : ℕ) (t : Turned) (f : Middle → ℕ → Spun) (g : Middle → ℕ → ℕ → Spun) → refused (net_after t) ≡ true →
      ((k : Middle) (q : ℕ) → refused k ≡ true → (f k q).middle ≡ k) → ((k : Middle) (q j : ℕ) → refused k ≡ true → (g k q j).middle ≡ k) →
      net_after t ≡ (after start t f g).middle
  after_stops start (out k) f g t a b = refl
  after_stops start (on k q) f g t a b = sym (a k q t)
  after_stops start (formed k q j) f g t a b = sym (b k q j t)

  -- a turn that stops the steps ends the loop
  pub spin_stops : (r left start len c : ℕ) (m : Middle) {k : Middle} → 0 < left → refused k ≡ true → k ≡ net_after (turn_once s len c m) →
      k ≡ (spin r s left start len c m).middle
  unfolding spin inner
  spin_stops r zero start len c m b t e = absurd (omega arith)
  spin_stops zero (suc left) start len c m b t e =
      e ∙ after_stops start (turn_once s len c m) _ _ (rw e at t) (λ k q u. inner_stopped _ left start len q k u) (λ k q j u. refl)
  spin_stops (suc r) (suc left) start len c m b t e =
      e ∙ after_stops start (turn_once s len c m) _ _ (rw e at t) (λ k q u. inner_stopped _ left start len q k u) (λ k q j u. spin_stopped r s.halfedges q j q k u)

-- a turn with the first entries of a list reads no others
module _ (H capacity : ℕ) (list : List ℕ) (len h : ℕ) (m : Middle) where
  at_taken : turn_at H capacity (take len list) len h m ≡ turn_at H capacity list len h m
  unfolding turn_at
  at_taken = go (names (pair_of m.halfedges h) H)
    where
      z : ℤ
      z = end_of m.halfedges h

      met : (q : ℕ) (w : Named) → find m.halfedges z list 0 len ≡ w →
          named_or (on m q) w (λ k. formed_at H capacity (take len list) h q k m) ≡ named_or (on m q) w (λ k. formed_at H capacity list h q k m)
      met q nothing e = refl
      met q (at k) e = let b = find_below m.halfedges z list len 0 e in rw (get_or-take len list k 0 (omega (arith, b)))

      go : (w : Named) →
          named_or (out m) w (λ q. named_or (on m q) (find m.halfedges z (take len list) 0 len) (λ k. formed_at H capacity (take len list) h q k m))
          ≡ named_or (out m) w (λ q. named_or (on m q) (find m.halfedges z list 0 len) (λ k. formed_at H capacity list h q k m))
      go nothing = refl
      go (at q) = rw (find_taken m.halfedges z list len len 0 (omega arith)) (met q (find m.halfedges z list 0 len) refl)

once_taken : (ends : Ends) (references : List ℤ) (list : List ℕ) (len c : ℕ) (m : Middle) →
    turn_once (fixed ends references (take len list)) len c m ≡ turn_once (fixed ends references list) len c m
unfolding turn_once
once_taken ends references list len c m =
    rw (at_taken ends.halfedges ends.capacity list len (next c) (with_rows (carried ends.props references (halfedge_number ends.edge) (halfedge_number ends.partner) (next c) m.halfedges) m))

pub turn_taken : (ends : Ends) (references : List ℤ) (list part : List ℕ) (c : ℕ) (m : Middle) → part ≡ take (length part) list →
    turn_once (fixed ends references part) (length part) c m ≡ turn_once (fixed ends references list) (length part) c m
turn_taken ends references list part c m e =
    ap (λ (l : List ℕ). turn_once (fixed ends references l) (length part) c m) e ∙ once_taken ends references list (length part) c m

-- a list that is the first entries of one that goes with the edge goes with it too, and so does what it is cut to
pub around_part : {ends : Ends} {references : List ℤ} {list part : List ℕ} → Around ends references list → part ≡ take (length part) list → Around ends references part
around_part {ends} {references} {list} {part} a e = record {
  edge_in = a.edge_in;
  partner_in = a.partner_in;
  thirds = a.thirds;
  few = a.few;
  room = a.room;
  faces = a.faces;
  all_in = λ k i.
      let n : length part ≡ min (length part) (length list) = ap length e ∙ length-take (length part) list in
      let g : get_or part k 0 ≡ get_or list k 0 = ap (λ (l : List ℕ). get_or l k 0) e ∙ get_or-take (length part) list k 0 i in
      rw g (a.all_in k (omega (arith, n, i)));
}

pub part_cut : (k : ℕ) (list part : List ℕ) → part ≡ take (length part) list → k ≤ length part → take k part ≡ take (length (take k part)) list
part_cut k list part e b = rw (length-take-le k part b) (ap (take k) e ∙ take-take k (length part) list b)

-- the measure: entries that are left of the list, then moves
pub fewer : (k len H left : ℕ) → k < len → k * (H + 1) + H < len * (H + 1) + left
fewer k len H left b =
    let m : (k + 1) * (H + 1) ≤ len * (H + 1) = mul-le-mul_right (H + 1) (omega arith) in
    omega (arith, m)
