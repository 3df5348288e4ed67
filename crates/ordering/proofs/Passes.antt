-- The loops of the two passes, step by step.
use mathlib.Core.Path.{◌≡◌, refl, sym, ap, ◌∙◌, subst}
use mathlib.Core.Bool.{Bool, true, false, cond}
use mathlib.Core.List.{List, [], ◌∷◌}
use Prim.Native.Nat.{ℕ, zero, suc, ◌+◌, ◌-◌, ◌%◌, ◌≤◌, ◌<◌}
use native.Mathlib.Numerals.{add-one}
use native.Mathlib.Nat.{zero-add, suc-add, le_refl, le_trans}
use native.Mathlib.Omega.{arith}
use borrow.Author.Tests.{leb-true, leb-false, le-leb, lt-leb}
use lib.Dec.{leb}
use lib.IntN.{ℤ}
use lib.ListN.{length, get_or, set, length-set}
use Rattle.laws.proofs.Tests.{by_test}
use Rattle.numbers.specs.Numbers.{Named, at, nothing, names}
use Rattle.numbers.proofs.Names.{names_is}
use Rattle.rows.specs.Halfedges.{start_of, pair_of}
use Rattle.rows.specs.Triples.{triple}
use Rattle.rows.proofs.Threes.{length_put}
use Rattle.net.specs.Counts.{vertex_capacity_over}
use Rattle.net.specs.Sound.{turn}
use Rattle.net.proofs.Shape.{capacity_lent, capacity_same}
use Rattle.turning.specs.Walk.{walk}
use Rattle.turning.proofs.Walk.{walk_home}
use Rattle.splitting.specs.inner.Needs.{SoundRows}
use Rattle.splitting.specs.Steps.{relabel, relabel_walk, State, state, split_rows}
use Rattle.splitting.proofs.Inv.{flag_clear}
use Rattle.splitting.proofs.Net.{T, same, in_v, round_of, live_there, round_kept}
use Rattle.splitting.proofs.Rows.{length_relabel, relabel_pair}
use Rattle.splitting.proofs.Split.{live_here}
use Rattle.ordering.specs.inner.Order.{copy_bit, is_walked, entry, order, order_row, order_rows, Written, written, copy_named, copy_at, listed, write_entry, write_order, list_order}
use Rattle.ordering.specs.inner.Needs.{FanOrder, RowOrder, EntryNeeds, OrderNeeds}
use Rattle.ordering.proofs.Along.{Along, along, start_kept, unwalked, fits}

-- ---- the first pass, before half-edge i
pub record Ordered (H N : ℕ) (rows : List ℤ) (work₀ work : List ℕ) (i added steps : ℕ) : Type 0 where
  pub ran : order_rows H N rows i (order work₀ 0 0) ≡ order work added steps
  pub within : i ≤ H

module _ {H N : ℕ} {rows : List ℤ} {work₀ : List ℕ} (S : SoundRows H N rows) (long : H + N ≤ length work₀) (clear : (k : ℕ) → k < H + N → get_or work₀ k 0 ≡ 0) where
  pub ordered_begins : Ordered H N rows work₀ work₀ 0 0 0
  unfolding order_rows
  ordered_begins = record { ran = refl; within = omega arith }

  module _ {work : List ℕ} {i added steps : ℕ} (O : Ordered H N rows work₀ work i added steps) where
    abbrev ghost : State
    ghost = split_rows H N i (state rows [] work₀ [] 0 0)

    goes : Along H N rows [] work₀ [] i (order work added steps) ghost
    goes = subst (λ o. Along H N rows [] work₀ [] i o ghost) O.ran (along S long clear i O.within)

    pub ordered_length : length work ≡ length work₀
    ordered_length = goes.work_len

    module _ (b : i < H) where
      pub ordered_needs : RowOrder H N rows work i added steps
      ordered_needs = record {
        in_use = b;
        round = round_of S;
        numbers_few = omega (arith, S.few, S.vertices_few);
        added_few = omega (arith, goes.small, S.few);
        work_long = omega (arith, goes.work_len);
        fan = at_fan;
      }
        where
          at_fan : is_walked work i ≡ false → (v : ℕ) → names (start_of rows i) N ≡ at v → FanOrder H rows work i steps
          at_fan e v n =
              let f = unwalked S long i (order work added steps) ghost b goes e in
              let m : names (start_of ghost.halfedges i) N ≡ at v = ap (λ x. names x N) (start_kept S long i (order work added steps) ghost b goes f) ∙ n in
              let p = names_is (start_of ghost.halfedges i) N m in
              let l = live_here S long i ghost b goes.ok v p in
              let q = flag_clear (T S) (same S) (in_v S) goes.ok.inv i b f in
              record {
                round = round_of S;
                live = l;
                closes = walk_home (T S) i l;
                fits = fits S long i (order work added steps) ghost b goes v p m l q;
                work_long = omega (arith, goes.work_len);
              }

      pub ordered_on : (work' : List ℕ) (added' steps' : ℕ) → order work' added' steps' ≡ order_row H N rows i (order work added steps) → Ordered H N rows work₀ work' (i + 1) added' steps'
      unfolding order_rows
      ordered_on work' added' steps' e =
          subst (λ k. Ordered H N rows work₀ work' k added' steps') (sym (add-one i)) (record { ran = ap (order_row H N rows i) O.ran ∙ sym e; within = omega arith })

  pub ordered_done : {work : List ℕ} {i added steps : ℕ} → Ordered H N rows work₀ work i added steps → H ≤ i → order work added steps ≡ order_rows H N rows H (order work₀ 0 0)
  ordered_done {work} {i} {added} {steps} O b = let e : i ≡ H = omega (arith, O.within) in sym (ap (λ k. order_rows H N rows k (order work₀ 0 0)) (sym e) ∙ O.ran)

-- ---- what a place of the second pass leaves as it was
walk_pairs : (x : ℕ) (w : List ℕ) (rows : List ℤ) (h : ℕ) → pair_of (relabel_walk x w rows) h ≡ pair_of rows h
unfolding relabel_walk
walk_pairs x [] rows h = refl
walk_pairs x (c ∷ cs) rows h = walk_pairs x cs (relabel x c rows) h ∙ relabel_pair x c rows h

walk_length : (x : ℕ) (w : List ℕ) (rows : List ℤ) → length (relabel_walk x w rows) ≡ length rows
unfolding relabel_walk
walk_length x [] rows = refl
walk_length x (c ∷ cs) rows = walk_length x cs (relabel x c rows) ∙ length_relabel x c rows

pub record Held (s t : Written) : Type 0 where
  pub pairs : (h : ℕ) → pair_of t.halfedges h ≡ pair_of s.halfedges h
  pub rows_len : length t.halfedges ≡ length s.halfedges
  pub positions_len : length t.positions ≡ length s.positions
  pub visit_len : length t.visit ≡ length s.visit

module _ (H N : ℕ) where
  name_adds : (c : ℕ) (s : Written) (z : Named) → s.added ≤ (copy_named H N c s z).added
  name_adds c s nothing = le_refl s.added
  name_adds c s (at v) = omega arith

  copy_adds : (c : ℕ) (s : Written) → s.added ≤ (copy_at H N c s).added
  unfolding copy_at
  copy_adds c s = name_adds c s (names (start_of s.halfedges c) N)

  cond_adds : (t : Bool) (a b s : Written) → s.added ≤ a.added → s.added ≤ b.added → s.added ≤ (cond t a b).added
  cond_adds true a b s p q = p
  cond_adds false a b s p q = q

  entry_adds : (k x : ℕ) (s : Written) → s.added ≤ (write_entry H N k x s).added
  unfolding write_entry
  entry_adds k x s =
      cond_adds (leb copy_bit x) (copy_at H N (x % copy_bit) (listed k (x % copy_bit) s)) (listed k (x % copy_bit) s) s (copy_adds (x % copy_bit) (listed k (x % copy_bit) s)) (le_refl s.added)

  order_adds : (work : List ℕ) (s : Written) (k i : ℕ) → (write_order H N work i s).added ≤ (write_order H N work (k + i) s).added
  unfolding write_order
  order_adds work s zero i = subst (λ j. (write_order H N work i s).added ≤ (write_order H N work j s).added) (sym (zero-add i)) (le_refl (write_order H N work i s).added)
  order_adds work s (suc k) i =
      subst (λ j. (write_order H N work i s).added ≤ (write_order H N work j s).added) (sym (suc-add k i))
      (le_trans (order_adds work s k i) (entry_adds (k + i) (entry work (k + i)) (write_order H N work (k + i) s)))

  pub added_by : (work : List ℕ) (s : Written) (i n : ℕ) → i ≤ n → (write_order H N work i s).added ≤ (write_order H N work n s).added
  added_by work s i n b = subst (λ j. (write_order H N work i s).added ≤ (write_order H N work j s).added) (let e : (n - i) + i ≡ n = omega arith in e) (order_adds work s (n - i) i)

  -- the ways through one place
  pub entry_listed : (k x : ℕ) (s : Written) → x < copy_bit → listed k (x % copy_bit) s ≡ write_entry H N k x s
  unfolding write_entry
  entry_listed k x s l = sym (rw (lt-leb copy_bit x l))

  pub entry_named : (k x : ℕ) (s : Written) → copy_bit ≤ x → (z : Named) → names (start_of s.halfedges (x % copy_bit)) N ≡ z
      → copy_named H N (x % copy_bit) (listed k (x % copy_bit) s) z ≡ write_entry H N k x s
  unfolding write_entry copy_at
  entry_named k x s l z e = sym (rw (le-leb copy_bit x l, e))

  -- where nothing is added, the places are listed and that is all
  entry_alone : (k x : ℕ) (s : Written) → (write_entry H N k x s).added ≡ s.added → write_entry H N k x s ≡ listed k (x % copy_bit) s
  entry_alone k x s e =
      by_test (leb copy_bit x)
      (λ t. go (leb-true copy_bit x t) (names (start_of s.halfedges (x % copy_bit)) N) refl)
      (λ t. sym (entry_listed k x s (let u : x < copy_bit = leb-false copy_bit x t in u)))
    where
      go : copy_bit ≤ x → (z : Named) → names (start_of s.halfedges (x % copy_bit)) N ≡ z → write_entry H N k x s ≡ listed k (x % copy_bit) s
      go l nothing q = sym (entry_named k x s l nothing q)
      go l (at v) q =
          let one : (write_entry H N k x s).added ≡ s.added + 1 = ap (λ (t : Written). t.added) (sym (entry_named k x s l (at v) q)) in
          absurd (omega (arith, one, e))

  pub order_alone : (work : List ℕ) (k : ℕ) (s : Written) → (write_order H N work k s).added ≡ s.added
      → write_order H N work k s ≡ written s.halfedges s.positions (list_order work k s.visit) s.added
  unfolding write_order list_order
  order_alone work zero s e = refl
  order_alone work (suc k) s e =
      let q : (write_order H N work k s).added ≡ s.added =
      omega (arith, added_by work s 0 k (omega arith), entry_adds k (entry work k) (write_order H N work k s), e) in
      entry_alone k (entry work k) (write_order H N work k s) (e ∙ sym q) ∙ ap (listed k (entry work k % copy_bit)) (order_alone work k s q)

  module _ (k x : ℕ) (s : Written) (E : EntryNeeds H N s.halfedges s.positions s.visit k x s.added) where
    at_list : Held s (listed k (x % copy_bit) s)
    at_list = record { pairs = λ h. refl; rows_len = refl; positions_len = refl; visit_len = length-set s.visit k (x % copy_bit) }

    at_name : copy_bit ≤ x → (z : Named) → names (start_of s.halfedges (x % copy_bit)) N ≡ z → Held s (copy_named H N (x % copy_bit) (listed k (x % copy_bit) s) z)
    at_name l nothing e = at_list
    at_name l (at v) e = record {
      pairs = walk_pairs (N + s.added) (walk (turn s.halfedges) H (x % copy_bit) (x % copy_bit)) s.halfedges;
      rows_len = walk_length (N + s.added) (walk (turn s.halfedges) H (x % copy_bit) (x % copy_bit)) s.halfedges;
      positions_len = length_put (N + s.added) (triple s.positions v) s.positions (omega (arith, E.room l v e, capacity_lent s.positions));
      visit_len = length-set s.visit k (x % copy_bit);
    }

    held_entry : Held s (write_entry H N k x s)
    held_entry =
        by_test (leb copy_bit x)
        (λ t. let l = leb-true copy_bit x t in subst (Held s) (entry_named k x s l (names (start_of s.halfedges (x % copy_bit)) N) refl) (at_name l (names (start_of s.halfedges (x % copy_bit)) N) refl))
        (λ t. subst (Held s) (entry_listed k x s (let u : x < copy_bit = leb-false copy_bit x t in u)) at_list)

held_on : (r s t : Written) → Held r s → Held s t → Held r t
held_on r s t a b = record {
  pairs = λ h. b.pairs h ∙ a.pairs h;
  rows_len = b.rows_len ∙ a.rows_len;
  positions_len = b.positions_len ∙ a.positions_len;
  visit_len = b.visit_len ∙ a.visit_len;
}

-- one place more listed
pub list_on : (work : List ℕ) (k : ℕ) (visit : List ℕ) → list_order work (k + 1) visit ≡ set (list_order work k visit) k (entry work k % copy_bit)
unfolding list_order
list_on work k visit = rw (add-one k)

-- ---- the second pass, before place k
pub record Writing (H N : ℕ) (rows₀ : List ℤ) (positions₀ work visit₀ : List ℕ) (steps : ℕ) (rows : List ℤ) (positions visit : List ℕ) (k added : ℕ) : Type 0 where
  pub ran : write_order H N work k (written rows₀ positions₀ visit₀ 0) ≡ written rows positions visit added
  pub held : Held (written rows₀ positions₀ visit₀ 0) (written rows positions visit added)
  pub within : k ≤ steps

module _ {H N : ℕ} {rows₀ : List ℤ} {positions₀ work visit₀ : List ℕ} {steps : ℕ} (Q : OrderNeeds H N rows₀ positions₀ work visit₀ steps) where
  abbrev begin : Written
  begin = written rows₀ positions₀ visit₀ 0

  pub writing_begins : Writing H N rows₀ positions₀ work visit₀ steps rows₀ positions₀ visit₀ 0 0
  unfolding write_order
  writing_begins = record { ran = refl; held = record { pairs = λ h. refl; rows_len = refl; positions_len = refl; visit_len = refl }; within = omega arith }

  module _ {rows : List ℤ} {positions visit : List ℕ} {k added : ℕ} (W : Writing H N rows₀ positions₀ work visit₀ steps rows positions visit k added) where
    abbrev here : Written
    here = written rows positions visit added

    module _ (b : k < steps) where
      went_on : write_order H N work (suc k) begin ≡ write_entry H N k (entry work k) here
      unfolding write_order
      went_on = ap (write_entry H N k (entry work k)) W.ran

      cap : vertex_capacity_over positions ≡ vertex_capacity_over positions₀
      cap = capacity_same positions positions₀ W.held.positions_len

      -- one more copy is among all that are made
      more : copy_bit ≤ entry work k → (v : ℕ) → names (start_of rows (entry work k % copy_bit)) N ≡ at v → N + added < vertex_capacity_over positions
      more l v e =
          let one : (write_entry H N k (entry work k) here).added ≡ added + 1 = ap (λ (t : Written). t.added) (sym (entry_named H N k (entry work k) here l (at v) e)) in
          omega (arith, cap, Q.room, added_by H N work begin (suc k) steps b, ap (λ (t : Written). t.added) went_on)

      pub writing_needs : EntryNeeds H N rows positions visit k (entry work k) added
      writing_needs = record {
        round = round_kept rows₀ rows W.held.pairs W.held.rows_len Q.round;
        live = live_there rows₀ rows W.held.pairs (Q.lives k b);
        place = omega (arith, W.held.visit_len, Q.visit_long);
        vertices_fit = omega (arith, cap, Q.room);
        room = more;
      }

      pub writing_on : (rows' : List ℤ) (positions' visit' : List ℕ) (added' : ℕ) → written rows' positions' visit' added' ≡ write_entry H N k (entry work k) here
          → Writing H N rows₀ positions₀ work visit₀ steps rows' positions' visit' (k + 1) added'
      writing_on rows' positions' visit' added' e =
          subst (λ j. Writing H N rows₀ positions₀ work visit₀ steps rows' positions' visit' j added') (sym (add-one k)) (record {
            ran = went_on ∙ sym e;
            held = held_on begin here (written rows' positions' visit' added') W.held (subst (Held here) (sym e) (held_entry H N k (entry work k) here writing_needs));
            within = b;
          })

    pub writing_done : steps ≤ k → here ≡ write_order H N work steps begin
    writing_done b = let e : k ≡ steps = omega (arith, W.within) in sym (ap (λ j. write_order H N work j begin) (sym e) ∙ W.ran)
