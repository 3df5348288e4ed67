-- The rows that inserting leaves: two triangles appended behind H rows, each paired with a half-edge and its partner, and with one another.
use mathlib.Core.Path.{◌≡◌, sym, ap, ◌∙◌}
use mathlib.Core.List.{List}
use Prim.Native.Nat.{ℕ, ◌+◌, ◌<◌, ◌≤◌}
use native.Mathlib.Omega.{arith}
use lib.IntN.{ℤ, pos}
use lib.ListN.{length}
use Rattle.rows.specs.Halfedges.{Column, start, end, pair, prop, offset, column, start_of, pair_of, prop_of, lent_halfedges, rows_from, append_triangle}
use Rattle.rows.proofs.Columns.{from_more}
use Rattle.pairing.specs.Pairing.{PairedUp, paired}
use Rattle.pairing.proofs.Told.{paired_up}
use Rattle.growth.proofs.Triangle.{length_triangle, triangle_before, triangle_first, triangle_second, triangle_third, triangle_behind}
use Rattle.dedupesound.specs.Deduped.{TwoTriangles}
use Rattle.dedupesound.specs.Inserts.{Inserts}

start_not_pair : start ≡ pair → ⊥
start_not_pair z = let k : offset start ≡ offset pair = ap offset z in omega arith

end_not_pair : end ≡ pair → ⊥
end_not_pair z = let k : offset end ≡ offset pair = ap offset z in omega arith

prop_not_pair : prop ≡ pair → ⊥
prop_not_pair z = let k : offset prop ≡ offset pair = ap offset z in omega arith

module _ (H v N here other c1 e1 : ℕ) (rows1 : List ℤ) (room : H + 6 ≤ lent_halfedges rows1) (bh : here < H) (bo : other < H) (bc : c1 < H) (be : e1 < H)
    (here_other : here ≡ other → ⊥) (here_e1 : here ≡ e1 → ⊥) (c1_here : c1 ≡ here → ⊥) (c1_other : c1 ≡ other → ⊥) (c1_e1 : c1 ≡ e1 → ⊥) (e1_other : e1 ≡ other → ⊥) where
  abbrev pub A1 : List ℤ
  A1 = append_triangle H v N here e1 rows1

  abbrev pub P1 : List ℤ
  P1 = paired (H + 2) c1 A1

  abbrev pub P2 : List ℤ
  P2 = paired (H + 1) here P1

  abbrev pub A2 : List ℤ
  A2 = append_triangle (H + 3) N v other e1 P2

  abbrev pub P3 : List ℤ
  P3 = paired (H + 3 + 2) e1 A2

  abbrev pub P4 : List ℤ
  P4 = paired (H + 3 + 1) other P3

  abbrev pub two_triangles : List ℤ
  two_triangles = paired (H + 3) H P4

  room_a1 : H + 3 ≤ lent_halfedges rows1
  room_a1 = omega arith

  len_a1 : length A1 ≡ length rows1
  len_a1 = length_triangle H v N here e1 rows1 room_a1

  u1 : PairedUp (H + 2) c1 A1 P1
  u1 = paired_up (H + 2) c1 A1 (rw len_a1 (omega arith)) (rw len_a1 (omega arith))

  len1 : length P1 ≡ length rows1
  len1 = u1.same_length ∙ len_a1

  u2 : PairedUp (H + 1) here P1 P2
  u2 = paired_up (H + 1) here P1 (rw len1 (omega arith)) (rw len1 (omega arith))

  len2 : length P2 ≡ length rows1
  len2 = u2.same_length ∙ len1

  room_a2 : H + 3 + 3 ≤ lent_halfedges P2
  room_a2 = rw len2 (omega arith)

  len_a2 : length A2 ≡ length rows1
  len_a2 = length_triangle (H + 3) N v other e1 P2 room_a2 ∙ len2

  u3 : PairedUp (H + 3 + 2) e1 A2 P3
  u3 = paired_up (H + 3 + 2) e1 A2 (rw len_a2 (omega arith)) (rw len_a2 (omega arith))

  len3 : length P3 ≡ length rows1
  len3 = u3.same_length ∙ len_a2

  u4 : PairedUp (H + 3 + 1) other P3 P4
  u4 = paired_up (H + 3 + 1) other P3 (rw len3 (omega arith)) (rw len3 (omega arith))

  len4 : length P4 ≡ length rows1
  len4 = u4.same_length ∙ len3

  u5 : PairedUp (H + 3) H P4 two_triangles
  u5 = paired_up (H + 3) H P4 (rw len4 (omega arith)) (rw len4 (omega arith))

  pub same_length : length two_triangles ≡ length rows1
  same_length = u5.same_length ∙ len4

  -- columns that no pairing writes
  module _ (c : Column) (n : c ≡ pair → ⊥) where
    late : (g : ℕ) → column c two_triangles g ≡ column c A2 g
    late g = u5.other_columns c n g ∙ u4.other_columns c n g ∙ u3.other_columns c n g

    early : (g : ℕ) → g < H + 3 → column c two_triangles g ≡ column c A1 g
    early g b = late g ∙ triangle_before (H + 3) N v other e1 P2 room_a2 c g b ∙ u2.other_columns c n g ∙ u1.other_columns c n g

    before : (g : ℕ) → g < H → column c P2 g ≡ column c rows1 g
    before g b = u2.other_columns c n g ∙ u1.other_columns c n g ∙ triangle_before H v N here e1 rows1 room_a1 c g b

    kept : (g : ℕ) → g < H → column c two_triangles g ≡ column c rows1 g
    kept g b = early g (omega arith) ∙ triangle_before H v N here e1 rows1 room_a1 c g b

  -- the pairs
  pair_late : (g : ℕ) → g < H → (g ≡ other → ⊥) → (g ≡ e1 → ⊥) → pair_of two_triangles g ≡ pair_of P2 g
  pair_late g b no' ne =
      u5.other_rows pair g (λ z. omega arith) (λ z. omega arith) ∙ u4.other_rows pair g (λ z. omega arith) no' ∙ u3.other_rows pair g (λ z. omega arith) ne
      ∙ triangle_before (H + 3) N v other e1 P2 room_a2 pair g (omega arith)

  pair_new : (g : ℕ) → H < g → g < H + 3 → pair_of two_triangles g ≡ pair_of P2 g
  pair_new g a b =
      u5.other_rows pair g (λ z. omega arith) (λ z. omega arith) ∙ u4.other_rows pair g (λ z. omega arith) (λ z. omega arith) ∙ u3.other_rows pair g (λ z. omega arith) (λ z. omega arith)
      ∙ triangle_before (H + 3) N v other e1 P2 room_a2 pair g b

  pub second_partner : pair_of A2 other ≡ pair_of rows1 other
  second_partner =
      triangle_before (H + 3) N v other e1 P2 room_a2 pair other (omega arith)
      ∙ u2.other_rows pair other (λ z. omega arith) (λ z. here_other (sym z)) ∙ u1.other_rows pair other (λ z. omega arith) (λ z. c1_other (sym z))
      ∙ triangle_before H v N here e1 rows1 room_a1 pair other bo

  pub triangles_behind : rows_from (H + 6) two_triangles ≡ rows_from (H + 6) rows1
  triangles_behind =
      u5.behind (H + 6) (omega arith) (omega arith) ∙ u4.behind (H + 6) (omega arith) (omega arith) ∙ u3.behind (H + 6) (omega arith) (omega arith)
      ∙ from_more (H + 3 + 3) (H + 6) A2 P2 (omega arith) (triangle_behind (H + 3) N v other e1 P2 room_a2)
      ∙ u2.behind (H + 6) (omega arith) (omega arith) ∙ u1.behind (H + 6) (omega arith) (omega arith)
      ∙ from_more (H + 3) (H + 6) A1 rows1 (omega arith) (triangle_behind H v N here e1 rows1 room_a1)

  module _ (rows : List ℤ) (t : ℤ) (is_t : t ≡ pos v) (here_start : start_of rows1 here ≡ start_of rows here) (other_start : start_of rows1 other ≡ start_of rows other)
      (pairs1 : (g : ℕ) → pair_of rows1 g ≡ pair_of rows g) (props1 : (g : ℕ) → prop_of rows1 g ≡ prop_of rows g)
      (behind1 : rows_from H rows1 ≡ rows_from H rows) (length1 : length rows1 ≡ length rows) where
    triangles : TwoTriangles H N t here other c1 e1 rows two_triangles
    triangles = record {
      pair_here = pair_late here bh here_other here_e1 ∙ u2.second_pair;
      pair_c1 = pair_late c1 bc c1_other c1_e1 ∙ u2.other_rows pair c1 (λ z. omega arith) c1_here ∙ u1.second_pair;
      pair_other = u5.other_rows pair other (λ z. omega arith) (λ z. omega arith) ∙ u4.second_pair ∙ ap pos (omega arith);
      pair_e1 = u5.other_rows pair e1 (λ z. omega arith) (λ z. omega arith) ∙ u4.other_rows pair e1 (λ z. omega arith) e1_other ∙ u3.second_pair ∙ ap pos (omega arith);
      pairs = λ g b nh nc no' ne.
          pair_late g b no' ne ∙ u2.other_rows pair g (λ z. omega arith) nh ∙ u1.other_rows pair g (λ z. omega arith) nc ∙ triangle_before H v N here e1 rows1 room_a1 pair g b ∙ pairs1 g;
      props = λ g b. kept prop prop_not_pair g b ∙ props1 g;
      behind = triangles_behind ∙ from_more H (H + 6) rows1 rows (omega arith) behind1;
      same_length = same_length ∙ length1;
      row_0 = record {
        start_is = early start start_not_pair H (omega arith) ∙ triangle_first H v N here e1 rows1 room_a1 start ∙ sym is_t;
        end_is = early end end_not_pair H (omega arith) ∙ triangle_first H v N here e1 rows1 room_a1 end;
        pair_is = u5.second_pair;
        prop_is = early prop prop_not_pair H (omega arith) ∙ triangle_first H v N here e1 rows1 room_a1 prop ∙ props1 e1;
      };
      row_1 = record {
        start_is = early start start_not_pair (H + 1) (omega arith) ∙ triangle_second H v N here e1 rows1 room_a1 start;
        end_is = early end end_not_pair (H + 1) (omega arith) ∙ triangle_second H v N here e1 rows1 room_a1 end ∙ here_start;
        pair_is = pair_new (H + 1) (omega arith) (omega arith) ∙ u2.first_pair;
        prop_is = early prop prop_not_pair (H + 1) (omega arith) ∙ triangle_second H v N here e1 rows1 room_a1 prop ∙ props1 e1;
      };
      row_2 = record {
        start_is = early start start_not_pair (H + 2) (omega arith) ∙ triangle_third H v N here e1 rows1 room_a1 start ∙ here_start;
        end_is = early end end_not_pair (H + 2) (omega arith) ∙ triangle_third H v N here e1 rows1 room_a1 end ∙ sym is_t;
        pair_is = pair_new (H + 2) (omega arith) (omega arith) ∙ u2.other_rows pair (H + 2) (λ z. omega arith) (λ z. omega arith) ∙ u1.first_pair;
        prop_is = early prop prop_not_pair (H + 2) (omega arith) ∙ triangle_third H v N here e1 rows1 room_a1 prop ∙ props1 here;
      };
      row_3 = record {
        start_is = late start start_not_pair (H + 3) ∙ triangle_first (H + 3) N v other e1 P2 room_a2 start;
        end_is = late end end_not_pair (H + 3) ∙ triangle_first (H + 3) N v other e1 P2 room_a2 end ∙ sym is_t;
        pair_is = u5.first_pair;
        prop_is = late prop prop_not_pair (H + 3) ∙ triangle_first (H + 3) N v other e1 P2 room_a2 prop ∙ before prop prop_not_pair e1 be ∙ props1 e1;
      };
      row_4 = let z : H + 4 ≡ H + 3 + 1 = omega arith in rw z (record {
        start_is = late start start_not_pair (H + 3 + 1) ∙ triangle_second (H + 3) N v other e1 P2 room_a2 start ∙ sym is_t;
        end_is = late end end_not_pair (H + 3 + 1) ∙ triangle_second (H + 3) N v other e1 P2 room_a2 end ∙ before start start_not_pair other bo ∙ other_start;
        pair_is = u5.other_rows pair (H + 3 + 1) (λ y. omega arith) (λ y. omega arith) ∙ u4.first_pair;
        prop_is = late prop prop_not_pair (H + 3 + 1) ∙ triangle_second (H + 3) N v other e1 P2 room_a2 prop ∙ before prop prop_not_pair e1 be ∙ props1 e1;
      });
      row_5 = let z : H + 5 ≡ H + 3 + 2 = omega arith in rw z (record {
        start_is = late start start_not_pair (H + 3 + 2) ∙ triangle_third (H + 3) N v other e1 P2 room_a2 start ∙ before start start_not_pair other bo ∙ other_start;
        end_is = late end end_not_pair (H + 3 + 2) ∙ triangle_third (H + 3) N v other e1 P2 room_a2 end;
        pair_is = u5.other_rows pair (H + 3 + 2) (λ y. omega arith) (λ y. omega arith) ∙ u4.other_rows pair (H + 3 + 2) (λ y. omega arith) (λ y. omega arith) ∙ u3.first_pair;
        prop_is = late prop prop_not_pair (H + 3 + 2) ∙ triangle_third (H + 3) N v other e1 P2 room_a2 prop ∙ before prop prop_not_pair other bo ∙ props1 other;
      });
    }

    pub inserts : Inserts H N rows rows1 two_triangles t here other c1 e1
    inserts = record { starts = λ g b. kept start start_not_pair g b; ends = λ g b. kept end end_not_pair g b; triangles = triangles }
