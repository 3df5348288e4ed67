-- The report on a well-formed file is one of the three that Reported has.
use mathlib.Core.Path.{◌≡◌, refl, ◌∙◌}
use mathlib.Core.List.{List, [], ◌∷◌, ◌++◌}
use mathlib.Core.Logic.{inl}
use Prim.Native.Nat.{ℕ, ◌+◌, ◌-◌, ◌/◌, ◌<◌, ◌≤◌}
use native.Mathlib.Omega.{arith}
use native.Mathlib.Decide.{dec_le}
use lib.IntN.{pos}
use lib.ListN.{length, take, length-replicate}
use Rattle.digits.specs.Written.{decimal, signed}
use Rattle.answers.specs.Answers.{unsound, no_room}
use Rattle.numbers.specs.Numbers.{Named, at, nothing}
use Rattle.rows.specs.declared.halfedges.Row.{Row}
use Rattle.rows.specs.declared.triples.Bits3.{Bits3}
use Rattle.rows.specs.Halfedges.{append_row}
use Rattle.rows.specs.Triples.{put_triple}
use Rattle.rows.proofs.Columns.{length_appended}
use Rattle.rows.proofs.Threes.{length_put}
use Rattle.net.specs.declared.Counts.{Counts}
use Rattle.net.specs.Net.{Net}
use Rattle.net.specs.Counts.{triangle_capacity_over, vertex_capacity_over, property_capacity_over, vertex_capacity, Shaped}
use Rattle.net.specs.Sound.{Sound}
use Rattle.rowtests.specs.Order.{least_out}
use Rattle.soundness.proofs.Told.{nothing_out, least_is}
use Rattle.splitting.specs.Split.{SplitOutcome, done_with, split_pinched}
use Rattle.splitsound.specs.Demand.{Demand3}
use Rattle.splitsound.proofs.Told.{demand_3}
use Rattle.refusals.proofs.Told.{split_pinched_verts}
use Rattle.meshfile.specs.Format.{WellFormed}
use Rattle.meshfile.specs.Steps.{holding}
use Rattle.meshfile.specs.Told.{limits_of, laid}
use Rattle.texts.specs.Appended.{line}
use Rattle.report.specs.Report.{answer_word, added_word, steps_word, visit_word, euler_word, row_word, commas, euler, text_of}
use Rattle.splitfile.specs.Printed.{no_halfedges, no_positions, counts, no_work, no_visit, split_with, text_after, report_of}
use Rattle.splitfile.proofs.Told.{report_told}
use Rattle.reported.specs.Reported.{held, Parted, Reported, out_of_order, split_up, full}

-- values laid into rows leave as many numbers as there were
laid_long : {A B : Type 0} (put : ℕ → A → List B → List B) (k : ℕ) → ((u : ℕ) (a : A) (rows : List B) → u < length rows / k → length (put u a rows) ≡ length rows) →
    (l : List A) (used : ℕ) (rows : List B) → used + length l ≤ length rows / k → length (laid put used l rows) ≡ length rows
unfolding laid
laid_long put k keeps [] used rows h = refl
laid_long put k keeps (a ∷ l) used rows h =
    let e = keeps used a rows (omega arith) in
    laid_long put k keeps l (used + 1) (put used a rows) (rw e (omega arith)) ∙ e

-- the text by what is said
done_text : (vertices triangles : ℕ) (o : SplitOutcome) (added steps : ℕ) → o.said ≡ done_with added steps → text_after vertices triangles o
    ≡ line answer_word (decimal 0)
    ++ (line added_word (decimal added)
    ++ (line steps_word (decimal steps) ++ (line visit_word (commas (take steps o.visit)) ++ line euler_word (signed (euler (vertices + added) triangles o.halfedges)))))
unfolding text_of
done_text vertices triangles o added steps e = rw e

full_text : (vertices triangles : ℕ) (o : SplitOutcome) → o.said ≡ no_room → text_after vertices triangles o ≡ line answer_word (decimal 6)
unfolding text_of
full_text vertices triangles o e = rw e

row_text : (vertices triangles : ℕ) (o : SplitOutcome) (h : ℕ) → o.said ≡ unsound h → text_after vertices triangles o ≡ line answer_word (decimal 3) ++ line row_word (decimal h)
unfolding text_of
row_text vertices triangles o h e = rw e

rows_lent : length no_halfedges ≡ 3072
rows_lent = length-replicate 3072 (pos 0)

positions_lent : length no_positions ≡ 768
positions_lent = length-replicate {A = ℕ} 768 0

module _ (file : List ℕ) (vertices triangles : ℕ) (ps : List Bits3) (hs : List Row) (w : WellFormed (limits_of no_halfedges no_positions) file vertices triangles ps hs) where
  abbrev c : Counts
  c = counts vertices triangles

  abbrev n : Net
  n = held ps hs

  abbrev after : SplitOutcome
  after = split_pinched c n no_work no_visit

  few : (vertices ≤ 256) × (triangles ≤ 256)
  few = (omega (arith, w.few.vertices_few), omega (arith, w.few.triangles_few))

  n_rows : length n.halfedges ≡ 3072
  n_rows = laid_long append_row 4 (λ u r l h. length_appended u r l h) hs 0 no_halfedges (omega (arith, rows_lent, w.holds.rows, few.1)) ∙ rows_lent

  n_positions : length n.positions ≡ 768
  n_positions = laid_long put_triple 3 (λ u p l h. length_put u p l h) ps 0 no_positions (omega (arith, positions_lent, w.holds.positions, few.0)) ∙ positions_lent

  capacity : vertex_capacity n ≡ 256
  unfolding vertex_capacity_over
  capacity = omega (arith, n_positions)

  shaped : Shaped c n
  unfolding triangle_capacity_over vertex_capacity_over property_capacity_over
  shaped = record {
    thirds = omega arith;
    halfedges_fit = omega (arith, n_rows, few.1);
    vertices_fit = omega (arith, n_positions, few.0);
    num_prop_fits = omega arith;
    properties_fit = omega arith;
    references_fit = inl refl;
    normals_fit = inl refl;
  }

  work_long : c.halfedges + c.vertices ≤ length no_work
  work_long = omega (arith, length-replicate {A = ℕ} 1024 0, few.0, few.1)

  visit_long : c.halfedges ≤ length no_visit
  visit_long = omega (arith, length-replicate {A = ℕ} 768 0, few.1)

  report_is : report_of file ≡ text_after vertices triangles after
  unfolding split_with
  report_is = report_told file (holding vertices triangles ps hs) w

  pub report_in_words : Reported vertices triangles (held ps hs) (report_of file)
  report_in_words = rw report_is (go (least_out c.halfedges c.vertices n.halfedges) refl)
    where
      of_sound : Sound c n → Reported vertices triangles n (text_after vertices triangles after)
      of_sound s = by_room (dec_le (vertices + (d.fans - d.starts)) 256)
        where
          d : Demand3 c n no_work no_visit after
          d = demand_3 c n no_work no_visit s work_long visit_long after refl

          p : Parted c n after
          p = record { sound = s; demand = d }

          by_room : Dec (vertices + (d.fans - d.starts) ≤ 256) → Reported vertices triangles n (text_after vertices triangles after)
          by_room (yes r) =
              let said = (d.with_room (omega (arith, capacity))).done.said in
              split_up (record { after = after; parted = p; room = r; text = done_text vertices triangles after (d.fans - d.starts) d.live_halfedges said })
          by_room (no r) =
              let said = (d.without (omega (arith, capacity))).said in
              full (record { after = after; parted = p; none = omega arith; text = full_text vertices triangles after said })

      go : (v : Named) → least_out c.halfedges c.vertices n.halfedges ≡ v → Reported vertices triangles n (text_after vertices triangles after)
      go (at h) e =
          let l = least_is c n h e in
          let said = ((split_pinched_verts c n no_work no_visit).unsound_when h).1 (shaped, (work_long, visit_long), l) in
          out_of_order (record { row = h; least = l; text = row_text vertices triangles after h said })
      go nothing e = of_sound (record { shaped = shaped; in_order = nothing_out c n e })
