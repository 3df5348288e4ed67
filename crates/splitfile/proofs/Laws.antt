-- What the reader and the split leave is what the report needs: a file that was read has at most 256 vertices and triangles, the steps are
-- no more than its half-edges, and the copies find their rows.
use mathlib.Core.Path.{◌≡◌, refl, ap, ◌∙◌}
use mathlib.Core.Bool.{true}
use mathlib.Core.List.{List, [], ◌++◌}
use mathlib.Core.Logic.{⊎_elim}
use Prim.Native.Nat.{ℕ, ◌≤◌}
use native.Mathlib.Omega.{arith}
use lib.IntN.{ℤ, pos}
use lib.ListN.{length, drop, length-take}
use Rattle.answers.specs.Answers.{Said}
use Rattle.laws.proofs.Tests.{by_test}
use Rattle.numbers.specs.Numbers.{Named, at, nothing}
use Rattle.rows.specs.Halfedges.{append_row}
use Rattle.rows.specs.Triples.{put_triple}
use Rattle.net.specs.declared.Counts.{Counts}
use Rattle.net.specs.Net.{Net, net}
use Rattle.net.specs.Counts.{is_shaped, most_vertices}
use Rattle.net.specs.Sound.{Live}
use Rattle.net.proofs.Shape.{capacities}
use Rattle.rowtests.specs.Order.{least_out}
use Rattle.turning.proofs.Count.{count_le}
use Rattle.splitting.specs.Split.{SplitOutcome, split_outcome, buffers_long, split_pinched}
use Rattle.splitting.specs.Told.{SplitDone, IsFull}
use Rattle.splitting.proofs.Told.{split_in_words}
use Rattle.split.proofs.Entry.{said_shape, said_short, said_unsound, sound_here, work_long, visit_long}
use Rattle.std.specs.Prelude.{Result, Ok, Err}
use Rattle.meshfile.specs.declared.Size.{Size}
use Rattle.meshfile.specs.declared.MeshError.{MeshError}
use Rattle.meshfile.specs.declared.MeshError.TheVariants as E
use Rattle.meshfile.specs.Steps.{Found, holding, too_large, first_bad, found}
use Rattle.meshfile.specs.Told.{limits_of, laid, reading, mesh_said, read_mesh}
use Rattle.meshfile.proofs.Told.{found_exactly, read_agree}
use Rattle.report.specs.declared.Outcome.{Outcome}
use Rattle.texts.specs.Appended.{Appended}
use Rattle.texts.proofs.Appends.{appended_is}
use Rattle.report.specs.Report.{euler, text_of, Listed}
use Rattle.splitfile.specs.Printed.{outcome_of, refused, vertices_after, no_halfedges, no_positions, counts, lent, no_work, no_visit, split_with, text_after, report_of, printed}

-- what `report` asks of an outcome
pub record Fits (vertices : ℕ) (o : Outcome) (visit : List ℕ) : Type 0 where
  pub listed : Listed o visit
  pub vertices_few : vertices_after vertices o ≤ most_vertices

-- ---- the split
module _ (c : Counts) (n : Net) (work visit : List ℕ) (few : c.halfedges ≤ 768) (vertices_few : c.vertices ≤ most_vertices) where
  abbrev parted : SplitOutcome
  parted = split_pinched c n work visit

  done_fits : (added steps : ℕ) → SplitDone c n work visit parted added steps → Fits c.vertices (outcome_of parted.said) parted.visit
  done_fits added steps d =
      let s : steps ≤ c.halfedges = count_le (Live c.halfedges n.halfedges) c.halfedges steps d.steps_live in
      let l : steps ≤ length parted.visit = omega (arith, d.steps_are, length-take steps parted.visit) in
      rw d.said (record {
        listed = (omega arith, l);
        vertices_few =
            omega (
              arith,
              d.sound.shaped.vertices_fit,
              (capacities c (net parted.halfedges parted.positions n.normals n.references n.properties)).vertices_most,
            );
      })

  full_fits : IsFull c n work visit parted → Fits c.vertices (outcome_of parted.said) parted.visit
  full_fits f = rw f.said (record { listed = tt; vertices_few = vertices_few })

  pub split_fits : Fits c.vertices (outcome_of parted.said) parted.visit
  split_fits =
      by_test (is_shaped c n)
      (λ s.
      by_test (buffers_long c.halfedges c.vertices work visit)
      (λ b. go s b (least_out c.halfedges c.vertices n.halfedges) refl)
      (λ b. rw (← said_short c n work visit s b) (record { listed = tt; vertices_few = vertices_few })))
      (λ s. rw (← said_shape c n work visit s) (record { listed = tt; vertices_few = vertices_few }))
    where
      go : is_shaped c n ≡ true → buffers_long c.halfedges c.vertices work visit ≡ true → (w : Named) → least_out c.halfedges c.vertices n.halfedges ≡ w
          → Fits c.vertices (outcome_of parted.said) parted.visit
      go s b (at h) e = rw (← said_unsound c n work visit s b h e) (record { listed = tt; vertices_few = vertices_few })
      go s b nothing e =
          ⊎_elim
          (λ t. done_fits t.0 t.1 t.2)
          full_fits
          (split_in_words c n work visit (sound_here c n work visit s e) (work_long c n work visit b) (visit_long c n work visit b))

-- a split as the program makes it, and as the code finds it
module _ (vertices triangles : ℕ) (rows : List ℤ) (positions : List ℕ) {rows' : List ℤ} {positions' work visit : List ℕ} {s : Said} {o : Outcome} (e : split_outcome s rows' positions' work visit ≡ split_with vertices triangles rows positions) (q : o ≡ outcome_of s) where
  pub fits_here : vertices ≤ 256 → triangles ≤ 256 → Fits vertices o visit
  unfolding split_with
  fits_here v t =
      let parted = split_with vertices triangles rows positions in
      let f : Fits vertices (outcome_of parted.said) parted.visit = split_fits (counts vertices triangles) (lent rows positions) no_work no_visit (omega arith) (omega arith) in
      rw q (rw (← e) at f)

  pub text_here : (k : ℕ) → k ≡ vertices_after vertices o → text_of o visit (euler k triangles rows') ≡ text_after vertices triangles (split_with vertices triangles rows positions)
  text_here k r = rw (← e, r, q)

-- ---- the reader
abbrev Small : Result Size MeshError → Type 0
Small (Ok size) = (size.vertices ≤ 256) × (size.triangles ≤ 256)
Small (Err e) = Unit {0}

-- the report on what the reader answers and leaves
abbrev text_read : Result Size MeshError → List ℤ → List ℕ → List ℕ
text_read (Ok size) halfedges positions = text_after size.vertices size.triangles (split_with size.vertices size.triangles halfedges positions)
text_read (Err e) halfedges positions = text_of (refused e) [] (pos 0)

pub read_told : (file : List ℕ) {m a : Result Size MeshError} {halfedges : List ℤ} {positions : List ℕ} → a ≡ m
    → reading (mesh_said a) halfedges positions ≡ read_mesh file no_halfedges no_positions → Small m × (text_read m halfedges positions ≡ report_of file)
unfolding report_of
read_told file {m} {a} {halfedges} {positions} is r = go _ refl
  where
    go : (f : Found) → found (limits_of no_halfedges no_positions) file ≡ f → Small m × (text_read m halfedges positions ≡ report_of file)
    go (holding v t ps hs) e =
        let k = read_agree file no_halfedges no_positions m (Ok (record { vertices = v; triangles = t })) halfedges (laid append_row 0 hs no_halfedges) positions (laid put_triple 0 ps no_positions) (rw is at r) (rw e) in
        let few = ((found_exactly file no_halfedges no_positions (holding v t ps hs)).0 e).few in
        rw (e, k.0, k.1, k.2) ((omega (arith, few.vertices_few), omega (arith, few.triangles_few)), refl)
    go too_large e = rw (e, (read_agree file no_halfedges no_positions m (Err E.TooLarge) halfedges no_halfedges positions no_positions (rw is at r) (rw e)).0) (tt, refl)
    go (first_bad line) e = rw (e, (read_agree file no_halfedges no_positions m (Err (E.BadLine line)) halfedges no_halfedges positions no_positions (rw is at r) (rw e)).0) (tt, refl)

-- a refusal's text needs neither visits nor an euler number
pub refused_listed : (e : MeshError) (visit : List ℕ) → Listed (refused e) visit
refused_listed E.TooLarge visit = tt
refused_listed (E.BadLine line) visit = tt

pub refused_text : (e : MeshError) (visit : List ℕ) (z : ℤ) → text_of (refused e) visit z ≡ text_of (refused e) [] (pos 0)
unfolding text_of
refused_text E.TooLarge visit z = refl
refused_text (E.BadLine line) visit z = refl

-- ---- the buffer
pub put_front : {before after bytes text : List ℕ} {r : ℕ} → Appended before 0 bytes after r → bytes ≡ text → (r, after) ≡ printed text before
put_front {before} {after} {bytes} {text} {r} p e = λ i. (count i, all i)
  where
    count : r ≡ length text
    count = omega (arith, p.count, ap length e)

    all : after ≡ text ++ drop (length text) before
    all = appended_is p ∙ rw (e, count)
