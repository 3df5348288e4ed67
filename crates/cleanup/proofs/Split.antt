-- Splitting past the checks, as a step of a growing net: it leaves alone what every step does, and of work buffer and list writes no more
-- than their first half-edge and vertex entries.
use mathlib.Core.Path.{◌≡◌, refl, sym, ap, ◌∙◌}
use mathlib.Core.List.{List, [], ◌++◌, append_assoc}
use mathlib.Core.Logic.{◌⊎◌, inl, inr}
use Prim.Native.Nat.{ℕ, ◌+◌, ◌-◌, ◌*◌, ◌≤◌}
use native.Mathlib.Nat.{le_refl}
use native.Mathlib.Omega.{arith}
use lib.IntN.{ℤ}
use lib.ListN.{length, take, drop, replicate, length-append, length-replicate}
use lib.Seq.{drop_at, length-take-le}
use Rattle.laws.specs.Stretches.{cleared}
use Rattle.laws.proofs.Stretches.{drop_more, filled_beyond}
use Rattle.rows.specs.Triples.{lent_triples, triples_from, zero_triples}
use Rattle.rows.proofs.Threes.{length_zeroed_triples}
use Rattle.net.specs.declared.Counts.{Counts}
use Rattle.net.specs.Net.{Net, net}
use Rattle.net.specs.Counts.{triangle_capacity_over, vertex_capacity_over, property_capacity_over}
use Rattle.net.specs.Sound.{Sound}
use Rattle.splitting.specs.inner.Needs.{SoundRows}
use Rattle.splitting.specs.Split.{SplitOutcome, split_sound}
use Rattle.splitting.specs.Told.{SplitDone, IsFull}
use Rattle.splitkept.specs.inner.Kept.{FreeKept}
use Rattle.splitkept.proofs.Told.{split_left}
use Rattle.growth.specs.declared.Limits.{Limits}
use Rattle.growth.specs.Growth.{Growing}
use Rattle.settling.specs.Settling.{begun}
use Rattle.settling.proofs.Appended.{appended_none}
use Rattle.settling.proofs.Grows.{Grows}
use Rattle.settling.proofs.Kept.{Fitting, Grew}
use Rattle.cleanup.specs.Cleanup.{after_split}

-- rows in order over H half-edges and N vertices are a sound net without normals, references and properties
module _ (H N : ℕ) (rows : List ℤ) (positions : List ℕ) (s : SoundRows H N rows) (few : N ≤ vertex_capacity_over positions) where
  abbrev counts : Counts
  counts = record { halfedges = H; vertices = N; normals = 0; references = 0; properties = 0; num_prop = 0 }

  abbrev bare : Net
  bare = net rows positions [] [] []

  bare_sound : Sound counts bare
  unfolding triangle_capacity_over property_capacity_over
  bare_sound = record {
    shaped = record {
      thirds = s.thirds;
      halfedges_fit = omega (arith, s.thirds, s.lent, s.few);
      vertices_fit = few;
      num_prop_fits = omega arith;
      properties_fit = omega arith;
      references_fit = inl refl;
      normals_fit = inl refl;
    };
    in_order = s.in_order;
  }

-- rows a up to b zero: the rows from b on are as they were
zeroed_free : (a b : ℕ) (l : List ℕ) → a ≤ b → b ≤ lent_triples l → triples_from b (zero_triples a b l) ≡ triples_from b l
unfolding triples_from zero_triples
zeroed_free a b l h k =
    ap (drop (3 * b)) (sym (append_assoc (take (3 * a) l) (replicate (3 * b - 3 * a) 0) (drop (3 * b) l)))
    ∙ drop_at (take (3 * a) l ++ replicate (3 * b - 3 * a) 0) (drop (3 * b) l) (3 * b) (omega (arith, length-append (take (3 * a) l) (replicate (3 * b - 3 * a) 0), length-take-le (3 * a) l (omega arith), length-replicate {A = ℕ} (3 * b - 3 * a) 0))

module _ (l : Limits) (H N : ℕ) (rows : List ℤ) (positions normals : List ℕ) (references : List ℤ) (work list : List ℕ)
    (s : SoundRows H N rows) (capacity : l.vertices ≡ vertex_capacity_over positions) (f : Fitting l (begun H N rows positions normals references))
    (work_long : H + N ≤ length work) (list_long : H ≤ length list) where
  abbrev o : SplitOutcome
  o = split_sound H N rows positions work list

  abbrev before : Growing
  before = begun H N rows positions normals references

  abbrev after : Growing
  after = after_split l H N normals references o

  few : N ≤ vertex_capacity_over positions
  few = omega (arith, f.vertices_fit.within_vertices, capacity)

  -- what splitting leaves for the rounds
  pub record Splits : Type 0 where
    pub grew : Grew l before after
    pub work_is : o.work ≡ cleared (H + N) work
    pub list_free : drop H o.visit ≡ drop H list

  lent_same : {x : Growing} → Grows l before x → x.used ≡ H → x.middle.run.vertices ≤ l.vertices → Fitting l x
  lent_same g c v = record {
    rows_fit = record {
      thirds = rw c f.rows_fit.thirds;
      capacity_thirds = f.rows_fit.capacity_thirds;
      within_capacity = omega (arith, c, f.rows_fit.within_capacity);
      lent = omega (arith, f.rows_fit.lent, g.rows_lent);
      few = f.rows_fit.few;
    };
    vertices_fit = record {
      within_vertices = v;
      vertices_lent = omega (arith, f.vertices_fit.vertices_lent, g.positions_lent);
      few_vertices = f.vertices_fit.few_vertices;
    };
    faces_fit = record {
      normals_lent = λ t. omega (arith, f.faces_fit.normals_lent t, g.normals_grow.lent);
      references_lent = λ t. omega (arith, f.faces_fit.references_lent t, g.references_grow.lent);
    };
  }

  pub splits : Splits
  splits = go (split_left (counts H N rows positions s few) (bare H N rows positions s few) work list (bare_sound H N rows positions s few) work_long list_long)
    where
      go : ((added : ℕ) × (steps : ℕ) × (SplitDone (counts H N rows positions s few) (bare H N rows positions s few) work list o added steps × FreeKept (counts H N rows positions s few) (bare H N rows positions s few) list o added steps)) ⊎ IsFull (counts H N rows positions s few) (bare H N rows positions s few) work list o → Splits
      go (inl (added, steps, (d, k))) =
          let u : after.middle.run.vertices ≡ N + added = rw d.said refl in
          let g : Grows l before after = record {
            halfedges_grow = le_refl _;
            rows_free = k.rows_free;
            rows_lent = k.rows_lent;
            vertices_grow = omega (arith, u);
            positions_free = rw u k.positions_free;
            positions_lent = k.positions_lent;
            normals_grow = appended_none _ _ _;
            references_grow = appended_none _ _ _;
          } in
          record {
            grew = record { grows = g; fitting = lent_same g refl (omega (arith, u, k.vertices_fit, capacity)) };
            work_is = d.work_is;
            list_free = k.visit_free;
          }
      go (inr z) =
          let u : after.middle.run.vertices ≡ l.vertices = rw z.said refl in
          let e : o.positions ≡ zero_triples N l.vertices positions = z.positions_are ∙ ap (λ (k : ℕ). zero_triples N k positions) (sym capacity) in
          let g : Grows l before after = record {
            halfedges_grow = le_refl _;
            rows_free = rw z.halfedges_are refl;
            rows_lent = ap length z.halfedges_are;
            vertices_grow = omega (arith, u, f.vertices_fit.within_vertices);
            positions_free = rw (u, e) (zeroed_free N l.vertices positions f.vertices_fit.within_vertices f.vertices_fit.vertices_lent);
            positions_lent = ap length e ∙ length_zeroed_triples N l.vertices positions f.vertices_fit.within_vertices f.vertices_fit.vertices_lent;
            normals_grow = appended_none _ _ _;
            references_grow = appended_none _ _ _;
          } in
          record {
            grew = record { grows = g; fitting = lent_same g refl (omega (arith, u)) };
            work_is = z.work_is;
            list_free = ap (drop H) z.visit_is;
          }

  -- and beyond what it writes
  pub work_beyond : {left : List ℕ} → left ≡ o.work → drop (l.halfedges + N) left ≡ drop (l.halfedges + N) work
  work_beyond e = drop_more (H + N) (l.halfedges + N) _ work (omega (arith, f.rows_fit.within_capacity)) (ap (drop (H + N)) (e ∙ splits.work_is) ∙ filled_beyond 0 (H + N) work)

  pub list_beyond : {left : List ℕ} → left ≡ o.visit → drop l.halfedges left ≡ drop l.halfedges list
  list_beyond e = drop_more H l.halfedges _ list f.rows_fit.within_capacity (ap (drop H) e ∙ splits.list_free)

  -- the same behind the rounds
  pub rounds_beyond : {left visit : List ℕ} (later done : List ℕ) → left ≡ o.work → visit ≡ o.visit → (drop l.halfedges later ≡ drop l.halfedges left) × (drop l.halfedges done ≡ drop l.halfedges visit) →
      (drop (l.halfedges + N) later ≡ drop (l.halfedges + N) work) × (drop l.halfedges done ≡ drop l.halfedges list)
  rounds_beyond later done e q b = (drop_more l.halfedges (l.halfedges + N) later _ (omega arith) b.0 ∙ work_beyond e, b.1 ∙ list_beyond q)
