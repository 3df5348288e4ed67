-- dedupe_edge's steps and the rounds of dedupe_edges on a sound net: there is no room, or the net is sound afterwards, over the half-edges
-- and vertices that are then in use. They never stop.
use mathlib.Core.Path.{◌≡◌, refl}
use mathlib.Core.Bool.{true}
use mathlib.Core.List.{List}
use mathlib.Core.Logic.{◌⊎◌, inl, inr}
use Prim.Native.Nat.{ℕ}
use native.Mathlib.Nat.{le_refl}
use native.Mathlib.Omega.{arith}
use borrow.Author.Tests.{lt-ltb}
use Rattle.net.specs.declared.Counts.{Counts}
use Rattle.net.specs.Net.{Net, net}
use Rattle.net.specs.Sound.{end_vertex, Live, Sound}
use Rattle.net.proofs.Sound.{live_row}
use Rattle.steps.specs.Steps.{NoRoom, Going}
use Rattle.growth.specs.declared.Limits.{Limits}
use Rattle.growth.specs.Growth.{Growing, rows_of}
use Rattle.settling.specs.Settling.{limits_of, begun}
use Rattle.settling.proofs.Entry.{begun_fits}
use Rattle.dedupe.specs.Dedupe.{dedupe_at}
use Rattle.rounds.specs.Rounds.{rounds}
use Rattle.net.specs.Grown.{with_growth}
use Rattle.dedupesound.specs.Deduped.{Deduped}
use Rattle.dedupesound.specs.Room.{Lacks}
use Rattle.dedupesound.specs.Clean.{NoDuplicates}
use Rattle.net.proofs.Grown.{shaped_grown}
use Rattle.dedupesound.proofs.Steps.{Went, OutWith}
use Rattle.dedupesound.proofs.Dedupes.{dedupe_left}
use Rattle.dedupesound.proofs.Cleans as C
use Rattle.dedupesound.proofs.Rounded.{Ordered, Left, ordered, rounds_goes}

-- how a net is left: there is no room, or it is sound over the counts that are then in use
pub record SoundAfter (c : Counts) (properties : List ℕ) (x : Growing) : Type 0 where
  pub going : x.middle.run.how ≡ Going
  pub sound : Sound (with_growth c x.used x.middle.run.vertices) (net (rows_of x) x.middle.positions x.normals x.references properties)

module _ (c : Counts) (n : Net) (sound : Sound c n) where
  abbrev l : Limits
  l = limits_of c n

  abbrev pub at_entry : Growing
  at_entry = begun c.halfedges c.vertices n.halfedges n.positions n.normals n.references

  begun_ordered : Ordered l c.halfedges at_entry
  begun_ordered =
      let r = begun_fits c n sound.shaped in
      record {
        rows = n.halfedges;
        positions = n.positions;
        N = c.vertices;
        H = c.halfedges;
        normals = n.normals;
        references = n.references;
        is = refl;
        fits = r.rows_fit;
        vertices_fit = r.vertices_fit;
        faces_fit = r.faces_fit;
        in_order = sound.in_order;
        above = le_refl _;
      }

  ordered_sound : (x : Growing) (least : ℕ) → Ordered l least x → SoundAfter c n.properties x
  ordered_sound x least o = rw o.is (record {
    going = refl;
    sound = record {
      shaped =
          let f = o.fits in
          let v = o.vertices_fit in
          shaped_grown c n sound.shaped o.H o.N o.rows o.positions o.normals o.references f.thirds (omega (arith, f.within_capacity, f.lent)) (omega (arith, f.within_capacity, f.few))
          (omega (arith, v.within_vertices, v.vertices_lent))
          (omega (arith, v.within_vertices, v.few_vertices))
          (λ m. let y = o.faces_fit.normals_lent (lt-ltb 0 c.normals (omega arith)) in omega (arith, f.within_capacity))
          (λ m. let y = o.faces_fit.references_lent (lt-ltb 0 c.references (omega arith)) in omega (arith, f.within_capacity));
      in_order = o.in_order;
    };
  })

  left_sound : (x : Growing) (least : ℕ) → Left l least x → (x.middle.run.how ≡ NoRoom) ⊎ SoundAfter c n.properties x
  left_sound x least (inl z) = inl z
  left_sound x least (inr o) = inr (ordered_sound x least o)

  -- the rounds
  pub rounds_sound : (k : ℕ) → ((rounds l k at_entry).growing.middle.run.how ≡ NoRoom) ⊎ SoundAfter c n.properties (rounds l k at_entry).growing
  rounds_sound k = left_sound (rounds l k at_entry).growing c.halfedges (rounds_goes l c.halfedges k at_entry (inr begun_ordered))

  -- and where they end clean there are no duplicates
  pub rounds_clean : (k : ℕ) → (rounds l k at_entry).clean ≡ true → NoDuplicates (rounds l k at_entry).growing.used (rows_of (rounds l k at_entry).growing)
  rounds_clean k e = C.rounds_clean l c.halfedges k at_entry (inr begun_ordered) e

  -- one half-edge, with what is left in words
  module _ (e : ℕ) (le : Live c.halfedges n.halfedges e) where
    abbrev v : ℕ
    v = end_vertex n.halfedges e

    went : Went l e v c.halfedges at_entry
    unfolding begun_ordered
    went =
        let o = begun_ordered in
        record {
          rows = n.halfedges;
          positions = n.positions;
          N = c.vertices;
          H = c.halfedges;
          normals = n.normals;
          references = n.references;
          is = refl;
          fits = o.fits;
          vertices_fit = o.vertices_fit;
          faces_fit = o.faces_fit;
          in_order = sound.in_order;
          e_live = le;
          v_in = (live_row c.halfedges c.vertices n.halfedges sound.shaped.thirds sound.in_order le).end_in;
          above = le_refl _;
        }

    abbrev pub steps : Growing
    steps = dedupe_at l e at_entry

    pub dedupe_sound : ((steps.middle.run.how ≡ NoRoom) × Lacks l e at_entry) ⊎ (SoundAfter c n.properties steps × Deduped l e at_entry steps)
    unfolding went
    dedupe_sound = go (dedupe_left l e v c.halfedges at_entry went (live_row c.halfedges c.vertices n.halfedges sound.shaped.thirds sound.in_order le).end_is)
      where
        go : OutWith l e v c.halfedges (Lacks l e at_entry) (Deduped l e at_entry) steps → ((steps.middle.run.how ≡ NoRoom) × Lacks l e at_entry) ⊎ (SoundAfter c n.properties steps × Deduped l e at_entry steps)
        go (inl z) = inl z
        go (inr (k, d)) = inr (ordered_sound steps c.halfedges (ordered k), d)
