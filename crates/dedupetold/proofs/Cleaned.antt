-- The rounds on a net that was split: splitting grows a sound net by its added vertices and leaves it sound, so the rounds end for want
-- of room or leave it sound.
use mathlib.Core.Path.{◌≡◌, subst}
use mathlib.Core.List.{List}
use mathlib.Core.Logic.{◌⊎◌, inl, inr, ⊎_elim}
use Prim.Native.Nat.{ℕ, ◌+◌}
use Rattle.net.specs.declared.Counts.{Counts}
use Rattle.net.specs.Net.{Net, net}
use Rattle.net.specs.Counts.{with_vertices}
use Rattle.net.specs.Sound.{Sound}
use Rattle.steps.specs.Steps.{NoRoom}
use Rattle.splitting.specs.Split.{SplitOutcome}
use Rattle.splitting.specs.Told.{SplitDone}
use Rattle.splitkept.specs.inner.Kept.{FreeKept}
use Rattle.growth.specs.declared.Limits.{Limits}
use Rattle.growth.specs.Growth.{Growing}
use Rattle.settling.specs.Settling.{limits_of, begun}
use Rattle.rounds.specs.Rounds.{rounds}
use Rattle.settling.proofs.Entry.{limits_same}
use Rattle.dedupesound.proofs.Sounds.{SoundAfter, rounds_sound}

module _ (c : Counts) (n : Net) (work visit : List ℕ) (sound : Sound c n) (o : SplitOutcome) (added steps : ℕ) (d : SplitDone c n work visit o added steps) (k : FreeKept c n visit o added steps) where
  abbrev H : ℕ
  H = c.halfedges

  abbrev l : Limits
  l = limits_of c n

  -- the net as the split leaves it, and the steps that begin there
  abbrev split_net : Net
  split_net = net o.halfedges o.positions n.normals n.references n.properties

  abbrev pub begun_split : Growing
  begun_split = begun H (c.vertices + added) o.halfedges o.positions n.normals n.references

  same_limits : limits_of (with_vertices c (c.vertices + added)) split_net ≡ l
  same_limits = limits_same c n (c.vertices + added) o.halfedges o.positions k.rows_lent k.positions_lent

  abbrev pub cleaned : Growing
  cleaned = (rounds l H begun_split).growing

  -- how it is left depends on no vertices that were in use before
  rounds_after : (x : Limits) → limits_of (with_vertices c (c.vertices + added)) split_net ≡ x → ((rounds x H begun_split).growing.middle.run.how ≡ NoRoom) ⊎ SoundAfter c n.properties (rounds x H begun_split).growing
  rounds_after x e =
      subst (λ (y : Limits). ((rounds y H begun_split).growing.middle.run.how ≡ NoRoom) ⊎ SoundAfter c n.properties (rounds y H begun_split).growing) e
      (⊎_elim (λ z. inl z) (λ s. inr (record { going = s.going; sound = s.sound })) (rounds_sound (with_vertices c (c.vertices + added)) split_net d.sound H))

  pub cleaned_sound : (cleaned.middle.run.how ≡ NoRoom) ⊎ SoundAfter c n.properties cleaned
  cleaned_sound = rounds_after l same_limits
