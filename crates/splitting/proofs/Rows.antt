-- What a walk leaves in the work buffer and in the rows, place by place.
use mathlib.Core.Path.{◌≡◌, refl, sym, ap, ◌∙◌, subst}
use mathlib.Core.Logic.{◌⊎◌, inl, inr, ◌≢◌}
use mathlib.Core.List.{List, [], ◌∷◌}
use Prim.Native.Nat.{ℕ, ◌<◌}
use native.Mathlib.Omega.{arith}
use native.Mathlib.Decide.{ℕ_discrete}
use lib.IntN.{ℤ, pos, nat_abs}
use lib.ListN.{length, get_or, set, drop, length-set}
use lib.Seq.{get_or-set_same, get_or-set_other, drop-set-lt}
use Rattle.rows.specs.Halfedges.{start, end, pair, prop, set_column, start_of, end_of, pair_of, prop_of, lent_halfedges}
use Rattle.rows.proofs.Columns.{column_written, other_column, other_row, length_written}
use Rattle.net.specs.Sound.{start_vertex, partner, Live}
use Rattle.net.proofs.Sound.{partner_live, pair_involution, end_start}
use Rattle.turning.specs.Fan.{occ}
use Rattle.turning.proofs.Occ.{occ_head, occ_tail, occ_out, occ_in}
use Rattle.splitting.specs.inner.Needs.{SoundRows}
use Rattle.splitting.specs.Steps.{flag_walk, relabel, relabel_walk}
use Rattle.splitting.proofs.Net.{row_of}

-- ---- flags
pub length_flagged : (w work : List ℕ) → length (flag_walk w work) ≡ length work
unfolding flag_walk
length_flagged [] work = refl
length_flagged (c ∷ cs) work = length_flagged cs (set work c 1) ∙ length-set work c 1

pub flag_out : (h : ℕ) (w work : List ℕ) → occ h w ≡ 0 → get_or (flag_walk w work) h 0 ≡ get_or work h 0
unfolding flag_walk
flag_out h [] work e = refl
flag_out h (c ∷ cs) work e = flag_out h cs (set work c 1) (occ_out h c cs e).1 ∙ get_or-set_other work c h 1 0 (occ_out h c cs e).0

pub flag_in : (h : ℕ) (w work : List ℕ) → h < length work → 0 < occ h w → get_or (flag_walk w work) h 0 ≡ 1
unfolding flag_walk occ
flag_in h [] work b l = absurd (omega arith)
flag_in h (c ∷ cs) work b l = go (ℕ_discrete (occ h cs) 0) (occ_in h c cs l) (flag_in h cs (set work c 1) (omega (arith, length-set work c 1)))
  where
    go : Dec (occ h cs ≡ 0) → (h ≡ c) ⊎ (0 < occ h cs) → (0 < occ h cs → get_or (flag_walk cs (set work c 1)) h 0 ≡ 1) → get_or (flag_walk cs (set work c 1)) h 0 ≡ 1
    go (yes e) (inl p) ih = flag_out h cs (set work c 1) e ∙ ap (λ x. get_or (set work c 1) x 0) p ∙ get_or-set_same work c 1 0 (subst (λ x. x < length work) p b)
    go (yes e) (inr p) ih = ih p
    go (no q) p ih = ih (omega arith)

-- a walk below n leaves the buffer from n on
pub flag_beyond : (n : ℕ) (w work : List ℕ) → ((h : ℕ) → 0 < occ h w → h < n) → drop n (flag_walk w work) ≡ drop n work
unfolding flag_walk
flag_beyond n [] work f = refl
flag_beyond n (c ∷ cs) work f =
    flag_beyond n cs (set work c 1) (λ h o. f h (omega (arith, occ_tail h c cs))) ∙ drop-set-lt n work c 1 (f c (occ_head c cs))

-- ---- one move: the start of c and the end of its partner
module _ (x c : ℕ) (rows : List ℤ) where
  abbrev moved_start : List ℤ
  moved_start = set_column start c (pos x) rows

  pub length_relabel : length (relabel x c rows) ≡ length rows
  length_relabel = length_written end (partner rows c) (pos x) moved_start ∙ length_written start c (pos x) rows

  pub relabel_pair : (h : ℕ) → pair_of (relabel x c rows) h ≡ pair_of rows h
  relabel_pair h = other_column pair end (partner rows c) h (pos x) moved_start (λ e. omega arith) ∙ other_column pair start c h (pos x) rows (λ e. omega arith)

  pub relabel_prop : (h : ℕ) → prop_of (relabel x c rows) h ≡ prop_of rows h
  relabel_prop h = other_column prop end (partner rows c) h (pos x) moved_start (λ e. omega arith) ∙ other_column prop start c h (pos x) rows (λ e. omega arith)

  pub relabel_start : c < lent_halfedges rows → start_of (relabel x c rows) c ≡ pos x
  relabel_start l = other_column start end (partner rows c) c (pos x) moved_start (λ e. omega arith) ∙ column_written start c (pos x) rows l

  pub relabel_start_other : (h : ℕ) → h ≢ c → start_of (relabel x c rows) h ≡ start_of rows h
  relabel_start_other h q = other_column start end (partner rows c) h (pos x) moved_start (λ e. omega arith) ∙ other_row start start c h (pos x) rows q

  pub relabel_end : partner rows c < lent_halfedges rows → end_of (relabel x c rows) (partner rows c) ≡ pos x
  relabel_end l = column_written end (partner rows c) (pos x) moved_start (rw (length_written start c (pos x) rows) l)

  pub relabel_end_other : (h : ℕ) → h ≢ partner rows c → end_of (relabel x c rows) h ≡ end_of rows h
  relabel_end_other h q = other_row end end (partner rows c) h (pos x) moved_start q ∙ other_column end start c h (pos x) rows (λ e. omega arith)

-- ---- the walk
pub relabel_out : (x h : ℕ) (w : List ℕ) (rows : List ℤ) → occ h w ≡ 0 → start_of (relabel_walk x w rows) h ≡ start_of rows h
unfolding relabel_walk
relabel_out x h [] rows e = refl
relabel_out x h (c ∷ cs) rows e = relabel_out x h cs (relabel x c rows) (occ_out h c cs e).1 ∙ relabel_start_other x c rows h (occ_out h c cs e).0

pub relabel_in : (x h : ℕ) (w : List ℕ) (rows : List ℤ) → h < lent_halfedges rows → 0 < occ h w → start_of (relabel_walk x w rows) h ≡ pos x
unfolding relabel_walk occ
relabel_in x h [] rows b l = absurd (omega arith)
relabel_in x h (c ∷ cs) rows b l = go (ℕ_discrete (occ h cs) 0) (occ_in h c cs l) (relabel_in x h cs (relabel x c rows) (rw (length_relabel x c rows) b))
  where
    go : Dec (occ h cs ≡ 0) → (h ≡ c) ⊎ (0 < occ h cs) → (0 < occ h cs → start_of (relabel_walk x cs (relabel x c rows)) h ≡ pos x) → start_of (relabel_walk x cs (relabel x c rows)) h ≡ pos x
    go (yes e) (inl p) ih = relabel_out x h cs (relabel x c rows) e ∙ ap (start_of (relabel x c rows)) p ∙ relabel_start x c rows (subst (λ y. y < lent_halfedges rows) p b)
    go (yes e) (inr p) ih = ih p
    go (no q) p ih = ih (omega arith)

-- what stays as it was: all but starts and ends of live rows, and each end is the partner's start
pub record Kept (H : ℕ) (rows rows' : List ℤ) : Type 0 where
  pub len : length rows' ≡ length rows
  pub pairs : (h : ℕ) → pair_of rows' h ≡ pair_of rows h
  pub props : (h : ℕ) → prop_of rows' h ≡ prop_of rows h
  pub ends : (g : ℕ) → Live H rows g → end_of rows' g ≡ start_of rows' (partner rows g)
  pub whole : (h : ℕ) → Live H rows h → start_of rows' h ≡ pos (start_vertex rows' h)
  pub dead_start : (h : ℕ) → ¬ Live H rows h → start_of rows' h ≡ start_of rows h
  pub dead_end : (h : ℕ) → ¬ Live H rows h → end_of rows' h ≡ end_of rows h

module _ {H N : ℕ} {rows : List ℤ} (S : SoundRows H N rows) where
  pub kept_refl : Kept H rows rows
  kept_refl = record {
    len = refl;
    pairs = λ h. refl;
    props = λ h. refl;
    ends = λ h l. end_start H N rows S.thirds S.in_order l;
    whole = λ h l. (row_of S l).start_is;
    dead_start = λ h q. refl;
    dead_end = λ h q. refl;
  }

  kept_step : (x c : ℕ) (rows' : List ℤ) → Live H rows c → Kept H rows rows' → Kept H rows (relabel x c rows')
  kept_step x c rows' l K = record {
    len = length_relabel x c rows' ∙ K.len;
    pairs = λ h. relabel_pair x c rows' h ∙ K.pairs h;
    props = λ h. relabel_prop x c rows' h ∙ K.props h;
    ends = λ g m. ends' g m (ℕ_discrete g (partner rows' c));
    whole = λ h m. whole' h m (ℕ_discrete h c);
    dead_start = λ h q. relabel_start_other x c rows' h (λ e. q (subst (Live H rows) (sym e) l)) ∙ K.dead_start h q;
    dead_end = λ h q. relabel_end_other x c rows' h (λ e. q (subst (Live H rows) (sym (e ∙ there)) (partner_live H N rows S.thirds S.in_order l))) ∙ K.dead_end h q;
  }
    where
      there : partner rows' c ≡ partner rows c
      there = ap nat_abs (K.pairs c)

      back : {h : ℕ} → Live H rows h → partner rows (partner rows h) ≡ h
      back m = pair_involution H N rows S.thirds S.in_order m

      in_rows : (h : ℕ) → Live H rows h → h < lent_halfedges rows'
      in_rows h m = rw K.len (omega (arith, m.in_use, S.lent))

      ends' : (g : ℕ) → Live H rows g → Dec (g ≡ partner rows' c) → end_of (relabel x c rows') g ≡ start_of (relabel x c rows') (partner rows g)
      ends' g m (yes e) =
          let home : partner rows g ≡ c = ap (partner rows) (e ∙ there) ∙ back l in
          ap (end_of (relabel x c rows')) e ∙ relabel_end x c rows' (subst (λ y. y < lent_halfedges rows') e (in_rows g m))
          ∙ sym (relabel_start x c rows' (in_rows c l)) ∙ ap (start_of (relabel x c rows')) (sym home)
      ends' g m (no q) =
          relabel_end_other x c rows' g q ∙ K.ends g m
          ∙ sym (relabel_start_other x c rows' (partner rows g) (λ e. q (sym (back m) ∙ ap (partner rows) e ∙ sym there)))

      whole' : (h : ℕ) → Live H rows h → Dec (h ≡ c) → start_of (relabel x c rows') h ≡ pos (start_vertex (relabel x c rows') h)
      whole' h m (yes e) =
          let p : start_of (relabel x c rows') h ≡ pos x = ap (start_of (relabel x c rows')) e ∙ relabel_start x c rows' (in_rows c l) in
          p ∙ ap pos (sym (ap nat_abs p))
      whole' h m (no q) =
          let p : start_of (relabel x c rows') h ≡ start_of rows' h = relabel_start_other x c rows' h q in
          p ∙ K.whole h m ∙ ap (λ y. pos (nat_abs y)) (sym p)

  pub kept_walk : (x : ℕ) (w : List ℕ) (rows' : List ℤ) → ((h : ℕ) → 0 < occ h w → Live H rows h) → Kept H rows rows' → Kept H rows (relabel_walk x w rows')
  unfolding relabel_walk
  kept_walk x [] rows' f K = K
  kept_walk x (c ∷ cs) rows' f K =
      kept_walk x cs (relabel x c rows') (λ h l. f h (omega (arith, occ_tail h c cs))) (kept_step x c rows' (f c (occ_head c cs)) K)
