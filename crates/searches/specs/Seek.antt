-- The search about a vertex, by the moves that are left: one that has made as many moves as there are half-edges, and has not come to
-- its end, never does.
use Rattle.std.specs.Prelude.{cond, List, ℕ, zero, suc, eqb, ℤ, pos}
use Rattle.laws.specs.Integers.{eq_z}
use Rattle.numbers.specs.Numbers.{named_or, halfedge_number}
use Rattle.rows.specs.Halfedges.{start_of}
use Rattle.walks.specs.Walk.{onward}
use Rattle.searches.specs.declared.Sought.{Sought}
use Rattle.searches.specs.declared.Sought.TheVariants as S

-- where it stops: it has met a half-edge that starts at the vertex sought; it has come back round; or it cannot go on
pub data Place : Type 0 where
  met : ℕ → Place
  round : ℕ → Place
  missing : Place

abbrev pub place_of : Sought → Place
place_of (S.Met h) = met (halfedge_number h)
place_of (S.Round h) = round (halfedge_number h)
place_of S.Missing = missing

-- from `here`, with at most n moves, for one that starts at v, until `home`
unfoldable pub seek : ℕ → ℕ → ℕ → List ℤ → ℕ → ℕ → Place
seek H v home rows zero here = cond (eqb here home) (round here) (cond (eq_z (start_of rows here) (pos v)) (met here) missing)
seek H v home rows (suc n) here =
    cond (eqb here home) (round here)
    (cond (eq_z (start_of rows here) (pos v)) (met here)
    (named_or missing (onward H rows here) (λ h. seek H v home rows n h)))
