-- What orbit_owners promises where it is done, in words.
use Rattle.std.specs.Prelude.{◌≡◌, List, [], ◌∷◌, ℕ, ◌<◌, pos, length, take, drop}
use Rattle.answers.specs.Answers.{whole, done}
use Rattle.laws.specs.Stretches.{cleared}
use Rattle.net.specs.declared.Counts.{Counts}
use Rattle.net.specs.Net.{Net}
use Rattle.net.specs.Sound.{turn}
use Rattle.turning.specs.Fan.{Reach, Count}
use Rattle.ownertests.specs.declared.Eligible.{Eligible}
use Rattle.ownertests.specs.Words.{IsEligible, Owner, IsList}
use Rattle.owners.specs.Scan.{OwnersOutcome}

-- answer 0, with the count
pub record OwnersDone (e : Eligible) (c : Counts) (n : Net) (work list : List ℕ) (o : OwnersOutcome) (count : ℕ) : Type 0 where
  pub said : o.said ≡ done (whole (pos count) ∷ [])
  -- the list's first entries are the least eligible half-edges of their fans, rising, each once, and the rest is kept
  pub listed : IsList e c.halfedges n.halfedges (take count o.list)
  pub counted : length (take count o.list) ≡ count
  pub rest : drop count o.list ≡ drop count list
  -- each fan that has an eligible half-edge has one, so their number is the number of such fans
  pub each_fan : (h : ℕ) → h < c.halfedges → IsEligible e n.halfedges h → (g : ℕ) × Owner e c.halfedges n.halfedges g × Reach (turn n.halfedges) h g
  pub count_is : Count (Owner e c.halfedges n.halfedges) c.halfedges count
  -- the work buffer reads zero over H and is unchanged beyond
  pub work_is : o.work ≡ cleared c.halfedges work
