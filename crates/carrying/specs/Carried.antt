-- How a collapse carries prop_vert: e is the edge that goes, p its partner and h a half-edge about the start of e. The prop of h follows the
-- edge's face, else the partner's. p has been emptied by then, and keeps its prop.
use Rattle.std.specs.Prelude.{Bool, cond, List, ℕ, ◌/◌, ℤ}
use Rattle.numbers.specs.Next.{next}
use Rattle.rows.specs.Halfedges.{prop, prop_of, set_column}
use Rattle.rows.specs.Triples.{reference, same_face}

unfoldable pub carried : Bool → List ℤ → ℕ → ℕ → ℕ → List ℤ → List ℤ
carried props references e p h rows =
    cond props
    (cond (same_face (reference references (h / 3)) (reference references (e / 3))) (set_column prop h (prop_of rows (next e)) rows)
    (cond (same_face (reference references (h / 3)) (reference references (p / 3))) (set_column prop h (prop_of rows p) rows)
    rows))
    rows
