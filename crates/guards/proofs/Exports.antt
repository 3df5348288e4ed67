-- What the library exports: each contract is one equation between the result, with the later contents of what is lent to be written,
-- and a definition of the counts, the numbers and the arrays at entry. So two results that it allows agree, whatever is exported.
use mathlib.Core.Path.{◌≡◌, sym, ◌∙◌}

pub exports_agree : {A : Type 0} {definition first second : A} → first ≡ definition → second ≡ definition → first ≡ second
exports_agree p q = p ∙ sym q
