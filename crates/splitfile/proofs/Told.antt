-- The report in the words of the format; two results that the contract of `split_file` allows agree; the bytes that it says it put are in
-- the buffer; and the front of a file decides the report of the whole.
use mathlib.Core.Path.{◌≡◌, sym, ap, ◌∙◌}
use mathlib.Core.List.{List}
use Prim.Native.Nat.{ℕ, ◌≤◌}
use native.Mathlib.Omega.{arith}
use lib.ListN.{length, take, drop, length-append}
use Rattle.meshfile.specs.Steps.{Found, Means}
use Rattle.meshfile.specs.Told.{limits_of}
use Rattle.meshfile.proofs.Told.{found_exactly}
use Rattle.meshfile.proofs.Front.{front_found}
use Rattle.splitfile.specs.Printed.{no_halfedges, no_positions, text_found, report_of, printed}

-- whatever the file is, well formed, too large or bad at a line, the report is the report on that
pub report_told : (file : List ℕ) (f : Found) → Means (limits_of no_halfedges no_positions) file f → report_of file ≡ text_found f
unfolding report_of
report_told file f m = ap text_found ((found_exactly file no_halfedges no_positions f).1 m)

pub file_agree : (file buffer : List ℕ) (a b : ℕ × List ℕ) → a ≡ printed (report_of file) buffer → b ≡ printed (report_of file) buffer → a ≡ b
file_agree file buffer a b p q = p ∙ sym q

pub printed_within : (file buffer : List ℕ) {r : ℕ} {after : List ℕ} → (r, after) ≡ printed (report_of file) buffer → r ≤ length after
printed_within file buffer {r} {after} e =
    omega (
      arith,
      ap (λ (x : ℕ × List ℕ). x.0) e,
      ap (λ (x : ℕ × List ℕ). length x.1) e,
      length-append (report_of file) (drop (length (report_of file)) buffer),
    )

-- 65,536 bytes of a file are enough
pub front_enough : (file : List ℕ) (n : ℕ) → 65536 ≤ n → report_of (take n file) ≡ report_of file
unfolding report_of
front_enough file n long = ap text_found (front_found (limits_of no_halfedges no_positions) (omega arith) (omega arith) n long file)
