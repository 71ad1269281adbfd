-- What an audit has found so far.
--     Audited                  what contracts see of an audit
--     Judged                   what they see of a verdict
--     finding_if right         what a pass finds, by whether the words had the parity of the codeword
--     finding_of n             what it finds where the words differ from the codeword by the mask n
--     damaged_from n fs        the numbers of the damaged ones, where these findings are those of the regions from n on
--     damaged fs               the damaged regions, ascending
--     AllPassed fs             each region was passed
use Rattle.std.specs.Prelude.{◌≡◌, ◌==◌, ℕ, suc, Bool, true, false, if◌then◌else◌, List, [], ◌∷◌, Some, slice_get}
use Rattle.dali_audit.specs.declared.audit.Finding.{Finding}
use Rattle.dali_audit.specs.declared.audit.Finding.TheVariants.{Waiting, Clean, Damaged}

pub record Audited : Type 0 where
  -- the number of the record with which it began
  pub begin : ℕ
  -- of each region
  pub findings : List Finding

pub record Judged : Type 0 where
  pub begin : ℕ
  pub failing : List ℕ

abbrev pub finding_if : Bool → Finding
finding_if right = if right then Clean else Damaged

abbrev pub finding_of : ℕ → Finding
finding_of n = finding_if (n == 0)

abbrev pub damaged_from : ℕ → List Finding → List ℕ
damaged_from n [] = []
damaged_from n (Damaged ∷ fs) = n ∷ damaged_from (suc n) fs
damaged_from n (Waiting ∷ fs) = damaged_from (suc n) fs
damaged_from n (Clean ∷ fs) = damaged_from (suc n) fs

abbrev pub damaged : List Finding → List ℕ
damaged fs = damaged_from 0 fs

abbrev pub is_passed : Finding → Bool
is_passed Waiting = false
is_passed Clean = true
is_passed Damaged = true

abbrev pub is_damaged : Finding → Bool
is_damaged Waiting = false
is_damaged Clean = false
is_damaged Damaged = true

abbrev pub AllPassed : List Finding → Type 0
AllPassed fs = (r : ℕ) (f : Finding) → slice_get fs r ≡ Some f → is_passed f ≡ true
