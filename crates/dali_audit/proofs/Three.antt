-- An audit of three regions has passed each.
use Rattle.std.proofs.Common.{◌≡◌, refl, ℕ, zero, suc, ◌==◌, Bool, true, false, [], ◌∷◌, if◌then◌else◌, sym}
use Rattle.dali_lists.proofs.Options.{some_same}
use Rattle.dali_audit.specs.declared.audit.Finding.TheVariants.{Clean, Damaged}
use Rattle.dali_audit.specs.Findings.{finding_of, is_passed, AllPassed}

pub found_is_passed : (n : ℕ) → is_passed (finding_of n) ≡ true
found_is_passed n = by_test (n == 0)
  where
    by_test : (b : Bool) → is_passed (if b then Clean else Damaged) ≡ true
    by_test true = refl
    by_test false = refl

pub all_three : (x y z : ℕ) → AllPassed (finding_of x ∷ finding_of y ∷ finding_of z ∷ [])
all_three x y z zero f e = rw (sym (some_same e)) (found_is_passed x)
all_three x y z (suc zero) f e = rw (sym (some_same e)) (found_is_passed y)
all_three x y z (suc (suc zero)) f e = rw (sym (some_same e)) (found_is_passed z)
all_three x y z (suc (suc (suc n))) f e = cc
