-- The calls of an audit are steps, and the findings go with them.
use Rattle.std.proofs.Common.{◌≡◌, ◌≢◌, ◌==◌, refl, ℕ, ◌+◌, ◌<◌, ◌^◌, Bool, true, false, not, ◌&&◌, ◌||◌, if◌then◌else◌, ◌⊎◌, inl, inr, List, [], ◌∷◌, ◌++◌, Some, None, length, ap, ◌∙◌, sym, arith}
use Rattle.std.specs.Prelude.{slice_get, slice_set}
use Rattle.std.specs.Option.{option_map_or}
use Rattle.std.proofs.lemmas.Bool.{eq-eqb, ne_eqb}
use Rattle.std.proofs.lemmas.List.Folds.{list_any-append}
use Rattle.dali_lists.proofs.Lists.{set_cases, get_within as found}
use Rattle.dali_geometry.specs.Places.{regions}
use Rattle.dali_record.specs.Damage.{has}
use Rattle.dali_region.specs.State.{RegionState}
use Rattle.dali_runs.specs.Audits.{IsAuditing, MayLogEnd}
use Rattle.dali_runs.specs.Passes.{Pass, is_pass_of, is_find_of, has_passed, has_found, IsVerdict}
use Rattle.dali_runs.specs.Courses.{Moment, IsStepAt, AuditEnds, Passes, pass_now}
use Rattle.dali_audit.specs.declared.audit.Finding.{Finding}
use Rattle.dali_audit.specs.declared.audit.Finding.TheVariants.{Waiting, Clean, Damaged}
use Rattle.dali_audit.specs.Findings.{is_passed, is_damaged, finding_of, damaged, AllPassed}
use Rattle.dali_audit.specs.Stepped.{AreFindings, behind_pass, behind_end}
use Rattle.dali_audit.proofs.Collected.{end_is_spelled, numbers_below, has_number}

-- what one pass more says of a region
passed_more : (ps : List Pass) (r n q : ℕ) → has_passed (ps ++ record { region = r; answer = n } ∷ []) q ≡ (has_passed ps q || (r == q))
passed_more ps r n q = list_any-append (is_pass_of q) ps (record { region = r; answer = n } ∷ []) ∙ ap (λ b. has_passed ps q || b) (or_none (r == q))
  where
    or_none : (b : Bool) → (b || false) ≡ b
    or_none true = refl
    or_none false = refl

found_more : (ps : List Pass) (r n q : ℕ) → has_found (ps ++ record { region = r; answer = n } ∷ []) q ≡ (has_found ps q || is_find_of q (record { region = r; answer = n }))
found_more ps r n q = list_any-append (is_find_of q) ps (record { region = r; answer = n } ∷ []) ∙ ap (λ b. has_found ps q || b) (or_none (is_find_of q (record { region = r; answer = n })))
  where
    or_none : (b : Bool) → (b || false) ≡ b
    or_none true = refl
    or_none false = refl

-- the findings go with the passes
goes_with : (ps : List Pass) (fs : List Finding) (r n : ℕ) → AreFindings ps fs → slice_get fs r ≡ Some Waiting → AreFindings (ps ++ record { region = r; answer = n } ∷ []) (slice_set fs r (finding_of n))
goes_with ps fs r n are waits = record {
  passed = λ q f is. passed_more ps r n q ∙ by_passed q f (set_cases fs r (finding_of n) q f is);
  found = λ q f is. found_more ps r n q ∙ by_found q f (set_cases fs r (finding_of n) q f is);
}
  where
    here_passed : (b : Bool) → is_passed (if b then Clean else Damaged) ≡ true
    here_passed true = refl
    here_passed false = refl

    here_found : (b : Bool) → (false || (true && not b)) ≡ is_damaged (if b then Clean else Damaged)
    here_found true = refl
    here_found false = refl

    by_passed : (q : ℕ) (f : Finding) → ((q ≡ r) × (f ≡ finding_of n)) ⊎ ((r ≢ q) × (slice_get fs q ≡ Some f)) → (has_passed ps q || (r == q)) ≡ is_passed f
    by_passed q f (inl same) = let e : (r == q) ≡ true = eq-eqb r q (sym same.0) in rw (same.1, are.passed q Waiting (rw same.0 waits), e) (sym (here_passed (n == 0)))
    by_passed q f (inr other) = let e : (r == q) ≡ false = ne_eqb r q other.0 in rw (e, are.passed q f other.1) (or_none (is_passed f))
      where
        or_none : (b : Bool) → (b || false) ≡ b
        or_none true = refl
        or_none false = refl

    by_found : (q : ℕ) (f : Finding) → ((q ≡ r) × (f ≡ finding_of n)) ⊎ ((r ≢ q) × (slice_get fs q ≡ Some f)) → (has_found ps q || is_find_of q (record { region = r; answer = n })) ≡ is_damaged f
    by_found q f (inl same) = let e : (r == q) ≡ true = eq-eqb r q (sym same.0) in rw (same.1, are.found q Waiting (rw same.0 waits), e) (here_found (n == 0))
    by_found q f (inr other) = let e : (r == q) ≡ false = ne_eqb r q other.0 in rw (e, are.found q f other.1) (or_none (is_damaged f))
      where
        or_none : (b : Bool) → (b || false) ≡ b
        or_none true = refl
        or_none false = refl

-- the pass that the region now gives
now_is : (m : Moment) (r : ℕ) (g : RegionState) → slice_get m.core.regions r ≡ Some g → pass_now m.core r ≡ record { region = r; answer = g.stray } ∷ []
now_is m r g e = ap (λ o. option_map_or (λ (h : RegionState). record { region = r; answer = h.stray } ∷ []) o []) e

pub pass_is_step :
    (m : Moment) (b r : ℕ) (fs : List Finding) (g : RegionState) → IsAuditing m.core.system.sizes m.log b → AreFindings (m.audits b) fs
    → slice_get fs r ≡ Some Waiting → slice_get m.core.regions r ≡ Some g
    → IsStepAt m (Passes b r) (behind_pass m b r g) × AreFindings (m.audits b ++ pass_now m.core r) (slice_set fs r (finding_of g.stray))
pass_is_step m b r fs g auditing are waits is =
    (((g, is, (refl, refl)), (record { auditing = auditing; unpassed = are.passed r Waiting waits }, refl)), rw (now_is m r g is) (goes_with (m.audits b) fs r g.stray are waits))

pub end_is_step :
    (m : Moment) (b : ℕ) (fs : List Finding) → IsAuditing m.core.system.sizes m.log b → AreFindings (m.audits b) fs
    → b < 2 ^ 64 → length fs ≡ regions m.core.system.sizes → length fs < 2 ^ 32 → AllPassed fs → m.core.system.stop ≡ None
    → IsStepAt m (AuditEnds b (damaged fs)) (behind_end m b (damaged fs))
end_is_step m b fs auditing are number whole few all runs =
    ((may, (refl, refl)), (verdict, refl))
  where
    may : MayLogEnd m.log m.core b (damaged fs)
    may = record { runs = runs; auditing = auditing; spelled = end_is_spelled b fs number few; numbers = numbers_below (regions m.core.system.sizes) fs (omega (arith, whole)) }

    verdict : IsVerdict m.core.system.sizes (m.audits b) (damaged fs)
    verdict = record {
      passed = λ r lt. let f = found fs r (omega (arith, whole, lt)) in are.passed r f.0 f.1 ∙ all r f.0 f.1;
      named = λ r lt. let f = found fs r (omega (arith, whole, lt)) in let z : r ≡ 0 + r = omega arith in ap (has (damaged fs)) z ∙ has_number 0 r f.0 fs f.1 ∙ sym (are.found r f.0 f.1);
    }
