-- Findings of which each was passed, by a test of the list.
use Rattle.std.proofs.Common.{◌≡◌, zero, suc, true, List, [], ◌∷◌, Some, refl, subst}
use Rattle.std.specs.Prelude.{slice_get}
use Rattle.std.specs.List.{list_all}
use Rattle.std.proofs.lemmas.Bool.{and_parts, and_from}
use Rattle.dali_audit.specs.declared.audit.Finding.{Finding}
use Rattle.dali_audit.specs.Findings.{is_passed, AllPassed}

pub all_from : (fs : List Finding) → list_all is_passed fs ≡ true → AllPassed fs
all_from [] all r f at = absurd (cc)
all_from (g ∷ fs) all zero f at =
    let same : g ≡ f = cc in
    subst (λ x. is_passed x ≡ true) same (and_parts (is_passed g) (list_all is_passed fs) all).0
all_from (g ∷ fs) all (suc r) f at = all_from fs (and_parts (is_passed g) (list_all is_passed fs) all).1 r f at

pub all_to : (fs : List Finding) → AllPassed fs → list_all is_passed fs ≡ true
all_to [] all = refl
all_to (g ∷ fs) all = and_from (is_passed g) (list_all is_passed fs) (all 0 g refl) (all_to fs (λ r f at. all (suc r) f at))
