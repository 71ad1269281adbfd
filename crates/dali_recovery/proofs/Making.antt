-- A record of a transaction, made again or left out.
use Rattle.std.proofs.Common.{◌≡◌, ℕ, Bool, true, false, List, Option, Some, None, refl, ap, sym, subst, ◌∙◌}
use Rattle.std.specs.Prelude.{not, ◌↔◌, Err, IsErrOf}
use Rattle.std.proofs.lemmas.Bool.{both_ways, false_from_ne_true, not-true, not-false}
use Rattle.dali_geometry.specs.Sizes.{Sizes}
use Rattle.dali_record.specs.declared.records.Record.{Record}
use Rattle.dali_record.specs.Epochs.{separates}
use Rattle.dali_resume.specs.Resumed.{is_left_out}
use Rattle.dali_resume.specs.Tests.{Known, allows, known_next, may_follow}
use Rattle.dali_redo.specs.Taint.Following.{JudgedIn, judgement, scanned}
use Rattle.dali_redo.specs.declared.taint.taint.Taint.{Taint}
use Rattle.dali_redo.specs.declared.taint.taint.Judgement.{Judgement}
use Rattle.dali_redo.specs.declared.taint.taint.Judgement.TheVariants.{Keep, Drop}
use Rattle.dali_redo.specs.Following.{Redoes}
use Rattle.dali_redo.specs.Redoing.{Redoing, Knows, breaks, is_tested, told}
use Rattle.dali_redo.specs.Steps.{Applies}
use Rattle.dali_redo.specs.declared.error.RedoError.{RedoError}
use Rattle.dali_redo.specs.declared.error.RedoError.TheVariants.{Misfit as RedoMisfit, OutOfMemory as RedoMemory}
use Rattle.dali_redo.proofs.Follows.{applies_on, skips_on}
use Rattle.dali_redo.proofs.OnePass.{one_pass_keeps}
use Rattle.dali_redo.proofs.Told.{tests_rules}
use Rattle.dali_recovery.specs.Errors.{refused_as}
use Rattle.dali_recovery.specs.Standing.{IsAt, JudgedBy, Makes, MayBy, Refuses, assumed_by, undamaged}
use Rattle.dali_recovery.specs.declared.error.RecoveryError.TheVariants.{Misfit, OutOfMemory}
use Rattle.dali_recovery.specs.declared.scan.Scan.{Scan}
use Rattle.dali_recovery.proofs.Passing.{may_not, may_sound}
use Rattle.dali_recovery.proofs.Records.{is_quiet}

module _ (a : Redoing) (o : Option Scan) (m : ℕ) (r : Record) (tested : is_tested r ≡ true) where
  rule : (s : Sizes) (n : ℕ) (base : List (List ℕ)) (p : ℕ) (k : Known) → IsAt s a o m base p k → breaks a.sizes k r ≡ not (allows s n k r)
  rule s n base p k w = ap (λ z. breaks z k r) w.sizes ∙ tests_rules s n k r tested

  pub may_tested : ((k : Known) → Knows a k → breaks a.sizes k r ≡ false) → MayBy true a o m r
  may_tested fits s n base p k w = may_sound s n k r w.sound (not-false (allows s n k r) (sym (rule s n base p k w) ∙ fits k w.redoes.knows))

  pub misfit_tested : ((k : Known) → Knows a k → breaks a.sizes k r ≡ true) → MayBy false a o m r
  misfit_tested breaks_it s n base p k w = may_not s n k r (not-true (allows s n k r) (sym (rule s n base p k w) ∙ breaks_it k w.redoes.knows))

-- ---- without a scan
module _ (a b : Redoing) (m : ℕ) (r : Record) (tested : is_tested r ≡ true) where
  pub makes_plain : ((k : Known) → Knows a k → breaks a.sizes k r ≡ true → ⊥) → Applies a b r → Makes a None m r b None
  makes_plain fits applied s n base p k w =
      let may = may_tested a None m r tested (λ h q. false_from_ne_true (breaks a.sizes h r) (fits h q)) s n base p k w in (
        may,
        record {
          sizes = applied.sizes ∙ w.sizes;
          redoes = applies_on s n base a b (undamaged p) k r w.redoes applied may (is_quiet r tested).inside (one_pass_keeps (undamaged p) k r refl);
          follows = tt;
        },
        refl,
      )

  pub refuses_plain : (e : RedoError) → ((k : Known) → Knows a k → (IsErrOf {T = Unit {0}} (Err e) RedoMisfit ↔ (breaks a.sizes k r ≡ true))) → b ≡ a → Refuses a None m r (refused_as e) b None
  refuses_plain RedoMisfit misfit same = (misfit_tested a None m r tested (λ k w. (misfit k w).0 refl), same, refl)
  refuses_plain RedoMemory misfit same = (
    may_tested a None m r tested (λ k w. false_from_ne_true (breaks a.sizes k r) (λ h. let bad : IsErrOf {T = Unit {0}} (Err RedoMemory) RedoMisfit = (misfit k w).1 h in absurd (cc))),
    λ none. (same, refl),
  )

pub makes_none : (a b : Redoing) (o : Option Scan) (m : ℕ) (r : Record) → o ≡ None → is_tested r ≡ true → ((k : Known) → Knows a k → breaks a.sizes k r ≡ true → ⊥) → Applies a b r → Makes a o m r b o
makes_none a b o m r e tested fits applied = subst (λ q. Makes a q m r b q) (sym e) (makes_plain a b m r tested fits applied)

pub refuses_none : (a b : Redoing) (o : Option Scan) (m : ℕ) (r : Record) (e : RedoError) → o ≡ None → is_tested r ≡ true
    → ((k : Known) → Knows a k → (IsErrOf {T = Unit {0}} (Err e) RedoMisfit ↔ (breaks a.sizes k r ≡ true))) → b ≡ a → Refuses a o m r (refused_as e) b o
refuses_none a b o m r e none tested misfit same = subst (λ q. Refuses a q m r (refused_as e) b q) (sym none) (refuses_plain a b m r tested e misfit same)

-- ---- within a scan
-- no misfit is told of a record that was tested
pub only_memory : (a : Redoing) (r : Record) (e : RedoError) → ((k : Known) → Knows a k → breaks a.sizes k r ≡ false) → ((k : Known) → Knows a k → (IsErrOf {T = Unit {0}} (Err e) RedoMisfit ↔ (breaks a.sizes k r ≡ true)))
    → refused_as e ≡ OutOfMemory
only_memory a r RedoMisfit fits misfit = absurd (both_ways (breaks a.sizes (told a) r) (fits (told a) (record { next = refl; statuses = λ t. refl })) ((misfit (told a) (record { next = refl; statuses = λ t. refl })).0 refl))
only_memory a r RedoMemory fits misfit = refl

carried : (s : Sizes) (n : ℕ) (base : List (List ℕ)) (a b : Redoing) (p : ℕ) (k : Known) (r : Record) (z : Scan) (out : Bool) (j : Judgement) → Redoes base a (assumed_by (Some z) p) k
    → may_follow s n k r ≡ true → separates r ≡ false → is_left_out (assumed_by (Some z) p) (scanned (assumed_by (Some z) p) k) r ≡ out → j ≡ judgement out → JudgedBy j a b r
    → (b.sizes ≡ a.sizes) × Redoes base b (assumed_by (Some z) p) (known_next k r)
carried s n base a b p k r z true Drop f may inside e is g = (g.sizes, skips_on s n base a b (assumed_by (Some z) p) k r f g may inside e)
carried s n base a b p k r z false Keep f may inside e is g = (g.sizes, applies_on s n base a b (assumed_by (Some z) p) k r f g may inside e)
carried s n base a b p k r z true Keep f may inside e is g = absurd (let bad : Keep ≡ Drop = is in cc)
carried s n base a b p k r z false Drop f may inside e is g = absurd (let bad : Drop ≡ Keep = is in cc)

pub makes_scanned : (a b : Redoing) (z : Scan) (t : Taint) (m : ℕ) (r : Record) (j : Judgement) → is_tested r ≡ true → ((k : Known) → Knows a k → breaks a.sizes k r ≡ false)
    → JudgedIn z.taint m r j t → JudgedBy j a b r → Makes a (Some z) m r b (Some (record z { taint = t }))
makes_scanned a b z t m r j tested fits judged done s n base p k w =
    let may = may_tested a (Some z) m r tested fits s n base p k w in
    let inside = (is_quiet r tested).inside in
    let told_so = judged s n (assumed_by (Some z) p) k w.follows w.number may inside in
    let made = carried s n base a b p k r z (is_left_out (assumed_by (Some z) p) (scanned (assumed_by (Some z) p) k) r) j w.redoes may inside refl told_so.0 done in
    (may, record { sizes = made.0 ∙ w.sizes; redoes = made.1; follows = told_so.1 }, (refl, refl))

pub wants_scanned : (a b : Redoing) (z y : Scan) (m : ℕ) (r : Record) → is_tested r ≡ true → ((k : Known) → Knows a k → breaks a.sizes k r ≡ false) → Refuses a (Some z) m r OutOfMemory b (Some y)
wants_scanned a b z y m r tested fits = (may_tested a (Some z) m r tested fits, λ none. let bad : Some z ≡ None = none in absurd (cc))

pub refuses_scanned : (a b : Redoing) (z y : Scan) (m : ℕ) (r : Record) → is_tested r ≡ true → ((k : Known) → Knows a k → breaks a.sizes k r ≡ true) → b ≡ a → y ≡ z → Refuses a (Some z) m r Misfit b (Some y)
refuses_scanned a b z y m r tested breaks_it same also = (misfit_tested a (Some z) m r tested breaks_it, same, ap (λ v. Some v) also)
