-- An audit behind a settlement: what its passes tell of the copies, and its end.
use Rattle.std.proofs.Common.{◌≡◌, ℕ, ◌<◌, ◌≤◌, Bool, true, false, List, [], ◌∷◌, ◌++◌, length, Some, refl, ap, sym, subst, ◌∙◌, ⊎_elim, arith}
use Rattle.std.specs.Prelude.{◌==◌, ◌&&◌, ◌||◌, ◌⊎◌, not, if◌then◌else◌, slice_get}
use Rattle.std.specs.Option.{option_map_or}
use Rattle.std.proofs.lemmas.Bool.{eqb-true, or_cases as or_either, or_parts, eq-eqb}
use Rattle.std.specs.List.{list_any}
use Rattle.dali_lists.proofs.Lists.{get_push}
use Rattle.dali_lists.proofs.Tests.{not_both_ways}
use Rattle.dali_geometry.specs.Sizes.{Sizes}
use Rattle.dali_geometry.specs.Places.{regions}
use Rattle.dali_record.specs.declared.records.Record.TheVariants.{AuditClean}
use Rattle.dali_record.proofs.Batches.{number_is_length}
use Rattle.dali_region.specs.State.{RegionState}
use Rattle.dali_runs.specs.Passes.{Pass, is_pass_of, is_find_of, has_passed, has_found, audits_with}
use Rattle.dali_runs.specs.Courses.{Step, AuditBegins, AuditEnds, Passes, pass_now}
use Rattle.dali_crash.specs.Checkpoints.{Head, Does, Point, target, pass_copy, passes_region, copies_after, answers_none, IsPointStep}
use Rattle.dali_checkpoint.specs.Running.{AreCopied, IsPassedAt, PassesTell, IsCertifiedAt}
use Rattle.dali_checkpoint.proofs.Stays.{Stays, passed_on, same_target}

any_push : (f : Pass → Bool) (ps : List Pass) (p : Pass) → list_any f (ps ++ p ∷ []) ≡ (list_any f ps || f p)
any_push f [] p = by_test (f p)
  where
    by_test : (b : Bool) → (b || false) ≡ b
    by_test true = refl
    by_test false = refl
any_push f (q ∷ ps) p = by_test (f q) (any_push f ps p)
  where
    by_test : (b : Bool) → list_any f (ps ++ p ∷ []) ≡ (list_any f ps || f p) → (b || list_any f (ps ++ p ∷ [])) ≡ ((b || list_any f ps) || f p)
    by_test true e = refl
    by_test false e = e

and_not : (a b : Bool) → a ≡ true → (a && not b) ≡ false → b ≡ true
and_not true true e f = refl
and_not true false e f = absurd (cc)
and_not false b e f = absurd (cc)

-- an audit whose passes are as they were
same_passes : (p q : Point) (b : ℕ) → Stays p q → q.audits b ≡ p.audits b → PassesTell p b → PassesTell q b
same_passes p q b stay same tell r l passed found =
    passed_on p q r stay (tell r (subst (λ (z : Sizes). r < regions z) stay.sizes l) (ap (λ ps. has_passed ps r) (sym same) ∙ passed) (ap (λ ps. has_found ps r) (sym same) ∙ found))

-- one that passes a region
module _ (p q : Point) (h : Head) (n b r : ℕ) (g : RegionState) (stay : Stays p q) (at : slice_get p.core.regions r ≡ Some g)
    (copies : q.copies ≡ copies_after p.core (Passes b r) p.copies) (all : AreCopied p h n (regions p.core.system.sizes)) where
  passed_now : r < regions p.core.system.sizes → (g.stray == 0) ≡ true → IsPassedAt q r
  passed_now l none =
      let was = all r l in
      record {
        copy = record was.copy { passed = was.copy.passed || passes_region p.core (Passes b r) r };
        there = ap (λ side. q.copies side r) (same_target p q stay.current) ∙ (ap (λ c. c (target p) r) copies ∙ ap (pass_copy (passes_region p.core (Passes b r) r)) was.there);
        passed = or_last was.copy.passed (passes_region p.core (Passes b r) r) (ap (λ o. (r == r) && answers_none o) at ∙ (ap (λ x. x && (g.stray == 0)) (eq-eqb r r refl) ∙ none));
      }
    where
      or_last : (a c : Bool) → c ≡ true → (a || c) ≡ true
      or_last true c e = refl
      or_last false c e = e

  pass_tells : q.audits b ≡ p.audits b ++ pass_now p.core r → PassesTell p b → PassesTell q b
  pass_tells more tell i l passed found = ⊎_elim
      (λ old. passed_on p q i stay (tell i within old none.0))
      (λ new. let same : r ≡ i = eqb-true r i new in subst (IsPassedAt q) same (passed_now (subst (λ k. k < regions p.core.system.sizes) (sym same) within) (and_not (r == i) (g.stray == 0) new none.1)))
      (or_either (has_passed (p.audits b) i) (r == i) (sym (any_push (is_pass_of i) (p.audits b) (record { region = r; answer = g.stray })) ∙ (ap (λ ps. has_passed ps i) (sym now) ∙ passed)))
    where
      within : i < regions p.core.system.sizes
      within = subst (λ (z : Sizes). i < regions z) stay.sizes l

      now : q.audits b ≡ p.audits b ++ record { region = r; answer = g.stray } ∷ []
      now = more ∙ ap (λ o. p.audits b ++ option_map_or (λ (x : RegionState). record { region = r; answer = x.stray } ∷ []) o []) at

      none : (has_found (p.audits b) i ≡ false) × (((r == i) && not (g.stray == 0)) ≡ false)
      none = or_parts (has_found (p.audits b) i) ((r == i) && not (g.stray == 0)) (sym (any_push (is_find_of i) (p.audits b) (record { region = r; answer = g.stray })) ∙ (ap (λ ps. has_found ps i) (sym now) ∙ found))

-- ---- each step
pub audits_at : (a b : ℕ) (old new : ℕ → List Pass) (ps : List Pass) → new ≡ audits_with old a ps → (t : Bool) → (b == a) ≡ t → new b ≡ (if t then ps else old b)
audits_at a b old new ps e t f = ap (λ z. z b) e ∙ ap (λ c. if c then ps else old b) f

pub passes_go_on : (p q : Point) (x : Step) (h : Head) (n b : ℕ) → IsPointStep p (Does x) q → Stays p q → AreCopied p h n (regions p.core.system.sizes) → PassesTell p b → PassesTell q b
passes_go_on p q AuditBegins h n b s stay all tell = by_test (b == p.core.system.records) refl
  where
    by_test : (t : Bool) → (b == p.core.system.records) ≡ t → PassesTell q b
    by_test true e = λ r l passed found. absurd (not_both_ways (ap (λ ps. has_passed ps r) (sym (audits_at p.core.system.records b p.audits q.audits [] s.1.1 true e)) ∙ passed) refl)
    by_test false e = same_passes p q b stay (audits_at p.core.system.records b p.audits q.audits [] s.1.1 false e) tell
passes_go_on p q (Passes a r) h n b s stay all tell = by_test (b == a) refl
  where
    by_test : (t : Bool) → (b == a) ≡ t → PassesTell q b
    by_test true e =
        let same : b ≡ a = eqb-true b a e in
        pass_tells p q h n b r s.1.0.0 stay s.1.0.1 (subst (λ z. q.copies ≡ copies_after p.core (Passes z r) p.copies) (sym same) (ap (λ (z : Point). z.copies) s.2)) all
        (audits_at a b p.audits q.audits (p.audits a ++ pass_now p.core r) s.1.1.1 true e ∙ ap (λ z. p.audits z ++ pass_now p.core r) (sym same)) tell
    by_test false e = same_passes p q b stay (audits_at a b p.audits q.audits (p.audits a ++ pass_now p.core r) s.1.1.1 false e) tell
passes_go_on p q (AuditEnds a found) h n b s stay all tell = same_passes p q b stay (ap (λ z. z b) s.1.1.1) tell
passes_go_on p q _ h n b s stay all tell = same_passes p q b stay (ap (λ z. z b) s.1.1) tell

-- ---- its begin and its end
pub none_passed : (p : Point) (b : ℕ) → p.audits b ≡ [] → PassesTell p b
none_passed p b e r l passed found = absurd (not_both_ways (ap (λ ps. has_passed ps r) (sym e) ∙ passed) refl)

pub begins_telling : (p q : Point) → IsPointStep p (Does AuditBegins) q → PassesTell q p.core.system.records
begins_telling p q s = none_passed q p.core.system.records (audits_at p.core.system.records p.core.system.records p.audits q.audits [] s.1.1 true (eq-eqb p.core.system.records p.core.system.records refl))

pub ends_clean : (p q : Point) (n b : ℕ) → IsPointStep p (Does (AuditEnds b [])) q → Stays p q → n ≤ b → PassesTell p b → IsCertifiedAt q n b
ends_clean p q n b s stay le tell = record {
  behind = le;
  end = length p.log;
  clean = ap (λ L. slice_get L (length p.log)) s.1.0.1.0 ∙ get_push p.log (AuditClean b);
  ends = omega (arith, s.1.0.0.auditing.within, number_is_length p.log);
  passed = λ r l. let i = subst (λ (z : Sizes). r < regions z) stay.sizes l in passed_on p q r stay (tell r i (s.1.1.0.passed r i) (sym (s.1.1.0.named r i)));
}

pub certified_on : (p q : Point) (n b : ℕ) → Stays p q → IsCertifiedAt p n b → IsCertifiedAt q n b
certified_on p q n b stay is = record {
  behind = is.behind;
  end = is.end;
  clean = stay.log is.end (AuditClean b) is.clean;
  ends = is.ends;
  passed = λ r l. passed_on p q r stay (is.passed r (subst (λ (z : Sizes). r < regions z) stay.sizes l));
}
