-- Each record keeps the counts' part.
use Rattle.std.proofs.Common.{◌≡◌, ℕ, ◌+◌, ◌≤◌, Bool, true, false, cond, List, [], ◌∷◌, ◌++◌, Some, refl, ap, sym, subst, ◌∙◌, ⊎_elim, arith}
use Rattle.std.specs.Prelude.{IsSome, is_some, ◌==◌, not}
use Rattle.std.proofs.lemmas.Bool.{eqb-true, or_cases}
use Rattle.std.proofs.lemmas.List.{length_push}
use Rattle.dali_lists.proofs.Numbers.{max_cases}
use Rattle.dali_lists.proofs.Options.{some_of}
use Rattle.dali_lists.proofs.Tests.{left_true}
use Rattle.dali_geometry.specs.Sizes.{Sizes}
use Rattle.dali_record.specs.declared.operations.Block.{Block}
use Rattle.dali_record.specs.declared.records.Record.{Record}
use Rattle.dali_record.specs.declared.records.Record.TheVariants.{Format, Begin, Forward, Done, Commit, Ended, Solo, AuditBegin, AuditClean, AuditFail, Restarted, Back}
use Rattle.dali_record.specs.Epochs.{separates, last_epoch, next_number, clean_place, clean_step}
use Rattle.dali_record.specs.Spelling.{record_length}
use Rattle.dali_record.specs.Legal.{Unbegun, Over, allowed, txn_state, txn_next, concerns, Rules, rules_state, rules_next, rules_step}
use Rattle.dali_record.proofs.Pushes.{txn_state_push, rules_state_push}
use Rattle.dali_runs.specs.Counts.Counts.{next_with}
use Rattle.dali_runs.proofs.CountsLemmas.Tallies.{if_kept, if_none, tells_step}
use Rattle.dali_runs.proofs.CountsLemmas.NewNumbers.{next_grows}
use Rattle.dali_runs.proofs.OneMore.{last_epoch-push, clean_place-push, CountRun-push}
use Rattle.dali_runs.specs.Parts.Counts.{EndsWithin, CountsLog}
use Rattle.dali_runs.proofs.PartsLemmas.Locks.{inside_of}

-- the number that a begin or a solo draws is the next one
begin_next : (s : Sizes) (g : Rules) (t : ℕ) → (g.count == 0) ≡ false → IsSome (rules_step s g (Begin t)) → (t == g.next) ≡ true
begin_next s g t some h = left_true (t == g.next) _ (if_kept _ _ (if_none g.failed _ (rw some at h)))

solo_next : (s : Sizes) (g : Rules) (n p : ℕ) (b : Block) → (g.count == 0) ≡ false → IsSome (rules_step s g (Solo n p b)) → (n == g.next) ≡ true
solo_next s g n p b some h = left_true (n == g.next) _ (if_kept _ _ (if_none g.failed _ (rw some at h)))

-- a number that wasn't given yet has no record but the one that draws it
concerned : (s : Sizes) (now : Rules) (x : Record) (t : ℕ) → separates x ≡ false → concerns t x ≡ true → IsSome (txn_next s t (Some Unbegun) x) → (now.count == 0) ≡ false × IsSome (rules_step s now x) → next_with x now.next ≤ t → ⊥
concerned s now (Begin u) t i e k rule above = absurd (omega (arith, eqb-true u t e, eqb-true u now.next (begin_next s now u rule.0 rule.1), above))
concerned s now (Forward u b) t i e k rule above = let k2 = rw e at k in absurd (cc)
concerned s now (Back u b) t i e k rule above = let k2 = rw e at k in absurd (cc)
concerned s now (Done u c a) t i e k rule above = let k2 = rw e at k in absurd (cc)
concerned s now (Commit u) t i e k rule above = let k2 = rw e at k in absurd (cc)
concerned s now (Ended u) t i e k rule above = let k2 = rw e at k in absurd (cc)
concerned s now (Solo n p b) t i e k rule above = ⊎_elim
    (λ f. absurd (omega (arith, eqb-true n t f, eqb-true n now.next (solo_next s now n p b rule.0 rule.1), above)))
    (λ f. by_test f (n == t) k)
    (or_cases (n == t) (p == t) e)
  where
    by_test : (p == t) ≡ true → (c : Bool) → IsSome (cond c (allowed (not (p == t)) (Some Over)) (allowed (not (p == t)) (Some Unbegun))) → ⊥
    by_test f true g = let g2 = rw f at g in absurd (cc)
    by_test f false g = let g2 = rw f at g in absurd (cc)
concerned s now AuditBegin t i e k rule above = absurd (cc)
concerned s now (AuditClean b) t i e k rule above = absurd (cc)
concerned s now (AuditFail b rs) t i e k rule above = absurd (cc)
concerned s now (Format n h) t i e k rule above = absurd (cc)
concerned s now (Restarted rs ds) t i e k rule above = absurd (cc)

cleans : (L : List Record) (x : Record) → EndsWithin L x → clean_place (last_epoch L) ≤ next_number (last_epoch L) → clean_step (clean_place (last_epoch L)) x ≤ next_number (last_epoch L)
cleans L (AuditClean b) w clean = max_cases (λ m. m ≤ next_number (last_epoch L)) (clean_place (last_epoch L)) b clean w
cleans L _ w clean = clean

pub counts_log : CountsLog
counts_log s L x y z run inside some may within records end next limit =
    CountRun-push s L x y run now (inside_of x inside) rule told.0 told.1 told.2
    (λ t h. unknown t h (concerns t x) refl)
    (omega (arith, told.2, next_grows x run.now.next))
    clean z records end next limit
  where
    behind : (g : Rules) × (rules_state s (L ++ x ∷ []) ≡ Some g)
    behind = some_of (rules_state s (L ++ x ∷ [])) some

    now : Rules
    now = behind.0

    rule : rules_next s (rules_state s L) x ≡ Some now
    rule = sym (rules_state_push s L x) ∙ behind.1

    step : rules_step s run.now x ≡ Some now
    step = sym (ap (λ o. rules_next s o x) run.rules) ∙ rule

    told : (now.count ≡ run.now.count + 1) × (now.weight ≡ run.now.weight + record_length x) × (now.next ≡ next_with x run.now.next)
    told = tells_step s run.now x now step

    unknown : (t : ℕ) → now.next ≤ t → (c : Bool) → concerns t x ≡ c → c ≡ false
    unknown t h false e = refl
    unknown t h true e =
        let fresh : txn_state s t L ≡ Some Unbegun = run.fresh t (omega (arith, h, told.2, next_grows x run.now.next)) in
        let allow : IsSome (txn_next s t (Some Unbegun) x) = subst (λ o. IsSome (txn_next s t o x)) fresh (rw (txn_state_push s t L x) at (may t e)) in
        absurd (concerned s run.now x t inside e allow (run.some, ap is_some step) (omega (arith, h, told.2)))

    clean : clean_place (last_epoch (L ++ x ∷ [])) ≤ next_number (last_epoch (L ++ x ∷ []))
    clean = rw (last_epoch-push L x (inside_of x inside), clean_place-push (last_epoch L) x) (omega (arith, cleans L x within run.clean, length_push (last_epoch L).records x))
