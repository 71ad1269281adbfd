-- The steps of a transaction's own make a course.
use Rattle.std.proofs.Common.{◌≡◌, ℕ, Bool, false, ◌||◌, List, [], ◌∷◌, ◌++◌, Option, Some, None, IsSomeAnd, refl, ap, sym, subst, ◌∙◌, slice_get}
use Rattle.std.specs.List.{list_any}
use Rattle.dali_record.specs.declared.records.Record.{Record}
use Rattle.dali_record.specs.declared.records.Record.TheVariants.{Ended}
use Rattle.dali_region.specs.State.{RegionState}
use Rattle.dali_runs.specs.State.{CoreState}
use Rattle.dali_runs.specs.Passes.{Audits}
use Rattle.dali_runs.specs.Regions.{RegionStep, Poke}
use Rattle.dali_runs.specs.Courses.{Step, Answers, Ends, AuditBegins, AuditEnds, OnRegion, Passes, AuditsBy, IsStep}
use Rattle.dali_crash.specs.Unpoked.{is_poke, pokes}
use Rattle.dali_calls.specs.Operating.{IsOwn}
use Rattle.dali_calls.specs.Single.Single.{IsOwnStep, Look, look_behind, LeadsFrom}
use Rattle.dali_calls.specs.Single.Ending.{IsBackOf, HasEnded}
use Rattle.dali_calls.specs.Single.Settling.{IsSoloOf}
use Rattle.dali_transactions.specs.Courses.Alone.{moment, Makes, OwnStepsAreACourse, AnswerEndsACourse, AbortEndsACourse, SettlingEndsACourse}

own_change : (t : ℕ) (x : RegionStep) (g : RegionState) → IsOwn t x g → is_poke x ≡ false
own_change t (Poke word mask) g own = absurd own
own_change t _ g own = refl

own_change_at : (t : ℕ) (x : RegionStep) (o : Option RegionState) → IsSomeAnd o (IsOwn t x) → is_poke x ≡ false
own_change_at t x None own = absurd own
own_change_at t x (Some g) own = own_change t x g own

own_step : (t : ℕ) (L : List Record) (c : CoreState) (x : Step) (a : Audits) → IsOwnStep t c x → AuditsBy a a L c x × (pokes x ≡ false)
own_step t L c (OnRegion r x) a own = (refl, own_change_at t x (slice_get c.regions r) own)
own_step t L c AuditBegins a own = absurd own
own_step t L c (AuditEnds b found) a own = absurd own
own_step t L c (Passes b r) a own = absurd own
own_step t L c _ a own = (refl, refl)

-- these steps, and one more
makes_on : (precheck : Bool) (t : ℕ) (o : Look) (L K M : List Record) (c e d : CoreState) (xs : List Step) (x : Step) (a : Audits) → LeadsFrom precheck t o L c xs K e → IsStep K e x M d → AuditsBy a a K e x → pokes x ≡ false
    → Makes (moment L c a) (xs ++ x ∷ []) (moment M d a)
makes_on precheck t o L K M c e d [] x a leads step audits quiet =
    subst (λ (k : List Record). Makes (moment k c a) (x ∷ []) (moment M d a)) (sym leads.0)
    (subst (λ (k : CoreState). Makes (moment K k a) (x ∷ []) (moment M d a)) (sym leads.1)
    ((moment M d a, (step, audits), refl), ap (λ (b : Bool). b || false) quiet))
makes_on precheck t o L K M c e d (y ∷ xs) x a leads step audits quiet =
    let own = own_step t L c y a leads.2.1 in
    let rest = makes_on precheck t (look_behind c y o) leads.0 K M leads.1 e d xs x a leads.3 step audits quiet in
    ((moment leads.0 leads.1 a, (leads.2.0, own.0), rest.0), ap (λ (b : Bool). b || list_any pokes (xs ++ x ∷ [])) own.1 ∙ rest.1)

steps_make : (precheck : Bool) (t : ℕ) (o : Look) (L M : List Record) (c d : CoreState) (xs : List Step) (a : Audits) → LeadsFrom precheck t o L c xs M d → Makes (moment L c a) xs (moment M d a)
steps_make precheck t o L M c d [] a leads = (ap (λ (k : List Record). moment k c a) leads.0 ∙ ap (λ (k : CoreState). moment M k a) leads.1, refl)
steps_make precheck t o L M c d (y ∷ xs) a leads =
    let own = own_step t L c y a leads.2.1 in
    let rest = steps_make precheck t (look_behind c y o) leads.0 M leads.1 d xs a leads.3 in
    ((moment leads.0 leads.1 a, (leads.2.0, own.0), rest.0), ap (λ (b : Bool). b || list_any pokes xs) own.1 ∙ rest.1)

pub own_steps_make : OwnStepsAreACourse
own_steps_make precheck t L M c d xs a leads = steps_make precheck t None L M c d xs a leads

pub answer_makes : AnswerEndsACourse
answer_makes precheck L c d t call told a e = makes_on precheck t None L e.log _ c e.mid d e.steps (Answers t call told) a e.leads e.answers refl refl

pub end_makes : (own : Record → Type 0) (L : List Record) (c d : CoreState) (t : ℕ) (a : Audits) (e : HasEnded own L c t d) → Makes (moment L c a) (e.steps ++ Ends t ∷ []) (moment (e.log ++ Ended t ∷ []) d a)
end_makes own L c d t a e = makes_on false t None L e.log _ c e.mid d e.steps (Ends t) a e.leads e.ends refl refl

pub abort_makes : AbortEndsACourse
abort_makes L c d t a e = end_makes (IsBackOf t) L c d t a e

pub settling_makes : SettlingEndsACourse
settling_makes L c d t a e = end_makes (IsSoloOf t) L c d t a e
