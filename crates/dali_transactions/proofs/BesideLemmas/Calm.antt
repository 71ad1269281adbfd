-- What steps leave that call no store, take no frame, and are none of a checkpoint.
use Rattle.std.proofs.Common.{◌≡◌, true, ◌&&◌, List, [], ◌∷◌, refl, ap, sym, ◌∙◌}
use Rattle.std.specs.List.{list_all}
use Rattle.std.proofs.lemmas.Bool.{and_parts}
use Rattle.dali_record.specs.declared.records.Record.{Record}
use Rattle.dali_runs.specs.State.{CoreState}
use Rattle.dali_runs.specs.Courses.{Step, Begins, Operates, TakesBack, Frees, Answers, Commits, Ends, AuditBegins, AuditEnds, Locks, Refuses, OnRegion, Passes, Dies, Claims, GivesBack, Recovers, Stops, Takes, Moment, IsStep, IsCourse}
use Rattle.dali_core.specs.Steps.Courses.{is_quiet}
use Rattle.dali_transactions.specs.Beside.Went.{is_calm}

pub calm_quiet : (x : Step) → is_calm x ≡ true → is_quiet x ≡ true
calm_quiet Takes e = absurd cc
calm_quiet x e = e

pub calm_steps : (xs : List Step) → list_all is_calm xs ≡ true → list_all is_quiet xs ≡ true
calm_steps [] e = refl
calm_steps (x ∷ xs) e = let both = and_parts (is_calm x) (list_all is_calm xs) e in ap (λ b. b && list_all is_quiet xs) (calm_quiet x both.0) ∙ calm_steps xs both.1

by_core : (c d e : CoreState) → d ≡ e → e.system.taken ≡ c.system.taken → d.system.taken ≡ c.system.taken
by_core c d e is same = ap (λ (k : CoreState). k.system.taken) is ∙ same

-- how many records were taken
taken_step : (L M : List Record) (c d : CoreState) (x : Step) → is_calm x ≡ true → IsStep L c x M d → d.system.taken ≡ c.system.taken
taken_step L M c d Begins e s = by_core c d _ s.1.1 refl
taken_step L M c d (Operates t b) e s = by_core c d _ s.3.1 refl
taken_step L M c d (TakesBack t b) e s = by_core c d _ s.2.1 refl
taken_step L M c d (Frees t b) e s = by_core c d _ s.2.1 refl
taken_step L M c d (Answers t k a) e s = by_core c d _ s.3.1 refl
taken_step L M c d (Commits t) e s = by_core c d _ s.2.1 refl
taken_step L M c d (Ends t) e s = by_core c d _ s.2.1 refl
taken_step L M c d AuditBegins e s = by_core c d _ s.2.1 refl
taken_step L M c d (AuditEnds b found) e s = by_core c d _ s.1.1 refl
taken_step L M c d (Locks t k m) e s = by_core c d _ s.2.1 refl
taken_step L M c d (Refuses t k m h) e s = by_core c d _ s.2.1 refl
taken_step L M c d (OnRegion r x) e s = by_core c d _ s.3.1 refl
taken_step L M c d (Passes b r) e s = by_core c d _ s.2.1 refl
taken_step L M c d (Dies t o) e s = by_core c d _ s.1.1 refl
taken_step L M c d (Claims t) e s = by_core c d _ s.2.1 refl
taken_step L M c d (GivesBack t o) e s = by_core c d _ s.1.1 refl
taken_step L M c d (Recovers r) e s = by_core c d _ s.3.1 refl
taken_step L M c d Stops e s = by_core c d _ s.1.1 refl
taken_step L M c d x e s = absurd cc

pub taken_course : (m n : Moment) (xs : List Step) → list_all is_calm xs ≡ true → IsCourse m xs n → n.core.system.taken ≡ m.core.system.taken
taken_course m n [] e course = ap (λ (k : Moment). k.core.system.taken) (sym course)
taken_course m n (x ∷ xs) e course =
    let both = and_parts (is_calm x) (list_all is_calm xs) e in
    taken_course course.0 n xs both.1 course.2 ∙ taken_step m.log course.0.log m.core course.0.core x both.0 course.1.0
