-- Behind an abort and behind a clean-up the records are as before.
use Rattle.std.proofs.Common.{◌≡◌, ℕ, Bool, true, false, ◌||◌, List, [], ◌∷◌, ◌++◌, Some, None, refl, ap, sym, subst, ◌∙◌}
use Rattle.std.specs.Prelude.{◌==◌}
use Rattle.std.specs.List.{list_any, list_all}
use Rattle.std.proofs.lemmas.Bool.Decides.{Decides-eqb}
use Rattle.std.proofs.lemmas.List.{append-nil}
use Rattle.std.proofs.lemmas.List.Elements.{filter_map-append}
use Rattle.std.proofs.lemmas.List.Folds.{list_any-append}
use Rattle.std.proofs.lemmas.Bool.{or_parts, and_parts}
use Rattle.dali_record.specs.declared.records.Record.{Record}
use Rattle.dali_record.specs.declared.records.Record.TheVariants.{Begin, Forward, Done, Ended, Solo, AuditBegin, Back}
use Rattle.dali_record.specs.Log.{commit_by, committed}
use Rattle.dali_record.specs.Damage.{has}
use Rattle.dali_record.specs.Epochs.{last_epoch}
use Rattle.dali_record.proofs.Pushes.{committed_push}
use Rattle.dali_att.specs.declared.state.State.{State}
use Rattle.dali_att.specs.declared.state.State.TheVariants.{Live, Dead}
use Rattle.dali_history.specs.Recovered.{base_of}
use Rattle.dali_history.proofs.HeadlineLemmas.Running.{front_of}
use Rattle.dali_runs.specs.State.{TxnRow, CoreState, row_of, state_of}
use Rattle.dali_runs.specs.Run.{RunsOn, no_image, is_committed}
use Rattle.dali_runs.specs.Steps.{audit_record}
use Rattle.dali_runs.specs.Regions.{RegionStep, Latch, NoteReads, Update, TakeBack, Poke, Check, Die, Clean}
use Rattle.dali_runs.specs.Courses.{Step, Begins, Operates, TakesBack, Frees, Answers, Commits, Ends, AuditBegins, AuditEnds, Locks, Refuses, OnRegion, Passes, Claims, GivesBack as GivesTxnBack, Recovers, Takes, Faults, Moment, IsStep, IsCourse, RunsAt}
use Rattle.dali_runs.proofs.Courses.{bare_course_keeps}
use Rattle.dali_runs.proofs.QuietSteps.{row_with}
use Rattle.dali_runs.proofs.Touching.{join}
use Rattle.dali_runs.proofs.FactsLemmas.Commits.{committed_is_logged}
use Rattle.dali_crash.specs.Unpoked.{is_poke, pokes}
use Rattle.dali_crash.specs.Traces.{core_start}
use Rattle.dali_crash.proofs.Traces.{core_starts}
use Rattle.dali_during.specs.During.{image_of, IsTakenBack, CourseIsQuiet}
use Rattle.dali_during.proofs.UnpokedCourses.{unpoked_courses}
use Rattle.dali_calls.specs.Single.Single.{is_end, Look, look_behind, LeadsFrom}
use Rattle.dali_clean.specs.Steps.{is_own_change, is_own_step}
use Rattle.dali_clean.specs.Cleaned.{core, IsEnded as IsCleanedUp}
use Rattle.dali_clean.proofs.Steps.{own_steps}
use Rattle.dali_transactions.specs.Courses.Back.{ComesQuietly, GivesBack, AbortGivesBack, bases_behind, CleanUpGivesBack}
use Rattle.dali_transactions.proofs.CoursesLemmas.Making.{abort_makes}

-- ---- steps that commit nothing
abbrev is_commit : Step → Bool
is_commit (Commits t) = true
is_commit x = false

none_more : (L : List Record) (r : Record) (M : List Record) → committed (r ∷ []) ≡ [] → M ≡ L ++ r ∷ [] → committed M ≡ committed L
none_more L r M none e = ap committed e ∙ (committed_push L r ∙ (ap (λ l. committed L ++ l) none ∙ append-nil (committed L)))

audit_commits : (b : ℕ) (found : List ℕ) → committed (audit_record b found ∷ []) ≡ []
audit_commits b [] = refl
audit_commits b (r ∷ rs) = refl

step_commits : (L M : List Record) (c d : CoreState) (x : Step) → is_commit x ≡ false → IsStep L c x M d → committed M ≡ committed L
step_commits L M c d Begins e s = none_more L (Begin c.system.next) M refl s.1.0
step_commits L M c d (Operates t b) e s = none_more L (Forward t b) M refl s.3.0
step_commits L M c d (TakesBack t b) e s = none_more L (Back t b) M refl s.2.0
step_commits L M c d (Frees p b) e s = none_more L (Solo c.system.next p b) M refl s.2.0
step_commits L M c d (Answers t k a) e s = none_more L (Done t k a) M refl s.3.0
step_commits L M c d (Commits t) e s = absurd cc
step_commits L M c d (Ends t) e s = none_more L (Ended t) M refl s.2.0
step_commits L M c d AuditBegins e s = none_more L AuditBegin M refl s.2.0
step_commits L M c d (AuditEnds b found) e s = none_more L (audit_record b found) M (audit_commits b found) s.1.0
step_commits L M c d (Locks t k m) e s = ap committed s.2.0
step_commits L M c d (Refuses t k m h) e s = ap committed s.2.0
step_commits L M c d (OnRegion r x) e s = ap committed s.3.0
step_commits L M c d (Passes b r) e s = ap committed s.2.0
step_commits L M c d (Claims t) e s = ap committed s.2.0
step_commits L M c d (Recovers r) e s = ap committed s.3.0
step_commits L M c d Takes e s = ap committed s.0
step_commits L M c d (Faults n) e s = ap committed s.2.0
step_commits L M c d _ e s = ap committed s.1.0

course_commits : (m n : Moment) (xs : List Step) → list_any is_commit xs ≡ false → IsCourse m xs n → committed n.log ≡ committed m.log
course_commits m n [] e course = ap (λ (k : Moment). committed k.log) (sym course)
course_commits m n (x ∷ xs) e course =
    let both = or_parts (is_commit x) (list_any is_commit xs) e in
    course_commits course.0 n xs both.1 course.2 ∙ step_commits m.log course.0.log m.core course.0.core x both.0 course.1.0

-- ---- behind the end
has_right : (xs ys : List ℕ) (t : ℕ) → has (xs ++ ys) t ≡ false → has ys t ≡ false
has_right [] ys t e = e
has_right (x ∷ xs) ys t e = has_right xs ys t (or_parts (x == t) (has (xs ++ ys) t) e).1

in_last : (M : List Record) (t : ℕ) → has (committed M) t ≡ false → has (committed (last_epoch M).records) t ≡ false
in_last M t e =
    let front = front_of M in
    has_right (committed front.0) (committed (last_epoch M).records) t (ap (λ l. has l t) (sym (filter_map-append commit_by front.0 (last_epoch M).records) ∙ ap committed (sym front.1.splits)) ∙ e)

behind : (n m : Moment) (xs : List Step) (M : List Record) (t : ℕ) (st : State) → ComesQuietly n → IsCourse n xs m → list_any pokes xs ≡ false → list_any is_commit xs ≡ false → m.log ≡ M ++ Ended t ∷ []
    → state_of n.core.system t ≡ Some st → is_committed st ≡ false → GivesBack M m.core t
behind n m xs M t st q course quiet none log state runs =
    subst (λ K. IsTakenBack m.core.system.sizes (image_of m.core) (base_of m.core.system.sizes K) (last_epoch M).records t) log (all.ended M t log un)
  where
    all : CourseIsQuiet q.log m
    all = unpoked_courses q.log q.rules q.limit q.vault q.history q.rules_are q.none q.fits q.runs q.flushed (q.steps ++ xs) m
        (list_any-append pokes q.steps xs ∙ ap (λ b. b || list_any pokes xs) q.quiet ∙ quiet)
        (join (core_start q.log q.rules q.limit q.vault) n m q.steps xs q.course course)

    there : RunsAt (bases_behind q.log) q.log no_image n
    there = bare_course_keeps (bases_behind q.log) q.log (core_start q.log q.rules q.limit q.vault) n q.steps
        (core_starts q.log q.rules q.limit q.vault no_image q.history q.rules_are q.none q.fits q.runs q.flushed) q.course

    run : RunsOn (bases_behind q.log) n.log n.core
    run = subst (λ K. RunsOn (bases_behind q.log) K n.core) (sym there.log) there.run.runs

    row : (r : TxnRow) × (row_of n.core.system t ≡ Some r) × (r.state ≡ st)
    row = row_with (row_of n.core.system t) st state

    before : has (committed n.log) t ≡ false
    before = sym (committed_is_logged (bases_behind q.log) n.log n.core run t row.0 row.1) ∙ (ap is_committed row.2 ∙ runs)

    un : has (committed (last_epoch M).records) t ≡ false
    un = in_last M t (ap (λ l. has l t) (sym (none_more M (Ended t) m.log refl log) ∙ course_commits n m xs none course) ∙ before)

-- ---- an abort
end_commits : (x : Step) → is_end x ≡ false → is_commit x ≡ false
end_commits (Commits t) e = absurd cc
end_commits _ e = refl

leads_commit : (precheck : Bool) (t : ℕ) (o : Look) (L M : List Record) (c d : CoreState) (xs : List Step) → LeadsFrom precheck t o L c xs M d → list_any is_commit xs ≡ false
leads_commit precheck t o L M c d [] leads = refl
leads_commit precheck t o L M c d (x ∷ xs) leads = ap (λ b. b || list_any is_commit xs) (end_commits x leads.2.2) ∙ leads_commit precheck t (look_behind c x o) leads.0 M leads.1 d xs leads.3

pub abort_gives_back : AbortGivesBack
abort_gives_back n t d q lives e =
    let makes = abort_makes n.log n.core d t n.audits e in
    behind n (record { log = e.log ++ Ended t ∷ []; core = d; audits = n.audits }) (e.steps ++ Ends t ∷ []) e.log t Live q makes.0 makes.1
    (list_any-append is_commit e.steps (Ends t ∷ []) ∙ ap (λ b. b || list_any is_commit (Ends t ∷ [])) (leads_commit false t None n.log e.log n.core e.mid e.steps e.leads)) refl lives refl

-- ---- a clean-up
own_is_quiet : (t : ℕ) (x : RegionStep) → is_own_change t x ≡ true → is_poke x ≡ false
own_is_quiet t (Latch u) e = refl
own_is_quiet t (NoteReads mask) e = refl
own_is_quiet t (Update word value) e = refl
own_is_quiet t TakeBack e = refl
own_is_quiet t (Poke word mask) e = absurd cc
own_is_quiet t Check e = absurd cc
own_is_quiet t Die e = absurd cc
own_is_quiet t (Clean side) e = absurd cc

own_pokes : (t : ℕ) (x : Step) → is_own_step t x ≡ true → (pokes x ≡ false) × (is_commit x ≡ false)
own_pokes t (TakesBack u b) e = (refl, refl)
own_pokes t (Ends u) e = (refl, refl)
own_pokes t (Claims u) e = (refl, refl)
own_pokes t (Recovers r) e = (refl, refl)
own_pokes t (GivesTxnBack u o) e = (refl, refl)
own_pokes t (OnRegion r x) e = (own_is_quiet t x e, refl)
own_pokes t x e = absurd cc

all_pokes : (t : ℕ) (xs : List Step) → list_all (is_own_step t) xs ≡ true → (list_any pokes xs ≡ false) × (list_any is_commit xs ≡ false)
all_pokes t [] e = (refl, refl)
all_pokes t (x ∷ xs) e =
    let both = and_parts (is_own_step t x) (list_all (is_own_step t) xs) e in
    let here = own_pokes t x both.0 in
    let rest = all_pokes t xs both.1 in
    (ap (λ b. b || list_any pokes xs) here.0 ∙ rest.0, ap (λ b. b || list_any is_commit xs) here.1 ∙ rest.1)

pub clean_up_gives_back : CleanUpGivesBack
clean_up_gives_back n t rs z q whole dead ends =
    let there : RunsAt (bases_behind q.log) q.log no_image n =
    bare_course_keeps (bases_behind q.log) q.log (core_start q.log q.rules q.limit q.vault) n q.steps
    (core_starts q.log q.rules q.limit q.vault no_image q.history q.rules_are q.none q.fits q.runs q.flushed) q.course in
    let e : IsCleanedUp (bases_behind q.log) q.log n t rs z = ends (bases_behind q.log) q.log n.log n.core.vault n.audits (record { run = there; whole = whole }) in
    let quiet = all_pokes t e.steps (own_steps n.core.system t (Ends t) e.steps e.by ((Decides-eqb t t).1 refl)) in
    (e, behind n (record { log = e.log ++ Ended t ∷ []; core = core rs z n.core.vault; audits = n.audits }) e.steps e.log t (Dead dead.0) q e.course quiet.0 quiet.1 refl dead.1 refl)
