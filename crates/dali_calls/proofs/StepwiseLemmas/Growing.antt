-- What steps add to the log is what their system has logged.
use Rattle.std.proofs.Common.{◌≡◌, ℕ, Bool, List, [], ◌∷◌, ◌++◌, None, refl, sym, ap, ◌∙◌, append_assoc}
use Rattle.std.proofs.lemmas.List.{append-nil}
use Rattle.dali_record.specs.declared.records.Record.{Record}
use Rattle.dali_record.specs.declared.records.Record.TheVariants.{Begin, Forward, Done, Commit, Ended, Solo, AuditBegin, Back}
use Rattle.dali_runs.specs.State.{CoreState}
use Rattle.dali_runs.specs.Steps.{audit_record}
use Rattle.dali_runs.specs.Courses.{Step, Begins, Operates, TakesBack, Frees, Answers, Commits, Ends, AuditBegins, AuditEnds, Locks, Refuses, OnRegion, Passes, Claims, Recovers, Takes, Faults}
use Rattle.dali_calls.specs.Single.Single.{Look, look_behind, LeadsFrom}
use Rattle.dali_calls.specs.Stepwise.Beside.{Grows, StepGrows, LedGrows}

one_more : (L M : List Record) (c d e : CoreState) (x : Record) → M ≡ L ++ x ∷ [] → d ≡ e → e.system.since ≡ c.system.since ++ x ∷ [] → Grows L c M d
one_more L M c d e x log now since = (x ∷ [], log, ap (λ (k : CoreState). k.system.since) now ∙ since)

no_more : (L M : List Record) (c d e : CoreState) → M ≡ L → d ≡ e → e.system.since ≡ c.system.since → Grows L c M d
no_more L M c d e log now since = ([], log ∙ sym (append-nil L), ap (λ (k : CoreState). k.system.since) now ∙ (since ∙ sym (append-nil c.system.since)))

pub step_grows : StepGrows
step_grows L M c d Begins s = one_more L M c d _ (Begin c.system.next) s.1.0 s.1.1 refl
step_grows L M c d (Operates t b) s = one_more L M c d _ (Forward t b) s.3.0 s.3.1 refl
step_grows L M c d (TakesBack t b) s = one_more L M c d _ (Back t b) s.2.0 s.2.1 refl
step_grows L M c d (Frees p b) s = one_more L M c d _ (Solo c.system.next p b) s.2.0 s.2.1 refl
step_grows L M c d (Answers t k a) s = one_more L M c d _ (Done t k a) s.3.0 s.3.1 refl
step_grows L M c d (Commits t) s = one_more L M c d _ (Commit t) s.2.0 s.2.1 refl
step_grows L M c d (Ends t) s = one_more L M c d _ (Ended t) s.2.0 s.2.1 refl
step_grows L M c d AuditBegins s = one_more L M c d _ AuditBegin s.2.0 s.2.1 refl
step_grows L M c d (AuditEnds b found) s = one_more L M c d _ (audit_record b found) s.1.0 s.1.1 refl
step_grows L M c d (Locks t k m) s = no_more L M c d _ s.2.0 s.2.1 refl
step_grows L M c d (Refuses t k m h) s = no_more L M c d _ s.2.0 s.2.1 refl
step_grows L M c d (OnRegion r x) s = no_more L M c d _ s.3.0 s.3.1 refl
step_grows L M c d (Passes b r) s = no_more L M c d _ s.2.0 s.2.1 refl
step_grows L M c d (Claims t) s = no_more L M c d _ s.2.0 s.2.1 refl
step_grows L M c d (Recovers r) s = no_more L M c d _ s.3.0 s.3.1 refl
step_grows L M c d Takes s = no_more L M c d _ s.0 s.1 refl
step_grows L M c d (Faults n) s = no_more L M c d _ s.2.0 s.2.1 refl
step_grows L M c d _ s = no_more L M c d _ s.1.0 s.1.1 refl

led_from : (precheck : Bool) (t : ℕ) (o : Look) (L M : List Record) (c d : CoreState) (xs : List Step) → LeadsFrom precheck t o L c xs M d → Grows L c M d
led_from precheck t o L M c d [] l = no_more L M c d c (sym l.0) (sym l.1) refl
led_from precheck t o L M c d (x ∷ xs) l =
    let one = step_grows L l.0 c l.1 x l.2.0 in
    let rest = led_from precheck t (look_behind c x o) l.0 M l.1 d xs l.3 in (
      one.0 ++ rest.0,
      rest.1 ∙ (ap (λ (zs : List Record). zs ++ rest.0) one.1 ∙ append_assoc L one.0 rest.0),
      rest.2 ∙ (ap (λ (zs : List Record). zs ++ rest.0) one.2 ∙ append_assoc c.system.since one.0 rest.0),
    )

pub led_grows : LedGrows
led_grows precheck t L M c d xs l = led_from precheck t None L M c d xs l
