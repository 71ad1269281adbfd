-- Each record that a step logs is one that its transaction's state allows.
use Rattle.std.proofs.Common.{◌≡◌, ℕ, true, List, [], ◌∷◌, ◌++◌, length, Option, Some, None, refl, ap, sym, subst, ◌∙◌, arith}
use Rattle.std.specs.Prelude.{slice_get}
use Rattle.std.proofs.lemmas.List.{length_push}
use Rattle.dali_lists.proofs.Lists.{get_push}
use Rattle.dali_lists.proofs.Options.{some_same}
use Rattle.dali_record.specs.declared.records.Record.{Record}
use Rattle.dali_record.specs.declared.records.Record.TheVariants.{Format, Begin, Forward, Done, Commit, Ended, Solo, AuditBegin, Back}
use Rattle.dali_att.specs.declared.state.State.{State}
use Rattle.dali_att.specs.declared.state.State.TheVariants.{Live, Dead, Cleaning, Committed}
use Rattle.dali_runs.specs.State.{CoreState, state_in, state_of}
use Rattle.dali_runs.specs.Steps.{audit_record}
use Rattle.dali_runs.specs.Keeps.{may_log_in}
use Rattle.dali_runs.specs.Courses.{Begins, Operates, TakesBack, Frees, Answers, Commits, Ends, AuditBegins, AuditEnds, Locks, Refuses, OnRegion, Passes, Claims, Recovers, Takes, Faults}
use Rattle.dali_runs.specs.Wholes.{owner_of, logs_as, WhoLogs}
use Rattle.dali_runs.proofs.WholeSteps.{none_yet}

same_last : (L : List Record) (x r : Record) → L ++ x ∷ [] ≡ L ++ r ∷ [] → x ≡ r
same_last L x r e = some_same (sym (get_push L x) ∙ (ap (λ l. slice_get l (length L)) e ∙ get_push L r))

no_more : (L : List Record) (r : Record) → L ≡ L ++ r ∷ [] → ⊥
no_more L r e = omega (arith, ap length e, length_push L r)

-- a record of a transaction that its state allows
allowed_as : (o : Option State) (x : Record) → may_log_in o x ≡ true → logs_as o x ≡ true
allowed_as None x e = absurd (cc)
allowed_as (Some Live) (Forward t b) e = refl
allowed_as (Some Live) (Done t k a) e = refl
allowed_as (Some Live) (Commit t) e = refl
allowed_as (Some Live) (Ended t) e = refl
allowed_as (Some Live) (Back t b) e = refl
allowed_as (Some Live) _ e = absurd (cc)
allowed_as (Some (Dead l)) (Format i h) e = absurd (cc)
allowed_as (Some (Dead l)) _ e = absurd (cc)
allowed_as (Some (Cleaning l)) (Ended t) e = refl
allowed_as (Some (Cleaning l)) (Back t b) e = refl
allowed_as (Some (Cleaning l)) _ e = absurd (cc)
allowed_as (Some Committed) (Ended t) e = refl
allowed_as (Some Committed) (Solo t p b) e = refl
allowed_as (Some Committed) _ e = absurd (cc)

-- the record x of u that a step logs
logged_as : (L M : List Record) (c : CoreState) (x r : Record) (u t : ℕ) → M ≡ L ++ x ∷ [] → M ≡ L ++ r ∷ [] → owner_of x ≡ Some u → owner_of r ≡ Some t → logs_as (state_of c.system u) x ≡ true → logs_as (state_of c.system t) r ≡ true
logged_as L M c x r u t is new own whose allowed =
    let same : x ≡ r = same_last L x r (sym is ∙ new) in
    let by : u ≡ t = some_same (sym own ∙ (ap owner_of same ∙ whose)) in
    subst (λ z. logs_as (state_of c.system t) z ≡ true) same (subst (λ v. logs_as (state_of c.system v) x ≡ true) by allowed)

-- one of nobody
nobodys : (L M : List Record) (x r : Record) (t : ℕ) → M ≡ L ++ x ∷ [] → M ≡ L ++ r ∷ [] → owner_of x ≡ None → owner_of r ≡ Some t → ⊥
nobodys L M x r t is new own whose = let both : None ≡ Some t = sym own ∙ (ap owner_of (same_last L x r (sym is ∙ new)) ∙ whose) in cc

audits_own : (b : ℕ) (found : List ℕ) → owner_of (audit_record b found) ≡ None
audits_own b [] = refl
audits_own b (r ∷ rs) = refl

begins_as : (o : Option State) (t : ℕ) → o ≡ None → logs_as o (Begin t) ≡ true
begins_as o t e = rw e refl

pub who_logs : WhoLogs
who_logs bases L M c d Begins r t run s new whose = logged_as L M c (Begin c.system.next) r c.system.next t s.1.0 new refl whose (begins_as (state_of c.system c.system.next) c.system.next (ap state_in (none_yet bases L c run)))
who_logs bases L M c d (Operates u b) r t run s new whose = logged_as L M c (Forward u b) r u t s.3.0 new refl whose (allowed_as (state_of c.system u) (Forward u b) s.2.by)
who_logs bases L M c d (TakesBack u b) r t run s new whose = logged_as L M c (Back u b) r u t s.2.0 new refl whose (allowed_as (state_of c.system u) (Back u b) s.1.by)
who_logs bases L M c d (Frees p b) r t run s new whose = logged_as L M c (Solo c.system.next p b) r p t s.2.0 new refl whose (allowed_as (state_of c.system p) (Solo c.system.next p b) s.1.by)
who_logs bases L M c d (Answers u k a) r t run s new whose = logged_as L M c (Done u k a) r u t s.3.0 new refl whose (allowed_as (state_of c.system u) (Done u k a) s.2.by)
who_logs bases L M c d (Commits u) r t run s new whose = logged_as L M c (Commit u) r u t s.2.0 new refl whose (allowed_as (state_of c.system u) (Commit u) s.1.by)
who_logs bases L M c d (Ends u) r t run s new whose = logged_as L M c (Ended u) r u t s.2.0 new refl whose (allowed_as (state_of c.system u) (Ended u) s.1.0.by)
who_logs bases L M c d AuditBegins r t run s new whose = absurd (nobodys L M AuditBegin r t s.2.0 new refl whose)
who_logs bases L M c d (AuditEnds b found) r t run s new whose = absurd (nobodys L M (audit_record b found) r t s.1.0 new (audits_own b found) whose)
who_logs bases L M c d (Locks u k m) r t run s new whose = absurd (no_more L r (sym s.2.0 ∙ new))
who_logs bases L M c d (Refuses u k m h) r t run s new whose = absurd (no_more L r (sym s.2.0 ∙ new))
who_logs bases L M c d (OnRegion q x) r t run s new whose = absurd (no_more L r (sym s.3.0 ∙ new))
who_logs bases L M c d (Passes b q) r t run s new whose = absurd (no_more L r (sym s.2.0 ∙ new))
who_logs bases L M c d (Claims u) r t run s new whose = absurd (no_more L r (sym s.2.0 ∙ new))
who_logs bases L M c d (Recovers q) r t run s new whose = absurd (no_more L r (sym s.3.0 ∙ new))
who_logs bases L M c d Takes r t run s new whose = absurd (no_more L r (sym s.0 ∙ new))
who_logs bases L M c d (Faults n) r t run s new whose = absurd (no_more L r (sym s.2.0 ∙ new))
who_logs bases L M c d _ r t run s new whose = absurd (no_more L r (sym s.1.0 ∙ new))
