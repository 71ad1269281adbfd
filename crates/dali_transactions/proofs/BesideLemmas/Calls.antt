-- The calls of one client, from a point where the core stands.
use Rattle.std.proofs.Common.{inl, inr, ◌≡◌, ◌≤◌, ℕ, Bool, true, false, not, ◌&&◌, List, [], ◌∷◌, ◌++◌, Option, Some, None, IfSome, IsSomeAnd, refl, ap, sym, subst, ◌∙◌, arith, slice_get, slice_set, option_map, append_assoc}
use Rattle.std.proofs.lemmas.List.{append-nil}
use Rattle.std.specs.Prelude.{◌==◌}
use Rattle.std.specs.List.{AllByRecursion, list_all}
use Rattle.std.proofs.lemmas.Bool.Decides.{Decides-eqb}
use Rattle.std.proofs.lemmas.Bool.{and_parts}
use Rattle.std.proofs.lemmas.Option.{none-some}
use Rattle.dali_lists.proofs.Lists.{EachFrom}
use Rattle.dali_record.specs.declared.records.Record.{Record}
use Rattle.dali_record.specs.declared.records.Record.TheVariants.{Begin, Done}
use Rattle.dali_record.specs.Legal.{TxnState, Unbegun, txn_state}
use Rattle.dali_region.specs.declared.Hold.{Hold}
use Rattle.dali_region.specs.State.{RegionState, map_hold, touched, dead}
use Rattle.dali_locks.specs.declared.mode.LockAnswer.TheVariants.{Granted, Wait, Busy}
use Rattle.dali_att.specs.declared.state.State.{State}
use Rattle.dali_att.specs.declared.state.State.TheVariants.{Dead, Cleaning}
use Rattle.dali_store.specs.Store.{Files as Disk}
use Rattle.dali_store.specs.declared.store.Store.{Ghosts}
use Rattle.dali_runs.specs.State.{TxnRow, SystemState, CoreState, row_of, state_of, state_in, hold_in}
use Rattle.dali_runs.specs.Run.{IsRow, RunsOn}
use Rattle.dali_runs.specs.Steps.{begun, in_state}
use Rattle.dali_runs.specs.Wholes.{latched_in}
use Rattle.dali_runs.specs.Keeps.{IsFree}
use Rattle.dali_runs.specs.Regions.{RegionStep, Latch, NoteReads, Update, TakeBack, Clean}
use Rattle.dali_runs.specs.Courses.{Step, Begins, Operates, TakesBack, Frees, Answers, Ends, Locks, Refuses, OnRegion, Dies, Claims, GivesBack, Recovers, Checkpoints, Takes, Flushes, Faults, ReadFails, Moment, AuditsBy, IsStep, IsCourse}
use Rattle.dali_crash.specs.Checkpoints.{Point, moment_of}
use Rattle.dali_crash.specs.Traces.{Start, bases_of}
use Rattle.dali_core.specs.Vault.Vaulted.{Vaulted}
use Rattle.dali_runs.specs.Facts.Ends.{HasBegun}
use Rattle.dali_runs.proofs.FactsLemmas.Ends.{begin_follows, next_is_unbegun}
use Rattle.dali_calls.specs.Plans.{Planned, is_back, mode_of}
use Rattle.dali_calls.specs.Steps.{call_key}
use Rattle.dali_calls.specs.Operating.{IsOwn}
use Rattle.dali_calls.specs.Others.{is_apart, HoldStays}
use Rattle.dali_calls.proofs.Rows.{row_here, row_apart}
use Rattle.dali_calls.specs.Single.Stands.{core, IsAtRest, AtPlan}
use Rattle.dali_calls.specs.Single.Single.{MayCall, IsOwnStep, Look, look_behind, LeadsFrom, Leads}
use Rattle.dali_calls.proofs.SingleLemmas.Standing.{own_steps_stand}
use Rattle.dali_transactions.proofs.CoursesLemmas.Making.{own_steps_make, answer_makes}
use Rattle.dali_clean.specs.Undone.{IsReclaimed}
use Rattle.dali_clean.specs.Cleaned.{moment, AreDead}
use Rattle.dali_clean.specs.Others.{OthersStay}
use Rattle.dali_clean.proofs.Courses.{one, runs_of}
use Rattle.dali_clean.proofs.Others.{release_others}
use Rattle.dali_calls.specs.Stepwise.Beside.{Grows}
use Rattle.dali_calls.specs.Stepwise.Opened.{record_on}
use Rattle.dali_calls.specs.Stepwise.Stepwise.{LeadsOnce, DiesIn}
use Rattle.dali_calls.proofs.StepwiseLemmas.Waiting.{own_apart}
use Rattle.dali_calls.proofs.StepwiseLemmas.Growing.{led_grows}
use Rattle.dali_att.specs.Table.{with_state}
use Rattle.dali_runs.proofs.Touching.{join}
use Rattle.dali_transactions.specs.Stands.{StandsAt}
use Rattle.dali_transactions.specs.Ended.{HasCome}
use Rattle.dali_transactions.proofs.Walking.{is_change, is_of_end, all_append}
use Rattle.dali_transactions.proofs.Releasing.{hold_is_dead, dead_on, release_leads, release_of_end}
use Rattle.dali_transactions.proofs.Standing.{run_at, Arrived, arrived_of, come_of_end, arrive}
use Rattle.dali_transactions.proofs.Wholes.{core_course, places_told, whole_here, arrived_no_cleaner, IsNoCleaner}
use Rattle.dali_transactions.specs.Beside.Went.{is_calm, Went}
use Rattle.dali_transactions.specs.Beside.Calls.{IsOfEnd, IsLetGo, BeginGoes, AskGoes, OperateGoes, DieGoes, AnswerGoes, PerformGoes, ReleaseGoes, ReleaseTells}
use Rattle.dali_transactions.proofs.BesideLemmas.Going.{may_at, plan_at, dead_set, from_here, course_goes}
use Rattle.dali_transactions.proofs.BesideLemmas.Beside.{course_onward, left_be}

-- ---- steps of a transaction's own
own_calm_on : (t r : ℕ) (x : RegionStep) (g : RegionState) → IsOwn t x g → is_calm (OnRegion r x) ≡ true
own_calm_on t r (Clean side) g own = absurd own
own_calm_on t r _ g own = refl

own_calm_in : (t r : ℕ) (x : RegionStep) (o : Option RegionState) → IsSomeAnd o (IsOwn t x) → is_calm (OnRegion r x) ≡ true
own_calm_in t r x None own = absurd own
own_calm_in t r x (Some g) own = own_calm_on t r x g own

own_calm : (t : ℕ) (c : CoreState) (x : Step) → IsOwnStep t c x → is_calm x ≡ true
own_calm t c (OnRegion r x) own = own_calm_in t r x (slice_get c.regions r) own
own_calm t c (Checkpoints b) own = absurd own
own_calm t c Takes own = absurd own
own_calm t c Flushes own = absurd own
own_calm t c (Faults n) own = absurd own
own_calm t c (ReadFails n) own = absurd own
own_calm t c _ own = refl

leads_calm : (precheck : Bool) (t : ℕ) (o : Look) (L M : List Record) (c d : CoreState) (xs : List Step) → LeadsFrom precheck t o L c xs M d → list_all is_calm xs ≡ true
leads_calm precheck t o L M c d [] l = refl
leads_calm precheck t o L M c d (x ∷ xs) l = ap (λ b. b && list_all is_calm xs) (own_calm t c x l.2.1) ∙ leads_calm precheck t (look_behind c x o) l.0 M l.1 d xs l.3

leads_apart : (precheck : Bool) (t u : ℕ) (o : Look) (L M : List Record) (c d : CoreState) (xs : List Step) → (t == u) ≡ false → LeadsFrom precheck t o L c xs M d → list_all (is_apart u) xs ≡ true
leads_apart precheck t u o L M c d [] away l = refl
leads_apart precheck t u o L M c d (x ∷ xs) away l = ap (λ b. b && list_all (is_apart u) xs) (own_apart u t c x away l.2.1) ∙ leads_apart precheck t u (look_behind c x o) l.0 M l.1 d xs away l.3

one_more : (p : Step → Bool) (x : Step) → p x ≡ true → list_all p (x ∷ []) ≡ true
one_more p x e = ap (λ b. b && true) e

apart_not : (t u : ℕ) → (t == u) ≡ false → not (t == u) ≡ true
apart_not t u e = ap not e

dead_mapped : (o : Option Hold) → IfSome (map_hold (λ h. record h { dead = true }) o) (λ h. h.dead ≡ true)
dead_mapped None = tt
dead_mapped (Some h) = refl

-- ---- steps of an end
calm_change : (r : ℕ) (x : RegionStep) → is_change x ≡ true → is_calm (OnRegion r x) ≡ true
calm_change r (Latch t) e = refl
calm_change r (NoteReads mask) e = refl
calm_change r (Update word value) e = refl
calm_change r TakeBack e = refl
calm_change r x e = absurd cc

calm_one : (x : Step) → is_of_end x ≡ true → is_calm x ≡ true
calm_one (Operates t b) e = refl
calm_one (TakesBack t b) e = refl
calm_one (Frees t b) e = refl
calm_one (Ends t) e = refl
calm_one (Locks t k m) e = refl
calm_one (OnRegion r x) e = calm_change r x e
calm_one (Claims t) e = refl
calm_one (GivesBack t o) e = refl
calm_one (Recovers r) e = refl
calm_one x e = absurd cc

calm_apart : (xs : List Step) → list_all is_of_end xs ≡ true → list_all is_calm xs ≡ true
calm_apart [] e = refl
calm_apart (x ∷ xs) e = let both = and_parts (is_of_end x) (list_all is_of_end xs) e in ap (λ b. b && list_all is_calm xs) (calm_one x both.0) ∙ calm_apart xs both.1

module _ {V : Type 0} (means : Ghosts V) where
  behind_may : (t u : ℕ) (own : List Record) (s : Start) (B : List (List Record)) (p : Point) (gs hs : List RegionState) (z : SystemState) (v : Vaulted V) (w : Went means t own s B p gs hs z v)
      → MayCall (p.log ++ own) (core hs z p.core.vault) u → MayCall w.to.log w.to.core u
  behind_may t u own s B p gs hs z v w may = may_at (p.log ++ own) w.to.log (core hs z p.core.vault) w.to.core u w.log w.stands.at.system w.stands.at.regions may

  behind_plan : (t : ℕ) (plan : Planned) (own : List Record) (s : Start) (B : List (List Record)) (p : Point) (gs hs : List RegionState) (z : SystemState) (v : Vaulted V) (w : Went means t own s B p gs hs z v)
      → AtPlan (p.log ++ own) (core hs z p.core.vault) plan → AtPlan w.to.log w.to.core plan
  behind_plan t plan own s B p gs hs z v w at = plan_at (p.log ++ own) w.to.log (core hs z p.core.vault) w.to.core plan w.log w.stands.at.system w.stands.at.regions at

  -- steps that log these records
  pub led_goes : (precheck : Bool) (t : ℕ) (own : List Record) (s : Start) (B : List (List Record)) (p : Point) (gs hs : List RegionState) (y z : SystemState) (v : Vaulted V) (steps : List Step) → StandsAt means s B p gs y v
      → Leads precheck t p.log (core gs y p.core.vault) steps (p.log ++ own) (core hs z p.core.vault) → AreDead hs → Went means t own s B p gs hs z v
  led_goes precheck t own s B p gs hs y z v steps k leads dead =
      course_goes means t own s B p gs hs y z v p.audits steps k
      (leads_calm precheck t None p.log (p.log ++ own) (core gs y p.core.vault) (core hs z p.core.vault) steps leads)
      dead
      (from_here means s B p gs y v (moment hs z (p.log ++ own) p.core.vault p.audits) steps k (own_steps_make precheck t p.log (p.log ++ own) (core gs y p.core.vault) (core hs z p.core.vault) steps p.audits leads).0)
      (λ u away lives. leads_apart precheck t u None p.log (p.log ++ own) (core gs y p.core.vault) (core hs z p.core.vault) steps away leads)

  -- one step that logs these records, and leaves the regions
  step_goes : (t : ℕ) (own : List Record) (s : Start) (B : List (List Record)) (p : Point) (gs : List RegionState) (y z : SystemState) (v : Vaulted V) (x : Step) → StandsAt means s B p gs y v
      → IsStep p.log (core gs y p.core.vault) x (p.log ++ own) (core gs z p.core.vault) → AuditsBy p.audits p.audits p.log (core gs y p.core.vault) x → is_calm x ≡ true → ((u : ℕ) → (t == u) ≡ false → is_apart u x ≡ true)
      → Went means t own s B p gs gs z v
  step_goes t own s B p gs y z v x k step audits calm apart =
      course_goes means t own s B p gs gs y z v p.audits (x ∷ []) k (one_more is_calm x calm) k.dead
      (from_here means s B p gs y v (moment gs z (p.log ++ own) p.core.vault p.audits) (x ∷ []) k (one (moment gs y p.log p.core.vault p.audits) (moment gs z (p.log ++ own) p.core.vault p.audits) x (step, audits)))
      (λ u away lives. one_more (is_apart u) x (apart u away))

  -- no step
  stays_here : (t : ℕ) (s : Start) (B : List (List Record)) (p : Point) (gs : List RegionState) (y z : SystemState) (v : Vaulted V) → StandsAt means s B p gs y v → z ≡ y → Went means t [] s B p gs gs z v
  stays_here t s B p gs y z v k same =
      course_goes means t [] s B p gs gs y z v p.audits [] k refl k.dead
      (from_here means s B p gs y v (moment gs z (p.log ++ []) p.core.vault p.audits) [] k (ap (λ (x : SystemState). moment gs x p.log p.core.vault p.audits) (sym same) ∙ ap (λ (l : List Record). moment gs z l p.core.vault p.audits) (sym (append-nil p.log))))
      (λ u away lives. refl)

  runs_now : (s : Start) (B : List (List Record)) (p : Point) (gs : List RegionState) (y : SystemState) (v : Vaulted V) → StandsAt means s B p gs y v → RunsOn (bases_of s) p.log (core gs y p.core.vault)
  runs_now s B p gs y v k = runs_of (bases_of s) s.log (moment gs y p.log p.core.vault p.audits) (run_at means s B p gs y v k)

  -- ---- a begin
  pub begin_goes : BeginGoes means
  begin_goes s B p gs y v k room = (w, behind_may y.next y.next (Begin y.next ∷ []) s B p gs gs (begun y) v w may)
    where
      w : Went means y.next (Begin y.next ∷ []) s B p gs gs (begun y) v
      w = step_goes y.next (Begin y.next ∷ []) s B p gs y (begun y) v Begins k (room, (refl, refl)) refl refl (λ u away. refl)

      unbegun : txn_state y.sizes y.next p.log ≡ Some Unbegun
      unbegun = next_is_unbegun (bases_of s) p.log (core gs y p.core.vault) (runs_now s B p gs y v k)

      first : HasBegun y.sizes (p.log ++ Begin y.next ∷ []) y.next
      first = begin_follows y.sizes p.log y.next unbegun

      no_row : row_of y y.next ≡ None
      no_row = subst (λ (o : Option TxnState). IsRow o (row_of y y.next)) unbegun ((runs_now s B p gs y v k).table y.next)

      free : (r : ℕ) (h : Hold) → hold_in (slice_get gs r) ≡ Some h → (h.txn == y.next) ≡ false
      free r h held = by_test (h.txn == y.next) refl
        where
          by_test : (b : Bool) → (h.txn == y.next) ≡ b → (h.txn == y.next) ≡ false
          by_test true e =
              let names : latched_in (state_of y h.txn) ≡ Some r = (run_at means s B p gs y v k).whole.dead r h held (hold_is_dead gs r h k.dead held) in
              let same : h.txn ≡ y.next = (Decides-eqb h.txn y.next).0 e in
              absurd (none-some r (sym (ap (λ (n : ℕ). latched_in (state_of y n)) same ∙ ap (λ (o : Option TxnRow). latched_in (state_in o)) no_row) ∙ names))
          by_test false e = e

      may : MayCall (p.log ++ Begin y.next ∷ []) (core gs (begun y) p.core.vault) y.next
      may = record { working = first.working; at_work = first.at_work; level = first.level; free = free }

  -- ---- a request
  pub ask_goes : AskGoes means
  ask_goes s B p gs y z v plan Granted k asked =
      let w = step_goes plan.txn [] s B p gs y z v (Locks plan.txn (call_key plan.call) (mode_of plan.call)) k (more asked.0) refl refl (λ u away. apart_not plan.txn u away) in (
        w,
        (
          behind_plan plan.txn plan [] s B p gs gs z v w (subst (λ (l : List Record). AtPlan l (core gs z p.core.vault) plan) (sym (append-nil p.log)) asked.1),
          subst (λ (x : SystemState). IsAtRest w.to.core.regions x plan) (sym w.stands.at.system) (subst (λ (rs : List RegionState). IsAtRest rs z plan) (sym w.stands.at.regions) asked.2),
        ),
      )
    where
      more : IsStep p.log (core gs y p.core.vault) (Locks plan.txn (call_key plan.call) (mode_of plan.call)) p.log (core gs z p.core.vault) → IsStep p.log (core gs y p.core.vault) (Locks plan.txn (call_key plan.call) (mode_of plan.call)) (p.log ++ []) (core gs z p.core.vault)
      more step = (step.0, step.1, (append-nil p.log, step.2.1))
  ask_goes s B p gs y z v plan (Wait h) k asked = (stays_here plan.txn s B p gs y z v k (ap (λ (c : CoreState). c.system) asked), tt)
  ask_goes s B p gs y z v plan (Busy h) k asked =
      let w = step_goes plan.txn [] s B p gs y z v (Refuses plan.txn (call_key plan.call) (mode_of plan.call) h) k (more asked.0) refl refl (λ u away. apart_not plan.txn u away) in
      (w, behind_may plan.txn plan.txn [] s B p gs gs z v w (subst (λ (l : List Record). MayCall l (core gs z p.core.vault) plan.txn) (sym (append-nil p.log)) asked.1))
    where
      more : IsStep p.log (core gs y p.core.vault) (Refuses plan.txn (call_key plan.call) (mode_of plan.call) h) p.log (core gs z p.core.vault) → IsStep p.log (core gs y p.core.vault) (Refuses plan.txn (call_key plan.call) (mode_of plan.call) h) (p.log ++ []) (core gs z p.core.vault)
      more step = (step.0, step.1, (append-nil p.log, step.2.1))

  -- ---- an operation
  plan_here : (s : Start) (B : List (List Record)) (p : Point) (gs : List RegionState) (y : SystemState) (v : Vaulted V) (plan : Planned) → StandsAt means s B p gs y v → AtPlan p.log p.core plan → AtPlan p.log (core gs y p.core.vault) plan
  plan_here s B p gs y v plan k at = plan_at p.log p.log p.core (core gs y p.core.vault) plan refl (sym k.at.system) (sym k.at.regions) at

  pub operate_goes : OperateGoes means
  operate_goes precheck s B p gs hs y z v plan further k at o = (w, behind_plan plan.txn further own s B p gs hs z v w led.at)
    where
      own : List Record
      own = record_on (is_back plan) plan.txn o.block ∷ []

      led : LeadsOnce precheck p.log (core gs y p.core.vault) plan o.block (core hs z p.core.vault) further
      led = o.leads p.log p.core.vault (plan_here s B p gs y v plan k at)

      dead_now : AreDead hs
      dead_now = subst (λ (rs : List RegionState). AreDead rs) (sym o.regions) (dead_set gs o.block.region o.region (touched o.opened) o.at k.dead tt)

      w : Went means plan.txn own s B p gs hs z v
      w = led_goes precheck plan.txn own s B p gs hs y z v led.steps k led.leads dead_now

  pub die_goes : DieGoes means
  die_goes precheck s B p gs hs y z v plan k free death =
      course_goes means plan.txn [] s B p gs hs y z v p.audits (led.steps ++ death_step ∷ []) k
      (all_append is_calm led.steps (death_step ∷ []) (leads_calm precheck plan.txn None p.log p.log (core gs y p.core.vault) led.mid led.steps led.leads) refl)
      dead_now
      (from_here means s B p gs y v (moment hs z (p.log ++ []) p.core.vault p.audits) (led.steps ++ death_step ∷ []) k
      (join (moment gs y p.log p.core.vault p.audits) between (moment hs z (p.log ++ []) p.core.vault p.audits) led.steps (death_step ∷ [])
      (own_steps_make precheck plan.txn p.log p.log (core gs y p.core.vault) led.mid led.steps p.audits led.leads).0
      (one between (moment hs z (p.log ++ []) p.core.vault p.audits) death_step ((led.dies.0, (append-nil p.log, led.dies.1.1)), refl))))
      (λ u away lives. all_append (is_apart u) led.steps (death_step ∷ []) (leads_apart precheck plan.txn u None p.log p.log (core gs y p.core.vault) led.mid led.steps away led.leads) (one_more (is_apart u) death_step (apart_not plan.txn u away)))
    where
      free_here : IsFree (core gs y p.core.vault) plan.txn
      free_here r h held = free r h (ap (λ (rs : List RegionState). hold_in (slice_get rs r)) k.at.regions ∙ held)

      led : DiesIn precheck p.log (core gs y p.core.vault) plan.txn death.block.region (core hs z p.core.vault)
      led = death.leads p.log p.core.vault free_here

      death_step : Step
      death_step = Dies plan.txn (Some death.block.region)

      between : Moment
      between = record { log = p.log; core = led.mid; audits = p.audits }

      dead_now : AreDead hs
      dead_now = subst (λ (rs : List RegionState). AreDead rs) (sym death.regions) (dead_set gs death.block.region death.region (dead death.opened) death.at k.dead (dead_mapped death.opened.hold))

  -- ---- an answer
  pub answer_goes : AnswerGoes means
  answer_goes s B p gs y z v plan a k answers =
      let w = step_goes plan.txn (Done plan.txn plan.call a ∷ []) s B p gs y z v (Answers plan.txn plan.call a) k answers.step refl refl (λ u away. apart_not plan.txn u away) in
      (w, behind_may plan.txn plan.txn (Done plan.txn plan.call a ∷ []) s B p gs gs z v w answers.may)

  pub perform_goes : PerformGoes means
  perform_goes precheck s B p gs hs y z v t call a k e = (own, w, behind_may t t own s B p gs hs z v w (subst (λ (l : List Record). MayCall l (core hs z p.core.vault) t) log e.may))
    where
      grown : Grows p.log (core gs y p.core.vault) e.log e.mid
      grown = led_grows precheck t p.log e.log (core gs y p.core.vault) e.mid e.steps e.leads

      own : List Record
      own = grown.0 ++ Done t call a ∷ []

      log : e.log ++ Done t call a ∷ [] ≡ p.log ++ own
      log = ap (λ (l : List Record). l ++ Done t call a ∷ []) grown.1 ∙ append_assoc p.log grown.0 (Done t call a ∷ [])

      mid_is : hs ≡ e.mid.regions
      mid_is = ap (λ (c : CoreState). c.regions) e.answers.3.1

      dead_now : AreDead hs
      dead_now = dead_on gs hs k.dead (λ r. by_hold r (hold_in (slice_get hs r)) refl)
        where
          by_hold : (r : ℕ) (o : Option Hold) → hold_in (slice_get hs r) ≡ o → HoldStays gs hs r
          by_hold r None e0 = inr e0
          by_hold r (Some h) e0 = by_test (t == h.txn) refl
            where
              by_test : (b : Bool) → (t == h.txn) ≡ b → HoldStays gs hs r
              by_test false away =
                  let stood = (own_steps_stand precheck t p.log e.log (core gs y p.core.vault) e.mid e.steps e.leads).holds h.txn r h away refl in
                  inl (e0 ∙ sym (stood.1 (ap (λ (rs : List RegionState). hold_in (slice_get rs r)) (sym mid_is) ∙ e0)))
              by_test true same =
                  let is : (h.txn == t) ≡ true = (Decides-eqb h.txn t).1 (sym ((Decides-eqb t h.txn).0 same)) in
                  let not : (h.txn == t) ≡ false = e.may.free r h e0 in
                  absurd cc

      w : Went means t own s B p gs hs z v
      w = course_goes means t own s B p gs hs y z v p.audits (e.steps ++ Answers t call a ∷ []) k
          (all_append is_calm e.steps (Answers t call a ∷ []) (leads_calm precheck t None p.log e.log (core gs y p.core.vault) e.mid e.steps e.leads) refl)
          dead_now
          (from_here means s B p gs y v (moment hs z (p.log ++ own) p.core.vault p.audits) (e.steps ++ Answers t call a ∷ []) k
          (subst (λ (l : List Record). IsCourse (moment gs y p.log p.core.vault p.audits) (e.steps ++ Answers t call a ∷ []) (moment hs z l p.core.vault p.audits)) log
          (answer_makes precheck p.log (core gs y p.core.vault) (core hs z p.core.vault) t call a p.audits e).0))
          (λ u away lives. all_append (is_apart u) e.steps (Answers t call a ∷ []) (leads_apart precheck t u None p.log e.log (core gs y p.core.vault) e.mid e.steps away e.leads) (one_more (is_apart u) (Answers t call a) (apart_not t u away)))

  -- ---- an end, or a part of it
  -- with these records
  pub end_with : (records : List Record) (s : Start) (B : List (List Record)) (p : Point) (gs hs : List RegionState) (y z : SystemState) (v : Vaulted V) (t : ℕ) (steps : List Step) (log : List Record) → StandsAt means s B p gs y v
      → list_all is_of_end steps ≡ true → (a : Arrived means s B p v steps log hs z) → log ≡ p.log ++ records → AllByRecursion (IsOfEnd t) records → OthersStay gs y t hs z
      → (w : Went means t records s B p gs hs z v) × (w.to ≡ a.to) × (w.steps ≡ steps)
  end_with records s B p gs hs y z v t steps log k kind a is are others = (
    record {
      to = a.to;
      steps = steps;
      calm = calm_apart steps kind;
      course = a.course;
      log = a.log_is ∙ is;
      stands = a.stands;
      keeps = a.keeps;
      others = left_be means t records s B B p a.to gs hs y z v v k a.stands (a.log_is ∙ is) are onward others;
      places = places_told (means.told v.store) gs hs no_cleaner;
      whole = λ whole. whole_here means s B a.to hs z v a.stands (places_told (means.told v.store) gs hs no_cleaner whole.files);
    },
    refl,
    refl,
  )
    where
      no_cleaner : EachFrom IsNoCleaner gs hs
      no_cleaner = arrived_no_cleaner means s B p gs hs y z v steps log k kind a

      onward : (z.sizes ≡ y.sizes) × (y.next ≤ z.next)
      onward =
          let is = course_onward (moment_of p) (moment_of a.to) steps kind (core_course p a.to steps a.course) in
          let less = is.1 in
          let here = ap (λ (x : SystemState). x.next) k.at.system in
          let there = ap (λ (x : SystemState). x.next) a.stands.at.system in
          (ap (λ (x : SystemState). x.sizes) (sym a.stands.at.system) ∙ (is.0 ∙ ap (λ (x : SystemState). x.sizes) k.at.system), omega (arith, less, here, there))

  pub end_goes : (own : Record → Type 0) (last : List Record) (s : Start) (B : List (List Record)) (p : Point) (gs hs : List RegionState) (y z : SystemState) (v : Vaulted V) (t : ℕ) → StandsAt means s B p gs y v
      → (e : HasCome means t own last s B p v hs z) → AllByRecursion (IsOfEnd t) (e.records ++ last) → OthersStay gs y t hs z
      → (w : Went means t (e.records ++ last) s B p gs hs z v) × (w.to ≡ e.to) × (w.steps ≡ e.steps)
  end_goes own last s B p gs hs y z v t k e are others =
      end_with (e.records ++ last) s B p gs hs y z v t e.steps e.to.log k (come_of_end means t own last s B p v hs z e) (arrived_of means t own last s B p v hs z e) (e.log ∙ append_assoc p.log e.records last) are others

  -- ---- what a dead client left
  pub release_goes : ReleaseGoes means
  release_goes s B p gs y z v r g h k at released t =
      let others = release_others gs y z t r g h at released in
      let led = release_leads gs y z r g h k.dead at released (bases_of s) s.log p.log p.core.vault p.audits (run_at means s B p gs y v k) in
      let kind = release_of_end y r g.hold led.steps led.are in
      let a = arrive means s B p gs (slice_set gs r h) y z v led.steps p.log k kind led.course (dead_on gs (slice_set gs r h) k.dead others.holds) in
      (end_with [] s B p gs (slice_set gs r h) y z v t led.steps p.log k kind a (sym (append-nil p.log)) tt others).0

  pub release_tells : ReleaseTells means
  release_tells s B p gs y z v r g h o k at there (inl none) = absurd (none-some o (sym none.0 ∙ there))
  release_tells s B p gs y z v r g h o k at there (inr some) = subst (λ (x : Hold). IsLetGo y r x z) same (by_claim some.3)
    where
      inside : (a b : Hold) → (let x : Option Hold = Some b in Some a ≡ x) → a ≡ b
      inside a b f = cc

      same : some.0 ≡ o
      same = inside some.0 o (sym some.1 ∙ there)

      held : hold_in (slice_get gs r) ≡ Some some.0
      held = ap hold_in at ∙ some.1

      names : latched_in (state_of y some.0.txn) ≡ Some r
      names = (run_at means s B p gs y v k).whole.dead r some.0 held (hold_is_dead gs r some.0 k.dead held)

      by_claim : IsReclaimed y some.0.txn z → IsLetGo y r some.0 z
      by_claim (inl was) =
          let latched : was.0 ≡ Some r = ap latched_in (sym was.1) ∙ names in
          inl (
            was.1 ∙ ap (λ (x : Option ℕ). Some (Dead x)) latched,
            let now : state_of (in_state (in_state y some.0.txn (Cleaning was.0)) some.0.txn (Dead None)) some.0.txn ≡ Some (Dead None) = twice was.0 was.1 in ap (λ (x : SystemState). state_of x some.0.txn) was.2 ∙ now,
            λ u away. ap (λ (x : SystemState). row_of x u) was.2 ∙ (row_apart (in_state y some.0.txn (Cleaning was.0)).table some.0.txn u (with_state (Dead None)) away ∙ row_apart y.table some.0.txn u (with_state (Cleaning was.0)) away),
          )
        where
          mapped : (st : State) (row : Option TxnRow) (old : State) → state_in row ≡ Some old → state_in (option_map (with_state st) row) ≡ Some st
          mapped st None old e = absurd (none-some old e)
          mapped st (Some row) old e = refl

          twice : (l : Option ℕ) → state_of y some.0.txn ≡ Some (Dead l) → state_of (in_state (in_state y some.0.txn (Cleaning l)) some.0.txn (Dead None)) some.0.txn ≡ Some (Dead None)
          twice l e =
              ap state_in (row_here (in_state y some.0.txn (Cleaning l)).table some.0.txn (with_state (Dead None)))
              ∙ mapped (Dead None) (row_of (in_state y some.0.txn (Cleaning l)) some.0.txn) (Cleaning l) (ap state_in (row_here y.table some.0.txn (with_state (Cleaning l))) ∙ mapped (Cleaning l) (row_of y some.0.txn) (Dead l) e)
      by_claim (inr not) = inr (not.0, not.1)
