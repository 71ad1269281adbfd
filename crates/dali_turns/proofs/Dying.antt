-- A client dies in an operation of its call.
use Rattle.std.proofs.Common.{◌≡◌, ℕ, ◌+◌, ◌-◌, Bool, true, false, not, List, [], ◌∷◌, ◌++◌, length, map, Option, Some, None, is_some, if◌then◌else◌, refl, ap, sym, subst, ◌∙◌, ◌⊎◌, inr, arith}
use Rattle.std.specs.Prelude.{◌==◌, ◌&&◌, slice_get}
use Rattle.std.specs.List.{list_all}
use Rattle.std.proofs.lemmas.List.{append-nil, append_assoc, map-append, append_cancel_left, take_all}
use Rattle.std.proofs.lemmas.Bool.{and_parts, ne_eqb}
use Rattle.dali_runs.proofs.CountsLemmas.Lists.{same_number, some_same}
use Rattle.dali_record.specs.declared.records.Record.{Record}
use Rattle.dali_region.specs.State.{RegionState}
use Rattle.dali_att.specs.declared.state.State.{State as RowState}
use Rattle.dali_att.specs.declared.state.State.TheVariants.{Live, Dead}
use Rattle.dali_att.specs.Table.{with_state}
use Rattle.dali_store.specs.Store.{Files as Disk}
use Rattle.dali_store.specs.declared.store.Store.{Ghosts}
use Rattle.dali_runs.specs.State.{SystemState, VaultState, CoreState, state_of}
use Rattle.dali_runs.specs.Run.{RunsOn}
use Rattle.dali_runs.specs.Keeps.{IsFree}
use Rattle.dali_runs.specs.Flushes.{frame_of}
use Rattle.dali_runs.specs.Courses.{Step, Dies as DiesStep, IsStep}
use Rattle.dali_runs.proofs.PartsLemmas.Vaults.{step_has_vault}
use Rattle.dali_crash.specs.Checkpoints.{StoreStep, Does, Point, IsPointStep}
use Rattle.dali_crash.specs.Traces.{Start, bases_of}
use Rattle.dali_core.specs.Vault.Vaulted.{Vaulted}
use Rattle.dali_calls.specs.Plans.{Planned, is_back, IsWhole}
use Rattle.dali_calls.specs.Single.Stands.{core}
use Rattle.dali_calls.specs.Stepwise.Stepwise.{IsDeath, DiesIn as DiesNow}
use Rattle.dali_core.proofs.StepsLemmas.Courses.{came_same, vault_same}
use Rattle.dali_core.proofs.StepsLemmas.Steps.{quiet_goes}
use Rattle.dali_core.specs.Cores.{IsCoreAt}
use Rattle.dali_checkpoint.proofs.Calls.{course_join}
use Rattle.dali_transactions.specs.Beside.Went.{Went as RoundsWent}
use Rattle.dali_transactions.proofs.BesideLemmas.Calls.{die_goes}
use Rattle.dali_transcripts.specs.Words.{Calls}
use Rattle.dali_transcripts.specs.World.{Deed, Logs, DiesOn, World, log_of, log_at, is_claimed_in, stray_after}
use Rattle.dali_transcripts.specs.Moves.{Within as IsWithin, at, Move, Dies, operations, left}
use Rattle.dali_transcripts.specs.Causes.{GoesOn as MayGoOn, HasCause}
use Rattle.dali_transcripts.specs.Rounds.{by, Standing}
use Rattle.dali_transcripts.proofs.Looks.{at_once_tells}
use Rattle.dali_transcripts.proofs.Growing.{works}
use Rattle.dali_transcripts.specs.Telling.Tells.{after}
use Rattle.dali_transcripts.specs.Telling.Laws.{AreOfCourse}
use Rattle.dali_transcripts.proofs.TellingLemmas.Courses.{after_after}
use Rattle.dali_transcripts.proofs.TellingLemmas.States.{new_state}
use Rattle.dali_transcripts.specs.Clients.Said.{said as with_lines}
use Rattle.dali_transcripts.specs.Clients.Told.{act_of, said_of}
use Rattle.dali_transcripts.specs.declared.clients.line.Line.TheVariants.{Died as DiedLine}
use Rattle.dali_turns.specs.declared.client.Client.{Client}
use Rattle.dali_turns.specs.declared.client.State.{State}
use Rattle.dali_turns.specs.declared.client.State.TheVariants.{Calling, Gone}
use Rattle.dali_turns.specs.declared.client.Transaction.{Transaction}
use Rattle.dali_turns.specs.Calls.{IsDeadly}
use Rattle.dali_turns.specs.Stood.{IsQuiet, Stood}
use Rattle.dali_turns.specs.Within.{FitsCalling}
use Rattle.dali_turns.specs.Fits.{rest_of, IsOf, Owns, Fits}
use Rattle.dali_turns.specs.Goes.{RowsTell, Went}
use Rattle.dali_turns.proofs.Beside.{is_beside, is_out_of, step_image, image_then}
use Rattle.dali_turns.proofs.Refusals.{runs_on_log, log_there, done_last}
use Rattle.dali_turns.proofs.Doing.{Did, vault_stops, ended, went_by, went_silent}
use Rattle.dali_turns.proofs.Coursing.{did_course}
use Rattle.dali_turns.proofs.Walking.{point_behind, Led, led}
use Rattle.dali_turns.proofs.Allowed.{words_are, may_go_on}
use Rattle.dali_transactions.specs.Beside.Went.{is_open}

-- ---- steps that log nothing, and then a death
dies_behind : (t r c : ℕ) (w : World) (p mid q : Point) (xs : List StoreStep) (ds : List Deed) → AreOfCourse w c p xs mid ds → IsPointStep mid (Does (DiesStep t (Some r))) q
    → (w.precheck ≡ true → (g0 : RegionState) → slice_get w.old.regions r ≡ Some g0 → stray_after r g0.stray (w.happened ++ by c ds) ≡ 0)
    → AreOfCourse w c p (xs ++ Does (DiesStep t (Some r)) ∷ []) q (ds ++ DiesOn t r ∷ [])
dies_behind t r c w p mid q [] ds (same, none) step right =
    subst (λ es. AreOfCourse w c p (Does (DiesStep t (Some r)) ∷ []) q (es ++ DiesOn t r ∷ [])) (sym none)
    (q, DiesOn t r ∷ [], [], subst (λ (z : Point). IsPointStep z (Does (DiesStep t (Some r))) q) (sym same) step, (refl, λ on. at_once_tells.one w c (DiesOn t r) (λ g0 was. ap (stray_after r g0.stray) (take_all (length w.happened) w.happened (omega arith) ∙ (sym (append-nil w.happened) ∙ ap (λ es. w.happened ++ by c es) (sym none))) ∙ right on g0 was)), (tt, tt), (refl, refl), refl)
dies_behind t r c w p mid q (x ∷ xs) ds (next, own, more, one, are, due, rest, whole) step right = (
  next,
  own,
  more ++ DiesOn t r ∷ [],
  one,
  are,
  due,
  dies_behind t r c (after w c own next.core) next mid q xs more rest step
      (λ on g0 was. ap (stray_after r g0.stray) (ap (λ (v : World). v.happened) (after_after w c own more next.core mid.core) ∙ ap (λ es. w.happened ++ by c es) (sym whole)) ∙ right on g0 was),
  ap (λ es. es ++ DiesOn t r ∷ []) whole ∙ append_assoc own more (DiesOn t r ∷ []),
)

all_then : {X : Type 0} (f : X → Bool) (xs : List X) (x : X) → list_all f xs ≡ true → f x ≡ true → list_all f (xs ++ x ∷ []) ≡ true
all_then f [] x h e = ap (λ b. b && true) e
all_then f (y ∷ ys) x h e = let parts = and_parts (f y) (list_all f ys) h in ap (λ b. b && list_all f (ys ++ x ∷ [])) parts.0 ∙ all_then f ys x parts.1 e

-- ---- the death that was due
deadly_is : (o : Option ℕ) (n : ℕ) → left o n ≡ Some 1 → (d : ℕ) × (o ≡ Some d) × (n + 1 ≡ d)
deadly_is None n e = absurd (cc)
deadly_is (Some d) n e = (d, refl, let less : d - n ≡ 1 = some_same e in omega (arith, less))

module _ {V : Type 0} (means : Ghosts V)
    (precheck : Bool) (s : Start) (B : List (List Record)) (p : Point) (w : World) (a : Standing) (gs hs : List RegionState) (y z : SystemState) (v : Vaulted V) (k j : Client)
    (x : Transaction) (plan : Planned) (stood : Stood means s B p w precheck gs y v) (is : IsOf w a k) (fits : FitsCalling p w a (rest_of k) x plan)
    (whole : IsWhole plan) (way : is_back plan ≡ false) (deadly : IsDeadly x) (death : IsDeath precheck plan gs y hs z) where
  abbrev u : VaultState
  u = p.core.vault

  abbrev r : ℕ
  r = death.block.region

  core_here : core gs y u ≡ p.core
  core_here = ap (λ rs. core rs y u) (sym stood.stands.at.regions) ∙ ap (λ (m : SystemState). core p.core.regions m u) (sym stood.stands.at.system)

  now : DiesNow precheck p.log p.core plan.txn r (core hs z u)
  now = subst (λ (c : CoreState). DiesNow precheck p.log c plan.txn r (core hs z u)) core_here (death.leads p.log u (subst (λ (c : CoreState). IsFree c plan.txn) (sym core_here) fits.plan_is.stands.free))

  walked : Led means plan.txn s B p w a.client gs y v p.log now.mid
  walked = led means precheck plan.txn a.client s B v now.steps p w gs y p.log now.mid stood.stands.at stood.precheck_is (record { run = stood.stands.at.vault.run; tells = stood.tells; whole = stood.stands.whole }) (vault_stops means precheck s B p w gs y v stood) now.leads

  none_logged : [] ≡ walked.own
  none_logged = append_cancel_left p.log [] walked.own (append-nil p.log ∙ walked.log)

  abbrev mid : Point
  mid = walked.to

  abbrev step : Step
  step = DiesStep plan.txn (Some r)

  abbrev q : Point
  q = point_behind mid step mid.log (core hs z u)

  dies : IsStep mid.log mid.core step mid.log (core hs z u)
  dies = subst (λ (l : List Record). IsStep l mid.core step l (core hs z u)) (sym walked.log_there) (subst (λ (c : CoreState). IsStep p.log c step p.log (core hs z u)) (sym walked.core_there) now.dies)

  point_step : IsPointStep mid (Does step) q
  point_step = (refl, (dies, refl), refl)

  taken : z.taken ≡ now.mid.system.taken
  taken = ap (λ (c : CoreState). c.system.taken) now.dies.1.1

  -- its client has looked: the region was right where it was latched, and no deed came since
  right : w.precheck ≡ true → (g0 : RegionState) → slice_get w.old.regions r ≡ Some g0 → stray_after r g0.stray (w.happened ++ []) ≡ 0
  right on g0 was =
      let here : slice_get w.core.regions r ≡ Some death.region = ap (λ (c : CoreState). slice_get c.regions r) stood.tells.core ∙ (ap (λ rs. slice_get rs r) stood.stands.at.regions ∙ death.at) in
      ap (stray_after r g0.stray) (append-nil w.happened) ∙ (sym (stood.tells.together.pokes r g0 death.region was here).0 ∙ death.is.checked way (sym stood.precheck_is ∙ on))

  at_behind : IsCoreAt means s B q hs z v
  at_behind = record {
    regions = refl;
    system = refl;
    vault = quiet_goes means s B mid q (Does step) v walked.at.vault point_step refl (came_same mid.log mid.core step refl)
        (vault_same (frame_of mid.log mid.core) mid.core.vault u step refl (step_has_vault mid.log mid.log mid.core (core hs z u) step dies));
    none_in_hand = λ up. walked.at.none_in_hand up ∙ sym taken;
  }

  rounds : RoundsWent means plan.txn [] s B p gs hs z v
  rounds = die_goes means precheck s B p gs hs y z v plan stood.stands fits.plan_is.stands.free death

  lives_there : state_of y plan.txn ≡ Some Live
  lives_there = ap (λ (m : SystemState). state_of m plan.txn) (sym stood.stands.at.system) ∙ fits.plan_is.rest.lives

  states : (n : ℕ) → state_of z n ≡ (if plan.txn == n then Some (Dead (Some r)) else state_of y n)
  states n = ap (λ (m : SystemState). state_of m n) death.system ∙ new_state y.table plan.txn (with_state (Dead (Some r))) (Dead (Some r)) (λ row. refl) Live lives_there n

  by_txn : (P : Option RowState → Type 0) (n : ℕ) → P (Some (Dead (Some r))) → P (state_of y n) → P (state_of z n)
  by_txn P n here there = subst P (sym (states n)) (by_test (plan.txn == n))
    where
      by_test : (b : Bool) → P (if b then Some (Dead (Some r)) else state_of y n)
      by_test true = here
      by_test false = there

  calm : IsQuiet z
  calm = record { unclaimed = λ n. by_txn (λ o. is_claimed_in o ≡ false) n refl (stood.quiet.unclaimed n) }

  not_mine : (n : ℕ) → (Owns (Calling x plan) n → ⊥) → (plan.txn == n) ≡ false
  not_mine n other = ne_eqb plan.txn n (λ e. other (sym fits.plan_is.txn ∙ e))

  did_die : Did means precheck s B p w a.client (Calling x plan) gs y v (DiesOn plan.txn r ∷ []) B q hs z v
  did_die =
      did_course means precheck s B p w gs y v stood a.client (Calling x plan) (walked.steps ++ Does step ∷ []) (DiesOn plan.txn r ∷ []) B q hs z v
      (course_join p mid q walked.steps (Does step ∷ []) walked.course (q, point_step, refl))
      (dies_behind plan.txn r a.client w p mid q walked.steps [] (subst (λ es. AreOfCourse w a.client p walked.steps mid es) (ap (map Logs) (sym none_logged)) walked.are) point_step right)
      at_behind rounds.stands.dead (rounds.places stood.files) calm (λ e. ap (λ (m : SystemState). is_some m.stop) death.system ∙ stood.stops e)
      (λ n lives other. all_then (is_beside n) walked.steps (Does step) (walked.beside n (not_mine n other)) (ap not (not_mine n other)))
      (λ b other. all_then (is_out_of b) walked.steps (Does step) (walked.out b) refl)
      (λ flag other. image_then means s B B B p mid q gs now.mid.regions hs y now.mid.system z v v v (λ e. e) walked.image
      (step_image means s B mid q step now.mid.regions now.mid.system v refl point_step (taken ∙ ap (λ (c : CoreState). c.system.taken) (sym walked.core_there)) (ap (λ (c : CoreState). c.system) walked.core_there)))

  abbrev deeds : List Deed
  deeds = DiesOn x.txn r ∷ []

  did : Did means precheck s B p w a.client (Calling x plan) gs y v deeds B q hs z v
  did = subst (λ n. Did means precheck s B p w a.client (Calling x plan) gs y v (DiesOn n r ∷ []) B q hs z v) fits.plan_is.txn did_die

  due : (d : ℕ) × (fits.deadly ≡ Some d) × (operations x.txn a.pending + 1 ≡ d)
  due = deadly_is fits.deadly (operations x.txn a.pending) (sym fits.nearer ∙ deadly)

  abbrev move : Move
  move = Dies x.txn x.tries (map act_of x.commands.now) due.0 a.pending (length (log_of w)) r fits.call fits.more

  spot : a.spot ≡ at (IsWithin x.txn x.tries (map act_of x.commands.now) (Some due.0) false) (Calls fits.call ∷ fits.more)
  spot = fits.spot ∙ (ap (λ d. at (IsWithin x.txn x.tries (map act_of x.commands.now) d false) (rest_of k)) due.1 ∙ ap (at (IsWithin x.txn x.tries (map act_of x.commands.now) (Some due.0) false)) fits.calls)

  may : MayGoOn z.sizes (log_at (after w a.client deeds q.core) (length w.happened)) x.txn fits.call death.block
  may =
      subst (λ m. MayGoOn m (log_at (after w a.client deeds q.core) (length w.happened)) x.txn fits.call death.block) (ap (λ (m : SystemState). m.sizes) stood.stands.at.system ∙ sym (ap (λ (m : SystemState). m.sizes) death.system))
      (subst (λ l. MayGoOn p.core.system.sizes l x.txn fits.call death.block) (stood.tells.log ∙ sym (log_there w a.client (DiesOn x.txn r) q.core))
      (may_go_on (bases_of s) p plan x.txn fits.call runs fits.plan_is whole way death.block death.region.words death.is.of (words_are (bases_of s) p.log p.core r death.region runs (ap (λ rs. slice_get rs r) stood.stands.at.regions ∙ death.at)) (sym death.is.sound)))
    where
      runs : RunsOn (bases_of s) p.log p.core
      runs = runs_on_log (bases_of s) s.log p stood.stands.at.vault.run

  cause : HasCause (after w a.client deeds q.core) a.client move
  cause = (
    works w (after w a.client deeds q.core) did.goes.grows a.client x.txn fits.call a.pending fits.work,
    due.2,
    record { done = done_last w a.client (DiesOn x.txn r) q.core; next = death.block; on_region = refl; goes_on = may },
    fits.granted,
  )

  rows : RowsTell (Calling x plan) y Gone z
  rows e n lives = by_test (plan.txn == n) refl
    where
      by_test : (b : Bool) → (plan.txn == n) ≡ b → Owns Gone n ⊎ ((is_open (state_of y n) ≡ true) × (Owns (Calling x plan) n → ⊥))
      by_test true f =
          let is_dead : state_of z n ≡ Some (Dead (Some r)) = states n ∙ ap (λ (b : Bool). if b then Some (Dead (Some r)) else state_of y n) f in
          let both : false ≡ true = sym (ap is_open is_dead) ∙ lives in absurd (cc)
      by_test false f = inr (
        ap is_open (sym (states n ∙ ap (λ (b : Bool). if b then Some (Dead (Some r)) else state_of y n) f)) ∙ lives,
        λ own. let same : (plan.txn == n) ≡ true = same_number plan.txn n (fits.plan_is.txn ∙ own) in let both : true ≡ false = sym same ∙ f in absurd (cc),
      )

  pub dies_said : j.transcript ≡ with_lines k.transcript (DiedLine ∷ []) → j.state ≡ Gone → Went means precheck s B p w a (Calling x plan) gs y v true j hs z v
  dies_said said state =
      went_by means precheck s B B p q w a (Calling x plan) gs hs y z v v deeds k j is did move spot refl cause
      (ap (λ t. t.client) said) (ap (λ t. map said_of t.lines) said ∙ map-append said_of k.transcript.lines (DiedLine ∷ []))
      (subst (λ (n : State). Fits means s B q (after w a.client deeds q.core) hs z v (ended a move) (rest_of j) n) (sym state) (record { txn = x.txn; place = refl; none = refl }))
      (subst (λ (n : State). RowsTell (Calling x plan) y n z) (sym state) rows)

  pub dies_unsaid : j.transcript ≡ k.transcript → Went means precheck s B p w a (Calling x plan) gs y v false j hs z v
  dies_unsaid same = went_silent means precheck s B B p q w a (Calling x plan) gs hs y z v v deeds k j is did move spot refl cause same
