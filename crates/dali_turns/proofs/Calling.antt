-- The steps of a call of a client that has its lock.
use Rattle.std.proofs.Common.{◌≡◌, ℕ, ◌-◌, Bool, true, false, not, List, [], ◌∷◌, ◌++◌, length, map, Option, Some, None, is_some, refl, ap, sym, subst, ◌∙◌, ◌⊎◌, inl, inr, arith}
use Rattle.std.specs.Prelude.{◌==◌, drop}
use Rattle.std.proofs.lemmas.Bool.{ltb-true, lt-ltb}
use Rattle.std.proofs.lemmas.List.{map-append}
use Rattle.dali_runs.proofs.CountsLemmas.Lists.{equal, self}
use Rattle.dali_record.specs.declared.records.Answer.{Answer}
use Rattle.dali_record.specs.declared.records.Record.{Record}
use Rattle.dali_record.specs.declared.records.Record.TheVariants.{Done}
use Rattle.dali_region.specs.State.{RegionState}
use Rattle.dali_att.specs.declared.state.State.TheVariants.{Live}
use Rattle.dali_store.specs.Store.{Files as Disk}
use Rattle.dali_store.specs.declared.store.Store.{Ghosts}
use Rattle.dali_runs.specs.State.{SystemState, VaultState, CoreState, state_of, lock_of}
use Rattle.dali_runs.specs.Steps.{done_logged}
use Rattle.dali_runs.specs.Courses.{Step, Answers as AnswersStep}
use Rattle.dali_crash.specs.Checkpoints.{Point, copies_after}
use Rattle.dali_crash.specs.Traces.{Start, bases_of}
use Rattle.dali_core.specs.Vault.Vaulted.{Vaulted}
use Rattle.dali_calls.specs.Plans.{Planned, goes_back}
use Rattle.dali_calls.specs.Steps.{answer_of}
use Rattle.dali_calls.specs.Single.Stands.{core, IsAtRest, AtPlan}
use Rattle.dali_calls.specs.Single.Single.{MayCall}
use Rattle.dali_calls.specs.Stepwise.Stepwise.{AnswersNow}
use Rattle.dali_transcripts.specs.Words.{Act, Calls}
use Rattle.dali_transcripts.specs.World.{Deed, Logs, World, logged_by, log_of}
use Rattle.dali_transcripts.specs.Moves.{Within as IsWithin, at, Move, Answers, operations, left}
use Rattle.dali_transcripts.specs.Causes.{HasCause, spares}
use Rattle.dali_transcripts.specs.Rounds.{Standing, IsPlaced, by}
use Rattle.dali_transcripts.proofs.Growing.{works}
use Rattle.dali_transcripts.specs.Telling.Tells.{after}
use Rattle.dali_transcripts.proofs.TellingLemmas.Told.{log_is}
use Rattle.dali_transcripts.specs.Clients.Told.{act_of, said_of}
use Rattle.dali_transcripts.specs.declared.clients.command.Command.{Command}
use Rattle.dali_transcripts.specs.declared.clients.line.Line.TheVariants.{Answered}
use Rattle.dali_turns.specs.declared.client.Client.{Client}
use Rattle.dali_turns.specs.declared.client.State.{State}
use Rattle.dali_turns.specs.declared.client.State.TheVariants.{Within, Calling}
use Rattle.dali_turns.specs.declared.client.Transaction.{Transaction}
use Rattle.dali_turns.specs.Clients.{Passes, Finishes}
use Rattle.dali_turns.specs.Stood.{IsQuiet, Stood}
use Rattle.dali_turns.specs.Within.{AreSoFar, FitsWithin, FitsCalling}
use Rattle.dali_turns.specs.Fits.{rest_of, IsOf, Owns, Fits}
use Rattle.dali_turns.specs.Goes.{RowsTell, Went}
use Rattle.dali_transactions.specs.Beside.Went.{is_open}
use Rattle.dali_turns.proofs.Locking.{still_got}
use Rattle.dali_turns.proofs.Refusals.{runs_there}
use Rattle.dali_turns.proofs.Returning.{stays_of}
use Rattle.dali_turns.proofs.Doing.{Did, did_quietly, ended, went_by, went_silent, vault_stops}

-- ---- a transaction may call, and a plan stands, by the log, the sizes and the regions
pub may_at : (L M : List Record) (c d : CoreState) (t : ℕ) → d.regions ≡ c.regions → d.system ≡ c.system → M ≡ L → MayCall L c t → MayCall M d t
may_at L M c d t regions system log h =
    subst (λ (l : List Record). MayCall l d t) (sym log)
    (subst (λ (y : SystemState). MayCall L (core d.regions y d.vault) t) (sym system)
    (subst (λ gs. MayCall L (core gs c.system d.vault) t) (sym regions) (record { working = h.working; at_work = h.at_work; level = h.level; free = h.free })))

-- the commands that are left behind the one under way
pub behind_one : (xs ys : List Command) (x : Act) (more : List Act) → map act_of xs ≡ x ∷ more → ys ≡ drop 1 xs → map act_of ys ≡ more
behind_one [] ys x more is same = absurd (cc)
behind_one (c ∷ cs) ys x more is same = ap (map act_of) same ∙ ap tail_of is
  where
    tail_of : List Act → List Act
    tail_of [] = []
    tail_of (z ∷ zs) = zs

-- nothing is done of what comes next
pub none_so_far : (w : World) (c t : ℕ) (rest : List Act) → AreSoFar w c t rest []
none_so_far w c t (Calls call ∷ rest) = tt
none_so_far w c t _ = refl

-- who was spared so far is spared in what comes next
pub due_left : (d : Option ℕ) (n : ℕ) → spares d n ≡ true → spares (left d n) 0 ≡ true
due_left None n e = refl
due_left (Some d) n e = lt-ltb 0 (d - n) (omega (arith, ltb-true n d e))

apart_from : (a b : ℕ) → (a ≡ b → ⊥) → not (a == b) ≡ true
apart_from a b differ = by_test (a == b) refl
  where
    by_test : (t : Bool) → (a == b) ≡ t → not (a == b) ≡ true
    by_test true e = absurd (differ (equal a b e))
    by_test false e = ap not e

module _ {V : Type 0} (means : Ghosts V)
    (precheck : Bool) (s : Start) (B : List (List Record)) (p : Point) (w : World) (a : Standing) (gs : List RegionState) (y : SystemState) (v : Vaulted V) (k j : Client)
    (x : Transaction) (plan : Planned) (stood : Stood means s B p w precheck gs y v) (is : IsOf w a k) (fits : FitsCalling p w a (rest_of k) x plan) where
  abbrev u : VaultState
  u = p.core.vault

  system_is : p.core.system ≡ y
  system_is = stood.stands.at.system

  spot : a.spot ≡ at (IsWithin x.txn x.tries (map act_of x.commands.now) fits.deadly false) (Calls fits.call ∷ fits.more)
  spot = fits.spot ∙ ap (at (IsWithin x.txn x.tries (map act_of x.commands.now) fits.deadly false)) fits.calls

  log_behind : (ds : List Deed) (d : CoreState) (L : List Record) → L ≡ log_of (after w a.client ds d) → L ≡ p.log ++ logged_by (by a.client ds)
  log_behind ds d L e = e ∙ (log_is w a.client ds d ∙ ap (λ l. l ++ logged_by (by a.client ds)) (sym stood.tells.log))

  -- ---- the answer
  module _ (given : Answer) (z : SystemState) (logged : z ≡ done_logged y plan.txn plan.call given)
      (answers : (L : List Record) (rs : List RegionState) (o : VaultState) → IsAtRest rs y plan → AtPlan L (core rs y o) plan → AnswersNow L (core rs y o) plan given (core rs z o)) where
    at_core : AnswersNow p.log p.core plan given (core p.core.regions z u)
    at_core =
        subst (λ (m : SystemState). AnswersNow p.log (core p.core.regions m u) plan given (core p.core.regions z u)) (sym system_is)
        (answers p.log p.core.regions u (subst (λ (m : SystemState). IsAtRest p.core.regions m plan) system_is fits.plan_is.rest) (subst (λ (m : SystemState). AtPlan p.log (core p.core.regions m u) plan) system_is fits.plan_is.stands))

    abbrev step_at : Step
    step_at = AnswersStep plan.txn plan.call given

    abbrev q : Point
    q = record p { log = p.log ++ Done plan.txn plan.call given ∷ []; core = core p.core.regions z u; copies = copies_after p.core step_at p.copies }

    abbrev deeds : List Deed
    deeds = Logs (Done x.txn fits.call given) ∷ []

    same_deed : deeds ≡ Logs (Done plan.txn plan.call given) ∷ []
    same_deed = ap (λ t. Logs (Done t fits.call given) ∷ []) (sym fits.plan_is.txn) ∙ ap (λ c. Logs (Done plan.txn c given) ∷ []) (sym fits.plan_is.call_is)

    calm : IsQuiet z
    calm = subst IsQuiet (sym logged) (record { unclaimed = stood.quiet.unclaimed })

    did_answer : Did means precheck s B p w a.client (Calling x plan) gs y v deeds B q gs z v
    did_answer = did_quietly means precheck s B p w gs y v stood a.client (Calling x plan) q step_at deeds z gs refl (refl, (at_core.step, refl), refl) same_deed
        (runs_there (bases_of s) s.log w a.client p stood.stands.at.vault.run stood.tells (vault_stops means precheck s B p w gs y v stood) (Logs (Done x.txn fits.call given)) q.core at_core.step.0.runs, tt)
        refl stood.stands.at.regions
        (ap (λ (m : SystemState). m.taken) logged) stood.stands.dead (λ fs held. held) calm (λ e. ap (λ (m : SystemState). is_some m.stop) logged ∙ e)
        (λ t lives other. apart_from plan.txn t (λ e. other (sym fits.plan_is.txn ∙ e))) (λ b other. refl)

    abbrev move : Move
    move = Answers x.txn x.tries (map act_of x.commands.now) fits.deadly a.pending (length (log_of w)) fits.call given fits.more

    cause : HasCause (after w a.client deeds q.core) a.client move
    cause = (works w (after w a.client deeds q.core) did_answer.goes.grows a.client x.txn fits.call a.pending fits.work, fits.spared, stays_of (goes_back (answer_of plan.geometry plan.call plan.stage)) x.txn a.pending fits.turned, fits.granted)

    may : MayCall q.log q.core x.txn
    may =
        subst (λ t. MayCall q.log q.core t) fits.plan_is.txn
        (may_at (p.log ++ Done plan.txn plan.call given ∷ []) q.log (core p.core.regions z u) q.core plan.txn
        (did_answer.stood.stands.at.regions ∙ sym stood.stands.at.regions) did_answer.stood.stands.at.system
        (log_behind deeds q.core q.log did_answer.goes.tells.log ∙ ap (λ ds. p.log ++ logged_by (by a.client ds)) same_deed) at_core.may)

    fits_behind : (rest : List Act) → rest ≡ fits.more → FitsWithin q (after w a.client deeds q.core) (ended a move) rest x
    fits_behind rest same = record {
      said = false;
      may = λ e. absurd (cc);
      spot = ap (λ d. at (IsWithin x.txn x.tries (map act_of x.commands.now) d false) fits.more) (sym fits.nearer) ∙ ap (at (IsWithin x.txn x.tries (map act_of x.commands.now) x.deadly false)) (sym same);
      so_far = none_so_far _ a.client x.txn rest;
      undone = λ us. refl;
      placed = subst (IsPlaced true) (sym same) (subst (IsPlaced true) fits.calls fits.placed).1;
      again = fits.again;
      due = ap (λ d. spares d 0) fits.nearer ∙ due_left fits.deadly (operations x.txn a.pending) fits.spared;
      lives = ap (λ (m : SystemState). state_of m x.txn) (did_answer.stood.stands.at.system ∙ logged) ∙ subst (λ (m : SystemState). state_of m x.txn ≡ Some Live) system_is (subst (λ t. state_of p.core.system t ≡ Some Live) fits.plan_is.txn fits.plan_is.rest.lives);
      free = may.free;
      locks = still_got p q w (after w a.client deeds q.core) did_answer.goes.grows a.client x.txn
          (λ n. sym (ap (λ (m : SystemState). lock_of m x.txn n) system_is ∙ ap (λ (m : SystemState). lock_of m x.txn n) (sym (did_answer.stood.stands.at.system ∙ logged)))) fits.locks;
      may_call = λ e. may;
    }

    rows : (new : State) → new ≡ Within x → RowsTell (Calling x plan) y new z
    rows new at_within runs t lives = by_test (x.txn == t) refl
      where
        by_test : (b : Bool) → (x.txn == t) ≡ b → Owns new t ⊎ ((is_open (state_of y t) ≡ true) × (Owns (Calling x plan) t → ⊥))
        by_test true e = inl (subst (λ (n : State). Owns n t) (sym at_within) (equal x.txn t e))
        by_test false e = inr (ap (λ (m : SystemState). is_open (state_of m t)) (sym logged) ∙ lives, λ same. let yes : (x.txn == t) ≡ true = ap (λ n. n == t) same ∙ self t in let no : true ≡ false = sym yes ∙ e in absurd (cc))

    pub answer_said : Finishes k (Within x) (Answered fits.call given) j → Went means precheck s B p w a (Calling x plan) gs y v true j gs z v
    answer_said f =
        went_by means precheck s B B p q w a (Calling x plan) gs gs y z v v deeds k j is did_answer move spot refl cause
        (ap (λ t. t.client) f.transcript) (ap (λ t. map said_of t.lines) f.transcript ∙ map-append said_of k.transcript.lines (Answered fits.call given ∷ []))
        (subst (λ (n : State). Fits means s B q (after w a.client deeds q.core) gs z v (ended a move) (rest_of j) n) (sym f.stands) (fits_behind (rest_of j) (behind_one k.rest.now j.rest.now _ fits.more fits.calls f.rest)))
        (rows j.state f.stands)

    pub answer_unsaid : Passes k (Within x) j → Went means precheck s B p w a (Calling x plan) gs y v false j gs z v
    answer_unsaid f = went_silent means precheck s B B p q w a (Calling x plan) gs gs y z v v deeds k j is did_answer move spot refl cause f.transcript
