-- A commit that is logged waits for its flush: that is made, or fails, or the store had failed before.
use Rattle.std.proofs.Common.{◌≡◌, ℕ, ◌+◌, ◌<◌, ◌≤◌, Bool, true, false, List, [], ◌∷◌, ◌++◌, length, map, Option, Some, None, is_some, refl, ap, sym, subst, ◌∙◌, ⊎_elim, arith}
use Rattle.std.specs.Prelude.{not, nat_lt}
use Rattle.std.proofs.lemmas.Bool.{ltb-false}
use Rattle.std.proofs.lemmas.List.{append-nil}
use Rattle.dali_record.specs.declared.operations.Pending.{Pending}
use Rattle.dali_record.specs.declared.records.Record.{Record}
use Rattle.dali_record.specs.declared.records.Record.TheVariants.{Commit}
use Rattle.dali_region.specs.State.{RegionState}
use Rattle.dali_store.specs.Store.{Files as Disk}
use Rattle.dali_store.specs.declared.store.Store.{Ghosts}
use Rattle.dali_runs.specs.declared.causes.Cause.{Cause}
use Rattle.dali_runs.specs.State.{SystemState, CoreState, stable}
use Rattle.dali_runs.specs.Steps.{store_stopped, taken}
use Rattle.dali_crash.specs.Checkpoints.{Point}
use Rattle.dali_crash.specs.Traces.{Start, bases_of}
use Rattle.dali_core.specs.Vault.Vaulted.{Vaulted}
use Rattle.dali_core.specs.Cores.{IsWholeCore}
use Rattle.dali_core.specs.Flushed.{AllFlushed, HasStopped}
use Rattle.dali_transcripts.specs.Words.{Act, Commits as CommitAct, Why, StoppedBy, StoreFailed}
use Rattle.dali_transcripts.specs.World.{Deed, Logs, Meets, Happening, World, log_of, IsFlushed, has_failed}
use Rattle.dali_transcripts.specs.Moves.{Within as IsWithin, at, Move, Commits as CommitsMove, CommitFails, own}
use Rattle.dali_transcripts.specs.Causes.{HasCause, AreBehind, FindsFailure}
use Rattle.dali_transcripts.specs.Laws.{receipts_from}
use Rattle.dali_transcripts.specs.Rounds.{Standing}
use Rattle.dali_transcripts.proofs.Growing.{behinds}
use Rattle.dali_transcripts.specs.Clients.Told.{act_of}
use Rattle.dali_transcripts.specs.Telling.Tells.{after}
use Rattle.dali_transcripts.proofs.TellingLemmas.Told.{log_is}
use Rattle.dali_turns.specs.declared.client.State.{State}
use Rattle.dali_turns.specs.declared.client.Transaction.{Transaction}
use Rattle.dali_turns.specs.Stood.{Stood}
use Rattle.dali_turns.specs.Commits.{FitsCommitting}
use Rattle.dali_turns.proofs.Refusals.{front, done_last, right_now, stop_now}
use Rattle.dali_turns.proofs.Doing.{Did, vault_stops, did_meet}
use Rattle.dali_turns.proofs.Flushing.{did_flush, did_fault}

pub not_before : (n m : ℕ) → not (nat_lt n m) ≡ true → m ≤ n
not_before n m e = by_test (nat_lt n m) refl e
  where
    by_test : (b : Bool) → nat_lt n m ≡ b → not b ≡ true → m ≤ n
    by_test true less h = absurd (cc)
    by_test false more h = ltb-false n m more

module _ {V : Type 0} (means : Ghosts V)
    (precheck : Bool) (s : Start) (B : List (List Record)) (p : Point) (w : World) (a : Standing) (gs : List RegionState) (y : SystemState) (v : Vaulted V) (st : State)
    (stood : Stood means s B p w precheck gs y v) where
  pub stable_is : stable w.core ≡ y.first + v.flushed
  stable_is = ap stable stood.tells.core ∙ (ap (λ (m : SystemState). m.first + p.core.vault.flushed) stood.stands.at.system ∙ ap (λ n. y.first + n) stood.stands.at.vault.vault.flushed)

  module _ (x : Transaction) (number : ℕ) (us : List Pending) (next : ℕ) (rest : List Act) (fits : FitsCommitting p w a rest x number us next) where
    abbrev pub commands : List Act
    commands = map act_of x.commands.now

    pub in_commit : a.spot ≡ at (IsWithin x.txn x.tries commands x.deadly false) (CommitAct ∷ fits.more)
    in_commit = fits.spot ∙ ap (at (IsWithin x.txn x.tries commands x.deadly false)) fits.commits

    -- ---- the flush
    module _ (z : SystemState) (u : Vaulted V) (z_is : z ≡ taken y) (ran : u.stopped ≡ false) (whole : IsWholeCore means.told gs y v → IsWholeCore means.told gs z u) (f : AllFlushed means s p gs v z u) where
      pub flushed_did : Did means precheck s B p w a.client st gs y v [] f.batches f.to gs z u
      flushed_did = did_flush means precheck s B p w a.client st gs y z v u stood z_is ran whole f

      abbrev pub flushed_world : World
      flushed_world = after w a.client [] f.to.core

      log_same : length (log_of flushed_world) ≡ length (log_of w)
      log_same = ap length (log_is w a.client [] f.to.core ∙ append-nil (log_of w))

      pub is_flushed : IsFlushed flushed_world number
      is_flushed = omega (arith, fits.below, f.all, log_same, ap length flushed_did.goes.tells.log)

      pub below_there : number < length (log_of flushed_world)
      below_there = omega (arith, fits.below, log_same)

      pub behind_there : AreBehind flushed_world a.client x.txn fits.behind
      behind_there = behinds w flushed_world flushed_did.goes.grows a.client x.txn fits.behind fits.are

      abbrev pub commits : Move
      commits = CommitsMove x.txn x.tries commands x.deadly number fits.behind fits.more

      pub own_commits : a.pending ++ receipts_from (length (log_of w)) [] ≡ own commits
      own_commits = append-nil a.pending ∙ fits.pending

      pub commits_cause : HasCause flushed_world a.client commits
      commits_cause = (is_flushed, behind_there)

    -- ---- nothing of it is flushed
    module _ (unflushed : y.first + v.flushed ≤ number) where
      pub none_behind : fits.behind ≡ []
      none_behind = ⊎_elim (λ none. none.0) (λ there. let less : number < y.first + v.flushed = subst (λ n. number < n) stable_is there in absurd (omega (arith, less, unflushed))) fits.first

      own_there : (m : Deed) → a.pending ++ (length (log_of w), m) ∷ [] ≡ (number, Logs (Commit x.txn)) ∷ (length (log_of w), m) ∷ []
      own_there m = ap (λ xs. xs ++ (length (log_of w), m) ∷ []) (fits.pending ∙ ap (λ ys. (number, Logs (Commit x.txn)) ∷ ys) none_behind)

      -- ---- the flush fails
      module _ (z : SystemState) (u : Vaulted V) (z_is : z ≡ store_stopped (taken y)) (stopped : u.stopped ≡ true) (same : u.flushed ≡ v.flushed) (whole : IsWholeCore means.told gs y v → IsWholeCore means.told gs z u)
          (f : HasStopped means s B p gs z u) where
        pub lost_did : Did means precheck s B p w a.client st gs y v (Meets StoreFailed ∷ []) B f.to gs z u
        lost_did = did_fault means precheck s B p w a.client st gs y z v u stood z_is stopped whole f

        abbrev pub fault : Move
        fault = CommitFails x.txn x.tries commands x.deadly number (length (log_of w)) StoreFailed fits.more

        pub own_fault : a.pending ++ receipts_from (length (log_of w)) (Meets StoreFailed ∷ []) ≡ own fault
        own_fault = own_there (Meets StoreFailed)

        stable_there : stable f.to.core ≡ y.first + v.flushed
        stable_there = ap (λ (m : SystemState). m.first + f.to.core.vault.flushed) (f.at.system ∙ z_is) ∙ ap (λ n. y.first + n) (f.at.vault.vault.flushed ∙ same)

        pub fault_cause : HasCause (after w a.client (Meets StoreFailed ∷ []) f.to.core) a.client fault
        fault_cause = ((f.at.vault.vault.stopped ∙ stopped, omega (arith, unflushed, stable_there)), tt)

      -- ---- the store had failed
      module _ (had : v.stopped ≡ true) where
        pub cause_is : (cause : Cause) × (y.stop ≡ Some cause)
        cause_is = by_stop y.stop refl
          where
            by_stop : (o : Option Cause) → y.stop ≡ o → (cause : Cause) × (y.stop ≡ Some cause)
            by_stop None e = let some : is_some y.stop ≡ true = stood.stops had in let none : is_some y.stop ≡ false = ap is_some e in let no : true ≡ false = sym some ∙ none in absurd (cc)
            by_stop (Some cause) e = (cause, e)

        abbrev pub why : Why
        why = StoppedBy cause_is.0

        abbrev pub here : World
        here = after w a.client (Meets why ∷ []) p.core

        pub met_did : Did means precheck s B p w a.client st gs y v (Meets why ∷ []) B p gs y v
        met_did = did_meet means precheck s B p w gs y v stood a.client st why tt
            (right_now w a.client p.core CommitAct (Some x.txn) why
            (stop_now (bases_of s) s.log w a.client p stood.stands.at.vault.run stood.tells (vault_stops means precheck s B p w gs y v stood) CommitAct (Some x.txn) cause_is.0 tt (ap (λ (m : SystemState). m.stop) stood.stands.at.system ∙ cause_is.1)))

        abbrev pub finds : Move
        finds = CommitFails x.txn x.tries commands x.deadly number (length (log_of w)) why fits.more

        pub own_finds : a.pending ++ receipts_from (length (log_of w)) (Meets why ∷ []) ≡ own finds
        own_finds = own_there (Meets why)

        had_failed : has_failed w.old.vault.stopped w.happened ≡ true
        had_failed = sym stood.tells.together.faults.stopped ∙ (ap (λ (c : CoreState). c.vault.stopped) stood.tells.core ∙ (stood.stands.at.vault.vault.stopped ∙ had))

        finds_failure : FindsFailure here a.client (length (log_of w)) why
        finds_failure = (done_last w a.client (Meets why) p.core, ap (λ (xs : List Happening). has_failed w.old.vault.stopped xs) (front w a.client (Meets why) p.core) ∙ had_failed)

        pub finds_cause : HasCause here a.client finds
        finds_cause = ((stood.stands.at.vault.vault.stopped ∙ had, omega (arith, unflushed, ap stable (sym stood.tells.core) ∙ stable_is)), finds_failure)

        pub stop_is : is_some y.stop ≡ true
        stop_is = stood.stops had
