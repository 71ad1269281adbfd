-- The end of a transaction that is refused, since the engine is stopped: a commit, an abort, and the end of the block.
use Rattle.std.proofs.Common.{◌≡◌, ℕ, Bool, true, false, List, [], ◌∷◌, ◌++◌, length, Option, Some, None, is_some, refl, ap, sym, subst, ◌∙◌}
use Rattle.dali_record.specs.declared.records.Record.{Record}
use Rattle.dali_region.specs.State.{RegionState}
use Rattle.dali_store.specs.Store.{Files as Disk}
use Rattle.dali_store.specs.declared.store.Store.{Ghosts}
use Rattle.dali_runs.specs.declared.causes.Cause.{Cause}
use Rattle.dali_runs.specs.State.{SystemState}
use Rattle.dali_crash.specs.Checkpoints.{Point}
use Rattle.dali_crash.specs.Traces.{Start, bases_of}
use Rattle.dali_core.specs.Vault.Vaulted.{Vaulted}
use Rattle.dali_transcripts.specs.Words.{Act, Commits as CommitAct, Aborts as AbortAct, Why as Reason, StoppedBy, LeftOpen, Refused}
use Rattle.dali_transcripts.specs.World.{Meets, World, log_of}
use Rattle.dali_transcripts.specs.Moves.{Outside as IsOutside, at, Move, IsRefusedCommit, IsRefusedAbort, StaysOpen, from, said, own, to}
use Rattle.dali_transcripts.specs.Causes.{CanStop, MetCause, HasCause}
use Rattle.dali_transcripts.specs.Rounds.{Standing, IsPlaced}
use Rattle.std.specs.Prelude.{map}
use Rattle.dali_transcripts.specs.Clients.Told.{act_of}
use Rattle.dali_turns.specs.declared.client.Client.{Client}
use Rattle.dali_turns.specs.declared.client.State.{State}
use Rattle.dali_turns.specs.declared.client.State.TheVariants.{Outside, Within}
use Rattle.dali_turns.specs.declared.client.Transaction.{Transaction}
use Rattle.dali_turns.specs.Stood.{Stood}
use Rattle.dali_turns.specs.Within.{AreSoFar, FitsWithin}
use Rattle.dali_turns.specs.Fits.{rest_of, lines_of, IsOf, Fits}
use Rattle.dali_turns.specs.Goes.{RowsTell, Went}
use Rattle.dali_transcripts.specs.Telling.Tells.{after}
use Rattle.dali_turns.proofs.Refusals.{HasCauseNow, met_now, right_now, stop_now}
use Rattle.dali_turns.proofs.Doing.{Did, vault_stops, did_meet, ended, outside_by, went_by, went_silent}

module _ {V : Type 0} (means : Ghosts V)
    (precheck : Bool) (s : Start) (B : List (List Record)) (p : Point) (w : World) (a : Standing) (gs : List RegionState) (y : SystemState) (v : Vaulted V) (k j : Client) (x : Transaction)
    (stood : Stood means s B p w precheck gs y v) (is : IsOf w a k) (fits : FitsWithin p w a (rest_of k) x) (cause : Cause) (stop : y.stop ≡ Some cause) where
  abbrev why : Reason
  why = StoppedBy cause

  abbrev here : World
  here = after w a.client (Meets why ∷ []) p.core

  -- whatever it was told
  stopped_now : (act : Act) → CanStop act → HasCauseNow w a.client p.core act (Some x.txn) why
  stopped_now act can = stop_now (bases_of s) s.log w a.client p stood.stands.at.vault.run stood.tells (vault_stops means precheck s B p w gs y v stood) act (Some x.txn) cause can
      (ap (λ (z : SystemState). z.stop) stood.stands.at.system ∙ stop)

  met : (act : Act) → CanStop act → MetCause here a.client (length (log_of w)) act (Some x.txn) why
  met act can = met_now w a.client p.core act (Some x.txn) why (stopped_now act can)

  did : Did means precheck s B p w a.client (Within x) gs y v (Meets why ∷ []) B p gs y v
  did = did_meet means precheck s B p w gs y v stood a.client (Within x) why tt (right_now w a.client p.core AbortAct (Some x.txn) why (stopped_now AbortAct tt))

  -- no transaction is live while the engine runs: it doesn't run
  rows : (new : State) → RowsTell (Within x) y new y
  rows new runs = let no : Some cause ≡ None = sym stop ∙ runs in absurd (cc)

  module _ (m : Move) (more : List Act) (starts : a.spot ≡ from m) (own_is : own m ≡ (length (log_of w), Meets why) ∷ []) (none : a.pending ≡ []) (caused : HasCause here a.client m)
      (ends : to m ≡ at (IsOutside true) more) (placed : IsPlaced false more) where
    own_was : a.pending ++ (length (log_of w), Meets why) ∷ [] ≡ own m
    own_was = ap (λ xs. xs ++ (length (log_of w), Meets why) ∷ []) none ∙ sym own_is

    refused : j.transcript.client ≡ k.transcript.client → lines_of j ≡ lines_of k ++ said m → rest_of j ≡ more → j.state ≡ Outside → Went means precheck s B p w a (Within x) gs y v true j gs y v
    refused client lines rest state =
        went_by means precheck s B B p p w a (Within x) gs gs y y v v (Meets why ∷ []) k j is did m starts own_was caused client lines
        (subst (λ (z : State). Fits means s B p here gs y v (ended a m) (rest_of j) z) (sym state) (outside_by y a m true more (rest_of j) rest (λ e. ap is_some stop) ends placed))
        (rows j.state)

    unsaid : j.transcript ≡ k.transcript → Went means precheck s B p w a (Within x) gs y v false j gs y v
    unsaid same = went_silent means precheck s B B p p w a (Within x) gs gs y y v v (Meets why ∷ []) k j is did m starts own_was caused same

  -- what is left of the block, where it is told to end the transaction
  module _ (act : Act) (more : List Act) (next : rest_of k ≡ act ∷ more) (none : AreSoFar w a.client x.txn (act ∷ more) a.pending → a.pending ≡ []) where
    none_pending : a.pending ≡ []
    none_pending = none (subst (λ acts. AreSoFar w a.client x.txn acts a.pending) next fits.so_far)

    placed_there : IsPlaced true (act ∷ more)
    placed_there = subst (IsPlaced true) next fits.placed

  -- ---- a commit
  module _ (more : List Act) (next : rest_of k ≡ CommitAct ∷ more) where
    abbrev commit_move : Move
    commit_move = IsRefusedCommit x.txn x.tries (map act_of x.commands.now) x.deadly fits.said (length (log_of w)) why more

    commit_starts : a.spot ≡ from commit_move
    commit_starts = fits.spot ∙ ap (λ acts. at (from commit_move).place acts) next

    pub commit_refused : j.transcript.client ≡ k.transcript.client → lines_of j ≡ lines_of k ++ Refused CommitAct why ∷ [] → rest_of j ≡ more → j.state ≡ Outside → Went means precheck s B p w a (Within x) gs y v true j gs y v
    commit_refused = refused commit_move more commit_starts refl (none_pending CommitAct more next (λ e. e)) (met CommitAct tt) refl (placed_there CommitAct more next (λ e. e))

    pub commit_unsaid : j.transcript ≡ k.transcript → Went means precheck s B p w a (Within x) gs y v false j gs y v
    commit_unsaid = unsaid commit_move more commit_starts refl (none_pending CommitAct more next (λ e. e)) (met CommitAct tt) refl (placed_there CommitAct more next (λ e. e))

  -- ---- an abort
  module _ (more : List Act) (next : rest_of k ≡ AbortAct ∷ more) where
    abbrev abort_move : Move
    abort_move = IsRefusedAbort x.txn x.tries (map act_of x.commands.now) x.deadly fits.said [] (length (log_of w)) why more

    abort_starts : a.spot ≡ from abort_move
    abort_starts = fits.spot ∙ ap (λ acts. at (from abort_move).place acts) next

    pub abort_refused : j.transcript.client ≡ k.transcript.client → lines_of j ≡ lines_of k ++ Refused AbortAct why ∷ [] → rest_of j ≡ more → j.state ≡ Outside → Went means precheck s B p w a (Within x) gs y v true j gs y v
    abort_refused = refused abort_move more abort_starts refl (none_pending AbortAct more next (λ e. e)) (tt, met AbortAct tt) refl (placed_there AbortAct more next (λ e. e))

    pub abort_unsaid : j.transcript ≡ k.transcript → Went means precheck s B p w a (Within x) gs y v false j gs y v
    abort_unsaid = unsaid abort_move more abort_starts refl (none_pending AbortAct more next (λ e. e)) (tt, met AbortAct tt) refl (placed_there AbortAct more next (λ e. e))

  -- ---- the end of the block
  module _ (next : rest_of k ≡ []) where
    abbrev open_move : Move
    open_move = StaysOpen x.txn x.tries (map act_of x.commands.now) x.deadly fits.said [] (length (log_of w)) cause

    open_starts : a.spot ≡ from open_move
    open_starts = fits.spot ∙ ap (λ acts. at (from open_move).place acts) next

    none_open : a.pending ≡ []
    none_open = subst (λ acts. AreSoFar w a.client x.txn acts a.pending) next fits.so_far

    pub end_refused : j.transcript.client ≡ k.transcript.client → lines_of j ≡ lines_of k ++ LeftOpen ∷ [] → rest_of j ≡ [] → j.state ≡ Outside → Went means precheck s B p w a (Within x) gs y v true j gs y v
    end_refused = refused open_move [] open_starts refl none_open (tt, met AbortAct tt) refl tt

    pub end_unsaid : j.transcript ≡ k.transcript → Went means precheck s B p w a (Within x) gs y v false j gs y v
    end_unsaid = unsaid open_move [] open_starts refl none_open (tt, met AbortAct tt) refl tt
