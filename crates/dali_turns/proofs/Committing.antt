-- A client commits its transaction, one step at a time: its record, the flush, each of its removals, its end; or the store fails in that.
use Rattle.std.proofs.Common.{◌≡◌, ℕ, ◌+◌, ◌<◌, ◌≤◌, ◌⊎◌, drop, Bool, true, false, List, [], ◌∷◌, ◌++◌, length, map, Option, Some, None, is_some, refl, ap, sym, subst, ◌∙◌, inl, inr, arith}
use Rattle.std.specs.Prelude.{◌==◌, if◌then◌else◌}
use Rattle.std.specs.List.{list_all}
use Rattle.std.proofs.lemmas.List.{append_cancel_right, length-append, map-append}
use Rattle.dali_runs.proofs.CountsLemmas.Lists.{equal, self}
use Rattle.dali_record.specs.declared.records.Record.{Record}
use Rattle.dali_record.specs.declared.records.Record.TheVariants.{Ended, Commit}
use Rattle.dali_region.specs.State.{RegionState}
use Rattle.dali_att.specs.declared.state.State.{State as RowState}
use Rattle.dali_att.specs.declared.state.State.TheVariants.{Live, Committed}
use Rattle.dali_store.specs.Store.{Files as Disk}
use Rattle.dali_runs.specs.State.{SystemState, CoreState, row_of, state_in, state_of}
use Rattle.dali_runs.specs.Steps.{commit_logged, taken}
use Rattle.dali_runs.specs.Wholes.{latched_in}
use Rattle.dali_runs.specs.Courses.{Step, Commits, Ends, Takes, Flushes}
use Rattle.dali_crash.specs.Checkpoints.{Does, Point, IsPointStep, IsPointCourse}
use Rattle.dali_crash.specs.Traces.{Start, bases_of}
use Rattle.dali_core.specs.Vault.Vaulted.{Vaulted}
use Rattle.dali_calls.proofs.SingleLemmas.Lists.{all_both}
use Rattle.dali_clean.specs.Others.{OthersStay}
use Rattle.dali_core.specs.Cores.{IsWholeCore}
use Rattle.dali_transactions.specs.Ended.{AreOfEnd}
use Rattle.dali_transcripts.specs.Words.{Act, Commits as CommitAct, CommitOk, Refused, StoreFailed}
use Rattle.dali_transcripts.specs.World.{Deed, Logs, Meets, World, logged_by, log_of, IsFlushed, is_dead_in, is_claimed_in}
use Rattle.dali_transcripts.specs.Moves.{Outside as IsOutside, Within as IsWithin, at, Move, Commits as CommitsMove, own}
use Rattle.dali_transcripts.specs.Causes.{IsBehind, AreBehind, HasCause}
use Rattle.dali_transcripts.specs.Laws.{receipts_from}
use Rattle.dali_transcripts.specs.Rounds.{Standing, IsPlaced, by}
use Rattle.dali_transcripts.proofs.Growing.{behinds}
use Rattle.dali_transcripts.specs.Clients.Told.{act_of}
use Rattle.dali_transcripts.specs.Telling.Tells.{after, AreRightThen, Goes}
use Rattle.dali_transcripts.specs.Telling.Laws.{AreOfCourse}
use Rattle.dali_transcripts.proofs.TellingLemmas.Told.{log_is}
use Rattle.dali_transcripts.proofs.TellingLemmas.Courses.{after_after}
use Rattle.dali_turns.specs.declared.client.Client.{Client}
use Rattle.dali_turns.specs.declared.client.State.{State}
use Rattle.dali_turns.specs.declared.client.State.TheVariants.{Outside, Within}
use Rattle.dali_turns.specs.declared.client.Transaction.{Transaction}
use Rattle.dali_turns.specs.Stood.{Stood}
use Rattle.dali_turns.specs.Within.{AreSoFar, FitsWithin}
use Rattle.dali_turns.specs.Fits.{rest_of, lines_of, IsOf, Owns, Fits}
use Rattle.dali_turns.specs.Goes.{Went}
use Rattle.dali_turns.proofs.Beside.{is_out_of}
use Rattle.dali_turns.proofs.Refusals.{runs_there, says_none}
use Rattle.dali_turns.proofs.Doing.{Did, vault_stops, ended, outside_by, went_by, went_silent}
use Rattle.dali_turns.proofs.Flushing.{has_stop}
use Rattle.dali_turns.proofs.Sides.{At, InHand, Sided, AreSolos, sided, one_goes, at_next, state_then, receipts_then, course_split, courses_told, logged_is, solos_sides, behinds_of, ended_right}
use Rattle.dali_turns.proofs.Along.{end_out, out_both}
use Rattle.dali_turns.proofs.Closing.{unclaimed_then, lived}
use Rattle.dali_transactions.specs.Beside.Went.{is_open, Went as GoneOn}
use Rattle.std.specs.FinMap as finmap
use Rattle.dali_geometry.specs.Sizes.{Sizes}
use Rattle.dali_record.specs.declared.operations.Pending.{Pending}
use Rattle.dali_store.specs.declared.store.Store.{Ghosts}
use Rattle.dali_runs.proofs.CountsLemmas.Lists.{same_number}
use Rattle.dali_runs.specs.Facts.Ends.{IsEnding}
use Rattle.dali_calls.specs.Stepwise.Beside.{LeavesBe}
use Rattle.dali_core.specs.Flushed.{AllFlushed, HasStopped}
use Rattle.dali_transactions.specs.Steps.{LogsCommit}
use Rattle.dali_transactions.proofs.BesideLemmas.Committing.{commit_logs_go}
use Rattle.dali_transcripts.proofs.Growing.{flushed}
use Rattle.dali_turns.specs.Clients.{Stays}
use Rattle.dali_turns.specs.Commits.{FitsCommitting}
use Rattle.dali_turns.specs.Goes.{RowsTell}
use Rattle.dali_turns.proofs.Beside.{course_leaves}
use Rattle.dali_turns.proofs.Doing.{behind, older, did_nothing, went_on}
use Rattle.dali_turns.proofs.Locking.{still_got}
use Rattle.dali_turns.proofs.Awaiting.{in_commit, flushed_did, is_flushed, below_there, behind_there, lost_did, fault, own_fault, fault_cause, met_did, finds, own_finds, finds_cause}
use Rattle.dali_turns.proofs.Along.{did_calm}
use Rattle.dali_turns.proofs.Closing.{was_open}
use Rattle.std.proofs.lemmas.List.{append-nil, append_assoc}
use Rattle.dali_runs.specs.Steps.{store_stopped}
use Rattle.dali_runs.specs.State.{lock_of}
use Rattle.dali_transcripts.specs.Moves.{Receipt, from, said, to as leads_to}

module _ {V : Type 0} (means : Ghosts V)
    (precheck : Bool) (s : Start) (B : List (List Record)) (p : Point) (w : World) (gs : List RegionState) (y : SystemState) (v : Vaulted V) (stood : Stood means s B p w precheck gs y v)
    (c : ℕ) (state : State) (t : ℕ) (lives : state_of y t ≡ Some Live) (owns : (u : ℕ) → t ≡ u → Owns state u) (runs : y.stop ≡ None) where
  at0 : At (bases_of s) s.log w p
  at0 = record { run = stood.stands.at.vault.run; tells = stood.tells; whole = stood.stands.whole }

  here : (u : ℕ) → state_of p.core.system u ≡ state_of y u
  here u = ap (λ (x : SystemState). state_of x u) stood.stands.at.system

  apart_from : (u : ℕ) → (Owns state u → ⊥) → (t == u) ≡ false
  apart_from u other = by_test (t == u) refl
    where
      by_test : (b : Bool) → (t == u) ≡ b → (t == u) ≡ false
      by_test true e = absurd (other (owns u (equal t u e)))
      by_test false e = e

  vault_runs : v.stopped ≡ false
  vault_runs = by_stop v.stopped refl
    where
      by_stop : (b : Bool) → v.stopped ≡ b → v.stopped ≡ false
      by_stop false e = e
      by_stop true e = let some : is_some y.stop ≡ true = stood.stops e in let none : is_some y.stop ≡ false = ap is_some runs in let no : true ≡ false = sym some ∙ none in absurd (cc)

  -- the engine runs there
  commit_right : (d : CoreState) → AreRightThen w c (Logs (Commit t) ∷ []) d
  commit_right d = (runs_there (bases_of s) s.log w c p stood.stands.at.vault.run stood.tells (vault_stops means precheck s B p w gs y v stood) (Logs (Commit t)) d (ap (λ (m : SystemState). m.stop) stood.stands.at.system ∙ runs), tt)

  -- ---- its record
  module _ (k : Point) (st : IsPointStep p (Does (Commits t)) k) where
    abbrev w1 : World
    w1 = after w c (Logs (Commit t) ∷ []) k.core

    at1 : At (bases_of s) s.log w1 k
    at1 = at_next (bases_of s) s.log c w p k (Commits t) (Logs (Commit t) ∷ []) at0 st refl (commit_right k.core)

    state1 : (u : ℕ) → state_of k.core.system u ≡ (if t == u then Some Committed else state_of p.core.system u)
    state1 u = state_then w c (Logs (Commit t) ∷ []) p k u stood.tells at1.tells

    own1 : state_of k.core.system t ≡ Some Committed
    own1 = state1 t ∙ ap (λ (b : Bool). let o : Option RowState = if b then Some Committed else state_of p.core.system t in o) (self t)

    other1 : (u : ℕ) → (t == u) ≡ false → state_of k.core.system u ≡ state_of p.core.system u
    other1 u e = state1 u ∙ ap (λ (b : Bool). if b then Some Committed else state_of p.core.system u) e

-- ---- the client is between two calls
module _ {V : Type 0} (means : Ghosts V)
    (precheck : Bool) (s : Start) (B : List (List Record)) (p : Point) (w : World) (a : Standing) (gs : List RegionState) (y : SystemState) (v : Vaulted V) (k j : Client) (x : Transaction)
    (stood : Stood means s B p w precheck gs y v) (is : IsOf w a k) (fits : FitsWithin p w a (rest_of k) x) (runs : y.stop ≡ None) (more : List Act) (next : rest_of k ≡ CommitAct ∷ more) where
  not_said : fits.said ≡ false
  not_said = says_none p.core.system fits.said fits.may (ap (λ (m : SystemState). m.stop) stood.stands.at.system ∙ runs)

  spot : a.spot ≡ at (IsWithin x.txn x.tries (map act_of x.commands.now) x.deadly false) (CommitAct ∷ more)
  spot = fits.spot ∙ (ap (λ b. at (IsWithin x.txn x.tries (map act_of x.commands.now) x.deadly b) (rest_of k)) not_said ∙ ap (at (IsWithin x.txn x.tries (map act_of x.commands.now) x.deadly false)) next)

  none : a.pending ≡ []
  none = subst (λ acts. AreSoFar w a.client x.txn acts a.pending) next fits.so_far

  placed : IsPlaced false more
  placed = subst (IsPlaced true) next fits.placed

  lives_now : state_of y x.txn ≡ Some Live
  lives_now = ap (λ (m : SystemState). state_of m x.txn) (sym stood.stands.at.system) ∙ fits.lives

  count : length p.log ≡ length (log_of w)
  count = ap length stood.tells.log

  -- ---- its record
  abbrev then_system : SystemState
  then_system = commit_logged y x.txn

  module _ (us : List Pending) (logs : LogsCommit means x.txn us s B p gs y v) (others : OthersStay gs y x.txn gs then_system) where
    abbrev to : Point
    to = logs.logged.to

    step : IsPointStep p (Does (Commits x.txn)) to
    step = subst (λ (n : Point). IsPointStep p (Does (Commits x.txn)) n) logs.logged.course.2 logs.logged.course.1

    abbrev deeds : List Deed
    deeds = Logs (Commit x.txn) ∷ []

    abbrev now : World
    now = after w a.client deeds to.core

    own_there : state_of to.core.system x.txn ≡ Some Committed
    own_there = own1 means precheck s B p w gs y v stood a.client (Within x) x.txn lives_now (λ n e. e) runs to step

    own_now : state_of then_system x.txn ≡ Some Committed
    own_now = ap (λ (m : SystemState). state_of m x.txn) (sym logs.logged.stands.at.system) ∙ own_there

    did : Did means precheck s B p w a.client (Within x) gs y v deeds B to gs then_system v
    unfolding commit_logs_go
    did = did_calm means precheck s B p w gs y v stood a.client (Within x) x.txn (Commit x.txn ∷ []) gs then_system (commit_logs_go means s B p gs y v x.txn stood.stands logs.logged others) deeds
        (to, deeds, [], step, refl, commit_right means precheck s B p w gs y v stood a.client (Within x) x.txn lives_now (λ n e. e) runs to.core, (refl, refl), refl)
        (unclaimed_then gs gs y then_system x.txn others stood.quiet (ap is_claimed_in own_now))
        (λ u there other. apart_from means precheck s B p w gs y v stood a.client (Within x) x.txn lives_now (λ n e. e) runs u other) (λ b. refl)

    logged_below : length (log_of w) < length (log_of now)
    logged_below = omega (arith, ap length (log_is w a.client deeds to.core), length-append (log_of w) (Commit x.txn ∷ []))

    fits_there : (rest : List Act) → rest ≡ rest_of k → FitsCommitting to now (behind a w deeds) rest x (length (log_of w)) us 0
    fits_there rest same = record {
      more = more;
      commits = same ∙ next;
      spot = spot ∙ ap (at (IsWithin x.txn x.tries (map act_of x.commands.now) x.deadly false)) (sym (same ∙ next));
      placed = subst (IsPlaced true) (sym same) fits.placed;
      behind = [];
      pending = ap (λ xs. xs ++ receipts_from (length (log_of w)) deeds) none;
      are = tt;
      first = inl (refl, refl);
      below = logged_below;
      committed = own_there;
      locks = still_got p to w now did.goes.grows a.client x.txn
          (λ n. ap (λ (m : SystemState). lock_of m x.txn n) logs.logged.stands.at.system ∙ sym (ap (λ (m : SystemState). lock_of m x.txn n) stood.stands.at.system)) fits.locks;
      ending = λ up. subst (λ (z : Sizes). IsEnding z to.log x.txn us) (ap (λ (m : SystemState). m.sizes) (sym logs.logged.stands.at.system)) logs.ending;
    }

    rows_there : (st : State) → ((n : ℕ) → x.txn ≡ n → Owns st n) → RowsTell (Within x) y st then_system
    rows_there st owns up n there = by_test (x.txn == n) refl
      where
        by_test : (b : Bool) → (x.txn == n) ≡ b → Owns st n ⊎ ((is_open (state_of y n) ≡ true) × (Owns (Within x) n → ⊥))
        by_test true e = inl (owns n (equal x.txn n e))
        by_test false e = inr (
          ap is_open (sym (ap (λ (m : SystemState). state_of m n) (sym logs.logged.stands.at.system) ∙ (other1 means precheck s B p w gs y v stood a.client (Within x) x.txn lives_now (λ n e. e) runs to step n e ∙ ap (λ (m : SystemState). state_of m n) stood.stands.at.system))) ∙ there,
          λ own. let yes : (x.txn == n) ≡ true = same_number x.txn n own in let no : true ≡ false = sym yes ∙ e in absurd (cc),
        )

    commit_logged_on : (st : State) → Stays k st j → (Fits means s B to now gs then_system v (behind a w deeds) (rest_of j) st) → ((n : ℕ) → x.txn ≡ n → Owns st n)
        → Went means precheck s B p w a (Within x) gs y v true j gs then_system v
    commit_logged_on st f fits_so owns =
        went_on means precheck s B B p to w a (Within x) gs gs y then_system v v deeds k j is did true f.transcript
        (subst (λ (n : State). Fits means s B to now gs then_system v (behind a w deeds) (rest_of j) n) (sym f.stands) fits_so)
        (λ e. subst (λ (n : State). RowsTell (Within x) y n then_system) (sym f.stands) (rows_there st owns))

    pub commit_logged_to : (number : ℕ) → number ≡ length (log_of w) → (st : State) → Stays k st j → (FitsCommitting to now (behind a w deeds) (rest_of j) x number us 0 → Fits means s B to now gs then_system v (behind a w deeds) (rest_of j) st)
        → ((n : ℕ) → x.txn ≡ n → Owns st n) → Went means precheck s B p w a (Within x) gs y v true j gs then_system v
    commit_logged_to number count st f fits_as owns =
        commit_logged_on st f (fits_as (subst (λ n. FitsCommitting to now (behind a w deeds) (rest_of j) x n us 0) (sym count) (fits_there (rest_of j) (ap (map act_of) f.rest)))) owns

-- ---- behind it: the client stands in the commit, in the state st
module _ {V : Type 0} (means : Ghosts V)
    (precheck : Bool) (s : Start) (B : List (List Record)) (p : Point) (w : World) (a : Standing) (gs : List RegionState) (y : SystemState) (v : Vaulted V) (k j : Client) (x : Transaction) (st : State)
    (stood : Stood means s B p w precheck gs y v) (is : IsOf w a k) (number : ℕ) (us : List Pending) (next : ℕ) (fits : FitsCommitting p w a (rest_of k) x number us next) (owns : (n : ℕ) → x.txn ≡ n → Owns st n) (only : (n : ℕ) → Owns st n → x.txn ≡ n) where
  abbrev commands : List Act
  commands = map act_of x.commands.now

  starts : a.spot ≡ at (IsWithin x.txn x.tries commands x.deadly false) (CommitAct ∷ fits.more)
  starts = in_commit means precheck s B p w a gs y v st stood x number us next (rest_of k) fits

  placed_behind : IsPlaced false fits.more
  placed_behind = subst (IsPlaced true) fits.commits fits.placed

  open_now : is_open (state_of y x.txn) ≡ true
  open_now = ap (λ (m : SystemState). is_open (state_of m x.txn)) (sym stood.stands.at.system) ∙ ap is_open fits.committed

  -- the rows stay
  same_rows : (z : SystemState) (dest : State) → z.table ≡ y.table → ((n : ℕ) → x.txn ≡ n → Owns dest n) → RowsTell st y dest z
  same_rows z dest same there up n alive = by_test (x.txn == n) refl
    where
      by_test : (b : Bool) → (x.txn == n) ≡ b → Owns dest n ⊎ ((is_open (state_of y n) ≡ true) × (Owns st n → ⊥))
      by_test true e = inl (there n (equal x.txn n e))
      by_test false e = inr (
        ap (λ m. is_open (state_in (finmap.get m n))) (sym same) ∙ alive,
        λ own. let yes : (x.txn == n) ≡ true = same_number x.txn n (only n own) in let no : true ≡ false = sym yes ∙ e in absurd (cc),
      )

  -- ---- the flush
  module _ (z : SystemState) (u : Vaulted V) (z_is : z ≡ taken y) (ran : u.stopped ≡ false) (whole : IsWholeCore means.told gs y v → IsWholeCore means.told gs z u) (f : AllFlushed means s p gs v z u) where
    did_it : Did means precheck s B p w a.client st gs y v [] f.batches f.to gs z u
    did_it = flushed_did means precheck s B p w a gs y v st stood x number us next (rest_of k) fits z u z_is ran whole f

    abbrev flushed_world : World
    flushed_world = after w a.client [] f.to.core

    be : LeavesBe x.txn p.log p.core f.to.log f.to.core
    be = course_leaves x.txn p f.to (Does Takes ∷ Does Flushes ∷ []) (older means precheck s B p w gs y v stood a.client st x.txn open_now) refl f.course

    fits_flushed : (rest : List Act) → rest ≡ rest_of k → FitsCommitting f.to flushed_world (behind a w []) rest x number us next
    fits_flushed rest same = record {
      more = fits.more;
      commits = same ∙ fits.commits;
      spot = fits.spot ∙ ap (at (IsWithin x.txn x.tries commands x.deadly false)) (sym same);
      placed = subst (IsPlaced true) (sym same) fits.placed;
      behind = fits.behind;
      pending = append-nil a.pending ∙ fits.pending;
      are = behind_there means precheck s B p w a gs y v st stood x number us next (rest_of k) fits z u z_is ran whole f;
      first = inr (is_flushed means precheck s B p w a gs y v st stood x number us next (rest_of k) fits z u z_is ran whole f);
      below = below_there means precheck s B p w a gs y v st stood x number us next (rest_of k) fits z u z_is ran whole f;
      committed = ap state_in be.row ∙ fits.committed;
      locks = still_got p f.to w flushed_world did_it.goes.grows a.client x.txn be.locks fits.locks;
      ending = λ up. subst (λ (n : Sizes). IsEnding n f.to.log x.txn (drop next us)) (sym be.sizes) (be.rules ∙ fits.ending (ap (λ (m : SystemState). m.stop) stood.stands.at.system ∙ (sym (ap (λ (m : SystemState). m.stop) (did_it.stood.stands.at.system ∙ z_is)) ∙ up)));
    }

    pub flush_on : (dest : State) → Stays k dest j → Fits means s f.batches f.to flushed_world gs z u (behind a w []) (rest_of j) dest → ((n : ℕ) → x.txn ≡ n → Owns dest n)
        → Went means precheck s B p w a st gs y v true j gs z u
    flush_on dest g fits_so there =
        went_on means precheck s B f.batches p f.to w a st gs gs y z v u [] k j is did_it true g.transcript
        (subst (λ (n : State). Fits means s f.batches f.to flushed_world gs z u (behind a w []) (rest_of j) n) (sym g.stands) fits_so)
        (λ e. subst (λ (n : State). RowsTell st y n z) (sym g.stands) (same_rows z dest (ap (λ (m : SystemState). m.table) z_is) there))

    pub flush_to : (dest : State) → Stays k dest j → (FitsCommitting f.to flushed_world (behind a w []) (rest_of j) x number us next → Fits means s f.batches f.to flushed_world gs z u (behind a w []) (rest_of j) dest) → ((n : ℕ) → x.txn ≡ n → Owns dest n)
        → Went means precheck s B p w a st gs y v true j gs z u
    flush_to dest g fits_as there = flush_on dest g (fits_as (fits_flushed (rest_of j) (ap (map act_of) g.rest))) there

  -- ---- which fails, or had failed: what is said of it
  module _ (ds : List Deed) (q : Point) (z : SystemState) (u : Vaulted V) (did : Did means precheck s B p w a.client st gs y v ds B q gs z u) (stopped : is_some z.stop ≡ true)
      (m : Move) (from_there : a.spot ≡ from m) (own_is : a.pending ++ receipts_from (length (log_of w)) ds ≡ own m) (cause : HasCause (after w a.client ds q.core) a.client m)
      (said_is : said m ≡ Refused CommitAct StoreFailed ∷ []) (to_is : leads_to m ≡ at (IsOutside true) fits.more) where
    fails_told : j.transcript.client ≡ k.transcript.client → lines_of j ≡ lines_of k ++ Refused CommitAct StoreFailed ∷ [] → rest_of j ≡ fits.more → j.state ≡ Outside → Went means precheck s B p w a st gs y v true j gs z u
    fails_told client lines rest state =
        went_by means precheck s B B p q w a st gs gs y z v u ds k j is did m from_there own_is cause client (lines ∙ ap (λ l. lines_of k ++ l) (sym said_is))
        (subst (λ (n : State). Fits means s B q (after w a.client ds q.core) gs z u (ended a m) (rest_of j) n) (sym state) (outside_by z a m true fits.more (rest_of j) rest (λ e. stopped) to_is placed_behind))
        (λ up. let no_stop : is_some z.stop ≡ false = ap is_some up in let no : true ≡ false = sym stopped ∙ no_stop in absurd (cc))

    fails_unsaid : j.transcript ≡ k.transcript → Went means precheck s B p w a st gs y v false j gs z u
    fails_unsaid silent = went_silent means precheck s B B p q w a st gs gs y z v u ds k j is did m from_there own_is cause silent

  module _ (unflushed : y.first + v.flushed ≤ number) where
    module _ (z : SystemState) (u : Vaulted V) (z_is : z ≡ store_stopped (taken y)) (stopped : u.stopped ≡ true) (same : u.flushed ≡ v.flushed) (whole : IsWholeCore means.told gs y v → IsWholeCore means.told gs z u)
        (f : HasStopped means s B p gs z u) where
      lost : Did means precheck s B p w a.client st gs y v (Meets StoreFailed ∷ []) B f.to gs z u
      lost = lost_did means precheck s B p w a gs y v st stood x number us next (rest_of k) fits unflushed z u z_is stopped same whole f

      stop_there : is_some z.stop ≡ true
      stop_there = ap (λ (m : SystemState). is_some m.stop) z_is ∙ has_stop y.stop

      pub flush_fails : j.transcript.client ≡ k.transcript.client → lines_of j ≡ lines_of k ++ Refused CommitAct StoreFailed ∷ [] → rest_of j ≡ fits.more → j.state ≡ Outside → Went means precheck s B p w a st gs y v true j gs z u
      flush_fails = fails_told (Meets StoreFailed ∷ []) f.to z u lost stop_there
          (fault means precheck s B p w a gs y v st stood x number us next (rest_of k) fits unflushed z u z_is stopped same whole f) starts
          (own_fault means precheck s B p w a gs y v st stood x number us next (rest_of k) fits unflushed z u z_is stopped same whole f)
          (fault_cause means precheck s B p w a gs y v st stood x number us next (rest_of k) fits unflushed z u z_is stopped same whole f) refl refl

      pub flush_fails_unsaid : j.transcript ≡ k.transcript → Went means precheck s B p w a st gs y v false j gs z u
      flush_fails_unsaid = fails_unsaid (Meets StoreFailed ∷ []) f.to z u lost stop_there
          (fault means precheck s B p w a gs y v st stood x number us next (rest_of k) fits unflushed z u z_is stopped same whole f) starts
          (own_fault means precheck s B p w a gs y v st stood x number us next (rest_of k) fits unflushed z u z_is stopped same whole f)
          (fault_cause means precheck s B p w a gs y v st stood x number us next (rest_of k) fits unflushed z u z_is stopped same whole f) refl refl

    module _ (had : v.stopped ≡ true) where
      pub found_failed : j.transcript.client ≡ k.transcript.client → lines_of j ≡ lines_of k ++ Refused CommitAct StoreFailed ∷ [] → rest_of j ≡ fits.more → j.state ≡ Outside → Went means precheck s B p w a st gs y v true j gs y v
      found_failed = fails_told _ p y v (met_did means precheck s B p w a gs y v st stood x number us next (rest_of k) fits unflushed had) (stood.stops had)
          (finds means precheck s B p w a gs y v st stood x number us next (rest_of k) fits unflushed had) starts
          (own_finds means precheck s B p w a gs y v st stood x number us next (rest_of k) fits unflushed had)
          (finds_cause means precheck s B p w a gs y v st stood x number us next (rest_of k) fits unflushed had) refl refl

      pub found_failed_unsaid : j.transcript ≡ k.transcript → Went means precheck s B p w a st gs y v false j gs y v
      found_failed_unsaid = fails_unsaid _ p y v (met_did means precheck s B p w a gs y v st stood x number us next (rest_of k) fits unflushed had) (stood.stops had)
          (finds means precheck s B p w a gs y v st stood x number us next (rest_of k) fits unflushed had) starts
          (own_finds means precheck s B p w a gs y v st stood x number us next (rest_of k) fits unflushed had)
          (finds_cause means precheck s B p w a gs y v st stood x number us next (rest_of k) fits unflushed had) refl refl

  -- ---- behind the flush
  module _ (flushed_now : IsFlushed w number) where
    abbrev still : World
    still = after w a.client [] p.core

    still_did : Did means precheck s B p w a.client st gs y v [] B p gs y v
    still_did = did_nothing means precheck s B p w gs y v stood a.client st

    abbrev ok : Move
    ok = CommitsMove x.txn x.tries commands x.deadly number fits.behind fits.more

    own_ok : a.pending ++ [] ≡ own ok
    own_ok = append-nil a.pending ∙ fits.pending

    ok_cause : HasCause still a.client ok
    ok_cause = (flushed w still still_did.goes.grows number flushed_now, behinds w still still_did.goes.grows a.client x.txn fits.behind fits.are)

    -- nothing is done, and nothing said
    pub ok_unsaid : j.transcript ≡ k.transcript → Went means precheck s B p w a st gs y v false j gs y v
    ok_unsaid silent = went_silent means precheck s B B p p w a st gs gs y y v v [] k j is still_did ok starts own_ok ok_cause silent

    -- the engine is stopped: what is left stays undone
    pub ok_where_it_stopped : is_some y.stop ≡ true → j.transcript.client ≡ k.transcript.client → lines_of j ≡ lines_of k ++ CommitOk ∷ [] → rest_of j ≡ fits.more → j.state ≡ Outside → Went means precheck s B p w a st gs y v true j gs y v
    ok_where_it_stopped stop client lines rest state =
        went_by means precheck s B B p p w a st gs gs y y v v [] k j is still_did ok starts own_ok ok_cause client lines
        (subst (λ (n : State). Fits means s B p still gs y v (ended a ok) (rest_of j) n) (sym state) (outside_by y a ok false fits.more (rest_of j) rest (λ e. absurd (cc)) refl placed_behind))
        (λ up. let no_stop : is_some y.stop ≡ false = ap is_some up in let no : true ≡ false = sym stop ∙ no_stop in absurd (cc))

    -- ---- while the engine runs
    module _ (runs : y.stop ≡ None) where
      committed_now : state_of y x.txn ≡ Some Committed
      committed_now = ap (λ (m : SystemState). state_of m x.txn) (sym stood.stands.at.system) ∙ fits.committed

      ending_now : IsEnding y.sizes p.log x.txn (drop next us)
      ending_now = subst (λ (n : Sizes). IsEnding n p.log x.txn (drop next us)) (ap (λ (m : SystemState). m.sizes) stood.stands.at.system) (fits.ending (ap (λ (m : SystemState). m.stop) stood.stands.at.system ∙ runs))

      pub at_first : At (bases_of s) s.log w p
      at_first = record { run = stood.stands.at.vault.run; tells = stood.tells; whole = stood.stands.whole }

      pub in_hand : InHand w p a.client x.txn x.txn
      in_hand = record {
        others = λ u e.
            let none : is_claimed_in (state_of p.core.system u) ≡ false = ap (λ (m : SystemState). is_claimed_in (state_of m u)) stood.stands.at.system ∙ stood.quiet.unclaimed u in
            let no : true ≡ false = sym e ∙ none in absurd (cc);
        free = λ r h held own dead.
            let named : latched_in (state_of p.core.system x.txn) ≡ Some r = subst (λ (n : ℕ). latched_in (state_of p.core.system n) ≡ Some r) own (stood.stands.whole.dead r h held dead) in
            let no : None ≡ Some r = sym (ap latched_in fits.committed) ∙ named in absurd (cc);
        lives = ap is_dead_in fits.committed;
        holds = inl refl;
      }

      apart : (u : ℕ) → is_open (state_of y u) ≡ true → (Owns st u → ⊥) → (x.txn == u) ≡ false
      apart u _ other = by_test (x.txn == u) refl
        where
          by_test : (b : Bool) → (x.txn == u) ≡ b → (x.txn == u) ≡ false
          by_test true e = absurd (other (owns u (equal x.txn u e)))
          by_test false e = e

      -- steps of the transaction's own, of which these are the front, with these solos
      module _ (own : List Record) (hs : List RegionState) (z : SystemState) (g : GoneOn means x.txn own s B p gs hs z v) (others : OthersStay gs y x.txn hs z) (front : List Step) (are : AreOfEnd x.txn front)
          (records : List Record) (solos : AreSolos x.txn records) where
        -- ---- a removal is freed
        module _ (steps_are : g.steps ≡ front) (own_is : own ≡ records) (still : state_of z x.txn ≡ Some Committed) where
          pub course_is : IsPointCourse p (map Does front) g.to
          course_is = subst (λ xs. IsPointCourse p (map Does xs) g.to) steps_are g.course

          pub log_there : g.to.log ≡ p.log ++ records
          log_there = g.log ∙ ap (λ l. p.log ++ l) own_is

          abbrev part : Sided (bases_of s) s.log a.client x.txn x.txn w p front g.to
          part = sided (bases_of s) s.log a.client x.txn x.txn front w p g.to records are at_first in_hand course_is log_there (solos_sides x.txn records solos)

          abbrev part_world : World
          part_world = after w a.client part.ds g.to.core

          part_did : Did means precheck s B p w a.client st gs y v part.ds B g.to hs z v
          part_did = did_calm means precheck s B p w gs y v stood a.client st x.txn own hs z g part.ds (subst (λ xs. AreOfCourse w a.client p (map Does xs) g.to part.ds) (sym steps_are) part.are)
              (unclaimed_then gs hs y z x.txn others stood.quiet (ap is_claimed_in still))
              apart (λ b. subst (λ xs. list_all (is_out_of b) (map Does xs) ≡ true) (sym steps_are) (end_out b x.txn front are))

          abbrev new_behind : List Receipt
          new_behind = receipts_from (length (log_of w)) part.ds

          are_behind : AreBehind part_world a.client x.txn (fits.behind ++ new_behind)
          are_behind = all_both (IsBehind part_world a.client x.txn) fits.behind new_behind (behinds w part_world part_did.goes.grows a.client x.txn fits.behind fits.are)
              (behinds_of part_world a.client x.txn x.txn (length (log_of w)) part.ds part.sides (subst (λ xs. AreSolos x.txn xs) (sym (logged_is w a.client part.ds p g.to records stood.tells part.at.tells log_there)) solos))

          fits_part : z.locks ≡ y.locks → IsEnding z.sizes g.to.log x.txn (drop (next + 1) us) → (rest : List Act) → rest ≡ rest_of k → FitsCommitting g.to part_world (behind a w part.ds) rest x number us (next + 1)
          fits_part same_locks ending rest same = record {
            more = fits.more;
            commits = same ∙ fits.commits;
            spot = fits.spot ∙ ap (at (IsWithin x.txn x.tries commands x.deadly false)) (sym same);
            placed = subst (IsPlaced true) (sym same) fits.placed;
            behind = fits.behind ++ new_behind;
            pending = ap (λ xs. xs ++ new_behind) fits.pending;
            are = are_behind;
            first = inr (flushed w part_world part_did.goes.grows number flushed_now);
            below = omega (arith, fits.below, ap length (log_is w a.client part.ds g.to.core), length-append (log_of w) (logged_by (by a.client part.ds)));
            committed = ap (λ (m : SystemState). state_of m x.txn) g.stands.at.system ∙ still;
            locks = still_got p g.to w part_world part_did.goes.grows a.client x.txn
                (λ n. ap (λ (m : SystemState). lock_of m x.txn n) g.stands.at.system
                ∙ (ap (λ l. finmap.get l (x.txn, n)) same_locks ∙ sym (ap (λ (m : SystemState). lock_of m x.txn n) stood.stands.at.system))) fits.locks;
            ending = λ up. subst (λ (n : Sizes). IsEnding n g.to.log x.txn (drop (next + 1) us)) (ap (λ (m : SystemState). m.sizes) (sym g.stands.at.system)) ending;
          }

          rows_part : (dest : State) → ((n : ℕ) → x.txn ≡ n → Owns dest n) → RowsTell st y dest z
          rows_part dest there up n open_there = by_test (x.txn == n) refl
            where
              by_test : (b : Bool) → (x.txn == n) ≡ b → Owns dest n ⊎ ((is_open (state_of y n) ≡ true) × (Owns st n → ⊥))
              by_test true e = inl (there n (equal x.txn n e))
              by_test false e = inr (was_open gs hs y z x.txn others n e open_there, λ mine. let yes : (x.txn == n) ≡ true = same_number x.txn n (only n mine) in let no : true ≡ false = sym yes ∙ e in absurd (cc))

          pub freed_on : z.locks ≡ y.locks → IsEnding z.sizes g.to.log x.txn (drop (next + 1) us) → (dest : State) → Stays k dest j
              → (FitsCommitting g.to part_world (behind a w part.ds) (rest_of j) x number us (next + 1) → Fits means s B g.to part_world hs z v (behind a w part.ds) (rest_of j) dest) → ((n : ℕ) → x.txn ≡ n → Owns dest n)
              → Went means precheck s B p w a st gs y v true j hs z v
          freed_on same_locks ending dest f fits_as there =
              went_on means precheck s B B p g.to w a st gs hs y z v v part.ds k j is part_did true f.transcript
              (subst (λ (n : State). Fits means s B g.to part_world hs z v (behind a w part.ds) (rest_of j) n) (sym f.stands) (fits_as (fits_part same_locks ending (rest_of j) (ap (map act_of) f.rest))))
              (λ e. subst (λ (n : State). RowsTell st y n z) (sym f.stands) (rows_part dest there))

          -- a removal that was refused stays as under way as it was
          abbrev part_ok : Move
          part_ok = CommitsMove x.txn x.tries commands x.deadly number (fits.behind ++ new_behind) fits.more

          pub unfreed : j.transcript ≡ k.transcript → Went means precheck s B p w a st gs y v false j hs z v
          unfreed silent = went_silent means precheck s B B p g.to w a st gs hs y z v v part.ds k j is part_did part_ok starts
              (ap (λ xs. xs ++ new_behind) fits.pending) (flushed w part_world part_did.goes.grows number flushed_now, are_behind) silent

        -- ---- and its end is logged
        module _ (steps_are : g.steps ≡ front ++ Ends x.txn ∷ []) (own_is : own ≡ records ++ Ended x.txn ∷ []) (gone : row_of z x.txn ≡ None) where
          parts : (m : Point) × IsPointCourse p (map Does front) m × IsPointCourse m (map Does (Ends x.txn ∷ [])) g.to
          parts = course_split p g.to front (Ends x.txn ∷ []) (subst (λ xs. IsPointCourse p (map Does xs) g.to) steps_are g.course)

          abbrev mid : Point
          mid = parts.0

          end_step : IsPointStep mid (Does (Ends x.txn)) g.to
          end_step = subst (λ (m : Point). IsPointStep mid (Does (Ends x.txn)) m) parts.2.2 parts.2.1

          all_logged : g.to.log ≡ (p.log ++ records) ++ Ended x.txn ∷ []
          all_logged = g.log ∙ (ap (λ l. p.log ++ l) own_is ∙ sym (append_assoc p.log records (Ended x.txn ∷ [])))

          mid_log : mid.log ≡ p.log ++ records
          mid_log = append_cancel_right mid.log (p.log ++ records) (Ended x.txn ∷ []) (sym end_step.1.0.2.0 ∙ all_logged)

          abbrev first_part : Sided (bases_of s) s.log a.client x.txn x.txn w p front mid
          first_part = sided (bases_of s) s.log a.client x.txn x.txn front w p mid records are at_first in_hand parts.1 mid_log (solos_sides x.txn records solos)

          abbrev between : World
          between = after w a.client first_part.ds mid.core

          abbrev end_deeds : List Deed
          end_deeds = first_part.ds ++ Logs (Ended x.txn) ∷ []

          abbrev late : World
          late = after w a.client end_deeds g.to.core

          same_late : after between a.client (Logs (Ended x.txn) ∷ []) g.to.core ≡ late
          same_late = after_after w a.client first_part.ds (Logs (Ended x.txn) ∷ []) mid.core g.to.core

          ended_there : AreRightThen between a.client (Logs (Ended x.txn) ∷ []) g.to.core
          ended_there = ended_right (bases_of s) s.log a.client x.txn x.txn w p mid front at_first (vault_stops means precheck s B p w gs y v stood) first_part x.txn g.to end_step

          last_goes : Goes between a.client mid (Logs (Ended x.txn) ∷ []) late g.to
          last_goes = subst (λ (m : World). Goes between a.client mid (Logs (Ended x.txn) ∷ []) m g.to) same_late (one_goes (bases_of s) s.log a.client between mid g.to (Ends x.txn) (Logs (Ended x.txn) ∷ []) first_part.at end_step refl ended_there)

          told_all : AreOfCourse w a.client p (map Does g.steps) g.to end_deeds
          told_all =
              subst (λ xs. AreOfCourse w a.client p (map Does xs) g.to end_deeds) (sym steps_are)
              (subst (λ xs. AreOfCourse w a.client p xs g.to end_deeds) (sym (map-append Does front (Ends x.txn ∷ [])))
              (courses_told w a.client p mid g.to (map Does front) (Does (Ends x.txn) ∷ []) first_part.ds (Logs (Ended x.txn) ∷ []) stood.tells.core first_part.are
              (g.to, Logs (Ended x.txn) ∷ [], [], end_step, refl, ended_there, (refl, refl), refl)))

          none_there : state_of z x.txn ≡ None
          none_there = ap state_in gone

          end_did : Did means precheck s B p w a.client st gs y v end_deeds B g.to hs z v
          end_did = did_calm means precheck s B p w gs y v stood a.client st x.txn own hs z g end_deeds told_all
              (unclaimed_then gs hs y z x.txn others stood.quiet (ap is_claimed_in none_there)) apart
              (λ b. subst (λ xs. list_all (is_out_of b) (map Does xs) ≡ true) (sym steps_are)
              (subst (λ xs. list_all (is_out_of b) xs ≡ true) (sym (map-append Does front (Ends x.txn ∷ []))) (out_both b (map Does front) (Does (Ends x.txn) ∷ []) (end_out b x.txn front are) refl)))

          abbrev end_receipts : List Receipt
          end_receipts = receipts_from (length (log_of w)) end_deeds

          end_behind : AreBehind late a.client x.txn end_receipts
          end_behind =
              subst (λ rs. AreBehind late a.client x.txn rs) (sym (receipts_then a.client (length (log_of w)) first_part.ds (Logs (Ended x.txn) ∷ [])))
              (all_both (IsBehind late a.client x.txn) (receipts_from (length (log_of w)) first_part.ds) ((length (log_of w) + length (logged_by (by a.client first_part.ds)), Logs (Ended x.txn)) ∷ [])
              (behinds between late last_goes.grows a.client x.txn (receipts_from (length (log_of w)) first_part.ds)
              (behinds_of between a.client x.txn x.txn (length (log_of w)) first_part.ds first_part.sides (subst (λ xs. AreSolos x.txn xs) (sym (logged_is w a.client first_part.ds p mid records stood.tells first_part.at.tells mid_log)) solos)))
              (inl refl, tt))

          abbrev end_ok : Move
          end_ok = CommitsMove x.txn x.tries commands x.deadly number (fits.behind ++ end_receipts) fits.more

          end_cause : HasCause late a.client end_ok
          end_cause = (flushed w late end_did.goes.grows number flushed_now, all_both (IsBehind late a.client x.txn) fits.behind end_receipts (behinds w late end_did.goes.grows a.client x.txn fits.behind fits.are) end_behind)

          pub ended_ok : j.transcript.client ≡ k.transcript.client → lines_of j ≡ lines_of k ++ CommitOk ∷ [] → rest_of j ≡ fits.more → j.state ≡ Outside → Went means precheck s B p w a st gs y v true j hs z v
          ended_ok client lines rest state =
              went_by means precheck s B B p g.to w a st gs hs y z v v end_deeds k j is end_did end_ok starts (ap (λ xs. xs ++ end_receipts) fits.pending) end_cause client lines
              (subst (λ (n : State). Fits means s B g.to late hs z v (ended a end_ok) (rest_of j) n) (sym state) (outside_by z a end_ok false fits.more (rest_of j) rest (λ e. absurd (cc)) refl placed_behind))
              (λ up n there. let was = lived gs hs y z x.txn others (λ e. let no : false ≡ true = sym (ap (λ r. is_open (state_in r)) gone) ∙ e in absurd (cc)) n there in inr (was.0, λ mine. was.1 (only n mine)))

          pub ended_unsaid : j.transcript ≡ k.transcript → Went means precheck s B p w a st gs y v false j hs z v
          ended_unsaid silent = went_silent means precheck s B B p g.to w a st gs hs y z v v end_deeds k j is end_did end_ok starts (ap (λ xs. xs ++ end_receipts) fits.pending) end_cause silent
