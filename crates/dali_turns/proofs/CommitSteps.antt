-- A commit by its functions.
use Rattle.std.proofs.Common.{◌≡◌, ℕ, zero, suc, ◌+◌, ◌<◌, ◌≤◌, Bool, true, false, List, [], ◌∷◌, ◌++◌, length, map, drop, Option, Some, None, Result, Err, is_some, is_ok, refl, ap, sym, subst, ◌∙◌, arith}
use Rattle.std.specs.Prelude.{slice_get}
use Rattle.std.specs.List.{AllByRecursion}
use Rattle.std.proofs.lemmas.List.{append-nil}
use Rattle.dali_calls.proofs.Others.{ended_gone}
use Rattle.dali_calls.proofs.SingleLemmas.Lists.{all_both}
use Rattle.dali_record.specs.declared.operations.Pending.{Pending}
use Rattle.dali_record.specs.declared.records.Record.{Record}
use Rattle.dali_record.specs.declared.records.Record.TheVariants.{Ended}
use Rattle.dali_geometry.specs.Sizes.{Sizes}
use Rattle.dali_region.specs.State.{RegionState}
use Rattle.dali_att.specs.declared.state.State.TheVariants.{Committed}
use Rattle.dali_store.specs.Store.{Files as Disk}
use Rattle.dali_store.specs.declared.store.Store.{Ghosts}
use Rattle.dali_runs.specs.declared.causes.Cause.{Cause}
use Rattle.dali_runs.specs.State.{SystemState, row_of, state_of}
use Rattle.dali_runs.specs.Steps.{commit_logged, ended_logged, store_stopped, taken}
use Rattle.dali_crash.specs.Checkpoints.{Point}
use Rattle.dali_crash.specs.Traces.{Start, bases_of}
use Rattle.dali_core.specs.Vault.Vaulted.{Vaulted}
use Rattle.dali_core.specs.declared.vault.error.VaultError.{VaultError}
use Rattle.dali_core.specs.declared.vault.error.VaultError.TheVariants.{Stopped as VaultStopped}
use Rattle.dali_runs.specs.Facts.Ends.{IsEnding}
use Rattle.dali_calls.specs.Single.Settling.{IsSoloOf}
use Rattle.dali_clean.specs.Others.{OthersStay}
use Rattle.dali_clean.proofs.Others.{ended_others}
use Rattle.dali_core.specs.Cores.{IsWholeCore}
use Rattle.dali_core.specs.Flushed.{FlushesAll, FlushFails}
use Rattle.dali_transactions.specs.Ended.{Comes}
use Rattle.dali_transactions.specs.Left.{none_of}
use Rattle.dali_transactions.specs.Steps.{CommitLogs, RemovalFrees, CommitEnds}
use Rattle.dali_transactions.specs.Beside.Calls.{IsOfEnd}
use Rattle.dali_transactions.proofs.BesideLemmas.Committing.{solos_of, solos_go}
use Rattle.dali_transcripts.specs.declared.clients.command.Command.{Command}
use Rattle.dali_transcripts.specs.declared.clients.command.Command.TheVariants.{Commit}
use Rattle.dali_transcripts.specs.declared.clients.line.Line.TheVariants.{CommitOk, Refused}
use Rattle.dali_transcripts.specs.declared.clients.line.Why.TheVariants.{Stopped, StoreStopped}
use Rattle.dali_transcripts.specs.Clients.Told.{act_of}
use Rattle.dali_transcripts.specs.Words.{Act}
use Rattle.dali_transcripts.specs.World.{World, log_of, IsFlushed}
use Rattle.dali_transcripts.specs.Moves.{Within as IsWithin}
use Rattle.dali_transcripts.specs.Rounds.{Standing}
use Rattle.dali_turns.specs.declared.client.Client.{Client}
use Rattle.dali_turns.specs.declared.client.State.{State}
use Rattle.dali_turns.specs.declared.client.State.TheVariants.{Outside, Within}
use Rattle.dali_turns.specs.declared.client.Transaction.{Transaction}
use Rattle.dali_turns.specs.Clients.{next_of, Passes, Finishes, Stays}
use Rattle.dali_turns.specs.Stood.{Stood}
use Rattle.dali_turns.specs.Within.{AreSoFar}
use Rattle.dali_turns.specs.Commits.{FitsCommitting}
use Rattle.dali_turns.specs.Fits.{rest_of, Owns, Fits}
use Rattle.dali_turns.specs.Goes.{StepGoes}
use Rattle.dali_turns.proofs.Refusals.{records_are}
use Rattle.dali_turns.proofs.Commands.{behind_next, next_act, finished_rest, finished_lines, finished_client, due_at}
use Rattle.dali_turns.proofs.Poking.{went_nowhere}
use Rattle.dali_turns.proofs.Stopping.{commit_refused, commit_unsaid}
use Rattle.dali_turns.proofs.Awaiting.{stable_is}
use Rattle.dali_turns.proofs.Committing.{commit_logged_to, flush_to, flush_fails, flush_fails_unsaid, found_failed, found_failed_unsaid, ok_where_it_stopped, ok_unsaid, freed_on, unfreed, ended_ok, ended_unsaid}

module _ {V : Type 0} (means : Ghosts V)
    (precheck : Bool) (x : Transaction) (k j : Client) (gs : List RegionState) (y : SystemState) (v : Vaulted V) (next : next_of k ≡ Some Commit) where
  -- ---- the engine is stopped
  module _ (cause : Cause) (stop : y.stop ≡ Some cause) where
    pub stop_goes : Finishes k Outside (Refused Commit (Stopped cause)) j → StepGoes means precheck (Within x) k gs y v true j gs y v
    stop_goes f s B p w a stood is fits =
        commit_refused means precheck s B p w a gs y v k j x stood is fits cause stop (behind_next k) (next_act k Commit next)
        (finished_client k j Outside (Refused Commit (Stopped cause)) f) (finished_lines k j Outside (Refused Commit (Stopped cause)) f) (finished_rest k j Outside (Refused Commit (Stopped cause)) f) f.stands

    pub stop_silent_goes : Passes k Outside j → StepGoes means precheck (Within x) k gs y v false j gs y v
    stop_silent_goes f s B p w a stood is fits = commit_unsaid means precheck s B p w a gs y v k j x stood is fits cause stop (behind_next k) (next_act k Commit next) f.transcript

  -- ---- memory was refused
  no_commit_goes : j.transcript ≡ k.transcript → StepGoes means precheck (Within x) k gs y v false j gs y v
  no_commit_goes same s B p w a stood is fits =
      went_nowhere means precheck (Within x) s B p w a gs y v k j stood is (due_at a.spot (IsWithin x.txn x.tries (map act_of x.commands.now) x.deadly fits.said) (rest_of k) fits.spot fits.due)
      (subst (λ acts. AreSoFar w a.client x.txn acts a.pending) (next_act k Commit next) fits.so_far) same

  pub unlogged_goes : (ok : Bool) (hs : List RegionState) (z : SystemState) (u : Vaulted V) → ok ≡ false → hs ≡ gs → z ≡ y → u ≡ v → j.transcript ≡ k.transcript → StepGoes means precheck (Within x) k gs y v ok j hs z u
  unlogged_goes ok hs z u unsaid regions system vault same =
      subst (λ (b : Bool). StepGoes means precheck (Within x) k gs y v b j hs z u) (sym unsaid)
      (subst (λ (rs : List RegionState). StepGoes means precheck (Within x) k gs y v false j rs z u) (sym regions)
      (subst (λ (m : SystemState). StepGoes means precheck (Within x) k gs y v false j gs m u) (sym system)
      (subst (λ (t : Vaulted V). StepGoes means precheck (Within x) k gs y v false j gs y t) (sym vault) (no_commit_goes same))))

  -- ---- its record
  module _ (runs : y.stop ≡ None) (us : List Pending) (logs : CommitLogs means gs y v x.txn us) (others : OthersStay gs y x.txn gs (commit_logged y x.txn)) (number : ℕ) (is_number : number ≡ y.records) (st : State) (f : Stays k st j)
      (fits_as : (s : Start) (B : List (List Record)) (p : Point) (w : World) (gs : List RegionState) (y : SystemState) (v : Vaulted V) (a : Standing) (rest : List Act) → FitsCommitting p w a rest x number us 0 → Fits means s B p w gs y v a rest st)
      (owns : (n : ℕ) → x.txn ≡ n → Owns st n) where
    here_goes : StepGoes means precheck (Within x) k gs y v true j gs (commit_logged y x.txn) v
    here_goes s B p w a stood is fits =
        let l = logs s B p stood.stands (fits.may_call (ap (λ (m : SystemState). m.stop) stood.stands.at.system ∙ runs)) in
        let count : number ≡ length (log_of w) = is_number ∙ (ap (λ (m : SystemState). m.records) (sym stood.stands.at.system) ∙ records_are (bases_of s) s.log w p stood.stands.at.vault.run stood.tells) in
        commit_logged_to means precheck s B p w a gs y v k j x stood is fits runs (behind_next k) (next_act k Commit next) us l others number count st f
        (λ h. fits_as s B _ _ gs (commit_logged y x.txn) v _ (rest_of j) h) owns

    pub logged_goes : (hs : List RegionState) (z : SystemState) (u : Vaulted V) → hs ≡ gs → z ≡ commit_logged y x.txn → u ≡ v → StepGoes means precheck (Within x) k gs y v true j hs z u
    logged_goes hs z u regions system vault =
        subst (λ (rs : List RegionState). StepGoes means precheck (Within x) k gs y v true j rs z u) (sym regions)
        (subst (λ (m : SystemState). StepGoes means precheck (Within x) k gs y v true j gs m u) (sym system)
        (subst (λ (t : Vaulted V). StepGoes means precheck (Within x) k gs y v true j gs (commit_logged y x.txn) t) (sym vault) here_goes))

-- what a record leaves to others, by the call's clauses
pub others_there : (gs hs : List RegionState) (y z m : SystemState) (t : ℕ) → hs ≡ gs → z ≡ m → OthersStay gs y t hs z → OthersStay gs y t gs m
others_there gs hs y z m t regions system others = subst (λ (x : SystemState). OthersStay gs y t gs x) system (subst (λ (rs : List RegionState). OthersStay gs y t rs z) regions others)

-- behind an end
pub others_ended : (gs hs : List RegionState) (y z : SystemState) (t : ℕ) → hs ≡ gs → z ≡ ended_logged y t → OthersStay gs y t hs z
others_ended gs hs y z t regions system = subst (λ (rs : List RegionState). OthersStay gs y t rs z) (sym regions) (ended_others gs y z t system)

pub ended_row : (y z : SystemState) (t : ℕ) → z ≡ ended_logged y t → row_of z t ≡ None
ended_row y z t system = (ended_gone y z t system).0

-- a flush that was made ran
pub flush_ran : {T : Type 0} (r : Result T VaultError) (old new : Bool) (P : Type 0) → new ≡ old → (old ≡ true → (r ≡ Err VaultStopped) × P) → is_ok r ≡ true → new ≡ false
flush_ran r true new P same stopped ok = let no : is_ok r ≡ false = ap is_ok (stopped refl).0 in let both : true ≡ false = sym ok ∙ no in absurd (cc)
flush_ran r false new P same stopped ok = same

-- ---- behind it
behind_is : (cs : List Command) (act : Act) (more : List Act) → map act_of cs ≡ act ∷ more → map act_of (drop 1 cs) ≡ more
behind_is [] act more e = absurd (cc)
behind_is (c ∷ cs) act more e = ap (drop 1) e

drops : {X : Type 0} (xs : List X) (i : ℕ) (x : X) → slice_get xs i ≡ Some x → drop i xs ≡ x ∷ drop (i + 1) xs
drops [] i x e = absurd (cc)
drops (y ∷ xs) zero x e = let same : y ≡ x = cc in ap (λ z. z ∷ xs) same
drops (y ∷ xs) (suc i) x e = let one : suc (i + 1) ≡ suc i + 1 = omega arith in drops xs i x e ∙ ap (λ n. x ∷ drop n (y ∷ xs)) one

drops_none : {X : Type 0} (xs : List X) (i : ℕ) → slice_get xs i ≡ None → drop i xs ≡ []
drops_none [] zero e = refl
drops_none [] (suc i) e = refl
drops_none (y ∷ xs) zero e = absurd (cc)
drops_none (y ∷ xs) (suc i) e = drops_none xs i e

none_solos : (t : ℕ) (xs : List Record) → AllByRecursion none_of xs → AllByRecursion (IsSoloOf t) xs
none_solos t [] are = tt
none_solos t (x ∷ xs) are = absurd are.0

module _ {V : Type 0} (means : Ghosts V)
    (precheck : Bool) (x : Transaction) (number : ℕ) (us : List Pending) (next : ℕ) (st : State)
    (fits_of : (s : Start) (B : List (List Record)) (p : Point) (w : World) (gs : List RegionState) (y : SystemState) (v : Vaulted V) (a : Standing) (rest : List Act) → Fits means s B p w gs y v a rest st → FitsCommitting p w a rest x number us next)
    (owns : (n : ℕ) → x.txn ≡ n → Owns st n) (only : (n : ℕ) → Owns st n → x.txn ≡ n)
    (k j : Client) (gs : List RegionState) (y : SystemState) (v : Vaulted V) where
  abbrev GoesTo : Bool → List RegionState → SystemState → Vaulted V → Type 0
  GoesTo ok hs z u = StepGoes means precheck st k gs y v ok j hs z u

  pub commit_unsaid_goes : (ok : Bool) (hs : List RegionState) (z : SystemState) (u : Vaulted V) → ok ≡ false → GoesTo false hs z u → GoesTo ok hs z u
  commit_unsaid_goes ok hs z u e goes = subst (λ (b : Bool). GoesTo b hs z u) (sym e) goes

  with_vault : (ok : Bool) (hs : List RegionState) (z : SystemState) (u : Vaulted V) → u ≡ v → GoesTo ok hs z v → GoesTo ok hs z u
  with_vault ok hs z u e goes = subst (λ (t : Vaulted V). GoesTo ok hs z t) (sym e) goes

  with_regions : (ok : Bool) (hs : List RegionState) (z : SystemState) (u : Vaulted V) → hs ≡ gs → GoesTo ok gs z u → GoesTo ok hs z u
  with_regions ok hs z u e goes = subst (λ (rs : List RegionState). GoesTo ok rs z u) (sym e) goes

  with_core : (ok : Bool) (hs : List RegionState) (z : SystemState) (u : Vaulted V) → hs ≡ gs → z ≡ y → u ≡ v → GoesTo ok gs y v → GoesTo ok hs z u
  with_core ok hs z u regions system vault goes = with_regions ok hs z u regions (subst (λ (m : SystemState). GoesTo ok gs m u) (sym system) (with_vault ok gs y u vault goes))

  -- ---- the flush
  module _ (hs : List RegionState) (z : SystemState) (u : Vaulted V) (regions : hs ≡ gs) (keeps : IsWholeCore means.told gs y v → IsWholeCore means.told hs z u) where
    whole : IsWholeCore means.told gs y v → IsWholeCore means.told gs z u
    whole h = subst (λ (rs : List RegionState). IsWholeCore means.told rs z u) regions (keeps h)

    pub flush_goes : z ≡ taken y → u.stopped ≡ false → FlushesAll means gs y v z u → Stays k st j
        → ((s : Start) (B : List (List Record)) (p : Point) (w : World) (gs : List RegionState) (y : SystemState) (v : Vaulted V) (a : Standing) (rest : List Act) → FitsCommitting p w a rest x number us next → Fits means s B p w gs y v a rest st)
        → GoesTo true hs z u
    flush_goes z_is ran flushes f fits_as = with_regions true hs z u regions (λ s B p w a stood is fits.
        flush_to means precheck s B p w a gs y v k j x st stood is number us next (fits_of s B p w gs y v a (rest_of k) fits) owns only z u z_is ran whole (flushes s B p stood.stands.at) st f
        (λ h. fits_as s _ _ _ gs z u _ (rest_of j) h) owns)

    module _ (unflushed : y.first + v.flushed ≤ number) (z_is : z ≡ store_stopped (taken y)) (stopped : u.stopped ≡ true) (same : u.flushed ≡ v.flushed) (fails : FlushFails means gs y v z u) where
      pub fault_goes : Finishes k Outside (Refused Commit StoreStopped) j → GoesTo true hs z u
      fault_goes f = with_regions true hs z u regions (λ s B p w a stood is fits.
          let c = fits_of s B p w gs y v a (rest_of k) fits in
          flush_fails means precheck s B p w a gs y v k j x st stood is number us next c owns only unflushed z u z_is stopped same whole (fails s B p stood.stands.at)
          (finished_client k j Outside (Refused Commit StoreStopped) f) (finished_lines k j Outside (Refused Commit StoreStopped) f) (finished_rest k j Outside (Refused Commit StoreStopped) f ∙ behind_is k.rest.now _ c.more c.commits) f.stands)

      pub fault_silent_goes : Passes k Outside j → GoesTo false hs z u
      fault_silent_goes f = with_regions false hs z u regions (λ s B p w a stood is fits.
          flush_fails_unsaid means precheck s B p w a gs y v k j x st stood is number us next (fits_of s B p w gs y v a (rest_of k) fits) owns only unflushed z u z_is stopped same whole (fails s B p stood.stands.at) f.transcript)

  -- ---- the store had failed
  module _ (unflushed : y.first + v.flushed ≤ number) (had : v.stopped ≡ true) (hs : List RegionState) (z : SystemState) (u : Vaulted V) (regions : hs ≡ gs) (system : z ≡ y) (vault : u ≡ v) where
    pub found_goes : Finishes k Outside (Refused Commit StoreStopped) j → GoesTo true hs z u
    found_goes f = with_core true hs z u regions system vault (λ s B p w a stood is fits.
        let c = fits_of s B p w gs y v a (rest_of k) fits in
        found_failed means precheck s B p w a gs y v k j x st stood is number us next c owns only unflushed had
        (finished_client k j Outside (Refused Commit StoreStopped) f) (finished_lines k j Outside (Refused Commit StoreStopped) f) (finished_rest k j Outside (Refused Commit StoreStopped) f ∙ behind_is k.rest.now _ c.more c.commits) f.stands)

    pub found_silent_goes : Passes k Outside j → GoesTo false hs z u
    found_silent_goes f = with_core false hs z u regions system vault (λ s B p w a stood is fits.
        found_failed_unsaid means precheck s B p w a gs y v k j x st stood is number us next (fits_of s B p w gs y v a (rest_of k) fits) owns only unflushed had f.transcript)

  -- ---- behind the flush
  module _ (flushed : number < y.first + v.flushed) where
    flushed_at : (s : Start) (B : List (List Record)) (p : Point) (w : World) (a : Standing) → Stood means s B p w precheck gs y v → IsFlushed w number
    flushed_at s B p w a stood = subst (λ n. number < n) (sym (stable_is means precheck s B p w a gs y v st stood)) flushed

    -- the engine is stopped
    pub ok_goes : is_some y.stop ≡ true → Finishes k Outside CommitOk j → GoesTo true gs y v
    ok_goes stop f s B p w a stood is fits =
        let c = fits_of s B p w gs y v a (rest_of k) fits in
        ok_where_it_stopped means precheck s B p w a gs y v k j x st stood is number us next c owns only (flushed_at s B p w a stood) stop
        (finished_client k j Outside CommitOk f) (finished_lines k j Outside CommitOk f) (finished_rest k j Outside CommitOk f ∙ behind_is k.rest.now _ c.more c.commits) f.stands

    -- nothing was done, and nothing said
    pub ok_silent_goes : j.transcript ≡ k.transcript → GoesTo false gs y v
    ok_silent_goes silent s B p w a stood is fits = ok_unsaid means precheck s B p w a gs y v k j x st stood is number us next (fits_of s B p w gs y v a (rest_of k) fits) owns only (flushed_at s B p w a stood) silent

    pub unended_goes : (hs : List RegionState) (z : SystemState) (u : Vaulted V) → hs ≡ gs → z ≡ y → u ≡ v → j.transcript ≡ k.transcript → GoesTo false hs z u
    unended_goes hs z u regions system vault silent = with_core false hs z u regions system vault (ok_silent_goes silent)

    module _ (runs : y.stop ≡ None) (hs : List RegionState) (z : SystemState) (u : Vaulted V) (vault : u ≡ v) (others : OthersStay gs y x.txn hs z) where
      sizes_there : (s : Start) (B : List (List Record)) (p : Point) (w : World) (a : Standing) → Stood means s B p w precheck gs y v → (rest : List Act) → FitsCommitting p w a rest x number us next → IsEnding y.sizes p.log x.txn (drop next us)
      sizes_there s B p w a stood rest c = subst (λ (n : Sizes). IsEnding n p.log x.txn (drop next us)) (ap (λ (m : SystemState). m.sizes) stood.stands.at.system) (c.ending (ap (λ (m : SystemState). m.stop) stood.stands.at.system ∙ runs))

      -- ---- a removal
      module _ (still : state_of z x.txn ≡ state_of y x.txn) where
        committed_then : (s : Start) (B : List (List Record)) (p : Point) (w : World) (a : Standing) → Stood means s B p w precheck gs y v → (rest : List Act) → FitsCommitting p w a rest x number us next → state_of z x.txn ≡ Some Committed
        committed_then s B p w a stood rest c = still ∙ (ap (λ (m : SystemState). state_of m x.txn) (sym stood.stands.at.system) ∙ c.committed)

        pub freed_goes : (r : Pending) → slice_get us next ≡ Some r → z.locks ≡ y.locks → RemovalFrees means x.txn r gs y v hs z → (dest : State) → Stays k dest j
            → ((s : Start) (B : List (List Record)) (p : Point) (w : World) (gs : List RegionState) (y : SystemState) (v : Vaulted V) (a : Standing) (rest : List Act) → FitsCommitting p w a rest x number us (next + 1) → Fits means s B p w gs y v a rest dest)
            → ((n : ℕ) → x.txn ≡ n → Owns dest n) → GoesTo true hs z u
        freed_goes r at locks frees dest f fits_as there = with_vault true hs z u vault (λ s B p w a stood is fits.
            let c = fits_of s B p w gs y v a (rest_of k) fits in
            let e = frees (drop (next + 1) us) s B p stood.stands (subst (λ ps. IsEnding y.sizes p.log x.txn ps) (drops us next r at) (sizes_there s B p w a stood (rest_of k) c)) in
            let g = solos_go means [] (IsSoloOf x.txn) s B p gs hs y z v x.txn stood.stands e.come (subst (λ rs. AllByRecursion (IsOfEnd x.txn) rs) (sym (append-nil e.come.records)) (solos_of x.txn e.come.records e.come.are)) others in
            freed_on means precheck s B p w a gs y v k j x st stood is number us next c owns only (flushed_at s B p w a stood) runs (e.come.records ++ []) hs z g.0 others e.come.front e.come.by e.come.records e.come.are
            (g.2 ∙ (e.come.is ∙ append-nil e.come.front)) (append-nil e.come.records) (committed_then s B p w a stood (rest_of k) c) locks
            (subst (λ (q : Point). IsEnding z.sizes q.log x.txn (drop (next + 1) us)) (sym g.1) e.ending) dest f (λ h. fits_as s B _ _ hs z v _ (rest_of j) h) there)

        pub unfreed_goes : Comes means x.txn none_of [] gs y v hs z → j.transcript ≡ k.transcript → GoesTo false hs z u
        unfreed_goes comes silent = with_vault false hs z u vault (λ s B p w a stood is fits.
            let c = fits_of s B p w gs y v a (rest_of k) fits in
            let e = comes s B p stood.stands in
            let solos = none_solos x.txn e.records e.are in
            let g = solos_go means [] none_of s B p gs hs y z v x.txn stood.stands e (subst (λ rs. AllByRecursion (IsOfEnd x.txn) rs) (sym (append-nil e.records)) (solos_of x.txn e.records solos)) others in
            unfreed means precheck s B p w a gs y v k j x st stood is number us next c owns only (flushed_at s B p w a stood) runs (e.records ++ []) hs z g.0 others e.front e.by e.records solos
            (g.2 ∙ (e.is ∙ append-nil e.front)) (append-nil e.records) (committed_then s B p w a stood (rest_of k) c) silent)

      -- ---- its end
      module _ (none : slice_get us next ≡ None) (ends : CommitEnds means x.txn gs y v hs z) (gone : row_of z x.txn ≡ None) where
        pub ended_goes : Finishes k Outside CommitOk j → GoesTo true hs z u
        ended_goes f = with_vault true hs z u vault (λ s B p w a stood is fits.
            let c = fits_of s B p w gs y v a (rest_of k) fits in
            let e = ends s B p stood.stands (subst (λ ps. IsEnding y.sizes p.log x.txn ps) (drops_none us next none) (sizes_there s B p w a stood (rest_of k) c)) in
            let solos = none_solos x.txn e.records e.are in
            let g = solos_go means (Ended x.txn ∷ []) none_of s B p gs hs y z v x.txn stood.stands e (all_both (IsOfEnd x.txn) e.records (Ended x.txn ∷ []) (solos_of x.txn e.records solos) (refl, tt)) others in
            ended_ok means precheck s B p w a gs y v k j x st stood is number us next c owns only (flushed_at s B p w a stood) runs (e.records ++ Ended x.txn ∷ []) hs z g.0 others e.front e.by e.records solos
            (g.2 ∙ e.is) refl gone (finished_client k j Outside CommitOk f) (finished_lines k j Outside CommitOk f) (finished_rest k j Outside CommitOk f ∙ behind_is k.rest.now _ c.more c.commits) f.stands)

        pub ended_silent_goes : j.transcript ≡ k.transcript → GoesTo false hs z u
        ended_silent_goes silent = with_vault false hs z u vault (λ s B p w a stood is fits.
            let c = fits_of s B p w gs y v a (rest_of k) fits in
            let e = ends s B p stood.stands (subst (λ ps. IsEnding y.sizes p.log x.txn ps) (drops_none us next none) (sizes_there s B p w a stood (rest_of k) c)) in
            let solos = none_solos x.txn e.records e.are in
            let g = solos_go means (Ended x.txn ∷ []) none_of s B p gs hs y z v x.txn stood.stands e (all_both (IsOfEnd x.txn) e.records (Ended x.txn ∷ []) (solos_of x.txn e.records solos) (refl, tt)) others in
            ended_unsaid means precheck s B p w a gs y v k j x st stood is number us next c owns only (flushed_at s B p w a stood) runs (e.records ++ Ended x.txn ∷ []) hs z g.0 others e.front e.by e.records solos
            (g.2 ∙ e.is) refl gone silent)
