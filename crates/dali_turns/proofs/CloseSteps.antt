-- The ends of a transaction by their functions: an abort, the end of the block, and giving way.
use Rattle.std.proofs.Common.{◌≡◌, ℕ, ◌+◌, ◌<◌, Bool, true, false, List, [], ◌∷◌, ◌++◌, map, drop, Option, Some, None, IfSome, Result, Ok, Err, OnOk, OnErr, is_ok, refl, ap, sym, subst, ◌∙◌, arith}
use Rattle.std.proofs.lemmas.List.{map-append}
use Rattle.dali_bytes.specs.declared.error.OutOfMemory.{OutOfMemory as NoMemory}
use Rattle.dali_record.specs.declared.records.Record.{Record}
use Rattle.dali_region.specs.State.{RegionState}
use Rattle.dali_att.specs.declared.state.State.TheVariants.{Live}
use Rattle.dali_store.specs.Store.{Files as Disk}
use Rattle.dali_store.specs.declared.store.Store.{Ghosts}
use Rattle.dali_runs.specs.declared.causes.Cause.{Cause}
use Rattle.dali_runs.specs.State.{SystemState, state_in, state_of}
use Rattle.dali_crash.specs.Checkpoints.{Point}
use Rattle.dali_crash.specs.Traces.{Start}
use Rattle.dali_core.specs.Vault.Vaulted.{Vaulted}
use Rattle.dali_transcripts.specs.declared.clients.command.Command.{Command}
use Rattle.dali_transcripts.specs.declared.clients.command.Command.TheVariants.{Abort}
use Rattle.dali_transcripts.specs.declared.clients.line.Line.{Line}
use Rattle.dali_transcripts.specs.declared.clients.line.Line.TheVariants.{Busy}
use Rattle.dali_transcripts.specs.Clients.Said.{Transcribed}
use Rattle.dali_transcripts.specs.Clients.Told.{act_of, said_of}
use Rattle.dali_transcripts.specs.World.{World}
use Rattle.dali_transcripts.specs.Moves.{behind_close}
use Rattle.dali_transcripts.specs.Rounds.{Standing}
use Rattle.dali_turns.specs.declared.client.Client.{Client}
use Rattle.dali_turns.specs.declared.client.State.{State}
use Rattle.dali_turns.specs.declared.client.State.TheVariants.{Outside, Within, Waiting}
use Rattle.dali_turns.specs.declared.client.Transaction.{Transaction}
use Rattle.dali_turns.specs.Clients.{next_of, Passes, Finishes}
use Rattle.dali_turns.specs.Ends.{IsTakenBack, IsHalfBack, abort_line, end_line, SaysAlso, GoesSilent}
use Rattle.dali_turns.specs.Stood.{Stood}
use Rattle.dali_turns.specs.Fits.{rest_of, lines_of}
use Rattle.dali_turns.specs.Goes.{Went, StepGoes, YieldGoes}
use Rattle.dali_turns.proofs.Commands.{none_of, next_act, behind_next, finished_rest, finished_lines, finished_client}
use Rattle.dali_turns.proofs.Closing.{GoesBack, GoesAway, lived}
use Rattle.dali_turns.proofs.Coming.{away_of, back_of}
use Rattle.dali_turns.proofs.Aborting.{aborted, aborted_unsaid, ended_block, ended_unsaid, abort_left, end_left, gives_way, gives_way_unsaid, gives_up, gives_up_unsaid, yield_left}
use Rattle.dali_turns.proofs.Stopping.{abort_refused, abort_unsaid, end_refused, end_unsaid}
use Rattle.dali_transactions.specs.Beside.Went.{is_open}

-- ---- the clauses, by the cause of a stop
abbrev pub StaysWhere : List RegionState → SystemState → List RegionState → SystemState → Type 0
StaysWhere gs y hs z = (cause : Cause) → y.stop ≡ Some cause → (hs ≡ gs) × (z ≡ y)

pub stays_by : {C : Type 0} (new old : C) (regions : C → List RegionState) (system : C → SystemState) (o : Option Cause) → IfSome o (λ cause. new ≡ old) → (cause : Cause) → o ≡ Some cause → (regions new ≡ regions old) × (system new ≡ system old)
stays_by new old regions system None h cause e = absurd (cc)
stays_by new old regions system (Some z) h cause e = (ap regions h, ap system h)

module _ {V : Type 0} (means : Ghosts V) where
  pub unsaid_yield : (precheck : Bool) (x : Transaction) (holder : ℕ) (k j : Client) (gs hs : List RegionState) (y z : SystemState) (v u : Vaulted V) (ok : Bool) → ok ≡ false
      → YieldGoes means precheck x holder k gs y v false j hs z u → YieldGoes means precheck x holder k gs y v ok j hs z u
  unsaid_yield precheck x holder k j gs hs y z v u ok e goes = subst (λ (b : Bool). YieldGoes means precheck x holder k gs y v b j hs z u) (sym e) goes

  module _ (precheck : Bool) (x : Transaction) (k j : Client) (gs : List RegionState) (y : SystemState) (v : Vaulted V) (hs : List RegionState) (z : SystemState) (u : Vaulted V) (vault : u ≡ v) where
    -- the vault is as it was
    same_vault : {ok : Bool} {s : Start} {B : List (List Record)} {p : Point} {w : World} {a : Standing} → Went means precheck s B p w a (Within x) gs y v ok j hs z v → Went means precheck s B p w a (Within x) gs y v ok j hs z u
    same_vault {ok} {s} {B} {p} {w} {a} went = subst (λ (t : Vaulted V). Went means precheck s B p w a (Within x) gs y v ok j hs z t) (sym vault) went

    same_core : {ok : Bool} {s : Start} {B : List (List Record)} {p : Point} {w : World} {a : Standing} → (hs ≡ gs) × (z ≡ y) → Went means precheck s B p w a (Within x) gs y v ok j gs y v → Went means precheck s B p w a (Within x) gs y v ok j hs z v
    same_core {ok} {s} {B} {p} {w} {a} same went =
        subst (λ (rs : List RegionState). Went means precheck s B p w a (Within x) gs y v ok j rs z v) (sym same.0)
        (subst (λ (m : SystemState). Went means precheck s B p w a (Within x) gs y v ok j gs m v) (sym same.1) went)

    lives_now : (p : Point) → p.core.system ≡ y → state_of p.core.system x.txn ≡ Some Live → state_of y x.txn ≡ Some Live
    lives_now p same lives = ap (λ (m : SystemState). state_of m x.txn) (sym same) ∙ lives

    gone_rows : IsTakenBack means x.txn gs y v hs z → (n : ℕ) → is_open (state_of z n) ≡ true → (is_open (state_of y n) ≡ true) × (x.txn ≡ n → ⊥)
    gone_rows t = lived gs hs y z x.txn t.others (λ e. let no : false ≡ true = sym (ap (λ r. is_open (state_in r)) t.gone.0) ∙ e in absurd (cc))

    -- ---- by the run
    module _ (s : Start) (B : List (List Record)) (p : Point) (w : World) (a : Standing) (stood : Stood means s B p w precheck gs y v) (lives : state_of p.core.system x.txn ≡ Some Live) where
      whole : IsTakenBack means x.txn gs y v hs z → (to : Point) × GoesAway means precheck s B p w gs y v a.client (Within x) x.txn to hs z
      whole t = away_of means precheck s B p w gs y v stood a.client (Within x) x.txn (lives_now p stood.stands.at.system lives) (λ n e. e) hs z t.others (t.comes s B p stood.stands) t.gone.0

      half : IsHalfBack means x.txn gs y v hs z → (to : Point) × GoesBack means precheck s B p w gs y v a.client (Within x) x.txn to hs z
      half t = back_of means precheck s B p w gs y v stood a.client (Within x) x.txn (lives_now p stood.stands.at.system lives) (λ n e. e) hs z t.others (t.comes s B p stood.stands) (t.lives ∙ lives_now p stood.stands.at.system lives)

    -- ---- an abort
    module _ (next : next_of k ≡ Some Abort) (away : y.stop ≡ None → IsTakenBack means x.txn gs y v hs z) (stays : StaysWhere gs y hs z) where
      abort_goes : (left : Option Cause) → left ≡ y.stop → Finishes k Outside (abort_line left) j → StepGoes means precheck (Within x) k gs y v true j hs z u
      abort_goes left known f s B p w a stood is fits = same_vault (by_stop y.stop refl)
        where
          lines : (o : Option Cause) → y.stop ≡ o → lines_of j ≡ lines_of k ++ said_of (abort_line o) ∷ []
          lines o e = finished_lines k j Outside (abort_line left) f ∙ ap (λ n. lines_of k ++ said_of (abort_line n) ∷ []) (known ∙ e)

          by_stop : (o : Option Cause) → y.stop ≡ o → Went means precheck s B p w a (Within x) gs y v true j hs z v
          by_stop None e =
              let t = away e in
              let made = whole s B p w a stood fits.lives t in
              aborted means precheck s B p w a gs y v k j x stood is made.0 hs z fits e made.1 (gone_rows t) (behind_next k) (next_act k Abort next)
              (finished_client k j Outside (abort_line left) f) (lines None e) (finished_rest k j Outside (abort_line left) f) f.stands
          by_stop (Some cause) e =
              same_core (stays cause e)
              (abort_refused means precheck s B p w a gs y v k j x stood is fits cause e (behind_next k) (next_act k Abort next)
              (finished_client k j Outside (abort_line left) f) (lines (Some cause) e) (finished_rest k j Outside (abort_line left) f) f.stands)

      abort_silent_goes : Passes k Outside j → StepGoes means precheck (Within x) k gs y v false j hs z u
      abort_silent_goes f s B p w a stood is fits = same_vault (by_stop y.stop refl)
        where
          by_stop : (o : Option Cause) → y.stop ≡ o → Went means precheck s B p w a (Within x) gs y v false j hs z v
          by_stop None e =
              let t = away e in
              let made = whole s B p w a stood fits.lives t in
              aborted_unsaid means precheck s B p w a gs y v k j x stood is made.0 hs z fits e made.1 (gone_rows t) (behind_next k) (next_act k Abort next) f.transcript
          by_stop (Some cause) e = same_core (stays cause e) (abort_unsaid means precheck s B p w a gs y v k j x stood is fits cause e (behind_next k) (next_act k Abort next) f.transcript)

      pub abort_closes : (left : Option Cause) → left ≡ y.stop → (r : Result Bool NoMemory) → OnOk r (Finishes k Outside (abort_line left) j) → OnErr r (Passes k Outside j) → StepGoes means precheck (Within x) k gs y v (is_ok r) j hs z u
      abort_closes left known (Ok went) said silent = abort_goes left known said
      abort_closes left known (Err e) said silent = abort_silent_goes silent

    pub abort_half_goes : next_of k ≡ Some Abort → IsHalfBack means x.txn gs y v hs z → j.transcript ≡ k.transcript → StepGoes means precheck (Within x) k gs y v false j hs z u
    abort_half_goes next t same s B p w a stood is fits =
        let made = half s B p w a stood fits.lives t in
        same_vault (abort_left means precheck s B p w a gs y v k j x stood is made.0 hs z fits made.1 same (behind_next k) (next_act k Abort next))

    -- ---- the end of the block
    module _ (next : next_of k ≡ None) (away : y.stop ≡ None → IsTakenBack means x.txn gs y v hs z) (stays : StaysWhere gs y hs z) where
      over : rest_of k ≡ []
      over = ap (map act_of) (none_of k.rest.now next)

      end_goes : (left : Option Cause) → left ≡ y.stop → Finishes k Outside (end_line left) j → StepGoes means precheck (Within x) k gs y v true j hs z u
      end_goes left known f s B p w a stood is fits = same_vault (by_stop y.stop refl)
        where
          lines : (o : Option Cause) → y.stop ≡ o → lines_of j ≡ lines_of k ++ said_of (end_line o) ∷ []
          lines o e = finished_lines k j Outside (end_line left) f ∙ ap (λ n. lines_of k ++ said_of (end_line n) ∷ []) (known ∙ e)

          rest : rest_of j ≡ []
          rest = finished_rest k j Outside (end_line left) f ∙ ap (λ l. map act_of (drop 1 l)) (none_of k.rest.now next)

          by_stop : (o : Option Cause) → y.stop ≡ o → Went means precheck s B p w a (Within x) gs y v true j hs z v
          by_stop None e =
              let t = away e in
              let made = whole s B p w a stood fits.lives t in
              ended_block means precheck s B p w a gs y v k j x stood is made.0 hs z fits e made.1 (gone_rows t) over
              (finished_client k j Outside (end_line left) f) (lines None e) rest f.stands
          by_stop (Some cause) e =
              same_core (stays cause e)
              (end_refused means precheck s B p w a gs y v k j x stood is fits cause e over (finished_client k j Outside (end_line left) f) (lines (Some cause) e) rest f.stands)

      end_silent_goes : Passes k Outside j → StepGoes means precheck (Within x) k gs y v false j hs z u
      end_silent_goes f s B p w a stood is fits = same_vault (by_stop y.stop refl)
        where
          by_stop : (o : Option Cause) → y.stop ≡ o → Went means precheck s B p w a (Within x) gs y v false j hs z v
          by_stop None e =
              let t = away e in
              let made = whole s B p w a stood fits.lives t in
              ended_unsaid means precheck s B p w a gs y v k j x stood is made.0 hs z fits e made.1 (gone_rows t) over f.transcript
          by_stop (Some cause) e = same_core (stays cause e) (end_unsaid means precheck s B p w a gs y v k j x stood is fits cause e over f.transcript)

      pub end_closes : (left : Option Cause) → left ≡ y.stop → (r : Result Bool NoMemory) → OnOk r (Finishes k Outside (end_line left) j) → OnErr r (Passes k Outside j) → StepGoes means precheck (Within x) k gs y v (is_ok r) j hs z u
      end_closes left known (Ok went) said silent = end_goes left known said
      end_closes left known (Err e) said silent = end_silent_goes silent

    pub end_half_goes : next_of k ≡ None → IsHalfBack means x.txn gs y v hs z → j.transcript ≡ k.transcript → StepGoes means precheck (Within x) k gs y v false j hs z u
    end_half_goes next t same s B p w a stood is fits =
        let made = half s B p w a stood fits.lives t in
        same_vault (end_left means precheck s B p w a gs y v k j x stood is made.0 hs z fits made.1 same (ap (map act_of) (none_of k.rest.now next)))

    -- ---- giving way
    module _ (holder : ℕ) where
      runs_now : (p : Point) → p.core.system ≡ y → p.core.system.stop ≡ None → y.stop ≡ None
      runs_now p same runs = ap (λ (m : SystemState). m.stop) (sym same) ∙ runs

      also_client : (rest : List Command) (state : State) (lines : List Line) → SaysAlso k rest state lines j → j.transcript.client ≡ k.transcript.client
      also_client rest state lines f = ap (λ (t : Transcribed). t.client) f.transcript

      also_lines : (rest : List Command) (state : State) (lines : List Line) → SaysAlso k rest state lines j → lines_of j ≡ lines_of k ++ map said_of lines
      also_lines rest state lines f = ap (λ (t : Transcribed). map said_of t.lines) f.transcript ∙ map-append said_of k.transcript.lines lines

      module _ (away : y.stop ≡ None → IsTakenBack means x.txn gs y v hs z) (left : Option Cause) (known : left ≡ y.stop) where
        pub way_goes : x.tries + 1 < 1000 → SaysAlso k x.commands.now (Waiting (x.tries + 1) holder) (end_line left ∷ []) j → YieldGoes means precheck x holder k gs y v true j hs z u
        way_goes few f s B p w a stood is fits =
            let e = runs_now p stood.stands.at.system fits.runs in
            let t = away e in
            let made = whole s B p w a stood fits.lives t in
            same_vault (gives_way means precheck s B p w a gs y v k j x stood is made.0 hs z holder fits made.1 (gone_rows t) few
            (also_client _ _ _ f) (also_lines _ _ _ f ∙ ap (λ n. lines_of k ++ said_of (end_line n) ∷ []) (known ∙ e)) (ap (map act_of) f.rest_is) f.stands)

        pub way_silent_goes : x.tries + 1 < 1000 → GoesSilent k j → YieldGoes means precheck x holder k gs y v false j hs z u
        way_silent_goes few f s B p w a stood is fits =
            let t = away (runs_now p stood.stands.at.system fits.runs) in
            let made = whole s B p w a stood fits.lives t in
            same_vault (gives_way_unsaid means precheck s B p w a gs y v k j x stood is made.0 hs z holder fits made.1 (gone_rows t) few f.transcript)

        last_try : (x.tries + 1 < 1000 → ⊥) → x.tries < 1000 → x.tries + 1 ≡ 1000
        last_try many few = omega (arith, many, few)

        pub up_goes : (x.tries + 1 < 1000 → ⊥) → rest_of j ≡ behind_close (rest_of k) → SaysAlso k j.rest.now Outside (Busy holder ∷ end_line left ∷ []) j → YieldGoes means precheck x holder k gs y v true j hs z u
        up_goes many rest f s B p w a stood is fits =
            let e = runs_now p stood.stands.at.system fits.runs in
            let t = away e in
            let made = whole s B p w a stood fits.lives t in
            same_vault (gives_up means precheck s B p w a gs y v k j x stood is made.0 hs z holder fits made.1 (gone_rows t) (last_try many fits.again.few)
            (also_client _ _ _ f) (also_lines _ _ _ f ∙ ap (λ n. lines_of k ++ said_of (Busy holder) ∷ said_of (end_line n) ∷ []) (known ∙ e)) rest f.stands)

        pub up_silent_goes : (x.tries + 1 < 1000 → ⊥) → GoesSilent k j → YieldGoes means precheck x holder k gs y v false j hs z u
        up_silent_goes many f s B p w a stood is fits =
            let t = away (runs_now p stood.stands.at.system fits.runs) in
            let made = whole s B p w a stood fits.lives t in
            same_vault (gives_up_unsaid means precheck s B p w a gs y v k j x stood is made.0 hs z holder fits made.1 (gone_rows t) (last_try many fits.again.few) f.transcript)

      pub yield_half_goes : IsHalfBack means x.txn gs y v hs z → j.transcript ≡ k.transcript → YieldGoes means precheck x holder k gs y v false j hs z u
      yield_half_goes t same s B p w a stood is fits =
          let made = half s B p w a stood fits.lives t in
          same_vault (yield_left means precheck s B p w a gs y v k j x stood is made.0 hs z holder fits made.1 same)
