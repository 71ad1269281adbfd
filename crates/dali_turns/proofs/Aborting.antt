-- A transaction that is taken back as its client is told, at the end of its block, or since an older one holds the key of its call.
use Rattle.std.proofs.Common.{◌≡◌, ℕ, ◌+◌, ◌<◌, Bool, true, false, List, [], ◌∷◌, ◌++◌, length, map, Option, None, refl, ap, sym, subst, ◌∙◌, inl, inr}
use Rattle.std.proofs.lemmas.List.{append_assoc}
use Rattle.dali_record.specs.declared.records.Record.{Record}
use Rattle.dali_record.specs.declared.records.Record.TheVariants.{Ended}
use Rattle.dali_region.specs.State.{RegionState}
use Rattle.dali_store.specs.Store.{Files as Disk}
use Rattle.dali_store.specs.declared.store.Store.{Ghosts}
use Rattle.dali_runs.specs.State.{SystemState, state_of}
use Rattle.dali_crash.specs.Checkpoints.{Point}
use Rattle.dali_crash.specs.Traces.{Start}
use Rattle.dali_core.specs.Vault.Vaulted.{Vaulted}
use Rattle.dali_transcripts.specs.Words.{Act, Calls, Arms, Commits as CommitAct, Aborts as AbortAct, AbortOk, Aborted, Busy as IsBusy}
use Rattle.dali_transcripts.specs.World.{Deed, Logs, Yields, World, log_of}
use Rattle.dali_transcripts.specs.Moves.{Receipt, Outside as IsOutside, Within as IsWithin, Again, Spot, at, TakenBack, Move, Aborts, Ends, GivesWay, GivesUp, behind_close, from, said, own, to}
use Rattle.dali_transcripts.specs.Causes.{AreAsking, GetsBusy, AreUnfinished, HasCause}
use Rattle.dali_transcripts.specs.Laws.{receipts_from}
use Rattle.dali_transcripts.specs.Rounds.{Standing, IsPlaced}
use Rattle.dali_transcripts.proofs.Growing.{askings, busy}
use Rattle.dali_transcripts.specs.Clients.Told.{act_of}
use Rattle.dali_transcripts.specs.Telling.Tells.{after}
use Rattle.dali_turns.specs.declared.client.Client.{Client}
use Rattle.dali_turns.specs.declared.client.State.{State}
use Rattle.dali_turns.specs.declared.client.State.TheVariants.{Outside, Within, Waiting}
use Rattle.dali_turns.specs.declared.client.Transaction.{Transaction}
use Rattle.dali_turns.specs.Stood.{Stood}
use Rattle.dali_turns.specs.Within.{AreSoFar, FitsWithin, FitsYielding}
use Rattle.dali_turns.specs.Fits.{rest_of, lines_of, IsOf, Fits}
use Rattle.dali_turns.specs.Goes.{Went}
use Rattle.dali_turns.proofs.Refusals.{says_none}
use Rattle.dali_turns.proofs.Rows.{had_row}
use Rattle.dali_turns.proofs.Doing.{ended, outside_by, went_on, went_by, went_silent}
use Rattle.dali_turns.proofs.Closing.{GoesBack, GoesAway}
use Rattle.dali_transactions.specs.Beside.Went.{is_open}

-- behind the end of the open transaction
placed_behind : (acts : List Act) → IsPlaced true acts → IsPlaced false (behind_close acts)
placed_behind [] h = tt
placed_behind (Calls call ∷ acts) h = placed_behind acts h.1
placed_behind (Arms count ∷ acts) h = placed_behind acts h.1
placed_behind (CommitAct ∷ acts) h = h
placed_behind (AbortAct ∷ acts) h = h
placed_behind (act ∷ acts) h = absurd h

module _ {V : Type 0} (means : Ghosts V)
    (precheck : Bool) (s : Start) (B : List (List Record)) (p : Point) (w : World) (a : Standing) (gs : List RegionState) (y : SystemState) (v : Vaulted V) (k j : Client) (x : Transaction)
    (stood : Stood means s B p w precheck gs y v) (is : IsOf w a k) (q : Point) (hs : List RegionState) (z : SystemState) where
  abbrev number : ℕ
  number = length (log_of w)

  -- ---- in the transaction
  module _ (fits : FitsWithin p w a (rest_of k) x) where
    -- it has said nothing of a stop
    module _ (runs : y.stop ≡ None) where
      not_said : fits.said ≡ false
      not_said = says_none p.core.system fits.said fits.may (ap (λ (m : SystemState). m.stop) stood.stands.at.system ∙ runs)

      spot_is : (rest : List Act) → rest_of k ≡ rest → a.spot ≡ at (IsWithin x.txn x.tries (map act_of x.commands.now) x.deadly false) rest
      spot_is rest next = fits.spot ∙ (ap (λ b. at (IsWithin x.txn x.tries (map act_of x.commands.now) x.deadly b) (rest_of k)) not_said ∙ ap (at (IsWithin x.txn x.tries (map act_of x.commands.now) x.deadly false)) next)

      -- ---- as a whole
      module _ (away : GoesAway means precheck s B p w gs y v a.client (Within x) x.txn q hs z) (rows : (u : ℕ) → is_open (state_of z u) ≡ true → (is_open (state_of y u) ≡ true) × (x.txn ≡ u → ⊥)) where
        abbrev deeds : List Deed
        deeds = away.back ++ Logs (Ended x.txn) ∷ []

        abbrev late : World
        late = after w a.client deeds q.core

        abbrev work : List Receipt
        work = receipts_from number away.back

        module _ (m : Move) (more : List Act) (starts : a.spot ≡ from m) (own_is : own m ≡ work ++ (away.number, Logs (Ended x.txn)) ∷ []) (none : a.pending ≡ []) (caused : HasCause late a.client m)
            (ends : to m ≡ at (IsOutside false) more) (placed : IsPlaced false more) where
          own_was : a.pending ++ receipts_from number deeds ≡ own m
          own_was = ap (λ xs. xs ++ receipts_from number deeds) none ∙ (away.receipts ∙ sym own_is)

          closed : j.transcript.client ≡ k.transcript.client → lines_of j ≡ lines_of k ++ said m → rest_of j ≡ more → j.state ≡ Outside → Went means precheck s B p w a (Within x) gs y v true j hs z v
          closed client lines rest state =
              went_by means precheck s B B p q w a (Within x) gs hs y z v v deeds k j is away.did m starts own_was caused client lines
              (subst (λ (n : State). Fits means s B q late hs z v (ended a m) (rest_of j) n) (sym state) (outside_by z a m false more (rest_of j) rest (λ e. absurd (cc)) ends placed))
              (λ up u lives. inr (rows u lives))

          closed_unsaid : j.transcript ≡ k.transcript → Went means precheck s B p w a (Within x) gs y v false j hs z v
          closed_unsaid same = went_silent means precheck s B B p q w a (Within x) gs hs y z v v deeds k j is away.did m starts own_was caused same

        -- as it is told
        module _ (more : List Act) (next : rest_of k ≡ AbortAct ∷ more) where
          abbrev abort_move : Move
          abort_move = Aborts x.txn x.tries (map act_of x.commands.now) x.deadly work away.number more

          none_abort : a.pending ≡ []
          none_abort = subst (λ acts. AreSoFar w a.client x.txn acts a.pending) next fits.so_far

          placed_abort : IsPlaced false more
          placed_abort = subst (IsPlaced true) next fits.placed

          pub aborted : j.transcript.client ≡ k.transcript.client → lines_of j ≡ lines_of k ++ AbortOk ∷ [] → rest_of j ≡ more → j.state ≡ Outside → Went means precheck s B p w a (Within x) gs y v true j hs z v
          aborted = closed abort_move more (spot_is (AbortAct ∷ more) next) refl none_abort (away.aside, away.uncommitted) refl placed_abort

          pub aborted_unsaid : j.transcript ≡ k.transcript → Went means precheck s B p w a (Within x) gs y v false j hs z v
          aborted_unsaid = closed_unsaid abort_move more (spot_is (AbortAct ∷ more) next) refl none_abort (away.aside, away.uncommitted) refl placed_abort

        -- at the end of the block
        module _ (next : rest_of k ≡ []) where
          abbrev end_move : Move
          end_move = Ends x.txn x.tries (map act_of x.commands.now) x.deadly work away.number

          none_end : a.pending ≡ []
          none_end = subst (λ acts. AreSoFar w a.client x.txn acts a.pending) next fits.so_far

          pub ended_block : j.transcript.client ≡ k.transcript.client → lines_of j ≡ lines_of k ++ Aborted ∷ [] → rest_of j ≡ [] → j.state ≡ Outside → Went means precheck s B p w a (Within x) gs y v true j hs z v
          ended_block = closed end_move [] (spot_is [] next) refl none_end (away.aside, away.uncommitted) refl tt

          pub ended_unsaid : j.transcript ≡ k.transcript → Went means precheck s B p w a (Within x) gs y v false j hs z v
          ended_unsaid = closed_unsaid end_move [] (spot_is [] next) refl none_end (away.aside, away.uncommitted) refl tt

    -- ---- in part, since memory was refused
    module _ (part : GoesBack means precheck s B p w gs y v a.client (Within x) x.txn q hs z) (same : j.transcript ≡ k.transcript) where
      abbrev midway : World
      midway = after w a.client part.back q.core

      left_there : (rest : List Act) → rest_of k ≡ rest → AreUnfinished midway a.client (IsWithin x.txn x.tries (map act_of x.commands.now) x.deadly fits.said) rest (a.pending ++ receipts_from number part.back)
          → Went means precheck s B p w a (Within x) gs y v false j hs z v
      left_there rest next h =
          went_on means precheck s B B p q w a (Within x) gs hs y z v v part.back k j is part.did false same
          (inl (refl, subst (λ (n : Spot). AreUnfinished midway a.client n.place n.rest (a.pending ++ receipts_from number part.back)) (sym (fits.spot ∙ ap (at (IsWithin x.txn x.tries (map act_of x.commands.now) x.deadly fits.said)) next)) h))
          (λ e. absurd (cc))

      pub abort_left : (more : List Act) → rest_of k ≡ AbortAct ∷ more → Went means precheck s B p w a (Within x) gs y v false j hs z v
      abort_left more next =
          let none : a.pending ≡ [] = subst (λ acts. AreSoFar w a.client x.txn acts a.pending) next fits.so_far in
          left_there (AbortAct ∷ more) next
          (subst (λ xs. AreUnfinished midway a.client (IsWithin x.txn x.tries (map act_of x.commands.now) x.deadly fits.said) (AbortAct ∷ more) (xs ++ receipts_from number part.back)) (sym none) part.aside)

      pub end_left : rest_of k ≡ [] → Went means precheck s B p w a (Within x) gs y v false j hs z v
      end_left next =
          let none : a.pending ≡ [] = subst (λ acts. AreSoFar w a.client x.txn acts a.pending) next fits.so_far in
          left_there [] next
          (subst (λ xs. AreUnfinished midway a.client (IsWithin x.txn x.tries (map act_of x.commands.now) x.deadly fits.said) [] (xs ++ receipts_from number part.back)) (sym none) part.aside)

  -- ---- where an older transaction holds the key of its call
  module _ (holder : ℕ) (fits : FitsYielding p w a (rest_of k) x holder) where
    abbrev commands : List Act
    commands = map act_of x.commands.now

    yield_spot : a.spot ≡ at (IsWithin x.txn x.tries commands x.deadly false) (Calls fits.call ∷ fits.more)
    yield_spot = fits.spot ∙ ap (at (IsWithin x.txn x.tries commands x.deadly false)) fits.calls

    module _ (away : GoesAway means precheck s B p w gs y v a.client (Within x) x.txn q hs z) (rows : (u : ℕ) → is_open (state_of z u) ≡ true → (is_open (state_of y u) ≡ true) × (x.txn ≡ u → ⊥)) where
      abbrev given : List Deed
      given = away.back ++ Logs (Ended x.txn) ∷ []

      abbrev behind_it : World
      behind_it = after w a.client given q.core

      abbrev back : List Receipt
      back = receipts_from number away.back

      yield_own : a.pending ++ receipts_from number given ≡ (fits.work ++ (fits.refusal.at, Yields fits.refusal) ∷ back) ++ (away.number, Logs (Ended x.txn)) ∷ []
      yield_own =
          ap (λ xs. xs ++ receipts_from number given) fits.pending
          ∙ (ap (λ xs. (fits.work ++ (fits.refusal.at, Yields fits.refusal) ∷ []) ++ xs) away.receipts
          ∙ (append_assoc fits.work ((fits.refusal.at, Yields fits.refusal) ∷ []) (back ++ (away.number, Logs (Ended x.txn)) ∷ [])
          ∙ sym (append_assoc fits.work ((fits.refusal.at, Yields fits.refusal) ∷ back) ((away.number, Logs (Ended x.txn)) ∷ []))))

      asking_late : AreAsking behind_it a.client x.txn fits.call fits.work
      asking_late = askings w behind_it away.did.goes.grows a.client x.txn fits.call fits.work fits.asking

      busy_late : GetsBusy behind_it a.client x.txn fits.call fits.refusal
      busy_late = busy w behind_it away.did.goes.grows a.client x.txn fits.call fits.refusal fits.busy

      -- it is tried again
      module _ (again : x.tries + 1 < 1000) where
        abbrev way : Move
        way = GivesWay x.txn x.tries commands x.deadly fits.work fits.call fits.refusal back (TakenBack away.number) fits.more

        way_cause : HasCause behind_it a.client way
        way_cause = (asking_late, busy_late, away.aside, away.uncommitted, again)

        pub gives_way : j.transcript.client ≡ k.transcript.client → lines_of j ≡ lines_of k ++ Aborted ∷ [] → rest_of j ≡ commands → j.state ≡ Waiting (x.tries + 1) holder
            → Went means precheck s B p w a (Within x) gs y v true j hs z v
        gives_way client lines rest state =
            went_by means precheck s B B p q w a (Within x) gs hs y z v v given k j is away.did way yield_spot yield_own way_cause client lines
            (subst (λ (n : State). Fits means s B q behind_it hs z v (ended a way) (rest_of j) n) (sym state) (record {
              said = false;
              may = λ e. absurd (cc);
              spot = ap (λ n. at (Again (x.tries + 1) n false) commands) fits.holder_is ∙ ap (at (Again (x.tries + 1) holder false)) (sym rest);
              none = refl;
              more = fits.again.more;
              begins = rest ∙ fits.again.begins;
              placed = subst (IsPlaced false) (sym rest) fits.again.placed;
              few = again;
              had = had_row w behind_it a.client p q given stood.tells away.did.goes holder fits.had;
            }))
            (λ up u lives. inr (rows u lives))

        pub gives_way_unsaid : j.transcript ≡ k.transcript → Went means precheck s B p w a (Within x) gs y v false j hs z v
        gives_way_unsaid same = went_silent means precheck s B B p q w a (Within x) gs hs y z v v given k j is away.did way yield_spot yield_own way_cause same

      -- or not
      module _ (last : x.tries + 1 ≡ 1000) where
        abbrev up : Move
        up = GivesUp x.txn x.tries commands x.deadly fits.work fits.call fits.refusal back (TakenBack away.number) fits.more

        up_cause : HasCause behind_it a.client up
        up_cause = (asking_late, busy_late, away.aside, away.uncommitted, last)

        pub gives_up : j.transcript.client ≡ k.transcript.client → lines_of j ≡ lines_of k ++ IsBusy holder ∷ Aborted ∷ [] → rest_of j ≡ behind_close (rest_of k) → j.state ≡ Outside
            → Went means precheck s B p w a (Within x) gs y v true j hs z v
        gives_up client lines rest state =
            went_by means precheck s B B p q w a (Within x) gs hs y z v v given k j is away.did up yield_spot yield_own up_cause client (lines ∙ ap (λ n. lines_of k ++ IsBusy n ∷ Aborted ∷ []) (sym fits.holder_is))
            (subst (λ (n : State). Fits means s B q behind_it hs z v (ended a up) (rest_of j) n) (sym state) (outside_by z a up false (behind_close fits.more) (rest_of j) rest_is (λ e. absurd (cc)) refl (placed_behind fits.more (subst (IsPlaced true) fits.calls fits.placed).1)))
            (λ up u lives. inr (rows u lives))
          where
            rest_is : rest_of j ≡ behind_close fits.more
            rest_is = rest ∙ ap behind_close fits.calls

        pub gives_up_unsaid : j.transcript ≡ k.transcript → Went means precheck s B p w a (Within x) gs y v false j hs z v
        gives_up_unsaid same = went_silent means precheck s B B p q w a (Within x) gs hs y z v v given k j is away.did up yield_spot yield_own up_cause same

    -- ---- memory was refused
    module _ (part : GoesBack means precheck s B p w gs y v a.client (Within x) x.txn q hs z) (same : j.transcript ≡ k.transcript) where
      abbrev halfway : World
      halfway = after w a.client part.back q.core

      unfinished : AreUnfinished halfway a.client (IsWithin x.txn x.tries commands x.deadly false) (Calls fits.call ∷ fits.more) ((fits.work ++ (fits.refusal.at, Yields fits.refusal) ∷ []) ++ receipts_from number part.back)
      unfinished = inr (inr (record {
        work = fits.work;
        refusal = fits.refusal;
        back = receipts_from number part.back;
        is = append_assoc fits.work ((fits.refusal.at, Yields fits.refusal) ∷ []) (receipts_from number part.back);
        asking = askings w halfway part.did.goes.grows a.client x.txn fits.call fits.work fits.asking;
        busy = busy w halfway part.did.goes.grows a.client x.txn fits.call fits.refusal fits.busy;
        aside = part.aside;
      }))

      pub yield_left : Went means precheck s B p w a (Within x) gs y v false j hs z v
      yield_left =
          went_on means precheck s B B p q w a (Within x) gs hs y z v v part.back k j is part.did false same
          (inl (
            refl,
            subst (λ (n : Spot). AreUnfinished halfway a.client n.place n.rest (a.pending ++ receipts_from number part.back)) (sym yield_spot)
                (subst (λ xs. AreUnfinished halfway a.client (IsWithin x.txn x.tries commands x.deadly false) (Calls fits.call ∷ fits.more) (xs ++ receipts_from number part.back)) (sym fits.pending) unfinished),
          ))
          (λ e. absurd (cc))
