-- A begin of a client, its first try or a later one.
use Rattle.std.proofs.Common.{◌≡◌, ℕ, ◌+◌, ◌<◌, Bool, true, false, List, [], ◌∷◌, ◌++◌, length, map, sum_by, Option, Some, None, is_some, IfSome, Result, Err, IfErr, refl, ap, sym, subst, ◌∙◌, ◌⊎◌, inl, inr, arith}
use Rattle.std.specs.Prelude.{◌==◌, ◌||◌, if◌then◌else◌, IsSome, nat_lt}
use Rattle.std.proofs.lemmas.Bool.{ne_eqb, ltb-true}
use Rattle.dali_runs.proofs.CountsLemmas.Lists.{self, equal}
use Rattle.dali_runs.proofs.CountsLemmas.SmallLogs.{next_is_small}
use Rattle.dali_record.specs.declared.records.Record.{Record}
use Rattle.dali_record.specs.declared.records.Record.TheVariants.{Begin as BeginRecord}
use Rattle.dali_record.specs.Spelling.{record_length}
use Rattle.dali_region.specs.declared.Hold.{Hold}
use Rattle.dali_region.specs.State.{RegionState}
use Rattle.dali_att.specs.declared.state.State.{State as RowState}
use Rattle.dali_att.specs.declared.state.State.TheVariants.{Live}
use Rattle.dali_store.specs.Store.{Files as Disk}
use Rattle.dali_store.specs.declared.store.Store.{Ghosts}
use Rattle.dali_runs.specs.declared.causes.Cause.{Cause}
use Rattle.dali_runs.specs.State.{SystemState, CoreState, TxnRow, row_of, state_in, state_of, hold_of, lock_of}
use Rattle.dali_runs.specs.Run.{RunsOn}
use Rattle.dali_runs.specs.Regions.{is_alive}
use Rattle.dali_runs.specs.Keeps.{HasRoom, IsNext, IsFree, with_system}
use Rattle.dali_runs.specs.Steps.{begun}
use Rattle.dali_runs.specs.Courses.{Begins as BeginsStep}
use Rattle.dali_runs.specs.Wholes.{latched_in}
use Rattle.dali_runs.specs.Facts.Plans.{AtWork}
use Rattle.dali_runs.specs.Facts.Ends.{HasBegun}
use Rattle.dali_runs.proofs.FactsLemmas.Ends.{begin_follows, next_is_unbegun}
use Rattle.dali_runs.proofs.FactsLemmas.OlderRows.{rows_are_older}
use Rattle.dali_crash.specs.Checkpoints.{Does, Point, IsPointStep, copies_after}
use Rattle.dali_crash.specs.Traces.{Start, bases_of}
use Rattle.dali_core.specs.Vault.Vaulted.{Vaulted}
use Rattle.dali_system.specs.declared.error.SystemError.{SystemError}
use Rattle.dali_system.specs.declared.error.SystemError.TheVariants.{Stopped, LogFull, OutOfMemory}
use Rattle.dali_system.specs.Refused.{room_of, refusal}
use Rattle.dali_calls.specs.Single.Single.{MayCall}
use Rattle.dali_transcripts.specs.declared.clients.command.Command.TheVariants.{Begin}
use Rattle.dali_transcripts.specs.declared.clients.line.Why.{Why}
use Rattle.dali_transcripts.specs.declared.clients.line.Why.TheVariants.{Stopped as IsStopped, LogFull as IsFull}
use Rattle.dali_transcripts.specs.declared.clients.line.Line.TheVariants.{Begun, Refused}
use Rattle.dali_transcripts.specs.Clients.Told.{act_of, reason_of}
use Rattle.dali_transcripts.specs.Words.{Act, Begins as BeginAct, Why as Reason, StoppedBy, Full, is_stop, Said, Begun as SaidBegun}
use Rattle.dali_transcripts.specs.World.{Deed, Logs, Meets, World, log_of, is_claimed_in, HasEndedBy}
use Rattle.dali_transcripts.specs.Moves.{Receipt, Place, Outside as IsOutside, Within as IsWithin, Again, LeftOut as IsLeftOut, Move, Begins, BeginsAgain, IsRefusedBegin, from, to, own, said, at}
use Rattle.dali_transcripts.specs.Causes.{MayBegin, WaitsNoMore, HasCause, spares, undos_behind}
use Rattle.dali_transcripts.specs.Rounds.{Standing, IsPlaced}
use Rattle.dali_transcripts.specs.Telling.Tells.{after}
use Rattle.dali_transcripts.specs.Telling.Laws.{IsNoFault}
use Rattle.dali_transcripts.proofs.TellingLemmas.States.{begun_state}
use Rattle.dali_locks.specs.declared.mode.Mode.{Mode}
use Rattle.dali_turns.specs.declared.client.Client.{Client}
use Rattle.dali_turns.specs.declared.client.Transaction.{Transaction}
use Rattle.dali_turns.specs.declared.client.State.{State}
use Rattle.dali_turns.specs.declared.client.State.TheVariants.{Outside, LeftOut, Within, Waiting}
use Rattle.dali_turns.specs.Clients.{next_of, Passes, Finishes}
use Rattle.dali_turns.specs.Whys.{why_in}
use Rattle.dali_turns.specs.Stood.{HadRow, IsQuiet, Stood}
use Rattle.dali_turns.specs.Outside.{MaySay, FitsOutside, FitsWaiting, HasGone, BeginsFrom}
use Rattle.dali_turns.specs.Within.{AreSoFar, FitsWithin}
use Rattle.dali_turns.specs.Fits.{rest_of, lines_of, IsOf, Owns, Fits}
use Rattle.dali_turns.specs.Goes.{RowsTell, Went, StepGoes}
use Rattle.dali_turns.proofs.Commands.{next_act, behind_next, finished_rest, finished_lines, finished_client, due_at}
use Rattle.dali_turns.proofs.Doing.{vault_stops, ended, Did, did_meet, did_quietly, went_by, went_silent}
use Rattle.dali_turns.proofs.Poking.{went_nowhere}
use Rattle.dali_turns.proofs.Refusals.{runs_on_log, end_is as end_of_log, log_there, HasCauseNow, met_now, right_now, stop_now, runs_there, may_say_more}
use Rattle.dali_turns.proofs.Rows.{gone_by}
use Rattle.dali_turns.proofs.Calling.{none_so_far}
use Rattle.dali_transactions.specs.Beside.Went.{is_open}

-- ---- rows
has_row : (o : Option TxnRow) → is_some (state_in o) ≡ true → is_some o ≡ true
has_row None e = absurd (cc)
has_row (Some row) e = refl

latched_some : (o : Option RowState) (r : ℕ) → latched_in o ≡ Some r → is_some o ≡ true
latched_some None r e = absurd (cc)
latched_some (Some st) r e = refl

alive_some : (o : Option RowState) → is_alive o ≡ true → is_some o ≡ true
alive_some None e = absurd (cc)
alive_some (Some st) e = refl

-- an engine that runs isn't said to be stopped
not_said : (y : SystemState) (b : Bool) → MaySay y b → y.stop ≡ None → b ≡ false
not_said y false may up = refl
not_said y true may up = let stopped : is_some y.stop ≡ true = may refl in let runs : is_some y.stop ≡ false = ap is_some up in absurd (cc)

-- ---- the system behind a begin
module _ (y : SystemState) where
  quiet_then : IsQuiet y → IsQuiet (begun y)
  quiet_then quiet = record { unclaimed = λ t. ap is_claimed_in (begun_state y.table y.next t) ∙ unclaimed (y.next == t) t }
    where
      unclaimed : (b : Bool) (t : ℕ) → is_claimed_in (if b then Some Live else state_of y t) ≡ false
      unclaimed true t = refl
      unclaimed false t = quiet.unclaimed t

  rows_then : (state : State) (x : Transaction) → x.txn ≡ y.next → ((t : ℕ) → Owns state t → ⊥) → RowsTell state y (Within x) (begun y)
  rows_then state x number apart up t lives = by_test (y.next == t) refl (ap is_open (sym (begun_state y.table y.next t)) ∙ lives)
    where
      by_test : (b : Bool) → (y.next == t) ≡ b → is_open (if b then Some Live else state_of y t) ≡ true → (x.txn ≡ t) ⊎ ((is_open (state_of y t) ≡ true) × (Owns state t → ⊥))
      by_test true e is = inl (number ∙ equal y.next t e)
      by_test false e is = inr (is, apart t)

module _ {V : Type 0} (means : Ghosts V) where
  -- where the engine runs, who had to end has ended
  ended_here : (precheck : Bool) (s : Start) (B : List (List Record)) (p : Point) (w : World) (gs : List RegionState) (y : SystemState) (v : Vaulted V) → Stood means s B p w precheck gs y v
      → (c : ℕ) (ds : List Deed) (d : CoreState) (holder : ℕ) → y.stop ≡ None → HadRow w holder → HasGone y holder ⊎ IsSome y.stop → HasEndedBy (after w c ds d) holder (length (log_of w))
  ended_here precheck s B p w gs y v stood c ds d holder up had (inr stopped) = let never : is_some y.stop ≡ false = ap is_some up in absurd (cc)
  ended_here precheck s B p w gs y v stood c ds d holder up had (inl gone) =
      let same : w.core.system ≡ y = ap (λ (k : CoreState). k.system) stood.tells.core ∙ stood.stands.at.system in
      gone_by w p stood.tells stood.began c ds d holder (ap (λ (m : SystemState). m.stop) same ∙ up) had (subst (λ (m : SystemState). HasGone m holder) (sym same) gone)

module _ {V : Type 0} (means : Ghosts V)
    (precheck : Bool) (s : Start) (B : List (List Record)) (p : Point) (w : World) (a : Standing) (gs : List RegionState) (y : SystemState) (v : Vaulted V) (k j : Client) (state : State)
    (stood : Stood means s B p w precheck gs y v) (is : IsOf w a k) (next : next_of k ≡ Some Begin) (apart : (t : ℕ) → Owns state t → ⊥) where
  acts : rest_of k ≡ BeginAct ∷ behind_next k
  acts = next_act k Begin next

  runs : RunsOn (bases_of s) p.log p.core
  runs = runs_on_log (bases_of s) s.log p stood.stands.at.vault.run

  hb : HasBegun p.core.system.sizes (p.log ++ BeginRecord p.core.system.next ∷ []) p.core.system.next
  hb = begin_follows p.core.system.sizes p.log p.core.system.next (next_is_unbegun (bases_of s) p.log p.core runs)

  holder_is_older : (r : ℕ) (h : Hold) → hold_of p.core r ≡ Some h → h.txn < p.core.system.next
  holder_is_older r h held = rows_are_older (bases_of s) p.log p.core runs h.txn (has_row (row_of p.core.system h.txn) (by_dead h.dead refl))
    where
      by_dead : (b : Bool) → h.dead ≡ b → is_some (state_of p.core.system h.txn) ≡ true
      by_dead true e = latched_some (state_of p.core.system h.txn) r (stood.stands.whole.dead r h held e)
      by_dead false e = alive_some (state_of p.core.system h.txn) (stood.stands.whole.live r h held e)

  -- ---- it begins
  module _ (x : Transaction) (room : HasRoom y (BeginRecord y.next)) (number : x.txn ≡ y.next) (commands : x.commands.now ≡ k.rest.now) (deadly : x.deadly ≡ None) where
    abbrev q : Point
    q = record p { log = p.log ++ BeginRecord p.core.system.next ∷ []; core = with_system p.core (begun p.core.system); copies = copies_after p.core BeginsStep p.copies }

    step : IsPointStep p (Does BeginsStep) q
    step = (refl, ((subst (λ (m : SystemState). HasRoom m (BeginRecord m.next)) (sym stood.stands.at.system) room, (refl, refl)), refl), refl)

    own_number : x.txn ≡ p.core.system.next
    own_number = number ∙ ap (λ (m : SystemState). m.next) (sym stood.stands.at.system)

    did : Did means precheck s B p w a.client state gs y v (Logs (BeginRecord p.core.system.next) ∷ []) B q gs (begun y) v
    did = did_quietly means precheck s B p w gs y v stood a.client state q BeginsStep (Logs (BeginRecord p.core.system.next) ∷ []) (begun y) gs refl step refl
        (runs_there (bases_of s) s.log w a.client p stood.stands.at.vault.run stood.tells (vault_stops means precheck s B p w gs y v stood) (Logs (BeginRecord p.core.system.next)) q.core (ap (λ (m : SystemState). m.stop) stood.stands.at.system ∙ room.runs), tt)
        (ap begun stood.stands.at.system) stood.stands.at.regions refl
        stood.stands.dead (λ fs held. held) (quiet_then y stood.quiet) (λ e. e) (λ t lives other. refl) (λ b other. refl)

    free : IsFree q.core x.txn
    free r h held = ne_eqb h.txn x.txn (λ e. absurd (omega (arith, holder_is_older r h held, e, own_number)))

    no_lock : (n : ℕ) (mode : Mode) → lock_of q.core.system x.txn n ≡ Some mode → ⊥
    no_lock n mode held =
        absurd (omega (arith, rows_are_older (bases_of s) p.log p.core runs x.txn (runs.locks.owned x.txn n mode held), own_number))

    may_call : MayCall q.log q.core x.txn
    may_call = record {
      working = hb.working;
      at_work = subst (λ (n : ℕ). AtWork p.core.system.sizes (p.log ++ BeginRecord p.core.system.next ∷ []) n hb.working) (sym own_number) hb.at_work;
      level = hb.level;
      free = free;
    }

    lives : state_of q.core.system x.txn ≡ Some Live
    lives =
        begun_state p.core.system.table p.core.system.next x.txn
        ∙ ap (λ (b : Bool). if b then Some Live else state_of p.core.system x.txn) (ap (λ (n : ℕ). p.core.system.next == n) own_number ∙ self p.core.system.next)

    now_within : (rest_is : rest_of j ≡ behind_next k) (b : Standing) (T : ℕ) → x.tries ≡ T → T < 1000 → b.spot ≡ at (IsWithin x.txn T (BeginAct ∷ behind_next k) None false) (behind_next k) → b.pending ≡ [] → IsPlaced false (rest_of k)
        → FitsWithin q (after w a.client (Logs (BeginRecord p.core.system.next) ∷ []) q.core) b (rest_of j) x
    now_within rest_is b T tries few spot none placed = record {
      said = false;
      may = λ e. absurd (cc);
      spot =
          spot
          ∙ (ap (λ (n : ℕ). at (IsWithin x.txn n (BeginAct ∷ behind_next k) None false) (behind_next k)) (sym tries)
          ∙ (ap (λ (cs : List Act). at (IsWithin x.txn x.tries cs None false) (behind_next k)) (sym (ap (map act_of) commands ∙ acts))
          ∙ (ap (λ (d : Option ℕ). at (IsWithin x.txn x.tries (map act_of x.commands.now) d false) (behind_next k)) (sym deadly)
          ∙ ap (at (IsWithin x.txn x.tries (map act_of x.commands.now) x.deadly false)) (sym rest_is))));
      so_far = subst (λ (xs : List Receipt). AreSoFar (after w a.client (Logs (BeginRecord p.core.system.next) ∷ []) q.core) b.client x.txn (rest_of j) xs) (sym none) (none_so_far _ b.client x.txn (rest_of j));
      undone = λ us. ap (undos_behind x.txn us) none;
      placed = subst (IsPlaced true) (sym rest_is) (subst (IsPlaced false) acts placed);
      again = record {
        more = behind_next k;
        begins = ap (map act_of) commands ∙ acts;
        placed = subst (IsPlaced false) (sym (ap (map act_of) commands)) placed;
        few = subst (λ (n : ℕ). n < 1000) (sym tries) few;
      };
      due = ap (λ (d : Option ℕ). spares d 0) deadly;
      lives = lives;
      free = free;
      locks = λ n mode held. absurd (no_lock n mode held);
      may_call = λ up. may_call;
    }

    -- by which step
    pub record IsBeginning : Type 0 where
      pub move : Move
      pub starts : a.spot ≡ from move
      pub own_is : own move ≡ (length (log_of w), Logs (BeginRecord x.txn)) ∷ []
      pub says : said move ≡ SaidBegun x.txn ∷ []
      pub goes : to move ≡ at (IsWithin x.txn x.tries (BeginAct ∷ behind_next k) None false) (behind_next k)
      pub cause : HasCause (after w a.client (Logs (BeginRecord p.core.system.next) ∷ []) q.core) a.client move
      pub none : a.pending ≡ []
      pub placed : IsPlaced false (rest_of k)
      pub few : x.tries < 1000

    own_here : (b : IsBeginning) → a.pending ++ (length (log_of w), Logs (BeginRecord p.core.system.next)) ∷ [] ≡ own b.move
    own_here b =
        ap (λ (xs : List Receipt). xs ++ (length (log_of w), Logs (BeginRecord p.core.system.next)) ∷ []) b.none
        ∙ (ap (λ (n : ℕ). let xs : List Receipt = (length (log_of w), Logs (BeginRecord n)) ∷ [] in xs) (sym own_number) ∙ sym b.own_is)

    pub begun_went : IsBeginning → Finishes k (Within x) (Begun x.txn) j → Went means precheck s B p w a state gs y v true j gs (begun y) v
    begun_went b f = went_by means precheck s B B p q w a state gs gs y (begun y) v v (Logs (BeginRecord p.core.system.next) ∷ []) k j is did b.move b.starts (own_here b) b.cause
        (finished_client k j (Within x) (Begun x.txn) f) (finished_lines k j (Within x) (Begun x.txn) f ∙ ap (λ (l : List Said). lines_of k ++ l) (sym b.says))
        (subst (λ (st : State). Fits means s B q (after w a.client (Logs (BeginRecord p.core.system.next) ∷ []) q.core) gs (begun y) v (ended a b.move) (rest_of j) st) (sym f.stands)
        (now_within (finished_rest k j (Within x) (Begun x.txn) f) (ended a b.move) x.tries refl b.few b.goes refl b.placed))
        (subst (λ (st : State). RowsTell state y st (begun y)) (sym f.stands) (rows_then y state x number apart))

    pub silent_went : IsBeginning → Passes k (Within x) j → Went means precheck s B p w a state gs y v false j gs (begun y) v
    silent_went b f = went_silent means precheck s B B p q w a state gs gs y (begun y) v v (Logs (BeginRecord p.core.system.next) ∷ []) k j is did b.move b.starts (own_here b) b.cause f.transcript

    -- from outside
    pub first_time : FitsOutside y a (rest_of k) → x.tries ≡ 0 → IsBeginning
    first_time fits tried = record {
      move = Begins x.txn (length (log_of w)) (behind_next k);
      starts = fits.spot ∙ (ap (λ (b : Bool). at (IsOutside b) (rest_of k)) (not_said y fits.said fits.may room.runs) ∙ ap (at (IsOutside false)) acts);
      own_is = refl;
      says = refl;
      goes = ap (λ (n : ℕ). at (IsWithin x.txn n (BeginAct ∷ behind_next k) None false) (behind_next k)) (sym tried);
      cause = tt;
      none = fits.none;
      placed = fits.placed;
      few = omega (arith, tried);
    }

    -- or behind a holder
    pub again : (n holder : ℕ) → FitsWaiting w y a (rest_of k) n holder → x.tries ≡ n → HasGone y holder ⊎ IsSome y.stop → IsBeginning
    again n holder fits tried gone = record {
      move = BeginsAgain x.txn (length (log_of w)) n holder (behind_next k);
      starts = fits.spot ∙ (ap (λ (b : Bool). at (Again n holder b) (rest_of k)) (not_said y fits.said fits.may room.runs) ∙ ap (at (Again n holder false)) acts);
      own_is = refl;
      says = refl;
      goes = ap (λ (m : ℕ). at (IsWithin x.txn m (BeginAct ∷ behind_next k) None false) (behind_next k)) (sym tried);
      cause = ended_here means precheck s B p w gs y v stood a.client (Logs (BeginRecord p.core.system.next) ∷ []) q.core holder room.runs fits.had gone;
      none = fits.none;
      placed = fits.placed;
      few = subst (λ (m : ℕ). m < 1000) (sym tried) fits.few;
    }

  -- ---- it is refused
  module _ (why : Why) (fault : IsNoFault (reason_of why)) (cause : HasCauseNow w a.client p.core BeginAct None (reason_of why))
      (stops : is_stop (reason_of why) ≡ true → is_some y.stop ≡ true) where
    -- from where
    pub record IsRefusedFrom : Type 0 where
      pub place : Place
      pub said_it : Bool
      pub begins : MayBegin place said_it
      pub waits : WaitsNoMore (after w a.client (Meets (reason_of why) ∷ []) p.core) place (length (log_of w)) (reason_of why)
      pub spot : a.spot ≡ at place (rest_of k)
      pub none : a.pending ≡ []
      pub may : MaySay y said_it
      pub placed : IsPlaced false (rest_of k)

    pub refused_went : IsRefusedFrom → Finishes k LeftOut (Refused Begin why) j → Went means precheck s B p w a state gs y v true j gs y v
    refused_went b f =
        went_by means precheck s B B p p w a state gs gs y y v v (Meets (reason_of why) ∷ []) k j is (did_meet means precheck s B p w gs y v stood a.client state (reason_of why) fault (right_now w a.client p.core BeginAct None (reason_of why) cause))
        (IsRefusedBegin b.place b.said_it (length (log_of w)) (reason_of why) (behind_next k)) (b.spot ∙ ap (at b.place) acts) (ap (λ (xs : List Receipt). xs ++ (length (log_of w), Meets (reason_of why)) ∷ []) b.none) (b.begins, met_now w a.client p.core BeginAct None (reason_of why) cause, b.waits)
        (finished_client k j LeftOut (Refused Begin why) f) (finished_lines k j LeftOut (Refused Begin why) f)
        (subst (λ (st : State). Fits means s B p (after w a.client (Meets (reason_of why) ∷ []) p.core) gs y v (ended a (IsRefusedBegin b.place b.said_it (length (log_of w)) (reason_of why) (behind_next k))) (rest_of j) st) (sym f.stands)
        (record {
          said = b.said_it || is_stop (reason_of why);
          may = may_say_more y b.said_it (reason_of why) b.may stops;
          spot = ap (at (IsLeftOut (b.said_it || is_stop (reason_of why)))) (sym (finished_rest k j LeftOut (Refused Begin why) f));
          none = refl;
          placed = subst (IsPlaced true) (sym (finished_rest k j LeftOut (Refused Begin why) f)) (subst (IsPlaced false) acts b.placed);
        }))
        (subst (λ (st : State). RowsTell state y st y) (sym f.stands) (λ up t lives. inr (lives, apart t)))

    pub refused_outside : FitsOutside y a (rest_of k) → IsRefusedFrom
    refused_outside fits = record { place = IsOutside fits.said; said_it = fits.said; begins = refl; waits = no_wait (reason_of why); spot = fits.spot; none = fits.none; may = fits.may; placed = fits.placed }
      where
        no_wait : (r : Reason) → WaitsNoMore (after w a.client (Meets (reason_of why) ∷ []) p.core) (IsOutside fits.said) (length (log_of w)) r
        no_wait (StoppedBy cause) = tt
        no_wait r = tt

    pub refused_again : (n holder : ℕ) (fits : FitsWaiting w y a (rest_of k) n holder) → WaitsNoMore (after w a.client (Meets (reason_of why) ∷ []) p.core) (Again n holder fits.said) (length (log_of w)) (reason_of why) → IsRefusedFrom
    refused_again n holder fits waits = record { place = Again n holder fits.said; said_it = fits.said; begins = refl; waits = waits; spot = fits.spot; none = fits.none; may = fits.may; placed = fits.placed }

  -- the log has no room for it
  full_now : p.core.system.stop ≡ None → p.core.system.limit < p.core.system.end + 9 → HasCauseNow w a.client p.core BeginAct None (Full p.core.system.end p.core.system.limit)
  full_now up above = record {
    limit_is = refl;
    end_is = end_of_log (bases_of s) s.log w p stood.stands.at.vault.run stood.tells ∙ ap (sum_by record_length) (sym (log_there w a.client (Meets (Full p.core.system.end p.core.system.limit)) p.core));
    refused = BeginRecord p.core.system.next;
    next = (p.core.system.next, refl, subst (λ (L : List Record). IsNext p.core.system.sizes L p.core.system.next (BeginRecord p.core.system.next)) (stood.tells.log ∙ sym (log_there w a.client (Meets (Full p.core.system.end p.core.system.limit)) p.core)) (ap is_some hb.at_work));
    spelled = omega (arith, runs.counts.next, next_is_small p.core.system.sizes p.log runs.counts.now runs.log.legal runs.counts.rules);
    passes = above;
    runs = runs_there (bases_of s) s.log w a.client p stood.stands.at.vault.run stood.tells (vault_stops means precheck s B p w gs y v stood) (Meets (Full p.core.system.end p.core.system.limit)) p.core up;
  }

-- ---- why the system refuses it
err_same : {T E : Type 0} (r : Result T E) (a b : E) → r ≡ Err a → r ≡ Err b → a ≡ b
err_same r a b p q = cc

pub refused_is : {T : Type 0} (o : Option SystemError) (result : Result T SystemError) (error : SystemError) (why : Why) → result ≡ Err error → IfSome o (λ e. result ≡ Err e) → (o ≡ None → IfErr result (λ e. e ≡ OutOfMemory)) → why_in error ≡ Some why → o ≡ Some error
refused_is (Some e) result error why is some none given = ap Some (err_same result e error some is)
refused_is {T} None result error why is some none given =
    let memory : error ≡ OutOfMemory = subst (λ (r : Result T SystemError). IfErr r (λ e. e ≡ OutOfMemory)) is (none refl) in
    let never : None ≡ Some why = sym (ap why_in memory) ∙ given in absurd (cc)

stop_in : (o : Option Cause) (end limit n : ℕ) (cause : Cause) → room_of o end limit n ≡ Some (Stopped cause) → o ≡ Some cause
stop_in (Some d) end limit n cause r = let both : Some (Stopped d) ≡ Some (Stopped cause) = r in let same : d ≡ cause = cc in ap Some same
stop_in None end limit n cause r = by_test (nat_lt limit (end + n)) r
  where
    by_test : (b : Bool) → (if b then Some (LogFull end limit) else None) ≡ Some (Stopped cause) → None ≡ Some cause
    by_test true f = let never : Some (LogFull end limit) ≡ Some (Stopped cause) = f in absurd (cc)
    by_test false f = let never : None ≡ Some (Stopped cause) = f in absurd (cc)

record NoRoom (o : Option Cause) (end limit n bound top : ℕ) : Type 0 where
  pub up : o ≡ None
  pub bound_is : end ≡ bound
  pub top_is : limit ≡ top
  pub above : limit < end + n

full_in : (o : Option Cause) (end limit n bound top : ℕ) → room_of o end limit n ≡ Some (LogFull bound top) → NoRoom o end limit n bound top
full_in (Some d) end limit n bound top r = let never : Some (Stopped d) ≡ Some (LogFull bound top) = r in absurd (cc)
full_in None end limit n bound top r = by_test (nat_lt limit (end + n)) refl r
  where
    by_test : (b : Bool) → nat_lt limit (end + n) ≡ b → (if b then Some (LogFull end limit) else None) ≡ Some (LogFull bound top) → NoRoom None end limit n bound top
    by_test true less f =
        let both : Some (LogFull end limit) ≡ Some (LogFull bound top) = f in
        let first : end ≡ bound = cc in
        let second : limit ≡ top = cc in
        record { up = refl; bound_is = first; top_is = second; above = ltb-true limit (end + n) less }
    by_test false less f = let never : None ≡ Some (LogFull bound top) = f in absurd (cc)

-- ---- for the call
module _ {V : Type 0} (means : Ghosts V) (precheck : Bool) (gs : List RegionState) (y : SystemState) (v : Vaulted V) (k j : Client) (next : next_of k ≡ Some Begin) (tries : ℕ) where
  module _ (x : Transaction) (room : HasRoom y (BeginRecord y.next)) (number : x.txn ≡ y.next) (commands : x.commands.now ≡ k.rest.now) (deadly : x.deadly ≡ None) (tried : x.tries ≡ tries) where
    pub begins_goes : (state : State) → BeginsFrom y tries state → Finishes k (Within x) (Begun x.txn) j → StepGoes means precheck state k gs y v true j gs (begun y) v
    begins_goes Outside from_here f s B p w a stood is fits =
        begun_went means precheck s B p w a gs y v k j Outside stood is next (λ t e. e) x room number commands deadly
        (first_time means precheck s B p w a gs y v k j Outside stood is next (λ t e. e) x room number commands deadly fits (tried ∙ from_here)) f
    begins_goes (Waiting n holder) from_here f s B p w a stood is fits =
        begun_went means precheck s B p w a gs y v k j (Waiting n holder) stood is next (λ t e. e) x room number commands deadly
        (again means precheck s B p w a gs y v k j (Waiting n holder) stood is next (λ t e. e) x room number commands deadly n holder fits (tried ∙ sym from_here.0) from_here.1) f
    begins_goes state from_here f s B p w a stood is fits = absurd from_here

    pub begins_silently : (state : State) → BeginsFrom y tries state → Passes k (Within x) j → StepGoes means precheck state k gs y v false j gs (begun y) v
    begins_silently Outside from_here f s B p w a stood is fits =
        silent_went means precheck s B p w a gs y v k j Outside stood is next (λ t e. e) x room number commands deadly
        (first_time means precheck s B p w a gs y v k j Outside stood is next (λ t e. e) x room number commands deadly fits (tried ∙ from_here)) f
    begins_silently (Waiting n holder) from_here f s B p w a stood is fits =
        silent_went means precheck s B p w a gs y v k j (Waiting n holder) stood is next (λ t e. e) x room number commands deadly
        (again means precheck s B p w a gs y v k j (Waiting n holder) stood is next (λ t e. e) x room number commands deadly n holder fits (tried ∙ sym from_here.0) from_here.1) f
    begins_silently state from_here f s B p w a stood is fits = absurd from_here

    pub begun_goes : (z : SystemState) → z ≡ begun y → (state : State) → BeginsFrom y tries state → Finishes k (Within x) (Begun x.txn) j → StepGoes means precheck state k gs y v true j gs z v
    begun_goes z same state from_here f = subst (λ (m : SystemState). StepGoes means precheck state k gs y v true j gs m v) (sym same) (begins_goes state from_here f)

    pub begun_silently : (z : SystemState) (ok : Bool) → z ≡ begun y → ok ≡ false → (state : State) → BeginsFrom y tries state → Passes k (Within x) j → StepGoes means precheck state k gs y v ok j gs z v
    begun_silently z ok same no_line state from_here f =
        subst (λ (b : Bool). StepGoes means precheck state k gs y v b j gs z v) (sym no_line)
        (subst (λ (m : SystemState). StepGoes means precheck state k gs y v false j gs m v) (sym same) (begins_silently state from_here f))

  -- nothing was done
  pub begins_nowhere : (state : State) → BeginsFrom y tries state → j.transcript ≡ k.transcript → StepGoes means precheck state k gs y v false j gs y v
  begins_nowhere Outside from_here same s B p w a stood is fits = went_nowhere means precheck Outside s B p w a gs y v k j stood is (due_at a.spot (IsOutside fits.said) (rest_of k) fits.spot tt) fits.none same
  begins_nowhere (Waiting n holder) from_here same s B p w a stood is fits = went_nowhere means precheck (Waiting n holder) s B p w a gs y v k j stood is (due_at a.spot (Again n holder fits.said) (rest_of k) fits.spot tt) fits.none same
  begins_nowhere state from_here same s B p w a stood is fits = absurd from_here

  pub unsaid_goes : (z : SystemState) (ok : Bool) → z ≡ y → ok ≡ false → (state : State) → BeginsFrom y tries state → j.transcript ≡ k.transcript → StepGoes means precheck state k gs y v ok j gs z v
  unsaid_goes z ok same no_line state from_here f =
      subst (λ (b : Bool). StepGoes means precheck state k gs y v b j gs z v) (sym no_line)
      (subst (λ (m : SystemState). StepGoes means precheck state k gs y v false j gs m v) (sym same) (begins_nowhere state from_here f))

  -- ---- refused by a stop
  module _ (cause : Cause) (stopped : y.stop ≡ Some cause) where
    module _ (s : Start) (B : List (List Record)) (p : Point) (w : World) (a : Standing) (state : State) (stood : Stood means s B p w precheck gs y v) (is : IsOf w a k) (apart : (t : ℕ) → Owns state t → ⊥) where
      stop_here : HasCauseNow w a.client p.core BeginAct None (StoppedBy cause)
      stop_here = stop_now (bases_of s) s.log w a.client p stood.stands.at.vault.run stood.tells (vault_stops means precheck s B p w gs y v stood) BeginAct None cause tt
          (ap (λ (m : SystemState). m.stop) stood.stands.at.system ∙ stopped)

      is_stopped : true ≡ true → is_some y.stop ≡ true
      is_stopped e = ap is_some stopped

      stop_outside : FitsOutside y a (rest_of k) → Finishes k LeftOut (Refused Begin (IsStopped cause)) j → Went means precheck s B p w a state gs y v true j gs y v
      stop_outside fits f =
          refused_went means precheck s B p w a gs y v k j state stood is next apart (IsStopped cause) tt stop_here is_stopped
          (refused_outside means precheck s B p w a gs y v k j state stood is next apart (IsStopped cause) tt stop_here is_stopped fits) f

      stop_again : (n holder : ℕ) → FitsWaiting w y a (rest_of k) n holder → Finishes k LeftOut (Refused Begin (IsStopped cause)) j → Went means precheck s B p w a state gs y v true j gs y v
      stop_again n holder fits f =
          refused_went means precheck s B p w a gs y v k j state stood is next apart (IsStopped cause) tt stop_here is_stopped
          (refused_again means precheck s B p w a gs y v k j state stood is next apart (IsStopped cause) tt stop_here is_stopped n holder fits tt) f

    pub stop_goes : (state : State) → BeginsFrom y tries state → Finishes k LeftOut (Refused Begin (IsStopped cause)) j → StepGoes means precheck state k gs y v true j gs y v
    stop_goes Outside from_here f s B p w a stood is fits = stop_outside s B p w a Outside stood is (λ t e. e) fits f
    stop_goes (Waiting n holder) from_here f s B p w a stood is fits = stop_again s B p w a (Waiting n holder) stood is (λ t e. e) n holder fits f
    stop_goes state from_here f s B p w a stood is fits = absurd from_here

  -- ---- refused for want of room
  module _ (up : y.stop ≡ None) (above : y.limit < y.end + 9) where
    module _ (s : Start) (B : List (List Record)) (p : Point) (w : World) (a : Standing) (state : State) (stood : Stood means s B p w precheck gs y v) (is : IsOf w a k) (apart : (t : ℕ) → Owns state t → ⊥) where
      full_here : HasCauseNow w a.client p.core BeginAct None (Full y.end y.limit)
      full_here =
          subst (λ (m : SystemState). HasCauseNow w a.client p.core BeginAct None (Full m.end m.limit)) stood.stands.at.system
          (full_now means precheck s B p w a gs y v k j state stood is next apart (ap (λ (m : SystemState). m.stop) stood.stands.at.system ∙ up) (subst (λ (m : SystemState). m.limit < m.end + 9) (sym stood.stands.at.system) above))

      no_stop : false ≡ true → is_some y.stop ≡ true
      no_stop e = absurd (cc)

      full_outside : FitsOutside y a (rest_of k) → Finishes k LeftOut (Refused Begin (IsFull y.end y.limit)) j → Went means precheck s B p w a state gs y v true j gs y v
      full_outside fits f =
          refused_went means precheck s B p w a gs y v k j state stood is next apart (IsFull y.end y.limit) tt full_here no_stop
          (refused_outside means precheck s B p w a gs y v k j state stood is next apart (IsFull y.end y.limit) tt full_here no_stop fits) f

      full_again : (n holder : ℕ) → FitsWaiting w y a (rest_of k) n holder → HasGone y holder ⊎ IsSome y.stop → Finishes k LeftOut (Refused Begin (IsFull y.end y.limit)) j → Went means precheck s B p w a state gs y v true j gs y v
      full_again n holder fits gone f =
          refused_went means precheck s B p w a gs y v k j state stood is next apart (IsFull y.end y.limit) tt full_here no_stop
          (refused_again means precheck s B p w a gs y v k j state stood is next apart (IsFull y.end y.limit) tt full_here no_stop n holder fits
          (ended_here means precheck s B p w gs y v stood a.client (Meets (Full y.end y.limit) ∷ []) p.core holder up fits.had gone)) f

    pub full_goes : (state : State) → BeginsFrom y tries state → Finishes k LeftOut (Refused Begin (IsFull y.end y.limit)) j → StepGoes means precheck state k gs y v true j gs y v
    full_goes Outside from_here f s B p w a stood is fits = full_outside s B p w a Outside stood is (λ t e. e) fits f
    full_goes (Waiting n holder) from_here f s B p w a stood is fits = full_again s B p w a (Waiting n holder) stood is (λ t e. e) n holder fits from_here.1 f
    full_goes state from_here f s B p w a stood is fits = absurd from_here

  -- ---- refused
  pub refused_goes : (state : State) (e : SystemError) (why : Why) → BeginsFrom y tries state → refusal y 9 ≡ Some e → why_in e ≡ Some why → Finishes k LeftOut (Refused Begin why) j → StepGoes means precheck state k gs y v true j gs y v
  refused_goes state (Stopped cause) why from_here r h f =
      let both : Some (IsStopped cause) ≡ Some why = h in
      let same : IsStopped cause ≡ why = cc in
      stop_goes cause (stop_in y.stop y.end y.limit 9 cause r) state from_here (subst (λ (z : Why). Finishes k LeftOut (Refused Begin z) j) (sym same) f)
  refused_goes state (LogFull bound top) why from_here r h f =
      let both : Some (IsFull bound top) ≡ Some why = h in
      let same : IsFull bound top ≡ why = cc in
      let room = full_in y.stop y.end y.limit 9 bound top r in
      let here : IsFull y.end y.limit ≡ why = ap (λ (n : ℕ). IsFull n y.limit) room.bound_is ∙ (ap (λ (n : ℕ). IsFull bound n) room.top_is ∙ same) in
      full_goes room.up room.above state from_here (subst (λ (z : Why). Finishes k LeftOut (Refused Begin z) j) (sym here) f)
  refused_goes state OutOfMemory why from_here r h f = let never : None ≡ Some why = h in absurd (cc)

  pub refused_here : (z : SystemState) → z ≡ y → (state : State) (e : SystemError) (why : Why) → BeginsFrom y tries state → refusal y 9 ≡ Some e → why_in e ≡ Some why → Finishes k LeftOut (Refused Begin why) j → StepGoes means precheck state k gs y v true j gs z v
  refused_here z same state e why from_here r h f = subst (λ (m : SystemState). StepGoes means precheck state k gs y v true j gs m v) (sym same) (refused_goes state e why from_here r h f)
