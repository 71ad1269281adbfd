-- A call of a client that has its lock is refused: by a stop, by a log without room, by damage, or for want of memory.
use Rattle.std.proofs.Common.{◌≡◌, ℕ, zero, suc, ◌+◌, ◌<◌, Bool, true, false, not, List, [], ◌∷◌, ◌++◌, length, map, Option, Some, None, is_some, Result, Ok, Err, is_ok, refl, ap, sym, subst, ◌∙◌, inl, inr, arith}
use Rattle.std.specs.Prelude.{◌==◌, ◌&&◌, bit_xor, slice_get}
use Rattle.std.proofs.lemmas.List.{append-nil}
use Rattle.dali_runs.proofs.CountsLemmas.Lists.{some_same}
use Rattle.dali_bytes.specs.declared.error.OutOfMemory.{OutOfMemory as NoMemory}
use Rattle.dali_record.specs.declared.operations.Block.{Block}
use Rattle.dali_record.specs.declared.operations.Op.{Op}
use Rattle.dali_record.specs.declared.records.Record.{Record}
use Rattle.dali_record.specs.declared.records.Record.TheVariants.{Forward, Done}
use Rattle.dali_record.specs.Blocks.{AreWords, IsSoundOn, made}
use Rattle.dali_record.specs.Spelling.{CanBeSpelled, record_length}
use Rattle.dali_region.specs.State.{RegionState}
use Rattle.dali_region.specs.declared.LatchError.TheVariants.{Damaged as LatchDamaged}
use Rattle.dali_region.specs.Answers.{latch_answer}
use Rattle.dali_store.specs.Store.{Files as Disk}
use Rattle.dali_store.specs.declared.store.Store.{Ghosts}
use Rattle.dali_runs.specs.declared.causes.Cause.{Cause}
use Rattle.dali_runs.specs.State.{CoreState, SystemState}
use Rattle.dali_runs.specs.Run.{RunsOn, no_image}
use Rattle.dali_runs.specs.Keeps.{IsNext}
use Rattle.dali_crash.specs.Checkpoints.{Point}
use Rattle.dali_crash.specs.StoreRuns.{StoreRun}
use Rattle.dali_crash.specs.Traces.{Start, bases_of}
use Rattle.dali_core.specs.Vault.Vaulted.{Vaulted}
use Rattle.dali_system.specs.declared.error.SystemError.{SystemError}
use Rattle.dali_system.specs.declared.error.SystemError.TheVariants.{Stopped, LogFull, OutOfMemory}
use Rattle.dali_system.specs.Refused.{refusal}
use Rattle.dali_system.specs.declared.want.Want.TheVariants.{Region, Done as AnswerIsNext}
use Rattle.dali_calls.specs.Steps.{call_key, answer_of, IsBlockOf}
use Rattle.dali_calls.specs.Plans.{Planned, is_back, plan_next, want_of, commit_refusal, IsWhole}
use Rattle.dali_calls.proofs.Answering.{done_follows}
use Rattle.dali_calls.proofs.Stepping.{state_there}
use Rattle.dali_calls.specs.declared.single.error.StepError.TheVariants.{Latch, System}
use Rattle.dali_calls.specs.Single.Refusals.{IsAnswerTo, IsUnanswered, IsRefusal}
use Rattle.dali_calls.proofs.SingleLemmas.Reaching.{wanted}
use Rattle.dali_transcripts.specs.Clients.Told.{act_of}
use Rattle.dali_transcripts.specs.declared.clients.command.Command.TheVariants.{Call as IsCall}
use Rattle.dali_transcripts.specs.declared.clients.line.Why.TheVariants.{Stopped as IsStopped, LogFull as IsFull, Damaged as IsDamaged}
use Rattle.dali_transcripts.specs.Words.{Calls, StoppedBy, Full, Damaged}
use Rattle.dali_transcripts.specs.World.{Meets, World, stray_after}
use Rattle.dali_transcripts.specs.Moves.{Within as IsWithin, at, operations}
use Rattle.dali_transcripts.specs.Causes.{GoesOn as MayGoOn, IsRoomFor, AreUnfinished, spares_without}
use Rattle.dali_transcripts.specs.Rounds.{Standing}
use Rattle.dali_transcripts.proofs.Growing.{unanswered}
use Rattle.dali_transcripts.specs.Telling.Tells.{after}
use Rattle.dali_core.proofs.StepsLemmas.Courses.{both_true}
use Rattle.dali_turns.specs.declared.client.Client.{Client}
use Rattle.dali_turns.specs.declared.client.State.TheVariants.{Within, Calling}
use Rattle.dali_turns.specs.declared.client.Transaction.{Transaction}
use Rattle.dali_turns.specs.Clients.{next_of, Passes, RefusesCall}
use Rattle.dali_turns.specs.Calls.{TurnsBack, IsRefusedBy, IsDeadly}
use Rattle.dali_turns.specs.Stood.{Stood}
use Rattle.dali_turns.specs.Within.{FitsCalling}
use Rattle.dali_turns.specs.Fits.{rest_of, IsOf}
use Rattle.dali_turns.specs.Goes.{Went}
use Rattle.dali_turns.proofs.Refusals.{runs_on_log, front, log_there, HasCauseNow, stop_now, runs_there, end_there}
use Rattle.dali_turns.proofs.Doing.{Did, did_nothing, went_on, vault_stops}
use Rattle.dali_turns.proofs.Operating.{spared_one}
use Rattle.dali_turns.proofs.Refusing.{turned_back, refused_said, refused_unsaid}
use Rattle.dali_turns.proofs.Allowed.{words_are, may_go_on, made_there, small_region, block_fits, answer_fits}
use Rattle.dali_turns.proofs.Reasons.{RoomSays, room_cases, StopSays, stop_cases, refused_on, some_and, IsDamagedLatch, damaged_latch, command_is}
use Rattle.dali_turns.proofs.Cutting.{called_cut}

there_too : {X Y : Type 0} (xs : List X) (ys : List Y) (i : ℕ) (y : Y) → length xs ≡ length ys → slice_get ys i ≡ Some y → (x : X) × (slice_get xs i ≡ Some x)
there_too [] [] i y e at = absurd (cc)
there_too [] (z ∷ ys) i y e at = absurd (cc)
there_too (x ∷ xs) [] i y e at = absurd (cc)
there_too (x ∷ xs) (z ∷ ys) zero y e at = (x, refl)
there_too (x ∷ xs) (z ∷ ys) (suc i) y e at = there_too xs ys i y (omega (arith, e)) at

module _ {V : Type 0} (means : Ghosts V)
    (precheck : Bool) (s : Start) (B : List (List Record)) (p : Point) (w : World) (a : Standing) (gs : List RegionState) (y : SystemState) (v : Vaulted V) (k j : Client)
    (x : Transaction) (plan : Planned) (stood : Stood means s B p w precheck gs y v) (is : IsOf w a k) (fits : FitsCalling p w a (rest_of k) x plan) where
  run : StoreRun (bases_of s) s.log no_image p
  run = stood.stands.at.vault.run

  runs : RunsOn (bases_of s) p.log p.core
  runs = runs_on_log (bases_of s) s.log p run

  next_command : next_of k ≡ Some (IsCall fits.call)
  next_command = command_is k.rest.now fits.call fits.more fits.calls

  -- ---- for want of memory nothing is said
  pub call_nowhere : j.transcript ≡ k.transcript → Went means precheck s B p w a (Calling x plan) gs y v false j gs y v
  call_nowhere same = went_on means precheck s B B p p w a (Calling x plan) gs gs y y v v [] k j is did false same (inl (refl, so_far)) (λ e. absurd (cc))
    where
      did : Did means precheck s B p w a.client (Calling x plan) gs y v [] B p gs y v
      did = did_nothing means precheck s B p w gs y v stood a.client (Calling x plan)

      so_far : AreUnfinished (after w a.client [] p.core) a.client a.spot.place a.spot.rest (a.pending ++ [])
      so_far =
          subst (λ xs. AreUnfinished (after w a.client [] p.core) a.client a.spot.place a.spot.rest xs) (sym (append-nil a.pending))
          (subst (λ q. AreUnfinished (after w a.client [] p.core) a.client q.place q.rest a.pending) (sym (fits.spot ∙ ap (at (IsWithin x.txn x.tries (map act_of x.commands.now) fits.deadly false)) fits.calls))
          (inl (unanswered w (after w a.client [] p.core) did.goes.grows a.client x.txn fits.deadly fits.call a.pending (called_cut p w a (rest_of k) x plan fits))))

  -- ---- the engine is stopped
  stop_cause : (cause : Cause) → y.stop ≡ Some cause → HasCauseNow w a.client p.core (Calls fits.call) (Some x.txn) (StoppedBy cause)
  stop_cause cause e =
      stop_now (bases_of s) s.log w a.client p run stood.tells (vault_stops means precheck s B p w gs y v stood) (Calls fits.call) (Some x.txn) cause tt
      (ap (λ (m : SystemState). m.stop) stood.stands.at.system ∙ e)

  pub stopped_goes : (cause : Cause) (r : Result Bool NoMemory) → y.stop ≡ Some cause → IsRefusedBy (Stopped cause) k x plan r j → Went means precheck s B p w a (Calling x plan) gs y v (is_ok r) j gs y v
  stopped_goes cause (Ok b) e h = refused_said means precheck s B p w a gs y v k j x plan stood is fits (IsStopped cause) tt (stop_cause cause e) fits.spared (ap is_some e) refl (h.1 (IsCall fits.call) next_command)
  stopped_goes cause (Err n) e h = refused_unsaid means precheck s B p w a gs y v k j x plan stood is fits (IsStopped cause) tt (stop_cause cause e) fits.spared (ap is_some e) refl h.2

  pub stopped_said : (cause : Cause) → y.stop ≡ Some cause → RefusesCall k x (IsStopped cause) j → Went means precheck s B p w a (Calling x plan) gs y v true j gs y v
  stopped_said cause e h = refused_said means precheck s B p w a gs y v k j x plan stood is fits (IsStopped cause) tt (stop_cause cause e) fits.spared (ap is_some e) refl (h (IsCall fits.call) next_command)

  pub stopped_unsaid : (cause : Cause) → y.stop ≡ Some cause → Passes k (Within x) j → Went means precheck s B p w a (Calling x plan) gs y v false j gs y v
  stopped_unsaid cause e h = refused_unsaid means precheck s B p w a gs y v k j x plan stood is fits (IsStopped cause) tt (stop_cause cause e) fits.spared (ap is_some e) refl h

  -- ---- the log has no room for this record
  abbrev full_cause : (R : Record) → IsRoomFor p.core.system.sizes p.log (Calls fits.call) (Some x.txn) R → CanBeSpelled R → y.stop ≡ None → y.limit < y.end + record_length R → HasCauseNow w a.client p.core (Calls fits.call) (Some x.txn) (Full y.end y.limit)
  full_cause R room spelled up above = record {
    limit_is = ap (λ (m : SystemState). m.limit) (sym stood.stands.at.system);
    end_is = ap (λ (m : SystemState). m.end) (sym stood.stands.at.system) ∙ end_there (bases_of s) s.log w a.client p run stood.tells (vault_stops means precheck s B p w gs y v stood) (Full y.end y.limit);
    refused = R;
    next = subst (λ l. IsRoomFor p.core.system.sizes l (Calls fits.call) (Some x.txn) R) (stood.tells.log ∙ sym (log_there w a.client (Meets (Full y.end y.limit)) p.core)) room;
    spelled = spelled;
    passes = above;
    runs = runs_there (bases_of s) s.log w a.client p run stood.tells (vault_stops means precheck s B p w gs y v stood) (Meets (Full y.end y.limit)) p.core (ap (λ (m : SystemState). m.stop) stood.stands.at.system ∙ up);
  }

  full_goes : (r : Result Bool NoMemory) (R : Record) → IsRoomFor p.core.system.sizes p.log (Calls fits.call) (Some x.txn) R → CanBeSpelled R → spares_without fits.deadly (operations x.txn a.pending) R ≡ true → y.stop ≡ None → y.limit < y.end + record_length R
      → IsRefusedBy (LogFull y.end y.limit) k x plan r j → Went means precheck s B p w a (Calling x plan) gs y v (is_ok r) j gs y v
  full_goes r R room spelled lives up above h =
      subst (λ b. Went means precheck s B p w a (Calling x plan) gs y v b j gs y v) (sym (ap is_ok h.0))
      (turned_back means precheck s B p w a gs y v k j x plan stood is fits (IsFull y.end y.limit) tt (full_cause R room spelled up above) lives refl h.1)

  memory_goes : (r : Result Bool NoMemory) → IsRefusedBy OutOfMemory k x plan r j → Went means precheck s B p w a (Calling x plan) gs y v (is_ok r) j gs y v
  memory_goes (Ok b) h = absurd h.1
  memory_goes (Err n) h = call_nowhere (ap (λ (c : Client). c.transcript) h.0)

  -- ---- by what the system says
  pub by_stop : (e : SystemError) (r : Result Bool NoMemory) → StopSays y.stop e → IsRefusedBy e k x plan r j → Went means precheck s B p w a (Calling x plan) gs y v (is_ok r) j gs y v
  by_stop e r (inl (cause, same, up)) h = stopped_goes cause r up (subst (λ f. IsRefusedBy f k x plan r j) same h)
  by_stop e r (inr same) h = memory_goes r (subst (λ f. IsRefusedBy f k x plan r j) same h)

  pub by_room : (e : SystemError) (r : Result Bool NoMemory) (R : Record) → RoomSays y.stop y.end y.limit (record_length R) e → IsRoomFor p.core.system.sizes p.log (Calls fits.call) (Some x.txn) R → CanBeSpelled R
      → spares_without fits.deadly (operations x.txn a.pending) R ≡ true → IsRefusedBy e k x plan r j → Went means precheck s B p w a (Calling x plan) gs y v (is_ok r) j gs y v
  by_room e r R (inl (cause, same, up)) room spelled lives h = stopped_goes cause r up (subst (λ f. IsRefusedBy f k x plan r j) same h)
  by_room e r R (inr (inl (same, up, above))) room spelled lives h = full_goes r R room spelled lives up above (subst (λ f. IsRefusedBy f k x plan r j) same h)
  by_room e r R (inr (inr same)) room spelled lives h = memory_goes r (subst (λ f. IsRefusedBy f k x plan r j) same h)

  -- ---- an operation whose record is refused
  system_goes : (whole : IsWhole plan) (e : SystemError) (r : Result Bool NoMemory) (g : RegionState) (b : Block) (way : Bool) → is_back plan ≡ way → (way ≡ false → IsDeadly x → ⊥) → slice_get gs b.region ≡ Some g
      → IsBlockOf (plan_next plan) (call_key plan.call) b → IsSoundOn g.words b → IsAnswerTo (commit_refusal way y (record_length (Forward plan.txn b))) e → IsRefusedBy e k x plan r j
      → Went means precheck s B p w a (Calling x plan) gs y v (is_ok r) j gs y v
  system_goes whole e r g b true back lives at of sound why h = by_stop e r (stop_cases y.stop e why) h
  system_goes whole e r g b false back lives at of sound why h =
      by_room e r (Forward x.txn b) (subst (λ n. RoomSays y.stop y.end y.limit (record_length (Forward n b)) e) fits.plan_is.txn (room_cases y.stop y.end y.limit (record_length (Forward plan.txn b)) e why))
      (inr (b, refl, may_go_on (bases_of s) p plan x.txn fits.call runs fits.plan_is whole back b g.words of (words_are (bases_of s) p.log p.core b.region g runs here) (sym sound ∙ refl)))
      (subst (λ n. CanBeSpelled (Forward n b)) fits.plan_is.txn (block_fits (bases_of s) p plan x.txn fits.call runs fits.plan_is whole back b of))
      (spared_one fits.deadly (operations x.txn a.pending) fits.spared (λ e. lives refl (fits.nearer ∙ e))) h
    where
      here : slice_get p.core.regions b.region ≡ Some g
      here = ap (λ rs. slice_get rs b.region) stood.stands.at.regions ∙ at

  pub operation_goes : (whole : IsWhole plan) (region : ℕ) (e : SystemError) (r : Result Bool NoMemory) → want_of plan ≡ Region region → IsRefusal precheck plan gs y (System e) → (is_back plan ≡ false → IsDeadly x → ⊥) → IsRefusedBy e k x plan r j
      → Went means precheck s B p w a (Calling x plan) gs y v (is_ok r) j gs y v
  operation_goes whole region e r want why lives h =
      let on = refused_on precheck plan gs y (System e) region want why in
      let next = wanted plan region (sym want) in
      let here : region ≡ on.2.1.region = same_place region on.2.1.region next.0 on.2.1.op (sym next.1 ∙ on.2.2.op) in
      system_goes whole e r on.0 on.2.1 (is_back plan) refl lives (subst (λ n. slice_get gs n ≡ Some on.0) here on.1) on.2.2 on.2.3 on.2.4 h
    where
      same_place : (m n : ℕ) (q o : Op) → (let z : Option (ℕ × Op) = Some (m, q) in z ≡ Some (n, o)) → m ≡ n
      same_place m n q o e = ap (λ (z : ℕ × Op). z.0) (some_same e)

  -- ---- an answer whose record is refused
  pub answer_goes : (whole : IsWhole plan) (e : SystemError) (r : Result Bool NoMemory) → want_of plan ≡ AnswerIsNext → IsUnanswered plan y (System e) → IsRefusedBy e k x plan r j
      → Went means precheck s B p w a (Calling x plan) gs y v (is_ok r) j gs y v
  answer_goes whole e r want why h =
      let on = some_and (answer_of plan.geometry plan.call plan.stage) (λ a. IsAnswerTo (refusal y (record_length (Done plan.txn plan.call a))) e) why in
      by_room e r (Done x.txn fits.call on.0)
      (subst (λ c. RoomSays y.stop y.end y.limit (record_length (Done x.txn c on.0)) e) fits.plan_is.call_is (subst (λ n. RoomSays y.stop y.end y.limit (record_length (Done n plan.call on.0)) e) fits.plan_is.txn
      (room_cases y.stop y.end y.limit (record_length (Done plan.txn plan.call on.0)) e on.2)))
      (inl (
        on.0,
        refl,
        subst (λ c. IsNext p.core.system.sizes p.log x.txn (Done x.txn c on.0)) fits.plan_is.call_is (subst (λ n. IsNext p.core.system.sizes p.log n (Done n plan.call on.0)) fits.plan_is.txn
            (state_there _ _ (done_follows p.core.system.sizes p.log plan on.0 fits.plan_is.rest.sizes whole fits.plan_is.stands.follows want on.1).at_work)),
      ))
      (subst (λ c. CanBeSpelled (Done x.txn c on.0)) fits.plan_is.call_is (subst (λ n. CanBeSpelled (Done n plan.call on.0)) fits.plan_is.txn (answer_fits p.log p.core plan on.0 fits.plan_is.rest whole fits.plan_is.stands.follows want on.1)))
      fits.spared h

  -- ---- a region whose codeword tells damage
  pub damaged_goes : (whole : IsWhole plan) (region codeword found : ℕ) → want_of plan ≡ Region region → IsRefusal precheck plan gs y (Latch (LatchDamaged codeword found)) → TurnsBack k x plan (IsDamaged region codeword found) j
      → Went means precheck s B p w a (Calling x plan) gs y v true j gs y v
  damaged_goes whole region codeword found want why h = turned_back means precheck s B p w a gs y v k j x plan stood is fits (IsDamaged region codeword found) tt cause fits.spared refl h
    where
      on : (g : RegionState) × (slice_get gs region ≡ Some g) × (Err (LatchDamaged codeword found) ≡ latch_answer (not (is_back plan) && precheck) g)
      on = refused_on precheck plan gs y (Latch (LatchDamaged codeword found)) region want why

      g : RegionState
      g = on.0

      here : slice_get p.core.regions region ≡ Some g
      here = ap (λ rs. slice_get rs region) stood.stands.at.regions ∙ on.1

      latch : IsDamagedLatch (not (is_back plan) && precheck) g codeword found
      latch = damaged_latch (not (is_back plan) && precheck) g codeword found on.2

      way : (is_back plan ≡ false) × (precheck ≡ true)
      way = both_true (is_back plan) precheck latch.checks

      wants : (op : Op) × (plan_next plan ≡ Some (region, op))
      wants = wanted plan region (sym want)

      words : AreWords g.words
      words = words_are (bases_of s) p.log p.core region g runs here

      block : Block
      block = made g.words (call_key plan.call) region wants.0

      of : IsBlockOf (plan_next plan) (call_key plan.call) block
      of = made_there (bases_of s) p plan x.txn fits.call runs fits.plan_is whole way.0 region wants.0 g.words wants.1 words (small_region (bases_of s) p plan x.txn fits.call runs fits.plan_is whole way.0 region g here)

      before : (o : RegionState) × (slice_get w.old.regions region ≡ Some o)
      before = there_too w.old.regions w.core.regions region g (sym stood.tells.count) (ap (λ (c : CoreState). slice_get c.regions region) stood.tells.core ∙ here)

      strays : g.stray ≡ stray_after region before.0.stray w.happened
      strays = (stood.tells.together.pokes region before.0 g before.1 (ap (λ (c : CoreState). slice_get c.regions region) stood.tells.core ∙ here)).0

      cause : HasCauseNow w a.client p.core (Calls fits.call) (Some x.txn) (Damaged region codeword found)
      cause = record {
        compares = stood.precheck_is ∙ way.1;
        next = block;
        on_region = refl;
        goes_on = subst (λ l. MayGoOn p.core.system.sizes l x.txn fits.call block) (stood.tells.log ∙ sym (log_there w a.client (Meets (Damaged region codeword found)) p.core))
            (may_go_on (bases_of s) p plan x.txn fits.call runs fits.plan_is whole way.0 block g.words of words refl);
        old = before.0;
        was = before.1;
        stray = ap (λ n. bit_xor n found) latch.codeword_is ∙ (ap (bit_xor g.codeword) latch.found_is ∙ ((runs.regions region g here).protected.codeword
            ∙ (strays ∙ ap (stray_after region before.0.stray) (sym (front w a.client (Meets (Damaged region codeword found)) p.core)))));
        differ = ap (λ n. n == found) latch.codeword_is ∙ (ap (λ n. g.codeword == n) latch.found_is ∙ latch.differ);
      }
