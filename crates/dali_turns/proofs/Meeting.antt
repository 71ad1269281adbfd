-- A refusal has one cause, and no step is made beside it.
use Rattle.std.proofs.Common.{◌≡◌, ℕ, ◌+◌, ◌≤◌, Bool, true, false, not, List, Option, Some, None, IsSomeAnd, Result, Ok, Err, IsErr, OnOk, refl, ap, sym, subst, ◌∙◌, inl, inr, arith}
use Rattle.std.specs.Prelude.{◌&&◌, slice_get}
use Rattle.dali_bytes.specs.declared.error.OutOfMemory.{OutOfMemory as NoMemory}
use Rattle.dali_record.specs.declared.operations.Op.{Op}
use Rattle.dali_record.specs.declared.operations.Block.{Block}
use Rattle.dali_record.specs.declared.records.Answer.{Answer}
use Rattle.dali_record.specs.declared.records.Record.TheVariants.{Forward, Done}
use Rattle.dali_record.specs.Blocks.{made, IsSoundOn}
use Rattle.dali_record.specs.Spelling.{record_length}
use Rattle.dali_region.specs.State.{RegionState}
use Rattle.dali_region.specs.Answers.{latch_answer}
use Rattle.dali_region.specs.declared.LatchError.{LatchError}
use Rattle.dali_region.specs.declared.LatchError.TheVariants.{DeadHolder, Damaged}
use Rattle.dali_runs.specs.Keeps.{HasRoom}
use Rattle.dali_runs.specs.State.{SystemState}
use Rattle.dali_runs.specs.declared.causes.Cause.{Cause}
use Rattle.dali_system.specs.Refused.{refusal}
use Rattle.dali_system.specs.declared.error.SystemError.{SystemError}
use Rattle.dali_system.specs.declared.error.SystemError.TheVariants.{Stopped, LogFull, OutOfMemory}
use Rattle.dali_system.specs.declared.want.Want.{Want}
use Rattle.dali_system.specs.declared.want.Want.TheVariants.{Region, Done as AnswerIsNext, Nothing}
use Rattle.dali_calls.specs.Steps.{call_key, answer_of, IsBlockOf}
use Rattle.dali_calls.specs.Plans.{Planned, plan_next, want_in, want_of, is_back, commit_refusal}
use Rattle.dali_calls.specs.declared.single.error.StepError.{StepError}
use Rattle.dali_calls.specs.declared.single.error.StepError.TheVariants.{Latch, System}
use Rattle.dali_calls.specs.Single.Refusals.{IsAnswerTo, IsRefusedOn, IsUnanswered, IsRefusedIn, IsRefusal, IsLatched}
use Rattle.dali_calls.specs.Stepwise.Opened.{IsOpened, IsLogged}
use Rattle.dali_calls.specs.Stepwise.Stepwise.{OneFurther, IsDeath}
use Rattle.dali_transcripts.specs.declared.clients.line.Why.{Why}
use Rattle.dali_transcripts.specs.declared.clients.line.Why.TheVariants.{Stopped as IsStopped, LogFull as IsFull, Damaged as IsDamaged}
use Rattle.dali_turns.specs.declared.client.Client.{Client}
use Rattle.dali_turns.specs.declared.client.State.{State}
use Rattle.dali_turns.specs.declared.client.Transaction.{Transaction}
use Rattle.dali_turns.specs.Calls.{TurnsBack, IsRefusedBy}
use Rattle.dali_turns.specs.Clients.{RefusesCall}
use Rattle.dali_turns.specs.Ends.{ClearsWay}
use Rattle.dali_turns.specs.Refuses.{TurnsNow, SaysCall, IsHeld, IsMet, IsMetBack}
use Rattle.dali_turns.specs.Whys.{why_in}
use Rattle.dali_turns.proofs.Reasons.{RoomSays, StopSays, room_cases, stop_cases}

abbrev LatchResult : Type 0
LatchResult = Result (Unit {0}) LatchError

-- ---- one cause
abbrev next_or : ℕ × Op → Option (ℕ × Op) → ℕ × Op
next_or d (Some n) = n
next_or d None = d

pub one_block : (ws : List ℕ) (next : Option (ℕ × Op)) (key : ℕ) (b c : Block) → IsBlockOf next key b → IsSoundOn ws b → IsBlockOf next key c → IsSoundOn ws c → b ≡ c
one_block ws next key b c of_b sound_b of_c sound_c =
    let ops : (b.region, b.op) ≡ (c.region, c.op) = ap (next_or (b.region, b.op)) (sym of_b.op ∙ of_c.op) in
    let keys : b.key ≡ c.key = ap (λ (m : Block). m.key) of_b.made_on ∙ sym (ap (λ (m : Block). m.key) of_c.made_on) in
    sym sound_b ∙ (ap (λ n. made ws n b.region b.op) keys ∙ (ap (λ (n : ℕ × Op). made ws c.key n.0 n.1) ops ∙ sound_c))

one_answer : (o : Option SystemError) (e f : SystemError) → IsAnswerTo o e → IsAnswerTo o f → e ≡ f
one_answer None e f p q = p ∙ sym q
one_answer (Some g) e f p q = p ∙ sym q

never_both : {X : Type 0} (a : LatchResult) (e : LatchError) → Err e ≡ a → Ok tt ≡ a → X
never_both a e refuses lets = let both : Err e ≡ Ok tt = refuses ∙ sym lets in absurd (cc)

one_on : (precheck : Bool) (plan : Planned) (g : RegionState) (y : SystemState) (e f : StepError) → IsRefusedOn precheck plan g y e → IsRefusedOn precheck plan g y f → e ≡ f
one_on precheck plan g y (Latch e) (Latch f) p q = let both : Err e ≡ Err f = p ∙ sym q in let same : e ≡ f = cc in ap Latch same
one_on precheck plan g y (Latch e) (System f) p q = never_both (latch_answer (not (is_back plan) && precheck) g) e p q.0
one_on precheck plan g y (System e) (Latch f) p q = never_both (latch_answer (not (is_back plan) && precheck) g) f q p.0
one_on precheck plan g y (System e) (System f) p q =
    let same : p.1 ≡ q.1 = one_block g.words (plan_next plan) (call_key plan.call) p.1 q.1 p.2 p.3 q.2 q.3 in
    ap System (one_answer (commit_refusal (is_back plan) y (record_length (Forward plan.txn p.1))) e f p.4 (subst (λ b. IsAnswerTo (commit_refusal (is_back plan) y (record_length (Forward plan.txn b))) f) (sym same) q.4))

one_region : (o : Option RegionState) (precheck : Bool) (plan : Planned) (y : SystemState) (e f : StepError) → IsSomeAnd o (λ g. IsRefusedOn precheck plan g y e) → IsSomeAnd o (λ g. IsRefusedOn precheck plan g y f) → e ≡ f
one_region None precheck plan y e f p q = absurd p
one_region (Some g) precheck plan y e f p q = one_on precheck plan g y e f p q

one_of_answer : (o : Option Answer) (plan : Planned) (y : SystemState) (e f : SystemError) → IsSomeAnd o (λ a. IsAnswerTo (refusal y (record_length (Done plan.txn plan.call a))) e) → IsSomeAnd o (λ a. IsAnswerTo (refusal y (record_length (Done plan.txn plan.call a))) f) → e ≡ f
one_of_answer None plan y e f p q = absurd p
one_of_answer (Some a) plan y e f p q = one_answer (refusal y (record_length (Done plan.txn plan.call a))) e f p q

one_unanswered : (plan : Planned) (y : SystemState) (e f : StepError) → IsUnanswered plan y e → IsUnanswered plan y f → e ≡ f
one_unanswered plan y (Latch e) f p q = absurd p
one_unanswered plan y (System e) (Latch f) p q = absurd q
one_unanswered plan y (System e) (System f) p q = ap System (one_of_answer (answer_of plan.geometry plan.call plan.stage) plan y e f p q)

one_in : (w : Want) (precheck : Bool) (plan : Planned) (gs : List RegionState) (y : SystemState) (e f : StepError) → IsRefusedIn w precheck plan gs y e → IsRefusedIn w precheck plan gs y f → e ≡ f
one_in (Region r) precheck plan gs y e f p q = one_region (slice_get gs r) precheck plan y e f p q
one_in AnswerIsNext precheck plan gs y e f p q = one_unanswered plan y e f p q
one_in Nothing precheck plan gs y e f p q = absurd p

pub one_refusal : (precheck : Bool) (plan : Planned) (gs : List RegionState) (y : SystemState) (e f : StepError) → IsRefusal precheck plan gs y e → IsRefusal precheck plan gs y f → e ≡ f
one_refusal precheck plan gs y e f p q = one_in (want_of plan) precheck plan gs y e f p q

-- ---- no step beside it
no_room : (y : SystemState) (n : ℕ) (s : SystemError) → y.stop ≡ None → y.end + n ≤ y.limit → IsAnswerTo (refusal y n) s → s ≡ OutOfMemory
no_room y n s runs room answer = by_case (room_cases y.stop y.end y.limit n s answer)
  where
    by_case : RoomSays y.stop y.end y.limit n s → s ≡ OutOfMemory
    by_case (inl (cause, e, up)) = let both : None ≡ Some cause = sym runs ∙ up in absurd (cc)
    by_case (inr (inl (e, runs, less))) = absurd (omega (arith, room, less))
    by_case (inr (inr e)) = e

no_stop : (y : SystemState) (s : SystemError) → y.stop ≡ None → StopSays y.stop s → s ≡ OutOfMemory
no_stop y s runs (inl (cause, e, up)) = let both : None ≡ Some cause = sym runs ∙ up in absurd (cc)
no_stop y s runs (inr e) = e

logged_memory : (back : Bool) (plan q : Planned) (b : Block) (y z : SystemState) (s : SystemError) → IsLogged back plan b y q z → IsAnswerTo (commit_refusal back y (record_length (Forward plan.txn b))) s → s ≡ OutOfMemory
logged_memory false plan q b y z s h answer = no_room y (record_length (Forward plan.txn b)) s h.1.runs h.1.room answer
logged_memory true plan q b y z s h answer = no_stop y s h.1 (stop_cases y.stop s answer)

module _ (precheck : Bool) (plan : Planned) (y : SystemState) where
  beside : (e : StepError) (g h : RegionState) (b : Block) (q : Planned) (z : SystemState) → IsRefusedOn precheck plan g y e → IsOpened precheck plan g b h → IsLogged (is_back plan) plan b y q z → e ≡ System OutOfMemory
  beside (Latch l) g h b q z p o logged = never_both (latch_answer (not (is_back plan) && precheck) g) l p o.latch
  beside (System s) g h b q z p o logged =
      let same : p.1 ≡ b = one_block g.words (plan_next plan) (call_key plan.call) p.1 b p.2 p.3 o.of o.sound in
      ap System (logged_memory (is_back plan) plan q b y z s logged (subst (λ c. IsAnswerTo (commit_refusal (is_back plan) y (record_length (Forward plan.txn c))) s) same p.4))

  answer_memory : (o : Option Answer) (a : Answer) (s : SystemError) → o ≡ Some a → HasRoom y (Done plan.txn plan.call a) → IsSomeAnd o (λ n. IsAnswerTo (refusal y (record_length (Done plan.txn plan.call n))) s) → s ≡ OutOfMemory
  answer_memory None a s e room h = absurd h
  answer_memory (Some n) a s e room h =
      let same : n ≡ a = cc in
      no_room y (record_length (Done plan.txn plan.call a)) s room.runs room.room (subst (λ m. IsAnswerTo (refusal y (record_length (Done plan.txn plan.call m))) s) same h)

  unanswered_memory : (e : StepError) (a : Answer) → answer_of plan.geometry plan.call plan.stage ≡ Some a → HasRoom y (Done plan.txn plan.call a) → IsUnanswered plan y e → e ≡ System OutOfMemory
  unanswered_memory (Latch l) a e room h = absurd h
  unanswered_memory (System s) a e room h = ap System (answer_memory (answer_of plan.geometry plan.call plan.stage) a s e room h)

  at_region : (gs : List RegionState) (e : StepError) (r : ℕ) (g : RegionState) → IsRefusal precheck plan gs y e → slice_get gs r ≡ Some g → want_of plan ≡ Region r → IsRefusedOn precheck plan g y e
  at_region gs e r g why at want = subst (λ (o : Option RegionState). IsSomeAnd o (λ n. IsRefusedOn precheck plan n y e)) at (subst (λ (m : Want). IsRefusedIn m precheck plan gs y e) want why)

  -- its next operation was made
  further_memory : (gs : List RegionState) (e : StepError) → IsRefusal precheck plan gs y e → (q : Planned) (hs : List RegionState) (z : SystemState) → OneFurther precheck plan gs y q hs z → e ≡ System OutOfMemory
  further_memory gs e why q hs z f = beside e f.region f.opened f.block q z (at_region gs e f.block.region f.region why f.at (ap (want_in plan.phase) f.is.of.op)) f.is f.logged

  -- nothing refuses a call that has nothing left to do
  pub done_met : (gs : List RegionState) (e : StepError) → IsRefusal precheck plan gs y e → want_of plan ≡ Nothing → ⊥
  done_met gs e why want = subst (λ (m : Want). IsRefusedIn m precheck plan gs y e) want why

  module _ (k j : Client) (x : Transaction) (gs : List RegionState) (e : StepError) (why : IsRefusal precheck plan gs y e) where
    pub further_met : (q : Planned) (hs : List RegionState) (z : SystemState) → OneFurther precheck plan gs y q hs z → IsMet e y.stop k x plan j
    further_met q hs z f = subst (λ n. IsMet n y.stop k x plan j) (sym (further_memory gs e why q hs z f)) tt

    pub further_met_back : (q : Planned) (hs : List RegionState) (z : SystemState) → OneFurther precheck plan gs y q hs z → IsMetBack e y.stop k x j
    further_met_back q hs z f = subst (λ n. IsMetBack n y.stop k x j) (sym (further_memory gs e why q hs z f)) tt

    -- the client died in it
    pub death_met : (hs : List RegionState) (z : SystemState) → IsDeath precheck plan gs y hs z → IsLatched e → IsMet e y.stop k x plan j
    death_met hs z f latched = by_error e (at_region gs e f.block.region f.region why f.at (ap (want_in plan.phase) f.is.of.op)) latched
      where
        by_error : (n : StepError) → IsRefusedOn precheck plan f.region y n → IsLatched n → IsMet n y.stop k x plan j
        by_error (Latch l) p latched = never_both (latch_answer (not (is_back plan) && precheck) f.region) l p f.is.latch
        by_error (System s) p latched = absurd latched

    -- its answer was logged
    pub answer_met : (a : Answer) → answer_of plan.geometry plan.call plan.stage ≡ Some a → HasRoom y (Done plan.txn plan.call a) → want_of plan ≡ AnswerIsNext → IsMet e y.stop k x plan j
    answer_met a is room want = subst (λ n. IsMet n y.stop k x plan j) (sym (unanswered_memory e a is room (subst (λ (m : Want). IsRefusedIn m precheck plan gs y e) want why))) tt

    -- the same refusal met it
    pub met_by : (f : StepError) (r : Result Bool NoMemory) → IsRefusal precheck plan gs y f → OnOk r (IsMet f y.stop k x plan j) → OnOk r (IsMet e y.stop k x plan j)
    met_by f r other h = subst (λ n. OnOk r (IsMet n y.stop k x plan j)) (one_refusal precheck plan gs y f e other why) h

    pub met_back_by : (f : StepError) (r : Result Bool NoMemory) → IsRefusal precheck plan gs y f → OnOk r (IsMetBack f y.stop k x j) → OnOk r (IsMetBack e y.stop k x j)
    met_back_by f r other h = subst (λ n. OnOk r (IsMetBack n y.stop k x j)) (one_refusal precheck plan gs y f e other why) h

-- ---- what meets it
pub on_no_ok : {T E : Type 0} (P : Type 0) (r : Result T E) → IsErr r → OnOk r P
on_no_ok P (Ok t) h = absurd (cc)
on_no_ok P (Err e) h = tt

module _ (stop : Option Cause) (k j : Client) (x : Transaction) (plan : Planned) where
  pub holder_met : (e : StepError) (txn : ℕ) → e ≡ Latch (DeadHolder txn) → IsHeld stop k x j → IsMet e stop k x plan j
  holder_met e txn is held = subst (λ n. IsMet n stop k x plan j) (sym is) held

  turned : (why : Why) → TurnsBack k x plan why j → TurnsNow k x plan why j
  turned why h = (h.stands, h.rest, ap (λ t. t.lines) h.transcript)

  pub damaged_met : (e : StepError) (region codeword found : ℕ) → e ≡ Latch (Damaged codeword found) → want_of plan ≡ Region region → TurnsBack k x plan (IsDamaged region codeword found) j → IsMet e stop k x plan j
  damaged_met e region codeword found is want h = subst (λ n. IsMet n stop k x plan j) (sym is) by_region
    where
      by_region : (r : ℕ) → want_of plan ≡ Region r → TurnsNow k x plan (IsDamaged r codeword found) j
      by_region r there =
          let both : Region region ≡ Region r = sym want ∙ there in
          let same : region ≡ r = cc in
          subst (λ n. TurnsNow k x plan (IsDamaged n codeword found) j) same (turned (IsDamaged region codeword found) h)

  pub says_call : (why : Why) → RefusesCall k x why j → SaysCall k x why j
  says_call why h = λ command next. let f = h command next in (f.stands, f.rest, ap (λ t. t.lines) f.transcript)

  by_system : (s : SystemError) (r : Result Bool NoMemory) → IsRefusedBy s k x plan r j → OnOk r (IsMet (System s) stop k x plan j)
  by_system (LogFull end limit) (Ok b) h = turned (IsFull end limit) h.1
  by_system (LogFull end limit) (Err e) h = tt
  by_system (Stopped cause) (Ok b) h = says_call (IsStopped cause) h.1
  by_system (Stopped cause) (Err e) h = tt
  by_system OutOfMemory (Ok b) h = tt
  by_system OutOfMemory (Err e) h = tt

  pub refused_met : (e : StepError) (s : SystemError) (r : Result Bool NoMemory) → e ≡ System s → IsRefusedBy s k x plan r j → OnOk r (IsMet e stop k x plan j)
  refused_met e s r is h = subst (λ n. OnOk r (IsMet n stop k x plan j)) (sym is) (by_system s r h)

  -- ---- in taking back
  pub holder_met_back : (e : StepError) (txn : ℕ) → e ≡ Latch (DeadHolder txn) → IsHeld stop k x j → IsMetBack e stop k x j
  holder_met_back e txn is held = subst (λ n. IsMetBack n stop k x j) (sym is) held

  -- it was cleaned up, so the engine runs; or it wasn't
  pub held_not : stop ≡ None → IsHeld stop k x j
  held_not runs cause up = let both : None ≡ Some cause = sym runs ∙ up in absurd (cc)

  pub held_by : (met : Cause) (why : Why) → why ≡ IsStopped met → stop ≡ Some met → RefusesCall k x why j → IsHeld stop k x j
  held_by met why told is h cause up =
      let both : Some met ≡ Some cause = sym is ∙ up in
      let same : met ≡ cause = cc in
      subst (λ w. SaysCall k x w j) (told ∙ ap IsStopped same) (says_call why h)

  pub held_cleared : (t : ℕ) (state : State) (gs hs : List RegionState) (y z : SystemState) → y.stop ≡ stop → (r : Result Bool NoMemory) → ClearsWay t x state k gs y r j hs z → OnOk r (IsHeld stop k x j)
  held_cleared t state gs hs y z now (Ok went) (inl (runs, up, stays)) = held_not (sym now ∙ runs)
  held_cleared t state gs hs y z now (Ok went) (inr (cause, stopped, left, refuses)) = held_by cause (IsStopped cause) refl (sym now ∙ stopped) refuses
  held_cleared t state gs hs y z now (Err e) cleared = tt

  by_why : (s : SystemError) (why : Why) → why_in s ≡ Some why → RefusesCall k x why j → IsMetBack (System s) stop k x j
  by_why (Stopped cause) why e h = let same : IsStopped cause ≡ why = cc in subst (λ w. SaysCall k x w j) (sym same) (says_call why h)
  by_why (LogFull end limit) why e h = tt
  by_why OutOfMemory why e h = tt

  pub stop_met_back : (e : StepError) (s : SystemError) (why : Why) → e ≡ System s → why_in s ≡ Some why → RefusesCall k x why j → IsMetBack e stop k x j
  stop_met_back e s why is given h = subst (λ n. IsMetBack n stop k x j) (sym is) (by_why s why given h)
