-- Why the next record of a call is refused, by what its region and its system say; and the pieces of a call that was cut short.
use Rattle.std.proofs.Common.{◌≡◌, ℕ, ◌+◌, ◌<◌, Bool, true, false, not, List, [], ◌∷◌, map, Option, Some, None, IfSome, IsSomeAnd, Result, Ok, Err, if◌then◌else◌, refl, ap, sym, subst, ◌∙◌, ◌⊎◌, inl, inr}
use Rattle.std.specs.Prelude.{◌==◌, ◌&&◌, nat_lt, slice_get}
use Rattle.std.proofs.lemmas.Bool.{ltb-true}
use Rattle.dali_words.specs.Words.{parity_of}
use Rattle.dali_record.specs.declared.records.Call.{Call}
use Rattle.dali_region.specs.declared.Hold.{Hold}
use Rattle.dali_region.specs.declared.LatchError.{LatchError}
use Rattle.dali_region.specs.declared.LatchError.TheVariants.{Latched, DeadHolder, Damaged}
use Rattle.dali_region.specs.Answers.{latch_answer}
use Rattle.dali_region.specs.State.{RegionState}
use Rattle.dali_runs.specs.declared.causes.Cause.{Cause}
use Rattle.dali_runs.specs.State.{SystemState}
use Rattle.dali_system.specs.Refused.{stop_of, room_of}
use Rattle.dali_system.specs.declared.error.SystemError.{SystemError}
use Rattle.dali_system.specs.declared.error.SystemError.TheVariants.{Stopped, LogFull, OutOfMemory}
use Rattle.dali_system.specs.declared.want.Want.{Want}
use Rattle.dali_system.specs.declared.want.Want.TheVariants.{Region}
use Rattle.dali_clean.specs.declared.error.CleanError.{CleanError}
use Rattle.dali_clean.specs.declared.error.CleanError.TheVariants.{Stopped as CleanStopped, OutOfMemory as CleanMemory}
use Rattle.dali_calls.specs.Plans.{Planned, want_of}
use Rattle.dali_calls.specs.declared.single.error.StepError.{StepError}
use Rattle.dali_calls.specs.Single.Refusals.{IsAnswerTo, IsRefusedOn, IsRefusedIn, IsRefusal}
use Rattle.dali_transcripts.specs.declared.clients.command.Command.{Command}
use Rattle.dali_transcripts.specs.declared.clients.command.Command.TheVariants.{Call as IsCall}
use Rattle.dali_transcripts.specs.Clients.Told.{act_of}
use Rattle.dali_transcripts.specs.Words.{Act, Calls}

-- ---- the system
-- why it takes no record of so many bytes that uses room
abbrev pub RoomSays : Option Cause → (end limit n : ℕ) → SystemError → Type 0
RoomSays o end limit n e = ((cause : Cause) × (e ≡ Stopped cause) × (o ≡ Some cause)) ⊎ (((e ≡ LogFull end limit) × (o ≡ None) × (limit < end + n)) ⊎ (e ≡ OutOfMemory))

pub room_cases : (o : Option Cause) (end limit n : ℕ) (e : SystemError) → IsAnswerTo (room_of o end limit n) e → RoomSays o end limit n e
room_cases (Some cause) end limit n e h = inl (cause, h, refl)
room_cases None end limit n e h = by_test (nat_lt limit (end + n)) refl h
  where
    by_test : (b : Bool) → nat_lt limit (end + n) ≡ b → IsAnswerTo (if b then Some (LogFull end limit) else None) e → RoomSays None end limit n e
    by_test true less f = inr (inl (f, refl, ltb-true limit (end + n) less))
    by_test false less f = inr (inr f)

-- and why none that uses none
abbrev pub StopSays : Option Cause → SystemError → Type 0
StopSays o e = ((cause : Cause) × (e ≡ Stopped cause) × (o ≡ Some cause)) ⊎ (e ≡ OutOfMemory)

pub stop_cases : (o : Option Cause) (e : SystemError) → IsAnswerTo (stop_of o) e → StopSays o e
stop_cases (Some cause) e h = inl (cause, h, refl)
stop_cases None e h = inr h

-- ---- the region
pub some_and : {X : Type 0} (o : Option X) (P : X → Type 0) → IsSomeAnd o P → (x : X) × (o ≡ Some x) × P x
some_and None P h = absurd h
some_and (Some x) P h = (x, refl, h)

pub refused_on : (precheck : Bool) (plan : Planned) (gs : List RegionState) (y : SystemState) (e : StepError) (r : ℕ) → want_of plan ≡ Region r → IsRefusal precheck plan gs y e → (g : RegionState) × (slice_get gs r ≡ Some g) × IsRefusedOn precheck plan g y e
refused_on precheck plan gs y e r want h = some_and (slice_get gs r) (λ g. IsRefusedOn precheck plan g y e) (subst (λ (m : Want). IsRefusedIn m precheck plan gs y e) want h)

abbrev LatchResult : Type 0
LatchResult = Result (Unit {0}) LatchError

held : (b : Bool) (g : RegionState) (o : Option Hold) → g.hold ≡ o → latch_answer b g ≡ latch_answer b (record g { hold = o })
held b g o e = ap (λ (h : Option Hold). latch_answer b (record g { hold = h })) e

pub record IsDamagedLatch (b : Bool) (g : RegionState) (codeword found : ℕ) : Type 0 where
  pub checks : b ≡ true
  pub codeword_is : codeword ≡ g.codeword
  pub found_is : found ≡ parity_of g.words
  pub differ : (g.codeword == parity_of g.words) ≡ false

same_damage : (a b c d : ℕ) → (let r : LatchResult = Err (Damaged a b) in let q : LatchResult = Err (Damaged c d) in r ≡ q) → (a ≡ c) × (b ≡ d)
same_damage a b c d e = (cc, cc)

pub damaged_latch : (b : Bool) (g : RegionState) (codeword found : ℕ) → (let r : LatchResult = Err (Damaged codeword found) in r ≡ latch_answer b g) → IsDamagedLatch b g codeword found
damaged_latch b g codeword found e = by_hold g.hold refl
  where
    by_dead : (h : Hold) (d : Bool) → (let r : LatchResult = Err (Damaged codeword found) in r ≡ (if d then Err (DeadHolder h.txn) else Err (Latched h.txn))) → ⊥
    by_dead h true f = absurd (cc)
    by_dead h false f = absurd (cc)

    by_tests : (c d : Bool) → b ≡ c → (g.codeword == parity_of g.words) ≡ d → (let r : LatchResult = Err (Damaged codeword found) in r ≡ (if c && not d then Err (Damaged g.codeword (parity_of g.words)) else Ok tt)) → IsDamagedLatch b g codeword found
    by_tests true false p q f = let both = same_damage codeword found g.codeword (parity_of g.words) f in record { checks = p; codeword_is = both.0; found_is = both.1; differ = q }
    by_tests true true p q f = absurd (cc)
    by_tests false d p q f = absurd (cc)

    by_hold : (o : Option Hold) → g.hold ≡ o → IsDamagedLatch b g codeword found
    by_hold (Some h) is = absurd (by_dead h h.dead (e ∙ held b g (Some h) is))
    by_hold None is = by_tests b (g.codeword == parity_of g.words) refl refl (e ∙ held b g None is)

-- who answers so is dead
same_holder : (m n : ℕ) → (let r : LatchResult = Err (DeadHolder m) in let q : LatchResult = Err (DeadHolder n) in r ≡ q) → m ≡ n
same_holder m n e = cc

pub dead_latch : (b : Bool) (g : RegionState) (t : ℕ) → (let r : LatchResult = Err (DeadHolder t) in r ≡ latch_answer b g) → (h : Hold) × (g.hold ≡ Some h) × (h.dead ≡ true) × (h.txn ≡ t)
dead_latch b g t e = by_hold g.hold refl
  where
    by_test : (c : Bool) → (let r : LatchResult = Err (DeadHolder t) in r ≡ (if c then Err (Damaged g.codeword (parity_of g.words)) else Ok tt)) → ⊥
    by_test true f = absurd (cc)
    by_test false f = absurd (cc)

    by_dead : (h : Hold) (d : Bool) → h.dead ≡ d → (let r : LatchResult = Err (DeadHolder t) in r ≡ (if d then Err (DeadHolder h.txn) else Err (Latched h.txn))) → (h.dead ≡ true) × (h.txn ≡ t)
    by_dead h true p f = (p, sym (same_holder t h.txn f))
    by_dead h false p f = absurd (cc)

    by_hold : (o : Option Hold) → g.hold ≡ o → (h : Hold) × (g.hold ≡ Some h) × (h.dead ≡ true) × (h.txn ≡ t)
    by_hold (Some h) is = let both = by_dead h h.dead refl (e ∙ held b g (Some h) is) in (h, is, both.0, both.1)
    by_hold None is = absurd (by_test (b && not (g.codeword == parity_of g.words)) (e ∙ held b g None is))

-- a hold of a client that died doesn't answer that a live one has it
pub never_latched : (b : Bool) (g : RegionState) (t : ℕ) → IfSome g.hold (λ h. h.dead ≡ true) → (let r : LatchResult = Err (Latched t) in r ≡ latch_answer b g) → ⊥
never_latched b g t dead e = by_hold g.hold refl
  where
    by_test : (c : Bool) → (let r : LatchResult = Err (Latched t) in r ≡ (if c then Err (Damaged g.codeword (parity_of g.words)) else Ok tt)) → ⊥
    by_test true f = absurd (cc)
    by_test false f = absurd (cc)

    by_dead : (h : Hold) (d : Bool) → d ≡ true → (let r : LatchResult = Err (Latched t) in r ≡ (if d then Err (DeadHolder h.txn) else Err (Latched h.txn))) → ⊥
    by_dead h true p f = absurd (cc)
    by_dead h false p f = absurd (cc)

    by_hold : (o : Option Hold) → g.hold ≡ o → ⊥
    by_hold (Some h) is = by_dead h h.dead (subst (λ (o : Option Hold). IfSome o (λ k. k.dead ≡ true)) is dead) (e ∙ held b g (Some h) is)
    by_hold None is = by_test (b && not (g.codeword == parity_of g.words)) (e ∙ held b g None is)

-- ---- the command of a call
pub command_is : (xs : List Command) (call : Call) (more : List Act) → map act_of xs ≡ Calls call ∷ more → slice_get xs 0 ≡ Some (IsCall call)
command_is [] call more e = absurd (cc)
command_is (IsCall k ∷ xs) call more e = let same : k ≡ call = cc in ap (λ z. Some (IsCall z)) same
command_is _ call more e = absurd (cc)

-- why a clean-up is refused
pub clean_runs : {T : Type 0} (o : Option Cause) (r : Result T CleanError) (t : T) → r ≡ Ok t → IfSome o (λ cause. r ≡ Err (CleanStopped cause)) → o ≡ None
clean_runs None r t ok h = refl
clean_runs (Some cause) r t ok h = let both : Ok t ≡ Err (CleanStopped cause) = sym ok ∙ h in absurd (cc)

pub clean_stop : {T : Type 0} (o : Option Cause) (r : Result T CleanError) (e : CleanError) (cause : Cause) → r ≡ Err e → e ≡ CleanStopped cause → IfSome o (λ c. r ≡ Err (CleanStopped c)) → (o ≡ None → e ≡ CleanMemory) → o ≡ Some cause
clean_stop {T} (Some c) r e cause is stopped same memory = let both : Err (CleanStopped c) ≡ Err e = sym same ∙ is in let one : CleanStopped c ≡ CleanStopped cause = cc in let two : c ≡ cause = cc in ap Some two
clean_stop {T} None r e cause is stopped same memory = let both : CleanStopped cause ≡ CleanMemory = sym stopped ∙ memory refl in absurd (cc)
