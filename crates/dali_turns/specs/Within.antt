-- Where a client stands in a transaction.
--     IsTry t tries begun      a transaction that was tried so often, and is tried again with these acts
--     FitsWithin x             it is in the transaction x, and in no operation
--     IsAtCall plan t call     the plan of its call stands there
--     AreGot p w c t           each lock that t has was granted to the client c, in this round and in this mode
--     TookNothing t xs         it took nothing of t back
--     HasTurned back t pending it took nothing back of its call; or its answer takes back, and since then it made no operation
--     FitsCalling x plan       its call has its lock
--     FitsTakingBack x plan why    its call is refused, and is taken back
--     FitsYielding x holder    an older transaction holds the key of its call
use Rattle.std.specs.Prelude.{◌≡◌, ℕ, ◌<◌, Bool, true, false, List, [], ◌∷◌, ◌++◌, Option, Some, None, map}
use Rattle.std.specs.List.{AllByRecursion}
use Rattle.dali_record.specs.declared.operations.Pending.{Pending}
use Rattle.dali_record.specs.declared.records.Call.{Call}
use Rattle.dali_locks.specs.declared.mode.Mode.{Mode}
use Rattle.dali_att.specs.declared.state.State.TheVariants.{Live}
use Rattle.dali_runs.specs.declared.refusals.Refusal.{Refusal}
use Rattle.dali_runs.specs.State.{state_of, lock_of}
use Rattle.dali_runs.specs.Keeps.{IsFree}
use Rattle.dali_crash.specs.Checkpoints.{Point}
use Rattle.dali_calls.specs.declared.plan.Phase.{Phase}
use Rattle.dali_calls.specs.declared.plan.Phase.TheVariants.{Calling as IsCalling, Refused as IsRefused}
use Rattle.dali_calls.specs.Plans.{Planned, goes_back}
use Rattle.dali_calls.specs.Steps.{answer_of}
use Rattle.dali_calls.specs.Single.Stands.{IsAtRest, AtPlan}
use Rattle.dali_calls.specs.Single.Single.{MayCall}
use Rattle.dali_transcripts.specs.Words.{Act, Begins, Calls, is_stop}
use Rattle.dali_transcripts.specs.World.{World, Meets, Yields, HasGot}
use Rattle.dali_transcripts.specs.Moves.{Receipt, Within, at, operations, left}
use Rattle.dali_transcripts.specs.Causes.{AreAsking, AreAside, AreWork, AreTried, MetCause, GetsBusy, Survives, spares, undos_behind, StaysRefused, WasGranted, is_taking_back, StaysBack}
use Rattle.dali_transcripts.specs.Rounds.{Standing, IsPlaced}
use Rattle.dali_transcripts.specs.declared.clients.line.Why.{Why}
use Rattle.dali_transcripts.specs.Clients.Told.{act_of, reason_of}
use Rattle.dali_turns.specs.declared.client.Transaction.{Transaction}
use Rattle.dali_turns.specs.Stood.{HadRow}
use Rattle.dali_turns.specs.Outside.{MaySay}

pub record IsTry (x : Transaction) : Type 0 where
  pub more : List Act
  pub begins : map act_of x.commands.now ≡ Begins ∷ more
  pub placed : IsPlaced false (map act_of x.commands.now)
  pub few : x.tries < 1000

-- what it has done of a call that asks for its lock still
abbrev pub AreSoFar : World → (client txn : ℕ) → List Act → List Receipt → Type 0
AreSoFar w c t (Calls call ∷ rest) pending = AreAsking w c t call pending
AreSoFar w c t rest pending = pending ≡ []

abbrev pub AreGot : Point → World → (client txn : ℕ) → Type 0
AreGot p w c t = (k : ℕ) (m : Mode) → lock_of p.core.system t k ≡ Some m → HasGot w.happened c t k m

pub record FitsWithin (p : Point) (w : World) (a : Standing) (rest : List Act) (x : Transaction) : Type 0 where
  pub said : Bool
  pub may : MaySay p.core.system said
  pub spot : a.spot ≡ at (Within x.txn x.tries (map act_of x.commands.now) x.deadly said) rest
  pub so_far : AreSoFar w a.client x.txn rest a.pending
  -- nothing of it is to be taken back
  pub undone : (us : List Pending) → undos_behind x.txn us a.pending ≡ us
  pub placed : IsPlaced true rest
  pub again : IsTry x
  -- it doesn't die before its next operation
  pub due : spares x.deadly 0 ≡ true
  pub lives : state_of p.core.system x.txn ≡ Some Live
  pub free : IsFree p.core x.txn
  pub locks : AreGot p w a.client x.txn
  -- a call that met a stop may have left it in its midst
  pub may_call : p.core.system.stop ≡ None → MayCall p.log p.core x.txn

pub record IsAtCall (p : Point) (plan : Planned) (t : ℕ) (call : Call) (phase : Phase) : Type 0 where
  pub txn : plan.txn ≡ t
  pub call_is : plan.call ≡ call
  pub phase_is : plan.phase ≡ phase
  pub rest : IsAtRest p.core.regions p.core.system plan
  pub stands : AtPlan p.log p.core plan

abbrev pub TookNothing : (txn : ℕ) → List Receipt → Type 0
TookNothing t xs = AllByRecursion (λ x. is_taking_back t x ≡ false) xs

-- what it has done of a call: it took nothing back, or the answer that it comes to does, and behind that it made no operation
abbrev pub HasTurned : (back : Bool) → (txn : ℕ) → List Receipt → Type 0
HasTurned false t pending = TookNothing t pending
HasTurned true t pending = StaysBack t pending

pub record FitsCalling (p : Point) (w : World) (a : Standing) (rest : List Act) (x : Transaction) (plan : Planned) : Type 0 where
  pub call : Call
  pub more : List Act
  pub calls : rest ≡ Calls call ∷ more
  -- as it was when the call began
  pub deadly : Option ℕ
  pub spot : a.spot ≡ at (Within x.txn x.tries (map act_of x.commands.now) deadly false) rest
  pub work : AreWork w a.client x.txn call a.pending
  pub granted : WasGranted a.pending
  pub turned : HasTurned (goes_back (answer_of plan.geometry plan.call plan.stage)) x.txn a.pending
  -- what is to be taken back of it is what the plan has noted
  pub undone : (us : List Pending) → undos_behind x.txn us a.pending ≡ us ++ plan.changes
  pub nearer : x.deadly ≡ left deadly (operations x.txn a.pending)
  pub spared : spares deadly (operations x.txn a.pending) ≡ true
  pub placed : IsPlaced true rest
  pub again : IsTry x
  pub plan_is : IsAtCall p plan x.txn call IsCalling
  pub locks : AreGot p w a.client x.txn

pub record FitsTakingBack (p : Point) (w : World) (a : Standing) (rest : List Act) (x : Transaction) (plan : Planned) (why : Why) : Type 0 where
  pub call : Call
  pub more : List Act
  pub calls : rest ≡ Calls call ∷ more
  pub deadly : Option ℕ
  pub spot : a.spot ≡ at (Within x.txn x.tries (map act_of x.commands.now) deadly false) rest
  pub work : List Receipt
  pub met : ℕ
  pub back : List Receipt
  pub pending : a.pending ≡ work ++ (met, Meets (reason_of why)) ∷ back
  pub tried : AreTried w a.client x.txn call work
  pub stays : StaysRefused work
  pub granted : WasGranted work
  pub cause : MetCause w a.client met (Calls call) (Some x.txn) (reason_of why)
  pub survives : Survives w a.client met x.txn call deadly (operations x.txn work) (reason_of why) cause
  -- a stop is told at once
  pub no_stop : is_stop (reason_of why) ≡ false
  pub aside : AreAside w a.client x.txn back
  pub undone : (us : List Pending) → undos_behind x.txn us a.pending ≡ us ++ plan.changes
  pub nearer : x.deadly ≡ left deadly (operations x.txn work)
  pub spared : spares deadly (operations x.txn work) ≡ true
  pub placed : IsPlaced true rest
  pub again : IsTry x
  pub plan_is : IsAtCall p plan x.txn call IsRefused
  pub locks : AreGot p w a.client x.txn

-- in the midst of a step: the request was refused
pub record FitsYielding (p : Point) (w : World) (a : Standing) (rest : List Act) (x : Transaction) (holder : ℕ) : Type 0 where
  pub call : Call
  pub more : List Act
  pub calls : rest ≡ Calls call ∷ more
  pub spot : a.spot ≡ at (Within x.txn x.tries (map act_of x.commands.now) x.deadly false) rest
  pub work : List Receipt
  pub refusal : Refusal
  pub pending : a.pending ≡ work ++ (refusal.at, Yields refusal) ∷ []
  pub asking : AreAsking w a.client x.txn call work
  pub busy : GetsBusy w a.client x.txn call refusal
  pub holder_is : refusal.holder ≡ holder
  pub had : HadRow w holder
  pub placed : IsPlaced true rest
  pub again : IsTry x
  pub lives : state_of p.core.system x.txn ≡ Some Live
  pub runs : p.core.system.stop ≡ None
