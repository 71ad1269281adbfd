-- A dead transaction is cleaned up, in words of the log: each call of the clean-up leaves a step of a core.
--     MayClean c t u b g       who claimed t may log b, which performs the undo u on the region g
--     DeadLeaves               in a whole core the region that a dead transaction's row names has the hold that its client left
--     ClaimIsStep, RecoverIsStep, CleanIsStep, EndIsStep, GiveBackIsStep      a claim, the taking back of the operation in which the client
--                              died, that of an undo, the end, and a claim that is given back
use Rattle.std.specs.Prelude.{◌≡◌, ℕ, true, List, [], ◌∷◌, ◌++◌, Option, Some, None, slice_get, IsSomeAnd}
use Rattle.dali_record.specs.declared.operations.Block.{Block}
use Rattle.dali_record.specs.declared.operations.Pending.{Pending}
use Rattle.dali_record.specs.declared.records.Record.{Record}
use Rattle.dali_record.specs.declared.records.Record.TheVariants.{Ended}
use Rattle.dali_record.specs.Operations.{undo_op}
use Rattle.dali_record.specs.Log.{last_of}
use Rattle.dali_record.specs.Legal.{Working, on_kind}
use Rattle.dali_record.specs.Spelling.{Is64}
use Rattle.dali_region.specs.State.{RegionState, taken_back}
use Rattle.dali_att.specs.declared.state.State.TheVariants.{Dead, Cleaning}
use Rattle.dali_runs.specs.State.{CoreState, state_of, lock_of}
use Rattle.dali_runs.specs.Run.{covers}
use Rattle.dali_runs.specs.Steps.{in_state, ended_logged}
use Rattle.dali_runs.specs.Regions.{IsOpen}
use Rattle.dali_runs.specs.Keeps.{with_system, with_region, IsFree, MayGiveBack}
use Rattle.dali_runs.specs.Wholes.{IsWhole}
use Rattle.dali_runs.specs.Courses.{Claims, Recovers, Ends, GivesBack, IsStep}
use Rattle.dali_runs.specs.Facts.Plans.{AtWork}
use Rattle.dali_system.specs.TakenBack.{IsMadeOf}
use Rattle.dali_calls.specs.TakingBack.{IsTakenBackBy, is_claimed}
use Rattle.dali_clean.specs.Cleanup.Cleaned.{IsLeft}

pub record MayClean (c : CoreState) (t : ℕ) (u : Pending) (b : Block) (g : RegionState) : Type 0 where
  pub txn : Is64 t
  pub runs : c.system.stop ≡ None
  pub claimed : IsSomeAnd (state_of c.system t) is_claimed
  -- it has its lock, and the undo names a region of its kind
  pub holds : covers (lock_of c.system t u.key) true ≡ true
  pub kind : on_kind c.system.sizes u.region (undo_op u.undo) ≡ true
  pub made : IsMadeOf u b
  pub at : slice_get c.regions u.region ≡ Some g
  pub written : IsOpen g t b

abbrev pub ClaimIsStep : Type 0
ClaimIsStep = (L : List Record) (c : CoreState) (t : ℕ) (o : Option ℕ) → state_of c.system t ≡ Some (Dead o) → IsStep L c (Claims t) L (with_system c (in_state c.system t (Cleaning o)))

abbrev pub DeadLeaves : Type 0
DeadLeaves = (c : CoreState) (t r : ℕ) → IsWhole c → state_of c.system t ≡ Some (Dead (Some r)) → (g : RegionState) × (slice_get c.regions r ≡ Some g) × IsLeft t g

abbrev pub RecoverIsStep : Type 0
RecoverIsStep =
    (L : List Record) (c : CoreState) (t r : ℕ) (g : RegionState) → slice_get c.regions r ≡ Some g
    → IsSomeAnd (state_of c.system t) is_claimed → IsLeft t g → IsStep L c (Recovers r) L (with_region c r (taken_back g))

-- the last undo of a transaction at work, whether its client died in a call or between two
abbrev pub CleanIsStep : Type 0
CleanIsStep =
    (L : List Record) (c : CoreState) (t : ℕ) (w : Working) (u : Pending) (b : Block) (g : RegionState) → AtWork c.system.sizes L t w
    → last_of w.undos ≡ Some u → MayClean c t u b g → IsTakenBackBy L c t w b g

-- where no undo and no region is left
abbrev pub EndIsStep : Type 0
EndIsStep =
    (L : List Record) (c : CoreState) (t : ℕ) (w : Working) → AtWork c.system.sizes L t w
    → w.undos ≡ [] → c.system.stop ≡ None → IsSomeAnd (state_of c.system t) is_claimed → IsFree c t
    → IsStep L c (Ends t) (L ++ Ended t ∷ []) (with_system c (ended_logged c.system t))

abbrev pub GiveBackIsStep : Type 0
GiveBackIsStep = (L : List Record) (c : CoreState) (t : ℕ) (o : Option ℕ) → MayGiveBack c t o → IsStep L c (GivesBack t o) L (with_system c (in_state c.system t (Dead o)))
