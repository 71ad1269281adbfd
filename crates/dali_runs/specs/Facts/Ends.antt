-- Which record the rules of the log allow next to a transaction outside its calls: to who begins, commits, frees what it removed, and ends. What is known of it,
-- what its own record makes of that, and that others' records leave it.
--     IsUnbegun, IsEnding s L t dead, IsOver   where the rules have t: no record yet; committed, with these removals still to be freed; ended
--     HasBegun, BeginFollows   behind its Begin it is between calls, with nothing to take back, as a plan is that has made no operation
--     NextIsUnbegun            in a run the next number has no record yet
--     CommitFollows            between calls a Commit is allowed where nothing was taken back of what had been answered; its removals are left to be freed then
--     IsFreed u b              the block b frees for good what the undo u would have put back
--     SoloFollows              the Solo of the first of them is allowed, under a number without a record, and the others are left
--     EndFollows               where none is left Ended is allowed
--     EmptyEnds                so it is to one at work with nothing to take back
--     OnlyThese                no other record of it is allowed behind its Commit
--     OthersLeave              a record that doesn't concern it leaves it where it was
--     CommitIsStep, SoloIsStep, EndIsStep, EmptyEndIsStep      so these are steps of a run, and their caller proves no rule of the log
use Rattle.std.specs.Prelude.{◌≡◌, ◌⊎◌, ℕ, true, false, List, [], ◌∷◌, ◌++◌, Some, None, slice_get}
use Rattle.dali_geometry.specs.Sizes.{Sizes}
use Rattle.dali_record.specs.declared.operations.Block.{Block}
use Rattle.dali_record.specs.declared.operations.Pending.{Pending}
use Rattle.dali_record.specs.declared.records.Record.{Record}
use Rattle.dali_record.specs.declared.records.Record.TheVariants.{Begin, Commit, Ended, Solo, Restarted}
use Rattle.dali_record.specs.Calls.{Fresh}
use Rattle.dali_record.specs.Spelling.{CanBeSpelled}
use Rattle.dali_record.specs.Legal.{Unbegun, Committed, Over, Working, txn_state, concerns, is_level, dead_of, freeing_op, is_of, on_kind}
use Rattle.dali_region.specs.State.{RegionState}
use Rattle.dali_att.specs.declared.state.State.TheVariants.{Live}
use Rattle.dali_runs.specs.State.{CoreState, state_of}
use Rattle.dali_runs.specs.Run.{Bases, RunsOn, holds}
use Rattle.dali_runs.specs.Steps.{solo_logged, commit_logged, ended_logged}
use Rattle.dali_runs.specs.Regions.{IsOpen}
use Rattle.dali_runs.specs.Keeps.{IsNext, IsFree, may_log_in, with_system, with_touched}
use Rattle.dali_runs.specs.Courses.{Frees, Commits, Ends, IsStep}
use Rattle.dali_runs.specs.Facts.Plans.{AtWork, IsPlan}

abbrev pub IsUnbegun : Sizes → List Record → ℕ → Type 0
IsUnbegun s L t = txn_state s t L ≡ Some Unbegun

abbrev pub IsEnding : Sizes → List Record → ℕ → List Pending → Type 0
IsEnding s L t dead = txn_state s t L ≡ Some (Committed dead)

abbrev pub IsOver : Sizes → List Record → ℕ → Type 0
IsOver s L t = txn_state s t L ≡ Some Over

-- ---- the begin
pub record HasBegun (s : Sizes) (L : List Record) (t : ℕ) : Type 0 where
  pub working : Working
  pub at_work : AtWork s L t working
  pub undos : working.undos ≡ []
  pub level : is_level working ≡ true
  -- as a plan is that has made no operation
  pub plan : IsPlan s L t Fresh 0

abbrev pub BeginFollows : Type 0
BeginFollows = (s : Sizes) (L : List Record) (t : ℕ) → IsUnbegun s L t → HasBegun s (L ++ Begin t ∷ []) t

abbrev pub NextIsUnbegun : Type 0
NextIsUnbegun = (bases : Bases) (L : List Record) (c : CoreState) → RunsOn bases L c → IsUnbegun c.system.sizes L c.system.next

-- ---- the commit, and what follows it
abbrev pub CommitFollows : Type 0
CommitFollows =
    (s : Sizes) (L : List Record) (t : ℕ) (w : Working) → AtWork s L t w → is_level w ≡ true
    → IsEnding s (L ++ Commit t ∷ []) t (dead_of w.undos)

pub record IsFreed (u : Pending) (b : Block) : Type 0 where
  pub key : b.key ≡ u.key
  pub region : b.region ≡ u.region
  pub op : b.op ≡ freeing_op u.undo

pub record FreesOne (s : Sizes) (L : List Record) (p t : ℕ) (us : List Pending) : Type 0 where
  pub left : IsEnding s L p us
  -- the number that it took
  pub over : IsOver s L t

abbrev pub SoloFollows : Type 0
SoloFollows =
    (s : Sizes) (L : List Record) (p t : ℕ) (u : Pending) (us : List Pending) (b : Block) → IsEnding s L p (u ∷ us) → IsUnbegun s L t
    → IsFreed u b
    → FreesOne s (L ++ Solo t p b ∷ []) p t us

abbrev pub EndFollows : Type 0
EndFollows = (s : Sizes) (L : List Record) (t : ℕ) → IsEnding s L t [] → IsOver s (L ++ Ended t ∷ []) t

abbrev pub EmptyEnds : Type 0
EmptyEnds = (s : Sizes) (L : List Record) (t : ℕ) (w : Working) → AtWork s L t w → w.undos ≡ [] → IsOver s (L ++ Ended t ∷ []) t

-- ---- nothing else
pub record FreesFirst (t : ℕ) (dead : List Pending) (x : Record) : Type 0 where
  pub number : ℕ
  pub block : Block
  pub first : Pending
  pub others : List Pending
  pub is : x ≡ Solo number t block
  pub dead_is : dead ≡ first ∷ others
  pub of : is_of (freeing_op first.undo) first block ≡ true

abbrev pub MayFollowCommit : ℕ → List Pending → Record → Type 0
MayFollowCommit t dead x = ((x ≡ Ended t) × (dead ≡ [])) ⊎ FreesFirst t dead x ⊎ ((rs ds : List ℕ) × (x ≡ Restarted rs ds))

abbrev pub OnlyThese : Type 0
OnlyThese =
    (s : Sizes) (L : List Record) (t : ℕ) (dead : List Pending) (x : Record) → IsEnding s L t dead
    → concerns t x ≡ true → IsNext s L t x
    → MayFollowCommit t dead x

-- ---- others
abbrev pub OthersLeave : Type 0
OthersLeave = (s : Sizes) (L : List Record) (t : ℕ) (x : Record) → concerns t x ≡ false → txn_state s t (L ++ x ∷ []) ≡ txn_state s t L

-- ---- the steps of a run
abbrev pub CommitIsStep : Type 0
CommitIsStep =
    (L : List Record) (c : CoreState) (t : ℕ) (w : Working) → AtWork c.system.sizes L t w → is_level w ≡ true
    → c.system.stop ≡ None → state_of c.system t ≡ Some Live
    → IsStep L c (Commits t) (L ++ Commit t ∷ []) (with_system c (commit_logged c.system t))

-- the block is the open operation of its region, and its transaction has the lock
pub record IsHeldBlock (c : CoreState) (p : ℕ) (b : Block) (g : RegionState) : Type 0 where
  pub spelled : CanBeSpelled (Solo c.system.next p b)
  pub kind : on_kind c.system.sizes b.region b.op ≡ true
  pub locked : holds c.system p b ≡ true
  pub at : slice_get c.regions b.region ≡ Some g
  pub is_open : IsOpen g p b

abbrev pub SoloIsStep : Type 0
SoloIsStep =
    (bases : Bases) (L : List Record) (c : CoreState) (p : ℕ) (u : Pending) (us : List Pending) (b : Block) (g : RegionState) → RunsOn bases L c
    → IsEnding c.system.sizes L p (u ∷ us) → c.system.stop ≡ None → IsFreed u b → IsHeldBlock c p b g
    → IsStep L c (Frees p b) (L ++ Solo c.system.next p b ∷ []) (with_touched c (solo_logged c.system p b) b.region g)

abbrev pub EndIsStep : Type 0
EndIsStep =
    (bases : Bases) (L : List Record) (c : CoreState) (t : ℕ) → RunsOn bases L c → IsEnding c.system.sizes L t []
    → c.system.stop ≡ None → IsFree c t
    → IsStep L c (Ends t) (L ++ Ended t ∷ []) (with_system c (ended_logged c.system t))

abbrev pub EmptyEndIsStep : Type 0
EmptyEndIsStep =
    (L : List Record) (c : CoreState) (t : ℕ) (w : Working) → AtWork c.system.sizes L t w → w.undos ≡ []
    → c.system.stop ≡ None → IsFree c t → may_log_in (state_of c.system t) (Ended t) ≡ true
    → IsStep L c (Ends t) (L ++ Ended t ∷ []) (with_system c (ended_logged c.system t))
