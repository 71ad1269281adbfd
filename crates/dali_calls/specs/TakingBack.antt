-- A transaction is taken back, in words of the log: each commit of the plan is a step of a core.
--     is_claimed st            a clean-up has claimed the transaction of this state
--     MayTakeBack c t u b g    the client of t, or who claimed it, may log b, which performs the undo u on the region g
--     IsTakenBackBy ..         the step is taken, and then the rest of the undos is left
use Rattle.std.specs.Prelude.{◌≡◌, ⊤, ℕ, true, List, [], ◌∷◌, ◌++◌, Some, None, slice_get}
use Rattle.dali_record.specs.declared.operations.Block.{Block}
use Rattle.dali_record.specs.declared.operations.Pending.{Pending}
use Rattle.dali_record.specs.declared.records.Record.{Record}
use Rattle.dali_record.specs.declared.records.Record.TheVariants.{Back}
use Rattle.dali_record.specs.Operations.{undo_op}
use Rattle.dali_record.specs.Log.{last_of, drop_last}
use Rattle.dali_record.specs.Legal.{Working, on_kind}
use Rattle.dali_record.specs.Spelling.{Is64}
use Rattle.dali_region.specs.State.{RegionState}
use Rattle.dali_att.specs.declared.state.State.{State}
use Rattle.dali_att.specs.declared.state.State.TheVariants.{Cleaning}
use Rattle.dali_runs.specs.State.{CoreState, state_of, lock_of}
use Rattle.dali_runs.specs.Run.{covers}
use Rattle.dali_runs.specs.Steps.{back_logged}
use Rattle.dali_runs.specs.Regions.{IsOpen}
use Rattle.dali_runs.specs.Keeps.{may_log_in, with_touched}
use Rattle.dali_runs.specs.Courses.{TakesBack, IsStep}
use Rattle.dali_runs.specs.Facts.Plans.{AtWork}
use Rattle.dali_system.specs.TakenBack.{IsMadeOf}

abbrev pub is_claimed : State → Type 0
is_claimed (Cleaning latched) = ⊤
is_claimed _ = ⊥

pub record MayTakeBack (c : CoreState) (t : ℕ) (u : Pending) (b : Block) (g : RegionState) : Type 0 where
  pub txn : Is64 t
  pub runs : c.system.stop ≡ None
  pub by : may_log_in (state_of c.system t) (Back t b) ≡ true
  -- it has its lock, and the undo names a region of its kind
  pub holds : covers (lock_of c.system t u.key) true ≡ true
  pub kind : on_kind c.system.sizes u.region (undo_op u.undo) ≡ true
  pub made : IsMadeOf u b
  pub at : slice_get c.regions u.region ≡ Some g
  pub written : IsOpen g t b

pub record IsTakenBackBy (L : List Record) (c : CoreState) (t : ℕ) (w : Working) (b : Block) (g : RegionState) : Type 0 where
  pub step : IsStep L c (TakesBack t b) (L ++ Back t b ∷ []) (with_touched c (back_logged c.system t b) b.region g)
  pub left : Working
  pub at_work : AtWork c.system.sizes (L ++ Back t b ∷ []) t left
  pub undos : left.undos ≡ drop_last w.undos

-- the last undo of a transaction at work, in a call or between two, whoever takes it back
abbrev pub TakeBackIsStep : Type 0
TakeBackIsStep =
    (L : List Record) (c : CoreState) (t : ℕ) (w : Working) (u : Pending) (b : Block) (g : RegionState) → AtWork c.system.sizes L t w
    → last_of w.undos ≡ Some u → MayTakeBack c t u b g → IsTakenBackBy L c t w b g
