-- A transaction is taken back, by a thread that has the core alone.
--     IsBackOf t x             the record x takes an operation of t back
--     IsAtWork L c t           it has no region latched, and its row has the undos that the log leaves it
--     HasEnded own L c t d     records of one kind were logged, behind them comes its end, and nothing else was logged
--     IsEnded L c t d          it was taken back: so it has ended behind its undos
--     IsStillAtWork L c t d    some of its undos were performed, and the others are left
--     UndoesFrom rs y t rs' z  undos of t were performed, the last ones, and steps of a core led to these regions and this system
use Rattle.std.specs.Prelude.{◌≡◌, false, ℕ, List, [], ◌∷◌, ◌++◌, Some, length}
use Rattle.std.specs.List.{AllByRecursion}
use Rattle.dali_record.specs.declared.records.Record.{Record}
use Rattle.dali_record.specs.declared.records.Record.TheVariants.{Ended, Back}
use Rattle.dali_record.specs.Legal.{Working}
use Rattle.dali_geometry.specs.Places.{regions}
use Rattle.dali_region.specs.State.{RegionState}
use Rattle.dali_att.specs.declared.state.State.TheVariants.{Live}
use Rattle.dali_att.specs.Table.{undos_at}
use Rattle.dali_runs.specs.State.{SystemState, VaultState, CoreState, state_of}
use Rattle.dali_runs.specs.Keeps.{IsFree}
use Rattle.dali_runs.specs.Courses.{Step, Ends, IsStep}
use Rattle.dali_runs.specs.Facts.Plans.{AtWork}
use Rattle.dali_calls.specs.Others.{HoldsClear}
use Rattle.dali_calls.specs.Single.Stands.{core}
use Rattle.dali_calls.specs.Single.Single.{Leads, OthersStay, AreCovered}

abbrev pub IsBackOf : ℕ → Record → Type 0
IsBackOf t (Back u b) = u ≡ t
IsBackOf t x = ⊥

pub record IsAtWork (L : List Record) (c : CoreState) (t : ℕ) : Type 0 where
  pub working : Working
  pub at_work : AtWork c.system.sizes L t working
  pub undos : undos_at c.system.table t ≡ working.undos
  pub free : IsFree c t

pub record HasEnded (own : Record → Type 0) (L : List Record) (c : CoreState) (t : ℕ) (d : CoreState) : Type 0 where
  pub log : List Record
  pub mid : CoreState
  pub steps : List Step
  pub leads : Leads false t L c steps log mid
  -- what was logged before the end
  pub records : List Record
  pub logged : log ≡ L ++ records
  pub are : AllByRecursion own records
  pub ends : IsStep log mid (Ends t) (log ++ Ended t ∷ []) d

abbrev pub IsEnded : List Record → CoreState → ℕ → CoreState → Type 0
IsEnded L c t d = HasEnded (IsBackOf t) L c t d

pub record IsStillAtWork (L : List Record) (c : CoreState) (t : ℕ) (d : CoreState) : Type 0 where
  pub log : List Record
  pub steps : List Step
  pub leads : Leads false t L c steps log d
  pub own : List Record
  pub logged : log ≡ L ++ own
  pub backs : AllByRecursion (IsBackOf t) own
  pub at : IsAtWork log d t

pub record UndoesFrom (rs : List RegionState) (y : SystemState) (t : ℕ) (rs' : List RegionState) (z : SystemState) : Type 0 where
  pub whole : length rs' ≡ regions z.sizes
  pub sizes : z.sizes ≡ y.sizes
  pub lives : state_of z t ≡ Some Live
  pub covered : AreCovered z t
  pub others : OthersStay y t z
  pub stop : z.stop ≡ y.stop
  pub holds : HoldsClear rs rs'
  pub leads : (L : List Record) (v : VaultState) → IsAtWork L (core rs y v) t → IsStillAtWork L (core rs y v) t (core rs' z v)
