-- What the steps of others leave to a transaction, and what a refused call leaves to its own.
--     LeavesBe t L c M d       t has its row, its locks and its place in the rules, and no region is latched for it that wasn't
--     EachLeavesBe, CourseLeavesBe     so each step leaves it that is apart from it, and each list of them
--     OwnStepIsApart, LedLeavesBe      a step of another transaction's own is apart from it, so a list of them leaves it be
--     PlanWaits, CallWaits, RestWaits  behind what leaves t be a plan of t stands where it stood, and t may call where it might
--     PlanTurns, TurnedEnds    a plan that is refused stands where it stood; where it wants nothing more its call has changed nothing, and t may call again
--     Grows L c M d            what is added to the log is what the system has logged
--     StepGrows, LedGrows      so it is of each step, and of the steps of a transaction's own
use Rattle.std.specs.Prelude.{◌≡◌, ◌==◌, ◌<◌, ◌≤◌, ℕ, Bool, true, false, List, [], ◌++◌, length}
use Rattle.std.specs.List.{list_all}
use Rattle.dali_record.specs.declared.records.Record.{Record}
use Rattle.dali_record.specs.Legal.{txn_state}
use Rattle.dali_runs.specs.State.{CoreState, row_of, lock_of}
use Rattle.dali_runs.specs.Keeps.{IsFree}
use Rattle.dali_runs.specs.Courses.{Step, Moment, IsStep, IsCourse}
use Rattle.dali_system.specs.declared.want.Want.TheVariants.{Nothing}
use Rattle.dali_calls.specs.declared.plan.Phase.TheVariants.{Refused}
use Rattle.dali_calls.specs.Plans.{Planned, is_answered, want_of, refused, IsWhole}
use Rattle.dali_calls.specs.Others.{is_apart}
use Rattle.dali_calls.specs.Single.Stands.{IsAtRest, AtPlan}
use Rattle.dali_calls.specs.Single.Single.{IsOwnStep, Leads, MayCall}

-- ---- the steps of others
pub record LeavesBe (t : ℕ) (L : List Record) (c : CoreState) (M : List Record) (d : CoreState) : Type 0 where
  pub sizes : d.system.sizes ≡ c.system.sizes
  pub next : c.system.next ≤ d.system.next
  pub row : row_of d.system t ≡ row_of c.system t
  pub locks : (k : ℕ) → lock_of d.system t k ≡ lock_of c.system t k
  pub rules : txn_state c.system.sizes t M ≡ txn_state c.system.sizes t L
  pub free : IsFree c t → IsFree d t
  pub count : length d.regions ≡ length c.regions

abbrev pub EachLeavesBe : Type 0
EachLeavesBe = (t : ℕ) (L M : List Record) (c d : CoreState) (x : Step) → t < c.system.next → is_apart t x ≡ true → IsStep L c x M d → LeavesBe t L c M d

abbrev pub CourseLeavesBe : Type 0
CourseLeavesBe = (t : ℕ) (m n : Moment) (xs : List Step) → t < m.core.system.next → list_all (is_apart t) xs ≡ true → IsCourse m xs n → LeavesBe t m.log m.core n.log n.core

abbrev pub OwnStepIsApart : Type 0
OwnStepIsApart = (t u : ℕ) (c : CoreState) (x : Step) → (u == t) ≡ false → IsOwnStep u c x → is_apart t x ≡ true

abbrev pub LedLeavesBe : Type 0
LedLeavesBe =
    (precheck : Bool) (t u : ℕ) (L M : List Record) (c d : CoreState) (xs : List Step) → (u == t) ≡ false → t < c.system.next → Leads precheck u L c xs M d → LeavesBe t L c M d

abbrev pub PlanWaits : Type 0
PlanWaits = (L M : List Record) (c d : CoreState) (p : Planned) → LeavesBe p.txn L c M d → AtPlan L c p → AtPlan M d p

abbrev pub CallWaits : Type 0
CallWaits = (L M : List Record) (c d : CoreState) (t : ℕ) → LeavesBe t L c M d → MayCall L c t → MayCall M d t

abbrev pub RestWaits : Type 0
RestWaits = (L M : List Record) (c d : CoreState) (p : Planned) → LeavesBe p.txn L c M d → IsAtRest c.regions c.system p → IsAtRest d.regions d.system p

-- ---- a call that is refused
abbrev pub PlanTurns : Type 0
PlanTurns = (L : List Record) (c : CoreState) (p : Planned) → is_answered p.phase ≡ false → AtPlan L c p → AtPlan L c (refused p)

abbrev pub TurnedEnds : Type 0
TurnedEnds = (L : List Record) (c : CoreState) (p : Planned) → IsWhole p → p.phase ≡ Refused → want_of p ≡ Nothing → AtPlan L c p → MayCall L c p.txn × (p.changes ≡ [])

-- ---- the log
abbrev pub Grows : List Record → CoreState → List Record → CoreState → Type 0
Grows L c M d = (own : List Record) × (M ≡ L ++ own) × (d.system.since ≡ c.system.since ++ own)

abbrev pub StepGrows : Type 0
StepGrows = (L M : List Record) (c d : CoreState) (x : Step) → IsStep L c x M d → Grows L c M d

abbrev pub LedGrows : Type 0
LedGrows = (precheck : Bool) (t : ℕ) (L M : List Record) (c d : CoreState) (xs : List Step) → Leads precheck t L c xs M d → Grows L c M d
