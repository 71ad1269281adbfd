-- What one transaction's own steps leave to the others.
--     OwnStepStandsAside       each of its steps, also its answer, its commit and its end, leaves them as they were
--     OwnStepsStandAside       so do all the steps of a call
--     IsReady s t us           t is committed, may free what these undos would put back, and has the memory for it promised
--     SettlingWaits            so it stays, whatever another transaction's calls do
--     CommittedWaits           and the rules of the log have t where they had it
use Rattle.std.specs.Prelude.{◌≡◌, ◌==◌, ◌≤◌, ◌<◌, Bool, false, ℕ, List, Some, length}
use Rattle.std.specs.List.{AllByRecursion}
use Rattle.dali_record.specs.declared.operations.Pending.{Pending}
use Rattle.dali_record.specs.declared.records.Record.{Record}
use Rattle.dali_att.specs.declared.state.State.TheVariants.{Committed}
use Rattle.dali_runs.specs.State.{CoreState, state_of}
use Rattle.dali_runs.specs.Courses.{Step, IsStep}
use Rattle.dali_system.specs.Served.{Served}
use Rattle.dali_system.specs.Promised.{promised_to}
use Rattle.dali_calls.specs.Others.{PromisesStay}
use Rattle.dali_calls.specs.Single.Single.{IsOwnStep, Leads, OthersStay, StandAside}
use Rattle.dali_calls.specs.Single.Settling.{MayFree, IsCommitted, settle_room}

abbrev pub OwnStepStandsAside : Type 0
OwnStepStandsAside = (t : ℕ) (L M : List Record) (c d : CoreState) (x : Step) → IsStep L c x M d → IsOwnStep t c x → StandAside t L c M d

abbrev pub OwnStepsStandAside : Type 0
OwnStepsStandAside = (precheck : Bool) (t : ℕ) (L M : List Record) (c d : CoreState) (xs : List Step) → Leads precheck t L c xs M d → StandAside t L c M d

pub record IsReady (s : Served) (t : ℕ) (us : List Pending) : Type 0 where
  pub may : AllByRecursion (MayFree s.state t) us
  pub committed : state_of s.state t ≡ Some Committed
  pub promised : settle_room (length us) ≤ promised_to s.promised t

abbrev pub SettlingWaits : Type 0
SettlingWaits = (s z : Served) (t u : ℕ) (us : List Pending) → (u == t) ≡ false → z.state.sizes ≡ s.state.sizes → OthersStay s.state u z.state → PromisesStay s u z → IsReady s t us → IsReady z t us

abbrev pub CommittedWaits : Type 0
CommittedWaits = (L M : List Record) (c d : CoreState) (t u : ℕ) (us : List Pending) → (u == t) ≡ false → StandAside u L c M d → u < c.system.next → IsCommitted L c t us → IsCommitted M d t us
