-- What a crash inside a round leaves.
--     IsRightBetween s p q F   the files F restart right at a point to which steps lead from one between p and q, with the regions that are in memory at that
--                              one; no record of its log lacks in that of q
--     LeavesBetween s p q c    the disk c spells such files
--     EndsRight ..             steps lead from p to a point with this memory and this log, and each disk that a crash at any moment leaves spells such files
--     PlayEnds ok ..           from wherever the round began the turns of the clients lead on, and each disk that a crash at any moment of them leaves spells
--                              such files
--     TurnsGo ok ..            so they make turns, and what a step asks for is so behind them, whatever log there is
--     HaltsOn upto ..          so does what is asked of the clients before this place where the round makes no steps more
--     HaltsEnd ..              all are asked
--     PlayLeaves ..            the turns, and what is asked behind them
--     RoundLeavesRight ..      so it is of a whole round, from each point at which it may begin
use Rattle.std.specs.Prelude.{◌≡◌, ◌++◌, ℕ, Bool, true, false, List, Option}
use Rattle.dali_record.specs.declared.records.Record.{Record}
use Rattle.dali_record.specs.Files.{Files}
use Rattle.dali_region.specs.State.{RegionState}
use Rattle.dali_store.specs.Store.{Files as Disk}
use Rattle.dali_store.specs.declared.store.Store.{Ghosts}
use Rattle.dali_runs.specs.State.{SystemState, log_after}
use Rattle.dali_crash.specs.Checkpoints.{StoreStep, Point, IsPointCourse}
use Rattle.dali_crash.specs.Traces.{Start}
use Rattle.dali_crash.specs.Disks.Disks.{Spells}
use Rattle.dali_crash.specs.Disks.Bridges.{LeavesRightAt}
use Rattle.dali_core.specs.Vault.Vaulted.{Vaulted}
use Rattle.dali_core.specs.Cores.{IsNoShorter}
use Rattle.dali_core.specs.Moments.{Within}
use Rattle.dali_transcripts.specs.Transcripts.{Told}
use Rattle.dali_turns.specs.declared.client.Client.{Client}
use Rattle.dali_round.specs.Leads.{BeginsAt}
use Rattle.dali_round.specs.Played.{HavePlaces, Played, Halting, PlayGoes}

pub record IsRightBetween (s : Start) (p q : Point) (F : Files) : Type 0 where
  pub between : Point
  pub before : List StoreStep
  pub comes : IsPointCourse p before between
  pub behind : List StoreStep
  pub goes : IsPointCourse between behind q
  pub to : Point
  pub steps : List StoreStep
  pub course : IsPointCourse between steps to
  pub regions : to.core.regions ≡ between.core.regions
  pub rest : List Record
  pub log : to.log ++ rest ≡ q.log
  pub right : LeavesRightAt s to F

abbrev pub LeavesBetween : Start → Point → Point → Disk → Type 0
LeavesBetween s p q c = (F : Files) × Spells c F × IsRightBetween s p q F

pub record EndsRight {V : Type 0} (told : V → Option Disk) (moment : V → ℕ) (left_since : V → ℕ → Disk → Type 0) (s : Start) (p : Point) (v : Vaulted V) (hs : List RegionState) (z : SystemState) (u : Vaulted V) : Type 0 where
  pub to : Point
  pub steps : List StoreStep
  pub course : IsPointCourse p steps to
  pub regions : to.core.regions ≡ hs
  pub log : to.log ≡ log_after s.log z
  pub within : Within told moment left_since v u (LeavesBetween s p to)

module _ {V : Type 0} (means : Ghosts V) where
  abbrev pub PlayEnds : Bool → Bool → List Client → List RegionState → SystemState → Vaulted V → List Client → List RegionState → SystemState → Vaulted V → Type 0
  PlayEnds true precheck ks gs y v js hs z u =
      (s : Start) (p : Point) (bs : List Told) (f : Played means true precheck s p bs ks gs y v)
      → (j : Played means true precheck s p bs js hs z u) × (steps : List StoreStep) × IsPointCourse f.to steps j.to × Within means.told means.moment means.left_since v u (LeavesBetween s f.to j.to)
  PlayEnds false precheck ks gs y v js hs z u =
      (s : Start) (p : Point) (bs : List Told) (f : Played means true precheck s p bs ks gs y v)
      → (j : Halting means 0 precheck s p bs js hs z u) × (steps : List StoreStep) × IsPointCourse f.to steps j.to × Within means.told means.moment means.left_since v u (LeavesBetween s f.to j.to)

  pub record TurnsGo (ok precheck : Bool) (ks : List Client) (gs : List RegionState) (y : SystemState) (v : Vaulted V) (js : List Client) (hs : List RegionState) (z : SystemState) (u : Vaulted V) : Type 0 where
    pub goes : PlayGoes means precheck ks gs y v ok js hs z u
    pub places : HavePlaces means.told js hs u
    pub longer : IsNoShorter means.told v u
    pub any_moment : PlayEnds ok precheck ks gs y v js hs z u

  abbrev pub HaltsOn : ℕ → Bool → List Client → List RegionState → SystemState → Vaulted V → List RegionState → SystemState → Vaulted V → Type 0
  HaltsOn upto precheck ks gs y v hs z u =
      (s : Start) (p : Point) (bs : List Told) (h : Halting means 0 precheck s p bs ks gs y v)
      → (j : Halting means upto precheck s p bs ks hs z u) × (steps : List StoreStep) × IsPointCourse h.to steps j.to × Within means.told means.moment means.left_since v u (LeavesBetween s h.to j.to)

  abbrev pub HaltsEnd : Bool → List Client → List RegionState → SystemState → Vaulted V → List RegionState → SystemState → Vaulted V → Type 0
  HaltsEnd precheck ks gs y v hs z u =
      (s : Start) (p : Point) (bs : List Told) (h : Halting means 0 precheck s p bs ks gs y v) → EndsRight means.told means.moment means.left_since s h.to v hs z u

  abbrev pub PlayLeaves : Bool → List Client → List RegionState → SystemState → Vaulted V → List RegionState → SystemState → Vaulted V → Type 0
  PlayLeaves precheck ks gs y v hs z u =
      (s : Start) (p : Point) (bs : List Told) (f : Played means true precheck s p bs ks gs y v) → EndsRight means.told means.moment means.left_since s f.to v hs z u

  abbrev pub RoundLeavesRight : List RegionState → SystemState → Vaulted V → List RegionState → SystemState → Vaulted V → Type 0
  RoundLeavesRight gs y v hs z u =
      (s : Start) (B : List (List Record)) (p : Point) → BeginsAt means s B p gs y v → EndsRight means.told means.moment means.left_since s p v hs z u
