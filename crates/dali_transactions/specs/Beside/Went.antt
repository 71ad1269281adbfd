-- Where a core stands behind steps of one client, and what they leave of the others.
--     is_calm x                the step x calls no store, takes no frame, and is none of a checkpoint
--     is_open o                a row of a transaction that is live or committed
--     Went t own s B p gs hs z v       such steps lead from the point p, with the regions gs, to one where the core stands with these regions and this system, and
--                              the vault as it was. Behind the log stand these records; and each transaction but t that is live or committed is left where it was
--     CourseGoes               so it is of each list of such steps that leaves no live hold
--     AreBetween gs y v        some run has come to a point where the core stands, and the rules of its log have each live transaction between two calls
--     BetweenEach              so each of these may commit
--     BetweenGoes              it stays so behind steps of one client that leave its transaction between two calls, or not live, and begin no other
use Rattle.std.specs.Prelude.{◌≡◌, ◌==◌, ℕ, Bool, true, false, List, ◌++◌, Option, Some, IfSome, map}
use Rattle.std.specs.List.{list_all}
use Rattle.dali_record.specs.declared.records.Record.{Record}
use Rattle.dali_region.specs.State.{RegionState}
use Rattle.dali_att.specs.declared.state.State.{State as RowState}
use Rattle.dali_att.specs.declared.state.State.TheVariants.{Live, Committed}
use Rattle.dali_store.specs.Store.{Files as Disk}
use Rattle.dali_store.specs.declared.store.Store.{Ghosts}
use Rattle.dali_runs.specs.State.{SystemState, state_of}
use Rattle.dali_runs.specs.Passes.{Audits}
use Rattle.dali_runs.specs.Courses.{Step, Takes, IsCourse}
use Rattle.dali_crash.specs.Checkpoints.{Point, Does, IsPointCourse, moment_of}
use Rattle.dali_crash.specs.Traces.{Start}
use Rattle.dali_core.specs.Vault.Vaulted.{Vaulted}
use Rattle.dali_core.specs.Steps.Courses.{is_quiet}
use Rattle.dali_core.specs.Steps.Called.{KeepsImage}
use Rattle.dali_calls.specs.Others.{is_apart}
use Rattle.dali_calls.specs.Single.Single.{MayCall}
use Rattle.dali_clean.specs.Cleaned.{moment, AreDead}
use Rattle.dali_calls.specs.Stepwise.Beside.{LeavesBe}
use Rattle.dali_core.specs.Cores.{HoldsPlaces, IsWholeCore}
use Rattle.dali_transactions.specs.Stands.{StandsAt, IsUp, IsBetween}

abbrev pub is_calm : Step → Bool
is_calm Takes = false
is_calm x = is_quiet x

abbrev pub is_open : Option RowState → Bool
is_open (Some Live) = true
is_open (Some Committed) = true
is_open o = false

module _ {V : Type 0} (means : Ghosts V) where
  pub record Went (t : ℕ) (own : List Record) (s : Start) (B : List (List Record)) (p : Point) (gs hs : List RegionState) (z : SystemState) (v : Vaulted V) : Type 0 where
    pub to : Point
    pub steps : List Step
    pub calm : list_all is_calm steps ≡ true
    pub course : IsPointCourse p (map Does steps) to
    pub log : to.log ≡ p.log ++ own
    pub stands : StandsAt means s B to hs z v
    pub keeps : KeepsImage means p to v.store v.store
    pub others : (u : ℕ) → (t == u) ≡ false → is_open (state_of p.core.system u) ≡ true → LeavesBe u p.log p.core to.log to.core
    -- the image files have the place of each region whose flag is clear
    pub places : IfSome (means.told v.store) (HoldsPlaces gs) → IfSome (means.told v.store) (HoldsPlaces hs)
    pub whole : IsWholeCore means.told gs p.core.system v → IsWholeCore means.told hs z v

  abbrev pub CourseGoes : Type 0
  CourseGoes =
      (t : ℕ) (own : List Record) (s : Start) (B : List (List Record)) (p : Point) (gs hs : List RegionState) (y z : SystemState) (v : Vaulted V) (a : Audits) (steps : List Step)
      → StandsAt means s B p gs y v → list_all is_calm steps ≡ true → AreDead hs
      → IsCourse (moment_of p) steps (moment hs z (p.log ++ own) p.core.vault a)
      → ((u : ℕ) → (t == u) ≡ false → is_open (state_of y u) ≡ true → list_all (is_apart u) steps ≡ true)
      → Went t own s B p gs hs z v

  -- ---- a core between the calls of its clients
  pub record AreBetween (gs : List RegionState) (y : SystemState) (v : Vaulted V) : Type 0 where
    pub up : IsUp means gs y v
    pub each : (t : ℕ) → state_of y t ≡ Some Live → MayCall up.point.log up.point.core t

  abbrev pub BetweenEach : Type 0
  BetweenEach = (gs : List RegionState) (y : SystemState) (v : Vaulted V) → AreBetween gs y v → (t : ℕ) → state_of y t ≡ Some Live → IsBetween means gs y v t

  abbrev pub BetweenGoes : Type 0
  BetweenGoes =
      (t : ℕ) (own : List Record) (gs hs : List RegionState) (y z : SystemState) (v : Vaulted V) (b : AreBetween gs y v) (w : Went t own b.up.start b.up.batches b.up.point gs hs z v)
      → (state_of z t ≡ Some Live → MayCall w.to.log w.to.core t) → ((u : ℕ) → (t == u) ≡ false → state_of z u ≡ Some Live → state_of y u ≡ Some Live)
      → AreBetween hs z v
