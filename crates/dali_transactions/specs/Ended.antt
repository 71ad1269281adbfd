-- Steps of a core that end a transaction and call no store.
--     AreOfEnd t xs            the steps xs are t's own, and no end of a call or of t. What dead clients left open in the way is taken back among them,
--                              each under a claim of its transaction that is given back at once, or under the claim that another thread has on it
--     ends_of t last           the step that logs the end of t, where a last record is logged
--     Walked t own last m hs z     such steps, and t's end behind them where it is logged, lead from the moment m to these regions and this system; behind
--                              its log stand own records, and then these last ones
--     Walks t own last gs y hs z   so they do from each run that has come to these regions, of which none is latched for a client that is alive, and this system
--     HasCome t own last s B p v gs z      with a store they lead from the point p to one where the core stands with these regions and this system, and the
--                              vault as it was; none of them is one of another transaction that is alive
--     Comes t own last gs y v hs z         so they do wherever the core gs y v stands in a run
use Rattle.std.specs.Prelude.{◌≡◌, ◌==◌, ⊤, ℕ, true, false, List, [], ◌∷◌, ◌++◌, Option, None, map}
use Rattle.std.specs.List.{AllByRecursion}
use Rattle.dali_record.specs.declared.records.Record.{Record}
use Rattle.dali_region.specs.State.{RegionState}
use Rattle.dali_store.specs.Store.{Files as Disk}
use Rattle.dali_store.specs.declared.store.Store.{Ghosts}
use Rattle.dali_runs.specs.State.{SystemState, VaultState}
use Rattle.dali_runs.specs.Run.{Bases}
use Rattle.dali_runs.specs.Passes.{Audits}
use Rattle.dali_runs.specs.Courses.{Step, Operates, TakesBack, Frees, Ends, Locks, OnRegion, Claims, GivesBack, Recovers, Moment, IsCourse}
use Rattle.dali_crash.specs.Checkpoints.{Point, Does, IsPointCourse}
use Rattle.dali_crash.specs.Traces.{Start}
use Rattle.dali_core.specs.Vault.Vaulted.{Vaulted}
use Rattle.dali_core.specs.Steps.Called.{KeepsImage}
use Rattle.dali_clean.specs.Cleaned.{moment, AreDead, InRun}
use Rattle.dali_clean.specs.Steps.{is_own_change, AreBeside}
use Rattle.dali_transactions.specs.Stands.{StandsAt}

abbrev pub AreOfEnd : ℕ → List Step → Type 0
AreOfEnd t [] = ⊤
AreOfEnd t (OnRegion r x ∷ xs) = (is_own_change t x ≡ true) × AreOfEnd t xs
AreOfEnd t (Operates u b ∷ xs) = (u ≡ t) × AreOfEnd t xs
AreOfEnd t (TakesBack u b ∷ xs) = (u ≡ t) × AreOfEnd t xs
AreOfEnd t (Frees u b ∷ xs) = (u ≡ t) × AreOfEnd t xs
AreOfEnd t (Locks u k m ∷ xs) = (u ≡ t) × AreOfEnd t xs
AreOfEnd t (Claims u ∷ Recovers r ∷ GivesBack v o ∷ xs) = ((u == t) ≡ false) × (v ≡ u) × (o ≡ None) × AreOfEnd t xs
-- of a transaction that was claimed before
AreOfEnd t (Recovers r ∷ xs) = AreOfEnd t xs
AreOfEnd t (x ∷ xs) = ⊥

abbrev pub ends_of : ℕ → List Record → List Step
ends_of t [] = []
ends_of t (x ∷ xs) = Ends t ∷ []

pub record Walked (t : ℕ) (own : Record → Type 0) (last : List Record) (m : Moment) (hs : List RegionState) (z : SystemState) : Type 0 where
  pub log : List Record
  pub front : List Step
  pub by : AreOfEnd t front
  pub steps : List Step
  pub is : steps ≡ front ++ ends_of t last
  pub course : IsCourse m steps (moment hs z log m.core.vault m.audits)
  pub records : List Record
  pub are : AllByRecursion own records
  pub logged : log ≡ m.log ++ records ++ last

abbrev pub Walks : ℕ → (Record → Type 0) → List Record → List RegionState → SystemState → List RegionState → SystemState → Type 0
Walks t own last gs y hs z = (bases : Bases) (before L : List Record) (v : VaultState) (a : Audits) → InRun bases before (moment gs y L v a) → AreDead gs → Walked t own last (moment gs y L v a) hs z

module _ {V : Type 0} (means : Ghosts V) where
  pub record HasCome (t : ℕ) (own : Record → Type 0) (last : List Record) (s : Start) (B : List (List Record)) (p : Point) (v : Vaulted V) (gs : List RegionState) (z : SystemState) : Type 0 where
    pub to : Point
    pub front : List Step
    pub by : AreOfEnd t front
    pub steps : List Step
    pub is : steps ≡ front ++ ends_of t last
    pub beside : AreBeside t p.core.system steps
    pub course : IsPointCourse p (map Does steps) to
    pub records : List Record
    pub are : AllByRecursion own records
    pub log : to.log ≡ p.log ++ records ++ last
    pub stands : StandsAt means s B to gs z v
    pub keeps : KeepsImage means p to v.store v.store

  abbrev pub Comes : ℕ → (Record → Type 0) → List Record → List RegionState → SystemState → Vaulted V → List RegionState → SystemState → Type 0
  Comes t own last gs y v hs z = (s : Start) (B : List (List Record)) (p : Point) → StandsAt means s B p gs y v → HasCome t own last s B p v hs z
