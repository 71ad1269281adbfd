-- A client's death in an operation, and what it left on a region: what is told, and what a client knows.
--     dies_item, recovered_item, gives_item    what each step tells
--     HasDied t r              the client of t died in an operation on the region r, which has its dead hold
--     IsIdle t                 no region has a live hold of t
--     NoneLeft t               nor has one a dead hold of it
--     left_in t o, is_left t g     the hold o is a dead one of t;  the region g has one
use Rattle.std.specs.Prelude.{◌≡◌, ◌==◌, ◌&&◌, ◌<◌, ℕ, Bool, false, [], ◌∷◌, Option, Some, None}
use Rattle.dali_region.specs.declared.Hold.{Hold}
use Rattle.dali_region.specs.State.{RegionState}
use Rattle.dali_att.specs.declared.state.State.TheVariants.{Dead}
use Rattle.dali_runs.specs.State.{SystemState}
use Rattle.dali_runs.specs.Courses.{Dies, Recovers, GivesBack as GivesItBack}
use Rattle.dali_crash.specs.Checkpoints.{Does}
use Rattle.dali_transcripts.specs.World.{DiesOn, GivesBack}
use Rattle.dali_concurrent.specs.Entries.{Did, Freed}
use Rattle.dali_concurrent.specs.Rules.{Outset, count_of, state_by, dead_by, NoneLive}
use Rattle.dali_concurrent.specs.Told.{OnRegion, OnSystem, OnBoth, Item, History, plain}

-- ---- what is told
abbrev pub dies_item : (client region txn : ℕ) → RegionState → SystemState → Item
dies_item c r t h z = (Did (DiesOn t r) c, OnBoth r h z, Does (Dies t (Some r)) ∷ [])

abbrev pub recovered_item : (client region : ℕ) → RegionState → Item
recovered_item c r h = (Freed r c, OnRegion r h, Does (Recovers r) ∷ [])

abbrev pub gives_item : (client region txn : ℕ) → SystemState → Item
gives_item c r t z = (Did (GivesBack t (Some r)) c, OnSystem z, Does (GivesItBack t (Some r)) ∷ [])

-- ---- what is known
pub record HasDied (t r : ℕ) (o : Outset) (T : History) : Type 0 where
  pub state : state_by o (plain T) t ≡ Some (Dead (Some r))
  pub left : dead_by o r (plain T) ≡ Some t

abbrev pub IsIdle : ℕ → Outset → History → Type 0
IsIdle t o T = NoneLive (plain T) t

abbrev pub NoneLeft : ℕ → Outset → History → Type 0
NoneLeft t o T = (r : ℕ) → r < count_of o → dead_by o r (plain T) ≡ Some t → ⊥

-- ---- what a dead client left
abbrev pub left_in : ℕ → Option Hold → Bool
left_in t None = false
left_in t (Some h) = h.dead && (h.txn == t)

abbrev pub is_left : ℕ → RegionState → Bool
is_left t g = left_in t g.hold
