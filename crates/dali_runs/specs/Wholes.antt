-- A whole core: what its regions and its table say of each other.
--     latched_in o             the region that the row names as still latched, if there is one
--     AreOfKind s us           each of these undos is on a region of its kind
--     IsWhole c                the core has the regions of its system's sizes; each undo of the table is on a region of its kind. Each dead hold
--                              is on the region that its transaction's row names, and the region that the row of a dead transaction names has
--                              its dead hold. Each hold that isn't dead is of a transaction that is alive
--     WholeKeeps, WholeCourseKeeps   each step, and each list of steps, keeps it so
--     LoadIsWhole              a core that was just made is whole
--     owner_of x               whose record it is: a solo is its parent's
--     logs_as o x              what a transaction logs whose row has this state: a dead one nothing, one that is claimed what it takes back and
--                              its end, a committed one solos and its end; one without a row begins
--     WhoLogs                  so it is of each record that a step logs
use Rattle.std.specs.Prelude.{◌≡◌, ℕ, Bool, true, false, not, List, [], ◌∷◌, ◌++◌, Option, Some, None, ⊤, length}
use Rattle.std.specs.List.{list_all}
use Rattle.dali_geometry.specs.Sizes.{Sizes}
use Rattle.dali_geometry.specs.Places.{regions}
use Rattle.dali_record.specs.declared.operations.Pending.{Pending}
use Rattle.dali_record.specs.declared.records.Record.{Record}
use Rattle.dali_record.specs.declared.records.Record.TheVariants.{Begin, Forward, Done, Commit, Ended, Solo, Back}
use Rattle.dali_record.specs.Operations.{undo_op}
use Rattle.dali_record.specs.Legal.{Rules, on_kind}
use Rattle.dali_region.specs.declared.Hold.{Hold}
use Rattle.dali_att.specs.declared.state.State.{State}
use Rattle.dali_att.specs.declared.state.State.TheVariants.{Live, Dead, Cleaning, Committed}
use Rattle.dali_runs.specs.State.{TxnRow, VaultState, CoreState, row_of, state_of, hold_of}
use Rattle.dali_runs.specs.Run.{Bases, RunsOn, no_image}
use Rattle.dali_runs.specs.Regions.{is_alive}
use Rattle.dali_runs.specs.Loads.{new_core}
use Rattle.dali_runs.specs.Courses.{Step, IsStep, Moment, IsCourse, RunsAt}

abbrev pub latched_in : Option State → Option ℕ
latched_in (Some (Dead latched)) = latched
latched_in (Some (Cleaning latched)) = latched
latched_in _ = None

abbrev pub is_of_kind : Sizes → Pending → Bool
is_of_kind s p = on_kind s p.region (undo_op p.undo)

abbrev pub AreOfKind : Sizes → Option TxnRow → Type 0
AreOfKind s None = ⊤
AreOfKind s (Some row) = list_all (is_of_kind s) row.undos ≡ true

pub record IsWhole (c : CoreState) : Type 0 where
  pub regions : length c.regions ≡ regions c.system.sizes
  pub undos : (t : ℕ) → AreOfKind c.system.sizes (row_of c.system t)
  pub dead : (r : ℕ) (h : Hold) → hold_of c r ≡ Some h → h.dead ≡ true → latched_in (state_of c.system h.txn) ≡ Some r
  pub named : (t r : ℕ) → state_of c.system t ≡ Some (Dead (Some r)) → (h : Hold) × (hold_of c r ≡ Some h) × (h.txn ≡ t) × (h.dead ≡ true)
  pub live : (r : ℕ) (h : Hold) → hold_of c r ≡ Some h → h.dead ≡ false → is_alive (state_of c.system h.txn) ≡ true

abbrev pub WholeKeeps : Type 0
WholeKeeps =
    (bases : Bases) (L M : List Record) (c d : CoreState) (x : Step) → RunsOn bases L c → IsWhole c
    → IsStep L c x M d
    → IsWhole d

abbrev pub WholeCourseKeeps : Type 0
WholeCourseKeeps =
    (bases : Bases) (before : List Record) (m n : Moment) (xs : List Step) → RunsAt bases before no_image m → IsWhole m.core
    → IsCourse m xs n
    → IsWhole n.core

abbrev pub LoadIsWhole : Type 0
LoadIsWhole = (s : Sizes) (base : List (List ℕ)) (g : Rules) (limit : ℕ) (v : VaultState) → length base ≡ regions s → IsWhole (new_core s base g limit v)

-- ---- who logs
abbrev pub owner_of : Record → Option ℕ
owner_of (Begin t) = Some t
owner_of (Forward t b) = Some t
owner_of (Done t k a) = Some t
owner_of (Commit t) = Some t
owner_of (Ended t) = Some t
owner_of (Solo t p b) = Some p
owner_of (Back t b) = Some t
owner_of _ = None

abbrev pub is_begin : Record → Bool
is_begin (Begin t) = true
is_begin _ = false

abbrev pub is_back_or_end : Record → Bool
is_back_or_end (Back t b) = true
is_back_or_end (Ended t) = true
is_back_or_end _ = false

abbrev pub is_solo_or_end : Record → Bool
is_solo_or_end (Solo t p b) = true
is_solo_or_end (Ended t) = true
is_solo_or_end _ = false

abbrev pub is_solo_or_begin : Record → Bool
is_solo_or_begin (Solo t p b) = true
is_solo_or_begin (Begin t) = true
is_solo_or_begin _ = false

abbrev pub logs_as : Option State → Record → Bool
logs_as None x = is_begin x
logs_as (Some Live) x = not (is_solo_or_begin x)
logs_as (Some (Dead latched)) x = false
logs_as (Some (Cleaning latched)) x = is_back_or_end x
logs_as (Some Committed) x = is_solo_or_end x

abbrev pub WhoLogs : Type 0
WhoLogs =
    (bases : Bases) (L M : List Record) (c d : CoreState) (x : Step) (r : Record) (t : ℕ) → RunsOn bases L c
    → IsStep L c x M d → M ≡ L ++ r ∷ [] → owner_of r ≡ Some t
    → logs_as (state_of c.system t) r ≡ true
