-- What a committed transaction removed is freed for good, by a thread that has the core alone.
--     MayFree y t u            the undo u is a removal's, what frees it is on a region of its kind, and t has its key alone
--     MaySettle rs y t us      t is committed, and these of its removals may be freed on these regions
--     MayCommit L c t          t may call, and no number from the next one on was given
--     Commits L c t us d       one step logs its commit, and these removals are left to be freed
--     IsSoloOf t x             the record x frees something for t
--     IsCommitted L c t us     the log has t committed with these removals left; it has no region latched, and no number from the next one on was given
--     IsSettled L c t d        they were freed: so it has ended behind its solos
--     IsLeft L c t left d      some were freed, and these others are left
--     left_behind y z us       of the removals us those that are left, when the system y came to z: as many were freed as it gave numbers
--     settle_room n            for how many bytes memory is to be promised, that n removals are freed and the end logged without more
--     IsPromised s t n         the system runs, and memory for so many bytes is promised to t
--     AreFreed rs y t us left rs' z    of the removals us all but those left were freed, and steps of a core led to these regions and this system
--     Freed u g y t h z        what the undo u would put back was freed on the region g, and the block logged by the system y
use Rattle.std.specs.Prelude.{◌≡◌, false, ◌≤◌, ◌<◌, ◌+◌, ◌-◌, ◌*◌, ◌^◌, ℕ, true, List, [], ◌∷◌, ◌++◌, Some, None, drop, length}
use Rattle.std.specs.List.{AllByRecursion}
use Rattle.dali_geometry.specs.Places.{regions}
use Rattle.dali_record.specs.declared.operations.Block.{Block}
use Rattle.dali_record.specs.declared.operations.Pending.{Pending}
use Rattle.dali_record.specs.declared.records.Record.{Record}
use Rattle.dali_record.specs.declared.records.Record.TheVariants.{Commit, Solo}
use Rattle.dali_record.specs.Blocks.{made}
use Rattle.dali_record.specs.Legal.{is_removal, freeing_op, on_kind}
use Rattle.dali_record.specs.Spelling.{IsUndo, IsBlock}
use Rattle.dali_region.specs.State.{RegionState, touched}
use Rattle.dali_att.specs.declared.state.State.TheVariants.{Committed}
use Rattle.dali_att.specs.Table.{undos_at}
use Rattle.dali_runs.specs.State.{SystemState, VaultState, CoreState, state_of, lock_of}
use Rattle.dali_runs.specs.Run.{covers}
use Rattle.dali_runs.specs.Steps.{solo_logged}
use Rattle.dali_runs.specs.Keeps.{IsFree}
use Rattle.dali_runs.specs.Regions.{RegionStep, IsOpen}
use Rattle.dali_runs.specs.Courses.{Step, Commits as CommitsStep, IsStep}
use Rattle.dali_system.specs.Promised.{promised_to}
use Rattle.dali_system.specs.Served.{Served, solo_room}
use Rattle.dali_runs.specs.Facts.Ends.{IsUnbegun, IsEnding}
use Rattle.dali_calls.specs.Operating.{Goes}
use Rattle.dali_calls.specs.Others.{HoldsClear}
use Rattle.dali_calls.specs.Single.Stands.{core}
use Rattle.dali_calls.specs.Single.Single.{Leads, OthersStay, MayCall}
use Rattle.dali_calls.specs.Single.Ending.{HasEnded}

pub record MayFree (y : SystemState) (t : ℕ) (u : Pending) : Type 0 where
  pub removal : is_removal u.undo ≡ true
  pub spelled : IsUndo u.undo
  pub kind : on_kind y.sizes u.region (freeing_op u.undo) ≡ true
  pub lock : covers (lock_of y t u.key) true ≡ true

pub record MaySettle (rs : List RegionState) (y : SystemState) (t : ℕ) (us : List Pending) : Type 0 where
  pub whole : length rs ≡ regions y.sizes
  pub may : AllByRecursion (MayFree y t) us
  pub committed : state_of y t ≡ Some Committed

abbrev pub IsSoloOf : ℕ → Record → Type 0
IsSoloOf t (Solo n p b) = p ≡ t
IsSoloOf t x = ⊥

pub record IsCommitted (L : List Record) (c : CoreState) (t : ℕ) (us : List Pending) : Type 0 where
  pub ending : IsEnding c.system.sizes L t us
  pub free : IsFree c t
  pub unbegun : (n : ℕ) → c.system.next ≤ n → IsUnbegun c.system.sizes L n

pub record MayCommit (L : List Record) (c : CoreState) (t : ℕ) : Type 0 where
  pub may : MayCall L c t
  pub undos : undos_at c.system.table t ≡ may.working.undos
  pub unbegun : (n : ℕ) → c.system.next ≤ n → IsUnbegun c.system.sizes L n

pub record Commits (L : List Record) (c : CoreState) (t : ℕ) (us : List Pending) (d : CoreState) : Type 0 where
  pub step : IsStep L c (CommitsStep t) (L ++ Commit t ∷ []) d
  pub is : IsCommitted (L ++ Commit t ∷ []) d t us

abbrev pub IsSettled : List Record → CoreState → ℕ → CoreState → Type 0
IsSettled L c t d = HasEnded (IsSoloOf t) L c t d

pub record IsLeft (L : List Record) (c : CoreState) (t : ℕ) (left : List Pending) (d : CoreState) : Type 0 where
  pub log : List Record
  pub steps : List Step
  pub leads : Leads false t L c steps log d
  pub own : List Record
  pub logged : log ≡ L ++ own
  pub solos : AllByRecursion (IsSoloOf t) own
  pub at : IsCommitted log d t left

-- each solo takes a number
abbrev pub left_behind : SystemState → SystemState → List Pending → List Pending
left_behind y z us = drop (z.next - y.next) us

pub record Freed (u : Pending) (g : RegionState) (y : SystemState) (t : ℕ) (h : RegionState) (z : SystemState) : Type 0 where
  pub block : Block
  pub made_on : block ≡ made g.words u.key u.region (freeing_op u.undo)
  pub spelled : IsBlock block
  pub opened : RegionState
  pub steps : List RegionStep
  pub goes : Goes t g steps opened
  pub is_open : IsOpen opened t block
  pub region : h ≡ touched opened
  pub runs : y.stop ≡ None
  -- the number that its record gets
  pub fits : y.next < 2 ^ 64
  pub system : z ≡ solo_logged y t block

-- the longest solo has solo_room bytes, and an end has 9
abbrev pub settle_room : ℕ → ℕ
settle_room n = 9 + n * solo_room

pub record IsPromised (s : Served) (t n : ℕ) : Type 0 where
  pub runs : s.state.stop ≡ None
  pub enough : n ≤ promised_to s.promised t

pub record AreFreed (rs : List RegionState) (y : SystemState) (t : ℕ) (us left : List Pending) (rs' : List RegionState) (z : SystemState) : Type 0 where
  pub whole : length rs' ≡ regions z.sizes
  pub sizes : z.sizes ≡ y.sizes
  pub may : AllByRecursion (MayFree z t) left
  pub state : state_of z t ≡ Some Committed
  pub others : OthersStay y t z
  pub holds : HoldsClear rs rs'
  pub leads : (L : List Record) (v : VaultState) → IsCommitted L (core rs y v) t us → IsLeft L (core rs y v) t left (core rs' z v)
