-- When an engine's memory is what a plain replay of its whole log comes to.
--     Spell bytes L            the bytes are the spellings of the records L, one behind the other
--     IsInFile bytes L         L are the records of the log in these bytes: none where it is unformatted
--     IsWholeLog bytes y L     L are these, and behind them those that the system y has logged and not yet flushed
--     told_deleted L           the deleted lists of all restarts of L, one behind the other
--     HoldsJust s image m      the records that the image stores are those of the map m
--     IsVerified s image L     each logged answer is that of the replay, the image stores just its records, and the restarts told the transactions that a
--                              chain deletes, ascending
use Rattle.std.specs.Prelude.{◌≡◌, ◌⊎◌, ◌↔◌, ℕ, List, [], ◌++◌, Some, Contains, drop, flat_map}
use Rattle.std.specs.List.Sorted.{IsStrictlyIncreasing}
use Rattle.dali_geometry.specs.Sizes.{Sizes}
use Rattle.dali_access.specs.Index.Records.{records}
use Rattle.dali_record.specs.declared.records.Record.{Record}
use Rattle.dali_record.specs.declared.records.Record.TheVariants.{Restarted}
use Rattle.dali_history.specs.Serial.{Map, expected}
use Rattle.dali_history.specs.Acknowledged.{IsDeletedByChain}
use Rattle.dali_log.specs.Batch.{IsUnformatted}
use Rattle.dali_log.specs.Log.{AreSpelled, body_bytes, LogOf, records_in}
use Rattle.dali_runs.specs.State.{SystemState}

-- ---- the log
abbrev pub Spell : List ℕ → List Record → Type 0
Spell bytes L = AreSpelled L × (bytes ≡ body_bytes L)

abbrev pub IsInFile : List ℕ → List Record → Type 0
IsInFile bytes L = (IsUnformatted bytes × (L ≡ [])) ⊎ ((B : List (List Record)) × (e : ℕ) × LogOf bytes B e × (L ≡ records_in B))

-- the records that wait are known by what they spell
pub record IsWholeLog (bytes : List ℕ) (y : SystemState) (L : List Record) : Type 0 where
  pub flushed : List Record
  pub waiting : List Record
  pub file : IsInFile bytes flushed
  pub spelled : Spell (body_bytes (drop y.taken y.since)) waiting
  pub all : L ≡ flushed ++ waiting

-- ---- the comparison
abbrev pub deleted_in : Record → List ℕ
deleted_in (Restarted rolled deleted) = deleted
deleted_in _ = []

abbrev pub told_deleted : List Record → List ℕ
told_deleted L = flat_map deleted_in L

-- a key with two values is in no map
abbrev pub HoldsJust : Sizes → List (List ℕ) → Map → Type 0
HoldsJust s image m = (k : ℕ) (v : List ℕ) → Contains (records s image) (k, v) ↔ (m k ≡ Some v)

pub record IsVerified (s : Sizes) (image : List (List ℕ)) (L : List Record) : Type 0 where
  pub map : Map
  pub answers : expected L ≡ Some map
  pub records : HoldsJust s image map
  pub deleted : (t : ℕ) → Contains (told_deleted L) t ↔ IsDeletedByChain L t
  pub ascends : IsStrictlyIncreasing (told_deleted L)
