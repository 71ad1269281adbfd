-- The log that bytes spell: batches of whole records, of which the first holds the format alone; or the first place that is bad.
--     body_bytes rs           records, spelled one behind the other
--     bodies L                the bodies of batches of records
--     HasFormat L             the first batch holds the one record Format
--     IsFront bytes L p       up to place p the bytes are these batches
--     LogOf bytes L e         the bytes are a log of these batches, which ends at e
--     NoRecordAt body at      whole records up to this place of a body, and there begins none
--     HasNoFormat body        the body isn't the spelling of one Format
--     IsBadFirst bytes at     the log's first batch isn't that of one Format: the first bad place in it
--     BadBody L body at       the body of the batch behind L is bad at this place of it
--     BadAt bytes at          the bytes are no log: the first bad place
--     IsRun bytes p L q       from place p up to place q the bytes are these batches
--     TailOf bytes p L e      from place p on the bytes are these batches, and the log ends at e
--     BadBehind bytes p L at  behind these batches, which stand at place p, the log is bad: the first bad place
--     BadFrom bytes p at      so it is behind some
use Rattle.std.specs.Prelude.{◌<◌, ◌≡◌, ◌⊎◌, ℕ, ◌+◌, List, [], ◌∷◌, ◌++◌, length, take, drop, map, flat_map}
use Rattle.std.specs.List.{AllByRecursion}
use Rattle.dali_record.specs.declared.records.Record.{Record}
use Rattle.dali_record.specs.declared.records.Record.TheVariants.{Format}
use Rattle.dali_record.specs.Spelling.{spelling, CanBeSpelled, Begins}
use Rattle.dali_log.specs.Batch.{batches, IsBody, IsClosedAt, IsUnformatted}
use Rattle.dali_log.specs.Finding.{BatchAt, IsBad}

abbrev pub body_bytes : List Record → List ℕ
body_bytes rs = flat_map spelling rs

abbrev pub AreSpelled : List Record → Type 0
AreSpelled rs = AllByRecursion CanBeSpelled rs

abbrev pub bodies : List (List Record) → List (List ℕ)
bodies L = map body_bytes L

-- the records of all batches
abbrev pub records_in : List (List Record) → List Record
records_in L = flat_map (λ rs. rs) L

abbrev pub HasFormat : List (List Record) → Type 0
HasFormat L = (index heap : ℕ) × (rest : List (List Record)) × (L ≡ (Format index heap ∷ []) ∷ rest)

pub record IsFront (bytes : List ℕ) (L : List (List Record)) (p : ℕ) : Type 0 where
  pub place : p ≡ length (batches (bodies L))
  pub spells : take p bytes ≡ batches (bodies L)
  pub sizes : AllByRecursion IsBody (bodies L)
  pub each : AllByRecursion AreSpelled L
  pub first : (L ≡ []) ⊎ HasFormat L

pub record LogOf (bytes : List ℕ) (L : List (List Record)) (e : ℕ) : Type 0 where
  pub front : IsFront bytes L e
  pub format : HasFormat L
  pub closed : IsClosedAt e bytes

abbrev pub NoRecordAt : List ℕ → ℕ → Type 0
NoRecordAt body at = (rs : List Record) × (rest : List ℕ) × AreSpelled rs × (body ≡ body_bytes rs ++ rest) × (at ≡ length (body_bytes rs)) × (0 < length rest) × ((r : Record) → Begins rest r → ⊥)

abbrev pub HasNoFormat : List ℕ → Type 0
HasNoFormat body = (index heap : ℕ) → CanBeSpelled (Format index heap) → body ≡ spelling (Format index heap) → ⊥

pub record IsBadFirst (bytes : List ℕ) (at : ℕ) : Type 0 where
  pub formatted : IsUnformatted bytes → ⊥
  pub bad : IsBad bytes 0 at ⊎ ((body : List ℕ) × BatchAt bytes 0 body × HasNoFormat body × (at ≡ 5))

-- the first batch is bad at its first byte, whatever else than one Format it holds
abbrev pub BadBody : List (List Record) → List ℕ → ℕ → Type 0
BadBody [] body at = HasNoFormat body × (at ≡ 0)
BadBody (rs ∷ L) body at = NoRecordAt body at

pub record BadAt (bytes : List ℕ) (at : ℕ) : Type 0 where
  pub formatted : IsUnformatted bytes → ⊥
  pub front : List (List Record)
  pub place : ℕ
  pub good : IsFront bytes front place
  pub bad : IsBad bytes place at ⊎ ((body : List ℕ) × (within : ℕ) × BatchAt bytes place body × BadBody front body within × (at ≡ place + 5 + within))

-- ---- a log from a place
pub record IsRun (bytes : List ℕ) (p : ℕ) (L : List (List Record)) (q : ℕ) : Type 0 where
  pub place : q ≡ p + length (batches (bodies L))
  pub spells : take (length (batches (bodies L))) (drop p bytes) ≡ batches (bodies L)
  pub sizes : AllByRecursion IsBody (bodies L)
  pub each : AllByRecursion AreSpelled L

pub record TailOf (bytes : List ℕ) (p : ℕ) (L : List (List Record)) (e : ℕ) : Type 0 where
  pub run : IsRun bytes p L e
  pub closed : IsClosedAt e bytes

pub record BadBehind (bytes : List ℕ) (p : ℕ) (L : List (List Record)) (at : ℕ) : Type 0 where
  pub place : ℕ
  pub good : IsRun bytes p L place
  pub bad : IsBad bytes place at ⊎ ((body : List ℕ) × (within : ℕ) × BatchAt bytes place body × NoRecordAt body within × (at ≡ place + 5 + within))

abbrev pub BadFrom : List ℕ → ℕ → ℕ → Type 0
BadFrom bytes p at = (L : List (List Record)) × BadBehind bytes p L at
