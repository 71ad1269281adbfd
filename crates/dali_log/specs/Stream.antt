-- A reader that goes over a log record by record, from a place on. It holds the part of the file that it has read ahead.
--     Reading                 what contracts see of a reader
--     Covers r at size        so many bytes from this place stand in the part that the reader holds
--     IsWhole r               the reader's places are in order, and what is left of its batch stands in that part
--     IsWindow log r          the part is that of the log
--     IsWithin log start front done r        behind these batches the reader is in one whose records so far are done
--     IsReadFrom log start front done r      from the place start on the reader has handed out these batches, and of the next one these records
--     place_of start front done              the place of the next record
--     HandsOut log start front done given s  it hands out a record with its place, and goes on behind it
--     GoesOn log r given s    so it does, whatever it has handed out
--     EndsAt log r s          the log ends there, and the reader may go on at a place
--     IsBadFrom log r bad     the log is bad, this is the first bad place, and no record that wasn't handed out stands before it
--     Stays log r s           it goes on where it was
--     IsReadTo log r rs       these are the records that it has handed out, from the first batch of the file on
--     HasBatch log p size     a batch stands at this place, whose body has this size
--     Keeps old new           the reader's places are as before
use Rattle.std.specs.Prelude.{◌≡◌, ◌⊎◌, ◌<◌, ◌≤◌, ◌+◌, ◌^◌, ℕ, Bool, true, false, List, [], ◌∷◌, ◌++◌, length, take, drop}
use Rattle.dali_record.specs.declared.records.Record.{Record}
use Rattle.dali_log.specs.declared.reader.Placed.{Placed}
use Rattle.dali_log.specs.Batch.{batches}
use Rattle.dali_log.specs.Finding.{BatchAt}
use Rattle.dali_log.specs.Log.{body_bytes, bodies, AreSpelled, records_in, HasFormat, IsRun, TailOf, BadBehind}

pub record Reading : Type 0 where
  -- the part of the file that was read, and its place
  pub bytes : List ℕ
  pub from : ℕ
  -- the length of the file
  pub length : ℕ
  -- the place of the body of the batch that is being read, that of the next record in it, and its end
  pub body : ℕ
  pub at : ℕ
  pub end : ℕ

abbrev pub Covers : Reading → ℕ → ℕ → Type 0
Covers r at size = (r.from ≤ at) × (at + size ≤ r.from + length r.bytes)

pub record IsWhole (r : Reading) : Type 0 where
  pub small : r.length < 2 ^ 62
  pub inside : r.end ≤ r.length
  pub ordered : r.at ≤ r.end
  pub there : r.at < r.end → (r.from ≤ r.at) × (r.end ≤ r.from + length r.bytes)

pub record IsWindow (log : List ℕ) (r : Reading) : Type 0 where
  pub all : r.length ≡ length log
  pub part : r.bytes ≡ take (length r.bytes) (drop r.from log)
  pub within : r.from + length r.bytes ≤ length log

pub record IsWithin (log : List ℕ) (start : ℕ) (front : List (List Record)) (done : List Record) (r : Reading) : Type 0 where
  pub place : ℕ
  pub good : IsRun log start front place
  pub body : List ℕ
  pub batch : BatchAt log place body
  pub begun : r.body ≡ place + 5
  pub ends : r.end ≡ place + 5 + length body
  pub spelled : AreSpelled done
  pub reached : r.at ≡ place + 5 + length (body_bytes done)
  pub begins : (rest : List ℕ) × (body ≡ body_bytes done ++ rest)

pub record IsReadFrom (log : List ℕ) (start : ℕ) (front : List (List Record)) (done : List Record) (r : Reading) : Type 0 where
  pub window : IsWindow log r
  pub stands : ((r.at ≡ r.end) × IsRun log start front r.at × (done ≡ [])) ⊎ ((r.at < r.end) × IsWithin log start front done r)

abbrev pub place_of : ℕ → List (List Record) → List Record → ℕ
place_of start front done = start + length (batches (bodies front)) + 5 + length (body_bytes done)

abbrev pub is_first : List Record → Bool
is_first [] = true
is_first (r ∷ rs) = false

pub record HandsOut (log : List ℕ) (start : ℕ) (front : List (List Record)) (done : List Record) (given : Placed) (s : Reading) : Type 0 where
  pub at : given.at ≡ place_of start front done
  pub first : given.first ≡ is_first done
  pub goes : IsReadFrom log start front (done ++ given.entry ∷ []) s ⊎ IsReadFrom log start (front ++ (done ++ given.entry ∷ []) ∷ []) [] s

abbrev pub GoesOn : List ℕ → Reading → Placed → Reading → Type 0
GoesOn log r given s = (start : ℕ) (front : List (List Record)) (done : List Record) → IsReadFrom log start front done r → HandsOut log start front done given s

abbrev pub EndsAt : List ℕ → Reading → Reading → Type 0
EndsAt log r s = (start : ℕ) (front : List (List Record)) (done : List Record) → IsReadFrom log start front done r → (done ≡ []) × TailOf log start front s.at × IsWindow log s

abbrev pub IsBadFrom : List ℕ → Reading → ℕ → Type 0
IsBadFrom log r bad = (start : ℕ) (front : List (List Record)) (done : List Record) → IsReadFrom log start front done r → BadBehind log start front bad × (bad ≤ place_of start front done)

abbrev pub Stays : List ℕ → Reading → Reading → Type 0
Stays log r s = (start : ℕ) (front : List (List Record)) (done : List Record) → IsReadFrom log start front done r → IsReadFrom log start front done s

pub record IsReadTo (log : List ℕ) (r : Reading) (rs : List Record) : Type 0 where
  pub front : List (List Record)
  pub done : List Record
  pub format : HasFormat front
  pub read : IsReadFrom log 0 front done r
  pub records : rs ≡ records_in front ++ done

abbrev pub HasBatch : List ℕ → ℕ → ℕ → Type 0
HasBatch log p size = BatchAt log p (take size (drop (p + 5) log)) × (length (take size (drop (p + 5) log)) ≡ size)

pub record Keeps (old new : Reading) : Type 0 where
  pub body : new.body ≡ old.body
  pub at : new.at ≡ old.at
  pub ends : new.end ≡ old.end
  pub size : new.length ≡ old.length
