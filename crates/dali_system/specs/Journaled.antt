-- What the system keeps of the log.
--     Journaled                the records since the load, how many of them were taken to be flushed, and for how many bytes of records of which
--                              transaction memory is promised
--     waiting j                those that aren't taken
--     noted_by j x u           with one record more, which uses u
--     noted j x                which uses nothing; noted_from j x t n    n of the bytes promised to t; noted_last j x t      all of them
--     HasMemory n all f                there is memory for n bytes more in the frame, and all records together may have as many more
--     IsKept L f count taken all       what is true of every journal
use Rattle.std.specs.Prelude.{◌≡◌, ℕ, ◌+◌, ◌≤◌, ◌^◌, List, [], ◌∷◌, ◌++◌, length, drop}
use Rattle.dali_record.specs.declared.records.Record.{Record}
use Rattle.dali_log.specs.Log.{body_bytes}
use Rattle.dali_log.specs.Batch.{Framed}
use Rattle.std.specs.FinMap.{remove}
use Rattle.dali_system.specs.declared.promises.Uses.{Uses}
use Rattle.dali_system.specs.Promised.{Promised, used, behind}

pub record Journaled : Type 0 where
  pub since : List Record
  pub taken : ℕ
  pub promised : Promised

abbrev pub waiting : Journaled → List Record
waiting j = drop j.taken j.since

abbrev pub noted_by : Journaled → Record → Uses → Journaled
noted_by j x u = record { since = j.since ++ x ∷ []; taken = j.taken; promised = behind j.promised u }

abbrev pub noted_from : Journaled → Record → ℕ → ℕ → Journaled
noted_from j x t n = record { since = j.since ++ x ∷ []; taken = j.taken; promised = used j.promised t n }

abbrev pub noted_last : Journaled → Record → ℕ → Journaled
noted_last j x t = record { since = j.since ++ x ∷ []; taken = j.taken; promised = remove j.promised t }

abbrev pub noted : Journaled → Record → Journaled
noted j x = record { since = j.since ++ x ∷ []; taken = j.taken; promised = j.promised }

-- within the limits of a frame and of all bytes
pub record HasMemory (n all : ℕ) (f : Framed) : Type 0 where
  pub frame : n ≤ f.room
  pub few : length f.body + n ≤ 2 ^ 30
  pub small : all + n ≤ 2 ^ 62

pub record IsKept (L : List Record) (f : Framed) (count taken all : ℕ) : Type 0 where
  pub counts : count ≡ length L
  pub within : taken ≤ length L
  pub frame : f.body ≡ body_bytes (drop taken L)
  pub records : f.records ≡ length (drop taken L)
  pub weighs : all ≡ length (body_bytes L)
  pub small : all ≤ 2 ^ 62

-- what follows of a journal: its records are as many as its bytes at most
pub record IsSmall (j : Journaled) : Type 0 where
  pub bytes : length (body_bytes j.since) ≤ 2 ^ 62
  pub records : length j.since ≤ 2 ^ 62
