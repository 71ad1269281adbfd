-- What is read of a log whose files' image fitted a front of it.
--     IsSpelledOut log s K F more    the bytes are the batches of the legal log K, which the image fitted, and more behind them
--     IsWholeLog s L F o             what is handed out is what the whole log says, and so are the numbers and the weight at its end
--     ReadsLegal                     so it is, the log's end is found, and no place of such a log is bad
--     ReadsHistory                   of a history these are exactly the records of the survivors, and the right lists
--     IsOneReading log s F bs e o    these batches, this end and this answer are the only ones, and the log is nowhere bad behind the image
--     OneReading                     so it is of each log that is read to an end
--     OneBadPlace                    behind an image a log is bad at one place, whichever comes first: bytes that spell nothing, or a record that fails
--     FindsLater                     where the damage of an epoch is found, no earlier epoch's was found before it
use Rattle.std.specs.Prelude.{◌≡◌, ◌⊎◌, ◌<◌, ◌≤◌, ◌+◌, ℕ, true, List, ◌++◌, Contains, length, sum_by}
use Rattle.std.specs.List.{list_all}
use Rattle.dali_geometry.specs.Sizes.{Sizes}
use Rattle.dali_record.specs.declared.records.Record.{Record}
use Rattle.dali_record.specs.Damage.{Damage}
use Rattle.dali_record.specs.Files.{Files, is_restarted_first, next_after}
use Rattle.dali_record.specs.Legal.{sizes_of}
use Rattle.dali_record.specs.Spelling.{record_length}
use Rattle.dali_history.specs.History.{IsHistory, RestartGives}
use Rattle.dali_log.specs.Log.{LogOf, TailOf}
use Rattle.dali_resume.specs.Again.{Outcome}
use Rattle.dali_resume.specs.Batches.{records_of, verdict_over}
use Rattle.dali_resume.specs.Onward.{HandedOut, IsResumed}
use Rattle.dali_recovery.specs.Laws.{FitsLegal, outcome_of}
use Rattle.dali_recovery.specs.Reload.Reading.{FailsAt, IsBadBehind, IsReloaded}
use Rattle.dali_recovery.specs.Reload.Scanning.{FindsDamage}
use Rattle.dali_recovery.specs.declared.reload.reading.Reloaded.{Reloaded}

pub record IsSpelledOut (log : List ℕ) (s : Sizes) (K : List Record) (F : Files) (more : List (List Record)) : Type 0 where
  pub fits : FitsLegal s K (records_of more) F
  pub first : list_all is_restarted_first more ≡ true
  pub end : ℕ
  pub spelled : LogOf log (fits.front.0 ++ more) end

pub record IsWholeLog (s : Sizes) (L : List Record) (F : Files) (o : Reloaded) : Type 0 where
  pub resumed : IsResumed s L F.first (outcome_of o.recovered)
  pub number : o.recovered.number ≡ length L
  pub next : o.recovered.next ≡ next_after L
  pub weight : F.weight + o.counts.bytes ≡ sum_by record_length L

abbrev pub ReadsLegal : Type 0
ReadsLegal =
    (log : List ℕ) (s : Sizes) (K : List Record) (F : Files) (more : List (List Record)) → (out : IsSpelledOut log s K F more)
    → ((o : Reloaded) → IsReloaded log s F o → (o.end ≡ out.end) × IsWholeLog s (K ++ records_of more) F o)
    × ((at : ℕ) → IsBadBehind log s F at ⊎ FailsAt log s F at → ⊥)

abbrev pub ReadsHistory : Type 0
ReadsHistory =
    (log : List ℕ) (K : List Record) (F : Files) (more : List (List Record)) (o : Reloaded) → IsSpelledOut log (sizes_of K) K F more → IsHistory (K ++ records_of more)
    → F.first < length (K ++ records_of more) → IsReloaded log (sizes_of K) F o
    → RestartGives (K ++ records_of more) o.recovered.regions.items o.recovered.rolled_back.items o.recovered.deleted.items

-- ---- any log
pub record IsOneReading (log : List ℕ) (s : Sizes) (F : Files) (bs : List (List Record)) (end : ℕ) (o : Outcome) : Type 0 where
  pub tail : (cs : List (List Record)) (e : ℕ) → TailOf log F.place cs e → (cs ≡ bs) × (e ≡ end)
  pub answer : (cs : List (List Record)) (e : ℕ) (p : Outcome) → TailOf log F.place cs e → verdict_over s F cs ≡ HandedOut p → p ≡ o
  pub good : (at : ℕ) → IsBadBehind log s F at ⊎ FailsAt log s F at → ⊥

abbrev pub OneReading : Type 0
OneReading =
    (log : List ℕ) (s : Sizes) (F : Files) (bs : List (List Record)) (end : ℕ) (o : Outcome) → TailOf log F.place bs end → verdict_over s F bs ≡ HandedOut o
    → IsOneReading log s F bs end o

abbrev pub OneBadPlace : Type 0
OneBadPlace =
    (log : List ℕ) (s : Sizes) (F : Files) (at bt : ℕ) → IsBadBehind log s F at ⊎ FailsAt log s F at → IsBadBehind log s F bt ⊎ FailsAt log s F bt
    → at ≡ bt

-- ---- passes
-- so each pass but the last finds a later epoch
abbrev pub FindsLater : Type 0
FindsLater =
    (log : List ℕ) (s : Sizes) (F : Files) (es : List Damage) (d : Damage) → FindsDamage log s F es d
    → (F.first ≤ d.first) × ((e : Damage) → Contains es e → e.first < d.first)
