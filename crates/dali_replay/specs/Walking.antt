-- Logged calls made one after another on a map, up to one that doesn't get its answer.
--     Walk                   the map so far, and whether each call got its answer
--     start m                before the first call
--     then_walk w f          the walk w, and where each call got its answer, f from there
--     calls_made m cs        what the calls cs lead to from m
--     serial_made m ts L     the same of the logged calls of each transaction of ts, one transaction after another
use Rattle.std.specs.Prelude.{ℕ, Bool, true, false, if◌then◌else◌, List, Option, Some, None, fold}
use Rattle.dali_record.specs.declared.records.Call.{Call}
use Rattle.dali_record.specs.declared.records.Answer.{Answer}
use Rattle.dali_record.specs.declared.records.Record.{Record}
use Rattle.dali_record.specs.Log.{calls_of}
use Rattle.dali_history.specs.Serial.{Map, map_after}

pub record Walk : Type 0 where
  pub map : Map
  pub agrees : Bool

abbrev pub start : Map → Walk
start m = record { map = m; agrees = true }

abbrev pub then_walk : Walk → (Map → Walk) → Walk
then_walk w f = if w.agrees then f w.map else w

-- where the call isn't allowed the map stays
abbrev pub stepped : Map → Option Map → Walk
stepped m None = record { map = m; agrees = false }
stepped m (Some n) = record { map = n; agrees = true }

abbrev pub call_made : Map → Call × Answer → Walk
call_made m p = stepped m (map_after m p.0 p.1)

abbrev pub calls_made : Map → List (Call × Answer) → Walk
calls_made m cs = fold (λ w p. then_walk w (λ n. call_made n p)) (start m) cs

abbrev pub serial_made : Map → List ℕ → List Record → Walk
serial_made m ts L = fold (λ w t. then_walk w (λ n. calls_made n (calls_of t L))) (start m) ts
