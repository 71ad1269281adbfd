-- The counts' part of a run by itself.
--     EndsWithin L x           an audit that ends clean began within the log
--     CountsLog                a record that the rules allow keeps it
use Rattle.std.specs.Prelude.{◌≡◌, ◌+◌, ◌≤◌, false, ⊤, List, [], ◌∷◌, ◌++◌, IsSome}
use Rattle.dali_geometry.specs.Sizes.{Sizes}
use Rattle.dali_record.specs.declared.records.Record.{Record}
use Rattle.dali_record.specs.declared.records.Record.TheVariants.{AuditClean}
use Rattle.dali_record.specs.Epochs.{separates, last_epoch, next_number}
use Rattle.dali_record.specs.Spelling.{record_length}
use Rattle.dali_record.specs.Legal.{rules_state}
use Rattle.dali_runs.specs.Counts.Counts.{next_with}
use Rattle.dali_runs.specs.State.{SystemState}
use Rattle.dali_runs.specs.Run.{CountRun}
use Rattle.dali_runs.specs.Parts.Tables.{IsAllowed}

abbrev pub EndsWithin : List Record → Record → Type 0
EndsWithin L (AuditClean b) = b ≤ next_number (last_epoch L)
EndsWithin L x = ⊤

-- z is the system behind the record
abbrev pub CountsLog : Type 0
CountsLog =
    (s : Sizes) (L : List Record) (x : Record) (y z : SystemState) → CountRun s L y
    → separates x ≡ false → IsSome (rules_state s (L ++ x ∷ [])) → IsAllowed s L x → EndsWithin L x
    → z.records ≡ y.records + 1 → z.end ≡ y.end + record_length x → z.next ≡ next_with x y.next → z.limit ≡ y.limit
    → CountRun s (L ++ x ∷ []) z
