-- The records of an epoch with their marks.
--     marks_of e               each with whether it is a corrupt block
--     kept_of e                those that are kept
use Rattle.std.specs.Prelude.{Bool, List}
use Rattle.dali_record.specs.declared.records.Record.{Record}
use Rattle.dali_record.specs.Epochs.{Epoch}
use Rattle.dali_record.specs.Damage.{damage_of, marks, kept}

abbrev pub marks_of : Epoch → List (Record × Bool)
marks_of e = marks (damage_of e) e.records

abbrev pub kept_of : Epoch → List Record
kept_of e = kept (marks_of e)
