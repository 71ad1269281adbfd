-- An image that stands behind the last Restarted, at the log's end.
--     behind_log               transaction 1 begins, and a restart rolls it back
--     behind_files             files of this log, whose image stands behind all of it
--     NobodyBehindTheEnd       they fit it, and the right image is handed out of them; but nobody is named, while 1 was rolled back
use Rattle.std.specs.Prelude.{◌≡◌, List, [], ◌∷◌}
use Rattle.dali_geometry.specs.Places.{formatted_image}
use Rattle.dali_record.specs.declared.records.Record.{Record}
use Rattle.dali_record.specs.declared.records.Record.TheVariants.{Format, Begin, Restarted}
use Rattle.dali_record.specs.Damage.{rolled_list}
use Rattle.dali_record.specs.Epochs.{last_epoch, recovered_epoch}
use Rattle.dali_record.specs.Files.{Files}
use Rattle.dali_record.specs.Legal.{IsLegal}
use Rattle.dali_history.specs.Recovered.{base_of}
use Rattle.dali_crash.specs.Fitting.{FitsWhole}
use Rattle.dali_resume.specs.Refused.{two}
use Rattle.dali_resume.specs.Onward.{HandedOut, verdict_of}

abbrev pub behind_log : List Record
behind_log = Format 1 1 ∷ Begin 1 ∷ Restarted (1 ∷ []) [] ∷ []

-- batches of 15, 5 + 9 and 5 + 17 bytes, in which the records have 10, 9 and 17
abbrev pub behind_files : Files
behind_files = record {
  batches = (Format 1 1 ∷ []) ∷ (Begin 1 ∷ []) ∷ (Restarted (1 ∷ []) [] ∷ []) ∷ [];
  gates = 1;
  number = 1;
  place = 51;
  first = 3;
  weight = 36;
  next = 2;
  image = formatted_image two;
  table = [];
}

pub record NobodyBehindTheEnd : Type 0 where
  pub legal : IsLegal behind_log
  pub fits : FitsWhole two (base_of two behind_log) behind_log behind_files (last_epoch behind_log)
  pub rolled_back : rolled_list (recovered_epoch behind_log) ≡ 1 ∷ []
  pub hands_out : verdict_of two behind_files behind_log ≡ HandedOut (record { image = formatted_image two; rolled = []; deleted = [] })
