-- The crash of the worked run with damage.
use Rattle.std.proofs.Common.{◌≡◌, true, false, [], refl, ap, arith}
use Rattle.dali_record.specs.declared.operations.Block.{Block}
use Rattle.dali_record.specs.declared.operations.Outcome.TheVariants.{Absent}
use Rattle.dali_record.specs.declared.records.Record.TheVariants.{Format}
use Rattle.dali_record.specs.Epochs.{last_epoch}
use Rattle.dali_record.specs.Settled.{IsSoundAt}
use Rattle.dali_record.specs.Legal.{passes, rules_start}
use Rattle.dali_geometry.specs.Places.{formatted_image}
use Rattle.dali_access.specs.Index.Entries.{entries}
use Rattle.dali_history.specs.Acknowledged.{IsDeletedByChain}
use Rattle.dali_runs.specs.Run.{log_in}
use Rattle.dali_runs.specs.Worked.{small, first_log, first_vault, damaged_look, damage, first_files}
use Rattle.dali_runs.proofs.Damage.{finish, crash, damage_trace, none_escapes}
use Rattle.dali_crash.specs.Damaged.{DamagedRun}
use Rattle.dali_crash.specs.Restarts.{RestartsRight}
use Rattle.dali_crash.proofs.Courses.{format_is_history}
use Rattle.dali_crash.proofs.Traces.{every_core_trace_is_right}
use Rattle.dali_runs.proofs.Worked.{first_store}

restarts : RestartsRight first_log finish.core crash
unfolding damaged_look entries
restarts =
    every_core_trace_is_right first_log (passes rules_start (Format 1 1)) 1000000 first_vault first_files (format_is_history small (refl, refl)) refl refl (omega arith) first_store refl
    damage finish crash damage_trace none_escapes

-- on the formatted words the look would have answered otherwise
is_unsound : IsSoundAt (formatted_image small) (last_epoch (log_in crash)).records 3 → ⊥
unfolding damaged_look entries
is_unsound sound = let same : Absent false ≡ Absent true = ap (λ (b : Block). b.outcome) sound in cc

is_deleted : IsDeletedByChain (log_in crash) 2
unfolding damaged_look entries
is_deleted = (last_epoch (log_in crash), (0, omega arith, refl), ((5, omega arith, refl), (3, record { txn = 2; owner = 2; block = damaged_look }, refl, refl, (3, [], (record { txn = 2; owner = 2; block = damaged_look }, refl, refl), refl))))

pub damaged_run : DamagedRun
unfolding damaged_look entries
damaged_run = record {
  finish = finish;
  crash = crash;
  trace = damage_trace;
  unsound = is_unsound;
  escapes = none_escapes;
  right = restarts;
  acknowledged = (1, omega arith, refl);
  survive = refl;
  deleted = is_deleted;
}
