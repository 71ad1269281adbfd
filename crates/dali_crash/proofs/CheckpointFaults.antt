-- Worked checkpoints that fail.
use Rattle.std.proofs.Common.{◌≡◌, true, false, [], ◌∷◌, ◌⊎◌, Some, None, refl, inl, inr, arith}
use Rattle.dali_record.specs.Files.{Files}
use Rattle.dali_region.specs.declared.Side.TheVariants.{A}
use Rattle.dali_region.specs.Answers.{cleaned}
use Rattle.dali_runs.specs.ImageSteps.{told_with}
use Rattle.dali_crash.specs.Checkpoints.{Point, Starts, Keeps, Copies, Skips, CopyFails, HeadFails, SyncFails, TurnFails, Finishes, target, head_with, synced_with, copies_with, copy_at, head_now, IsTurnedFrom, IsPointStep, with_fault, with_flag, Traced, Syncs}
use Rattle.dali_crash.specs.Checkpointed.{new_head, no_head, checkpoint_start}
use Rattle.dali_crash.specs.CheckpointFaults.{copy_fails, head_fails, sync_fails, turn_fails, WorkedFaults, starts_again}
use Rattle.dali_crash.proofs.Checkpointed.{m7, m8, m9, m10, m16, m17, index_region, heap_region, step_7, step_8, step_10, step_17, may, crash, copied, files_2, files_3, to_audit, to_end, to_flush, turned_3, right, audit_on}
use Rattle.dali_runs.specs.Worked.{first_files}

-- ---- a fault in a copy, behind a region that is skipped
abbrev skipped : Point
skipped = record m9 { copies = copies_with m9.copies (target m9) 0 (Some (copy_at 4)) }

skips : IsPointStep m9 (Skips 0 4) skipped
skips = (cleaned A index_region, refl, refl, refl, record { within = omega arith; none = refl }, refl)

abbrev torn : Point
torn = record skipped {
  core = (with_fault skipped.core 1);
  told = told_with skipped.told (target skipped) 1 (7 ∷ []);
  synced = synced_with skipped.synced (target skipped) false;
  copies = copies_with skipped.copies (target skipped) 1 None;
}

tears : IsPointStep skipped (CopyFails 1 (7 ∷ []) 1) torn
tears = (heap_region, refl, refl, record { may = record { runs = refl; under_way = refl }; rose = inl (omega arith) }, refl)

abbrev given_up : Point
given_up = record torn { core = (with_flag torn.core false); begun = None }

gives_up : IsPointStep torn Finishes given_up
gives_up = (refl, refl)

copy_trace : Traced checkpoint_start first_files copy_fails given_up files_2
copy_trace = to_flush (audit_on (Skips 0 4 ∷ CopyFails 1 (7 ∷ []) 1 ∷ Finishes ∷ [])) given_up files_2 (to_audit (Skips 0 4 ∷ CopyFails 1 (7 ∷ []) 1 ∷ Finishes ∷ []) given_up files_2 (skipped, files_2, skips, refl, (torn, files_2, tears, inl refl, (given_up, files_2, gives_up, refl, (refl, refl)))))

-- ---- in the head
abbrev headless : Point
headless = record m10 {
  core = (with_fault m10.core 1);
  heads = head_with m10.heads (target m10) no_head;
  synced = synced_with m10.synced (target m10) false;
}

loses_the_head : IsPointStep m10 (HeadFails no_head 1) headless
loses_the_head = (record { may = record { runs = refl; under_way = refl }; rose = inl (omega arith) }, refl)

head_trace : Traced checkpoint_start first_files head_fails headless files_2
head_trace = to_flush (audit_on (Copies 1 4 ∷ HeadFails no_head 1 ∷ [])) headless files_2 (to_audit (Copies 1 4 ∷ HeadFails no_head 1 ∷ []) headless files_2 (m10, files_2, step_10, inl refl, (headless, files_2, loses_the_head, inl refl, (refl, refl))))

-- ---- in the sync
abbrev unsynced : Point
unsynced = record m16 { core = (with_fault m16.core 1) }

syncs_not : IsPointStep m16 (SyncFails 1) unsynced
syncs_not = (record { may = record { runs = refl; under_way = refl }; rose = inl (omega arith) }, refl)

sync_trace : Traced checkpoint_start first_files sync_fails unsynced files_3
sync_trace = to_end (SyncFails 1 ∷ []) unsynced files_3 (unsynced, files_3, syncs_not, refl, (refl, refl))

-- ---- in the anchor's move
abbrev half_turned : Point
half_turned = record m17 { core = (with_fault m17.core 1); begun = None }

turns_half : IsPointStep m17 (TurnFails 1) half_turned
turns_half = (new_head, 4, 5, record { may = record { runs = refl; under_way = refl }; rose = inl (omega arith) }, may, refl)

turn_trace : (F : Files) → (F ≡ files_3) ⊎ IsTurnedFrom m17 files_3 F → Traced checkpoint_start first_files turn_fails half_turned F
turn_trace F came = to_end (Syncs ∷ TurnFails 1 ∷ []) half_turned F (m17, files_3, step_17, refl, (half_turned, F, turns_half, came, (refl, refl)))

-- ---- given up without a fault
abbrev stopped_short : Point
stopped_short = record m8 { core = (with_flag m8.core false); begun = None }

stops_short : IsPointStep m8 Finishes stopped_short
stops_short = (refl, refl)

abbrev flag_again : Point
flag_again = record stopped_short { core = (with_flag stopped_short.core true) }

begins_again : IsPointStep stopped_short Starts flag_again
begins_again = (refl, refl)

-- all is flushed
abbrev begun_again : Point
begun_again = record flag_again { begun = Some (head_now flag_again.log flag_again.core) }

keeps_again : IsPointStep flag_again Keeps begun_again
keeps_again = (refl, refl, refl, refl, refl)

abbrev skipped_again : Point
skipped_again = record begun_again { copies = copies_with begun_again.copies (target begun_again) 0 (Some (copy_at 4)) }

skips_again : IsPointStep begun_again (Skips 0 4) skipped_again
skips_again = (cleaned A index_region, refl, refl, refl, record { within = omega arith; none = refl }, refl)

abbrev copied_again : Point
copied_again = copied skipped_again 1 heap_region

copies_again : IsPointStep skipped_again (Copies 1 4) copied_again
copies_again = (heap_region, refl, record { runs = refl; under_way = refl }, refl, record { within = omega arith; none = refl }, refl)

again_trace : Traced checkpoint_start first_files starts_again copied_again files_2
again_trace = to_flush (Keeps ∷ Copies 0 4 ∷ Finishes ∷ Starts ∷ Keeps ∷ Skips 0 4 ∷ Copies 1 4 ∷ []) copied_again files_2 (m7, files_2, step_7, refl, (m8, files_2, step_8, inl refl, (stopped_short, files_2, stops_short, refl, (flag_again, files_2, begins_again, refl, (begun_again, files_2, keeps_again, refl, (skipped_again, files_2, skips_again, refl, (copied_again, files_2, copies_again, inl refl, (refl, refl))))))))

-- ---- what is left
pub worked_faults : WorkedFaults
unfolding crash
worked_faults = record {
  copy = record { finish = given_up; crash = files_2; trace = copy_trace; stopped = refl; current = refl; right = right copy_fails given_up files_2 refl copy_trace };
  head = record { finish = headless; crash = files_2; trace = head_trace; stopped = refl; current = refl; right = right head_fails headless files_2 refl head_trace };
  sync = record { finish = unsynced; crash = files_3; trace = sync_trace; stopped = refl; current = refl; right = right sync_fails unsynced files_3 refl sync_trace };
  before_turn = record { finish = half_turned; crash = files_3; trace = turn_trace files_3 (inl refl); stopped = refl; current = refl; right = right turn_fails half_turned files_3 refl (turn_trace files_3 (inl refl)) };
  behind_turn = record { finish = half_turned; crash = crash; trace = turn_trace crash (inr turned_3); stopped = refl; current = refl; right = right turn_fails half_turned crash refl (turn_trace crash (inr turned_3)) };
  again = record { finish = copied_again; crash = files_2; trace = again_trace; runs = refl; under_way = refl; right = right starts_again copied_again files_2 refl again_trace };
}
