-- The premises of the headline are met: the worked logs with damage, in which transactions are deleted, are histories.
use Rattle.std.specs.Prelude.{◌≡◌, ℕ, [], ◌∷◌, IsSome, refl}
use Rattle.std.proofs.Common.{arith, inl, inr}
use Rattle.dali_geometry.specs.Places.{formatted_image}
use Rattle.dali_access.specs.Heap.Cells.{cells}
use Rattle.dali_access.specs.Index.Entries.{entries}
use Rattle.dali_bytes.specs.Fields.{number32, number64}
use Rattle.dali_bytes.specs.Reading.{number32_at, number64_at, bytes_at}
use Rattle.dali_record.specs.Reading.{cell_at, entry_at, flag_at, value_at, numbers_at, regions_at, counted32_at, counted64_at, op_at, outcome_at, undo_at, block_at, block_of_at, call_at, answer_at, done_at, version_at, format_at, audit_fail_at, restarted_at, record_at}
use Rattle.dali_record.specs.Epochs.{last_epoch}
use Rattle.dali_record.specs.Legal.{sizes_of, IsLegal, txn_state}
use Rattle.dali_record.specs.Locks.{IsLockLegal}
use Rattle.dali_history.specs.Recovered.{IsHonest}
use Rattle.dali_history.specs.History.{AreSpelled, IsHistory}
use Rattle.dali_history.specs.Examples.Logs.{chain_log, undone_change_log, damaged_writer_log}
use Rattle.dali_history.proofs.ExamplesLemmas.ByTests.{txns_by_test, tells_by_test, locks_by_test, reads_by_test, reread, itself, spelled_by_reading, HonestFrom, honest_by_blocks}

chain-txns : (t : ℕ) → IsSome (txn_state (sizes_of chain_log) t chain_log)
unfolding entries cells
chain-txns = txns_by_test (sizes_of chain_log) 6 chain_log refl refl

chain-legal : IsLegal chain_log
unfolding entries cells
chain-legal = record { rules = refl; txns = chain-txns; scans = tells_by_test chain_log refl; reads = reads_by_test chain_log refl }

chain-locks : IsLockLegal chain_log
chain-locks = (tt, locks_by_test (last_epoch chain_log).records refl)

chain-reread : reread chain_log ≡ itself chain_log
unfolding cell_at entry_at flag_at value_at numbers_at regions_at counted32_at counted64_at op_at outcome_at undo_at block_at block_of_at call_at answer_at done_at version_at format_at audit_fail_at restarted_at record_at number32_at number32 number64_at number64 bytes_at lib.Count.ones
chain-reread = refl

chain-spelled : AreSpelled chain_log
unfolding number32 number64
chain-spelled = spelled_by_reading chain_log refl chain-reread

chain-blocks : HonestFrom 15 (3 ∷ []) (formatted_image (sizes_of chain_log)) 1 (last_epoch chain_log).records
unfolding entries cells
chain-blocks = (tt, (inl refl, (inl refl, (inl refl, (tt, (tt, (tt, (tt, (inl refl, (inl refl, (inl refl, (tt, (tt, (tt, (tt, (tt, (tt, (inl refl, (inr (omega arith, refl), (tt, (inl refl, (inl refl, (inl refl, (tt, (tt, (tt, (tt, (inl refl, (inl refl, (tt, (tt, (tt, (tt, (inl refl, (inl refl, (tt, (tt, (tt, (tt, (tt, tt))))))))))))))))))))))))))))))))))))))))

chain-honest : IsHonest (sizes_of chain_log) chain_log
chain-honest = (honest_by_blocks (formatted_image (sizes_of chain_log)) (last_epoch chain_log) chain-blocks, tt)

-- it is a history
pub chain-history : IsHistory chain_log
chain-history = record { some_index = omega arith; some_heap = omega arith; spelled = chain-spelled; legal = chain-legal; locks = chain-locks; honest = chain-honest }

-- ---- undone_change_log
undone-txns : (t : ℕ) → IsSome (txn_state (sizes_of undone_change_log) t undone_change_log)
unfolding entries cells
undone-txns = txns_by_test (sizes_of undone_change_log) 5 undone_change_log refl refl

undone-legal : IsLegal undone_change_log
unfolding entries cells
undone-legal = record { rules = refl; txns = undone-txns; scans = tells_by_test undone_change_log refl; reads = reads_by_test undone_change_log refl }

undone-locks : IsLockLegal undone_change_log
undone-locks = (tt, locks_by_test (last_epoch undone_change_log).records refl)

undone-reread : reread undone_change_log ≡ itself undone_change_log
unfolding cell_at entry_at flag_at value_at numbers_at regions_at counted32_at counted64_at op_at outcome_at undo_at block_at block_of_at call_at answer_at done_at version_at format_at audit_fail_at restarted_at record_at number32_at number32 number64_at number64 bytes_at lib.Count.ones
undone-reread = refl

undone-spelled : AreSpelled undone_change_log
unfolding number32 number64
undone-spelled = spelled_by_reading undone_change_log refl undone-reread

undone-blocks : HonestFrom 15 (3 ∷ []) (formatted_image (sizes_of undone_change_log)) 1 (last_epoch undone_change_log).records
unfolding entries cells
undone-blocks = (tt, (inl refl, (inl refl, (inl refl, (tt, (tt, (tt, (tt, (inl refl, (inl refl, (inl refl, (tt, (tt, (tt, (tt, (tt, (tt, (inl refl, (inl refl, (tt, (inl refl, (inr (omega arith, refl), (tt, (tt, (tt, (tt, (inl refl, (inl refl, (tt, (tt, (tt, (tt, (tt, tt)))))))))))))))))))))))))))))))))

undone-honest : IsHonest (sizes_of undone_change_log) undone_change_log
undone-honest = (honest_by_blocks (formatted_image (sizes_of undone_change_log)) (last_epoch undone_change_log) undone-blocks, tt)

pub undone-history : IsHistory undone_change_log
undone-history = record { some_index = omega arith; some_heap = omega arith; spelled = undone-spelled; legal = undone-legal; locks = undone-locks; honest = undone-honest }

-- ---- damaged_writer_log
writer-txns : (t : ℕ) → IsSome (txn_state (sizes_of damaged_writer_log) t damaged_writer_log)
unfolding entries cells
writer-txns = txns_by_test (sizes_of damaged_writer_log) 3 damaged_writer_log refl refl

writer-legal : IsLegal damaged_writer_log
unfolding entries cells
writer-legal = record { rules = refl; txns = writer-txns; scans = tells_by_test damaged_writer_log refl; reads = reads_by_test damaged_writer_log refl }

writer-locks : IsLockLegal damaged_writer_log
writer-locks = (tt, locks_by_test (last_epoch damaged_writer_log).records refl)

writer-reread : reread damaged_writer_log ≡ itself damaged_writer_log
unfolding cell_at entry_at flag_at value_at numbers_at regions_at counted32_at counted64_at op_at outcome_at undo_at block_at block_of_at call_at answer_at done_at version_at format_at audit_fail_at restarted_at record_at number32_at number32 number64_at number64 bytes_at lib.Count.ones
writer-reread = refl

writer-spelled : AreSpelled damaged_writer_log
unfolding number32 number64
writer-spelled = spelled_by_reading damaged_writer_log refl writer-reread

writer-blocks : HonestFrom 8 (3 ∷ []) (formatted_image (sizes_of damaged_writer_log)) 1 (last_epoch damaged_writer_log).records
unfolding entries cells
writer-blocks = (tt, (inl refl, (inl refl, (inl refl, (tt, (tt, (tt, (tt, (tt, (tt, (inl refl, (inr (omega arith, refl), (tt, (tt, (tt, (tt, (tt, tt)))))))))))))))))

writer-honest : IsHonest (sizes_of damaged_writer_log) damaged_writer_log
writer-honest = (honest_by_blocks (formatted_image (sizes_of damaged_writer_log)) (last_epoch damaged_writer_log) writer-blocks, tt)

pub writer-history : IsHistory damaged_writer_log
writer-history = record { some_index = omega arith; some_heap = omega arith; spelled = writer-spelled; legal = writer-legal; locks = writer-locks; honest = writer-honest }
