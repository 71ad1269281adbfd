-- The worked examples, computed.
use Rattle.std.specs.Prelude.{◌≡◌, ℕ, Bool, true, List, [], ◌∷◌, Some, None, refl, ◌-◌, drop, false, bytes_eq, take, not, ◌==◌}
use Rattle.dali_record.specs.Files.{table_before}
use Rattle.dali_record.specs.Settled.{words_in, settled_before, redo_all, IsSoundAt}
use Rattle.dali_record.specs.Epochs.{Epoch, recovered_epoch, clean_place, failing}
use Rattle.dali_record.specs.Damage.{deleted_list, kept, marks, damage_of}
use Rattle.std.specs.List.{list_all}
use Rattle.dali_geometry.specs.Places.{formatted_image}
use Rattle.dali_access.specs.Heap.Cells.{cells}
use Rattle.dali_access.specs.Index.Entries.{entries}
use Rattle.dali_access.specs.Index.Records.{records}
use Rattle.dali_record.specs.Log.{committed}
use Rattle.dali_record.specs.Legal.{sizes_of, ReadsWords}
use Rattle.dali_history.specs.Serial.{expected, survivors}
use Rattle.dali_history.specs.Recovered.{recovered}
use Rattle.dali_history.specs.Examples.Tests.{values, is_ruled}
use Rattle.dali_history.specs.Examples.Logs.{chain_log, undone_change_log, damaged_writer_log, abort_log, full_log, chain_restarted_log, wrong_answer_log, no_look_log, change_stands_log, taken_back_log, taken_back_whole_log, taken_back_half_log, answered_after_log, added_after_log, reads_nothing_log}

pub chain-clean : clean_place (recovered_epoch chain_log) ≡ 15
chain-clean = refl

pub chain-failing : failing (recovered_epoch chain_log) ≡ 3 ∷ []
chain-failing = refl

pub chain-deleted : deleted_list (recovered_epoch chain_log) ≡ 3 ∷ 5 ∷ []
chain-deleted = refl

pub undone_change-deleted : deleted_list (recovered_epoch undone_change_log) ≡ 3 ∷ 4 ∷ []
undone_change-deleted = refl

pub damaged_writer-deleted : deleted_list (recovered_epoch damaged_writer_log) ≡ 2 ∷ []
damaged_writer-deleted = refl

-- ---- what is expected, and what the recovered image has
pub chain-survivors : survivors chain_log ≡ 1 ∷ 2 ∷ 4 ∷ []
chain-survivors = refl

pub chain-expected : values chain_log (4 ∷ 5 ∷ 6 ∷ []) ≡ Some (97 ∷ 98 ∷ 99 ∷ []) ∷ Some (121 ∷ []) ∷ None ∷ []
chain-expected = refl

pub undone_change-expected : values undone_change_log (4 ∷ 5 ∷ 6 ∷ []) ≡ Some (97 ∷ 98 ∷ 99 ∷ []) ∷ Some (120 ∷ 121 ∷ 122 ∷ []) ∷ None ∷ []
undone_change-expected = refl

pub damaged_writer-expected : values damaged_writer_log (4 ∷ 5 ∷ 6 ∷ []) ≡ Some (97 ∷ 98 ∷ 99 ∷ []) ∷ None ∷ None ∷ []
damaged_writer-expected = refl

pub chain-recovered : records (sizes_of chain_log) (recovered (sizes_of chain_log) chain_log) ≡ (4, 97 ∷ 98 ∷ 99 ∷ []) ∷ (5, 121 ∷ []) ∷ []
unfolding entries cells
chain-recovered = refl

pub chain-restarted : records (sizes_of chain_log) (recovered (sizes_of chain_log) chain_restarted_log) ≡ (4, 97 ∷ 98 ∷ 99 ∷ []) ∷ (5, 121 ∷ []) ∷ []
unfolding entries cells
chain-restarted = refl

pub undone_change-recovered : records (sizes_of undone_change_log) (recovered (sizes_of undone_change_log) undone_change_log) ≡ (4, 97 ∷ 98 ∷ 99 ∷ []) ∷ (5, 120 ∷ 121 ∷ 122 ∷ []) ∷ []
unfolding entries cells
undone_change-recovered = refl

pub damaged_writer-recovered : records (sizes_of damaged_writer_log) (recovered (sizes_of damaged_writer_log) damaged_writer_log) ≡ (4, 97 ∷ 98 ∷ 99 ∷ []) ∷ []
unfolding entries cells
damaged_writer-recovered = refl

-- what is kept of the epoch commits the survivors
pub chain-kept : committed (kept (marks (damage_of (recovered_epoch chain_log)) (recovered_epoch chain_log).records)) ≡ 1 ∷ 2 ∷ 4 ∷ []
chain-kept = refl

-- ---- the rules
pub chain-ruled : is_ruled chain_log (1 ∷ 2 ∷ 3 ∷ 4 ∷ 5 ∷ []) ≡ true
chain-ruled = refl

pub chain_restarted-ruled : is_ruled chain_restarted_log (1 ∷ 2 ∷ 3 ∷ 4 ∷ 5 ∷ []) ≡ true
chain_restarted-ruled = refl

pub abort-ruled : is_ruled abort_log (1 ∷ 2 ∷ 3 ∷ 4 ∷ 5 ∷ 6 ∷ []) ≡ true
abort-ruled = refl

pub full-ruled : is_ruled full_log (1 ∷ 2 ∷ 3 ∷ 4 ∷ []) ≡ true
full-ruled = refl

-- ---- soundness: each block of the log before the damage is what its operation gives
abbrev base : List (List ℕ)
base = formatted_image (sizes_of chain_log)

pub put-sound : IsSoundAt base chain_log 3
unfolding entries cells
put-sound = refl

pub add-sound : IsSoundAt base chain_log 4
unfolding entries cells
add-sound = refl

pub look-sound : IsSoundAt base chain_log 9
unfolding entries cells
look-sound = refl

pub found-sound : IsSoundAt base chain_log 18
unfolding entries cells
found-sound = refl

pub change-sound : IsSoundAt base chain_log 29
unfolding entries cells
change-sound = refl

-- ---- logs that break a rule
pub wrong_answer-refused : is_ruled wrong_answer_log (1 ∷ []) ≡ false
wrong_answer-refused = refl

pub no_look-refused : is_ruled no_look_log (1 ∷ []) ≡ false
no_look-refused = refl

pub change_stands-refused : is_ruled change_stands_log (1 ∷ []) ≡ false
change_stands-refused = refl

pub taken_back-ruled : is_ruled taken_back_log (1 ∷ []) ≡ true
taken_back-ruled = refl

-- all but the Commit of this log is allowed
pub taken_back_whole-refused : is_ruled taken_back_whole_log (1 ∷ []) ≡ false
taken_back_whole-refused = refl

pub taken_back_whole-front : is_ruled (take 8 taken_back_whole_log) (1 ∷ []) ≡ true
taken_back_whole-front = refl

pub taken_back_half-refused : is_ruled taken_back_half_log (1 ∷ []) ≡ false
taken_back_half-refused = refl

pub taken_back_half-front : is_ruled (take 7 taken_back_half_log) (1 ∷ []) ≡ true
taken_back_half-front = refl

-- all before the Done of this one
pub answered_after-refused : is_ruled (take 8 answered_after_log) (1 ∷ []) ≡ false
answered_after-refused = refl

pub answered_after-front : is_ruled (take 7 answered_after_log) (1 ∷ []) ≡ true
answered_after-front = refl

-- and all before the Add of this one
pub added_after-refused : is_ruled (take 6 added_after_log) (1 ∷ []) ≡ false
added_after-refused = refl

pub added_after-front : is_ruled (take 5 added_after_log) (1 ∷ []) ≡ true
added_after-front = refl

-- a log that every other rule allows
pub reads_nothing-ruled : is_ruled reads_nothing_log (1 ∷ []) ≡ true
reads_nothing-ruled = refl

pub reads_nothing-expected : expected reads_nothing_log ≡ None
reads_nothing-expected = refl

pub reads_nothing-refused : ReadsWords reads_nothing_log → ⊥
reads_nothing-refused h = let e : not (0 == 0) ≡ true = h 2 _ refl in absurd (cc)

-- ---- files: the checkpoint of the chain's log, taken before the damage
abbrev checkpoint_image : List (List ℕ)
checkpoint_image = redo_all base (take 15 chain_log)

abbrev e1 : Epoch
e1 = recovered_epoch chain_log

abbrev copied : ℕ → List ℕ
copied r = words_in (redo_all checkpoint_image (drop (15 - e1.first) (take (clean_place e1 - e1.first) e1.records))) r

abbrev same_words : List ℕ → List ℕ → Bool
same_words = bytes_eq

pub region-fits : list_all (λ r. same_words (copied r) (settled_before base e1 r (clean_place e1))) (0 ∷ 1 ∷ 2 ∷ 3 ∷ 4 ∷ []) ≡ true
region-fits = refl

pub no-table : table_before e1 15 ≡ []
no-table = refl

pub later-table : table_before e1 19 ≡ record { txn = 3; is_committed = false; undos = [] } ∷ []
later-table = refl
