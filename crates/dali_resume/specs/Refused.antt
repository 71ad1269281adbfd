-- What the tests refuse and let pass, a case or more for each kind of record, behind an image with record number 5, next transaction 3, and
-- a table where transaction 1 runs with one undo and 2 has committed.
use Rattle.std.specs.Prelude.{◌≡◌, ℕ, ◌^◌, Bool, true, false, [], ◌∷◌, None}
use Rattle.dali_geometry.specs.Sizes.{Sizes}
use Rattle.dali_record.specs.declared.operations.Block.{Block}
use Rattle.dali_record.specs.declared.operations.Op.{Op}
use Rattle.dali_record.specs.declared.operations.Op.TheVariants.{Look, Read, FreeCell, ReviveCell}
use Rattle.dali_record.specs.declared.operations.Outcome.TheVariants.{NoCell}
use Rattle.dali_record.specs.declared.operations.Undo.TheVariants.{FreeCell as UndoFreeCell}
use Rattle.dali_record.specs.declared.records.Call.TheVariants.{Get}
use Rattle.dali_record.specs.declared.records.Answer.TheVariants.{Missing}
use Rattle.dali_record.specs.declared.records.Record.{Record}
use Rattle.dali_record.specs.declared.records.Record.TheVariants.{Format, Begin, Forward, Done, Commit, Ended, Solo, AuditBegin, AuditClean, AuditFail, Restarted, Back}
use Rattle.dali_resume.specs.Tests.{Known, known_at, known_next, may_follow}

abbrev pub two : Sizes
two = record { index = 1; heap = 1 }

abbrev pub on : ℕ → Op → Block
on region op = record { key = 7; region = region; op = op; read = 1; xor = 0; write = 0; after = []; outcome = NoCell; undo = None }

abbrev pub before_all : Known
before_all = known_at 5 3 (record { txn = 1; is_committed = false; undos = record { key = 7; region = 1; undo = UndoFreeCell 0 } ∷ [] } ∷ record { txn = 2; is_committed = true; undos = [] } ∷ [])

abbrev pub follows : Record → Bool
follows r = may_follow two 5 before_all r

abbrev pub follows_behind : Record → Record → Bool
follows_behind q r = may_follow two 5 (known_next before_all q) r

pub record TellsApart : Type 0 where
  pub format : follows (Format 1 1) ≡ false
  pub begins : follows (Begin 3) ≡ true
  pub begins_later : follows (Begin 9) ≡ true
  pub begins_again : follows (Begin 2) ≡ false
  pub begins_too_high : follows (Begin (2 ^ 40)) ≡ false
  pub begins_twice : follows_behind (Begin 3) (Begin 3) ≡ false
  pub works : follows (Forward 1 (on 0 Look)) ≡ true
  pub works_begun : follows_behind (Begin 3) (Forward 3 (on 1 (Read 0))) ≡ true
  pub works_unbegun : follows (Forward 3 (on 0 Look)) ≡ false
  pub works_committed : follows (Forward 2 (on 0 Look)) ≡ false
  pub looks_in_heap : follows (Forward 1 (on 1 Look)) ≡ false
  pub reads_in_index : follows (Forward 1 (on 0 (Read 0))) ≡ false
  pub reads_outside : follows (Forward 1 (on 2 (Read 0))) ≡ false
  pub answers : follows (Done 1 (Get 7) Missing) ≡ true
  pub answers_committed : follows (Done 2 (Get 7) Missing) ≡ false
  pub takes_back : follows (Back 1 (on 1 (FreeCell 0))) ≡ true
  pub takes_back_other : follows (Back 1 (on 1 (FreeCell 1))) ≡ false
  pub takes_back_revive : follows (Back 1 (on 1 (ReviveCell 0))) ≡ false
  pub takes_back_more : follows_behind (Back 1 (on 1 (FreeCell 0))) (Back 1 (on 1 (FreeCell 0))) ≡ false
  pub takes_back_committed : follows (Back 2 (on 1 (FreeCell 0))) ≡ false
  pub commits : follows (Commit 1) ≡ true
  pub commits_again : follows (Commit 2) ≡ false
  pub commits_unbegun : follows (Commit 3) ≡ false
  pub ends : follows (Ended 2) ≡ true
  pub ends_empty : follows_behind (Back 1 (on 1 (FreeCell 0))) (Ended 1) ≡ true
  pub ends_with_undos : follows (Ended 1) ≡ false
  pub ends_twice : follows_behind (Ended 2) (Ended 2) ≡ false
  pub frees : follows (Solo 3 2 (on 1 (FreeCell 0))) ≡ true
  pub frees_for_running : follows (Solo 3 1 (on 1 (FreeCell 0))) ≡ false
  pub frees_with_old_number : follows (Solo 2 2 (on 1 (FreeCell 0))) ≡ false
  pub audits : follows AuditBegin ≡ true
  pub audit_from_before : follows (AuditClean 4) ≡ true
  pub audit_from_here : follows_behind AuditBegin (AuditClean 5) ≡ true
  pub audit_unbegun : follows (AuditClean 5) ≡ false
  pub fails : follows (AuditFail 4 (1 ∷ [])) ≡ true
  pub fails_outside : follows (AuditFail 4 (2 ∷ [])) ≡ false
  pub behind_failed : follows_behind (AuditFail 4 (1 ∷ [])) (Commit 1) ≡ false
  pub restarts_behind_failed : follows_behind (AuditFail 4 (1 ∷ [])) (Restarted (1 ∷ []) []) ≡ true
  -- at the image's place the lists aren't tested
  pub restarts_here : follows (Restarted (8 ∷ []) (9 ∷ [])) ≡ true
  pub restarts_right : follows_behind (Begin 3) (Restarted (1 ∷ 3 ∷ []) []) ≡ true
  pub restarts_wrong : follows_behind (Begin 3) (Restarted (1 ∷ []) []) ≡ false
  pub restarts_deleted : follows_behind (Begin 3) (Restarted (1 ∷ 3 ∷ []) (2 ∷ [])) ≡ false
  pub restarts_twice : follows_behind (Restarted (8 ∷ []) []) (Restarted [] []) ≡ false
  pub works_behind_restart : follows_behind (Restarted (8 ∷ []) []) (Forward 1 (on 0 Look)) ≡ false
