-- The readers of operations, outcomes, undos, calls and answers.
use Rattle.std.proofs.Common.{◌≡◌, ℕ, List, ◌++◌, Option, Some, None, refl}
use Rattle.dali_record.specs.declared.operations.Op.{Op}
use Rattle.dali_record.specs.declared.operations.Op.TheVariants.{Look, Add, KillEntry, Put, Read, Change, KillCell, FreeCell, ReviveCell, Restore, FreeEntry, ReviveEntry}
use Rattle.dali_record.specs.declared.operations.Outcome.{Outcome}
use Rattle.dali_record.specs.declared.operations.Outcome.TheVariants.{Found, Absent, Added, NoEntry, Killed, Put as PutIn, NoCell, Value, Changed, NotLive, OtherKey, OddLength, Undone}
use Rattle.dali_record.specs.declared.operations.Undo.{Undo}
use Rattle.dali_record.specs.declared.operations.Undo.TheVariants.{FreeCell as UndoFreeCell, ReviveCell as UndoReviveCell, Restore as UndoRestore, FreeEntry as UndoFreeEntry, ReviveEntry as UndoReviveEntry}
use Rattle.dali_record.specs.declared.records.Call.{Call}
use Rattle.dali_record.specs.declared.records.Call.TheVariants.{Insert, Update, Delete, Get}
use Rattle.dali_record.specs.declared.records.Answer.{Answer}
use Rattle.dali_record.specs.declared.records.Answer.TheVariants.{Ok as AnswerOk, Exists, Missing, Got, FullHeap, FullIndex, Odd}
use Rattle.dali_record.specs.Spelling.{op_bytes, outcome_bytes, undo_bytes, call_bytes, answer_bytes, words_bytes, IsOperation, IsOutcome, MayBeUndo, IsCall, IsAnswer, AreFive}
use Rattle.dali_record.specs.Reading.{op_at, outcome_at, undo_at, call_at, answer_at, numbers_at, op_rows, outcome_rows, undo_rows, call_rows, answer_rows}
use Rattle.dali_record.proofs.Readers.{IsReader, row_nothing, row_one, row_two, row_three, numbered_takes, again_1, again_2, again_3}
use Rattle.dali_record.proofs.Fields.{reader64, reader_cell, reader_entry, reader_flag, reader_value, reader_words}

-- the five words of a value
reader_five : IsReader (numbers_at 5) words_bytes AreFive
reader_five = reader_words 5

pub reader_op : IsReader op_at op_bytes IsOperation
unfolding op_at
reader_op = record {
  takes = λ bytes y rest fits e. numbered_takes op_bytes IsOperation op_rows (
    row_nothing op_bytes IsOperation 1 Look refl tt,
    (
      row_one op_bytes IsOperation 2 Add reader64 (λ x. refl) (λ x p. p),
      (
        row_one op_bytes IsOperation 3 KillEntry reader_entry (λ x. refl) (λ x p. p),
        (
          row_one op_bytes IsOperation 4 Put reader_value (λ x. refl) (λ x p. p),
          (
            row_one op_bytes IsOperation 5 Read reader_cell (λ x. refl) (λ x p. p),
            (
              row_two op_bytes IsOperation 6 Change reader_cell reader_value (λ x z. refl) (λ x z p q. (p, q)),
              (
                row_one op_bytes IsOperation 7 KillCell reader_cell (λ x. refl) (λ x p. p),
                (
                  row_one op_bytes IsOperation 8 FreeCell reader_cell (λ x. refl) (λ x p. p),
                  (
                    row_one op_bytes IsOperation 9 ReviveCell reader_cell (λ x. refl) (λ x p. p),
                    (
                      row_three op_bytes IsOperation 10 Restore reader_cell reader64 reader_five (λ x z w. refl) (λ x z w p q r. (p, q, r)),
                      (
                        row_one op_bytes IsOperation 11 FreeEntry reader_entry (λ x. refl) (λ x p. p),
                        (
                          row_one op_bytes IsOperation 12 ReviveEntry reader_entry (λ x. refl) (λ x p. p),
                          tt,
                        ),
                      ),
                    ),
                  ),
                ),
              ),
            ),
          ),
        ),
      ),
    ),
  )
      bytes y rest fits e;
  again = op_again;
}
  where
    op_again : (y : Op) (rest : List ℕ) → IsOperation y → op_at (op_bytes y ++ rest) ≡ Some (y, rest)
    op_again Look rest h = refl
    op_again (Add x) rest h = again_1 reader64 Add x rest h
    op_again (KillEntry x) rest h = again_1 reader_entry KillEntry x rest h
    op_again (Put x) rest h = again_1 reader_value Put x rest h
    op_again (Read x) rest h = again_1 reader_cell Read x rest h
    op_again (Change x z) rest h = again_2 reader_cell reader_value Change x z rest h.0 h.1
    op_again (KillCell x) rest h = again_1 reader_cell KillCell x rest h
    op_again (FreeCell x) rest h = again_1 reader_cell FreeCell x rest h
    op_again (ReviveCell x) rest h = again_1 reader_cell ReviveCell x rest h
    op_again (Restore x z w) rest h = again_3 reader_cell reader64 reader_five Restore x z w rest h.0 h.1 h.2
    op_again (FreeEntry x) rest h = again_1 reader_entry FreeEntry x rest h
    op_again (ReviveEntry x) rest h = again_1 reader_entry ReviveEntry x rest h

pub reader_outcome : IsReader outcome_at outcome_bytes IsOutcome
unfolding outcome_at
reader_outcome = record {
  takes = λ bytes y rest fits e. numbered_takes outcome_bytes IsOutcome outcome_rows (
    row_two outcome_bytes IsOutcome 1 Found reader_entry reader64 (λ x z. refl) (λ x z p q. (p, q)),
    (
      row_one outcome_bytes IsOutcome 2 Absent reader_flag (λ x. refl) (λ x p. p),
      (
        row_one outcome_bytes IsOutcome 3 Added reader_entry (λ x. refl) (λ x p. p),
        (
          row_nothing outcome_bytes IsOutcome 4 NoEntry refl tt,
          (
            row_nothing outcome_bytes IsOutcome 5 Killed refl tt,
            (
              row_one outcome_bytes IsOutcome 6 PutIn reader_cell (λ x. refl) (λ x p. p),
              (
                row_nothing outcome_bytes IsOutcome 7 NoCell refl tt,
                (
                  row_one outcome_bytes IsOutcome 8 Value reader_value (λ x. refl) (λ x p. p),
                  (
                    row_nothing outcome_bytes IsOutcome 9 Changed refl tt,
                    (
                      row_one outcome_bytes IsOutcome 10 NotLive reader64 (λ x. refl) (λ x p. p),
                      (
                        row_one outcome_bytes IsOutcome 11 OtherKey reader64 (λ x. refl) (λ x p. p),
                        (
                          row_one outcome_bytes IsOutcome 12 OddLength reader64 (λ x. refl) (λ x p. p),
                          (
                            row_nothing outcome_bytes IsOutcome 13 Undone refl tt,
                            tt,
                          ),
                        ),
                      ),
                    ),
                  ),
                ),
              ),
            ),
          ),
        ),
      ),
    ),
  )
      bytes y rest fits e;
  again = outcome_again;
}
  where
    outcome_again : (y : Outcome) (rest : List ℕ) → IsOutcome y → outcome_at (outcome_bytes y ++ rest) ≡ Some (y, rest)
    outcome_again (Found x z) rest h = again_2 reader_entry reader64 Found x z rest h.0 h.1
    outcome_again (Absent x) rest h = again_1 reader_flag Absent x rest h
    outcome_again (Added x) rest h = again_1 reader_entry Added x rest h
    outcome_again NoEntry rest h = refl
    outcome_again Killed rest h = refl
    outcome_again (PutIn x) rest h = again_1 reader_cell PutIn x rest h
    outcome_again NoCell rest h = refl
    outcome_again (Value x) rest h = again_1 reader_value Value x rest h
    outcome_again Changed rest h = refl
    outcome_again (NotLive x) rest h = again_1 reader64 NotLive x rest h
    outcome_again (OtherKey x) rest h = again_1 reader64 OtherKey x rest h
    outcome_again (OddLength x) rest h = again_1 reader64 OddLength x rest h
    outcome_again Undone rest h = refl

pub reader_undo : IsReader undo_at undo_bytes MayBeUndo
unfolding undo_at
reader_undo = record {
  takes = λ bytes y rest fits e. numbered_takes undo_bytes MayBeUndo undo_rows (
    row_nothing undo_bytes MayBeUndo 0 None refl tt,
    (
      row_one undo_bytes MayBeUndo 1 (λ c. Some (UndoFreeCell c)) reader_cell (λ x. refl) (λ x p. p),
      (
        row_one undo_bytes MayBeUndo 2 (λ c. Some (UndoReviveCell c)) reader_cell (λ x. refl) (λ x p. p),
        (
          row_three undo_bytes MayBeUndo 3 (λ c n ws. Some (UndoRestore c n ws)) reader_cell reader64 reader_five (λ x z w. refl) (λ x z w p q r. (p, q, r)),
          (
            row_one undo_bytes MayBeUndo 4 (λ e. Some (UndoFreeEntry e)) reader_entry (λ x. refl) (λ x p. p),
            (
              row_one undo_bytes MayBeUndo 5 (λ e. Some (UndoReviveEntry e)) reader_entry (λ x. refl) (λ x p. p),
              tt,
            ),
          ),
        ),
      ),
    ),
  )
      bytes y rest fits e;
  again = undo_again;
}
  where
    undo_again : (y : Option Undo) (rest : List ℕ) → MayBeUndo y → undo_at (undo_bytes y ++ rest) ≡ Some (y, rest)
    undo_again None rest h = refl
    undo_again (Some (UndoFreeCell x)) rest h = again_1 reader_cell (λ c. Some (UndoFreeCell c)) x rest h
    undo_again (Some (UndoReviveCell x)) rest h = again_1 reader_cell (λ c. Some (UndoReviveCell c)) x rest h
    undo_again (Some (UndoRestore x z w)) rest h = again_3 reader_cell reader64 reader_five (λ c n ws. Some (UndoRestore c n ws)) x z w rest h.0 h.1 h.2
    undo_again (Some (UndoFreeEntry x)) rest h = again_1 reader_entry (λ e. Some (UndoFreeEntry e)) x rest h
    undo_again (Some (UndoReviveEntry x)) rest h = again_1 reader_entry (λ e. Some (UndoReviveEntry e)) x rest h

pub reader_call : IsReader call_at call_bytes IsCall
unfolding call_at
reader_call = record {
  takes = λ bytes y rest fits e. numbered_takes call_bytes IsCall call_rows (
    row_two call_bytes IsCall 1 Insert reader64 reader_value (λ x z. refl) (λ x z p q. (p, q)),
    (
      row_two call_bytes IsCall 2 Update reader64 reader_value (λ x z. refl) (λ x z p q. (p, q)),
      (
        row_one call_bytes IsCall 3 Delete reader64 (λ x. refl) (λ x p. p),
        (
          row_one call_bytes IsCall 4 Get reader64 (λ x. refl) (λ x p. p),
          tt,
        ),
      ),
    ),
  )
      bytes y rest fits e;
  again = call_again;
}
  where
    call_again : (y : Call) (rest : List ℕ) → IsCall y → call_at (call_bytes y ++ rest) ≡ Some (y, rest)
    call_again (Insert x z) rest h = again_2 reader64 reader_value Insert x z rest h.0 h.1
    call_again (Update x z) rest h = again_2 reader64 reader_value Update x z rest h.0 h.1
    call_again (Delete x) rest h = again_1 reader64 Delete x rest h
    call_again (Get x) rest h = again_1 reader64 Get x rest h

pub reader_answer : IsReader answer_at answer_bytes IsAnswer
unfolding answer_at
reader_answer = record {
  takes = λ bytes y rest fits e. numbered_takes answer_bytes IsAnswer answer_rows (
    row_nothing answer_bytes IsAnswer 1 AnswerOk refl tt,
    (
      row_nothing answer_bytes IsAnswer 2 Exists refl tt,
      (
        row_nothing answer_bytes IsAnswer 3 Missing refl tt,
        (
          row_one answer_bytes IsAnswer 4 Got reader_value (λ x. refl) (λ x p. p),
          (
            row_nothing answer_bytes IsAnswer 5 FullHeap refl tt,
            (
              row_nothing answer_bytes IsAnswer 6 FullIndex refl tt,
              (
                row_one answer_bytes IsAnswer 7 Odd reader64 (λ x. refl) (λ x p. p),
                tt,
              ),
            ),
          ),
        ),
      ),
    ),
  )
      bytes y rest fits e;
  again = answer_again;
}
  where
    answer_again : (y : Answer) (rest : List ℕ) → IsAnswer y → answer_at (answer_bytes y ++ rest) ≡ Some (y, rest)
    answer_again AnswerOk rest h = refl
    answer_again Exists rest h = refl
    answer_again Missing rest h = refl
    answer_again (Got x) rest h = again_1 reader_value Got x rest h
    answer_again FullHeap rest h = refl
    answer_again FullIndex rest h = refl
    answer_again (Odd x) rest h = again_1 reader64 Odd x rest h
