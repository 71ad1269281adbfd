-- In a run without stray writes each undo finds its slot as its transaction left it.
use Rattle.std.proofs.Common.{◌≡◌, ℕ, ◌+◌, false, List, [], ◌∷◌, length, drop, Some, ap, sym, subst, ◌∙◌, arith}
use Rattle.std.specs.Prelude.{reverse, slice_get}
use Rattle.std.proofs.Math.ListN.{drop_of_length-le}
use Rattle.dali_record.specs.declared.records.Record.{Record}
use Rattle.dali_record.specs.Log.{undos_of, committed}
use Rattle.dali_record.specs.Epochs.{last_epoch}
use Rattle.dali_record.specs.Damage.{has}
use Rattle.dali_record.specs.Settled.{redo_all}
use Rattle.dali_history.specs.Undos.{undone}
use Rattle.dali_history.specs.Kept.Kept.{AreKept}
use Rattle.dali_history.proofs.KeptLemmas.WithoutLast.{HasEnded}
use Rattle.dali_history.proofs.KeptLemmas.Invariant.{Knows}
use Rattle.dali_history.proofs.KeptLemmas.InvariantSteps.{fine_kept, along_start, along_kept}
use Rattle.dali_history.specs.Undone.AsLeft.{IsAsLeft, FindAsLeft}
use Rattle.dali_history.proofs.UndoneLemmas.Found.{order_finds, own_finds, own_order_finds, backs_find}
use Rattle.dali_runs.specs.State.{TxnRow, CoreState, row_of}
use Rattle.dali_runs.specs.Run.{Bases, base_at, RunsOn, IsRow, is_committed}
use Rattle.dali_during.specs.UndosFind.{UndosFindInRuns, RowUndosFind, LastUndoFinds, BacksFindInRuns}
use Rattle.dali_during.proofs.Rows.{twins}
use Rattle.dali_during.proofs.Runs.{image_is, kept_in_run, row_active}

pub undos_find_in_runs : UndosFindInRuns
undos_find_in_runs bases L c run clean right order permutes =
    subst (λ image. FindAsLeft (base_at bases L) (last_epoch L).records image order) (sym (image_is bases L c run clean right.image))
    (order_finds c.system.sizes (base_at bases L) [] (last_epoch L).records order (kept_in_run bases L c run clean right) permutes)

-- a row that isn't committed is of a transaction without a Commit, and has its undos
row_runs :
    (bases : Bases) (L : List Record) (c : CoreState) → RunsOn bases L c → AreKept c.system.sizes (base_at bases L) [] (last_epoch L).records
    → (t : ℕ) (row : TxnRow) → row_of c.system t ≡ Some row → is_committed row.state ≡ false → (has (committed (last_epoch L).records) t ≡ false) × (HasEnded t (last_epoch L).records → ⊥) × (undos_of t (last_epoch L).records ≡ row.undos)
row_runs bases L c run kept t row at state =
    let w = twins bases L c t run in
    let knows = subst (λ o. Knows t (last_epoch L).records o) w.3 ((along_kept c.system.sizes (base_at bases L) [] (last_epoch L).records kept).known t) in
    row_active c.system.sizes t (last_epoch L).records w.0 w.1 (row_of c.system t) row (subst (λ o. IsRow o (row_of c.system t)) w.2 (run.table t)) w.4 knows at state

pub row_undos_find : RowUndosFind
row_undos_find bases L c run clean right t row at state =
    let kept = kept_in_run bases L c run clean right in
    let is = row_runs bases L c run kept t row at state in
    (is.2, subst (λ image. FindAsLeft (base_at bases L) (last_epoch L).records image (t ∷ [])) (sym (image_is bases L c run clean right.image)) (own_order_finds c.system.sizes (base_at bases L) [] (last_epoch L).records kept t is.0))

pub last_undo_finds : LastUndoFinds
last_undo_finds bases L c run clean right t n row p at state size undo =
    let kept = kept_in_run bases L c run clean right in
    let is = row_runs bases L c run kept t row at state in
    let long : length (undos_of t (last_epoch L).records) ≡ n + 1 = ap length is.2 ∙ size in
    let none : drop (n + 1) (undos_of t (last_epoch L).records) ≡ [] = drop_of_length-le (undos_of t (last_epoch L).records) (omega (arith, long)) in
    subst (λ image. IsAsLeft (base_at bases L) (last_epoch L).records t n p image) (ap (λ us. undone (redo_all (base_at bases L) (last_epoch L).records) (reverse us)) none ∙ sym (image_is bases L c run clean right.image))
    (own_finds c.system.sizes (base_at bases L) [] (last_epoch L).records t n p (along_start c.system.sizes (base_at bases L) [] kept.image kept.indexed kept.tidy) (fine_kept c.system.sizes (base_at bases L) [] (last_epoch L).records kept) is.0 (ap (λ us. slice_get us n) is.2 ∙ undo))

pub backs_find_in_runs : BacksFindInRuns
backs_find_in_runs bases L c run clean right i t b at = backs_find c.system.sizes (base_at bases L) [] (last_epoch L).records (kept_in_run bases L c run clean right) i t b at
