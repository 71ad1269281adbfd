-- What an operation does depends on the words that it reads.
use Rattle.std.proofs.Common.{◌≡◌, ℕ, List, None, ap, ◌∙◌}
use Rattle.dali_words.specs.Words.{AgreeUnder}
use Rattle.dali_words.specs.Effects.{carried}
use Rattle.dali_access.specs.Heap.Rows as heap
use Rattle.dali_access.proofs.HeapLemmas.Dependence as cells
use Rattle.dali_access.proofs.IndexLemmas.Dependence as entries
use Rattle.dali_record.specs.declared.operations.Op.{Op}
use Rattle.dali_record.specs.declared.operations.Op.TheVariants.{Look, Add, KillEntry, Put, Read, Change, KillCell, FreeCell, ReviveCell, Restore, FreeEntry, ReviveEntry}
use Rattle.dali_record.specs.declared.operations.Outcome.TheVariants.{Undone}
use Rattle.dali_record.specs.declared.operations.Undo.TheVariants.{ReviveCell as UndoReviveCell, ReviveEntry as UndoReviveEntry}
use Rattle.dali_record.specs.declared.operations.Block.{Block}
use Rattle.dali_record.specs.Operations.{effect, looked, added, undo_of_add, killed, undo_of_kill, stored, undo_of_put, read, changed, EffectByReads}
use Rattle.dali_record.proofs.Dependence.{made_same}

-- a change's undo has the old words, which it reads
change_undo : (c key : ℕ) (v ws us : List ℕ) → AgreeUnder (effect (Change c v) key ws).0.read ws us → (effect (Change c v) key us).2 ≡ (effect (Change c v) key ws).2
change_undo c key v ws us a = ap (λ (b : Block). b.undo) (made_same (Change c v) key 0 ws us a.count (λ i h. a.same i h))

pub effect_by_reads : (op : Op) (key : ℕ) (ws : List ℕ) → EffectByReads op key ws
effect_by_reads Look key ws = λ us a. ap (λ r. (r.0, looked r.1, None)) (entries.look_by_reads key ws us a)
effect_by_reads (Add p) key ws = λ us a. ap (λ r. (r.0, added r.1, undo_of_add r.1)) (entries.add_by_reads key p ws us a)
effect_by_reads (KillEntry e) key ws = λ us a. ap (λ r. (r.0, killed r.1, undo_of_kill (UndoReviveEntry e) r.1)) (entries.kill_by_reads e key ws us a)
effect_by_reads (Put v) key ws = λ us a. ap (λ r. (r.0, stored r.1, undo_of_put r.1)) (cells.put_by_reads key v ws us a)
effect_by_reads (Read c) key ws = λ us a. ap (λ r. (r.0, read r.1, None)) (cells.read_by_reads c key ws us a)
effect_by_reads (Change c v) key ws = λ us a.
    ap (λ r. (r.0, changed r.1, (effect (Change c v) key us).2)) (cells.change_by_reads c key v ws us a)
    ∙ ap (λ u. (carried (heap.change ws c key v).0 us, changed (heap.change ws c key v).1, u)) (change_undo c key v ws us a)
effect_by_reads (KillCell c) key ws = λ us a. ap (λ r. (r.0, killed r.1, undo_of_kill (UndoReviveCell c) r.1)) (cells.kill_by_reads c key ws us a)
effect_by_reads (FreeCell c) key ws = λ us a. ap (λ e. (e, Undone, None)) (cells.free_by_reads c ws us a)
effect_by_reads (ReviveCell c) key ws = λ us a. ap (λ e. (e, Undone, None)) (cells.revive_by_reads c ws us a)
effect_by_reads (Restore c n vs) key ws = λ us a. ap (λ e. (e, Undone, None)) (cells.restore_by_reads c n vs ws us a)
effect_by_reads (FreeEntry e) key ws = λ us a. ap (λ x. (x, Undone, None)) (entries.free_by_reads e ws us a)
effect_by_reads (ReviveEntry e) key ws = λ us a. ap (λ x. (x, Undone, None)) (entries.revive_by_reads e ws us a)
