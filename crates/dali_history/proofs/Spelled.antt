-- What a log keeps whose records can be spelled.
use Rattle.std.proofs.Common.{◌≡◌, ℕ, List, [], ◌∷◌, ◌++◌, Some, subst, ⊎_elim}
use Rattle.dali_lists.proofs.Lists.{get_front}
use Rattle.dali_record.specs.declared.operations.Op.{Op}
use Rattle.dali_record.specs.declared.operations.Op.TheVariants.{Put, Change}
use Rattle.dali_record.specs.declared.records.Record.{Record}
use Rattle.dali_record.specs.declared.records.Record.TheVariants.{Format, Begin, Forward, Done, Commit, Ended, Solo, AuditBegin, AuditClean, AuditFail, Restarted, Back}
use Rattle.dali_record.specs.Spelling.{IsOperation, IsBlock, CanBeSpelled}
use Rattle.dali_record.specs.Log.{Touch, touch_of, touch_at}
use Rattle.dali_record.specs.Legal.{ReadsWords}
use Rattle.dali_record.proofs.Ends.{get_push_cases}
use Rattle.dali_record.proofs.Fronts.{touch_get}
use Rattle.dali_record.proofs.Undos.{undo_changes}
use Rattle.dali_history.specs.Blocks.{HasValue, HasValues, HasWholeBlocks}
use Rattle.dali_history.specs.History.{AreSpelled}

-- ---- fronts, and one more record
pub AreSpelled-front : (A B : List Record) → AreSpelled (A ++ B) → AreSpelled A
AreSpelled-front A B h i r e = h i r (get_front A B i r e)

pub AreSpelled-push : (L : List Record) (r : Record) → AreSpelled L → CanBeSpelled r → AreSpelled (L ++ r ∷ [])
AreSpelled-push L r h k i x e = ⊎_elim (λ old. h i x old.1) (λ new. subst CanBeSpelled new.1 k) (get_push_cases L r i x e)

-- ---- blocks
block_is_spelled : (r : Record) (a : Touch) → touch_of r ≡ Some a → CanBeSpelled r → IsBlock a.block
block_is_spelled (Format i h) a e k = absurd (cc)
block_is_spelled (Begin t) a e k = absurd (cc)
block_is_spelled (Forward t b) a e k = subst (λ (z : Touch). IsBlock z.block) (same _ a e) k.1
  where
    same : (u v : Touch) → Some u ≡ Some v → u ≡ v
    same u v q = cc
block_is_spelled (Done t c x) a e k = absurd (cc)
block_is_spelled (Commit t) a e k = absurd (cc)
block_is_spelled (Ended t) a e k = absurd (cc)
block_is_spelled (Solo t p b) a e k = subst (λ (z : Touch). IsBlock z.block) (same _ a e) k.2
  where
    same : (u v : Touch) → Some u ≡ Some v → u ≡ v
    same u v q = cc
block_is_spelled AuditBegin a e k = absurd (cc)
block_is_spelled (AuditClean b) a e k = absurd (cc)
block_is_spelled (AuditFail b rs) a e k = absurd (cc)
block_is_spelled (Restarted rs ds) a e k = absurd (cc)
block_is_spelled (Back t b) a e k = subst (λ (z : Touch). IsBlock z.block) (same _ a e) k.1
  where
    same : (u v : Touch) → Some u ≡ Some v → u ≡ v
    same u v q = cc

pub block_at : (L : List Record) → AreSpelled L → (i : ℕ) (a : Touch) → touch_at L i ≡ Some a → IsBlock a.block
block_at L h i a e = let g = touch_get L i a e in block_is_spelled g.0 a g.2 (h i g.0 g.1)

value_of_operation : (op : Op) → IsOperation op → HasValue op
value_of_operation (Put v) h = h
value_of_operation (Change c v) h = h.1
value_of_operation _ h = tt

-- its operations name values
pub spelled_values : (L : List Record) → AreSpelled L → HasValues L
spelled_values L h i a e = value_of_operation a.block.op (block_at L h i a e).op

-- its blocks are whole, where each reads some word
pub spelled_whole : (L : List Record) → AreSpelled L → ReadsWords L → HasWholeBlocks L
spelled_whole L h reads i a e = record { reads = reads i a e; gives = undo_changes a.block (block_at L h i a e) }
