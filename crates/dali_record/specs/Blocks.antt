-- Blocks.
--     made ws key r op           the block that the operation gives on the words ws of region r
--     IsSoundOn ws b             b is the block that its operation gives on these words
--     rewritten b ws             ws with the new words of b
-- the words of a region and of an image, for who doesn't list dali_words
pub use Rattle.dali_words.specs.Words.{AreWords, AllAreWords}
use Rattle.std.specs.Prelude.{◌≡◌, ℕ, Bool, List}
use Rattle.dali_words.specs.Words.{xor_under, under, write_under}
use Rattle.dali_record.specs.declared.operations.Op.{Op}
use Rattle.dali_record.specs.declared.operations.Block.{Block}
use Rattle.dali_record.specs.declared.operations.Pending.{Pending}
use Rattle.dali_record.specs.declared.operations.Undo.{Undo}
use Rattle.dali_record.specs.Operations.{effect, changes}

abbrev pub made : List ℕ → ℕ → ℕ → Op → Block
made ws key r op =
    let e = effect op key ws in
    record {
      key = key;
      region = r;
      op = op;
      read = e.0.read;
      xor = xor_under e.0.read ws;
      write = e.0.write;
      after = under e.0.write e.0.after;
      outcome = e.1;
      undo = e.2;
    }

abbrev pub IsSoundOn : List ℕ → Block → Type 0
IsSoundOn ws b = made ws b.key b.region b.op ≡ b

abbrev pub rewritten : Block → List ℕ → List ℕ
rewritten b ws = write_under b.write b.after ws

abbrev pub changes_item : Block → Bool
changes_item b = changes b.outcome

abbrev pub pending : Block → Undo → Pending
pending b u = record { key = b.key; region = b.region; undo = u }
