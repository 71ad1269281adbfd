-- An operation between its latch and its record.
--     IsUpdated g h            one word that the hold of g has read was written
--     IsUnderWay txn b left taken g    the hold of g is the operation of this transaction with the block b, of which the words in the set
--                              `left` are still to be written, and the first `taken` new words are written
--     OneIsUnderWay o g        there is an open operation, and it is under way on g
--     words_left o             how many words of the open operation are still to be written
--     all_written o            there is an open operation, and none is
--     WrittenIsOpen            then its block may be logged
--     WritesNext o g goes p h  the next word of the open operation is written: from o on g to p on h, where `goes` tells whether one was left
-- What is left, written over the words as they stand, gives the words behind the operation: so the last update leaves an open operation.
use Rattle.std.specs.Prelude.{◌≡◌, ℕ, ◌+◌, ◌-◌, ◌<◌, ◌^◌, Bool, true, false, not, ◌==◌, Option, Some, None, IfSome, IsSomeAnd, length, drop, bit_and, bit_or, count_ones}
use Rattle.dali_words.specs.Words.{write_under}
use Rattle.dali_record.specs.declared.operations.Block.{Block}
use Rattle.dali_record.specs.Blocks.{IsSoundOn, rewritten}
use Rattle.dali_region.specs.State.{RegionState}
use Rattle.dali_runs.specs.Regions.{Update, MayChange, region_after, IsOpen}
use Rattle.dali_system.specs.declared.operation.Operation.{Operation}

abbrev pub IsUpdated : RegionState → RegionState → Type 0
IsUpdated g h = (word : ℕ) × (value : ℕ) × MayChange (Update word value) g × (h ≡ region_after (Update word value) g)

pub record IsUnderWay (txn : ℕ) (b : Block) (left taken : ℕ) (g : RegionState) : Type 0 where
  -- the words that are written
  pub written : ℕ
  pub hold : g.hold ≡ Some (record { txn = txn; dead = false; read = b.read; xor = b.xor; write = written })
  pub parts : bit_or written left ≡ b.write
  pub within : bit_and left b.read ≡ left
  pub fits : left < 2 ^ 64
  pub size : length g.words ≡ 64
  pub count : taken + count_ones left ≡ length b.after
  -- every operation reads some word
  pub reads : not (b.read == 0) ≡ true
  -- where no stray write came
  pub sound : g.poked ≡ false → IsSoundOn g.back b
  pub stands : g.poked ≡ false → write_under left (drop taken b.after) g.words ≡ rewritten b g.back

abbrev pub OneIsUnderWay : Option Operation → RegionState → Type 0
OneIsUnderWay o g = IsSomeAnd o (λ o. IsUnderWay o.txn o.block o.left o.taken g)

abbrev pub words_left : Option Operation → ℕ
words_left None = 0
words_left (Some o) = length o.block.after - o.taken

abbrev pub all_written : Option Operation → Bool
all_written None = false
all_written (Some o) = o.left == 0

abbrev pub WrittenIsOpen : Type 0
WrittenIsOpen = (o : Option Operation) (g : RegionState) → OneIsUnderWay o g → all_written o ≡ true → IsSomeAnd o (λ o. IsOpen g o.txn o.block)

pub record WritesNext (o : Option Operation) (g : RegionState) (goes : Bool) (p : Option Operation) (h : RegionState) : Type 0 where
  pub under_way : OneIsUnderWay p h
  pub same : IfSome o (λ o. IsSomeAnd p (λ p. (p.txn ≡ o.txn) × (p.block ≡ o.block)))
  pub some : IfSome o (λ o. goes ≡ not (o.left == 0))
  pub step : goes ≡ true → IfSome o (λ o. IsSomeAnd p (λ p. p.taken ≡ o.taken + 1)) × IsUpdated g h
  -- so who writes them one by one comes to an end
  pub fewer : goes ≡ true → words_left p < words_left o
  -- then the operation is open, and its block may be logged
  pub none : goes ≡ false → (h ≡ g) × (p ≡ o) × IsSomeAnd p (λ p. IsOpen h p.txn p.block)
