-- What each script has that bytes spell.
--     IsRecord k v, IsPoke r w m   the numbers of a record and of a poke are in their ranges
--     AreInPlace within commands   commands of a block, each where it may stand; within: in a transaction
--     IsRightRound blocks          of clients 1 to 64 each has one block, whose commands are in place
--     IsRightCommand command       its numbers are in their ranges; a round is right
--     begins command               whether it makes or opens a store
--     BeginsOnce script            the first command does, and no other
--     IsRightScript script         it begins once, and all its commands are right
use Rattle.std.specs.Prelude.{◌≡◌, ℕ, ◌^◌, ◌<◌, ◌≤◌, Bool, true, false, List, [], ◌∷◌, Some}
use Rattle.std.specs.List.{slice_get, AllByRecursion}
use Rattle.dali_words.specs.Values.{IsValue}
use Rattle.dali_script.specs.declared.commands.ClientCommand.{ClientCommand}
use Rattle.dali_script.specs.declared.commands.ClientCommand.TheVariants as step
use Rattle.dali_script.specs.declared.commands.Block.{Block}
use Rattle.dali_script.specs.declared.commands.Command.{Command}
use Rattle.dali_script.specs.declared.commands.Command.TheVariants as single

abbrev pub IsRecord : ℕ → List ℕ → Type 0
IsRecord k v = (k < 2 ^ 64) × IsValue v

-- whether there is such a region is seen when it is run
abbrev pub IsPoke : (region word mask : ℕ) → Type 0
IsPoke r w m = (r < 2 ^ 32) × (w < 64) × (1 ≤ m) × (m < 2 ^ 64)

-- ---- rounds
abbrev pub AreInPlace : (within : Bool) → List ClientCommand → Type 0
AreInPlace within [] = Unit {0}
AreInPlace false (step.Begin ∷ later) = AreInPlace true later
AreInPlace true (step.Insert k v ∷ later) = IsRecord k v × AreInPlace true later
AreInPlace true (step.Update k v ∷ later) = IsRecord k v × AreInPlace true later
AreInPlace true (step.Delete k ∷ later) = (k < 2 ^ 64) × AreInPlace true later
AreInPlace true (step.Get k ∷ later) = (k < 2 ^ 64) × AreInPlace true later
AreInPlace true (step.Die n ∷ later) = (1 ≤ n) × (n ≤ 1000000) × AreInPlace true later
AreInPlace true (step.Commit ∷ later) = AreInPlace false later
AreInPlace true (step.Abort ∷ later) = AreInPlace false later
AreInPlace false (step.Poke r w m ∷ later) = IsPoke r w m × AreInPlace false later
AreInPlace false (step.Audit ∷ later) = AreInPlace false later
AreInPlace false (step.Checkpoint ∷ later) = AreInPlace false later
AreInPlace within commands = ⊥

pub record IsRightRound (blocks : List Block) : Type 0 where
  pub numbers : (i : ℕ) (b : Block) → slice_get blocks i ≡ Some b → (1 ≤ b.client) × (b.client ≤ 64)
  pub placed : (i : ℕ) (b : Block) → slice_get blocks i ≡ Some b → AreInPlace false b.commands
  pub apart : (i j : ℕ) (a b : Block) → slice_get blocks i ≡ Some a → slice_get blocks j ≡ Some b → a.client ≡ b.client → i ≡ j

-- ---- scripts
abbrev pub IsRightCommand : Command → Type 0
IsRightCommand (single.Size i h) = (1 ≤ i) × (i ≤ 32768) × (1 ≤ h) × (h ≤ 65536)
IsRightCommand (single.Round blocks) = IsRightRound blocks
IsRightCommand (single.Poke r w m) = IsPoke r w m
IsRightCommand (single.Crash n) = n ≤ 1000000
IsRightCommand (single.Fuse n) = n ≤ 1000000000
IsRightCommand _ = Unit {0}

abbrev pub begins : Command → Bool
begins (single.Size i h) = true
begins single.Open = true
begins _ = false

abbrev pub BeginsOnce : List Command → Type 0
BeginsOnce [] = ⊥
BeginsOnce (command ∷ later) = (begins command ≡ true) × AllByRecursion (λ c. begins c ≡ false) later

pub record IsRightScript (script : List Command) : Type 0 where
  pub right : AllByRecursion IsRightCommand script
  pub once : BeginsOnce script
