-- The steps on one region, and the operation that is open there.
--     IsOpen g owner b         the region's hold is the operation b of this owner, done but for its logging
--     RegionStep, region_after x g      the steps that change one region and log nothing, and what each leaves
--     MayChange x g            the step x may be taken on the region g
--     is_alive o               the state of a transaction, if it is in the table and its client isn't dead
--     IsAlone y x g            the step x is one on the region alone
use Rattle.std.specs.Prelude.{◌≡◌, ◌≢◌, ℕ, ◌<◌, ◌^◌, Bool, true, false, not, ⊤, ◌==◌, Option, Some, None, IsSome}
use Rattle.dali_record.specs.declared.operations.Block.{Block}
use Rattle.dali_record.specs.Blocks.{IsSoundOn, rewritten}
use Rattle.dali_region.specs.declared.Side.{Side}
use Rattle.dali_region.specs.State.{RegionState, IsLive, IsUnwritten, HasRead, latched, with_reads, updated, taken_back, poked, checked, dead}
use Rattle.dali_region.specs.Answers.{cleaned}
use Rattle.dali_att.specs.declared.state.State.{State}
use Rattle.dali_att.specs.declared.state.State.TheVariants.{Dead}
use Rattle.dali_runs.specs.State.{SystemState, state_of}

pub record IsOpen (g : RegionState) (owner : ℕ) (b : Block) : Type 0 where
  pub hold : g.hold ≡ Some (record { txn = owner; dead = false; read = b.read; xor = b.xor; write = b.write })
  -- every operation reads some word
  pub reads : not (b.read == 0) ≡ true
  -- where no stray write came, the block is what its operation gives on the words before it, and its new words stand
  pub sound : g.poked ≡ false → IsSoundOn g.back b
  pub stands : g.poked ≡ false → g.words ≡ rewritten b g.back

pub data RegionStep : Type 0 where
  Latch : (txn : ℕ) → RegionStep
  NoteReads : (mask : ℕ) → RegionStep
  Update : (word value : ℕ) → RegionStep
  TakeBack : RegionStep
  Poke : (word mask : ℕ) → RegionStep
  -- an audit passes the region
  Check : RegionStep
  -- the client that holds it dies, which its transaction's row learns in the same step
  Die : RegionStep
  -- its copy for a checkpoint is written
  Clean : (side : Side) → RegionStep

abbrev pub region_after : RegionStep → RegionState → RegionState
region_after (Latch txn) g = latched txn g
region_after (NoteReads mask) g = with_reads mask g
region_after (Update word value) g = updated word value g
region_after TakeBack g = taken_back g
region_after (Poke word mask) g = poked word mask g
region_after Check g = checked g
region_after Die g = dead g
region_after (Clean side) g = cleaned side g

-- a hold reads before it writes, and writes only words that it has read; a poke changes its word
abbrev pub MayChange : RegionStep → RegionState → Type 0
MayChange (Latch txn) g = g.hold ≡ None
MayChange (NoteReads mask) g = IsUnwritten g × (mask < 2 ^ 64)
MayChange (Update word value) g = HasRead g word × (value < 2 ^ 64)
MayChange TakeBack g = IsSome g.hold
MayChange (Poke word mask) g = (word < 64) × (mask ≢ 0) × (mask < 2 ^ 64)
MayChange Check g = ⊤
MayChange Die g = IsLive g
MayChange (Clean side) g = ⊤

abbrev pub is_alive : Option State → Bool
is_alive None = false
is_alive (Some (Dead latched)) = false
is_alive (Some st) = true

-- a region is latched for a transaction whose client isn't dead; what is latched for one that died is taken back by who claimed it, and a
-- death is a step on the transaction's row too
abbrev pub IsAlone : SystemState → RegionStep → RegionState → Type 0
IsAlone y (Latch txn) g = is_alive (state_of y txn) ≡ true
IsAlone y TakeBack g = IsLive g
IsAlone y Die g = ⊥
IsAlone y x g = ⊤
