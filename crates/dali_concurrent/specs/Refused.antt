-- What makes a refusal right, by the value in hand: so it lands.
--     MeetsFor .. act u why    wherever the history has come, the client c is refused so with cause, in the act, within the transaction u if it is in one
--     RefusalLands             then the deed Meets lands
--     StoppedFor               by the system in hand, which is stopped
--     FullFor                  by the system in hand, in whose log a record lacks room that the rules allow next
--     DamagedFor               by the region in hand, whose words differ from its codeword, where its client would go on there
--     UnderWayFor              by the system in hand, where another client's checkpoint is under way
use Rattle.std.specs.Prelude.{◌≡◌, ℕ, ◌+◌, ◌<◌, ◌==◌, true, false, bit_xor, List, [], ◌∷◌, Option, Some, None, length, slice_get}
use Rattle.dali_record.specs.declared.operations.Block.{Block}
use Rattle.dali_record.specs.declared.records.Call.{Call}
use Rattle.dali_record.specs.declared.records.Record.{Record}
use Rattle.dali_record.specs.Spelling.{record_length, CanBeSpelled}
use Rattle.dali_region.specs.State.{RegionState}
use Rattle.dali_runs.specs.declared.causes.Cause.{Cause}
use Rattle.dali_runs.specs.State.{SystemState}
use Rattle.dali_runs.specs.Run.{Bases}
use Rattle.dali_crash.specs.Checkpoints.{Point}
use Rattle.dali_transcripts.specs.Words.{Act, Calls, Audits, Checkpoints, Why, StoppedBy, Full, Damaged, UnderWay}
use Rattle.dali_transcripts.specs.World.{Meets, World, under_way}
use Rattle.dali_transcripts.specs.Causes.{GoesOn, IsRoomFor, CanStop, IsCause}
use Rattle.dali_transcripts.specs.Telling.Laws.{IsNoFault}
use Rattle.dali_transcripts.specs.Telling.Tells.{after}
use Rattle.dali_concurrent.specs.Entries.{Did, deeds_of}
use Rattle.dali_concurrent.specs.Rules.{Outset, log_by}
use Rattle.dali_concurrent.specs.Told.{Leaves, History, plain, core_told, world_told}
use Rattle.dali_concurrent.specs.Landing.{Stands, Lands}
use Rattle.dali_concurrent.specs.Holds.{IsLed}

-- the world with the refusal
abbrev pub refused_in : Outset → History → ℕ → Why → World
refused_in o T c why = after (world_told o T) c (Meets why ∷ []) (core_told o T)

abbrev pub MeetsFor : Bases → Point → Outset → History → ℕ → Act → Option ℕ → Why → Type 0
MeetsFor bases p o T c act u why = (q : Point) → Stands bases p o T q → IsCause (refused_in o T c why) c (length (deeds_of (plain T))) act u why

abbrev pub RefusalLands : Type 0
RefusalLands =
    (bases : Bases) (p : Point) (o : Outset) (T : History) (ks : List ℕ) (c : ℕ) (act : Act) (u : Option ℕ) (why : Why) → IsNoFault why
    → MeetsFor bases p o T c act u why → Lands bases p o T (ks, (Did (Meets why) c, Leaves, []))

abbrev pub StoppedFor : Type 0
StoppedFor =
    (bases : Bases) (p : Point) (o : Outset) (T : History) (c : ℕ) (act : Act) (u : Option ℕ) (cause : Cause) (y : SystemState) → y ≡ (core_told o T).system
    → y.stop ≡ Some cause → CanStop act → MeetsFor bases p o T c act u (StoppedBy cause)

-- an audit's begin has some room that others lack
abbrev pub limit_for : SystemState → Act → ℕ
limit_for y Audits = y.limit + 1048576
limit_for y Checkpoints = y.limit + 1048576
limit_for y act = y.limit

abbrev pub FullFor : Type 0
FullFor =
    (bases : Bases) (p : Point) (o : Outset) (T : History) (c : ℕ) (act : Act) (u : Option ℕ) (x : Record) (y : SystemState) → IsLed bases p o T → y ≡ (core_told o T).system
    → y.stop ≡ None → IsRoomFor y.sizes (log_by o (plain T)) act u x → CanBeSpelled x → limit_for y act < y.end + record_length x
    → MeetsFor bases p o T c act u (Full y.end (limit_for y act))

abbrev pub DamagedFor : Type 0
DamagedFor =
    (bases : Bases) (p : Point) (o : Outset) (T : History) (c t codeword found : ℕ) (call : Call) (b : Block) (g : RegionState) → IsLed bases p o T → o.precheck ≡ true
    → slice_get (core_told o T).regions b.region ≡ Some g → bit_xor codeword found ≡ g.stray → (codeword == found) ≡ false
    → GoesOn o.old.system.sizes (log_by o (plain T)) t call b
    → MeetsFor bases p o T c (Calls call) (Some t) (Damaged b.region codeword found)

abbrev pub UnderWayFor : Type 0
UnderWayFor =
    (bases : Bases) (p : Point) (o : Outset) (T : History) (c : ℕ) (u : Option ℕ) (y : SystemState) → y ≡ (core_told o T).system
    → y.checking ≡ true → (under_way (deeds_of (plain T)) ≡ Some c → ⊥)
    → MeetsFor bases p o T c Checkpoints u UnderWay
