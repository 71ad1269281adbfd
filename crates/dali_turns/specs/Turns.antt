-- A step of a client with the receipts of what it logged in it.
--     own_numbers w k          the numbers of all records that the client logged in the round
--     AreReceipts ok w k       its receipts are these, or the first of them where memory was wanted
--     Turned ..                a step, behind which they are so
--     TurnGoes ..              so it is from each run, world and standing, where they were all before
--     Halted ..                the client makes no step more: what it stands in may be cut there, and it logged nothing
--     HaltGoes ..              so it is from each run, world and standing
use Rattle.std.specs.Prelude.{◌≡◌, ℕ, Bool, true, false, List, ◌++◌, Option}
use Rattle.dali_record.specs.declared.records.Record.{Record}
use Rattle.dali_region.specs.State.{RegionState}
use Rattle.dali_store.specs.Store.{Files as Disk}
use Rattle.dali_store.specs.declared.store.Store.{Ghosts}
use Rattle.dali_runs.specs.State.{SystemState}
use Rattle.dali_crash.specs.Checkpoints.{Point}
use Rattle.dali_crash.specs.Traces.{Start}
use Rattle.dali_core.specs.Vault.Vaulted.{Vaulted}
use Rattle.dali_transcripts.specs.World.{World}
use Rattle.dali_transcripts.specs.Transcripts.{deeds_of, numbers_of}
use Rattle.dali_transcripts.specs.Rounds.{Standing}
use Rattle.dali_turns.specs.declared.client.Client.{Client}
use Rattle.dali_turns.specs.Stood.{Stood}
use Rattle.dali_turns.specs.declared.client.State.{State}
use Rattle.dali_turns.specs.Fits.{rest_of, Speaks, IsOf, Fits}
use Rattle.dali_turns.specs.Goes.{Went}

abbrev pub own_numbers : World → Client → List ℕ
own_numbers w k = numbers_of (deeds_of w k.transcript.client)

abbrev pub AreReceipts : Bool → World → Client → Type 0
AreReceipts true w k = k.transcript.receipts ≡ own_numbers w k
AreReceipts false w k = (lacking : List ℕ) × (own_numbers w k ≡ k.transcript.receipts ++ lacking)

module _ {V : Type 0} (means : Ghosts V) where
  pub record Turned (precheck : Bool) (s : Start) (B : List (List Record)) (p : Point) (w : World) (a : Standing) (k : Client) (gs : List RegionState) (y : SystemState) (v : Vaulted V)
      (ok : Bool) (j : Client) (hs : List RegionState) (z : SystemState) (u : Vaulted V) : Type 0 where
    pub went : Went means precheck s B p w a k.state gs y v ok j hs z u
    pub receipts : AreReceipts ok went.world j

  abbrev pub TurnGoes : Bool → Client → List RegionState → SystemState → Vaulted V → Bool → Client → List RegionState → SystemState → Vaulted V → Type 0
  TurnGoes precheck k gs y v ok j hs z u =
      (s : Start) (B : List (List Record)) (p : Point) (w : World) (a : Standing)
      → Stood means s B p w precheck gs y v → IsOf w a k → Fits means s B p w gs y v a (rest_of k) k.state → AreReceipts true w k
      → Turned precheck s B p w a k gs y v ok j hs z u

  -- whichever state it is taken for
  pub record Halted (precheck : Bool) (state : State) (s : Start) (B : List (List Record)) (p : Point) (w : World) (a : Standing) (k : Client) (gs : List RegionState) (y : SystemState) (v : Vaulted V)
      (hs : List RegionState) (z : SystemState) (u : Vaulted V) : Type 0 where
    pub went : Went means precheck s B p w a state gs y v false k hs z u
    pub numbers : own_numbers went.world k ≡ own_numbers w k

  abbrev pub HaltGoes : Client → List RegionState → SystemState → Vaulted V → List RegionState → SystemState → Vaulted V → Type 0
  HaltGoes k gs y v hs z u =
      (precheck : Bool) (state : State) (s : Start) (B : List (List Record)) (p : Point) (w : World) (a : Standing)
      → Stood means s B p w precheck gs y v → Speaks w a k → Fits means s B p w gs y v a (rest_of k) k.state
      → Halted precheck state s B p w a k gs y v hs z u
