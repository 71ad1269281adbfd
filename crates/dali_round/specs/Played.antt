-- How far a round has come, or where it was cut.
--     IsNew b k                the client of a block at its begin
--     AreNew bs ks             the clients of blocks
--     AreOver ks               each client is done
--     IsSeated ok ..           a client stands between two steps, or, where memory was wanted, in one that was cut short
--     PlayedSo IsAt AreOwned ..
--                              the round of these blocks has come from the point p to where the core stands, with these
--                              clients: IsAt holds of each of them at its place, and AreOwned holds
--     Played ok ..             so it has: each client is seated, and, where ok, EachIsOwned holds
--     IsHalting from i ..      a client stands in a step that may be cut there; or it isn't asked yet, and stands between two steps or is gone
--     Halting from ..          the round makes no steps more, and the clients before this place were asked to end what can't be cut
--     MoveGoes ok ..           a step of a client, or none; where memory was wanted it is gone then
--     PlayGoes ok ..           the round goes on from wherever it began, or makes no steps more
--     HaltsGo ..               then all are asked, wherever that was
--     HavePlaces ks gs v       of each client and the image files is so what a step asks for, whatever log there is
use Rattle.std.specs.Prelude.{◌≡◌, ◌⊎◌, ◌≤◌, ⊤, ℕ, Bool, true, false, ◌==◌, List, Option, Some, None, length, map, slice_get, IfSome}
use Rattle.std.specs.List.{list_all}
use Rattle.dali_record.specs.declared.records.Record.{Record}
use Rattle.dali_region.specs.State.{RegionState}
use Rattle.dali_store.specs.Store.{Files as Disk}
use Rattle.dali_store.specs.declared.store.Store.{Ghosts}
use Rattle.dali_runs.specs.State.{SystemState, state_of, log_after}
use Rattle.dali_crash.specs.Checkpoints.{StoreStep, Point, IsPointCourse}
use Rattle.dali_crash.specs.Traces.{Start}
use Rattle.dali_core.specs.Vault.Vaulted.{Vaulted}
use Rattle.dali_core.specs.Cores.{HoldsPlaces}
use Rattle.dali_transactions.specs.Beside.Went.{is_open}
use Rattle.dali_transcripts.specs.World.{Happening, World}
use Rattle.dali_transcripts.specs.Transcripts.{Told, is_among}
use Rattle.dali_transcripts.specs.Rounds.{Standing, AreBlocks, told_of}
use Rattle.dali_transcripts.specs.declared.clients.command.Block.{Block}
use Rattle.dali_transcripts.specs.Clients.Said.{silent}
use Rattle.dali_turns.specs.declared.client.Client.{Client}
use Rattle.dali_turns.specs.declared.client.State.TheVariants.{Outside, Gone}
use Rattle.dali_turns.specs.Clients.{is_over}
use Rattle.dali_turns.specs.Stood.{Stood}
use Rattle.dali_turns.specs.Fits.{Speaks, Owns}
use Rattle.dali_turns.specs.Goes.{Came}
use Rattle.dali_turns.specs.Turns.{AreReceipts, TurnGoes}
use Rattle.dali_turns.specs.Places.{ReachesNext}

pub record IsNew (b : Block) (k : Client) : Type 0 where
  pub rest : k.rest.now ≡ b.commands.items
  pub state : k.state ≡ Outside
  pub transcript : k.transcript ≡ silent b.client

pub record AreNew (bs : List Block) (ks : List Client) : Type 0 where
  pub count : length ks ≡ length bs
  pub each : (i : ℕ) (b : Block) (k : Client) → slice_get bs i ≡ Some b → slice_get ks i ≡ Some k → IsNew b k

abbrev pub AreOver : List Client → Type 0
AreOver ks = (i : ℕ) (k : Client) → slice_get ks i ≡ Some k → is_over k.state (length k.rest.now == 0) ≡ true

pub record HavePlaces {V : Type 0} (told : V → Option Disk) (ks : List Client) (gs : List RegionState) (v : Vaulted V) : Type 0 where
  pub files : IfSome (told v.store) (HoldsPlaces gs)
  pub next : (i : ℕ) (k : Client) → slice_get ks i ≡ Some k → ReachesNext told k.state v

-- while the engine runs each transaction that is live or committed is a client's
abbrev pub EachIsOwned : List Client → SystemState → Type 0
EachIsOwned ks y = y.stop ≡ None → (t : ℕ) → is_open (state_of y t) ≡ true → (i : ℕ) × (k : Client) × (slice_get ks i ≡ Some k) × Owns k.state t

module _ {V : Type 0} (means : Ghosts V) where
  pub record IsSeated (ok : Bool) (s : Start) (B : List (List Record)) (p : Point) (w : World) (gs : List RegionState) (y : SystemState) (v : Vaulted V) (a : Standing) (k : Client) : Type 0 where
    pub is : Speaks w a k
    pub came : Came means ok s B p w gs y v a k
    pub receipts : AreReceipts ok w k

  pub record PlayedSo (IsAt : ℕ → Start → List (List Record) → Point → World → List RegionState → SystemState → Vaulted V → Standing → Client → Type 0) (AreOwned : Type 0)
      (precheck : Bool) (s : Start) (p : Point) (bs : List Told) (ks : List Client) (gs : List RegionState) (y : SystemState) (v : Vaulted V) : Type 0 where
    pub are : AreBlocks bs
    pub log : p.log ≡ log_after s.log p.core.system
    pub to : Point
    pub batches : List (List Record)
    pub steps : List StoreStep
    pub course : IsPointCourse p steps to
    pub world : World
    pub old_is : world.old ≡ p.core
    pub before_is : world.before ≡ p.log
    pub stood : Stood means s batches to world precheck gs y v
    -- nothing is done but by these clients
    pub owners : list_all (λ (x : Happening). is_among bs x.1) world.happened ≡ true
    pub standings : List Standing
    pub blocks : map told_of standings ≡ bs
    pub count : length ks ≡ length standings
    pub seats : (i : ℕ) (a : Standing) (k : Client) → slice_get standings i ≡ Some a → slice_get ks i ≡ Some k → IsAt i s batches to world gs y v a k
    pub owned : AreOwned

  abbrev pub Played : (ok precheck : Bool) → Start → Point → List Told → List Client → List RegionState → SystemState → Vaulted V → Type 0
  Played ok precheck s p bs ks gs y v = PlayedSo (λ (i : ℕ). IsSeated ok) (ok ≡ true → EachIsOwned ks y) precheck s p bs ks gs y v

  -- ---- the round makes no steps more
  abbrev pub IsHalting : (from i : ℕ) → Start → List (List Record) → Point → World → List RegionState → SystemState → Vaulted V → Standing → Client → Type 0
  IsHalting from i s B p w gs y v a k = ((from ≤ i → k.state ≡ Gone) × IsSeated false s B p w gs y v a k) ⊎ ((from ≤ i) × IsSeated true s B p w gs y v a k)

  abbrev pub Halting : (from : ℕ) → (precheck : Bool) → Start → Point → List Told → List Client → List RegionState → SystemState → Vaulted V → Type 0
  Halting from precheck s p bs ks gs y v = PlayedSo (IsHalting from) ⊤ precheck s p bs ks gs y v

  abbrev pub Plays : Bool → Bool → Start → Point → List Told → List Client → List RegionState → SystemState → Vaulted V → Type 0
  Plays true precheck s p bs ks gs y v = Played true precheck s p bs ks gs y v
  Plays false precheck s p bs ks gs y v = Halting 0 precheck s p bs ks gs y v

  abbrev pub MoveGoes : Bool → Client → List RegionState → SystemState → Vaulted V → Bool → Client → List RegionState → SystemState → Vaulted V → Type 0
  MoveGoes precheck k gs y v true j hs z u = TurnGoes means precheck k gs y v true j hs z u ⊎ ((j ≡ k) × (hs ≡ gs) × (z ≡ y) × (u ≡ v))
  MoveGoes precheck k gs y v false j hs z u = (i : Client) × TurnGoes means precheck k gs y v false i hs z u × (j ≡ record i { state = Gone })

  abbrev pub PlayGoes : Bool → List Client → List RegionState → SystemState → Vaulted V → Bool → List Client → List RegionState → SystemState → Vaulted V → Type 0
  PlayGoes precheck ks gs y v ok js hs z u = (s : Start) (p : Point) (bs : List Told) → Played true precheck s p bs ks gs y v → Plays ok precheck s p bs js hs z u

  abbrev pub HaltsGo : Bool → List Client → List RegionState → SystemState → Vaulted V → List RegionState → SystemState → Vaulted V → Type 0
  HaltsGo precheck ks gs y v hs z u = (s : Start) (p : Point) (bs : List Told) → Halting 0 precheck s p bs ks gs y v → Played false precheck s p bs ks hs z u
