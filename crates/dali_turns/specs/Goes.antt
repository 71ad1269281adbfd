-- What each step function of a client owes, and nothing else.
--     RowsTell ..              behind the step each transaction that is live or committed is the client's, or was so and isn't
--     Came ok ..               it stands where its state says, or, where memory was wanted, in a step that was cut short
--     Went ..                  steps of the core lead from the one world to the other, told by deeds of the client
--     StepGoes ..              so they do from each run, world and standing
--     YieldGoes                the same where it gives way to an older transaction, in the midst of a step
use Rattle.std.specs.Prelude.{◌≡◌, ◌⊎◌, ℕ, Bool, true, false, List, [], Option, None}
use Rattle.dali_record.specs.declared.records.Record.{Record}
use Rattle.dali_region.specs.State.{RegionState}
use Rattle.dali_store.specs.Store.{Files as Disk}
use Rattle.dali_store.specs.declared.store.Store.{Ghosts}
use Rattle.dali_runs.specs.State.{SystemState, state_of}
use Rattle.dali_crash.specs.Checkpoints.{StoreStep, Point, IsPointCourse}
use Rattle.dali_crash.specs.Traces.{Start}
use Rattle.dali_core.specs.Vault.Vaulted.{Vaulted}
use Rattle.dali_transactions.specs.Beside.Went.{is_open}
use Rattle.dali_transcripts.specs.World.{Deed, World}
use Rattle.dali_transcripts.specs.Transcripts.{IsUnderWay}
use Rattle.dali_transcripts.specs.Rounds.{Standing}
use Rattle.dali_transcripts.specs.Telling.Tells.{Goes}
use Rattle.dali_turns.specs.declared.client.Client.{Client}
use Rattle.dali_turns.specs.declared.client.State.{State}
use Rattle.dali_turns.specs.declared.client.State.TheVariants.{Within}
use Rattle.dali_turns.specs.declared.client.Transaction.{Transaction}
use Rattle.dali_turns.specs.Stood.{Stood}
use Rattle.dali_turns.specs.Within.{FitsYielding}
use Rattle.dali_turns.specs.Fits.{rest_of, Speaks, IsOf, Owns, Fits}
use Rattle.dali_turns.specs.Others.{LeavesOthers}

abbrev pub RowsTell : State → SystemState → State → SystemState → Type 0
RowsTell old y new z = z.stop ≡ None → (t : ℕ) → is_open (state_of z t) ≡ true → Owns new t ⊎ ((is_open (state_of y t) ≡ true) × (Owns old t → ⊥))

module _ {V : Type 0} (means : Ghosts V) where
  abbrev pub Came : Bool → Start → List (List Record) → Point → World → List RegionState → SystemState → Vaulted V → Standing → Client → Type 0
  Came true s B p w gs y v a k = Fits means s B p w gs y v a (rest_of k) k.state
  Came false s B p w gs y v a k = IsUnderWay w a.client a.spot a.pending []

  pub record Went (precheck : Bool) (s : Start) (B : List (List Record)) (p : Point) (w : World) (a : Standing) (state : State) (gs : List RegionState) (y : SystemState) (v : Vaulted V)
      (ok : Bool) (k : Client) (hs : List RegionState) (z : SystemState) (u : Vaulted V) : Type 0 where
    pub to : Point
    pub batches : List (List Record)
    pub steps : List StoreStep
    pub course : IsPointCourse p steps to
    pub deeds : List Deed
    pub world : World
    pub goes : Goes w a.client p deeds world to
    pub stood : Stood means s batches to world precheck hs z u
    pub standing : Standing
    pub client : standing.client ≡ a.client
    pub acts : standing.acts ≡ a.acts
    pub is : Speaks world standing k
    pub came : Came ok s batches to world hs z u standing k
    pub rows : ok ≡ true → RowsTell state y k.state z
    pub others : LeavesOthers means state s B p gs y v batches to hs z u

  -- state: where the client stands before the step, which its caller has taken out of it
  abbrev pub StepGoes : Bool → State → Client → List RegionState → SystemState → Vaulted V → Bool → Client → List RegionState → SystemState → Vaulted V → Type 0
  StepGoes precheck state k gs y v ok k' hs z u =
      (s : Start) (B : List (List Record)) (p : Point) (w : World) (a : Standing)
      → Stood means s B p w precheck gs y v → IsOf w a k → Fits means s B p w gs y v a (rest_of k) state
      → Went precheck s B p w a state gs y v ok k' hs z u

  -- ---- in the midst of a step
  abbrev pub YieldGoes : Bool → Transaction → ℕ → Client → List RegionState → SystemState → Vaulted V → Bool → Client → List RegionState → SystemState → Vaulted V → Type 0
  YieldGoes precheck x holder k gs y v ok k' hs z u =
      (s : Start) (B : List (List Record)) (p : Point) (w : World) (a : Standing)
      → Stood means s B p w precheck gs y v → IsOf w a k → FitsYielding p w a (rest_of k) x holder
      → Went precheck s B p w a (Within x) gs y v ok k' hs z u
