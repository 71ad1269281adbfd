-- What a step of one client leaves to the others.
--     AuditStays p q b         what the audit from record b has passed, and that it is open
--     LeavesOthers ..          the transactions that are live or committed and aren't the client's, the audits that it isn't in, and a checkpoint that it doesn't make
--     OthersFit                so a client that fits a world fits it behind a step of another one
use Rattle.std.specs.Prelude.{◌≡◌, ℕ, ◌<◌, Bool, true, false, List, Option, length}
use Rattle.dali_record.specs.declared.records.Record.{Record}
use Rattle.dali_region.specs.State.{RegionState}
use Rattle.dali_store.specs.Store.{Files as Disk}
use Rattle.dali_store.specs.declared.store.Store.{Ghosts}
use Rattle.dali_runs.specs.State.{SystemState, state_of}
use Rattle.dali_runs.specs.Audits.{IsAuditing}
use Rattle.dali_crash.specs.Checkpoints.{Head, Point}
use Rattle.dali_crash.specs.Traces.{Start}
use Rattle.dali_core.specs.Vault.Vaulted.{Vaulted}
use Rattle.dali_checkpoint.specs.Kept.{Checkpointed}
use Rattle.dali_checkpoint.specs.Running.{PassesTell, IsCopying, IsSettled}
use Rattle.dali_calls.specs.Stepwise.Beside.{LeavesBe}
use Rattle.dali_transactions.specs.Beside.Went.{is_open}
use Rattle.dali_transcripts.specs.Words.{Act}
use Rattle.dali_transcripts.specs.World.{World, Deed}
use Rattle.dali_transcripts.specs.Rounds.{Standing, Stands}
use Rattle.dali_transcripts.specs.Telling.Tells.{Goes}
use Rattle.dali_turns.specs.declared.client.State.{State}
use Rattle.dali_turns.specs.Stood.{Stood}
use Rattle.dali_turns.specs.Fits.{Owns, Audits, Makes, Fits}

pub record AuditStays (p q : Point) (b : ℕ) : Type 0 where
  pub same : q.audits b ≡ p.audits b
  pub opened : IsAuditing p.core.system.sizes p.log b → IsAuditing q.core.system.sizes q.log b

module _ {V : Type 0} (means : Ghosts V) where
  pub record ImageStays (s : Start) (B : List (List Record)) (p : Point) (gs : List RegionState) (y : SystemState) (v : Vaulted V) (C : List (List Record)) (q : Point) (hs : List RegionState) (z : SystemState) (u : Vaulted V) : Type 0 where
    pub flag : z.checking ≡ y.checking
    pub copying : u.stopped ≡ false → (c : Checkpointed) (h : Head) → IsCopying means s B p gs y v c h → IsCopying means s C q hs z u c h
    pub settled : u.stopped ≡ false → (c : Checkpointed) (h : Head) (n : ℕ) → IsSettled means s B p gs y v c h n → IsSettled means s C q hs z u c h n
    pub passes : u.stopped ≡ false → (c : Checkpointed) (h : Head) (n b : ℕ) → IsSettled means s B p gs y v c h n → PassesTell p b → PassesTell q b

  -- by the state of the client before its step
  pub record LeavesOthers (state : State) (s : Start) (B : List (List Record)) (p : Point) (gs : List RegionState) (y : SystemState) (v : Vaulted V) (C : List (List Record)) (q : Point) (hs : List RegionState) (z : SystemState) (u : Vaulted V) : Type 0 where
    pub txns : (t : ℕ) → is_open (state_of y t) ≡ true → (Owns state t → ⊥) → LeavesBe t p.log p.core q.log q.core
    pub audits : (b : ℕ) → b < length p.log → (Audits state b → ⊥) → AuditStays p q b
    pub image : y.checking ≡ true → (Makes state → ⊥) → ImageStays s B p gs y v C q hs z u

  abbrev pub OthersFit : Type 0
  OthersFit =
      (mine yours : State) (s : Start) (B C : List (List Record)) (p q : Point) (w x : World) (gs hs : List RegionState) (y z : SystemState) (v u : Vaulted V) (precheck : Bool) (a b : Standing) (rest : List Act) (ds : List Deed)
      → Stood means s B p w precheck gs y v → Stood means s C q x precheck hs z u
      → Stands w a → Stands w b
      → Fits means s B p w gs y v a rest mine → Fits means s B p w gs y v b (b.spot.rest) yours
      → (a.client ≡ b.client → ⊥) → ((t : ℕ) → Owns mine t → Owns yours t → ⊥)
      → Goes w b.client p ds x q → LeavesOthers yours s B p gs y v C q hs z u
      → Fits means s C q x hs z u a rest mine
