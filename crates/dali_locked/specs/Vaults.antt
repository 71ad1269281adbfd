-- What is kept of the vault under its lock, and what its steps tell.
--     no_vault, no_system      those of a round that nobody begins
--     vault_told means v       the vault v as an entry leaves it: how many faults were counted before the run is of where the round began
--     taking y, flushing v, failing v y c      what is told: a frame is taken;  it is flushed;  the store fails under the client c
--     VaultStands .. v T       the vault is where the history has come to, with no frame in hand, and a crash at any moment since the round began left what
--                              restarts right
--     HasFrame .. f v T        so it is but for the frame f, which was taken and isn't flushed
--     HasWritten, HasFault     that frame was flushed, or its flush met a fault, and nobody was told yet
--     IsTold .. v T            the vault stands so, wherever the round began
--     IsVaultNote b n          n is the vault's note
--     IsLogged n, IsDurable n  there is a record with the number n;  it is flushed
--     AllAreDurable b S T      behind T each record is flushed that was logged by S
--     AllAreTaken b S T        or taken
--     SeesFault b e x y        what the client x has seen where its record isn't flushed: that the store failed, by its own note; or nothing
--     VaultBegins              where a round begins with a core, its vault is as told
--     AcknowledgedIsHeld       what was acknowledged is in each log that a crash may leave at any later time
use Rattle.std.specs.Prelude.{◌≡◌, ℕ, ◌<◌, ◌≤◌, List, [], ◌∷◌, ◌++◌, IfSome, Some, length, slice_get}
use Rattle.dali_record.specs.declared.records.Record.{Record}
use Rattle.dali_region.specs.State.{RegionState}
use Rattle.dali_store.specs.declared.store.Store.{Ghosts}
use Rattle.dali_log.specs.Batch.{Framed}
use Rattle.dali_runs.specs.State.{SystemState, VaultState, taken_to, stable}
use Rattle.dali_runs.specs.Loads.{new_system}
use Rattle.dali_runs.specs.Run.{log_in}
use Rattle.dali_runs.specs.Flushes.{frame_of}
use Rattle.dali_runs.specs.Courses.{Takes, Flushes, Faults, Stops}
use Rattle.dali_crash.specs.Checkpoints.{Does, Point}
use Rattle.dali_crash.specs.Traces.{Start, bases_of}
use Rattle.dali_crash.specs.Disks.Disks.{AllSpell}
use Rattle.dali_transcripts.specs.Words.{StoreFailed}
use Rattle.dali_transcripts.specs.World.{Meets}
use Rattle.dali_core.specs.Vault.Vaulted.{Vaulted}
use Rattle.dali_core.specs.Vault.Stepped.{IsFrameOf}
use Rattle.dali_core.specs.Steps.At.{IsVault}
use Rattle.dali_core.specs.Steps.Said.{HasFlushed, FlushHasFailed}
use Rattle.dali_core.specs.Cores.{IsNoShorter}
use Rattle.dali_core.specs.declared.vault.error.VaultError.TheVariants.{Fault, Stopped}
use Rattle.dali_notes.specs.History.{Sight, IsSeen}
use Rattle.dali_concurrent.specs.Entries.{Did, Took, Flushed, system_note, vault_note, client_note}
use Rattle.dali_concurrent.specs.Rules.{Outset, log_by}
use Rattle.dali_concurrent.specs.Told.{OnSystem, OnVault, OnStop, Item, History, plain, core_told}
use Rattle.dali_concurrent.specs.Landing.{BeginsAt}
use Rattle.dali_concurrent.specs.Kept.{AllFollow}
use Rattle.dali_concurrent.specs.Stored.{NoneInHand}
use Rattle.dali_concurrent.specs.Moments.{VaultMoments}
use Rattle.dali_concurrent.specs.Calls.{VaultAt}
use Rattle.dali_locked.specs.Begun.{Begun, FromEach, Led, outset}
use Rattle.dali_locked.specs.Beginnings.{BeginsWith}
use Rattle.dali_locked.specs.Sights.{ClientSight}
use Rattle.dali_locked.specs.declared.vault.FlushError.{FlushError}
use Rattle.dali_locked.specs.declared.vault.FlushError.TheVariants.{Store, Unfit}

abbrev pub no_vault : {V : Type 0} → Vaulted V → Type 0
no_vault v = ⊥

abbrev pub no_system : SystemState
no_system = new_system (record { index = 0; heap = 0 }) 0 0 0 0

abbrev pub vault_told : {V : Type 0} → Ghosts V → Vaulted V → VaultState
vault_told means v = record { stopped = v.stopped; end = v.end; flushed = v.flushed; current = v.current; faults_then = 0; faults = means.faults v.store }

-- ---- entries
abbrev pub taking : SystemState → Item
taking y = (Took, OnSystem y, Does Takes ∷ [])

abbrev pub flushing : VaultState → Item
flushing v = (Flushed, OnVault v, Does Flushes ∷ [])

abbrev pub failing : VaultState → SystemState → ℕ → Item
failing v y c = (Did (Meets StoreFailed) c, OnStop v y, Does (Faults v.faults) ∷ Does Stops ∷ [])

-- began: the vaults with which the round may have begun
module _ {V : Type 0} (means : Ghosts V) (began : Vaulted V → Type 0) where
  pub record VaultStands (s : Start) (p : Point) (o : Outset) (v : Vaulted V) (T : History) : Type 0 where
    pub batches : List (List Record)
    pub at : VaultAt means s batches p o v T
    pub none : NoneInHand means o v T
    pub moments : (u : Vaulted V) → began u → VaultMoments means s p o u v T
    pub told : IsVault means.faults v (core_told o T).vault

  pub record HasFrame (s : Start) (p : Point) (o : Outset) (f : Framed) (v : Vaulted V) (T : History) : Type 0 where
    pub batches : List (List Record)
    pub at : VaultAt means s batches p o v T
    pub frame : IsFrameOf f (frame_of (log_by o (plain T)) (core_told o T))
    pub moments : (u : Vaulted V) → began u → VaultMoments means s p o u v T
    pub told : IsVault means.faults v (core_told o T).vault

  -- the vault was v then
  pub record HasWritten (s : Start) (p : Point) (o : Outset) (f : Framed) (v w : Vaulted V) (T : History) : Type 0 where
    pub has : HasFrame s p o f v T
    pub said : HasFlushed means v f w
    pub moments : (u : Vaulted V) → began u → VaultMoments means s p o u w T

  pub record HasFault (s : Start) (p : Point) (o : Outset) (f : Framed) (v w : Vaulted V) (T : History) : Type 0 where
    pub has : HasFrame s p o f v T
    pub said : FlushHasFailed means v f w
    pub longer : IsNoShorter means.told v w
    pub moments : (u : Vaulted V) → began u → VaultMoments means s p o u w T

  abbrev pub IsTold : Begun → Vaulted V → History → Type 0
  IsTold b v T = FromEach b (λ s p. VaultStands s p (outset b s p) v T)

abbrev pub IsVaultNote : Begun → Sight Item → Type 0
IsVaultNote b n = (n.table ≡ b.table) × (n.number ≡ vault_note) × Led b n.seen

-- ---- what is flushed
abbrev pub IsLogged : ℕ → Outset → History → Type 0
IsLogged n o T = n < length (log_by o (plain T))

abbrev pub IsDurable : ℕ → Outset → History → Type 0
IsDurable n o T = n < stable (core_told o T)

abbrev pub AllAreTaken : Begun → History → History → Type 0
AllAreTaken b S T = FromEach b (λ s p. length (log_by (outset b s p) (plain S)) ≤ taken_to (core_told (outset b s p) T).system)

abbrev pub AllAreDurable : Begun → History → History → Type 0
AllAreDurable b S T = FromEach b (λ s p. length (log_by (outset b s p) (plain S)) ≤ stable (core_told (outset b s p) T))

-- ---- where it isn't
-- the client of x is told first, behind entries of others
pub record HasStopped (b : Begun) (x y : ClientSight) : Type 0 where
  pub id : y.id ≡ x.id
  pub now : History
  pub seen : IsSeen now (client_note b.count x.id) x.seen
  pub vault : VaultState
  pub system : SystemState
  pub last : y.seen ≡ now ++ (client_note b.count x.id ∷ system_note ∷ vault_note ∷ [], failing vault system x.id) ∷ []

abbrev pub SeesFault : Begun → FlushError → ClientSight → ClientSight → Type 0
SeesFault b (Store Fault) x y = HasStopped b x y
SeesFault b (Store Stopped) x y = y ≡ x
SeesFault b Unfit x y = FromEach b (λ s p. ⊥)

-- ---- laws
module _ {V : Type 0} (means : Ghosts V) where
  pub record VaultIs (began : Vaulted V → Type 0) (b : Begun) (n : ℕ) (v : Vaulted V) : Type 0 where
    pub told : IsTold means began b v []
    pub first : FromEach b (λ s p. p.core.system.first ≡ n)

  abbrev pub VaultBegins : (Vaulted V → Type 0) → Begun → Type 0
  VaultBegins began b = (gs : List RegionState) (y : SystemState) (v : Vaulted V) → BeginsWith means b gs y v → ((u : Vaulted V) → began u → u ≡ v) → VaultIs began b y.first v

  -- S: what the client had seen when its record was acknowledged;  T: any later history
  abbrev pub AcknowledgedIsHeld : Type 0
  AcknowledgedIsHeld =
      (s : Start) (B : List (List Record)) (p : Point) (o : Outset) (S R seen : History) (n : ℕ) (x : Record) (v : Vaulted V) → BeginsAt (bases_of s) p o → AllFollow (bases_of s) p o (S ++ R)
      → slice_get (log_by o (plain S)) n ≡ Some x → IsDurable n o S
      → IsSeen (S ++ R) vault_note seen → VaultAt means s B p o v seen
      → IfSome (means.told v.store) (λ _. AllSpell (means.may_leave v.store) (λ F. slice_get (log_in F) n ≡ Some x))
