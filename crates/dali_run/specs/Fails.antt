-- How a command fails, and what it leaves of the store then.
--     StoreFails old f            calls of the store were answered by failures, and the fuse failed no more calls than before
--     LostOver, Lost blocks .. f  nothing of a round was done, or the round of these blocks led so far, and this is its store
--     KeepsCount, HidesNone old f the count stayed, if the fuse failed no call
--     FailsAlone act c f          the store failed in a poke, an audit or a checkpoint
--     AloneEnds, AloneEndsIn halt act .. f     how one ends a run
--     FailsComparison halt c f    how a comparison with a replay ends a run
--     HaltsWith                   how a restart does that hands out no core
--     Breaks command old f        what a command that doesn't come to its end leaves of the store
--     StoreFailsIn command old f  how one ends with a failure of the store
--     Opens, IsSize               the commands that look for a database, or make one
--     LooksAtFiles                those that read the files
--     IsBadFor command fs file at the files are bad at this place, as this command finds
--     Fails halt command old f    a command that ends the run with this
use Rattle.std.specs.Prelude.{◌≡◌, ◌⊎◌, ◌<◌, ◌≤◌, ℕ, Bool, true, List, None, IfSome, map}
use Rattle.std.specs.List.{list_any}
use Rattle.dali_log.specs.Batch.{IsUnformatted}
use Rattle.dali_log.specs.Log.{BadAt}
use Rattle.dali_log.specs.Reads.{OnlyReads}
use Rattle.dali_transcripts.specs.Clients.Said.{Transcribed}
use Rattle.dali_inspect.specs.Inspected.{IsTooLong}
use Rattle.dali_fuse.specs.Fuse.{inner, failed_of}
use Rattle.dali_fuse.specs.declared.fuse.Fuse.{Fuse}
use Rattle.dali_restart.specs.declared.error.RestartError.{RestartError}
use Rattle.dali_restart.specs.declared.error.RestartError.TheVariants.{Fault}
use Rattle.dali_restart.specs.Restarting.{IsBadAnywhere}
use Rattle.dali_script.specs.declared.commands.Command.{Command}
use Rattle.dali_script.specs.declared.commands.Command.TheVariants.{Size, Open, Round, Poke, Audit, Checkpoint, Crash, Restart, Verify, Next, Fuse as SetFuse}
use Rattle.dali_store.specs.Faults.{Rose}
use Rattle.dali_store.specs.Store.{Files}
use Rattle.dali_store.specs.declared.store.FileName.{FileName}
use Rattle.dali_store.specs.declared.store.FileName.TheVariants.{Log}
use Rattle.dali_store.specs.declared.store.Store.{Ghosts}
use Rattle.dali_transcripts.specs.Words.{Act, Pokes, Audits, Checkpoints}
use Rattle.dali_transcripts.specs.Transcripts.{Told}
use Rattle.dali_core.specs.declared.whole.Core.{Core}
use Rattle.dali_core.specs.Cores.{IsNoShorter}
use Rattle.dali_run.specs.declared.halt.Halt.{Halt}
use Rattle.dali_run.specs.declared.halt.Halt.TheVariants.{StoreFault, BadStore, Unformatted, Formatted, StoreUnsteady, RecordTooLong, OutOfMemory}
use Rattle.dali_run.specs.declared.program.Program.{Program}
use Rattle.dali_run.specs.declared.program.Program.TheVariants.{Up, Down}
use Rattle.dali_run.specs.Halts.{halt_of_restart}
use Rattle.dali_run.specs.Program.{store_of, told_in, leaves_in, moment_in, since_in, faults_in}
use Rattle.dali_run.specs.Steps.{Plays, RightWithin, LeavesLess, Makes, Rereads}
use Rattle.dali_run.specs.Texts.{says_failure}
use Rattle.dali_run.specs.Told.{told_by, alone}

abbrev pub Opens : Command → Type 0
Opens Open = Unit {0}
Opens Restart = Unit {0}
Opens _ = ⊥

-- those that read the log's file, and what is bad of the files where they end the run so: any of them, or the log
abbrev pub LooksAtFiles : Command → Type 0
LooksAtFiles Open = Unit {0}
LooksAtFiles Restart = Unit {0}
LooksAtFiles Verify = Unit {0}
LooksAtFiles _ = ⊥

abbrev pub IsBadFor : Command → Files → FileName → ℕ → Type 0
IsBadFor Verify fs file at = (file ≡ Log) × BadAt fs.log at
IsBadFor _ fs file at = IsBadAnywhere fs file at

abbrev pub IsSize : Command → Type 0
IsSize (Size index heap) = Unit {0}
IsSize _ = ⊥

-- how a restart is answered that hands out no core: by its error, by a failure of the store only where the fuse had failed as many calls before; or there
-- is no memory for the line that the fuse failed one
abbrev pub HaltsWith : RestartError → ℕ → ℕ → Halt → Type 0
HaltsWith error before now halt =
    ((halt ≡ halt_of_restart error) × (error ≡ Fault → now ≤ before)) ⊎ ((halt ≡ OutOfMemory) × (error ≡ Fault) × (before < now))

module _ {V : Type 0} (g : Ghosts V) where
  -- so the count of the handed-in store rose, or both counts together stand at their type's end
  pub record StoreFails (old f : Fuse V) : Type 0 where
    pub rose : Rose (faults_in g old) (faults_in g f)
    pub none_by_fuse : failed_of f ≤ failed_of old

module _ {V : Type 0} (g : Ghosts V) (precheck : Bool) where
  pub record Played (blocks : List Told) (c : Core (Fuse V)) (f : Fuse V) : Type 0 where
    pub whole : Bool
    pub transcripts : List Transcribed
    pub core : Core (Fuse V)
    pub plays : Plays g precheck whole blocks c transcripts core
    pub longer : IsNoShorter (told_in g) c.vault core.vault
    pub moments : RightWithin g c core
    pub store : f ≡ core.vault.store

  abbrev pub LostOver : List Told → Core (Fuse V) → Fuse V → Type 0
  LostOver blocks c f = (f ≡ c.vault.store) ⊎ Played blocks c f

  abbrev pub Lost : List Told → Program V → Fuse V → Type 0
  Lost blocks (Up core) f = LostOver blocks core f
  Lost blocks (Down store) f = f ≡ store

  pub record FailsAlone (act : Act) (c : Core (Fuse V)) (f : Fuse V) : Type 0 where
    pub transcripts : List Transcribed
    pub core : Core (Fuse V)
    pub plays : Plays g precheck true (alone act) c transcripts core
    pub longer : IsNoShorter (told_in g) c.vault core.vault
    pub moments : RightWithin g c core
    pub said : list_any says_failure transcripts ≡ true
    pub store : f ≡ core.vault.store
    pub none_by_fuse : failed_of f ≤ failed_of c.vault.store

  abbrev pub AloneFails : Act → Program V → Fuse V → Type 0
  AloneFails act (Up core) f = FailsAlone act core f
  AloneFails act (Down store) f = ⊥

  abbrev pub AloneEnds : Halt → Act → Core (Fuse V) → Fuse V → Type 0
  AloneEnds StoreFault act c f = FailsAlone act c f
  AloneEnds OutOfMemory act c f = LostOver (alone act) c f
  AloneEnds _ act c f = ⊥

  abbrev pub AloneEndsIn : Halt → Act → Program V → Fuse V → Type 0
  AloneEndsIn halt act (Up core) f = AloneEnds halt act core f
  AloneEndsIn halt act (Down store) f = (halt ≡ OutOfMemory) × (f ≡ store)

module _ {V : Type 0} (g : Ghosts V) where
  -- how a comparison with a replay ends a run: the store was only read
  abbrev pub FailsComparison : Halt → Core (Fuse V) → Fuse V → Type 0
  FailsComparison StoreFault c f =
      StoreFails g c.vault.store f × OnlyReads (told_in g) (moment_in g) (since_in g) (leaves_in g) c.vault.store f
  FailsComparison (BadStore file at) c f =
      IfSome (told_in g c.vault.store) (λ fs. (file ≡ Log) × BadAt fs.log at) × OnlyReads (told_in g) (moment_in g) (since_in g) (leaves_in g) c.vault.store f
      × (faults_in g f ≡ faults_in g c.vault.store)
  FailsComparison OutOfMemory c f =
      OnlyReads (told_in g) (moment_in g) (since_in g) (leaves_in g) c.vault.store f
      × (failed_of f ≤ failed_of c.vault.store → faults_in g f ≡ faults_in g c.vault.store)
  FailsComparison _ c f = ⊥

module _ {V : Type 0} (g : Ghosts V) (precheck : Bool) where
  abbrev pub KeepsCount : Fuse V → Fuse V → Type 0
  KeepsCount old f = faults_in g f ≡ faults_in g old

  -- unless the fuse failed a call
  abbrev pub HidesNone : Fuse V → Fuse V → Type 0
  HidesNone old f = failed_of f ≤ failed_of old → KeepsCount old f

  abbrev pub OnlyRead : Fuse V → Fuse V → Type 0
  OnlyRead old f = OnlyReads (told_in g) (moment_in g) (since_in g) (leaves_in g) old f

  abbrev pub Breaks : Command → Program V → Fuse V → Type 0
  -- memory for a database is taken behind the look at the log, and before a write
  Breaks (Size index heap) old f =
      Makes g index heap (store_of old) f
      × KeepsCount (store_of old) f
      × OnlyRead (store_of old) f
      × IfSome (told_in g (store_of old)) (λ fs. IsUnformatted fs.log)
  Breaks Open old f = Rereads g (store_of old) f × HidesNone (store_of old) f
  Breaks Restart old f = Rereads g (store_of old) f × HidesNone (store_of old) f
  Breaks (Round blocks) old f = Lost g precheck (map told_by blocks) old f
  Breaks (Poke region word mask) old f = Lost g precheck (alone (Pokes region word mask)) old f
  Breaks Audit old f = Lost g precheck (alone Audits) old f
  Breaks Checkpoint old f = Lost g precheck (alone Checkpoints) old f
  Breaks (Crash choice) old f = LeavesLess g (inner (store_of old)) (inner f) × (g.faults (inner f) ≡ g.faults (inner (store_of old)))
  Breaks (SetFuse passes) old f = inner f ≡ inner (store_of old)
  Breaks Verify old f = OnlyRead (store_of old) f × HidesNone (store_of old) f
  Breaks Next old f = ⊥
  Breaks _ old f = f ≡ store_of old

  abbrev pub StoreFailsIn : Command → Program V → Fuse V → Type 0
  StoreFailsIn (Size index heap) old f =
      Rose (faults_in g (store_of old)) (faults_in g f) × Makes g index heap (store_of old) f
  StoreFailsIn Open old f = StoreFails g (store_of old) f × Rereads g (store_of old) f
  StoreFailsIn Restart old f = StoreFails g (store_of old) f × Rereads g (store_of old) f
  StoreFailsIn (Poke region word mask) old f = AloneFails g precheck (Pokes region word mask) old f
  StoreFailsIn Audit old f = AloneFails g precheck Audits old f
  StoreFailsIn Checkpoint old f = AloneFails g precheck Checkpoints old f
  StoreFailsIn Verify old f = StoreFails g (store_of old) f × OnlyRead (store_of old) f
  StoreFailsIn (Crash choice) old f =
      Rose (g.faults (inner (store_of old))) (g.faults (inner f)) × LeavesLess g (inner (store_of old)) (inner f)
  StoreFailsIn _ old f = ⊥

  abbrev pub Fails : Halt → Command → Program V → Fuse V → Type 0
  Fails StoreFault command old f = StoreFailsIn command old f
  Fails (BadStore file at) command old f =
      LooksAtFiles command × IfSome (told_in g (store_of old)) (λ fs. IsBadFor command fs file at) × OnlyRead (store_of old) f × KeepsCount (store_of old) f
  Fails Unformatted command old f =
      Opens command × IfSome (told_in g (store_of old)) (λ fs. IsUnformatted fs.log) × OnlyRead (store_of old) f × KeepsCount (store_of old) f
  Fails Formatted command old f =
      IsSize command × IfSome (told_in g (store_of old)) (λ fs. IsUnformatted fs.log → ⊥) × OnlyRead (store_of old) f × KeepsCount (store_of old) f
  -- of a store that tells its contents the first one never comes
  Fails StoreUnsteady command old f = Opens command × (told_in g (store_of old) ≡ None) × OnlyRead (store_of old) f × KeepsCount (store_of old) f
  Fails RecordTooLong command old f = Opens command × IfSome (told_in g (store_of old)) IsTooLong × OnlyRead (store_of old) f × KeepsCount (store_of old) f
  Fails OutOfMemory command old f = Breaks command old f
  Fails _ command old f = ⊥
