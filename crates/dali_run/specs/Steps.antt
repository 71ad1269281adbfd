-- What each command does: a step from one state of the program to the next one, and the text that it prints.
--     Prints line old text new    a line is printed, and nothing changes
--     Plays whole blocks c ts d   a round of these blocks leads from the core c to d, with these transcripts, whatever run has come to c
--     RightWithin c d             whatever a crash at a moment of a round leaves restarts right, as `round` says
--     RunsRound, ActsAlone        a round; a poke, an audit or a checkpoint outside of one, which is a round of one client
--     dead_in y                   the transactions whose clients died, ascending
--     CleansUp t c d              one of them is cleaned up, unless another's clean-up has done so before
--     CleansAll ts c d, HasCleaned c d    all of these, one after another; all that were dead, and none is then
--     Lists c text                the records that the words in memory store, and their number
--     IsRead c d                  the store was read, and nothing is otherwise
--     EndsComparison c text d     the core was compared with a replay of its whole log, or a call of the store failed in it
--     LeavesLess old new          a crash leaves nothing that it might not have left before
--     Makes, Leaves, Rereads f g  what making a database, or a restart, leaves of the files
--     SetsFuse passes f g         the fuse passes so many calls on from now on
--     StepsSize, StepsRestart, StepsRound, StepsAlone, StepsCleanup, StepsShow, StepsVerify, StepsCrash, StepsFuse     one for each command
--     Steps old command text new  any command
use Rattle.std.specs.Prelude.{◌≡◌, ◌⊎◌, ◌↔◌, ◌<◌, ℕ, Bool, true, false, IsTrue, List, [], ◌∷◌, ◌++◌, Option, Some, None, IfSome, is_some, length, map, filter, flat_map}
use Rattle.std.specs.List.{list_any}
use Rattle.std.specs.FinMap as finite
use Rattle.dali_fuse.specs.Fuse.{inner, passes_of, failed_of}
use Rattle.dali_fuse.specs.declared.fuse.Fuse.{Fuse}
use Rattle.dali_record.specs.declared.records.Record.{Record}
use Rattle.dali_calls.specs.Flags.{FlagsStay}
use Rattle.dali_calls.specs.Others.{IsGone}
use Rattle.dali_store.specs.Faults.{Rose}
use Rattle.dali_store.specs.Store.{Files, Only, Elapses}
use Rattle.dali_store.specs.declared.store.Store.{Ghosts}
use Rattle.dali_log.specs.Batch.{IsUnformatted}
use Rattle.dali_log.specs.Formatting.{IsFormattedBy}
use Rattle.dali_log.specs.Reads.{OnlyReads}
use Rattle.dali_runs.specs.declared.causes.Cause.{Cause}
use Rattle.dali_runs.specs.State.{SystemState, state_of}
use Rattle.dali_crash.specs.Checkpoints.{Point}
use Rattle.dali_crash.specs.Traces.{Start}
use Rattle.dali_core.specs.Vault.Vaulted.{with_store}
use Rattle.dali_clean.specs.Cleaned.{AreDead, IsDead}
use Rattle.dali_clean.specs.Others.{OthersStay}
use Rattle.dali_core.specs.declared.whole.Core.{Core}
use Rattle.dali_core.specs.Cleaned.{EndsAt}
use Rattle.dali_core.specs.Cores.{IsWholeCore, IsNoShorter}
use Rattle.dali_restart.specs.declared.restarting.Report.{Report}
use Rattle.dali_restart.specs.Formatted.{first_body, IsNewCore, RunBegins, IsLeft as IsMade}
use Rattle.dali_restart.specs.Restarting.{outcome, Gives, IsReadAs, IsFresh, BeginsRun, LeavesAtRest, StaysIdle, IsLeft}
use Rattle.dali_transcripts.specs.Words.{Act, Pokes, Audits, Checkpoints}
use Rattle.dali_transcripts.specs.World.{is_dead_in}
use Rattle.dali_transcripts.specs.Transcripts.{Told}
use Rattle.dali_transcripts.specs.Clients.Said.{Transcribed}
use Rattle.dali_round.specs.Leads.{lines_in, BeginsAt, RoundLeads}
use Rattle.dali_round.specs.Moments.{RoundLeavesRight}
use Rattle.dali_listing.specs.declared.Listed.{Listed}
use Rattle.dali_listing.specs.Listing.{in_memory, IsListing}
use Rattle.dali_verify.specs.Verified.{IsWholeLog, IsVerified}
use Rattle.dali_script.specs.declared.commands.Block.{Block}
use Rattle.dali_script.specs.declared.commands.Command.{Command}
use Rattle.dali_script.specs.declared.commands.Command.TheVariants.{Size, Open, Round, Poke, Audit, Checkpoint, Cleanup, Crash, Restart, Show, Verify, Next, Fuse as SetFuse}
use Rattle.dali_script.specs.declared.names.Name.{Name}
use Rattle.dali_script.specs.declared.names.Name.TheVariants as names
use Rattle.dali_report.specs.declared.printed.Line.{Line}
use Rattle.dali_report.specs.declared.printed.Line.TheVariants as lines
use Rattle.dali_report.specs.Lines.{texts}
use Rattle.dali_run.specs.declared.program.Program.{Program}
use Rattle.dali_run.specs.declared.program.Program.TheVariants.{Up, Down}
use Rattle.dali_run.specs.Program.{IsDown, PlacesIn, store_of, told_in, leaves_in, moment_in, since_in, faults_in, fused}
use Rattle.dali_run.specs.Texts.{shown, round_lines, alone_texts, says_failure}
use Rattle.dali_run.specs.Told.{told_by, alone, sizes_of}

abbrev pub Prints : {V : Type 0} → Line → Program V → List ℕ → Program V → Type 0
Prints line old text new = (text ≡ texts (line ∷ [])) × (new ≡ old)

-- each client has a transcript, if there are any
abbrev pub TellAll : List Told → List Transcribed → Type 0
TellAll blocks transcripts = (map (λ (t : Transcribed). t.client) transcripts ≡ map (λ (b : Told). b.client) blocks) ⊎ (transcripts ≡ [])

-- ---- the fuse
pub record SetsFuse {V : Type 0} (passes : ℕ) (old new : Fuse V) : Type 0 where
  pub store : inner new ≡ inner old
  pub set : passes_of new ≡ Some passes
  pub failed : failed_of new ≡ failed_of old

abbrev pub FuseIn : {V : Type 0} → ℕ → Program V → Program V → Type 0
FuseIn {V = V} passes (Up core) new = (f : Fuse V) × SetsFuse passes core.vault.store f × (new ≡ Up (record core { vault = with_store core.vault f }))
FuseIn {V = V} passes (Down store) new = (f : Fuse V) × SetsFuse passes store f × (new ≡ Down f)

abbrev pub StepsFuse : {V : Type 0} → ℕ → Program V → List ℕ → Program V → Type 0
StepsFuse passes old text new = FuseIn passes old new × (text ≡ texts (lines.Fuse passes ∷ []))

-- ---- dead transactions
abbrev pub dead_in : SystemState → List ℕ
dead_in y = filter (λ t. is_dead_in (state_of y t)) (finite.keys y.table)

-- nothing but room in memory
pub record IsSame {V : Type 0} (c d : Core (Fuse V)) : Type 0 where
  pub regions : d.regions.items ≡ c.regions.items
  pub system : d.system ≡ c.system
  pub vault : d.vault ≡ c.vault

-- ---- the records in memory
pub record Lists {V : Type 0} (c : Core (Fuse V)) (text : List ℕ) : Type 0 where
  pub rows : List Listed
  pub listing : IsListing c.system.state.sizes (in_memory c.regions.items) rows
  pub printed : text ≡ texts (map shown rows ++ lines.Records (length rows) ∷ [])

-- ---- a comparison with a replay
abbrev pub verdict : Bool → Line
verdict true = lines.VerifyOk
verdict false = lines.VerifyDiffers

module _ {V : Type 0} (g : Ghosts V) where
  pub record HasCleanedUp (t : ℕ) (c d : Core (Fuse V)) : Type 0 where
    pub was : IsDead (state_of c.system.state t)
    pub ends : EndsAt (fused g) c.regions.items c.system.state c.vault t d.regions.items d.system.state
    pub gone : IsGone d.system.state t
    pub others : OthersStay c.regions.items c.system.state t d.regions.items d.system.state
    pub dead : AreDead c.regions.items → AreDead d.regions.items
    pub flags : FlagsStay c.regions.items d.regions.items
    pub vault : d.vault ≡ c.vault

  abbrev pub CleansUp : ℕ → Core (Fuse V) → Core (Fuse V) → Type 0
  CleansUp t c d = HasCleanedUp t c d ⊎ ((IsDead (state_of c.system.state t) → ⊥) × IsSame c d)

  abbrev pub CleansAll : List ℕ → Core (Fuse V) → Core (Fuse V) → Type 0
  CleansAll [] c d = d ≡ c
  CleansAll (t ∷ ts) c d = (mid : Core (Fuse V)) × CleansUp t c mid × CleansAll ts mid d

  pub record HasCleaned (c d : Core (Fuse V)) : Type 0 where
    pub each : CleansAll (dead_in c.system.state) c d
    pub none : (t : ℕ) → IsDead (state_of d.system.state t) → ⊥

  abbrev pub CleanupIn : Option Cause → Core (Fuse V) → List ℕ → Program V → Type 0
  CleanupIn (Some cause) core text new = Prints (lines.Stopped names.Cleanup cause) (Up core) text new
  CleanupIn None core text new =
      (d : Core (Fuse V)) × HasCleaned core d × (new ≡ Up d) × (text ≡ texts (lines.Cleaned (dead_in core.system.state) ∷ []))

  abbrev pub StepsCleanup : Program V → List ℕ → Program V → Type 0
  StepsCleanup (Up core) text new = CleanupIn core.system.state.stop core text new
  StepsCleanup (Down store) text new = Prints (lines.Down names.Cleanup) (Down store) text new

  -- dead transactions are cleaned up first
  abbrev pub ShowIn : Option Cause → Core (Fuse V) → List ℕ → Program V → Type 0
  ShowIn (Some cause) core text new = Prints (lines.Stopped names.Show cause) (Up core) text new
  ShowIn None core text new = (d : Core (Fuse V)) × HasCleaned core d × (new ≡ Up d) × Lists d text

  abbrev pub StepsShow : Program V → List ℕ → Program V → Type 0
  StepsShow (Up core) text new = ShowIn core.system.state.stop core text new
  StepsShow (Down store) text new = Prints (lines.Down names.Show) (Down store) text new

  -- ---- rounds
  module _ (precheck : Bool) where
    abbrev pub Plays : Bool → List Told → Core (Fuse V) → List Transcribed → Core (Fuse V) → Type 0
    Plays whole blocks c transcripts d =
        (s : Start) (B : List (List Record)) (p : Point)
        → BeginsAt (fused g) s B p c.regions.items c.system.state c.vault
        → RoundLeads (fused g) precheck whole s p blocks (map lines_in transcripts) (map (λ t. t.receipts) transcripts)
        d.regions.items d.system.state d.vault

  -- a crash at any moment of a round leaves files that restart right
  abbrev pub RightWithin : Core (Fuse V) → Core (Fuse V) → Type 0
  RightWithin c d =
      RoundLeavesRight (fused g) c.regions.items c.system.state c.vault
      d.regions.items d.system.state d.vault

  module _ (precheck : Bool) where
    -- each client's lines behind its number, by ascending number
    pub record RunsRound (blocks : List Told) (c : Core (Fuse V)) (text : List ℕ) (d : Core (Fuse V)) : Type 0 where
      pub transcripts : List Transcribed
      pub plays : Plays precheck true blocks c transcripts d
      pub longer : IsNoShorter (told_in g) c.vault d.vault
      pub moments : RightWithin c d
      pub places : PlacesIn g d
      pub printed : text ≡ round_lines blocks (map lines_in transcripts)

    -- its lines without a number; where one says that the store failed, the fuse failed a call
    pub record ActsAlone (act : Act) (c : Core (Fuse V)) (text : List ℕ) (d : Core (Fuse V)) : Type 0 where
      pub transcripts : List Transcribed
      pub plays : Plays precheck true (alone act) c transcripts d
      pub longer : IsNoShorter (told_in g) c.vault d.vault
      pub moments : RightWithin c d
      pub places : PlacesIn g d
      pub printed : text ≡ flat_map alone_texts transcripts
      pub by_fuse : list_any says_failure transcripts ≡ true → failed_of c.vault.store < failed_of d.vault.store

    abbrev pub StepsRound : List Block → Program V → List ℕ → Program V → Type 0
    StepsRound blocks (Up core) text new = (d : Core (Fuse V)) × RunsRound (map told_by blocks) core text d × (new ≡ Up d)
    StepsRound blocks (Down store) text new = Prints lines.RoundDown (Down store) text new

    abbrev pub StepsAlone : Name → Act → Program V → List ℕ → Program V → Type 0
    StepsAlone name act (Up core) text new = (d : Core (Fuse V)) × ActsAlone act core text d × (new ≡ Up d)
    StepsAlone name act (Down store) text new = Prints (lines.Down name) (Down store) text new

  -- a crash leaves nothing that it might not have left before, at any moment too
  pub record LeavesLess (old new : V) : Type 0 where
    pub tells : is_some (g.told new) ≡ is_some (g.told old)
    pub crash : (c : Files) → g.may_leave new c → g.may_leave old c
    pub time : Elapses (g.moment old) (g.moment new) (g.left_since old) (g.left_since new) (g.may_leave new)

  -- the files that a database is made in, and those that a restart works on
  abbrev pub Makes : ℕ → ℕ → Fuse V → Fuse V → Type 0
  Makes index heap old new =
      IsMade (fused g) (sizes_of index heap) old new

  abbrev pub Leaves : Fuse V → Fuse V → Type 0
  Leaves old new = IsLeft (fused g) old new

  -- the store was read, and nothing is otherwise
  pub record IsRead (c d : Core (Fuse V)) : Type 0 where
    pub same : d ≡ record c { vault = with_store c.vault d.vault.store }
    pub reads : OnlyReads (told_in g) (moment_in g) (since_in g) (leaves_in g) c.vault.store d.vault.store

  -- whether memory is what a plain replay of the whole log comes to, records that wait to be flushed among them
  pub record Compares (c : Core (Fuse V)) (text : List ℕ) (d : Core (Fuse V)) : Type 0 where
    pub is : Bool
    pub replayed : IfSome (told_in g c.vault.store) (λ fs. (L : List Record) × IsWholeLog fs.log c.system.state L × (IsTrue is ↔ IsVerified c.system.state.sizes (in_memory c.regions.items) L))
    pub read : IsRead c d
    pub kept : faults_in g d.vault.store ≡ faults_in g c.vault.store
    pub printed : text ≡ texts (verdict is ∷ [])

  -- a call of the store failed in it, and the fuse failed one
  pub record ComparisonStops (c : Core (Fuse V)) (text : List ℕ) (d : Core (Fuse V)) : Type 0 where
    pub by_fuse : failed_of c.vault.store < failed_of d.vault.store
    pub rose : Rose (faults_in g c.vault.store) (faults_in g d.vault.store)
    pub read : IsRead c d
    pub printed : text ≡ texts (lines.VerifyStoreStopped ∷ [])

  abbrev pub EndsComparison : Core (Fuse V) → List ℕ → Core (Fuse V) → Type 0
  EndsComparison c text d = Compares c text d ⊎ ComparisonStops c text d

  -- dead transactions are cleaned up first
  abbrev pub VerifyIn : Option Cause → Core (Fuse V) → List ℕ → Program V → Type 0
  VerifyIn (Some cause) core text new = Prints (lines.Stopped names.Verify cause) (Up core) text new
  VerifyIn None core text new = (c : Core (Fuse V)) × (d : Core (Fuse V)) × HasCleaned core c × EndsComparison c text d × (new ≡ Up d)

  abbrev pub StepsVerify : Program V → List ℕ → Program V → Type 0
  StepsVerify (Up core) text new = VerifyIn core.system.state.stop core text new
  StepsVerify (Down store) text new = Prints (lines.Down names.Verify) (Down store) text new

  -- files without a database are only read
  pub record Rereads (old new : Fuse V) : Type 0 where
    pub left : Leaves old new
    pub none : IfSome (told_in g old) (λ fs. IsUnformatted fs.log → OnlyReads (told_in g) (moment_in g) (since_in g) (leaves_in g) old new)

  module _ (limit : ℕ) where
    -- a database is made over a log without batches
    pub record StepsSize (index heap : ℕ) (old : Program V) (text : List ℕ) (new : Program V) : Type 0 where
      pub core : Core (Fuse V)
      pub up : new ≡ Up core
      pub fresh : IsNewCore (sizes_of index heap) limit core.regions.items core.system core.vault
      pub whole : IsWholeCore (told_in g) core.regions.items core.system.state core.vault
      pub begins : RunBegins (fused g) (sizes_of index heap) limit core.regions.items core.system.state core.vault
      pub unformatted : IfSome (told_in g (store_of old)) (λ fs. IsUnformatted fs.log)
      pub makes : IfSome (told_in g (store_of old)) (λ _. (c : Files) → leaves_in g core.vault.store c
          → IsFormattedBy (leaves_in g (store_of old)) (first_body (sizes_of index heap)) c)
      pub left : Makes index heap (store_of old) core.vault.store
      pub kept : faults_in g core.vault.store ≡ faults_in g (store_of old)
      pub silent : text ≡ []

    -- the memory is given up, and the database is found in the files
    pub record Restarts (old : Program V) (text : List ℕ) (new : Program V) : Type 0 where
      pub core : Core (Fuse V)
      pub report : Report
      pub up : new ≡ Up core
      pub gives : IfSome (told_in g (store_of old)) (λ fs. Gives fs (outcome core.regions.items report))
      pub read : IfSome (told_in g (store_of old)) (λ fs. IsReadAs fs (outcome core.regions.items report))
      pub fresh : IsFresh limit core.regions.items core.system core.vault
      pub whole : IsWholeCore (told_in g) core.regions.items core.system.state core.vault
      pub begins : IfSome (told_in g (store_of old)) (λ fs.
          BeginsRun (fused g) limit fs core.regions.items core.system.state core.vault)
      pub rests : IfSome (told_in g (store_of old)) (λ fs. (c : Files) → leaves_in g core.vault.store c → LeavesAtRest fs c)
      pub idle : IfSome (told_in g (store_of old)) (λ fs.
          StaysIdle (told_in g) (leaves_in g) (moment_in g) (since_in g) fs (store_of old) core.vault.store)
      pub left : Leaves (store_of old) core.vault.store
      pub kept : faults_in g core.vault.store ≡ faults_in g (store_of old)
      pub printed : text ≡ texts (lines.RolledBack report.rolled_back.items ∷ lines.Deleted report.deleted.items ∷ [])

    -- a call of the store failed in it, and the fuse failed one
    pub record RestartStops (old : Program V) (text : List ℕ) (new : Program V) : Type 0 where
      pub store : Fuse V
      pub down : new ≡ Down store
      pub by_fuse : failed_of (store_of old) < failed_of store
      pub rose : Rose (faults_in g (store_of old)) (faults_in g store)
      pub left : Rereads (store_of old) store
      pub printed : text ≡ texts (lines.RestartStoreStopped ∷ [])

    abbrev pub StepsRestart : Program V → List ℕ → Program V → Type 0
    StepsRestart old text new = Restarts old text new ⊎ RestartStops old text new

    -- a crash: the fuse is removed, and what the store makes of its files with this choice is all that is left
    pub record StepsCrash (choice : ℕ) (old : Program V) (text : List ℕ) (new : Program V) : Type 0 where
      pub store : V
      pub down : IsDown new store
      pub chosen : g.told store ≡ g.cuts (inner (store_of old)) choice
      pub durable : IfSome (g.told store) (λ fs. Only fs (g.may_leave store))
      pub left : LeavesLess (inner (store_of old)) store
      pub kept : g.faults store ≡ g.faults (inner (store_of old))
      pub printed : text ≡ texts (lines.Crash choice ∷ [])

    module _ (precheck : Bool) where
      abbrev pub Steps : Program V → Command → List ℕ → Program V → Type 0
      Steps old (Size index heap) text new = StepsSize index heap old text new
      Steps old Open text new = StepsRestart old text new
      Steps old (Round blocks) text new = StepsRound precheck blocks old text new
      Steps old (Poke region word mask) text new = StepsAlone precheck names.Poke (Pokes region word mask) old text new
      Steps old Audit text new = StepsAlone precheck names.Audit Audits old text new
      Steps old Checkpoint text new = StepsAlone precheck names.Checkpoint Checkpoints old text new
      Steps old Cleanup text new = StepsCleanup old text new
      Steps old (Crash choice) text new = StepsCrash choice old text new
      Steps old Restart text new = StepsRestart old text new
      Steps old Show text new = StepsShow old text new
      Steps old Verify text new = StepsVerify old text new
      Steps old Next text new = (text ≡ []) × (new ≡ old)
      Steps old (SetFuse passes) text new = StepsFuse passes old text new
