-- The headline, of runs of the program: no commit that was answered ok is lost, unless damage reached it, and a restart gives just what the others leave.
--     transactions_in L        the transactions that the log L committed, with the calls that it has of each, and their answers
--     oks_by command ..        those that the lines of a command acknowledge (`oks_of` of dali_served), with the calls and answers that these lines tell
--     KeepsIn kept L           the transactions of kept committed in the log L, which has just these calls of them, with these answers. Each of them survives, or
--                              a chain of logged reads or undone changes links it to a region that failed its audit, and not both
--     IsAnswer F o             o has the records and the lists that the log of the files F says
--     HasKept kept c           files of such a log, of which a restart is right, as RestartIsRight says: it gives the records of the survivors, replayed one after
--                              another in commit order with the answers that they got. And each restart answers so, however many were stopped before
--     Keeps kept c             such files, or no database, where nothing was committed
--     Stays kept c             the same, whatever a restart of them gives: so it is with damage too
--     KeepsLeft, KeepsWhere P  a crash leaves only such files; only such, if they have P
--     KeptAt Safe kept p       so it is of the program: such are the files that a crash leaves, if no damage escapes from them, or Safe holds where it is down.
--                              While it is up, what was acknowledged is in the log of each of these files, also of those from which damage escapes
--     IsFrontOf M K            the log K is the log M up to some record
--     KeepsWithin P kept ..    such are the files with P that a crash at any moment within a command leaves
--     KeepsBetween kept c d    within a round that led from the core c to d: what a crash at any moment leaves came along steps from a point between, at which the
--                              steps of the round lead from the memory of c to that of d; and it is such, if no damage escapes from it at the memory of that
--                              point. With damage too, its log is a front of the log at the round's end, whose records the round's lines tell (`IsRound` of
--                              dali_transcripts); and what was acknowledged before the round is in it
--     KeptWithin, KeptFailing  so it is within each command, of which a single `poke`, `audit` or `checkpoint` is a round too; and within one that failed
--     Answers kept ..          a restart of the run itself hands out and prints what the files say that it found, and they are such
--     Along Behind ..          so it is at each state of a run, as long as no damage escaped before; and behind the last one what Behind says
--     ScriptKeeps ..           of a script with each status: along it, within the command that ended it, and of the store that comes back
--     KeepsSince kept s t      such are the files that a crash leaves at any moment from the store s on, until it is t
--     KeepsOn kept s t         and those that one leaves of t
--     oks_played ..            the transactions that the clients of a generated round commit
--     PlayedKeeps, CrashedKeeps, FoundKeeps ..    so it is of a generated script from state to state, within its `size`, its round, its `crash` and its `restart`
--     GeneratorKeeps ..        of a generated script with each status, and of the store that comes back
--     Kept task status         so it is of what the words mean, with each status
--     AcknowledgedSurvive      of each run
--     WorkedLinesAcknowledge   the lines of the worked round of dali_transcripts, in which one client commits in its second try, acknowledge just this one
--                              transaction, with its insert; and it is the only one that this round's log has committed, with just that call
use Rattle.std.specs.Prelude.{◌≡◌, ◌⊎◌, ℕ, Bool, false, List, [], ◌∷◌, ◌++◌, Option, Some, None, Contains, IfSome, length, map, take}
use Rattle.std.proofs.Common.{inl, inr}
use Rattle.dali_arguments.specs.Meaning.{meaning}
use Rattle.dali_arguments.specs.declared.task.Task.{Task}
use Rattle.dali_arguments.specs.declared.task.Task.TheVariants.{Run, Generate}
use Rattle.dali_log.specs.Batch.{IsUnformatted}
use Rattle.dali_history.specs.Acknowledged.{IsDeletedByChain}
use Rattle.dali_history.specs.History.{HasExpected}
use Rattle.dali_history.specs.Promise.{RestartIsRight}
use Rattle.dali_history.specs.Serial.{survivors}
use Rattle.dali_fuse.specs.Fuse.{inner}
use Rattle.dali_fuse.specs.declared.fuse.Fuse.{Fuse}
use Rattle.dali_record.specs.declared.records.Record.{Record}
use Rattle.dali_record.specs.Damage.{deleted_list, rolled_list}
use Rattle.dali_record.specs.Epochs.{last_epoch, recovered_epoch}
use Rattle.dali_record.specs.Files.{Files}
use Rattle.dali_record.specs.Log.{calls_of, committed}
use Rattle.dali_restart.specs.Headline.{EachRestart}
use Rattle.dali_restart.specs.Restarting.{outcome}
use Rattle.dali_resume.specs.Again.{Outcome}
use Rattle.dali_round.specs.Leads.{lines_in}
use Rattle.dali_round.specs.Moments.{EndsRight, IsRightBetween}
use Rattle.dali_script.specs.declared.commands.Command.{Command}
use Rattle.dali_script.specs.declared.commands.Command.TheVariants.{Size, Open, Round, Poke, Audit, Checkpoint, Restart}
use Rattle.dali_served.specs.Oks.{Transaction, oks_of}
use Rattle.dali_store.specs.Store.{Files as Disk}
use Rattle.dali_store.specs.declared.store.Store.{Ghosts}
use Rattle.dali_runs.specs.Crashes.{NoneEscapes}
use Rattle.dali_runs.specs.Run.{log_in}
use Rattle.dali_runs.specs.State.{log_after}
use Rattle.dali_crash.specs.Disks.Disks.{Spells}
use Rattle.dali_transcripts.specs.Transcripts.{Told}
use Rattle.dali_transcripts.specs.Words.{Act, Pokes, Audits, Checkpoints}
use Rattle.dali_transcripts.specs.Worked.{lines_1, lines_2, log as worked_log}
use Rattle.dali_core.specs.declared.whole.Core.{Core}
use Rattle.dali_run.specs.declared.halt.Halt.{Halt}
use Rattle.dali_run.specs.declared.halt.Halt.TheVariants as halts
use Rattle.dali_run.specs.declared.program.Program.{Program}
use Rattle.dali_run.specs.declared.program.Program.TheVariants.{Up, Down}
use Rattle.dali_run.specs.declared.status.Status.{Status}
use Rattle.dali_run.specs.declared.status.Status.TheVariants.{Done, WriteFault, StoreFault, BadStore, Unformatted, Formatted, StoreUnsteady, RecordTooLong, OutOfMemory, LogFull}
use Rattle.dali_run.specs.Ends.{Course, Ended, EndedGenerator, EndedScript, GeneratorFails, GeneratorFinds, GeneratorIsRefused, GeneratorLoses, GeneratorStops, GeneratorWants, HasEnded, HasStopped, Untouched}
use Rattle.dali_run.specs.Fails.{AloneFails, Breaks, Fails, Lost, StoreFailsIn}
use Rattle.dali_run.specs.Generating.{IsCrashed, IsPlayed}
use Rattle.dali_run.specs.Program.{store_of, told_in, moment_in, since_in}
use Rattle.dali_run.specs.Run.{RunsAll}
use Rattle.dali_run.specs.Steps.{Steps, StepsRestart}
use Rattle.dali_run.specs.Survives.{AnyFiles, IsOwn, IsPointOf, NoneEscapesBehind, NoneEscapesFrom, NoneEscapesIn, NoneEscapesLeft, NoneEscapesMaking, SafeBehind}
use Rattle.dali_run.specs.Told.{alone, told_by}

-- ---- what a log has committed
abbrev pub transaction_of : List Record → ℕ → Transaction
transaction_of L t = record { number = t; calls = calls_of t L }

abbrev pub transactions_in : List Record → List Transaction
transactions_in L = map (transaction_of L) (committed L)

-- ---- what a restart owes
-- with damage or without
pub record KeepsIn (kept : List Transaction) (L : List Record) : Type 0 where
  pub made : (x : Transaction) → Contains kept x → Contains (committed L) x.number × (calls_of x.number L ≡ x.calls)
  pub survive : (x : Transaction) → Contains kept x → Contains (survivors L) x.number ⊎ IsDeletedByChain L x.number
  pub not_both : (t : ℕ) → Contains (survivors L) t → IsDeletedByChain L t → ⊥

pub record IsAnswer (F : Files) (o : Outcome) : Type 0 where
  pub records : HasExpected (log_in F) o.image
  pub rolled : o.rolled ≡ rolled_list (recovered_epoch (log_in F))
  pub deleted : o.deleted ≡ deleted_list (recovered_epoch (log_in F))

pub record HasKept (kept : List Transaction) (c : Disk) : Type 0 where
  pub files : Files
  pub spells : Spells c files
  pub keeps : KeepsIn kept (log_in files)
  pub right : RestartIsRight (log_in files)
  pub each : EachRestart files (IsAnswer files)

abbrev pub Keeps : List Transaction → Disk → Type 0
Keeps kept c = (IsUnformatted c.log × (kept ≡ [])) ⊎ HasKept kept c

abbrev pub Stays : List Transaction → Disk → Type 0
Stays kept c = (F : Files) × Spells c F × KeepsIn kept (log_in F)

abbrev pub IsFrontOf : List Record → List Record → Type 0
IsFrontOf M K = (n : ℕ) × (K ≡ take n M)

module _ {V : Type 0} (g : Ghosts V) where
  abbrev pub KeepsLeft : List Transaction → V → Type 0
  KeepsLeft kept s = (c : Disk) → g.may_leave s c → Keeps kept c

  abbrev pub KeepsWhere : (Disk → Type 0) → List Transaction → V → Type 0
  KeepsWhere P kept s = (c : Disk) → g.may_leave s c → P c → Keeps kept c

  abbrev pub StaysLeft : List Transaction → V → Type 0
  StaysLeft kept s = (c : Disk) → g.may_leave s c → Stays kept c

  abbrev pub KeptAt : (Disk → Type 0) → List Transaction → Program V → Type 0
  KeptAt Safe kept (Up core) = KeepsWhere (NoneEscapesFrom core) kept (inner core.vault.store) × StaysLeft kept (inner core.vault.store)
  KeptAt Safe kept (Down store) = KeepsWhere Safe kept (inner store)

  -- ---- within a command
  abbrev pub KeepsWithin : (Disk → Type 0) → List Transaction → Program V → Fuse V → Type 0
  KeepsWithin P kept old f = (c : Disk) → g.left_since (inner f) (g.moment (inner (store_of old))) c → P c → Keeps kept c

  -- the premise is asked of memory where the files came from
  pub record KeepsBetween (kept : List Transaction) (c d : Core (Fuse V)) : Type 0 where
    pub base : List Record
    pub at : IsPointOf g base c
    pub ends : EndsRight (told_in g) (moment_in g) (since_in g) at.start at.point c.vault d.regions.items d.system.state d.vault
    pub keeps : (disk : Disk) → g.left_since (inner d.vault.store) (g.moment (inner c.vault.store)) disk
        → (E : Files) × Spells disk E × (is : IsRightBetween at.start at.point ends.to E) × (NoneEscapes (last_epoch (log_in E)) is.between.core → Keeps kept disk)
        × KeepsIn kept (log_in E) × IsFrontOf (log_after at.start.log d.system.state) (log_in E)

module _ {V : Type 0} (g : Ghosts V) (limit : ℕ) (precheck : Bool) where
  -- in the making and the finding of a database: of files that might have been left before it, or of those as they read too
  abbrev pub SafeWithin : (Disk → Type 0) → Command → Program V → Disk → Type 0
  SafeWithin Safe (Size index heap) old = NoneEscapesMaking g Safe old
  SafeWithin Safe Open old = NoneEscapesMaking g Safe old
  SafeWithin Safe Restart old = NoneEscapesMaking g Safe old
  SafeWithin Safe _ old = NoneEscapesIn Safe old

  abbrev pub Within : (Disk → Type 0) → List Transaction → Command → Program V → Fuse V → Type 0
  Within Safe kept command old f = KeepsWithin g (SafeWithin Safe command old) kept old f

  abbrev pub Between : List Transaction → Core (Fuse V) → Core (Fuse V) → Type 0
  Between kept c d = KeepsBetween g kept c d

  abbrev pub KeptWithin : (Safe : Disk → Type 0) (kept : List Transaction) (command : Command) (old : Program V) (text : List ℕ) (new : Program V)
      → Steps g limit precheck old command text new → Type 0
  KeptWithin Safe kept (Round blocks) (Up core) text new step = Between kept core step.0
  KeptWithin Safe kept (Poke region word mask) (Up core) text new step = Between kept core step.0
  KeptWithin Safe kept Audit (Up core) text new step = Between kept core step.0
  KeptWithin Safe kept Checkpoint (Up core) text new step = Between kept core step.0
  KeptWithin Safe kept command old text new step = Within Safe kept command old (store_of new)

  -- where a round was cut, or the store failed in one of one client
  abbrev pub KeptLost : (Safe : Disk → Type 0) (kept : List Transaction) (blocks : List Told) (old : Program V) (f : Fuse V) → Lost g precheck blocks old f → Type 0
  KeptLost Safe kept blocks (Up core) f (inl none) = KeepsWithin g (NoneEscapesFrom core) kept (Up core) f
  KeptLost Safe kept blocks (Up core) f (inr played) = Between kept core played.core
  KeptLost Safe kept blocks (Down store) f lost = KeepsWithin g Safe kept (Down store) f

  abbrev pub KeptBroken : (Safe : Disk → Type 0) (kept : List Transaction) (command : Command) (old : Program V) (f : Fuse V) → Breaks g precheck command old f → Type 0
  KeptBroken Safe kept (Round blocks) old f breaks = KeptLost Safe kept (map told_by blocks) old f breaks
  KeptBroken Safe kept (Poke region word mask) old f breaks = KeptLost Safe kept (alone (Pokes region word mask)) old f breaks
  KeptBroken Safe kept Audit old f breaks = KeptLost Safe kept (alone Audits) old f breaks
  KeptBroken Safe kept Checkpoint old f breaks = KeptLost Safe kept (alone Checkpoints) old f breaks
  KeptBroken Safe kept command old f breaks = Within Safe kept command old f

  abbrev pub KeptAlone : (kept : List Transaction) (act : Act) (old : Program V) (f : Fuse V) → AloneFails g precheck act old f → Type 0
  KeptAlone kept act (Up core) f fails = Between kept core fails.core
  KeptAlone kept act (Down store) f fails = Unit {0}

  abbrev pub KeptFailed : (Safe : Disk → Type 0) (kept : List Transaction) (command : Command) (old : Program V) (f : Fuse V) → StoreFailsIn g precheck command old f → Type 0
  KeptFailed Safe kept (Poke region word mask) old f fails = KeptAlone kept (Pokes region word mask) old f fails
  KeptFailed Safe kept Audit old f fails = KeptAlone kept Audits old f fails
  KeptFailed Safe kept Checkpoint old f fails = KeptAlone kept Checkpoints old f fails
  KeptFailed Safe kept command old f fails = Within Safe kept command old f

  abbrev pub KeptFailing : (Safe : Disk → Type 0) (kept : List Transaction) (halt : Halt) (command : Command) (old : Program V) (f : Fuse V) → Fails g precheck halt command old f → Type 0
  KeptFailing Safe kept halts.StoreFault command old f fails = KeptFailed Safe kept command old f fails
  KeptFailing Safe kept halts.OutOfMemory command old f fails = KeptBroken Safe kept command old f fails
  KeptFailing Safe kept halt command old f fails = Within Safe kept command old f

  abbrev pub oks_by : (command : Command) (old : Program V) (text : List ℕ) (new : Program V) → Steps g limit precheck old command text new → List Transaction
  oks_by (Round blocks) (Up core) text new step = oks_of (map lines_in step.1.transcripts)
  oks_by _ old text new step = []

  abbrev pub Restores : (kept : List Transaction) (old : Program V) (text : List ℕ) (new : Program V) → StepsRestart g limit old text new → Type 0
  Restores kept old text new (inl step) = IfSome (g.told (inner (store_of old))) (λ fs. (has : HasKept kept fs) × IsAnswer has.files (outcome step.core.regions.items step.report))
  Restores kept old text new (inr stops) = Unit {0}

  abbrev pub Answers : (kept : List Transaction) (command : Command) (old : Program V) (text : List ℕ) (new : Program V) → Steps g limit precheck old command text new → Type 0
  Answers kept Open old text new step = Restores kept old text new step
  Answers kept Restart old text new step = Restores kept old text new step
  Answers kept _ old text new step = Unit {0}

  -- ---- along a run
  abbrev pub Along : (Behind : (Disk → Type 0) → List Transaction → Type 0) (Safe : Disk → Type 0) (commands : List Command) (kept : List Transaction) (old : Program V) (text : List ℕ) (new : Program V)
      → RunsAll g limit precheck old commands text new → Type 0
  Along Behind Safe [] kept old text new runs = KeptAt g Safe kept old × Behind Safe kept
  Along Behind Safe (command ∷ later) kept old text new runs =
      KeptAt g Safe kept old × KeptWithin Safe kept command old runs.0 runs.1 runs.3
      × (NoneEscapesLeft g limit precheck Safe command old runs.0 runs.1 runs.3 → Answers kept command old runs.0 runs.1 runs.3
      × Along Behind (SafeBehind g limit precheck Safe command old runs.0 runs.1 runs.3) later (kept ++ oks_by command old runs.0 runs.1 runs.3)
      runs.1 runs.2 new runs.4)

  -- ---- each way in which a script's run ends
  module _ (c : Course V) (mid : Option (List ℕ)) (count : ℕ) (kept : List Transaction) where
    abbrev pub StoppedKeeps : (halt : Halt) → HasStopped g limit precheck halt c mid → Type 0
    StoppedKeeps halt stopped =
        let stops = stopped.2 in
        Along
        (λ Safe now. KeptFailing Safe now halt stops.command stops.state stops.last stops.fails
        × KeepsWhere g (NoneEscapesBehind g limit precheck Safe halt stops.command stops.state stops.last stops.fails) now c.store')
        AnyFiles (take stops.count stopped.0) kept stops.run.first stops.text stops.state stops.run.runs

    abbrev pub WantingKeeps : Untouched c mid ⊎ HasStopped g limit precheck halts.OutOfMemory c mid → Type 0
    WantingKeeps (inl untouched) = KeepsLeft g kept c.store'
    WantingKeeps (inr stopped) = StoppedKeeps halts.OutOfMemory stopped

    abbrev pub ScriptKeeps : (status : Status) → EndedScript g limit precheck c mid count status → Type 0
    ScriptKeeps Done ended =
        let ran = ended.2 in
        Along (λ Safe now. KeepsWhere g (NoneEscapesIn Safe ran.state) now c.store') AnyFiles (take (length ended.0) ended.0) kept ran.run.first ran.text ran.state ran.run.runs
    -- all lines of the last command are meant, also those that weren't written
    ScriptKeeps WriteFault ended =
        let cut = ended.1.2 in
        Along
        (λ Safe now. KeptWithin Safe now cut.command cut.earlier cut.more cut.state cut.steps
        × (NoneEscapesLeft g limit precheck Safe cut.command cut.earlier cut.more cut.state cut.steps
        → Answers now cut.command cut.earlier cut.more cut.state cut.steps
        × KeepsWhere g (NoneEscapesIn (SafeBehind g limit precheck Safe cut.command cut.earlier cut.more cut.state cut.steps) cut.state)
        (now ++ oks_by cut.command cut.earlier cut.more cut.state cut.steps) c.store'))
        AnyFiles (take cut.count ended.1.0) kept cut.ran.first cut.text cut.earlier cut.ran.runs
    ScriptKeeps StoreFault ended = StoppedKeeps halts.StoreFault ended
    ScriptKeeps (BadStore file at) ended = StoppedKeeps (halts.BadStore file at) ended
    ScriptKeeps Unformatted ended = StoppedKeeps halts.Unformatted ended
    ScriptKeeps Formatted ended = StoppedKeeps halts.Formatted ended
    ScriptKeeps StoreUnsteady ended = StoppedKeeps halts.StoreUnsteady ended
    ScriptKeeps RecordTooLong ended = StoppedKeeps halts.RecordTooLong ended
    ScriptKeeps OutOfMemory ended = WantingKeeps ended
    ScriptKeeps _ ended = KeepsLeft g kept c.store'

module _ {V : Type 0} (g : Ghosts V) where
  -- ---- a generated script: nobody pokes in it, so nothing is asked of damage
  abbrev pub KeepsSince : List Transaction → V → V → Type 0
  KeepsSince kept old new = (c : Disk) → g.left_since new (g.moment old) c → Keeps kept c

  abbrev pub KeepsOn : List Transaction → V → V → Type 0
  KeepsOn kept old new = KeepsSince kept old new × KeepsLeft g kept new

  module _ (clients size number : ℕ) where
    -- its round writes no lines, and those that its clients were told count
    abbrev pub oks_played : (start : V) (ends : Option Halt) → IsPlayed g 67108864 clients size number start ends → List Transaction
    oks_played start ends run = oks_of (map lines_in run.round.round.transcripts)

    module _ (kept : List Transaction) (start : V) where
      -- a database was made, and its round run
      pub record PlayedKeeps (ends : Option Halt) (run : IsPlayed g 67108864 clients size number start ends) : Type 0 where
        pub making : KeepsOn kept start (inner run.made.vault.store)
        pub round : KeepsSince kept (inner run.made.vault.store) (inner run.played.vault.store)
        pub behind : KeepsLeft g (kept ++ oks_played start ends run) (inner run.played.vault.store)

      -- what was kept behind its round, where that didn't end the run
      abbrev pub kept_played : IsPlayed g 67108864 clients size number start None → List Transaction
      kept_played run = kept ++ oks_played start None run

      pub record CrashedKeeps (run : IsCrashed g 67108864 clients size number start) : Type 0 where
        pub before : PlayedKeeps None run.run
        pub crash : KeepsOn (kept_played run.run) (inner run.run.played.vault.store) (inner (store_of run.crashed))

      pub record FoundKeeps (found : Core (Fuse V)) (run : GeneratorFinds g clients size number start found) : Type 0 where
        pub before : CrashedKeeps run.run
        pub restart : KeepsOn (kept_played run.run.run) (inner (store_of run.run.crashed)) (inner found.vault.store)
        pub answers : Restores g 67108864 false (kept_played run.run.run) run.run.crashed run.text (Up found) (inl run.restart)

      module _ (end : V) where
        -- ---- each way in which it ends, and the store that comes back
        abbrev pub LastKeeps : (found : Core (Fuse V)) → GeneratorFinds g clients size number start found → Type 0
        LastKeeps found run = FoundKeeps found run × KeepsLeft g (kept_played run.run.run) end

        -- a command of it failed, which isn't its round
        abbrev pub StopKeeps : (halt : Halt) → GeneratorStops g clients size number halt start end → Type 0
        StopKeeps halt (inl first) = KeepsOn kept start end
        StopKeeps halt (inr (inl crash)) = PlayedKeeps None crash.0 × KeepsOn (kept_played crash.0) (inner crash.0.played.vault.store) end
        StopKeeps halt (inr (inr restart)) = CrashedKeeps restart.0 × KeepsOn (kept_played restart.0.run) (inner (store_of restart.0.crashed)) end

        -- a line of its round, or what stopped the engine in it, ended the run
        abbrev pub RefusedKeeps : (halt : Halt) → GeneratorIsRefused g clients size number halt start end → Type 0
        RefusedKeeps halt refused = PlayedKeeps (Some halt) refused.run × KeepsLeft g (kept ++ oks_played start (Some halt) refused.run) end

        -- its round had no memory, or was cut
        abbrev pub LostKeeps : GeneratorLoses g clients size number start end → Type 0
        LostKeeps lost = KeepsOn kept start (inner lost.made.vault.store) × KeepsOn kept (inner lost.made.vault.store) end

        -- no fuse is set, so none fails a call of the restart
        abbrev pub FaultKeeps : GeneratorFails g clients size number start end → Type 0
        FaultKeeps (inl stops) = StopKeeps halts.StoreFault stops
        FaultKeeps (inr (inl refused)) = RefusedKeeps halts.StoreFault refused
        FaultKeeps (inr (inr none)) = ⊥

        abbrev pub WantKeeps : GeneratorWants g clients size number start end → Type 0
        WantKeeps (inl same) = KeepsLeft g kept end
        WantKeeps (inr (inl (inl stops))) = StopKeeps halts.OutOfMemory stops
        WantKeeps (inr (inl (inr lost))) = LostKeeps lost
        WantKeeps (inr (inr (inl refused))) = RefusedKeeps halts.OutOfMemory refused
        WantKeeps (inr (inr (inr last))) = LastKeeps last.0 last.1

    module _ (c : Course V) (mid : Option (List ℕ)) (count : ℕ) (kept : List Transaction) where
      -- with no other status, as files that a database was just made in are found, and never bad
      abbrev pub GeneratorKeeps : (status : Status) → EndedGenerator g clients size number c mid count status → Type 0
      GeneratorKeeps Done ended = LastKeeps kept c.store c.store' ended.1.found ended.1.run
      GeneratorKeeps WriteFault ended = LastKeeps kept c.store c.store' ended.1.found ended.1.run
      GeneratorKeeps StoreFault ended = FaultKeeps kept c.store c.store' ended.0
      GeneratorKeeps Formatted ended = KeepsOn kept c.store c.store'
      GeneratorKeeps RecordTooLong ended = StopKeeps kept c.store c.store' halts.RecordTooLong ended.0
      GeneratorKeeps (LogFull end most) ended = RefusedKeeps kept c.store c.store' (halts.LogFull end most) ended.0
      GeneratorKeeps OutOfMemory ended = WantKeeps kept c.store c.store' ended.0
      GeneratorKeeps _ ended = ⊥

  module _ (c : Course V) (mid : Option (List ℕ)) (count : ℕ) (kept : List Transaction) where
    abbrev pub Kept : (task : Option Task) (status : Status) → Ended g task c mid count status → Type 0
    Kept (Some (Run precheck limit)) status ended = ScriptKeeps g limit precheck c mid count kept status ended
    Kept (Some (Generate clients size number)) status ended = GeneratorKeeps clients size number c mid count kept status ended
    Kept _ status ended = KeepsLeft g kept c.store'

  -- what base has committed is kept from the beginning
  abbrev pub AcknowledgedSurvive : Type 0
  AcknowledgedSurvive =
      (words : List (List ℕ)) (c : Course V) (status : Status) (base : List Record) → IsOwn g base c.store
      → (e : HasEnded g words c status) → Kept c e.mid e.count (transactions_in base) (meaning words) status e.ended

-- ---- an example
abbrev pub WorkedLinesAcknowledge : Type 0
WorkedLinesAcknowledge = (map (λ (x : Transaction). x.number) (oks_of (lines_1 ∷ lines_2 ∷ [])) ≡ 3 ∷ []) × (oks_of (lines_1 ∷ lines_2 ∷ []) ≡ transactions_in worked_log)
