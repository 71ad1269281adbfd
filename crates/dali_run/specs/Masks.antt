-- The stray writes that a run's lines tell, and the audits that name them.
--     masks_in r acts lines        a client was told these commands and said these lines: the masks of those of its pokes on the region r that were done, as
--                                  a line `poke ok` says of each
--     masks_of r blocks lines      so of all clients of a round
--     masks_behind .. before r     the masks of the region r that were told since the load, behind a command; before it they were these
--     AreTold masks p              while the program is up, each region's stray writes are those that were told
--     NamesTold masks ..           a lone audit or checkpoint prints one line; has it a list, none where it is clean, then this ascends and has just the
--                                  regions whose masks don't cancel
--     VerifiesNone masks old text  where the engine runs and there are none, `verify` finds no difference, if no call of the store fails in it
--     ShowsNone masks old text new     and `show` prints just the records that the log of the state behind it is expected to leave
--     NamesBy command ..           so a lone audit's, or checkpoint's, line tells the stray writes
--     TellsBy command ..           and so do those of `show` and `verify`
--     TellsFound s                 the store has files of a log of this program, which they fit, whether damage escaped from it or not
--     FindsFiles command ..        a restart found such files
--     AllNamed ..                  each region's are told at each state of a run, and each audit names them so, as long as restarts found such files
--     AllTold ..                   and each command tells them
--     OfRun There status           so it is of the commands that a script's run with this status has run
--     StraysAreNamed, PokesAreTold     of each script's run
use Rattle.std.specs.Prelude.{◌≡◌, ◌≢◌, ◌⊎◌, ◌↔◌, ◌==◌, ◌<◌, ℕ, Bool, true, false, List, [], ◌∷◌, ◌++◌, if◌then◌else◌, Option, Some, None, Contains, bit_xor, filter_map, fold, length, map, slice_get, take}
use Rattle.std.proofs.Common.{inl, inr}
use Rattle.dali_arguments.specs.declared.task.Task.TheVariants.{Run}
use Rattle.dali_resume.specs.Interrupted.Found.{FindsIt}
use Rattle.dali_fuse.specs.Fuse.{inner}
use Rattle.dali_fuse.specs.declared.fuse.Fuse.{Fuse}
use Rattle.dali_record.specs.declared.records.Record.{Record}
use Rattle.dali_record.specs.Files.{Files as Spelled}
use Rattle.dali_record.specs.Spelling.{ascends}
use Rattle.dali_region.specs.State.{RegionState}
use Rattle.dali_report.specs.Lines.{alone_text, texts}
use Rattle.dali_report.specs.declared.printed.Line.TheVariants as lines
use Rattle.dali_round.specs.Leads.{lines_in}
use Rattle.dali_script.specs.declared.commands.Block.{Block}
use Rattle.dali_script.specs.declared.commands.Command.{Command}
use Rattle.dali_script.specs.declared.commands.Command.TheVariants.{Size, Open, Round, Poke, Audit, Checkpoint, Crash, Restart, Show, Verify}
use Rattle.dali_script.specs.declared.names.Name.{Name}
use Rattle.dali_script.specs.declared.names.Name.TheVariants as names
use Rattle.dali_store.specs.Store.{Files}
use Rattle.dali_store.specs.declared.store.Store.{Ghosts}
use Rattle.dali_crash.specs.Disks.Disks.{Spells}
use Rattle.dali_transcripts.specs.Transcripts.{Told}
use Rattle.dali_transcripts.specs.Words.{Act, Pokes, Audits, Checkpoints, Said, PokeOk, PokeOutOfRange, AuditSaid, CheckpointSaid, CheckpointFailed}
use Rattle.dali_core.specs.declared.whole.Core.{Core}
use Rattle.dali_run.specs.declared.halt.Halt.{Halt}
use Rattle.dali_run.specs.declared.halt.Halt.TheVariants as halts
use Rattle.dali_run.specs.declared.program.Program.{Program}
use Rattle.dali_run.specs.declared.program.Program.TheVariants.{Up, Down}
use Rattle.dali_run.specs.declared.status.Status.{Status}
use Rattle.dali_run.specs.declared.status.Status.TheVariants.{Done, WriteFault, StoreFault, BadStore, Unformatted, Formatted, StoreUnsteady, RecordTooLong, OutOfMemory}
use Rattle.dali_run.specs.Ends.{Course, EndedScript, EndsAs, HasStopped, Untouched}
use Rattle.dali_run.specs.Program.{store_of}
use Rattle.dali_run.specs.Run.{HasRun, RunsAll}
use Rattle.dali_run.specs.Steps.{Steps, StepsAlone, StepsRestart, StepsRound}
use Rattle.dali_run.specs.Survives.{IsOwn, IsPointOf, NoneEscapesBefore}
use Rattle.dali_run.specs.Told.{told_by, alone}
use Rattle.dali_run.specs.Unpoked.{ShowsJust}

-- ---- lines of clients
-- the region and the mask of a poke
abbrev pub poke_in : Act → Option (ℕ × ℕ)
poke_in (Pokes region word mask) = Some (region, mask)
poke_in act = None

-- whether a line says that a poke was done, or wasn't
abbrev pub answer_in : Said → Option Bool
answer_in PokeOk = Some true
answer_in PokeOutOfRange = Some false
answer_in line = None

abbrev pub mask_on : (r region mask : ℕ) → List ℕ
mask_on r region mask = if region == r then mask ∷ [] else []

-- pokes are told in their order
abbrev pub done_on : (r : ℕ) → (answers : List Bool) → (pokes : List (ℕ × ℕ)) → List ℕ
done_on r [] pokes = []
done_on r (answer ∷ answers) [] = []
done_on r (true ∷ answers) ((region, mask) ∷ pokes) = mask_on r region mask ++ done_on r answers pokes
done_on r (false ∷ answers) (poke ∷ pokes) = done_on r answers pokes

abbrev pub masks_in : ℕ → List Act → List Said → List ℕ
masks_in r acts lines = done_on r (filter_map answer_in lines) (filter_map poke_in acts)

abbrev pub masks_of : ℕ → List Told → List (List Said) → List ℕ
masks_of r (b ∷ bs) (lines ∷ more) = masks_in r b.acts lines ++ masks_of r bs more
masks_of r bs more = []

-- ---- regions
abbrev pub xor_of : List ℕ → ℕ
xor_of masks = fold bit_xor 0 masks

abbrev pub has_any : List ℕ → Bool
has_any [] = false
has_any (mask ∷ masks) = true

-- the masks of each region
abbrev pub AreTold : {V : Type 0} → (ℕ → List ℕ) → Program V → Type 0
AreTold masks (Up core) = (r : ℕ) (g : RegionState) → slice_get core.regions.items r ≡ Some g → (g.stray ≡ xor_of (masks r)) × (g.poked ≡ has_any (masks r))
AreTold masks (Down store) = Unit {0}

-- ---- audits
abbrev pub list_in : Said → Option (List ℕ)
list_in (AuditSaid found) = Some found
list_in (CheckpointSaid number) = Some []
list_in (CheckpointFailed found) = Some found
list_in line = None

-- it ascends, and has just the regions whose masks don't cancel
abbrev pub IsListOf : (masks : ℕ → List ℕ) → (count : ℕ) → List ℕ → Type 0
IsListOf masks count found = (ascends found ≡ true) × ((r : ℕ) → Contains found r ↔ ((r < count) × (xor_of (masks r) ≢ 0)))

pub record NamesOf (masks : ℕ → List ℕ) (count : ℕ) (lines : List (List Said)) (text : List ℕ) : Type 0 where
  pub line : Said
  pub lines_are : lines ≡ (line ∷ []) ∷ []
  pub printed : text ≡ alone_text line
  pub names : (found : List ℕ) → list_in line ≡ Some found → IsListOf masks count found

-- ---- where nobody wrote astray
abbrev pub IsNone : (ℕ → List ℕ) → Type 0
IsNone masks = (r : ℕ) → masks r ≡ []

abbrev pub VerifiesNone : {V : Type 0} → (ℕ → List ℕ) → Program V → List ℕ → Type 0
VerifiesNone masks (Up core) text = core.system.state.stop ≡ None → IsNone masks → (text ≡ texts (lines.VerifyOk ∷ [])) ⊎ (text ≡ texts (lines.VerifyStoreStopped ∷ []))
VerifiesNone masks (Down store) text = Unit {0}

module _ {V : Type 0} (g : Ghosts V) where
  pub record ShowsLog (text : List ℕ) (new : Program V) : Type 0 where
    pub core : Core (Fuse V)
    pub up : new ≡ Up core
    pub base : List Record
    pub at : IsPointOf g base core
    pub shows : ShowsJust at.point.log text

  abbrev pub ShowsNone : (ℕ → List ℕ) → Program V → List ℕ → Program V → Type 0
  ShowsNone masks (Up core) text new = core.system.state.stop ≡ None → IsNone masks → ShowsLog text new
  ShowsNone masks (Down store) text new = Unit {0}

-- the store has files of a log of this program, which they fit
pub record TellsFound {V : Type 0} (g : Ghosts V) (s : V) : Type 0 where
  pub disk : Files
  pub tells : g.told s ≡ Some disk
  pub files : Spelled
  pub spells : Spells disk files
  pub finds : FindsIt files

-- ---- along a run
module _ {V : Type 0} (g : Ghosts V) (precheck : Bool) where
  abbrev pub masks_in_round : (blocks : List Block) (old : Program V) (text : List ℕ) (new : Program V) → StepsRound g precheck blocks old text new → ℕ → List ℕ
  masks_in_round blocks (Up core) text new step r = masks_of r (map told_by blocks) (map lines_in step.1.transcripts)
  masks_in_round blocks (Down store) text new step r = []

  abbrev pub masks_alone : (name : Name) (act : Act) (old : Program V) (text : List ℕ) (new : Program V) → StepsAlone g precheck name act old text new → ℕ → List ℕ
  masks_alone name act (Up core) text new step r = masks_of r (alone act) (map lines_in step.1.transcripts)
  masks_alone name act (Down store) text new step r = []

  abbrev pub NamesTold : (masks : ℕ → List ℕ) (name : Name) (act : Act) (old : Program V) (text : List ℕ) (new : Program V) → StepsAlone g precheck name act old text new → Type 0
  NamesTold masks name act (Up core) text new step = NamesOf masks (length core.regions.items) (map lines_in step.1.transcripts) text
  NamesTold masks name act (Down store) text new step = Unit {0}

module _ {V : Type 0} (g : Ghosts V) (limit : ℕ) (precheck : Bool) where
  -- a load, and a crash, forget them
  abbrev pub masks_behind : (command : Command) (old : Program V) (text : List ℕ) (new : Program V) → Steps g limit precheck old command text new → (ℕ → List ℕ) → ℕ → List ℕ
  masks_behind (Size index heap) old text new step before r = []
  masks_behind Open old text new step before r = []
  masks_behind Restart old text new step before r = []
  masks_behind (Crash choice) old text new step before r = []
  masks_behind (Round blocks) old text new step before r = before r ++ masks_in_round g precheck blocks old text new step r
  masks_behind (Poke region word mask) old text new step before r =
      before r ++ masks_alone g precheck names.Poke (Pokes region word mask) old text new step r
  masks_behind _ old text new step before r = before r

  abbrev pub NamesBy : (command : Command) (masks : ℕ → List ℕ) (old : Program V) (text : List ℕ) (new : Program V) → Steps g limit precheck old command text new → Type 0
  NamesBy Audit masks old text new step = NamesTold g precheck masks names.Audit Audits old text new step
  NamesBy Checkpoint masks old text new step = NamesTold g precheck masks names.Checkpoint Checkpoints old text new step
  NamesBy _ masks old text new step = Unit {0}

  abbrev pub TellsBy : (command : Command) (masks : ℕ → List ℕ) (old : Program V) (text : List ℕ) (new : Program V) → Steps g limit precheck old command text new → Type 0
  TellsBy Show masks old text new step = ShowsNone g masks old text new
  TellsBy Verify masks old text new step = VerifiesNone masks old text
  TellsBy command masks old text new step = NamesBy command masks old text new step

  -- ---- the files that a restart finds
  abbrev pub FindsIn : (old : Program V) (text : List ℕ) (new : Program V) → StepsRestart g limit old text new → Type 0
  FindsIn old text new (inl step) = TellsFound g (inner (store_of old))
  FindsIn old text new (inr stops) = Unit {0}

  abbrev pub FindsFiles : (command : Command) (old : Program V) (text : List ℕ) (new : Program V) → Steps g limit precheck old command text new → Type 0
  FindsFiles Open old text new step = FindsIn old text new step
  FindsFiles Restart old text new step = FindsIn old text new step
  FindsFiles _ old text new step = Unit {0}

  abbrev pub AllNamed : (commands : List Command) (masks : ℕ → List ℕ) (old : Program V) (text : List ℕ) (new : Program V) → RunsAll g limit precheck old commands text new → Type 0
  AllNamed [] masks old text new runs = AreTold masks old
  AllNamed (command ∷ later) masks old text new runs =
      AreTold masks old
      × (FindsFiles command old runs.0 runs.1 runs.3 → NamesBy command masks old runs.0 runs.1 runs.3
      × AllNamed later (masks_behind command old runs.0 runs.1 runs.3 masks) runs.1 runs.2 new runs.4)

  abbrev pub AllTold : (commands : List Command) (masks : ℕ → List ℕ) (old : Program V) (text : List ℕ) (new : Program V) → RunsAll g limit precheck old commands text new → Type 0
  AllTold [] masks old text new runs = AreTold masks old
  AllTold (command ∷ later) masks old text new runs =
      AreTold masks old × TellsBy command masks old runs.0 runs.1 runs.3
      × AllTold later (masks_behind command old runs.0 runs.1 runs.3 masks) runs.1 runs.2 new runs.4

  -- the first commands of a script that was run
  abbrev pub NamedThere : (start : V) (script : List Command) (count : ℕ) (text : List ℕ) (new : Program V) → HasRun g limit precheck start script count text new → Type 0
  NamedThere start script count text new run = AllNamed (take count script) (λ r. []) run.first text new run.runs

  abbrev pub ToldThere : (start : V) (script : List Command) (count : ℕ) (text : List ℕ) (new : Program V) → HasRun g limit precheck start script count text new → Type 0
  ToldThere start script count text new run = AllTold (take count script) (λ r. []) run.first text new run.runs

  module _ (There : (start : V) (script : List Command) (count : ℕ) (text : List ℕ) (new : Program V) → HasRun g limit precheck start script count text new → Type 0)
      (c : Course V) (mid : Option (List ℕ)) (count : ℕ) where
    abbrev pub BeforeHalt : (halt : Halt) → HasStopped g limit precheck halt c mid → Type 0
    BeforeHalt halt stopped = let stops = stopped.2 in There c.store stopped.0 stops.count stops.text stops.state stops.run

    abbrev pub BeforeWant : Untouched c mid ⊎ HasStopped g limit precheck halts.OutOfMemory c mid → Type 0
    BeforeWant (inl untouched) = Unit {0}
    BeforeWant (inr stopped) = BeforeHalt halts.OutOfMemory stopped

    -- of all commands that were run, before one that failed, or whose lines were cut
    abbrev pub OfRun : (status : Status) → EndedScript g limit precheck c mid count status → Type 0
    OfRun Done ended = let ran = ended.2 in There c.store ended.0 (length ended.0) ran.text ran.state ran.run
    OfRun WriteFault ended = let cut = ended.1.2 in There c.store ended.1.0 cut.count cut.text cut.earlier cut.ran
    OfRun StoreFault ended = BeforeHalt halts.StoreFault ended
    OfRun (BadStore file at) ended = BeforeHalt (halts.BadStore file at) ended
    OfRun Unformatted ended = BeforeHalt halts.Unformatted ended
    OfRun Formatted ended = BeforeHalt halts.Formatted ended
    OfRun StoreUnsteady ended = BeforeHalt halts.StoreUnsteady ended
    OfRun RecordTooLong ended = BeforeHalt halts.RecordTooLong ended
    OfRun OutOfMemory ended = BeforeWant ended
    OfRun _ ended = Unit {0}

  abbrev pub StraysAreNamed : Type 0
  StraysAreNamed =
      (c : Course V) (status : Status) (e : EndsAs g (Some (Run precheck limit)) c status) → OfRun NamedThere c e.mid e.count status e.ended

  abbrev pub PokesAreTold : Type 0
  PokesAreTold =
      (c : Course V) (status : Status) (base : List Record) → IsOwn g base c.store
      → (e : EndsAs g (Some (Run precheck limit)) c status)
      → NoneEscapesBefore g limit precheck c e.mid e.count status e.ended
      → OfRun ToldThere c e.mid e.count status e.ended
