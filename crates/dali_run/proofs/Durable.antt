-- What was acknowledged is durable, with damage too.
use Rattle.std.proofs.Common.{◌≡◌, ◌≤◌, ℕ, Bool, true, List, [], ◌∷◌, ◌++◌, Option, Some, None, length, map, take, refl, sym, ◌∙◌, ap, subst, inl, inr, ⊎_elim, arith}
use Rattle.std.specs.Prelude.{◌⊎◌, IfSome, is_some, slice_get}
use Rattle.dali_resume.specs.Interrupted.Found.{FindsIt}
use Rattle.dali_resume.proofs.InterruptedLemmas.Found.{crash_is_found}
use Rattle.dali_resume.proofs.InterruptedLemmas.Places.{start_has_place}
use Rattle.dali_arguments.specs.Meaning.{meaning}
use Rattle.dali_arguments.specs.declared.task.Task.{Task}
use Rattle.dali_arguments.specs.declared.task.Task.TheVariants.{Run, Generate, Dump, Show, Status as Standing, Load}
use Rattle.dali_log.specs.Batch.{IsUnformatted}
use Rattle.dali_log.specs.Formatting.{FormatLeaves, HasFirst}
use Rattle.dali_log.specs.Reads.{OnlyReads}
use Rattle.dali_log.proofs.Unique.{log_is_formatted}
use Rattle.dali_checkpoint.proofs.Calls.{course_join}
use Rattle.dali_transcripts.specs.Clients.Said.{Transcribed}
use Rattle.dali_crash.specs.Checkpoints.{Does, Point}
use Rattle.dali_crash.specs.Traces.{Start, bases_of, start_point}
use Rattle.dali_crash.proofs.Growth.{course_grows}
use Rattle.dali_crash.proofs.Traces.{trace_prefix}
use Rattle.dali_geometry.specs.Sizes.{AreInRange}
use Rattle.dali_fuse.specs.Fuse.{inner}
use Rattle.dali_fuse.specs.declared.fuse.Fuse.{Fuse}
use Rattle.dali_record.specs.declared.records.Record.{Record}
use Rattle.dali_record.specs.Files.{Files}
use Rattle.dali_record.specs.Legal.{IsLegalFor, sizes_of as sizes_in}
use Rattle.dali_region.specs.State.{RegionState}
use Rattle.dali_restart.specs.Formatted.{first_body, first_record}
use Rattle.dali_restart.specs.Headline.{IsPlaced}
use Rattle.dali_restart.specs.Restarting.{outcome, BeginsRun, FindsBut, IsReadAs, SpellsLater, SpellsOnWay, StopsAlike, StopsAppending}
use Rattle.dali_restart.proofs.Once.{reads_once}
use Rattle.dali_restart.proofs.Beginning.{begins}
use Rattle.dali_restart.proofs.Missed.{crash_is_found_but}
use Rattle.dali_round.specs.Leads.{lines_in, BeginsAt}
use Rattle.dali_round.specs.Moments.{IsRightBetween}
use Rattle.dali_script.specs.declared.commands.Command.{Command}
use Rattle.dali_script.specs.declared.commands.Command.TheVariants.{Size, Open, Round, Poke, Audit, Checkpoint, Cleanup, Crash, Restart, Show, Verify, Next, Fuse as SetFuse}
use Rattle.dali_script.specs.declared.names.Name.{Name}
use Rattle.dali_script.specs.declared.names.Name.TheVariants as names
use Rattle.dali_served.specs.Oks.{Transaction, StandsIn, oks_of}
use Rattle.dali_served.proofs.Oks.{oks_stand}
use Rattle.dali_store.specs.Faults.{Rose}
use Rattle.dali_store.specs.Store.{Files as Disk, LeavesOnly}
use Rattle.dali_store.specs.declared.store.Store.{Ghosts}
use Rattle.dali_runs.specs.declared.causes.Cause.{Cause}
use Rattle.dali_runs.specs.Courses.{ReadFails}
use Rattle.dali_runs.specs.Run.{log_in}
use Rattle.dali_runs.specs.State.{stable}
use Rattle.dali_crash.specs.Disks.Disks.{Spells}
use Rattle.dali_transcripts.specs.Transcripts.{Told as Blocks}
use Rattle.dali_transcripts.specs.Words.{Act, Pokes, Audits, Checkpoints}
use Rattle.dali_transcripts.specs.World.{log_of}
use Rattle.dali_core.specs.Vault.Vaulted.{Vaulted, with_store}
use Rattle.dali_core.specs.declared.whole.Core.{Core}
use Rattle.dali_core.specs.Cores.{IsNoShorter}
use Rattle.dali_run.specs.declared.halt.Halt.{Halt}
use Rattle.dali_run.specs.declared.halt.Halt.TheVariants as halts
use Rattle.dali_run.specs.declared.program.Program.{Program}
use Rattle.dali_run.specs.declared.program.Program.TheVariants.{Up, Down}
use Rattle.dali_run.specs.declared.status.Status.{Status}
use Rattle.dali_run.specs.declared.status.Status.TheVariants.{Done, BadWords, BadScript, TooLong, ReadFault, WriteFault, StoreFault, BadStore, Unformatted, Formatted, StoreUnsteady, RecordTooLong, OutOfMemory, LogFull, TooSmall, NotLoaded}
use Rattle.dali_run.specs.Durable.{IsDurable, NoneMissedIn, IsSound, SoundWhere, ComesUp, DurableLeft, DurableWithin, DurableAlong, StoppedIsDurable, WantingIsDurable, ScriptIsDurable, TaskIsDurable, AcknowledgedStay}
use Rattle.dali_run.specs.Ends.{Course, Ended, EndedScript, HasStopped, Untouched}
use Rattle.dali_run.specs.Fails.{AloneFails, Breaks, Fails, Lost, StoreFailsIn}
use Rattle.dali_run.specs.Headline.{KeepsIn, oks_by, transactions_in}
use Rattle.dali_run.specs.Program.{IsDown, store_of, told_in, leaves_in, moment_in, since_in, faults_in, fused}
use Rattle.dali_run.specs.Run.{RunsAll}
use Rattle.dali_run.specs.Steps.{CleanupIn, EndsComparison, HasCleaned, LeavesLess, Makes, Plays, Rereads, Restarts, RightWithin, SetsFuse, ShowIn, Steps, StepsAlone, StepsRestart, StepsSize, VerifyIn, dead_in}
use Rattle.dali_run.specs.Survives.{BeginsWith, HasLog, Holds, IsOwn, IsPointOf}
use Rattle.dali_run.specs.Told.{AreFit, IsFit, alone, sizes_of, told_by}
use Rattle.dali_run.proofs.Cleanings.{idle_runs, moved_all}
use Rattle.dali_run.proofs.Fit.{all_fit}
use Rattle.dali_run.proofs.Acknowledged.{AllIn, both_in, in_more, made_in, none_of_none, of_base, prefix_keeps}
use Rattle.dali_run.proofs.Made.{restart_begins}
use Rattle.dali_run.proofs.Oks.{stands_front}
use Rattle.dali_run.proofs.OnlyRead.{Reads, read_begins, unread}
use Rattle.dali_run.proofs.Poked.{course_runs}
use Rattle.dali_run.proofs.Surviving.{at_start, begins_all, begins_none, begins_then, cleaned_vault, first_holds, fit_front, front_of, fused_begins, goes_on_from, grown_more, next_fit, no_heads, no_words, none_synced, size_point, tells_on, told_there}

-- ---- files that a crash leaves, whose log is lawful, and no history where damage escaped before. The words of the image may be others, where an audit missed stray
-- writes
record FoundBut (base : List Record) (c : Disk) : Type 0 where
  files : Files
  spells : Spells c files
  finds : FindsBut files
  begins : BeginsWith base (log_in files)

abbrev Loose : List Record → Disk → Type 0
Loose base c = (IsUnformatted c.log × (base ≡ [])) ⊎ FoundBut base c

-- files whose image is right
record FoundLog (base : List Record) (c : Disk) : Type 0 where
  files : Files
  spells : Spells c files
  finds : FindsIt files
  begins : BeginsWith base (log_in files)

abbrev Found : List Record → Disk → Type 0
Found base c = (IsUnformatted c.log × (base ≡ [])) ⊎ FoundLog base c

has_found : (base : List Record) (c : Disk) → HasLog base c → FoundLog base c
has_found base c has = record { files = has.files; spells = has.spells; finds = has.finds; begins = has.begins }

holds_found : (base : List Record) (c : Disk) → Holds base c → Found base c
holds_found base c (inl none) = inl none
holds_found base c (inr has) = inr (has_found base c has)

found_loose : (base : List Record) (c : Disk) → Found base c → Loose base c
found_loose base c (inl none) = inl none
found_loose base c (inr has) =
    inr (record { files = has.files; spells = has.spells; finds = record { right = has.files.image; words = (begins c has.files has.spells has.finds).words; finds = has.finds }; begins = has.begins })

found_durable : (kept : List Transaction) (base : List Record) (c : Disk) → AllIn kept base → Loose base c → IsDurable kept c
found_durable kept base c all (inl none) = inl (none.0, none_of_none kept (subst (AllIn kept) none.1 all))
found_durable kept base c all (inr has) = inr (has.files, has.spells, made_in kept (sizes_in (log_in has.files)) base (log_in has.files) has.finds.finds.lawful.legal has.begins all)

found_none : (base : List Record) (fs : Disk) → IsUnformatted fs.log → Loose base fs → base ≡ []
found_none base fs without (inl none) = none.1
found_none base fs without (inr has) = absurd (log_is_formatted fs.log has.files.batches has.spells.end has.spells.log without)

module _ {V : Type 0} (g : Ghosts V) where
  abbrev Owns : List Record → V → Type 0
  Owns base s = (is_some (g.told s) ≡ true) × ((c : Disk) → g.may_leave s c → Found base c)

  abbrev OwnsBut : List Record → V → Type 0
  OwnsBut base s = (is_some (g.told s) ≡ true) × ((c : Disk) → g.may_leave s c → Loose base c)

  -- a core at a point of a run, which may have begun with a log that is no history
  record Live (base : List Record) (core : Core (Fuse V)) : Type 0 where
    tells : is_some (told_in g core.vault.store) ≡ true
    start : Start
    placed : IsPlaced start
    batches : List (List Record)
    point : Point
    begins : BeginsAt (fused g) start batches point core.regions.items core.system.state core.vault
    flushed : base ≡ take (stable point.core) point.log

  -- at each moment from the one store to the other a crash leaves files that have P
  record Lasts (P : Disk → Type 0) (old new : V) : Type 0 where
    later : g.moment old ≤ g.moment new
    each : (c : Disk) → g.left_since new (g.moment old) c → P c

  abbrev IsThere : List Record → Program V → Type 0
  IsThere base (Up core) = Live base core
  IsThere base (Down store) = OwnsBut base (inner store)

  -- a restart finds it, where no audit missed a stray write in the memory that was given up
  abbrev FoundWhere : Type 0 → List Record → Program V → Type 0
  FoundWhere sound base (Up core) = Unit {0}
  FoundWhere sound base (Down store) = sound → Owns base (inner store)

  live_point : (base : List Record) (core : Core (Fuse V)) → IsPointOf g base core → Live base core
  live_point base core a = record { tells = a.tells; start = a.start; placed = a.placed; batches = a.batches; point = a.point; begins = a.begins; flushed = a.flushed }

  -- ---- what a crash leaves of it
  -- its log has what is flushed
  live_left : (kept : List Transaction) (base : List Record) (core : Core (Fuse V)) → AllIn kept base → Live base core → DurableLeft g kept (inner core.vault.store)
  live_left kept base core all a c may =
      let one = (told_there (told_in g core.vault.store) a.tells a.begins.stands.at.vault.files) c may in
      let t = one.2 in
      inr (
        one.0,
        one.1,
        prefix_keeps kept base a.point one.0 (bases_of a.start) a.start.log all (subst (BeginsWith base) a.flushed (begins_all base)) a.begins.stands.at.vault.run.run
            (trace_prefix a.start t.first t.starts t.steps a.point one.0 t.trace),
      )

  -- and a restart finds it, where no audit missed a stray write
  live_owns : (base : List Record) (core : Core (Fuse V)) → NoneMissedIn (Up core) → Live base core → Owns base (inner core.vault.store)
  live_owns base core none a = (a.tells, λ c may. inr (found c may))
    where
      found : (c : Disk) → g.may_leave (inner core.vault.store) c → FoundLog base c
      found c may =
          let one = (told_there (told_in g core.vault.store) a.tells a.begins.stands.at.vault.files) c may in
          let t = one.2 in
          let prefix = trace_prefix a.start t.first t.starts t.steps a.point one.0 t.trace in
          let seen = crash_is_found a.start t.first t.starts (start_has_place a.start t.first t.starts a.placed) t.steps a.point one.0 t.trace
          (λ r x there. none r x (ap (λ (l : List RegionState). slice_get l r) (sym a.begins.stands.at.regions) ∙ there)) in
          record {
            files = one.0;
            spells = one.1;
            finds = seen.0;
            begins =
                subst (BeginsWith base) (sym prefix.log)
                (subst (λ (l : List Record). BeginsWith l (take prefix.count a.point.log)) (sym a.flushed) (front_of (stable a.point.core) prefix.count a.point.log prefix.flushed));
          }

  -- and but for the words of the image it does, whatever it missed
  live_owns_but : (base : List Record) (core : Core (Fuse V)) → Live base core → OwnsBut base (inner core.vault.store)
  live_owns_but base core a = (a.tells, λ c may. inr (found c may))
    where
      found : (c : Disk) → g.may_leave (inner core.vault.store) c → FoundBut base c
      found c may =
          let one = (told_there (told_in g core.vault.store) a.tells a.begins.stands.at.vault.files) c may in
          let t = one.2 in
          let prefix = trace_prefix a.start t.first t.starts t.steps a.point one.0 t.trace in
          record {
            files = one.0;
            spells = one.1;
            finds = crash_is_found_but a.start t.first t.starts a.placed t.steps a.point one.0 t.trace;
            begins =
                subst (BeginsWith base) (sym prefix.log)
                (subst (λ (l : List Record). BeginsWith l (take prefix.count a.point.log)) (sym a.flushed) (front_of (stable a.point.core) prefix.count a.point.log prefix.flushed));
          }

  but_there : (base : List Record) (p : Program V) → IsThere base p → OwnsBut base (inner (store_of p))
  but_there base (Up core) a = live_owns_but base core a
  but_there base (Down store) a = a

  owns_there : (sound : Type 0) (base : List Record) (p : Program V) → IsSound sound p → IsThere base p → FoundWhere sound base p → Owns base (inner (store_of p))
  owns_there sound base (Up core) is a well = live_owns base core is a
  owns_there sound base (Down store) is a well = well is

  keep_well : (sound : Type 0) (base : List Record) (p : Program V) → FoundWhere sound base p → FoundWhere (IsSound sound p) base p
  keep_well sound base (Up core) well = tt
  keep_well sound base (Down store) well = well

  owns_left : (kept : List Transaction) (base : List Record) (s : V) → AllIn kept base → OwnsBut base s → DurableLeft g kept s
  owns_left kept base s all own c may = found_durable kept base c all (own.1 c may)

  there_left : (kept : List Transaction) (base : List Record) (p : Program V) → AllIn kept base → IsThere base p → DurableLeft g kept (inner (store_of p))
  there_left kept base (Up core) all a = live_left kept base core all a
  there_left kept base (Down store) all a = owns_left kept base (inner store) all a

  -- ---- steps
  record Behind (base : List Record) (core : Core (Fuse V)) : Type 0 where
    log : List Record
    more : BeginsWith base log
    live : Live log core

  live_fused : (base : List Record) (passes : ℕ) (core : Core (Fuse V)) (f : Fuse V) → SetsFuse passes core.vault.store f → Live base core → Live base (record core { vault = with_store core.vault f })
  live_fused base passes core f set a = record {
    tells = subst (λ (x : V). is_some (g.told x) ≡ true) (sym set.store) a.tells;
    start = a.start;
    placed = a.placed;
    batches = a.batches;
    point = a.point;
    begins = fused_begins g passes core f a.start a.batches a.point set a.begins;
    flushed = a.flushed;
  }

  -- ---- a round, whole or cut
  -- what its lines acknowledge is in its flushed log
  record Played (base : List Record) (ts : List Transcribed) (d : Core (Fuse V)) : Type 0 where
    behind : Behind base d
    oks : AllIn (oks_of (map lines_in ts)) behind.log

  live_round : (precheck : Bool) (base : List Record) (blocks : List Blocks) (c d : Core (Fuse V)) (ts : List Transcribed) → IsNoShorter (told_in g) c.vault d.vault
      → Plays g precheck true blocks c ts d → Live base c → Played base ts d
  live_round precheck base blocks c d ts longer plays a =
      let led = plays a.start a.batches a.point a.begins in
      let goes = course_grows (bases_of a.start) a.start.log a.point led.to led.steps a.begins.stands.at.vault.run.run led.course in
      let same : led.to.log ≡ log_of led.round.world = led.stands.at.vault.run.run.log ∙ led.round.log in
      let legal : IsLegalFor led.to.core.system.sizes (log_of led.round.world) = subst (IsLegalFor led.to.core.system.sizes) led.round.log led.stands.at.vault.run.run.run.runs.log.legal in
      record {
        behind = record {
          log = take (stable led.to.core) led.to.log;
          more = grown_more a.point led.to base a.flushed goes.records goes.grown.flushed;
          live = record {
            tells = tells_on (told_in g c.vault.store) (told_in g d.vault.store) longer a.tells;
            start = a.start;
            placed = a.placed;
            batches = led.batches;
            point = led.to;
            begins = record { stands = led.stands; files = led.files; keeps = led.keeps; between = led.round.between refl };
            flushed = refl;
          };
        };
        oks = record {
          each = λ x has.
              let stands = oks_stand precheck a.start.log a.point.core led.to.core blocks (map lines_in ts) (map (λ (t : Transcribed). t.receipts) ts) led.to.core.system.sizes led.round legal x has in
              (stands.0, stands_front led.to.log (stable led.to.core) stands.0 x stands.1 (subst (λ (l : List Record). StandsIn l stands.0 x) (sym same) stands.2));
        };
      }

  -- at a moment within it
  between_keeps : (kept : List Transaction) (base : List Record) (c : Core (Fuse V)) (a : Live base c) → AllIn kept base → (q : Point) (E : Files)
      → IsRightBetween a.start a.point q E → KeepsIn kept (log_in E)
  between_keeps kept base c a all q E is =
      let course = course_join a.point is.between is.to is.before is.steps is.comes is.course in
      let bases = bases_of a.start in
      let run = a.begins.stands.at.vault.run.run in
      let goes = course_grows bases a.start.log a.point is.to (is.before ++ is.steps) run course in
      prefix_keeps kept base is.to E bases a.start.log all (grown_more a.point is.to base a.flushed goes.records goes.grown.flushed)
      (course_runs bases a.start.log a.point is.to (is.before ++ is.steps) run course) is.right.prefix

  round_within : (kept : List Transaction) (base : List Record) (c d : Core (Fuse V)) → AllIn kept base → Live base c → RightWithin g c d → Lasts (IsDurable kept) (inner c.vault.store) (inner d.vault.store)
  round_within kept base c d all a right =
      let ends = right a.start a.batches a.point a.begins in
      let within = told_there (told_in g c.vault.store) a.tells ends.within in
      record { later = within.later; each = λ disk left. let D = within.each disk left in inr (D.0, D.1, between_keeps kept base c a all ends.to D.0 D.2) }

module _ {V : Type 0} (g : Ghosts V)
    (reads_now : (s : V) → IfSome (g.told s) (λ fs. g.may_leave s fs)) (counts_now : (s : V) (t : ℕ) (c : Disk) → t ≤ g.moment s → g.may_leave s c → g.left_since s t c)
    (only_now : (s : V) (c : Disk) → g.left_since s (g.moment s) c → g.may_leave s c) where
  -- ---- dead transactions are cleaned up
  live_cleaned : (base : List Record) (c d : Core (Fuse V)) → HasCleaned g c d → c.system.state.stop ≡ None → Live g base c → Behind g base d
  live_cleaned base c d cleaned up a =
      let idle = idle_runs g a.start a.batches a.point c a.begins up in
      let moved = moved_all g (dead_in c.system.state) a.start a.batches a.point c d cleaned.each a.begins idle.0 idle.1 in
      let goes = course_grows (bases_of a.start) a.start.log a.point moved.to moved.steps a.begins.stands.at.vault.run.run moved.course in
      record {
        log = take (stable moved.to.core) moved.to.log;
        more = grown_more a.point moved.to base a.flushed goes.records goes.grown.flushed;
        live = record {
          tells = subst (λ (v : Vaulted (Fuse V)). is_some (told_in g v.store) ≡ true) (sym (cleaned_vault g reads_now counts_now c d cleaned)) a.tells;
          start = a.start;
          placed = a.placed;
          batches = a.batches;
          point = moved.to;
          begins = moved.begins;
          flushed = refl;
        };
      }

  -- ---- a comparison with a replay
  live_read : (base : List Record) (c : Core (Fuse V)) (f : Fuse V) → Reads g c.vault.store f → faults_in g f ≡ faults_in g c.vault.store
      → Live g base c → Live g base (record c { vault = with_store c.vault f })
  live_read base c f reads kept a = record {
    tells = ap is_some reads.same ∙ a.tells;
    start = a.start;
    placed = a.placed;
    batches = a.batches;
    point = a.point;
    begins = read_begins g f a.start a.batches a.point c.regions.items c.system.state c.vault reads kept a.begins;
    flushed = a.flushed;
  }

  live_unread : (base : List Record) (c : Core (Fuse V)) (f : Fuse V) → Reads g c.vault.store f → Rose (faults_in g c.vault.store) (faults_in g f)
      → Live g base c → Behind g base (record c { vault = with_store c.vault f })
  live_unread base c f reads rose a =
      let there = unread g f a.start a.batches a.point c.regions.items c.system.state c.vault reads rose a.begins in
      let goes = course_grows (bases_of a.start) a.start.log a.point there.to (Does (ReadFails (faults_in g f)) ∷ []) a.begins.stands.at.vault.run.run (there.to, there.step, refl) in
      record {
        log = take (stable there.to.core) there.to.log;
        more = grown_more a.point there.to base a.flushed goes.records goes.grown.flushed;
        live = record {
          tells = ap is_some reads.same ∙ a.tells;
          start = a.start;
          placed = a.placed;
          batches = a.batches;
          point = there.to;
          begins = there.begins;
          flushed = refl;
        };
      }

  live_compared : (base : List Record) (c d : Core (Fuse V)) (text : List ℕ) → EndsComparison g c text d → Live g base c → Behind g base d
  live_compared base c d text (inl compares) a = record {
    log = base;
    more = begins_all base;
    live = subst (Live g base) (sym compares.read.same) (live_read base c d.vault.store compares.read.reads compares.kept a);
  }
  live_compared base c d text (inr stops) a = subst (Behind g base) (sym stops.read.same) (live_unread base c d.vault.store stops.read.reads stops.rose a)

  -- ---- a restart
  live_restart : (limit : ℕ) (base : List Record) (old new : Program V) (text : List ℕ) → Owns g base (inner (store_of old)) → (step : Restarts g limit old text new) → Behind g base step.core
  live_restart limit base old new text own step = by_told (g.told (inner (store_of old))) own.0 (reads_now (inner (store_of old))) step.read step.begins
    where
      from : (fs : Disk) → BeginsRun (fused g) limit fs step.core.regions.items step.core.system.state step.core.vault → FoundLog base fs → Behind g base step.core
      from fs runs has =
          let at = restart_begins (fused g) limit fs has.files step.core.regions.items step.core.system step.core.vault step.fresh step.whole runs has.spells has.finds
          no_words no_heads none_synced in
          record {
            log = at.start.log;
            more = begins_then base (log_in has.files) at.start.log has.begins (goes_on_from (log_in has.files) at.start.log at.log);
            live = record {
              tells = step.left.tells ∙ own.0;
              start = at.start;
              placed = at.placed;
              batches = at.batches;
              point = start_point at.start;
              begins = at.begins;
              flushed = at_start g reads_now counts_now at.start at.begins.stands.at.vault.run;
            };
          }

      by_case : (fs : Disk) → IsReadAs fs (outcome step.core.regions.items step.report) → BeginsRun (fused g) limit fs step.core.regions.items step.core.system.state step.core.vault
          → Found base fs → Behind g base step.core
      by_case fs read runs (inl none) = absurd ((reads_once fs (outcome step.core.regions.items step.report) read).2 none.0)
      by_case fs read runs (inr has) = from fs runs has

      by_told : (o : Option Disk) → is_some o ≡ true → IfSome o (λ fs. g.may_leave (inner (store_of old)) fs) → IfSome o (λ fs. IsReadAs fs (outcome step.core.regions.items step.report))
          → IfSome o (λ fs. BeginsRun (fused g) limit fs step.core.regions.items step.core.system.state step.core.vault) → Behind g base step.core
      by_told None is may read runs = absurd cc
      by_told (Some fs) is may read runs = by_case fs read runs (own.1 fs may)

  on_way : (base : List Record) (F : Files) (c : Disk) → BeginsWith base (log_in F) → SpellsOnWay F c → FoundLog base c
  on_way base F c begins way = record {
    files = way.0;
    spells = way.1;
    finds = way.2.finds;
    begins = begins_then base (log_in F) (log_in way.0) begins (goes_on_from (log_in F) (log_in way.0) way.2.log);
  }

  either_way : (base : List Record) (old : V) (F : Files) (c : Disk) → Owns g base old → BeginsWith base (log_in F) → g.may_leave old c ⊎ SpellsOnWay F c → Found base c
  either_way base old F c own begins (inl was) = own.1 c was
  either_way base old F c own begins (inr way) = inr (on_way base F c begins way)

  stops_found : (base : List Record) (old f : Fuse V) → Rereads g old f → Owns g base (inner old)
      → Lasts g (Found base) (inner old) (inner f)
  stops_found base old f rereads own = by_told (g.told (inner old)) own.0 (reads_now (inner old)) rereads.left.any_moment rereads.none
    where
      by_case : (fs : Disk) → StopsAlike (leaves_in g) (moment_in g) (since_in g) fs old f
          → (IsUnformatted fs.log → OnlyReads (told_in g) (moment_in g) (since_in g) (leaves_in g) old f) → Found base fs → Lasts g (Found base) (inner old) (inner f)
      by_case fs stops only (inl none) = let at = (only none.0).any_moment in record { later = at.later; each = λ c left. own.1 c (at.each c left) }
      by_case fs stops only (inr has) = let at = stops has.files has.spells has.finds in record { later = at.later; each = λ c left. either_way base (inner old) has.files c own has.begins (at.each c left) }

      by_told : (o : Option Disk) → is_some o ≡ true → IfSome o (λ fs. g.may_leave (inner old) fs) → IfSome o (λ fs. StopsAlike (leaves_in g) (moment_in g) (since_in g) fs old f)
          → IfSome o (λ fs. IsUnformatted fs.log → OnlyReads (told_in g) (moment_in g) (since_in g) (leaves_in g) old f) → Lasts g (Found base) (inner old) (inner f)
      by_told None is may stops only = absurd cc
      by_told (Some fs) is may stops only = by_case fs stops only (own.1 fs may)

  later_found : (base : List Record) (F : Files) (c : Disk) → BeginsWith base (log_in F) → SpellsLater F c → FoundBut base c
  later_found base F c begins later = record {
    files = later.0;
    spells = later.1;
    finds = later.2.finds;
    begins = begins_then base (log_in F) (log_in later.0) begins (goes_on_from (log_in F) (log_in later.0) later.2.log);
  }

  either_later : (base : List Record) (old : V) (F : Files) (c : Disk) → OwnsBut g base old → BeginsWith base (log_in F) → g.may_leave old c ⊎ SpellsLater F c → Loose base c
  either_later base old F c own begins (inl was) = own.1 c was
  either_later base old F c own begins (inr later) = inr (later_found base F c begins later)

  -- whatever the words of the image are
  stops_loose : (base : List Record) (old f : Fuse V) → Rereads g old f → OwnsBut g base (inner old) → Lasts g (Loose base) (inner old) (inner f)
  stops_loose base old f rereads own = by_told (g.told (inner old)) own.0 (reads_now (inner old)) rereads.left.appends rereads.none
    where
      by_case : (fs : Disk) → StopsAppending (leaves_in g) (moment_in g) (since_in g) fs old f
          → (IsUnformatted fs.log → OnlyReads (told_in g) (moment_in g) (since_in g) (leaves_in g) old f) → Loose base fs → Lasts g (Loose base) (inner old) (inner f)
      by_case fs appends only (inl none) = let at = (only none.0).any_moment in record { later = at.later; each = λ c left. own.1 c (at.each c left) }
      by_case fs appends only (inr has) = let at = appends has.files has.spells has.finds in record { later = at.later; each = λ c left. either_later base (inner old) has.files c own has.begins (at.each c left) }

      by_told : (o : Option Disk) → is_some o ≡ true → IfSome o (λ fs. g.may_leave (inner old) fs) → IfSome o (λ fs. StopsAppending (leaves_in g) (moment_in g) (since_in g) fs old f)
          → IfSome o (λ fs. IsUnformatted fs.log → OnlyReads (told_in g) (moment_in g) (since_in g) (leaves_in g) old f) → Lasts g (Loose base) (inner old) (inner f)
      by_told None is may appends only = absurd cc
      by_told (Some fs) is may appends only = by_case fs appends only (own.1 fs may)

  restarts_loose : (limit : ℕ) (base : List Record) (old new : Program V) (text : List ℕ) (step : Restarts g limit old text new)
      → OwnsBut g base (inner (store_of old)) → Lasts g (Loose base) (inner (store_of old)) (inner step.core.vault.store)
  restarts_loose limit base old new text step own = by_told (g.told (inner (store_of old))) own.0 (reads_now (inner (store_of old))) step.left.appends step.read
    where
      by_case : (fs : Disk) → StopsAppending (leaves_in g) (moment_in g) (since_in g) fs (store_of old) step.core.vault.store
          → IsReadAs fs (outcome step.core.regions.items step.report) → Loose base fs → Lasts g (Loose base) (inner (store_of old)) (inner step.core.vault.store)
      by_case fs appends read (inl none) = absurd ((reads_once fs (outcome step.core.regions.items step.report) read).2 none.0)
      by_case fs appends read (inr has) =
          let at = appends has.files has.spells has.finds in record { later = at.later; each = λ c left. either_later base (inner (store_of old)) has.files c own has.begins (at.each c left) }

      by_told : (o : Option Disk) → is_some o ≡ true → IfSome o (λ fs. g.may_leave (inner (store_of old)) fs)
          → IfSome o (λ fs. StopsAppending (leaves_in g) (moment_in g) (since_in g) fs (store_of old) step.core.vault.store)
          → IfSome o (λ fs. IsReadAs fs (outcome step.core.regions.items step.report)) → Lasts g (Loose base) (inner (store_of old)) (inner step.core.vault.store)
      by_told None is may appends read = absurd cc
      by_told (Some fs) is may appends read = by_case fs appends read (own.1 fs may)

  -- ---- the making of a database
  made_loose : (index heap : ℕ) → AreInRange (sizes_of index heap) → (base : List Record) (old f : Fuse V) → Makes g index heap old f
      → OwnsBut g base (inner old) → Lasts g (Loose base) (inner old) (inner f)
  made_loose index heap range base old f makes own = by_told (g.told (inner old)) own.0 (reads_now (inner old)) makes.any_moment
    where
      by_log : (fs c : Disk) → Loose base fs → IsUnformatted fs.log → FormatLeaves (g.may_leave (inner old)) (first_body (sizes_of index heap)) c
          → IsUnformatted c.log ⊎ HasFirst (first_body (sizes_of index heap)) c → Loose base c
      by_log fs c found without form (inl none) = inl (none, found_none base fs without found)
      by_log fs c found without form (inr first) =
          found_loose base c
          (inr (subst (λ (l : List Record). FoundLog l c) (sym (found_none base fs without found))
          (has_found [] c (first_holds (sizes_of index heap) range (g.may_leave (inner old)) c (record { others = form.others; anchor = first.anchor; log = first.log })))))

      by_case : (fs c : Disk) → Loose base fs → g.may_leave (inner old) c ⊎ (IsUnformatted fs.log × FormatLeaves (g.may_leave (inner old)) (first_body (sizes_of index heap)) c) → Loose base c
      by_case fs c found (inl before) = own.1 c before
      by_case fs c found (inr form) = by_log fs c found form.0 form.1 form.1.log

      by_told : (o : Option Disk) → is_some o ≡ true → IfSome o (λ fs. g.may_leave (inner old) fs)
          → IfSome o (λ fs. LeavesOnly (moment_in g) (since_in g) old f (λ c. g.may_leave (inner old) c ⊎ (IsUnformatted fs.log × FormatLeaves (g.may_leave (inner old)) (first_body (sizes_of index heap)) c)))
          → Lasts g (Loose base) (inner old) (inner f)
      by_told None is may makes = absurd cc
      by_told (Some fs) is may makes = record { later = makes.later; each = λ c left. by_case fs c (own.1 fs may) (makes.each c left) }

  base_none : (base : List Record) (s : V) → OwnsBut g base s → IfSome (g.told s) (λ fs. IsUnformatted fs.log) → base ≡ []
  base_none base s own without = by_told (g.told s) own.0 without (reads_now s)
    where
      by_told : (o : Option Disk) → is_some o ≡ true → IfSome o (λ fs. IsUnformatted fs.log) → IfSome o (λ fs. g.may_leave s fs) → base ≡ []
      by_told None is without may = absurd cc
      by_told (Some fs) is without may = found_none base fs without (own.1 fs may)

  -- ---- at a moment of a command that makes no database and finds none, and is no round, a crash leaves what it might have left before
  abbrev Quiet : Program V → V → Type 0
  Quiet old s = Lasts g (g.may_leave (inner (store_of old))) (inner (store_of old)) s

  abbrev Within : List Transaction → Program V → Fuse V → Type 0
  Within kept old f = Lasts g (IsDurable kept) (inner (store_of old)) (inner f)

  same_quiet : (old : Program V) (s : V) → s ≡ inner (store_of old) → Quiet old s
  same_quiet old s same = subst (Quiet old) (sym same) (record { later = omega arith; each = λ c left. only_now (inner (store_of old)) c left })

  read_quiet : (old : Program V) (f : Fuse V) → OnlyReads (told_in g) (moment_in g) (since_in g) (leaves_in g) (store_of old) f → Quiet old (inner f)
  read_quiet old f reads = record { later = reads.any_moment.later; each = λ c left. reads.any_moment.each c left }

  less_quiet : (old : Program V) (s : V) → LeavesLess g (inner (store_of old)) s → Quiet old s
  less_quiet old s less = record {
    later = less.time.later;
    each = λ c left. ⊎_elim (λ past. only_now (inner (store_of old)) c past) (λ now. less.crash c now) (less.time.nothing_else (g.moment (inner (store_of old))) c (omega arith) left);
  }

  state_quiet : (old new : Program V) → new ≡ old → Quiet old (inner (store_of new))
  state_quiet old new same = same_quiet old (inner (store_of new)) (ap (λ (p : Program V). inner (store_of p)) same)

  cleaned_store : (core d : Core (Fuse V)) (new : Program V) → HasCleaned g core d → new ≡ Up d → inner (store_of new) ≡ inner core.vault.store
  cleaned_store core d new cleaned up =
      ap (λ (p : Program V). inner (store_of p)) up ∙ ap (λ (v : Vaulted (Fuse V)). inner v.store) (cleaned_vault g reads_now counts_now core d cleaned)

  quiet_within : (kept : List Transaction) (base : List Record) (old : Program V) (f : Fuse V) → AllIn kept base → IsThere g base old → Quiet old (inner f) → Within kept old f
  quiet_within kept base old f all a quiet = record { later = quiet.later; each = λ c left. there_left g kept base old all a c (quiet.each c left) }

  record Onward (base : List Record) (sound : Type 0) (new : Program V) : Type 0 where
    log : List Record
    more : BeginsWith base log
    there : IsThere g log new
    well : FoundWhere g sound log new

  same_there : (base : List Record) (sound : Type 0) (old new : Program V) → new ≡ old → IsThere g base old → FoundWhere g sound base old → Onward base (IsSound sound old) new
  same_there base sound old new same a well = record {
    log = base;
    more = begins_all base;
    there = subst (IsThere g base) (sym same) a;
    well = subst (FoundWhere g (IsSound sound old) base) (sym same) (keep_well g sound base old well);
  }

  up_there : (base : List Record) (sound : Type 0) (core : Core (Fuse V)) (new : Program V) → new ≡ Up core → Behind g base core → Onward base sound new
  up_there base sound core new up b = record { log = b.log; more = b.more; there = subst (IsThere g b.log) (sym up) b.live; well = subst (FoundWhere g sound b.log) (sym up) tt }

  live_there : (base : List Record) (sound : Type 0) (core : Core (Fuse V)) (new : Program V) → new ≡ Up core → Live g base core → Onward base sound new
  live_there base sound core new up a = up_there base sound core new up (record { log = base; more = begins_all base; live = a })

  module _ (limit : ℕ) (precheck : Bool) where
    -- ---- behind a command
    record Known (kept : List Transaction) (p : Program V) : Type 0 where
      base : List Record
      all : AllIn kept base
      there : IsThere g base p

    record Stood (kept : List Transaction) (sound : Type 0) (p : Program V) : Type 0 where
      known : Known kept p
      well : FoundWhere g sound known.base p

    stood_on : (kept : List Transaction) (base : List Record) (sound : Type 0) (new : Program V) → AllIn kept base → Onward base sound new → Stood kept sound new
    stood_on kept base sound new all on = record { known = record { base = on.log; all = in_more kept base on.log on.more all; there = on.there }; well = on.well }

    append_nil : (kept : List Transaction) → kept ++ [] ≡ kept
    append_nil [] = refl
    append_nil (x ∷ kept) = ap (λ l. x ∷ l) (append_nil kept)

    none_told : (kept : List Transaction) (sound : Type 0) (p : Program V) → Stood kept sound p → Stood (kept ++ []) sound p
    none_told kept sound p stood = subst (λ l. Stood l sound p) (sym (append_nil kept)) stood

    round_stood : (kept : List Transaction) (base : List Record) (sound : Type 0) (blocks : List Blocks) (c d : Core (Fuse V)) (ts : List Transcribed) (new : Program V) → new ≡ Up d
        → IsNoShorter (told_in g) c.vault d.vault → Plays g precheck true blocks c ts d → AllIn kept base → Live g base c → Stood (kept ++ oks_of (map lines_in ts)) sound new
    round_stood kept base sound blocks c d ts new up longer plays all a =
        let played = live_round g precheck base blocks c d ts longer plays a in
        let b = played.behind in
        record {
          known = record { base = b.log; all = both_in kept (oks_of (map lines_in ts)) b.log (in_more kept base b.log b.more all) played.oks; there = subst (IsThere g b.log) (sym up) b.live };
          well = subst (FoundWhere g sound b.log) (sym up) tt;
        }

    others : (kept : List Transaction) (sound : Type 0) (old new : Program V) (known : Known kept old) → Onward known.base sound new → Stood (kept ++ []) sound new
    others kept sound old new known on = none_told kept sound new (stood_on kept known.base sound new known.all on)

    alone_stood : (name : Name) (act : Act) (kept : List Transaction) (sound : Type 0) (old new : Program V) (text : List ℕ) → StepsAlone g precheck name act old text new → Stood kept sound old
        → Stood (kept ++ []) (IsSound sound old) new
    alone_stood name act kept sound (Up core) new text step stood =
        let known = stood.known in
        let played = live_round g precheck known.base (alone act) core step.0 step.1.transcripts step.1.longer step.1.plays known.there in
        others kept (IsSound sound (Up core)) (Up core) new known (up_there known.base (IsSound sound (Up core)) step.0 new step.2 played.behind)
    alone_stood name act kept sound (Down store) new text step stood =
        others kept sound (Down store) new stood.known (same_there stood.known.base sound (Down store) new step.1 stood.known.there stood.well)

    cleanup_there : (stop : Option Cause) (base : List Record) (sound : Type 0) (core : Core (Fuse V)) (new : Program V) (text : List ℕ) → core.system.state.stop ≡ stop → CleanupIn g stop core text new
        → Live g base core → Onward base sound new
    cleanup_there (Some cause) base sound core new text is step a = live_there base sound core new step.1 a
    cleanup_there None base sound core new text is step a = up_there base sound step.0 new step.2 (live_cleaned base core step.0 step.1 is a)

    show_there : (stop : Option Cause) (base : List Record) (sound : Type 0) (core : Core (Fuse V)) (new : Program V) (text : List ℕ) → core.system.state.stop ≡ stop → ShowIn g stop core text new
        → Live g base core → Onward base sound new
    show_there (Some cause) base sound core new text is step a = live_there base sound core new step.1 a
    show_there None base sound core new text is step a = up_there base sound step.0 new step.2 (live_cleaned base core step.0 step.1 is a)

    verify_there : (stop : Option Cause) (base : List Record) (sound : Type 0) (core : Core (Fuse V)) (new : Program V) (text : List ℕ) → core.system.state.stop ≡ stop
        → VerifyIn g stop core text new → Live g base core → Onward base sound new
    verify_there (Some cause) base sound core new text is step a = live_there base sound core new step.1 a
    verify_there None base sound core new text is step a =
        let cleaned = live_cleaned base core step.0 step.2 is a in
        let compared = live_compared cleaned.log step.0 step.1 text step.3 cleaned.live in
        up_there base sound step.1 new step.4 (record { log = compared.log; more = begins_then base cleaned.log compared.log cleaned.more compared.more; live = compared.live })

    -- where the program is up then, no audit missed a stray write in what was found
    restart_there : (base : List Record) (sound : Type 0) (old new : Program V) (text : List ℕ) → StepsRestart g limit old text new → SoundWhere sound old new → IsThere g base old → FoundWhere g sound base old
        → Onward base (IsSound sound old) new
    restart_there base sound old new text (inl step) up a well =
        up_there base (IsSound sound old) step.core new step.up
        (live_restart limit base old new text (owns_there g sound base old (subst (SoundWhere sound old) step.up up) a well) step)
    restart_there base sound old new text (inr step) up a well = record {
      log = base;
      more = begins_all base;
      there = subst (IsThere g base) (sym step.down)
          (let own = but_there g base old a in
          let lasts = stops_loose base (store_of old) step.store step.left own in
          (step.left.left.tells ∙ own.0, λ c may. lasts.each c (counts_now (inner step.store) (g.moment (inner (store_of old))) c lasts.later may)));
      well = subst (FoundWhere g (IsSound sound old) base) (sym step.down)
          (λ is.
          let own = owns_there g sound base old is a well in
          let lasts = stops_found base (store_of old) step.store step.left own in
          (step.left.left.tells ∙ own.0, λ c may. lasts.each c (counts_now (inner step.store) (g.moment (inner (store_of old))) c lasts.later may)));
    }

    size_there : (index heap : ℕ) (base : List Record) (sound : Type 0) (old new : Program V) (text : List ℕ) → StepsSize g limit index heap old text new → OwnsBut g base (inner (store_of old))
        → Onward base sound new
    size_there index heap base sound old new text step own =
        let first : List Record = first_record (sizes_of index heap) ∷ [] in
        up_there base sound step.core new step.up (record {
          log = first;
          more = subst (λ (l : List Record). BeginsWith l first) (sym (base_none base (inner (store_of old)) own step.unformatted)) (begins_none first);
          live = live_point g first step.core (size_point g reads_now counts_now limit index heap old new text own.0 step);
        })

    crash_there : (base : List Record) (sound : Type 0) (old new : Program V) (store : V) → IsDown new store → LeavesLess g (inner (store_of old)) store → IsThere g base old → FoundWhere g sound base old
        → Onward base (IsSound sound old) new
    crash_there base sound old new store down less a well = record {
      log = base;
      more = begins_all base;
      there = subst (IsThere g base) (sym down.down)
          (let own = but_there g base old a in subst (OwnsBut g base) (sym down.store_is) (less.tells ∙ own.0, λ c may. own.1 c (less.crash c may)));
      well = subst (FoundWhere g (IsSound sound old) base) (sym down.down)
          (λ is. let own = owns_there g sound base old is a well in subst (Owns g base) (sym down.store_is) (less.tells ∙ own.0, λ c may. own.1 c (less.crash c may)));
    }

    fuse_there : (passes : ℕ) (base : List Record) (sound : Type 0) (store f : Fuse V) (new : Program V) → SetsFuse passes store f → new ≡ Down f → OwnsBut g base (inner store) → (sound → Owns g base (inner store))
        → Onward base sound new
    fuse_there passes base sound store f new set down own well = record {
      log = base;
      more = begins_all base;
      there = subst (IsThere g base) (sym down) (subst (OwnsBut g base) (sym set.store) own);
      well = subst (FoundWhere g sound base) (sym down) (λ is. subst (Owns g base) (sym set.store) (well is));
    }

    step_stood : (command : Command) (kept : List Transaction) (sound : Type 0) (old new : Program V) (text : List ℕ) (step : Steps g limit precheck old command text new)
        → ComesUp command sound old new → Stood kept sound old → Stood (kept ++ oks_by g limit precheck command old text new step) (IsSound sound old) new
    step_stood (Round blocks) kept sound (Up core) new text step up stood =
        let known = stood.known in round_stood kept known.base (IsSound sound (Up core)) (map told_by blocks) core step.0 step.1.transcripts new step.2 step.1.longer step.1.plays known.all known.there
    step_stood (Round blocks) kept sound (Down store) new text step up stood =
        others kept sound (Down store) new stood.known (same_there stood.known.base sound (Down store) new step.1 stood.known.there stood.well)
    step_stood (Poke region word mask) kept sound old new text step up stood = alone_stood names.Poke (Pokes region word mask) kept sound old new text step stood
    step_stood Audit kept sound old new text step up stood = alone_stood names.Audit Audits kept sound old new text step stood
    step_stood Checkpoint kept sound old new text step up stood = alone_stood names.Checkpoint Checkpoints kept sound old new text step stood
    step_stood (Size index heap) kept sound old new text step up stood =
        let known = stood.known in others kept (IsSound sound old) old new known (size_there index heap known.base (IsSound sound old) old new text step (but_there g known.base old known.there))
    step_stood Open kept sound old new text step up stood =
        let known = stood.known in others kept (IsSound sound old) old new known (restart_there known.base sound old new text step up known.there stood.well)
    step_stood Restart kept sound old new text step up stood =
        let known = stood.known in others kept (IsSound sound old) old new known (restart_there known.base sound old new text step up known.there stood.well)
    step_stood (Crash choice) kept sound old new text step up stood =
        let known = stood.known in others kept (IsSound sound old) old new known (crash_there known.base sound old new step.store step.down step.left known.there stood.well)
    step_stood Cleanup kept sound (Up core) new text step up stood =
        let known = stood.known in
        others kept (IsSound sound (Up core)) (Up core) new known (cleanup_there core.system.state.stop known.base (IsSound sound (Up core)) core new text refl step known.there)
    step_stood Cleanup kept sound (Down store) new text step up stood =
        others kept sound (Down store) new stood.known (same_there stood.known.base sound (Down store) new step.1 stood.known.there stood.well)
    step_stood Show kept sound (Up core) new text step up stood =
        let known = stood.known in
        others kept (IsSound sound (Up core)) (Up core) new known (show_there core.system.state.stop known.base (IsSound sound (Up core)) core new text refl step known.there)
    step_stood Show kept sound (Down store) new text step up stood =
        others kept sound (Down store) new stood.known (same_there stood.known.base sound (Down store) new step.1 stood.known.there stood.well)
    step_stood Verify kept sound (Up core) new text step up stood =
        let known = stood.known in
        others kept (IsSound sound (Up core)) (Up core) new known (verify_there core.system.state.stop known.base (IsSound sound (Up core)) core new text refl step known.there)
    step_stood Verify kept sound (Down store) new text step up stood =
        others kept sound (Down store) new stood.known (same_there stood.known.base sound (Down store) new step.1 stood.known.there stood.well)
    step_stood Next kept sound old new text step up stood =
        others kept (IsSound sound old) old new stood.known (same_there stood.known.base sound old new step.1 stood.known.there stood.well)
    step_stood (SetFuse passes) kept sound (Up core) new text step up stood =
        let known = stood.known in
        others kept (IsSound sound (Up core)) (Up core) new known
        (live_there known.base (IsSound sound (Up core)) (record core { vault = with_store core.vault step.0.0 }) new step.0.2 (live_fused g known.base passes core step.0.0 step.0.1 known.there))
    step_stood (SetFuse passes) kept sound (Down store) new text step up stood =
        let known = stood.known in others kept sound (Down store) new known (fuse_there passes known.base sound store step.0.0 new step.0.1 step.0.2 known.there stood.well)

    -- ---- within it
    found_within : (kept : List Transaction) (base : List Record) (old : Program V) (f : Fuse V) → AllIn kept base
        → Lasts g (Loose base) (inner (store_of old)) (inner f) → Within kept old f
    found_within kept base old f all found = record { later = found.later; each = λ c left. found_durable kept base c all (found.each c left) }

    restart_within : (kept : List Transaction) (base : List Record) (old new : Program V) (text : List ℕ) → AllIn kept base → StepsRestart g limit old text new → OwnsBut g base (inner (store_of old))
        → Within kept old (store_of new)
    restart_within kept base old new text all (inl step) own =
        subst (λ (p : Program V). Within kept old (store_of p)) (sym step.up) (found_within kept base old step.core.vault.store all (restarts_loose limit base old new text step own))
    restart_within kept base old new text all (inr step) own =
        subst (λ (p : Program V). Within kept old (store_of p)) (sym step.down) (found_within kept base old step.store all (stops_loose base (store_of old) step.store step.left own))

    up_within : (kept : List Transaction) (base : List Record) (core d : Core (Fuse V)) (new : Program V) → new ≡ Up d → AllIn kept base → Live g base core → RightWithin g core d
        → Within kept (Up core) (store_of new)
    up_within kept base core d new up all a right = subst (λ (p : Program V). Within kept (Up core) (store_of p)) (sym up) (round_within g kept base core d all a right)

    alone_within : (name : Name) (act : Act) (kept : List Transaction) (old new : Program V) (text : List ℕ) → StepsAlone g precheck name act old text new → Known kept old → Within kept old (store_of new)
    alone_within name act kept (Up core) new text step known = up_within kept known.base core step.0 new step.2 known.all known.there step.1.moments
    alone_within name act kept (Down store) new text step known = quiet_within kept known.base (Down store) (store_of new) known.all known.there (state_quiet (Down store) new step.1)

    cleanup_quiet : (stop : Option Cause) (core : Core (Fuse V)) (new : Program V) (text : List ℕ) → CleanupIn g stop core text new → Quiet (Up core) (inner (store_of new))
    cleanup_quiet (Some cause) core new text step = state_quiet (Up core) new step.1
    cleanup_quiet None core new text step = same_quiet (Up core) (inner (store_of new)) (cleaned_store core step.0 new step.1 step.2)

    show_quiet : (stop : Option Cause) (core : Core (Fuse V)) (new : Program V) (text : List ℕ) → ShowIn g stop core text new → Quiet (Up core) (inner (store_of new))
    show_quiet (Some cause) core new text step = state_quiet (Up core) new step.1
    show_quiet None core new text step = same_quiet (Up core) (inner (store_of new)) (cleaned_store core step.0 new step.1 step.2)

    compared_reads : (c d : Core (Fuse V)) (text : List ℕ) → EndsComparison g c text d → OnlyReads (told_in g) (moment_in g) (since_in g) (leaves_in g) c.vault.store d.vault.store
    compared_reads c d text (inl compares) = compares.read.reads
    compared_reads c d text (inr stops) = stops.read.reads

    verify_quiet : (stop : Option Cause) (core : Core (Fuse V)) (new : Program V) (text : List ℕ) → VerifyIn g stop core text new → Quiet (Up core) (inner (store_of new))
    verify_quiet (Some cause) core new text step = state_quiet (Up core) new step.1
    verify_quiet None core new text step =
        let vault : step.0.vault.store ≡ core.vault.store = ap (λ (v : Vaulted (Fuse V)). v.store) (cleaned_vault g reads_now counts_now core step.0 step.2) in
        let reads = subst (λ (f : Fuse V). OnlyReads (told_in g) (moment_in g) (since_in g) (leaves_in g) f step.1.vault.store) vault (compared_reads step.0 step.1 text step.3) in
        subst (λ (p : Program V). Quiet (Up core) (inner (store_of p))) (sym step.4) (read_quiet (Up core) step.1.vault.store reads)

    step_within : (command : Command) → IsFit command → (kept : List Transaction) (old new : Program V) (text : List ℕ) → Steps g limit precheck old command text new
        → Known kept old → Within kept old (store_of new)
    step_within (Size index heap) fit kept old new text step known =
        subst (λ (p : Program V). Within kept old (store_of p)) (sym step.up)
        (found_within kept known.base old step.core.vault.store known.all (made_loose index heap fit known.base (store_of old) step.core.vault.store step.left (but_there g known.base old known.there)))
    step_within Open fit kept old new text step known = restart_within kept known.base old new text known.all step (but_there g known.base old known.there)
    step_within Restart fit kept old new text step known = restart_within kept known.base old new text known.all step (but_there g known.base old known.there)
    step_within (Round blocks) fit kept (Up core) new text step known = up_within kept known.base core step.0 new step.2 known.all known.there step.1.moments
    step_within (Round blocks) fit kept (Down store) new text step known = quiet_within kept known.base (Down store) (store_of new) known.all known.there (state_quiet (Down store) new step.1)
    step_within (Poke region word mask) fit kept old new text step known = alone_within names.Poke (Pokes region word mask) kept old new text step known
    step_within Audit fit kept old new text step known = alone_within names.Audit Audits kept old new text step known
    step_within Checkpoint fit kept old new text step known = alone_within names.Checkpoint Checkpoints kept old new text step known
    step_within Cleanup fit kept (Up core) new text step known = quiet_within kept known.base (Up core) (store_of new) known.all known.there (cleanup_quiet core.system.state.stop core new text step)
    step_within Cleanup fit kept (Down store) new text step known = quiet_within kept known.base (Down store) (store_of new) known.all known.there (state_quiet (Down store) new step.1)
    step_within (Crash choice) fit kept old new text step known =
        quiet_within kept known.base old (store_of new) known.all known.there
        (subst (Quiet old) (sym (ap (λ (p : Program V). inner (store_of p)) step.down.down ∙ step.down.store_is)) (less_quiet old step.store step.left))
    step_within Show fit kept (Up core) new text step known = quiet_within kept known.base (Up core) (store_of new) known.all known.there (show_quiet core.system.state.stop core new text step)
    step_within Show fit kept (Down store) new text step known = quiet_within kept known.base (Down store) (store_of new) known.all known.there (state_quiet (Down store) new step.1)
    step_within Verify fit kept (Up core) new text step known = quiet_within kept known.base (Up core) (store_of new) known.all known.there (verify_quiet core.system.state.stop core new text step)
    step_within Verify fit kept (Down store) new text step known = quiet_within kept known.base (Down store) (store_of new) known.all known.there (state_quiet (Down store) new step.1)
    step_within Next fit kept old new text step known = quiet_within kept known.base old (store_of new) known.all known.there (state_quiet old new step.1)
    step_within (SetFuse passes) fit kept (Up core) new text step known =
        quiet_within kept known.base (Up core) (store_of new) known.all known.there
        (same_quiet (Up core) (inner (store_of new)) (ap (λ (p : Program V). inner (store_of p)) step.0.2 ∙ step.0.1.store))
    step_within (SetFuse passes) fit kept (Down store) new text step known =
        quiet_within kept known.base (Down store) (store_of new) known.all known.there
        (same_quiet (Down store) (inner (store_of new)) (ap (λ (p : Program V). inner (store_of p)) step.0.2 ∙ step.0.1.store))

    -- ---- within one that failed
    fuse_within : (kept : List Transaction) (old : Program V) (f : Fuse V) → f ≡ store_of old → Known kept old → Within kept old f
    fuse_within kept old f same known = quiet_within kept known.base old f known.all known.there (same_quiet old (inner f) (ap (λ (x : Fuse V). inner x) same))

    read_within : (kept : List Transaction) (old : Program V) (f : Fuse V) → OnlyReads (told_in g) (moment_in g) (since_in g) (leaves_in g) (store_of old) f → Known kept old → Within kept old f
    read_within kept old f reads known = quiet_within kept known.base old f known.all known.there (read_quiet old f reads)

    less_within : (kept : List Transaction) (old : Program V) (f : Fuse V) → LeavesLess g (inner (store_of old)) (inner f) → Known kept old → Within kept old f
    less_within kept old f less known = quiet_within kept known.base old f known.all known.there (less_quiet old (inner f) less)

    stops_within : (kept : List Transaction) (old : Program V) (f : Fuse V) → Rereads g (store_of old) f → Known kept old → Within kept old f
    stops_within kept old f rereads known =
        found_within kept known.base old f known.all (stops_loose known.base (store_of old) f rereads (but_there g known.base old known.there))

    made_within : (index heap : ℕ) → AreInRange (sizes_of index heap) → (kept : List Transaction) (old : Program V) (f : Fuse V) → Makes g index heap (store_of old) f → Known kept old
        → Within kept old f
    made_within index heap range kept old f makes known =
        found_within kept known.base old f known.all (made_loose index heap range known.base (store_of old) f makes (but_there g known.base old known.there))

    lost_within : (kept : List Transaction) (blocks : List Blocks) (old : Program V) (f : Fuse V) → Lost g precheck blocks old f → Known kept old → Within kept old f
    lost_within kept blocks (Up core) f (inl same) known = fuse_within kept (Up core) f same known
    lost_within kept blocks (Up core) f (inr played) known =
        subst (λ (x : Fuse V). Within kept (Up core) x) (sym played.store) (round_within g kept known.base core played.core known.all known.there played.moments)
    lost_within kept blocks (Down store) f same known = fuse_within kept (Down store) f same known

    lone_within : (kept : List Transaction) (act : Act) (old : Program V) (f : Fuse V) → AloneFails g precheck act old f → Known kept old → Within kept old f
    lone_within kept act (Up core) f fails known =
        subst (λ (x : Fuse V). Within kept (Up core) x) (sym fails.store) (round_within g kept known.base core fails.core known.all known.there fails.moments)
    lone_within kept act (Down store) f fails known = absurd fails

    broken_within : (command : Command) → IsFit command → (kept : List Transaction) (old : Program V) (f : Fuse V) → Breaks g precheck command old f → Known kept old
        → Within kept old f
    broken_within (Size index heap) fit kept old f breaks known = made_within index heap fit kept old f breaks.0 known
    broken_within Open fit kept old f breaks known = stops_within kept old f breaks.0 known
    broken_within Restart fit kept old f breaks known = stops_within kept old f breaks.0 known
    broken_within (Round blocks) fit kept old f breaks known = lost_within kept (map told_by blocks) old f breaks known
    broken_within (Poke region word mask) fit kept old f breaks known = lost_within kept (alone (Pokes region word mask)) old f breaks known
    broken_within Audit fit kept old f breaks known = lost_within kept (alone Audits) old f breaks known
    broken_within Checkpoint fit kept old f breaks known = lost_within kept (alone Checkpoints) old f breaks known
    broken_within (Crash choice) fit kept old f breaks known = less_within kept old f breaks.0 known
    broken_within (SetFuse passes) fit kept old f breaks known = quiet_within kept known.base old f known.all known.there (same_quiet old (inner f) breaks)
    broken_within Next fit kept old f breaks known = absurd breaks
    broken_within Cleanup fit kept old f breaks known = fuse_within kept old f breaks known
    broken_within Show fit kept old f breaks known = fuse_within kept old f breaks known
    broken_within Verify fit kept old f breaks known = read_within kept old f breaks.0 known

    failed_within : (command : Command) → IsFit command → (kept : List Transaction) (old : Program V) (f : Fuse V) → StoreFailsIn g precheck command old f → Known kept old
        → Within kept old f
    failed_within (Size index heap) fit kept old f fails known = made_within index heap fit kept old f fails.1 known
    failed_within Open fit kept old f fails known = stops_within kept old f fails.1 known
    failed_within Restart fit kept old f fails known = stops_within kept old f fails.1 known
    failed_within (Poke region word mask) fit kept old f fails known = lone_within kept (Pokes region word mask) old f fails known
    failed_within Audit fit kept old f fails known = lone_within kept Audits old f fails known
    failed_within Checkpoint fit kept old f fails known = lone_within kept Checkpoints old f fails known
    failed_within (Crash choice) fit kept old f fails known = less_within kept old f fails.1 known
    failed_within Verify fit kept old f fails known = read_within kept old f fails.1 known
    failed_within (Round blocks) fit kept old f fails known = absurd fails
    failed_within Cleanup fit kept old f fails known = absurd fails
    failed_within Show fit kept old f fails known = absurd fails
    failed_within Next fit kept old f fails known = absurd fails
    failed_within (SetFuse passes) fit kept old f fails known = absurd fails

    fails_within : (halt : Halt) (command : Command) → IsFit command → (kept : List Transaction) (old : Program V) (f : Fuse V) → Fails g precheck halt command old f → Known kept old
        → Within kept old f
    fails_within halts.StoreFault command fit kept old f fails known = failed_within command fit kept old f fails known
    fails_within halts.OutOfMemory command fit kept old f fails known = broken_within command fit kept old f fails known
    fails_within (halts.BadStore file at) command fit kept old f fails known = read_within kept old f fails.2 known
    fails_within halts.Unformatted command fit kept old f fails known = read_within kept old f fails.2 known
    fails_within halts.Formatted command fit kept old f fails known = read_within kept old f fails.2 known
    fails_within halts.StoreUnsteady command fit kept old f fails known = read_within kept old f fails.2 known
    fails_within halts.RecordTooLong command fit kept old f fails known = read_within kept old f fails.2 known
    fails_within halts.BadWords command fit kept old f fails known = absurd fails
    fails_within (halts.BadScript line kind) command fit kept old f fails known = absurd fails
    fails_within halts.TooLong command fit kept old f fails known = absurd fails
    fails_within halts.ReadFault command fit kept old f fails known = absurd fails
    fails_within halts.WriteFault command fit kept old f fails known = absurd fails
    fails_within (halts.LogFull end most) command fit kept old f fails known = absurd fails
    fails_within halts.TooSmall command fit kept old f fails known = absurd fails
    fails_within halts.NotLoaded command fit kept old f fails known = absurd fails

    -- ---- along a run
    along : (Behind : List Transaction → Type 0) (commands : List Command) → AreFit commands → (kept : List Transaction) (sound : Type 0) (old : Program V) (text : List ℕ) (new : Program V)
        → (runs : RunsAll g limit precheck old commands text new) → Stood kept sound old → ((now : List Transaction) (is : Type 0) → Stood now is new → Behind now)
        → DurableAlong g limit precheck Behind commands kept sound old text new runs
    along Behind [] fit kept sound old text new runs stood then =
        (there_left g kept stood.known.base old stood.known.all stood.known.there, then kept sound (subst (Stood kept sound) (sym runs.1) stood))
    along Behind (command ∷ later) fit kept sound old text new runs stood then = (
      there_left g kept stood.known.base old stood.known.all stood.known.there,
      (step_within command fit.0 kept old runs.1 runs.0 runs.3 stood.known).each,
      λ up.
          along Behind later fit.1 (kept ++ oks_by g limit precheck command old runs.0 runs.1 runs.3) (IsSound sound old) runs.1 runs.2 new runs.4
          (step_stood command kept sound old runs.1 runs.0 runs.3 up stood) then,
    )

    known_left : (kept : List Transaction) (p : Program V) (s : V) → inner (store_of p) ≡ s → Known kept p → DurableLeft g kept s
    known_left kept p s same known = subst (DurableLeft g kept) same (there_left g kept known.base p known.all known.there)

    -- behind a command, also where its core stands at no point of a run
    restart_left : (command : Command) → IsFit command → (kept : List Transaction) (old new : Program V) (text : List ℕ) → Steps g limit precheck old command text new → Known kept old
        → DurableLeft g (kept ++ []) (inner (store_of new))
    restart_left command fit kept old new text step known =
        subst (λ (l : List Transaction). DurableLeft g l (inner (store_of new))) (sym (append_nil kept))
        (let lasts = step_within command fit kept old new text step known in λ d may. lasts.each d (counts_now (inner (store_of new)) (g.moment (inner (store_of old))) d lasts.later may))

    stood_left : (kept : List Transaction) (sound : Type 0) (p : Program V) → Stood kept sound p → DurableLeft g kept (inner (store_of p))
    stood_left kept sound p stood = there_left g kept stood.known.base p stood.known.all stood.known.there

    step_left : (command : Command) → IsFit command → (kept : List Transaction) (sound : Type 0) (old new : Program V) (text : List ℕ) (step : Steps g limit precheck old command text new) → Stood kept sound old
        → DurableLeft g (kept ++ oks_by g limit precheck command old text new step) (inner (store_of new))
    step_left Open fit kept sound old new text step stood = restart_left Open fit kept old new text step stood.known
    step_left Restart fit kept sound old new text step stood = restart_left Restart fit kept old new text step stood.known
    step_left (Round blocks) fit kept sound old new text step stood =
        stood_left (kept ++ oks_by g limit precheck (Round blocks) old text new step) (IsSound sound old) new (step_stood (Round blocks) kept sound old new text step tt stood)
    step_left (Poke region word mask) fit kept sound old new text step stood =
        stood_left (kept ++ oks_by g limit precheck (Poke region word mask) old text new step) (IsSound sound old) new (step_stood (Poke region word mask) kept sound old new text step tt stood)
    step_left Audit fit kept sound old new text step stood =
        stood_left (kept ++ oks_by g limit precheck Audit old text new step) (IsSound sound old) new (step_stood Audit kept sound old new text step tt stood)
    step_left Checkpoint fit kept sound old new text step stood =
        stood_left (kept ++ oks_by g limit precheck Checkpoint old text new step) (IsSound sound old) new (step_stood Checkpoint kept sound old new text step tt stood)
    step_left (Size index heap) fit kept sound old new text step stood =
        stood_left (kept ++ oks_by g limit precheck (Size index heap) old text new step) (IsSound sound old) new (step_stood (Size index heap) kept sound old new text step tt stood)
    step_left (Crash choice) fit kept sound old new text step stood =
        stood_left (kept ++ oks_by g limit precheck (Crash choice) old text new step) (IsSound sound old) new (step_stood (Crash choice) kept sound old new text step tt stood)
    step_left Cleanup fit kept sound old new text step stood =
        stood_left (kept ++ oks_by g limit precheck Cleanup old text new step) (IsSound sound old) new (step_stood Cleanup kept sound old new text step tt stood)
    step_left Show fit kept sound old new text step stood =
        stood_left (kept ++ oks_by g limit precheck Show old text new step) (IsSound sound old) new (step_stood Show kept sound old new text step tt stood)
    step_left Verify fit kept sound old new text step stood =
        stood_left (kept ++ oks_by g limit precheck Verify old text new step) (IsSound sound old) new (step_stood Verify kept sound old new text step tt stood)
    step_left Next fit kept sound old new text step stood =
        stood_left (kept ++ oks_by g limit precheck Next old text new step) (IsSound sound old) new (step_stood Next kept sound old new text step tt stood)
    step_left (SetFuse passes) fit kept sound old new text step stood =
        stood_left (kept ++ oks_by g limit precheck (SetFuse passes) old text new step) (IsSound sound old) new (step_stood (SetFuse passes) kept sound old new text step tt stood)

    module _ (c : Course V) (mid : Option (List ℕ)) (count : ℕ) (base : List Record) (own : IsOwn g base c.store) where
      abbrev kept : List Transaction
      kept = transactions_in base

      all : AllIn kept base
      all = of_base g reads_now base c.store own

      owns : Owns g base c.store
      owns = (own.0, λ d may. holds_found base d (own.1 d may))

      owns_but : OwnsBut g base c.store
      owns_but = (own.0, λ d may. found_loose base d (holds_found base d (own.1 d may)))

      first : (p : Program V) → IsDown p c.store → Stood kept (Unit {0}) p
      first p down = record {
        known = record { base = base; all = all; there = subst (IsThere g base) (sym down.down) (subst (OwnsBut g base) (sym down.store_is) owns_but) };
        well = subst (FoundWhere g (Unit {0}) base) (sym down.down) (λ is. subst (Owns g base) (sym down.store_is) owns);
      }

      same_store : c.store' ≡ c.store → DurableLeft g kept c.store'
      same_store same = subst (DurableLeft g kept) (sym same) (owns_left g kept base c.store all owns_but)

      stopped : (halt : Halt) (stop : HasStopped g limit precheck halt c mid) → StoppedIsDurable g limit precheck c mid count kept halt stop
      stopped halt stop =
          let stops = stop.2 in
          let fit = all_fit stop.1.bytes stop.0 stop.1.spelled in
          along (λ now. DurableWithin g now stops.state stops.last × DurableLeft g now c.store') (take stops.count stop.0) (fit_front stops.count stop.0 fit) kept (Unit {0})
          stops.run.first stops.text stops.state stops.run.runs (first stops.run.first stops.run.down)
          (λ now sound stood.
          let lasts = fails_within halt stops.command (next_fit stop.0 stops.count stops.command fit stops.next.next) now stops.state stops.last stops.fails stood.known in
          (lasts.each, subst (DurableLeft g now) stops.store (λ d may. lasts.each d (counts_now (inner stops.last) (g.moment (inner (store_of stops.state))) d lasts.later may))))

      wanting : (o : Untouched c mid ⊎ HasStopped g limit precheck halts.OutOfMemory c mid) → WantingIsDurable g limit precheck c mid count kept o
      wanting (inl same) = same_store same.0
      wanting (inr stop) = stopped halts.OutOfMemory stop

      script_is_durable : (status : Status) (ended : EndedScript g limit precheck c mid count status) → ScriptIsDurable g limit precheck c mid count kept status ended
      script_is_durable Done ended =
          let ran = ended.2 in
          along (λ now. DurableLeft g now c.store') (take (length ended.0) ended.0) (fit_front (length ended.0) ended.0 (all_fit ended.1.bytes ended.0 ended.1.spelled)) kept (Unit {0}) ran.run.first ran.text ran.state
          ran.run.runs (first ran.run.first ran.run.down) (λ now sound stood. known_left now ran.state c.store' ran.store stood.known)
      script_is_durable WriteFault ended =
          let cut = ended.1.2 in
          let fit = all_fit ended.1.1.bytes ended.1.0 ended.1.1.spelled in
          along
          (λ now. DurableWithin g now cut.earlier (store_of cut.state)
          × DurableLeft g (now ++ oks_by g limit precheck cut.command cut.earlier cut.more cut.state cut.steps) c.store')
          (take cut.count ended.1.0) (fit_front cut.count ended.1.0 fit) kept (Unit {0}) cut.ran.first cut.text cut.earlier cut.ran.runs (first cut.ran.first cut.ran.down)
          (λ now sound stood.
          let next = next_fit ended.1.0 cut.count cut.command fit cut.next.next in (
            (step_within cut.command next now cut.earlier cut.state cut.more cut.steps stood.known).each,
            subst (DurableLeft g (now ++ oks_by g limit precheck cut.command cut.earlier cut.more cut.state cut.steps)) cut.store
                (step_left cut.command next now sound cut.earlier cut.state cut.more cut.steps stood),
          ))
      script_is_durable StoreFault ended = stopped halts.StoreFault ended
      script_is_durable (BadStore file at) ended = stopped (halts.BadStore file at) ended
      script_is_durable Unformatted ended = stopped halts.Unformatted ended
      script_is_durable Formatted ended = stopped halts.Formatted ended
      script_is_durable StoreUnsteady ended = stopped halts.StoreUnsteady ended
      script_is_durable RecordTooLong ended = stopped halts.RecordTooLong ended
      script_is_durable OutOfMemory ended = wanting ended
      script_is_durable (LogFull end most) ended = absurd ended
      script_is_durable TooSmall ended = absurd ended
      script_is_durable NotLoaded ended = absurd ended
      script_is_durable BadWords ended = absurd ended
      script_is_durable (BadScript line kind) ended = same_store ended.1.0
      script_is_durable TooLong ended = same_store ended.1.0
      script_is_durable ReadFault ended = same_store ended.1.0

  durable : (words : List (List ℕ)) (c : Course V) (base : List Record) → IsOwn g base c.store → (mid : Option (List ℕ)) (count : ℕ) (task : Option Task)
      → (status : Status) (ended : Ended g task c mid count status) → TaskIsDurable g c mid count (transactions_in base) task status ended
  durable words c base own mid count None status ended = tt
  durable words c base own mid count (Some Dump) status ended = tt
  durable words c base own mid count (Some Show) status ended = tt
  durable words c base own mid count (Some Standing) status ended = tt
  durable words c base own mid count (Some (Load index heap)) status ended = tt
  durable words c base own mid count (Some (Generate clients size number)) status ended = tt
  durable words c base own mid count (Some (Run precheck limit)) status ended = script_is_durable limit precheck c mid count base own status ended

  pub acknowledged_stay : AcknowledgedStay g
  acknowledged_stay words c status base own e = durable words c base own e.mid e.count (meaning words) status e.ended
