-- What was acknowledged is kept at each state of a run, and in the store that comes back.
use Rattle.std.proofs.Common.{◌≡◌, ◌≤◌, ℕ, Bool, true, false, List, [], ◌∷◌, ◌++◌, Option, Some, None, length, map, take, refl, sym, ◌∙◌, ap, subst, inl, inr, ⊎_elim, arith}
use Rattle.std.specs.Prelude.{◌⊎◌, Contains, IfSome}
use Rattle.dali_arguments.specs.Meaning.{meaning}
use Rattle.dali_arguments.specs.Laws.{IsInRange}
use Rattle.dali_arguments.specs.declared.task.Task.{Task}
use Rattle.dali_arguments.specs.declared.task.Task.TheVariants.{Run, Generate, Dump, Show, Status as Standing, Load}
use Rattle.dali_arguments.proofs.InRange.{in_range}
use Rattle.dali_resume.specs.Interrupted.Found.{FindsIt}
use Rattle.dali_checkpoint.proofs.Calls.{course_join}
use Rattle.dali_crash.specs.Checkpoints.{Point}
use Rattle.dali_crash.specs.Traces.{bases_of}
use Rattle.dali_crash.proofs.Growth.{course_grows}
use Rattle.dali_crash.proofs.Traces.{trace_prefix}
use Rattle.dali_round.specs.Moments.{IsRightBetween}
use Rattle.dali_log.specs.Reads.{OnlyReads}
use Rattle.dali_transcripts.specs.Clients.Said.{Transcribed}
use Rattle.dali_generator.specs.Generated.{AreWithin, generated, index_regions, heap_regions}
use Rattle.dali_generator.proofs.Right.{right_sizes}
use Rattle.dali_history.proofs.HeadlineLemmas.Headline.{restart_is_right}
use Rattle.dali_history.specs.History.{HasExpected, IsHistory}
use Rattle.dali_fuse.specs.Fuse.{inner}
use Rattle.dali_fuse.specs.declared.fuse.Fuse.{Fuse}
use Rattle.dali_record.specs.declared.records.Record.{Record}
use Rattle.dali_record.specs.Files.{Files}
use Rattle.dali_record.specs.Legal.{IsLegalFor, sizes_of as sizes_in}
use Rattle.dali_restart.specs.Headline.{EachRestart}
use Rattle.dali_restart.specs.Restarting.{outcome, told_by as said_by, Gives, IsReadAs}
use Rattle.dali_restart.proofs.Once.{reads_once}
use Rattle.dali_resume.specs.Again.{Outcome}
use Rattle.dali_round.specs.Leads.{lines_in}
use Rattle.dali_script.specs.declared.commands.Command.{Command}
use Rattle.dali_script.specs.declared.commands.Command.TheVariants.{Size, Open, Round, Poke, Audit, Checkpoint, Cleanup, Crash, Restart, Show, Verify, Next, Fuse as SetFuse}
use Rattle.dali_store.specs.Store.{Files as Disk}
use Rattle.dali_store.specs.declared.store.Store.{Ghosts}
use Rattle.dali_served.specs.Oks.{Transaction, StandsIn, oks_of}
use Rattle.dali_served.proofs.Oks.{oks_stand}
use Rattle.dali_runs.specs.Run.{log_in}
use Rattle.dali_runs.specs.State.{log_after, stable}
use Rattle.dali_transcripts.specs.Transcripts.{Told as Blocks}
use Rattle.dali_transcripts.specs.Words.{Act, Pokes, Audits, Checkpoints}
use Rattle.dali_transcripts.specs.World.{log_of}
use Rattle.dali_core.specs.declared.whole.Core.{Core}
use Rattle.dali_run.specs.declared.halt.Halt.{Halt}
use Rattle.dali_run.specs.declared.halt.Halt.TheVariants as halts
use Rattle.dali_run.specs.declared.program.Program.{Program}
use Rattle.dali_run.specs.declared.program.Program.TheVariants.{Up, Down}
use Rattle.dali_run.specs.declared.status.Status.{Status}
use Rattle.dali_run.specs.declared.status.Status.TheVariants.{Done, BadWords, BadScript, TooLong, ReadFault, WriteFault, StoreFault, BadStore, Unformatted, Formatted, StoreUnsteady, RecordTooLong, OutOfMemory, LogFull, TooSmall, NotLoaded}
use Rattle.dali_run.specs.Ends.{Course, Ended, EndedGenerator, EndedScript, GeneratorFails, GeneratorFinds, GeneratorIsRefused, GeneratorLoses, GeneratorStops, GeneratorWants, HasStopped, Untouched}
use Rattle.dali_run.specs.Generating.{FailsIn, IsCrashed, IsCutRound, IsMade, IsPlayed}
use Rattle.dali_run.specs.Headline.{transactions_in, KeepsIn, IsAnswer, HasKept, Keeps, StaysLeft, KeepsLeft, KeepsWhere, KeepsWithin, KeepsBetween, KeptAt, KeptWithin, KeptLost, KeptBroken, KeptAlone, KeptFailed, KeptFailing, SafeWithin, oks_by, Restores, Answers, Along, StoppedKeeps, WantingKeeps, ScriptKeeps, KeepsSince, KeepsOn, oks_played, PlayedKeeps, CrashedKeeps, FoundKeeps, LastKeeps, StopKeeps, RefusedKeeps, LostKeeps, FaultKeeps, WantKeeps, GeneratorKeeps, Kept, AcknowledgedSurvive, WorkedLinesAcknowledge}
use Rattle.dali_run.specs.Honest.{IsHonestWithin}
use Rattle.dali_run.specs.Program.{IsDown, store_of, told_in, leaves_in, moment_in, since_in}
use Rattle.dali_run.specs.Run.{RunsAll}
use Rattle.dali_run.specs.Steps.{LeavesLess, Plays, Restarts, RightWithin, Steps, StepsRestart}
use Rattle.dali_run.specs.Survives.{AnyFiles, BeginsWith, HasLog, CrashedSurvives, FaultBack, FoundBack, FoundSurvives, GeneratorSurvives, Holds, IsAPoint, IsLogOf, IsLoggedBy, IsOwn, IsOwnWhere, IsPointOf, LossBack, NoneEscapesBehind, NoneEscapesFrom, NoneEscapesIn, NoneEscapesLeft, NoneEscapesMaking, NoneEscapesRestarted, PlayedBack, PlayedSurvives, SafeBehind, StopBack, WantBack}
use Rattle.dali_run.specs.Fails.{AloneFails, Breaks, Fails, Lost, StoreFailsIn}
use Rattle.dali_run.specs.Told.{AreFit, IsFit, alone, told_by}
use Rattle.dali_run.proofs.Fit.{all_fit}
use Rattle.dali_run.proofs.Honest.{calm_made, cut_unpoked, found_honest, none_in as calm_none, played_honest, played_unpoked}
use Rattle.dali_run.proofs.Acknowledged.{AllIn, both_in, in_more, made_in, none_in_all, none_of_none, of_base, prefix_keeps}
use Rattle.dali_run.proofs.Oks.{front_log, stands_front}
use Rattle.dali_run.proofs.Survived.{honest_own, survives}
use Rattle.dali_run.proofs.Unharmed.{within_honest}
use Rattle.dali_run.proofs.Poked.{course_runs}
use Rattle.dali_run.proofs.Within.{HoldsWithin, is_round, broken_within, failed_within, only_within, same_fuse, same_state, step_within}
use Rattle.dali_run.proofs.Surviving.{begins_all, begins_down, between_holds, grown_more, told_there, begins_then, fails_own, fit_front, making_down, next_fit, none_down, own_same, own_store, step_goes, step_logs, where_same}

-- ---- a history keeps them
is_answer : (F : Files) (o : Outcome) → IsHistory (log_in F) → o ≡ said_by F → IsAnswer F o
is_answer F o history same = record {
  records = subst (HasExpected (log_in F)) (sym (ap (λ (x : Outcome). x.image) same)) (restart_is_right (log_in F) history).gives.records;
  rolled = ap (λ (x : Outcome). x.rolled) same;
  deleted = ap (λ (x : Outcome). x.deleted) same;
}

each_answers : (F : Files) → FindsIt F → IsHistory (log_in F) → EachRestart F (IsAnswer F)
each_answers F finds history = record {
  first = λ fs o spells gives. is_answer F o history (gives F spells finds).told;
  again = λ G way fs o spells gives. is_answer F o history ((gives G spells way.finds).told ∙ way.told);
}

has_kept : (kept : List Transaction) (base : List Record) (c : Disk) → AllIn kept base → HasLog base c → HasKept kept c
has_kept kept base c all has = record {
  files = has.files;
  spells = has.spells;
  keeps = made_in kept (sizes_in (log_in has.files)) base (log_in has.files) has.history.legal has.begins all;
  right = restart_is_right (log_in has.files) has.history;
  each = each_answers has.files has.finds has.history;
}

holds_keeps : (kept : List Transaction) (base : List Record) (c : Disk) → AllIn kept base → Holds base c → Keeps kept c
holds_keeps kept base c all (inl none) = inl (none.0, none_of_none kept (subst (AllIn kept) none.1 all))
holds_keeps kept base c all (inr has) = inr (has_kept kept base c all has)

module _ {V : Type 0} (g : Ghosts V) where
  left_keeps : (kept : List Transaction) (base : List Record) (s : V) → AllIn kept base → IsOwn g base s → KeepsLeft g kept s
  left_keeps kept base s all own c may = holds_keeps kept base c all (own.1 c may)

  where_keeps : (P : Disk → Type 0) (kept : List Transaction) (base : List Record) (s : V) → AllIn kept base → IsOwnWhere g P base s → KeepsWhere g P kept s
  where_keeps P kept base s all own c may is = holds_keeps kept base c all (own.1 c may is)

  -- ---- while the program is up, damage or not
  stays_up : (kept : List Transaction) (base : List Record) (core : Core (Fuse V)) → AllIn kept base → IsPointOf g base core → StaysLeft g kept (inner core.vault.store)
  stays_up kept base core all a c may =
      let one = (told_there (told_in g core.vault.store) a.tells a.begins.stands.at.vault.files) c may in
      let t = one.2 in
      let prefix = trace_prefix a.start t.first t.starts t.steps a.point one.0 t.trace in
      let run = a.begins.stands.at.vault.run.run in
      (one.0, one.1, prefix_keeps kept base a.point one.0 (bases_of a.start) a.start.log all (subst (BeginsWith base) a.flushed (begins_all base)) run prefix)

  -- ---- a state of a run
  record KnownAt (Safe : Disk → Type 0) (kept : List Transaction) (p : Program V) : Type 0 where
    base : List Record
    all : AllIn kept base
    point : IsAPoint g Safe base p

  kept_at : (Safe : Disk → Type 0) (kept : List Transaction) (p : Program V) → KnownAt Safe kept p → KeptAt g Safe kept p
  kept_at Safe kept (Up core) known = (
    where_keeps (NoneEscapesFrom core) kept known.base (inner core.vault.store) known.all (own_store g Safe known.base (Up core) known.point),
    stays_up kept known.base core known.all known.point,
  )
  kept_at Safe kept (Down store) known = where_keeps Safe kept known.base (inner store) known.all (own_store g Safe known.base (Down store) known.point)

  -- what is left at a moment within a round has it too, damage or not
  between_stays : (kept : List Transaction) (base : List Record) (c : Core (Fuse V)) (a : IsPointOf g base c) → AllIn kept base → (q : Point) (E : Files)
      → IsRightBetween a.start a.point q E → KeepsIn kept (log_in E)
  between_stays kept base c a all q E is =
      let course = course_join a.point is.between is.to is.before is.steps is.comes is.course in
      let bases = bases_of a.start in
      let run = a.begins.stands.at.vault.run.run in
      let goes = course_grows bases a.start.log a.point is.to (is.before ++ is.steps) run course in
      prefix_keeps kept base is.to E bases a.start.log all (grown_more a.point is.to base a.flushed goes.records goes.grown.flushed) (course_runs bases a.start.log a.point is.to (is.before ++ is.steps) run course) is.right.prefix

  -- what the lines of a round acknowledge is in the log that they tell
  round_all : (precheck : Bool) (base : List Record) (blocks : List Blocks) (c d : Core (Fuse V)) (ts : List Transcribed) (plays : Plays g precheck true blocks c ts d)
      (a : IsPointOf g base c) (log : List Record) → IsLogOf g precheck base blocks c ts d plays a log → AllIn (oks_of (map lines_in ts)) log
  round_all precheck base blocks c d ts plays a log is = record { each = one }
    where
      one : (x : Transaction) → Contains (oks_of (map lines_in ts)) x → (n : ℕ) × StandsIn log n x
      one x has =
          let led = plays a.start a.batches a.point a.begins in
          let w = led.round.world in
          let same : led.to.log ≡ log_of w = led.stands.at.vault.run.run.log ∙ led.round.log in
          let legal : IsLegalFor led.to.core.system.sizes (log_of w) = subst (IsLegalFor led.to.core.system.sizes) led.round.log led.stands.at.vault.run.run.run.runs.log.legal in
          let stands = oks_stand precheck a.start.log a.point.core led.to.core blocks (map lines_in ts) (map (λ (t : Transcribed). t.receipts) ts) led.to.core.system.sizes led.round legal x has in
          let flushed : StandsIn (take (stable led.to.core) led.to.log) stands.0 x = stands_front led.to.log (stable led.to.core) stands.0 x stands.1 (subst (λ (l : List Record). StandsIn l stands.0 x) (sym same) stands.2) in
          subst (λ (l : List Record). (n : ℕ) × StandsIn l n x) (sym is) (stands.0, flushed)

module _ {V : Type 0} (g : Ghosts V)
    (reads_now : (s : V) → IfSome (g.told s) (λ fs. g.may_leave s fs)) (counts_now : (s : V) (t : ℕ) (c : Disk) → t ≤ g.moment s → g.may_leave s c → g.left_since s t c)
    (only_now : (s : V) (c : Disk) → g.left_since s (g.moment s) c → g.may_leave s c) where
  module _ (limit : ℕ) (precheck : Bool) where
    -- ---- a restart of the run
    restores : (Q : Disk → Type 0) (kept : List Transaction) (base : List Record) (old new : Program V) (text : List ℕ) (step : Restarts g limit old text new) → AllIn kept base
        → IsOwnWhere g Q base (inner (store_of old)) → IfSome (g.told (inner (store_of old))) Q
        → Restores g limit precheck kept old text new (inl step)
    restores Q kept base old new text step all own none = by_told (g.told (inner (store_of old))) none (reads_now (inner (store_of old))) step.gives step.read
      where
        o : Outcome
        o = outcome step.core.regions.items step.report

        by_case : (fs : Disk) → Gives fs o → IsReadAs fs o → Holds base fs → (has : HasKept kept fs) × IsAnswer has.files o
        by_case fs gives read (inl none) = absurd ((reads_once fs o read).2 none.0)
        by_case fs gives read (inr has) = (
          record {
            files = has.files;
            spells = has.spells;
            keeps = made_in kept (sizes_in (log_in has.files)) base (log_in has.files) has.history.legal has.begins all;
            right = restart_is_right (log_in has.files) has.history;
            each = each_answers has.files has.finds has.history;
          },
          is_answer has.files o has.history (gives has.files has.spells has.finds).told,
        )

        by_told : (d : Option Disk) → IfSome d Q → IfSome d (λ fs. g.may_leave (inner (store_of old)) fs) → IfSome d (λ fs. Gives fs o) → IfSome d (λ fs. IsReadAs fs o)
            → IfSome d (λ fs. (has : HasKept kept fs) × IsAnswer has.files o)
        by_told None none may gives read = tt
        by_told (Some fs) none may gives read = by_case fs gives read (own.1 fs may none)

    restored : (Safe : Disk → Type 0) (kept : List Transaction) (old new : Program V) (text : List ℕ) (step : StepsRestart g limit old text new)
        → KnownAt g Safe kept old → NoneEscapesRestarted g limit precheck Safe old text new step
        → Restores g limit precheck kept old text new step
    restored Safe kept old new text (inl step) known none =
        restores (NoneEscapesIn Safe old) kept known.base old new text step known.all (own_store g Safe known.base old known.point) none
    restored Safe kept old new text (inr step) known none = tt

    answers : (Safe : Disk → Type 0) (kept : List Transaction) (command : Command) (old new : Program V) (text : List ℕ) (step : Steps g limit precheck old command text new)
        → KnownAt g Safe kept old → NoneEscapesLeft g limit precheck Safe command old text new step
        → Answers g limit precheck kept command old text new step
    answers Safe kept Open old new text step known none = restored Safe kept old new text step known none
    answers Safe kept Restart old new text step known none = restored Safe kept old new text step known none
    answers Safe kept (Size index heap) old new text step known none = tt
    answers Safe kept (Round blocks) old new text step known none = tt
    answers Safe kept (Poke region word mask) old new text step known none = tt
    answers Safe kept Audit old new text step known none = tt
    answers Safe kept Checkpoint old new text step known none = tt
    answers Safe kept Cleanup old new text step known none = tt
    answers Safe kept (Crash choice) old new text step known none = tt
    answers Safe kept Show old new text step known none = tt
    answers Safe kept Verify old new text step known none = tt
    answers Safe kept Next old new text step known none = tt
    answers Safe kept (SetFuse passes) old new text step known none = tt

    -- ---- from state to state
    oks_all : (Safe : Disk → Type 0) (command : Command) (base : List Record) (old new : Program V) (text : List ℕ) (step : Steps g limit precheck old command text new)
        → (a : IsAPoint g Safe base old) (log : List Record) → IsLoggedBy g limit precheck Safe command base old text new step a log
        → AllIn (oks_by g limit precheck command old text new step) log
    oks_all Safe (Round blocks) base (Up core) new text step a log is =
        round_all g precheck base (map told_by blocks) core step.0 step.1.transcripts step.1.plays a log is
    oks_all Safe (Round blocks) base (Down store) new text step a log is = none_in_all log
    oks_all Safe (Size index heap) base old new text step a log is = none_in_all log
    oks_all Safe Open base old new text step a log is = none_in_all log
    oks_all Safe (Poke region word mask) base old new text step a log is = none_in_all log
    oks_all Safe Audit base old new text step a log is = none_in_all log
    oks_all Safe Checkpoint base old new text step a log is = none_in_all log
    oks_all Safe Cleanup base old new text step a log is = none_in_all log
    oks_all Safe (Crash choice) base old new text step a log is = none_in_all log
    oks_all Safe Restart base old new text step a log is = none_in_all log
    oks_all Safe Show base old new text step a log is = none_in_all log
    oks_all Safe Verify base old new text step a log is = none_in_all log
    oks_all Safe Next base old new text step a log is = none_in_all log
    oks_all Safe (SetFuse passes) base old new text step a log is = none_in_all log

    step_keeps : (Safe : Disk → Type 0) (kept : List Transaction) (command : Command) (old new : Program V) (text : List ℕ) (step : Steps g limit precheck old command text new)
        → KnownAt g Safe kept old → NoneEscapesLeft g limit precheck Safe command old text new step
        → KnownAt g (SafeBehind g limit precheck Safe command old text new step) (kept ++ oks_by g limit precheck command old text new step) new
    step_keeps Safe kept command old new text step known none =
        let goes = step_goes g reads_now counts_now limit precheck Safe command known.base old new text step known.point none in
        let is = step_logs g reads_now counts_now limit precheck Safe command known.base old new text step known.point none in
        let oks = oks_by g limit precheck command old text new step in
        record {
          base = goes.log;
          all = both_in kept oks goes.log (in_more kept known.base goes.log goes.more known.all) (oks_all Safe command known.base old new text step known.point goes.log is);
          point = goes.point;
        }

    -- ---- within a command
    abbrev KeptIn : (Disk → Type 0) → List Transaction → Program V → Fuse V → Type 0
    KeptIn P kept old f = KeepsWithin g P kept old f

    abbrev SafeIn : (Disk → Type 0) → Command → Program V → Disk → Type 0
    SafeIn Safe command old = SafeWithin g limit precheck Safe command old

    held : (P : Disk → Type 0) (kept : List Transaction) (base : List Record) (old : Program V) (f : Fuse V) → AllIn kept base
        → HoldsWithin g reads_now counts_now only_now P base old (inner f) → KeptIn P kept old f
    held P kept base old f all holds c left is = holds_keeps kept base c all (holds c left is)

    own_of : (Safe : Disk → Type 0) (kept : List Transaction) (old : Program V) (known : KnownAt g Safe kept old) → IsOwnWhere g (NoneEscapesIn Safe old) known.base (inner (store_of old))
    own_of Safe kept old known = own_store g Safe known.base old known.point

    -- within a round
    round_keeps : (Safe : Disk → Type 0) (kept : List Transaction) (c d : Core (Fuse V)) → KnownAt g Safe kept (Up c) → RightWithin g c d
        → KeepsBetween g kept c d
    round_keeps Safe kept c d known right =
        let a : IsPointOf g known.base c = known.point in
        let ends = right a.start a.batches a.point a.begins in
        record {
          base = known.base;
          at = a;
          ends = ends;
          keeps = λ disk left.
              let D = (told_there (told_in g c.vault.store) a.tells ends.within).each disk left in (
                D.0,
                D.1,
                D.2,
                λ none. holds_keeps kept known.base disk known.all (inr (between_holds g known.base c a ends.to disk D.0 D.1 D.2 none)),
                between_stays g kept known.base c a known.all ends.to D.0 D.2,
                (D.2.right.prefix.count, front_log (log_in D.0) D.2.to.log (log_after a.start.log d.system.state) D.2.rest D.2.right.prefix.count D.2.right.prefix.log D.2.right.prefix.within (D.2.log ∙ ends.log)),
              );
        }

    -- where the program was down, or no round was begun, the store wasn't called
    state_keeps : (Safe : Disk → Type 0) (kept : List Transaction) (old new : Program V) → new ≡ old → KnownAt g Safe kept old → KeptIn (NoneEscapesIn Safe old) kept old (store_of new)
    state_keeps Safe kept old new same known =
        held (NoneEscapesIn Safe old) kept known.base old (store_of new) known.all
        (same_state g reads_now counts_now only_now (NoneEscapesIn Safe old) known.base old new same (own_of Safe kept old known))

    fuse_keeps : (Safe : Disk → Type 0) (kept : List Transaction) (old : Program V) (f : Fuse V) → f ≡ store_of old → KnownAt g Safe kept old → KeptIn (NoneEscapesIn Safe old) kept old f
    fuse_keeps Safe kept old f same known =
        held (NoneEscapesIn Safe old) kept known.base old f known.all
        (same_fuse g reads_now counts_now only_now (NoneEscapesIn Safe old) known.base old f same (own_of Safe kept old known))

    others_keep : (Safe : Disk → Type 0) (kept : List Transaction) (command : Command) → IsFit command → is_round command ≡ false → (old new : Program V) (text : List ℕ)
        → Steps g limit precheck old command text new → KnownAt g Safe kept old → KeptIn (SafeIn Safe command old) kept old (store_of new)
    others_keep Safe kept command fit none old new text step known =
        held (SafeIn Safe command old) kept known.base old (store_of new) known.all
        (step_within g reads_now counts_now only_now limit precheck Safe command fit none known.base old new text step (own_of Safe kept old known))

    kept_within : (Safe : Disk → Type 0) (kept : List Transaction) (command : Command) → IsFit command → (old new : Program V) (text : List ℕ)
        → (step : Steps g limit precheck old command text new) → KnownAt g Safe kept old
        → KeptWithin g limit precheck Safe kept command old text new step
    kept_within Safe kept (Round blocks) fit (Up core) new text step known = round_keeps Safe kept core step.0 known step.1.moments
    kept_within Safe kept (Round blocks) fit (Down store) new text step known = state_keeps Safe kept (Down store) new step.1 known
    kept_within Safe kept (Poke region word mask) fit (Up core) new text step known = round_keeps Safe kept core step.0 known step.1.moments
    kept_within Safe kept (Poke region word mask) fit (Down store) new text step known = state_keeps Safe kept (Down store) new step.1 known
    kept_within Safe kept Audit fit (Up core) new text step known = round_keeps Safe kept core step.0 known step.1.moments
    kept_within Safe kept Audit fit (Down store) new text step known = state_keeps Safe kept (Down store) new step.1 known
    kept_within Safe kept Checkpoint fit (Up core) new text step known = round_keeps Safe kept core step.0 known step.1.moments
    kept_within Safe kept Checkpoint fit (Down store) new text step known = state_keeps Safe kept (Down store) new step.1 known
    kept_within Safe kept (Size index heap) fit old new text step known = others_keep Safe kept (Size index heap) fit refl old new text step known
    kept_within Safe kept Open fit old new text step known = others_keep Safe kept Open fit refl old new text step known
    kept_within Safe kept Restart fit old new text step known = others_keep Safe kept Restart fit refl old new text step known
    kept_within Safe kept Cleanup fit old new text step known = others_keep Safe kept Cleanup fit refl old new text step known
    kept_within Safe kept (Crash choice) fit old new text step known = others_keep Safe kept (Crash choice) fit refl old new text step known
    kept_within Safe kept Show fit old new text step known = others_keep Safe kept Show fit refl old new text step known
    kept_within Safe kept Verify fit old new text step known = others_keep Safe kept Verify fit refl old new text step known
    kept_within Safe kept Next fit old new text step known = others_keep Safe kept Next fit refl old new text step known
    kept_within Safe kept (SetFuse passes) fit old new text step known = others_keep Safe kept (SetFuse passes) fit refl old new text step known

    -- ---- within one that failed
    lost_within : (Safe : Disk → Type 0) (kept : List Transaction) (blocks : List Blocks) (old : Program V) (f : Fuse V) (lost : Lost g precheck blocks old f)
        → KnownAt g Safe kept old → KeptLost g limit precheck Safe kept blocks old f lost
    lost_within Safe kept blocks (Up core) f (inl same) known = fuse_keeps Safe kept (Up core) f same known
    lost_within Safe kept blocks (Up core) f (inr played) known = round_keeps Safe kept core played.core known played.moments
    lost_within Safe kept blocks (Down store) f same known = fuse_keeps Safe kept (Down store) f same known

    lone_within : (Safe : Disk → Type 0) (kept : List Transaction) (act : Act) (old : Program V) (f : Fuse V) (fails : AloneFails g precheck act old f)
        → KnownAt g Safe kept old → KeptAlone g limit precheck kept act old f fails
    lone_within Safe kept act (Up core) f fails known = round_keeps Safe kept core fails.core known fails.moments
    lone_within Safe kept act (Down store) f fails known = tt

    others_broken : (Safe : Disk → Type 0) (kept : List Transaction) (command : Command) → IsFit command → is_round command ≡ false → (old : Program V) (f : Fuse V)
        → Breaks g precheck command old f → KnownAt g Safe kept old → KeptIn (SafeIn Safe command old) kept old f
    others_broken Safe kept command fit none old f breaks known =
        held (SafeIn Safe command old) kept known.base old f known.all
        (broken_within g reads_now counts_now only_now limit precheck Safe command fit none known.base old f breaks (own_of Safe kept old known))

    broken_keeps : (Safe : Disk → Type 0) (kept : List Transaction) (command : Command) → IsFit command → (old : Program V) (f : Fuse V)
        → (breaks : Breaks g precheck command old f) → KnownAt g Safe kept old
        → KeptBroken g limit precheck Safe kept command old f breaks
    broken_keeps Safe kept (Round blocks) fit old f breaks known = lost_within Safe kept (map told_by blocks) old f breaks known
    broken_keeps Safe kept (Poke region word mask) fit old f breaks known = lost_within Safe kept (alone (Pokes region word mask)) old f breaks known
    broken_keeps Safe kept Audit fit old f breaks known = lost_within Safe kept (alone Audits) old f breaks known
    broken_keeps Safe kept Checkpoint fit old f breaks known = lost_within Safe kept (alone Checkpoints) old f breaks known
    broken_keeps Safe kept (Size index heap) fit old f breaks known = others_broken Safe kept (Size index heap) fit refl old f breaks known
    broken_keeps Safe kept Open fit old f breaks known = others_broken Safe kept Open fit refl old f breaks known
    broken_keeps Safe kept Restart fit old f breaks known = others_broken Safe kept Restart fit refl old f breaks known
    broken_keeps Safe kept Cleanup fit old f breaks known = others_broken Safe kept Cleanup fit refl old f breaks known
    broken_keeps Safe kept (Crash choice) fit old f breaks known = others_broken Safe kept (Crash choice) fit refl old f breaks known
    broken_keeps Safe kept Show fit old f breaks known = others_broken Safe kept Show fit refl old f breaks known
    broken_keeps Safe kept Verify fit old f breaks known = others_broken Safe kept Verify fit refl old f breaks known
    broken_keeps Safe kept Next fit old f breaks known = others_broken Safe kept Next fit refl old f breaks known
    broken_keeps Safe kept (SetFuse passes) fit old f breaks known = others_broken Safe kept (SetFuse passes) fit refl old f breaks known

    others_failed : (Safe : Disk → Type 0) (kept : List Transaction) (command : Command) → IsFit command → is_round command ≡ false → (old : Program V) (f : Fuse V)
        → StoreFailsIn g precheck command old f → KnownAt g Safe kept old → KeptIn (SafeIn Safe command old) kept old f
    others_failed Safe kept command fit none old f fails known =
        held (SafeIn Safe command old) kept known.base old f known.all
        (failed_within g reads_now counts_now only_now limit precheck Safe command fit none known.base old f fails (own_of Safe kept old known))

    failed_keeps : (Safe : Disk → Type 0) (kept : List Transaction) (command : Command) → IsFit command → (old : Program V) (f : Fuse V)
        → (fails : StoreFailsIn g precheck command old f) → KnownAt g Safe kept old
        → KeptFailed g limit precheck Safe kept command old f fails
    failed_keeps Safe kept (Round blocks) fit old f fails known = absurd fails
    failed_keeps Safe kept (Poke region word mask) fit old f fails known = lone_within Safe kept (Pokes region word mask) old f fails known
    failed_keeps Safe kept Audit fit old f fails known = lone_within Safe kept Audits old f fails known
    failed_keeps Safe kept Checkpoint fit old f fails known = lone_within Safe kept Checkpoints old f fails known
    failed_keeps Safe kept (Size index heap) fit old f fails known = others_failed Safe kept (Size index heap) fit refl old f fails known
    failed_keeps Safe kept Open fit old f fails known = others_failed Safe kept Open fit refl old f fails known
    failed_keeps Safe kept Restart fit old f fails known = others_failed Safe kept Restart fit refl old f fails known
    failed_keeps Safe kept Cleanup fit old f fails known = absurd fails
    failed_keeps Safe kept (Crash choice) fit old f fails known = others_failed Safe kept (Crash choice) fit refl old f fails known
    failed_keeps Safe kept Show fit old f fails known = absurd fails
    failed_keeps Safe kept Verify fit old f fails known = others_failed Safe kept Verify fit refl old f fails known
    failed_keeps Safe kept Next fit old f fails known = absurd fails
    failed_keeps Safe kept (SetFuse passes) fit old f fails known = absurd fails

    -- the store was only read
    reads_keep : (Safe : Disk → Type 0) (kept : List Transaction) (command : Command) (old : Program V) (f : Fuse V)
        → OnlyReads (told_in g) (moment_in g) (since_in g) (leaves_in g) (store_of old) f → KnownAt g Safe kept old → KeptIn (SafeIn Safe command old) kept old f
    reads_keep Safe kept command old f reads known =
        held (SafeIn Safe command old) kept known.base old f known.all
        (only_within g reads_now counts_now only_now limit precheck Safe command known.base old f reads (own_of Safe kept old known))

    failing_keeps : (Safe : Disk → Type 0) (kept : List Transaction) (halt : Halt) (command : Command) → IsFit command → (old : Program V) (f : Fuse V)
        → (fails : Fails g precheck halt command old f) → KnownAt g Safe kept old
        → KeptFailing g limit precheck Safe kept halt command old f fails
    failing_keeps Safe kept halts.StoreFault command fit old f fails known = failed_keeps Safe kept command fit old f fails known
    failing_keeps Safe kept halts.OutOfMemory command fit old f fails known = broken_keeps Safe kept command fit old f fails known
    failing_keeps Safe kept (halts.BadStore file at) command fit old f fails known = reads_keep Safe kept command old f fails.2 known
    failing_keeps Safe kept halts.Unformatted command fit old f fails known = reads_keep Safe kept command old f fails.2 known
    failing_keeps Safe kept halts.Formatted command fit old f fails known = reads_keep Safe kept command old f fails.2 known
    failing_keeps Safe kept halts.StoreUnsteady command fit old f fails known = reads_keep Safe kept command old f fails.2 known
    failing_keeps Safe kept halts.RecordTooLong command fit old f fails known = reads_keep Safe kept command old f fails.2 known
    failing_keeps Safe kept halts.BadWords command fit old f fails known = absurd fails
    failing_keeps Safe kept (halts.BadScript line kind) command fit old f fails known = absurd fails
    failing_keeps Safe kept halts.TooLong command fit old f fails known = absurd fails
    failing_keeps Safe kept halts.ReadFault command fit old f fails known = absurd fails
    failing_keeps Safe kept halts.WriteFault command fit old f fails known = absurd fails
    failing_keeps Safe kept (halts.LogFull end most) command fit old f fails known = absurd fails
    failing_keeps Safe kept halts.TooSmall command fit old f fails known = absurd fails
    failing_keeps Safe kept halts.NotLoaded command fit old f fails known = absurd fails

    -- one that isn't a round
    other_fails : (Safe : Disk → Type 0) (kept : List Transaction) (halt : Halt) (command : Command) → IsFit command → is_round command ≡ false → (old : Program V) (f : Fuse V)
        → Fails g precheck halt command old f → KnownAt g Safe kept old → KeptIn (SafeIn Safe command old) kept old f
    other_fails Safe kept halts.StoreFault command fit none old f fails known = others_failed Safe kept command fit none old f fails known
    other_fails Safe kept halts.OutOfMemory command fit none old f fails known = others_broken Safe kept command fit none old f fails known
    other_fails Safe kept (halts.BadStore file at) command fit none old f fails known = reads_keep Safe kept command old f fails.2 known
    other_fails Safe kept halts.Unformatted command fit none old f fails known = reads_keep Safe kept command old f fails.2 known
    other_fails Safe kept halts.Formatted command fit none old f fails known = reads_keep Safe kept command old f fails.2 known
    other_fails Safe kept halts.StoreUnsteady command fit none old f fails known = reads_keep Safe kept command old f fails.2 known
    other_fails Safe kept halts.RecordTooLong command fit none old f fails known = reads_keep Safe kept command old f fails.2 known
    other_fails Safe kept halts.BadWords command fit none old f fails known = absurd fails
    other_fails Safe kept (halts.BadScript line kind) command fit none old f fails known = absurd fails
    other_fails Safe kept halts.TooLong command fit none old f fails known = absurd fails
    other_fails Safe kept halts.ReadFault command fit none old f fails known = absurd fails
    other_fails Safe kept halts.WriteFault command fit none old f fails known = absurd fails
    other_fails Safe kept (halts.LogFull end most) command fit none old f fails known = absurd fails
    other_fails Safe kept halts.TooSmall command fit none old f fails known = absurd fails
    other_fails Safe kept halts.NotLoaded command fit none old f fails known = absurd fails

    along : (Behind : (Disk → Type 0) → List Transaction → Type 0) (Safe : Disk → Type 0) (commands : List Command) → AreFit commands → (kept : List Transaction) (old : Program V) (text : List ℕ) (new : Program V)
        → (runs : RunsAll g limit precheck old commands text new) → KnownAt g Safe kept old
        → ((S : Disk → Type 0) (now : List Transaction) → KnownAt g S now new → Behind S now)
        → Along g limit precheck Behind Safe commands kept old text new runs
    along Behind Safe [] fit kept old text new runs known then =
        (kept_at g Safe kept old known, then Safe kept (subst (KnownAt g Safe kept) (sym runs.1) known))
    along Behind Safe (command ∷ later) fit kept old text new runs known then = (
      kept_at g Safe kept old known,
      kept_within Safe kept command fit.0 old runs.1 runs.0 runs.3 known,
      λ none. (
        answers Safe kept command old runs.1 runs.0 runs.3 known none,
        along Behind (SafeBehind g limit precheck Safe command old runs.0 runs.1 runs.3) later fit.1 (kept ++ oks_by g limit precheck command old runs.0 runs.1 runs.3) runs.1 runs.2 new runs.4
            (step_keeps Safe kept command old runs.1 runs.0 runs.3 known none) then,
      ),
    )

    -- ---- each way in which a script's run ends
    module _ (c : Course V) (mid : Option (List ℕ)) (count : ℕ) (base : List Record) (own : IsOwn g base c.store) where
      same_store : (kept : List Transaction) → AllIn kept base → c.store' ≡ c.store → KeepsLeft g kept c.store'
      same_store kept all same = left_keeps g kept base c.store' all (own_same g base c.store c.store' (sym same) own)

      stopped : (halt : Halt) (stop : HasStopped g limit precheck halt c mid)
          → StoppedKeeps g limit precheck c mid count (transactions_in base) halt stop
      stopped halt stop =
          let stops = stop.2 in
          along
          (λ S now. KeptFailing g limit precheck S now halt stops.command stops.state stops.last stops.fails
          × KeepsWhere g (NoneEscapesBehind g limit precheck S halt stops.command stops.state stops.last stops.fails) now c.store')
          AnyFiles (take stops.count stop.0) (fit_front stops.count stop.0 (all_fit stop.1.bytes stop.0 stop.1.spelled)) (transactions_in base) stops.run.first stops.text stops.state stops.run.runs
          (record { base = base; all = of_base g reads_now base c.store own; point = begins_down g base stops.run.first c.store stops.run.down own })
          (
          λ S now known. (
            failing_keeps S now halt stops.command (next_fit stop.0 stops.count stops.command (all_fit stop.1.bytes stop.0 stop.1.spelled) stops.next.next) stops.state stops.last stops.fails known,
            where_keeps g (NoneEscapesBehind g limit precheck S halt stops.command stops.state stops.last stops.fails) now known.base c.store' known.all
                (
                where_same g (NoneEscapesBehind g limit precheck S halt stops.command stops.state stops.last stops.fails) known.base (inner stops.last) c.store' stops.store
                (fails_own g reads_now counts_now limit precheck S halt stops.command
                (next_fit stop.0 stops.count stops.command (all_fit stop.1.bytes stop.0 stop.1.spelled) stops.next.next) known.base stops.state stops.last stops.fails known.point)
                ),
          )
          )

      wanting : (o : Untouched c mid ⊎ HasStopped g limit precheck halts.OutOfMemory c mid)
          → WantingKeeps g limit precheck c mid count (transactions_in base) o
      wanting (inl same) = same_store (transactions_in base) (of_base g reads_now base c.store own) same.0
      wanting (inr stop) = stopped halts.OutOfMemory stop

      script_keeps : (status : Status) (ended : EndedScript g limit precheck c mid count status)
          → ScriptKeeps g limit precheck c mid count (transactions_in base) status ended
      script_keeps Done ended =
          let ran = ended.2 in
          along (λ S now. KeepsWhere g (NoneEscapesIn S ran.state) now c.store') AnyFiles (take (length ended.0) ended.0) (fit_front (length ended.0) ended.0 (all_fit ended.1.bytes ended.0 ended.1.spelled)) (transactions_in base) ran.run.first ran.text ran.state ran.run.runs
          (record { base = base; all = of_base g reads_now base c.store own; point = begins_down g base ran.run.first c.store ran.run.down own })
          (
          λ S now known.
          where_keeps g (NoneEscapesIn S ran.state) now known.base c.store' known.all
          (where_same g (NoneEscapesIn S ran.state) known.base (inner (store_of ran.state)) c.store' ran.store
          (own_store g S known.base ran.state known.point))
          )
      script_keeps WriteFault ended =
          let cut = ended.1.2 in
          let fit = all_fit ended.1.1.bytes ended.1.0 ended.1.1.spelled in
          along
          (λ S now. KeptWithin g limit precheck S now cut.command cut.earlier cut.more cut.state cut.steps
          × (NoneEscapesLeft g limit precheck S cut.command cut.earlier cut.more cut.state cut.steps
          → Answers g limit precheck now cut.command cut.earlier cut.more cut.state cut.steps
          × KeepsWhere g (NoneEscapesIn (SafeBehind g limit precheck S cut.command cut.earlier cut.more cut.state cut.steps) cut.state)
          (now ++ oks_by g limit precheck cut.command cut.earlier cut.more cut.state cut.steps) c.store'))
          AnyFiles (take cut.count ended.1.0) (fit_front cut.count ended.1.0 fit) (transactions_in base) cut.ran.first cut.text cut.earlier cut.ran.runs
          (record { base = base; all = of_base g reads_now base c.store own; point = begins_down g base cut.ran.first c.store cut.ran.down own })
          (
          λ S now known. (
            kept_within S now cut.command (next_fit ended.1.0 cut.count cut.command fit cut.next.next) cut.earlier cut.state cut.more cut.steps known,
            λ left. (
              answers S now cut.command cut.earlier cut.state cut.more cut.steps known left,
              let behind = step_keeps S now cut.command cut.earlier cut.state cut.more cut.steps known left in
                  let safe : Disk → Type 0 = SafeBehind g limit precheck S cut.command cut.earlier cut.more cut.state cut.steps in
                  where_keeps g (NoneEscapesIn safe cut.state) _ behind.base c.store' behind.all
                  (where_same g (NoneEscapesIn safe cut.state) behind.base (inner (store_of cut.state)) c.store' cut.store
                  (own_store g safe behind.base cut.state behind.point)),
            ),
          )
          )
      script_keeps StoreFault ended = stopped halts.StoreFault ended
      script_keeps (BadStore file at) ended = stopped (halts.BadStore file at) ended
      script_keeps Unformatted ended = stopped halts.Unformatted ended
      script_keeps Formatted ended = stopped halts.Formatted ended
      script_keeps StoreUnsteady ended = stopped halts.StoreUnsteady ended
      script_keeps RecordTooLong ended = stopped halts.RecordTooLong ended
      script_keeps OutOfMemory ended = wanting ended
      script_keeps (LogFull end most) ended = absurd ended
      script_keeps TooSmall ended = absurd ended
      script_keeps NotLoaded ended = absurd ended
      script_keeps BadWords ended = absurd ended
      script_keeps (BadScript line kind) ended = same_store (transactions_in base) (of_base g reads_now base c.store own) ended.1.0
      script_keeps TooLong ended = same_store (transactions_in base) (of_base g reads_now base c.store own) ended.1.0
      script_keeps ReadFault ended = same_store (transactions_in base) (of_base g reads_now base c.store own) ended.1.0

  -- ---- a generated script
  abbrev Since : List Transaction → V → V → Type 0
  Since = KeepsSince g

  abbrev On : List Transaction → V → V → Type 0
  On = KeepsOn g

  -- a command over a program that is down: nothing is asked of damage there
  from_down : (kept : List Transaction) (p : Program V) (old end : V) (f : Fuse V) → inner (store_of p) ≡ old → inner f ≡ end → ((c : Disk) → NoneEscapesMaking g AnyFiles p c)
      → KeepsWithin g (NoneEscapesMaking g AnyFiles p) kept p f → Since kept old end
  from_down kept p old end f was is none keeps c left =
      keeps c (subst (λ (s : V). g.left_since s (g.moment (inner (store_of p))) c) (sym is) (subst (λ (s : V). g.left_since end (g.moment s) c) (sym was) left)) (none c)

  -- a crash leaves nothing that it might not have left before
  less_on : (kept : List Transaction) (base : List Record) (old new : V) → AllIn kept base → LeavesLess g old new → IsOwn g base old → On kept old new
  less_on kept base old new all less own = (
    λ c left. holds_keeps kept base c all (own.1 c (⊎_elim (λ past. only_now old c past) (λ now. less.crash c now) (less.time.nothing_else (g.moment old) c (omega arith) left))),
    λ c may. holds_keeps kept base c all (own.1 c (less.crash c may)),
  )

  crash_less : (halt : Halt) (choice : ℕ) (old : Program V) (f : Fuse V) → Fails g false halt (Crash choice) old f
      → LeavesLess g (inner (store_of old)) (inner f)
  crash_less halts.StoreFault choice old f fails = fails.1
  crash_less halts.OutOfMemory choice old f fails = fails.0
  crash_less (halts.BadStore file at) choice old f fails = absurd fails.0
  crash_less halts.Unformatted choice old f fails = absurd fails.0
  crash_less halts.Formatted choice old f fails = absurd fails.0
  crash_less halts.StoreUnsteady choice old f fails = absurd fails.0
  crash_less halts.RecordTooLong choice old f fails = absurd fails.0
  crash_less halts.BadWords choice old f fails = absurd fails
  crash_less (halts.BadScript line kind) choice old f fails = absurd fails
  crash_less halts.TooLong choice old f fails = absurd fails
  crash_less halts.ReadFault choice old f fails = absurd fails
  crash_less halts.WriteFault choice old f fails = absurd fails
  crash_less (halts.LogFull end most) choice old f fails = absurd fails
  crash_less halts.TooSmall choice old f fails = absurd fails
  crash_less halts.NotLoaded choice old f fails = absurd fails

  -- a round in which nobody wrote astray
  between_since : (kept : List Transaction) (c d : Core (Fuse V)) → KeepsBetween g kept c d → IsHonestWithin g c d
      → Since kept (inner c.vault.store) (inner d.vault.store)
  between_since kept c d between honest disk left =
      let there = between.keeps disk left in there.3 (honest between.base between.at between.ends.to there.0 between.ends.regions there.2)

  -- the store wasn't called
  same_on : (kept : List Transaction) (old new : V) → new ≡ old → KeepsLeft g kept old → On kept old new
  same_on kept old new same keeps = subst (λ (s : V). On kept old s) (sym same) ((λ c left. keeps c (only_now old c left)), keeps)

  module _ (clients size number : ℕ) (within : AreWithin clients size) (c : Course V) (mid : Option (List ℕ)) (count : ℕ) (base : List Record) (own : IsOwn g base c.store) where
    abbrev Playing : Option Halt → Type 0
    Playing ends = IsPlayed g 67108864 clients size number c.store ends

    abbrev Crashing : Type 0
    Crashing = IsCrashed g 67108864 clients size number c.store

    abbrev oks : (ends : Option Halt) → Playing ends → List Transaction
    oks ends run = oks_played g clients size number c.store ends run

    abbrev PlaysOn : (ends : Option Halt) → Playing ends → List Record → Type 0
    PlaysOn ends run log = PlayedSurvives g clients size number base c.store ends run log

    abbrev CrashesOn : Crashing → List Record → Type 0
    CrashesOn run log = CrashedSurvives g clients size number base c.store run log

    abbrev making : Command
    making = Size (index_regions clients size) (heap_regions clients size)

    -- ---- what its states have in their logs
    played_all : (ends : Option Halt) (run : Playing ends) (log : List Record) → PlaysOn ends run log → AllIn (transactions_in base ++ oks ends run) log
    played_all ends run log played =
        both_in (transactions_in base) _ log (in_more (transactions_in base) base log (begins_then base played.first log played.more played.later) (of_base g reads_now base c.store own))
        (round_all g false played.first (map told_by (generated clients size number)) run.made run.played run.round.round.transcripts run.round.round.plays played.made log played.logged)

    crashed_all : (run : Crashing) (log : List Record) → CrashesOn run log → AllIn (transactions_in base ++ oks None run.run) log
    crashed_all run log crashed = in_more _ crashed.earlier log crashed.more (played_all None run.run crashed.earlier crashed.before)

    first_at : (p : Program V) → IsDown p c.store → KnownAt g AnyFiles (transactions_in base) p
    first_at p down = record { base = base; all = of_base g reads_now base c.store own; point = begins_down g base p c.store down own }

    made_at : (log : List Record) (made : Core (Fuse V)) → BeginsWith base log → IsPointOf g log made → KnownAt g AnyFiles (transactions_in base) (Up made)
    made_at log made more at = record { base = log; all = in_more (transactions_in base) base log more (of_base g reads_now base c.store own); point = at }

    crashed_at : (run : Crashing) (log : List Record) → CrashesOn run log → KnownAt g AnyFiles (transactions_in base ++ oks None run.run) run.crashed
    crashed_at run log crashed = record { base = log; all = crashed_all run log crashed; point = crashed.crashed }

    -- ---- a database is made
    was_first : (p : Program V) → IsDown p c.store → inner (store_of p) ≡ c.store
    was_first p down = ap (λ (q : Program V). inner (store_of q)) down.down ∙ down.store_is

    made_left : (log : List Record) (made : Core (Fuse V)) → BeginsWith base log → IsPointOf g log made → IsMade g 67108864 clients size c.store made
        → KeepsLeft g (transactions_in base) (inner made.vault.store)
    made_left log made more at is_made =
        left_keeps g (transactions_in base) log (inner made.vault.store) (in_more (transactions_in base) base log more (of_base g reads_now base c.store own))
        (honest_own g reads_now counts_now log made at
        (calm_none g reads_now counts_now AnyFiles (Up made)
        (calm_made g reads_now counts_now clients size number within c base own made is_made)))

    made_on : (log : List Record) (made : Core (Fuse V)) → BeginsWith base log → IsPointOf g log made → IsMade g 67108864 clients size c.store made
        → On (transactions_in base) c.store (inner made.vault.store)
    made_on log made more at is_made = (
      from_down (transactions_in base) is_made.first c.store (inner made.vault.store) made.vault.store (was_first is_made.first is_made.down) refl
          (making_down g is_made.first c.store is_made.down)
          (others_keep 67108864 false AnyFiles (transactions_in base) making (right_sizes clients size within) refl is_made.first (Up made) [] is_made.steps (first_at is_made.first is_made.down)),
      made_left log made more at is_made,
    )

    -- ---- its round
    played_left : (ends : Option Halt) (run : Playing ends) (log : List Record) → PlaysOn ends run log → IsOwn g log (inner run.played.vault.store)
    played_left ends run log played =
        honest_own g reads_now counts_now log run.played played.played
        (played_honest g reads_now counts_now clients size number within c base own ends run)

    played_keeps : (ends : Option Halt) (run : Playing ends) (log : List Record) → PlaysOn ends run log
        → PlayedKeeps g clients size number (transactions_in base) c.store ends run
    played_keeps ends run log played = record {
      making = made_on played.first run.made played.more played.made run.is_made;
      round =
          between_since (transactions_in base) run.made run.played
          (round_keeps 67108864 false AnyFiles (transactions_in base) run.made run.played (made_at played.first run.made played.more played.made) run.round.round.moments)
          (within_honest g run.made run.played (played_unpoked g reads_now counts_now clients size number within c base own ends run));
      behind = left_keeps g _ log (inner run.played.vault.store) (played_all ends run log played) (played_left ends run log played);
    }

    -- ---- the crash
    crash_on : (run : Playing None) (log : List Record) → PlaysOn None run log → (new : V) → LeavesLess g (inner run.played.vault.store) new
        → On (transactions_in base ++ oks None run) (inner run.played.vault.store) new
    crash_on run log played new less = less_on _ log (inner run.played.vault.store) new (played_all None run log played) less (played_left None run log played)

    crashed_keeps : (run : Crashing) (log : List Record) → CrashesOn run log → CrashedKeeps g clients size number (transactions_in base) c.store run
    crashed_keeps run log crashed = record {
      before = played_keeps None run.run crashed.earlier crashed.before;
      crash =
          subst (On (transactions_in base ++ oks None run.run) (inner run.run.played.vault.store))
          (sym (ap (λ (q : Program V). inner (store_of q)) run.crash.down.down ∙ run.crash.down.store_is))
          (crash_on run.run crashed.earlier crashed.before run.crash.store run.crash.left);
    }

    -- ---- the restart
    none_making : (run : Crashing) (d : Disk) → NoneEscapesMaking g AnyFiles run.crashed d
    none_making run = making_down g run.crashed run.crash.store run.crash.down

    found_keeps : (core : Core (Fuse V)) (run : GeneratorFinds g clients size number c.store core) (log : List Record)
        → FoundSurvives g clients size number base c.store core run log
        → FoundKeeps g clients size number (transactions_in base) c.store core run
    found_keeps core run log found =
        let known = crashed_at run.run found.earlier found.before in
        record {
          before = crashed_keeps run.run found.earlier found.before;
          restart = (
            from_down _ run.run.crashed (inner (store_of run.run.crashed)) (inner core.vault.store) core.vault.store refl refl (none_making run.run)
                (others_keep 67108864 false AnyFiles _ Restart tt refl run.run.crashed (Up core) run.text (inl run.restart) known),
            left_keeps g _ log (inner core.vault.store) (in_more _ found.earlier log found.more (crashed_all run.run found.earlier found.before))
                (honest_own g reads_now counts_now log core found.behind
                (found_honest g reads_now counts_now clients size number within c base own core run).1),
          );
          answers =
              restored 67108864 false AnyFiles _ run.run.crashed (Up core) run.text (inl run.restart) known (none_down g run.run.crashed run.run.crash.store run.run.crash.down);
        }

    -- ---- each way in which it ends
    last_keeps : (core : Core (Fuse V)) (run : GeneratorFinds g clients size number c.store core)
        → FoundBack g clients size number c mid count base core run
        → LastKeeps g clients size number (transactions_in base) c.store c.store' core run
    last_keeps core run back = (
      found_keeps core run back.0 back.1,
      left_keeps g _ back.0 c.store' (in_more _ back.1.earlier back.0 back.1.more (crashed_all run.run back.1.earlier back.1.before)) back.2,
    )

    refused_keeps : (halt : Halt) (refused : GeneratorIsRefused g clients size number halt c.store c.store')
        → PlayedBack g clients size number c mid count base (Some halt) refused.run
        → RefusedKeeps g clients size number (transactions_in base) c.store c.store' halt refused
    refused_keeps halt refused back =
        (played_keeps (Some halt) refused.run back.0 back.1, left_keeps g _ back.0 c.store' (played_all (Some halt) refused.run back.0 back.1) back.2)

    first_keeps : (halt : Halt) (first : Program V) → IsDown first c.store → (fails : FailsIn g halt making first c.store') → IsOwn g base c.store'
        → On (transactions_in base) c.store c.store'
    first_keeps halt first down fails back = (
      from_down (transactions_in base) first c.store c.store' fails.last (was_first first down) fails.store (making_down g first c.store down)
          (other_fails 67108864 false AnyFiles (transactions_in base) halt making (right_sizes clients size within) refl first fails.last fails.fails (first_at first down)),
      left_keeps g (transactions_in base) base c.store' (of_base g reads_now base c.store own) back,
    )

    stop_keeps : (halt : Halt) (s : GeneratorStops g clients size number halt c.store c.store')
        → StopBack g clients size number c mid count base halt s
        → StopKeeps g clients size number (transactions_in base) c.store c.store' halt s
    stop_keeps halt (inl first) back = first_keeps halt first.0 first.1 first.2 back
    stop_keeps halt (inr (inl crash)) back = (
      played_keeps None crash.0 back.0 back.1,
      subst (On (transactions_in base ++ oks None crash.0) (inner crash.0.played.vault.store)) crash.1.store
          (crash_on crash.0 back.0 back.1 (inner crash.1.last) (crash_less halt 0 (Up crash.0.played) crash.1.last crash.1.fails)),
    )
    stop_keeps halt (inr (inr restart)) back = (
      crashed_keeps restart.0 back.0 back.1,
      (
        from_down _ restart.0.crashed (inner (store_of restart.0.crashed)) c.store' restart.1.last refl restart.1.store (none_making restart.0)
            (other_fails 67108864 false AnyFiles _ halt Restart tt refl restart.0.crashed restart.1.last restart.1.fails (crashed_at restart.0 back.0 back.1)),
        left_keeps g _ back.0 c.store' (crashed_all restart.0 back.0 back.1) back.2,
      ),
    )

    -- the round had no memory
    cut_since : (log : List Record) (made : Core (Fuse V)) → BeginsWith base log → IsPointOf g log made → IsMade g 67108864 clients size c.store made
        → (f : Fuse V) → IsCutRound g (map told_by (generated clients size number)) made f → Since (transactions_in base) (inner made.vault.store) (inner f)
    cut_since log made more at is_made f (inl same) =
        (same_on (transactions_in base) (inner made.vault.store) (inner f) (ap (λ (x : Fuse V). inner x) same) (made_left log made more at is_made)).0
    cut_since log made more at is_made f (inr cut) =
        subst (λ (x : Fuse V). Since (transactions_in base) (inner made.vault.store) (inner x)) (sym cut.0.store)
        (between_since (transactions_in base) made cut.0.core
        (round_keeps 67108864 false AnyFiles (transactions_in base) made cut.0.core (made_at log made more at) cut.0.moments)
        (within_honest g made cut.0.core
        (cut_unpoked g reads_now counts_now clients size number within c base own made is_made f cut.0)))

    lost_keeps : (lost : GeneratorLoses g clients size number c.store c.store')
        → LossBack g clients size number c mid count base lost
        → LostKeeps g clients size number (transactions_in base) c.store c.store' lost
    lost_keeps lost back = (
      made_on back.0 lost.made back.1.0 back.1.1 lost.is_made,
      (
        subst (Since (transactions_in base) (inner lost.made.vault.store)) lost.store (cut_since back.0 lost.made back.1.0 back.1.1 lost.is_made lost.left lost.cut),
        left_keeps g (transactions_in base) back.0 c.store' (in_more (transactions_in base) base back.0 back.1.0 (of_base g reads_now base c.store own)) back.2,
      ),
    )

    fault_keeps : (f : GeneratorFails g clients size number c.store c.store')
        → FaultBack g clients size number c mid count base f
        → FaultKeeps g clients size number (transactions_in base) c.store c.store' f
    fault_keeps (inl s) back = stop_keeps halts.StoreFault s back
    fault_keeps (inr (inl refused)) back = refused_keeps halts.StoreFault refused back
    fault_keeps (inr (inr none)) back = absurd back

    want_keeps : (w : GeneratorWants g clients size number c.store c.store')
        → WantBack g clients size number c mid count base w
        → WantKeeps g clients size number (transactions_in base) c.store c.store' w
    want_keeps (inl same) back = left_keeps g (transactions_in base) base c.store' (of_base g reads_now base c.store own) back
    want_keeps (inr (inl (inl s))) back = stop_keeps halts.OutOfMemory s back
    want_keeps (inr (inl (inr lost))) back = lost_keeps lost back
    want_keeps (inr (inr (inl refused))) back = refused_keeps halts.OutOfMemory refused back
    want_keeps (inr (inr (inr last))) back = last_keeps last.0 last.1 back

    -- a database stood there
    formatted_keeps : (s : GeneratorStops g clients size number halts.Formatted c.store c.store') → IsOwn g base c.store'
        → On (transactions_in base) c.store c.store'
    formatted_keeps (inl first) back = first_keeps halts.Formatted first.0 first.1 first.2 back
    formatted_keeps (inr (inl crash)) back = absurd crash.1.fails.0
    formatted_keeps (inr (inr restart)) back = absurd restart.1.fails.0

    generator_keeps : (status : Status) (ended : EndedGenerator g clients size number c mid count status)
        → GeneratorSurvives g clients size number c mid count base status ended
        → GeneratorKeeps g clients size number c mid count (transactions_in base) status ended
    generator_keeps Done ended back = last_keeps ended.1.found ended.1.run back
    generator_keeps WriteFault ended back = last_keeps ended.1.found ended.1.run back
    generator_keeps StoreFault ended back = fault_keeps ended.0 back
    generator_keeps (BadStore file at) ended back = absurd back
    generator_keeps Unformatted ended back = absurd back
    generator_keeps Formatted ended back = formatted_keeps ended.0 back
    generator_keeps StoreUnsteady ended back = absurd back
    generator_keeps RecordTooLong ended back = stop_keeps halts.RecordTooLong ended.0 back
    generator_keeps (LogFull end most) ended back = refused_keeps (halts.LogFull end most) ended.0 back
    generator_keeps OutOfMemory ended back = want_keeps ended.0 back
    generator_keeps BadWords ended back = absurd ended
    generator_keeps (BadScript line kind) ended back = absurd ended
    generator_keeps TooLong ended back = absurd ended
    generator_keeps ReadFault ended back = absurd ended
    generator_keeps TooSmall ended back = absurd ended
    generator_keeps NotLoaded ended back = absurd ended

  keeps : (words : List (List ℕ)) (c : Course V) (base : List Record) (own : IsOwn g base c.store) (mid : Option (List ℕ)) (count : ℕ) (task : Option Task) → meaning words ≡ task
      → (status : Status) (ended : Ended g task c mid count status)
      → Kept g c mid count (transactions_in base) task status ended
  keeps words c base own mid count None is status ended =
      left_keeps g (transactions_in base) base c.store' (of_base g reads_now base c.store own)
      (survives g reads_now counts_now c base own words mid count None is status ended tt)
  keeps words c base own mid count (Some Dump) is status ended =
      left_keeps g (transactions_in base) base c.store' (of_base g reads_now base c.store own)
      (survives g reads_now counts_now c base own words mid count (Some Dump) is status ended tt)
  keeps words c base own mid count (Some Show) is status ended =
      left_keeps g (transactions_in base) base c.store' (of_base g reads_now base c.store own)
      (survives g reads_now counts_now c base own words mid count (Some Show) is status ended tt)
  keeps words c base own mid count (Some Standing) is status ended =
      left_keeps g (transactions_in base) base c.store' (of_base g reads_now base c.store own)
      (survives g reads_now counts_now c base own words mid count (Some Standing) is status ended tt)
  keeps words c base own mid count (Some (Load index heap)) is status ended =
      left_keeps g (transactions_in base) base c.store' (of_base g reads_now base c.store own)
      (survives g reads_now counts_now c base own words mid count (Some (Load index heap)) is status ended tt)
  keeps words c base own mid count (Some (Run precheck limit)) is status ended = script_keeps limit precheck c mid count base own status ended
  keeps words c base own mid count (Some (Generate clients size number)) is status ended =
      let range : IsInRange (Generate clients size number) = in_range words (Generate clients size number) is in
      generator_keeps clients size number
      (record { some_clients = range.0.0; few_clients = range.0.1; some_transactions = range.1.0; few_transactions = range.1.1 }) c mid count base own status ended
      (survives g reads_now counts_now c base own words mid count (Some (Generate clients size number)) is status ended tt)

  pub acknowledged_survive : AcknowledgedSurvive g
  acknowledged_survive words c status base own e = keeps words c base own e.mid e.count (meaning words) refl status e.ended

-- ---- the lines of a worked round
pub worked_lines : WorkedLinesAcknowledge
worked_lines = (refl, refl)
