-- Runs survive, of each task of the words.
use Rattle.std.proofs.Common.{◌≡◌, ◌≤◌, ℕ, false, List, [], ◌∷◌, ◌++◌, Option, Some, None, map, refl, sym, ◌∙◌, ap, subst}
use Rattle.std.proofs.Common.{inl, inr}
use Rattle.std.specs.Prelude.{IfSome, is_some}
use Rattle.dali_arguments.specs.Laws.{IsInRange}
use Rattle.dali_arguments.specs.Meaning.{meaning}
use Rattle.dali_arguments.specs.declared.task.Task.{Task}
use Rattle.dali_arguments.specs.declared.task.Task.TheVariants.{Run, Generate, Dump, Show, Status as Standing, Load}
use Rattle.dali_arguments.proofs.InRange.{in_range}
use Rattle.dali_log.specs.Reads.{OnlyReads}
use Rattle.dali_generator.specs.Generated.{AreWithin, generated, index_regions, heap_regions}
use Rattle.dali_generator.proofs.Right.{right_round, right_sizes}
use Rattle.dali_fuse.specs.Fuse.{inner}
use Rattle.dali_fuse.specs.declared.fuse.Fuse.{Fuse}
use Rattle.dali_record.specs.declared.records.Record.{Record}
use Rattle.dali_restart.specs.Formatted.{first_record}
use Rattle.dali_script.specs.declared.commands.Command.{Command}
use Rattle.dali_script.specs.declared.commands.Command.TheVariants.{Size, Round, Crash, Restart}
use Rattle.dali_store.specs.Store.{Files as Disk}
use Rattle.dali_store.specs.declared.store.FileName.{FileName}
use Rattle.dali_store.specs.declared.store.Store.{Ghosts}
use Rattle.dali_core.specs.declared.whole.Core.{Core}
use Rattle.dali_run.specs.declared.halt.Halt.{Halt}
use Rattle.dali_run.specs.declared.halt.Halt.TheVariants as halts
use Rattle.dali_run.specs.declared.program.Program.{Program}
use Rattle.dali_run.specs.declared.program.Program.TheVariants.{Up}
use Rattle.dali_run.specs.declared.status.Status.{Status}
use Rattle.dali_run.specs.declared.status.Status.TheVariants.{Done, BadWords, BadScript, TooLong, ReadFault, WriteFault, StoreFault, BadStore, Unformatted, Formatted, StoreUnsteady, RecordTooLong, OutOfMemory, LogFull, TooSmall, NotLoaded}
use Rattle.dali_run.specs.Dumping.{NotDumped}
use Rattle.dali_run.specs.Looking.{NotLooked, TellsRecords, TellsStatus}
use Rattle.dali_inspect.specs.declared.inspecting.Inspection.{Inspection}
use Rattle.dali_run.specs.Ends.{Course, Ended, EndedDump, EndedGenerator, EndedLook, EndedNone, GeneratorFails, GeneratorFinds, GeneratorLoses, GeneratorStops, GeneratorWants}
use Rattle.dali_run.specs.Generating.{FailsIn, IsCrashed, IsCutRound, IsMade, IsPlayed}
use Rattle.dali_run.specs.Fails.{Fails}
use Rattle.dali_run.specs.Honest.{CutIsHonest, pokes}
use Rattle.dali_run.specs.Program.{store_of}
use Rattle.dali_run.specs.Survives.{AnyFiles, BeginsWith, FaultBack, FoundBack, CrashedSurvives, GeneratorSurvives, IsAPoint, IsHonest, IsOwn, IsPointOf, LossBack, NoneEscapesAt, NoneEscapesBehind, NoneEscapesFrom, NoneEscapesIn, NoneEscapesRead, PlayedBack, PlayedSurvives, RunsSurvive, StopBack, Survives, WantBack}
use Rattle.dali_run.specs.Told.{IsFit, sizes_of, told_by}
use Rattle.dali_run.proofs.Fit.{right_blocks}
use Rattle.dali_run.proofs.Honest.{Calm, behind_honest, calm_crashed, calm_down, calm_played, found_honest, loss_honest, played_honest, some_read}
use Rattle.dali_run.proofs.Rising.{never_stops}
use Rattle.dali_run.proofs.LoadOwn.{loaded_own}
use Rattle.dali_run.proofs.Surviving.{Onward, begins_down, begins_then, fails_own, made_first, never_bad as bad_never, none_down, none_yet, own_all, own_same, own_store, own_tells, script_survives, step_goes, step_logs}

none_first : (x : Record) (L : List Record) → [] ≡ x ∷ L → ⊥
none_first x L same = absurd (cc same)

some_flushed : (x : Record) (base L : List Record) → base ≡ x ∷ [] → BeginsWith base L → L ≡ [] → ⊥
some_flushed x base L first more none = none_first x more.0 (sym none ∙ more.1 ∙ ap (λ (l : List Record). l ++ more.0) first)

module _ {V : Type 0} (g : Ghosts V)
    (reads_now : (s : V) → IfSome (g.told s) (λ fs. g.may_leave s fs)) (counts_now : (s : V) (t : ℕ) (c : Disk) → t ≤ g.moment s → g.may_leave s c → g.left_since s t c) where
  -- a store that was only read
  read_on : (base : List Record) (old new : V) → OnlyReads g.told g.moment g.left_since g.may_leave old new → IsOwn g base old → IsOwn g base new
  read_on base old new reads own = (ap is_some reads.same ∙ own.0, λ c may. own.1 c (reads.crash c may))

  -- what a crash of a core leaves, from which no damage escapes
  pub honest_own : (base : List Record) (core : Core (Fuse V)) → IsPointOf g base core → NoneEscapesAt g core → IsOwn g base (inner core.vault.store)
  honest_own base core at honest =
      own_all g (NoneEscapesFrom core) base (inner core.vault.store) honest (own_store g AnyFiles base (Up core) at)

  module _ (clients size number : ℕ) where
    module _ (within : AreWithin clients size) (c : Course V) (base : List Record) (own : IsOwn g base c.store) where
      abbrev making : Command
      making = Size (index_regions clients size) (heap_regions clients size)

      abbrev round : Command
      round = Round (generated clients size number)

      -- ---- from state to state
      abbrev Goes : List Record → Program V → Type 0
      Goes = Onward g reads_now counts_now 67108864 false AnyFiles

      abbrev to_made : (made : Core (Fuse V)) → IsMade g 67108864 clients size c.store made → Goes base (Up made)
      to_made made m =
          step_goes g reads_now counts_now 67108864 false AnyFiles making base m.first (Up made) [] m.steps (begins_down g base m.first c.store m.down own)
          (none_down g m.first c.store m.down)

      abbrev to_played : (ends : Option Halt) (run : IsPlayed g 67108864 clients size number c.store ends) → Goes (to_made run.made run.is_made).log (Up run.played)
      to_played ends run =
          let made = to_made run.made run.is_made in
          step_goes g reads_now counts_now 67108864 false AnyFiles round made.log (Up run.made) (Up run.played) run.round.text (run.played, run.round.round, refl) made.point tt

      -- nobody wrote astray in it
      honest : (ends : Option Halt) (run : IsPlayed g 67108864 clients size number c.store ends) → NoneEscapesAt g run.played
      honest ends run = played_honest g reads_now counts_now clients size number within c base own ends run

      kept : (run : IsCrashed g 67108864 clients size number c.store) → IfSome (g.told run.crash.store) (NoneEscapesFrom run.run.played)
      kept run =
          some_read g reads_now counts_now (NoneEscapesFrom run.run.played) run.crash.store
          (λ d may. honest None run.run d (run.crash.left.crash d may))

      abbrev to_crashed : (run : IsCrashed g 67108864 clients size number c.store) → Goes (to_played None run.run).log run.crashed
      to_crashed run =
          let played = to_played None run.run in
          step_goes g reads_now counts_now 67108864 false AnyFiles (Crash 0) played.log (Up run.run.played) run.crashed run.text run.crash played.point
          (kept run)

      -- ---- what survives at each
      played_survives : (ends : Option Halt) (run : IsPlayed g 67108864 clients size number c.store ends)
          → PlayedSurvives g clients size number base c.store ends run (to_played ends run).log
      played_survives ends run =
          let made = to_made run.made run.is_made in
          let played = to_played ends run in
          record {
            first = made.log;
            more = made.more;
            made = made.point;
            later = played.more;
            logged =
                step_logs g reads_now counts_now 67108864 false AnyFiles round made.log (Up run.made) (Up run.played) run.round.text (run.played, run.round.round, refl) made.point tt;
            played = played.point;
          }

      crashed_survives : (run : IsCrashed g 67108864 clients size number c.store)
          → CrashedSurvives g clients size number base c.store run (to_crashed run).log
      crashed_survives run =
          let crashed = to_crashed run in
          record { earlier = (to_played None run.run).log; before = played_survives None run.run; more = crashed.more; crashed = crashed.point }

      -- ---- the store that comes back
      played : (ends : Option Halt) (run : IsPlayed g 67108864 clients size number c.store ends) → inner run.played.vault.store ≡ c.store'
          → PlayedBack g clients size number c None 0 base ends run
      played ends run same =
          let at = to_played ends run in (
            at.log,
            played_survives ends run,
            own_same g at.log (inner run.played.vault.store) c.store' same (honest_own at.log run.played at.point (honest ends run)),
          )

      -- a restart goes on from just the files that the crash kept
      to_found : (run : IsCrashed g 67108864 clients size number c.store) → NoneEscapesRead g AnyFiles run.crashed
      to_found run = none_down g run.crashed run.crash.store run.crash.down

      found : (core : Core (Fuse V)) (run : GeneratorFinds g clients size number c.store core) → inner core.vault.store ≡ c.store'
          → FoundBack g clients size number c None 0 base core run
      found core run same =
          let crashed = to_crashed run.run in
          let at =
          step_goes g reads_now counts_now 67108864 false AnyFiles Restart crashed.log run.run.crashed (Up core) run.text (inl run.restart) crashed.point
          (to_found run.run) in (
            at.log,
            record { earlier = crashed.log; before = crashed_survives run.run; more = at.more; behind = at.point },
            own_same g at.log (inner core.vault.store) c.store' same
                (honest_own at.log core at.point (found_honest g reads_now counts_now clients size number within c base own core run).1),
          )

      -- a command failed: none of these pokes
      stop_behind : (halt : Halt) (command : Command) → IsFit command → pokes command ≡ false → (old : Program V) (f : Fuse V)
          → (fails : Fails g false halt command old f) → Calm g reads_now counts_now AnyFiles old
          → (d : Disk) → g.may_leave (inner f) d → NoneEscapesBehind g 67108864 false AnyFiles halt command old f fails d
      stop_behind halt command fit none old f fails calm =
          behind_honest g reads_now counts_now 67108864 false AnyFiles halt command fit none old f fails calm

      failed : (halt : Halt) (command : Command) → IsFit command → (log : List Record) (old : Program V) (f : FailsIn g halt command old c.store')
          → IsAPoint g AnyFiles log old
          → ((d : Disk) → g.may_leave (inner f.last) d → NoneEscapesBehind g 67108864 false AnyFiles halt command old f.last f.fails d)
          → IsOwn g log c.store'
      failed halt command fit log old f at behind =
          let safe : Disk → Type 0 = NoneEscapesBehind g 67108864 false AnyFiles halt command old f.last f.fails in
          own_same g log (inner f.last) c.store' f.store
          (own_all g safe log (inner f.last) behind
          (fails_own g reads_now counts_now 67108864 false AnyFiles halt command fit log old f.last f.fails at))

      stops : (halt : Halt) (s : GeneratorStops g clients size number halt c.store c.store')
          → StopBack g clients size number c None 0 base halt s
      stops halt (inl first) =
          failed halt making (right_sizes clients size within) base first.0 first.2 (begins_down g base first.0 c.store first.1 own)
          (stop_behind halt making (right_sizes clients size within) refl first.0 first.2.last first.2.fails (calm_down g reads_now counts_now base first.0 c.store first.1 own))
      stops halt (inr (inl crash)) =
          let at = to_played None crash.0 in (
            at.log,
            played_survives None crash.0,
            failed halt (Crash 0) tt at.log (Up crash.0.played) crash.1 at.point
                (stop_behind halt (Crash 0) tt refl (Up crash.0.played) crash.1.last crash.1.fails
                (calm_played g reads_now counts_now clients size number within c base own None crash.0)),
          )
      stops halt (inr (inr restart)) =
          let at = to_crashed restart.0 in (
            at.log,
            crashed_survives restart.0,
            failed halt Restart tt at.log restart.0.crashed restart.1 at.point
                (stop_behind halt Restart tt refl restart.0.crashed restart.1.last restart.1.fails
                (calm_crashed g reads_now counts_now clients size number within c base own restart.0)),
          )

      -- the round had no memory
      cut_own : (made : Core (Fuse V)) (log : List Record) → IsAPoint g AnyFiles log (Up made) → (f : Fuse V)
          → (cut : IsCutRound g (map told_by (generated clients size number)) made f)
          → CutIsHonest g clients size number made f cut → IsOwn g log (inner f)
      cut_own made log at f (inl same) honest = subst (λ (x : Fuse V). IsOwn g log (inner x)) (sym same) (honest_own log made at honest)
      cut_own made log at f (inr cut) honest =
          own_all g (NoneEscapesFrom cut.0.core) log (inner f) (subst (λ (x : Fuse V). (d : Disk) → g.may_leave (inner x) d → NoneEscapesFrom cut.0.core d) (sym cut.0.store) honest)
          (fails_own g reads_now counts_now 67108864 false AnyFiles halts.OutOfMemory round
          (right_blocks (generated clients size number) (right_round clients size number within)) log (Up made) f (inr cut.0) at)

      loses : (lost : GeneratorLoses g clients size number c.store c.store')
          → LossBack g clients size number c None 0 base lost
      loses lost =
          let at = to_made lost.made lost.is_made in
          let honest = loss_honest g reads_now counts_now clients size number within c base own lost in
          (at.log, (at.more, at.point), own_same g at.log (inner lost.left) c.store' lost.store (cut_own lost.made at.log at.point lost.left lost.cut honest))

      never_bad : (file : FileName) (at : ℕ) (s : GeneratorStops g clients size number (halts.BadStore file at) c.store c.store') → ⊥
      never_bad file at (inl first) = first.2.fails.0
      never_bad file at (inr (inl crash)) = crash.1.fails.0
      never_bad file at (inr (inr restart)) =
          let crashed = to_crashed restart.0 in
          bad_never g reads_now counts_now Restart (NoneEscapesIn AnyFiles restart.0.crashed) crashed.log (inner (store_of restart.0.crashed)) file at
          (own_store g AnyFiles crashed.log restart.0.crashed crashed.point) (to_found restart.0) restart.1.fails.1

      -- nor without a database
      never_unformatted : (s : GeneratorStops g clients size number halts.Unformatted c.store c.store') → ⊥
      never_unformatted (inl first) = first.2.fails.0
      never_unformatted (inr (inl crash)) = crash.1.fails.0
      never_unformatted (inr (inr restart)) =
          let run = restart.0.run in
          let made = to_made run.made run.is_made in
          let played = to_played None run in
          let crashed = to_crashed restart.0 in
          let first =
          made_first g reads_now counts_now 67108864 false AnyFiles (index_regions clients size) (heap_regions clients size) base run.is_made.first (Up run.made) []
          run.is_made.steps (begins_down g base run.is_made.first c.store run.is_made.down own) (none_down g run.is_made.first c.store run.is_made.down) in
          some_flushed (first_record (sizes_of (index_regions clients size) (heap_regions clients size))) made.log crashed.log first
          (begins_then made.log played.log crashed.log played.more crashed.more)
          (none_yet g reads_now counts_now (NoneEscapesIn AnyFiles restart.0.crashed) crashed.log (inner (store_of restart.0.crashed))
          (own_store g AnyFiles crashed.log restart.0.crashed crashed.point) (to_found restart.0) restart.1.fails.1)

      -- nor do they read otherwise the second time
      never_unsteady : (s : GeneratorStops g clients size number halts.StoreUnsteady c.store c.store') → ⊥
      never_unsteady (inl first) = first.2.fails.0
      never_unsteady (inr (inl crash)) = crash.1.fails.0
      never_unsteady (inr (inr restart)) =
          let crashed = to_crashed restart.0 in
          own_tells g AnyFiles crashed.log restart.0.crashed crashed.point restart.1.fails.1

      -- a database stood there from the beginning
      formatted : (s : GeneratorStops g clients size number halts.Formatted c.store c.store') → IsOwn g base c.store'
      formatted (inl first) = stops halts.Formatted (inl first)
      formatted (inr (inl crash)) = absurd crash.1.fails.0
      formatted (inr (inr restart)) = absurd restart.1.fails.0

      fault : (f : GeneratorFails g clients size number c.store c.store') → FaultBack g clients size number c None 0 base f
      fault (inl s) = stops halts.StoreFault s
      fault (inr (inl refused)) = played (Some halts.StoreFault) refused.run refused.store
      fault (inr (inr none)) =
          never_stops g reads_now counts_now 67108864 none.run.crashed none.down none.text none.run.crash.store none.run.crash.down none.restart

      want : (w : GeneratorWants g clients size number c.store c.store') → WantBack g clients size number c None 0 base w
      want (inl same) = own_same g base c.store c.store' (sym same) own
      want (inr (inl (inl s))) = stops halts.OutOfMemory s
      want (inr (inl (inr lost))) = loses lost
      want (inr (inr (inl refused))) = played (Some halts.OutOfMemory) refused.run refused.store
      want (inr (inr (inr last))) = found last.0 last.1 last.2

      generator_survives : (mid : Option (List ℕ)) (count : ℕ) (status : Status) (ended : EndedGenerator g clients size number c mid count status)
          → GeneratorSurvives g clients size number c mid count base status ended
      generator_survives mid count Done ended = found ended.1.found ended.1.run ended.1.store
      generator_survives mid count WriteFault ended = found ended.1.found ended.1.run ended.1.store
      generator_survives mid count StoreFault ended = fault ended.0
      generator_survives mid count (BadStore file at) ended = never_bad file at ended.0
      generator_survives mid count Unformatted ended = never_unformatted ended.0
      generator_survives mid count Formatted ended = formatted ended.0
      generator_survives mid count StoreUnsteady ended = never_unsteady ended.0
      generator_survives mid count RecordTooLong ended = stops halts.RecordTooLong ended.0
      generator_survives mid count (LogFull end most) ended = played (Some (halts.LogFull end most)) ended.0.run ended.0.store
      generator_survives mid count OutOfMemory ended = want ended.0
      generator_survives mid count BadWords ended = absurd ended
      generator_survives mid count (BadScript line kind) ended = absurd ended
      generator_survives mid count TooLong ended = absurd ended
      generator_survives mid count ReadFault ended = absurd ended
      generator_survives mid count TooSmall ended = absurd ended
      generator_survives mid count NotLoaded ended = absurd ended

  -- ---- the other tasks
  module _ (c : Course V) (base : List Record) (own : IsOwn g base c.store) where
    untouched : c.store' ≡ c.store → IsOwn g base c.store'
    untouched same = own_same g base c.store c.store' (sym same) own

    not_dumped : (halt : Halt) → NotDumped g halt c.store c.store' → IsOwn g base c.store'
    not_dumped halts.StoreFault none = read_on base c.store c.store' none.0 own
    not_dumped (halts.BadStore file at) none = read_on base c.store c.store' none.0 own
    not_dumped halts.Unformatted none = read_on base c.store c.store' none.0 own
    not_dumped halts.OutOfMemory none = read_on base c.store c.store' none.0 own
    not_dumped _ none = absurd none

    dumped : (mid : Option (List ℕ)) (count : ℕ) (status : Status) → EndedDump g c mid count status → IsOwn g base c.store'
    dumped mid count Done ended = read_on base c.store c.store' ended.1.read own
    dumped mid count WriteFault ended = read_on base c.store c.store' ended.1.read own
    dumped mid count StoreFault ended = not_dumped halts.StoreFault ended.0
    dumped mid count (BadStore file at) ended = not_dumped (halts.BadStore file at) ended.0
    dumped mid count Unformatted ended = not_dumped halts.Unformatted ended.0
    dumped mid count OutOfMemory ended = not_dumped halts.OutOfMemory ended.0
    dumped mid count _ ended = absurd ended

    not_looked : (halt : Halt) → NotLooked g halt c.store c.store' → IsOwn g base c.store'
    not_looked halts.StoreFault none = read_on base c.store c.store' none.0 own
    not_looked (halts.BadStore file at) none = read_on base c.store c.store' none.0 own
    not_looked halts.Unformatted none = read_on base c.store c.store' none.0 own
    not_looked halts.RecordTooLong none = read_on base c.store c.store' none.0 own
    not_looked halts.OutOfMemory none = read_on base c.store c.store' none.0 own
    not_looked _ none = absurd none

    looked : (P : Inspection → List ℕ → Type 0) (mid : Option (List ℕ)) (count : ℕ) (status : Status) → EndedLook g P c mid count status → IsOwn g base c.store'
    looked P mid count Done ended = read_on base c.store c.store' ended.1.finds.read own
    looked P mid count WriteFault ended = read_on base c.store c.store' ended.1.finds.read own
    looked P mid count StoreFault ended = not_looked halts.StoreFault ended.0
    looked P mid count (BadStore file at) ended = not_looked (halts.BadStore file at) ended.0
    looked P mid count Unformatted ended = not_looked halts.Unformatted ended.0
    looked P mid count RecordTooLong ended = not_looked halts.RecordTooLong ended.0
    looked P mid count OutOfMemory ended = not_looked halts.OutOfMemory ended.0
    looked P mid count _ ended = absurd ended

    of_none : (mid : Option (List ℕ)) (status : Status) → EndedNone g c mid status → IsOwn g base c.store'
    of_none mid BadWords ended = untouched ended.1.0
    of_none mid OutOfMemory ended = untouched ended.1.0
    of_none mid _ ended = absurd ended

    pub survives : (words : List (List ℕ)) (mid : Option (List ℕ)) (count : ℕ) (task : Option Task) → meaning words ≡ task → (status : Status)
        → (ended : Ended g task c mid count status)
        → IsHonest g c mid count task status ended
        → Survives g c mid count base task status ended
    survives words mid count None is status ended honest = of_none mid status ended
    survives words mid count (Some Dump) is status ended honest = dumped mid count status ended
    survives words mid count (Some Show) is status ended honest = looked TellsRecords mid count status ended
    survives words mid count (Some Standing) is status ended honest = looked TellsStatus mid count status ended
    survives words mid count (Some (Load index heap)) is status ended honest = loaded_own g reads_now counts_now index heap (in_range words (Load index heap) is) c base own mid count status ended
    survives words mid count (Some (Run precheck limit)) is status ended honest =
        script_survives g reads_now counts_now limit precheck c mid count base own status ended honest
    survives words mid count (Some (Generate clients size number)) is status ended honest =
        let range : IsInRange (Generate clients size number) = in_range words (Generate clients size number) is in
        generator_survives clients size number
        (record { some_clients = range.0.0; few_clients = range.0.1; some_transactions = range.1.0; few_transactions = range.1.1 }) c base own mid count status ended

  pub runs_survive : RunsSurvive g
  runs_survive words c status base own e honest = survives c base own words e.mid e.count (meaning words) refl status e.ended honest
