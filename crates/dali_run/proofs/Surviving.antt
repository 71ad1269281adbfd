-- Each state of a run is a point of one, and a crash of it loses nothing.
use Rattle.std.proofs.Common.{◌≡◌, ◌≤◌, ◌+◌, ℕ, zero, suc, Bool, true, false, List, [], ◌∷◌, ◌++◌, Option, Some, None, length, map, take, refl, sym, ◌∙◌, ap, subst, inl, inr, arith, append_assoc}
use Rattle.std.specs.Prelude.{◌⊎◌, ◌&&◌, IfSome, flat_map, is_some, nat_le, slice_get}
use Rattle.std.proofs.lemmas.Bool.{le-leb}
use Rattle.std.proofs.lemmas.List.{append-nil, take_all}
use Rattle.dali_log.specs.Batch.{IsUnformatted}
use Rattle.dali_log.specs.Formatting.{FormatLeaves, HasFirst, IsFormattedBy}
use Rattle.dali_log.specs.Log.{BadAt}
use Rattle.dali_log.specs.Reads.{OnlyReads}
use Rattle.dali_log.proofs.Walks.{readings}
use Rattle.dali_crash.specs.Checkpoints.{Does, Head, Point}
use Rattle.dali_crash.specs.StoreRuns.{StoreRun}
use Rattle.dali_crash.specs.Traces.{Start, bases_of, start_point}
use Rattle.dali_crash.proofs.Courses.{format_is_history}
use Rattle.dali_crash.proofs.Growth.{course_grows}
use Rattle.dali_crash.proofs.Traces.{every_trace_is_right, trace_prefix}
use Rattle.dali_resume.proofs.InterruptedLemmas.Found.{crash_is_found, right_is_found}
use Rattle.dali_resume.proofs.InterruptedLemmas.Places.{start_has_place}
use Rattle.dali_run.proofs.Made.{format_begins, restart_begins}
use Rattle.dali_checkpoint.proofs.Calls.{course_join}
use Rattle.dali_transactions.specs.Stands.{StandsAt}
use Rattle.dali_geometry.specs.Sizes.{AreInRange, Sizes}
use Rattle.dali_history.specs.History.{IsHistory}
use Rattle.dali_history.specs.Recovered.{recovered}
use Rattle.dali_fuse.specs.Fuse.{inner, failed_of}
use Rattle.dali_fuse.specs.declared.fuse.Fuse.{Fuse}
use Rattle.dali_record.specs.declared.records.Record.{Record}
use Rattle.dali_record.specs.declared.records.Record.TheVariants.{Format}
use Rattle.dali_record.specs.Epochs.{Epoch, last_epoch}
use Rattle.dali_record.specs.Files.{Files}
use Rattle.dali_record.specs.Legal.{Rules, passes, rules_start, sizes_of as sizes_in}
use Rattle.dali_record.specs.Spelling.{CanBeSpelled}
use Rattle.dali_region.specs.declared.Side.{Side}
use Rattle.dali_region.specs.State.{RegionState, loaded}
use Rattle.dali_resume.specs.Again.{closing}
use Rattle.dali_restart.specs.Headline.{IsPlaced}
use Rattle.dali_restart.specs.Formatted.{first_at, first_body, first_record}
use Rattle.dali_image.specs.Laws.{header_of, table_of}
use Rattle.dali_restart.specs.Restarting.{outcome, BeginsRun, GoesOnFrom, IsBadAnywhere, IsReadAs, SpellsOnWay, StopsAlike}
use Rattle.dali_restart.proofs.Exact.{one_answer}
use Rattle.dali_restart.proofs.Once.{reads_once}
use Rattle.dali_restart.proofs.Telling.{found_good}
use Rattle.dali_round.specs.Leads.{BeginsAt}
use Rattle.dali_round.specs.Moments.{IsRightBetween}
use Rattle.dali_store.specs.declared.store.FileName.{FileName}
use Rattle.dali_store.specs.Faults.{Rose}
use Rattle.dali_store.specs.Store.{Files as Disk, LeavesOnly, Only}
use Rattle.dali_store.specs.declared.store.Store.{Ghosts}
use Rattle.dali_runs.specs.declared.causes.Cause.{Cause}
use Rattle.dali_runs.specs.Courses.{ReadFails}
use Rattle.dali_runs.specs.Crashes.{NoneEscapes}
use Rattle.dali_runs.specs.Images.{Told}
use Rattle.dali_runs.specs.Run.{log_in, no_image}
use Rattle.dali_runs.specs.State.{CoreState, SystemState, VaultState, stable}
use Rattle.dali_runs.proofs.Loads.{format_rests}
use Rattle.dali_crash.specs.Disks.Bridges.{IsNewVault, LeavesRightAt, TracedTo, first_start}
use Rattle.dali_crash.proofs.DisksLemmas.Bridges.{format_starts}
use Rattle.dali_crash.specs.Disks.Disks.{AllSpell, Spells, head_of}
use Rattle.dali_crash.specs.Disks.NewFiles.{ReadsCopies}
use Rattle.dali_script.specs.declared.commands.Command.{Command}
use Rattle.dali_script.specs.declared.commands.Command.TheVariants.{Size, Open, Round, Poke, Audit, Checkpoint, Cleanup, Crash, Restart, Show, Verify, Next, Fuse as SetFuse}
use Rattle.dali_script.specs.declared.names.Name.{Name}
use Rattle.dali_script.specs.declared.names.Name.TheVariants as names
use Rattle.dali_transcripts.specs.Words.{Act, Pokes, Audits, Checkpoints}
use Rattle.dali_transcripts.specs.Transcripts.{Told as Blocks}
use Rattle.dali_transcripts.specs.Clients.Said.{Transcribed}
use Rattle.dali_core.specs.Vault.Vaulted.{Vaulted, with_store}
use Rattle.dali_core.specs.declared.whole.Core.{Core}
use Rattle.dali_core.specs.Cores.{HoldsPlaces, IsNoShorter, NoShorter}
use Rattle.dali_run.specs.declared.halt.Halt.{Halt}
use Rattle.dali_run.specs.declared.halt.Halt.TheVariants as halts
use Rattle.dali_run.specs.declared.program.Program.{Program}
use Rattle.dali_run.specs.declared.program.Program.TheVariants.{Up, Down}
use Rattle.dali_run.specs.declared.status.Status.{Status}
use Rattle.dali_run.specs.declared.status.Status.TheVariants.{Done, BadWords, BadScript, TooLong, ReadFault, WriteFault, StoreFault, BadStore, Unformatted, Formatted, StoreUnsteady, RecordTooLong, OutOfMemory, LogFull, TooSmall, NotLoaded}
use Rattle.dali_run.specs.Ends.{Course, EndedScript, HasStopped, Untouched}
use Rattle.dali_run.specs.Fails.{AloneFails, Breaks, Fails, IsBadFor, Lost, StoreFailsIn}
use Rattle.dali_run.specs.Program.{IsDown, store_of, told_in, leaves_in, moment_in, since_in, faults_in, fused}
use Rattle.dali_run.specs.Run.{HasRun, RunsAll}
use Rattle.dali_run.specs.Steps.{dead_in, CleansAll, CleansUp, CleanupIn, EndsComparison, HasCleaned, Makes, Plays, Rereads, Restarts, SetsFuse, ShowIn, Steps, StepsAlone, StepsRestart, StepsSize, VerifyIn}
use Rattle.dali_run.specs.Survives.{AllSurvive, AnyFiles, BeginsWith, HaltSurvives, HasLog, Holds, IsAPoint, IsLoggedBy, IsOwn, IsOwnWhere, IsPointOf, MemorySurvives, NoneEscape, NoneEscapeThere, NoneEscapesAlone, NoneEscapesBehind, NoneEscapesCut, NoneEscapesFailed, NoneEscapesFound, NoneEscapesFrom, NoneEscapesIn, NoneEscapesLeft, NoneEscapesLost, NoneEscapesMaking, NoneEscapesOld, NoneEscapesRead, NoneEscapesRestarted, NoneEscapesStopped, NoneEscapesWanting, SafeAfter, SafeBehind, SafeCut, SafeRestarted, SafeStopped, SafeThere, ScriptIsHonest, ScriptSurvives}
use Rattle.dali_run.specs.Told.{AreFit, IsFit, told_by, alone, sizes_of}
use Rattle.dali_run.proofs.Cleanings.{idle_runs, moved_all}
use Rattle.dali_run.proofs.Fit.{all_fit}
use Rattle.dali_run.proofs.OnlyRead.{Reads, read_begins, unread}

-- ---- logs that begin so
pub begins_all : (L : List Record) → BeginsWith L L
begins_all L = ([], sym (append-nil L))

pub begins_none : (L : List Record) → BeginsWith [] L
begins_none L = (L, refl)

pub begins_then : (a b c : List Record) → BeginsWith a b → BeginsWith b c → BeginsWith a c
begins_then a b c one two = (one.0 ++ two.0, two.1 ∙ ap (λ (l : List Record). l ++ two.0) one.1 ∙ append_assoc a one.0 two.0)

pub front_of : (n k : ℕ) (L : List Record) → n ≤ k → BeginsWith (take n L) (take k L)
front_of zero k L le = (take k L, refl)
front_of (suc n) zero L le = absurd (omega (arith, le))
front_of (suc n) (suc k) [] le = ([], refl)
front_of (suc n) (suc k) (x ∷ L) le =
    let rest = front_of n k L (omega (arith, le)) in (rest.0, ap (λ (l : List Record). x ∷ l) rest.1)

-- what was flushed begins what is flushed behind some steps
pub grown_more : (p q : Point) (base : List Record) → base ≡ take (stable p.core) p.log → take (stable p.core) q.log ≡ take (stable p.core) p.log → stable p.core ≤ stable q.core
    → BeginsWith base (take (stable q.core) q.log)
grown_more p q base flushed records more =
    subst (λ (l : List Record). BeginsWith l (take (stable q.core) q.log)) (records ∙ sym flushed) (front_of (stable p.core) (stable q.core) q.log more)

pub goes_on_from : (L M : List Record) → GoesOnFrom L M → BeginsWith L M
goes_on_from L M (inl same) = ([], same ∙ sym (append-nil L))
goes_on_from L M (inr closed) = (closing L ∷ [], closed)

pub told_there : {P : Type 0} (o : Option Disk) → is_some o ≡ true → IfSome o (λ _. P) → P
told_there None is p = absurd cc
told_there (Some fs) is p = p

pub none_escapes : (e : Epoch) (gs : List RegionState) (y : SystemState) (v : VaultState) (c : CoreState) → c.regions ≡ gs
    → NoneEscapes e (record { regions = gs; system = y; vault = v }) → NoneEscapes e c
none_escapes e gs y v c same none = record {
  seen = λ r g there. none.seen r g (subst (λ (l : List RegionState). slice_get l r ≡ Some g) same there);
  named = λ r g there. none.named r g (subst (λ (l : List RegionState). slice_get l r ≡ Some g) same there);
}

pub tells_on : (o p : Option Disk) → NoShorter o p → is_some o ≡ true → is_some p ≡ true
tells_on (Some a) (Some b) longer is = refl
tells_on (Some a) None longer is = absurd longer
tells_on None p longer is = absurd cc

-- ---- a crash
-- each file that a crash leaves of a run
crash_holds : (s : Start) (B : List (List Record)) (p : Point) (E : Files) (base : List Record) (c : Disk) → Spells c E → TracedTo s B p E → IsPlaced s → IsHistory s.log
    → NoneEscapes (last_epoch (log_in E)) p.core → BeginsWith base (take (stable p.core) p.log) → HasLog base c
crash_holds s B p E base c spells t placed history none flushed =
    let found = crash_is_found s t.first t.starts (start_has_place s t.first t.starts placed) t.steps p E t.trace none.seen in
    let right = (every_trace_is_right s t.first t.starts t.steps p E t.trace).right history none in
    let prefix = trace_prefix s t.first t.starts t.steps p E t.trace in
    record {
      files = E;
      spells = spells;
      finds = found.0;
      history = right.restarts.history;
      begins =
          subst (BeginsWith base) (sym prefix.log)
          (begins_then base (take (stable p.core) p.log) (take prefix.count p.log) flushed (front_of (stable p.core) prefix.count p.log prefix.flushed));
    }

-- and each that restarts right at a point
right_holds : (s : Start) (p : Point) (E : Files) (base : List Record) (c : Disk) → Spells c E → LeavesRightAt s p E → IsPlaced s → IsHistory s.log
    → NoneEscapes (last_epoch (log_in E)) p.core → BeginsWith base (take (stable p.core) p.log) → HasLog base c
right_holds s p E base c spells left placed history none flushed =
    let right = left.right.right history none in
    let prefix = left.prefix in
    record {
      files = E;
      spells = spells;
      finds = right_is_found s p E placed none.seen left;
      history = right.restarts.history;
      begins =
          subst (BeginsWith base) (sym prefix.log)
          (begins_then base (take (stable p.core) p.log) (take prefix.count p.log) flushed (front_of (stable p.core) prefix.count p.log prefix.flushed));
    }

same_none : (e : Epoch) (c d : CoreState) → c.regions ≡ d.regions → NoneEscapes e d → NoneEscapes e c
same_none e c d same none = record {
  seen = λ r g there. none.seen r g (subst (λ (l : List RegionState). slice_get l r ≡ Some g) same there);
  named = λ r g there. none.named r g (subst (λ (l : List RegionState). slice_get l r ≡ Some g) same there);
}

-- where the program is down over the handed-in store nothing is asked of files
some_any : (o : Option Disk) → IfSome o AnyFiles
some_any None = tt
some_any (Some fs) = tt

pub none_down : {V : Type 0} (g : Ghosts V) (p : Program V) (store : V) → IsDown p store → NoneEscapesRead g AnyFiles p
none_down g p store down = subst (λ q. IfSome (g.told (inner (store_of q))) (NoneEscapesIn AnyFiles q)) (sym down.down) (some_any (g.told (inner down.fuse)))

-- nor behind a database's making, or a restart, that failed
pub making_down : {V : Type 0} (g : Ghosts V) (p : Program V) (store : V) → IsDown p store → (d : Disk) → NoneEscapesMaking g AnyFiles p d
making_down g p store down d = inr (none_down g p store down, subst (λ q. NoneEscapesOld g AnyFiles q d) (sym down.down) (λ may. tt))

module _ {V : Type 0} (g : Ghosts V) where
  -- wherever a core stands, behind a round that was cut too
  pub stands_own : (base : List Record) (core : Core (Fuse V)) (s : Start) (B : List (List Record)) (p : Point)
      → StandsAt (fused g) s B p core.regions.items core.system.state core.vault → IsPlaced s → IsHistory s.log
      → BeginsWith base (take (stable p.core) p.log) → is_some (told_in g core.vault.store) ≡ true
      → IsOwnWhere g (NoneEscapesFrom core) base (inner core.vault.store)
  stands_own base core s B p stands placed history flushed tells =
      let all : AllSpell (leaves_in g core.vault.store) (TracedTo s B p) = told_there (told_in g core.vault.store) tells stands.at.vault.files in (
        tells,
        λ c may none.
            let one = all c may in
            inr
            (crash_holds s B p one.0 base c one.1 one.2 placed history
            (none_escapes (last_epoch (log_in one.0)) core.regions.items core.system.state p.core.vault p.core stands.at.regions (none p.core.vault one.0 one.1))
            flushed),
      )

  pub own_store : (Safe : Disk → Type 0) (base : List Record) (p : Program V) → IsAPoint g Safe base p
      → IsOwnWhere g (NoneEscapesIn Safe p) base (inner (store_of p))
  own_store Safe base (Up core) a = stands_own base core a.start a.batches a.point a.begins.stands a.placed a.history (subst (BeginsWith base) a.flushed (begins_all base)) a.tells
  own_store Safe base (Down store) a = a

  -- such a store tells its contents
  pub own_tells : (Safe : Disk → Type 0) (base : List Record) (p : Program V) → IsAPoint g Safe base p → told_in g (store_of p) ≡ None → ⊥
  own_tells Safe base p a none =
      let no : false ≡ true = ap is_some (sym none) ∙ (own_store Safe base p a).0 in absurd (cc no)

  pub own_same : (base : List Record) (a b : V) → a ≡ b → IsOwn g base a → IsOwn g base b
  own_same base a b same own = subst (IsOwn g base) same own

  pub where_same : (P : Disk → Type 0) (base : List Record) (a b : V) → a ≡ b → IsOwnWhere g P base a → IsOwnWhere g P base b
  where_same P base a b same own = subst (IsOwnWhere g P base) same own

  -- all files have P
  pub own_all : (P : Disk → Type 0) (base : List Record) (s : V) → ((c : Disk) → g.may_leave s c → P c) → IsOwnWhere g P base s → IsOwn g base s
  own_all P base s all own = (own.0, λ c may. own.1 c may (all c may))

  pub any_own : (P : Disk → Type 0) (base : List Record) (s : V) → IsOwn g base s → IsOwnWhere g P base s
  any_own P base s own = (own.0, λ c may is. own.1 c may)

  -- files that were left before, from which none escapes, stay; of others that they come of the files as they read
  abbrev pub IsKept : (Disk → Type 0) → V → Disk → Type 0
  IsKept P old c = (g.may_leave old c × P c) ⊎ (IfSome (g.told old) P × (g.may_leave old c → P c))

  pub was_before : (P : Disk → Type 0) (base : List Record) (old : V) (c : Disk) → IsOwnWhere g P base old
      → (IfSome (g.told old) P → (g.may_leave old c → P c) → Holds base c) → IsKept P old c → Holds base c
  was_before P base old c own comes (inl was) = own.1 c was.0 was.1
  was_before P base old c own comes (inr none) = comes none.0 none.1

  point_down : (Safe : Disk → Type 0) (base : List Record) (p : Program V) (store : V) → IsDown p store → IsOwn g base store → IsAPoint g Safe base p
  point_down Safe base p store down own =
      subst (IsAPoint g Safe base) (sym down.down) (any_own Safe base (inner down.fuse) (own_same base store (inner down.fuse) (sym down.store_is) own))

  pub begins_down : (base : List Record) (p : Program V) (store : V) → IsDown p store → IsOwn g base store → IsAPoint g AnyFiles base p
  begins_down base p store down own = point_down AnyFiles base p store down own

  -- ---- a crash, and the fuse
  crash_own : (P : Disk → Type 0) (base : List Record) (old new : V) → is_some (g.told new) ≡ is_some (g.told old) → ((c : Disk) → g.may_leave new c → g.may_leave old c) → IsOwnWhere g P base old
      → IsOwnWhere g P base new
  crash_own P base old new tells less own = (tells ∙ own.0, λ c may is. own.1 c (less c may) is)

  -- the files that it keeps have P
  crash_keeps : (P : Disk → Type 0) (base : List Record) (old new : V) → is_some (g.told new) ≡ is_some (g.told old) → ((c : Disk) → g.may_leave new c → g.may_leave old c)
      → IfSome (g.told new) (λ fs. Only fs (g.may_leave new)) → IfSome (g.told new) P → IsOwnWhere g P base old → IsOwn g base new
  crash_keeps P base old new tells less durable none own = (tells ∙ own.0, by_told (g.told new) (tells ∙ own.0) durable none)
    where
      by_told : (o : Option Disk) → is_some o ≡ true → IfSome o (λ fs. Only fs (g.may_leave new)) → IfSome o P → (c : Disk) → g.may_leave new c → Holds base c
      by_told None is only none c may = absurd cc
      by_told (Some fs) is only none c may = own.1 c (less c may) (subst P (sym (only c may)) none)

  faults_same : (passes : ℕ) (f h : Fuse V) → SetsFuse passes f h → faults_in g f ≡ faults_in g h
  faults_same passes f h set = ap (λ (n : ℕ). g.faults (inner f) + n) (sym set.failed) ∙ ap (λ (s : V). g.faults s + failed_of h) (sym set.store)

  pub fused_begins : (passes : ℕ) (core : Core (Fuse V)) (f : Fuse V) (s : Start) (B : List (List Record)) (p : Point) → SetsFuse passes core.vault.store f
      → BeginsAt (fused g) s B p core.regions.items core.system.state core.vault
      → BeginsAt (fused g) s B p core.regions.items core.system.state (with_store core.vault f)
  fused_begins passes core f s B p set begins =
      let at = begins.stands.at in
      record {
        stands = record {
          at = record {
            regions = at.regions;
            system = at.system;
            vault = record {
              run = at.vault.run;
              vault = record {
                stopped = at.vault.vault.stopped;
                end = at.vault.vault.end;
                flushed = at.vault.vault.flushed;
                current = at.vault.vault.current;
                counted = at.vault.vault.counted ∙ faults_same passes core.vault.store f set;
              };
              files = subst (λ (x : V). IfSome (g.told x) (λ _. AllSpell (g.may_leave x) (TracedTo s B p))) (sym set.store) at.vault.files;
              reads = λ runs. subst (λ (x : V). IfSome (g.told x) (ReadsCopies p)) (sym set.store) (at.vault.reads runs);
            };
            none_in_hand = at.none_in_hand;
          };
          whole = begins.stands.whole;
          dead = begins.stands.dead;
        };
        files = subst (λ (x : V). IfSome (g.told x) (HoldsPlaces core.regions.items)) (sym set.store) begins.files;
        keeps = begins.keeps;
        between = begins.between;
      }

  pub fused_point : (base : List Record) (passes : ℕ) (core : Core (Fuse V)) (f : Fuse V) → SetsFuse passes core.vault.store f → IsPointOf g base core
      → IsPointOf g base (record core { vault = with_store core.vault f })
  fused_point base passes core f set a = record {
    tells = subst (λ (x : V). is_some (g.told x) ≡ true) (sym set.store) a.tells;
    start = a.start;
    placed = a.placed;
    history = a.history;
    batches = a.batches;
    point = a.point;
    begins = fused_begins passes core f a.start a.batches a.point set a.begins;
    flushed = a.flushed;
  }

  -- a core behind some steps, with all that was flushed before
  pub record Behind (base : List Record) (core : Core (Fuse V)) : Type 0 where
    pub log : List Record
    pub more : BeginsWith base log
    pub point : IsPointOf g log core

  -- ---- a round
  pub round_point : (precheck : Bool) (base : List Record) (blocks : List Blocks) (c d : Core (Fuse V)) (ts : List Transcribed) → IsNoShorter (told_in g) c.vault d.vault
      → Plays g precheck true blocks c ts d → IsPointOf g base c → Behind base d
  round_point precheck base blocks c d ts longer plays a =
      let led = plays a.start a.batches a.point a.begins in
      let goes = course_grows (bases_of a.start) a.start.log a.point led.to led.steps a.begins.stands.at.vault.run.run led.course in
      record {
        log = take (stable led.to.core) led.to.log;
        more = grown_more a.point led.to base a.flushed goes.records goes.grown.flushed;
        point = record {
          tells = tells_on (told_in g c.vault.store) (told_in g d.vault.store) longer a.tells;
          start = a.start;
          placed = a.placed;
          history = a.history;
          batches = led.batches;
          point = led.to;
          begins = record { stands = led.stands; files = led.files; keeps = led.keeps; between = led.round.between refl };
          flushed = refl;
        };
      }

  -- what is left at a moment within it came from a point between
  pub between_holds : (base : List Record) (c : Core (Fuse V)) (a : IsPointOf g base c) (q : Point) (disk : Disk) (E : Files) → Spells disk E
      → (is : IsRightBetween a.start a.point q E) → NoneEscapes (last_epoch (log_in E)) is.between.core → HasLog base disk
  between_holds base c a q disk E spells is none =
      let course = course_join a.point is.between is.to is.before is.steps is.comes is.course in
      let goes = course_grows (bases_of a.start) a.start.log a.point is.to (is.before ++ is.steps) a.begins.stands.at.vault.run.run course in
      right_holds a.start is.to E base disk spells is.right a.placed a.history (same_none (last_epoch (log_in E)) is.to.core is.between.core is.regions none)
      (grown_more a.point is.to base a.flushed goes.records goes.grown.flushed)

-- ---- files without a database
no_log : (base : List Record) (fs : Disk) → IsUnformatted fs.log → Holds base fs → base ≡ []
no_log base fs without (inl none) = none.1
no_log base fs without (inr has) = absurd ((found_good fs has.files has.spells has.finds).formatted without)

-- nothing is read of the image files before a checkpoint
pub no_words : Told
no_words = λ side r. []

pub no_heads : Side → Head
no_heads side = record { number = 0; place = 0; first = 0; weight = 0; next = 0; table = [] }

pub none_synced : Side → Bool
none_synced side = false

-- ---- a command of a script that is spelled
pub fit_front : (n : ℕ) (script : List Command) → AreFit script → AreFit (take n script)
fit_front zero script all = tt
fit_front (suc n) [] all = tt
fit_front (suc n) (c ∷ script) all = (all.0, fit_front n script all.1)

fit_last : (front : List Command) (command : Command) → AreFit (front ++ command ∷ []) → IsFit command
fit_last [] command all = all.0
fit_last (c ∷ front) command all = fit_last front command all.1

pub next_fit : (script : List Command) (count : ℕ) (command : Command) → AreFit script → take (count + 1) script ≡ take count script ++ command ∷ [] → IsFit command
next_fit script count command all next = fit_last (take count script) command (subst AreFit next (fit_front (count + 1) script all))

-- ---- files of one batch, the format's
can_be_sizes : (s : Sizes) → AreInRange s → CanBeSpelled (first_record s)
can_be_sizes s range = (
  both_true (nat_le 1 s.index) (nat_le s.index 32768) (le-leb 1 s.index range.some_index) (le-leb s.index 32768 range.few_index),
  both_true (nat_le 1 s.heap) (nat_le s.heap 65536) (le-leb 1 s.heap range.some_heap) (le-leb s.heap 65536 range.few_heap),
)
  where
    both_true : (a b : Bool) → a ≡ true → b ≡ true → (a && b) ≡ true
    both_true true true p q = refl
    both_true true false p q = absurd cc
    both_true false b p q = absurd cc

abbrev new_vault : VaultState
new_vault = record { stopped = false; end = 15; flushed = 0; current = 0; faults_then = 0; faults = 0 }

none_missed : (ws : List (List ℕ)) (r : ℕ) (g : RegionState) → slice_get (map loaded ws) r ≡ Some g → g.missed ≡ false
none_missed [] r g there = absurd cc
none_missed (w ∷ ws) zero g there = by_same (loaded w) g there refl
  where
    by_same : (h k : RegionState) → Some h ≡ Some k → h.missed ≡ false → k.missed ≡ false
    by_same h k same none = subst (λ (o : Option RegionState). IfSome o (λ (j : RegionState). j.missed ≡ false)) same none
none_missed (w ∷ ws) (suc r) g there = none_missed ws r g there

pub first_holds : (s : Sizes) → AreInRange s → (may : Disk → Type 0) (c : Disk) → IsFormattedBy may (first_body s) c → HasLog [] c
first_holds s range may c is =
    crash_holds start ((first_record s ∷ []) ∷ []) (start_point start) there.0 [] c there.1 there.2 (inl refl) history escapes (begins_none _)
  where
    can : CanBeSpelled (first_record s)
    can = can_be_sizes s range

    rules : Rules
    rules = passes rules_start (first_record s)

    start : Start
    start = first_start s.index s.heap rules 0 new_vault no_words no_heads none_synced

    history : IsHistory start.log
    history = format_is_history s can

    is_new : IsNewVault new_vault
    is_new = record { runs = refl; flushed = refl; faults = omega arith; faults_fit = omega arith; end = refl; current = refl }

    there : (F : Files) × Spells c F × TracedTo start ((first_record s ∷ []) ∷ []) (start_point start) F
    there =
        format_starts may (IsFormattedBy may (first_body s)) s.index s.heap rules 0 new_vault no_words no_heads none_synced can (format_rests s can).rules (omega arith) is_new (λ d formatted. formatted) c is

    log : log_in there.0 ≡ first_record s ∷ []
    log = ap (flat_map (λ (b : List Record). b)) (there.2.batches refl)

    escapes : NoneEscapes (last_epoch (log_in there.0)) (start_point start).core
    escapes = subst (λ (l : List Record). NoneEscapes (last_epoch l) (start_point start).core) (sym log) (record {
      seen = λ r g at. none_missed (recovered (sizes_in start.log) start.log) r g at;
      named = λ r g at lt. absurd (omega (arith, lt));
    })

module _ {V : Type 0} (g : Ghosts V)
    (reads_now : (s : V) → IfSome (g.told s) (λ fs. g.may_leave s fs)) (counts_now : (s : V) (t : ℕ) (c : Disk) → t ≤ g.moment s → g.may_leave s c → g.left_since s t c) where
  pub none_yet : (P : Disk → Type 0) (base : List Record) (s : V) → IsOwnWhere g P base s → IfSome (g.told s) P → IfSome (g.told s) (λ fs. IsUnformatted fs.log) → base ≡ []
  none_yet P base s own none without = by_told (g.told s) own.0 none without (reads_now s)
    where
      by_told : (o : Option Disk) → is_some o ≡ true → IfSome o P → IfSome o (λ fs. IsUnformatted fs.log) → IfSome o (λ fs. g.may_leave s fs) → base ≡ []
      by_told None is none without may = absurd cc
      by_told (Some fs) is none without may = no_log base fs without (own.1 fs may none)

  -- all that stood when the core was made is flushed
  pub at_start : (s : Start) → StoreRun (bases_of s) s.log no_image (start_point s) → s.log ≡ take (stable (start_point s).core) s.log
  at_start s run = sym (take_all (stable (start_point s).core) s.log (omega (arith, run.run.run.first)))

  -- ---- a database that was made
  unfoldable pub size_point : (limit index heap : ℕ) (old new : Program V) (text : List ℕ) → is_some (g.told (inner (store_of old))) ≡ true
      → (step : StepsSize g limit index heap old text new) → IsPointOf g (first_record (sizes_of index heap) ∷ []) step.core
  size_point limit index heap old new text tells step =
      let s = sizes_of index heap in
      let start = first_at (fused g) s limit step.core.vault no_words no_heads none_synced in
      let begins = format_begins (fused g) s limit step.core.regions.items step.core.system step.core.vault step.fresh step.whole step.begins no_words
      no_heads none_synced in
      record {
        tells = step.left.tells ∙ tells;
        start = start;
        placed = begins.1;
        history = format_is_history s (begins.0.stands.at.vault.run.run.run.runs.log.spelled 0 (Format index heap) refl);
        batches = (first_record s ∷ []) ∷ [];
        point = start_point start;
        begins = begins.0;
        flushed = at_start start begins.0.stands.at.vault.run;
      }

  -- ---- a restart
  abbrev Restarted : List Record → Core (Fuse V) → Type 0
  Restarted = Behind g

  restart_point : (limit : ℕ) (P : Disk → Type 0) (base : List Record) (old new : Program V) (text : List ℕ) → IsOwnWhere g P base (inner (store_of old))
      → IfSome (g.told (inner (store_of old))) P → (step : Restarts g limit old text new) → Restarted base step.core
  restart_point limit P base old new text own none step = by_told (g.told (inner (store_of old))) own.0 none (reads_now (inner (store_of old))) step.read step.begins
    where
      from : (fs : Disk) → BeginsRun (fused g) limit fs step.core.regions.items step.core.system.state step.core.vault → HasLog base fs → Restarted base step.core
      from fs runs has =
          let at = restart_begins (fused g) limit fs has.files step.core.regions.items step.core.system step.core.vault step.fresh step.whole runs has.spells has.finds
          no_words no_heads none_synced in
          record {
            log = at.start.log;
            more = begins_then base (log_in has.files) at.start.log has.begins (goes_on_from (log_in has.files) at.start.log at.log);
            point = record {
              tells = step.left.tells ∙ own.0;
              start = at.start;
              placed = at.placed;
              history = at.history has.history;
              batches = at.batches;
              point = start_point at.start;
              begins = at.begins;
              flushed = at_start at.start at.begins.stands.at.vault.run;
            };
          }

      by_case : (fs : Disk) → IsReadAs fs (outcome step.core.regions.items step.report) → BeginsRun (fused g) limit fs step.core.regions.items step.core.system.state step.core.vault
          → Holds base fs → Restarted base step.core
      by_case fs read runs (inl none) = absurd ((reads_once fs (outcome step.core.regions.items step.report) read).2 none.0)
      by_case fs read runs (inr has) = from fs runs has

      by_told : (o : Option Disk) → is_some o ≡ true → IfSome o P → IfSome o (λ fs. g.may_leave (inner (store_of old)) fs) → IfSome o (λ fs. IsReadAs fs (outcome step.core.regions.items step.report))
          → IfSome o (λ fs. BeginsRun (fused g) limit fs step.core.regions.items step.core.system.state step.core.vault) → Restarted base step.core
      by_told None is none may read runs = absurd cc
      by_told (Some fs) is none may read runs = by_case fs read runs (own.1 fs may none)

  -- one that is stopped leaves files that come of it, or what a crash might have left before
  on_way : (base : List Record) (F : Files) (c : Disk) → IsHistory (log_in F) → BeginsWith base (log_in F) → SpellsOnWay F c → HasLog base c
  on_way base F c history begins way = record {
    files = way.0;
    spells = way.1;
    finds = way.2.finds;
    history = way.2.history history;
    begins = begins_then base (log_in F) (log_in way.0) begins (goes_on_from (log_in F) (log_in way.0) way.2.log);
  }

  abbrev StaysOwn : (Disk → Type 0) → List Record → V → V → Type 0
  StaysOwn P base old new = IsOwnWhere g (IsKept g P old) base new

  either_way : (P : Disk → Type 0) (base : List Record) (old : V) (F : Files) (c : Disk) → IsOwnWhere g P base old → IsHistory (log_in F) → BeginsWith base (log_in F) → (g.may_leave old c → P c)
      → g.may_leave old c ⊎ SpellsOnWay F c → Holds base c
  either_way P base old F c own history begins is (inl was) = own.1 c was (is was)
  either_way P base old F c own history begins is (inr way) = inr (on_way base F c history begins way)

  -- at any moment, also behind it
  pub stops_within : (P : Disk → Type 0) (base : List Record) (old f : Fuse V) → Rereads g old f → IsOwnWhere g P base (inner old)
      → (c : Disk) → (g.moment (inner old) ≤ g.moment (inner f) → g.left_since (inner f) (g.moment (inner old)) c) → IfSome (g.told (inner old)) P → (g.may_leave (inner old) c → P c) → Holds base c
  stops_within P base old f rereads own c left none was = by_told (g.told (inner old)) own.0 none (reads_now (inner old)) rereads.left.any_moment rereads.none
    where
      by_case : (fs : Disk) → StopsAlike (leaves_in g) (moment_in g) (since_in g) fs old f
          → (IsUnformatted fs.log → OnlyReads (told_in g) (moment_in g) (since_in g) (leaves_in g) old f) → Holds base fs → Holds base c
      by_case fs stops only (inl none) = let at = (only none.0).any_moment in let before = at.each c (left at.later) in own.1 c before (was before)
      by_case fs stops only (inr has) =
          let at = stops has.files has.spells has.finds in
          either_way P base (inner old) has.files c own has.history has.begins was (at.each c (left at.later))

      by_told : (o : Option Disk) → is_some o ≡ true → IfSome o P → IfSome o (λ fs. g.may_leave (inner old) fs) → IfSome o (λ fs. StopsAlike (leaves_in g) (moment_in g) (since_in g) fs old f)
          → IfSome o (λ fs. IsUnformatted fs.log → OnlyReads (told_in g) (moment_in g) (since_in g) (leaves_in g) old f) → Holds base c
      by_told None is none may stops only = absurd cc
      by_told (Some fs) is none may stops only = by_case fs stops only (own.1 fs may none)

  stops_own : (P : Disk → Type 0) (base : List Record) (old f : Fuse V) → Rereads g old f → IsOwnWhere g P base (inner old)
      → StaysOwn P base (inner old) (inner f)
  stops_own P base old f rereads own = (
    rereads.left.tells ∙ own.0,
    λ c may is.
        was_before g P base (inner old) c own
        (stops_within P base old f rereads own c (λ later. counts_now (inner f) (g.moment (inner old)) c later may)) is,
  )

  -- and of one that came to its end
  pub restarts_within : (limit : ℕ) (P : Disk → Type 0) (base : List Record) (old new : Program V) (text : List ℕ) (step : Restarts g limit old text new)
      → IsOwnWhere g P base (inner (store_of old)) → (c : Disk) → g.left_since (inner step.core.vault.store) (g.moment (inner (store_of old))) c
      → IfSome (g.told (inner (store_of old))) P → (g.may_leave (inner (store_of old)) c → P c) → Holds base c
  restarts_within limit P base old new text step own c left none was =
      by_told (g.told (inner (store_of old))) own.0 none (reads_now (inner (store_of old))) step.left.any_moment step.read
    where
      by_case : (fs : Disk) → StopsAlike (leaves_in g) (moment_in g) (since_in g) fs (store_of old) step.core.vault.store
          → IsReadAs fs (outcome step.core.regions.items step.report) → Holds base fs → Holds base c
      by_case fs stops read (inl none) = absurd ((reads_once fs (outcome step.core.regions.items step.report) read).2 none.0)
      by_case fs stops read (inr has) =
          either_way P base (inner (store_of old)) has.files c own has.history has.begins was ((stops has.files has.spells has.finds).each c left)

      by_told : (o : Option Disk) → is_some o ≡ true → IfSome o P → IfSome o (λ fs. g.may_leave (inner (store_of old)) fs)
          → IfSome o (λ fs. StopsAlike (leaves_in g) (moment_in g) (since_in g) fs (store_of old) step.core.vault.store)
          → IfSome o (λ fs. IsReadAs fs (outcome step.core.regions.items step.report)) → Holds base c
      by_told None is none may stops read = absurd cc
      by_told (Some fs) is none may stops read = by_case fs stops read (own.1 fs may none)

  only_read_own : (P : Disk → Type 0) (base : List Record) (old f : Fuse V) → OnlyReads (told_in g) (moment_in g) (since_in g) (leaves_in g) old f
      → IsOwnWhere g P base (inner old) → IsOwnWhere g P base (inner f)
  only_read_own P base old f reads own = (ap is_some reads.same ∙ own.0, λ c may is. own.1 c (reads.crash c may) is)

  -- ---- what is bad
  good_none : (fs : Disk) (file : FileName) (at : ℕ) → IsUnformatted fs.log → IsBadAnywhere fs file at → ⊥
  good_none fs file at without (inl bad) = (one_answer fs).bad file at bad without
  good_none fs file at without (inr tail) =
      (one_answer fs).opened tail.sizes tail.files.gates (header_of tail.sizes (head_of tail.files)) tail.files.image (table_of tail.files.table) tail.image.reader tail.image.opened without

  good : (base : List Record) (fs : Disk) (file : FileName) (at : ℕ) → Holds base fs → IsBadAnywhere fs file at → ⊥
  good base fs file at (inl none) bad = good_none fs file at none.0 bad
  good base fs file at (inr has) bad = (found_good fs has.files has.spells has.finds).bad file at bad

  -- nor is the log as a whole
  log_is_whole : (base : List Record) (fs : Disk) (at : ℕ) → Holds base fs → BadAt fs.log at → ⊥
  log_is_whole base fs at (inl none) bad = bad.formatted none.0
  log_is_whole base fs at (inr has) bad = (readings fs.log).log_is_good has.files.batches has.spells.end at has.spells.log bad

  good_for : (command : Command) (base : List Record) (fs : Disk) (file : FileName) (at : ℕ) → Holds base fs → IsBadFor command fs file at → ⊥
  good_for Verify base fs file at holds bad = log_is_whole base fs at holds bad.1
  good_for (Size index heap) base fs file at holds bad = good base fs file at holds bad
  good_for Open base fs file at holds bad = good base fs file at holds bad
  good_for Restart base fs file at holds bad = good base fs file at holds bad
  good_for (Round blocks) base fs file at holds bad = good base fs file at holds bad
  good_for (Poke region word mask) base fs file at holds bad = good base fs file at holds bad
  good_for Audit base fs file at holds bad = good base fs file at holds bad
  good_for Checkpoint base fs file at holds bad = good base fs file at holds bad
  good_for Cleanup base fs file at holds bad = good base fs file at holds bad
  good_for (Crash choice) base fs file at holds bad = good base fs file at holds bad
  good_for Show base fs file at holds bad = good base fs file at holds bad
  good_for Next base fs file at holds bad = good base fs file at holds bad
  good_for (SetFuse passes) base fs file at holds bad = good base fs file at holds bad

  pub never_bad : (command : Command) (P : Disk → Type 0) (base : List Record) (s : V) (file : FileName) (at : ℕ) → IsOwnWhere g P base s → IfSome (g.told s) P
      → IfSome (g.told s) (λ fs. IsBadFor command fs file at) → ⊥
  never_bad command P base s file at own none bad = by_told (g.told s) own.0 none (reads_now s) bad
    where
      by_told : (o : Option Disk) → is_some o ≡ true → IfSome o P → IfSome o (λ fs. g.may_leave s fs) → IfSome o (λ fs. IsBadFor command fs file at) → ⊥
      by_told None is none may bad = absurd cc
      by_told (Some fs) is none may bad = good_for command base fs file at (own.1 fs may none) bad

  -- ---- rounds that were cut, or in which the store failed
  played_own : (precheck whole : Bool) (base : List Record) (blocks : List Blocks) (c d : Core (Fuse V)) (ts : List Transcribed) (f : Fuse V) → IsNoShorter (told_in g) c.vault d.vault
      → Plays g precheck whole blocks c ts d → f ≡ d.vault.store → IsPointOf g base c → IsOwnWhere g (NoneEscapesFrom d) base (inner f)
  played_own precheck whole base blocks c d ts f longer plays is a =
      let led = plays a.start a.batches a.point a.begins in
      let goes = course_grows (bases_of a.start) a.start.log a.point led.to led.steps a.begins.stands.at.vault.run.run led.course in
      let flushed : BeginsWith base (take (stable led.to.core) led.to.log) = grown_more a.point led.to base a.flushed goes.records goes.grown.flushed in
      let own : IsOwnWhere g (NoneEscapesFrom d) base (inner d.vault.store) =
      stands_own g base d a.start led.batches led.to led.stands a.placed a.history flushed
      (tells_on (told_in g c.vault.store) (told_in g d.vault.store) longer a.tells) in subst (λ (x : Fuse V). IsOwnWhere g (NoneEscapesFrom d) base (inner x)) (sym is) own

  -- ---- a format that was cut leaves no database, or one with its first record
  pub made_within : (index heap : ℕ) → AreInRange (sizes_of index heap) → (P : Disk → Type 0) (base : List Record) (old f : Fuse V) → Makes g index heap old f
      → IsOwnWhere g P base (inner old) → (c : Disk) → (g.moment (inner old) ≤ g.moment (inner f) → g.left_since (inner f) (g.moment (inner old)) c)
      → IfSome (g.told (inner old)) P → (g.may_leave (inner old) c → P c) → Holds base c
  made_within index heap range P base old f makes own c left none was = by_told (g.told (inner old)) own.0 none (reads_now (inner old)) makes.any_moment
    where
      by_log : (fs : Disk) → Holds base fs → IsUnformatted fs.log → FormatLeaves (g.may_leave (inner old)) (first_body (sizes_of index heap)) c
          → IsUnformatted c.log ⊎ HasFirst (first_body (sizes_of index heap)) c → Holds base c
      by_log fs holds without form (inl none) = inl (none, no_log base fs without holds)
      by_log fs holds without form (inr first) =
          inr
          (subst (λ (l : List Record). HasLog l c) (sym (no_log base fs without holds))
          (first_holds (sizes_of index heap) range (g.may_leave (inner old)) c (record { others = form.others; anchor = first.anchor; log = first.log })))

      by_case : (fs : Disk) → Holds base fs → g.may_leave (inner old) c ⊎ (IsUnformatted fs.log × FormatLeaves (g.may_leave (inner old)) (first_body (sizes_of index heap)) c) → Holds base c
      by_case fs holds (inl before) = own.1 c before (was before)
      by_case fs holds (inr form) = by_log fs holds form.0 form.1 form.1.log

      by_told : (o : Option Disk) → is_some o ≡ true → IfSome o P → IfSome o (λ fs. g.may_leave (inner old) fs)
          → IfSome o (λ fs. LeavesOnly (moment_in g) (since_in g) old f (λ c. g.may_leave (inner old) c ⊎ (IsUnformatted fs.log × FormatLeaves (g.may_leave (inner old)) (first_body (sizes_of index heap)) c)))
          → Holds base c
      by_told None is none may makes = absurd cc
      by_told (Some fs) is none may makes = by_case fs (own.1 fs may none) (makes.each c (left makes.later))

  made_own : (index heap : ℕ) → AreInRange (sizes_of index heap) → (P : Disk → Type 0) (base : List Record) (old f : Fuse V) → Makes g index heap old f
      → IsOwnWhere g P base (inner old) → StaysOwn P base (inner old) (inner f)
  made_own index heap range P base old f makes own = (
    makes.tells ∙ own.0,
    λ c may is.
        was_before g P base (inner old) c own
        (made_within index heap range P base old f makes own c (λ later. counts_now (inner f) (g.moment (inner old)) c later may)) is,
  )

  -- ---- dead transactions are cleaned up
  one_vault : (t : ℕ) (c d : Core (Fuse V)) → CleansUp g t c d → d.vault ≡ c.vault
  one_vault t c d (inl one) = one.vault
  one_vault t c d (inr none) = none.1.vault

  same_vault : (ts : List ℕ) (c d : Core (Fuse V)) → CleansAll g ts c d → d.vault ≡ c.vault
  same_vault [] c d same = ap (λ (x : Core (Fuse V)). x.vault) same
  same_vault (t ∷ ts) c d all = same_vault ts all.0 d all.2 ∙ one_vault t c all.0 all.1

  pub cleaned_vault : (c d : Core (Fuse V)) → HasCleaned g c d → d.vault ≡ c.vault
  cleaned_vault c d cleaned = same_vault (dead_in c.system.state) c d cleaned.each

  pub cleaned_point : (base : List Record) (c d : Core (Fuse V)) → HasCleaned g c d → c.system.state.stop ≡ None → IsPointOf g base c
      → Behind g base d
  cleaned_point base c d cleaned up a =
      let idle = idle_runs g a.start a.batches a.point c a.begins up in
      let moved = moved_all g (dead_in c.system.state) a.start a.batches a.point c d cleaned.each a.begins idle.0 idle.1 in
      let goes = course_grows (bases_of a.start) a.start.log a.point moved.to moved.steps a.begins.stands.at.vault.run.run moved.course in
      record {
        log = take (stable moved.to.core) moved.to.log;
        more = grown_more a.point moved.to base a.flushed goes.records goes.grown.flushed;
        point = record {
          tells = subst (λ (v : Vaulted (Fuse V)). is_some (told_in g v.store) ≡ true) (sym (cleaned_vault c d cleaned)) a.tells;
          start = a.start;
          placed = a.placed;
          history = a.history;
          batches = a.batches;
          point = moved.to;
          begins = moved.begins;
          flushed = refl;
        };
      }

  -- ---- a core whose store was only read
  read_point : (base : List Record) (c : Core (Fuse V)) (f : Fuse V) → Reads g c.vault.store f → faults_in g f ≡ faults_in g c.vault.store
      → IsPointOf g base c → IsPointOf g base (record c { vault = with_store c.vault f })
  read_point base c f reads kept a = record {
    tells = ap is_some reads.same ∙ a.tells;
    start = a.start;
    placed = a.placed;
    history = a.history;
    batches = a.batches;
    point = a.point;
    begins = read_begins g f a.start a.batches a.point c.regions.items c.system.state c.vault reads kept a.begins;
    flushed = a.flushed;
  }

  unread_point : (base : List Record) (c : Core (Fuse V)) (f : Fuse V) → Reads g c.vault.store f → Rose (faults_in g c.vault.store) (faults_in g f)
      → IsPointOf g base c → Behind g base (record c { vault = with_store c.vault f })
  unread_point base c f reads rose a =
      let there = unread g f a.start a.batches a.point c.regions.items c.system.state c.vault reads rose a.begins in
      let goes = course_grows (bases_of a.start) a.start.log a.point there.to (Does (ReadFails (faults_in g f)) ∷ []) a.begins.stands.at.vault.run.run (there.to, there.step, refl) in
      record {
        log = take (stable there.to.core) there.to.log;
        more = grown_more a.point there.to base a.flushed goes.records goes.grown.flushed;
        point = record {
          tells = ap is_some reads.same ∙ a.tells;
          start = a.start;
          placed = a.placed;
          history = a.history;
          batches = a.batches;
          point = there.to;
          begins = there.begins;
          flushed = refl;
        };
      }

  compared_point : (base : List Record) (c d : Core (Fuse V)) (text : List ℕ) → EndsComparison g c text d → IsPointOf g base c
      → Behind g base d
  compared_point base c d text (inl compares) a = record {
    log = base;
    more = begins_all base;
    point = subst (IsPointOf g base) (sym compares.read.same) (read_point base c d.vault.store compares.read.reads compares.kept a);
  }
  compared_point base c d text (inr stops) a =
      subst (Behind g base) (sym stops.read.same) (unread_point base c d.vault.store stops.read.reads stops.rose a)

  module _ (limit : ℕ) (precheck : Bool) where
    pub record Onward (Safe : Disk → Type 0) (base : List Record) (new : Program V) : Type 0 where
      pub log : List Record
      pub more : BeginsWith base log
      pub point : IsAPoint g Safe log new

    same_point : (Safe : Disk → Type 0) (base : List Record) (old new : Program V) → new ≡ old → IsAPoint g Safe base old → Onward Safe base new
    same_point Safe base old new same a = record { log = base; more = begins_all base; point = subst (IsAPoint g Safe base) (sym same) a }

    up_goes : (Safe : Disk → Type 0) (base : List Record) (core : Core (Fuse V)) (new : Program V) → new ≡ Up core → Behind g base core → Onward Safe base new
    up_goes Safe base core new up b = record { log = b.log; more = b.more; point = subst (IsAPoint g Safe b.log) (sym up) b.point }

    restarted : (Safe : Disk → Type 0) (base : List Record) (old new : Program V) (text : List ℕ) (step : StepsRestart g limit old text new)
        → IsAPoint g Safe base old → NoneEscapesRestarted g limit precheck Safe old text new step
        → Onward (SafeRestarted g limit precheck Safe old text new step) base new
    restarted Safe base old new text (inl step) a none =
        up_goes AnyFiles base step.core new step.up (restart_point limit (NoneEscapesIn Safe old) base old new text (own_store g Safe base old a) none step)
    restarted Safe base old new text (inr step) a none =
        same_point (NoneEscapesMaking g Safe old) base (Down step.store) new step.down
        (stops_own (NoneEscapesIn Safe old) base (store_of old) step.store step.left (own_store g Safe base old a))

    alone_goes : (Safe : Disk → Type 0) (name : Name) (act : Act) (base : List Record) (old new : Program V) (text : List ℕ) → StepsAlone g precheck name act old text new
        → IsAPoint g Safe base old → Onward Safe base new
    alone_goes Safe name act base (Up core) new text step a =
        up_goes Safe base step.0 new step.2 (round_point g precheck base (alone act) core step.0 step.1.transcripts step.1.longer step.1.plays a)
    alone_goes Safe name act base (Down store) new text step a = same_point Safe base (Down store) new step.1 a

    cleanup_goes : (Safe : Disk → Type 0) (stop : Option Cause) (base : List Record) (core : Core (Fuse V)) (new : Program V) (text : List ℕ) → core.system.state.stop ≡ stop → CleanupIn g stop core text new
        → IsPointOf g base core → Onward Safe base new
    cleanup_goes Safe (Some cause) base core new text is step a = same_point Safe base (Up core) new step.1 a
    cleanup_goes Safe None base core new text is step a = up_goes Safe base step.0 new step.2 (cleaned_point base core step.0 step.1 is a)

    show_goes : (Safe : Disk → Type 0) (stop : Option Cause) (base : List Record) (core : Core (Fuse V)) (new : Program V) (text : List ℕ) → core.system.state.stop ≡ stop → ShowIn g stop core text new
        → IsPointOf g base core → Onward Safe base new
    show_goes Safe (Some cause) base core new text is step a = same_point Safe base (Up core) new step.1 a
    show_goes Safe None base core new text is step a = up_goes Safe base step.0 new step.2 (cleaned_point base core step.0 step.1 is a)

    verify_goes : (Safe : Disk → Type 0) (stop : Option Cause) (base : List Record) (core : Core (Fuse V)) (new : Program V) (text : List ℕ) → core.system.state.stop ≡ stop
        → VerifyIn g stop core text new → IsPointOf g base core → Onward Safe base new
    verify_goes Safe (Some cause) base core new text is step a = same_point Safe base (Up core) new step.1 a
    verify_goes Safe None base core new text is step a =
        let cleaned = cleaned_point base core step.0 step.2 is a in
        let compared = compared_point cleaned.log step.0 step.1 text step.3 cleaned.point in
        up_goes Safe base step.1 new step.4 (record { log = compared.log; more = begins_then base cleaned.log compared.log cleaned.more compared.more; point = compared.point })

    pub step_goes : (Safe : Disk → Type 0) (command : Command) (base : List Record) (old new : Program V) (text : List ℕ)
        → (step : Steps g limit precheck old command text new) → IsAPoint g Safe base old
        → NoneEscapesLeft g limit precheck Safe command old text new step
        → Onward (SafeBehind g limit precheck Safe command old text new step) base new
    step_goes Safe (Size index heap) base old new text step a none =
        let own = own_store g Safe base old a in
        let empty : base ≡ [] = none_yet (NoneEscapesIn Safe old) base (inner (store_of old)) own none step.unformatted in
        let first : List Record = first_record (sizes_of index heap) ∷ [] in
        record {
          log = first;
          more = subst (λ (l : List Record). BeginsWith l first) (sym empty) (begins_none first);
          point = subst (IsAPoint g AnyFiles first) (sym step.up) (size_point limit index heap old new text own.0 step);
        }
    step_goes Safe Open base old new text step a none = restarted Safe base old new text step a none
    step_goes Safe Restart base old new text step a none = restarted Safe base old new text step a none
    step_goes Safe (Round blocks) base (Up core) new text step a none =
        up_goes Safe base step.0 new step.2 (round_point g precheck base (map told_by blocks) core step.0 step.1.transcripts step.1.longer step.1.plays a)
    step_goes Safe (Round blocks) base (Down store) new text step a none = same_point Safe base (Down store) new step.1 a
    step_goes Safe (Poke region word mask) base old new text step a none = alone_goes Safe names.Poke (Pokes region word mask) base old new text step a
    step_goes Safe Audit base old new text step a none = alone_goes Safe names.Audit Audits base old new text step a
    step_goes Safe Checkpoint base old new text step a none = alone_goes Safe names.Checkpoint Checkpoints base old new text step a
    step_goes Safe Cleanup base (Up core) new text step a none = cleanup_goes Safe core.system.state.stop base core new text refl step a
    step_goes Safe Cleanup base (Down store) new text step a none = same_point Safe base (Down store) new step.1 a
    step_goes Safe (Crash choice) base old new text step a none =
        record {
          log = base;
          more = begins_all base;
          point =
              begins_down g base new step.store step.down
              (crash_keeps g (NoneEscapesIn Safe old) base (inner (store_of old)) step.store step.left.tells step.left.crash step.durable none
              (own_store g Safe base old a));
        }
    step_goes Safe Show base (Up core) new text step a none = show_goes Safe core.system.state.stop base core new text refl step a
    step_goes Safe Show base (Down store) new text step a none = same_point Safe base (Down store) new step.1 a
    step_goes Safe Verify base (Up core) new text step a none = verify_goes Safe core.system.state.stop base core new text refl step a
    step_goes Safe Verify base (Down store) new text step a none = same_point Safe base (Down store) new step.1 a
    step_goes Safe Next base old new text step a none = same_point Safe base old new step.1 a
    step_goes Safe (SetFuse passes) base (Up core) new text step a none =
        same_point Safe base (Up (record core { vault = with_store core.vault step.0.0 })) new step.0.2 (fused_point g base passes core step.0.0 step.0.1 a)
    step_goes Safe (SetFuse passes) base (Down store) new text step a none =
        same_point Safe base (Down step.0.0) new step.0.2 (where_same g Safe base (inner store) (inner step.0.0) (sym step.0.1.store) a)

    -- a round's flushed records are those of the log that it leads to
    pub step_logs : (Safe : Disk → Type 0) (command : Command) (base : List Record) (old new : Program V) (text : List ℕ)
        → (step : Steps g limit precheck old command text new) (a : IsAPoint g Safe base old)
        → (none : NoneEscapesLeft g limit precheck Safe command old text new step)
        → IsLoggedBy g limit precheck Safe command base old text new step a (step_goes Safe command base old new text step a none).log
    unfolding step_goes up_goes round_point
    step_logs Safe (Round blocks) base (Up core) new text step a none = refl
    step_logs Safe (Round blocks) base (Down store) new text step a none = tt
    step_logs Safe (Size index heap) base old new text step a none = tt
    step_logs Safe Open base old new text step a none = tt
    step_logs Safe (Poke region word mask) base old new text step a none = tt
    step_logs Safe Audit base old new text step a none = tt
    step_logs Safe Checkpoint base old new text step a none = tt
    step_logs Safe Cleanup base old new text step a none = tt
    step_logs Safe (Crash choice) base old new text step a none = tt
    step_logs Safe Restart base old new text step a none = tt
    step_logs Safe Show base old new text step a none = tt
    step_logs Safe Verify base old new text step a none = tt
    step_logs Safe Next base old new text step a none = tt
    step_logs Safe (SetFuse passes) base old new text step a none = tt

    -- ---- a command that failed
    lost_own : (Safe : Disk → Type 0) (blocks : List Blocks) (base : List Record) (old : Program V) (f : Fuse V) (lost : Lost g precheck blocks old f)
        → IsAPoint g Safe base old → IsOwnWhere g (NoneEscapesCut g limit precheck Safe blocks old f lost) base (inner f)
    lost_own Safe blocks base (Up core) f (inl same) a =
        subst (λ (x : Fuse V). IsOwnWhere g (NoneEscapesFrom core) base (inner x)) (sym same) (own_store g Safe base (Up core) a)
    lost_own Safe blocks base (Up core) f (inr played) a =
        played_own precheck played.whole base blocks core played.core played.transcripts f played.longer played.plays played.store a
    lost_own Safe blocks base (Down store) f same a = subst (λ (x : Fuse V). IsOwnWhere g Safe base (inner x)) (sym same) a

    alone_own : (Safe : Disk → Type 0) (act : Act) (base : List Record) (old : Program V) (f : Fuse V) (fails : AloneFails g precheck act old f)
        → IsAPoint g Safe base old → IsOwnWhere g (NoneEscapesAlone g limit precheck Safe act old f fails) base (inner f)
    alone_own Safe act base (Up core) f fails a = played_own precheck true base (alone act) core fails.core fails.transcripts f fails.longer fails.plays fails.store a
    alone_own Safe act base (Down store) f fails a = absurd fails

    stays_own : (Safe : Disk → Type 0) (base : List Record) (old : Program V) (f : Fuse V) → f ≡ store_of old → IsAPoint g Safe base old
        → IsOwnWhere g (NoneEscapesIn Safe old) base (inner f)
    stays_own Safe base old f same a = subst (λ (x : Fuse V). IsOwnWhere g (NoneEscapesIn Safe old) base (inner x)) (sym same) (own_store g Safe base old a)

    broken_own : (Safe : Disk → Type 0) (command : Command) → IsFit command → (base : List Record) (old : Program V) (f : Fuse V)
        → (breaks : Breaks g precheck command old f) → IsAPoint g Safe base old
        → IsOwnWhere g (NoneEscapesLost g limit precheck Safe command old f breaks) base (inner f)
    broken_own Safe (Size index heap) fit base old f breaks a =
        made_own index heap fit (NoneEscapesIn Safe old) base (store_of old) f breaks.0 (own_store g Safe base old a)
    broken_own Safe Open fit base old f breaks a = stops_own (NoneEscapesIn Safe old) base (store_of old) f breaks.0 (own_store g Safe base old a)
    broken_own Safe Restart fit base old f breaks a = stops_own (NoneEscapesIn Safe old) base (store_of old) f breaks.0 (own_store g Safe base old a)
    broken_own Safe (Round blocks) fit base old f breaks a = lost_own Safe (map told_by blocks) base old f breaks a
    broken_own Safe (Poke region word mask) fit base old f breaks a = lost_own Safe (alone (Pokes region word mask)) base old f breaks a
    broken_own Safe Audit fit base old f breaks a = lost_own Safe (alone Audits) base old f breaks a
    broken_own Safe Checkpoint fit base old f breaks a = lost_own Safe (alone Checkpoints) base old f breaks a
    broken_own Safe (Crash choice) fit base old f breaks a =
        crash_own g (NoneEscapesIn Safe old) base (inner (store_of old)) (inner f) breaks.0.tells breaks.0.crash (own_store g Safe base old a)
    broken_own Safe (SetFuse passes) fit base old f breaks a =
        where_same g (NoneEscapesIn Safe old) base (inner (store_of old)) (inner f) (sym breaks) (own_store g Safe base old a)
    broken_own Safe Next fit base old f breaks a = absurd breaks
    broken_own Safe Cleanup fit base old f breaks a = stays_own Safe base old f breaks a
    broken_own Safe Show fit base old f breaks a = stays_own Safe base old f breaks a
    broken_own Safe Verify fit base old f breaks a = only_read_own (NoneEscapesIn Safe old) base (store_of old) f breaks.0 (own_store g Safe base old a)

    failed_own : (Safe : Disk → Type 0) (command : Command) → IsFit command → (base : List Record) (old : Program V) (f : Fuse V)
        → (fails : StoreFailsIn g precheck command old f) → IsAPoint g Safe base old
        → IsOwnWhere g (NoneEscapesFailed g limit precheck Safe command old f fails) base (inner f)
    failed_own Safe (Size index heap) fit base old f fails a =
        made_own index heap fit (NoneEscapesIn Safe old) base (store_of old) f fails.1 (own_store g Safe base old a)
    failed_own Safe Open fit base old f fails a = stops_own (NoneEscapesIn Safe old) base (store_of old) f fails.1 (own_store g Safe base old a)
    failed_own Safe Restart fit base old f fails a = stops_own (NoneEscapesIn Safe old) base (store_of old) f fails.1 (own_store g Safe base old a)
    failed_own Safe (Poke region word mask) fit base old f fails a = alone_own Safe (Pokes region word mask) base old f fails a
    failed_own Safe Audit fit base old f fails a = alone_own Safe Audits base old f fails a
    failed_own Safe Checkpoint fit base old f fails a = alone_own Safe Checkpoints base old f fails a
    failed_own Safe (Crash choice) fit base old f fails a =
        crash_own g (NoneEscapesIn Safe old) base (inner (store_of old)) (inner f) fails.1.tells fails.1.crash (own_store g Safe base old a)
    failed_own Safe (Round blocks) fit base old f fails a = absurd fails
    failed_own Safe Cleanup fit base old f fails a = absurd fails
    failed_own Safe Show fit base old f fails a = absurd fails
    failed_own Safe Verify fit base old f fails a = only_read_own (NoneEscapesIn Safe old) base (store_of old) f fails.1 (own_store g Safe base old a)
    failed_own Safe Next fit base old f fails a = absurd fails
    failed_own Safe (SetFuse passes) fit base old f fails a = absurd fails

    -- ---- some commands
    pub record Gone (Safe : Disk → Type 0) (commands : List Command) (base : List Record) (old : Program V) (at : IsAPoint g Safe base old) (text : List ℕ) (new : Program V)
        (runs : RunsAll g limit precheck old commands text new) : Type 0 where
      pub log : List Record
      pub each : AllSurvive g limit precheck Safe commands base old at text new runs log
      pub point : IsAPoint g (SafeAfter g limit precheck Safe commands old text new runs) log new

    pub all_go : (Safe : Disk → Type 0) (commands : List Command) (base : List Record) (old : Program V) (text : List ℕ) (new : Program V)
        → (runs : RunsAll g limit precheck old commands text new) (a : IsAPoint g Safe base old)
        → NoneEscape g limit precheck Safe commands old text new runs → Gone Safe commands base old a text new runs
    all_go Safe [] base old text new runs a none = record {
      log = base;
      each = refl;
      point = subst (IsAPoint g Safe base) (sym runs.1) a;
    }
    all_go Safe (command ∷ later) base old text new runs a none =
        let step = step_goes Safe command base old runs.1 runs.0 runs.3 a none.0 in
        let rest = all_go (SafeBehind g limit precheck Safe command old runs.0 runs.1 runs.3) later step.log runs.1 runs.2 new runs.4 step.point none.1 in
        record {
          log = rest.log;
          each = (step.log, step.more, step.point, step_logs Safe command base old runs.1 runs.0 runs.3 a none.0, rest.each);
          point = rest.point;
        }

    unfoldable pub there : (base : List Record) (start : V) (script : List Command) (count : ℕ) (text : List ℕ) (new : Program V)
        → (run : HasRun g limit precheck start script count text new) (own : IsOwn g base start)
        → NoneEscapeThere g limit precheck start script count text new run
        → Gone AnyFiles (take count script) base run.first (begins_down g base run.first start run.down own) text new run.runs
    there base start script count text new run own none = all_go AnyFiles (take count script) base run.first text new run.runs (begins_down g base run.first start run.down own) none

    -- no command takes a record away
    pub grows : (Safe : Disk → Type 0) (commands : List Command) (base : List Record) (old : Program V) (at : IsAPoint g Safe base old) (text : List ℕ) (new : Program V)
        → (runs : RunsAll g limit precheck old commands text new) (base' : List Record)
        → AllSurvive g limit precheck Safe commands base old at text new runs base' → BeginsWith base base'
    grows Safe [] base old at text new runs base' same = subst (BeginsWith base) (sym same) (begins_all base)
    grows Safe (command ∷ later) base old at text new runs base' all =
        begins_then base all.0 base' all.1 (grows (SafeBehind g limit precheck Safe command old runs.0 runs.1 runs.3) later all.0 runs.1 all.2 runs.2 new runs.4 base' all.4)

    -- behind the making of a database there is one
    pub made_some : (Safe : Disk → Type 0) (index heap : ℕ) (later : List Command) (base : List Record) (old : Program V) (text : List ℕ) (new : Program V)
        → (runs : RunsAll g limit precheck old (Size index heap ∷ later) text new) (a : IsAPoint g Safe base old)
        → (none : NoneEscape g limit precheck Safe (Size index heap ∷ later) old text new runs)
        → BeginsWith (first_record (sizes_of index heap) ∷ []) (all_go Safe (Size index heap ∷ later) base old text new runs a none).log
    unfolding all_go step_goes
    made_some Safe index heap later base old text new runs a none =
        let step = step_goes Safe (Size index heap) base old runs.1 runs.0 runs.3 a none.0 in
        let rest = all_go AnyFiles later step.log runs.1 runs.2 new runs.4 step.point none.1 in
        grows AnyFiles later step.log runs.1 step.point runs.2 new runs.4 rest.log rest.each

    -- of a database that was just made its first record is flushed
    pub made_first : (Safe : Disk → Type 0) (index heap : ℕ) (base : List Record) (old new : Program V) (text : List ℕ)
        → (step : StepsSize g limit index heap old text new) (a : IsAPoint g Safe base old) (none : NoneEscapesRead g Safe old)
        → (step_goes Safe (Size index heap) base old new text step a none).log ≡ first_record (sizes_of index heap) ∷ []
    unfolding step_goes
    made_first Safe index heap base old new text step a none = refl

    pub fails_own : (Safe : Disk → Type 0) (halt : Halt) (command : Command) → IsFit command → (base : List Record) (old : Program V) (f : Fuse V)
        → (fails : Fails g precheck halt command old f) → IsAPoint g Safe base old
        → IsOwnWhere g (NoneEscapesBehind g limit precheck Safe halt command old f fails) base (inner f)
    fails_own Safe halts.StoreFault command fit base old f fails a = failed_own Safe command fit base old f fails a
    fails_own Safe halts.OutOfMemory command fit base old f fails a = broken_own Safe command fit base old f fails a
    fails_own Safe (halts.BadStore file at) command fit base old f fails a =
        only_read_own (NoneEscapesIn Safe old) base (store_of old) f fails.2 (own_store g Safe base old a)
    fails_own Safe halts.Unformatted command fit base old f fails a =
        only_read_own (NoneEscapesIn Safe old) base (store_of old) f fails.2 (own_store g Safe base old a)
    fails_own Safe halts.Formatted command fit base old f fails a =
        only_read_own (NoneEscapesIn Safe old) base (store_of old) f fails.2 (own_store g Safe base old a)
    fails_own Safe halts.StoreUnsteady command fit base old f fails a =
        only_read_own (NoneEscapesIn Safe old) base (store_of old) f fails.2 (own_store g Safe base old a)
    fails_own Safe halts.RecordTooLong command fit base old f fails a =
        only_read_own (NoneEscapesIn Safe old) base (store_of old) f fails.2 (own_store g Safe base old a)
    fails_own Safe halts.BadWords command fit base old f fails a = absurd fails
    fails_own Safe (halts.BadScript line kind) command fit base old f fails a = absurd fails
    fails_own Safe halts.TooLong command fit base old f fails a = absurd fails
    fails_own Safe halts.ReadFault command fit base old f fails a = absurd fails
    fails_own Safe halts.WriteFault command fit base old f fails a = absurd fails
    fails_own Safe (halts.LogFull end most) command fit base old f fails a = absurd fails
    fails_own Safe halts.TooSmall command fit base old f fails a = absurd fails
    fails_own Safe halts.NotLoaded command fit base old f fails a = absurd fails

    module _ (c : Course V) (mid : Option (List ℕ)) (count : ℕ) (base : List Record) (own : IsOwn g base c.store) where
      untouched : c.store' ≡ c.store → IsOwn g base c.store'
      untouched same = own_same g base c.store c.store' (sym same) own

      abbrev safe_there : (script : List Command) (n : ℕ) (text : List ℕ) (state : Program V) → HasRun g limit precheck c.store script n text state → Disk → Type 0
      safe_there script n text state run = SafeThere g limit precheck c.store script n text state run

      stop_survives : (halt : Halt) (stopped : HasStopped g limit precheck halt c mid)
          → NoneEscapesStopped g limit precheck c mid count halt stopped
          → HaltSurvives g limit precheck c mid count base halt stopped
      stop_survives halt stopped honest =
          let stops = stopped.2 in
          let gone = there base c.store stopped.0 stops.count stops.text stops.state stops.run own honest in
          record {
            base' = gone.log;
            run = record { at = begins_down g base stops.run.first c.store stops.run.down own; each = gone.each; behind = gone.point };
            comes_back =
                where_same g (SafeStopped g limit precheck halt c.store stopped.0 c.taken mid c.store' stops) gone.log (inner stops.last) c.store' stops.store
                (fails_own (safe_there stopped.0 stops.count stops.text stops.state stops.run) halt stops.command
                (next_fit stopped.0 stops.count stops.command (all_fit stopped.1.bytes stopped.0 stopped.1.spelled) stops.next.next) gone.log stops.state stops.last stops.fails gone.point);
          }

      unformatted_survives : (stopped : HasStopped g limit precheck halts.Unformatted c mid)
          → NoneEscapesStopped g limit precheck c mid count halts.Unformatted stopped → NoneEscapesFound g limit precheck c mid count halts.Unformatted stopped
          → (survives : HaltSurvives g limit precheck c mid count base halts.Unformatted stopped) × (survives.base' ≡ [])
      unfolding stop_survives there
      unformatted_survives stopped honest found =
          let stops = stopped.2 in
          let safe = safe_there stopped.0 stops.count stops.text stops.state stops.run in
          let gone = there base c.store stopped.0 stops.count stops.text stops.state stops.run own honest in (
            stop_survives halts.Unformatted stopped honest,
            none_yet (NoneEscapesIn safe stops.state) gone.log (inner (store_of stops.state)) (own_store g safe gone.log stops.state gone.point) found stops.fails.1,
          )

      never_bad_store : (file : FileName) (at : ℕ) (stopped : HasStopped g limit precheck (halts.BadStore file at) c mid)
          → NoneEscapesStopped g limit precheck c mid count (halts.BadStore file at) stopped
          → NoneEscapesFound g limit precheck c mid count (halts.BadStore file at) stopped → ⊥
      never_bad_store file at stopped honest found =
          let stops = stopped.2 in
          let safe = safe_there stopped.0 stops.count stops.text stops.state stops.run in
          let gone = there base c.store stopped.0 stops.count stops.text stops.state stops.run own honest in
          never_bad stops.command (NoneEscapesIn safe stops.state) gone.log (inner (store_of stops.state)) file at (own_store g safe gone.log stops.state gone.point) found stops.fails.1

      never_unsteady : (stopped : HasStopped g limit precheck halts.StoreUnsteady c mid)
          → NoneEscapesStopped g limit precheck c mid count halts.StoreUnsteady stopped → ⊥
      never_unsteady stopped honest =
          let stops = stopped.2 in
          let safe = safe_there stopped.0 stops.count stops.text stops.state stops.run in
          let gone = there base c.store stopped.0 stops.count stops.text stops.state stops.run own honest in
          own_tells g safe gone.log stops.state gone.point stops.fails.1

      memory_survives : (o : Untouched c mid ⊎ HasStopped g limit precheck halts.OutOfMemory c mid)
          → NoneEscapesWanting g limit precheck c mid count o
          → MemorySurvives g limit precheck c mid count base o
      memory_survives (inl same) honest = untouched same.0
      memory_survives (inr stopped) honest = stop_survives halts.OutOfMemory stopped honest

      pub script_survives : (status : Status) (ended : EndedScript g limit precheck c mid count status)
          → ScriptIsHonest g limit precheck c mid count status ended
          → ScriptSurvives g limit precheck c mid count base status ended
      script_survives Done ended honest =
          let ran = ended.2 in
          let safe = safe_there ended.0 (length ended.0) ran.text ran.state ran.run in
          let gone = there base c.store ended.0 (length ended.0) ran.text ran.state ran.run own honest.0 in
          record {
            base' = gone.log;
            run = record { at = begins_down g base ran.run.first c.store ran.run.down own; each = gone.each; behind = gone.point };
            comes_back =
                where_same g (NoneEscapesIn safe ran.state) gone.log (inner (store_of ran.state)) c.store' ran.store
                (own_store g safe gone.log ran.state gone.point);
          }
      script_survives WriteFault ended honest =
          let cut = ended.1.2 in
          let gone = there base c.store ended.1.0 cut.count cut.text cut.earlier cut.ran own honest.0 in
          let step = step_goes (safe_there ended.1.0 cut.count cut.text cut.earlier cut.ran) cut.command gone.log cut.earlier cut.state cut.more cut.steps gone.point honest.1 in
          let safe = SafeCut g limit precheck c.store ended.1.0 c.taken mid c.store' cut in
          record {
            mid = gone.log;
            run = record { at = begins_down g base cut.ran.first c.store cut.ran.down own; each = gone.each; behind = gone.point };
            base' = step.log;
            more = step.more;
            last = step.point;
            comes_back =
                where_same g (NoneEscapesIn safe cut.state) step.log (inner (store_of cut.state)) c.store' cut.store
                (own_store g safe step.log cut.state step.point);
          }
      script_survives StoreFault ended honest = stop_survives halts.StoreFault ended honest.0
      script_survives (BadStore file at) ended honest = never_bad_store file at ended honest.0 honest.1
      script_survives Unformatted ended honest = unformatted_survives ended honest.0 honest.1
      script_survives Formatted ended honest = stop_survives halts.Formatted ended honest.0
      script_survives StoreUnsteady ended honest = never_unsteady ended honest.0
      script_survives RecordTooLong ended honest = stop_survives halts.RecordTooLong ended honest.0
      script_survives OutOfMemory ended honest = memory_survives ended honest.0
      script_survives (LogFull end most) ended honest = absurd ended
      script_survives TooSmall ended honest = absurd ended
      script_survives NotLoaded ended honest = absurd ended
      script_survives BadWords ended honest = absurd ended
      script_survives (BadScript line kind) ended honest = untouched ended.1.0
      script_survives TooLong ended honest = untouched ended.1.0
      script_survives ReadFault ended honest = untouched ended.1.0
