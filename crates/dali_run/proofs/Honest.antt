-- Runs without pokes are honest by themselves.
use Rattle.std.proofs.Common.{◌≡◌, ◌⊎◌, ◌≤◌, ℕ, zero, suc, ◌+◌, ◌-◌, ◌==◌, ◌%◌, Bool, true, false, List, [], ◌∷◌, ◌++◌, Option, Some, None, length, map, flat_map, take, refl, sym, ◌∙◌, ap, subst, inl, inr}
use Rattle.std.specs.Prelude.{◌||◌, IfSome, filter_map, slice_get}
use Rattle.std.specs.List.{list_any, range_with_len}
use Rattle.std.proofs.lemmas.Bool.{or_parts}
use Rattle.dali_arguments.specs.Laws.{IsInRange}
use Rattle.dali_arguments.specs.Meaning.{meaning}
use Rattle.dali_arguments.specs.declared.task.Task.{Task}
use Rattle.dali_arguments.specs.declared.task.Task.TheVariants.{Run, Generate, Dump, Show, Status as Standing, Load}
use Rattle.dali_arguments.proofs.InRange.{in_range}
use Rattle.dali_transcripts.specs.Clients.Said.{Transcribed}
use Rattle.dali_generator.specs.Generated.{AreWithin, block, draw, generated, index_regions, heap_regions, key_of, transaction, value_of}
use Rattle.dali_generator.proofs.Right.{right_round, right_sizes}
use Rattle.dali_fuse.specs.Fuse.{inner}
use Rattle.dali_fuse.specs.declared.fuse.Fuse.{Fuse}
use Rattle.dali_record.specs.declared.records.Record.{Record}
use Rattle.dali_round.specs.Leads.{lines_in}
use Rattle.dali_script.specs.declared.commands.Block.{Block}
use Rattle.dali_script.specs.declared.commands.ClientCommand.{ClientCommand}
use Rattle.dali_script.specs.declared.commands.ClientCommand.TheVariants as clients
use Rattle.dali_script.specs.declared.commands.Command.{Command}
use Rattle.dali_script.specs.declared.commands.Command.TheVariants.{Size, Open, Round, Poke, Audit, Checkpoint, Cleanup, Crash, Restart, Show, Verify, Next, Fuse as SetFuse}
use Rattle.dali_store.specs.Store.{Files as Disk}
use Rattle.dali_store.specs.declared.store.Store.{Ghosts}
use Rattle.dali_transcripts.specs.Words.{Act, Audits, Checkpoints, Said}
use Rattle.dali_transcripts.specs.Transcripts.{Told as Blocks}
use Rattle.dali_transcripts.specs.Rounds.{AreBlocks, IsPlaced}
use Rattle.dali_core.specs.declared.whole.Core.{Core}
use Rattle.dali_core.specs.Cores.{IsNoShorter}
use Rattle.dali_run.specs.declared.halt.Halt.{Halt}
use Rattle.dali_run.specs.declared.halt.Halt.TheVariants as halts
use Rattle.dali_run.specs.declared.program.Program.{Program}
use Rattle.dali_run.specs.declared.program.Program.TheVariants.{Up, Down}
use Rattle.dali_run.specs.declared.status.Status.{Status}
use Rattle.dali_run.specs.declared.status.Status.TheVariants.{Done, BadWords, BadScript, TooLong, ReadFault, WriteFault, StoreFault, BadStore, Unformatted, Formatted, StoreUnsteady, RecordTooLong, OutOfMemory, LogFull, TooSmall, NotLoaded}
use Rattle.dali_run.specs.Ends.{Course, Ended, EndedGenerator, EndedScript, GeneratorFails, GeneratorFinds, GeneratorLoses, GeneratorStops, GeneratorWants, HasStopped, Untouched}
use Rattle.dali_run.specs.Fails.{AloneFails, Breaks, Fails, Lost, Played, StoreFailsIn}
use Rattle.dali_run.specs.Generating.{IsCrashed, IsCutRound, IsMade, IsPlayed}
use Rattle.dali_run.specs.Honest.{AreHonest, CutIsHonest, FaultIsHonest, FoundIsHonest, GeneratorIsHonest, GeneratorStopIsHonest, LossIsHonest, BrokenIsHonest, FailIsHonest, FailedIsHonest, HaltEscapesNone, IsHonestWithin, LoneIsHonest, LostIsHonest, RoundsEscapeNone, StepIsHonest, StepsAreHonest, WantEscapesNone, NonePoked, PlayedIsHonest, PokesNowhere, RunsAreHonest, SafeAtEnd, SafeByHalt, SafeByWant, WantIsHonest, is_poke, pokes, pokes_in}
use Rattle.dali_run.specs.Masks.{AreTold, IsNone, answer_in, done_on, has_any, masks_behind, masks_of, xor_of}
use Rattle.dali_run.specs.Program.{IsDown, store_of, told_in}
use Rattle.dali_run.specs.Run.{HasRun, RunsAll}
use Rattle.dali_run.specs.Scripts.{Spells}
use Rattle.dali_run.specs.Steps.{Plays, Steps, StepsRestart}
use Rattle.dali_run.specs.Survives.{AnyFiles, IsAPoint, IsOwn, IsPointOf, NoneEscape, NoneEscapesAlone, NoneEscapesAt, NoneEscapesBehind, NoneEscapesCut, NoneEscapesFailed, NoneEscapesFound, NoneEscapesFrom, NoneEscapesIn, NoneEscapesLeft, NoneEscapesLost, NoneEscapesMaking, NoneEscapesRead, NoneEscapesRestarted, NoneEscapesStopped, NoneEscapesWanting, SafeAfter, SafeBehind, SafeCut, SafeRestarted, SafeThere, ScriptIsHonest}
use Rattle.dali_run.specs.Told.{AreFit, IsFit, alone, told_by}
use Rattle.dali_run.proofs.Fit.{all_fit, right_blocks}
use Rattle.dali_run.proofs.Standing.{standing_of, stands_of}
use Rattle.dali_run.proofs.Sums.{masks_at, poked_is}
use Rattle.dali_run.proofs.Surviving.{begins_down, next_fit, step_goes, tells_on, fit_front}
use Rattle.dali_run.proofs.Telling.{round_pokes, step_told}
use Rattle.dali_run.proofs.Unharmed.{cores_are_honest, stands_honest, within_honest}
use Rattle.dali_run.proofs.Unstrayed.{AreQuiet, coming_none, done_none, quiet_round}
use Rattle.dali_run.proofs.Serves.{second}

-- ---- scripts without pokes
abbrev nothing : ℕ → List ℕ
nothing r = []

none_of_blocks : (r : ℕ) (blocks : List Block) → list_any pokes_in blocks ≡ false → (lines : List (List Said)) → masks_of r (map told_by blocks) lines ≡ []
none_of_blocks r [] none lines = refl
none_of_blocks r (b ∷ blocks) none [] = refl
none_of_blocks r (b ∷ blocks) none (said ∷ more) =
    let parts = or_parts (pokes_in b) (list_any pokes_in blocks) none in
    ap (λ (l : List ℕ). l ++ masks_of r (map told_by blocks) more)
    (ap (done_on r (filter_map answer_in said)) (coming_none b.commands parts.0) ∙ done_none r (filter_map answer_in said))
    ∙ none_of_blocks r blocks parts.1 more

are_quiet : (blocks : List Block) → ((i : ℕ) (t : Blocks) → slice_get (map told_by blocks) i ≡ Some t → IsPlaced false t.acts) → list_any pokes_in blocks ≡ false → AreQuiet (map told_by blocks)
are_quiet [] placed none = tt
are_quiet (b ∷ blocks) placed none =
    let parts = or_parts (pokes_in b) (list_any pokes_in blocks) none in
    ((placed zero (told_by b) refl, coming_none b.commands parts.0), are_quiet blocks (λ i t e. placed (suc i) t e) parts.1)

front_none : (n : ℕ) (script : List Command) → list_any pokes script ≡ false → list_any pokes (take n script) ≡ false
front_none zero script none = refl
front_none (suc n) [] none = refl
front_none (suc n) (command ∷ script) none =
    let parts = or_parts (pokes command) (list_any pokes script) none in ap (λ (b : Bool). b || list_any pokes (take n script)) parts.0 ∙ front_none n script parts.1

last_none : (front : List Command) (command : Command) → list_any pokes (front ++ command ∷ []) ≡ false → pokes command ≡ false
last_none [] command none = (or_parts (pokes command) false none).0
last_none (c ∷ front) command none = last_none front command (or_parts (pokes c) (list_any pokes (front ++ command ∷ [])) none).1

pub next_none : (script : List Command) (count : ℕ) (command : Command) → list_any pokes script ≡ false → take (count + 1) script ≡ take count script ++ command ∷ [] → pokes command ≡ false
next_none script count command none next = last_none (take count script) command (subst (λ (l : List Command). list_any pokes l ≡ false) next (front_none (count + 1) script none))

-- ---- generated blocks have none
second_none : (first a b c : Bool) (k : ℕ) (v : List ℕ) (rest : List ClientCommand) → list_any is_poke ((second first a b c k v ++ clients.Commit ∷ []) ++ rest) ≡ list_any is_poke rest
unfolding second
second_none true a b c k v rest = refl
second_none false true b c k v rest = refl
second_none false false true c k v rest = refl
second_none false false false true k v rest = refl
second_none false false false false k v rest = refl

one_none : (number client i : ℕ) (rest : List ClientCommand) → list_any is_poke (transaction client i (draw number client i) ++ rest) ≡ list_any is_poke rest
unfolding second
one_none number client i rest =
    let drawn = draw number client i in
    second_none (i == 0) (drawn % 4 == 1) (drawn % 4 == 2) (drawn % 4 == 3) (key_of client (i - 1)) (value_of drawn) rest

client_none : (number client n a : ℕ) → list_any is_poke (flat_map (λ i. transaction client i (draw number client i)) (range_with_len a n)) ≡ false
client_none number client zero a = refl
client_none number client (suc n) a =
    one_none number client a (flat_map (λ i. transaction client i (draw number client i)) (range_with_len (a + 1) n)) ∙ client_none number client n (a + 1)

blocks_none : (number size n a : ℕ) → list_any pokes_in (map (block number size) (range_with_len a n)) ≡ false
blocks_none number size zero a = refl
blocks_none number size (suc n) a =
    ap (λ (b : Bool). b || list_any pokes_in (map (block number size) (range_with_len (a + 1) n))) (client_none number a size 0) ∙ blocks_none number size n (a + 1)

-- ---- regions
none_told : {V : Type 0} (masks : ℕ → List ℕ) (p : Program V) → IsNone masks → AreTold masks p → AreTold nothing p
none_told masks (Up core) none are = λ r g e. let is = are r g e in (is.0 ∙ ap xor_of (none r), is.1 ∙ ap has_any (none r))
none_told masks (Down store) none are = tt

none_poked : {V : Type 0} (core : Core (Fuse V)) → AreTold nothing (Up core) → NonePoked core.regions.items
none_poked core are = λ r g e. (are r g e).1

module _ {V : Type 0} (g : Ghosts V) (precheck : Bool) where
  -- a round, that was cut too, pokes no region
  round_unpoked : (whole : Bool) (base : List Record) (blocks : List Blocks) (c d : Core (Fuse V)) (ts : List Transcribed) → AreQuiet blocks
      → Plays g precheck whole blocks c ts d → IsPointOf g base c → NonePoked c.regions.items → NonePoked d.regions.items
  round_unpoked whole base blocks c d ts quiet plays a calm = λ r h e.
      let stands = standing_of g base c a in
      let round = (plays stands.start stands.batches stands.point stands.begins).round in
      let w = round.world in
      let was = round_pokes g precheck whole blocks c d ts plays stands r h e in
      was.3
      ∙ (poked_is r was.0.poked w.happened
      ∙ (ap (λ (p : Bool). p || has_any (masks_at r w.happened)) (calm r was.0 was.1) ∙ ap has_any (quiet_round r whole w blocks (map lines_in ts) quiet round.transcripts)))

  round_honest : (whole : Bool) (base : List Record) (blocks : List Blocks) (c d : Core (Fuse V)) (ts : List Transcribed) → AreQuiet blocks → IsNoShorter (told_in g) c.vault d.vault
      → Plays g precheck whole blocks c ts d → IsPointOf g base c → NonePoked c.regions.items → NoneEscapesAt g d
  round_honest whole base blocks c d ts quiet longer plays a calm =
      let led = plays a.start a.batches a.point a.begins in
      stands_honest g d a.start led.batches led.to led.stands (tells_on (told_in g c.vault.store) (told_in g d.vault.store) longer a.tells)
      (round_unpoked whole base blocks c d ts quiet plays a calm)

  -- nor does damage escape within it
  round_within : (whole : Bool) (base : List Record) (blocks : List Blocks) (c d : Core (Fuse V)) (ts : List Transcribed) → AreQuiet blocks
      → Plays g precheck whole blocks c ts d → IsPointOf g base c → NonePoked c.regions.items → IsHonestWithin g c d
  round_within whole base blocks c d ts quiet plays a calm = within_honest g c d (round_unpoked whole base blocks c d ts quiet plays a calm)

module _ {V : Type 0} (g : Ghosts V)
    (reads_now : (s : V) → IfSome (g.told s) (λ fs. g.may_leave s fs)) (counts_now : (s : V) (t : ℕ) (c : Disk) → t ≤ g.moment s → g.may_leave s c → g.left_since s t c) where
  -- a point of a run where nobody wrote astray
  pub record Calm (Safe : Disk → Type 0) (p : Program V) : Type 0 where
    base : List Record
    point : IsAPoint g Safe base p
    none : AreTold nothing p
    safe : (c : Disk) → Safe c

  pub none_in : (Safe : Disk → Type 0) (p : Program V) → Calm Safe p → (c : Disk) → g.may_leave (inner (store_of p)) c → NoneEscapesIn Safe p c
  none_in Safe (Up core) calm = cores_are_honest g calm.base core calm.point (none_poked core calm.none)
  none_in Safe (Down store) calm = λ c may. calm.safe c

  pub some_read : (P : Disk → Type 0) (s : V) → ((c : Disk) → g.may_leave s c → P c) → IfSome (g.told s) P
  some_read P s all = by_told (g.told s) (reads_now s)
    where
      by_told : (o : Option Disk) → IfSome o (λ fs. g.may_leave s fs) → IfSome o P
      by_told None may = tt
      by_told (Some fs) may = all fs may

  none_read : (Safe : Disk → Type 0) (p : Program V) → Calm Safe p → NoneEscapesRead g Safe p
  none_read Safe p calm = some_read (NoneEscapesIn Safe p) (inner (store_of p)) (none_in Safe p calm)

  making_honest : (Safe : Disk → Type 0) (old : Program V) → Calm Safe old → (c : Disk) → NoneEscapesMaking g Safe old c
  making_honest Safe old calm c = inr (none_read Safe old calm, none_in Safe old calm c)

  pub calm_down : (base : List Record) (p : Program V) (store : V) → IsDown p store → IsOwn g base store → Calm AnyFiles p
  calm_down base p store down own = record {
    base = base;
    point = begins_down g base p store down own;
    none = subst (AreTold nothing) (sym down.down) tt;
    safe = λ c. tt;
  }

  calm_same : (Safe : Disk → Type 0) (p q : Program V) → q ≡ p → Calm Safe p → Calm Safe q
  calm_same Safe p q same calm = subst (Calm Safe) (sym same) calm

  module _ (limit : ℕ) (precheck : Bool) where
    none_behind : (command : Command) → pokes command ≡ false → (old : Program V) (text : List ℕ) (new : Program V)
        → (step : Steps g limit precheck old command text new)
        → IsNone (masks_behind g limit precheck command old text new step nothing)
    none_behind (Size index heap) none old text new step r = refl
    none_behind Open none old text new step r = refl
    none_behind Restart none old text new step r = refl
    none_behind (Crash choice) none old text new step r = refl
    none_behind (Round blocks) none (Up core) text new step r = none_of_blocks r blocks none (map lines_in step.1.transcripts)
    none_behind (Round blocks) none (Down store) text new step r = refl
    none_behind (Poke region word mask) none old text new step r = absurd (cc none)
    none_behind Audit none old text new step r = refl
    none_behind Checkpoint none old text new step r = refl
    none_behind Cleanup none old text new step r = refl
    none_behind Show none old text new step r = refl
    none_behind Verify none old text new step r = refl
    none_behind Next none old text new step r = refl
    none_behind (SetFuse passes) none old text new step r = refl

    restarted_none : (Safe : Disk → Type 0) (old : Program V) (text : List ℕ) (new : Program V) (step : StepsRestart g limit old text new) → Calm Safe old
        → NoneEscapesRestarted g limit precheck Safe old text new step
    restarted_none Safe old text new (inl step) calm = none_read Safe old calm
    restarted_none Safe old text new (inr stops) calm = tt

    pub left_none : (Safe : Disk → Type 0) (command : Command) (old : Program V) (text : List ℕ) (new : Program V)
        → (step : Steps g limit precheck old command text new) → Calm Safe old
        → NoneEscapesLeft g limit precheck Safe command old text new step
    left_none Safe (Size index heap) old text new step calm = none_read Safe old calm
    left_none Safe Open old text new step calm = restarted_none Safe old text new step calm
    left_none Safe Restart old text new step calm = restarted_none Safe old text new step calm
    left_none Safe (Crash choice) old text new step calm = some_read (NoneEscapesIn Safe old) step.store (λ c may. none_in Safe old calm c (step.left.crash c may))
    left_none Safe _ old text new step calm = tt

    safe_restarted : (Safe : Disk → Type 0) (old : Program V) (text : List ℕ) (new : Program V) (step : StepsRestart g limit old text new) → Calm Safe old
        → (c : Disk) → SafeRestarted g limit precheck Safe old text new step c
    safe_restarted Safe old text new (inl step) calm c = tt
    safe_restarted Safe old text new (inr stops) calm c = making_honest Safe old calm c

    safe_behind : (Safe : Disk → Type 0) (command : Command) (old : Program V) (text : List ℕ) (new : Program V)
        → (step : Steps g limit precheck old command text new) → Calm Safe old
        → (c : Disk) → SafeBehind g limit precheck Safe command old text new step c
    safe_behind Safe (Size index heap) old text new step calm c = tt
    safe_behind Safe Open old text new step calm c = safe_restarted Safe old text new step calm c
    safe_behind Safe Restart old text new step calm c = safe_restarted Safe old text new step calm c
    safe_behind Safe (Crash choice) old text new step calm c = tt
    safe_behind Safe _ old text new step calm c = calm.safe c

    pub calm_step : (Safe : Disk → Type 0) (command : Command) → IsFit command → pokes command ≡ false → (old : Program V) (text : List ℕ) (new : Program V)
        → (step : Steps g limit precheck old command text new) → Calm Safe old
        → Calm (SafeBehind g limit precheck Safe command old text new step) new
    calm_step Safe command fit none old text new step calm =
        let onward = step_goes g reads_now counts_now limit precheck Safe command calm.base old new text step calm.point (left_none Safe command old text new step calm) in
        let are = step_told g reads_now counts_now limit precheck command fit nothing old new text step (stands_of g Safe calm.base old calm.point) calm.none in
        record {
          base = onward.log;
          point = onward.point;
          none = none_told (masks_behind g limit precheck command old text new step nothing) new (none_behind command none old text new step) are;
          safe = safe_behind Safe command old text new step calm;
        }

    -- ---- a command that failed: no damage escapes from what a crash leaves of its store
    lost_honest : (Safe : Disk → Type 0) (blocks : List Blocks) (old : Program V) (f : Fuse V) (lost : Lost g precheck blocks old f) → AreQuiet blocks → Calm Safe old
        → (c : Disk) → g.may_leave (inner f) c → NoneEscapesCut g limit precheck Safe blocks old f lost c
    lost_honest Safe blocks (Up core) f (inl same) quiet calm = subst (λ (x : Fuse V). (c : Disk) → g.may_leave (inner x) c → NoneEscapesFrom core c) (sym same) (none_in Safe (Up core) calm)
    lost_honest Safe blocks (Up core) f (inr played) quiet calm =
        subst (λ (x : Fuse V). (c : Disk) → g.may_leave (inner x) c → NoneEscapesFrom played.core c) (sym played.store)
        (round_honest g precheck played.whole calm.base blocks core played.core played.transcripts quiet played.longer played.plays calm.point (none_poked core calm.none))
    lost_honest Safe blocks (Down store) f lost quiet calm = λ c may. calm.safe c

    alone_honest : (Safe : Disk → Type 0) (act : Act) (old : Program V) (f : Fuse V) (fails : AloneFails g precheck act old f) → AreQuiet (alone act) → Calm Safe old
        → (c : Disk) → g.may_leave (inner f) c → NoneEscapesAlone g limit precheck Safe act old f fails c
    alone_honest Safe act (Up core) f fails quiet calm =
        subst (λ (x : Fuse V). (c : Disk) → g.may_leave (inner x) c → NoneEscapesFrom fails.core c) (sym fails.store)
        (round_honest g precheck true calm.base (alone act) core fails.core fails.transcripts quiet fails.longer fails.plays calm.point (none_poked core calm.none))
    alone_honest Safe act (Down store) f fails quiet calm = λ c may. calm.safe c

    -- where a crash leaves nothing else than before
    less_honest : (Safe : Disk → Type 0) (old : Program V) (f : Fuse V) → ((c : Disk) → g.may_leave (inner f) c → g.may_leave (inner (store_of old)) c) → Calm Safe old
        → (c : Disk) → g.may_leave (inner f) c → NoneEscapesIn Safe old c
    less_honest Safe old f less calm c may = none_in Safe old calm c (less c may)

    same_less : (s t : V) → t ≡ s → (c : Disk) → g.may_leave t c → g.may_leave s c
    same_less s t same c may = subst (λ (x : V). g.may_leave x c) same may

    same_fuse : (old : Program V) (f : Fuse V) → f ≡ store_of old → (c : Disk) → g.may_leave (inner f) c → g.may_leave (inner (store_of old)) c
    same_fuse old f same = same_less (inner (store_of old)) (inner f) (ap (λ (x : Fuse V). inner x) same)

    broken_honest : (Safe : Disk → Type 0) (command : Command) → IsFit command → pokes command ≡ false → (old : Program V) (f : Fuse V)
        → (breaks : Breaks g precheck command old f) → Calm Safe old
        → (c : Disk) → g.may_leave (inner f) c → NoneEscapesLost g limit precheck Safe command old f breaks c
    broken_honest Safe (Size index heap) fit none old f breaks calm c may = making_honest Safe old calm c
    broken_honest Safe Open fit none old f breaks calm c may = making_honest Safe old calm c
    broken_honest Safe Restart fit none old f breaks calm c may = making_honest Safe old calm c
    broken_honest Safe (Round blocks) fit none old f breaks calm c may = lost_honest Safe (map told_by blocks) old f breaks (are_quiet blocks fit.placed none) calm c may
    broken_honest Safe (Poke region word mask) fit none old f breaks calm c may = absurd (cc none)
    broken_honest Safe Audit fit none old f breaks calm c may = lost_honest Safe (alone Audits) old f breaks ((tt, refl), tt) calm c may
    broken_honest Safe Checkpoint fit none old f breaks calm c may = lost_honest Safe (alone Checkpoints) old f breaks ((tt, refl), tt) calm c may
    broken_honest Safe (Crash choice) fit none old f breaks calm c may = less_honest Safe old f breaks.0.crash calm c may
    broken_honest Safe (SetFuse passes) fit none old f breaks calm c may = less_honest Safe old f (same_less (inner (store_of old)) (inner f) breaks) calm c may
    broken_honest Safe Next fit none old f breaks calm c may = absurd breaks
    broken_honest Safe Cleanup fit none old f breaks calm c may = less_honest Safe old f (same_fuse old f breaks) calm c may
    broken_honest Safe Show fit none old f breaks calm c may = less_honest Safe old f (same_fuse old f breaks) calm c may
    broken_honest Safe Verify fit none old f breaks calm c may = less_honest Safe old f breaks.0.crash calm c may

    failed_honest : (Safe : Disk → Type 0) (command : Command) → pokes command ≡ false → (old : Program V) (f : Fuse V)
        → (fails : StoreFailsIn g precheck command old f) → Calm Safe old
        → (c : Disk) → g.may_leave (inner f) c → NoneEscapesFailed g limit precheck Safe command old f fails c
    failed_honest Safe (Size index heap) none old f fails calm c may = making_honest Safe old calm c
    failed_honest Safe Open none old f fails calm c may = making_honest Safe old calm c
    failed_honest Safe Restart none old f fails calm c may = making_honest Safe old calm c
    failed_honest Safe (Poke region word mask) none old f fails calm c may = absurd (cc none)
    failed_honest Safe Audit none old f fails calm c may = alone_honest Safe Audits old f fails ((tt, refl), tt) calm c may
    failed_honest Safe Checkpoint none old f fails calm c may = alone_honest Safe Checkpoints old f fails ((tt, refl), tt) calm c may
    failed_honest Safe (Crash choice) none old f fails calm c may = less_honest Safe old f fails.1.crash calm c may
    failed_honest Safe Verify none old f fails calm c may = less_honest Safe old f fails.1.crash calm c may
    failed_honest Safe (Round blocks) none old f fails calm c may = absurd fails
    failed_honest Safe Cleanup none old f fails calm c may = absurd fails
    failed_honest Safe Show none old f fails calm c may = absurd fails
    failed_honest Safe Next none old f fails calm c may = absurd fails
    failed_honest Safe (SetFuse passes) none old f fails calm c may = absurd fails

    pub behind_honest : (Safe : Disk → Type 0) (halt : Halt) (command : Command) → IsFit command → pokes command ≡ false → (old : Program V) (f : Fuse V)
        → (fails : Fails g precheck halt command old f) → Calm Safe old
        → (c : Disk) → g.may_leave (inner f) c → NoneEscapesBehind g limit precheck Safe halt command old f fails c
    behind_honest Safe halts.StoreFault command fit none old f fails calm = failed_honest Safe command none old f fails calm
    behind_honest Safe halts.OutOfMemory command fit none old f fails calm = broken_honest Safe command fit none old f fails calm
    behind_honest Safe (halts.BadStore file at) command fit none old f fails calm = less_honest Safe old f fails.2.crash calm
    behind_honest Safe halts.Unformatted command fit none old f fails calm = less_honest Safe old f fails.2.crash calm
    behind_honest Safe halts.Formatted command fit none old f fails calm = less_honest Safe old f fails.2.crash calm
    behind_honest Safe halts.StoreUnsteady command fit none old f fails calm = less_honest Safe old f fails.2.crash calm
    behind_honest Safe halts.RecordTooLong command fit none old f fails calm = less_honest Safe old f fails.2.crash calm
    behind_honest Safe halts.BadWords command fit none old f fails calm = absurd fails
    behind_honest Safe (halts.BadScript line kind) command fit none old f fails calm = absurd fails
    behind_honest Safe halts.TooLong command fit none old f fails calm = absurd fails
    behind_honest Safe halts.ReadFault command fit none old f fails calm = absurd fails
    behind_honest Safe halts.WriteFault command fit none old f fails calm = absurd fails
    behind_honest Safe (halts.LogFull end most) command fit none old f fails calm = absurd fails
    behind_honest Safe halts.TooSmall command fit none old f fails calm = absurd fails
    behind_honest Safe halts.NotLoaded command fit none old f fails calm = absurd fails

    -- ---- within a round of a script without pokes
    step_honest : (Safe : Disk → Type 0) (command : Command) → IsFit command → pokes command ≡ false → (old : Program V) (text : List ℕ) (new : Program V)
        → (step : Steps g limit precheck old command text new) → Calm Safe old
        → StepIsHonest g limit precheck command old text new step
    step_honest Safe (Round blocks) fit none (Up core) text new step calm =
        round_within g precheck true calm.base (map told_by blocks) core step.0 step.1.transcripts (are_quiet blocks fit.placed none) step.1.plays calm.point (none_poked core calm.none)
    step_honest Safe (Round blocks) fit none (Down store) text new step calm = tt
    step_honest Safe (Poke region word mask) fit none old text new step calm = absurd (cc none)
    step_honest Safe Audit fit none (Up core) text new step calm =
        round_within g precheck true calm.base (alone Audits) core step.0 step.1.transcripts ((tt, refl), tt) step.1.plays calm.point (none_poked core calm.none)
    step_honest Safe Audit fit none (Down store) text new step calm = tt
    step_honest Safe Checkpoint fit none (Up core) text new step calm =
        round_within g precheck true calm.base (alone Checkpoints) core step.0 step.1.transcripts ((tt, refl), tt) step.1.plays calm.point (none_poked core calm.none)
    step_honest Safe Checkpoint fit none (Down store) text new step calm = tt
    step_honest Safe (Size index heap) fit none old text new step calm = tt
    step_honest Safe Open fit none old text new step calm = tt
    step_honest Safe Restart fit none old text new step calm = tt
    step_honest Safe Cleanup fit none old text new step calm = tt
    step_honest Safe (Crash choice) fit none old text new step calm = tt
    step_honest Safe Show fit none old text new step calm = tt
    step_honest Safe Verify fit none old text new step calm = tt
    step_honest Safe Next fit none old text new step calm = tt
    step_honest Safe (SetFuse passes) fit none old text new step calm = tt

    lost_within : (Safe : Disk → Type 0) (blocks : List Blocks) (old : Program V) (f : Fuse V) (lost : Lost g precheck blocks old f) → AreQuiet blocks → Calm Safe old
        → LostIsHonest g limit precheck blocks old f lost
    lost_within Safe blocks (Up core) f (inl same) quiet calm = tt
    lost_within Safe blocks (Up core) f (inr played) quiet calm =
        round_within g precheck played.whole calm.base blocks core played.core played.transcripts quiet played.plays calm.point (none_poked core calm.none)
    lost_within Safe blocks (Down store) f lost quiet calm = tt

    lone_within : (Safe : Disk → Type 0) (act : Act) (old : Program V) (f : Fuse V) (fails : AloneFails g precheck act old f) → AreQuiet (alone act) → Calm Safe old
        → LoneIsHonest g limit precheck act old f fails
    lone_within Safe act (Up core) f fails quiet calm =
        round_within g precheck true calm.base (alone act) core fails.core fails.transcripts quiet fails.plays calm.point (none_poked core calm.none)
    lone_within Safe act (Down store) f fails quiet calm = tt

    broken_within : (Safe : Disk → Type 0) (command : Command) → IsFit command → pokes command ≡ false → (old : Program V) (f : Fuse V)
        → (breaks : Breaks g precheck command old f) → Calm Safe old
        → BrokenIsHonest g limit precheck command old f breaks
    broken_within Safe (Round blocks) fit none old f breaks calm = lost_within Safe (map told_by blocks) old f breaks (are_quiet blocks fit.placed none) calm
    broken_within Safe (Poke region word mask) fit none old f breaks calm = absurd (cc none)
    broken_within Safe Audit fit none old f breaks calm = lost_within Safe (alone Audits) old f breaks ((tt, refl), tt) calm
    broken_within Safe Checkpoint fit none old f breaks calm = lost_within Safe (alone Checkpoints) old f breaks ((tt, refl), tt) calm
    broken_within Safe _ fit none old f breaks calm = tt

    failed_within : (Safe : Disk → Type 0) (command : Command) → pokes command ≡ false → (old : Program V) (f : Fuse V)
        → (fails : StoreFailsIn g precheck command old f) → Calm Safe old
        → FailedIsHonest g limit precheck command old f fails
    failed_within Safe (Poke region word mask) none old f fails calm = absurd (cc none)
    failed_within Safe Audit none old f fails calm = lone_within Safe Audits old f fails ((tt, refl), tt) calm
    failed_within Safe Checkpoint none old f fails calm = lone_within Safe Checkpoints old f fails ((tt, refl), tt) calm
    failed_within Safe _ none old f fails calm = tt

    fail_honest : (Safe : Disk → Type 0) (halt : Halt) (command : Command) → IsFit command → pokes command ≡ false → (old : Program V) (f : Fuse V)
        → (fails : Fails g precheck halt command old f) → Calm Safe old
        → FailIsHonest g limit precheck halt command old f fails
    fail_honest Safe halts.StoreFault command fit none old f fails calm = failed_within Safe command none old f fails calm
    fail_honest Safe halts.OutOfMemory command fit none old f fails calm = broken_within Safe command fit none old f fails calm
    fail_honest Safe _ command fit none old f fails calm = tt

    -- ---- some commands
    pub record Walked (Safe : Disk → Type 0) (commands : List Command) (old : Program V) (text : List ℕ) (new : Program V)
        (runs : RunsAll g limit precheck old commands text new) : Type 0 where
      pub each : NoneEscape g limit precheck Safe commands old text new runs
      pub within : StepsAreHonest g limit precheck commands old text new runs
      pub calm : Calm (SafeAfter g limit precheck Safe commands old text new runs) new

    walk : (Safe : Disk → Type 0) (commands : List Command) → AreFit commands → list_any pokes commands ≡ false → (old : Program V) (text : List ℕ) (new : Program V)
        → (runs : RunsAll g limit precheck old commands text new) → Calm Safe old → Walked Safe commands old text new runs
    walk Safe [] fit none old text new runs calm = record { each = tt; within = tt; calm = calm_same Safe old new runs.1 calm }
    walk Safe (command ∷ later) fit none old text new runs calm =
        let parts = or_parts (pokes command) (list_any pokes later) none in
        let rest = walk (SafeBehind g limit precheck Safe command old runs.0 runs.1 runs.3) later fit.1 parts.1 runs.1 runs.2 new runs.4
        (calm_step Safe command fit.0 parts.0 old runs.0 runs.1 runs.3 calm) in
        record {
          each = (left_none Safe command old runs.0 runs.1 runs.3 calm, rest.each);
          within = (step_honest Safe command fit.0 parts.0 old runs.0 runs.1 runs.3 calm, rest.within);
          calm = rest.calm;
        }

    pub walked : (base : List Record) (start : V) (script : List Command) → AreFit script → list_any pokes script ≡ false → IsOwn g base start → (count : ℕ) (text : List ℕ) (new : Program V)
        → (run : HasRun g limit precheck start script count text new) → Walked AnyFiles (take count script) run.first text new run.runs
    walked base start script fit none own count text new run =
        walk AnyFiles (take count script) (fit_front count script fit) (front_none count script none) run.first text new run.runs (calm_down base run.first start run.down own)

    -- ---- a script
    module _ (c : Course V) (mid : Option (List ℕ)) (count : ℕ) (base : List Record) (own : IsOwn g base c.store)
        (nowhere : (script : List Command) → Spells c.left script c.left' → list_any pokes script ≡ false) where
      -- along the commands, of the last one, and of the store that comes back
      record StopsHonest (halt : Halt) (stopped : HasStopped g limit precheck halt c mid) : Type 0 where
        before : NoneEscapesStopped g limit precheck c mid count halt stopped
        found : NoneEscapesFound g limit precheck c mid count halt stopped
        behind : (d : Disk) → g.may_leave c.store' d → SafeByHalt g limit precheck c mid count halt stopped d
        within : HaltEscapesNone g limit precheck c mid count halt stopped

      stop_honest : (halt : Halt) (stopped : HasStopped g limit precheck halt c mid) → StopsHonest halt stopped
      stop_honest halt stopped =
          let stops = stopped.2 in
          let fit = all_fit stopped.1.bytes stopped.0 stopped.1.spelled in
          let none = nowhere stopped.0 stopped.1 in
          let safe = SafeThere g limit precheck c.store stopped.0 stops.count stops.text stops.state stops.run in
          let gone = walked base c.store stopped.0 fit none own stops.count stops.text stops.state stops.run in
          record {
            before = gone.each;
            found = none_read safe stops.state gone.calm;
            behind = λ d may.
                behind_honest safe halt stops.command (next_fit stopped.0 stops.count stops.command fit stops.next.next) (next_none stopped.0 stops.count stops.command none stops.next.next) stops.state stops.last
                stops.fails gone.calm d (subst (λ (x : V). g.may_leave x d) (sym stops.store) may);
            within = (
              gone.within,
              fail_honest safe halt stops.command (next_fit stopped.0 stops.count stops.command fit stops.next.next) (next_none stopped.0 stops.count stops.command none stops.next.next) stops.state stops.last
                  stops.fails gone.calm,
            );
          }

      abbrev RunIsHonest : (status : Status) → EndedScript g limit precheck c mid count status → Type 0
      RunIsHonest status ended =
          ScriptIsHonest g limit precheck c mid count status ended
          × ((d : Disk) → g.may_leave c.store' d → SafeAtEnd g limit precheck c mid count status ended d)
          × RoundsEscapeNone g limit precheck c mid count status ended

      memory_honest : (o : Untouched c mid ⊎ HasStopped g limit precheck halts.OutOfMemory c mid)
          → NoneEscapesWanting g limit precheck c mid count o × ((d : Disk) → g.may_leave c.store' d → SafeByWant g limit precheck c mid count o d)
          × WantEscapesNone g limit precheck c mid count o
      memory_honest (inl same) = (tt, (λ d may. tt), tt)
      memory_honest (inr stopped) = let stop = stop_honest halts.OutOfMemory stopped in (stop.before, stop.behind, stop.within)

      script_honest : (status : Status) (ended : EndedScript g limit precheck c mid count status) → RunIsHonest status ended
      script_honest Done ended =
          let ran = ended.2 in
          let safe = SafeThere g limit precheck c.store ended.0 (length ended.0) ran.text ran.state ran.run in
          let gone = walked base c.store ended.0 (all_fit ended.1.bytes ended.0 ended.1.spelled) (nowhere ended.0 ended.1) own (length ended.0) ran.text ran.state ran.run in
          ((gone.each, tt), (λ d may. none_in safe ran.state gone.calm d (subst (λ (x : V). g.may_leave x d) (sym ran.store) may)), gone.within)
      script_honest WriteFault ended =
          let script = ended.1.0 in
          let cut = ended.1.2 in
          let fit = all_fit ended.1.1.bytes script ended.1.1.spelled in
          let none = nowhere script ended.1.1 in
          let there = SafeThere g limit precheck c.store script cut.count cut.text cut.earlier cut.ran in
          let safe = SafeCut g limit precheck c.store script c.taken mid c.store' cut in
          let gone = walked base c.store script fit none own cut.count cut.text cut.earlier cut.ran in
          let calm : Calm safe cut.state =
          calm_step there cut.command (next_fit script cut.count cut.command fit cut.next.next) (next_none script cut.count cut.command none cut.next.next) cut.earlier cut.more cut.state cut.steps gone.calm in (
            (gone.each, left_none there cut.command cut.earlier cut.more cut.state cut.steps gone.calm),
            λ d may. none_in safe cut.state calm d (subst (λ (x : V). g.may_leave x d) (sym cut.store) may),
            (
              gone.within,
              step_honest there cut.command (next_fit script cut.count cut.command fit cut.next.next) (next_none script cut.count cut.command none cut.next.next) cut.earlier cut.more cut.state cut.steps
                  gone.calm,
            ),
          )
      script_honest StoreFault ended = let stop = stop_honest halts.StoreFault ended in ((stop.before, tt), stop.behind, stop.within)
      script_honest (BadStore file at) ended = let stop = stop_honest (halts.BadStore file at) ended in ((stop.before, stop.found), stop.behind, stop.within)
      script_honest Unformatted ended = let stop = stop_honest halts.Unformatted ended in ((stop.before, stop.found), stop.behind, stop.within)
      script_honest Formatted ended = let stop = stop_honest halts.Formatted ended in ((stop.before, tt), stop.behind, stop.within)
      script_honest StoreUnsteady ended = let stop = stop_honest halts.StoreUnsteady ended in ((stop.before, tt), stop.behind, stop.within)
      script_honest RecordTooLong ended = let stop = stop_honest halts.RecordTooLong ended in ((stop.before, tt), stop.behind, stop.within)
      script_honest OutOfMemory ended = let memory = memory_honest ended in ((memory.0, tt), memory.1, memory.2)
      script_honest BadWords ended = ((tt, tt), (λ d may. tt), tt)
      script_honest (BadScript line kind) ended = ((tt, tt), (λ d may. tt), tt)
      script_honest TooLong ended = ((tt, tt), (λ d may. tt), tt)
      script_honest ReadFault ended = ((tt, tt), (λ d may. tt), tt)
      script_honest (LogFull end most) ended = ((tt, tt), (λ d may. tt), tt)
      script_honest TooSmall ended = ((tt, tt), (λ d may. tt), tt)
      script_honest NotLoaded ended = ((tt, tt), (λ d may. tt), tt)

  -- ---- a generated script
  module _ (clients size number : ℕ) (within : AreWithin clients size) (c : Course V) (base : List Record) (own : IsOwn g base c.store) where
    blocks_fit : AreBlocks (map told_by (generated clients size number))
    blocks_fit = right_blocks (generated clients size number) (right_round clients size number within)

    pub calm_made : (made : Core (Fuse V)) → IsMade g 67108864 clients size c.store made → Calm AnyFiles (Up made)
    calm_made made is_made =
        calm_step 67108864 false AnyFiles (Size (index_regions clients size) (heap_regions clients size)) (right_sizes clients size within) refl is_made.first [] (Up made) is_made.steps
        (calm_down base is_made.first c.store is_made.down own)

    pub calm_played : (ends : Option Halt) (run : IsPlayed g 67108864 clients size number c.store ends) → Calm AnyFiles (Up run.played)
    calm_played ends run =
        calm_step 67108864 false AnyFiles (Round (generated clients size number)) blocks_fit (blocks_none number size clients 1) (Up run.made) run.round.text (Up run.played) (run.played, run.round.round, refl)
        (calm_made run.made run.is_made)

    -- nobody wrote astray in the round
    pub played_unpoked : (ends : Option Halt) (run : IsPlayed g 67108864 clients size number c.store ends) → NonePoked run.played.regions.items
    played_unpoked ends run = none_poked run.played (calm_played ends run).none

    pub calm_crashed : (run : IsCrashed g 67108864 clients size number c.store) → Calm AnyFiles run.crashed
    calm_crashed run = calm_step 67108864 false AnyFiles (Crash 0) tt refl (Up run.run.played) run.text run.crashed run.crash (calm_played None run.run)

    pub played_honest : (ends : Option Halt) (run : IsPlayed g 67108864 clients size number c.store ends)
        → PlayedIsHonest g clients size number c.store ends run
    played_honest ends run = none_in AnyFiles (Up run.played) (calm_played ends run)

    pub found_honest : (core : Core (Fuse V)) (run : GeneratorFinds g clients size number c.store core)
        → FoundIsHonest g clients size number c.store core run
    found_honest core run =
        let found = calm_step 67108864 false AnyFiles Restart tt refl run.run.crashed run.text (Up core) (inl run.restart) (calm_crashed run.run) in
        (played_honest None run.run.run, none_in AnyFiles (Up core) found)

    stops_honest : (halt : Halt) (stops : GeneratorStops g clients size number halt c.store c.store')
        → GeneratorStopIsHonest g clients size number halt c.store c.store' stops
    stops_honest halt (inl first) = tt
    stops_honest halt (inr (inl crash)) = played_honest None crash.0
    stops_honest halt (inr (inr restart)) = played_honest None restart.0.run

    -- nor in one that was cut
    pub cut_unpoked : (made : Core (Fuse V)) → IsMade g 67108864 clients size c.store made → (f : Fuse V)
        → (cut : Played g false (map told_by (generated clients size number)) made f) → NonePoked cut.core.regions.items
    cut_unpoked made is_made f cut =
        let calm = calm_made made is_made in
        round_unpoked g false cut.whole calm.base (map told_by (generated clients size number)) made cut.core cut.transcripts
        (are_quiet (generated clients size number) blocks_fit.placed (blocks_none number size clients 1)) cut.plays calm.point (none_poked made calm.none)

    cut_honest : (made : Core (Fuse V)) (f : Fuse V) (cut : IsCutRound g (map told_by (generated clients size number)) made f) → Calm AnyFiles (Up made)
        → CutIsHonest g clients size number made f cut
    cut_honest made f (inl none) calm = none_in AnyFiles (Up made) calm
    cut_honest made f (inr cut) calm =
        let played = cut.0 in
        round_honest g false played.whole calm.base (map told_by (generated clients size number)) made played.core played.transcripts
        (are_quiet (generated clients size number) blocks_fit.placed (blocks_none number size clients 1)) played.longer played.plays calm.point (none_poked made calm.none)

    pub loss_honest : (lost : GeneratorLoses g clients size number c.store c.store')
        → LossIsHonest g clients size number c.store c.store' lost
    loss_honest lost = cut_honest lost.made lost.left lost.cut (calm_made lost.made lost.is_made)

    fault_honest : (f : GeneratorFails g clients size number c.store c.store')
        → FaultIsHonest g clients size number c None 0 f
    fault_honest (inl stops) = stops_honest halts.StoreFault stops
    fault_honest (inr (inl refused)) = played_honest (Some halts.StoreFault) refused.run
    fault_honest (inr (inr none)) = played_honest None none.run.run

    want_honest : (w : GeneratorWants g clients size number c.store c.store')
        → WantIsHonest g clients size number c None 0 w
    want_honest (inl same) = tt
    want_honest (inr (inl (inl stops))) = stops_honest halts.OutOfMemory stops
    want_honest (inr (inl (inr lost))) = loss_honest lost
    want_honest (inr (inr (inl refused))) = played_honest (Some halts.OutOfMemory) refused.run
    want_honest (inr (inr (inr last))) = found_honest last.0 last.1

    generator_honest : (mid : Option (List ℕ)) (count : ℕ) (status : Status) (ended : EndedGenerator g clients size number c mid count status)
        → GeneratorIsHonest g clients size number c mid count status ended
    generator_honest mid count Done ended = found_honest ended.1.found ended.1.run
    generator_honest mid count WriteFault ended = found_honest ended.1.found ended.1.run
    generator_honest mid count StoreFault ended = fault_honest ended.0
    generator_honest mid count (BadStore file at) ended = stops_honest (halts.BadStore file at) ended.0
    generator_honest mid count Unformatted ended = stops_honest halts.Unformatted ended.0
    generator_honest mid count Formatted ended = stops_honest halts.Formatted ended.0
    generator_honest mid count StoreUnsteady ended = stops_honest halts.StoreUnsteady ended.0
    generator_honest mid count RecordTooLong ended = stops_honest halts.RecordTooLong ended.0
    generator_honest mid count (LogFull end most) ended = played_honest (Some (halts.LogFull end most)) ended.0.run
    generator_honest mid count OutOfMemory ended = want_honest ended.0
    generator_honest mid count BadWords ended = tt
    generator_honest mid count (BadScript line kind) ended = tt
    generator_honest mid count TooLong ended = tt
    generator_honest mid count ReadFault ended = tt
    generator_honest mid count TooSmall ended = tt
    generator_honest mid count NotLoaded ended = tt

  -- ---- each task of the words
  honest : (c : Course V) (base : List Record) → IsOwn g base c.store → (words : List (List ℕ)) (mid : Option (List ℕ)) (count : ℕ) (task : Option Task) → meaning words ≡ task → PokesNowhere task c
      → (status : Status) (ended : Ended g task c mid count status) → AreHonest g c mid count task status ended
  honest c base own words mid count None is nowhere status ended = tt
  honest c base own words mid count (Some Dump) is nowhere status ended = tt
  honest c base own words mid count (Some Show) is nowhere status ended = tt
  honest c base own words mid count (Some Standing) is nowhere status ended = tt
  honest c base own words mid count (Some (Load index heap)) is nowhere status ended = tt
  honest c base own words mid count (Some (Run precheck limit)) is nowhere status ended = script_honest limit precheck c mid count base own nowhere status ended
  honest c base own words mid count (Some (Generate clients size number)) is nowhere status ended =
      let range : IsInRange (Generate clients size number) = in_range words (Generate clients size number) is in
      generator_honest clients size number
      (record { some_clients = range.0.0; few_clients = range.0.1; some_transactions = range.1.0; few_transactions = range.1.1 }) c base own mid count status ended

  pub runs_are_honest : RunsAreHonest g
  runs_are_honest words c status base own nowhere e = honest c base own words e.mid e.count (meaning words) refl nowhere status e.ended
