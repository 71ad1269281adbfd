-- What a generated run writes follows from its three numbers.
use Rattle.std.proofs.Common.{◌≡◌, ◌≤◌, ◌-◌, ℕ, zero, suc, Bool, true, false, List, [], ◌∷◌, ◌++◌, length, map, take, Option, Some, None, refl, sym, ◌∙◌, ap, subst, arith, inl, inr, append-nil, nat_cmp}
use Rattle.std.specs.FinMap.{get-empty}
use Rattle.std.specs.Prelude.{IfSome, is_some, slice_get}
use Rattle.dali_resume.proofs.InterruptedLemmas.Found.{crash_is_found}
use Rattle.dali_resume.proofs.InterruptedLemmas.Places.{start_has_place}
use Rattle.dali_resume.specs.Interrupted.Found.{FindsIt}
use Rattle.dali_arguments.specs.Laws.{IsInRange}
use Rattle.dali_arguments.specs.Meaning.{meaning}
use Rattle.dali_arguments.specs.declared.task.Task.{Task}
use Rattle.dali_arguments.specs.declared.task.Task.TheVariants.{Run, Generate, Dump, Show, Status as Standing, Load}
use Rattle.dali_arguments.proofs.InRange.{in_range}
use Rattle.dali_run.proofs.Made.{restart_begins}
use Rattle.dali_run.proofs.Shown.{right_at}
use Rattle.dali_resume.proofs.InterruptedLemmas.Stages.{same_sizes}
use Rattle.dali_crash.specs.Checkpoints.{Point}
use Rattle.dali_crash.specs.CrashLogs.{IsUnpoked, cut_to}
use Rattle.dali_crash.specs.Restarts.{HasRightBase}
use Rattle.dali_crash.specs.Traces.{bases_of, start_point}
use Rattle.dali_crash.proofs.CrashLogs.{cut_parts}
use Rattle.dali_crash.proofs.Honest.{unpoked_escapes_none}
use Rattle.dali_crash.proofs.Restarts.{crash_is_history}
use Rattle.dali_crash.proofs.Traces.{every_trace_is_right, trace_prefix}
use Rattle.dali_generator.specs.Generated.{AreWithin, generated, index_regions, heap_regions}
use Rattle.dali_generator.specs.Summary.{summary_of, summary_left}
use Rattle.dali_geometry.specs.Sizes.{Sizes}
use Rattle.dali_history.specs.History.{IsHistory}
use Rattle.dali_listing.specs.declared.Listed.{Listed}
use Rattle.dali_listing.specs.Listing.{IsListing, in_memory}
use Rattle.dali_fuse.specs.Fuse.{inner}
use Rattle.dali_fuse.specs.declared.fuse.Fuse.{Fuse}
use Rattle.dali_record.specs.declared.records.Call.{Call}
use Rattle.dali_record.specs.declared.records.Record.{Record}
use Rattle.dali_record.specs.Epochs.{Cut, Epoch, last_epoch}
use Rattle.dali_record.specs.Files.{Files}
use Rattle.dali_record.specs.Legal.{sizes_of as sizes_in}
use Rattle.dali_restart.specs.Formatted.{first_record}
use Rattle.dali_restart.specs.Restarting.{outcome, BeginsRun, Gives, GoesOnFrom}
use Rattle.dali_round.specs.Leads.{lines_in}
use Rattle.dali_served.specs.Free.{HasNoRows}
use Rattle.dali_served.specs.Served.{AllServed, HasServed, IsFront}
use Rattle.dali_served.specs.Generates.{calls_told}
use Rattle.dali_served.proofs.Generated.{generated_are_served}
use Rattle.dali_served.proofs.Law.{served_rounds}
use Rattle.dali_served.proofs.Summing.{summaries_follow}
use Rattle.dali_store.specs.Store.{Files as Disk}
use Rattle.dali_store.specs.declared.store.Store.{Ghosts}
use Rattle.dali_streams.specs.Streams.{Appends}
use Rattle.dali_runs.specs.Crashes.{NoneEscapes}
use Rattle.dali_runs.specs.Run.{Bases, RunsOn, log_in}
use Rattle.dali_region.specs.State.{RegionState}
use Rattle.dali_runs.specs.State.{CoreState, SystemState, log_after, row_of, stable}
use Rattle.dali_runs.specs.declared.causes.Cause.{Cause}
use Rattle.dali_runs.specs.declared.causes.Cause.TheVariants.{Damage, Store}
use Rattle.dali_crash.specs.Disks.Bridges.{TracedTo}
use Rattle.dali_crash.specs.Disks.Disks.{AllSpell, Spells}
use Rattle.dali_transcripts.specs.Transcripts.{Told as Blocks}
use Rattle.dali_transcripts.specs.World.{log_of}
use Rattle.dali_transcripts.specs.Clients.Said.{Transcribed}
use Rattle.dali_core.specs.declared.whole.Core.{Core}
use Rattle.dali_run.specs.declared.halt.Halt.{Halt}
use Rattle.dali_run.specs.declared.program.Program.{Program}
use Rattle.dali_run.specs.declared.program.Program.TheVariants.{Up, Down}
use Rattle.dali_run.specs.declared.status.Status.TheVariants.{Done}
use Rattle.dali_run.specs.Ends.{Course, Ended, EndedGenerator, GeneratorFinds, LastLine}
use Rattle.dali_run.specs.Generating.{fails_by_fuse, first_full, halt_of, halt_of_round, sum_of_keys}
use Rattle.dali_run.specs.Honest.{AreHonest, FoundIsHonest, NonePoked, PokesNowhere}
use Rattle.dali_run.specs.Program.{IsDown, store_of, told_in, leaves_in, faults_in, fused}
use Rattle.dali_run.specs.Steps.{Plays, Restarts, StepsSize}
use Rattle.dali_run.specs.Summaries.{SummaryDepends}
use Rattle.dali_run.specs.Survives.{IsOwn, IsPointOf, NoneEscapesAt}
use Rattle.dali_run.specs.Told.{told_by, sizes_of}
use Rattle.dali_run.proofs.Honest.{played_unpoked, runs_are_honest}
use Rattle.dali_run.proofs.Serves.{all_fit, are_told, one_each}
use Rattle.dali_run.proofs.Surviving.{no_words, no_heads, none_synced, none_escapes, own_same, size_point, tells_on, told_there}

-- ---- a round that ended nothing: its log had room, and nothing stopped it
ended_none : (full : Option Halt) (stop : Option Cause) (by_fuse : Bool) → halt_of full stop by_fuse ≡ None → (full ≡ None) × (stop ≡ None)
ended_none (Some halt) stop by_fuse e = absurd cc
ended_none None (Some Store) false e = absurd cc
ended_none None (Some Store) true e = absurd cc
ended_none None (Some (Damage region)) by_fuse e = absurd cc
ended_none None None by_fuse e = (refl, refl)

-- ---- the whole log of a run where nobody wrote astray is a history
take_whole : (L : List Record) → take (length L) L ≡ L
take_whole [] = refl
take_whole (r ∷ L) = ap (λ (l : List Record). r ∷ l) (take_whole L)

whole_history : (bases : Bases) (L : List Record) (c : CoreState) → RunsOn bases L c → HasRightBase bases c.system.sizes L → (last_epoch L).first ≤ length L → NonePoked c.regions → IsHistory L
whole_history bases L c runs right from none =
    let unpoked : IsUnpoked c = λ r g e. (none r g e, (runs.regions r g e).protected.none_missed (none r g e)) in
    let cuts : last_epoch (take (length L) L) ≡ cut_to (length L - (last_epoch L).first) (last_epoch L) = ap (λ (q : Cut). q.now) (cut_parts L (length L) from (omega arith)) in
    let safe : NoneEscapes (last_epoch (take (length L) L)) c =
    subst (λ (e : Epoch). NoneEscapes e c) (sym cuts) (unpoked_escapes_none bases L c (length L - (last_epoch L).first) runs unpoked) in
    subst (λ (K : List Record). IsHistory K) (take_whole L) (crash_is_history bases L c (length L) runs right from (omega arith) safe)

-- ---- the last line of such a run is empty
take_none : (n : ℕ) (xs : List ℕ) → xs ≡ [] → take n xs ≡ []
take_none zero xs e = refl
take_none (suc n) xs e = ap (take (suc n)) e

written : (before mid after : Option (List ℕ)) (text : List ℕ) (f g : ℕ) → Appends before text mid → LastLine mid Done after f g → Appends before text after
written (Some old) (Some new) after text f g e (inl all) = all.0 ∙ ap (λ (l : List ℕ). Some l) (append-nil new) ∙ e
written (Some old) (Some new) (Some last) text f g e (inr some) =
    ap (λ (l : List ℕ). Some l) (some.0.added ∙ (ap (λ (l : List ℕ). new ++ l) (take_none some.0.count [] refl) ∙ append-nil new)) ∙ e
written (Some old) (Some new) None text f g e (inr some) = absurd some.0
written (Some old) None after text f g e last = absurd cc
written None mid after text f g e last = by_last (subst (λ (o : Option (List ℕ)). LastLine o Done after f g) e last)
  where
    by_last : LastLine None Done after f g → after ≡ None
    by_last (inl all) = all.0
    by_last (inr some) = some.0

module _ {V : Type 0} (g : Ghosts V)
    (reads_now : (s : V) → IfSome (g.told s) (λ fs. g.may_leave s fs)) (counts_now : (s : V) (t : ℕ) (c : Disk) → t ≤ g.moment s → g.may_leave s c → g.left_since s t c) where
  -- ---- a database that was just made
  record IsFirst (s : Sizes) (core : Core (Fuse V)) : Type 0 where
    at : IsPointOf g (first_record s ∷ []) core
    log : at.start.log ≡ first_record s ∷ []
    point : at.point ≡ start_point at.start

  abbrev BeginsFirst : Sizes → Program V → Type 0
  BeginsFirst s (Up core) = IsFirst s core
  BeginsFirst s (Down store) = Unit {0}

  down_own : (base : List Record) (p : Program V) (store : V) → IsDown p store → IsOwn g base store → IsOwn g base (inner (store_of p))
  down_own base p store down own =
      own_same g base store (inner (store_of p)) (sym down.store_is ∙ ap (λ (q : Program V). inner (store_of q)) (sym down.down)) own

  first_of : (limit index heap : ℕ) (base : List Record) (old : Program V) (text : List ℕ) (core : Core (Fuse V)) → IsOwn g base (inner (store_of old))
      → StepsSize g limit index heap old text (Up core) → IsFirst (sizes_of index heap) core
  unfolding size_point
  first_of limit index heap base old text core own step =
      let s = sizes_of index heap in
      let first : IsFirst s step.core = record { at = size_point g reads_now counts_now limit index heap old (Up core) text own.0 step; log = refl; point = refl } in
      subst (BeginsFirst s) (sym step.up) first

  -- ---- its round
  module _ (clients size number : ℕ) (within : AreWithin clients size) where
    abbrev calls : ℕ → List (List Call)
    calls = calls_told clients size number

    abbrev blocks : List Blocks
    blocks = map told_by (generated clients size number)

    -- what a crash behind the round leaves
    record IsLeftBy (core : Core (Fuse V)) (c : Disk) : Type 0 where
      files : Files
      spells : Spells c files
      finds : FindsIt files
      history : IsHistory (log_in files)
      served : HasServed calls (log_in files)

    served_behind : (made played : Core (Fuse V)) (ts : List Transcribed) → IsFirst (sizes_of (index_regions clients size) (heap_regions clients size)) made → Plays g false true blocks made ts played
        → halt_of_round ts played.system.state.stop (fails_by_fuse made played) ≡ None → is_some (told_in g played.vault.store) ≡ true → NonePoked played.regions.items → NoneEscapesAt g played
        → (c : Disk) → leaves_in g played.vault.store c → IsLeftBy played c
    served_behind made played ts first plays ended tells quiet none c may =
        let s = sizes_of (index_regions clients size) (heap_regions clients size) in
        let a = first.at in
        let start = a.start in
        let led = plays start a.batches a.point a.begins in
        let stands = led.stands in
        let each : AllSpell (leaves_in g played.vault.store) (TracedTo start led.batches led.to) = told_there (told_in g played.vault.store) tells stands.at.vault.files in
        let one = each c may in
        let E = one.0 in
        let t = one.2 in
        let escapes : NoneEscapes (last_epoch (log_in E)) led.to.core = none_escapes (last_epoch (log_in E)) played.regions.items played.system.state led.to.core.vault led.to.core stands.at.regions (none c may led.to.core.vault E one.1) in
        let found = crash_is_found start t.first t.starts (start_has_place start t.first t.starts a.placed) t.steps led.to E t.trace escapes.seen in
        let right = (every_trace_is_right start t.first t.starts t.steps led.to E t.trace).right a.history escapes in
        let prefix = trace_prefix start t.first t.starts t.steps led.to E t.trace in
        let run = stands.at.vault.run.run in
        let w = led.round.world in
        let log : led.to.log ≡ log_of w = run.log ∙ led.round.log in
        let core : w.core ≡ led.to.core = led.round.core_is in
        let before : w.before ≡ first_record s ∷ [] =
        led.round.before_is ∙ (ap (λ (p : Point). log_after start.log p.core.system) first.point ∙ (append-nil start.log ∙ first.log)) in
        let begun : length start.log ≤ stable led.to.core = omega (arith, run.run.first) in
        let runs : RunsOn (bases_of start) led.to.log led.to.core = subst (λ (K : List Record). RunsOn (bases_of start) K led.to.core) (sym run.log) run.run.runs in
        let from : (last_epoch led.to.log).first ≤ length led.to.log =
        omega (arith, subst (λ (K : List Record). (last_epoch K).first ≤ length start.log) (sym run.log) run.run.began, begun, run.run.frame, run.run.taken, ap length run.log) in
        let calm : NonePoked led.to.core.regions = λ r x there. quiet r x (ap (λ (l : List RegionState). slice_get l r) (sym stands.at.regions) ∙ there) in
        let whole : IsHistory (log_of w) =
        subst (λ (K : List Record). IsHistory K) log (whole_history (bases_of start) led.to.log led.to.core runs (right_at start led.batches led.to a.history E t) from calm) in
        let rows : HasNoRows a.point.core = λ n. ap (λ (p : Point). row_of p.core.system n) first.point ∙ get-empty nat_cmp n in
        let two = ended_none (first_full ts) played.system.state.stop (fails_by_fuse made played) ended in
        let all : AllServed (map lines_in ts) =
        generated_are_served clients size number start.log a.point.core led.to.core blocks (map lines_in ts) (map (λ (x : Transcribed). x.receipts) ts) within led.round before rows whole
        (are_told clients size number) (one_each clients size number) (ap (λ (z : SystemState). z.stop) stands.at.system ∙ two.1) (all_fit ts two.0) in
        let front : IsFront w (log_in E) = record {
          count = prefix.count;
          is = prefix.log ∙ ap (take prefix.count) log;
          begun = omega (arith, prefix.flushed, begun, ap length before, ap length first.log);
          flushed = subst (λ (d : CoreState). stable d ≤ prefix.count) (sym core) prefix.flushed;
        } in
        record {
          files = E;
          spells = one.1;
          finds = found.0;
          history = right.restarts.history;
          served =
              served_rounds false start.log a.point.core led.to.core blocks (map lines_in ts) (map (λ (x : Transcribed). x.receipts) ts) calls s.index s.heap (log_in E) led.round before
              (are_told clients size number) all front right.restarts.history.legal;
        }

    -- ---- what is found of it
    abbrev Sums : Core (Fuse V) → Type 0
    Sums core = (rows : List Listed) → IsListing core.system.state.sizes (in_memory core.regions.items) rows → summary_of clients size (length rows) (sum_of_keys rows) ≡ summary_left clients size number

    abbrev SumsIn : Program V → Type 0
    SumsIn (Up core) = Sums core
    SumsIn (Down store) = Unit {0}

    same_in : (L M : List Record) → GoesOnFrom L M → sizes_in M ≡ sizes_in L
    same_in L M (inl same) = ap sizes_in same
    same_in L M (inr closed) = ap sizes_in closed ∙ same_sizes L

    sums_found : (limit : ℕ) (old : Program V) (text : List ℕ) (found played : Core (Fuse V)) → is_some (g.told (inner (store_of old))) ≡ true
        → ((c : Disk) → g.may_leave (inner (store_of old)) c → IsLeftBy played c)
        → (step : Restarts g limit old text (Up found)) → Sums found
    sums_found limit old text found played tells left step =
        subst SumsIn (sym step.up) (by_told (g.told (inner (store_of old))) tells (reads_now (inner (store_of old))) step.gives step.begins)
      where
        from : (fs : Disk) → IsLeftBy played fs → Gives fs (outcome step.core.regions.items step.report)
            → BeginsRun (fused g) limit fs step.core.regions.items step.core.system.state step.core.vault → Sums step.core
        from fs has gives runs rows listing =
            let o = gives has.files has.spells has.finds in
            let expected = o.records has.history in
            let at = restart_begins (fused g) limit fs has.files step.core.regions.items step.core.system step.core.vault step.fresh step.whole runs has.spells has.finds
            no_words no_heads none_synced in
            let sizes : step.core.system.state.sizes ≡ sizes_in (log_in has.files) =
            ap (λ (y : SystemState). y.sizes) (sym at.begins.stands.at.system) ∙ same_in (log_in has.files) at.start.log at.log in
            summaries_follow clients size number (log_in has.files) expected.map (sizes_in (log_in has.files)) (in_memory step.core.regions.items) rows within has.served expected.expected_is expected.records_are
            (subst (λ s. IsListing s (in_memory step.core.regions.items) rows) sizes listing)

        by_told : (o : Option Disk) → is_some o ≡ true → IfSome o (λ fs. g.may_leave (inner (store_of old)) fs) → IfSome o (λ fs. Gives fs (outcome step.core.regions.items step.report))
            → IfSome o (λ fs. BeginsRun (fused g) limit fs step.core.regions.items step.core.system.state step.core.vault) → Sums step.core
        by_told None is may gives runs = absurd cc
        by_told (Some fs) is may gives runs = from fs (left fs may) gives runs

    sums : (base : List Record) (start : V) (found : Core (Fuse V)) → IsOwn g base start
        → (run : GeneratorFinds g clients size number start found)
        → FoundIsHonest g clients size number start found run → NonePoked run.run.run.played.regions.items → Sums found
    sums base start found own run honest quiet =
        let p = run.run.run in
        let m = p.is_made in
        let first = first_of 67108864 (index_regions clients size) (heap_regions clients size) base m.first [] p.made (down_own base m.first start m.down own) m.steps in
        let r = p.round.round in
        let tells : is_some (told_in g p.played.vault.store) ≡ true = tells_on (told_in g p.made.vault.store) (told_in g p.played.vault.store) r.longer first.at.tells in
        let crash = run.run.crash in
        let store : inner (store_of run.run.crashed) ≡ crash.store = ap (λ (q : Program V). inner (store_of q)) crash.down.down ∙ crash.down.store_is in
        sums_found 67108864 run.run.crashed run.text found p.played
        (ap (λ (v : V). is_some (g.told v)) store ∙ (crash.left.tells ∙ tells))
        (λ c may. served_behind p.made p.played r.transcripts first r.plays p.round.is tells quiet honest.0 c (crash.left.crash c (subst (λ (v : V). g.may_leave v c) store may)))
        run.restart

  -- ---- the words
  module _ (c : Course V) (base : List Record) (own : IsOwn g base c.store) where
    generated_text : (clients size number : ℕ) → AreWithin clients size → (mid : Option (List ℕ)) (count : ℕ) (ended : EndedGenerator g clients size number c mid count Done)
        → FoundIsHonest g clients size number c.store ended.1.found ended.1.run → Appends c.taken (summary_left clients size number) mid
    generated_text clients size number within mid count ended honest =
        subst (λ text. Appends c.taken text mid) (ended.1.printed ∙ sums clients size number within base c.store ended.1.found own ended.1.run honest
        (played_unpoked g reads_now counts_now clients size number within c base own None ended.1.run.run.run) ended.1.rows ended.1.listing) ended.2.1

    of_task : (words : List (List ℕ)) (task : Option Task) → meaning words ≡ task → (clients size number : ℕ) → task ≡ Some (Generate clients size number)
        → (mid : Option (List ℕ)) (count : ℕ) (ended : Ended g task c mid count Done)
        → AreHonest g c mid count task Done ended → Appends c.taken (summary_left clients size number) mid
    of_task words None is clients size number same mid count ended honest = absurd cc
    of_task words (Some Dump) is clients size number same mid count ended honest = absurd cc
    of_task words (Some Show) is clients size number same mid count ended honest = absurd cc
    of_task words (Some Standing) is clients size number same mid count ended honest = absurd cc
    of_task words (Some (Load index heap)) is clients size number same mid count ended honest = absurd cc
    of_task words (Some (Run precheck limit)) is clients size number same mid count ended honest = absurd cc
    of_task words (Some (Generate a b n)) is clients size number same mid count ended honest =
        let range : IsInRange (Generate a b n) = in_range words (Generate a b n) is in
        let text = generated_text a b n (record { some_clients = range.0.0; few_clients = range.0.1; some_transactions = range.1.0; few_transactions = range.1.1 }) mid count ended honest in
        let one : a ≡ clients = cc in
        let two : b ≡ size = cc in
        let three : n ≡ number = cc in
        subst (λ x. Appends c.taken (summary_left clients size x) mid) three (subst (λ x. Appends c.taken (summary_left clients x n) mid) two (subst (λ x. Appends c.taken (summary_left x b n) mid) one text))

  pub summary_depends : SummaryDepends g
  summary_depends words c base clients size number is own e =
      let honest = runs_are_honest g reads_now counts_now words c Done base own (subst (λ (task : Option Task). PokesNowhere task c) (sym is) tt) e in
      written c.taken e.mid c.taken' (summary_left clients size number) e.count c.write_faults'
      (of_task c base own words (meaning words) refl clients size number is e.mid e.count e.ended honest) e.last
