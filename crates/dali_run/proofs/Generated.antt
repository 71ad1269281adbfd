-- A generated script that was run to some place.
use Rattle.std.proofs.Common.{◌≡◌, ◌∙◌, ℕ, Bool, true, false, List, [], ◌∷◌, Option, Some, None, Result, Ok, Err, length, map, refl, sym, ap, subst}
use Rattle.std.proofs.Common.{inl, inr}
use Rattle.std.specs.Prelude.{IfErr, OnOk, nat_lt}
use Rattle.dali_transcripts.specs.Clients.Said.{Transcribed}
use Rattle.dali_generator.specs.Generated.{generated, index_regions, heap_regions}
use Rattle.dali_generator.specs.Summary.{summary_of}
use Rattle.dali_listing.specs.declared.Listed.{Listed}
use Rattle.dali_listing.specs.Listing.{IsListing, in_memory}
use Rattle.dali_fuse.specs.Fuse.{inner}
use Rattle.dali_fuse.specs.declared.fuse.Fuse.{Fuse}
use Rattle.dali_round.specs.Leads.{lines_in}
use Rattle.dali_script.specs.declared.commands.Command.{Command}
use Rattle.dali_script.specs.declared.commands.Command.TheVariants.{Size, Crash, Restart}
use Rattle.dali_store.specs.declared.store.Store.{Ghosts}
use Rattle.dali_streams.specs.Streams.{Appends}
use Rattle.dali_streams.specs.declared.streams.Sink.{Ghosts as SinkGhosts}
use Rattle.dali_streams.specs.declared.streams.Source.{Ghosts as SourceGhosts}
use Rattle.dali_runs.specs.declared.causes.Cause.{Cause}
use Rattle.dali_runs.specs.declared.causes.Cause.TheVariants.{Damage, Store}
use Rattle.dali_transcripts.specs.Transcripts.{Told}
use Rattle.dali_transcripts.specs.Words.{Said, Refused, StoppedBy}
use Rattle.dali_core.specs.Cores.{IsNoShorter}
use Rattle.dali_core.specs.declared.whole.Core.{Core}
use Rattle.dali_run.specs.declared.halt.Halt.{Halt}
use Rattle.dali_run.specs.declared.halt.Halt.TheVariants.{BadWords, BadScript, TooLong, ReadFault, WriteFault, StoreFault, BadStore, Unformatted, Formatted, LogFull, TooSmall, NotLoaded, StoreUnsteady, RecordTooLong, OutOfMemory}
use Rattle.dali_run.specs.declared.program.Program.{Program}
use Rattle.dali_run.specs.declared.program.Program.TheVariants.{Up, Down}
use Rattle.dali_run.specs.Ends.{Course, EndedGenerator, Generates, course}
use Rattle.dali_run.specs.Fails.{Fails, Played}
use Rattle.dali_run.specs.Generating.{EndedBy, FailsIn, IsCrashed, IsCutRound, IsFound, IsMade, IsPlayed, IsRoundOf, NotRestarted, RoundStops, fails_by_fuse, first_full, full_among, full_in, halt_of, halt_of_round, or_else, sum_of_keys}
use Rattle.dali_run.specs.Program.{IsDown, PlacesIn, store_of, told_in}
use Rattle.dali_run.specs.Halts.{status_in, status_of}
use Rattle.dali_run.specs.Steps.{Plays, Restarts, RightWithin, StepsCrash, StepsRestart, StepsSize}
use Rattle.dali_run.specs.Stops.{GeneratorEnds, GeneratorHalts}
use Rattle.dali_run.specs.Texts.{round_lines}
use Rattle.dali_run.specs.Told.{told_by}

-- ---- what ends a run behind its round
abbrev MayEnd : Halt → Type 0
MayEnd StoreFault = Unit {0}
MayEnd (LogFull end most) = Unit {0}
MayEnd OutOfMemory = Unit {0}
MayEnd _ = ⊥

abbrev EndsNone : Option Halt → Type 0
EndsNone None = Unit {0}
EndsNone (Some halt) = MayEnd halt

in_line : (said : Said) → EndsNone (full_in said)
in_line (Refused act (StoppedBy cause)) = tt
in_line _ = tt

in_either : (first later : Option Halt) → EndsNone first → EndsNone later → EndsNone (or_else first later)
in_either (Some halt) later f l = f
in_either None later f l = l

in_lines : (lines : List Said) → EndsNone (full_among lines)
in_lines [] = tt
in_lines (said ∷ later) = in_either (full_in said) (full_among later) (in_line said) (in_lines later)

in_all : (ts : List Transcribed) → EndsNone (first_full ts)
in_all [] = tt
in_all (t ∷ later) = in_either (full_among (lines_in t)) (first_full later) (in_lines (lines_in t)) (in_all later)

by_halt : (full : Option Halt) (stop : Option Cause) (by_fuse : Bool) (halt : Halt) → EndsNone full → halt_of full stop by_fuse ≡ Some halt → MayEnd halt
by_halt (Some first) stop by_fuse halt may is = let same : first ≡ halt = cc in subst MayEnd same may
by_halt None (Some Store) false halt may is = let same : StoreFault ≡ halt = cc in subst MayEnd same tt
by_halt None (Some Store) true halt may is = let same : OutOfMemory ≡ halt = cc in subst MayEnd same tt
by_halt None (Some (Damage region)) by_fuse halt may is = let same : OutOfMemory ≡ halt = cc in subst MayEnd same tt
by_halt None None by_fuse halt may is = absurd (cc)

may_end : (ts : List Transcribed) (stop : Option Cause) (by_fuse : Bool) (halt : Halt) → halt_of_round ts stop by_fuse ≡ Some halt → MayEnd halt
may_end ts stop by_fuse halt is = by_halt (first_full ts) stop by_fuse halt (in_all ts) is

pub fused : (x y a b : ℕ) → x ≡ a → y ≡ b → nat_lt x y ≡ nat_lt a b
fused x y a b xa yb = cc

module _ {V : Type 0} (g : Ghosts V) where
  plays_so : (blocks blocks' : List Told) (c d : Core (Fuse V)) (ts : List Transcribed) (precheck : Bool) → precheck ≡ false → blocks' ≡ blocks
      → Plays g precheck true blocks' c ts d → Plays g false true blocks c ts d
  plays_so blocks blocks' c d ts precheck unchecked same plays =
      subst (λ (bs : List Told). Plays g false true bs c ts d) same (subst (λ (b : Bool). Plays g b true blocks' c ts d) unchecked plays)

  pub is_round : (blocks blocks' : List Told) (c d : Core (Fuse V)) (ts ts' : List Transcribed) (stop : Option Cause) (by_fuse : Bool) (ends result : Option Halt) (precheck : Bool)
      → precheck ≡ false → blocks' ≡ blocks → Plays g precheck true blocks' c ts d → IsNoShorter (told_in g) c.vault d.vault
      → RightWithin g c d → PlacesIn g d → ts' ≡ ts → stop ≡ d.system.state.stop → by_fuse ≡ fails_by_fuse c d → result ≡ halt_of_round ts' stop by_fuse → result ≡ ends → IsRoundOf g blocks c ends d
  is_round blocks blocks' c d ts ts' stop by_fuse ends result precheck unchecked same plays longer moments places read stopped fused computed is = record {
    text = round_lines blocks (map lines_in ts);
    round = record { transcripts = ts; plays = plays_so blocks blocks' c d ts precheck unchecked same plays; longer = longer; moments = moments; places = places; printed = refl };
    is = ap (λ (s : Option Cause). halt_of_round ts s (fails_by_fuse c d)) (sym stopped) ∙ (ap (λ (b : Bool). halt_of_round ts stop b) (sym fused) ∙ (ap (λ (l : List Transcribed). halt_of_round l stop by_fuse) (sym read) ∙ (sym computed ∙ is)));
  }

  cut_so : (blocks blocks' : List Told) (c : Core (Fuse V)) (f : Fuse V) (precheck : Bool) → precheck ≡ false → blocks' ≡ blocks
      → (played : Played g precheck blocks' c f) × (played.whole ≡ false) → (played : Played g false blocks c f) × (played.whole ≡ false)
  cut_so blocks blocks' c f precheck unchecked same cut =
      subst (λ (bs : List Told). (played : Played g false bs c f) × (played.whole ≡ false)) same
      (subst (λ (b : Bool). (played : Played g b blocks' c f) × (played.whole ≡ false)) unchecked cut)

  pub had_no_memory : (blocks blocks' : List Told) (c : Core (Fuse V)) (f : Fuse V) (precheck : Bool) (first halt : Halt) (end : V) → precheck ≡ false → blocks' ≡ blocks
      → (played : Played g precheck blocks' c f) × (played.whole ≡ false) → first ≡ OutOfMemory → halt ≡ first → end ≡ inner f
      → RoundStops g blocks c halt end
  had_no_memory blocks blocks' c f precheck first halt end unchecked same cut wanting so stored =
      inr (f, inr (cut_so blocks blocks' c f precheck unchecked same cut), so ∙ wanting, sym stored)

module _ {V : Type 0} (g : Ghosts V) where
  -- ---- what the calls say, in the words of a generated script
  pub fails_in : (halt halt' : Halt) (command command' : Command) (old : Program V) (f : Fuse V) (end : V) (precheck : Bool) → precheck ≡ false → command ≡ command'
      → Fails g precheck halt command old f → halt' ≡ halt → end ≡ inner f
      → FailsIn g halt' command' old end
  fails_in halt halt' command command' old f end precheck unchecked renamed fails same stored = record {
    last = f;
    fails = subst (λ (h : Halt). Fails g false h command' old f) (sym same)
        (subst (λ (x : Command). Fails g false halt x old f) renamed
        (subst (λ (b : Bool). Fails g b halt command old f) unchecked fails));
    store = sym stored;
  }

  pub is_made : (limit clients size : ℕ) (start : V) (made : Core (Fuse V)) (first new : Program V) (index heap : ℕ) (text : List ℕ) → IsDown first start
      → index ≡ index_regions clients size → heap ≡ heap_regions clients size → new ≡ Up made
      → StepsSize g limit index heap first text new
      → IsMade g limit clients size start made
  is_made limit clients size start made first new index heap text down is_index is_heap up steps = record {
    first = first;
    down = down;
    steps = subst (λ (t : List ℕ). StepsSize g limit (index_regions clients size) (heap_regions clients size) first t (Up made)) steps.silent
        (subst (λ (p : Program V). StepsSize g limit (index_regions clients size) (heap_regions clients size) first text p) up
        (subst (λ (h : ℕ). StepsSize g limit (index_regions clients size) h first text new) is_heap
        (subst (λ (i : ℕ). StepsSize g limit i heap first text new) is_index steps)));
  }

  abbrev pub is_played : (limit clients size number : ℕ) (start : V) (made played : Core (Fuse V)) (blocks : List Told) → blocks ≡ map told_by (generated clients size number)
      → IsMade g limit clients size start made → IsRoundOf g blocks made None played
      → IsPlayed g limit clients size number start None
  is_played limit clients size number start made played blocks same is_made round = record {
    made = made;
    is_made = is_made;
    played = played;
    round = subst (λ (bs : List Told). IsRoundOf g bs made None played) same round;
  }

  abbrev pub is_crashed : (limit clients size number : ℕ) (start : V) (made played : Core (Fuse V)) (blocks : List Told) (given : ℕ) (crashed : Program V) (text : List ℕ) → given ≡ limit → blocks ≡ map told_by (generated clients size number)
      → IsMade g given clients size start made → IsRoundOf g blocks made None played → StepsCrash g given 0 (Up played) text crashed
      → IsCrashed g limit clients size number start
  is_crashed limit clients size number start made played blocks given crashed text same told is_made round crash = record {
    run = is_played limit clients size number start made played blocks told (subst (λ (l : ℕ). IsMade g l clients size start made) same is_made) round;
    text = text;
    crashed = crashed;
    crash = subst (λ (l : ℕ). StepsCrash g l 0 (Up played) text crashed) same crash;
  }

  pub restarts : (limit : ℕ) (old new : Program V) (text : List ℕ) (core : Core (Fuse V)) → new ≡ Up core
      → StepsRestart g limit old text new
      → (text : List ℕ) × Restarts g limit old text (Up core)
  restarts limit old new text core up (inl found) = (text, subst (λ (p : Program V). Restarts g limit old text p) up found)
  restarts limit old new text core up (inr stops) = let clash : Up core ≡ Down stops.store = sym up ∙ stops.down in absurd (cc)

  pub not_restarted : (limit : ℕ) (old new : Program V) (text : List ℕ) (f : Fuse V) (halt : Halt) (end : V) → new ≡ Down f
      → StepsRestart g limit old text new → halt ≡ StoreFault → end ≡ inner f
      → NotRestarted g limit old halt end
  not_restarted limit old new text f halt end down (inl found) same stored = let clash : Down f ≡ Up found.core = sym down ∙ found.up in absurd (cc)
  not_restarted limit old new text f halt end down (inr stops) same stored = inr (text, new, stops, same, ap (λ (p : Program V). inner (store_of p)) down ∙ sym stored)

module _ {V : Type 0} (g : Ghosts V) (clients size number : ℕ) where
  abbrev pub EndsSo : Halt → V → V → Type 0
  EndsSo = GeneratorEnds g clients size number

  -- no command ends a run so
  abbrev EndsIn : Halt → V → V → Type 0
  EndsIn = EndedBy g 67108864 clients size number

  never_full : (place most : ℕ) (start end : V) → EndsIn (LogFull place most) start end → ⊥
  never_full place most start end (inl first) = first.2.fails
  never_full place most start end (inr (inl crash)) = crash.1.fails
  never_full place most start end (inr (inr restart)) = restart.1.fails

  -- a command ended the run
  pub ends_by : (halt : Halt) (start end : V) → EndedBy g 67108864 clients size number halt start end → EndsSo halt start end
  ends_by StoreFault start end by = inl by
  ends_by OutOfMemory start end by = inr (inl (inl by))
  ends_by (LogFull place most) start end by = absurd (never_full place most start end by)
  ends_by BadWords start end by = by
  ends_by (BadScript line kind) start end by = by
  ends_by TooLong start end by = by
  ends_by ReadFault start end by = by
  ends_by WriteFault start end by = by
  ends_by (BadStore file at) start end by = by
  ends_by Unformatted start end by = by
  ends_by Formatted start end by = by
  ends_by StoreUnsteady start end by = by
  ends_by RecordTooLong start end by = by
  ends_by TooSmall start end by = by
  ends_by NotLoaded start end by = by

  -- what the round left ended the run
  refused : (halt : Halt) (start end : V) (run : IsPlayed g 67108864 clients size number start (Some halt)) → MayEnd halt
      → inner run.played.vault.store ≡ end → EndsSo halt start end
  refused StoreFault start end run may same = inr (inl (record { run = run; store = same }))
  refused OutOfMemory start end run may same = inr (inr (inl (record { run = run; store = same })))
  refused (LogFull place most) start end run may same = record { run = run; store = same }
  refused BadWords start end run may same = absurd may
  refused (BadScript line kind) start end run may same = absurd may
  refused TooLong start end run may same = absurd may
  refused ReadFault start end run may same = absurd may
  refused WriteFault start end run may same = absurd may
  refused (BadStore file at) start end run may same = absurd may
  refused Unformatted start end run may same = absurd may
  refused Formatted start end run may same = absurd may
  refused StoreUnsteady start end run may same = absurd may
  refused RecordTooLong start end run may same = absurd may
  refused TooSmall start end run may same = absurd may
  refused NotLoaded start end run may same = absurd may

  pub ends_in_round : (halt : Halt) (start end : V) (made : Core (Fuse V)) (blocks : List Told) → blocks ≡ map told_by (generated clients size number)
      → IsMade g 67108864 clients size start made → RoundStops g blocks made halt end → EndsSo halt start end
  ends_in_round halt start end made blocks same is_made (inl stops) =
      let round = subst (λ (bs : List Told). IsRoundOf g bs made (Some halt) stops.0) same stops.1 in
      refused halt start end (record { made = made; is_made = is_made; played = stops.0; round = round }) (may_end round.round.transcripts stops.0.system.state.stop (fails_by_fuse made stops.0) halt round.is) stops.2
  ends_in_round halt start end made blocks same is_made (inr lost) =
      subst (λ (h : Halt). EndsSo h start end) (sym lost.2)
      (inr (inl (inr (record { made = made; is_made = is_made; left = lost.0; cut = subst (λ (bs : List Told). IsCutRound g bs made lost.0) same lost.1; store = lost.3 }))))

  -- what memory stores was summarized
  pub summarizes : (start end : V) (text items : List ℕ) (found : Core (Fuse V)) → IsFound g 67108864 clients size number start found → inner found.vault.store ≡ end → text ≡ items
      → (rows : List Listed) × IsListing found.system.state.sizes (in_memory found.regions.items) rows × (items ≡ summary_of clients size (length rows) (sum_of_keys rows))
      → Generates g clients size number start text end
  summarizes start end text items found run store read summary = record {
    found = found;
    run = run;
    store = store;
    rows = summary.0;
    listing = summary.1;
    printed = read ∙ summary.2;
  }

  -- the restart found no database
  pub ends_in_restart : (halt : Halt) (start end : V) (run : IsCrashed g 67108864 clients size number start)
      → NotRestarted g 67108864 run.crashed halt end → EndsSo halt start end
  ends_in_restart halt start end run (inl fails) = ends_by halt start end (inr (inr (run, fails)))
  ends_in_restart halt start end run (inr none) =
      subst (λ (h : Halt). EndsSo h start end) (sym none.3) (inr (inr (record { run = run; text = none.0; down = none.1; restart = none.2; store = none.4 })))

  -- ---- the status of a run that ended so, whose source wasn't read
  abbrev EndsNoCommand : Halt → Type 0
  EndsNoCommand BadWords = Unit {0}
  EndsNoCommand (BadScript line kind) = Unit {0}
  EndsNoCommand TooLong = Unit {0}
  EndsNoCommand ReadFault = Unit {0}
  EndsNoCommand WriteFault = Unit {0}
  EndsNoCommand TooSmall = Unit {0}
  EndsNoCommand NotLoaded = Unit {0}
  EndsNoCommand _ = ⊥

  fails_never : (halt : Halt) (command : Command) (old : Program V) (end : V) → EndsNoCommand halt → FailsIn g halt command old end → ⊥
  fails_never BadWords command old end of f = f.fails
  fails_never (BadScript line kind) command old end of f = f.fails
  fails_never TooLong command old end of f = f.fails
  fails_never ReadFault command old end of f = f.fails
  fails_never WriteFault command old end of f = f.fails
  fails_never TooSmall command old end of f = f.fails
  fails_never NotLoaded command old end of f = f.fails
  fails_never _ command old end of f = of

  never : (halt : Halt) → EndsNoCommand halt → (start end : V) → EndsIn halt start end → ⊥
  never halt of start end (inl first) = fails_never halt (Size (index_regions clients size) (heap_regions clients size)) first.0 end of first.2
  never halt of start end (inr (inl crash)) = fails_never halt (Crash 0) (Up crash.0.played) end of crash.1
  never halt of start end (inr (inr restart)) = fails_never halt Restart restart.0.crashed end of restart.1

  -- what was written stays
  pub halts_so : {K : Type 0} (k : SinkGhosts K) (halt : Halt) (start end : V) (sink : K) → EndsSo halt start end
      → GeneratorHalts g k clients size number halt start end sink sink
  halts_so k WriteFault start end sink ends = absurd (never WriteFault tt start end ends)
  halts_so k BadWords start end sink ends = (ends, refl)
  halts_so k (BadScript line kind) start end sink ends = (ends, refl)
  halts_so k TooLong start end sink ends = (ends, refl)
  halts_so k ReadFault start end sink ends = (ends, refl)
  halts_so k StoreFault start end sink ends = (ends, refl)
  halts_so k (BadStore file at) start end sink ends = (ends, refl)
  halts_so k Unformatted start end sink ends = (ends, refl)
  halts_so k Formatted start end sink ends = (ends, refl)
  halts_so k StoreUnsteady start end sink ends = (ends, refl)
  halts_so k RecordTooLong start end sink ends = (ends, refl)
  halts_so k (LogFull place most) start end sink ends = (ends, refl)
  halts_so k OutOfMemory start end sink ends = (ends, refl)
  halts_so k TooSmall start end sink ends = (ends, refl)
  halts_so k NotLoaded start end sink ends = (ends, refl)

  module _ {S K : Type 0} (s : SourceGhosts S) (k : SinkGhosts K) (source : S) (sink sink' : K) (start end : V) where
    abbrev ran : Course V
    ran = course s k source source sink sink' start end

    abbrev Halted : Halt → Type 0
    Halted halt = GeneratorHalts g k clients size number halt start end sink sink'

    halted : (halt : Halt) → Halted halt → EndedGenerator g clients size number ran (k.taken sink') (k.faults sink') (status_of halt)
    halted WriteFault h = (h.0, h.1, ((refl, refl), h.2, h.3))
    halted StoreFault h = (h.0, ((refl, refl), h.1))
    halted (BadStore file at) h = (h.0, ((refl, refl), h.1))
    halted Unformatted h = (h.0, ((refl, refl), h.1))
    halted Formatted h = (h.0, ((refl, refl), h.1))
    halted StoreUnsteady h = (h.0, ((refl, refl), h.1))
    halted RecordTooLong h = (h.0, ((refl, refl), h.1))
    halted (LogFull place most) h = (h.0, ((refl, refl), h.1))
    halted OutOfMemory h = (h.0, ((refl, refl), h.1))
    halted BadWords h = absurd (never BadWords tt start end h.0)
    halted (BadScript line kind) h = absurd (never (BadScript line kind) tt start end h.0)
    halted TooLong h = absurd (never TooLong tt start end h.0)
    halted ReadFault h = absurd (never ReadFault tt start end h.0)
    halted TooSmall h = absurd (never TooSmall tt start end h.0)
    halted NotLoaded h = absurd (never NotLoaded tt start end h.0)

    pub generator_ended : (r : Result (Unit {0}) Halt)
        → OnOk r ((text : List ℕ) × Generates g clients size number start text end × Appends (k.taken sink) text (k.taken sink')) → IfErr r Halted
        → EndedGenerator g clients size number ran (k.taken sink') (k.faults sink') (status_in r)
    generator_ended (Ok done) whole stops = (whole.0, whole.1, ((refl, refl), whole.2))
    generator_ended (Err halt) whole stops = halted halt stops
