-- What the parts of a load come to.
use Rattle.std.proofs.Common.{◌≡◌, inl, inr, ℕ, Bool, false, List, [], Option, Some, Result, Ok, Err, IfErr, OnOk, refl, sym, subst}
use Rattle.dali_listing.specs.declared.Listed.{Listed}
use Rattle.dali_load.specs.Scripts.{script_of}
use Rattle.dali_script.specs.declared.commands.Command.{Command}
use Rattle.dali_store.specs.Faults.{Rose}
use Rattle.dali_store.specs.declared.store.Store.{Ghosts}
use Rattle.dali_streams.specs.Streams.{Appends, AppendsSome}
use Rattle.dali_streams.specs.declared.streams.Sink.{Ghosts as SinkGhosts}
use Rattle.dali_streams.specs.declared.streams.Source.{Ghosts as SourceGhosts}
use Rattle.dali_run.specs.declared.halt.Halt.{Halt}
use Rattle.dali_run.specs.declared.halt.Halt.TheVariants.{BadWords, BadScript, TooLong, ReadFault, WriteFault, StoreFault, BadStore, Unformatted, Formatted, LogFull, TooSmall, NotLoaded, StoreUnsteady, RecordTooLong, OutOfMemory}
use Rattle.dali_run.specs.Ends.{EndedLoad, course}
use Rattle.dali_run.specs.Halts.{status_in, status_of}
use Rattle.dali_run.specs.Loading.{Disproved, HasRows, Loads, NoRows, NothingDone, NotLoads, RunsBadly, StoreStops, count_text}
use Rattle.dali_run.specs.Scripts.{StoppedIn, CutIn}
use Rattle.dali_run.specs.Stops.{ScriptStops}

-- ---- the lines stay in memory
module _ {V K : Type 0} (g : Ghosts V) (k : SinkGhosts K) (limit : ℕ) (precheck : Bool) (start : V) (script : List Command) (end : V) (sink sink' : K) where
  abbrev Stops : Halt → Type 0
  Stops halt = ScriptStops g k limit precheck halt start script end sink sink'

  abbrev Stored : Halt → Type 0
  Stored halt = StoreStops g limit precheck halt start script end

  kept : (halt : Halt) → k.taken sink ≡ Some [] → StoppedIn g limit precheck halt start script (k.taken sink) (k.taken sink') end
      → (taken : Option (List ℕ)) × StoppedIn g limit precheck halt start script (Some []) taken end
  kept halt none stops = (k.taken sink', subst (λ (o : Option (List ℕ)). StoppedIn g limit precheck halt start script o (k.taken sink') end) none stops)

  pub cut_in_memory : k.taken sink ≡ Some [] → Stops WriteFault → Stored OutOfMemory
  cut_in_memory none stops = inr (k.taken sink', subst (λ (o : Option (List ℕ)). CutIn g limit precheck start script o (k.taken sink') end) none stops.0)

  pub stops_in_memory : (halt : Halt) → (halt ≡ WriteFault → ⊥) → k.taken sink ≡ Some [] → Stops halt → Stored halt
  stops_in_memory WriteFault other none stops = absurd (other refl)
  stops_in_memory OutOfMemory other none stops = inl (kept OutOfMemory none stops)
  stops_in_memory BadWords other none stops = kept BadWords none stops
  stops_in_memory (BadScript line kind) other none stops = kept (BadScript line kind) none stops
  stops_in_memory TooLong other none stops = kept TooLong none stops
  stops_in_memory ReadFault other none stops = kept ReadFault none stops
  stops_in_memory StoreFault other none stops = kept StoreFault none stops
  stops_in_memory (BadStore file at) other none stops = kept (BadStore file at) none stops
  stops_in_memory Unformatted other none stops = kept Unformatted none stops
  stops_in_memory Formatted other none stops = kept Formatted none stops
  stops_in_memory StoreUnsteady other none stops = kept StoreUnsteady none stops
  stops_in_memory RecordTooLong other none stops = kept RecordTooLong none stops
  stops_in_memory (LogFull place most) other none stops = kept (LogFull place most) none stops
  stops_in_memory TooSmall other none stops = kept TooSmall none stops
  stops_in_memory NotLoaded other none stops = kept NotLoaded none stops

-- ---- no command ends a run so, nor do lines, nor an inspection
module _ {V : Type 0} (g : Ghosts V) (index heap : ℕ) (rows : List Listed) where
  abbrev Never : Halt → Type 0
  Never BadWords = Unit {0}
  Never (BadScript line kind) = Unit {0}
  Never TooLong = Unit {0}
  Never ReadFault = Unit {0}
  Never WriteFault = Unit {0}
  Never _ = ⊥

  never_undone : (halt : Halt) (start end : V) → Never halt → NothingDone g index heap rows halt start end → ⊥
  never_undone BadWords start end of h = h
  never_undone (BadScript line kind) start end of h = h
  never_undone TooLong start end of h = h
  never_undone ReadFault start end of h = h
  never_undone WriteFault start end of h = h
  never_undone _ start end of h = of

  never_stopped : (halt : Halt) (start end : V) → Never halt → StoreStops g 268435456 false halt start (script_of index heap rows) end → ⊥
  never_stopped BadWords start end of s = s.1.fails
  never_stopped (BadScript line kind) start end of s = s.1.fails
  never_stopped TooLong start end of s = s.1.fails
  never_stopped ReadFault start end of s = s.1.fails
  never_stopped WriteFault start end of s = s.1.fails
  never_stopped _ start end of s = of

  never_disproved : (halt : Halt) (lines : List ℕ) (old new : V) → Never halt → Disproved g rows lines halt old new → ⊥
  never_disproved BadWords lines old new of (inl h) = h.0
  never_disproved BadWords lines old new of (inr h) = h.1
  never_disproved (BadScript line kind) lines old new of (inl h) = h.0
  never_disproved (BadScript line kind) lines old new of (inr h) = h.1
  never_disproved TooLong lines old new of (inl h) = h.0
  never_disproved TooLong lines old new of (inr h) = h.1
  never_disproved ReadFault lines old new of (inl h) = h.0
  never_disproved ReadFault lines old new of (inr h) = h.1
  never_disproved WriteFault lines old new of (inl h) = h.0
  never_disproved WriteFault lines old new of (inr h) = h.1
  never_disproved _ lines old new of h = of

  never_badly : (halt : Halt) (start end : V) → Never halt → RunsBadly g index heap rows halt start end → ⊥
  never_badly halt start end of (inl stops) = never_stopped halt start end of stops
  never_badly halt start end of (inr un) = never_disproved halt un.lines un.stored end of un.disproved

  never : (halt : Halt) (start end : V) → Never halt → NotLoads g index heap rows halt start end → ⊥
  never halt start end of (inl h) = never_undone halt start end of h
  never halt start end of (inr h) = never_badly halt start end of h.1

module _ {V S K : Type 0} (g : Ghosts V) (s : SourceGhosts S) (k : SinkGhosts K) (index heap : ℕ) (source source' : S) where
  -- ---- no rows were read
  pub none_ended : (halt : Halt) (sink : K) (start : V) → NoRows s source source' halt
      → EndedLoad g index heap (course s k source source' sink sink start start) (k.taken sink) (k.faults sink) (status_of halt)
  none_ended (BadScript line kind) sink start h = (h, (refl, refl))
  none_ended TooLong sink start h = (h, (refl, refl))
  none_ended ReadFault sink start h = (h, (refl, refl))
  none_ended OutOfMemory sink start h = inl (refl, refl)
  none_ended _ sink start h = absurd h

  -- ---- they weren't loaded
  pub not_ended : (rows : List Listed) (halt : Halt) (sink : K) (start end : V) → HasRows (s.left source) rows (s.left source') → NotLoads g index heap rows halt start end
      → EndedLoad g index heap (course s k source source' sink sink start end) (k.taken sink) (k.faults sink) (status_of halt)
  not_ended rows BadWords sink start end has not = absurd (never g index heap rows BadWords start end tt not)
  not_ended rows (BadScript line kind) sink start end has not = absurd (never g index heap rows (BadScript line kind) start end tt not)
  not_ended rows TooLong sink start end has not = absurd (never g index heap rows TooLong start end tt not)
  not_ended rows ReadFault sink start end has not = absurd (never g index heap rows ReadFault start end tt not)
  not_ended rows WriteFault sink start end has not = absurd (never g index heap rows WriteFault start end tt not)
  not_ended rows OutOfMemory sink start end has not = inr (rows, has, not, refl)
  not_ended rows StoreFault sink start end has not = (rows, has, not, refl)
  not_ended rows (BadStore file at) sink start end has not = (rows, has, not, refl)
  not_ended rows Unformatted sink start end has not = (rows, has, not, refl)
  not_ended rows Formatted sink start end has not = (rows, has, not, refl)
  not_ended rows StoreUnsteady sink start end has not = (rows, has, not, refl)
  not_ended rows RecordTooLong sink start end has not = (rows, has, not, refl)
  not_ended rows (LogFull place most) sink start end has not = (rows, has, not, refl)
  not_ended rows TooSmall sink start end has not = (rows, has, not, refl)
  not_ended rows NotLoaded sink start end has not = (rows, has, not, refl)

  -- ---- they were, and their number was written, or not
  pub ended : (rows : List Listed) (text : List ℕ) (r : Result (Unit {0}) Halt) (sink sink' : K) (start end : V) → HasRows (s.left source) rows (s.left source') → Loads g index heap rows start end
      → text ≡ count_text rows
      → OnOk r (Appends (k.taken sink) text (k.taken sink'))
      → IfErr r (λ halt. (halt ≡ WriteFault) × AppendsSome (k.taken sink) text (k.taken sink') × Rose (k.faults sink) (k.faults sink'))
      → EndedLoad g index heap (course s k source source' sink sink' start end) (k.taken sink') (k.faults sink') (status_in r)
  ended rows text (Ok done) sink sink' start end has loads is all some =
      (rows, has, loads, subst (λ (t : List ℕ). Appends (k.taken sink) t (k.taken sink')) is all)
  ended rows text (Err halt) sink sink' start end has loads is all some =
      subst (λ (h : Halt). EndedLoad g index heap (course s k source source' sink sink' start end) (k.taken sink') (k.faults sink') (status_of h)) (sym some.0)
      (rows, has, loads, subst (λ (t : List ℕ). AppendsSome (k.taken sink) t (k.taken sink')) is some.1, some.2)
