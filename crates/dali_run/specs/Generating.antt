-- How a generated script is run: a database is made, its one round is run, a crash follows and a restart, and what memory stores then is counted.
--     full_among lines, first_full ts    the first line that says that the log is full, of a client and of all, by ascending number
--     halt_of_round ts stop by_fuse      what ends such a run behind its round, whose engine is stopped so, or isn't: a full log; else the store. Damage is told as
--                                        want of memory, though nobody writes astray in it, and so is a call that a fuse failed, though none is set
--     fails_by_fuse made played          whether a fuse failed a call in the round
--     script_of                          the script of these numbers
--     IsMade, IsPlayed, IsCrashed, IsFound start ..    how far it was run
--     Summarizes start text end          to its end, and this is the summary of what memory stores then
--     RefusedIn halt start end           a line of the round ended the run
--     NotFound start end                 the restart found no database, since a fuse failed a call of its store
--     IsLost start end                   the round had no memory
--     EndedBy halt start end             another command of the script ended the run: the database wasn't made, or behind a round that went well the crash or the restart failed
use Rattle.std.specs.Prelude.{◌≡◌, ◌⊎◌, ℕ, ◌%◌, Bool, true, false, nat_lt, List, [], ◌∷◌, length, map, Option, Some, None}
use Rattle.std.specs.List.{sum_by}
use Rattle.dali_transcripts.specs.Clients.Said.{Transcribed}
use Rattle.dali_generator.specs.Generated.{generated, index_regions, heap_regions}
use Rattle.dali_generator.specs.Summary.{summary_of}
use Rattle.dali_listing.specs.declared.Listed.{Listed}
use Rattle.dali_listing.specs.Listing.{IsListing, in_memory}
use Rattle.dali_fuse.specs.Fuse.{failed_of, inner}
use Rattle.dali_fuse.specs.declared.fuse.Fuse.{Fuse}
use Rattle.dali_round.specs.Leads.{lines_in}
use Rattle.dali_script.specs.declared.commands.Command.{Command}
use Rattle.dali_script.specs.declared.commands.Command.TheVariants.{Size, Round, Crash, Restart}
use Rattle.dali_store.specs.declared.store.Store.{Ghosts}
use Rattle.dali_runs.specs.declared.causes.Cause.{Cause}
use Rattle.dali_runs.specs.declared.causes.Cause.TheVariants.{Damage, Store}
use Rattle.dali_transcripts.specs.Transcripts.{Told}
use Rattle.dali_transcripts.specs.Words.{Said, Refused, Full}
use Rattle.dali_core.specs.declared.whole.Core.{Core}
use Rattle.dali_run.specs.declared.halt.Halt.{Halt}
use Rattle.dali_run.specs.declared.halt.Halt.TheVariants.{StoreFault, LogFull, OutOfMemory}
use Rattle.dali_run.specs.declared.program.Program.{Program}
use Rattle.dali_run.specs.declared.program.Program.TheVariants.{Up}
use Rattle.dali_run.specs.Fails.{Fails, Played}
use Rattle.dali_run.specs.Program.{IsDown, store_of}
use Rattle.dali_run.specs.Steps.{RunsRound, StepsSize, StepsCrash, Restarts, RestartStops}
use Rattle.dali_run.specs.Told.{told_by}

abbrev pub or_else : Option Halt → Option Halt → Option Halt
or_else (Some halt) later = Some halt
or_else None later = later

abbrev pub full_in : Said → Option Halt
full_in (Refused act (Full end limit)) = Some (LogFull end limit)
full_in said = None

abbrev pub full_among : List Said → Option Halt
full_among [] = None
full_among (said ∷ later) = or_else (full_in said) (full_among later)

abbrev pub first_full : List Transcribed → Option Halt
first_full [] = None
first_full (t ∷ later) = or_else (full_among (lines_in t)) (first_full later)

abbrev pub halt_of : Option Halt → Option Cause → (by_fuse : Bool) → Option Halt
halt_of (Some halt) stop by_fuse = Some halt
halt_of None (Some Store) false = Some StoreFault
halt_of None (Some Store) true = Some OutOfMemory
halt_of None (Some (Damage region)) by_fuse = Some OutOfMemory
halt_of None None by_fuse = None

abbrev pub halt_of_round : List Transcribed → Option Cause → (by_fuse : Bool) → Option Halt
halt_of_round ts stop by_fuse = halt_of (first_full ts) stop by_fuse

abbrev pub fails_by_fuse : {V : Type 0} → Core (Fuse V) → Core (Fuse V) → Bool
fails_by_fuse made played = nat_lt (failed_of made.vault.store) (failed_of played.vault.store)

-- modulo two to the 64th
abbrev pub sum_of_keys : List Listed → ℕ
sum_of_keys rows = sum_by (λ row. row.key) rows % 18446744073709551616

abbrev pub script_of : (clients size number : ℕ) → List Command
script_of clients size number = Size (index_regions clients size) (heap_regions clients size) ∷ Round (generated clients size number) ∷ Crash 0 ∷ Restart ∷ []

module _ {V : Type 0} (g : Ghosts V) where
  -- the round was run to its end, and ends the run so, or not
  pub record IsRoundOf (blocks : List Told) (made : Core (Fuse V)) (ends : Option Halt) (played : Core (Fuse V)) : Type 0 where
    pub text : List ℕ
    pub round : RunsRound g false blocks made text played
    pub is : halt_of_round round.transcripts played.system.state.stop (fails_by_fuse made played) ≡ ends

  -- nothing was done of the round, or it was cut
  abbrev pub IsCutRound : List Told → Core (Fuse V) → Fuse V → Type 0
  IsCutRound blocks made f = (f ≡ made.vault.store) ⊎ ((played : Played g false blocks made f) × (played.whole ≡ false))

  -- what the round left ended the run, or the round had no memory
  abbrev pub RoundStops : List Told → Core (Fuse V) → Halt → V → Type 0
  RoundStops blocks made halt end =
      ((played : Core (Fuse V)) × IsRoundOf blocks made (Some halt) played × (inner played.vault.store ≡ end))
      ⊎ ((f : Fuse V) × IsCutRound blocks made f × (halt ≡ OutOfMemory) × (inner f ≡ end))

  pub record FailsIn (halt : Halt) (command : Command) (old : Program V) (end : V) : Type 0 where
    pub last : Fuse V
    pub fails : Fails g false halt command old last
    pub store : inner last ≡ end

  module _ (limit : ℕ) where
    -- a failed call of a fuse counts as one of the store, for none is set
    abbrev pub NotRestarted : Program V → Halt → V → Type 0
    NotRestarted crashed halt end =
        FailsIn halt Restart crashed end
        ⊎ ((text : List ℕ) × (down : Program V) × RestartStops g limit crashed text down × (halt ≡ StoreFault) × (inner (store_of down) ≡ end))

  module _ (limit : ℕ) (clients size : ℕ) where
    pub record IsMade (start : V) (made : Core (Fuse V)) : Type 0 where
      pub first : Program V
      pub down : IsDown first start
      pub steps : StepsSize g limit (index_regions clients size) (heap_regions clients size) first [] (Up made)

    module _ (number : ℕ) where
      pub record IsPlayed (start : V) (ends : Option Halt) : Type 0 where
        pub made : Core (Fuse V)
        pub is_made : IsMade start made
        pub played : Core (Fuse V)
        pub round : IsRoundOf (map told_by (generated clients size number)) made ends played

      pub record RefusedIn (halt : Halt) (start end : V) : Type 0 where
        pub run : IsPlayed start (Some halt)
        pub store : inner run.played.vault.store ≡ end

      pub record IsLost (start end : V) : Type 0 where
        pub made : Core (Fuse V)
        pub is_made : IsMade start made
        pub left : Fuse V
        pub cut : IsCutRound (map told_by (generated clients size number)) made left
        pub store : inner left ≡ end

      pub record IsCrashed (start : V) : Type 0 where
        pub run : IsPlayed start None
        pub text : List ℕ
        pub crashed : Program V
        pub crash : StepsCrash g limit 0 (Up run.played) text crashed

      pub record IsFound (start : V) (found : Core (Fuse V)) : Type 0 where
        pub run : IsCrashed start
        pub text : List ℕ
        pub restart : Restarts g limit run.crashed text (Up found)

      pub record NotFound (start end : V) : Type 0 where
        pub run : IsCrashed start
        pub text : List ℕ
        pub down : Program V
        pub restart : RestartStops g limit run.crashed text down
        pub store : inner (store_of down) ≡ end

      pub record Summarizes (start : V) (text : List ℕ) (end : V) : Type 0 where
        pub found : Core (Fuse V)
        pub run : IsFound start found
        pub store : inner found.vault.store ≡ end
        pub rows : List Listed
        pub listing : IsListing found.system.state.sizes (in_memory found.regions.items) rows
        pub printed : text ≡ summary_of clients size (length rows) (sum_of_keys rows)

      abbrev pub EndedBy : Halt → V → V → Type 0
      EndedBy halt start end =
          ((first : Program V) × IsDown first start × FailsIn halt (Size (index_regions clients size) (heap_regions clients size)) first end)
          ⊎ (((run : IsPlayed start None) × FailsIn halt (Crash 0) (Up run.played) end)
          ⊎ ((run : IsCrashed start) × FailsIn halt Restart run.crashed end))
