-- A run goes on from command to command, whether damage escaped before or not.
use Rattle.std.proofs.Common.{◌≡◌, ℕ, Bool, true, List, [], ◌∷◌, Option, Some, None, map, refl, sym, subst, inl, inr}
use Rattle.std.specs.Prelude.{IfSome}
use Rattle.dali_run.proofs.Made.{format_begins, restart_begins}
use Rattle.dali_transcripts.specs.Clients.Said.{Transcribed}
use Rattle.dali_crash.specs.Checkpoints.{Point}
use Rattle.dali_crash.specs.Traces.{Start, start_point}
use Rattle.dali_fuse.specs.declared.fuse.Fuse.{Fuse}
use Rattle.dali_record.specs.declared.records.Record.{Record}
use Rattle.dali_restart.specs.Formatted.{first_at, first_record}
use Rattle.dali_restart.specs.Restarting.{BeginsRun}
use Rattle.dali_round.specs.Leads.{BeginsAt}
use Rattle.dali_script.specs.declared.commands.Command.{Command}
use Rattle.dali_script.specs.declared.commands.Command.TheVariants.{Size, Open, Round, Poke, Audit, Checkpoint, Cleanup, Crash, Restart, Show, Verify, Next, Fuse as SetFuse}
use Rattle.dali_script.specs.declared.names.Name.{Name}
use Rattle.dali_script.specs.declared.names.Name.TheVariants as names
use Rattle.dali_store.specs.Store.{Files as Disk}
use Rattle.dali_store.specs.declared.store.Store.{Ghosts}
use Rattle.dali_runs.specs.declared.causes.Cause.{Cause}
use Rattle.dali_transcripts.specs.Words.{Act, Pokes, Audits, Checkpoints}
use Rattle.dali_transcripts.specs.Transcripts.{Told as Blocks}
use Rattle.dali_core.specs.Vault.Vaulted.{with_store}
use Rattle.dali_core.specs.declared.whole.Core.{Core}
use Rattle.dali_run.specs.declared.program.Program.{Program}
use Rattle.dali_run.specs.declared.program.Program.TheVariants.{Up, Down}
use Rattle.dali_run.specs.Masks.{FindsFiles, FindsIn}
use Rattle.dali_run.specs.Program.{told_in, leaves_in, faults_in, fused}
use Rattle.dali_run.specs.Steps.{dead_in, CleanupIn, EndsComparison, HasCleaned, Plays, ShowIn, Steps, StepsAlone, StepsRestart, VerifyIn}
use Rattle.dali_run.specs.Survives.{IsAPoint, IsPointOf}
use Rattle.dali_run.specs.Told.{alone, sizes_of, told_by}
use Rattle.dali_run.proofs.Cleanings.{idle_runs, moved_all}
use Rattle.dali_run.proofs.OnlyRead.{read_begins, unread}
use Rattle.dali_run.proofs.Surviving.{fused_begins, no_words, no_heads, none_synced}

module _ {V : Type 0} (g : Ghosts V) where
  -- at a point of a run where a round may begin
  pub record IsStanding (core : Core (Fuse V)) : Type 0 where
    pub start : Start
    pub batches : List (List Record)
    pub point : Point
    pub begins : BeginsAt (fused g) start batches point core.regions.items core.system.state core.vault

  abbrev pub Stands : Program V → Type 0
  Stands (Up core) = IsStanding core
  Stands (Down store) = Unit {0}

  pub standing_of : (base : List Record) (core : Core (Fuse V)) → IsPointOf g base core → IsStanding core
  standing_of base core a = record { start = a.start; batches = a.batches; point = a.point; begins = a.begins }

  pub stands_of : (Safe : Disk → Type 0) (base : List Record) (p : Program V) → IsAPoint g Safe base p → Stands p
  stands_of Safe base (Up core) a = standing_of base core a
  stands_of Safe base (Down store) a = tt

  up_stands : (core : Core (Fuse V)) (new : Program V) → new ≡ Up core → IsStanding core → Stands new
  up_stands core new up a = subst Stands (sym up) a

  down_stands : (store : Fuse V) (new : Program V) → new ≡ Down store → Stands new
  down_stands store new down = subst Stands (sym down) tt

  -- ---- a round
  round_stands : (precheck : Bool) (blocks : List Blocks) (c d : Core (Fuse V)) (ts : List Transcribed) → Plays g precheck true blocks c ts d → IsStanding c → IsStanding d
  round_stands precheck blocks c d ts plays a =
      let led = plays a.start a.batches a.point a.begins in
      record {
        start = a.start;
        batches = led.batches;
        point = led.to;
        begins = record { stands = led.stands; files = led.files; keeps = led.keeps; between = led.round.between refl };
      }

  -- ---- dead transactions are cleaned up
  cleaned_stands : (c d : Core (Fuse V)) → HasCleaned g c d → c.system.state.stop ≡ None → IsStanding c → IsStanding d
  cleaned_stands c d cleaned up a =
      let idle = idle_runs g a.start a.batches a.point c a.begins up in
      let moved = moved_all g (dead_in c.system.state) a.start a.batches a.point c d cleaned.each a.begins idle.0 idle.1 in
      record { start = a.start; batches = a.batches; point = moved.to; begins = moved.begins }

module _ {V : Type 0} (g : Ghosts V) (limit : ℕ) (precheck : Bool) where
  abbrev Is : Core (Fuse V) → Type 0
  Is = IsStanding g

  abbrev Are : Program V → Type 0
  Are = Stands g

  -- ---- a restart
  restart_stands : (old new : Program V) (text : List ℕ) (step : StepsRestart g limit old text new)
      → FindsIn g limit precheck old text new step → Are new
  restart_stands old new text (inr stops) found = down_stands g stops.store new stops.down
  restart_stands old new text (inl step) found =
      let runs : BeginsRun (fused g) limit found.disk step.core.regions.items step.core.system.state step.core.vault =
      subst
      (λ (o : Option Disk). IfSome o (λ fs. BeginsRun (fused g) limit fs step.core.regions.items step.core.system.state step.core.vault))
      found.tells step.begins in
      let at = restart_begins (fused g) limit found.disk found.files step.core.regions.items step.core.system step.core.vault step.fresh step.whole runs
      found.spells found.finds no_words no_heads none_synced in
      up_stands g step.core new step.up (record { start = at.start; batches = at.batches; point = start_point at.start; begins = at.begins })

  -- ---- reads
  compared_stands : (c d : Core (Fuse V)) (text : List ℕ) → EndsComparison g c text d → Is c → Is d
  compared_stands c d text (inl compares) a =
      subst Is (sym compares.read.same)
      (record {
        start = a.start;
        batches = a.batches;
        point = a.point;
        begins =
            read_begins g d.vault.store a.start a.batches a.point c.regions.items c.system.state c.vault compares.read.reads compares.kept a.begins;
      })
  compared_stands c d text (inr stops) a =
      let there = unread g d.vault.store a.start a.batches a.point c.regions.items c.system.state c.vault stops.read.reads stops.rose a.begins in
      subst Is (sym stops.read.same) (record { start = a.start; batches = a.batches; point = there.to; begins = there.begins })

  -- ---- each command
  alone_stands : (name : Name) (act : Act) (old new : Program V) (text : List ℕ) → StepsAlone g precheck name act old text new → Are old → Are new
  alone_stands name act (Up core) new text step a =
      up_stands g step.0 new step.2 (round_stands g precheck (alone act) core step.0 step.1.transcripts step.1.plays a)
  alone_stands name act (Down store) new text step a = down_stands g store new step.1

  cleanup_stands : (stop : Option Cause) (core : Core (Fuse V)) (new : Program V) (text : List ℕ) → core.system.state.stop ≡ stop → CleanupIn g stop core text new → Is core → Are new
  cleanup_stands (Some cause) core new text is step a = up_stands g core new step.1 a
  cleanup_stands None core new text is step a = up_stands g step.0 new step.2 (cleaned_stands g core step.0 step.1 is a)

  show_stands : (stop : Option Cause) (core : Core (Fuse V)) (new : Program V) (text : List ℕ) → core.system.state.stop ≡ stop → ShowIn g stop core text new → Is core → Are new
  show_stands (Some cause) core new text is step a = up_stands g core new step.1 a
  show_stands None core new text is step a = up_stands g step.0 new step.2 (cleaned_stands g core step.0 step.1 is a)

  verify_stands : (stop : Option Cause) (core : Core (Fuse V)) (new : Program V) (text : List ℕ) → core.system.state.stop ≡ stop
      → VerifyIn g stop core text new → Is core → Are new
  verify_stands (Some cause) core new text is step a = up_stands g core new step.1 a
  verify_stands None core new text is step a =
      up_stands g step.1 new step.4 (compared_stands step.0 step.1 text step.3 (cleaned_stands g core step.0 step.2 is a))

  pub step_stands : (command : Command) (old new : Program V) (text : List ℕ) (step : Steps g limit precheck old command text new)
      → FindsFiles g limit precheck command old text new step → Are old → Are new
  step_stands (Size index heap) old new text step found a =
      let s = sizes_of index heap in
      let start = first_at (fused g) s limit step.core.vault no_words no_heads none_synced in
      let begins = format_begins (fused g) s limit step.core.regions.items step.core.system step.core.vault step.fresh step.whole step.begins no_words
      no_heads none_synced in
      up_stands g step.core new step.up (record { start = start; batches = (first_record s ∷ []) ∷ []; point = start_point start; begins = begins.0 })
  step_stands Open old new text step found a = restart_stands old new text step found
  step_stands Restart old new text step found a = restart_stands old new text step found
  step_stands (Round blocks) (Up core) new text step found a =
      up_stands g step.0 new step.2 (round_stands g precheck (map told_by blocks) core step.0 step.1.transcripts step.1.plays a)
  step_stands (Round blocks) (Down store) new text step found a = down_stands g store new step.1
  step_stands (Poke region word mask) old new text step found a = alone_stands names.Poke (Pokes region word mask) old new text step a
  step_stands Audit old new text step found a = alone_stands names.Audit Audits old new text step a
  step_stands Checkpoint old new text step found a = alone_stands names.Checkpoint Checkpoints old new text step a
  step_stands Cleanup (Up core) new text step found a = cleanup_stands core.system.state.stop core new text refl step a
  step_stands Cleanup (Down store) new text step found a = down_stands g store new step.1
  step_stands (Crash choice) old new text step found a = down_stands g step.down.fuse new step.down.down
  step_stands Show (Up core) new text step found a = show_stands core.system.state.stop core new text refl step a
  step_stands Show (Down store) new text step found a = down_stands g store new step.1
  step_stands Verify (Up core) new text step found a = verify_stands core.system.state.stop core new text refl step a
  step_stands Verify (Down store) new text step found a = down_stands g store new step.1
  step_stands Next old new text step found a = subst Are (sym step.1) a
  step_stands (SetFuse passes) (Up core) new text step found a =
      up_stands g (record core { vault = with_store core.vault step.0.0 }) new step.0.2
      (record { start = a.start; batches = a.batches; point = a.point; begins = fused_begins g passes core step.0.0 a.start a.batches a.point step.0.1 a.begins })
  step_stands (SetFuse passes) (Down store) new text step found a = down_stands g step.0.0 new step.0.2
