-- A generated run that ends with a failure of the store was ended by one of the handed-in store.
use Rattle.std.proofs.Common.{◌≡◌, ◌≤◌, ℕ, Bool, true, false, List, [], ◌∷◌, Option, Some, None, refl, sym, ◌∙◌, ap, subst, inl, inr, ⊎_elim, arith}
use Rattle.std.specs.Prelude.{IfSome, is_some}
use Rattle.std.proofs.lemmas.Bool.{ltb-false}
use Rattle.dali_transcripts.specs.Clients.Said.{Transcribed}
use Rattle.dali_generator.specs.Generated.{index_regions, heap_regions}
use Rattle.dali_fuse.specs.Fuse.{failed_of, passes_of}
use Rattle.dali_fuse.specs.declared.fuse.Fuse.{Fuse}
use Rattle.dali_record.specs.declared.records.Record.{Record}
use Rattle.dali_round.specs.Leads.{lines_in}
use Rattle.dali_script.specs.declared.commands.Command.{Command}
use Rattle.dali_script.specs.declared.commands.Command.TheVariants.{Size}
use Rattle.dali_store.specs.Store.{Files as Disk}
use Rattle.dali_store.specs.declared.store.Store.{Ghosts}
use Rattle.dali_runs.specs.declared.causes.Cause.{Cause}
use Rattle.dali_runs.specs.declared.causes.Cause.TheVariants.{Damage, Store}
use Rattle.dali_runs.specs.State.{CoreState, SystemState}
use Rattle.dali_transcripts.specs.Transcripts.{Told as Blocks}
use Rattle.dali_transcripts.specs.Words.{Said, Refused, StoppedBy}
use Rattle.dali_transcripts.specs.World.{has_failed}
use Rattle.dali_core.specs.Vault.Vaulted.{Vaulted}
use Rattle.dali_core.specs.declared.whole.Core.{Core}
use Rattle.dali_run.specs.declared.halt.Halt.{Halt}
use Rattle.dali_run.specs.declared.halt.Halt.TheVariants.{StoreFault}
use Rattle.dali_run.specs.declared.program.Program.{Program}
use Rattle.dali_run.specs.declared.program.Program.TheVariants.{Up, Down}
use Rattle.dali_run.specs.Complete.{OwnRose, StopRises, GeneratorFaultRises, GeneratorFaultsRise}
use Rattle.dali_run.specs.Ends.{Course, GeneratorFails, GeneratorStops}
use Rattle.dali_run.specs.Generating.{IsMade, IsRoundOf, fails_by_fuse, first_full, full_among, full_in, halt_of, or_else}
use Rattle.dali_run.specs.Program.{IsDown, store_of, faults_in}
use Rattle.dali_run.specs.Steps.{RestartStops}
use Rattle.dali_run.specs.Survives.{AnyFiles, IsOwn, IsPointOf}
use Rattle.dali_run.proofs.Failing.{fault_rises, none_failed, own_rises, rises}
use Rattle.dali_run.proofs.Surviving.{begins_down, none_down, step_goes}

-- ---- what a round ends with
abbrev IsNoFault : Option Halt → Type 0
IsNoFault (Some StoreFault) = ⊥
IsNoFault o = Unit {0}

in_line : (said : Said) → IsNoFault (full_in said)
in_line (Refused act (StoppedBy cause)) = tt
in_line _ = tt

in_either : (first later : Option Halt) → IsNoFault first → IsNoFault later → IsNoFault (or_else first later)
in_either (Some halt) later f l = f
in_either None later f l = l

in_lines : (lines : List Said) → IsNoFault (full_among lines)
in_lines [] = tt
in_lines (said ∷ later) = in_either (full_in said) (full_among later) (in_line said) (in_lines later)

in_all : (ts : List Transcribed) → IsNoFault (first_full ts)
in_all [] = tt
in_all (t ∷ later) = in_either (full_among (lines_in t)) (first_full later) (in_lines (lines_in t)) (in_all later)

-- the store stopped the engine
by_store : (full : Option Halt) (stop : Option Cause) (by_fuse : Bool) → IsNoFault full → halt_of full stop by_fuse ≡ Some StoreFault → (stop ≡ Some Store) × (by_fuse ≡ false)
by_store (Some halt) stop by_fuse none is = absurd (subst IsNoFault is none)
by_store None (Some Store) false none is = (refl, refl)
by_store None (Some Store) true none is = absurd cc
by_store None (Some (Damage region)) by_fuse none is = absurd cc
by_store None None by_fuse none is = absurd cc

-- ---- fuses
not_set : (o : Option ℕ) → o ≡ None → is_some o ≡ false
not_set o none = ap (λ (p : Option ℕ). is_some p) none

module _ {V : Type 0} where
  down_unset : (p : Program V) (store : V) → IsDown p store → passes_of (store_of p) ≡ None
  down_unset p store down = ap (λ (q : Program V). passes_of (store_of q)) down.down ∙ down.unfused.passes

  abbrev RunsIn : Program V → Type 0
  RunsIn (Up core) = core.vault.stopped ≡ false
  RunsIn (Down store) = Unit {0}

module _ {V : Type 0} (g : Ghosts V)
    (reads_now : (s : V) → IfSome (g.told s) (λ fs. g.may_leave s fs)) (counts_now : (s : V) (t : ℕ) (c : Disk) → t ≤ g.moment s → g.may_leave s c → g.left_since s t c) where
  made_runs : (limit clients size : ℕ) (start : V) (made : Core (Fuse V)) → IsMade g limit clients size start made → made.vault.stopped ≡ false
  made_runs limit clients size start made m =
      let new : m.steps.core.vault.stopped ≡ false = ap (λ (v : Vaulted (Fuse V)). v.stopped) m.steps.fresh.vault in subst RunsIn (sym m.steps.up) new

  round_rises : (base : List Record) (blocks : List Blocks) (made played : Core (Fuse V)) → IsPointOf g base made → made.vault.stopped ≡ false
      → IsRoundOf g blocks made (Some StoreFault) played → OwnRose g made.vault.store played.vault.store
  round_rises base blocks made played a runs round =
      let ts = round.round.transcripts in
      let so = by_store (first_full ts) played.system.state.stop (fails_by_fuse made played) (in_all ts) round.is in
      let led = round.round.plays a.start a.batches a.point a.begins in
      let is = led.round in
      let w = is.world in
      let stop : led.to.core.system.stop ≡ Some Store = ap (λ (y : SystemState). y.stop) led.stands.at.system ∙ so.0 in
      let stopped : w.core.vault.stopped ≡ true = ap (λ (k : CoreState). k.vault.stopped) is.core_is ∙ led.stands.at.vault.run.run.run.runs.stop.store stop in
      let ran : w.old.vault.stopped ≡ false = ap (λ (k : CoreState). k.vault.stopped) is.old_is ∙ (a.begins.stands.at.vault.vault.stopped ∙ runs) in
      let failed : has_failed false w.happened ≡ true = ap (λ (b : Bool). has_failed b w.happened) (sym ran) ∙ (sym is.together.faults.stopped ∙ stopped) in
      let was : w.old.vault.faults ≡ faults_in g made.vault.store = ap (λ (k : CoreState). k.vault.faults) is.old_is ∙ a.begins.stands.at.vault.vault.counted in
      let now : w.core.vault.faults ≡ faults_in g played.vault.store = ap (λ (k : CoreState). k.vault.faults) is.core_is ∙ led.stands.at.vault.vault.counted in
      own_rises g false made.vault.store played.vault.store
      (rises w.old.vault.faults w.core.vault.faults (faults_in g made.vault.store) (faults_in g played.vault.store) was now (is.together.faults.rose failed))
      (ltb-false (failed_of made.vault.store) (failed_of played.vault.store) so.1)

  -- no fuse is set, and none fails a call
  pub never_stops : (limit : ℕ) (old new : Program V) (text : List ℕ) (store : V) → IsDown old store → RestartStops g limit old text new → ⊥
  never_stops limit old new text store down stops =
      let counted : is_some (passes_of stops.store) ≡ is_some (passes_of (store_of old)) = stops.left.left.passes.counted in
      let none = none_failed stops.store (counted ∙ not_set (passes_of (store_of old)) (down_unset old store down)) in
      omega (arith, none, stops.by_fuse)

  module _ (clients size number : ℕ) (c : Course V) (base : List Record) (own : IsOwn g base c.store) where
    abbrev making : Command
    making = Size (index_regions clients size) (heap_regions clients size)

    stop_rises : (s : GeneratorStops g clients size number StoreFault c.store c.store')
        → StopRises g clients size number c s
    stop_rises (inl first) =
        fault_rises g false AnyFiles making base first.0 first.2.last (begins_down g base first.0 c.store first.1 own)
        (λ is. down_unset first.0 c.store first.1) first.2.fails
    stop_rises (inr (inl crash)) = ⊎_elim (λ more. inl more) (λ end. inr (omega (arith, end))) crash.1.fails.0
    stop_rises (inr (inr restart)) =
        own_rises g false (store_of restart.0.crashed) restart.1.last restart.1.fails.0.rose restart.1.fails.0.none_by_fuse

    fault_rises_so : (f : GeneratorFails g clients size number c.store c.store')
        → GeneratorFaultRises g clients size number c f
    fault_rises_so (inl s) = stop_rises s
    fault_rises_so (inr (inl refused)) =
        let m = refused.run.is_made in
        let goes =
        step_goes g reads_now counts_now 67108864 false AnyFiles making base m.first (Up refused.run.made) [] m.steps
        (begins_down g base m.first c.store m.down own) (none_down g m.first c.store m.down) in
        round_rises goes.log _ refused.run.made refused.run.played goes.point (made_runs 67108864 clients size c.store refused.run.made m) refused.run.round
    fault_rises_so (inr (inr none)) = never_stops 67108864 none.run.crashed none.down none.text none.run.crash.store none.run.crash.down none.restart

  pub generator_faults_rise : GeneratorFaultsRise g
  generator_faults_rise c base clients size number own e = fault_rises_so clients size number c base own e.ended.0
