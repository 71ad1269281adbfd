-- A step of a core that calls no store and takes no frame, made by a client of a round.
use Rattle.std.proofs.Common.{◌≡◌, ℕ, ◌<◌, Bool, true, false, List, Option, Some, None, is_some, refl, ap, sym, subst, ◌∙◌}
use Rattle.std.proofs.lemmas.Option.{IfSome_then}
use Rattle.dali_record.specs.declared.records.Record.{Record}
use Rattle.dali_region.specs.State.{RegionState}
use Rattle.dali_store.specs.Store.{Files as Disk}
use Rattle.dali_store.specs.declared.store.Store.{Ghosts}
use Rattle.dali_runs.specs.State.{TxnRow, state_in, SystemState, row_of, state_of}
use Rattle.dali_runs.specs.Run.{Bases, RunsOn, no_image}
use Rattle.dali_runs.specs.Flushes.{frame_of}
use Rattle.dali_runs.specs.Courses.{Step}
use Rattle.dali_runs.proofs.WholeSteps.{whole_keeps}
use Rattle.dali_runs.proofs.FactsLemmas.OlderRows.{rows_are_older}
use Rattle.dali_runs.proofs.PartsLemmas.Vaults.{step_has_vault}
use Rattle.dali_crash.specs.Checkpoints.{Does, Point, IsPointStep, is_of_checkpoint}
use Rattle.dali_crash.specs.StoreRuns.{StoreRun}
use Rattle.dali_crash.specs.Traces.{Start, bases_of}
use Rattle.dali_crash.proofs.Flags.{flag_stays}
use Rattle.dali_core.specs.Vault.Vaulted.{Vaulted}
use Rattle.dali_calls.specs.Others.{is_apart}
use Rattle.dali_core.specs.Steps.Courses.{calls_none, is_quiet}
use Rattle.dali_core.proofs.StepsLemmas.Courses.{came_same, vault_same, both_true}
use Rattle.dali_core.proofs.StepsLemmas.Steps.{quiet_goes}
use Rattle.dali_clean.specs.Cleaned.{AreDead}
use Rattle.dali_core.specs.Cores.{IsCoreAt, HoldsPlaces}
use Rattle.dali_transcripts.specs.World.{Deed, World}
use Rattle.dali_transcripts.specs.Telling.Deeds.{AreOf}
use Rattle.dali_transcripts.specs.Telling.Tells.{after, AreRightThen, Goes}
use Rattle.dali_turns.proofs.Deeds.{step_tells}
use Rattle.dali_turns.specs.declared.client.State.{State}
use Rattle.dali_turns.specs.Stood.{IsQuiet, Stood}
use Rattle.dali_turns.specs.Fits.{Owns, Audits}
use Rattle.dali_turns.specs.Others.{LeavesOthers}
use Rattle.dali_turns.proofs.Beside.{is_in_audit, step_audit, step_leaves, step_image}
use Rattle.dali_transactions.specs.Beside.Went.{is_open}

has_row : (o : Option TxnRow) → is_open (state_in o) ≡ true → is_some o ≡ true
has_row (Some row) e = refl
has_row None e = absurd (cc)

-- who is live or committed has an older number than the next one
pub is_older : (bases : Bases) (before : List Record) (p : Point) (t : ℕ) → StoreRun bases before no_image p → is_open (state_of p.core.system t) ≡ true → t < p.core.system.next
is_older bases before p t run lives = rows_are_older bases _ p.core run.run.run.runs t (has_row (row_of p.core.system t) lives)

module _ {V : Type 0} (means : Ghosts V)
    (s : Start) (B : List (List Record)) (p q : Point) (w : World) (precheck : Bool) (gs : List RegionState) (y : SystemState) (v : Vaulted V)
    (stood : Stood means s B p w precheck gs y v) (x : Step) (quiet : is_quiet x ≡ true) (step : IsPointStep p (Does x) q) where
  calm : (is_of_checkpoint x ≡ false) × (calls_none x ≡ true)
  calm = both_true (is_of_checkpoint x) (calls_none x) quiet

  run : StoreRun (bases_of s) s.log no_image p
  run = stood.stands.at.vault.run

  runs : RunsOn (bases_of s) p.log p.core
  runs = subst (λ (L : List Record). RunsOn (bases_of s) L p.core) (sym run.run.log) run.run.run.runs

  -- the deeds that tell it
  pub quiet_deeds : (c : ℕ) (ds : List Deed) → AreOf w c p (Does x) ds → AreRightThen w c ds q.core → Goes w c p ds (after w c ds q.core) q
  quiet_deeds c ds are right = step_tells (bases_of s) s.log w c p q (Does x) ds run stood.tells step are right

  pub quiet_core : q.core.system.taken ≡ p.core.system.taken → IsCoreAt means s B q q.core.regions q.core.system v
  quiet_core taken = record {
    regions = refl;
    system = refl;
    vault = quiet_goes means s B p q (Does x) v stood.stands.at.vault step refl (came_same p.log p.core x calm.1)
        (vault_same (frame_of p.log p.core) p.core.vault q.core.vault x calm.1 (step_has_vault p.log q.log p.core q.core x step.1.0));
    none_in_hand = λ up. stood.stands.at.none_in_hand up ∙ (ap (λ (z : SystemState). z.taken) (sym stood.stands.at.system) ∙ sym taken);
  }

  -- the core behind it
  pub quiet_stands : (c : ℕ) (ds : List Deed) → AreOf w c p (Does x) ds → AreRightThen w c ds q.core → q.core.system.taken ≡ p.core.system.taken → AreDead q.core.regions
      → ((fs : Disk) → HoldsPlaces gs fs → HoldsPlaces q.core.regions fs) → IsQuiet q.core.system → (is_some y.stop ≡ true → is_some q.core.system.stop ≡ true)
      → Stood means s B q (after w c ds q.core) precheck q.core.regions q.core.system v
  quiet_stands c ds are right taken dead places calm stop = record {
    stands = record { at = quiet_core taken; whole = whole_keeps (bases_of s) p.log q.log p.core q.core x runs stood.stands.whole step.1.0; dead = dead };
    files = IfSome_then (means.told v.store) stood.files places;
    quiet = calm;
    stops = λ e. stop (stood.stops e);
    tells = (quiet_deeds c ds are right).tells;
    precheck_is = stood.precheck_is;
    began = stood.began;
    since = stood.since;
    keeps = flag_stays p q (Does x) stood.keeps step;
  }

  -- what it leaves to others
  pub quiet_others : (state : State) → ((t : ℕ) → is_open (state_of y t) ≡ true → (Owns state t → ⊥) → is_apart t x ≡ true) → ((b : ℕ) → (Audits state b → ⊥) → is_in_audit b x ≡ false)
      → q.core.system.taken ≡ p.core.system.taken → LeavesOthers means state s B p gs y v B q q.core.regions q.core.system v
  quiet_others state apart out taken = record {
    txns = λ t lives other. step_leaves t p q (Does x) (is_older (bases_of s) s.log p t run (ap (λ (z : SystemState). is_open (state_of z t)) stood.stands.at.system ∙ lives)) (apart t lives other) step;
    audits = λ b less other. step_audit (bases_of s) s.log p q (Does x) b run step (out b other) less;
    image = λ flag other. step_image means s B p q x gs y v quiet step taken stood.stands.at.system;
  }
