-- A run goes on along steps that call no store.
use Rattle.std.proofs.Common.{◌≡◌, ℕ, Bool, true, false, not, ◌&&◌, List, [], ◌∷◌, Option, refl}
use Rattle.std.specs.List.{list_all}
use Rattle.std.proofs.lemmas.Bool.{and_parts}
use Rattle.dali_record.specs.declared.records.Record.{Record}
use Rattle.dali_record.specs.Files.{Files}
use Rattle.dali_store.specs.Store.{Files as Disk}
use Rattle.dali_store.specs.declared.store.Store.{Ghosts}
use Rattle.dali_runs.specs.State.{VaultState, CoreState}
use Rattle.dali_runs.specs.Flushes.{frame_of}
use Rattle.dali_runs.specs.Courses.{Step, Flushes, Faults, ReadFails, CameBy, Moment, IsStepAt}
use Rattle.dali_runs.specs.Parts.Vaults.{IsVaultStep}
use Rattle.dali_runs.proofs.PartsLemmas.Vaults.{step_has_vault}
use Rattle.dali_crash.specs.Checkpoints.{Does, Point, IsPointStep, is_of_checkpoint, copies_after, moment_of}
use Rattle.dali_crash.specs.Traces.{Start}
use Rattle.dali_core.specs.Vault.Vaulted.{Vaulted}
use Rattle.dali_core.specs.Steps.At.{IsAt}
use Rattle.dali_core.specs.Steps.Called.{KeepsImage}
use Rattle.dali_core.specs.Steps.Courses.{calls_none, is_quiet, QuietCourse}
use Rattle.dali_core.proofs.StepsLemmas.Steps.{quiet_goes, quiet_keeps}

pub came_same : (L : List Record) (c : CoreState) (x : Step) → calls_none x ≡ true → (F : Files) → CameBy L c x F F
came_same L c Flushes e F = absurd cc
came_same L c (Faults n) e F = absurd cc
came_same L c (ReadFails n) e F = refl
came_same L c x e F = refl

pub vault_same : (frame : List Record) (v w : VaultState) (x : Step) → calls_none x ≡ true → IsVaultStep frame v x w → w ≡ v
vault_same frame v w Flushes e s = absurd cc
vault_same frame v w (Faults n) e s = absurd cc
vault_same frame v w (ReadFails n) e s = absurd cc
vault_same frame v w x e s = s

pub both_true : (a b : Bool) → (not a && b) ≡ true → (a ≡ false) × (b ≡ true)
both_true true b e = absurd cc
both_true false b e = (refl, e)

abbrev stepped : Point → Step → Moment → Point
stepped p x n = record p { log = n.log; core = n.core; audits = n.audits; copies = copies_after p.core x p.copies }

module _ {V : Type 0} (means : Ghosts V) where
  record WentOneOn (s : Start) (B : List (List Record)) (p : Point) (n : Moment) (x : Step) (v : Vaulted V) : Type 0 where
    step : IsPointStep p (Does x) (stepped p x n)
    is : IsAt means s B (stepped p x n) v
    keeps : KeepsImage means p (stepped p x n) v.store v.store

  one_on : (s : Start) (B : List (List Record)) (p : Point) (n : Moment) (x : Step) (v : Vaulted V) → IsAt means s B p v → is_quiet x ≡ true → IsStepAt (moment_of p) x n → WentOneOn s B p n x v
  one_on s B p n x v at quiet there = record {
    step = step;
    is = quiet_goes means s B p (stepped p x n) (Does x) v at step refl (came_same p.log p.core x calm.1) same;
    keeps = quiet_keeps means p (stepped p x n) (Does x) v.store step refl same;
  }
    where
      calm : (is_of_checkpoint x ≡ false) × (calls_none x ≡ true)
      calm = both_true (is_of_checkpoint x) (calls_none x) quiet

      step : IsPointStep p (Does x) (stepped p x n)
      step = (calm.0, there, refl)

      same : n.core.vault ≡ p.core.vault
      same = vault_same (frame_of p.log p.core) p.core.vault n.core.vault x calm.1 (step_has_vault p.log n.log p.core n.core x there.0)

  pub quiet_course : QuietCourse means
  quiet_course s B p n [] v at quiet course = record { to = p; course = refl; moment = course; is = at; keeps = record { under_way = λ h k way. way; whole = λ whole. whole; held = λ held. held } }
  quiet_course s B p n (x ∷ xs) v at quiet course =
      let parts = and_parts (is_quiet x) (list_all is_quiet xs) quiet in
      let first = one_on s B p course.0 x v at parts.0 course.1 in
      let rest = quiet_course s B (stepped p x course.0) n xs v first.is parts.1 course.2 in
      record {
        to = rest.to;
        course = (stepped p x course.0, first.step, rest.course);
        moment = rest.moment;
        is = rest.is;
        keeps = record { under_way = λ h k way. rest.keeps.under_way h k (first.keeps.under_way h k way); whole = λ whole. rest.keeps.whole (first.keeps.whole whole); held = λ held. rest.keeps.held (first.keeps.held held) };
      }
