-- A core over the log that a restart has renewed.
--     resting_behind p end r   where that log stands: the record r of the restart is its last, and it ends here
--     HasRoom p end L          its end and the number of its image are no greater than its records allow
--     RestsBehind              these are the numbers of the log, whose last epoch has no record
--     BeginsBehind             so a run begins with the core that rises there, where each disk spells files with the image of the restart
use Rattle.std.specs.Prelude.{◌≡◌, ◌≤◌, ◌+◌, ◌*◌, ◌^◌, ℕ, Bool, List, [], ◌∷◌, ◌++◌, Option, Some, IfSome, length, sum_by}
use Rattle.dali_record.specs.declared.records.Record.{Record}
use Rattle.dali_record.specs.Legal.{Rules, rules_state, sizes_of}
use Rattle.dali_record.specs.Spelling.{record_length}
use Rattle.dali_record.specs.Files.{batch_length}
use Rattle.dali_region.specs.declared.Side.{Side}
use Rattle.dali_region.specs.State.{RegionState}
use Rattle.dali_store.specs.Store.{Files as Disk}
use Rattle.dali_store.specs.declared.store.Store.{Ghosts}
use Rattle.dali_runs.specs.Images.{Told}
use Rattle.dali_system.specs.Served.{Served}
use Rattle.dali_crash.specs.Checkpoints.{Head}
use Rattle.dali_crash.specs.Traces.{start_point}
use Rattle.dali_crash.specs.Disks.Disks.{AllSpell}
use Rattle.dali_core.specs.Vault.Vaulted.{Vaulted}
use Rattle.dali_core.specs.Cores.{IsCoreAt}
use Rattle.dali_resume.specs.Again.{closing, closed_log}
use Rattle.dali_resume.specs.Interrupted.Stages.{IsTurned}
use Rattle.dali_restart.specs.declared.renewal.renewing.Standing.{Standing}
use Rattle.dali_restart.specs.Renewal.Renewed.{IsStanding}
use Rattle.dali_restart.specs.declared.rise.rising.Resting.{Resting}
use Rattle.dali_restart.specs.Rise.Risen.{IsRisen, IsAtLog, RunBegins, start_at}

abbrev pub resting_behind : Standing → ℕ → Record → Resting
resting_behind p end r = record { geometry = p.geometry; records = p.first + 1; weight = p.weight + record_length r; next = p.next; end = end; current = p.current + 1 }

pub record HasRoom (p : Standing) (end : ℕ) (L : List Record) : Type 0 where
  pub short : end ≤ sum_by record_length (closed_log L) + 5 * length (closed_log L)
  pub moved : p.current + 1 ≤ length (closed_log L) + 2 ^ 61

abbrev pub RestsBehind : Type 0
RestsBehind =
    (L : List Record) (B : List (List Record)) (n : ℕ) (p : Standing) (words : List (List ℕ)) (end : ℕ) (g : Rules) → IsStanding L B n p words → HasRoom p end L
    → rules_state (sizes_of (closed_log L)) (closed_log L) ≡ Some g
    → IsAtLog (closed_log L) g (resting_behind p end (closing L)) words

module _ {V : Type 0} (means : Ghosts V) where
  abbrev pub BeginsBehind : Type 0
  BeginsBehind =
      (L : List Record) (B : List (List Record)) (n : ℕ) (p : Standing) (image : List (List ℕ)) (end limit : ℕ) (g : Rules)
      (store : V) (gs : List RegionState) (y : Served) (v : Vaulted V) (words : Told) (heads : Side → Head) (synced : Side → Bool)
      → IsStanding L B n p image → HasRoom p end L → limit ≤ 268435456
      → rules_state (sizes_of (closed_log L)) (closed_log L) ≡ Some g
      → end ≡ sum_by batch_length (B ++ (closing L ∷ []) ∷ [])
      → IfSome (means.told store) (λ _. AllSpell (means.may_leave store) (IsTurned L B n))
      → IsRisen (resting_behind p end (closing L)) image limit store gs y v
      → RunBegins means (resting_behind p end (closing L)) image limit gs y.state v
      → let start = start_at means (closed_log L) g limit v words heads synced in
      IsCoreAt means start (B ++ (closing L ∷ []) ∷ []) (start_point start) gs y.state v
