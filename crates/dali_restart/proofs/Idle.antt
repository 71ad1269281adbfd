-- Where no record stands behind the image, or one of a restart alone, nothing is due.
use Rattle.std.proofs.Common.{◌≡◌, ◌⊎◌, inl, inr, ⊎_elim, ℕ, zero, suc, ◌≤◌, Bool, true, false, List, [], ◌∷◌, drop, length, Option, Some, None, refl, ap, sym, subst, ◌∙◌, arith}
use Rattle.std.specs.Prelude.{◌==◌, if◌then◌else◌, nat_le}
use Rattle.dali_record.specs.declared.records.Record.{Record}
use Rattle.dali_record.specs.declared.records.Record.TheVariants.{Restarted}
use Rattle.dali_record.specs.Files.{Files}
use Rattle.dali_record.specs.Log.{last_of}
use Rattle.dali_store.specs.Store.{Files as Disk}
use Rattle.dali_runs.specs.Run.{log_in}
use Rattle.dali_crash.specs.Disks.Disks.{Spells, sizes_in}
use Rattle.dali_resume.specs.Batches.{records_of}
use Rattle.dali_resume.specs.Rules.{ends_restarted}
use Rattle.dali_resume.specs.Interrupted.Found.{FindsIt}
use Rattle.dali_recovery.specs.Reload.Counting.{IsLast}
use Rattle.dali_recovery.specs.Reload.Reading.{IsReloaded}
use Rattle.dali_recovery.specs.declared.reload.counts.BeforeRestart.{BeforeRestart}
use Rattle.dali_restart.specs.declared.restarting.Due.TheVariants as dues
use Rattle.dali_restart.specs.declared.restarting.Found.{Found}
use Rattle.dali_restart.specs.Deciding.{ReadsAll, before, due_by, due_of}
use Rattle.dali_restart.specs.Restarting.{IsAtRest}
use Rattle.dali_restart.proofs.Beginning.{begins}
use Rattle.dali_restart.proofs.Telling.{read_behind}

one_at_most : (n : ℕ) → n ≤ 1 → nat_le n 1 ≡ true
one_at_most zero le = refl
one_at_most (suc zero) le = refl
one_at_most (suc (suc n)) le = absurd (omega (arith, le))

due_at_rest : (x : Found) (o : Option BeforeRestart) → (o ≡ None → x.reloaded.counts.records ≡ 0) → x.reloaded.counts.records ≤ 1 → due_by x o ≡ dues.Nothing
due_at_rest x None empty le = ap (λ (n : ℕ). if n == 0 then dues.Nothing else dues.Record) (empty refl)
due_at_rest x (Some m) empty le = ap (λ (b : Bool). if b then dues.Nothing else dues.Image (before x m)) (one_at_most x.reloaded.counts.records le)

told_last : (p : ℕ) (bs : List (List Record)) (o : Option BeforeRestart) (rs ds : List ℕ) → IsLast p bs o → records_of bs ≡ Restarted rs ds ∷ [] → o ≡ None → ⊥
told_last p bs None rs ds last same none = let e : true ≡ false = ap (λ (l : List Record). ends_restarted (last_of l)) (sym same) ∙ last in absurd cc
told_last p bs (Some m) rs ds last same none = absurd cc

pub rests_idle : (fs : Disk) (F : Files) (x : Found) → Spells fs F → FindsIt F → ReadsAll fs x → IsAtRest F → due_of x ≡ dues.Nothing
rests_idle fs F x is finds all rests = ⊎_elim none some rests
  where
    read : IsReloaded fs.log (sizes_in F) F x.reloaded
    read = (all (sizes_in F) F (begins fs F is finds)).1

    records : records_of read.batches ≡ drop F.first (log_in F)
    records = (read_behind fs F is finds x.reloaded read).records

    none : drop F.first (log_in F) ≡ [] → due_of x ≡ dues.Nothing
    none e =
        let zero_read : x.reloaded.counts.records ≡ 0 = read.counted.records ∙ ap length (records ∙ e) in
        due_at_rest x x.reloaded.counts.restarted (λ q. zero_read) (omega (arith, zero_read))

    some : (rs ds : List ℕ) × (drop F.first (log_in F) ≡ Restarted rs ds ∷ []) → due_of x ≡ dues.Nothing
    some q =
        let one_read : x.reloaded.counts.records ≡ 1 = read.counted.records ∙ ap length (records ∙ q.2) in
        due_at_rest x x.reloaded.counts.restarted (λ e. absurd (told_last F.place read.batches x.reloaded.counts.restarted q.0 q.1 read.counted.last (records ∙ q.2) e)) (omega (arith, one_read))
