-- Where the record of the restart is due and doesn't fit a batch, it is due in what was read.
use Rattle.std.proofs.Common.{◌≡◌, ℕ, ◌<◌, ◌^◌, cond, List, [], ◌∷◌, ◌++◌, length, Option, Some, None, refl, ap, sym, subst, ◌∙◌, arith}
use Rattle.std.proofs.lemmas.Bool.{both_ways, ne_eqb}
use Rattle.std.proofs.lemmas.List.Concat.{flat_map-append}
use Rattle.std.specs.Prelude.{false}
use Rattle.dali_record.specs.declared.records.Record.{Record}
use Rattle.dali_record.specs.declared.records.Record.TheVariants.{Restarted}
use Rattle.dali_record.specs.Log.{last_of}
use Rattle.dali_record.proofs.Ends.{last_of_push}
use Rattle.dali_store.specs.Store.{Files as Disk}
use Rattle.dali_resume.specs.Again.{Outcome}
use Rattle.dali_resume.specs.Batches.{records_of, verdict_over}
use Rattle.dali_resume.specs.Rules.{ends_restarted}
use Rattle.dali_recovery.specs.Laws.{outcome_of}
use Rattle.dali_recovery.specs.Reload.Counting.{IsLast}
use Rattle.dali_recovery.specs.Reload.Reading.{IsReloaded}
use Rattle.dali_recovery.specs.declared.reload.counts.BeforeRestart.{BeforeRestart}
use Rattle.dali_recovery.proofs.ReloadLemmas.Tails.{one_tail}
use Rattle.dali_recovery.proofs.Whole.{handed_same}
use Rattle.dali_restart.specs.Deciding.{IsReadIn, due_by, due_of}
use Rattle.dali_restart.specs.Renewal.Logged.{restart_length}
use Rattle.dali_restart.specs.Short.{DoesNotFit}
use Rattle.dali_restart.specs.declared.restarting.Due.TheVariants as dues
use Rattle.dali_restart.specs.declared.restarting.Found.{Found}

none_last : (p : ℕ) (bs : List (List Record)) (c o : Option BeforeRestart) → o ≡ c → ends_restarted (last_of (records_of bs)) ≡ false → IsLast p bs c → o ≡ None
none_last p bs None o same other last = same
none_last p bs (Some m) o same other last =
    let ends : records_of bs ≡ records_of last.front ++ Restarted last.rolled last.deleted ∷ [] =
    ap records_of last.alone ∙ flat_map-append (λ b. b) last.front ((Restarted last.rolled last.deleted ∷ []) ∷ []) in
    absurd (both_ways (ends_restarted (last_of (records_of bs))) other
    (ap (λ Q. ends_restarted (last_of Q)) ends ∙ ap ends_restarted (last_of_push (records_of last.front) (Restarted last.rolled last.deleted))))

pub is_due : (fs : Disk) (may : Disk → Type 0) (x : Found) (o : Outcome) → IsReadIn fs may x → DoesNotFit fs o
    → (due_of x ≡ dues.Record) × (2 ^ 30 < restart_length x.reloaded.recovered.rolled_back.items x.reloaded.recovered.deleted.items)
is_due fs may x o is large =
    let r : IsReloaded fs.log large.is.sizes large.is.files x.reloaded = (is.reads large.is.sizes large.is.files large.is.image).1 in
    let same : large.is.batches ≡ r.batches = sym (one_tail fs.log large.is.files.place r.batches large.is.batches x.reloaded.end large.is.end r.tail large.is.log).0 in
    let out : o ≡ outcome_of x.reloaded.recovered = handed_same o (outcome_of x.reloaded.recovered) (sym large.is.verdict ∙ (ap (verdict_over large.is.sizes large.is.files) same ∙ r.verdict)) in
    let other : ends_restarted (last_of (records_of r.batches)) ≡ false = subst (λ B. ends_restarted (last_of (records_of B)) ≡ false) same large.last in
    let none : x.reloaded.counts.restarted ≡ None = none_last large.is.files.place r.batches x.reloaded.counts.restarted x.reloaded.counts.restarted refl other r.counted.last in (
      ap (due_by x) none
          ∙ ap (λ z. cond z dues.Nothing dues.Record) (ne_eqb x.reloaded.counts.records 0 (λ e. absurd (omega (arith, e, large.some, r.counted.records, ap (λ B. length (records_of B)) same)))),
      subst (λ (u : Outcome). 2 ^ 30 < restart_length u.rolled u.deleted) out large.long,
    )
