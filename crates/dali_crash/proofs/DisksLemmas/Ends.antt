-- The batches of a disk that came along steps are those of a front of a legal log, and each of them has a record.
use Rattle.std.proofs.Common.{◌≡◌, ℕ, zero, suc, ◌<◌, ◌≤◌, ◌^◌, List, [], ◌∷◌, length, take, drop, Some, ap, sym, subst, ◌∙◌, refl, arith, take-append-drop}
use Rattle.std.specs.Prelude.{flat_map, slice_get, sum_by}
use Rattle.std.specs.List.{AllByRecursion}
use Rattle.std.proofs.lemmas.List.Sums.{sum_by-cons}
use Rattle.dali_record.specs.declared.records.Record.{Record}
use Rattle.dali_record.specs.Legal.{IsLegalFor}
use Rattle.dali_record.specs.Files.{Files, batch_length}
use Rattle.dali_history.specs.History.{AreSpelled}
use Rattle.dali_history.proofs.Prefixes.{IsLegalFor-front}
use Rattle.dali_history.proofs.Spelled.{AreSpelled-front}
use Rattle.dali_runs.proofs.CountsLemmas.ShortLogs.{batches_framed, file_is_short}
use Rattle.dali_store.specs.Store.{Files as Disk}
use Rattle.dali_log.specs.Batch.{IsBody}
use Rattle.dali_log.specs.Log.{body_bytes, bodies, LogOf}
use Rattle.dali_runs.specs.Run.{log_in, only}
use Rattle.dali_crash.specs.StoreRuns.{StoreRun, IsPlace}
use Rattle.dali_crash.specs.Checkpoints.{Point}
use Rattle.dali_crash.specs.Traces.{Start, bases_of}
use Rattle.dali_crash.specs.Disks.Bridges.{TracedTo}
use Rattle.dali_crash.specs.Disks.Ends.{EndIsSmall, PlaceIsSmall, LogIsFramed}
use Rattle.dali_crash.proofs.DisksLemmas.Bridges.{ends_at, runs_at}

some_body : (b : List Record) → IsBody (body_bytes b) → 1 ≤ length b
some_body [] is = absurd (omega (arith, is.0))
some_body (r ∷ b) is = omega arith

pub some_in : (B : List (List Record)) → AllByRecursion IsBody (bodies B) → (i : ℕ) (b : List Record) → slice_get B i ≡ Some b → 1 ≤ length b
some_in [] all i b e = absurd (cc)
some_in (c ∷ B) all zero b e = let same : c ≡ b = cc in subst (λ z. 1 ≤ length z) same (some_body c all.0)
some_in (c ∷ B) all (suc i) b e = some_in B all.1 i b e

first_less : (k : ℕ) (B : List (List Record)) → sum_by batch_length (take k B) ≤ sum_by batch_length B
first_less zero B = omega arith
first_less (suc k) [] = omega arith
first_less (suc k) (b ∷ B) = omega (arith, first_less k B, sum_by-cons batch_length b (take k B), sum_by-cons batch_length b B)

-- all batches that a disk has
disk_is_short : (s : Start) (B : List (List Record)) (p : Point) (d : Disk) (D : Files) (end : ℕ) → TracedTo s B p D → LogOf d.log D.batches end → sum_by batch_length D.batches < 2 ^ 62
disk_is_short s B p d D end t log = file_is_short p.core.system.sizes D.batches legal spelled (some_in D.batches log.front.sizes)
  where
    run : StoreRun (bases_of s) s.log (only D) p
    run = runs_at s B p D t

    whole : IsLegalFor p.core.system.sizes p.log
    whole = subst (IsLegalFor p.core.system.sizes) (sym run.run.log) run.run.run.runs.log.legal

    each : AreSpelled p.log
    each = subst AreSpelled (sym run.run.log) run.run.run.runs.log.spelled

    front : (n : ℕ) × (log_in D ≡ take n p.log)
    front = let w = run.run.run.vault.prefix D refl in (w.count, w.log ∙ ap (take w.count) (sym run.run.log))

    legal : IsLegalFor p.core.system.sizes (flat_map (λ b. b) D.batches)
    legal = subst (IsLegalFor p.core.system.sizes) (sym front.1) (IsLegalFor-front p.core.system.sizes (take front.0 p.log) (drop front.0 p.log) (subst (IsLegalFor p.core.system.sizes) (sym (take-append-drop front.0 p.log)) whole))

    spelled : AreSpelled (flat_map (λ b. b) D.batches)
    spelled = subst AreSpelled (sym front.1) (AreSpelled-front (take front.0 p.log) (drop front.0 p.log) (subst AreSpelled (sym (take-append-drop front.0 p.log)) each))

pub end_is_small : (may : Disk → Type 0) → EndIsSmall may
end_is_small may s B p all d left runs =
    let D = all d left in
    let end : p.core.vault.end ≡ sum_by batch_length D.0.batches = ((runs_at s B p D.0 D.2).run.run.vault.exact runs D.0 refl).end in
    omega (arith, end, disk_is_short s B p d D.0 D.1.end D.2 D.1.log)

pub place_is_small : (may : Disk → Type 0) → PlaceIsSmall may
place_is_small may s B p all d left h begun =
    let D = all d left in
    let place : IsPlace D.0 h.first h.place = ((runs_at s B p D.0 D.2).kept h begun).place D.0 refl in
    omega (arith, place.2, first_less place.0 D.0.batches, disk_is_short s B p d D.0 D.1.end D.2 D.1.log)

pub log_is_framed : LogIsFramed
log_is_framed bytes B end log = omega (arith, ends_at bytes B end log, batches_framed B (some_in B log.front.sizes))
