-- Without a stray write an engine is what a plain replay of its whole log comes to.
use Rattle.std.proofs.Common.{◌≡◌, ℕ, ◌+◌, Bool, true, false, List, [], ◌∷◌, ◌++◌, Option, Some, None, refl, sym, ◌∙◌, ap, subst, take, drop, length, inl, inr, append_assoc, zero, suc}
use Rattle.std.specs.Prelude.{◌↔◌, IfSome, slice_get, flat_map, Contains}
use Rattle.std.specs.List.Sorted.{IsStrictlyIncreasing}
use Rattle.std.proofs.Math.Seq.{take-append-add}
use Rattle.std.proofs.lemmas.List.{append-nil, take-append-drop}
use Rattle.dali_record.specs.declared.records.Record.{Record}
use Rattle.dali_record.specs.declared.records.Record.TheVariants as records
use Rattle.dali_record.specs.Epochs.{last_epoch}
use Rattle.dali_record.specs.Files.{Files}
use Rattle.dali_record.specs.Legal.{IsLegal, IsLegalFor}
use Rattle.dali_record.specs.Spelling.{CanBeSpelled}
use Rattle.dali_geometry.specs.Sizes.{Sizes}
use Rattle.dali_history.specs.Acknowledged.{IsDeletedByChain}
use Rattle.dali_history.proofs.HeadlineLemmas.Undamaged.{undamaged_deleted}
use Rattle.dali_store.specs.Store.{Files as Disk}
use Rattle.dali_store.specs.declared.store.Store.{Ghosts}
use Rattle.dali_log.specs.Log.{AreSpelled, LogOf, records_in}
use Rattle.dali_log.proofs.Unique.{same_records, one_log, log_is_formatted}
use Rattle.dali_runs.specs.State.{SystemState, log_after}
use Rattle.dali_runs.specs.Run.{RunsOn, log_in}
use Rattle.dali_crash.specs.Traces.{bases_of}
use Rattle.dali_during.specs.Reported.{named_deleted, reported}
use Rattle.dali_during.proofs.Reported.{reports_all_deleted}
use Rattle.dali_during.proofs.Runs.{sizes_in_run}
use Rattle.dali_crash.specs.Disks.Disks.{AllSpell}
use Rattle.dali_crash.specs.Disks.Bridges.{TracedTo}
use Rattle.dali_crash.proofs.DisksLemmas.Bridges.{runs_at}
use Rattle.dali_listing.specs.Listing.{in_memory}
use Rattle.dali_verify.specs.Verified.{IsInFile, IsWholeLog, IsVerified, deleted_in, told_deleted}
use Rattle.dali_run.specs.Shown.{HoldsExpected, VerifiesAlways}
use Rattle.dali_run.proofs.Shown.{none_failed, shows_expected}

spelled_in : (n : ℕ) (L M : List Record) → ((i : ℕ) (r : Record) → slice_get (M ++ L) i ≡ Some r → CanBeSpelled r) → AreSpelled (drop n L)
spelled_in n L (x ∷ M) each = spelled_in n L M (λ i r at. each (suc i) r at)
spelled_in zero [] [] each = tt
spelled_in zero (r ∷ L) [] each = (each 0 r refl, spelled_in zero L [] (λ i s at. each (suc i) s at))
spelled_in (suc n) [] [] each = tt
spelled_in (suc n) (r ∷ L) [] each = spelled_in n L [] (λ i s at. each (suc i) s at)

-- both tell the deleted lists of restarts
same_deleted : (r : Record) → deleted_in r ≡ named_deleted r
same_deleted (records.Format index heap) = refl
same_deleted _ = refl

same_told : (L : List Record) → told_deleted L ≡ flat_map named_deleted L
same_told [] = refl
same_told (r ∷ L) = ap (λ (l : List ℕ). l ++ told_deleted L) (same_deleted r) ∙ ap (λ (l : List ℕ). named_deleted r ++ l) (same_told L)

-- the whole log that is read is that of the run
whole_is : (fs : Disk) (y : SystemState) (L before : List Record) (F : Files) (e : ℕ) (w : IsWholeLog fs.log y L) → LogOf fs.log F.batches e → log_in F ≡ before ++ take y.taken y.since
    → AreSpelled (drop y.taken y.since) → L ≡ before ++ y.since
whole_is fs y L before F e w log flushed spelled =
    let front : w.flushed ≡ before ++ take y.taken y.since = by_file w.file ∙ flushed in
    let behind : w.waiting ≡ drop y.taken y.since = sym (same_records (drop y.taken y.since) w.waiting spelled w.spelled.0 w.spelled.1) in
    w.all
    ∙ ap (λ (l : List Record). l ++ w.waiting) front
    ∙ ap (λ (l : List Record). (before ++ take y.taken y.since) ++ l) behind
    ∙ append_assoc before (take y.taken y.since) (drop y.taken y.since)
    ∙ ap (λ (l : List Record). before ++ l) (take-append-drop y.taken y.since)
  where
    by_file : IsInFile fs.log w.flushed → w.flushed ≡ log_in F
    by_file (inl none) = absurd (log_is_formatted fs.log F.batches e log none.0)
    by_file (inr has) = has.3 ∙ ap records_in ((one_log fs.log has.0 F.batches has.1 e has.2 log).0)

module _ {V : Type 0} (g : Ghosts V) (reads_now : (s : V) → IfSome (g.told s) (λ fs. g.may_leave s fs)) where
  pub verifies : VerifiesAlways g
  verifies s B p gs y v begins tells history serves clean = by_told (g.told v.store) (reads_now v.store) begins.stands.at.vault.files
    where
      held : HoldsExpected p.log gs y
      held = shows_expected g reads_now s B p gs y v begins tells history serves clean

      runs : RunsOn (bases_of s) p.log p.core
      runs = subst (λ (L : List Record). RunsOn (bases_of s) L p.core) (sym begins.stands.at.vault.run.run.log) begins.stands.at.vault.run.run.run.runs

      legal : IsLegal p.log
      legal = subst (λ (z : Sizes). IsLegalFor z p.log) (sym (sizes_in_run (bases_of s) p.log p.core runs)) runs.log.legal

      lists : reported p.log ≡ told_deleted p.log
      lists =
          ap (λ (l : List ℕ). flat_map named_deleted p.log ++ l) (undamaged_deleted (last_epoch p.log) (none_failed g reads_now s B p gs y v begins serves))
          ∙ append-nil (flat_map named_deleted p.log)
          ∙ sym (same_told p.log)

      verified : IsVerified y.sizes (in_memory gs) p.log
      verified =
          let reports = reports_all_deleted p.log legal in
          record {
            map = held.expects;
            answers = held.defined;
            records = held.records;
            deleted = λ t. subst (λ (l : List ℕ). Contains l t ↔ IsDeletedByChain p.log t) lists (reports.members t);
            ascends = subst IsStrictlyIncreasing lists reports.ascends;
          }

      runs_on : p.core.vault.stopped ≡ false
      runs_on = by_test p.core.vault.stopped refl
        where
          by_test : (b : Bool) → p.core.vault.stopped ≡ b → p.core.vault.stopped ≡ false
          by_test false is = is
          by_test true is =
              let stop = begins.between.rests.stopped is in
              let clash : Some stop.0 ≡ None = sym stop.1 ∙ (ap (λ (z : SystemState). z.stop) begins.stands.at.system ∙ serves.runs) in absurd cc

      log_is : p.log ≡ s.log ++ y.since
      log_is = begins.stands.at.vault.run.run.log ∙ ap (λ (z : SystemState). log_after s.log z) begins.stands.at.system

      flushed : (F : Files) → TracedTo s B p F → log_in F ≡ s.log ++ take y.taken y.since
      flushed F t =
          let there = (runs_at s B p F t).run in
          let exact = (there.run.vault.exact runs_on F refl).log in
          let n : p.core.vault.flushed ≡ y.taken =
          begins.stands.at.vault.vault.flushed ∙ begins.stands.at.none_in_hand (sym begins.stands.at.vault.vault.stopped ∙ runs_on) in
          exact
          ∙ ap (λ (m : ℕ). take (m + p.core.vault.flushed) (log_after s.log p.core.system)) there.run.first
          ∙ ap (λ (m : ℕ). take (length s.log + m) (log_after s.log p.core.system)) n
          ∙ ap (λ (z : SystemState). take (length s.log + y.taken) (log_after s.log z)) begins.stands.at.system
          ∙ take-append-add s.log y.since y.taken

      by_told : (o : Option Disk) → IfSome o (λ fs. g.may_leave v.store fs) → IfSome o (λ _. AllSpell (g.may_leave v.store) (TracedTo s B p))
          → IfSome o (λ fs. (L : List Record) → IsWholeLog fs.log y L → IsVerified y.sizes (in_memory gs) L)
      by_told None now all = tt
      by_told (Some fs) now all = λ L w.
          let one = all fs now in
          let spelled : AreSpelled (drop y.taken y.since) = spelled_in y.taken y.since s.log (subst (λ (M : List Record). (i : ℕ) (r : Record) → slice_get M i ≡ Some r → CanBeSpelled r) log_is runs.log.spelled) in
          subst (λ (M : List Record). IsVerified y.sizes (in_memory gs) M)
          (log_is ∙ sym (whole_is fs y L s.log one.0 one.1.end w one.1.log (flushed one.0 one.2) spelled)) verified
