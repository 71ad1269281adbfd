-- Each step on the vault keeps its part.
use Rattle.std.proofs.Common.{ℕ, ◌+◌, ◌*◌, ◌≤◌, List, ◌++◌, refl, ap, sym, subst, ◌∙◌, inl, inr, ⊎_elim, arith}
use Rattle.std.specs.Prelude.{drop, sum_by, take}
use Rattle.std.proofs.lemmas.List.{length-append, take-append-le}
use Rattle.dali_record.specs.declared.records.Record.{Record}
use Rattle.dali_record.specs.Files.{Files}
use Rattle.dali_record.specs.Spelling.{record_length}
use Rattle.dali_runs.specs.Run.{VaultRun, IsPrefix, IsFlushed, only, no_image}
use Rattle.dali_runs.specs.Courses.{Begins, Operates, Answers, AuditEnds, OnRegion, Dies, GivesBack, Recovers, Stops, Checkpoints, Takes, Flushes, Faults, ReadFails}
use Rattle.dali_runs.specs.State.{VaultState, CoreState}
use Rattle.dali_runs.specs.Flushes.{with_frame}
use Rattle.dali_runs.proofs.Flushes.{flush_leaves, fault_leaves, read_leaves, end_within}
use Rattle.dali_runs.specs.Parts.Vaults.{VaultFlushes, VaultFaults, VaultReads, VaultMisses, VaultIsShort, BareVaultFlushes, BareVaultFaults, BareVaultReads, BareVaultMisses, BareVaultIsShort, StepHasVault}

pub vault_flushes : VaultFlushes
vault_flushes L n m v D run from within runs = flush_leaves (only D) (only (with_frame D (drop n (take m L)))) L n m v run from within runs (record { each = λ F is. (D, refl, is) })

pub vault_faults : VaultFaults
vault_faults L n m faults v D F run from within runs rose left =
    fault_leaves (only D) (only F) L n m faults v run from within runs rose
    (record { each = λ G is. (D, refl, ⊎_elim (λ same. inl (is ∙ same)) (λ more. inr (is ∙ more)) left) })

pub vault_reads : VaultReads
vault_reads L n faults v D run rose = read_leaves (only D) L n faults v run rose

pub vault_is_short : VaultIsShort
vault_is_short s L n v D log run = end_within s L n v.end log run.within run.short

misses : (leave : Files → Type 0) (L more : List Record) (n : ℕ) (v : VaultState) → VaultRun leave L n v → VaultRun leave (L ++ more) n v
misses leave L more n v run = record {
  within = omega (arith, run.within, length-append L more);
  prefix = λ F h. let was : IsPrefix L n F = run.prefix F h in record { count = was.count; flushed = was.flushed; within = omega (arith, was.within, length-append L more); log = was.log ∙ sym (take-append-le was.count L more was.within) };
  exact = λ running F h. let was : IsFlushed L n v F = run.exact running F h in record { log = was.log ∙ sym (take-append-le n L more run.within); end = was.end };
  short = subst (λ K. v.end ≤ sum_by record_length K + 5 * n) (sym (take-append-le n L more run.within)) run.short;
  then_fits = run.then_fits;
  counts = run.counts;
  rose = run.rose;
}

pub vault_misses : VaultMisses
vault_misses L more n v D run = misses (only D) L more n v run

-- ---- where nothing is said of crashes
pub bare_vault_flushes : BareVaultFlushes
bare_vault_flushes L n m v run from within runs = flush_leaves no_image no_image L n m v run from within runs (record { each = λ F h. absurd h })

pub bare_vault_faults : BareVaultFaults
bare_vault_faults L n m faults v run from within runs rose = fault_leaves no_image no_image L n m faults v run from within runs rose (record { each = λ F h. absurd h })

pub bare_vault_reads : BareVaultReads
bare_vault_reads L n faults v run rose = read_leaves no_image L n faults v run rose

pub bare_vault_misses : BareVaultMisses
bare_vault_misses L more n v run = misses no_image L more n v run

pub bare_vault_is_short : BareVaultIsShort
bare_vault_is_short s L n v log run = end_within s L n v.end log run.within run.short

-- whatever a crash may leave, the vault's part is that of each of its images
pub of_each : (leave : Files → Type 0) (L : List Record) (n : ℕ) (v : VaultState) (F : Files) → VaultRun leave L n v → leave F → VaultRun (only F) L n v
of_each leave L n v F run may = record {
  within = run.within;
  prefix = λ G is. run.prefix G (subst leave (sym is) may);
  exact = λ running G is. run.exact running G (subst leave (sym is) may);
  short = run.short;
  then_fits = run.then_fits;
  counts = run.counts;
  rose = run.rose;
}

abbrev vault_of : CoreState → VaultState
vault_of c = c.vault

pub step_has_vault : StepHasVault
step_has_vault L M c d Begins s = ap vault_of s.1.1
step_has_vault L M c d (Operates t b) s = ap vault_of s.3.1
step_has_vault L M c d (Answers t k a) s = ap vault_of s.3.1
step_has_vault L M c d (AuditEnds b found) s = ap vault_of s.1.1
step_has_vault L M c d (OnRegion r x) s = ap vault_of s.3.1
step_has_vault L M c d (Dies t o) s = ap vault_of s.1.1
step_has_vault L M c d (GivesBack t o) s = ap vault_of s.1.1
step_has_vault L M c d (Recovers r) s = ap vault_of s.3.1
step_has_vault L M c d Stops s = ap vault_of s.1.1
step_has_vault L M c d (Checkpoints b) s = ap vault_of s.1.1
step_has_vault L M c d Takes s = ap vault_of s.1
step_has_vault L M c d Flushes s = (s.0, ap vault_of s.1.1)
step_has_vault L M c d (Faults n) s = (s.0, s.1, ap vault_of s.2.1)
step_has_vault L M c d (ReadFails n) s = (s.0, ap vault_of s.1.1)
step_has_vault L M c d _ s = ap vault_of s.2.1
