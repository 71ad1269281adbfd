-- A frame that is taken, its flush, and a fault in one, keep a run.
use Rattle.std.proofs.Common.{◌≡◌, ℕ, ◌+◌, ◌*◌, ◌<◌, ◌≤◌, false, List, [], ◌∷◌, ◌++◌, length, take, drop, refl, ap, sym, ◌∙◌, inl, inr, ⊎_elim, arith}
use Rattle.std.specs.Prelude.{◌^◌, flat_map, sum_by}
use Rattle.std.proofs.lemmas.List.{take-append-drop, append-nil, length-drop, length-take-le, take-take}
use Rattle.std.proofs.lemmas.List.Sums.{sum_by_push, sum_by-append}
use Rattle.std.proofs.lemmas.Grind.{flat_map-append}
use Rattle.dali_record.specs.declared.records.Record.{Record}
use Rattle.dali_record.specs.Files.{Files, batch_length}
use Rattle.dali_record.specs.Spelling.{record_length}
use Rattle.dali_geometry.specs.Sizes.{Sizes}
use Rattle.dali_runs.proofs.CountsLemmas.ShortLogs.{is_short}
use Rattle.dali_runs.specs.State.{VaultState, CoreState, stable, log_after}
use Rattle.dali_runs.specs.Run.{LogRun, CountRun, VaultRun, log_in, IsPrefix, IsFlushed, HasRisen, Bases, RunsOn}
use Rattle.dali_runs.specs.Flushes.{with_batch, with_vault, longer, read_failed, TakeKeeps, FlushKeeps, FaultKeeps, FlushLeaves, FaultLeaves, EndIsSmall}

batch_added : (batches : List (List Record)) (frame : List Record) → flat_map (λ b. b) (with_batch batches frame) ≡ flat_map (λ b. b) batches ++ frame
batch_added batches [] = sym (append-nil (flat_map (λ b. b) batches))
batch_added batches (r ∷ rs) = flat_map-append (λ b. b) batches ((r ∷ rs) ∷ []) ∙ ap (λ l. flat_map (λ b. b) batches ++ l) (append-nil (r ∷ rs))

pub log_with : (F D : Files) (frame : List Record) → F.batches ≡ with_batch D.batches frame → log_in F ≡ log_in D ++ frame
log_with F D frame e = ap (flat_map (λ b. b)) e ∙ batch_added D.batches frame

-- the first n records, and a frame from there to the first m
taken_log : (L : List Record) (n m : ℕ) (F D : Files) → n ≤ m → log_in D ≡ take n L → F.batches ≡ with_batch D.batches (drop n (take m L)) → log_in F ≡ take m L
taken_log L n m F D h was is =
    log_with F D (drop n (take m L)) is
    ∙ (ap (λ l. l ++ drop n (take m L)) (was ∙ sym (take-take n m L h)) ∙ take-append-drop n (take m L))

length-with : (batches : List (List Record)) (frame : List Record) (v : VaultState) → v.end ≡ sum_by batch_length batches → (longer v frame).end ≡ sum_by batch_length (with_batch batches frame)
length-with batches [] v e = e
length-with batches (r ∷ rs) v e = ap (λ k. k + batch_length (r ∷ rs)) e ∙ sym (sum_by_push batch_length batches (r ∷ rs))

longer_counts : (v : VaultState) (frame : List Record) → v.faults_then ≤ v.faults → (longer v frame).faults_then ≤ (longer v frame).faults
longer_counts v [] h = h
longer_counts v (r ∷ rs) h = h

longer_then : (v : VaultState) (frame : List Record) → v.faults_then < 2 ^ 64 → (longer v frame).faults_then < 2 ^ 64
longer_then v [] h = h
longer_then v (r ∷ rs) h = h

-- a count that rose in a call rose since the load too
pub risen_since : (then before now : ℕ) → then ≤ before → HasRisen before now → HasRisen then now
risen_since then before now h rose = ⊎_elim (λ more. inl (omega (arith, h, more))) (λ full. inr full) rose

pub no_less : (then before now : ℕ) → then < 2 ^ 64 → then ≤ before → HasRisen before now → then ≤ now
no_less then before now fits h rose = ⊎_elim (λ more. omega (arith, h, more)) (λ full. omega (arith, fits, full)) rose

pub longer_flushed : (v : VaultState) (frame : List Record) → (longer v frame).flushed ≡ v.flushed + length frame
longer_flushed v [] = omega arith
longer_flushed v (r ∷ rs) = refl

-- a frame from the first n records to the first m
pub length-frame : (L : List Record) (n m : ℕ) → n ≤ m → m ≤ length L → n + length (drop n (take m L)) ≡ m
length-frame L n m h g = omega (arith, h, length-drop n (take m L), length-take-le m L g)

-- a batch is its records with a frame, and an empty one isn't written
longer_end : (v : VaultState) (frame : List Record) → (longer v frame).end ≤ v.end + sum_by record_length frame + 5 * length frame
longer_end v [] = omega arith
longer_end v (r ∷ rs) = omega arith

longer_within :
    (L : List Record) (n m : ℕ) (v : VaultState) → n ≤ m → m ≤ length L → v.end ≤ sum_by record_length (take n L) + 5 * n
    → (longer v (drop n (take m L))).end ≤ sum_by record_length (take m L) + 5 * m
longer_within L n m v from to short =
    let frame : List Record = drop n (take m L) in
    let whole : sum_by record_length (take m L) ≡ sum_by record_length (take n L) + sum_by record_length frame =
    ap (sum_by record_length) (sym (ap (λ l. l ++ frame) (sym (take-take n m L from)) ∙ take-append-drop n (take m L))) ∙ sum_by-append record_length (take n L) frame in
    omega (arith, short, whole, longer_end v frame, length-frame L n m from to)

pub longer_stopped : (v : VaultState) (frame : List Record) → (longer v frame).stopped ≡ v.stopped
longer_stopped v [] = refl
longer_stopped v (r ∷ rs) = refl

pub take_keeps : TakeKeeps
take_keeps bases L c run = record {
  log = run.log;
  counts = let q : CountRun c.system.sizes L c.system = run.counts in record { now = q.now; rules = q.rules; some = q.some; records = q.records; end = q.end; next = q.next; limit = q.limit; fresh = q.fresh; number = q.number; clean = q.clean };
  table = run.table;
  locks = record { held = run.locks.held; apart = run.locks.apart; owned = run.locks.owned; refused = run.locks.refused };
  stop = record { damage = run.stop.damage; failed = run.stop.failed; store = run.stop.store };
  whole = run.whole;
  base = run.base;
  regions = run.regions;
}

pub flush_keeps : FlushKeeps
flush_keeps bases L frame c run = record {
  log = run.log;
  counts = run.counts;
  table = run.table;
  locks = run.locks;
  stop = record { damage = run.stop.damage; failed = run.stop.failed; store = λ e. longer_stopped c.vault frame ∙ run.stop.store e };
  whole = run.whole;
  base = run.base;
  regions = run.regions;
}

pub fault_keeps : FaultKeeps
fault_keeps bases L c faults run = record {
  log = run.log;
  counts = run.counts;
  table = run.table;
  locks = run.locks;
  stop = record { damage = run.stop.damage; failed = run.stop.failed; store = λ e. refl };
  whole = run.whole;
  base = run.base;
  regions = run.regions;
}

pub read_keeps : (bases : Bases) (L : List Record) (c : CoreState) (faults : ℕ) → RunsOn bases L c → RunsOn bases L (with_vault c (read_failed c.vault faults))
read_keeps bases L c faults run = record {
  log = run.log;
  counts = run.counts;
  table = run.table;
  locks = run.locks;
  stop = record { damage = run.stop.damage; failed = run.stop.failed; store = run.stop.store };
  whole = run.whole;
  base = run.base;
  regions = run.regions;
}

-- a count that rose goes on to have risen
risen_still : (then before now : ℕ) → HasRisen then before → HasRisen before now → HasRisen then now
risen_still then before now was rose = ⊎_elim (λ less. risen_since then before now (omega (arith, less)) rose) (λ full. inr (⊎_elim (λ more. omega (arith, full, more)) (λ still. still) rose)) was

-- behind a read that failed, stopped or not
pub read_leaves : (leave : Files → Type 0) (L : List Record) (n faults : ℕ) (v : VaultState) → VaultRun leave L n v → HasRisen v.faults faults → VaultRun leave L n (read_failed v faults)
read_leaves leave L n faults v run rose = record {
  within = run.within;
  prefix = run.prefix;
  exact = λ running F h. let old : IsFlushed L n v F = run.exact running F h in record { log = old.log; end = old.end };
  short = run.short;
  then_fits = run.then_fits;
  counts = no_less v.faults_then v.faults faults run.then_fits run.counts rose;
  rose = λ h. risen_still v.faults_then v.faults faults (run.rose h) rose;
}

pub flush_leaves : (old new : Files → Type 0) → FlushLeaves old new
flush_leaves old new L n m v run from to runs store = record {
  within = to;
  prefix = λ F h. record { count = m; flushed = omega arith; within = to; log = has_taken F h };
  exact = λ running F h. record { log = has_taken F h; end = ends F h };
  short = longer_within L n m v from to run.short;
  then_fits = longer_then v frame run.then_fits;
  counts = longer_counts v frame run.counts;
  rose = λ h. let isnt : (longer v frame).stopped ≡ false = longer_stopped v frame ∙ runs in absurd (cc);
}
  where
    frame : List Record
    frame = drop n (take m L)

    has_taken : (F : Files) → new F → log_in F ≡ take m L
    has_taken F h = let w = store.each F h in taken_log L n m F w.0 from (run.exact runs w.0 w.1).log (ap (λ (f : Files). f.batches) w.2)

    ends : (F : Files) → new F → (longer v frame).end ≡ sum_by batch_length F.batches
    ends F h = let w = store.each F h in length-with w.0.batches frame v (run.exact runs w.0 w.1).end ∙ sym (ap (λ (f : Files). sum_by batch_length f.batches) w.2)

pub fault_leaves : (old new : Files → Type 0) → FaultLeaves old new
fault_leaves old new L n m faults v run from to runs rose store = record {
  within = run.within;
  prefix = λ F h. let w = store.each F h in ⊎_elim (λ same. without F w.0 (run.prefix w.0 w.1) (ap (λ (f : Files). f.batches) same)) (λ more. record { count = m; flushed = from; within = to; log = taken_log L n m F w.0 from (run.exact runs w.0 w.1).log (ap (λ (f : Files). f.batches) more) }) w.2;
  exact = λ running. absurd (cc);
  short = run.short;
  then_fits = run.then_fits;
  counts = no_less v.faults_then v.faults faults run.then_fits run.counts rose;
  rose = λ h. risen_since v.faults_then v.faults faults run.counts rose;
}
  where
    without : (F D : Files) → IsPrefix L n D → F.batches ≡ D.batches → IsPrefix L n F
    without F D is same = record { count = is.count; flushed = is.flushed; within = is.within; log = ap (flat_map (λ b. b)) same ∙ is.log }

-- ---- where the log's file ends
-- a front of a legal log is no longer than the log
pub end_within : (s : Sizes) (L : List Record) (n end : ℕ) → LogRun s L → n ≤ length L → end ≤ sum_by record_length (take n L) + 5 * n → end < 2 ^ 62
end_within s L n end log within short =
    let whole : sum_by record_length L ≡ sum_by record_length (take n L) + sum_by record_length (drop n L) =
    ap (sum_by record_length) (sym (take-append-drop n L)) ∙ sum_by-append record_length (take n L) (drop n L) in
    omega (arith, short, within, whole, is_short s L log.legal log.spelled)

pub end_is_small : EndIsSmall
end_is_small bases before c run = end_within c.system.sizes (log_after before c.system) (stable c) c.vault.end run.runs.log run.vault.within run.vault.short
