-- Each step keeps the system's part: a law of the whole core is one of the system alone, by regions of which nothing is known.
use Rattle.std.proofs.Common.{◌≡◌, ℕ, zero, suc, ◌+◌, ◌<◌, Bool, true, false, cond, List, [], ◌∷◌, length, Option, Some, None, refl, ap, sym, subst, ◌∙◌, arith}
use Rattle.std.specs.Prelude.{slice_get, replicate, IfSome, ◌^◌, ◌==◌}
use Rattle.std.specs.FinMap.{get}
use Rattle.std.proofs.lemmas.Option.{slice_get_within}
use Rattle.dali_geometry.specs.Sizes.{Sizes}
use Rattle.dali_geometry.specs.Places.{regions, formatted_image}
use Rattle.dali_geometry.proofs.Regions.{length_formatted}
use Rattle.dali_record.specs.declared.operations.Block.{Block}
use Rattle.dali_record.specs.declared.operations.Pending.{Pending}
use Rattle.dali_record.specs.declared.records.Record.{Record}
use Rattle.dali_record.specs.declared.records.Record.TheVariants.{Forward, Solo, Back}
use Rattle.dali_record.specs.Epochs.{Epoch, last_epoch}
use Rattle.dali_region.specs.State.{RegionState, IsProtected, loaded}
use Rattle.dali_region.proofs.Holds.{loaded_keeps}
use Rattle.dali_locks.specs.Locks.{stronger_mode}
use Rattle.dali_locks.proofs.Changes.{get-locks_with}
use Rattle.dali_att.specs.Table.{Table, fresh_row, with_state}
use Rattle.dali_att.specs.declared.state.State.TheVariants.{Live, Dead, Cleaning}
use Rattle.dali_locks.proofs.Kept.{locks_without_at}
use Rattle.dali_runs.specs.State.{TxnRow, SystemState, CoreState, row_of, lock_of}
use Rattle.dali_runs.specs.Run.{RegionRun, Bases, RunsOn, blocks_on}
use Rattle.dali_runs.specs.Steps.{begun, op_logged, back_logged, solo_logged, done_logged, commit_logged, ended_logged, audit_begun, audit_ended, granted, refused, in_state, store_stopped, in_checkpoint, taken, committed_row}
use Rattle.dali_runs.specs.Keeps.{MayLogBlock}
use Rattle.dali_runs.specs.Audits.{MayEndAudit}
use Rattle.dali_runs.specs.Courses.{Step, Begins, Operates, TakesBack, Frees, Answers, Commits, Ends, AuditBegins, AuditEnds, Locks, Refuses, OnRegion, Passes, Dies, Claims, GivesBack, Recovers, Stops, Checkpoints, Takes, Flushes, Faults, ReadFails}
use Rattle.dali_runs.proofs.RecordSteps.{begin_keeps, op_keeps, back_keeps, solo_keeps, done_keeps, commit_keeps, ended_keeps}
use Rattle.dali_runs.proofs.AuditSteps.{audit_begin_keeps, audit_end_keeps}
use Rattle.dali_runs.proofs.QuietSteps.{grant_keeps, refuse_keeps, state_keeps, stop_keeps, checkpoint_flag_keeps}
use Rattle.dali_runs.proofs.Flushes.{take_keeps}
use Rattle.dali_runs.proofs.Tables.{Puts, added, changed, dropped, ended, kept}
use Rattle.dali_runs.specs.Parts.Systems.{SystemRun, IsInHand, MayLogHeld, MayLogFound, IsSystemStep, SystemKeeps, StepHasSystem, CountsLeft, IsLeft, SystemLeaves, changes_row, changes_lock, adds_record, changes_stop}

-- ---- regions of which nothing is known, each with the hold of g
abbrev scarred : ℕ → RegionState → RegionState
scarred n g = record g { touches = n; poked = true; sound = 0; missed = true }

abbrev scars : RegionState → List Record → ℕ → ℕ → List RegionState
scars g E r zero = []
scars g E r (suc n) = scarred (blocks_on r E) g ∷ scars g E (r + 1) n

-- the system with such regions, and with a vault that has stopped
abbrev shadow : RegionState → List Record → SystemState → CoreState
shadow g L y = record {
  regions = scars g (last_epoch L).records 0 (regions y.sizes);
  system = y;
  vault = record { stopped = true; end = 0; flushed = 0; current = 0; faults_then = 0; faults = 1 };
}

scar_run : (base : List (List ℕ)) (e : Epoch) (r : ℕ) (g : RegionState) → IsProtected g → IfSome g.hold (λ h. h.read < 2 ^ 64) → RegionRun base e r (scarred (blocks_on r e.records) g)
scar_run base e r g safe reads = record {
  protected = record {
    words = safe.words;
    back = safe.back;
    codeword = safe.codeword;
    rest = safe.rest;
    within = omega arith;
    all_sound = λ h. absurd (cc);
    no_stray = λ h. absurd (cc);
    reads = λ h. absurd (cc);
    writes = safe.writes;
    none_missed = λ h. absurd (cc);
  };
  reads = reads;
  touches = refl;
  sound = λ i a at on below. absurd (omega (arith, below));
  settled = λ h. absurd (cc);
  certified = λ h. absurd (cc);
}

scars_length : (g : RegionState) (E : List Record) (r n : ℕ) → length (scars g E r n) ≡ n
scars_length g E r zero = refl
scars_length g E r (suc n) = ap suc (scars_length g E (r + 1) n)

scars_at : (g h : RegionState) (E : List Record) (r n i : ℕ) → slice_get (scars g E r n) i ≡ Some h → h ≡ scarred (blocks_on (r + i) E) g
scars_at g h E r zero i e = absurd (cc)
scars_at g h E r (suc n) zero e = let same : scarred (blocks_on r E) g ≡ h = cc in sym same ∙ ap (λ k. scarred (blocks_on k E) g) (let f : r ≡ r + 0 = omega arith in f)
scars_at g h E r (suc n) (suc i) e = scars_at g h E (r + 1) n i e ∙ ap (λ k. scarred (blocks_on k E) g) (let f : (r + 1) + i ≡ r + suc i = omega arith in f)

scars_get : (g : RegionState) (E : List Record) (r n i : ℕ) → i < n → slice_get (scars g E r n) i ≡ Some (scarred (blocks_on (r + i) E) g)
scars_get g E r zero i h = absurd (omega (arith, h))
scars_get g E r (suc n) zero h = ap (λ k. Some (scarred (blocks_on k E) g)) (let f : r ≡ r + 0 = omega arith in f)
scars_get g E r (suc n) (suc i) h = scars_get g E (r + 1) n i (omega (arith, h)) ∙ ap (λ k. Some (scarred (blocks_on k E) g)) (let f : (r + 1) + i ≡ r + suc i = omega arith in f)

abbrev blank : Sizes → Bases
blank s n = formatted_image s

shadow_runs : (g : RegionState) (L : List Record) (y : SystemState) → SystemRun y.sizes L y → IsProtected g → IfSome g.hold (λ h. h.read < 2 ^ 64) → RunsOn (blank y.sizes) L (shadow g L y)
shadow_runs g L y run safe reads = record {
  log = run.log;
  counts = run.counts;
  table = run.table;
  locks = run.locks;
  stop = record { damage = run.damage; failed = run.failed; store = λ e. refl };
  whole = scars_length g (last_epoch L).records 0 (regions y.sizes);
  base = length_formatted y.sizes;
  regions = λ r h e. subst (λ z. RegionRun (formatted_image y.sizes) (last_epoch L) r z) (sym (scars_at g h (last_epoch L).records 0 (regions y.sizes) r e ∙ ap (λ k. scarred (blocks_on k (last_epoch L).records) g) (let f : 0 + r ≡ r = omega arith in f))) (scar_run (formatted_image y.sizes) (last_epoch L) r g safe reads);
}

pub system_part : (bases : Bases) (L : List Record) (c : CoreState) → RunsOn bases L c → SystemRun c.system.sizes L c.system
system_part bases L c run = record { log = run.log; counts = run.counts; table = run.table; locks = run.locks; damage = run.stop.damage; failed = run.stop.failed }

-- ---- where no region is in hand
abbrev zeros : RegionState
zeros = loaded (replicate 64 0)

zeros_keep : IsProtected zeros
zeros_keep = loaded_keeps (replicate 64 0) (refl, omega arith)

-- ---- each step
keeps_at : (L M : List Record) (y z e : SystemState) → (M ≡ L) × (z ≡ e) → SystemRun e.sizes L e → SystemRun z.sizes M z
keeps_at L M y z e adds run = subst (λ K. SystemRun z.sizes K z) (sym adds.0) (subst (λ q. SystemRun q.sizes L q) (sym adds.1) run)

by_shadow :
    (N M : List Record) (z : SystemState) (bases : Bases) (d : CoreState) → (M ≡ N) × (z ≡ d.system) → RunsOn bases N d
    → SystemRun z.sizes M z
by_shadow N M z bases d adds run = keeps_at N M z z d.system adds (system_part bases N d run)

in_shadow : (L : List Record) (y : SystemState) (x : Record) (owner : ℕ) (b : Block) (g : RegionState) → MayLogHeld L y x owner b g → MayLogBlock L (shadow g L y) x owner b (scarred (blocks_on b.region (last_epoch L).records) g)
in_shadow L y x owner b g may = record {
  runs = may.runs;
  spelled = may.spelled;
  next = may.next;
  by = may.by;
  kind = may.kind;
  locked = may.locked;
  at = scars_get g (last_epoch L).records 0 (regions y.sizes) b.region may.hand.within ∙ ap (λ k. Some (scarred (blocks_on k (last_epoch L).records) g)) (let f : 0 + b.region ≡ b.region = omega arith in f);
  is_open = record { hold = may.hand.is_open.hold; reads = may.hand.is_open.reads; sound = λ h. absurd (cc); stands = λ h. absurd (cc) };
}

ends_in_shadow : (L : List Record) (y : SystemState) (b : ℕ) (found : List ℕ) → MayLogFound L y b found → MayEndAudit L (shadow zeros L y) b found
ends_in_shadow L y b found may = record {
  may = record { runs = may.runs; auditing = may.auditing; spelled = may.spelled; numbers = may.numbers };
  stray = λ r q e f. let same : q ≡ scarred (blocks_on (0 + r) (last_epoch L).records) zeros = scars_at zeros q (last_epoch L).records 0 (regions y.sizes) r e in ap (λ (z : RegionState). z.poked) same;
  certified = λ r q e f h. let same : q ≡ scarred (blocks_on (0 + r) (last_epoch L).records) zeros = scars_at zeros q (last_epoch L).records 0 (regions y.sizes) r e in let m : q.missed ≡ true = ap (λ (z : RegionState). z.missed) same in absurd (cc);
}

pub system_keeps : SystemKeeps
system_keeps L M y z x run s = by_step x s
  where
    c : CoreState
    c = shadow zeros L y

    plain : RunsOn (blank y.sizes) L c
    plain = shadow_runs zeros L y run zeros_keep tt

    with_hold : (g : RegionState) (owner : ℕ) (b : Block) → IsInHand y.sizes g owner b → RunsOn (blank y.sizes) L (shadow g L y)
    with_hold g owner b hand = shadow_runs g L y run hand.protected hand.reads

    by_step : (x : Step) → IsSystemStep L y x M z → SystemRun z.sizes M z
    by_step Begins s = by_shadow _ M z (blank y.sizes) _ s.1 (begin_keeps (blank y.sizes) L c plain s.0)
    by_step (Operates t b) s = by_shadow _ M z (blank y.sizes) _ s.3 (op_keeps (blank y.sizes) L (shadow s.0 L y) t b _ (with_hold s.0 t b s.2.hand) s.1 (in_shadow L y (Forward t b) t b s.0 s.2))
    by_step (TakesBack t b) s = by_shadow _ M z (blank y.sizes) _ s.2 (back_keeps (blank y.sizes) L (shadow s.0 L y) t b _ (with_hold s.0 t b s.1.hand) (in_shadow L y (Back t b) t b s.0 s.1))
    by_step (Frees p b) s = by_shadow _ M z (blank y.sizes) _ s.2 (solo_keeps (blank y.sizes) L (shadow s.0 L y) p b _ (with_hold s.0 p b s.1.hand) (in_shadow L y (Solo y.next p b) p b s.0 s.1))
    by_step (Answers t k a) s = by_shadow _ M z (blank y.sizes) _ s.3 (done_keeps (blank y.sizes) L c t k a plain s.0 s.1 s.2.next)
    by_step (Commits t) s = by_shadow _ M z (blank y.sizes) _ s.2 (commit_keeps (blank y.sizes) L c t plain s.0 s.1.next)
    by_step (Ends t) s = by_shadow _ M z (blank y.sizes) _ s.2 (ended_keeps (blank y.sizes) L c t plain s.0 s.1.next)
    by_step AuditBegins s = by_shadow _ M z (blank y.sizes) _ s.2 (audit_begin_keeps (blank y.sizes) L c plain s.0 s.1)
    by_step (AuditEnds b found) s = by_shadow _ M z (blank y.sizes) _ s.1 (audit_end_keeps (blank y.sizes) L c b found plain (ends_in_shadow L y b found s.0))
    by_step (Locks t k m) s = by_shadow _ M z (blank y.sizes) _ s.2 (grant_keeps (blank y.sizes) L c t k m plain s.0 s.1)
    by_step (Refuses t k m h) s = by_shadow _ M z (blank y.sizes) _ s.2 (refuse_keeps (blank y.sizes) L c t k h m plain s.0 s.1)
    by_step (OnRegion r u) s = keeps_at L M y z y s run
    by_step (Passes b r) s = keeps_at L M y z y s run
    by_step (Dies t o) s = by_shadow _ M z (blank y.sizes) _ s.1 (state_keeps (blank y.sizes) L c t Live (Dead o) plain s.0 refl)
    by_step (Claims t) s = by_shadow _ M z (blank y.sizes) _ s.2 (state_keeps (blank y.sizes) L c t (Dead s.0) (Cleaning s.0) plain s.1 refl)
    by_step (GivesBack t o) s = by_shadow _ M z (blank y.sizes) _ s.2 (state_keeps (blank y.sizes) L c t (Cleaning s.0) (Dead o) plain s.1 refl)
    by_step (Recovers r) s = keeps_at L M y z y s run
    by_step Stops s = by_shadow _ M z (blank y.sizes) _ s (stop_keeps (blank y.sizes) L c plain refl)
    by_step (Checkpoints b) s = by_shadow _ M z (blank y.sizes) _ s.1 (checkpoint_flag_keeps (blank y.sizes) L c b plain)
    by_step Takes s = by_shadow _ M z (blank y.sizes) _ s (take_keeps (blank y.sizes) L c plain)
    by_step Flushes s = keeps_at L M y z y s run
    by_step (Faults n) s = keeps_at L M y z y s run
    by_step (ReadFails n) s = keeps_at L M y z y s run

-- ---- a step of a core
abbrev system_of : CoreState → SystemState
system_of c = c.system

held : (bases : Bases) (L : List Record) (c : CoreState) (x : Record) (owner : ℕ) (b : Block) (g : RegionState) → RunsOn bases L c → MayLogBlock L c x owner b g → MayLogHeld L c.system x owner b g
held bases L c x owner b g run may = record {
  runs = may.runs;
  spelled = may.spelled;
  next = may.next;
  by = may.by;
  kind = may.kind;
  locked = may.locked;
  hand = record {
    within = omega (arith, run.whole, slice_get_within c.regions b.region g may.at);
    protected = (run.regions b.region g may.at).protected;
    reads = (run.regions b.region g may.at).reads;
    is_open = may.is_open;
  };
}

pub step_has_system : StepHasSystem
step_has_system bases L M c d Begins run s = (s.0, (s.1.0, ap system_of s.1.1))
step_has_system bases L M c d (Operates t b) run s = (s.0, s.1, held bases L c (Forward t b) t b s.0 run s.2, (s.3.0, ap system_of s.3.1))
step_has_system bases L M c d (TakesBack t b) run s = (s.0, held bases L c (Back t b) t b s.0 run s.1, (s.2.0, ap system_of s.2.1))
step_has_system bases L M c d (Frees p b) run s = (s.0, held bases L c (Solo c.system.next p b) p b s.0 run s.1, (s.2.0, ap system_of s.2.1))
step_has_system bases L M c d (Answers t k a) run s = (s.0, s.1, s.2, (s.3.0, ap system_of s.3.1))
step_has_system bases L M c d (Ends t) run s = (s.0, s.1.0, (s.2.0, ap system_of s.2.1))
step_has_system bases L M c d (AuditEnds b found) run s = (record { runs = s.0.runs; auditing = s.0.auditing; spelled = s.0.spelled; numbers = s.0.numbers }, (s.1.0, ap system_of s.1.1))
step_has_system bases L M c d (OnRegion r x) run s = (s.3.0, ap system_of s.3.1)
step_has_system bases L M c d (Passes b r) run s = (s.2.0, ap system_of s.2.1)
step_has_system bases L M c d (Dies t o) run s = (s.0.lives, (s.1.0, ap system_of s.1.1))
step_has_system bases L M c d (GivesBack t o) run s = (s.0.was, s.0.claimed, (s.1.0, ap system_of s.1.1))
step_has_system bases L M c d (Recovers r) run s = (s.3.0, ap system_of s.3.1)
step_has_system bases L M c d Stops run s = (s.1.0, ap system_of s.1.1)
step_has_system bases L M c d (Checkpoints b) run s = (s.0, (s.1.0, ap system_of s.1.1))
step_has_system bases L M c d Takes run s = (s.0, ap system_of s.1)
step_has_system bases L M c d Flushes run s = (s.1.0, ap system_of s.1.1)
step_has_system bases L M c d (Faults n) run s = (s.2.0, ap system_of s.2.1)
step_has_system bases L M c d (ReadFails n) run s = (s.1.0, ap system_of s.1.1)
step_has_system bases L M c d _ run s = (s.0, s.1, (s.2.0, ap system_of s.2.1))

-- ---- what a step leaves
-- the system that a step leads to, in place of z
left_at : (L M : List Record) (y z e : SystemState) (x : Step) → z ≡ e → IsLeft L y x M e → IsLeft L y x M z
left_at L M y z e x is left = subst (λ q. IsLeft L y x M q) (sym is) left

pub puts_other : (old : Table Pending) (t : ℕ) (row : Option TxnRow) (new : Table Pending) → Puts old t row new → (u : ℕ) → (t == u) ≡ false → get new u ≡ get old u
puts_other old t row new puts u apart = puts u ∙ ap (λ (b : Bool). cond b row (get old u)) apart

none_counted : (L M : List Record) (y z : SystemState) → M ≡ L → z.since ≡ y.since → z.records ≡ y.records → z.end ≡ y.end → z.next ≡ y.next → CountsLeft L y M z
none_counted L M y z log since records end next = record { log = log; since = since; records = records; end = end; next = next }

-- e, with the sizes, the requests and the marks of y
abbrev beside : SystemState → SystemState → SystemState
beside y e = record y { since = e.since; table = e.table; locks = e.locks; records = e.records; end = e.end; next = e.next; stop = e.stop }

left_beside :
    (L M : List Record) (y e : SystemState) (x : Step)
    → ((u : ℕ) → changes_row y x u ≡ false → row_of e u ≡ row_of y u)
    → ((u k : ℕ) → changes_lock x u k ≡ false → lock_of e u k ≡ lock_of y u k)
    → (adds_record x ≡ false → CountsLeft L y M (beside y e))
    → (changes_stop x ≡ false → e.stop ≡ y.stop)
    → IsLeft L y x M (beside y e)
left_beside L M y e x rows locks counts stop = record {
  sizes = refl;
  first = refl;
  limit = refl;
  rows = rows;
  locks = locks;
  counts = counts;
  stop = stop;
  refusals = λ h. refl;
  taken = λ h. refl;
  checking = λ h. refl;
}

pub system_leaves : SystemLeaves
system_leaves L M y z Begins s = left_at L M y z (begun y) Begins s.1.1 (left_beside L M y (begun y) Begins (λ u h. puts_other y.table y.next (Some fresh_row) _ (added y.table y.next fresh_row) u h) (λ u l h. refl) (λ h. absurd (cc)) (λ h. refl))
system_leaves L M y z (Operates t b) s = left_at L M y z (op_logged y t b) (Operates t b) s.3.1 (left_beside L M y (op_logged y t b) (Operates t b) (λ u h. puts_other y.table t _ _ (kept y.table t b b.undo) u h) (λ u l h. refl) (λ h. absurd (cc)) (λ h. refl))
system_leaves L M y z (TakesBack t b) s = left_at L M y z (back_logged y t b) (TakesBack t b) s.2.1 (left_beside L M y (back_logged y t b) (TakesBack t b) (λ u h. puts_other y.table t _ _ (dropped y.table t) u h) (λ u l h. refl) (λ h. absurd (cc)) (λ h. refl))
system_leaves L M y z (Frees p b) s = left_at L M y z (solo_logged y p b) (Frees p b) s.2.1 (left_beside L M y (solo_logged y p b) (Frees p b) (λ u h. refl) (λ u l h. refl) (λ h. absurd (cc)) (λ h. refl))
system_leaves L M y z (Answers t k a) s = left_at L M y z (done_logged y t k a) (Answers t k a) s.3.1 (left_beside L M y (done_logged y t k a) (Answers t k a) (λ u h. refl) (λ u l h. refl) (λ h. absurd (cc)) (λ h. refl))
system_leaves L M y z (Commits t) s = left_at L M y z (commit_logged y t) (Commits t) s.2.1 (left_beside L M y (commit_logged y t) (Commits t) (λ u h. puts_other y.table t _ _ (changed y.table t committed_row) u h) (λ u l h. refl) (λ h. absurd (cc)) (λ h. refl))
system_leaves L M y z (Ends t) s = left_at L M y z (ended_logged y t) (Ends t) s.2.1 (left_beside L M y (ended_logged y t) (Ends t) (λ u h. puts_other y.table t None _ (ended y.table t) u h) (λ u l h. locks_without_at y.locks t u l ∙ ap (λ (b : Bool). cond b None (lock_of y u l)) h) (λ h. absurd (cc)) (λ h. refl))
system_leaves L M y z AuditBegins s = left_at L M y z (audit_begun y) AuditBegins s.2.1 (left_beside L M y (audit_begun y) AuditBegins (λ u h. refl) (λ u l h. refl) (λ h. absurd (cc)) (λ h. refl))
system_leaves L M y z (AuditEnds b found) s = left_at L M y z (audit_ended y b found) (AuditEnds b found) s.1.1 (left_beside L M y (audit_ended y b found) (AuditEnds b found) (λ u h. refl) (λ u l h. refl) (λ h. absurd (cc)) (λ h. absurd (cc)))
system_leaves L M y z (Locks t k m) s = left_at L M y z (granted y t k m) (Locks t k m) s.2.1 (left_beside L M y (granted y t k m) (Locks t k m) (λ u h. refl) (λ u l h. get-locks_with y.locks t k m u l ∙ ap (λ (b : Bool). cond b (Some (stronger_mode (lock_of y u l) m)) (lock_of y u l)) h) (λ h. none_counted L M y (granted y t k m) s.2.0 refl refl refl refl) (λ h. refl))
system_leaves L M y z (Refuses t k m q) s = left_at L M y z (refused y t k m q) (Refuses t k m q) s.2.1 (record {
  sizes = refl;
  first = refl;
  limit = refl;
  rows = λ u h. refl;
  locks = λ u l h. refl;
  counts = λ h. none_counted L M y (refused y t k m q) s.2.0 refl refl refl refl;
  stop = λ h. refl;
  refusals = λ h. absurd (cc);
  taken = λ h. refl;
  checking = λ h. refl;
})
system_leaves L M y z (Dies t o) s = left_at L M y z (in_state y t (Dead o)) (Dies t o) s.1.1 (left_beside L M y (in_state y t (Dead o)) (Dies t o) (λ u h. puts_other y.table t _ _ (changed y.table t (with_state (Dead o))) u h) (λ u l h. refl) (λ h. none_counted L M y (in_state y t (Dead o)) s.1.0 refl refl refl refl) (λ h. refl))
system_leaves L M y z (Claims t) s = left_at L M y z (in_state y t (Cleaning s.0)) (Claims t) s.2.1 (left_beside L M y (in_state y t (Cleaning s.0)) (Claims t) (λ u h. puts_other y.table t _ _ (changed y.table t (with_state (Cleaning s.0))) u h) (λ u l h. refl) (λ h. none_counted L M y (in_state y t (Cleaning s.0)) s.2.0 refl refl refl refl) (λ h. refl))
system_leaves L M y z (GivesBack t o) s = left_at L M y z (in_state y t (Dead o)) (GivesBack t o) s.2.1 (left_beside L M y (in_state y t (Dead o)) (GivesBack t o) (λ u h. puts_other y.table t _ _ (changed y.table t (with_state (Dead o))) u h) (λ u l h. refl) (λ h. none_counted L M y (in_state y t (Dead o)) s.2.0 refl refl refl refl) (λ h. refl))
system_leaves L M y z Stops s = left_at L M y z (store_stopped y) Stops s.1 (left_beside L M y (store_stopped y) Stops (λ u h. refl) (λ u l h. refl) (λ h. none_counted L M y (store_stopped y) s.0 refl refl refl refl) (λ h. absurd (cc)))
system_leaves L M y z (Checkpoints b) s = left_at L M y z (in_checkpoint y b) (Checkpoints b) s.1.1 (record {
  sizes = refl;
  first = refl;
  limit = refl;
  rows = λ u h. refl;
  locks = λ u l h. refl;
  counts = λ h. none_counted L M y (in_checkpoint y b) s.1.0 refl refl refl refl;
  stop = λ h. refl;
  refusals = λ h. refl;
  taken = λ h. refl;
  checking = λ h. absurd (cc);
})
system_leaves L M y z Takes s = left_at L M y z (taken y) Takes s.1 (record {
  sizes = refl;
  first = refl;
  limit = refl;
  rows = λ u h. refl;
  locks = λ u l h. refl;
  counts = λ h. none_counted L M y (taken y) s.0 refl refl refl refl;
  stop = λ h. refl;
  refusals = λ h. refl;
  taken = λ h. absurd (cc);
  checking = λ h. refl;
})
system_leaves L M y z x s = left_at L M y z y x s.1 (left_beside L M y y x (λ u h. refl) (λ u l h. refl) (λ h. none_counted L M y y s.0 refl refl refl refl) (λ h. refl))
