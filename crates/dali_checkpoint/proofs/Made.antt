-- A whole checkpoint: what its start, its image and its end leave, joined.
use Rattle.std.proofs.Common.{◌≡◌, ℕ, ◌+◌, ◌-◌, ◌++◌, Bool, true, false, List, [], ◌∷◌, length, map, drop, Option, Some, None, Result, Ok, Err, OnOk, OnErr, IfOk, IfSome, IfErr, IsSome, IsSomeAnd, ◌⊎◌, refl, ap, sym, subst, ◌∙◌, inl, inr, arith, length-append, ⊎_elim}
use Rattle.std.specs.Prelude.{IsErrOf}
use Rattle.std.proofs.lemmas.List.Elements.{Contains-push}
use Rattle.std.proofs.lemmas.List.{length-drop}
use Rattle.dali_lists.proofs.Tests.{not_both_ways}
use Rattle.dali_geometry.specs.Places.{regions}
use Rattle.dali_record.specs.declared.records.Record.TheVariants.{AuditBegin}
use Rattle.dali_region.specs.State.{RegionState}
use Rattle.dali_store.specs.Store.{Files as Disk}
use Rattle.dali_store.specs.Calls.{fewer}
use Rattle.dali_store.specs.Faults.{Rose}
use Rattle.dali_store.specs.declared.store.Store.{Ghosts}
use Rattle.dali_runs.specs.State.{SystemState}
use Rattle.dali_runs.specs.declared.causes.Cause.{Cause}
use Rattle.dali_runs.specs.Steps.{taken, in_checkpoint, store_stopped, audit_begun, audit_record}
use Rattle.dali_system.specs.Audits.{audit_refusal}
use Rattle.dali_system.specs.Served.{Served}
use Rattle.dali_audit.specs.Findings.{Judged}
use Rattle.dali_crash.specs.Disks.Disks.{image_name}
use Rattle.dali_crash.specs.Checkpoints.{side_of}
use Rattle.dali_core.specs.Vault.Vaulted.{Vaulted}
use Rattle.dali_core.specs.Cores.{HoldsPlaces, IsWholeCore}
use Rattle.dali_core.specs.Moments.{flush_calls}
use Rattle.dali_checkpoint.specs.Kept.{Checkpointed, side_in, cause_of, given_up, IsEndOf}
use Rattle.dali_checkpoint.specs.Done.{FailsToWrite, HasStarted, HasTurnedTo, FailsToTurn, IsKept, IsLost}
use Rattle.dali_core.specs.Cores.{IsNoShorter}
use Rattle.dali_checkpoint.specs.Runs.{runs_in}
use Rattle.dali_checkpoint.specs.Making.{failing_in, with_audit, behind_checkpoint, checkpointed, copied_to, checkpoint_calls, hold_on, SameTable, SameLog, HasRun, HasNotMade, LeadsIdle, HasImage, NoImageBy, HasNoImage, HasMade, HasEndedBy}
use Rattle.dali_checkpoint.specs.declared.error.CheckpointError.{CheckpointError}
use Rattle.dali_checkpoint.specs.declared.error.CheckpointError.TheVariants.{Failed, InProgress, Stopped, LogFull, Fault, OutOfMemory}
use Rattle.dali_checkpoint.proofs.Lengths.{places_stay}
use Rattle.dali_checkpoint.proofs.Results.{holds_copied, holds_checked, writes_vault, writes_kept, write_stops, write_current, write_rose, turn_stops, turn_current, turn_rose, no_cause, has_cause, stays_stopped, whole_behind, err_same, same_err}
use Rattle.dali_checkpoint.proofs.Walks.{calls_then}
use Rattle.dali_checkpoint.proofs.Whole.{leads_same, start_fails, image_given_up, certified_leads, certify_fault_leads, failure_leads}

-- ---- a checkpoint that is given up
given_table : (b : Bool) (y : SystemState) → SameTable y (given_up b y)
given_table true y = (refl, refl)
given_table false y = (refl, refl)

given_ended : (b : Bool) (y : SystemState) → (given_up b y).checking ≡ false
given_ended true y = refl
given_ended false y = refl

given_stop : (b : Bool) (y : SystemState) → IsSome y.stop ⊎ (b ≡ true) → IsSome (given_up b y).stop
given_stop true y e = stays_stopped y
given_stop false y (inl e) = e
given_stop false y (inr e) = absurd (cc)

given_runs : {V : Type 0} (b : Bool) (y : SystemState) (v : Vaulted V) → b ≡ false → cause_of y v ≡ None → cause_of (given_up b y) v ≡ None
given_runs true y v e none = absurd (cc)
given_runs false y v e none = none

given_log : (b : Bool) (y z : SystemState) → SameLog y z → SameLog y (given_up b z)
given_log true y z e = ap (given_up true) e
given_log false y z e = ap (given_up false) e

table_then : (x y z : SystemState) → SameTable x y → SameTable y z → SameTable x z
table_then x y z s t = (t.0 ∙ s.0, t.1 ∙ s.1)

whole_count : {V : Type 0} (told : V → Option Disk) (gs : List RegionState) (y : SystemState) (v : Vaulted V) → IsWholeCore told gs y v → length gs ≡ regions y.sizes
whole_count told gs y v whole = (whole.parts (record { stopped = false; end = 0; flushed = 0; current = 0; faults_then = 0; faults = 0 })).regions

-- the end of an audit is in the log
pub is_end_of : (y z : SystemState) (j : Judged) (found : List ℕ) → z ≡ with_audit (taken y) found → j ≡ record { begin = y.records; failing = found } → IsEndOf z y.records j
is_end_of y z j found is judged =
    subst (λ (x : SystemState). IsEndOf x y.records j) (sym is)
    (subst (λ (i : Judged). IsEndOf (with_audit (taken y) found) y.records i) (sym judged)
    (record { behind = omega arith; logged = Contains-push (audit_begun (taken y)).since (audit_record y.records found) }))

-- what an audit logged waits to be flushed
audit_waits : (y : SystemState) (found : List ℕ) → y.records ≡ y.first + length y.since → drop (taken y).taken (with_audit y found).since ≡ [] → ⊥
audit_waits y found counted none =
    omega (arith, counted, ap length none, length-drop (y.records - y.first) ((y.since ++ AuditBegin ∷ []) ++ audit_record y.records found ∷ []), length-append (y.since ++ AuditBegin ∷ []) (audit_record y.records found ∷ []), length-append y.since (AuditBegin ∷ []))

module _ {V : Type 0} (means : Ghosts V) where
  -- ---- a start that fails
  module _ (gs : List RegionState) (y z : SystemState) (v w : Vaulted V) (whole : IsWholeCore means.told gs y v) where
    unchanged : (e : CheckpointError) → HasNotMade means.faults gs y v e gs z w → z ≡ y → w ≡ v → HasEndedBy means gs y v e gs z w
    unchanged e by same_system same_vault = record {
      by = by;
      whole = subst (λ (t : SystemState). IsWholeCore means.told gs t w) (sym same_system) (subst (λ (x : Vaulted V). IsWholeCore means.told gs y x) (sym same_vault) whole);
      goes = subst (λ (t : SystemState). LeadsIdle means gs y v gs t w) (sym same_system) (subst (λ (x : Vaulted V). LeadsIdle means gs y v gs y x) (sym same_vault) (leads_same means gs y v));
    }

    pub start_refused : (e : CheckpointError) → (y.checking ≡ true → e ≡ InProgress) → (e ≡ InProgress → y.checking ≡ true) → (y.checking ≡ false → IfSome (cause_of y v) (λ cause. e ≡ Stopped cause))
        → (cause_of y v ≡ None → (e ≡ InProgress) ⊎ ((e ≡ Fault) ⊎ (e ≡ OutOfMemory)))
        → (e ≡ Fault → z ≡ store_stopped (taken y)) → (e ≡ Fault → FailsToWrite means y v (image_name (side_of (v.current + 1))) 0 64 w)
        → ((e ≡ Fault → ⊥) → (z ≡ y) × (w ≡ v)) → IsNoShorter means.told v w
        → HasEndedBy means gs y v e gs z w
    start_refused e busy alone stopped runs stops failed same longer = by_flag y.checking refl
      where
        by_error : y.checking ≡ false → cause_of y v ≡ None → (e ≡ InProgress) ⊎ ((e ≡ Fault) ⊎ (e ≡ OutOfMemory)) → HasEndedBy means gs y v e gs z w
        by_error idle none (inl is) = absurd (not_both_ways (alone is) idle)
        by_error idle none (inr (inl is)) = subst (λ f. HasEndedBy means gs y v f gs z w) (sym is) (record {
          by = (
            (idle, none, ap (λ (t : SystemState). t.checking) (stops is) ∙ idle, write_current means y v w (image_name (side_of (v.current + 1))) 0 64 (failed is)),
            write_stops means y v w (image_name (side_of (v.current + 1))) 0 64 (failed is),
            subst (λ (t : SystemState). IsSome t.stop) (sym (stops is)) (stays_stopped (taken y)),
            write_rose means y v w (image_name (side_of (v.current + 1))) 0 64 (failed is),
            inl (subst (SameLog y) (sym (stops is)) refl),
          );
          whole = whole_behind means.told gs gs y z v w refl (ap (λ (t : SystemState). t.sizes) (stops is), ap (λ (t : SystemState). t.table) (stops is)) (places_stay (means.told v.store) (means.told w.store) gs longer whole.files) whole;
          goes = start_fails means gs y z v w (failed is) (stops is);
        })
        by_error idle none (inr (inr is)) =
            let left = same (λ f. let no : OutOfMemory ≡ Fault = sym is ∙ f in cc) in
            let still : cause_of z w ≡ None = ap (λ (t : SystemState). cause_of t w) left.0 ∙ (ap (λ (x : Vaulted V). cause_of y x) left.1 ∙ none) in
            subst (λ f. HasEndedBy means gs y v f gs z w) (sym is)
            (unchanged OutOfMemory ((idle, none, ap (λ (t : SystemState). t.checking) left.0 ∙ idle, ap (λ (x : Vaulted V). x.current) left.1), still, inl (subst (SameLog y) (sym left.0) refl)) left.0 left.1)

        by_cause : (o : Option Cause) → y.checking ≡ false → cause_of y v ≡ o → IfSome o (λ cause. e ≡ Stopped cause) → HasEndedBy means gs y v e gs z w
        by_cause (Some cause) idle has is =
            let left = same (λ f. let no : Stopped cause ≡ Fault = sym is ∙ f in cc) in
            subst (λ f. HasEndedBy means gs y v f gs z w) (sym is) (unchanged (Stopped cause) (idle, has, (refl, left.0, left.1)) left.0 left.1)
        by_cause None idle none is = by_error idle none (runs none)

        by_flag : (b : Bool) → y.checking ≡ b → HasEndedBy means gs y v e gs z w
        by_flag true flag =
            let is = busy flag in
            let left = same (λ f. let no : InProgress ≡ Fault = sym is ∙ f in cc) in
            subst (λ f. HasEndedBy means gs y v f gs z w) (sym is) (unchanged InProgress (flag, (refl, left.0, left.1)) left.0 left.1)
        by_flag false flag = by_cause (cause_of y v) flag refl (stopped flag)

  -- ---- behind a start
  module _ (gs : List RegionState) (y x : SystemState) (v u : Vaulted V) (c : Checkpointed) (whole : IsWholeCore means.told gs y v) (idle : y.checking ≡ false) (ran : cause_of y v ≡ None)
      (started : HasStarted means y v c u) (is : x ≡ in_checkpoint (taken y) true) (longer : IsNoShorter means.told v u) where
    pub started_current : u.current ≡ v.current
    started_current = (writes_vault means y v u _ _ _ started.writes).0

    pub started_runs : u.stopped ≡ false
    started_runs = (writes_vault means y v u _ _ _ started.writes).1

    started_kept : means.faults u.store ≡ means.faults v.store
    started_kept = writes_kept means y v u _ _ _ started.writes

    pub started_side : side_in c ≡ side_of (v.current + 1)
    started_side = ap (λ h. side_of (h.number)) started.header ∙ ap (λ n. side_of (n + 1)) started_current

    pub started_sizes : c.header.geometry ≡ x.sizes
    started_sizes = ap (λ h. h.geometry) started.header ∙ ap (λ (t : SystemState). t.sizes) (sym is)

    started_table : SameTable y x
    started_table = (ap (λ (t : SystemState). t.sizes) is, ap (λ (t : SystemState). t.table) is)

    pub started_stop : x.stop ≡ None
    started_stop = ap (λ (t : SystemState). t.stop) is ∙ (no_cause y v ran).0

    pub started_cause : cause_of x u ≡ None
    started_cause = has_cause x u started_stop started_runs

    pub started_count : length gs ≡ regions x.sizes
    started_count = whole_count means.told gs y v whole ∙ ap regions (sym started_table.0)

    pub started_places : IfSome (means.told u.store) (HoldsPlaces gs)
    started_places = places_stay (means.told v.store) (means.told u.store) gs longer whole.files

    same_refusal : audit_refusal y AuditBegin ≡ audit_refusal x AuditBegin
    same_refusal = ap (λ (t : SystemState). audit_refusal t AuditBegin) (sym is)

    -- ---- it is given up
    pub made_none : (hs : List RegionState) (t z : SystemState) (w : Vaulted V) (d : Checkpointed) (e : CheckpointError) → HasNoImage means gs x u c e hs t w d → z ≡ given_up d.faulted t
        → HasEndedBy means gs y v e hs z w
    made_none hs t z w d e k given = record {
      by = by_cause e k.by;
      whole = whole_behind means.told gs hs y z v w k.holds
          (table_then y t z (table_then y x t started_table k.table) (subst (λ (a : SystemState). SameTable t a) (sym given) (given_table d.faulted t))) k.places whole;
      goes = image_given_up means gs hs y x z v u w c started is t d.faulted k.fails (k.checking ∙ ap (λ (a : SystemState). a.checking) is) k.faulted given;
    }
      where
        has_run : HasRun means.faults gs y v z w
        has_run = (idle, ran, ap (λ (a : SystemState). a.checking) given ∙ given_ended d.faulted t, k.current ∙ started_current)

        no_cause_now : cause_of t w ≡ None → d.faulted ≡ false → cause_of z w ≡ None
        no_cause_now none runs = ap (λ (a : SystemState). cause_of a w) given ∙ given_runs d.faulted t w runs none

        log_now : SameLog x t → SameLog y z
        log_now e = subst (SameLog y) (sym given) (given_log d.faulted y t (subst (λ (a : SystemState). SameLog a t) is e))

        begun_now : SameLog (audit_begun x) t → SameLog (audit_begun y) z
        begun_now e = subst (SameLog (audit_begun y)) (sym given) (given_log d.faulted (audit_begun y) t (subst (λ (a : SystemState). SameLog (audit_begun a) t) is e))

        by_cause : (f : CheckpointError) → NoImageBy means.faults x u f t w d → HasNotMade means.faults gs y v f hs z w
        by_cause Fault b = (has_run, b.0, subst (λ (a : SystemState). IsSome a.stop) (sym given) (given_stop d.faulted t b.1), subst (λ n. Rose n (means.faults w.store)) started_kept b.2, inl (log_now b.3))
        by_cause (LogFull end limit) b = (has_run, same_refusal ∙ b.0, no_cause_now b.1 b.2, log_now b.3)
        by_cause OutOfMemory b = (has_run, no_cause_now b.0 b.1, ⊎_elim (λ e. inl (log_now e)) (λ e. inr (begun_now e)) b.2)
        by_cause (Failed found) b = absurd b
        by_cause InProgress b = absurd b
        by_cause (Stopped cause) b = absurd b

    -- ---- it has an image
    module _ (hs : List RegionState) (t : SystemState) (m : Vaulted V) (d : Checkpointed) (j : Judged) (k : HasImage means gs x u c j hs t m d) where
      failing_is : j.failing ≡ failing_in gs
      failing_is = ap (λ (i : Judged). i.failing) k.verdict

      image_holds : map hold_on hs ≡ map hold_on gs
      image_holds = ap (map hold_on) k.regions ∙ (holds_checked (copied_to (side_in c) gs) ∙ holds_copied (side_in c) gs)

      image_regions : hs ≡ checkpointed (side_of (v.current + 1)) gs
      image_regions = k.regions ∙ ap (λ side. checkpointed side gs) started_side

      image_table : SameTable y t
      image_table = table_then y x t started_table (ap (λ (a : SystemState). a.sizes) k.system, ap (λ (a : SystemState). a.table) k.system)

      image_checking : t.checking ≡ true
      image_checking = ap (λ (a : SystemState). a.checking) k.system ∙ ap (λ (a : SystemState). a.checking) is

      image_kept : means.faults m.store ≡ means.faults v.store
      image_kept = k.kept ∙ started_kept

      image_current : m.current ≡ v.current
      image_current = k.current ∙ started_current

      image_system : t ≡ with_audit (taken (in_checkpoint (taken y) true)) (failing_in gs)
      image_system = k.system ∙ ap (λ (a : SystemState). with_audit (taken a) (failing_in gs)) is

      pub image_audited : IsSomeAnd d.settled (λ n. IsEndOf t n j)
      image_audited = subst (λ (a : Checkpointed). IsSomeAnd a.settled (λ n. IsEndOf t n j)) (sym k.settled) (is_end_of x t j (failing_in gs) k.system k.verdict)

      has_run : (z : SystemState) (w : Vaulted V) → z.checking ≡ false → w.current ≡ m.current → HasRun means.faults gs y v z w
      has_run z w ends current = (idle, ran, ends, current ∙ image_current)

      whole_now : (z : SystemState) (w : Vaulted V) → SameTable t z → IsNoShorter means.told m w → IsWholeCore means.told hs z w
      whole_now z w same on = whole_behind means.told gs hs y z v w image_holds (table_then y t z image_table same) (places_stay (means.told m.store) (means.told w.store) hs on k.places) whole

      -- ---- and is certified
      pub made_one : (z : SystemState) (w : Vaulted V) (number : ℕ) → (j.failing ≡ []) × (number ≡ m.current + 1) × (number ≡ w.current) → HasTurnedTo means t m (side_in d) w
          → z ≡ in_checkpoint (taken t) false → IsNoShorter means.told m w
          → means.lets_pass w.store ≡ fewer (flush_calls t + 5) (means.lets_pass m.store) → means.lets_pass u.store ≡ fewer (flush_calls y + 1) (means.lets_pass v.store)
          → HasMade means gs y v number hs z w
      made_one z w number now said after on last first = record {
        idle = idle;
        ran = ran;
        next = now.1 ∙ ap (λ n. n + 1) image_current;
        current = sym now.2;
        runs = said.turned.ok.runs;
        clean = clean;
        regions = image_regions;
        system = after ∙ ap (λ (a : SystemState). in_checkpoint (taken a) false) (image_system ∙ ap (with_audit (taken (in_checkpoint (taken y) true))) clean);
        room = same_refusal ∙ k.room;
        calls = calls_then (flush_calls y + 1 + (runs_in (side_in c) gs + (flush_calls x + 1))) (flush_calls t + 5) (means.lets_pass v.store) (means.lets_pass m.store) (means.lets_pass w.store)
            (calls_then (flush_calls y + 1) (runs_in (side_in c) gs + (flush_calls x + 1)) (means.lets_pass v.store) (means.lets_pass u.store) (means.lets_pass m.store) first k.calls) last
            ∙ ap (λ n. fewer n (means.lets_pass v.store)) all_calls;
        whole = whole_now z w (ap (λ (a : SystemState). a.sizes) after, ap (λ (a : SystemState). a.table) after) on;
        goes = certified_leads means gs hs y x z v u w c started is t m d j.failing k.goes now.0 said after;
      }
        where
          clean : failing_in gs ≡ []
          clean = sym failing_is ∙ now.0

          all_calls : flush_calls y + 1 + (runs_in (side_in c) gs + (flush_calls x + 1)) + (flush_calls t + 5) ≡ checkpoint_calls y (side_of (v.current + 1)) gs
          all_calls =
              let copies : runs_in (side_in c) gs ≡ runs_in (side_of (v.current + 1)) gs = ap (λ side. runs_in side gs) started_side in
              let second : flush_calls x ≡ flush_calls (taken y) = ap flush_calls is in
              let third : flush_calls t ≡ flush_calls (with_audit (taken y) []) = ap flush_calls (image_system ∙ ap (with_audit (taken (in_checkpoint (taken y) true))) clean) in
              omega (arith, copies, second, third)

      -- ---- or isn't
      pub not_certified : (z : SystemState) (w : Vaulted V) (e : CheckpointError) → y.records ≡ y.first + length y.since
          → (e ≡ Failed j.failing → IsKept means t m z w)
          → ((j.failing ≡ [] → ⊥) → (e ≡ Failed j.failing) ⊎ IsLost means t m z w e)
          → (j.failing ≡ [] → cause_of t m ≡ None → (e ≡ Fault) × (z ≡ in_checkpoint (store_stopped (taken t)) false) × FailsToTurn means t m (side_in d) w)
          → z.checking ≡ false → IsNoShorter means.told m w
          → HasEndedBy means gs y v e hs z w
      not_certified z w e counted kept failed fault ends on = by_found j.failing refl
        where
          table_kept : IsKept means t m z w → (SameTable t z) × (w.current ≡ m.current) × (z ≡ behind_checkpoint y (failing_in gs))
          table_kept (inl s) = absurd (audit_waits y (failing_in gs) counted (subst (λ (a : SystemState). drop a.taken a.since ≡ []) image_system s.0))
          table_kept (inr s) = (
            (ap (λ (a : SystemState). a.sizes) s.2, ap (λ (a : SystemState). a.table) s.2),
            ap (λ (a : Vaulted V). a.current) s.1.2.vault,
            s.2 ∙ ap (λ (a : SystemState). in_checkpoint (taken a) false) image_system,
          )

          still_runs : IsKept means t m z w → w.stopped ≡ false
          still_runs (inl s) = ap (λ (a : Vaulted V). a.stopped) s.1 ∙ k.runs
          still_runs (inr s) = ap (λ (a : Vaulted V). a.stopped) s.1.2.vault ∙ s.0

          -- some regions failed
          by_kept : (j.failing ≡ [] → ⊥) → IsKept means t m z w → HasEndedBy means gs y v (Failed j.failing) hs z w
          by_kept some said =
              let left = table_kept said in
              record {
                by = (has_run z w ends left.1, same_refusal ∙ k.room, failing_is, some, subst (λ found. z ≡ behind_checkpoint y found) (sym failing_is) left.2, image_regions, still_runs said);
                whole = whole_now z w left.0 on;
                goes = failure_leads means gs hs y x z v u w c started is t m d j.failing k.goes (inl said) ends;
              }

          by_lost : (f : CheckpointError) → IsLost means t m z w f → HasEndedBy means gs y v f hs z w
          by_lost Fault lost = record {
            by = (
              has_run z w ends (ap (λ (a : Vaulted V). a.current) lost.1.2.vault),
              ap (λ (a : Vaulted V). a.stopped) lost.1.2.vault,
              subst (λ (a : SystemState). IsSome a.stop) (sym lost.2) (stays_stopped (taken t)),
              subst (λ n. Rose n (means.faults w.store)) image_kept lost.1.2.rose,
              inr (subst (SameLog (with_audit y (failing_in gs))) (sym (lost.2 ∙ ap (λ (a : SystemState). in_checkpoint (store_stopped (taken a)) false) image_system)) refl),
            );
            whole = whole_now z w (ap (λ (a : SystemState). a.sizes) lost.2, ap (λ (a : SystemState). a.table) lost.2) on;
            goes = failure_leads means gs hs y x z v u w c started is t m d j.failing k.goes (inr (Fault, lost)) ends;
          }
          by_lost (Stopped cause) lost = absurd (not_both_ways lost.1 k.runs)
          by_lost (Failed found) lost = absurd lost
          by_lost InProgress lost = absurd lost
          by_lost (LogFull end limit) lost = absurd lost
          by_lost OutOfMemory lost = absurd lost

          by_some : (j.failing ≡ [] → ⊥) → (e ≡ Failed j.failing) ⊎ IsLost means t m z w e → HasEndedBy means gs y v e hs z w
          by_some some (inl now) = subst (λ f. HasEndedBy means gs y v f hs z w) (sym now) (by_kept some (kept now))
          by_some some (inr lost) = by_lost e lost

          -- none failed
          by_none : j.failing ≡ [] → HasEndedBy means gs y v e hs z w
          by_none none =
              let stop : t.stop ≡ None = ap (λ (a : SystemState). a.stop) (k.system ∙ ap (with_audit (taken x)) (sym failing_is ∙ none)) ∙ started_stop in
              let said = fault none (has_cause t m stop k.runs) in
              subst (λ f. HasEndedBy means gs y v f hs z w) (sym said.0) (record {
                by = (
                  has_run z w ends (turn_current means t m w (side_in d) said.2),
                  turn_stops means t m w (side_in d) said.2,
                  subst (λ (a : SystemState). IsSome a.stop) (sym said.1) (stays_stopped (taken t)),
                  subst (λ n. Rose n (means.faults w.store)) image_kept (turn_rose means t m w (side_in d) said.2),
                  inr (subst (SameLog (with_audit y (failing_in gs))) (sym (said.1 ∙ ap (λ (a : SystemState). in_checkpoint (store_stopped (taken a)) false) image_system)) refl),
                );
                whole = whole_now z w (ap (λ (a : SystemState). a.sizes) said.1, ap (λ (a : SystemState). a.table) said.1) on;
                goes = certify_fault_leads means gs hs y x z v u w c started is t m d j.failing k.goes none said.2 said.1;
              })

          by_found : (found : List ℕ) → j.failing ≡ found → HasEndedBy means gs y v e hs z w
          by_found [] none = by_none none
          by_found (r ∷ rs) some =
              let not : j.failing ≡ [] → ⊥ = λ none. let no : r ∷ rs ≡ [] = sym some ∙ none in cc in
              by_some not (failed not)

      -- over its answer
      pub made_by : (r : Result ℕ CheckpointError) (T Z : Served) (w : Vaulted V) → t ≡ T.state → IfOk r (λ number. (j.failing ≡ []) × (number ≡ m.current + 1) × (number ≡ w.current)) → OnOk r (HasTurnedTo means t m (side_in d) w)
          → OnOk r (Z ≡ record T { state = in_checkpoint (taken T.state) false }) → IsNoShorter means.told m w
          → OnOk r (means.lets_pass w.store ≡ fewer (flush_calls t + 5) (means.lets_pass m.store)) → means.lets_pass u.store ≡ fewer (flush_calls y + 1) (means.lets_pass v.store)
          → IfOk r (λ number. HasMade means gs y v number hs Z.state w)
      made_by (Ok number) T Z w is_state now said after on last first = made_one Z.state w number now said (ap (λ (s : Served). s.state) after ∙ ap (λ (a : SystemState). in_checkpoint (taken a) false) (sym is_state)) on last first
      made_by (Err e) T Z w is_state now said after on last first = tt

      pub ended_by : (r : Result ℕ CheckpointError) (T Z : Served) (w : Vaulted V) → y.records ≡ y.first + length y.since → t ≡ T.state → (IsErrOf r (Failed j.failing) → IsKept means t m Z.state w)
          → IfErr r (λ e. (j.failing ≡ [] → ⊥) → (e ≡ Failed j.failing) ⊎ IsLost means t m Z.state w e)
          → (j.failing ≡ [] → cause_of t m ≡ None → OnErr r ((r ≡ Err Fault) × (Z ≡ record T { state = in_checkpoint (store_stopped (taken T.state)) false }) × FailsToTurn means t m (side_in d) w))
          → Z.state.checking ≡ false → IsNoShorter means.told m w
          → IfErr r (λ e. HasEndedBy means gs y v e hs Z.state w)
      ended_by (Ok number) T Z w counted is_state kept failed fault ends on = tt
      ended_by (Err e) T Z w counted is_state kept failed fault ends on =
          not_certified Z.state w e counted (λ now. kept (same_err now)) failed
          (λ none runs. let said = fault none runs in (err_same said.0, ap (λ (s : Served). s.state) said.1 ∙ ap (λ (a : SystemState). in_checkpoint (store_stopped (taken a)) false) (sym is_state), said.2))
          ends on

  -- ---- what the clauses say
  module _ (gs hs : List RegionState) (y z : SystemState) (v w : Vaulted V) where
    abbrev Made : ℕ → Type 0
    Made n = HasMade means gs y v n hs z w

    abbrev Ended : CheckpointError → Type 0
    Ended e = HasEndedBy means gs y v e hs z w

    pub made_ok : (r : Result ℕ CheckpointError) → IfOk r Made → IfOk r (λ n. (n ≡ v.current + 1) × (w.current ≡ n) × (w.stopped ≡ false))
    made_ok (Ok n) k = (k.next, k.current, k.runs)
    made_ok (Err e) k = tt

    pub made_clean : (r : Result ℕ CheckpointError) → IfOk r Made → OnOk r (failing_in gs ≡ [])
    made_clean (Ok n) k = k.clean
    made_clean (Err e) k = tt

    pub made_regions : (r : Result ℕ CheckpointError) → IfOk r Made → OnOk r (hs ≡ checkpointed (side_of (v.current + 1)) gs)
    made_regions (Ok n) k = k.regions
    made_regions (Err e) k = tt

    pub made_logged : (r : Result ℕ CheckpointError) → IfOk r Made → OnOk r (z ≡ behind_checkpoint y [])
    made_logged (Ok n) k = k.system
    made_logged (Err e) k = tt

    pub made_room : (r : Result ℕ CheckpointError) → IfOk r Made → OnOk r (audit_refusal y AuditBegin ≡ None)
    made_room (Ok n) k = k.room
    made_room (Err e) k = tt

    pub made_calls : (r : Result ℕ CheckpointError) → IfOk r Made → OnOk r (means.lets_pass w.store ≡ fewer (checkpoint_calls y (side_of (v.current + 1)) gs) (means.lets_pass v.store))
    made_calls (Ok n) k = k.calls
    made_calls (Err e) k = tt

    pub made_err : (r : Result ℕ CheckpointError) → IfErr r Ended → IfErr r (λ e. HasNotMade means.faults gs y v e hs z w)
    made_err (Ok n) k = tt
    made_err (Err e) k = k.by

    pub made_whole : (r : Result ℕ CheckpointError) → IfOk r Made → IfErr r Ended → IsWholeCore means.told hs z w
    made_whole (Ok n) k l = k.whole
    made_whole (Err e) k l = l.whole

    pub made_goes : (r : Result ℕ CheckpointError) → IfOk r Made → IfErr r Ended → LeadsIdle means gs y v hs z w
    made_goes (Ok n) k l = k.goes
    made_goes (Err e) k l = l.goes

    busy_is : (e : CheckpointError) → HasNotMade means.faults gs y v e hs z w → y.checking ≡ true → e ≡ InProgress
    busy_is InProgress k flag = refl
    busy_is (Stopped cause) k flag = absurd (not_both_ways flag k.0)
    busy_is (Failed found) k flag = absurd (not_both_ways flag k.0.0)
    busy_is (LogFull end limit) k flag = absurd (not_both_ways flag k.0.0)
    busy_is OutOfMemory k flag = absurd (not_both_ways flag k.0.0)
    busy_is Fault k flag = absurd (not_both_ways flag k.0.0)

    pub made_in_progress : (r : Result ℕ CheckpointError) → IfOk r Made → IfErr r Ended → y.checking ≡ true → r ≡ Err InProgress
    made_in_progress (Ok n) k l flag = absurd (not_both_ways flag k.idle)
    made_in_progress (Err e) k l flag = ap Err (busy_is e l.by flag)

    abbrev Same : CheckpointError → CheckpointError → Type 0
    Same e f = ◌≡◌ {A = Result ℕ CheckpointError} (Err e) (Err f)

    none_stops : (P : Cause → Type 0) → cause_of y v ≡ None → IfSome (cause_of y v) P
    none_stops P none = subst (λ o. IfSome o P) (sym none) tt

    stopped_is : (e : CheckpointError) → HasNotMade means.faults gs y v e hs z w → y.checking ≡ false → IfSome (cause_of y v) (λ cause. Same e (Stopped cause))
    stopped_is InProgress k idle = absurd (not_both_ways k.0 idle)
    stopped_is (Stopped cause) k idle = subst (λ o. IfSome o (λ c. Same (Stopped cause) (Stopped c))) (sym k.1) refl
    stopped_is (Failed found) k idle = none_stops (λ c. Same (Failed found) (Stopped c)) k.0.1
    stopped_is (LogFull end limit) k idle = none_stops (λ c. Same (LogFull end limit) (Stopped c)) k.0.1
    stopped_is OutOfMemory k idle = none_stops (λ c. Same OutOfMemory (Stopped c)) k.0.1
    stopped_is Fault k idle = none_stops (λ c. Same Fault (Stopped c)) k.0.1

    pub made_stopped : (r : Result ℕ CheckpointError) → IfOk r Made → IfErr r Ended → y.checking ≡ false → IfSome (cause_of y v) (λ cause. r ≡ Err (Stopped cause))
    made_stopped (Ok n) k l idle = none_stops (λ c. ◌≡◌ {A = Result ℕ CheckpointError} (Ok n) (Err (Stopped c))) k.ran
    made_stopped (Err e) k l idle = stopped_is e l.by idle
