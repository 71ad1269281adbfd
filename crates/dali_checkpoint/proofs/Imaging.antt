-- The image of a whole checkpoint, and its audit: what its calls leave, joined.
use Rattle.std.proofs.Common.{◌≡◌, ℕ, ◌+◌, ◌<◌, ◌≤◌, ◌^◌, Bool, true, false, List, length, map, Option, Some, None, IfSome, IsSome, refl, ap, sym, subst, ◌∙◌, inl, inr, arith, ◌⊎◌}
use Rattle.std.specs.Prelude.{if◌then◌else◌, nat_lt}
use Rattle.std.proofs.lemmas.Bool.{ltb-false}
use Rattle.dali_geometry.specs.Places.{regions}
use Rattle.dali_record.specs.declared.records.Record.TheVariants.{AuditBegin}
use Rattle.dali_region.specs.State.{RegionState, checked}
use Rattle.dali_store.specs.Store.{Files as Disk}
use Rattle.dali_store.specs.Calls.{fewer}
use Rattle.dali_store.specs.Faults.{Rose}
use Rattle.dali_store.specs.declared.store.Store.{Ghosts}
use Rattle.dali_runs.specs.State.{SystemState}
use Rattle.dali_runs.specs.declared.causes.Cause.{Cause}
use Rattle.dali_runs.specs.Steps.{taken, store_stopped, audit_begun}
use Rattle.dali_system.specs.Audits.{audit_refusal}
use Rattle.dali_system.specs.Refused.{room_of}
use Rattle.dali_system.specs.declared.error.SystemError.{SystemError}
use Rattle.dali_system.specs.declared.error.SystemError.TheVariants.{Stopped as SystemStopped, LogFull as SystemFull, OutOfMemory as SystemMemory}
use Rattle.dali_audit.specs.Findings.{Judged}
use Rattle.dali_crash.specs.Disks.Disks.{image_name}
use Rattle.dali_crash.specs.Disks.Places.{place_of}
use Rattle.dali_core.specs.Vault.Vaulted.{Vaulted}
use Rattle.dali_core.specs.Cores.{HoldsPlaces}
use Rattle.dali_core.specs.Moments.{flush_calls}
use Rattle.dali_checkpoint.specs.Kept.{Checkpointed, side_in, cause_of}
use Rattle.dali_checkpoint.specs.Done.{Reaches, Writes, FailsToWrite}
use Rattle.dali_core.specs.Cores.{IsNoShorter}
use Rattle.dali_checkpoint.specs.Runs.{runs_in}
use Rattle.dali_checkpoint.specs.Making.{failing_in, with_audit, hold_on, checkpoint_error, SameTable, SameLog, AuditLeft, AuditRefused, AuditGoes, AuditFails, ImageGoes, HasCopied, HasNotCopied, HasImage, NoImageBy, HasNoImage}
use Rattle.dali_checkpoint.specs.declared.error.CheckpointError.{CheckpointError}
use Rattle.dali_checkpoint.specs.declared.error.CheckpointError.TheVariants.{Fault}
use Rattle.dali_checkpoint.proofs.Lengths.{places_stay}
use Rattle.dali_checkpoint.proofs.Results.{failing_copied, holds_copied, holds_checked, places_checked, writes_vault, writes_kept, write_stops, write_current, write_rose, has_cause, stays_stopped}
use Rattle.dali_checkpoint.proofs.Walks.{map_length, calls_then}
use Rattle.dali_checkpoint.proofs.Whole.{audit_leads, audit_stays, audit_is_left, image_goes, settle_fails, audit_fails}

-- ---- why an audit is refused
-- where the engine runs, its log has no room, or memory was refused
by_refusal : (P : SystemError → Type 0) (stop : Option Cause) (end limit n : ℕ) (e : SystemError) → stop ≡ None → room_of stop end limit n ≡ Some e
    → ((a b : ℕ) → room_of stop end limit n ≡ Some (SystemFull a b) → P (SystemFull a b)) → P SystemMemory → P e
by_refusal P stop end limit n (SystemStopped cause) runs refused full memory = absurd (never (nat_lt limit (end + n)) (sym (ap (λ s. room_of s end limit n) runs) ∙ refused))
  where
    never : (b : Bool) → (if b then Some (SystemFull end limit) else None) ≡ Some (SystemStopped cause) → ⊥
    never true e = cc
    never false e = cc
by_refusal P stop end limit n (SystemFull a b) runs refused full memory = full a b refused
by_refusal P stop end limit n SystemMemory runs refused full memory = memory

-- no cause to refuse, so there is room
has_room : (stop : Option Cause) (end limit : ℕ) → room_of stop end limit 1 ≡ None → (stop ≡ None) × (end + 1 ≤ limit)
has_room (Some cause) end limit e = absurd (cc)
has_room None end limit e = (refl, fits (nat_lt limit (end + 1)) refl e)
  where
    fits : (b : Bool) → nat_lt limit (end + 1) ≡ b → (if b then Some (SystemFull end limit) else None) ≡ None → end + 1 ≤ limit
    fits true test none = absurd (cc)
    fits false test none = ltb-false limit (end + 1) test

pub runs_with_room : (y : SystemState) → audit_refusal y AuditBegin ≡ None → (y.stop ≡ None) × (y.end + 1 ≤ y.limit + 1048576)
runs_with_room y e = has_room y.stop y.end (y.limit + 1048576) e

module _ {V : Type 0} (means : Ghosts V) where
  -- ---- no copies
  pub image_not_copied : (gs hs : List RegionState) (y : SystemState) (v w : Vaulted V) (c d : Checkpointed) → HasNotCopied means c gs v d hs w
      → HasNoImage means gs y v c Fault hs y w d
  image_not_copied gs hs y v w c d k = record {
    by = (k.stopped, inr k.faulted, k.rose, refl);
    table = (refl, refl);
    checking = refl;
    current = k.current;
    holds = k.holds;
    places = k.places;
    faulted = λ f. k.stopped;
    fails = λ s B p h is. k.fails s B p y h is;
  }

  -- ---- behind the copies
  module _ (gs ks : List RegionState) (y : SystemState) (v u : Vaulted V) (c d : Checkpointed) (k : HasCopied means c gs v d ks u) (all : length gs ≡ regions y.sizes) (sizes : c.header.geometry ≡ y.sizes) where
    pub copied_full : d.copied ≡ regions d.header.geometry
    copied_full = ap (λ (x : Checkpointed). x.copied) k.checkpoint ∙ (all ∙ (ap regions (sym sizes) ∙ ap (λ (x : Checkpointed). regions x.header.geometry) (sym k.checkpoint)))

    pub copied_reaches : Reaches means.told (side_in d) d.copied u
    copied_reaches = subst (λ (x : Checkpointed). Reaches means.told (side_in x) x.copied u) (sym k.checkpoint) k.reaches

    pub copied_end : u.end ≡ v.end
    copied_end = ap (λ (x : Vaulted V). x.end) k.vault

    pub copied_cause : cause_of y v ≡ None → cause_of y u ≡ None
    copied_cause none = ap (λ (x : Vaulted V). cause_of y x) k.vault ∙ none

    copied_current : u.current ≡ v.current
    copied_current = ap (λ (x : Vaulted V). x.current) k.vault

    pub copied_count : length ks ≡ length gs
    copied_count = ap length k.regions ∙ map_length _ gs

    copied_holds : map hold_on ks ≡ map hold_on gs
    copied_holds = ap (map hold_on) k.regions ∙ holds_copied (side_in c) gs

    copied_failing : failing_in ks ≡ failing_in gs
    copied_failing = ap failing_in k.regions ∙ failing_copied (side_in c) gs

    -- its settlement met a fault
    pub image_not_settled : (z : SystemState) (w : Vaulted V) (e : Checkpointed) (at n : ℕ) → e ≡ d → z ≡ store_stopped (taken y) → FailsToWrite means y u (image_name (side_in d)) at n w → IsNoShorter means.told u w
        → HasNoImage means gs y v c Fault ks z w e
    image_not_settled z w e at n same is said longer = record {
      by = (stopped, inl (subst (λ (x : SystemState). IsSome x.stop) (sym is) (stays_stopped (taken y))), subst (λ m. Rose m (means.faults w.store)) k.kept (write_rose means y u w (image_name (side_in d)) at n said), subst (SameLog y) (sym is) refl);
      table = (ap (λ (x : SystemState). x.sizes) is, ap (λ (x : SystemState). x.table) is);
      checking = ap (λ (x : SystemState). x.checking) is;
      current = write_current means y u w (image_name (side_in d)) at n said ∙ copied_current;
      holds = copied_holds;
      places = places_stay (means.told u.store) (means.told w.store) ks longer k.places;
      faulted = λ f. stopped;
      fails = settle_fails means gs ks y z v u w c d at n k.goes said is;
    }
      where
        stopped : w.stopped ≡ true
        stopped = write_stops means y u w (image_name (side_in d)) at n said

    -- ---- behind the settlement
    module _ (x : SystemState) (w : Vaulted V) (e : Checkpointed) (said : Writes means y u (image_name (side_in d)) (place_of d.copied) d.table w) (is : x ≡ taken y) (settled : e ≡ record d { settled = Some y.records })
        (longer : IsNoShorter means.told u w) where
      settled_current : w.current ≡ v.current
      settled_current = (writes_vault means y u w (image_name (side_in d)) (place_of d.copied) d.table said).0 ∙ copied_current

      settled_runs : w.stopped ≡ false
      settled_runs = (writes_vault means y u w (image_name (side_in d)) (place_of d.copied) d.table said).1

      settled_places : IfSome (means.told w.store) (HoldsPlaces ks)
      settled_places = places_stay (means.told u.store) (means.told w.store) ks longer k.places

      pub settled_all : length ks ≡ regions x.sizes
      settled_all = copied_count ∙ (all ∙ ap (λ (z : SystemState). regions z.sizes) (sym is))

      same_refusal : audit_refusal y AuditBegin ≡ audit_refusal x AuditBegin
      same_refusal = ap (λ (z : SystemState). audit_refusal z AuditBegin) (sym is)

      stop_is : x.stop ≡ y.stop
      stop_is = ap (λ (z : SystemState). z.stop) is

      -- its audit was refused
      pub image_not_audited : (hs : List RegionState) (z : SystemState) (r : SystemError) (f : CheckpointError) → f ≡ checkpoint_error r → c.faulted ≡ false → y.stop ≡ None → AuditRefused x r → AuditLeft ks x hs z
          → HasNoImage means gs y v c f hs z w e
      image_not_audited hs z r f given none runs refused left = record {
        by = subst (λ g. NoImageBy means.faults y v g z w e) (sym given) (by_cause refused);
        table = table_of left;
        checking = checking_of left ∙ ap (λ (t : SystemState). t.checking) is;
        current = settled_current;
        holds = holds_of left ∙ copied_holds;
        places = places_of left;
        faulted = λ yes. let no : true ≡ false = sym yes ∙ faulted_is in absurd (cc);
        fails = audit_fails means gs ks hs y x z v u w c d e k.goes copied_full said is settled (fails_of left);
      }
        where
          faulted_is : e.faulted ≡ false
          faulted_is = ap (λ (a : Checkpointed). a.faulted) settled ∙ (ap (λ (a : Checkpointed). a.faulted) k.checkpoint ∙ none)

          left_stop : AuditLeft ks x hs z → z.stop ≡ None
          left_stop (inl l) = ap (λ (t : SystemState). t.stop) l.1 ∙ (stop_is ∙ runs)
          left_stop (inr l) = ap (λ (t : SystemState). t.stop) l.2 ∙ (stop_is ∙ runs)

          no_cause_now : cause_of z w ≡ None
          no_cause_now = has_cause z w (left_stop left) settled_runs

          same_log : z ≡ x → SameLog y z
          same_log e = subst (SameLog y) (sym (e ∙ is)) refl

          log_left : AuditLeft ks x hs z → SameLog y z ⊎ SameLog (audit_begun y) z
          log_left (inl l) = inl (same_log l.1)
          log_left (inr l) = inr (subst (SameLog (audit_begun y)) (sym (l.2 ∙ ap audit_begun is)) refl)

          -- where its begin was refused nothing is logged
          none_logged : (a b : ℕ) → audit_refusal x AuditBegin ≡ Some (SystemFull a b) → AuditLeft ks x hs z → SameLog y z
          none_logged a b full (inl l) = same_log l.1
          none_logged a b full (inr l) = let no : Some (SystemFull a b) ≡ None = sym full ∙ l.0 in absurd (cc)

          by_cause : AuditRefused x r → NoImageBy means.faults y v (checkpoint_error r) z w e
          by_cause (inl full) = by_refusal (λ a. NoImageBy means.faults y v (checkpoint_error a) z w e) x.stop x.end (x.limit + 1048576) 1 r (stop_is ∙ runs) full
              (λ a b is_full. (same_refusal ∙ is_full, no_cause_now, faulted_is, none_logged a b is_full left)) (no_cause_now, faulted_is, log_left left)
          by_cause (inr memory) = subst (λ a. NoImageBy means.faults y v (checkpoint_error a) z w e) (sym memory.1) (no_cause_now, faulted_is, log_left left)

          table_of : AuditLeft ks x hs z → SameTable y z
          table_of (inl l) = (ap (λ (t : SystemState). t.sizes) (l.1 ∙ is), ap (λ (t : SystemState). t.table) (l.1 ∙ is))
          table_of (inr l) = (ap (λ (t : SystemState). t.sizes) l.2 ∙ ap (λ (t : SystemState). t.sizes) is, ap (λ (t : SystemState). t.table) l.2 ∙ ap (λ (t : SystemState). t.table) is)

          checking_of : AuditLeft ks x hs z → z.checking ≡ x.checking
          checking_of (inl l) = ap (λ (t : SystemState). t.checking) l.1
          checking_of (inr l) = ap (λ (t : SystemState). t.checking) l.2

          holds_of : AuditLeft ks x hs z → map hold_on hs ≡ map hold_on ks
          holds_of (inl l) = ap (map hold_on) l.0
          holds_of (inr l) = ap (map hold_on) l.1 ∙ holds_checked ks

          places_of : AuditLeft ks x hs z → IfSome (means.told w.store) (HoldsPlaces hs)
          places_of (inl l) = subst (λ (rs : List RegionState). IfSome (means.told w.store) (HoldsPlaces rs)) (sym l.0) settled_places
          places_of (inr l) = subst (λ (rs : List RegionState). IfSome (means.told w.store) (HoldsPlaces rs)) (sym l.1) (places_checked (means.told w.store) ks settled_places)

          fails_of : AuditLeft ks x hs z → AuditFails means ks x hs z
          fails_of (inl l) = subst (λ (rs : List RegionState). AuditFails means ks x rs z) (sym l.0) (subst (λ (t : SystemState). AuditFails means ks x ks t) (sym l.1) (audit_stays means ks x))
          fails_of (inr l) =
              let room = runs_with_room x l.0 in
              subst (λ (rs : List RegionState). AuditFails means ks x rs z) (sym l.1) (subst (λ (t : SystemState). AuditFails means ks x (map checked ks) t) (sym l.2) (audit_is_left means ks x room.0 room.1 settled_all))

      -- it was audited
      pub image_made : (hs : List RegionState) (z : SystemState) (j : Judged) → j ≡ record { begin = x.records; failing = failing_in ks } → z ≡ with_audit x (failing_in ks) → hs ≡ map checked ks → audit_refusal x AuditBegin ≡ None
          → x.records < 2 ^ 64 → length gs < 2 ^ 32 → w.end ≤ u.end + 2 ^ 31
          → means.lets_pass w.store ≡ fewer (flush_calls y + 1) (means.lets_pass u.store)
          → HasImage means gs y v c j hs z w e
      image_made hs z j judged audited checks room number few grows calls = record {
        verdict = judged ∙ ap (λ (t : SystemState). record { begin = t.records; failing = failing_in ks }) is ∙ ap (λ found. record { begin = y.records; failing = found }) copied_failing;
        settled = settled ∙ ap (λ (a : Checkpointed). record a { settled = Some y.records }) k.checkpoint;
        regions = checks ∙ ap (map checked) k.regions;
        system = audited ∙ (ap (λ (t : SystemState). with_audit t (failing_in ks)) is ∙ ap (with_audit (taken y)) copied_failing);
        runs = settled_runs;
        current = settled_current;
        end = omega (arith, grows, copied_end);
        kept = writes_kept means y u w (image_name (side_in d)) (place_of d.copied) d.table said ∙ k.kept;
        tells = said.written.ok.tells ∙ (said.flushed.2.ok.tells ∙ k.tells);
        calls = calls_then (runs_in (side_in c) gs) (flush_calls y + 1) (means.lets_pass v.store) (means.lets_pass u.store) (means.lets_pass w.store) k.calls calls;
        room = same_refusal ∙ room;
        places = subst (λ (rs : List RegionState). IfSome (means.told w.store) (HoldsPlaces rs)) (sym checks) (places_checked (means.told w.store) ks settled_places);
        goes =
            let fits = runs_with_room x room in
            subst (ImageGoes means gs y v c hs z w e) (sym (ap (λ (a : Judged). a.failing) judged))
            (image_goes means gs ks hs y x z v u w c d e (failing_in ks) k.goes copied_full said is settled
            (subst (λ (rs : List RegionState). AuditGoes means ks x rs z (failing_in ks)) (sym checks)
            (subst (λ (t : SystemState). AuditGoes means ks x (map checked ks) t (failing_in ks)) (sym audited)
            (audit_leads means ks x fits.0 fits.1 number settled_all (omega (arith, few, copied_count))))));
      }
