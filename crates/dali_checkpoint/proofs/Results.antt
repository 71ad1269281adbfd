-- What a whole checkpoint leaves of regions, system and vault.
use Rattle.std.proofs.Common.{◌≡◌, ℕ, zero, suc, ◌+◌, ◌≤◌, Bool, true, false, List, [], ◌∷◌, length, map, Option, Some, None, IfSome, Result, Ok, Err, refl, ap, sym, subst, ◌∙◌, inl, inr}
use Rattle.std.specs.Prelude.{◌==◌, if◌then◌else◌, slice_get, IsSome}
use Rattle.std.specs.FinMap as map
use Rattle.dali_lists.proofs.Options.{some_same}
use Rattle.dali_att.specs.declared.state.State.TheVariants.{Dead}
use Rattle.dali_geometry.specs.Places.{regions}
use Rattle.dali_region.specs.declared.Hold.{Hold}
use Rattle.dali_region.specs.declared.Side.{Side}
use Rattle.dali_region.specs.declared.Side.TheVariants.{A as SideA, B as SideB}
use Rattle.dali_region.specs.State.{RegionState, checked}
use Rattle.dali_region.specs.Answers.{is_dirty, cleaned}
use Rattle.dali_store.specs.Store.{Files as Disk}
use Rattle.dali_store.specs.Faults.{Rose}
use Rattle.dali_runs.specs.State.{SystemState, VaultState, hold_in, state_in}
use Rattle.dali_runs.specs.Regions.{is_alive}
use Rattle.dali_runs.specs.Wholes.{IsWhole, AreOfKind, latched_in}
use Rattle.dali_crash.specs.Disks.Disks.{image_file}
use Rattle.dali_crash.specs.Disks.Places.{place_of}
use Rattle.dali_core.specs.Vault.Vaulted.{Vaulted, with_store}
use Rattle.dali_audit.specs.declared.audit.Finding.TheVariants.{Clean, Damaged}
use Rattle.dali_audit.specs.Findings.{damaged, is_passed, AllPassed}
use Rattle.dali_core.specs.Cores.{HoldsPlaces, IsWholeCore}
use Rattle.dali_checkpoint.specs.declared.error.CheckpointError.{CheckpointError}
use Rattle.dali_checkpoint.specs.declared.error.CheckpointError.TheVariants.{Stopped as StoppedBy}
use Rattle.dali_checkpoint.specs.Kept.{cause_in, cause_of}
use Rattle.dali_checkpoint.specs.Done.{Writes, FailsToWrite, FailsToTurn}
use Rattle.dali_checkpoint.specs.Making.{found_in, failing_in, copied_to, hold_on, SameTable}
use Rattle.dali_checkpoint.proofs.Walks.{same_length as same_mapped, map_same}
use Rattle.dali_store.specs.declared.store.FileName.{FileName}
use Rattle.dali_store.specs.declared.store.Store.{Ghosts}
use Rattle.dali_runs.specs.declared.causes.Cause.{Cause}
use Rattle.dali_runs.specs.Steps.{store_stopped, stopped_by}

-- ---- what a copy and a check leave of a region
pub found_cleaned : (side : Side) (g : RegionState) → found_in (cleaned side g) ≡ found_in g
found_cleaned SideA g = refl
found_cleaned SideB g = refl

pub hold_cleaned : (side : Side) (g : RegionState) → hold_on (cleaned side g) ≡ hold_on g
hold_cleaned SideA g = refl
hold_cleaned SideB g = refl

pub failing_copied : (side : Side) (gs : List RegionState) → failing_in (copied_to side gs) ≡ failing_in gs
failing_copied side gs = ap damaged (map_same (cleaned side) found_in (found_cleaned side) gs)

pub holds_copied : (side : Side) (gs : List RegionState) → map hold_on (copied_to side gs) ≡ map hold_on gs
holds_copied side gs = map_same (cleaned side) hold_on (hold_cleaned side) gs

pub holds_checked : (gs : List RegionState) → map hold_on (map checked gs) ≡ map hold_on gs
holds_checked gs = map_same checked hold_on (λ g. refl) gs

passed_by : (b : Bool) → is_passed (if b then Clean else Damaged) ≡ true
passed_by true = refl
passed_by false = refl

pub all_found : (gs : List RegionState) → AllPassed (map found_in gs)
all_found [] r f e = absurd (cc)
all_found (g ∷ gs) zero f e = ap is_passed (sym (some_same e)) ∙ passed_by (g.stray == 0)
all_found (g ∷ gs) (suc r) f e = all_found gs r f e

-- ---- a check changes no flag
pub checked_dirty : (g : RegionState) (side : Side) → is_dirty (checked g) side ≡ is_dirty g side
checked_dirty g SideA = refl
checked_dirty g SideB = refl

get_checked : (gs : List RegionState) (r : ℕ) (h : RegionState) → slice_get (map checked gs) r ≡ Some h → (g : RegionState) × (slice_get gs r ≡ Some g) × (h ≡ checked g)
get_checked [] r h e = absurd (cc)
get_checked (g ∷ gs) zero h e = (g, refl, sym (some_same e))
get_checked (g ∷ gs) (suc r) h e = get_checked gs r h e

places_checked_in : (gs : List RegionState) (fs : Disk) → HoldsPlaces gs fs → HoldsPlaces (map checked gs) fs
places_checked_in gs fs holds side r h at clean =
    let g = get_checked gs r h at in
    holds side r g.0 g.1 (sym (checked_dirty g.0 side) ∙ (ap (λ z. is_dirty z side) (sym g.2) ∙ clean))

pub places_checked : (o : Option Disk) (gs : List RegionState) → IfSome o (HoldsPlaces gs) → IfSome o (HoldsPlaces (map checked gs))
places_checked (Some fs) gs holds = places_checked_in gs fs holds
places_checked None gs holds = tt

pub place_there : (o : Option Disk) (gs : List RegionState) (side : Side) (r : ℕ) (g : RegionState) → slice_get gs r ≡ Some g → IfSome o (HoldsPlaces gs) → is_dirty g side ≡ false → IfSome o (λ fs. place_of (r + 1) ≤ length (image_file side fs))
place_there (Some fs) gs side r g at holds clean = holds side r g at clean
place_there None gs side r g at holds clean = tt

-- ---- wholeness
abbrev get_hold : List (Option Hold) → ℕ → Option Hold
get_hold [] r = None
get_hold (o ∷ os) zero = o
get_hold (o ∷ os) (suc r) = get_hold os r

hold_at : (gs : List RegionState) (r : ℕ) → hold_in (slice_get gs r) ≡ get_hold (map hold_on gs) r
hold_at [] r = refl
hold_at (g ∷ gs) zero = refl
hold_at (g ∷ gs) (suc r) = hold_at gs r

same_hold : (gs hs : List RegionState) (r : ℕ) → map hold_on hs ≡ map hold_on gs → hold_in (slice_get hs r) ≡ hold_in (slice_get gs r)
same_hold gs hs r e = hold_at hs r ∙ (ap (λ os. get_hold os r) e ∙ sym (hold_at gs r))

whole_over : (gs hs : List RegionState) (y z : SystemState) (u : VaultState) → map hold_on hs ≡ map hold_on gs → SameTable y z
    → IsWhole (record { regions = gs; system = y; vault = u }) → IsWhole (record { regions = hs; system = z; vault = u })
whole_over gs hs y z u holds same whole = record {
  regions = same_mapped hold_on gs hs holds ∙ (whole.regions ∙ ap regions (sym same.0));
  undos = λ t. subst (λ x. AreOfKind x (map.get z.table t)) (sym same.0) (subst (λ m. AreOfKind y.sizes (map.get m t)) (sym same.1) (whole.undos t));
  dead = λ r h held dead. subst (λ m. latched_in (state_in (map.get m h.txn)) ≡ Some r) (sym same.1) (whole.dead r h (sym (same_hold gs hs r holds) ∙ held) dead);
  named = λ t r state.
      let n = whole.named t r (subst (λ m. state_in (map.get m t) ≡ Some (Dead (Some r))) same.1 state) in
      (n.0, same_hold gs hs r holds ∙ n.1, n.2, n.3);
  live = λ r h held lives. subst (λ m. is_alive (state_in (map.get m h.txn)) ≡ true) (sym same.1) (whole.live r h (sym (same_hold gs hs r holds) ∙ held) lives);
}

pub whole_behind : {V : Type 0} (told : V → Option Disk) (gs hs : List RegionState) (y z : SystemState) (v w : Vaulted V) → map hold_on hs ≡ map hold_on gs → SameTable y z
    → IfSome (told w.store) (HoldsPlaces hs) → IsWholeCore told gs y v → IsWholeCore told hs z w
whole_behind told gs hs y z v w holds same places whole = record { parts = λ u. whole_over gs hs y z u holds same (whole.parts u); files = places }

-- ---- what a flush and a write leave of the vault
module _ {V : Type 0} (means : Ghosts V) where
  pub writes_vault : (y : SystemState) (v w : Vaulted V) (f : FileName) (at : ℕ) (bytes : List ℕ) → Writes means y v f at bytes w → (w.current ≡ v.current) × (w.stopped ≡ false)
  writes_vault y v w f at bytes said = (ap (λ (x : Vaulted V). x.current) said.written.vault ∙ ap (λ (x : Vaulted V). x.current) said.flushed.2.vault, said.written.ok.runs)

  pub write_stops : (y : SystemState) (v w : Vaulted V) (f : FileName) (at n : ℕ) → FailsToWrite means y v f at n w → w.stopped ≡ true
  write_stops y v w f at n (inl said) = ap (λ (x : Vaulted V). x.stopped) said.2.vault
  write_stops y v w f at n (inr said) = ap (λ (x : Vaulted V). x.stopped) said.failed.vault

  pub writes_kept : (y : SystemState) (v w : Vaulted V) (f : FileName) (at : ℕ) (bytes : List ℕ) → Writes means y v f at bytes w → means.faults w.store ≡ means.faults v.store
  writes_kept y v w f at bytes said = said.written.ok.kept ∙ said.flushed.2.ok.kept

  pub write_current : (y : SystemState) (v w : Vaulted V) (f : FileName) (at n : ℕ) → FailsToWrite means y v f at n w → w.current ≡ v.current
  write_current y v w f at n (inl said) = ap (λ (x : Vaulted V). x.current) said.2.vault
  write_current y v w f at n (inr said) = ap (λ (x : Vaulted V). x.current) said.failed.vault ∙ ap (λ (x : Vaulted V). x.current) said.flushed.2.vault

  pub write_rose : (y : SystemState) (v w : Vaulted V) (f : FileName) (at n : ℕ) → FailsToWrite means y v f at n w → Rose (means.faults v.store) (means.faults w.store)
  write_rose y v w f at n (inl said) = said.2.rose
  write_rose y v w f at n (inr said) = subst (λ m. Rose m (means.faults w.store)) said.flushed.2.ok.kept said.failed.rose

  pub turn_stops : (y : SystemState) (v w : Vaulted V) (side : Side) → FailsToTurn means y v side w → w.stopped ≡ true
  turn_stops y v w side (inl said) = ap (λ (x : Vaulted V). x.stopped) said.2.vault
  turn_stops y v w side (inr (inl said)) = ap (λ (x : Vaulted V). x.stopped) said.failed.vault
  turn_stops y v w side (inr (inr said)) = ap (λ (x : Vaulted V). x.stopped) said.failed.vault

  pub turn_current : (y : SystemState) (v w : Vaulted V) (side : Side) → FailsToTurn means y v side w → w.current ≡ v.current
  turn_current y v w side (inl said) = ap (λ (x : Vaulted V). x.current) said.2.vault
  turn_current y v w side (inr (inl said)) = ap (λ (x : Vaulted V). x.current) said.failed.vault ∙ ap (λ (x : Vaulted V). x.current) said.flushed.2.vault
  turn_current y v w side (inr (inr said)) = ap (λ (x : Vaulted V). x.current) said.failed.vault ∙ (ap (λ (x : Vaulted V). x.current) said.synced.vault ∙ ap (λ (x : Vaulted V). x.current) said.flushed.2.vault)

  pub turn_rose : (y : SystemState) (v w : Vaulted V) (side : Side) → FailsToTurn means y v side w → Rose (means.faults v.store) (means.faults w.store)
  turn_rose y v w side (inl said) = said.2.rose
  turn_rose y v w side (inr (inl said)) = subst (λ m. Rose m (means.faults w.store)) said.flushed.2.ok.kept said.failed.rose
  turn_rose y v w side (inr (inr said)) = subst (λ m. Rose m (means.faults w.store)) (said.synced.ok.kept ∙ said.flushed.2.ok.kept) said.failed.rose

pub has_cause : {V : Type 0} (y : SystemState) (v : Vaulted V) → y.stop ≡ None → v.stopped ≡ false → cause_of y v ≡ None
has_cause y v e f = ap (λ o. cause_in o v.stopped) e ∙ ap (cause_in None) f

pub no_cause : {V : Type 0} (y : SystemState) (v : Vaulted V) → cause_of y v ≡ None → (y.stop ≡ None) × (v.stopped ≡ false)
no_cause y v e = by_both y.stop v.stopped e
  where
    by_both : (o : Option Cause) (b : Bool) → cause_in o b ≡ None → (o ≡ None) × (b ≡ false)
    by_both (Some cause) b e = absurd (cc)
    by_both None true e = absurd (cc)
    by_both None false e = (refl, refl)

pub stays_stopped : (y : SystemState) → IsSome (store_stopped y).stop
stays_stopped y = by_cause y.stop
  where
    by_cause : (o : Option Cause) → IsSome (stopped_by o)
    by_cause None = search
    by_cause (Some c) = search

-- ---- errors
pub err_same : {T E : Type 0} {a b : E} → ◌≡◌ {A = Result T E} (Err a) (Err b) → a ≡ b
err_same e = cc

pub same_err : {T E : Type 0} {a b : E} → a ≡ b → ◌≡◌ {A = Result T E} (Err a) (Err b)
same_err e = ap Err e

pub err_not_ok : {T E : Type 0} {e : E} {x : T} → ◌≡◌ {A = Result T E} (Err e) (Ok x) → ⊥
err_not_ok e = cc

-- an answer that wasn't Ok where the engine was stopped
pub none_of_ok : {T : Type 0} (o : Option Cause) (x : T) → IfSome o (λ cause. ◌≡◌ {A = Result T CheckpointError} (Ok x) (Err (StoppedBy cause))) → o ≡ None
none_of_ok None x e = refl
none_of_ok (Some cause) x e = absurd (cc)

pub stopped_same : (T : Type 0) (o : Option Cause) (e : CheckpointError) → IfSome o (λ cause. ◌≡◌ {A = Result T CheckpointError} (Err e) (Err (StoppedBy cause))) → IfSome o (λ cause. e ≡ StoppedBy cause)
stopped_same T None e f = tt
stopped_same T (Some cause) e f = err_same f

pub still_runs : {V : Type 0} (v w : Vaulted V) → w ≡ with_store v w.store → v.stopped ≡ false → w.stopped ≡ false
still_runs v w e runs = ap (λ x. x.stopped) e ∙ runs
