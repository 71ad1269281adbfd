-- What the vault's calls of a checkpoint leave of the vault, while others go on.
use Rattle.std.proofs.Common.{◌≡◌, ℕ, zero, suc, ◌+◌, ◌≤◌, Bool, true, false, cond, List, [], ◌∷◌, ◌++◌, length, Option, Some, None, IfSome, refl, ap, sym, subst, ◌∙◌, arith}
use Rattle.std.specs.Prelude.{◌==◌, ◌&&◌, not, if◌then◌else◌, is_some, flat_map, slice_get}
use Rattle.std.proofs.lemmas.List.{append-nil, append_assoc}
use Rattle.std.proofs.lemmas.Bool.{eqb-true, eq-eqb}
use Rattle.dali_lists.proofs.Options.{some_same}
use Rattle.dali_geometry.specs.Places.{regions}
use Rattle.dali_record.specs.declared.records.Record.{Record}
use Rattle.dali_record.specs.Damage.{has}
use Rattle.dali_record.specs.Spelling.{words_bytes}
use Rattle.dali_region.specs.declared.Side.{Side}
use Rattle.dali_region.specs.State.{RegionState}
use Rattle.dali_region.specs.Answers.{is_dirty}
use Rattle.dali_store.specs.declared.store.FileName.{FileName}
use Rattle.dali_store.specs.Store.{Files as Disk, file_of}
use Rattle.dali_store.specs.declared.store.Store.{Ghosts}
use Rattle.dali_log.specs.Batch.{Framed}
use Rattle.dali_runs.specs.State.{CoreState}
use Rattle.dali_runs.specs.Flushes.{frame_of, with_batch, with_vault, longer, faulted}
use Rattle.dali_runs.specs.Courses.{Step, AuditBegins, AuditEnds, Flushes, Faults, ReadFails, Stops}
use Rattle.dali_runs.proofs.ImageSteps.{side_self}
use Rattle.dali_crash.specs.Checkpoints.{Head, StoreStep, Does, Starts, Keeps, Copies, Skips, WritesHead, Syncs, Turns, CopyFails, HeadFails, SyncFails, TurnFails, Finishes, Point, IsPointStep, IsPointCourse, MayTurn, target, side_of, image_in, copies_after}
use Rattle.dali_crash.specs.Traces.{Start, bases_of}
use Rattle.dali_crash.specs.Disks.Disks.{header_bytes, table_bytes, CanBeImage, image_name}
use Rattle.dali_crash.specs.Disks.Places.{place_of}
use Rattle.dali_crash.specs.Disks.NewFiles.{IsWholeFile}
use Rattle.dali_crash.proofs.DisksLemmas.Heads.{next_fits}
use Rattle.dali_core.specs.Vault.Vaulted.{Vaulted}
use Rattle.dali_core.specs.Steps.At.{IsVault, IsAt}
use Rattle.dali_core.specs.Steps.Called.{KeepsImage, IsUnderWayIn, IsWholeIn, IsHeldIn}
use Rattle.dali_core.specs.Steps.Courses.{calls_none}
use Rattle.dali_core.specs.Steps.Said.{HasFlushed, HasWritten, WriteHasFailed, HasSynced}
use Rattle.dali_core.specs.Cores.{HoldsPlaces}
use Rattle.dali_core.proofs.StepsLemmas.Files.{named}
use Rattle.dali_core.proofs.StepsLemmas.Steps.{quiet_goes, quiet_keeps, skip_goes, flush_goes, flush_faults, header_goes, table_goes, sync_goes, turn_goes, head_faults, sync_faults, turn_faults, places_stand}
use Rattle.dali_checkpoint.specs.CopiedOut.{is_silent as is_silent_there, IsAtBut, IsUnderWayBut, WaitsOn, WaitsForOne, WaitIsOver}
use Rattle.dali_checkpoint.proofs.CopyingOut.{silent_is_calm, clash, wait_begins, silent_waits, copy_waits, write_ends, write_fails}
use Rattle.dali_concurrent.specs.Entries.{Entry}
use Rattle.dali_concurrent.specs.Rules.{Outset, log_by, count_of}
use Rattle.dali_concurrent.specs.Told.{Effect, OnVault, History, plain, core_told}
use Rattle.dali_concurrent.specs.Landing.{BeginsAt, Stands, Way}
use Rattle.dali_concurrent.specs.Kept.{are_core_steps}
use Rattle.dali_concurrent.specs.Stages.{Image, Stage, Nowhere, Started, HasKept, Copying, Settled, image_after, is_of_image, stage_after, stage_line, stage_by, IsImage, IsStage}
use Rattle.dali_concurrent.specs.Calls.{is_still, AreStill, is_calm, AreCalm, next_image, IsImageIn, VaultAt, IsReady, IsImageBut, FilesHold, AtMeets, FlushHolds, FaultHolds, HeaderHolds, TableHolds, SyncHolds, TurnHolds, HeadFaultHolds, SyncFaultHolds, TurnFaultHolds, RunBegins, RunMeets, RunCopies, RunEnds, RunFaultHolds}
use Rattle.dali_concurrent.proofs.Landing.{front_stands}
use Rattle.dali_concurrent.proofs.Stages.{stage_push, stage_stands, stage_turns, sizes_are, sized}

-- ---- a step that calls no store
calm : (x : Step) → is_still (Does x) ≡ true → calls_none x ≡ true
calm Flushes h = absurd (cc)
calm (Faults n) h = absurd (cc)
calm (ReadFails n) h = absurd (cc)
calm x h = refl

silent_there : (q r : Point) (x : StoreStep) → is_still x ≡ true → IsPointStep q x r → is_silent_there x ≡ true
silent_there q r (Does x) h step = ap (λ z. not z && calls_none x) step.0 ∙ calm x h
silent_there q r Starts h step = refl
silent_there q r Keeps h step = refl
silent_there q r (Skips k n) h step = refl
silent_there q r Finishes h step = refl
silent_there q r (Copies k n) h step = absurd (cc)
silent_there q r (WritesHead g) h step = absurd (cc)
silent_there q r Syncs h step = absurd (cc)
silent_there q r Turns h step = absurd (cc)
silent_there q r (CopyFails k ws n) h step = absurd (cc)
silent_there q r (HeadFails g n) h step = absurd (cc)
silent_there q r (SyncFails n) h step = absurd (cc)
silent_there q r (TurnFails n) h step = absurd (cc)

calm_silent : (x : StoreStep) → is_calm x ≡ true → is_still x ≡ true
calm_silent (Skips r n) h = absurd (cc)
calm_silent (Does x) h = h
calm_silent Starts h = h
calm_silent Keeps h = h
calm_silent Finishes h = h
calm_silent (Copies r n) h = h
calm_silent (WritesHead g) h = h
calm_silent Syncs h = h
calm_silent Turns h = h
calm_silent (CopyFails r ws n) h = h
calm_silent (HeadFails g n) h = h
calm_silent (SyncFails n) h = h
calm_silent (TurnFails n) h = h

image_fields : (L : List Record) (c : CoreState) (i : Image) (x : Step) → ((image_after L c i x).header ≡ i.header) × ((image_after L c i x).head ≡ i.head) × ((image_after L c i x).synced ≡ i.synced)
image_fields L c i AuditBegins = (refl, refl, refl)
image_fields L c i (AuditEnds b []) = by_test (has i.begins b)
  where
    by_test : (t : Bool) → ((if t then record i { clean = Some (b, length L) } else i).header ≡ i.header) × ((if t then record i { clean = Some (b, length L) } else i).head ≡ i.head) × ((if t then record i { clean = Some (b, length L) } else i).synced ≡ i.synced)
    by_test true = (refl, refl, refl)
    by_test false = (refl, refl, refl)
image_fields L c i (AuditEnds b (a ∷ found)) = (refl, refl, refl)
image_fields L c i x = (refl, refl, refl)

-- ---- the one step of an entry
abbrev flushed_to : Point → Point
flushed_to p = record p { core = with_vault p.core (longer p.core.vault (frame_of p.log p.core)); copies = copies_after p.core Flushes p.copies }

flush_is : (p q : Point) → IsPointStep p (Does Flushes) q → q ≡ flushed_to p
flush_is p q h =
    h.2 ∙ (ap (λ L. record p { log = L; core = q.core; audits = q.audits; copies = copies_after p.core Flushes p.copies }) h.1.0.1.0
    ∙ (ap (λ d. record p { core = d; audits = q.audits; copies = copies_after p.core Flushes p.copies }) h.1.0.1.1
    ∙ ap (λ A. record p { core = with_vault p.core (longer p.core.vault (frame_of p.log p.core)); audits = A; copies = copies_after p.core Flushes p.copies }) h.1.1))

abbrev failed_to : Point → ℕ → Point
failed_to p n = record p { core = with_vault p.core (faulted p.core.vault n); copies = copies_after p.core (Faults n) p.copies }

fault_is : (p : Point) (n : ℕ) (q : Point) → IsPointStep p (Does (Faults n)) q → q ≡ failed_to p n
fault_is p n q h =
    h.2 ∙ (ap (λ L. record p { log = L; core = q.core; audits = q.audits; copies = copies_after p.core (Faults n) p.copies }) h.1.0.2.0
    ∙ (ap (λ d. record p { core = d; audits = q.audits; copies = copies_after p.core (Faults n) p.copies }) h.1.0.2.1
    ∙ ap (λ A. record p { core = with_vault p.core (faulted p.core.vault n); audits = A; copies = copies_after p.core (Faults n) p.copies }) h.1.1))

module _ (s : Start) (p : Point) (o : Outset) (T : History) (begins : BeginsAt (bases_of s) p o) where
  behind_one : (k : List ℕ) (e : Entry) (f : Effect) (x : StoreStep) (P : Point → Type 0) → ((q r : Point) → Stands (bases_of s) p o T q → IsPointStep q x r → P r)
      → (q : Point) → Stands (bases_of s) p o (T ++ (k, (e, f, x ∷ [])) ∷ []) q → P q
  behind_one k e f x P given q at =
      let split = front_stands (bases_of s) p o T ((k, (e, f, x ∷ [])) ∷ []) (T ++ (k, (e, f, x ∷ [])) ∷ []) q begins refl at in
      let course : IsPointCourse split.0 (x ∷ []) split.2.0 = split.2.1.course in
      subst P (course.2 ∙ split.2.2) (given split.0 course.0 split.1 course.1)

  behind_two : (k : List ℕ) (e : Entry) (f : Effect) (x y : StoreStep) (P : Point → Type 0) → ((q r z : Point) → Stands (bases_of s) p o T q → IsPointStep q x r → IsPointStep r y z → P z)
      → (q : Point) → Stands (bases_of s) p o (T ++ (k, (e, f, x ∷ y ∷ [])) ∷ []) q → P q
  behind_two k e f x y P given q at =
      let split = front_stands (bases_of s) p o T ((k, (e, f, x ∷ y ∷ [])) ∷ []) (T ++ (k, (e, f, x ∷ y ∷ [])) ∷ []) q begins refl at in
      let course : IsPointCourse split.0 (x ∷ y ∷ []) split.2.0 = split.2.1.course in
      subst P (course.2.2 ∙ split.2.2) (given split.0 course.0 course.2.0 split.1 course.1 course.2.1)

  begun_at : (st : Stage) (kept : Head) → stage_by o T ≡ st → ((q : Point) → IsStage q st → q.begun ≡ Some kept) → (q : Point) → Stands (bases_of s) p o T q → is_some q.begun ≡ true
  begun_at st kept stage begun q at = ap is_some (begun q (subst (IsStage q) stage (stage_stands (bases_of s) p o T q begins at)))

pub ready_turns : (s : Start) (p : Point) (o : Outset) (T : History) (h : Head) (b end : ℕ) (q : Point) → BeginsAt (bases_of s) p o → IsReady o T h b end → Stands (bases_of s) p o T q → MayTurn q h b end
ready_turns s p o T h b end q begins ready at = stage_turns (bases_of s) p o T q h ready.image b end begins at ready.stage ready.head ready.synced ready.clean ready.flushed

module _ {V : Type 0} (means : Ghosts V) where
  -- ---- what is read of the next image goes on
  keeps_on : (q r : Point) (st : Stage) (v w : V) → KeepsImage means q r v w → IsImageIn means q st v → IsImageIn means r st w
  keeps_on q r Nowhere v w k is = tt
  keeps_on q r Started v w k is = tt
  keeps_on q r (HasKept h) v w k is = tt
  keeps_on q r (Copying h g n) v w k is = k.under_way g n is
  keeps_on q r (Settled h i) v w k is = λ a b. let x = is a b in record { whole = k.whole x.whole; held = λ e. k.held (x.held e) }

  relabel : (q : Point) (h : Head) (i j : Image) (v : V) → (j.header ≡ i.header) × (j.head ≡ i.head) × (j.synced ≡ i.synced) → IsImageIn means q (Settled h i) v → IsImageIn means q (Settled h j) v
  relabel q h i j v same is = λ a b. let x = is (sym same.0 ∙ a) (sym same.1 ∙ b) in record { whole = x.whole; held = λ e. x.held (sym same.2 ∙ e) }

  kept_by : (q r : Point) (x : StoreStep) (v : V) → is_still x ≡ true → IsPointStep q x r → KeepsImage means q r v v
  kept_by q r x v silent step = let c = silent_is_calm q r x (silent_there q r x silent step) step in quiet_keeps means q r x v step c.writes c.vault

  at_on : (s : Start) (B : List (List Record)) (q r : Point) (x : StoreStep) (v : Vaulted V) → is_still x ≡ true → IsPointStep q x r → IsAt means s B q v → IsAt means s B r v
  at_on s B q r x v silent step at = let c = silent_is_calm q r x (silent_there q r x silent step) step in quiet_goes means s B q r x v at step c.writes c.stays c.vault

  -- a region that is passed over has its place
  skipped : (s : Start) (B : List (List Record)) (q r : Point) (h g : Head) (k j m : ℕ) (L : List Record) (v : Vaulted V) → IsAt means s B q v → v.stopped ≡ false → IsPointStep q (Skips j m) r
      → IsUnderWayIn means q g k v.store → IsImageIn means r (if (j == k) && is_of_image h L m then Copying h g (k + 1) else Nowhere) v.store
  skipped s B q r h g k j m L v at runs step way = by_test ((j == k) && is_of_image h L m) refl
    where
      first : (a b : Bool) → (a && b) ≡ true → a ≡ true
      first true b e = refl
      first false b e = absurd (cc)

      by_test : (t : Bool) → ((j == k) && is_of_image h L m) ≡ t → IsImageIn means r (if t then Copying h g (k + 1) else Nowhere) v.store
      by_test false e = tt
      by_test true e =
          let same : j ≡ k = eqb-true j k (first (j == k) (is_of_image h L m) e) in
          let z = skip_goes means s B q v j m step.0 at (record { at = step.1; under_way = step.2; clear = step.3; untouched = step.4 }) in
          let there : z.goes.to ≡ r = z.goes.step.5 ∙ sym step.5 in
          subst (λ i. IsUnderWayIn means r g (i + 1) v.store) same (subst (λ y. IsUnderWayIn means y g (j + 1) v.store) there (z.further runs g k way (omega (arith, same))))

  image_step : (s : Start) (B : List (List Record)) (q r : Point) (x : StoreStep) (n : ℕ) (L : List Record) (c : CoreState) (st : Stage) (v : Vaulted V) → IsAt means s B q v → v.stopped ≡ false → is_still x ≡ true → IsPointStep q x r
      → IsImageIn means q st v.store → IsImageIn means r (stage_after n L c st x) v.store
  image_step s B q r (Does x) n L c Nowhere v at runs silent step is = tt
  image_step s B q r (Does x) n L c Started v at runs silent step is = tt
  image_step s B q r (Does x) n L c (HasKept h) v at runs silent step is = tt
  image_step s B q r (Does x) n L c (Copying h g k) v at runs silent step is = (kept_by q r (Does x) v.store silent step).under_way g k is
  image_step s B q r (Does x) n L c (Settled h i) v at runs silent step is =
      relabel r h i (image_after L c i x) v.store (image_fields L c i x) (keeps_on q r (Settled h i) v.store v.store (kept_by q r (Does x) v.store silent step) is)
  image_step s B q r Starts n L c Nowhere v at runs silent step is = tt
  image_step s B q r Starts n L c Started v at runs silent step is = tt
  image_step s B q r Starts n L c (HasKept h) v at runs silent step is = tt
  image_step s B q r Starts n L c (Copying h g k) v at runs silent step is = tt
  image_step s B q r Starts n L c (Settled h i) v at runs silent step is = tt
  image_step s B q r Keeps n L c Nowhere v at runs silent step is = tt
  image_step s B q r Keeps n L c Started v at runs silent step is = tt
  image_step s B q r Keeps n L c (HasKept h) v at runs silent step is = tt
  image_step s B q r Keeps n L c (Copying h g k) v at runs silent step is = tt
  image_step s B q r Keeps n L c (Settled h i) v at runs silent step is = tt
  image_step s B q r (Skips j m) n L c Nowhere v at runs silent step is = tt
  image_step s B q r (Skips j m) n L c Started v at runs silent step is = tt
  image_step s B q r (Skips j m) n L c (HasKept h) v at runs silent step is = tt
  image_step s B q r (Skips j m) n L c (Copying h g k) v at runs silent step is = skipped s B q r h g k j m L v at runs step is
  image_step s B q r (Skips j m) n L c (Settled h i) v at runs silent step is = tt
  image_step s B q r Finishes n L c Nowhere v at runs silent step is = tt
  image_step s B q r Finishes n L c Started v at runs silent step is = tt
  image_step s B q r Finishes n L c (HasKept h) v at runs silent step is = tt
  image_step s B q r Finishes n L c (Copying h g k) v at runs silent step is = tt
  image_step s B q r Finishes n L c (Settled h i) v at runs silent step is = tt
  image_step s B q r (Copies j m) n L c st v at runs silent step is = absurd (cc)
  image_step s B q r (WritesHead g) n L c st v at runs silent step is = absurd (cc)
  image_step s B q r Syncs n L c st v at runs silent step is = absurd (cc)
  image_step s B q r Turns n L c st v at runs silent step is = absurd (cc)
  image_step s B q r (CopyFails j ws m) n L c st v at runs silent step is = absurd (cc)
  image_step s B q r (HeadFails g m) n L c st v at runs silent step is = absurd (cc)
  image_step s B q r (SyncFails m) n L c st v at runs silent step is = absurd (cc)
  image_step s B q r (TurnFails m) n L c st v at runs silent step is = absurd (cc)

  -- ---- along entries that call no store
  abbrev Silent : List StoreStep → Type 0
  Silent xs = (j : ℕ) (x : StoreStep) → slice_get xs j ≡ Some x → is_still x ≡ true

  at_course : (s : Start) (B : List (List Record)) (q r : Point) (xs : List StoreStep) (v : Vaulted V) → Silent xs → IsPointCourse q xs r → IsAt means s B q v → IsAt means s B r v
  at_course s B q r [] v silent course at = subst (λ z. IsAt means s B z v) course at
  at_course s B q r (x ∷ xs) v silent course at = at_course s B course.0 r xs v (λ j y there. silent (suc j) y there) course.2 (at_on s B q course.0 x v (silent zero x refl) course.1 at)

  image_course : (q r : Point) (xs : List StoreStep) (st : Stage) (v : V) → Silent xs → IsPointCourse q xs r → IsImageIn means q st v → IsImageIn means r st v
  image_course q r [] st v silent course is = subst (λ z. IsImageIn means z st v) course is
  image_course q r (x ∷ xs) st v silent course is =
      image_course course.0 r xs st v (λ j y there. silent (suc j) y there) course.2 (keeps_on q course.0 st v v (kept_by q course.0 x v (silent zero x refl) course.1) is)

  image_line : (s : Start) (B : List (List Record)) (q r : Point) (xs : List StoreStep) (n : ℕ) (L : List Record) (c : CoreState) (st : Stage) (v : Vaulted V) → IsAt means s B q v → v.stopped ≡ false → Silent xs → IsPointCourse q xs r
      → IsImageIn means q st v.store → IsImageIn means r (stage_line n L c st xs) v.store
  image_line s B q r [] n L c st v at runs silent course is = subst (λ z. IsImageIn means z st v.store) course is
  image_line s B q r (x ∷ []) n L c st v at runs silent course is =
      subst (λ z. IsImageIn means z (stage_after n L c st x) v.store) course.2 (image_step s B q course.0 x n L c st v at runs (silent zero x refl) course.1 is)
  image_line s B q r (x ∷ y ∷ ys) n L c st v at runs silent course is = by_test (are_core_steps (x ∷ y ∷ ys))
    where
      by_test : (t : Bool) → IsImageIn means r (if t then st else Nowhere) v.store
      by_test true = image_course q r (x ∷ y ∷ ys) st v.store silent course is
      by_test false = tt

  at_way : (s : Start) (B : List (List Record)) (o : Outset) (v : Vaulted V) (S : History) (q : Point) (R : History) (r : Point) → Way o S q R r → AreStill R → IsAt means s B q v
      → IsAt means s B r v × (v.stopped ≡ false → IsImageIn means q (stage_by o S) v.store → IsImageIn means r (stage_by o (S ++ R)) v.store)
  at_way s B o v S q [] r way silent at =
      (subst (λ z. IsAt means s B z v) way at, λ runs is. subst (λ Z. IsImageIn means r (stage_by o Z) v.store) (sym (append-nil S)) (subst (λ z. IsImageIn means z (stage_by o S) v.store) way is))
  at_way s B o v S q (e ∷ R) r way silent at =
      let mine : Silent e.1.2 = silent zero e refl in
      let there : IsAt means s B way.0 v = at_course s B q way.0 e.1.2 v mine way.1.course at in
      let rest = at_way s B o v (S ++ e ∷ []) way.0 R r way.2 (λ i z get. silent (suc i) z get) there in (
        rest.0,
        λ runs is. subst (λ Z. IsImageIn means r (stage_by o Z) v.store) (append_assoc S (e ∷ []) R) (rest.1 runs (subst (λ st. IsImageIn means way.0 st v.store) (sym (stage_push o S e))
            (image_line s B q way.0 e.1.2 (count_of o) (log_by o (plain S)) (core_told o S) (stage_by o S) v at runs mine way.1.course is))),
      )

  pub at_meets : AtMeets means
  at_meets s B p o S R v begins silent held = record {
    at = λ q at. let f = front_stands (bases_of s) p o S R (S ++ R) q begins refl at in (at_way s B o v S f.0 R q f.2 silent (held.at f.0 f.1)).0;
    image = λ runs q at. let f = front_stands (bases_of s) p o S R (S ++ R) q begins refl at in (at_way s B o v S f.0 R q f.2 silent (held.at f.0 f.1)).1 runs (held.image runs f.0 f.1);
  }

  -- ---- while it runs its files have the places
  pub files_hold : FilesHold means
  files_hold s B p o v T held runs q at = all_told (means.told v.store) (λ side r g there clear. places_stand means s B q v (held.at q at) runs side r g there clear)
    where
      all_told : (d : Option Disk) → ((side : Side) (r : ℕ) (g : RegionState) → slice_get q.core.regions r ≡ Some g → is_dirty g side ≡ false → IfSome d (λ fs. place_of (r + 1) ≤ length (file_of (image_name side) fs))) → IfSome d (HoldsPlaces q.core.regions)
      all_told (Some fs) each = λ side r g there clear. subst (λ l. place_of (r + 1) ≤ length l) (named side fs) (each side r g there clear)
      all_told None each = tt

  -- ---- a flush
  flush_runs : (v w : Vaulted V) (f : Framed) → HasFlushed means v f w → v.stopped ≡ false
  flush_runs v w f said = sym (ap (λ (z : Vaulted V). z.stopped) said.vault) ∙ said.ok.runs

  flush_stage : (n : ℕ) (L : List Record) (c : CoreState) (st : Stage) → stage_after n L c st (Does Flushes) ≡ st
  flush_stage n L c Nowhere = refl
  flush_stage n L c Started = refl
  flush_stage n L c (HasKept h) = refl
  flush_stage n L c (Copying h g k) = refl
  flush_stage n L c (Settled h i) = refl

  pub flush_holds : FlushHolds means
  flush_holds s B p o T k e after v w f begins held frame said = record { at = λ q at. (there q at).0; image = λ runs q at. (there q at).1 }
    where
      D : List (List Record)
      D = with_batch B (frame_of (log_by o (plain T)) (core_told o T))

      new : History
      new = T ++ (k, (e, OnVault after, Does Flushes ∷ [])) ∷ []

      stage : stage_by o T ≡ stage_by o new
      stage = sym (flush_stage (count_of o) (log_by o (plain T)) (core_told o T) (stage_by o T)) ∙ sym (stage_push o T (k, (e, OnVault after, Does Flushes ∷ [])))

      there : (q : Point) → Stands (bases_of s) p o new q → IsAt means s D q w × IsImageIn means q (stage_by o new) w.store
      there = behind_one s p o T begins k e (OnVault after) (Does Flushes) (λ q. IsAt means s D q w × IsImageIn means q (stage_by o new) w.store) (λ q r at step.
          let goes = flush_goes means s B q v w f (held.at q at) (frame q at) said in
          let same : goes.goes.to ≡ r = flush_is q goes.goes.to goes.goes.step ∙ sym (flush_is q r step) in
          let framed : frame_of q.log q.core ≡ frame_of (log_by o (plain T)) (core_told o T) = ap (λ L. frame_of L q.core) at.comes.log ∙ ap (λ c. frame_of (log_by o (plain T)) c) at.comes.core in (
            subst (λ b. IsAt means s (with_batch B b) r w) framed (subst (λ z. IsAt means s (with_batch B (frame_of q.log q.core)) z w) same goes.goes.is),
            subst (λ st. IsImageIn means r st w.store) stage (keeps_on q r (stage_by o T) v.store w.store (subst (λ z. KeepsImage means q z v.store w.store) same goes.keeps) (held.image (flush_runs v w f said) q at)),
          ))

  -- ---- header and table
  next_at : (v : Vaulted V) (q : Point) → IsVault means.faults v q.core.vault → next_image v ≡ image_name (target q)
  next_at v q is = ap (λ n. image_name (side_of (n + 1))) (sym is.current)

  write_runs : (v w : Vaulted V) (name : FileName) (at : ℕ) (bytes : List ℕ) → HasWritten means v name at bytes w → v.stopped ≡ false
  write_runs v w name at bytes said = sym (ap (λ (z : Vaulted V). z.stopped) said.vault) ∙ said.ok.runs

  pub header_holds : HeaderHolds means
  header_holds s B p o T k e f kept h v w begins held stage said = record { at = λ q at. (there q at).0; image = λ runs q at. (there q at).1 }
    where
      new : History
      new = T ++ (k, (e, f, WritesHead h ∷ [])) ∷ []

      now : Copying kept h 0 ≡ stage_by o new
      now = sym (stage_push o T (k, (e, f, WritesHead h ∷ [])) ∙ ap (λ st. stage_after (count_of o) (log_by o (plain T)) (core_told o T) st (WritesHead h)) stage)

      begun : (q : Point) → Stands (bases_of s) p o T q → is_some q.begun ≡ true
      begun = begun_at s p o T begins (HasKept kept) kept stage (λ q is. is)

      written : (q : Point) → Stands (bases_of s) p o T q → HasWritten means v (image_name (target q)) 0 (header_bytes q.core.system.sizes h) w
      written q at = subst (λ z. HasWritten means v (image_name (target q)) 0 (header_bytes z h) w) (sym (sizes_are (bases_of s) p o T q at))
          (subst (λ n. HasWritten means v n 0 (header_bytes o.old.system.sizes h) w) (next_at v q (held.at q at).vault) said)

      there : (q : Point) → Stands (bases_of s) p o new q → IsAt means s B q w × IsImageIn means q (stage_by o new) w.store
      there = behind_one s p o T begins k e f (WritesHead h) (λ q. IsAt means s B q w × IsImageIn means q (stage_by o new) w.store) (λ q r at step.
          let goes = header_goes means s B q v w h (held.at q at) (begun q at) (written q at) in
          let same : goes.goes.to ≡ r = goes.goes.step.1 ∙ sym step.1 in
          (subst (λ z. IsAt means s B z w) same goes.goes.is, subst (λ st. IsImageIn means r st w.store) now (subst (λ z. IsUnderWayIn means z h 0 w.store) same goes.begins)))

  pub table_holds : TableHolds means
  table_holds s B p o T k e f kept g h v w begins held stage said = record { at = λ q at. (there q at).0; image = λ runs q at. (there q at).1 }
    where
      new : History
      new = T ++ (k, (e, f, WritesHead h ∷ [])) ∷ []

      made : Image
      made = record { header = g; head = h; records = length (log_by o (plain T)); synced = false; begins = []; clean = None }

      now : Settled kept made ≡ stage_by o new
      now = sym (stage_push o T (k, (e, f, WritesHead h ∷ []))
          ∙ (ap (λ st. stage_after (count_of o) (log_by o (plain T)) (core_told o T) st (WritesHead h)) stage
          ∙ ap (λ b. if b then Settled kept made else Nowhere) (eq-eqb (count_of o) (count_of o) refl)))

      begun : (q : Point) → Stands (bases_of s) p o T q → is_some q.begun ≡ true
      begun = begun_at s p o T begins (Copying kept g (count_of o)) kept stage (λ q is. is.0)

      written : (q : Point) → Stands (bases_of s) p o T q → HasWritten means v (image_name (target q)) (place_of (regions q.core.system.sizes)) (table_bytes h.table) w
      written q at = subst (λ n. HasWritten means v (image_name (target q)) (place_of n) (table_bytes h.table) w) (sym (sized (bases_of s) p o T q at))
          (subst (λ n. HasWritten means v n (place_of (count_of o)) (table_bytes h.table) w) (next_at v q (held.at q at).vault) said)

      there : (q : Point) → Stands (bases_of s) p o new q → IsAt means s B q w × IsImageIn means q (stage_by o new) w.store
      there = behind_one s p o T begins k e f (WritesHead h) (λ q. IsAt means s B q w × IsImageIn means q (stage_by o new) w.store) (λ q r at step.
          let goes = table_goes means s B q v w h (held.at q at) (begun q at) (written q at) in
          let same : goes.goes.to ≡ r = goes.goes.step.1 ∙ sym step.1 in
          let runs : v.stopped ≡ false = write_runs v w _ _ _ said in
          let way : IsUnderWayIn means q g (count_of o) v.store = subst (λ st. IsImageIn means q st v.store) stage (held.image runs q at) in (
            subst (λ z. IsAt means s B z w) same goes.goes.is,
            subst (λ st. IsImageIn means r st w.store) now (λ a b. record {
              whole = subst (λ z. IsWholeIn means z w.store) same (goes.whole
                  (subst (λ n. IsUnderWayIn means q h n v.store) (sym (sized (bases_of s) p o T q at)) (subst (λ x. IsUnderWayIn means q x (count_of o) v.store) (a ∙ sym b) way)));
              held = λ x. absurd (clash x);
            }),
          ))

  -- ---- a sync
  pub sync_holds : SyncHolds means
  sync_holds s B p o T k e f kept i v w begins held stage said = record { at = λ q at. (there q at).0; image = λ runs q at. (there q at).1 }
    where
      new : History
      new = T ++ (k, (e, f, Syncs ∷ [])) ∷ []

      now : Settled kept (record i { synced = true }) ≡ stage_by o new
      now = sym (stage_push o T (k, (e, f, Syncs ∷ [])) ∙ ap (λ st. stage_after (count_of o) (log_by o (plain T)) (core_told o T) st Syncs) stage)

      begun : (q : Point) → Stands (bases_of s) p o T q → is_some q.begun ≡ true
      begun = begun_at s p o T begins (Settled kept i) kept stage (λ q is. is.begun)

      there : (q : Point) → Stands (bases_of s) p o new q → IsAt means s B q w × IsImageIn means q (stage_by o new) w.store
      there = behind_one s p o T begins k e f Syncs (λ q. IsAt means s B q w × IsImageIn means q (stage_by o new) w.store) (λ q r at step.
          let goes = sync_goes means s B q v w (held.at q at) (begun q at) (subst (λ n. HasSynced means v n w) (next_at v q (held.at q at).vault) said) in
          let same : goes.goes.to ≡ r = goes.goes.step.1 ∙ sym step.1 in
          let runs : v.stopped ≡ false = sym (ap (λ (z : Vaulted V). z.stopped) said.vault) ∙ said.ok.runs in
          let was : IsImageIn means q (Settled kept i) v.store = subst (λ st. IsImageIn means q st v.store) stage (held.image runs q at) in
          let is : IsImage q kept i = subst (IsStage q) stage (stage_stands (bases_of s) p o T q begins at) in (
            subst (λ z. IsAt means s B z w) same goes.goes.is,
            subst (λ st. IsImageIn means r st w.store) now (λ a b.
                let x = was a b in
                let fits : CanBeImage q.core.system.sizes (q.heads (target q)) (image_in q.core.system.sizes q.told (target q)) =
                subst (λ h. CanBeImage q.core.system.sizes h (image_in q.core.system.sizes q.told (target q))) (sym (is.head ∙ b))
                (next_fits (bases_of s) s.log q kept (held.at q at).run is.begun (λ n l. ap is_some (is.copies n l).there)) in record {
                  whole = subst (λ d. IfSome d (IsWholeFile r)) (sym said.same) ((quiet_keeps means q r Syncs v.store step refl (ap (λ (z : Point). z.core.vault) step.1)).whole x.whole);
                  held = λ _. subst (λ z. IsHeldIn means z w.store) same (goes.held fits x.whole);
                }),
          ))

  -- ---- the anchor
  pub ready_held : (s : Start) (B : List (List Record)) (p : Point) (o : Outset) (T : History) (h : Head) (b end : ℕ) (v : Vaulted V) (q : Point) → VaultAt means s B p o v T → v.stopped ≡ false → IsReady o T h b end → Stands (bases_of s) p o T q → IsHeldIn means q v.store
  ready_held s B p o T h b end v q held runs ready at =
      (subst (λ st. IsImageIn means q st v.store) ready.stage (held.image runs q at) ready.header ready.head).held ready.synced

  pub turn_holds : TurnHolds means
  turn_holds s B p o T k e f h b end v w begins held ready said = record { at = λ q at. there q at; image = λ runs q at. subst (λ st. IsImageIn means q st w.store) now tt }
    where
      new : History
      new = T ++ (k, (e, f, Turns ∷ [])) ∷ []

      runs : v.stopped ≡ false
      runs = sym (ap (λ (z : Vaulted V). z.stopped) said.vault) ∙ said.ok.runs

      now : Nowhere ≡ stage_by o new
      now = sym (stage_push o T (k, (e, f, Turns ∷ [])) ∙ ap (λ st. stage_after (count_of o) (log_by o (plain T)) (core_told o T) st Turns) ready.stage)

      there : (q : Point) → Stands (bases_of s) p o new q → IsAt means s B q w
      there = behind_one s p o T begins k e f Turns (λ q. IsAt means s B q w) (λ q r at step.
          let may : MayTurn q h b end = ready_turns s p o T h b end q begins ready at in
          let goes = turn_goes means s B q v w h b end (held.at q at) (ap is_some may.begun) may (ready_held s B p o T h b end v q held runs ready at) said in
          subst (λ z. IsAt means s B z w) (goes.step.5 ∙ sym step.5) goes.is)

  -- ---- faults: the system stops behind them
  stops_on : (s : Start) (B : List (List Record)) (q r : Point) (w : Vaulted V) → IsPointStep q (Does Stops) r → IsAt means s B q w → IsAt means s B r w
  stops_on s B q r w step at = at_on s B q r (Does Stops) w refl step at

  no_more : (w : Vaulted V) (P : Type 0) → w.stopped ≡ true → w.stopped ≡ false → P
  no_more w P a b = absurd (clash (sym b ∙ a))

  pub fault_holds : FaultHolds means
  fault_holds s B p o T k c x y v w f begins held frame said = record {
    at = behind_two s p o T begins k _ _ (Does (Faults (means.faults w.store))) (Does Stops) (λ q. IsAt means s B q w) (λ q r z at one two.
        let goes = flush_faults means s B q v w f (held.at q at) (frame q at) said in
        stops_on s B r z w two (subst (λ i. IsAt means s B i w) (fault_is q (means.faults w.store) goes.to goes.step ∙ sym (fault_is q (means.faults w.store) r one)) goes.is));
    image = λ runs q at. no_more w _ (ap (λ (i : Vaulted V). i.stopped) said.vault) runs;
  }

  pub head_fault_holds : HeadFaultHolds means
  head_fault_holds s B p o T k c place n x y h v w begins held begun said = record {
    at = behind_two s p o T begins k _ _ (HeadFails h (means.faults w.store)) (Does Stops) (λ q. IsAt means s B q w) (λ q r z at one two.
        let goes = head_faults means s B q v w h place n (held.at q at) (begun q at) (subst (λ f. WriteHasFailed means v f place n w) (next_at v q (held.at q at).vault) said) in
        stops_on s B r z w two (subst (λ i. IsAt means s B i w) (goes.step.1 ∙ sym one.1) goes.is));
    image = λ runs q at. no_more w _ (ap (λ (i : Vaulted V). i.stopped) said.vault) runs;
  }

  pub sync_fault_holds : SyncFaultHolds means
  sync_fault_holds s B p o T k c x y v w begins held begun said = record {
    at = behind_two s p o T begins k _ _ (SyncFails (means.faults w.store)) (Does Stops) (λ q. IsAt means s B q w) (λ q r z at one two.
        let goes = sync_faults means s B q v w (held.at q at) (begun q at) said in
        stops_on s B r z w two (subst (λ i. IsAt means s B i w) (goes.step.1 ∙ sym one.1) goes.is));
    image = λ runs q at. no_more w _ (ap (λ (i : Vaulted V). i.stopped) said.vault) runs;
  }

  pub turn_fault_holds : TurnFaultHolds means
  turn_fault_holds s B p o T k c x y h b end v w begins held ready said = record {
    at = behind_two s p o T begins k _ _ (TurnFails (means.faults w.store)) (Does Stops) (λ q. IsAt means s B q w) (λ q r z at one two.
        let may : MayTurn q h b end = ready_turns s p o T h b end q begins ready at in
        let goes = turn_faults means s B q v w h b end (held.at q at) (ap is_some may.begun) may (ready_held s B p o T h b end v q held said.ran ready at) said in
        stops_on s B r z w two (subst (λ i. IsAt means s B i w) (goes.step.5 ∙ sym one.5) goes.is));
    image = λ runs q at. no_more w _ (ap (λ (i : Vaulted V). i.stopped) said.vault) runs;
  }

  -- ---- a run of copies
  but_begins : (q : Point) (st : Stage) (r : ℕ) (v : V) → ((h : Head) (k : ℕ) → IsUnderWayIn means q h k v → IsUnderWayBut means q h k r [] v) → IsImageIn means q st v → IsImageBut means q st r [] v
  but_begins q Nowhere r v go is = tt
  but_begins q Started r v go is = tt
  but_begins q (HasKept h) r v go is = tt
  but_begins q (Copying h g k) r v go is = λ e. go g k is
  but_begins q (Settled h i) r v go is = tt

  pub run_begins : RunBegins means
  run_begins s B p o r v T held runs = record {
    at = λ q at. (wait_begins means s B q r v (held.at q at)).is;
    image = λ q at. but_begins q (stage_by o T) r v.store (wait_begins means s B q r v (held.at q at)).under_way (held.image runs q at);
  }

  but_step : (s : Start) (B : List (List Record)) (q z : Point) (x : StoreStep) (n : ℕ) (L : List Record) (c : CoreState) (st : Stage) (r : ℕ) (ws : List (List ℕ)) (v : Vaulted V) → WaitsOn means s B q z r ws v → is_calm x ≡ true
      → IsImageBut means q st r ws v.store → IsImageBut means z (stage_after n L c st x) r ws v.store
  but_step s B q z (Does x) n L c Nowhere r ws v on calm is = tt
  but_step s B q z (Does x) n L c Started r ws v on calm is = tt
  but_step s B q z (Does x) n L c (HasKept h) r ws v on calm is = tt
  but_step s B q z (Does x) n L c (Copying h g k) r ws v on calm is = λ e. on.under_way g k (is e)
  but_step s B q z (Does x) n L c (Settled h i) r ws v on calm is = tt
  but_step s B q z Starts n L c Nowhere r ws v on calm is = tt
  but_step s B q z Starts n L c Started r ws v on calm is = tt
  but_step s B q z Starts n L c (HasKept h) r ws v on calm is = tt
  but_step s B q z Starts n L c (Copying h g k) r ws v on calm is = tt
  but_step s B q z Starts n L c (Settled h i) r ws v on calm is = tt
  but_step s B q z Keeps n L c Nowhere r ws v on calm is = tt
  but_step s B q z Keeps n L c Started r ws v on calm is = tt
  but_step s B q z Keeps n L c (HasKept h) r ws v on calm is = tt
  but_step s B q z Keeps n L c (Copying h g k) r ws v on calm is = tt
  but_step s B q z Keeps n L c (Settled h i) r ws v on calm is = tt
  but_step s B q z Finishes n L c Nowhere r ws v on calm is = tt
  but_step s B q z Finishes n L c Started r ws v on calm is = tt
  but_step s B q z Finishes n L c (HasKept h) r ws v on calm is = tt
  but_step s B q z Finishes n L c (Copying h g k) r ws v on calm is = tt
  but_step s B q z Finishes n L c (Settled h i) r ws v on calm is = tt
  but_step s B q z (Skips j m) n L c st r ws v on calm is = absurd (cc)
  but_step s B q z (Copies j m) n L c st r ws v on calm is = absurd (cc)
  but_step s B q z (WritesHead g) n L c st r ws v on calm is = absurd (cc)
  but_step s B q z Syncs n L c st r ws v on calm is = absurd (cc)
  but_step s B q z Turns n L c st r ws v on calm is = absurd (cc)
  but_step s B q z (CopyFails j us m) n L c st r ws v on calm is = absurd (cc)
  but_step s B q z (HeadFails g m) n L c st r ws v on calm is = absurd (cc)
  but_step s B q z (SyncFails m) n L c st r ws v on calm is = absurd (cc)
  but_step s B q z (TurnFails m) n L c st r ws v on calm is = absurd (cc)

  abbrev Calm : List StoreStep → Type 0
  Calm xs = (j : ℕ) (x : StoreStep) → slice_get xs j ≡ Some x → is_calm x ≡ true

  waits_by : (s : Start) (B : List (List Record)) (q z : Point) (x : StoreStep) (r : ℕ) (ws : List (List ℕ)) (v : Vaulted V) → IsAtBut means s B q r ws v → is_calm x ≡ true → IsPointStep q x z → WaitsOn means s B q z r ws v
  waits_by s B q z x r ws v at calm step = silent_waits means s B q z x r ws v at (silent_there q z x (calm_silent x calm) step) step

  -- any image under way goes on
  but_course : (s : Start) (B : List (List Record)) (q z : Point) (xs : List StoreStep) (r : ℕ) (ws : List (List ℕ)) (v : Vaulted V) → IsAtBut means s B q r ws v → Calm xs → IsPointCourse q xs z → WaitsOn means s B q z r ws v
  but_course s B q z [] r ws v at calm course = subst (λ i. WaitsOn means s B q i r ws v) course (record { is = at; under_way = λ h k way. way })
  but_course s B q z (x ∷ xs) r ws v at calm course =
      let one = waits_by s B q course.0 x r ws v at (calm zero x refl) course.1 in
      let rest = but_course s B course.0 z xs r ws v one.is (λ j y there. calm (suc j) y there) course.2 in
      record { is = rest.is; under_way = λ h k way. rest.under_way h k (one.under_way h k way) }

  but_same : (s : Start) (B : List (List Record)) (q z : Point) (st : Stage) (r : ℕ) (ws : List (List ℕ)) (v : Vaulted V) → WaitsOn means s B q z r ws v → IsImageBut means q st r ws v.store → IsImageBut means z st r ws v.store
  but_same s B q z Nowhere r ws v on is = tt
  but_same s B q z Started r ws v on is = tt
  but_same s B q z (HasKept h) r ws v on is = tt
  but_same s B q z (Copying h g k) r ws v on is = λ e. on.under_way g k (is e)
  but_same s B q z (Settled h i) r ws v on is = tt

  but_line : (s : Start) (B : List (List Record)) (q z : Point) (xs : List StoreStep) (n : ℕ) (L : List Record) (c : CoreState) (st : Stage) (r : ℕ) (ws : List (List ℕ)) (v : Vaulted V) → IsAtBut means s B q r ws v → Calm xs → IsPointCourse q xs z
      → IsImageBut means q st r ws v.store → IsImageBut means z (stage_line n L c st xs) r ws v.store
  but_line s B q z [] n L c st r ws v at calm course is = subst (λ i. IsImageBut means i st r ws v.store) course is
  but_line s B q z (x ∷ []) n L c st r ws v at calm course is =
      subst (λ i. IsImageBut means i (stage_after n L c st x) r ws v.store) course.2 (but_step s B q course.0 x n L c st r ws v (waits_by s B q course.0 x r ws v at (calm zero x refl) course.1) (calm zero x refl) is)
  but_line s B q z (x ∷ y ∷ ys) n L c st r ws v at calm course is = by_test (are_core_steps (x ∷ y ∷ ys))
    where
      by_test : (t : Bool) → IsImageBut means z (if t then st else Nowhere) r ws v.store
      by_test true = but_same s B q z st r ws v (but_course s B q z (x ∷ y ∷ ys) r ws v at calm course) is
      by_test false = tt

  but_way : (s : Start) (B : List (List Record)) (o : Outset) (r : ℕ) (ws : List (List ℕ)) (v : Vaulted V) (S : History) (q : Point) (R : History) (z : Point) → Way o S q R z → AreCalm R → IsAtBut means s B q r ws v
      → IsImageBut means q (stage_by o S) r ws v.store → IsAtBut means s B z r ws v × IsImageBut means z (stage_by o (S ++ R)) r ws v.store
  but_way s B o r ws v S q [] z way calm at is =
      (subst (λ i. IsAtBut means s B i r ws v) way at, subst (λ Z. IsImageBut means z (stage_by o Z) r ws v.store) (sym (append-nil S)) (subst (λ i. IsImageBut means i (stage_by o S) r ws v.store) way is))
  but_way s B o r ws v S q (e ∷ R) z way calm at is =
      let mine : Calm e.1.2 = calm zero e refl in
      let there = but_course s B q way.0 e.1.2 r ws v at mine way.1.course in
      let next = subst (λ st. IsImageBut means way.0 st r ws v.store) (sym (stage_push o S e)) (but_line s B q way.0 e.1.2 (count_of o) (log_by o (plain S)) (core_told o S) (stage_by o S) r ws v at mine way.1.course is) in
      let rest = but_way s B o r ws v (S ++ e ∷ []) way.0 R z way.2 (λ i x get. calm (suc i) x get) there.is next in
      (rest.0, subst (λ Z. IsImageBut means z (stage_by o Z) r ws v.store) (append_assoc S (e ∷ []) R) rest.1)

  pub run_meets : RunMeets means
  run_meets s B p o r ws S R v begins calm held = record {
    at = λ q at. let f = front_stands (bases_of s) p o S R (S ++ R) q begins refl at in (but_way s B o r ws v S f.0 R q f.2 calm (held.at f.0 f.1) (held.image f.0 f.1)).0;
    image = λ q at. let f = front_stands (bases_of s) p o S R (S ++ R) q begins refl at in (but_way s B o r ws v S f.0 R q f.2 calm (held.at f.0 f.1) (held.image f.0 f.1)).1;
  }

  copied_on : (s : Start) (B : List (List Record)) (q z : Point) (n m : ℕ) (L : List Record) (c : CoreState) (st : Stage) (r : ℕ) (ws us : List (List ℕ)) (v : Vaulted V) → WaitsForOne means s B q z r ws us v
      → IsImageBut means q st r ws v.store → IsImageBut means z (stage_after n L c st (Copies (r + length ws) m)) r us v.store
  copied_on s B q z n m L c Nowhere r ws us v one is = tt
  copied_on s B q z n m L c Started r ws us v one is = tt
  copied_on s B q z n m L c (HasKept h) r ws us v one is = tt
  copied_on s B q z n m L c (Settled h i) r ws us v one is = tt
  copied_on s B q z n m L c (Copying h g k) r ws us v one is = by_test ((r + length ws == k) && is_of_image h L m) refl
    where
      first : (a b : Bool) → (a && b) ≡ true → a ≡ true
      first true b e = refl
      first false b e = absurd (cc)

      by_test : (t : Bool) → ((r + length ws == k) && is_of_image h L m) ≡ t → IsImageBut means z (if t then Copying h g (k + 1) else Nowhere) r us v.store
      by_test false e = tt
      by_test true e =
          let same : r + length ws ≡ k = eqb-true (r + length ws) k (first (r + length ws == k) (is_of_image h L m) e) in
          λ far. subst (λ i. IsUnderWayBut means z g i r us v.store) (sym far) (one.further g k (is (sym same)) (omega (arith, same)))

  pub run_copies : RunCopies means
  run_copies s B p o r ws T k n e f g v begins held there = record { at = λ q at. (behind q at).0; image = λ q at. (behind q at).1 }
    where
      i : ℕ
      i = r + length ws

      new : History
      new = T ++ (k, (e, f, Copies (r + length ws) n ∷ [])) ∷ []

      behind : (q : Point) → Stands (bases_of s) p o new q → IsAtBut means s B q r (ws ++ g.back ∷ []) v × IsImageBut means q (stage_by o new) r (ws ++ g.back ∷ []) v.store
      behind = behind_one s p o T begins k e f (Copies (r + length ws) n) (λ q. IsAtBut means s B q r (ws ++ g.back ∷ []) v × IsImageBut means q (stage_by o new) r (ws ++ g.back ∷ []) v.store) (λ q z at step.
          let own : step.0 ≡ g = some_same (sym step.1 ∙ (ap (λ (d : CoreState). slice_get d.regions (r + length ws)) at.comes.core ∙ there)) in
          let told : z.told (target q) (r + length ws) ≡ g.back =
          ap (λ (y : Point). y.told (target q) (r + length ws)) step.5
          ∙ (ap (λ b. cond (b && (r + length ws == r + length ws)) step.0.back (q.told (target q) (r + length ws))) (side_self (target q))
          ∙ (ap (λ b. cond b step.0.back (q.told (target q) (r + length ws))) (eq-eqb (r + length ws) (r + length ws) refl) ∙ ap (λ (y : RegionState). y.back) own)) in
          let one = subst (λ w. WaitsForOne means s B q z r ws (ws ++ w ∷ []) v) told (copy_waits means s B q z r n ws v (held.at q at) step) in (
            one.is,
            subst (λ st. IsImageBut means z st r (ws ++ g.back ∷ []) v.store) (sym (stage_push o T (k, (e, f, Copies (r + length ws) n ∷ []))))
                (copied_on s B q z (count_of o) n (log_by o (plain T)) (core_told o T) (stage_by o T) r ws (ws ++ g.back ∷ []) v one (held.image q at)),
          ))

  pub run_ends : RunEnds means
  run_ends s B p o r ws kept g v w T held stage said = record {
    at = λ q at. (over q at).is;
    image = λ runs q at. subst (λ st. IsImageIn means q st w.store) (sym stage) ((over q at).under_way g (r + length ws) (subst (λ st. IsImageBut means q st r ws v.store) stage (held.image q at) refl));
  }
    where
      over : (q : Point) → Stands (bases_of s) p o T q → WaitIsOver means s B q r ws v w
      over q at = write_ends means s B q r ws v w (held.at q at) (subst (λ f. HasWritten means v f (place_of r) (flat_map words_bytes ws) w) (next_at v q (held.at q at).vault) said)

  pub run_fault_holds : RunFaultHolds means
  run_fault_holds s B p o r ws T k c place n x y h v w begins held begun said = record {
    at = behind_two s p o T begins k _ _ (HeadFails h (means.faults w.store)) (Does Stops) (λ q. IsAt means s B q w) (λ q m z at one two.
        let goes = write_fails means s B q r ws v w h place n (held.at q at) (begun q at) (subst (λ f. WriteHasFailed means v f place n w) (next_at v q (held.at q at).vault) said) in
        stops_on s B m z w two (subst (λ i. IsAt means s B i w) (goes.step.1 ∙ sym one.1) goes.is));
    image = λ runs q at. no_more w _ (ap (λ (i : Vaulted V). i.stopped) said.vault) runs;
  }
