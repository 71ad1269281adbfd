-- Each call of a vault is a step of a run.
use Rattle.std.proofs.Common.{◌≡◌, ℕ, ◌+◌, ◌<◌, ◌≤◌, ◌^◌, true, false, cond, List, [], ◌∷◌, length, Option, Some, None, IfSome, is_some, refl, ap, sym, subst, ◌∙◌, arith}
use Rattle.std.specs.Prelude.{⊤, ◌==◌, ◌&&◌}
use Rattle.std.proofs.lemmas.Option.{IfSome_then}
use Rattle.std.proofs.lemmas.Bool.{eq-eqb}
use Rattle.dali_geometry.specs.Places.{regions}
use Rattle.dali_record.specs.declared.records.Record.{Record}
use Rattle.dali_record.specs.Spelling.{words_bytes}
use Rattle.dali_region.specs.declared.Side.{Side}
use Rattle.dali_region.specs.Answers.{cleaned}
use Rattle.dali_runs.specs.Keeps.{with_region}
use Rattle.dali_store.specs.declared.store.FileName.TheVariants.{Log, Anchor}
use Rattle.dali_store.specs.Store.{Files as Disk, file_of, Holds, TornIn}
use Rattle.dali_store.specs.Faults.{Rose}
use Rattle.dali_store.specs.declared.store.Store.{Ghosts}
use Rattle.dali_log.specs.Appending.{bodies_of, SomeAdded, AllAdded}
use Rattle.dali_runs.specs.State.{VaultState}
use Rattle.dali_runs.specs.Run.{HasRisen, no_image}
use Rattle.dali_runs.specs.Flushes.{frame_of, longer, with_vault, faulted, read_failed}
use Rattle.dali_runs.specs.ImageSteps.{told_with}
use Rattle.dali_runs.specs.Courses.{Flushes, Faults, ReadFails}
use Rattle.dali_crash.specs.Checkpoints.{Head, StoreStep, Does, Copies, Skips, CopyFails, WritesHead, HeadFails, Syncs, SyncFails, Turns, TurnFails, Point, target, head_with, synced_with, copies_with, copies_after, copy_at, with_fault, with_current, IsFault, IsPointStep}
use Rattle.dali_crash.specs.StoreRuns.{StoreRun}
use Rattle.dali_runs.proofs.Flushes.{end_is_small}
use Rattle.dali_runs.proofs.ImageSteps.{side_self}
use Rattle.dali_crash.proofs.StoreRuns.{bare_store_course_keeps, fewer_runs, current_is_small}
use Rattle.dali_crash.proofs.Traces.{acknowledged_traces, start_runs}
use Rattle.dali_crash.specs.Traces.{Start, bases_of, start_point}
use Rattle.dali_crash.proofs.StepLeaves.{longer_parts}
use Rattle.dali_crash.specs.Disks.Disks.{header_bytes, table_bytes, image_file, image_name, AllSpell}
use Rattle.dali_crash.specs.Disks.Places.{place_of}
use Rattle.dali_log.specs.Anchors.{HasMoved, MayHaveMoved}
use Rattle.dali_crash.specs.Disks.Bridges.{TracedTo, HoldsNext, body_at, batches_on, is_image_write}
use Rattle.dali_crash.specs.Disks.Images.{next_file}
use Rattle.dali_crash.specs.Disks.NewFiles.{ReadsCopies, IsUnderWay, IsWholeFile}
use Rattle.dali_crash.proofs.DisksLemmas.Bridges.{flush_goes_on, fault_goes_on, quiet_goes_on, write_goes_on, turn_goes_on, turn_fault_goes_on, flush_is_right, are_right, store_starts, same_image, write_is_right, turn_is_right, other_files}
use Rattle.dali_crash.proofs.DisksLemmas.Images.{quiet_is_read, held_goes_on, sync_holds}
use Rattle.dali_crash.proofs.DisksLemmas.NewFiles.{start_reads, quiet_reads, header_reads, copy_reads, table_reads, copy_continues, header_begins, table_ends, quiet_continues, skip_continues, has_places}
use Rattle.dali_core.specs.Vault.Vaulted.{Vaulted, moved, with_store}
use Rattle.dali_core.specs.Vault.Vaulted as vaulted
use Rattle.dali_core.proofs.VaultLemmas.Serving.{still, both}
use Rattle.dali_core.specs.Steps.At.{IsVault, IsAt}
use Rattle.dali_core.specs.Steps.Said.{IsOk, HasWritten}
use Rattle.dali_core.specs.Steps.Called.{KeepsImage, FlushGoes, FlushFaults, FlushIsRight, CopyGoes, CopyFaults, SkipGoes, WriteIsRight, TurnIsRight, HeaderGoes, TableGoes, HeadFaults, SyncGoes, SyncFaults, TurnGoes, TurnFaults, ReadStays, ReadFaults, QuietGoes, QuietKeeps, RunBegins, CrashIsRight, AcknowledgedStands, PlacesAreSmall, PlacesStand}
use Rattle.dali_core.proofs.StepsLemmas.Frames.{spelled_frame, frame_is_small, longer_is}
use Rattle.dali_core.proofs.StepsLemmas.Files.{named, torn_over, held_over, same_told, if_both}

-- ---- counts of faults
risen_from : (u n m : ℕ) → u ≡ n → Rose n m → HasRisen u m
risen_from u n m same rose = subst (λ k. HasRisen k m) (sym same) rose

-- a vault that stopped runs no more
runs_no_more : {V X : Type 0} (v w : Vaulted V) → w ≡ vaulted.faulted v w.store → w.stopped ≡ false → X
runs_no_more v w vault runs = let e : w.stopped ≡ true = ap (λ (z : Vaulted _). z.stopped) vault in absurd (cc)

module _ {V : Type 0} (means : Ghosts V) where
  -- ---- one step more of a run
  runs_on : (s : Start) (B : List (List Record)) (p q : Point) (x : StoreStep) (v : Vaulted V) → IsAt means s B p v → IsPointStep p x q → StoreRun (bases_of s) s.log no_image q
  runs_on s B p q x v at step = bare_store_course_keeps (bases_of s) s.log p q (x ∷ []) at.run (q, step, refl)

  -- the vault stands as before, over another store
  same_vault : (v w : Vaulted V) (u : VaultState) → IsVault means.faults v u → w ≡ with_store v w.store → means.faults w.store ≡ means.faults v.store → IsVault means.faults w u
  same_vault v w u is vault kept = record {
    stopped = is.stopped ∙ sym (ap (λ (z : Vaulted V). z.stopped) vault);
    end = is.end ∙ sym (ap (λ (z : Vaulted V). z.end) vault);
    flushed = is.flushed ∙ sym (ap (λ (z : Vaulted V). z.flushed) vault);
    current = is.current ∙ sym (ap (λ (z : Vaulted V). z.current) vault);
    counted = is.counted ∙ sym kept;
  }

  -- it stopped
  failed_vault : (v w : Vaulted V) (u : VaultState) → IsVault means.faults v u → w ≡ vaulted.faulted v w.store → IsVault means.faults w (faulted u (means.faults w.store))
  failed_vault v w u is vault = record {
    stopped = sym (ap (λ (z : Vaulted V). z.stopped) vault);
    end = is.end ∙ sym (ap (λ (z : Vaulted V). z.end) vault);
    flushed = is.flushed ∙ sym (ap (λ (z : Vaulted V). z.flushed) vault);
    current = is.current ∙ sym (ap (λ (z : Vaulted V). z.current) vault);
    counted = refl;
  }

  ran : (v w : Vaulted V) → IsOk means v w → w.stopped ≡ v.stopped → v.stopped ≡ false
  ran v w ok same = sym same ∙ ok.runs

  -- a step that leaves both image files
  reads_stay : (s : Start) (B : List (List Record)) (p q : Point) (x : StoreStep) (v : Vaulted V) (a b : Disk) → IsAt means s B p v → IsPointStep p x q → is_image_write x ≡ false → ((side : Side) → image_file side b ≡ image_file side a) → ReadsCopies p a → ReadsCopies q b
  reads_stay s B p q x v a b at step quiet files = quiet_reads (bases_of s) s.log p q x a b at.run step quiet files

  -- ---- a flush
  pub flush_goes : FlushGoes means
  flush_goes s B p v w f at fr said = record { goes = record { to = q; step = step; is = record { run = runs_on s B p q (Does Flushes) v at step; vault = vault; files = files; reads = λ _. reads } }; keeps = keeps }
    where
      runs : p.core.vault.stopped ≡ false
      runs = at.vault.stopped ∙ ran v w said.ok (ap (λ (z : Vaulted V). z.stopped) said.vault)

      q : Point
      q = record p { core = with_vault p.core (longer p.core.vault (frame_of p.log p.core)); copies = copies_after p.core Flushes p.copies }

      step : IsPointStep p (Does Flushes) q
      step = (refl, ((runs, (refl, refl)), refl), refl)

      vault : IsVault means.faults w q.core.vault
      vault = longer_is means.faults v w p.core.vault f (frame_of p.log p.core) at.vault fr.body fr.records (spelled_frame (bases_of s) s.log p at.run.run) (frame_is_small (bases_of s) s.log p at.run.run) said.vault said.ok.kept

      added : ((c : Disk) → means.may_leave w.store c → AllAdded (means.may_leave v.store) v.end (bodies_of f.body) c) → (c : Disk) → means.may_leave w.store c → AllAdded (means.may_leave v.store) p.core.vault.end (bodies_of (body_at p)) c
      added each c left = subst (λ n. AllAdded (means.may_leave v.store) n (bodies_of (body_at p)) c) (sym at.vault.end) (subst (λ b. AllAdded (means.may_leave v.store) v.end (bodies_of b) c) fr.body (each c left))

      files : IfSome (means.told w.store) (λ _. AllSpell (means.may_leave w.store) (TracedTo s (batches_on B p) q))
      files = both (means.told v.store) (means.told w.store) said.ok.tells (λ all each. flush_goes_on (means.may_leave v.store) (means.may_leave w.store) s B p q all step (added each)) at.files said.added

      reads : IfSome (means.told w.store) (ReadsCopies q)
      reads = torn_over Log v.end (length f.body + 6) (means.told v.store) (means.told w.store) (ReadsCopies p) (ReadsCopies q) said.torn (λ a b same. reads_stay s B p q (Does Flushes) v a b at step refl (λ side. same_image b a side same))
          (at.reads (ran v w said.ok (ap (λ (z : Vaulted V). z.stopped) said.vault)))

      current : q.core.vault.current ≡ p.core.vault.current
      current = longer_parts p.core.vault (frame_of p.log p.core)

      keeps : KeepsImage means p q v.store w.store
      keeps = record {
        under_way = λ h k. torn_over Log v.end (length f.body + 6) (means.told v.store) (means.told w.store) (IsUnderWay p h k) (IsUnderWay q h k) said.torn (λ a b same. quiet_continues p q (Does Flushes) h k a b step refl current (same_image b a (target p) same));
        whole = torn_over Log v.end (length f.body + 6) (means.told v.store) (means.told w.store) (IsWholeFile p) (IsWholeFile q) said.torn
            (λ a b same is. let reads = quiet_is_read p q (Does Flushes) a b step refl current (same_image b a (target p) same) in record { words = reads.words is.words; head = reads.head is.head });
        held = λ holds. both (means.told v.store) (means.told w.store) said.ok.tells
            (λ held each. held_goes_on (means.may_leave v.store) (means.may_leave w.store) p q (Does Flushes) step refl current (λ c left. let o = (each c left).others in (o.0, o.1, same_image c o.0 (target p) o.2)) held) holds said.added;
      }

  pub flush_faults : FlushFaults means
  flush_faults s B p v w f at fr said = record { to = q; step = step; is = record { run = runs_on s B p q (Does (Faults (means.faults w.store))) v at step; vault = failed_vault v w p.core.vault at.vault said.vault; files = files; reads = runs_no_more v w said.vault } }
    where
      runs : p.core.vault.stopped ≡ false
      runs = at.vault.stopped ∙ said.ran

      q : Point
      q = record p { core = with_vault p.core (faulted p.core.vault (means.faults w.store)); copies = copies_after p.core (Faults (means.faults w.store)) p.copies }

      step : IsPointStep p (Does (Faults (means.faults w.store))) q
      step = (refl, ((runs, risen_from p.core.vault.faults (means.faults v.store) (means.faults w.store) at.vault.counted said.rose, (refl, refl)), refl), refl)

      some : ((c : Disk) → means.may_leave w.store c → SomeAdded (means.may_leave v.store) v.end (bodies_of f.body) c) → (c : Disk) → means.may_leave w.store c → SomeAdded (means.may_leave v.store) p.core.vault.end (bodies_of (body_at p)) c
      some each c left = subst (λ n. SomeAdded (means.may_leave v.store) n (bodies_of (body_at p)) c) (sym at.vault.end) (subst (λ b. SomeAdded (means.may_leave v.store) v.end (bodies_of b) c) fr.body (each c left))

      files : IfSome (means.told w.store) (λ _. AllSpell (means.may_leave w.store) (TracedTo s B q))
      files = both (means.told v.store) (means.told w.store) said.tells (λ all each. fault_goes_on (means.may_leave v.store) (means.may_leave w.store) s B p q (means.faults w.store) all step (some each)) at.files said.crash

  pub flush_is_right_in : FlushIsRight means
  flush_is_right_in s B p v f at fr running = IfSome_then (means.told v.store) at.files (λ fs all c left.
      flush_is_right (means.may_leave v.store) s B p q all step c (subst (λ n. SomeAdded (means.may_leave v.store) n (bodies_of (body_at p)) c) (sym at.vault.end) (subst (λ b. SomeAdded (means.may_leave v.store) v.end (bodies_of b) c) fr.body left)))
    where
      q : Point
      q = record p { core = with_vault p.core (longer p.core.vault (frame_of p.log p.core)); copies = copies_after p.core Flushes p.copies }

      step : IsPointStep p (Does Flushes) q
      step = (refl, ((at.vault.stopped ∙ running, (refl, refl)), refl), refl)

  -- ---- an image's write
  -- what a write to the next image makes of what a crash may leave
  writes : (s : Start) (B : List (List Record)) (p q : Point) (x : StoreStep) (v w : Vaulted V) (at n : ℕ) → is_some (means.told w.store) ≡ is_some (means.told v.store) → IsPointStep p x q → is_image_write x ≡ true
      → IfSome (means.told v.store) (λ _. (c : Disk) → means.may_leave w.store c → (d : Disk) × means.may_leave v.store d × TornIn (image_name (target p)) at n d c)
      → IfSome (means.told v.store) (λ _. AllSpell (means.may_leave v.store) (TracedTo s B p)) → IfSome (means.told w.store) (λ _. AllSpell (means.may_leave w.store) (TracedTo s B q))
  writes s B p q x v w at n tells step image crash files =
      both (means.told v.store) (means.told w.store) tells (λ all each. write_goes_on (means.may_leave v.store) (means.may_leave w.store) s B p q x all step image (λ c left. let o = each c left in (o.0, o.1, o.2.same))) files crash

  each_of : {X : Type 0} (o : Option Disk) → X → IfSome o (λ _. X)
  each_of o x = IfSome_then o (all_of o) (λ _ _. x)
    where
      all_of : (z : Option Disk) → IfSome z (λ _. ⊤)
      all_of (Some z) = tt
      all_of z = tt

  pub copy_goes : CopyGoes means
  copy_goes s B p v w r n g at may said = record {
    goes = record { to = q; step = step; is = record { run = runs_on s B p q (Copies r n) v at step; vault = same_vault v w p.core.vault at.vault said.vault said.ok.kept; files = files; reads = λ _. reads } };
    further = λ h k way le. held_over (image_name side) (place_of r) (words_bytes g.back) (means.told v.store) (means.told w.store) (IsUnderWay p h k) (IsUnderWay q h (r + 1)) said.written
        (λ a b same holds is. (copy_continues (bases_of s) s.log p q h k r n a b at.run step is le (told_holds a b holds)).further) way;
    still = λ h k way le. held_over (image_name side) (place_of r) (words_bytes g.back) (means.told v.store) (means.told w.store) (IsUnderWay p h k) (IsUnderWay q h k) said.written
        (λ a b same holds is. (copy_continues (bases_of s) s.log p q h k r n a b at.run step is le (told_holds a b holds)).still) way;
  }
    where
      side : Side
      side = target p

      runs : p.core.vault.stopped ≡ false
      runs = at.vault.stopped ∙ ran v w said.ok (ap (λ (z : Vaulted V). z.stopped) said.vault)

      q : Point
      q = record p {
        core = with_region p.core r (cleaned side g);
        told = told_with p.told side r g.back;
        synced = synced_with p.synced side false;
        copies = copies_with p.copies side r (Some (copy_at n));
      }

      step : IsPointStep p (Copies r n) q
      step = (g, may.at, record { runs = runs; under_way = may.under_way }, may.dirty, may.untouched, refl)

      files : IfSome (means.told w.store) (λ _. AllSpell (means.may_leave w.store) (TracedTo s B q))
      files = writes s B p q (Copies r n) v w (place_of r) (length (words_bytes g.back)) said.ok.tells step refl (each_of (means.told v.store) said.crash) at.files

      back_is : g.back ≡ told_with p.told side r g.back side r
      back_is = sym (ap (λ b. cond (b && (r == r)) g.back (p.told side r)) (side_self side) ∙ ap (λ b. cond b g.back (p.told side r)) (eq-eqb r r refl))

      told_holds : (a b : Disk) → Holds (file_of (image_name side) a) (place_of r) (words_bytes g.back) (file_of (image_name side) b) → Holds (next_file p a) (place_of r) (words_bytes (q.told (target p) r)) (next_file p b)
      told_holds a b holds =
          subst (λ ws. Holds (next_file p a) (place_of r) (words_bytes ws) (next_file p b)) back_is
          (subst (λ x. Holds x (place_of r) (words_bytes g.back) (next_file p b)) (named side a) (subst (λ y. Holds (file_of (image_name side) a) (place_of r) (words_bytes g.back) y) (named side b) holds))

      reads : IfSome (means.told w.store) (ReadsCopies q)
      reads = held_over (image_name side) (place_of r) (words_bytes g.back) (means.told v.store) (means.told w.store) (λ a. ReadsCopies p a × (place_of r ≤ length (file_of (image_name side) a))) (ReadsCopies q) said.written
          (λ a b same holds is. copy_reads (bases_of s) s.log p q r n a b at.run step same (subst (λ z. place_of r ≤ length z) (named side a) is.1) (told_holds a b holds) is.0)
          (if_both (means.told v.store) _ _ (at.reads (ran v w said.ok (ap (λ (z : Vaulted V). z.stopped) said.vault))) said.inside)

  pub skip_goes : SkipGoes means
  skip_goes s B p v r n g at may = record {
    goes = record { to = q; step = step; is = record { run = runs_on s B p q (Skips r n) v at step; vault = at.vault; files = files; reads = λ runs. IfSome_then (means.told v.store) (at.reads runs) (λ a. reads_stay s B p q (Skips r n) v a a at step refl (λ side. refl)) } };
    further = λ runs h k way le. IfSome_then (means.told v.store) (if_both (means.told v.store) _ _ way (at.reads runs)) (λ a is. (skip_continues (bases_of s) s.log p q h k r n a at.run step is.1 is.0 le).further);
    still = λ h k way. IfSome_then (means.told v.store) way (λ a. quiet_continues p q (Skips r n) h k a a step refl refl refl);
  }
    where
      q : Point
      q = record p { copies = copies_with p.copies (target p) r (Some (copy_at n)) }

      step : IsPointStep p (Skips r n) q
      step = (g, may.at, may.under_way, may.clear, may.untouched, refl)

      files : IfSome (means.told v.store) (λ _. AllSpell (means.may_leave v.store) (TracedTo s B q))
      files = IfSome_then (means.told v.store) at.files (λ fs all. quiet_goes_on (means.may_leave v.store) (means.may_leave v.store) s B p q (Skips r n) all step (λ F. refl) (λ c left. left))

  pub copy_faults : CopyFaults means
  copy_faults s B p v w r n g at may said = record { to = q; step = step; is = record { run = runs_on s B p q (CopyFails r [] (means.faults w.store)) v at step; vault = failed_vault v w p.core.vault at.vault said.vault; files = files; reads = runs_no_more v w said.vault } }
    where
      fault : IsFault p (means.faults w.store)
      fault = record { may = record { runs = at.vault.stopped ∙ said.ran; under_way = may.under_way }; rose = risen_from p.core.vault.faults (means.faults v.store) (means.faults w.store) at.vault.counted said.rose }

      q : Point
      q = record p {
        core = with_fault p.core (means.faults w.store);
        told = told_with p.told (target p) r [];
        synced = synced_with p.synced (target p) false;
        copies = copies_with p.copies (target p) r None;
      }

      step : IsPointStep p (CopyFails r [] (means.faults w.store)) q
      step = (g, may.at, may.dirty, fault, refl)

      files : IfSome (means.told w.store) (λ _. AllSpell (means.may_leave w.store) (TracedTo s B q))
      files = writes s B p q (CopyFails r [] (means.faults w.store)) v w (place_of r) (length (words_bytes g.back)) said.tells step refl said.crash at.files

  -- ---- header and table
  abbrev head_point : Point → Head → Point
  head_point p h = record p { heads = head_with p.heads (target p) h; synced = synced_with p.synced (target p) false }

  head_step : (s : Start) (B : List (List Record)) (p : Point) (v w : Vaulted V) (h : Head) (place : ℕ) (bytes : List ℕ) → IsAt means s B p v → is_some p.begun ≡ true
      → HasWritten means v (image_name (target p)) place bytes w → IsPointStep p (WritesHead h) (head_point p h)
  head_step s B p v w h place bytes at begun said = (record { runs = at.vault.stopped ∙ ran v w said.ok (ap (λ (z : Vaulted V). z.stopped) said.vault); under_way = begun }, refl)

  head_goes : (s : Start) (B : List (List Record)) (p : Point) (v w : Vaulted V) (h : Head) (place : ℕ) (bytes : List ℕ) → IsAt means s B p v → is_some p.begun ≡ true
      → HasWritten means v (image_name (target p)) place bytes w → IfSome (means.told w.store) (ReadsCopies (head_point p h)) → IsAt means s B (head_point p h) w
  head_goes s B p v w h place bytes at begun said reads = record { run = runs_on s B p (head_point p h) (WritesHead h) v at step; vault = same_vault v w p.core.vault at.vault said.vault said.ok.kept; files = files; reads = λ _. reads }
    where
      step : IsPointStep p (WritesHead h) (head_point p h)
      step = head_step s B p v w h place bytes at begun said

      files : IfSome (means.told w.store) (λ _. AllSpell (means.may_leave w.store) (TracedTo s B (head_point p h)))
      files = writes s B p (head_point p h) (WritesHead h) v w place (length bytes) said.ok.tells step refl (each_of (means.told v.store) said.crash) at.files

  next_holds : (p : Point) (place : ℕ) (bytes : List ℕ) (a b : Disk) → Holds (file_of (image_name (target p)) a) place bytes (file_of (image_name (target p)) b) → Holds (next_file p a) place bytes (next_file p b)
  next_holds p place bytes a b holds = subst (λ x. Holds x place bytes (next_file p b)) (named (target p) a) (subst (λ y. Holds (file_of (image_name (target p)) a) place bytes y) (named (target p) b) holds)

  pub header_goes : HeaderGoes means
  header_goes s B p v w h at begun said = record { goes = record { to = head_point p h; step = step; is = head_goes s B p v w h 0 bytes at begun said reads }; begins = begins }
    where
      bytes : List ℕ
      bytes = header_bytes p.core.system.sizes h

      step : IsPointStep p (WritesHead h) (head_point p h)
      step = head_step s B p v w h 0 bytes at begun said

      reads : IfSome (means.told w.store) (ReadsCopies (head_point p h))
      reads = held_over (image_name (target p)) 0 bytes (means.told v.store) (means.told w.store) (ReadsCopies p) (ReadsCopies (head_point p h)) said.written
          (λ a b same holds is. header_reads p (head_point p h) h a b step same (next_holds p 0 bytes a b holds) is) (at.reads (ran v w said.ok (ap (λ (z : Vaulted V). z.stopped) said.vault)))

      begins : IfSome (means.told w.store) (IsUnderWay (head_point p h) h 0)
      begins = held_over (image_name (target p)) 0 bytes (means.told v.store) (means.told w.store) (ReadsCopies p) (IsUnderWay (head_point p h) h 0) said.written
          (λ a b same holds is. header_begins p (head_point p h) h a b step (next_holds p 0 bytes a b holds)) (at.reads (ran v w said.ok (ap (λ (z : Vaulted V). z.stopped) said.vault)))

  pub table_goes : TableGoes means
  table_goes s B p v w h at begun said = record { goes = record { to = head_point p h; step = step; is = head_goes s B p v w h place bytes at begun said reads }; whole = whole }
    where
      place : ℕ
      place = place_of (regions p.core.system.sizes)

      bytes : List ℕ
      bytes = table_bytes h.table

      step : IsPointStep p (WritesHead h) (head_point p h)
      step = head_step s B p v w h place bytes at begun said

      was : IfSome (means.told v.store) (ReadsCopies p)
      was = at.reads (ran v w said.ok (ap (λ (z : Vaulted V). z.stopped) said.vault))

      reads : IfSome (means.told w.store) (ReadsCopies (head_point p h))
      reads = held_over (image_name (target p)) place bytes (means.told v.store) (means.told w.store) (λ a. ReadsCopies p a × (place ≤ length (file_of (image_name (target p)) a))) (ReadsCopies (head_point p h)) said.written
          (λ a b same holds is. table_reads p (head_point p h) h a b step same (subst (λ z. place ≤ length z) (named (target p) a) is.1) (next_holds p place bytes a b holds) is.0) (if_both (means.told v.store) _ _ was said.inside)

      whole : IfSome (means.told v.store) (IsUnderWay p h (regions p.core.system.sizes)) → IfSome (means.told w.store) (IsWholeFile (head_point p h))
      whole way = held_over (image_name (target p)) place bytes (means.told v.store) (means.told w.store) (λ a. IsUnderWay p h (regions p.core.system.sizes) a × ReadsCopies p a) (IsWholeFile (head_point p h)) said.written
          (λ a b same holds is. table_ends p (head_point p h) h a b step is.1 is.0 (next_holds p place bytes a b holds)) (if_both (means.told v.store) _ _ way was)

  pub head_faults : HeadFaults means
  head_faults s B p v w h place n at begun said = record { to = q; step = step; is = record { run = runs_on s B p q (HeadFails h (means.faults w.store)) v at step; vault = failed_vault v w p.core.vault at.vault said.vault; files = files; reads = runs_no_more v w said.vault } }
    where
      q : Point
      q = record p { core = with_fault p.core (means.faults w.store); heads = head_with p.heads (target p) h; synced = synced_with p.synced (target p) false }

      step : IsPointStep p (HeadFails h (means.faults w.store)) q
      step = (record { may = record { runs = at.vault.stopped ∙ said.ran; under_way = begun }; rose = risen_from p.core.vault.faults (means.faults v.store) (means.faults w.store) at.vault.counted said.rose }, refl)

      files : IfSome (means.told w.store) (λ _. AllSpell (means.may_leave w.store) (TracedTo s B q))
      files = writes s B p q (HeadFails h (means.faults w.store)) v w place n said.tells step refl said.crash at.files

  -- ---- inside a write, and inside the anchor's move
  pub write_is_right_in : WriteIsRight means
  write_is_right_in s B p v place n at runs = IfSome_then (means.told v.store) at.files (λ fs all c torn. write_is_right (means.may_leave v.store) s B p all (at.vault.stopped ∙ runs) c (torn.0, torn.1, torn.2.same))

  pub turn_is_right_in : TurnIsRight means
  turn_is_right_in s B p v h b k at runs begun may held = IfSome_then (means.told v.store) (if_both (means.told v.store) _ _ held at.files) (λ fs all c moving.
      turn_is_right (means.may_leave v.store) s B p q all.1 step all.0 c (subst (λ n. MayHaveMoved (means.may_leave v.store) n c) (sym at.vault.current) moving))
    where
      q : Point
      q = record p { core = with_current p.core; begun = None }

      step : IsPointStep p Turns q
      step = (h, b, k, record { runs = at.vault.stopped ∙ runs; under_way = begun }, may, refl)

  -- ---- a sync
  pub sync_goes : SyncGoes means
  sync_goes s B p v w at begun said = record {
    goes = record { to = q; step = step; is = record { run = runs_on s B p q Syncs v at step; vault = same_vault v w p.core.vault at.vault said.vault said.ok.kept; files = files; reads = λ _. reads } };
    held = λ fits whole. same_told (means.told v.store) (means.told w.store) _ (λ _. (c : Disk) → means.may_leave w.store c → HoldsNext q c) said.same
        (λ fs both c left. sync_holds (means.may_leave w.store) p fs both.0.words both.0.head fits both.1 c left) (if_both (means.told v.store) (IsWholeFile p) _ whole said.durable);
  }
    where
      q : Point
      q = record p { synced = synced_with p.synced (target p) true }

      step : IsPointStep p Syncs q
      step = (record { runs = at.vault.stopped ∙ ran v w said.ok (ap (λ (z : Vaulted V). z.stopped) said.vault); under_way = begun }, refl)

      reads : IfSome (means.told w.store) (ReadsCopies q)
      reads = same_told (means.told v.store) (means.told w.store) (ReadsCopies p) (ReadsCopies q) said.same (λ a. reads_stay s B p q Syncs v a a at step refl (λ side. refl)) (at.reads (ran v w said.ok (ap (λ (z : Vaulted V). z.stopped) said.vault)))

      files : IfSome (means.told w.store) (λ _. AllSpell (means.may_leave w.store) (TracedTo s B q))
      files = still (means.told v.store) (means.told w.store) said.ok.tells (λ all. quiet_goes_on (means.may_leave v.store) (means.may_leave w.store) s B p q Syncs all step (λ F. refl) said.crash) at.files

  pub sync_faults : SyncFaults means
  sync_faults s B p v w at begun said = record { to = q; step = step; is = record { run = runs_on s B p q (SyncFails (means.faults w.store)) v at step; vault = failed_vault v w p.core.vault at.vault said.vault; files = files; reads = runs_no_more v w said.vault } }
    where
      q : Point
      q = record p { core = with_fault p.core (means.faults w.store) }

      step : IsPointStep p (SyncFails (means.faults w.store)) q
      step = (record { may = record { runs = at.vault.stopped ∙ said.ran; under_way = begun }; rose = risen_from p.core.vault.faults (means.faults v.store) (means.faults w.store) at.vault.counted said.rose }, refl)

      files : IfSome (means.told w.store) (λ _. AllSpell (means.may_leave w.store) (TracedTo s B q))
      files = both (means.told v.store) (means.told w.store) said.tells (λ all each. quiet_goes_on (means.may_leave v.store) (means.may_leave w.store) s B p q (SyncFails (means.faults w.store)) all step (λ F. refl) each) at.files said.crash

  -- ---- the anchor
  pub turn_goes : TurnGoes means
  turn_goes s B p v w h b k at begun may held said = record { to = q; step = step; is = record { run = runs_on s B p q Turns v at step; vault = vault; files = files; reads = λ _. reads } }
    where
      q : Point
      q = record p { core = with_current p.core; begun = None }

      step : IsPointStep p Turns q
      step = (h, b, k, record { runs = at.vault.stopped ∙ ran v w said.ok (ap (λ (z : Vaulted V). z.stopped) said.vault); under_way = begun }, may, refl)

      vault : IsVault means.faults w q.core.vault
      vault = record {
        stopped = at.vault.stopped ∙ sym (ap (λ (z : Vaulted V). z.stopped) said.vault);
        end = at.vault.end ∙ sym (ap (λ (z : Vaulted V). z.end) said.vault);
        flushed = at.vault.flushed ∙ sym (ap (λ (z : Vaulted V). z.flushed) said.vault);
        current = ap (λ n. n + 1) at.vault.current ∙ sym (ap (λ (z : Vaulted V). z.current) said.vault);
        counted = at.vault.counted ∙ sym said.ok.kept;
      }

      reads : IfSome (means.told w.store) (ReadsCopies q)
      reads = torn_over Anchor v.current 2 (means.told v.store) (means.told w.store) (ReadsCopies p) (ReadsCopies q) said.torn (λ a b same. reads_stay s B p q Turns v a b at step refl (λ side. other_files b a side same))
          (at.reads (ran v w said.ok (ap (λ (z : Vaulted V). z.stopped) said.vault)))

      moves : ((c : Disk) → means.may_leave w.store c → HasMoved (means.may_leave v.store) v.current c) → (c : Disk) → means.may_leave w.store c → HasMoved (means.may_leave v.store) p.core.vault.current c
      moves each c left = subst (λ n. HasMoved (means.may_leave v.store) n c) (sym at.vault.current) (each c left)

      files : IfSome (means.told w.store) (λ _. AllSpell (means.may_leave w.store) (TracedTo s B q))
      files = both (means.told v.store) (means.told w.store) said.ok.tells (λ all each. turn_goes_on (means.may_leave v.store) (means.may_leave w.store) s B p q all.1 step all.0 (moves each)) (if_both (means.told v.store) _ _ held at.files) said.moved

  pub turn_faults : TurnFaults means
  turn_faults s B p v w h b k at begun may held said = record { to = q; step = step; is = record { run = runs_on s B p q (TurnFails (means.faults w.store)) v at step; vault = failed_vault v w p.core.vault at.vault said.vault; files = files; reads = runs_no_more v w said.vault } }
    where
      q : Point
      q = record p { core = with_fault p.core (means.faults w.store); begun = None }

      step : IsPointStep p (TurnFails (means.faults w.store)) q
      step = (
        h,
        b,
        k,
        record { may = record { runs = at.vault.stopped ∙ said.ran; under_way = begun }; rose = risen_from p.core.vault.faults (means.faults v.store) (means.faults w.store) at.vault.counted said.rose },
        may,
        refl,
      )

      moves : ((c : Disk) → means.may_leave w.store c → MayHaveMoved (means.may_leave v.store) v.current c) → (c : Disk) → means.may_leave w.store c → MayHaveMoved (means.may_leave v.store) p.core.vault.current c
      moves each c left = subst (λ n. MayHaveMoved (means.may_leave v.store) n c) (sym at.vault.current) (each c left)

      files : IfSome (means.told w.store) (λ _. AllSpell (means.may_leave w.store) (TracedTo s B q))
      files = both (means.told v.store) (means.told w.store) said.tells (λ all each. turn_fault_goes_on (means.may_leave v.store) (means.may_leave w.store) s B p q (means.faults w.store) all.1 step all.0 (moves each)) (if_both (means.told v.store) _ _ held at.files) said.crash

  -- ---- what is no call that writes
  fewer_spell : (s : Start) (B : List (List Record)) (p : Point) (v w : V) → means.told w ≡ means.told v → ((c : Disk) → means.may_leave w c → means.may_leave v c)
      → IfSome (means.told v) (λ _. AllSpell (means.may_leave v) (TracedTo s B p)) → IfSome (means.told w) (λ _. AllSpell (means.may_leave w) (TracedTo s B p))
  fewer_spell s B p v w same fewer files = same_told (means.told v) (means.told w) _ (λ _. AllSpell (means.may_leave w) (TracedTo s B p)) same (λ fs all c left. all c (fewer c left)) files

  read_keeps : (p q : Point) (v w : V) → means.told w ≡ means.told v → ((c : Disk) → means.may_leave w c → means.may_leave v c) → KeepsImage means p q v v → KeepsImage means p q v w
  read_keeps p q v w same fewer keeps = record {
    under_way = λ h k way. same_told (means.told v) (means.told w) (IsUnderWay q h k) (IsUnderWay q h k) same (λ a is. is) (keeps.under_way h k way);
    whole = λ whole. same_told (means.told v) (means.told w) (IsWholeFile q) (IsWholeFile q) same (λ a is. is) (keeps.whole whole);
    held = λ holds. same_told (means.told v) (means.told w) _ (λ _. (c : Disk) → means.may_leave w c → HoldsNext q c) same (λ a held c left. held c (fewer c left)) (keeps.held holds);
  }

  pub read_stays : ReadStays means
  read_stays s B p v w at said = (
    record {
      run = at.run;
      vault = same_vault v w p.core.vault at.vault said.0.vault said.1;
      files = fewer_spell s B p v.store w.store said.0.same said.0.crash at.files;
      reads = λ runs. same_told (means.told v.store) (means.told w.store) (ReadsCopies p) (ReadsCopies p) said.0.same (λ a is. is) (at.reads (sym (ap (λ (z : Vaulted V). z.stopped) said.0.vault) ∙ runs));
    },
    read_keeps p p v.store w.store said.0.same said.0.crash (record { under_way = λ h k way. way; whole = λ whole. whole; held = λ held. held }),
  )

  pub quiet_goes : QuietGoes means
  quiet_goes s B p q x v at step quiet stays same = record {
    run = runs_on s B p q x v at step;
    vault = subst (IsVault means.faults v) (sym same) at.vault;
    files = IfSome_then (means.told v.store) at.files (λ fs all. quiet_goes_on (means.may_leave v.store) (means.may_leave v.store) s B p q x all step stays (λ c left. left));
    reads = λ runs. IfSome_then (means.told v.store) (at.reads runs) (λ a. reads_stay s B p q x v a a at step quiet (λ side. refl));
  }

  image_kept : (p q : Point) (x : StoreStep) (v : V) → IsPointStep p x q → is_image_write x ≡ false → q.core.vault.current ≡ p.core.vault.current → KeepsImage means p q v v
  image_kept p q x v step quiet current = record {
    under_way = λ h k way. IfSome_then (means.told v) way (λ a. quiet_continues p q x h k a a step quiet current refl);
    whole = λ whole. IfSome_then (means.told v) whole (λ a is. let reads = quiet_is_read p q x a a step quiet current refl in record { words = reads.words is.words; head = reads.head is.head });
    held = λ holds. IfSome_then (means.told v) holds (λ a held. held_goes_on (means.may_leave v) (means.may_leave v) p q x step quiet current (λ c left. (c, left, refl)) held);
  }

  pub quiet_keeps : QuietKeeps means
  quiet_keeps p q x v step quiet same = image_kept p q x v step quiet (ap (λ (u : VaultState). u.current) same)

  pub read_faults : ReadFaults means
  read_faults s B p v w at said = record {
    goes = record {
      to = q;
      step = step;
      is = record {
        run = runs_on s B p q (Does (ReadFails (means.faults w.store))) v at step;
        vault = record {
          stopped = at.vault.stopped ∙ sym (ap (λ (z : Vaulted V). z.stopped) said.0.vault);
          end = at.vault.end ∙ sym (ap (λ (z : Vaulted V). z.end) said.0.vault);
          flushed = at.vault.flushed ∙ sym (ap (λ (z : Vaulted V). z.flushed) said.0.vault);
          current = at.vault.current ∙ sym (ap (λ (z : Vaulted V). z.current) said.0.vault);
          counted = refl;
        };
        files = fewer_spell s B q v.store w.store said.0.same said.0.crash (IfSome_then (means.told v.store) at.files (λ fs all. quiet_goes_on (means.may_leave v.store) (means.may_leave v.store) s B p q (Does (ReadFails (means.faults w.store))) all step (λ F. refl) (λ c left. left)));
        reads = λ runs. same_told (means.told v.store) (means.told w.store) (ReadsCopies p) (ReadsCopies q) said.0.same (λ a. reads_stay s B p q (Does (ReadFails (means.faults w.store))) v a a at step refl (λ side. refl)) (at.reads (sym (ap (λ (z : Vaulted V). z.stopped) said.0.vault) ∙ runs));
      };
    };
    keeps = read_keeps p q v.store w.store said.0.same said.0.crash (image_kept p q (Does (ReadFails (means.faults w.store))) v.store step refl refl);
  }
    where
      q : Point
      q = record p { core = with_vault p.core (read_failed p.core.vault (means.faults w.store)); copies = copies_after p.core (ReadFails (means.faults w.store)) p.copies }

      step : IsPointStep p (Does (ReadFails (means.faults w.store))) q
      step = (refl, ((risen_from p.core.vault.faults (means.faults v.store) (means.faults w.store) at.vault.counted said.1, (refl, refl)), refl), refl)

  -- ---- the start, and what holds of it
  pub run_begins : RunBegins means
  run_begins s B v D starts vault all = record {
    run = fewer_runs (bases_of s) s.log _ _ (start_point s) (λ F none. absurd none) (start_runs s D starts);
    vault = vault;
    files = IfSome_then (means.told v.store) all (λ fs each. store_starts (means.may_leave v.store) s B each);
    reads = λ _. IfSome_then (means.told v.store) all (λ fs each. start_reads s fs);
  }

  pub crash_is_right : CrashIsRight means
  crash_is_right s B p v at = IfSome_then (means.told v.store) at.files (λ fs all. are_right (means.may_leave v.store) s B p all)

  pub acknowledged_stands : AcknowledgedStands means
  acknowledged_stands s B p v at = IfSome_then (means.told v.store) at.files (λ fs all c left.
      let D = all c left in (D.0, D.1, λ t is. acknowledged_traces s D.2.first D.2.starts D.2.steps p D.0 D.2.trace t is))

  pub places_are_small : PlacesAreSmall means
  places_are_small s B p v at = (
    subst (λ n. n < 2 ^ 62) at.vault.end (end_is_small (bases_of s) s.log p.core at.run.run.run),
    omega (arith, at.vault.current, current_is_small (bases_of s) s.log p at.run),
  )

  pub places_stand : PlacesStand means
  places_stand s B p v at runs side r g there clear = IfSome_then (means.told v.store) (at.reads runs) (λ fs reads. subst (λ bytes. place_of (r + 1) ≤ length bytes) (sym (named side fs)) (has_places (bases_of s) s.log p fs at.run reads side r g there clear))
