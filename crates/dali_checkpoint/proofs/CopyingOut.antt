-- Words that were copied and wait for their write: a run goes on meanwhile, over what the store would tell behind the write.
use Rattle.std.proofs.Common.{◌≡◌, ℕ, ◌+◌, ◌*◌, ◌≤◌, true, false, cond, List, [], ◌∷◌, ◌++◌, length, take, drop, Some, IfSome, refl, ap, sym, subst, ◌∙◌, arith, append_assoc, length-append, inl}
use Rattle.std.specs.Prelude.{◌&&◌, ◌==◌, flat_map}
use Rattle.std.proofs.lemmas.Bool.{eq-eqb}
use Rattle.std.proofs.lemmas.Option.{IfSome_then}
use Rattle.std.proofs.lemmas.List.{append-nil, take-append-drop}
use Rattle.std.proofs.lemmas.List.Concat.{flat_map-append, flat_map-cons}
use Rattle.dali_record.specs.declared.records.Record.{Record}
use Rattle.dali_record.specs.Files.{Files}
use Rattle.dali_record.specs.Spelling.{words_bytes}
use Rattle.dali_record.proofs.Lengths.{words_are_8}
use Rattle.dali_region.specs.declared.Side.{Side}
use Rattle.dali_region.specs.declared.Side.TheVariants.{A as SideA, B as SideB}
use Rattle.dali_store.specs.declared.store.FileName.{FileName}
use Rattle.dali_store.specs.declared.store.FileName.TheVariants.{ImageA, ImageB}
use Rattle.dali_store.specs.Store.{Files as Disk, file_of, SameBut, Holds}
use Rattle.dali_store.specs.declared.store.Store.{Ghosts}
use Rattle.dali_store.proofs.OneFile.{with_file}
use Rattle.dali_runs.specs.State.{VaultState}
use Rattle.dali_runs.specs.Run.{HasRisen, no_image}
use Rattle.dali_runs.specs.Flushes.{frame_of}
use Rattle.dali_runs.proofs.ImageSteps.{side_self}
use Rattle.dali_runs.proofs.PartsLemmas.Vaults.{step_has_vault}
use Rattle.dali_crash.specs.Checkpoints.{Head, StoreStep, Does, Starts, Keeps, Copies, Skips, WritesHead, Syncs, Turns, CopyFails, HeadFails, SyncFails, TurnFails, Finishes, Point, IsPointStep, IsPointCourse, Came, target, side_of, head_with, synced_with, copy_at, with_fault, is_of_checkpoint}
use Rattle.dali_crash.specs.StoreRuns.{StoreRun}
use Rattle.dali_crash.specs.Traces.{Start, bases_of}
use Rattle.dali_crash.specs.Disks.Disks.{image_file, image_name}
use Rattle.dali_crash.specs.Disks.Bridges.{is_image_write}
use Rattle.dali_crash.specs.Disks.Images.{next_file}
use Rattle.dali_crash.specs.Disks.NewFiles.{ReadsCopied, ReadsCopies, IsUnderWay}
use Rattle.dali_crash.specs.Disks.Places.{place_of}
use Rattle.dali_crash.proofs.StoreRuns.{bare_store_course_keeps}
use Rattle.dali_crash.proofs.DisksLemmas.Bridges.{quiet_goes_on, write_goes_on, are_right, write_is_right, gates_at, spells_written}
use Rattle.dali_crash.proofs.DisksLemmas.NewFiles.{quiet_reads, copy_reads, copy_continues, quiet_continues}
use Rattle.dali_core.specs.Vault.Vaulted.{Vaulted}
use Rattle.dali_core.specs.Steps.At.{IsVault}
use Rattle.dali_core.specs.Steps.Courses.{calls_none}
use Rattle.dali_core.specs.Steps.Said.{HasWritten, WriteHasFailed}
use Rattle.dali_core.proofs.VaultLemmas.Serving.{still, both}
use Rattle.dali_core.proofs.StepsLemmas.Courses.{came_same, vault_same, both_true}
use Rattle.dali_core.proofs.StepsLemmas.Files.{named, held_over, if_both}
use Rattle.dali_checkpoint.specs.CopiedOut.{IsWritten, is_silent, CopiesTell, IsAtBut, IsUnderWayBut, WaitBegins, WaitsOn, SilentWaits, CopyWaits, CopiesWait, WriteEnds, WriteFails, WaitIsRight, WriteIsRight, LateWordsGo, LateWordsFail}
use Rattle.dali_checkpoint.proofs.Splits.{first_held, held_first, held_rest, held_inside}

-- ---- where nothing is written
none_held : (at : ℕ) (old new : List ℕ) → Holds old at [] new → new ≡ old
none_held at old new holds =
    holds
    ∙ (ap (λ l. l ++ drop (at + 0) old) (append-nil (take at old))
    ∙ (ap (λ k. take at old ++ drop k old) (let e : at + 0 ≡ at = omega arith in e) ∙ take-append-drop at old))

file_kept : (side : Side) (r : ℕ) (fs d : Disk) → IsWritten side r [] fs d → (other : Side) → image_file other d ≡ image_file other fs
file_kept SideA r fs d is SideA = none_held (place_of r) fs.a d.a is.holds
file_kept SideA r fs d is SideB = is.same ImageB (λ e. absurd (cc))
file_kept SideB r fs d is SideA = is.same ImageA (λ e. absurd (cc))
file_kept SideB r fs d is SideB = none_held (place_of r) fs.b d.b is.holds

-- ---- one region more
more_bytes : (ws : List (List ℕ)) (w : List ℕ) → flat_map words_bytes (ws ++ w ∷ []) ≡ flat_map words_bytes ws ++ words_bytes w
more_bytes ws w = flat_map-append words_bytes ws (w ∷ []) ∙ ap (λ l. flat_map words_bytes ws ++ l) (flat_map-cons words_bytes w [] ∙ append-nil (words_bytes w))

pub one_more : {A : Type 0} (xs : List A) (x : A) → length (xs ++ x ∷ []) ≡ length xs + 1
one_more xs x = length-append xs (x ∷ []) ∙ omega arith

-- the last words are written over a disk that has the others
record LastWritten (side : Side) (r k : ℕ) (ws : List (List ℕ)) (w : List ℕ) (fs d : Disk) : Type 0 where
  mid : Disk
  first : IsWritten side r ws fs mid
  inside : place_of k ≤ length (image_file side mid)
  holds : Holds (image_file side mid) (place_of k) (words_bytes w) (image_file side d)
  same : SameBut (image_name side) mid d

last_written : (side : Side) (r : ℕ) (ws : List (List ℕ)) (w : List ℕ) (fs d : Disk) → length (flat_map words_bytes ws) ≡ 512 * length ws → IsWritten side r (ws ++ w ∷ []) fs d → LastWritten side r (r + length ws) ws w fs d
last_written side r ws w fs d size is = record {
  mid = mid;
  first = let h = held_first name (place_of r) us (Some fs) in record { inside = is.inside; holds = h.0; same = h.1 };
  inside = subst (λ l. place_of (r + length ws) ≤ length l) (named side mid) (subst (λ n. n ≤ length (file_of name mid)) place (held_inside name (place_of r) us (Some fs) is.inside));
  holds = subst (λ l. Holds l (place_of (r + length ws)) (words_bytes w) (image_file side d)) (named side mid)
      (subst (λ l. Holds (file_of name mid) (place_of (r + length ws)) (words_bytes w) l) (named side d)
      (subst (λ n. Holds (file_of name mid) n (words_bytes w) (file_of name d)) place rest.0));
  same = rest.1;
}
  where
    name : FileName
    name = image_name side

    us : List ℕ
    us = flat_map words_bytes ws

    mid : Disk
    mid = with_file name (first_held (place_of r) us (file_of name fs)) fs

    place : place_of r + length us ≡ place_of (r + length ws)
    place = omega (arith, size)

    rest : Holds (file_of name mid) (place_of r + length us) (words_bytes w) (file_of name d) × SameBut name mid d
    rest = held_rest name (place_of r) us (words_bytes w) (Some fs) (Some d) is.inside (subst (λ l. Holds (file_of name fs) (place_of r) l (file_of name d)) (more_bytes ws w) is.holds, is.same)

-- ---- steps that call no store
pub record IsCalm (p : Point) (x : StoreStep) (q : Point) : Type 0 where
  pub writes : is_image_write x ≡ false
  pub stays : (F : Files) → Came p x F F
  pub vault : q.core.vault ≡ p.core.vault

pub silent_is_calm : (p q : Point) (x : StoreStep) → is_silent x ≡ true → IsPointStep p x q → IsCalm p x q
silent_is_calm p q (Does x) e step =
    let calm = both_true (is_of_checkpoint x) (calls_none x) e in
    record { writes = refl; stays = came_same p.log p.core x calm.1; vault = vault_same (frame_of p.log p.core) p.core.vault q.core.vault x calm.1 (step_has_vault p.log q.log p.core q.core x step.1.0) }
silent_is_calm p q Starts e step = record { writes = refl; stays = λ F. refl; vault = ap (λ (z : Point). z.core.vault) step.1 }
silent_is_calm p q Keeps e step = record { writes = refl; stays = λ F. refl; vault = ap (λ (z : Point). z.core.vault) step.4 }
silent_is_calm p q (Skips r n) e step = record { writes = refl; stays = λ F. refl; vault = ap (λ (z : Point). z.core.vault) step.5 }
silent_is_calm p q Finishes e step = record { writes = refl; stays = λ F. refl; vault = ap (λ (z : Point). z.core.vault) step.1 }
silent_is_calm p q (Copies r n) e step = absurd (cc)
silent_is_calm p q (WritesHead h) e step = absurd (cc)
silent_is_calm p q Syncs e step = absurd (cc)
silent_is_calm p q Turns e step = absurd (cc)
silent_is_calm p q (CopyFails r ws n) e step = absurd (cc)
silent_is_calm p q (HeadFails h n) e step = absurd (cc)
silent_is_calm p q (SyncFails n) e step = absurd (cc)
silent_is_calm p q (TurnFails n) e step = absurd (cc)

target_stays : (p q : Point) → q.core.vault ≡ p.core.vault → target q ≡ target p
target_stays p q e = ap (λ (u : VaultState). side_of (u.current + 1)) e

copied_there : (p q : Point) (k n : ℕ) → IsPointStep p (Copies k n) q → q.copies (target p) k ≡ Some (copy_at n)
copied_there p q k n step =
    ap (λ (z : Point). z.copies (target p) k) step.5
    ∙ (ap (λ b. cond (b && (k == k)) (Some (copy_at n)) (p.copies (target p) k)) (side_self (target p))
    ∙ ap (λ b. cond b (Some (copy_at n)) (p.copies (target p) k)) (eq-eqb k k refl))

pub clash : false ≡ true → ⊥
clash e = cc

module _ {V : Type 0} (means : Ghosts V) where
  -- ---- before the first copy
  pub wait_begins : WaitBegins means
  wait_begins s B p r v at = record {
    is = record {
      run = at.run;
      vault = at.vault;
      files = at.files;
      reads = λ runs. IfSome_then (means.told v.store) (at.reads runs) (λ fs reads d is side. subst (λ l. ReadsCopied p side l) (sym (file_kept (target p) r fs d is side)) (reads side));
      size = refl;
    };
    under_way = λ h k way. IfSome_then (means.told v.store) way (λ fs is d written.
        let same : next_file p d ≡ next_file p fs = file_kept (target p) r fs d written (target p) in
        record { copied = is.copied; header = ap (take 64) same ∙ is.header; long = subst (λ l. place_of k ≤ length l) (sym same) is.long });
  }

  -- ---- a step of whomever
  pub silent_waits : SilentWaits means
  silent_waits s B p q x r ws v at silent step = record {
    is = record {
      run = bare_store_course_keeps (bases_of s) s.log p q (x ∷ []) at.run (q, step, refl);
      vault = subst (IsVault means.faults v) (sym calm.vault) at.vault;
      files = IfSome_then (means.told v.store) at.files (λ fs all. quiet_goes_on (means.may_leave v.store) (means.may_leave v.store) s B p q x all step calm.stays (λ c left. left));
      reads = λ runs. IfSome_then (means.told v.store) (at.reads runs) (λ fs reads d is. quiet_reads (bases_of s) s.log p q x d d at.run step calm.writes (λ side. refl) (reads d (was fs d is)));
      size = at.size;
    };
    under_way = λ h k way. IfSome_then (means.told v.store) way (λ fs under d is. quiet_continues p q x h k d d step calm.writes (ap (λ (u : VaultState). u.current) calm.vault) refl (under d (was fs d is)));
  }
    where
      calm : IsCalm p x q
      calm = silent_is_calm p q x silent step

      was : (fs d : Disk) → IsWritten (target q) r ws fs d → IsWritten (target p) r ws fs d
      was fs d is = subst (λ side. IsWritten side r ws fs d) (target_stays p q calm.vault) is

  -- ---- the copy of one region more
  pub copy_waits : CopyWaits means
  copy_waits s B p q r n ws v at step = record {
    is = record {
      run = run;
      vault = subst (IsVault means.faults v) (sym vault) at.vault;
      files = IfSome_then (means.told v.store) at.files (λ fs all. quiet_goes_on (means.may_leave v.store) (means.may_leave v.store) s B p q (Copies k n) all step (λ F. inl refl) (λ c left. left));
      reads = λ runs. IfSome_then (means.told v.store) (at.reads runs) (λ fs reads d is.
          let t = last fs d is in
          copy_reads (bases_of s) s.log p q k n t.mid d at.run step t.same t.inside t.holds (reads t.mid t.first));
      size = ap length (more_bytes ws w) ∙ (length-append (flat_map words_bytes ws) (words_bytes w) ∙ omega (arith, at.size, words_are_8 w, words, one_more ws w));
    };
    further = λ h j way le. subst (λ m. IsUnderWayBut means q h m r (ws ++ w ∷ []) v.store) (let e : k + 1 ≡ r + length (ws ++ w ∷ []) = omega (arith, one_more ws w) in e)
        (IfSome_then (means.told v.store) way (λ fs under d is.
        let t = last fs d is in
        (copy_continues (bases_of s) s.log p q h j k n t.mid d at.run step (under t.mid t.first) le t.holds).further));
    still = λ h j way le. IfSome_then (means.told v.store) way (λ fs under d is.
        let t = last fs d is in
        (copy_continues (bases_of s) s.log p q h j k n t.mid d at.run step (under t.mid t.first) le t.holds).still);
  }
    where
      k : ℕ
      k = r + length ws

      w : List ℕ
      w = q.told (target p) k

      run : StoreRun (bases_of s) s.log no_image q
      run = bare_store_course_keeps (bases_of s) s.log p q (Copies k n ∷ []) at.run (q, step, refl)

      vault : q.core.vault ≡ p.core.vault
      vault = ap (λ (z : Point). z.core.vault) step.5

      words : length w ≡ 64
      words = (run.written.copied (target p) k (copy_at n) (copied_there p q k n step)).0

      last : (fs d : Disk) → IsWritten (target q) r (ws ++ w ∷ []) fs d → LastWritten (target p) r k ws w fs d
      last fs d is = last_written (target p) r ws w fs d at.size (subst (λ side. IsWritten side r (ws ++ w ∷ []) fs d) (target_stays p q vault) is)

  -- ---- any such steps
  record Behind (s : Start) (B : List (List Record)) (p : Point) (xs : List StoreStep) (q : Point) (r : ℕ) (us ws : List (List ℕ)) (v : Vaulted V) : Type 0 where
    course : IsPointCourse p xs q
    same : target q ≡ target p
    is : IsAtBut means s B q r ws v
    under_way : (h : Head) → IsUnderWayBut means p h (r + length us) r us v.store → IsUnderWayBut means q h (r + length ws) r ws v.store

  -- one that calls no store comes first
  behind_silent : (s : Start) (B : List (List Record)) (p mid q : Point) (r : ℕ) (x : StoreStep) (xs : List StoreStep) (us ws : List (List ℕ)) (v : Vaulted V) → is_silent x ≡ true → IsPointStep p x mid
      → WaitsOn means s B p mid r us v → Behind s B mid xs q r us ws v
      → Behind s B p (x ∷ xs) q r us ws v
  behind_silent s B p mid q r x xs us ws v silent step one z = record {
    course = (mid, step, z.course);
    same = z.same ∙ target_stays p mid (silent_is_calm p mid x silent step).vault;
    is = z.is;
    under_way = λ h way. z.under_way h (one.under_way h (r + length us) way);
  }

  go_on : (s : Start) (B : List (List Record)) (p q : Point) (r : ℕ) (xs : List StoreStep) (us ws : List (List ℕ)) (v : Vaulted V) → IsAtBut means s B p r us v → CopiesTell p (r + length us) xs ws q
      → Behind s B p xs q r us (us ++ ws) v
  go_on s B p q r [] us ws v at tells = subst (λ m. Behind s B p [] m r us (us ++ ws) v) tells.0 (subst (λ l. Behind s B p [] p r us l v) (sym (append-nil us) ∙ ap (λ l. us ++ l) (sym tells.1))
      (record { course = refl; same = refl; is = at; under_way = λ h way. way }))
  go_on s B p q r (Copies k n ∷ xs) us ws v at tells =
      let mid : Point = tells.0 in
      let step : IsPointStep p (Copies (r + length us) n) mid = subst (λ i. IsPointStep p (Copies i n) mid) tells.2 tells.3 in
      let w : List ℕ = mid.told (target p) (r + length us) in
      let one = copy_waits s B p mid r n us v at step in
      let next : r + length us + 1 ≡ r + length (us ++ w ∷ []) = omega (arith, one_more us w) in
      let z = go_on s B mid q r xs (us ++ w ∷ []) tells.1 v one.is (subst (λ i. CopiesTell mid i xs tells.1 q) next tells.5) in
      let told : (us ++ w ∷ []) ++ tells.1 ≡ us ++ ws = append_assoc us (w ∷ []) tells.1 ∙ ap (λ l. us ++ l) (ap (λ i. mid.told (target p) i ∷ tells.1) (sym tells.2) ∙ sym tells.4) in
      subst (λ l. Behind s B p (Copies k n ∷ xs) q r us l v) told
      (record {
        course = (mid, tells.3, z.course);
        same = z.same ∙ target_stays p mid (ap (λ (y : Point). y.core.vault) step.5);
        is = z.is;
        under_way = λ h way. z.under_way h (one.further h (r + length us) way (omega arith));
      })
  go_on s B p q r (Does x ∷ xs) us ws v at tells =
      let one = silent_waits s B p tells.0 (Does x) r us v at tells.1 tells.2 in
      behind_silent s B p tells.0 q r (Does x) xs us (us ++ ws) v tells.1 tells.2 one (go_on s B tells.0 q r xs us ws v one.is tells.3)
  go_on s B p q r (Starts ∷ xs) us ws v at tells =
      let one = silent_waits s B p tells.0 Starts r us v at tells.1 tells.2 in
      behind_silent s B p tells.0 q r Starts xs us (us ++ ws) v tells.1 tells.2 one (go_on s B tells.0 q r xs us ws v one.is tells.3)
  go_on s B p q r (Keeps ∷ xs) us ws v at tells =
      let one = silent_waits s B p tells.0 Keeps r us v at tells.1 tells.2 in
      behind_silent s B p tells.0 q r Keeps xs us (us ++ ws) v tells.1 tells.2 one (go_on s B tells.0 q r xs us ws v one.is tells.3)
  go_on s B p q r (Skips i n ∷ xs) us ws v at tells =
      let one = silent_waits s B p tells.0 (Skips i n) r us v at tells.1 tells.2 in
      behind_silent s B p tells.0 q r (Skips i n) xs us (us ++ ws) v tells.1 tells.2 one (go_on s B tells.0 q r xs us ws v one.is tells.3)
  go_on s B p q r (Finishes ∷ xs) us ws v at tells =
      let one = silent_waits s B p tells.0 Finishes r us v at tells.1 tells.2 in
      behind_silent s B p tells.0 q r Finishes xs us (us ++ ws) v tells.1 tells.2 one (go_on s B tells.0 q r xs us ws v one.is tells.3)
  go_on s B p q r (WritesHead h ∷ xs) us ws v at tells = absurd (clash tells.1)
  go_on s B p q r (Syncs ∷ xs) us ws v at tells = absurd (clash tells.1)
  go_on s B p q r (Turns ∷ xs) us ws v at tells = absurd (clash tells.1)
  go_on s B p q r (CopyFails i ns n ∷ xs) us ws v at tells = absurd (clash tells.1)
  go_on s B p q r (HeadFails h n ∷ xs) us ws v at tells = absurd (clash tells.1)
  go_on s B p q r (SyncFails n ∷ xs) us ws v at tells = absurd (clash tells.1)
  go_on s B p q r (TurnFails n ∷ xs) us ws v at tells = absurd (clash tells.1)

  pub copies_wait : CopiesWait means
  copies_wait s B p q r xs ws v at tells =
      let none = wait_begins s B p r v at in
      let here : r ≡ r + 0 = omega arith in
      let z = go_on s B p q r xs [] ws v none.is (subst (λ i. CopiesTell p i xs ws q) here tells) in
      record {
        course = z.course;
        same = z.same;
        is = z.is;
        under_way = λ h way. z.under_way h (subst (λ i. IsUnderWayBut means p h i r [] v.store) here (none.under_way h r way));
      }

  -- ---- the write
  pub write_ends : WriteEnds means
  write_ends s B p r ws v w at said = record {
    is = record {
      run = at.run;
      vault = record {
        stopped = at.vault.stopped ∙ same_stop;
        end = at.vault.end ∙ sym (ap (λ (z : Vaulted V). z.end) said.vault);
        flushed = at.vault.flushed ∙ sym (ap (λ (z : Vaulted V). z.flushed) said.vault);
        current = at.vault.current ∙ sym (ap (λ (z : Vaulted V). z.current) said.vault);
        counted = at.vault.counted ∙ sym said.ok.kept;
      };
      files = still (means.told v.store) (means.told w.store) said.ok.tells (λ all c left.
          let x = said.crash c left in
          let D = all x.0 x.1 in
          (D.0, spells_written p c x.0 D.0 (gates_at s B p D.0 D.2 (at.vault.stopped ∙ ran)) x.2.same D.1, D.2)) at.files;
      reads = λ _. over (λ fs. (d : Disk) → IsWritten (target p) r ws fs d → ReadsCopies p d) (ReadsCopies p) (λ a b is reads. reads b is) (at.reads ran);
    };
    under_way = λ h k way. over (λ fs. (d : Disk) → IsWritten (target p) r ws fs d → IsUnderWay p h k d) (IsUnderWay p h k) (λ a b is under. under b is) way;
  }
    where
      same_stop : v.stopped ≡ w.stopped
      same_stop = sym (ap (λ (z : Vaulted V). z.stopped) said.vault)

      ran : v.stopped ≡ false
      ran = same_stop ∙ said.ok.runs

      over : (P Q : Disk → Type 0) → ((a b : Disk) → IsWritten (target p) r ws a b → P a → Q b) → IfSome (means.told v.store) P → IfSome (means.told w.store) Q
      over P Q go is = held_over (image_name (target p)) (place_of r) (flat_map words_bytes ws) (means.told v.store) (means.told w.store) (λ a. P a × (place_of r ≤ length (file_of (image_name (target p)) a))) Q said.written
          (λ a b same holds both. go a b (record { inside = both.1; holds = holds; same = same }) both.0) (if_both (means.told v.store) P _ is said.inside)

  pub write_fails : WriteFails means
  write_fails s B p r ws v w h place n at begun said = record {
    to = q;
    step = step;
    is = record {
      run = bare_store_course_keeps (bases_of s) s.log p q (HeadFails h (means.faults w.store) ∷ []) at.run (q, step, refl);
      vault = record {
        stopped = sym stopped;
        end = at.vault.end ∙ sym (ap (λ (z : Vaulted V). z.end) said.vault);
        flushed = at.vault.flushed ∙ sym (ap (λ (z : Vaulted V). z.flushed) said.vault);
        current = at.vault.current ∙ sym (ap (λ (z : Vaulted V). z.current) said.vault);
        counted = refl;
      };
      files = both (means.told v.store) (means.told w.store) said.tells (λ all each. write_goes_on (means.may_leave v.store) (means.may_leave w.store) s B p q (HeadFails h (means.faults w.store)) all step refl (λ c left. let o = each c left in (o.0, o.1, o.2.same))) at.files said.crash;
      reads = λ runs. absurd (clash (sym runs ∙ stopped));
    };
  }
    where
      stopped : w.stopped ≡ true
      stopped = ap (λ (z : Vaulted V). z.stopped) said.vault

      q : Point
      q = record p { core = with_fault p.core (means.faults w.store); heads = head_with p.heads (target p) h; synced = synced_with p.synced (target p) false }

      step : IsPointStep p (HeadFails h (means.faults w.store)) q
      step = (
        record {
          may = record { runs = at.vault.stopped ∙ said.ran; under_way = begun };
          rose = subst (λ k. HasRisen k (means.faults w.store)) (sym at.vault.counted) said.rose;
        },
        refl,
      )

  -- ---- what a crash leaves
  pub wait_is_right : WaitIsRight means
  wait_is_right s B p r ws v at = IfSome_then (means.told v.store) at.files (λ fs all. are_right (means.may_leave v.store) s B p all)

  pub wait_write_is_right : WriteIsRight means
  wait_write_is_right s B p r ws v place n at runs = IfSome_then (means.told v.store) at.files (λ fs all c torn. write_is_right (means.may_leave v.store) s B p all (at.vault.stopped ∙ runs) c (torn.0, torn.1, torn.2.same))

  -- ---- from the vault's hold to its write
  pub late_words_go : LateWordsGo means
  late_words_go s B p q r xs ws v w at tells said =
      let z = copies_wait s B p q r xs ws v at tells in
      let d = write_ends s B q r ws v w z.is (subst (λ side. HasWritten means v (image_name side) (place_of r) (flat_map words_bytes ws) w) (sym z.same) said) in
      (d.is, λ h way. d.under_way h (r + length ws) (z.under_way h way))

  pub late_words_fail : LateWordsFail means
  late_words_fail s B p q r xs ws v w h place n at tells begun said =
      let z = copies_wait s B p q r xs ws v at tells in
      write_fails s B q r ws v w h place n z.is begun (subst (λ side. WriteHasFailed means v (image_name side) place n w) (sym z.same) said)
