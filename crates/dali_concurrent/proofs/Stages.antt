-- How far a checkpoint has come.
use Rattle.std.proofs.Common.{◌≡◌, ℕ, ◌+◌, ◌<◌, ◌≤◌, Bool, true, false, cond, List, [], ◌∷◌, ◌++◌, length, Option, Some, None, refl, ap, sym, subst, ◌∙◌, ⊎_elim, arith}
use Rattle.std.specs.Prelude.{zero, suc, is_some, ◌==◌, ◌&&◌, nat_le, if◌then◌else◌, slice_get}
use Rattle.std.proofs.lemmas.List.{append-nil, append_assoc}
use Rattle.std.proofs.lemmas.Bool.{eqb-true, eqb-false, eq-eqb, leb-true, le-leb, or_cases as or_either}
use Rattle.dali_lists.proofs.Lists.{get_push}
use Rattle.dali_lists.proofs.Options.{some_same}
use Rattle.dali_lists.proofs.Tests.{not_both_ways}
use Rattle.dali_record.proofs.Batches.{number_is_length}
use Rattle.dali_geometry.specs.Sizes.{Sizes}
use Rattle.dali_geometry.specs.Places.{regions}
use Rattle.dali_record.specs.declared.records.Record.{Record}
use Rattle.dali_record.specs.declared.records.Record.TheVariants.{AuditClean}
use Rattle.dali_record.specs.Damage.{has}
use Rattle.dali_region.specs.declared.Side.{Side}
use Rattle.dali_region.specs.declared.Side.TheVariants.{A as SideA, B as SideB}
use Rattle.dali_runs.specs.State.{CoreState, stable}
use Rattle.dali_runs.specs.Run.{Bases, RunsOn}
use Rattle.dali_runs.specs.Passes.{has_passed, has_found}
use Rattle.dali_runs.specs.Courses.{Step, AuditBegins, AuditEnds}
use Rattle.dali_runs.proofs.ImageSteps.{side_self}
use Rattle.dali_runs.proofs.FactsLemmas.KeysAndUndos.{has_counts}
use Rattle.dali_crash.specs.Checkpoints.{Head, Copy, StoreStep, Does, Starts, Keeps, Copies, Skips, WritesHead, Syncs, Turns, CopyFails, HeadFails, SyncFails, TurnFails, Finishes, Point, IsPointStep, IsPointCourse, moment_of, target, head_with, synced_with, copies_with, copy_at}
use Rattle.dali_crash.specs.StoreRuns.{FlagTells}
use Rattle.dali_crash.proofs.Flags.{flag_stays}
use Rattle.dali_crash.proofs.StepLeaves.{vault_goes}
use Rattle.dali_checkpoint.specs.Running.{IsCopiedAt, AreCopied, PassesTell}
use Rattle.dali_checkpoint.proofs.Stays.{Stays, does_stays, all_copied_on, passed_on, same_target}
use Rattle.dali_checkpoint.proofs.Audited.{passes_go_on, begins_telling}
use Rattle.dali_concurrent.specs.Rules.{Outset, log_by, count_of}
use Rattle.dali_concurrent.specs.Told.{Line, History, plain, core_told}
use Rattle.dali_concurrent.specs.Landing.{Stands, Way}
use Rattle.dali_concurrent.specs.Kept.{are_core_steps}
use Rattle.dali_concurrent.specs.Stages.{Image, Stage, Nowhere, Started, HasKept, Copying, Settled, IsCleanAt, image_after, is_of_image, stage_after, stage_line, stage_from, stage_by, IsImage, IsStage, IsBehind, has_begun, StageGoes, StageStands, StageBegins, StageStays, StageTurns}
use Rattle.dali_concurrent.proofs.Landing.{onward, start_stands}

-- ---- the stage of a longer history
pub stage_on : (o : Outset) (S : History) (st : Stage) (A B : History) → stage_from o S st (A ++ B) ≡ stage_from o (S ++ A) (stage_from o S st A) B
stage_on o S st [] B = ap (λ Z. stage_from o Z st B) (sym (append-nil S))
stage_on o S st (e ∷ A) B =
    stage_on o (S ++ e ∷ []) (stage_line (count_of o) (log_by o (plain S)) (core_told o S) st e.1.2) A B
    ∙ ap (λ Z. stage_from o Z (stage_from o (S ++ e ∷ []) (stage_line (count_of o) (log_by o (plain S)) (core_told o S) st e.1.2) A) B) (append_assoc S (e ∷ []) A)

pub stage_push : (o : Outset) (S : History) (e : Line) → stage_by o (S ++ e ∷ []) ≡ stage_line (count_of o) (log_by o (plain S)) (core_told o S) (stage_by o S) e.1.2
stage_push o S e = stage_on o [] Nowhere S (e ∷ [])

goes_on : (h : Head) (L : List Record) (r m : ℕ) → h.first ≤ m → m ≤ length L → ((r == r) && is_of_image h L m) ≡ true
goes_on h L r m since until =
    ap (λ x. x && is_of_image h L m) (eq-eqb r r refl) ∙ (ap (λ x. x && nat_le m (length L)) (le-leb h.first m since) ∙ le-leb m (length L) until)

pub stage_goes : StageGoes
stage_goes = record {
  one = stage_push;
  copied = λ o T ks e f h g r m stage since until.
      stage_push o T (ks, (e, f, Copies r m ∷ []))
      ∙ (ap (λ st. stage_after (count_of o) (log_by o (plain T)) (core_told o T) st (Copies r m)) stage
      ∙ ap (λ b. if b then Copying h g (r + 1) else Nowhere) (goes_on h (log_by o (plain T)) r m since until));
  skipped = λ o T ks e f h g r m stage since until.
      stage_push o T (ks, (e, f, Skips r m ∷ []))
      ∙ (ap (λ st. stage_after (count_of o) (log_by o (plain T)) (core_told o T) st (Skips r m)) stage
      ∙ ap (λ b. if b then Copying h g (r + 1) else Nowhere) (goes_on h (log_by o (plain T)) r m since until));
}

-- ---- a step of the core
both_true : (a b : Bool) → (a && b) ≡ true → (a ≡ true) × (b ≡ true)
both_true true b e = (refl, e)
both_true false b e = absurd (cc)

stay_of : (q r : Point) (x : Step) → IsPointStep q (Does x) r → Stays q r
stay_of q r x s = does_stays q r x s (vault_goes (moment_of q) (moment_of r) x s.1).current

clean_on : (q r : Point) (n b end : ℕ) → Stays q r → IsCleanAt q n b end → IsCleanAt r n b end
clean_on q r n b end stay is = record {
  behind = is.behind;
  clean = stay.log end (AuditClean b) is.clean;
  ends = is.ends;
  passed = λ k l. passed_on q r k stay (is.passed k (subst (λ (z : Sizes). k < regions z) stay.sizes l));
}

clean_end : (q r : Point) (n b : ℕ) → IsPointStep q (Does (AuditEnds b [])) r → Stays q r → n ≤ b → PassesTell q b → IsCleanAt r n b (length q.log)
clean_end q r n b s stay le tell = record {
  behind = le;
  clean = ap (λ L. slice_get L (length q.log)) s.1.0.1.0 ∙ get_push q.log (AuditClean b);
  ends = omega (arith, s.1.0.0.auditing.within, number_is_length q.log);
  passed = λ k l. let i = subst (λ (z : Sizes). k < regions z) stay.sizes l in passed_on q r k stay (tell k i (s.1.1.0.passed k i) (sym (s.1.1.0.named k i)));
}

image_stays : (q r : Point) (x : Step) (h : Head) (i : Image) → IsPointStep q (Does x) r → IsImage q h i → IsImage r h i
image_stays q r x h i s is = record {
  begun = stay.begun ∙ is.begun;
  copies = subst (λ (z : Sizes). AreCopied r h i.records (regions z)) (sym stay.sizes) copies;
  head = ap r.heads side ∙ (ap (λ (z : Point). z.heads (target q)) s.2 ∙ is.head);
  within = omega (arith, is.within, stay.longer);
  synced = λ e. ap r.synced side ∙ (ap (λ (z : Point). z.synced (target q)) s.2 ∙ is.synced e);
  passes = λ b e. let t = is.passes b e in (t.0, passes_go_on q r x h i.records b s stay is.copies t.1);
  clean = λ b end e. clean_on q r i.records b end stay (is.clean b end e);
}
  where
    stay : Stays q r
    stay = stay_of q r x s

    side : target r ≡ target q
    side = same_target q r stay.current

    copies : AreCopied r h i.records (regions q.core.system.sizes)
    copies = all_copied_on q r h i.records i.records (regions q.core.system.sizes) stay (omega arith) is.copies

-- an audit that begins or ends adds what the image knows
image_goes : (q r : Point) (x : Step) (h : Head) (i : Image) → q.core.system.records ≡ length q.log → IsPointStep q (Does x) r → IsImage q h i → IsImage r h (image_after q.log q.core i x)
image_goes q r AuditBegins h i counts s is = let on = image_stays q r AuditBegins h i s is in record {
  begun = on.begun;
  copies = on.copies;
  head = on.head;
  within = on.within;
  synced = on.synced;
  passes = λ b e. ⊎_elim
      (λ new. let same : q.core.system.records ≡ b = eqb-true q.core.system.records b new in (omega (arith, is.within, counts, same), subst (PassesTell r) same (begins_telling q r s)))
      (λ old. on.passes b old)
      (or_either (q.core.system.records == b) (has i.begins b) e);
  clean = on.clean;
}
image_goes q r (AuditEnds b []) h i counts s is = by_test (has i.begins b) refl
  where
    on : IsImage r h i
    on = image_stays q r (AuditEnds b []) h i s is

    by_test : (t : Bool) → has i.begins b ≡ t → IsImage r h (if t then record i { clean = Some (b, length q.log) } else i)
    by_test false e = on
    by_test true e = record {
      begun = on.begun;
      copies = on.copies;
      head = on.head;
      within = on.within;
      synced = on.synced;
      passes = on.passes;
      clean = λ a end f.
          let pair : (b, length q.log) ≡ (a, end) = some_same f in
          let t = is.passes b e in
          subst (λ (z : ℕ × ℕ). IsCleanAt r i.records z.0 z.1) pair (clean_end q r i.records b s (stay_of q r (AuditEnds b []) s) t.0 t.1);
    }
image_goes q r (AuditEnds b (a ∷ found)) h i counts s is = image_stays q r (AuditEnds b (a ∷ found)) h i s is
image_goes q r x h i counts s is = image_stays q r x h i s is

core_step_stays : (q r : Point) (x : Step) (st : Stage) → IsPointStep q (Does x) r → IsStage q st → IsStage r st
core_step_stays q r x Nowhere s is = tt
core_step_stays q r x Started s is = (stay_of q r x s).begun ∙ is
core_step_stays q r x (HasKept h) s is = (stay_of q r x s).begun ∙ is
core_step_stays q r x (Copying h g k) s is =
    let stay : Stays q r = stay_of q r x s in (stay.begun ∙ is.0, all_copied_on q r h (length q.log) (length r.log) k stay stay.longer is.1)
core_step_stays q r x (Settled h i) s is = image_stays q r x h i s is

core_step_goes : (n : ℕ) (q r : Point) (x : Step) (st : Stage) → q.core.system.records ≡ length q.log → IsPointStep q (Does x) r → IsStage q st → IsStage r (stage_after n q.log q.core st (Does x))
core_step_goes n q r x Nowhere counts s is = tt
core_step_goes n q r x Started counts s is = core_step_stays q r x Started s is
core_step_goes n q r x (HasKept h) counts s is = core_step_stays q r x (HasKept h) s is
core_step_goes n q r x (Copying h g k) counts s is = core_step_stays q r x (Copying h g k) s is
core_step_goes n q r x (Settled h i) counts s is = image_goes q r x h i counts s is

core_course_stays : (q r : Point) (xs : List StoreStep) (st : Stage) → are_core_steps xs ≡ true → IsPointCourse q xs r → IsStage q st → IsStage r st
core_course_stays q r [] st e course is = subst (λ z. IsStage z st) course is
core_course_stays q r (Does x ∷ xs) st e course is = core_course_stays course.0 r xs st e course.2 (core_step_stays q course.0 x st course.1 is)
core_course_stays q r (Starts ∷ xs) st e course is = absurd (cc)
core_course_stays q r (Keeps ∷ xs) st e course is = absurd (cc)
core_course_stays q r (Copies k m ∷ xs) st e course is = absurd (cc)
core_course_stays q r (Skips k m ∷ xs) st e course is = absurd (cc)
core_course_stays q r (WritesHead h ∷ xs) st e course is = absurd (cc)
core_course_stays q r (Syncs ∷ xs) st e course is = absurd (cc)
core_course_stays q r (Turns ∷ xs) st e course is = absurd (cc)
core_course_stays q r (CopyFails k ws m ∷ xs) st e course is = absurd (cc)
core_course_stays q r (HeadFails h m ∷ xs) st e course is = absurd (cc)
core_course_stays q r (SyncFails m ∷ xs) st e course is = absurd (cc)
core_course_stays q r (TurnFails m ∷ xs) st e course is = absurd (cc)
core_course_stays q r (Finishes ∷ xs) st e course is = absurd (cc)

-- ---- a step of the checkpoint
same_points : (q r : Point) → r.begun ≡ q.begun → r.core.system.sizes ≡ q.core.system.sizes → r.core.vault.current ≡ q.core.vault.current → r.told ≡ q.told → r.copies ≡ q.copies → r.log ≡ q.log → Stays q r
same_points q r begun sizes current told copies log = record {
  begun = begun;
  sizes = sizes;
  current = current;
  told = told;
  copies = λ side n k e. record { copy = k; there = ap (λ c. c side n) copies ∙ e; at = refl; passed = λ f. f };
  longer = omega (arith, ap length log);
  log = λ k x e. ap (λ l. slice_get l k) log ∙ e;
}

image_over : (q r : Point) (h : Head) (i : Image) (b : Bool) → Stays q r → r.heads ≡ q.heads → r.audits ≡ q.audits → (b ≡ true → r.synced (target r) ≡ true) → IsImage q h i → IsImage r h (record i { synced = b })
image_over q r h i b stay heads audits synced is = record {
  begun = stay.begun ∙ is.begun;
  copies = subst (λ (z : Sizes). AreCopied r h i.records (regions z)) (sym stay.sizes) (all_copied_on q r h i.records i.records (regions q.core.system.sizes) stay (omega arith) is.copies);
  head = ap r.heads (same_target q r stay.current) ∙ (ap (λ hs. hs (target q)) heads ∙ is.head);
  within = omega (arith, is.within, stay.longer);
  synced = synced;
  passes = λ a e. let t = is.passes a e in (t.0, told a t.1);
  clean = λ a end e. clean_on q r i.records a end stay (is.clean a end e);
}
  where
    told : (a : ℕ) → PassesTell q a → PassesTell r a
    told a tell k l passed found =
        passed_on q r k stay (tell k (subst (λ (z : Sizes). k < regions z) stay.sizes l) (ap (λ A. has_passed (A a) k) (sym audits) ∙ passed) (ap (λ A. has_found (A a) k) (sym audits) ∙ found))

head_there : (side : Side) (heads : Side → Head) (h : Head) → head_with heads side h side ≡ h
head_there SideA heads h = refl
head_there SideB heads h = refl

synced_there : (side : Side) (old : Side → Bool) → synced_with old side true side ≡ true
synced_there SideA old = refl
synced_there SideB old = refl

-- ---- one region more
-- the copy may be older than the last record
next_copied : (q r : Point) (h : Head) (k j m : ℕ) → j < k + 1 → h.first ≤ m → m ≤ length q.log → r.log ≡ q.log → target r ≡ target q
    → r.copies ≡ copies_with q.copies (target q) k (Some (copy_at m)) → AreCopied q h (length q.log) k → IsCopiedAt r h (length r.log) j
next_copied q r h k j m l since until log side copies are = by_test (j == k) refl
  where
    at : (c : Option Copy) → copies_with q.copies (target q) k (Some (copy_at m)) (target q) j ≡ c → r.copies (target r) j ≡ c
    at c e = ap (λ t. r.copies t j) side ∙ (ap (λ z. z (target q) j) copies ∙ e)

    here : (b : Bool) → (j == k) ≡ b → copies_with q.copies (target q) k (Some (copy_at m)) (target q) j ≡ cond b (Some (copy_at m)) (q.copies (target q) j)
    here b e = ap (λ a. cond (a && (j == k)) (Some (copy_at m)) (q.copies (target q) j)) (side_self (target q)) ∙ ap (λ a. cond a (Some (copy_at m)) (q.copies (target q) j)) e

    by_test : (b : Bool) → (j == k) ≡ b → IsCopiedAt r h (length r.log) j
    by_test true e = record { copy = copy_at m; there = at _ (here true e); since = since; until = omega (arith, until, ap length log) }
    by_test false e =
        let old = are j (omega (arith, l, eqb-false j k e)) in
        record { copy = old.copy; there = at _ (here false e ∙ old.there); since = old.since; until = omega (arith, old.until, ap length log) }

one_more : (n : ℕ) (q r : Point) (h g : Head) (k i m : ℕ) → r.begun ≡ q.begun → target r ≡ target q → r.log ≡ q.log
    → r.copies ≡ copies_with q.copies (target q) i (Some (copy_at m)) → IsStage q (Copying h g k)
    → IsStage r (if (i == k) && is_of_image h q.log m then Copying h g (k + 1) else Nowhere)
one_more n q r h g k i m begun side log copies is = by_test ((i == k) && is_of_image h q.log m) refl
  where
    by_test : (t : Bool) → ((i == k) && is_of_image h q.log m) ≡ t → IsStage r (if t then Copying h g (k + 1) else Nowhere)
    by_test false e = tt
    by_test true e =
        let both = both_true (i == k) (is_of_image h q.log m) e in
        let same : i ≡ k = eqb-true i k both.0 in
        let ends = both_true (nat_le h.first m) (nat_le m (length q.log)) both.1 in (
          begun ∙ is.0,
          λ j l. next_copied q r h k j m l (leb-true h.first m ends.0) (leb-true m (length q.log) ends.1) log side
              (copies ∙ ap (λ z. copies_with q.copies (target q) z (Some (copy_at m))) same) is.1,
        )

-- the table ends the image
whole_image : (n : ℕ) (q r : Point) (h g f : Head) (k : ℕ) → regions q.core.system.sizes ≡ n → IsPointStep q (WritesHead f) r → IsStage q (Copying h g k)
    → IsStage r (if k == n then Settled h (record { header = g; head = f; records = length q.log; synced = false; begins = []; clean = None }) else Nowhere)
whole_image n q r h g f k count s is = by_test (k == n) refl
  where
    stay : Stays q r
    stay = same_points q r (ap (λ (z : Point). z.begun) s.1) (ap (λ (z : Point). z.core.system.sizes) s.1) (ap (λ (z : Point). z.core.vault.current) s.1) (ap (λ (z : Point). z.told) s.1) (ap (λ (z : Point). z.copies) s.1) (ap (λ (z : Point). z.log) s.1)

    by_test : (t : Bool) → (k == n) ≡ t → IsStage r (if t then Settled h (record { header = g; head = f; records = length q.log; synced = false; begins = []; clean = None }) else Nowhere)
    by_test false e = tt
    by_test true e =
        let full : k ≡ regions q.core.system.sizes = eqb-true k n e ∙ sym count in record {
          begun = stay.begun ∙ is.0;
          copies = subst (λ (z : Sizes). AreCopied r h (length q.log) (regions z)) (sym stay.sizes) (all_copied_on q r h (length q.log) (length q.log) (regions q.core.system.sizes) stay (omega arith) (subst (AreCopied q h (length q.log)) full is.1));
          head = ap r.heads (same_target q r stay.current) ∙ (ap (λ (z : Point). z.heads (target q)) s.1 ∙ head_there (target q) q.heads f);
          within = stay.longer;
          synced = λ x. absurd (cc);
          passes = λ b x. absurd (cc);
          clean = λ b end x. absurd (cc);
        }

none_kept : (b : Option Head) (checking : Bool) → (is_some b ≡ true → checking ≡ true) → checking ≡ false → b ≡ None
none_kept None checking tells clear = refl
none_kept (Some h) checking tells clear = absurd (not_both_ways (tells refl) clear)

stage_step : (n : ℕ) (q r : Point) (x : StoreStep) (st : Stage) → q.core.system.records ≡ length q.log → regions q.core.system.sizes ≡ n → FlagTells q → IsPointStep q x r → IsStage q st
    → IsStage r (stage_after n q.log q.core st x)
stage_step n q r (Does x) st counts count flag s is = core_step_goes n q r x st counts s is
stage_step n q r Starts st counts count flag s is = started st
  where
    none : r.begun ≡ None
    none = ap (λ (z : Point). z.begun) s.1 ∙ none_kept q.begun q.core.system.checking flag s.0

    started : (st : Stage) → IsStage r (stage_after n q.log q.core st Starts)
    started Nowhere = none
    started Started = none
    started (HasKept h) = none
    started (Copying h g k) = none
    started (Settled h i) = none
stage_step n q r Keeps st counts count flag s is = kept st
  where
    kept : (st : Stage) → IsStage r (stage_after n q.log q.core st Keeps)
    kept Nowhere = ap (λ (z : Point). z.begun) s.4
    kept Started = ap (λ (z : Point). z.begun) s.4
    kept (HasKept h) = ap (λ (z : Point). z.begun) s.4
    kept (Copying h g k) = ap (λ (z : Point). z.begun) s.4
    kept (Settled h i) = ap (λ (z : Point). z.begun) s.4
stage_step n q r (WritesHead f) Nowhere counts count flag s is = tt
stage_step n q r (WritesHead f) Started counts count flag s is = tt
stage_step n q r (WritesHead f) (HasKept h) counts count flag s is = (ap (λ (z : Point). z.begun) s.1 ∙ is, λ j l. absurd (omega (arith, l)))
stage_step n q r (WritesHead f) (Copying h g k) counts count flag s is = whole_image n q r h g f k count s is
stage_step n q r (WritesHead f) (Settled h i) counts count flag s is = tt
stage_step n q r (Copies j m) Nowhere counts count flag s is = tt
stage_step n q r (Copies j m) Started counts count flag s is = tt
stage_step n q r (Copies j m) (HasKept h) counts count flag s is = tt
stage_step n q r (Copies j m) (Copying h g k) counts count flag s is =
    one_more n q r h g k j m (ap (λ (z : Point). z.begun) s.5) (ap (λ (z : Point). target z) s.5) (ap (λ (z : Point). z.log) s.5) (ap (λ (z : Point). z.copies) s.5) is
stage_step n q r (Copies j m) (Settled h i) counts count flag s is = tt
stage_step n q r (Skips j m) Nowhere counts count flag s is = tt
stage_step n q r (Skips j m) Started counts count flag s is = tt
stage_step n q r (Skips j m) (HasKept h) counts count flag s is = tt
stage_step n q r (Skips j m) (Copying h g k) counts count flag s is =
    one_more n q r h g k j m (ap (λ (z : Point). z.begun) s.5) (ap (λ (z : Point). target z) s.5) (ap (λ (z : Point). z.log) s.5) (ap (λ (z : Point). z.copies) s.5) is
stage_step n q r (Skips j m) (Settled h i) counts count flag s is = tt
stage_step n q r Syncs Nowhere counts count flag s is = tt
stage_step n q r Syncs Started counts count flag s is = tt
stage_step n q r Syncs (HasKept h) counts count flag s is = tt
stage_step n q r Syncs (Copying h g k) counts count flag s is = tt
stage_step n q r Syncs (Settled h i) counts count flag s is =
    let stay : Stays q r = same_points q r (ap (λ (z : Point). z.begun) s.1) (ap (λ (z : Point). z.core.system.sizes) s.1) (ap (λ (z : Point). z.core.vault.current) s.1) (ap (λ (z : Point). z.told) s.1) (ap (λ (z : Point). z.copies) s.1) (ap (λ (z : Point). z.log) s.1) in
    image_over q r h i true stay (ap (λ (z : Point). z.heads) s.1) (ap (λ (z : Point). z.audits) s.1) (λ e. ap (λ (z : Point). z.synced (target z)) s.1 ∙ synced_there (target q) q.synced) is
stage_step n q r Turns st counts count flag s is = nowhere st
  where
    nowhere : (st : Stage) → IsStage r (stage_after n q.log q.core st Turns)
    nowhere Nowhere = tt
    nowhere Started = tt
    nowhere (HasKept h) = tt
    nowhere (Copying h g k) = tt
    nowhere (Settled h i) = tt
stage_step n q r (CopyFails j ws m) st counts count flag s is = nowhere st
  where
    nowhere : (st : Stage) → IsStage r (stage_after n q.log q.core st (CopyFails j ws m))
    nowhere Nowhere = tt
    nowhere Started = tt
    nowhere (HasKept h) = tt
    nowhere (Copying h g k) = tt
    nowhere (Settled h i) = tt
stage_step n q r (HeadFails f m) st counts count flag s is = nowhere st
  where
    nowhere : (st : Stage) → IsStage r (stage_after n q.log q.core st (HeadFails f m))
    nowhere Nowhere = tt
    nowhere Started = tt
    nowhere (HasKept h) = tt
    nowhere (Copying h g k) = tt
    nowhere (Settled h i) = tt
stage_step n q r (SyncFails m) st counts count flag s is = nowhere st
  where
    nowhere : (st : Stage) → IsStage r (stage_after n q.log q.core st (SyncFails m))
    nowhere Nowhere = tt
    nowhere Started = tt
    nowhere (HasKept h) = tt
    nowhere (Copying h g k) = tt
    nowhere (Settled h i) = tt
stage_step n q r (TurnFails m) st counts count flag s is = nowhere st
  where
    nowhere : (st : Stage) → IsStage r (stage_after n q.log q.core st (TurnFails m))
    nowhere Nowhere = tt
    nowhere Started = tt
    nowhere (HasKept h) = tt
    nowhere (Copying h g k) = tt
    nowhere (Settled h i) = tt
stage_step n q r Finishes st counts count flag s is = nowhere st
  where
    nowhere : (st : Stage) → IsStage r (stage_after n q.log q.core st Finishes)
    nowhere Nowhere = tt
    nowhere Started = tt
    nowhere (HasKept h) = tt
    nowhere (Copying h g k) = tt
    nowhere (Settled h i) = tt

-- ---- an entry
flags_on : (q r : Point) (xs : List StoreStep) → IsPointCourse q xs r → FlagTells q → FlagTells r
flags_on q r [] course flag = subst FlagTells course flag
flags_on q r (x ∷ xs) course flag = flags_on course.0 r xs course.2 (flag_stays q course.0 x flag course.1)

pub line_stands : (n : ℕ) (q r : Point) (xs : List StoreStep) (st : Stage) → q.core.system.records ≡ length q.log → regions q.core.system.sizes ≡ n → FlagTells q → IsPointCourse q xs r → IsStage q st
    → IsStage r (stage_line n q.log q.core st xs)
line_stands n q r [] st counts count flag course is = subst (λ z. IsStage z st) course is
line_stands n q r (x ∷ []) st counts count flag course is = subst (λ z. IsStage z (stage_after n q.log q.core st x)) course.2 (stage_step n q course.0 x st counts count flag course.1 is)
line_stands n q r (x ∷ y ∷ ys) st counts count flag course is = by_test (are_core_steps (x ∷ y ∷ ys)) refl
  where
    by_test : (t : Bool) → are_core_steps (x ∷ y ∷ ys) ≡ t → IsStage r (if t then st else Nowhere)
    by_test true e = core_course_stays q r (x ∷ y ∷ ys) st e course is
    by_test false e = tt

module _ (bases : Bases) (p : Point) (o : Outset) where
  counted : (T : History) (q : Point) → Stands bases p o T q → q.core.system.records ≡ length q.log
  counted T q at = (has_counts bases q.log q.core (subst (λ (L : List Record). RunsOn bases L q.core) (sym at.run.run.log) at.run.run.run.runs)).records

  pub sizes_are : (T : History) (q : Point) → Stands bases p o T q → q.core.system.sizes ≡ o.old.system.sizes
  sizes_are T q at = ap (λ (c : CoreState). c.system.sizes) (sym at.tells.core) ∙ at.tells.grew.sizes

  pub sized : (T : History) (q : Point) → Stands bases p o T q → regions q.core.system.sizes ≡ count_of o
  sized T q at = ap regions (sizes_are T q at)

  stage_way : (S : History) (q : Point) (R : History) (r : Point) → Stands bases p o S q → FlagTells q → Way o S q R r → IsStage q (stage_by o S) → IsStage r (stage_by o (S ++ R))
  stage_way S q [] r at flag way is = subst (λ Z. IsStage r (stage_by o Z)) (sym (append-nil S)) (subst (λ z. IsStage z (stage_by o S)) way is)
  stage_way S q (e ∷ R) r at flag way is =
      let next : Stands bases p o (S ++ e ∷ []) way.0 = onward bases p o S e q way.0 at way.1 in
      let there : IsStage way.0 (stage_line (count_of o) q.log q.core (stage_by o S) e.1.2) = line_stands (count_of o) q way.0 e.1.2 (stage_by o S) (counted S q at) (sized S q at) flag way.1.course is in
      let told : IsStage way.0 (stage_line (count_of o) (log_by o (plain S)) (core_told o S) (stage_by o S) e.1.2) =
      subst (λ c. IsStage way.0 (stage_line (count_of o) (log_by o (plain S)) c (stage_by o S) e.1.2)) at.comes.core
      (subst (λ L. IsStage way.0 (stage_line (count_of o) L q.core (stage_by o S) e.1.2)) at.comes.log there) in
      subst (λ Z. IsStage r (stage_by o Z)) (append_assoc S (e ∷ []) R)
      (stage_way (S ++ e ∷ []) way.0 R r next (flags_on q way.0 e.1.2 way.1.course flag) way.2 (subst (IsStage way.0) (sym (stage_push o S e)) told))

pub stage_stands : StageStands
stage_stands bases p o T q begins at = stage_way bases p o [] p T q (start_stands bases p o begins) begins.keeps at.way tt

-- ---- what is kept
kept_at : (q : Point) (st : Stage) → has_begun st ≡ true → IsStage q st → is_some q.begun ≡ true
kept_at q Nowhere e is = absurd (cc)
kept_at q Started e is = absurd (cc)
kept_at q (HasKept h) e is = ap is_some is
kept_at q (Copying h g k) e is = ap is_some is.0
kept_at q (Settled h i) e is = ap is_some is.begun

pub stage_begins : StageBegins
stage_begins = record {
  none = λ bases p o T begins stage q at. subst (IsStage q) stage (stage_stands bases p o T q begins at);
  begun = λ bases p o T begins e q at. kept_at q (stage_by o T) e (stage_stands bases p o T q begins at);
}

-- ---- entries of others
behind_self : (st : Stage) → IsBehind st st
behind_self Nowhere = refl
behind_self Started = refl
behind_self (HasKept h) = refl
behind_self (Copying h g k) = refl
behind_self (Settled h i) = (i, refl, refl, refl, refl, refl)

behind_then : (a b c : Stage) → IsBehind a b → IsBehind b c → IsBehind a c
behind_then Nowhere b c x y = subst (λ z. IsBehind z c) x y
behind_then Started b c x y = subst (λ z. IsBehind z c) x y
behind_then (HasKept h) b c x y = subst (λ z. IsBehind z c) x y
behind_then (Copying h g k) b c x y = subst (λ z. IsBehind z c) x y
behind_then (Settled h i) b c x y =
    let z : IsBehind (Settled h x.0) c = subst (λ s. IsBehind s c) x.1 y in
    (z.0, z.1, z.2 ∙ x.2, z.3 ∙ x.3, z.4 ∙ x.4, z.5 ∙ x.5)

image_behind : (L : List Record) (c : CoreState) (h : Head) (i : Image) (x : Step) → IsBehind (Settled h i) (Settled h (image_after L c i x))
image_behind L c h i AuditBegins = (image_after L c i AuditBegins, refl, refl, refl, refl, refl)
image_behind L c h i (AuditEnds b []) = by_test (has i.begins b)
  where
    by_test : (t : Bool) → IsBehind (Settled h i) (Settled h (if t then record i { clean = Some (b, length L) } else i))
    by_test true = (record i { clean = Some (b, length L) }, refl, refl, refl, refl, refl)
    by_test false = (i, refl, refl, refl, refl, refl)
image_behind L c h i (AuditEnds b (a ∷ found)) = (i, refl, refl, refl, refl, refl)
image_behind L c h i x = (i, refl, refl, refl, refl, refl)

line_behind : (n : ℕ) (L : List Record) (c : CoreState) (st : Stage) (xs : List StoreStep) → are_core_steps xs ≡ true → IsBehind st (stage_line n L c st xs)
line_behind n L c st [] e = behind_self st
line_behind n L c Nowhere (Does x ∷ []) e = refl
line_behind n L c Started (Does x ∷ []) e = refl
line_behind n L c (HasKept h) (Does x ∷ []) e = refl
line_behind n L c (Copying h g k) (Does x ∷ []) e = refl
line_behind n L c (Settled h i) (Does x ∷ []) e = image_behind L c h i x
line_behind n L c st (Starts ∷ []) e = absurd (cc)
line_behind n L c st (Keeps ∷ []) e = absurd (cc)
line_behind n L c st (Copies k m ∷ []) e = absurd (cc)
line_behind n L c st (Skips k m ∷ []) e = absurd (cc)
line_behind n L c st (WritesHead h ∷ []) e = absurd (cc)
line_behind n L c st (Syncs ∷ []) e = absurd (cc)
line_behind n L c st (Turns ∷ []) e = absurd (cc)
line_behind n L c st (CopyFails k ws m ∷ []) e = absurd (cc)
line_behind n L c st (HeadFails h m ∷ []) e = absurd (cc)
line_behind n L c st (SyncFails m ∷ []) e = absurd (cc)
line_behind n L c st (TurnFails m ∷ []) e = absurd (cc)
line_behind n L c st (Finishes ∷ []) e = absurd (cc)
line_behind n L c st (x ∷ y ∷ ys) e = subst (λ b. IsBehind st (if b then st else Nowhere)) (sym e) (behind_self st)

pub stage_stays : StageStays
stage_stays o S [] all = subst (λ Z. IsBehind (stage_by o S) (stage_by o Z)) (sym (append-nil S)) (behind_self (stage_by o S))
stage_stays o S (e ∷ R) all =
    let one : IsBehind (stage_by o S) (stage_by o (S ++ e ∷ [])) =
    subst (IsBehind (stage_by o S)) (sym (stage_push o S e)) (line_behind (count_of o) (log_by o (plain S)) (core_told o S) (stage_by o S) e.1.2 (all zero e refl)) in
    let rest : IsBehind (stage_by o (S ++ e ∷ [])) (stage_by o ((S ++ e ∷ []) ++ R)) = stage_stays o (S ++ e ∷ []) R (λ i x at. all (suc i) x at) in
    subst (λ Z. IsBehind (stage_by o S) (stage_by o Z)) (append_assoc S (e ∷ []) R) (behind_then (stage_by o S) (stage_by o (S ++ e ∷ [])) (stage_by o ((S ++ e ∷ []) ++ R)) one rest)

-- ---- the anchor may move
pub stage_turns : StageTurns
stage_turns bases p o T q h i b end begins at stage head synced clean flushed = record {
  begun = is.begun;
  head = is.head ∙ head;
  synced = is.synced synced;
  clean = cert.clean;
  ends = cert.ends;
  flushed = subst (λ c. end < stable c) (sym at.comes.core) flushed;
  copies = λ r l.
      let a = is.copies r l in
      let j = cert.passed r l in
      let one : a.copy ≡ j.copy = some_same (sym a.there ∙ j.there) in
      (a.copy, a.there, record { since = a.since; until = omega (arith, a.until, cert.behind); passed = ap (λ (x : Copy). x.passed) one ∙ j.passed });
}
  where
    is : IsImage q h i
    is = subst (IsStage q) stage (stage_stands bases p o T q begins at)

    cert : IsCleanAt q i.records b end
    cert = is.clean b end clean
