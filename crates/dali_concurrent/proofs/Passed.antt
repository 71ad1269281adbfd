-- The passes of an audit of the round are just those that its entries tell.
use Rattle.std.proofs.Common.{◌≡◌, ℕ, zero, suc, ◌+◌, ◌≤◌, Bool, true, false, List, [], ◌∷◌, ◌++◌, length, Option, Some, None, refl, ap, sym, subst, ◌∙◌, ◌⊎◌, inl, inr, arith, length-append}
use Rattle.std.specs.Prelude.{slice_get, take, map, ◌==◌, ◌&&◌, if◌then◌else◌}
use Rattle.std.specs.List.{list_all, list_any, cons_option}
use Rattle.std.specs.Option.{option_map_or}
use Rattle.std.proofs.lemmas.List.{append-nil, append_assoc, map-append}
use Rattle.std.proofs.lemmas.List.Elements.{filter_map-append}
use Rattle.std.proofs.lemmas.Option.{slice_get_within}
use Rattle.std.proofs.lemmas.Bool.{eqb-true, and_parts}
use Rattle.dali_lists.proofs.Lists.{get_within, get_behind}
use Rattle.dali_lists.proofs.Numbers.{eqb-self}
use Rattle.dali_lists.proofs.Tests.{not_both_ways}
use Rattle.dali_runs.proofs.CountsLemmas.Lists.{some_same}
use Rattle.dali_runs.proofs.CountsLemmas.Tallies.{tallies}
use Rattle.dali_record.specs.declared.records.Record.{Record}
use Rattle.dali_record.specs.declared.records.Record.TheVariants.{Begin, Forward, Done, Commit, Ended, Solo, AuditBegin, AuditFail, Back, Format, Restarted}
use Rattle.dali_region.specs.State.{RegionState}
use Rattle.dali_runs.specs.State.{CoreState, log_after}
use Rattle.dali_runs.specs.Run.{Bases, no_image}
use Rattle.dali_runs.specs.Steps.{audit_record}
use Rattle.dali_runs.specs.Passes.{Audits}
use Rattle.dali_runs.specs.Courses.{Step, Begins, Operates, TakesBack, Frees, Answers, Commits, Ends, AuditBegins, AuditEnds, Locks, Refuses, OnRegion, Passes, Dies, Claims, GivesBack, Recovers, Stops, Checkpoints, Takes, Flushes, Faults, ReadFails, IsStep, AuditsBy, pass_now}
use Rattle.dali_crash.specs.Checkpoints.{StoreStep, Does, Keeps, Copies, Skips, Turns, CopyFails, TurnFails, Point, IsPointStep, IsPointCourse}
use Rattle.dali_crash.specs.StoreRuns.{StoreRun}
use Rattle.dali_crash.proofs.StoreRuns.{bare_store_course_keeps}
use Rattle.dali_transcripts.specs.World.{logged_by, record_of, stray_after}
use Rattle.dali_concurrent.specs.Entries.{Entry, Passed, Entries, At, deed_in, deeds_of}
use Rattle.dali_concurrent.specs.Rules.{Outset, before, log_by, AllFit}
use Rattle.dali_concurrent.specs.Told.{Effect, Line, History, plain, plain_one, core_told}
use Rattle.dali_concurrent.specs.Landing.{BeginsAt, Landing, Way, Stands}
use Rattle.dali_concurrent.specs.Kept.{is_pass, Follows, AllFollow}
use Rattle.dali_concurrent.specs.Audits.{pass_told, passed_in, passes_by, PassesAreLines}
use Rattle.dali_concurrent.proofs.Lists.{take_length, get_sides, filter_map-none, each_front}
use Rattle.dali_concurrent.proofs.Told.{lengths}
use Rattle.dali_concurrent.proofs.Landing.{onward, start_stands}
use Rattle.dali_concurrent.proofs.Steps.{no_pass}
use Rattle.dali_concurrent.proofs.Kept.{fit_of}
use Rattle.dali_concurrent.proofs.Entries.{neither}

-- ---- what a step logs
abbrev is_start : Record → Bool
is_start AuditBegin = true
is_start x = false

abbrev starts_audit : Step → Bool
starts_audit AuditBegins = true
starts_audit x = false

-- a round logs no record of a load, and none of an audit that failed without naming a region
abbrev pub is_of_round : Record → Bool
is_of_round (Format i h) = false
is_of_round (Restarted rs ds) = false
is_of_round (AuditFail b []) = false
is_of_round x = true

abbrev AddsOther : List Record → List Record → Type 0
AddsOther L M = (M ≡ L) ⊎ ((R : Record) × (M ≡ L ++ R ∷ []) × (is_start R ≡ false) × (is_of_round R ≡ true))

adds_other : (L M : List Record) (c d : CoreState) (x : Step) → starts_audit x ≡ false → IsStep L c x M d → AddsOther L M
adds_other L M c d Begins e s = inr (Begin c.system.next, s.1.0, refl, refl)
adds_other L M c d (Operates t k) e s = inr (Forward t k, s.3.0, refl, refl)
adds_other L M c d (TakesBack t k) e s = inr (Back t k, s.2.0, refl, refl)
adds_other L M c d (Frees t k) e s = inr (Solo c.system.next t k, s.2.0, refl, refl)
adds_other L M c d (Answers t k a) e s = inr (Done t k a, s.3.0, refl, refl)
adds_other L M c d (Commits t) e s = inr (Commit t, s.2.0, refl, refl)
adds_other L M c d (Ends t) e s = inr (Ended t, s.2.0, refl, refl)
adds_other L M c d AuditBegins e s = absurd (cc)
adds_other L M c d (AuditEnds a found) e s = inr (audit_record a found, s.1.0, (by_found found).0, (by_found found).1)
  where
    by_found : (found : List ℕ) → (is_start (audit_record a found) ≡ false) × (is_of_round (audit_record a found) ≡ true)
    by_found [] = (refl, refl)
    by_found (r ∷ rs) = (refl, refl)
adds_other L M c d (Locks t k m) e s = inl s.2.0
adds_other L M c d (Refuses t k m h) e s = inl s.2.0
adds_other L M c d (OnRegion r x) e s = inl s.3.0
adds_other L M c d (Passes a r) e s = inl s.2.0
adds_other L M c d (Dies t o) e s = inl s.1.0
adds_other L M c d (Claims t) e s = inl s.2.0
adds_other L M c d (GivesBack t o) e s = inl s.1.0
adds_other L M c d (Recovers r) e s = inl s.3.0
adds_other L M c d Stops e s = inl s.1.0
adds_other L M c d (Checkpoints u) e s = inl s.1.0
adds_other L M c d Takes e s = inl s.0
adds_other L M c d Flushes e s = inl s.1.0
adds_other L M c d (Faults n) e s = inl s.2.0
adds_other L M c d (ReadFails n) e s = inl s.1.0

audits_same : (old new : Audits) (L : List Record) (c : CoreState) (x : Step) → starts_audit x ≡ false → is_pass (Does x) ≡ false → AuditsBy old new L c x → new ≡ old
audits_same old new L c AuditBegins e h s = absurd (cc)
audits_same old new L c (Passes a r) e h s = absurd (cc)
audits_same old new L c (AuditEnds a found) e h s = s.1
audits_same old new L c _ e h s = s

either : (x : Step) → (x ≡ AuditBegins) ⊎ (starts_audit x ≡ false)
either AuditBegins = inl refl
either _ = inr refl

last_one : (L : List Record) (R x : Record) (i : ℕ) → slice_get (L ++ R ∷ []) i ≡ Some x → (slice_get L i ≡ Some x) ⊎ ((R ≡ x) × (i ≡ length L))
last_one L R x i e = by_side (get_sides L (R ∷ []) i x e)
  where
    by_side : (slice_get L i ≡ Some x) ⊎ ((j : ℕ) × (slice_get (R ∷ []) j ≡ Some x) × (i ≡ length L + j)) → (slice_get L i ≡ Some x) ⊎ ((R ≡ x) × (i ≡ length L))
    by_side (inl h) = inl h
    by_side (inr (zero, h, k)) = inr (some_same h, omega (arith, k))
    by_side (inr (suc j, h, k)) = absurd (cc)

-- ---- along steps that pass nothing
module _ (bases : Bases) (made : List Record) (b : ℕ) (X : List (ℕ × Bool)) where
  -- where the audit from record b has begun, it has passed these
  abbrev Has : Point → Type 0
  Has p = slice_get p.log b ≡ Some AuditBegin → map pass_told (p.audits b) ≡ X

  as_it_was : (p q r : Point) → q ≡ r → r.audits ≡ p.audits → r.log ≡ p.log → Has p → Has q
  as_it_was p q r e audits log has at =
      ap (λ (z : Point). map pass_told (z.audits b)) e ∙ (ap (λ (A : Audits). map pass_told (A b)) audits
      ∙ has (ap (λ l. slice_get l b) (sym log) ∙ (ap (λ (z : Point). slice_get z.log b) (sym e) ∙ at)))

  counted : (p : Point) → StoreRun bases made no_image p → p.core.system.records ≡ length p.log
  counted p run =
      run.run.run.runs.counts.records
      ∙ ((tallies p.core.system.sizes (log_after made p.core.system) run.run.run.runs.counts.now run.run.run.runs.counts.rules).0 ∙ ap length (sym run.run.log))

  does : (p q : Point) (x : Step) → StoreRun bases made no_image p → IsPointStep p (Does x) q → is_pass (Does x) ≡ false → (length p.log ≤ b → X ≡ []) → Has p → Has q
  does p q x run step none empty has at = by_kind (either x)
    where
      plain_step : starts_audit x ≡ false → map pass_told (q.audits b) ≡ X
      plain_step e = ap (λ (A : Audits). map pass_told (A b)) (audits_same p.audits q.audits p.log p.core x e none step.1.1) ∙ by_log (adds_other p.log q.log p.core q.core x e step.1.0)
        where
          by_log : AddsOther p.log q.log → map pass_told (p.audits b) ≡ X
          by_log (inl same) = has (ap (λ l. slice_get l b) (sym same) ∙ at)
          by_log (inr (R, more, other, of)) = by_place (last_one p.log R AuditBegin b (ap (λ l. slice_get l b) (sym more) ∙ at))
            where
              by_place : (slice_get p.log b ≡ Some AuditBegin) ⊎ ((R ≡ AuditBegin) × (b ≡ length p.log)) → map pass_told (p.audits b) ≡ X
              by_place (inl h) = has h
              by_place (inr h) = absurd (not_both_ways (ap is_start h.0) other)

      begin_step : IsStep p.log p.core AuditBegins q.log q.core → AuditsBy p.audits q.audits p.log p.core AuditBegins → map pass_told (q.audits b) ≡ X
      begin_step s a = ap (λ (A : Audits). map pass_told (A b)) a ∙ by_test (b == p.core.system.records) refl
        where
          by_test : (t : Bool) → (b == p.core.system.records) ≡ t → map pass_told (if t then [] else p.audits b) ≡ X
          by_test true e = sym (empty (let f = eqb-true b p.core.system.records e in let g = counted p run in omega (arith, f, g)))
          by_test false e = by_place (last_one p.log AuditBegin AuditBegin b (ap (λ l. slice_get l b) (sym s.2.0) ∙ at))
            where
              by_place : (slice_get p.log b ≡ Some AuditBegin) ⊎ ((AuditBegin ≡ AuditBegin) × (b ≡ length p.log)) → map pass_told (p.audits b) ≡ X
              by_place (inl h) = has h
              by_place (inr h) = absurd (not_both_ways (subst (λ n. (b == n) ≡ true) (h.1 ∙ sym (counted p run)) (eqb-self b)) e)

      by_kind : (x ≡ AuditBegins) ⊎ (starts_audit x ≡ false) → map pass_told (q.audits b) ≡ X
      by_kind (inl e) = begin_step (subst (λ z. IsStep p.log p.core z q.log q.core) e step.1.0) (subst (λ z. AuditsBy p.audits q.audits p.log p.core z) e step.1.1)
      by_kind (inr e) = plain_step e

  step_has : (p q : Point) (x : StoreStep) → StoreRun bases made no_image p → IsPointStep p x q → is_pass x ≡ false → (length p.log ≤ b → X ≡ []) → Has p → Has q
  step_has p q (Does x) run step none empty has = does p q x run step none empty has
  step_has p q Keeps run step none empty has = as_it_was p q _ step.4 refl refl has
  step_has p q (Copies r n) run step none empty has = as_it_was p q _ step.5 refl refl has
  step_has p q (Skips r n) run step none empty has = as_it_was p q _ step.5 refl refl has
  step_has p q Turns run step none empty has = as_it_was p q _ step.5 refl refl has
  step_has p q (CopyFails r ws n) run step none empty has = as_it_was p q _ step.4 refl refl has
  step_has p q (TurnFails n) run step none empty has = as_it_was p q _ step.5 refl refl has
  step_has p q _ run step none empty has = as_it_was p q _ step.1 refl refl has

  longer : (p q : Point) (x : StoreStep) → IsPointStep p x q → length p.log ≤ length q.log
  longer p q (Does x) step = by_kind (either x)
    where
      by_log : AddsOther p.log q.log → length p.log ≤ length q.log
      by_log (inl same) = omega (arith, ap length same)
      by_log (inr (R, more, other, of)) = omega (arith, ap length more, length-append p.log (R ∷ []))

      by_kind : (x ≡ AuditBegins) ⊎ (starts_audit x ≡ false) → length p.log ≤ length q.log
      by_kind (inl e) =
          let s : IsStep p.log p.core AuditBegins q.log q.core = subst (λ z. IsStep p.log p.core z q.log q.core) e step.1.0 in
          omega (arith, ap length s.2.0, length-append p.log (AuditBegin ∷ []))
      by_kind (inr e) = by_log (adds_other p.log q.log p.core q.core x e step.1.0)
  longer p q Keeps step = omega (arith, ap (λ (z : Point). length z.log) step.4)
  longer p q (Copies r n) step = omega (arith, ap (λ (z : Point). length z.log) step.5)
  longer p q (Skips r n) step = omega (arith, ap (λ (z : Point). length z.log) step.5)
  longer p q Turns step = omega (arith, ap (λ (z : Point). length z.log) step.5)
  longer p q (CopyFails r ws n) step = omega (arith, ap (λ (z : Point). length z.log) step.4)
  longer p q (TurnFails n) step = omega (arith, ap (λ (z : Point). length z.log) step.5)
  longer p q _ step = omega (arith, ap (λ (z : Point). length z.log) step.1)

  course_has : (p q : Point) (xs : List StoreStep) → StoreRun bases made no_image p → IsPointCourse p xs q → list_any is_pass xs ≡ false → (length p.log ≤ b → X ≡ []) → Has p → Has q
  course_has p q [] run course none empty has = subst Has course has
  course_has p q (x ∷ xs) run course none empty has =
      let both = neither (is_pass x) (list_any is_pass xs) none in
      let more = longer p course.0 x course.1 in
      course_has course.0 q xs (bare_store_course_keeps bases made p course.0 (x ∷ []) run (course.0, course.1, refl)) course.2 both.1 (λ h. empty (omega (arith, h, more)))
      (step_has p course.0 x run course.1 both.0 empty has)

-- ---- what a course logs
step_logs : (p q : Point) (x : StoreStep) → IsPointStep p x q → (M : List Record) × (q.log ≡ p.log ++ M) × (list_all is_of_round M ≡ true)
step_logs p q (Does x) step = by_kind (either x)
  where
    by_log : AddsOther p.log q.log → (M : List Record) × (q.log ≡ p.log ++ M) × (list_all is_of_round M ≡ true)
    by_log (inl same) = ([], same ∙ sym (append-nil p.log), refl)
    by_log (inr (R, more, other, of)) = (R ∷ [], more, ap (λ b. b && true) of)

    by_kind : (x ≡ AuditBegins) ⊎ (starts_audit x ≡ false) → (M : List Record) × (q.log ≡ p.log ++ M) × (list_all is_of_round M ≡ true)
    by_kind (inl e) =
        let s : IsStep p.log p.core AuditBegins q.log q.core = subst (λ z. IsStep p.log p.core z q.log q.core) e step.1.0 in
        (AuditBegin ∷ [], s.2.0, refl)
    by_kind (inr e) = by_log (adds_other p.log q.log p.core q.core x e step.1.0)
step_logs p q Keeps step = ([], ap (λ (z : Point). z.log) step.4 ∙ sym (append-nil p.log), refl)
step_logs p q (Copies r n) step = ([], ap (λ (z : Point). z.log) step.5 ∙ sym (append-nil p.log), refl)
step_logs p q (Skips r n) step = ([], ap (λ (z : Point). z.log) step.5 ∙ sym (append-nil p.log), refl)
step_logs p q Turns step = ([], ap (λ (z : Point). z.log) step.5 ∙ sym (append-nil p.log), refl)
step_logs p q (CopyFails r ws n) step = ([], ap (λ (z : Point). z.log) step.4 ∙ sym (append-nil p.log), refl)
step_logs p q (TurnFails n) step = ([], ap (λ (z : Point). z.log) step.5 ∙ sym (append-nil p.log), refl)
step_logs p q _ step = ([], ap (λ (z : Point). z.log) step.1 ∙ sym (append-nil p.log), refl)

pub course_logs : (p q : Point) (xs : List StoreStep) → IsPointCourse p xs q → (M : List Record) × (q.log ≡ p.log ++ M) × (list_all is_of_round M ≡ true)
course_logs p q [] course = ([], ap (λ (z : Point). z.log) (sym course) ∙ sym (append-nil p.log), refl)
course_logs p q (x ∷ xs) course =
    let one = step_logs p course.0 x course.1 in
    let rest = course_logs course.0 q xs course.2 in
    (one.0 ++ rest.0, rest.1 ∙ (ap (λ l. l ++ rest.0) one.1 ∙ append_assoc p.log one.0 rest.0), all_both one.0 rest.0 one.2 rest.2)
  where
    all_both : (A B : List Record) → list_all is_of_round A ≡ true → list_all is_of_round B ≡ true → list_all is_of_round (A ++ B) ≡ true
    all_both [] B e f = f
    all_both (y ∷ A) B e f = let w = and_parts (is_of_round y) (list_all is_of_round A) e in ap (λ b. b && list_all is_of_round (A ++ B)) w.0 ∙ all_both A B w.1 f

-- ---- what the entries tell
split_there : {Y : Type 0} (xs : List Y) (i : ℕ) (x : Y) → slice_get xs i ≡ Some x → (B : List Y) × (xs ≡ take i xs ++ x ∷ B)
split_there [] i x e = absurd (cc)
split_there (z ∷ xs) zero x e = (xs, ap (λ y. y ∷ xs) (some_same e))
split_there (z ∷ xs) (suc i) x e = let w = split_there xs i x e in (w.0, ap (λ l. z ∷ l) w.1)

-- the log in front of an entry, and behind it
pub log_split : (o : Outset) (P : Entries) (i : ℕ) (e : List ℕ × Entry) → At P i e → (M : List Record) × (log_by o P ≡ log_by o (take i P) ++ (logged_by (deeds_of (e ∷ [])) ++ M))
log_split o P i e at =
    let s = split_there P i e at in (
      logged_by (deeds_of s.0),
      ap (λ Q. before o ++ logged_by (deeds_of Q)) s.1
          ∙ (ap (λ l. before o ++ logged_by l) (filter_map-append deed_in (take i P) (e ∷ s.0))
          ∙ (ap (λ l. before o ++ l) (filter_map-append record_of (deeds_of (take i P)) (deeds_of (e ∷ s.0)))
          ∙ (sym (append_assoc (before o) (logged_by (deeds_of (take i P))) (logged_by (deeds_of (e ∷ s.0))))
          ∙ ap (λ l. log_by o (take i P) ++ l) (ap logged_by (filter_map-append deed_in (e ∷ []) s.0) ∙ filter_map-append record_of (deeds_of (e ∷ [])) (deeds_of s.0))))),
    )

-- none is told of an audit that hasn't begun
none_yet : (o : Outset) (P : Entries) (b : ℕ) → AllFit o P → length (log_by o P) ≤ b → passes_by b P ≡ []
none_yet o P b good long = filter_map-none (passed_in b) P each
  where
    each : (i : ℕ) (e : List ℕ × Entry) → At P i e → passed_in b e ≡ None
    each i (k, Passed r a right) at = by_test (b == a) refl
      where
        by_test : (t : Bool) → (b == a) ≡ t → if◌then◌else◌ {A = Option (ℕ × Bool)} t (Some (r, right)) None ≡ None
        by_test false e = refl
        by_test true e =
            let same = eqb-true b a e in
            let w = log_split o P i (k, Passed r a right) at in
            let l = length-append (log_by o (take i P)) (logged_by (deeds_of ((k, Passed r a right) ∷ [])) ++ w.0) in
            let low = slice_get_within (log_by o (take i P)) a AuditBegin (good i (k, Passed r a right) at).fits.begun in
            absurd (omega (arith, low, ap length w.1, l, long, same))
    each i (k, e) at = refl

-- ---- along the history
module _ (bases : Bases) (p : Point) (o : Outset) (begins : BeginsAt bases p o) (b : ℕ) where
  abbrev Claim : History → Point → Type 0
  Claim S m = slice_get m.log b ≡ Some AuditBegin → map pass_told (m.audits b) ≡ passes_by b (plain S)

  with_one : (S : History) (e : Line) → passes_by b (plain (S ++ e ∷ [])) ≡ passes_by b (plain S) ++ passes_by b (plain_one e ∷ [])
  with_one S e = ap (passes_by b) (map-append plain_one S (e ∷ [])) ∙ filter_map-append (passed_in b) (plain S) (plain_one e ∷ [])

  quiet_line : (S : History) (e : Line) (m to : Point) → AllFit o (plain S) → Stands bases p o S m → Landing o S e m to → list_any is_pass e.1.2 ≡ false → passes_by b (plain_one e ∷ []) ≡ []
      → Claim S m → Claim (S ++ e ∷ []) to
  quiet_line S e m to good at land none told claim began =
      course_has bases o.made b (passes_by b (plain S)) m to e.1.2 at.run land.course none (λ h. none_yet o (plain S) b good (subst (λ l. length l ≤ b) at.comes.log h)) claim began
      ∙ sym (with_one S e ∙ (ap (λ l. passes_by b (plain S) ++ l) told ∙ append-nil (passes_by b (plain S))))

  -- the region's stray writes are those that the deeds tell
  pub stray_is : (S : History) (m : Point) (r : ℕ) (g old : RegionState) → Stands bases p o S m → slice_get m.core.regions r ≡ Some g → slice_get o.old.regions r ≡ Some old
      → g.stray ≡ stray_after r old.stray (deeds_of (plain S))
  stray_is S m r g old at there was = (at.tells.together.pokes r old g was (ap (λ (c : CoreState). slice_get c.regions r) (sym at.comes.core) ∙ there)).0

  pub was_there : (S : History) (r : ℕ) (g : RegionState) → slice_get (core_told o S).regions r ≡ Some g → (old : RegionState) × (slice_get o.old.regions r ≡ Some old)
  was_there S r g there = get_within o.old.regions r (let low = slice_get_within (core_told o S).regions r g there in let l = lengths o S in omega (arith, low, l))

  pass_line : (S : History) (k : List ℕ) (r a : ℕ) (right : Bool) (f : Effect) (xs : List StoreStep) (m to : Point) → Follows bases p o S (k, (Passed r a right, f, xs)) → Stands bases p o S m
      → Landing o S (k, (Passed r a right, f, xs)) m to → Claim S m → Claim (S ++ (k, (Passed r a right, f, xs)) ∷ []) to
  pass_line S k r a right f xs m to follows at land claim began =
      ap (λ (z : Point). map pass_told (z.audits b)) (sym course.2) ∙ (ap (λ (A : Audits). map pass_told (A b)) course.1.1.1.1 ∙ (by_test (b == a) refl ∙ sym (with_one S e)))
    where
      e : Line
      e = (k, (Passed r a right, f, xs))

      course : IsPointCourse m (Does (Passes a r) ∷ []) to
      course = subst (λ ys. IsPointCourse m ys to) follows.steps land.course

      g : RegionState
      g = course.1.1.0.0

      there : slice_get m.core.regions r ≡ Some g
      there = course.1.1.0.1

      here : slice_get m.log b ≡ Some AuditBegin
      here = ap (λ l. slice_get l b) (sym course.1.1.0.2.0) ∙ (ap (λ (z : Point). slice_get z.log b) course.2 ∙ began)

      right_is : right ≡ (g.stray == 0)
      right_is =
          let old = was_there S r g (ap (λ (c : CoreState). slice_get c.regions r) (sym at.comes.core) ∙ there) in
          follows.fits.fits.tells old.0 old.1 ∙ ap (λ n. n == 0) (sym (stray_is S m r g old.0 at there old.1))

      now : pass_now m.core r ≡ record { region = r; answer = g.stray } ∷ []
      now = ap (λ q. option_map_or (λ (h : RegionState). record { region = r; answer = h.stray } ∷ []) q []) there

      by_test : (t : Bool) → (b == a) ≡ t → map pass_told (if t then m.audits a ++ pass_now m.core r else m.audits b) ≡ passes_by b (plain S) ++ cons_option (if t then Some (r, right) else None) []
      by_test true is =
          map-append pass_told (m.audits a) (pass_now m.core r)
          ∙ (ap (λ n. map pass_told (m.audits n) ++ map pass_told (pass_now m.core r)) (sym (eqb-true b a is))
          ∙ (ap (λ l. l ++ map pass_told (pass_now m.core r)) (claim here)
          ∙ (ap (λ l. passes_by b (plain S) ++ map pass_told l) now ∙ ap (λ z. passes_by b (plain S) ++ (r, z) ∷ []) (sym right_is))))
      by_test false is = claim here ∙ sym (append-nil (passes_by b (plain S)))

  one_line : (S : History) (e : Line) (m to : Point) → AllFit o (plain S) → Follows bases p o S e → Stands bases p o S m → Landing o S e m to → Claim S m → Claim (S ++ e ∷ []) to
  one_line S (k, (Passed r a right, f, xs)) m to good follows at land claim = pass_line S k r a right f xs m to follows at land claim
  one_line S (k, (x, f, xs)) m to good follows at land claim = quiet_line S (k, (x, f, xs)) m to good at land (no_pass x xs refl follows.steps) refl claim

  lines : (R S : History) (m q : Point) → AllFollow bases p o (S ++ R) → Stands bases p o S m → Way o S m R q → Claim S m → Claim (S ++ R) q
  lines [] S m q all at way claim = subst (λ Z. Claim Z q) (sym (append-nil S)) (subst (Claim S) way claim)
  lines (e ∷ R) S m q all at way claim =
      let moved : S ++ e ∷ R ≡ (S ++ e ∷ []) ++ R = sym (append_assoc S (e ∷ []) R) in
      let follows : Follows bases p o S e = subst (λ Z. Follows bases p o Z e) (take_length S (e ∷ R)) (all (length S) e (get_behind S e R)) in
      let front : AllFollow bases p o S = each_front (Follows bases p o) S (e ∷ R) all in
      subst (λ Z. Claim Z q) (sym moved)
      (lines R (S ++ e ∷ []) way.0 q (subst (AllFollow bases p o) moved all) (onward bases p o S e m way.0 at way.1) way.2
      (one_line S e m way.0 (fit_of bases p o S front) follows at way.1 claim))

pub passes_are_lines : PassesAreLines
passes_are_lines bases p o T q b led at here =
    lines bases p o led.begins b T [] p q led.all (start_stands bases p o led.begins) at.way first (ap (λ l. slice_get l b) at.comes.log ∙ here.began)
  where
    first : Claim bases p o led.begins b [] p
    first began =
        let low = slice_get_within p.log b AuditBegin began in
        absurd (omega (arith, low, here.since, ap length led.begins.log))
