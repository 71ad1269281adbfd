-- A restart of what a crash of a run leaves is right, however often it is stopped before.
use Rattle.std.proofs.Common.{◌≡◌, inl, inr, false, List, [], refl, ap, sym, subst, ◌∙◌}
use Rattle.std.specs.Prelude.{IsSome}
use Rattle.std.specs.List.{list_any}
use Rattle.dali_record.specs.declared.records.Record.{Record}
use Rattle.dali_record.specs.Damage.{deleted_list}
use Rattle.dali_record.specs.Epochs.{last_epoch}
use Rattle.dali_record.specs.Files.{Files}
use Rattle.dali_record.specs.Legal.{rules_state, sizes_of}
use Rattle.dali_history.specs.History.{HasExpected}
use Rattle.dali_history.specs.Recovered.{recovered}
use Rattle.dali_history.proofs.HeadlineLemmas.EpochByEpoch.{recovered_is_expected}
use Rattle.dali_history.proofs.HeadlineLemmas.RestartsAgain.{names_the_report}
use Rattle.dali_runs.specs.Courses.{RunsAt}
use Rattle.dali_runs.specs.Run.{Bases, log_in, only}
use Rattle.dali_runs.specs.State.{CoreState}
use Rattle.dali_crash.specs.Checkpoints.{Point, StoreStep, Traced, moment_of}
use Rattle.dali_crash.specs.StoreRuns.{CrashIsRightWith, LeavesRight}
use Rattle.dali_crash.specs.Traces.{Start, StartsAt, bases_of, start_point}
use Rattle.dali_crash.specs.Unpoked.{store_pokes}
use Rattle.dali_crash.proofs.Traces.{every_moment_is_right, every_trace_is_right, trace_runs, traced_course, unpoked_trace_is_right}
use Rattle.dali_crash.proofs.Unpoked.{NonePoked, none_escapes, none_loaded, store_course_unpoked}
use Rattle.dali_resume.specs.Again.{Outcome, closed_log}
use Rattle.dali_resume.specs.Interrupted.Found.{FindsIt, NoneMissed}
use Rattle.dali_resume.proofs.InterruptedLemmas.Found.{crash_is_found}
use Rattle.dali_resume.proofs.InterruptedLemmas.Places.{start_has_place}
use Rattle.dali_resume.proofs.InterruptedLemmas.Telling.{not_twice}
use Rattle.dali_restart.specs.Headline.{AnswersRight, CrashRestartsRight, EachRestart, IsRightAnswer, IsUndamaged, OnWayGoesOn, UnpokedRestartsRight}
use Rattle.dali_restart.specs.Restarting.{GoesOnFrom, told_by}

-- ---- restarts that are stopped
-- a restart logs nothing right behind another

goes_on : (L M N : List Record) → IsSome (rules_state (sizes_of N) N) → GoesOnFrom L M → GoesOnFrom M N → GoesOnFrom L N
goes_on L M N legal (inl a) (inl b) = inl (b ∙ a)
goes_on L M N legal (inl a) (inr b) = inr (b ∙ ap closed_log a)
goes_on L M N legal (inr a) (inl b) = inr (b ∙ a)
goes_on L M N legal (inr a) (inr b) =
    let twice : N ≡ closed_log (closed_log L) = b ∙ ap closed_log a in
    absurd (twice_closed L (subst (λ (K : List Record). IsSome (rules_state (sizes_of K) K)) twice legal))
  where
    twice_closed : (K : List Record) → IsSome (rules_state (sizes_of (closed_log (closed_log K))) (closed_log (closed_log K))) → ⊥
    twice_closed K h = not_twice (sizes_of (closed_log (closed_log K))) K _ _ _ _ h

pub on_way_goes_on : OnWayGoesOn
on_way_goes_on F G H one two = record {
  finds = two.finds;
  log = goes_on (log_in F) (log_in G) (log_in H) two.finds.lawful.legal.rules one.log two.log;
  told = two.told ∙ one.told;
  history = λ history. two.history (one.history history);
}

-- ---- one answer
right_answer : (before : List Record) (c : CoreState) (E : Files) (o : Outcome) → o ≡ told_by E → CrashIsRightWith before c E
    → IsRightAnswer before c E o
right_answer before c E o told right =
    let L = log_in E in
    record {
      restarts = right.restarts;
      records = subst (λ (u : Outcome). HasExpected L u.image) (sym told) (recovered_is_expected L right.restarts.history);
      rolled = ap (λ (u : Outcome). u.rolled) told;
      deleted = ap (λ (u : Outcome). u.deleted) told;
    }

-- what says the same as E is answered as E
each : (E : Files) (P : Outcome → Type 0) → FindsIt E → ((o : Outcome) → o ≡ told_by E → P o) → EachRestart E P
each E P finds one = record {
  first = λ fs o spells gives. one o (gives E spells finds).told;
  again = λ G way fs o spells gives. one o ((gives G spells way.finds).told ∙ way.told);
}

answers : (bases : Bases) (before : List Record) (c : CoreState) (E : Files) → LeavesRight bases before c E → FindsIt E
    → EachRestart E (AnswersRight before c E)
answers bases before c E leaves finds =
    each E (AnswersRight before c E) finds
    (λ o told. record { told = told; right = λ history none. right_answer before c E o told (leaves.right history none) })

pub crash_restarts_right : CrashRestartsRight
crash_restarts_right s D starts place xs p E traced none =
    let found = crash_is_found s D starts (start_has_place s D starts place) xs p E traced none in
    record {
      behind = answers (bases_of s) s.log p.core E (every_trace_is_right s D starts xs p E traced) found.0;
      inside =
          λ x q F step in_it. answers (bases_of s) s.log p.core F (every_moment_is_right s D starts xs p E traced x q F step in_it)
          (found.1 x q F step in_it);
    }

-- ---- without a stray write
none_missed : (s : Start) (D : Files) → StartsAt s D → (xs : List StoreStep) (p : Point) (E : Files) → list_any store_pokes xs ≡ false
    → Traced (start_point s) D xs p E → NoneMissed p.core
none_missed s D starts xs p E quiet traced =
    let there : RunsAt (bases_of s) s.log (only E) (moment_of p) = (trace_runs s D starts xs p E traced).run in
    let course = traced_course (start_point s) p D E xs traced in
    let none : NonePoked p.core.regions = store_course_unpoked (start_point s) p xs quiet course (none_loaded (recovered (sizes_of s.log) s.log)) in
    (none_escapes (bases_of s) s.log (only E) (moment_of p) E there refl none).seen

undamaged : (before : List Record) (c : CoreState) (E : Files) (o : Outcome) → o ≡ told_by E → CrashIsRightWith before c E
    → deleted_list (last_epoch (log_in E)) ≡ [] → IsUndamaged before c E o
undamaged before c E o told right nobody = record {
  right = right_answer before c E o told right;
  deleted = λ r X e.
      ap (λ (u : Outcome). u.deleted) told ∙ (ap deleted_list (names_the_report (log_in E) r X e) ∙ nobody);
}

pub unpoked_restarts_right : UnpokedRestartsRight
unpoked_restarts_right s D history starts place xs p E quiet traced =
    let right = unpoked_trace_is_right s D history starts xs p E quiet traced in
    let finds = (crash_is_found s D starts (start_has_place s D starts place) xs p E traced (none_missed s D starts xs p E quiet traced)).0 in
    each E (IsUndamaged s.log p.core E) finds (λ o told. undamaged s.log p.core E o told right.0 right.1)
