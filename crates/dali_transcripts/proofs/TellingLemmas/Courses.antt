-- Lists of steps, refusals, and where a round begins.
use Rattle.std.proofs.Common.{◌≡◌, ℕ, Bool, true, false, List, [], ◌∷◌, ◌++◌, length, Option, Some, None, refl, ap, sym, subst, ◌∙◌, arith}
use Rattle.std.specs.Prelude.{IsSome, take}
use Rattle.std.proofs.lemmas.List.{append-nil, append_assoc, length-append, take_all}
use Rattle.std.proofs.lemmas.Option.{slice_get_within}
use Rattle.dali_record.specs.declared.records.Record.TheVariants.{AuditBegin}
use Rattle.dali_record.specs.Epochs.{last_epoch}
use Rattle.dali_runs.specs.declared.causes.Cause.{Cause}
use Rattle.dali_runs.specs.declared.causes.Cause.TheVariants.{Damage, Store}
use Rattle.dali_runs.specs.Run.{RunsOn, damage_in, failed_first}
use Rattle.dali_runs.specs.State.{CoreState}
use Rattle.dali_crash.specs.Checkpoints.{Point}
use Rattle.dali_crash.proofs.StoreRuns.{bare_store_course_keeps}
use Rattle.dali_transcripts.specs.World.{Deed, Meets, World, logged_by, log_at, cause_of, has_failed}
use Rattle.dali_transcripts.specs.Rounds.{by}
use Rattle.dali_transcripts.proofs.Grown.{grows_on}
use Rattle.dali_transcripts.proofs.Together.{together_at_first}
use Rattle.dali_transcripts.specs.Telling.Tells.{after, Tells, Goes}
use Rattle.dali_transcripts.specs.Telling.Laws.{MeetsTells, CourseTells, GoesOn, RoundTells, StopIsTold}
use Rattle.dali_transcripts.proofs.TellingLemmas.Steps.{step_tells, meets}

by_append : (c : ℕ) (ds es : List Deed) → by c (ds ++ es) ≡ by c ds ++ by c es
by_append c [] es = refl
by_append c (d ∷ ds) es = ap (λ l. (d, c) ∷ l) (by_append c ds es)

pub after_after : (w : World) (c : ℕ) (ds es : List Deed) (d e : CoreState) → after (after w c ds d) c es e ≡ after w c (ds ++ es) e
after_after w c ds es d e = ap (λ l. record w { happened = l; core = e }) (append_assoc w.happened (by c ds) (by c es) ∙ ap (λ l. w.happened ++ l) (sym (by_append c ds es)))

pub goes_on : GoesOn
goes_on u v w c p q r ds es f g =
    let h = grows_on.further u v w f.grows g.grows in
    record {
      is = g.is ∙ (ap (λ (k : World). after k c es r.core) f.is ∙ after_after u c ds es q.core r.core);
      grows = h.0;
      more = h.1 ∙ (ap (λ l. l ++ g.grows.more) f.more ∙ (ap (λ l. by c ds ++ l) g.more ∙ sym (by_append c ds es)));
      tells = g.tells;
    }

-- nothing was done
pub none_done : (w : World) (c : ℕ) (p : Point) → Tells w p → Goes w c p [] (after w c [] p.core) p
none_done w c p told =
    let same : w ≡ after w c [] p.core = ap (λ k. record w { core = k }) told.core ∙ ap (λ l. record w { happened = l; core = p.core }) (sym (append-nil w.happened)) in
    subst (λ (v : World). Goes w c p [] v p) same (record { is = same; grows = (grows_on.still w).0; more = (grows_on.still w).1; tells = told })

pub course_tells : CourseTells
course_tells bases before w c p q [] ds run told are =
    subst (λ es. Goes w c p es (after w c es q.core) q) (sym are.1) (subst (λ (k : Point). Goes w c p [] (after w c [] k.core) k) are.0 (none_done w c p told))
course_tells bases before w c p q (x ∷ xs) ds run told are =
    let mid : Point = are.0 in
    let one = step_tells bases before w c p mid x are.1 run told are.3 are.4 are.5 in
    let rest = course_tells bases before (after w c are.1 mid.core) c mid q xs are.2 (bare_store_course_keeps bases before p mid (x ∷ []) run (mid, are.3, refl)) one.tells are.6 in
    let all = goes_on w (after w c are.1 mid.core) (after (after w c are.1 mid.core) c are.2 q.core) c p mid q are.1 are.2 one rest in
    subst (λ es. Goes w c p es (after w c es q.core) q) (sym are.7)
    (subst (λ (v : World). Goes w c p (are.1 ++ are.2) v q) (after_after w c are.1 are.2 mid.core q.core) all)

pub meets_tells : MeetsTells
meets_tells w c p why told no_fault right =
    let same : record w { core = p.core } ≡ w = ap (λ k. record w { core = k }) (sym told.core) in
    subst (λ (v : World). Goes v c p (Meets why ∷ []) (after w c (Meets why ∷ []) p.core) p) same (meets w c p why (subst (λ (v : World). Tells v p) (sym same) told) no_fault right)

-- ---- where a round begins
pub round_tells : RoundTells
round_tells bases before p precheck run between =
    let w : World = record { old = p.core; before = p.log; precheck = precheck; happened = []; core = p.core } in
    record {
      core = refl;
      log = sym (append-nil p.log);
      grew = (grows_on.still w).0;
      together = together_at_first w refl refl;
      count = refl;
      flag = between.rests.flag;
      right = tt;
      passes = λ b i x since is at. absurd (omega (arith, since, slice_get_within (p.log ++ []) b AuditBegin is, length-append p.log []));
    }

-- ---- the stop
caused : (stop : Option Cause) (stopped : Bool) → (stop ≡ Some Store → stopped ≡ true) → (stopped ≡ true → IsSome stop) → cause_of (damage_in stop) stopped ≡ stop
caused None true store stops = let no : false ≡ true = stops refl in absurd (cc)
caused None false store stops = refl
caused (Some (Damage r)) stopped store stops = refl
caused (Some Store) true store stops = refl
caused (Some Store) false store stops = let no : false ≡ true = store refl in absurd (cc)

pub stop_is_told : StopIsTold
stop_is_told bases before w p run told stops =
    let took : take (length w.happened) w.happened ≡ w.happened = take_all (length w.happened) w.happened (omega arith) in
    let runs : RunsOn bases p.log p.core = subst (λ L. RunsOn bases L p.core) (sym run.run.log) run.run.run.runs in
    let log : log_at w (length w.happened) ≡ p.log = ap (λ l. w.before ++ logged_by l) took ∙ sym told.log in
    let damage : failed_first (last_epoch (log_at w (length w.happened))).records ≡ damage_in p.core.system.stop = ap (λ L. failed_first (last_epoch L).records) log ∙ sym runs.stop.damage in
    let failed : has_failed w.old.vault.stopped (take (length w.happened) w.happened) ≡ p.core.vault.stopped = ap (has_failed w.old.vault.stopped) took ∙ (sym told.together.faults.stopped ∙ ap (λ (k : CoreState). k.vault.stopped) told.core) in
    ap (λ o. cause_of o (has_failed w.old.vault.stopped (take (length w.happened) w.happened))) damage ∙ (ap (cause_of (damage_in p.core.system.stop)) failed ∙ caused p.core.system.stop p.core.vault.stopped runs.stop.store stops)
