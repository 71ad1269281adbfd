-- Entries that are landed steps of the core that the history tells.
use Rattle.std.proofs.Common.{◌≡◌, ℕ, zero, suc, ◌≤◌, true, List, [], ◌∷◌, ◌++◌, length, refl, ap, sym, subst, ◌∙◌, arith}
use Rattle.std.specs.Prelude.{IsSome, take}
use Rattle.std.proofs.lemmas.List.{append-nil, append_assoc, map-append}
use Rattle.std.proofs.lemmas.List.Elements.{filter_map-append}
use Rattle.std.proofs.lemmas.Grind.{flat_map-append}
use Rattle.dali_lists.proofs.Lists.{get_within}
use Rattle.dali_runs.specs.State.{CoreState}
use Rattle.dali_runs.specs.Run.{Bases, RunsOn}
use Rattle.dali_runs.specs.Wholes.{IsWhole}
use Rattle.dali_runs.specs.Courses.{IsStep, AuditsBy}
use Rattle.dali_crash.specs.Checkpoints.{StoreStep, Does, Point, IsPointStep, IsPointCourse, copies_after}
use Rattle.dali_crash.proofs.StoreRuns.{bare_store_course_keeps}
use Rattle.dali_transcripts.specs.World.{Deed, Meets, World, Grows}
use Rattle.dali_transcripts.specs.Grown.{world_of}
use Rattle.dali_transcripts.specs.Rounds.{by}
use Rattle.dali_transcripts.proofs.Grown.{grows_on}
use Rattle.dali_during.proofs.Points.{point_whole_course_keeps}
use Rattle.dali_transcripts.specs.Telling.Laws.{AreOfCourse}
use Rattle.dali_transcripts.specs.Telling.Tells.{after, AreRightThen, Tells, Goes}
use Rattle.dali_transcripts.proofs.TellingLemmas.Steps.{step_tells}
use Rattle.dali_transcripts.proofs.TellingLemmas.Courses.{course_tells, meets_tells, round_tells, stop_is_told, none_done}
use Rattle.dali_concurrent.specs.Entries.{Entry, Did, deed_in, deeds_of}
use Rattle.dali_concurrent.specs.Rules.{Outset, before, log_by}
use Rattle.dali_concurrent.specs.Told.{Leaves, effect_on, Line, History, plain, plain_one, core_told, world_told, steps_told, is_tie}
use Rattle.dali_concurrent.specs.Landing.{BeginsAt, said_in, who_in, Way, Stands, StopStands, Landing, Lands, AllLand, HistoryLands, CourseLands, StepLands, MeetsLands, TieLands, ToldIsWhole}
use Rattle.dali_concurrent.proofs.Lists.{take_all, take_more}
use Rattle.dali_concurrent.proofs.Told.{course_join, told_push}

one_said : (k : List ℕ) (e : Entry) → by (who_in e) (said_in e) ≡ deeds_of ((k, e) ∷ [])
one_said k (Did x c) = refl
one_said k e = refl

deeds_with : (T : History) (e : Line) → deeds_of (plain (T ++ e ∷ [])) ≡ deeds_of (plain T) ++ by (who_in e.1.0) (said_in e.1.0)
deeds_with T e =
    ap deeds_of (map-append plain_one T (e ∷ []))
    ∙ (filter_map-append deed_in (plain T) (plain_one e ∷ []) ∙ ap (λ l. deeds_of (plain T) ++ l) (sym (one_said e.0 e.1.0)))

world_with : (o : Outset) (T : History) (e : Line) (d : CoreState) → d ≡ core_told o (T ++ e ∷ [])
    → after (world_told o T) (who_in e.1.0) (said_in e.1.0) d ≡ world_told o (T ++ e ∷ [])
world_with o T e d is =
    ap (λ l. world_of o.old (before o) o.precheck l d) (sym (deeds_with T e)) ∙ ap (λ c. world_of o.old (before o) o.precheck (deeds_of (plain (T ++ e ∷ []))) c) is

pub stop_stands : StopStands
stop_stands bases p o T q at =
    stop_is_told bases o.made (world_told o T) q at.run at.tells at.halts ∙ ap (λ (c : CoreState). c.system.stop) at.comes.core

way_push : (o : Outset) (A : History) (q : Point) (R : History) (r : Point) (e : Line) (to : Point)
    → Way o A q R r → Landing o (A ++ R) e r to → Way o A q (R ++ e ∷ []) to
way_push o A q [] r e to way land = (to, subst (λ z. Landing o A e z to) (sym way) (subst (λ S. Landing o S e r to) (append-nil A) land), refl)
way_push o A q (x ∷ R) r e to way land =
    (way.0, way.1, way_push o (A ++ x ∷ []) way.0 R r e to way.2 (subst (λ S. Landing o S e r to) (sym (append_assoc A (x ∷ []) R)) land))

-- ---- by induction on the history
module _ (bases : Bases) (p : Point) (o : Outset) where
  pub onward : (T : History) (e : Line) (q to : Point) → Stands bases p o T q → Landing o T e q to → Stands bases p o (T ++ e ∷ []) to
  onward T e q to at l =
      let told : Tells (world_told o (T ++ e ∷ [])) to = subst (λ w. Tells w to) (world_with o T e to.core l.core) l.goes.tells in
      record {
        comes = record {
          course = subst (λ xs. IsPointCourse p xs to) (sym (flat_map-append (λ (z : Line). z.1.2) T (e ∷ []) ∙ ap (λ l. steps_told T ++ l) (append-nil e.1.2)))
              (course_join p q to (steps_told T) e.1.2 at.comes.course l.course);
          log = told.log;
          core = l.core;
        };
        way = way_push o [] p T q e to at.way l;
        run = bare_store_course_keeps bases o.made q to e.1.2 at.run l.course;
        tells = told;
        halts = l.halts;
      }

  further : (T : History) (e : Line) → Lands bases p o T e → (q : Point) × Stands bases p o T q → (q : Point) × Stands bases p o (T ++ e ∷ []) q
  further T e lands (q, at) = let l = lands q at in (l.0, onward T e q l.0 at l.1)

  upto : (T : History) → (q : Point) × Stands bases p o [] q → AllLand bases p o T → (n : ℕ) → n ≤ length T → (q : Point) × Stands bases p o (take n T) q
  upto T first all zero h = none T
    where
      none : (T : History) → (q : Point) × Stands bases p o (take zero T) q
      none [] = first
      none (e ∷ T) = first
  upto T first all (suc n) h =
      let w = get_within T n (omega (arith, h)) in
      subst (λ S. (q : Point) × Stands bases p o S q) (sym (take_more n T w.0 w.1)) (further (take n T) w.0 (all n w.0 w.1) (upto T first all n (omega (arith, h))))

pub start_stands : (bases : Bases) (p : Point) (o : Outset) → BeginsAt bases p o → Stands bases p o [] p
start_stands bases p o begins = record {
  comes = record { course = refl; log = begins.log ∙ sym (append-nil (before o)); core = begins.core };
  way = refl;
  run = begins.run;
  tells = subst (λ w. Tells w p)
      (ap (λ c. world_of c p.log o.precheck [] c) begins.core ∙ ap (λ l. world_of o.old l o.precheck [] o.old) begins.log)
      (round_tells bases o.made p o.precheck begins.run begins.between);
  halts = λ e. let s = begins.between.rests.stopped e in subst IsSome (sym s.1) refl;
}

pub history_lands : HistoryLands
history_lands bases p o T begins all =
    subst (λ S. (q : Point) × Stands bases p o S q) (take_all T) (upto bases p o T (p, start_stands bases p o begins) all (length T) (omega arith))

-- where it stands, it stands along a way
pub stands_on : (bases : Bases) (p : Point) (o : Outset) (S : History) (q : Point) (R : History) (r : Point) → Stands bases p o S q → Way o S q R r → Stands bases p o (S ++ R) r
stands_on bases p o S q [] r at way = subst (λ Z. Stands bases p o Z r) (sym (append-nil S)) (subst (Stands bases p o S) way at)
stands_on bases p o S q (e ∷ R) r at way =
    subst (λ Z. Stands bases p o Z r) (append_assoc S (e ∷ []) R)
    (stands_on bases p o (S ++ e ∷ []) way.0 R r (onward bases p o S e q way.0 at way.1) way.2)

-- ---- ways
pub way_split : (o : Outset) (S : History) (q : Point) (X R : History) (r : Point) → Way o S q (X ++ R) r → (mid : Point) × Way o S q X mid × Way o (S ++ X) mid R r
way_split o S q [] R r way = (q, refl, subst (λ Z. Way o Z q R r) (sym (append-nil S)) way)
way_split o S q (e ∷ X) R r way =
    let rest = way_split o (S ++ e ∷ []) way.0 X R r way.2 in
    (rest.0, (way.0, way.1, rest.1), subst (λ Z. Way o Z rest.0 R r) (append_assoc S (e ∷ []) X) rest.2)

-- where a note has seen a front of what has landed, it stood there
pub front_stands : (bases : Bases) (p : Point) (o : Outset) (S R T : History) (q : Point) → BeginsAt bases p o → T ≡ S ++ R → Stands bases p o T q
    → (mid : Point) × Stands bases p o S mid × Way o S mid R q
front_stands bases p o S R T q begins is at =
    let split = way_split o [] p S R q (subst (λ Z. Way o [] p Z q) is at.way) in
    (split.0, stands_on bases p o [] p S split.0 (start_stands bases p o begins) split.1, split.2)

-- along a way the world goes on
pub way_grows : (o : Outset) (S : History) (q : Point) (R : History) (r : Point) → Way o S q R r → Grows (world_told o S) (world_told o (S ++ R))
way_grows o S q [] r way = subst (λ Z. Grows (world_told o S) (world_told o Z)) (sym (append-nil S)) (grows_on.still (world_told o S)).0
way_grows o S q (e ∷ R) r way =
    let one : Grows (world_told o S) (world_told o (S ++ e ∷ [])) = subst (Grows (world_told o S)) (world_with o S e way.0.core way.1.core) way.1.goes.grows in
    let rest : Grows (world_told o (S ++ e ∷ [])) (world_told o ((S ++ e ∷ []) ++ R)) = way_grows o (S ++ e ∷ []) way.0 R r way.2 in
    subst (λ Z. Grows (world_told o S) (world_told o Z)) (append_assoc S (e ∷ []) R)
    (grows_on.further (world_told o S) (world_told o (S ++ e ∷ [])) (world_told o ((S ++ e ∷ []) ++ R)) one rest).0

pub told_is_whole : ToldIsWhole
told_is_whole bases p o T q begins at = (
  subst IsWhole at.comes.core (point_whole_course_keeps bases o.made p q (steps_told T) begins.run.run begins.whole at.comes.course),
  subst (λ c. RunsOn bases (log_by o (plain T)) c) at.comes.core (subst (λ L. RunsOn bases L q.core) (sym at.run.run.log ∙ at.comes.log) at.run.run.run.runs),
)

-- ---- a list of steps
course_is : (w : World) (c : ℕ) (p q : Point) (xs : List StoreStep) (ds : List Deed) → AreOfCourse w c p xs q ds → IsPointCourse p xs q
course_is w c p q [] ds are = are.0
course_is w c p q (x ∷ xs) ds are = (are.0, are.3, course_is (after w c are.1 are.0.core) c are.0 q xs are.2 are.6)

pub course_lands : CourseLands
course_lands bases p o T k e f xs given q at =
    let t = given q at in (
      t.0,
      record {
        course = course_is (world_told o T) (who_in e) q t.0 xs (said_in e) t.1;
        core = t.2 ∙ sym (told_push o T (k, (e, f, xs)));
        goes = course_tells bases o.made (world_told o T) (who_in e) q t.0 xs (said_in e) at.run at.tells t.1;
        halts = t.3;
      },
    )

-- ---- one step of the core
pub step_lands : StepLands
step_lands bases p o T k e f x given q at =
    let t = given q at in
    let to : Point = record q { log = t.log; core = effect_on (core_told o T) f; audits = t.audits; copies = copies_after q.core x q.copies } in
    let made : IsStep q.log q.core x t.log (effect_on (core_told o T) f) × AuditsBy q.audits t.audits q.log q.core x =
    subst (λ L. IsStep L q.core x t.log (effect_on (core_told o T) f) × AuditsBy q.audits t.audits L q.core x) (sym at.comes.log)
    (subst (λ c. IsStep (log_by o (plain T)) c x t.log (effect_on (core_told o T) f) × AuditsBy q.audits t.audits (log_by o (plain T)) c x) (sym at.comes.core) (t.step, t.passes)) in
    let step : IsPointStep q (Does x) to = (t.other, made, refl) in (
      to,
      record {
        course = (to, step, refl);
        core = sym (told_push o T (k, (e, f, Does x ∷ [])));
        goes = step_tells bases o.made (world_told o T) (who_in e) q to (Does x) (said_in e) at.run at.tells step t.are t.right;
        halts = t.halts;
      },
    )

-- ---- no step
pub meets_lands : MeetsLands
meets_lands bases p o T k why c none right q at = (
  q,
  record {
    course = refl;
    core = at.comes.core ∙ sym (told_push o T (k, (Did (Meets why) c, Leaves, [])));
    goes = meets_tells (world_told o T) c q why at.tells none (subst (λ d. AreRightThen (world_told o T) c (Meets why ∷ []) d) (sym at.comes.core) (right q at));
    halts = at.halts;
  },
)

pub tie_lands : TieLands
tie_lands bases p o T k e tie q at = (
  q,
  record {
    course = refl;
    core = at.comes.core ∙ sym (told_push o T (k, (e, Leaves, [])));
    goes = none e tie;
    halts = at.halts;
  },
)
  where
    none : (e : Entry) → is_tie e ≡ true → Goes (world_told o T) (who_in e) q (said_in e) (after (world_told o T) (who_in e) (said_in e) q.core) q
    none (Did x c) h = absurd (cc)
    none e h = none_done (world_told o T) 0 q at.tells
