-- The base of the last epoch, along any steps of a core; and the log, along a flush.
use Rattle.std.proofs.Common.{◌≡◌, ℕ, ◌<◌, List, [], ◌∷◌, ◌++◌, Some, refl, ap, sym, subst, ◌∙◌, ⊎_elim, arith, true}
use Rattle.std.specs.Prelude.{slice_get, fold}
use Rattle.dali_geometry.specs.Sizes.{Sizes}
use Rattle.dali_geometry.specs.Places.{formatted_image}
use Rattle.dali_record.specs.declared.records.Record.{Record}
use Rattle.dali_record.specs.declared.records.Record.TheVariants.{Format}
use Rattle.dali_record.specs.Epochs.{Epoch, Cut, cut}
use Rattle.dali_record.specs.Legal.{sizes_of}
use Rattle.dali_record.proofs.Pushes.{cut_push}
use Rattle.dali_history.specs.Recovered.{recover, AreHonest}
use Rattle.dali_runs.specs.Run.{Bases}
use Rattle.dali_runs.specs.Loads.{IsAtRest}
use Rattle.dali_runs.specs.Courses.{Takes, Flushes, Moment}
use Rattle.dali_runs.proofs.OneMore.{is_inside, step_inside}
use Rattle.dali_runs.proofs.Loads.{format_rests}
use Rattle.dali_runs.proofs.Courses.{Goes, step_goes}
use Rattle.dali_crash.specs.Checkpoints.{Point, Does, IsPointCourse}
use Rattle.dali_crash.specs.Restarts.{HasRightBase, CourseKeepsTheBase, FormatIsHistory}
use Rattle.dali_crash.proofs.Restarts.{some_sizes}

-- ---- the base
base_push : (bases : Bases) (s : Sizes) (L : List Record) (x : Record) → is_inside x ≡ true → HasRightBase bases s L → HasRightBase bases s (L ++ x ∷ [])
base_push bases s L x inside right = record {
  base = ap (λ (c : Cut). bases c.now.first) parts ∙ (right.base ∙ sym (ap (λ (c : Cut). fold (recover s) (formatted_image s) c.closed) parts));
  honest = subst (λ (c : Cut). AreHonest s (formatted_image s) c.closed) (sym parts) right.honest;
}
  where
    parts : cut (L ++ x ∷ []) ≡ record { closed = (cut L).closed; now = record { first = (cut L).now.first; records = (cut L).now.records ++ x ∷ [] } }
    parts = cut_push L x ∙ step_inside (cut L) x inside

pub base_goes : (bases : Bases) (m n : Moment) → Goes m n → HasRightBase bases m.core.system.sizes m.log → HasRightBase bases n.core.system.sizes n.log
base_goes bases m n goes right = subst (λ (s : Sizes). HasRightBase bases s n.log) (sym goes.sizes) (⊎_elim
    (λ same. subst (λ L. HasRightBase bases m.core.system.sizes L) (sym same) right)
    (λ more. subst (λ L. HasRightBase bases m.core.system.sizes L) (sym more.2) (base_push bases m.core.system.sizes m.log more.0 more.1 right))
    goes.log)

pub course_keeps_the_base : CourseKeepsTheBase
course_keeps_the_base bases m n [] right course = subst (λ (k : Moment). HasRightBase bases k.core.system.sizes k.log) course right
course_keeps_the_base bases m n (x ∷ xs) right course = course_keeps_the_base bases course.0 n xs (base_goes bases m course.0 (step_goes m course.0 x course.1) right) course.2

-- ---- where a core is made
pub format_is_history : FormatIsHistory
format_is_history s fits =
    let rest : IsAtRest s (Format s.index s.heap ∷ []) _ = format_rests s fits in
    let sizes : (0 < s.index) × (0 < s.heap) = some_sizes s fits in
    record {
      some_index = sizes.0;
      some_heap = sizes.1;
      spelled = rest.log.spelled;
      legal = rest.log.legal;
      locks = rest.log.locks;
      honest = (λ i a e. absurd (cc), tt);
    }

-- the first record of a history gives its sizes
pub format_of : (L : List Record) → 0 < (sizes_of L).index → slice_get L 0 ≡ Some (Format (sizes_of L).index (sizes_of L).heap)
format_of [] h = absurd (omega (arith, h))
format_of (Format i n ∷ L) h = refl
format_of _ h = absurd (omega (arith, h))

pub honest_before : (s : Sizes) (base : List (List ℕ)) (es : List Epoch) (e : Epoch) → AreHonest s base (es ++ e ∷ []) → AreHonest s base es
honest_before s base [] e h = tt
honest_before s base (d ∷ es) e h = (h.0, honest_before s (recover s base d) es e h.1)

-- ---- a flush logs nothing
pub flush_logs_none : (p q : Point) → IsPointCourse p (Does Takes ∷ Does Flushes ∷ []) q → q.log ≡ p.log
flush_logs_none p q c = ap (λ (x : Point). x.log) (sym c.2.2) ∙ (c.2.1.1.0.1.0 ∙ c.1.1.0.0)
