-- The steps of a core with its store keep the core whole, and the base of its last epoch right.
use Rattle.std.proofs.Common.{◌≡◌, ℕ, zero, suc, true, false, List, [], ◌∷◌, length, Some, refl, ap, sym, subst, ◌∙◌}
use Rattle.std.specs.Prelude.{slice_get, slice_set}
use Rattle.std.specs.FinMap.{get}
use Rattle.std.proofs.lemmas.List.{length-set}
use Rattle.dali_geometry.specs.Places.{regions}
use Rattle.dali_record.specs.declared.operations.Pending.{Pending}
use Rattle.dali_region.specs.declared.Side.{Side}
use Rattle.dali_region.specs.declared.Side.TheVariants.{A, B}
use Rattle.dali_region.specs.State.{RegionState}
use Rattle.dali_region.specs.Answers.{cleaned}
use Rattle.dali_att.specs.Table.{Table}
use Rattle.dali_runs.specs.State.{CoreState, row_of, state_in, hold_in, hold_of}
use Rattle.dali_runs.specs.Run.{RunsOn}
use Rattle.dali_runs.specs.Regions.{is_alive}
use Rattle.dali_runs.specs.Keeps.{with_region}
use Rattle.dali_runs.specs.Wholes.{latched_in, AreOfKind, IsWhole}
use Rattle.dali_runs.proofs.WholeSteps.{whole_keeps}
use Rattle.dali_crash.specs.Checkpoints.{Point, Does, Starts, Keeps, Copies, Skips, WritesHead, Syncs, Turns, CopyFails, HeadFails, SyncFails, TurnFails, Finishes, target, with_flag, with_current, with_fault}
use Rattle.dali_crash.proofs.StoreRuns.{store_step_none}
use Rattle.dali_crash.proofs.StoreStarts.{store_base}
use Rattle.dali_during.specs.Points.{PointWholeKeeps, PointWholeCourseKeeps, PointCourseKeepsTheBase}

-- ---- a step that leaves sizes, table and holds
same_whole : (c e : CoreState) → IsWhole c → e.system.sizes ≡ c.system.sizes → length e.regions ≡ length c.regions → e.system.table ≡ c.system.table → ((r : ℕ) → hold_of e r ≡ hold_of c r) → IsWhole e
same_whole c e w sizes as_many table holds = record {
  regions = as_many ∙ (w.regions ∙ ap regions (sym sizes));
  undos = λ t. subst (λ s. AreOfKind s (row_of e.system t)) (sym sizes) (subst (λ (T : Table Pending). AreOfKind c.system.sizes (get T t)) (sym table) (w.undos t));
  dead = λ r h held dead. ap (λ (T : Table Pending). latched_in (state_in (get T h.txn))) table ∙ w.dead r h (sym (holds r) ∙ held) dead;
  named = λ t r state. let n = w.named t r (sym (ap (λ (T : Table Pending). state_in (get T t)) table) ∙ state) in (n.0, holds r ∙ n.1, n.2, n.3);
  live = λ r h held alive. ap (λ (T : Table Pending). is_alive (state_in (get T h.txn))) table ∙ w.live r h (sym (holds r) ∙ held) alive;
}

-- a region with the same hold
same_holds : (gs : List RegionState) (r : ℕ) (g h : RegionState) → slice_get gs r ≡ Some g → h.hold ≡ g.hold → (q : ℕ) → hold_in (slice_get (slice_set gs r h) q) ≡ hold_in (slice_get gs q)
same_holds [] r g h e same q = absurd (cc)
same_holds (x ∷ gs) zero g h e same zero = same ∙ sym (ap hold_in e)
same_holds (x ∷ gs) zero g h e same (suc q) = refl
same_holds (x ∷ gs) (suc r) g h e same zero = refl
same_holds (x ∷ gs) (suc r) g h e same (suc q) = same_holds gs r g h e same q

pub cleaned_hold : (side : Side) (g : RegionState) → (cleaned side g).hold ≡ g.hold
cleaned_hold A g = refl
cleaned_hold B g = refl

-- ---- what the steps leave of the core
to_core : (c : CoreState) (q : Point) → q.core ≡ c → IsWhole c → IsWhole q.core
to_core c q is w = subst IsWhole (sym is) w

abbrev core_of : Point → CoreState
core_of z = z.core

faulted_whole : (c : CoreState) (n : ℕ) → IsWhole c → IsWhole (with_fault c n)
faulted_whole c n w = same_whole c (with_fault c n) w refl refl refl (λ r. refl)

pub point_whole_keeps : PointWholeKeeps
point_whole_keeps bases p q (Does x) run w s = whole_keeps bases p.log q.log p.core q.core x run w s.1.0
point_whole_keeps bases p q Starts run w s = to_core (with_flag p.core true) q (ap core_of s.1) (same_whole p.core (with_flag p.core true) w refl refl refl (λ r. refl))
point_whole_keeps bases p q Keeps run w s = to_core p.core q (ap core_of s.4) w
point_whole_keeps bases p q (Copies r n) run w s =
    to_core (with_region p.core r (cleaned (target p) s.0)) q (ap core_of s.5)
    (same_whole p.core (with_region p.core r (cleaned (target p) s.0)) w refl (length-set p.core.regions r (cleaned (target p) s.0)) refl
    (same_holds p.core.regions r s.0 (cleaned (target p) s.0) s.1 (cleaned_hold (target p) s.0)))
point_whole_keeps bases p q (Skips r n) run w s = to_core p.core q (ap core_of s.5) w
point_whole_keeps bases p q (WritesHead h) run w s = to_core p.core q (ap core_of s.1) w
point_whole_keeps bases p q Syncs run w s = to_core p.core q (ap core_of s.1) w
point_whole_keeps bases p q Turns run w s = to_core (with_current p.core) q (ap core_of s.5) (same_whole p.core (with_current p.core) w refl refl refl (λ r. refl))
point_whole_keeps bases p q (CopyFails r ws n) run w s = to_core (with_fault p.core n) q (ap core_of s.4) (faulted_whole p.core n w)
point_whole_keeps bases p q (HeadFails h n) run w s = to_core (with_fault p.core n) q (ap core_of s.1) (faulted_whole p.core n w)
point_whole_keeps bases p q (SyncFails n) run w s = to_core (with_fault p.core n) q (ap core_of s.1) (faulted_whole p.core n w)
point_whole_keeps bases p q (TurnFails n) run w s = to_core (with_fault p.core n) q (ap core_of s.5) (faulted_whole p.core n w)
point_whole_keeps bases p q Finishes run w s = to_core (with_flag p.core false) q (ap core_of s.1) (same_whole p.core (with_flag p.core false) w refl refl refl (λ r. refl))

pub point_whole_course_keeps : PointWholeCourseKeeps
point_whole_course_keeps bases before p q [] at w course = to_core p.core q (ap core_of (sym course)) w
point_whole_course_keeps bases before p q (x ∷ xs) at w course =
    point_whole_course_keeps bases before course.0 q xs (store_step_none bases before p course.0 x at course.1)
    (point_whole_keeps bases p course.0 x (subst (λ M. RunsOn bases M p.core) (sym at.log) at.run.runs) w course.1) course.2

pub point_course_keeps_the_base : PointCourseKeepsTheBase
point_course_keeps_the_base bases p q xs right course = store_base bases p q xs right course
