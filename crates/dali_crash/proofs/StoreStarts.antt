-- Where a core is made, and what steps leave of the base.
use Rattle.std.proofs.Common.{◌≡◌, ℕ, zero, suc, true, List, [], ◌∷◌, Some, refl, ap, sym, subst, inl}
use Rattle.std.specs.Prelude.{map, slice_get}
use Rattle.dali_record.specs.declared.records.Record.{Record}
use Rattle.dali_record.specs.Epochs.{last_epoch}
use Rattle.dali_record.specs.Legal.{sizes_of}
use Rattle.dali_region.specs.declared.Side.{Side}
use Rattle.dali_region.specs.declared.Side.TheVariants.{A, B}
use Rattle.dali_region.specs.State.{RegionState, loaded}
use Rattle.dali_region.specs.Answers.{is_dirty}
use Rattle.dali_history.specs.Recovered.{recover, base_of, recovered_now, recovered}
use Rattle.dali_history.specs.History.{IsHistory}
use Rattle.dali_history.proofs.HeadlineLemmas.EpochByEpoch.{base_holds}
use Rattle.dali_history.proofs.HeadlineLemmas.NothingToFree.{recover_nothing}
use Rattle.dali_runs.specs.Run.{Bases}
use Rattle.dali_runs.specs.Courses.{Moment}
use Rattle.dali_runs.proofs.Courses.{Goes, step_goes}
use Rattle.dali_crash.specs.Restarts.{HasRightBase}
use Rattle.dali_crash.specs.Checkpoints.{Point, StoreStep, Does, Keeps, Copies, Skips, Turns, CopyFails, TurnFails, IsPointStep, IsPointCourse, moment_of}
use Rattle.dali_crash.proofs.Courses.{base_goes}

-- ---- where a core is made
-- its regions stand in no image file yet
pub all_dirty : (image : List (List ℕ)) (r : ℕ) (g : RegionState) (side : Side) → slice_get (map loaded image) r ≡ Some g → is_dirty g side ≡ true
all_dirty [] r g side e = absurd (cc)
all_dirty (ws ∷ image) zero g A e = let same : loaded ws ≡ g = cc in ap (λ (z : RegionState). z.dirty_a) (sym same)
all_dirty (ws ∷ image) zero g B e = let same : loaded ws ≡ g = cc in ap (λ (z : RegionState). z.dirty_b) (sym same)
all_dirty (ws ∷ image) (suc r) g side e = all_dirty image r g side e

-- ---- the base, along steps
same_log : (m n : Moment) → n.core.system.sizes ≡ m.core.system.sizes → n.log ≡ m.log → Goes m n
same_log m n sizes log = record { sizes = sizes; log = inl log }

pub store_goes : (st new : Point) (x : StoreStep) → IsPointStep st x new → Goes (moment_of st) (moment_of new)
store_goes st new (Does x) s = step_goes (moment_of st) (moment_of new) x s.1
store_goes st new Keeps s = same_log (moment_of st) (moment_of new) (ap (λ (z : Point). z.core.system.sizes) s.4) (ap (λ (z : Point). z.log) s.4)
store_goes st new (Copies r n) s = same_log (moment_of st) (moment_of new) (ap (λ (z : Point). z.core.system.sizes) s.5) (ap (λ (z : Point). z.log) s.5)
store_goes st new (Skips r n) s = same_log (moment_of st) (moment_of new) (ap (λ (z : Point). z.core.system.sizes) s.5) (ap (λ (z : Point). z.log) s.5)
store_goes st new Turns s = same_log (moment_of st) (moment_of new) (ap (λ (z : Point). z.core.system.sizes) s.5) (ap (λ (z : Point). z.log) s.5)
store_goes st new (CopyFails r ws n) s = same_log (moment_of st) (moment_of new) (ap (λ (z : Point). z.core.system.sizes) s.4) (ap (λ (z : Point). z.log) s.4)
store_goes st new (TurnFails n) s = same_log (moment_of st) (moment_of new) (ap (λ (z : Point). z.core.system.sizes) s.5) (ap (λ (z : Point). z.log) s.5)
store_goes st new _ s = same_log (moment_of st) (moment_of new) (ap (λ (z : Point). z.core.system.sizes) s.1) (ap (λ (z : Point). z.log) s.1)

pub store_base : (bases : Bases) (st new : Point) (xs : List StoreStep) → HasRightBase bases st.core.system.sizes st.log → IsPointCourse st xs new → HasRightBase bases new.core.system.sizes new.log
store_base bases st new [] right course = subst (λ (k : Point). HasRightBase bases k.core.system.sizes k.log) course right
store_base bases st new (x ∷ xs) right course = store_base bases course.0 new xs (base_goes bases (moment_of st) (moment_of course.0) (store_goes st course.0 x course.1) right) course.2

-- ---- a restart
-- an epoch without records is recovered already
pub recovers : (K : List Record) → IsHistory K → recover (sizes_of K) (base_of (sizes_of K) K) (last_epoch K) ≡ recovered (sizes_of K) K
recovers K history = by_records (last_epoch K).records refl
  where
    by_records : (E : List Record) → (last_epoch K).records ≡ E → recover (sizes_of K) (base_of (sizes_of K) K) (last_epoch K) ≡ recovered_now (sizes_of K) (base_of (sizes_of K) K) (last_epoch K) E
    by_records [] e = let b = base_holds K history in recover_nothing (sizes_of K) (base_of (sizes_of K) K) (last_epoch K) b.2.image_is b.2.tidy e
    by_records (r ∷ E) e = refl
