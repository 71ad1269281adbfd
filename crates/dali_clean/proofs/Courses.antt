-- Steps of a core, one behind another, and what a run says along them.
use Rattle.std.proofs.Common.{◌≡◌, ℕ, true, false, List, [], ◌∷◌, Option, Some, None, refl, sym, ap, subst, ◌∙◌, slice_get, slice_set}
use Rattle.std.specs.List.{AllByRecursion}
use Rattle.std.proofs.lemmas.List.{set-set}
use Rattle.dali_lists.proofs.Lists.{set_same, get_set}
use Rattle.dali_lists.proofs.Members.{all_weaker}
use Rattle.dali_geometry.specs.Sizes.{Sizes}
use Rattle.dali_record.specs.declared.operations.Pending.{Pending}
use Rattle.dali_record.specs.declared.records.Record.{Record}
use Rattle.dali_record.specs.Legal.{Working, TxnState, Unbegun, Active, Committed as Ending, Over, txn_state}
use Rattle.dali_region.specs.State.{RegionState}
use Rattle.dali_att.specs.declared.state.State.{State}
use Rattle.dali_att.specs.declared.state.State.TheVariants.{Committed}
use Rattle.dali_att.specs.Table.{undos_at}
use Rattle.dali_runs.specs.State.{TxnRow, SystemState, VaultState, state_of, state_in, lock_of}
use Rattle.dali_runs.specs.Run.{Bases, RunsOn, IsRow, covers, is_committed}
use Rattle.dali_runs.specs.Regions.{RegionStep, region_after, is_alive}
use Rattle.dali_runs.specs.Passes.{Audits}
use Rattle.dali_runs.specs.Courses.{Step, Moment, IsStepAt, IsCourse}
use Rattle.dali_runs.proofs.Courses.{bare_course_keeps}
use Rattle.dali_runs.proofs.WholeSteps.{whole_course_keeps}
use Rattle.dali_runs.specs.Facts.Plans.{AtWork}
use Rattle.dali_runs.specs.Facts.Undos.{MayBePerformed}
use Rattle.dali_runs.proofs.FactsLemmas.Undos.{undos_may_be_performed}
use Rattle.dali_calls.specs.Operating.{Goes}
use Rattle.dali_calls.proofs.Operating.{steps_on, alone_of}
use Rattle.dali_calls.proofs.Rows.{undos_in}
use Rattle.dali_clean.specs.Cleaned.{moment, InRun}

-- ---- lists of steps
pub one : (m n : Moment) (x : Step) → IsStepAt m x n → IsCourse m (x ∷ []) n
one m n x s = (n, s, refl)

pub in_run_on : (bases : Bases) (before : List Record) (m n : Moment) (xs : List Step) → InRun bases before m → IsCourse m xs n → InRun bases before n
in_run_on bases before m n xs is course = record {
  run = bare_course_keeps bases before m n xs is.run course;
  whole = whole_course_keeps bases before m n xs is.run is.whole course;
}

-- ---- on one region
pub on_region : (rs : List RegionState) (y : SystemState) (L : List Record) (v : VaultState) (a : Audits) (t r : ℕ) (g h : RegionState) (xs : List RegionStep) → is_alive (state_of y t) ≡ true → slice_get rs r ≡ Some g → Goes t g xs h
    → IsCourse (moment rs y L v a) (steps_on r xs) (moment (slice_set rs r h) y L v a)
on_region rs y L v a t r g h [] alive at go = ap (λ (gs : List RegionState). moment gs y L v a) (sym (set_same rs r h (at ∙ ap Some go)))
on_region rs y L v a t r g h (x ∷ xs) alive at go =
    let next = region_after x g in (
      moment (slice_set rs r next) y L v a,
      ((g, at, (go.0, alone_of y t x g alive go.1), (refl, refl)), refl),
      subst (λ (gs : List RegionState). IsCourse (moment (slice_set rs r next) y L v a) (steps_on r xs) (moment gs y L v a)) (set-set rs r next h)
          (on_region (slice_set rs r next) y L v a t r next h xs alive (get_set rs r g next at) go.2),
    )

-- ---- what a run says
pub runs_of : (bases : Bases) (before : List Record) (m : Moment) → InRun bases before m → RunsOn bases m.log m.core
runs_of bases before m is = subst (λ M. RunsOn bases M m.core) (sym is.run.log) is.run.run.runs

-- each undo's key is locked
pub locked_keys : (bases : Bases) (before : List Record) (m : Moment) (t : ℕ) → InRun bases before m → AllByRecursion (λ (u : Pending). covers (lock_of m.core.system t u.key) true ≡ true) (undos_at m.core.system.table t)
locked_keys bases before m t is =
    all_weaker (MayBePerformed m.core.system t) (λ (u : Pending). covers (lock_of m.core.system t u.key) true ≡ true) (undos_at m.core.system.table t) (λ u may. may.lock)
    (undos_may_be_performed bases m.log m.core (runs_of bases before m is) t)

-- a transaction that runs is at work, with the undos of its row
pub record HasWork (s : Sizes) (L : List Record) (t : ℕ) (row : Option TxnRow) : Type 0 where
  pub working : Working
  pub at_work : AtWork s L t working
  pub undos : undos_in row ≡ working.undos

pub work_of : (s : Sizes) (L : List Record) (t : ℕ) (row : Option TxnRow) (st : State) → IsRow (txn_state s t L) row → state_in row ≡ Some st → is_committed st ≡ false → HasWork s L t row
work_of s L t row st is state runs = by_state (txn_state s t L) refl is
  where
    none_there : row ≡ None → ⊥
    none_there e = never (sym (ap state_in e) ∙ state)
      where
        never : (let n : Option State = None in n ≡ Some st) → ⊥
        never f = cc

    by_state : (o : Option TxnState) → txn_state s t L ≡ o → IsRow o row → HasWork s L t row
    by_state None e r = absurd r
    by_state (Some Unbegun) e r = absurd (none_there r)
    by_state (Some (Active w)) e r = record { working = w; at_work = e; undos = ap undos_in r.2 }
    by_state (Some (Ending dead)) e r = absurd (clash (sym (ap state_in r) ∙ state))
      where
        clash : Some Committed ≡ Some st → ⊥
        clash f = let same : Committed ≡ st = cc in let is : is_committed st ≡ true = ap is_committed (sym same) in cc
    by_state (Some Over) e r = absurd (none_there r)
