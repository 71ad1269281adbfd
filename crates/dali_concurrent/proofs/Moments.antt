-- What a crash at any moment of a round in threads leaves.
use Rattle.std.proofs.Common.{List, [], ◌∷◌, ◌++◌, refl, sym, subst}
use Rattle.std.proofs.lemmas.List.{append-nil}
use Rattle.dali_store.specs.declared.store.Store.{Ghosts}
use Rattle.dali_crash.specs.Checkpoints.{StoreStep, Point, IsPointCourse}
use Rattle.dali_crash.specs.Traces.{bases_of}
use Rattle.dali_core.proofs.StepsLemmas.Steps.{flush_is_right_in}
use Rattle.dali_core.proofs.Lengths.{same_length}
use Rattle.dali_core.proofs.Moments.{leaves_more}
use Rattle.dali_core.specs.Moments.{Within}
use Rattle.dali_checkpoint.proofs.Moments.{each_told, there as at_told}
use Rattle.dali_concurrent.specs.Moments.{LeavesBetween, VaultMoments, MomentsBegin, MomentsGoOn, MomentsMeet, CallAdds, FlushLeavesRight, HistoryLeavesRight}
use Rattle.dali_concurrent.proofs.Between.{go_to, map_left, between_both, ends_right, still_left}
use Rattle.dali_concurrent.specs.Rules.{Outset}
use Rattle.dali_concurrent.specs.Told.{History, steps_told}
use Rattle.dali_concurrent.specs.Landing.{Way}
use Rattle.dali_concurrent.proofs.Told.{course_join}
use Rattle.dali_concurrent.proofs.Landing.{front_stands}

-- the steps of a way
way_course : (o : Outset) (S : History) (q : Point) (R : History) (r : Point) → Way o S q R r → (xs : List StoreStep) × IsPointCourse q xs r
way_course o S q [] r way = ([], way)
way_course o S q (e ∷ R) r way =
    let rest = way_course o (S ++ e ∷ []) way.0 R r way.2 in
    (e.1.2 ++ rest.0, course_join q way.0 r e.1.2 rest.0 way.1.course rest.1)

module _ {V : Type 0} (means : Ghosts V) where
  pub moments_begin : MomentsBegin means
  moments_begin s B p o gs y v now stands = record {
    longer = same_length (means.told v.store) (means.told v.store) refl;
    each = λ q at. subst (λ r. Within means.told means.moment means.left_since v v (LeavesBetween s p r)) at.way (still_left means s B p gs y v now stands);
  }

  pub moments_go_on : MomentsGoOn means
  moments_go_on s p o S R v0 v begins held = record {
    longer = held.longer;
    each = λ q at.
        let front = front_stands (bases_of s) p o S R (S ++ R) q begins refl at in
        let behind = way_course o S front.0 R q front.2 in
        map_left means v0 v (LeavesBetween s p front.0) (LeavesBetween s p q) (go_to s p front.0 q behind.0 behind.1) (held.each front.0 front.1);
  }

  pub moments_meet : MomentsMeet means
  moments_meet s p o k seen new v0 v begins is held = subst (VaultMoments means s p o v0 v) (sym is.all) (moments_go_on s p o seen is.rest v0 v begins held)

  pub call_adds : CallAdds means
  call_adds s p o T v0 v w held longer leaves = record {
    longer = longer;
    each = λ q at. between_both means s p q q (steps_told T) [] v0 v w at.comes.course refl held.longer (held.each q at) (leaves q at);
  }

  pub flush_leaves_right : FlushLeavesRight means
  flush_leaves_right s B q v w f at frame runs within = each_told (means.told v.store) _ (λ e. leaves_more means.moment means.left_since v.store w.store _ (LeavesBetween s q q)
      (λ c left. let D = at_told (means.told v.store) _ e (flush_is_right_in means s B q v f at frame runs) c left in
      (D.0, D.1, record { between = q; before = []; comes = refl; behind = []; goes = refl; to = q; steps = []; course = refl; regions = refl; rest = []; log = append-nil q.log; right = D.2 }))
      (at_told (means.told v.store) _ e within))

  pub history_leaves_right : HistoryLeavesRight means
  history_leaves_right s B p o T gs y v0 u out held = ends_right means s B p out.to (steps_told T) gs y v0 u out.stands out.is.comes.course (held.each out.to out.is)
