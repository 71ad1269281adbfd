-- A history that is closed: the values are those that it tells, and stand behind a run.
use Rattle.std.proofs.Common.{◌≡◌, ℕ, ◌<◌, List, [], ◌∷◌, length, Some, ap, sym, subst, ◌∙◌, arith}
use Rattle.std.specs.Prelude.{slice_get}
use Rattle.dali_lists.proofs.Lists.{get_within}
use Rattle.dali_region.specs.State.{RegionState}
use Rattle.dali_runs.specs.State.{SystemState, CoreState}
use Rattle.dali_runs.specs.Run.{Bases}
use Rattle.dali_crash.specs.Checkpoints.{StoreStep, Point, IsPointCourse}
use Rattle.dali_crash.specs.StoreRuns.{FlagTells}
use Rattle.dali_crash.proofs.Flags.{flag_stays}
use Rattle.dali_during.proofs.Points.{point_whole_course_keeps}
use Rattle.dali_transcripts.specs.Rounds.{Standing}
use Rattle.dali_concurrent.specs.Entries.{system_note, region_note, client_note}
use Rattle.dali_concurrent.specs.Rules.{Outset, count_of, AllFit}
use Rattle.dali_concurrent.specs.Told.{History, plain, core_told, steps_told}
use Rattle.dali_concurrent.specs.Landing.{BeginsAt}
use Rattle.dali_concurrent.specs.Kept.{SystemTold, RegionTold}
use Rattle.dali_concurrent.specs.Clients.{ClientTold}
use Rattle.dali_concurrent.specs.Closed.{Closed, ValuesTold, RoundStands, ClientsTold}
use Rattle.dali_concurrent.proofs.Told.{same_by_places, lengths}
use Rattle.dali_concurrent.proofs.Kept.{fit_of, stands_of, system_meets, region_meets}
use Rattle.dali_concurrent.proofs.Clients.{client_meets}

-- the flag, along a course
flags : (p q : Point) (xs : List StoreStep) → FlagTells p → IsPointCourse p xs q → FlagTells q
flags p q [] tells course = subst FlagTells course tells
flags p q (x ∷ xs) tells course = flags course.0 q xs (flag_stays p course.0 x tells course.1) course.2

module _ (bases : Bases) (p : Point) (o : Outset) (T : History) (closed : Closed bases p o T) where
  pub fit : AllFit o (plain T)
  fit = fit_of bases p o T closed.all

  module _ (gs : List RegionState) (y : SystemState) (values : ValuesTold bases p o T closed gs y) where
    pub system_is : SystemTold o y T
    system_is =
        let low : system_note < closed.count = omega (arith, values.both) in
        system_meets bases p o (closed.seen system_note) T y (closed.is system_note low) closed.all values.system

    pub region_is : (r : ℕ) (g : RegionState) → r < length o.old.regions → slice_get gs r ≡ Some g → RegionTold o r g T
    region_is r g within at =
        let low : region_note r < closed.count = values.enough r within in
        region_meets bases p o r (closed.seen (region_note r)) T g (closed.is (region_note r) low) closed.all (values.regions r g at)

    pub regions_are : (core_told o T).regions ≡ gs
    regions_are = same_by_places (core_told o T).regions gs (lengths o T ∙ sym values.whole) (λ r below.
        let g = get_within gs r below in
        (region_is r g.0 (omega (arith, below, values.whole)) g.1).is ∙ sym g.1)

  pub client_is : (ss : List Standing) → ClientsTold bases p o T closed ss → BeginsAt bases p o → (i : ℕ) (s : Standing) → slice_get ss i ≡ Some s → ClientTold o s T
  client_is ss clients begins i s at =
      let k : ℕ = client_note (count_of o) s.client in
      let low : k < closed.count = clients.numbered i s at in
      client_meets bases p o s (closed.seen k) T begins (closed.is k low) closed.all (clients.each i s at)

pub round_stands : RoundStands
round_stands bases p o T closed gs y values begins =
    let at = stands_of bases p o T begins closed.all in
    record {
      to = at.0;
      stands = at.1;
      regions = ap (λ (c : CoreState). c.regions) at.1.comes.core ∙ regions_are bases p o T closed gs y values;
      system = ap (λ (c : CoreState). c.system) at.1.comes.core ∙ sym (system_is bases p o T closed gs y values);
      whole = point_whole_course_keeps bases o.made p at.0 (steps_told T) begins.run.run begins.whole at.1.comes.course;
      keeps = flags p at.0 (steps_told T) begins.keeps at.1.comes.course;
    }
