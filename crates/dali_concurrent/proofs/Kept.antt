-- What is kept under a lock.
use Rattle.std.proofs.Common.{◌≡◌, ℕ, ◌+◌, length, Some, None, ap, sym, subst, ◌∙◌}
use Rattle.std.specs.Prelude.{slice_get, take}
use Rattle.std.proofs.lemmas.List.{take-map}
use Rattle.dali_runs.specs.Run.{Bases}
use Rattle.dali_runs.specs.State.{CoreState, hold_of}
use Rattle.dali_crash.specs.Checkpoints.{Point}
use Rattle.dali_notes.specs.History.{IsSeen}
use Rattle.dali_concurrent.specs.Entries.{region_note, live_by, live_step}
use Rattle.dali_concurrent.specs.Rules.{Outset, count_of, dead_in, dead_by, dead_step, Fits, AllFit}
use Rattle.dali_concurrent.specs.Told.{Line, History, plain, plain_one, core_told}
use Rattle.dali_concurrent.specs.Landing.{BeginsAt, AllLand, Stands}
use Rattle.dali_concurrent.specs.Kept.{txn_in, Follows, AllFollow, SystemMeets, RegionMeets}
use Rattle.dali_concurrent.proofs.Lists.{get_back_of}
use Rattle.dali_concurrent.proofs.Told.{at_plain, plain_seen, system_left, region_left, told_same}
use Rattle.dali_concurrent.proofs.Landing.{history_lands}
use Rattle.dali_concurrent.proofs.Entries.{Quiet, live_left, dead_left, folded_seen}
use Rattle.dali_concurrent.proofs.Fitting.{quiet_rest}

pub fit_of : (bases : Bases) (p : Point) (o : Outset) (T : History) → AllFollow bases p o T → AllFit o (plain T)
fit_of bases p o T all i e at =
    let w = at_plain T i e at in
    subst (λ f. Fits o (take i (plain T)) f) w.2 (subst (λ P. Fits o P (plain_one w.0)) (sym (take-map plain_one i T)) (all i w.0 w.1).fits)

pub land_of : (bases : Bases) (p : Point) (o : Outset) (T : History) → AllFollow bases p o T → AllLand bases p o T
land_of bases p o T all i e at = (all i e at).lands

pub stands_of : (bases : Bases) (p : Point) (o : Outset) (T : History) → BeginsAt bases p o → AllFollow bases p o T → (q : Point) × Stands bases p o T q
stands_of bases p o T begins all = history_lands bases p o T begins (land_of bases p o T all)

-- an entry behind what a note has seen
pub follows_behind : (bases : Bases) (p : Point) (o : Outset) (new : History) (k : ℕ) (seen : History) → (is : IsSeen new k seen) → AllFollow bases p o new
    → (i : ℕ) (e : Line) → slice_get is.rest i ≡ Some e → Follows bases p o (take (length seen + i) new) e
follows_behind bases p o new k seen is all i e at = all (length seen + i) e (ap (λ l. slice_get l (length seen + i)) is.all ∙ (get_back_of seen is.rest i ∙ at))

pub system_meets : SystemMeets
system_meets bases p o seen new y is all told =
    told ∙ (sym (told_same o (λ (c : CoreState). c.system) seen is.rest (λ i e d at. system_left e.0 e.1.1 d (follows_behind bases p o new 0 seen is all i e at).effect (is.none e (i, at))))
    ∙ ap (λ S. (core_told o S).system) (sym is.all))

pub region_meets : RegionMeets
region_meets bases p o r seen new g is all told = record {
  is = ap (λ S. slice_get (core_told o S).regions r) is.all
      ∙ (told_same o (λ (c : CoreState). slice_get c.regions r) seen is.rest (λ i e d at. region_left e.0 e.1.1 d r (follows_behind bases p o new (region_note r) seen is all i e at).effect (is.none e (i, at)))
      ∙ told.is);
  hold = record {
    live = told.hold.live ∙ ap txn_in (sym (ap (live_by r) plain_is.all ∙ folded_seen (count_of o) (region_note r) (plain seen) plain_is.rest quiet (live_step r) (live_left (count_of o) r) None));
    dead = told.hold.dead
        ∙ sym (ap (dead_by o r) plain_is.all ∙ folded_seen (count_of o) (region_note r) (plain seen) plain_is.rest quiet (dead_step r) (dead_left (count_of o) r) (dead_in (hold_of o.old r)));
  };
}
  where
    plain_is : IsSeen (plain new) (region_note r) (plain seen)
    plain_is = plain_seen new (region_note r) seen is

    quiet : Quiet (count_of o) (region_note r) plain_is.rest
    quiet = quiet_rest o (plain new) (region_note r) (plain seen) (fit_of bases p o new all) plain_is
