-- A clean-up leaves each region's stray writes as they are, and the engine running.
use Rattle.std.proofs.Common.{◌≡◌, ℕ, zero, suc, true, false, List, [], ◌∷◌, Some, None, map, refl, sym, ◌∙◌, ap, subst, inl, inr}
use Rattle.std.specs.Prelude.{slice_get, slice_set}
use Rattle.std.specs.List.{list_all}
use Rattle.dali_clean.specs.Steps.{is_own_change, is_own_step}
use Rattle.dali_clean.proofs.Steps.{own_steps}
use Rattle.dali_system.specs.Served.{Served}
use Rattle.dali_crash.specs.Checkpoints.{Does, IsPointCourse, Point, moment_of}
use Rattle.dali_crash.specs.Traces.{Start}
use Rattle.dali_fuse.specs.declared.fuse.Fuse.{Fuse}
use Rattle.dali_record.specs.declared.records.Record.{Record}
use Rattle.dali_region.specs.State.{RegionState, loaded, taken_back, touched}
use Rattle.dali_store.specs.declared.store.Store.{Ghosts}
use Rattle.dali_runs.specs.Courses.{Step, TakesBack, Ends, OnRegion, Claims, GivesBack, Recovers, Moment, IsStepAt}
use Rattle.dali_runs.specs.Regions.{RegionStep, Poke, Clean, region_after}
use Rattle.dali_runs.specs.State.{CoreState, SystemState}
use Rattle.dali_core.specs.declared.whole.Core.{Core}
use Rattle.std.proofs.lemmas.Bool.{eq-eqb, and_parts as both}
use Rattle.dali_lists.proofs.Lists.{EachFrom, each_same, each_set, each_then}
use Rattle.dali_run.specs.Steps.{dead_in, CleansAll, CleansUp, HasCleaned}
use Rattle.dali_run.proofs.Cleanings.{AllDead, At, idle_runs, moved_one}
use Rattle.dali_run.proofs.Standing.{IsStanding}

-- ---- regions with the same stray writes
abbrev pub SameMarks : RegionState → RegionState → Type 0
SameMarks g h = (h.stray ≡ g.stray) × (h.poked ≡ g.poked)

pub keep_same : (gs hs : List RegionState) → hs ≡ gs → EachFrom SameMarks gs hs
keep_same gs hs same = subst (λ (l : List RegionState). EachFrom SameMarks gs l) (sym same) (each_same SameMarks gs (λ g. (refl, refl)))

pub keep_then : (gs hs is : List RegionState) → EachFrom SameMarks gs hs → EachFrom SameMarks hs is → EachFrom SameMarks gs is
keep_then gs hs is = each_then SameMarks gs hs is (λ g h k one two. (two.0 ∙ one.0, two.1 ∙ one.1))

keep_set : (gs hs : List RegionState) (r : ℕ) (g k : RegionState) → hs ≡ slice_set gs r k → slice_get gs r ≡ Some g → SameMarks g k → EachFrom SameMarks gs hs
keep_set gs hs r g k is at same = subst (λ (l : List RegionState). EachFrom SameMarks gs l) (sym is) (each_set SameMarks gs r g k (λ h. (refl, refl)) at same)

pub none_loaded : (image : List (List ℕ)) (r : ℕ) (g : RegionState) → slice_get (map loaded image) r ≡ Some g → (g.stray ≡ 0) × (g.poked ≡ false)
none_loaded [] r g e = absurd (cc e)
none_loaded (ws ∷ image) zero g e = let same : loaded ws ≡ g = cc e in (ap (λ (x : RegionState). x.stray) (sym same), ap (λ (x : RegionState). x.poked) (sym same))
none_loaded (ws ∷ image) (suc r) g e = none_loaded image r g e

-- ---- steps of a clean-up
own_change : (t : ℕ) (x : RegionStep) (g : RegionState) → is_own_change t x ≡ true → SameMarks g (region_after x g)
own_change t (Poke word mask) g own = absurd (cc own)
own_change t (Clean side) g own = absurd (cc own)
own_change t _ g own = (refl, refl)

own_step : (t : ℕ) (m n : Moment) (x : Step) → is_own_step t x ≡ true → IsStepAt m x n → EachFrom SameMarks m.core.regions n.core.regions
own_step t m n (TakesBack u b) own s =
    keep_set m.core.regions n.core.regions b.region s.0.0 (touched s.0.0) (ap (λ (c : CoreState). c.regions) s.0.2.1) s.0.1.at (refl, refl)
own_step t m n (Ends u) own s = keep_same m.core.regions n.core.regions (ap (λ (c : CoreState). c.regions) s.0.2.1)
own_step t m n (Claims u) own s = keep_same m.core.regions n.core.regions (ap (λ (c : CoreState). c.regions) s.0.2.1)
own_step t m n (GivesBack u o) own s = keep_same m.core.regions n.core.regions (ap (λ (c : CoreState). c.regions) s.0.1.1)
own_step t m n (Recovers r) own s =
    keep_set m.core.regions n.core.regions r s.0.0 (taken_back s.0.0) (ap (λ (c : CoreState). c.regions) s.0.3.1) s.0.1 (refl, refl)
own_step t m n (OnRegion r x) own s =
    keep_set m.core.regions n.core.regions r s.0.0 (region_after x s.0.0) (ap (λ (c : CoreState). c.regions) s.0.3.1) s.0.1 (own_change t x s.0.0 own)
own_step t m n _ own s = absurd (cc own)

own_step_runs : (t : ℕ) (m n : Moment) (x : Step) → is_own_step t x ≡ true → IsStepAt m x n → n.core.system.stop ≡ m.core.system.stop
own_step_runs t m n (TakesBack u b) own s = ap (λ (c : CoreState). c.system.stop) s.0.2.1
own_step_runs t m n (Ends u) own s = ap (λ (c : CoreState). c.system.stop) s.0.2.1
own_step_runs t m n (Claims u) own s = ap (λ (c : CoreState). c.system.stop) s.0.2.1
own_step_runs t m n (GivesBack u o) own s = ap (λ (c : CoreState). c.system.stop) s.0.1.1
own_step_runs t m n (Recovers r) own s = ap (λ (c : CoreState). c.system.stop) s.0.3.1
own_step_runs t m n (OnRegion r x) own s = ap (λ (c : CoreState). c.system.stop) s.0.3.1
own_step_runs t m n _ own s = absurd (cc own)

own_course : (t : ℕ) (p q : Point) (xs : List Step) → list_all (is_own_step t) xs ≡ true → IsPointCourse p (map Does xs) q → EachFrom SameMarks p.core.regions q.core.regions
own_course t p q [] own same = keep_same p.core.regions q.core.regions (ap (λ (z : Point). z.core.regions) (sym same))
own_course t p q (x ∷ xs) own course =
    let parts = both (is_own_step t x) (list_all (is_own_step t) xs) own in
    keep_then p.core.regions course.0.core.regions q.core.regions (own_step t (moment_of p) (moment_of course.0) x parts.0 course.1.1)
    (own_course t course.0 q xs parts.1 course.2)

own_course_runs : (t : ℕ) (p q : Point) (xs : List Step) → list_all (is_own_step t) xs ≡ true → IsPointCourse p (map Does xs) q → q.core.system.stop ≡ p.core.system.stop
own_course_runs t p q [] own same = ap (λ (z : Point). z.core.system.stop) (sym same)
own_course_runs t p q (x ∷ xs) own course =
    let parts = both (is_own_step t x) (list_all (is_own_step t) xs) own in
    own_course_runs t course.0 q xs parts.1 course.2 ∙ own_step_runs t (moment_of p) (moment_of course.0) x parts.0 course.1.1

-- ---- clean-ups
-- each region has the stray writes that it had, and the engine runs on if it ran
pub record Stays {V : Type 0} (c d : Core (Fuse V)) : Type 0 where
  pub marks : EachFrom SameMarks c.regions.items d.regions.items
  pub stop : d.system.state.stop ≡ c.system.state.stop

stays_then : {V : Type 0} (c d e : Core (Fuse V)) → Stays c d → Stays d e → Stays c e
stays_then c d e one two = record { marks = keep_then c.regions.items d.regions.items e.regions.items one.marks two.marks; stop = two.stop ∙ one.stop }

module _ {V : Type 0} (g : Ghosts V) where
  stays_one : (s : Start) (B : List (List Record)) (p : Point) (t : ℕ) (c d : Core (Fuse V)) → CleansUp g t c d → At g s B p c.regions.items c.system.state c.vault
      → Stays c d
  stays_one s B p t c d (inl one) begins =
      let at = one.ends s B p begins.stands.at begins.stands.whole in
      let own = own_steps p.core.system t (Ends t) at.steps at.by (eq-eqb t t refl) in
      record {
        marks =
            subst (λ (hs : List RegionState). EachFrom SameMarks c.regions.items hs) at.at.regions
            (subst (λ (gs : List RegionState). EachFrom SameMarks gs at.to.core.regions) begins.stands.at.regions (own_course t p at.to at.steps own at.course));
        stop =
            ap (λ (y : SystemState). y.stop) (sym at.at.system)
            ∙ (own_course_runs t p at.to at.steps own at.course ∙ ap (λ (y : SystemState). y.stop) begins.stands.at.system);
      }
  stays_one s B p t c d (inr none) begins = record {
    marks = keep_same c.regions.items d.regions.items none.1.regions;
    stop = ap (λ (y : Served). y.state.stop) none.1.system;
  }

  stays_all : (ts : List ℕ) (s : Start) (B : List (List Record)) (p : Point) (c d : Core (Fuse V)) → CleansAll g ts c d
      → At g s B p c.regions.items c.system.state c.vault → AllDead c.system.state → c.vault.stopped ≡ false → Stays c d
  stays_all [] s B p c d same begins all runs = record {
    marks = keep_same c.regions.items d.regions.items (ap (λ (x : Core (Fuse V)). x.regions.items) same);
    stop = ap (λ (x : Core (Fuse V)). x.system.state.stop) same;
  }
  stays_all (t ∷ ts) s B p c d cleans begins all runs =
      let one = moved_one g s B p t c cleans.0 cleans.1 begins all runs in
      stays_then c cleans.0 d (stays_one s B p t c cleans.0 cleans.1 begins) (stays_all ts s B one.0.to cleans.0 d cleans.2 one.0.begins one.0.dead one.1)

  pub cleaned_stays : (c d : Core (Fuse V)) → HasCleaned g c d → c.system.state.stop ≡ None → IsStanding g c → Stays c d
  cleaned_stays c d cleaned up a =
      let idle = idle_runs g a.start a.batches a.point c a.begins up in
      stays_all (dead_in c.system.state) a.start a.batches a.point c d cleaned.each a.begins idle.0 idle.1
