-- A step that is none of a checkpoint clears no region's flag.
use Rattle.std.proofs.Common.{◌≡◌, ℕ, false, List, Some, None, refl, ap, sym, ◌∙◌, ⊎_elim}
use Rattle.std.specs.Prelude.{slice_get, slice_set}
use Rattle.std.proofs.lemmas.Bool.{or_parts}
use Rattle.dali_lists.proofs.Lists.{set_cases}
use Rattle.dali_region.specs.declared.Side.{Side}
use Rattle.dali_region.specs.declared.Side.TheVariants.{A, B}
use Rattle.dali_region.specs.State.{RegionState, touched, checked, wrote}
use Rattle.dali_region.specs.Answers.{is_dirty}
use Rattle.dali_runs.specs.State.{CoreState}
use Rattle.dali_runs.specs.Regions.{RegionStep, TakeBack, Check, Die, Clean, region_after}
use Rattle.dali_runs.specs.ImageSteps.{clears}
use Rattle.dali_runs.specs.Courses.{Step, Begins, Operates, TakesBack, Frees, Answers, AuditEnds, OnRegion, Passes, Dies, Claims, GivesBack, Recovers, Stops, Checkpoints, Takes, Flushes, Faults, ReadFails, Moment, IsStepAt}
use Rattle.dali_runs.proofs.Deaths.{region_with, dead_at}
use Rattle.dali_crash.specs.Checkpoints.{is_of_checkpoint}

-- the flag of each side was clear, where it is
abbrev WasClear : RegionState → RegionState → Type 0
WasClear g h = (side : Side) → is_dirty h side ≡ false → is_dirty g side ≡ false

abbrev pub Clears : List RegionState → ℕ → RegionState → Type 0
Clears old q h = (g : RegionState) × (slice_get old q ≡ Some g) × WasClear g h

left : (old new : List RegionState) (q : ℕ) (h : RegionState) → new ≡ old → slice_get new q ≡ Some h → Clears old q h
left old new q h same e = (h, ap (λ rs. slice_get rs q) (sym same) ∙ e, λ side c. c)

one : (old new : List RegionState) (r q : ℕ) (g k h : RegionState) → new ≡ slice_set old r k → slice_get old r ≡ Some g → WasClear g k → slice_get new q ≡ Some h → Clears old q h
one old new r q g k h is at clear e = ⊎_elim
    (λ w. (g, ap (slice_get old) w.0 ∙ at, λ side c. clear side (sym (ap (λ (z : RegionState). is_dirty z side) w.1) ∙ c)))
    (λ w. (h, w.1, λ side c. c))
    (set_cases old r k q h (ap (λ rs. slice_get rs q) (sym is) ∙ e))

after_touch : (g : RegionState) → WasClear g (touched g)
after_touch g A c = (or_parts g.dirty_a (wrote g) c).0
after_touch g B c = (or_parts g.dirty_b (wrote g) c).0

after : (x : RegionStep) (g : RegionState) → clears x ≡ false → WasClear g (region_after x g)
after (Clean t) g quiet side c = absurd (cc)
after _ g quiet A c = c
after _ g quiet B c = c

abbrev regions_of : CoreState → List RegionState
regions_of c = c.regions

pub flags_go : (m n : Moment) (x : Step) (q : ℕ) (h : RegionState) → IsStepAt m x n → is_of_checkpoint x ≡ false → slice_get n.core.regions q ≡ Some h → Clears m.core.regions q h
flags_go m n Begins q h s quiet e = left m.core.regions n.core.regions q h (ap regions_of s.0.1.1) e
flags_go m n (Operates t b) q h s quiet e = one m.core.regions n.core.regions b.region q s.0.0 (touched s.0.0) h (ap regions_of s.0.3.1) s.0.2.at (after_touch s.0.0) e
flags_go m n (TakesBack t b) q h s quiet e = one m.core.regions n.core.regions b.region q s.0.0 (touched s.0.0) h (ap regions_of s.0.2.1) s.0.1.at (after_touch s.0.0) e
flags_go m n (Frees p b) q h s quiet e = one m.core.regions n.core.regions b.region q s.0.0 (touched s.0.0) h (ap regions_of s.0.2.1) s.0.1.at (after_touch s.0.0) e
flags_go m n (Answers t k a) q h s quiet e = left m.core.regions n.core.regions q h (ap regions_of s.0.3.1) e
flags_go m n (AuditEnds b found) q h s quiet e = left m.core.regions n.core.regions q h (ap regions_of s.0.1.1) e
flags_go m n (OnRegion r x) q h s quiet e = one m.core.regions n.core.regions r q s.0.0 (region_after x s.0.0) h (ap regions_of s.0.3.1) s.0.1 (after x s.0.0 quiet) e
flags_go m n (Passes b r) q h s quiet e = one m.core.regions n.core.regions r q s.0.0 (checked s.0.0) h (ap regions_of s.0.2.1) s.0.1 (after Check s.0.0 refl) e
flags_go m n (Dies t None) q h s quiet e = left m.core.regions n.core.regions q h (ap regions_of s.0.1.1) e
flags_go m n (Dies t (Some r)) q h s quiet e =
    let held = s.0.0.latched.held r refl in
    let region = region_with (slice_get m.core.regions r) held.0 held.1 in
    one m.core.regions n.core.regions r q region.0 (region_after Die region.0) h (ap regions_of s.0.1.1 ∙ dead_at m.core.regions r region.0 region.1) region.1 (after Die region.0 refl) e
flags_go m n (Claims t) q h s quiet e = left m.core.regions n.core.regions q h (ap regions_of s.0.2.1) e
flags_go m n (GivesBack t o) q h s quiet e = left m.core.regions n.core.regions q h (ap regions_of s.0.1.1) e
flags_go m n (Recovers r) q h s quiet e = one m.core.regions n.core.regions r q s.0.0 (region_after TakeBack s.0.0) h (ap regions_of s.0.3.1) s.0.1 (after TakeBack s.0.0 refl) e
flags_go m n Stops q h s quiet e = left m.core.regions n.core.regions q h (ap regions_of s.0.1.1) e
flags_go m n (Checkpoints b) q h s quiet e = absurd (cc)
flags_go m n Takes q h s quiet e = left m.core.regions n.core.regions q h (ap regions_of s.0.1) e
flags_go m n Flushes q h s quiet e = left m.core.regions n.core.regions q h (ap regions_of s.0.1.1) e
flags_go m n (Faults k) q h s quiet e = left m.core.regions n.core.regions q h (ap regions_of s.0.2.1) e
flags_go m n (ReadFails k) q h s quiet e = left m.core.regions n.core.regions q h (ap regions_of s.0.1.1) e
flags_go m n _ q h s quiet e = left m.core.regions n.core.regions q h (ap regions_of s.0.2.1) e
