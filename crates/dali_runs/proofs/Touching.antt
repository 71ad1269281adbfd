-- Courses one behind another, and the steps of one operation on its region.
use Rattle.std.proofs.Common.{◌≡◌, ℕ, List, [], ◌∷◌, ◌++◌, map, Some, true, refl, ap, sym, subst, Bool, false, false}
use Rattle.std.specs.Prelude.{⊤, slice_get}
use Rattle.dali_record.specs.declared.operations.Block.{Block}
use Rattle.dali_record.specs.declared.records.Record.{Record}
use Rattle.dali_record.specs.Files.{Files}
use Rattle.std.specs.List.{list_any}
use Rattle.std.proofs.lemmas.Bool.{or_parts}
use Rattle.std.proofs.lemmas.List.{set-set}
use Rattle.dali_lists.proofs.Lists.{set_same, get_set}
use Rattle.dali_region.specs.State.{RegionState}
use Rattle.dali_runs.specs.State.{SystemState, CoreState, state_of}
use Rattle.dali_runs.specs.Regions.{RegionStep, Update, region_after, MayChange, is_alive, IsAlone}
use Rattle.dali_runs.specs.Keeps.{with_region}
use Rattle.dali_runs.specs.Courses.{Step, OnRegion, Moment, IsStepAt, IsCourse, CameBy, CoreTraced, Faults, Flushes}
use Rattle.dali_runs.specs.Passes.{audits_with}
use Rattle.dali_runs.specs.Worked.{opening, touching}

pub join : (m k n : Moment) (xs ys : List Step) → IsCourse m xs k → IsCourse k ys n → IsCourse m (xs ++ ys) n
join m k n [] ys p q = subst (λ (j : Moment). IsCourse j ys n) (sym p) q
join m k n (x ∷ xs) ys p q = (p.0, p.1, join p.0 k n xs ys p.2 q)

-- ---- with a crash image
abbrev pub is_flush : Step → Bool
is_flush Flushes = true
is_flush (Faults n) = true
is_flush _ = false

pub came_quiet : (L : List Record) (c : CoreState) (x : Step) (D : Files) → is_flush x ≡ false → CameBy L c x D D
came_quiet L c Flushes D e = absurd (cc)
came_quiet L c (Faults n) D e = absurd (cc)
came_quiet L c _ D e = refl

-- steps that flush nothing leave it
pub quiet_trace : (m n : Moment) (xs : List Step) (D : Files) → list_any is_flush xs ≡ false → IsCourse m xs n → CoreTraced m D xs n D
quiet_trace m n [] D quiet course = (course, refl)
quiet_trace m n (x ∷ xs) D quiet course =
    let parts = or_parts (is_flush x) (list_any is_flush xs) quiet in
    (course.0, D, course.1, came_quiet m.log m.core x D parts.0, quiet_trace course.0 n xs D parts.1 course.2)

pub join_traces : (m k n : Moment) (D E F : Files) (xs ys : List Step) → CoreTraced m D xs k E → CoreTraced k E ys n F → CoreTraced m D (xs ++ ys) n F
join_traces m k n D E F [] ys p q = subst (λ (j : Moment). CoreTraced j D ys n F) (sym p.0) (subst (λ G. CoreTraced k G ys n F) (sym p.1) q)
join_traces m k n D E F (x ∷ xs) ys p q = (p.0, p.1, p.2, p.3, join_traces p.0 k n p.1 E F xs ys p.4 q)

pub trace_course : (m n : Moment) (D F : Files) (xs : List Step) → CoreTraced m D xs n F → IsCourse m xs n
trace_course m n D F [] t = t.0
trace_course m n D F (x ∷ xs) t = (t.0, t.2, trace_course t.0 n t.1 F xs t.4)

-- ---- steps on one region
abbrev pub with_one : Moment → ℕ → RegionState → Moment
with_one m r g = record { log = m.log; core = with_region m.core r g; audits = m.audits }

-- the audit that began at b passes the region, which is g afterwards
abbrev pub passing : Moment → ℕ → ℕ → RegionState → Moment
passing m b r g = record { log = m.log; core = with_region m.core r g; audits = audits_with m.audits b (m.audits b ++ record { region = r; answer = g.stray } ∷ []) }

abbrev pub after_all : List RegionStep → RegionState → RegionState
after_all [] g = g
after_all (x ∷ xs) g = after_all xs (region_after x g)

abbrev pub MayAll : List RegionStep → RegionState → Type 0
MayAll [] g = ⊤
MayAll (x ∷ xs) g = MayChange x g × MayAll xs (region_after x g)

abbrev pub AllAlone : SystemState → List RegionStep → RegionState → Type 0
AllAlone y [] g = ⊤
AllAlone y (x ∷ xs) g = IsAlone y x g × AllAlone y xs (region_after x g)

updates_alone : (y : SystemState) (writes : List (ℕ × ℕ)) (g : RegionState) → AllAlone y (map (λ w. Update w.0 w.1) writes) g
updates_alone y [] g = tt
updates_alone y (w ∷ writes) g = (tt, updates_alone y writes (region_after (Update w.0 w.1) g))

pub on_region : (m : Moment) (r : ℕ) (xs : List RegionStep) (g : RegionState) → slice_get m.core.regions r ≡ Some g → MayAll xs g → AllAlone m.core.system xs g → IsCourse m (map (λ x. OnRegion r x) xs) (with_one m r (after_all xs g))
on_region m r [] g at may alone = ap (λ (rs : List RegionState). record { log = m.log; core = record m.core { regions = rs }; audits = m.audits }) (sym (set_same m.core.regions r g at))
on_region m r (x ∷ xs) g at may alone = (with_one m r h, ((g, at, (may.0, alone.0), (refl, refl)), refl), subst (λ (n : Moment). IsCourse (with_one m r h) (map (λ x. OnRegion r x) xs) n) again (on_region (with_one m r h) r xs h (get_set m.core.regions r g h at) may.1 alone.1))
  where
    h : RegionState
    h = region_after x g

    again : with_one (with_one m r h) r (after_all xs h) ≡ with_one m r (after_all xs h)
    again = ap (λ (rs : List RegionState). record { log = m.log; core = record m.core { regions = rs }; audits = m.audits }) (set-set m.core.regions r h (after_all xs h))

-- an operation, and the step that logs it
pub touches :
    (m n : Moment) (owner : ℕ) (b : Block) (writes : List (ℕ × ℕ)) (last : Step) (g : RegionState) → slice_get m.core.regions b.region ≡ Some g
    → is_alive (state_of m.core.system owner) ≡ true → MayAll (opening owner b writes) g → IsStepAt (with_one m b.region (after_all (opening owner b writes) g)) last n
    → IsCourse m (touching owner b writes last) n
touches m n owner b writes last g at alive may step =
    join m (with_one m b.region (after_all (opening owner b writes) g)) n (map (λ x. OnRegion b.region x) (opening owner b writes)) (last ∷ [])
    (on_region m b.region (opening owner b writes) g at may (alive, (tt, updates_alone m.core.system writes _))) (n, step, refl)
