-- Each step on a region keeps its part.
use Rattle.std.proofs.Common.{◌≡◌, ℕ, zero, suc, ◌-◌, ◌<◌, ◌≤◌, Bool, true, false, List, [], ◌∷◌, ◌++◌, length, Some, None, refl, ap, sym, subst, ◌∙◌, arith}
use Rattle.std.specs.Prelude.{slice_get, slice_set, ◌^◌, ◌==◌, ⊤, IsSome, take, is_some}
use Rattle.std.proofs.lemmas.Bool.{eqb-true, eq-eqb}
use Rattle.std.proofs.lemmas.List.{length-set, take-append-le}
use Rattle.dali_lists.proofs.Lists.{get_set_other}
use Rattle.dali_lists.proofs.Numbers.{max_cases}
use Rattle.dali_lists.proofs.Options.{some_same}
use Rattle.dali_record.specs.declared.records.Record.{Record}
use Rattle.dali_record.specs.declared.records.Record.TheVariants.{Format, Begin, Forward, Done, Commit, Ended, Solo, AuditBegin, AuditClean, AuditFail, Restarted, Back}
use Rattle.dali_record.specs.Log.{Touch, touch_of}
use Rattle.dali_record.specs.Epochs.{Epoch, last_epoch, next_number, clean_place}
use Rattle.dali_record.proofs.Batches.{number_is_length}
use Rattle.dali_region.specs.declared.Hold.{Hold}
use Rattle.dali_region.specs.State.{RegionState, IsLive, touched, checked, taken_back, dead}
use Rattle.dali_runs.specs.State.{CoreState, hold_of}
use Rattle.dali_runs.specs.Run.{RegionRun, blocks_on, certified_on}
use Rattle.dali_runs.specs.Regions.{IsOpen, RegionStep, region_after, MayChange, Check, Die, TakeBack}
use Rattle.dali_runs.specs.Courses.{Step, Begins, Operates, TakesBack, Frees, Answers, Commits, Ends, AuditBegins, AuditEnds, Locks, Refuses, OnRegion, Passes, Dies, Claims, GivesBack, Recovers, Stops, Checkpoints, Takes, Flushes, Faults, ReadFails}
use Rattle.dali_runs.proofs.CountsLemmas.SmallLogs.{is_small}
use Rattle.dali_runs.proofs.OneMore.{is_plain, is_inside, last_epoch-push, plain_inside, clean_place-push}
use Rattle.dali_runs.proofs.OneMoreTouch.{RegionRun-off, RegionRun-other, RegionRun-touched}
use Rattle.dali_runs.proofs.QuietSteps.{RegionRun-after}
use Rattle.dali_runs.proofs.Deaths.{region_with, live_hold, dead_at}
use Rattle.dali_runs.specs.Parts.Systems.{IsSystemStep}
use Rattle.dali_runs.specs.Parts.Regions.{with_record, RegionMoves, RegionTouches, RegionMisses, WhereHere, IsRegionStep, EndsCertified, RegionKeeps, StepHasRegion, RegionsLeave}

pub region_moves : RegionMoves
region_moves base e r g x run may = RegionRun-after base e r g x may run

-- a record with a block ends neither an audit nor an epoch
plain_touch : (x : Record) (a : Touch) → touch_of x ≡ Some a → is_plain x ≡ true
plain_touch (Format i h) a e = absurd (cc)
plain_touch (AuditClean b) a e = absurd (cc)
plain_touch (AuditFail b rs) a e = absurd (cc)
plain_touch (Restarted rs ds) a e = absurd (cc)
plain_touch _ a e = refl

pub region_touches : RegionTouches
region_touches base e x a owner g run is is_open clean few within = RegionRun-touched base e x g a owner is run is_open (plain_touch x a is) clean within few

-- ---- records that are no block on it

certified_clean : (e : Epoch) (b r : ℕ) (g : RegionState) → clean_place e ≤ next_number e → b ≤ next_number e → (g.missed ≡ false → certified_on r e ≤ g.sound) → (g.missed ≡ false → blocks_on r (take (b - e.first) e.records) ≤ g.sound) → g.missed ≡ false → certified_on r (with_record e (AuditClean b)) ≤ g.sound
certified_clean e b r g c n old here h =
    rw (clean_place-push e (AuditClean b))
    (max_cases (λ m. blocks_on r (take (m - e.first) (e.records ++ AuditClean b ∷ [])) ≤ g.sound) (clean_place e) b
    (rw (take-append-le (clean_place e - e.first) e.records (AuditClean b ∷ []) (omega (arith, c))) (old h))
    (rw (take-append-le (b - e.first) e.records (AuditClean b ∷ []) (omega (arith, n))) (here h)))

certified_fail : (e : Epoch) (b r : ℕ) (rs : List ℕ) (g : RegionState) → clean_place e ≤ next_number e → (g.missed ≡ false → certified_on r e ≤ g.sound) → g.missed ≡ false → certified_on r (with_record e (AuditFail b rs)) ≤ g.sound
certified_fail e b r rs g c old h =
    rw (clean_place-push e (AuditFail b rs), take-append-le (clean_place e - e.first) e.records (AuditFail b rs ∷ []) (omega (arith, c))) (old h)

pub region_misses : RegionMisses
region_misses base e (AuditClean b) r g run off clean may = RegionRun-off base e (AuditClean b) r g run off (certified_clean e b r g clean may.0 run.certified may.1)
region_misses base e (AuditFail b rs) r g run off clean may = RegionRun-off base e (AuditFail b rs) r g run off (certified_fail e b r rs g clean run.certified)
region_misses base e (Format i h) r g run off clean may = absurd may
region_misses base e (Restarted rs ds) r g run off clean may = absurd may
region_misses base e x r g run off clean may = RegionRun-other base e x r g run off refl clean

-- ---- a step of a core

get_other : {X : Type 0} (xs : List X) (r : ℕ) (x : X) (q : ℕ) → (r == q) ≡ false → slice_get (slice_set xs r x) q ≡ slice_get xs q
get_other xs r x q e = get_set_other xs r x q (λ same. let is : (r == q) ≡ true = eq-eqb r q same in absurd (cc))

get_same : {X : Type 0} (xs : List X) (r : ℕ) (x y z : X) → slice_get xs r ≡ Some y → slice_get (slice_set xs r x) r ≡ Some z → z ≡ x
get_same [] r x y z e f = absurd (cc)
get_same (w ∷ xs) zero x y z e f = sym (some_same f)
get_same (w ∷ xs) (suc r) x y z e f = get_same xs r x y z e f

abbrev regions_of : CoreState → List RegionState
regions_of c = c.regions

-- ---- other regions
abbrev Leaves : List RegionState → List RegionState → (ℕ → Bool) → Type 0
Leaves old new here = (length new ≡ length old) × ((r : ℕ) → here r ≡ false → slice_get new r ≡ slice_get old r)

set_leaves : (old new : List RegionState) (q : ℕ) (k : RegionState) → new ≡ slice_set old q k → Leaves old new (λ r. q == r)
set_leaves old new q k is = (ap length is ∙ length-set old q k, λ r apart. ap (λ l. slice_get l r) is ∙ get_other old q k r apart)

none_leaves : (old new : List RegionState) → new ≡ old → Leaves old new (λ r. false)
none_leaves old new is = (ap length is, λ r apart. ap (λ l. slice_get l r) is)

pub regions_leave : RegionsLeave
regions_leave L M c d (Operates t b) s = set_leaves c.regions d.regions b.region (touched s.0) (ap regions_of s.3.1)
regions_leave L M c d (TakesBack t b) s = set_leaves c.regions d.regions b.region (touched s.0) (ap regions_of s.2.1)
regions_leave L M c d (Frees p b) s = set_leaves c.regions d.regions b.region (touched s.0) (ap regions_of s.2.1)
regions_leave L M c d (OnRegion q x) s = set_leaves c.regions d.regions q (region_after x s.0) (ap regions_of s.3.1)
regions_leave L M c d (Passes b q) s = set_leaves c.regions d.regions q (checked s.0) (ap regions_of s.2.1)
regions_leave L M c d (Dies t (Some q)) s =
    let held : (w : Hold) × (hold_of c q ≡ Some w) × (w.txn ≡ t) × (w.dead ≡ false) = s.0.latched.held q refl in
    let region : (j : RegionState) × (slice_get c.regions q ≡ Some j) × (j.hold ≡ Some held.0) = region_with (slice_get c.regions q) held.0 held.1 in
    set_leaves c.regions d.regions q (dead region.0) (ap regions_of s.1.1 ∙ dead_at c.regions q region.0 region.1)
regions_leave L M c d (Recovers q) s = set_leaves c.regions d.regions q (taken_back s.0) (ap regions_of s.3.1)
regions_leave L M c d (Answers t k a) s = none_leaves c.regions d.regions (ap regions_of s.3.1)
regions_leave L M c d (Commits t) s = none_leaves c.regions d.regions (ap regions_of s.2.1)
regions_leave L M c d (Ends t) s = none_leaves c.regions d.regions (ap regions_of s.2.1)
regions_leave L M c d AuditBegins s = none_leaves c.regions d.regions (ap regions_of s.2.1)
regions_leave L M c d (Locks t k m) s = none_leaves c.regions d.regions (ap regions_of s.2.1)
regions_leave L M c d (Refuses t k m q) s = none_leaves c.regions d.regions (ap regions_of s.2.1)
regions_leave L M c d (Claims t) s = none_leaves c.regions d.regions (ap regions_of s.2.1)
regions_leave L M c d Takes s = none_leaves c.regions d.regions (ap regions_of s.1)
regions_leave L M c d (Faults n) s = none_leaves c.regions d.regions (ap regions_of s.2.1)
regions_leave L M c d _ s = none_leaves c.regions d.regions (ap regions_of s.1.1)

-- ---- the region of a step
-- one region is set, where P holds of it
here_or_left : (old new : List RegionState) (q r : ℕ) (P : RegionState → Type 0) (k g h j : RegionState) → new ≡ slice_set old q k → slice_get old q ≡ Some j → P j → (change : RegionState → RegionState) → k ≡ change j
    → slice_get old r ≡ Some g → slice_get new r ≡ Some h
    → WhereHere (q == r) g (P g) (change g) h
here_or_left old new q r P k g h j is at holds change by e f = by_test (q == r) refl
  where
    by_test : (b : Bool) → (q == r) ≡ b → WhereHere b g (P g) (change g) h
    by_test true same =
        let place : q ≡ r = eqb-true q r same in
        let was : j ≡ g = some_same (sym at ∙ (ap (slice_get old) place ∙ e)) in
        (subst P was holds, get_same old q k j h at (ap (slice_get (slice_set old q k)) place ∙ (ap (λ l. slice_get l r) (sym is) ∙ f)) ∙ (by ∙ ap change was))
    by_test false apart = some_same (sym f ∙ (ap (λ l. slice_get l r) is ∙ (get_other old q k r apart ∙ e)))

pub step_has_region : StepHasRegion
step_has_region L M c d (Operates t b) r g h s e f = here_or_left c.regions d.regions b.region r (λ q. IsOpen q t b) (touched s.0) g h s.0 (ap regions_of s.3.1) s.2.at s.2.is_open touched refl e f
step_has_region L M c d (TakesBack t b) r g h s e f = here_or_left c.regions d.regions b.region r (λ q. IsOpen q t b) (touched s.0) g h s.0 (ap regions_of s.2.1) s.1.at s.1.is_open touched refl e f
step_has_region L M c d (Frees p b) r g h s e f = here_or_left c.regions d.regions b.region r (λ q. IsOpen q p b) (touched s.0) g h s.0 (ap regions_of s.2.1) s.1.at s.1.is_open touched refl e f
step_has_region L M c d (OnRegion q x) r g h s e f = here_or_left c.regions d.regions q r (MayChange x) (region_after x s.0) g h s.0 (ap regions_of s.3.1) s.1 s.2.0 (region_after x) refl e f
step_has_region L M c d (Passes b q) r g h s e f = here_or_left c.regions d.regions q r (λ j. ⊤) (checked s.0) g h s.0 (ap regions_of s.2.1) s.1 tt checked refl e f
step_has_region L M c d (Dies t (Some q)) r g h s e f = here_or_left c.regions d.regions q r IsLive (dead region.0) g h region.0 (ap regions_of s.1.1 ∙ dead_at c.regions q region.0 region.1) region.1 (live_hold region.0 held.0 region.2 held.3) dead refl e f
  where
    held : (w : Hold) × (hold_of c q ≡ Some w) × (w.txn ≡ t) × (w.dead ≡ false)
    held = s.0.latched.held q refl

    region : (j : RegionState) × (slice_get c.regions q ≡ Some j) × (j.hold ≡ Some held.0)
    region = region_with (slice_get c.regions q) held.0 held.1
step_has_region L M c d (Recovers q) r g h s e f = here_or_left c.regions d.regions q r (λ j. IsSome j.hold) (taken_back s.0) g h s.0 (ap regions_of s.3.1) s.1 (ap is_some s.2.at) taken_back refl e f
step_has_region L M c d x r g h s e f = some_same (sym f ∙ ((regions_leave L M c d x s).1 r refl ∙ e))

-- ---- each step
-- the epoch of a log with one record more
of_push : (base : List (List ℕ)) (L M : List Record) (x : Record) (r : ℕ) (h : RegionState) → M ≡ L ++ x ∷ [] → is_inside x ≡ true → RegionRun base (with_record (last_epoch L) x) r h → RegionRun base (last_epoch M) r h
of_push base L M x r h is inside run = subst (λ e. RegionRun base e r h) (sym (ap last_epoch is ∙ last_epoch-push L x inside)) run

of_same : (base : List (List ℕ)) (L M : List Record) (r : ℕ) (h : RegionState) → M ≡ L → RegionRun base (last_epoch L) r h → RegionRun base (last_epoch M) r h
of_same base L M r h is run = subst (λ K. RegionRun base (last_epoch K) r h) (sym is) run

pub region_keeps : RegionKeeps
region_keeps base L M y z x r g h run system s within here certified = by_step x s here certified
  where
    e : Epoch
    e = last_epoch L

    clean : clean_place e ≤ next_number e
    clean = system.counts.clean

    few : length e.records < 2 ^ 40
    few = omega (arith, is_small y.sizes L system.log.legal, number_is_length L)

    -- a record without a block
    quiet : (x : Record) → is_plain x ≡ true → touch_of x ≡ None → M ≡ L ++ x ∷ [] → h ≡ g → RegionRun base (last_epoch M) r h
    quiet x plain none log is = of_push base L M x r h log (plain_inside x plain) (subst (λ q. RegionRun base (with_record e x) r q) (sym is) (RegionRun-other base e x r g run (rw none refl) plain clean))

    left : M ≡ L → h ≡ g → RegionRun base (last_epoch M) r h
    left log is = of_same base L M r h log (subst (λ q. RegionRun base e r q) (sym is) run)

    -- a step on this region, or on another one
    moves : (q : ℕ) (x : RegionStep) (P : Type 0) → (P → MayChange x g) → M ≡ L → WhereHere (q == r) g P (region_after x g) h → RegionRun base (last_epoch M) r h
    moves q x P may log here = by_test (q == r) here
      where
        by_test : (b : Bool) → WhereHere b g P (region_after x g) h → RegionRun base (last_epoch M) r h
        by_test true w = of_same base L M r h log (subst (λ j. RegionRun base e r j) (sym w.1) (region_moves base e r g x run (may w.0)))
        by_test false w = left log w

    touches : (x : Record) (a : Touch) (owner : ℕ) → touch_of x ≡ Some a → M ≡ L ++ x ∷ [] → WhereHere (a.block.region == r) g (IsOpen g owner a.block) (touched g) h → RegionRun base (last_epoch M) r h
    touches x a owner is log here = by_test (a.block.region == r) refl here
      where
        plain : is_plain x ≡ true
        plain = plain_touch x a is

        by_test : (b : Bool) → (a.block.region == r) ≡ b → WhereHere b g (IsOpen g owner a.block) (touched g) h → RegionRun base (last_epoch M) r h
        by_test true same w =
            let place : a.block.region ≡ r = eqb-true a.block.region r same in
            of_push base L M x r h log (plain_inside x plain)
            (subst (λ j. RegionRun base (with_record e x) r j) (sym w.1)
            (subst (λ q. RegionRun base (with_record e x) q (touched g)) place
            (region_touches base e x a owner g (subst (λ q. RegionRun base e q g) (sym place) run) is w.0 clean few (omega (arith, place, within)))))
        by_test false apart w = of_push base L M x r h log (plain_inside x plain) (subst (λ j. RegionRun base (with_record e x) r j) (sym w) (RegionRun-other base e x r g run (rw (is, apart) refl) plain clean))

    by_step : (x : Step) → IsSystemStep L y x M z → IsRegionStep r g x h → EndsCertified L r g x → RegionRun base (last_epoch M) r h
    by_step (Operates t b) s here certified = touches (Forward t b) (record { txn = t; owner = t; block = b }) t refl s.3.0 here
    by_step (TakesBack t b) s here certified = touches (Back t b) (record { txn = t; owner = t; block = b }) t refl s.2.0 here
    by_step (Frees p b) s here certified = touches (Solo y.next p b) (record { txn = y.next; owner = p; block = b }) p refl s.2.0 here
    by_step (OnRegion q x) s here certified = moves q x (MayChange x g) (λ w. w) s.0 here
    by_step (Passes b q) s here certified = moves q Check ⊤ (λ w. tt) s.0 here
    by_step (Dies t (Some q)) s here certified = moves q Die (IsLive g) (λ w. w) s.1.0 here
    by_step (Recovers q) s here certified = moves q TakeBack (IsSome g.hold) (λ w. w) s.0 here
    by_step (Dies t None) s here certified = left s.1.0 here
    by_step Begins s here certified = quiet (Begin y.next) refl refl s.1.0 here
    by_step (Answers t k a) s here certified = quiet (Done t k a) refl refl s.3.0 here
    by_step (Commits t) s here certified = quiet (Commit t) refl refl s.2.0 here
    by_step (Ends t) s here certified = quiet (Ended t) refl refl s.2.0 here
    by_step AuditBegins s here certified = quiet AuditBegin refl refl s.2.0 here
    by_step (AuditEnds b []) s here certified = of_push base L M (AuditClean b) r h s.1.0 refl (subst (λ j. RegionRun base (with_record e (AuditClean b)) r j) (sym here) (region_misses base e (AuditClean b) r g run refl clean (s.0.auditing.within, certified)))
    by_step (AuditEnds b (f ∷ fs)) s here certified = of_push base L M (AuditFail b (f ∷ fs)) r h s.1.0 refl (subst (λ j. RegionRun base (with_record e (AuditFail b (f ∷ fs))) r j) (sym here) (region_misses base e (AuditFail b (f ∷ fs)) r g run refl clean tt))
    by_step (Locks t k m) s here certified = left s.2.0 here
    by_step (Refuses t k m q) s here certified = left s.2.0 here
    by_step (Claims t) s here certified = left s.2.0 here
    by_step (GivesBack t o) s here certified = left s.2.0 here
    by_step Stops s here certified = left s.0 here
    by_step (Checkpoints b) s here certified = left s.1.0 here
    by_step Takes s here certified = left s.0 here
    by_step Flushes s here certified = left s.0 here
    by_step (Faults n) s here certified = left s.0 here
    by_step (ReadFails n) s here certified = left s.0 here
