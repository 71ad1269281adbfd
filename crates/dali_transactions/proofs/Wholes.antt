-- What steps leave of a whole core and its image files.
use Rattle.std.proofs.Common.{◌≡◌, ℕ, Bool, true, false, not, List, [], ◌∷◌, Option, Some, None, Result, Ok, Err, OnOk, OnErr, IfSome, map, refl, ap, sym, subst, ◌∙◌, slice_get, slice_set}
use Rattle.std.specs.List.{list_all}
use Rattle.std.proofs.lemmas.Bool.{and_parts}
use Rattle.dali_lists.proofs.Lists.{EachFrom, each_same, each_set, each_then}
use Rattle.dali_lists.proofs.Tests.{left_false}
use Rattle.dali_record.specs.declared.records.Record.{Record}
use Rattle.dali_record.specs.declared.records.Record.TheVariants.{Ended}
use Rattle.dali_record.specs.declared.operations.Pending.{Pending}
use Rattle.dali_region.specs.declared.Side.{Side}
use Rattle.dali_region.specs.declared.Side.TheVariants.{A, B as OtherSide}
use Rattle.dali_region.specs.State.{RegionState, touched, wrote, checked, dead, taken_back}
use Rattle.dali_region.specs.Answers.{is_dirty}
use Rattle.dali_att.specs.declared.state.State.TheVariants.{Live}
use Rattle.dali_store.specs.Store.{Files as Disk}
use Rattle.dali_store.specs.declared.store.Store.{Ghosts}
use Rattle.dali_runs.specs.State.{SystemState, VaultState, CoreState, state_of}
use Rattle.dali_runs.specs.Steps.{commit_logged}
use Rattle.dali_runs.specs.Wholes.{IsWhole}
use Rattle.dali_runs.specs.Keeps.{dead_in}
use Rattle.dali_runs.specs.ImageSteps.{clears}
use Rattle.dali_runs.specs.Regions.{RegionStep, Clean, region_after}
use Rattle.dali_runs.specs.Courses.{Step, Begins, Operates, TakesBack, Frees, Answers, AuditEnds, OnRegion, Passes, Dies, GivesBack, Recovers, Stops, Checkpoints, Takes, Flushes, ReadFails, Moment, IsStep, IsCourse}
use Rattle.dali_crash.specs.Checkpoints.{Point, Does, IsPointCourse, is_of_checkpoint, moment_of}
use Rattle.dali_crash.specs.Traces.{Start}
use Rattle.dali_core.specs.Vault.Vaulted.{Vaulted}
use Rattle.dali_core.specs.Steps.Courses.{calls_none, is_quiet}
use Rattle.dali_system.specs.Served.{Served}
use Rattle.dali_calls.specs.Single.Settling.{IsSoloOf}
use Rattle.dali_clean.specs.Cleaned.{core}
use Rattle.dali_core.specs.Cores.{HoldsPlaces, IsWholeCore}
use Rattle.dali_transactions.specs.Stands.{StandsAt, IsUp, IsBetween}
use Rattle.dali_transactions.specs.Ended.{HasCome}
use Rattle.dali_transactions.specs.Left.{Left}
use Rattle.dali_transactions.specs.Committed.{CommitGoes}
use Rattle.dali_transactions.proofs.Walking.{is_of_end, quiet_steps}
use Rattle.dali_transactions.proofs.Standing.{run_at, Arrived, arrived_of, come_of_end, comes_left}
use Rattle.dali_transactions.proofs.Durable.{Leaves, logged, logged_as, flushed_stands}

-- ---- a flag that is clear now was clear
abbrev pub IsNoCleaner : RegionState → RegionState → Type 0
IsNoCleaner g h = (side : Side) → is_dirty h side ≡ false → is_dirty g side ≡ false

pub touched_no_cleaner : (g : RegionState) → IsNoCleaner g (touched g)
touched_no_cleaner g A e = left_false g.dirty_a (wrote g) e
touched_no_cleaner g OtherSide e = left_false g.dirty_b (wrote g) e

pub kept_no_cleaner : (g h : RegionState) → h.dirty_a ≡ g.dirty_a → h.dirty_b ≡ g.dirty_b → IsNoCleaner g h
kept_no_cleaner g h a b A e = sym a ∙ e
kept_no_cleaner g h a b OtherSide e = sym b ∙ e

change_no_cleaner : (x : RegionStep) (g : RegionState) → clears x ≡ false → IsNoCleaner g (region_after x g)
change_no_cleaner (Clean side) g e = absurd cc
change_no_cleaner x g e = kept_no_cleaner g (region_after x g) refl refl

same_side : (g : RegionState) → IsNoCleaner g g
same_side g side e = e

pub same_no_cleaner : (gs : List RegionState) → EachFrom IsNoCleaner gs gs
same_no_cleaner gs = each_same IsNoCleaner gs same_side

pub set_no_cleaner : (gs : List RegionState) (r : ℕ) (g h : RegionState) → slice_get gs r ≡ Some g → IsNoCleaner g h → EachFrom IsNoCleaner gs (slice_set gs r h)
set_no_cleaner gs r g h at than = each_set IsNoCleaner gs r g h same_side at than

by_core : (c d e : CoreState) → d ≡ e → EachFrom IsNoCleaner c.regions e.regions → EachFrom IsNoCleaner c.regions d.regions
by_core c d e is than = subst (λ (k : CoreState). EachFrom IsNoCleaner c.regions k.regions) (sym is) than

-- the hold of a region is dead
dead_no_cleaner : (gs : List RegionState) (o : Option ℕ) → EachFrom IsNoCleaner gs (dead_in gs o)
dead_no_cleaner gs None = same_no_cleaner gs
dead_no_cleaner gs (Some r) = by_region (slice_get gs r) refl
  where
    by_region : (p : Option RegionState) → slice_get gs r ≡ p → EachFrom IsNoCleaner gs (dead_in gs (Some r))
    by_region None i = subst (λ (hs : List RegionState). EachFrom IsNoCleaner gs hs) (sym (none_dead i)) (same_no_cleaner gs)
      where
        none_dead : slice_get gs r ≡ None → dead_in gs (Some r) ≡ gs
        none_dead e = rw e refl
    by_region (Some g) i = subst (λ (hs : List RegionState). EachFrom IsNoCleaner gs hs) (sym (some_dead i)) (set_no_cleaner gs r g (dead g) i (kept_no_cleaner g (dead g) refl refl))
      where
        some_dead : slice_get gs r ≡ Some g → dead_in gs (Some r) ≡ slice_set gs r (dead g)
        some_dead e = rw e refl

pub step_no_cleaner : (L M : List Record) (c d : CoreState) (x : Step) → is_of_checkpoint x ≡ false → IsStep L c x M d → EachFrom IsNoCleaner c.regions d.regions
step_no_cleaner L M c d Begins e s = by_core c d _ s.1.1 (same_no_cleaner c.regions)
step_no_cleaner L M c d (Operates t b) e s = by_core c d _ s.3.1 (set_no_cleaner c.regions b.region s.0 (touched s.0) s.2.at (touched_no_cleaner s.0))
step_no_cleaner L M c d (TakesBack t b) e s = by_core c d _ s.2.1 (set_no_cleaner c.regions b.region s.0 (touched s.0) s.1.at (touched_no_cleaner s.0))
step_no_cleaner L M c d (Frees t b) e s = by_core c d _ s.2.1 (set_no_cleaner c.regions b.region s.0 (touched s.0) s.1.at (touched_no_cleaner s.0))
step_no_cleaner L M c d (Answers t k a) e s = by_core c d _ s.3.1 (same_no_cleaner c.regions)
step_no_cleaner L M c d (AuditEnds b found) e s = by_core c d _ s.1.1 (same_no_cleaner c.regions)
step_no_cleaner L M c d (OnRegion r x) e s = by_core c d _ s.3.1 (set_no_cleaner c.regions r s.0 (region_after x s.0) s.1 (change_no_cleaner x s.0 e))
step_no_cleaner L M c d (Passes b r) e s = by_core c d _ s.2.1 (set_no_cleaner c.regions r s.0 (checked s.0) s.1 (kept_no_cleaner s.0 (checked s.0) refl refl))
step_no_cleaner L M c d (Dies t o) e s = by_core c d _ s.1.1 (dead_no_cleaner c.regions o)
step_no_cleaner L M c d (GivesBack t o) e s = by_core c d _ s.1.1 (same_no_cleaner c.regions)
step_no_cleaner L M c d (Recovers r) e s = by_core c d _ s.3.1 (set_no_cleaner c.regions r s.0 (taken_back s.0) s.1 (kept_no_cleaner s.0 (taken_back s.0) refl refl))
step_no_cleaner L M c d Stops e s = by_core c d _ s.1.1 (same_no_cleaner c.regions)
step_no_cleaner L M c d (Checkpoints b) e s = absurd cc
step_no_cleaner L M c d Takes e s = by_core c d _ s.1 (same_no_cleaner c.regions)
step_no_cleaner L M c d Flushes e s = by_core c d _ s.1.1 (same_no_cleaner c.regions)
step_no_cleaner L M c d (ReadFails n) e s = by_core c d _ s.1.1 (same_no_cleaner c.regions)
step_no_cleaner L M c d _ e s = by_core c d _ s.2.1 (same_no_cleaner c.regions)

further : (fs gs hs : List RegionState) → EachFrom IsNoCleaner fs gs → EachFrom IsNoCleaner gs hs → EachFrom IsNoCleaner fs hs
further fs gs hs = each_then IsNoCleaner fs gs hs (λ f g h p q side e. p side (q side e))

of_none : (x : Step) → is_quiet x ≡ true → is_of_checkpoint x ≡ false
of_none x e = by_flag (is_of_checkpoint x) (and_parts (not (is_of_checkpoint x)) (calls_none x) e).0
  where
    by_flag : (b : Bool) → not b ≡ true → b ≡ false
    by_flag true e = absurd cc
    by_flag false e = refl

pub course_no_cleaner : (m n : Moment) (xs : List Step) → list_all is_quiet xs ≡ true → IsCourse m xs n → EachFrom IsNoCleaner m.core.regions n.core.regions
course_no_cleaner m n [] e course = subst (λ (k : Moment). EachFrom IsNoCleaner m.core.regions k.core.regions) course (same_no_cleaner m.core.regions)
course_no_cleaner m n (x ∷ xs) e course =
    let both = and_parts (is_quiet x) (list_all is_quiet xs) e in
    further m.core.regions course.0.core.regions n.core.regions (step_no_cleaner m.log course.0.log m.core course.0.core x (of_none x both.0) course.1.0) (course_no_cleaner course.0 n xs both.1 course.2)

-- ---- the image files
places_on : (gs hs : List RegionState) (fs : Disk) → EachFrom IsNoCleaner gs hs → HoldsPlaces gs fs → HoldsPlaces hs fs
places_on gs hs fs than places side r h at clean =
    let was = than r h at in
    places side r was.0 was.1 (was.2 side clean)

pub places_told : (o : Option Disk) (gs hs : List RegionState) → EachFrom IsNoCleaner gs hs → IfSome o (HoldsPlaces gs) → IfSome o (HoldsPlaces hs)
places_told None gs hs than places = tt
places_told (Some fs) gs hs than places = places_on gs hs fs than places

-- ---- along points
pub core_course : (p q : Point) (xs : List Step) → IsPointCourse p (map Does xs) q → IsCourse (moment_of p) xs (moment_of q)
core_course p q [] c = ap moment_of c
core_course p q (x ∷ xs) c = (moment_of c.0, c.1.1, core_course c.0 q xs c.2)

pub any_vault : (gs : List RegionState) (y : SystemState) (v u : VaultState) → IsWhole (core gs y v) → IsWhole (core gs y u)
any_vault gs y v u is = record { regions = is.regions; undos = is.undos; dead = is.dead; named = is.named; live = is.live }

module _ {V : Type 0} (means : Ghosts V) where
  pub whole_here : (s : Start) (B : List (List Record)) (p : Point) (gs : List RegionState) (y : SystemState) (v : Vaulted V) → StandsAt means s B p gs y v → IfSome (means.told v.store) (HoldsPlaces gs) → IsWholeCore means.told gs y v
  whole_here s B p gs y v k files = record { parts = λ u. any_vault gs y p.core.vault u (run_at means s B p gs y v k).whole; files = files }

  pub arrived_no_cleaner : (s : Start) (B : List (List Record)) (p : Point) (gs hs : List RegionState) (y z : SystemState) (v : Vaulted V) (steps : List Step) (log : List Record) → StandsAt means s B p gs y v → list_all is_of_end steps ≡ true
      → Arrived means s B p v steps log hs z → EachFrom IsNoCleaner gs hs
  arrived_no_cleaner s B p gs hs y z v steps log k kind a =
      subst (λ (rs : List RegionState). EachFrom IsNoCleaner rs hs) k.at.regions
      (subst (λ (rs : List RegionState). EachFrom IsNoCleaner p.core.regions rs) a.stands.at.regions
      (course_no_cleaner (moment_of p) (moment_of a.to) steps (quiet_steps steps kind) (core_course p a.to steps a.course)))

  come_no_cleaner : (t : ℕ) (own : Record → Type 0) (last : List Record) (s : Start) (B : List (List Record)) (p : Point) (gs hs : List RegionState) (y z : SystemState) (v : Vaulted V) → StandsAt means s B p gs y v
      → HasCome means t own last s B p v hs z → EachFrom IsNoCleaner gs hs
  come_no_cleaner t own last s B p gs hs y z v k e =
      arrived_no_cleaner s B p gs hs y z v e.steps e.to.log k (come_of_end means t own last s B p v hs z e) (arrived_of means t own last s B p v hs z e)

  whole_come : (t : ℕ) (own : Record → Type 0) (last : List Record) (s : Start) (B : List (List Record)) (p : Point) (gs hs : List RegionState) (y z : SystemState) (v : Vaulted V) → StandsAt means s B p gs y v
      → HasCome means t own last s B p v hs z → IfSome (means.told v.store) (HoldsPlaces gs) → IsWholeCore means.told hs z v
  whole_come t own last s B p gs hs y z v k come files =
      whole_here s B come.to hs z v come.stands (places_told (means.told v.store) gs hs (come_no_cleaner t own last s B p gs hs y z v k come) files)

  whole_left : (own : Record → Type 0) (last : List Record) (t : ℕ) (gs hs : List RegionState) (s z : Served) (v : Vaulted V) → IsUp means gs s.state v → Left own last t gs s hs z → IsWholeCore means.told gs s.state v → IsWholeCore means.told hs z.state v
  whole_left own last t gs hs s z v up left whole =
      whole_come t own last up.start up.batches up.point gs hs s.state z.state v up.stands (comes_left means own last t gs hs s z v left up.start up.batches up.point up.stands) whole.files

  -- ---- for the calls
  pub whole_ended : {T E : Type 0} (r : Result T E) (own : Record → Type 0) (last : List Record) (t : ℕ) (gs hs : List RegionState) (s z : Served) (v w : Vaulted V) → w ≡ v → IsUp means gs s.state v → OnOk r (Left own last t gs s hs z) → OnErr r (Left own [] t gs s hs z)
      → IsWholeCore means.told gs s.state v → IsWholeCore means.told hs z.state w
  whole_ended (Ok x) own last t gs hs s z v w same up ok err whole = subst (λ (u : Vaulted V). IsWholeCore means.told hs z.state u) (sym same) (whole_left own last t gs hs s z v up ok whole)
  whole_ended (Err e) own last t gs hs s z v w same up ok err whole = subst (λ (u : Vaulted V). IsWholeCore means.told hs z.state u) (sym same) (whole_left own [] t gs hs s z v up err whole)

  -- behind the record of its commit
  pub whole_logged : (gs : List RegionState) (y y1 : SystemState) (v : Vaulted V) (t : ℕ) (us : List Pending) → IsBetween means gs y v t → state_of y t ≡ Some Live → Leaves y y1 t us → IsWholeCore means.told gs y v → IsWholeCore means.told gs y1 v
  whole_logged gs y y1 v t us between lives leaves whole =
      let up = between.up in
      let found = logged_as means up.start up.batches up.point gs y y1 v t us up.stands between.may leaves in
      let l = logged means up.start up.batches up.point gs y v t up.stands between.may lives found.0 in
      whole_here up.start up.batches l.to gs y1 v (subst (λ (x : SystemState). StandsAt means up.start up.batches l.to gs x v) (sym found.1) l.stands) whole.files

  pub whole_committed : (gs hs : List RegionState) (y y2 z : SystemState) (v w : Vaulted V) (t : ℕ) → IsBetween means gs y v t → CommitGoes means gs y v t hs z w → IsWholeCore means.told gs y2 w → IsWholeCore means.told hs z w
  whole_committed gs hs y y2 z v w t between goes whole =
      let up = between.up in
      let is = goes up.start up.batches up.point up.stands between.may in
      let flushed = is.flushed in
      let stands : StandsAt means up.start flushed.batches flushed.to gs is.between w = flushed_stands means up.start up.batches is.logged.to gs (commit_logged y t) is.between v w is.logged.stands flushed in
      whole_come t (IsSoloOf t) (Ended t ∷ []) up.start flushed.batches flushed.to gs hs is.between z w stands is.settled whole.files

  pub whole_over : (gs gs1 : List RegionState) (y : SystemState) (w w1 : Vaulted V) → w1 ≡ w → gs1 ≡ gs → IsWholeCore means.told gs1 y w → IsWholeCore means.told gs y w1
  whole_over gs gs1 y w w1 same regions whole = subst (λ (u : Vaulted V). IsWholeCore means.told gs y u) (sym same) (subst (λ (rs : List RegionState). IsWholeCore means.told rs y w) regions whole)
