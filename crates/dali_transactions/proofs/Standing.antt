-- From a run's moments to a core's points.
use Rattle.std.proofs.Common.{◌≡◌, ◌<◌, ◌^◌, ℕ, true, List, [], Option, Some, Result, Ok, Err, OnOk, OnErr, map, refl, ap, sym, subst, ◌∙◌}
use Rattle.std.specs.List.{list_all}
use Rattle.dali_record.specs.declared.records.Record.{Record}
use Rattle.dali_region.specs.State.{RegionState}
use Rattle.dali_att.specs.declared.state.State.TheVariants.{Live}
use Rattle.dali_att.specs.Table.{undos_at}
use Rattle.dali_store.specs.Store.{Files as Disk}
use Rattle.dali_store.specs.declared.store.Store.{Ghosts}
use Rattle.dali_runs.specs.State.{SystemState, state_of}
use Rattle.dali_runs.specs.Wholes.{IsWhole}
use Rattle.dali_runs.specs.Courses.{Step, Moment, IsCourse}
use Rattle.dali_crash.specs.Checkpoints.{Point, Does, IsPointCourse, moment_of}
use Rattle.dali_crash.specs.Traces.{Start, bases_of}
use Rattle.dali_core.specs.Vault.Vaulted.{Vaulted}
use Rattle.dali_core.specs.Steps.Called.{KeepsImage}
use Rattle.dali_core.specs.Steps.Courses.{WentOn}
use Rattle.dali_core.proofs.StepsLemmas.Courses.{quiet_course}
use Rattle.dali_core.proofs.StepsLemmas.Steps.{places_are_small}
use Rattle.dali_system.specs.Served.{Served}
use Rattle.dali_clean.specs.Cleaned.{moment, AreDead, InRun}
use Rattle.dali_clean.specs.Steps.{AreBeside}
use Rattle.dali_clean.proofs.Courses.{in_run_on}
use Rattle.dali_transactions.specs.Stands.{StandsAt, IsUp}
use Rattle.dali_transactions.specs.Ended.{Walked, Walks, HasCome, Comes}
use Rattle.dali_transactions.specs.Left.{IsRunning, Left}
use Rattle.dali_transactions.specs.Guards.{UpMayEnd}
use Rattle.dali_transactions.proofs.Alone.{covered_here, whole_here, dead_still}
use Rattle.dali_transactions.proofs.Guarding.{none_alive}
use Rattle.dali_transactions.proofs.Walking.{is_of_end, all_of_end, quiet_steps, walked_of_end, Same, same_course, are_beside, walks_none}

module _ {V : Type 0} (means : Ghosts V) where
  -- the moment of a point where the core stands
  pub moment_here : (s : Start) (B : List (List Record)) (p : Point) (gs : List RegionState) (y : SystemState) (v : Vaulted V) → StandsAt means s B p gs y v → moment gs y p.log p.core.vault p.audits ≡ moment_of p
  moment_here s B p gs y v k =
      ap (λ (rs : List RegionState). moment rs y p.log p.core.vault p.audits) (sym k.at.regions)
      ∙ ap (λ (x : SystemState). moment p.core.regions x p.log p.core.vault p.audits) (sym k.at.system)

  pub run_at : (s : Start) (B : List (List Record)) (p : Point) (gs : List RegionState) (y : SystemState) (v : Vaulted V) → StandsAt means s B p gs y v → InRun (bases_of s) s.log (moment gs y p.log p.core.vault p.audits)
  run_at s B p gs y v k = subst (λ (m : Moment). InRun (bases_of s) s.log m) (sym (moment_here s B p gs y v k)) (record { run = k.at.vault.run.run; whole = k.whole })

  pub up_runs : (gs : List RegionState) (y : SystemState) (v : Vaulted V) → IsUp means gs y v → IsRunning gs y
  up_runs gs y v up = record {
    bases = bases_of up.start;
    before = up.start.log;
    log = up.point.log;
    vault = up.point.core.vault;
    audits = up.point.audits;
    run = run_at up.start up.batches up.point gs y v up.stands;
    dead = up.stands.dead;
  }

  -- steps of an end and of a clean-up alike
  pub record Arrived (s : Start) (B : List (List Record)) (p : Point) (v : Vaulted V) (steps : List Step) (log : List Record) (hs : List RegionState) (z : SystemState) : Type 0 where
    pub to : Point
    pub course : IsPointCourse p (map Does steps) to
    pub log_is : to.log ≡ log
    pub stands : StandsAt means s B to hs z v
    pub keeps : KeepsImage means p to v.store v.store

  pub arrive : (s : Start) (B : List (List Record)) (p : Point) (gs hs : List RegionState) (y z : SystemState) (v : Vaulted V) (steps : List Step) (log : List Record) → StandsAt means s B p gs y v → list_all is_of_end steps ≡ true
      → IsCourse (moment gs y p.log p.core.vault p.audits) steps (moment hs z log p.core.vault p.audits) → AreDead hs → Arrived s B p v steps log hs z
  arrive s B p gs hs y z v steps log k kind course dead = record {
    to = went.to;
    course = went.course;
    log_is = ap (λ (m : Moment). m.log) went.moment;
    stands = record {
      at = record {
        regions = ap (λ (m : Moment). m.core.regions) went.moment;
        system = ap (λ (m : Moment). m.core.system) went.moment;
        vault = went.is;
        none_in_hand = λ runs. k.at.none_in_hand runs ∙ sym same.taken;
      };
      whole = subst (λ (m : Moment). IsWhole m.core) (sym went.moment) (in_run_on (bases_of s) s.log (moment gs y p.log p.core.vault p.audits) to steps (run_at s B p gs y v k) course).whole;
      dead = dead;
    };
    keeps = went.keeps;
  }
    where
      to : Moment
      to = moment hs z log p.core.vault p.audits

      same : Same y z
      same = same_course (moment gs y p.log p.core.vault p.audits) to steps kind course

      went : WentOn means s B p to steps v
      went = quiet_course means s B p to steps v k.at.vault (quiet_steps steps kind) (subst (λ (m : Moment). IsCourse m steps to) (moment_here s B p gs y v k) course)

  abbrev pub arrived_of : (t : ℕ) (own : Record → Type 0) (last : List Record) (s : Start) (B : List (List Record)) (p : Point) (v : Vaulted V) (hs : List RegionState) (z : SystemState) (e : HasCome means t own last s B p v hs z) → Arrived s B p v e.steps e.to.log hs z
  arrived_of t own last s B p v hs z e = record { to = e.to; course = e.course; log_is = refl; stands = e.stands; keeps = e.keeps }

  pub come_of_end : (t : ℕ) (own : Record → Type 0) (last : List Record) (s : Start) (B : List (List Record)) (p : Point) (v : Vaulted V) (hs : List RegionState) (z : SystemState) (e : HasCome means t own last s B p v hs z) → list_all is_of_end e.steps ≡ true
  come_of_end t own last s B p v hs z e = all_of_end t last e.front e.steps e.by e.is

  pub come : (t : ℕ) (own : Record → Type 0) (last : List Record) (s : Start) (B : List (List Record)) (p : Point) (gs hs : List RegionState) (y z : SystemState) (v : Vaulted V) → StandsAt means s B p gs y v
      → Walked t own last (moment gs y p.log p.core.vault p.audits) hs z → AreDead hs → HasCome means t own last s B p v hs z
  come t own last s B p gs hs y z v k walk dead = record {
    to = there.to;
    front = walk.front;
    by = walk.by;
    steps = walk.steps;
    is = walk.is;
    beside = subst (λ (x : SystemState). AreBeside t x walk.steps) (sym k.at.system) (are_beside t last here (moment hs z walk.log p.core.vault p.audits) walk.front walk.steps walk.by walk.is walk.course);
    course = there.course;
    records = walk.records;
    are = walk.are;
    log = there.log_is ∙ walk.logged;
    stands = there.stands;
    keeps = there.keeps;
  }
    where
      here : Moment
      here = moment gs y p.log p.core.vault p.audits

      there : Arrived s B p v walk.steps walk.log hs z
      there = arrive s B p gs hs y z v walk.steps walk.log k (walked_of_end t own last here hs z walk) walk.course dead

  pub come_log : (t : ℕ) (own : Record → Type 0) (last : List Record) (s : Start) (B : List (List Record)) (p : Point) (gs hs : List RegionState) (y z : SystemState) (v : Vaulted V) (k : StandsAt means s B p gs y v)
      (walk : Walked t own last (moment gs y p.log p.core.vault p.audits) hs z) (dead : AreDead hs) → (come t own last s B p gs hs y z v k walk dead).to.log ≡ walk.log
  unfolding come
  come_log t own last s B p gs hs y z v k walk dead = (come t own last s B p gs hs y z v k walk dead).log ∙ sym walk.logged

  pub comes : (t : ℕ) (own : Record → Type 0) (last : List Record) (gs hs : List RegionState) (y z : SystemState) (v : Vaulted V) → Walks t own last gs y hs z → (AreDead gs → AreDead hs) → Comes means t own last gs y v hs z
  comes t own last gs hs y z v walks still s B p k = come t own last s B p gs hs y z v k (walks (bases_of s) s.log p.log p.core.vault p.audits (run_at s B p gs y v k) k.dead) (still k.dead)

  pub up_on : (t : ℕ) (own : Record → Type 0) (last : List Record) (gs hs : List RegionState) (y z : SystemState) (v : Vaulted V) → IsUp means gs y v → Comes means t own last gs y v hs z → IsUp means hs z v
  up_on t own last gs hs y z v up comes =
      let come = comes up.start up.batches up.point up.stands in
      record { start = up.start; batches = up.batches; point = come.to; stands = come.stands }

  pub small_here : (gs : List RegionState) (y : SystemState) (v : Vaulted V) → IsUp means gs y v → v.end < 2 ^ 62
  small_here gs y v up = (places_are_small means up.start up.batches up.point v up.stands.at.vault).0

  -- ---- for the call
  pub comes_none : (t : ℕ) (own : Record → Type 0) (gs : List RegionState) (y : SystemState) (v : Vaulted V) → Comes means t own [] gs y v gs y
  comes_none t own gs y v = comes t own [] gs gs y y v (walks_none t own gs y) (λ dead. dead)

  pub comes_left : (own : Record → Type 0) (last : List Record) (t : ℕ) (gs hs : List RegionState) (s z : Served) (v : Vaulted V) → Left own last t gs s hs z → Comes means t own last gs s.state v hs z.state
  comes_left own last t gs hs s z v left = comes t own last gs hs s.state z.state v left.walks (dead_still t gs hs s.state z.state left.others)

  pub comes_ok : {T E : Type 0} (r : Result T E) (own : Record → Type 0) (last : List Record) (t : ℕ) (gs hs : List RegionState) (s z : Served) (v : Vaulted V) → OnOk r (Left own last t gs s hs z) → OnOk r (Comes means t own last gs s.state v hs z.state)
  comes_ok (Ok x) own last t gs hs s z v left = comes_left own last t gs hs s z v left
  comes_ok (Err e) own last t gs hs s z v left = tt

  pub comes_err : {T E : Type 0} (r : Result T E) (own : Record → Type 0) (last : List Record) (t : ℕ) (gs hs : List RegionState) (s z : Served) (v : Vaulted V) → OnErr r (Left own last t gs s hs z) → OnErr r (Comes means t own last gs s.state v hs z.state)
  comes_err (Ok x) own last t gs hs s z v left = tt
  comes_err (Err e) own last t gs hs s z v left = comes_left own last t gs hs s z v left

  pub up_ended : {T E : Type 0} (r : Result T E) (own : Record → Type 0) (last : List Record) (t : ℕ) (gs hs : List RegionState) (s z : Served) (v w : Vaulted V) → w ≡ v → IsUp means gs s.state v → OnOk r (Left own last t gs s hs z) → OnErr r (Left own [] t gs s hs z)
      → IsUp means hs z.state w
  up_ended (Ok x) own last t gs hs s z v w same up ok err = subst (λ (u : Vaulted V). IsUp means hs z.state u) (sym same) (up_on t own last gs hs s.state z.state v up (comes_left own last t gs hs s z v ok))
  up_ended (Err e) own last t gs hs s z v w same up ok err = subst (λ (u : Vaulted V). IsUp means hs z.state u) (sym same) (up_on t own [] gs hs s.state z.state v up (comes_left own [] t gs hs s z v err))

  -- what the guards look at
  pub up_may_end : UpMayEnd means
  up_may_end gs y v up = (
    λ t lives. record {
      whole = whole_here gs y (up_runs gs y v up);
      lives = lives;
      covered = covered_here gs y t (up_runs gs y v up);
      releasable = none_alive gs (undos_at y.table t) up.stands.dead;
    },
    up.stands.dead,
    small_here gs y v up,
  )

-- an abort that was refused leaves the transaction live
pub still_live : {T E : Type 0} (r : Result T E) (y z : SystemState) (t : ℕ) → state_of y t ≡ Some Live → OnErr r (state_of z t ≡ Some Live) → OnErr r (state_of z t ≡ state_of y t)
still_live (Ok x) y z t was now = tt
still_live (Err e) y z t was now = now ∙ sym was
