-- A list of calm steps from a point where the core stands, and a core between the calls of its clients.
use Rattle.std.proofs.Common.{◌≡◌, ◌≢◌, ◌<◌, ℕ, Bool, true, false, List, ◌++◌, Option, Some, IfSome, IsSome, None, refl, ap, sym, subst, ◌∙◌, slice_get, slice_set}
use Rattle.std.specs.Prelude.{◌==◌}
use Rattle.std.proofs.lemmas.Bool.Decides.{Decides-eqb}
use Rattle.dali_lists.proofs.Lists.{get_set, get_set_other, EachFrom}
use Rattle.dali_record.specs.declared.records.Record.{Record}
use Rattle.dali_region.specs.State.{RegionState}
use Rattle.dali_att.specs.declared.state.State.TheVariants.{Live}
use Rattle.dali_store.specs.Store.{Files as Disk}
use Rattle.dali_store.specs.declared.store.Store.{Ghosts}
use Rattle.dali_runs.specs.State.{TxnRow, SystemState, CoreState, row_of, state_in, state_of, hold_in}
use Rattle.dali_runs.specs.Run.{RunsOn}
use Rattle.dali_runs.specs.Wholes.{IsWhole}
use Rattle.dali_runs.specs.Courses.{Step, Moment, IsCourse}
use Rattle.dali_runs.proofs.WholeSteps.{whole_course_keeps}
use Rattle.dali_crash.specs.Checkpoints.{Point, moment_of}
use Rattle.dali_crash.specs.Traces.{Start, bases_of}
use Rattle.dali_core.specs.Vault.Vaulted.{Vaulted}
use Rattle.dali_runs.specs.Facts.Plans.{AtWork}
use Rattle.dali_runs.proofs.FactsLemmas.OlderRows.{rows_are_older}
use Rattle.dali_core.specs.Steps.Courses.{WentOn}
use Rattle.dali_core.proofs.StepsLemmas.Courses.{quiet_course}
use Rattle.dali_calls.specs.Plans.{Planned}
use Rattle.dali_calls.specs.Followed.{HoldsCall}
use Rattle.dali_calls.specs.Single.Stands.{AtPlan}
use Rattle.dali_calls.specs.Single.Single.{MayCall}
use Rattle.dali_clean.specs.Cleaned.{moment, AreDead}
use Rattle.dali_clean.proofs.Courses.{runs_of}
use Rattle.dali_calls.specs.Stepwise.Beside.{LeavesBe}
use Rattle.dali_calls.proofs.StepwiseLemmas.Waiting.{course_leaves, call_waits}
use Rattle.dali_transactions.specs.Stands.{StandsAt}
use Rattle.dali_transactions.proofs.Standing.{moment_here}
use Rattle.dali_transactions.proofs.Wholes.{course_no_cleaner, places_told, whole_here, IsNoCleaner}
use Rattle.dali_transactions.specs.Beside.Went.{is_open, CourseGoes, BetweenEach, BetweenGoes}
use Rattle.dali_transactions.proofs.BesideLemmas.Calm.{calm_steps, taken_course}

-- ---- where a plan or a transaction stands, by the log, the system and the regions
pub may_at : (L M : List Record) (c d : CoreState) (t : ℕ) → M ≡ L → d.system ≡ c.system → d.regions ≡ c.regions → MayCall L c t → MayCall M d t
may_at L M c d t log system regions may = record {
  working = may.working;
  at_work = subst (λ (l : List Record). AtWork d.system.sizes l t may.working) (sym log) (subst (λ (y : SystemState). AtWork y.sizes L t may.working) (sym system) may.at_work);
  level = may.level;
  free = λ r h held. may.free r h (ap (λ (gs : List RegionState). hold_in (slice_get gs r)) (sym regions) ∙ held);
}

pub plan_at : (L M : List Record) (c d : CoreState) (p : Planned) → M ≡ L → d.system ≡ c.system → d.regions ≡ c.regions → AtPlan L c p → AtPlan M d p
plan_at L M c d p log system regions at = record {
  follows = record {
    working = at.follows.working;
    at_work = subst (λ (l : List Record). AtWork d.system.sizes l p.txn at.follows.working) (sym log) (subst (λ (y : SystemState). AtWork y.sizes L p.txn at.follows.working) (sym system) at.follows.at_work);
    before = at.follows.before;
    undos = at.follows.undos;
    rests = at.follows.rests;
    progress = at.follows.progress;
    mark = at.follows.mark;
    winds = at.follows.winds;
    onward = at.follows.onward;
  };
  holds = subst (λ (y : SystemState). HoldsCall y p) (sym system) at.holds;
  free = λ r h held. at.free r h (ap (λ (gs : List RegionState). hold_in (slice_get gs r)) (sym regions) ∙ held);
}

-- ---- a region whose hold is dead, or that has none
pub dead_set : (gs : List RegionState) (r : ℕ) (g h : RegionState) → slice_get gs r ≡ Some g → AreDead gs → IfSome h.hold (λ k. k.dead ≡ true) → AreDead (slice_set gs r h)
dead_set gs r g h at dead one q k there = by_test (r == q) refl
  where
    same_some : (x y : RegionState) → (let o : Option RegionState = Some x in o ≡ Some y) → x ≡ y
    same_some x y e = cc

    apart : (r == q) ≡ false → r ≢ q
    apart n e = let is : (r == q) ≡ true = (Decides-eqb r q).1 e in cc

    by_test : (b : Bool) → (r == q) ≡ b → IfSome k.hold (λ o. o.dead ≡ true)
    by_test true e =
        let same : r ≡ q = (Decides-eqb r q).0 e in
        let is : h ≡ k = same_some h k (sym (get_set gs r g h at) ∙ (ap (λ (n : ℕ). slice_get (slice_set gs r h) n) same ∙ there)) in
        subst (λ (x : RegionState). IfSome x.hold (λ o. o.dead ≡ true)) is one
    by_test false e = dead q k (sym (get_set_other gs r h q (apart e)) ∙ there)

-- who is live or committed has a row
pub open_row : (o : Option TxnRow) → is_open (state_in o) ≡ true → IsSome o
open_row None begun = absurd (cc)
open_row (Some row) begun = refl

module _ {V : Type 0} (means : Ghosts V) where
  pub runs_here : (s : Start) (B : List (List Record)) (p : Point) (gs : List RegionState) (y : SystemState) (v : Vaulted V) → StandsAt means s B p gs y v → RunsOn (bases_of s) p.log p.core
  runs_here s B p gs y v k = runs_of (bases_of s) s.log (moment_of p) (record { run = k.at.vault.run.run; whole = k.whole })

  pub from_here : (s : Start) (B : List (List Record)) (p : Point) (gs : List RegionState) (y : SystemState) (v : Vaulted V) (n : Moment) (xs : List Step) → StandsAt means s B p gs y v → IsCourse (moment gs y p.log p.core.vault p.audits) xs n → IsCourse (moment_of p) xs n
  from_here s B p gs y v n xs k course = subst (λ (m : Moment). IsCourse m xs n) (moment_here means s B p gs y v k) course

  pub course_goes : CourseGoes means
  course_goes t own s B p gs hs y z v a steps k calm dead course apart = record {
    to = went.to;
    steps = steps;
    calm = calm;
    course = went.course;
    log = ap (λ (m : Moment). m.log) went.moment;
    stands = stands;
    keeps = went.keeps;
    others = λ u away lives. subst (λ (m : Moment). LeavesBe u p.log p.core m.log m.core) (sym went.moment) (course_leaves u (moment_of p) n steps (older u lives) (apart u away (ap (λ (x : SystemState). is_open (state_of x u)) (sym k.at.system) ∙ lives)) course);
    places = λ files. places_told (means.told v.store) gs hs cleaner files;
    whole = λ is. whole_here means s B went.to hs z v stands (places_told (means.told v.store) gs hs cleaner is.files);
  }
    where
      n : Moment
      n = moment hs z (p.log ++ own) p.core.vault a

      went : WentOn means s B p n steps v
      went = quiet_course means s B p n steps v k.at.vault (calm_steps steps calm) course

      taken : z.taken ≡ p.core.system.taken
      taken = taken_course (moment_of p) n steps calm course

      stands : StandsAt means s B went.to hs z v
      stands = record {
        at = record {
          regions = ap (λ (m : Moment). m.core.regions) went.moment;
          system = ap (λ (m : Moment). m.core.system) went.moment;
          vault = went.is;
          none_in_hand = λ runs. k.at.none_in_hand runs ∙ sym (taken ∙ ap (λ (x : SystemState). x.taken) k.at.system);
        };
        whole = subst (λ (m : Moment). IsWhole m.core) (sym went.moment) (whole_course_keeps (bases_of s) s.log (moment_of p) n steps k.at.vault.run.run k.whole course);
        dead = dead;
      }

      older : (u : ℕ) → is_open (state_of p.core.system u) ≡ true → u < p.core.system.next
      older u lives = rows_are_older (bases_of s) p.log p.core (runs_here s B p gs y v k) u (open_row (row_of p.core.system u) lives)

      cleaner : EachFrom IsNoCleaner gs hs
      cleaner = subst (λ (rs : List RegionState). EachFrom IsNoCleaner rs hs) k.at.regions (course_no_cleaner (moment_of p) n steps (calm_steps steps calm) course)

  -- ---- between the calls
  pub between_each : BetweenEach means
  between_each gs y v b t lives = record { up = b.up; may = b.each t lives }

  pub between_goes : BetweenGoes means
  between_goes t own gs hs y z v b w may back = record {
    up = record { start = b.up.start; batches = b.up.batches; point = w.to; stands = w.stands };
    each = λ u lives. by_test u (t == u) refl lives;
  }
    where
      by_test : (u : ℕ) (e : Bool) → (t == u) ≡ e → state_of z u ≡ Some Live → MayCall w.to.log w.to.core u
      by_test u true e lives =
          let same : t ≡ u = (Decides-eqb t u).0 e in
          subst (λ (n : ℕ). MayCall w.to.log w.to.core n) same (may (ap (λ (n : ℕ). state_of z n) same ∙ lives))
      by_test u false e lives =
          let was : state_of y u ≡ Some Live = back u e lives in
          call_waits b.up.point.log w.to.log b.up.point.core w.to.core u (w.others u e (ap (λ (x : SystemState). is_open (state_of x u)) b.up.stands.at.system ∙ ap is_open was)) (b.each u was)
