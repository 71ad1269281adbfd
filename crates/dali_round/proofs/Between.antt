-- What a crash inside one part of a round leaves, and inside one behind another.
use Rattle.std.proofs.Common.{◌≡◌, ℕ, Bool, List, [], ◌++◌, Option, refl, ap, sym, ◌∙◌, append_assoc}
use Rattle.std.proofs.lemmas.List.{append-nil}
use Rattle.dali_record.specs.declared.records.Record.{Record}
use Rattle.dali_record.specs.Files.{Files}
use Rattle.dali_region.specs.State.{RegionState}
use Rattle.dali_store.specs.Store.{Files as Disk}
use Rattle.dali_store.specs.declared.store.Store.{Ghosts}
use Rattle.dali_runs.specs.State.{SystemState, log_after}
use Rattle.dali_crash.specs.Checkpoints.{Point, StoreStep, IsPointCourse}
use Rattle.dali_crash.specs.Traces.{Start}
use Rattle.dali_crash.specs.Disks.Bridges.{LeavesRightAt}
use Rattle.dali_core.specs.Vault.Vaulted.{Vaulted}
use Rattle.dali_core.specs.Cores.{IsNoShorter}
use Rattle.dali_core.specs.Moments.{Within}
use Rattle.dali_core.proofs.Moments.{leaves_more, leaves_both}
use Rattle.dali_core.proofs.Lengths.{no_shorter_tells}
use Rattle.dali_checkpoint.proofs.Moments.{each_told, there as at_told, no_call}
use Rattle.dali_checkpoint.proofs.Calls.{course_join}
use Rattle.dali_transactions.specs.Stands.{StandsAt}
use Rattle.dali_turns.specs.declared.client.Client.{Client}
use Rattle.dali_turns.specs.Moments.{LeavesHere, LeavesUpTo, TurnLeavesRight}
use Rattle.dali_turns.proofs.Moments.{course_log, crash_right}
use Rattle.dali_round.specs.Moments.{EndsRight, IsRightBetween, LeavesBetween}

-- ---- one part of a course behind another
pub come_from : (s : Start) (o p q : Point) (xs : List StoreStep) → IsPointCourse o xs p → (c : Disk) → LeavesBetween s p q c → LeavesBetween s o q c
come_from s o p q xs course c D = (
  D.0,
  D.1,
  record {
    between = D.2.between;
    before = xs ++ D.2.before;
    comes = course_join o p D.2.between xs D.2.before course D.2.comes;
    behind = D.2.behind;
    goes = D.2.goes;
    to = D.2.to;
    steps = D.2.steps;
    course = D.2.course;
    regions = D.2.regions;
    rest = D.2.rest;
    log = D.2.log;
    right = D.2.right;
  },
)

pub go_to : (s : Start) (p q r : Point) (ys : List StoreStep) → IsPointCourse q ys r → (c : Disk) → LeavesBetween s p q c → LeavesBetween s p r c
go_to s p q r ys course c D =
    let on = course_log q r ys course in (
      D.0,
      D.1,
      record {
        between = D.2.between;
        before = D.2.before;
        comes = D.2.comes;
        behind = D.2.behind ++ ys;
        goes = course_join D.2.between q r D.2.behind ys D.2.goes course;
        to = D.2.to;
        steps = D.2.steps;
        course = D.2.course;
        regions = D.2.regions;
        rest = D.2.rest ++ on.0;
        log = sym (append_assoc D.2.to.log D.2.rest on.0) ∙ (ap (λ l. l ++ on.0) D.2.log ∙ on.1);
        right = D.2.right;
      },
    )

-- files that restart right at a point which steps lead to from the first one
from_first : (s : Start) (p q to : Point) (xs ys : List StoreStep) (rest : List Record) (F : Files) → IsPointCourse p xs q → IsPointCourse p ys to → to.core.regions ≡ p.core.regions → to.log ++ rest ≡ q.log → LeavesRightAt s to F → IsRightBetween s p q F
from_first s p q to xs ys rest F goes course regions log right = record {
  between = p;
  before = [];
  comes = refl;
  behind = xs;
  goes = goes;
  to = to;
  steps = ys;
  course = course;
  regions = regions;
  rest = rest;
  log = log;
  right = right;
}

-- what a step leaves up to its core's log, it leaves between its ends
pub up_to : (s : Start) (p q : Point) (gs : List RegionState) (z : SystemState) (xs : List StoreStep) → p.core.regions ≡ gs → IsPointCourse p xs q → q.log ≡ log_after s.log z → (c : Disk) → LeavesUpTo s p gs z c → LeavesBetween s p q c
up_to s p q gs z xs regions course log c D = (D.0, D.1, from_first s p q D.2.to xs D.2.steps D.2.log.0 D.0 course D.2.course (D.2.regions ∙ sym regions) (D.2.log.1 ∙ sym log) D.2.right)

-- what an end leaves that logs nothing
pub here_between : (s : Start) (p q : Point) (gs : List RegionState) (xs : List StoreStep) → p.core.regions ≡ gs → IsPointCourse p xs q → (c : Disk) → LeavesHere s p gs c → LeavesBetween s p q c
here_between s p q gs xs regions course c D =
    let on = course_log p q xs course in (D.0, D.1, from_first s p q D.2.to xs D.2.steps on.0 D.0 course D.2.course (D.2.regions ∙ sym regions) (ap (λ l. l ++ on.0) D.2.same ∙ on.1) D.2.right)

module _ {V : Type 0} (means : Ghosts V) where
  pub map_left : (v u : Vaulted V) (P Q : Disk → Type 0) → ((c : Disk) → P c → Q c) → Within means.told means.moment means.left_since v u P → Within means.told means.moment means.left_since v u Q
  map_left v u P Q more within = each_told (means.told v.store) _ (λ e. leaves_more means.moment means.left_since v.store u.store P Q more (at_told (means.told v.store) _ e within))

  pub between_both : (s : Start) (p q r : Point) (xs ys : List StoreStep) (v u t : Vaulted V) → IsPointCourse p xs q → IsPointCourse q ys r → IsNoShorter means.told v u
      → Within means.told means.moment means.left_since v u (LeavesBetween s p q) → Within means.told means.moment means.left_since u t (LeavesBetween s q r) → Within means.told means.moment means.left_since v t (LeavesBetween s p r)
  between_both s p q r xs ys v u t one two longer first last = each_told (means.told v.store) _ (λ e.
      leaves_both means.moment means.left_since v.store u.store t.store (LeavesBetween s p q) (LeavesBetween s q r) (LeavesBetween s p r) (go_to s p q r ys two) (come_from s p q r xs one)
      (at_told (means.told v.store) _ e first)
      (at_told (means.told u.store) _ (no_shorter_tells (means.told v.store) (means.told u.store) longer ∙ e) last))

  -- where the core stands behind steps
  pub ends_right : (s : Start) (B : List (List Record)) (p q : Point) (steps : List StoreStep) (hs : List RegionState) (z : SystemState) (v u : Vaulted V) → StandsAt means s B q hs z u → IsPointCourse p steps q
      → Within means.told means.moment means.left_since v u (LeavesBetween s p q) → EndsRight means.told means.moment means.left_since s p v hs z u
  ends_right s B p q steps hs z v u stands course within = record {
    to = q;
    steps = steps;
    course = course;
    regions = stands.at.regions;
    log = stands.at.vault.run.run.log ∙ ap (log_after s.log) stands.at.system;
    within = within;
  }

  -- no call of the store was made
  pub still_left : (s : Start) (B : List (List Record)) (p : Point) (gs : List RegionState) (y : SystemState) (v : Vaulted V) → ((c : Disk) → means.left_since v.store (means.moment v.store) c → means.may_leave v.store c)
      → StandsAt means s B p gs y v → Within means.told means.moment means.left_since v v (LeavesBetween s p p)
  still_left s B p gs y v now stands = each_told (means.told v.store) _ (λ e. leaves_more means.moment means.left_since v.store v.store (means.may_leave v.store) (LeavesBetween s p p)
      (λ c left. let D = at_told (means.told v.store) _ e (crash_right means s B p gs y v stands) c left in
      (D.0, D.1, record { between = p; before = []; comes = refl; behind = []; goes = refl; to = p; steps = []; course = refl; regions = refl; rest = []; log = append-nil p.log; right = D.2 }))
      (at_told (means.told v.store) _ e (no_call means v v (means.may_leave v.store) now refl (λ c left. left))))

  -- nor of a turn that wasn't made
  pub stays_right : (precheck : Bool) (k : Client) (gs : List RegionState) (y : SystemState) (v : Vaulted V) → ((c : Disk) → means.left_since v.store (means.moment v.store) c → means.may_leave v.store c) → TurnLeavesRight means precheck k gs y v y v
  stays_right precheck k gs y v now s B p w a stood is fits = each_told (means.told v.store) _ (λ e. leaves_more means.moment means.left_since v.store v.store (means.may_leave v.store) (LeavesUpTo s p gs y)
      (λ c left. let D = at_told (means.told v.store) _ e (crash_right means s B p gs y v stood.stands) c left in
      (D.0, D.1, record { to = p; steps = []; course = refl; log = ([], append-nil p.log ∙ (stood.stands.at.vault.run.run.log ∙ ap (log_after s.log) stood.stands.at.system)); regions = stood.stands.at.regions; right = D.2 }))
      (at_told (means.told v.store) _ e (no_call means v v (means.may_leave v.store) now refl (λ c left. left))))
