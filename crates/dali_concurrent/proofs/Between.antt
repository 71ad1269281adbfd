-- What a crash inside one part of a round leaves, and inside one behind another.
use Rattle.std.proofs.Common.{◌≡◌, List, [], ◌∷◌, ◌++◌, IfSome, refl, ap, sym, ◌∙◌, ⊎_elim, append_assoc}
use Rattle.std.proofs.lemmas.List.{append-nil}
use Rattle.dali_record.specs.declared.records.Record.{Record}
use Rattle.dali_record.specs.Files.{Files}
use Rattle.dali_region.specs.State.{RegionState}
use Rattle.dali_store.specs.Store.{Files as Disk}
use Rattle.dali_store.specs.declared.store.Store.{Ghosts}
use Rattle.dali_runs.specs.State.{SystemState, log_after}
use Rattle.dali_crash.specs.Checkpoints.{Point, StoreStep, IsPointCourse}
use Rattle.dali_crash.specs.Traces.{Start}
use Rattle.dali_crash.proofs.StoreStarts.{store_goes}
use Rattle.dali_crash.specs.Disks.Disks.{AllSpell}
use Rattle.dali_crash.specs.Disks.Bridges.{LeavesRightAt}
use Rattle.dali_core.specs.Vault.Vaulted.{Vaulted}
use Rattle.dali_core.specs.Cores.{IsNoShorter}
use Rattle.dali_core.specs.Moments.{Within}
use Rattle.dali_core.proofs.StepsLemmas.Steps.{crash_is_right}
use Rattle.dali_core.proofs.Moments.{leaves_more, leaves_both}
use Rattle.dali_core.proofs.Lengths.{no_shorter_tells}
use Rattle.dali_checkpoint.proofs.Moments.{each_told, there as at_told, no_call}
use Rattle.dali_checkpoint.proofs.Calls.{course_join}
use Rattle.dali_transactions.specs.Stands.{StandsAt}
use Rattle.dali_concurrent.specs.Moments.{EndsRight, IsRightBetween, LeavesBetween}

-- the log has only got more records
course_log : (p q : Point) (xs : List StoreStep) → IsPointCourse p xs q → (more : List Record) × (p.log ++ more ≡ q.log)
course_log p q [] course = ([], append-nil p.log ∙ ap (λ (x : Point). x.log) course)
course_log p q (x ∷ xs) course =
    let on : (more : List Record) × (course.0.log ++ more ≡ q.log) = course_log course.0 q xs course.2 in
    ⊎_elim
    (λ e. (on.0, ap (λ l. l ++ on.0) (sym e) ∙ on.1))
    (λ s. ((s.0 ∷ []) ++ on.0, sym (append_assoc p.log (s.0 ∷ []) on.0) ∙ (ap (λ l. l ++ on.0) (sym s.2) ∙ on.1)))
    (store_goes p course.0 x course.1).log

crash_right : {V : Type 0} (means : Ghosts V) (s : Start) (B : List (List Record)) (p : Point) (gs : List RegionState) (y : SystemState) (v : Vaulted V)
    → StandsAt means s B p gs y v → IfSome (means.told v.store) (λ _. AllSpell (means.may_leave v.store) (LeavesRightAt s p))
crash_right means s B p gs y v stands = crash_is_right means s B p v stands.at.vault

-- ---- one part of a course behind another
pub come_from : (s : Start) (o p q : Point) (xs : List StoreStep) → IsPointCourse o xs p → (c : Disk) → LeavesBetween s p q c → LeavesBetween s o q c
come_from s o p q xs course c D = (
  D.0,
  D.1,
  record {
    between = D.2.between;
    before = xs ++ D.2.before;
    comes = course_join o p D.2.between xs D.2.before course D.2.comes;
    behind = D.2.behind;
    goes = D.2.goes;
    to = D.2.to;
    steps = D.2.steps;
    course = D.2.course;
    regions = D.2.regions;
    rest = D.2.rest;
    log = D.2.log;
    right = D.2.right;
  },
)

pub go_to : (s : Start) (p q r : Point) (ys : List StoreStep) → IsPointCourse q ys r → (c : Disk) → LeavesBetween s p q c → LeavesBetween s p r c
go_to s p q r ys course c D =
    let on = course_log q r ys course in (
      D.0,
      D.1,
      record {
        between = D.2.between;
        before = D.2.before;
        comes = D.2.comes;
        behind = D.2.behind ++ ys;
        goes = course_join D.2.between q r D.2.behind ys D.2.goes course;
        to = D.2.to;
        steps = D.2.steps;
        course = D.2.course;
        regions = D.2.regions;
        rest = D.2.rest ++ on.0;
        log = sym (append_assoc D.2.to.log D.2.rest on.0) ∙ (ap (λ l. l ++ on.0) D.2.log ∙ on.1);
        right = D.2.right;
      },
    )

-- files that restart right at a point which steps lead to from the first one
from_first : (s : Start) (p q to : Point) (xs ys : List StoreStep) (rest : List Record) (F : Files) → IsPointCourse p xs q → IsPointCourse p ys to → to.core.regions ≡ p.core.regions → to.log ++ rest ≡ q.log → LeavesRightAt s to F → IsRightBetween s p q F
from_first s p q to xs ys rest F goes course regions log right = record {
  between = p;
  before = [];
  comes = refl;
  behind = xs;
  goes = goes;
  to = to;
  steps = ys;
  course = course;
  regions = regions;
  rest = rest;
  log = log;
  right = right;
}

module _ {V : Type 0} (means : Ghosts V) where
  pub map_left : (v u : Vaulted V) (P Q : Disk → Type 0) → ((c : Disk) → P c → Q c) → Within means.told means.moment means.left_since v u P → Within means.told means.moment means.left_since v u Q
  map_left v u P Q more within = each_told (means.told v.store) _ (λ e. leaves_more means.moment means.left_since v.store u.store P Q more (at_told (means.told v.store) _ e within))

  pub between_both : (s : Start) (p q r : Point) (xs ys : List StoreStep) (v u t : Vaulted V) → IsPointCourse p xs q → IsPointCourse q ys r → IsNoShorter means.told v u
      → Within means.told means.moment means.left_since v u (LeavesBetween s p q) → Within means.told means.moment means.left_since u t (LeavesBetween s q r) → Within means.told means.moment means.left_since v t (LeavesBetween s p r)
  between_both s p q r xs ys v u t one two longer first last = each_told (means.told v.store) _ (λ e.
      leaves_both means.moment means.left_since v.store u.store t.store (LeavesBetween s p q) (LeavesBetween s q r) (LeavesBetween s p r) (go_to s p q r ys two) (come_from s p q r xs one)
      (at_told (means.told v.store) _ e first)
      (at_told (means.told u.store) _ (no_shorter_tells (means.told v.store) (means.told u.store) longer ∙ e) last))

  -- where the core stands behind steps
  pub ends_right : (s : Start) (B : List (List Record)) (p q : Point) (steps : List StoreStep) (hs : List RegionState) (z : SystemState) (v u : Vaulted V) → StandsAt means s B q hs z u → IsPointCourse p steps q
      → Within means.told means.moment means.left_since v u (LeavesBetween s p q) → EndsRight means.told means.moment means.left_since s p v hs z u
  ends_right s B p q steps hs z v u stands course within = record {
    to = q;
    steps = steps;
    course = course;
    regions = stands.at.regions;
    log = stands.at.vault.run.run.log ∙ ap (log_after s.log) stands.at.system;
    within = within;
  }

  -- no call of the store was made
  pub still_left : (s : Start) (B : List (List Record)) (p : Point) (gs : List RegionState) (y : SystemState) (v : Vaulted V) → ((c : Disk) → means.left_since v.store (means.moment v.store) c → means.may_leave v.store c)
      → StandsAt means s B p gs y v → Within means.told means.moment means.left_since v v (LeavesBetween s p p)
  still_left s B p gs y v now stands = each_told (means.told v.store) _ (λ e. leaves_more means.moment means.left_since v.store v.store (means.may_leave v.store) (LeavesBetween s p p)
      (λ c left. let D = at_told (means.told v.store) _ e (crash_right means s B p gs y v stands) c left in
      (D.0, D.1, record { between = p; before = []; comes = refl; behind = []; goes = refl; to = p; steps = []; course = refl; regions = refl; rest = []; log = append-nil p.log; right = D.2 }))
      (at_told (means.told v.store) _ e (no_call means v v (means.may_leave v.store) now refl (λ c left. left))))
