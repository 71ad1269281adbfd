-- What a crash at any moment of a step leaves restarts right.
use Rattle.std.proofs.Common.{◌≡◌, ℕ, Bool, List, [], ◌∷◌, ◌++◌, map, Option, Result, IfSome, refl, ap, sym, subst, ◌∙◌, inl, inr, ⊎_elim, append_assoc}
use Rattle.std.proofs.lemmas.List.{append-nil}
use Rattle.dali_bytes.specs.declared.error.OutOfMemory.{OutOfMemory as NoMemory}
use Rattle.dali_record.specs.declared.records.Record.{Record}
use Rattle.dali_record.specs.Files.{Files}
use Rattle.dali_region.specs.State.{RegionState}
use Rattle.dali_store.specs.Store.{Files as Disk}
use Rattle.dali_store.specs.declared.store.Store.{Ghosts}
use Rattle.dali_runs.specs.State.{SystemState, log_after}
use Rattle.dali_crash.specs.Checkpoints.{Point, StoreStep, IsPointCourse}
use Rattle.dali_crash.specs.Traces.{Start}
use Rattle.dali_crash.proofs.StoreStarts.{store_goes}
use Rattle.dali_crash.specs.Disks.Disks.{Spells, AllSpell}
use Rattle.dali_crash.specs.Disks.Bridges.{LeavesRightAt}
use Rattle.dali_core.specs.Vault.Vaulted.{Vaulted}
use Rattle.dali_core.proofs.StepsLemmas.Steps.{crash_is_right}
use Rattle.dali_core.specs.Moments.{Within}
use Rattle.dali_core.proofs.Moments.{leaves_more}
use Rattle.dali_checkpoint.proofs.Moments.{each_told, there, no_call}
use Rattle.dali_checkpoint.proofs.Calls.{course_join}
use Rattle.dali_transcripts.specs.Clients.Told.{act_of}
use Rattle.dali_transactions.specs.Stands.{StandsAt}
use Rattle.dali_turns.specs.declared.client.Client.{Client}
use Rattle.dali_turns.specs.declared.client.State.{State}
use Rattle.dali_turns.specs.Fits.{rest_of, Fits}
use Rattle.dali_turns.specs.Goes.{StepGoes}
use Rattle.dali_turns.specs.Moments.{Extends, IsRightIn, LeavesInStep, LeavesUpTo, StepLeavesRight, TurnLeavesRight}
use Rattle.dali_turns.specs.Made.{MakesStep}
use Rattle.dali_turns.proofs.Turning.{LooksSame, is_same, fits_same}
use Rattle.dali_turns.proofs.Stepping.{TellsSame, is_told}

-- the log has only got more records
pub course_log : (p q : Point) (xs : List StoreStep) → IsPointCourse p xs q → (more : List Record) × (p.log ++ more ≡ q.log)
course_log p q [] course = ([], append-nil p.log ∙ ap (λ (x : Point). x.log) course)
course_log p q (x ∷ xs) course =
    let on : (more : List Record) × (course.0.log ++ more ≡ q.log) = course_log course.0 q xs course.2 in
    ⊎_elim
    (λ e. (on.0, ap (λ l. l ++ on.0) (sym e) ∙ on.1))
    (λ s. ((s.0 ∷ []) ++ on.0, sym (append_assoc p.log (s.0 ∷ []) on.0) ∙ (ap (λ l. l ++ on.0) (sym s.2) ∙ on.1)))
    (store_goes p course.0 x course.1).log

-- such files restart right from a point to which steps lead from p
in_step : (s : Start) (p : Point) (gs : List RegionState) (z : SystemState) (c : Disk) → ((F : Files) × Spells c F × IsRightIn s p gs F) → LeavesInStep s p gs z c
in_step s p gs z c D = (D.0, D.1, record { to = D.2.to; steps = D.2.steps; course = D.2.course; log = inl D.2.same; regions = D.2.regions; right = D.2.right })

right_here : (s : Start) (p : Point) (gs : List RegionState) (z : SystemState) (c : Disk) → p.core.regions ≡ gs → ((F : Files) × Spells c F × LeavesRightAt s p F) → LeavesInStep s p gs z c
right_here s p gs z c regions D = (D.0, D.1, record { to = p; steps = []; course = refl; log = inl refl; regions = regions; right = D.2 })

pub crash_right : {V : Type 0} (means : Ghosts V) (s : Start) (B : List (List Record)) (p : Point) (gs : List RegionState) (y : SystemState) (v : Vaulted V)
    → StandsAt means s B p gs y v → IfSome (means.told v.store) (λ _. AllSpell (means.may_leave v.store) (LeavesRightAt s p))
crash_right means s B p gs y v stands = crash_is_right means s B p v stands.at.vault

-- where the step has come to a point with the log of the core x, which tells what the core z does or more
pub up_to : (s : Start) (p q : Point) (gs : List RegionState) (z x : SystemState) (c : Disk) → ((more : List Record) × (p.log ++ more ≡ q.log)) → q.log ≡ log_after s.log x → ((l : List Record) → Extends s z l → Extends s x l)
    → LeavesInStep s p gs z c → LeavesUpTo s p gs x c
up_to s p q gs z x c on log extends D = (
  D.0,
  D.1,
  record {
    to = D.2.to;
    steps = D.2.steps;
    course = D.2.course;
    log = ⊎_elim (λ still. subst (λ (l : List Record). Extends s x l) (sym still) (on.0, on.1 ∙ log)) (extends D.2.to.log) D.2.log;
    regions = D.2.regions;
    right = D.2.right;
  },
)

-- records were logged before the store was called, and others may have been behind that
pub record IsBehind {V : Type 0} (told : V → Option Disk) (v : Vaulted V) (P : Disk → Type 0) (gs : List RegionState) (z : SystemState) (s : Start) (p : Point) : Type 0 where
  pub to : Point
  pub steps : List StoreStep
  pub course : IsPointCourse p steps to
  pub log : Extends s z to.log
  pub right : IfSome (told v.store) (λ _. AllSpell P (IsRightIn s to gs))

module _ {V : Type 0} (means : Ghosts V)
    (state : State) (k : Client) (gs : List RegionState) (y z : SystemState) (v u : Vaulted V) where
  -- the step made no call of the store
  pub leaves_still : ((c : Disk) → means.left_since v.store (means.moment v.store) c → means.may_leave v.store c) → u ≡ v → StepLeavesRight means state k gs y v z u
  leaves_still now same precheck s B p w a stood of fits = each_told (means.told v.store) _ (λ e. leaves_more means.moment means.left_since v.store u.store (means.may_leave v.store) (LeavesInStep s p gs z)
      (λ c left. right_here s p gs z c stood.stands.at.regions (there (means.told v.store) _ e (crash_right means s B p gs y v stood.stands) c left))
      (there (means.told v.store) _ e (no_call means v u (means.may_leave v.store) now same (λ c left. left))))

  module _ (P : Disk → Type 0) (within : Within means.told means.moment means.left_since v u P) (s : Start) (p : Point) where
    -- its calls leave these disks, which restart right from where the run has come
    pub leaves_by : IfSome (means.told v.store) (λ _. AllSpell P (IsRightIn s p gs)) → Within means.told means.moment means.left_since v u (LeavesInStep s p gs z)
    leaves_by right = each_told (means.told v.store) _ (λ e. leaves_more means.moment means.left_since v.store u.store P (LeavesInStep s p gs z)
        (λ c left. in_step s p gs z c (there (means.told v.store) _ e right c left)) (there (means.told v.store) _ e within))

    pub leaves_behind : IsBehind means.told v P gs z s p → Within means.told means.moment means.left_since v u (LeavesInStep s p gs z)
    leaves_behind b = each_told (means.told v.store) _ (λ e. leaves_more means.moment means.left_since v.store u.store P (LeavesInStep s p gs z)
        (λ c left. let D = there (means.told v.store) _ e b.right c left in (
          D.0,
          D.1,
          record {
            to = D.2.to;
            steps = b.steps ++ D.2.steps;
            course = course_join p b.to D.2.to b.steps D.2.steps b.course D.2.course;
            log = inr (subst (λ (l : List Record). Extends s z l) (sym D.2.same) b.log);
            regions = D.2.regions;
            right = D.2.right;
          },
        ))
        (there (means.told v.store) _ e within))

  -- the client stands so
  pub leaves_at : (st : State) → state ≡ st → StepLeavesRight means st k gs y v z u → StepLeavesRight means state k gs y v z u
  leaves_at st is leaves = subst (λ (x : State). StepLeavesRight means x k gs y v z u) (sym is) leaves

module _ {V : Type 0} (means : Ghosts V) where
  -- its state was taken out of it
  pub leaves_stepped : (gs : List RegionState) (y z : SystemState) (v u : Vaulted V) (k j : Client) (state : State) → k.state ≡ state → TellsSame k j
      → StepLeavesRight means state j gs y v z u → StepLeavesRight means k.state k gs y v z u
  leaves_stepped gs y z v u k j state e same leaves precheck s B p w a stood is fits =
      leaves precheck s B p w a stood (is_told means w a k j same is)
      (subst (λ l. Fits means s B p w gs y v a l state) (sym (ap (map act_of) same.rest)) (subst (λ (st : State). Fits means s B p w gs y v a (rest_of k) st) e fits))

  -- nothing has changed before
  pub makes_from :
      {C : Type 0} (precheck : Bool) (j k : Client) (new old : C) (regions : C → List RegionState) (system : C → SystemState) (vault : C → Vaulted V) (r : Result Bool NoMemory) (n : Client) (hs : List RegionState) (z : SystemState) (u : Vaulted V) → j ≡ k → new ≡ old
      → MakesStep means precheck j.state j (regions new) (system new) (vault new) r n hs z u → MakesStep means precheck k.state k (regions old) (system old) (vault old) r n hs z u
  makes_from {C} precheck j k new old regions system vault r n hs z u client core makes =
      subst (λ (c : C). MakesStep means precheck k.state k (regions c) (system c) (vault c) r n hs z u) core
      (subst (λ (x : Client). MakesStep means precheck x.state x (regions new) (system new) (vault new) r n hs z u) client makes)

  -- the receipts stood apart during the step
  pub turn_leaves : (precheck ok : Bool) (gs hs : List RegionState) (y z : SystemState) (v u : Vaulted V) (k before behind : Client) → LooksSame k before
      → StepGoes means precheck before.state before gs y v ok behind hs z u → StepLeavesRight means before.state before gs y v z u
      → TurnLeavesRight means precheck k gs y v z u
  turn_leaves precheck ok gs hs y z v u k before behind same goes leaves s B p w a stood is fits =
      let is_before = is_same means w a k before same is in
      let fits_before = fits_same means s B p w gs y v a k before same fits in
      let went = goes s B p w a stood is_before fits_before in
      let on = course_log p went.to went.steps went.course in
      each_told (means.told v.store) _ (λ e. leaves_more means.moment means.left_since v.store u.store (LeavesInStep s p gs z) (LeavesUpTo s p gs z)
      (λ c D. up_to s p went.to gs z z c on (went.stood.stands.at.vault.run.run.log ∙ ap (log_after s.log) went.stood.stands.at.system) (λ l more. more) D)
      (there (means.told v.store) _ e (leaves precheck s B p w a stood is_before fits_before)))
