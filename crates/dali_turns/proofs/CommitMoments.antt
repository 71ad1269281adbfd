-- A crash inside the flush of a commit, and behind it.
use Rattle.std.proofs.Common.{◌≡◌, ℕ, ◌+◌, ◌<◌, Bool, true, false, List, [], ◌++◌, Option, refl, ap, sym, subst, ◌∙◌, ⊎_elim, arith}
use Rattle.std.proofs.lemmas.List.{append-nil}
use Rattle.dali_record.specs.declared.records.Record.{Record}
use Rattle.dali_region.specs.State.{RegionState}
use Rattle.dali_store.specs.Store.{Files as Disk}
use Rattle.dali_store.specs.declared.store.Store.{Ghosts}
use Rattle.dali_runs.specs.State.{SystemState, log_after}
use Rattle.dali_crash.specs.Checkpoints.{Point}
use Rattle.dali_crash.specs.Traces.{Start}
use Rattle.dali_core.specs.Vault.Vaulted.{Vaulted}
use Rattle.dali_core.specs.Cores.{IsNoShorter}
use Rattle.dali_core.specs.Moments.{Within, FlushLeaves}
use Rattle.dali_core.proofs.Moments.{leaves_more, leaves_both}
use Rattle.dali_core.proofs.Lengths.{no_shorter_tells}
use Rattle.dali_checkpoint.proofs.Moments.{each_told, there, no_call, more_left}
use Rattle.dali_checkpoint.proofs.Calls.{course_join}
use Rattle.dali_transcripts.specs.World.{World}
use Rattle.dali_transcripts.specs.Words.{Act}
use Rattle.dali_transcripts.specs.Rounds.{Standing}
use Rattle.dali_turns.specs.declared.client.Client.{Client}
use Rattle.dali_turns.specs.declared.client.State.{State}
use Rattle.dali_turns.specs.declared.client.State.TheVariants.{Committing}
use Rattle.dali_turns.specs.Commits.{awaits_flush}
use Rattle.dali_turns.specs.Stood.{Stood}
use Rattle.dali_turns.specs.Fits.{rest_of, Fits}
use Rattle.dali_turns.specs.Goes.{StepGoes, Came, Went}
use Rattle.dali_turns.specs.Moments.{Extends, LeavesInStep, LeavesUpTo, LeavesHere, StepLeavesRight, TurnLeavesRight, HaltLeavesRight}
use Rattle.dali_turns.specs.Places.{KeepsRegions}
use Rattle.dali_turns.proofs.Awaiting.{not_before, stable_is}
use Rattle.dali_turns.proofs.Lefts.{flush_leaves}
use Rattle.dali_turns.proofs.Turning.{LooksSame, is_same, fits_same}
use Rattle.dali_turns.proofs.Moments.{course_log, crash_right, leaves_still, leaves_by, up_to}

-- ---- the flush
module _ {V : Type 0} (means : Ghosts V)
    (gs : List RegionState) (y : SystemState) (v u : Vaulted V) (now : (c : Disk) → means.left_since v.store (means.moment v.store) c → means.may_leave v.store c) where
  -- nothing was called
  pub halt_still_leaves : u ≡ v → HaltLeavesRight means gs y v u
  halt_still_leaves same precheck s B p w stood = each_told (means.told v.store) _ (λ e. leaves_more means.moment means.left_since v.store u.store (means.may_leave v.store) (LeavesHere s p gs)
      (λ c left. let D = there (means.told v.store) _ e (crash_right means s B p gs y v stood.stands) c left in (D.0, D.1, record { to = p; steps = []; course = refl; same = refl; regions = stood.stands.at.regions; right = D.2 }))
      (there (means.told v.store) _ e (no_call means v u (means.may_leave v.store) now same (λ c left. left))))

  module _ (stopped : v.stopped ≡ true → u ≡ v) (within : v.stopped ≡ false → Within means.told means.moment means.left_since v u (FlushLeaves means.may_leave y v)) where
    pub halt_leaves : HaltLeavesRight means gs y v u
    halt_leaves = by_stop v.stopped refl
      where
        by_stop : (b : Bool) → v.stopped ≡ b → HaltLeavesRight means gs y v u
        by_stop true e = halt_still_leaves (stopped e)
        by_stop false e = λ precheck s B p w stood. each_told (means.told v.store) _ (λ is. leaves_more means.moment means.left_since v.store u.store (FlushLeaves means.may_leave y v) (LeavesHere s p gs)
            (λ c left. there (means.told v.store) _ is (flush_leaves means s B p gs y v stood.stands.at e) c left)
            (there (means.told v.store) _ is (within e)))

    pub waits_leave : (state : State) (k : Client) (z : SystemState) → StepLeavesRight means state k gs y v z u
    waits_leave state k z = by_stop v.stopped refl
      where
        by_stop : (b : Bool) → v.stopped ≡ b → StepLeavesRight means state k gs y v z u
        by_stop true e = leaves_still means state k gs y z v u now (stopped e)
        by_stop false e = λ precheck s B p w a stood is fits. leaves_by means state k gs y z v u (FlushLeaves means.may_leave y v) (within e) s p (flush_leaves means s B p gs y v stood.stands.at e)

-- ---- a client that is halted behind its step
module _ {V : Type 0} (means : Ghosts V) where
  -- a commit that waits for its flush wrote no region in its step
  kept_then : (precheck : Bool) (s : Start) (B : List (List Record)) (q : Point) (w : World) (a : Standing) (gs hs : List RegionState) (z : SystemState) (u : Vaulted V) (rest : List Act) (st : State)
      → awaits_flush st z u ≡ true → KeepsRegions st gs hs → Stood means s B q w precheck hs z u → Fits means s B q w hs z u a rest st → hs ≡ gs
  kept_then precheck s B q w a gs hs z u rest (Committing x number us next) awaits keeps stood fits =
      keeps (⊎_elim (λ none. none.1)
      (λ before. let less : number < z.first + u.flushed = subst (λ n. number < n) (stable_is means precheck s B q w a hs z u (Committing x number us next) stood) before in absurd (omega (arith, less, not_before number (z.first + u.flushed) awaits)))
      fits.first)
  kept_then precheck s B q w a gs hs z u rest st awaits keeps stood fits = absurd (cc)

  -- the receipts stood apart during the step
  pub halted_leaves : (precheck ok : Bool) (gs hs : List RegionState) (y z x : SystemState) (v u t : Vaulted V) (k before behind : Client) → LooksSame k before
      → StepGoes means precheck before.state before gs y v ok behind hs z u → StepLeavesRight means before.state before gs y v z u
      → ok ≡ true → IsNoShorter means.told v u → KeepsRegions behind.state gs hs → x.since ≡ z.since → (awaits_flush behind.state z u ≡ false → t ≡ u) → HaltLeavesRight means hs z u t
      → TurnLeavesRight means precheck k gs y v x t
  halted_leaves precheck ok gs hs y z x v u t k before behind same goes leaves done longer keeps log still halts s B p w a stood is fits = by_test (awaits_flush behind.state z u) refl
    where
      went : Went means precheck s B p w a before.state gs y v ok behind hs z u
      went = goes s B p w a stood (is_same means w a k before same is) (fits_same means s B p w gs y v a k before same fits)

      left : Within means.told means.moment means.left_since v u (LeavesInStep s p gs z)
      left = leaves precheck s B p w a stood (is_same means w a k before same is) (fits_same means s B p w gs y v a k before same fits)

      log_there : went.to.log ≡ log_after s.log x
      log_there = went.stood.stands.at.vault.run.run.log ∙ (ap (log_after s.log) went.stood.stands.at.system ∙ ap (λ l. s.log ++ l) (sym log))

      extends : (l : List Record) → Extends s z l → Extends s x l
      extends l more = (more.0, more.1 ∙ ap (λ rs. s.log ++ rs) (sym log))

      first : (c : Disk) → LeavesInStep s p gs z c → LeavesUpTo s p gs x c
      first c D = up_to s p went.to gs z x c (course_log p went.to went.steps went.course) log_there extends D

      fits_there : Fits means s went.batches went.to went.world hs z u went.standing (rest_of behind) behind.state
      fits_there = subst (λ (b : Bool). Came means b s went.batches went.to went.world hs z u went.standing behind) done went.came

      last : awaits_flush behind.state z u ≡ true → (c : Disk) → LeavesHere s went.to hs c → LeavesUpTo s p gs x c
      last awaits c D = (
        D.0,
        D.1,
        record {
          to = D.2.to;
          steps = went.steps ++ D.2.steps;
          course = course_join p went.to D.2.to went.steps D.2.steps went.course D.2.course;
          log = ([], append-nil D.2.to.log ∙ (D.2.same ∙ log_there));
          regions = D.2.regions ∙ kept_then precheck s went.batches went.to went.world went.standing gs hs z u (rest_of behind) behind.state awaits keeps went.stood fits_there;
          right = D.2.right;
        },
      )

      by_test : (b : Bool) → awaits_flush behind.state z u ≡ b → Within means.told means.moment means.left_since v t (LeavesUpTo s p gs x)
      by_test false e = subst (λ (r : Vaulted V). Within means.told means.moment means.left_since v r (LeavesUpTo s p gs x)) (sym (still e)) (more_left means v u (LeavesInStep s p gs z) (LeavesUpTo s p gs x) first left)
      by_test true e = each_told (means.told v.store) _ (λ is_told. leaves_both means.moment means.left_since v.store u.store t.store (LeavesInStep s p gs z) (LeavesHere s went.to hs) (LeavesUpTo s p gs x) first (last e)
          (there (means.told v.store) _ is_told left) (there (means.told u.store) _ (no_shorter_tells (means.told v.store) (means.told u.store) longer ∙ is_told) (halts precheck s went.batches went.to went.world went.stood)))
