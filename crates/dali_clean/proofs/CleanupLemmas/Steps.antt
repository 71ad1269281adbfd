-- What each call of a clean-up leaves is a step of a core.
use Rattle.std.proofs.Common.{◌≡◌, ℕ, true, List, [], ◌∷◌, ◌++◌, Option, Some, None, refl, ap, ◌∙◌}
use Rattle.std.specs.Prelude.{IsSomeAnd, slice_get}
use Rattle.dali_lists.proofs.Numbers.{eqb-self}
use Rattle.dali_geometry.specs.Sizes.{Sizes}
use Rattle.dali_record.specs.declared.operations.Block.{Block}
use Rattle.dali_record.specs.declared.records.Record.{Record}
use Rattle.dali_record.specs.declared.records.Record.TheVariants.{Back, Ended}
use Rattle.dali_record.specs.Legal.{Working, Over, txn_state, txn_next, is_none_left}
use Rattle.dali_record.proofs.Pushes.{txn_state_push}
use Rattle.dali_att.specs.declared.state.State.{State}
use Rattle.dali_att.specs.declared.state.State.TheVariants.{Live, Dead, Cleaning, Committed}
use Rattle.dali_region.specs.State.{RegionState}
use Rattle.dali_region.specs.declared.Hold.{Hold}
use Rattle.dali_runs.specs.State.{CoreState, state_of, hold_in}
use Rattle.dali_runs.specs.Keeps.{may_log_in, MayRecover}
use Rattle.dali_runs.specs.Facts.Plans.{AtWork}
use Rattle.dali_calls.specs.TakingBack.{is_claimed}
use Rattle.dali_calls.proofs.Stepping.{state_there}
use Rattle.dali_calls.proofs.TakingBack.{taking_back_is_step, latched_of}
use Rattle.dali_clean.specs.Cleanup.Cleaned.{IsLeft}
use Rattle.dali_clean.specs.Cleanup.Stepped.{DeadLeaves, ClaimIsStep, RecoverIsStep, CleanIsStep, EndIsStep, GiveBackIsStep}
use Rattle.dali_clean.proofs.CleanupLemmas.Claims.{is_left}

pub claim_is_step : ClaimIsStep
claim_is_step L c t o is = (o, is, (refl, refl))

left_at : (t : ℕ) (o : Option RegionState) (h : Hold) → hold_in o ≡ Some h → h.txn ≡ t → h.dead ≡ true → (g : RegionState) × (o ≡ Some g) × IsLeft t g
left_at t None h is own dead = let no : None ≡ Some h = is in absurd cc
left_at t (Some g) h is own dead = (g, refl, is_left t g.hold h is dead own)

pub dead_leaves : DeadLeaves
dead_leaves c t r whole dead = let named = whole.named t r dead in left_at t (slice_get c.regions r) named.0 named.1 named.2 named.3

-- what the client of a claimed transaction left may be taken back
may_recover : (c : CoreState) (g : RegionState) (t : ℕ) (o : Option Hold) → g.hold ≡ o → IsSomeAnd o (λ h. (h.dead ≡ true) × (h.txn ≡ t)) → IsSomeAnd (state_of c.system t) is_claimed → MayRecover c g
may_recover c g t None at left claimed = absurd left
may_recover c g t (Some h) at left claimed =
    let state = latched_of (state_of c.system t) claimed in
    record { hold = h; at = at; dead = left.0; latched = state.0; claimed = ap (state_of c.system) left.1 ∙ state.1 }

pub recover_is_step : RecoverIsStep
recover_is_step L c t r g at claimed left = (g, at, may_recover c g t g.hold refl left claimed, (refl, refl))

pub give_back_is_step : GiveBackIsStep
give_back_is_step L c t o may = (may, (refl, refl))

may_take_back : (t : ℕ) (b : Block) (o : Option State) → IsSomeAnd o is_claimed → may_log_in o (Back t b) ≡ true
may_take_back t b None h = absurd h
may_take_back t b (Some Live) h = absurd h
may_take_back t b (Some (Dead latched)) h = absurd h
may_take_back t b (Some (Cleaning latched)) h = refl
may_take_back t b (Some Committed) h = absurd h

may_end : (t : ℕ) (o : Option State) → IsSomeAnd o is_claimed → may_log_in o (Ended t) ≡ true
may_end t None h = absurd h
may_end t (Some Live) h = absurd h
may_end t (Some (Dead latched)) h = absurd h
may_end t (Some (Cleaning latched)) h = refl
may_end t (Some Committed) h = absurd h

pub clean_is_step : CleanIsStep
clean_is_step L c t w u b g at_work last may = taking_back_is_step L c t w u b g at_work last (record {
  txn = may.txn;
  runs = may.runs;
  by = may_take_back t b (state_of c.system t) may.claimed;
  holds = may.holds;
  kind = may.kind;
  made = may.made;
  at = may.at;
  written = may.written;
})

over : (s : Sizes) (L : List Record) (t : ℕ) (w : Working) → AtWork s L t w → w.undos ≡ [] → txn_state s t (L ++ Ended t ∷ []) ≡ Some Over
over s L t w at none = txn_state_push s t L (Ended t) ∙ (ap (λ o. txn_next s t o (Ended t)) at ∙ rw (eqb-self t, ap is_none_left none) refl)

pub end_is_step : EndIsStep
end_is_step L c t w at none runs claimed free = (
  runs,
  (
    record {
      next = state_there _ _ (over c.system.sizes L t w at none);
      by = may_end t (state_of c.system t) claimed;
    },
    free,
  ),
  (refl, refl),
)
