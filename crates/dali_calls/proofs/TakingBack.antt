-- Whose undos a clean-up performs, and that a commit of a taking back is a step of a core.
use Rattle.std.proofs.Common.{◌≡◌, ℕ, Option, Some, None, IsSomeAnd, ap, refl, sym, subst, ◌∙◌}
use Rattle.std.specs.Prelude.{slice_get}
use Rattle.dali_record.specs.declared.operations.Block.{Block}
use Rattle.dali_record.specs.Operations.{undo_op}
use Rattle.dali_record.specs.Blocks.{changes_item}
use Rattle.dali_record.specs.Legal.{on_kind}
use Rattle.dali_record.specs.Spelling.{is_back}
use Rattle.dali_att.specs.declared.state.State.{State}
use Rattle.dali_att.specs.declared.state.State.TheVariants.{Live, Dead, Cleaning, Committed}
use Rattle.dali_runs.specs.State.{lock_of}
use Rattle.dali_runs.specs.Run.{covers}
use Rattle.dali_runs.proofs.FactsLemmas.Plans.{take_back_goes_on}
use Rattle.dali_calls.specs.TakingBack.{is_claimed, TakeBackIsStep}
use Rattle.dali_calls.proofs.Stepping.{covers_all, state_there}
use Rattle.dali_calls.proofs.OnKind.{undo_back}

pub claimed_by : (o : Option State) (latched : Option ℕ) → o ≡ Some (Cleaning latched) → IsSomeAnd o is_claimed
claimed_by o latched e = subst (λ z. IsSomeAnd z is_claimed) (sym e) tt

pub latched_of : (o : Option State) → IsSomeAnd o is_claimed → (latched : Option ℕ) × (o ≡ Some (Cleaning latched))
latched_of None h = absurd h
latched_of (Some Live) h = absurd h
latched_of (Some (Dead latched)) h = absurd h
latched_of (Some (Cleaning latched)) h = (latched, refl)
latched_of (Some Committed) h = absurd h

pub taking_back_is_step : TakeBackIsStep
taking_back_is_step L c t w u b g at_work last may =
    let key : b.key ≡ u.key = ap (λ (x : Block). x.key) may.made.made_on in
    let region : b.region ≡ u.region = ap (λ (x : Block). x.region) may.made.made_on in
    let op : b.op ≡ undo_op u.undo = ap (λ (x : Block). x.op) may.made.made_on in
    let now = take_back_goes_on c.system.sizes L t w u b at_work last key region op in
    record {
      step = (
        g,
        record {
          runs = may.runs;
          spelled = (may.txn, may.made.spelled, ap is_back op ∙ undo_back u.undo);
          next = state_there _ _ now.1;
          by = may.by;
          kind = ap (λ (r : ℕ). on_kind c.system.sizes r b.op) region ∙ ap (on_kind c.system.sizes u.region) op ∙ may.kind;
          locked = ap (λ (k : ℕ). covers (lock_of c.system t k) (changes_item b)) key ∙ covers_all (lock_of c.system t u.key) (changes_item b) may.holds;
          at = ap (slice_get c.regions) region ∙ may.at;
          is_open = may.written;
        },
        (refl, refl),
      );
      left = now.0;
      at_work = now.1;
      undos = now.2;
    }
