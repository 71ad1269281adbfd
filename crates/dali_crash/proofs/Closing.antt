-- The log that a restart leaves of a lawful one is lawful, honest or not.
use Rattle.std.proofs.Common.{◌≡◌, ℕ, List, [], ◌∷◌, ◌++◌, sym}
use Rattle.dali_record.specs.declared.records.Record.TheVariants.{Restarted}
use Rattle.dali_record.specs.Epochs.{last_epoch}
use Rattle.dali_record.specs.Damage.{rolled_list, deleted_list}
use Rattle.dali_record.specs.Legal.{txn_state, sizes_of, IsLegalFor}
use Rattle.dali_record.proofs.Pushes.{IsLegalFor-push, IsLockLegal-push}
use Rattle.dali_history.proofs.Restarts.{sizes_of-restarted, txn_allows, rules_allow}
use Rattle.dali_history.proofs.Spelled.{AreSpelled-push}
use Rattle.dali_history.proofs.SpelledRestart.{restarted_is_spelled}
use Rattle.dali_crash.specs.Starts.{LawfulRestarts}

-- ---- one more Restarted

pub lawful_restarts : LawfulRestarts
lawful_restarts L r E is some = record {
  some_index = rw (sizes_of-restarted L rs ds) is.some_index;
  some_heap = rw (sizes_of-restarted L rs ds) is.some_heap;
  spelled = AreSpelled-push L (Restarted rs ds) is.spelled (restarted_is_spelled (sizes_of L) L is.legal.rules is.spelled);
  legal = rw (sizes_of-restarted L rs ds) legal;
  locks = IsLockLegal-push L (Restarted rs ds) is.locks (λ i a b p q c. absurd (cc));
}
  where
    rs : List ℕ
    rs = rolled_list (last_epoch L)

    ds : List ℕ
    ds = deleted_list (last_epoch L)

    legal : IsLegalFor (sizes_of L) (L ++ Restarted rs ds ∷ [])
    legal =
        IsLegalFor-push (sizes_of L) L (Restarted rs ds) is.legal (rules_allow (sizes_of L) L r E rs ds is.legal.rules some) (λ t c. txn_allows (sizes_of L) t (txn_state (sizes_of L) t L) rs ds (is.legal.txns t))
        (λ xs ys e. let a : rs ≡ xs = cc in let b : ds ≡ ys = cc in (sym a, sym b))
        (λ a e. absurd (cc))
