-- What a restart promises, put together.
use Rattle.std.proofs.Common.{◌≡◌, ℕ, List, [], ◌∷◌, length, refl, ap, sym, subst, ◌∙◌}
use Rattle.std.proofs.lemmas.List.{take_at}
use Rattle.dali_lists.proofs.Lists.{get_push}
use Rattle.dali_record.specs.declared.records.Record.{Record}
use Rattle.dali_record.specs.declared.records.Record.TheVariants.{Restarted}
use Rattle.dali_record.specs.Epochs.{last_epoch, recovered_epoch}
use Rattle.dali_record.specs.Damage.{rolled_list, deleted_list}
use Rattle.dali_record.specs.Legal.{sizes_of, TellsScan}
use Rattle.dali_history.specs.History.{IsHistory, RestartGives}
use Rattle.dali_history.specs.Acknowledged.{KeepsCommitted}
use Rattle.dali_history.specs.Promise.{RestartIsRight}
use Rattle.dali_history.specs.Recovered.{recovered}
use Rattle.dali_history.proofs.Restarts.{restarted, recovered_epoch-restarted}
use Rattle.dali_history.proofs.HeadlineLemmas.RestartsAgain.{restart_gives, restarts_as, names_the_report}
use Rattle.dali_history.proofs.Chained.{keeps_committed}
use Rattle.dali_history.proofs.Reported.{deleted_list_is, rolled_list_is, recovered_epoch_in}
use Rattle.dali_history.proofs.Ascending.{deleted_list_ascends, rolled_list_ascends}
use Rattle.dali_history.proofs.NoOdd.{survivors_have_no_odd}

-- a log that ends with Restarted is reported by the lists in it
pub named_at_end : (A : List Record) (rs ds : List ℕ) → TellsScan (restarted A rs ds) → (rs ≡ rolled_list (recovered_epoch (restarted A rs ds))) × (ds ≡ deleted_list (recovered_epoch (restarted A rs ds)))
named_at_end A rs ds tells =
    let lists = tells (length A) rs ds (get_push A (Restarted rs ds)) in
    let before : last_epoch A ≡ recovered_epoch (restarted A rs ds) = sym (recovered_epoch-restarted A rs ds) in
    let there = take_at A (Restarted rs ds ∷ []) (length A) refl in
    (lists.0 ∙ ap (λ L. rolled_list (last_epoch L)) there ∙ ap rolled_list before, lists.1 ∙ ap (λ L. deleted_list (last_epoch L)) there ∙ ap deleted_list before)

-- a restart of each history is right
pub restart_is_right : (L : List Record) → IsHistory L → RestartIsRight L
restart_is_right L history = record {
  gives = gives;
  none_odd = survivors_have_no_odd L gives.records.map gives.records.expected_is;
  keeps = λ A B e. subst (KeepsCommitted A) e (keeps_committed A B);
  deleted = λ t. deleted_list_is (sizes_of L) L (recovered_epoch L) t history.legal (recovered_epoch_in L);
  rolled = λ t. rolled_list_is (recovered_epoch L) t;
  deleted_ascends = deleted_list_ascends (sizes_of L) L (recovered_epoch L) history.legal.rules (recovered_epoch_in L);
  rolled_ascends = rolled_list_ascends (sizes_of L) L (recovered_epoch L) history.legal.rules (recovered_epoch_in L);
  again = λ r E some. restarts_as L r E (rolled_list (recovered_epoch L)) (deleted_list (recovered_epoch L)) history some (ap rolled_list (names_the_report L r E some)) (ap deleted_list (names_the_report L r E some));
  named = λ A rs ds e. let tells : TellsScan (restarted A rs ds) = subst TellsScan (sym e) history.legal.scans in subst (λ M. (rs ≡ rolled_list (recovered_epoch M)) × (ds ≡ deleted_list (recovered_epoch M))) e (named_at_end A rs ds tells);
}
  where
    gives : RestartGives L (recovered (sizes_of L) L) (rolled_list (recovered_epoch L)) (deleted_list (recovered_epoch L))
    gives = restart_gives L history
