-- A legal log that is cut off stays legal.
use Rattle.std.proofs.Common.{◌≡◌, ℕ, ◌<◌, List, [], ◌∷◌, take, drop, Option, Some, None, refl, ap, sym, ◌∙◌, arith, false}
use Rattle.std.specs.Prelude.{IsSome, is_some, fold}
use Rattle.std.proofs.lemmas.List.{take-append-drop, take-take}
use Rattle.std.proofs.lemmas.List.Sums.{fold-append}
use Rattle.std.proofs.lemmas.Option.{slice_get_within}
use Rattle.dali_lists.proofs.Lists.{get_take, length_take}
use Rattle.dali_geometry.specs.Sizes.{Sizes}
use Rattle.dali_record.specs.declared.records.Record.{Record}
use Rattle.dali_record.specs.declared.records.Record.TheVariants.{Restarted}
use Rattle.dali_record.specs.Log.{touch_in}
use Rattle.dali_record.specs.Legal.{TxnState, Unbegun, txn_state, txn_next, Rules, rules_state, rules_next}
use Rattle.dali_record.proofs.Pushes.{touch_within}
use Rattle.dali_runs.specs.Counts.Counts.{PrefixLegal}

pub none_rules : (s : Sizes) (L : List Record) → fold (rules_next s) None L ≡ None
none_rules s [] = refl
none_rules s (x ∷ L) = none_rules s L

pub none_txn : (s : Sizes) (t : ℕ) (L : List Record) → fold (txn_next s t) None L ≡ None
none_txn s t [] = refl
none_txn s t (x ∷ L) = none_txn s t L

some_rules : (s : Sizes) (o : Option Rules) (L : List Record) → IsSome (fold (rules_next s) o L) → IsSome o
some_rules s None L h = let f : is_some (fold (rules_next s) None L) ≡ false = ap is_some (none_rules s L) in absurd (cc)
some_rules s (Some g) L h = refl

some_txn : (s : Sizes) (t : ℕ) (o : Option TxnState) (L : List Record) → IsSome (fold (txn_next s t) o L) → IsSome o
some_txn s t None L h = let f : is_some (fold (txn_next s t) None L) ≡ false = ap is_some (none_txn s t L) in absurd (cc)
some_txn s t (Some g) L h = refl

pub prefix_legal : PrefixLegal
prefix_legal s L n legal = record {
  rules = some_rules s (rules_state s (take n L)) (drop n L) (rw (← fold-append (rules_next s) (Some _) (take n L) (drop n L), take-append-drop n L) legal.rules);
  txns = λ t. some_txn s t (txn_state s t (take n L)) (drop n L) (rw (← fold-append (txn_next s t) (Some Unbegun) (take n L) (drop n L), take-append-drop n L) (legal.txns t));
  scans = λ k rs ds e.
      let within : k < n = omega (arith, slice_get_within (take n L) k (Restarted rs ds) e, length_take n L) in
      rw (take-take k n L (omega (arith, within))) (legal.scans k rs ds (sym (get_take n k L within) ∙ e));
  reads = λ i a e. legal.reads i a (ap touch_in (sym (get_take n i L (omega (arith, touch_within (take n L) i a e, length_take n L)))) ∙ e);
}
