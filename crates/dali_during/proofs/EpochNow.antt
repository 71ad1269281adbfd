-- The state of a transaction by the rules over a whole log is that from the beginning of its last epoch on.
use Rattle.std.proofs.Common.{◌≡◌, ℕ, false, List, [], ◌∷◌, ◌++◌, Option, Some, None, refl, ap, sym, subst, ◌∙◌, inl}
use Rattle.std.specs.Prelude.{IsSome}
use Rattle.dali_geometry.specs.Sizes.{Sizes}
use Rattle.dali_record.specs.declared.records.Record.{Record}
use Rattle.dali_record.specs.declared.records.Record.TheVariants.{Format, Begin, Forward, Done, Commit, Ended, Solo, AuditBegin, AuditClean, AuditFail, Restarted, Back}
use Rattle.dali_record.specs.Epochs.{Cut, cut, cut_step}
use Rattle.dali_record.specs.Legal.{TxnState, Unbegun, txn_next, txn_state, Rules, rules_next, rules_state}
use Rattle.dali_record.proofs.Ends.{by_push}
use Rattle.dali_record.proofs.Pushes.{separates, txn_state_push, rules_state_push, cut_push}
use Rattle.dali_record.proofs.Stages.{state_from, state_from_push, IsStart}
use Rattle.dali_record.proofs.EpochRules.{format_empty, restarted_start, some_before}
use Rattle.dali_history.proofs.OwnEpoch.{cut_step_more}

abbrev pub StartsAt : Sizes → ℕ → List Record → Cut → Type 0
StartsAt s t L c = (x : TxnState) × IsStart x × (txn_state s t L ≡ state_from s t x c.now.records)

starts_more : (s : Sizes) (t : ℕ) (L : List Record) (r : Record) → separates r ≡ false → StartsAt s t L (cut L) → StartsAt s t (L ++ r ∷ []) (cut_step (cut L) r)
starts_more s t L r e w = (w.0, w.1, txn_state_push s t L r ∙ ap (λ o. txn_next s t o r) w.2 ∙ sym (ap (λ (c : Cut). state_from s t w.0 c.now.records) (cut_step_more (cut L) r e) ∙ state_from_push s t w.0 (cut L).now.records r))

starts_step : (s : Sizes) (t : ℕ) (L : List Record) (r : Record) → IsSome (rules_state s (L ++ r ∷ [])) → IsSome (txn_state s t (L ++ r ∷ [])) → StartsAt s t L (cut L) → StartsAt s t (L ++ r ∷ []) (cut_step (cut L) r)
starts_step s t L (Format i h) rules some w = (Unbegun, inl refl, subst (λ M. txn_state s t (M ++ Format i h ∷ []) ≡ Some Unbegun) (sym (format_empty s L i h rules)) refl)
starts_step s t L (Restarted rs ds) rules some w = let x = some_before s t L (Restarted rs ds) some in let y = restarted_start s t x.0 rs ds in (y.0, y.1, txn_state_push s t L (Restarted rs ds) ∙ ap (λ o. txn_next s t o (Restarted rs ds)) x.1 ∙ y.2)
starts_step s t L (Begin u) rules some w = starts_more s t L (Begin u) refl w
starts_step s t L (Forward u b) rules some w = starts_more s t L (Forward u b) refl w
starts_step s t L (Done u c a) rules some w = starts_more s t L (Done u c a) refl w
starts_step s t L (Commit u) rules some w = starts_more s t L (Commit u) refl w
starts_step s t L (Ended u) rules some w = starts_more s t L (Ended u) refl w
starts_step s t L (Solo u p b) rules some w = starts_more s t L (Solo u p b) refl w
starts_step s t L AuditBegin rules some w = starts_more s t L AuditBegin refl w
starts_step s t L (AuditClean b) rules some w = starts_more s t L (AuditClean b) refl w
starts_step s t L (AuditFail b rs) rules some w = starts_more s t L (AuditFail b rs) refl w
starts_step s t L (Back u b) rules some w = starts_more s t L (Back u b) refl w

pub starts_at : (s : Sizes) (t : ℕ) (L : List Record) → IsSome (rules_state s L) → IsSome (txn_state s t L) → StartsAt s t L (cut L)
starts_at s t L rules some = by_push (λ M. IsSome (rules_state s M) → IsSome (txn_state s t M) → StartsAt s t M (cut M)) (λ r h. (Unbegun, inl refl, refl)) step L rules some
  where
    earlier : (o : Option Rules) (r : Record) → IsSome (rules_next s o r) → IsSome o
    earlier None r h = absurd (cc)
    earlier (Some g) r h = refl

    step : (M : List Record) (r : Record) → (IsSome (rules_state s M) → IsSome (txn_state s t M) → StartsAt s t M (cut M)) → IsSome (rules_state s (M ++ r ∷ [])) → IsSome (txn_state s t (M ++ r ∷ [])) → StartsAt s t (M ++ r ∷ []) (cut (M ++ r ∷ []))
    step M r ih rules' some' = subst (StartsAt s t (M ++ r ∷ [])) (sym (cut_push M r)) (starts_step s t M r rules' some' (ih (earlier (rules_state s M) r (subst IsSome (rules_state_push s M r) rules')) (let x = some_before s t M r some' in rw x.1 refl)))
