-- A commit keeps what holds of each key: the value moves on by the transaction's calls.
use Rattle.std.proofs.Common.{◌≡◌, ℕ, true, false, List, [], ◌∷◌, ◌++◌, Option, Some, refl, ap, sym, subst, ◌∙◌, ◌⊎◌, inl, inr, ⊎_elim, ◌≢◌, append-nil}
use Rattle.std.specs.Prelude.{◌==◌, ◌||◌, reverse, flat_map}
use Rattle.std.proofs.lemmas.List.Sums.{fold-append}
use Rattle.std.proofs.lemmas.List.Elements.{filter-append}
use Rattle.std.proofs.lemmas.List.Folds.{list_any-append}
use Rattle.std.proofs.lemmas.Grind.{flat_map-append}
use Rattle.std.proofs.lemmas.Bool.Decides.{eqb_tells}
use Rattle.std.proofs.lemmas.Bool.{eq-eqb, ne_eqb}
use mathlib.Core.Path.{fun_ext}
use mathlib.Core.Bool.{or-true, or-false}
use Rattle.dali_geometry.specs.Sizes.{Sizes}
use Rattle.dali_record.specs.declared.operations.Pending.{Pending}
use Rattle.dali_record.specs.declared.records.Call.{Call}
use Rattle.dali_record.specs.declared.records.Answer.{Answer}
use Rattle.dali_record.specs.declared.records.Record.{Record}
use Rattle.dali_record.specs.declared.records.Record.TheVariants.{Commit}
use Rattle.dali_record.specs.Log.{undos_of, committed, calls_of}
use Rattle.dali_record.specs.Damage.{has}
use Rattle.dali_record.specs.Legal.{Working, Active, is_unwinding, is_level, dead_of, Committed as IsOver}
use Rattle.dali_record.proofs.Pushes.{undos_of_push, committed_push, calls_of_push}
use Rattle.dali_history.specs.Serial.{values_after, value_step, on_key, call_key, calls_in_order}
use Rattle.dali_history.specs.Kept.Kept.{kept_state}
use Rattle.dali_access.proofs.IndexLemmas.Worlds.{World, Flags}
use Rattle.dali_access.proofs.IndexLemmas.Parts.{Part}
use Rattle.dali_history.proofs.SlotsLemmas.SlotUndos.{Leads, NoneOn, leads_none, none_reverse}
use Rattle.dali_history.proofs.SlotsLemmas.ValueSlots.{Stands, Reached, stands_same}
use Rattle.dali_history.proofs.SlotsLemmas.RunningTxn.{Runs, runs_stand}
use Rattle.dali_history.proofs.KeptLemmas.WithoutLast.{left, Touches, Alters, touches_push, alters_push}
use Rattle.dali_history.proofs.KeptLemmas.Invariant.{AreDead, IsClear, IsAlone, Keyed, Knows}
use Rattle.dali_history.proofs.KeptLemmas.OperationsKeep.{leads_alone, dead_none}
use Rattle.dali_history.proofs.KeptLemmas.Removals.{dead_of_none, leads_dead}

-- a commit of t, with what is known before it
pub record CommitStep (s : Sizes) (cuts : List ℕ) (J : List Record) (t : ℕ) (w : Working) : Type 0 where
  pub before : kept_state s t J ≡ Some (Active w)
  pub known : Knows t J (Some (Active w))
  pub level : is_level w ≡ true
  pub still : is_unwinding w.way ≡ false
  pub after : kept_state s t (J ++ Commit t ∷ []) ≡ Some (IsOver (dead_of w.undos))
  pub beside : (u : ℕ) → u ≢ t → kept_state s u (J ++ Commit t ∷ []) ≡ kept_state s u J
  pub uncut : has cuts t ≡ false

-- ---- calls in order of the commits
commit_calls : (t u : ℕ) (J : List Record) → calls_of u (J ++ Commit t ∷ []) ≡ calls_of u J
commit_calls t u J = calls_of_push u J (Commit t) ∙ append-nil (calls_of u J)

commit_order : (t : ℕ) (J : List Record) → calls_in_order (committed (J ++ Commit t ∷ [])) (J ++ Commit t ∷ []) ≡ calls_in_order (committed J) J ++ calls_of t J
commit_order t J =
    ap (λ ts. flat_map (λ u. calls_of u (J ++ Commit t ∷ [])) ts) (committed_push J (Commit t))
    ∙ ap (λ (f : ℕ → List (Call × Answer)). flat_map f (committed J ++ t ∷ [])) (fun_ext (λ u. commit_calls t u J))
    ∙ flat_map-append (λ u. calls_of u J) (committed J) (t ∷ [])
    ∙ ap (λ cs. calls_in_order (committed J) J ++ cs) (append-nil (calls_of t J))

commit_values : (t : ℕ) (J : List Record) (k : ℕ) (start : Option (List ℕ)) (v : Option (List ℕ)) → values_after (Some start) (on_key k (calls_in_order (committed J) J)) ≡ Some v → values_after (Some start) (on_key k (calls_in_order (committed (J ++ Commit t ∷ [])) (J ++ Commit t ∷ []))) ≡ values_after (Some v) (on_key k (calls_of t J))
commit_values t J k start v h =
    ap (λ cs. values_after (Some start) (on_key k cs)) (commit_order t J)
    ∙ ap (values_after (Some start)) (filter-append (λ p. call_key p.0 == k) (calls_in_order (committed J) J) (calls_of t J))
    ∙ fold-append value_step (Some start) (on_key k (calls_in_order (committed J) J)) (on_key k (calls_of t J))
    ∙ ap (λ o. values_after o (on_key k (calls_of t J))) h

-- ---- the undos that stand

pub left_committed : (t : ℕ) (J : List Record) → left t (J ++ Commit t ∷ []) ≡ []
left_committed t J =
    let e : has (committed (J ++ Commit t ∷ [])) t ≡ (has (committed J) t || true) = ap (λ ts. has ts t) (committed_push J (Commit t)) ∙ list_any-append (λ x. x == t) (committed J) (t ∷ []) ∙ rw (eq-eqb t t refl) refl in
    rw (e, or-true (has (committed J) t)) refl

pub left_beside : (t u : ℕ) (J : List Record) → u ≢ t → left u (J ++ Commit t ∷ []) ≡ left u J
left_beside t u J h =
    let e : has (committed (J ++ Commit t ∷ [])) u ≡ (has (committed J) u || false) = ap (λ ts. has ts u) (committed_push J (Commit t)) ∙ list_any-append (λ x. x == u) (committed J) (t ∷ []) ∙ rw (ne_eqb t u (λ i. h (sym i))) refl in
    let undos : undos_of u (J ++ Commit t ∷ []) ≡ undos_of u J = undos_of_push u J (Commit t) in
    rw (e, or-false (has (committed J) u), undos) refl

module _ (s : Sizes) (cuts : List ℕ) (J : List Record) (W : World) (F : Flags) (t : ℕ) (w : Working) (x : CommitStep s cuts J t w) where
  own_undos : left t J ≡ w.undos
  own_undos = rw (x.known.1) (x.known.0)

  none_own : (k : ℕ) → NoneOn k (left t (J ++ Commit t ∷ []))
  none_own k = subst (λ ps. NoneOn k ps) (sym (left_committed t J)) tt

  alone_push : (k u : ℕ) → IsAlone u k J → IsAlone u k (J ++ Commit t ∷ [])
  alone_push k u h y apart = ⊎_elim (λ a. subst (λ z. NoneOn k (left z (J ++ Commit t ∷ []))) (sym a.1) (none_own k)) (λ a. subst (λ ps. NoneOn k ps) (sym (left_beside t y J a.1)) (h y apart)) (eqb_tells y t)

  altered_push : (k : ℕ) → ((u : ℕ) → NoneOn k (left u J) ⊎ Alters u k J) → (u : ℕ) → NoneOn k (left u (J ++ Commit t ∷ [])) ⊎ Alters u k (J ++ Commit t ∷ [])
  altered_push k h u = ⊎_elim (λ a. inl (subst (λ z. NoneOn k (left z (J ++ Commit t ∷ []))) (sym a.1) (none_own k))) (λ a. ⊎_elim (λ n. inl (subst (λ ps. NoneOn k ps) (sym (left_beside t u J a.1)) n)) (λ n. inr (alters_push u k J (Commit t) n)) (h u)) (eqb_tells u t)

  not_running : (u : ℕ) (y : Working) → kept_state s u (J ++ Commit t ∷ []) ≡ Some (Active y) → (u ≢ t) × (kept_state s u J ≡ Some (Active y))
  not_running u y e = ⊎_elim (λ a. let z : Some (IsOver (dead_of w.undos)) ≡ Some (Active y) = sym x.after ∙ subst (λ i. kept_state s i (J ++ Commit t ∷ []) ≡ Some (Active y)) a.1 e in absurd (cc (z))) (λ a. (a.1, sym (x.beside u a.1) ∙ e)) (eqb_tells u t)

  removals : (u : ℕ) (ps : List Pending) → kept_state s u (J ++ Commit t ∷ []) ≡ Some (IsOver ps) → ((u ≡ t) × (ps ≡ dead_of w.undos)) ⊎ ((u ≢ t) × (kept_state s u J ≡ Some (IsOver ps)))
  removals u ps e = ⊎_elim (λ a. let z : Some (IsOver (dead_of w.undos)) ≡ Some (IsOver ps) = sym x.after ∙ subst (λ i. kept_state s i (J ++ Commit t ∷ []) ≡ Some (IsOver ps)) a.1 e in inl (a.1, cc (z))) (λ a. inr (a.1, sym (x.beside u a.1) ∙ e)) (eqb_tells u t)

  -- the transaction had nothing to do with the key
  clear : (k : ℕ) (start : Option (List ℕ)) → Keyed s cuts J W F start k → IsClear k (calls_of t J) w → Keyed s cuts (J ++ Commit t ∷ []) W F start k
  clear k start h c = record {
    value = h.value;
    slots = h.slots;
    holder = h.holder;
    replayed = commit_values t J k start h.value h.replayed ∙ ap (values_after (Some h.value)) c.none;
    stands = h.stands;
    reached = h.reached;
    leads = leads (eqb_tells h.holder t);
    others = alone_push k h.holder h.others;
    altered = altered_push k h.altered;
    txns = λ u y e uncut still. let z = not_running u y e in ⊎_elim (λ d. inl (subst (λ cs. IsClear k cs y) (sym (commit_calls t u J)) d)) (λ d. inr (touches_push u k J (Commit t) d.0, alone_push k u d.1, subst (λ cs. Runs s F k h.value (W k) cs y) (sym (commit_calls t u J)) d.2)) (h.txns u y z.1 uncut still);
    dead = λ u ps e. ⊎_elim
        (λ a. let n : NoneOn k ps = subst (λ xs. NoneOn k xs) (sym a.1) (dead_of_none k w.undos c.undos) in (inl n, dead_none k ps (W k) n))
        (λ a. let y = h.dead u ps a.1 in (⊎_elim (λ n. inl n) (λ n. inr (alters_push u k J (Commit t) n)) y.0, y.1))
        (removals u ps e);
  }
    where
      none : NoneOn k (left t J)
      none = subst (λ ps. NoneOn k ps) (sym own_undos) c.undos

      leads : (((h.holder == t) ≡ true) × (h.holder ≡ t)) ⊎ (((h.holder == t) ≡ false) × (h.holder ≢ t)) → Leads s k (reverse (left h.holder (J ++ Commit t ∷ []))) (W k) h.slots
      leads (inl a) =
          let same : W k ≡ h.slots = leads_none s k (reverse (left h.holder J)) (W k) h.slots (none_reverse k (left h.holder J) (subst (λ z. NoneOn k (left z J)) (sym a.1) none)) h.leads in
          subst (λ z. Leads s k (reverse (left z (J ++ Commit t ∷ []))) (W k) h.slots) (sym a.1) (subst (λ ps. Leads s k (reverse ps) (W k) h.slots) (sym (left_committed t J)) same)
      leads (inr a) = subst (λ ps. Leads s k (reverse ps) (W k) h.slots) (sym (left_beside t h.holder J a.1)) h.leads

  -- the transaction's calls on the key
  moves : (k : ℕ) (start : Option (List ℕ)) (h : Keyed s cuts J W F start k) → Touches t k J → IsAlone t k J → Runs s F k h.value (W k) (calls_of t J) w → Keyed s cuts (J ++ Commit t ∷ []) W F start k
  moves k start h touches alone runs = record {
    value = stand.0;
    slots = W k;
    holder = t;
    replayed = commit_values t J k start h.value h.replayed ∙ stand.1;
    stands = stand.2;
    reached = stand.3;
    leads = subst (λ ps. Leads s k (reverse ps) (W k) (W k)) (sym (left_committed t J)) refl;
    others = alone_push k t alone;
    altered = altered_push k h.altered;
    txns = λ u y e uncut still. let z = not_running u y e in ⊎_elim (λ d. inl (subst (λ cs. IsClear k cs y) (sym (commit_calls t u J)) d)) (λ d. inr (touches_push u k J (Commit t) d.0, alone_push k u d.1, subst (λ cs. Runs s F k stand.0 (W k) cs y) (sym (commit_calls t u J)) (subst (λ o. Runs s F k o (W k) (calls_of u J) y) (same u d.1 z.0) d.2))) (h.txns u y z.1 uncut still);
    dead = λ u ps e. ⊎_elim (λ a. rw (a.0, a.1) (own_dead, all_dead)) (λ a. let y = h.dead u ps a.1 in (⊎_elim (λ n. inl n) (λ n. inr (alters_push u k J (Commit t) n)) y.0, y.1)) (removals u ps e);
  }
    where
      stand : (v : Option (List ℕ)) × (values_after (Some h.value) (on_key k (calls_of t J)) ≡ Some v) × Stands s (W k) v × Reached s F k (W k)
      stand = runs_stand s F k h.value (W k) (calls_of t J) w x.level runs

      own_leads : Leads s k (reverse (left t J)) (W k) h.slots
      own_leads = leads_alone s J k t h.holder (W k) h.slots alone h.others h.leads

      all_dead : AreDead k (dead_of w.undos) (W k)
      all_dead = leads_dead s k w.undos (W k) h.slots (subst (λ ps. Leads s k (reverse ps) (W k) h.slots) own_undos own_leads)

      own_dead : NoneOn k (dead_of w.undos) ⊎ Alters t k (J ++ Commit t ∷ [])
      own_dead = ⊎_elim (λ n. inl (dead_of_none k w.undos (subst (λ ps. NoneOn k ps) own_undos n))) (λ n. inr (alters_push t k J (Commit t) n)) (h.altered t)

      -- another transaction that stands on the key: nothing was changed
      same : (u : ℕ) → IsAlone u k J → u ≢ t → h.value ≡ stand.0
      same u other apart =
          let quiet : W k ≡ h.slots = leads_none s k (reverse (left t J)) (W k) h.slots (none_reverse k (left t J) (other t (λ e. apart (sym e)))) own_leads in
          stands_same s h.slots h.value stand.0 h.stands (subst (λ (X : Part). Stands s X stand.0) quiet stand.2)

  -- a commit keeps what holds of each key
  pub keyed_commit : (k : ℕ) (start : Option (List ℕ)) → Keyed s cuts J W F start k → Keyed s cuts (J ++ Commit t ∷ []) W F start k
  keyed_commit k start h = ⊎_elim (λ c. clear k start h c) (λ c. moves k start h c.0 c.1 c.2) (h.txns t w x.before x.uncut x.still)
