-- A solo that frees a removal keeps what holds of each key.
use Rattle.std.proofs.Common.{◌≡◌, ℕ, true, false, List, [], ◌∷◌, ◌++◌, Option, Some, refl, ap, sym, subst, ◌∙◌, ◌⊎◌, inl, inr, ⊎_elim, ◌≢◌}
use Rattle.std.specs.Prelude.{reverse}
use Rattle.std.proofs.lemmas.Bool.Decides.{eqb_tells}
use Rattle.dali_geometry.specs.Sizes.{Sizes}
use Rattle.dali_record.specs.declared.operations.Pending.{Pending}
use Rattle.dali_record.specs.declared.operations.Block.{Block}
use Rattle.dali_record.specs.declared.records.Record.{Record}
use Rattle.dali_record.specs.declared.records.Record.TheVariants.{Solo}
use Rattle.dali_record.specs.Blocks.{changes_item}
use Rattle.dali_record.specs.Log.{undos_of, committed, calls_of}
use Rattle.dali_record.specs.Damage.{has}
use Rattle.dali_record.specs.Legal.{Working, Active, Over, is_removal, Committed as IsOver}
use Rattle.dali_record.proofs.Pushes.{undos_of_push}
use Rattle.dali_history.specs.Serial.{values_after, on_key, calls_in_order}
use Rattle.dali_history.specs.Kept.Kept.{kept_state, IsLockLegalBut}
use Rattle.dali_access.proofs.IndexLemmas.Worlds.{World, Flags, put_at}
use Rattle.dali_access.proofs.IndexLemmas.Parts.{Part, put_part, put_part-other, put_part-cases, put_at-own, put_at-beside}
use Rattle.dali_history.proofs.SlotsLemmas.SlotUndos.{Leads, NoneOn, leads_none, none_reverse, slot_of}
use Rattle.dali_history.proofs.SlotsLemmas.ValueSlots.{Stands, Reached, stands_freed}
use Rattle.dali_history.proofs.SlotsLemmas.RunningTxn.{Runs}
use Rattle.dali_history.proofs.KeptLemmas.WithoutLast.{left, Alters, touches_push, alters_push, yields_altered, yields_touched}
use Rattle.dali_history.proofs.KeptLemmas.Invariant.{AreDead, Apart, IsClear, IsAlone, Keyed, keyed_on, Knows, yields_left, yields_active, yields_committed, same_calls}
use Rattle.dali_history.proofs.KeptLemmas.OperationsKeep.{dead_none}

-- a removal of the list is freed, and those behind it are left
abbrev pub Frees : List Pending → Pending → List Pending → Type 0
Frees [] d qs = ⊥
Frees (p ∷ ps) d qs = ((p ≡ d) × (ps ≡ qs)) ⊎ Frees ps d qs

-- a solo of t that frees for u, with what is known before it
pub record SoloStep (s : Sizes) (cuts : List ℕ) (J : List Record) (t u : ℕ) (b : Block) (ps qs : List Pending) (d : Pending) : Type 0 where
  pub knows : (i : ℕ) → Knows i J (kept_state s i J)
  pub before : kept_state s u J ≡ Some (IsOver ps)
  pub after : kept_state s u (J ++ Solo t u b ∷ []) ≡ Some (IsOver qs)
  pub beside : (i : ℕ) → i ≢ u → (kept_state s i (J ++ Solo t u b ∷ []) ≡ kept_state s i J) ⊎ (kept_state s i (J ++ Solo t u b ∷ []) ≡ Some Over)
  pub frees : Frees ps d qs
  pub on : b.key ≡ d.key
  pub changes : changes_item b ≡ true
  pub locks : IsLockLegalBut cuts (J ++ Solo t u b ∷ [])
  pub uncut : (i : ℕ) → has cuts i ≡ true → has (committed J) i ≡ false

-- what the removal is, and what is left behind it
pub frees_dead : (k : ℕ) (ps qs : List Pending) (d : Pending) (P : Part) → Frees ps d qs → AreDead k ps P → d.key ≡ k → ((ys : List ℕ) × (P d.region (slot_of d.undo) ≡ 2 ∷ ys) × (is_removal d.undo ≡ true)) × Apart k d qs × AreDead k qs P
frees_dead k [] qs d P f h on = absurd f
frees_dead k (p ∷ ps) qs d P (inl f) h on =
    let key : p.key ≡ k = ap (λ (x : Pending). x.key) f.0 ∙ on in
    (subst (λ (x : Pending). (ys : List ℕ) × (P x.region (slot_of x.undo) ≡ 2 ∷ ys) × (is_removal x.undo ≡ true)) f.0 (h.0 key), subst (λ xs. Apart k d xs) f.1 (subst (λ (x : Pending). Apart k x ps) f.0 (h.1 key)), subst (λ xs. AreDead k xs P) f.1 h.2)
frees_dead k (p ∷ ps) qs d P (inr f) h on = frees_dead k ps qs d P f h.2 on

frees_none : (k : ℕ) (ps qs : List Pending) (d : Pending) → Frees ps d qs → NoneOn k ps → NoneOn k qs × (d.key ≢ k)
frees_none k [] qs d f h = absurd f
frees_none k (p ∷ ps) qs d (inl f) h = (subst (λ xs. NoneOn k xs) f.1 h.1, subst (λ (x : Pending). x.key ≢ k) f.0 h.0)
frees_none k (p ∷ ps) qs d (inr f) h = frees_none k ps qs d f h.1

frees_rest : (k : ℕ) (ps qs : List Pending) (d : Pending) (P : Part) → Frees ps d qs → AreDead k ps P → AreDead k qs P
frees_rest k [] qs d P f h = absurd f
frees_rest k (p ∷ ps) qs d P (inl f) h = subst (λ xs. AreDead k xs P) f.1 h.2
frees_rest k (p ∷ ps) qs d P (inr f) h = frees_rest k ps qs d P f h.2

-- those that are apart from a slot stay dead where it is freed
dead_after : (k : ℕ) (qs : List Pending) (d : Pending) (P : Part) → Apart k d qs → AreDead k qs P → AreDead k qs (put_part P d.region (slot_of d.undo) [])
dead_after k [] d P a h = tt
dead_after k (q ∷ qs) d P a h = ((λ e. let y = h.0 e in (y.0, put_part-other P d.region (slot_of d.undo) [] q.region (slot_of q.undo) (a.0 e) ∙ y.1, y.2)), h.1, dead_after k qs d P a.1 h.2)

-- the removal is freed in the slots
abbrev pub FreesSlot : World → World → Pending → Type 0
FreesSlot W V d = V ≡ put_at W d.key d.region (slot_of d.undo) []

module _ (s : Sizes) (cuts : List ℕ) (J : List Record) (W V : World) (F : Flags) (t u : ℕ) (b : Block) (ps qs : List Pending) (d : Pending) (x : SoloStep s cuts J t u b ps qs d) where
  same : ((i : ℕ) → calls_of i (J ++ Solo t u b ∷ []) ≡ calls_of i J) × (committed (J ++ Solo t u b ∷ []) ≡ committed J) × (calls_in_order (committed (J ++ Solo t u b ∷ [])) (J ++ Solo t u b ∷ []) ≡ calls_in_order (committed J) J)
  same = same_calls J (Solo t u b) refl (λ i. refl)

  same_left : (i : ℕ) → left i (J ++ Solo t u b ∷ []) ≡ left i J
  same_left i = let undos : undos_of i (J ++ Solo t u b ∷ []) ≡ undos_of i J = undos_of_push i J (Solo t u b) in rw (same.1, undos) refl

  alone_push : (k i : ℕ) → IsAlone i k J → IsAlone i k (J ++ Solo t u b ∷ [])
  alone_push k i h y apart = subst (λ xs. NoneOn k xs) (sym (same_left y)) (h y apart)

  altered_push : (k : ℕ) → ((i : ℕ) → NoneOn k (left i J) ⊎ Alters i k J) → (i : ℕ) → NoneOn k (left i (J ++ Solo t u b ∷ [])) ⊎ Alters i k (J ++ Solo t u b ∷ [])
  altered_push k h i = ⊎_elim (λ n. inl (subst (λ xs. NoneOn k xs) (sym (same_left i)) n)) (λ n. inr (alters_push i k J (Solo t u b) n)) (h i)

  -- the states of running and committed transactions
  running : (i : ℕ) (y : Working) → kept_state s i (J ++ Solo t u b ∷ []) ≡ Some (Active y) → (i ≢ u) × (kept_state s i J ≡ Some (Active y))
  running i y e = ⊎_elim (λ a. let z : Some (IsOver qs) ≡ Some (Active y) = sym x.after ∙ subst (λ j. kept_state s j (J ++ Solo t u b ∷ []) ≡ Some (Active y)) a.1 e in absurd (cc (z))) (λ a. ⊎_elim (λ c. (a.1, sym c ∙ e)) (λ c. let z : Some Over ≡ Some (Active y) = sym c ∙ e in absurd (cc (z))) (x.beside i a.1)) (eqb_tells i u)

  removals : (i : ℕ) (xs : List Pending) → kept_state s i (J ++ Solo t u b ∷ []) ≡ Some (IsOver xs) → ((i ≡ u) × (xs ≡ qs)) ⊎ ((i ≢ u) × (kept_state s i J ≡ Some (IsOver xs)))
  removals i xs e = ⊎_elim (λ a. let z : Some (IsOver qs) ≡ Some (IsOver xs) = sym x.after ∙ subst (λ j. kept_state s j (J ++ Solo t u b ∷ []) ≡ Some (IsOver xs)) a.1 e in inl (a.1, sym (cc (z)))) (λ a. ⊎_elim (λ c. inr (a.1, sym c ∙ e)) (λ c. let z : Some Over ≡ Some (IsOver xs) = sym c ∙ e in absurd (cc (z))) (x.beside i a.1)) (eqb_tells i u)

  off_solo : (k : ℕ) (start : Option (List ℕ)) → FreesSlot W V d → d.key ≢ k → Keyed s cuts J W F start k → Keyed s cuts (J ++ Solo t u b ∷ []) V F start k
  off_solo k start frees off h =
      keyed_on s cuts J (Solo t u b) W V F start k h same.2
      (subst (λ xs. Leads s k (reverse xs) (V k) h.slots) (sym (same_left h.holder)) (subst (λ (X : Part). Leads s k (reverse (left h.holder J)) X h.slots) (sym stay) h.leads))
      (alone_push k h.holder h.others)
      (altered_push k h.altered)
      (λ i y e uncut still. let z = running i y e in ⊎_elim (λ c. inl (subst (λ cs. IsClear k cs y) (sym (same.0 i)) c)) (λ c. inr (touches_push i k J (Solo t u b) c.0, alone_push k i c.1, subst (λ cs. Runs s F k h.value (V k) cs y) (sym (same.0 i)) (subst (λ (X : Part). Runs s F k h.value X (calls_of i J) y) (sym stay) c.2))) (h.txns i y z.1 uncut still))
      (λ i xs e. ⊎_elim
      (λ a. let y = h.dead u ps x.before in rw (a.0, a.1) (⊎_elim (λ n. inl (frees_none k ps qs d x.frees n).0) (λ n. inr (alters_push u k J (Solo t u b) n)) y.0, subst (λ (X : Part). AreDead k qs X) (sym stay) (frees_rest k ps qs d (W k) x.frees y.1)))
      (λ a. let y = h.dead i xs a.1 in (⊎_elim (λ n. inl n) (λ n. inr (alters_push i k J (Solo t u b) n)) y.0, subst (λ (X : Part). AreDead k xs X) (sym stay) y.1))
      (removals i xs e))
    where
      stay : V k ≡ W k
      stay = ap (λ (X : World). X k) frees ∙ put_at-beside W d.key d.region (slot_of d.undo) [] k (λ e. off (sym e))

  on_solo : (k : ℕ) (start : Option (List ℕ)) → FreesSlot W V d → d.key ≡ k → Keyed s cuts J W F start k → Keyed s cuts (J ++ Solo t u b ∷ []) V F start k
  on_solo k start frees on h = record {
    value = h.value;
    slots = V k;
    holder = u;
    replayed = ap (λ cs. values_after (Some start) (on_key k cs)) same.2 ∙ h.replayed;
    stands = subst (λ (X : Part). Stands s X h.value) (sym put) (stands_freed s (W k) h.value d.region (slot_of d.undo) removed.0.0 removed.0.1 (subst (λ (X : Part). Stands s X h.value) (sym quiet) h.stands));
    reached = subst (λ (X : Part). Reached s F k X) (sym put) still;
    leads = subst (λ xs. Leads s k (reverse xs) (V k) (V k)) (sym (same_left u ∙ none)) refl;
    others = alone_push k u alone;
    altered = altered_push k h.altered;
    txns = λ i y e uncut unwound. let z = running i y e in ⊎_elim (λ c. inl (subst (λ cs. IsClear k cs y) (sym (same.0 i)) c)) (λ c. absurd (yields_active cuts J (Solo t u b) i k y (subst (λ o. Knows i J o) z.1 (x.knows i)) uncut (yields_touched cuts J (Solo t u b) (record { txn = t; owner = u; block = b }) i k x.locks refl (x.on ∙ on) z.0 x.changes c.0))) (h.txns i y z.1 uncut unwound);
    dead = λ i xs e. ⊎_elim
        (λ a. rw (a.0, a.1) (⊎_elim (λ n. inl (frees_none k ps qs d x.frees n).0) (λ n. inr (alters_push u k J (Solo t u b) n)) (h.dead u ps x.before).0, subst (λ (X : Part). AreDead k qs X) (sym put) (dead_after k qs d (W k) removed.1 removed.2)))
        (λ a. ⊎_elim (λ n. (inl n, dead_none k xs (V k) n)) (λ n. absurd (yields_committed cuts J (Solo t u b) i k xs x.uncut (subst (λ o. Knows i J o) a.1 (x.knows i)) (yields_altered cuts J (Solo t u b) (record { txn = t; owner = u; block = b }) i k x.locks refl (x.on ∙ on) a.0 n))) (h.dead i xs a.1).0)
        (removals i xs e);
  }
    where
      alone : IsAlone u k J
      alone i apart = ⊎_elim (λ n. n) (λ n. yields_left cuts J (Solo t u b) i k (kept_state s i J) (x.knows i) (yields_altered cuts J (Solo t u b) (record { txn = t; owner = u; block = b }) i k x.locks refl (x.on ∙ on) apart n)) (h.altered i)

      -- the committed transaction has no undos left
      none : left u J ≡ []
      none = let known : Knows u J (Some (IsOver ps)) = subst (λ o. Knows u J o) x.before (x.knows u) in rw (known.0) refl

      own_none : NoneOn k (left u J)
      own_none = subst (λ xs. NoneOn k xs) (sym none) tt

      quiet : W k ≡ h.slots
      quiet = leads_none s k (reverse (left h.holder J)) (W k) h.slots (none_reverse k (left h.holder J) (⊎_elim (λ a. subst (λ z. NoneOn k (left z J)) (sym a.1) own_none) (λ a. alone h.holder a.1) (eqb_tells h.holder u))) h.leads

      removed : ((ys : List ℕ) × (W k d.region (slot_of d.undo) ≡ 2 ∷ ys) × (is_removal d.undo ≡ true)) × Apart k d qs × AreDead k qs (W k)
      removed = frees_dead k ps qs d (W k) x.frees (h.dead u ps x.before).1 on

      put : V k ≡ put_part (W k) d.region (slot_of d.undo) []
      put = ap (λ (X : World). X k) frees ∙ subst (λ z. put_at W z d.region (slot_of d.undo) [] k ≡ put_part (W k) d.region (slot_of d.undo) []) (sym on) (put_at-own W k d.region (slot_of d.undo) [])

      still : Reached s F k (put_part (W k) d.region (slot_of d.undo) [])
      still r i y ys low g = ⊎_elim (λ a. let no : [] ≡ y ∷ ys = sym a.2 ∙ g in absurd (cc (no))) (λ a. subst (λ (X : Part). Reached s F k X) (sym quiet) h.reached r i y ys low (sym a.1 ∙ g)) (put_part-cases (W k) d.region (slot_of d.undo) [] r i)

  -- a solo keeps what holds of each key
  pub keyed_solo : FreesSlot W V d → (k : ℕ) (start : Option (List ℕ)) → Keyed s cuts J W F start k → Keyed s cuts (J ++ Solo t u b ∷ []) V F start k
  keyed_solo frees k start h = ⊎_elim (λ a. on_solo k start frees a.1 h) (λ a. off_solo k start frees a.1 h) (eqb_tells d.key k)
