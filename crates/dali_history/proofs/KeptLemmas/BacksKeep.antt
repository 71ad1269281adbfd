-- A block that takes back keeps what holds of each key.
use Rattle.std.proofs.Common.{◌≡◌, ℕ, ◌<◌, Bool, true, false, List, [], ◌∷◌, ◌++◌, length, Option, Some, refl, ap, sym, subst, ◌∙◌, ◌⊎◌, inl, inr, ⊎_elim, ◌≢◌, arith}
use Rattle.std.specs.Prelude.{◌==◌, if◌then◌else◌, reverse, nat_lt}
use Rattle.std.proofs.lemmas.List.{reverse-append}
use Rattle.std.proofs.lemmas.Bool.Decides.{eqb_tells, nat_tests}
use Rattle.std.proofs.lemmas.Bool.{eq-eqb, ne_eqb}
use Rattle.dali_geometry.specs.Sizes.{Sizes}
use Rattle.dali_record.specs.declared.operations.Pending.{Pending}
use Rattle.dali_record.specs.declared.operations.Block.{Block}
use Rattle.dali_record.specs.declared.records.Record.{Record}
use Rattle.dali_record.specs.declared.records.Record.TheVariants.{Back}
use Rattle.dali_record.specs.Blocks.{changes_item}
use Rattle.dali_record.specs.Log.{undos_of, committed, calls_of, last_of, drop_last}
use Rattle.dali_record.specs.Damage.{has}
use Rattle.dali_record.specs.Legal.{Working, Way, Onward, TakingBack, Unwinding, Active, is_unwinding, way_back, Committed as IsOver}
use Rattle.dali_record.proofs.Pushes.{undos_of_push}
use Rattle.dali_history.specs.Serial.{on_key, calls_in_order}
use Rattle.dali_history.specs.Kept.Kept.{kept_state, IsLockLegalBut}
use Rattle.dali_access.proofs.IndexLemmas.Worlds.{World, Flags}
use Rattle.dali_access.proofs.IndexLemmas.Parts.{Part}
use Rattle.dali_history.proofs.SlotsLemmas.SlotUndos.{Leads, NoneOn, Finds, undone_part, leads_first}
use Rattle.dali_history.proofs.SlotsLemmas.RunningTxn.{Runs}
use Rattle.dali_history.proofs.SlotsLemmas.AnswersAndBacks.{Undoes, undoes_part, undoes_leads, runs_back, last_split}
use Rattle.dali_history.proofs.KeptLemmas.WithoutLast.{left, Touches, Alters, touches_push, alters_push, yields_altered}
use Rattle.dali_history.proofs.KeptLemmas.Invariant.{AreDead, IsClear, IsAlone, Keyed, keyed_on, FitsWay, Knows, yields_committed, same_calls}
use Rattle.dali_history.proofs.KeptLemmas.OperationsKeep.{dead_none}

abbrev pub taken_back : Working → Working
taken_back w = record { undos = drop_last w.undos; mark = w.mark; progress = w.progress; way = way_back w }

-- a block of t that takes back its last undo, with what is known before it
pub record BackStep (s : Sizes) (cuts : List ℕ) (J : List Record) (t : ℕ) (b : Block) (w : Working) (p : Pending) : Type 0 where
  pub knows : (u : ℕ) → Knows u J (kept_state s u J)
  pub before : kept_state s t J ≡ Some (Active w)
  pub after : kept_state s t (J ++ Back t b ∷ []) ≡ Some (Active (taken_back w))
  pub beside : (u : ℕ) → u ≢ t → kept_state s u (J ++ Back t b ∷ []) ≡ kept_state s u J
  pub last : last_of w.undos ≡ Some p
  pub on : b.key ≡ p.key
  pub changes : changes_item b ≡ true
  pub locks : IsLockLegalBut cuts (J ++ Back t b ∷ [])
  pub uncut : (u : ℕ) → has cuts u ≡ true → has (committed J) u ≡ false

none_front : (k : ℕ) (p : Pending) (ps : List Pending) → NoneOn k (ps ++ p ∷ []) → NoneOn k ps × (p.key ≢ k)
none_front k p [] h = (tt, h.0)
none_front k p (q ∷ ps) h = let y = none_front k p ps h.1 in ((h.0, y.0), y.1)

module _ (s : Sizes) (cuts : List ℕ) (J : List Record) (W V : World) (F : Flags) (t : ℕ) (b : Block) (w : Working) (p : Pending) (x : BackStep s cuts J t b w p) where
  known : Knows t J (Some (Active w))
  known = subst (λ o. Knows t J o) x.before (x.knows t)

  split : w.undos ≡ drop_last w.undos ++ p ∷ []
  split = last_split w.undos p x.last

  own_undos : left t J ≡ w.undos
  own_undos = rw (known.1) (known.0)

  old_left : left t J ≡ drop_last w.undos ++ p ∷ []
  old_left = own_undos ∙ split

  old_reverse : reverse (left t J) ≡ p ∷ reverse (drop_last w.undos)
  old_reverse = ap reverse old_left ∙ reverse-append (drop_last w.undos) (p ∷ [])

  -- the last undo finds its slot as it was left
  pub back_finds : (start : Option (List ℕ)) → Keyed s cuts J W F start p.key → Finds s p (W p.key)
  back_finds start h = go (eqb_tells h.holder t)
    where
      go : (((h.holder == t) ≡ true) × (h.holder ≡ t)) ⊎ (((h.holder == t) ≡ false) × (h.holder ≢ t)) → Finds s p (W p.key)
      go (inl a) = (leads_first s p.key p (reverse (drop_last w.undos)) (W p.key) h.slots refl (subst (λ ps. Leads s p.key ps (W p.key) h.slots) old_reverse (subst (λ z. Leads s p.key (reverse (left z J)) (W p.key) h.slots) a.1 h.leads))).0
      go (inr a) = absurd ((none_front p.key p (drop_last w.undos) (subst (λ ps. NoneOn p.key ps) old_left (h.others t (λ e. a.1 (sym e))))).1 refl)

  same : ((u : ℕ) → calls_of u (J ++ Back t b ∷ []) ≡ calls_of u J) × (committed (J ++ Back t b ∷ []) ≡ committed J) × (calls_in_order (committed (J ++ Back t b ∷ [])) (J ++ Back t b ∷ []) ≡ calls_in_order (committed J) J)
  same = same_calls J (Back t b) refl (λ u. refl)

  left_other : (u : ℕ) → u ≢ t → left u (J ++ Back t b ∷ []) ≡ left u J
  left_other u apart = let undos : undos_of u (J ++ Back t b ∷ []) ≡ undos_of u J = undos_of_push u J (Back t b) ∙ rw (ne_eqb t u (λ e. apart (sym e))) refl in rw (same.1, undos) refl

  left_own : left t (J ++ Back t b ∷ []) ≡ drop_last w.undos
  left_own = let undos : undos_of t (J ++ Back t b ∷ []) ≡ drop_last w.undos = undos_of_push t J (Back t b) ∙ rw (eq-eqb t t refl) (ap drop_last known.0) in rw (same.1, known.1, undos) refl

  -- where t has none on the key, so it is after the block
  none_own : (k : ℕ) → NoneOn k (left t J) → NoneOn k (left t (J ++ Back t b ∷ [])) × (p.key ≢ k)
  none_own k h = let y = none_front k p (drop_last w.undos) (subst (λ ps. NoneOn k ps) old_left h) in (subst (λ ps. NoneOn k ps) (sym left_own) y.0, y.1)

  alone_push : (k u : ℕ) → IsAlone u k J → IsAlone u k (J ++ Back t b ∷ [])
  alone_push k u h y apart = ⊎_elim (λ a. subst (λ z. NoneOn k (left z (J ++ Back t b ∷ []))) (sym a.1) (none_own k (h t (λ e. apart (a.1 ∙ e)))).0) (λ a. subst (λ ps. NoneOn k ps) (sym (left_other y a.1)) (h y apart)) (eqb_tells y t)

  -- a block that takes back keeps what holds of each key
  pub keyed_back : Undoes W V p → (k : ℕ) (start : Option (List ℕ)) → Keyed s cuts J W F start k → Keyed s cuts (J ++ Back t b ∷ []) V F start k
  keyed_back undoes k start h =
      keyed_on s cuts J (Back t b) W V F start k h same.2
      (leads (eqb_tells h.holder t))
      (alone_push k h.holder h.others)
      (λ u. altered u (eqb_tells u t))
      (λ u y e uncut still. txns u y e uncut still (eqb_tells u t))
      (λ u ps e. dead u ps e (eqb_tells u t))
    where
      part : ((p.key ≡ k) × (V k ≡ undone_part (W k) p)) ⊎ ((p.key ≢ k) × (V k ≡ W k))
      part = undoes_part W V p k undoes

      -- where t has no undo on the key
      stay : NoneOn k (left t J) → V k ≡ W k
      stay n = ⊎_elim (λ a. absurd ((none_own k n).1 a.0)) (λ a. a.1) part

      leads : (((h.holder == t) ≡ true) × (h.holder ≡ t)) ⊎ (((h.holder == t) ≡ false) × (h.holder ≢ t)) → Leads s k (reverse (left h.holder (J ++ Back t b ∷ []))) (V k) h.slots
      leads (inl a) =
          subst (λ z. Leads s k (reverse (left z (J ++ Back t b ∷ []))) (V k) h.slots) (sym a.1)
          (subst (λ ps. Leads s k (reverse ps) (V k) h.slots) (sym left_own) (undoes_leads s W V p k (reverse (drop_last w.undos)) h.slots undoes (subst (λ ps. Leads s k ps (W k) h.slots) old_reverse (subst (λ z. Leads s k (reverse (left z J)) (W k) h.slots) a.1 h.leads))))
      leads (inr a) = subst (λ ps. Leads s k (reverse ps) (V k) h.slots) (sym (left_other h.holder a.1)) (subst (λ (X : Part). Leads s k (reverse (left h.holder J)) X h.slots) (sym (stay (h.others t (λ e. a.1 (sym e))))) h.leads)

      altered : (u : ℕ) → (((u == t) ≡ true) × (u ≡ t)) ⊎ (((u == t) ≡ false) × (u ≢ t)) → NoneOn k (left u (J ++ Back t b ∷ [])) ⊎ Alters u k (J ++ Back t b ∷ [])
      altered u (inl a) = subst (λ z. NoneOn k (left z (J ++ Back t b ∷ [])) ⊎ Alters z k (J ++ Back t b ∷ [])) (sym a.1) (⊎_elim (λ n. inl (none_own k n).0) (λ n. inr (alters_push t k J (Back t b) n)) (h.altered t))
      altered u (inr a) = ⊎_elim (λ n. inl (subst (λ ps. NoneOn k ps) (sym (left_other u a.1)) n)) (λ n. inr (alters_push u k J (Back t b) n)) (h.altered u)

      txns :
          (u : ℕ) (y : Working) → kept_state s u (J ++ Back t b ∷ []) ≡ Some (Active y) → has cuts u ≡ false → is_unwinding y.way ≡ false → (((u == t) ≡ true) × (u ≡ t)) ⊎ (((u == t) ≡ false) × (u ≢ t))
          → IsClear k (calls_of u (J ++ Back t b ∷ [])) y ⊎ (Touches u k (J ++ Back t b ∷ []) × IsAlone u k (J ++ Back t b ∷ []) × Runs s F k h.value (V k) (calls_of u (J ++ Back t b ∷ [])) y)
      txns u y e uncut still (inl a) =
          subst (λ z. IsClear k (calls_of z (J ++ Back t b ∷ [])) y ⊎ (Touches z k (J ++ Back t b ∷ []) × IsAlone z k (J ++ Back t b ∷ []) × Runs s F k h.value (V k) (calls_of z (J ++ Back t b ∷ [])) y)) (sym a.1)
          (subst (λ (z : Working). IsClear k (calls_of t (J ++ Back t b ∷ [])) z ⊎ (Touches t k (J ++ Back t b ∷ []) × IsAlone t k (J ++ Back t b ∷ []) × Runs s F k h.value (V k) (calls_of t (J ++ Back t b ∷ [])) z)) state
          (by_way (nat_lt w.mark (length w.undos)) refl (subst (λ (z : Working). is_unwinding z.way ≡ false) (sym state) still)))
        where
          state : taken_back w ≡ y
          state = let z : Some (Active (taken_back w)) ≡ Some (Active y) = sym x.after ∙ subst (λ j. kept_state s j (J ++ Back t b ∷ []) ≡ Some (Active y)) a.1 e in cc (z)

          before_still : w.mark < length w.undos → is_unwinding w.way ≡ false
          before_still more = go w.way known.3
            where
              go : (z : Way) → FitsWay w z → is_unwinding z ≡ false
              go Onward f = refl
              go TakingBack f = refl
              go Unwinding f = absurd (omega arith)

          by_way : (c : Bool) → nat_lt w.mark (length w.undos) ≡ c → is_unwinding (if nat_lt w.mark (length w.undos) then TakingBack else Unwinding) ≡ false → IsClear k (calls_of t (J ++ Back t b ∷ [])) (taken_back w) ⊎ (Touches t k (J ++ Back t b ∷ []) × IsAlone t k (J ++ Back t b ∷ []) × Runs s F k h.value (V k) (calls_of t (J ++ Back t b ∷ [])) (taken_back w))
          by_way false g i = let no : true ≡ false = rw g at i in absurd (cc (no))
          by_way true g i = ⊎_elim clear runs (h.txns t w x.before (subst (λ z. has cuts z ≡ false) a.1 uncut) (before_still more))
            where
              more : w.mark < length w.undos
              more = less w.mark (length w.undos) g
                where
                  less : (m n : ℕ) → nat_lt m n ≡ true → m < n
                  less m n z = grind (arith, nat_tests)

              clear : IsClear k (calls_of t J) w → IsClear k (calls_of t (J ++ Back t b ∷ [])) (taken_back w) ⊎ (Touches t k (J ++ Back t b ∷ []) × IsAlone t k (J ++ Back t b ∷ []) × Runs s F k h.value (V k) (calls_of t (J ++ Back t b ∷ [])) (taken_back w))
              clear c = inl (record { none = ap (on_key k) (same.0 t) ∙ c.none; undos = (none_front k p (drop_last w.undos) (subst (λ ps. NoneOn k ps) split c.undos)).0; off = c.off })

              runs : Touches t k J × IsAlone t k J × Runs s F k h.value (W k) (calls_of t J) w → IsClear k (calls_of t (J ++ Back t b ∷ [])) (taken_back w) ⊎ (Touches t k (J ++ Back t b ∷ []) × IsAlone t k (J ++ Back t b ∷ []) × Runs s F k h.value (V k) (calls_of t (J ++ Back t b ∷ [])) (taken_back w))
              runs c = inr (touches_push t k J (Back t b) c.0, alone_push k t c.1, subst (λ cs. Runs s F k h.value (V k) cs (taken_back w)) (sym (same.0 t)) (subst (λ z. Runs s F k h.value (V k) (calls_of t J) (record { undos = drop_last w.undos; mark = w.mark; progress = w.progress; way = z })) way (runs_back s W V F k h.value (calls_of t J) w p x.last more undoes c.2)))
                where
                  way : TakingBack ≡ way_back w
                  way = rw g refl
      txns u y e uncut still (inr a) = ⊎_elim clear runs (h.txns u y (sym (x.beside u a.1) ∙ e) uncut still)
        where
          clear : IsClear k (calls_of u J) y → IsClear k (calls_of u (J ++ Back t b ∷ [])) y ⊎ (Touches u k (J ++ Back t b ∷ []) × IsAlone u k (J ++ Back t b ∷ []) × Runs s F k h.value (V k) (calls_of u (J ++ Back t b ∷ [])) y)
          clear c = inl (subst (λ cs. IsClear k cs y) (sym (same.0 u)) c)

          runs : Touches u k J × IsAlone u k J × Runs s F k h.value (W k) (calls_of u J) y → IsClear k (calls_of u (J ++ Back t b ∷ [])) y ⊎ (Touches u k (J ++ Back t b ∷ []) × IsAlone u k (J ++ Back t b ∷ []) × Runs s F k h.value (V k) (calls_of u (J ++ Back t b ∷ [])) y)
          runs c = inr (touches_push u k J (Back t b) c.0, alone_push k u c.1, subst (λ cs. Runs s F k h.value (V k) cs y) (sym (same.0 u)) (subst (λ (X : Part). Runs s F k h.value X (calls_of u J) y) (sym (stay (c.1 t (λ z. a.1 (sym z))))) c.2))

      dead : (u : ℕ) (ps : List Pending) → kept_state s u (J ++ Back t b ∷ []) ≡ Some (IsOver ps) → (((u == t) ≡ true) × (u ≡ t)) ⊎ (((u == t) ≡ false) × (u ≢ t)) → (NoneOn k ps ⊎ Alters u k (J ++ Back t b ∷ [])) × AreDead k ps (V k)
      dead u ps e (inl a) = let z : Some (Active (taken_back w)) ≡ Some (IsOver ps) = sym x.after ∙ subst (λ j. kept_state s j (J ++ Back t b ∷ []) ≡ Some (IsOver ps)) a.1 e in absurd (cc (z))
      dead u ps e (inr a) = ⊎_elim on off part
        where
          old : (NoneOn k ps ⊎ Alters u k J) × AreDead k ps (W k)
          old = h.dead u ps (sym (x.beside u a.1) ∙ e)

          off : (p.key ≢ k) × (V k ≡ W k) → (NoneOn k ps ⊎ Alters u k (J ++ Back t b ∷ [])) × AreDead k ps (V k)
          off c = (⊎_elim (λ n. inl n) (λ n. inr (alters_push u k J (Back t b) n)) old.0, subst (λ (X : Part). AreDead k ps X) (sym c.1) old.1)

          on : (p.key ≡ k) × (V k ≡ undone_part (W k) p) → (NoneOn k ps ⊎ Alters u k (J ++ Back t b ∷ [])) × AreDead k ps (V k)
          on c = ⊎_elim (λ n. (inl n, dead_none k ps (V k) n)) (λ n. absurd (yields_committed cuts J (Back t b) u k ps x.uncut (subst (λ o. Knows u J o) (sym (x.beside u a.1) ∙ e) (x.knows u)) (yields_altered cuts J (Back t b) (record { txn = t; owner = t; block = b }) u k x.locks refl (x.on ∙ c.0) a.1 n))) old.0
