-- An answer, and a record that is neither a block nor an answer nor a commit, keep what holds of each key.
use Rattle.std.proofs.Common.{◌≡◌, ℕ, Bool, true, false, List, [], ◌∷◌, ◌++◌, length, Option, Some, refl, ap, sym, subst, ◌∙◌, ◌⊎◌, inl, inr, ⊎_elim, ◌≢◌, append-nil}
use Rattle.std.specs.Prelude.{◌==◌, if◌then◌else◌, reverse, flat_map}
use Rattle.std.proofs.lemmas.List.Elements.{filter-append}
use Rattle.std.proofs.lemmas.Bool.Decides.{eqb_tells}
use Rattle.std.proofs.lemmas.Bool.{eq-eqb, ne_eqb, and_parts}
use Rattle.dali_geometry.specs.Sizes.{Sizes}
use Rattle.dali_record.specs.declared.operations.Pending.{Pending}
use Rattle.dali_record.specs.declared.records.Call.{Call}
use Rattle.dali_record.specs.declared.records.Answer.{Answer}
use Rattle.dali_record.specs.declared.records.Record.{Record}
use Rattle.dali_record.specs.declared.records.Record.TheVariants.{Done}
use Rattle.dali_record.specs.Log.{undos_of, committed, calls_of}
use Rattle.dali_record.specs.Damage.{has}
use Rattle.dali_record.specs.Calls.{Fresh, answers, takes_back}
use Rattle.dali_record.specs.Legal.{Working, Onward, Active, Over, is_unwinding, is_onward, is_level, is_answer, Committed as IsOver}
use Rattle.dali_record.proofs.Pushes.{undos_of_push, committed_push, calls_of_push}
use Rattle.dali_history.specs.Serial.{values_after, on_key, call_key, calls_in_order}
use Rattle.dali_history.specs.Kept.Kept.{kept_state}
use Rattle.dali_access.proofs.IndexLemmas.Worlds.{World, Flags}
use Rattle.dali_history.proofs.SlotsLemmas.SlotUndos.{Leads, NoneOn}
use Rattle.dali_history.proofs.SlotsLemmas.CallProgress.{IsOn}
use Rattle.dali_history.proofs.SlotsLemmas.CallKey.{IsOff, off_on}
use Rattle.dali_history.proofs.SlotsLemmas.RunningTxn.{Runs}
use Rattle.dali_history.proofs.SlotsLemmas.AnswersAndBacks.{runs_done, answers_on}
use Rattle.dali_history.proofs.KeptLemmas.WithoutLast.{left, Touches, Alters, touches_push, alters_push}
use Rattle.dali_history.proofs.KeptLemmas.Invariant.{AreDead, IsClear, IsAlone, Keyed, keyed_on, same_calls}
use Rattle.dali_history.proofs.KeptLemmas.OperationsKeep.{level_still, onward_still}

abbrev pub rested_of : Working → Working
rested_of w = record { undos = w.undos; mark = length w.undos; progress = Fresh; way = Onward }

-- an answer of t, with what is known before it
pub record DoneStep (s : Sizes) (cuts : List ℕ) (J : List Record) (t : ℕ) (c : Call) (a : Answer) (w : Working) : Type 0 where
  pub before : kept_state s t J ≡ Some (Active w)
  pub running : has (committed J) t ≡ false
  pub answer : is_answer s w c a ≡ true
  pub after : kept_state s t (J ++ Done t c a ∷ []) ≡ Some (Active (rested_of w))
  pub beside : (u : ℕ) → u ≢ t → kept_state s u (J ++ Done t c a ∷ []) ≡ kept_state s u J

done_other : (t u : ℕ) (c : Call) (a : Answer) (J : List Record) → u ≢ t → calls_of u (J ++ Done t c a ∷ []) ≡ calls_of u J
done_other t u c a J h = calls_of_push u J (Done t c a) ∙ rw (ne_eqb t u (λ e. h (sym e))) (append-nil (calls_of u J))

pub done_own : (t : ℕ) (c : Call) (a : Answer) (J : List Record) → calls_of t (J ++ Done t c a ∷ []) ≡ calls_of t J ++ (c, a) ∷ []
done_own t c a J = calls_of_push t J (Done t c a) ∙ rw (eq-eqb t t refl) refl

-- the calls of transactions that t isn't among
done_order : (t : ℕ) (c : Call) (a : Answer) (J : List Record) (ts : List ℕ) → has ts t ≡ false → flat_map (λ u. calls_of u (J ++ Done t c a ∷ [])) ts ≡ flat_map (λ u. calls_of u J) ts
done_order t c a J [] h = refl
done_order t c a J (u ∷ ts) h = go (eqb_tells u t) (done_order t c a J ts)
  where
    go : (((u == t) ≡ true) × (u ≡ t)) ⊎ (((u == t) ≡ false) × (u ≢ t)) → (has ts t ≡ false → flat_map (λ z. calls_of z (J ++ Done t c a ∷ [])) ts ≡ flat_map (λ z. calls_of z J) ts) → flat_map (λ z. calls_of z (J ++ Done t c a ∷ [])) (u ∷ ts) ≡ flat_map (λ z. calls_of z J) (u ∷ ts)
    go (inl p) ih = let x : true ≡ false = rw (p.0) at h in absurd (cc (x))
    go (inr p) ih = let rest = ih (rw (p.0) at h) in let first = done_other t u c a J p.1 in rw (first, rest) refl

answer_still : (s : Sizes) (w : Working) (c : Call) (a : Answer) → is_answer s w c a ≡ true → is_unwinding w.way ≡ false
answer_still s w c a h = go (takes_back a) (and_parts (answers s w.progress c a) (if takes_back a then is_level w else is_onward w.way) h).1
  where
    go : (b : Bool) → (if b then is_level w else is_onward w.way) ≡ true → is_unwinding w.way ≡ false
    go true e = level_still w e
    go false e = onward_still w.way e

module _ (s : Sizes) (cuts : List ℕ) (J : List Record) (W : World) (F : Flags) (t : ℕ) (c : Call) (a : Answer) (w : Working) (x : DoneStep s cuts J t c a w) where
  same_committed : committed (J ++ Done t c a ∷ []) ≡ committed J
  same_committed = committed_push J (Done t c a) ∙ append-nil (committed J)

  same_left : (u : ℕ) → left u (J ++ Done t c a ∷ []) ≡ left u J
  same_left u = let e : undos_of u (J ++ Done t c a ∷ []) ≡ undos_of u J = undos_of_push u J (Done t c a) in rw (same_committed, e) refl

  same_order : calls_in_order (committed (J ++ Done t c a ∷ [])) (J ++ Done t c a ∷ []) ≡ calls_in_order (committed J) J
  same_order = ap (λ ts. flat_map (λ u. calls_of u (J ++ Done t c a ∷ [])) ts) same_committed ∙ done_order t c a J (committed J) x.running

  same_alone : (k u : ℕ) → IsAlone u k J → IsAlone u k (J ++ Done t c a ∷ [])
  same_alone k u h y apart = subst (λ ps. NoneOn k ps) (sym (same_left y)) (h y apart)

  -- an answer keeps what holds of each key
  pub keyed_done : (k : ℕ) (start : Option (List ℕ)) → Keyed s cuts J W F start k → Keyed s cuts (J ++ Done t c a ∷ []) W F start k
  keyed_done k start h = record {
    value = h.value;
    slots = h.slots;
    holder = h.holder;
    replayed = ap (λ cs. values_after (Some start) (on_key k cs)) same_order ∙ h.replayed;
    stands = h.stands;
    reached = h.reached;
    leads = subst (λ ps. Leads s k (reverse ps) (W k) h.slots) (sym (same_left h.holder)) h.leads;
    others = same_alone k h.holder h.others;
    altered = λ u. ⊎_elim (λ n. inl (subst (λ ps. NoneOn k ps) (sym (same_left u)) n)) (λ n. inr (alters_push u k J (Done t c a) n)) (h.altered u);
    txns = λ u y e uncut still. txns u y e uncut still (eqb_tells u t);
    dead = λ u ps e. ⊎_elim (λ i. let z : Some (Active (rested_of w)) ≡ Some (IsOver ps) = sym x.after ∙ subst (λ j. kept_state s j (J ++ Done t c a ∷ []) ≡ Some (IsOver ps)) i.1 e in absurd (cc (z))) (λ i. let y = h.dead u ps (sym (x.beside u i.1) ∙ e) in (⊎_elim (λ n. inl n) (λ n. inr (alters_push u k J (Done t c a) n)) y.0, y.1)) (eqb_tells u t);
  }
    where
      txns :
          (u : ℕ) (y : Working) → kept_state s u (J ++ Done t c a ∷ []) ≡ Some (Active y) → has cuts u ≡ false → is_unwinding y.way ≡ false → (((u == t) ≡ true) × (u ≡ t)) ⊎ (((u == t) ≡ false) × (u ≢ t))
          → IsClear k (calls_of u (J ++ Done t c a ∷ [])) y ⊎ (Touches u k (J ++ Done t c a ∷ []) × IsAlone u k (J ++ Done t c a ∷ []) × Runs s F k h.value (W k) (calls_of u (J ++ Done t c a ∷ [])) y)
      txns u y e uncut still (inl i) =
          subst (λ z. IsClear k (calls_of z (J ++ Done t c a ∷ [])) y ⊎ (Touches z k (J ++ Done t c a ∷ []) × IsAlone z k (J ++ Done t c a ∷ []) × Runs s F k h.value (W k) (calls_of z (J ++ Done t c a ∷ [])) y)) (sym i.1)
          (subst (λ (z : Working). IsClear k (calls_of t (J ++ Done t c a ∷ [])) z ⊎ (Touches t k (J ++ Done t c a ∷ []) × IsAlone t k (J ++ Done t c a ∷ []) × Runs s F k h.value (W k) (calls_of t (J ++ Done t c a ∷ [])) z)) state
          (⊎_elim clear (λ d. inr (touches_push t k J (Done t c a) d.0, same_alone k t d.1, subst (λ cs. Runs s F k h.value (W k) cs (rested_of w)) (sym (done_own t c a J)) (runs_done s F k h.value (W k) (calls_of t J) w c a x.answer d.2)))
          (h.txns t w x.before (subst (λ z. has cuts z ≡ false) i.1 uncut) (answer_still s w c a x.answer))))
        where
          state : rested_of w ≡ y
          state = let z : Some (Active (rested_of w)) ≡ Some (Active y) = sym x.after ∙ subst (λ j. kept_state s j (J ++ Done t c a ∷ []) ≡ Some (Active y)) i.1 e in cc (z)

          clear : IsClear k (calls_of t J) w → IsClear k (calls_of t (J ++ Done t c a ∷ [])) (rested_of w) ⊎ (Touches t k (J ++ Done t c a ∷ []) × IsAlone t k (J ++ Done t c a ∷ []) × Runs s F k h.value (W k) (calls_of t (J ++ Done t c a ∷ [])) (rested_of w))
          clear d = inl (record { none = ap (on_key k) (done_own t c a J) ∙ filter-append (λ p. call_key p.0 == k) (calls_of t J) ((c, a) ∷ []) ∙ ap (λ cs. cs ++ on_key k ((c, a) ∷ [])) d.none ∙ rw (ne_eqb (call_key c) k off) refl; undos = d.undos; off = tt })
            where
              off : call_key c ≢ k
              off e =
                  let y = answers_on s w.progress c a (and_parts (answers s w.progress c a) (if takes_back a then is_level w else is_onward w.way) x.answer).0 in
                  y.1 (off_on k w.progress d.off (subst (λ j. IsOn j w.progress) e y.0))
      txns u y e uncut still (inr i) = ⊎_elim (λ d. inl (subst (λ cs. IsClear k cs y) (sym (done_other t u c a J i.1)) d)) (λ d. inr (touches_push u k J (Done t c a) d.0, same_alone k u d.1, subst (λ cs. Runs s F k h.value (W k) cs y) (sym (done_other t u c a J i.1)) d.2)) (h.txns u y (sym (x.beside u i.1) ∙ e) uncut still)

-- ---- a record that is no block, answer or commit
-- a transaction stays where it is, begins, or is over
abbrev pub QuietState : Sizes → List Record → Record → ℕ → Type 0
QuietState s J r u =
    (kept_state s u (J ++ r ∷ []) ≡ kept_state s u J) ⊎ (kept_state s u (J ++ r ∷ []) ≡ Some Over)
    ⊎ ((w : Working) × (kept_state s u (J ++ r ∷ []) ≡ Some (Active w)) × (w.undos ≡ []) × (w.progress ≡ Fresh) × (calls_of u J ≡ []))

pub record QuietStep (s : Sizes) (J : List Record) (r : Record) : Type 0 where
  pub commits : committed (r ∷ []) ≡ []
  pub calls : (u : ℕ) → calls_of u (r ∷ []) ≡ []
  pub undos : (u : ℕ) → undos_of u (J ++ r ∷ []) ≡ undos_of u J
  pub states : (u : ℕ) → QuietState s J r u

module _ (s : Sizes) (cuts : List ℕ) (J : List Record) (W : World) (F : Flags) (r : Record) (x : QuietStep s J r) where
  same : ((u : ℕ) → calls_of u (J ++ r ∷ []) ≡ calls_of u J) × (committed (J ++ r ∷ []) ≡ committed J) × (calls_in_order (committed (J ++ r ∷ [])) (J ++ r ∷ []) ≡ calls_in_order (committed J) J)
  same = same_calls J r x.commits x.calls

  quiet_left : (u : ℕ) → left u (J ++ r ∷ []) ≡ left u J
  quiet_left u = let e = x.undos u in rw (same.1, e) refl

  quiet_alone : (k u : ℕ) → IsAlone u k J → IsAlone u k (J ++ r ∷ [])
  quiet_alone k u h y apart = subst (λ ps. NoneOn k ps) (sym (quiet_left y)) (h y apart)

  pub keyed_quiet : (k : ℕ) (start : Option (List ℕ)) → Keyed s cuts J W F start k → Keyed s cuts (J ++ r ∷ []) W F start k
  keyed_quiet k start h =
      keyed_on s cuts J r W W F start k h same.2
      (subst (λ ps. Leads s k (reverse ps) (W k) h.slots) (sym (quiet_left h.holder)) h.leads)
      (quiet_alone k h.holder h.others)
      (λ u. ⊎_elim (λ n. inl (subst (λ ps. NoneOn k ps) (sym (quiet_left u)) n)) (λ n. inr (alters_push u k J r n)) (h.altered u))
      (λ u y e uncut still. txns u y e uncut still (x.states u))
      (λ u ps e. dead u ps e (x.states u))
    where
      txns :
          (u : ℕ) (y : Working) → kept_state s u (J ++ r ∷ []) ≡ Some (Active y) → has cuts u ≡ false → is_unwinding y.way ≡ false → QuietState s J r u
          → IsClear k (calls_of u (J ++ r ∷ [])) y ⊎ (Touches u k (J ++ r ∷ []) × IsAlone u k (J ++ r ∷ []) × Runs s F k h.value (W k) (calls_of u (J ++ r ∷ [])) y)
      txns u y e uncut still (inl i) = ⊎_elim (λ d. inl (subst (λ cs. IsClear k cs y) (sym (same.0 u)) d)) (λ d. inr (touches_push u k J r d.0, quiet_alone k u d.1, subst (λ cs. Runs s F k h.value (W k) cs y) (sym (same.0 u)) d.2)) (h.txns u y (sym i ∙ e) uncut still)
      txns u y e uncut still (inr (inl i)) = let z : Some Over ≡ Some (Active y) = sym i ∙ e in absurd (cc (z))
      txns u y e uncut still (inr (inr i)) =
          let z : Some (Active i.0) ≡ Some (Active y) = sym i.1 ∙ e in
          let state : i.0 ≡ y = cc (z) in
          subst (λ (v : Working). IsClear k (calls_of u (J ++ r ∷ [])) v ⊎ (Touches u k (J ++ r ∷ []) × IsAlone u k (J ++ r ∷ []) × Runs s F k h.value (W k) (calls_of u (J ++ r ∷ [])) v)) state
          (inl (record { none = ap (on_key k) (same.0 u ∙ i.4); undos = subst (λ ps. NoneOn k ps) (sym i.2) tt; off = subst (λ q. IsOff k q) (sym i.3) tt }))

      dead : (u : ℕ) (ps : List Pending) → kept_state s u (J ++ r ∷ []) ≡ Some (IsOver ps) → QuietState s J r u → (NoneOn k ps ⊎ Alters u k (J ++ r ∷ [])) × AreDead k ps (W k)
      dead u ps e (inl i) = let y = h.dead u ps (sym i ∙ e) in (⊎_elim (λ n. inl n) (λ n. inr (alters_push u k J r n)) y.0, y.1)
      dead u ps e (inr (inl i)) = let z : Some Over ≡ Some (IsOver ps) = sym i ∙ e in absurd (cc (z))
      dead u ps e (inr (inr i)) = let z : Some (Active i.0) ≡ Some (IsOver ps) = sym i.1 ∙ e in absurd (cc (z))
