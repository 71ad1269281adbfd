-- An operation of a running transaction keeps what holds of each key.
use Rattle.std.proofs.Common.{◌≡◌, ℕ, ◌<◌, ◌≤◌, Bool, true, false, not, List, [], ◌∷◌, ◌++◌, length, Option, Some, None, refl, ap, sym, subst, ◌∙◌, ◌⊎◌, inl, inr, ⊎_elim, ◌≢◌, append-nil}
use Rattle.std.specs.Prelude.{◌==◌, ◌&&◌, ◌||◌, if◌then◌else◌, ⊤, reverse, flat_map, map}
use Rattle.std.proofs.lemmas.List.{reverse-append}
use Rattle.std.proofs.lemmas.Bool.Decides.{eqb_tells}
use Rattle.std.proofs.lemmas.Bool.{eq-eqb, ne_eqb, and_parts}
use Rattle.dali_geometry.specs.Sizes.{Sizes}
use Rattle.dali_record.specs.declared.operations.Pending.{Pending}
use Rattle.dali_record.specs.declared.operations.Block.{Block}
use Rattle.dali_record.specs.declared.operations.Undo.{Undo}
use Rattle.dali_record.specs.declared.records.Call.{Call}
use Rattle.dali_record.specs.declared.records.Answer.{Answer}
use Rattle.dali_record.specs.declared.records.Record.{Record}
use Rattle.dali_record.specs.declared.records.Record.TheVariants.{Forward}
use Rattle.dali_record.specs.Blocks.{changes_item}
use Rattle.dali_record.specs.Log.{undos_of, undo_added, committed, calls_of}
use Rattle.dali_record.specs.Damage.{has}
use Rattle.dali_record.specs.Calls.{Progress, Fresh, follow}
use Rattle.dali_record.specs.Legal.{Working, Way, Onward, TakingBack, Unwinding, TxnState, Active, on_kind, is_onward, is_unwinding, is_level, forward, goes_on, starts, allowed, either_state, Committed as IsOver}
use Rattle.dali_record.proofs.Pushes.{undos_of_push, touch_new}
use Rattle.dali_history.specs.Serial.{values_after, on_key}
use Rattle.dali_history.specs.Kept.Kept.{kept_state, IsLockLegalBut}
use Rattle.dali_history.specs.Blocks.{HasValue}
use Rattle.dali_access.proofs.IndexLemmas.Worlds.{World, Flags}
use Rattle.dali_history.proofs.SlotsLemmas.BlockOnSlots.{Does}
use Rattle.dali_access.proofs.IndexLemmas.Parts.{Part}
use Rattle.dali_history.proofs.SlotsLemmas.SlotUndos.{Leads, NoneOn, leads_none, leads_stay, none_append, none_reverse, none_drop}
use Rattle.dali_history.proofs.SlotsLemmas.SlotSteps.{IsForward, Changed, added_by, forward_changes, changed_beside, changed_leads}
use Rattle.dali_access.proofs.IndexLemmas.Reaches.{Rises}
use Rattle.dali_history.proofs.SlotsLemmas.ValueSlots.{Stands, Reached, reached_rises}
use Rattle.dali_history.proofs.SlotsLemmas.CallProgress.{IsOn}
use Rattle.dali_history.proofs.SlotsLemmas.CallKey.{IsOff, off_other, follow_says}
use Rattle.dali_history.proofs.SlotsLemmas.RunningTxn.{Runs, runs_other, runs_goes_on, runs_starts, added-same, reverse-added}
use Rattle.dali_history.proofs.SlotsLemmas.AnswersAndBacks.{runs_fresh}
use Rattle.dali_history.proofs.KeptLemmas.WithoutLast.{left, Touches, Alters, touches_push, alters_push, yields_altered, yields_touched}
use Rattle.dali_history.proofs.KeptLemmas.Invariant.{AreDead, IsClear, IsAlone, Keyed, FitsWay, Knows, yields_left, yields_active, yields_committed, same_calls, undo_changes}

-- ---- the state after an operation
abbrev pub gone_on : Working → Block → Progress → Working
gone_on w b p = record { undos = w.undos ++ undo_added b b.undo; mark = w.mark; progress = p; way = Onward }

abbrev pub started : Working → Block → Progress → Working
started w b p = record { undos = w.undos ++ undo_added b b.undo; mark = length w.undos; progress = p; way = Onward }

abbrev pub Forwards : Sizes → ℕ → Working → Block → TxnState → Type 0
Forwards s t w b x = (p : Progress) × (((is_onward w.way ≡ true) × (follow s t w.progress b ≡ Some p) × (x ≡ Active (gone_on w b p))) ⊎ ((is_level w ≡ true) × (follow s t Fresh b ≡ Some p) × (x ≡ Active (started w b p))))

pub forward_is : (s : Sizes) (t : ℕ) (w : Working) (b : Block) (x : TxnState) → forward s t w b ≡ Some x → Forwards s t w b x
forward_is s t w b x h = go (is_onward w.way) refl (follow s t w.progress b) refl (is_level w) refl (follow s t Fresh b) refl h
  where
    go :
        (c : Bool) → is_onward w.way ≡ c → (o : Option Progress) → follow s t w.progress b ≡ o → (d : Bool) → is_level w ≡ d → (q : Option Progress) → follow s t Fresh b ≡ q
        → either_state (allowed c (goes_on w b o)) (allowed d (starts w b q)) ≡ Some x → Forwards s t w b x
    go true e (Some p) f d g q i j = let same : x ≡ Active (gone_on w b p) = cc (j) in (p, inl (e, f, same))
    go true e None f true g (Some p) i j = let same : x ≡ Active (started w b p) = cc (j) in (p, inr (g, i, same))
    go true e None f true g None i j = absurd (cc (j))
    go true e None f false g q i j = absurd (cc (j))
    go false e o f true g (Some p) i j = let same : x ≡ Active (started w b p) = cc (j) in (p, inr (g, i, same))
    go false e o f true g None i j = absurd (cc (j))
    go false e o f false g q i j = absurd (cc (j))

forward_says : (s : Sizes) (t : ℕ) (w : Working) (b : Block) (x : TxnState) (h : Forwards s t w b x) → IsForward b.op × IsOn b.key h.0
forward_says s t w b x h = ⊎_elim (λ a. let y = follow_says s t w.progress b h.0 a.1 in (y.0, y.2)) (λ a. let y = follow_says s t Fresh b h.0 a.1 in (y.0, y.2)) h.1

pub level_still : (w : Working) → is_level w ≡ true → is_unwinding w.way ≡ false
level_still w h = go (is_unwinding w.way) (and_parts (length w.undos == w.mark) (not (is_unwinding w.way)) h).1
  where
    go : (b : Bool) → not b ≡ true → b ≡ false
    go true e = absurd (cc (e))
    go false e = refl

pub onward_still : (y : Way) → is_onward y ≡ true → is_unwinding y ≡ false
onward_still Onward h = refl
onward_still TakingBack h = refl
onward_still Unwinding h = absurd (cc (h))

pub forward_still : (s : Sizes) (t : ℕ) (w : Working) (b : Block) (x : TxnState) → Forwards s t w b x → is_unwinding w.way ≡ false
forward_still s t w b x h = ⊎_elim (λ a. onward_still w.way a.0) (λ a. level_still w a.0) h.1

pub fits_still : (w : Working) (y : Way) → is_unwinding y ≡ false → FitsWay w y → w.mark ≤ length w.undos
fits_still w Onward h f = f
fits_still w TakingBack h f = f
fits_still w Unwinding h f = absurd (cc (h))

-- the transaction's own calls
forward_runs :
    (s : Sizes) (t : ℕ) (W V : World) (F G : Flags) (k : ℕ) (o : Option (List ℕ)) (calls : List (Call × Answer)) (w v : Working) (b : Block)
    → 0 < s.index → Does W F V G b.key b.region b.op b.outcome b.undo → on_kind s b.region b.op ≡ true → HasValue b.op → FitsWay w w.way → Forwards s t w b (Active v) → Runs s F k o (W k) calls w → Runs s G k o (V k) calls v
forward_runs s t W V F G k o calls w v b some does kind value fits (p, inl h) runs = let same : v ≡ gone_on w b p = let x = h.2 in cc (x) in rw same (runs_goes_on s t W V F G k o calls w b p some does kind value (fits_still w w.way (onward_still w.way h.0) fits) h.0 runs h.1)
forward_runs s t W V F G k o calls w v b some does kind value fits (p, inr h) runs = let same : v ≡ started w b p = let x = h.2 in cc (x) in rw same (runs_starts s t W V F G k o calls w b p some does kind value h.0 runs h.1)

forward_undos : (s : Sizes) (t : ℕ) (w v : Working) (b : Block) → Forwards s t w b (Active v) → (v.undos ≡ w.undos ++ undo_added b b.undo)
forward_undos s t w v b (p, inl h) = let same : v ≡ gone_on w b p = let x = h.2 in cc (x) in ap (λ (y : Working). y.undos) same
forward_undos s t w v b (p, inr h) = let same : v ≡ started w b p = let x = h.2 in cc (x) in ap (λ (y : Working). y.undos) same

forward_progress : (s : Sizes) (t : ℕ) (w v : Working) (b : Block) (h : Forwards s t w b (Active v)) → v.progress ≡ h.0
forward_progress s t w v b (p, inl h) = let same : v ≡ gone_on w b p = let x = h.2 in cc (x) in ap (λ (y : Working). y.progress) same
forward_progress s t w v b (p, inr h) = let same : v ≡ started w b p = let x = h.2 in cc (x) in ap (λ (y : Working). y.progress) same

-- ---- the undos that stand
left_other : (t u : ℕ) (b : Block) (J : List Record) → u ≢ t → left u (J ++ Forward t b ∷ []) ≡ left u J
left_other t u b J h =
    let same = same_calls J (Forward t b) refl (λ x. refl) in
    let undos : undos_of u (J ++ Forward t b ∷ []) ≡ undos_of u J = undos_of_push u J (Forward t b) ∙ rw (ne_eqb t u (λ e. h (sym e))) refl in
    rw (same.1, undos) refl

left_own : (t : ℕ) (b : Block) (J : List Record) → has (committed J) t ≡ false → left t (J ++ Forward t b ∷ []) ≡ left t J ++ undo_added b b.undo
left_own t b J h =
    let same = same_calls J (Forward t b) refl (λ x. refl) in
    let undos : undos_of t (J ++ Forward t b ∷ []) ≡ undos_of t J ++ undo_added b b.undo = undos_of_push t J (Forward t b) ∙ rw (eq-eqb t t refl) refl in
    rw (same.1, undos, h) refl

added_none : (k : ℕ) (b : Block) → b.key ≢ k → NoneOn k (undo_added b b.undo)
added_none k b h = go b.undo
  where
    go : (u : Option Undo) → NoneOn k (undo_added b u)
    go None = tt
    go (Some d) = (h, tt)

-- ---- one key
-- no removal is on the key
pub dead_none : (k : ℕ) (ps : List Pending) (P : Part) → NoneOn k ps → AreDead k ps P
dead_none k [] P h = tt
dead_none k (p ∷ ps) P h = ((λ e. absurd (h.0 e)), (λ e. absurd (h.0 e)), dead_none k ps P h.1)

-- all undos of others are elsewhere: the list of one leads back to what stood before
pub leads_alone : (s : Sizes) (J : List Record) (k t h : ℕ) (P Q : Part) → IsAlone t k J → IsAlone h k J → Leads s k (reverse (left h J)) P Q → Leads s k (reverse (left t J)) P Q
leads_alone s J k t h P Q alone others leads = go (eqb_tells t h)
  where
    go : (((t == h) ≡ true) × (t ≡ h)) ⊎ (((t == h) ≡ false) × (t ≢ h)) → Leads s k (reverse (left t J)) P Q
    go (inl a) = subst (λ x. Leads s k (reverse (left x J)) P Q) (sym a.1) leads
    go (inr a) =
        let same : P ≡ Q = leads_none s k (reverse (left h J)) P Q (none_reverse k (left h J) (alone h (λ e. a.1 (sym e)))) leads in
        subst (λ (X : Part). Leads s k (reverse (left t J)) P X) same (leads_stay s k (reverse (left t J)) P (none_reverse k (left t J) (others t a.1)))

-- a running transaction's operation, with what is known before it
pub record Step (s : Sizes) (cuts : List ℕ) (J : List Record) (W V : World) (F G : Flags) (t : ℕ) (b : Block) (w v : Working) : Type 0 where
  pub some : 0 < s.index
  pub knows : (u : ℕ) → Knows u J (kept_state s u J)
  pub before : kept_state s t J ≡ Some (Active w)
  pub after : kept_state s t (J ++ Forward t b ∷ []) ≡ Some (Active v)
  pub forwards : Forwards s t w b (Active v)
  pub beside : (u : ℕ) → u ≢ t → kept_state s u (J ++ Forward t b ∷ []) ≡ kept_state s u J
  pub locks : IsLockLegalBut cuts (J ++ Forward t b ∷ [])
  pub uncut : (u : ℕ) → has cuts u ≡ true → has (committed J) u ≡ false
  pub does : Does W F V G b.key b.region b.op b.outcome b.undo
  pub kind : on_kind s b.region b.op ≡ true
  pub value : HasValue b.op

module _ (s : Sizes) (cuts : List ℕ) (J : List Record) (W V : World) (F G : Flags) (t : ℕ) (b : Block) (w v : Working) (x : Step s cuts J W V F G t b w v) where
  known : Knows t J (Some (Active w))
  known = subst (λ o. Knows t J o) x.before (x.knows t)

  says : IsForward b.op × IsOn b.key x.forwards.0
  says = forward_says s t w b (Active v) x.forwards

  changes : Changed s W V b.key b.region b.undo × Rises F G
  changes = forward_changes s W V F G b.key b.region b.op b.outcome b.undo x.does x.kind says.0

  same : ((u : ℕ) → calls_of u (J ++ Forward t b ∷ []) ≡ calls_of u J) × (committed (J ++ Forward t b ∷ []) ≡ committed J) × (Rattle.dali_history.specs.Serial.calls_in_order (committed (J ++ Forward t b ∷ [])) (J ++ Forward t b ∷ []) ≡ Rattle.dali_history.specs.Serial.calls_in_order (committed J) J)
  same = same_calls J (Forward t b) refl (λ u. refl)

  own_left : left t (J ++ Forward t b ∷ []) ≡ left t J ++ undo_added b b.undo
  own_left = left_own t b J known.1

  own_undos : left t J ≡ w.undos
  own_undos = rw (known.1) (known.0)

  rev_left : reverse (left t (J ++ Forward t b ∷ [])) ≡ added_by b.key b.region b.undo ++ reverse (left t J)
  rev_left = ap reverse own_left ∙ reverse-append (left t J) (undo_added b b.undo) ∙ ap (λ xs. reverse xs ++ reverse (left t J)) (added-same b) ∙ ap (λ xs. xs ++ reverse (left t J)) (reverse-added b.key b.region b.undo)

  -- the working of another transaction, and of this one
  other_state : (u : ℕ) (y : TxnState) → u ≢ t → kept_state s u (J ++ Forward t b ∷ []) ≡ Some y → kept_state s u J ≡ Some y
  other_state u y apart e = sym (x.beside u apart) ∙ e

  own_state : (y : Working) → kept_state s t (J ++ Forward t b ∷ []) ≡ Some (Active y) → v ≡ y
  own_state y e = let z : Some (Active v) ≡ Some (Active y) = sym x.after ∙ e in cc (z)

  -- its own calls, on any key
  own_runs : (k : ℕ) (o : Option (List ℕ)) → Runs s F k o (W k) (calls_of t J) w → Runs s G k o (V k) (calls_of t (J ++ Forward t b ∷ [])) v
  own_runs k o h = subst (λ cs. Runs s G k o (V k) cs v) (sym (same.0 t)) (forward_runs s t W V F G k o (calls_of t J) w v b x.some x.does x.kind x.value known.3 x.forwards h)

  -- what holds of it, of whoever is it
  own_txn :
      (k : ℕ) (o : Option (List ℕ)) (u : ℕ) (y : Working) → u ≡ t → kept_state s u (J ++ Forward t b ∷ []) ≡ Some (Active y)
      → IsClear k (calls_of t (J ++ Forward t b ∷ [])) v ⊎ (Touches t k (J ++ Forward t b ∷ []) × IsAlone t k (J ++ Forward t b ∷ []) × Runs s G k o (V k) (calls_of t (J ++ Forward t b ∷ [])) v)
      → IsClear k (calls_of u (J ++ Forward t b ∷ [])) y ⊎ (Touches u k (J ++ Forward t b ∷ []) × IsAlone u k (J ++ Forward t b ∷ []) × Runs s G k o (V k) (calls_of u (J ++ Forward t b ∷ [])) y)
  own_txn k o u y is e holds =
      subst (λ z. IsClear k (calls_of z (J ++ Forward t b ∷ [])) y ⊎ (Touches z k (J ++ Forward t b ∷ []) × IsAlone z k (J ++ Forward t b ∷ []) × Runs s G k o (V k) (calls_of z (J ++ Forward t b ∷ [])) y)) (sym is)
      (subst (λ (z : Working). IsClear k (calls_of t (J ++ Forward t b ∷ [])) z ⊎ (Touches t k (J ++ Forward t b ∷ []) × IsAlone t k (J ++ Forward t b ∷ []) × Runs s G k o (V k) (calls_of t (J ++ Forward t b ∷ [])) z)) (own_state y (subst (λ z. kept_state s z (J ++ Forward t b ∷ []) ≡ Some (Active y)) is e)) holds)

  -- a key that the block isn't on
  off_alone : (k u : ℕ) → b.key ≢ k → IsAlone u k J → IsAlone u k (J ++ Forward t b ∷ [])
  off_alone k u off h y apart = go (eqb_tells y t)
    where
      go : (((y == t) ≡ true) × (y ≡ t)) ⊎ (((y == t) ≡ false) × (y ≢ t)) → NoneOn k (left y (J ++ Forward t b ∷ []))
      go (inl a) = subst (λ z. NoneOn k (left z (J ++ Forward t b ∷ []))) (sym a.1) (subst (λ ps. NoneOn k ps) (sym own_left) (none_append k (left t J) (undo_added b b.undo) (h t (λ e. apart (a.1 ∙ e))) (added_none k b off)))
      go (inr a) = subst (λ ps. NoneOn k ps) (sym (left_other t y b J a.1)) (h y apart)

  off_key : (k : ℕ) (start : Option (List ℕ)) → b.key ≢ k → Keyed s cuts J W F start k → Keyed s cuts (J ++ Forward t b ∷ []) V G start k
  off_key k start off h = record {
    value = h.value;
    slots = h.slots;
    holder = h.holder;
    replayed = ap (λ cs. values_after (Some start) (on_key k cs)) same.2 ∙ h.replayed;
    stands = h.stands;
    reached = reached_rises s F G k h.slots changes.1 h.reached;
    leads = leads (eqb_tells h.holder t);
    others = off_alone k h.holder off h.others;
    altered = λ u. altered u (eqb_tells u t);
    txns = λ u y e uncut still. txns u y e uncut still (eqb_tells u t);
    dead = λ u ps e. dead u ps e (eqb_tells u t);
  }
    where
      stay : V k ≡ W k
      stay = changed_beside s W V b.key b.region b.undo k changes.0 (λ z. off (sym z))

      leads : (((h.holder == t) ≡ true) × (h.holder ≡ t)) ⊎ (((h.holder == t) ≡ false) × (h.holder ≢ t)) → Leads s k (reverse (left h.holder (J ++ Forward t b ∷ []))) (V k) h.slots
      leads (inl a) =
          subst (λ z. Leads s k (reverse (left z (J ++ Forward t b ∷ []))) (V k) h.slots) (sym a.1)
          (subst (λ ps. Leads s k ps (V k) h.slots) (sym rev_left) (changed_leads s W V b.key b.region b.undo k (reverse (left t J)) h.slots changes.0 (subst (λ z. Leads s k (reverse (left z J)) (W k) h.slots) a.1 h.leads)))
      leads (inr a) = subst (λ ps. Leads s k (reverse ps) (V k) h.slots) (sym (left_other t h.holder b J a.1)) (subst (λ (X : Part). Leads s k (reverse (left h.holder J)) X h.slots) (sym stay) h.leads)

      altered : (u : ℕ) → (((u == t) ≡ true) × (u ≡ t)) ⊎ (((u == t) ≡ false) × (u ≢ t)) → NoneOn k (left u (J ++ Forward t b ∷ [])) ⊎ Alters u k (J ++ Forward t b ∷ [])
      altered u (inl a) =
          subst (λ z. NoneOn k (left z (J ++ Forward t b ∷ [])) ⊎ Alters z k (J ++ Forward t b ∷ [])) (sym a.1)
          (⊎_elim (λ n. inl (subst (λ ps. NoneOn k ps) (sym own_left) (none_append k (left t J) (undo_added b b.undo) n (added_none k b off)))) (λ n. inr (alters_push t k J (Forward t b) n)) (h.altered t))
      altered u (inr a) = ⊎_elim (λ n. inl (subst (λ ps. NoneOn k ps) (sym (left_other t u b J a.1)) n)) (λ n. inr (alters_push u k J (Forward t b) n)) (h.altered u)

      txns :
          (u : ℕ) (y : Working) → kept_state s u (J ++ Forward t b ∷ []) ≡ Some (Active y) → has cuts u ≡ false → is_unwinding y.way ≡ false → (((u == t) ≡ true) × (u ≡ t)) ⊎ (((u == t) ≡ false) × (u ≢ t))
          → IsClear k (calls_of u (J ++ Forward t b ∷ [])) y ⊎ (Touches u k (J ++ Forward t b ∷ []) × IsAlone u k (J ++ Forward t b ∷ []) × Runs s G k h.value (V k) (calls_of u (J ++ Forward t b ∷ [])) y)
      txns u y e uncut still (inl a) = own_txn k h.value u y a.1 e (⊎_elim clear runs (h.txns t w x.before (subst (λ z. has cuts z ≡ false) a.1 uncut) (forward_still s t w b (Active v) x.forwards)))
        where
          clear : IsClear k (calls_of t J) w → IsClear k (calls_of t (J ++ Forward t b ∷ [])) v ⊎ (Touches t k (J ++ Forward t b ∷ []) × IsAlone t k (J ++ Forward t b ∷ []) × Runs s G k h.value (V k) (calls_of t (J ++ Forward t b ∷ [])) v)
          clear c = inl (record {
            none = ap (on_key k) (same.0 t) ∙ c.none;
            undos = subst (λ ps. NoneOn k ps) (sym (forward_undos s t w v b x.forwards)) (none_append k w.undos (undo_added b b.undo) c.undos (added_none k b off));
            off = subst (λ q. IsOff k q) (sym (forward_progress s t w v b x.forwards)) (off_other b.key k x.forwards.0 says.1 off);
          })

          runs : Touches t k J × IsAlone t k J × Runs s F k h.value (W k) (calls_of t J) w → IsClear k (calls_of t (J ++ Forward t b ∷ [])) v ⊎ (Touches t k (J ++ Forward t b ∷ []) × IsAlone t k (J ++ Forward t b ∷ []) × Runs s G k h.value (V k) (calls_of t (J ++ Forward t b ∷ [])) v)
          runs c = inr (touches_push t k J (Forward t b) c.0, off_alone k t off c.1, own_runs k h.value c.2)
      txns u y e uncut still (inr a) = ⊎_elim clear runs (h.txns u y (other_state u (Active y) a.1 e) uncut still)
        where
          clear : IsClear k (calls_of u J) y → IsClear k (calls_of u (J ++ Forward t b ∷ [])) y ⊎ (Touches u k (J ++ Forward t b ∷ []) × IsAlone u k (J ++ Forward t b ∷ []) × Runs s G k h.value (V k) (calls_of u (J ++ Forward t b ∷ [])) y)
          clear c = inl (subst (λ cs. IsClear k cs y) (sym (same.0 u)) c)

          runs : Touches u k J × IsAlone u k J × Runs s F k h.value (W k) (calls_of u J) y → IsClear k (calls_of u (J ++ Forward t b ∷ [])) y ⊎ (Touches u k (J ++ Forward t b ∷ []) × IsAlone u k (J ++ Forward t b ∷ []) × Runs s G k h.value (V k) (calls_of u (J ++ Forward t b ∷ [])) y)
          runs c = inr (touches_push u k J (Forward t b) c.0, off_alone k u off c.1, subst (λ cs. Runs s G k h.value (V k) cs y) (sym (same.0 u)) (subst (λ (X : Part). Runs s G k h.value X (calls_of u J) y) (sym stay) (runs_other s F G k h.value (W k) (calls_of u J) y changes.1 c.2)))

      dead : (u : ℕ) (ps : List Pending) → kept_state s u (J ++ Forward t b ∷ []) ≡ Some (IsOver ps) → (((u == t) ≡ true) × (u ≡ t)) ⊎ (((u == t) ≡ false) × (u ≢ t)) → (NoneOn k ps ⊎ Alters u k (J ++ Forward t b ∷ [])) × AreDead k ps (V k)
      dead u ps e (inl a) = let z : Some (Active v) ≡ Some (IsOver ps) = sym x.after ∙ subst (λ i. kept_state s i (J ++ Forward t b ∷ []) ≡ Some (IsOver ps)) a.1 e in absurd (cc (z))
      dead u ps e (inr a) = let y = h.dead u ps (other_state u (IsOver ps) a.1 e) in (⊎_elim (λ n. inl n) (λ n. inr (alters_push u k J (Forward t b) n)) y.0, subst (λ (X : Part). AreDead k ps X) (sym stay) y.1)

  -- the key of the block
  -- who has altered it has no undo on it left
  none_left : (k : ℕ) (start : Option (List ℕ)) → b.key ≡ k → Keyed s cuts J W F start k → IsAlone t k J
  none_left k start on h u apart = ⊎_elim (λ n. n) (λ n. yields_left cuts J (Forward t b) u k (kept_state s u J) (x.knows u) (yields_altered cuts J (Forward t b) (record { txn = t; owner = t; block = b }) u k x.locks refl on apart n)) (h.altered u)

  on_alone : (k : ℕ) → IsAlone t k J → IsAlone t k (J ++ Forward t b ∷ [])
  on_alone k h u apart = subst (λ ps. NoneOn k ps) (sym (left_other t u b J apart)) (h u apart)

  on_key_is : (k : ℕ) (start : Option (List ℕ)) → b.key ≡ k → Keyed s cuts J W F start k → Keyed s cuts (J ++ Forward t b ∷ []) V G start k
  on_key_is k start on h = record {
    value = h.value;
    slots = h.slots;
    holder = t;
    replayed = ap (λ cs. values_after (Some start) (on_key k cs)) same.2 ∙ h.replayed;
    stands = h.stands;
    reached = reached_rises s F G k h.slots changes.1 h.reached;
    leads = subst (λ ps. Leads s k ps (V k) h.slots) (sym rev_left) (changed_leads s W V b.key b.region b.undo k (reverse (left t J)) h.slots changes.0 own_leads);
    others = on_alone k alone;
    altered = λ u. altered u (eqb_tells u t);
    txns = λ u y e uncut still. txns u y e uncut still (eqb_tells u t);
    dead = λ u ps e. dead u ps e (eqb_tells u t);
  }
    where
      alone : IsAlone t k J
      alone = none_left k start on h

      own_leads : Leads s k (reverse (left t J)) (W k) h.slots
      own_leads = leads_alone s J k t h.holder (W k) h.slots alone h.others h.leads

      new_touch : Touches t k (J ++ Forward t b ∷ [])
      new_touch = (length J, record { txn = t; owner = t; block = b }, touch_new J (Forward t b), refl, on)

      -- no change, or one that alters the item
      either : ((V ≡ W) × (b.undo ≡ None)) ⊎ (changes_item b ≡ true)
      either = ⊎_elim (λ c. inl c) (λ c. inr (undo_changes s W V F G b.key b.region b.op b.outcome b.undo c.0 x.does says.0 c.2)) changes.0

      altered : (u : ℕ) → (((u == t) ≡ true) × (u ≡ t)) ⊎ (((u == t) ≡ false) × (u ≢ t)) → NoneOn k (left u (J ++ Forward t b ∷ [])) ⊎ Alters u k (J ++ Forward t b ∷ [])
      altered u (inl a) = subst (λ z. NoneOn k (left z (J ++ Forward t b ∷ [])) ⊎ Alters z k (J ++ Forward t b ∷ [])) (sym a.1) (⊎_elim quiet (λ c. inr (length J, record { txn = t; owner = t; block = b }, touch_new J (Forward t b), refl, on, c)) either)
        where
          quiet : (V ≡ W) × (b.undo ≡ None) → NoneOn k (left t (J ++ Forward t b ∷ [])) ⊎ Alters t k (J ++ Forward t b ∷ [])
          quiet c =
              let list : left t (J ++ Forward t b ∷ []) ≡ left t J = own_left ∙ ap (λ o. left t J ++ undo_added b o) c.1 ∙ append-nil (left t J) in
              ⊎_elim (λ n. inl (subst (λ ps. NoneOn k ps) (sym list) n)) (λ n. inr (alters_push t k J (Forward t b) n)) (h.altered t)
      altered u (inr a) = inl (on_alone k alone u a.1)

      -- a running transaction with nothing on the key begins there
      begun : (IsClear k (calls_of t J) w ⊎ (Touches t k J × IsAlone t k J × Runs s F k h.value (W k) (calls_of t J) w)) → Runs s F k h.value (W k) (calls_of t J) w
      begun (inr c) = c.2
      begun (inl c) =
          let none : NoneOn k (left t J) = subst (λ ps. NoneOn k ps) (sym own_undos) c.undos in
          let quiet : W k ≡ h.slots = leads_none s k (reverse (left t J)) (W k) h.slots (none_reverse k (left t J) none) own_leads in
          runs_fresh s F k h.value (W k) (calls_of t J) w c.none (forward_still s t w b (Active v) x.forwards) c.off (none_reverse k (Rattle.std.specs.Prelude.drop w.mark w.undos) (none_drop k w.mark w.undos c.undos))
          (subst (λ (X : Part). Stands s X h.value) (sym quiet) h.stands) (subst (λ (X : Part). Reached s F k X) (sym quiet) h.reached)

      txns :
          (u : ℕ) (y : Working) → kept_state s u (J ++ Forward t b ∷ []) ≡ Some (Active y) → has cuts u ≡ false → is_unwinding y.way ≡ false → (((u == t) ≡ true) × (u ≡ t)) ⊎ (((u == t) ≡ false) × (u ≢ t))
          → IsClear k (calls_of u (J ++ Forward t b ∷ [])) y ⊎ (Touches u k (J ++ Forward t b ∷ []) × IsAlone u k (J ++ Forward t b ∷ []) × Runs s G k h.value (V k) (calls_of u (J ++ Forward t b ∷ [])) y)
      txns u y e uncut still (inl a) = own_txn k h.value u y a.1 e (inr (new_touch, on_alone k alone, own_runs k h.value (begun (h.txns t w x.before (subst (λ z. has cuts z ≡ false) a.1 uncut) (forward_still s t w b (Active v) x.forwards)))))
      txns u y e uncut still (inr a) = ⊎_elim clear runs (h.txns u y (other_state u (Active y) a.1 e) uncut still)
        where
          clear : IsClear k (calls_of u J) y → IsClear k (calls_of u (J ++ Forward t b ∷ [])) y ⊎ (Touches u k (J ++ Forward t b ∷ []) × IsAlone u k (J ++ Forward t b ∷ []) × Runs s G k h.value (V k) (calls_of u (J ++ Forward t b ∷ [])) y)
          clear c = inl (subst (λ cs. IsClear k cs y) (sym (same.0 u)) c)

          runs : Touches u k J × IsAlone u k J × Runs s F k h.value (W k) (calls_of u J) y → IsClear k (calls_of u (J ++ Forward t b ∷ [])) y ⊎ (Touches u k (J ++ Forward t b ∷ []) × IsAlone u k (J ++ Forward t b ∷ []) × Runs s G k h.value (V k) (calls_of u (J ++ Forward t b ∷ [])) y)
          runs c = ⊎_elim quiet loud either
            where
              loud : changes_item b ≡ true → IsClear k (calls_of u (J ++ Forward t b ∷ [])) y ⊎ (Touches u k (J ++ Forward t b ∷ []) × IsAlone u k (J ++ Forward t b ∷ []) × Runs s G k h.value (V k) (calls_of u (J ++ Forward t b ∷ [])) y)
              loud d = absurd (yields_active cuts J (Forward t b) u k y (subst (λ o. Knows u J o) (other_state u (Active y) a.1 e) (x.knows u)) uncut (yields_touched cuts J (Forward t b) (record { txn = t; owner = t; block = b }) u k x.locks refl on a.1 d c.0))

              quiet : (V ≡ W) × (b.undo ≡ None) → IsClear k (calls_of u (J ++ Forward t b ∷ [])) y ⊎ (Touches u k (J ++ Forward t b ∷ []) × IsAlone u k (J ++ Forward t b ∷ []) × Runs s G k h.value (V k) (calls_of u (J ++ Forward t b ∷ [])) y)
              quiet d = inr (touches_push u k J (Forward t b) c.0, stand, subst (λ cs. Runs s G k h.value (V k) cs y) (sym (same.0 u)) (subst (λ (X : World). Runs s G k h.value (X k) (calls_of u J) y) (sym d.0) (runs_other s F G k h.value (W k) (calls_of u J) y changes.1 c.2)))
                where
                  list : left t (J ++ Forward t b ∷ []) ≡ left t J
                  list = own_left ∙ ap (λ o. left t J ++ undo_added b o) d.1 ∙ append-nil (left t J)

                  stand : IsAlone u k (J ++ Forward t b ∷ [])
                  stand z apart = ⊎_elim (λ i. subst (λ j. NoneOn k (left j (J ++ Forward t b ∷ []))) (sym i.1) (subst (λ ps. NoneOn k ps) (sym list) (c.1 t (λ j. apart (i.1 ∙ j))))) (λ i. on_alone k alone z i.1) (eqb_tells z t)

      dead : (u : ℕ) (ps : List Pending) → kept_state s u (J ++ Forward t b ∷ []) ≡ Some (IsOver ps) → (((u == t) ≡ true) × (u ≡ t)) ⊎ (((u == t) ≡ false) × (u ≢ t)) → (NoneOn k ps ⊎ Alters u k (J ++ Forward t b ∷ [])) × AreDead k ps (V k)
      dead u ps e (inl a) = let z : Some (Active v) ≡ Some (IsOver ps) = sym x.after ∙ subst (λ i. kept_state s i (J ++ Forward t b ∷ []) ≡ Some (IsOver ps)) a.1 e in absurd (cc (z))
      dead u ps e (inr a) = ⊎_elim (λ n. (inl n, dead_none k ps (V k) n)) (λ n. absurd (yields_committed cuts J (Forward t b) u k ps x.uncut (subst (λ o. Knows u J o) (other_state u (IsOver ps) a.1 e) (x.knows u)) (yields_altered cuts J (Forward t b) (record { txn = t; owner = t; block = b }) u k x.locks refl on a.1 n))) (h.dead u ps (other_state u (IsOver ps) a.1 e)).0

  -- an operation keeps what holds of each key
  pub keyed_forward : (k : ℕ) (start : Option (List ℕ)) → Keyed s cuts J W F start k → Keyed s cuts (J ++ Forward t b ∷ []) V G start k
  keyed_forward k start h = ⊎_elim (λ a. on_key_is k start a.1 h) (λ a. off_key k start a.1 h) (eqb_tells b.key k)
