-- A running transaction, by the slots of one key.
--     beyond w                 the undos of the present call, from the last
--     Goes s F k P R v w       how far the present call has come on k: the slots of k are P, and were R before the call, for v
--     Runs s F k o P calls w   the calls of the transaction on k, on the value o, and its present call
use Rattle.std.proofs.Common.{◌≡◌, ℕ, ◌<◌, ◌≤◌, true, false, not, List, [], ◌++◌, length, drop, Option, Some, None, refl, ap, sym, subst, ◌∙◌, ◌⊎◌, inl, inr, ⊎_elim, ◌≢◌, arith, append-nil, drop_of_length-le}
use Rattle.std.specs.Prelude.{◌==◌, reverse}
use Rattle.std.proofs.lemmas.List.{reverse-append, drop-append-le}
use Rattle.std.proofs.Math.Seq.{drop-append_seam}
use Rattle.std.proofs.lemmas.Bool.Decides.{eqb_tells}
use Rattle.std.proofs.lemmas.Bool.{eqb-true, and_parts}
use Rattle.dali_geometry.specs.Sizes.{Sizes}
use Rattle.dali_record.specs.declared.operations.Block.{Block}
use Rattle.dali_record.specs.declared.operations.Undo.{Undo}
use Rattle.dali_record.specs.declared.operations.Pending.{Pending}
use Rattle.dali_record.specs.declared.records.Call.{Call}
use Rattle.dali_record.specs.declared.records.Answer.{Answer}
use Rattle.dali_record.specs.Log.{undo_added}
use Rattle.dali_record.specs.Calls.{Progress, Fresh, Adding, Finished, follow, answers, takes_back}
use Rattle.dali_record.specs.Legal.{Working, Way, Onward, TakingBack, Unwinding, is_onward, is_unwinding, is_level, on_kind}
use Rattle.dali_history.specs.Serial.{value_after, call_key, values_after, on_key}
use Rattle.dali_history.specs.Blocks.{HasValue}
use Rattle.dali_access.proofs.IndexLemmas.Worlds.{World, Flags}
use Rattle.dali_history.proofs.SlotsLemmas.BlockOnSlots.{Does}
use Rattle.dali_access.proofs.IndexLemmas.Parts.{Part}
use Rattle.dali_history.proofs.SlotsLemmas.SlotUndos.{Leads, NoneOn, leads_stay}
use Rattle.dali_history.proofs.SlotsLemmas.SlotSteps.{IsForward, Changed, added_by, forward_changes, changed_beside, changed_leads}
use Rattle.dali_access.proofs.IndexLemmas.Reaches.{Rises, walk}
use Rattle.dali_history.proofs.SlotsLemmas.ValueSlots.{Stands, Reached, reached_rises}
use Rattle.dali_history.proofs.SlotsLemmas.CallProgress.{Own, IsOn}
use Rattle.dali_history.proofs.SlotsLemmas.CallStep.{own_step}
use Rattle.dali_history.proofs.SlotsLemmas.CallKey.{IsOff, off_other, off_on, follow_says}

-- ---- the present call
abbrev pub OnOrOff : Sizes → Flags → ℕ → Part → Part → Option (List ℕ) → Progress → Type 0
OnOrOff s F k P R v q = (IsOn k q × Own s F k P R v q) ⊎ (IsOff k q × (P ≡ R))

-- an answer before which all is taken back leaves the value
abbrev pub IsSafe : Sizes → ℕ → Option (List ℕ) → Progress → Type 0
IsSafe s k v q = (c : Call) (a : Answer) → answers s q c a ≡ true → takes_back a ≡ true → call_key c ≡ k → value_after v c a ≡ Some v

abbrev pub Goes : Sizes → Flags → ℕ → Part → Part → Option (List ℕ) → Way → Progress → Type 0
Goes s F k P R v Onward q = OnOrOff s F k P R v q
Goes s F k P R v TakingBack q = IsSafe s k v q
Goes s F k P R v Unwinding q = ⊥

abbrev pub beyond : Working → List Pending
beyond w = reverse (drop w.mark w.undos)

pub record Runs (s : Sizes) (F : Flags) (k : ℕ) (o : Option (List ℕ)) (P : Part) (calls : List (Call × Answer)) (w : Working) : Type 0 where
  pub value : Option (List ℕ)
  pub slots : Part
  pub replayed : values_after (Some o) (on_key k calls) ≡ Some value
  pub stands : Stands s slots value
  pub reached : Reached s F k slots
  pub leads : Leads s k (beyond w) P slots
  pub goes : Goes s F k P slots value w.way w.progress

-- ---- flags rise
own_rises : (s : Sizes) (F G : Flags) (k : ℕ) (P R : Part) (v : Option (List ℕ)) (q : Progress) → Rises F G → Own s F k P R v q → Own s G k P R v q
own_rises s F G k P R v (Adding key w at region tried) up h = (h.0, h.1, h.2, h.3, h.4, h.5, λ m b. up (walk s m (Rattle.dali_geometry.specs.Places.home s k)) (h.6 m b))
own_rises s F G k P R v (Finished c a) up h = (h.0, h.1, h.2, λ e. let x = h.3 e in (x.0, reached_rises s F G k P up x.1))
own_rises s F G k P R v _ up h = h

goes_rises : (s : Sizes) (F G : Flags) (k : ℕ) (P R : Part) (v : Option (List ℕ)) (y : Way) (q : Progress) → Rises F G → Goes s F k P R v y q → Goes s G k P R v y q
goes_rises s F G k P R v Onward q up h = ⊎_elim (λ a. inl (a.0, own_rises s F G k P R v q up a.1)) (λ a. inr a) h
goes_rises s F G k P R v TakingBack q up h = h
goes_rises s F G k P R v Unwinding q up h = h

-- what others do to flags and other keys leaves the transaction where it is
pub runs_other : (s : Sizes) (F G : Flags) (k : ℕ) (o : Option (List ℕ)) (P : Part) (calls : List (Call × Answer)) (w : Working) → Rises F G → Runs s F k o P calls w → Runs s G k o P calls w
runs_other s F G k o P calls w up h = record {
  value = h.value;
  slots = h.slots;
  replayed = h.replayed;
  stands = h.stands;
  reached = reached_rises s F G k h.slots up h.reached;
  leads = h.leads;
  goes = goes_rises s F G k P h.slots h.value w.way w.progress up h.goes;
}

-- ---- a block of the transaction
pub added-same : (b : Block) → undo_added b b.undo ≡ added_by b.key b.region b.undo
added-same b = go b.undo
  where
    go : (u : Option Undo) → undo_added b u ≡ added_by b.key b.region u
    go None = refl
    go (Some d) = refl

pub reverse-added : (k r : ℕ) (u : Option Undo) → reverse (added_by k r u) ≡ added_by k r u
reverse-added k r None = refl
reverse-added k r (Some d) = refl

-- the present call of a transaction, or one that begins, one block on
pub block_step :
    (s : Sizes) (t : ℕ) (W V : World) (F G : Flags) (k : ℕ) (R : Part) (v : Option (List ℕ)) (b : Block) (q p : Progress) (ps : List Pending)
    → 0 < s.index → Does W F V G b.key b.region b.op b.outcome b.undo → on_kind s b.region b.op ≡ true → HasValue b.op → Stands s R v → Reached s F k R → Leads s k ps (W k) R → OnOrOff s F k (W k) R v q → follow s t q b ≡ Some p
    → Leads s k (added_by b.key b.region b.undo ++ ps) (V k) R × OnOrOff s G k (V k) R v p
block_step s t W V F G k R v b q p ps some does kind value stands reached leads goes e = (changed_leads s W V b.key b.region b.undo k ps R changes.0 leads, by_key (eqb_tells b.key k))
  where
    says : IsForward b.op × IsOn b.key q × IsOn b.key p
    says = follow_says s t q b p e

    changes : Changed s W V b.key b.region b.undo × Rises F G
    changes = forward_changes s W V F G b.key b.region b.op b.outcome b.undo does kind says.0

    -- a call with no block yet is on the key with nothing done
    own : b.key ≡ k → OnOrOff s F k (W k) R v q → Own s F k (W k) R v q
    own on (inl h) = h.1
    own on (inr h) = let fresh : q ≡ Fresh = off_on k q h.0 (subst (λ j. IsOn j q) on says.1) in rw fresh (h.1)

    -- and a call on another key has left the slots
    still : b.key ≢ k → OnOrOff s F k (W k) R v q → W k ≡ R
    still off (inl h) = let fresh : q ≡ Fresh = off_on k q (off_other b.key k q says.1 off) h.0 in rw fresh at h.1
    still off (inr h) = h.1

    by_key : (((b.key == k) ≡ true) × (b.key ≡ k)) ⊎ (((b.key == k) ≡ false) × (b.key ≢ k)) → OnOrOff s G k (V k) R v p
    by_key (inl a) = let x = own_step s t W V F G k R v b q p some a.1 does kind value stands reached (own a.1 goes) (subst (λ j. IsOn j q) a.1 says.1) e in inl (x.1, x.0)
    by_key (inr a) = inr (off_other b.key k p says.2 a.1, changed_beside s W V b.key b.region b.undo k changes.0 (λ z. a.1 (sym z)) ∙ still a.1 goes)

-- the call goes on
pub runs_goes_on :
    (s : Sizes) (t : ℕ) (W V : World) (F G : Flags) (k : ℕ) (o : Option (List ℕ)) (calls : List (Call × Answer)) (w : Working) (b : Block) (p : Progress)
    → 0 < s.index → Does W F V G b.key b.region b.op b.outcome b.undo → on_kind s b.region b.op ≡ true → HasValue b.op → w.mark ≤ length w.undos → is_onward w.way ≡ true → Runs s F k o (W k) calls w → follow s t w.progress b ≡ Some p
    → Runs s G k o (V k) calls (record { undos = w.undos ++ undo_added b b.undo; mark = w.mark; progress = p; way = Onward })
runs_goes_on s t W V F G k o calls w b p some does kind value fits onward h e = record {
  value = h.value;
  slots = h.slots;
  replayed = h.replayed;
  stands = h.stands;
  reached = reached_rises s F G k h.slots (forward_changes s W V F G b.key b.region b.op b.outcome b.undo does kind (follow_says s t w.progress b p e).0).1 h.reached;
  leads = subst (λ ps. Leads s k ps (V k) h.slots) (sym list) step.0;
  goes = step.1;
}
  where
    list : reverse (drop w.mark (w.undos ++ undo_added b b.undo)) ≡ added_by b.key b.region b.undo ++ beyond w
    list = ap reverse (drop-append-le w.mark w.undos (undo_added b b.undo) fits) ∙ reverse-append (drop w.mark w.undos) (undo_added b b.undo) ∙ ap (λ xs. reverse xs ++ beyond w) (added-same b) ∙ ap (λ xs. xs ++ beyond w) (reverse-added b.key b.region b.undo)

    by_way : (y : Way) → is_onward y ≡ true → Goes s F k (W k) h.slots h.value y w.progress → OnOrOff s F k (W k) h.slots h.value w.progress
    by_way Onward f g = g
    by_way TakingBack f g = absurd (cc (f))
    by_way Unwinding f g = absurd g

    step : Leads s k (added_by b.key b.region b.undo ++ beyond w) (V k) h.slots × OnOrOff s G k (V k) h.slots h.value p
    step = block_step s t W V F G k h.slots h.value b w.progress p (beyond w) some does kind value h.stands h.reached h.leads (by_way w.way onward h.goes) e

-- the present call has no change that stands
pub level_beyond : (w : Working) → is_level w ≡ true → beyond w ≡ []
level_beyond w h =
    let x = and_parts (length w.undos == w.mark) (not (is_unwinding w.way)) h in
    let e : length w.undos ≡ w.mark = eqb-true (length w.undos) w.mark x.0 in
    ap reverse (drop_of_length-le w.undos {i = w.mark} (omega arith))

pub level_same : (s : Sizes) (k : ℕ) (P R : Part) (w : Working) → is_level w ≡ true → Leads s k (beyond w) P R → P ≡ R
level_same s k P R w h g = subst (λ ps. Leads s k ps P R) (level_beyond w h) g

-- a call begins
pub runs_starts :
    (s : Sizes) (t : ℕ) (W V : World) (F G : Flags) (k : ℕ) (o : Option (List ℕ)) (calls : List (Call × Answer)) (w : Working) (b : Block) (p : Progress)
    → 0 < s.index → Does W F V G b.key b.region b.op b.outcome b.undo → on_kind s b.region b.op ≡ true → HasValue b.op → is_level w ≡ true → Runs s F k o (W k) calls w → follow s t Fresh b ≡ Some p
    → Runs s G k o (V k) calls (record { undos = w.undos ++ undo_added b b.undo; mark = length w.undos; progress = p; way = Onward })
runs_starts s t W V F G k o calls w b p some does kind value level h e = record {
  value = h.value;
  slots = h.slots;
  replayed = h.replayed;
  stands = h.stands;
  reached = reached_rises s F G k h.slots (forward_changes s W V F G b.key b.region b.op b.outcome b.undo does kind (follow_says s t Fresh b p e).0).1 h.reached;
  leads = subst (λ ps. Leads s k ps (V k) h.slots) (sym list) step.0;
  goes = step.1;
}
  where
    list : reverse (drop (length w.undos) (w.undos ++ undo_added b b.undo)) ≡ added_by b.key b.region b.undo ++ []
    list = ap reverse (drop-append_seam w.undos (undo_added b b.undo)) ∙ ap reverse (added-same b) ∙ reverse-added b.key b.region b.undo ∙ sym (append-nil (added_by b.key b.region b.undo))

    same : W k ≡ h.slots
    same = level_same s k (W k) h.slots w level h.leads

    step : Leads s k (added_by b.key b.region b.undo ++ []) (V k) h.slots × OnOrOff s G k (V k) h.slots h.value p
    step = block_step s t W V F G k h.slots h.value b Fresh p [] some does kind value h.stands h.reached same (inr (tt, same)) e

-- a transaction with no call on the key so far
pub runs_new : (s : Sizes) (F : Flags) (k : ℕ) (o : Option (List ℕ)) (P : Part) (calls : List (Call × Answer)) (w : Working) → on_key k calls ≡ [] → NoneOn k (beyond w) → Stands s P o → Reached s F k P → Goes s F k P P o w.way w.progress → Runs s F k o P calls w
runs_new s F k o P calls w none clear stands reached goes = record {
  value = o;
  slots = P;
  replayed = ap (values_after (Some o)) none;
  stands = stands;
  reached = reached;
  leads = leads_stay s k (beyond w) P clear;
  goes = goes;
}

-- and whose calls are all to come
pub runs_first : (s : Sizes) (F : Flags) (k : ℕ) (o : Option (List ℕ)) (P : Part) (calls : List (Call × Answer)) (w : Working) → on_key k calls ≡ [] → is_onward w.way ≡ true → IsOff k w.progress → NoneOn k (beyond w) → Stands s P o → Reached s F k P → Runs s F k o P calls w
runs_first s F k o P calls w none onward off clear stands reached = runs_new s F k o P calls w none clear stands reached (by_way w.way onward)
  where
    by_way : (y : Way) → is_onward y ≡ true → Goes s F k P P o y w.progress
    by_way Onward f = inr (off, refl)
    by_way TakingBack f = absurd (cc (f))
    by_way Unwinding f = absurd (cc (f))

-- ---- at the commit
pub runs_stand : (s : Sizes) (F : Flags) (k : ℕ) (o : Option (List ℕ)) (P : Part) (calls : List (Call × Answer)) (w : Working) → is_level w ≡ true → Runs s F k o P calls w → (v : Option (List ℕ)) × (values_after (Some o) (on_key k calls) ≡ Some v) × Stands s P v × Reached s F k P
runs_stand s F k o P calls w level h =
    let same : P ≡ h.slots = level_same s k P h.slots w level h.leads in
    (h.value, h.replayed, subst (λ (X : Part). Stands s X h.value) (sym same) h.stands, subst (λ (X : Part). Reached s F k X) (sym same) h.reached)
