-- What holds of one key after each record: the law's invariant.
--     AreDead k ps P           the removals ps on k stand in P, each in a slot of its own
--     IsClear k calls w        a running transaction has nothing to do with k
--     Keyed s cuts J W F o k   after the records J, with the slots W and flags F, from the value o of k in the base
use Rattle.std.proofs.Common.{◌≡◌, ℕ, ◌<◌, ◌≤◌, Bool, true, false, List, [], ◌∷◌, ◌++◌, length, Option, Some, None, ap, sym, subst, ◌∙◌, ◌⊎◌, inl, inr, ⊎_elim, ◌≢◌, append-nil}
use Rattle.std.specs.Prelude.{◌==◌, if◌then◌else◌, ⊤, reverse, flat_map, map}
use Rattle.std.proofs.lemmas.Bool.Decides.{eqb_tells}
use mathlib.Core.Path.{fun_ext}
use Rattle.dali_geometry.specs.Sizes.{Sizes}
use Rattle.dali_record.specs.declared.operations.Pending.{Pending}
use Rattle.dali_record.specs.declared.operations.Undo.{Undo}
use Rattle.dali_record.specs.declared.operations.Op.{Op}
use Rattle.dali_record.specs.declared.operations.Op.TheVariants.{Look, Add, KillEntry, Put, Read, Change, KillCell}
use Rattle.dali_record.specs.declared.operations.Outcome.{Outcome}
use Rattle.dali_record.specs.declared.records.Call.{Call}
use Rattle.dali_record.specs.declared.records.Answer.{Answer}
use Rattle.dali_record.specs.declared.records.Record.{Record}
use Rattle.dali_record.specs.Operations.{changes}
use Rattle.dali_record.specs.Log.{undos_of, committed, calls_of}
use Rattle.dali_record.specs.Damage.{has}
use Rattle.dali_record.specs.Legal.{is_removal, Working, Way, Onward, TakingBack, Unwinding, TxnState, Unbegun, Active, Over, is_unwinding, Committed as IsOver}
use Rattle.dali_record.proofs.Pushes.{undos_of_push, committed_push, calls_of_push}
use Rattle.dali_history.specs.Serial.{values_after, on_key, calls_in_order}
use Rattle.dali_history.specs.Kept.Kept.{kept_state}
use Rattle.dali_access.proofs.IndexLemmas.Worlds.{World, Flags}
use Rattle.dali_history.proofs.SlotsLemmas.BlockOnSlots.{Does}
use Rattle.dali_access.proofs.IndexLemmas.Parts.{Part}
use Rattle.dali_history.proofs.SlotsLemmas.SlotUndos.{Leads, NoneOn, slot_of}
use Rattle.dali_history.proofs.SlotsLemmas.SlotSteps.{IsForward}
use Rattle.dali_history.proofs.SlotsLemmas.ValueSlots.{Stands, Reached}
use Rattle.dali_history.proofs.SlotsLemmas.CallKey.{IsOff}
use Rattle.dali_history.proofs.SlotsLemmas.RunningTxn.{Runs}
use Rattle.dali_history.proofs.KeptLemmas.WithoutLast.{left, Touches, Alters, HasEnded, Yields, undos_other}

-- the undos of ps on k are on other slots than p
abbrev pub Apart : ℕ → Pending → List Pending → Type 0
Apart k p [] = ⊤
Apart k p (q ∷ ps) = (q.key ≡ k → (q.region ≢ p.region) ⊎ (slot_of q.undo ≢ slot_of p.undo)) × Apart k p ps

abbrev pub AreDead : ℕ → List Pending → Part → Type 0
AreDead k [] P = ⊤
AreDead k (p ∷ ps) P = (p.key ≡ k → (ys : List ℕ) × (P p.region (slot_of p.undo) ≡ 2 ∷ ys) × (is_removal p.undo ≡ true)) × (p.key ≡ k → Apart k p ps) × AreDead k ps P

pub record IsClear (k : ℕ) (calls : List (Call × Answer)) (w : Working) : Type 0 where
  pub none : on_key k calls ≡ []
  pub undos : NoneOn k w.undos
  pub off : IsOff k w.progress

abbrev pub IsAlone : ℕ → ℕ → List Record → Type 0
IsAlone t k J = (u : ℕ) → u ≢ t → NoneOn k (left u J)

pub record Keyed (s : Sizes) (cuts : List ℕ) (J : List Record) (W : World) (F : Flags) (start : Option (List ℕ)) (k : ℕ) : Type 0 where
  pub value : Option (List ℕ)
  pub slots : Part
  pub holder : ℕ
  pub replayed : values_after (Some start) (on_key k (calls_in_order (committed J) J)) ≡ Some value
  pub stands : Stands s slots value
  pub reached : Reached s F k slots
  pub leads : Leads s k (reverse (left holder J)) (W k) slots
  pub others : IsAlone holder k J
  pub altered : (u : ℕ) → NoneOn k (left u J) ⊎ Alters u k J
  pub txns : (t : ℕ) (w : Working) → kept_state s t J ≡ Some (Active w) → has cuts t ≡ false → is_unwinding w.way ≡ false → IsClear k (calls_of t J) w ⊎ (Touches t k J × IsAlone t k J × Runs s F k value (W k) (calls_of t J) w)
  pub dead : (t : ℕ) (ps : List Pending) → kept_state s t J ≡ Some (IsOver ps) → (NoneOn k ps ⊎ Alters t k J) × AreDead k ps (W k)

-- a record more that changes no answer of a committed call, and stands for the same value
pub keyed_on :
    (s : Sizes) (cuts : List ℕ) (J : List Record) (r : Record) (W V : World) (F : Flags) (start : Option (List ℕ)) (k : ℕ) (h : Keyed s cuts J W F start k)
    → calls_in_order (committed (J ++ r ∷ [])) (J ++ r ∷ []) ≡ calls_in_order (committed J) J
    → Leads s k (reverse (left h.holder (J ++ r ∷ []))) (V k) h.slots
    → IsAlone h.holder k (J ++ r ∷ [])
    → ((u : ℕ) → NoneOn k (left u (J ++ r ∷ [])) ⊎ Alters u k (J ++ r ∷ []))
    → ((t : ℕ) (w : Working) → kept_state s t (J ++ r ∷ []) ≡ Some (Active w) → has cuts t ≡ false → is_unwinding w.way ≡ false → IsClear k (calls_of t (J ++ r ∷ [])) w ⊎ (Touches t k (J ++ r ∷ []) × IsAlone t k (J ++ r ∷ []) × Runs s F k h.value (V k) (calls_of t (J ++ r ∷ [])) w))
    → ((t : ℕ) (ps : List Pending) → kept_state s t (J ++ r ∷ []) ≡ Some (IsOver ps) → (NoneOn k ps ⊎ Alters t k (J ++ r ∷ [])) × AreDead k ps (V k))
    → Keyed s cuts (J ++ r ∷ []) V F start k
keyed_on s cuts J r W V F start k h same leads others altered txns dead = record {
  value = h.value;
  slots = h.slots;
  holder = h.holder;
  replayed = ap (λ cs. values_after (Some start) (on_key k cs)) same ∙ h.replayed;
  stands = h.stands;
  reached = h.reached;
  leads = leads;
  others = others;
  altered = altered;
  txns = txns;
  dead = dead;
}

-- ---- what is known of each transaction
abbrev pub FitsWay : Working → Way → Type 0
FitsWay w Onward = w.mark ≤ length w.undos
FitsWay w TakingBack = w.mark ≤ length w.undos
FitsWay w Unwinding = length w.undos < w.mark

abbrev pub Knows : ℕ → List Record → Option TxnState → Type 0
Knows t J None = ⊥
Knows t J (Some Unbegun) = (undos_of t J ≡ []) × (has (committed J) t ≡ false) × (calls_of t J ≡ []) × (HasEnded t J → ⊥)
Knows t J (Some (Active w)) = (undos_of t J ≡ w.undos) × (has (committed J) t ≡ false) × (HasEnded t J → ⊥) × FitsWay w w.way
Knows t J (Some (IsOver ps)) = (has (committed J) t ≡ true) × (HasEnded t J → ⊥)
Knows t J (Some Over) = HasEnded t J → left t J ≡ []

-- ---- locks, by what is known
pub has_none : (k : ℕ) (us : List Pending) → has (map (λ (u : Pending). u.key) us) k ≡ false → NoneOn k us
has_none k [] h = tt
has_none k (u ∷ us) h = go (eqb_tells u.key k) (has_none k us)
  where
    go : (((u.key == k) ≡ true) × (u.key ≡ k)) ⊎ (((u.key == k) ≡ false) × (u.key ≢ k)) → (has (map (λ (x : Pending). x.key) us) k ≡ false → NoneOn k us) → NoneOn k (u ∷ us)
    go (inl a) ih = let x : true ≡ false = rw (a.0) at h in absurd (cc (x))
    go (inr a) ih = (a.1, ih (rw (a.0) at h))

none_on_nil : (k : ℕ) (us : List Pending) → us ≡ [] → NoneOn k us
none_on_nil k us e = subst (λ vs. NoneOn k vs) (sym e) tt

-- one that yields has no undo on the key
pub yields_left : (cuts : List ℕ) (J : List Record) (r : Record) (t k : ℕ) (x : Option TxnState) → Knows t J x → Yields cuts t k J r → NoneOn k (left t J)
yields_left cuts J r t k x knows (inr y) = by_committed (has (committed J) t)
  where
    undos : NoneOn k (undos_of t J)
    undos = has_none k (undos_of t J) (let same : undos_of t (J ++ r ∷ []) ≡ undos_of t J = undos_of_push t J r ∙ undos_other t (undos_of t J) r y.2 in rw same at y.1)

    by_committed : (c : Bool) → NoneOn k (if c then [] else undos_of t J)
    by_committed true = tt
    by_committed false = undos
yields_left cuts J r t k None knows (inl y) = absurd knows
yields_left cuts J r t k (Some Unbegun) knows (inl y) = absurd (knows.3 y)
yields_left cuts J r t k (Some (Active w)) knows (inl y) = absurd (knows.2 y)
yields_left cuts J r t k (Some (IsOver ps)) knows (inl y) = absurd (knows.1 y)
yields_left cuts J r t k (Some Over) knows (inl y) = none_on_nil k (left t J) (knows y)

-- one that runs and isn't cut doesn't yield, nor does one that is committed
pub yields_active : (cuts : List ℕ) (J : List Record) (r : Record) (t k : ℕ) (w : Working) → Knows t J (Some (Active w)) → has cuts t ≡ false → Yields cuts t k J r → ⊥
yields_active cuts J r t k w knows uncut (inl y) = knows.2 y
yields_active cuts J r t k w knows uncut (inr y) = let x : true ≡ false = sym y.0 ∙ uncut in cc (x)

pub yields_committed : (cuts : List ℕ) (J : List Record) (r : Record) (t k : ℕ) (ps : List Pending) → ((u : ℕ) → has cuts u ≡ true → has (committed J) u ≡ false) → Knows t J (Some (IsOver ps)) → Yields cuts t k J r → ⊥
yields_committed cuts J r t k ps uncut knows (inl y) = knows.1 y
yields_committed cuts J r t k ps uncut knows (inr y) = let x : true ≡ false = sym knows.0 ∙ uncut t y.0 in cc (x)

-- ---- a record that is no answer and no commit leaves the calls
pub same_calls : (J : List Record) (r : Record) → committed (r ∷ []) ≡ [] → ((u : ℕ) → calls_of u (r ∷ []) ≡ []) → ((u : ℕ) → calls_of u (J ++ r ∷ []) ≡ calls_of u J) × (committed (J ++ r ∷ []) ≡ committed J) × (calls_in_order (committed (J ++ r ∷ [])) (J ++ r ∷ []) ≡ calls_in_order (committed J) J)
same_calls J r none calls = (each, all, ap (λ ts. flat_map (λ t. calls_of t (J ++ r ∷ [])) ts) all ∙ ap (λ (f : ℕ → List (Call × Answer)). flat_map f (committed J)) (fun_ext each))
  where
    each : (u : ℕ) → calls_of u (J ++ r ∷ []) ≡ calls_of u J
    each u = calls_of_push u J r ∙ ap (λ cs. calls_of u J ++ cs) (calls u) ∙ append-nil (calls_of u J)

    all : committed (J ++ r ∷ []) ≡ committed J
    all = committed_push J r ∙ ap (λ ts. committed J ++ ts) none ∙ append-nil (committed J)

-- a block with an undo changes its item
pub undo_changes : (s : Sizes) (W V : World) (F G : Flags) (k r : ℕ) (op : Op) (o : Outcome) (u : Option Undo) (d : Undo) → Does W F V G k r op o u → IsForward op → u ≡ Some d → changes o ≡ true
undo_changes s W V F G k r Look o u d h f e = let x : None ≡ Some d = sym h.0.2 ∙ e in absurd (cc (x))
undo_changes s W V F G k r (Add p) o u d h f e = ⊎_elim (λ a. ap changes a.1) (λ a. let x : None ≡ Some d = sym a.1 ∙ e in absurd (cc (x))) h
undo_changes s W V F G k r (KillEntry i) o u d h f e = ⊎_elim (λ a. ap changes a.1) (λ a. let x : None ≡ Some d = sym a.0.2 ∙ e in absurd (cc (x))) h
undo_changes s W V F G k r (Put v) o u d h f e = ⊎_elim (λ a. ap changes a.1) (λ a. let x : None ≡ Some d = sym a.0.2 ∙ e in absurd (cc (x))) h
undo_changes s W V F G k r (Read c) o u d h f e = let x : None ≡ Some d = sym h.0.2 ∙ e in absurd (cc (x))
undo_changes s W V F G k r (Change c v) o u d h f e = ⊎_elim (λ a. ap changes a.2) (λ a. let x : None ≡ Some d = sym a.0.2 ∙ e in absurd (cc (x))) (h f.0 f.1)
undo_changes s W V F G k r (KillCell c) o u d h f e = ⊎_elim (λ a. ap changes a.2) (λ a. let x : None ≡ Some d = sym a.0.2 ∙ e in absurd (cc (x))) (h f.0 f.1)
undo_changes s W V F G k r _ o u d h f e = absurd f
