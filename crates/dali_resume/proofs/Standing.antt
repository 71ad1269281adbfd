-- Where each transaction stands at a place of its epoch, and what may come of it behind that place.
use Rattle.std.proofs.Common.{◌≡◌, ℕ, zero, suc, Bool, true, false, List, [], ◌∷◌, ◌++◌, Option, Some, None, refl, ap, sym, subst, ◌∙◌, ◌⊎◌, inl, inr, ⊎_elim}
use Rattle.std.specs.Prelude.{◌||◌, ◌==◌, fold, IsSome}
use Rattle.std.proofs.lemmas.List.Folds.{list_any-append}
use Rattle.std.proofs.lemmas.List.Sums.{fold-append}
use Rattle.std.proofs.lemmas.List.Elements.{filter_map-append}
use Rattle.std.proofs.lemmas.Bool.{or_from, or_left, or_right, both_ways, eq-eqb}
use Rattle.std.proofs.lemmas.Option.{same_Some}
use mathlib.Core.Bool.{or-false}
use Rattle.dali_geometry.specs.Sizes.{Sizes}
use Rattle.dali_record.specs.declared.operations.Pending.{Pending}
use Rattle.dali_record.specs.declared.records.Record.{Record}
use Rattle.dali_record.specs.declared.records.Record.TheVariants.{Format, Begin, Forward, Done, Commit, Ended}
use Rattle.dali_record.specs.Log.{Touch, touch_of, touch_at, begun, begin_by, committed, commit_by, ended, ended_by, undos_of, undo_step}
use Rattle.dali_record.specs.Damage.{Damage, has, any_touch}
use Rattle.dali_record.specs.Legal.{Working, TxnState, Unbegun, Active, Committed, Over, txn_step, txn_next, concerns, allowed, is_none_left, dead_of}
use Rattle.dali_record.proofs.Ends.{by_push}
use Rattle.dali_record.proofs.Pushes.{separates, undos_of_push, txn_step-other}
use Rattle.dali_record.proofs.Keeping.{is_of_txn, undo_step-skips}
use Rattle.dali_record.proofs.Tracks.{Tracks}
use Rattle.dali_record.proofs.Moves.{Moved, begins, alone, works, commits, leaves, frees, ends, moves}
use Rattle.dali_record.proofs.Stages.{state_from, state_before, IsStart, IsWithin, IsWithin-front, others-touch, others-own, has_committed_push, stage, others-commit}
use Rattle.dali_record.proofs.Survivors.{StandsIn}
use Rattle.dali_runs.proofs.CountsLemmas.Fronts.{none_txn}

-- ---- what one more record adds
pub has_begun_push : (E : List Record) (r : Record) (t : ℕ) → has (begun (E ++ r ∷ [])) t ≡ (has (begun E) t || has (begun (r ∷ [])) t)
has_begun_push E r t = ap (λ ts. has ts t) (filter_map-append begin_by E (r ∷ [])) ∙ list_any-append (λ u. u == t) (begun E) (begun (r ∷ []))

pub has_ended_push : (E : List Record) (r : Record) (t : ℕ) → has (ended (E ++ r ∷ [])) t ≡ (has (ended E) t || has (ended (r ∷ [])) t)
has_ended_push E r t = ap (λ ts. has ts t) (filter_map-append ended_by E (r ∷ [])) ∙ list_any-append (λ u. u == t) (ended E) (ended (r ∷ []))

others_begin : (t : ℕ) (r : Record) → concerns t r ≡ false → has (begun (r ∷ [])) t ≡ false
others_begin t (Begin u) e = rw e refl
others_begin t _ e = refl

others_end : (t : ℕ) (r : Record) → concerns t r ≡ false → has (ended (r ∷ [])) t ≡ false
others_end t (Ended u) e = rw e refl
others_end t _ e = refl

none_begun : (t : ℕ) (r : Record) → begin_by r ≡ None → has (begun (r ∷ [])) t ≡ false
none_begun t r e = rw e refl

none_committed : (t : ℕ) (r : Record) → commit_by r ≡ None → has (committed (r ∷ [])) t ≡ false
none_committed t r e = rw e refl

-- what keeps a transaction active doesn't end it
pub none_ended : (s : Sizes) (t : ℕ) (w v : Working) (r : Record) → is_of_txn t r ≡ true → txn_step s t (Active w) r ≡ Some (Active v) → has (ended (r ∷ [])) t ≡ false
none_ended s t w v (Format i h) own e = refl
none_ended s t w v (Begin u) own e = refl
none_ended s t w v (Forward u b) own e = refl
none_ended s t w v (Done u c a) own e = refl
none_ended s t w v (Commit u) own e = refl
none_ended s t w v (Ended u) own e = let g : allowed (is_none_left w.undos) (Some Over) ≡ Some (Active v) = rw own at e in absurd (never (is_none_left w.undos) g)
  where
    never : (c : Bool) → allowed c (Some Over) ≡ Some (Active v) → ⊥
    never true q = cc
    never false q = cc
none_ended s t w v _ own e = refl

-- ---- begun, committed, ended, and the undo list, by the state
abbrev pub Lies : Bool → Bool → Bool → List Pending → TxnState → Type 0
Lies b c e us Unbegun = (b ≡ false) × (c ≡ false) × (e ≡ false) × (us ≡ [])
Lies b c e us (Active w) = (b ≡ true) × (c ≡ false) × (e ≡ false)
Lies b c e us (Committed ps) = (b ≡ true) × (c ≡ true) × (e ≡ false)
Lies b c e us Over = ((b ≡ true) × (e ≡ true) × (c ≡ false → us ≡ [])) ⊎ ((b ≡ false) × (c ≡ false) × (e ≡ false) × (us ≡ []))

abbrev pub LiesIn : ℕ → List Record → TxnState → Type 0
LiesIn t E x = Lies (has (begun E) t) (has (committed E) t) (has (ended E) t) (undos_of t E) x

abbrev Pushed : ℕ → List Record → Record → TxnState → Type 0
Pushed t E r y = Lies (has (begun E) t || has (begun (r ∷ [])) t) (has (committed E) t || has (committed (r ∷ [])) t) (has (ended E) t || has (ended (r ∷ [])) t) (undo_step t (undos_of t E) r) y

from_pushed : (t : ℕ) (E : List Record) (r : Record) (y : TxnState) → Pushed t E r y → LiesIn t (E ++ r ∷ []) y
from_pushed t E r y h = rw (has_begun_push E r t, has_committed_push E r t, has_ended_push E r t, undos_of_push t E r) h

this : (t : ℕ) → ((t == t) || false) ≡ true
this t = or_left (t == t) false (eq-eqb t t refl)

lies_step : (s : Sizes) (t : ℕ) (E : List Record) (r : Record) (x y : TxnState) → separates r ≡ false → txn_step s t x r ≡ Some y → Tracks (Some x) (undos_of t E) → LiesIn t E x → LiesIn t (E ++ r ∷ []) y
lies_step s t E r x y within e track h = from_pushed t E r y (by_concern (concerns t r) refl)
  where
    by_move : Moved t x r y → Pushed t E r y
    by_move (begins w a b c) =
        let was : LiesIn t E Unbegun = subst (LiesIn t E) a h in
        subst (Pushed t E r) (sym c) (subst (λ q. Pushed t E q (Active w)) (sym b) (or_right (has (begun E) t) ((t == t) || false) (this t), or-false (has (committed E) t) ∙ was.1, or-false (has (ended E) t) ∙ was.2))
    by_move (alone p k a b c) =
        let was : LiesIn t E Unbegun = subst (LiesIn t E) a h in
        subst (Pushed t E r) (sym c) (subst (λ q. Pushed t E q Over) (sym b) (inr (or-false (has (begun E) t) ∙ was.0, or-false (has (committed E) t) ∙ was.1, or-false (has (ended E) t) ∙ was.2, was.3)))
    by_move (works w v a own b k c) =
        let was : LiesIn t E (Active w) = subst (LiesIn t E) a h in
        let step : txn_step s t (Active w) r ≡ Some (Active v) = subst (λ z. txn_step s t (Active w) r ≡ Some z) c (subst (λ z. txn_step s t z r ≡ Some y) a e) in
        subst (Pushed t E r) (sym c) (or_left (has (begun E) t) (has (begun (r ∷ [])) t) was.0, or_from (has (committed E) t) (has (committed (r ∷ [])) t) was.1 (none_committed t r k), or_from (has (ended E) t) (has (ended (r ∷ [])) t) was.2 (none_ended s t w v r own step))
    by_move (commits w a b c) =
        let was : LiesIn t E (Active w) = subst (LiesIn t E) a h in
        subst (Pushed t E r) (sym c) (subst (λ q. Pushed t E q (Committed (dead_of w.undos))) (sym b) (or-false (has (begun E) t) ∙ was.0, or_right (has (committed E) t) ((t == t) || false) (this t), or-false (has (ended E) t) ∙ was.2))
    by_move (leaves w a b c) =
        let was : LiesIn t E (Active w) = subst (LiesIn t E) a h in
        let tracked : w.undos ≡ undos_of t E = subst (λ z. Tracks (Some z) (undos_of t E)) a track in
        let step : txn_step s t (Active w) (Ended t) ≡ Some y = subst (λ q. txn_step s t (Active w) q ≡ Some y) b (subst (λ z. txn_step s t z r ≡ Some y) a e) in
        let same : (t == t) ≡ true = eq-eqb t t refl in
        let empty : allowed (is_none_left w.undos) (Some Over) ≡ Some y = rw same at step in
        subst (Pushed t E r) (sym c) (subst (λ q. Pushed t E q Over) (sym b) (inl (or-false (has (begun E) t) ∙ was.0, or_right (has (ended E) t) ((t == t) || false) (this t), λ z. sym tracked ∙ none_left w.undos empty)))
      where
        none_left : (us : List Pending) → allowed (is_none_left us) (Some Over) ≡ Some y → us ≡ []
        none_left [] q = refl
        none_left (u ∷ us) q = absurd (cc)
    by_move (frees p ps u k a b ne is c) =
        let was : LiesIn t E (Committed (p ∷ ps)) = subst (LiesIn t E) a h in
        subst (Pushed t E r) (sym c) (subst (λ q. Pushed t E q (Committed ps)) (sym b) (or-false (has (begun E) t) ∙ was.0, or-false (has (committed E) t) ∙ was.1, or-false (has (ended E) t) ∙ was.2))
    by_move (ends a b c) =
        let was : LiesIn t E (Committed []) = subst (LiesIn t E) a h in
        subst (Pushed t E r) (sym c) (subst (λ q. Pushed t E q Over) (sym b) (inl (or-false (has (begun E) t) ∙ was.0, or_right (has (ended E) t) ((t == t) || false) (this t), λ z. absurd (both_ways (has (committed E) t) (sym (or-false (has (committed E) t)) ∙ z) was.1))))

    by_concern : (k : Bool) → concerns t r ≡ k → Pushed t E r y
    by_concern true f = by_move (moves s t x r y f within e)
    by_concern false f =
        let same : x ≡ y = same_Some x y (sym (txn_step-other s t x r f) ∙ e) in
        rw (others_begin t r f, others-commit t r f, others_end t r f, undo_step-skips t (undos_of t E) r (others-own t r f), or-false (has (begun E) t), or-false (has (committed E) t), or-false (has (ended E) t)) (subst (LiesIn t E) same h)

pub nothing : Damage
nothing = record { first = 0; clean = 0; failing = [] }

pub lies : (s : Sizes) (t : ℕ) (x0 : TxnState) (P : List Record) (x : TxnState) → IsStart x0 → IsWithin P → state_from s t x0 P ≡ Some x → LiesIn t P x
lies s t x0 P x start within e = by_push (λ L. IsWithin L → (y : TxnState) → state_from s t x0 L ≡ Some y → LiesIn t L y) first step P within x e
  where
    first : IsWithin [] → (y : TxnState) → Some x0 ≡ Some y → LiesIn t [] y
    first w y f = ⊎_elim (λ a. subst (LiesIn t []) (sym a ∙ same) (refl, refl, refl, refl)) (λ a. subst (LiesIn t []) (sym a ∙ same) (inr (refl, refl, refl, refl))) start
      where
        same : x0 ≡ y
        same = same_Some x0 y f

    step : (L : List Record) (r : Record) → (IsWithin L → (y : TxnState) → state_from s t x0 L ≡ Some y → LiesIn t L y) → IsWithin (L ++ r ∷ []) → (y : TxnState) → state_from s t x0 (L ++ r ∷ []) ≡ Some y → LiesIn t (L ++ r ∷ []) y
    step L r ih w y f =
        let in' = IsWithin-front L r w in
        let b = state_before s t x0 L r y f in
        lies_step s t L r b.0 y in'.1 b.2 (stage s nothing t x0 L b.0 start in'.0 b.1).tracks (ih in'.0 b.0 b.1)

-- ---- what may follow
abbrev is_begun : TxnState → Bool
is_begun Unbegun = false
is_begun _ = true

abbrev is_closed : TxnState → Bool
is_closed (Committed ps) = true
is_closed Over = true
is_closed _ = false

begun_step : (s : Sizes) (t : ℕ) (x y : TxnState) (r : Record) → separates r ≡ false → txn_step s t x r ≡ Some y → is_begun x ≡ true → (is_begun y ≡ true) × (has (begun (r ∷ [])) t ≡ false)
begun_step s t x y r within e h = by_concern (concerns t r) refl
  where
    by_move : Moved t x r y → (is_begun y ≡ true) × (has (begun (r ∷ [])) t ≡ false)
    by_move (begins w a b c) = let g : false ≡ true = subst (λ z. is_begun z ≡ true) a h in absurd (cc)
    by_move (alone p k a b c) = let g : false ≡ true = subst (λ z. is_begun z ≡ true) a h in absurd (cc)
    by_move (works w v a own b k c) = (ap is_begun c, none_begun t r b)
    by_move (commits w a b c) = (ap is_begun c, ap (λ q. has (begun (q ∷ [])) t) b)
    by_move (leaves w a b c) = (ap is_begun c, ap (λ q. has (begun (q ∷ [])) t) b)
    by_move (frees p ps u k a b ne is c) = (ap is_begun c, ap (λ q. has (begun (q ∷ [])) t) b)
    by_move (ends a b c) = (ap is_begun c, ap (λ q. has (begun (q ∷ [])) t) b)

    by_concern : (k : Bool) → concerns t r ≡ k → (is_begun y ≡ true) × (has (begun (r ∷ [])) t ≡ false)
    by_concern true f = by_move (moves s t x r y f within e)
    by_concern false f = (ap is_begun (sym (same_Some x y (sym (txn_step-other s t x r f) ∙ e))) ∙ h, others_begin t r f)

closed_step : (s : Sizes) (t : ℕ) (x y : TxnState) (r : Record) → separates r ≡ false → txn_step s t x r ≡ Some y → is_closed x ≡ true → (is_closed y ≡ true) × (any_touch (λ a. a.txn == t) (touch_of r) ≡ false)
closed_step s t x y r within e h = by_concern (concerns t r) refl
  where
    Answer : Type 0
    Answer = (is_closed y ≡ true) × (any_touch (λ a. a.txn == t) (touch_of r) ≡ false)

    by_move : Moved t x r y → (is_closed y ≡ true) × (any_touch (λ a. a.txn == t) (touch_of r) ≡ false)
    by_move (begins w a b c) = let g : false ≡ true = subst (λ z. is_closed z ≡ true) a h in absurd (cc)
    by_move (alone p k a b c) = let g : false ≡ true = subst (λ z. is_closed z ≡ true) a h in absurd (cc)
    by_move (works w v a own b k c) = let g : false ≡ true = subst (λ z. is_closed z ≡ true) a h in absurd (cc)
    by_move (commits w a b c) = let g : false ≡ true = subst (λ z. is_closed z ≡ true) a h in absurd (cc)
    by_move (leaves w a b c) = let g : false ≡ true = subst (λ z. is_closed z ≡ true) a h in absurd (cc)
    by_move (frees p ps u k a b ne is c) = (ap is_closed c, subst (λ q. any_touch (λ v. v.txn == t) (touch_of q) ≡ false) (sym b) ne)
    by_move (ends a b c) = (ap is_closed c, subst (λ q. any_touch (λ v. v.txn == t) (touch_of q) ≡ false) (sym b) refl)

    by_concern : (k : Bool) → concerns t r ≡ k → (is_closed y ≡ true) × (any_touch (λ a. a.txn == t) (touch_of r) ≡ false)
    by_concern true f = by_move (moves s t x r y f within e)
    by_concern false f = (ap is_closed (sym (same_Some x y (sym (txn_step-other s t x r f) ∙ e))) ∙ h, others-touch t r f)

none_some : {A : Type 0} (s : Sizes) (t : ℕ) (R : List Record) → IsSome (fold (txn_next s t) None R) → A
none_some s t R g = let h : false ≡ true = rw (none_txn s t R) at g in absurd (cc)

-- the first step of a walk that is allowed
pub first_step : (s : Sizes) (t : ℕ) (x : TxnState) (r : Record) (R : List Record) → IsSome (state_from s t x (r ∷ R)) → (y : TxnState) × (txn_step s t x r ≡ Some y) × IsSome (state_from s t y R)
first_step s t x r R h = by_state (txn_step s t x r) refl h
  where
    by_state : (o : Option TxnState) → txn_step s t x r ≡ o → IsSome (fold (txn_next s t) o R) → (y : TxnState) × (txn_step s t x r ≡ Some y) × IsSome (state_from s t y R)
    by_state None f g = none_some s t R g
    by_state (Some y) f g = (y, f, g)

pub IsWithin-tail : (r : Record) (R : List Record) → IsWithin (r ∷ R) → (separates r ≡ false) × IsWithin R
IsWithin-tail r R h = (h 0 r refl, λ i q e. h (suc i) q e)

none_begins : (s : Sizes) (t : ℕ) (R : List Record) (x : TxnState) → IsWithin R → IsSome (state_from s t x R) → is_begun x ≡ true → has (begun R) t ≡ false
none_begins s t [] x within some h = refl
none_begins s t (r ∷ R) x within some h =
    let w = IsWithin-tail r R within in
    let f = first_step s t x r R some in
    let g = begun_step s t x f.0 r w.0 f.1 h in
    ap (λ ts. has ts t) (filter_map-append begin_by (r ∷ []) R) ∙ (list_any-append (λ u. u == t) (begun (r ∷ [])) (begun R)
    ∙ or_from (has (begun (r ∷ [])) t) (has (begun R) t) g.1 (none_begins s t R f.0 w.1 f.2 g.0))

abbrev pub HasNoBlock : ℕ → List Record → Type 0
HasNoBlock t R = (i : ℕ) (a : Touch) → touch_at R i ≡ Some a → a.txn ≡ t → ⊥

no_blocks : (s : Sizes) (t : ℕ) (R : List Record) (x : TxnState) → IsWithin R → IsSome (state_from s t x R) → is_closed x ≡ true → HasNoBlock t R
no_blocks s t [] x within some h i a e same = cc
no_blocks s t (r ∷ R) x within some h zero a e same =
    let w = IsWithin-tail r R within in
    let f = first_step s t x r R some in
    let g = closed_step s t x f.0 r w.0 f.1 h in
    let own : any_touch (λ b. b.txn == t) (Some a) ≡ false = subst (λ o. any_touch (λ b. b.txn == t) o ≡ false) e g.1 in
    both_ways (a.txn == t) own (eq-eqb a.txn t same)
no_blocks s t (r ∷ R) x within some h (suc i) a e same =
    let w = IsWithin-tail r R within in
    let f = first_step s t x r R some in
    let g = closed_step s t x f.0 r w.0 f.1 h in
    no_blocks s t R f.0 w.1 f.2 g.0 i a e same

-- ---- both together
pub record Stood (P R : List Record) (t : ℕ) : Type 0 where
  pub block : (i : ℕ) (a : Touch) → touch_at R i ≡ Some a → a.txn ≡ t
      → ((has (begun P) t ≡ true) × (has (committed P) t ≡ false) × (has (ended P) t ≡ false)) ⊎ ((has (begun P) t ≡ false) × (undos_of t P ≡ []))
  pub began : has (begun R) t ≡ true → (has (begun P) t ≡ false) × (has (committed P) t ≡ false) × (has (ended P) t ≡ false) × (undos_of t P ≡ [])
  pub over : has (ended P) t ≡ true → (has (committed P) t ≡ false → undos_of t P ≡ []) × HasNoBlock t R
  pub done : has (committed P) t ≡ true → HasNoBlock t R

stood_at : (s : Sizes) (P R : List Record) (t : ℕ) (x : TxnState) → IsWithin R → IsSome (state_from s t x R) → LiesIn t P x → Stood P R t
stood_at s P R t Unbegun within some h = record {
  block = λ i a e same. inr (h.0, h.3);
  began = λ e. h;
  over = λ e. absurd (both_ways (has (ended P) t) h.2 e);
  done = λ e. absurd (both_ways (has (committed P) t) h.1 e);
}
stood_at s P R t (Active w) within some h = record {
  block = λ i a e same. inl h;
  began = λ e. absurd (both_ways (has (begun R) t) (none_begins s t R (Active w) within some refl) e);
  over = λ e. absurd (both_ways (has (ended P) t) h.2 e);
  done = λ e. absurd (both_ways (has (committed P) t) h.1 e);
}
stood_at s P R t (Committed ps) within some h = record {
  block = λ i a e same. absurd (no_blocks s t R (Committed ps) within some refl i a e same);
  began = λ e. absurd (both_ways (has (begun R) t) (none_begins s t R (Committed ps) within some refl) e);
  over = λ e. absurd (both_ways (has (ended P) t) h.2 e);
  done = λ e. no_blocks s t R (Committed ps) within some refl;
}
stood_at s P R t Over within some h = record {
  block = λ i a e same. absurd (no_blocks s t R Over within some refl i a e same);
  began = λ e. absurd (both_ways (has (begun R) t) (none_begins s t R Over within some refl) e);
  over = λ e. (⊎_elim (λ w. w.2) (λ w. λ c. w.3) h, no_blocks s t R Over within some refl);
  done = λ e. no_blocks s t R Over within some refl;
}

pub IsWithin-parts : (P R : List Record) → IsWithin (P ++ R) → IsWithin P × IsWithin R
IsWithin-parts [] R h = ((λ i r e. absurd (cc)), h)
IsWithin-parts (p ∷ P) R h =
    let w = IsWithin-tail p (P ++ R) h in
    let v = IsWithin-parts P R w.1 in
    (front v.0, v.1)
  where
    front : IsWithin P → IsWithin (p ∷ P)
    front k zero r e = h 0 r e
    front k (suc i) r e = k i r e

pub stood : (s : Sizes) (P R : List Record) (t : ℕ) → IsWithin (P ++ R) → StandsIn s (P ++ R) t → Stood P R t
stood s P R t within w = by_state (state_from s t w.0 P) refl (subst IsSome (fold-append (txn_next s t) (Some w.0) P R) w.2)
  where
    parts : IsWithin P × IsWithin R
    parts = IsWithin-parts P R within

    by_state : (o : Option TxnState) → state_from s t w.0 P ≡ o → IsSome (fold (txn_next s t) o R) → Stood P R t
    by_state None f g = none_some s t R g
    by_state (Some x) f g = stood_at s P R t x parts.1 g (lies s t w.0 P x w.1 parts.0 f)
