-- What each part of a clean-up leaves to the other transactions.
use Rattle.std.proofs.Common.{inl, inr, ◌≡◌, ℕ, Bool, true, false, List, Option, Some, None, refl, sym, ap, subst, ◌∙◌, slice_get, slice_set, option_map}
use Rattle.std.specs.Prelude.{◌==◌, if◌then◌else◌}
use Rattle.std.specs.FinMap.{get}
use Rattle.std.proofs.lemmas.Bool.Decides.{Decides-eqb}
use Rattle.std.proofs.lemmas.Option.{none-some}
use Rattle.dali_lists.proofs.Lists.{set_same, get_set}
use Rattle.dali_region.specs.declared.Hold.{Hold}
use Rattle.dali_region.specs.State.{RegionState, taken_back}
use Rattle.dali_att.specs.declared.state.State.{State}
use Rattle.dali_att.specs.declared.state.State.TheVariants.{Dead, Cleaning}
use Rattle.dali_att.specs.Table.{with_state, without_last}
use Rattle.dali_att.proofs.Changes.{get-ended}
use Rattle.dali_locks.proofs.Kept.{locks_without_at}
use Rattle.dali_runs.specs.State.{TxnRow, SystemState, row_of, state_in, hold_in}
use Rattle.dali_runs.specs.Steps.{in_state, back_logged, ended_logged}
use Rattle.dali_system.specs.declared.take_back.TakeBack.{TakeBack}
use Rattle.dali_system.specs.Served.{Served}
use Rattle.dali_calls.specs.Operating.{Undone, IsTakenBack}
use Rattle.dali_calls.specs.Others.{HoldStays}
use Rattle.dali_calls.proofs.Rows.{row_here, row_apart}
use Rattle.dali_calls.proofs.Others.{holds_put, holds_further}
use Rattle.dali_clean.specs.Undone.{IsReclaimed, Released}
use Rattle.dali_clean.specs.Cleaned.{IsRecovered}
use Rattle.dali_clean.specs.Others.{IsFreed, RowStays, OthersStay, HasKept}

-- ---- one part behind another
held_before : (rs rs' : List RegionState) (r : ℕ) (h : Hold) → HoldStays rs rs' r → hold_in (slice_get rs' r) ≡ Some h → hold_in (slice_get rs r) ≡ Some h
held_before rs rs' r h (inl same) held = sym same ∙ held
held_before rs rs' r h (inr none) held = absurd (none-some h (sym none ∙ held))

freed_behind : (rs rs' : List RegionState) (r : ℕ) → HoldStays rs rs' r → hold_in (slice_get rs r) ≡ None → hold_in (slice_get rs' r) ≡ None
freed_behind rs rs' r (inl same) none = same ∙ none
freed_behind rs rs' r (inr gone) none = gone

with_state_twice : (row : Option TxnRow) (a b : State) → option_map (with_state b) (option_map (with_state a) row) ≡ option_map (with_state b) row
with_state_twice None a b = refl
with_state_twice (Some row) a b = refl

row_further : (rs rs' rs'' : List RegionState) (y m z : SystemState) (u : ℕ) → ((r : ℕ) → HoldStays rs rs' r) → ((r : ℕ) → HoldStays rs' rs'' r) → RowStays rs y u rs' m → RowStays rs' m u rs'' z → RowStays rs y u rs'' z
row_further rs rs' rs'' y m z u p q (inl first) (inl second) = inl (second ∙ first)
row_further rs rs' rs'' y m z u p q (inl first) (inr second) =
    let freed = second.1 in
    inr (
      (second.0.0, sym (ap state_in first) ∙ second.0.1),
      (freed.0, freed.1, held_before rs rs' freed.0 freed.1 (p freed.0) freed.2, freed.3, freed.4),
      second.2 ∙ ap (option_map (with_state (Dead None))) first,
    )
row_further rs rs' rs'' y m z u p q (inr first) (inl second) =
    let freed = first.1 in
    inr (first.0, (freed.0, freed.1, freed.2, freed.3, freed_behind rs' rs'' freed.0 (q freed.0) freed.4), second ∙ first.2)
row_further rs rs' rs'' y m z u p q (inr first) (inr second) =
    let freed = first.1 in
    inr (
      first.0,
      (freed.0, freed.1, freed.2, freed.3, freed_behind rs' rs'' freed.0 (q freed.0) freed.4),
      second.2 ∙ (ap (option_map (with_state (Dead None))) first.2 ∙ with_state_twice (row_of y u) (Dead None) (Dead None)),
    )

pub others_further : (rs rs' rs'' : List RegionState) (y m z : SystemState) (t : ℕ) → OthersStay rs y t rs' m → OthersStay rs' m t rs'' z → OthersStay rs y t rs'' z
others_further rs rs' rs'' y m z t first second = record {
  rows = λ u e. row_further rs rs' rs'' y m z u first.holds second.holds (first.rows u e) (second.rows u e);
  locks = λ u k e. second.locks u k e ∙ first.locks u k e;
  holds = holds_further rs rs' rs'' first.holds second.holds;
}

pub others_same : (rs rs' : List RegionState) (y z : SystemState) (t : ℕ) → rs' ≡ rs → z ≡ y → OthersStay rs y t rs' z
others_same rs rs' y z t gs is = subst (λ (x : SystemState). OthersStay rs y t rs' x) (sym is) (subst (λ (l : List RegionState). OthersStay rs y t l y) (sym gs) (record {
  rows = λ u e. inl refl;
  locks = λ u k e. refl;
  holds = λ r. inl refl;
}))

-- ---- the claim, the claim given back, and a region that is freed
in_state_others : (rs rs' : List RegionState) (y z : SystemState) (t : ℕ) (st : State) → z ≡ in_state y t st → ((r : ℕ) → HoldStays rs rs' r) → OthersStay rs y t rs' z
in_state_others rs rs' y z t st is holds = subst (λ (x : SystemState). OthersStay rs y t rs' x) (sym is) (record {
  rows = λ u e. inl (row_apart y.table t u (with_state st) e);
  locks = λ u k e. refl;
  holds = holds;
})

recovered : (rs rs' : List RegionState) (latched : Option ℕ) → IsRecovered rs latched rs' → (r : ℕ) → HoldStays rs rs' r
recovered rs rs' None same r = inl (ap (λ (gs : List RegionState). hold_in (slice_get gs r)) same)
recovered rs rs' (Some q) back r = subst (λ (gs : List RegionState). HoldStays rs gs r) (sym back.2) (holds_put rs q back.0 (taken_back back.0) back.1 refl r)

pub claim_others : (rs rs' : List RegionState) (y z : SystemState) (t : ℕ) (latched : Option ℕ) → z ≡ in_state y t (Cleaning latched) → IsRecovered rs latched rs' → OthersStay rs y t rs' z
claim_others rs rs' y z t latched is back = in_state_others rs rs' y z t (Cleaning latched) is (recovered rs rs' latched back)

pub dead_others : (rs : List RegionState) (y z : SystemState) (t : ℕ) → z ≡ in_state y t (Dead None) → OthersStay rs y t rs z
dead_others rs y z t is = in_state_others rs rs y z t (Dead None) is (λ r. inl refl)

pub release_others : (rs : List RegionState) (y z : SystemState) (t r : ℕ) (g h : RegionState) → slice_get rs r ≡ Some g → Released g y h z → OthersStay rs y t (slice_set rs r h) z
release_others rs y z t r g h at (inl none) = others_same rs (slice_set rs r h) y z t (set_same rs r h (at ∙ ap Some (sym none.1))) none.2
release_others rs y z t r g h at (inr some) = subst (λ (k : RegionState). OthersStay rs y t (slice_set rs r k) z) (sym some.2) (by_claim some.3)
  where
    v : ℕ
    v = some.0.txn

    gs : List RegionState
    gs = slice_set rs r (taken_back g)

    holds : (q : ℕ) → HoldStays rs gs q
    holds = holds_put rs r g (taken_back g) at refl

    freed : IsFreed rs v gs
    freed = (r, some.0, ap hold_in at ∙ some.1, refl, ap hold_in (get_set rs r g (taken_back g) at))

    by_claim : IsReclaimed y v z → OthersStay rs y t gs z
    by_claim (inr not) = subst (λ (x : SystemState). OthersStay rs y t gs x) (sym not.1) (record { rows = λ u e. inl refl; locks = λ u k e. refl; holds = holds })
    by_claim (inl was) = subst (λ (x : SystemState). OthersStay rs y t gs x) (sym was.2) (record { rows = λ u e. by_row u (v == u) refl; locks = λ u k e. refl; holds = holds })
      where
        y1 : SystemState
        y1 = in_state y v (Cleaning was.0)

        y2 : SystemState
        y2 = in_state y1 v (Dead None)

        own : row_of y2 v ≡ option_map (with_state (Dead None)) (row_of y v)
        own = row_here y1.table v (with_state (Dead None)) ∙ (ap (option_map (with_state (Dead None))) (row_here y.table v (with_state (Cleaning was.0))) ∙ with_state_twice (row_of y v) (Cleaning was.0) (Dead None))

        by_row : (u : ℕ) (b : Bool) → (v == u) ≡ b → RowStays rs y u gs y2
        by_row u true e = let same : v ≡ u = (Decides-eqb v u).0 e in subst (λ (n : ℕ). RowStays rs y n gs y2) same (inr ((was.0, was.1), freed, own))
        by_row u false e = inl (row_apart y1.table v u (with_state (Dead None)) e ∙ row_apart y.table v u (with_state (Cleaning was.0)) e)

-- ---- an undo, and the end
pub undone_others : (rs : List RegionState) (y z : SystemState) (t r : ℕ) (p q : TakeBack) (g h : RegionState) → slice_get rs r ≡ Some g → p.txn ≡ t → Undone p g y q h z → OthersStay rs y t (slice_set rs r h) z
undone_others rs y z t r p q g h at txn o = subst (λ (x : SystemState). OthersStay rs y t (slice_set rs r h) x) (sym (o.system ∙ ap (λ (n : ℕ). back_logged y n o.block) txn)) (record {
  rows = λ u e. inl (row_apart y.table t u without_last e);
  locks = λ u k e. refl;
  holds = holds_put rs r g h at (ap (λ (k : RegionState). k.hold) o.region);
})

pub refused_others : (rs : List RegionState) (s z : Served) (t v r : ℕ) (g h : RegionState) → slice_get rs r ≡ Some g → z ≡ s → IsTakenBack v g h → OthersStay rs s.state t (slice_set rs r h) z.state
refused_others rs s z t v r g h at is back = subst (λ (x : Served). OthersStay rs s.state t (slice_set rs r h) x.state) (sym is) (record {
  rows = λ u e. inl refl;
  locks = λ u k e. refl;
  holds = holds_put rs r g h at back.2;
})

pub ended_others : (rs : List RegionState) (y z : SystemState) (t : ℕ) → z ≡ ended_logged y t → OthersStay rs y t rs z
ended_others rs y z t is = subst (λ (x : SystemState). OthersStay rs y t rs x) (sym is) (record {
  rows = λ u e. inl (get-ended y.table t u ∙ ap (λ (b : Bool). if b then None else get y.table u) e);
  locks = λ u k e. locks_without_at y.locks t u k ∙ ap (λ (b : Bool). if b then None else get y.locks (u, k)) e;
  holds = λ r. inl refl;
})

-- ---- what is kept
pub kept_further : (s m z : Served) → HasKept s m → HasKept m z → HasKept s z
kept_further s m z first second = record { locks = second.locks ∙ first.locks; promised = second.promised ∙ first.promised }

pub kept_same : (s z : Served) → z ≡ s → HasKept s z
kept_same s z is = record { locks = ap (λ (x : Served). x.state.locks) is; promised = ap (λ (x : Served). x.promised) is }

pub kept_in_state : (s z : Served) (t : ℕ) (st : State) → z ≡ record s { state = in_state s.state t st } → HasKept s z
kept_in_state s z t st is = record { locks = ap (λ (x : Served). x.state.locks) is; promised = ap (λ (x : Served). x.promised) is }

pub released_locks : (g h : RegionState) (y z : SystemState) → Released g y h z → z.locks ≡ y.locks
released_locks g h y z (inl none) = ap (λ (x : SystemState). x.locks) none.2
released_locks g h y z (inr some) = by_claim some.3
  where
    by_claim : IsReclaimed y some.0.txn z → z.locks ≡ y.locks
    by_claim (inl was) = ap (λ (x : SystemState). x.locks) was.2
    by_claim (inr not) = ap (λ (x : SystemState). x.locks) not.1

pub undone_locks : (p q : TakeBack) (g h : RegionState) (y z : SystemState) → Undone p g y q h z → z.locks ≡ y.locks
undone_locks p q g h y z o = ap (λ (x : SystemState). x.locks) o.system
