-- What other transactions are promised, and what is committed and waits.
use Rattle.std.proofs.Common.{◌≡◌, ℕ, ◌≤◌, Bool, true, Option, Some, None, IfSome, Result, Ok, Err, arith, length, refl, ap, sym, subst, ◌∙◌}
use Rattle.std.specs.Prelude.{◌==◌, if◌then◌else◌}
use Rattle.dali_geometry.specs.Sizes.{Sizes}
use Rattle.dali_record.specs.Legal.{freeing_op, on_kind}
use Rattle.dali_locks.specs.declared.mode.Mode.{Mode}
use Rattle.dali_att.specs.Table.{fresh_row}
use Rattle.dali_att.proofs.Changes.{get-added}
use Rattle.dali_runs.specs.State.{SystemState, state_in}
use Rattle.dali_runs.specs.Steps.{begun}
use Rattle.dali_runs.specs.Run.{covers}
use Rattle.dali_system.specs.declared.error.SystemError.{SystemError}
use Rattle.dali_system.specs.Refused.{stop_refusal}
use Rattle.dali_system.specs.Served.{Served, promised_for}
use Rattle.dali_system.specs.Promised.{Promised, promised_to, used}
use Rattle.std.specs.FinMap.{get, insert, remove}
use Rattle.dali_lists.proofs.Members.{all_weaker}
use Rattle.dali_system.proofs.Totals.{own_changes, others_stay}
use Rattle.dali_calls.specs.Others.{PromisesStay}
use Rattle.dali_calls.proofs.Others.{promises_same}
use Rattle.dali_calls.specs.Single.Single.{OthersStay}
use Rattle.dali_calls.specs.Single.Settling.{MayFree, settle_room}
use Rattle.dali_calls.specs.Single.Others.{SettlingWaits}

pub promises_used : (s z : Served) (t n : ℕ) → z.promised ≡ used s.promised t n → PromisesStay s t z
promises_used s z t n e u apart = ap (λ (m : Promised). promised_to m u) e ∙ (others_stay s.promised t u n apart).1

pub promises_put : (s z : Served) (t n : ℕ) → z.promised ≡ insert s.promised t n → PromisesStay s t z
promises_put s z t n e u apart = ap (λ (m : Promised). promised_to m u) e ∙ (others_stay s.promised t u n apart).0

-- who has ended is promised nothing
pub released : (s z : Served) (t : ℕ) → z.promised ≡ remove s.promised t → promised_to z.promised t ≡ 0
released s z t e = ap (λ (m : Promised). promised_to m t) e ∙ (own_changes s.promised t 0).2

pub begun_promises : (s z : Served) (t : ℕ) → z ≡ record s { state = begun s.state } → PromisesStay s t z
begun_promises s z t e = promises_same s z t (ap (λ (x : Served). x.promised) e)

pub begun_others : (y z : SystemState) (t : ℕ) → z ≡ begun y → t ≡ y.next → OthersStay y t z
begun_others y z t e is = subst (λ (x : SystemState). OthersStay y t x) (sym e) (λ u apart. (
  get-added y.table y.next fresh_row u ∙ ap (λ (b : Bool). if b then Some fresh_row else get y.table u) (ap (λ (n : ℕ). n == u) (sym is) ∙ apart),
  λ k. refl,
))

-- ---- a commit behind its promise is never refused
pub runs_on : {T : Type 0} (y : SystemState) (x : T) → IfSome (stop_refusal y) (λ e. let r : Result T SystemError = Err e in let q : Result T SystemError = Ok x in q ≡ r) → stop_refusal y ≡ None
runs_on {T} y x h = by_refusal (stop_refusal y) h
  where
    never : (e : SystemError) → (let r : Result T SystemError = Err e in let q : Result T SystemError = Ok x in q ≡ r) → ⊥
    never e f = cc

    by_refusal : (o : Option SystemError) → IfSome o (λ e. let r : Result T SystemError = Err e in let q : Result T SystemError = Ok x in q ≡ r) → o ≡ None
    by_refusal None h = refl
    by_refusal (Some e) h = absurd (never e h)

pub enough_to_commit : (s z : Served) (t n : ℕ) → z ≡ record s { promised = insert s.promised t (promised_for n) } → 9 ≤ promised_to z.promised t
enough_to_commit s z t n e = subst (λ (x : Served). 9 ≤ promised_to x.promised t) (sym e) (let put = (own_changes s.promised t (promised_for n)).0 in omega (arith, put))

-- ---- what is committed and waits
pub settling_waits : SettlingWaits
settling_waits s z t u us apart sizes others promises ready = record {
  may = all_weaker (MayFree s.state t) (MayFree z.state t) us (λ w may. record {
    removal = may.removal;
    spelled = may.spelled;
    kind = ap (λ (n : Sizes). on_kind n w.region (freeing_op w.undo)) sizes ∙ may.kind;
    lock = ap (λ (o : Option Mode). covers o true) ((others t apart).1 w.key) ∙ may.lock;
  }) ready.may;
  committed = ap state_in (others t apart).0 ∙ ready.committed;
  promised = subst (λ (n : ℕ). settle_room (length us) ≤ n) (sym (promises t apart)) ready.promised;
}
