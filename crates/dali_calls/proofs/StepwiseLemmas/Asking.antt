-- A request for a lock, and an answer, in words of the log.
use Rattle.std.proofs.Common.{◌≡◌, ℕ, List, Some, IfOk, OnErr, Result, Ok, Err, refl, sym, ap, subst, ◌∙◌}
use Rattle.dali_geometry.specs.Sizes.{Sizes}
use Rattle.dali_record.specs.declared.records.Answer.{Answer}
use Rattle.dali_record.specs.declared.records.Record.{Record}
use Rattle.dali_record.specs.declared.records.Record.TheVariants.{Done}
use Rattle.dali_region.specs.State.{RegionState}
use Rattle.dali_locks.specs.declared.mode.Mode.{Mode}
use Rattle.dali_locks.specs.declared.mode.LockAnswer.{LockAnswer}
use Rattle.dali_locks.specs.declared.mode.LockAnswer.TheVariants.{Granted, Wait, Busy}
use Rattle.dali_locks.specs.Locks.{IsAnswer}
use Rattle.dali_att.specs.declared.state.State.TheVariants.{Live}
use Rattle.dali_runs.specs.State.{SystemState, VaultState}
use Rattle.dali_runs.specs.Steps.{granted, done_logged}
use Rattle.dali_runs.specs.Keeps.{HasRoom}
use Rattle.dali_system.specs.declared.error.SystemError.{SystemError}
use Rattle.dali_system.specs.declared.want.Want.TheVariants.{Done as AnswerIsNext}
use Rattle.dali_system.specs.Asked.{after_request}
use Rattle.dali_system.specs.Served.{Served}
use Rattle.dali_calls.specs.Steps.{call_key, answer_of}
use Rattle.dali_calls.specs.Plans.{Planned, mode_of, want_of, IsWhole}
use Rattle.dali_calls.proofs.Answering.{done_follows}
use Rattle.dali_calls.proofs.Stepping.{done_is_step}
use Rattle.dali_calls.specs.Single.Stands.{core, IsAtRest, AtPlan}
use Rattle.dali_calls.specs.Single.Single.{MayCall, OthersStay}
use Rattle.dali_calls.proofs.SingleLemmas.Going.{row_there}
use Rattle.dali_calls.proofs.SingleLemmas.Calling.{new_plan, lock_apart, at_new}
use Rattle.dali_calls.specs.Stepwise.Stepwise.{IsNew, IsAsked, AnswersNow}

-- ---- the request

is_new : (p : Planned) (s : Sizes) → IsNew p → p.geometry ≡ s → p ≡ new_plan s p.txn p.call
is_new p s new sizes = new ∙ ap (λ (x : Sizes). new_plan x p.txn p.call) sizes

asked_so : (a : LockAnswer) (y : SystemState) (p : Planned) → IsAnswer y.locks p.txn (call_key p.call) (mode_of p.call) a
    → (L : List Record) (rs : List RegionState) (v : VaultState) → IsNew p → IsAtRest rs y p → MayCall L (core rs y v) p.txn
    → IsAsked a L (core rs y v) p (core rs (after_request y p.txn (call_key p.call) (mode_of p.call) a) v)
asked_so Granted y p is L rs v new rest may = (
  (row_there y p.txn Live rest.lives, is, (refl, refl)),
  subst (λ (x : Planned). AtPlan L (core rs (granted y p.txn (call_key p.call) (mode_of p.call)) v) x) (sym (is_new p y.sizes new rest.sizes)) (at_new L rs y v p.txn p.call may),
  record { sizes = rest.sizes; whole = rest.whole; lives = rest.lives; closed = rest.closed },
)
asked_so (Wait h) y p is L rs v new rest may = refl
asked_so (Busy h) y p is L rs v new rest may = (
  (row_there y p.txn Live rest.lives, is, (refl, refl)),
  record { working = may.working; at_work = may.at_work; level = may.level; free = may.free },
)

pub asked_there : (y z : Served) (t : ℕ) (p : Planned) (a : LockAnswer) → t ≡ p.txn → IsAnswer y.state.locks t (call_key p.call) (mode_of p.call) a
    → z ≡ record y { state = after_request y.state t (call_key p.call) (mode_of p.call) a }
    → (L : List Record) (rs : List RegionState) (v : VaultState) → IsNew p → IsAtRest rs y.state p → MayCall L (core rs y.state v) t → IsAsked a L (core rs y.state v) p (core rs z.state v)
asked_there y z t p a own is now L rs v new rest may =
    let state : z.state ≡ after_request y.state p.txn (call_key p.call) (mode_of p.call) a =
    ap (λ (s : Served). s.state) now ∙ ap (λ (n : ℕ). after_request y.state n (call_key p.call) (mode_of p.call) a) own in
    subst (λ (x : SystemState). IsAsked a L (core rs y.state v) p (core rs x v)) (sym state)
    (asked_so a y.state p (subst (λ (n : ℕ). IsAnswer y.state.locks n (call_key p.call) (mode_of p.call) a) own is) L rs v new rest (subst (MayCall L (core rs y.state v)) own may))

others_after : (a : LockAnswer) (y : SystemState) (t k : ℕ) (m : Mode) → OthersStay y t (after_request y t k m a)
others_after Granted y t k m = λ u e. (refl, λ j. lock_apart y.locks t u k j m e)
others_after (Wait h) y t k m = λ u e. (refl, λ j. refl)
others_after (Busy h) y t k m = λ u e. (refl, λ j. refl)

pub others_asked : (r : Result LockAnswer SystemError) (y z : Served) (t k : ℕ) (m : Mode) → IfOk r (λ a. z ≡ record y { state = after_request y.state t k m a }) → OnErr r (z ≡ y) → OthersStay y.state t z.state
others_asked (Ok a) y z t k m ok err = subst (λ (x : Served). OthersStay y.state t x.state) (sym ok) (others_after a y.state t k m)
others_asked (Err e) y z t k m ok err = subst (λ (x : Served). OthersStay y.state t x.state) (sym err) (λ u e. (refl, λ j. refl))

pub asked_all : (r : Result LockAnswer SystemError) (y z : Served) (t : ℕ) (p : Planned) → t ≡ p.txn → IfOk r (λ a. IsAnswer y.state.locks t (call_key p.call) (mode_of p.call) a)
    → IfOk r (λ a. z ≡ record y { state = after_request y.state t (call_key p.call) (mode_of p.call) a })
    → IfOk r (λ a. (L : List Record) (rs : List RegionState) (v : VaultState) → IsNew p → IsAtRest rs y.state p → MayCall L (core rs y.state v) t → IsAsked a L (core rs y.state v) p (core rs z.state v))
asked_all (Ok a) y z t p own is now = asked_there y z t p a own is now
asked_all (Err e) y z t p own is now = tt

-- ---- the answer
pub answers_now : (y z : Served) (p : Planned) (a : Answer) → IsWhole p → want_of p ≡ AnswerIsNext → answer_of p.geometry p.call p.stage ≡ Some a → HasRoom y.state (Done p.txn p.call a)
    → z ≡ record y { state = done_logged y.state p.txn p.call a }
    → (L : List Record) (rs : List RegionState) (v : VaultState) → IsAtRest rs y.state p → AtPlan L (core rs y.state v) p → AnswersNow L (core rs y.state v) p a (core rs z.state v)
answers_now y z p a w wants given room now L rs v rest plan =
    let behind = done_follows y.state.sizes L p a rest.sizes w plan.follows wants given in
    subst (λ (x : Served). AnswersNow L (core rs y.state v) p a (core rs x.state v)) (sym now) (record {
      step = done_is_step L (core rs y.state v) p a rest.sizes w plan.follows wants given room rest.lives;
      may = record { working = behind.working; at_work = behind.at_work; level = behind.rests refl; free = plan.free };
    })

-- with the key and the mode that the plan told
pub asked_by : (r : Result LockAnswer SystemError) (y z : Served) (t : ℕ) (p : Planned) (lock : ℕ × Mode) → t ≡ p.txn → lock ≡ (call_key p.call, mode_of p.call) → IfOk r (λ a. IsAnswer y.state.locks t lock.0 lock.1 a)
    → IfOk r (λ a. z ≡ record y { state = after_request y.state t lock.0 lock.1 a })
    → IfOk r (λ a. (L : List Record) (rs : List RegionState) (v : VaultState) → IsNew p → IsAtRest rs y.state p → MayCall L (core rs y.state v) t → IsAsked a L (core rs y.state v) p (core rs z.state v))
asked_by r y z t p lock own is given now =
    asked_all r y z t p own (subst (λ (l : ℕ × Mode). IfOk r (λ a. IsAnswer y.state.locks t l.0 l.1 a)) is given) (subst (λ (l : ℕ × Mode). IfOk r (λ a. z ≡ record y { state = after_request y.state t l.0 l.1 a })) is now)
