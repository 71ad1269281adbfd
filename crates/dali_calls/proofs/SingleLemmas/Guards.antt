-- A transaction that just began is live, and has nothing to take back; a plan driven by hand is at rest; for the tests.
use Rattle.std.proofs.Common.{◌≡◌, ◌≤◌, ℕ, Bool, true, false, List, Option, Some, None, [], refl, sym, ap, subst, ◌∙◌, length}
use Rattle.std.specs.Prelude.{◌==◌, if◌then◌else◌}
use Rattle.std.specs.List.{AllByRecursion}
use Rattle.std.specs.Option.{option_map_or}
use Rattle.std.specs.FinMap.{get}
use Rattle.std.proofs.lemmas.Bool.Decides.{Decides-eqb}
use Rattle.dali_geometry.specs.Places.{regions}
use Rattle.dali_record.specs.declared.operations.Pending.{Pending}
use Rattle.dali_region.specs.State.{RegionState}
use Rattle.dali_att.specs.declared.state.State.TheVariants.{Live, Committed}
use Rattle.dali_att.specs.Table.{Table, fresh_row}
use Rattle.dali_att.proofs.Changes.{get-added}
use Rattle.dali_runs.specs.State.{TxnRow, SystemState, row_of, state_of, state_in}
use Rattle.dali_runs.specs.Steps.{begun}
use Rattle.dali_calls.specs.declared.plan.Phase.TheVariants.{Calling}
use Rattle.dali_calls.specs.Plans.{Planned}
use Rattle.dali_calls.specs.Others.{PromisesStay}
use Rattle.dali_calls.proofs.Others.{promises_same}
use Rattle.dali_calls.specs.Single.Stands.{IsAtRest}
use Rattle.dali_runs.specs.Facts.Undos.{MayBePerformed}
use Rattle.dali_system.specs.Served.{Served}
use Rattle.dali_system.specs.Promised.{promised_to}
use Rattle.dali_calls.specs.Single.Single.{AreCovered, Keeps, OthersStay}
use Rattle.dali_calls.specs.Single.Settling.{MayFree, settle_room}
use Rattle.dali_calls.specs.Single.Others.{IsReady}
use Rattle.dali_calls.proofs.SingleLemmas.Promising.{begun_promises, begun_others, settling_waits}
use Rattle.dali_calls.specs.Single.Advanced.{Advanced}

row_begun : (y : SystemState) → row_of (begun y) y.next ≡ Some fresh_row
row_begun y = get-added y.table y.next fresh_row y.next ∙ ap (λ b. if b then Some fresh_row else get y.table y.next) ((Decides-eqb y.next y.next).1 refl)

pub begun_lives : (y z : SystemState) (t : ℕ) → z ≡ begun y → t ≡ y.next → state_of z t ≡ Some Live
begun_lives y z t e f = subst (λ (x : SystemState). state_of x t ≡ Some Live) (sym e) (subst (λ (n : ℕ). state_of (begun y) n ≡ Some Live) (sym f) (ap state_in (row_begun y)))

pub begun_covered : (y z : SystemState) (t : ℕ) → z ≡ begun y → t ≡ y.next → AreCovered z t
begun_covered y z t e f =
    subst (λ (x : SystemState). AreCovered x t) (sym e) (subst (λ (n : ℕ). AreCovered (begun y) n) (sym f)
    (subst (AllByRecursion (MayBePerformed (begun y) y.next)) (sym (ap (λ (o : Option TxnRow). option_map_or (λ r. r.undos) o []) (row_begun y))) tt))

pub still_lives : (y z : SystemState) (t : ℕ) → Keeps y t z → state_of y t ≡ Some Live → state_of z t ≡ Some Live
still_lives y z t keeps lives = keeps.state ∙ lives

-- ---- a plan that is driven by hand
pub rest_begun : (rs : List RegionState) (y : SystemState) (p : Planned) → p.geometry ≡ y.sizes → p.operation ≡ None → length rs ≡ regions y.sizes → state_of y p.txn ≡ Some Live → IsAtRest rs y p
rest_begun rs y p sizes closed whole lives = record { sizes = sizes; whole = whole; lives = lives; closed = closed }

pub rest_stopped : (rs : List RegionState) (y z : SystemState) (p : Planned) → z.sizes ≡ y.sizes → z.table ≡ y.table → IsAtRest rs y p → IsAtRest rs z p
rest_stopped rs y z p sizes table rest = record {
  sizes = rest.sizes ∙ sym sizes;
  whole = rest.whole ∙ ap regions (sym sizes);
  lives = ap (λ (m : Table Pending). state_in (get m p.txn)) table ∙ rest.lives;
  closed = rest.closed;
}

pub still_calling : (precheck : Bool) (rs rs' : List RegionState) (y y' : SystemState) (p q : Planned) → Advanced precheck rs y p rs' y' q → p.phase ≡ Calling → q.phase ≡ Calling
still_calling precheck rs rs' y y' p q goes calling = ap (λ (x : Planned). x.phase) goes.same ∙ calling

apart_from : (u t : ℕ) → (u ≡ t → ⊥) → (b : Bool) → (u == t) ≡ b → b ≡ false
apart_from u t other true e = absurd (other ((Decides-eqb u t).0 e))
apart_from u t other false e = refl

-- ---- what is committed waits while another one begins, makes a call and commits
pub waits_for : (s s2 s3 s4 : Served) (t u : ℕ) (us : List Pending) → (u ≡ t → ⊥) → AllByRecursion (MayFree s.state t) us → state_of s.state t ≡ Some Committed → settle_room (length us) ≤ promised_to s.promised t
    → s2 ≡ record s { state = begun s.state } → u ≡ s.state.next → Keeps s2.state u s3.state → s3.promised ≡ s2.promised → s4.state.sizes ≡ s3.state.sizes → OthersStay s3.state u s4.state → PromisesStay s3 u s4
    → IsReady s4 t us
waits_for s s2 s3 s4 t u us other may committed promised is next keeps same sizes others promises =
    let apart = apart_from u t other (u == t) refl in
    settling_waits s3 s4 t u us apart sizes others promises (settling_waits s2 s3 t u us apart keeps.sizes keeps.others (promises_same s2 s3 u same)
    (settling_waits s s2 t u us apart (ap (λ (x : Served). x.state.sizes) is) (begun_others s.state s2.state u (ap (λ (x : Served). x.state) is) next) (begun_promises s s2 u is) (record { may = may; committed = committed; promised = promised })))
