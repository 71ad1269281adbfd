-- What the guards of an end look at, and what it means.
use Rattle.std.proofs.Common.{◌≡◌, ℕ, ◌<◌, Bool, true, false, ◌&&◌, List, [], ◌∷◌, Option, Some, None, Result, Ok, Err, IfSome, refl, ap, sym, subst, ◌∙◌, length, get_or, slice_get}
use Rattle.std.specs.Prelude.{if◌then◌else◌, IfErr, IsErrOf}
use Rattle.std.specs.List.{AllByRecursion, list_all}
use Rattle.std.specs.FinMap.{get}
use Rattle.std.proofs.lemmas.Bool.{and_parts}
use Rattle.std.proofs.lemmas.Option.{same_Some, slice_get-get_or}
use Rattle.dali_record.specs.declared.operations.Pending.{Pending}
use Rattle.dali_record.specs.Legal.{dead_of, is_removal}
use Rattle.dali_record.specs.Spelling.{IsUndo}
use Rattle.dali_region.specs.declared.Hold.{Hold}
use Rattle.dali_region.specs.State.{RegionState}
use Rattle.dali_att.specs.Table.{undos_at}
use Rattle.dali_runs.specs.State.{TxnRow, SystemState, lock_of, hold_in}
use Rattle.dali_runs.specs.Run.{covers}
use Rattle.dali_runs.specs.Wholes.{is_of_kind}
use Rattle.dali_runs.specs.Facts.Undos.{MayBePerformed}
use Rattle.dali_system.specs.Rows.{AreRows}
use Rattle.dali_calls.proofs.Rows.{undos_in}
use Rattle.dali_clean.specs.Cleaned.{AreDead}
use Rattle.dali_transactions.specs.declared.error.AbortError.{AbortError}
use Rattle.dali_transactions.specs.declared.error.AbortError.TheVariants.{OutOfMemory, Unfit}
use Rattle.dali_transactions.specs.Guards.{is_covered, is_releasable, is_releasable_on}

-- ---- holds
pub releasable_dead : (o : Option Hold) → is_releasable o ≡ true → IfSome o (λ h. h.dead ≡ true)
releasable_dead None e = tt
releasable_dead (Some h) e = e

pub dead_releasable : (o : Option Hold) → IfSome o (λ h. h.dead ≡ true) → is_releasable o ≡ true
dead_releasable None h = refl
dead_releasable (Some k) h = h

pub clash : {b : Bool} → b ≡ false → b ≡ true → ⊥
clash e f = cc

-- who is refused for want of memory alone isn't told that it fits nothing
pub never_unfit : (r : Result (Unit {0}) AbortError) → IfErr r (λ e. e ≡ OutOfMemory) → IsErrOf r Unfit → ⊥
never_unfit (Ok done) memory is = absurd (cc)
never_unfit (Err e) memory is = let same : e ≡ Unfit = cc in let no : Unfit ≡ OutOfMemory = sym same ∙ memory in absurd (cc)

-- the region that was looked at
pub released_here : (gs : List RegionState) (r : ℕ) (d e : RegionState) (o : Option Hold) (b : Bool) → r < length gs → o ≡ (get_or gs r d).hold → b ≡ is_releasable o → b ≡ true → IfSome (get_or gs r e).hold (λ h. h.dead ≡ true)
released_here gs r d e o b less hold looked holds =
    let same : get_or gs r d ≡ get_or gs r e = same_Some (get_or gs r d) (get_or gs r e) (sym (slice_get-get_or gs r d less) ∙ slice_get-get_or gs r e less) in
    releasable_dead (get_or gs r e).hold (ap (λ (g : RegionState). is_releasable g.hold) (sym same) ∙ (ap is_releasable (sym hold) ∙ (sym looked ∙ holds)))

pub none_alive : (gs : List RegionState) (us : List Pending) → AreDead gs → list_all (is_releasable_on gs) us ≡ true
none_alive gs [] dead = refl
none_alive gs (u ∷ us) dead = ap (λ (b : Bool). b && list_all (is_releasable_on gs) us) (by_region (slice_get gs u.region) refl) ∙ none_alive gs us dead
  where
    by_region : (o : Option RegionState) → slice_get gs u.region ≡ o → is_releasable_on gs u ≡ true
    by_region None at = ap (λ (p : Option RegionState). is_releasable (hold_in p)) at
    by_region (Some g) at = ap (λ (p : Option RegionState). is_releasable (hold_in p)) at ∙ dead_releasable g.hold (dead u.region g at)

-- those of the removals
pub of_removals : (p : Pending → Bool) (us : List Pending) → list_all p us ≡ true → list_all p (dead_of us) ≡ true
of_removals p [] e = refl
of_removals p (u ∷ us) e = let both = and_parts (p u) (list_all p us) e in by_removal (is_removal u.undo) both.0 (of_removals p us both.1)
  where
    by_removal : (b : Bool) → p u ≡ true → list_all p (dead_of us) ≡ true → list_all p (if b then u ∷ dead_of us else dead_of us) ≡ true
    by_removal true own rest = ap (λ (b : Bool). b && list_all p (dead_of us)) own ∙ rest
    by_removal false own rest = rest

-- ---- undos
pub spelled_in : (n t : ℕ) (y : SystemState) → AreRows n y.table → AllByRecursion (λ (u : Pending). IsUndo u.undo) (undos_at y.table t)
spelled_in n t y rows = by_row (get y.table t) refl
  where
    by_row : (o : Option TxnRow) → get y.table t ≡ o → AllByRecursion (λ (u : Pending). IsUndo u.undo) (undos_at y.table t)
    by_row None at = subst (AllByRecursion (λ (u : Pending). IsUndo u.undo)) (sym (ap undos_in at)) tt
    by_row (Some row) at = subst (AllByRecursion (λ (u : Pending). IsUndo u.undo)) (sym (ap undos_in at)) (rows t row at).undoes

pub covered_of : (y : SystemState) (t : ℕ) (us : List Pending) → AllByRecursion (λ (u : Pending). IsUndo u.undo) us → list_all (is_covered y t) us ≡ true → AllByRecursion (MayBePerformed y t) us
covered_of y t [] spelled e = tt
covered_of y t (u ∷ us) spelled e =
    let both = and_parts (is_covered y t u) (list_all (is_covered y t) us) e in
    let own = and_parts (is_of_kind y.sizes u) (covers (lock_of y t u.key) true) both.0 in
    (record { spelled = spelled.0; kind = own.0; lock = own.1 }, covered_of y t us spelled.1 both.1)

pub of_covered : (y : SystemState) (t : ℕ) (us : List Pending) → AllByRecursion (MayBePerformed y t) us → list_all (is_covered y t) us ≡ true
of_covered y t [] h = refl
of_covered y t (u ∷ us) h =
    let kind : is_of_kind y.sizes u ≡ true = h.0.kind in
    let own : is_covered y t u ≡ true = ap (λ (b : Bool). b && covers (lock_of y t u.key) true) kind ∙ h.0.lock in
    ap (λ (b : Bool). b && list_all (is_covered y t) us) own ∙ of_covered y t us h.1
