-- What a call that has its lock has taken back of itself.
use Rattle.std.proofs.Common.{◌≡◌, ℕ, ◌≤◌, Bool, true, false, not, List, [], ◌∷◌, ◌++◌, length, Option, Some, None, if◌then◌else◌, refl, ap, sym, ◌∙◌, arith}
use Rattle.std.specs.List.{AllByRecursion}
use Rattle.dali_lists.proofs.Members.{all_append}
use Rattle.dali_lists.proofs.Tests.{left_true}
use Rattle.dali_geometry.specs.Sizes.{Sizes}
use Rattle.dali_geometry.specs.Places.{is_place, region_at, cell_at}
use Rattle.dali_record.specs.declared.operations.Block.{Block}
use Rattle.dali_record.specs.declared.operations.Op.{Op}
use Rattle.dali_record.specs.declared.operations.Pending.{Pending}
use Rattle.dali_record.specs.declared.operations.Undo.TheVariants.{ReviveEntry}
use Rattle.dali_record.specs.declared.records.Answer.{Answer}
use Rattle.dali_record.specs.declared.records.Answer.TheVariants.{Odd}
use Rattle.dali_record.specs.declared.records.Call.{Call}
use Rattle.dali_record.specs.declared.records.Call.TheVariants.{Update, Delete, Get}
use Rattle.dali_record.specs.declared.records.Record.TheVariants.{Forward, Back}
use Rattle.dali_record.specs.Legal.{is_none_left}
use Rattle.dali_record.specs.Log.{drop_last}
use Rattle.dali_calls.specs.declared.plan.Phase.{Phase}
use Rattle.dali_calls.specs.declared.plan.Phase.TheVariants.{Calling}
use Rattle.dali_calls.specs.declared.stage.Stage.{Stage}
use Rattle.dali_calls.specs.declared.stage.Stage.TheVariants.{Somewhere, Finished}
use Rattle.dali_calls.specs.Steps.{next_op, answer_of, in_cell}
use Rattle.dali_calls.specs.Plans.{goes_back, is_back_in}
use Rattle.dali_transcripts.specs.World.{Logs, World}
use Rattle.dali_transcripts.specs.Moves.{Receipt}
use Rattle.dali_transcripts.specs.Causes.{IsAsking, AreAsking, IsNoOperation, is_taking_back, StaysBack, undos_by, undos_behind}
use Rattle.dali_transcripts.proofs.Backs.{none_stays, stays_then}
use Rattle.dali_turns.specs.Within.{TookNothing, HasTurned}

pub stays_of : (b : Bool) (t : ℕ) (xs : List Receipt) → HasTurned b t xs → StaysBack t xs
stays_of true t xs h = h
stays_of false t xs h = none_stays t xs h

pub turned_on : (b : Bool) (t : ℕ) (xs : List Receipt) → TookNothing t xs → HasTurned b t xs
turned_on true t xs h = none_stays t xs h
turned_on false t xs h = h

-- behind deeds that make no operation of it and take nothing of it back
pub turned_then : (b : Bool) (t : ℕ) (xs ys : List Receipt) → HasTurned b t xs → AllByRecursion IsNoOperation ys → TookNothing t ys → HasTurned b t (xs ++ ys)
turned_then true t xs ys h idle none = stays_then t xs ys h idle
turned_then false t xs ys h idle none = all_append (λ x. is_taking_back t x ≡ false) xs ys h none

-- ---- deeds that leave what is to be taken back take nothing back
drop_shorter : {X : Type 0} (us : List X) → length (drop_last us) ≤ length us
drop_shorter [] = omega arith
drop_shorter (x ∷ []) = omega arith
drop_shorter (x ∷ y ∷ ys) = omega (arith, drop_shorter (y ∷ ys))

drops : (t : ℕ) (us : List Pending) (x : Receipt) → is_taking_back t x ≡ true → undos_by t us x ≡ drop_last us
drops t us (n, Logs (Back u b)) e = ap (λ (k : Bool). if k then drop_last us else us) e
drops t us x e = absurd (cc)

keeps : (w : World) (c t : ℕ) (call : Call) (us : List Pending) (x : Receipt) → IsAsking w c t call x → is_taking_back t x ≡ false → undos_by t us x ≡ us
keeps w c t call us (n, Logs (Forward u b)) h e = absurd h
keeps w c t call us (n, Logs (Back u b)) h e = ap (λ (k : Bool). if k then drop_last us else us) e
keeps w c t call us x h e = refl

never_more : (w : World) (c t : ℕ) (call : Call) (xs : List Receipt) → AreAsking w c t call xs → (us : List Pending) → length (undos_behind t us xs) ≤ length us
never_more w c t call [] h us = omega arith
never_more w c t call (x ∷ xs) h us = by_back (never_more w c t call xs h.1 (undos_by t us x)) (is_taking_back t x) refl
  where
    by_back : length (undos_behind t (undos_by t us x) xs) ≤ length (undos_by t us x) → (b : Bool) → is_taking_back t x ≡ b → length (undos_behind t (undos_by t us x) xs) ≤ length us
    by_back less true e = omega (arith, less, ap length (drops t us x e), drop_shorter us)
    by_back less false e = omega (arith, less, ap length (keeps w c t call us x h.0 e))

some_undo : Pending
some_undo = record { key = 0; region = 0; undo = ReviveEntry 0 }

pub none_asked : (w : World) (c t : ℕ) (call : Call) (xs : List Receipt) → AreAsking w c t call xs → ((us : List Pending) → undos_behind t us xs ≡ us) → TookNothing t xs
none_asked w c t call [] h still = tt
none_asked w c t call (x ∷ xs) h still = by_back (none_asked w c t call xs h.1) (is_taking_back t x) refl
  where
    by_back : (((us : List Pending) → undos_behind t us xs ≡ us) → TookNothing t xs) → (b : Bool) → is_taking_back t x ≡ b → TookNothing t (x ∷ xs)
    by_back later true e = absurd (omega (arith, never_more w c t call xs h.1 (undos_by t (some_undo ∷ []) x), ap length (drops t (some_undo ∷ []) x e), ap length (still (some_undo ∷ []))))
    by_back later false e = (e, later (λ us. ap (λ vs. undos_behind t vs xs) (sym (keeps w c t call us x h.0 e)) ∙ still us))

-- ---- a plan that takes back has its answer; one that has an operation before it has none

pub back_answered : (phase : Phase) (a : Option Answer) (us : List Pending) → phase ≡ Calling → is_back_in phase a us ≡ true → goes_back a ≡ true
back_answered Calling None us at e = absurd (cc)
back_answered Calling (Some a) us at e = left_true (goes_back (Some a)) (not (is_none_left us)) e
back_answered phase a us at e = absurd (cc)

in_cell_unanswered : (s : Sizes) (call : Call) (place : ℕ) (b : Bool) (x : ℕ × Op) → (if b then in_cell call (region_at place) (cell_at place) else None) ≡ Some x → goes_back (if b then None else Some (Odd place)) ≡ false
in_cell_unanswered s call place true x e = refl
in_cell_unanswered s call place false x e = absurd (cc)

pub unanswered : (s : Sizes) (t : ℕ) (call : Call) (stage : Stage) (x : ℕ × Op) → next_op s t call stage ≡ Some x → goes_back (answer_of s call stage) ≡ false
unanswered s t (Update key v) (Somewhere region entry place) x e = in_cell_unanswered s (Update key v) place (is_place s place) x e
unanswered s t (Delete key) (Somewhere region entry place) x e = in_cell_unanswered s (Delete key) place (is_place s place) x e
unanswered s t (Get key) (Somewhere region entry place) x e = in_cell_unanswered s (Get key) place (is_place s place) x e
unanswered s t call (Finished answer) x e = absurd (cc)
unanswered s t _ _ x e = refl

-- ---- behind an operation, or one that is taken back
pub turned_forward : (b b' : Bool) (t n : ℕ) (xs : List Receipt) (x : Block) → b ≡ false → HasTurned b t xs → HasTurned b' t (xs ++ (n, Logs (Forward t x)) ∷ [])
turned_forward true b' t n xs x e h = absurd (cc)
turned_forward false b' t n xs x e h = turned_on b' t (xs ++ (n, Logs (Forward t x)) ∷ []) (all_append (λ z. is_taking_back t z ≡ false) xs ((n, Logs (Forward t x)) ∷ []) h (refl, tt))

pub turned_back : (b b' : Bool) (t n : ℕ) (xs : List Receipt) (x : Block) → b' ≡ true → HasTurned b t xs → HasTurned b' t (xs ++ (n, Logs (Back t x)) ∷ [])
turned_back b true t n xs x e h = stays_then t xs ((n, Logs (Back t x)) ∷ []) (stays_of b t xs h) (tt, tt)
turned_back b false t n xs x e h = absurd (cc)
