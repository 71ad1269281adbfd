-- What the worked rounds leave: nothing that was there is lost, the table is as the deeds leave it, and no hold is live.
use Rattle.std.proofs.Common.{◌≡◌, ℕ, zero, suc, ◌≤◌, Bool, true, false, List, [], ◌∷◌, ◌++◌, Option, Some, None, refl, ap, sym, subst, ◌∙◌, arith}
use Rattle.std.specs.Prelude.{◌==◌, IsSome, IsSomeAnd, is_some, fold, not, slice_get, sum_by, take}
use Rattle.std.specs.List.{list_all}
use Rattle.std.specs.Ordering.{nat_cmp}
use Rattle.std.specs.FinMap.{get, empty, get-empty}
use Rattle.std.proofs.lemmas.Bool.{ne_eqb, eqb-true}
use Rattle.dali_runs.proofs.CountsLemmas.Lists.{some_same}
use Rattle.dali_record.specs.declared.records.Record.{Record}
use Rattle.dali_record.specs.Spelling.{record_length}
use Rattle.dali_region.specs.declared.Hold.{Hold}
use Rattle.dali_region.specs.State.{RegionState, IsLive}
use Rattle.dali_locks.specs.declared.mode.Mode.{Mode}
use Rattle.dali_locks.specs.Locks.{lock_cmp}
use Rattle.dali_runs.specs.State.{SystemState, row_of, state_in, state_of, lock_of, log_after, stable}
use Rattle.dali_transcripts.specs.Words.{Said, StoreFailed}
use Rattle.dali_transcripts.specs.World.{Meets, Happening, World, state_step, state_after, lock_step, lock_after, IsNoWeaker, is_claimed_in, has_failed, log_of, stray_after, poked_after, refused_by, Grows}
use Rattle.dali_transcripts.specs.Causes.{AreRight, IsGrantable}
use Rattle.dali_transcripts.specs.Transcripts.{AreHanded, AreTranscripts, Told, receipts_of}
use Rattle.dali_transcripts.specs.Rounds.{AreAnchors, AreSpans, FaultsTell, HoldsTogether, IsAtRest, IsBetween, IsRound, PokesTell, VerdictsTell, fits}
use Rattle.dali_transcripts.proofs.Lists.{none_in}
use Rattle.dali_transcripts.proofs.Verdicts.{never}

-- from a core without refusals that wasn't stopped
pub grew_from : (w : World) → w.old.system.refusals ≡ [] → w.old.system.stop ≡ None → w.old.vault.stopped ≡ false
    → w.core.system.sizes ≡ w.old.system.sizes → w.core.system.limit ≡ w.old.system.limit → stable w.old ≤ stable w.core → Grows (record w { happened = []; core = w.old }) w
grew_from w refusals stop runs sizes limit flushed = record {
  old = refl;
  before = refl;
  precheck = refl;
  more = w.happened;
  happened = refl;
  sizes = sizes;
  limit = limit;
  flushed = flushed;
  failed = λ e. let no : true ≡ false = sym e ∙ runs in absurd (cc);
  sealed = λ e. let no : true ≡ false = sym e ∙ runs in absurd (cc);
  stopped = λ z e. let no : None ≡ Some z = sym stop ∙ e in absurd (cc);
  refusals = λ f h. absurd (none_in w.old.system.refusals f refusals h);
}

pub no_state : (y : SystemState) → y.table ≡ empty → (t : ℕ) → state_of y t ≡ None
no_state y e t = ap (λ m. state_in (get m t)) e ∙ ap state_in (get-empty nat_cmp t)

pub no_row : (y : SystemState) → y.table ≡ empty → (t : ℕ) → IsSome (row_of y t) → ⊥
no_row y e t h = let no : false ≡ true = sym (ap (λ m. is_some (get m t)) e ∙ ap is_some (get-empty nat_cmp t)) ∙ h in absurd (cc)

-- where each transaction of these deeds has ended
pub all_ended : (w : World) → w.old.system.table ≡ empty → w.core.system.table ≡ empty → ((t : ℕ) → fold (state_step t) None w.happened ≡ None)
    → (t : ℕ) → state_of w.core.system t ≡ state_after w w.happened t
all_ended w old new ended t = no_state w.core.system new t ∙ sym (ap (λ o. fold (state_step t) o w.happened) (no_state w.old.system old t) ∙ ended t)

-- ---- locks
pub told_locks : (w : World) → w.old.system.locks ≡ empty → (xs : List Happening) (t k : ℕ) → lock_after w xs t k ≡ fold (lock_step t k) None xs
told_locks w old xs t k = ap (λ o. fold (lock_step t k) o xs) (ap (λ m. get m (t, k)) old ∙ get-empty lock_cmp (t, k))

-- where each lock of these deeds was given back
pub all_freed : (w : World) → w.old.system.locks ≡ empty → ((t k : ℕ) → fold (lock_step t k) None w.happened ≡ None) → (t k : ℕ) → IsNoWeaker (lock_of w.core.system t k) (lock_after w w.happened t k)
all_freed w old freed t k = subst (IsNoWeaker (lock_of w.core.system t k)) (sym (told_locks w old w.happened t k ∙ freed t k)) tt

-- where no other transaction has one of this key
pub none_in_the_way : (w : World) (i t k : ℕ) (m : Mode) → w.old.system.locks ≡ empty → ((u : ℕ) → (t == u) ≡ false → fold (lock_step u k) None (take i w.happened) ≡ None) → IsGrantable w i t k m
none_in_the_way w i t k m old none u n other held =
    let no : None ≡ Some n = sym (told_locks w old (take i w.happened) u k ∙ none u other) ∙ held in absurd (cc)

pub none_claimed : (y : SystemState) → y.table ≡ empty → (t : ℕ) → is_claimed_in (state_of y t) ≡ false
none_claimed y e t = ap is_claimed_in (no_state y e t)

abbrev pub fails : Happening → Bool
fails (Meets StoreFailed, c) = true
fails x = false

-- where no store call failed
pub none_failed : (w : World) → w.old.vault.stopped ≡ false → w.core.vault.stopped ≡ false → w.core.vault.faults ≡ w.old.vault.faults
    → has_failed false w.happened ≡ false → list_all (λ x. not (fails x)) w.happened ≡ true → FaultsTell w
none_failed w old new faults none all = record {
  stopped = new ∙ sym (ap (λ b. has_failed b w.happened) old ∙ none);
  once = λ i c e. absurd (never fails w.happened i (Meets StoreFailed, c) all e refl);
  none = λ e. faults;
  rose = λ e. let no : false ≡ true = sym none ∙ e in absurd (cc);
}

-- numbers above three are none of the first
-- what is so of 1 and of each other number is so of all
pub by_one : (P : ℕ → Type 0) → P 1 → ((t : ℕ) → (1 == t) ≡ false → P t) → (t : ℕ) → P t
by_one P one other t = by_test (1 == t) refl
  where
    by_test : (b : Bool) → (1 == t) ≡ b → P t
    by_test true e = subst P (eqb-true 1 t e) one
    by_test false e = other t e

pub above_three : (t : ℕ) → ((1 == suc (suc (suc (suc t)))) ≡ false) × ((2 == suc (suc (suc (suc t)))) ≡ false) × ((3 == suc (suc (suc (suc t)))) ≡ false)
above_three t = (
  ne_eqb 1 (suc (suc (suc (suc t)))) (λ e. absurd (omega (arith, e))),
  ne_eqb 2 (suc (suc (suc (suc t)))) (λ e. absurd (omega (arith, e))),
  ne_eqb 3 (suc (suc (suc (suc t)))) (λ e. absurd (omega (arith, e))),
)

pub not_live : (a g : RegionState) → a ≡ g → a.hold ≡ None → IsLive g → ⊥
not_live a g e none live =
    let no : IsSomeAnd None (λ (h : Hold). h.dead ≡ false) = subst (λ (o : Option Hold). IsSomeAnd o (λ (h : Hold). h.dead ≡ false)) (ap (λ (z : RegionState). z.hold) (sym e) ∙ none) live in
    absurd no

-- nor of two regions
pub neither_live : (a b : RegionState) → a.hold ≡ None → b.hold ≡ None → (r : ℕ) (g : RegionState) → slice_get (a ∷ b ∷ []) r ≡ Some g → IsLive g → ⊥
neither_live a b first second zero g e live = not_live a g (some_same e) first live
neither_live a b first second (suc zero) g e live = not_live b g (some_same e) second live
neither_live a b first second (suc (suc r)) g e live = absurd (cc)

-- the stray writes of a region before and behind these deeds
abbrev pub ArePoked : List Happening → ℕ → RegionState → RegionState → Type 0
ArePoked xs r g h = (h.stray ≡ stray_after r g.stray xs) × (h.poked ≡ poked_after r g.poked xs)

pub strays_same : (xs : List Happening) (r : ℕ) (a b g h : RegionState) → a ≡ g → b ≡ h → ArePoked xs r a b → ArePoked xs r g h
strays_same xs r a b g h e f are = subst (λ z. ArePoked xs r z h) e (subst (λ z. ArePoked xs r a z) f are)

-- ---- all of it
-- where each transaction has ended, no call of the store failed, and no look is tested
pub ended_together : (w : World) → AreSpans None w.happened → AreAnchors w.old.vault.current w.happened w.core.vault.current → PokesTell w → VerdictsTell w
    → w.old.system.table ≡ empty → w.core.system.table ≡ empty → w.old.system.locks ≡ empty → ((t : ℕ) → fold (state_step t) None w.happened ≡ None) → ((t k : ℕ) → fold (lock_step t k) None w.happened ≡ None)
    → FaultsTell w → w.core.system.refusals ≡ w.old.system.refusals ++ refused_by w.happened → fits w.old.system.limit (sum_by record_length w.before) w.happened ≡ true → w.precheck ≡ false → HoldsTogether w
ended_together w spans anchors pokes verdicts old new locks ended freed faults refusals room unchecked = record {
  spans = spans;
  anchors = anchors;
  pokes = pokes;
  verdicts = verdicts;
  states = all_ended w old new ended;
  locks = all_freed w locks freed;
  faults = faults;
  refusals = refusals;
  room = room;
  prechecks = λ yes. let no : false ≡ true = sym unchecked ∙ yes in absurd (cc);
}

pub whole_round : (w : World) (before : List Record) (blocks : List Told) (lines : List (List Said)) (receipts : List (List ℕ)) → w.before ≡ log_after before w.old.system → Grows (record w { happened = []; core = w.old }) w
    → log_after before w.core.system ≡ log_of w → AreTranscripts true w blocks lines → AreHanded true (receipts_of w blocks) receipts → AreRight w → HoldsTogether w → IsAtRest w.core → IsBetween w.core
    → IsRound w.precheck true before w.old w.core blocks lines receipts
whole_round w before blocks lines receipts stood grew log transcripts handed right together rests between = record {
  world = w;
  old_is = refl;
  before_is = stood;
  precheck_is = refl;
  core_is = refl;
  grew = grew;
  log = log;
  transcripts = transcripts;
  receipts_are = handed;
  right = right;
  together = together;
  rests = rests;
  between = λ whole. between;
}
