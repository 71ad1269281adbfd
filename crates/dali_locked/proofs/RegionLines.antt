-- A line that a client and a region sign follows, where its steps are on that region and its entry fits.
use Rattle.std.proofs.Common.{◌≡◌, ℕ, zero, suc, ◌+◌, ◌<◌, Bool, true, false, List, [], ◌∷◌, ◌++◌, length, Option, Some, None, refl, ap, sym, subst, ◌∙◌, arith}
use Rattle.std.specs.Prelude.{slice_get, fold, ◌==◌, ◌||◌, ◌&&◌, if◌then◌else◌}
use Rattle.std.specs.List.{list_any, list_all}
use Rattle.std.proofs.lemmas.List.Sums.{fold-append}
use Rattle.dali_lists.proofs.Lists.{get_set}
use Rattle.dali_lists.proofs.Numbers.{eqb-self}
use Rattle.dali_runs.proofs.CountsLemmas.Lists.{some_same}
use Rattle.dali_notes.specs.History.{signs}
use Rattle.dali_region.specs.declared.Hold.{Hold}
use Rattle.dali_region.specs.State.{RegionState}
use Rattle.dali_runs.specs.State.{CoreState, hold_of}
use Rattle.dali_runs.specs.Run.{Bases}
use Rattle.dali_runs.specs.Regions.{RegionStep}
use Rattle.dali_crash.specs.Checkpoints.{StoreStep, Point}
use Rattle.dali_concurrent.specs.Entries.{Entry, Entries, region_note, client_note, notes_of, live_by, live_step}
use Rattle.dali_concurrent.specs.Rules.{Outset, count_of, live_in, dead_in, dead_by, dead_step, EntryFits}
use Rattle.dali_concurrent.specs.Told.{OnRegion, Line, History, plain, plain_one, core_told}
use Rattle.dali_concurrent.specs.Landing.{Lands}
use Rattle.dali_concurrent.specs.Sorts.{steps_on}
use Rattle.dali_concurrent.specs.Kept.{is_silent, is_named, is_step_on, StepsFit, is_outside, wants, writes_to, is_wanted, WritesFit, are_core_steps, txn_in, HoldIs, Follows}
use Rattle.dali_concurrent.proofs.Told.{plain-append, told_push}
use Rattle.dali_locked.proofs.RegionSigns.{signs_pair, signs_one}

-- ---- steps on a region
pub on_silent : (r : ℕ) (xs : List RegionStep) (i : ℕ) (x : StoreStep) → slice_get (steps_on r xs) i ≡ Some x → is_silent x ≡ true
on_silent r [] i x e = absurd (cc)
on_silent r (y ∷ xs) zero x e = subst (λ z. is_silent z ≡ true) (some_same e) refl
on_silent r (y ∷ xs) (suc i) x e = on_silent r xs i x e

pub on_named : (r : ℕ) (xs : List RegionStep) → list_any is_named (steps_on r xs) ≡ false
on_named r [] = refl
on_named r (y ∷ xs) = on_named r xs

pub on_it : (r : ℕ) (xs : List RegionStep) → list_all (is_step_on r) (steps_on r xs) ≡ true
on_it r [] = refl
on_it r (y ∷ xs) = ap (λ b. b && list_all (is_step_on r) (steps_on r xs)) (eqb-self r) ∙ on_it r xs

-- of an entry that wants the region
pub on_writes : (r : ℕ) (e : Entry) → wants r e ≡ true → (xs : List RegionStep) → WritesFit e (steps_on r xs)
on_writes r e w [] = refl
on_writes r e w (x ∷ xs) = ap (λ b. b && list_all (λ y. is_wanted e (writes_to y)) (steps_on r xs)) (one (is_outside x)) ∙ on_writes r e w xs
  where
    one : (b : Bool) → is_wanted e (if b then None else Some r) ≡ true
    one true = refl
    one false = w

pub on_core : (r : ℕ) (xs : List RegionStep) → are_core_steps (steps_on r xs) ≡ true
on_core r [] = refl
on_core r (y ∷ xs) = on_core r xs

-- ---- the hold, one entry further
pub hold_next : (o : Outset) (r : ℕ) (h : RegionState) (P : Entries) (p : List ℕ × Entry) → live_in h.hold ≡ txn_in (live_step r (live_by r P) p) → dead_in h.hold ≡ dead_step r (dead_by o r P) p
    → HoldIs o r h (P ++ p ∷ [])
hold_next o r h P p live dead = record {
  live = live ∙ ap txn_in (sym (fold-append (live_step r) None P (p ∷ [])));
  dead = dead ∙ sym (fold-append (dead_step r) (dead_in (hold_of o.old r)) P (p ∷ []));
}

-- ---- the line
pub record IsRegionLine (bases : Bases) (p : Point) (o : Outset) (T : History) (c r : ℕ) (g h : RegionState) (e : Entry) (xs : List StoreStep) : Type 0 where
  pub there : slice_get (core_told o T).regions r ≡ Some g
  pub by : (k : ℕ) → signs k (notes_of (count_of o) e) ≡ true → signs k (client_note (count_of o) c ∷ region_note r ∷ []) ≡ true
  pub fits : EntryFits o (plain T) e
  pub lands : Lands bases p o T (client_note (count_of o) c ∷ region_note r ∷ [], (e, OnRegion r h, xs))
  pub silent : (i : ℕ) (x : StoreStep) → slice_get xs i ≡ Some x → is_silent x ≡ true
  pub steps : StepsFit e xs
  pub writes : WritesFit e xs
  pub core : are_core_steps xs ≡ true
  pub live : live_in h.hold ≡ txn_in (live_step r (live_by r (plain T)) (client_note (count_of o) c ∷ region_note r ∷ [], e))
  pub dead : dead_in h.hold ≡ dead_step r (dead_by o r (plain T)) (client_note (count_of o) c ∷ region_note r ∷ [], e)

pub region_line_follows : (bases : Bases) (p : Point) (o : Outset) (T : History) (c r : ℕ) (g h : RegionState) (e : Entry) (xs : List StoreStep) → IsRegionLine bases p o T c r g h e xs
    → Follows bases p o T (client_note (count_of o) c ∷ region_note r ∷ [], (e, OnRegion r h, xs))
region_line_follows bases p o T c r g h e xs is = record {
  fits = record { by = is.by; fits = is.fits };
  effect = signs_pair (client_note (count_of o) c) r;
  lands = is.lands;
  silent = λ none. is.silent;
  steps = is.steps;
  writes = is.writes;
  holds = λ q k low signed at.
      let here : r ≡ q = signs_one (count_of o) c r q low signed in
      let now : h ≡ k = some_same (sym behind ∙ (ap (λ z. slice_get (core_told o (T ++ line ∷ [])).regions z) here ∙ at)) in
      subst (λ z. HoldIs o z k (plain (T ++ line ∷ []))) here (subst (λ z. HoldIs o r z (plain (T ++ line ∷ []))) now
      (subst (HoldIs o r h) (sym (plain-append T (line ∷ []))) (hold_next o r h (plain T) (plain_one line) is.live is.dead)));
  checks = λ some. absurd (none is.core some);
}
  where
    line : Line
    line = (client_note (count_of o) c ∷ region_note r ∷ [], (e, OnRegion r h, xs))

    behind : slice_get (core_told o (T ++ line ∷ [])).regions r ≡ Some h
    behind = ap (λ (d : CoreState). slice_get d.regions r) (told_push o T line) ∙ get_set (core_told o T).regions r g h is.there

    none : are_core_steps xs ≡ true → are_core_steps xs ≡ false → ⊥
    none a b = cc
