-- A look that was right before another client wrote astray.
use Rattle.std.proofs.Common.{◌≡◌, ℕ, zero, suc, ◌<◌, ◌≤◌, false, Some, refl, ap, sym, subst, ◌∙◌, arith}
use Rattle.std.specs.Prelude.{◌==◌, slice_get}
use Rattle.dali_runs.proofs.CountsLemmas.Lists.{some_same}
use Rattle.dali_record.specs.declared.operations.Block.{Block}
use Rattle.dali_record.specs.declared.records.Record.TheVariants.{Forward}
use Rattle.dali_region.specs.State.{RegionState, loaded}
use Rattle.dali_transcripts.specs.World.{Deed, Logs, DiesOn, Happening}
use Rattle.dali_transcripts.specs.Rounds.{is_on, HasLooked}
use Rattle.dali_transcripts.specs.Worked.{heap_words, put}
use Rattle.dali_transcripts.specs.Looks.{happened, world, LooksStayRight}
use Rattle.dali_transcripts.proofs.Verdicts.{is_death, is_operation, never, only_at, region_in}

none_astray : (r : ℕ) (g : RegionState) → r ≡ 1 → slice_get world.old.regions r ≡ Some g → g.stray ≡ 0
none_astray zero g e was = absurd (cc)
none_astray (suc zero) g e was = ap (λ (h : RegionState). h.stray) (sym (some_same was))
none_astray (suc (suc r)) g e was = absurd (cc)

held_at : (r k d : ℕ) (x : Deed) → k < 2 → slice_get happened k ≡ Some (x, d) → ((d == 1) ≡ false) × (is_on r x ≡ false)
held_at r zero d x below there = subst (λ (y : Happening). ((y.1 == 1) ≡ false) × (is_on r y.0 ≡ false)) (some_same there) (refl, refl)
held_at r (suc zero) d x below there = subst (λ (y : Happening). ((y.1 == 1) ≡ false) × (is_on r y.0 ≡ false)) (some_same there) (refl, refl)
held_at r (suc (suc k)) d x below there = absurd (omega (arith, below))

looked_at : (i t c : ℕ) (b : Block) (g : RegionState) → slice_get happened i ≡ Some (Logs (Forward t b), c) → slice_get world.old.regions b.region ≡ Some g → HasLooked world c i b.region g
looked_at i t c b g e was =
    let low : 0 ≤ 2 = omega arith in
    let here : i ≡ 2 = only_at is_operation 2 happened i (Logs (Forward t b), c) refl refl e refl in
    let same : (Logs (Forward 1 (put 97 0)), 1) ≡ (Logs (Forward t b), c) = some_same (sym (ap (λ k. slice_get happened k) here) ∙ e) in
    let region : b.region ≡ 1 = sym (ap region_in same) in
    let client : 1 ≡ c = ap (λ (y : Happening). y.1) same in
    subst (λ k. HasLooked world c k b.region g) (sym here)
    (subst (λ n. HasLooked world n 2 b.region g) client
    (record { place = 0; before = low; right = none_astray b.region g region was; held = λ k d x from below there. held_at b.region k d x below there }))

pub looks_stay_right : LooksStayRight
looks_stay_right = record {
  looked = record { operations = looked_at; deaths = λ i t r c g e was. absurd (never is_death happened i (DiesOn t r, c) refl e refl) };
  late = λ h. let none : 255 ≡ 0 = h.operations 2 1 1 (put 97 0) (loaded heap_words) refl refl in absurd (cc);
}
