-- Syncs of all files, one after another.
use Rattle.std.specs.Prelude.{◌⊎◌, Option, Some, None, IfSome, refl}
use Rattle.std.proofs.Common.{◌≡◌, ⊎_elim, ℕ, zero, suc, ◌+◌, ◌-◌, ◌≤◌, ◌<◌, sym, ◌∙◌, ap, subst, arith}
use Rattle.dali_files.specs.Files.{Contents}
use Rattle.dali_files.specs.Keys.{IsKey}
use Rattle.dali_files.specs.declared.key.FileKey.{FileKey}
use Rattle.dali_files.specs.declared.key.FileKey.TheVariants.{ImageA as KeyA, ImageB as KeyB, Anchor as KeyAnchor, Segment}
use Rattle.dali_segments.specs.Segments.{mark}
use Rattle.dali_segments.specs.Extents.{IsFixed, key_at}

pub key_far : (n : ℕ) → 3 ≤ n → key_at n ≡ Segment (n - 3)
key_far n le = subst (λ (k : ℕ). key_at k ≡ Segment (n - 3)) here refl
  where
    here : suc (suc (suc (n - 3))) ≡ n
    here = omega (arith, le)

pub key_fits : (n : ℕ) → n < 4099 → IsKey (key_at n)
key_fits zero lt = tt
key_fits (suc zero) lt = tt
key_fits (suc (suc zero)) lt = tt
key_fits (suc (suc (suc n))) lt = omega (arith, lt)

-- of so many files a crash leaves what reads give, and none of them is going
abbrev pub AreSynced : ℕ → Option Contents → (Contents → Type 0) → Type 0
AreSynced below told outcomes = IfSome told (λ fs. (c : Contents) → outcomes c → (n : ℕ) → n < below → c (key_at n) ≡ fs (key_at n))

place_or : (n below : ℕ) → n < below + 1 → (n ≡ below) ⊎ (n < below)
place_or n below lt = grind arith

pub synced_none : (told : Option Contents) (outcomes : Contents → Type 0) → AreSynced 0 told outcomes
synced_none None outcomes = tt
synced_none (Some fs) outcomes = λ c out n lt. absurd (omega (arith, lt))

pub synced_next : (below : ℕ) (key : FileKey) → key ≡ key_at below → (told mid : Option Contents) (was left : Contents → Type 0) → mid ≡ told → AreSynced below told was
    → IfSome mid (λ fs. (c : Contents) → left c → c key ≡ fs key) → ((c : Contents) → left c → was c) → AreSynced (below + 1) told left
synced_next below key is told mid was left same kept one fewer =
    by_told told kept (subst (λ (t : Option Contents). IfSome t (λ fs. (c : Contents) → left c → c key ≡ fs key)) same one)
  where
    by_told : (t : Option Contents) → AreSynced below t was → IfSome t (λ fs. (c : Contents) → left c → c key ≡ fs key) → AreSynced (below + 1) t left
    by_told None before here = tt
    by_told (Some fs) before here = λ c out n lt. ⊎_elim
        (λ same_n. subst (λ (k : FileKey). c k ≡ fs k) (is ∙ ap (λ (k : ℕ). key_at k) (sym same_n)) (here c out))
        (λ under. before c (fewer c out) n under)
        (place_or n below lt)

pub synced_less : (below most : ℕ) → below ≤ most → (told : Option Contents) (outcomes : Contents → Type 0) → AreSynced most told outcomes → AreSynced below told outcomes
synced_less below most le None outcomes is = tt
synced_less below most le (Some fs) outcomes is = λ c out n lt. is c out n (omega (arith, lt, le))

pub stays_none : (going : FileKey → Type 0) → (n : ℕ) → n < 0 → going (key_at n) → ⊥
stays_none going n lt is = omega (arith, lt)

pub stays_next : (below : ℕ) (key : FileKey) → key ≡ key_at below → (was going : FileKey → Type 0) → ((g : FileKey) → going g → was g) → ((n : ℕ) → n < below → was (key_at n) → ⊥) → (going key → ⊥)
    → (n : ℕ) → n < below + 1 → going (key_at n) → ⊥
stays_next below key is was going less before here n lt now = ⊎_elim
    (λ same_n. here (subst (λ (k : FileKey). going k) (ap (λ (k : ℕ). key_at k) same_n ∙ sym is) now))
    (λ under. before n under (less (key_at n) now))
    (place_or n below lt)

-- with the mark behind them
pub all_fixed : (last : ℕ) (told mid : Option Contents) (was left : Contents → Type 0) (going is_going : FileKey → Type 0) → mid ≡ told → AreSynced (last + 4) told was → ((n : ℕ) → n < last + 4 → going (key_at n) → ⊥)
    → IfSome mid (λ fs. (c : Contents) → left c → c mark ≡ fs mark) → ((c : Contents) → left c → was c) → ((g : FileKey) → is_going g → going g) → (is_going mark → ⊥)
    → IfSome told (λ fs. IsFixed last left is_going fs)
all_fixed last told mid was left going is_going same synced still one fewer less mark_still =
    by_told told synced (subst (λ (t : Option Contents). IfSome t (λ fs. (c : Contents) → left c → c mark ≡ fs mark)) same one)
  where
    by_told : (t : Option Contents) → AreSynced (last + 4) t was → IfSome t (λ fs. (c : Contents) → left c → c mark ≡ fs mark) → IfSome t (λ fs. IsFixed last left is_going fs)
    by_told None before here = tt
    by_told (Some fs) before here = record {
      marks = here;
      segments = λ c out n lt. before c (fewer c out) (suc (suc (suc n))) (omega (arith, lt));
      images = λ c out. (before c (fewer c out) 0 (omega arith), (before c (fewer c out) 1 (omega arith), before c (fewer c out) 2 (omega arith)));
      mark_stays = mark_still;
      segments_stay = λ n lt is. still (suc (suc (suc n))) (omega (arith, lt)) (less (Segment n) is);
      images_stay = (
        (λ is. still 0 (omega arith) (less KeyA is)),
        ((λ is. still 1 (omega arith) (less KeyB is)), (λ is. still 2 (omega arith) (less KeyAnchor is))),
      );
    }

-- with where the log ends
pub both_told : (P Q : Contents → Type 0) (told mid : Option Contents) → mid ≡ told → IfSome told (λ fs. P fs) → IfSome told (λ fs. Q fs) → IfSome mid (λ fs. P fs × Q fs)
both_told P Q told mid same p q = subst (λ (t : Option Contents). IfSome t (λ fs. P fs × Q fs)) (sym same) (by_told told p q)
  where
    by_told : (t : Option Contents) → IfSome t (λ fs. P fs) → IfSome t (λ fs. Q fs) → IfSome t (λ fs. P fs × Q fs)
    by_told None p q = tt
    by_told (Some fs) p q = (p, q)

pub told_moved : (P : Contents → Type 0) (old new : Option Contents) → new ≡ old → IfSome old (λ fs. P fs) → IfSome new (λ fs. P fs)
told_moved P old new same is = subst (λ (t : Option Contents). IfSome t (λ fs. P fs)) (sym same) is
