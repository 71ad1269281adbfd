-- A mix of what is pending is one of the things that a crash may leave.
use Rattle.std.specs.Prelude.{◌<◌, ◌≡◌, ◌⊎◌, ℕ, zero, suc, ◌+◌, ◌≤◌}
use Rattle.std.specs.Prelude.{Bool, true, false, not, nat_lt, ◌||◌, ◌&&◌, cond, List, [], ◌∷◌, length, refl}
use Rattle.std.proofs.Common.{get_or, ap, subst, arith, inl, inr, ⊎_elim}
use Rattle.std.proofs.lemmas.Bool.Decides.{nat_tests}
use Rattle.dali_disk.specs.declared.disk.Span.{Span}
use Rattle.dali_disk.specs.State.{State, IsIn, IsPending, IsImage}
use Rattle.dali_disk.specs.State.{in_spans, waits_at, byte_after, mixed_byte, mixed_from, mixed}

or_true : (a b : Bool) → (a || b) ≡ true → (a ≡ true) ⊎ (b ≡ true)
or_true true b is = inl refl
or_true false b is = inr is

span_true : (span : Span) (i : ℕ)
    → (not (nat_lt i span.at) && nat_lt i (span.at + span.count)) ≡ true → (span.at ≤ i) × (i < span.at + span.count)
span_true span i is = (grind (arith, nat_tests), grind (arith, nat_tests))

in_true : (spans : List Span) (i : ℕ) → in_spans spans i ≡ true → IsIn spans i
in_true [] i is = absurd cc
in_true (span ∷ spans) i is =
    ⊎_elim (λ here. inl (span_true span i here)) (λ there. inr (in_true spans i there)) (or_true _ _ is)

waits_true : (s : State) (i : ℕ) → waits_at s.synced s.spans i ≡ true → IsPending s i
waits_true s i is =
    ⊎_elim (λ past. inl (past_end past)) (λ inside. inr (in_true s.spans i inside)) (or_true _ _ is)
  where
    past_end : not (nat_lt i (length s.synced)) ≡ true → length s.synced ≤ i
    past_end h = grind (arith, nat_tests)

pub length-mixed : (choice file : ℕ) (synced : List ℕ) (spans : List Span) (i : ℕ) (bytes : List ℕ)
    → length (mixed_from choice file synced spans i bytes) ≡ length bytes
length-mixed choice file synced spans i [] = refl
length-mixed choice file synced spans i (byte ∷ bytes) =
    ap suc (length-mixed choice file synced spans (i + 1) bytes)

pub get-mixed : (choice file : ℕ) (s : State) (i : ℕ) (bytes : List ℕ) (k : ℕ)
    → k < length bytes → (IsPending s (i + k) → ⊥)
    → get_or (mixed_from choice file s.synced s.spans i bytes) k 0 ≡ get_or bytes k 0
get-mixed choice file s i [] k lt out = absurd (omega arith)
get-mixed choice file s i (byte ∷ bytes) zero lt out = by_test (waits_at s.synced s.spans i) refl
  where
    by_test : (b : Bool) → waits_at s.synced s.spans i ≡ b → byte_after choice file s.synced s.spans i byte ≡ byte
    by_test true is =
        let same : i ≡ i + 0 = omega arith in
        absurd (out (subst (IsPending s) same (waits_true s i is)))
    by_test false is = ap (λ t. cond t (mixed_byte choice file s.synced byte i) byte) is
get-mixed choice file s i (byte ∷ bytes) (suc k) lt out =
    let same : i + 1 + k ≡ i + suc k = omega arith in
    get-mixed choice file s (i + 1) bytes k (omega (arith, lt)) (λ waits. out (subst (IsPending s) same waits))

pub mixed_image : (choice file : ℕ) (s : State) → length s.synced ≤ length s.seen → IsImage s (mixed choice file s).seen
mixed_image choice file s longer = record {
  no_shorter = omega (arith, longer, size);
  no_longer = omega (arith, size);
  same = λ i lt out. get-mixed choice file s 0 s.seen i (omega (arith, lt, size)) (λ waits. out (from_zero i waits));
}
  where
    size : length (mixed choice file s).seen ≡ length s.seen
    size = length-mixed choice file s.synced s.spans 0 s.seen

    from_zero : (i : ℕ) → IsPending s (0 + i) → IsPending s i
    from_zero i waits =
        let same : 0 + i ≡ i = omega arith in
        subst (IsPending s) same waits
