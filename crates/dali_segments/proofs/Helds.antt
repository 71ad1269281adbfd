-- What follows from what is so of each outcome of a crash.
use Rattle.std.specs.Prelude.{◌⊎◌, Bool, true, false, Option, Some, None, IfSome, refl}
use Rattle.std.specs.Option.{ForSome}
use Rattle.std.proofs.Common.{◌≡◌, inl, inr, ⊎_elim, ℕ, ◌≤◌, ◌<◌, List, length, sym, ◌∙◌, ap, subst, arith}
use Rattle.std.proofs.lemmas.List.{length-replicate}
use Rattle.std.proofs.lemmas.Bool.Decides.{nat_tests}
use Rattle.dali_files.specs.Files.{Contents}
use Rattle.dali_files.specs.declared.key.FileKey.{FileKey}
use Rattle.dali_files.specs.declared.key.FileKey.TheVariants.{ImageA, ImageB, Anchor, Segment}
use Rattle.dali_segments.specs.Segments.{mark, is_dropped, piece, log_of, IsReady, IsHeld, IsSound}
use Rattle.dali_segments.specs.Laws.{Shorter}
use Rattle.dali_segments.proofs.Joins.{joined_longer}
use Rattle.dali_segments.proofs.Logs.{piece_dropped, piece_kept}

pub test_or : (b : Bool) → (b ≡ true) ⊎ (b ≡ false)
test_or true = inl refl
test_or false = inr refl

pub more_dropped : (a b n : ℕ) → a ≤ b → is_dropped a n ≡ true → is_dropped b n ≡ true
more_dropped a b n le is = grind (arith, nat_tests)

pub fewer_dropped : (a b n : ℕ) → a ≤ b → is_dropped b n ≡ false → is_dropped a n ≡ false
fewer_dropped a b n le is = grind (arith, nat_tests)

-- one that isn't dropped
pub kept_place : (marked n : ℕ) → is_dropped marked n ≡ false → (n ≡ 0) ⊎ (marked < n)
kept_place marked n is = grind (arith, nat_tests)

pub dropped_place : (marked n : ℕ) → is_dropped marked n ≡ true → (0 < n) × (n ≤ marked)
dropped_place marked n is = (above marked n is, under marked n is)
  where
    above : (marked n : ℕ) → is_dropped marked n ≡ true → 0 < n
    above marked n is = grind (arith, nat_tests)

    under : (marked n : ℕ) → is_dropped marked n ≡ true → n ≤ marked
    under marked n is = grind (arith, nat_tests)

pub is_kept : (marked n : ℕ) → (n ≡ 0) ⊎ (marked < n) → is_dropped marked n ≡ false
is_kept marked n is = grind (arith, nat_tests)

pub true_false : true ≡ false → ⊥
true_false e = cc

pub full_length : (size : ℕ) (fs : Contents) (n : ℕ) → is_dropped (length (fs mark)) n ≡ true → length (piece size fs n) ≡ size
full_length size fs n is = ap (λ (l : List ℕ). length l) (piece_dropped size fs n is) ∙ length-replicate size 0

-- no outcome's log is longer than that of the files
pub held_shorter : (size : ℕ) (outcomes : Contents → Type 0) (going : FileKey → Type 0) (fs : Contents)
    → IsHeld size outcomes going → outcomes fs → Shorter outcomes going fs → (d : Contents) → outcomes d → length (log_of size d) ≤ length (log_of size fs)
held_shorter size outcomes going fs held now shorter d out =
    joined_longer size (λ n. piece size fs n) (λ n. piece size d n) 0 4095 (λ k from lt before. each k (omega (arith, lt)) (λ m under. before m (omega arith) under))
  where
    marks : length (d mark) ≤ length (fs mark)
    marks = shorter d out mark held.marked

    each : (k : ℕ) → k < 4095 → ((m : ℕ) → m < k → length (piece size d m) ≡ size) → (length (piece size d k) ≤ length (piece size fs k)) × (length (piece size fs k) ≤ size)
    each k lt before = ⊎_elim
        (λ is. (omega (arith, full_length size fs k is, held.small d out k lt), omega (arith, full_length size fs k is)))
        (λ is.
        let kept : is_dropped (length (d mark)) k ≡ false = fewer_dropped (length (d mark)) (length (fs mark)) k marks is in
        let stays : going (Segment k) → ⊥ = λ going_k. held.behind d out k lt going_k kept before in (
          omega (arith, shorter d out (Segment k) stays, ap (λ (l : List ℕ). length l) (piece_kept size d k kept), ap (λ (l : List ℕ). length l) (piece_kept size fs k is)),
          held.small fs now k lt,
        ))
        (test_or (is_dropped (length (fs mark)) k))

-- it is so where no call on the log failed
pub ready_held : (size last dropped settled : ℕ) (outcomes : Contents → Type 0) (going : FileKey → Type 0) (fs : Contents)
    → dropped < 4095 → (going ImageA → ⊥) × ((going ImageB → ⊥) × (going Anchor → ⊥)) → Shorter outcomes going fs
    → IsReady size last dropped settled outcomes going fs → IsHeld size outcomes going
ready_held size last dropped settled outcomes going fs few images shorter is = record {
  images = images;
  marked = is.stays 4095 few (omega arith);
  small = λ d out n lt. ⊎_elim
      (λ gone. omega (arith, full_length size d n gone))
      (λ kept.
      let kept_fs : is_dropped (length (fs mark)) n ≡ false = ap (λ (m : ℕ). is_dropped m n) (is.marked ∙ sym (is.same_mark d out)) ∙ kept in
      omega (
        arith,
        ap (λ (l : List ℕ). length l) (piece_kept size d n kept),
        ap (λ (l : List ℕ). length l) (piece_kept size fs n kept_fs),
        shorter d out (Segment n) (stays d out n lt kept),
        bounded n lt,
      ))
      (test_or (is_dropped (length (d mark)) n));
  behind = λ d out n lt going_n kept full. stays d out n lt kept going_n;
}
  where
    stays : (d : Contents) → outcomes d → (n : ℕ) → n < 4095 → is_dropped (length (d mark)) n ≡ false → going (Segment n) → ⊥
    stays d out n lt kept going_n = ⊎_elim
        (λ first. is.first (subst (λ (k : ℕ). going (Segment k)) first going_n))
        (λ above. is.stays n (omega (arith, above, is.same_mark d out)) (omega (arith, lt)) going_n)
        (kept_place (length (d mark)) n kept)

    place : (n last : ℕ) → (n < last) ⊎ ((n ≡ last) ⊎ (last < n))
    place n last = grind arith

    bounded : (n : ℕ) → n < 4095 → length (piece size fs n) ≤ size
    bounded n lt = ⊎_elim
        (λ below. omega (arith, is.full n below))
        (λ rest. ⊎_elim
        (λ here. subst (λ (k : ℕ). length (piece size fs k) ≤ size) (sym here) is.ends)
        (λ above. omega (arith, ap (λ (l : List ℕ). length l) (is.none n above lt)))
        rest)
        (place n last)

some_same : (x y : Contents) → Some x ≡ Some y → x ≡ y
some_same x y e = cc

none_some : (x : Contents) → None ≡ Some x → ⊥
none_some x e = cc

-- all that is so of the files, from what is so of each outcome
pub sound_at : (lost : Bool) (size last dropped settled : ℕ) (told : Option Contents) (outcomes : Contents → Type 0) (going : FileKey → Type 0)
    → IfSome told (λ fs. outcomes fs) → IfSome told (λ fs. Shorter outcomes going fs)
    → IfSome told (λ fs. IsHeld size outcomes going × (lost ≡ false → IsReady size last dropped settled outcomes going fs))
    → ForSome told (λ fs. IsSound lost size last dropped settled outcomes going fs)
sound_at lost size last dropped settled None outcomes going now shorter is fs same = absurd (none_some fs same)
sound_at lost size last dropped settled (Some gs) outcomes going now shorter is fs same =
    subst (λ (x : Contents). IsSound lost size last dropped settled outcomes going x) (some_same gs fs same)
    (record { no_longer = held_shorter size outcomes going gs is.0 now shorter; held = is.0; ready = is.1 })

-- where the files are ready
pub sound_ready : (lost : Bool) (size last dropped settled : ℕ) (told : Option Contents) (outcomes : Contents → Type 0) (going : FileKey → Type 0)
    → dropped < 4095 → IfSome told (λ fs. outcomes fs) → IfSome told (λ fs. Shorter outcomes going fs)
    → IfSome told (λ fs. ((going ImageA → ⊥) × ((going ImageB → ⊥) × (going Anchor → ⊥))) × IsReady size last dropped settled outcomes going fs)
    → ForSome told (λ fs. IsSound lost size last dropped settled outcomes going fs)
sound_ready lost size last dropped settled None outcomes going few now shorter is fs same = absurd (none_some fs same)
sound_ready lost size last dropped settled (Some gs) outcomes going few now shorter is fs same =
    sound_at lost size last dropped settled (Some gs) outcomes going now shorter
    (ready_held size last dropped settled outcomes going gs few is.0 shorter is.1, λ found. is.1) fs same
