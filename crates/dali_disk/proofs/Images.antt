-- What a crash may leave of one file, after a write, a sync and a cut.
use Rattle.std.specs.Prelude.{◌<◌, ◌≡◌, ◌⊎◌, ℕ, zero, suc, ◌+◌, ◌≤◌, min, max}
use Rattle.std.specs.Prelude.{List, [], ◌∷◌, ◌++◌, length, refl, false, cond}
use Rattle.std.proofs.Common.{get_or, sym, ◌∙◌, ap, subst, arith, inl, inr, ⊎_elim}
use Rattle.std.proofs.lemmas.Bool.Decides.{nat_tests}
use Rattle.std.proofs.lemmas.List.{ext_get_or}
use Rattle.dali_store.specs.Store.{Torn}
use Rattle.dali_disk.specs.declared.disk.Span.{Span}
use Rattle.dali_disk.specs.State.{State, wrote, kept, dropped, IsIn, IsPending, IsImage, cut_by}
use Rattle.dali_disk.specs.State.{waits, waits_in, waits_at, mixed, mixed_from, mixed_byte}
use Rattle.dali_disk.specs.Sound.{IsSound, length-written, untouched, in_pushed, kept_sound, dropped_sound, cut_sound}
use Rattle.dali_disk.specs.Laws.{cut_image}
use Rattle.dali_disk.proofs.Mix.{mix, length-mix, get-mix, torn-mix}

apart : (i at n : ℕ) → (i < at) ⊎ (at + n ≤ i) → (at ≤ i) × (i < at + n) → ⊥
apart i at n (inl before) inside = omega (arith, inside.0, before)
apart i at n (inr behind) inside = omega (arith, inside.1, behind)

in_push : (spans : List Span) (span : Span) (i : ℕ)
    → IsIn (spans ++ span ∷ []) i → IsIn spans i ⊎ ((span.at ≤ i) × (i < span.at + span.count))
in_push [] span i (inl here) = inr here
in_push [] span i (inr none) = absurd none
in_push (s ∷ spans) span i (inl here) = inl (inl here)
in_push (s ∷ spans) span i (inr there) =
    ⊎_elim (λ old. inl (inr old)) (λ new. inr new) (in_push spans span i there)

nowhere : (i : ℕ) → IsIn [] i → ⊥
nowhere i h = h

-- an image of a file of which nothing is pending
pub kept_image : (s : State) (c : List ℕ) → s.spans ≡ [] → IsSound s → IsImage s c → c ≡ s.seen
kept_image s c none h image = ext_get_or 0 c s.seen same_size (λ i lt. image.same i lt (settled i lt))
  where
    size : length s.synced ≡ length s.seen
    size = ap length (h.settled none)

    same_size : length c ≡ length s.seen
    same_size = omega (arith, size, image.no_shorter, image.no_longer)

    settled : (i : ℕ) → i < length c → (length s.synced ≤ i) ⊎ IsIn s.spans i → ⊥
    settled i lt (inl past) = omega (arith, lt, past, size, same_size)
    settled i lt (inr inside) = nowhere i (subst (λ (l : List Span). IsIn l i) none inside)

-- what an image was before a write
abbrev pub before_write : ℕ → List ℕ → State → List ℕ → List ℕ
before_write at bytes s c = mix at (length bytes) s.seen c

-- an image after a write, and the one before it
pub wrote_image : (at : ℕ) (bytes : List ℕ) (s : State) (c : List ℕ)
    → at ≤ length s.seen → IsSound s → IsImage (wrote at bytes s) c
    → IsImage s (mix at (length bytes) s.seen c) × Torn at (length bytes) (mix at (length bytes) s.seen c) c
wrote_image at bytes s c le h image = (before, torn-mix at n s.seen c le few)
  where
    n : ℕ
    n = length bytes

    few : length c ≤ max (length s.seen) (at + n)
    few = omega (arith, image.no_longer, length-written at bytes s.seen le)

    size : length (mix at n s.seen c) ≡ min (length s.seen) (length c)
    size = length-mix at n s.seen c le few

    -- a place outside of the range that isn't pending before the write isn't pending after it
    settled : (i : ℕ) → (i < at) ⊎ (at + n ≤ i) → (IsPending s i → ⊥) → IsPending (wrote at bytes s) i → ⊥
    settled i outside out (inl past) = out (inl past)
    settled i outside out (inr inside) = ⊎_elim (λ old. out (inr old)) (apart i at n outside) (in_push s.spans _ i inside)

    same : (i : ℕ) → i < length (mix at n s.seen c) → (IsPending s i → ⊥)
        → get_or (mix at n s.seen c) i 0 ≡ get_or s.seen i 0
    same i lt out = ⊎_elim (λ here. here.2) there (get-mix at n s.seen c i lt)
      where
        there : ((i < at) ⊎ (at + n ≤ i)) × (get_or (mix at n s.seen c) i 0 ≡ get_or c i 0)
            → get_or (mix at n s.seen c) i 0 ≡ get_or s.seen i 0
        there outside =
            outside.1
            ∙ image.same i (omega (arith, lt, size)) (settled i outside.0 out)
            ∙ untouched at bytes s.seen i (omega (arith, lt, size)) (apart i at n outside.0)

    before : IsImage s (mix at n s.seen c)
    before = record {
      no_shorter = omega (arith, size, h.longer, image.no_shorter);
      no_longer = omega (arith, size);
      same = same;
    }

-- a write takes no image away
pub wrote_more : (at : ℕ) (bytes : List ℕ) (s : State) (c : List ℕ) → at ≤ length s.seen → IsImage s c → IsImage (wrote at bytes s) c
wrote_more at bytes s c le image = record {
  no_shorter = image.no_shorter;
  no_longer = omega (arith, image.no_longer, length-written at bytes s.seen le);
  same = λ i lt out.
      image.same i lt (⊎_elim (λ past. out (inl past)) (λ old. out (inr (in_pushed s.spans _ i (inl old)))))
      ∙ sym (untouched at bytes s.seen i (omega (arith, lt, image.no_longer)) (λ inside. out (inr (in_pushed s.spans _ i (inr inside)))));
}

-- a sync leaves fewer images
pub kept_fewer : (s : State) (c : List ℕ) → IsSound s → IsImage (kept s) c → IsImage s c
kept_fewer s c h image = record {
  no_shorter = omega (arith, h.longer, image.no_shorter);
  no_longer = image.no_longer;
  same = λ i lt out. image.same i lt (⊎_elim (λ past. omega (arith, past, lt, image.no_longer)) (nowhere i));
}

-- a cut leaves one image
pub cut_only_one : (n f : ℕ) (s : State) (c : List ℕ) → IsImage (cut_by n f s) c → c ≡ (cut_by n f s).seen
cut_only_one zero f s c image = kept_image (kept s) c refl (kept_sound s) image
cut_only_one (suc zero) f s c image = kept_image (dropped s) c refl (dropped_sound s) image
cut_only_one (suc (suc n)) f s c image = kept_image (mixed (n + 2) f s) c refl (cut_sound (suc (suc n)) f s) image

pub cut_fewer_one : (n f : ℕ) (s : State) (c : List ℕ) → IsSound s → IsImage (cut_by n f s) c → IsImage s c
cut_fewer_one n f s c h image = subst (IsImage s) (sym (cut_only_one n f s c image)) (cut_image n f s h)

-- whether a file waits for a sync
pub waits_one : (s : State) → waits s ≤ 1
waits_one s = by_spans s.spans
  where
    by_spans : (spans : List Span) → waits_in spans ≤ 1
    by_spans [] = omega arith
    by_spans (span ∷ spans) = omega arith

pub cut_waits : (n f : ℕ) (s : State) → waits (cut_by n f s) ≡ 0
cut_waits zero f s = refl
cut_waits (suc zero) f s = refl
cut_waits (suc (suc n)) f s = refl

no_spans : (spans : List Span) → waits_in spans ≡ 0 → spans ≡ []
no_spans [] none = refl
no_spans (span ∷ spans) none = absurd (omega (arith, none))

-- where a file doesn't wait for a sync, a sync and a cut leave it as it is
pub kept_quiet : (s : State) → IsSound s → waits s ≡ 0 → kept s ≡ s
kept_quiet s h none =
    let clear = no_spans s.spans none in
    λ i. record { start = s.start; seen = s.seen; synced = sym (h.settled clear) i; spans = sym clear i }

dropped_quiet : (s : State) → IsSound s → waits s ≡ 0 → dropped s ≡ s
dropped_quiet s h none =
    let clear = no_spans s.spans none in
    λ i. record { start = s.start; seen = h.settled clear i; synced = s.synced; spans = sym clear i }

unmixed : (choice file : ℕ) (synced : List ℕ) (k : ℕ) (bytes : List ℕ)
    → k + length bytes ≤ length synced → mixed_from choice file synced [] k bytes ≡ bytes
unmixed choice file synced k [] le = refl
unmixed choice file synced k (byte ∷ bytes) le =
    ap (λ t. cond t (mixed_byte choice file synced byte k) byte ∷ mixed_from choice file synced [] (k + 1) bytes)
    inside
    ∙ ap (λ (l : List ℕ). byte ∷ l) (unmixed choice file synced (k + 1) bytes (omega (arith, le)))
  where
    inside : waits_at synced [] k ≡ false
    inside = grind (arith, nat_tests)

pub mixed_quiet : (choice file : ℕ) (s : State) → IsSound s → waits s ≡ 0 → mixed choice file s ≡ s
mixed_quiet choice file s h none =
    λ i. record { start = s.start; seen = same i; synced = (same ∙ sym (h.settled clear)) i; spans = sym clear i }
  where
    clear : s.spans ≡ []
    clear = no_spans s.spans none

    same : mixed_from choice file s.synced s.spans 0 s.seen ≡ s.seen
    same =
        ap (λ (l : List Span). mixed_from choice file s.synced l 0 s.seen) clear
        ∙ unmixed choice file s.synced 0 s.seen (omega (arith, ap length (h.settled clear)))

pub cut_quiet : (n f : ℕ) (s : State) → IsSound s → waits s ≡ 0 → cut_by n f s ≡ s
cut_quiet zero f s h none = kept_quiet s h none
cut_quiet (suc zero) f s h none = dropped_quiet s h none
cut_quiet (suc (suc n)) f s h none = mixed_quiet (n + 2) f s h none
