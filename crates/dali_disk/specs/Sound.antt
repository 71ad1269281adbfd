-- What is so of a file at each moment, whatever was called before.
-- Words: IsSound. Laws: what a write leaves of a file's bytes, and that each call keeps a file sound.
use Rattle.std.specs.Prelude.{◌<◌, ◌≡◌, ◌≢◌, ◌⊎◌, ℕ, zero, suc, ◌+◌, ◌≤◌, max}
use Rattle.std.specs.Prelude.{List, [], ◌∷◌, ◌++◌, length, take, drop, refl}
use Rattle.std.proofs.Common.{get_or, sym, ◌∙◌, arith, inl, inr, ⊎_elim, rules}
use Rattle.std.proofs.Common.{length-append, length-take, length-drop}
use Rattle.std.proofs.lemmas.List.{places}
use Rattle.dali_disk.specs.declared.disk.Span.{Span}
use Rattle.dali_disk.specs.State.{State, written, wrote, kept, dropped, IsIn, cut_by}

-- what the last sync kept is no longer than what reads give, and the same where nothing was written since
pub record IsSound (s : State) : Type 0 where
  pub longer : length s.synced ≤ length s.seen
  pub settled : s.spans ≡ [] → s.synced ≡ s.seen
  pub agree : (i : ℕ) → i < length s.synced → (IsIn s.spans i → ⊥) → get_or s.synced i 0 ≡ get_or s.seen i 0

-- the bytes that a write leaves
parts-written : (at : ℕ) (bytes file : List ℕ)
    → length (written at bytes file) ≡ length (take at file) + length bytes + length (drop (at + length bytes) file)
parts-written at bytes file =
    omega (arith, length-append (take at file ++ bytes) (drop (at + length bytes) file), length-append (take at file) bytes)

pub length-written : (at : ℕ) (bytes file : List ℕ) → at ≤ length file
    → length (written at bytes file) ≡ max (length file) (at + length bytes)
length-written at bytes file le =
    omega (arith, parts-written at bytes file, length-take at file, length-drop (at + length bytes) file)

longer-written : (at : ℕ) (bytes file : List ℕ) → length file ≤ length (written at bytes file)
longer-written at bytes file =
    omega (arith, parts-written at bytes file, length-take at file, length-drop (at + length bytes) file)

get-written-before : (at : ℕ) (bytes file : List ℕ) (i : ℕ) → i < at → i < length file
    → get_or (written at bytes file) i 0 ≡ get_or file i 0
get-written-before at bytes file i lt inside = search (rules, places)

get-written-behind : (at : ℕ) (bytes file : List ℕ) (i : ℕ)
    → at ≤ length file → at + length bytes ≤ i → i < length file
    → get_or (written at bytes file) i 0 ≡ get_or file i 0
get-written-behind at bytes file i le behind inside = search (rules, places)

pub untouched : (at : ℕ) (bytes file : List ℕ) (i : ℕ) → i < length file → ((at ≤ i) × (i < at + length bytes) → ⊥)
    → get_or (written at bytes file) i 0 ≡ get_or file i 0
untouched at bytes file i inside out =
    ⊎_elim (λ before. get-written-before at bytes file i before inside) from_there (lt_or_le i at)
  where
    lt_or_le : (m n : ℕ) → (m < n) ⊎ (n ≤ m)
    lt_or_le m n = grind arith

    from_there : at ≤ i → get_or (written at bytes file) i 0 ≡ get_or file i 0
    from_there from =
        ⊎_elim (λ within. absurd (out (from, within)))
        (λ behind. get-written-behind at bytes file i (omega (arith, from, inside)) behind inside)
        (lt_or_le i (at + length bytes))

-- the ranges after a write
pub in_pushed : (spans : List Span) (span : Span) (i : ℕ)
    → IsIn spans i ⊎ ((span.at ≤ i) × (i < span.at + span.count)) → IsIn (spans ++ span ∷ []) i
in_pushed [] span i (inl none) = absurd none
in_pushed [] span i (inr new) = inl new
in_pushed (s ∷ spans) span i (inl (inl here)) = inl here
in_pushed (s ∷ spans) span i (inl (inr there)) = inr (in_pushed spans span i (inl there))
in_pushed (s ∷ spans) span i (inr new) = inr (in_pushed spans span i (inr new))

some_push : {X : Type 0} (xs : List X) (x : X) → xs ++ x ∷ [] ≢ []
some_push [] x is = cc
some_push (y ∷ xs) x is = cc

-- one file
pub kept_sound : (s : State) → IsSound (kept s)
kept_sound s = record { longer = omega arith; settled = λ none. refl; agree = λ i lt out. refl }

pub dropped_sound : (s : State) → IsSound (dropped s)
dropped_sound s = record { longer = omega arith; settled = λ none. refl; agree = λ i lt out. refl }

pub cut_sound : (n f : ℕ) (s : State) → IsSound (cut_by n f s)
cut_sound zero f s = kept_sound s
cut_sound (suc zero) f s = dropped_sound s
cut_sound (suc (suc n)) f s = record { longer = omega arith; settled = λ none. refl; agree = λ i lt out. refl }

pub wrote_sound : (at : ℕ) (bytes : List ℕ) (s : State) → IsSound s → IsSound (wrote at bytes s)
wrote_sound at bytes s h = record {
  longer = omega (arith, h.longer, longer-written at bytes s.seen);
  settled = λ none. absurd (some_push s.spans _ none);
  agree = λ i lt out. h.agree i lt (λ old. out (in_pushed s.spans _ i (inl old)))
      ∙ sym (untouched at bytes s.seen i (omega (arith, lt, h.longer)) (λ new. out (in_pushed s.spans _ i (inr new))));
}
