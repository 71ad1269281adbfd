-- How reading to the end and writing all go on.
use Rattle.std.proofs.Common.{◌≡◌, ℕ, ◌+◌, ◌≤◌, ◌<◌, List, [], ◌++◌, length, take, drop, Option, Some, None, refl, sym, ◌∙◌, ap, arith, append_assoc, length-append, take-append-drop, subst}
use Rattle.std.proofs.lemmas.List.{append-nil, append_cancel_right, take_at, drop_at, length-take-le, drop_all}
use Rattle.dali_streams.specs.Streams.{ReadsFrom, WritesTo, ReadAll, ReadTooMany, Appends, AppendsSome}

-- these bytes were read, and the rest is left
abbrev pub SoFar : Option (List ℕ) → List ℕ → Option (List ℕ) → Type 0
SoFar (Some all) bytes (Some rest) = all ≡ bytes ++ rest
SoFar (Some all) bytes None = ⊥
SoFar None bytes rest = rest ≡ None

pub begins : (left : Option (List ℕ)) → SoFar left [] left
begins (Some all) = refl
begins None = refl

-- front is what stands at the front of the buffer
pub reads : (first before after : Option (List ℕ)) (bytes buffer filled more : List ℕ) (n : ℕ) → n ≤ length buffer → more ≡ take n filled
    → SoFar first bytes before → ReadsFrom before n buffer filled after → SoFar first (bytes ++ more) after
reads None None after bytes buffer filled more n few is so_far step = step
reads None (Some rest) after bytes buffer filled more n few is so_far step = absurd cc
reads (Some all) None after bytes buffer filled more n few is so_far step = absurd so_far
reads (Some all) (Some rest) None bytes buffer filled more n few is so_far step = absurd step
reads (Some all) (Some rest) (Some left) bytes buffer filled more n few is so_far step =
    let front : more ≡ take n rest = is ∙ ap (λ (l : List ℕ). take n l) step.buffer ∙ take_at (take n rest) (drop n buffer) n (length-take-le n rest step.inside) in
    so_far ∙ ap (λ (l : List ℕ). bytes ++ l) (sym (take-append-drop n rest)) ∙ sym (append_assoc bytes (take n rest) (drop n rest))
    ∙ ap (λ (l : List ℕ). (bytes ++ l) ++ drop n rest) (sym front) ∙ ap (λ (l : List ℕ). (bytes ++ more) ++ l) (sym step.left)

pub ended : (first before after : Option (List ℕ)) (bytes buffer filled : List ℕ) (n : ℕ) → n ≡ 0 → 0 < length buffer → SoFar first bytes before → ReadsFrom before n buffer filled after → ReadAll first bytes after
ended None None after bytes buffer filled n none room so_far step = step
ended None (Some rest) after bytes buffer filled n none room so_far step = absurd cc
ended (Some all) None after bytes buffer filled n none room so_far step = absurd so_far
ended (Some all) (Some rest) None bytes buffer filled n none room so_far step = absurd step
ended (Some all) (Some rest) (Some left) bytes buffer filled n none room so_far step =
    let nothing : rest ≡ [] = step.ended none room in
    (sym (append-nil bytes) ∙ ap (λ (l : List ℕ). bytes ++ l) (sym nothing) ∙ sym so_far, ap Some (step.left ∙ ap (λ (l : List ℕ). drop n l) nothing ∙ drop_all {X = ℕ} n [] (omega arith)))

pub too_many : (first left : Option (List ℕ)) (bytes : List ℕ) (limit : ℕ) → length bytes ≡ limit + 1 → SoFar first bytes left → ReadTooMany first limit left
too_many None left bytes limit many so_far = so_far
too_many (Some all) None bytes limit many so_far = absurd so_far
too_many (Some all) (Some rest) bytes limit many so_far = (
  omega (arith, many, ap length so_far, length-append bytes rest),
  ap Some (sym (ap (λ (l : List ℕ). drop (limit + 1) l) so_far ∙ drop_at bytes rest (limit + 1) many)),
)

-- the rest of the bytes is to be written
abbrev pub Writes : Option (List ℕ) → List ℕ → List ℕ → Option (List ℕ) → Type 0
Writes (Some old) bytes rest (Some new) = new ++ rest ≡ old ++ bytes
Writes (Some old) bytes rest None = ⊥
Writes None bytes rest new = new ≡ None

pub writes_begin : (taken : Option (List ℕ)) (bytes : List ℕ) → Writes taken bytes bytes taken
writes_begin (Some old) bytes = refl
writes_begin None bytes = refl

pub writes_on : (first before after : Option (List ℕ)) (bytes rest : List ℕ) (n : ℕ) → Writes first bytes rest before → WritesTo before n rest after → Writes first bytes (drop n rest) after
writes_on None None after bytes rest n so_far step = step
writes_on None (Some mid) after bytes rest n so_far step = absurd cc
writes_on (Some old) None after bytes rest n so_far step = absurd so_far
writes_on (Some old) (Some mid) None bytes rest n so_far step = absurd step
writes_on (Some old) (Some mid) (Some new) bytes rest n so_far step =
    ap (λ (l : List ℕ). l ++ drop n rest) step ∙ append_assoc mid (take n rest) (drop n rest) ∙ ap (λ (l : List ℕ). mid ++ l) (take-append-drop n rest) ∙ so_far

pub writes_end : (first after : Option (List ℕ)) (bytes rest : List ℕ) → rest ≡ [] → Writes first bytes rest after → Appends first bytes after
writes_end None after bytes rest none so_far = so_far
writes_end (Some old) None bytes rest none so_far = absurd so_far
writes_end (Some old) (Some new) bytes rest none so_far = ap Some (sym (append-nil new) ∙ ap (λ (l : List ℕ). new ++ l) (sym none) ∙ so_far)

-- what is left of the bytes is left behind some of the first of them
abbrev pub IsRest : List ℕ → List ℕ → Type 0
IsRest bytes rest = (front : List ℕ) × (bytes ≡ front ++ rest)

pub rest_begins : (bytes : List ℕ) → IsRest bytes bytes
rest_begins bytes = ([], refl)

pub rest_goes_on : (bytes rest next : List ℕ) (n : ℕ) → next ≡ drop n rest → IsRest bytes rest → IsRest bytes next
rest_goes_on bytes rest next n behind is =
    subst (λ (l : List ℕ). IsRest bytes l) (sym behind)
    (is.0 ++ take n rest, is.1 ∙ ap (λ (l : List ℕ). is.0 ++ l) (sym (take-append-drop n rest)) ∙ sym (append_assoc is.0 (take n rest) (drop n rest)))

-- what was written so far is some of the first of the bytes
pub some_written : (first before after : Option (List ℕ)) (bytes rest : List ℕ) → after ≡ before → IsRest bytes rest → Writes first bytes rest before → AppendsSome first bytes after
some_written None before after bytes rest same is so_far = same ∙ so_far
some_written (Some old) before None bytes rest same is so_far = subst (λ (o : Option (List ℕ)). Writes (Some old) bytes rest o) (sym same) so_far
some_written (Some old) before (Some new) bytes rest same is so_far =
    let here : new ++ rest ≡ old ++ bytes = subst (λ (o : Option (List ℕ)). Writes (Some old) bytes rest o) (sym same) so_far in
    record {
      count = length is.0;
      inside = omega (arith, ap length is.1, length-append is.0 rest);
      added =
          append_cancel_right new (old ++ take (length is.0) bytes) rest
          (here ∙ ap (λ (l : List ℕ). old ++ l) is.1 ∙ sym (append_assoc old is.0 rest) ∙ ap (λ (l : List ℕ). (old ++ l) ++ rest) (sym (ap (λ (l : List ℕ). take (length is.0) l) is.1 ∙ take_at is.0 rest (length is.0) refl)));
    }
