-- Frames.
use Rattle.std.proofs.Common.{◌≡◌, ℕ, ◌+◌, ◌-◌, ◌^◌, ◌≤◌, List, [], ◌∷◌, ◌++◌, length, take, drop, refl, sym, ◌∙◌, ap, arith, append_assoc, length-append}
use Rattle.std.proofs.lemmas.List.{take_at, drop_at}
use Rattle.dali_bytes.specs.Fields.{number32}
use Rattle.dali_bytes.proofs.Numbers.{length-number32}
use Rattle.dali_log.specs.Batch.{sized, frame_of, body_of, IsFrame}
use Rattle.dali_log.proofs.Bytes.{length-frame_of}

empty_bytes : frame_of [] ≡ 0 ∷ 0 ∷ 0 ∷ 0 ∷ 0 ∷ []
unfolding number32
empty_bytes = refl

-- the frame without records
pub empty_frame : (xs : List ℕ) → xs ≡ 0 ∷ 0 ∷ 0 ∷ 0 ∷ 0 ∷ [] → IsFrame xs
empty_frame xs e = rw e (record { whole = sym empty_bytes; room = omega arith })

-- the records of a frame
pub body_of-frame : (body : List ℕ) → body_of (frame_of body) ≡ body
body_of-frame body =
    let size : length (frame_of body) - 5 ≡ length body = omega (arith, length-frame_of body) in
    ap (λ (l : List ℕ). take (length (frame_of body) - 5) l) (ap (λ (l : List ℕ). drop 4 l) (append_assoc (number32 (length body)) body (0 ∷ [])) ∙ drop_at (number32 (length body)) (body ++ 0 ∷ []) 4 (length-number32 (length body)))
    ∙ ap (λ (n : ℕ). take n (body ++ 0 ∷ [])) size
    ∙ take_at body (0 ∷ []) (length body) refl

pub is_frame : (xs body : List ℕ) → xs ≡ frame_of body → length body ≤ 2 ^ 30 → IsFrame xs
is_frame xs body e room =
    let here : body_of xs ≡ body = ap body_of e ∙ body_of-frame body in
    record { whole = e ∙ ap frame_of (sym here); room = rw here room }

-- bytes were added behind a frame, its gate was moved behind them, and the length was written
pub settled : (body added moved : List ℕ) (size : ℕ) → moved ≡ sized body ++ added ++ 0 ∷ [] → size ≡ length body + length added → number32 size ++ drop 4 moved ≡ frame_of (body ++ added)
settled body added moved size e is =
    let tail : drop 4 moved ≡ body ++ added ++ 0 ∷ [] =
    ap (λ (l : List ℕ). drop 4 l) (e ∙ append_assoc (sized body) added (0 ∷ []) ∙ append_assoc (number32 (length body)) body (added ++ 0 ∷ [])) ∙ drop_at (number32 (length body)) (body ++ (added ++ 0 ∷ [])) 4 (length-number32 (length body)) ∙ sym (append_assoc body added (0 ∷ [])) in
    let count : size ≡ length (body ++ added) = omega (arith, is, length-append body added) in
    ap (λ (l : List ℕ). number32 size ++ l) tail ∙ ap (λ (n : ℕ). number32 n ++ (body ++ added ++ 0 ∷ [])) count ∙ sym (append_assoc (number32 (length (body ++ added))) (body ++ added) (0 ∷ []))

-- bytes that were added stand in the frame
pub grown : (old slice new body added : List ℕ) (gate : ℕ) → old ≡ frame_of body → ((b a : List ℕ) → slice ≡ frame_of b ++ a → gate ≡ length b + 4 → new ≡ frame_of (b ++ a)) → slice ≡ old ++ added → gate ≡ length body + 4
    → (new ≡ frame_of (body ++ added)) × (length new ≡ length (body ++ added) + 5)
grown old slice new body added gate whole settle stood at =
    let stands : new ≡ frame_of (body ++ added) = settle body added (stood ∙ ap (λ (l : List ℕ). l ++ added) whole) at in
    (stands, ap length stands ∙ length-frame_of (body ++ added))

-- a slice of all items was written
pub written_whole : (n : ℕ) (new items : List ℕ) → n ≡ length new → take n (new ++ drop (length new) items) ≡ new
written_whole n new items e = take_at new (drop (length new) items) n (sym e)
