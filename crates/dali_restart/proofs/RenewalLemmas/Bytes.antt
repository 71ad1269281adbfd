-- Bytes that are written one behind the other.
use Rattle.std.proofs.Common.{◌≡◌, ℕ, zero, suc, ◌+◌, ◌-◌, ◌*◌, ◌≤◌, List, [], ◌∷◌, ◌++◌, length, take, drop, Option, Some, None, IfSome, refl, ap, sym, subst, ◌∙◌, arith, append_assoc, length-append}
use Rattle.std.specs.Prelude.{flat_map, min}
use Rattle.std.specs.List.{AllByRecursion}
use Rattle.std.proofs.lemmas.List.{take_at, drop_at, drop-drop, length-take-le, append-nil, take-append-drop, take_min}
use Rattle.std.proofs.lemmas.List.Concat.{flat_map-append}
use Rattle.std.proofs.Math.Seq.{take-add}
use Rattle.dali_record.specs.Spelling.{words_bytes}
use Rattle.dali_store.specs.declared.store.FileName.{FileName}
use Rattle.dali_store.specs.Store.{Files, file_of, Holds, HoldsIn}
use Rattle.dali_crash.proofs.DisksLemmas.Ordered.{reaches}
use Rattle.dali_image.specs.Headers.{heading}
use Rattle.dali_image.specs.declared.header.Header.{Header}
use Rattle.dali_image.proofs.OneHeader.{heading_is_64}
pub use Rattle.dali_image.proofs.Sizes.{regions_are_512, sized}

-- nothing was written
holds_none : (p : ℕ) (xs : List ℕ) → Holds xs p [] xs
holds_none p xs = sym (ap (λ l. l ++ drop (p + 0) xs) (append-nil (take p xs)) ∙ (ap (λ k. take p xs ++ drop k xs) (let e : p + 0 ≡ p = omega arith in e) ∙ take-append-drop p xs))

-- some bytes and then others
holds_then : (p : ℕ) (old mid new us bs : List ℕ) → p ≤ length old → Holds old p us mid → Holds mid (p + length us) bs new → Holds old p (us ++ bs) new
holds_then p old mid new us bs within one two =
    two
    ∙ (ap (λ l. (l ++ bs) ++ drop (p + length us + length bs) mid) front
    ∙ (ap (λ l. ((take p old ++ us) ++ bs) ++ l) back
    ∙ ap (λ l. l ++ drop (p + length (us ++ bs)) old) (append_assoc (take p old) us bs)))
  where
    size : length (take p old ++ us) ≡ p + length us
    size = omega (arith, length-append (take p old) us, length-take-le p old within)

    front : take (p + length us) mid ≡ take p old ++ us
    front = ap (take (p + length us)) one ∙ take_at (take p old ++ us) (drop (p + length us) old) (p + length us) size

    behind : drop (p + length us) mid ≡ drop (p + length us) old
    behind = ap (drop (p + length us)) one ∙ drop_at (take p old ++ us) (drop (p + length us) old) (p + length us) size

    back : drop (p + length us + length bs) mid ≡ drop (p + length (us ++ bs)) old
    back =
        sym (drop-drop (length bs) (p + length us) mid)
        ∙ (ap (drop (length bs)) behind
        ∙ (drop-drop (length bs) (p + length us) old
        ∙ ap (λ (k : ℕ). drop k old) (let e : p + length us + length bs ≡ p + length (us ++ bs) = omega (arith, length-append us bs) in e)))

-- ---- the same of one file among four
pub held_none : (f : FileName) (p : ℕ) (t : Option Files) → HoldsIn f p [] t t
held_none f p None = refl
held_none f p (Some fs) = (holds_none p (file_of f fs), λ g other. refl)

pub held_then :
    (f : FileName) (p q : ℕ) (us bs cs : List ℕ) (t u v : Option Files) → q ≡ p + length us → us ++ bs ≡ cs → IfSome t (λ fs. p ≤ length (file_of f fs))
    → HoldsIn f p us t u → HoldsIn f q bs u v → HoldsIn f p cs t v
held_then f p q us bs cs None None v at whole within one two = two
held_then f p q us bs cs None (Some gs) v at whole within one two = absurd cc
held_then f p q us bs cs (Some fs) None v at whole within one two = absurd one
held_then f p q us bs cs (Some fs) (Some gs) None at whole within one two = absurd two
held_then f p q us bs cs (Some fs) (Some gs) (Some hs) at whole within one two = (
  subst (λ l. Holds (file_of f fs) p l (file_of f hs)) whole (holds_then p (file_of f fs) (file_of f gs) (file_of f hs) us bs within one.0 (subst (λ k. Holds (file_of f gs) k bs (file_of f hs)) at two.0)),
  λ g other. two.1 g other ∙ one.1 g other,
)

-- the file reaches to the end of what was written
pub held_to : (f : FileName) (p q : ℕ) (bs : List ℕ) (t u : Option Files) → q ≤ p + length bs → IfSome t (λ fs. p ≤ length (file_of f fs)) → HoldsIn f p bs t u → IfSome u (λ fs. q ≤ length (file_of f fs))
held_to f p q bs None None at within holds = tt
held_to f p q bs None (Some gs) at within holds = absurd cc
held_to f p q bs (Some fs) None at within holds = tt
held_to f p q bs (Some fs) (Some gs) at within holds = omega (arith, at, reaches (file_of f fs) (file_of f gs) bs p within holds.0)

pub from_start : (f : FileName) (t : Option Files) → IfSome t (λ fs. 0 ≤ length (file_of f fs))
from_start f None = tt
from_start f (Some fs) = omega arith

-- a header's bytes at the start, and others behind them
pub held_front : (f : FileName) (h : Header) (bytes words : List ℕ) (t u v : Option Files) → bytes ≡ heading h → HoldsIn f 0 bytes t u → HoldsIn f 64 words u v → HoldsIn f 0 (heading h ++ words) t v
held_front f h bytes words t u v are one two =
    held_then f 0 64 bytes words (heading h ++ words) t u v (let size : 64 ≡ 0 + length bytes = omega (arith, ap length are, heading_is_64 h) in size) (ap (λ l. l ++ words) are) (from_start f t) one two

-- ---- the words of regions
pub all_taken : (P : List ℕ → Type 0) (n : ℕ) (rs : List (List ℕ)) → AllByRecursion P rs → AllByRecursion P (take n rs)
all_taken P zero rs all = tt
all_taken P (suc n) [] all = tt
all_taken P (suc n) (ws ∷ rs) all = (all.0, all_taken P n rs all.1)

pub taken_are_512 : (n : ℕ) (rs : List (List ℕ)) → AllByRecursion (λ ws. length ws ≡ 64) rs → n ≤ length rs → length (flat_map words_bytes (take n rs)) ≡ 512 * n
taken_are_512 n rs all le = regions_are_512 (take n rs) (all_taken (λ ws. length ws ≡ 64) n rs all) ∙ omega (arith, length-take-le n rs le)

-- the next piece
pub next_piece : (rs : List (List ℕ)) (from until : ℕ) → from ≤ until → flat_map words_bytes (take from rs) ++ flat_map words_bytes (take (until - from) (drop from rs)) ≡ flat_map words_bytes (take until rs)
next_piece rs from until le =
    sym (flat_map-append words_bytes (take from rs) (take (until - from) (drop from rs)))
    ∙ ap (flat_map words_bytes) (sym (take-add from (until - from) rs) ∙ ap (λ (k : ℕ). take k rs) (let e : from + (until - from) ≡ until = omega (arith, le) in e))

pub piece_after :
    (rs : List (List ℕ)) (n until : ℕ) → until ≡ min (n * 128 + 128) (length rs) → n * 128 ≤ length rs
    → flat_map words_bytes (take (128 * n) rs) ++ flat_map words_bytes (take (until - n * 128) (drop (n * 128) rs)) ≡ flat_map words_bytes (take (128 * (n + 1)) rs)
piece_after rs n until is within =
    ap (λ (k : ℕ). flat_map words_bytes (take k rs) ++ flat_map words_bytes (take (until - n * 128) (drop (n * 128) rs))) (let e : 128 * n ≡ n * 128 = omega arith in e)
    ∙ (next_piece rs (n * 128) until (omega (arith, is, within))
    ∙ ap (flat_map words_bytes) (ap (λ (k : ℕ). take k rs) is ∙ (take_min (n * 128 + 128) rs ∙ ap (λ (k : ℕ). take k rs) (let e : n * 128 + 128 ≡ 128 * (n + 1) = omega arith in e))))
