-- A header that was read.
use Rattle.std.proofs.Common.{◌≡◌, ℕ, ◌<◌, ◌^◌, Bool, true, false, List, [], ◌∷◌, ◌++◌, length, take, drop, refl, ap, sym, ◌∙◌, inl, inr, arith, take-append-drop}
use Rattle.std.specs.Prelude.{◌==◌}
use Rattle.std.specs.Cmp.{unsigned_Decides}
use Rattle.std.specs.Cmp.Lexicographic.{pointwise}
use Rattle.std.proofs.lemmas.List.{append-nil, drop_all}
use Rattle.std.proofs.lemmas.Slice.Eq.{starts_is}
use Rattle.dali_geometry.specs.Sizes.{Sizes, AreInRange}
use Rattle.dali_bytes.specs.Fields.{number32, number64}
use Rattle.dali_record.specs.Spelling.{fields}
use Rattle.dali_crash.specs.Disks.Disks.{mark}
use Rattle.dali_image.specs.Headers.{NoHeading}

pub not_marked : (bytes : List ℕ) (r : Bool) → r ≡ pointwise (λ a b. a == b) mark (take 8 bytes) → r ≡ false → NoHeading bytes 0
not_marked bytes r is no_mark = inl (refl, inr (λ e. let seen : r ≡ true = (starts_is unsigned_Decides bytes mark r is).1 (drop 8 bytes) (sym (take-append-drop 8 bytes) ∙ ap (λ l. l ++ drop 8 bytes) e) in absurd (cc)))

pub marked : (bytes : List ℕ) (r : Bool) → r ≡ pointwise (λ a b. a == b) mark (take 8 bytes) → r ≡ true → bytes ≡ mark ++ drop 8 bytes
marked bytes r is so = (starts_is unsigned_Decides bytes mark r is).0 so

pub no_sizes : (bytes : List ℕ) (i h : ℕ) → length bytes ≡ 64 → bytes ≡ mark ++ drop 8 bytes → drop 8 bytes ≡ number32 i ++ drop 12 bytes → drop 12 bytes ≡ number32 h ++ drop 16 bytes → i < 2 ^ 32 → h < 2 ^ 32
    → ((let s : Sizes = record { index = i; heap = h } in AreInRange s) → ⊥) → NoHeading bytes 8
no_sizes bytes i h size e0 e1 e2 li lh out = inr (refl, omega (arith, size), (record { index = i; heap = h }, drop 16 bytes, e0 ∙ ap (λ l. mark ++ l) (e1 ∙ ap (λ l. number32 i ++ l) e2), li, lh, out))

pub spelled : (bytes : List ℕ) (i h n p f w x t : ℕ) → length bytes ≡ 64 → bytes ≡ mark ++ drop 8 bytes → drop 8 bytes ≡ number32 i ++ drop 12 bytes → drop 12 bytes ≡ number32 h ++ drop 16 bytes
    → drop 16 bytes ≡ number64 n ++ drop 24 bytes → drop 24 bytes ≡ number64 p ++ drop 32 bytes → drop 32 bytes ≡ number64 f ++ drop 40 bytes → drop 40 bytes ≡ number64 w ++ drop 48 bytes
    → drop 48 bytes ≡ number64 x ++ drop 56 bytes → drop 56 bytes ≡ number64 t ++ drop 64 bytes
    → bytes ≡ fields (mark ∷ number32 i ∷ number32 h ∷ number64 n ∷ number64 p ∷ number64 f ∷ number64 w ∷ number64 x ∷ number64 t ∷ [])
spelled bytes i h n p f w x t size e0 e1 e2 e3 e4 e5 e6 e7 e8 =
    let none : drop 64 bytes ≡ [] = drop_all 64 bytes (omega (arith, size)) in
    e0 ∙ ap (λ l. mark ++ l) (e1 ∙ ap (λ l. number32 i ++ l) (e2 ∙ ap (λ l. number32 h ++ l) (e3 ∙ ap (λ l. number64 n ++ l) (e4 ∙ ap (λ l. number64 p ++ l) (e5 ∙ ap (λ l. number64 f ++ l) (e6 ∙ ap (λ l. number64 w ++ l) (e7 ∙ ap (λ l. number64 x ++ l) (e8 ∙ ap (λ l. number64 t ++ l) none ∙ append-nil (number64 t)))))))))
