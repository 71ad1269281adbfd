-- Rows that are added behind others.
use Rattle.std.proofs.Common.{◌≡◌, ℕ, suc, ◌+◌, ◌≤◌, List, [], ◌∷◌, ◌++◌, Option, Some, None, refl, ap, sym, ◌∙◌, arith}
use Rattle.std.proofs.lemmas.List.{append_assoc}
use Rattle.std.specs.Prelude.{map, filter_map}
use Rattle.std.specs.Option.{option_map, option_to_list}
use Rattle.std.proofs.lemmas.List.{map-append}
use Rattle.std.proofs.lemmas.List.Elements.{filter_map-append}
use Rattle.dali_words.specs.Words.{row_of}
use Rattle.dali_words.proofs.Rows.{row_push}
use Rattle.dali_access.specs.Index.Entries.{entries}
use Rattle.dali_listing.specs.declared.Listed.{Listed}
use Rattle.dali_listing.specs.Listing.{pair_of, pairs_of}

entries_row : row_of 0 21 ≡ entries
unfolding entries
entries_row = refl

as_pairs : (o : Option Listed) → map pair_of (option_to_list o) ≡ option_to_list (option_map pair_of o)
as_pairs None = refl
as_pairs (Some row) = refl

one : (f : ℕ → Option (ℕ × List ℕ)) (e : ℕ) (o : Option (ℕ × List ℕ)) → o ≡ f e → option_to_list o ≡ filter_map f (e ∷ [])
one f e None is = rw (sym is) refl
one f e (Some p) is = rw (sym is) refl

pub added : (f : ℕ → Option (ℕ × List ℕ)) (old rows news : List Listed) (e : ℕ) (o : Option Listed) → pairs_of rows ≡ pairs_of old ++ filter_map f (row_of 0 e) → option_map pair_of o ≡ f e → news ≡ rows ++ option_to_list o → pairs_of news ≡ pairs_of old ++ filter_map f (row_of 0 (e + 1))
added f old rows news e o so gives is =
    let up : e + 1 ≡ suc e = omega arith in
    let end : 0 + e ≡ e = omega arith in
    let last : filter_map f (row_of 0 (e + 1)) ≡ filter_map f (row_of 0 e) ++ filter_map f (e ∷ []) = ap (λ n. filter_map f (row_of 0 n)) up ∙ ap (filter_map f) (row_push 0 e) ∙ ap (λ n. filter_map f (row_of 0 e ++ n ∷ [])) end ∙ filter_map-append f (row_of 0 e) (e ∷ []) in
    ap pairs_of is ∙ map-append pair_of rows (option_to_list o) ∙ ap (λ xs. pairs_of rows ++ xs) (as_pairs o ∙ one f e (option_map pair_of o) gives) ∙ ap (λ xs. xs ++ filter_map f (e ∷ [])) so ∙ append_assoc (pairs_of old) (filter_map f (row_of 0 e)) (filter_map f (e ∷ [])) ∙ ap (λ xs. pairs_of old ++ xs) (sym last)

pub all : (f : ℕ → Option (ℕ × List ℕ)) (old rows : List Listed) (e : ℕ) → pairs_of rows ≡ pairs_of old ++ filter_map f (row_of 0 e) → e ≤ 21 → 21 ≤ e → pairs_of rows ≡ pairs_of old ++ filter_map f entries
all f old rows e so most least =
    let is : e ≡ 21 = omega (arith, most, least) in
    so ∙ ap (λ n. pairs_of old ++ filter_map f (row_of 0 n)) is ∙ ap (λ es. pairs_of old ++ filter_map f es) entries_row
