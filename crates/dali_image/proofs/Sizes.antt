-- How many bytes the words of regions have.
use Rattle.std.proofs.Common.{◌≡◌, ℕ, suc, ◌*◌, ◌<◌, List, [], ◌∷◌, length, get_or, refl, ap, ◌∙◌, arith, length-append}
use Rattle.std.specs.Prelude.{flat_map}
use Rattle.std.specs.List.{AllByRecursion}
use Rattle.std.proofs.lemmas.List.Concat.{flat_map-cons}
use Rattle.dali_record.specs.Spelling.{words_bytes}
use Rattle.dali_record.proofs.Lengths.{words_are_8}

pub regions_are_512 : (rs : List (List ℕ)) → AllByRecursion (λ ws. length ws ≡ 64) rs → length (flat_map words_bytes rs) ≡ 512 * length rs
regions_are_512 [] all = refl
regions_are_512 (ws ∷ rs) all = ap length (flat_map-cons words_bytes ws rs) ∙ omega (arith, length-append (words_bytes ws) (flat_map words_bytes rs), words_are_8 ws, all.0, regions_are_512 rs all.1)

pub sized : (rs : List (List ℕ)) → ((i : ℕ) → i < length rs → length (get_or rs i []) ≡ 64) → AllByRecursion (λ ws. length ws ≡ 64) rs
sized [] each = tt
sized (ws ∷ rs) each = (each 0 (omega arith), sized rs (λ i lt. each (suc i) (omega (arith, lt))))
