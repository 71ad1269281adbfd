-- The groups, one after another.
use Rattle.std.proofs.Common.{◌≡◌, ℕ, zero, suc, ◌+◌, ◌*◌, ◌≤◌, List, [], ◌∷◌, ◌++◌, flat_map, length, take, refl, sym, ◌∙◌, ap, append-nil, arith}
use Rattle.std.proofs.Math.Seq.{take-add}
use Rattle.std.proofs.lemmas.Grind.{flat_map-append}
use Rattle.std.proofs.lemmas.List.{take_all}
use Rattle.dali_access.specs.Index.Records.{below}
use Rattle.dali_listing.specs.declared.Listed.{Listed}
use Rattle.dali_load.specs.Scripts.{groups, group_at}

first_groups : (rows : List Listed) (n : ℕ) → flat_map (group_at rows) (below n) ≡ take (7 * n) rows
first_groups rows zero = refl
first_groups rows (suc n) =
    let more : 7 * n + 7 ≡ 7 * suc n = omega arith in
    flat_map-append (group_at rows) (below n) (n ∷ [])
    ∙ ap (λ front. front ++ (group_at rows n ++ [])) (first_groups rows n)
    ∙ ap (λ last. take (7 * n) rows ++ last) (append-nil (group_at rows n))
    ∙ sym (take-add (7 * n) 7 rows)
    ∙ ap (λ k. take k rows) more

enough : (n : ℕ) → n ≤ 7 * groups n
enough n = omega arith

pub together : (rows : List Listed) → flat_map (group_at rows) (below (groups (length rows))) ≡ rows
together rows = first_groups rows (groups (length rows)) ∙ take_all (7 * groups (length rows)) rows (enough (length rows))
