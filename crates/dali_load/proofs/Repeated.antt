-- A line that is said so many times.
use Rattle.std.proofs.Common.{◌≡◌, ℕ, suc, ◌+◌, List, [], ◌∷◌, ◌++◌, sym, ◌∙◌, ap, append_assoc, append-nil, arith}
use Rattle.std.specs.Prelude.{codes}
use Rattle.std.proofs.lemmas.Grind.{flat_map-append}
use Rattle.dali_access.specs.Index.Records.{below}
use Rattle.dali_load.specs.Answers.{inserted}

pub inserted_more : (n : ℕ) (front text : List ℕ) → text ≡ front ++ inserted n → text ++ codes "1 insert ok\n" ≡ front ++ inserted (n + 1)
inserted_more n front text is =
    let line : List ℕ = codes "1 insert ok\n" in
    let next : suc n ≡ n + 1 = omega arith in
    ap (λ t. t ++ line) is
    ∙ append_assoc front (inserted n) line
    ∙ ap (λ l. front ++ (inserted n ++ l)) (sym (append-nil line))
    ∙ ap (λ t. front ++ t) (sym (flat_map-append (λ (i : ℕ). codes "1 insert ok\n") (below n) (n ∷ [])))
    ∙ ap (λ k. front ++ inserted k) next
