-- What a call takes back, among its deeds.
use Rattle.std.proofs.Common.{◌≡◌, ℕ, true, false, List, [], ◌∷◌, ◌++◌, sym, ◌∙◌}
use Rattle.std.specs.List.{AllByRecursion}
use Rattle.dali_lists.proofs.Members.{all_append}
use Rattle.dali_transcripts.specs.Moves.{Receipt}
use Rattle.dali_transcripts.specs.Causes.{IsNoOperation, is_taking_back, StaysBack}

-- nothing was taken back
pub none_stays : (t : ℕ) (xs : List Receipt) → AllByRecursion (λ x. is_taking_back t x ≡ false) xs → StaysBack t xs
none_stays t [] h = tt
none_stays t (x ∷ xs) h = ((λ yes. let both : true ≡ false = sym yes ∙ h.0 in absurd (cc)), none_stays t xs h.1)

-- no operation was made
pub idle_stays : (t : ℕ) (xs : List Receipt) → AllByRecursion IsNoOperation xs → StaysBack t xs
idle_stays t [] h = tt
idle_stays t (x ∷ xs) h = ((λ yes. h.1), idle_stays t xs h.1)

-- none was made since
pub stays_then : (t : ℕ) (xs ys : List Receipt) → StaysBack t xs → AllByRecursion IsNoOperation ys → StaysBack t (xs ++ ys)
stays_then t [] ys h idle = idle_stays t ys idle
stays_then t (x ∷ xs) ys h idle = ((λ yes. all_append IsNoOperation xs ys (h.0 yes) idle), stays_then t xs ys h.1 idle)
