-- A vector to which a chain of references was added.
use Rattle.std.proofs.Common.{◌≡◌, List, map, Option, Result, OnOk}
use Rattle.std.specs.Prelude.{MatchResult}
use Rattle.std.specs.Iterator.{Drains, Yields}
use Rattle.std.proofs.lemmas.Iterator.{YieldsList}
use Rattle.std.proofs.lemmas.Iterator.Adapters.{fact_from_extend}
use Rattle.std.proofs.lemmas.Iterator.Consumers.{YieldsList-at}

-- `items_from_extend` for a chain whose items are read by v
pub map_from_extend : {T A C E Q : Type 0} {steps : T → Option A → T → Type 0} {v : A → C} {all : List C} {P : List A → Type 0} {s : T} (r : Result (Unit {0}) E) → ((it : T) × (xs : List A) × (it ≡ s) × P xs × MatchResult r (λ _. Drains steps it xs) (λ _. (t : T) × Yields steps it xs t)) → YieldsList steps v s all → ((xs : List A) → map v xs ≡ all → P xs → Q) → OnOk r Q
map_from_extend {v = v} r ran road says = fact_from_extend v r ran (λ it b. YieldsList-at b road) says
