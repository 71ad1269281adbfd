-- What stood before is the front of the text; texts one behind the other.
use Rattle.std.proofs.Common.{◌≡◌, ℕ, List, [], ◌∷◌, ◌++◌, arith}
use Rattle.std.specs.Fmt.{decimal}
use Rattle.std.proofs.lemmas.Grind.{common_steps}
use Rattle.dali_report.specs.Texts.{IsFront}

within : (old text new : List ℕ) → IsFront (old ++ text) new → IsFront old new
within [] text new front = grind arith
within (byte ∷ old) text [] front = absurd cc
within (byte ∷ old) text (first ∷ new) front =
    let rest : IsFront (old ++ text) new = cc in
    let ih = within old text new rest in
    cc

-- where something was added first
pub front_of : (old text mid new : List ℕ) → mid ≡ old ++ text → IsFront mid new → IsFront old new
front_of old text mid new added front = within old text new (rw added at front)

-- a text, another one behind it, and a number
pub three : (old name text named all : List ℕ) (number region : ℕ) → named ≡ old ++ (name ++ text) → all ≡ named ++ decimal number → number ≡ region → all ≡ old ++ (name ++ text ++ decimal region)
three old name text named all number region first second same = grind (arith, common_steps)
