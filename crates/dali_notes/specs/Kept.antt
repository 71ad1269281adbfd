-- The rule of the one word, and what each step tells. `may` says which entry may be added behind which history. A hand is a number with what its holder has seen, and a seat's
-- view is a list of hands.
use Rattle.std.specs.Prelude.{◌≡◌, ℕ, zero, suc, ◌+◌, ◌%◌, ◌<◌, ◌==◌, true, List, [], ◌∷◌, ◌++◌, length}
use mathlib.Core.Option.{Option, some}
use lib.ListN.{get_elem?}
use Rattle.atomic_table.specs.Table.{State, Me, Step}
use Rattle.dali_notes.specs.History.{In, one_if, below, signs, IsSeen, AllMay}

module _ {A : Type 0} where
  abbrev pub total : (A → ℕ) → List A → ℕ
  total f [] = 0
  total f (x ∷ xs) = f x + total f xs

module _ {E : Type 0} where
  -- how many hands have this number
  abbrev pub hands_of : ℕ → List (ℕ × List (List ℕ × E)) → ℕ
  hands_of n [] = 0
  hands_of n (x ∷ xs) = one_if (x.0 == n) + hands_of n xs

  -- what each hand has seen begins the history, which has no entry of its number behind
  abbrev pub Fits : List (List ℕ × E) → List (ℕ × List (List ℕ × E)) → Type 0
  Fits log [] = Unit {0}
  Fits log (x ∷ xs) = IsSeen log x.0 x.1 × Fits log xs

  -- m numbers from k on, whose holders have seen nothing
  abbrev pub fresh_from : ℕ → ℕ → List (ℕ × List (List ℕ × E))
  fresh_from k zero = []
  fresh_from k (suc m) = (k, []) ∷ fresh_from (suc k) m

  abbrev pub first_of_hands : List (ℕ × List (List ℕ × E)) → List (ℕ × List (List ℕ × E))
  first_of_hands [] = []
  first_of_hands (x ∷ xs) = x ∷ []

  abbrev pub others_of_hands : List (ℕ × List (List ℕ × E)) → List (ℕ × List (List ℕ × E))
  others_of_hands [] = []
  others_of_hands (x ∷ xs) = xs

  abbrev pub signers : List (ℕ × List (List ℕ × E)) → List ℕ
  signers [] = []
  signers (x ∷ xs) = x.0 ∷ signers xs

  abbrev pub seen_of : List (ℕ × List (List ℕ × E)) → List (List ℕ × E)
  seen_of [] = []
  seen_of (x ∷ xs) = x.1

  abbrev pub with_seen : List (List ℕ × E) → List (ℕ × List (List ℕ × E)) → List (ℕ × List (List ℕ × E))
  with_seen log [] = []
  with_seen log (x ∷ xs) = (x.0, log) ∷ xs

  abbrev pub all_with : List (List ℕ × E) → List (ℕ × List (List ℕ × E)) → List (ℕ × List (List ℕ × E))
  all_with log [] = []
  all_with log (x ∷ xs) = (x.0, log) ∷ all_with log xs

module _ {E : Type 0} (may : List (List ℕ × E) → List ℕ × E → Type 0) where
  -- there are `count` hands, one for each number below it
  pub record IsKept (count : ℕ) (s : State Unit (List (ℕ × List (List ℕ × E)))) (log : List (List ℕ × E)) : Type 0 where
    pub word : s.words ≡ (length log % 18446744073709551616) ∷ []
    pub lawful : AllMay may log
    pub numbered : (x : List ℕ × E) → In log x → (n : ℕ) → signs n x.0 ≡ true → n < count
    pub fits : (seat : ℕ) (v : List (ℕ × List (List ℕ × E))) → get_elem? s.views seat ≡ some v → Fits log v
    pub all : total length s.views ≡ count
    pub each : (n : ℕ) → total (hands_of n) s.views ≡ below n count

  abbrev pub Kept : ℕ → State Unit (List (ℕ × List (List ℕ × E))) → Type 0
  Kept count s = (log : List (List ℕ × E)) × IsKept count s log

  -- the first hand has seen the whole history, into which all hands fit
  abbrev pub Looks : Step Unit → Me Unit (List (ℕ × List (List ℕ × E))) → ℕ → Me Unit (List (ℕ × List (List ℕ × E))) → Type 0
  Looks s v n w = (log : List (List ℕ × E)) × Fits log v.0 × AllMay may log × (w ≡ (with_seen log v.0, v.1))

  -- who has all hands learns that each number has one, and that each entry is of one
  abbrev pub Counts : ℕ → Step Unit → Me Unit (List (ℕ × List (List ℕ × E))) → ℕ → Me Unit (List (ℕ × List (List ℕ × E))) → Type 0
  Counts count s v n w = (log : List (List ℕ × E)) × Fits log v.0 × AllMay may log × ((x : List ℕ × E) → In log x → (n : ℕ) → signs n x.0 ≡ true → n < count)
      × (length v.0 ≡ count → (k : ℕ) → hands_of k v.0 ≡ below k count)

  -- the hands add an entry, signed by all of them, and have seen the whole history
  abbrev pub Enters : Option E → Step Unit → Me Unit (List (ℕ × List (List ℕ × E))) → ℕ → Me Unit (List (ℕ × List (List ℕ × E))) → Type 0
  Enters o s v n w = (e : E) → o ≡ some e → (now : List (List ℕ × E)) × Fits now v.0 × AllMay may (now ++ (signers v.0, e) ∷ []) × (w ≡ (all_with (now ++ (signers v.0, e) ∷ []) v.0, v.1))
