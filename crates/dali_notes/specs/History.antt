-- A history of entries, each signed by the notes that added it together, and what each note has seen of it.
--     In xs x                   x stands in the list
--     signs n ns                the note n is one of these
--     IsSeen log n seen         note n has seen this beginning of the history, and with it all entries that it signed
--     Place, Sight              what contracts see of the notes, and of a note
--     AllSaw log notes          each of these notes has seen so much of it
--     signed_by notes e         the entry e, signed by these notes
--     Added notes e new         what these notes have seen after they added e
--     AllMay may log            each entry may be added behind those before it, where `may` says which one may
--     MayAdd may notes e        so may these notes add e, whatever others add meanwhile that may be added
--     IsWhole log notes         the history that the notes leave
use Rattle.std.specs.Prelude.{◌≡◌, ℕ, zero, suc, ◌+◌, ◌<◌, ◌==◌, ◌||◌, Bool, true, false, List, [], ◌∷◌, ◌++◌, length, slice_get, take, Some}
use Rattle.atomic_table.specs.Seated.{TableId}

abbrev pub In : {X : Type 0} → List X → X → Type 0
In xs x = (i : ℕ) × (slice_get xs i ≡ Some x)

abbrev pub one_if : Bool → ℕ
one_if true = 1
one_if false = 0

abbrev pub signs : ℕ → List ℕ → Bool
signs n [] = false
signs n (m ∷ ms) = (m == n) || signs n ms

-- 1 where the first number is below the second
abbrev pub below : ℕ → ℕ → ℕ
below zero zero = 0
below zero (suc m) = 1
below (suc n) zero = 0
below (suc n) (suc m) = below n m

module _ {E : Type 0} where
  -- behind what was seen stand only entries of others
  pub record IsSeen (log : List (List ℕ × E)) (number : ℕ) (seen : List (List ℕ × E)) : Type 0 where
    pub rest : List (List ℕ × E)
    pub all : log ≡ seen ++ rest
    pub none : (x : List ℕ × E) → In rest x → signs number x.0 ≡ false

pub record Place : Type 0 where
  pub table : TableId
  pub count : ℕ

pub record Sight (E : Type 0) : Type 0 where
  pub table : TableId
  pub number : ℕ
  pub seen : List (List ℕ × E)

module _ {E : Type 0} where
  abbrev pub AllSaw : List (List ℕ × E) → List (Sight E) → Type 0
  AllSaw log [] = Unit {0}
  AllSaw log (x ∷ xs) = IsSeen log x.number x.seen × AllSaw log xs

  abbrev pub numbers : List (Sight E) → List ℕ
  numbers [] = []
  numbers (x ∷ xs) = x.number ∷ numbers xs

  abbrev pub signed_by : List (Sight E) → E → List ℕ × E
  signed_by notes e = (numbers notes, e)

  -- all that they had seen, what others added since, and then this entry
  abbrev pub Added : List (Sight E) → E → List (List ℕ × E) → Type 0
  Added notes e new = (now : List (List ℕ × E)) × AllSaw now notes × (new ≡ now ++ signed_by notes e ∷ [])

module _ {E : Type 0} (may : List (List ℕ × E) → List ℕ × E → Type 0) where
  abbrev pub AllMay : List (List ℕ × E) → Type 0
  AllMay log = (i : ℕ) (x : List ℕ × E) → slice_get log i ≡ Some x → may (take i log) x

  abbrev pub MayAdd : List (Sight E) → E → Type 0
  MayAdd notes e = (now : List (List ℕ × E)) → AllSaw now notes → AllMay now → may now (signed_by notes e)

module _ {E : Type 0} where
  -- notes of this table with the numbers from k on, which have seen nothing
  abbrev pub AreFresh : TableId → ℕ → List (Sight E) → Type 0
  AreFresh t k [] = Unit {0}
  AreFresh t k (x ∷ xs) = ((x.table ≡ t) × (x.number ≡ k) × (x.seen ≡ [])) × AreFresh t (suc k) xs

  -- notes of this table
  abbrev pub AreOf : TableId → List (Sight E) → Type 0
  AreOf t [] = Unit {0}
  AreOf t (x ∷ xs) = (x.table ≡ t) × AreOf t xs

  -- how many notes have this number
  abbrev pub notes_of : ℕ → List (Sight E) → ℕ
  notes_of n [] = 0
  notes_of n (x ∷ xs) = one_if (x.number == n) + notes_of n xs

  -- each note has seen all of its own entries, each entry is of notes, and each number of a note is that of one
  pub record IsWhole (log : List (List ℕ × E)) (notes : List (Sight E)) : Type 0 where
    pub seen : AllSaw log notes
    pub numbered : (x : List ℕ × E) → In log x → (n : ℕ) → signs n x.0 ≡ true → n < length notes
    pub each : (n : ℕ) → notes_of n notes ≡ below n (length notes)
