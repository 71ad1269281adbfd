-- What reads and writes do, where the bytes are told.
--     ReadsFrom before n old new after     n bytes went from a source to the front of a buffer, and none only at the end
--     WritesTo before n bytes after        the first n of these bytes were added to a sink
--     ReadAll before bytes after           a source was read to its end, and gave these bytes
--     ReadTooMany before limit after       limit + 1 bytes were read
--     Appends before bytes after           all these bytes were added to a sink
--     AppendsSome before bytes after       some of the first of these bytes were added to a sink
use Rattle.std.specs.Prelude.{◌<◌, ◌≡◌, ℕ, ◌+◌, ◌≤◌, List, [], ◌++◌, length, take, drop, Option, Some, None}

pub record TakesOf (bytes : List ℕ) (n : ℕ) (before after rest : List ℕ) : Type 0 where
  pub inside : n ≤ length bytes
  pub buffer : after ≡ take n bytes ++ drop n before
  pub left : rest ≡ drop n bytes
  pub ended : n ≡ 0 → 0 < length before → bytes ≡ []

abbrev pub ReadsFrom : Option (List ℕ) → ℕ → List ℕ → List ℕ → Option (List ℕ) → Type 0
ReadsFrom (Some bytes) n before after (Some rest) = TakesOf bytes n before after rest
ReadsFrom (Some bytes) n before after None = ⊥
ReadsFrom None n before after rest = rest ≡ None

abbrev pub WritesTo : Option (List ℕ) → ℕ → List ℕ → Option (List ℕ) → Type 0
WritesTo (Some old) n bytes (Some new) = new ≡ old ++ take n bytes
WritesTo (Some old) n bytes None = ⊥
WritesTo None n bytes new = new ≡ None

abbrev pub ReadAll : Option (List ℕ) → List ℕ → Option (List ℕ) → Type 0
ReadAll (Some all) bytes rest = (bytes ≡ all) × (rest ≡ Some [])
ReadAll None bytes rest = rest ≡ None

abbrev pub ReadTooMany : Option (List ℕ) → ℕ → Option (List ℕ) → Type 0
ReadTooMany (Some all) limit rest = (limit < length all) × (rest ≡ Some (drop (limit + 1) all))
ReadTooMany None limit rest = rest ≡ None

abbrev pub Appends : Option (List ℕ) → List ℕ → Option (List ℕ) → Type 0
Appends (Some old) bytes new = new ≡ Some (old ++ bytes)
Appends None bytes new = new ≡ None

pub record TakesSome (old bytes new : List ℕ) : Type 0 where
  pub count : ℕ
  pub inside : count ≤ length bytes
  pub added : new ≡ old ++ take count bytes

abbrev pub AppendsSome : Option (List ℕ) → List ℕ → Option (List ℕ) → Type 0
AppendsSome (Some old) bytes (Some new) = TakesSome old bytes new
AppendsSome (Some old) bytes None = ⊥
AppendsSome None bytes new = new ≡ None
