-- What the rules on numbers and room give of a legal log.
--     next_with x n            the next transaction's number behind the record x, where it was n before
--     UnbegunAbove             a number that wasn't given yet has no record
--     PrefixLegal              a legal log stays legal where it is cut off
--     IsSmall                  a legal log has fewer than 2^40 records, so no count of them stands still
--     AreSpelled L             each record of L can be spelled
--     IsShort                  the bytes of a legal log, with a frame for each record, stay below 2^62
--     FileIsShort              so do those of the batches of a legal log, of which each has a record
--     IsLight                  the bytes of its records alone stay below 2^40, as the rules on room bound them
use Rattle.std.specs.Prelude.{◌≡◌, ℕ, ◌+◌, ◌*◌, ◌<◌, ◌≤◌, ◌^◌, List, Some, take, length, slice_get, sum_by, flat_map}
use Rattle.dali_geometry.specs.Sizes.{Sizes}
use Rattle.dali_record.specs.declared.records.Record.{Record}
use Rattle.dali_record.specs.declared.records.Record.TheVariants.{Begin, Solo}
use Rattle.dali_record.specs.Spelling.{record_length, CanBeSpelled}
use Rattle.dali_record.specs.Files.{batch_length}
use Rattle.dali_record.specs.Legal.{Rules, rules_state, txn_state, Unbegun, IsLegalFor}

abbrev pub next_with : Record → ℕ → ℕ
next_with (Begin t) n = n + 1
next_with (Solo t p b) n = n + 1
next_with _ n = n

abbrev pub UnbegunAbove : Type 0
UnbegunAbove = (s : Sizes) (L : List Record) (g : Rules) (t : ℕ) → IsLegalFor s L → rules_state s L ≡ Some g → g.next ≤ t → txn_state s t L ≡ Some Unbegun

abbrev pub PrefixLegal : Type 0
PrefixLegal = (s : Sizes) (L : List Record) (n : ℕ) → IsLegalFor s L → IsLegalFor s (take n L)

abbrev pub IsSmall : Type 0
IsSmall = (s : Sizes) (L : List Record) → IsLegalFor s L → length L < 2 ^ 40

abbrev pub AreSpelled : List Record → Type 0
AreSpelled L = (i : ℕ) (r : Record) → slice_get L i ≡ Some r → CanBeSpelled r

abbrev pub IsShort : Type 0
IsShort = (s : Sizes) (L : List Record) → IsLegalFor s L → AreSpelled L → sum_by record_length L + 5 * length L < 2 ^ 62

abbrev pub FileIsShort : Type 0
FileIsShort =
    (s : Sizes) (batches : List (List Record)) → IsLegalFor s (flat_map (λ b. b) batches) → AreSpelled (flat_map (λ b. b) batches)
    → ((i : ℕ) (b : List Record) → slice_get batches i ≡ Some b → 1 ≤ length b)
    → sum_by batch_length batches < 2 ^ 62

abbrev pub IsLight : Type 0
IsLight = (s : Sizes) (L : List Record) → IsLegalFor s L → AreSpelled L → sum_by record_length L < 2 ^ 40
