-- A generated round is such as a script may have.
use Rattle.std.proofs.Common.{◌≡◌, ℕ, zero, suc, ◌+◌, ◌-◌, ◌%◌, ◌^◌, ◌<◌, ◌≤◌, ◌==◌, Bool, true, false, List, [], ◌∷◌, ◌++◌, length, flat_map, sym, ◌∙◌, ap, append_assoc, arith}
use Rattle.std.specs.Prelude.{if◌then◌else◌}
use Rattle.std.specs.List.{range_with_len}
use Rattle.std.specs.Fmt.{decimal}
use Rattle.std.proofs.lemmas.Fmt.{length-decimal-le, IsAscii-decimal}
use Rattle.std.proofs.lemmas.List.Elements.{All-cons, All-weaker}
use Rattle.std.proofs.lemmas.Str.Ascii.{All-from_ascii}
use Rattle.dali_geometry.specs.Sizes.{AreInRange}
use Rattle.dali_words.specs.Values.{IsValue}
use Rattle.dali_words.proofs.Fields.{size_is}
use Rattle.dali_script.specs.Scripts.{AreInPlace, IsRightRound}
use Rattle.dali_script.specs.declared.commands.Block.{Block}
use Rattle.dali_script.specs.declared.commands.ClientCommand.{ClientCommand}
use Rattle.dali_script.specs.declared.commands.ClientCommand.TheVariants.{Update, Delete, Get, Commit}
use Rattle.dali_generator.specs.Generated.{draw, key_of, value_of, second_call, on_the_key_before, transaction, block, generated, sizes_of, AreWithin}
use Rattle.dali_generator.proofs.Ranges.{at}
use Rattle.dali_generator.proofs.Parts.{few}

-- ---- values

pub short : (drawn : ℕ) → length (decimal (drawn % 1000000)) ≤ 6
short drawn = length-decimal-le 6 (drawn % 1000000) (omega arith) (omega arith) (omega arith)

right_value : (drawn : ℕ) → IsValue (value_of drawn)
right_value drawn =
    let digits = decimal (drawn % 1000000) in
    let ascii = All-from_ascii digits (IsAscii-decimal (drawn % 1000000) (omega arith)) in
    (size_is (length (value_of drawn)) (omega arith) (omega (arith, short drawn)), All-cons (λ b. b < 256) 118 digits (omega arith) (All-weaker (λ b. b < 128) (λ b. b < 256) (λ b h. omega arith) digits ascii))

-- ---- commands
chosen : (a b c : Bool) (key : ℕ) (value : List ℕ) (later : List ClientCommand) → key < 2 ^ 64 → IsValue value → AreInPlace true later
    → AreInPlace true ((if a then Update key value ∷ [] else (if b then Delete key ∷ [] else (if c then Get key ∷ [] else []))) ++ later)
chosen true b c key value later k v h = ((k, v), h)
chosen false true c key value later k v h = (k, h)
chosen false false true key value later k v h = (k, h)
chosen false false false key value later k v h = h

second : (first : Bool) (kind key : ℕ) (value : List ℕ) (later : List ClientCommand) → key < 2 ^ 64 → IsValue value → AreInPlace true later
    → AreInPlace true ((if first then [] else second_call kind key value) ++ later)
second true kind key value later k v h = h
second false kind key value later k v h = chosen (kind == 1) (kind == 2) (kind == 3) key value later k v h

one_in_place : (client i drawn : ℕ) (later : List ClientCommand) → client ≤ 64 → i < 1000 → AreInPlace false later → AreInPlace false (transaction client i drawn ++ later)
one_in_place client i drawn later c s h =
    let value = right_value drawn in
    let rest = second (i == 0) (drawn % 4) (key_of client (i - 1)) (value_of drawn) (Commit ∷ later) (omega arith) value h in
    let joined = append_assoc (on_the_key_before client i drawn) (Commit ∷ []) later in
    ((omega arith, value), rw joined rest)

all_in_place : (number client n a : ℕ) → client ≤ 64 → a + n ≤ 1000 → AreInPlace false (flat_map (λ i. transaction client i (draw number client i)) (range_with_len a n))
all_in_place number client zero a c s = tt
all_in_place number client (suc n) a c s =
    one_in_place client a (draw number client a) (flat_map (λ i. transaction client i (draw number client i)) (range_with_len (a + 1) n)) c (omega arith) (all_in_place number client n (a + 1) c (omega arith))

-- ---- blocks
pub right_round : (clients size number : ℕ) → AreWithin clients size → IsRightRound (generated clients size number)
right_round clients size number within = record {
  numbers = λ i b e.
      let here = at (block number size) clients 1 i b e in
      rw here.1 (omega arith, omega (arith, here.0, within.few_clients));
  placed = λ i b e.
      let here = at (block number size) clients 1 i b e in
      rw here.1 (all_in_place number (1 + i) size 0 (omega (arith, here.0, within.few_clients)) (omega (arith, within.few_transactions)));
  apart = λ i j a b e f same.
      let here = at (block number size) clients 1 i a e in
      let there = at (block number size) clients 1 j b f in
      let numbers : 1 + i ≡ 1 + j = sym (ap (λ (b : Block). b.client) here.1) ∙ same ∙ ap (λ (b : Block). b.client) there.1 in
      omega arith;
}

pub right_sizes : (clients size : ℕ) → AreWithin clients size → AreInRange (sizes_of clients size)
right_sizes clients size within =
    let product = few clients size within.few_clients within.few_transactions in
    record { some_index = omega arith; few_index = omega arith; some_heap = omega arith; few_heap = omega arith }
