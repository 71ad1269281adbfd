-- The generated round.
--     next x                         the state of the generator behind x
--     state number client i          that of a client before its transaction i
--     draw number client i           the number that is drawn for transaction i
--     key_of client i                the key of transaction i
--     value_of drawn                 its value
--     second_call kind key value     none, an update, a delete or a get
--     transaction client i drawn     begin, an insert, a second call on the key before, and commit
--     block number size client       the client's block, of so many transactions
--     generated clients size number      the blocks of the clients from 1 on
--     index_regions, heap_regions, sizes_of      how many regions they run on
--     AreWithin clients size         1 to 64 clients with 1 to 1000 transactions each
use Rattle.std.specs.Prelude.{ℕ, zero, suc, ◌+◌, ◌-◌, ◌*◌, ◌/◌, ◌%◌, ◌^◌, ◌≤◌, ◌==◌, List, [], ◌∷◌, ◌++◌, map, flat_map, if◌then◌else◌, bit_xor}
use Rattle.std.specs.List.{range_with_len}
use Rattle.std.specs.Fmt.{decimal}
use Rattle.dali_geometry.specs.Sizes.{Sizes}
use Rattle.dali_script.specs.declared.commands.ClientCommand.{ClientCommand}
use Rattle.dali_script.specs.declared.commands.ClientCommand.TheVariants.{Begin, Insert, Update, Delete, Get, Commit}
use Rattle.dali_script.specs.declared.commands.Block.{Block}

-- ---- the numbers
abbrev pub next : ℕ → ℕ
next x = (x * 6364136223846793005 + 1442695040888963407) % 2 ^ 64

abbrev pub state : (number client i : ℕ) → ℕ
state number client zero = bit_xor number client
state number client (suc i) = next (state number client i)

abbrev pub draw : (number client i : ℕ) → ℕ
draw number client i = next (state number client i) / 2 ^ 33

-- ---- the calls
abbrev pub key_of : (client i : ℕ) → ℕ
key_of client i = client * 1000000 + i

-- `v` and the last digits of the number
abbrev pub value_of : ℕ → List ℕ
value_of drawn = 118 ∷ decimal (drawn % 1000000)

abbrev pub second_call : (kind key : ℕ) (value : List ℕ) → List ClientCommand
second_call kind key value = if kind == 1 then Update key value ∷ [] else (if kind == 2 then Delete key ∷ [] else (if kind == 3 then Get key ∷ [] else []))

-- the first transaction has no key before its own
abbrev pub on_the_key_before : (client i drawn : ℕ) → List ClientCommand
on_the_key_before client i drawn = if i == 0 then [] else second_call (drawn % 4) (key_of client (i - 1)) (value_of drawn)

abbrev pub transaction : (client i drawn : ℕ) → List ClientCommand
transaction client i drawn = Begin ∷ Insert (key_of client i) (value_of drawn) ∷ on_the_key_before client i drawn ++ Commit ∷ []

-- ---- the blocks
abbrev pub commands_of : (number size client : ℕ) → List ClientCommand
commands_of number size client = flat_map (λ i. transaction client i (draw number client i)) (range_with_len 0 size)

abbrev pub block : (number size client : ℕ) → Block
block number size client = record { client = client; commands = commands_of number size client }

abbrev pub generated : (clients size number : ℕ) → List Block
generated clients size number = map (block number size) (range_with_len 1 clients)

-- ---- the regions
abbrev pub index_regions : (clients size : ℕ) → ℕ
index_regions clients size = clients * size / 10 + 1

abbrev pub heap_regions : (clients size : ℕ) → ℕ
heap_regions clients size = clients * size / 5 + 1

abbrev pub sizes_of : (clients size : ℕ) → Sizes
sizes_of clients size = record { index = index_regions clients size; heap = heap_regions clients size }

pub record AreWithin (clients size : ℕ) : Type 0 where
  pub some_clients : 1 ≤ clients
  pub few_clients : clients ≤ 64
  pub some_transactions : 1 ≤ size
  pub few_transactions : size ≤ 1000
