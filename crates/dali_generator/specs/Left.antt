-- What generated transactions leave in an empty map.
--     calls_at number client i           the calls of a client's transaction i
--     stands_behind number client i n    what stands at key i of a client behind its first n transactions
--     transactions_of clients size c     how many transactions a client has
--     left clients size number           what all transactions leave, whatever their order among the clients
--     keys_left clients size number      its keys, ascending
--     IsInserted p                       an insert was answered ok
--     IsGenerated number L c i t         the transaction t of a log made the calls of transaction i of the client c
--     HaveRun clients size number L ts   the transactions ts of a log are those of the clients, each client's in its order
--     LeavesThem, HasTheirKeys           a plain replay of such transactions leaves just that; ascending keys of it are those
use Rattle.std.specs.Prelude.{◌≡◌, ◌↔◌, ℕ, ◌+◌, ◌/◌, ◌%◌, ◌&&◌, ◌==◌, nat_lt, nat_le, List, map, filter, filter_map, flat_map, Option, Some, None, is_some, IsSome, if◌then◌else◌, Contains}
use Rattle.std.specs.List.{range_with_len, AllByRecursion}
use Rattle.std.specs.List.Sorted.{IsStrictlyIncreasing}
use Rattle.dali_record.specs.declared.records.Call.{Call}
use Rattle.dali_record.specs.declared.records.Call.TheVariants as calls
use Rattle.dali_record.specs.declared.records.Answer.{Answer}
use Rattle.dali_record.specs.declared.records.Answer.TheVariants.{Ok as AnswerOk}
use Rattle.dali_record.specs.declared.records.Record.{Record}
use Rattle.dali_record.specs.Log.{calls_of}
use Rattle.dali_history.specs.Serial.{Map, empty_map, serial}
use Rattle.dali_script.specs.declared.commands.ClientCommand.{ClientCommand}
use Rattle.dali_script.specs.declared.commands.ClientCommand.TheVariants.{Insert, Update, Delete, Get}
use Rattle.dali_generator.specs.Generated.{draw, key_of, value_of, transaction, AreWithin}

-- ---- the calls
abbrev pub call_in : ClientCommand → Option Call
call_in (Insert key value) = Some (calls.Insert key value)
call_in (Update key value) = Some (calls.Update key value)
call_in (Delete key) = Some (calls.Delete key)
call_in (Get key) = Some (calls.Get key)
call_in _ = None

abbrev pub calls_at : (number client i : ℕ) → List Call
calls_at number client i = filter_map call_in (transaction client i (draw number client i))

-- ---- what is left
-- the next transaction gives the record its own value, deletes it or lets it be
abbrev pub behind_the_next : (kind : ℕ) (own next : List ℕ) → Option (List ℕ)
behind_the_next kind own next = if kind == 1 then Some next else (if kind == 2 then None else Some own)

abbrev pub stands_behind : (number client i n : ℕ) → Option (List ℕ)
stands_behind number client i n =
    if nat_lt (i + 1) n
    then behind_the_next (draw number client (i + 1) % 4) (value_of (draw number client i)) (value_of (draw number client (i + 1)))
    else (if nat_lt i n then Some (value_of (draw number client i)) else None)

abbrev pub transactions_of : (clients size client : ℕ) → ℕ
transactions_of clients size client = if nat_le 1 client && nat_le client clients then size else 0

abbrev pub left : (clients size number : ℕ) → Map
left clients size number k =
    stands_behind number (k / 1000000) (k % 1000000) (transactions_of clients size (k / 1000000))

-- of one client
abbrev pub keys_of : (number size client : ℕ) → List ℕ
keys_of number size client = map (key_of client) (filter (λ i. is_some (stands_behind number client i size)) (range_with_len 0 size))

abbrev pub keys_left : (clients size number : ℕ) → List ℕ
keys_left clients size number = flat_map (keys_of number size) (range_with_len 1 clients)

-- ---- transactions of a log
abbrev pub inserted_by : Call → Answer → Type 0
inserted_by (calls.Insert key value) a = a ≡ AnswerOk
inserted_by _ a = Unit {0}

abbrev pub IsInserted : Call × Answer → Type 0
IsInserted p = inserted_by p.0 p.1

pub record IsGenerated (number : ℕ) (L : List Record) (client i t : ℕ) : Type 0 where
  pub calls_are : map (λ p. p.0) (calls_of t L) ≡ calls_at number client i
  pub inserted : AllByRecursion IsInserted (calls_of t L)

pub record HaveRun (clients size number : ℕ) (L : List Record) (ts : List ℕ) : Type 0 where
  -- whose transaction it is, and which of its own
  pub client : ℕ → ℕ
  pub place : ℕ → ℕ
  pub in_order : (c : ℕ) → map place (filter (λ t. client t == c) ts) ≡ range_with_len 0 (transactions_of clients size c)
  pub generated : (t : ℕ) → Contains ts t → IsGenerated number L (client t) (place t) t

-- ---- laws
abbrev pub LeavesThem : Type 0
LeavesThem =
    (clients size number : ℕ) (L : List Record) (ts : List ℕ) (m : Map)
    → AreWithin clients size → HaveRun clients size number L ts → serial empty_map ts L ≡ Some m
    → (k : ℕ) → m k ≡ left clients size number k

abbrev pub HasTheirKeys : Type 0
HasTheirKeys =
    (clients size number : ℕ) (keys : List ℕ)
    → AreWithin clients size → IsStrictlyIncreasing keys
    → ((k : ℕ) → Contains keys k ↔ IsSome (left clients size number k))
    → keys ≡ keys_left clients size number
