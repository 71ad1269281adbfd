-- A generated round is one of whole transactions, whose clients call their own keys, and it has room for its inserts.
use Rattle.std.proofs.Common.{◌≡◌, ℕ, zero, suc, ◌+◌, ◌-◌, ◌*◌, ◌/◌, ◌%◌, ◌<◌, ◌≤◌, ◌==◌, Bool, true, false, List, [], ◌∷◌, length, map, refl, sym, ◌∙◌, ap, subst, arith}
use Rattle.std.specs.Prelude.{filter, flat_map}
use Rattle.std.specs.List.{range_with_len, AllByRecursion}
use Rattle.std.proofs.lemmas.List.{length-append}
use Rattle.std.proofs.lemmas.List.Concat.{flat_map-cons}
use Rattle.std.proofs.lemmas.List.Elements.{filter-append}
use Rattle.std.proofs.lemmas.List.Sums.{sum_by-cons}
use Rattle.std.proofs.lemmas.Nat.{div-add-mod', div-mul-add}
use Rattle.dali_record.specs.declared.records.Call.{Call}
use Rattle.dali_history.specs.Room.Room.{is_insert}
use Rattle.dali_transcripts.specs.Words.{key_of as key_in}
use Rattle.dali_transcripts.specs.Transcripts.{Told}
use Rattle.dali_generator.specs.Generated.{draw, key_of, value_of, index_regions, heap_regions}
use Rattle.dali_generator.specs.Left.{calls_at, transactions_of}
use Rattle.dali_generator.proofs.Steps.{second_in, calls_two}
use Rattle.dali_generator.proofs.Along.{size_below}
use Rattle.dali_served.specs.Free.{inserts_in, told_inserts}
use Rattle.dali_served.specs.Generates.{calls_told, GeneratedAreServed}
use Rattle.dali_served.proofs.Free.{rounds_are_served}

-- ---- whose a key is
home : ℕ → ℕ
home k = k / 1000000

at_home : (c i : ℕ) → i < 1000000 → home (key_of c i) ≡ c
unfolding home
at_home c i below = div-mul-add c 1000000 i below

second_home : (c k : ℕ) (v : List ℕ) → home k ≡ c → (first a b d : Bool) → AllByRecursion (λ (call : Call). home (key_in call) ≡ c) (second_in first a b d k v)
second_home c k v e true a b d = tt
second_home c k v e false true b d = (e, tt)
second_home c k v e false false true d = (e, tt)
second_home c k v e false false false true = (e, tt)
second_home c k v e false false false false = tt

calls_home : (number c i : ℕ) → i < 1000000 → AllByRecursion (λ (call : Call). home (key_in call) ≡ c) (calls_at number c i)
calls_home number c i below =
    subst (AllByRecursion (λ (call : Call). home (key_in call) ≡ c)) (sym (calls_two number c i))
    (at_home c i below, second_home c (key_of c (i - 1)) (value_of (draw number c i)) (at_home c (i - 1) (omega (arith, below))) (i == 0) (draw number c i % 4 == 1) (draw number c i % 4 == 2) (draw number c i % 4 == 3))

all_home : (number c n a : ℕ) → a + n ≤ 1000000 → AllByRecursion (λ (cs : List Call). AllByRecursion (λ (call : Call). home (key_in call) ≡ c) cs) (map (calls_at number c) (range_with_len a n))
all_home number c zero a below = tt
all_home number c (suc n) a below = (calls_home number c a (omega (arith, below)), all_home number c n (a + 1) (omega (arith, below)))

-- ---- how many inserts they are told
second_none : (k : ℕ) (v : List ℕ) (first a b d : Bool) → filter is_insert (second_in first a b d k v) ≡ []
second_none k v true a b d = refl
second_none k v false true b d = refl
second_none k v false false true d = refl
second_none k v false false false true = refl
second_none k v false false false false = refl

one_insert : (number c i : ℕ) → length (filter is_insert (calls_at number c i)) ≡ 1
one_insert number c i =
    ap (λ l. length (filter is_insert l)) (calls_two number c i)
    ∙ ap (λ (l : List Call). suc (length l)) (second_none (key_of c (i - 1)) (value_of (draw number c i)) (i == 0) (draw number c i % 4 == 1) (draw number c i % 4 == 2) (draw number c i % 4 == 3))

all_inserts : (number c n a : ℕ) → inserts_in (map (calls_at number c) (range_with_len a n)) ≡ n
all_inserts number c zero a = refl
all_inserts number c (suc n) a =
    let first = calls_at number c a in
    let later = map (calls_at number c) (range_with_len (a + 1) n) in
    let parts : inserts_in (first ∷ later) ≡ length (filter is_insert first) + inserts_in later =
    ap (λ l. length (filter is_insert l)) (flat_map-cons (λ (l : List Call). l) first later) ∙ (ap length (filter-append is_insert first (flat_map (λ l. l) later)) ∙ length-append (filter is_insert first) (filter is_insert (flat_map (λ l. l) later))) in
    omega (arith, parts, one_insert number c a, all_inserts number c n (a + 1))

few_told : (clients size number : ℕ) (bs : List Told) → told_inserts (calls_told clients size number) bs ≤ length bs * size
few_told clients size number [] = omega arith
few_told clients size number (b ∷ bs) =
    let first = all_inserts number b.client (transactions_of clients size b.client) 0 in
    omega (arith, sum_by-cons (λ (d : Told). inserts_in (calls_told clients size number d.client)) b bs, first, size_below clients size b.client, few_told clients size number bs)

room : (n : ℕ) → (n < 7 * (n / 5 + 1)) × (n < 21 * (n / 10 + 1))
room n = (omega (arith, div-add-mod' n 5), omega (arith, div-add-mod' n 10))

pub generated_are_served : GeneratedAreServed
generated_are_served clients size number before old new blocks lines receipts within round format rows history told count runs fit =
    let few = few_told clients size number blocks in
    let most : told_inserts (calls_told clients size number) blocks ≤ clients * size = subst (λ n. told_inserts (calls_told clients size number) blocks ≤ n * size) count few in
    let rooms = room (clients * size) in
    rounds_are_served before old new blocks lines receipts (calls_told clients size number) home (index_regions clients size) (heap_regions clients size) round format rows history told
    (λ c. all_home number c (transactions_of clients size c) 0 (omega (arith, size_below clients size c, within.few_transactions)))
    (omega (arith, most, rooms.0)) (omega (arith, most, rooms.1)) runs fit
