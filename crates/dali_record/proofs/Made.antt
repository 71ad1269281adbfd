-- What each operation gives on 64 words, row by row.
use Rattle.std.proofs.Common.{◌≡◌, ℕ, ◌+◌, ◌*◌, ◌^◌, ◌<◌, ◌≤◌, Bool, true, false, cond, not, ◌&&◌, List, [], ◌∷◌, ◌++◌, length, map, Option, Some, None, refl, sym, ap, subst, ◌∙◌, inl, inr, arith, length-take, length-drop}
use Rattle.std.specs.Prelude.{◌==◌, nat_le, zip, drop}
use Rattle.std.specs.List.{AllByRecursion}
use Rattle.std.proofs.lemmas.Bool.{and_parts, leb-true, le-leb}
use Rattle.dali_lists.proofs.Members.{all_append}
use Rattle.dali_lists.proofs.Numbers.{eqb-self}
use Rattle.dali_lists.proofs.Tests.{all_three_true}
use Rattle.dali_words.specs.declared.Effect.{Effect}
use Rattle.dali_words.specs.declared.KillOutcome.{KillOutcome}
use Rattle.dali_words.specs.declared.KillOutcome.TheVariants.{NotLive as KillNotLive, OtherKey as KillOtherKey, OddLength as KillOddLength, Killed as KillKilled}
use Rattle.dali_words.specs.Words.{under, mask_of, AreWords}
use Rattle.dali_words.specs.Values.{is_size, IsValue, packed, unpacked}
use Rattle.dali_words.specs.Effects.{effect_of}
use Rattle.dali_words.proofs.Masks.{IsIn, in_right, length-write_all}
use Rattle.dali_access.specs.declared.heap.PutOutcome.{PutOutcome}
use Rattle.dali_access.specs.declared.heap.PutOutcome.TheVariants.{Put as PutDone}
use Rattle.dali_access.specs.declared.heap.ReadOutcome.{ReadOutcome}
use Rattle.dali_access.specs.declared.heap.ReadOutcome.TheVariants.{NotLive as ReadNotLive, OtherKey as ReadOtherKey, OddLength as ReadOddLength, Value as ReadValue}
use Rattle.dali_access.specs.declared.heap.ChangeOutcome.{ChangeOutcome}
use Rattle.dali_access.specs.declared.heap.ChangeOutcome.TheVariants.{NotLive as ChangeNotLive, OtherKey as ChangeOtherKey, OddLength as ChangeOddLength, Changed as ChangeDone}
use Rattle.dali_access.specs.Heap.Cells as cell
use Rattle.dali_access.specs.Heap.Cells.{cells}
use Rattle.dali_access.specs.Heap.Rows as heap
use Rattle.dali_access.specs.declared.index.LookOutcome.{LookOutcome}
use Rattle.dali_access.specs.declared.index.LookOutcome.TheVariants.{Found as LookFound}
use Rattle.dali_access.specs.declared.index.AddOutcome.{AddOutcome}
use Rattle.dali_access.specs.declared.index.AddOutcome.TheVariants.{Added as AddDone, NoEntry as AddNoEntry}
use Rattle.dali_access.specs.Index.Entries as entry
use Rattle.dali_access.specs.Index.Entries.{entries}
use Rattle.dali_access.specs.Index.Rows as index
use Rattle.dali_record.specs.declared.operations.Op.{Op}
use Rattle.dali_record.specs.declared.operations.Op.TheVariants.{Look, Add, KillEntry, Put, Read, Change, KillCell, FreeCell, ReviveCell, Restore, FreeEntry, ReviveEntry}
use Rattle.dali_record.specs.declared.operations.Outcome.{Outcome}
use Rattle.dali_record.specs.declared.operations.Outcome.TheVariants.{Found, Absent, Added, NoEntry, Killed, Put as PutIn, NoCell, Value, Changed, NotLive, OtherKey, OddLength, Undone}
use Rattle.dali_record.specs.declared.operations.Undo.{Undo}
use Rattle.dali_record.specs.declared.operations.Undo.TheVariants.{FreeCell as UndoFreeCell, ReviveCell as UndoReviveCell, Restore as UndoRestore, FreeEntry as UndoFreeEntry, ReviveEntry as UndoReviveEntry}
use Rattle.dali_record.specs.Spelling.{Is32, Is64, IsCell, IsEntry, AreFive, IsOperation, IsOutcome, MayBeUndo, is_outcome_of, undoes, is_within, IsBlock}
use Rattle.dali_record.specs.Operations.{effect, looked, added, undo_of_add, killed, undo_of_kill, stored, undo_of_put, read, changed, undo_of_change}
use Rattle.dali_record.specs.Blocks.{made}
use Rattle.dali_record.proofs.Makes.{all_get, all_take, all_drop, all_written, all_under, xor_small, mask_small, members, within, packed_words, unpacked_is}

-- what the operation does, reading and writing these words, can be spelled
record Makes (ws : List ℕ) (op : Op) (e : Effect × Outcome × Option Undo) : Type 0 where
  reads : List ℕ
  writes : List (ℕ × ℕ)
  is : e.0 ≡ effect_of ws reads writes
  below : AllByRecursion (λ i. i < 64) reads
  inside : (i : ℕ) → IsIn (map (λ p. p.0) writes) i → IsIn reads i
  values : AllByRecursion (λ p. Is64 p.1) writes
  outcome : IsOutcome e.1
  undo : MayBeUndo e.2
  of_op : is_outcome_of op e.1 ≡ true
  gives : undoes op e.1 e.2 ≡ true

abbrev Below : List ℕ → Type 0
Below is = AllByRecursion (λ i. i < 64) is

leaf : (ws : List ℕ) (op : Op) (reads : List ℕ) (writes : List (ℕ × ℕ)) (o : Outcome) (u : Option Undo) → Below reads → ((i : ℕ) → IsIn (map (λ p. p.0) writes) i → IsIn reads i) → AllByRecursion (λ p. Is64 p.1) writes
    → IsOutcome o → MayBeUndo u → is_outcome_of op o ≡ true → undoes op o u ≡ true → Makes ws op (effect_of ws reads writes, o, u)
leaf ws op reads writes o u below inside values outcome undo of_op gives = record {
  reads = reads;
  writes = writes;
  is = refl;
  below = below;
  inside = inside;
  values = values;
  outcome = outcome;
  undo = undo;
  of_op = of_op;
  gives = gives;
}

-- one that writes nothing
reads_only : (ws : List ℕ) (op : Op) (reads : List ℕ) (o : Outcome) → Below reads → IsOutcome o → is_outcome_of op o ≡ true → undoes op o None ≡ true → Makes ws op (effect_of ws reads [], o, None)
reads_only ws op reads o below outcome of_op gives = leaf ws op reads [] o None below (λ i h. absurd h) tt outcome tt of_op gives

-- ---- cells and entries
cell_low : (c : ℕ) → IsCell c → 1 ≤ c
cell_low c h = leb-true 1 c (and_parts (nat_le 1 c) (nat_le c 7) h).0

cell_high : (c : ℕ) → IsCell c → c ≤ 7
cell_high c h = leb-true c 7 (and_parts (nat_le 1 c) (nat_le c 7) h).1

one_below : (i : ℕ) → i < 64 → Below (i ∷ [])
one_below i h = (h, tt)

head_below : (c : ℕ) → c ≤ 7 → Below (cell.state_word c ∷ cell.key_word c ∷ cell.length_word c ∷ [])
head_below c h = (omega (arith, h), (omega (arith, h), (omega (arith, h), tt)))

value_below : (c : ℕ) → c ≤ 7 → Below (cell.value_words c)
value_below c h = (omega (arith, h), (omega (arith, h), (omega (arith, h), (omega (arith, h), (omega (arith, h), tt)))))

cell_below : (c : ℕ) → c ≤ 7 → Below (cell.cell_words c)
cell_below c h = (omega (arith, h), (omega (arith, h), (omega (arith, h), value_below c h)))

entry_below : (e : ℕ) → e ≤ 20 → Below (entry.state_word e ∷ entry.key_word e ∷ entry.place_word e ∷ [])
entry_below e h = (omega (arith, h), (omega (arith, h), (omega (arith, h), tt)))

is_entry_of : (e : ℕ) → e ≤ 20 → IsEntry e
is_entry_of e h = le-leb e 20 h

entry_high : (e : ℕ) → IsEntry e → e ≤ 20
entry_high e h = leb-true e 20 h

-- ---- walks over entries
passed_below : (ws : List ℕ) (e : ℕ) → e ≤ 20 → Below (index.passed ws e)
passed_below ws e h = by_test (entry.state_of ws e == 1)
  where
    by_test : (c : Bool) → Below (cond c (entry.state_word e ∷ entry.key_word e ∷ []) (entry.state_word e ∷ []))
    by_test true = (omega (arith, h), (omega (arith, h), tt))
    by_test false = (omega (arith, h), tt)

abbrev LookMakes : List ℕ → Effect × LookOutcome → Type 0
LookMakes ws r = Makes ws Look (r.0, looked r.1, None)

look_makes : (ws : List ℕ) (key : ℕ) (seen es : List ℕ) → AllByRecursion Is64 ws → Below seen → AllByRecursion (λ e. e ≤ 20) es → LookMakes ws (index.look_among ws key seen es)
look_makes ws key seen [] words below high = reads_only ws Look (seen ++ 0 ∷ []) (Absent (not (entry.flag_of ws == 0))) (all_append (λ i. i < 64) seen (0 ∷ []) below (omega arith, tt)) tt refl refl
look_makes ws key seen (e ∷ es) words below high = by_test (look_makes ws key (seen ++ index.passed ws e) es words (all_append (λ i. i < 64) seen (index.passed ws e) below (passed_below ws e high.0)) high.1) ((entry.state_of ws e == 1) && (entry.key_of ws e == key))
  where
    by_test :
        LookMakes ws (index.look_among ws key (seen ++ index.passed ws e) es)
        → (c : Bool) → LookMakes ws (cond c (effect_of ws (seen ++ entry.state_word e ∷ entry.key_word e ∷ entry.place_word e ∷ []) [], LookFound e (entry.place_of ws e)) (index.look_among ws key (seen ++ index.passed ws e) es))
    by_test later true = reads_only ws Look (seen ++ entry.state_word e ∷ entry.key_word e ∷ entry.place_word e ∷ []) (Found e (entry.place_of ws e))
        (all_append (λ i. i < 64) seen (entry.state_word e ∷ entry.key_word e ∷ entry.place_word e ∷ []) below (entry_below e high.0)) (is_entry_of e high.0, all_get ws (entry.place_word e) words) refl refl
    by_test later false = later

abbrev AddMakes : List ℕ → ℕ → Effect × AddOutcome → Type 0
AddMakes ws p r = Makes ws (Add p) (r.0, added r.1, undo_of_add r.1)

add_makes : (ws : List ℕ) (key p : ℕ) (seen es : List ℕ) → AllByRecursion Is64 ws → Is64 key → Is64 p → Below seen → AllByRecursion (λ e. e ≤ 20) es → AddMakes ws p (index.add_among ws key p seen es)
add_makes ws key p seen [] words k q below high = by_test (entry.flag_of ws == 0)
  where
    by_test : (c : Bool) → AddMakes ws p (effect_of ws (seen ++ 0 ∷ []) (cond c ((0, 1) ∷ []) []), AddNoEntry)
    by_test true = leaf ws (Add p) (seen ++ 0 ∷ []) ((0, 1) ∷ []) NoEntry None (all_append (λ i. i < 64) seen (0 ∷ []) below (omega arith, tt)) (λ i h. in_right seen (0 ∷ []) i h) (omega arith, tt) tt tt refl refl
    by_test false = reads_only ws (Add p) (seen ++ 0 ∷ []) NoEntry (all_append (λ i. i < 64) seen (0 ∷ []) below (omega arith, tt)) tt refl refl
add_makes ws key p seen (e ∷ es) words k q below high = by_test (add_makes ws key p (seen ++ entry.state_word e ∷ []) es words k q (all_append (λ i. i < 64) seen (entry.state_word e ∷ []) below (omega (arith, high.0), tt)) high.1) (entry.state_of ws e == 0)
  where
    by_test :
        AddMakes ws p (index.add_among ws key p (seen ++ entry.state_word e ∷ []) es)
        → (c : Bool)
        → AddMakes ws p (cond c (effect_of ws (seen ++ entry.state_word e ∷ entry.key_word e ∷ entry.place_word e ∷ []) ((entry.state_word e, 1) ∷ (entry.key_word e, key) ∷ (entry.place_word e, p) ∷ []), AddDone e) (index.add_among ws key p (seen ++ entry.state_word e ∷ []) es))
    by_test later true = leaf ws (Add p) (seen ++ entry.state_word e ∷ entry.key_word e ∷ entry.place_word e ∷ []) ((entry.state_word e, 1) ∷ (entry.key_word e, key) ∷ (entry.place_word e, p) ∷ []) (Added e) (Some (UndoFreeEntry e))
        (all_append (λ i. i < 64) seen (entry.state_word e ∷ entry.key_word e ∷ entry.place_word e ∷ []) below (entry_below e high.0))
        (λ i h. in_right seen (entry.state_word e ∷ entry.key_word e ∷ entry.place_word e ∷ []) i h) (omega arith, (k, (q, tt))) (is_entry_of e high.0) (is_entry_of e high.0) refl (eqb-self e)
    by_test later false = later

entries_high : AllByRecursion (λ e. e ≤ 20) entries
unfolding entries
entries_high = (omega arith, (omega arith, (omega arith, (omega arith, (omega arith, (omega arith, (omega arith, (omega arith, (omega arith, (omega arith, (omega arith, (omega arith, (omega arith, (omega arith, (omega arith, (omega arith, (omega arith, (omega arith, (omega arith, (omega arith, (omega arith, tt)))))))))))))))))))))

kill_entry_makes : (ws : List ℕ) (e key : ℕ) → AllByRecursion Is64 ws → e ≤ 20 → Makes ws (KillEntry e) (effect (KillEntry e) key ws)
kill_entry_makes ws e key words high = by_test (entry.state_of ws e == 1) (entry.key_of ws e == key)
  where
    P : Effect × KillOutcome → Type 0
    P r = Makes ws (KillEntry e) (r.0, killed r.1, undo_of_kill (UndoReviveEntry e) r.1)

    by_test : (a b : Bool) → P (cond a (cond b (effect_of ws (entry.state_word e ∷ entry.key_word e ∷ []) ((entry.state_word e, 2) ∷ []), KillKilled) (effect_of ws (entry.state_word e ∷ entry.key_word e ∷ []) [], KillOtherKey (entry.key_of ws e))) (effect_of ws (entry.state_word e ∷ []) [], KillNotLive (entry.state_of ws e)))
    by_test true true = leaf ws (KillEntry e) (entry.state_word e ∷ entry.key_word e ∷ []) ((entry.state_word e, 2) ∷ []) Killed (Some (UndoReviveEntry e)) (omega (arith, high), (omega (arith, high), tt)) (λ i h. by_first i h) (omega arith, tt) tt (is_entry_of e high) refl (eqb-self e)
      where
        by_first : (i : ℕ) → IsIn (entry.state_word e ∷ []) i → IsIn (entry.state_word e ∷ entry.key_word e ∷ []) i
        by_first i (inl h) = inl h
        by_first i (inr h) = absurd h
    by_test true false = reads_only ws (KillEntry e) (entry.state_word e ∷ entry.key_word e ∷ []) (OtherKey (entry.key_of ws e)) (omega (arith, high), (omega (arith, high), tt)) (all_get ws (entry.key_word e) words) refl refl
    by_test false b = reads_only ws (KillEntry e) (entry.state_word e ∷ []) (NotLive (entry.state_of ws e)) (omega (arith, high), tt) (all_get ws (entry.state_word e) words) refl refl

-- ---- cells
cells_in : AllByRecursion IsCell cells
unfolding cells
cells_in = (refl, (refl, (refl, (refl, (refl, (refl, (refl, tt)))))))

abbrev PutMakes : List ℕ → List ℕ → Effect × PutOutcome → Type 0
PutMakes ws v r = Makes ws (Put v) (r.0, stored r.1, undo_of_put r.1)

short : (v : List ℕ) → IsValue v → Is64 (length v)
short v is = let few : length v ≤ 40 = leb-true (length v) 40 (and_parts (nat_le 1 (length v)) (nat_le (length v) 40) is.0).1 in omega (arith, few)

put_makes : (ws : List ℕ) (key : ℕ) (v seen cs : List ℕ) → Is64 key → IsValue v → Below seen → AllByRecursion IsCell cs → PutMakes ws v (heap.put_among ws key v seen cs)
put_makes ws key v seen [] k is below all = reads_only ws (Put v) seen NoCell below tt refl refl
put_makes ws key v seen (c ∷ cs) k is below all = by_test (put_makes ws key v (seen ++ cell.state_word c ∷ []) cs k is (all_append (λ i. i < 64) seen (cell.state_word c ∷ []) below (omega (arith, cell_high c all.0), tt)) all.1) (cell.state_of ws c == 0)
  where
    words : AllByRecursion Is64 (packed v)
    words = packed_words v is

    by_test :
        PutMakes ws v (heap.put_among ws key v (seen ++ cell.state_word c ∷ []) cs)
        → (b : Bool) → PutMakes ws v (cond b (effect_of ws (seen ++ cell.cell_words c) (zip (cell.cell_words c) (1 ∷ key ∷ length v ∷ packed v)), PutDone c) (heap.put_among ws key v (seen ++ cell.state_word c ∷ []) cs))
    by_test later true = leaf ws (Put v) (seen ++ cell.cell_words c) (zip (cell.cell_words c) (1 ∷ key ∷ length v ∷ packed v)) (PutIn c) (Some (UndoFreeCell c))
        (all_append (λ i. i < 64) seen (cell.cell_words c) below (cell_below c (cell_high c all.0)))
        (λ i h. in_right seen (cell.cell_words c) i h)
        (omega arith, (k, (short v is, (words.0, (words.1.0, (words.1.1.0, (words.1.1.1.0, (words.1.1.1.1.0, tt))))))))
        all.0 all.0 refl (eqb-self c)
    by_test later false = later

five_words : (ws : List ℕ) (c : ℕ) → length ws ≡ 64 → c ≤ 7 → length (cell.value_of ws c) ≡ 5
five_words ws c size high = omega (arith, length-take 5 (drop (8 * c + 3) ws), length-drop (8 * c + 3) ws, size, high)

read_makes : (ws : List ℕ) (c key : ℕ) → AreWords ws → IsCell c → Makes ws (Read c) (effect (Read c) key ws)
read_makes ws c key words is = by_test (cell.state_of ws c == 1) (cell.key_of ws c == key) (is_size (cell.length_of ws c)) refl
  where
    high : c ≤ 7
    high = cell_high c is

    P : Effect × ReadOutcome → Type 0
    P r = Makes ws (Read c) (r.0, read r.1, None)

    by_test : (a b d : Bool) → is_size (cell.length_of ws c) ≡ d
        → P (cond a (cond b (cond d (effect_of ws (cell.cell_words c) [], ReadValue (unpacked (cell.length_of ws c) (cell.value_of ws c))) (effect_of ws (cell.state_word c ∷ cell.key_word c ∷ cell.length_word c ∷ []) [], ReadOddLength (cell.length_of ws c))) (effect_of ws (cell.state_word c ∷ cell.key_word c ∷ []) [], ReadOtherKey (cell.key_of ws c))) (effect_of ws (cell.state_word c ∷ []) [], ReadNotLive (cell.state_of ws c)))
    by_test true true true e = reads_only ws (Read c) (cell.cell_words c) (Value (unpacked (cell.length_of ws c) (cell.value_of ws c))) (cell_below c high) (unpacked_is (cell.length_of ws c) (cell.value_of ws c) e (five_words ws c words.0 high)) refl refl
    by_test true true false e = reads_only ws (Read c) (cell.state_word c ∷ cell.key_word c ∷ cell.length_word c ∷ []) (OddLength (cell.length_of ws c)) (head_below c high) (all_get ws (cell.length_word c) words.1) refl refl
    by_test true false d e = reads_only ws (Read c) (cell.state_word c ∷ cell.key_word c ∷ []) (OtherKey (cell.key_of ws c)) (omega (arith, high), (omega (arith, high), tt)) (all_get ws (cell.key_word c) words.1) refl refl
    by_test false b d e = reads_only ws (Read c) (cell.state_word c ∷ []) (NotLive (cell.state_of ws c)) (omega (arith, high), tt) (all_get ws (cell.state_word c) words.1) refl refl

-- the length and the value of a cell are among its words
in_cell : (c i : ℕ) → IsIn (cell.length_word c ∷ cell.value_words c) i → IsIn (cell.cell_words c) i
in_cell c i h = inr (inr h)

old_words : (ws : List ℕ) (c : ℕ) → AreWords ws → c ≤ 7 → AreFive (cell.value_of ws c)
old_words ws c words high = (five_words ws c words.0 high, all_take Is64 5 (drop (8 * c + 3) ws) (all_drop Is64 (8 * c + 3) ws words.1))

change_makes : (ws : List ℕ) (c key : ℕ) (v : List ℕ) → AreWords ws → IsCell c → IsValue v → Makes ws (Change c v) (effect (Change c v) key ws)
change_makes ws c key v words is value = by_test (cell.state_of ws c == 1) (cell.key_of ws c == key) (is_size (cell.length_of ws c))
  where
    high : c ≤ 7
    high = cell_high c is

    news : AllByRecursion Is64 (packed v)
    news = packed_words v value

    P : Effect × ChangeOutcome → Type 0
    P r = Makes ws (Change c v) (r.0, changed r.1, undo_of_change ws c r.1)

    by_test : (a b d : Bool)
        → P (cond a (cond b (cond d (effect_of ws (cell.cell_words c) (zip (cell.length_word c ∷ cell.value_words c) (length v ∷ packed v)), ChangeDone) (effect_of ws (cell.state_word c ∷ cell.key_word c ∷ cell.length_word c ∷ []) [], ChangeOddLength (cell.length_of ws c))) (effect_of ws (cell.state_word c ∷ cell.key_word c ∷ []) [], ChangeOtherKey (cell.key_of ws c))) (effect_of ws (cell.state_word c ∷ []) [], ChangeNotLive (cell.state_of ws c)))
    by_test true true true = leaf ws (Change c v) (cell.cell_words c) (zip (cell.length_word c ∷ cell.value_words c) (length v ∷ packed v)) Changed (Some (UndoRestore c (cell.length_of ws c) (cell.value_of ws c)))
        (cell_below c high) (λ i h. in_cell c i h) (short v value, (news.0, (news.1.0, (news.1.1.0, (news.1.1.1.0, (news.1.1.1.1.0, tt))))))
        tt (is, all_get ws (cell.length_word c) words.1, old_words ws c words high) refl (eqb-self c)
    by_test true true false = reads_only ws (Change c v) (cell.state_word c ∷ cell.key_word c ∷ cell.length_word c ∷ []) (OddLength (cell.length_of ws c)) (head_below c high) (all_get ws (cell.length_word c) words.1) refl refl
    by_test true false d = reads_only ws (Change c v) (cell.state_word c ∷ cell.key_word c ∷ []) (OtherKey (cell.key_of ws c)) (omega (arith, high), (omega (arith, high), tt)) (all_get ws (cell.key_word c) words.1) refl refl
    by_test false b d = reads_only ws (Change c v) (cell.state_word c ∷ []) (NotLive (cell.state_of ws c)) (omega (arith, high), tt) (all_get ws (cell.state_word c) words.1) refl refl

-- a head of words begins with the state's
in_head : (s k l i : ℕ) → IsIn (s ∷ []) i → IsIn (s ∷ k ∷ l ∷ []) i
in_head s k l i (inl h) = inl h
in_head s k l i (inr h) = absurd h

kill_cell_makes : (ws : List ℕ) (c key : ℕ) → AllByRecursion Is64 ws → IsCell c → Makes ws (KillCell c) (effect (KillCell c) key ws)
kill_cell_makes ws c key words is = by_test (cell.state_of ws c == 1) (cell.key_of ws c == key) (is_size (cell.length_of ws c))
  where
    high : c ≤ 7
    high = cell_high c is

    P : Effect × KillOutcome → Type 0
    P r = Makes ws (KillCell c) (r.0, killed r.1, undo_of_kill (UndoReviveCell c) r.1)

    by_test : (a b d : Bool)
        → P (cond a (cond b (cond d (effect_of ws (cell.state_word c ∷ cell.key_word c ∷ cell.length_word c ∷ []) ((cell.state_word c, 2) ∷ []), KillKilled) (effect_of ws (cell.state_word c ∷ cell.key_word c ∷ cell.length_word c ∷ []) [], KillOddLength (cell.length_of ws c))) (effect_of ws (cell.state_word c ∷ cell.key_word c ∷ []) [], KillOtherKey (cell.key_of ws c))) (effect_of ws (cell.state_word c ∷ []) [], KillNotLive (cell.state_of ws c)))
    by_test true true true = leaf ws (KillCell c) (cell.state_word c ∷ cell.key_word c ∷ cell.length_word c ∷ []) ((cell.state_word c, 2) ∷ []) Killed (Some (UndoReviveCell c)) (head_below c high) (λ i h. in_head _ _ _ i h) (omega arith, tt) tt is refl (eqb-self c)
    by_test true true false = reads_only ws (KillCell c) (cell.state_word c ∷ cell.key_word c ∷ cell.length_word c ∷ []) (OddLength (cell.length_of ws c)) (head_below c high) (all_get ws (cell.length_word c) words) refl refl
    by_test true false d = reads_only ws (KillCell c) (cell.state_word c ∷ cell.key_word c ∷ []) (OtherKey (cell.key_of ws c)) (omega (arith, high), (omega (arith, high), tt)) (all_get ws (cell.key_word c) words) refl refl
    by_test false b d = reads_only ws (KillCell c) (cell.state_word c ∷ []) (NotLive (cell.state_of ws c)) (omega (arith, high), tt) (all_get ws (cell.state_word c) words) refl refl

-- one word, read and written
state_makes : (ws : List ℕ) (op : Op) (i n : ℕ) → i < 64 → n < 2 ^ 64 → is_outcome_of op Undone ≡ true → undoes op Undone None ≡ true → Makes ws op (effect_of ws (i ∷ []) ((i, n) ∷ []), Undone, None)
state_makes ws op i n lt small of_op gives = leaf ws op (i ∷ []) ((i, n) ∷ []) Undone None (lt, tt) (λ j h. h) (small, tt) tt tt of_op gives

restore_makes : (ws : List ℕ) (c n key : ℕ) (vs : List ℕ) → IsCell c → Is64 n → AreFive vs → Makes ws (Restore c n vs) (effect (Restore c n vs) key ws)
restore_makes ws c n key [] is small five = absurd (omega (arith, five.0))
restore_makes ws c n key (v ∷ []) is small five = absurd (omega (arith, five.0))
restore_makes ws c n key (v ∷ w ∷ []) is small five = absurd (omega (arith, five.0))
restore_makes ws c n key (v ∷ w ∷ x ∷ []) is small five = absurd (omega (arith, five.0))
restore_makes ws c n key (v ∷ w ∷ x ∷ y ∷ []) is small five = absurd (omega (arith, five.0))
restore_makes ws c n key (v ∷ w ∷ x ∷ y ∷ z ∷ []) is small five = leaf ws (Restore c n (v ∷ w ∷ x ∷ y ∷ z ∷ [])) (cell.length_word c ∷ cell.value_words c) (zip (cell.length_word c ∷ cell.value_words c) (n ∷ v ∷ w ∷ x ∷ y ∷ z ∷ [])) Undone None
    (omega (arith, cell_high c is), value_below c (cell_high c is)) (λ i h. h) (small, (five.1.0, (five.1.1.0, (five.1.1.1.0, (five.1.1.1.1.0, (five.1.1.1.1.1.0, tt)))))) tt tt refl refl
restore_makes ws c n key (v ∷ w ∷ x ∷ y ∷ z ∷ u ∷ vs) is small five = absurd (omega (arith, five.0))

-- ---- all of them
makes : (op : Op) (key : ℕ) (ws : List ℕ) → IsOperation op → Is64 key → AreWords ws → Makes ws op (effect op key ws)
makes Look key ws is k words = look_makes ws key [] entries words.1 tt entries_high
makes (Add p) key ws is k words = add_makes ws key p [] entries words.1 k is tt entries_high
makes (KillEntry e) key ws is k words = kill_entry_makes ws e key words.1 (entry_high e is)
makes (Put v) key ws is k words = put_makes ws key v [] cells k is tt cells_in
makes (Read c) key ws is k words = read_makes ws c key words is
makes (Change c v) key ws is k words = change_makes ws c key v words is.0 is.1
makes (KillCell c) key ws is k words = kill_cell_makes ws c key words.1 is
makes (FreeCell c) key ws is k words = state_makes ws (FreeCell c) (cell.state_word c) 0 (omega (arith, cell_high c is)) (omega arith) refl refl
makes (ReviveCell c) key ws is k words = state_makes ws (ReviveCell c) (cell.state_word c) 1 (omega (arith, cell_high c is)) (omega arith) refl refl
makes (Restore c n vs) key ws is k words = restore_makes ws c n key vs is.0 is.1 is.2
makes (FreeEntry e) key ws is k words = state_makes ws (FreeEntry e) (entry.state_word e) 0 (omega (arith, entry_high e is)) (omega arith) refl refl
makes (ReviveEntry e) key ws is k words = state_makes ws (ReviveEntry e) (entry.state_word e) 1 (omega (arith, entry_high e is)) (omega arith) refl refl

below_in : (is : List ℕ) (i : ℕ) → Below is → IsIn is i → i < 64
below_in [] i h g = absurd g
below_in (j ∷ js) i h (inl e) = subst (λ n. n < 64) e h.0
below_in (j ∷ js) i h (inr g) = below_in js i h.1 g

all_in : (is : List ℕ) → ((i : ℕ) → IsIn is i → i < 64) → Below is
all_in [] h = tt
all_in (i ∷ is) h = (h i (inl refl), all_in is (λ j g. h j (inr g)))

-- the block that an operation makes can be spelled
pub made_is_block : (op : Op) (key r : ℕ) (ws : List ℕ) → IsOperation op → Is64 key → Is32 r → AreWords ws → IsBlock (made ws key r op)
made_is_block op key r ws is k region words = record {
  key = k;
  region = region;
  op = is;
  read = subst Is64 (sym reads) (mask_small m.reads 0 (omega arith) m.below);
  xor = xor_small (under (effect op key ws).0.read ws) 0 (omega arith) (all_under (effect op key ws).0.read ws words.1);
  write = small;
  count = members (effect op key ws).0.write (effect op key ws).0.after (subst (λ n. (effect op key ws).0.write < 2 ^ n) (sym long) small);
  after = all_under (effect op key ws).0.write (effect op key ws).0.after later;
  outcome = m.outcome;
  undo = m.undo;
  fit = all_three_true _ _ _ inside m.of_op m.gives;
}
  where
    m : Makes ws op (effect op key ws)
    m = makes op key ws is k words

    reads : (effect op key ws).0.read ≡ mask_of m.reads
    reads = ap (λ (e : Effect). e.read) m.is

    writes : (effect op key ws).0.write ≡ mask_of (map (λ p. p.0) m.writes)
    writes = ap (λ (e : Effect). e.write) m.is

    small : Is64 (effect op key ws).0.write
    small = subst Is64 (sym writes) (mask_small (map (λ p. p.0) m.writes) 0 (omega arith) (all_in (map (λ p. p.0) m.writes) (λ i h. below_in m.reads i m.below (m.inside i h))))

    later : AllByRecursion Is64 (effect op key ws).0.after
    later = subst (AllByRecursion Is64) (sym (ap (λ (e : Effect). e.after) m.is)) (all_written ws m.writes words.1 m.values)

    long : length (effect op key ws).0.after ≡ 64
    long = ap (λ (e : Effect). length e.after) m.is ∙ length-write_all ws m.writes ∙ words.0

    inside : is_within (effect op key ws).0.write (effect op key ws).0.read ≡ true
    inside = ap (λ w. is_within w (effect op key ws).0.read) writes ∙ ap (λ r. is_within (mask_of (map (λ p. p.0) m.writes)) r) reads ∙ within (map (λ p. p.0) m.writes) m.reads m.inside
