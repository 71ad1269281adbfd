-- The laws of the operations on cells.
use Rattle.std.proofs.Common.{◌≡◌, ◌≢◌, ℕ, zero, suc, ◌+◌, ◌*◌, ◌<◌, ◌≤◌, Bool, true, false, cond, List, [], ◌∷◌, ◌++◌, length, take, drop, refl, ap, sym, subst, ◌∙◌, ◌⊎◌, inl, inr, ⊎_elim, arith, get_or, set, length-drop, length-set}
use Rattle.std.specs.Prelude.{◌==◌, zip}
use Rattle.std.specs.Int.{bit_at}
use Rattle.std.proofs.lemmas.Bool.Decides.{eqb_tells}
use Rattle.std.proofs.lemmas.List.{set-set, set-get_or, get_or-set_same, get_or-set_other, drop_more, length-take-le}
use Rattle.dali_lists.proofs.Numbers.{bit_none, here_or_later}
use Rattle.dali_words.specs.declared.Effect.{Effect}
use Rattle.dali_words.specs.declared.KillOutcome.TheVariants.{NotLive as KillNotLive, OtherKey as KillOtherKey, OddLength as KillOddLength, Killed}
use Rattle.dali_words.specs.Words.{mask_of, row_of}
use Rattle.dali_words.specs.Values.{is_size, packed, unpacked}
use Rattle.dali_words.specs.Effects.{effect_of, write_all, DependsOnReads, AnswersByReads}
use Rattle.dali_words.proofs.Masks.{IsIn, in-mask_of, length-write_all}
use Rattle.dali_words.proofs.Apart.{apart_commute}
use Rattle.dali_words.proofs.Rows.{in_row, unwritten, zip_within, row_back}
use Rattle.dali_words.proofs.Dependence.{row_within, effect_within}
use Rattle.dali_access.specs.declared.heap.PutOutcome.{PutOutcome}
use Rattle.dali_access.specs.declared.heap.PutOutcome.TheVariants.{Put, NoCell}
use Rattle.dali_access.specs.declared.heap.ReadOutcome.TheVariants.{NotLive as ReadNotLive, OtherKey as ReadOtherKey, OddLength as ReadOddLength, Value as ReadValue}
use Rattle.dali_access.specs.declared.heap.ChangeOutcome.TheVariants.{NotLive as ChangeNotLive, OtherKey as ChangeOtherKey, OddLength as ChangeOddLength, Changed}
use Rattle.dali_access.specs.Heap.Cells.{state_word, key_word, length_word, value_words, cell_words, cells, state_of, key_of, length_of, value_of}
use Rattle.dali_access.specs.Heap.Rows as rows
use Rattle.dali_access.specs.Heap.Laws.{InCell, OperationsStay, CellsCommute, PutsWithin, UndoesKill, UndoesChange, UndoesPut, TakesFirst, PutTakesFirst}
use Rattle.dali_access.proofs.HeapLemmas.Dependence.{read_row, change_row, kill_row, put_row, read_by_reads, change_by_reads, kill_by_reads, free_by_reads, revive_by_reads, restore_by_reads}
use Rattle.dali_access.proofs.HeapLemmas.Walk.{cell_row}

-- ---- words of one cell
-- words in a row within the cell
row_in_cell : (c k n : ℕ) (is : List ℕ) (e : Effect) → e.read ≡ mask_of is → row_of k n ≡ is → 8 * c ≤ k → k + n ≤ 8 * c + 8 → InCell c e
row_in_cell c k n is e read row low high i h =
    let at = in_row k n i (subst (λ js. IsIn js i) (sym row) (in-mask_of is i (subst (λ m. bit_at m i ≡ 1) read h))) in
    (omega arith, omega arith)

cell_three : (c : ℕ) → row_of (8 * c) 3 ≡ state_word c ∷ key_word c ∷ length_word c ∷ []
cell_three c = let e : 8 * c + 1 + 1 ≡ 8 * c + 2 = omega arith in rw e refl

pub cell_six : (c : ℕ) → row_of (8 * c + 2) 6 ≡ length_word c ∷ value_words c
cell_six c =
    let e3 : 8 * c + 2 + 1 ≡ 8 * c + 3 = omega arith in
    let e4 : 8 * c + 3 + 1 ≡ 8 * c + 4 = omega arith in
    let e5 : 8 * c + 4 + 1 ≡ 8 * c + 5 = omega arith in
    let e6 : 8 * c + 5 + 1 ≡ 8 * c + 6 = omega arith in
    let e7 : 8 * c + 6 + 1 ≡ 8 * c + 7 = omega arith in
    rw (e3, e4, e5, e6, e7) refl

-- whatever the tests say
by_tests : (c : ℕ) (x y z : Bool) (full odd other dead : Effect) → InCell c full → InCell c odd → InCell c other → InCell c dead → InCell c (cond x (cond y (cond z full odd) other) dead)
by_tests c true true true full odd other dead a b d e = a
by_tests c true true false full odd other dead a b d e = b
by_tests c true false z full odd other dead a b d e = d
by_tests c false y z full odd other dead a b d e = e

-- the effect of a choice of results
chosen : {O : Type 0} (x y z : Bool) (full odd other dead : Effect × O) → (cond x (cond y (cond z full odd) other) dead).0 ≡ cond x (cond y (cond z full.0 odd.0) other.0) dead.0
chosen true true true full odd other dead = refl
chosen true true false full odd other dead = refl
chosen true false z full odd other dead = refl
chosen false y z full odd other dead = refl

-- an answer that depends on its reads has an effect that does
pub answers_depends : {O : Type 0} (f : List ℕ → Effect × O) (ws : List ℕ) → AnswersByReads f ws → DependsOnReads (λ us. (f us).0) ws
answers_depends {O} f ws a us g = ap (λ (r : Effect × O). r.0) (a us g)

in_eight : (c : ℕ) (ws : List ℕ) (writes : List (ℕ × ℕ)) → InCell c (effect_of ws (cell_words c) writes)
in_eight c ws writes = row_in_cell c (8 * c) 8 (cell_words c) (effect_of ws (cell_words c) writes) refl (cell_row c) (omega arith) (omega arith)

in_three : (c : ℕ) (ws : List ℕ) (writes : List (ℕ × ℕ)) → InCell c (effect_of ws (state_word c ∷ key_word c ∷ length_word c ∷ []) writes)
in_three c ws writes = row_in_cell c (8 * c) 3 (state_word c ∷ key_word c ∷ length_word c ∷ []) (effect_of ws (state_word c ∷ key_word c ∷ length_word c ∷ []) writes) refl (cell_three c) (omega arith) (omega arith)

in_two : (c : ℕ) (ws : List ℕ) (writes : List (ℕ × ℕ)) → InCell c (effect_of ws (state_word c ∷ key_word c ∷ []) writes)
in_two c ws writes = row_in_cell c (8 * c) 2 (state_word c ∷ key_word c ∷ []) (effect_of ws (state_word c ∷ key_word c ∷ []) writes) refl refl (omega arith) (omega arith)

in_one : (c : ℕ) (ws : List ℕ) (writes : List (ℕ × ℕ)) → InCell c (effect_of ws (state_word c ∷ []) writes)
in_one c ws writes = row_in_cell c (8 * c) 1 (state_word c ∷ []) (effect_of ws (state_word c ∷ []) writes) refl refl (omega arith) (omega arith)

in_six : (c : ℕ) (ws : List ℕ) (writes : List (ℕ × ℕ)) → InCell c (effect_of ws (length_word c ∷ value_words c) writes)
in_six c ws writes = row_in_cell c (8 * c + 2) 6 (length_word c ∷ value_words c) (effect_of ws (length_word c ∷ value_words c) writes) refl (cell_six c) (omega arith) (omega arith)

-- three tests, each of which ends with words of the cell read
tested_in : {O : Type 0} (c : ℕ) (x y z : Bool) (full odd other dead : Effect × O) → InCell c full.0 → InCell c odd.0 → InCell c other.0 → InCell c dead.0 → InCell c (cond x (cond y (cond z full odd) other) dead).0
tested_in c x y z full odd other dead a b d e = subst (InCell c) (sym (chosen x y z full odd other dead)) (by_tests c x y z full.0 odd.0 other.0 dead.0 a b d e)

pub operations_stay : OperationsStay
operations_stay = record {
  read = λ c key. record {
    reads = λ ws. tested_in c (state_of ws c == 1) (key_of ws c == key) (is_size (length_of ws c)) (effect_of ws (cell_words c) [], ReadValue (unpacked (length_of ws c) (value_of ws c))) (effect_of ws (state_word c ∷ key_word c ∷ length_word c ∷ []) [], ReadOddLength (length_of ws c)) (effect_of ws (state_word c ∷ key_word c ∷ []) [], ReadOtherKey (key_of ws c)) (effect_of ws (state_word c ∷ []) [], ReadNotLive (state_of ws c)) (in_eight c ws []) (in_three c ws []) (in_two c ws []) (in_one c ws []);
    within = λ ws. row_within (λ us. rows.read us c key) ws (read_row c key ws);
    depends = λ ws. answers_depends (λ us. rows.read us c key) ws (read_by_reads c key ws);
  };
  change = λ c key v. record {
    reads = λ ws. tested_in c (state_of ws c == 1) (key_of ws c == key) (is_size (length_of ws c)) (effect_of ws (cell_words c) (zip (length_word c ∷ value_words c) (length v ∷ packed v)), Changed) (effect_of ws (state_word c ∷ key_word c ∷ length_word c ∷ []) [], ChangeOddLength (length_of ws c)) (effect_of ws (state_word c ∷ key_word c ∷ []) [], ChangeOtherKey (key_of ws c)) (effect_of ws (state_word c ∷ []) [], ChangeNotLive (state_of ws c)) (in_eight c ws (zip (length_word c ∷ value_words c) (length v ∷ packed v))) (in_three c ws []) (in_two c ws []) (in_one c ws []);
    within = λ ws. row_within (λ us. rows.change us c key v) ws (change_row c key v ws);
    depends = λ ws. answers_depends (λ us. rows.change us c key v) ws (change_by_reads c key v ws);
  };
  kill = λ c key. record {
    reads = λ ws. tested_in c (state_of ws c == 1) (key_of ws c == key) (is_size (length_of ws c)) (effect_of ws (state_word c ∷ key_word c ∷ length_word c ∷ []) ((state_word c, 2) ∷ []), Killed) (effect_of ws (state_word c ∷ key_word c ∷ length_word c ∷ []) [], KillOddLength (length_of ws c)) (effect_of ws (state_word c ∷ key_word c ∷ []) [], KillOtherKey (key_of ws c)) (effect_of ws (state_word c ∷ []) [], KillNotLive (state_of ws c)) (in_three c ws ((state_word c, 2) ∷ [])) (in_three c ws []) (in_two c ws []) (in_one c ws []);
    within = λ ws. row_within (λ us. rows.kill us c key) ws (kill_row c key ws);
    depends = λ ws. answers_depends (λ us. rows.kill us c key) ws (kill_by_reads c key ws);
  };
  free = λ c. record {
    reads = λ ws. in_one c ws ((state_word c, 0) ∷ []);
    within = λ ws. effect_within (state_word c ∷ []) ((state_word c, 0) ∷ []) ws (λ i h. h);
    depends = λ ws. free_by_reads c ws;
  };
  revive = λ c. record {
    reads = λ ws. in_one c ws ((state_word c, 1) ∷ []);
    within = λ ws. effect_within (state_word c ∷ []) ((state_word c, 1) ∷ []) ws (λ i h. h);
    depends = λ ws. revive_by_reads c ws;
  };
  restore = λ c n vs. record {
    reads = λ ws. in_six c ws (zip (length_word c ∷ value_words c) (n ∷ vs));
    within = λ ws. effect_within (length_word c ∷ value_words c) (zip (length_word c ∷ value_words c) (n ∷ vs)) ws (zip_within (length_word c ∷ value_words c) (n ∷ vs));
    depends = λ ws. restore_by_reads c n vs ws;
  };
}

pub cells_commute : CellsCommute
cells_commute f g c d ne sf sg ws = apart_commute f g ws (sf.depends ws) (sg.depends ws) (sf.within ws) (sg.within ws) (record { left = λ i w. bit_none (g ws).read i (λ r. other i (sf.reads ws i ((sf.within ws).inside i w)) (sg.reads ws i r)); right = λ i w. bit_none (f ws).read i (λ r. other i (sf.reads ws i r) (sg.reads ws i ((sg.within ws).inside i w))) })
  where
    other : (i : ℕ) → (8 * c ≤ i) × (i < 8 * c + 8) → (8 * d ≤ i) × (i < 8 * d + 8) → ⊥
    other i a b = ne (omega arith)

pub puts_within : PutsWithin
puts_within key v ws = row_within (λ us. rows.put us key v) ws (put_row ws key v [] cells).0

-- ---- the first free cell
-- what a put among the n cells from k on finds and leaves
abbrev pub Walked : List ℕ → ℕ → List ℕ → ℕ → ℕ → Effect → PutOutcome → Type 0
Walked ws key v k n e (Put c) = (k ≤ c) × (c < k + n) × (state_of ws c ≡ 0) × ((d : ℕ) → k ≤ d → d < c → state_of ws d ≢ 0) × (e.after ≡ write_all ws (zip (cell_words c) (1 ∷ key ∷ length v ∷ packed v)))
Walked ws key v k n e NoCell = ((d : ℕ) → k ≤ d → d < k + n → state_of ws d ≢ 0) × (e.after ≡ ws)

widen : (ws : List ℕ) (key : ℕ) (v : List ℕ) (k n : ℕ) (e : Effect) (o : PutOutcome) → state_of ws k ≢ 0 → Walked ws key v (k + 1) n e o → Walked ws key v k (suc n) e o
widen ws key v k n e (Put c) used h = (omega arith, omega arith, h.2, (λ d low high. here_or_later (λ x. x < c → state_of ws x ≢ 0) k d (λ _. used) (λ a b. h.3 d a b) low high), h.4)
widen ws key v k n e NoCell used h = ((λ d low high. here_or_later (λ x. x < k + suc n → state_of ws x ≢ 0) k d (λ _. used) (λ a b. h.0 d a (omega arith)) low high), h.1)

walk : (ws : List ℕ) (key : ℕ) (v seen : List ℕ) (k n : ℕ) → Walked ws key v k n (rows.put_among ws key v seen (row_of k n)).0 (rows.put_among ws key v seen (row_of k n)).1
walk ws key v seen k zero = ((λ d a b. absurd (omega arith)), refl)
walk ws key v seen k (suc n) = go (eqb_tells (state_of ws k) 0) (walk ws key v (seen ++ state_word k ∷ []) (k + 1) n)
  where
    go :
        (((state_of ws k == 0) ≡ true) × (state_of ws k ≡ 0)) ⊎ (((state_of ws k == 0) ≡ false) × (state_of ws k ≢ 0))
        → Walked ws key v (k + 1) n (rows.put_among ws key v (seen ++ state_word k ∷ []) (row_of (k + 1) n)).0 (rows.put_among ws key v (seen ++ state_word k ∷ []) (row_of (k + 1) n)).1
        → Walked ws key v k (suc n) (rows.put_among ws key v seen (row_of k (suc n))).0 (rows.put_among ws key v seen (row_of k (suc n))).1
    go (inl p) ih = rw (p.0) (omega arith, omega arith, p.1, (λ d a b. absurd (omega arith)), refl)
    go (inr p) ih = rw (p.0) (widen ws key v k n (rows.put_among ws key v (seen ++ state_word k ∷ []) (row_of (k + 1) n)).0 (rows.put_among ws key v (seen ++ state_word k ∷ []) (row_of (k + 1) n)).1 p.1 ih)

pub put_walked : (ws : List ℕ) (key : ℕ) (v : List ℕ) → Walked ws key v 1 7 (rows.put ws key v).0 (rows.put ws key v).1
unfolding cells
put_walked ws key v = walk ws key v [] 1 7

first_of : (ws : List ℕ) (key : ℕ) (v : List ℕ) (e : Effect) (o : PutOutcome) → Walked ws key v 1 7 e o → TakesFirst ws o
first_of ws key v e (Put c) h = (h.0, omega arith, h.2, h.3)
first_of ws key v e NoCell h = λ d a b. h.0 d a (omega arith)

pub put_takes_first : PutTakesFirst
put_takes_first ws v key = first_of ws key v (rows.put ws key v).0 (rows.put ws key v).1 (put_walked ws key v)

-- ---- what is undone right away
pub undoes_kill : UndoesKill
undoes_kill ws c key h = go (eqb_tells (state_of ws c) 1) (key_of ws c == key) refl (is_size (length_of ws c)) refl h
  where
    go :
        (((state_of ws c == 1) ≡ true) × (state_of ws c ≡ 1)) ⊎ (((state_of ws c == 1) ≡ false) × (state_of ws c ≢ 1))
        → (y : Bool) → (key_of ws c == key) ≡ y → (z : Bool) → is_size (length_of ws c) ≡ z
        → (rows.kill ws c key).1 ≡ Killed → (rows.revive (rows.kill ws c key).0.after c).after ≡ ws
    go (inl p) true q true r h = rw (p.0, q, r) (set-set ws (8 * c) 2 1 ∙ ap (set ws (8 * c)) (sym p.1) ∙ set-get_or ws (8 * c) 0)
    go (inl p) true q false r h = let no = rw (p.0, q, r) at h in absurd (cc (no))
    go (inl p) false q z r h = let no = rw (p.0, q) at h in absurd (cc (no))
    go (inr p) y q z r h = let no = rw (p.0) at h in absurd (cc (no))

olds_are : (ws : List ℕ) (c : ℕ) → length ws ≡ 64 → c ≤ 7 → length_of ws c ∷ value_of ws c ≡ take 6 (drop (8 * c + 2) ws)
olds_are ws c long low =
    let e : 8 * c + 2 + 1 ≡ 8 * c + 3 = omega arith in
    sym (ap (take 6) (drop_more ws (8 * c + 2) 0 (omega arith)) ∙ ap (λ k. length_of ws c ∷ take 5 (drop k ws)) e)

pub undoes_change : UndoesChange
undoes_change ws v c key long low h = go (state_of ws c == 1) refl (key_of ws c == key) refl (is_size (length_of ws c)) refl h
  where
    news : List ℕ
    news = length v ∷ packed v

    olds : List ℕ
    olds = length_of ws c ∷ value_of ws c

    five : length (value_of ws c) ≡ 5
    five = length-take-le 5 (drop (8 * c + 3) ws) (omega (arith, length-drop (8 * c + 3) ws))

    six : length olds ≡ 6
    six = ap suc five

    back : write_all (write_all ws (zip (length_word c ∷ value_words c) news)) (zip (length_word c ∷ value_words c) olds) ≡ ws
    back =
        ap (λ is. write_all (write_all ws (zip is news)) (zip is olds)) (sym (cell_six c))
        ∙ ap (λ n. write_all (write_all ws (zip (row_of (8 * c + 2) 6) news)) (zip (row_of (8 * c + 2) n) olds)) (sym six)
        ∙ row_back (8 * c + 2) news ws olds (omega arith) (olds_are ws c long low)

    go :
        (x : Bool) → (state_of ws c == 1) ≡ x → (y : Bool) → (key_of ws c == key) ≡ y → (z : Bool) → is_size (length_of ws c) ≡ z
        → (rows.change ws c key v).1 ≡ Changed → (rows.restore (rows.change ws c key v).0.after c (length_of ws c) (value_of ws c)).after ≡ ws
    go true p true q true r h = rw (p, q, r) back
    go true p true q false r h = let no = rw (p, q, r) at h in absurd (cc (no))
    go true p false q z r h = let no = rw (p, q) at h in absurd (cc (no))
    go false p y q z r h = let no = rw (p) at h in absurd (cc (no))

abbrev Freed : List ℕ → ℕ → List ℕ → Type 0
Freed ws c us = (length us ≡ 64) × ((i : ℕ) → (i ≤ 8 * c) ⊎ (8 * c + 8 ≤ i) → get_or us i 0 ≡ get_or ws i 0)

put_back : (ws v : List ℕ) (c key : ℕ) (e : Effect) → length ws ≡ 64 → Walked ws key v 1 7 e (Put c) → Freed ws c (rows.free e.after c).after
put_back ws v c key e long h = (size, each)
  where
    writes : List (ℕ × ℕ)
    writes = zip (cell_words c) (1 ∷ key ∷ length v ∷ packed v)

    size : length (set e.after (8 * c) 0) ≡ 64
    size = length-set e.after (8 * c) 0 ∙ ap length h.4 ∙ length-write_all ws writes ∙ long

    each : (i : ℕ) → (i ≤ 8 * c) ⊎ (8 * c + 8 ≤ i) → get_or (set e.after (8 * c) 0) i 0 ≡ get_or ws i 0
    each i out = ⊎_elim same other (eqb_tells i (8 * c))
      where
        same : ((i == 8 * c) ≡ true) × (i ≡ 8 * c) → get_or (set e.after (8 * c) 0) i 0 ≡ get_or ws i 0
        same a =
            let here : get_or (set e.after (8 * c) 0) (8 * c) 0 ≡ 0 = get_or-set_same e.after (8 * c) 0 0 (omega (arith, size, length-set e.after (8 * c) 0)) in
            ap (λ j. get_or (set e.after (8 * c) 0) j 0) a.1 ∙ here ∙ sym h.2 ∙ ap (λ j. get_or ws j 0) (sym a.1)

        other : ((i == 8 * c) ≡ false) × (i ≢ 8 * c) → get_or (set e.after (8 * c) 0) i 0 ≡ get_or ws i 0
        other a =
            get_or-set_other e.after (8 * c) i 0 0 a.1 ∙ ap (λ (xs : List ℕ). get_or xs i 0) h.4
            ∙ unwritten ws writes i (λ g. let at = in_row (8 * c) 8 i (subst (λ js. IsIn js i) (sym (cell_row c)) g) in ⊎_elim (λ b. a.1 (omega arith)) (λ b. absurd (omega arith)) out)

pub undoes_put : UndoesPut
undoes_put ws v c key long h = put_back ws v c key (rows.put ws key v).0 long (subst (λ o. Walked ws key v 1 7 (rows.put ws key v).0 o) h (put_walked ws key v))
