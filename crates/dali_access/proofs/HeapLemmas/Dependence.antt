-- What each operation on a heap region does depends on the words that it reads alone.
use Rattle.std.proofs.Common.{◌≡◌, ℕ, zero, suc, ◌+◌, ◌*◌, ◌<◌, Bool, true, false, cond, List, [], ◌∷◌, ◌++◌, length, refl, ap, sym, subst, ◌∙◌, inl, inr, arith, get_or, map}
use Rattle.std.specs.Prelude.{◌==◌, zip}
use Rattle.dali_lists.proofs.Numbers.{eqb_carried}
use Rattle.dali_words.specs.declared.Effect.{Effect}
use Rattle.dali_words.specs.declared.KillOutcome.{KillOutcome}
use Rattle.dali_words.specs.declared.KillOutcome.TheVariants.{NotLive as KillNotLive, OtherKey as KillOtherKey, OddLength as KillOddLength, Killed}
use Rattle.dali_words.specs.Values.{is_size, packed, unpacked}
use Rattle.dali_words.specs.Effects.{effect_of, AnswersByReads, DependsOnReads}
use Rattle.dali_words.proofs.Masks.{IsIn, in_left, in_right, take_drop_same}
use Rattle.dali_words.proofs.Dependence.{Agree, Row, row_answers, effect_depends}
use Rattle.dali_access.specs.declared.heap.PutOutcome.{PutOutcome}
use Rattle.dali_access.specs.declared.heap.PutOutcome.TheVariants.{Put, NoCell}
use Rattle.dali_access.specs.declared.heap.ReadOutcome.{ReadOutcome}
use Rattle.dali_access.specs.declared.heap.ReadOutcome.TheVariants.{NotLive as ReadNotLive, OtherKey as ReadOtherKey, OddLength as ReadOddLength, Value as ReadValue}
use Rattle.dali_access.specs.declared.heap.ChangeOutcome.{ChangeOutcome}
use Rattle.dali_access.specs.declared.heap.ChangeOutcome.TheVariants.{NotLive as ChangeNotLive, OtherKey as ChangeOtherKey, OddLength as ChangeOddLength, Changed}
use Rattle.dali_access.specs.Heap.Cells.{state_word, key_word, length_word, value_words, cell_words, cells, state_of, key_of, length_of, value_of}
use Rattle.dali_access.specs.Heap.Rows as rows

-- ---- tests of words that agree

abbrev Within : List ℕ → List ℕ → Type 0
Within xs ys = (i : ℕ) → IsIn xs i → IsIn ys i

-- ---- three tests of a cell
abbrev three : ℕ → List ℕ
three c = state_word c ∷ key_word c ∷ length_word c ∷ []

abbrev tested : {O : Type 0} → ℕ → ℕ → (List ℕ → Effect × O) → (List ℕ → Effect × O) → (List ℕ → Effect × O) → (List ℕ → Effect × O) → List ℕ → Effect × O
tested c key full odd other dead ws = cond (state_of ws c == 1) (cond (key_of ws c == key) (cond (is_size (length_of ws c)) (full ws) (odd ws)) (other ws)) (dead ws)

tested_row :
    {O : Type 0} (c key : ℕ) (full odd other dead : List ℕ → Effect × O) (ws : List ℕ)
    → (a : Row O full ws) → Within (three c) a.reads
    → (b : Row O odd ws) → Within (three c) b.reads
    → (d : Row O other ws) → Within (state_word c ∷ key_word c ∷ []) d.reads
    → (e : Row O dead ws) → Within (state_word c ∷ []) e.reads
    → Row O (tested c key full odd other dead) ws
tested_row {O} c key full odd other dead ws a a3 b b3 d d2 e e1 = by_tests (state_of ws c == 1) (key_of ws c == key) (is_size (length_of ws c)) refl refl refl
  where
    state_same : (us reads : List ℕ) (t : Bool) → Agree reads ws us → IsIn reads (state_word c) → (state_of ws c == 1) ≡ t → (state_of us c == 1) ≡ t
    state_same us reads t g h p = eqb_carried _ _ 1 t (g.1 (state_word c) h) p

    key_same : (us reads : List ℕ) (t : Bool) → Agree reads ws us → IsIn reads (key_word c) → (key_of ws c == key) ≡ t → (key_of us c == key) ≡ t
    key_same us reads t g h p = eqb_carried _ _ key t (g.1 (key_word c) h) p

    size_same : (us reads : List ℕ) (t : Bool) → Agree reads ws us → IsIn reads (length_word c) → is_size (length_of ws c) ≡ t → is_size (length_of us c) ≡ t
    size_same us reads t g h p = ap is_size (sym (g.1 (length_word c) h)) ∙ p

    by_tests : (x y z : Bool) → (state_of ws c == 1) ≡ x → (key_of ws c == key) ≡ y → is_size (length_of ws c) ≡ z → Row O (tested c key full odd other dead) ws
    by_tests true true true p q r = record { reads = a.reads; writes = a.writes; out = a.out; inside = a.inside; gives = gives }
      where
        gives : (us : List ℕ) → Agree a.reads ws us → tested c key full odd other dead us ≡ (effect_of us a.reads a.writes, a.out)
        gives us g = rw (state_same us a.reads true g (a3 _ (inl refl)) p, key_same us a.reads true g (a3 _ (inr (inl refl))) q, size_same us a.reads true g (a3 _ (inr (inr (inl refl)))) r) (a.gives us g)
    by_tests true true false p q r = record { reads = b.reads; writes = b.writes; out = b.out; inside = b.inside; gives = gives }
      where
        gives : (us : List ℕ) → Agree b.reads ws us → tested c key full odd other dead us ≡ (effect_of us b.reads b.writes, b.out)
        gives us g = rw (state_same us b.reads true g (b3 _ (inl refl)) p, key_same us b.reads true g (b3 _ (inr (inl refl))) q, size_same us b.reads false g (b3 _ (inr (inr (inl refl)))) r) (b.gives us g)
    by_tests true false z p q r = record { reads = d.reads; writes = d.writes; out = d.out; inside = d.inside; gives = gives }
      where
        gives : (us : List ℕ) → Agree d.reads ws us → tested c key full odd other dead us ≡ (effect_of us d.reads d.writes, d.out)
        gives us g = rw (state_same us d.reads true g (d2 _ (inl refl)) p, key_same us d.reads false g (d2 _ (inr (inl refl))) q) (d.gives us g)
    by_tests false y z p q r = record { reads = e.reads; writes = e.writes; out = e.out; inside = e.inside; gives = gives }
      where
        gives : (us : List ℕ) → Agree e.reads ws us → tested c key full odd other dead us ≡ (effect_of us e.reads e.writes, e.out)
        gives us g = rw (state_same us e.reads false g (e1 _ (inl refl)) p) (e.gives us g)

-- an outcome that tells one of the words read
abbrev told_row : {O : Type 0} (reads : List ℕ) (i : ℕ) (tell : ℕ → O) (ws : List ℕ) → IsIn reads i → Row O (λ us. (effect_of us reads [], tell (get_or us i 0))) ws
told_row {O} reads i tell ws h = record { reads = reads; writes = []; out = tell (get_or ws i 0); inside = λ j g. absurd g; gives = λ us g. ap (λ n. (effect_of us reads [], tell n)) (sym (g.1 i h)) }

-- the same outcome whatever the words are
abbrev plain_row : {O : Type 0} (reads : List ℕ) (writes : List (ℕ × ℕ)) (o : O) (ws : List ℕ) → Within (map (λ p. p.0) writes) reads → Row O (λ us. (effect_of us reads writes, o)) ws
plain_row reads writes o ws inside = record { reads = reads; writes = writes; out = o; inside = inside; gives = λ us g. refl }

-- the words of a value agree
pub value_same : (c : ℕ) (ws us : List ℕ) → Agree (cell_words c) ws us → value_of us c ≡ value_of ws c
value_same c ws us a = take_drop_same (8 * c + 3) 5 us ws (sym a.0) each
  where
    at : (i j : ℕ) → j ≡ 8 * c + 3 + i → IsIn (cell_words c) j → get_or us (8 * c + 3 + i) 0 ≡ get_or ws (8 * c + 3 + i) 0
    at i j e h = subst (λ k. get_or us k 0 ≡ get_or ws k 0) e (sym (a.1 j h))

    each : (i : ℕ) → i < 5 → get_or us (8 * c + 3 + i) 0 ≡ get_or ws (8 * c + 3 + i) 0
    each zero h = at 0 (8 * c + 3) (omega arith) (inr (inr (inr (inl refl))))
    each (suc zero) h = at 1 (8 * c + 4) (omega arith) (inr (inr (inr (inr (inl refl)))))
    each (suc (suc zero)) h = at 2 (8 * c + 5) (omega arith) (inr (inr (inr (inr (inr (inl refl))))))
    each (suc (suc (suc zero))) h = at 3 (8 * c + 6) (omega arith) (inr (inr (inr (inr (inr (inr (inl refl)))))))
    each (suc (suc (suc (suc zero)))) h = at 4 (8 * c + 7) (omega arith) (inr (inr (inr (inr (inr (inr (inr (inl refl))))))))
    each (suc (suc (suc (suc (suc i))))) h = absurd (omega arith)

abbrev value_read : ℕ → List ℕ → Effect × ReadOutcome
value_read c us = (effect_of us (cell_words c) [], ReadValue (unpacked (length_of us c) (value_of us c)))

value_gives : (c : ℕ) (ws us : List ℕ) → Agree (cell_words c) ws us → value_read c us ≡ (effect_of us (cell_words c) [], ReadValue (unpacked (length_of ws c) (value_of ws c)))
value_gives c ws us g =
    let n : length_of us c ≡ length_of ws c = sym (g.1 (length_word c) (inr (inr (inl refl)))) in
    let v : value_of us c ≡ value_of ws c = value_same c ws us g in
    rw (n, v) refl

abbrev value_row : (c : ℕ) (ws : List ℕ) → Row ReadOutcome (value_read c) ws
value_row c ws = record { reads = cell_words c; writes = []; out = ReadValue (unpacked (length_of ws c) (value_of ws c)); inside = λ i h. absurd h; gives = value_gives c ws }

-- ---- the rows
in_three : (c : ℕ) (rest : List ℕ) → Within (three c) (three c ++ rest)
in_three c rest = in_left (three c) rest

pub read_row : (c key : ℕ) (ws : List ℕ) → Row ReadOutcome (λ us. rows.read us c key) ws
read_row c key ws =
    (tested_row c key _ _ _ _ ws
    (value_row c ws) (in_three c (value_words c))
    (told_row (three c) (length_word c) ReadOddLength ws (inr (inr (inl refl)))) (λ i h. h)
    (told_row (state_word c ∷ key_word c ∷ []) (key_word c) ReadOtherKey ws (inr (inl refl))) (λ i h. h)
    (told_row (state_word c ∷ []) (state_word c) ReadNotLive ws (inl refl)) (λ i h. h))

pub read_by_reads : (c key : ℕ) (ws : List ℕ) → AnswersByReads (λ us. rows.read us c key) ws
read_by_reads c key ws = row_answers (λ us. rows.read us c key) ws (read_row c key ws)

pub change_row : (c key : ℕ) (v ws : List ℕ) → Row ChangeOutcome (λ us. rows.change us c key v) ws
change_row c key v ws =
    (tested_row c key _ _ _ _ ws
    (plain_row (cell_words c) (zip (length_word c ∷ value_words c) (length v ∷ packed v)) Changed ws (in_right (state_word c ∷ key_word c ∷ []) (length_word c ∷ value_words c))) (in_three c (value_words c))
    (told_row (three c) (length_word c) ChangeOddLength ws (inr (inr (inl refl)))) (λ i h. h)
    (told_row (state_word c ∷ key_word c ∷ []) (key_word c) ChangeOtherKey ws (inr (inl refl))) (λ i h. h)
    (told_row (state_word c ∷ []) (state_word c) ChangeNotLive ws (inl refl)) (λ i h. h))

pub change_by_reads : (c key : ℕ) (v ws : List ℕ) → AnswersByReads (λ us. rows.change us c key v) ws
change_by_reads c key v ws = row_answers (λ us. rows.change us c key v) ws (change_row c key v ws)

pub kill_row : (c key : ℕ) (ws : List ℕ) → Row KillOutcome (λ us. rows.kill us c key) ws
kill_row c key ws =
    (tested_row c key _ _ _ _ ws
    (plain_row (three c) ((state_word c, 2) ∷ []) Killed ws (in_left (state_word c ∷ []) (key_word c ∷ length_word c ∷ []))) (λ i h. h)
    (told_row (three c) (length_word c) KillOddLength ws (inr (inr (inl refl)))) (λ i h. h)
    (told_row (state_word c ∷ key_word c ∷ []) (key_word c) KillOtherKey ws (inr (inl refl))) (λ i h. h)
    (told_row (state_word c ∷ []) (state_word c) KillNotLive ws (inl refl)) (λ i h. h))

pub kill_by_reads : (c key : ℕ) (ws : List ℕ) → AnswersByReads (λ us. rows.kill us c key) ws
kill_by_reads c key ws = row_answers (λ us. rows.kill us c key) ws (kill_row c key ws)

pub free_by_reads : (c : ℕ) (ws : List ℕ) → DependsOnReads (λ us. rows.free us c) ws
free_by_reads c ws = effect_depends (state_word c ∷ []) ((state_word c, 0) ∷ []) ws

pub revive_by_reads : (c : ℕ) (ws : List ℕ) → DependsOnReads (λ us. rows.revive us c) ws
revive_by_reads c ws = effect_depends (state_word c ∷ []) ((state_word c, 1) ∷ []) ws

pub restore_by_reads : (c n : ℕ) (vs ws : List ℕ) → DependsOnReads (λ us. rows.restore us c n vs) ws
restore_by_reads c n vs ws = effect_depends (length_word c ∷ value_words c) (zip (length_word c ∷ value_words c) (n ∷ vs)) ws

-- the walk over the cells
pub put_row : (ws : List ℕ) (key : ℕ) (v seen cs : List ℕ) → (R : Row PutOutcome (λ us. rows.put_among us key v seen cs) ws) × Within seen R.reads
put_row ws key v seen [] = (record { reads = seen; writes = []; out = NoCell; inside = λ i h. absurd h; gives = λ us a. refl }, λ i h. h)
put_row ws key v seen (c ∷ cs) = by_test (put_row ws key v (seen ++ state_word c ∷ []) cs) (state_of ws c == 0) refl
  where
    by_test :
        (R : Row PutOutcome (λ us. rows.put_among us key v (seen ++ state_word c ∷ []) cs) ws) × Within (seen ++ state_word c ∷ []) R.reads
        → (b : Bool) → (state_of ws c == 0) ≡ b
        → (R : Row PutOutcome (λ us. rows.put_among us key v seen (c ∷ cs)) ws) × Within seen R.reads
    by_test later true q = (record { reads = seen ++ cell_words c; writes = zip (cell_words c) (1 ∷ key ∷ length v ∷ packed v); out = Put c; inside = in_right seen (cell_words c); gives = gives }, in_left seen _)
      where
        gives : (us : List ℕ) → Agree (seen ++ cell_words c) ws us → rows.put_among us key v seen (c ∷ cs) ≡ (effect_of us (seen ++ cell_words c) (zip (cell_words c) (1 ∷ key ∷ length v ∷ packed v)), Put c)
        gives us a = let f : (state_of us c == 0) ≡ true = eqb_carried _ _ 0 true (a.1 (state_word c) (in_right seen _ (state_word c) (inl refl))) q in rw f refl
    by_test later false q = (record { reads = later.0.reads; writes = later.0.writes; out = later.0.out; inside = later.0.inside; gives = gives }, λ i h. later.1 i (in_left seen _ i h))
      where
        gives : (us : List ℕ) → Agree later.0.reads ws us → rows.put_among us key v seen (c ∷ cs) ≡ (effect_of us later.0.reads later.0.writes, later.0.out)
        gives us a = let f : (state_of us c == 0) ≡ false = eqb_carried _ _ 0 false (a.1 (state_word c) (later.1 (state_word c) (in_right seen _ (state_word c) (inl refl)))) q in rw f (later.0.gives us a)

pub put_by_reads : (key : ℕ) (v ws : List ℕ) → AnswersByReads (λ us. rows.put us key v) ws
put_by_reads key v ws = row_answers (λ us. rows.put us key v) ws (put_row ws key v [] cells).0
