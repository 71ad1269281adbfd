-- What the writes of each operation leave in the slots of a region.
use Rattle.std.proofs.Common.{◌≡◌, ℕ, ◌+◌, ◌*◌, ◌<◌, ◌≤◌, false, List, [], ◌∷◌, length, get_or, set, refl, sym, ◌∙◌, ◌≢◌, arith, length-set, get_or-set_other, get_or-set_same}
use Rattle.std.specs.Prelude.{◌==◌, if◌then◌else◌}
use Rattle.std.proofs.lemmas.Bool.{eq-eqb, ne_eqb}
use Rattle.dali_words.specs.Effects.{write_all}
use Rattle.dali_access.specs.Heap.Cells as cell
use Rattle.dali_access.specs.Index.Entries as entry
use Rattle.dali_access.proofs.IndexLemmas.Slots.{seen, entry_part, cell_part, value_at, Puts, Misses, word_kept, word_put, seen_other, seen_free, seen_used, seen_is, entry_same, cell_same, puts_by, cell_other, cell_free}

-- a state, and what stands behind it
abbrev pub held : ℕ → List ℕ → List ℕ
held state rest = if state == 0 then [] else state ∷ rest

seen_held : (key state : ℕ) (rest : List ℕ) → seen key state key rest ≡ held state rest
seen_held key state rest = rw (eq-eqb key key refl) refl

-- ---- entries
-- an entry's state is written
pub entry_state_put : (ws : List ℕ) (k e x y : ℕ) (xs : List ℕ) → 3 * e + 3 < length ws → entry_part k ws e ≡ y ∷ xs → Puts entry_part ws (write_all ws ((entry.state_word e, x) ∷ [])) k e (held x xs)
entry_state_put ws k e x y xs fits was = puts_by entry_part ws (set ws (3 * e + 1) x) k e (held x xs) here beside others
  where
    state : get_or (set ws (3 * e + 1) x) (3 * e + 1) 0 ≡ x
    state = get_or-set_same ws (3 * e + 1) x 0 (omega arith)

    key : get_or (set ws (3 * e + 1) x) (3 * e + 2) 0 ≡ get_or ws (3 * e + 2) 0
    key = get_or-set_other ws (3 * e + 1) (3 * e + 2) x 0 (omega arith)

    place : get_or (set ws (3 * e + 1) x) (3 * e + 3) 0 ≡ get_or ws (3 * e + 3) 0
    place = get_or-set_other ws (3 * e + 1) (3 * e + 3) x 0 (omega arith)

    says : (entry.state_of ws e ≡ y) × (entry.place_of ws e ∷ [] ≡ xs) × (entry.key_of ws e ≡ k) × (entry.state_of ws e ≢ 0)
    says = seen_is k (entry.key_of ws e) (entry.state_of ws e) (entry.place_of ws e ∷ []) y xs was

    here : entry_part k (set ws (3 * e + 1) x) e ≡ held x xs
    here = rw (state, key, place, says.2, says.1) (seen_held k x xs)

    beside : (q : ℕ) → q ≢ k → entry_part q (set ws (3 * e + 1) x) e ≡ entry_part q ws e
    beside q apart =
        let after : entry_part q (set ws (3 * e + 1) x) e ≡ [] = seen_other q (entry.key_of (set ws (3 * e + 1) x) e) _ _ (λ h. apart (sym h ∙ key ∙ says.2)) in
        let before : entry_part q ws e ≡ [] = seen_other q (entry.key_of ws e) _ _ (λ h. apart (sym h ∙ says.2)) in
        after ∙ sym before

    others : (q j : ℕ) → j ≢ e → entry_part q (set ws (3 * e + 1) x) j ≡ entry_part q ws j
    others q j apart = entry_same ws (set ws (3 * e + 1) x) j (get_or-set_other ws (3 * e + 1) (3 * j + 1) x 0 (omega arith)) (get_or-set_other ws (3 * e + 1) (3 * j + 2) x 0 (omega arith)) (get_or-set_other ws (3 * e + 1) (3 * j + 3) x 0 (omega arith)) q

abbrev pub entry_writes : ℕ → ℕ → ℕ → List (ℕ × ℕ)
entry_writes e k p = (entry.state_word e, 1) ∷ (entry.key_word e, k) ∷ (entry.place_word e, p) ∷ []

-- a free entry is written
pub entry_put : (ws : List ℕ) (k e p : ℕ) → 3 * e + 3 < length ws → entry.state_of ws e ≡ 0 → Puts entry_part ws (write_all ws (entry_writes e k p)) k e (1 ∷ p ∷ [])
entry_put ws k e p fits free = puts_by entry_part ws (write_all ws (entry_writes e k p)) k e (1 ∷ p ∷ []) here beside others
  where
    state : entry.state_of (write_all ws (entry_writes e k p)) e ≡ 1
    state = word_put ws (3 * e + 1) 1 ((entry.key_word e, k) ∷ (entry.place_word e, p) ∷ []) (omega arith) (omega arith)

    key : entry.key_of (write_all ws (entry_writes e k p)) e ≡ k
    key = word_put (set ws (3 * e + 1) 1) (3 * e + 2) k ((entry.place_word e, p) ∷ []) (omega (arith, length-set ws (3 * e + 1) 1)) (omega arith)

    place : entry.place_of (write_all ws (entry_writes e k p)) e ≡ p
    place = word_put (set (set ws (3 * e + 1) 1) (3 * e + 2) k) (3 * e + 3) p [] (omega (arith, length-set ws (3 * e + 1) 1, length-set (set ws (3 * e + 1) 1) (3 * e + 2) k)) tt

    here : entry_part k (write_all ws (entry_writes e k p)) e ≡ 1 ∷ p ∷ []
    here = rw (state, key, place) (seen_held k 1 (p ∷ []))

    beside : (q : ℕ) → q ≢ k → entry_part q (write_all ws (entry_writes e k p)) e ≡ entry_part q ws e
    beside q apart =
        let after : entry_part q (write_all ws (entry_writes e k p)) e ≡ [] = seen_other q (entry.key_of (write_all ws (entry_writes e k p)) e) _ _ (λ h. apart (sym h ∙ key)) in
        let before : entry_part q ws e ≡ [] = seen_free q (entry.key_of ws e) _ _ free in
        after ∙ sym before

    others : (q j : ℕ) → j ≢ e → entry_part q (write_all ws (entry_writes e k p)) j ≡ entry_part q ws j
    others q j apart = entry_same ws (write_all ws (entry_writes e k p)) j (word_kept ws (entry_writes e k p) (3 * j + 1) (omega arith)) (word_kept ws (entry_writes e k p) (3 * j + 2) (omega arith)) (word_kept ws (entry_writes e k p) (3 * j + 3) (omega arith)) q

-- ---- cells
-- a cell's state is written
pub cell_state_put : (ws : List ℕ) (k c x y : ℕ) (xs : List ℕ) → 0 < c → 8 * c + 7 < length ws → cell_part k ws c ≡ y ∷ xs → Puts cell_part ws (write_all ws ((cell.state_word c, x) ∷ [])) k c (held x xs)
cell_state_put ws k c x y xs some fits was = puts_by cell_part ws (set ws (8 * c) x) k c (held x xs) here beside others
  where
    no_zero : (c == 0) ≡ false
    no_zero = ne_eqb c 0 (λ h. omega arith)

    state : get_or (set ws (8 * c) x) (8 * c) 0 ≡ x
    state = get_or-set_same ws (8 * c) x 0 (omega arith)

    key : get_or (set ws (8 * c) x) (8 * c + 1) 0 ≡ get_or ws (8 * c + 1) 0
    key = get_or-set_other ws (8 * c) (8 * c + 1) x 0 (omega arith)

    stays : (i : ℕ) → i ≢ 8 * c → get_or (set ws (8 * c) x) i 0 ≡ get_or ws i 0
    stays i h = get_or-set_other ws (8 * c) i x 0 h

    rest : cell.length_of (set ws (8 * c) x) c ∷ value_at (set ws (8 * c) x) c ≡ cell.length_of ws c ∷ value_at ws c
    rest = rw (stays (8 * c + 2) (omega arith), stays (8 * c + 3) (omega arith), stays (8 * c + 4) (omega arith), stays (8 * c + 5) (omega arith), stays (8 * c + 6) (omega arith), stays (8 * c + 7) (omega arith)) refl

    says : (cell.state_of ws c ≡ y) × (cell.length_of ws c ∷ value_at ws c ≡ xs) × (cell.key_of ws c ≡ k) × (cell.state_of ws c ≢ 0)
    says = seen_is k (cell.key_of ws c) (cell.state_of ws c) (cell.length_of ws c ∷ value_at ws c) y xs (rw no_zero at was)

    here : cell_part k (set ws (8 * c) x) c ≡ held x xs
    here = rw (no_zero, state, rest, key, says.2, says.1) (seen_held k x xs)

    beside : (q : ℕ) → q ≢ k → cell_part q (set ws (8 * c) x) c ≡ cell_part q ws c
    beside q apart =
        cell_other q (set ws (8 * c) x) c (λ h. apart (sym h ∙ key ∙ says.2)) ∙ sym (cell_other q ws c (λ h. apart (sym h ∙ says.2)))

    others : (q j : ℕ) → j ≢ c → cell_part q (set ws (8 * c) x) j ≡ cell_part q ws j
    others q j apart =
        cell_same ws (set ws (8 * c) x) j (stays (8 * j) (omega arith)) (stays (8 * j + 1) (omega arith))
        (rw (stays (8 * j + 2) (omega arith), stays (8 * j + 3) (omega arith), stays (8 * j + 4) (omega arith), stays (8 * j + 5) (omega arith), stays (8 * j + 6) (omega arith), stays (8 * j + 7) (omega arith)) refl) q

abbrev pub value_writes : (c n a0 a1 a2 a3 a4 : ℕ) → List (ℕ × ℕ)
value_writes c n a0 a1 a2 a3 a4 = (8 * c + 2, n) ∷ (8 * c + 3, a0) ∷ (8 * c + 4, a1) ∷ (8 * c + 5, a2) ∷ (8 * c + 6, a3) ∷ (8 * c + 7, a4) ∷ []

abbrev pub cell_writes : (c k n a0 a1 a2 a3 a4 : ℕ) → List (ℕ × ℕ)
cell_writes c k n a0 a1 a2 a3 a4 = (8 * c, 1) ∷ (8 * c + 1, k) ∷ value_writes c n a0 a1 a2 a3 a4

-- the length and the value are written
value_put : (ws : List ℕ) (c n a0 a1 a2 a3 a4 : ℕ) → 8 * c + 7 < length ws → cell.length_of (write_all ws (value_writes c n a0 a1 a2 a3 a4)) c ∷ value_at (write_all ws (value_writes c n a0 a1 a2 a3 a4)) c ≡ n ∷ a0 ∷ a1 ∷ a2 ∷ a3 ∷ a4 ∷ []
value_put ws c n a0 a1 a2 a3 a4 fits = rw (w2, w3, w4, w5, w6, w7) refl
  where
    s2 : List ℕ
    s2 = set ws (8 * c + 2) n

    s3 : List ℕ
    s3 = set (set ws (8 * c + 2) n) (8 * c + 3) a0

    s4 : List ℕ
    s4 = set (set (set ws (8 * c + 2) n) (8 * c + 3) a0) (8 * c + 4) a1

    s5 : List ℕ
    s5 = set (set (set (set ws (8 * c + 2) n) (8 * c + 3) a0) (8 * c + 4) a1) (8 * c + 5) a2

    s6 : List ℕ
    s6 = set (set (set (set (set ws (8 * c + 2) n) (8 * c + 3) a0) (8 * c + 4) a1) (8 * c + 5) a2) (8 * c + 6) a3

    l2 : length s2 ≡ length ws
    l2 = length-set ws (8 * c + 2) n

    l3 : length s3 ≡ length ws
    l3 = length-set s2 (8 * c + 3) a0 ∙ l2

    l4 : length s4 ≡ length ws
    l4 = length-set s3 (8 * c + 4) a1 ∙ l3

    l5 : length s5 ≡ length ws
    l5 = length-set s4 (8 * c + 5) a2 ∙ l4

    l6 : length s6 ≡ length ws
    l6 = length-set s5 (8 * c + 6) a3 ∙ l5

    w2 : get_or (write_all ws (value_writes c n a0 a1 a2 a3 a4)) (8 * c + 2) 0 ≡ n
    w2 = word_put ws (8 * c + 2) n ((8 * c + 3, a0) ∷ (8 * c + 4, a1) ∷ (8 * c + 5, a2) ∷ (8 * c + 6, a3) ∷ (8 * c + 7, a4) ∷ []) (omega arith) (omega arith)

    w3 : get_or (write_all ws (value_writes c n a0 a1 a2 a3 a4)) (8 * c + 3) 0 ≡ a0
    w3 = word_put s2 (8 * c + 3) a0 ((8 * c + 4, a1) ∷ (8 * c + 5, a2) ∷ (8 * c + 6, a3) ∷ (8 * c + 7, a4) ∷ []) (omega (arith, l2)) (omega arith)

    w4 : get_or (write_all ws (value_writes c n a0 a1 a2 a3 a4)) (8 * c + 4) 0 ≡ a1
    w4 = word_put s3 (8 * c + 4) a1 ((8 * c + 5, a2) ∷ (8 * c + 6, a3) ∷ (8 * c + 7, a4) ∷ []) (omega (arith, l3)) (omega arith)

    w5 : get_or (write_all ws (value_writes c n a0 a1 a2 a3 a4)) (8 * c + 5) 0 ≡ a2
    w5 = word_put s4 (8 * c + 5) a2 ((8 * c + 6, a3) ∷ (8 * c + 7, a4) ∷ []) (omega (arith, l4)) (omega arith)

    w6 : get_or (write_all ws (value_writes c n a0 a1 a2 a3 a4)) (8 * c + 6) 0 ≡ a3
    w6 = word_put s5 (8 * c + 6) a3 ((8 * c + 7, a4) ∷ []) (omega (arith, l5)) (omega arith)

    w7 : get_or (write_all ws (value_writes c n a0 a1 a2 a3 a4)) (8 * c + 7) 0 ≡ a4
    w7 = word_put s6 (8 * c + 7) a4 [] (omega (arith, l6)) tt

-- writes within one cell leave the others
others_kept : (ws : List ℕ) (ps : List (ℕ × ℕ)) (j : ℕ) → ((i : ℕ) → 8 * j ≤ i → i < 8 * j + 8 → Misses i ps) → (q : ℕ) → cell_part q (write_all ws ps) j ≡ cell_part q ws j
others_kept ws ps j miss q =
    cell_same ws (write_all ws ps) j (stays (8 * j) (omega arith) (omega arith)) (stays (8 * j + 1) (omega arith) (omega arith))
    (rw (stays (8 * j + 2) (omega arith) (omega arith), stays (8 * j + 3) (omega arith) (omega arith), stays (8 * j + 4) (omega arith) (omega arith), stays (8 * j + 5) (omega arith) (omega arith), stays (8 * j + 6) (omega arith) (omega arith), stays (8 * j + 7) (omega arith) (omega arith)) refl) q
  where
    stays : (i : ℕ) → 8 * j ≤ i → i < 8 * j + 8 → get_or (write_all ws ps) i 0 ≡ get_or ws i 0
    stays i a b = word_kept ws ps i (miss i a b)

-- the value of a cell that is used is written
pub cell_value_put : (ws : List ℕ) (k c y : ℕ) (xs : List ℕ) (n a0 a1 a2 a3 a4 : ℕ) → 0 < c → 8 * c + 7 < length ws → cell_part k ws c ≡ y ∷ xs → Puts cell_part ws (write_all ws (value_writes c n a0 a1 a2 a3 a4)) k c (y ∷ n ∷ a0 ∷ a1 ∷ a2 ∷ a3 ∷ a4 ∷ [])
cell_value_put ws k c y xs n a0 a1 a2 a3 a4 some fits was = puts_by cell_part ws vs k c (y ∷ n ∷ a0 ∷ a1 ∷ a2 ∷ a3 ∷ a4 ∷ []) here beside others
  where
    vs : List ℕ
    vs = write_all ws (value_writes c n a0 a1 a2 a3 a4)

    no_zero : (c == 0) ≡ false
    no_zero = ne_eqb c 0 (λ h. omega arith)

    says : (cell.state_of ws c ≡ y) × (cell.length_of ws c ∷ value_at ws c ≡ xs) × (cell.key_of ws c ≡ k) × (cell.state_of ws c ≢ 0)
    says = seen_is k (cell.key_of ws c) (cell.state_of ws c) (cell.length_of ws c ∷ value_at ws c) y xs (rw no_zero at was)

    state : cell.state_of vs c ≡ y
    state = word_kept ws (value_writes c n a0 a1 a2 a3 a4) (8 * c) (omega arith) ∙ says.0

    key : cell.key_of vs c ≡ k
    key = word_kept ws (value_writes c n a0 a1 a2 a3 a4) (8 * c + 1) (omega arith) ∙ says.2

    used : y ≢ 0
    used h = says.3 (says.0 ∙ h)

    here : cell_part k vs c ≡ y ∷ n ∷ a0 ∷ a1 ∷ a2 ∷ a3 ∷ a4 ∷ []
    here = rw (no_zero, state, key, value_put ws c n a0 a1 a2 a3 a4 fits) (seen_used k y _ used)

    beside : (q : ℕ) → q ≢ k → cell_part q vs c ≡ cell_part q ws c
    beside q apart =
        cell_other q vs c (λ h. apart (sym h ∙ key)) ∙ sym (cell_other q ws c (λ h. apart (sym h ∙ says.2)))

    others : (q j : ℕ) → j ≢ c → cell_part q vs j ≡ cell_part q ws j
    others q j apart = others_kept ws (value_writes c n a0 a1 a2 a3 a4) j (λ i a b. omega arith) q

-- a free cell is written
pub cell_put : (ws : List ℕ) (k c n a0 a1 a2 a3 a4 : ℕ) → 0 < c → 8 * c + 7 < length ws → cell.state_of ws c ≡ 0 → Puts cell_part ws (write_all ws (cell_writes c k n a0 a1 a2 a3 a4)) k c (1 ∷ n ∷ a0 ∷ a1 ∷ a2 ∷ a3 ∷ a4 ∷ [])
cell_put ws k c n a0 a1 a2 a3 a4 some fits free = puts_by cell_part ws vs k c (1 ∷ n ∷ a0 ∷ a1 ∷ a2 ∷ a3 ∷ a4 ∷ []) here beside others
  where
    us : List ℕ
    us = set (set ws (8 * c) 1) (8 * c + 1) k

    vs : List ℕ
    vs = write_all us (value_writes c n a0 a1 a2 a3 a4)

    long : length us ≡ length ws
    long = length-set (set ws (8 * c) 1) (8 * c + 1) k ∙ length-set ws (8 * c) 1

    no_zero : (c == 0) ≡ false
    no_zero = ne_eqb c 0 (λ h. omega arith)

    state : cell.state_of vs c ≡ 1
    state = word_put ws (8 * c) 1 ((8 * c + 1, k) ∷ value_writes c n a0 a1 a2 a3 a4) (omega arith) (omega arith)

    key : cell.key_of vs c ≡ k
    key = word_put (set ws (8 * c) 1) (8 * c + 1) k (value_writes c n a0 a1 a2 a3 a4) (omega (arith, length-set ws (8 * c) 1)) (omega arith)

    here : cell_part k vs c ≡ 1 ∷ n ∷ a0 ∷ a1 ∷ a2 ∷ a3 ∷ a4 ∷ []
    here = rw (no_zero, state, key, value_put us c n a0 a1 a2 a3 a4 (omega (arith, long))) (seen_used k 1 _ (omega arith))

    beside : (q : ℕ) → q ≢ k → cell_part q vs c ≡ cell_part q ws c
    beside q apart =
        cell_other q vs c (λ h. apart (sym h ∙ key)) ∙ sym (cell_free q ws c free)

    others : (q j : ℕ) → j ≢ c → cell_part q vs j ≡ cell_part q ws j
    others q j apart = others_kept ws (cell_writes c k n a0 a1 a2 a3 a4) j (λ i a b. omega arith) q

-- writes past word 0 leave it
pub word_zero : (ws : List ℕ) (ps : List (ℕ × ℕ)) → Misses 0 ps → get_or (write_all ws ps) 0 0 ≡ get_or ws 0 0
word_zero ws ps h = word_kept ws ps 0 h
