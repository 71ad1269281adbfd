-- The slots of a region: what each entry and each cell holds of a key, and what a write to one leaves in all.
--     seen k state key rest      a slot's content for key k: nothing, or its state and what it holds
--     entry_part k ws e          the same of an entry
--     cell_part k ws c           the same of a cell; cell 0 is none
--     Puts part ws vs k i xs     vs holds xs of key k in slot i, and all else as ws does
use Rattle.std.proofs.Common.{◌≡◌, ℕ, zero, suc, ◌+◌, ◌*◌, ◌<◌, ◌≤◌, Bool, true, false, cond, List, [], ◌∷◌, length, get_or, set, take, drop, refl, ap, ◌∙◌, ◌⊎◌, inl, inr, ⊎_elim, ◌≢◌, arith, get_or-set_other, get_or-set_same}
use Rattle.std.specs.Prelude.{◌==◌, ◌&&◌, if◌then◌else◌, ⊤}
use Rattle.std.proofs.lemmas.Bool.Decides.{eqb_tells}
use Rattle.std.proofs.lemmas.Bool.{eq-eqb, ne_eqb}
use Rattle.dali_lists.proofs.Lists.{past_is_zero}
use Rattle.dali_words.specs.Effects.{write_all}
use Rattle.dali_access.specs.Heap.Cells as cell
use Rattle.dali_access.specs.Index.Entries as entry

abbrev pub seen : ℕ → ℕ → ℕ → List ℕ → List ℕ
seen k state key rest = if state == 0 then [] else (if key == k then state ∷ rest else [])

abbrev pub entry_part : ℕ → List ℕ → ℕ → List ℕ
entry_part k ws e = seen k (entry.state_of ws e) (entry.key_of ws e) (entry.place_of ws e ∷ [])

-- the five words of a cell's value
abbrev pub value_at : List ℕ → ℕ → List ℕ
value_at ws c = get_or ws (8 * c + 3) 0 ∷ get_or ws (8 * c + 4) 0 ∷ get_or ws (8 * c + 5) 0 ∷ get_or ws (8 * c + 6) 0 ∷ get_or ws (8 * c + 7) 0 ∷ []

abbrev pub cell_part : ℕ → List ℕ → ℕ → List ℕ
cell_part k ws c = if c == 0 then [] else seen k (cell.state_of ws c) (cell.key_of ws c) (cell.length_of ws c ∷ value_at ws c)

abbrev pub Puts : (ℕ → List ℕ → ℕ → List ℕ) → List ℕ → List ℕ → ℕ → ℕ → List ℕ → Type 0
Puts part ws vs k i xs = (q j : ℕ) → part q vs j ≡ (if (q == k) && (j == i) then xs else part q ws j)

-- ---- words
-- no pair names word i
abbrev pub Misses : ℕ → List (ℕ × ℕ) → Type 0
Misses i [] = ⊤
Misses i (p ∷ ps) = (i ≢ p.0) × Misses i ps

pub word_kept : (ws : List ℕ) (ps : List (ℕ × ℕ)) (i : ℕ) → Misses i ps → get_or (write_all ws ps) i 0 ≡ get_or ws i 0
word_kept ws [] i h = refl
word_kept ws (p ∷ ps) i h = word_kept (set ws p.0 p.1) ps i h.1 ∙ get_or-set_other ws p.0 i p.1 0 h.0

-- the first pair's word, where no later pair names it
pub word_put : (ws : List ℕ) (i x : ℕ) (ps : List (ℕ × ℕ)) → i < length ws → Misses i ps → get_or (write_all (set ws i x) ps) i 0 ≡ x
word_put ws i x ps h m = word_kept (set ws i x) ps i m ∙ get_or-set_same ws i x 0 h

pub five_words : (n : ℕ) (ws : List ℕ) → n + 5 ≤ length ws → take 5 (drop n ws) ≡ get_or ws n 0 ∷ get_or ws (suc n) 0 ∷ get_or ws (suc (suc n)) 0 ∷ get_or ws (suc (suc (suc n))) 0 ∷ get_or ws (suc (suc (suc (suc n)))) 0 ∷ []
five_words zero [] h = absurd (omega arith)
five_words zero (a ∷ []) h = absurd (omega arith)
five_words zero (a ∷ b ∷ []) h = absurd (omega arith)
five_words zero (a ∷ b ∷ c ∷ []) h = absurd (omega arith)
five_words zero (a ∷ b ∷ c ∷ d ∷ []) h = absurd (omega arith)
five_words zero (a ∷ b ∷ c ∷ d ∷ e ∷ ws) h = refl
five_words (suc n) [] h = absurd (omega arith)
five_words (suc n) (w ∷ ws) h = five_words n ws (omega arith)

pub value_of-value_at : (ws : List ℕ) (c : ℕ) → 8 * c + 8 ≤ length ws → cell.value_of ws c ≡ value_at ws c
value_of-value_at ws c h =
    let a : suc (8 * c + 3) ≡ 8 * c + 4 = omega arith in
    let b : suc (suc (8 * c + 3)) ≡ 8 * c + 5 = omega arith in
    let d : suc (suc (suc (8 * c + 3))) ≡ 8 * c + 6 = omega arith in
    let e : suc (suc (suc (suc (8 * c + 3)))) ≡ 8 * c + 7 = omega arith in
    let f = five_words (8 * c + 3) ws (omega arith) in
    rw (e, d, b, a) at f

-- ---- a slot for all keys
-- what is seen of other keys than the one that was there and is there
pub seen_other : (q key state : ℕ) (rest : List ℕ) → key ≢ q → seen q state key rest ≡ []
seen_other q key state rest h = by_state (state == 0)
  where
    by_state : (b : Bool) → cond b [] (cond (key == q) (state ∷ rest) []) ≡ []
    by_state true = refl
    by_state false = rw (ne_eqb key q h) refl

pub seen_free : (q key state : ℕ) (rest : List ℕ) → state ≡ 0 → seen q state key rest ≡ []
seen_free q key state rest h = rw h refl

pub seen_used : (key state : ℕ) (rest : List ℕ) → state ≢ 0 → seen key state key rest ≡ state ∷ rest
seen_used key state rest h = rw (ne_eqb state 0 h, eq-eqb key key refl) refl

-- what is seen says what stands there
pub seen_is : (k key state : ℕ) (rest : List ℕ) (x : ℕ) (xs : List ℕ) → seen k state key rest ≡ x ∷ xs → (state ≡ x) × (rest ≡ xs) × (key ≡ k) × (state ≢ 0)
seen_is k key state rest x xs e = go (eqb_tells state 0) (eqb_tells key k)
  where
    go : (((state == 0) ≡ true) × (state ≡ 0)) ⊎ (((state == 0) ≡ false) × (state ≢ 0)) → (((key == k) ≡ true) × (key ≡ k)) ⊎ (((key == k) ≡ false) × (key ≢ k)) → (state ≡ x) × (rest ≡ xs) × (key ≡ k) × (state ≢ 0)
    go (inl p) d = let h = rw (p.0) at e in absurd (cc)
    go (inr p) (inl d) = let h : state ∷ rest ≡ x ∷ xs = rw (p.0, d.0) at e in (cc, cc, d.1, p.1)
    go (inr p) (inr d) = let h = rw (p.0, d.0) at e in absurd (cc)

-- ---- an entry
-- the words of the other entries stay: what is seen of them does
pub entry_same : (ws vs : List ℕ) (e : ℕ) → entry.state_of vs e ≡ entry.state_of ws e → entry.key_of vs e ≡ entry.key_of ws e → entry.place_of vs e ≡ entry.place_of ws e → (q : ℕ) → entry_part q vs e ≡ entry_part q ws e
entry_same ws vs e a b c q = rw (a, b, c) refl

pub cell_same : (ws vs : List ℕ) (c : ℕ) → cell.state_of vs c ≡ cell.state_of ws c → cell.key_of vs c ≡ cell.key_of ws c → cell.length_of vs c ∷ value_at vs c ≡ cell.length_of ws c ∷ value_at ws c → (q : ℕ) → cell_part q vs c ≡ cell_part q ws c
cell_same ws vs c a b d q = rw (a, b, d) refl

-- a write to one slot, from what it leaves in that slot and in others
pub puts_by :
    (part : ℕ → List ℕ → ℕ → List ℕ) (ws vs : List ℕ) (k i : ℕ) (xs : List ℕ)
    → part k vs i ≡ xs → ((q : ℕ) → q ≢ k → part q vs i ≡ part q ws i) → ((q j : ℕ) → j ≢ i → part q vs j ≡ part q ws j) → Puts part ws vs k i xs
puts_by part ws vs k i xs here beside others q j = go (eqb_tells q k) (eqb_tells j i)
  where
    go : (((q == k) ≡ true) × (q ≡ k)) ⊎ (((q == k) ≡ false) × (q ≢ k)) → (((j == i) ≡ true) × (j ≡ i)) ⊎ (((j == i) ≡ false) × (j ≢ i)) → part q vs j ≡ (if (q == k) && (j == i) then xs else part q ws j)
    go (inl p) (inl d) = rw (p.0, d.0) (let a : part q vs j ≡ part k vs i = ap (λ x. part x vs j) p.1 ∙ ap (λ x. part k vs x) d.1 in a ∙ here)
    go (inl p) (inr d) = rw (p.0, d.0) (others q j d.1)
    go (inr p) (inl d) = rw (p.0) (let a : part q vs j ≡ part q vs i = ap (λ x. part q vs x) d.1 in let b : part q ws j ≡ part q ws i = ap (λ x. part q ws x) d.1 in cc (a, b, beside q p.1))
    go (inr p) (inr d) = rw (p.0) (others q j d.1)

-- a cell of another key, and one that is free, hold nothing
pub cell_other : (q : ℕ) (ws : List ℕ) (c : ℕ) → cell.key_of ws c ≢ q → cell_part q ws c ≡ []
cell_other q ws c h = by_zero (c == 0)
  where
    by_zero : (b : Bool) → cond b [] (seen q (cell.state_of ws c) (cell.key_of ws c) (cell.length_of ws c ∷ value_at ws c)) ≡ []
    by_zero true = refl
    by_zero false = seen_other q (cell.key_of ws c) (cell.state_of ws c) (cell.length_of ws c ∷ value_at ws c) h

pub cell_free : (q : ℕ) (ws : List ℕ) (c : ℕ) → cell.state_of ws c ≡ 0 → cell_part q ws c ≡ []
cell_free q ws c h = by_zero (c == 0)
  where
    by_zero : (b : Bool) → cond b [] (seen q (cell.state_of ws c) (cell.key_of ws c) (cell.length_of ws c ∷ value_at ws c)) ≡ []
    by_zero true = refl
    by_zero false = seen_free q (cell.key_of ws c) (cell.state_of ws c) (cell.length_of ws c ∷ value_at ws c) h

-- what a cell holds says what stands there
pub cell_is : (k : ℕ) (ws : List ℕ) (c : ℕ) (x : ℕ) (xs : List ℕ) → cell_part k ws c ≡ x ∷ xs → (cell.state_of ws c ≡ x) × (cell.length_of ws c ∷ value_at ws c ≡ xs) × (cell.key_of ws c ≡ k) × (cell.state_of ws c ≢ 0) × (c ≢ 0)
cell_is k ws c x xs e = go (eqb_tells c 0)
  where
    go : (((c == 0) ≡ true) × (c ≡ 0)) ⊎ (((c == 0) ≡ false) × (c ≢ 0)) → (cell.state_of ws c ≡ x) × (cell.length_of ws c ∷ value_at ws c ≡ xs) × (cell.key_of ws c ≡ k) × (cell.state_of ws c ≢ 0) × (c ≢ 0)
    go (inl p) = let h = rw (p.0) at e in absurd (cc)
    go (inr p) = let h = seen_is k (cell.key_of ws c) (cell.state_of ws c) (cell.length_of ws c ∷ value_at ws c) x xs (rw (p.0) at e) in (h.0, h.1, h.2, h.3, p.1)

pub entry_is : (k : ℕ) (ws : List ℕ) (e : ℕ) (x : ℕ) (xs : List ℕ) → entry_part k ws e ≡ x ∷ xs → (entry.state_of ws e ≡ x) × (entry.place_of ws e ∷ [] ≡ xs) × (entry.key_of ws e ≡ k) × (entry.state_of ws e ≢ 0)
entry_is k ws e x xs h = seen_is k (entry.key_of ws e) (entry.state_of ws e) (entry.place_of ws e ∷ []) x xs h

pub entry_none : (k : ℕ) (ws : List ℕ) (e : ℕ) (x : ℕ) (xs : List ℕ) → length ws ≡ 64 → entry_part k ws e ≡ x ∷ xs → e < 21
entry_none k ws e x xs long h = ⊎_elim (λ a. a) (λ a. absurd ((entry_is k ws e x xs h).3 (past_is_zero ws (3 * e + 1) (omega arith)))) (split e)
  where
    split : (i : ℕ) → (i < 21) ⊎ (21 ≤ i)
    split i = grind arith

pub cell_none : (k : ℕ) (ws : List ℕ) (c : ℕ) (x : ℕ) (xs : List ℕ) → length ws ≡ 64 → cell_part k ws c ≡ x ∷ xs → (0 < c) × (c < 8)
cell_none k ws c x xs long h = let s = cell_is k ws c x xs h in (omega (arith, s.4), ⊎_elim (λ a. a) (λ a. absurd (s.3 (past_is_zero ws (8 * c) (omega arith)))) (split c))
  where
    split : (i : ℕ) → (i < 8) ⊎ (8 ≤ i)
    split i = grind arith
