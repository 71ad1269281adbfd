-- What each operation on a region finds there, writes there and answers.
--     IsEffect ws e              e reads some words of ws and writes some
--     LookFinds, AddFinds ..     the cases of an operation's answer, by what the slots hold
use Rattle.std.proofs.Common.{subst, ◌≡◌, ℕ, zero, suc, ◌+◌, ◌<◌, ◌≤◌, Bool, true, false, cond, not, List, [], ◌∷◌, ◌++◌, length, set, refl, sym, ◌⊎◌, inl, inr, ⊎_elim, ◌≢◌, arith}
use Rattle.std.specs.Prelude.{◌==◌, if◌then◌else◌, ⊤, zip}
use Rattle.std.proofs.lemmas.Bool.Decides.{eqb_tells}
use Rattle.dali_words.specs.declared.Effect.{Effect}
use Rattle.dali_words.specs.Values.{packed}
use Rattle.dali_words.specs.Effects.{write_all, effect_of}
use Rattle.dali_access.specs.Heap.Cells as cell
use Rattle.dali_access.specs.Heap.Cells.{cells}
use Rattle.dali_access.specs.Heap.Rows as heap
use Rattle.dali_access.specs.declared.heap.PutOutcome.{PutOutcome}
use Rattle.dali_access.specs.declared.heap.PutOutcome.TheVariants.{Put, NoCell}
use Rattle.dali_access.specs.Index.Entries as entry
use Rattle.dali_access.specs.Index.Entries.{entries}
use Rattle.dali_access.specs.Index.Rows as index
use Rattle.dali_access.specs.declared.index.LookOutcome.{LookOutcome}
use Rattle.dali_access.specs.declared.index.LookOutcome.TheVariants.{Found, Absent}
use Rattle.dali_access.specs.declared.index.AddOutcome.{AddOutcome}
use Rattle.dali_access.specs.declared.index.AddOutcome.TheVariants.{Added, NoEntry}
use Rattle.dali_access.proofs.IndexLemmas.Moves.{entry_writes}

-- ---- the slots of a region as numbers
abbrev pub from : ℕ → ℕ → List ℕ
from n zero = []
from n (suc m) = n ∷ from (suc n) m

pub entries-from : entries ≡ from 0 21
unfolding entries
entries-from = refl

pub cells-from : cells ≡ from 1 7
unfolding cells
cells-from = refl

abbrev pub Each : (ℕ → Type 0) → List ℕ → Type 0
Each P [] = ⊤
Each P (x ∷ xs) = P x × Each P xs

pub each_from : (P : ℕ → Type 0) (n m : ℕ) → Each P (from n m) → (i : ℕ) → n ≤ i → i < n + m → P i
each_from P n zero h i a b = absurd (omega arith)
each_from P n (suc m) h i a b = by_first (eqb_tells i n) (each_from P (suc n) m h.1 i)
  where
    by_first : (((i == n) ≡ true) × (i ≡ n)) ⊎ (((i == n) ≡ false) × (i ≢ n)) → (suc n ≤ i → i < suc n + m → P i) → P i
    by_first (inl p) ih = subst P (sym p.1) h.0
    by_first (inr p) ih = ih (omega (arith, p.1)) (omega arith)

pub from_within : (P : ℕ → Type 0) (n m : ℕ) → ((i : ℕ) → n ≤ i → i < n + m → P i) → Each P (from n m)
from_within P n zero h = tt
from_within P n (suc m) h = (h n (omega arith) (omega arith), from_within P (suc n) m (λ i a b. h i (omega arith) (omega arith)))

-- ---- effects
abbrev pub IsEffect : List ℕ → Effect → Type 0
IsEffect ws e = (reads : List ℕ) × (writes : List (ℕ × ℕ)) × (e ≡ effect_of ws reads writes)

-- ---- look
abbrev pub LookFinds : List ℕ → ℕ → Effect → LookOutcome → List ℕ → Type 0
LookFinds ws key e o es =
    IsEffect ws e × (e.after ≡ ws)
    × (((i p : ℕ) × (o ≡ Found i p) × (i < 21) × (entry.state_of ws i ≡ 1) × (entry.key_of ws i ≡ key) × (entry.place_of ws i ≡ p))
    ⊎ ((o ≡ Absent (not (entry.flag_of ws == 0))) × Each (λ i. entry.state_of ws i ≡ 1 → entry.key_of ws i ≢ key) es))

look_among_finds : (ws : List ℕ) (key : ℕ) (read es : List ℕ) → Each (λ i. i < 21) es → LookFinds ws key (index.look_among ws key read es).0 (index.look_among ws key read es).1 es
look_among_finds ws key read [] h = ((read ++ 0 ∷ [], [], refl), refl, inr (refl, tt))
look_among_finds ws key read (e ∷ es) h = go (eqb_tells (entry.state_of ws e) 1) (eqb_tells (entry.key_of ws e) key) (λ rd. look_among_finds ws key rd es h.1)
  where
    more : ((entry.state_of ws e ≡ 1 → entry.key_of ws e ≢ key)) → (f : Effect) (o : LookOutcome) → LookFinds ws key f o es → LookFinds ws key f o (e ∷ es)
    more n f o x = (x.0, x.1, ⊎_elim (λ y. inl y) (λ y. inr (y.0, (n, y.1))) x.2)

    go :
        (((entry.state_of ws e == 1) ≡ true) × (entry.state_of ws e ≡ 1)) ⊎ (((entry.state_of ws e == 1) ≡ false) × (entry.state_of ws e ≢ 1))
        → (((entry.key_of ws e == key) ≡ true) × (entry.key_of ws e ≡ key)) ⊎ (((entry.key_of ws e == key) ≡ false) × (entry.key_of ws e ≢ key))
        → ((rd : List ℕ) → LookFinds ws key (index.look_among ws key rd es).0 (index.look_among ws key rd es).1 es)
        → LookFinds ws key (index.look_among ws key read (e ∷ es)).0 (index.look_among ws key read (e ∷ es)).1 (e ∷ es)
    go (inl p) (inl q) ih = rw (p.0, q.0) ((read ++ entry.state_word e ∷ entry.key_word e ∷ entry.place_word e ∷ [], [], refl), refl, inl (e, entry.place_of ws e, refl, h.0, p.1, q.1, refl))
    go (inl p) (inr q) ih = rw (p.0, q.0) (more (λ _. q.1) _ _ (ih (read ++ entry.state_word e ∷ entry.key_word e ∷ [])))
    go (inr p) q ih = rw (p.0) (more (λ k. absurd (p.1 k)) _ _ (ih (read ++ entry.state_word e ∷ [])))

-- a look leaves the words, and finds a live entry of the key or knows that there is none
pub look_finds : (ws : List ℕ) (key : ℕ) → LookFinds ws key (index.look ws key).0 (index.look ws key).1 entries
look_finds ws key = look_among_finds ws key [] entries (rw entries-from (from_within (λ i. i < 21) 0 21 (λ i a b. omega arith)))

-- ---- add
abbrev pub AddFinds : List ℕ → ℕ → ℕ → Effect → AddOutcome → List ℕ → Type 0
AddFinds ws key p e o es =
    IsEffect ws e
    × (((i : ℕ) × (o ≡ Added i) × (i < 21) × (entry.state_of ws i ≡ 0) × (e.after ≡ write_all ws (entry_writes i key p)))
    ⊎ ((o ≡ NoEntry) × (e.after ≡ (if entry.flag_of ws == 0 then set ws 0 1 else ws))))

add_end : (ws : List ℕ) (key p : ℕ) (read : List ℕ) → AddFinds ws key p (index.add_among ws key p read []).0 (index.add_among ws key p read []).1 []
add_end ws key p read = by_flag (entry.flag_of ws == 0)
  where
    by_flag :
        (b : Bool)
        → IsEffect ws (effect_of ws (read ++ 0 ∷ []) (cond b ((0, 1) ∷ []) []))
        × (((i : ℕ) × (NoEntry ≡ Added i) × (i < 21) × (entry.state_of ws i ≡ 0) × ((effect_of ws (read ++ 0 ∷ []) (cond b ((0, 1) ∷ []) [])).after ≡ write_all ws (entry_writes i key p)))
        ⊎ ((NoEntry ≡ NoEntry) × ((effect_of ws (read ++ 0 ∷ []) (cond b ((0, 1) ∷ []) [])).after ≡ (if b then set ws 0 1 else ws))))
    by_flag true = ((read ++ 0 ∷ [], (0, 1) ∷ [], refl), inr (refl, refl))
    by_flag false = ((read ++ 0 ∷ [], [], refl), inr (refl, refl))

add_among_finds : (ws : List ℕ) (key p : ℕ) (read es : List ℕ) → Each (λ i. i < 21) es → AddFinds ws key p (index.add_among ws key p read es).0 (index.add_among ws key p read es).1 es
add_among_finds ws key p read [] h = add_end ws key p read
add_among_finds ws key p read (e ∷ es) h = go (eqb_tells (entry.state_of ws e) 0) (add_among_finds ws key p (read ++ entry.state_word e ∷ []) es h.1)
  where
    go :
        (((entry.state_of ws e == 0) ≡ true) × (entry.state_of ws e ≡ 0)) ⊎ (((entry.state_of ws e == 0) ≡ false) × (entry.state_of ws e ≢ 0))
        → AddFinds ws key p (index.add_among ws key p (read ++ entry.state_word e ∷ []) es).0 (index.add_among ws key p (read ++ entry.state_word e ∷ []) es).1 es
        → AddFinds ws key p (index.add_among ws key p read (e ∷ es)).0 (index.add_among ws key p read (e ∷ es)).1 (e ∷ es)
    go (inl q) ih = rw (q.0) ((read ++ entry.state_word e ∷ entry.key_word e ∷ entry.place_word e ∷ [], entry_writes e key p, refl), inl (e, refl, h.0, q.1, refl))
    go (inr q) ih = rw (q.0) ih

-- an add writes a free entry, or raises the flag
pub add_finds : (ws : List ℕ) (key p : ℕ) → AddFinds ws key p (index.add ws key p).0 (index.add ws key p).1 entries
add_finds ws key p = add_among_finds ws key p [] entries (rw entries-from (from_within (λ i. i < 21) 0 21 (λ i a b. omega arith)))

-- ---- put
abbrev pub PutFinds : List ℕ → ℕ → List ℕ → Effect → PutOutcome → List ℕ → Type 0
PutFinds ws key v e o cs =
    IsEffect ws e
    × (((c : ℕ) × (o ≡ Put c) × (0 < c) × (c < 8) × (cell.state_of ws c ≡ 0) × (e.after ≡ write_all ws (zip (cell.cell_words c) (1 ∷ key ∷ length v ∷ packed v))))
    ⊎ ((o ≡ NoCell) × (e.after ≡ ws)))

put_among_finds : (ws : List ℕ) (key : ℕ) (v read cs : List ℕ) → Each (λ c. (0 < c) × (c < 8)) cs → PutFinds ws key v (heap.put_among ws key v read cs).0 (heap.put_among ws key v read cs).1 cs
put_among_finds ws key v read [] h = ((read, [], refl), inr (refl, refl))
put_among_finds ws key v read (c ∷ cs) h = go (eqb_tells (cell.state_of ws c) 0) (put_among_finds ws key v (read ++ cell.state_word c ∷ []) cs h.1)
  where
    go :
        (((cell.state_of ws c == 0) ≡ true) × (cell.state_of ws c ≡ 0)) ⊎ (((cell.state_of ws c == 0) ≡ false) × (cell.state_of ws c ≢ 0))
        → PutFinds ws key v (heap.put_among ws key v (read ++ cell.state_word c ∷ []) cs).0 (heap.put_among ws key v (read ++ cell.state_word c ∷ []) cs).1 cs
        → PutFinds ws key v (heap.put_among ws key v read (c ∷ cs)).0 (heap.put_among ws key v read (c ∷ cs)).1 (c ∷ cs)
    go (inl q) ih = rw (q.0) ((read ++ cell.cell_words c, zip (cell.cell_words c) (1 ∷ key ∷ length v ∷ packed v), refl), inl (c, refl, h.0.0, h.0.1, q.1, refl))
    go (inr q) ih = rw (q.0) ih

-- a put writes a free cell
pub put_finds : (ws : List ℕ) (key : ℕ) (v : List ℕ) → PutFinds ws key v (heap.put ws key v).0 (heap.put ws key v).1 cells
put_finds ws key v = put_among_finds ws key v [] cells (rw cells-from (from_within (λ c. (0 < c) × (c < 8)) 1 7 (λ i a b. (omega arith, omega arith))))
