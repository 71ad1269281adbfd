-- What a put reads, and what it does beside operations on other cells.
use Rattle.std.proofs.Common.{◌≡◌, ◌≢◌, ℕ, zero, suc, ◌+◌, ◌-◌, ◌*◌, ◌<◌, ◌≤◌, true, false, List, [], ◌∷◌, ◌++◌, length, refl, ap, sym, subst, ◌∙◌, ◌⊎◌, inl, inr, ⊎_elim, arith, append-nil, append_assoc, map}
use Rattle.std.specs.Prelude.{◌==◌, zip}
use Rattle.std.specs.Int.{bit_at}
use Rattle.std.proofs.lemmas.Bool.Decides.{eqb_tells}
use Rattle.std.proofs.lemmas.Nat.Bits.{bit_at-zero}
use Rattle.dali_lists.proofs.Numbers.{bit_none}
use Rattle.dali_words.specs.declared.Effect.{Effect}
use Rattle.dali_words.specs.Words.{mask_of, row_of}
use Rattle.dali_words.specs.Values.{packed}
use Rattle.dali_words.specs.Effects.{effect_of, carried, IsWithin, AnswersByReads}
use Rattle.dali_words.specs.Laws.{AnswersCommute}
use Rattle.dali_words.proofs.Masks.{IsIn, in-mask_of}
use Rattle.dali_words.proofs.Apart.{agree_after, answers_commute}
use Rattle.dali_words.proofs.Rows.{in_row, zip_within}
use Rattle.dali_words.proofs.Dependence.{answer_carried, depends_answers}
use Rattle.dali_access.specs.declared.heap.PutOutcome.{PutOutcome}
use Rattle.dali_access.specs.declared.heap.PutOutcome.TheVariants.{Put, NoCell}
use Rattle.dali_access.specs.Heap.Cells.{state_word, cell_words, cells, state_of}
use Rattle.dali_access.specs.Heap.Rows as rows
use Rattle.dali_access.specs.Heap.Operations.{CellOperation, Read, Change, Kill, Free, Revive, Restore, HasRead, HasChanged, HasKilled, Undone, done}
use Rattle.dali_access.specs.Heap.Laws.{InCell, TakesFirst}
use Rattle.dali_access.specs.Heap.Orders.{states_before, PutReads, OperationsCommute, StaysFirst, PutCommutes, Passes, PutTakesFreed}
use Rattle.dali_access.proofs.HeapLemmas.CellLaws.{operations_stay, puts_within, put_takes_first}
use Rattle.dali_access.proofs.HeapLemmas.Dependence.{read_by_reads, change_by_reads, kill_by_reads, free_by_reads, revive_by_reads, restore_by_reads}
use Rattle.dali_access.proofs.HeapLemmas.Walk.{cell_row}

-- ---- what a put reads
abbrev taken : List ℕ → ℕ → List ℕ → List ℕ → ℕ → Effect × PutOutcome
taken ws key v reads c = (effect_of ws (reads ++ cell_words c) (zip (cell_words c) (1 ∷ key ∷ length v ∷ packed v)), Put c)

-- the first free cell stands j cells after k
takes : (ws : List ℕ) (key : ℕ) (v seen : List ℕ) (k n j : ℕ) → j < n → state_of ws (k + j) ≡ 0 → ((d : ℕ) → k ≤ d → d < k + j → state_of ws d ≢ 0) → rows.put_among ws key v seen (row_of k n) ≡ taken ws key v (seen ++ map state_word (row_of k j)) (k + j)
takes ws key v seen k zero j few free used = absurd (omega arith)
takes ws key v seen k (suc n) zero few free used =
    let here : k + 0 ≡ k = omega arith in
    let test : (state_of ws k == 0) ≡ true = by_test (eqb_tells (state_of ws k) 0) (ap (state_of ws) (sym here) ∙ free) in
    rw test (ap (λ (xs : List ℕ). taken ws key v xs k) (sym (append-nil seen)) ∙ ap (λ c. taken ws key v (seen ++ []) c) (sym here))
  where
    by_test : (((state_of ws k == 0) ≡ true) × (state_of ws k ≡ 0)) ⊎ (((state_of ws k == 0) ≡ false) × (state_of ws k ≢ 0)) → state_of ws k ≡ 0 → (state_of ws k == 0) ≡ true
    by_test (inl p) e = p.0
    by_test (inr p) e = absurd (p.1 e)
takes ws key v seen k (suc n) (suc j) few free used =
    let next : k + 1 + j ≡ k + suc j = omega arith in
    let test : (state_of ws k == 0) ≡ false = by_test (eqb_tells (state_of ws k) 0) (used k (omega arith) (omega arith)) in
    let later = takes ws key v (seen ++ state_word k ∷ []) (k + 1) n j (omega arith) (ap (state_of ws) next ∙ free) (λ d a b. used d (omega arith) (omega arith)) in
    rw test (later ∙ ap (λ (xs : List ℕ). taken ws key v xs (k + 1 + j)) (append_assoc seen (state_word k ∷ []) (map state_word (row_of (k + 1) j))) ∙ ap (λ c. taken ws key v (seen ++ map state_word (row_of k (suc j))) c) next)
  where
    by_test : (((state_of ws k == 0) ≡ true) × (state_of ws k ≡ 0)) ⊎ (((state_of ws k == 0) ≡ false) × (state_of ws k ≢ 0)) → state_of ws k ≢ 0 → (state_of ws k == 0) ≡ false
    by_test (inl p) h = absurd (h p.1)
    by_test (inr p) h = p.0

takes_none : (ws : List ℕ) (key : ℕ) (v seen : List ℕ) (k n : ℕ) → ((d : ℕ) → k ≤ d → d < k + n → state_of ws d ≢ 0) → rows.put_among ws key v seen (row_of k n) ≡ (effect_of ws (seen ++ map state_word (row_of k n)) [], NoCell)
takes_none ws key v seen k zero used = ap (λ (xs : List ℕ). (effect_of ws xs [], NoCell)) (sym (append-nil seen))
takes_none ws key v seen k (suc n) used =
    let test : (state_of ws k == 0) ≡ false = by_test (eqb_tells (state_of ws k) 0) (used k (omega arith) (omega arith)) in
    rw test (takes_none ws key v (seen ++ state_word k ∷ []) (k + 1) n (λ d a b. used d (omega arith) (omega arith)) ∙ ap (λ (xs : List ℕ). (effect_of ws xs [], NoCell)) (append_assoc seen (state_word k ∷ []) (map state_word (row_of (k + 1) n))))
  where
    by_test : (((state_of ws k == 0) ≡ true) × (state_of ws k ≡ 0)) ⊎ (((state_of ws k == 0) ≡ false) × (state_of ws k ≢ 0)) → state_of ws k ≢ 0 → (state_of ws k == 0) ≡ false
    by_test (inl p) h = absurd (h p.1)
    by_test (inr p) h = p.0

put_first : (ws v : List ℕ) (key c : ℕ) → 1 ≤ c → c ≤ 7 → state_of ws c ≡ 0 → ((d : ℕ) → 1 ≤ d → d < c → state_of ws d ≢ 0) → rows.put ws key v ≡ taken ws key v (states_before c) c
unfolding cells
put_first ws v key c low high free used =
    let at : 1 + (c - 1) ≡ c = omega arith in
    takes ws key v [] 1 7 (c - 1) (omega arith) (ap (state_of ws) at ∙ free) (λ d a b. used d a (omega arith)) ∙ ap (λ e. taken ws key v (states_before c) e) at

put_none : (ws v : List ℕ) (key : ℕ) → ((d : ℕ) → 1 ≤ d → d ≤ 7 → state_of ws d ≢ 0) → rows.put ws key v ≡ (effect_of ws (states_before 8) [], NoCell)
unfolding cells
put_none ws v key used = takes_none ws key v [] 1 7 (λ d a b. used d a (omega arith))

pub put_reads : PutReads
put_reads = record { put = put_first; none = put_none }

-- ---- any operation on a cell
pub record IsOn (c : ℕ) (o : CellOperation) (ws : List ℕ) : Type 0 where
  pub reads : InCell c (done o c ws).0
  pub within : IsWithin ws (done o c ws).0
  pub answers : AnswersByReads (done o c) ws

-- what an outcome is called in the type of all
pub called : {O P : Type 0} (f : List ℕ → Effect × O) (name : O → P) (ws : List ℕ) → AnswersByReads f ws → AnswersByReads (λ us. ((f us).0, name (f us).1)) ws
called {O} f name ws a us g = ap (λ (r : Effect × O). (r.0, name r.1)) (a us g)

pub is_on : (o : CellOperation) (c : ℕ) (ws : List ℕ) → IsOn c o ws
is_on (Read key) c ws = let s = operations_stay.read c key in record { reads = s.reads ws; within = s.within ws; answers = called (λ us. rows.read us c key) HasRead ws (read_by_reads c key ws) }
is_on (Change key v) c ws = let s = operations_stay.change c key v in record { reads = s.reads ws; within = s.within ws; answers = called (λ us. rows.change us c key v) HasChanged ws (change_by_reads c key v ws) }
is_on (Kill key) c ws = let s = operations_stay.kill c key in record { reads = s.reads ws; within = s.within ws; answers = called (λ us. rows.kill us c key) HasKilled ws (kill_by_reads c key ws) }
is_on Free c ws = let s = operations_stay.free c in record { reads = s.reads ws; within = s.within ws; answers = depends_answers (λ us. rows.free us c) Undone ws (free_by_reads c ws) }
is_on Revive c ws = let s = operations_stay.revive c in record { reads = s.reads ws; within = s.within ws; answers = depends_answers (λ us. rows.revive us c) Undone ws (revive_by_reads c ws) }
is_on (Restore n vs) c ws = let s = operations_stay.restore c n vs in record { reads = s.reads ws; within = s.within ws; answers = depends_answers (λ us. rows.restore us c n vs) Undone ws (restore_by_reads c n vs ws) }

-- words of two cells are apart
other_word : (c d i : ℕ) → c ≢ d → (8 * c ≤ i) × (i < 8 * c + 8) → (8 * d ≤ i) × (i < 8 * d + 8) → ⊥
other_word c d i ne a b = ne (omega arith)

pub operations_commute : OperationsCommute
operations_commute o p c d ne ws =
    answers_commute (done o c) (done p d) ws
    (on_o.answers (done p d ws).0.after (agree_after ws (done p d ws).0 (done o c ws).0 on_p.within (λ i w. bit_none (done o c ws).0.read i (λ r. other_word c d i ne (on_o.reads i r) (on_p.reads i (on_p.within.inside i w))))))
    on_p.answers on_o.within on_p.within
    (λ i w. bit_none (done p d ws).0.read i (λ r. other_word c d i ne (on_o.reads i (on_o.within.inside i w)) (on_p.reads i r)))
  where
    on_o : IsOn c o ws
    on_o = is_on o c ws

    on_p : IsOn d p ws
    on_p = is_on p d ws

-- the state of another cell stays
state_kept : (o : CellOperation) (d : ℕ) (ws : List ℕ) (c : ℕ) → c ≢ d → state_of (done o d ws).0.after c ≡ state_of ws c
state_kept o d ws c ne = (is_on o d ws).within.others (8 * c) (bit_none (done o d ws).0.write (8 * c) (λ w. other_word c d (8 * c) ne (omega arith, omega arith) ((is_on o d ws).reads (8 * c) ((is_on o d ws).within.inside (8 * c) w))))

-- ---- a put beside an operation on a cell
put_beside : (o : CellOperation) (d key : ℕ) (v ws : List ℕ) (r : Effect × PutOutcome) → rows.put ws key v ≡ r → TakesFirst ws r.1 → StaysFirst (done o d ws).0.after d r.1 → AnswersCommute (λ us. rows.put us key v) (done o d) ws
put_beside o d key v ws (e, Put c) is first stays = answers_commute (λ us. rows.put us key v) (done o d) ws same on.answers (puts_within key v ws) on.within apart
  where
    us : List ℕ
    us = (done o d ws).0.after

    on : IsOn d o ws
    on = is_on o d ws

    writes : List (ℕ × ℕ)
    writes = zip (cell_words c) (1 ∷ key ∷ length v ∷ packed v)

    here : rows.put ws key v ≡ taken ws key v (states_before c) c
    here = put_first ws v key c first.0 first.1 first.2 first.3

    used : (x : ℕ) → 1 ≤ x → x < c → state_of us x ≢ 0
    used x a b h = ⊎_elim (λ p. at p.1) (λ p. first.3 x a b (sym (state_kept o d ws x p.1) ∙ h)) (eqb_tells x d)
      where
        at : x ≡ d → ⊥
        at p = ⊎_elim (λ q. absurd (omega (arith, q, b, p))) (λ q. q (ap (state_of us) (sym p) ∙ h)) stays.1

    there : rows.put us key v ≡ taken us key v (states_before c) c
    there = put_first us v key c first.0 first.1 (state_kept o d ws c (λ p. stays.0 (sym p)) ∙ first.2) used

    same : rows.put us key v ≡ (carried (rows.put ws key v).0 us, (rows.put ws key v).1)
    same = answer_carried (rows.put ws key v) (rows.put us key v) (states_before c ++ cell_words c) writes ws us (Put c) (sym on.within.count) here there

    wrote : (i : ℕ) → bit_at (rows.put ws key v).0.write i ≡ 1 → (8 * c ≤ i) × (i < 8 * c + 8)
    wrote i w =
        let b : bit_at (mask_of (map (λ p. p.0) writes)) i ≡ 1 = subst (λ (x : Effect × PutOutcome). bit_at x.0.write i ≡ 1) here w in
        in_row (8 * c) 8 i (subst (λ js. IsIn js i) (sym (cell_row c)) (zip_within (cell_words c) (1 ∷ key ∷ length v ∷ packed v) i (in-mask_of (map (λ p. p.0) writes) i b)))

    apart : (i : ℕ) → bit_at (rows.put ws key v).0.write i ≡ 1 → bit_at (done o d ws).0.read i ≡ 0
    apart i w = bit_none (done o d ws).0.read i (λ r. other_word d c i stays.0 (on.reads i r) (wrote i w))
put_beside o d key v ws (e, NoCell) is first stays = answers_commute (λ us. rows.put us key v) (done o d) ws same on.answers (puts_within key v ws) on.within apart
  where
    us : List ℕ
    us = (done o d ws).0.after

    on : IsOn d o ws
    on = is_on o d ws

    here : rows.put ws key v ≡ (effect_of ws (states_before 8) [], NoCell)
    here = put_none ws v key first

    used : (x : ℕ) → 1 ≤ x → x ≤ 7 → state_of us x ≢ 0
    used x a b h = ⊎_elim (λ p. stays (ap (state_of us) (sym p.1) ∙ h)) (λ p. first x a b (sym (state_kept o d ws x p.1) ∙ h)) (eqb_tells x d)

    there : rows.put us key v ≡ (effect_of us (states_before 8) [], NoCell)
    there = put_none us v key used

    same : rows.put us key v ≡ (carried (rows.put ws key v).0 us, (rows.put ws key v).1)
    same = answer_carried (rows.put ws key v) (rows.put us key v) (states_before 8) [] ws us NoCell (sym on.within.count) here there

    apart : (i : ℕ) → bit_at (rows.put ws key v).0.write i ≡ 1 → bit_at (done o d ws).0.read i ≡ 0
    apart i w = let b : bit_at 0 i ≡ 1 = subst (λ (x : Effect × PutOutcome). bit_at x.0.write i ≡ 1) here w in absurd (omega (arith, b, bit_at-zero i))

pub put_commutes : PutCommutes
put_commutes o d key v ws stays = put_beside o d key v ws (rows.put ws key v) refl (put_takes_first ws v key) stays

-- ---- a put after a cell that it had passed was freed
passed_few : (ws : List ℕ) (d : ℕ) (r : PutOutcome) → TakesFirst ws r → Passes d r → d ≤ 7
passed_few ws d (Put c) first pass = omega (arith, first.1, pass)
passed_few ws d NoCell first pass = pass

passed_used : (ws : List ℕ) (d : ℕ) (r : PutOutcome) → TakesFirst ws r → Passes d r → (x : ℕ) → 1 ≤ x → x < d → state_of ws x ≢ 0
passed_used ws d (Put c) first pass x a b = first.3 x a (omega (arith, b, pass))
passed_used ws d NoCell first pass x a b = first x a (omega (arith, b, pass))

pub put_takes_freed : PutTakesFreed
put_takes_freed o d key v ws low pass free = ap (λ (r : Effect × PutOutcome). r.1) (put_first (done o d ws).0.after v key d low (passed_few ws d (rows.put ws key v).1 first pass) free used)
  where
    first : TakesFirst ws (rows.put ws key v).1
    first = put_takes_first ws v key

    used : (x : ℕ) → 1 ≤ x → x < d → state_of (done o d ws).0.after x ≢ 0
    used x a b h = passed_used ws d (rows.put ws key v).1 first pass x a b (sym (state_kept o d ws x (λ e. absurd (omega (arith, e, b)))) ∙ h)
