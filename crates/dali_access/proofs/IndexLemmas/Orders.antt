-- What a look and an add read, and what they do beside operations on other entries.
use Rattle.std.proofs.Common.{◌≡◌, ◌≢◌, ℕ, zero, suc, ◌+◌, ◌*◌, ◌<◌, ◌≤◌, Bool, true, false, not, List, [], ◌∷◌, ◌++◌, length, refl, ap, sym, subst, ◌∙◌, ◌⊎◌, inl, inr, ⊎_elim, arith, get_or, set, length-set, append-nil, append_assoc, map}
use Rattle.std.specs.Prelude.{◌==◌, ◌&&◌, if◌then◌else◌, flat_map}
use Rattle.std.specs.Int.{bit_at}
use Rattle.std.proofs.lemmas.Bool.{eq-eqb, ne_eqb}
use Rattle.std.proofs.lemmas.Bool.Decides.{eqb_tells}
use Rattle.std.proofs.lemmas.Nat.Bits.{bit_at-zero}
use Rattle.dali_lists.proofs.Numbers.{bit_none}
use Rattle.dali_words.specs.declared.Effect.{Effect}
use Rattle.dali_words.specs.Words.{mask_of, row_of}
use Rattle.dali_words.specs.Effects.{effect_of, carried, IsWithin, AnswersByReads}
use Rattle.dali_words.specs.Laws.{AnswersCommute}
use Rattle.dali_words.proofs.Masks.{IsIn, in-mask_of}
use Rattle.dali_words.proofs.Apart.{agree_after, answers_commute}
use Rattle.dali_words.proofs.Rows.{in_row}
use Rattle.dali_words.proofs.Dependence.{answer_carried, depends_answers}
use Rattle.dali_access.proofs.HeapLemmas.CellLaws.{operations_stay as cells_stay, puts_within}
use Rattle.dali_access.proofs.HeapLemmas.Orders.{called}
use Rattle.dali_access.specs.declared.index.LookOutcome.{LookOutcome}
use Rattle.dali_access.specs.declared.index.LookOutcome.TheVariants.{Found, Absent}
use Rattle.dali_access.specs.declared.index.AddOutcome.{AddOutcome}
use Rattle.dali_access.specs.declared.index.AddOutcome.TheVariants.{Added, NoEntry}
use Rattle.dali_access.specs.Index.Entries.{state_word, key_word, place_word, entries, state_of, key_of, place_of, flag_of}
use Rattle.dali_access.specs.Index.Rows as rows
use Rattle.dali_access.specs.Index.Laws.{InEntry, IsLiveOf, FindsFirst, TakesFirst}
use Rattle.dali_access.specs.Index.Operations.{EntryOperation, Kill, Free, Revive, HasKilled, Undone, done}
use Rattle.dali_access.specs.Index.Orders.{states_before, passed_before, entry_words, LookReads, AddReads, OperationsCommute, StaysFound, StaysPassed, LookFinds, LookCommutes, StaysFirst, AddCommutes, Passes, AddTakesFreed, LookAfterAdd}
use Rattle.dali_access.specs.Index.Within.{WritesWithinReads}
use Rattle.dali_access.proofs.IndexLemmas.EntryLaws.{Tried, add_walked, operations_stay, walks_within, look_finds_first, add_takes_first}
use Rattle.dali_access.proofs.IndexLemmas.Dependence.{kill_by_reads, free_by_reads, revive_by_reads}
use Rattle.dali_access.proofs.IndexLemmas.Slots.{word_kept, word_put}
use Rattle.dali_access.proofs.IndexLemmas.Walks.{entry_row}

-- ---- what a look reads
abbrev found_at : List ℕ → List ℕ → ℕ → Effect × LookOutcome
found_at ws reads e = (effect_of ws (reads ++ entry_words e) [], Found e (place_of ws e))

abbrev none_found : List ℕ → List ℕ → Effect × LookOutcome
none_found ws reads = (effect_of ws (reads ++ 0 ∷ []) [], Absent (not (flag_of ws == 0)))

passed_more : (ws seen : List ℕ) (k j : ℕ) → (seen ++ rows.passed ws k) ++ flat_map (rows.passed ws) (row_of (k + 1) j) ≡ seen ++ flat_map (rows.passed ws) (row_of k (suc j))
passed_more ws seen k j = append_assoc seen (rows.passed ws k) (flat_map (rows.passed ws) (row_of (k + 1) j))

live_test : (ws : List ℕ) (key e : ℕ) → IsLiveOf ws key e → ((state_of ws e == 1) && (key_of ws e == key)) ≡ true
live_test ws key e h = rw (eq-eqb (state_of ws e) 1 h.0, eq-eqb (key_of ws e) key h.1) refl

other_test : (ws : List ℕ) (key e : ℕ) → ¬ IsLiveOf ws key e → ((state_of ws e == 1) && (key_of ws e == key)) ≡ false
other_test ws key e h = go (eqb_tells (state_of ws e) 1) (eqb_tells (key_of ws e) key)
  where
    go : (((state_of ws e == 1) ≡ true) × (state_of ws e ≡ 1)) ⊎ (((state_of ws e == 1) ≡ false) × (state_of ws e ≢ 1)) → (((key_of ws e == key) ≡ true) × (key_of ws e ≡ key)) ⊎ (((key_of ws e == key) ≡ false) × (key_of ws e ≢ key)) → ((state_of ws e == 1) && (key_of ws e == key)) ≡ false
    go (inl p) (inl q) = absurd (h (p.1, q.1))
    go (inl p) (inr q) = rw (p.0, q.0) refl
    go (inr p) q = rw (p.0) refl

-- the first live entry of the key stands j entries after k
finds : (ws : List ℕ) (key : ℕ) (seen : List ℕ) (k n j : ℕ) → j < n → IsLiveOf ws key (k + j) → ((d : ℕ) → k ≤ d → d < k + j → ¬ IsLiveOf ws key d) → rows.look_among ws key seen (row_of k n) ≡ found_at ws (seen ++ flat_map (rows.passed ws) (row_of k j)) (k + j)
finds ws key seen k zero j few live others = absurd (omega arith)
finds ws key seen k (suc n) zero few live others =
    let here : k + 0 ≡ k = omega arith in
    let test = live_test ws key k (subst (IsLiveOf ws key) here live) in
    rw test (ap (λ (xs : List ℕ). found_at ws xs k) (sym (append-nil seen)) ∙ ap (λ e. found_at ws (seen ++ []) e) (sym here))
finds ws key seen k (suc n) (suc j) few live others =
    let next : k + 1 + j ≡ k + suc j = omega arith in
    let test = other_test ws key k (others k (omega arith) (omega arith)) in
    let later = finds ws key (seen ++ rows.passed ws k) (k + 1) n j (omega arith) (subst (IsLiveOf ws key) (sym next) live) (λ d a b. others d (omega arith) (omega arith)) in
    rw test (later ∙ ap (λ (xs : List ℕ). found_at ws xs (k + 1 + j)) (passed_more ws seen k j) ∙ ap (λ e. found_at ws (seen ++ flat_map (rows.passed ws) (row_of k (suc j))) e) next)

finds_none : (ws : List ℕ) (key : ℕ) (seen : List ℕ) (k n : ℕ) → ((d : ℕ) → k ≤ d → d < k + n → ¬ IsLiveOf ws key d) → rows.look_among ws key seen (row_of k n) ≡ none_found ws (seen ++ flat_map (rows.passed ws) (row_of k n))
finds_none ws key seen k zero others = ap (λ (xs : List ℕ). none_found ws xs) (sym (append-nil seen))
finds_none ws key seen k (suc n) others =
    let test = other_test ws key k (others k (omega arith) (omega arith)) in
    rw test (finds_none ws key (seen ++ rows.passed ws k) (k + 1) n (λ d a b. others d (omega arith) (omega arith)) ∙ ap (λ (xs : List ℕ). none_found ws xs) (passed_more ws seen k n))

look_first : (ws : List ℕ) (key e : ℕ) → e ≤ 20 → IsLiveOf ws key e → ((d : ℕ) → d < e → ¬ IsLiveOf ws key d) → rows.look ws key ≡ found_at ws (passed_before ws e) e
unfolding entries
look_first ws key e few live others =
    let at : 0 + e ≡ e = omega arith in
    finds ws key [] 0 21 e (omega arith) (subst (IsLiveOf ws key) (sym at) live) (λ d a b. others d (omega arith)) ∙ ap (λ z. found_at ws (passed_before ws e) z) at

look_none : (ws : List ℕ) (key : ℕ) → ((d : ℕ) → d ≤ 20 → ¬ IsLiveOf ws key d) → rows.look ws key ≡ none_found ws (passed_before ws 21)
unfolding entries
look_none ws key others = finds_none ws key [] 0 21 (λ d a b. others d (omega arith))

pub look_reads : LookReads
look_reads = record { found = look_first; absent = look_none }

-- ---- what an add reads
abbrev writes_of : ℕ → ℕ → ℕ → List (ℕ × ℕ)
writes_of e key p = (state_word e, 1) ∷ (key_word e, key) ∷ (place_word e, p) ∷ []

abbrev raises : List ℕ → List (ℕ × ℕ)
raises ws = if flag_of ws == 0 then (0, 1) ∷ [] else []

abbrev added_at : List ℕ → ℕ → ℕ → List ℕ → ℕ → Effect × AddOutcome
added_at ws key p reads e = (effect_of ws (reads ++ entry_words e) (writes_of e key p), Added e)

abbrev none_free : List ℕ → List ℕ → Effect × AddOutcome
none_free ws reads = (effect_of ws (reads ++ 0 ∷ []) (raises ws), NoEntry)

adds : (ws : List ℕ) (key p : ℕ) (seen : List ℕ) (k n j : ℕ) → j < n → state_of ws (k + j) ≡ 0 → ((d : ℕ) → k ≤ d → d < k + j → state_of ws d ≢ 0) → rows.add_among ws key p seen (row_of k n) ≡ added_at ws key p (seen ++ map state_word (row_of k j)) (k + j)
adds ws key p seen k zero j few free used = absurd (omega arith)
adds ws key p seen k (suc n) zero few free used =
    let here : k + 0 ≡ k = omega arith in
    let test = eq-eqb (state_of ws k) 0 (ap (state_of ws) (sym here) ∙ free) in
    rw test (ap (λ (xs : List ℕ). added_at ws key p xs k) (sym (append-nil seen)) ∙ ap (λ e. added_at ws key p (seen ++ []) e) (sym here))
adds ws key p seen k (suc n) (suc j) few free used =
    let next : k + 1 + j ≡ k + suc j = omega arith in
    let test = ne_eqb (state_of ws k) 0 (used k (omega arith) (omega arith)) in
    let later = adds ws key p (seen ++ state_word k ∷ []) (k + 1) n j (omega arith) (ap (state_of ws) next ∙ free) (λ d a b. used d (omega arith) (omega arith)) in
    rw test (later ∙ ap (λ (xs : List ℕ). added_at ws key p xs (k + 1 + j)) (append_assoc seen (state_word k ∷ []) (map state_word (row_of (k + 1) j))) ∙ ap (λ e. added_at ws key p (seen ++ map state_word (row_of k (suc j))) e) next)

adds_none : (ws : List ℕ) (key p : ℕ) (seen : List ℕ) (k n : ℕ) → ((d : ℕ) → k ≤ d → d < k + n → state_of ws d ≢ 0) → rows.add_among ws key p seen (row_of k n) ≡ none_free ws (seen ++ map state_word (row_of k n))
adds_none ws key p seen k zero used = ap (λ (xs : List ℕ). none_free ws xs) (sym (append-nil seen))
adds_none ws key p seen k (suc n) used =
    let test = ne_eqb (state_of ws k) 0 (used k (omega arith) (omega arith)) in
    rw test (adds_none ws key p (seen ++ state_word k ∷ []) (k + 1) n (λ d a b. used d (omega arith) (omega arith)) ∙ ap (λ (xs : List ℕ). none_free ws xs) (append_assoc seen (state_word k ∷ []) (map state_word (row_of (k + 1) n))))

add_first : (ws : List ℕ) (key p e : ℕ) → e ≤ 20 → state_of ws e ≡ 0 → ((d : ℕ) → d < e → state_of ws d ≢ 0) → rows.add ws key p ≡ added_at ws key p (states_before e) e
unfolding entries
add_first ws key p e few free used =
    let at : 0 + e ≡ e = omega arith in
    adds ws key p [] 0 21 e (omega arith) (ap (state_of ws) at ∙ free) (λ d a b. used d (omega arith)) ∙ ap (λ z. added_at ws key p (states_before e) z) at

add_none : (ws : List ℕ) (key p : ℕ) → ((d : ℕ) → d ≤ 20 → state_of ws d ≢ 0) → rows.add ws key p ≡ none_free ws (states_before 21)
unfolding entries
add_none ws key p used = adds_none ws key p [] 0 21 (λ d a b. used d (omega arith))

pub add_reads : AddReads
add_reads = record { added = add_first; none = add_none }

-- ---- any operation on an entry
pub record IsOn (e : ℕ) (o : EntryOperation) (ws : List ℕ) : Type 0 where
  pub reads : InEntry e (done o e ws).0
  pub within : IsWithin ws (done o e ws).0
  pub answers : AnswersByReads (done o e) ws

pub is_on : (o : EntryOperation) (e : ℕ) (ws : List ℕ) → IsOn e o ws
is_on (Kill key) e ws = let s = operations_stay.kill e key in record { reads = s.reads ws; within = s.within ws; answers = called (λ us. rows.kill us e key) HasKilled ws (kill_by_reads e key ws) }
is_on Free e ws = let s = operations_stay.free e in record { reads = s.reads ws; within = s.within ws; answers = depends_answers (λ us. rows.free us e) Undone ws (free_by_reads e ws) }
is_on Revive e ws = let s = operations_stay.revive e in record { reads = s.reads ws; within = s.within ws; answers = depends_answers (λ us. rows.revive us e) Undone ws (revive_by_reads e ws) }

-- words of two entries are apart
other_word : (d e i : ℕ) → d ≢ e → (3 * d + 1 ≤ i) × (i < 3 * d + 4) → (3 * e + 1 ≤ i) × (i < 3 * e + 4) → ⊥
other_word d e i ne a b = ne (omega arith)

pub operations_commute : OperationsCommute
operations_commute o p d e ne ws =
    answers_commute (done o d) (done p e) ws
    (on_o.answers (done p e ws).0.after (agree_after ws (done p e ws).0 (done o d ws).0 on_p.within (λ i w. bit_none (done o d ws).0.read i (λ r. other_word d e i ne (on_o.reads i r) (on_p.reads i (on_p.within.inside i w))))))
    on_p.answers on_o.within on_p.within
    (λ i w. bit_none (done p e ws).0.read i (λ r. other_word d e i ne (on_o.reads i (on_o.within.inside i w)) (on_p.reads i r)))
  where
    on_o : IsOn d o ws
    on_o = is_on o d ws

    on_p : IsOn e p ws
    on_p = is_on p e ws

-- words out of the entry stay
kept : (o : EntryOperation) (d : ℕ) (ws : List ℕ) (i : ℕ) → ((3 * d + 1 ≤ i) × (i < 3 * d + 4) → ⊥) → get_or (done o d ws).0.after i 0 ≡ get_or ws i 0
kept o d ws i out = (is_on o d ws).within.others i (bit_none (done o d ws).0.write i (λ w. out ((is_on o d ws).reads i ((is_on o d ws).within.inside i w))))

state_kept : (o : EntryOperation) (d : ℕ) (ws : List ℕ) (e : ℕ) → e ≢ d → state_of (done o d ws).0.after e ≡ state_of ws e
state_kept o d ws e ne = kept o d ws (3 * e + 1) (λ a. other_word e d (3 * e + 1) ne (omega arith, omega arith) a)

key_kept : (o : EntryOperation) (d : ℕ) (ws : List ℕ) (e : ℕ) → e ≢ d → key_of (done o d ws).0.after e ≡ key_of ws e
key_kept o d ws e ne = kept o d ws (3 * e + 2) (λ a. other_word e d (3 * e + 2) ne (omega arith, omega arith) a)

place_kept : (o : EntryOperation) (d : ℕ) (ws : List ℕ) (e : ℕ) → e ≢ d → place_of (done o d ws).0.after e ≡ place_of ws e
place_kept o d ws e ne = kept o d ws (3 * e + 3) (λ a. other_word e d (3 * e + 3) ne (omega arith, omega arith) a)

flag_kept : (o : EntryOperation) (d : ℕ) (ws : List ℕ) → flag_of (done o d ws).0.after ≡ flag_of ws
flag_kept o d ws = kept o d ws 0 (λ a. omega (arith, a.0))

live_kept : (o : EntryOperation) (d : ℕ) (ws : List ℕ) (key e : ℕ) → e ≢ d → IsLiveOf (done o d ws).0.after key e → IsLiveOf ws key e
live_kept o d ws key e ne h = (sym (state_kept o d ws e ne) ∙ h.0, sym (key_kept o d ws e ne) ∙ h.1)

kept_live : (o : EntryOperation) (d : ℕ) (ws : List ℕ) (key e : ℕ) → e ≢ d → IsLiveOf ws key e → IsLiveOf (done o d ws).0.after key e
kept_live o d ws key e ne h = (state_kept o d ws e ne ∙ h.0, key_kept o d ws e ne ∙ h.1)

-- ---- a look beside an operation on an entry
-- what the look gives after the operation, by the words that it has passed there
abbrev after_look : (o : EntryOperation) (d key : ℕ) (ws : List ℕ) → LookOutcome → Effect × LookOutcome
after_look o d key ws (Found e p) = (effect_of (done o d ws).0.after (passed_before (done o d ws).0.after e ++ entry_words e) [], Found e p)
after_look o d key ws (Absent f) = (effect_of (done o d ws).0.after (passed_before (done o d ws).0.after 21 ++ 0 ∷ []) [], Absent f)

look_after : (o : EntryOperation) (d key : ℕ) (ws : List ℕ) (x : LookOutcome) → FindsFirst ws key x → StaysFound (done o d ws).0.after key d x → rows.look (done o d ws).0.after key ≡ after_look o d key ws x
look_after o d key ws (Found e p) first stays = look_first us key e first.0 (kept_live o d ws key e (λ x. stays.0 (sym x)) first.1) others ∙ ap (λ q. (effect_of us (passed_before us e ++ entry_words e) [], Found e q)) (place_kept o d ws e (λ x. stays.0 (sym x)) ∙ first.2)
  where
    us : List ℕ
    us = (done o d ws).0.after

    others : (i : ℕ) → i < e → ¬ IsLiveOf us key i
    others i b h = ⊎_elim (λ a. ⊎_elim (λ c. absurd (omega (arith, b, c, a.1))) (λ c. c (subst (IsLiveOf us key) a.1 h)) stays.1) (λ a. first.3 i b (live_kept o d ws key i a.1 h)) (eqb_tells i d)
look_after o d key ws (Absent f) first stays = look_none us key others ∙ ap (λ q. (effect_of us (passed_before us 21 ++ 0 ∷ []) [], Absent q)) (ap (λ n. not (n == 0)) (flag_kept o d ws) ∙ sym first.1)
  where
    us : List ℕ
    us = (done o d ws).0.after

    others : (i : ℕ) → i ≤ 20 → ¬ IsLiveOf us key i
    others i b h = ⊎_elim (λ a. stays (subst (IsLiveOf us key) a.1 h)) (λ a. first.0 i b (live_kept o d ws key i a.1 h)) (eqb_tells i d)

told : (o : EntryOperation) (d key : ℕ) (ws : List ℕ) (x : LookOutcome) → (after_look o d key ws x).1 ≡ x
told o d key ws (Found e p) = refl
told o d key ws (Absent f) = refl

pub look_finds : LookFinds
look_finds o d key ws stays = ap (λ (r : Effect × LookOutcome). r.1) (look_after o d key ws (rows.look ws key).1 (look_finds_first ws key) stays) ∙ told o d key ws (rows.look ws key).1

-- entries that are live in both or in neither are passed the same
passed_same : (ws us : List ℕ) (k n : ℕ) → ((i : ℕ) → k ≤ i → i < k + n → (state_of us i == 1) ≡ (state_of ws i == 1)) → flat_map (rows.passed us) (row_of k n) ≡ flat_map (rows.passed ws) (row_of k n)
passed_same ws us k zero same = refl
passed_same ws us k (suc n) same =
    ap (λ b. (if b then state_word k ∷ key_word k ∷ [] else state_word k ∷ []) ++ flat_map (rows.passed us) (row_of (k + 1) n)) (same k (omega arith) (omega arith))
    ∙ ap (λ xs. rows.passed ws k ++ xs) (passed_same ws us (k + 1) n (λ i a b. same i (omega arith) (omega arith)))

abbrev reads_of : List ℕ → LookOutcome → List ℕ
reads_of ws (Found e p) = passed_before ws e ++ entry_words e
reads_of ws (Absent f) = passed_before ws 21 ++ 0 ∷ []

look_is : (ws : List ℕ) (key : ℕ) (x : LookOutcome) → FindsFirst ws key x → rows.look ws key ≡ (effect_of ws (reads_of ws x) [], x)
look_is ws key (Found e p) first = look_first ws key e first.0 first.1 first.3 ∙ ap (λ q. (effect_of ws (passed_before ws e ++ entry_words e) [], Found e q)) first.2
look_is ws key (Absent f) first = look_none ws key first.0 ∙ ap (λ q. (effect_of ws (passed_before ws 21 ++ 0 ∷ []) [], Absent q)) (sym first.1)

reads_same : (o : EntryOperation) (d key : ℕ) (ws : List ℕ) (x : LookOutcome) → StaysPassed ws (done o d ws).0.after d x → after_look o d key ws x ≡ (effect_of (done o d ws).0.after (reads_of ws x) [], x)
reads_same o d key ws (Found e p) stays = ap (λ xs. (effect_of (done o d ws).0.after (xs ++ entry_words e) [], Found e p)) (passed_same ws (done o d ws).0.after 0 e same)
  where
    same : (i : ℕ) → 0 ≤ i → i < 0 + e → (state_of (done o d ws).0.after i == 1) ≡ (state_of ws i == 1)
    same i a b = ⊎_elim (λ q. ⊎_elim (λ c. absurd (omega (arith, b, c, q.1))) (λ c. subst (λ z. (state_of (done o d ws).0.after z == 1) ≡ (state_of ws z == 1)) (sym q.1) c) stays) (λ q. ap (λ n. n == 1) (state_kept o d ws i q.1)) (eqb_tells i d)
reads_same o d key ws (Absent f) stays = ap (λ xs. (effect_of (done o d ws).0.after (xs ++ 0 ∷ []) [], Absent f)) (passed_same ws (done o d ws).0.after 0 21 same)
  where
    same : (i : ℕ) → 0 ≤ i → i < 21 → (state_of (done o d ws).0.after i == 1) ≡ (state_of ws i == 1)
    same i a b = ⊎_elim (λ q. subst (λ z. (state_of (done o d ws).0.after z == 1) ≡ (state_of ws z == 1)) (sym q.1) stays) (λ q. ap (λ n. n == 1) (state_kept o d ws i q.1)) (eqb_tells i d)

no_bit : (n i : ℕ) → n ≡ 0 → bit_at n i ≡ 1 → ⊥
no_bit n i e h = omega (arith, ap (λ m. bit_at m i) e, bit_at-zero i, h)

look_within : (ws : List ℕ) (key : ℕ) → IsWithin ws (rows.look ws key).0
look_within ws key = let w = walks_within.look ws key in record { count = ap length w.1; inside = λ i h. absurd (no_bit (rows.look ws key).0.write i w.0 h); others = λ i h. ap (λ (xs : List ℕ). get_or xs i 0) w.1 }

pub look_commutes : LookCommutes
look_commutes o d key ws stays passes = answers_commute (λ us. rows.look us key) (done o d) ws same on.answers (look_within ws key) on.within (λ i w. absurd (no_bit (rows.look ws key).0.write i (walks_within.look ws key).0 w))
  where
    us : List ℕ
    us = (done o d ws).0.after

    on : IsOn d o ws
    on = is_on o d ws

    first : FindsFirst ws key (rows.look ws key).1
    first = look_finds_first ws key

    same : rows.look us key ≡ (carried (rows.look ws key).0 us, (rows.look ws key).1)
    same = answer_carried (rows.look ws key) (rows.look us key) (reads_of ws (rows.look ws key).1) [] ws us (rows.look ws key).1 (sym on.within.count) (look_is ws key (rows.look ws key).1 first) (look_after o d key ws (rows.look ws key).1 first stays ∙ reads_same o d key ws (rows.look ws key).1 passes)

-- ---- an add beside an operation on an entry
abbrev firsts : List (ℕ × ℕ) → List ℕ
firsts ps = map (λ p. p.0) ps

raises_zero : (ws : List ℕ) (i : ℕ) → IsIn (firsts (raises ws)) i → i ≡ 0
raises_zero ws i h = go (flag_of ws == 0) h
  where
    go : (b : Bool) → IsIn (firsts (if b then (0, 1) ∷ [] else [])) i → i ≡ 0
    go true (inl e) = sym e
    go true (inr g) = absurd g
    go false g = absurd g

add_beside : (o : EntryOperation) (d key p : ℕ) (ws : List ℕ) (r : Effect × AddOutcome) → rows.add ws key p ≡ r → TakesFirst ws r.1 → StaysFirst (done o d ws).0.after d r.1 → AnswersCommute (λ us. rows.add us key p) (done o d) ws
add_beside o d key p ws (x, Added e) is first stays = answers_commute (λ us. rows.add us key p) (done o d) ws same on.answers (walks_within.add ws key p) on.within apart
  where
    us : List ℕ
    us = (done o d ws).0.after

    on : IsOn d o ws
    on = is_on o d ws

    here : rows.add ws key p ≡ added_at ws key p (states_before e) e
    here = add_first ws key p e first.0 first.1 first.2

    used : (i : ℕ) → i < e → state_of us i ≢ 0
    used i b h = ⊎_elim (λ a. ⊎_elim (λ c. absurd (omega (arith, b, c, a.1))) (λ c. c (ap (state_of us) (sym a.1) ∙ h)) stays.1) (λ a. first.2 i b (sym (state_kept o d ws i a.1) ∙ h)) (eqb_tells i d)

    there : rows.add us key p ≡ added_at us key p (states_before e) e
    there = add_first us key p e first.0 (state_kept o d ws e (λ a. stays.0 (sym a)) ∙ first.1) used

    same : rows.add us key p ≡ (carried (rows.add ws key p).0 us, (rows.add ws key p).1)
    same = answer_carried (rows.add ws key p) (rows.add us key p) (states_before e ++ entry_words e) (writes_of e key p) ws us (Added e) (sym on.within.count) here there

    wrote : (i : ℕ) → bit_at (rows.add ws key p).0.write i ≡ 1 → (3 * e + 1 ≤ i) × (i < 3 * e + 4)
    wrote i w =
        let b : bit_at (mask_of (entry_words e)) i ≡ 1 = subst (λ (y : Effect × AddOutcome). bit_at y.0.write i ≡ 1) here w in
        let a = in_row (3 * e + 1) 3 i (subst (λ js. IsIn js i) (sym (entry_row e)) (in-mask_of (entry_words e) i b)) in
        (a.0, omega (arith, a.1))

    apart : (i : ℕ) → bit_at (rows.add ws key p).0.write i ≡ 1 → bit_at (done o d ws).0.read i ≡ 0
    apart i w = bit_none (done o d ws).0.read i (λ r. other_word d e i stays.0 (on.reads i r) (wrote i w))
add_beside o d key p ws (x, NoEntry) is first stays = answers_commute (λ us. rows.add us key p) (done o d) ws same on.answers (walks_within.add ws key p) on.within apart
  where
    us : List ℕ
    us = (done o d ws).0.after

    on : IsOn d o ws
    on = is_on o d ws

    here : rows.add ws key p ≡ none_free ws (states_before 21)
    here = add_none ws key p first

    used : (i : ℕ) → i ≤ 20 → state_of us i ≢ 0
    used i b h = ⊎_elim (λ a. stays (ap (state_of us) (sym a.1) ∙ h)) (λ a. first i b (sym (state_kept o d ws i a.1) ∙ h)) (eqb_tells i d)

    there : rows.add us key p ≡ (effect_of us (states_before 21 ++ 0 ∷ []) (raises ws), NoEntry)
    there = add_none us key p used ∙ ap (λ n. (effect_of us (states_before 21 ++ 0 ∷ []) (if n == 0 then (0, 1) ∷ [] else []), NoEntry)) (flag_kept o d ws)

    same : rows.add us key p ≡ (carried (rows.add ws key p).0 us, (rows.add ws key p).1)
    same = answer_carried (rows.add ws key p) (rows.add us key p) (states_before 21 ++ 0 ∷ []) (raises ws) ws us NoEntry (sym on.within.count) here there

    wrote : (i : ℕ) → bit_at (rows.add ws key p).0.write i ≡ 1 → i ≡ 0
    wrote i w =
        let b : bit_at (mask_of (firsts (raises ws))) i ≡ 1 = subst (λ (y : Effect × AddOutcome). bit_at y.0.write i ≡ 1) here w in
        raises_zero ws i (in-mask_of (firsts (raises ws)) i b)

    apart : (i : ℕ) → bit_at (rows.add ws key p).0.write i ≡ 1 → bit_at (done o d ws).0.read i ≡ 0
    apart i w = bit_none (done o d ws).0.read i (λ r. let a = on.reads i r in omega (arith, a.0, wrote i w))

pub add_commutes : AddCommutes
add_commutes o d key p ws stays = add_beside o d key p ws (rows.add ws key p) refl (add_takes_first ws key p) stays

-- ---- an add after an entry that it had passed was freed
passed_few : (ws : List ℕ) (d : ℕ) (r : AddOutcome) → TakesFirst ws r → Passes d r → d ≤ 20
passed_few ws d (Added e) first pass = omega (arith, first.0, pass)
passed_few ws d NoEntry first pass = pass

passed_used : (ws : List ℕ) (d : ℕ) (r : AddOutcome) → TakesFirst ws r → Passes d r → (i : ℕ) → i < d → state_of ws i ≢ 0
passed_used ws d (Added e) first pass i b = first.2 i (omega (arith, b, pass))
passed_used ws d NoEntry first pass i b = first i (omega (arith, b, pass))

pub add_takes_freed : AddTakesFreed
add_takes_freed o d key p ws pass free = ap (λ (r : Effect × AddOutcome). r.1) (add_first (done o d ws).0.after key p d (passed_few ws d (rows.add ws key p).1 first pass) free used)
  where
    first : TakesFirst ws (rows.add ws key p).1
    first = add_takes_first ws key p

    used : (i : ℕ) → i < d → state_of (done o d ws).0.after i ≢ 0
    used i b h = passed_used ws d (rows.add ws key p).1 first pass i b (sym (state_kept o d ws i (λ e. absurd (omega (arith, e, b)))) ∙ h)

-- ---- a look after an add
-- entry e is a new one of key k, and all other words are as before
pub record IsAdded (ws us : List ℕ) (k p e : ℕ) : Type 0 where
  pub few : e ≤ 20
  pub free : state_of ws e ≡ 0
  pub state : state_of us e ≡ 1
  pub key : key_of us e ≡ k
  pub place : place_of us e ≡ p
  pub flag : flag_of us ≡ flag_of ws
  pub states : (i : ℕ) → i ≢ e → state_of us i ≡ state_of ws i
  pub keys : (i : ℕ) → i ≢ e → key_of us i ≡ key_of ws i
  pub places : (i : ℕ) → i ≢ e → place_of us i ≡ place_of ws i

is_added : (ws : List ℕ) (k p e : ℕ) → length ws ≡ 64 → (rows.add ws k p).1 ≡ Added e → IsAdded ws (rows.add ws k p).0.after k p e
is_added ws k p e long out = go (subst (λ o. Tried ws k p 0 21 (rows.add ws k p).0 o) out (add_walked ws k p))
  where
    go : Tried ws k p 0 21 (rows.add ws k p).0 (Added e) → IsAdded ws (rows.add ws k p).0.after k p e
    go h = subst (λ us. IsAdded ws us k p e) (sym h.4) (record {
      few = omega (arith, h.1);
      free = h.2;
      state = word_put ws (3 * e + 1) 1 ((key_word e, k) ∷ (place_word e, p) ∷ []) (omega (arith, long, h.1)) (omega arith);
      key = word_put one (3 * e + 2) k ((place_word e, p) ∷ []) (omega (arith, one_long, h.1)) (omega arith);
      place = word_put two (3 * e + 3) p [] (omega (arith, two_long, h.1)) tt;
      flag = word_kept ws (writes_of e k p) 0 (omega arith);
      states = λ i ne. word_kept ws (writes_of e k p) (3 * i + 1) (omega (arith, ne));
      keys = λ i ne. word_kept ws (writes_of e k p) (3 * i + 2) (omega (arith, ne));
      places = λ i ne. word_kept ws (writes_of e k p) (3 * i + 3) (omega (arith, ne));
    })
      where
        one : List ℕ
        one = set ws (3 * e + 1) 1

        two : List ℕ
        two = set (set ws (3 * e + 1) 1) (3 * e + 2) k

        one_long : length (set ws (3 * e + 1) 1) ≡ 64
        one_long = length-set ws (3 * e + 1) 1 ∙ long

        two_long : length (set (set ws (3 * e + 1) 1) (3 * e + 2) k) ≡ 64
        two_long = length-set (set ws (3 * e + 1) 1) (3 * e + 2) k ∙ length-set ws (3 * e + 1) 1 ∙ long

-- entries of another key are live in both or in neither
live_before : (ws us : List ℕ) (k p e key i : ℕ) → IsAdded ws us k p e → (i ≡ e → k ≢ key) → IsLiveOf us key i → IsLiveOf ws key i
live_before ws us k p e key i a apart h = ⊎_elim (λ q. absurd (apart q.1 (sym a.key ∙ ap (key_of us) (sym q.1) ∙ h.1))) (λ q. (sym (a.states i q.1) ∙ h.0, sym (a.keys i q.1) ∙ h.1)) (eqb_tells i e)

not_taken : (ws us : List ℕ) (k p e key i : ℕ) → IsAdded ws us k p e → IsLiveOf ws key i → i ≢ e
not_taken ws us k p e key i a h q = omega (arith, sym h.0 ∙ ap (state_of ws) q ∙ a.free)

look_other : (ws us : List ℕ) (key k p e : ℕ) → IsAdded ws us k p e → k ≢ key → (x : LookOutcome) → FindsFirst ws key x → (rows.look us key).1 ≡ x
look_other ws us key k p e a apart (Found f q) first =
    let ne = not_taken ws us k p e key f a first.1 in
    ap (λ (r : Effect × LookOutcome). r.1) (look_first us key f first.0 (a.states f ne ∙ first.1.0, a.keys f ne ∙ first.1.1) (λ i b h. first.3 i b (live_before ws us k p e key i a (λ _. apart) h)))
    ∙ ap (λ z. Found f z) (a.places f ne ∙ first.2)
look_other ws us key k p e a apart (Absent o) first =
    ap (λ (r : Effect × LookOutcome). r.1) (look_none us key (λ i b h. first.0 i b (live_before ws us k p e key i a (λ _. apart) h)))
    ∙ ap (λ z. Absent z) (ap (λ n. not (n == 0)) a.flag ∙ sym first.1)

look_own : (ws us : List ℕ) (k p e : ℕ) (o : Bool) → IsAdded ws us k p e → FindsFirst ws k (Absent o) → (rows.look us k).1 ≡ Found e p
look_own ws us k p e o a first =
    ap (λ (r : Effect × LookOutcome). r.1) (look_first us k e a.few (a.state, a.key) (λ i b h. first.0 i (omega (arith, b, a.few)) (live_before ws us k p e k i a (λ q. absurd (omega (arith, b, q))) h)))
    ∙ ap (λ z. Found e z) a.place

pub look_after_add : LookAfterAdd
look_after_add = record {
  other = λ ws key k p e long apart out. look_other ws (rows.add ws k p).0.after key k p e (is_added ws k p e long out) apart (rows.look ws key).1 (look_finds_first ws key);
  own = λ ws k p e o long out none. look_own ws (rows.add ws k p).0.after k p e o (is_added ws k p e long out) (subst (λ x. FindsFirst ws k x) none (look_finds_first ws k));
}

-- ---- all operations write within what they read
pub writes_within_reads : WritesWithinReads
writes_within_reads = record {
  put = λ ws v k. puts_within k v ws;
  read = λ ws c k. (cells_stay.read c k).within ws;
  change = λ ws v c k. (cells_stay.change c k v).within ws;
  kill_cell = λ ws c k. (cells_stay.kill c k).within ws;
  free_cell = λ ws c. (cells_stay.free c).within ws;
  revive_cell = λ ws c. (cells_stay.revive c).within ws;
  restore = λ ws vs c n. (cells_stay.restore c n vs).within ws;
  look = λ ws k. look_within ws k;
  add = λ ws k p. walks_within.add ws k p;
  kill_entry = λ ws e k. (operations_stay.kill e k).within ws;
  free_entry = λ ws e. (operations_stay.free e).within ws;
  revive_entry = λ ws e. (operations_stay.revive e).within ws;
}
