-- The laws of the operations on entries.
use Rattle.std.proofs.Common.{◌≡◌, ◌≢◌, ℕ, zero, suc, ◌+◌, ◌*◌, ◌<◌, ◌≤◌, Bool, true, false, cond, not, List, [], ◌∷◌, ◌++◌, length, refl, ap, sym, subst, ◌∙◌, ◌⊎◌, inl, inr, ⊎_elim, arith, get_or, set, length-set}
use Rattle.std.specs.Prelude.{◌==◌}
use Rattle.std.specs.Int.{bit_at}
use Rattle.std.proofs.lemmas.Bool.Decides.{eqb_tells}
use Rattle.std.proofs.lemmas.List.{set-set, set-get_or, get_or-set_same, get_or-set_other}
use Rattle.dali_lists.proofs.Numbers.{bit_none, here_or_later}
use Rattle.dali_words.specs.declared.Effect.{Effect}
use Rattle.dali_words.specs.declared.KillOutcome.{KillOutcome}
use Rattle.dali_words.specs.declared.KillOutcome.TheVariants.{NotLive, OtherKey, Killed}
use Rattle.dali_words.specs.Words.{mask_of, row_of}
use Rattle.dali_words.specs.Effects.{effect_of, write_all}
use Rattle.dali_words.proofs.Masks.{IsIn, in-mask_of, length-write_all}
use Rattle.dali_words.proofs.Apart.{apart_commute}
use Rattle.dali_words.proofs.Rows.{in_row, unwritten}
use Rattle.dali_words.proofs.Dependence.{row_within, effect_within}
use Rattle.dali_access.proofs.HeapLemmas.CellLaws.{answers_depends}
use Rattle.dali_access.specs.declared.index.LookOutcome.{LookOutcome}
use Rattle.dali_access.specs.declared.index.LookOutcome.TheVariants.{Found, Absent}
use Rattle.dali_access.specs.declared.index.AddOutcome.{AddOutcome}
use Rattle.dali_access.specs.declared.index.AddOutcome.TheVariants.{Added, NoEntry}
use Rattle.dali_access.specs.Index.Entries.{state_word, key_word, place_word, entries, state_of, key_of, place_of, flag_of}
use Rattle.dali_access.specs.Index.Rows as rows
use Rattle.dali_access.specs.Index.Laws.{InEntry, OperationsStay, EntriesCommute, WalksWithin, UndoesKill, UndoesAdd, IsLiveOf, FindsFirst, LookFindsFirst, TakesFirst, AddTakesFirst}
use Rattle.dali_access.proofs.IndexLemmas.Dependence.{add_row, kill_row, kill_by_reads, free_by_reads, revive_by_reads}
use Rattle.dali_access.proofs.IndexLemmas.Walks.{entry_row}

-- ---- words of one entry
row_in_entry : (j n : ℕ) (is : List ℕ) (e : Effect) → e.read ≡ mask_of is → row_of (3 * j + 1) n ≡ is → n ≤ 3 → InEntry j e
row_in_entry j n is e read row few i h =
    let at = in_row (3 * j + 1) n i (subst (λ js. IsIn js i) (sym row) (in-mask_of is i (subst (λ m. bit_at m i ≡ 1) read h))) in
    (omega arith, omega arith)

entry_two : (e : ℕ) → row_of (3 * e + 1) 2 ≡ state_word e ∷ key_word e ∷ []
entry_two e = let h : 3 * e + 1 + 1 ≡ 3 * e + 2 = omega arith in rw h refl

in_two : (e : ℕ) (ws : List ℕ) (writes : List (ℕ × ℕ)) → InEntry e (effect_of ws (state_word e ∷ key_word e ∷ []) writes)
in_two e ws writes = row_in_entry e 2 (state_word e ∷ key_word e ∷ []) (effect_of ws (state_word e ∷ key_word e ∷ []) writes) refl (entry_two e) (omega arith)

in_one : (e : ℕ) (ws : List ℕ) (writes : List (ℕ × ℕ)) → InEntry e (effect_of ws (state_word e ∷ []) writes)
in_one e ws writes = row_in_entry e 1 (state_word e ∷ []) (effect_of ws (state_word e ∷ []) writes) refl refl (omega arith)

abbrev killed_by : List ℕ → ℕ → Bool → Bool → Effect × KillOutcome
killed_by ws e x y = cond x (cond y (effect_of ws (state_word e ∷ key_word e ∷ []) ((state_word e, 2) ∷ []), Killed) (effect_of ws (state_word e ∷ key_word e ∷ []) [], OtherKey (key_of ws e))) (effect_of ws (state_word e ∷ []) [], NotLive (state_of ws e))

kill_in : (ws : List ℕ) (e : ℕ) (x y : Bool) → InEntry e (killed_by ws e x y).0
kill_in ws e true true = in_two e ws ((state_word e, 2) ∷ [])
kill_in ws e true false = in_two e ws []
kill_in ws e false y = in_one e ws []

pub operations_stay : OperationsStay
operations_stay = record {
  kill = λ e key. record {
    reads = λ ws. kill_in ws e (state_of ws e == 1) (key_of ws e == key);
    within = λ ws. row_within (λ us. rows.kill us e key) ws (kill_row e key ws);
    depends = λ ws. answers_depends (λ us. rows.kill us e key) ws (kill_by_reads e key ws);
  };
  free = λ e. record {
    reads = λ ws. in_one e ws ((state_word e, 0) ∷ []);
    within = λ ws. effect_within (state_word e ∷ []) ((state_word e, 0) ∷ []) ws (λ i h. h);
    depends = λ ws. free_by_reads e ws;
  };
  revive = λ e. record {
    reads = λ ws. in_one e ws ((state_word e, 1) ∷ []);
    within = λ ws. effect_within (state_word e ∷ []) ((state_word e, 1) ∷ []) ws (λ i h. h);
    depends = λ ws. revive_by_reads e ws;
  };
}

pub entries_commute : EntriesCommute
entries_commute f g d e ne sf sg ws = apart_commute f g ws (sf.depends ws) (sg.depends ws) (sf.within ws) (sg.within ws) (record { left = λ i w. bit_none (g ws).read i (λ r. other i (sf.reads ws i ((sf.within ws).inside i w)) (sg.reads ws i r)); right = λ i w. bit_none (f ws).read i (λ r. other i (sf.reads ws i r) (sg.reads ws i ((sg.within ws).inside i w))) })
  where
    other : (i : ℕ) → (3 * d + 1 ≤ i) × (i < 3 * d + 4) → (3 * e + 1 ≤ i) × (i < 3 * e + 4) → ⊥
    other i a b = ne (omega arith)

-- ---- walks

-- what a look among the n entries from k on finds
abbrev pub Looked : List ℕ → ℕ → ℕ → ℕ → LookOutcome → Type 0
Looked ws key k n (Found e p) = (k ≤ e) × (e < k + n) × IsLiveOf ws key e × (place_of ws e ≡ p) × ((d : ℕ) → k ≤ d → d < e → ¬ IsLiveOf ws key d)
Looked ws key k n (Absent overflow) = ((d : ℕ) → k ≤ d → d < k + n → ¬ IsLiveOf ws key d) × (overflow ≡ not (flag_of ws == 0))

look_widen : (ws : List ℕ) (key k n : ℕ) (o : LookOutcome) → ¬ IsLiveOf ws key k → Looked ws key (k + 1) n o → Looked ws key k (suc n) o
look_widen ws key k n (Found e p) un h = (omega arith, omega arith, h.2, h.3, λ d low high. here_or_later (λ x. x < e → ¬ IsLiveOf ws key x) k d (λ _. un) (λ a b. h.4 d a b) low high)
look_widen ws key k n (Absent overflow) un h = ((λ d low high. here_or_later (λ x. x < k + suc n → ¬ IsLiveOf ws key x) k d (λ _. un) (λ a b. h.0 d a (omega arith)) low high), h.1)

abbrev pub StaysSo : List ℕ → Effect → Type 0
StaysSo ws e = (e.write ≡ 0) × (e.after ≡ ws)

look_walk : (ws : List ℕ) (key : ℕ) (seen : List ℕ) (k n : ℕ) → Looked ws key k n (rows.look_among ws key seen (row_of k n)).1 × StaysSo ws (rows.look_among ws key seen (row_of k n)).0
look_walk ws key seen k zero = (((λ d a b. absurd (omega arith)), refl), (refl, refl))
look_walk ws key seen k (suc n) = go (eqb_tells (state_of ws k) 1) (eqb_tells (key_of ws k) key) (λ more. look_walk ws key (seen ++ more) (k + 1) n)
  where
    go :
        (((state_of ws k == 1) ≡ true) × (state_of ws k ≡ 1)) ⊎ (((state_of ws k == 1) ≡ false) × (state_of ws k ≢ 1))
        → (((key_of ws k == key) ≡ true) × (key_of ws k ≡ key)) ⊎ (((key_of ws k == key) ≡ false) × (key_of ws k ≢ key))
        → ((more : List ℕ) → Looked ws key (k + 1) n (rows.look_among ws key (seen ++ more) (row_of (k + 1) n)).1 × StaysSo ws (rows.look_among ws key (seen ++ more) (row_of (k + 1) n)).0)
        → Looked ws key k (suc n) (rows.look_among ws key seen (row_of k (suc n))).1 × StaysSo ws (rows.look_among ws key seen (row_of k (suc n))).0
    go (inl p) (inl q) ih = rw (p.0, q.0) ((omega arith, omega arith, (p.1, q.1), refl, (λ d a b. absurd (omega arith))), (refl, refl))
    go (inl p) (inr q) ih =
        let x = ih (state_word k ∷ key_word k ∷ []) in
        rw (p.0, q.0) (look_widen ws key k n (rows.look_among ws key (seen ++ state_word k ∷ key_word k ∷ []) (row_of (k + 1) n)).1 (λ h. q.1 h.1) x.0, x.1)
    go (inr p) q ih =
        let x = ih (state_word k ∷ []) in
        rw (p.0) (look_widen ws key k n (rows.look_among ws key (seen ++ state_word k ∷ []) (row_of (k + 1) n)).1 (λ h. p.1 h.0) x.0, x.1)

pub look_walked : (ws : List ℕ) (key : ℕ) → Looked ws key 0 21 (rows.look ws key).1 × StaysSo ws (rows.look ws key).0
unfolding entries
look_walked ws key = look_walk ws key [] 0 21

found_first : (ws : List ℕ) (key : ℕ) (o : LookOutcome) → Looked ws key 0 21 o → FindsFirst ws key o
found_first ws key (Found e p) h = (omega arith, h.2, h.3, λ d a. h.4 d (omega arith) a)
found_first ws key (Absent overflow) h = ((λ d a. h.0 d (omega arith) (omega arith)), h.1)

pub look_finds_first : LookFindsFirst
look_finds_first ws key = found_first ws key (rows.look ws key).1 (look_walked ws key).0

pub walks_within : WalksWithin
walks_within = record { look = λ ws key. (look_walked ws key).1; add = λ ws key p. row_within (λ us. rows.add us key p) ws (add_row ws key p [] entries).0 }

-- what an add among the n entries from k on finds and leaves
abbrev pub Tried : List ℕ → ℕ → ℕ → ℕ → ℕ → Effect → AddOutcome → Type 0
Tried ws key p k n e (Added j) = (k ≤ j) × (j < k + n) × (state_of ws j ≡ 0) × ((d : ℕ) → k ≤ d → d < j → state_of ws d ≢ 0) × (e.after ≡ write_all ws ((state_word j, 1) ∷ (key_word j, key) ∷ (place_word j, p) ∷ []))
Tried ws key p k n e NoEntry = ((d : ℕ) → k ≤ d → d < k + n → state_of ws d ≢ 0) × (e.after ≡ cond (flag_of ws == 0) (set ws 0 1) ws)

add_widen : (ws : List ℕ) (key p k n : ℕ) (e : Effect) (o : AddOutcome) → state_of ws k ≢ 0 → Tried ws key p (k + 1) n e o → Tried ws key p k (suc n) e o
add_widen ws key p k n e (Added j) used h = (omega arith, omega arith, h.2, (λ d low high. here_or_later (λ x. x < j → state_of ws x ≢ 0) k d (λ _. used) (λ a b. h.3 d a b) low high), h.4)
add_widen ws key p k n e NoEntry used h = ((λ d low high. here_or_later (λ x. x < k + suc n → state_of ws x ≢ 0) k d (λ _. used) (λ a b. h.0 d a (omega arith)) low high), h.1)

flag_after : (ws read : List ℕ) (b : Bool) → (effect_of ws read (cond b ((0, 1) ∷ []) [])).after ≡ cond b (set ws 0 1) ws
flag_after ws read true = refl
flag_after ws read false = refl

add_walk : (ws : List ℕ) (key p : ℕ) (seen : List ℕ) (k n : ℕ) → Tried ws key p k n (rows.add_among ws key p seen (row_of k n)).0 (rows.add_among ws key p seen (row_of k n)).1
add_walk ws key p seen k zero = ((λ d a b. absurd (omega arith)), flag_after ws (seen ++ 0 ∷ []) (flag_of ws == 0))
add_walk ws key p seen k (suc n) = go (eqb_tells (state_of ws k) 0) (add_walk ws key p (seen ++ state_word k ∷ []) (k + 1) n)
  where
    go :
        (((state_of ws k == 0) ≡ true) × (state_of ws k ≡ 0)) ⊎ (((state_of ws k == 0) ≡ false) × (state_of ws k ≢ 0))
        → Tried ws key p (k + 1) n (rows.add_among ws key p (seen ++ state_word k ∷ []) (row_of (k + 1) n)).0 (rows.add_among ws key p (seen ++ state_word k ∷ []) (row_of (k + 1) n)).1
        → Tried ws key p k (suc n) (rows.add_among ws key p seen (row_of k (suc n))).0 (rows.add_among ws key p seen (row_of k (suc n))).1
    go (inl q) ih = rw (q.0) (omega arith, omega arith, q.1, (λ d a b. absurd (omega arith)), refl)
    go (inr q) ih = rw (q.0) (add_widen ws key p k n (rows.add_among ws key p (seen ++ state_word k ∷ []) (row_of (k + 1) n)).0 (rows.add_among ws key p (seen ++ state_word k ∷ []) (row_of (k + 1) n)).1 q.1 ih)

pub add_walked : (ws : List ℕ) (key p : ℕ) → Tried ws key p 0 21 (rows.add ws key p).0 (rows.add ws key p).1
unfolding entries
add_walked ws key p = add_walk ws key p [] 0 21

took_first : (ws : List ℕ) (key p : ℕ) (e : Effect) (o : AddOutcome) → Tried ws key p 0 21 e o → TakesFirst ws o
took_first ws key p e (Added j) h = (omega arith, h.2, λ d a. h.3 d (omega arith) a)
took_first ws key p e NoEntry h = λ d a. h.0 d (omega arith) (omega arith)

pub add_takes_first : AddTakesFirst
add_takes_first ws key p = took_first ws key p (rows.add ws key p).0 (rows.add ws key p).1 (add_walked ws key p)

-- ---- what is undone right away
pub undoes_kill : UndoesKill
undoes_kill ws e key h = go (eqb_tells (state_of ws e) 1) (key_of ws e == key) refl h
  where
    go :
        (((state_of ws e == 1) ≡ true) × (state_of ws e ≡ 1)) ⊎ (((state_of ws e == 1) ≡ false) × (state_of ws e ≢ 1))
        → (y : Bool) → (key_of ws e == key) ≡ y
        → (rows.kill ws e key).1 ≡ Killed → (rows.revive (rows.kill ws e key).0.after e).after ≡ ws
    go (inl p) true q h = rw (p.0, q) (set-set ws (3 * e + 1) 2 1 ∙ ap (set ws (3 * e + 1)) (sym p.1) ∙ set-get_or ws (3 * e + 1) 0)
    go (inl p) false q h = let no = rw (p.0, q) at h in absurd (cc (no))
    go (inr p) y q h = let no = rw (p.0) at h in absurd (cc (no))

abbrev Freed : List ℕ → ℕ → List ℕ → Type 0
Freed ws e us = (length us ≡ 64) × ((i : ℕ) → (i ≤ 3 * e + 1) ⊎ (3 * e + 4 ≤ i) → get_or us i 0 ≡ get_or ws i 0)

add_back : (ws : List ℕ) (j key p : ℕ) (e : Effect) → length ws ≡ 64 → Tried ws key p 0 21 e (Added j) → Freed ws j (rows.free e.after j).after
add_back ws j key p e long h = (size, each)
  where
    writes : List (ℕ × ℕ)
    writes = (state_word j, 1) ∷ (key_word j, key) ∷ (place_word j, p) ∷ []

    size : length (set e.after (3 * j + 1) 0) ≡ 64
    size = length-set e.after (3 * j + 1) 0 ∙ ap length h.4 ∙ length-write_all ws writes ∙ long

    each : (i : ℕ) → (i ≤ 3 * j + 1) ⊎ (3 * j + 4 ≤ i) → get_or (set e.after (3 * j + 1) 0) i 0 ≡ get_or ws i 0
    each i out = ⊎_elim same other (eqb_tells i (3 * j + 1))
      where
        same : ((i == 3 * j + 1) ≡ true) × (i ≡ 3 * j + 1) → get_or (set e.after (3 * j + 1) 0) i 0 ≡ get_or ws i 0
        same a =
            let here : get_or (set e.after (3 * j + 1) 0) (3 * j + 1) 0 ≡ 0 = get_or-set_same e.after (3 * j + 1) 0 0 (omega (arith, size, length-set e.after (3 * j + 1) 0)) in
            ap (λ x. get_or (set e.after (3 * j + 1) 0) x 0) a.1 ∙ here ∙ sym h.2 ∙ ap (λ x. get_or ws x 0) (sym a.1)

        other : ((i == 3 * j + 1) ≡ false) × (i ≢ 3 * j + 1) → get_or (set e.after (3 * j + 1) 0) i 0 ≡ get_or ws i 0
        other a =
            get_or-set_other e.after (3 * j + 1) i 0 0 a.1 ∙ ap (λ (xs : List ℕ). get_or xs i 0) h.4
            ∙ unwritten ws writes i (λ g. let at = in_row (3 * j + 1) 3 i (subst (λ js. IsIn js i) (sym (entry_row j)) g) in ⊎_elim (λ b. a.1 (omega arith)) (λ b. absurd (omega arith)) out)

pub undoes_add : UndoesAdd
undoes_add ws e key p long h = add_back ws e key p (rows.add ws key p).0 long (subst (λ o. Tried ws key p 0 21 (rows.add ws key p).0 o) h (add_walked ws key p))
