-- What transactions take that commit and answer whatever they take back: no more than they have inserts answered.
use Rattle.std.proofs.Common.{◌≡◌, ℕ, ◌+◌, ◌≤◌, Bool, true, false, List, [], ◌∷◌, ◌++◌, length, Option, Some, None, refl, ap, sym, subst, ◌∙◌, ◌⊎◌, inl, inr, ⊎_elim, arith}
use Rattle.std.specs.Prelude.{Contains, fold, filter_map, sum_by, IsSome}
use Rattle.std.specs.List.{cons_option}
use Rattle.std.proofs.lemmas.Bool.{eq-eqb}
use Rattle.std.proofs.lemmas.List.Sums.{sum_by-cons, fold_push}
use Rattle.std.proofs.lemmas.List.Elements.{Contains-push_cases, Contains-push, filter_map-append, Contains-append_left}
use Rattle.dali_lists.proofs.Options.{some_of}
use Rattle.dali_geometry.specs.Sizes.{Sizes}
use Rattle.dali_record.specs.declared.operations.Block.{Block}
use Rattle.dali_record.specs.declared.records.Record.{Record}
use Rattle.dali_record.specs.declared.records.Record.TheVariants.{Begin, Forward}
use Rattle.dali_record.specs.Log.{begun, begin_by, committed, undo_added}
use Rattle.dali_record.specs.Epochs.{separates}
use Rattle.dali_record.specs.Damage.{has}
use Rattle.dali_record.specs.Settled.{redo_all, AreSound, IsSoundIn}
use Rattle.dali_record.specs.Calls.{Progress}
use Rattle.dali_record.specs.Legal.{Working, TxnState, Unbegun, Active, Over, Committed as IsOver}
use Rattle.dali_record.proofs.Ends.{by_push}
use Rattle.dali_history.proofs.Members.{has_from_Contains}
use Rattle.dali_history.specs.Kept.Kept.{kept_state, kept_step, KeepsCalls}
use Rattle.dali_history.proofs.KeptLemmas.WithoutLast.{HasEnded, kept_before, calls_before, sound_before}
use Rattle.dali_history.proofs.KeptLemmas.Invariant.{Knows}
use Rattle.dali_history.proofs.KeptLemmas.InvariantAlong.{forward_state}
use Rattle.dali_history.proofs.KeptLemmas.InvariantSteps.{state_step, known_push}
use Rattle.dali_history.specs.Room.Room.{cell_by, entry_by, cells_taken, entries_taken, inserts_of, steady_next, IsSteady}
use Rattle.dali_history.proofs.RoomLemmas.Steps.{Stepped, stays, begins, goes, backs, answers, commits, ends, closes, frees, alone, restarts, stepped}
use Rattle.dali_history.proofs.RoomLemmas.Counting.{contains_none, contains_more, contains_first, sum_part, sum_both, sum_less}
use Rattle.dali_history.proofs.RoomLemmas.Tally.{Tells, weight, insert_weight, taken_by, inserts_are, Tally, tally_push}
use Rattle.dali_history.proofs.RoomLemmas.CellsAndEntries.{size, takes_cell, cell_pends, cell_tells, takes_entry, entry_pends, entry_tells}

abbrev pub Inside : List Record → Type 0
Inside J = (x : Record) → Contains J x → separates x ≡ false

inside_before : (J : List Record) (x : Record) → Inside (J ++ x ∷ []) → Inside J
inside_before J x h y c = h y (Contains-append_left J (x ∷ []) y c)

-- ---- along the records of an epoch
module _ (s : Sizes) (base : List (List ℕ)) (t : ℕ) (takes : Block → ℕ) (pend : Progress → ℕ) (tells : Tells takes pend) where
  abbrev Tallies : List Record → Type 0
  Tallies J = KeepsCalls s J → AreSound base J → Inside J → (x : TxnState) → kept_state s t J ≡ Some x → (back : Bool) → fold (steady_next t) (Some false) J ≡ Some back → Tally takes pend t J x back

  tallies_first : Tallies []
  tallies_first calls sound inside x e back f = let same : Unbegun ≡ x = cc (e) in subst (λ y. Tally takes pend t [] y back) same (omega arith)

  tallies_push : (J : List Record) (r : Record) → Tallies J → Tallies (J ++ r ∷ [])
  tallies_push J r ih calls sound inside y e back' f = by_steady (fold (steady_next t) (Some false) J) refl (sym (fold_push (steady_next t) (Some false) J r) ∙ f)
    where
      was : (x : TxnState) × (kept_state s t J ≡ Some x)
      was = some_of (kept_state s t J) (kept_before s t J r (calls.txns t))

      step : Stepped s t was.0 r y
      step = stepped s t was.0 r y (state_step s t J r was.0 y was.1 e)

      undo : (b : Block) → r ≡ Forward t b → takes b ≤ length (undo_added b b.undo)
      undo b same = tells.undone _ b (subst (λ z. IsSoundIn (redo_all base J) z) same (sound_before base J r sound).1)

      by_steady : (o : Option Bool) → fold (steady_next t) (Some false) J ≡ o → steady_next t o r ≡ Some back' → Tally takes pend t (J ++ r ∷ []) y back'
      by_steady None g h = absurd (cc (h))
      by_steady (Some back) g h =
          tally_push takes pend tells t J s r was.0 y back back' (inside r (Contains-push J r)) undo step h
          (ih (calls_before s J r calls) (sound_before base J r sound).0 (inside_before J r inside) was.0 was.1 back g)

  pub tally_along : (E : List Record) → Tallies E
  tally_along E = by_push Tallies tallies_first tallies_push E

-- ---- who has records
begun_more : (J : List Record) (r : Record) (t : ℕ) → Contains (begun J) t → Contains (begun (J ++ r ∷ [])) t
begun_more J r t h = subst (λ ts. Contains ts t) (sym (filter_map-append begin_by J (r ∷ []))) (Contains-append_left (begun J) (begun (r ∷ [])) t h)

abbrev RunsBegun : Sizes → List Record → Type 0
RunsBegun s J = KeepsCalls s J → (t : ℕ) (w : Working) → kept_state s t J ≡ Some (Active w) → Contains (begun J) t

runs_begun_push : (s : Sizes) (J : List Record) (r : Record) → RunsBegun s J → RunsBegun s (J ++ r ∷ [])
runs_begun_push s J r ih calls t v e = go (stepped s t was.0 r (Active v) (state_step s t J r was.0 (Active v) was.1 e))
  where
    was : (x : TxnState) × (kept_state s t J ≡ Some x)
    was = some_of (kept_state s t J) (kept_before s t J r (calls.txns t))

    old : (w : Working) → was.0 ≡ Active w → Contains (begun (J ++ r ∷ [])) t
    old w f = begun_more J r t (ih (calls_before s J r calls) t w (was.1 ∙ ap (λ z. Some z) f))

    go : Stepped s t was.0 r (Active v) → Contains (begun (J ++ r ∷ [])) t
    go (stays c f) = old v (sym f)
    go (begins u f g) = subst (λ x. Contains (begun (J ++ x ∷ [])) t) (sym f) (subst (λ ts. Contains ts t) (sym (filter_map-append begin_by J (Begin t ∷ []))) (Contains-push (begun J) t))
    go (goes w b f g h) = old w f
    go (backs w b p f g h i j) = old w f
    go (answers w c a f g h i) = old w f
    go (commits w f g h i) = absurd (cc (i))
    go (ends w f g h i) = absurd (cc (i))
    go (closes ps f g h) = absurd (cc (h))
    go (frees u b p ps qs f g h i) = absurd (cc (i))
    go (alone p b f g h) = absurd (cc (h))
    go (restarts rs ds f n) = absurd (n v refl)

runs_begun : (s : Sizes) (E : List Record) → RunsBegun s E
runs_begun s E = by_push (RunsBegun s) (λ calls t w e. absurd (cc (e))) (runs_begun_push s) E

-- who has an operation has begun
abbrev WorksBegun : Sizes → List Record → Type 0
WorksBegun s J = KeepsCalls s J → (u : ℕ) (b : Block) → Contains J (Forward u b) → Contains (begun J) u

works_begun_push : (s : Sizes) (J : List Record) (r : Record) → WorksBegun s J → WorksBegun s (J ++ r ∷ [])
works_begun_push s J r ih calls u b h = begun_more J r u (⊎_elim (λ old. ih (calls_before s J r calls) u b old) new (Contains-push_cases J r (Forward u b) h))
  where
    was : (x : TxnState) × (kept_state s u J ≡ Some x)
    was = some_of (kept_state s u J) (kept_before s u J r (calls.txns u))

    is : (x : TxnState) × (kept_state s u (J ++ r ∷ []) ≡ Some x)
    is = some_of (kept_state s u (J ++ r ∷ [])) (calls.txns u)

    new : r ≡ Forward u b → Contains (begun J) u
    new same =
        let f = forward_state s u was.0 is.0 b (subst (λ z. kept_step s u was.0 z ≡ Some is.0) same (state_step s u J r was.0 is.0 was.1 is.1)) in
        runs_begun s J (calls_before s J r calls) u f.0 (was.1 ∙ ap (λ z. Some z) f.1)

works_begun : (s : Sizes) (E : List Record) → WorksBegun s E
works_begun s E = by_push (WorksBegun s) (λ calls u b h. absurd (contains_none (Forward u b) h)) (works_begun_push s) E

-- what is known of each
known_first : (u : ℕ) → Knows u [] (Some Unbegun)
known_first u = (refl, refl, refl, none)
  where
    none : HasEnded u [] → ⊥
    none h = let e = h.1 in cc (e)

known_along : (s : Sizes) (E : List Record) → KeepsCalls s E → (u : ℕ) → Knows u E (kept_state s u E)
known_along s E = by_push (λ J. KeepsCalls s J → (u : ℕ) → Knows u J (kept_state s u J)) (λ calls. known_first) (λ J r ih calls. known_push s J r calls (ih (calls_before s J r calls))) E

-- ---- all transactions
-- what the operation of a record takes
abbrev pub Picks : (Record → Option (ℕ × ℕ)) → (Block → ℕ) → Record → Type 0
Picks by takes r = (size (by r) ≡ 0) ⊎ ((u : ℕ) × (b : Block) × (r ≡ Forward u b) × (size (by r) ≡ takes b))

picked_more : (by : Record → Option (ℕ × ℕ)) (r : Record) (E : List Record) → length (filter_map by (r ∷ E)) ≡ size (by r) + length (filter_map by E)
picked_more by r E = go (by r)
  where
    go : (o : Option (ℕ × ℕ)) → length (cons_option o (filter_map by E)) ≡ size o + length (filter_map by E)
    go None = omega arith
    go (Some p) = omega arith

module _ (by : Record → Option (ℕ × ℕ)) (takes : Block → ℕ) (picks : (r : Record) → Picks by takes r) (ts : List ℕ) where
  all_taken : (E : List Record) → ((u : ℕ) (b : Block) → Contains E (Forward u b) → Contains ts u) → length (filter_map by E) ≤ sum_by (λ t. taken_by takes t E) ts
  all_taken [] h = omega arith
  all_taken (r ∷ E) h = omega (arith, picked_more by r E, first (picks r), all_taken E (λ u b c. h u b (contains_more r E (Forward u b) c)), sum_both (λ t. weight takes t r) (λ t. taken_by takes t E) ts, sum_less (λ t. weight takes t r + taken_by takes t E) (λ t. taken_by takes t (r ∷ E)) ts (λ t c. omega (arith, sum_by-cons (weight takes t) r E)))
    where
      first : Picks by takes r → size (by r) ≤ sum_by (λ t. weight takes t r) ts
      first (inl e) = omega (arith, e)
      first (inr (u, b, same, e)) =
          let there : Contains ts u = h u b (subst (λ z. Contains (z ∷ E) (Forward u b)) (sym same) (contains_first (Forward u b) E)) in
          let own : weight takes u r ≡ takes b = subst (λ z. weight takes u z ≡ takes b) (sym same) (rw (eq-eqb u u refl) refl) in
          omega (arith, e, own, sum_part (λ t. weight takes t r) ts u there)

-- a transaction that committed
module _ (s : Sizes) (base : List (List ℕ)) (E : List Record) (calls : KeepsCalls s E) (sound : AreSound base E) (inside : Inside E) (steady : (t : ℕ) → IsSteady t E) where
  committed_few : (takes : Block → ℕ) (pend : Progress → ℕ) → Tells takes pend → (t : ℕ) → Contains (committed E) t → taken_by takes t E ≤ inserts_of E t
  committed_few takes pend tells t c = go (kept_state s t E) refl (calls.txns t) (known_along s E calls t)
    where
      back : (b : Bool) × (fold (steady_next t) (Some false) E ≡ Some b)
      back = some_of (fold (steady_next t) (Some false) E) (steady t)

      is : has (committed E) t ≡ true
      is = has_from_Contains (committed E) t c

      tally : (x : TxnState) → kept_state s t E ≡ Some x → Tally takes pend t E x back.0
      tally x e = tally_along s base t takes pend tells E calls sound inside x e back.0 back.1

      few : taken_by takes t E ≤ sum_by (insert_weight t) E + 0 → taken_by takes t E ≤ inserts_of E t
      few h = omega (arith, h, inserts_are t E)

      go : (o : Option TxnState) → kept_state s t E ≡ o → IsSome o → Knows t E (kept_state s t E) → taken_by takes t E ≤ inserts_of E t
      go None e some knows = absurd (cc (some))
      go (Some Unbegun) e some knows = let k = subst (λ o. Knows t E o) e knows in let no : true ≡ false = sym is ∙ k.1 in absurd (cc (no))
      go (Some (Active w)) e some knows = let k = subst (λ o. Knows t E o) e knows in let no : true ≡ false = sym is ∙ k.1 in absurd (cc (no))
      go (Some (IsOver ps)) e some knows = few (tally (IsOver ps) e)
      go (Some Over) e some knows = few (tally Over e)

  module _ (commits : (t : ℕ) → Contains (begun E) t → Contains (committed E) t) where
    few_of : (by : Record → Option (ℕ × ℕ)) (takes : Block → ℕ) (pend : Progress → ℕ) → Tells takes pend → ((r : Record) → Picks by takes r) → length (filter_map by E) ≤ sum_by (inserts_of E) (committed E)
    few_of by takes pend tells picks = omega (arith, all_taken by takes picks (committed E) E (λ u b c. commits u (works_begun s E calls u b c)), sum_less (λ t. taken_by takes t E) (inserts_of E) (committed E) (committed_few takes pend tells))

    pub few_cells : length (cells_taken E) ≤ sum_by (inserts_of E) (committed E)
    few_cells = few_of cell_by takes_cell cell_pends cell_tells picks
      where
        picks : (r : Record) → Picks cell_by takes_cell r
        picks (Forward u b) = inr (u, b, refl, refl)
        picks _ = inl refl

    pub few_entries : length (entries_taken E) ≤ sum_by (inserts_of E) (committed E)
    few_entries = few_of entry_by takes_entry entry_pends entry_tells picks
      where
        picks : (r : Record) → Picks entry_by takes_entry r
        picks (Forward u b) = inr (u, b, refl, refl)
        picks _ = inl refl
