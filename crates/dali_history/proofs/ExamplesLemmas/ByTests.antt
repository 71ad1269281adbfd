-- What a history keeps, by tests that compute: so a written log can be shown to be one.
--     names_below n L          each transaction that a record names is below n
--     is_locked E              a conflict has its Ended between
--     reread L                 what reading the spellings of the records gives
--     HonestFrom               honesty, block by block
use Rattle.std.proofs.Common.{◌≡◌, ℕ, zero, suc, ◌+◌, ◌<◌, ◌≤◌, Bool, true, false, List, [], ◌∷◌, ◌++◌, length, take, Option, Some, None, refl, ap, sym, subst, ◌∙◌, ◌⊎◌, inl, inr, ⊎_elim, arith, append_assoc}
use Rattle.std.specs.Prelude.{slice_get, ◌==◌, ◌&&◌, ◌||◌, not, nat_lt, is_some, IsSome, ⊤, fold, map, option_to_list}
use Rattle.std.specs.List.{list_all, list_any}
use Rattle.std.proofs.lemmas.List.{length_push}
use Rattle.std.proofs.lemmas.Bool.{and_parts, both_ways, ltb-true, ne_eqb, cases_lt, agree_below, agree_below_at}
use Rattle.std.proofs.lemmas.Bool.Decides.{Decides-eqb}
use Rattle.std.proofs.lemmas.Option.{slice_get_within}
use Rattle.dali_lists.proofs.Lists.{get_front}
use Rattle.dali_bytes.specs.Cursor.{IsBytes}
use Rattle.dali_geometry.specs.Sizes.{Sizes}
use Rattle.dali_record.specs.declared.operations.Block.{Block}
use Rattle.dali_record.specs.declared.records.Record.{Record}
use Rattle.dali_record.specs.declared.records.Record.TheVariants.{Begin, Forward, Done, Commit, Ended, Solo, Restarted, Back}
use Rattle.dali_record.specs.Log.{Touch, touch_of, touch_at, txn_of}
use Rattle.dali_record.specs.Epochs.{Epoch, clean_place, failing}
use Rattle.dali_record.specs.Locks.{conflicts, IsLockLegalIn}
use Rattle.dali_record.specs.Damage.{has}
use Rattle.dali_record.specs.Settled.{redo, redo_all, IsSoundTouch}
use Rattle.dali_record.specs.Legal.{Unbegun, txn_step, txn_next, txn_state, TellsScan, ReadsWords}
use Rattle.dali_record.specs.Spelling.{spelling, CanBeSpelled}
use Rattle.dali_record.specs.Reading.{record_at}
use Rattle.dali_record.proofs.Spelled.{record_taken}
use Rattle.dali_record.proofs.Chains.{any_get}
use Rattle.dali_history.specs.Recovered.{IsHonestIn}
use Rattle.dali_history.specs.History.{AreSpelled}
use Rattle.dali_history.proofs.Restarts.{is_restart}

-- ---- each transaction
abbrev pub named_by : Record → List ℕ
named_by (Solo t p b) = t ∷ p ∷ []
named_by r = option_to_list (txn_of r)

abbrev pub names_below : ℕ → List Record → Bool
names_below n L = list_all (λ r. list_all (λ u. nat_lt u n) (named_by r)) L

another : (n t u : ℕ) (rest : Bool) → n ≤ t → (nat_lt u n && rest) ≡ true → (u == t) ≡ false
another n t u rest h e = let l : u < n = ltb-true u n (and_parts (nat_lt u n) rest e).0 in ne_eqb u t (λ k. absurd (omega (arith, h, l, k)))

unnamed_step : (s : Sizes) (n t : ℕ) (r : Record) → n ≤ t → list_all (λ u. nat_lt u n) (named_by r) ≡ true → txn_step s t Unbegun r ≡ Some Unbegun
unnamed_step s n t (Begin u) h e = rw (another n t u true h e) refl
unnamed_step s n t (Forward u b) h e = rw (another n t u true h e) refl
unnamed_step s n t (Done u c a) h e = rw (another n t u true h e) refl
unnamed_step s n t (Commit u) h e = rw (another n t u true h e) refl
unnamed_step s n t (Ended u) h e = rw (another n t u true h e) refl
unnamed_step s n t (Solo u p b) h e =
    let q : (p == t) ≡ false = another n t p true h (and_parts (nat_lt u n) (nat_lt p n && true) e).1 in
    rw (another n t u (nat_lt p n && true) h e, q) refl
unnamed_step s n t (Back u b) h e = rw (another n t u true h e) refl
unnamed_step s n t _ h e = refl

unnamed : (s : Sizes) (n t : ℕ) (L : List Record) → n ≤ t → names_below n L ≡ true → txn_state s t L ≡ Some Unbegun
unnamed s n t [] h e = refl
unnamed s n t (r ∷ L) h e =
    let p = and_parts (list_all (λ u. nat_lt u n) (named_by r)) (names_below n L) e in
    ap (λ o. fold (txn_next s t) o L) (unnamed_step s n t r h p.0) ∙ unnamed s n t L h p.1

-- the rules allow each transaction where they allow those that the log names
pub txns_by_test : (s : Sizes) (n : ℕ) (L : List Record) → names_below n L ≡ true → agree_below (λ t. is_some (txn_state s t L)) (λ t. true) n ≡ true → (t : ℕ) → IsSome (txn_state s t L)
txns_by_test s n L below each t =
    ⊎_elim
    (λ l. agree_below_at (λ u. is_some (txn_state s u L)) (λ u. true) n t each l)
    (λ h. rw (unnamed s n t L h below) refl)
    (cases_lt t n)

-- ---- a log without Restarted
pub tells_by_test : (L : List Record) → list_any is_restart L ≡ false → TellsScan L
tells_by_test [] h n rs ds e = absurd (cc)
tells_by_test (r ∷ L) h zero rs ds e =
    let same : r ≡ Restarted rs ds = cc in
    let never : is_restart r ≡ true = ap is_restart same in
    absurd (both_ways (is_restart r || list_any is_restart L) h (Rattle.std.proofs.lemmas.Bool.or_left (is_restart r) (list_any is_restart L) never))
tells_by_test (r ∷ L) h (suc n) rs ds e = absurd (none L n (Rattle.std.proofs.lemmas.Bool.or_parts (is_restart r) (list_any is_restart L) h).1 e)
  where
    none : (M : List Record) (k : ℕ) → list_any is_restart M ≡ false → slice_get M k ≡ Some (Restarted rs ds) → ⊥
    none M k g f = both_ways (list_any is_restart M) g (Rattle.std.proofs.lemmas.Map.Keys.any_passes_from_place is_restart M k (Restarted rs ds) f refl)

-- ---- locks
abbrev pub is_end : ℕ → Record → Bool
is_end t (Ended u) = u == t
is_end t r = false

abbrev pub holds_off : Touch → List Record → Option Touch → Bool
holds_off a between None = true
holds_off a between (Some b) = not (conflicts a b) || list_any (is_end a.owner) between

abbrev pub is_locked_from : Touch → List Record → List Record → Bool
is_locked_from a between [] = true
is_locked_from a between (r ∷ rs) = holds_off a between (touch_of r) && is_locked_from a (between ++ r ∷ []) rs

abbrev pub is_locked_by : Option Touch → List Record → Bool
is_locked_by None E = true
is_locked_by (Some a) E = is_locked_from a [] E

abbrev pub is_locked : List Record → Bool
is_locked [] = true
is_locked (r ∷ E) = is_locked_by (touch_of r) E && is_locked E

end_is : (t : ℕ) (r : Record) → is_end t r ≡ true → r ≡ Ended t
end_is t (Ended u) e = ap (λ v. Ended v) ((Decides-eqb u t).0 e)
end_is t _ e = absurd (cc)

ended_before : (a b : Touch) (between rest : List Record) → holds_off a between (Some b) ≡ true → conflicts a b ≡ true → (k : ℕ) × (slice_get (between ++ rest) k ≡ Some (Ended a.owner)) × (k < length between)
ended_before a b between rest h c =
    let ends : list_any (is_end a.owner) between ≡ true = rw c at h in
    let g = any_get (is_end a.owner) between ends in
    (g.0, get_front between rest g.0 (Ended a.owner) (g.2 ∙ ap (λ r. Some r) (end_is a.owner g.1 g.3)), slice_get_within between g.0 g.1 g.2)

locked_from : (a b : Touch) (between rest : List Record) (j : ℕ) → is_locked_from a between rest ≡ true → touch_at rest j ≡ Some b → conflicts a b ≡ true → (k : ℕ) × (slice_get (between ++ rest) k ≡ Some (Ended a.owner)) × (k < length between + j)
locked_from a b between [] j h e c = absurd (cc)
locked_from a b between (r ∷ rs) zero h e c =
    let p = and_parts (holds_off a between (touch_of r)) (is_locked_from a (between ++ r ∷ []) rs) h in
    let w = ended_before a b between (r ∷ rs) (subst (λ o. holds_off a between o ≡ true) e p.0) c in
    (w.0, w.1, omega (arith, w.2))
locked_from a b between (r ∷ rs) (suc j) h e c =
    let p = and_parts (holds_off a between (touch_of r)) (is_locked_from a (between ++ r ∷ []) rs) h in
    let w = locked_from a b (between ++ r ∷ []) rs j p.1 e c in
    (w.0, subst (λ M. slice_get M w.0 ≡ Some (Ended a.owner)) (append_assoc between (r ∷ []) rs) w.1, omega (arith, w.2, length_push between r))

-- records that pass the test are lock-legal
pub locks_by_test : (E : List Record) → is_locked E ≡ true → IsLockLegalIn E
locks_by_test [] h i j a b lt p q c = absurd (cc)
locks_by_test (r ∷ E) h zero zero a b lt p q c = absurd (omega (arith, lt))
locks_by_test (r ∷ E) h zero (suc j) a b lt p q c =
    let t = and_parts (is_locked_by (touch_of r) E) (is_locked E) h in
    let w = locked_from a b [] E j (subst (λ o. is_locked_by o E ≡ true) p t.0) q c in
    (suc w.0, omega arith, omega (arith, w.2), w.1)
locks_by_test (r ∷ E) h (suc i) zero a b lt p q c = absurd (omega (arith, lt))
locks_by_test (r ∷ E) h (suc i) (suc j) a b lt p q c =
    let t = and_parts (is_locked_by (touch_of r) E) (is_locked E) h in
    let w = locks_by_test E t.1 i j a b (omega (arith, lt)) p q c in
    (suc w.0, omega (arith, w.1), omega (arith, w.2), w.3)

-- ---- blocks
abbrev pub test_touch : (Block → Bool) → Option Touch → Bool
test_touch test None = true
test_touch test (Some a) = test a.block

-- a test of each block of a log
abbrev pub all_blocks : (Block → Bool) → List Record → Bool
all_blocks test L = list_all (λ r. test_touch test (touch_of r)) L

-- what passes for all blocks passes for each
pub each_block : (test : Block → Bool) (L : List Record) → all_blocks test L ≡ true → (i : ℕ) (a : Touch) → touch_at L i ≡ Some a → test a.block ≡ true
each_block test [] h i a e = absurd (cc)
each_block test (r ∷ L) h zero a e = subst (λ o. test_touch test o ≡ true) e (and_parts (test_touch test (touch_of r)) (all_blocks test L) h).0
each_block test (r ∷ L) h (suc i) a e = each_block test L (and_parts (test_touch test (touch_of r)) (all_blocks test L) h).1 i a e

-- each block reads some word
pub reads_by_test : (L : List Record) → all_blocks (λ b. not (b.read == 0)) L ≡ true → ReadsWords L
reads_by_test L h i a e = each_block (λ b. not (b.read == 0)) L h i a e

-- ---- spellings
are_bytes : (bytes : List ℕ) → list_all (λ b. nat_lt b 256) bytes ≡ true → IsBytes bytes
are_bytes [] h i = omega arith
are_bytes (b ∷ bytes) h zero = ltb-true b 256 (and_parts (nat_lt b 256) (list_all (λ c. nat_lt c 256) bytes) h).0
are_bytes (b ∷ bytes) h (suc i) = are_bytes bytes (and_parts (nat_lt b 256) (list_all (λ c. nat_lt c 256) bytes) h).1 i

-- what reading the spelling of each record gives, and each record
abbrev pub reread : List Record → List (Option (Record × List ℕ))
reread L = map (λ r. record_at (spelling r)) L

abbrev pub itself : List Record → List (Option (Record × List ℕ))
itself L = map (λ r. Some (r, [])) L

-- a log whose records are read again from their spellings is spelled
pub spelled_by_reading : (L : List Record) → list_all (λ r. list_all (λ b. nat_lt b 256) (spelling r)) L ≡ true → reread L ≡ itself L → AreSpelled L
spelled_by_reading [] h e i r at = absurd (cc)
spelled_by_reading (x ∷ L) h e zero r at =
    let same : x ≡ r = cc in
    subst CanBeSpelled same (record_taken (spelling x) x [] (are_bytes (spelling x) (and_parts (list_all (λ b. nat_lt b 256) (spelling x)) (list_all (λ y. list_all (λ b. nat_lt b 256) (spelling y)) L) h).0) (first _ _ _ _ e)).0
  where
    first : (a b : Option (Record × List ℕ)) (as' bs : List (Option (Record × List ℕ))) → a ∷ as' ≡ b ∷ bs → a ≡ b
    first a b as' bs k = cc
spelled_by_reading (x ∷ L) h e (suc i) r at = spelled_by_reading L (and_parts (list_all (λ b. nat_lt b 256) (spelling x)) (list_all (λ y. list_all (λ b. nat_lt b 256) (spelling y)) L) h).1 (rest _ _ _ _ e) i r at
  where
    rest : (a b : Option (Record × List ℕ)) (as' bs : List (Option (Record × List ℕ))) → a ∷ as' ≡ b ∷ bs → as' ≡ bs
    rest a b as' bs k = cc

-- ---- honesty
abbrev pub HonestTouch : ℕ → List ℕ → List (List ℕ) → ℕ → Option Touch → Type 0
HonestTouch clean failed image n None = ⊤
HonestTouch clean failed image n (Some a) = IsSoundTouch image (Some a) ⊎ ((clean ≤ n) × (has failed a.block.region ≡ true))

-- each block of E, of which the first record has the number n, is sound on what stands in the image so far, or is on a failing region
abbrev pub HonestFrom : ℕ → List ℕ → List (List ℕ) → ℕ → List Record → Type 0
HonestFrom clean failed image n [] = ⊤
HonestFrom clean failed image n (r ∷ E) = HonestTouch clean failed image n (touch_of r) × HonestFrom clean failed (redo image r) (n + 1) E

honest_at : (clean : ℕ) (failed : List ℕ) (image : List (List ℕ)) (n : ℕ) (E : List Record) → HonestFrom clean failed image n E → (i : ℕ) (a : Touch) → touch_at E i ≡ Some a → HonestTouch clean failed (redo_all image (take i E)) (n + i) (touch_at E i)
honest_at clean failed image n [] h i a e = absurd (cc)
honest_at clean failed image n (r ∷ E) h zero a e = let same : n ≡ n + 0 = omega arith in subst (λ k. HonestTouch clean failed image k (touch_of r)) same h.0
honest_at clean failed image n (r ∷ E) h (suc i) a e = let same : n + 1 + i ≡ n + suc i = omega arith in subst (λ k. HonestTouch clean failed (redo_all (redo image r) (take i E)) k (touch_at E i)) same (honest_at clean failed (redo image r) (n + 1) E h.1 i a e)

-- an epoch that is honest block by block is honest
pub honest_by_blocks : (base : List (List ℕ)) (e : Epoch) → HonestFrom (clean_place e) (failing e) base e.first e.records → IsHonestIn base e
honest_by_blocks base e h i a f =
    let at : HonestTouch (clean_place e) (failing e) (redo_all base (take i e.records)) (e.first + i) (Some a) = subst (λ o. HonestTouch (clean_place e) (failing e) (redo_all base (take i e.records)) (e.first + i) o) f (honest_at (clean_place e) (failing e) base e.first e.records h i a f) in
    ⊎_elim (λ s. inl (subst (λ o. IsSoundTouch (redo_all base (take i e.records)) o) (sym f) s)) (λ w. inr w) at
