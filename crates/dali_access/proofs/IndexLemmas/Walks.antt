-- The walks over the entries.
use Rattle.std.proofs.Common.{◌≡◌, ◌≢◌, ℕ, zero, suc, ◌+◌, ◌*◌, ◌^◌, ◌<◌, ◌≤◌, Bool, true, false, cond, List, [], ◌∷◌, ◌++◌, length, take, drop, refl, ap, sym, ◌∙◌, arith, get_or, map}
use Rattle.std.specs.Prelude.{◌==◌, ◌&&◌, not, zip, bit_or, flat_map}
use Rattle.std.proofs.lemmas.Bool.Decides.{nat_tests, Decides-eqb}
use Rattle.std.proofs.lemmas.List.{drop_more, drop_all, take_more, map-append, append-nil, append_assoc}
use Rattle.dali_words.specs.declared.Effect.{Effect}
use Rattle.dali_words.specs.Words.{mask_of, row_of}
use Rattle.dali_words.specs.Effects.{effect_of, write_all, reading, writing}
use Rattle.dali_words.proofs.Rows.{mask_of-append, mask_of-push}
use Rattle.dali_access.specs.declared.index.LookOutcome.{LookOutcome}
use Rattle.dali_access.specs.declared.index.LookOutcome.TheVariants.{Found, Absent}
use Rattle.dali_access.specs.declared.index.AddOutcome.{AddOutcome}
use Rattle.dali_access.specs.declared.index.AddOutcome.TheVariants.{Added, NoEntry}
use Rattle.dali_access.specs.Index.Entries.{state_word, key_word, place_word, entries, state_of, key_of, place_of, flag_of}
use Rattle.dali_access.specs.Index.Rows.{look, look_among, passed, add, add_among}

-- ---- the entries in a row
row_at : (k n i : ℕ) → i < n → get_or (row_of k n) i 0 ≡ k + i
row_at k zero i h = absurd (omega arith)
row_at k (suc n) zero h = let e : k ≡ k + 0 = omega arith in e
row_at k (suc n) (suc i) h = let e : k + 1 + i ≡ k + suc i = omega arith in row_at (k + 1) n i (omega arith) ∙ e

count_entries : length entries ≡ 21
unfolding entries
count_entries = refl

entry_number : (e : ℕ) → e < 21 → get_or entries e 0 ≡ e
unfolding entries
entry_number e h = let z : 0 + e ≡ e = omega arith in row_at 0 21 e h ∙ z

drop_entry : (e : ℕ) → e < 21 → drop e entries ≡ e ∷ drop (e + 1) entries
drop_entry e h = drop_more entries e 0 (omega (arith, count_entries)) ∙ ap (λ x. x ∷ drop (e + 1) entries) (entry_number e h)

take_entry : (e : ℕ) → e < 21 → take (e + 1) entries ≡ take e entries ++ e ∷ []
take_entry e h = take_more entries e 0 (omega (arith, count_entries)) ∙ ap (λ x. take e entries ++ x ∷ []) (entry_number e h)

none_left : (e : ℕ) → 21 ≤ e → drop e entries ≡ []
none_left e h = drop_all e entries (omega (arith, count_entries))

pub entry_row : (e : ℕ) → row_of (3 * e + 1) 3 ≡ state_word e ∷ key_word e ∷ place_word e ∷ []
entry_row e =
    let e2 : 3 * e + 1 + 1 ≡ 3 * e + 2 = omega arith in
    let e3 : 3 * e + 2 + 1 ≡ 3 * e + 3 = omega arith in
    rw (e2, e3) refl

-- the words of one more entry
or_more : (m b : ℕ) (seen more : List ℕ) → m ≡ mask_of seen → b ≡ mask_of more → bit_or m b ≡ mask_of (seen ++ more)
or_more m b seen more is here = ap (λ x. bit_or x b) is ∙ ap (bit_or (mask_of seen)) here ∙ sym (mask_of-append seen more)

or_flag : (m b : ℕ) (seen : List ℕ) → m ≡ mask_of seen → b ≡ 2 ^ 0 → bit_or m b ≡ mask_of (seen ++ 0 ∷ [])
or_flag m b seen is here = ap (λ x. bit_or x b) is ∙ ap (bit_or (mask_of seen)) here ∙ sym (mask_of-push seen 0)

-- ---- a look
abbrev pub looked : List ℕ → ℕ → List ℕ
looked ws e = flat_map (passed ws) (take e entries)

flat_map_push : (f : ℕ → List ℕ) (xs : List ℕ) (x : ℕ) → flat_map f (xs ++ x ∷ []) ≡ flat_map f xs ++ f x
flat_map_push f [] x = append-nil (f x)
flat_map_push f (y ∷ ys) x = ap (λ zs. f y ++ zs) (flat_map_push f ys x) ∙ sym (append_assoc (f y) (flat_map f ys) (f x))

looked_more : (ws : List ℕ) (e : ℕ) → e < 21 → looked ws (e + 1) ≡ looked ws e ++ passed ws e
looked_more ws e h = ap (flat_map (passed ws)) (take_entry e h) ∙ flat_map_push (passed ws) (take e entries) e

pub look_seen : (ws : List ℕ) (e m b : ℕ) → e < 21 → m ≡ mask_of (looked ws e) → b ≡ mask_of (passed ws e) → bit_or m b ≡ mask_of (looked ws (e + 1))
look_seen ws e m b h is here = or_more m b (looked ws e) (passed ws e) is here ∙ ap mask_of (sym (looked_more ws e h))

look_opened : (ws : List ℕ) (key : ℕ) (seen : List ℕ) (e : ℕ) → e < 21 → look_among ws key seen (drop e entries) ≡ look_among ws key seen (e ∷ drop (e + 1) entries)
look_opened ws key seen e h = ap (look_among ws key seen) (drop_entry e h)

pub look_on : (ws : List ℕ) (key e : ℕ) (t : Bool) → e < 21 → t ≡ ((state_of ws e == 1) && (key_of ws e == key)) → t ≡ false → look_among ws key (looked ws e) (drop e entries) ≡ look ws key → look_among ws key (looked ws (e + 1)) (drop (e + 1) entries) ≡ look ws key
look_on ws key e t h is other so_far =
    let full : Effect × LookOutcome = (effect_of ws (looked ws e ++ state_word e ∷ key_word e ∷ place_word e ∷ []) [], Found e (place_of ws e)) in
    let later : Effect × LookOutcome = look_among ws key (looked ws e ++ passed ws e) (drop (e + 1) entries) in
    let step : look_among ws key (looked ws e) (e ∷ drop (e + 1) entries) ≡ later = ap (λ x. cond x full later) (sym is ∙ other) in
    ap (λ s. look_among ws key s (drop (e + 1) entries)) (looked_more ws e h) ∙ sym step ∙ sym (look_opened ws key (looked ws e) e h) ∙ so_far

pub look_found : (ws : List ℕ) (key e m b p : ℕ) (t : Bool) → e < 21 → t ≡ ((state_of ws e == 1) && (key_of ws e == key)) → t ≡ true → m ≡ mask_of (looked ws e) → b ≡ mask_of (row_of (3 * e + 1) 3) → p ≡ place_of ws e → look_among ws key (looked ws e) (drop e entries) ≡ look ws key → (reading ws (bit_or m b), Found e p) ≡ look ws key
look_found ws key e m b p t h is same seen here at so_far =
    let full : Effect × LookOutcome = (effect_of ws (looked ws e ++ state_word e ∷ key_word e ∷ place_word e ∷ []) [], Found e (place_of ws e)) in
    let later : Effect × LookOutcome = look_among ws key (looked ws e ++ passed ws e) (drop (e + 1) entries) in
    let step : look_among ws key (looked ws e) (e ∷ drop (e + 1) entries) ≡ full = ap (λ x. cond x full later) (sym is ∙ same) in
    let reads : bit_or m b ≡ mask_of (looked ws e ++ state_word e ∷ key_word e ∷ place_word e ∷ []) = or_more m b (looked ws e) (state_word e ∷ key_word e ∷ place_word e ∷ []) seen (here ∙ ap mask_of (entry_row e)) in
    ap (λ x. (reading ws x, Found e p)) reads ∙ ap (λ q. (reading ws (mask_of (looked ws e ++ state_word e ∷ key_word e ∷ place_word e ∷ [])), Found e q)) at ∙ sym step ∙ sym (look_opened ws key (looked ws e) e h) ∙ so_far

pub look_ended : (ws : List ℕ) (key e m b : ℕ) (o : Bool) → 21 ≤ e → m ≡ mask_of (looked ws e) → b ≡ 2 ^ 0 → o ≡ not (flag_of ws == 0) → look_among ws key (looked ws e) (drop e entries) ≡ look ws key → (reading ws (bit_or m b), Absent o) ≡ look ws key
look_ended ws key e m b o h seen here flag so_far =
    ap (λ x. (reading ws x, Absent o)) (or_flag m b (looked ws e) seen here) ∙ ap (λ x. (reading ws (mask_of (looked ws e ++ 0 ∷ [])), Absent x)) flag ∙ sym (ap (look_among ws key (looked ws e)) (none_left e h)) ∙ so_far

-- ---- an add
abbrev pub tried : ℕ → List ℕ
tried e = map state_word (take e entries)

tried_more : (e : ℕ) → e < 21 → tried (e + 1) ≡ tried e ++ state_word e ∷ []
tried_more e h = ap (map state_word) (take_entry e h) ∙ map-append state_word (take e entries) (e ∷ [])

pub add_seen : (e m b : ℕ) → e < 21 → m ≡ mask_of (tried e) → b ≡ 2 ^ (3 * e + 1) → bit_or m b ≡ mask_of (tried (e + 1))
add_seen e m b h is here = ap (λ x. bit_or x b) is ∙ ap (bit_or (mask_of (tried e))) here ∙ sym (mask_of-push (tried e) (state_word e)) ∙ ap mask_of (sym (tried_more e h))

add_opened : (ws : List ℕ) (key p : ℕ) (seen : List ℕ) (e : ℕ) → e < 21 → add_among ws key p seen (drop e entries) ≡ add_among ws key p seen (e ∷ drop (e + 1) entries)
add_opened ws key p seen e h = ap (add_among ws key p seen) (drop_entry e h)

pub add_on : (ws : List ℕ) (key p e : ℕ) → e < 21 → state_of ws e ≢ 0 → add_among ws key p (tried e) (drop e entries) ≡ add ws key p → add_among ws key p (tried (e + 1)) (drop (e + 1) entries) ≡ add ws key p
add_on ws key p e h used so_far =
    let test : (state_of ws e == 0) ≡ false = grind (arith, nat_tests) in
    let full : Effect × AddOutcome = (effect_of ws (tried e ++ state_word e ∷ key_word e ∷ place_word e ∷ []) ((state_word e, 1) ∷ (key_word e, key) ∷ (place_word e, p) ∷ []), Added e) in
    let later : Effect × AddOutcome = add_among ws key p (tried e ++ state_word e ∷ []) (drop (e + 1) entries) in
    let step : add_among ws key p (tried e) (e ∷ drop (e + 1) entries) ≡ later = ap (λ x. cond x full later) test in
    ap (λ s. add_among ws key p s (drop (e + 1) entries)) (tried_more e h) ∙ sym step ∙ sym (add_opened ws key p (tried e) e h) ∙ so_far

pub add_found : (ws : List ℕ) (key p e m b : ℕ) → e < 21 → state_of ws e ≡ 0 → m ≡ mask_of (tried e) → b ≡ mask_of (row_of (3 * e + 1) 3) → add_among ws key p (tried e) (drop e entries) ≡ add ws key p → (writing ws (bit_or m b) (3 * e + 1) (1 ∷ key ∷ p ∷ []), Added e) ≡ add ws key p
add_found ws key p e m b h free seen here so_far =
    let test : (state_of ws e == 0) ≡ true = (Decides-eqb (state_of ws e) 0).1 free in
    let full : Effect × AddOutcome = (effect_of ws (tried e ++ state_word e ∷ key_word e ∷ place_word e ∷ []) ((state_word e, 1) ∷ (key_word e, key) ∷ (place_word e, p) ∷ []), Added e) in
    let later : Effect × AddOutcome = add_among ws key p (tried e ++ state_word e ∷ []) (drop (e + 1) entries) in
    let step : add_among ws key p (tried e) (e ∷ drop (e + 1) entries) ≡ full = ap (λ x. cond x full later) test in
    let reads : bit_or m b ≡ mask_of (tried e ++ state_word e ∷ key_word e ∷ place_word e ∷ []) = or_more m b (tried e) (state_word e ∷ key_word e ∷ place_word e ∷ []) seen (here ∙ ap mask_of (entry_row e)) in
    ap (λ x. (writing ws x (3 * e + 1) (1 ∷ key ∷ p ∷ []), Added e)) reads ∙ ap to_effect (entry_row e) ∙ sym step ∙ sym (add_opened ws key p (tried e) e h) ∙ so_far
  where
    to_effect : List ℕ → Effect × AddOutcome
    to_effect is = (record { read = mask_of (tried e ++ state_word e ∷ key_word e ∷ place_word e ∷ []); write = mask_of is; after = write_all ws (zip is (1 ∷ key ∷ p ∷ [])) }, Added e)

add_done : (ws : List ℕ) (key p e : ℕ) → 21 ≤ e → add_among ws key p (tried e) (drop e entries) ≡ (effect_of ws (tried e ++ 0 ∷ []) (cond (flag_of ws == 0) ((0, 1) ∷ []) []), NoEntry)
add_done ws key p e h = ap (add_among ws key p (tried e)) (none_left e h)

pub add_raised : (ws : List ℕ) (key p e m b : ℕ) → 21 ≤ e → flag_of ws ≡ 0 → m ≡ mask_of (tried e) → b ≡ 2 ^ 0 → add_among ws key p (tried e) (drop e entries) ≡ add ws key p → (writing ws (bit_or m b) 0 (1 ∷ []), NoEntry) ≡ add ws key p
add_raised ws key p e m b h down seen here so_far =
    let test : (flag_of ws == 0) ≡ true = (Decides-eqb (flag_of ws) 0).1 down in
    let writes : List (ℕ × ℕ) = (0, 1) ∷ [] in
    ap (λ x. (writing ws x 0 (1 ∷ []), NoEntry)) (or_flag m b (tried e) seen here) ∙ sym (ap (λ x. (effect_of ws (tried e ++ 0 ∷ []) (cond x writes []), NoEntry)) test) ∙ sym (add_done ws key p e h) ∙ so_far

pub add_ended : (ws : List ℕ) (key p e m b : ℕ) → 21 ≤ e → flag_of ws ≢ 0 → m ≡ mask_of (tried e) → b ≡ 2 ^ 0 → add_among ws key p (tried e) (drop e entries) ≡ add ws key p → (reading ws (bit_or m b), NoEntry) ≡ add ws key p
add_ended ws key p e m b h up seen here so_far =
    let test : (flag_of ws == 0) ≡ false = grind (arith, nat_tests) in
    let writes : List (ℕ × ℕ) = (0, 1) ∷ [] in
    ap (λ x. (reading ws x, NoEntry)) (or_flag m b (tried e) seen here) ∙ sym (ap (λ x. (effect_of ws (tried e ++ 0 ∷ []) (cond x writes []), NoEntry)) test) ∙ sym (add_done ws key p e h) ∙ so_far
