-- The records of an image, by region and entry, and the walk of a key.
use Rattle.std.proofs.Common.{◌≡◌, ◌≢◌, ℕ, zero, suc, ◌+◌, ◌<◌, ◌≤◌, true, false, not, List, [], ◌∷◌, ◌++◌, Option, Some, None, refl, ap, sym, subst, ◌∙◌, ◌⊎◌, inl, inr, ⊎_elim, arith, append-nil}
use Rattle.std.specs.Prelude.{◌==◌, Contains, filter_map, flat_map}
use Rattle.std.specs.List.{cons_option}
use Rattle.std.proofs.lemmas.Grind.{flat_map-append}
use Rattle.std.proofs.lemmas.List.Elements.{Contains-append_left, Contains-append_right, Contains-append_cases}
use Rattle.std.proofs.lemmas.Bool.{ne_eqb}
use Rattle.std.proofs.lemmas.Bool.Decides.{eqb_tells}
use Rattle.dali_lists.proofs.Members.{contains_first, contains_more, contains_cases, contains_none}
use Rattle.dali_words.specs.Words.{row_of}
use Rattle.dali_geometry.specs.Sizes.{Sizes}
use Rattle.dali_geometry.specs.Places.{home}
use Rattle.dali_access.specs.Index.Entries.{entries, flag_of}
use Rattle.dali_access.specs.Index.Records.{words_of, is_reached, stored, records, below}
use Rattle.dali_access.specs.Index.Reached.{region_after, IsReached, WalksAreReached, RecordsAreStored}
use Rattle.dali_access.proofs.IndexLemmas.Worlds.{flags}
use Rattle.dali_access.proofs.IndexLemmas.Starts.{reach_tests, tests_reach}

-- ---- what a function gives of the entries in a row
in_row_of : {Y : Type 0} (f : ℕ → Option Y) (k n i : ℕ) (y : Y) → k ≤ i → i < k + n → f i ≡ Some y → Contains (filter_map f (row_of k n)) y
in_row_of f k zero i y a b e = absurd (omega arith)
in_row_of {Y = Y} f k (suc n) i y a b e = go (eqb_tells i k) (in_row_of f (k + 1) n i y)
  where
    go : (((i == k) ≡ true) × (i ≡ k)) ⊎ (((i == k) ≡ false) × (i ≢ k)) → (k + 1 ≤ i → i < k + 1 + n → f i ≡ Some y → Contains (filter_map f (row_of (k + 1) n)) y) → Contains (filter_map f (row_of k (suc n))) y
    go (inl p) ih = let here : f k ≡ Some y = subst (λ j. f j ≡ Some y) p.1 e in rw here (contains_first y (filter_map f (row_of (k + 1) n)))
    go (inr p) ih = more (f k)
      where
        rest : Contains (filter_map f (row_of (k + 1) n)) y
        rest = ih (omega (arith, p.1)) (omega arith) e

        more : (o : Option Y) → Contains (cons_option o (filter_map f (row_of (k + 1) n))) y
        more None = rest
        more (Some z) = contains_more z y (filter_map f (row_of (k + 1) n)) rest

row_of_in : {Y : Type 0} (f : ℕ → Option Y) (k n : ℕ) (y : Y) → Contains (filter_map f (row_of k n)) y → (i : ℕ) × (k ≤ i) × (i < k + n) × (f i ≡ Some y)
row_of_in f k zero y c = absurd (contains_none y c)
row_of_in {Y = Y} f k (suc n) y c = go (f k) refl c (row_of_in f (k + 1) n y)
  where
    go : (o : Option Y) → f k ≡ o → Contains (cons_option o (filter_map f (row_of (k + 1) n))) y → (Contains (filter_map f (row_of (k + 1) n)) y → (i : ℕ) × (k + 1 ≤ i) × (i < k + 1 + n) × (f i ≡ Some y)) → (i : ℕ) × (k ≤ i) × (i < k + suc n) × (f i ≡ Some y)
    go None e g ih = let z = ih g in (z.0, omega (arith, z.1), omega (arith, z.2), z.3)
    go (Some x) e g ih = ⊎_elim (λ a. (k, omega arith, omega arith, e ∙ ap (λ z. Some z) a)) (λ a. let z = ih a in (z.0, omega (arith, z.1), omega (arith, z.2), z.3)) (contains_cases x y (filter_map f (row_of (k + 1) n)) g)

-- the pairs of one region after another
in_regions : {Y : Type 0} (f : ℕ → List Y) (n r : ℕ) (y : Y) → r < n → Contains (f r) y → Contains (flat_map f (below n)) y
in_regions f zero r y b c = absurd (omega arith)
in_regions f (suc n) r y b c = subst (λ xs. Contains xs y) (sym list) (go (eqb_tells r n) (in_regions f n r y))
  where
    list : flat_map f (below n ++ n ∷ []) ≡ flat_map f (below n) ++ f n
    list = flat_map-append f (below n) (n ∷ []) ∙ ap (λ xs. flat_map f (below n) ++ xs) (append-nil (f n))

    go : (((r == n) ≡ true) × (r ≡ n)) ⊎ (((r == n) ≡ false) × (r ≢ n)) → (r < n → Contains (f r) y → Contains (flat_map f (below n)) y) → Contains (flat_map f (below n) ++ f n) y
    go (inl a) ih = Contains-append_right (flat_map f (below n)) (f n) y (subst (λ z. Contains (f z) y) a.1 c)
    go (inr a) ih = Contains-append_left (flat_map f (below n)) (f n) y (ih (omega (arith, a.1)) c)

regions_in : {Y : Type 0} (f : ℕ → List Y) (n : ℕ) (y : Y) → Contains (flat_map f (below n)) y → (r : ℕ) × (r < n) × Contains (f r) y
regions_in f zero y c = absurd (contains_none y c)
regions_in f (suc n) y c = go (regions_in f n y) (Contains-append_cases (flat_map f (below n)) (f n) y (subst (λ xs. Contains xs y) list c))
  where
    list : flat_map f (below n ++ n ∷ []) ≡ flat_map f (below n) ++ f n
    list = flat_map-append f (below n) (n ∷ []) ∙ ap (λ xs. flat_map f (below n) ++ xs) (append-nil (f n))

    go : (Contains (flat_map f (below n)) y → (r : ℕ) × (r < n) × Contains (f r) y) → Contains (flat_map f (below n)) y ⊎ Contains (f n) y → (r : ℕ) × (r < suc n) × Contains (f r) y
    go ih (inl a) = let z = ih a in (z.0, omega (arith, z.1), z.2)
    go ih (inr a) = (n, omega arith, a)

-- the entries in a row
entries_row : entries ≡ row_of 0 21
unfolding entries
entries_row = refl

-- a pair that an entry stands for is a record, and each record is one
pub in_records : (s : Sizes) (image : List (List ℕ)) (r e : ℕ) (p : ℕ × List ℕ) → r < s.index → e < 21 → stored s image r e ≡ Some p → Contains (records s image) p
in_records s image r e p low small h = in_regions (λ q. filter_map (stored s image q) entries) s.index r p low (subst (λ es. Contains (filter_map (stored s image r) es) p) (sym entries_row) (in_row_of (stored s image r) 0 21 e p (omega arith) (omega arith) h))

pub records_in : (s : Sizes) (image : List (List ℕ)) (p : ℕ × List ℕ) → Contains (records s image) p → (r e : ℕ) × (r < s.index) × (e < 21) × (stored s image r e ≡ Some p)
records_in s image p c =
    let x = regions_in (λ q. filter_map (stored s image q) entries) s.index p c in
    let y = row_of_in (stored s image x.0) 0 21 p (subst (λ es. Contains (filter_map (stored s image x.0) es) p) entries_row x.2) in
    (x.0, y.0, x.1, y.2, y.3)

pub records_are_stored : RecordsAreStored
records_are_stored s image k v = (λ c. records_in s image (k, v) c, λ x. in_records s image x.0 x.1 (k, v) x.2 x.3 x.4)

-- ---- the walk of a key
flag_raised : (image : List (List ℕ)) (r : ℕ) → flags image r ≡ true → flag_of (words_of image r) ≢ 0
unfolding flags
flag_raised image r h e = go h
  where
    go : not (flag_of (words_of image r) == 0) ≡ true → ⊥
    go f = let g : not (0 == 0) ≡ true = subst (λ z. not (z == 0) ≡ true) e f in absurd (cc (g))

raised_flag : (image : List (List ℕ)) (r : ℕ) → flag_of (words_of image r) ≢ 0 → flags image r ≡ true
unfolding flags
raised_flag image r h = rw (ne_eqb (flag_of (words_of image r)) 0 h) refl

pub walks_are_reached : WalksAreReached
walks_are_reached s image k r = (to, from)
  where
    to : is_reached s image k r ≡ true → IsReached s image k r
    to h = let w = tests_reach s image k r h in (w.0, w.1, w.2, λ m b. flag_raised image (region_after s m (home s k)) (w.3 m b))

    from : IsReached s image k r → is_reached s image k r ≡ true
    from w = reach_tests s image k r (w.0, w.1, w.2, λ m b. raised_flag image (region_after s m (home s k)) (w.3 m b))
