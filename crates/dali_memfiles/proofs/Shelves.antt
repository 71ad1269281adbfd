-- Files in a list, and as a shelf.
use Rattle.std.specs.Prelude.{◌≡◌, ◌≢◌, ◌<◌, ◌≤◌, ◌==◌, if◌then◌else◌, ℕ, zero, suc, ◌+◌, Bool, true, false, List, [], ◌∷◌, ◌++◌, length, take, drop, get_or, set, refl}
use Rattle.std.proofs.Common.{sym, ◌∙◌, ap, subst, arith}
use Rattle.std.proofs.lemmas.Bool.Decides.{nat_tests}
use Rattle.std.proofs.lemmas.List.{append-nil, take_all, drop_all, get_or-set_same, get_or-set_other}
use Rattle.dali_memfiles.specs.declared.event.Event.{Event}
use Rattle.dali_memfiles.specs.Held.{HeldState, no_file, held_cut}
use Rattle.dali_memfiles.specs.Shelf.{Shelf, reads, with_file, apply, replay, shelf}

-- one file more that isn't there
pub reads_more : (files : List HeldState) → reads (files ++ no_file ∷ []) ≡ reads files
reads_more files i n = same files n i
  where
    same : (files : List HeldState) (n : ℕ) → get_or (files ++ no_file ∷ []) n no_file ≡ get_or files n no_file
    same [] zero = refl
    same [] (suc n) = refl
    same (h ∷ files) zero = refl
    same (h ∷ files) (suc n) = same files n

-- one file is changed
pub reads_set : (files : List HeldState) (n : ℕ) (h : HeldState) → n < length files → reads (set files n h) ≡ with_file n h (reads files)
reads_set files n h lt i m = by_test (m == n) refl i
  where
    by_test : (b : Bool) → (m == n) ≡ b → get_or (set files n h) m no_file ≡ (if b then h else get_or files m no_file)
    by_test true is =
        let same : n ≡ m = grind (arith, nat_tests) in
        subst (λ (k : ℕ). get_or (set files n h) k no_file ≡ h) same (get_or-set_same files n h no_file lt)
    by_test false is =
        let other : m ≢ n = grind (arith, nat_tests) in
        get_or-set_other files n m h no_file other

-- past the end there is no file
pub reads_past : (files : List HeldState) (n : ℕ) → length files ≤ n → reads files n ≡ no_file
reads_past [] n le = refl
reads_past (h ∷ files) zero le = absurd (omega arith)
reads_past (h ∷ files) (suc n) le = reads_past files n (omega arith)

-- a file that isn't there stays so where nothing changes it
pub with_same : (files : Shelf) (n : ℕ) (h : HeldState) → h ≡ files n → with_file n h files ≡ files
with_same files n h same i m = by_test (m == n) refl i
  where
    by_test : (b : Bool) → (m == n) ≡ b → (if b then h else files m) ≡ files m
    by_test true is =
        let at : n ≡ m = grind (arith, nat_tests) in
        same ∙ ap files at
    by_test false is = refl

-- a crash of each file in turn
abbrev pub cut_from : ℕ → ℕ → List HeldState → List HeldState
cut_from choice n [] = []
cut_from choice n (h ∷ files) = held_cut choice n h ∷ cut_from choice (n + 1) files

pub length-cut : (choice n : ℕ) (files : List HeldState) → length (cut_from choice n files) ≡ length files
length-cut choice n [] = refl
length-cut choice n (h ∷ files) = ap suc (length-cut choice (n + 1) files)

cut_none : (choice n : ℕ) → no_file ≡ held_cut choice n no_file
cut_none zero n = refl
cut_none (suc zero) n = refl
cut_none (suc (suc k)) n = refl

pub reads_cut : (choice : ℕ) (files : List HeldState) → reads (cut_from choice 0 files) ≡ (λ n. held_cut choice n (reads files n))
reads_cut choice files i n = from 0 files n n (omega arith) i
  where
    from : (k : ℕ) (files : List HeldState) (n m : ℕ) → m ≡ k + n → get_or (cut_from choice k files) n no_file ≡ held_cut choice m (get_or files n no_file)
    from k [] n m is = cut_none choice m
    from k (h ∷ files) zero m is =
        let same : k ≡ m = omega (arith, is) in
        ap (λ (j : ℕ). held_cut choice j h) same
    from k (h ∷ files) (suc n) m is = from (k + 1) files n m (omega (arith, is))

pub cut_done : (choice n : ℕ) (files old : List HeldState) → length files ≤ n → take n files ++ cut_from choice n (drop n files) ≡ cut_from choice 0 old → files ≡ cut_from choice 0 old
cut_done choice n files old le so_far =
    sym (append-nil files)
    ∙ sym (ap (λ (l : List HeldState). l ++ []) (take_all n files le))
    ∙ sym (ap (λ (l : List HeldState). take n files ++ cut_from choice n l) (drop_all n files le))
    ∙ so_far

-- the file that a list lends
pub lent_is : (files : List HeldState) (n : ℕ) (h d : HeldState) → n < length files → h ≡ get_or files n d → h ≡ reads files n
lent_is [] n h d lt is = absurd (omega (arith, lt))
lent_is (k ∷ files) zero h d lt is = is
lent_is (k ∷ files) (suc n) h d lt is = lent_is files n h d (omega (arith, lt)) is

-- a slice that covers its list is written back
pub written_back : (len : ℕ) (new old : List HeldState) → len ≡ length old → length new ≡ length old → take len (new ++ drop (length new) old) ≡ new
written_back len new old is size =
    ap (λ (l : List HeldState). take len (new ++ l)) (drop_all (length new) old (omega (arith, size)))
    ∙ ap (take len) (append-nil new)
    ∙ take_all len new (omega (arith, is, size))

-- one change more
replay_push : (events : List Event) (event : Event) (files : Shelf) → replay (events ++ event ∷ []) files ≡ apply event (replay events files)
replay_push [] event files = refl
replay_push (e ∷ events) event files = replay_push events event (apply e files)

pub shelf_push : (old new : List Event) (event : Event) → new ≡ old ++ event ∷ [] → shelf new ≡ apply event (shelf old)
shelf_push old new event is = ap shelf is ∙ replay_push old event (λ n. no_file)
