-- The deeds of one client among those of a round.
use Rattle.std.proofs.Common.{sym, zero, ◌≡◌, ℕ, suc, ◌+◌, ◌≤◌, Bool, true, false, List, [], ◌∷◌, ◌++◌, length, Option, Some, None, refl, ap, subst, ◌∙◌, arith}
use Rattle.std.specs.Prelude.{Contains, ◌==◌, take}
use Rattle.std.specs.List.{AllByRecursion}
use Rattle.std.proofs.lemmas.List.{append_assoc}
use Rattle.dali_lists.proofs.Lists.{get_behind}
use Rattle.dali_runs.proofs.CountsLemmas.Lists.{self, equal, some_same, length-push}
use Rattle.dali_record.specs.declared.records.Record.{Record}
use Rattle.dali_transcripts.specs.World.{Deed, Logs, Strays, DiesOn, Claims, GivesBack, GetsLock, Yields, FindsDead, StartsCheckpoint, MovesAnchor, EndsCheckpoint, Meets, Happening, logged_by}
use Rattle.dali_transcripts.specs.Moves.{Receipt}
use Rattle.dali_transcripts.specs.Transcripts.{count_with, owned_one, owned}
use Rattle.dali_transcripts.specs.Laws.{EachIsOwned, OwnedByOne, OwnGoesOn, OthersGoOn, AscendFrom, IsIn, OwnAscend}

pub one_append : (b : Bool) (x : Receipt) (xs ys : List Receipt) → owned_one b x (xs ++ ys) ≡ owned_one b x xs ++ ys
one_append true x xs ys = refl
one_append false x xs ys = refl

-- how many records stand behind the first deed
pub counts : (n : ℕ) (y : Happening) (ys : List Happening) → count_with n y.0 + length (logged_by ys) ≡ n + length (logged_by (y ∷ ys))
counts n (Logs x, d) ys = omega arith
counts n _ ys = refl

pub own_goes_on : OwnGoesOn
own_goes_on c n [] x = rw self let e : n + 0 ≡ n = omega arith in rw e refl
own_goes_on c n (y ∷ ys) x =
    ap (λ l. owned_one (y.1 == c) (n, y.0) l) (own_goes_on c (count_with n y.0) ys x)
    ∙ (one_append (y.1 == c) (n, y.0) (owned c (count_with n y.0) ys) _ ∙ ap (λ k. owned_one (y.1 == c) (n, y.0) (owned c (count_with n y.0) ys) ++ (k, x) ∷ []) (counts n y ys))

pub others_go_on : OthersGoOn
others_go_on c d n [] x other = rw other refl
others_go_on c d n (y ∷ ys) x other = ap (λ l. owned_one (y.1 == c) (n, y.0) l) (others_go_on c d (count_with n y.0) ys x other)

-- ---- their numbers
count_above : (n : ℕ) (x : Deed) → n ≤ count_with n x
count_above n (Logs x) = omega arith
count_above n _ = omega arith

one_ascends : (b : Bool) (m n : ℕ) (x : Deed) (xs : List Receipt) → m ≤ n → AscendFrom (count_with n x) xs → AscendFrom m xs → AscendFrom m (owned_one b (n, x) xs)
one_ascends true m n x xs h above from = (h, above)
one_ascends false m n x xs h above from = from

pub ascends : (c m n : ℕ) (xs : List Happening) → m ≤ n → AscendFrom m (owned c n xs)
ascends c m n [] h = tt
ascends c m n (y ∷ ys) h =
    let up = count_above n y.0 in
    one_ascends (y.1 == c) m n y.0 (owned c (count_with n y.0) ys) h (ascends c (count_with n y.0) (count_with n y.0) ys (omega arith)) (ascends c m (count_with n y.0) ys (omega (arith, h, up)))

-- ---- they are the log's

AreIn : List Record → List Receipt → Type 0
AreIn L xs = AllByRecursion (IsIn L) xs

none : (L : List Record) → AreIn L []
unfolding AreIn
none L = tt

one_in : (b : Bool) (L : List Record) (x : Receipt) (xs : List Receipt) → IsIn L x → AreIn L xs → AreIn L (owned_one b x xs)
unfolding AreIn
one_in true L x xs here rest = (here, rest)
one_in false L x xs here rest = rest

are_in : (c : ℕ) (before : List Record) (xs : List Happening) → AreIn (before ++ logged_by xs) (owned c (length before) xs)
are_in c before [] = none (before ++ [])
are_in c before ((Logs x, d) ∷ ys) =
    let L = before ++ x ∷ logged_by ys in
    let same : (before ++ x ∷ []) ++ logged_by ys ≡ L = append_assoc before (x ∷ []) (logged_by ys) in
    let further : AreIn L (owned c (length (before ++ x ∷ [])) ys) = subst (λ l. AreIn l (owned c (length (before ++ x ∷ [])) ys)) same (are_in c (before ++ x ∷ []) ys) in
    let rest : AreIn L (owned c (length before + 1) ys) = subst (λ k. AreIn L (owned c k ys)) (length-push before x) further in
    one_in (d == c) L (length before, Logs x) (owned c (length before + 1) ys) (get_behind before x _) rest
are_in c before ((Strays r word mask, d) ∷ ys) = one_in (d == c) _ (length before, Strays r word mask) (owned c (length before) ys) tt (are_in c before ys)
are_in c before ((DiesOn t r, d) ∷ ys) = one_in (d == c) _ (length before, DiesOn t r) (owned c (length before) ys) tt (are_in c before ys)
are_in c before ((Claims u, d) ∷ ys) = one_in (d == c) _ (length before, Claims u) (owned c (length before) ys) tt (are_in c before ys)
are_in c before ((GivesBack u o, d) ∷ ys) = one_in (d == c) _ (length before, GivesBack u o) (owned c (length before) ys) tt (are_in c before ys)
are_in c before ((Yields f, d) ∷ ys) = one_in (d == c) _ (length before, Yields f) (owned c (length before) ys) tt (are_in c before ys)
are_in c before ((GetsLock u k m, d) ∷ ys) = one_in (d == c) _ (length before, GetsLock u k m) (owned c (length before) ys) tt (are_in c before ys)
are_in c before ((FindsDead f, d) ∷ ys) = one_in (d == c) _ (length before, FindsDead f) (owned c (length before) ys) tt (are_in c before ys)
are_in c before ((StartsCheckpoint, d) ∷ ys) = one_in (d == c) _ (length before, StartsCheckpoint) (owned c (length before) ys) tt (are_in c before ys)
are_in c before ((MovesAnchor k, d) ∷ ys) = one_in (d == c) _ (length before, MovesAnchor k) (owned c (length before) ys) tt (are_in c before ys)
are_in c before ((EndsCheckpoint, d) ∷ ys) = one_in (d == c) _ (length before, EndsCheckpoint) (owned c (length before) ys) tt (are_in c before ys)
are_in c before ((Meets why, d) ∷ ys) = one_in (d == c) _ (length before, Meets why) (owned c (length before) ys) tt (are_in c before ys)

pub own_ascend : OwnAscend
unfolding AreIn
own_ascend w c = record { ascend = ascends c (length w.before) (length w.before) w.happened (omega arith); logged = are_in c w.before w.happened }

-- ---- each deed is its owner's, and a record is no one else's
one_more_in : (b : Bool) (z : Receipt) (xs : List Receipt) (y : Receipt) → Contains xs y → Contains (owned_one b z xs) y
one_more_in true z xs y h = (suc h.0, omega (arith, h.1), h.2)
one_more_in false z xs y h = h

pub each_is_owned : EachIsOwned
each_is_owned c n [] i x e = absurd (cc)
each_is_owned c n (y ∷ ys) zero x e =
    let same : y ≡ (x, c) = some_same e in
    let here : Contains (owned_one (c == c) (n, x) (owned c (count_with n x) ys)) (n, x) = rw (self c) (0, omega arith, refl) in
    let at : n + 0 ≡ n = omega arith in
    rw (same, at) here
each_is_owned c n (y ∷ ys) (suc i) x e =
    let at = counts n y (take i ys) in
    subst (λ k. Contains (owned c n (y ∷ ys)) (k, x)) at (one_more_in (y.1 == c) (n, y.0) (owned c (count_with n y.0) ys) _ (each_is_owned c (count_with n y.0) ys i x e))

-- a record with its owner, by its number
record_in : List Happening → ℕ → Option Happening
record_in [] k = None
record_in ((Logs x, d) ∷ xs) zero = Some (Logs x, d)
record_in ((Logs x, d) ∷ xs) (suc k) = record_in xs k
record_in (y ∷ xs) k = record_in xs k

Found : ℕ → ℕ → List Happening → ℕ → Record → Type 0
Found c n xs m x = (k : ℕ) × (m ≡ n + k) × (record_in xs k ≡ Some (Logs x, c))

later : (b : Bool) (c n : ℕ) (y : Deed) (xs : List Happening) (m : ℕ) (x : Record)
    → ((z : Record) → y ≡ Logs z → ⊥) → (Contains (owned c n xs) (m, Logs x) → Found c n xs m x) → Contains (owned_one b (n, y) (owned c n xs)) (m, Logs x) → Found c n xs m x
later true c n y xs m x other more (zero, below, is) = absurd (other x (ap (λ (z : Receipt). z.1) is))
later true c n y xs m x other more (suc k, below, is) = more (k, omega (arith, below), is)
later false c n y xs m x other more has = more has

behind : (c n : ℕ) (z : Record) (d : ℕ) (xs : List Happening) (m : ℕ) (x : Record) → Found c (n + 1) xs m x → Found c n ((Logs z, d) ∷ xs) m x
unfolding Found record_in
behind c n z d xs m x (k, e, at) = (suc k, omega (arith, e), at)

one_found : (b : Bool) (c n : ℕ) (z : Record) (d : ℕ) (xs : List Happening) (m : ℕ) (x : Record) → (d == c) ≡ b
    → (Contains (owned c (n + 1) xs) (m, Logs x) → Found c (n + 1) xs m x) → Contains (owned_one b (n, Logs z) (owned c (n + 1) xs)) (m, Logs x) → Found c n ((Logs z, d) ∷ xs) m x
unfolding Found record_in
one_found true c n z d xs m x e more (zero, below, is) =
    let num : n ≡ m = ap (λ (u : Receipt). u.0) is in
    let rec : Logs z ≡ Logs x = ap (λ (u : Receipt). u.1) is in
    let who : d ≡ c = equal d c e in
    (0, omega (arith, num), ap (λ (u : Deed). Some (u, d)) rec ∙ ap (λ (k : ℕ). Some (Logs x, k)) who)
one_found true c n z d xs m x e more (suc k, below, is) = behind c n z d xs m x (more (k, omega (arith, below), is))
one_found false c n z d xs m x e more has = behind c n z d xs m x (more has)

found : (c n : ℕ) (xs : List Happening) (m : ℕ) (x : Record) → Contains (owned c n xs) (m, Logs x) → Found c n xs m x
unfolding Found record_in
found c n [] m x (k, below, is) = absurd (omega (arith, below))
found c n ((Logs z, d) ∷ xs) m x has = one_found (d == c) c n z d xs m x refl (found c (n + 1) xs m x) has
found c n ((Strays r word mask, d) ∷ xs) m x has = later (d == c) c n (Strays r word mask) xs m x (λ z e. absurd (cc)) (found c n xs m x) has
found c n ((DiesOn t r, d) ∷ xs) m x has = later (d == c) c n (DiesOn t r) xs m x (λ z e. absurd (cc)) (found c n xs m x) has
found c n ((Claims u, d) ∷ xs) m x has = later (d == c) c n (Claims u) xs m x (λ z e. absurd (cc)) (found c n xs m x) has
found c n ((GivesBack u o, d) ∷ xs) m x has = later (d == c) c n (GivesBack u o) xs m x (λ z e. absurd (cc)) (found c n xs m x) has
found c n ((Yields f, d) ∷ xs) m x has = later (d == c) c n (Yields f) xs m x (λ z e. absurd (cc)) (found c n xs m x) has
found c n ((GetsLock u k j, d) ∷ xs) m x has = later (d == c) c n (GetsLock u k j) xs m x (λ z e. absurd (cc)) (found c n xs m x) has
found c n ((FindsDead f, d) ∷ xs) m x has = later (d == c) c n (FindsDead f) xs m x (λ z e. absurd (cc)) (found c n xs m x) has
found c n ((StartsCheckpoint, d) ∷ xs) m x has = later (d == c) c n StartsCheckpoint xs m x (λ z e. absurd (cc)) (found c n xs m x) has
found c n ((MovesAnchor k, d) ∷ xs) m x has = later (d == c) c n (MovesAnchor k) xs m x (λ z e. absurd (cc)) (found c n xs m x) has
found c n ((EndsCheckpoint, d) ∷ xs) m x has = later (d == c) c n EndsCheckpoint xs m x (λ z e. absurd (cc)) (found c n xs m x) has
found c n ((Meets why, d) ∷ xs) m x has = later (d == c) c n (Meets why) xs m x (λ z e. absurd (cc)) (found c n xs m x) has

pub owned_by_one : OwnedByOne
unfolding Found
owned_by_one c d n xs m x y a b =
    let f = found c n xs m x a in
    let g = found d n xs m y b in
    let same : f.0 ≡ g.0 = omega (arith, f.1, g.1) in
    let both : Some (Logs x, c) ≡ Some (Logs y, d) = sym f.2 ∙ (ap (record_in xs) same ∙ g.2) in
    ap (λ (z : Happening). z.1) (some_same both)
