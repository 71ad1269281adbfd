-- The keys that are left: ascending numbers are told by what is among them.
use Rattle.std.proofs.Common.{◌≡◌, ◌≢◌, ℕ, zero, suc, ◌+◌, ◌*◌, ◌/◌, ◌%◌, ◌<◌, ◌≤◌, ◌&&◌, ◌⊎◌, inl, inr, Bool, true, false, cond, leb, List, [], ◌∷◌, ◌++◌, map, None, is_some, IsSome, refl, sym, ◌∙◌, ap, subst, ⊎_elim, arith}
use Rattle.std.specs.Prelude.{◌↔◌, filter, flat_map, Contains, slice_index}
use Rattle.std.specs.List.{range_with_len, AllByRecursion}
use Rattle.std.specs.List.Sorted.{IsStrictlyIncreasing}
use Rattle.std.proofs.lemmas.Bool.{lt-leb, le-leb, cases_lt, cases_eq}
use Rattle.std.proofs.lemmas.Nat.{div-add-mod', div-mul-add, mod-mul-add}
use Rattle.std.proofs.lemmas.List.Elements.{All-contains, All-from_recursion, Contains-append_left, Contains-append_right}
use Rattle.dali_lists.proofs.Members.{contains_cases, contains_first, contains_more, all_append}
use Rattle.dali_generator.specs.Generated.{key_of, AreWithin}
use Rattle.dali_generator.specs.Left.{stands_behind, transactions_of, left, keys_of, keys_left, HasTheirKeys}
use Rattle.dali_generator.proofs.Steps.{stands_none, stands_first}

-- ---- ascending from b on
abbrev Up : ℕ → List ℕ → Type 0
Up b [] = Unit {0}
Up b (x ∷ xs) = (b ≤ x) × Up (x + 1) xs

up_tail : (x : ℕ) (xs : List ℕ) → IsStrictlyIncreasing (x ∷ xs) → IsStrictlyIncreasing xs
up_tail x xs h k l =
    let next : suc k + 1 ≡ suc (k + 1) = omega arith in
    let more = h (suc k) (omega (arith, l)) in
    subst (λ j. slice_index xs k < slice_index (x ∷ xs) j) next more

up_behind : (x : ℕ) (xs : List ℕ) → IsStrictlyIncreasing (x ∷ xs) → Up (x + 1) xs
up_behind x [] h = tt
up_behind x (y ∷ ys) h = let more : x < y = h 0 (omega arith) in (omega arith, up_behind y ys (up_tail x (y ∷ ys) h))

up_all : (xs : List ℕ) → IsStrictlyIncreasing xs → Up 0 xs
up_all [] h = tt
up_all (x ∷ xs) h = (omega arith, up_behind x xs h)

-- ---- members

low : (b k : ℕ) (xs : List ℕ) → Up b xs → Contains xs k → b ≤ k
low b k [] up h = absurd (omega (arith, h.1))
low b k (x ∷ xs) up h = ⊎_elim (λ e. omega (arith, up.0, e)) (λ g. omega (arith, up.0, low (x + 1) k xs up.1 g)) (contains_cases x k xs h)

-- ---- one list alone has these members
-- the first is b
record Begins (b : ℕ) (xs : List ℕ) : Type 0 where
  rest : List ℕ
  is : xs ≡ b ∷ rest
  up : Up (b + 1) rest

begins : (b : ℕ) (xs : List ℕ) → Up b xs → Contains xs b → Begins b xs
begins b [] up h = absurd (omega (arith, h.1))
begins b (x ∷ xs) up h = ⊎_elim
    (λ e. record { rest = xs; is = ap (λ y. y ∷ xs) e; up = subst (λ y. Up (y + 1) xs) e up.1 })
    (λ g. let after = low (x + 1) b xs up.1 g in absurd (omega (arith, up.0)))
    (contains_cases x b xs h)

above : (p : ℕ → Bool) (b : ℕ) (xs : List ℕ) → Up b xs → p b ≡ false → ((k : ℕ) → Contains xs k → p k ≡ true) → Up (b + 1) xs
above p b [] up off on = tt
above p b (x ∷ xs) up off on =
    let apart : x ≢ b = λ e. never (sym (ap p e) ∙ on x (contains_first x xs)) in
    (omega (arith, up.0), up.1)
  where
    never : p b ≡ true → ⊥
    never e = let both : false ≡ true = sym off ∙ e in absurd cc

only : (p : ℕ → Bool) (n b : ℕ) (xs : List ℕ) → Up b xs → ((k : ℕ) → Contains xs k → p k ≡ true) → ((k : ℕ) → Contains xs k → k < b + n)
    → ((k : ℕ) → b ≤ k → k < b + n → p k ≡ true → Contains xs k) → xs ≡ filter p (range_with_len b n)
only p zero b [] up on high all = refl
only p zero b (x ∷ xs) up on high all = absurd (omega (arith, up.0, high x (contains_first x xs)))
only p (suc n) b xs up on high all = by_test (λ ys u. only p n (b + 1) ys u) (p b) refl
  where
    behind : (x k : ℕ) (ys : List ℕ) → x + 1 ≤ k → Contains (x ∷ ys) k → Contains ys k
    behind x k ys l h = ⊎_elim (λ e. absurd (omega (arith, e, l))) (λ g. g) (contains_cases x k ys h)

    by_test : ((ys : List ℕ) → Up (b + 1) ys → ((k : ℕ) → Contains ys k → p k ≡ true) → ((k : ℕ) → Contains ys k → k < b + 1 + n) → ((k : ℕ) → b + 1 ≤ k → k < b + 1 + n → p k ≡ true → Contains ys k) → ys ≡ filter p (range_with_len (b + 1) n))
        → (t : Bool) → p b ≡ t → xs ≡ cond t (b ∷ filter p (range_with_len (b + 1) n)) (filter p (range_with_len (b + 1) n))
    by_test ih true f =
        let first = begins b xs up (all b (omega arith) (omega arith) f) in
        let inside : (k : ℕ) → Contains first.rest k → Contains xs k = λ k h. subst (λ l. Contains l k) (sym first.is) (contains_more b k first.rest h) in
        first.is ∙ ap (λ l. b ∷ l) (ih first.rest first.up (λ k h. on k (inside k h)) (λ k h. omega (arith, high k (inside k h))) (λ k l h g. behind b k first.rest l (subst (λ l. Contains l k) first.is (all k (omega (arith, l)) (omega (arith, h)) g))))
    by_test ih false f = ih xs (above p b xs up f on) on (λ k h. omega (arith, high k h)) (λ k l h g. all k (omega (arith, l)) (omega (arith, h)) g)

-- ---- ascending from b on, and below e
abbrev UpTo : ℕ → ℕ → List ℕ → Type 0
UpTo b e [] = b ≤ e
UpTo b e (x ∷ xs) = (b ≤ x) × UpTo (x + 1) e xs

up_of : (b e : ℕ) (xs : List ℕ) → UpTo b e xs → Up b xs
up_of b e [] h = tt
up_of b e (x ∷ xs) h = (h.0, up_of (x + 1) e xs h.1)

wider : (a b e f : ℕ) (xs : List ℕ) → a ≤ b → e ≤ f → UpTo b e xs → UpTo a f xs
wider a b e f [] l g h = omega arith
wider a b e f (x ∷ xs) l g h = (omega (arith, h.0), wider (x + 1) (x + 1) e f xs (omega arith) g h.1)

joined : (b m e : ℕ) (xs ys : List ℕ) → UpTo b m xs → UpTo m e ys → UpTo b e (xs ++ ys)
joined b m e [] ys h g = wider b m e e ys h (omega arith) g
joined b m e (x ∷ xs) ys h g = (h.0, joined (x + 1) m e xs ys h.1 g)

up_in_part : (q : ℕ → Bool) (c n a : ℕ) → UpTo (key_of c a) (key_of c (a + n)) (map (key_of c) (filter q (range_with_len a n)))
up_in_part q c zero a = omega arith
up_in_part q c (suc n) a =
    by_test (q a) (wider (key_of c a + 1) (key_of c (a + 1)) (key_of c (a + 1 + n)) (key_of c (a + suc n)) (map (key_of c) (filter q (range_with_len (a + 1) n))) (omega arith) (omega arith) (up_in_part q c n (a + 1)))
  where
    by_test : (t : Bool) → UpTo (key_of c a + 1) (key_of c (a + suc n)) (map (key_of c) (filter q (range_with_len (a + 1) n))) → UpTo (key_of c a) (key_of c (a + suc n)) (map (key_of c) (cond t (a ∷ filter q (range_with_len (a + 1) n)) (filter q (range_with_len (a + 1) n))))
    by_test true later = (omega arith, later)
    by_test false later = wider (key_of c a) (key_of c a + 1) (key_of c (a + suc n)) (key_of c (a + suc n)) (map (key_of c) (filter q (range_with_len (a + 1) n))) (omega arith) (omega arith) later

up_in_all : (number size n c : ℕ) → size ≤ 1000000 → UpTo (c * 1000000) ((c + n) * 1000000) (flat_map (keys_of number size) (range_with_len c n))
up_in_all number size zero c h = omega arith
up_in_all number size (suc n) c h =
    joined (c * 1000000) ((c + 1) * 1000000) ((c + suc n) * 1000000) (keys_of number size c) (flat_map (keys_of number size) (range_with_len (c + 1) n))
    (wider (c * 1000000) (key_of c 0) (key_of c (0 + size)) ((c + 1) * 1000000) (keys_of number size c) (omega arith) (omega arith) (up_in_part (λ i. is_some (stands_behind number c i size)) c size 0))
    (wider ((c + 1) * 1000000) ((c + 1) * 1000000) ((c + 1 + n) * 1000000) ((c + suc n) * 1000000) (flat_map (keys_of number size) (range_with_len (c + 1) n)) (omega arith) (omega arith) (up_in_all number size n (c + 1) h))

-- ---- members of the parts
in_part : (f : ℕ → ℕ) (q : ℕ → Bool) (n a i : ℕ) → a ≤ i → i < a + n → q i ≡ true → Contains (map f (filter q (range_with_len a n))) (f i)
in_part f q zero a i l h e = absurd (omega arith)
in_part f q (suc n) a i l h e = by_order (λ g. in_part f q n (a + 1) i g (omega arith) e) (cases_eq a i)
  where
    later : (t : Bool) → Contains (map f (filter q (range_with_len (a + 1) n))) (f i) → Contains (map f (cond t (a ∷ filter q (range_with_len (a + 1) n)) (filter q (range_with_len (a + 1) n)))) (f i)
    later true g = contains_more (f a) (f i) (map f (filter q (range_with_len (a + 1) n))) g
    later false g = g

    here : (t : Bool) → t ≡ true → a ≡ i → Contains (map f (cond t (a ∷ filter q (range_with_len (a + 1) n)) (filter q (range_with_len (a + 1) n)))) (f i)
    here true g same = subst (λ x. Contains (f a ∷ map f (filter q (range_with_len (a + 1) n))) (f x)) same (contains_first (f a) (map f (filter q (range_with_len (a + 1) n))))
    here false g same = absurd cc

    by_order : (a + 1 ≤ i → Contains (map f (filter q (range_with_len (a + 1) n))) (f i)) → (a ≡ i) ⊎ (a ≢ i) → Contains (map f (cond (q a) (a ∷ filter q (range_with_len (a + 1) n)) (filter q (range_with_len (a + 1) n)))) (f i)
    by_order ih (inl same) = here (q a) (ap q same ∙ e) same
    by_order ih (inr x) = later (q a) (ih (omega arith))

in_all : (g : ℕ → List ℕ) (n c d k : ℕ) → c ≤ d → d < c + n → Contains (g d) k → Contains (flat_map g (range_with_len c n)) k
in_all g zero c d k l h m = absurd (omega arith)
in_all g (suc n) c d k l h m = by_order (λ b. in_all g n (c + 1) d k b (omega arith) m) (cases_eq c d)
  where
    by_order : (c + 1 ≤ d → Contains (flat_map g (range_with_len (c + 1) n)) k) → (c ≡ d) ⊎ (c ≢ d) → Contains (g c ++ flat_map g (range_with_len (c + 1) n)) k
    by_order ih (inl same) = Contains-append_left (g c) (flat_map g (range_with_len (c + 1) n)) k (subst (λ x. Contains (g x) k) (sym same) m)
    by_order ih (inr x) = Contains-append_right (g c) (flat_map g (range_with_len (c + 1) n)) k (ih (omega arith))

all_in_part : (P : ℕ → Type 0) (f : ℕ → ℕ) (q : ℕ → Bool) (n a : ℕ) → ((i : ℕ) → a ≤ i → i < a + n → q i ≡ true → P (f i)) → AllByRecursion P (map f (filter q (range_with_len a n)))
all_in_part P f q zero a h = tt
all_in_part P f q (suc n) a h = by_test (all_in_part P f q n (a + 1) (λ i l g e. h i (omega arith) (omega arith) e)) (q a) refl
  where
    by_test : AllByRecursion P (map f (filter q (range_with_len (a + 1) n))) → (t : Bool) → q a ≡ t → AllByRecursion P (map f (cond t (a ∷ filter q (range_with_len (a + 1) n)) (filter q (range_with_len (a + 1) n))))
    by_test later true e = (h a (omega arith) (omega arith) e, later)
    by_test later false e = later

all_in_all : (P : ℕ → Type 0) (g : ℕ → List ℕ) (n c : ℕ) → ((d : ℕ) → c ≤ d → d < c + n → AllByRecursion P (g d)) → AllByRecursion P (flat_map g (range_with_len c n))
all_in_all P g zero c h = tt
all_in_all P g (suc n) c h = all_append P (g c) (flat_map g (range_with_len (c + 1) n)) (h c (omega arith) (omega arith)) (all_in_all P g n (c + 1) (λ d l k. h d (omega arith) (omega arith)))

-- ---- the keys that are left
pub all_transactions : (clients size c : ℕ) → 1 ≤ c → c ≤ clients → transactions_of clients size c ≡ size
all_transactions clients size c l h = rw (le-leb 1 c l, le-leb c clients h) refl

pub none_beyond : (clients size c : ℕ) → clients < c → transactions_of clients size c ≡ 0
none_beyond clients size c h = rw (lt-leb c clients h) (by_first (leb 1 c))
  where
    by_first : (x : Bool) → cond (x && false) size 0 ≡ 0
    by_first true = refl
    by_first false = refl

pub none_before : (clients size c : ℕ) → c < 1 → transactions_of clients size c ≡ 0
none_before clients size c h = rw (lt-leb 1 c h) refl

-- where something is left, the client is one, and the place is one of its own
record IsOwn (clients size number k : ℕ) : Type 0 where
  some : 1 ≤ k / 1000000
  few : k / 1000000 ≤ clients
  within : k % 1000000 < size
  stands : is_some (stands_behind number (k / 1000000) (k % 1000000) size) ≡ true

own : (clients size number k : ℕ) → is_some (left clients size number k) ≡ true → IsOwn clients size number k
own clients size number k h = record { some = some; few = few; within = within; stands = stands }
  where
    nothing : transactions_of clients size (k / 1000000) ≡ 0 → ⊥
    nothing e =
        let none : left clients size number k ≡ None = ap (stands_behind number (k / 1000000) (k % 1000000)) e ∙ stands_first number (k / 1000000) (k % 1000000) in
        let both : false ≡ true = ap is_some (sym none) ∙ h in
        absurd cc

    some : 1 ≤ k / 1000000
    some = ⊎_elim (λ l. absurd (nothing (none_before clients size (k / 1000000) l))) (λ l. l) (cases_lt (k / 1000000) 1)

    few : k / 1000000 ≤ clients
    few = ⊎_elim (λ l. absurd (nothing (none_beyond clients size (k / 1000000) l))) (λ l. l) (cases_lt clients (k / 1000000))

    stands : is_some (stands_behind number (k / 1000000) (k % 1000000) size) ≡ true
    stands = ap (λ n. is_some (stands_behind number (k / 1000000) (k % 1000000) n)) (sym (all_transactions clients size (k / 1000000) some few)) ∙ h

    beyond : size ≤ k % 1000000 → ⊥
    beyond l =
        let both : false ≡ true = ap is_some (sym (stands_none number (k / 1000000) (k % 1000000) size l)) ∙ stands in
        absurd cc

    within : k % 1000000 < size
    within = ⊎_elim (λ l. l) (λ l. absurd (beyond l)) (cases_lt (k % 1000000) size)

left_at : (clients size number c i : ℕ) → 1 ≤ c → c ≤ clients → i < 1000000 → left clients size number (key_of c i) ≡ stands_behind number c i size
left_at clients size number c i l h b =
    ap (λ d. stands_behind number d (key_of c i % 1000000) (transactions_of clients size d)) (div-mul-add c 1000000 i b)
    ∙ ap (λ j. stands_behind number c j (transactions_of clients size c)) (mod-mul-add c 1000000 i b)
    ∙ ap (stands_behind number c i) (all_transactions clients size c l h)

-- what is told by these ascending keys is the filter over all keys that there may be
told : (clients size number : ℕ) (keys : List ℕ) → Up 0 keys → ((k : ℕ) → Contains keys k ↔ IsSome (left clients size number k))
    → keys ≡ filter (λ k. is_some (left clients size number k)) (range_with_len 0 ((clients + 1) * 1000000))
told clients size number keys up exact =
    only (λ k. is_some (left clients size number k)) ((clients + 1) * 1000000) 0 keys up
    (λ k h. (exact k).0 h)
    (λ k h. below k (own clients size number k ((exact k).0 h)))
    (λ k l h g. (exact k).1 g)
  where
    below : (k : ℕ) → IsOwn clients size number k → k < 0 + (clients + 1) * 1000000
    below k h = let whole = div-add-mod' k 1000000 in omega (arith, h.few, whole)

exactly : (clients size number : ℕ) → AreWithin clients size → (k : ℕ) → Contains (keys_left clients size number) k ↔ IsSome (left clients size number k)
exactly clients size number within k = (on, back)
  where
    on : Contains (keys_left clients size number) k → is_some (left clients size number k) ≡ true
    on h =
        All-contains (λ q. is_some (left clients size number q) ≡ true) (keys_left clients size number) k
        (All-from_recursion (λ q. is_some (left clients size number q) ≡ true) (keys_left clients size number)
        (all_in_all (λ q. is_some (left clients size number q) ≡ true) (keys_of number size) clients 1
        (λ d l g. all_in_part (λ q. is_some (left clients size number q) ≡ true) (key_of d) (λ i. is_some (stands_behind number d i size)) size 0
        (λ i m b e. ap is_some (left_at clients size number d i l (omega (arith, g)) (omega (arith, b, within.few_transactions))) ∙ e))))
        h

    back : is_some (left clients size number k) ≡ true → Contains (keys_left clients size number) k
    back h =
        let here = own clients size number k h in
        let c = k / 1000000 in
        let i = k % 1000000 in
        let whole : key_of c i ≡ k = div-add-mod' k 1000000 in
        let part = in_part (key_of c) (λ j. is_some (stands_behind number c j size)) size 0 i (omega arith) (omega (arith, here.within)) here.stands in
        subst (Contains (keys_left clients size number)) whole (in_all (keys_of number size) clients 1 c (key_of c i) here.some (omega (arith, here.few)) part)

pub has_their_keys : HasTheirKeys
has_their_keys clients size number keys within up exact =
    told clients size number keys (up_all keys up) exact
    ∙ sym (told clients size number (keys_left clients size number) (lower (keys_left clients size number) (up_of (1 * 1000000) ((1 + clients) * 1000000) (keys_left clients size number) (up_in_all number size clients 1 (omega (arith, within.few_transactions))))) (exactly clients size number within))
  where
    lower : (xs : List ℕ) → Up (1 * 1000000) xs → Up 0 xs
    lower [] h = tt
    lower (x ∷ xs) h = (omega arith, h.1)
