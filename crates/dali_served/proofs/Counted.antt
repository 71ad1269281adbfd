-- No more inserts are answered than the clients of a round are told.
use Rattle.std.proofs.Common.{◌≡◌, ℕ, ◌+◌, ◌≤◌, ◌==◌, Bool, true, false, cond, List, [], ◌∷◌, length, Some, None, refl, sym, ◌∙◌, ap, subst, arith}
use Rattle.std.specs.Prelude.{Contains, filter, if◌then◌else◌, sum_by}
use Rattle.std.specs.List.{list_all, cons_option}
use Rattle.std.proofs.lemmas.Bool.{ne_eqb, eqb-true, eq-eqb, and_parts}
use Rattle.std.proofs.lemmas.List.Sums.{sum_by-cons}
use Rattle.dali_lists.proofs.Members.{contains_first, contains_more}
use Rattle.dali_record.specs.declared.records.Answer.{Answer}
use Rattle.dali_record.specs.declared.records.Call.{Call}
use Rattle.dali_record.specs.declared.records.Record.{Record}
use Rattle.dali_record.specs.declared.records.Record.TheVariants.{Done}
use Rattle.dali_record.specs.Log.{calls_of}
use Rattle.dali_history.specs.Room.Room.{is_insert, inserts_of}
use Rattle.dali_transcripts.specs.World.{Deed, Logs, Happening, logged_by}
use Rattle.dali_transcripts.specs.Transcripts.{owned_one, owned, count_with, Told, is_among}
use Rattle.dali_served.specs.Served.{Once}
use Rattle.dali_served.proofs.Whole.{answers_insert, insert_answers}

turned : (m n : ℕ) → (m == n) ≡ true → (n == m) ≡ true
turned m n e = eq-eqb n m (sym (eqb-true m n e))

zero_plus : (n : ℕ) → n ≡ 0 + n
zero_plus n = omega arith

-- ---- in a log
abbrev pub answered : Record → Bool
answered (Done t call a) = is_insert call
answered r = false

abbrev pub all_answered : List Record → ℕ
all_answered L = length (filter answered L)

one : Bool → ℕ
one true = 1
one false = 0

-- what the record gives to t
gives : ℕ → Record → ℕ
gives t (Done u call a) = if u == t then one (is_insert call) else 0
gives t r = 0

gives_most : Record → ℕ
gives_most r = one (answered r)

longer : {X : Type 0} (b : Bool) (x : X) (xs : List X) → length (cond b (x ∷ xs) xs) ≡ one b + length xs
unfolding one
longer true x xs = omega arith
longer false x xs = zero_plus (length xs)

inserts_step : (t : ℕ) (r : Record) (L : List Record) → inserts_of (r ∷ L) t ≡ gives t r + inserts_of L t
unfolding gives
inserts_step t (Done u call a) L = by_test (u == t)
  where
    by_test : (b : Bool) → length (filter (λ (p : Call × Answer). is_insert p.0) (cons_option (if b then Some (call, a) else None) (calls_of t L))) ≡ (if b then one (is_insert call) else 0) + length (filter (λ (p : Call × Answer). is_insert p.0) (calls_of t L))
    by_test true = longer (is_insert call) (call, a) (filter (λ (p : Call × Answer). is_insert p.0) (calls_of t L))
    by_test false = zero_plus _
inserts_step t r L = zero_plus (inserts_of L t)

answered_step : (r : Record) (L : List Record) → all_answered (r ∷ L) ≡ gives_most r + all_answered L
unfolding gives_most
answered_step r L = longer (answered r) r (filter answered L)

-- one of different numbers at most
gives_none : (r : Record) (ts : List ℕ) → ((t : ℕ) → Contains ts t → gives t r ≡ 0) → sum_by (λ t. gives t r) ts ≡ 0
gives_none r [] none = refl
gives_none r (t ∷ ts) none = omega (arith, sum_by-cons (λ u. gives u r) t ts, none t (contains_first t ts), gives_none r ts (λ u h. none u (contains_more t u ts h)))

gives_once : (r : Record) (ts : List ℕ) → Once ts → sum_by (λ t. gives t r) ts ≤ gives_most r
unfolding gives gives_most
gives_once (Done u call a) [] once = omega arith
gives_once (Done u call a) (t ∷ ts) once = omega (arith, sum_by-cons (λ v. gives v (Done u call a)) t ts, by_test (gives_once (Done u call a) ts once.1) (u == t) refl)
  where
    by_test : sum_by (λ v. gives v (Done u call a)) ts ≤ one (is_insert call) → (b : Bool) → (u == t) ≡ b → (if b then one (is_insert call) else 0) + sum_by (λ v. gives v (Done u call a)) ts ≤ one (is_insert call)
    by_test later true e =
        let same : u ≡ t = eqb-true u t e in
        let rest : sum_by (λ v. gives v (Done u call a)) ts ≡ 0 = gives_none (Done u call a) ts (λ v has. ap (λ (b : Bool). if b then one (is_insert call) else 0) (ne_eqb u v (λ f. once.0 (subst (Contains ts) (sym f ∙ same) has)))) in
        omega (arith, rest)
    by_test later false e = omega (arith, later)
gives_once r ts once = omega (arith, gives_none r ts (λ t has. refl))

sum_both : (f g h : ℕ → ℕ) (ts : List ℕ) → ((t : ℕ) → f t ≡ g t + h t) → sum_by f ts ≡ sum_by g ts + sum_by h ts
sum_both f g h [] same = refl
sum_both f g h (t ∷ ts) same = omega (arith, sum_both f g h ts same, same t, sum_by-cons f t ts, sum_by-cons g t ts, sum_by-cons h t ts)

sum_none : (ts : List ℕ) → sum_by (inserts_of []) ts ≡ 0
sum_none [] = refl
sum_none (t ∷ ts) = sum_by-cons (inserts_of []) t ts ∙ (sym (zero_plus (sum_by (inserts_of []) ts)) ∙ sum_none ts)

pub few_inserts : (ts : List ℕ) (L : List Record) → Once ts → sum_by (inserts_of L) ts ≤ all_answered L
few_inserts ts [] once = omega (arith, sum_none ts)
few_inserts ts (r ∷ L) once =
    let all = sum_both (inserts_of (r ∷ L)) (λ t. gives t r) (inserts_of L) ts (λ t. inserts_step t r L) in
    let first = gives_once r ts once in
    let rest = few_inserts ts L once in
    let step = answered_step r L in
    omega (arith, all, first, rest, step)

-- ---- by clients

adds : Bool → Deed → ℕ
adds true x = one (answers_insert (0, x))
adds false x = 0

same_answer : (n : ℕ) (x : Deed) → answers_insert (n, x) ≡ answers_insert (0, x)
same_answer n (Logs (Done t call a)) = refl
same_answer n x = refl

owned_step : (c n : ℕ) (x : Happening) (xs : List Happening) → insert_answers (owned c n (x ∷ xs)) ≡ adds (x.1 == c) x.0 + insert_answers (owned c (count_with n x.0) xs)
unfolding adds
owned_step c n x xs = by_owner (x.1 == c)
  where
    by_owner : (b : Bool) → insert_answers (owned_one b (n, x.0) (owned c (count_with n x.0) xs)) ≡ adds b x.0 + insert_answers (owned c (count_with n x.0) xs)
    by_owner true = longer (answers_insert (n, x.0)) (n, x.0) (filter answers_insert (owned c (count_with n x.0) xs)) ∙ ap (λ b. one b + insert_answers (owned c (count_with n x.0) xs)) (same_answer n x.0)
    by_owner false = zero_plus _

logged_step : (x : Happening) (xs : List Happening) → all_answered (logged_by (x ∷ xs)) ≡ one (answers_insert (0, x.0)) + all_answered (logged_by xs)
unfolding one
logged_step (Logs (Done t call a), c) xs = longer (is_insert call) (Done t call a) (filter answered (logged_by xs))
logged_step (Logs r, c) xs = zero_plus _
logged_step (x, c) xs = zero_plus _

blocks_both : (f g h : Told → ℕ) (bs : List Told) → ((b : Told) → f b ≡ g b + h b) → sum_by f bs ≡ sum_by g bs + sum_by h bs
blocks_both f g h [] same = refl
blocks_both f g h (b ∷ bs) same = omega (arith, blocks_both f g h bs same, same b, sum_by-cons f b bs, sum_by-cons g b bs, sum_by-cons h b bs)

some_adds : (bs : List Told) (x : Happening) → is_among bs x.1 ≡ true → one (answers_insert (0, x.0)) ≤ sum_by (λ (b : Told). adds (x.1 == b.client) x.0) bs
unfolding adds
some_adds [] x is = absurd cc
some_adds (b ∷ bs) x is = omega (arith, sum_by-cons (λ (d : Told). adds (x.1 == d.client) x.0) b bs, by_test (some_adds bs x) (b.client == x.1) refl is)
  where
    by_test : (is_among bs x.1 ≡ true → one (answers_insert (0, x.0)) ≤ sum_by (λ (d : Told). adds (x.1 == d.client) x.0) bs) → (k : Bool) → (b.client == x.1) ≡ k → (if k then true else is_among bs x.1) ≡ true
        → one (answers_insert (0, x.0)) ≤ adds (x.1 == b.client) x.0 + sum_by (λ (d : Told). adds (x.1 == d.client) x.0) bs
    by_test more true e is = let here : adds (x.1 == b.client) x.0 ≡ one (answers_insert (0, x.0)) = ap (λ k. adds k x.0) (turned b.client x.1 e) in omega (arith, here)
    by_test more false e is = omega (arith, more is)

pub all_counted : (bs : List Told) (n : ℕ) (xs : List Happening) → list_all (λ (x : Happening). is_among bs x.1) xs ≡ true → all_answered (logged_by xs) ≤ sum_by (λ (b : Told). insert_answers (owned b.client n xs)) bs
all_counted bs n [] all = omega arith
all_counted bs n (x ∷ xs) all =
    let parts = and_parts (is_among bs x.1) (list_all (λ (y : Happening). is_among bs y.1) xs) all in
    let sum = blocks_both (λ (b : Told). insert_answers (owned b.client n (x ∷ xs))) (λ (b : Told). adds (x.1 == b.client) x.0) (λ (b : Told). insert_answers (owned b.client (count_with n x.0) xs)) bs (λ b. owned_step b.client n x xs) in
    let first = some_adds bs x parts.0 in
    let rest = all_counted bs (count_with n x.0) xs parts.1 in
    let step = logged_step x xs in
    omega (arith, sum, first, rest, step)

pub blocks_same : (f g : Told → ℕ) (bs : List Told) → ((b : Told) → f b ≡ g b) → sum_by f bs ≡ sum_by g bs
blocks_same f g [] same = refl
blocks_same f g (b ∷ bs) same = omega (arith, blocks_same f g bs same, same b, sum_by-cons f b bs, sum_by-cons g b bs)
