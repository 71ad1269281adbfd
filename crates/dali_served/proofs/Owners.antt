-- The answers and commits of a log, told by the deeds of its clients.
--     commits xs           each commit with its client
--     commit_in, answer_in the commit, and the answer of t, that a deed is
use Rattle.std.proofs.Common.{◌≡◌, ℕ, zero, suc, ◌+◌, ◌≤◌, ◌==◌, Bool, true, false, cond, List, [], ◌∷◌, ◌++◌, length, Option, Some, None, refl, sym, ◌∙◌, ap, subst, arith}
use Rattle.std.specs.Prelude.{filter_map}
use Rattle.std.specs.List.{cons_option, AllByRecursion}
use Rattle.std.proofs.lemmas.Bool.{eq-eqb}
use Rattle.dali_record.specs.declared.records.Call.{Call}
use Rattle.dali_record.specs.declared.records.Answer.{Answer}
use Rattle.dali_record.specs.declared.records.Record.{Record}
use Rattle.dali_record.specs.declared.records.Record.TheVariants.{Done, Commit, AuditFail}
use Rattle.dali_record.specs.Log.{call_by, calls_of, commit_by, committed}
use Rattle.dali_transcripts.specs.World.{Logs, Happening, logged_by}
use Rattle.dali_transcripts.specs.Moves.{Receipt}
use Rattle.dali_transcripts.specs.Transcripts.{owned_one, owned}
use Rattle.dali_served.proofs.Lists.{firsts, owned_by}
use Rattle.dali_served.proofs.Marks.{is_mark, is_alarm, marks, NoAlarm}

abbrev pub commit_in : Receipt → Option ℕ
commit_in (n, Logs x) = commit_by x
commit_in x = None

abbrev pub answer_in : ℕ → Receipt → Option (Call × Answer)
answer_in t (n, Logs x) = call_by t x
answer_in t x = None

abbrev tag : ℕ → Option ℕ → Option (ℕ × ℕ)
tag c None = None
tag c (Some t) = Some (t, c)

abbrev commit_at : Happening → Option (ℕ × ℕ)
commit_at (Logs x, c) = tag c (commit_by x)
commit_at x = None

abbrev pub commits : List Happening → List (ℕ × ℕ)
commits xs = filter_map commit_at xs

-- ---- commits
one_commit : (c : ℕ) (o : Option ℕ) (ts : List ℕ) (ps : List (ℕ × ℕ)) → ts ≡ firsts ps → cons_option o ts ≡ firsts (cons_option (tag c o) ps)
one_commit c None ts ps same = same
one_commit c (Some t) ts ps same = ap (λ l. t ∷ l) same

pub commits_logged : (xs : List Happening) → committed (logged_by xs) ≡ firsts (commits xs)
commits_logged [] = refl
commits_logged ((Logs x, c) ∷ xs) = one_commit c (commit_by x) (committed (logged_by xs)) (commits xs) (commits_logged xs)
commits_logged (x ∷ xs) = commits_logged xs

-- what is told of deeds, of those of one client
told_one : {Y : Type 0} (f : Receipt → Option Y) (b : Bool) (x : Receipt) (xs : List Receipt) → filter_map f (owned_one b x xs) ≡ cond b (cons_option (f x) (filter_map f xs)) (filter_map f xs)
told_one f true x xs = refl
told_one f false x xs = refl

told_none : {Y : Type 0} (f : Receipt → Option Y) (b : Bool) (x : Receipt) (xs : List Receipt) → f x ≡ None → filter_map f (owned_one b x xs) ≡ filter_map f xs
told_none f true x xs e = ap (λ o. cons_option o (filter_map f xs)) e
told_none f false x xs e = refl

one_owned : (c d : ℕ) (b : Bool) → (d == c) ≡ b → (o : Option ℕ) (ps : List (ℕ × ℕ)) (ts : List ℕ) → owned_by c ps ≡ ts → owned_by c (cons_option (tag d o) ps) ≡ cond b (cons_option o ts) ts
one_owned c d true e None ps ts same = same
one_owned c d false e None ps ts same = same
one_owned c d true e (Some t) ps ts same = rw e (ap (λ l. t ∷ l) same)
one_owned c d false e (Some t) ps ts same = rw e same

pub commits_owned : (c n : ℕ) (xs : List Happening) → owned_by c (commits xs) ≡ filter_map commit_in (owned c n xs)
commits_owned c n [] = refl
commits_owned c n ((Logs x, d) ∷ xs) =
    one_owned c d (d == c) refl (commit_by x) (commits xs) (filter_map commit_in (owned c (n + 1) xs)) (commits_owned c (n + 1) xs)
    ∙ sym (told_one commit_in (d == c) (n, Logs x) (owned c (n + 1) xs))
commits_owned c n ((x, d) ∷ xs) = commits_owned c n xs ∙ sym (told_none commit_in (d == c) (n, x) (owned c n xs) refl)

-- ---- marks alone tell them
pub by_marks : {Y : Type 0} (f : Receipt → Option Y) → ((x : Receipt) → is_mark x ≡ false → f x ≡ None) → (xs : List Receipt) → filter_map f (marks xs) ≡ filter_map f xs
by_marks f none [] = refl
by_marks f none (x ∷ xs) = by_test (by_marks f none xs) (is_mark x) refl
  where
    by_test : filter_map f (marks xs) ≡ filter_map f xs → (b : Bool) → is_mark x ≡ b → filter_map f (cond b (x ∷ marks xs) (marks xs)) ≡ cons_option (f x) (filter_map f xs)
    by_test ih true e = ap (λ l. cons_option (f x) l) ih
    by_test ih false e = ih ∙ ap (λ o. cons_option o (filter_map f xs)) (sym (none x e))

pub no_commit : (x : Receipt) → is_mark x ≡ false → commit_in x ≡ None
no_commit (n, Logs (Commit t)) e = absurd cc
no_commit (n, Logs x) e = refl
no_commit (n, x) e = refl

pub no_answer : (t : ℕ) (x : Receipt) → is_mark x ≡ false → answer_in t x ≡ None
no_answer t (n, Logs (Done u c a)) e = absurd cc
no_answer t (n, Logs x) e = refl
no_answer t (n, x) e = refl

-- ---- the answers of one transaction, if they are those of one client
nothing_behind : {Y : Type 0} (o : Option Y) (ys : List Y) → cons_option o ys ≡ [] → (o ≡ None) × (ys ≡ [])
nothing_behind None ys e = (refl, e)
nothing_behind (Some y) ys e = absurd cc

none_behind : {Y : Type 0} (f : Receipt → Option Y) (b : Bool) (x : Receipt) (xs : List Receipt) → filter_map f (owned_one b x xs) ≡ [] → filter_map f xs ≡ []
none_behind f true x xs e = (nothing_behind (f x) (filter_map f xs) e).1
none_behind f false x xs e = e

none_here : {Y : Type 0} (f : Receipt → Option Y) (d : ℕ) (x : Receipt) (xs : List Receipt) → filter_map f (owned_one (d == d) x xs) ≡ [] → f x ≡ None
none_here f d x xs e =
    let same = eq-eqb d d refl in
    (nothing_behind (f x) (filter_map f xs) (ap (λ b. filter_map f (owned_one b x xs)) (sym same) ∙ e)).0

pub answers_owned : (t c n : ℕ) (xs : List Happening) → ((d : ℕ) → (d == c) ≡ false → filter_map (answer_in t) (owned d n xs) ≡ []) → calls_of t (logged_by xs) ≡ filter_map (answer_in t) (owned c n xs)
answers_owned t c n [] others = refl
answers_owned t c n ((Logs x, d) ∷ xs) others =
    by_test
    (answers_owned t c (n + 1) xs (λ e away. none_behind (answer_in t) (d == e) (n, Logs x) (owned e (n + 1) xs) (others e away)))
    (d == c) refl
    ∙ sym (told_one (answer_in t) (d == c) (n, Logs x) (owned c (n + 1) xs))
  where
    by_test : calls_of t (logged_by xs) ≡ filter_map (answer_in t) (owned c (n + 1) xs) → (b : Bool) → (d == c) ≡ b
        → cons_option (call_by t x) (calls_of t (logged_by xs)) ≡ cond b (cons_option (call_by t x) (filter_map (answer_in t) (owned c (n + 1) xs))) (filter_map (answer_in t) (owned c (n + 1) xs))
    by_test ih true e = ap (λ l. cons_option (call_by t x) l) ih
    by_test ih false e = ap (λ o. cons_option o (calls_of t (logged_by xs))) (none_here (answer_in t) d (n, Logs x) (owned d (n + 1) xs) (others d e)) ∙ ih
answers_owned t c n ((x, d) ∷ xs) others =
    answers_owned t c n xs (λ e away. none_behind (answer_in t) (d == e) (n, x) (owned e n xs) (others e away))
    ∙ sym (told_none (answer_in t) (d == c) (n, x) (owned c n xs) refl)

-- ---- no audit failed
abbrev pub fails : Record → Bool
fails (AuditFail b rs) = true
fails x = false

alarm_behind : (b : Bool) (x : Receipt) (xs : List Receipt) → NoAlarm (owned_one b x xs) → NoAlarm xs
alarm_behind true x xs h = h.1
alarm_behind false x xs h = h

alarm_here : (d : ℕ) (x : Receipt) (xs : List Receipt) → NoAlarm (owned_one (d == d) x xs) → is_alarm x ≡ false
alarm_here d x xs h = let same = eq-eqb d d refl in (subst (λ b. NoAlarm (owned_one b x xs)) same h).0

calm_record : (n : ℕ) (x : Record) → is_alarm (n, Logs x) ≡ false → fails x ≡ false
calm_record n (AuditFail b rs) e = absurd cc
calm_record n x e = refl

pub none_fails : (n : ℕ) (xs : List Happening) → ((c : ℕ) → NoAlarm (owned c n xs)) → AllByRecursion (λ x. fails x ≡ false) (logged_by xs)
none_fails n [] calm = tt
none_fails n ((Logs x, d) ∷ xs) calm =
    (calm_record n x (alarm_here d (n, Logs x) (owned d (n + 1) xs) (calm d)), none_fails (n + 1) xs (λ c. alarm_behind (d == c) (n, Logs x) (owned c (n + 1) xs) (calm c)))
none_fails n ((x, d) ∷ xs) calm = none_fails n xs (λ c. alarm_behind (d == c) (n, x) (owned c n xs) (calm c))

-- ---- a front of what happened

-- numbers behind so many records
high_one : (m : ℕ) (b : Bool) (x : Receipt) (xs : List Receipt) → m ≤ x.0 → AllByRecursion (λ (y : Receipt). m ≤ y.0) xs → AllByRecursion (λ (y : Receipt). m ≤ y.0) (owned_one b x xs)
high_one m true x xs le all = (le, all)
high_one m false x xs le all = all

pub high : (c m n : ℕ) (xs : List Happening) → m ≤ n → AllByRecursion (λ (y : Receipt). m ≤ y.0) (owned c n xs)
high c m n [] le = tt
high c m n ((Logs x, d) ∷ xs) le = high_one m (d == c) (n, Logs x) (owned c (n + 1) xs) le (high c m (n + 1) xs (omega (arith, le)))
high c m n ((x, d) ∷ xs) le = high_one m (d == c) (n, x) (owned c n xs) le (high c m n xs le)

pub record Cut (k : ℕ) (xs : List Happening) : Type 0 where
  pub front : List Happening
  pub behind : List Happening
  pub is : xs ≡ front ++ behind
  pub count : length (logged_by front) ≡ k

pub cut_at : (k : ℕ) (xs : List Happening) → k ≤ length (logged_by xs) → Cut k xs
cut_at zero xs le = record { front = []; behind = xs; is = refl; count = refl }
cut_at (suc k) [] le = absurd (omega (arith, le))
cut_at (suc k) ((Logs x, d) ∷ xs) le =
    let c = cut_at k xs (omega (arith, le)) in
    record { front = (Logs x, d) ∷ c.front; behind = c.behind; is = ap (λ l. (Logs x, d) ∷ l) c.is; count = ap suc c.count }
cut_at (suc k) ((x, d) ∷ xs) le =
    let c = cut_at (suc k) xs le in
    record { front = (x, d) ∷ c.front; behind = c.behind; is = ap (λ l. (x, d) ∷ l) c.is; count = c.count }
