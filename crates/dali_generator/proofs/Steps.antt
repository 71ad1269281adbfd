-- What the calls of one generated transaction do to one key.
use Rattle.std.proofs.Common.{◌≡◌, ◌≢◌, ℕ, ◌+◌, ◌-◌, ◌%◌, ◌<◌, ◌≤◌, ◌==◌, Bool, true, false, List, [], ◌∷◌, ◌++◌, map, Option, Some, None, refl, sym, ◌∙◌, ap, subst, ⊎_elim, inl, inr, arith}
use Rattle.std.specs.Prelude.{◌⊎◌, if◌then◌else◌, bytes_eq, filter_map}
use Rattle.std.specs.List.{AllByRecursion}
use Rattle.std.proofs.lemmas.Bool.{lt-ltb, le-ltb, eq-eqb, ne_eqb, cases_order, cases_eq}
use Rattle.dali_record.specs.declared.records.Call.{Call}
use Rattle.dali_record.specs.declared.records.Call.TheVariants as calls
use Rattle.dali_record.specs.declared.records.Answer.{Answer}
use Rattle.dali_record.specs.declared.records.Answer.TheVariants.{Ok as AnswerOk, Got}
use Rattle.dali_history.specs.Serial.{value_after, call_key, values_after, on_key}
use Rattle.dali_script.specs.declared.commands.ClientCommand.TheVariants.{Update, Delete, Get, Commit}
use Rattle.dali_generator.specs.Generated.{draw, key_of, value_of}
use Rattle.dali_generator.specs.Left.{call_in, calls_at, behind_the_next, stands_behind, inserted_by, IsInserted}

-- ---- the calls of a transaction
abbrev pub second_in : (first a b c : Bool) (k : ℕ) (v : List ℕ) → List Call
second_in true a b c k v = []
second_in false true b c k v = calls.Update k v ∷ []
second_in false false true c k v = calls.Delete k ∷ []
second_in false false false true k v = calls.Get k ∷ []
second_in false false false false k v = []

in_second : (first a b c : Bool) (k : ℕ) (v : List ℕ) → filter_map call_in ((if first then [] else (if a then Update k v ∷ [] else (if b then Delete k ∷ [] else (if c then Get k ∷ [] else [])))) ++ Commit ∷ []) ≡ second_in first a b c k v
in_second true a b c k v = refl
in_second false true b c k v = refl
in_second false false true c k v = refl
in_second false false false true k v = refl
in_second false false false false k v = refl

abbrev pub second_at : (number client i : ℕ) → List Call
second_at number client i = second_in (i == 0) (draw number client i % 4 == 1) (draw number client i % 4 == 2) (draw number client i % 4 == 3) (key_of client (i - 1)) (value_of (draw number client i))

pub calls_two : (number client i : ℕ) → calls_at number client i ≡ calls.Insert (key_of client i) (value_of (draw number client i)) ∷ second_at number client i
calls_two number client i =
    ap (λ l. calls.Insert (key_of client i) (value_of (draw number client i)) ∷ l) (in_second (i == 0) (draw number client i % 4 == 1) (draw number client i % 4 == 2) (draw number client i % 4 == 3) (key_of client (i - 1)) (value_of (draw number client i)))

-- ---- one call, on the key or not
one_off : (c : Call) (k : ℕ) (ps : List (Call × Answer)) → map (λ p. p.0) ps ≡ c ∷ [] → (call_key c == k) ≡ false → on_key k ps ≡ []
one_off c k [] e f = absurd cc
one_off c k (p ∷ []) e f =
    let same : p.0 ≡ c = cc in
    let off : (call_key p.0 == k) ≡ false = ap (λ x. call_key x == k) same ∙ f in
    rw off refl
one_off c k (p ∷ q ∷ ps) e f = absurd cc

one_on : (c : Call) (k : ℕ) (ps : List (Call × Answer)) (s o : Option (List ℕ)) → map (λ p. p.0) ps ≡ c ∷ [] → (call_key c == k) ≡ true → values_after (Some s) (on_key k ps) ≡ Some o → (a : Answer) × (value_after s c a ≡ Some o)
one_on c k [] s o e f g = absurd cc
one_on c k (p ∷ []) s o e f g =
    let same : p.0 ≡ c = cc in
    let on : (call_key p.0 == k) ≡ true = ap (λ x. call_key x == k) same ∙ f in
    let now : value_after s p.0 p.1 ≡ Some o = rw on at g in
    (p.1, subst (λ x. value_after s x p.1 ≡ Some o) same now)
one_on c k (p ∷ q ∷ ps) s o e f g = absurd cc

-- ---- what calls lead to that are allowed where there is a record
updated : (a : Answer) (k : ℕ) (v w : List ℕ) (o : Option (List ℕ)) → value_after (Some w) (calls.Update k v) a ≡ Some o → o ≡ Some v
updated AnswerOk k v w o e = cc
updated _ k v w o e = absurd cc

deleted : (a : Answer) (k : ℕ) (w : List ℕ) (o : Option (List ℕ)) → value_after (Some w) (calls.Delete k) a ≡ Some o → o ≡ None
deleted AnswerOk k w o e = cc
deleted _ k w o e = absurd cc

same_if : (b : Bool) (w : List ℕ) (o : Option (List ℕ)) → (if b then Some (Some w) else None) ≡ Some o → o ≡ Some w
same_if true w o e = cc
same_if false w o e = absurd cc

got : (a : Answer) (k : ℕ) (w : List ℕ) (o : Option (List ℕ)) → value_after (Some w) (calls.Get k) a ≡ Some o → o ≡ Some w
got (Got x) k w o e = same_if (bytes_eq w x) w o e
got _ k w o e = absurd cc

-- ---- the second call
no_calls : (ps : List (Call × Answer)) → map (λ p. p.0) ps ≡ [] → ps ≡ []
no_calls [] e = refl
no_calls (p ∷ ps) e = absurd cc

second_off : (first a b c : Bool) (kb : ℕ) (v : List ℕ) (k : ℕ) (ps : List (Call × Answer)) → map (λ p. p.0) ps ≡ second_in first a b c kb v → (first ≡ false → (kb == k) ≡ false) → on_key k ps ≡ []
second_off true a b c kb v k ps e f = ap (on_key k) (no_calls ps e)
second_off false true b c kb v k ps e f = one_off (calls.Update kb v) k ps e (f refl)
second_off false false true c kb v k ps e f = one_off (calls.Delete kb) k ps e (f refl)
second_off false false false true kb v k ps e f = one_off (calls.Get kb) k ps e (f refl)
second_off false false false false kb v k ps e f = ap (on_key k) (no_calls ps e)

second_on : (first a b c : Bool) (kb : ℕ) (v : List ℕ) (k : ℕ) (ps : List (Call × Answer)) (w : List ℕ) (o : Option (List ℕ)) → first ≡ false → map (λ p. p.0) ps ≡ second_in first a b c kb v → (kb == k) ≡ true → values_after (Some (Some w)) (on_key k ps) ≡ Some o → o ≡ (if a then Some v else (if b then None else Some w))
second_on true a b c kb v k ps w o z e f g = absurd cc
second_on false true b c kb v k ps w o z e f g = let at = one_on (calls.Update kb v) k ps (Some w) o e f g in updated at.0 kb v w o at.1
second_on false false true c kb v k ps w o z e f g = let at = one_on (calls.Delete kb) k ps (Some w) o e f g in deleted at.0 kb w o at.1
second_on false false false true kb v k ps w o z e f g = let at = one_on (calls.Get kb) k ps (Some w) o e f g in got at.0 kb w o at.1
second_on false false false false kb v k ps w o z e f g =
    let same : Some (Some w) ≡ Some o = sym (ap (λ l. values_after (Some (Some w)) (on_key k l)) (no_calls ps e)) ∙ g in
    cc

-- ---- the insert
inserted : (c : Call) (a : Answer) (k : ℕ) (v : List ℕ) (o : Option (List ℕ)) → c ≡ calls.Insert k v → inserted_by c a → value_after None c a ≡ Some o → o ≡ Some v
inserted c a k v o e h g =
    let ok : a ≡ AnswerOk = subst (λ x. inserted_by x a) e h in
    let now : value_after None (calls.Insert k v) AnswerOk ≡ Some o = subst (λ x. value_after None (calls.Insert k v) x ≡ Some o) ok (subst (λ x. value_after None x a ≡ Some o) e g) in
    cc

-- ---- what stands at a key
pub stands_none : (number c i n : ℕ) → n ≤ i → stands_behind number c i n ≡ None
stands_none number c i n h = rw (le-ltb (i + 1) n (omega arith), le-ltb i n h) refl

stands_own : (number c i n : ℕ) → n ≡ i + 1 → stands_behind number c i n ≡ Some (value_of (draw number c i))
stands_own number c i n h = rw (le-ltb (i + 1) n (omega arith), lt-ltb i n (omega arith)) refl

stands_next : (number c i n : ℕ) → i + 1 < n → stands_behind number c i n ≡ behind_the_next (draw number c (i + 1) % 4) (value_of (draw number c i)) (value_of (draw number c (i + 1)))
stands_next number c i n h = rw (lt-ltb (i + 1) n h) refl

pub stands_first : (number c i : ℕ) → stands_behind number c i 0 ≡ None
stands_first number c i = stands_none number c i 0 (omega arith)

-- ---- one transaction of the key's client
the_call : (c : Call) (k n : ℕ) → call_key c ≡ n → (n == k) ≡ false → (call_key c == k) ≡ false
the_call c k n e f = ap (λ x. x == k) e ∙ f

left_out : (p : Call × Answer) (k : ℕ) (ps : List (Call × Answer)) → (call_key p.0 == k) ≡ false → on_key k (p ∷ ps) ≡ on_key k ps
left_out p k ps f = rw f refl

let_in : (p : Call × Answer) (k : ℕ) (ps : List (Call × Answer)) → (call_key p.0 == k) ≡ true → on_key k (p ∷ ps) ≡ p ∷ on_key k ps
let_in p k ps f = rw f refl

-- its own insert
on_own : (number c i a : ℕ) (p : Call × Answer) (ps : List (Call × Answer)) (o : Option (List ℕ)) → i ≡ a
    → p.0 ≡ calls.Insert (key_of c a) (value_of (draw number c a)) → map (λ q. q.0) ps ≡ second_at number c a → IsInserted p
    → values_after (Some (stands_behind number c i a)) (on_key (key_of c i) (p ∷ ps)) ≡ Some o → o ≡ stands_behind number c i (a + 1)
on_own number c i a p ps o same is rest ok g =
    let keyed : call_key p.0 ≡ key_of c i = ap call_key is ∙ ap (key_of c) (sym same) in
    let on = let_in p (key_of c i) ps (eq-eqb (call_key p.0) (key_of c i) keyed) in
    let off = second_off (a == 0) (draw number c a % 4 == 1) (draw number c a % 4 == 2) (draw number c a % 4 == 3) (key_of c (a - 1)) (value_of (draw number c a)) (key_of c i) ps rest (λ z. ne_eqb (key_of c (a - 1)) (key_of c i) (λ e. let some : a ≢ 0 = λ n. absurd (both a n z) in omega (arith, some))) in
    let now : values_after (Some None) (p ∷ []) ≡ Some o = subst (λ s. values_after (Some s) (p ∷ []) ≡ Some o) (stands_none number c i a (omega arith)) (subst (λ l. values_after (Some (stands_behind number c i a)) l ≡ Some o) (on ∙ ap (λ l. p ∷ l) off) g) in
    inserted p.0 p.1 (key_of c a) (value_of (draw number c a)) o is ok now
    ∙ ap (λ n. Some (value_of (draw number c n))) (sym same) ∙ sym (stands_own number c i (a + 1) (omega arith))
  where
    both : (n : ℕ) → n ≡ 0 → (n == 0) ≡ false → ⊥
    both n e f = let is : (n == 0) ≡ true = eq-eqb n 0 e in absurd cc

-- the second call of the next transaction
on_next : (number c i a : ℕ) (p : Call × Answer) (ps : List (Call × Answer)) (o : Option (List ℕ)) → i + 1 ≡ a
    → p.0 ≡ calls.Insert (key_of c a) (value_of (draw number c a)) → map (λ q. q.0) ps ≡ second_at number c a
    → values_after (Some (stands_behind number c i a)) (on_key (key_of c i) (p ∷ ps)) ≡ Some o → o ≡ stands_behind number c i (a + 1)
on_next number c i a p ps o same is rest g =
    let out = left_out p (key_of c i) ps (the_call p.0 (key_of c i) (key_of c a) (ap call_key is) (ne_eqb (key_of c a) (key_of c i) (λ e. omega arith))) in
    let place : key_of c (a - 1) ≡ key_of c i = omega arith in
    let now : values_after (Some (Some (value_of (draw number c i)))) (on_key (key_of c i) ps) ≡ Some o = subst (λ s. values_after (Some s) (on_key (key_of c i) ps) ≡ Some o) (stands_own number c i a (sym same)) (subst (λ l. values_after (Some (stands_behind number c i a)) l ≡ Some o) out g) in
    second_on (a == 0) (draw number c a % 4 == 1) (draw number c a % 4 == 2) (draw number c a % 4 == 3) (key_of c (a - 1)) (value_of (draw number c a)) (key_of c i) ps (value_of (draw number c i)) o (ne_eqb a 0 (λ e. omega arith)) rest (eq-eqb (key_of c (a - 1)) (key_of c i) place) now
    ∙ ap (λ n. behind_the_next (draw number c n % 4) (value_of (draw number c i)) (value_of (draw number c n))) (sym same)
    ∙ sym (stands_next number c i (a + 1) (omega arith))

-- any other
still : (number c i a : ℕ) → i ≢ a → i + 1 ≢ a → stands_behind number c i a ≡ stands_behind number c i (a + 1)
still number c i a x y =
    ⊎_elim
    (λ h. stands_none number c i a (omega arith) ∙ sym (stands_none number c i (a + 1) (omega arith)))
    (λ h. stands_next number c i a (omega arith) ∙ sym (stands_next number c i (a + 1) (omega arith)))
    (other (cases_order a i))
  where
    other : (a ≡ i) ⊎ ((a < i) ⊎ (i < a)) → (a < i) ⊎ (i < a)
    other (inl e) = absurd (x (sym e))
    other (inr h) = h

-- no call is on the key
on_neither : (number c i c' a : ℕ) (p : Call × Answer) (ps : List (Call × Answer)) → key_of c' a ≢ key_of c i → ((a == 0) ≡ false → key_of c' (a - 1) ≢ key_of c i)
    → p.0 ≡ calls.Insert (key_of c' a) (value_of (draw number c' a)) → map (λ q. q.0) ps ≡ second_at number c' a
    → on_key (key_of c i) (p ∷ ps) ≡ []
on_neither number c i c' a p ps x y is rest =
    left_out p (key_of c i) ps (the_call p.0 (key_of c i) (key_of c' a) (ap call_key is) (ne_eqb (key_of c' a) (key_of c i) x))
    ∙ second_off (a == 0) (draw number c' a % 4 == 1) (draw number c' a % 4 == 2) (draw number c' a % 4 == 3) (key_of c' (a - 1)) (value_of (draw number c' a)) (key_of c i) ps rest (λ z. ne_eqb (key_of c' (a - 1)) (key_of c i) (y z))

some_if : (n : ℕ) → (n == 0) ≡ false → n ≢ 0
some_if n f e = let is : (n == 0) ≡ true = eq-eqb n 0 e in absurd cc

by_place : (number c i a : ℕ) (p : Call × Answer) (ps : List (Call × Answer)) (o : Option (List ℕ)) → (i ≡ a) ⊎ (i ≢ a) → (i + 1 ≡ a) ⊎ (i + 1 ≢ a)
    → p.0 ≡ calls.Insert (key_of c a) (value_of (draw number c a)) → map (λ q. q.0) ps ≡ second_at number c a → IsInserted p
    → values_after (Some (stands_behind number c i a)) (on_key (key_of c i) (p ∷ ps)) ≡ Some o → o ≡ stands_behind number c i (a + 1)
by_place number c i a p ps o (inl same) other is rest ok g = on_own number c i a p ps o same is rest ok g
by_place number c i a p ps o (inr x) (inl same) is rest ok g = on_next number c i a p ps o same is rest g
by_place number c i a p ps o (inr x) (inr y) is rest ok g =
    let none = on_neither number c i c a p ps (λ e. absurd (x (omega arith))) (λ z e. absurd (y (before a z e))) is rest in
    let same : Some (stands_behind number c i a) ≡ Some o = sym (ap (values_after (Some (stands_behind number c i a))) none) ∙ g in
    let stays : o ≡ stands_behind number c i a = cc in
    stays ∙ still number c i a x y
  where
    before : (b : ℕ) → (b == 0) ≡ false → key_of c (b - 1) ≡ key_of c i → i + 1 ≡ b
    before b z e = let some = some_if b z in omega (arith, some)

pub step : (number c i a : ℕ) (cs : List (Call × Answer)) (o : Option (List ℕ)) → map (λ p. p.0) cs ≡ calls_at number c a → AllByRecursion IsInserted cs
    → values_after (Some (stands_behind number c i a)) (on_key (key_of c i) cs) ≡ Some o → o ≡ stands_behind number c i (a + 1)
step number c i a [] o e ok g = let two : [] ≡ calls.Insert (key_of c a) (value_of (draw number c a)) ∷ second_at number c a = e ∙ calls_two number c a in absurd cc
step number c i a (p ∷ ps) o e ok g =
    let two : p.0 ∷ map (λ q. q.0) ps ≡ calls.Insert (key_of c a) (value_of (draw number c a)) ∷ second_at number c a = e ∙ calls_two number c a in
    by_place number c i a p ps o (cases_eq i a) (cases_eq (i + 1) a) (cc) (cc) ok.0 g

-- ---- one of another client
pub foreign : (number c i c' a : ℕ) (cs : List (Call × Answer)) → c' ≢ c → i < 1000000 → a < 1000000 → map (λ p. p.0) cs ≡ calls_at number c' a → on_key (key_of c i) cs ≡ []
foreign number c i c' a [] x h l e = refl
foreign number c i c' a (p ∷ ps) x h l e =
    let two : p.0 ∷ map (λ q. q.0) ps ≡ calls.Insert (key_of c' a) (value_of (draw number c' a)) ∷ second_at number c' a = e ∙ calls_two number c' a in
    on_neither number c i c' a p ps (λ f. absurd (x (apart c' a l f))) (λ z f. absurd (x (apart c' (a - 1) (omega arith) f))) (cc) (cc)
  where
    apart : (d b : ℕ) → b < 1000000 → key_of d b ≡ key_of c i → d ≡ c
    apart d b k f = omega arith
