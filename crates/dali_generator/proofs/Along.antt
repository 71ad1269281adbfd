-- What generated transactions of a log lead to, one transaction after another.
use Rattle.std.proofs.Common.{◌≡◌, ℕ, zero, suc, ◌+◌, ◌/◌, ◌%◌, ◌<◌, ◌≤◌, ◌==◌, ◌&&◌, Bool, true, false, cond, leb, get_or, List, [], ◌∷◌, ◌++◌, length, map, Option, Some, None, refl, sym, ◌∙◌, ap, subst, arith}
use Rattle.std.specs.Prelude.{filter, Contains}
use Rattle.std.specs.List.{range_with_len, AllByRecursion}
use Rattle.std.proofs.lemmas.Bool.{eqb-true, eqb-false, eq-eqb}
use Rattle.std.proofs.lemmas.List.Elements.{filter-append}
use Rattle.std.proofs.lemmas.List.Sums.{fold-append}
use Rattle.std.proofs.lemmas.Nat.{div-add-mod'}
use Rattle.dali_lists.proofs.Members.{contains_first, contains_more}
use Rattle.dali_record.specs.declared.records.Call.{Call}
use Rattle.dali_record.specs.declared.records.Answer.{Answer}
use Rattle.dali_record.specs.declared.records.Record.{Record}
use Rattle.dali_record.specs.Log.{calls_of}
use Rattle.dali_history.specs.Serial.{empty_map, call_key, value_step, values_after, on_key, calls_in_order}
use Rattle.dali_history.proofs.ByKey.{serial-calls, calls_after-each, no_value_stays}
use Rattle.dali_generator.specs.Generated.{key_of}
use Rattle.dali_generator.specs.Left.{calls_at, stands_behind, transactions_of, IsGenerated, LeavesThem}
use Rattle.dali_generator.proofs.Steps.{step, foreign, stands_first}

-- ---- places within bounds
range_below : (n a b : ℕ) → a + n ≤ b → AllByRecursion (λ x. x < b) (range_with_len a n)
range_below zero a b h = tt
range_below (suc n) a b h = (omega arith, range_below n (a + 1) b (omega arith))

bound : (client place : ℕ → ℕ) (c b : ℕ) (ts : List ℕ) (t k : ℕ) → k < length ts → get_or ts k t ≡ t → (client t == c) ≡ true → AllByRecursion (λ x. x < b) (map place (filter (λ u. client u == c) ts)) → place t < b
bound client place c b [] t k l e f all = absurd (omega (arith, l))
bound client place c b (u ∷ ts) t zero l e f all =
    let same : u ≡ t = e in
    let on : (client u == c) ≡ true = ap (λ x. client x == c) same ∙ f in
    let below = rw on at all in
    subst (λ x. place x < b) same below.0
bound client place c b (u ∷ ts) t (suc k) l e f all = bound client place c b ts t k (omega (arith, l)) e f (rest (client u == c) all)
  where
    rest : (x : Bool) → AllByRecursion (λ y. y < b) (map place (cond x (u ∷ filter (λ v. client v == c) ts) (filter (λ v. client v == c) ts))) → AllByRecursion (λ y. y < b) (map place (filter (λ v. client v == c) ts))
    rest true h = h.1
    rest false h = h

-- ---- one transaction after another
-- what is known of each transaction
record IsOne (number : ℕ) (L : List Record) (client i t : ℕ) : Type 0 where
  generated : IsGenerated number L client i t
  within : i < 1000000

-- where the calls lead on, they lead to some value in between
pub between : (s o : Option (List ℕ)) (cs ds : List (Call × Answer)) → values_after (Some s) (cs ++ ds) ≡ Some o
    → (u : Option (List ℕ)) × ((values_after (Some s) cs ≡ Some u) × (values_after (Some u) ds ≡ Some o))
between s o cs ds e = by_value (values_after (Some s) cs) refl
  where
    split : values_after (values_after (Some s) cs) ds ≡ Some o
    split = sym (fold-append value_step (Some s) cs ds) ∙ e

    by_value : (v : Option (Option (List ℕ))) → values_after (Some s) cs ≡ v → (u : Option (List ℕ)) × ((values_after (Some s) cs ≡ Some u) × (values_after (Some u) ds ≡ Some o))
    by_value None f =
        let never : None ≡ Some o = sym (no_value_stays ds) ∙ ap (λ w. values_after w ds) (sym f) ∙ split in
        absurd cc
    by_value (Some u) f = (u, (f, ap (λ w. values_after w ds) (sym f) ∙ split))

along : (number c i : ℕ) (L : List Record) (client place : ℕ → ℕ) (ts : List ℕ) (a n : ℕ) (o : Option (List ℕ)) → i < 1000000
    → ((t : ℕ) → Contains ts t → IsOne number L (client t) (place t) t)
    → map place (filter (λ t. client t == c) ts) ≡ range_with_len a n
    → values_after (Some (stands_behind number c i a)) (on_key (key_of c i) (calls_in_order ts L)) ≡ Some o
    → o ≡ stands_behind number c i (a + n)
along number c i L client place [] a zero o h each order e =
    let stays : o ≡ stands_behind number c i a = cc in
    let last : a ≡ a + 0 = omega arith in
    stays ∙ ap (stands_behind number c i) last
along number c i L client place [] a (suc n) o h each order e = absurd cc
along number c i L client place (t ∷ ts) a n o h each order e =
    let here = each t (contains_first t ts) in
    let parts = filter-append (λ p. call_key p.0 == key_of c i) (calls_of t L) (calls_in_order ts L) in
    let apart : values_after (Some (stands_behind number c i a)) (on_key (key_of c i) (calls_of t L) ++ on_key (key_of c i) (calls_in_order ts L)) ≡ Some o = subst (λ l. values_after (Some (stands_behind number c i a)) l ≡ Some o) parts e in
    let mid = between (stands_behind number c i a) o (on_key (key_of c i) (calls_of t L)) (on_key (key_of c i) (calls_in_order ts L)) apart in
    by_client (λ b m q g. along number c i L client place ts b m o h (λ u g. each u (contains_more t u ts g)) q g) (client t == c) refl here n mid.0 order mid.1.0 mid.1.1
  where
    by_client : ((b m : ℕ) → map place (filter (λ v. client v == c) ts) ≡ range_with_len b m → values_after (Some (stands_behind number c i b)) (on_key (key_of c i) (calls_in_order ts L)) ≡ Some o → o ≡ stands_behind number c i (b + m))
        → (x : Bool) → (client t == c) ≡ x → IsOne number L (client t) (place t) t → (m : ℕ) (u : Option (List ℕ))
        → map place (cond x (t ∷ filter (λ v. client v == c) ts) (filter (λ v. client v == c) ts)) ≡ range_with_len a m
        → values_after (Some (stands_behind number c i a)) (on_key (key_of c i) (calls_of t L)) ≡ Some u
        → values_after (Some u) (on_key (key_of c i) (calls_in_order ts L)) ≡ Some o
        → o ≡ stands_behind number c i (a + m)
    by_client ih true f one zero u g p q = absurd cc
    by_client ih true f one (suc m) u g p q =
        let own : client t ≡ c = eqb-true (client t) c f in
        let first : place t ≡ a = cc in
        let behind : map place (filter (λ v. client v == c) ts) ≡ range_with_len (a + 1) m = cc in
        let made : map (λ x. x.0) (calls_of t L) ≡ calls_at number c a = one.generated.calls_are ∙ ap (λ x. calls_at number x (place t)) own ∙ ap (calls_at number c) first in
        let stands : u ≡ stands_behind number c i (a + 1) = step number c i a (calls_of t L) u made one.generated.inserted p in
        let more : a + 1 + m ≡ a + suc m = omega arith in
        ih (a + 1) m behind (subst (λ s. values_after (Some s) (on_key (key_of c i) (calls_in_order ts L)) ≡ Some o) stands q)
        ∙ ap (stands_behind number c i) more
    by_client ih false f one m u g p q =
        let none = foreign number c i (client t) (place t) (calls_of t L) (eqb-false (client t) c f) h one.within one.generated.calls_are in
        let same : Some (stands_behind number c i a) ≡ Some u = sym (ap (values_after (Some (stands_behind number c i a))) none) ∙ p in
        let stays : u ≡ stands_behind number c i a = cc in
        ih a m g (subst (λ s. values_after (Some s) (on_key (key_of c i) (calls_in_order ts L)) ≡ Some o) stays q)

-- ---- all of them
pub size_below : (clients size c : ℕ) → transactions_of clients size c ≤ size
size_below clients size c = chosen (leb 1 c) (leb c clients)
  where
    chosen : (x y : Bool) → cond (x && y) size 0 ≤ size
    chosen true true = omega arith
    chosen true false = omega arith
    chosen false y = omega arith

pub leaves_them : LeavesThem
leaves_them clients size number L ts m within run defined k =
    let c = k / 1000000 in
    let i = k % 1000000 in
    let whole : key_of c i ≡ k = div-add-mod' k 1000000 in
    let all = sym (serial-calls empty_map ts L) ∙ defined in
    let at : values_after (Some None) (on_key k (calls_in_order ts L)) ≡ Some (m k) = calls_after-each empty_map m (calls_in_order ts L) all k in
    let keyed : values_after (Some None) (on_key (key_of c i) (calls_in_order ts L)) ≡ Some (m k) = subst (λ q. values_after (Some None) (on_key q (calls_in_order ts L)) ≡ Some (m k)) (sym whole) at in
    let from_first : values_after (Some (stands_behind number c i 0)) (on_key (key_of c i) (calls_in_order ts L)) ≡ Some (m k) = subst (λ s. values_after (Some s) (on_key (key_of c i) (calls_in_order ts L)) ≡ Some (m k)) (sym (stands_first number c i)) keyed in
    let n = transactions_of clients size c in
    let last : 0 + n ≡ n = omega arith in
    along number c i L run.client run.place ts 0 n (m k) (omega arith) each (run.in_order c) from_first
    ∙ ap (stands_behind number c i) last
  where
    each : (t : ℕ) → Contains ts t → IsOne number L (run.client t) (run.place t) t
    each t g =
        let d = run.client t in
        let below = range_below (transactions_of clients size d) 0 1000000 (omega (arith, size_below clients size d, within.few_transactions)) in
        let all = subst (AllByRecursion (λ x. x < 1000000)) (sym (run.in_order d)) below in
        record { generated = run.generated t g; within = bound run.client run.place d 1000000 ts t g.0 g.1 g.2 (eq-eqb d d refl) all }
