-- Each insert of a generated round is answered ok, where room was found for it.
use Rattle.std.proofs.Common.{◌≡◌, ◌≢◌, ℕ, zero, suc, ◌+◌, ◌-◌, ◌<◌, ◌%◌, ◌==◌, Bool, true, false, cond, List, [], ◌∷◌, ◌++◌, length, map, Option, Some, None, refl, sym, ◌∙◌, ap, subst, arith, inl, inr, ⊎_elim}
use Rattle.std.specs.Prelude.{◌⊎◌, Contains, filter}
use Rattle.std.specs.List.{range_with_len, AllByRecursion}
use Rattle.std.proofs.lemmas.Bool.{eq-eqb, ne_eqb, cases_eq}
use Rattle.std.proofs.lemmas.List.Elements.{filter-append}
use Rattle.dali_lists.proofs.Members.{contains_cases, contains_first, contains_more}
use Rattle.dali_record.specs.declared.records.Call.{Call}
use Rattle.dali_record.specs.declared.records.Call.TheVariants as calls
use Rattle.dali_record.specs.declared.records.Answer.{Answer}
use Rattle.dali_record.specs.declared.records.Answer.TheVariants.{Ok as AnswerOk, Missing, FullHeap, FullIndex}
use Rattle.dali_record.specs.declared.records.Record.{Record}
use Rattle.dali_record.specs.Log.{calls_of}
use Rattle.dali_history.specs.Serial.{Map, empty_map, serial, call_key, value_after, values_after, on_key, calls_in_order}
use Rattle.dali_history.proofs.ByKey.{serial-calls, calls_after-each, no_value_stays}
use Rattle.dali_generator.specs.Generated.{AreWithin, draw, key_of, value_of}
use Rattle.dali_generator.specs.Left.{calls_at, transactions_of, inserted_by, IsInserted, HaveRun}
use Rattle.dali_generator.proofs.Ranges.{at}
use Rattle.dali_generator.proofs.Steps.{second_in, second_at, calls_two}
use Rattle.dali_generator.proofs.Along.{between, size_below}
use Rattle.dali_served.specs.Served.{has_room, HaveMade}
use Rattle.dali_served.specs.Generates.{calls_told}
use Rattle.dali_served.proofs.Answers.{HaveRoom, asked}

-- ---- calls that insert nothing
abbrev inserts : Call → Bool
inserts (calls.Insert k v) = true
inserts c = false

abbrev Leaves : Call × Answer → Type 0
Leaves p = inserts p.0 ≡ false

second_leaves : (first a b c : Bool) (k : ℕ) (v : List ℕ) → AllByRecursion (λ x. inserts x ≡ false) (second_in first a b c k v)
second_leaves true a b c k v = tt
second_leaves false true b c k v = (refl, tt)
second_leaves false false true c k v = (refl, tt)
second_leaves false false false true k v = (refl, tt)
second_leaves false false false false k v = tt

of_asked : (ps : List (Call × Answer)) (cs : List Call) → asked ps ≡ cs → AllByRecursion (λ x. inserts x ≡ false) cs → AllByRecursion Leaves ps
of_asked ps cs e all = by_list ps (subst (AllByRecursion (λ x. inserts x ≡ false)) (sym e) all)
  where
    by_list : (qs : List (Call × Answer)) → AllByRecursion (λ x. inserts x ≡ false) (asked qs) → AllByRecursion Leaves qs
    by_list [] all = tt
    by_list (q ∷ qs) all = (all.0, by_list qs all.1)

one_inserted : (c : Call) (a : Answer) → inserts c ≡ false → inserted_by c a
one_inserted (calls.Insert k v) a e = absurd cc
one_inserted (calls.Update k v) a e = tt
one_inserted (calls.Delete k) a e = tt
one_inserted (calls.Get k) a e = tt

all_inserted : (ps : List (Call × Answer)) → AllByRecursion Leaves ps → AllByRecursion IsInserted ps
all_inserted [] all = tt
all_inserted (p ∷ ps) all = (one_inserted p.0 p.1 all.0, all_inserted ps all.1)

-- ---- where nothing stands, such calls leave nothing

leaves_none : (c : Call) (a : Answer) (u : Option (List ℕ)) → inserts c ≡ false → value_after None c a ≡ Some u → u ≡ None
leaves_none (calls.Insert k v) a u e f = absurd cc
leaves_none (calls.Update k v) Missing u e f = let same : None ≡ u = cc in sym same
leaves_none (calls.Update k v) a u e f = absurd cc
leaves_none (calls.Delete k) Missing u e f = let same : None ≡ u = cc in sym same
leaves_none (calls.Delete k) a u e f = absurd cc
leaves_none (calls.Get k) Missing u e f = let same : None ≡ u = cc in sym same
leaves_none (calls.Get k) a u e f = absurd cc

all_leave : (cs : List (Call × Answer)) (u : Option (List ℕ)) → AllByRecursion Leaves cs → values_after (Some None) cs ≡ Some u → u ≡ None
all_leave [] u all e = let same : None ≡ u = cc in sym same
all_leave (p ∷ cs) u all e = by_value (λ g. all_leave cs u all.1 g) (value_after None p.0 p.1) refl e
  where
    by_value : (values_after (Some None) cs ≡ Some u → u ≡ None) → (o : Option (Option (List ℕ))) → value_after None p.0 p.1 ≡ o → values_after o cs ≡ Some u → u ≡ None
    by_value ih None f g = let never : None ≡ Some u = sym (no_value_stays cs) ∙ g in absurd cc
    by_value ih (Some w) f g = ih (subst (λ x. values_after (Some x) cs ≡ Some u) (leaves_none p.0 p.1 w all.0 f) g)

-- ---- the calls of one transaction
record Parts (number c i : ℕ) (cs : List (Call × Answer)) : Type 0 where
  answer : Answer
  rest : List (Call × Answer)
  is : cs ≡ (calls.Insert (key_of c i) (value_of (draw number c i)), answer) ∷ rest
  leaves : AllByRecursion Leaves rest

parts : (number c i : ℕ) (cs : List (Call × Answer)) → asked cs ≡ calls_at number c i → Parts number c i cs
parts number c i [] e = let two : [] ≡ calls.Insert (key_of c i) (value_of (draw number c i)) ∷ second_at number c i = e ∙ calls_two number c i in absurd cc
parts number c i (p ∷ ps) e =
    let two : p.0 ∷ asked ps ≡ calls.Insert (key_of c i) (value_of (draw number c i)) ∷ second_at number c i = e ∙ calls_two number c i in
    let first : p.0 ≡ calls.Insert (key_of c i) (value_of (draw number c i)) = cc in
    let behind : asked ps ≡ second_at number c i = cc in
    record {
      answer = p.1;
      rest = ps;
      is = ap (λ (x : Call). (x, p.1) ∷ ps) first;
      leaves = of_asked ps (second_at number c i) behind (second_leaves (i == 0) (draw number c i % 4 == 1) (draw number c i % 4 == 2) (draw number c i % 4 == 3) (key_of c (i - 1)) (value_of (draw number c i)));
    }

all_filtered : (p : Call × Answer → Bool) (cs : List (Call × Answer)) → AllByRecursion Leaves cs → AllByRecursion Leaves (filter p cs)
all_filtered p [] all = tt
all_filtered p (x ∷ xs) all = by_test (all_filtered p xs all.1) (p x)
  where
    by_test : AllByRecursion Leaves (filter p xs) → (b : Bool) → AllByRecursion Leaves (cond b (x ∷ filter p xs) (filter p xs))
    by_test rest true = (all.0, rest)
    by_test rest false = rest

-- none of them inserts another key
other_leaves : (number c i k : ℕ) (cs : List (Call × Answer)) → Parts number c i cs → key_of c i ≢ k → AllByRecursion Leaves (on_key k cs)
other_leaves number c i k cs p other =
    let off = ne_eqb (key_of c i) k other in
    let all : on_key k ((calls.Insert (key_of c i) (value_of (draw number c i)), p.answer) ∷ p.rest) ≡ on_key k p.rest = rw off refl in
    subst (AllByRecursion Leaves) (sym (ap (on_key k) p.is ∙ all)) (all_filtered (λ q. call_key q.0 == k) p.rest p.leaves)

-- the insert itself
is_ok : (v : List ℕ) (a : Answer) (cs : List (Call × Answer)) (k : ℕ) (o : Option (List ℕ)) → has_room a ≡ true → values_after (value_after None (calls.Insert k v) a) cs ≡ Some o → a ≡ AnswerOk
is_ok v AnswerOk cs k o room e = refl
is_ok v FullHeap cs k o room e = absurd cc
is_ok v FullIndex cs k o room e = absurd cc
is_ok v a cs k o room e = let never : None ≡ Some o = sym (no_value_stays cs) ∙ e in absurd cc

own_ok : (number c i : ℕ) (cs ds : List (Call × Answer)) (p : Parts number c i cs) (o : Option (List ℕ)) → has_room p.answer ≡ true
    → values_after (Some None) (on_key (key_of c i) (cs ++ ds)) ≡ Some o → p.answer ≡ AnswerOk
own_ok number c i cs ds p o room e =
    let k = key_of c i in
    let insert : Call × Answer = (calls.Insert k (value_of (draw number c i)), p.answer) in
    let on = eq-eqb k k refl in
    let all : on_key k (insert ∷ (p.rest ++ ds)) ≡ insert ∷ on_key k (p.rest ++ ds) = rw on refl in
    is_ok (value_of (draw number c i)) p.answer (on_key k (p.rest ++ ds)) k o room
    (subst (λ l. values_after (Some None) l ≡ Some o) (ap (λ l. on_key k (l ++ ds)) p.is ∙ all) e)

-- ---- all of them

count_told : {X : Type 0} (f : ℕ → X) (n a : ℕ) → length (map f (range_with_len a n)) ≡ n
count_told f zero a = refl
count_told f (suc n) a = ap suc (count_told f n (a + 1))

module _ (clients size number : ℕ) (within : AreWithin clients size) (K : List Record) (ts : List ℕ) (made : HaveMade (calls_told clients size number) K ts) where
  record IsOne (t : ℕ) : Type 0 where
    small : made.place t < 1000000
    are : asked (calls_of t K) ≡ calls_at number (made.client t) (made.place t)
    parts : Parts number (made.client t) (made.place t) (calls_of t K)
    room : HaveRoom (calls_of t K)

  one : (t : ℕ) → Contains ts t → IsOne t
  one t has =
      let c = made.client t in
      let n = transactions_of clients size c in
      let found = at (calls_at number c) n 0 (made.place t) (asked (calls_of t K)) (made.made t has) in
      let place : 0 + made.place t ≡ made.place t = omega arith in
      let are : asked (calls_of t K) ≡ calls_at number c (made.place t) = found.1 ∙ ap (calls_at number c) place in
      record {
        small = omega (arith, found.0, size_below clients size c, within.few_transactions);
        are = are;
        parts = parts number c (made.place t) (calls_of t K) are;
        room = made.room t has;
      }

  -- no other one inserts its key
  other : (t u : ℕ) → Contains ts t → Contains ts u → u ≢ t → key_of (made.client u) (made.place u) ≢ key_of (made.client t) (made.place t)
  other t u has also differ same =
      let a = (one t has).small in
      let b = (one u also).small in
      let client : made.client u ≡ made.client t = omega (arith, a, b, same) in
      let place : made.place u ≡ made.place t = omega (arith, a, b, same, client) in
      differ (made.apart u t also has client place)

  room_of : (t : ℕ) (o : IsOne t) → has_room o.parts.answer ≡ true
  room_of t o = let all : HaveRoom ((calls.Insert (key_of (made.client t) (made.place t)) (value_of (draw number (made.client t) (made.place t))), o.parts.answer) ∷ o.parts.rest) = subst HaveRoom o.parts.is o.room in all.0

  ok_along : (t : ℕ) (has : Contains ts t) (us : List ℕ) (o : Option (List ℕ)) → ((u : ℕ) → Contains us u → Contains ts u) → Contains us t
      → values_after (Some None) (on_key (key_of (made.client t) (made.place t)) (calls_in_order us K)) ≡ Some o → (one t has).parts.answer ≡ AnswerOk
  ok_along t has [] o all in_us e = absurd (omega (arith, in_us.1))
  ok_along t has (u ∷ us) o all in_us e = by_case (λ g h. ok_along t has us o (λ w i. all w (contains_more u w us i)) g h) (cases_eq u t)
    where
      k : ℕ
      k = key_of (made.client t) (made.place t)

      behind : u ≢ t → Contains us t
      behind differ = ⊎_elim (λ same. absurd (differ same)) (λ h. h) (contains_cases u t us in_us)

      by_case : (Contains us t → values_after (Some None) (on_key k (calls_in_order us K)) ≡ Some o → (one t has).parts.answer ≡ AnswerOk) → (u ≡ t) ⊎ (u ≢ t) → (one t has).parts.answer ≡ AnswerOk
      by_case ih (inl same) =
          own_ok number (made.client t) (made.place t) (calls_of t K) (calls_in_order us K) (one t has).parts o (room_of t (one t has))
          (subst (λ x. values_after (Some None) (on_key k (calls_of x K ++ calls_in_order us K)) ≡ Some o) same e)
      by_case ih (inr differ) =
          let also = all u (contains_first u us) in
          let split : values_after (Some None) (on_key k (calls_of u K) ++ on_key k (calls_in_order us K)) ≡ Some o =
          subst (λ l. values_after (Some None) l ≡ Some o) (filter-append (λ p. call_key p.0 == k) (calls_of u K) (calls_in_order us K)) e in
          let mid = between None o (on_key k (calls_of u K)) (on_key k (calls_in_order us K)) split in
          let none = all_leave (on_key k (calls_of u K)) mid.0 (other_leaves number (made.client u) (made.place u) k (calls_of u K) (one u also).parts (other t u has also differ)) mid.1.0 in
          ih (behind differ) (subst (λ x. values_after (Some x) (on_key k (calls_in_order us K)) ≡ Some o) none mid.1.1)

  pub have_run : (m : Map) → serial empty_map ts K ≡ Some m → HaveRun clients size number K ts
  have_run m defined = record {
    client = made.client;
    place = made.place;
    in_order = λ c. made.in_order c ∙ ap (range_with_len 0) (count_told (calls_at number c) (transactions_of clients size c) 0);
    generated = λ t has. record { calls_are = (one t has).are; inserted = inserted t has };
  }
    where
      inserted : (t : ℕ) → Contains ts t → AllByRecursion IsInserted (calls_of t K)
      inserted t has =
          let all = sym (serial-calls empty_map ts K) ∙ defined in
          let k = key_of (made.client t) (made.place t) in
          let ok = ok_along t has ts (m k) (λ u h. h) has (calls_after-each empty_map m (calls_in_order ts K) all k) in
          subst (AllByRecursion IsInserted) (sym (one t has).parts.is) (ok, all_inserted (one t has).parts.rest (one t has).parts.leaves)
