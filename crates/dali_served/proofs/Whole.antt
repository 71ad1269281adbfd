-- What the deeds of a client that made whole transactions have among them.
--     begun_in, committed_in xs    the transactions whose Begin or Commit it logged
--     IsOfThese ts x       a record of one of these transactions
--     answers_insert x     the answer of an insert
use Rattle.std.proofs.Common.{◌≡◌, ℕ, suc, ◌+◌, Bool, true, false, cond, List, [], ◌∷◌, ◌++◌, length, Option, Some, None, refl, sym, ◌∙◌, ap, subst, arith}
use Rattle.std.specs.Prelude.{◌==◌, Contains, filter, filter_map, flat_map}
use Rattle.std.specs.List.{AllByRecursion}
use Rattle.std.proofs.lemmas.Bool.{eqb-true}
use Rattle.std.proofs.lemmas.List.{length-append}
use Rattle.std.proofs.lemmas.List.Concat.{flat_map-cons}
use Rattle.std.proofs.lemmas.List.Elements.{filter-append, filter_map-append}
use Rattle.dali_lists.proofs.Members.{all_append, all_map, contains_first}
use Rattle.dali_record.specs.declared.records.Answer.{Answer}
use Rattle.dali_record.specs.declared.records.Call.{Call}
use Rattle.dali_record.specs.declared.records.Record.TheVariants.{Begin, Forward, Back, Solo, Done, Commit, Ended}
use Rattle.dali_history.specs.Room.Room.{is_insert}
use Rattle.dali_transcripts.specs.World.{Logs}
use Rattle.dali_transcripts.specs.Moves.{Receipt}
use Rattle.dali_served.specs.Steady.{is_of}
use Rattle.dali_served.specs.Free.{inserts_in}
use Rattle.dali_served.proofs.Calm.{OwnDeed, OwnEnd, Asked, Made}

abbrev pub begin_in : Receipt → Option ℕ
begin_in (n, Logs (Begin t)) = Some t
begin_in x = None

abbrev pub commit_in : Receipt → Option ℕ
commit_in (n, Logs (Commit t)) = Some t
commit_in x = None

abbrev pub begun_in : List Receipt → List ℕ
begun_in xs = filter_map begin_in xs

abbrev pub committed_in : List Receipt → List ℕ
committed_in xs = filter_map commit_in xs

abbrev pub answers_insert : Receipt → Bool
answers_insert (n, Logs (Done t call a)) = is_insert call
answers_insert x = false

abbrev pub insert_answers : List Receipt → ℕ
insert_answers xs = length (filter answers_insert xs)

abbrev pub IsOfThese : List ℕ → Receipt → Type 0
IsOfThese ts (n, Logs r) = (t : ℕ) → is_of t r ≡ true → Contains ts t
IsOfThese ts x = Unit {0}

-- ---- pieces that have none
record HasNone (xs : List Receipt) : Type 0 where
  begun : begun_in xs ≡ []
  committed : committed_in xs ≡ []

none_append : (xs ys : List Receipt) → HasNone xs → HasNone ys → HasNone (xs ++ ys)
none_append xs ys h g = record {
  begun = filter_map-append begin_in xs ys ∙ (ap (λ l. l ++ begun_in ys) h.begun ∙ g.begun);
  committed = filter_map-append commit_in xs ys ∙ (ap (λ l. l ++ committed_in ys) h.committed ∙ g.committed);
}

own_none : (t : ℕ) (xs : List Receipt) → AllByRecursion (OwnDeed t) xs → HasNone xs × (insert_answers xs ≡ 0)
own_none t [] h = (record { begun = refl; committed = refl }, refl)
own_none t ((n, Logs (Forward u b)) ∷ xs) h = let more = own_none t xs h.1 in (record { begun = more.0.begun; committed = more.0.committed }, more.1)
own_none t ((n, Logs (Back u b)) ∷ xs) h = let more = own_none t xs h.1 in (record { begun = more.0.begun; committed = more.0.committed }, more.1)
own_none t ((n, Logs r) ∷ xs) h = absurd h.0
own_none t (x ∷ xs) h = let more = own_none t xs h.1 in (record { begun = more.0.begun; committed = more.0.committed }, more.1)

end_none : (t : ℕ) (xs : List Receipt) → AllByRecursion (OwnEnd t) xs → HasNone xs × (insert_answers xs ≡ 0)
end_none t [] h = (record { begun = refl; committed = refl }, refl)
end_none t ((n, Logs (Solo u p b)) ∷ xs) h = let more = end_none t xs h.1 in (record { begun = more.0.begun; committed = more.0.committed }, more.1)
end_none t ((n, Logs (Ended u)) ∷ xs) h = let more = end_none t xs h.1 in (record { begun = more.0.begun; committed = more.0.committed }, more.1)
end_none t ((n, Logs r) ∷ xs) h = absurd h.0
end_none t (x ∷ xs) h = let more = end_none t xs h.1 in (record { begun = more.0.begun; committed = more.0.committed }, more.1)

-- ---- its own
same_as : (t u v : ℕ) → u ≡ t → (u == v) ≡ true → v ≡ t
same_as t u v e f = sym (eqb-true u v f) ∙ e

own_of : (ts : List ℕ) (t : ℕ) → Contains ts t → (x : Receipt) → OwnDeed t x → IsOfThese ts x
own_of ts t has (n, Logs (Forward u b)) h = λ v is. subst (Contains ts) (sym (same_as t u v h is)) has
own_of ts t has (n, Logs (Back u b)) h = λ v is. subst (Contains ts) (sym (same_as t u v h is)) has
own_of ts t has (n, Logs r) h = absurd h
own_of ts t has x h = tt

end_of : (ts : List ℕ) (t : ℕ) → Contains ts t → (x : Receipt) → OwnEnd t x → IsOfThese ts x
end_of ts t has (n, Logs (Solo u p b)) h = λ v is. absurd cc
end_of ts t has (n, Logs (Ended u)) h = λ v is. subst (Contains ts) (sym (same_as t u v h is)) has
end_of ts t has (n, Logs r) h = absurd h
end_of ts t has x h = tt

more_of : (us : List ℕ) (t : ℕ) (x : Receipt) → IsOfThese us x → IsOfThese (t ∷ us) x
more_of us t (n, Logs r) h = λ v is. let there = h v is in (suc there.0, omega (arith, there.1), there.2)
more_of us t x h = tt

insert_one : (n t : ℕ) (call : Call) (a : Answer) (xs : List Receipt) → insert_answers ((n, Logs (Done t call a)) ∷ xs) ≡ length (cond (is_insert call) (call ∷ []) []) + insert_answers xs
insert_one n t call a xs = by_test (is_insert call)
  where
    by_test : (b : Bool) → length (cond b ((n, Logs (Done t call a)) ∷ filter answers_insert xs) (filter answers_insert xs)) ≡ length (cond b (call ∷ []) []) + insert_answers xs
    by_test true = omega arith
    by_test false = omega arith

calls_one : (call : Call) (cs : List Call) → length (filter is_insert (call ∷ cs)) ≡ length (cond (is_insert call) (call ∷ []) []) + length (filter is_insert cs)
calls_one call cs = by_test (is_insert call)
  where
    by_test : (b : Bool) → length (cond b (call ∷ filter is_insert cs) (filter is_insert cs)) ≡ length (cond b (call ∷ []) []) + length (filter is_insert cs)
    by_test true = omega arith
    by_test false = omega arith

counts_append : (xs ys : List Receipt) → insert_answers (xs ++ ys) ≡ insert_answers xs + insert_answers ys
counts_append xs ys = ap length (filter-append answers_insert xs ys) ∙ length-append (filter answers_insert xs) (filter answers_insert ys)

record IsAsked (t : ℕ) (cs : List Call) (xs : List Receipt) : Type 0 where
  none : HasNone xs
  count : insert_answers xs ≡ length (filter is_insert cs)
  of : (ts : List ℕ) → Contains ts t → AllByRecursion (IsOfThese ts) xs

is_asked : (t : ℕ) (cs : List Call) (xs : List Receipt) → Asked t cs xs → IsAsked t cs xs
is_asked t [] xs h = subst (IsAsked t []) (sym h) (record { none = record { begun = refl; committed = refl }; count = refl; of = λ ts has. tt })
is_asked t (call ∷ cs) xs (work, later, n, a, own, asked, is) =
    let more = is_asked t cs later asked in
    let first = own_none t work own in
    let done : HasNone ((n, Logs (Done t call a)) ∷ later) = record { begun = more.none.begun; committed = more.none.committed } in
    subst (IsAsked t (call ∷ cs)) (sym is) (record {
      none = none_append work ((n, Logs (Done t call a)) ∷ later) first.0 done;
      count = omega (arith, counts_append work ((n, Logs (Done t call a)) ∷ later), first.1, insert_one n t call a later, more.count, calls_one call cs);
      of = λ ts has. all_append (IsOfThese ts) work ((n, Logs (Done t call a)) ∷ later) (all_map (OwnDeed t) (IsOfThese ts) (own_of ts t has) work own) ((λ v is_v. subst (Contains ts) (eqb-true t v is_v) has), more.of ts has);
    })

pub record IsMade (css : List (List Call)) (xs : List Receipt) : Type 0 where
  pub closed : begun_in xs ≡ committed_in xs
  pub count : insert_answers xs ≡ inserts_in css
  pub of : AllByRecursion (IsOfThese (begun_in xs)) xs

pub is_made : (css : List (List Call)) (xs : List Receipt) → Made css xs → IsMade css xs
is_made [] xs h = subst (IsMade []) (sym h) (record { closed = refl; count = refl; of = tt })
is_made (cs ∷ css) xs (t, n, m, asked, end, later, are, ended, made, is) =
    let whole : List Receipt = (n, Logs (Begin t)) ∷ (asked ++ ((m, Logs (Commit t)) ∷ (end ++ later))) in
    let calls = is_asked t cs asked are in
    let tail = end_none t end ended in
    let more = is_made css later made in
    let begun : begun_in whole ≡ t ∷ begun_in later =
    ap (λ l. t ∷ l) (filter_map-append begin_in asked ((m, Logs (Commit t)) ∷ (end ++ later))
    ∙ (ap (λ l. l ++ begun_in (end ++ later)) calls.none.begun ∙ (filter_map-append begin_in end later ∙ ap (λ l. l ++ begun_in later) tail.0.begun))) in
    let committed : committed_in whole ≡ t ∷ committed_in later =
    filter_map-append commit_in asked ((m, Logs (Commit t)) ∷ (end ++ later))
    ∙ (ap (λ l. l ++ t ∷ committed_in (end ++ later)) calls.none.committed ∙ ap (λ l. t ∷ l) (filter_map-append commit_in end later ∙ ap (λ l. l ++ committed_in later) tail.0.committed)) in
    let here : Contains (t ∷ begun_in later) t = contains_first t (begun_in later) in
    let told : inserts_in (cs ∷ css) ≡ length (filter is_insert cs) + inserts_in css =
    ap (λ l. length (filter is_insert l)) (flat_map-cons (λ (l : List Call). l) cs css) ∙ (ap length (filter-append is_insert cs (flat_map (λ l. l) css)) ∙ length-append (filter is_insert cs) (filter is_insert (flat_map (λ l. l) css))) in
    let these : AllByRecursion (IsOfThese (t ∷ begun_in later)) whole = (
      (λ v is_v. absurd cc),
      all_append (IsOfThese (t ∷ begun_in later)) asked ((m, Logs (Commit t)) ∷ (end ++ later)) (calls.of (t ∷ begun_in later) here) (
        (λ v is_v. subst (Contains (t ∷ begun_in later)) (eqb-true t v is_v) here),
        all_append (IsOfThese (t ∷ begun_in later)) end later (all_map (OwnEnd t) (IsOfThese (t ∷ begun_in later)) (end_of (t ∷ begun_in later) t here) end ended)
            (all_map (IsOfThese (begun_in later)) (IsOfThese (t ∷ begun_in later)) (more_of (begun_in later) t) later more.of),
      ),
    ) in
    subst (IsMade (cs ∷ css)) (sym is) (record {
      closed = begun ∙ (ap (λ l. t ∷ l) more.closed ∙ sym committed);
      count = omega (arith, counts_append asked ((m, Logs (Commit t)) ∷ (end ++ later)), calls.count, counts_append end later, tail.1, more.count, told);
      of = subst (λ ts. AllByRecursion (IsOfThese ts) whole) (sym begun) these;
    })
