-- What the lines of a round acknowledge stands in its log.
use Rattle.std.proofs.Common.{◌≡◌, ℕ, zero, suc, ◌+◌, ◌<◌, ◌≤◌, ◌==◌, Bool, true, false, List, [], ◌∷◌, ◌++◌, length, take, Option, Some, None, refl, sym, ◌∙◌, ap, subst, arith, inl, inr, ⊎_elim, append-nil, append_assoc}
use Rattle.std.specs.Prelude.{◌⊎◌, Contains, filter_map, if◌then◌else◌, nat_lt, option_to_list, slice_get}
use Rattle.std.specs.List.{cons_option}
use Rattle.std.proofs.lemmas.Bool.{cases_eq, eq-eqb, eqb-false, ne_eqb, ltb-true}
use Rattle.std.proofs.lemmas.List.{take_all, take-append-le}
use Rattle.std.proofs.lemmas.List.Concat.{flat_map-cons}
use Rattle.std.proofs.lemmas.List.Elements.{Contains-append_cases, Contains-append_left, Contains-append_right, filter_map-append}
use Rattle.dali_runs.proofs.CountsLemmas.Begins.{one_begin}
use Rattle.dali_lists.proofs.Members.{contains_first, contains_more, contains_none}
use Rattle.dali_geometry.specs.Sizes.{Sizes}
use Rattle.dali_record.specs.declared.records.Call.{Call}
use Rattle.dali_record.specs.declared.records.Answer.{Answer}
use Rattle.dali_record.specs.declared.records.Record.{Record}
use Rattle.dali_record.specs.declared.records.Record.TheVariants.{Begin, Done, Commit, Ended}
use Rattle.dali_record.specs.Legal.{IsLegalFor}
use Rattle.dali_record.specs.Log.{call_by, calls_of}
use Rattle.dali_runs.specs.State.{CoreState, stable}
use Rattle.dali_transcripts.specs.Words.{Act, Said, Begun, Answered, CommitOk, AbortOk, Aborted, Refused, Commits as CommitAct, StoreFailed}
use Rattle.dali_transcripts.specs.World.{Deed, Logs, World, logged_by, log_of}
use Rattle.dali_transcripts.specs.Moves.{Receipt}
use Rattle.dali_transcripts.specs.Transcripts.{IsTranscript, Told, EachTells, commit_line, count_with, deeds_of, is_among, is_own, line_told, lines_of_records, txn_behind}
use Rattle.dali_transcripts.specs.Laws.{AscendFrom, IsIn}
use Rattle.dali_transcripts.proofs.Lists.{all_get}
use Rattle.dali_transcripts.proofs.Matches.{lines_are_records}
use Rattle.dali_transcripts.proofs.Owned.{own_ascend, owned_by_one}
use Rattle.dali_served.specs.Oks.{Transaction, begun, with_call, answered, oks_in, oks_of, StandsIn, OksStand}
use Rattle.dali_served.proofs.Law.{none_of}
use Rattle.dali_served.proofs.Owners.{answer_in, answers_owned}
use Rattle.dali_served.proofs.OwnTxns.{InTxn, in_parts, own_in}
use Rattle.dali_served.proofs.Spans.{calls_from_begin, calls_till_commit}

-- ---- the lines that tell records are enough
told_oks : (o : Option Transaction) (lines : List Said) → oks_in o lines ≡ oks_in o (filter_map line_told lines)
told_oks o [] = refl
told_oks o (Begun t ∷ lines) = told_oks (Some (begun t)) lines
told_oks o (Answered call a ∷ lines) = told_oks (answered o call a) lines
told_oks o (CommitOk ∷ lines) = ap (λ l. option_to_list o ++ l) (told_oks None lines)
told_oks o (AbortOk ∷ lines) = told_oks o lines
told_oks o (Aborted ∷ lines) = told_oks o lines
told_oks o (Refused CommitAct StoreFailed ∷ lines) = told_oks o lines
told_oks o (line ∷ lines) = told_oks o lines

-- ---- among the records of a client
-- its begin, what stands between, and its commit, which is one of the first f records
record Spans (f : ℕ) (xs : List Receipt) (x : Transaction) : Type 0 where
  front : List Receipt
  begin : ℕ
  middle : List Receipt
  commit : ℕ
  behind : List Receipt
  is : xs ≡ front ++ (begin, Logs (Begin x.number)) ∷ (middle ++ (commit, Logs (Commit x.number)) ∷ behind)
  calls : filter_map (answer_in x.number) middle ≡ x.calls
  flushed : commit < f

-- the one that was under way before them
record Ends (f : ℕ) (xs : List Receipt) (o : Option Transaction) (x : Transaction) : Type 0 where
  was : Transaction
  there : o ≡ Some was
  number : was.number ≡ x.number
  middle : List Receipt
  commit : ℕ
  behind : List Receipt
  is : xs ≡ middle ++ (commit, Logs (Commit x.number)) ∷ behind
  calls : was.calls ++ filter_map (answer_in x.number) middle ≡ x.calls
  flushed : commit < f

abbrev Either : ℕ → List Receipt → Option Transaction → Transaction → Type 0
Either f xs o x = Spans f xs x ⊎ Ends f xs o x

-- the transaction that the client is in is the one under way
abbrev Agree : Option Transaction → Option ℕ → Type 0
Agree o in_txn = (t : ℕ) → in_txn ≡ Some t → (y : Transaction) × (o ≡ Some y) × (y.number ≡ t)

more_spans : (f : ℕ) (r : Receipt) (xs : List Receipt) (x : Transaction) → Spans f xs x → Spans f (r ∷ xs) x
more_spans f r xs x s = record { front = r ∷ s.front; begin = s.begin; middle = s.middle; commit = s.commit; behind = s.behind; is = ap (λ l. r ∷ l) s.is; calls = s.calls; flushed = s.flushed }

more_ends : (f : ℕ) (r : Receipt) (xs : List Receipt) (o : Option Transaction) (x : Transaction) → ((t : ℕ) → answer_in t r ≡ None) → Ends f xs o x → Ends f (r ∷ xs) o x
more_ends f r xs o x none e = record {
  was = e.was;
  there = e.there;
  number = e.number;
  middle = r ∷ e.middle;
  commit = e.commit;
  behind = e.behind;
  is = ap (λ l. r ∷ l) e.is;
  calls = ap (λ (q : Option (Call × Answer)). e.was.calls ++ cons_option q (filter_map (answer_in x.number) e.middle)) (none x.number) ∙ e.calls;
  flushed = e.flushed;
}

-- one that neither begins, answers nor commits
more : (f : ℕ) (r : Receipt) (xs : List Receipt) (o : Option Transaction) (x : Transaction) → ((t : ℕ) → answer_in t r ≡ None) → Either f xs o x → Either f (r ∷ xs) o x
more f r xs o x none (inl s) = inl (more_spans f r xs x s)
more f r xs o x none (inr e) = inr (more_ends f r xs o x none e)

after_begin : (f n t : ℕ) (xs : List Receipt) (o : Option Transaction) (x : Transaction) → Either f xs (Some (begun t)) x → Either f ((n, Logs (Begin t)) ∷ xs) o x
after_begin f n t xs o x (inl s) = inl (more_spans f (n, Logs (Begin t)) xs x s)
after_begin f n t xs o x (inr e) =
    let same : begun t ≡ e.was = cc (e.there) in
    let number : t ≡ x.number = ap (λ (y : Transaction). y.number) same ∙ e.number in
    let none : [] ≡ e.was.calls = ap (λ (y : Transaction). y.calls) same in
    inl (record {
      front = [];
      begin = n;
      middle = e.middle;
      commit = e.commit;
      behind = e.behind;
      is = ap (λ (u : ℕ). (n, Logs (Begin u)) ∷ xs) number ∙ ap (λ l. (n, Logs (Begin x.number)) ∷ l) e.is;
      calls = ap (λ l. l ++ filter_map (answer_in x.number) e.middle) none ∙ e.calls;
      flushed = e.flushed;
    })

after_answer : (f n t : ℕ) (call : Call) (a : Answer) (xs : List Receipt) (y x : Transaction) → y.number ≡ t → Either f xs (answered (Some y) call a) x → Either f ((n, Logs (Done t call a)) ∷ xs) (Some y) x
after_answer f n t call a xs y x own (inl s) = inl (more_spans f (n, Logs (Done t call a)) xs x s)
after_answer f n t call a xs y x own (inr e) =
    let same : with_call y call a ≡ e.was = cc (e.there) in
    let number : y.number ≡ x.number = ap (λ (z : Transaction). z.number) same ∙ e.number in
    let calls : y.calls ++ (call, a) ∷ [] ≡ e.was.calls = ap (λ (z : Transaction). z.calls) same in
    let mine : (t == x.number) ≡ true = eq-eqb t x.number (sym own ∙ number) in
    let here : filter_map (answer_in x.number) ((n, Logs (Done t call a)) ∷ e.middle) ≡ (call, a) ∷ filter_map (answer_in x.number) e.middle = rw mine refl in
    inr (record {
      was = y;
      there = refl;
      number = number;
      middle = (n, Logs (Done t call a)) ∷ e.middle;
      commit = e.commit;
      behind = e.behind;
      is = ap (λ l. (n, Logs (Done t call a)) ∷ l) e.is;
      calls =
          ap (λ l. y.calls ++ l) here
          ∙ (sym (append_assoc y.calls ((call, a) ∷ []) (filter_map (answer_in x.number) e.middle)) ∙ (ap (λ l. l ++ filter_map (answer_in x.number) e.middle) calls ∙ e.calls));
      flushed = e.flushed;
    })

none_ends : {A : Type 0} (f : ℕ) (xs : List Receipt) (x : Transaction) → Ends f xs None x → A
none_ends f xs x e = absurd (cc (e.there))

-- a commit that is one of the first f records
after_ok : (f n t : ℕ) (xs : List Receipt) (o : Option Transaction) (x : Transaction) → Agree o (Some t) → n < f → (o ≡ Some x) ⊎ Either f xs None x → Either f ((n, Logs (Commit t)) ∷ xs) o x
after_ok f n t xs o x agree lt (inl same) =
    let one = agree t refl in
    let is : one.0 ≡ x = cc (sym one.1 ∙ same) in
    let number : t ≡ x.number = sym one.2 ∙ ap (λ (z : Transaction). z.number) is in
    inr (record { was = x; there = same; number = refl; middle = []; commit = n; behind = xs; is = ap (λ (u : ℕ). (n, Logs (Commit u)) ∷ xs) number; calls = append-nil x.calls; flushed = lt })
after_ok f n t xs o x agree lt (inr (inl s)) = inl (more_spans f (n, Logs (Commit t)) xs x s)
after_ok f n t xs o x agree lt (inr (inr e)) = none_ends f xs x e

in_first : (o : Option Transaction) (x : Transaction) → Contains (option_to_list o) x → o ≡ Some x
in_first None x has = absurd (contains_none x has)
in_first (Some y) x (zero, within, is) = ap (λ (z : Transaction). Some z) is
in_first (Some y) x (suc i, within, is) = absurd (omega (arith, within))

none_agrees : (o : Option Transaction) → Agree o None
none_agrees o t e = absurd cc

begun_agrees : (t : ℕ) → Agree (Some (begun t)) (Some t)
begun_agrees t u e = (begun t, refl, cc (e))

answered_agrees : (o : Option Transaction) (in_txn : Option ℕ) (call : Call) (a : Answer) → Agree o in_txn → Agree (answered o call a) in_txn
answered_agrees o in_txn call a agree t e =
    let one = agree t e in (with_call one.0 call a, ap (λ q. answered q call a) one.1, one.2)

skip_ended : (o : Option Transaction) (b : Bool) (lines : List Said) → oks_in o (option_to_list (if b then Some Aborted else None) ++ lines) ≡ oks_in o lines
skip_ended o true lines = refl
skip_ended o false lines = refl

module _ (f : ℕ) where
  abbrev Acks : Option Transaction → Option ℕ → List Receipt → Transaction → Type 0
  Acks o in_txn xs x = Contains (oks_in o (lines_of_records f in_txn xs)) x

  each : (o : Option Transaction) (in_txn : Option ℕ) (xs : List Receipt) → Agree o in_txn → InTxn in_txn xs → (x : Transaction) → Acks o in_txn xs x → Either f xs o x
  each o in_txn [] agree own x has = absurd (contains_none x has)
  each o in_txn ((n, Logs (Begin t)) ∷ xs) agree own x has = after_begin f n t xs o x (each (Some (begun t)) (Some t) xs (begun_agrees t) own.1 x has)
  each o in_txn ((n, Logs (Done t call a)) ∷ xs) agree own x has =
      let one = agree t own.0 in
      let later = each (answered o call a) in_txn xs (answered_agrees o in_txn call a agree) own.1 x has in
      subst (λ q. Either f ((n, Logs (Done t call a)) ∷ xs) q x) (sym one.1) (after_answer f n t call a xs one.0 x one.2 (subst (λ q. Either f xs (answered q call a) x) one.1 later))
  each o in_txn ((n, Logs (Commit t)) ∷ xs) agree own x has =
      by_test (λ h. each None None xs (none_agrees None) own.1 x h) (λ h. each o None xs (none_agrees o) own.1 x h) (nat_lt n f) refl has
    where
      by_test : (Acks None None xs x → Either f xs None x) → (Acks o None xs x → Either f xs o x) → (b : Bool) → nat_lt n f ≡ b → Contains (oks_in o (commit_line b ∷ lines_of_records f None xs)) x → Either f ((n, Logs (Commit t)) ∷ xs) o x
      by_test closed still true e h =
          after_ok f n t xs o x (subst (Agree o) own.0 agree) (ltb-true n f e)
          (⊎_elim (λ here. inl (in_first o x here)) (λ later. inr (closed later)) (Contains-append_cases (option_to_list o) (oks_in None (lines_of_records f None xs)) x h))
      by_test closed still false e h = more f (n, Logs (Commit t)) xs o x (λ u. refl) (still h)
  each o in_txn ((n, Logs (Ended t)) ∷ xs) agree own x has =
      more f (n, Logs (Ended t)) xs o x (λ u. refl) (each o in_txn xs agree own.1 x (subst (λ l. Contains l x) (skip_ended o (is_own t in_txn) (lines_of_records f in_txn xs)) has))
  each o in_txn ((n, Logs r) ∷ xs) agree own x has = more f (n, Logs r) xs o x (λ u. refl) (each o in_txn xs agree own.1 x has)
  each o in_txn (r ∷ xs) agree own x has = more f r xs o x (λ u. refl) (each o in_txn xs agree own.1 x has)

-- of a client that is done
client_spans : (w : World) (c : ℕ) (acts : List Act) (lines : List Said) (did : List Receipt) → IsTranscript w c acts lines did → (x : Transaction) → Contains (oks_in None lines) x → Spans (stable w.core) did x
client_spans w c acts lines did t x has =
    let told : oks_in None lines ≡ oks_in None (lines_of_records (stable w.core) None did) = told_oks None lines ∙ ap (oks_in None) (lines_are_records w c acts lines did t) in
    ⊎_elim (λ s. s) (λ e. none_ends (stable w.core) did x e) (each (stable w.core) None None did (none_agrees None) (own_in w c acts lines did t) x (subst (λ l. Contains l x) told has))

-- ---- who is never in a transaction answers no call of it
quiet : (t : ℕ) (o : Option ℕ) (xs : List Receipt) → (o ≡ Some t → ⊥) → ((k : ℕ) → Contains xs (k, Logs (Begin t)) → ⊥) → InTxn o xs → filter_map (answer_in t) xs ≡ []
quiet t o [] away none own = refl
quiet t o ((n, Logs (Begin u)) ∷ xs) away none own =
    quiet t (Some u) xs (λ e. let same : u ≡ t = cc (e) in none n (subst (λ v. Contains ((n, Logs (Begin u)) ∷ xs) (n, Logs (Begin v))) same (contains_first (n, Logs (Begin u)) xs)))
    (λ k h. none k (contains_more (n, Logs (Begin u)) (k, Logs (Begin t)) xs h)) own.1
quiet t o ((n, Logs (Done u call a)) ∷ xs) away none own =
    let other : (u == t) ≡ false = ne_eqb u t (λ e. away (own.0 ∙ ap (λ (v : ℕ). Some v) e)) in
    let here : filter_map (answer_in t) ((n, Logs (Done u call a)) ∷ xs) ≡ filter_map (answer_in t) xs = rw other refl in
    here ∙ quiet t o xs away (λ k h. none k (contains_more (n, Logs (Done u call a)) (k, Logs (Begin t)) xs h)) own.1
quiet t o ((n, Logs (Commit u)) ∷ xs) away none own = quiet t None xs (λ e. absurd (cc (e))) (λ k h. none k (contains_more (n, Logs (Commit u)) (k, Logs (Begin t)) xs h)) own.1
quiet t o ((n, Logs r) ∷ xs) away none own = quiet t o xs away (λ k h. none k (contains_more (n, Logs r) (k, Logs (Begin t)) xs h)) own.1
quiet t o (r ∷ xs) away none own = quiet t o xs away (λ k h. none k (contains_more r (k, Logs (Begin t)) xs h)) own.1

-- ---- numbers ascend
count_above : (n : ℕ) (x : Deed) → n ≤ count_with n x
count_above n (Logs x) = omega arith
count_above n _ = omega arith

all_above : (m : ℕ) (xs : List Receipt) (y : Receipt) → AscendFrom m xs → Contains xs y → m ≤ y.0
all_above m [] y up has = absurd (contains_none y has)
all_above m (x ∷ xs) y up (zero, within, is) = subst (λ (z : Receipt). m ≤ z.0) is up.0
all_above m (x ∷ xs) y up (suc i, within, is) =
    let later = all_above (count_with x.0 x.1) xs y up.1 (i, omega (arith, within), is) in
    let above = count_above x.0 x.1 in omega (arith, up.0, above, later)

behind_above : (m : ℕ) (xs : List Receipt) (n : ℕ) (r : Record) (ys : List Receipt) → AscendFrom m (xs ++ (n, Logs r) ∷ ys) → AscendFrom (n + 1) ys
behind_above m [] n r ys up = up.1
behind_above m (x ∷ xs) n r ys up = behind_above (count_with x.0 x.1) xs n r ys up.1

front_below : (m : ℕ) (xs : List Receipt) (n : ℕ) (d : Deed) (ys : List Receipt) (k : ℕ) (r : Record) → AscendFrom m (xs ++ (n, d) ∷ ys) → Contains xs (k, Logs r) → k < n
front_below m [] n d ys k r up has = absurd (contains_none (k, Logs r) has)
front_below m (x ∷ xs) n d ys k r up (zero, within, is) =
    let same : x ≡ (k, Logs r) = is in
    let rest : AscendFrom (k + 1) (xs ++ (n, d) ∷ ys) = subst (λ (z : Receipt). AscendFrom (count_with z.0 z.1) (xs ++ (n, d) ∷ ys)) same up.1 in
    let high = all_above (k + 1) (xs ++ (n, d) ∷ ys) (n, d) rest (Contains-append_right xs ((n, d) ∷ ys) (n, d) (contains_first (n, d) ys)) in omega (arith, high)
front_below m (x ∷ xs) n d ys k r up (suc i, within, is) = front_below (count_with x.0 x.1) xs n d ys k r up.1 (i, omega (arith, within), is)

-- ---- in the log
take_front : (xs ys : List Record) → take (length xs) (xs ++ ys) ≡ xs
take_front xs ys = take-append-le (length xs) xs ys (omega arith) ∙ take_all (length xs) xs (omega arith)

module _ (w : World) (s : Sizes) (legal : IsLegalFor s (log_of w)) where
  in_log : (c n : ℕ) (r : Record) → Contains (deeds_of w c) (n, Logs r) → slice_get (log_of w) n ≡ Some r
  in_log c n r has = all_get (IsIn (log_of w)) (deeds_of w c) (n, Logs r) (own_ascend w c).logged has

  stands : (own : (d : ℕ) → InTxn None (deeds_of w d)) (c : ℕ) (x : Transaction) (p : Spans (stable w.core) (deeds_of w c) x) → StandsIn (log_of w) p.commit x
  stands own c x p = record { commit = commit; calls = sym (calls_till_commit s (log_of w) p.commit (length (log_of w) + suc p.commit) t legal commit (omega arith)) ∙ (ap (calls_of t) (take_all (length (log_of w) + suc p.commit) (log_of w) (omega arith)) ∙ all) }
    where
      t : ℕ
      t = x.number

      did : List Receipt
      did = deeds_of w c

      first : Receipt
      first = (p.begin, Logs (Begin t))

      last : Receipt
      last = (p.commit, Logs (Commit t))

      rest : List Receipt
      rest = p.middle ++ last ∷ p.behind

      up : AscendFrom (length w.before) (p.front ++ first ∷ rest)
      up = subst (AscendFrom (length w.before)) p.is (own_ascend w c).ascend

      there : (y : Receipt) → Contains (p.front ++ first ∷ rest) y → Contains did y
      there y h = subst (λ l. Contains l y) (sym p.is) h

      begins : Contains did first
      begins = there first (Contains-append_right p.front (first ∷ rest) first (contains_first first rest))

      in_rest : (y : Receipt) → Contains rest y → Contains did y
      in_rest y h = there y (Contains-append_right p.front (first ∷ rest) y (contains_more first y rest h))

      commit : slice_get (log_of w) p.commit ≡ Some (Commit t)
      commit = in_log c p.commit (Commit t) (in_rest last (Contains-append_right p.middle (last ∷ p.behind) last (contains_first last p.behind)))

      one : (d k : ℕ) → Contains (deeds_of w d) (k, Logs (Begin t)) → k ≡ p.begin
      one d k h = one_begin s (log_of w) k p.begin t legal.rules (in_log d k (Begin t) h) (in_log c p.begin (Begin t) begins)

      others : (d : ℕ) → (d == c) ≡ false → filter_map (answer_in t) (deeds_of w d) ≡ []
      others d away = quiet t None (deeds_of w d) (λ e. absurd (cc (e)))
          (λ k h. eqb-false d c away (owned_by_one d c (length w.before) w.happened p.begin (Begin t) (Begin t) (subst (λ n. Contains (deeds_of w d) (n, Logs (Begin t))) (one d k h) h) begins)) (own d)

      parts : InTxn None p.front × InTxn (txn_behind None p.front) (first ∷ rest)
      parts = in_parts None p.front (first ∷ rest) (subst (InTxn None) p.is (own c))

      tail : InTxn (txn_behind (Some t) p.middle) (last ∷ p.behind)
      tail = (in_parts (Some t) p.middle (last ∷ p.behind) parts.1.1).1

      front_quiet : filter_map (answer_in t) p.front ≡ []
      front_quiet = quiet t None p.front (λ e. absurd (cc (e)))
          (λ k h. let below = front_below (length w.before) p.front p.begin (Logs (Begin t)) rest k (Begin t) up h in let same = one c k (there (k, Logs (Begin t)) (Contains-append_left p.front (first ∷ rest) (k, Logs (Begin t)) h)) in omega (arith, below, same)) parts.0

      behind_quiet : filter_map (answer_in t) p.behind ≡ []
      behind_quiet = quiet t None p.behind (λ e. absurd (cc (e)))
          (λ k h.
          let later : Contains rest (k, Logs (Begin t)) = Contains-append_right p.middle (last ∷ p.behind) (k, Logs (Begin t)) (contains_more last (k, Logs (Begin t)) p.behind h) in
          let above = all_above (p.begin + 1) rest (k, Logs (Begin t)) (behind_above (length w.before) p.front p.begin (Begin t) rest up) later in
          let same = one c k (in_rest (k, Logs (Begin t)) later) in omega (arith, above, same))
          tail.1

      mine : filter_map (answer_in t) did ≡ x.calls
      mine =
          ap (filter_map (answer_in t)) p.is
          ∙ (filter_map-append (answer_in t) p.front (first ∷ rest)
          ∙ (ap (λ l. l ++ filter_map (answer_in t) rest) front_quiet
          ∙ (filter_map-append (answer_in t) p.middle (last ∷ p.behind)
          ∙ (ap (λ l. filter_map (answer_in t) p.middle ++ l) behind_quiet ∙ (append-nil (filter_map (answer_in t) p.middle) ∙ p.calls)))))

      before : calls_of t w.before ≡ []
      before =
          ap (calls_of t) (sym (take_front w.before (logged_by w.happened)))
          ∙ calls_from_begin s (log_of w) p.begin (length w.before) t legal (in_log c p.begin (Begin t) begins)
          (all_above (length w.before) did first (own_ascend w c).ascend begins)

      all : calls_of t (log_of w) ≡ x.calls
      all =
          filter_map-append (call_by t) w.before (logged_by w.happened)
          ∙ (ap (λ l. l ++ calls_of t (logged_by w.happened)) before ∙ (answers_owned t c (length w.before) w.happened others ∙ mine))

  -- ---- all clients of a round
  abbrev Stands : Transaction → Type 0
  Stands x = (n : ℕ) × (n < stable w.core) × StandsIn (log_of w) n x

  all_stand : (own : (d : ℕ) → InTxn None (deeds_of w d)) (blocks : List Told) (lines : List (List Said)) → EachTells true w blocks lines → (x : Transaction) → Contains (oks_of lines) x → Stands x
  all_stand own [] [] tells x has = absurd (contains_none x has)
  all_stand own [] (said ∷ more) tells x has = absurd tells
  all_stand own (b ∷ blocks) [] tells x has = absurd tells
  all_stand own (b ∷ blocks) (said ∷ more) tells x has =
      ⊎_elim
      (λ here. let p = client_spans w b.client b.acts said (deeds_of w b.client) tells.0 x here in (p.commit, p.flushed, stands own b.client x p))
      (λ later. all_stand own blocks more tells.1 x later)
      (Contains-append_cases (oks_in None said) (oks_of more) x (subst (λ l. Contains l x) (flat_map-cons (oks_in None) said more) has))

-- ---- each client, and no one else
among : (w : World) (bs : List Told) (ls : List (List Said)) → EachTells true w bs ls → (c : ℕ) → is_among bs c ≡ true → InTxn None (deeds_of w c)
among w [] [] tells c is = absurd cc
among w [] (lines ∷ ls) tells c is = absurd tells
among w (b ∷ bs) [] tells c is = absurd tells
among w (b ∷ bs) (lines ∷ ls) tells c is = by_test (among w bs ls tells.1 c) (b.client == c) refl is
  where
    by_test : (is_among bs c ≡ true → InTxn None (deeds_of w c)) → (x : Bool) → (b.client == c) ≡ x → (if x then true else is_among bs c) ≡ true → InTxn None (deeds_of w c)
    by_test ih true e is = subst (λ d. InTxn None (deeds_of w d)) (Rattle.std.proofs.lemmas.Bool.eqb-true b.client c e) (own_in w b.client b.acts lines (deeds_of w b.client) tells.0)
    by_test ih false e is = ih is

pub oks_stand : OksStand
oks_stand precheck before old new blocks lines receipts s round legal x has =
    let w = round.world in
    let all = all_stand w s legal (λ d. own d) blocks lines round.transcripts.each x has in
    (all.0, subst (λ (k : CoreState). all.0 < stable k) round.core_is all.1, all.2)
  where
    by_test : (c : ℕ) (b : Bool) → is_among blocks c ≡ b → InTxn None (deeds_of round.world c)
    by_test c true e = among round.world blocks lines round.transcripts.each c e
    by_test c false e = subst (InTxn None) (sym (none_of blocks c (length round.world.before) round.world.happened round.transcripts.owners e)) tt

    own : (c : ℕ) → InTxn None (deeds_of round.world c)
    own c = by_test c (is_among blocks c) refl
