-- The front of a log, batch by batch, and where it ends.
use Rattle.std.proofs.Common.{◌≡◌, ◌⊎◌, inl, inr, ℕ, ◌+◌, ◌≤◌, ◌<◌, List, [], ◌∷◌, ◌++◌, length, get_or, take, drop, refl, sym, ◌∙◌, ap, subst, arith, append_assoc, length-append, length-drop, take-append-drop}
use Rattle.std.specs.List.{AllByRecursion}
use Rattle.std.proofs.lemmas.List.{append-nil, flat_map_more, take_at, drop_at, drop-drop, get_or-drop, length-take-le}
use Rattle.dali_lists.proofs.Members.{all_append, all_right}
use Rattle.dali_record.specs.declared.records.Record.{Record}
use Rattle.dali_record.specs.declared.records.Record.TheVariants.{Format}
use Rattle.dali_record.specs.Spelling.{spelling, CanBeSpelled}
use Rattle.dali_log.specs.declared.error.BatchError.{BatchError}
use Rattle.dali_log.specs.declared.error.BatchError.TheVariants.{Fault, BadLog, OutOfMemory}
use Rattle.dali_log.specs.declared.error.LogError.TheVariants.{BadLog as BadLogAt}
use Rattle.dali_log.specs.Batch.{batch, batches, IsBody, IsOpenAt, IsClosedAt, IsUnformatted}
use Rattle.dali_log.specs.Finding.{BatchAt, IsBad}
use Rattle.dali_log.specs.Errors.{log_error}
use Rattle.dali_log.specs.Log.{body_bytes, AreSpelled, bodies, records_in, HasFormat, IsFront, LogOf, NoRecordAt, BadBody, HasNoFormat, IsBadFirst, BadAt, IsRun, TailOf, BadBehind}
use Rattle.dali_log.proofs.Bytes.{length-batch, all_push}

-- the error that names a bad place
pub log_bad : (e : BatchError) (bad : ℕ) → log_error e ≡ BadLogAt bad → e ≡ BadLog bad
log_bad Fault bad e = absurd cc
log_bad (BadLog at) bad e = let same : at ≡ bad = cc in ap BadLog same
log_bad OutOfMemory bad e = absurd cc

-- ---- gates
pub open_of_batch : (bytes : List ℕ) (p : ℕ) (body : List ℕ) → BatchAt bytes p body → IsOpenAt p bytes
open_of_batch bytes p body found =
    let some : p < length bytes = omega (arith, ap length found.2, length-drop p bytes) in
    let there : get_or bytes (p + 0) 0 ≡ 165 = sym (get_or-drop p bytes 0 0) ∙ ap (λ (l : List ℕ). get_or l 0 0) found.2 in
    let here : p + 0 ≡ p = omega arith in
    (some, subst (λ (n : ℕ). get_or bytes n 0 ≡ 165) here there)

pub open_is_formatted : (bytes : List ℕ) → 2 ≤ length bytes → IsOpenAt 0 bytes → IsUnformatted bytes → ⊥
open_is_formatted bytes long gate (inl short) = omega (arith, long, short)
open_is_formatted bytes long gate (inr shut) = shut gate.1

-- a batch has its gate, four bytes and one more
pub long_batch : (bytes body : List ℕ) → BatchAt bytes 0 body → 2 ≤ length bytes
long_batch bytes body found = omega (arith, ap length found.2, length-append (batch body) found.1, length-batch body)

-- ---- fronts
pub empty_front : (bytes : List ℕ) → IsFront bytes [] 0
empty_front bytes = record { place = refl; spells = refl; sizes = tt; each = tt; first = inl refl }

pub bodies_push : (L : List (List Record)) (rs : List Record) → bodies (L ++ rs ∷ []) ≡ bodies L ++ body_bytes rs ∷ []
bodies_push [] rs = refl
bodies_push (x ∷ L) rs = ap (λ (l : List (List ℕ)). body_bytes x ∷ l) (bodies_push L rs)

pub batches_push : (bs : List (List ℕ)) (body : List ℕ) → batches (bs ++ body ∷ []) ≡ batches bs ++ batch body
batches_push bs body = sym (flat_map_more batch [] bs body)

pub all_spelled : (L : List (List Record)) (rs : List Record) → AllByRecursion AreSpelled L → AreSpelled rs → AllByRecursion AreSpelled (L ++ rs ∷ [])
all_spelled [] rs all is = (is, tt)
all_spelled (x ∷ L) rs all is = (all.0, all_spelled L rs all.1 is)

pub front_batch : (bytes : List ℕ) (p : ℕ) (body : List ℕ) → BatchAt bytes p body → take (p + 5 + length body) bytes ≡ take p bytes ++ batch body
front_batch bytes p body found =
    let inside : p ≤ length bytes = omega (arith, (open_of_batch bytes p body found).0) in
    let all : bytes ≡ (take p bytes ++ batch body) ++ found.1 = sym (take-append-drop p bytes) ∙ ap (λ (l : List ℕ). take p bytes ++ l) found.2 ∙ sym (append_assoc (take p bytes) (batch body) found.1) in
    ap (λ (l : List ℕ). take (p + 5 + length body) l) all ∙ take_at (take p bytes ++ batch body) found.1 (p + 5 + length body) (omega (arith, length-take-le p bytes inside, length-append (take p bytes) (batch body), length-batch body))

pub front_push : (bytes : List ℕ) (L : List (List Record)) (p : ℕ) (body : List ℕ) (rs : List Record) → IsFront bytes L p → BatchAt bytes p body → body ≡ body_bytes rs → AreSpelled rs → HasFormat (L ++ rs ∷ []) → IsFront bytes (L ++ rs ∷ []) (p + 5 + length body)
front_push bytes L p body rs front found e each format =
    let all : batches (bodies (L ++ rs ∷ [])) ≡ batches (bodies L) ++ batch body = ap batches (bodies_push L rs) ∙ batches_push (bodies L) (body_bytes rs) ∙ ap (λ (b : List ℕ). batches (bodies L) ++ batch b) (sym e) in
    record {
      place = omega (arith, front.place, ap length all, length-append (batches (bodies L)) (batch body), length-batch body);
      spells = front_batch bytes p body found ∙ ap (λ (l : List ℕ). l ++ batch body) front.spells ∙ sym all;
      sizes = subst (AllByRecursion IsBody) (sym (bodies_push L rs)) (all_push (bodies L) (body_bytes rs) front.sizes (subst IsBody e found.0));
      each = all_spelled L rs front.each each;
      first = inr format;
    }

pub format_more : (L : List (List Record)) (rs : List Record) → HasFormat L → HasFormat (L ++ rs ∷ [])
format_more L rs has = (has.0, has.1, has.2 ++ rs ∷ [], ap (λ (l : List (List Record)). l ++ rs ∷ []) has.3)

-- ---- the first batch
pub first_front : (bytes body : List ℕ) (index heap : ℕ) → BatchAt bytes 0 body → CanBeSpelled (Format index heap) → body ≡ spelling (Format index heap) → IsFront bytes ((Format index heap ∷ []) ∷ []) (0 + 5 + length body)
first_front bytes body index heap found can e = front_push bytes [] 0 body (Format index heap ∷ []) (empty_front bytes) found (e ∙ sym (append-nil (spelling (Format index heap)))) (can, tt) (index, heap, [], refl)

pub first_bad : (bytes : List ℕ) (bad : ℕ) → 2 ≤ length bytes → IsBad bytes 0 bad → IsBadFirst bytes bad
first_bad bytes bad long (inl none) = absurd (omega (arith, long, none.0))
first_bad bytes bad long (inr none) = record { formatted = open_is_formatted bytes long none.0.gate; bad = inl (inr none) }

pub no_format : (bytes body : List ℕ) → BatchAt bytes 0 body → HasNoFormat body → IsBadFirst bytes 5
no_format bytes body found none = record {
  formatted = open_is_formatted bytes (long_batch bytes body found) (open_of_batch bytes 0 body found);
  bad = inr (body, found, none, refl);
}

-- so the log is bad there
pub bad_of_first : (bytes : List ℕ) (bad : ℕ) → IsBadFirst bytes bad → BadAt bytes bad
bad_of_first bytes bad first = record { formatted = first.formatted; front = []; place = 0; good = empty_front bytes; bad = by_case first.bad }
  where
    by_case : IsBad bytes 0 bad ⊎ ((body : List ℕ) × BatchAt bytes 0 body × HasNoFormat body × (bad ≡ 5)) → IsBad bytes 0 bad ⊎ ((body : List ℕ) × (within : ℕ) × BatchAt bytes 0 body × BadBody [] body within × (bad ≡ 0 + 5 + within))
    by_case (inl none) = inl none
    by_case (inr found) = inr (found.0, 0, found.1, (found.2, refl), found.3)

-- ---- the other batches
-- a front that has a batch begins with an open gate
pub front_is_formatted : (bytes : List ℕ) (L : List (List Record)) (p : ℕ) → IsFront bytes L p → HasFormat L → IsUnformatted bytes → ⊥
front_is_formatted bytes L p front has = by_list L p front has.3
  where
    by_list : (M : List (List Record)) (q : ℕ) → IsFront bytes M q → M ≡ (Format has.0 has.1 ∷ []) ∷ has.2 → IsUnformatted bytes → ⊥
    by_list [] q good e = absurd cc
    by_list (rs ∷ M) q good e =
        let all : bytes ≡ batch (body_bytes rs) ++ (batches (bodies M) ++ drop q bytes) = sym (take-append-drop q bytes) ∙ ap (λ (l : List ℕ). l ++ drop q bytes) good.spells ∙ append_assoc (batch (body_bytes rs)) (batches (bodies M)) (drop q bytes) in
        open_is_formatted bytes (omega (arith, ap length all, length-append (batch (body_bytes rs)) (batches (bodies M) ++ drop q bytes), length-batch (body_bytes rs)))
        (omega (arith, ap length all), ap (λ (l : List ℕ). get_or l 0 0) all)

pub log_ends : (bytes : List ℕ) (L : List (List Record)) (e : ℕ) → IsFront bytes L e → HasFormat L → IsClosedAt e bytes → LogOf bytes L e
log_ends bytes L e front has shut = record { front = front; format = has; closed = shut }

pub later_bad : (bytes : List ℕ) (L : List (List Record)) (p bad : ℕ) → IsFront bytes L p → HasFormat L → IsBad bytes p bad → BadAt bytes bad
later_bad bytes L p bad front has is = record { formatted = front_is_formatted bytes L p front has; front = L; place = p; good = front; bad = inl is }

pub bad_body_of : (L : List (List Record)) (body : List ℕ) (within : ℕ) → HasFormat L → NoRecordAt body within → BadBody L body within
bad_body_of [] body within has none = absurd (no_first has.3)
  where
    no_first : [] ≡ (Format has.0 has.1 ∷ []) ∷ has.2 → ⊥
    no_first e = cc
bad_body_of (rs ∷ L) body within has none = none

pub later_body_bad : (bytes : List ℕ) (L : List (List Record)) (p : ℕ) (body : List ℕ) (within bad : ℕ) → IsFront bytes L p → HasFormat L → BatchAt bytes p body → NoRecordAt body within → bad ≡ p + 5 + within → BadAt bytes bad
later_body_bad bytes L p body within bad front has found none e = record {
  formatted = front_is_formatted bytes L p front has;
  front = L;
  place = p;
  good = front;
  bad = inr (body, within, found, bad_body_of L body within has none, e);
}

-- from one place to another batches were read: their records stand behind those that stood there
abbrev pub Past : List ℕ → ℕ → ℕ → List Record → List Record → Type 0
Past bytes from at old new = (front : List (List Record)) → HasFormat front → IsFront bytes front from → (L : List (List Record)) × HasFormat L × IsFront bytes L at × (old ≡ records_in front → new ≡ records_in L)

pub records_push : (L : List (List Record)) (rs : List Record) → records_in L ++ rs ≡ records_in (L ++ rs ∷ [])
records_push L rs = flat_map_more (λ (x : List Record). x) [] L rs

pub past_step : (bytes : List ℕ) (from at next : ℕ) (old mid new : List Record) (body : List ℕ) (rs : List Record) → Past bytes from at old mid → BatchAt bytes at body → next ≡ at + 5 + length body → AreSpelled rs → body ≡ body_bytes rs → new ≡ mid ++ rs → Past bytes from next old new
past_step bytes from at next old mid new body rs past found is each e pushed front has stands =
    let so_far = past front has stands in
    let L = so_far.0 in
    let more = format_more L rs so_far.1 in
    (L ++ rs ∷ [], more, subst (IsFront bytes (L ++ rs ∷ [])) (sym is) (front_push bytes L at body rs so_far.2 found e each more), λ same. pushed ∙ ap (λ (l : List Record). l ++ rs) (so_far.3 same) ∙ records_push L rs)

pub past_bad : (bytes : List ℕ) (from at bad : ℕ) (old mid : List Record) → Past bytes from at old mid → IsBad bytes at bad → (front : List (List Record)) → HasFormat front → IsFront bytes front from → BadAt bytes bad
past_bad bytes from at bad old mid past is front has stands = let so_far = past front has stands in later_bad bytes so_far.0 at bad so_far.2 so_far.1 is

pub past_body_bad : (bytes : List ℕ) (from at bad : ℕ) (old mid : List Record) (body : List ℕ) → Past bytes from at old mid → BatchAt bytes at body → (within : ℕ) × NoRecordAt body within × (bad ≡ at + 5 + within) → (front : List (List Record)) → HasFormat front → IsFront bytes front from → BadAt bytes bad
past_body_bad bytes from at bad old mid body past found none front has stands = let so_far = past front has stands in later_body_bad bytes so_far.0 at body none.0 bad so_far.2 so_far.1 found none.1 none.2

-- ---- batches from a place on
pub empty_run : (bytes : List ℕ) (p : ℕ) → IsRun bytes p [] p
empty_run bytes p = record { place = omega arith; spells = refl; sizes = tt; each = tt }

pub run_push : (bytes : List ℕ) (p : ℕ) (L : List (List Record)) (q : ℕ) (body : List ℕ) (rs : List Record) → IsRun bytes p L q → BatchAt bytes q body → body ≡ body_bytes rs → AreSpelled rs → IsRun bytes p (L ++ rs ∷ []) (q + 5 + length body)
run_push bytes p L q body rs run found e each =
    let old = batches (bodies L) in
    let all : batches (bodies (L ++ rs ∷ [])) ≡ old ++ batch body = ap batches (bodies_push L rs) ∙ batches_push (bodies L) (body_bytes rs) ∙ ap (λ (b : List ℕ). old ++ batch b) (sym e) in
    let here : p + length old ≡ q = sym run.place in
    let behind : drop (length old) (drop p bytes) ≡ batch body ++ found.1 = drop-drop (length old) p bytes ∙ ap (λ (n : ℕ). drop n bytes) here ∙ found.2 in
    let whole : drop p bytes ≡ (old ++ batch body) ++ found.1 =
    sym (take-append-drop (length old) (drop p bytes)) ∙ ap (λ (l : List ℕ). l ++ drop (length old) (drop p bytes)) run.spells ∙ ap (λ (l : List ℕ). old ++ l) behind ∙ sym (append_assoc old (batch body) found.1) in
    record {
      place = omega (arith, run.place, ap length all, length-append old (batch body), length-batch body);
      spells = ap (λ (l : List ℕ). take (length l) (drop p bytes)) all ∙ ap (λ (l : List ℕ). take (length (old ++ batch body)) l) whole ∙ take_at (old ++ batch body) found.1 (length (old ++ batch body)) refl ∙ sym all;
      sizes = subst (AllByRecursion IsBody) (sym (bodies_push L rs)) (all_push (bodies L) (body_bytes rs) run.sizes (subst IsBody e found.0));
      each = all_spelled L rs run.each each;
    }

pub front_of_run : (bytes : List ℕ) (L : List (List Record)) (q : ℕ) → HasFormat L → IsRun bytes 0 L q → IsFront bytes L q
front_of_run bytes L q has run = record {
  place = omega (arith, run.place);
  spells = let long : q ≡ length (batches (bodies L)) = omega (arith, run.place) in ap (λ (n : ℕ). take n bytes) long ∙ run.spells;
  sizes = run.sizes;
  each = run.each;
  first = inr has;
}

pub run_of_front : (bytes : List ℕ) (L : List (List Record)) (q : ℕ) → IsFront bytes L q → IsRun bytes 0 L q
run_of_front bytes L q front = record {
  place = omega (arith, front.place);
  spells = ap (λ (n : ℕ). take n bytes) (sym front.place) ∙ front.spells;
  sizes = front.sizes;
  each = front.each;
}

pub bodies_join : (L M : List (List Record)) → bodies (L ++ M) ≡ bodies L ++ bodies M
bodies_join [] M = refl
bodies_join (x ∷ L) M = ap (λ (l : List (List ℕ)). body_bytes x ∷ l) (bodies_join L M)

pub batches_join : (L M : List (List Record)) → batches (bodies (L ++ M)) ≡ batches (bodies L) ++ batches (bodies M)
batches_join [] M = refl
batches_join (x ∷ L) M = ap (λ (l : List ℕ). batch (body_bytes x) ++ l) (batches_join L M) ∙ sym (append_assoc (batch (body_bytes x)) (batches (bodies L)) (batches (bodies M)))

format_join : (L M : List (List Record)) → HasFormat L → HasFormat (L ++ M)
format_join L M has = (has.0, has.1, has.2 ++ M, ap (λ (l : List (List Record)). l ++ M) has.3)

-- a front, and what stands behind it
pub front_join : (bytes : List ℕ) (L M : List (List Record)) (p q : ℕ) → IsFront bytes L p → HasFormat L → IsRun bytes p M q → IsFront bytes (L ++ M) q
front_join bytes L M p q front has run =
    let old = batches (bodies L) in
    let more = batches (bodies M) in
    let all : batches (bodies (L ++ M)) ≡ old ++ more = batches_join L M in
    let whole : bytes ≡ (old ++ more) ++ drop (length more) (drop p bytes) =
    sym (take-append-drop p bytes) ∙ ap (λ (l : List ℕ). l ++ drop p bytes) front.spells
    ∙ ap (λ (l : List ℕ). old ++ l) (sym (take-append-drop (length more) (drop p bytes)) ∙ ap (λ (l : List ℕ). l ++ drop (length more) (drop p bytes)) run.spells)
    ∙ sym (append_assoc old more (drop (length more) (drop p bytes))) in
    record {
      place = omega (arith, front.place, run.place, ap length all, length-append old more);
      spells = ap (λ (l : List ℕ). take q l) whole ∙ take_at (old ++ more) (drop (length more) (drop p bytes)) q (omega (arith, front.place, run.place, length-append old more)) ∙ sym all;
      sizes = subst (AllByRecursion IsBody) (sym (bodies_join L M)) (all_append IsBody (bodies L) (bodies M) front.sizes run.sizes);
      each = all_append AreSpelled L M front.each run.each;
      first = inr (format_join L M has);
    }

pub log_from_place : (bytes : List ℕ) (L M : List (List Record)) (p e : ℕ) → IsFront bytes L p → HasFormat L → TailOf bytes p M e → LogOf bytes (L ++ M) e
log_from_place bytes L M p e front has tail = record { front = front_join bytes L M p e front has tail.run; format = format_join L M has; closed = tail.closed }

pub bad_from_place : (bytes : List ℕ) (L M : List (List Record)) (p at : ℕ) → IsFront bytes L p → HasFormat L → BadBehind bytes p M at → BadAt bytes at
bad_from_place bytes L M p at front has bad = by_sum bad.bad
  where
    longer : IsFront bytes (L ++ M) bad.place
    longer = front_join bytes L M p bad.place front has bad.good

    format : HasFormat (L ++ M)
    format = format_join L M has

    by_sum : IsBad bytes bad.place at ⊎ ((body : List ℕ) × (within : ℕ) × BatchAt bytes bad.place body × NoRecordAt body within × (at ≡ bad.place + 5 + within)) → BadAt bytes at
    by_sum (inl is) = later_bad bytes (L ++ M) bad.place at longer format is
    by_sum (inr b) = later_body_bad bytes (L ++ M) bad.place b.0 b.1 at longer format b.2 b.3 b.4

-- behind batches of a whole log
pub bad_behind : (bytes : List ℕ) (L : List (List Record)) (at : ℕ) → HasFormat L → BadBehind bytes 0 L at → BadAt bytes at
bad_behind bytes L at has bad = by_sum bad.bad
  where
    front : IsFront bytes L bad.place
    front = front_of_run bytes L bad.place has bad.good

    by_sum : IsBad bytes bad.place at ⊎ ((body : List ℕ) × (within : ℕ) × BatchAt bytes bad.place body × NoRecordAt body within × (at ≡ bad.place + 5 + within)) → BadAt bytes at
    by_sum (inl is) = later_bad bytes L bad.place at front has is
    by_sum (inr b) = later_body_bad bytes L bad.place b.0 b.1 at front has b.2 b.3 b.4

-- a log from the place behind some of its batches
pub tail_from_place : (bytes : List ℕ) (L M : List (List Record)) (p e : ℕ) → LogOf bytes (L ++ M) e → p ≡ length (batches (bodies L)) → TailOf bytes p M e
tail_from_place bytes L M p e log place =
    let old = batches (bodies L) in
    let more = batches (bodies M) in
    let all : batches (bodies (L ++ M)) ≡ old ++ more = batches_join L M in
    let whole : bytes ≡ old ++ (more ++ drop e bytes) = sym (take-append-drop e bytes) ∙ ap (λ (l : List ℕ). l ++ drop e bytes) (log.front.spells ∙ all) ∙ append_assoc old more (drop e bytes) in
    let behind : drop p bytes ≡ more ++ drop e bytes = ap (λ (l : List ℕ). drop p l) whole ∙ drop_at old (more ++ drop e bytes) p (sym place) in
    record {
      run = record {
        place = omega (arith, log.front.place, place, ap length all, length-append old more);
        spells = ap (λ (l : List ℕ). take (length more) l) behind ∙ take_at more (drop e bytes) (length more) refl;
        sizes = all_right IsBody (bodies L) (bodies M) (subst (AllByRecursion IsBody) (bodies_join L M) log.front.sizes);
        each = all_right AreSpelled L M log.front.each;
      };
      closed = log.closed;
    }
