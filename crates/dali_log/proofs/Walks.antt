-- Bytes are unformatted, a log, or bad at a place.
use Rattle.std.proofs.Common.{◌≡◌, ◌≢◌, ◌⊎◌, inl, inr, ⊎_elim, ℕ, zero, suc, ◌+◌, ◌≤◌, ◌<◌, ◌^◌, List, [], ◌∷◌, ◌++◌, length, get_or, take, drop, refl, sym, ◌∙◌, ap, subst, arith, append_assoc, length-append, length-drop, length-take, Option, Some, None}
use Rattle.std.proofs.lemmas.Bool.{cases_eq, cases_lt}
use Rattle.std.proofs.lemmas.List.{append-nil, drop_at, take_at}
use Rattle.byteorder.specs.Endian.{big_number}
use Rattle.byteorder.specs.Numbers.{big_from-lt}
use Rattle.dali_bytes.specs.Cursor.{IsBytes}
use Rattle.dali_bytes.specs.Fields.{number32}
use Rattle.dali_bytes.proofs.Numbers.{IsBytes-take, IsBytes-drop, number32-big}
use Rattle.dali_record.specs.declared.records.Record.{Record}
use Rattle.dali_record.specs.declared.records.Record.TheVariants.{Format, Begin, Forward, Done, Commit, Ended, Solo, AuditBegin, AuditClean, AuditFail, Restarted, Back}
use Rattle.dali_record.specs.Spelling.{spelling, CanBeSpelled, Begins}
use Rattle.dali_record.specs.Reading.{record_at}
use Rattle.dali_record.proofs.Spelled.{record_taken, none_begins}
use Rattle.dali_log.specs.Batch.{batches, IsOpenAt, IsUnformatted}
use Rattle.dali_log.specs.Finding.{BatchAt, NoBatch}
use Rattle.dali_log.specs.Log.{body_bytes, AreSpelled, bodies, HasFormat, IsFront, LogOf, NoRecordAt, BadAt}
use Rattle.dali_log.proofs.Finds.{cut_length, bad_length, batch_read}
use Rattle.dali_log.proofs.Bodies.{one_format}
use Rattle.dali_log.specs.Laws.{HasOneReading}
use Rattle.dali_log.proofs.Fronts.{empty_front, front_push, format_more, open_is_formatted}
use Rattle.dali_log.proofs.Unique.{one_log, one_place, log_is_good, log_is_formatted}
use Rattle.dali_log.proofs.Streaming.{some_length}

-- ---- one record
bytes_behind : (x front rest : List ℕ) → IsBytes x → x ≡ front ++ rest → IsBytes rest
bytes_behind x front rest fits e = subst IsBytes (ap (λ (l : List ℕ). drop (length front) l) e ∙ drop_at front rest (length front) refl) (IsBytes-drop (length front) x fits)

pub one_or_none : (x : List ℕ) → IsBytes x → ((r : Record) × (rest : List ℕ) × CanBeSpelled r × (x ≡ spelling r ++ rest)) ⊎ ((r : Record) → Begins x r → ⊥)
one_or_none x fits = by_read (record_at x) refl
  where
    by_read : (read : Option (Record × List ℕ)) → record_at x ≡ read → ((r : Record) × (rest : List ℕ) × CanBeSpelled r × (x ≡ spelling r ++ rest)) ⊎ ((r : Record) → Begins x r → ⊥)
    by_read None e = inr (λ r begins. none_begins x e r begins.1 begins.0 begins.2)
    by_read (Some found) e = let taken = record_taken x found.0 found.1 fits e in inl (found.0, found.1, taken.0, taken.1)

-- ---- all records of a body
abbrev Parsed : List ℕ → Type 0
Parsed x = ((rs : List Record) × AreSpelled rs × (x ≡ body_bytes rs)) ⊎ ((at : ℕ) × NoRecordAt x at)

more_parsed : (x : List ℕ) (r : Record) (rest : List ℕ) → CanBeSpelled r → x ≡ spelling r ++ rest → Parsed rest → Parsed x
more_parsed x r rest can e (inl all) = inl (r ∷ all.0, (can, all.1), e ∙ ap (λ (l : List ℕ). spelling r ++ l) all.2)
more_parsed x r rest can e (inr bad) =
    let none = bad.1 in
    inr (
      length (spelling r) + bad.0,
      (
        r ∷ none.0,
        none.1,
        (can, none.2),
        e ∙ ap (λ (l : List ℕ). spelling r ++ l) none.3 ∙ sym (append_assoc (spelling r) (body_bytes none.0) none.1),
        omega (arith, none.4, length-append (spelling r) (body_bytes none.0)),
        none.5,
        none.6,
      ),
    )

pub parse : (n : ℕ) (x : List ℕ) → length x ≤ n → IsBytes x → Parsed x
parse n [] le fits = inl ([], tt, refl)
parse zero (b ∷ x) le fits = absurd (omega (arith, le))
parse (suc n) (b ∷ x) le fits =
    ⊎_elim
    (λ found. more_parsed (b ∷ x) found.0 found.1 found.2 found.3 (parse n found.1 (omega (arith, le, ap length found.3, length-append (spelling found.0) found.1, some_length found.0)) (bytes_behind (b ∷ x) (spelling found.0) found.1 fits found.3)))
    (λ none. inr (0, ([], b ∷ x, tt, refl, refl, omega arith, none)))
    (one_or_none (b ∷ x) fits)

-- ---- the one record Format
abbrev OneFormat : List ℕ → Type 0
OneFormat body = ((index heap : ℕ) × CanBeSpelled (Format index heap) × (body ≡ spelling (Format index heap))) ⊎ ((index heap : ℕ) → CanBeSpelled (Format index heap) → body ≡ spelling (Format index heap) → ⊥)

another : (body rest : List ℕ) (r : Record) → CanBeSpelled r → body ≡ spelling r ++ rest → ((index heap : ℕ) → r ≡ Format index heap → ⊥) → (index heap : ℕ) → CanBeSpelled (Format index heap) → body ≡ spelling (Format index heap) → ⊥
another body rest r can e other index heap is same = other index heap (one_format body rest r can e index heap is same).0

by_record : (body rest : List ℕ) (r : Record) → CanBeSpelled r → body ≡ spelling r ++ rest → OneFormat body
by_record body [] (Format i h) can e = inl (i, h, can, e ∙ append-nil (spelling (Format i h)))
by_record body (b ∷ rest) (Format i h) can e = inr (λ index heap is same. let none = (one_format body (b ∷ rest) (Format i h) can e index heap is same).1 in omega (arith, ap length none))
by_record body rest (Begin t) can e = inr (another body rest (Begin t) can e (λ index heap is. cc))
by_record body rest (Forward t b) can e = inr (another body rest (Forward t b) can e (λ index heap is. cc))
by_record body rest (Done t call answer) can e = inr (another body rest (Done t call answer) can e (λ index heap is. cc))
by_record body rest (Commit t) can e = inr (another body rest (Commit t) can e (λ index heap is. cc))
by_record body rest (Ended t) can e = inr (another body rest (Ended t) can e (λ index heap is. cc))
by_record body rest (Solo t parent b) can e = inr (another body rest (Solo t parent b) can e (λ index heap is. cc))
by_record body rest AuditBegin can e = inr (another body rest AuditBegin can e (λ index heap is. cc))
by_record body rest (AuditClean begin) can e = inr (another body rest (AuditClean begin) can e (λ index heap is. cc))
by_record body rest (AuditFail begin regions) can e = inr (another body rest (AuditFail begin regions) can e (λ index heap is. cc))
by_record body rest (Restarted rolled_back deleted) can e = inr (another body rest (Restarted rolled_back deleted) can e (λ index heap is. cc))
by_record body rest (Back t b) can e = inr (another body rest (Back t b) can e (λ index heap is. cc))

one_format_or_not : (body : List ℕ) → IsBytes body → OneFormat body
one_format_or_not body fits = ⊎_elim (λ found. by_record body found.1 found.0 found.2 found.3)
    (λ none. inr (λ index heap is same. none (Format index heap) (is, [], same ∙ sym (append-nil (spelling (Format index heap))))))
    (one_or_none body fits)

-- ---- one batch
abbrev OneBatch : List ℕ → ℕ → Type 0
OneBatch bytes p = ((body : List ℕ) × BatchAt bytes p body) ⊎ NoBatch bytes p

batch_by : (bytes : List ℕ) (p size : ℕ) → IsOpenAt p bytes → number32 size ≡ take 4 (drop (p + 1) bytes) → size < 2 ^ 32 → OneBatch bytes p
batch_by bytes p size gate number small = ⊎_elim
    (λ some. ⊎_elim
    (λ much. inr (bad_length bytes p size gate number small (inr (inl much))))
    (λ most. ⊎_elim
    (λ short. inr (bad_length bytes p size gate number small (inr (inr short))))
    (λ inside. inl (take size (drop (p + 5) bytes), (batch_read bytes (take size (drop (p + 5) bytes)) p size gate number inside refl some most).0))
    (cases_lt (length bytes) (p + 5 + size)))
    (cases_lt (2 ^ 30) size))
    (λ none. inr (bad_length bytes p size gate number small (inl (omega (arith, none)))))
    (cases_lt 0 size)

batch_or_not : (bytes : List ℕ) (p : ℕ) → IsBytes bytes → IsOpenAt p bytes → OneBatch bytes p
batch_or_not bytes p fits gate = ⊎_elim
    (λ short. inr (cut_length bytes p gate (omega (arith, short))))
    (λ long. batch_by bytes p (big_number 4 (drop (p + 1) bytes)) gate (number32-big (drop (p + 1) bytes) (omega (arith, long, length-drop (p + 1) bytes)) (IsBytes-drop (p + 1) bytes fits)) (big_from-lt 0 4 (drop (p + 1) bytes) (IsBytes-drop (p + 1) bytes fits)))
    (cases_lt (length bytes) (p + 5))

-- ---- all batches
module _ (bytes : List ℕ) (fits : IsBytes bytes) (formatted : IsUnformatted bytes → ⊥) where
  abbrev Found : Type 0
  Found = ((L : List (List Record)) × (e : ℕ) × LogOf bytes L e) ⊎ ((at : ℕ) × BadAt bytes at)

  body_fits : (p : ℕ) (body : List ℕ) → BatchAt bytes p body → IsBytes body
  body_fits p body found =
      let behind = bytes_behind (drop p bytes) (165 ∷ number32 (length body)) (body ++ found.1) (IsBytes-drop p bytes fits) (found.2 ∙ ap (λ (l : List ℕ). 165 ∷ l) (append_assoc (number32 (length body)) body found.1)) in
      subst IsBytes (take_at body found.1 (length body) refl) (IsBytes-take (length body) (body ++ found.1) behind)

  has_format : (L : List (List Record)) (p : ℕ) → IsFront bytes L p → get_or bytes p 0 ≢ 165 → HasFormat L
  has_format L p front shut = by_first front.first
    where
      by_first : (L ≡ []) ⊎ HasFormat L → HasFormat L
      by_first (inl none) =
          let start : p ≡ 0 = front.place ∙ ap (λ (M : List (List Record)). length (batches (bodies M))) none in
          absurd (formatted (inr (subst (λ (q : ℕ). get_or bytes q 0 ≢ 165) start shut)))
      by_first (inr has) = has

  has_more : (l : List Record) (L : List (List Record)) → ((l ∷ L) ≡ []) ⊎ HasFormat (l ∷ L) → HasFormat (l ∷ L)
  has_more l L (inl none) = absurd cc
  has_more l L (inr has) = has

  with_body : (L : List (List Record)) (p : ℕ) → ((M : List (List Record)) (q : ℕ) → p < q → IsFront bytes M q → Found) → IsFront bytes L p → (body : List ℕ) → BatchAt bytes p body → Found
  with_body [] p next front body found = ⊎_elim
      (λ one. next ((Format one.0 one.1 ∷ []) ∷ []) (p + 5 + length body) (omega arith) (front_push bytes [] p body (Format one.0 one.1 ∷ []) front found (one.3 ∙ sym (append-nil (spelling (Format one.0 one.1)))) (one.2, tt) (one.0, one.1, [], refl)))
      (λ no. inr (p + 5 + 0, record { formatted = formatted; front = []; place = p; good = front; bad = inr (body, 0, found, (no, refl), refl) }))
      (one_format_or_not body (body_fits p body found))
  with_body (l ∷ L) p next front body found = ⊎_elim
      (λ all. next ((l ∷ L) ++ all.0 ∷ []) (p + 5 + length body) (omega arith) (front_push bytes (l ∷ L) p body all.0 front found all.2 all.1 (format_more (l ∷ L) all.0 (has_more l L front.first))))
      (λ none. inr (p + 5 + none.0, record { formatted = formatted; front = l ∷ L; place = p; good = front; bad = inr (body, none.0, found, none.1, refl) }))
      (parse (length body) body (omega arith) (body_fits p body found))

  step : (L : List (List Record)) (p : ℕ) → ((M : List (List Record)) (q : ℕ) → p < q → IsFront bytes M q → Found) → IsFront bytes L p → Found
  step L p next front = ⊎_elim
      (λ inside. ⊎_elim
      (λ gate. ⊎_elim
      (λ found. with_body L p next front found.0 found.1)
      (λ none. inr (p + 1, record { formatted = formatted; front = L; place = p; good = front; bad = inl (inr (none, refl)) }))
      (batch_or_not bytes p fits (inside, gate)))
      (λ shut. inl (L, p, record { front = front; format = has_format L p front shut; closed = (inside, shut) }))
      (cases_eq (get_or bytes p 0) 165))
      (λ past. inr (p, record { formatted = formatted; front = L; place = p; good = front; bad = inl (inl (past, refl)) }))
      (cases_lt p (length bytes))

  inside_front : (L : List (List Record)) (p : ℕ) → IsFront bytes L p → p ≤ length bytes
  inside_front L p front = omega (arith, ap length front.spells, front.place, length-take p bytes)

  walk : (n : ℕ) (L : List (List Record)) (p : ℕ) → length bytes ≤ n + p → IsFront bytes L p → Found
  walk zero L p le front = step L p (λ M q less there. let inside = inside_front M q there in absurd (omega (arith, le, less, inside))) front
  walk (suc n) L p le front = step L p (λ M q less there. walk n M q (omega (arith, le, less)) there) front

  pub read_whole : ((L : List (List Record)) × (e : ℕ) × LogOf bytes L e) ⊎ ((at : ℕ) × BadAt bytes at)
  read_whole = walk (length bytes) [] 0 (omega arith) (empty_front bytes)

pub some_reading : (bytes : List ℕ) → IsBytes bytes → IsUnformatted bytes ⊎ ((L : List (List Record)) × (e : ℕ) × LogOf bytes L e) ⊎ ((at : ℕ) × BadAt bytes at)
some_reading bytes fits = ⊎_elim
    (λ short. inl (inl short))
    (λ long. ⊎_elim (λ gate. inr (read_whole bytes fits (open_is_formatted bytes long (omega (arith, long), gate)))) (λ shut. inl (inr shut)) (cases_eq (get_or bytes 0 0) 165))
    (cases_lt (length bytes) 2)

pub readings : (bytes : List ℕ) → HasOneReading bytes
readings bytes = record {
  some = some_reading bytes;
  one_log = one_log bytes;
  one_place = one_place bytes;
  log_is_good = log_is_good bytes;
  log_is_formatted = log_is_formatted bytes;
  bad_is_formatted = λ at bad. bad.formatted;
}
