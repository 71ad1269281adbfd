-- Going over a log record by record.
use Rattle.std.proofs.Common.{◌≡◌, ◌⊎◌, ◌↔◌, Bool, true, false, inl, inr, ℕ, ◌+◌, ◌-◌, ◌≤◌, ◌<◌, List, [], ◌∷◌, ◌++◌, length, get_or, take, drop, refl, sym, ◌∙◌, ap, subst, arith, append_assoc, length-append}
use Rattle.std.proofs.lemmas.List.{append-nil, drop-take, take-take, drop-drop, drop_at, take_at, get_or-take, get_or-drop}
use Rattle.dali_bytes.specs.Fields.{number32}
use Rattle.dali_bytes.proofs.Numbers.{length-number32}
use Rattle.dali_record.specs.declared.records.Record.{Record}
use Rattle.dali_record.specs.declared.records.Record.TheVariants.{Format}
use Rattle.dali_record.specs.Spelling.{spelling, CanBeSpelled, Begins}
use Rattle.dali_log.specs.Batch.{batch, IsClosedAt}
use Rattle.dali_log.specs.Finding.{BatchAt, IsBad}
use Rattle.dali_log.specs.Log.{body_bytes, records_in, LogOf, BadAt, IsRun, BadBehind, HasNoFormat, IsBadFirst, AreSpelled}
use Rattle.dali_log.specs.declared.reader.Placed.{Placed}
use Rattle.dali_log.specs.Stream.{Reading, Covers, IsWindow, IsWithin, IsReadFrom, IsReadTo, is_first, place_of, HandsOut, GoesOn, EndsAt, IsBadFrom, Stays, HasBatch, Keeps}
use Rattle.dali_log.proofs.Bodies.{spelled_push, bytes_push}
use Rattle.dali_log.proofs.Fronts.{empty_run, run_push, front_of_run, format_more, no_format, records_push, bad_behind, log_ends}

-- ---- the part that the reader holds
-- what it holds is what the log has
pub part_of : (log : List ℕ) (r : Reading) (at size : ℕ) → IsWindow log r → Covers r at size → (at + size ≤ length log) × (take size (drop (at - r.from) r.bytes) ≡ take size (drop at log))
part_of log r at size window covers =
    let n = length r.bytes in
    let skip = at - r.from in
    let more = n - skip in
    let all : skip + more ≡ n = omega (arith, covers.0, covers.1) in
    let place : r.from + skip ≡ at = omega (arith, covers.0) in
    let enough : size ≤ more = omega (arith, covers.0, covers.1) in (
      omega (arith, covers.1, window.within),
      ap (λ (l : List ℕ). take size (drop skip l)) (window.part ∙ ap (λ (k : ℕ). take k (drop r.from log)) (sym all))
          ∙ ap (λ (l : List ℕ). take size l) (drop-take skip more (drop r.from log)) ∙ take-take size more (drop skip (drop r.from log)) enough
          ∙ ap (λ (l : List ℕ). take size l) (drop-drop skip r.from log ∙ ap (λ (k : ℕ). drop k log) place),
    )

-- nothing was read yet
pub empty_window : (log : List ℕ) (r : Reading) → r.length ≡ length log → r.bytes ≡ [] → r.from ≡ 0 → IsWindow log r
empty_window log r all none start = record {
  all = all;
  part = none ∙ sym (ap (λ (l : List ℕ). take (length l) (drop r.from log)) none);
  within = omega (arith, ap length none, start);
}

gate_byte : (log gate : List ℕ) (at : ℕ) → gate ≡ take 1 (drop at log) → get_or gate 0 0 ≡ get_or log at 0
gate_byte log gate at e =
    let here : at + 0 ≡ at = omega arith in
    ap (λ (l : List ℕ). get_or l 0 0) e ∙ get_or-take 1 (drop at log) 0 0 (omega arith) ∙ get_or-drop at log 0 0 ∙ ap (λ (n : ℕ). get_or log n 0) here

-- a closed gate was read
pub closed_read : (log gate : List ℕ) (at : ℕ) → at + 1 ≤ length log → gate ≡ take 1 (drop at log) → (get_or gate 0 0 ≡ 165 → ⊥) → IsClosedAt at log
closed_read log gate at long e shut = (omega (arith, long), λ k. shut (gate_byte log gate at e ∙ k))

-- ---- batches
-- what is left of a body, read in the log
pub rest_of : (log body past rest : List ℕ) (place : ℕ) → BatchAt log place body → body ≡ past ++ rest → take (length rest) (drop (place + 5 + length past) log) ≡ rest
unfolding number32
rest_of log body past rest place found e =
    let head : List ℕ = (165 ∷ number32 (length body)) ++ past in
    let whole : batch body ++ found.1 ≡ head ++ (rest ++ found.1) =
    ap (λ (l : List ℕ). (165 ∷ number32 (length body)) ++ (l ++ found.1)) e
    ∙ ap (λ (l : List ℕ). (165 ∷ number32 (length body)) ++ l) (append_assoc past rest found.1)
    ∙ sym (append_assoc (165 ∷ number32 (length body)) past (rest ++ found.1)) in
    let four : length (number32 (length body)) ≡ 4 = length-number32 (length body) in
    let long : length head ≡ 5 + length past = omega (arith, length-append (165 ∷ number32 (length body)) past, four) in
    let place_is : place + (5 + length past) ≡ place + 5 + length past = omega arith in
    let there : drop (place + 5 + length past) log ≡ rest ++ found.1 =
    ap (λ (n : ℕ). drop n log) (sym place_is) ∙ sym (drop-drop (5 + length past) place log) ∙ ap (λ (l : List ℕ). drop (5 + length past) l) (found.2 ∙ whole) ∙ drop_at head (rest ++ found.1) (5 + length past) long in
    ap (λ (l : List ℕ). take (length rest) l) there ∙ take_at rest found.1 (length rest) refl

-- ---- between two batches, and in one
-- a reader that was told to go on at a place
pub sought : (log : List ℕ) (r : Reading) → IsWindow log r → r.at ≡ r.end → IsReadFrom log r.at [] [] r
sought log r window e = record { window = window; stands = inl (e, empty_run log r.at, refl) }

-- the first batch isn't the one record Format
pub no_first : (log : List ℕ) (r s : Reading) (size bad : ℕ) (part : List ℕ) → (IsWindow log r → HasBatch log 0 size) → (IsWindow log r → IsWindow log s) → IsWindow log r → Covers s 5 size
    → part ≡ take size (drop (5 - s.from) s.bytes) → HasNoFormat part → 5 ≡ bad → IsBadFirst log bad
no_first log r s size bad part is opens start there e none five =
    let found = is start in
    let body = part_of log s 5 size (opens start) there in
    subst (IsBadFirst log) five (no_format log (take size (drop (0 + 5) log)) found.0 (λ index heap can same. none index heap can (e ∙ body.1 ∙ same)))

-- behind the first batch
pub first_read : (log : List ℕ) (r : Reading) (index heap : ℕ) (end : ℕ) → IsRun log 0 ((Format index heap ∷ []) ∷ []) end → r.at ≡ end → r.end ≡ end → IsWindow log r → IsReadFrom log 0 ((Format index heap ∷ []) ∷ []) [] r
first_read log r index heap end run at ends window = record {
  window = window;
  stands = inl (at ∙ sym ends, subst (IsRun log 0 ((Format index heap ∷ []) ∷ [])) (sym at) run, refl);
}

module _ (log : List ℕ) (r s : Reading) where
  module _ (start : ℕ) (front : List (List Record)) (done : List Record) (read : IsReadFrom log start front done r) where
    between_of : r.at ≡ r.end → IsRun log start front r.end × (done ≡ [])
    between_of e = by_place read.stands
      where
        by_place : ((r.at ≡ r.end) × IsRun log start front r.at × (done ≡ [])) ⊎ ((r.at < r.end) × IsWithin log start front done r) → IsRun log start front r.end × (done ≡ [])
        by_place (inl p) = (subst (IsRun log start front) e p.1, p.2)
        by_place (inr p) = absurd (omega (arith, p.0, e))

    pub within_of : r.at < r.end → IsWithin log start front done r
    within_of lt = by_place read.stands
      where
        by_place : ((r.at ≡ r.end) × IsRun log start front r.at × (done ≡ [])) ⊎ ((r.at < r.end) × IsWithin log start front done r) → IsWithin log start front done r
        by_place (inl p) = absurd (omega (arith, p.0, lt))
        by_place (inr p) = p.1

  -- the log ends
  pub ends_at : r.at ≡ r.end → (IsWindow log r → IsClosedAt r.end log) → s.at ≡ r.end → (IsWindow log r → IsWindow log s) → EndsAt log r s
  ends_at e shut at window = λ start front done read.
      let b = between_of start front done read e in
      (b.1, record { run = subst (IsRun log start front) (sym at) b.0; closed = subst (λ (n : ℕ). IsClosedAt n log) (sym at) (shut read.window) }, window read.window)

  -- no batch stands there
  pub bad_batch : (bad : ℕ) → r.at ≡ r.end → IsBad log r.end bad → IsBadFrom log r bad
  bad_batch bad e is = λ start front done read.
      let b = between_of start front done read e in
      (record { place = r.end; good = b.0; bad = inl is }, omega (arith, at_gate is, b.0.place))
    where
      at_gate : IsBad log r.end bad → bad ≤ r.end + 1
      at_gate (inl p) = omega (arith, p.1)
      at_gate (inr p) = omega (arith, p.1)

  -- one more batch
  pub batch_begun : (body : List ℕ) (size : ℕ) → r.at ≡ r.end → BatchAt log r.end body → length body ≡ size → s.body ≡ r.end + 5 → s.at ≡ r.end + 5 → s.end ≡ r.end + 5 + size → 0 < size → (IsWindow log r → IsWindow log s) → Stays log r s
  batch_begun body size e found long begun at end some window = λ start front done read.
      let b = between_of start front done read e in
      record {
        window = window read.window;
        stands = inr (
          omega (arith, at, end, some),
          record {
            place = r.end;
            good = b.0;
            body = body;
            batch = found;
            begun = begun;
            ends = omega (arith, end, long);
            spelled = subst AreSpelled (sym b.1) tt;
            reached = omega (arith, at, ap (λ (rs : List Record). length (body_bytes rs)) b.1);
            begins = (body, ap (λ (rs : List Record). body_bytes rs ++ body) (sym b.1));
          },
        );
      }

-- its places are as before
pub kept_stays : (log : List ℕ) (r s : Reading) → Keeps r s → (IsWindow log r → IsWindow log s) → Stays log r s
kept_stays log r s keeps window = λ start front done read. record { window = window read.window; stands = by_place start front done read.stands }
  where
    by_place : (start : ℕ) (front : List (List Record)) (done : List Record) → ((r.at ≡ r.end) × IsRun log start front r.at × (done ≡ [])) ⊎ ((r.at < r.end) × IsWithin log start front done r)
        → ((s.at ≡ s.end) × IsRun log start front s.at × (done ≡ [])) ⊎ ((s.at < s.end) × IsWithin log start front done s)
    by_place start front done (inl p) = inl (keeps.at ∙ p.0 ∙ sym keeps.ends, subst (IsRun log start front) (sym keeps.at) p.1, p.2)
    by_place start front done (inr p) = inr (
      omega (arith, p.0, keeps.at, keeps.ends),
      record {
        place = p.1.place;
        good = p.1.good;
        body = p.1.body;
        batch = p.1.batch;
        begun = keeps.body ∙ p.1.begun;
        ends = keeps.ends ∙ p.1.ends;
        spelled = p.1.spelled;
        reached = keeps.at ∙ p.1.reached;
        begins = p.1.begins;
      },
    )

-- ---- the records of a batch
pub some_length : (r : Record) → 0 < length (spelling r)
some_length (Format i h) = omega arith
some_length _ = omega arith

module _ (log : List ℕ) (r : Reading) (start : ℕ) (front : List (List Record)) (done : List Record) (lt : r.at < r.end) (whole : (r.from ≤ r.at) × (r.end ≤ r.from + length r.bytes)) (read : IsReadFrom log start front done r) where
  within : IsWithin log start front done r
  within = within_of log r r start front done read lt

  rest_long : length (within.begins.0) ≡ r.end - r.at
  rest_long = omega (arith, within.ends, within.reached, ap length within.begins.1, length-append (body_bytes done) within.begins.0)

  -- what is left of the body
  rest_is : (part : List ℕ) → part ≡ take (r.end - r.at) (drop (r.at - r.from) r.bytes) → part ≡ within.begins.0
  rest_is part e =
      let covers : Covers r r.at (r.end - r.at) = (whole.0, omega (arith, whole.1, lt)) in
      e ∙ (part_of log r r.at (r.end - r.at) read.window covers).1
      ∙ ap (λ (n : ℕ). take n (drop r.at log)) (sym rest_long)
      ∙ ap (λ (n : ℕ). take (length within.begins.0) (drop n log)) within.reached
      ∙ rest_of log within.body (body_bytes done) within.begins.0 within.place within.batch within.begins.1

  -- no record begins there
  pub bad_record : (part : List ℕ) → part ≡ take (r.end - r.at) (drop (r.at - r.from) r.bytes) → ((x : Record) → Begins part x → ⊥) → BadBehind log start front r.at × (r.at ≤ place_of start front done)
  bad_record part e none =
      let rest = within.begins.0 in
      let some : 0 < length rest = omega (arith, rest_long, lt) in (
        record {
          place = within.place;
          good = within.good;
          bad = inr (
            within.body,
            length (body_bytes done),
            within.batch,
            (done, rest, within.spelled, within.begins.1, refl, some, subst (λ (l : List ℕ). (x : Record) → Begins l x → ⊥) (rest_is part e) none),
            within.reached,
          );
        },
        omega (arith, within.reached, within.good.place),
      )

  -- whether the next one is the first of its batch
  first_of : (rs : List Record) → done ≡ rs → (b : Bool) → (b ≡ true ↔ r.at ≡ r.body) → b ≡ is_first rs
  first_of [] e b is = is.1 (omega (arith, within.reached, within.begun, ap (λ (l : List Record). length (body_bytes l)) e))
  first_of (x ∷ rs) e b is = by_bool b refl
    where
      longer : 0 < length (body_bytes (x ∷ rs))
      longer = omega (arith, length-append (spelling x) (body_bytes rs), some_length x)

      by_bool : (c : Bool) → b ≡ c → b ≡ false
      by_bool false same = same
      by_bool true same = absurd (omega (arith, is.0 same, within.reached, within.begun, ap (λ (l : List Record). length (body_bytes l)) e, longer))

  module _ (s : Reading) (given : Placed) (part more : List ℕ) (can : CanBeSpelled given.entry) (part_is : part ≡ take (r.end - r.at) (drop (r.at - r.from) r.bytes)) (spells : part ≡ spelling given.entry ++ more)
      (at : s.at ≡ r.at + length (spelling given.entry)) (begun : s.body ≡ r.body) (ends : s.end ≡ r.end) (window : IsWindow log s) (place : given.at ≡ r.at) (tells : given.first ≡ true ↔ r.at ≡ r.body) where
    body_is : within.body ≡ body_bytes (done ++ given.entry ∷ []) ++ more
    body_is =
        within.begins.1 ∙ ap (λ (l : List ℕ). body_bytes done ++ l) (sym (rest_is part part_is) ∙ spells) ∙ sym (append_assoc (body_bytes done) (spelling given.entry) more)
        ∙ ap (λ (l : List ℕ). l ++ more) (bytes_push done given.entry)

    longer : length (body_bytes (done ++ given.entry ∷ [])) ≡ length (body_bytes done) + length (spelling given.entry)
    longer = sym (ap length (bytes_push done given.entry)) ∙ length-append (body_bytes done) (spelling given.entry)

    reached_is : s.at ≡ within.place + 5 + length (body_bytes (done ++ given.entry ∷ []))
    reached_is = omega (arith, at, within.reached, longer)

    by_more : (l : List ℕ) → more ≡ l → IsReadFrom log start front (done ++ given.entry ∷ []) s ⊎ IsReadFrom log start (front ++ (done ++ given.entry ∷ []) ∷ []) [] s
    by_more [] none =
        let body : within.body ≡ body_bytes (done ++ given.entry ∷ []) = body_is ∙ ap (λ (l : List ℕ). body_bytes (done ++ given.entry ∷ []) ++ l) none ∙ append-nil (body_bytes (done ++ given.entry ∷ [])) in
        let run = run_push log start front within.place within.body (done ++ given.entry ∷ []) within.good within.batch body (spelled_push done given.entry within.spelled can) in
        let stop : s.at ≡ within.place + 5 + length within.body = omega (arith, reached_is, ap length body) in
        inr (record { window = window; stands = inl (stop ∙ sym within.ends ∙ sym ends, subst (IsRun log start (front ++ (done ++ given.entry ∷ []) ∷ [])) (sym stop) run, refl) })
    by_more (b ∷ bs) some = inl (record {
      window = window;
      stands = inr (
        omega (arith, ends, within.ends, reached_is, ap length body_is, length-append (body_bytes (done ++ given.entry ∷ [])) more, ap length some),
        record {
          place = within.place;
          good = within.good;
          body = within.body;
          batch = within.batch;
          begun = begun ∙ within.begun;
          ends = ends ∙ within.ends;
          spelled = spelled_push done given.entry within.spelled can;
          reached = reached_is;
          begins = (more, body_is);
        },
      );
    })

    -- one more record
    pub record_read : HandsOut log start front done given s
    record_read = record {
      at = omega (arith, place, within.reached, within.good.place);
      first = first_of done refl given.first tells;
      goes = by_more more refl;
    }

-- ---- from the first batch of the file on
pub read_first : (log : List ℕ) (r : Reading) (index heap : ℕ) → IsReadFrom log 0 ((Format index heap ∷ []) ∷ []) [] r → IsReadTo log r (Format index heap ∷ [])
read_first log r index heap read = record { front = (Format index heap ∷ []) ∷ []; done = []; format = (index, heap, [], refl); read = read; records = refl }

pub read_on : (log : List ℕ) (r s : Reading) (given : Placed) → GoesOn log r given s → (rs : List Record) → IsReadTo log r rs → IsReadTo log s (rs ++ given.entry ∷ [])
read_on log r s given goes rs read = by_sum (goes 0 read.front read.done read.read).goes
  where
    more : List Record
    more = read.done ++ given.entry ∷ []

    records : rs ++ given.entry ∷ [] ≡ records_in read.front ++ more
    records = ap (λ (l : List Record). l ++ given.entry ∷ []) read.records ∙ append_assoc (records_in read.front) read.done (given.entry ∷ [])

    by_sum : IsReadFrom log 0 read.front more s ⊎ IsReadFrom log 0 (read.front ++ more ∷ []) [] s → IsReadTo log s (rs ++ given.entry ∷ [])
    by_sum (inl is) = record { front = read.front; done = more; format = read.format; read = is; records = records }
    by_sum (inr is) = record {
      front = read.front ++ more ∷ [];
      done = [];
      format = format_more read.front more read.format;
      read = is;
      records = records ∙ records_push read.front more ∙ sym (append-nil (records_in (read.front ++ more ∷ [])));
    }

pub read_all : (log : List ℕ) (r s : Reading) → EndsAt log r s → (rs : List Record) → IsReadTo log r rs → (L : List (List Record)) × LogOf log L s.at × (rs ≡ records_in L)
read_all log r s ends rs read =
    let is = ends 0 read.front read.done read.read in (
      read.front,
      log_ends log read.front s.at (front_of_run log read.front s.at read.format is.1.run) read.format is.1.closed,
      read.records ∙ ap (λ (l : List Record). records_in read.front ++ l) is.0 ∙ append-nil (records_in read.front),
    )

pub read_bad : (log : List ℕ) (r : Reading) (bad : ℕ) → IsBadFrom log r bad → (rs : List Record) → IsReadTo log r rs → BadAt log bad
read_bad log r bad is rs read = bad_behind log read.front bad read.format (is 0 read.front read.done read.read).0
