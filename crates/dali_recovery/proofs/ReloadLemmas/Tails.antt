-- What stands at a place of a log, against the batches that the log has there.
use Rattle.std.proofs.Common.{◌≡◌, ◌⊎◌, inl, inr, ⊎_elim, ℕ, ◌+◌, ◌<◌, List, [], ◌∷◌, ◌++◌, refl, ap, sym, subst, ◌∙◌, arith, length, drop, append_assoc, length-append, take-append-drop}
use Rattle.std.specs.List.{AllByRecursion}
use Rattle.std.proofs.lemmas.List.{append-nil, drop-drop}
use Rattle.dali_record.specs.declared.records.Record.{Record}
use Rattle.dali_record.specs.Spelling.{spelling}
use Rattle.dali_record.proofs.Spelled.{one_begins}
use Rattle.dali_log.specs.Batch.{IsBody, IsClosedAt, IsOpenAt, batch, batches}
use Rattle.dali_log.specs.Finding.{BatchAt, IsBad}
use Rattle.dali_log.specs.Log.{AreSpelled, BadBehind, IsRun, NoRecordAt, TailOf, bodies, body_bytes}
use Rattle.dali_log.proofs.Fronts.{open_of_batch}
use Rattle.dali_log.proofs.Unique.{front_of, same_batch, same_records, whole_is_good, no_batch}
use Rattle.dali_resume.specs.Batches.{records_of}
use Rattle.dali_recovery.specs.Reload.Reading.{HasRecords}
use Rattle.dali_recovery.proofs.ReloadLemmas.Lists.{records_with}

-- no batch stands in front
abbrev Shut : List ℕ → Type 0
Shut y = (body rest : List ℕ) → IsBody body → y ≡ batch body ++ rest → ⊥

pub record More (L M : List (List Record)) (x : List ℕ) : Type 0 where
  pub next : List Record
  pub others : List (List Record)
  pub rest : List ℕ
  pub goes : M ≡ L ++ next ∷ others
  pub stands : x ≡ batch (body_bytes next) ++ rest
  pub size : IsBody (body_bytes next)
  pub spelled : AreSpelled next

-- of both all whole batches are the same, or one of them goes on
pub both : (L M : List (List Record)) (x y : List ℕ) → AllByRecursion AreSpelled L → AllByRecursion AreSpelled M → AllByRecursion IsBody (bodies L)
    → AllByRecursion IsBody (bodies M)
    → batches (bodies L) ++ x ≡ batches (bodies M) ++ y → ((L ≡ M) × (x ≡ y)) ⊎ More L M x ⊎ More M L y
both [] [] x y al am bl bm e = inl (refl, e)
both [] (m ∷ M) x y al am bl bm e = inr (inl (record { next = m; others = M; rest = batches (bodies M) ++ y; goes = refl; stands = e ∙ append_assoc (batch (body_bytes m)) (batches (bodies M)) y; size = bm.0; spelled = am.0 }))
both (l ∷ L) [] x y al am bl bm e = inr (inr (record { next = l; others = L; rest = batches (bodies L) ++ x; goes = refl; stands = sym e ∙ append_assoc (batch (body_bytes l)) (batches (bodies L)) x; size = bl.0; spelled = al.0 }))
both (l ∷ L) (m ∷ M) x y al am bl bm e =
    let same = same_batch (body_bytes l) (body_bytes m) (batches (bodies L) ++ x) (batches (bodies M) ++ y) bl.0 bm.0 (sym (append_assoc (batch (body_bytes l)) (batches (bodies L)) x) ∙ (e ∙ append_assoc (batch (body_bytes m)) (batches (bodies M)) y)) in
    let one = same_records l m al.0 am.0 same.0 in
    ⊎_elim (λ (w : (L ≡ M) × (x ≡ y)). inl (ap (λ q. q ∷ L) one ∙ ap (λ Q. m ∷ Q) w.0, w.1))
    (λ (z : More L M x ⊎ More M L y). ⊎_elim
    (λ (w : More L M x). inr (inl (record { next = w.next; others = w.others; rest = w.rest; goes = ap (λ Q. m ∷ Q) w.goes ∙ ap (λ q. q ∷ (L ++ w.next ∷ w.others)) (sym one); stands = w.stands; size = w.size; spelled = w.spelled })))
    (λ (w : More M L y). inr (inr (record { next = w.next; others = w.others; rest = w.rest; goes = ap (λ Q. l ∷ Q) w.goes ∙ ap (λ q. q ∷ (M ++ w.next ∷ w.others)) one; stands = w.stands; size = w.size; spelled = w.spelled }))) z)
    (both L M x y al.1 am.1 bl.1 bm.1 same.1)

rows : (L M : List (List Record)) (x y : List ℕ) → AllByRecursion AreSpelled L → AllByRecursion AreSpelled M → AllByRecursion IsBody (bodies L)
    → AllByRecursion IsBody (bodies M) → Shut y
    → batches (bodies L) ++ x ≡ batches (bodies M) ++ y → ((L ≡ M) × (x ≡ y)) ⊎ More L M x
rows L M x y al am bl bm shut e =
    ⊎_elim (λ w. inl w) (λ z. ⊎_elim (λ w. inr w) (λ (w : More M L y). absurd (shut (body_bytes w.next) w.rest w.size w.stands)) z) (both L M x y al am bl bm e)

pub run_is : (log : List ℕ) (p : ℕ) (L : List (List Record)) (q : ℕ) → IsRun log p L q → drop p log ≡ batches (bodies L) ++ drop q log
run_is log p L q run =
    let old = batches (bodies L) in
    sym (take-append-drop (length old) (drop p log))
    ∙ (ap (λ z. z ++ drop (length old) (drop p log)) run.spells
    ∙ (ap (λ z. old ++ z) (drop-drop (length old) p log)
    ∙ ap (λ (n : ℕ). old ++ drop n log) (sym run.place)))

-- a batch of the log stands behind these, or the log ends there
pub record Goes (log : List ℕ) (L M : List (List Record)) (q : ℕ) : Type 0 where
  pub next : List Record
  pub others : List (List Record)
  pub goes : M ≡ L ++ next ∷ others
  pub stands : BatchAt log q (body_bytes next)
  pub spelled : AreSpelled next

pub fork : (log : List ℕ) (p : ℕ) (L M : List (List Record)) (q e : ℕ) → IsRun log p L q → TailOf log p M e → ((L ≡ M) × (q ≡ e)) ⊎ Goes log L M q
fork log p L M q e run tail =
    ⊎_elim
    (λ w. inl (w.0, let same : length (batches (bodies L)) ≡ length (batches (bodies M)) = ap (λ Q. length (batches (bodies Q))) w.0 in omega (arith, same, run.place, tail.run.place)))
    (λ (w : More L M (drop q log)). inr (record { next = w.next; others = w.others; goes = w.goes; stands = (w.size, w.rest, w.stands); spelled = w.spelled }))
    (rows L M (drop q log) (drop e log) run.each tail.run.each run.sizes tail.run.sizes (λ body rest is f. tail.closed.1 (open_of_batch log e body (is, rest, f)).1) (sym (run_is log p L q run) ∙ run_is log p M e tail.run))

pub closed_here : (log : List ℕ) (q e : ℕ) (body : List ℕ) → q ≡ e → IsClosedAt e log → BatchAt log q body → ⊥
closed_here log q e body same shut found = shut.1 (open_of_batch log e body (subst (λ n. BatchAt log n body) same found)).1

-- a tail is one row of batches
pub one_tail : (log : List ℕ) (p : ℕ) (L M : List (List Record)) (q e : ℕ) → TailOf log p L q → TailOf log p M e → (L ≡ M) × (q ≡ e)
one_tail log p L M q e one two =
    ⊎_elim (λ w. w) (λ w. absurd (closed_here log q q (body_bytes w.next) refl one.closed w.stands)) (fork log p L M q e one.run two)

-- records that stand there are those of its batch
pub has_batch : (log : List ℕ) (p : ℕ) (L M : List (List Record)) (rs : List Record) (e : ℕ) → HasRecords log p L rs → TailOf log p M e
    → (later : List Record) × (others : List (List Record)) × (M ≡ L ++ (rs ++ later) ∷ others)
has_batch log p L M rs e has tail =
    ⊎_elim (λ w. absurd (closed_here log has.place e _ w.1 tail.closed has.batch)) more (fork log p L M has.place e has.run tail)
  where
    more : Goes log L M has.place → (later : List Record) × (others : List (List Record)) × (M ≡ L ++ (rs ++ later) ∷ others)
    more w =
        let same = same_batch (body_bytes rs ++ has.rest) (body_bytes w.next) has.batch.1 w.stands.1 has.batch.0 w.stands.0 (sym has.batch.2 ∙ w.stands.2) in
        let front = front_of rs w.next has.rest has.spelled w.spelled same.0 in
        (front.0, w.others, w.goes ∙ ap (λ b. L ++ b ∷ w.others) front.2)

-- ---- two rows of batches that stand there
-- a record that stands first in its batch: so many records end before it, or it is the last of them, or it is one before
pub data Meets (L M : List (List Record)) (rs : List Record) (g r : Record) : Type 0 where
  Ahead : (later : List Record) → (others : List (List Record)) → M ≡ L ++ (rs ++ g ∷ later) ∷ others → Meets L M rs g r
  Here : M ≡ L → rs ≡ [] → r ≡ g → Meets L M rs g r
  Behind : length (records_of M) < length (records_of L ++ rs) → Meets L M rs g r

pub meets : (log : List ℕ) (p : ℕ) (L M : List (List Record)) (rs : List Record) (g r : Record) → HasRecords log p L (rs ++ g ∷ [])
    → HasRecords log p M (r ∷ []) → Meets L M rs g r
meets log p L M rs g r one two =
    ⊎_elim (λ w. same rs w.0 one.spelled (bodies_same w.1)) (λ z. ⊎_elim ahead behind z)
    (both L M (drop one.place log) (drop two.place log) one.run.each two.run.each one.run.sizes two.run.sizes (sym (run_is log p L one.place one.run) ∙ run_is log p M two.place two.run))
  where
    bodies_same : drop one.place log ≡ drop two.place log → body_bytes (rs ++ g ∷ []) ++ one.rest ≡ body_bytes (r ∷ []) ++ two.rest
    bodies_same e = (same_batch (body_bytes (rs ++ g ∷ []) ++ one.rest) (body_bytes (r ∷ []) ++ two.rest) one.batch.1 two.batch.1 one.batch.0 two.batch.0 (sym one.batch.2 ∙ (e ∙ two.batch.2))).0

    same : (qs : List Record) → L ≡ M → AreSpelled (qs ++ g ∷ []) → body_bytes (qs ++ g ∷ []) ++ one.rest ≡ body_bytes (r ∷ []) ++ two.rest → Meets L M qs g r
    same [] e all f = Here (sym e) refl (sym (one_begins g r one.rest two.rest all.0 two.spelled.0 (ap (λ (z : List ℕ). z ++ one.rest) (sym (append-nil (spelling g))) ∙ (f ∙ ap (λ (z : List ℕ). z ++ two.rest) (append-nil (spelling r))))).0)
    same (q ∷ qs) e all f = Behind (omega (arith, ap (λ (z : List (List Record)). length (records_of z)) e, length-append (records_of L) (q ∷ qs)))

    ahead : More L M (drop one.place log) → Meets L M rs g r
    ahead w =
        let bytes = same_batch (body_bytes (rs ++ g ∷ []) ++ one.rest) (body_bytes w.next) one.batch.1 w.rest one.batch.0 w.size (sym one.batch.2 ∙ w.stands) in
        let front = front_of (rs ++ g ∷ []) w.next one.rest one.spelled w.spelled bytes.0 in
        Ahead front.0 w.others (w.goes ∙ ap (λ b. L ++ b ∷ w.others) (front.2 ∙ append_assoc rs (g ∷ []) front.0))

    behind : More M L (drop two.place log) → Meets L M rs g r
    behind w =
        let bytes = same_batch (body_bytes (r ∷ []) ++ two.rest) (body_bytes w.next) two.batch.1 w.rest two.batch.0 w.size (sym two.batch.2 ∙ w.stands) in
        let front = front_of (r ∷ []) w.next two.rest two.spelled w.spelled bytes.0 in
        Behind (omega (arith, ap (λ (z : List (List Record)). length (records_of z)) w.goes, ap length (records_with M w.next w.others), length-append (records_of M) (w.next ++ records_of w.others), length-append w.next (records_of w.others), ap length front.2, length-append (records_of L) rs))

-- ---- no place is bad

pub none_bad : (log : List ℕ) (p : ℕ) (L M : List (List Record)) (e at : ℕ) → BadBehind log p L at → TailOf log p M e → ⊥
none_bad log p L M e at b tail = ⊎_elim (λ w. ended w.1 b.bad) (λ w. goes w b.bad) (fork log p L M b.place e b.good tail)
  where
    ended : b.place ≡ e
        → IsBad log b.place at ⊎ ((body : List ℕ) × (within : ℕ) × BatchAt log b.place body × NoRecordAt body within × (at ≡ b.place + 5 + within))
        → ⊥
    ended same (inl (inl z)) = omega (arith, z.0, same, tail.closed.0)
    ended same (inl (inr z)) = tail.closed.1 (subst (λ n. IsOpenAt n log) same z.0.gate).1
    ended same (inr z) = closed_here log b.place e z.0 same tail.closed z.2

    goes : Goes log L M b.place
        → IsBad log b.place at ⊎ ((body : List ℕ) × (within : ℕ) × BatchAt log b.place body × NoRecordAt body within × (at ≡ b.place + 5 + within))
        → ⊥
    goes w (inl (inl z)) = omega (arith, z.0, (open_of_batch log b.place (body_bytes w.next) w.stands).0)
    goes w (inl (inr z)) = no_batch log b.place (body_bytes w.next) w.stands z.0
    goes w (inr z) =
        whole_is_good w.next z.0 z.1 w.spelled (same_batch z.0 (body_bytes w.next) z.2.1 w.stands.1 z.2.0 w.stands.0 (sym z.2.2 ∙ w.stands.2)).0 z.3
