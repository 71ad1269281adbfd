-- Behind an image a log is bad at one place.
use Rattle.std.proofs.Common.{◌≡◌, ◌⊎◌, inl, inr, ⊎_elim, ℕ, ◌+◌, ◌≤◌, List, [], ◌∷◌, ◌++◌, Option, Some, None, length, drop, take, refl, ap, sym, subst, ◌∙◌, arith, append_assoc, length-append}
use Rattle.std.specs.Prelude.{IsNone}
use Rattle.std.proofs.lemmas.List.{append-nil, take_at}
use Rattle.std.proofs.lemmas.List.Concat.{flat_map-append}
use Rattle.dali_geometry.specs.Sizes.{Sizes}
use Rattle.dali_record.specs.declared.records.Record.{Record}
use Rattle.dali_record.specs.Files.{Files}
use Rattle.dali_record.specs.Spelling.{spelling}
use Rattle.dali_record.proofs.Spelled.{one_begins}
use Rattle.dali_log.specs.Batch.{batch, batches}
use Rattle.dali_log.specs.Finding.{BatchAt, IsBad}
use Rattle.dali_log.specs.Log.{AreSpelled, BadBehind, IsRun, NoRecordAt, bodies, body_bytes}
use Rattle.dali_log.proofs.Fronts.{open_of_batch}
use Rattle.dali_log.proofs.Unique.{front_of, same_batch, same_place, some_bytes, whole_is_good, no_batch}
use Rattle.dali_resume.specs.Again.{Outcome}
use Rattle.dali_resume.specs.Batches.{bad_of, earlier, misplaced, records_of, verdict_over}
use Rattle.dali_resume.specs.Onward.{HandedOut, Misfit as NamedMisfit, goes_through, hands_on, verdict_by}
use Rattle.dali_resume.specs.Tests.{known_at}
use Rattle.dali_resume.proofs.Batches.{finds_misplaced}
use Rattle.dali_resume.proofs.Walks.{finds_first_bad}
use Rattle.dali_recovery.specs.Reload.Laws.{OneBadPlace}
use Rattle.dali_recovery.specs.Reload.Reading.{FailsAt, HasRecords, IsBadBehind, Passes}
use Rattle.dali_recovery.proofs.ReloadLemmas.Tails.{More, both, run_is}

-- ---- two runs from one place
two_runs : (log : List ℕ) (p : ℕ) (L M : List (List Record)) (q r : ℕ) → IsRun log p L q → IsRun log p M r
    → ((L ≡ M) × (q ≡ r)) ⊎ More L M (drop q log) ⊎ More M L (drop r log)
two_runs log p L M q r a b = ⊎_elim
    (λ (w : (L ≡ M) × (drop q log ≡ drop r log)). inl (
      w.0,
      let same : length (batches (bodies L)) ≡ length (batches (bodies M)) = ap (λ Q. length (batches (bodies Q))) w.0 in omega
          (arith, same, a.place, b.place),
    ))
    (λ (w : More L M (drop q log) ⊎ More M L (drop r log)). inr w)
    (both L M (drop q log) (drop r log) a.each b.each a.sizes b.sizes (sym (run_is log p L q a) ∙ run_is log p M r b))

-- ---- bad bytes
abbrev IsBadThere : List ℕ → ℕ → ℕ → Type 0
IsBadThere log q at = IsBad log q at ⊎ ((body : List ℕ) × (within : ℕ) × BatchAt log q body × NoRecordAt body within × (at ≡ q + 5 + within))

-- a batch stands there
batch_not_bad : (log : List ℕ) (q at : ℕ) (body : List ℕ) → BatchAt log q body → IsBad log q at → ⊥
batch_not_bad log q at body found (inl z) = omega (arith, z.0, (open_of_batch log q body found).0)
batch_not_bad log q at body found (inr z) = no_batch log q body found z.0

-- no whole batch stands there
goes_not_bad : (log : List ℕ) (q at : ℕ) (L M : List (List Record)) → More L M (drop q log) → IsBadThere log q at → ⊥
goes_not_bad log q at L M w (inl z) = batch_not_bad log q at (body_bytes w.next) (w.size, w.rest, w.stands) z
goes_not_bad log q at L M w (inr z) =
    whole_is_good w.next z.0 z.1 w.spelled (same_batch z.0 (body_bytes w.next) z.2.1 w.rest z.2.0 w.size (sym z.2.2 ∙ w.stands)).0 z.3

same_bad : (log : List ℕ) (p at bt : ℕ) → IsBadThere log p at → IsBadThere log p bt → at ≡ bt
same_bad log p at bt (inl (inl a)) (inl (inl b)) = a.1 ∙ sym b.1
same_bad log p at bt (inl (inl a)) (inl (inr b)) = absurd (omega (arith, a.0, b.0.gate.0))
same_bad log p at bt (inl (inr a)) (inl (inl b)) = absurd (omega (arith, b.0, a.0.gate.0))
same_bad log p at bt (inl (inr a)) (inl (inr b)) = a.1 ∙ sym b.1
same_bad log p at bt (inl a) (inr b) = absurd (batch_not_bad log p at b.0 b.2 a)
same_bad log p at bt (inr a) (inl b) = absurd (batch_not_bad log p bt a.0 a.2 b)
same_bad log p at bt (inr a) (inr b) =
    let same = same_batch a.0 b.0 a.2.1 b.2.1 a.2.0 b.2.0 (sym a.2.2 ∙ b.2.2) in
    let within = same_place b.0 a.1 b.1 (subst (λ (body : List ℕ). NoRecordAt body a.1) same.0 a.3) b.3 in
    omega (arith, a.4, b.4, within)

one_bad_behind : (log : List ℕ) (p : ℕ) (L M : List (List Record)) (at bt : ℕ) → BadBehind log p L at → BadBehind log p M bt → at ≡ bt
one_bad_behind log p L M at bt a b = ⊎_elim
    (λ w. same_bad log b.place at bt (subst (λ (q : ℕ). IsBadThere log q at) w.1 a.bad) b.bad)
    (λ w. absurd (⊎_elim (λ one. goes_not_bad log a.place at L M one a.bad) (λ two. goes_not_bad log b.place bt M L two b.bad) w))
    (two_runs log p L M a.place b.place a.good b.good)

-- ---- two rows of records from one place
-- the second row is this much longer
record Longer (rs ss : List Record) (x y : List ℕ) : Type 0 where
  later : List Record
  spelled : AreSpelled later
  goes : ss ≡ rs ++ later
  rest : x ≡ body_bytes later ++ y

longer_by : (r s : Record) (rs ss : List Record) (x y : List ℕ) → r ≡ s → Longer rs ss x y → Longer (r ∷ rs) (s ∷ ss) x y
longer_by r s rs ss x y one w =
    record { later = w.later; spelled = w.spelled; goes = ap (λ l. s ∷ l) w.goes ∙ ap (λ q. q ∷ (rs ++ w.later)) (sym one); rest = w.rest }

record_rows : (rs ss : List Record) (x y : List ℕ) → AreSpelled rs → AreSpelled ss → body_bytes rs ++ x ≡ body_bytes ss ++ y
    → Longer rs ss x y ⊎ Longer ss rs y x
record_rows [] ss x y one two e = inl (record { later = ss; spelled = two; goes = refl; rest = e })
record_rows (r ∷ rs) [] x y one two e = inr (record { later = r ∷ rs; spelled = one; goes = refl; rest = sym e })
record_rows (r ∷ rs) (s ∷ ss) x y one two e =
    let first = one_begins r s (body_bytes rs ++ x) (body_bytes ss ++ y) one.0 two.0 (sym (append_assoc (spelling r) (body_bytes rs) x)
    ∙ (e ∙ append_assoc (spelling s) (body_bytes ss) y)) in
    ⊎_elim (λ (w : Longer rs ss x y). inl (longer_by r s rs ss x y first.0 w))
    (λ (w : Longer ss rs y x). inr (longer_by s r ss rs y x (sym first.0) w))
    (record_rows rs ss x y one.1 two.1 first.1)

long_more : (rs later : List Record) → length (body_bytes (rs ++ later)) ≡ length (body_bytes rs) + length (body_bytes later)
long_more rs later = ap length (flat_map-append spelling rs later) ∙ length-append (body_bytes rs) (body_bytes later)

-- behind a place where no record begins
no_longer : (body : List ℕ) (within : ℕ) (rs : List Record) (rest : List ℕ) → NoRecordAt body within → AreSpelled rs → body ≡ body_bytes rs ++ rest
    → length (body_bytes rs) ≤ within
no_longer body within rs rest none all e = ⊎_elim
    (λ (w : Longer none.0 rs none.1 rest). by_later w.later w.spelled w.goes w.rest)
    (λ (w : Longer rs none.0 rest none.1). omega (arith, none.4, ap (λ l. length (body_bytes l)) w.goes, long_more rs w.later))
    (record_rows none.0 rs none.1 rest none.2 all (sym none.3 ∙ e))
  where
    by_later : (later : List Record) → AreSpelled later → rs ≡ none.0 ++ later → none.1 ≡ body_bytes later ++ rest → length (body_bytes rs) ≤ within
    by_later [] spelled goes behind = omega (arith, none.4, ap (λ l. length (body_bytes l)) goes, long_more none.0 [])
    by_later (r ∷ later) spelled goes behind =
        absurd (none.6 r (spelled.0, body_bytes later ++ rest, behind ∙ append_assoc (spelling r) (body_bytes later) rest))

-- ---- the first record that fails
same_done : (da db later : List Record) (fa fb : Record) → db ++ fb ∷ [] ≡ da ++ fa ∷ later → length da ≡ length db → da ≡ db
same_done da db later fa fb e n =
    sym (take_at da (fa ∷ later) (length da) refl) ∙ (ap (take (length da)) (sym e) ∙ take_at db (fb ∷ []) (length da) (sym n))

same_misfit : (m n : ℕ) → NamedMisfit m ≡ NamedMisfit n → m ≡ n
same_misfit m n e = cc

-- records that pass fail nowhere
none_is : (o : Option ℕ) → IsNone o → o ≡ None
none_is None h = refl
none_is (Some i) h = absurd (cc)

passing : (s : Sizes) (F : Files) (bs : List (List Record)) (m : ℕ) → Passes s F bs → verdict_over s F bs ≡ NamedMisfit m → ⊥
passing s F bs m p e =
    let o = hands_on s (goes_through s F (records_of bs)) in
    let rule : bad_of s F bs ≡ None = none_is (bad_of s F bs) ((finds_first_bad s F.first (known_at F.first F.next F.table) (records_of bs)).0.1 p.rules) in
    let place : misplaced bs ≡ None = (finds_misplaced bs).0.1 p.first in
    let handed : verdict_over s F bs ≡ HandedOut o =
    ap (λ a. verdict_by F.first o (earlier a (misplaced bs))) rule ∙ ap (λ b. verdict_by F.first o (earlier None b)) place in
    apart o (sym handed ∙ e)
  where
    apart : (o : Outcome) → HandedOut o ≡ NamedMisfit m → ⊥
    apart o f = cc

module _ (log : List ℕ) (s : Sizes) (F : Files) where
  -- the records of its batch up to it
  abbrev up_to : (at : ℕ) → FailsAt log s F at → List Record
  up_to at a = a.done ++ a.failing ∷ []

  -- a batch stands there that begins with them
  record Holds (at : ℕ) (a : FailsAt log s F at) (M : List (List Record)) : Type 0 where
    later : List Record
    others : List (List Record)
    goes : M ≡ a.front ++ (a.done ++ a.failing ∷ later) ∷ others

  batch_holds : (at : ℕ) (a : FailsAt log s F at) (M : List (List Record)) → More a.front M (drop a.stands.place log) → Holds at a M
  batch_holds at a M w =
      let ra = up_to at a in
      let body = same_batch (body_bytes ra ++ a.stands.rest) (body_bytes w.next) a.stands.batch.1 w.rest a.stands.batch.0 w.size (sym a.stands.batch.2
      ∙ w.stands) in
      let front = front_of ra w.next a.stands.rest a.stands.spelled w.spelled body.0 in
      let next : w.next ≡ a.done ++ a.failing ∷ front.0 = front.2 ∙ append_assoc a.done (a.failing ∷ []) front.0 in
      record { later = front.0; others = w.others; goes = w.goes ∙ ap (λ q. a.front ++ q ∷ w.others) next }

  -- the same batch
  with_longer : (at bt : ℕ) (a : FailsAt log s F at) (b : FailsAt log s F bt) (later : List Record) → a.front ≡ b.front
      → up_to bt b ≡ up_to at a ++ later → at ≡ bt
  with_longer at bt a b later same longer =
      let there : up_to bt b ≡ a.done ++ a.failing ∷ later = longer ∙ append_assoc a.done (a.failing ∷ []) later in
      let whole : b.front ++ up_to bt b ∷ [] ≡ a.front ++ (a.done ++ a.failing ∷ later) ∷ [] =
      ap (λ Q. Q ++ up_to bt b ∷ []) (sym same) ∙ ap (λ q. a.front ++ q ∷ []) there in
      let number = same_misfit (F.first + length (records_of a.front ++ a.done)) (F.first + length (records_of b.front ++ b.done)) (sym (a.verdict later [])
      ∙ (ap (verdict_over s F) (sym whole) ∙ b.verdict [] [])) in
      let count : length a.done ≡ length b.done =
      omega (arith, number, length-append (records_of a.front) a.done, length-append (records_of b.front) b.done, ap (λ Q. length (records_of Q)) same) in
      let done = same_done a.done b.done later a.failing b.failing there count in
      omega (arith, a.place, b.place, ap (λ Q. length (batches (bodies Q))) same, ap (λ d. length (body_bytes d)) done)

  same_front : (at bt : ℕ) (a : FailsAt log s F at) (b : FailsAt log s F bt) → a.front ≡ b.front → a.stands.place ≡ b.stands.place → at ≡ bt
  same_front at bt a b same place =
      let ra = up_to at a in
      let rb = up_to bt b in
      let body =
      same_batch (body_bytes ra ++ a.stands.rest) (body_bytes rb ++ b.stands.rest) a.stands.batch.1 b.stands.batch.1 a.stands.batch.0 b.stands.batch.0
      (sym a.stands.batch.2 ∙ (ap (λ (n : ℕ). drop n log) place ∙ b.stands.batch.2)) in
      ⊎_elim (λ (w : Longer ra rb a.stands.rest b.stands.rest). with_longer at bt a b w.later same w.goes)
      (λ (w : Longer rb ra b.stands.rest a.stands.rest). sym (with_longer bt at b a w.later (sym same) w.goes))
      (record_rows ra rb a.stands.rest b.stands.rest a.stands.spelled b.stands.spelled body.0)

  -- an earlier batch
  before : (at bt : ℕ) (a : FailsAt log s F at) (b : FailsAt log s F bt) → More a.front b.front (drop a.stands.place log) → ⊥
  before at bt a b w =
      let rb = up_to bt b in
      let h = batch_holds at a b.front w in
      let later = h.later in
      let whole : b.front ++ rb ∷ [] ≡ a.front ++ (a.done ++ a.failing ∷ later) ∷ (h.others ++ rb ∷ []) = ap (λ Q. Q ++ rb ∷ []) h.goes
      ∙ append_assoc a.front ((a.done ++ a.failing ∷ later) ∷ h.others) (rb ∷ []) in
      let number =
      same_misfit (F.first + length (records_of a.front ++ a.done)) (F.first + length (records_of b.front ++ b.done))
      (sym (a.verdict later (h.others ++ rb ∷ [])) ∙ (ap (verdict_over s F) (sym whole) ∙ b.verdict [] [])) in
      let records : records_of b.front ≡ records_of a.front ++ ((a.done ++ a.failing ∷ later) ++ records_of h.others) = ap records_of h.goes
      ∙ flat_map-append (λ q. q) a.front ((a.done ++ a.failing ∷ later) ∷ h.others) in
      omega (
        arith,
        number,
        length-append (records_of a.front) a.done,
        length-append (records_of b.front) b.done,
        ap length records,
        length-append (records_of a.front) ((a.done ++ a.failing ∷ later) ++ records_of h.others),
        length-append (a.done ++ a.failing ∷ later) (records_of h.others),
        length-append a.done (a.failing ∷ later),
      )

  one_fails : (at bt : ℕ) → FailsAt log s F at → FailsAt log s F bt → at ≡ bt
  one_fails at bt a b = ⊎_elim
      (λ w. same_front at bt a b w.0 w.1)
      (λ w. absurd (⊎_elim (λ one. before at bt a b one) (λ two. before bt at b a two) w))
      (two_runs log F.place a.front b.front a.stands.place b.stands.place a.stands.run b.stands.run)

  -- ---- bad bytes and a record that fails
  module _ (at bt : ℕ) (a : IsBadBehind log s F at) (b : FailsAt log s F bt) where
    -- it isn't among those that pass
    never : (rest : List Record) (more : List (List Record)) → a.front ++ a.done ∷ [] ≡ b.front ++ (b.done ++ b.failing ∷ rest) ∷ more → ⊥
    never rest more e =
        passing s F (a.front ++ a.done ∷ []) (F.first + length (records_of b.front ++ b.done)) a.passes (ap (verdict_over s F) e ∙ b.verdict rest more)

    -- the records that were read of the batch
    record AreRead (body : List ℕ) : Type 0 where
      spelled : AreSpelled a.done
      rest : List ℕ
      bytes : body ≡ body_bytes a.done ++ rest

    are_read : (body : List ℕ) → BatchAt log a.bad.place body → AreRead body
    are_read body found = ⊎_elim
        (λ (none : a.done ≡ []). record {
          spelled = subst AreSpelled (sym none) tt;
          rest = body;
          bytes = ap (λ (d : List Record). body_bytes d ++ body) (sym none);
        })
        (λ (has : HasRecords log F.place a.front a.done).
        let here : has.place ≡ a.bad.place = omega (arith, has.run.place, a.bad.good.place) in
        record {
          spelled = has.spelled;
          rest = has.rest;
          bytes = (same_batch body (body_bytes a.done ++ has.rest) found.1 has.batch.1 found.0 has.batch.0
              (sym found.2 ∙ (ap (λ (n : ℕ). drop n log) (sym here) ∙ has.batch.2))).0;
        })
        a.read

    -- the batch of both
    module _ (same : a.front ≡ b.front) (body : List ℕ) (within : ℕ) (found : BatchAt log a.bad.place body) (none : NoRecordAt body within)
        (reached : within ≤ length (body_bytes a.done)) (stands : body ≡ body_bytes (up_to bt b) ++ b.stands.rest) where
      in_done : (later : List Record) → a.done ≡ up_to bt b ++ later → ⊥
      in_done later goes =
          never later [] (ap (λ (Q : List (List Record)). Q ++ a.done ∷ []) same
          ∙ ap (λ q. b.front ++ q ∷ []) (goes ∙ append_assoc b.done (b.failing ∷ []) later))

      behind_done : (later : List Record) → up_to bt b ≡ a.done ++ later → ⊥
      behind_done [] goes = in_done [] (sym (append-nil a.done) ∙ (sym goes ∙ sym (append-nil (up_to bt b))))
      behind_done (r ∷ later) goes =
          let long : length (body_bytes (up_to bt b)) ≤ within = no_longer body within (up_to bt b) b.stands.rest none b.stands.spelled stands in
          let more = some_long r later in
          omega (arith, long, reached, ap (λ l. length (body_bytes l)) goes, long_more a.done (r ∷ later), more)
        where
          some_long : (r : Record) (later : List Record) → 1 ≤ length (body_bytes (r ∷ later))
          some_long r later = by_list (body_bytes (r ∷ later)) refl
            where
              by_list : (l : List ℕ) → body_bytes (r ∷ later) ≡ l → 1 ≤ length (body_bytes (r ∷ later))
              by_list [] e = absurd (some_bytes r (body_bytes later) (sym e))
              by_list (x ∷ xs) e = omega (arith, ap length e)

      in_batch : ⊥
      in_batch =
          let w = are_read body found in
          ⊎_elim (λ (v : Longer (up_to bt b) a.done b.stands.rest w.rest). in_done v.later v.goes)
          (λ (v : Longer a.done (up_to bt b) w.rest b.stands.rest). behind_done v.later v.goes)
          (record_rows (up_to bt b) a.done b.stands.rest w.rest b.stands.spelled w.spelled (sym stands ∙ w.bytes))

    same_batches : a.front ≡ b.front → a.bad.place ≡ b.stands.place → IsBadThere log a.bad.place at → ⊥
    same_batches same place (inl z) = batch_not_bad log b.stands.place at _ b.stands.batch (subst (λ (q : ℕ). IsBad log q at) place z)
    same_batches same place (inr z) =
        let there = same_batch z.0 (body_bytes (up_to bt b) ++ b.stands.rest) z.2.1 b.stands.batch.1 z.2.0 b.stands.batch.0
        (sym z.2.2 ∙ (ap (λ (n : ℕ). drop n log) place ∙ b.stands.batch.2)) in
        in_batch same z.0 z.1 z.2 z.3 (omega (arith, a.reached, z.4, a.bad.good.place)) there.0

    pub never_both : ⊥
    never_both = ⊎_elim
        (λ w. same_batches w.0 w.1 a.bad.bad)
        (λ w. ⊎_elim (λ one. goes_not_bad log a.bad.place at a.front b.front one a.bad.bad)
        (λ two. let h = batch_holds bt b a.front two in never h.later (h.others ++ a.done ∷ [])
        (ap (λ Q. Q ++ a.done ∷ []) h.goes ∙ append_assoc b.front ((b.done ++ b.failing ∷ h.later) ∷ h.others) (a.done ∷ []))) w)
        (two_runs log F.place a.front b.front a.bad.place b.stands.place a.bad.good b.stands.run)

pub one_bad_place : OneBadPlace
one_bad_place log s F at bt (inl a) (inl b) = one_bad_behind log F.place a.front b.front at bt a.bad b.bad
one_bad_place log s F at bt (inl a) (inr b) = absurd (never_both log s F at bt a b)
one_bad_place log s F at bt (inr a) (inl b) = absurd (never_both log s F bt at b a)
one_bad_place log s F at bt (inr a) (inr b) = one_fails log s F at bt a b
