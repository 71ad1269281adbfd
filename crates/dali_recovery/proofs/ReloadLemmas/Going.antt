-- The loop over the records of a log.
use Rattle.std.proofs.Common.{◌≡◌, ◌⊎◌, inl, inr, ⊎_elim, ℕ, ◌+◌, ◌-◌, ◌^◌, ◌≤◌, ◌<◌, Bool, true, false, cond, List, [], ◌∷◌, ◌++◌, Option, Some, None, map, refl, ap, sym, subst, ◌∙◌, arith, length, length-append}
use Rattle.std.specs.Prelude.{sum_by, IfSome, IsSome}
use Rattle.std.specs.List.{list_all, list_any}
use Rattle.std.proofs.lemmas.Bool.{cases_eq}
use Rattle.std.proofs.lemmas.List.{append-nil, nil_from_length}
use Rattle.std.proofs.lemmas.List.Sums.{sum_by-append}
use Rattle.dali_geometry.specs.Sizes.{Sizes}
use Rattle.dali_record.specs.declared.records.Record.{Record}
use Rattle.dali_record.specs.declared.records.Record.TheVariants.{Restarted}
use Rattle.dali_record.specs.Files.{Files, is_restarted, is_restarted_first}
use Rattle.dali_record.specs.Log.{last_of}
use Rattle.dali_record.specs.Spelling.{CanBeSpelled, record_length}
use Rattle.dali_record.proofs.Lengths.{length-spelling}
use Rattle.dali_log.specs.declared.reader.Placed.{Placed}
use Rattle.dali_log.specs.Batch.{batches}
use Rattle.dali_log.specs.Log.{IsRun, TailOf, bodies}
use Rattle.dali_log.specs.Stream.{EndsAt, GoesOn, HandsOut, IsBadFrom, IsReadFrom, IsWindow, IsWithin, Reading, is_first, place_of}
use Rattle.dali_resume.specs.Batches.{records_of, verdict_over}
use Rattle.dali_resume.specs.Laws.{is_audit_fail}
use Rattle.dali_resume.specs.Onward.{HandedOut, Misfit as NamedMisfit, goes_through}
use Rattle.dali_resume.specs.Rules.{ends_restarted}
use Rattle.dali_resume.specs.Tests.{known_at, tests}
use Rattle.dali_resume.proofs.Batches.{is_a_restart}
use Rattle.dali_recovery.specs.Laws.{IsBehind, damage_through, outcome_of}
use Rattle.dali_recovery.specs.Standing.{Fails, HandsOn, TellsDamage, is_unscanned}
use Rattle.dali_recovery.specs.declared.error.RecoveryError.TheVariants.{Misfit, Unscanned}
use Rattle.dali_recovery.specs.declared.recovery.Damage.{Damage as Told}
use Rattle.dali_recovery.specs.declared.recovery.Recovery.{Recovery}
use Rattle.dali_recovery.proofs.Whole.{scans_behind, takes_further, tells_unscanned}
use Rattle.dali_recovery.specs.Reload.Counting.{AreCounted, AreUpTo, IsLast, StandsBefore, nothing_counted, one_more}
use Rattle.dali_recovery.specs.Reload.Reading.{FailsAt, HasRecords, IsAtImage, IsBadBehind, IsReloaded, IsUnscanned, TakesAt}
use Rattle.dali_recovery.specs.Reload.Scanning.{AreFound, FindsDamage, ScansKnown, damages_through, told_of}
use Rattle.dali_recovery.specs.declared.reload.counts.BeforeRestart.{BeforeRestart}
use Rattle.dali_recovery.specs.declared.reload.counts.Counts.{Counts}
use Rattle.dali_recovery.specs.declared.reload.reading.Reloaded.{Reloaded}
use Rattle.dali_recovery.proofs.ReloadLemmas.Passes.{AreAmong, Ends, IsScanning, Judges, Past, closing, end_is, found_here, judges, known_by, next_is, none_read, past_on, scanning_on}
use Rattle.dali_recovery.proofs.ReloadLemmas.Lists.{done_first, front_first, last_pushed, pushed_first, records_pushed, records_so_far, records_with, so_far, so_far_push, with_batch}
use Rattle.dali_recovery.proofs.ReloadLemmas.Runs.{batches_long, before_record, behind_record, done_stands, record_stands}
use Rattle.dali_recovery.proofs.ReloadLemmas.Tails.{closed_here}
use Rattle.dali_recovery.proofs.ReloadLemmas.Verdicts.{fails_place, fails_rule, handed}

pub record IsOn (log : List ℕ) (s : Sizes) (F : Files) (r : Reading) (x : Recovery) (n : Counts) : Type 0 where
  pub front : List (List Record)
  pub done : List Record
  pub read : IsReadFrom log F.place front done r
  pub behind : IsBehind s F (records_of (so_far front done)) x
  pub first : list_all is_restarted_first (so_far front done) ≡ true
  pub counted : AreCounted F.place (so_far front done) n
  pub many : n.records ≤ r.at
  pub long : n.bytes ≤ r.at
  pub room : F.first < 2 ^ 63

-- its records
abbrev pub records_on : List (List Record) → List Record → List Record
records_on front done = records_of (so_far front done)

abbrev begins : (log : List ℕ) (s : Sizes) (F : Files) (r : Reading) (x : Recovery) → IsAtImage log s F r x → IsOn log s F r x nothing_counted
begins log s F r x at = record {
  front = [];
  done = [];
  read = at.read;
  behind = at.behind;
  first = refl;
  counted = record { records = refl; bytes = refl; last = refl };
  many = omega arith;
  long = omega arith;
  room = at.first;
}

-- a scan changes none of it
scanned_behind : (s : Sizes) (F : Files) (Q : List Record) (x y : Recovery) (ds : List Told) → IsBehind s F Q x → ScansKnown x y ds → IsBehind s F Q y
scanned_behind s F Q x y ds b (inl z) = subst (IsBehind s F Q) (sym z.0) b
scanned_behind s F Q x y ds b (inr z) = (scans_behind s F Q x y z.damage.clean z.damage.failing.items b z.scans).0

abbrev scans_on : (log : List ℕ) (s : Sizes) (F : Files) (r : Reading) (x y : Recovery) (n : Counts) (ds : List Told) → IsOn log s F r x n
    → ScansKnown x y ds → IsOn log s F r y n
scans_on log s F r x y n ds on z = record {
  front = on.front;
  done = on.done;
  read = on.read;
  behind = scanned_behind s F (records_on on.front on.done) x y ds on.behind z;
  first = on.first;
  counted = on.counted;
  many = on.many;
  long = on.long;
  room = on.room;
}

-- where all that was read is the front, and its last epoch has to be read again
unscanned_on : (log : List ℕ) (s : Sizes) (F : Files) (r : Reading) (x : Recovery) (n : Counts) (on : IsOn log s F r x n) → records_on on.front on.done ≡ records_of on.front
    → (goes_through s F (records_on on.front on.done)).known.failed ≡ true
    → ((e : ℕ) × TailOf log F.place on.front e) ⊎ ((k : Record) × (is_restarted k ≡ true) × HasRecords log F.place on.front (k ∷ []))
    → (u : IsUnscanned log s F) × (records_of u.front ≡ records_on on.front on.done)
unscanned_on log s F r x n on same failed ends = (
  record {
    front = on.front;
    passes = record {
      rules = subst (λ Q. IsSome (tests s F.first (known_at F.first F.next F.table) Q)) same on.behind.passed;
      first = front_first on.front on.done on.first;
    };
    failed = subst (λ (Q : List Record). (goes_through s F Q).known.failed ≡ true) same failed;
    ends = ends;
  },
  sym same,
)

-- ---- one record more

first_is_none : (done : List Record) → is_first done ≡ true → done ≡ []
first_is_none [] e = refl
first_is_none (d ∷ ds) e = absurd (cc)

later_is_some : (done : List Record) → is_first done ≡ false → (d : Record) × (ds : List Record) × (done ≡ d ∷ ds)
later_is_some [] e = absurd (cc)
later_is_some (d ∷ ds) e = (d, ds, refl)

module _ (log : List ℕ) (s : Sizes) (F : Files) (r t : Reading) (x y : Recovery) (n m : Counts) (g : Placed) (on : IsOn log s F r x n) (goes : GoesOn log r g t) where
  h : HandsOut log F.place on.front on.done g t
  h = goes F.place on.front on.done on.read

  abbrev old : List (List Record)
  old = so_far on.front on.done

  abbrev new : List (List Record)
  new = on.front ++ (on.done ++ g.entry ∷ []) ∷ []

  records_are : records_of new ≡ records_of old ++ g.entry ∷ []
  records_are = records_pushed on.front on.done g.entry

  module _ (takes : TakesAt x y g) (further : r.at < t.at) (small : t.at < 2 ^ 62) (can : CanBeSpelled g.entry)
      (counts : n.records + 1 < 2 ^ 64 → n.bytes + record_length g.entry < 2 ^ 64 → m ≡ one_more n g) where
    alone : is_restarted g.entry ≡ true → on.done ≡ []
    alone e = first_is_none on.done (sym h.first ∙ takes.0 e)

    reach : n.bytes + record_length g.entry ≤ t.at
    reach = omega (arith, on.long, before_record log F.place on.front on.done r on.read, behind_record log F.place on.front on.done g t h, length-spelling g.entry can)

    is_more : m ≡ one_more n g
    is_more = counts (omega (arith, on.many, further, small)) (omega (arith, reach, small))

    room_here : F.first + length (records_of old) + 1 < 2 ^ 64
    room_here = omega (arith, on.counted.records, on.many, on.room, further, small)

    behind_new : IsBehind s F (records_of new) y
    behind_new = subst (λ Q. IsBehind s F Q y) (sym records_are) (takes_further s F (records_of old) x y g.entry on.behind takes.1 room_here)

    first_new : list_all is_restarted_first new ≡ true
    first_new = with_batch on.front (on.done ++ g.entry ∷ []) (front_first on.front on.done on.first) (pushed_first on.done g.entry (done_first on.front on.done on.first) alone)

    stands_before : is_restarted g.entry ≡ true → StandsBefore F.place new (record { place = g.at - 5; bytes = n.bytes })
    stands_before e =
        let w = is_a_restart g.entry e in
        let none : on.done ≡ [] = alone e in record {
          front = on.front;
          rolled = w.0;
          deleted = w.1;
          alone = ap (λ (d : List Record). on.front ++ (d ++ g.entry ∷ []) ∷ []) none ∙ ap (λ q. on.front ++ (q ∷ []) ∷ []) w.2;
          place = let at : g.at ≡ place_of F.place on.front [] = h.at ∙ ap (place_of F.place on.front) none in omega (arith, at);
          bytes = on.counted.bytes ∙ ap (λ (d : List Record). sum_by record_length (records_of (so_far on.front d))) none;
        }

    last_new : IsLast F.place new (one_more n g).restarted
    last_new = by_test (is_restarted g.entry) refl
      where
        by_test : (c : Bool) → is_restarted g.entry ≡ c → IsLast F.place new (cond c (Some (record { place = g.at - 5; bytes = n.bytes })) None)
        by_test true e = stands_before e
        by_test false e = ap (λ Q. ends_restarted (last_of Q)) records_are ∙ (last_pushed (records_of old) g.entry ∙ e)

    counted_new : AreCounted F.place new (one_more n g)
    counted_new = record {
      records = omega (arith, on.counted.records, ap length records_are, length-append (records_of old) (g.entry ∷ []));
      bytes = omega (arith, on.counted.bytes, ap (sum_by record_length) records_are, sum_by-append record_length (records_of old) (g.entry ∷ []));
      last = last_new;
    }

    abbrev Further : Counts → Type 0
    Further k = (more : IsOn log s F t y k) × (records_on more.front more.done ≡ records_of old ++ g.entry ∷ [])

    at_end : (front : List (List Record)) (done : List Record) → so_far front done ≡ new → IsReadFrom log F.place front done t → Further (one_more n g)
    at_end front done e read = (
      record {
        front = front;
        done = done;
        read = read;
        behind = subst (λ (z : List (List Record)). IsBehind s F (records_of z) y) (sym e) behind_new;
        first = subst (λ z. list_all is_restarted_first z ≡ true) (sym e) first_new;
        counted = subst (λ z. AreCounted F.place z (one_more n g)) (sym e) counted_new;
        many = omega (arith, on.many, further);
        long = reach;
        room = on.room;
      },
      ap records_of e ∙ records_are,
    )

    by_sum : IsReadFrom log F.place on.front (on.done ++ g.entry ∷ []) t ⊎ IsReadFrom log F.place new [] t → Further (one_more n g)
    by_sum (inl z) = at_end on.front (on.done ++ g.entry ∷ []) (so_far_push on.front on.done g.entry) z
    by_sum (inr z) = at_end new [] refl z

    pub goes_on : Further m
    goes_on = subst Further (sym is_more) (by_sum h.goes)

  -- one that fails
  behind_both : IsBehind s F (records_of on.front ++ on.done) x
  behind_both = subst (λ Q. IsBehind s F Q x) (records_so_far on.front on.done) on.behind

  module _ (at : ℕ) (place : at ≡ g.at) where
    fails_by : ((rest : List Record) (more : List (List Record)) → verdict_over s F (on.front ++ (on.done ++ g.entry ∷ rest) ∷ more) ≡ NamedMisfit (F.first + length (records_of on.front ++ on.done)))
        → FailsAt log s F at
    fails_by verdict = record { front = on.front; done = on.done; failing = g.entry; stands = record_stands log F.place on.front on.done g t h; place = place ∙ h.at; verdict = verdict }

    pub fails_there : ((is_restarted g.entry ≡ true) × (g.first ≡ false)) ⊎ Fails x y g.entry Misfit → FailsAt log s F at
    fails_there (inl z) =
        let w = later_is_some on.done (sym h.first ∙ z.1) in
        fails_by (λ rest more. fails_place s F on.front on.done g.entry x behind_both (front_first on.front on.done on.first) (done_first on.front on.done on.first) rest more w.0 w.1 w.2 z.0)
    fails_there (inr z) = fails_by (λ rest more. fails_rule s F on.front on.done g.entry x behind_both (front_first on.front on.done on.first) (done_first on.front on.done on.first) rest more y z)

  -- an epoch ends whose audit failed
  pub unscanned_there : (is_restarted g.entry ≡ true → g.first ≡ true) → Fails x y g.entry Unscanned → (goes_through s F (records_of old)).known.failed ≡ true
      → (u : IsUnscanned log s F) × (records_of u.front ≡ records_of old)
  unscanned_there only f failed =
      let none : on.done ≡ [] = first_is_none on.done (sym h.first ∙ only f.0.0) in
      unscanned_on log s F r x n on (ap (λ (d : List Record). records_of (so_far on.front d)) none) failed
      (inr (g.entry, f.0.0, subst (λ (d : List Record). HasRecords log F.place on.front (d ++ g.entry ∷ [])) none (record_stands log F.place on.front on.done g t h)))

  pub there : HasRecords log F.place on.front (on.done ++ g.entry ∷ [])
  there = record_stands log F.place on.front on.done g t h

  pub window_there : IsWindow log t
  window_there = ⊎_elim (λ z. z.window) (λ z. z.window) h.goes

-- ---- the end
module _ (log : List ℕ) (s : Sizes) (F : Files) (r t : Reading) (x : Recovery) (n : Counts) (on : IsOn log s F r x n) where
  module _ (ends : EndsAt log r t) where
    w : (on.done ≡ []) × TailOf log F.place on.front t.at × IsWindow log t
    w = ends F.place on.front on.done on.read

    all_read : so_far on.front on.done ≡ on.front
    all_read = ap (so_far on.front) w.0

    pub reloaded : (o : Reloaded) → HandsOn x o.recovered → o.end ≡ t.at → o.counts ≡ n → IsReloaded log s F o
    reloaded o hands end counts =
        let all = handed s F (so_far on.front on.done) x o.recovered on.behind on.first hands in record {
          batches = on.front;
          tail = subst (TailOf log F.place on.front) (sym end) w.1;
          verdict = subst (λ (bs : List (List Record)). verdict_over s F bs ≡ HandedOut (outcome_of o.recovered)) all_read all.0;
          number = subst (λ (bs : List (List Record)). o.recovered.number ≡ F.first + length (records_of bs)) all_read all.1;
          next = subst (λ (bs : List (List Record)). o.recovered.next ≡ (goes_through s F (records_of bs)).known.next) all_read all.2;
          counted = subst (AreCounted F.place on.front) (sym counts) (subst (λ (bs : List (List Record)). AreCounted F.place bs n) all_read on.counted);
        }

    pub window_end : IsWindow log t
    window_end = w.2

    pub unscanned_end : (goes_through s F (records_on on.front on.done)).known.failed ≡ true
        → (u : IsUnscanned log s F) × (records_of u.front ≡ records_on on.front on.done)
    unscanned_end failed = unscanned_on log s F r x n on (ap records_of all_read) failed (inl (t.at, w.1))

    pub end_there : (u : List (List Record)) × TailOf log F.place u t.at × (records_of u ≡ records_on on.front on.done)
    end_there = (on.front, w.1, sym (ap records_of all_read))

    -- nothing that is counted is above it
    here : r.at ≡ t.at
    here = by_place on.read.stands
      where
        by_place : ((r.at ≡ r.end) × IsRun log F.place on.front r.at × (on.done ≡ [])) ⊎ ((r.at < r.end) × IsWithin log F.place on.front on.done r)
            → r.at ≡ t.at
        by_place (inl z) = z.1.place ∙ sym w.1.run.place
        by_place (inr z) = absurd (closed_here log z.1.place t.at z.1.body (z.1.good.place ∙ sym w.1.run.place) w.1.closed z.1.batch)

    last_within : (o : Option BeforeRestart) → IsLast F.place (so_far on.front on.done) o → IfSome o (λ m. (m.place ≤ t.at) × (m.bytes ≤ t.at))
    last_within None l = tt
    last_within (Some m) l =
        let b : List Record = Restarted l.rolled l.deleted ∷ [] in (
          omega (arith, l.place, w.1.run.place, ap (λ (z : List (List Record)). length (batches (bodies z))) (sym all_read ∙ l.alone), batches_long l.front b),
          omega (arith, l.bytes, on.counted.bytes, on.long, here, ap (λ z. sum_by record_length (records_of z)) l.alone, ap (sum_by record_length) (records_with l.front b []), sum_by-append record_length (records_of l.front) (b ++ records_of [])),
        )

    pub up_to_end : AreUpTo n t.at
    up_to_end = record { records = omega (arith, on.many, here); bytes = omega (arith, on.long, here); before = last_within n.restarted on.counted.last }

  -- bad bytes
  pub bad_there : (at : ℕ) → IsBadFrom log r at → IsBadBehind log s F at
  bad_there at is = record {
    front = on.front;
    done = on.done;
    bad = (is F.place on.front on.done on.read).0;
    reached = (is F.place on.front on.done on.read).1;
    read = done_stands log F.place on.front on.done r on.read;
    passes = record {
      rules = subst (λ Q. IsSome (tests s F.first (known_at F.first F.next F.table) Q)) (records_so_far on.front on.done ∙ sym (records_all on.front on.done)) on.behind.passed;
      first = with_batch on.front on.done (front_first on.front on.done on.first) (done_first on.front on.done on.first);
    };
  }
    where
      records_all : (front : List (List Record)) (done : List Record) → records_of (front ++ done ∷ []) ≡ records_of front ++ done
      records_all front done = records_with front done [] ∙ ap (λ z. records_of front ++ z) (append-nil done)

-- ---- a pass to which some damage is known
pub record IsPassing (log : List ℕ) (s : Sizes) (F : Files) (ds : List Told) (Q : List Record) (x : Recovery) : Type 0 where
  pub scanning : IsScanning s F Q ds x
  pub among : AreAmong log s F ds Q

abbrev pub IsPass : List ℕ → Sizes → Files → List Told → Reading → Recovery → Counts → Type 0
IsPass log s F ds r x n = (on : IsOn log s F r x n) × (AreFound log s F ds → IsPassing log s F ds (records_on on.front on.done) x)

pub pass_begins : (log : List ℕ) (s : Sizes) (F : Files) (ds : List Told) (r : Reading) (x : Recovery) → IsAtImage log s F r x
    → IsPass log s F ds r x nothing_counted
pass_begins log s F ds r x at = (
  begins log s F r x at,
  λ found. record {
    scanning = record { fresh = λ _. at.plain; inside = λ apart. absurd (apart refl) };
    among = none_read log s F ds found;
  },
)

module _ (log : List ℕ) (s : Sizes) (F : Files) (ds : List Told) (r t : Reading) (x y z : Recovery) (n m : Counts) (g : Placed) (pass : IsPass log s F ds r x n) (known : ScansKnown x y ds) (goes : GoesOn log r g t) where
  abbrev on : IsOn log s F r y n
  on = scans_on log s F r x y n ds pass.0 known

  abbrev Q : List Record
  Q = records_on pass.0.front pass.0.done

  judged : AreFound log s F ds → Judges ds (known_by s F Q).first y
  judged found = judges s F Q ds x y pass.0.behind (pass.1 found).scanning known

  next : AreFound log s F ds → Past s F ds Q ⊎ (Ends s F ds Q g.entry × AreAmong log s F ds (Q ++ g.entry ∷ []))
  next found = next_is log s F ds Q on.front on.done g.entry (records_so_far on.front on.done) (there log s F r t y z n m g on goes) (pass.1 found).among

  pub pass_on : TakesAt y z g → r.at < t.at → t.at < 2 ^ 62 → CanBeSpelled g.entry
      → (n.records + 1 < 2 ^ 64 → n.bytes + record_length g.entry < 2 ^ 64 → m ≡ one_more n g) → IsPass log s F ds t z m
  pass_on takes further small can counts =
      let w = goes_on log s F r t y z n m g on goes takes further small can counts in (
        w.0,
        λ found. subst (λ P. IsPassing log s F ds P z) (sym w.1) (record {
          scanning = scanning_on s F Q ds y z g.entry on.behind takes.1 (room_here log s F r t y z n m g on goes takes further small can counts) (judged found);
          among = ⊎_elim (λ past. inl (past_on log s F ds Q g.entry y on.behind (judged found) takes.2 past)) (λ more. more.1) (next found);
        }),
      )

  pub pass_fails : (at : ℕ) → at ≡ g.at → ((is_restarted g.entry ≡ true) × (g.first ≡ false)) ⊎ Fails y z g.entry Misfit → FailsAt log s F at
  pass_fails at place f = fails_there log s F r t y z n m g on goes at place f

  pub window_here : IsWindow log t
  window_here = window_there log s F r t y z n m g on goes

  -- the damage that the recovery tells then
  pub pass_finds : (is_restarted g.entry ≡ true → g.first ≡ true) → Fails y z g.entry Unscanned → (d : Told)
      → TellsDamage z d.first d.clean d.failing.items → AreFound log s F ds
      → FindsDamage log s F (map told_of ds) (told_of d)
  pass_finds only f d tells found =
      let end = found_here log s F ds Q g.entry y f.0.0 on.behind (judged found) f.0.1 (⊎_elim (λ past. inl past) (λ more. inr more.0) (next found)) in
      let u = unscanned_there log s F r t y z n m g on goes only f end.1 in
      record {
        unscanned = u.0;
        before = end.0 ∙ ap (damages_through s F) (sym u.1);
        damage_is = tells s F.first (goes_through s F Q) (f.1 s F.first (goes_through s F Q) on.behind.stands) ∙ ap (damage_through s F) (sym u.1);
      }

-- ---- its end
module _ (log : List ℕ) (s : Sizes) (F : Files) (ds : List Told) (r t : Reading) (x : Recovery) (n : Counts) (pass : IsPass log s F ds r x n) (ends : EndsAt log r t) where
  abbrev all : List Record
  all = records_on pass.0.front pass.0.done

  -- an epoch that begins there has no record
  judged_end : is_unscanned x ≡ true → AreFound log s F ds → Judges ds (known_by s F all).first x
  judged_end bad found = ⊎_elim new (λ old. (pass.1 found).scanning.inside old) (cases_eq (known_by s F all).number (known_by s F all).first)
    where
      b : IsBehind s F all x
      b = pass.0.behind

      new : (known_by s F all).number ≡ (known_by s F all).first → Judges ds (known_by s F all).first x
      new e =
          let none : (known_by s F all).seen ≡ [] = nil_from_length (known_by s F all).seen (omega (arith, e, b.stands.counted)) in
          let failed : (known_by s F all).failed ≡ true = ((tells_unscanned s F all x b).0 ((pass.1 found).scanning.fresh e)).0 bad in
          let good : (known_by s F all).failed ≡ false = sym b.stands.fails ∙ ap (list_any is_audit_fail) none in absurd (cc)

  pub end_finds : is_unscanned x ≡ true → (d : Told) → TellsDamage x d.first d.clean d.failing.items → AreFound log s F ds
      → FindsDamage log s F (map told_of ds) (told_of d)
  end_finds bad d tells found =
      let w = end_there log s F r t x n pass.0 ends in
      let end =
      found_here log s F ds all closing x refl pass.0.behind (judged_end bad found) bad (end_is log s F ds all w.0 t.at w.2 w.1 (pass.1 found).among) in
      let u = unscanned_end log s F r t x n pass.0 ends end.1 in
      record {
        unscanned = u.0;
        before = end.0 ∙ ap (damages_through s F) (sym u.1);
        damage_is = tells s F.first (goes_through s F all) pass.0.behind.stands ∙ ap (damage_through s F) (sym u.1);
      }
