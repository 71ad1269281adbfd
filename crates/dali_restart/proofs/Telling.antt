-- What is read of files that are found is what their log says.
use Rattle.std.proofs.Common.{◌≡◌, ◌⊎◌, inl, inr, ⊎_elim, ℕ, ◌+◌, ◌<◌, ◌≤◌, ◌^◌, List, [], ◌∷◌, ◌++◌, length, drop, take, None, refl, ap, sym, subst, ◌∙◌, arith, append_assoc, length-append, take-append-drop}
use Rattle.std.specs.Prelude.{sum_by}
use Rattle.std.proofs.lemmas.Bool.{cases_lt}
use Rattle.std.proofs.lemmas.List.{drop-append-le}
use Rattle.std.proofs.lemmas.List.Concat.{flat_map-append}
use Rattle.dali_lists.proofs.Members.{all_left}
use Rattle.dali_geometry.specs.Sizes.{Sizes}
use Rattle.dali_record.specs.declared.records.Record.{Record}
use Rattle.dali_record.specs.declared.records.Record.TheVariants.{Format}
use Rattle.dali_record.specs.Damage.{deleted_list, rolled_list}
use Rattle.dali_record.specs.Epochs.{last_epoch, recovered_epoch}
use Rattle.dali_record.specs.Files.{Files, batch_length}
use Rattle.dali_record.specs.Legal.{IsLegalFor, sizes_of}
use Rattle.dali_history.specs.History.{AreSpelled, HasExpected}
use Rattle.dali_history.specs.Recovered.{base_of, recovered}
use Rattle.dali_history.proofs.Prefixes.{sizes_of-front}
use Rattle.dali_history.proofs.HeadlineLemmas.EpochByEpoch.{recovered_is_expected}
use Rattle.dali_store.specs.declared.store.FileName.{FileName}
use Rattle.dali_store.specs.Store.{Files as Disk}
use Rattle.dali_log.specs.Log.{LogOf, TailOf}
use Rattle.dali_log.specs.Log as logs
use Rattle.dali_log.proofs.Fronts.{tail_from_place}
use Rattle.dali_log.proofs.Bytes.{batches_length}
use Rattle.dali_crash.specs.Fitting.{FitsWhole}
use Rattle.dali_runs.specs.Run.{log_in}
use Rattle.dali_crash.specs.Disks.Disks.{Spells, head_of, sizes_in}
use Rattle.dali_crash.proofs.DisksLemmas.Bridges.{ends_at}
use Rattle.dali_image.specs.Laws.{header_of, table_of}
use Rattle.dali_resume.specs.Again.{Outcome}
use Rattle.dali_resume.specs.Batches.{misplaced, records_of, verdict_over}
use Rattle.dali_resume.specs.Onward.{HandedOut, IsResumed, IsRightAtEnd, goes_through, image_now, verdict_of}
use Rattle.dali_resume.proofs.Batches.{answers_over_batches, fits_in_batches}
use Rattle.dali_resume.specs.Interrupted.Found.{FindsIt}
use Rattle.dali_recovery.specs.Laws.{outcome_of}
use Rattle.dali_recovery.specs.Reload.Laws.{IsSpelledOut, IsWholeLog}
use Rattle.dali_recovery.specs.Reload.Reading.{FailsAt, IsBadBehind, IsReloaded}
use Rattle.dali_recovery.specs.declared.reload.reading.Reloaded.{Reloaded}
use Rattle.dali_restart.specs.Renewal.Logged.{restart_length}
use Rattle.dali_recovery.proofs.ReloadLemmas.Tails.{one_tail}
use Rattle.dali_recovery.proofs.ReloadLemmas.Whole.{reads_legal}
use Rattle.dali_restart.specs.Laws.{FoundIsGood}
use Rattle.dali_restart.specs.Restarting.{BeginsAt, Gives, IsBadAnywhere, IsReadAs, IsTold, told_by}
use Rattle.dali_restart.proofs.Beginning.{begins}
use Rattle.dali_restart.proofs.Exact.{nowhere_bad}
use Rattle.dali_restart.proofs.Finding.{begun}
use Rattle.dali_restart.proofs.Once.{bad_there, begin_same, read_so}
use Rattle.dali_restart.proofs.Short.{is_short_restart}
use Rattle.dali_resume.proofs.Freed.{rests_free}
use Rattle.dali_resume.proofs.Through.{resumes_through}
use Rattle.dali_recovery.proofs.Whole.{handed_same}

-- the batches from the image's place on
pub record ReadsBehind (F : Files) (B : List (List Record)) : Type 0 where
  pub older : List (List Record)
  pub batches : F.batches ≡ older ++ B
  pub place : F.place ≡ sum_by batch_length older
  pub records : records_of B ≡ drop F.first (log_in F)

-- of a format alone nobody is told
nobody : (L : List Record) (i h : ℕ) (Q : List Record) → L ≡ Format i h ∷ Q → length L ≤ 1
    → (rolled_list (recovered_epoch L) ≡ []) × (deleted_list (recovered_epoch L) ≡ [])
nobody L i h [] same le = (ap (λ M. rolled_list (recovered_epoch M)) same, ap (λ M. deleted_list (recovered_epoch M)) same)
nobody L i h (x ∷ Q) same le = absurd (omega (arith, le, ap length same))

-- ---- the log is spelled out
module _ (fs : Disk) (F : Files) (is : Spells fs F) (finds : FindsIt F) where
  abbrev s : Sizes
  s = sizes_in F

  abbrev K : List Record
  K = finds.found.front

  abbrev more : List (List Record)
  more = finds.found.more

  abbrev bs : List (List Record)
  bs = finds.found.fits.0

  whole : K ++ records_of more ≡ log_in F
  whole = finds.found.log

  front_sizes : sizes_of K ≡ s
  front_sizes = sym (sizes_of-front K (records_of more) finds.found.some) ∙ ap sizes_of whole

  fits : FitsWhole s (base_of s K) K (record F { batches = bs }) (last_epoch K)
  fits = subst (λ (z : Sizes). FitsWhole z (base_of z K) K (record F { batches = bs }) (last_epoch K)) front_sizes finds.found.fits.1

  pub spelled_out : IsSpelledOut fs.log s K F more
  spelled_out = record {
    fits = record {
      index = finds.lawful.some_index;
      heap = finds.lawful.some_heap;
      front = (bs, fits);
      some = finds.found.some;
      legal = subst (IsLegalFor s) (sym whole) finds.lawful.legal;
      spelled = subst AreSpelled (sym whole) finds.lawful.spelled;
    };
    first = finds.found.good;
    end = is.end;
    spelled = subst (λ (B : List (List Record)). LogOf fs.log B is.end) (sym finds.found.parts) is.log;
  }

  -- what is read is the whole log, to its end
  pub reads_found : (o : Reloaded) → IsReloaded fs.log (sizes_in F) F o
      → (o.end ≡ sum_by batch_length F.batches) × IsWholeLog (sizes_in F) (log_in F) F o
  unfolding spelled_out
  reads_found o r =
      let w = (reads_legal fs.log s K F more spelled_out).0 o r in
      (w.0 ∙ ends_at fs.log F.batches is.end is.log, subst (λ (L : List Record). IsWholeLog s L F o) whole w.1)

  pub found_is_good : (at : ℕ) → IsBadBehind fs.log (sizes_in F) F at ⊎ FailsAt fs.log (sizes_in F) F at → ⊥
  found_is_good = (reads_legal fs.log s K F more spelled_out).1

  -- ---- what it says
  count : F.first ≤ length (log_in F)
  count = omega (arith, fits.fits.count, ap length whole, length-append K (records_of more))

  image_is : (E : List Record) → (last_epoch (log_in F)).records ≡ E → image_now s (log_in F) E ≡ recovered s (log_in F)
  image_is [] e = rests_free s (log_in F) e
  image_is (r ∷ E) e = refl

  -- where no record is read the log is that of a format
  unread : length (log_in F) ≤ F.first → (rolled_list (recovered_epoch (log_in F)) ≡ []) × (deleted_list (recovered_epoch (log_in F)) ≡ [])
  unread le = ⊎_elim
      (λ none. nobody (log_in F) is.log.format.0 is.log.format.1 (records_of is.log.format.2) (ap records_of is.log.format.3) (omega (arith, le, (fits.fits.fresh none).1)))
      (λ lt. absurd (omega (arith, le, lt)))
      finds.found.place.read

  list_is : (ts us : List ℕ) → (F.first < length (log_in F) → ts ≡ us) → (F.first ≡ length (log_in F) → ts ≡ [])
      → (length (log_in F) ≤ F.first → us ≡ []) → ts ≡ us
  list_is ts us read none same = ⊎_elim
      (λ lt. read lt)
      (λ le. none (omega (arith, le, count)) ∙ sym (same le))
      (cases_lt F.first (length (log_in F)))

  told_is : (o : Outcome) → IsResumed s (log_in F) F.first o → o ≡ told_by F
  told_is o is_so =
      let L = log_in F in
      let image = is_so.image ∙ image_is (last_epoch L).records refl in
      let rolled = list_is o.rolled (rolled_list (recovered_epoch L)) is_so.rolled (λ e. (is_so.unread e).0) (λ le. (unread le).0) in
      let deleted = list_is o.deleted (deleted_list (recovered_epoch L)) is_so.deleted (λ e. (is_so.unread e).1) (λ le. (unread le).1) in
      λ i. record { image = image i; rolled = rolled i; deleted = deleted i }

  of_history : (o : Outcome) → o ≡ told_by F → IsTold F o
  of_history o told = record {
    told = told;
    records = λ history. subst (λ (u : Outcome). HasExpected (log_in F) u.image) (sym told) (recovered_is_expected (log_in F) history);
  }

  pub is_told : (o : Reloaded) → IsReloaded fs.log (sizes_in F) F o → IsTold F (outcome_of o.recovered)
  is_told o r = of_history (outcome_of o.recovered) (told_is (outcome_of o.recovered) (reads_found o r).1.resumed)

  -- the batches that are read are those from the image's place on
  behind : (n : ℕ) × (F.place ≡ sum_by batch_length (take n bs)) × (records_of (drop n bs) ≡ drop F.first K) × (misplaced (drop n bs ++ more) ≡ None)
  behind = fits_in_batches s (base_of s K) K (record F { batches = bs }) (last_epoch K) more fits finds.found.good

  abbrev tail : List (List Record)
  tail = drop behind.0 bs ++ more

  parted : F.batches ≡ take behind.0 bs ++ tail
  parted = sym finds.found.parts ∙ (ap (λ l. l ++ more) (sym (take-append-drop behind.0 bs)) ∙ append_assoc (take behind.0 bs) (drop behind.0 bs) more)

  log_is : LogOf fs.log (take behind.0 bs ++ tail) is.end
  log_is = subst (λ (B : List (List Record)). LogOf fs.log B is.end) parted is.log

  tail_is : TailOf fs.log F.place tail is.end
  tail_is =
      tail_from_place fs.log (take behind.0 bs) tail F.place is.end log_is
      (behind.1 ∙ sym (batches_length (take behind.0 bs) (all_left logs.AreSpelled (take behind.0 bs) tail log_is.front.each)))

  tail_records : records_of tail ≡ drop F.first (log_in F)
  tail_records =
      flat_map-append (λ b. b) (drop behind.0 bs) more
      ∙ (ap (λ l. l ++ records_of more) behind.2 ∙ (sym (drop-append-le F.first K (records_of more) fits.fits.count) ∙ ap (drop F.first) whole))

  pub tail_behind : (B : List (List Record)) (end : ℕ) → TailOf fs.log F.place B end → ReadsBehind F B × (end ≡ sum_by batch_length F.batches)
  tail_behind B end there =
      let same = one_tail fs.log F.place B tail end is.end there tail_is in (
        record {
          older = take behind.0 bs;
          batches = parted ∙ ap (λ l. take behind.0 bs ++ l) (sym same.0);
          place = behind.1;
          records = ap records_of same.0 ∙ tail_records;
        },
        same.1 ∙ ends_at fs.log F.batches is.end is.log,
      )

  pub read_behind : (o : Reloaded) (r : IsReloaded fs.log (sizes_in F) F o) → ReadsBehind F r.batches
  read_behind o r = (tail_behind r.batches o.end r.tail).0

  -- whoever reads them
  pub right : IsRightAtEnd s (log_in F) F (goes_through s F (drop F.first (log_in F)))
  right =
      let f = spelled_out.fits in
      subst (λ (L : List Record). IsRightAtEnd s L F (goes_through s F (drop F.first L))) whole
      (resumes_through s K (records_of more) F f.index f.heap f.front f.some f.legal f.spelled)

  pub said : (B : List (List Record)) (end : ℕ) (o : Outcome) → TailOf fs.log F.place B end → verdict_over (sizes_in F) F B ≡ HandedOut o → IsTold F o
  said B end o there verdict =
      let same = (one_tail fs.log F.place B tail end is.end there tail_is).0 in
      let over : verdict_over s F tail ≡ verdict_of s F (log_in F) = (answers_over_batches s F (log_in F) tail tail_records).0 behind.3 in
      let handed = handed_same _ o (sym right.verdict ∙ (sym over ∙ (ap (verdict_over s F) (sym same) ∙ verdict))) in
      of_history o (told_is o (subst (IsResumed s (log_in F) F.first) handed right.resumed))

-- whatever was read for all files that the disk has before the first record behind the image
pub gives_all : (fs : Disk) (o : Reloaded) → ((s : Sizes) (F : Files) → BeginsAt fs s F → IsReloaded fs.log s F o) → Gives fs (outcome_of o.recovered)
gives_all fs o all F is finds = is_told fs F is finds o (all (sizes_in F) F (begins fs F is finds))

pub reads_as : (fs : Disk) (s : Sizes) (F : Files) (o : Reloaded) → BeginsAt fs s F → IsReloaded fs.log s F o → IsReadAs fs (outcome_of o.recovered)
reads_as fs s F o image r = record { sizes = s; files = F; image = image; batches = r.batches; end = o.end; log = r.tail; verdict = r.verdict }

-- ---- files that are found are nowhere bad
good_anywhere : (fs : Disk) (F : Files) (is : Spells fs F) (finds : FindsIt F) (file : FileName) (at : ℕ) → IsBadAnywhere fs file at → ⊥
good_anywhere fs F is finds file at (inl store) =
    let b =
    begins fs F is finds in nowhere_bad fs (sizes_in F) F.gates (header_of (sizes_in F) (head_of F)) F.image
    (table_of F.table) b.reader file at b.opened store
good_anywhere fs F is finds file at (inr tail) =
    found_is_good fs F is finds at
    (bad_there fs.log at (sizes_in F) tail.sizes F tail.files (begin_same fs (sizes_in F) tail.sizes F tail.files (begins fs F is finds) tail.image) tail.bad)

told_so : (fs : Disk) (F : Files) (is : Spells fs F) (finds : FindsIt F) (o : Outcome) → IsReadAs fs o → IsTold F o
told_so fs F is finds o r =
    let same = begin_same fs (sizes_in F) r.sizes F r.files (begins fs F is finds) r.image in
    let there = read_so fs.log o r.batches r.end (sizes_in F) r.sizes F r.files same r.log r.verdict in
    said fs F is finds r.batches r.end o there.0 there.1

pub found_good : FoundIsGood
found_good fs F is finds = record {
  bad = good_anywhere fs F is finds;
  formatted = begun fs (sizes_in F) (begins fs F is finds).opened.log;
  told = told_so fs F is finds;
  short = λ o r.
      subst (λ (u : Outcome). restart_length u.rolled u.deleted ≤ 2 ^ 30) (sym (told_so fs F is finds o r).told) (is_short_restart F finds);
}
