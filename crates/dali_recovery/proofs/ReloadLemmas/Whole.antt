-- A legal log, read from the place of an image that fitted a front of it.
use Rattle.std.proofs.Common.{◌≡◌, ◌⊎◌, inl, inr, ℕ, ◌+◌, List, [], ◌∷◌, ◌++◌, None, ap, sym, subst, ◌∙◌, arith, length, take, drop, append_assoc, length-append, length-drop, take-append-drop}
use Rattle.std.specs.Prelude.{sum_by}
use Rattle.std.proofs.lemmas.List.{drop-append-le}
use Rattle.std.proofs.lemmas.List.Concat.{flat_map-append}
use Rattle.dali_lists.proofs.Members.{all_left}
use Rattle.dali_geometry.specs.Sizes.{Sizes}
use Rattle.dali_record.specs.declared.records.Record.{Record}
use Rattle.dali_record.specs.Epochs.{last_epoch}
use Rattle.dali_record.specs.Files.{Files, batch_length}
use Rattle.dali_record.specs.Legal.{sizes_of}
use Rattle.dali_record.specs.Spelling.{record_length}
use Rattle.dali_history.specs.History.{RestartGives}
use Rattle.dali_history.specs.Recovered.{base_of}
use Rattle.dali_log.specs.Batch.{batches}
use Rattle.dali_log.specs.Log.{AreSpelled, LogOf, TailOf}
use Rattle.dali_log.proofs.Bytes.{batches_length}
use Rattle.dali_log.proofs.Fronts.{tail_from_place}
use Rattle.dali_resume.specs.Again.{Outcome}
use Rattle.dali_resume.specs.Batches.{misplaced, records_of, verdict_over}
use Rattle.dali_resume.specs.Onward.{HandedOut, IsResumed, IsRightAtEnd, Misfit as NamedMisfit, goes_through, history_says, verdict_of}
use Rattle.dali_resume.proofs.Batches.{answers_over_batches, fits_in_batches}
use Rattle.dali_resume.proofs.Stopped.{resumes_histories}
use Rattle.dali_resume.proofs.Through.{resumes_through}
use Rattle.dali_recovery.specs.Laws.{outcome_of}
use Rattle.dali_recovery.proofs.Whole.{handed_same}
use Rattle.dali_recovery.specs.Reload.Laws.{IsSpelledOut, IsWholeLog, OneReading, ReadsHistory, ReadsLegal}
use Rattle.dali_recovery.specs.Reload.Reading.{FailsAt, IsBadBehind, IsReloaded}
use Rattle.dali_recovery.specs.declared.reload.reading.Reloaded.{Reloaded}
use Rattle.dali_recovery.proofs.ReloadLemmas.Tails.{has_batch, none_bad, one_tail}

-- ---- any log that is read to an end
pub apart : (o : Outcome) (m : ℕ) → HandedOut o ≡ NamedMisfit m → ⊥
apart o m e = cc

good_tail : (log : List ℕ) (s : Sizes) (F : Files) (bs : List (List Record)) (end : ℕ) (o : Outcome) → TailOf log F.place bs end
    → verdict_over s F bs ≡ HandedOut o
    → (at : ℕ) → IsBadBehind log s F at ⊎ FailsAt log s F at → ⊥
good_tail log s F bs end o tail verdict at (inl b) = none_bad log F.place b.front bs end at b.bad tail
good_tail log s F bs end o tail verdict at (inr b) =
    let h = has_batch log F.place b.front bs (b.done ++ b.failing ∷ []) end b.stands tail in
    let same : bs ≡ b.front ++ (b.done ++ b.failing ∷ h.0) ∷ h.1 = h.2 ∙ ap (λ z. b.front ++ z ∷ h.1) (append_assoc b.done (b.failing ∷ []) h.0) in
    apart _ _ (sym verdict ∙ (ap (verdict_over s F) same ∙ b.verdict h.0 h.1))

pub one_reading : OneReading
one_reading log s F bs end o tail verdict = record {
  tail = λ cs e other. one_tail log F.place cs bs e end other tail;
  answer = λ cs e p other said. handed_same p o (sym said ∙ (ap (verdict_over s F) (one_tail log F.place cs bs e end other tail).0 ∙ verdict));
  good = good_tail log s F bs end o tail verdict;
}

-- ---- the log behind the image
module _ (log : List ℕ) (s : Sizes) (K : List Record) (F : Files) (more : List (List Record)) (out : IsSpelledOut log s K F more) where
  abbrev bs : List (List Record)
  bs = out.fits.front.0

  abbrev L : List Record
  L = K ++ records_of more

  w : (k : ℕ) × (F.place ≡ sum_by batch_length (take k bs)) × (records_of (drop k bs) ≡ drop F.first K) × (misplaced (drop k bs ++ more) ≡ None)
  w = fits_in_batches s (base_of s K) K (record F { batches = bs }) (last_epoch K) more out.fits.front.1 out.first

  abbrev tail : List (List Record)
  tail = drop w.0 bs ++ more

  records_are : records_of tail ≡ drop F.first L
  records_are =
      flat_map-append (λ b. b) (drop w.0 bs) more
      ∙ (ap (λ X. X ++ records_of more) w.2 ∙ sym (drop-append-le F.first K (records_of more) out.fits.front.1.fits.count))

  whole : bs ++ more ≡ take w.0 bs ++ tail
  whole = ap (λ z. z ++ more) (sym (take-append-drop w.0 bs)) ∙ append_assoc (take w.0 bs) (drop w.0 bs) more

  log_is : LogOf log (take w.0 bs ++ tail) out.end
  log_is = subst (λ z. LogOf log z out.end) whole out.spelled

  tail_is : TailOf log F.place tail out.end
  tail_is = tail_from_place log (take w.0 bs) tail F.place out.end log_is (w.1 ∙ sym (batches_length (take w.0 bs) (all_left AreSpelled (take w.0 bs) tail log_is.front.each)))

  right : IsRightAtEnd s L F (goes_through s F (drop F.first L))
  right = resumes_through s K (records_of more) F out.fits.index out.fits.heap out.fits.front out.fits.some out.fits.legal out.fits.spelled

  verdict_is : verdict_over s F tail ≡ verdict_of s F L
  verdict_is = (answers_over_batches s F L tail records_are).0 w.3

  -- what is read is that log
  read_whole : (o : Reloaded) (r : IsReloaded log s F o) → (r.batches ≡ tail) × (o.end ≡ out.end)
  read_whole o r = one_tail log F.place r.batches tail o.end out.end r.tail tail_is

  said : (o : Reloaded) → IsReloaded log s F o → verdict_of s F L ≡ HandedOut (outcome_of o.recovered)
  said o r = sym verdict_is ∙ (ap (verdict_over s F) (sym (read_whole o r).0) ∙ r.verdict)

  same_records : (o : Reloaded) (r : IsReloaded log s F o) → records_of r.batches ≡ drop F.first L
  same_records o r = ap records_of (read_whole o r).0 ∙ records_are

  pub reads_all : (o : Reloaded) → IsReloaded log s F o → (o.end ≡ out.end) × IsWholeLog s L F o
  reads_all o r = (
    (read_whole o r).1,
    record {
      resumed = subst (IsResumed s L F.first) (handed_same _ _ (sym right.verdict ∙ said o r)) right.resumed;
      number = omega (arith, r.number, ap length (same_records o r), length-drop F.first L, out.fits.front.1.fits.count, length-append K (records_of more));
      next = r.next ∙ (ap (λ (Q : List Record). (goes_through s F Q).known.next) (same_records o r) ∙ right.next);
      weight = ap (λ (n : ℕ). F.weight + n) (r.counted.bytes ∙ ap (sum_by record_length) (same_records o r)) ∙ right.weight;
    },
  )

  pub none_fails : (at : ℕ) → IsBadBehind log s F at ⊎ FailsAt log s F at → ⊥
  none_fails at bad = good_tail log s F tail out.end _ tail_is (verdict_is ∙ right.verdict) at bad

pub reads_legal : ReadsLegal
reads_legal log s K F more out = (reads_all log s K F more out, none_fails log s K F more out)

pub reads_history : ReadsHistory
reads_history log K F more o out history lt r =
    let h = resumes_histories K (records_of more) F history out.fits.some out.fits.front lt in
    let same : history_says (K ++ records_of more) ≡ outcome_of o.recovered = handed_same _ _ (sym h.0 ∙ said log (sizes_of K) K F more out o r) in
    subst (λ (u : Outcome). RestartGives (K ++ records_of more) u.image u.rolled u.deleted) same h.1
