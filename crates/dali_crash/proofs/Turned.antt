-- Once the anchor moved, the files fit the log that a crash leaves.
use Rattle.std.proofs.Common.{◌≡◌, ℕ, zero, suc, ◌+◌, ◌-◌, ◌<◌, ◌≤◌, Bool, false, List, [], ◌∷◌, length, take, drop, Some, refl, ap, sym, subst, ◌∙◌, inr, arith}
use Rattle.std.specs.Prelude.{map, filter, not, slice_get, fold, sum_by}
use Rattle.std.proofs.lemmas.List.{length-take-le, take-take}
use Rattle.dali_lists.proofs.Lists.{get_drop, get_take}
use Rattle.dali_geometry.specs.Sizes.{Sizes}
use Rattle.dali_geometry.specs.Places.{regions}
use Rattle.dali_record.specs.declared.records.Record.{Record}
use Rattle.dali_record.specs.declared.records.Record.TheVariants.{AuditClean}
use Rattle.dali_record.specs.Log.{begun, ended}
use Rattle.dali_record.specs.Epochs.{Epoch, last_epoch, clean_step, clean_place}
use Rattle.dali_record.specs.Damage.{has}
use Rattle.dali_record.specs.Spelling.{record_length}
use Rattle.dali_record.specs.Settled.{words_in, redo_all, settled_before}
use Rattle.dali_record.specs.Files.{Files, row_of, next_after, table_before}
use Rattle.dali_record.proofs.Batches.{number_is_length, clean_grows}
use Rattle.dali_runs.specs.State.{VaultState}
use Rattle.dali_runs.specs.Run.{Bases, log_in}
use Rattle.dali_runs.specs.Images.{FitsBut}
use Rattle.dali_runs.proofs.Redone.{copied_then}
use Rattle.dali_runs.proofs.LastEpochs.{is_behind, epoch_of}
use Rattle.dali_crash.specs.CrashLogs.{cut_to}
use Rattle.dali_crash.specs.Checkpoints.{Head, turned}
use Rattle.dali_crash.specs.StoreRuns.{IsSettledAt, IsKept}
use Rattle.dali_crash.proofs.CrashLogs.{cut_parts}

-- ---- the clean place behind an audit's end

clean_at : (p : ℕ) (E : List Record) (i b : ℕ) → slice_get E i ≡ Some (AuditClean b) → b ≤ fold clean_step p E
clean_at p [] i b e = absurd (cc)
clean_at p (x ∷ E) zero b e = let same : x ≡ AuditClean b = cc in subst (λ y. b ≤ fold clean_step (clean_step p y) E) (sym same) (omega (arith, clean_grows (clean_step p (AuditClean b)) E))
clean_at p (x ∷ E) (suc i) b e = clean_at (clean_step p x) E i b e

-- ---- the image
-- what a region's place must be in it
pub record IsRightPlace (base : List (List ℕ)) (e : Epoch) (h : Head) (b r : ℕ) (ws : List ℕ) : Type 0 where
  pub at : ℕ
  pub from : h.first ≤ at
  pub to : at ≤ b
  pub settled : IsSettledAt base e r at ws

pub turned_fits :
    (s : Sizes) (bases : Bases) (missed : ℕ → Bool) (L : List Record) (v : VaultState) (leave : Files → Type 0) (D : Files) (h : Head) (image : List (List ℕ)) (b k m : ℕ)
    → IsKept L v leave h → leave D → log_in D ≡ take m L → m ≤ length L
    → slice_get L k ≡ Some (AuditClean b) → h.first ≤ b → b ≤ k → k < m
    → h.number ≡ D.gates + 1 → length image ≡ regions s
    → ((r : ℕ) → r < regions s → missed r ≡ false → IsRightPlace (bases (last_epoch L).first) (last_epoch L) h b r (words_in image r))
    → FitsBut s bases missed (log_in D) (turned D h image) (last_epoch (log_in D))
turned_fits s bases missed L v leave D h image b k m kept l at within clean later ends flushed number whole places = record {
  log = refl;
  batch = kept.place D l;
  count = kept.held D l;
  lengths = kept.weight ∙ ap (sum_by record_length) front;
  numbers = kept.next ∙ ap next_after front;
  fresh = λ g. absurd (omega (arith, g));
  current = λ g. number;
  whole = whole;
  epoch = epoch_of K h.first (subst (λ (d : Epoch). d.first ≤ h.first + 1) (sym last) (omega (arith, kept.from)));
  recent = inr refl;
  certified = subst (λ (d : Epoch). h.first ≤ clean_place d) (sym last) (omega (arith, later, above));
  table_is = subst (λ (d : Epoch). h.table ≡ table_before d h.first) (sym last) (kept.table ∙ ap (λ P. map (row_of P) (filter (λ t. not (has (ended P) t)) (begun P))) (sym (take-take (h.first - e.first) (m - e.first) e.records (omega (arith, later, ends, flushed)))));
  words = λ r hr n. subst (λ (d : Epoch). words_in (redo_all image (drop (h.first - d.first) (take (clean_place d - d.first) d.records))) r ≡ settled_before (bases d.first) d r (clean_place d)) (sym last) (words r (places r hr n));
}
  where
    e : Epoch
    e = last_epoch L

    K : List Record
    K = log_in D

    f : Epoch
    f = cut_to (m - e.first) e

    last : last_epoch K ≡ f
    last = ap last_epoch at ∙ ap (λ c. c.now) (cut_parts L m (omega (arith, kept.from, later, ends, flushed)) within)

    size : length K ≡ m
    size = ap length at ∙ length-take-le m L within

    front : take h.first L ≡ take h.first K
    front = sym (ap (take h.first) at ∙ take-take h.first m L (omega (arith, later, ends, flushed)))

    whole_place : e.first + (k - e.first) ≡ k
    whole_place = omega (arith, kept.from, later, ends)

    there : slice_get f.records (k - e.first) ≡ Some (AuditClean b)
    there =
        get_take (m - e.first) (k - e.first) e.records (omega (arith, kept.from, later, ends, flushed))
        ∙ (ap (λ E. slice_get E (k - e.first)) (is_behind L).0
        ∙ (get_drop e.first (k - e.first) L
        ∙ (ap (slice_get L) whole_place ∙ clean)))

    above : b ≤ clean_place f
    above = clean_at f.first f.records (k - e.first) b there

    some : length f.records ≡ m - e.first
    some = length-take-le (m - e.first) e.records (omega (arith, number_is_length L, within))

    words : (r : ℕ) → IsRightPlace (bases e.first) e h b r (words_in image r) → words_in (redo_all image (drop (h.first - f.first) (take (clean_place f - f.first) f.records))) r ≡ settled_before (bases f.first) f r (clean_place f)
    words r p = copied_then (bases e.first) image f.records (h.first - e.first) (p.at - e.first) (clean_place f - e.first) r
        (omega (arith, p.from)) (omega (arith, p.to, above)) (omega (arith, some, later, ends, flushed))
        (p.settled.words ∙ ap (λ E. words_in (redo_all (bases e.first) E) r) (sym (take-take (p.at - e.first) (m - e.first) e.records (omega (arith, p.to, ends, flushed)))))
