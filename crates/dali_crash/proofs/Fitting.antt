-- Files that fit a log, with images of full length.
use Rattle.std.proofs.Common.{◌≡◌, ℕ, ◌+◌, ◌-◌, ◌<◌, ◌≤◌, Bool, true, false, cond, List, [], ◌∷◌, length, take, drop, Some, None, refl, ap, sym, subst, ◌∙◌, ◌⊎◌, inl, inr, ⊎_elim, arith}
use Rattle.std.specs.Prelude.{Option, unwrap_or}
use Rattle.std.specs.List.{find}
use Rattle.std.proofs.lemmas.List.{take_all, ext_get_or}
use Rattle.std.proofs.lemmas.Bool.{ltb-true}
use Rattle.dali_lists.proofs.Options.{some_same}
use Rattle.dali_geometry.specs.Places.{regions}
use Rattle.dali_record.specs.declared.records.Record.{Record}
use Rattle.dali_record.specs.Epochs.{Epoch, next_number, cut, last_epoch, clean_place}
use Rattle.dali_record.specs.Settled.{words_in, redo_all}
use Rattle.dali_record.specs.Files.{ends_behind, epoch_from}
use Rattle.dali_record.proofs.Batches.{number_is_length}
use Rattle.dali_runs.proofs.OneMoreTouch.{length-redo_all}
use Rattle.dali_runs.proofs.Redone.{redone_to}
use Rattle.dali_crash.specs.Fitting.{ButIsWhole, RedoesTheEpoch}

pub but_is_whole : ButIsWhole
but_is_whole s bases missed K F e fit whole none = record {
  fits = record {
    log = fit.log;
    batch = fit.batch;
    count = fit.count;
    lengths = fit.lengths;
    numbers = fit.numbers;
    fresh = fit.fresh;
    current = fit.current;
    epoch = fit.epoch;
    recent = fit.recent;
    certified = fit.certified;
    table_is = fit.table_is;
    words = λ r h. fit.words r h (none r h);
  };
  image_whole = fit.whole;
  base_whole = whole;
}

-- the epoch that is found ends behind the number, or is the last one
found_is : (n : ℕ) (es : List Epoch) (e : Epoch) → find (ends_behind n) es ≡ Some e → ends_behind n e ≡ true
found_is n [] e h = absurd (cc)
found_is n (d ∷ es) e h = by_test (ends_behind n d) refl (found_is n es e) h
  where
    by_test : (b : Bool) → ends_behind n d ≡ b → (find (ends_behind n) es ≡ Some e → ends_behind n e ≡ true) → cond b (Some d) (find (ends_behind n) es) ≡ Some e → ends_behind n e ≡ true
    by_test true f later g = ap (ends_behind n) (sym (some_same g)) ∙ f
    by_test false f later g = later g

pub ends_there : (n : ℕ) (L : List Record) (e : Epoch) → epoch_from n L ≡ e → (n < next_number e) ⊎ (e ≡ last_epoch L)
ends_there n L e is = by_option (find (ends_behind n) (cut L).closed) refl is
  where
    by_option : (o : Option Epoch) → find (ends_behind n) (cut L).closed ≡ o → unwrap_or o (cut L).now ≡ e → (n < next_number e) ⊎ (e ≡ last_epoch L)
    by_option None f g = inr (sym g)
    by_option (Some d) f g = inl (subst (λ (x : Epoch). n < next_number x) g (ltb-true n (next_number d) (found_is n (cut L).closed d f)))

pub within_epoch : (n : ℕ) (L : List Record) (e : Epoch) → n ≤ length L → epoch_from n L ≡ e → n - e.first ≤ length e.records
within_epoch n L e le is =
    ⊎_elim
    (λ lt. omega (arith, lt))
    (λ last. omega (arith, le, number_is_length L, ap next_number last))
    (ends_there n L e is)

pub redoes_the_epoch : RedoesTheEpoch
redoes_the_epoch s base K F e fit = ext_get_or [] (redo_all F.image (drop k E)) (redo_all base E) sizes (λ r h. at r (omega (arith, h, sizes, length-redo_all base E, fit.base_whole)))
  where
    E : List Record
    E = e.records

    k : ℕ
    k = F.first - e.first

    m : ℕ
    m = clean_place e - e.first

    within : k ≤ length E
    within = within_epoch F.first K e fit.fits.count fit.fits.epoch

    sizes : length (redo_all F.image (drop k E)) ≡ length (redo_all base E)
    sizes = length-redo_all F.image (drop k E) ∙ (fit.image_whole ∙ (sym fit.base_whole ∙ sym (length-redo_all base E)))

    all : take (m + length E) E ≡ E
    all = take_all (m + length E) E (omega arith)

    at : (r : ℕ) → r < regions s → words_in (redo_all F.image (drop k E)) r ≡ words_in (redo_all base E) r
    at r h =
        ap (λ T. words_in (redo_all F.image (drop k T)) r) (sym all)
        ∙ (redone_to base F.image E k m (m + length E) r (omega (arith, fit.fits.certified)) (omega arith) within (fit.fits.words r h)
        ∙ ap (λ T. words_in (redo_all base T) r) all)
