-- Files that fit a lawful log are found.
use Rattle.std.proofs.Common.{◌≡◌, ℕ, zero, suc, ◌+◌, ◌<◌, List, [], ◌∷◌, ◌++◌, length, take, refl, ap, sym, subst, inl, inr, ⊎_elim, arith}
use Rattle.std.specs.Prelude.{flat_map, sum_by}
use Rattle.std.proofs.lemmas.List.{append-nil, length-take-le}
use Rattle.std.proofs.lemmas.List.Sums.{sum_by-cons}
use Rattle.dali_lists.proofs.Numbers.{eqb-self}
use Rattle.dali_geometry.specs.Sizes.{Sizes}
use Rattle.dali_record.specs.declared.records.Record.{Record}
use Rattle.dali_record.specs.declared.records.Record.TheVariants.{Format, Restarted}
use Rattle.dali_record.specs.Epochs.{last_epoch}
use Rattle.dali_record.specs.Files.{Files, batch_length, with_batch}
use Rattle.dali_record.specs.Legal.{ReadsWords, TellsScan, sizes_of}
use Rattle.dali_record.specs.Spelling.{CanBeSpelled}
use Rattle.dali_history.specs.History.{AreSpelled, IsHistory}
use Rattle.dali_history.specs.Recovered.{base_of}
use Rattle.dali_runs.specs.Run.{log_in}
use Rattle.dali_crash.specs.Fitting.{FitsWhole}
use Rattle.dali_crash.specs.Starts.{IsLawful}
use Rattle.dali_crash.proofs.Courses.{format_is_history}
use Rattle.dali_resume.specs.Onward.{formatted_closed}
use Rattle.dali_resume.proofs.Formats.{format_rests}
use Rattle.dali_restart.specs.Laws.{ClosedFormatIsFound, FitIsFound, FitsLawful}

-- the image stands behind a batch, since a record stands before it
placed : (F : Files) → FitsLawful F → 0 < F.place
placed F is = by_batches (take is.fits.fits.batch.0 F.batches) is.fits.fits.batch.1 is.fits.fits.batch.2
  where
    by_batches : (X : List (List Record)) → flat_map (λ b. b) X ≡ take F.first (log_in F) → F.place ≡ sum_by batch_length X → 0 < F.place
    by_batches [] none e = absurd (omega (arith, ap length none, length-take-le F.first (log_in F) is.fits.fits.count, is.behind))
    by_batches (b ∷ X) some e = omega (arith, e, sum_by-cons batch_length b X)

pub fit_is_found : FitIsFound
fit_is_found F is = record {
  lawful = is.lawful;
  found = record {
    batches = refl;
    gates = refl;
    place = record { placed = placed F is; moved = omega (arith, is.moved); some = ⊎_elim (λ none. inl none) (λ read. inr (omega (arith, is.behind, read))) is.read; read = is.read };
    front = log_in F;
    more = [];
    log = append-nil (log_in F);
    some = omega (arith, is.behind, is.fits.fits.count);
    fits = (F.batches, is.fits);
    parts = append-nil F.batches;
    good = refl;
  };
  few = omega (arith, is.moved, is.fits.fits.count);
  restarting = λ r E some. record { lawful = is.lawful; batches = refl; some = (r, E, some) };
  resting = λ none last. record { none = none; files = is.fits };
}

-- ---- a format, and a Restarted behind it
closed_format_lawful : (s : Sizes) → CanBeSpelled (Format s.index s.heap) → IsLawful (formatted_closed s)
closed_format_lawful s can = record {
  some_index = history.some_index;
  some_heap = history.some_heap;
  spelled = spelled;
  legal = record { rules = rw (eqb-self s.index, eqb-self s.heap) refl; txns = λ t. refl; scans = told; reads = reads };
  locks = ((λ i j a b lt at. absurd (cc), tt), λ i j a b lt at. absurd (cc));
}
  where
    history : IsHistory (Format s.index s.heap ∷ [])
    history = format_is_history s can

    spelled : AreSpelled (formatted_closed s)
    spelled zero r at = history.spelled zero r at
    spelled (suc zero) r at = let same : Restarted [] [] ≡ r = cc in subst CanBeSpelled same ((omega arith, tt, refl), (omega arith, tt, refl))
    spelled (suc (suc n)) r at = absurd (cc)

    told : TellsScan (formatted_closed s)
    told zero rs ds at = absurd (cc)
    told (suc zero) rs ds at = let same : Restarted [] [] ≡ Restarted rs ds = cc in by_lists rs ds same
      where
        by_lists : (us vs : List ℕ) → Restarted [] [] ≡ Restarted us vs → (us ≡ []) × (vs ≡ [])
        by_lists us vs same = (cc, cc)
    told (suc (suc n)) rs ds at = absurd (cc)

    reads : ReadsWords (formatted_closed s)
    reads zero a at = absurd (cc)
    reads (suc zero) a at = absurd (cc)
    reads (suc (suc n)) a at = absurd (cc)

pub closed_format_is_found : ClosedFormatIsFound
closed_format_is_found s F can is = fit_is_found G (record {
  lawful = subst IsLawful (sym log) lawful;
  fits = subst (λ K. FitsWhole (sizes_of K) (base_of (sizes_of K) K) K G (last_epoch K)) (sym log) (format_rests s F lawful.some_index lawful.some_heap is);
  behind = omega (arith, is.first);
  moved = omega (arith, is.gates);
  read = inl is.gates;
})
  where
    G : Files
    G = with_batch F (Restarted [] [] ∷ [])

    lawful : IsLawful (formatted_closed s)
    lawful = closed_format_lawful s can

    log : log_in (with_batch F (Restarted [] [] ∷ [])) ≡ formatted_closed s
    log = ap (λ bs. flat_map (λ b. b) (bs ++ (Restarted [] [] ∷ []) ∷ [])) is.batches
