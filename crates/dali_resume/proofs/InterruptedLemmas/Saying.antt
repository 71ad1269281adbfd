-- At each stage of a restart the log says the same, honest or not.
use Rattle.std.proofs.Common.{◌≡◌, ℕ, ◌+◌, ◌<◌, false, List, [], ◌∷◌, ◌++◌, length, append_assoc, refl, ap, sym, subst, ◌∙◌, inl, inr, arith}
use Rattle.std.proofs.lemmas.List.{append-nil, length-append}
use Rattle.std.proofs.lemmas.List.Concat.{flat_map-append}
use Rattle.dali_geometry.specs.Sizes.{Sizes}
use Rattle.dali_record.specs.declared.records.Record.{Record}
use Rattle.dali_record.specs.Damage.{rolled_list, deleted_list}
use Rattle.dali_record.specs.Epochs.{Cut, last_epoch, recovered_epoch}
use Rattle.dali_record.specs.Files.{Files}
use Rattle.dali_record.specs.Legal.{sizes_of}
use Rattle.dali_record.proofs.Batches.{recovered_restarted}
use Rattle.dali_record.proofs.Pushes.{cut_push}
use Rattle.dali_history.proofs.HeadlineLemmas.NothingToFree.{recovered-base}
use Rattle.dali_history.specs.History.{IsHistory}
use Rattle.dali_history.specs.Recovered.{base_of, recovered}
use Rattle.dali_history.proofs.Restarts.{IsHistory-restarted, recovered-same}
use Rattle.dali_history.proofs.HeadlineLemmas.RestartsAgain.{names_the_report}
use Rattle.dali_runs.specs.Images.{FitsBut}
use Rattle.dali_runs.specs.Run.{log_in}
use Rattle.dali_crash.specs.Fitting.{FitsWhole}
use Rattle.dali_crash.specs.Starts.{IsFresh, IsLawful}
use Rattle.dali_crash.proofs.Fitting.{but_is_whole}
use Rattle.dali_crash.proofs.RecoveredWords.{recovered_count}
use Rattle.dali_crash.proofs.Starts.{fresh_fits}
use Rattle.dali_resume.specs.Again.{closed_log, closing, turned, with_closing}
use Rattle.dali_resume.specs.Batches.{records_of}
use Rattle.dali_resume.proofs.Batches.{both_good}
use Rattle.dali_resume.specs.Interrupted.Rests.{SaysOf, StagesSay}
use Rattle.dali_resume.specs.Interrupted.Stages.{IsFound, IsRestarting}
use Rattle.dali_resume.proofs.InterruptedLemmas.Places.{turned_has_place}
use Rattle.dali_resume.proofs.InterruptedLemmas.Stages.{behind_found, closed_lawful, closing_log, found_log, same_sizes, turned_is_fresh}

none_closed : (L : List Record) → (last_epoch (closed_log L)).records ≡ []
none_closed L = ap (λ (c : Cut). c.now.records) (cut_push L (closing L))

longer : (L : List Record) → length (closed_log L) ≡ length L + 1
longer L = length-append L (closing L ∷ [])

-- ---- as it was found
found_says : (L : List Record) (B : List (List Record)) (n : ℕ) (G : Files) → IsRestarting L B → IsFound L B n G → SaysOf L G
found_says L B n G w f = record {
  finds = record {
    lawful = subst IsLawful (sym log) w.lawful;
    found = record {
      batches = refl;
      gates = refl;
      place = f.place;
      front = f.front;
      more = f.more;
      log = f.log ∙ sym log;
      some = f.some;
      fits = f.fits;
      parts = f.parts ∙ sym f.batches;
      good = f.good;
    };
    few = omega (arith, f.place.moved, behind, ap length log);
    restarting = λ r E some. record { lawful = subst IsLawful (sym log) w.lawful; batches = refl; some = (r, E, some) };
    resting = λ none le. let never : w.some.0 ∷ w.some.1 ≡ [] = sym w.some.2 ∙ (ap (λ M. (last_epoch M).records) (sym log) ∙ none) in absurd (cc);
  };
  log = inl log;
  image = ap (λ M. recovered (sizes_of M) M) log;
  epoch = ap recovered_epoch log ∙ names_the_report L w.some.0 w.some.1 w.some.2;
  behind = omega (arith, behind, ap length log);
  history = λ h. subst IsHistory (sym log) h;
}
  where
    log : log_in G ≡ L
    log = found_log L B n G w f

    behind : G.first < length L
    behind = behind_found L B n G w f

-- ---- behind it
-- what is said of the log alone
record SaysBehind (L : List Record) (G : Files) : Type 0 where
  lawful : IsLawful (log_in G)
  none : (last_epoch (log_in G)).records ≡ []
  image : recovered (sizes_of (log_in G)) (log_in G) ≡ recovered (sizes_of L) L
  epoch : recovered_epoch (log_in G) ≡ last_epoch L
  size : length (log_in G) ≡ length L + 1
  history : IsHistory L → IsHistory (log_in G)

says_behind : (L : List Record) (B : List (List Record)) (G : Files) → IsRestarting L B → log_in G ≡ closed_log L → SaysBehind L G
says_behind L B G w log = record {
  lawful = subst IsLawful (sym log) (closed_lawful L B w);
  none = ap (λ M. (last_epoch M).records) log ∙ none_closed L;
  image =
      ap (λ M. recovered (sizes_of M) M) log
      ∙ (ap (λ z. recovered z (closed_log L)) (same_sizes L) ∙ recovered-same (sizes_of L) L w.some.0 w.some.1 rs ds w.some.2);
  epoch = ap recovered_epoch log ∙ recovered_restarted L rs ds;
  size = ap length log ∙ longer L;
  history = λ h. subst IsHistory (sym log) (IsHistory-restarted L w.some.0 w.some.1 rs ds h w.some.2 refl refl);
}
  where
    rs : List ℕ
    rs = rolled_list (last_epoch L)

    ds : List ℕ
    ds = deleted_list (last_epoch L)

never_restarts :
    (L : List Record) (G : Files) (r : Record) (E : List Record) → SaysBehind L G → (last_epoch (log_in G)).records ≡ r ∷ E
    → IsRestarting (log_in G) G.batches
never_restarts L G r E b some = let never : r ∷ E ≡ [] = sym some ∙ b.none in absurd (cc)

logged_says : (L : List Record) (B : List (List Record)) (n : ℕ) (D : Files) → IsRestarting L B → IsFound L B n D → SaysOf L (with_closing L D)
logged_says L B n D w f = record {
  finds = record {
    lawful = b.lawful;
    found = record {
      batches = refl;
      gates = refl;
      place = record { placed = f.place.placed; moved = f.place.moved; some = inr (omega (arith, behind, b.size)); read = inr (omega (arith, behind, b.size)) };
      front = f.front;
      more = f.more ++ (closing L ∷ []) ∷ [];
      log = records ∙ sym log;
      some = f.some;
      fits = f.fits;
      parts = sym (append_assoc f.fits.0 f.more ((closing L ∷ []) ∷ [])) ∙ ap (λ bs. bs ++ (closing L ∷ []) ∷ []) (f.parts ∙ sym f.batches);
      good = both_good f.more ((closing L ∷ []) ∷ []) f.good refl;
    };
    few = omega (arith, f.place.moved, behind, b.size);
    restarting = λ r E some. never_restarts L (with_closing L D) r E b some;
    resting = λ none le. absurd (omega (arith, le, behind, b.size));
  };
  log = inr log;
  image = b.image;
  epoch = b.epoch;
  behind = omega (arith, behind, b.size);
  history = b.history;
}
  where
    log : log_in (with_closing L D) ≡ closed_log L
    log = closing_log L B n D w f

    b : SaysBehind L (with_closing L D)
    b = says_behind L B (with_closing L D) w log

    behind : D.first < length L
    behind = behind_found L B n D w f

    records : f.front ++ records_of (f.more ++ (closing L ∷ []) ∷ []) ≡ closed_log L
    records =
        ap (λ Q. f.front ++ Q) (flat_map-append (λ b. b) f.more ((closing L ∷ []) ∷ []))
        ∙ (sym (append_assoc f.front (records_of f.more) (closing L ∷ [])) ∙ ap (λ M. M ++ closing L ∷ []) f.log)

-- ---- with the new image
-- it fits the whole log, at its last epoch
pub turned_fits_log :
    (L : List Record) (B : List (List Record)) (n : ℕ) (D : Files) → IsRestarting L B → IsFound L B n D
    → FitsWhole (sizes_of (closed_log L)) (base_of (sizes_of (closed_log L)) (closed_log L)) (closed_log L) (turned L D) (last_epoch (closed_log L))
turned_fits_log L B n D w f =
    subst (λ base. FitsWhole s base K G (last_epoch K)) (recovered-base s K (none_closed L))
    (but_is_whole s (λ k. recovered s K) (λ q. false) K G (last_epoch K)
    (subst (λ M. FitsBut s (λ k. recovered s K) (λ q. false) M G (last_epoch M)) log but) (recovered_count s K) (λ q h. refl))
  where
    K : List Record
    K = closed_log L

    s : Sizes
    s = sizes_of K

    G : Files
    G = turned L D

    log : log_in (turned L D) ≡ closed_log L
    log = closing_log L B n D w f

    fresh : IsFresh (closed_log L) (turned L D)
    fresh = record { log = log; kind = inr (turned_is_fresh L B n D w f) }

    but :
        FitsBut (sizes_of (closed_log L)) (λ k. recovered (sizes_of (closed_log L)) (closed_log L)) (λ q. false)
        (log_in (turned L D)) (turned L D) (last_epoch (log_in (turned L D)))
    but = fresh_fits (λ k. recovered s K) K G (λ q. false) refl fresh

turned_says : (L : List Record) (B : List (List Record)) (n : ℕ) (D : Files) → IsRestarting L B → IsFound L B n D → SaysOf L (turned L D)
turned_says L B n D w f = record {
  finds = record {
    lawful = b.lawful;
    found = record {
      batches = refl;
      gates = refl;
      place = turned_has_place L B n (turned L D) w (D, f, refl);
      front = closed_log L;
      more = [];
      log = append-nil (closed_log L) ∙ sym log;
      some = omega (arith, longer L);
      fits = ((turned L D).batches, fits);
      parts = append-nil (turned L D).batches;
      good = refl;
    };
    few = omega (arith, f.place.moved, behind, b.size);
    restarting = λ r E some. never_restarts L (turned L D) r E b some;
    resting = λ none le. record {
      none = none;
      files = subst (λ M. FitsWhole (sizes_of M) (base_of (sizes_of M) M) M (turned L D) (last_epoch M)) (sym log) fits;
    };
  };
  log = inr log;
  image = b.image;
  epoch = b.epoch;
  behind = omega (arith, b.size);
  history = b.history;
}
  where
    log : log_in (turned L D) ≡ closed_log L
    log = closing_log L B n D w f

    b : SaysBehind L (turned L D)
    b = says_behind L B (turned L D) w log

    behind : D.first < length L
    behind = behind_found L B n D w f

    fits : FitsWhole (sizes_of (closed_log L)) (base_of (sizes_of (closed_log L)) (closed_log L)) (closed_log L) (turned L D) (last_epoch (closed_log L))
    fits = turned_fits_log L B n D w f

pub stages_say : StagesSay
stages_say L B n G w = record {
  found = λ f. found_says L B n G w f;
  logged = λ g. subst (SaysOf L) (sym g.2) (logged_says L B n g.0 w g.1);
  turned = λ t. subst (SaysOf L) (sym t.2) (turned_says L B n t.0 w t.1);
}
