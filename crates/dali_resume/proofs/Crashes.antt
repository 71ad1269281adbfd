-- What a crash of a run with its store leaves resumes.
use Rattle.std.proofs.Common.{◌≡◌, ℕ, List, [], ◌∷◌, ◌++◌, take, drop, refl, ap, sym, subst, ◌∙◌}
use Rattle.std.proofs.lemmas.List.{take-append-drop}
use Rattle.dali_geometry.specs.Sizes.{Sizes}
use Rattle.dali_record.specs.declared.records.Record.{Record}
use Rattle.dali_record.specs.declared.records.Record.TheVariants.{Restarted}
use Rattle.dali_record.specs.Epochs.{last_epoch, recovered_epoch}
use Rattle.dali_record.specs.Damage.{rolled_list}
use Rattle.dali_record.specs.Legal.{sizes_of}
use Rattle.dali_record.specs.Files.{Files}
use Rattle.dali_history.specs.Recovered.{base_of, recovered, recovered_now, freed}
use Rattle.dali_history.specs.History.{IsHistory, RestartGives}
use Rattle.dali_history.proofs.HeadlineLemmas.EpochByEpoch.{recovered_holds}
use Rattle.dali_history.proofs.HeadlineLemmas.NothingToFree.{freed_tidy}
use Rattle.dali_history.proofs.HeadlineLemmas.Headline.{restart_is_right}
use Rattle.dali_runs.specs.Run.{log_in}
use Rattle.dali_crash.specs.Fitting.{FitsWhole}
use Rattle.dali_resume.specs.Again.{Outcome, lists_told, restarts_to}
use Rattle.dali_resume.specs.Crashes.{GivesAll, Resumes, EveryHistoryResumes, CrashResumes}
use Rattle.dali_resume.proofs.Again.{hands_all_out, restarts_again, resume_gives}
use Rattle.dali_resume.proofs.Passes.{passes_tests}

resumes : (K : List Record) (F : Files) → IsHistory K → FitsWhole (sizes_of K) (base_of (sizes_of K) K) K F (last_epoch K) → Resumes K F
resumes K F history fit = record {
  pass = passes_tests s base K F (last_epoch K) fit history.legal history.spelled;
  image = by_records (last_epoch K).records refl;
  gives = λ r E some. resume_gives K F r E history fit some;
  again = λ r E some. restarts_again K F r E history fit some;
  told = told;
}
  where
    s : Sizes
    s = sizes_of K

    base : List (List ℕ)
    base = base_of (sizes_of K) K

    tidy : (last_epoch K).records ≡ [] → freed s base ≡ recovered s K
    tidy none = ap (freed s) (sym same) ∙ freed_tidy s (recovered s K) (recovered_holds K history).2.image_is (recovered_holds K history).2.tidy
      where
        same : recovered s K ≡ base
        same = ap (λ Z. recovered_now s base (last_epoch K) Z) none

    empty : (last_epoch K).records ≡ [] → restarts_to s F K ≡ record { image = recovered s K; rolled = (lists_told (drop F.first K)).0; deleted = (lists_told (drop F.first K)).1 }
    empty none = (hands_all_out s base K F (last_epoch K) fit history.legal history.spelled).1 none ∙ ap (λ i. record { image = i; rolled = (lists_told (drop F.first K)).0; deleted = (lists_told (drop F.first K)).1 }) (tidy none)

    by_records : (E : List Record) → (last_epoch K).records ≡ E → (restarts_to s F K).image ≡ recovered s K
    by_records [] none = ap (λ (o : Outcome). o.image) (empty none)
    by_records (r ∷ E) some = ap (λ (o : Outcome). o.image) (restarts_again K F r E history fit some).first

    told : (rs ds : List ℕ) → (last_epoch K).records ≡ [] → drop F.first K ≡ Restarted rs ds ∷ [] → GivesAll K F
    told rs ds none read =
        let named = (restart_is_right K history).named (take F.first K) rs ds (ap (λ Z. take F.first K ++ Z) (sym read) ∙ take-append-drop F.first K) in
        let gives : RestartGives K (recovered s K) rs ds = subst (λ a. RestartGives K (recovered s K) a ds) (sym named.0) (subst (λ b. RestartGives K (recovered s K) (rolled_list (recovered_epoch K)) b) (sym named.1) (restart_is_right K history).gives) in
        subst (λ (o : Outcome). RestartGives K o.image o.rolled o.deleted)
        (sym (empty none ∙ ap (λ Q. record { image = recovered s K; rolled = (lists_told Q).0; deleted = (lists_told Q).1 }) read))
        gives

pub every_history_resumes : EveryHistoryResumes
every_history_resumes = resumes

pub crash_resumes : CrashResumes
crash_resumes before c F right = resumes (log_in F) F right.restarts.history right.image.fits
