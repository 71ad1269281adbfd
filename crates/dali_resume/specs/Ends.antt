-- A log of three epochs behind a format, of which no image was made: what is handed out, and which record is named where one is wrong.
use Rattle.std.specs.Prelude.{◌≡◌, ℕ, List, [], ◌∷◌, None}
use Rattle.dali_geometry.specs.Places.{formatted_image}
use Rattle.dali_record.specs.declared.records.Record.{Record}
use Rattle.dali_record.specs.declared.records.Record.TheVariants.{Format, Begin, Commit, Ended, Restarted}
use Rattle.dali_record.specs.Files.{Files}
use Rattle.dali_resume.specs.Tests.{known_at, first_bad}
use Rattle.dali_resume.specs.Refused.{two}
use Rattle.dali_resume.specs.Onward.{Verdict, Misfit, goes_through, hands_on, verdict_of}

abbrev pub fresh : Files
fresh = record { batches = []; gates = 0; number = 0; place = 15; first = 1; weight = 10; next = 1; image = formatted_image two; table = [] }

-- transaction 1 is rolled back, then 2 ends by itself and 3 is rolled back, and 4 is running
abbrev pub behind : List ℕ → Record → List ℕ → List Record
behind first r second = Begin 1 ∷ Restarted first [] ∷ r ∷ Begin 3 ∷ Ended 2 ∷ Restarted second [] ∷ Begin 4 ∷ []

abbrev pub reads : List ℕ → Record → List ℕ → Verdict
reads first r second = verdict_of two fresh (Format 1 1 ∷ behind first r second)

pub record EndsEpochs : Type 0 where
  pub passes : first_bad two 1 (known_at 1 1 []) (behind (1 ∷ []) (Begin 2) (3 ∷ [])) ≡ None
  pub rolled : (hands_on two (goes_through two fresh (behind (1 ∷ []) (Begin 2) (3 ∷ [])))).rolled ≡ 4 ∷ []
  pub next : (goes_through two fresh (behind (1 ∷ []) (Begin 2) (3 ∷ []))).known.next ≡ 5
  pub number : (goes_through two fresh (behind (1 ∷ []) (Begin 2) (3 ∷ []))).known.number ≡ 8
  -- nobody is named, whom the first epoch leaves
  pub first_wrong : reads [] (Begin 2) (3 ∷ []) ≡ Misfit 2
  -- who ended isn't rolled back, nor is one of an older epoch
  pub second_wrong : reads (1 ∷ []) (Begin 2) (2 ∷ 3 ∷ []) ≡ Misfit 6
  pub older_named : reads (1 ∷ []) (Begin 2) (1 ∷ 3 ∷ []) ≡ Misfit 6
  -- a transaction doesn't outlive its epoch, and its number isn't given again
  pub outlived : reads (1 ∷ []) (Commit 1) (3 ∷ []) ≡ Misfit 3
  pub given_again : reads (1 ∷ []) (Begin 1) (3 ∷ []) ≡ Misfit 3
