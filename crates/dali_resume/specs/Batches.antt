-- What a restart tests of the batches behind an image: each Restarted is the first record of its batch. The other tests see records alone.
--     misplaced_in b           the place in the batch b of the first Restarted behind its first record
--     misplaced bs             its place among the records of these batches
--     IsMisplaced bs i         what that says
--     FindsMisplaced           it is none exactly where each batch has its Restarted first, and else it is the place of the first that isn't
--     FitsInBatches            no Restarted behind the image of files that fit is misplaced, from the batch at its place on, nor is one where more
--                              batches follow that have theirs first
--     verdict_over s F bs      what is handed out of the records of these batches, or the first that fails a test of either kind
--     IsFirstFailure           the place of m among these records fails a test of either kind, and none before it does
--     AnswersOverBatches       so it is: where none is misplaced it is what these records give, a number that it names is a first failure, and where a
--                              place fails a test of either kind a number is named that isn't above it
--     FrontAnswersOverBatches  so is what files with an image in a front of their log give
use Rattle.std.specs.Prelude.{◌≡◌, ◌↔◌, ◌⊎◌, ◌≤◌, ℕ, ◌+◌, true, false, List, [], ◌∷◌, ◌++◌, if◌then◌else◌, nat_le, Option, Some, None, length, take, drop, sum_by, flat_map}
use Rattle.std.specs.List.{list_all, list_any}
use Rattle.dali_geometry.specs.Sizes.{Sizes}
use Rattle.dali_record.specs.declared.records.Record.{Record}
use Rattle.dali_record.specs.declared.records.Record.TheVariants.{Restarted}
use Rattle.dali_record.specs.Epochs.{Epoch}
use Rattle.dali_record.specs.Files.{Files, batch_length, is_restarted, is_restarted_first}
use Rattle.dali_crash.specs.Fitting.{FitsWhole}
use Rattle.dali_resume.specs.Tests.{first_bad, known_at, one_later}
use Rattle.dali_resume.specs.Onward.{FitsFront, Verdict, Misfit, goes_through, hands_on, verdict_by, verdict_of}

-- the records of these batches
abbrev pub records_of : List (List Record) → List Record
records_of bs = flat_map (λ b. b) bs

-- ---- the test
abbrev pub first_restarted : List Record → Option ℕ
first_restarted [] = None
first_restarted (r ∷ rs) = if is_restarted r then Some 0 else one_later (first_restarted rs)

abbrev pub misplaced_in : List Record → Option ℕ
misplaced_in [] = None
misplaced_in (r ∷ rs) = one_later (first_restarted rs)

abbrev pub further : ℕ → Option ℕ → Option ℕ
further n None = None
further n (Some i) = Some (n + i)

abbrev pub either_place : Option ℕ → Option ℕ → Option ℕ
either_place None o = o
either_place (Some i) o = Some i

abbrev pub misplaced : List (List Record) → Option ℕ
misplaced [] = None
misplaced (b ∷ bs) = either_place (misplaced_in b) (further (length b) (misplaced bs))

pub record IsMisplaced (bs : List (List Record)) (i : ℕ) : Type 0 where
  pub before : List (List Record)
  pub behind : List (List Record)
  pub first : Record
  pub others : List Record
  pub rolled : List ℕ
  pub deleted : List ℕ
  pub rest : List Record
  pub batches : bs ≡ before ++ (first ∷ others ++ Restarted rolled deleted ∷ rest) ∷ behind
  pub place : i ≡ length (records_of before) + (length others + 1)
  -- none stands so before it
  pub good : list_all is_restarted_first before ≡ true
  pub none : list_any is_restarted others ≡ false

abbrev pub FindsMisplaced : Type 0
FindsMisplaced =
    (bs : List (List Record)) → ((misplaced bs ≡ None) ↔ (list_all is_restarted_first bs ≡ true))
    × ((i : ℕ) → misplaced bs ≡ Some i → IsMisplaced bs i)

-- ---- files that fit
abbrev pub FitsInBatches : Type 0
FitsInBatches =
    (s : Sizes) (base : List (List ℕ)) (L : List Record) (F : Files) (e : Epoch) (more : List (List Record)) → FitsWhole s base L F e
    → list_all is_restarted_first more ≡ true
    → (k : ℕ) × (F.place ≡ sum_by batch_length (take k F.batches)) × (records_of (drop k F.batches) ≡ drop F.first L) × (misplaced (drop k F.batches ++ more) ≡ None)

-- ---- both kinds of test
abbrev pub earlier : Option ℕ → Option ℕ → Option ℕ
earlier None o = o
earlier (Some i) None = Some i
earlier (Some i) (Some j) = if nat_le i j then Some i else Some j

abbrev pub bad_of : Sizes → Files → List (List Record) → Option ℕ
bad_of s F bs = first_bad s F.first (known_at F.first F.next F.table) (records_of bs)

abbrev pub verdict_over : Sizes → Files → List (List Record) → Verdict
verdict_over s F bs = verdict_by F.first (hands_on s (goes_through s F (records_of bs))) (earlier (bad_of s F bs) (misplaced bs))

pub record IsFirstFailure (s : Sizes) (F : Files) (bs : List (List Record)) (m : ℕ) : Type 0 where
  pub place : ℕ
  pub number : m ≡ F.first + place
  pub fails : (bad_of s F bs ≡ Some place) ⊎ (misplaced bs ≡ Some place)
  pub first : (j : ℕ) → (bad_of s F bs ≡ Some j) ⊎ (misplaced bs ≡ Some j) → place ≤ j

abbrev pub AnswersOverBatches : Type 0
AnswersOverBatches =
    (s : Sizes) (F : Files) (L : List Record) (bs : List (List Record)) → records_of bs ≡ drop F.first L
    → (misplaced bs ≡ None → verdict_over s F bs ≡ verdict_of s F L)
    × ((m : ℕ) → verdict_over s F bs ≡ Misfit m → IsFirstFailure s F bs m)
    × ((j : ℕ) → (bad_of s F bs ≡ Some j) ⊎ (misplaced bs ≡ Some j) → (m : ℕ) × (verdict_over s F bs ≡ Misfit m) × (m ≤ F.first + j))

-- files whose image fits a front of the log, with more batches behind it: from the batch at the image's place on, the answer is that of the whole log
abbrev pub FrontAnswersOverBatches : Type 0
FrontAnswersOverBatches =
    (s : Sizes) (K : List Record) (F : Files) (more : List (List Record)) (front : FitsFront s K F) → list_all is_restarted_first more ≡ true
    → (k : ℕ) × (F.place ≡ sum_by batch_length (take k front.0)) × (verdict_over s F (drop k front.0 ++ more) ≡ verdict_of s F (K ++ records_of more))
