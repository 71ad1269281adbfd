-- What a restart computes where further records of restarts stand behind an image: each ends an epoch there, and the next one begins over what it
-- came to.
--     Going                    what is known for the tests, the words over which the present epoch's records are written, and the lists that the last
--                              Restarted told
--     closed_image s c         the words once the present epoch is recovered
--     going_next s n c r       behind the record r, where n is the image's record number. A Restarted at the image's place ends nothing: the image is
--                              what that restart came to
--     goes_through s F Q       from the image of F on, behind the records Q
--     hands_on s c             what is handed out where no record follows
--     verdict_of s F L         of files F with the log L: what is handed out, or the number of the first record that may not stand where it does
--     FitsFront s K F          the files, with the batches of that time, fit the log K at its last epoch
--     RestsFree                where the last epoch has no record, its base has been freed already: so that is what a restart of the log makes
--     IsResumed s L n o        o is what the whole log says: the recovered image, and the lists of the recovered epoch where a record stands behind the
--                              image's number n, else none
--     IsRightAtEnd s L F c     so is what is handed out of c at the log's end, where the numbers that are known go on from there
--     ResumesThrough           that is answered from files that fitted a front of the log, whatever stands behind it, where the log is legal
--     ListsAreTested           a Restarted that may follow records of a legal log, behind the image's place, names those that the rules compute
--     KnowsAlike               what is known on the way is what the tests know
--     ServesAnyLog             of any records that pass, the undo list that the tests keep of a transaction without a Commit is the one that is
--                              performed, and the tests know whether an audit of the present epoch failed
--     OnePassOnward            where none did, its records are recovered in one pass with that table, and nobody is deleted
--     ResumesHistories         so of a history what is handed out is right
--     FormatFits               the files of a format fit the log of its one record: they are read so where no checkpoint was made, however many restarts
--                              the log has
--     FormatRests              with a Restarted behind it they fit at the last epoch: a run may start from them
--     FormatHandsOut           of Format alone, and of Format and Restarted, the formatted regions are handed out, and nobody
--     CrashIsAnswered          so it is from what a crash of a run with its store leaves
--     RestartsOnward           where the last epoch has a record, a restart may be stopped and made again
use Rattle.std.specs.Prelude.{◌≡◌, ◌<◌, ◌&&◌, ℕ, Bool, true, false, ◌+◌, not, List, [], ◌∷◌, ◌++◌, ◌==◌, if◌then◌else◌, Option, Some, None, drop, length, flat_map, fold, sum_by}
use Rattle.std.specs.List.{list_any}
use Rattle.dali_geometry.specs.Sizes.{Sizes}
use Rattle.dali_geometry.specs.Places.{formatted_image}
use Rattle.dali_record.specs.declared.records.Record.{Record}
use Rattle.dali_record.specs.declared.records.Record.TheVariants.{Format, Restarted}
use Rattle.dali_record.specs.Epochs.{last_epoch, recovered_epoch}
use Rattle.dali_record.specs.Damage.{rolled_list, deleted_list}
use Rattle.dali_record.specs.Spelling.{record_length}
use Rattle.dali_record.specs.Legal.{sizes_of, IsLegalFor}
use Rattle.dali_record.specs.Log.{undo_step}
use Rattle.dali_record.specs.Settled.{redo_all}
use Rattle.dali_record.specs.Files.{Files, Row, is_restarted, next_after, with_batch}
use Rattle.dali_history.specs.Recovered.{base_of, recovered, roll_back, freed}
use Rattle.dali_history.specs.History.{AreSpelled, IsHistory, RestartGives}
use Rattle.dali_runs.specs.State.{CoreState}
use Rattle.dali_runs.specs.Run.{log_in}
use Rattle.dali_crash.specs.StoreRuns.{CrashIsRightWith}
use Rattle.dali_crash.specs.Fitting.{FitsWhole}
use Rattle.dali_crash.specs.Starts.{IsFormatted}
use Rattle.dali_resume.specs.Resumed.{damage_from, scan, row_undos, committed_by, rolled_by, deleted_by, recover_by}
use Rattle.dali_resume.specs.Tests.{Known, known_at, known_next, may_follow, tests, first_bad}
use Rattle.dali_resume.specs.Laws.{is_audit_fail, losers_of, undos_in}
use Rattle.dali_resume.specs.Again.{Outcome, closed_log, with_closing, turned, outcome_is}

pub record Going : Type 0 where
  pub known : Known
  pub image : List (List ℕ)
  pub rolled : List ℕ
  pub deleted : List ℕ

abbrev pub going_at : Files → Going
going_at F = record { known = known_at F.first F.next F.table; image = F.image; rolled = []; deleted = [] }

abbrev pub closed_image : Sizes → Going → List (List ℕ)
closed_image s c = recover_by s c.image (damage_from c.known.first c.known.seen) c.known.table c.known.seen

abbrev pub rolled_behind : List ℕ → Record → List ℕ
rolled_behind ts (Restarted rs ds) = rs
rolled_behind ts _ = ts

abbrev pub deleted_behind : List ℕ → Record → List ℕ
deleted_behind ts (Restarted rs ds) = ds
deleted_behind ts _ = ts

abbrev pub going_next : Sizes → ℕ → Going → Record → Going
going_next s n c r = record {
  known = known_next c.known r;
  image = if is_restarted r && not (c.known.number == n) then closed_image s c else c.image;
  rolled = rolled_behind c.rolled r;
  deleted = deleted_behind c.deleted r;
}

abbrev pub goes_through : Sizes → Files → List Record → Going
goes_through s F Q = fold (going_next s F.first) (going_at F) Q

-- right behind a Restarted its lists are handed out, else those of the present epoch
abbrev pub hands_on : Sizes → Going → Outcome
hands_on s c = record {
  image = closed_image s c;
  rolled = if c.known.restarted then c.rolled else rolled_by c.known.table c.known.seen;
  deleted = if c.known.restarted then c.deleted else deleted_by c.known.table c.known.seen (scan (damage_from c.known.first c.known.seen) c.known.table c.known.seen);
}

pub data Verdict : Type 0 where
  HandedOut : (outcome : Outcome) → Verdict
  -- the number of the first record that may not stand where it does
  Misfit : (number : ℕ) → Verdict

abbrev pub verdict_by : ℕ → Outcome → Option ℕ → Verdict
verdict_by n o None = HandedOut o
verdict_by n o (Some i) = Misfit (n + i)

abbrev pub verdict_of : Sizes → Files → List Record → Verdict
verdict_of s F L = verdict_by F.first (hands_on s (goes_through s F (drop F.first L))) (first_bad s F.first (known_at F.first F.next F.table) (drop F.first L))

-- ---- an image in a front of the log
abbrev pub FitsFront : Sizes → List Record → Files → Type 0
FitsFront s K F = (bs : List (List Record)) × FitsWhole s (base_of s K) K (record F { batches = bs }) (last_epoch K)

-- an empty epoch leaves its base, freed once more
abbrev pub image_now : Sizes → List Record → List Record → List (List ℕ)
image_now s L [] = freed s (base_of s L)
image_now s L (r ∷ E) = recovered s L

-- an image that rests has nothing to free, whatever the log
abbrev pub RestsFree : Type 0
RestsFree = (s : Sizes) (L : List Record) → (last_epoch L).records ≡ [] → image_now s L [] ≡ recovered s L

pub record IsResumed (s : Sizes) (L : List Record) (n : ℕ) (o : Outcome) : Type 0 where
  pub image : o.image ≡ image_now s L (last_epoch L).records
  pub rolled : n < length L → o.rolled ≡ rolled_list (recovered_epoch L)
  pub deleted : n < length L → o.deleted ≡ deleted_list (recovered_epoch L)
  pub unread : n ≡ length L → (o.rolled ≡ []) × (o.deleted ≡ [])

-- what is handed out there, and what is known: the numbers of the next record and of the next transaction, and the sum of the records' lengths, of
-- which the image tells those before it
pub record IsRightAtEnd (s : Sizes) (L : List Record) (F : Files) (c : Going) : Type 0 where
  pub verdict : verdict_of s F L ≡ HandedOut (hands_on s c)
  pub resumed : IsResumed s L F.first (hands_on s c)
  pub number : c.known.number ≡ length L
  pub next : c.known.next ≡ next_after L
  pub weight : F.weight + sum_by record_length (drop F.first L) ≡ sum_by record_length L

abbrev pub ResumesThrough : Type 0
ResumesThrough =
    (s : Sizes) (K Z : List Record) (F : Files) → 0 < s.index → 0 < s.heap → FitsFront s K F → 0 < length K → IsLegalFor s (K ++ Z) → AreSpelled (K ++ Z)
    → IsRightAtEnd s (K ++ Z) F (goes_through s F (drop F.first (K ++ Z)))

abbrev pub ListsAreTested : Type 0
ListsAreTested =
    (s : Sizes) (K Z : List Record) (F : Files) (rs ds : List ℕ) → 0 < s.index → 0 < s.heap → FitsFront s K F → 0 < length K → IsLegalFor s (K ++ Z) → AreSpelled (K ++ Z)
    → F.first < length (K ++ Z) → may_follow s F.first (goes_through s F (drop F.first (K ++ Z))).known (Restarted rs ds) ≡ true
    → (rs ≡ rolled_list (last_epoch (K ++ Z))) × (ds ≡ deleted_list (last_epoch (K ++ Z)))

abbrev pub KnowsAlike : Type 0
KnowsAlike = (s : Sizes) (F : Files) (Q : List Record) (k : Known) → tests s F.first (known_at F.first F.next F.table) Q ≡ Some k → (goes_through s F Q).known ≡ k

-- a Format may follow at number 0 alone: a record number of 0 with a Format behind it would begin the log again
abbrev pub begins_log : List Record → Bool
begins_log (Format i h ∷ Q) = true
begins_log _ = false

-- no rule of the log is a premise but what was tested
abbrev pub ServesAnyLog : Type 0
ServesAnyLog =
    (s : Sizes) (n next : ℕ) (rows : List Row) (Q : List Record) (k : Known) → (n == 0) && begins_log Q ≡ false
    → tests s n (known_at n next rows) Q ≡ Some k
    → ((t : ℕ) → committed_by k.table k.seen t ≡ false → undos_in (k.statuses t) ≡ fold (undo_step t) (row_undos k.table t) k.seen)
    × (k.failed ≡ list_any is_audit_fail k.seen)

-- the words over which a later epoch's blocks are written are those that the one before it came to
abbrev pub one_pass : Sizes → Going → List (List ℕ)
one_pass s c = freed s (fold (λ im t. roll_back im (undos_in (c.known.statuses t))) (redo_all c.image c.known.seen) (losers_of c.known.table c.known.seen))

abbrev pub OnePassOnward : Type 0
OnePassOnward =
    (s : Sizes) (F : Files) (Q : List Record) (k : Known) → (F.first == 0) && begins_log Q ≡ false
    → tests s F.first (known_at F.first F.next F.table) Q ≡ Some k → k.failed ≡ false
    → (closed_image s (goes_through s F Q) ≡ one_pass s (goes_through s F Q))
    × (deleted_by k.table k.seen (scan (damage_from k.first k.seen) k.table k.seen) ≡ [])

-- what the whole history says; where its last epoch is empty, the image before it
abbrev pub history_says : List Record → Outcome
history_says L = record { image = recovered (sizes_of L) L; rolled = rolled_list (recovered_epoch L); deleted = deleted_list (recovered_epoch L) }

abbrev pub ResumesHistories : Type 0
ResumesHistories =
    (K Z : List Record) (F : Files) → IsHistory (K ++ Z) → 0 < length K → FitsFront (sizes_of K) K F → F.first < length (K ++ Z)
    → (verdict_of (sizes_of K) F (K ++ Z) ≡ HandedOut (history_says (K ++ Z)))
    × RestartGives (K ++ Z) (history_says (K ++ Z)).image (history_says (K ++ Z)).rolled (history_says (K ++ Z)).deleted

-- ---- a format
abbrev pub FormatFits : Type 0
FormatFits = (s : Sizes) (F : Files) → 0 < s.index → 0 < s.heap → IsFormatted s F → FitsFront s (Format s.index s.heap ∷ []) F

abbrev pub formatted_closed : Sizes → List Record
formatted_closed s = Format s.index s.heap ∷ Restarted [] [] ∷ []

-- with a Restarted behind it the image stands before that, as the image of a restart does
abbrev pub FormatRests : Type 0
FormatRests =
    (s : Sizes) (F : Files) → 0 < s.index → 0 < s.heap → IsFormatted s F
    → FitsWhole s (base_of s (formatted_closed s)) (formatted_closed s) (with_batch F (Restarted [] [] ∷ [])) (last_epoch (formatted_closed s))

abbrev pub formatted_outcome : Sizes → Outcome
formatted_outcome s = record { image = formatted_image s; rolled = []; deleted = [] }

abbrev pub FormatHandsOut : Type 0
FormatHandsOut =
    (s : Sizes) (F : Files) → 0 < s.index → 0 < s.heap → IsFormatted s F
    → (verdict_of s F (Format s.index s.heap ∷ []) ≡ HandedOut (formatted_outcome s))
    × (verdict_of s F (formatted_closed s) ≡ HandedOut (formatted_outcome s))

-- ---- a crash
-- what a crash of a run with its store leaves, where a restart of its log is right
abbrev pub CrashIsAnswered : Type 0
CrashIsAnswered =
    (before : List Record) (c : CoreState) (F : Files) → CrashIsRightWith before c F
    → IsRightAtEnd (sizes_of (log_in F)) (log_in F) F (goes_through (sizes_of (log_in F)) F (drop F.first (log_in F)))

-- ---- a restart that is stopped
pub record IsAgainOnward (L : List Record) (F : Files) : Type 0 where
  pub first : verdict_of (sizes_of L) F L ≡ HandedOut (outcome_is L)
  pub logged : verdict_of (sizes_of L) (with_closing L F) (closed_log L) ≡ HandedOut (outcome_is L)
  pub turned_fits : FitsWhole (sizes_of L) (recovered (sizes_of L) L) (closed_log L) (turned L F) (last_epoch (closed_log L))
  pub turned_again : verdict_of (sizes_of L) (turned L F) (closed_log L) ≡ HandedOut (outcome_is L)

-- while the other image is written, the files read as those with the batch
abbrev pub RestartsOnward : Type 0
RestartsOnward =
    (K Z : List Record) (F : Files) (r : Record) (E : List Record) → IsHistory (K ++ Z) → 0 < length K → FitsFront (sizes_of K) K F
    → flat_map (λ b. b) F.batches ≡ K ++ Z → (last_epoch (K ++ Z)).records ≡ r ∷ E
    → IsAgainOnward (K ++ Z) F
