-- The files right after a format or a restart.
--     IsFormatted s F          right after a format
--     IsRestarted L F          right after a restart, which logged Restarted and wrote the image that it came to
--     IsFresh L F              one of these, with the log L
--     FreshFits                such files fit their log
--     IsLawful L               a log that can be spelled, and is legal and lock-legal, honest or not: a core may be made over it
--     MayStart L               a history with an empty last epoch
--     RestartStarts            so it may over the log that a restart leaves: a run may be stopped and started again
--     LawfulRestarts           the log that a restart leaves of a lawful one is lawful
use Rattle.std.specs.Prelude.{◌≡◌, ◌↔◌, ℕ, ◌<◌, Bool, ◌⊎◌, List, [], ◌∷◌, ◌++◌, length, sum_by, flat_map, IsSome}
use Rattle.dali_geometry.specs.Sizes.{Sizes}
use Rattle.dali_geometry.specs.Places.{formatted_image}
use Rattle.dali_record.specs.declared.records.Record.{Record}
use Rattle.dali_record.specs.declared.records.Record.TheVariants.{Format, Restarted}
use Rattle.dali_record.specs.Epochs.{last_epoch, recovered_epoch}
use Rattle.dali_record.specs.Damage.{rolled_list, deleted_list}
use Rattle.dali_record.specs.Spelling.{record_length}
use Rattle.dali_record.specs.Legal.{IsLegal, sizes_of, rules_state}
use Rattle.dali_record.specs.Files.{Files, batch_length, next_after}
use Rattle.dali_record.specs.Locks.{IsLockLegal}
use Rattle.dali_history.specs.Recovered.{recovered, IsHonest}
use Rattle.dali_history.specs.History.{AreSpelled, IsHistory}
use Rattle.dali_runs.specs.Run.{Bases, base_at, log_in}
use Rattle.dali_runs.specs.Images.{FitsBut}

-- the log has the Format alone, no gate of the anchor is open, and the formatted regions count as the image
pub record IsFormatted (s : Sizes) (F : Files) : Type 0 where
  pub batches : F.batches ≡ (Format s.index s.heap ∷ []) ∷ []
  pub gates : F.gates ≡ 0
  pub place : F.place ≡ 15
  pub first : F.first ≡ 1
  pub weight : F.weight ≡ record_length (Format s.index s.heap)
  pub next : F.next ≡ 1
  pub image : F.image ≡ formatted_image s
  pub table : F.table ≡ []

-- the epoch had a record; Restarted closes it, in a batch of its own; the image stands before this batch, and its
-- table is empty
pub record IsRestarted (L : List Record) (F : Files) : Type 0 where
  pub closed : List Record
  pub rolled : List ℕ
  pub deleted : List ℕ
  pub log : L ≡ closed ++ Restarted rolled deleted ∷ []
  pub some : (r : Record) × (E : List Record) × ((last_epoch closed).records ≡ r ∷ E)
  pub older : List (List Record)
  pub batches : F.batches ≡ older ++ (Restarted rolled deleted ∷ []) ∷ []
  pub spell : flat_map (λ b. b) older ≡ closed
  pub gates : 0 < F.gates
  pub number : F.number ≡ F.gates
  pub place : F.place ≡ sum_by batch_length older
  pub first : F.first ≡ length closed
  pub weight : F.weight ≡ sum_by record_length closed
  pub next : F.next ≡ next_after closed
  pub image : F.image ≡ recovered (sizes_of L) L
  pub table : F.table ≡ []

pub record IsFresh (L : List Record) (F : Files) : Type 0 where
  pub log : log_in F ≡ L
  pub kind : IsFormatted (sizes_of L) F ⊎ IsRestarted L F

pub record IsLawful (L : List Record) : Type 0 where
  pub some_index : 0 < (sizes_of L).index
  pub some_heap : 0 < (sizes_of L).heap
  pub spelled : AreSpelled L
  pub legal : IsLegal L
  pub locks : IsLockLegal L

-- a history is one that is honest besides
abbrev pub HistoryIsLawful : Type 0
HistoryIsLawful = (L : List Record) → IsHistory L ↔ (IsLawful L × IsHonest (sizes_of L) L)

abbrev pub FreshFits : Type 0
FreshFits =
    (bases : Bases) (L : List Record) (F : Files) (missed : ℕ → Bool)
    → base_at bases L ≡ recovered (sizes_of L) L
    → IsFresh L F
    → FitsBut (sizes_of L) bases missed (log_in F) F (last_epoch (log_in F))

-- a history without a record in its last epoch
pub record MayStart (L : List Record) : Type 0 where
  pub history : IsHistory L
  pub rules : IsSome (rules_state (sizes_of L) L)
  pub none : (last_epoch L).records ≡ []

abbrev pub RestartStarts : Type 0
RestartStarts =
    (K : List Record) (r : Record) (E : List Record) → IsHistory K → (last_epoch K).records ≡ r ∷ E
    → MayStart (K ++ Restarted (rolled_list (recovered_epoch K)) (deleted_list (recovered_epoch K)) ∷ [])

-- honest or not
abbrev pub LawfulRestarts : Type 0
LawfulRestarts =
    (K : List Record) (r : Record) (E : List Record) → IsLawful K → (last_epoch K).records ≡ r ∷ E
    → IsLawful (K ++ Restarted (rolled_list (last_epoch K)) (deleted_list (last_epoch K)) ∷ [])
