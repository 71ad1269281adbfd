-- Where the record number of an image comes from that isn't 0: a restart tests that its place isn't below 15, so a batch stands before it.
--     HasFirstRecord bs        the first of these batches has a record
--     NumberIsSome             files that fit have an image behind a record, where its place is above 0
--     ImageStandsWithin        where the epoch that they fit has a record, the image stands before its last one
use Rattle.std.specs.Prelude.{◌≡◌, ◌<◌, ℕ, List, ◌∷◌, length}
use Rattle.dali_geometry.specs.Sizes.{Sizes}
use Rattle.dali_record.specs.declared.records.Record.{Record}
use Rattle.dali_record.specs.Epochs.{Epoch, last_epoch}
use Rattle.dali_record.specs.Legal.{IsLegalFor}
use Rattle.dali_record.specs.Files.{Files}
use Rattle.dali_crash.specs.Fitting.{FitsWhole}

abbrev pub HasFirstRecord : List (List Record) → Type 0
HasFirstRecord bs = (r : Record) × (b : List Record) × (rest : List (List Record)) × (bs ≡ (r ∷ b) ∷ rest)

-- so it is of files that fitted a front of their log, with the batches that they had then
abbrev pub NumberIsSome : Type 0
NumberIsSome =
    (s : Sizes) (base : List (List ℕ)) (L : List Record) (F : Files) (e : Epoch) → FitsWhole s base L F e
    → HasFirstRecord F.batches → 0 < F.place
    → 0 < F.first

abbrev pub ImageStandsWithin : Type 0
ImageStandsWithin =
    (s : Sizes) (base : List (List ℕ)) (K : List Record) (F : Files) (r : Record) (E : List Record) → FitsWhole s base K F (last_epoch K) → IsLegalFor s K
    → (last_epoch K).records ≡ r ∷ E
    → F.first < length K
