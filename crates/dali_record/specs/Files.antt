-- Four files that fit a log. What their bytes say is taken as read.
--     Files                    the batches of the log, the number of leading open gates of the anchor, and what the current image holds
--     with_batch F rs          the files with one batch more
--     Fits s base L F          a restart from these files comes to the same as one that reads the whole log
use Rattle.std.specs.Prelude.{◌≡◌, ℕ, ◌+◌, ◌-◌, ◌<◌, ◌≤◌, Bool, true, false, ◌⊎◌, List, [], ◌∷◌, ◌++◌, Option, Some, None, unwrap_or, filter, filter_map, map, take, drop, length, sum_by, slice_get, flat_map, if◌then◌else◌, not, nat_lt}
use Rattle.std.specs.List.{find, list_any}
use Rattle.dali_geometry.specs.Sizes.{Sizes}
use Rattle.dali_geometry.specs.Places.{regions, formatted_image}
use Rattle.dali_record.specs.declared.operations.Pending.{Pending}
use Rattle.dali_record.specs.declared.records.Record.{Record}
use Rattle.dali_record.specs.declared.records.Record.TheVariants.{Begin, Solo, Restarted}
use Rattle.dali_record.specs.Log.{undos_of, begun, committed, ended}
use Rattle.dali_record.specs.Epochs.{Epoch, next_number, cut, last_epoch, recovered_epoch, clean_place}
use Rattle.dali_record.specs.Damage.{has}
use Rattle.dali_record.specs.Settled.{words_in, redo_all, settled_before}
use Rattle.dali_record.specs.Spelling.{record_length}

-- a transaction of an image's table
pub record Row : Type 0 where
  pub txn : ℕ
  pub is_committed : Bool
  pub undos : List Pending

pub record Files : Type 0 where
  pub batches : List (List Record)
  pub gates : ℕ
  -- of the current image
  pub number : ℕ
  pub place : ℕ
  pub first : ℕ
  pub weight : ℕ
  pub next : ℕ
  pub image : List (List ℕ)
  pub table : List Row

-- the bytes of a batch: gate, length and records
abbrev pub batch_length : List Record → ℕ
batch_length rs = 5 + sum_by record_length rs

abbrev pub is_restarted : Record → Bool
is_restarted (Restarted a b) = true
is_restarted _ = false

-- each Restarted of the batch is its first record
abbrev pub is_restarted_first : List Record → Bool
is_restarted_first [] = true
is_restarted_first (r ∷ rs) = not (list_any is_restarted rs)

-- with one batch more at the log's end
abbrev pub with_batch : Files → List Record → Files
with_batch F rs = record F { batches = F.batches ++ rs ∷ [] }

-- the table of the transactions of the epoch that had begun and not ended before record n
abbrev pub row_of : List Record → ℕ → Row
row_of P t = record { txn = t; is_committed = has (committed P) t; undos = if has (committed P) t then [] else undos_of t P }

abbrev pub table_before : Epoch → ℕ → List Row
table_before e n =
    let P = take (n - e.first) e.records in
    map (row_of P) (filter (λ t. not (has (ended P) t)) (begun P))

-- the next transaction's number: one more than the Begins and solos, which draw them one after another
abbrev pub draws : Record → Option ℕ
draws (Begin t) = Some t
draws (Solo t p b) = Some t
draws _ = None

abbrev pub next_after : List Record → ℕ
next_after L = length (filter_map draws L) + 1

-- whether the record that ends the epoch has a number above n
abbrev pub ends_behind : ℕ → Epoch → Bool
ends_behind n e = nat_lt n (next_number e)

-- The epoch in which n lies, or the first that begins at n or later; but where a Restarted stands right behind the Format, number 1 is that of the
-- epoch behind both: so the formatted regions stand before that Restarted, as the image of a restart stands before its own
abbrev pub epoch_from : ℕ → List Record → Epoch
epoch_from n L = unwrap_or (find (ends_behind n) (cut L).closed) (cut L).now

pub record Fits (s : Sizes) (base : List (List ℕ)) (L : List Record) (F : Files) (e : Epoch) : Type 0 where
  pub log : flat_map (λ b. b) F.batches ≡ L
  -- the image's place is between two batches, and what the header says belongs to the records before it
  pub batch : (k : ℕ) × (flat_map (λ b. b) (take k F.batches) ≡ take F.first L) × (F.place ≡ sum_by batch_length (take k F.batches)) × ((j : ℕ) (b : List Record) → k ≤ j → slice_get F.batches j ≡ Some b → is_restarted_first b ≡ true)
  pub count : F.first ≤ length L
  pub lengths : F.weight ≡ sum_by record_length (take F.first L)
  pub numbers : F.next ≡ next_after (take F.first L)
  -- before the first checkpoint
  pub fresh : F.gates ≡ 0 → (F.place ≡ 15) × (F.first ≡ 1) × (F.table ≡ []) × (F.image ≡ formatted_image s)
  -- after one
  pub current : 0 < F.gates → F.number ≡ F.gates
  pub epoch : epoch_from F.first L ≡ e
  pub recent : (e ≡ recovered_epoch L) ⊎ (e ≡ last_epoch L)
  pub certified : F.first ≤ clean_place e
  pub table_is : F.table ≡ table_before e F.first
  pub words : (r : ℕ) → r < regions s → words_in (redo_all F.image (drop (F.first - e.first) (take (clean_place e - e.first) e.records))) r ≡ settled_before base e r (clean_place e)
