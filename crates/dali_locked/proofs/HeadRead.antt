-- The head that header and table tell is the one that they were made of.
use Rattle.std.proofs.Common.{◌≡◌, ℕ, zero, suc, ◌+◌, ◌<◌, ◌^◌, List, [], ◌∷◌, length, Some, refl, ap, sym, subst, ◌∙◌, arith}
use Rattle.std.specs.Prelude.{Ok, replicate, map}
use Rattle.std.specs.List.{AllByRecursion, range_with_len}
use Rattle.std.proofs.lemmas.List.{length-map}
use Rattle.std.proofs.lemmas.List.FromFn.{length-range_with_len}
use Rattle.dali_geometry.specs.Sizes.{Sizes}
use Rattle.dali_geometry.specs.Places.{regions}
use Rattle.dali_record.specs.declared.records.Record.{Record}
use Rattle.dali_record.specs.Blocks.{AreWords, AllAreWords}
use Rattle.dali_record.specs.Files.{Row}
use Rattle.dali_runs.specs.State.{SystemState, CoreState}
use Rattle.dali_runs.specs.Run.{Bases, LogRun, RunsOn, no_image}
use Rattle.dali_runs.proofs.Flushes.{end_within}
use Rattle.dali_crash.specs.Checkpoints.{Head, Point, head_now}
use Rattle.dali_crash.specs.StoreRuns.{StoreRun, IsKept}
use Rattle.dali_crash.specs.Disks.Disks.{table_bytes, CanBeImage}
use Rattle.dali_crash.proofs.StoreRuns.{current_is_small}
use Rattle.dali_crash.proofs.DisksLemmas.Heads.{stays_fitting}
use Rattle.dali_image.specs.declared.header.Header.{Header}
use Rattle.dali_image.specs.Decoding.{table_in}
use Rattle.dali_image.specs.Laws.{header_of, table_of}
use Rattle.dali_image.specs.Rows.{rows_of}
use Rattle.dali_image.proofs.Again.{tables_are_read_again}
use Rattle.dali_image.proofs.Kept.{rows_are_kept}
use Rattle.dali_core.specs.Vault.Vaulted.{Vaulted}
use Rattle.dali_core.specs.Steps.At.{IsVault}
use Rattle.dali_checkpoint.proofs.Rows.{rows_are}
use Rattle.dali_locked.specs.HeadKept.{HeadBytes, head_in, rows_read, IsHeadOf, IsMadeOf}

-- ---- what is kept fits an image, whatever its words are
abbrev blanks : ℕ → List ℕ
blanks r = replicate 64 0

all_zeros : (n : ℕ) → AllByRecursion (λ w. w < 2 ^ 64) (replicate n 0)
all_zeros zero = tt
all_zeros (suc n) = (omega arith, all_zeros n)

blank_words : (k n : ℕ) → AllAreWords (map blanks (range_with_len k n))
blank_words k zero = tt
blank_words k (suc n) = ((refl, all_zeros 64), blank_words (k + 1) n)

pub kept_fits : (bases : Bases) (before : List Record) (q : Point) (h : Head) → StoreRun bases before no_image q → q.begun ≡ Some h
    → CanBeImage q.core.system.sizes h (map blanks (range_with_len 0 (regions q.core.system.sizes)))
kept_fits bases before q h run begun =
    stays_fitting bases before q h (map blanks (range_with_len 0 (regions s))) run begun
    (omega (arith, kept.number, current_is_small bases before q run))
    (omega (arith, kept.weight, kept.short, end_within s q.log h.first h.place log kept.to (omega (arith, kept.weight, kept.short))))
    (length-map (range_with_len 0 (regions s)) blanks ∙ length-range_with_len 0 (regions s))
    (blank_words 0 (regions s))
  where
    s : Sizes
    s = q.core.system.sizes

    kept : IsKept q.log q.core.vault no_image h
    kept = run.kept h begun

    log : LogRun q.core.system.sizes q.log
    log = subst (LogRun s) (sym run.run.log) run.run.run.runs.log

-- ---- it is read again
abbrev made_head : Header → List Row → Head
made_head x rows = record { number = x.number; place = x.place; first = x.first; weight = x.weight; next = x.next; table = rows }

pub head_read : (s : Sizes) (h : Head) (k : HeadBytes) (image : List (List ℕ)) → CanBeImage s h image → k.header ≡ header_of s h → k.table ≡ table_bytes h.table → head_in k ≡ h
head_read s h k image fits header table =
    ap (λ x. made_head x (rows_read (table_in k.header.geometry k.header.next k.table))) header
    ∙ ap (made_head (header_of s h)) (ap rows_read read ∙ rows_are_kept h.table fits.ascending)
  where
    read : table_in k.header.geometry k.header.next k.table ≡ Ok (table_of h.table)
    read =
        ap (λ (x : Header). table_in x.geometry x.next k.table) header
        ∙ (ap (table_in s h.next) table ∙ tables_are_read_again s h.next h.table (omega (arith, fits.next)) (record { count = fits.count; fit = fits.rows; ascending = fits.ascending }))

pub is_head : (s : Sizes) (h : Head) (k : HeadBytes) → head_in k ≡ h → k.header ≡ header_of s h → k.table ≡ table_bytes h.table → IsHeadOf s k
is_head s h k same header table = record { header = header ∙ ap (header_of s) (sym same); table = table ∙ ap (λ (x : Head). table_bytes x.table) (sym same) }

-- ---- what system and vault come to
module _ {V : Type 0} (bases : Bases) (L : List Record) (c : CoreState) (run : RunsOn bases L c) (y : SystemState) (system : y ≡ c.system) (v : Vaulted V) (current : c.vault.current ≡ v.current) (end : c.vault.end ≡ v.end)
    (k : HeadBytes) (made : IsMadeOf y v k) where
  abbrev h : Head
  h = head_now L c

  rows : rows_of y.table ≡ h.table
  rows = ap (λ (x : SystemState). rows_of x.table) system ∙ rows_are bases L c run

  pub made_table : k.table ≡ table_bytes h.table
  made_table = made.table ∙ ap table_bytes rows

  abbrev header_as : SystemState → (number place size : ℕ) → Header
  header_as x number place size = record { geometry = x.sizes; number = number; place = place; first = x.records; weight = x.end; next = x.next; table = size }

  pub made_header : k.header ≡ header_of c.system.sizes h
  made_header =
      made.header
      ∙ (ap (λ x. header_as x (v.current + 1) v.end (length k.table)) system
      ∙ (ap (λ n. header_as c.system (n + 1) v.end (length k.table)) (sym current)
      ∙ (ap (λ n. header_as c.system (c.vault.current + 1) n (length k.table)) (sym end)
      ∙ ap (λ bytes. header_as c.system (c.vault.current + 1) c.vault.end (length bytes)) made_table)))
