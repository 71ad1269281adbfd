-- The record of a restart fits a batch: it names transactions that had room to begin.
use Rattle.std.proofs.Common.{◌≡◌, ℕ, suc, ◌+◌, ◌*◌, ◌<◌, ◌≤◌, ◌^◌, List, [], ◌∷◌, ◌++◌, length, Option, Some, None, refl, ap, sym, subst, ◌∙◌, arith}
use Rattle.std.specs.Prelude.{IsSome, ⊤, ◌==◌, ◌&&◌, filter, not, unwrap_or}
use Rattle.std.specs.List.{AllByRecursion}
use Rattle.std.proofs.lemmas.List.{length-append}
use Rattle.std.proofs.lemmas.List.Elements.{filter_map-append}
use Rattle.std.proofs.lemmas.Bool.{and_parts, leb-true}
use Rattle.dali_lists.proofs.Lists.{length_filter}
use Rattle.dali_lists.proofs.Members.{all_push}
use Rattle.dali_record.specs.declared.records.Record.{Record}
use Rattle.dali_record.specs.declared.records.Record.TheVariants.{Format, Restarted}
use Rattle.dali_record.specs.Damage.{damage_of, deleted_list, has, has_corrupt, marks, rolled_list}
use Rattle.dali_record.specs.Epochs.{Cut, Epoch, cut, cut_step, recovered_epoch, recovered_or}
use Rattle.dali_record.specs.Files.{Files}
use Rattle.dali_record.specs.Legal.{rules_state, sizes_of}
use Rattle.dali_record.specs.Log.{begun, committed, ended, last_of}
use Rattle.dali_record.proofs.Ends.{by_push}
use Rattle.dali_record.proofs.Pushes.{cut_push}
use Rattle.dali_history.proofs.SpelledRestart.{begun_push, few_begun, more_begun, weighs_all}
use Rattle.dali_runs.specs.Run.{log_in}
use Rattle.dali_restart.specs.Short.{IsShortRestart}

-- ---- the epochs
-- those that began in an epoch are among the log's
abbrev Few : ℕ → Epoch → Type 0
Few n e = length (begun e.records) ≤ n

abbrev AreFew : ℕ → Cut → Type 0
AreFew n c = AllByRecursion (Few n) c.closed × Few n c.now

all_more : (n m : ℕ) (es : List Epoch) → n ≤ m → AllByRecursion (Few n) es → AllByRecursion (Few m) es
all_more n m [] le all = tt
all_more n m (e ∷ es) le all = (omega (arith, le, all.0), all_more n m es le all.1)

few_more :
    (n : ℕ) (c : Cut) (r : Record) → AreFew n c
    → AreFew (more_begun n r) (record { closed = c.closed; now = record { first = c.now.first; records = c.now.records ++ r ∷ [] } })
few_more n c r few = (all_more n (more_begun n r) c.closed (omega arith) few.0, omega (arith, few.1, begun_push c.now.records r))

few_step : (n : ℕ) (c : Cut) (r : Record) → AreFew n c → AreFew (more_begun n r) (cut_step c r)
few_step n c (Format i k) few = (all_more n (n + 0) c.closed (omega arith) few.0, omega arith)
few_step n c (Restarted rs ds) few =
    (all_push (Few (n + 0)) c.closed c.now (all_more n (n + 0) c.closed (omega arith) few.0) (omega (arith, few.1)), omega arith)
few_step n c r few = few_more n c r few

are_few : (L : List Record) → AreFew (length (begun L)) (cut L)
are_few = by_push (λ M. AreFew (length (begun M)) (cut M)) (tt, omega arith)
    (λ M r few. subst (AreFew (length (begun (M ++ r ∷ [])))) (sym (cut_push M r))
    (subst (λ n. AreFew n (cut_step (cut M) r)) (sym (begun_push M r)) (few_step (length (begun M)) (cut M) r few)))

last_few : (n : ℕ) (es : List Epoch) (d : Epoch) → AllByRecursion (Few n) es → Few n d → Few n (unwrap_or (last_of es) d)
last_few n [] d all few = few
last_few n (e ∷ []) d all few = all.0
last_few n (e ∷ f ∷ es) d all few = last_few n (f ∷ es) d all.1 few

recovered_few : (n : ℕ) (c : Cut) (E : List Record) → AreFew n c → Few n (recovered_or c E)
recovered_few n c [] few = last_few n c.closed c.now few.0 few.1
recovered_few n c (r ∷ E) few = few.1

-- ---- the lists
rolled_few : (e : Epoch) → length (rolled_list e) ≤ length (begun e.records)
rolled_few e = length_filter (λ t. not (has (committed e.records) t) && not (has (ended e.records) t)) (begun e.records)

deleted_few : (e : Epoch) → length (deleted_list e) ≤ length (begun e.records)
deleted_few e = length_filter (λ t. has (committed e.records) t && has_corrupt (marks (damage_of e) e.records) t) (begun e.records)

pub is_short_restart : IsShortRestart
is_short_restart F finds =
    let L = log_in F in
    let e = recovered_epoch L in
    omega (
      arith,
      rolled_few e,
      deleted_few e,
      recovered_few (length (begun L)) (cut L) (cut L).now.records (are_few L),
      few_begun (length (begun L)) (rules_state (sizes_of L) L) finds.lawful.legal.rules (weighs_all (sizes_of L) L),
    )
