-- The log of a crash image of a run is a history, and a restart from it is right.
use Rattle.std.proofs.Common.{refl, ◌≡◌, ℕ, zero, suc, ◌-◌, ◌<◌, ◌≤◌, List, [], ◌∷◌, ◌++◌, take, drop, Some, ap, sym, subst, ◌∙◌, arith}
use Rattle.std.specs.Prelude.{fold, slice_get, nat_le}
use Rattle.std.proofs.lemmas.List.{take-append-drop, take-take}
use Rattle.std.proofs.lemmas.Bool.{leb-true}
use Rattle.dali_lists.proofs.Tests.{left_true}
use Rattle.dali_geometry.specs.Sizes.{Sizes}
use Rattle.dali_geometry.specs.Places.{formatted_image}
use Rattle.dali_record.specs.declared.records.Record.{Record}
use Rattle.dali_record.specs.declared.records.Record.TheVariants.{Format, Restarted}
use Rattle.dali_record.specs.Epochs.{Epoch, Cut, cut, cut_step, last_epoch}
use Rattle.dali_record.specs.Spelling.{CanBeSpelled}
use Rattle.dali_record.specs.Legal.{IsLegalFor, sizes_of}
use Rattle.dali_record.specs.Files.{Files}
use Rattle.dali_record.proofs.Pushes.{cut_push}
use Rattle.dali_history.specs.Recovered.{base_of, AreHonest, IsHonestIn, IsHonest}
use Rattle.dali_history.specs.History.{IsHistory}
use Rattle.dali_history.specs.Acknowledged.{KeepsCommitted}
use Rattle.dali_history.specs.Promise.{RestartIsRight}
use Rattle.dali_history.proofs.Restarts.{restarted, honest_push}
use Rattle.dali_history.proofs.Chained.{keeps_committed}
use Rattle.dali_history.proofs.HeadlineLemmas.NothingToFree.{recovered-restarted_history, recovered-base}
use Rattle.dali_history.proofs.HeadlineLemmas.Headline.{restart_is_right}
use Rattle.dali_runs.specs.State.{CoreState, stable, log_after}
use Rattle.dali_runs.specs.Run.{Bases, base_at, log_in, IsRun, IsPrefix, only}
use Rattle.dali_crash.specs.CrashLogs.{cut_to, IsCrashLog}
use Rattle.dali_crash.specs.Restarts.{HasRightBase, FormatHasRightBase, RestartHasRightBase, CrashIsHistory, CrashIsRight, RestartsRight, RunIsRight, FlushedStays, AcknowledgedStays}
use Rattle.dali_crash.proofs.CrashLogs.{crash_logs, cut_parts, first_before, flushed_stays}
use Rattle.dali_runs.specs.Crashes.{NoneEscapes}

-- ---- the sizes
pub sizes_take : (s : Sizes) (L : List Record) (n : ℕ) → slice_get L 0 ≡ Some (Format s.index s.heap) → 0 < n → sizes_of (take n L) ≡ s
sizes_take s [] n e h = absurd (cc)
sizes_take s (x ∷ L) zero e h = absurd (omega arith)
sizes_take s (x ∷ L) (suc n) e h = let same : x ≡ Format s.index s.heap = cc in ap (λ y. sizes_of (y ∷ take n L)) same

-- the last epoch begins behind the first record
first_rises : (c : Cut) (L : List Record) → c.now.first ≤ (fold cut_step c L).now.first
first_rises c [] = omega arith
first_rises c (x ∷ L) = omega (arith, first_before c x, first_rises (cut_step c x) L)

pub begins_behind : (s : Sizes) (L : List Record) → slice_get L 0 ≡ Some (Format s.index s.heap) → 0 < (last_epoch L).first
begins_behind s [] e = absurd (cc)
begins_behind s (x ∷ L) e = let same : x ≡ Format s.index s.heap = cc in subst (λ y. 0 < (last_epoch (y ∷ L)).first) (sym same) (omega (arith, first_rises (cut_step (record { closed = []; now = record { first = 0; records = [] } }) (Format s.index s.heap)) L))

pub some_sizes : (s : Sizes) → CanBeSpelled (Format s.index s.heap) → (0 < s.index) × (0 < s.heap)
some_sizes s e = (omega (arith, leb-true 1 s.index (left_true (nat_le 1 s.index) _ e.0)), omega (arith, leb-true 1 s.heap (left_true (nat_le 1 s.heap) _ e.1)))

HonestCut : Sizes → Cut → Type 0
HonestCut s c = AreHonest s (formatted_image s) (c.closed ++ c.now ∷ [])

pub crash_is_history : CrashIsHistory
unfolding HonestCut
crash_is_history bases L c n run right from to safe =
    let s : Sizes = c.system.sizes in
    let some : 0 < n = omega (arith, begins_behind s L run.log.format, from) in
    let crash : IsCrashLog s (base_at bases L) (take n L) = crash_logs bases L c n run from to safe in
    let same : sizes_of (take n L) ≡ s = sizes_take s L n run.log.format some in
    let sizes : (0 < s.index) × (0 < s.heap) = some_sizes s (run.log.spelled 0 (Format s.index s.heap) run.log.format) in
    let parts : cut (take n L) ≡ record { closed = (cut L).closed; now = cut_to (n - (last_epoch L).first) (last_epoch L) } = cut_parts L n from to in
    let last : IsHonestIn (base_of s L) (cut_to (n - (last_epoch L).first) (last_epoch L)) = subst (λ b. IsHonestIn b (cut_to (n - (last_epoch L).first) (last_epoch L))) right.base (subst (λ (e : Epoch). IsHonestIn (base_at bases L) e) (ap (λ q. q.now) parts) crash.honest) in
    let all : AreHonest s (formatted_image s) ((cut L).closed ++ cut_to (n - (last_epoch L).first) (last_epoch L) ∷ []) = honest_push s (formatted_image s) (cut L).closed (cut_to (n - (last_epoch L).first) (last_epoch L)) right.honest last in
    let whole : IsHonest s (take n L) = subst (HonestCut s) (sym parts) all in
    record {
      some_index = subst (λ (z : Sizes). 0 < z.index) (sym same) sizes.0;
      some_heap = subst (λ (z : Sizes). 0 < z.heap) (sym same) sizes.1;
      spelled = crash.spelled;
      legal = subst (λ (z : Sizes). IsLegalFor z (take n L)) (sym same) crash.legal;
      locks = crash.locks;
      honest = subst (λ (z : Sizes). IsHonest z (take n L)) (sym same) whole;
    }

pub crash_is_right : CrashIsRight
crash_is_right bases L c n run right from to safe = restart_is_right (take n L) (crash_is_history bases L c n run right from to safe)

-- ---- a run
goes_on_to : (L K : List Record) (k n : ℕ) → k ≤ n → K ≡ take n L → take k L ++ drop k (take n L) ≡ K
goes_on_to L K k n h e = ap (λ l. l ++ drop k (take n L)) (sym (take-take k n L h)) ∙ (take-append-drop k (take n L) ∙ sym e)

-- what stands in a beginning of the log stands in a longer one, and survives there unless a chain deletes it
keeps_in : (L K : List Record) (k n : ℕ) → k ≤ n → K ≡ take n L → RestartIsRight K → KeepsCommitted (take k L) K
keeps_in L K k n h e right = right.keeps (take k L) (drop k (take n L)) (goes_on_to L K k n h e)

pub run_is_right_for :
    (bases : Bases) (before : List Record) (leave : Files → Type 0) (c : CoreState) → IsRun bases before leave c
    → HasRightBase bases c.system.sizes (log_after before c.system)
    → (F : Files) → leave F → NoneEscapes (last_epoch (log_in F)) c
    → RestartsRight before c F
run_is_right_for bases before leave c run right F l safe =
    let L : List Record = log_after before c.system in
    let is : IsPrefix L (stable c) F = run.vault.prefix F l in
    let history : IsHistory (log_in F) = subst (λ K. IsHistory K) (sym is.log) (crash_is_history bases L c is.count run.runs right (omega (arith, run.began, run.first, is.flushed)) is.within (subst (λ K. NoneEscapes (last_epoch K) c) is.log safe)) in
    let all : RestartIsRight (log_in F) = restart_is_right (log_in F) history in
    let keeps : KeepsCommitted (take (stable c) L) (log_in F) = keeps_in L (log_in F) (stable c) is.count is.flushed is.log all in
    record {
      history = history;
      right = all;
      keeps = λ t h. (keeps.stays t h, keeps.survives t h);
    }

pub run_is_right : RunIsRight
run_is_right bases before c F run right safe = run_is_right_for bases before (only F) c run right F refl safe

-- ---- with damage or without
pub flushed_stays_in : FlushedStays
flushed_stays_in bases before c F k x run h e = flushed_stays (only F) (log_after before c.system) (stable c) c.vault run.vault k x h e F refl

pub acknowledged_stays : AcknowledgedStays
acknowledged_stays bases before c F t run acknowledged =
    let L : List Record = log_after before c.system in
    let is : IsPrefix L (stable c) F = run.vault.prefix F refl in
    let keeps : KeepsCommitted (take (stable c) L) (log_in F) = subst (KeepsCommitted (take (stable c) L)) (goes_on_to L (log_in F) (stable c) is.count is.flushed is.log) (keeps_committed (take (stable c) L) (drop (stable c) (take is.count L))) in
    keeps.stays t acknowledged

-- ---- where a core is made
pub format_has_right_base : FormatHasRightBase
format_has_right_base bases s e = record { base = e; honest = tt }

pub restart_has_right_base : RestartHasRightBase
restart_has_right_base bases L rs ds history e = record {
  base = e ∙ (sym (recovered-restarted_history L rs ds history) ∙ recovered-base (sizes_of L) (restarted L rs ds) (ap (λ (c : Cut). c.now.records) (cut_push L (Restarted rs ds))));
  honest = subst (λ (c : Cut). AreHonest (sizes_of L) (formatted_image (sizes_of L)) c.closed) (sym (cut_push L (Restarted rs ds))) history.honest;
}
