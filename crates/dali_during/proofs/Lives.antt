-- Several lives of a store without stray writes, one after another.
use Rattle.std.proofs.Common.{◌≡◌, ℕ, List, [], ◌∷◌, ◌++◌, refl, sym, subst}
use Rattle.std.specs.List.{AllByRecursion}
use Rattle.dali_record.specs.declared.records.Record.{Record}
use Rattle.dali_record.specs.declared.records.Record.TheVariants.{Format, Restarted}
use Rattle.dali_record.specs.Epochs.{Epoch, Cut, cut, last_epoch, recovered_epoch, failing}
use Rattle.dali_record.specs.Damage.{rolled_list, deleted_list}
use Rattle.dali_record.proofs.Pushes.{cut_push}
use Rattle.dali_history.specs.History.{IsHistory}
use Rattle.dali_history.proofs.HeadlineLemmas.Undamaged.{all_survive}
use Rattle.dali_runs.specs.Run.{log_in}
use Rattle.dali_crash.proofs.Courses.{format_is_history}
use Rattle.dali_crash.proofs.Starts.{restart_starts, lawful}
use Rattle.dali_during.specs.During.{NoneFailed}
use Rattle.dali_during.specs.Reported.{Life, restarted, IsLife, AreLives, IsWholeLog, NobodyIsDeleted}
use Rattle.dali_during.proofs.UnpokedCourses.{all_and_last, unpoked_traces}
use Rattle.dali_crash.specs.Traces.{Start, StartsAt}
use Rattle.dali_crash.specs.StoreRuns.{CrashIsRightWith}
use Rattle.dali_crash.proofs.Traces.{unpoked_trace_is_right}

-- a restart's record begins an epoch in which no audit failed
none_failed_restart : (K : List Record) (rs ds : List ℕ) → NoneFailed K → NoneFailed (K ++ Restarted rs ds ∷ [])
none_failed_restart K rs ds h = subst (λ (c : Cut). AllByRecursion (λ (e : Epoch). failing e ≡ []) (c.closed ++ c.now ∷ [])) (sym (cut_push K (Restarted rs ds))) (all_and_last ((cut K).closed ++ (cut K).now ∷ []) (record { first = _; records = [] }) h refl)

whole_log : (L : List Record) → IsHistory L → (last_epoch L).records ≡ [] → NoneFailed L → IsWholeLog L
whole_log L history none failed = record { history = history; none_open = none; none_failed = failed; none_deleted = all_survive L failed }

restarts_whole : (K rs : List Record) → IsHistory K → NoneFailed K → (last_epoch K).records ≡ rs → IsWholeLog (restarted K rs)
restarts_whole K [] history failed e = whole_log K history e failed
restarts_whole K (r ∷ E) history failed e =
    let starts = restart_starts K r E history e in
    whole_log (K ++ Restarted (rolled_list (recovered_epoch K)) (deleted_list (recovered_epoch K)) ∷ []) starts.history starts.none (none_failed_restart K (rolled_list (recovered_epoch K)) (deleted_list (recovered_epoch K)) failed)

life_whole : (L : List Record) (x : Life) (M : List Record) → IsWholeLog L → IsLife L x M → IsWholeLog M
life_whole L x M whole life = subst IsWholeLog (sym life.log) (restarts_whole (log_in x.crash) (last_epoch (log_in x.crash)).records right.restarts.history failed refl)
  where
    start : Start
    start = record { log = L; rules = x.rules; limit = x.limit; vault = x.vault; told = x.told; heads = x.heads; synced = x.synced }

    from : StartsAt start x.first
    from = record { lawful = lawful L whole.history; rules = life.rules; fits = life.limit; rests = life.rests }

    right : CrashIsRightWith L x.finish.core x.crash
    right = (unpoked_trace_is_right start x.first whole.history from x.steps x.finish x.crash life.unpoked life.trace).0

    failed : NoneFailed (log_in x.crash)
    failed = (unpoked_traces start x.first whole.history from x.steps x.finish x.crash life.unpoked life.trace).none_failed whole.none_failed

lives_whole : (L : List Record) (xs : List Life) (M : List Record) → IsWholeLog L → AreLives L xs M → IsWholeLog M
lives_whole L [] M whole e = subst IsWholeLog (sym e) whole
lives_whole L (x ∷ xs) M whole lives = lives_whole lives.0 xs M (life_whole L x lives.0 whole lives.1) lives.2

pub nobody_is_deleted : NobodyIsDeleted
nobody_is_deleted s xs M fits lives = lives_whole (Format s.index s.heap ∷ []) xs M (whole_log (Format s.index s.heap ∷ []) (format_is_history s fits) refl (refl, tt)) lives
