-- Why a client is refused, at the place where it is.
use Rattle.std.proofs.Common.{◌≡◌, ℕ, ◌+◌, ◌<◌, Bool, true, false, List, [], ◌∷◌, ◌++◌, length, take, sum_by, take_all, Option, Some, None, is_some, refl, ap, sym, subst, ◌∙◌, arith}
use Rattle.std.specs.Prelude.{◌||◌}
use Rattle.std.proofs.lemmas.List.{take_at}
use Rattle.dali_lists.proofs.Lists.{get_push}
use Rattle.dali_record.specs.declared.records.Record.{Record}
use Rattle.dali_record.specs.declared.records.Record.TheVariants.{AuditBegin}
use Rattle.dali_record.specs.Epochs.{last_epoch}
use Rattle.dali_record.specs.Spelling.{record_length}
use Rattle.dali_runs.specs.declared.causes.Cause.{Cause}
use Rattle.dali_runs.specs.Run.{Bases, RunsOn, failed_first, no_image}
use Rattle.dali_runs.specs.State.{CoreState, SystemState}
use Rattle.dali_runs.proofs.FactsLemmas.KeysAndUndos.{has_counts}
use Rattle.dali_crash.specs.Checkpoints.{Point}
use Rattle.dali_crash.specs.StoreRuns.{StoreRun}
use Rattle.dali_transcripts.specs.Words.{Act, Audits as AuditAct, Checkpoints as CheckpointAct, Why, StoppedBy, Full, Damaged, StoreFailed, UnderWay, is_stop}
use Rattle.dali_transcripts.specs.World.{Deed, Meets, Happening, World, logged_by, log_of, log_at, HasDone, has_failed, cause_of, stop_at}
use Rattle.dali_transcripts.specs.Causes.{CanStop, IsCause, IsRoomFor, MetCause, IsAlone, limit_of}
use Rattle.dali_transcripts.specs.Telling.Tells.{after, AreRightThen, Tells}
use Rattle.dali_turns.proofs.Deeds.{stop_is_told}
use Rattle.dali_turns.specs.Outside.{MaySay}

-- ---- counts of the log
pub runs_on_log : (bases : Bases) (before : List Record) (p : Point) → StoreRun bases before no_image p → RunsOn bases p.log p.core
runs_on_log bases before p run = subst (λ (L : List Record). RunsOn bases L p.core) (sym run.run.log) run.run.run.runs

pub records_are : (bases : Bases) (before : List Record) (w : World) (p : Point) → StoreRun bases before no_image p → Tells w p → p.core.system.records ≡ length (log_of w)
records_are bases before w p run told = (has_counts bases p.log p.core (runs_on_log bases before p run)).records ∙ ap length told.log

pub end_is : (bases : Bases) (before : List Record) (w : World) (p : Point) → StoreRun bases before no_image p → Tells w p → p.core.system.end ≡ sum_by record_length (log_of w)
end_is bases before w p run told = (has_counts bases p.log p.core (runs_on_log bases before p run)).end ∙ ap (sum_by record_length) told.log

-- ---- a deed at the end of what happened
module _ (w : World) (c : ℕ) (x : Deed) (d : CoreState) where
  pub front : take (length w.happened) (w.happened ++ (x, c) ∷ []) ≡ w.happened
  front = take_at w.happened ((x, c) ∷ []) (length w.happened) refl

  pub log_there : log_at (after w c (x ∷ []) d) (length w.happened) ≡ log_of w
  log_there = ap (λ (xs : List Happening). w.before ++ logged_by xs) front

  abbrev pub done_last : HasDone (after w c (x ∷ []) d) c (length (log_of w)) x
  done_last = record { place = length w.happened; there = get_push w.happened (x, c); number = ap length log_there }

  whole_front : take (length w.happened) (w.happened ++ (x, c) ∷ []) ≡ take (length w.happened) w.happened
  whole_front = front ∙ sym (take_all (length w.happened) w.happened (omega arith))

  pub stop_there : stop_at (after w c (x ∷ []) d) (length w.happened) ≡ stop_at w (length w.happened)
  stop_there = ap (λ (xs : List Happening). cause_of (failed_first (last_epoch (w.before ++ logged_by xs)).records) (has_failed w.old.vault.stopped xs)) whole_front

-- ---- a refusal that has cause there
abbrev pub HasCauseNow : World → (client : ℕ) → CoreState → Act → Option ℕ → Why → Type 0
HasCauseNow w c d act o why = IsCause (after w c (Meets why ∷ []) d) c (length w.happened) act o why

abbrev pub met_now : (w : World) (c : ℕ) (d : CoreState) (act : Act) (o : Option ℕ) (why : Why) → HasCauseNow w c d act o why → MetCause (after w c (Meets why ∷ []) d) c (length (log_of w)) act o why
met_now w c d act o why cause = record { met = done_last w c (Meets why) d; cause = cause }

pub right_now : (w : World) (c : ℕ) (d : CoreState) (act : Act) (o : Option ℕ) (why : Why) → HasCauseNow w c d act o why → AreRightThen w c (Meets why ∷ []) d
right_now w c d act o (StoppedBy z) cause = ((act, o, cause), tt)
right_now w c d act o (Full end limit) cause = ((act, o, cause), tt)
right_now w c d act o (Damaged r codeword found) cause = ((act, o, cause), tt)
right_now w c d act o StoreFailed cause = (tt, tt)
right_now w c d act o UnderWay cause = ((act, o, cause), tt)

-- a checkpoint that has started was alone
pub alone_behind : (w : World) (why : Why) (span : ℕ × ℕ) (i : ℕ) → IsAlone w why (Some span) i
alone_behind w (StoppedBy z) span i = tt
alone_behind w _ span i = tt

-- an audit's begin would pass this limit
abbrev pub full_audit : SystemState → Why
full_audit y = Full y.end (y.limit + 1048576)

-- ---- why
module _ (bases : Bases) (before : List Record) (w : World) (c : ℕ) (p : Point) (run : StoreRun bases before no_image p) (told : Tells w p) (stops : p.core.vault.stopped ≡ true → is_some p.core.system.stop ≡ true) where
  -- the engine is stopped
  pub stop_now : (act : Act) (o : Option ℕ) (cause : Cause) → CanStop act → p.core.system.stop ≡ Some cause → HasCauseNow w c p.core act o (StoppedBy cause)
  stop_now act o cause can is = (can, stop_there w c (Meets (StoppedBy cause)) p.core ∙ (stop_is_told bases before w p run told stops ∙ is))

  -- where it runs nothing that was done has stopped it
  pub runs_there : (x : Deed) (d : CoreState) → p.core.system.stop ≡ None → stop_at (after w c (x ∷ []) d) (length w.happened) ≡ None
  runs_there x d runs = stop_there w c x d ∙ (stop_is_told bases before w p run told stops ∙ runs)

  pub end_there : (why : Why) → p.core.system.end ≡ sum_by record_length (log_at (after w c (Meets why ∷ []) p.core) (length w.happened))
  end_there why = end_is bases before w p run told ∙ sym (ap (sum_by record_length) (log_there w c (Meets why) p.core))

  -- an audit's begin has no room
  full_for : (act : Act) → p.core.system.limit + 1048576 ≡ limit_of (after w c (Meets (full_audit p.core.system) ∷ []) p.core) act
      → IsRoomFor p.core.system.sizes (log_at (after w c (Meets (full_audit p.core.system) ∷ []) p.core) (length w.happened)) act None AuditBegin
      → p.core.system.stop ≡ None → p.core.system.limit + 1048576 < p.core.system.end + 1 → HasCauseNow w c p.core act None (full_audit p.core.system)
  full_for act limit next runs above = record {
    limit_is = limit;
    end_is = end_there (full_audit p.core.system);
    refused = AuditBegin;
    next = next;
    spelled = tt;
    passes = above;
    runs = runs_there (Meets (full_audit p.core.system)) p.core runs;
  }

  pub full_now : p.core.system.stop ≡ None → p.core.system.limit + 1048576 < p.core.system.end + 1 → HasCauseNow w c p.core AuditAct None (full_audit p.core.system)
  full_now runs above = full_for AuditAct refl refl runs above

  pub full_checkpoint_now : p.core.system.stop ≡ None → p.core.system.limit + 1048576 < p.core.system.end + 1 → HasCauseNow w c p.core CheckpointAct None (full_audit p.core.system)
  full_checkpoint_now runs above = full_for CheckpointAct refl refl runs above

-- ---- what may be said
pub may_say_more : (y : SystemState) (s : Bool) (why : Why) → MaySay y s → (is_stop why ≡ true → is_some y.stop ≡ true) → MaySay y (s || is_stop why)
may_say_more y true why may stops e = may refl
may_say_more y false why may stops e = stops e

-- of a stop nothing was said while the engine runs
pub says_none : (y : SystemState) (s : Bool) → MaySay y s → y.stop ≡ None → s ≡ false
says_none y false may runs = refl
says_none y true may runs = let some : is_some y.stop ≡ true = may refl in let none : is_some y.stop ≡ false = ap is_some runs in let no : true ≡ false = sym some ∙ none in absurd (cc)
