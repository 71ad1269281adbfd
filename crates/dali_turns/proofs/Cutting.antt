-- A client between two steps stands in a step that is under way, of which the end of a round says no line.
use Rattle.std.proofs.Common.{◌≡◌, ℕ, ◌+◌, Bool, false, List, [], ◌∷◌, ◌++◌, length, map, Option, if◌then◌else◌, refl, ap, sym, subst, ◌∙◌, ◌⊎◌, inl, inr, arith}
use Rattle.std.specs.Prelude.{◌<◌, not, nat_lt, true, filter}
use Rattle.std.proofs.lemmas.Bool.{ltb-true}
use Rattle.std.specs.List.{AllByRecursion}
use Rattle.std.proofs.lemmas.List.{append-nil, append_assoc, length-append}
use Rattle.std.proofs.lemmas.List.Elements.{filter-append}
use Rattle.dali_lists.proofs.Members.{all_append, all_map}
use Rattle.dali_record.specs.declared.operations.Pending.{Pending}
use Rattle.dali_record.specs.declared.records.Record.{Record}
use Rattle.dali_record.specs.declared.records.Record.TheVariants.{Forward, AuditBegin}
use Rattle.dali_record.specs.declared.records.Call.{Call}
use Rattle.dali_region.specs.State.{RegionState}
use Rattle.dali_store.specs.Store.{Files as Disk}
use Rattle.dali_store.specs.declared.store.Store.{Ghosts}
use Rattle.dali_runs.specs.State.{SystemState, stable}
use Rattle.dali_crash.specs.Checkpoints.{Point}
use Rattle.dali_crash.specs.Traces.{Start}
use Rattle.dali_core.specs.Vault.Vaulted.{Vaulted}
use Rattle.dali_transcripts.specs.Words.{Act, Calls, Audits as AuditAct, Checkpoints as CheckpointAct, CommitOk}
use Rattle.dali_transcripts.specs.World.{Logs, GivesBack, GetsLock, FindsDead, StartsCheckpoint, Meets, World}
use Rattle.dali_transcripts.specs.Moves.{Receipt, Place, Outside as IsOutside, Within as IsWithin, Again, LeftOut as IsLeftOut, Spot, at, Commits as CommitsMove, is_operation, operations}
use Rattle.dali_transcripts.specs.Causes.{IsAside, AreAsking, IsWork, undos_behind, spares, IsCutAside, IsCutWork, KeepsOlder, IsNoOperation, IsUnanswered, IsTurnedBack, IsGivingWay, AreUnfinished}
use Rattle.dali_transcripts.specs.Transcripts.{IsUnderWay}
use Rattle.dali_transcripts.specs.Rounds.{Standing}
use Rattle.dali_transcripts.proofs.Grants.{granted_asks, idle_asks, asks_then}
use Rattle.dali_calls.specs.Plans.{Planned}
use Rattle.dali_transcripts.specs.declared.clients.line.Why.{Why}
use Rattle.dali_transcripts.specs.Clients.Told.{act_of, reason_of}
use Rattle.dali_turns.specs.declared.client.State.{State}
use Rattle.dali_turns.specs.declared.client.State.TheVariants.{Outside, LeftOut, Within, Calling, TakingBack, Committing, Waiting, Auditing, Copying, Certifying, Gone}
use Rattle.dali_turns.specs.declared.client.Transaction.{Transaction}
use Rattle.dali_turns.specs.Within.{AreSoFar, FitsWithin, FitsCalling, FitsTakingBack}
use Rattle.dali_turns.specs.Commits.{awaits_flush}
use Rattle.dali_turns.specs.Fits.{Fits}
use Rattle.dali_turns.proofs.Commands.{IsDue, due_at, none_under_way}
use Rattle.dali_turns.proofs.Undoing.{undone_on}
use Rattle.dali_turns.proofs.Asked.{works_of, none_yet, asked_idle}

cut_at : (w : World) (c : ℕ) (q : Spot) (place : Place) (rest : List Act) (pending xs : List Receipt) → q ≡ at place rest → pending ≡ xs → AreUnfinished w c place rest xs → IsUnderWay w c q pending []
cut_at w c q place rest pending xs e f h = subst (λ (z : Spot). IsUnderWay w c z pending []) (sym e) (subst (λ (ys : List Receipt). IsUnderWay w c (at place rest) ys []) (sym f) (inl (refl, h)))

-- ---- what was done so far, where nothing more is
pub cut_of : (w : World) (c t : ℕ) (x : Receipt) → IsAside w c t x → IsCutAside w c t x
cut_of w c t (n, GivesBack u latched) h = (h.0, h.1.given)
cut_of w c t x h = h

cut_work_of : (w : World) (c t : ℕ) (call : Call) (x : Receipt) → IsWork w c t call x → IsCutWork w c t call x
cut_work_of w c t call (n, GivesBack u latched) h = (h.0, h.1.given)
cut_work_of w c t call x h = h

work_aside : (w : World) (c t : ℕ) (call : Call) (x : Receipt) → IsCutAside w c t x → IsCutWork w c t call x
work_aside w c t call (n, GivesBack u latched) h = h
work_aside w c t call (n, Logs (Forward u b)) h = absurd h
work_aside w c t call (n, GetsLock u k m) h = absurd h
work_aside w c t call (n, FindsDead f) h = absurd h
work_aside w c t call x h = h

none_made : (w : World) (c t : ℕ) (x : Receipt) → IsCutAside w c t x → IsNoOperation x
none_made w c t (n, Logs (Forward u b)) h = absurd h
none_made w c t x h = tt

no_operation : (w : World) (c t : ℕ) (x : Receipt) → IsCutAside w c t x → is_operation t x ≡ false
no_operation w c t (n, Logs (Forward u b)) h = absurd h
no_operation w c t x h = refl

no_operations : (w : World) (c t : ℕ) (xs : List Receipt) → AllByRecursion (IsCutAside w c t) xs → operations t xs ≡ 0
no_operations w c t [] h = refl
no_operations w c t (x ∷ xs) h = ap (λ (k : Bool). length (if k then x ∷ filter (is_operation t) xs else filter (is_operation t) xs)) (no_operation w c t x h.0) ∙ no_operations w c t xs h.1

pub more_none : (t : ℕ) (work rest : List Receipt) → operations t rest ≡ 0 → operations t (work ++ rest) ≡ operations t work
more_none t work rest e =
    ap length (filter-append (is_operation t) work rest) ∙ (length-append (filter (is_operation t) work) (filter (is_operation t) rest) ∙ (ap (λ n. operations t work + n) e ∙ omega arith))

-- with a clean-up that was cut short too
module _ (w : World) (c t : ℕ) (d : Option ℕ) (call : Call) (xs ys : List Receipt) (cut : AllByRecursion (IsCutAside w c t) ys) (still : (us : List Pending) → undos_behind t us ys ≡ us) where
  older_more : KeepsOlder t xs → KeepsOlder t (xs ++ ys)
  older_more older us = let o = older us in (o.0, undone_on t us (us ++ o.0) xs ys o.1 still)

  more_unanswered : IsUnanswered w c t d call xs → IsUnanswered w c t d call (xs ++ ys)
  more_unanswered h = record {
    work = all_append (IsCutWork w c t call) xs ys h.work (all_map (IsCutAside w c t) (IsCutWork w c t call) (work_aside w c t call) ys cut);
    spared = ap (spares d) (more_none t xs ys (no_operations w c t ys cut)) ∙ h.spared;
    asks = asks_then xs ys h.asks (all_map (IsCutAside w c t) IsNoOperation (none_made w c t) ys cut);
    older = older_more h.older;
  }

  more_turned : IsTurnedBack w c t d call xs → IsTurnedBack w c t d call (xs ++ ys)
  more_turned h = record {
    work = h.work;
    at = h.at;
    why = h.why;
    back = h.back ++ ys;
    is = ap (λ l. l ++ ys) h.is ∙ append_assoc h.work ((h.at, Meets h.why) ∷ h.back) ys;
    tried = h.tried;
    stays = h.stays;
    granted = h.granted;
    cause = h.cause;
    survives = h.survives;
    no_stop = h.no_stop;
    aside = all_append (IsCutAside w c t) h.back ys h.aside cut;
    older = older_more h.older;
  }

  pub more_cut : IsUnanswered w c t d call xs ⊎ IsTurnedBack w c t d call xs → IsUnanswered w c t d call (xs ++ ys) ⊎ (IsTurnedBack w c t d call (xs ++ ys) ⊎ IsGivingWay w c t call (xs ++ ys))
  more_cut (inl h) = inl (more_unanswered h)
  more_cut (inr h) = inr (inl (more_turned h))

-- ---- by where it stands
module _ (p : Point) (w : World) (a : Standing) (rest : List Act) (x : Transaction) where
  pub asked_cut : (call : Call) (more : List Act) → rest ≡ Calls call ∷ more → FitsWithin p w a rest x → IsUnanswered w a.client x.txn x.deadly call a.pending
  asked_cut call more next f = record {
    work = all_map (IsWork w a.client x.txn call) (IsCutWork w a.client x.txn call) (cut_work_of w a.client x.txn call) a.pending (works_of w a.client x.txn call a.pending asking);
    spared = ap (spares x.deadly) (none_yet w a.client x.txn call a.pending asking) ∙ f.due;
    asks = idle_asks a.pending (asked_idle w a.client x.txn call a.pending asking);
    older = λ us. ([], f.undone us ∙ sym (append-nil us));
  }
    where
      asking : AreAsking w a.client x.txn call a.pending
      asking = subst (λ acts. AreSoFar w a.client x.txn acts a.pending) next f.so_far

  pub called_cut : (plan : Planned) (f : FitsCalling p w a rest x plan) → IsUnanswered w a.client x.txn f.deadly f.call a.pending
  called_cut plan f = record {
    work = all_map (IsWork w a.client x.txn f.call) (IsCutWork w a.client x.txn f.call) (cut_work_of w a.client x.txn f.call) a.pending f.work;
    spared = f.spared;
    asks = granted_asks a.pending f.granted;
    older = λ us. (plan.changes, f.undone us);
  }

  pub turned_cut : (plan : Planned) (why : Why) (f : FitsTakingBack p w a rest x plan why) → IsTurnedBack w a.client x.txn f.deadly f.call a.pending
  turned_cut plan why f = record {
    work = f.work;
    at = f.met;
    why = reason_of why;
    back = f.back;
    is = f.pending;
    tried = f.tried;
    stays = f.stays;
    granted = f.granted;
    cause = f.cause;
    survives = f.survives;
    no_stop = f.no_stop;
    aside = all_map (IsAside w a.client x.txn) (IsCutAside w a.client x.txn) (cut_of w a.client x.txn) f.back f.aside;
    older = λ us. (plan.changes, f.undone us);
  }

so_far_cut : (p : Point) (w : World) (a : Standing) (rest : List Act) (x : Transaction) (f : FitsWithin p w a rest x) (acts : List Act) → rest ≡ acts → AreSoFar w a.client x.txn acts a.pending
    → IsUnderWay w a.client (at (IsWithin x.txn x.tries (map act_of x.commands.now) x.deadly f.said) acts) a.pending []
so_far_cut p w a rest x f (Calls call ∷ more) next so_far = inl (refl, inl (asked_cut p w a rest x call more next f))
so_far_cut p w a rest x f acts next so_far = none_under_way w a.client (at (IsWithin x.txn x.tries (map act_of x.commands.now) x.deadly f.said) acts) a.pending f.due so_far

module _ {V : Type 0} (means : Ghosts V)
    (s : Start) (B : List (List Record)) (p : Point) (w : World) (gs : List RegionState) (y : SystemState) (v : Vaulted V) (a : Standing) where
  calls_at : (place : Place) (rest more : List Act) (call : Call) → a.spot ≡ at place rest → rest ≡ Calls call ∷ more → a.spot ≡ at place (Calls call ∷ more)
  calls_at place rest more call e f = subst (λ (l : List Act). a.spot ≡ at place l) f e

  -- where no commit waits for its flush
  pub fits_under_way : (rest : List Act) (state : State) → Fits means s B p w gs y v a rest state → stable w.core ≡ y.first + v.flushed → awaits_flush state y v ≡ false → IsUnderWay w a.client a.spot a.pending []
  fits_under_way rest Outside f stable_is none = none_under_way w a.client a.spot a.pending (due_at a.spot (IsOutside f.said) rest f.spot tt) f.none
  fits_under_way rest LeftOut f stable_is none = none_under_way w a.client a.spot a.pending (due_at a.spot (IsLeftOut f.said) rest f.spot tt) f.none
  fits_under_way rest (Waiting tries holder) f stable_is none = none_under_way w a.client a.spot a.pending (due_at a.spot (Again tries holder f.said) rest f.spot tt) f.none
  fits_under_way rest Gone f stable_is none = none_under_way w a.client a.spot a.pending (subst IsDue (sym f.place) tt) f.none
  fits_under_way rest (Within x) f stable_is none = subst (λ (z : Spot). IsUnderWay w a.client z a.pending []) (sym f.spot) (so_far_cut p w a rest x f rest refl f.so_far)
  fits_under_way rest (Calling x plan) f stable_is none =
      cut_at w a.client a.spot (IsWithin x.txn x.tries (map act_of x.commands.now) f.deadly false) (Calls f.call ∷ f.more) a.pending a.pending (calls_at (IsWithin x.txn x.tries (map act_of x.commands.now) f.deadly false) rest f.more f.call f.spot f.calls) refl
      (inl (called_cut p w a rest x plan f))
  fits_under_way rest (TakingBack x plan why) f stable_is none =
      cut_at w a.client a.spot (IsWithin x.txn x.tries (map act_of x.commands.now) f.deadly false) (Calls f.call ∷ f.more) a.pending a.pending (calls_at (IsWithin x.txn x.tries (map act_of x.commands.now) f.deadly false) rest f.more f.call f.spot f.calls) refl
      (inr (inl (turned_cut p w a rest x plan why f)))
  fits_under_way rest (Committing x number removals next) f stable_is none = inr (record {
    move = CommitsMove x.txn x.tries (map act_of x.commands.now) x.deadly number f.behind f.more;
    starts = subst (λ (l : List Act). a.spot ≡ at (IsWithin x.txn x.tries (map act_of x.commands.now) x.deadly false) l) f.commits f.spot;
    own_is = f.pending;
    cause = (flushed_there number (y.first + v.flushed) stable_is none, f.are);
    lacking = CommitOk ∷ [];
    said_is = refl;
  })
    where
      flushed_there : (n m : ℕ) → stable w.core ≡ m → not (nat_lt n m) ≡ false → n < stable w.core
      flushed_there n m same e = by_test (nat_lt n m) refl e
        where
          by_test : (b : Bool) → nat_lt n m ≡ b → not b ≡ false → n < stable w.core
          by_test true less h = subst (λ k. n < k) (sym same) (ltb-true n m less)
          by_test false less h = absurd (cc)
  fits_under_way rest (Auditing audit next) f stable_is none =
      cut_at w a.client a.spot (IsOutside false) (AuditAct ∷ f.more) a.pending ((audit.begin, Logs AuditBegin) ∷ []) (subst (λ (l : List Act). a.spot ≡ at (IsOutside false) l) f.audits f.spot) f.pending tt
  fits_under_way rest (Copying c next) f stable_is none =
      cut_at w a.client a.spot (IsOutside false) (CheckpointAct ∷ f.making.more) a.pending ((f.making.since, StartsCheckpoint) ∷ []) (subst (λ (l : List Act). a.spot ≡ at (IsOutside false) l) f.making.makes f.making.spot) f.making.pending tt
  fits_under_way rest (Certifying c audit next) f stable_is none =
      cut_at w a.client a.spot (IsOutside false) (CheckpointAct ∷ f.making.more) a.pending ((f.making.since, StartsCheckpoint) ∷ (audit.begin, Logs AuditBegin) ∷ []) (subst (λ (l : List Act). a.spot ≡ at (IsOutside false) l) f.making.makes f.making.spot) f.making.pending tt
