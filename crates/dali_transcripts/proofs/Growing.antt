-- A transcript stays while the world goes on.
use Rattle.std.proofs.Common.{◌≡◌, ℕ, zero, suc, ◌+◌, ◌<◌, ◌≤◌, Bool, false, true, List, [], ◌∷◌, ◌++◌, length, Option, Some, None, refl, ap, sym, subst, ◌∙◌, inl, inr, ⊎_elim, arith}
use Rattle.std.specs.Prelude.{fold, slice_get, take, sum_by}
use Rattle.std.proofs.lemmas.List.{append-nil, append_assoc}
use Rattle.std.proofs.lemmas.List.Elements.{filter_map-append}
use Rattle.std.proofs.lemmas.Option.{slice_get_within}
use Rattle.dali_lists.proofs.Lists.{get_front, get_behind}
use Rattle.dali_lists.proofs.Members.{all_map}
use Rattle.dali_runs.proofs.CountsLemmas.Lists.{length-push}
use Rattle.dali_geometry.specs.Places.{regions}
use Rattle.dali_record.specs.declared.operations.Block.{Block}
use Rattle.dali_record.specs.declared.records.Call.{Call}
use Rattle.dali_record.specs.declared.records.Record.{Record}
use Rattle.dali_record.specs.declared.records.Record.TheVariants.{Commit, Forward, Back, Ended, Solo, AuditBegin, AuditClean, AuditFail}
use Rattle.dali_record.specs.Epochs.{last_epoch}
use Rattle.dali_record.specs.Spelling.{record_length}
use Rattle.dali_locks.specs.declared.mode.Mode.{Mode}
use Rattle.dali_runs.specs.declared.refusals.Refusal.{Refusal}
use Rattle.dali_runs.specs.Run.{failed_first}
use Rattle.dali_runs.specs.State.{CoreState, state_of, lock_of}
use Rattle.dali_transcripts.specs.Words.{Act, Begins as BeginAct, Calls, Commits as CommitAct, Aborts as AbortAct, Audits as AuditAct, Checkpoints as CheckpointAct, Why, StoppedBy, Full, Damaged, StoreFailed, UnderWay}
use Rattle.dali_transcripts.specs.World.{Deed, Logs, DiesOn, Claims, GivesBack, GetsLock, Yields, FindsDead, Meets, Happening, World, record_of, logged_by, log_of, log_at, IsLogged, IsFlushed, IsLost, IsUncommitted, HasDone, state_step, state_after, state_at, is_dead_in, is_claimed_in, HasDiedBy, HasEndedBy, has_failed, cause_of, claimer_step, claimer_at, HasGot, lock_step, lock_after, lock_at, stop_at, under_way, stray_after, Grows}
use Rattle.dali_transcripts.specs.Moves.{Receipt, Place, Outside, Within, Again, Spot, Ending, TakenBack, LeftBehind, operations, Move, Begins, BeginsAgain, IsRefusedBegin, Skips, Rests, Answers, IsRefusedCall, Dies, IsArmed, GivesWay, GivesUp, Commits, CommitFails, IsRefusedCommit, Aborts, IsRefusedAbort, Ends, StaysOpen, Pokes, PokesNothing, Audits, IsRefusedAudit, Checkpoints, FailsCheckpoint, IsRefusedCheckpoint, to}
use Rattle.dali_transcripts.specs.Causes.{IsGrantable, IsHindered, GoesOn, IsRoomFor, limit_of, IsFull, IsDamaged, IsDamagedIn, IsUnderWayIn, IsCause, MetCause, IsCleaning, IsUntouched, HasClaimed, LetsGo, HasGivenBack, HasFoundDead, IsCleanUp, IsAside, AreAside, IsAsking, AreAsking, IsWork, AreWork, IsTried, AreTried, IsBehind, AreBehind, IsCutAudit, IsCutBy, IsAlone, Survives, DiesIn, GetsBusy, WaitsNoMore, FindsFailure, IsEnd, IsCutAside, IsCutWork, IsUnanswered, IsTurnedBack, IsGivingWay, AreUnfinished, HasCause, IsRight, AreRightFrom}
use Rattle.dali_transcripts.specs.Transcripts.{IsPath}
use Rattle.dali_transcripts.specs.Laws.{RightGoesOn, WorldGoesOn}

pub get_back : {X : Type 0} (A B : List X) (i : ℕ) (x : X) → i < length A → slice_get (A ++ B) i ≡ Some x → slice_get A i ≡ Some x
get_back [] B i x h e = absurd (omega (arith, h))
get_back (y ∷ A) B zero x h e = e
get_back (y ∷ A) B (suc i) x h e = get_back A B i x (omega (arith, h)) e

take_front : {X : Type 0} (A B : List X) (i : ℕ) (x : X) → slice_get A i ≡ Some x → take i (A ++ B) ≡ take i A
take_front [] B i x e = absurd (cc)
take_front (y ∷ A) B zero x e = refl
take_front (y ∷ A) B (suc i) x e = ap (λ l. y ∷ l) (take_front A B i x e)

module _ (v w : World) (g : Grows v w) where
  -- the log, and the log before a place
  pub log_is : log_of w ≡ log_of v ++ logged_by g.more
  log_is =
      ap (λ b. b ++ logged_by w.happened) g.before
      ∙ (ap (λ l. v.before ++ logged_by l) g.happened
      ∙ (ap (λ l. v.before ++ l) (filter_map-append record_of v.happened g.more) ∙ sym (append_assoc v.before (logged_by v.happened) (logged_by g.more))))

  pub placed : (i : ℕ) (x : Happening) → slice_get v.happened i ≡ Some x → slice_get w.happened i ≡ Some x
  placed i x e = subst (λ l. slice_get l i ≡ Some x) (sym g.happened) (get_front v.happened g.more i x e)

  pub taken : (i : ℕ) (x : Happening) → slice_get v.happened i ≡ Some x → take i w.happened ≡ take i v.happened
  taken i x e = ap (take i) g.happened ∙ take_front v.happened g.more i x e

  pub log_at_is : (i : ℕ) (x : Happening) → slice_get v.happened i ≡ Some x → log_at w i ≡ log_at v i
  log_at_is i x e = ap (λ b. b ++ logged_by (take i w.happened)) g.before ∙ ap (λ l. v.before ++ logged_by l) (taken i x e)

  pub logged : (n : ℕ) (x : Record) → IsLogged v n x → IsLogged w n x
  logged n x h = subst (λ l. slice_get l n ≡ Some x) (sym log_is) (get_front (log_of v) (logged_by g.more) n x h)

  pub logged_back : (n : ℕ) (x : Record) → n < length (log_of v) → IsLogged w n x → IsLogged v n x
  logged_back n x within h = get_back (log_of v) (logged_by g.more) n x within (subst (λ l. slice_get l n ≡ Some x) log_is h)

  pub flushed : (n : ℕ) → IsFlushed v n → IsFlushed w n
  flushed n h = omega (arith, h, g.flushed)

  pub uncommitted : (t n : ℕ) → IsUncommitted v t n → IsUncommitted w t n
  uncommitted t n (e, h) = let within = slice_get_within (log_of v) n _ e in (logged n _ e, λ k below has. h k below (logged_back k (Commit t) (omega (arith, below, within)) has))

  abbrev pub done : (c n : ℕ) (x : Deed) → HasDone v c n x → HasDone w c n x
  done c n x h = record { place = h.place; there = placed h.place _ h.there; number = ap length (log_at_is h.place _ h.there) ∙ h.number }

  pub old_state : (t : ℕ) → state_of w.old.system t ≡ state_of v.old.system t
  old_state t = ap (λ (c : CoreState). state_of c.system t) g.old

  -- what is so before a place stays
  pub states : (i : ℕ) (x : Happening) (t : ℕ) → slice_get v.happened i ≡ Some x → state_at w i t ≡ state_at v i t
  states i x t e = ap (λ l. state_after w l t) (taken i x e) ∙ ap (λ o. fold (state_step t) o (take i v.happened)) (old_state t)

  old_lock : (t k : ℕ) → lock_of w.old.system t k ≡ lock_of v.old.system t k
  old_lock t k = ap (λ (c : CoreState). lock_of c.system t k) g.old

  pub locks : (i : ℕ) (x : Happening) (t k : ℕ) → slice_get v.happened i ≡ Some x → lock_at w i t k ≡ lock_at v i t k
  locks i x t k e = ap (λ l. lock_after w l t k) (taken i x e) ∙ ap (λ o. fold (lock_step t k) o (take i v.happened)) (old_lock t k)

  pub claimers : (i : ℕ) (x : Happening) (t : ℕ) → slice_get v.happened i ≡ Some x → claimer_at w i t ≡ claimer_at v i t
  claimers i x t e = ap (fold (claimer_step t) None) (taken i x e)

  pub stops : (i : ℕ) (x : Happening) → slice_get v.happened i ≡ Some x → stop_at w i ≡ stop_at v i
  stops i x e =
      ap (λ l. cause_of (failed_first (last_epoch l).records) (has_failed w.old.vault.stopped (take i w.happened))) (log_at_is i x e)
      ∙ (ap (λ l. cause_of (failed_first (last_epoch (log_at v i)).records) (has_failed w.old.vault.stopped l)) (taken i x e)
      ∙ ap (λ (c : CoreState). cause_of (failed_first (last_epoch (log_at v i)).records) (has_failed c.vault.stopped (take i v.happened))) g.old)

  pub died_by : (t n : ℕ) → HasDiedBy v t n → HasDiedBy w t n
  died_by t n (inl was) = inl (ap is_dead_in (old_state t) ∙ was)
  died_by t n (inr (c, r, m, has, few)) = inr (c, r, m, done c m (DiesOn t r) has, few)

  pub ended_by : (t n : ℕ) → HasEndedBy v t n → HasEndedBy w t n
  ended_by t n (inl (k, below, e)) = inl (k, below, logged k _ e)
  ended_by t n (inr dead) = inr (died_by t n dead)

  pub lost : (n : ℕ) → IsLost v n → IsLost w n
  lost n h = (g.failed h.0, omega (arith, h.1, g.sealed h.0))

  pub cleaning : (c t n u : ℕ) (x : Deed) → IsCleaning v c t n u x → IsCleaning w c t n u x
  cleaning c t n u x h = record { apart = h.apart; done = done c n x h.done; claimed = ap is_claimed_in (states h.done.place _ u h.done.there) ∙ h.claimed; own = claimers h.done.place _ u h.done.there ∙ h.own }

  pub placed_back : (i : ℕ) (x : Happening) → i < length v.happened → slice_get w.happened i ≡ Some x → slice_get v.happened i ≡ Some x
  placed_back i x within e = get_back v.happened g.more i x within (subst (λ l. slice_get l i ≡ Some x) g.happened e)

  pub untouched : (c u i : ℕ) → i < length v.happened → IsUntouched v c u i → IsUntouched w c u i
  untouched c u i within (k, before, at, none) = (k, before, placed k _ at, λ m d b since until e. none m d b since until (placed_back m _ (omega (arith, within, until)) e))

  pub has_claimed : (c n u : ℕ) → HasClaimed v c n u → HasClaimed w c n u
  has_claimed c n u h = record { done = done c n (Claims u) h.done; dead = ap is_dead_in (states h.done.place _ u h.done.there) ∙ h.dead }

  abbrev pub lets_go : (c n u : ℕ) (latched : Option ℕ) → LetsGo v c n u latched → LetsGo w c n u latched
  lets_go c n u latched h = record { done = done c n (GivesBack u latched) h.done; was = h.was; claimed = states h.done.place _ u h.done.there ∙ h.claimed; own = claimers h.done.place _ u h.done.there ∙ h.own; left = h.left }

  pub given_back : (c n u : ℕ) (latched : Option ℕ) → HasGivenBack v c n u latched → HasGivenBack w c n u latched
  given_back c n u latched h =
      let there = h.given.done.there in
      record {
        given = lets_go c n u latched h.given;
        why = ⊎_elim (λ z. inl (z.0, z.1, z.2, untouched c u h.given.done.place (slice_get_within v.happened h.given.done.place _ there) z.3)) (λ stopped. inr (stopped.0, stops h.given.done.place _ there ∙ stopped.1)) h.why;
      }

  pub found_dead : (c n t : ℕ) (call : Call) (f : Refusal) → HasFoundDead v c n t call f → HasFoundDead w c n t call f
  found_dead c n t call f h = record {
    done = done c n (FindsDead f) h.done;
    txn = h.txn;
    key = h.key;
    mode = h.mode;
    number = h.number;
    dead = ap is_dead_in (states h.done.place _ f.holder h.done.there) ∙ h.dead;
  }

  pub clean_up : (c t : ℕ) (x : Receipt) → IsCleanUp v c t x → IsCleanUp w c t x
  clean_up c t (n, Logs (Back u b)) h = cleaning c t n u (Logs (Back u b)) h
  clean_up c t (n, Logs (Ended u)) h = cleaning c t n u (Logs (Ended u)) h
  clean_up c t (n, Claims u) h = (h.0, has_claimed c n u h.1)
  clean_up c t (n, GivesBack u latched) h = (h.0, given_back c n u latched h.1)
  clean_up c t x h = absurd h

  pub aside : (c t : ℕ) (x : Receipt) → IsAside v c t x → IsAside w c t x
  aside c t (n, Logs (Back u b)) (inl e) = inl e
  aside c t (n, Logs (Back u b)) (inr h) = inr (cleaning c t n u (Logs (Back u b)) h)
  aside c t x h = clean_up c t x h

  pub asides : (c t : ℕ) (xs : List Receipt) → AreAside v c t xs → AreAside w c t xs
  asides c t xs h = all_map (IsAside v c t) (IsAside w c t) (aside c t) xs h

  pub asking : (c t : ℕ) (call : Call) (x : Receipt) → IsAsking v c t call x → IsAsking w c t call x
  asking c t call (n, FindsDead f) h = found_dead c n t call f h
  asking c t call x h = aside c t x h

  pub askings : (c t : ℕ) (call : Call) (xs : List Receipt) → AreAsking v c t call xs → AreAsking w c t call xs
  askings c t call xs h = all_map (IsAsking v c t call) (IsAsking w c t call) (asking c t call) xs h

  pub work : (c t : ℕ) (call : Call) (x : Receipt) → IsWork v c t call x → IsWork w c t call x
  work c t call (n, Logs (Forward u b)) h = h
  work c t call (n, GetsLock u key mode) h = h
  work c t call x h = asking c t call x h

  pub works : (c t : ℕ) (call : Call) (xs : List Receipt) → AreWork v c t call xs → AreWork w c t call xs
  works c t call xs h = all_map (IsWork v c t call) (IsWork w c t call) (work c t call) xs h

  pub behind : (c t : ℕ) (x : Receipt) → IsBehind v c t x → IsBehind w c t x
  behind c t (n, Meets StoreFailed) h = tt
  behind c t (n, Logs (Solo u p b)) h = h
  behind c t (n, Logs (Ended u)) (inl e) = inl e
  behind c t (n, Logs (Ended u)) (inr h) = inr (cleaning c t n u (Logs (Ended u)) h)
  behind c t x h = clean_up c t x h

  pub behinds : (c t : ℕ) (xs : List Receipt) → AreBehind v c t xs → AreBehind w c t xs
  behinds c t xs h = all_map (IsBehind v c t) (IsBehind w c t) (behind c t) xs h

  pub cut : (later : Bool) (xs : List Receipt) → IsCutAudit v later xs → IsCutAudit w later xs
  cut later [] h = tt
  cut later ((b, Logs AuditBegin) ∷ []) h = tt
  cut later ((b, Logs AuditBegin) ∷ (n, Logs (AuditClean a)) ∷ []) (e, inl may) = (e, inl may)
  cut later ((b, Logs AuditBegin) ∷ (n, Logs (AuditClean a)) ∷ []) (e, inr h) = (e, inr (lost n h))
  cut later ((b, Logs AuditBegin) ∷ (n, Logs (AuditFail a rs)) ∷ []) h = (h.0, lost n h.1)
  cut later xs h = absurd h

  pub cut_by : (later : Bool) (why : Why) (xs : List Receipt) → IsCutBy v later why xs → IsCutBy w later why xs
  cut_by later (StoppedBy cause) xs h = cut later xs h
  cut_by true StoreFailed xs h = cut true xs h
  cut_by false StoreFailed xs h = (cut false xs h.0, h.1)
  cut_by later why xs h = h

  pub limits : (act : Act) → limit_of w act ≡ limit_of v act
  limits AuditAct = ap (λ n. n + 1048576) g.limit
  limits CheckpointAct = ap (λ n. n + 1048576) g.limit
  limits act = g.limit

  pub room : (L M : List Record) (act : Act) (o : Option ℕ) (x : Record) → M ≡ L → IsRoomFor v.core.system.sizes L act o x → IsRoomFor w.core.system.sizes M act o x
  room L M act o x e h = subst (λ l. IsRoomFor w.core.system.sizes l act o x) (sym e) (subst (λ s. IsRoomFor s L act o x) (sym g.sizes) h)

  pub full : (i : ℕ) (act : Act) (o : Option ℕ) (end limit : ℕ) (x : Happening) → slice_get v.happened i ≡ Some x → IsFull v i act o end limit → IsFull w i act o end limit
  full i act o end limit x at h = let e = log_at_is i x at in record {
    limit_is = h.limit_is ∙ sym (limits act);
    end_is = h.end_is ∙ ap (λ l. sum_by record_length l) (sym e);
    refused = h.refused;
    next = room (log_at v i) (log_at w i) act o h.refused e h.next;
    spelled = h.spelled;
    passes = h.passes;
    runs = stops i x at ∙ h.runs;
  }

  pub goes_on : (L M : List Record) (t : ℕ) (call : Call) (b : Block) → M ≡ L → GoesOn v.core.system.sizes L t call b → GoesOn w.core.system.sizes M t call b
  goes_on L M t call b e h = subst (λ l. GoesOn w.core.system.sizes l t call b) (sym e) (subst (λ s. GoesOn s L t call b) (sym g.sizes) h)

  pub damaged : (i t : ℕ) (call : Call) (r codeword found : ℕ) → log_at w i ≡ log_at v i → take i w.happened ≡ take i v.happened
      → IsDamaged v i t call r codeword found → IsDamaged w i t call r codeword found
  damaged i t call r codeword found e same h = record {
    compares = g.precheck ∙ h.compares;
    next = h.next;
    on_region = h.on_region;
    goes_on = goes_on (log_at v i) (log_at w i) t call h.next e h.goes_on;
    old = h.old;
    was = ap (λ (c : CoreState). slice_get c.regions r) g.old ∙ h.was;
    stray = h.stray ∙ ap (λ l. stray_after r h.old.stray l) (sym same);
    differ = h.differ;
  }

  pub damaged_in : (i : ℕ) (act : Act) (o : Option ℕ) (r codeword found : ℕ) → log_at w i ≡ log_at v i → take i w.happened ≡ take i v.happened
      → IsDamagedIn v i act o r codeword found → IsDamagedIn w i act o r codeword found
  damaged_in i (Calls call) (Some t) r codeword found e same h = damaged i t call r codeword found e same h
  damaged_in i act o r codeword found e same h = absurd h

  pub under : (i c : ℕ) (act : Act) → take i w.happened ≡ take i v.happened → IsUnderWayIn v i c act → IsUnderWayIn w i c act
  under i c CheckpointAct same h = record { other = h.other; differs = h.differs; started = ap under_way same ∙ h.started }
  under i c act same h = absurd h

  pub cause : (c i : ℕ) (act : Act) (o : Option ℕ) (why : Why) (x : Happening) → slice_get v.happened i ≡ Some x → IsCause v c i act o why → IsCause w c i act o why
  cause c i act o (StoppedBy z) x e h = (h.0, stops i x e ∙ h.1)
  cause c i act o (Full end limit) x e h = full i act o end limit x e h
  cause c i act o (Damaged r codeword found) x e h = damaged_in i act o r codeword found (log_at_is i x e) (taken i x e) h
  cause c i act o StoreFailed x e h = h
  cause c i act o UnderWay x e h = under i c act (taken i x e) h

  abbrev pub met : (c n : ℕ) (act : Act) (o : Option ℕ) (why : Why) → MetCause v c n act o why → MetCause w c n act o why
  met c n act o why h = record { met = done c n (Meets why) h.met; cause = cause c h.met.place act o why _ h.met.there h.cause }

  pub survives : (c n t : ℕ) (call : Call) (d : Option ℕ) (count : ℕ) (why : Why) (m : MetCause v c n (Calls call) (Some t) why) → Survives v c n t call d count why m → Survives w c n t call d count why (met c n (Calls call) (Some t) why m)
  unfolding cause full
  survives c n t call d count (Full end limit) m h = h
  survives c n t call d count (StoppedBy z) m h = h
  survives c n t call d count (Damaged r codeword found) m h = h
  survives c n t call d count StoreFailed m h = h
  survives c n t call d count UnderWay m h = h

  pub alone : (why : Why) (span : Option (ℕ × ℕ)) (i : ℕ) (x : Happening) → slice_get v.happened i ≡ Some x → IsAlone v why span i → IsAlone w why span i
  alone UnderWay None i x e h = tt
  alone why None i x e h = ap under_way (taken i x e) ∙ h
  alone why (Some span) i x e h = tt

  pub tried : (c t : ℕ) (call : Call) (x : Receipt) → IsTried v c t call x → IsTried w c t call x
  tried c t call (n, Meets why) h = met c n (Calls call) (Some t) why h
  tried c t call x h = work c t call x h

  pub all_tried : (c t : ℕ) (call : Call) (xs : List Receipt) → AreTried v c t call xs → AreTried w c t call xs
  all_tried c t call xs h = all_map (IsTried v c t call) (IsTried w c t call) (tried c t call) xs h

  pub dies : (c n t r : ℕ) (call : Call) → DiesIn v c n t r call → DiesIn w c n t r call
  dies c n t r call h = record {
    done = done c n (DiesOn t r) h.done;
    next = h.next;
    on_region = h.on_region;
    goes_on = goes_on (log_at v h.done.place) (log_at w h.done.place) t call h.next (log_at_is h.done.place _ h.done.there) h.goes_on;
  }

  pub busy : (c t : ℕ) (call : Call) (f : Refusal) → GetsBusy v c t call f → GetsBusy w c t call f
  busy c t call f h = record {
    txn = h.txn;
    key = h.key;
    mode = h.mode;
    done = done c f.at (Yields f) h.done;
    runs = ap is_dead_in (states h.done.place _ f.holder h.done.there) ∙ h.runs;
  }

  pub waits_no_more : (place : Place) (n : ℕ) (why : Why) → WaitsNoMore v place n why → WaitsNoMore w place n why
  waits_no_more place n (StoppedBy z) h = tt
  waits_no_more (Again tries held u) n why h = ended_by held n h
  waits_no_more place n why h = tt

  pub finds_failure : (c n : ℕ) (why : Why) → FindsFailure v c n why → FindsFailure w c n why
  finds_failure c n StoreFailed h = tt
  finds_failure c n (StoppedBy z) (met, failed) =
      (done c n (Meets (StoppedBy z)) met, ap (λ l. has_failed w.old.vault.stopped l) (taken met.place _ met.there) ∙ (ap (λ (k : CoreState). has_failed k.vault.stopped (take met.place v.happened)) g.old ∙ failed))
  finds_failure c n why h = absurd h

  pub end_is : (c t : ℕ) (call : Call) (end : Ending) → IsEnd v c t call end → IsEnd w c t call end
  end_is c t call (TakenBack n) h = uncommitted t n h
  end_is c t call (LeftBehind n z) h = met c n (Calls call) (Some t) (StoppedBy z) h

  pub has_cause : (c : ℕ) (x : Move) → HasCause v c x → HasCause w c x
  has_cause c (Begins t n rest) h = tt
  has_cause c (BeginsAgain t n tries held rest) h = ended_by held n h
  has_cause c (IsRefusedBegin place s n why rest) h = (h.0, met c n BeginAct None why h.1, waits_no_more place n why h.2)
  has_cause c (Skips s act rest) h = tt
  has_cause c (Rests t act rest) h = tt
  has_cause c (Answers t tries cs d xs n call a rest) h = (works c t call xs h.0, h.1, h.2, h.3)
  has_cause c (IsRefusedCall t tries cs d s xs n ys call why rest) h = (all_tried c t call xs h.0, (met c n (Calls call) (Some t) why h.1.0, survives c n t call d (operations t xs) why h.1.0 h.1.1), asides c t ys h.2, h.3, h.4, h.5)
  has_cause c (Dies t tries cs d xs n r call rest) h = (works c t call xs h.0, h.1, dies c n t r call h.2, h.3)
  has_cause c (IsArmed t tries cs d s count rest) h = tt
  has_cause c (GivesWay t tries cs d xs call f ys end rest) h = (askings c t call xs h.0, busy c t call f h.1, asides c t ys h.2, end_is c t call end h.3, h.4)
  has_cause c (GivesUp t tries cs d xs call f ys end rest) h = (askings c t call xs h.0, busy c t call f h.1, asides c t ys h.2, end_is c t call end h.3, h.4)
  has_cause c (Commits t tries cs d n xs rest) h = (flushed n h.0, behinds c t xs h.1)
  has_cause c (CommitFails t tries cs d n m why rest) h = (lost n h.0, finds_failure c m why h.1)
  has_cause c (IsRefusedCommit t tries cs d s n why rest) h = met c n CommitAct (Some t) why h
  has_cause c (Aborts t tries cs d xs n rest) h = (asides c t xs h.0, uncommitted t n h.1)
  has_cause c (IsRefusedAbort t tries cs d s xs n why rest) h = (asides c t xs h.0, met c n AbortAct (Some t) why h.1)
  has_cause c (Ends t tries cs d xs n) h = (asides c t xs h.0, uncommitted t n h.1)
  has_cause c (StaysOpen t tries cs d s xs n z) h = (asides c t xs h.0, met c n AbortAct (Some t) (StoppedBy z) h.1)
  has_cause c (Pokes s n r word m rest) h = subst (λ z. r < regions z) (sym g.sizes) h
  has_cause c (PokesNothing s r word m rest) h = subst (λ z. regions z ≤ r) (sym g.sizes) h
  has_cause c (Audits b n rs failed rest) h = flushed n h
  has_cause c (IsRefusedAudit s xs n why rest) h = (cut_by false why xs h.0, met c n AuditAct None why h.1)
  has_cause c (Checkpoints since b n m until current rest) h = flushed n h
  has_cause c (FailsCheckpoint since b n until r rs failed rest) h = flushed n h
  has_cause c (IsRefusedCheckpoint s span late xs n why rest) h = (cut_by true why xs h.0, h.1, (met c n CheckpointAct None why h.2.0, alone why span h.2.0.met.place _ h.2.0.met.there h.2.1))

  -- ---- what was cut short
  cut_aside : (c t : ℕ) (x : Receipt) → IsCutAside v c t x → IsCutAside w c t x
  cut_aside c t (n, GivesBack u latched) h = (h.0, lets_go c n u latched h.1)
  cut_aside c t x h = aside c t x h

  cut_work : (c t : ℕ) (call : Call) (x : Receipt) → IsCutWork v c t call x → IsCutWork w c t call x
  cut_work c t call (n, GivesBack u latched) h = (h.0, lets_go c n u latched h.1)
  cut_work c t call x h = work c t call x h

  pub unanswered : (c t : ℕ) (d : Option ℕ) (call : Call) (xs : List Receipt) → IsUnanswered v c t d call xs → IsUnanswered w c t d call xs
  unanswered c t d call xs h = record { work = all_map (IsCutWork v c t call) (IsCutWork w c t call) (cut_work c t call) xs h.work; spared = h.spared; asks = h.asks; older = h.older }

  pub turned_back : (c t : ℕ) (d : Option ℕ) (call : Call) (xs : List Receipt) → IsTurnedBack v c t d call xs → IsTurnedBack w c t d call xs
  turned_back c t d call xs h = record {
    work = h.work;
    at = h.at;
    why = h.why;
    back = h.back;
    is = h.is;
    tried = all_tried c t call h.work h.tried;
    stays = h.stays;
    granted = h.granted;
    cause = met c h.at (Calls call) (Some t) h.why h.cause;
    survives = survives c h.at t call d (operations t h.work) h.why h.cause h.survives;
    no_stop = h.no_stop;
    aside = all_map (IsCutAside v c t) (IsCutAside w c t) (cut_aside c t) h.back h.aside;
    older = h.older;
  }

  giving_way : (c t : ℕ) (call : Call) (xs : List Receipt) → IsGivingWay v c t call xs → IsGivingWay w c t call xs
  giving_way c t call xs h = record {
    work = h.work;
    refusal = h.refusal;
    back = h.back;
    is = h.is;
    asking = askings c t call h.work h.asking;
    busy = busy c t call h.refusal h.busy;
    aside = asides c t h.back h.aside;
  }

  pub unfinished : (c : ℕ) (place : Place) (rest : List Act) (xs : List Receipt) → AreUnfinished v c place rest xs → AreUnfinished w c place rest xs
  unfinished c (Within t tries cs d s) (Calls call ∷ rest) xs (inl h) = inl (unanswered c t d call xs h)
  unfinished c (Within t tries cs d s) (Calls call ∷ rest) xs (inr (inl h)) = inr (inl (turned_back c t d call xs h))
  unfinished c (Within t tries cs d s) (Calls call ∷ rest) xs (inr (inr h)) = inr (inr (giving_way c t call xs h))
  unfinished c (Within t tries cs d s) (AbortAct ∷ rest) xs h = asides c t xs h
  unfinished c (Within t tries cs d s) [] xs h = asides c t xs h
  unfinished c (Outside s) (AuditAct ∷ rest) xs h = h
  unfinished c (Outside s) (CheckpointAct ∷ rest) xs h = h
  unfinished c place rest xs h = h

  hindered : (c i : ℕ) (f : Refusal) (x : Happening) → slice_get v.happened i ≡ Some x → IsHindered v c i f → IsHindered w c i f
  hindered c i f x e h = record {
    mode = h.mode;
    holds = locks i x f.holder f.key e ∙ h.holds;
    clash = h.clash;
    by_another = ⊎_elim (λ dead. inl (ap is_dead_in (old_state f.holder) ∙ dead)) (λ got. inr (got.0, got.1, got.2, subst (λ xs. HasGot xs got.0 f.holder f.key got.1) (sym (taken i x e)) got.3)) h.by_another;
    unclaimed = λ own. ap is_claimed_in (states i x f.holder e) ∙ h.unclaimed (sym (claimers i x f.holder e) ∙ own);
  }

  grantable : (i t k : ℕ) (m : Mode) (x : Happening) → slice_get v.happened i ≡ Some x → IsGrantable v i t k m → IsGrantable w i t k m
  grantable i t k m x e free u n other held = free u n other (sym (locks i x u k e) ∙ held)

  -- each deed by itself
  pub right : (c i : ℕ) (x : Deed) → slice_get v.happened i ≡ Some (x, c) → IsRight v c i x → IsRight w c i x
  right c i (Logs (Back t b)) e h = tt
  right c i (Logs (Solo t p b)) e h = tt
  right c i (Logs x) e h = stops i _ e ∙ h
  right c i (Claims u) e h = ap is_dead_in (states i _ u e) ∙ h
  right c i (GivesBack u latched) e h = (h.0, states i _ u e ∙ h.1, h.2, claimers i _ u e ∙ h.3)
  right c i (GetsLock t k m) e h = (states i _ t e ∙ h.0, stops i _ e ∙ h.1, grantable i t k m _ e h.2)
  right c i (Yields f) e h = (h.0 ∙ ap length (sym (log_at_is i _ e)), ap is_dead_in (states i _ f.holder e) ∙ h.1, stops i _ e ∙ h.2, hindered c i f _ e h.3)
  right c i (FindsDead f) e h = (h.0 ∙ ap length (sym (log_at_is i _ e)), ap is_dead_in (states i _ f.holder e) ∙ h.1, stops i _ e ∙ h.2)
  right c i (Meets StoreFailed) e h = tt
  right c i (Meets why) e h = (h.0, h.1, cause c i h.0 h.1 why _ e h.2)
  right c i x e h = h

  -- front: the deeds before these
  pub rights : (front rest : List Happening) (i : ℕ) → i ≡ length front → v.happened ≡ front ++ rest → AreRightFrom v i rest → AreRightFrom w (length v.happened) g.more → AreRightFrom w i (rest ++ g.more)
  rights front [] i at is h more =
      let end : i ≡ length v.happened = at ∙ ap length (sym (is ∙ append-nil front)) in
      subst (λ k. AreRightFrom w k g.more) (sym end) more
  rights front (x ∷ rest) i at is h more =
      let here : slice_get v.happened i ≡ Some x = ap (slice_get v.happened) at ∙ (ap (λ l. slice_get l (length front)) is ∙ get_behind front x rest) in
      let next : i + 1 ≡ length (front ++ x ∷ []) = ap (λ k. k + 1) at ∙ sym (length-push front x) in
      (right x.1 i x.0 here h.0, rights (front ++ x ∷ []) rest (i + 1) next (is ∙ sym (append_assoc front (x ∷ []) rest)) h.1 more)

  pub path : (c : ℕ) (p : Spot) (xs : List Move) (q : Spot) → IsPath v c p xs q → IsPath w c p xs q
  path c p [] q h = h
  path c p (x ∷ xs) q h = (h.0, has_cause c x h.1, path c (to x) xs q h.2)

pub right_goes_on : RightGoesOn
right_goes_on v w g are more = subst (λ l. AreRightFrom w 0 l) (sym g.happened) (rights v w g [] v.happened 0 refl refl are more)

pub world_goes_on : WorldGoesOn
world_goes_on v w c acts lines did pending q g so = record {
  moves = so.moves;
  path = path v w g c _ so.moves q so.path;
  lines_are = so.lines_are;
  did_are = so.did_are;
}
