-- Each step of a core, and each of a core with its store, by its kind.
use Rattle.std.proofs.Common.{◌≡◌, ℕ, zero, suc, ◌+◌, ◌≤◌, Bool, true, false, List, [], ◌∷◌, ◌++◌, length, Option, Some, None, refl, ap, sym, subst, ◌∙◌, ◌⊎◌, inl, inr, ⊎_elim, arith}
use Rattle.std.specs.Prelude.{slice_get, take, if◌then◌else◌, ◌==◌}
use Rattle.std.specs.Option.{option_map_or}
use Rattle.std.proofs.lemmas.Option.{slice_get_within}
use Rattle.std.proofs.lemmas.List.{append-nil, length-set, length-append, take_all}
use Rattle.std.proofs.lemmas.List.Elements.{Contains-append_left}
use Rattle.dali_lists.proofs.Lists.{get_append_cases}
use Rattle.dali_lists.proofs.Options.{none_of_test}
use Rattle.dali_runs.proofs.CountsLemmas.Lists.{some_same, equal}
use Rattle.dali_record.specs.declared.records.Record.{Record}
use Rattle.dali_record.specs.declared.records.Record.TheVariants.{AuditBegin}
use Rattle.dali_region.specs.declared.Side.{Side}
use Rattle.dali_region.specs.declared.Side.TheVariants.{A, B}
use Rattle.dali_region.specs.State.{RegionState, checked, dead, taken_back}
use Rattle.dali_region.specs.Answers.{cleaned}
use Rattle.dali_locks.specs.declared.mode.Mode.{Mode}
use Rattle.dali_att.specs.declared.state.State.TheVariants.{Live, Dead, Cleaning}
use Rattle.dali_att.specs.Table.{with_state}
use Rattle.dali_runs.specs.declared.refusals.Refusal.{Refusal}
use Rattle.dali_runs.specs.Run.{Bases, HasRisen, no_image}
use Rattle.dali_runs.specs.State.{CoreState, VaultState, state_of, lock_of}
use Rattle.dali_runs.specs.Steps.{audit_record, granted, refused, in_state, store_stopped, taken}
use Rattle.dali_runs.specs.Flushes.{frame_of, with_vault, longer, faulted}
use Rattle.dali_runs.specs.ImageSteps.{clears}
use Rattle.dali_runs.specs.Regions.{RegionStep, Latch, NoteReads, Update, TakeBack, Poke, Check, Die, Clean, region_after}
use Rattle.dali_runs.specs.Keeps.{with_system, with_region, dead_in, died, MayDie}
use Rattle.dali_runs.specs.Passes.{Pass, audits_with}
use Rattle.dali_runs.specs.Courses.{Step, Begins, Operates, TakesBack, Frees, Answers, Commits, Ends, AuditBegins, AuditEnds, Locks, Refuses, OnRegion, Passes, Dies, Claims, GivesBack, Recovers, Stops, Checkpoints, Takes, Flushes, Faults, ReadFails, pass_now, IsStepAt}
use Rattle.dali_crash.specs.Checkpoints.{StoreStep, Does, Starts, Keeps, Copies, Skips, WritesHead, Syncs, Turns, CopyFails, HeadFails, SyncFails, TurnFails, Finishes, Point, IsPointStep, moment_of, target, with_current, with_flag, with_fault, is_of_checkpoint, IsFault}
use Rattle.dali_crash.specs.StoreRuns.{StoreRun}
use Rattle.dali_transcripts.specs.Words.{Why, StoppedBy, Full, Damaged, StoreFailed, UnderWay}
use Rattle.dali_transcripts.specs.World.{Deed, Logs, Strays, DiesOn, Claims as ClaimsTxn, GivesBack as GivesTxnBack, GetsLock, Yields, FindsDead, StartsCheckpoint, MovesAnchor, EndsCheckpoint, Meets, World, IsLogged, logged_by, state_step, lock_step, IsNoWeaker, stray_step, poked_step, stray_after, refused_by, under_way, log_of}
use Rattle.dali_transcripts.specs.Together.{SpanFits, AnchorIs, FaultsBy, RoomBy, RightBy, Owes}
use Rattle.dali_transcripts.proofs.Grown.{keeps_stop}
use Rattle.dali_transcripts.specs.Telling.Deeds.{HasLookedFor, AreOfCore, AreOf, refusal_now}
use Rattle.dali_transcripts.specs.Telling.Laws.{StepTells, IsNoFault}
use Rattle.dali_transcripts.specs.Telling.Tells.{after, AreRightThen, WasPassed, PassesAreTold, Tells, Goes}
use Rattle.dali_transcripts.proofs.TellingLemmas.States.{new_state, claim_state, release_state}
use Rattle.dali_transcripts.proofs.TellingLemmas.Held.{told_lock, untold_lock}
use Rattle.dali_transcripts.proofs.TellingLemmas.Strays.{Stays, same_regions, one_region, poked_region}
use Rattle.dali_transcripts.proofs.TellingLemmas.Told.{Onward, plain, passed_on, passes_on, log_is, goes_by, by_deed}
use Rattle.dali_transcripts.proofs.TellingLemmas.Core.{begins, operates, takes_back, frees, answers, commits, ends_txn, audit_begins, audit_ends, unseen, unseen_passes, quiet, seen}

longer_is : (v : VaultState) (frame : List Record) → ((longer v frame).current ≡ v.current) × ((longer v frame).stopped ≡ v.stopped) × ((longer v frame).faults ≡ v.faults) × (v.flushed ≤ (longer v frame).flushed)
longer_is v [] = (refl, refl, refl, omega arith)
longer_is v (r ∷ rs) = (refl, refl, refl, omega arith)

cleaned_is : (side : Side) (g : RegionState) → ((cleaned side g).stray ≡ g.stray) × ((cleaned side g).poked ≡ g.poked)
cleaned_is A g = (refl, refl)
cleaned_is B g = (refl, refl)

-- the region in which a client dies
dead_stays : (gs : List RegionState) (r : ℕ) → Stays gs (dead_in gs (Some r)) × (length (dead_in gs (Some r)) ≡ length gs)
dead_stays gs r = by_region (slice_get gs r) refl
  where
    by_region : (o : Option RegionState) → slice_get gs r ≡ o → Stays gs (dead_in gs (Some r)) × (length (dead_in gs (Some r)) ≡ length gs)
    by_region None e = rw e (same_regions gs, refl)
    by_region (Some g) e = rw e (one_region gs r g (dead g) e refl refl, length-set gs r (dead g))

module _ (bases : Bases) (before : List Record) (w0 : World) (c : ℕ) (p q : Point) (run : StoreRun bases before no_image p) (told : Tells (record w0 { core = p.core }) p) where
  abbrev w : World
  w = record w0 { core = p.core }

  -- a deed that changes neither the regions' stray writes nor the vault, and is none of a checkpoint
  plain_owes : (x : Deed) (d : CoreState) → SpanFits (under_way w0.happened) (x, c) → AnchorIs p.core.vault.current (x, c) d.vault.current
      → ((r : ℕ) (h : RegionState) → slice_get d.regions r ≡ Some h → (g : RegionState) × (slice_get p.core.regions r ≡ Some g) × (h.stray ≡ stray_step r g.stray (x, c)) × (h.poked ≡ poked_step r g.poked (x, c)))
      → ((b : ℕ) (found : List ℕ) → x ≡ Logs (audit_record b found) → ⊥)
      → ((t : ℕ) → state_of d.system t ≡ state_step t (state_of p.core.system t) (x, c))
      → ((t k : ℕ) (o : Option Mode) → IsNoWeaker (lock_of p.core.system t k) o → IsNoWeaker (lock_of d.system t k) (lock_step t k o (x, c))) → FaultsBy w (after w c (x ∷ []) d) x
      → d.system.refusals ≡ p.core.system.refusals ++ refused_by ((x, c) ∷ []) → RoomBy w x → (w0.precheck ≡ true → RightBy w c x)
      → Owes w (after w c (x ∷ []) d) c x
  plain_owes x d span anchor poke none state lock fault refusal room right = record {
    span = span;
    anchor = anchor;
    poke = poke;
    verdict = λ b found e. absurd (none b found e);
    state = state;
    lock = lock;
    fault = fault;
    refusal = refusal;
    room = room;
    right = right;
  }

  refuses : (t k : ℕ) (m : Mode) (h : ℕ) (x : Deed) → (x ≡ Yields (refusal_now p.core t k m h)) ⊎ (x ≡ FindsDead (refusal_now p.core t k m h))
      → q.core ≡ with_system p.core (refused p.core.system t k m h) → q.log ≡ p.log → q.audits ≡ p.audits → AreRightThen w c (x ∷ []) q.core → Goes w c p (x ∷ []) (after w c (x ∷ []) q.core) q
  refuses t k m h x one is log audits right = ⊎_elim
      (λ e. subst (λ y. Goes w c p (y ∷ []) (after w c (y ∷ []) q.core) q) (sym e) (seen bases before w0 c p q run told (Yields f) d refl is log audits on
      (plain_owes (Yields f) d tt refl (λ r g at. (g, at, refl, refl)) (λ b found e'. absurd (cc)) (λ u. refl) (λ u j o e. e) (refl, refl) refl tt (λ e'. tt)) told.flag (subst (λ y. AreRightThen w c (y ∷ []) q.core) e right)))
      (λ e. subst (λ y. Goes w c p (y ∷ []) (after w c (y ∷ []) q.core) q) (sym e) (seen bases before w0 c p q run told (FindsDead f) d refl is log audits on
      (plain_owes (FindsDead f) d tt refl (λ r g at. (g, at, refl, refl)) (λ b found e'. absurd (cc)) (λ u. refl) (λ u j o e. e) (refl, refl) refl tt (λ e'. tt)) told.flag (subst (λ y. AreRightThen w c (y ∷ []) q.core) e right)))
      one
    where
      f : Refusal
      f = refusal_now p.core t k m h

      d : CoreState
      d = with_system p.core (refused p.core.system t k m h)

      on : Onward p.core d
      on = record { core = record { sizes = refl; limit = refl; flushed = omega arith; failed = λ e. e; sealed = λ e. refl; stop = λ z e. e; refusals = λ g there. Contains-append_left p.core.system.refusals _ g there }; count = refl }

  -- ---- locks
  gets_lock : (t k : ℕ) (m : Mode) → q.core ≡ with_system p.core (granted p.core.system t k m) → q.log ≡ p.log → q.audits ≡ p.audits → AreRightThen w c (GetsLock t k m ∷ []) q.core
      → Goes w c p (GetsLock t k m ∷ []) (after w c (GetsLock t k m ∷ []) q.core) q
  gets_lock t k m is log audits right =
      seen bases before w0 c p q run told (GetsLock t k m) (with_system p.core (granted p.core.system t k m)) refl is log audits (plain _ _ refl refl refl refl refl refl refl)
      (plain_owes (GetsLock t k m) _ tt refl (λ r g at. (g, at, refl, refl)) (λ b found e'. absurd (cc)) (λ u. refl) (λ u j o e. told_lock p.core.system.locks t k m u j o e) (refl, refl) (sym (append-nil p.core.system.refusals)) tt (λ e'. tt))
      told.flag right

  -- ---- regions
  changed_region : (r : ℕ) (g new : RegionState) → slice_get p.core.regions r ≡ Some g → new.stray ≡ g.stray → new.poked ≡ g.poked
      → q.core ≡ with_region p.core r new → q.log ≡ p.log → q.audits ≡ p.audits → Goes w c p [] (after w c [] q.core) q
  changed_region r g new at stray poked is log audits =
      quiet bases before w0 c p q run told (with_region p.core r new) is log audits (plain _ _ refl refl refl refl refl refl (length-set p.core.regions r new))
      (one_region p.core.regions r g new at stray poked) (λ t. refl) (λ t k o e. e) refl refl refl

  strays : (r i mask : ℕ) (g : RegionState) → slice_get p.core.regions r ≡ Some g → q.core ≡ with_region p.core r (region_after (Poke i mask) g) → q.log ≡ p.log → q.audits ≡ p.audits
      → Goes w c p (Strays r i mask ∷ []) (after w c (Strays r i mask ∷ []) q.core) q
  strays r i mask g at is log audits =
      seen bases before w0 c p q run told (Strays r i mask) (with_region p.core r (region_after (Poke i mask) g)) refl is log audits
      (plain _ _ refl refl refl refl refl refl (length-set p.core.regions r (region_after (Poke i mask) g)))
      (plain_owes (Strays r i mask) _ tt refl (λ q' h at'. (poked_region p.core.regions r i mask g at).each q' h at') (λ b found e'. absurd (cc)) (λ u. refl) (λ u j o e. e) (refl, refl) (sym (append-nil p.core.system.refusals)) tt (λ e'. tt))
      told.flag (tt, tt)

  on_region : (r : ℕ) (x : RegionStep) (g : RegionState) (ds : List Deed) → AreOfCore w c p (OnRegion r x) ds → clears x ≡ false → slice_get p.core.regions r ≡ Some g
      → q.core ≡ with_region p.core r (region_after x g) → q.log ≡ p.log → q.audits ≡ p.audits → Goes w c p ds (after w c ds q.core) q
  on_region r (Latch t) g ds e other at is log audits = subst (λ es. Goes w c p es (after w c es q.core) q) (sym e) (changed_region r g (region_after (Latch t) g) at refl refl is log audits)
  on_region r (NoteReads mask) g ds e other at is log audits = subst (λ es. Goes w c p es (after w c es q.core) q) (sym e) (changed_region r g (region_after (NoteReads mask) g) at refl refl is log audits)
  on_region r (Update i value) g ds e other at is log audits = subst (λ es. Goes w c p es (after w c es q.core) q) (sym e) (changed_region r g (region_after (Update i value) g) at refl refl is log audits)
  on_region r TakeBack g ds e other at is log audits = subst (λ es. Goes w c p es (after w c es q.core) q) (sym e) (changed_region r g (region_after TakeBack g) at refl refl is log audits)
  on_region r (Poke i mask) g ds e other at is log audits = subst (λ es. Goes w c p es (after w c es q.core) q) (sym e) (strays r i mask g at is log audits)
  on_region r Check g ds e other at is log audits = subst (λ es. Goes w c p es (after w c es q.core) q) (sym e) (changed_region r g (region_after Check g) at refl refl is log audits)
  on_region r Die g ds e other at is log audits = subst (λ es. Goes w c p es (after w c es q.core) q) (sym e) (changed_region r g (region_after Die g) at refl refl is log audits)
  on_region r (Clean side) g ds e other at is log audits = absurd (cc)

  -- ---- an audit passes a region
  pass_answer : (r i : ℕ) (x : Pass) (o : Option RegionState) → slice_get (option_map_or (λ (g : RegionState). record { region = r; answer = g.stray } ∷ []) o []) i ≡ Some x
      → (g : RegionState) × (o ≡ Some g) × (x.region ≡ r) × (x.answer ≡ g.stray)
  pass_answer r i x None e = absurd (cc)
  pass_answer r zero x (Some g) e = (g, refl, ap (λ (y : Pass). y.region) (sym (some_same e)), ap (λ (y : Pass). y.answer) (sym (some_same e)))
  pass_answer r (suc i) x (Some g) e = absurd (cc)

  passed_now : (d : CoreState) (b r i : ℕ) (x : Pass) → IsLogged w b AuditBegin → slice_get (pass_now p.core r) i ≡ Some x → WasPassed (after w c [] d) b x
  passed_now d b r i x began e = record {
    place = length w0.happened;
    within = omega (arith, length-append w0.happened []);
    behind = omega (arith, slice_get_within (log_of w0) b AuditBegin began, ap (λ l. length (w0.before ++ logged_by l)) took);
    answer = λ g0 was.
        let h = pass_answer r i x (slice_get p.core.regions r) e in
        let here : slice_get p.core.regions x.region ≡ Some h.0 = ap (slice_get p.core.regions) h.2 ∙ h.1 in
        h.3 ∙ ((told.together.pokes x.region g0 h.0 was here).0 ∙ ap (stray_after x.region g0.stray) (sym took));
  }
    where
      took : take (length w0.happened) (w0.happened ++ []) ≡ w0.happened
      took = ap (take (length w0.happened)) (append-nil w0.happened) ∙ take_all (length w0.happened) w0.happened (omega arith)

  passes_more : (d : CoreState) (b r : ℕ) → PassesAreTold (after w c [] d) (audits_with p.audits b (p.audits b ++ pass_now p.core r))
  passes_more d b r b' i x since is at = by_test (b' == b) refl at
    where
      began : IsLogged w b' AuditBegin
      began = subst (λ l. slice_get l b' ≡ Some AuditBegin) (log_is w c [] d ∙ append-nil (log_of w)) is

      by_test : (test : Bool) → (b' == b) ≡ test → slice_get (if test then p.audits b ++ pass_now p.core r else p.audits b') i ≡ Some x → WasPassed (after w c [] d) b' x
      by_test true e there = ⊎_elim
          (λ h. passed_on w c [] d b' x (told.passes b' i x since began (ap (λ n. slice_get (p.audits n) i) (equal b' b e) ∙ h)))
          (λ h. passed_now d b' r h.0 x began h.1)
          (get_append_cases (p.audits b) (pass_now p.core r) i x there)
      by_test false e there = passed_on w c [] d b' x (told.passes b' i x since began there)

  passes : (b r : ℕ) (g : RegionState) → slice_get p.core.regions r ≡ Some g → q.core ≡ with_region p.core r (checked g) → q.log ≡ p.log
      → q.audits ≡ audits_with p.audits b (p.audits b ++ pass_now p.core r) → Goes w c p [] (after w c [] q.core) q
  passes b r g at is log audits =
      unseen bases before w0 c p q run told (with_region p.core r (checked g)) is log (plain _ _ refl refl refl refl refl refl (length-set p.core.regions r (checked g)))
      (one_region p.core.regions r g (checked g) at refl refl) (λ t. refl) (λ t k o e. e) refl refl refl refl refl
      (subst (λ A. PassesAreTold (after w c [] (with_region p.core r (checked g))) A) (sym audits) (passes_more (with_region p.core r (checked g)) b r))

  -- ---- deaths and claims
  dies : (t r : ℕ) → MayDie p.core t (Some r) → HasLookedFor w c (DiesOn t r) → q.core ≡ died p.core t (Some r) → q.log ≡ p.log → q.audits ≡ p.audits
      → Goes w c p (DiesOn t r ∷ []) (after w c (DiesOn t r ∷ []) q.core) q
  dies t r may right is log audits =
      let stays = dead_stays p.core.regions r in
      seen bases before w0 c p q run told (DiesOn t r) (died p.core t (Some r)) refl is log audits (plain _ _ refl refl refl refl refl refl stays.1)
      (plain_owes (DiesOn t r) _ tt refl (λ q' h at. stays.0.each q' h at) (λ b found e'. absurd (cc)) (λ u. new_state p.core.system.table t (with_state (Dead (Some r))) (Dead (Some r)) (λ row. refl) Live may.lives u) (λ u j o e. e) (refl, refl) (sym (append-nil p.core.system.refusals)) tt
      right)
      told.flag (tt, tt)

  claims : (t : ℕ) (o : Option ℕ) → state_of p.core.system t ≡ Some (Dead o) → q.core ≡ with_system p.core (in_state p.core.system t (Cleaning o)) → q.log ≡ p.log → q.audits ≡ p.audits → AreRightThen w c (ClaimsTxn t ∷ []) q.core
      → Goes w c p (ClaimsTxn t ∷ []) (after w c (ClaimsTxn t ∷ []) q.core) q
  claims t o dead_now is log audits right =
      seen bases before w0 c p q run told (ClaimsTxn t) (with_system p.core (in_state p.core.system t (Cleaning o))) refl is log audits (plain _ _ refl refl refl refl refl refl refl)
      (plain_owes (ClaimsTxn t) _ tt refl (λ r g at. (g, at, refl, refl)) (λ b found e'. absurd (cc)) (λ u. claim_state p.core.system.table t o dead_now u) (λ u j o e. e) (refl, refl) (sym (append-nil p.core.system.refusals)) tt (λ e'. tt))
      told.flag right

  gives_back : (t : ℕ) (o was : Option ℕ) → state_of p.core.system t ≡ Some (Cleaning was) → q.core ≡ with_system p.core (in_state p.core.system t (Dead o)) → q.log ≡ p.log → q.audits ≡ p.audits → AreRightThen w c (GivesTxnBack t o ∷ []) q.core
      → Goes w c p (GivesTxnBack t o ∷ []) (after w c (GivesTxnBack t o ∷ []) q.core) q
  gives_back t o was claimed_now is log audits right =
      seen bases before w0 c p q run told (GivesTxnBack t o) (with_system p.core (in_state p.core.system t (Dead o))) refl is log audits (plain _ _ refl refl refl refl refl refl refl)
      (plain_owes (GivesTxnBack t o) _ tt refl (λ r g at. (g, at, refl, refl)) (λ b found e'. absurd (cc)) (λ u. release_state p.core.system.table t o was claimed_now u) (λ u j o e. e) (refl, refl) (sym (append-nil p.core.system.refusals)) tt (λ e'. tt))
      told.flag right

  -- ---- flushes
  flushes : q.core ≡ with_vault p.core (longer p.core.vault (frame_of p.log p.core)) → p.core.vault.stopped ≡ false → q.log ≡ p.log → q.audits ≡ p.audits → Goes w c p [] (after w c [] q.core) q
  flushes is runs_on log audits =
      let l = longer_is p.core.vault (frame_of p.log p.core) in
      unseen bases before w0 c p q run told (with_vault p.core (longer p.core.vault (frame_of p.log p.core))) is log
      (record { core = record { sizes = refl; limit = refl; flushed = omega (arith, l.3); failed = λ e. l.1 ∙ e; sealed = λ e. let no : true ≡ false = sym e ∙ runs_on in absurd (cc); stop = λ z e. e; refusals = λ f h. h }; count = refl })
      (same_regions p.core.regions) (λ t. refl) (λ t k o e. e) l.0 l.1 l.2 refl refl (unseen_passes bases before w0 c p q run told _ audits)

  fails : (d : CoreState) (n : ℕ) → d.regions ≡ p.core.regions → d.system ≡ p.core.system → d.vault ≡ faulted p.core.vault n → p.core.vault.stopped ≡ false → HasRisen p.core.vault.faults n
      → q.core ≡ d → q.log ≡ p.log → q.audits ≡ p.audits → Goes w c p (Meets StoreFailed ∷ []) (after w c (Meets StoreFailed ∷ []) q.core) q
  fails d n regions system vault runs_on rose is log audits =
      seen bases before w0 c p q run told (Meets StoreFailed) (with_vault p.core (faulted p.core.vault n)) refl (is ∙ whole) log audits
      (record { core = record { sizes = refl; limit = refl; flushed = omega arith; failed = λ e. refl; sealed = λ e. refl; stop = λ z e. e; refusals = λ f h. h }; count = refl })
      (plain_owes (Meets StoreFailed) _ tt refl (λ r g at. (g, at, refl, refl)) (λ b found e'. absurd (cc)) (λ u. refl) (λ u j o e. e) (runs_on, refl, rose) (sym (append-nil p.core.system.refusals)) tt (λ e'. tt))
      told.flag (tt, tt)
    where
      whole : d ≡ with_vault p.core (faulted p.core.vault n)
      whole = rw (regions, system, vault) refl

-- ---- a refusal, for which the core makes no step
pub meets : (w0 : World) (c : ℕ) (p : Point) (why : Why) → Tells (record w0 { core = p.core }) p → IsNoFault why → AreRightThen (record w0 { core = p.core }) c (Meets why ∷ []) p.core
    → Goes (record w0 { core = p.core }) c p (Meets why ∷ []) (after w0 c (Meets why ∷ []) p.core) p
meets w0 c p why told none right =
    goes_by (record w0 { core = p.core }) c p p told (Meets why ∷ []) p.core refl on (sym (append-nil p.log))
    (by_deed (record w0 { core = p.core }) c p p told (Meets why) p.core on owes)
    told.flag
    (passes_on (record w0 { core = p.core }) c (Meets why ∷ []) p.core p.audits (λ b at. subst (λ l. slice_get l b ≡ Some AuditBegin) (log_is (record w0 { core = p.core }) c (Meets why ∷ []) p.core ∙ append-nil (log_of w0)) at) told.passes)
    right
  where
    on : Onward p.core p.core
    on = plain p.core p.core refl refl refl refl refl refl refl

    fault : (y : Why) → IsNoFault y → FaultsBy (record w0 { core = p.core }) (after w0 c (Meets y ∷ []) p.core) (Meets y)
    fault (StoppedBy cause) h = (refl, refl)
    fault (Full end limit) h = (refl, refl)
    fault (Damaged region codeword found) h = (refl, refl)
    fault UnderWay h = (refl, refl)
    fault StoreFailed h = absurd h

    owes : Owes (record w0 { core = p.core }) (after w0 c (Meets why ∷ []) p.core) c (Meets why)
    owes = record {
      span = tt;
      anchor = refl;
      poke = λ r h at. (h, at, refl, refl);
      verdict = λ b found e. absurd (cc);
      state = λ t. refl;
      lock = λ t k o h. h;
      fault = fault why none;
      refusal = sym (append-nil p.core.system.refusals);
      room = tt;
      right = λ e. tt;
    }

-- ---- each kind of step
module _ (bases : Bases) (before : List Record) (w0 : World) (c : ℕ) (p q : Point) (run : StoreRun bases before no_image p) (told : Tells (record w0 { core = p.core }) p) where
  at_core : (x : Step) (ds : List Deed) → is_of_checkpoint x ≡ false → IsStepAt (moment_of p) x (moment_of q) → AreOfCore (record w0 { core = p.core }) c p x ds → AreRightThen (record w0 { core = p.core }) c ds q.core
      → Goes (record w0 { core = p.core }) c p ds (after w0 c ds q.core) q
  at_core Begins ds other (s, audits) e right = subst (λ es. Goes (record w0 { core = p.core }) c p es (after w0 c es q.core) q) (sym e) (begins bases before w0 c p q run told s.0 s.1.1 s.1.0 audits (subst (λ es. AreRightThen (record w0 { core = p.core }) c es q.core) e right))
  at_core (Operates t b) ds other (s, audits) e right = subst (λ es. Goes (record w0 { core = p.core }) c p es (after w0 c es q.core) q) (sym e.0) (operates bases before w0 c p q run told t b s.0 s.1 s.2.at e.1 s.3.1 s.3.0 audits (subst (λ es. AreRightThen (record w0 { core = p.core }) c es q.core) e.0 right))
  at_core (TakesBack t b) ds other (s, audits) e right = subst (λ es. Goes (record w0 { core = p.core }) c p es (after w0 c es q.core) q) (sym e) (takes_back bases before w0 c p q run told t b s.0 s.1.at s.2.1 s.2.0 audits (subst (λ es. AreRightThen (record w0 { core = p.core }) c es q.core) e right))
  at_core (Frees t b) ds other (s, audits) e right = subst (λ es. Goes (record w0 { core = p.core }) c p es (after w0 c es q.core) q) (sym e) (frees bases before w0 c p q run told t b s.0 s.1.at s.2.1 s.2.0 audits (subst (λ es. AreRightThen (record w0 { core = p.core }) c es q.core) e right))
  at_core (Answers t k a) ds other (s, audits) e right = subst (λ es. Goes (record w0 { core = p.core }) c p es (after w0 c es q.core) q) (sym e) (answers bases before w0 c p q run told t k a s.0 s.3.1 s.3.0 audits (subst (λ es. AreRightThen (record w0 { core = p.core }) c es q.core) e right))
  at_core (Commits t) ds other (s, audits) e right = subst (λ es. Goes (record w0 { core = p.core }) c p es (after w0 c es q.core) q) (sym e) (commits bases before w0 c p q run told t s.1.by s.2.1 s.2.0 audits (subst (λ es. AreRightThen (record w0 { core = p.core }) c es q.core) e right))
  at_core (Ends t) ds other (s, audits) e right = subst (λ es. Goes (record w0 { core = p.core }) c p es (after w0 c es q.core) q) (sym e) (ends_txn bases before w0 c p q run told t s.2.1 s.2.0 audits (subst (λ es. AreRightThen (record w0 { core = p.core }) c es q.core) e right))
  at_core AuditBegins ds other (s, audits) e right = subst (λ es. Goes (record w0 { core = p.core }) c p es (after w0 c es q.core) q) (sym e) (audit_begins bases before w0 c p q run told s.1 s.2.1 s.2.0 audits (subst (λ es. AreRightThen (record w0 { core = p.core }) c es q.core) e right))
  at_core (AuditEnds b found) ds other (s, audits) e right = subst (λ es. Goes (record w0 { core = p.core }) c p es (after w0 c es q.core) q) (sym e.0) (audit_ends bases before w0 c p q run told b found e.1 (s, audits) s.0.runs s.1.1 s.1.0 audits.1 (subst (λ es. AreRightThen (record w0 { core = p.core }) c es q.core) e.0 right))
  at_core (Locks t k m) ds other (s, audits) e right = ⊎_elim
      (λ f. subst (λ es. Goes (record w0 { core = p.core }) c p es (after w0 c es q.core) q) (sym f) (quiet bases before w0 c p q run told (with_system p.core (granted p.core.system t k m)) s.2.1 s.2.0 audits (plain _ _ refl refl refl refl refl refl refl) (same_regions p.core.regions) (λ u. refl) (λ u j o h. untold_lock p.core.system.locks t k m u j o h) refl refl refl))
      (λ f. subst (λ es. Goes (record w0 { core = p.core }) c p es (after w0 c es q.core) q) (sym f) (gets_lock bases before w0 c p q run told t k m s.2.1 s.2.0 audits (subst (λ es. AreRightThen (record w0 { core = p.core }) c es q.core) f right)))
      e
  at_core (Refuses t k m h) ds other (s, audits) e right = ⊎_elim
      (λ f. subst (λ es. Goes (record w0 { core = p.core }) c p es (after w0 c es q.core) q) (sym f) (refuses bases before w0 c p q run told t k m h _ (inl refl) s.2.1 s.2.0 audits (subst (λ es. AreRightThen (record w0 { core = p.core }) c es q.core) f right)))
      (λ f. subst (λ es. Goes (record w0 { core = p.core }) c p es (after w0 c es q.core) q) (sym f) (refuses bases before w0 c p q run told t k m h _ (inr refl) s.2.1 s.2.0 audits (subst (λ es. AreRightThen (record w0 { core = p.core }) c es q.core) f right)))
      e
  at_core (OnRegion r x) ds other (s, audits) e right = on_region bases before w0 c p q run told r x s.0 ds e other s.1 s.3.1 s.3.0 audits
  at_core (Passes b r) ds other (s, audits) e right = subst (λ es. Goes (record w0 { core = p.core }) c p es (after w0 c es q.core) q) (sym e) (passes bases before w0 c p q run told b r s.0 s.1 s.2.1 s.2.0 audits.1)
  at_core (Dies t None) ds other (s, audits) e right = absurd e
  at_core (Dies t (Some r)) ds other (s, audits) e right = subst (λ es. Goes (record w0 { core = p.core }) c p es (after w0 c es q.core) q) (sym e.0) (dies bases before w0 c p q run told t r s.0 e.1 s.1.1 s.1.0 audits)
  at_core (Claims t) ds other (s, audits) e right = subst (λ es. Goes (record w0 { core = p.core }) c p es (after w0 c es q.core) q) (sym e) (claims bases before w0 c p q run told t s.0 s.1 s.2.1 s.2.0 audits (subst (λ es. AreRightThen (record w0 { core = p.core }) c es q.core) e right))
  at_core (GivesBack t o) ds other (s, audits) e right = subst (λ es. Goes (record w0 { core = p.core }) c p es (after w0 c es q.core) q) (sym e) (gives_back bases before w0 c p q run told t o s.0.was s.0.claimed s.1.1 s.1.0 audits (subst (λ es. AreRightThen (record w0 { core = p.core }) c es q.core) e right))
  at_core (Recovers r) ds other (s, audits) e right = subst (λ es. Goes (record w0 { core = p.core }) c p es (after w0 c es q.core) q) (sym e) (changed_region bases before w0 c p q run told r s.0 (taken_back s.0) s.1 refl refl s.3.1 s.3.0 audits)
  at_core Stops ds other (s, audits) e right = subst (λ es. Goes (record w0 { core = p.core }) c p es (after w0 c es q.core) q) (sym e)
      (quiet bases before w0 c p q run told (with_system p.core (store_stopped p.core.system)) s.1.1 s.1.0 audits
      (record { core = record { sizes = refl; limit = refl; flushed = omega arith; failed = λ f. f; sealed = λ f. refl; stop = λ z f. keeps_stop p.core.system.stop z f; refusals = λ g h. h }; count = refl })
      (same_regions p.core.regions) (λ u. refl) (λ u j o h. h) refl refl refl)
  at_core (Checkpoints b) ds other (s, audits) e right = absurd (cc)
  at_core Takes ds other (s, audits) e right = subst (λ es. Goes (record w0 { core = p.core }) c p es (after w0 c es q.core) q) (sym e) (quiet bases before w0 c p q run told (with_system p.core (taken p.core.system)) s.1 s.0 audits (plain _ _ refl refl refl refl refl refl refl) (same_regions p.core.regions) (λ u. refl) (λ u j o h. h) refl refl refl)
  at_core Flushes ds other (s, audits) e right = subst (λ es. Goes (record w0 { core = p.core }) c p es (after w0 c es q.core) q) (sym e) (flushes bases before w0 c p q run told s.1.1 s.0 s.1.0 audits)
  at_core (Faults n) ds other (s, audits) e right = subst (λ es. Goes (record w0 { core = p.core }) c p es (after w0 c es q.core) q) (sym e) (fails bases before w0 c p q run told (with_vault p.core (faulted p.core.vault n)) n refl refl refl s.0 s.1 s.2.1 s.2.0 audits)
  at_core (ReadFails n) ds other (s, audits) e right = absurd e

  -- ---- with its store: one that leaves the core
  left : (ds : List Deed) → ds ≡ [] → q.core ≡ p.core → q.log ≡ p.log → q.audits ≡ p.audits → Goes (record w0 { core = p.core }) c p ds (after w0 c ds q.core) q
  left ds e is log audits = subst (λ es. Goes (record w0 { core = p.core }) c p es (after w0 c es q.core) q) (sym e)
      (quiet bases before w0 c p q run told p.core is log audits (plain _ _ refl refl refl refl refl refl refl) (same_regions p.core.regions) (λ u. refl) (λ u j o h. h) refl refl refl)

  starts : p.core.system.checking ≡ false → q.core ≡ with_flag p.core true → q.log ≡ p.log → q.audits ≡ p.audits
      → Goes (record w0 { core = p.core }) c p (StartsCheckpoint ∷ []) (after w0 c (StartsCheckpoint ∷ []) q.core) q
  starts off is log audits =
      seen bases before w0 c p q run told StartsCheckpoint (with_flag p.core true) refl is log audits (plain _ _ refl refl refl refl refl refl refl)
      (plain_owes bases before w0 c p q run told StartsCheckpoint _ (none_of_test (under_way w0.happened) (sym told.flag ∙ off)) refl (λ r g at. (g, at, refl, refl)) (λ b found e'. absurd (cc)) (λ u. refl) (λ u j o e. e) (refl, refl) (sym (append-nil p.core.system.refusals)) tt (λ e'. tt))
      refl (tt, tt)

  finishes : under_way w0.happened ≡ Some c → q.core ≡ with_flag p.core false → q.log ≡ p.log → q.audits ≡ p.audits
      → Goes (record w0 { core = p.core }) c p (EndsCheckpoint ∷ []) (after w0 c (EndsCheckpoint ∷ []) q.core) q
  finishes own is log audits =
      seen bases before w0 c p q run told EndsCheckpoint (with_flag p.core false) refl is log audits (plain _ _ refl refl refl refl refl refl refl)
      (plain_owes bases before w0 c p q run told EndsCheckpoint _ own refl (λ r g at. (g, at, refl, refl)) (λ b found e'. absurd (cc)) (λ u. refl) (λ u j o e. e) (refl, refl) (sym (append-nil p.core.system.refusals)) tt (λ e'. tt))
      refl (tt, tt)

  turns : q.core ≡ with_current p.core → q.log ≡ p.log → q.audits ≡ p.audits
      → Goes (record w0 { core = p.core }) c p (MovesAnchor (p.core.vault.current + 1) ∷ []) (after w0 c (MovesAnchor (p.core.vault.current + 1) ∷ []) q.core) q
  turns is log audits =
      seen bases before w0 c p q run told (MovesAnchor (p.core.vault.current + 1)) (with_current p.core) refl is log audits
      (record { core = record { sizes = refl; limit = refl; flushed = omega arith; failed = λ e. e; sealed = λ e. refl; stop = λ z e. e; refusals = λ f h. h }; count = refl })
      (plain_owes bases before w0 c p q run told (MovesAnchor (p.core.vault.current + 1)) _ tt (refl, refl) (λ r g at. (g, at, refl, refl)) (λ b found e'. absurd (cc)) (λ u. refl) (λ u j o e. e) (refl, refl) (sym (append-nil p.core.system.refusals)) tt (λ e'. tt))
      told.flag (tt, tt)

  faults_in : (ds : List Deed) (n : ℕ) → ds ≡ Meets StoreFailed ∷ [] → IsFault p n → q.core ≡ with_fault p.core n → q.log ≡ p.log → q.audits ≡ p.audits
      → Goes (record w0 { core = p.core }) c p ds (after w0 c ds q.core) q
  faults_in ds n e fault is log audits = subst (λ es. Goes (record w0 { core = p.core }) c p es (after w0 c es q.core) q) (sym e)
      (fails bases before w0 c p q run told (with_fault p.core n) n refl refl refl fault.may.runs fault.rose is log audits)

  at_store : (x : StoreStep) (ds : List Deed) → IsPointStep p x q → AreOf (record w0 { core = p.core }) c p x ds → AreRightThen (record w0 { core = p.core }) c ds q.core → Goes (record w0 { core = p.core }) c p ds (after w0 c ds q.core) q
  at_store (Does x) ds h e right = at_core x ds h.0 h.1 e right
  at_store Starts ds h e right = subst (λ es. Goes (record w0 { core = p.core }) c p es (after w0 c es q.core) q) (sym e) (starts h.0 (ap (λ (k : Point). k.core) h.1) (ap (λ (k : Point). k.log) h.1) (ap (λ (k : Point). k.audits) h.1))
  at_store Keeps ds h e right = left ds e (ap (λ (k : Point). k.core) h.4) (ap (λ (k : Point). k.log) h.4) (ap (λ (k : Point). k.audits) h.4)
  at_store (Copies r n) ds h e right = subst (λ es. Goes (record w0 { core = p.core }) c p es (after w0 c es q.core) q) (sym e)
      (let k = cleaned_is (target p) h.0 in changed_region bases before w0 c p q run told r h.0 (cleaned (target p) h.0) h.1 k.0 k.1 (ap (λ (z : Point). z.core) h.5) (ap (λ (z : Point). z.log) h.5) (ap (λ (z : Point). z.audits) h.5))
  at_store (Skips r n) ds h e right = left ds e (ap (λ (k : Point). k.core) h.5) (ap (λ (k : Point). k.log) h.5) (ap (λ (k : Point). k.audits) h.5)
  at_store (WritesHead head) ds h e right = left ds e (ap (λ (k : Point). k.core) h.1) (ap (λ (k : Point). k.log) h.1) (ap (λ (k : Point). k.audits) h.1)
  at_store Syncs ds h e right = left ds e (ap (λ (k : Point). k.core) h.1) (ap (λ (k : Point). k.log) h.1) (ap (λ (k : Point). k.audits) h.1)
  at_store Turns ds h e right = subst (λ es. Goes (record w0 { core = p.core }) c p es (after w0 c es q.core) q) (sym e) (turns (ap (λ (k : Point). k.core) h.5) (ap (λ (k : Point). k.log) h.5) (ap (λ (k : Point). k.audits) h.5))
  at_store (CopyFails r ws n) ds h e right = faults_in ds n e h.3 (ap (λ (k : Point). k.core) h.4) (ap (λ (k : Point). k.log) h.4) (ap (λ (k : Point). k.audits) h.4)
  at_store (HeadFails head n) ds h e right = faults_in ds n e h.0 (ap (λ (k : Point). k.core) h.1) (ap (λ (k : Point). k.log) h.1) (ap (λ (k : Point). k.audits) h.1)
  at_store (SyncFails n) ds h e right = faults_in ds n e h.0 (ap (λ (k : Point). k.core) h.1) (ap (λ (k : Point). k.log) h.1) (ap (λ (k : Point). k.audits) h.1)
  at_store (TurnFails n) ds h e right = faults_in ds n e h.3 (ap (λ (k : Point). k.core) h.5) (ap (λ (k : Point). k.log) h.5) (ap (λ (k : Point). k.audits) h.5)
  at_store Finishes ds h e right = subst (λ es. Goes (record w0 { core = p.core }) c p es (after w0 c es q.core) q) (sym e.0) (finishes e.1 (ap (λ (k : Point). k.core) h.1) (ap (λ (k : Point). k.log) h.1) (ap (λ (k : Point). k.audits) h.1))

-- for any world that tells of the point
pub step_tells : StepTells
step_tells bases before w c p q x ds run told step are right =
    let same_world : record w { core = p.core } ≡ w = ap (λ k. record w { core = k }) (sym told.core) in
    subst (λ (v : World). Goes v c p ds (after w c ds q.core) q) same_world
    (at_store bases before w c p q run (subst (λ (v : World). Tells v p) (sym same_world) told) x ds step (subst (λ (v : World). AreOf v c p x ds) (sym same_world) are) right)
