-- What only grows along steps, what the anchor tells, and what a fault leaves.
use Rattle.std.proofs.Common.{◌≡◌, ℕ, ◌+◌, true, false, List, [], ◌∷◌, Some, None, refl, ap, sym, subst, ◌∙◌, inl, inr, ⊎_elim, arith}
use Rattle.std.specs.Prelude.{◌⊎◌, slice_get}
use Rattle.dali_lists.proofs.Options.{some_same}
use Rattle.dali_record.specs.declared.records.Record.{Record}
use Rattle.dali_record.specs.Files.{Files}
use Rattle.dali_region.specs.State.{RegionState}
use Rattle.dali_region.specs.Answers.{is_dirty}
use Rattle.dali_runs.specs.State.{CoreState}
use Rattle.dali_runs.specs.Courses.{Step, Flushes, Faults, CameBy}
use Rattle.dali_runs.specs.ImageSteps.{told_with}
use Rattle.dali_crash.specs.Checkpoints.{Head, MayWrite, MayTurn, Point, StoreStep, Does, Starts, Keeps, Copies, Skips, WritesHead, Syncs, Turns, CopyFails, HeadFails, SyncFails, TurnFails, Finishes, target, head_with, synced_with, copies_with, copies_after, IsTurnedFrom, IsOverwritten, with_fault, Came, Inside, IsPointStep, Traced, moment_of, turned}
use Rattle.dali_crash.proofs.StepLeaves.{vault_goes}
use Rattle.dali_crash.specs.Disks.Growth.{IsNextOrNow, IsAnchored, AnchorTells, AnchorTellsInside, fault_of, calls_store, MayFail, EachCallMayFail, OthersNeverFail, IsLeftByFault, InsideIsFault, FaultIsInside, QuietInside}
use Rattle.dali_crash.proofs.Traces.{risen}
use Rattle.dali_crash.specs.Traces.{Start, StartsAt, start_point}

-- ---- the vault

-- who runs behind a step ran before it
pub point_runs : (p q : Point) (x : StoreStep) → IsPointStep p x q → q.core.vault.stopped ≡ false → p.core.vault.stopped ≡ false
point_runs p q (Does x) s h = (vault_goes (moment_of p) (moment_of q) x s.1).runs h
point_runs p q Starts s h = sym (ap (λ (z : Point). z.core.vault.stopped) s.1) ∙ h
point_runs p q Keeps s h = s.0
point_runs p q (Copies r n) s h = s.2.runs
point_runs p q (Skips r n) s h = sym (ap (λ (z : Point). z.core.vault.stopped) s.5) ∙ h
point_runs p q (WritesHead k) s h = s.0.runs
point_runs p q Syncs s h = s.0.runs
point_runs p q Turns s h = s.3.runs
point_runs p q (CopyFails r ws n) s h = s.3.may.runs
point_runs p q (HeadFails k n) s h = s.0.may.runs
point_runs p q (SyncFails n) s h = s.0.may.runs
point_runs p q (TurnFails n) s h = s.3.may.runs
point_runs p q Finishes s h = sym (ap (λ (z : Point). z.core.vault.stopped) s.1) ∙ h

abbrev current_of : Point → ℕ
current_of z = z.core.vault.current

-- ---- the anchor
core_gates : (L : List Record) (c : CoreState) (x : Step) (D F : Files) → CameBy L c x D F → F.gates ≡ D.gates
core_gates L c Flushes D F came = ap (λ (f : Files). f.gates) came
core_gates L c (Faults n) D F came = ⊎_elim (λ e. ap (λ (f : Files). f.gates) e) (λ e. ap (λ (f : Files). f.gates) e) came
core_gates L c x D F came = ap (λ (f : Files). f.gates) came

overwritten_gates : (p : Point) (D F : Files) → (F ≡ D) ⊎ IsOverwritten (target p) D F → F.gates ≡ D.gates
overwritten_gates p D F came = ⊎_elim (λ e. ap (λ (f : Files). f.gates) e) (λ o. o.2) came

turned_gates : (p : Point) (D F : Files) → IsTurnedFrom p D F → F.gates ≡ D.gates + 1
turned_gates p D F t = ap (λ (f : Files). f.gates) t.3

-- the gates and the current number are as before
still : (p q : Point) (D F : Files) → (q.core.vault.stopped ≡ false → p.core.vault.stopped ≡ false) → q.core.vault.current ≡ p.core.vault.current → F.gates ≡ D.gates → IsAnchored p D → IsAnchored q F
still p q D F runs current gates was = record {
  running = λ h. gates ∙ (was.running (runs h) ∙ sym current);
  always = ⊎_elim (λ e. inl (omega (arith, e, gates, current))) (λ e. inr (omega (arith, e, gates, current))) was.always;
}

anchored_step : (p q : Point) (x : StoreStep) (D F : Files) → IsPointStep p x q → Came p x D F → IsAnchored p D → IsAnchored q F
anchored_step p q (Does x) D F s came was = still p q D F (point_runs p q (Does x) s) (vault_goes (moment_of p) (moment_of q) x s.1).current (core_gates p.log p.core x D F came) was
anchored_step p q Starts D F s came was = still p q D F (point_runs p q Starts s) (ap current_of s.1) (ap (λ (f : Files). f.gates) came) was
anchored_step p q Keeps D F s came was = still p q D F (point_runs p q Keeps s) (ap current_of s.4) (ap (λ (f : Files). f.gates) came) was
anchored_step p q (Copies r n) D F s came was = still p q D F (point_runs p q (Copies r n) s) (ap current_of s.5) (overwritten_gates p D F came) was
anchored_step p q (Skips r n) D F s came was = still p q D F (point_runs p q (Skips r n) s) (ap current_of s.5) (ap (λ (f : Files). f.gates) came) was
anchored_step p q (WritesHead h) D F s came was = still p q D F (point_runs p q (WritesHead h) s) (ap current_of s.1) (overwritten_gates p D F came) was
anchored_step p q Syncs D F s came was = still p q D F (point_runs p q Syncs s) (ap current_of s.1) (ap (λ (f : Files). f.gates) came) was
anchored_step p q (CopyFails r ws n) D F s came was = still p q D F (point_runs p q (CopyFails r ws n) s) (ap current_of s.4) (overwritten_gates p D F came) was
anchored_step p q (HeadFails h n) D F s came was = still p q D F (point_runs p q (HeadFails h n) s) (ap current_of s.1) (overwritten_gates p D F came) was
anchored_step p q (SyncFails n) D F s came was = still p q D F (point_runs p q (SyncFails n) s) (ap current_of s.1) (ap (λ (f : Files). f.gates) came) was
anchored_step p q Finishes D F s came was = still p q D F (point_runs p q Finishes s) (ap current_of s.1) (ap (λ (f : Files). f.gates) came) was
anchored_step p q Turns D F s came was =
    let now : q.core.vault.current ≡ p.core.vault.current + 1 = ap current_of s.5 in
    let next : F.gates ≡ q.core.vault.current = omega (arith, turned_gates p D F came, was.running s.3.runs, now) in
    record { running = λ h. next; always = inl next }
anchored_step p q (TurnFails n) D F s came was =
    let same : q.core.vault.current ≡ p.core.vault.current = ap current_of s.5 in
    let here : D.gates ≡ p.core.vault.current = was.running s.3.may.runs in
    let halted : q.core.vault.stopped ≡ true = ap (λ (z : Point). z.core.vault.stopped) s.5 in
    record {
      running = λ h. absurd (cc);
      always = ⊎_elim (λ e. inl (ap (λ (f : Files). f.gates) e ∙ (here ∙ sym same))) (λ t. inr (omega (arith, turned_gates p D F t, here, same))) came;
    }

anchored_along : (p q : Point) (D F : Files) (xs : List StoreStep) → IsAnchored p D → Traced p D xs q F → IsAnchored q F
anchored_along p q D F [] was t = subst (λ (r : Point). IsAnchored r F) t.0 (subst (IsAnchored p) t.1 was)
anchored_along p q D F (x ∷ xs) was t = anchored_along t.0 q t.1 F xs (anchored_step p t.0 x D t.1 t.2 t.3 was) t.4

anchored_start : (s : Start) (D : Files) → StartsAt s D → IsAnchored (start_point s) D
anchored_start s D from = record { running = λ h. from.rests.current; always = inl from.rests.current }

pub anchor_tells : AnchorTells
anchor_tells s D from xs p F t = anchored_along (start_point s) p D F xs (anchored_start s D from) t

pub anchor_tells_inside : AnchorTellsInside
anchor_tells_inside s D from xs p E t x q F step inside = ⊎_elim (λ e. before F e) (by_step x step) inside
  where
    was : IsAnchored p E
    was = anchor_tells s D from xs p E t

    as_was : (G : Files) → G.gates ≡ E.gates → IsNextOrNow G.gates p.core.vault.current
    as_was G e = ⊎_elim (λ w. inl (e ∙ w)) (λ w. inr (e ∙ w)) was.always

    before : (G : Files) → G ≡ E → IsNextOrNow G.gates p.core.vault.current
    before G e = as_was G (ap (λ (f : Files). f.gates) e)

    moved : p.core.vault.stopped ≡ false → IsTurnedFrom p E F → IsNextOrNow F.gates p.core.vault.current
    moved runs turned = inr (omega (arith, turned_gates p E F turned, was.running runs))

    by_step : (y : StoreStep) → IsPointStep p y q → Came p y E F → IsNextOrNow F.gates p.core.vault.current
    by_step (Does y) s came = as_was F (core_gates p.log p.core y E F came)
    by_step (Copies r n) s came = as_was F (overwritten_gates p E F came)
    by_step (WritesHead h) s came = as_was F (overwritten_gates p E F came)
    by_step (CopyFails r ws k) s came = as_was F (overwritten_gates p E F came)
    by_step (HeadFails h k) s came = as_was F (overwritten_gates p E F came)
    by_step Turns s came = moved s.3.runs came
    by_step (TurnFails k) s came = ⊎_elim (λ e. before F e) (λ w. moved s.3.may.runs w) came
    by_step y s came = before F came

-- ---- what a fault of a write leaves
abbrev copy_failed : Point → ℕ → List ℕ → ℕ → Point
copy_failed p r ws n = record { log = p.log; core = with_fault p.core n; audits = p.audits; told = told_with p.told (target p) r ws; heads = p.heads; synced = synced_with p.synced (target p) false; begun = p.begun; copies = copies_with p.copies (target p) r None }

abbrev head_failed : Point → Head → ℕ → Point
head_failed p h n = record { log = p.log; core = with_fault p.core n; audits = p.audits; told = p.told; heads = head_with p.heads (target p) h; synced = synced_with p.synced (target p) false; begun = p.begun; copies = p.copies }

-- ---- inside a step
pub inside_is_fault : InsideIsFault
inside_is_fault p q x D F s inside = ⊎_elim (λ e. inl e) (by_step x s) inside
  where
    c : CoreState
    c = p.core

    n : ℕ
    n = c.vault.faults + 1

    in_core : (y : Step) → IsPointStep p (Does y) q → CameBy p.log c y D F → (F ≡ D) ⊎ IsLeftByFault p (Does y) D F
    in_core Flushes st came = inr (record {
      words = [];
      faults = n;
      step = Does (Faults n);
      is_fault = refl;
      behind = record { log = p.log; core = with_fault c n; audits = p.audits; told = p.told; heads = p.heads; synced = p.synced; begun = p.begun; copies = copies_after c (Faults n) p.copies };
      leads = (refl, ((st.1.0.0, risen c.vault.faults, (refl, refl)), refl), refl);
      came = inr came;
    })
    in_core (Faults k) st came = inr (record { words = []; faults = k; step = Does (Faults k); is_fault = refl; behind = q; leads = st; came = came })
    in_core y st came = inl came

    by_step : (y : StoreStep) → IsPointStep p y q → Came p y D F → (F ≡ D) ⊎ IsLeftByFault p y D F
    by_step (Does y) st came = in_core y st came
    by_step (Copies r m) st came = inr (record {
      words = [];
      faults = n;
      step = CopyFails r [] n;
      is_fault = refl;
      behind = copy_failed p r [] n;
      leads = (st.0, st.1, st.3, record { may = st.2; rose = risen c.vault.faults }, refl);
      came = came;
    })
    by_step (WritesHead h) st came = inr (record {
      words = [];
      faults = n;
      step = HeadFails h n;
      is_fault = refl;
      behind = head_failed p h n;
      leads = (record { may = st.0; rose = risen c.vault.faults }, refl);
      came = came;
    })
    by_step Turns st came = inr (record {
      words = [];
      faults = n;
      step = TurnFails n;
      is_fault = refl;
      behind = record { log = p.log; core = with_fault c n; audits = p.audits; told = p.told; heads = p.heads; synced = p.synced; begun = None; copies = p.copies };
      leads = (st.0, st.1, st.2, record { may = st.3; rose = risen c.vault.faults }, st.4, refl);
      came = inr came;
    })
    by_step (CopyFails r ws k) st came = inr (record { words = ws; faults = k; step = CopyFails r ws k; is_fault = refl; behind = q; leads = st; came = came })
    by_step (HeadFails h k) st came = inr (record { words = []; faults = k; step = HeadFails h k; is_fault = refl; behind = q; leads = st; came = came })
    by_step (TurnFails k) st came = inr (record { words = []; faults = k; step = TurnFails k; is_fault = refl; behind = q; leads = st; came = came })
    by_step y st came = inl came

pub fault_is_inside : FaultIsInside
fault_is_inside p x y ws n D F e came = by_step x e
  where
    fault_in_core : (z : Step) → fault_of (Does z) ws n ≡ Some y → Inside p (Does z) D F
    fault_in_core Flushes f = subst (λ (w : StoreStep). Came p w D F) (sym (some_same f)) came
    fault_in_core (Faults k) f = inr (subst (λ (w : StoreStep). Came p w D F) (sym (some_same f)) came)
    fault_in_core z f = absurd (cc)

    by_step : (z : StoreStep) → fault_of z ws n ≡ Some y → Inside p z D F
    by_step (Does z) f = fault_in_core z f
    by_step (Copies r m) f = inr (subst (λ (w : StoreStep). Came p w D F) (sym (some_same f)) came)
    by_step (CopyFails r us k) f = inr (subst (λ (w : StoreStep). Came p w D F) (sym (some_same f)) came)
    by_step (WritesHead h) f = inr (subst (λ (w : StoreStep). Came p w D F) (sym (some_same f)) came)
    by_step (HeadFails h k) f = inr (subst (λ (w : StoreStep). Came p w D F) (sym (some_same f)) came)
    by_step Syncs f = inr (subst (λ (w : StoreStep). Came p w D F) (sym (some_same f)) came)
    by_step (SyncFails k) f = inr (subst (λ (w : StoreStep). Came p w D F) (sym (some_same f)) came)
    by_step Turns f = subst (λ (w : StoreStep). Came p w D F) (sym (some_same f)) came
    by_step (TurnFails k) f = inr (subst (λ (w : StoreStep). Came p w D F) (sym (some_same f)) came)
    by_step z f = absurd (cc)

pub quiet_inside : QuietInside
quiet_inside p x D F e inside = ⊎_elim (λ same. same) (by_step x e) inside
  where
    in_core : (z : Step) → fault_of (Does z) [] 0 ≡ None → CameBy p.log p.core z D F → F ≡ D
    in_core Flushes f came = absurd (cc)
    in_core (Faults k) f came = absurd (cc)
    in_core z f came = came

    by_step : (z : StoreStep) → fault_of z [] 0 ≡ None → Came p z D F → F ≡ D
    by_step (Does z) f came = in_core z f came
    by_step Starts f came = came
    by_step Keeps f came = came
    by_step (Skips r m) f came = came
    by_step Finishes f came = came
    by_step z f came = absurd (cc)

-- ---- each call may fail
pub each_call_may_fail : EachCallMayFail
each_call_may_fail p q x ws n s calls rose = by_step x s calls
  where
    c : CoreState
    c = p.core

    in_flush : (y : Step) → fault_of (Does y) ws n ≡ Some (Does (Faults n)) → p.core.vault.stopped ≡ false → MayFail p (Does y) ws n
    in_flush y is runs = record {
      step = Does (Faults n);
      is_fault = is;
      behind = record { log = p.log; core = with_fault c n; audits = p.audits; told = p.told; heads = p.heads; synced = p.synced; begun = p.begun; copies = copies_after c (Faults n) p.copies };
      leads = (refl, ((runs, rose, (refl, refl)), refl), refl);
      vault = refl;
    }

    in_copy : (y : StoreStep) (r : ℕ) (g : RegionState) → fault_of y ws n ≡ Some (CopyFails r ws n) → slice_get p.core.regions r ≡ Some g → is_dirty g (target p) ≡ true → MayWrite p → MayFail p y ws n
    in_copy y r g is at dirty may = record {
      step = CopyFails r ws n;
      is_fault = is;
      behind = copy_failed p r ws n;
      leads = (g, at, dirty, record { may = may; rose = rose }, refl);
      vault = refl;
    }

    in_head : (y : StoreStep) (h : Head) → fault_of y ws n ≡ Some (HeadFails h n) → MayWrite p → MayFail p y ws n
    in_head y h is may = record {
      step = HeadFails h n;
      is_fault = is;
      behind = head_failed p h n;
      leads = (record { may = may; rose = rose }, refl);
      vault = refl;
    }

    in_sync : (y : StoreStep) → fault_of y ws n ≡ Some (SyncFails n) → MayWrite p → MayFail p y ws n
    in_sync y is may = record {
      step = SyncFails n;
      is_fault = is;
      behind = record { log = p.log; core = with_fault c n; audits = p.audits; told = p.told; heads = p.heads; synced = p.synced; begun = p.begun; copies = p.copies };
      leads = (record { may = may; rose = rose }, refl);
      vault = refl;
    }

    in_turn : (y : StoreStep) (h : Head) (b k : ℕ) → fault_of y ws n ≡ Some (TurnFails n) → MayWrite p → MayTurn p h b k → MayFail p y ws n
    in_turn y h b k is may turn = record {
      step = TurnFails n;
      is_fault = is;
      behind = record { log = p.log; core = with_fault c n; audits = p.audits; told = p.told; heads = p.heads; synced = p.synced; begun = None; copies = p.copies };
      leads = (h, b, k, record { may = may; rose = rose }, turn, refl);
      vault = refl;
    }

    in_core : (y : Step) → IsPointStep p (Does y) q → calls_store (Does y) ≡ true → MayFail p (Does y) ws n
    in_core Flushes st e = in_flush Flushes refl st.1.0.0
    in_core (Faults k) st e = in_flush (Faults k) refl st.1.0.0
    in_core y st e = absurd (cc)

    by_step : (y : StoreStep) → IsPointStep p y q → calls_store y ≡ true → MayFail p y ws n
    by_step (Does y) st e = in_core y st e
    by_step (Copies r m) st e = in_copy (Copies r m) r st.0 refl st.1 st.3 st.2
    by_step (CopyFails r us k) st e = in_copy (CopyFails r us k) r st.0 refl st.1 st.2 st.3.may
    by_step (WritesHead h) st e = in_head (WritesHead h) h refl st.0
    by_step (HeadFails h k) st e = in_head (HeadFails h k) h refl st.0.may
    by_step Syncs st e = in_sync Syncs refl st.0
    by_step (SyncFails k) st e = in_sync (SyncFails k) refl st.0.may
    by_step Turns st e = in_turn Turns st.0 st.1 st.2 refl st.3 st.4
    by_step (TurnFails k) st e = in_turn (TurnFails k) st.0 st.1 st.2 refl st.3.may st.4
    by_step y st e = absurd (cc)

pub others_never_fail : OthersNeverFail
others_never_fail x ws n calls = by_step x calls
  where
    in_core : (y : Step) → calls_store (Does y) ≡ false → fault_of (Does y) ws n ≡ None
    in_core Flushes e = absurd (cc)
    in_core (Faults k) e = absurd (cc)
    in_core y e = refl

    by_step : (y : StoreStep) → calls_store y ≡ false → fault_of y ws n ≡ None
    by_step (Does y) e = in_core y e
    by_step Starts e = refl
    by_step Keeps e = refl
    by_step (Skips r m) e = refl
    by_step Finishes e = refl
    by_step y e = absurd (cc)
