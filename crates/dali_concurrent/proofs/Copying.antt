-- A checkpoint's steps land.
use Rattle.std.proofs.Common.{◌≡◌, ℕ, ◌+◌, Bool, true, false, List, [], ◌∷◌, Option, Some, None, refl, ap, sym, subst, ◌∙◌}
use Rattle.std.specs.Prelude.{IsSome, is_some, slice_get}
use Rattle.std.proofs.lemmas.List.{append-nil}
use Rattle.dali_region.specs.State.{RegionState}
use Rattle.dali_region.specs.Answers.{is_dirty, cleaned}
use Rattle.dali_runs.specs.declared.causes.Cause.{Cause}
use Rattle.dali_runs.specs.State.{SystemState, VaultState, CoreState}
use Rattle.dali_runs.specs.Run.{Bases, HasRisen}
use Rattle.dali_runs.specs.Keeps.{with_system, with_region}
use Rattle.dali_runs.specs.ImageSteps.{told_with}
use Rattle.dali_runs.specs.Steps.{in_checkpoint, stopped_by, store_stopped}
use Rattle.dali_runs.specs.Flushes.{with_vault, faulted}
use Rattle.dali_runs.specs.Courses.{Stops}
use Rattle.dali_crash.specs.Checkpoints.{StoreStep, Does, Starts, Keeps, Copies, Skips, WritesHead, Syncs, Turns, CopyFails, HeadFails, SyncFails, TurnFails, Finishes, Point, IsPointStep, IsUntouched, MayTurn, side_of, target, head_now, head_with, synced_with, copies_with, copies_after, copy_at, with_flag, with_fault, with_current}
use Rattle.dali_transcripts.specs.Words.{StoreFailed}
use Rattle.dali_transcripts.specs.World.{StartsCheckpoint, MovesAnchor, EndsCheckpoint, Meets, World}
use Rattle.dali_transcripts.specs.Telling.Deeds.{AreOf}
use Rattle.dali_transcripts.specs.Telling.Tells.{AreRightThen}
use Rattle.dali_concurrent.specs.Entries.{Entry, Did}
use Rattle.dali_concurrent.specs.Rules.{Outset}
use Rattle.dali_concurrent.specs.Told.{Effect, Leaves, OnRegion, OnSystem, OnVault, OnStop, effect_on, History, core_told, world_told, is_tie}
use Rattle.dali_concurrent.specs.Landing.{said_in, who_in, Halts, Stands, Lands}
use Rattle.dali_concurrent.specs.Copying.{failed_with, StartsLand, FinishesLand, KeepsLand, CopiesLand, SkipsLand, WritesHeadLand, SyncsLand, TurnsLand, CopyFailsLand, HeadFailsLand, SyncFailsLand, TurnFailsLand}
use Rattle.dali_concurrent.proofs.Landing.{course_lands}
use Rattle.dali_concurrent.proofs.Sorts.{none_said}

-- one step, from wherever the history has come
record OneStep (bases : Bases) (p : Point) (o : Outset) (T : History) (e : Entry) (f : Effect) (x : StoreStep) (q : Point) : Type 0 where
  to : Point
  step : IsPointStep q x to
  are : AreOf (world_told o T) (who_in e) q x (said_in e)
  right : AreRightThen (world_told o T) (who_in e) (said_in e) to.core
  core : to.core ≡ effect_on (core_told o T) f
  halts : Halts to.core

one_lands : (bases : Bases) (p : Point) (o : Outset) (T : History) (k : List ℕ) (e : Entry) (f : Effect) (x : StoreStep)
    → ((q : Point) → Stands bases p o T q → OneStep bases p o T e f x q) → Lands bases p o T (k, (e, f, x ∷ []))
one_lands bases p o T k e f x given = course_lands bases p o T k e f (x ∷ []) (λ q at.
    let s = given q at in
    (s.to, (s.to, said_in e, [], s.step, s.are, s.right, (refl, refl), sym (append-nil (said_in e))), s.core, s.halts))

-- one that no deed tells
tie_one : (bases : Bases) (p : Point) (o : Outset) (T : History) (k : List ℕ) (e : Entry) (f : Effect) (x : StoreStep) → is_tie e ≡ true
    → ((w : World) (c : ℕ) (q : Point) → AreOf w c q x [])
    → ((q : Point) → Stands bases p o T q → (to : Point) × IsPointStep q x to × (to.core ≡ effect_on (core_told o T) f) × Halts to.core)
    → Lands bases p o T (k, (e, f, x ∷ []))
tie_one bases p o T k e f x tie are given = one_lands bases p o T k e f x (λ q at.
    let s = given q at in record {
      to = s.0;
      step = s.1;
      are = subst (λ ds. AreOf (world_told o T) (who_in e) q x ds) (sym (none_said e tie)) (are (world_told o T) (who_in e) q);
      right = subst (λ ds. AreRightThen (world_told o T) (who_in e) ds s.0.core) (sym (none_said e tie)) tt;
      core = s.2;
      halts = s.3;
    })

-- what is told is there
vault_at : (bases : Bases) (p : Point) (o : Outset) (T : History) (q : Point) (v : VaultState) → Stands bases p o T q → v ≡ (core_told o T).vault → v ≡ q.core.vault
vault_at bases p o T q v at is = is ∙ ap (λ (d : CoreState). d.vault) (sym at.comes.core)

system_at : (bases : Bases) (p : Point) (o : Outset) (T : History) (q : Point) (y : SystemState) → Stands bases p o T q → y ≡ (core_told o T).system → y ≡ q.core.system
system_at bases p o T q y at is = is ∙ ap (λ (d : CoreState). d.system) (sym at.comes.core)

region_at : (bases : Bases) (p : Point) (o : Outset) (T : History) (q : Point) (r : ℕ) (g : RegionState) → Stands bases p o T q → slice_get (core_told o T).regions r ≡ Some g → slice_get q.core.regions r ≡ Some g
region_at bases p o T q r g at is = ap (λ (d : CoreState). slice_get d.regions r) at.comes.core ∙ is

-- ---- the flag
flag_ends : (o : Outset) (T : History) (q : Point) (y : SystemState) (b : Bool) → q.core ≡ core_told o T → y ≡ q.core.system → with_flag q.core b ≡ effect_on (core_told o T) (OnSystem (in_checkpoint y b))
flag_ends o T q y b core is = ap (λ d. with_system d (in_checkpoint q.core.system b)) core ∙ ap (λ u. with_system (core_told o T) (in_checkpoint u b)) (sym is)

pub starts_land : StartsLand
starts_land bases p o T k c y is clear = one_lands bases p o T k (Did StartsCheckpoint c) (OnSystem (in_checkpoint y true)) Starts (λ q at.
    let own : y ≡ q.core.system = system_at bases p o T q y at is in record {
      to = record q { core = with_flag q.core true };
      step = (subst (λ (u : SystemState). u.checking ≡ false) own clear, refl);
      are = refl;
      right = (tt, tt);
      core = flag_ends o T q y true at.comes.core own;
      halts = at.halts;
    })

pub finishes_land : FinishesLand
finishes_land bases p o T k c y is set way = one_lands bases p o T k (Did EndsCheckpoint c) (OnSystem (in_checkpoint y false)) Finishes (λ q at.
    let own : y ≡ q.core.system = system_at bases p o T q y at is in record {
      to = record q { core = with_flag q.core false; begun = None };
      step = (subst (λ (u : SystemState). u.checking ≡ true) own set, refl);
      are = (refl, way);
      right = (tt, tt);
      core = flag_ends o T q y false at.comes.core own;
      halts = at.halts;
    })

-- ---- what is kept
pub keeps_land : KeepsLand
keeps_land bases p o T k e v y tie is_v is_y runs flag all none = tie_one bases p o T k e Leaves Keeps tie (λ w c q. refl) (λ q at.
    let own_v : v ≡ q.core.vault = vault_at bases p o T q v at is_v in
    let own_y : y ≡ q.core.system = system_at bases p o T q y at is_y in
    let flushed : y.first + q.core.vault.flushed ≡ y.records = subst (λ (u : VaultState). y.first + u.flushed ≡ y.records) own_v all in (
      record q { begun = Some (head_now q.log q.core) },
      (
        subst (λ (u : VaultState). u.stopped ≡ false) own_v runs,
        subst (λ (u : SystemState). u.checking ≡ true) own_y flag,
        none q at,
        subst (λ (u : SystemState). u.first + q.core.vault.flushed ≡ u.records) own_y flushed,
        refl,
      ),
      at.comes.core,
      at.halts,
    ))

-- ---- the regions
abbrev copied_to : Point → ℕ → ℕ → RegionState → Point
copied_to q r n g = record q {
  core = with_region q.core r (cleaned (target q) g);
  told = told_with q.told (target q) r g.back;
  synced = synced_with q.synced (target q) false;
  copies = copies_with q.copies (target q) r (Some (copy_at n));
}

pub copies_land : CopiesLand
copies_land bases p o T k e r n v g tie is there runs dirty untouched begun =
    tie_one bases p o T k e (OnRegion r (cleaned (side_of (v.current + 1)) g)) (Copies r n) tie (λ w c q. refl) (λ q at.
    let own : v ≡ q.core.vault = vault_at bases p o T q v at is in
    let side : side_of (v.current + 1) ≡ target q = ap (λ (u : VaultState). side_of (u.current + 1)) own in (
      copied_to q r n g,
      (
        g,
        region_at bases p o T q r g at there,
        record { runs = subst (λ (u : VaultState). u.stopped ≡ false) own runs; under_way = begun q at },
        subst (λ z. is_dirty g z ≡ true) side dirty,
        subst (λ L. IsUntouched L r n) (sym at.comes.log) untouched,
        refl,
      ),
      ap (λ z. with_region q.core r (cleaned z g)) (sym side) ∙ ap (λ d. with_region d r (cleaned (side_of (v.current + 1)) g)) at.comes.core,
      at.halts,
    ))

pub skips_land : SkipsLand
skips_land bases p o T k e r n v g tie is there clear untouched begun = tie_one bases p o T k e Leaves (Skips r n) tie (λ w c q. refl) (λ q at.
    let own : v ≡ q.core.vault = vault_at bases p o T q v at is in (
      record q { copies = copies_with q.copies (target q) r (Some (copy_at n)) },
      (
        g,
        region_at bases p o T q r g at there,
        begun q at,
        subst (λ (u : VaultState). is_dirty g (side_of (u.current + 1)) ≡ false) own clear,
        subst (λ L. IsUntouched L r n) (sym at.comes.log) untouched,
        refl,
      ),
      at.comes.core,
      at.halts,
    ))

-- ---- the files
pub writes_head_land : WritesHeadLand
writes_head_land bases p o T k e h v tie is runs begun = tie_one bases p o T k e Leaves (WritesHead h) tie (λ w c q. refl) (λ q at. (
  record q { heads = head_with q.heads (target q) h; synced = synced_with q.synced (target q) false },
  (record { runs = subst (λ (u : VaultState). u.stopped ≡ false) (vault_at bases p o T q v at is) runs; under_way = begun q at }, refl),
  at.comes.core,
  at.halts,
))

pub syncs_land : SyncsLand
syncs_land bases p o T k e v tie is runs begun = tie_one bases p o T k e Leaves Syncs tie (λ w c q. refl) (λ q at. (
  record q { synced = synced_with q.synced (target q) true },
  (record { runs = subst (λ (u : VaultState). u.stopped ≡ false) (vault_at bases p o T q v at is) runs; under_way = begun q at }, refl),
  at.comes.core,
  at.halts,
))

-- ---- the anchor
turn_ends : (o : Outset) (T : History) (q : Point) (v : VaultState) → q.core ≡ core_told o T → v ≡ q.core.vault → with_current q.core ≡ effect_on (core_told o T) (OnVault (record v { current = v.current + 1 }))
turn_ends o T q v core is =
    ap (λ d. with_vault d (record q.core.vault { current = q.core.vault.current + 1 })) core ∙ (ap (λ (u : VaultState). with_vault (core_told o T) (record u { current = u.current + 1 })) (sym is)
    ∙ ap (λ n. with_vault (core_told o T) (record v { current = v.current + 1; faults_then = n })) (ap (λ (u : VaultState). u.faults_then) is ∙ ap (λ (d : CoreState). d.vault.faults_then) core))

pub turns_land : TurnsLand
turns_land bases p o T k c h b end v is runs may = one_lands bases p o T k (Did (MovesAnchor (v.current + 1)) c) (OnVault (record v { current = v.current + 1 })) Turns (λ q at.
    let own : v ≡ q.core.vault = vault_at bases p o T q v at is in
    let m : MayTurn q h b end = may q at in record {
      to = record q { core = with_current q.core; begun = None };
      step = (h, b, end, record { runs = subst (λ (u : VaultState). u.stopped ≡ false) own runs; under_way = ap is_some m.begun }, m, refl);
      are = ap (λ (u : VaultState). MovesAnchor (u.current + 1) ∷ []) own;
      right = (tt, tt);
      core = turn_ends o T q v at.comes.core own;
      halts = at.halts;
    })

-- ---- a call that fails
stop_ends : (o : Outset) (T : History) (q : Point) (v : VaultState) (y : SystemState) (n : ℕ) → q.core ≡ core_told o T → v ≡ q.core.vault → y ≡ q.core.system
    → with_system (with_vault q.core (faulted q.core.vault n)) (store_stopped q.core.system) ≡ effect_on (core_told o T) (OnStop (faulted v n) (store_stopped y))
stop_ends o T q v y n core own_v own_y =
    ap (λ (d : CoreState). effect_on d (OnStop (faulted q.core.vault n) (store_stopped q.core.system))) core
    ∙ (ap (λ u. effect_on (core_told o T) (OnStop (faulted u n) (store_stopped q.core.system))) (sym own_v) ∙ ap (λ u. effect_on (core_told o T) (OnStop (faulted v n) (store_stopped u))) (sym own_y))

stops : (s : Option Cause) → IsSome (stopped_by s)
stops None = refl
stops (Some s) = refl

-- the step of the fault itself
record Fails (q : Point) (x : StoreStep) (n : ℕ) : Type 0 where
  mid : Point
  step : IsPointStep q x mid
  core : mid.core ≡ with_fault q.core n

fails_land : (bases : Bases) (p : Point) (o : Outset) (T : History) (k : List ℕ) (c n : ℕ) (x : StoreStep) (v : VaultState) (y : SystemState)
    → v ≡ (core_told o T).vault → y ≡ (core_told o T).system
    → ((w : World) (q : Point) → AreOf w c q x (Meets StoreFailed ∷ []))
    → ((q : Point) → Stands bases p o T q → v ≡ q.core.vault → Fails q x n)
    → Lands bases p o T (k, failed_with x v y n c)
fails_land bases p o T k c n x v y is_v is_y are given = course_lands bases p o T k (Did (Meets StoreFailed) c) (OnStop (faulted v n) (store_stopped y)) (x ∷ Does Stops ∷ []) (λ q at.
    let own_v : v ≡ q.core.vault = vault_at bases p o T q v at is_v in
    let own_y : y ≡ q.core.system = system_at bases p o T q y at is_y in
    let f : Fails q x n = given q at own_v in
    let to : Point = record f.mid { core = with_system f.mid.core (store_stopped f.mid.core.system); copies = copies_after f.mid.core Stops f.mid.copies } in
    let ends : to.core ≡ effect_on (core_told o T) (OnStop (faulted v n) (store_stopped y)) =
    ap (λ (d : CoreState). with_system d (store_stopped d.system)) f.core ∙ stop_ends o T q v y n at.comes.core own_v own_y in (
      to,
      (
        f.mid,
        Meets StoreFailed ∷ [],
        [],
        f.step,
        are (world_told o T) q,
        (tt, tt),
        (to, [], [], (refl, ((ap (λ (d : CoreState). d.vault.stopped) f.core, (refl, refl)), refl), refl), refl, tt, (refl, refl), refl),
        refl,
      ),
      ends,
      λ h. stops f.mid.core.system.stop,
    ))

pub copy_fails_land : CopyFailsLand
copy_fails_land bases p o T k c r n ws v y g is_v is_y there runs dirty rose begun = fails_land bases p o T k c n (CopyFails r ws n) v y is_v is_y (λ w q. refl) (λ q at own. record {
  mid = record q {
    core = with_fault q.core n;
    told = told_with q.told (target q) r ws;
    synced = synced_with q.synced (target q) false;
    copies = copies_with q.copies (target q) r None;
  };
  step = (
    g,
    region_at bases p o T q r g at there,
    subst (λ (u : VaultState). is_dirty g (side_of (u.current + 1)) ≡ true) own dirty,
    record {
      may = record { runs = subst (λ (u : VaultState). u.stopped ≡ false) own runs; under_way = begun q at };
      rose = subst (λ (u : VaultState). HasRisen u.faults n) own rose;
    },
    refl,
  );
  core = refl;
})

pub head_fails_land : HeadFailsLand
head_fails_land bases p o T k c n h v y is_v is_y runs rose begun = fails_land bases p o T k c n (HeadFails h n) v y is_v is_y (λ w q. refl) (λ q at own. record {
  mid = record q { core = with_fault q.core n; heads = head_with q.heads (target q) h; synced = synced_with q.synced (target q) false };
  step = (
    record {
      may = record { runs = subst (λ (u : VaultState). u.stopped ≡ false) own runs; under_way = begun q at };
      rose = subst (λ (u : VaultState). HasRisen u.faults n) own rose;
    },
    refl,
  );
  core = refl;
})

pub sync_fails_land : SyncFailsLand
sync_fails_land bases p o T k c n v y is_v is_y runs rose begun = fails_land bases p o T k c n (SyncFails n) v y is_v is_y (λ w q. refl) (λ q at own. record {
  mid = record q { core = with_fault q.core n };
  step = (
    record {
      may = record { runs = subst (λ (u : VaultState). u.stopped ≡ false) own runs; under_way = begun q at };
      rose = subst (λ (u : VaultState). HasRisen u.faults n) own rose;
    },
    refl,
  );
  core = refl;
})

pub turn_fails_land : TurnFailsLand
turn_fails_land bases p o T k c n h b end v y is_v is_y runs rose may = fails_land bases p o T k c n (TurnFails n) v y is_v is_y (λ w q. refl) (λ q at own.
    let m : MayTurn q h b end = may q at in record {
      mid = record q { core = with_fault q.core n; begun = None };
      step = (
        h,
        b,
        end,
        record {
          may = record { runs = subst (λ (u : VaultState). u.stopped ≡ false) own runs; under_way = ap is_some m.begun };
          rose = subst (λ (u : VaultState). HasRisen u.faults n) own rose;
        },
        m,
        refl,
      );
      core = refl;
    })
