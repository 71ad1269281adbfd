-- The kinds of entries that land.
use Rattle.std.proofs.Common.{◌≡◌, ℕ, true, false, List, [], ◌∷◌, ◌++◌, length, Option, Some, None, refl, ap, sym, subst, ◌∙◌, arith}
use Rattle.std.specs.Prelude.{IsSome, slice_get, take, drop}
use Rattle.std.proofs.lemmas.List.{take-append-le, take_all}
use Rattle.dali_runs.proofs.CountsLemmas.Lists.{some_same}
use Rattle.dali_lists.proofs.Lists.{set_same, set_twice, get_set}
use Rattle.dali_record.specs.declared.operations.Block.{Block}
use Rattle.dali_record.specs.declared.records.Record.{Record}
use Rattle.dali_record.specs.declared.records.Record.TheVariants.{Forward, Solo, Back}
use Rattle.dali_record.specs.Epochs.{last_epoch}
use Rattle.dali_region.specs.State.{RegionState, touched}
use Rattle.dali_locks.specs.declared.mode.Mode.{Mode}
use Rattle.dali_locks.specs.declared.mode.Mode.TheVariants.{Shared, Exclusive}
use Rattle.dali_locks.specs.Locks.{both_shared, stronger_mode}
use Rattle.dali_runs.specs.declared.causes.Cause.{Cause}
use Rattle.dali_runs.specs.Run.{Bases, HasRisen, failed_first}
use Rattle.dali_runs.specs.State.{SystemState, VaultState, CoreState, state_of, lock_of, stable, taken_to}
use Rattle.dali_runs.specs.Keeps.{with_system, with_region, with_touched, MayLogBlock}
use Rattle.dali_runs.specs.Steps.{op_logged, back_logged, solo_logged, stopped_by, store_stopped}
use Rattle.dali_runs.specs.Flushes.{with_vault, longer, faulted}
use Rattle.dali_runs.specs.Passes.{Audits, audits_with}
use Rattle.dali_runs.specs.Regions.{RegionStep, Poke, region_after}
use Rattle.dali_runs.specs.Courses.{Step, IsStep, AuditsBy, Begins, Operates, TakesBack, Frees, Answers, Commits, AuditBegins, Locks, Refuses, Claims, Takes, Flushes, Faults, Stops, OnRegion as StepsOn}
use Rattle.dali_runs.specs.Parts.Systems.{IsSystemStep, MayLogHeld, changes_stop}
use Rattle.dali_runs.proofs.PartsLemmas.Systems.{system_leaves}
use Rattle.dali_crash.specs.Checkpoints.{Does, Point, IsPointStep, is_of_checkpoint, copies_after}
use Rattle.dali_transcripts.specs.Words.{StoreFailed}
use Rattle.dali_transcripts.specs.World.{Deed, Logs, GetsLock, Claims as ClaimsTxn, Meets, Happening, World, logged_by, cause_of, has_failed, stop_at, state_at, state_after, lock_after, is_dead_in, IsNoWeaker}
use Rattle.dali_transcripts.specs.Causes.{IsRight, IsGrantable}
use Rattle.dali_transcripts.specs.Rounds.{by}
use Rattle.dali_transcripts.specs.Telling.Deeds.{TellsStep}
use Rattle.dali_transcripts.specs.Telling.Laws.{AreOfCourse}
use Rattle.dali_transcripts.specs.Telling.Tells.{after}
use Rattle.dali_concurrent.specs.Entries.{Entry, Did, Flushed}
use Rattle.dali_concurrent.specs.Rules.{Outset, log_by}
use Rattle.dali_concurrent.specs.Told.{vault_on, OnRegion, OnSystem, OnVault, OnBoth, OnStop, effect_on, History, plain, core_told, world_told, is_tie}
use Rattle.dali_concurrent.specs.Landing.{said_in, who_in, Halts, Stands}
use Rattle.dali_concurrent.specs.Sorts.{is_of_system, SystemLands, block_in, HasBlock, BothLand, RegionLands, is_poke, after_all, steps_on, MayMake, RegionStepsLand, FlushLands, FrameStays, FaultLands, RecordIsRight, GrantIsRight, ClaimIsRight}
use Rattle.dali_concurrent.proofs.Landing.{stop_stands, step_lands, course_lands}

pub halts_told : (bases : Bases) (p : Point) (o : Outset) (T : History) (q : Point) → Stands bases p o T q → Halts (core_told o T)
halts_told bases p o T q at = subst Halts at.comes.core at.halts

-- ---- the system alone
of_system : (L M : List Record) (c : CoreState) (x : Step) (z : SystemState) → is_of_system x ≡ true → IsSystemStep L c.system x M z → IsStep L c x M (with_system c z)
of_system L M c Begins z h s = (s.0, (s.1.0, ap (with_system c) s.1.1))
of_system L M c (Answers t k a) z h s = (s.0, s.1, s.2, (s.3.0, ap (with_system c) s.3.1))
of_system L M c (Commits t) z h s = (s.0, s.1, (s.2.0, ap (with_system c) s.2.1))
of_system L M c AuditBegins z h s = (s.0, s.1, (s.2.0, ap (with_system c) s.2.1))
of_system L M c (Locks t k m) z h s = (s.0, s.1, (s.2.0, ap (with_system c) s.2.1))
of_system L M c (Refuses t k m h') z h s = (s.0, s.1, (s.2.0, ap (with_system c) s.2.1))
of_system L M c (Claims t) z h s = (s.0, s.1, (s.2.0, ap (with_system c) s.2.1))
of_system L M c Takes z h s = (s.0, ap (with_system c) s.1)
of_system L M c x z h s = absurd (cc)

new_audits : (old : Audits) (L : List Record) (c : CoreState) (x : Step) → is_of_system x ≡ true → (A : Audits) × AuditsBy old A L c x
new_audits old L c Begins h = (old, refl)
new_audits old L c (Answers t k a) h = (old, refl)
new_audits old L c (Commits t) h = (old, refl)
new_audits old L c AuditBegins h = (audits_with old c.system.records [], refl)
new_audits old L c (Locks t k m) h = (old, refl)
new_audits old L c (Refuses t k m h') h = (old, refl)
new_audits old L c (Claims t) h = (old, refl)
new_audits old L c Takes h = (old, refl)
new_audits old L c x h = absurd (cc)

no_checkpoint : (x : Step) → is_of_system x ≡ true → (is_of_checkpoint x ≡ false) × (changes_stop x ≡ false)
no_checkpoint Begins h = (refl, refl)
no_checkpoint (Answers t k a) h = (refl, refl)
no_checkpoint (Commits t) h = (refl, refl)
no_checkpoint AuditBegins h = (refl, refl)
no_checkpoint (Locks t k m) h = (refl, refl)
no_checkpoint (Refuses t k m h') h = (refl, refl)
no_checkpoint (Claims t) h = (refl, refl)
no_checkpoint Takes h = (refl, refl)
no_checkpoint x h = absurd (cc)

pub system_lands : SystemLands
system_lands bases p o T k e x M y z is of step are right = step_lands bases p o T k e (OnSystem z) x (λ q at.
    let made : IsSystemStep (log_by o (plain T)) (core_told o T).system x M z = subst (λ u. IsSystemStep (log_by o (plain T)) u x M z) is step in
    let a = new_audits q.audits (log_by o (plain T)) (core_told o T) x of in
    let stop : z.stop ≡ (core_told o T).system.stop = (system_leaves (log_by o (plain T)) M (core_told o T).system z x made).stop (no_checkpoint x of).1 in
    record {
      other = (no_checkpoint x of).0;
      log = M;
      step = of_system (log_by o (plain T)) M (core_told o T) x z of made;
      audits = a.0;
      passes = a.1;
      are = are q at.comes.core;
      right = right q at;
      halts = λ h. subst IsSome (sym stop) (halts_told bases p o T q at h);
    })

-- ---- the system and a region
block_may : (L : List Record) (c : CoreState) (x : Record) (t : ℕ) (b : Block) (g : RegionState) → MayLogHeld L c.system x t b g → slice_get c.regions b.region ≡ Some g → MayLogBlock L c x t b g
block_may L c x t b g h there = record {
  runs = h.runs;
  spelled = h.spelled;
  next = h.next;
  by = h.by;
  kind = h.kind;
  locked = h.locked;
  at = there;
  is_open = h.hand.is_open;
}

of_both : (L M : List Record) (c : CoreState) (x : Step) (b : Block) (g : RegionState) (z : SystemState) → block_in x ≡ Some b → slice_get c.regions b.region ≡ Some g
    → HasBlock L c.system x g M z → IsStep L c x M (with_touched c z b.region g)
of_both L M c (Operates t b') b g z e there s =
    let own : slice_get c.regions b'.region ≡ Some g = ap (λ (d : Block). slice_get c.regions d.region) (some_same e) ∙ there in
    (g, s.0, block_may L c (Forward t b') t b' g s.1 own, (s.2.0, ap (λ n. with_touched c n b.region g) s.2.1 ∙ ap (λ (d : Block). with_touched c (op_logged c.system t b') d.region g) (sym (some_same e))))
of_both L M c (TakesBack t b') b g z e there s =
    let own : slice_get c.regions b'.region ≡ Some g = ap (λ (d : Block). slice_get c.regions d.region) (some_same e) ∙ there in
    (g, block_may L c (Back t b') t b' g s.0 own, (s.1.0, ap (λ n. with_touched c n b.region g) s.1.1 ∙ ap (λ (d : Block). with_touched c (back_logged c.system t b') d.region g) (sym (some_same e))))
of_both L M c (Frees t b') b g z e there s =
    let own : slice_get c.regions b'.region ≡ Some g = ap (λ (d : Block). slice_get c.regions d.region) (some_same e) ∙ there in
    (g, block_may L c (Solo c.system.next t b') t b' g s.0 own, (s.1.0, ap (λ n. with_touched c n b.region g) s.1.1 ∙ ap (λ (d : Block). with_touched c (solo_logged c.system t b') d.region g) (sym (some_same e))))
of_both L M c x b g z e there s = absurd (cc)

both_plain : (x : Step) (b : Block) (A : Audits) (L : List Record) (c : CoreState) → block_in x ≡ Some b → (is_of_checkpoint x ≡ false) × AuditsBy A A L c x
both_plain (Operates t b') b A L c e = (refl, refl)
both_plain (TakesBack t b') b A L c e = (refl, refl)
both_plain (Frees t b') b A L c e = (refl, refl)
both_plain x b A L c e = absurd (cc)

both_stop : (L M : List Record) (y z : SystemState) (x : Step) (b : Block) (g : RegionState) → block_in x ≡ Some b → HasBlock L y x g M z → z.stop ≡ y.stop
both_stop L M y z (Operates t b') b g e s = ap (λ (n : SystemState). n.stop) s.2.1
both_stop L M y z (TakesBack t b') b g e s = ap (λ (n : SystemState). n.stop) s.1.1
both_stop L M y z (Frees t b') b g e s = ap (λ (n : SystemState). n.stop) s.1.1
both_stop L M y z x b g e s = absurd (cc)

pub both_land : BothLand
both_land bases p o T k e x b M y z g is there block s are right = step_lands bases p o T k e (OnBoth b.region (touched g) z) x (λ q at.
    let L : List Record = log_by o (plain T) in
    let c : CoreState = core_told o T in
    let made : HasBlock L c.system x g M z = subst (λ u. HasBlock L u x g M z) is s in
    let plain_x = both_plain x b q.audits L c block in
    record {
      other = plain_x.0;
      log = M;
      step = of_both L M c x b g z block there made;
      audits = q.audits;
      passes = plain_x.1;
      are = are q at.comes.core;
      right = right q at;
      halts = λ h. subst IsSome (sym (both_stop L M c.system z x b g block made)) (halts_told bases p o T q at h);
    })

-- ---- a region alone
pub region_lands : RegionLands
region_lands bases p o T k e r x g there other may alone are right = step_lands bases p o T k e (OnRegion r (region_after x g)) (StepsOn r x) (λ q at. record {
  other = other;
  log = log_by o (plain T);
  step = (g, there, (may, alone), (refl, refl));
  audits = q.audits;
  passes = refl;
  are = are q at.comes.core;
  right = right q at;
  halts = halts_told bases p o T q at;
})

-- the region behind a list of steps
abbrev on_it : CoreState → ℕ → RegionState → CoreState
on_it c r g = with_region c r g

tells_none : (y : SystemState) (r : ℕ) (x : RegionStep) → is_poke x ≡ false → TellsStep y (StepsOn r x) []
tells_none y r (Poke word mask) h = absurd (cc)
tells_none y r x h = refl

same_point : (q : Point) (r : ℕ) (g : RegionState) → slice_get q.core.regions r ≡ Some g → q.core ≡ with_region q.core r g
same_point q r g there = ap (λ l. record q.core { regions = l }) (sym (set_same q.core.regions r g there))

made_on : (w : World) (c : ℕ) (q : Point) (r : ℕ) (xs : List RegionStep) (g : RegionState) → slice_get q.core.regions r ≡ Some g → MayMake q.core.system xs g
    → (to : Point) × AreOfCourse w c q (steps_on r xs) to [] × (to.core ≡ with_region q.core r (after_all xs g))
made_on w c q r [] g there may = (q, (refl, refl), same_point q r g there)
made_on w c q r (x ∷ xs) g there may =
    let mid : Point = record q { core = with_region q.core r (region_after x g); copies = copies_after q.core (StepsOn r x) q.copies } in
    let rest = made_on (after w c [] mid.core) c mid r xs (region_after x g) (get_set q.core.regions r g (region_after x g) there) may.4 in
    let step : IsPointStep q (Does (StepsOn r x)) mid = (may.0, ((g, there, (may.2, may.3), (refl, refl)), refl), refl) in (
      rest.0,
      (mid, [], [], step, tells_none q.core.system r x may.1, tt, rest.1, refl),
      rest.2 ∙ ap (λ l. record q.core { regions = l }) (set_twice q.core.regions r (region_after x g) (after_all xs (region_after x g))),
    )

pub none_said : (e : Entry) → is_tie e ≡ true → said_in e ≡ []
none_said (Did x c) h = absurd (cc)
none_said e h = refl

pub region_steps_land : RegionStepsLand
region_steps_land bases p o T k e r xs g tie there may = course_lands bases p o T k e (OnRegion r (after_all xs g)) (steps_on r xs) (λ q at.
    let here : slice_get q.core.regions r ≡ Some g = ap (λ (d : CoreState). slice_get d.regions r) at.comes.core ∙ there in
    let may_here : MayMake q.core.system xs g = subst (λ (d : CoreState). MayMake d.system xs g) (sym at.comes.core) may in
    let made = made_on (world_told o T) (who_in e) q r xs g here may_here in
    let leaves : made.0.core ≡ effect_on (core_told o T) (OnRegion r (after_all xs g)) = made.2 ∙ ap (λ (d : CoreState). with_region d r (after_all xs g)) at.comes.core in (
      made.0,
      subst (λ ds. AreOfCourse (world_told o T) (who_in e) q (steps_on r xs) made.0 ds) (sym (none_said e tie)) made.1,
      leaves,
      subst Halts (sym leaves) (λ h. halts_told bases p o T q at h),
    ))

-- ---- the vault
longer_stops : (v : VaultState) (frame : List Record) → (longer v frame).stopped ≡ v.stopped
longer_stops v [] = refl
longer_stops v (r ∷ rs) = refl

vault_kept : (v : VaultState) (frame : List Record) → vault_on v (longer v frame) ≡ longer v frame
vault_kept v [] = refl
vault_kept v (r ∷ rs) = refl

flush_leaves : (c : CoreState) (v : VaultState) (frame : List Record) → v ≡ c.vault → effect_on c (OnVault (longer v frame)) ≡ with_vault c (longer v frame)
flush_leaves c v frame is = ap (λ u. with_vault c (vault_on u (longer v frame))) (sym is) ∙ ap (λ u. with_vault c u) (vault_kept v frame)

pub flush_lands : FlushLands
flush_lands bases p o T k v frame is runs taken = step_lands bases p o T k Flushed (OnVault (longer v frame)) Flushes (λ q at.
    let stays : (longer v frame).stopped ≡ (core_told o T).vault.stopped = longer_stops v frame ∙ ap (λ (u : VaultState). u.stopped) is in
    record {
      other = refl;
      log = log_by o (plain T);
      step = (ap (λ (u : VaultState). u.stopped) (sym is) ∙ runs, (refl, flush_leaves (core_told o T) v frame is ∙ (ap (λ u. with_vault (core_told o T) (longer u frame)) is ∙ ap (λ f. with_vault (core_told o T) (longer (core_told o T).vault f)) taken)));
      audits = q.audits;
      passes = refl;
      are = refl;
      right = tt;
      halts = λ h. halts_told bases p o T q at (sym stays ∙ h);
    })

pub frame_stays : FrameStays
frame_stays L more c d within taken stable_same =
    ap (λ n. drop n (take (taken_to d.system) (L ++ more))) stable_same
    ∙ (ap (λ n. drop (stable c) (take n (L ++ more))) taken ∙ ap (λ l. drop (stable c) l) (take-append-le (taken_to c.system) L more within))

-- ---- the vault and the system
pub fault_lands : FaultLands
fault_lands bases p o T k n c v y is_v is_y runs rose = course_lands bases p o T k (Did (Meets StoreFailed) c) (OnStop (faulted v n) (store_stopped y)) (Does (Faults n) ∷ Does Stops ∷ []) (λ q at.
    let own_v : v ≡ q.core.vault = is_v ∙ ap (λ (d : CoreState). d.vault) (sym at.comes.core) in
    let own_y : y ≡ q.core.system = is_y ∙ ap (λ (d : CoreState). d.system) (sym at.comes.core) in
    let mid : Point = record q { core = with_vault q.core (faulted q.core.vault n); copies = copies_after q.core (Faults n) q.copies } in
    let to : Point = record mid { core = with_system mid.core (store_stopped q.core.system); copies = copies_after mid.core Stops mid.copies } in (
      to,
      (
        mid,
        Meets StoreFailed ∷ [],
        [],
        (refl, ((subst (λ (u : VaultState). u.stopped ≡ false) own_v runs, subst (λ (u : VaultState). HasRisen u.faults n) own_v rose, (refl, refl)), refl), refl),
        refl,
        (tt, tt),
        (to, [], [], (refl, ((refl, (refl, refl)), refl), refl), refl, tt, (refl, refl), refl),
        refl,
      ),
      ends q at.comes.core own_v own_y,
      λ h. stops q.core.system.stop,
    ))
  where
    ends : (q : Point) → q.core ≡ core_told o T → v ≡ q.core.vault → y ≡ q.core.system
        → with_system (with_vault q.core (faulted q.core.vault n)) (store_stopped q.core.system) ≡ effect_on (core_told o T) (OnStop (faulted v n) (store_stopped y))
    ends q core own_v own_y =
        ap (λ (d : CoreState). effect_on d (OnStop (faulted q.core.vault n) (store_stopped q.core.system))) core
        ∙ (ap (λ u. effect_on (core_told o T) (OnStop (faulted u n) (store_stopped q.core.system))) (sym own_v) ∙ ap (λ u. effect_on (core_told o T) (OnStop (faulted v n) (store_stopped u))) (sym own_y))

    stops : (s : Option Cause) → IsSome (stopped_by s)
    stops None = refl
    stops (Some s) = refl

-- ---- what is right
pub front : (w : World) (ys : List Happening) → take (length w.happened) (w.happened ++ ys) ≡ w.happened
front w ys = take-append-le (length w.happened) w.happened ys (omega arith) ∙ take_all (length w.happened) w.happened (omega arith)

pub runs_then : (bases : Bases) (p : Point) (o : Outset) (T : History) (q : Point) (c : ℕ) (ds : List Deed) (d : CoreState) → Stands bases p o T q
    → (core_told o T).system.stop ≡ None → stop_at (after (world_told o T) c ds d) (length (world_told o T).happened) ≡ None
runs_then bases p o T q c ds d at runs =
    let w : World = world_told o T in
    ap (λ l. cause_of (failed_first (last_epoch (w.before ++ logged_by l)).records) (has_failed w.old.vault.stopped l)) (take-append-le (length w.happened) w.happened (by c ds) (omega arith))
    ∙ (stop_stands bases p o T q at ∙ runs)

pub record_is_right : RecordIsRight
record_is_right bases p o T q c R d at runs = (kind R, tt)
  where
    kind : (R : Record) → IsRight (after (world_told o T) c (Logs R ∷ []) d) c (length (world_told o T).happened) (Logs R)
    kind (Back t b) = tt
    kind (Solo t n b) = tt
    kind R = runs_then bases p o T q c (Logs R ∷ []) d at runs

weaker_shared : (o : Option Mode) (m n : Mode) → both_shared m (stronger_mode o n) ≡ true → both_shared m n ≡ true
weaker_shared o Shared Shared e = refl
weaker_shared (Some Shared) Shared Exclusive e = absurd (cc)
weaker_shared (Some Exclusive) Shared Exclusive e = absurd (cc)
weaker_shared None Shared Exclusive e = absurd (cc)
weaker_shared o Exclusive n e = absurd (cc)

pub state_then : (bases : Bases) (p : Point) (o : Outset) (T : History) (q : Point) (c : ℕ) (ds : List Deed) (d : CoreState) (t : ℕ) → Stands bases p o T q
    → state_at (after (world_told o T) c ds d) (length (world_told o T).happened) t ≡ state_of (core_told o T).system t
state_then bases p o T q c ds d t at = ap (λ xs. state_after (world_told o T) xs t) (front (world_told o T) (by c ds)) ∙ sym (at.tells.together.states t)

pub grant_is_right : GrantIsRight
grant_is_right bases p o T q c t k m d at runs lives free =
    ((state_then bases p o T q c (GetsLock t k m ∷ []) d t at ∙ lives, runs_then bases p o T q c (GetsLock t k m ∷ []) d at runs, none), tt)
  where
    none : IsGrantable (after (world_told o T) c (GetsLock t k m ∷ []) d) (length (world_told o T).happened) t k m
    none u n other has =
        let by_deeds : lock_after (world_told o T) (world_told o T).happened u k ≡ Some n = sym (ap (λ (xs : List Happening). lock_after (world_told o T) xs u k) (front (world_told o T) (by c (GetsLock t k m ∷ [])))) ∙ has in
        let in_table : IsNoWeaker (lock_of (core_told o T).system u k) (Some n) = subst (IsNoWeaker (lock_of (core_told o T).system u k)) by_deeds (at.tells.together.locks u k) in
        weaker_shared (lock_of (core_told o T).system u k) m n (free u (stronger_mode (lock_of (core_told o T).system u k) n) other in_table)

pub claim_is_right : ClaimIsRight
claim_is_right bases p o T q c t latched d at dead = (ap is_dead_in (state_then bases p o T q c (ClaimsTxn t ∷ []) d t at ∙ dead), tt)
