-- The steps that log nothing keep a run.
use Rattle.std.proofs.Common.{◌≡◌, ℕ, Bool, true, false, cond, List, [], ◌∷◌, ◌++◌, length, take, Option, Some, None, refl, ap, sym, subst, ◌∙◌, inl, inr, ⊎_elim, arith, ◌<◌, ◌^◌}
use Rattle.std.specs.Prelude.{IsSome, is_some, ◌==◌, ◌&&◌}
use Rattle.std.proofs.lemmas.List.{length-set, take_all}
use Rattle.dali_geometry.specs.Sizes.{Sizes}
use Rattle.dali_record.specs.declared.records.Record.{Record}
use Rattle.dali_record.specs.Blocks.{changes_item}
use Rattle.dali_record.specs.Epochs.{Epoch, last_epoch}
use Rattle.dali_record.specs.Legal.{TxnState, Unbegun, Active, Committed as Ending, Over, txn_state}
use Rattle.dali_record.proofs.Ends.{get_push_cases}
use Rattle.dali_region.specs.State.{RegionState, IsProtected, latched, with_reads, updated, taken_back, poked, dead}
use Rattle.dali_region.proofs.Holds.{latched_keeps, taken_back_keeps, poked_keeps}
use Rattle.dali_locks.specs.declared.mode.Mode.{Mode}
use Rattle.dali_locks.specs.declared.mode.Mode.TheVariants.{Shared, Exclusive}
use Rattle.dali_locks.specs.declared.mode.LockAnswer.TheVariants.{Granted, Busy}
use Rattle.dali_att.specs.declared.state.State.{State}
use Rattle.dali_att.specs.declared.state.State.TheVariants.{Live, Dead, Cleaning, Committed}
use Rattle.dali_runs.specs.State.{TxnRow, SystemState, CoreState, lock_of, row_of, state_in}
use Rattle.dali_runs.specs.declared.refusals.Refusal.{Refusal}
use Rattle.dali_runs.specs.declared.causes.Cause.{Cause}
use Rattle.dali_runs.specs.declared.causes.Cause.TheVariants.{Damage, Store}
use Rattle.dali_runs.specs.Run.{CountRun, is_committed, IsRow, TableRun, covers, IsRefusal, is_running, LockRun, damage_in, RegionRun, Bases, base_at, RunsOn}
use Rattle.dali_locks.specs.Locks.{both_shared, IsAnswer, IsConflict, Locks, stronger_mode, locks_with}
use Rattle.dali_runs.specs.Steps.{granted, refused, stopped_by}
use Rattle.dali_runs.specs.Keeps.{with_system, moves_to, GrantKeeps, RefuseKeeps, RegionKeeps, StopKeeps, StateKeeps, CheckpointFlagKeeps}
use Rattle.dali_runs.proofs.CountsLemmas.Tallies.{tallies}
use Rattle.dali_runs.proofs.AuditSteps.{RegionRun-checked}
use Rattle.dali_runs.proofs.Protected.{ReadsFit, noted, wrote_word, dead_keeps, reads_same, cleaned_keeps}
use Rattle.dali_runs.proofs.Tables.{changed, Puts, some_changed, still_there}
use Rattle.dali_runs.specs.Regions.{RegionStep, region_after, MayChange, Latch, NoteReads, Update, TakeBack, Poke, Check, Die, Clean}
use Rattle.dali_att.specs.Table.{Table, with_row, with_state}
use Rattle.std.specs.Option.{option_map}
use Rattle.std.specs.FinMap.{get}
use Rattle.std.proofs.lemmas.Bool.{eqb-true, eq-eqb}
use Rattle.dali_lists.proofs.Lists.{set_cases}
use Rattle.dali_lists.proofs.Numbers.{eqb_turned}
use Rattle.dali_lists.proofs.Options.{some_same}
use Rattle.dali_lists.proofs.Tests.{left_true, right_true}
use Rattle.dali_locks.proofs.Changes.{get-locks_with}
use Rattle.dali_record.specs.declared.operations.Pending.{Pending}
use Rattle.dali_region.specs.Answers.{cleaned}
use Rattle.dali_region.specs.declared.Side.TheVariants.{A, B}
use Rattle.dali_locks.proofs.Kept.{stronger_apart}

-- ---- what no count depends on
RunsOn-held :
    (bases : Bases) (L : List Record) (c : CoreState) (run : RunsOn bases L c)
    (T : Table Pending) (K : Locks) (R : List Refusal) (b : Bool)
    → TableRun c.system.sizes L T
    → LockRun c.system.sizes L (record c.system { table = T; locks = K; refusals = R; checking = b })
    → RunsOn bases L (with_system c (record c.system { table = T; locks = K; refusals = R; checking = b }))
RunsOn-held bases L c run T K R b table locks = record {
  log = run.log;
  counts = let q : CountRun c.system.sizes L c.system = run.counts in record { now = q.now; rules = q.rules; some = q.some; records = q.records; end = q.end; next = q.next; limit = q.limit; fresh = q.fresh; number = q.number; clean = q.clean };
  table = table;
  locks = locks;
  stop = record { damage = run.stop.damage; failed = run.stop.failed; store = run.stop.store };
  whole = run.whole;
  base = run.base;
  regions = run.regions;
}

-- ---- a lock that is granted
stronger_covers : (o : Option Mode) (m : Mode) (d : Bool) → covers o d ≡ true → covers (Some (stronger_mode o m)) d ≡ true
stronger_covers None m d e = absurd (cc)
stronger_covers (Some Shared) Shared d e = e
stronger_covers (Some Shared) Exclusive d e = refl
stronger_covers (Some Exclusive) m d e = refl

shared_sym : (m n : Mode) → both_shared m n ≡ true → both_shared n m ≡ true
shared_sym Shared Shared e = refl
shared_sym Shared Exclusive e = absurd (cc)
shared_sym Exclusive n e = absurd (cc)

-- a mode that clashes with another one clashes with a stronger one
stronger_clash : (n o m : Mode) → both_shared n o ≡ false → both_shared n (stronger_mode (Some o) m) ≡ false
stronger_clash Shared Shared m e = absurd (cc)
stronger_clash Shared Exclusive m e = refl
stronger_clash Exclusive o m e = refl

pub lock_granted :
    (s : Sizes) (L : List Record) (y : SystemState) (t k : ℕ) (m : Mode) → LockRun s L y
    → IsSome (row_of y t) → IsAnswer y.locks t k m Granted
    → LockRun s L (granted y t k m)
lock_granted s L y t k m run here free = record {
  held = λ i a e. ⊎_elim (λ w. inl w) (λ h. inr (rw (at a.owner a.block.key) (still a.owner a.block.key (changes_item a.block) ((t == a.owner) && (k == a.block.key)) h))) (run.held i a e);
  apart = λ u v l p q d e f. apart u v l p q d ((t == u) && (k == l)) refl ((t == v) && (k == l)) refl (sym (at u l) ∙ e) (sym (at v l) ∙ f);
  owned = λ u l p e. owned u l p ((t == u) && (k == l)) refl (sym (at u l) ∙ e);
  refused = λ n f e. refusal f (run.refused n f e);
}
  where
    K : Locks
    K = locks_with y.locks t k m

    at : (u l : ℕ) → get K (u, l) ≡ cond ((t == u) && (k == l)) (Some (stronger_mode (lock_of y u l) m)) (lock_of y u l)
    at u l = get-locks_with y.locks t k m u l

    still : (u l : ℕ) (d b : Bool) → covers (lock_of y u l) d ≡ true → covers (cond b (Some (stronger_mode (lock_of y u l) m)) (lock_of y u l)) d ≡ true
    still u l d true h = stronger_covers (lock_of y u l) m d h
    still u l d false h = h

    owned : (u l : ℕ) (p : Mode) (b : Bool) → ((t == u) && (k == l)) ≡ b → cond b (Some (stronger_mode (lock_of y u l) m)) (lock_of y u l) ≡ Some p → IsSome (row_of y u)
    owned u l p true e f = subst (λ v. IsSome (row_of y v)) (eqb-true t u (left_true (t == u) (k == l) e)) here
    owned u l p false e f = run.owned u l p f

    -- what was in the way of a request is in its way in a stronger mode too
    in_the_way : (f : Refusal) → IsConflict y.locks f.txn f.key f.mode f.holder → IsConflict K f.txn f.key f.mode f.holder
    in_the_way f way = by_test ((t == f.holder) && (k == f.key)) refl
      where
        by_test : (b : Bool) → ((t == f.holder) && (k == f.key)) ≡ b → IsConflict K f.txn f.key f.mode f.holder
        by_test true e = record {
          other = way.other;
          mode = stronger_mode (Some way.mode) m;
          holds = at f.holder f.key ∙ (ap (λ b. cond b (Some (stronger_mode (lock_of y f.holder f.key) m)) (lock_of y f.holder f.key)) e ∙ ap (λ o. Some (stronger_mode o m)) way.holds);
          clash = stronger_clash f.mode way.mode m way.clash;
        }
        by_test false e = record {
          other = way.other;
          mode = way.mode;
          holds = at f.holder f.key ∙ (ap (λ b. cond b (Some (stronger_mode (lock_of y f.holder f.key) m)) (lock_of y f.holder f.key)) e ∙ way.holds);
          clash = way.clash;
        }

    refusal : (f : Refusal) → IsRefusal s L y.locks f → IsRefusal s L K f
    refusal f old = record { older = old.older; within = old.within; asking = old.asking; running = old.running; conflict = ⊎_elim (λ w. inl w) (λ way. inr (in_the_way f way)) old.conflict }

    -- t has the lock, v another one's
    against : (u v l : ℕ) (p q : Mode) → (u == v) ≡ false → ((t == u) && (k == l)) ≡ true → Some (stronger_mode (lock_of y u l) m) ≡ Some p → lock_of y v l ≡ Some q → both_shared p q ≡ true
    against u v l p q d e f g =
        let tu : t ≡ u = eqb-true t u (left_true (t == u) (k == l) e) in
        let kl : k ≡ l = eqb-true k l (right_true (t == u) (k == l) e) in
        let is : stronger_mode (lock_of y u l) m ≡ p = some_same f in
        let apart_t : (t == v) ≡ false = ap (λ z. z == v) tu ∙ d in
        let at_k : lock_of y v k ≡ Some q = ap (λ z. lock_of y v z) kl ∙ g in
        subst (λ z. both_shared z q ≡ true) is (stronger_apart (lock_of y u l) m q (λ z h. run.apart u v l z q d h g) (free v q apart_t at_k))

    apart : (u v l : ℕ) (p q : Mode) → (u == v) ≡ false → (a : Bool) → ((t == u) && (k == l)) ≡ a → (b : Bool) → ((t == v) && (k == l)) ≡ b → cond a (Some (stronger_mode (lock_of y u l) m)) (lock_of y u l) ≡ Some p → cond b (Some (stronger_mode (lock_of y v l) m)) (lock_of y v l) ≡ Some q → both_shared p q ≡ true
    apart u v l p q d true e true f g h = let same : u ≡ v = sym (eqb-true t u (left_true (t == u) (k == l) e)) ∙ eqb-true t v (left_true (t == v) (k == l) f) in let is : (u == v) ≡ true = eq-eqb u v same in absurd (cc)
    apart u v l p q d true e false f g h = against u v l p q d e g h
    apart u v l p q d false e true f g h = shared_sym q p (against v u l q p (eqb_turned u v d) f h g)
    apart u v l p q d false e false f g h = run.apart u v l p q d g h

pub grant_keeps : GrantKeeps
grant_keeps bases L c t k m run here free =
    RunsOn-held bases L c run c.system.table (locks_with c.system.locks t k m) c.system.refusals c.system.checking run.table
    (lock_granted c.system.sizes L c.system t k m run.locks here free)

-- ---- a lock that is refused
row_running : (o : Option TxnState) (row : Option TxnRow) → IsRow o row → IsSome row → is_running o ≡ true
row_running None row r h = absurd r
row_running (Some Unbegun) row r h = let none : is_some row ≡ false = ap is_some r in absurd (cc)
row_running (Some (Active w)) row r h = refl
row_running (Some (Ending ps)) row r h = refl
row_running (Some Over) row r h = let none : is_some row ≡ false = ap is_some r in absurd (cc)

pub lock_refused :
    (s : Sizes) (L : List Record) (y : SystemState) (t k h : ℕ) (m : Mode) → LockRun s L y
    → TableRun s L y.table → y.records ≡ length L → IsSome (row_of y t) → IsAnswer y.locks t k m (Busy h)
    → LockRun s L (refused y t k m h)
lock_refused s L y t k h m run table all here_is busy = record {
  held = run.held;
  apart = run.apart;
  owned = run.owned;
  refused = λ n f e. ⊎_elim (λ old. run.refused n f old.1) (λ last. subst (λ f. IsRefusal s L y.locks f) last.1 here) (get_push_cases y.refusals new n f e);
}
  where
    new : Refusal
    new = record { txn = t; key = k; mode = m; holder = h; at = y.records }

    -- a transaction of the table runs, behind all records so far
    runs : (u : ℕ) → IsSome (row_of y u) → is_running (txn_state s u (take y.records L)) ≡ true
    runs u some = ap (λ l. is_running (txn_state s u l)) (ap (λ n. take n L) all ∙ take_all (length L) L (omega arith)) ∙ row_running (txn_state s u L) (row_of y u) (table u) some

    here : IsRefusal s L y.locks new
    here = record {
      older = busy.1;
      within = omega (arith, all);
      asking = runs t here_is;
      running = runs h (run.owned h k busy.0.conflict.mode busy.0.conflict.holds);
      conflict = inr busy.0.conflict;
    }

pub refuse_keeps : RefuseKeeps
refuse_keeps bases L c t k h m run here_is busy =
    RunsOn-held bases L c run c.system.table c.system.locks (c.system.refusals ++ record { txn = t; key = k; mode = m; holder = h; at = c.system.records } ∷ []) c.system.checking run.table
    (lock_refused c.system.sizes L c.system t k h m run.locks run.table all here_is busy)
  where
    all : c.system.records ≡ length L
    all = run.counts.records ∙ (tallies c.system.sizes L run.counts.now run.counts.rules).0

-- ---- one region
-- what a run says of a region is left
record IsAlike (old new : RegionState) : Type 0 where
  back : new.back ≡ old.back
  touches : new.touches ≡ old.touches
  poked : new.poked ≡ old.poked
  sound : new.sound ≡ old.sound
  missed : new.missed ≡ old.missed

RegionRun-alike : (base : List (List ℕ)) (e : Epoch) (r : ℕ) (old new : RegionState) → IsAlike old new → IsProtected new → ReadsFit new.hold → RegionRun base e r old → RegionRun base e r new
RegionRun-alike base e r old new same protected reads run = record {
  protected = protected;
  reads = reads;
  touches = same.touches ∙ run.touches;
  sound = λ i a at on below. run.sound i a at on (rw same.sound at below);
  settled = λ h. same.back ∙ run.settled (sym same.poked ∙ h);
  certified = λ h. rw same.sound (run.certified (sym same.missed ∙ h));
}

RegionRun-poked : (base : List (List ℕ)) (e : Epoch) (r word mask : ℕ) (g : RegionState) → word < 64 → mask < 2 ^ 64 → RegionRun base e r g → RegionRun base e r (poked word mask g)
RegionRun-poked base e r word mask g within small run = record {
  protected = poked_keeps g word mask run.protected within small;
  reads = run.reads;
  touches = run.touches;
  sound = run.sound;
  settled = λ h. absurd (cc);
  certified = run.certified;
}

pub RegionRun-after : (base : List (List ℕ)) (e : Epoch) (r : ℕ) (g : RegionState) (x : RegionStep) → MayChange x g → RegionRun base e r g → RegionRun base e r (region_after x g)
RegionRun-after base e r g (Latch txn) may run = RegionRun-alike base e r g (latched txn g) (record { back = refl; touches = refl; poked = refl; sound = refl; missed = refl }) (latched_keeps g txn run.protected may) (omega arith) run
RegionRun-after base e r g (NoteReads mask) may run = let kept = noted g mask g.hold refl run.protected run.reads may.0 may.1 in RegionRun-alike base e r g (with_reads mask g) (record { back = refl; touches = refl; poked = refl; sound = refl; missed = refl }) kept.0 kept.1 run
RegionRun-after base e r g (Update word value) may run = let kept = wrote_word g word value g.hold refl run.protected run.reads may.0 may.1 in RegionRun-alike base e r g (updated word value g) (record { back = refl; touches = refl; poked = refl; sound = refl; missed = refl }) kept.0 kept.1 run
RegionRun-after base e r g TakeBack may run = RegionRun-alike base e r g (taken_back g) (record { back = refl; touches = refl; poked = refl; sound = refl; missed = refl }) (taken_back_keeps g run.protected) tt run
RegionRun-after base e r g (Poke word mask) may run = RegionRun-poked base e r word mask g may.0 may.2 run
RegionRun-after base e r g Check may run = RegionRun-checked base e r g run
RegionRun-after base e r g Die may run = RegionRun-alike base e r g (dead g) (record { back = refl; touches = refl; poked = refl; sound = refl; missed = refl }) (dead_keeps g run.protected) (reads_same g.hold run.reads) run
RegionRun-after base e r g (Clean A) may run = RegionRun-alike base e r g (cleaned A g) (record { back = refl; touches = refl; poked = refl; sound = refl; missed = refl }) (cleaned_keeps A g run.protected) run.reads run
RegionRun-after base e r g (Clean B) may run = RegionRun-alike base e r g (cleaned B g) (record { back = refl; touches = refl; poked = refl; sound = refl; missed = refl }) (cleaned_keeps B g run.protected) run.reads run

pub region_keeps : RegionKeeps
region_keeps bases L c r g x run at may = record {
  log = run.log;
  counts = run.counts;
  table = run.table;
  locks = run.locks;
  stop = run.stop;
  whole = length-set c.regions r (region_after x g) ∙ run.whole;
  base = run.base;
  regions = λ q h e. ⊎_elim
      (λ here. subst (λ z. RegionRun (base_at bases L) (last_epoch L) q z) (sym here.1) (subst (λ z. RegionRun (base_at bases L) (last_epoch L) z (region_after x g)) (sym here.0) (RegionRun-after (base_at bases L) (last_epoch L) r g x may (run.regions r g at))))
      (λ there. run.regions q h there.1)
      (set_cases c.regions r (region_after x g) q h e);
}

-- ---- the stop after a fault
same_damage : (o : Option Cause) → damage_in (stopped_by o) ≡ damage_in o
same_damage None = refl
same_damage (Some (Damage r)) = refl
same_damage (Some Store) = refl

pub stop_keeps : StopKeeps
stop_keeps bases L c run stopped = record {
  log = run.log;
  counts = let q : CountRun c.system.sizes L c.system = run.counts in record { now = q.now; rules = q.rules; some = q.some; records = q.records; end = q.end; next = q.next; limit = q.limit; fresh = q.fresh; number = q.number; clean = q.clean };
  table = run.table;
  locks = record { held = run.locks.held; apart = run.locks.apart; owned = run.locks.owned; refused = run.locks.refused };
  stop = record { damage = same_damage c.system.stop ∙ run.stop.damage; failed = λ g e. run.stop.failed g e ∙ ap is_some (sym (same_damage c.system.stop)); store = λ e. stopped };
  whole = run.whole;
  base = run.base;
  regions = run.regions;
}

-- ---- the state of a transaction
pub state_row : (o : Option TxnState) (row : Option TxnRow) (r : TxnRow) (st : State) → IsRow o row → row ≡ Some r → is_committed r.state ≡ false → is_committed st ≡ false → IsRow o (option_map (with_state st) row)
state_row None row r st i e f g = absurd i
state_row (Some Unbegun) row r st i e f g = absurd (cc)
state_row (Some (Active w)) row r st i e f g = (st, g, ap (option_map (with_state st)) i.2)
state_row (Some (Ending ps)) row r st i e f g = let same : record { state = Committed; undos = [] } ≡ r = cc in let is : true ≡ is_committed r.state = ap (λ q. is_committed q.state) same in absurd (cc)
state_row (Some Over) row r st i e f g = absurd (cc)

-- the state is none of a committed transaction, before and after
pub none_committed : (old new : State) → moves_to old new ≡ true → (is_committed old ≡ false) × (is_committed new ≡ false)
none_committed Live Live e = absurd (cc)
none_committed Live (Dead q) e = (refl, refl)
none_committed Live (Cleaning q) e = absurd (cc)
none_committed Live Committed e = absurd (cc)
none_committed (Dead o) Live e = absurd (cc)
none_committed (Dead o) (Dead q) e = absurd (cc)
none_committed (Dead o) (Cleaning q) e = (refl, refl)
none_committed (Dead o) Committed e = absurd (cc)
none_committed (Cleaning o) Live e = absurd (cc)
none_committed (Cleaning o) (Dead q) e = (refl, refl)
none_committed (Cleaning o) (Cleaning q) e = absurd (cc)
none_committed (Cleaning o) Committed e = absurd (cc)
none_committed Committed _ e = absurd (cc)

-- a transaction with a state has a row
pub row_with : (o : Option TxnRow) (st : State) → state_in o ≡ Some st → (row : TxnRow) × (o ≡ Some row) × (row.state ≡ st)
row_with None st e = absurd (cc)
row_with (Some row) st e = (row, refl, some_same e)

pub state_keeps : StateKeeps
state_keeps bases L c t old st run was moves = RunsOn-held bases L c run T y.locks y.refusals y.checking
    (λ u. rw (puts u) (table u (t == u) refl))
    (record { held = run.locks.held; apart = run.locks.apart; owned = λ u k m e. still_there y.table t _ T puts (some_changed (with_state st) (row_of y t)) u (run.locks.owned u k m e); refused = run.locks.refused })
  where
    y : SystemState
    y = c.system

    row : (row : TxnRow) × (row_of y t ≡ Some row) × (row.state ≡ old)
    row = row_with (row_of y t) old was

    none : (is_committed old ≡ false) × (is_committed st ≡ false)
    none = none_committed old st moves

    T : Table Pending
    T = with_row y.table t (with_state st)

    puts : Puts y.table t (option_map (with_state st) (row_of y t)) T
    puts = changed y.table t (with_state st)

    table : (u : ℕ) (b : Bool) → (t == u) ≡ b → IsRow (txn_state y.sizes u L) (cond b (option_map (with_state st) (row_of y t)) (row_of y u))
    table u true e = subst (λ v. IsRow (txn_state y.sizes v L) (option_map (with_state st) (row_of y t))) (eqb-true t u e) (state_row (txn_state y.sizes t L) (row_of y t) row.0 st (run.table t) row.1 (ap is_committed row.2 ∙ none.0) none.1)
    table u false e = run.table u

-- ---- the flag of a checkpoint
pub checkpoint_flag_keeps : CheckpointFlagKeeps
checkpoint_flag_keeps bases L c b run = RunsOn-held bases L c run c.system.table c.system.locks c.system.refusals b run.table (record { held = run.locks.held; apart = run.locks.apart; owned = run.locks.owned; refused = run.locks.refused })
