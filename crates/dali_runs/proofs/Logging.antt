-- A run with one more record at the end of its log.
use Rattle.std.proofs.Common.{◌≡◌, ℕ, ◌+◌, ◌<◌, ◌≤◌, Bool, true, false, List, [], ◌∷◌, ◌++◌, length, Option, Some, None, refl, ap, sym, subst, ◌∙◌, ◌⊎◌, ⊎_elim, arith}
use Rattle.std.specs.FinMap.{get}
use Rattle.std.specs.Prelude.{IsSome, ◌==◌, not, ◌&&◌, ◌||◌, slice_get, slice_set, ◌^◌}
use Rattle.std.proofs.lemmas.Option.{slice_get_within}
use Rattle.std.proofs.lemmas.Bool.{ne_eqb, eqb-true, not-true}
use Rattle.dali_lists.proofs.Lists.{set_cases}
use Rattle.dali_lists.proofs.Tests.{left_true, right_true}
use Rattle.dali_geometry.specs.Sizes.{Sizes}
use Rattle.dali_record.specs.declared.operations.Pending.{Pending}
use Rattle.dali_record.specs.declared.records.Record.{Record}
use Rattle.dali_record.specs.declared.records.Record.TheVariants.{Ended}
use Rattle.dali_record.specs.Blocks.{changes_item}
use Rattle.dali_record.specs.Log.{Touch, touch_of, touch_at}
use Rattle.dali_record.specs.Epochs.{last_epoch}
use Rattle.dali_record.specs.Locks.{conflicts, EndedBetween}
use Rattle.dali_record.specs.Spelling.{record_length, CanBeSpelled}
use Rattle.dali_record.specs.Legal.{txn_state, txn_next, concerns, Rules, rules_state, rules_next}
use Rattle.dali_record.proofs.Batches.{number_is_length}
use Rattle.dali_region.specs.State.{RegionState, touched}
use Rattle.dali_locks.specs.declared.mode.Mode.{Mode}
use Rattle.dali_locks.specs.declared.mode.Mode.TheVariants.{Shared, Exclusive}
use Rattle.dali_att.specs.Table.{Table}
use Rattle.dali_runs.specs.State.{TxnRow, SystemState, CoreState, lock_of}
use Rattle.dali_runs.specs.Run.{IsRow, TableRun, covers, holds, LockRun, RegionRun, Bases, base_at, RunsOn}
use Rattle.dali_locks.specs.Locks.{Locks, both_shared}
use Rattle.dali_runs.specs.Steps.{logged}
use Rattle.dali_runs.proofs.OneMore.{is_plain, is_inside, one_more, last_epoch-push, plain_inside, TableRun-push, LogRun-push, CountRun-push, clean_stays, LockRun-push}
use Rattle.dali_runs.proofs.OneMoreTouch.{StopRun-push, RegionRun-other, RegionRun-touched}
use Rattle.dali_runs.proofs.CountsLemmas.SmallLogs.{is_small}
use Rattle.dali_runs.proofs.Tables.{Puts}
use Rattle.dali_runs.specs.Regions.{IsOpen}
use Rattle.dali_runs.specs.Counts.Counts.{next_with}

-- ---- locks
neither : (c d : Bool) → not c ≡ true → not d ≡ true → (c || d) ≡ false
neither true d e f = absurd (cc)
neither false true e f = absurd (cc)
neither false false e f = refl

-- two transactions that hold one key both cover blocks that change nothing
no_clash : (o p : Option Mode) (c d : Bool) → ((m n : Mode) → o ≡ Some m → p ≡ Some n → both_shared m n ≡ true) → covers o c ≡ true → covers p d ≡ true → (c || d) ≡ false
no_clash None p c d h e f = absurd (cc)
no_clash (Some m) None c d h e f = absurd (cc)
no_clash (Some Shared) (Some Shared) c d h e f = neither c d e f
no_clash (Some Shared) (Some Exclusive) c d h e f = let k : false ≡ true = h Shared Exclusive refl refl in absurd (cc)
no_clash (Some Exclusive) (Some n) c d h e f = let k : false ≡ true = h Exclusive n refl refl in absurd (cc)

pub no_conflict :
    (s : Sizes) (L : List Record) (x : Record) (y : SystemState) → LockRun s L y
    → ((a : Touch) → touch_of x ≡ Some a → holds y a.owner a.block ≡ true)
    → (i : ℕ) (a b : Touch) → touch_at (last_epoch L).records i ≡ Some a → touch_of x ≡ Some b → conflicts a b ≡ true
    → EndedBetween a.owner i (length (last_epoch L).records) (last_epoch L).records
no_conflict s L x y run owner i a b p q c = ⊎_elim (λ w. w) (λ holding. absurd (clash holding)) (run.held i a p)
  where
    parts : (k o d : Bool) → ((k && not o) && d) ≡ true → (k ≡ true) × (o ≡ false) × (d ≡ true)
    parts k o d e = (left_true k (not o) (left_true (k && not o) d e), not-true o (right_true k (not o) (left_true (k && not o) d e)), right_true (k && not o) d e)

    clash : holds y a.owner a.block ≡ true → ⊥
    clash holding =
        let found : ((a.block.key == b.block.key) ≡ true) × ((a.owner == b.owner) ≡ false) × ((changes_item a.block || changes_item b.block) ≡ true) = parts (a.block.key == b.block.key) (a.owner == b.owner) (changes_item a.block || changes_item b.block) c in
        let key : a.block.key ≡ b.block.key = eqb-true a.block.key b.block.key found.0 in
        let none : (changes_item a.block || changes_item b.block) ≡ false = no_clash (lock_of y a.owner a.block.key) (lock_of y b.owner b.block.key) (changes_item a.block) (changes_item b.block) (λ m n e f. run.apart a.owner b.owner b.block.key m n found.1 (rw key at e) f) holding (owner b q) in
        let some : (changes_item a.block || changes_item b.block) ≡ true = found.2 in
        absurd (cc)

-- ---- the record, with a new table, new locks and new regions
abbrev pub after : CoreState → Record → Table Pending → Locks → List RegionState → CoreState
after c x T K rs = record { regions = rs; system = record (logged c.system x) { table = T; locks = K }; vault = c.vault }

pub record Fitting (bases : Bases) (L : List Record) (c : CoreState) (x : Record) (now : Rules) (T : Table Pending) (K : Locks) (rs : List RegionState) : Type 0 where
  pub plain : is_plain x ≡ true
  pub then : Rules
  pub rule : rules_next c.system.sizes (rules_state c.system.sizes L) x ≡ Some then
  pub count : then.count ≡ now.count + 1
  pub weight : then.weight ≡ now.weight + record_length x
  pub next : then.next ≡ next_with x now.next
  pub failed : then.failed ≡ now.failed
  pub grows : now.next ≤ then.next
  pub known : (t : ℕ) → then.next ≤ t → concerns t x ≡ false
  pub spelled : CanBeSpelled x
  pub reads : (a : Touch) → touch_of x ≡ Some a → not (a.block.read == 0) ≡ true
  pub table : TableRun c.system.sizes (L ++ x ∷ []) T
  pub keeps : (t k : ℕ) → (x ≡ Ended t) ⊎ (get K (t, k) ≡ get c.system.locks (t, k))
  pub fewer : (t k : ℕ) (m : Mode) → get K (t, k) ≡ Some m → (get c.system.locks (t, k) ≡ Some m) × IsSome (get T t)
  pub owner : (a : Touch) → touch_of x ≡ Some a → holds c.system a.owner a.block ≡ true
  pub whole : length rs ≡ length c.regions
  pub regions : (r : ℕ) (g : RegionState) → slice_get rs r ≡ Some g → RegionRun (base_at bases L) (one_more (last_epoch L) x) r g

first_same : (L : List Record) (x : Record) → is_plain x ≡ true → (last_epoch (L ++ x ∷ [])).first ≡ (last_epoch L).first
first_same L x plain = ap (λ e. e.first) (last_epoch-push L x (plain_inside x plain))

still : (bases : Bases) (L : List Record) (c : CoreState) (x : Record) (K : Locks) → ((t k : ℕ) → (x ≡ Ended t) ⊎ (get K (t, k) ≡ get c.system.locks (t, k))) → (a : Touch) → touch_of x ≡ Some a → holds c.system a.owner a.block ≡ true → covers (get K (a.owner, a.block.key)) (changes_item a.block) ≡ true
still bases L c x K keeps a e h = ⊎_elim (λ ends. let none : touch_of x ≡ None = ap touch_of ends in absurd (cc)) (λ same. rw same h) (keeps a.owner a.block.key)

pub RunsOn-logged :
    (bases : Bases) (L : List Record) (c : CoreState) (run : RunsOn bases L c)
    (x : Record) (T : Table Pending) (K : Locks) (rs : List RegionState)
    → Fitting bases L c x run.counts.now T K rs
    → RunsOn bases (L ++ x ∷ []) (after c x T K rs)
RunsOn-logged bases L c run x T K rs fit = record {
  log = LogRun-push c.system.sizes L x T run.log fit.table (rw fit.rule refl) inside fit.spelled fit.reads (no_conflict c.system.sizes L x c.system run.locks fit.owner);
  counts = CountRun-push c.system.sizes L x c.system run.counts fit.then inside fit.rule fit.count fit.weight fit.next fit.known fit.grows (clean_stays c.system.sizes L x c.system run.counts fit.plain) _ refl refl refl refl;
  table = fit.table;
  locks = LockRun-push c.system.sizes L x c.system _ run.locks inside refl fit.keeps fit.fewer (λ a e. still bases L c x K fit.keeps a e (fit.owner a e));
  stop = StopRun-push c.system.sizes L x c.system _ c.vault run.stop fit.plain run.counts.now fit.then run.counts.rules fit.rule fit.failed refl;
  whole = fit.whole ∙ run.whole;
  base = ap (λ n. length (bases n)) (first_same L x fit.plain) ∙ run.base;
  regions = λ r g e. subst (λ z. RegionRun (bases z.first) z r g) (sym (last_epoch-push L x inside)) (fit.regions r g e);
}
  where
    inside : is_inside x ≡ true
    inside = plain_inside x fit.plain

-- ---- the pieces of a fitting step
pub TableRun-one :
    (s : Sizes) (L : List Record) (x : Record) (old : Table Pending) (t : ℕ) (row : Option TxnRow) (new : Table Pending) → TableRun s L old
    → Puts old t row new
    → ((u : ℕ) → concerns u x ≡ (t == u))
    → IsRow (txn_next s t (txn_state s t L) x) row
    → TableRun s (L ++ x ∷ []) new
TableRun-one s L x old t row new table puts only here =
    TableRun-push s L x old new table
    (λ u e. let same : (t == u) ≡ true = sym (only u) ∙ e in rw (puts u, same) (subst (λ v. IsRow (txn_next s v (txn_state s v L) x) row) (eqb-true t u same) here))
    (λ u e. let apart : (t == u) ≡ false = sym (only u) ∙ e in rw (puts u, apart) refl)

-- a record that is no block leaves the regions
pub regions_quiet :
    (bases : Bases) (L : List Record) (c : CoreState) (run : RunsOn bases L c) (x : Record) → is_plain x ≡ true → touch_of x ≡ None
    → (r : ℕ) (g : RegionState) → slice_get c.regions r ≡ Some g → RegionRun (base_at bases L) (one_more (last_epoch L) x) r g
regions_quiet bases L c run x plain none r g e = RegionRun-other (base_at bases L) (last_epoch L) x r g (run.regions r g e) (rw none refl) plain run.counts.clean

-- a block touches its own region
pub regions_touched :
    (bases : Bases) (L : List Record) (c : CoreState) (run : RunsOn bases L c) (x : Record) (a : Touch) (g : RegionState) (owner : ℕ) → is_plain x ≡ true → touch_of x ≡ Some a
    → slice_get c.regions a.block.region ≡ Some g → IsOpen g owner a.block
    → (r : ℕ) (h : RegionState) → slice_get (slice_set c.regions a.block.region (touched g)) r ≡ Some h → RegionRun (base_at bases L) (one_more (last_epoch L) x) r h
regions_touched bases L c run x a g owner plain is at is_open r h e =
    ⊎_elim
    (λ here. subst (λ q. RegionRun (base_at bases L) (one_more (last_epoch L) x) r q) (sym here.1) (subst (λ q. RegionRun (base_at bases L) (one_more (last_epoch L) x) q (touched g)) (sym here.0) (RegionRun-touched (base_at bases L) (last_epoch L) x g a owner is (run.regions a.block.region g at) is_open plain run.counts.clean inside few)))
    (λ there. RegionRun-other (base_at bases L) (last_epoch L) x r h (run.regions r h there.1) (rw is (ne_eqb a.block.region r there.0)) plain run.counts.clean)
    (set_cases c.regions a.block.region (touched g) r h e)
  where
    few : length (last_epoch L).records < 2 ^ 40
    few = omega (arith, is_small c.system.sizes L run.log.legal, number_is_length L)

    inside : a.block.region < length (base_at bases L)
    inside = omega (arith, slice_get_within c.regions a.block.region g at, run.whole, run.base)
