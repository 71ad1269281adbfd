-- Each step keeps a core whole.
use Rattle.std.proofs.Common.{◌≡◌, ◌≢◌, ℕ, zero, suc, ◌⊎◌, Bool, true, false, cond, List, [], ◌∷◌, ◌++◌, length, Option, Some, None, refl, ap, sym, subst, ◌∙◌, inl, inr, ⊎_elim, arith}
use Rattle.std.specs.Prelude.{◌==◌, ◌&&◌, slice_get, slice_set, map, IsSomeAnd}
use Rattle.std.specs.Option.{option_map}
use Rattle.std.specs.List.{list_all}
use Rattle.std.specs.FinMap.{get, empty, get-empty}
use Rattle.std.specs.Ordering.{nat_cmp}
use Rattle.std.proofs.lemmas.List.{length-set}
use Rattle.std.proofs.lemmas.List.Folds.{list_all-append}
use Rattle.std.proofs.lemmas.Bool.{and_from}
use Rattle.dali_lists.proofs.Options.{some_same}
use Rattle.dali_lists.proofs.Tests.{left_true, right_true}
use Rattle.dali_geometry.specs.Sizes.{Sizes}
use Rattle.dali_geometry.specs.Places.{regions}
use Rattle.dali_record.specs.declared.operations.Block.{Block}
use Rattle.dali_record.specs.declared.operations.Undo.{Undo}
use Rattle.dali_record.specs.declared.operations.Pending.{Pending}
use Rattle.dali_record.specs.declared.records.Record.{Record}
use Rattle.dali_record.specs.declared.records.Record.TheVariants.{Commit}
use Rattle.dali_record.specs.Blocks.{pending}
use Rattle.dali_record.specs.Log.{undo_added, drop_last}
use Rattle.dali_record.specs.Spelling.{IsBlock, is_within, is_outcome_of, undoes}
use Rattle.dali_record.specs.Legal.{TxnState, on_kind}
use Rattle.dali_region.specs.declared.Hold.{Hold}
use Rattle.dali_region.specs.declared.Side.TheVariants.{A, B}
use Rattle.dali_region.specs.State.{RegionState, loaded, touched, checked, taken_back, dead, map_hold, reading, writing}
use Rattle.dali_att.specs.declared.state.State.{State}
use Rattle.dali_att.specs.declared.state.State.TheVariants.{Live, Dead, Cleaning, Committed}
use Rattle.dali_att.specs.Table.{Table, fresh_row, with_state}
use Rattle.dali_runs.specs.State.{TxnRow, CoreState, row_of, state_in, state_of, hold_in, hold_of}
use Rattle.dali_runs.specs.Run.{Bases, RunsOn, IsRow}
use Rattle.dali_runs.specs.Steps.{committed_row}
use Rattle.dali_runs.specs.Regions.{IsOpen, RegionStep, region_after, MayChange, IsAlone, Latch, NoteReads, Update, TakeBack, Poke, Check, Die, Clean}
use Rattle.dali_runs.specs.Keeps.{dead_in, may_log_in, MayDie, died}
use Rattle.dali_runs.specs.Courses.{Step, IsStep, Moment, Begins, Operates, TakesBack, Frees, Answers, Commits, Ends, AuditBegins, AuditEnds, Locks, Refuses, OnRegion, Passes, Dies, Claims, GivesBack, Recovers, Stops, Checkpoints, Takes, Flushes, Faults, ReadFails}
use Rattle.dali_runs.specs.Wholes.{is_of_kind, AreOfKind, IsWhole, WholeKeeps, WholeCourseKeeps, LoadIsWhole}
use Rattle.dali_runs.proofs.Tables.{Puts, with_undos, changed, added, ended, kept, dropped}
use Rattle.dali_runs.proofs.RowStates.{puts_states, puts_same, undos_state, state_there, commit_there}
use Rattle.dali_runs.proofs.UndoKinds.{undo_kind}
use Rattle.dali_runs.proofs.Deaths.{region_with, dead_at}
use Rattle.dali_runs.proofs.Courses.{step_keeps_none}
use Rattle.dali_runs.proofs.Wholes.{Agrees, OneHold, FitsHold, FitsState, IsLike, slain, agrees_hold, agrees_state, agrees_same, agrees_dead_none, agrees_dead_some, fits_like, fits_ended, fits_recovered, fits_latched, fits_begun, fits_committed, fits_over, fits_claimed, fits_given_back}

-- ---- holds and rows of a core
abbrev S_of : CoreState → ℕ → Option State
S_of c t = state_of c.system t

agrees_of : (c : CoreState) → IsWhole c → Agrees (hold_of c) (S_of c)
agrees_of c w = record { dead = w.dead; named = w.named; live = w.live }

whole_of : (c e : CoreState) → IsWhole c → e.system.sizes ≡ c.system.sizes → length e.regions ≡ length c.regions → ((t : ℕ) → AreOfKind c.system.sizes (row_of e.system t)) → Agrees (hold_of e) (S_of e) → IsWhole e
whole_of c e w sizes as_many kinds a = record {
  regions = as_many ∙ (w.regions ∙ ap regions (sym sizes));
  undos = λ t. subst (λ s. AreOfKind s (row_of e.system t)) (sym sizes) (kinds t);
  dead = a.dead;
  named = a.named;
  live = a.live;
}

-- the hold of one region
one_set : (gs : List RegionState) (r : ℕ) (g h : RegionState) → slice_get gs r ≡ Some g → (q : ℕ) → ((q ≡ r) × (hold_in (slice_get (slice_set gs r h) q) ≡ h.hold)) ⊎ ((q ≢ r) × (hold_in (slice_get (slice_set gs r h) q) ≡ hold_in (slice_get gs q)))
one_set [] r g h e q = absurd (cc)
one_set (x ∷ gs) zero g h e zero = inl (refl, refl)
one_set (x ∷ gs) zero g h e (suc q) = inr (λ f. absurd (omega (arith, f)), refl)
one_set (x ∷ gs) (suc r) g h e zero = inr (λ f. absurd (omega (arith, f)), refl)
one_set (x ∷ gs) (suc r) g h e (suc q) = ⊎_elim (λ p. inl (ap suc p.0, p.1)) (λ p. inr (λ f. p.0 (omega (arith, f)), p.1)) (one_set gs r g h e q)

-- a step on one region
on_one : (c e : CoreState) (r : ℕ) (g h : RegionState) → IsWhole c → slice_get c.regions r ≡ Some g → e.system.sizes ≡ c.system.sizes → e.regions ≡ slice_set c.regions r h → ((t : ℕ) → AreOfKind c.system.sizes (row_of e.system t)) → ((u : ℕ) → S_of e u ≡ S_of c u) → FitsHold (S_of c) r h.hold → IsWhole e
on_one c e r g h w at sizes is kinds states fits =
    whole_of c e w sizes (ap length is ∙ length-set c.regions r h) kinds
    (agrees_same (λ q. hold_in (slice_get (slice_set c.regions r h) q)) (hold_of e) (S_of c) (S_of e) (λ q. ap (λ gs. hold_in (slice_get gs q)) is) states
    (agrees_hold (hold_of c) (λ q. hold_in (slice_get (slice_set c.regions r h) q)) (S_of c) r h.hold (one_set c.regions r g h at) fits (agrees_of c w)))

-- the hold of the region
held_as : (c : CoreState) (r : ℕ) (g : RegionState) → slice_get c.regions r ≡ Some g → hold_of c r ≡ g.hold
held_as c r g at = ap hold_in at

-- ---- the table
kind_cond : (s : Sizes) (b : Bool) (x y : Option TxnRow) → AreOfKind s x → AreOfKind s y → AreOfKind s (cond b x y)
kind_cond s true x y h k = h
kind_cond s false x y h k = k

puts_kinds : (s : Sizes) (old new : Table Pending) (t : ℕ) (row : Option TxnRow) → Puts old t row new → AreOfKind s row → ((u : ℕ) → AreOfKind s (get old u)) → (u : ℕ) → AreOfKind s (get new u)
puts_kinds s old new t row puts h all u = subst (AreOfKind s) (sym (puts u)) (kind_cond s (t == u) row (get old u) h (all u))

undos_kinds : (s : Sizes) (f : List Pending → List Pending) (o : Option TxnRow) → ((us : List Pending) → list_all (is_of_kind s) us ≡ true → list_all (is_of_kind s) (f us) ≡ true) → AreOfKind s o → AreOfKind s (with_undos f o)
undos_kinds s f None keeps h = tt
undos_kinds s f (Some row) keeps h = keeps row.undos h

pub less_kinds : (s : Sizes) (us : List Pending) → list_all (is_of_kind s) us ≡ true → list_all (is_of_kind s) (drop_last us) ≡ true
less_kinds s [] e = refl
less_kinds s (p ∷ []) e = refl
less_kinds s (p ∷ q ∷ us) e = and_from (is_of_kind s p) _ (left_true (is_of_kind s p) _ e) (less_kinds s (q ∷ us) (right_true (is_of_kind s p) _ e))

added_kind : (s : Sizes) (b : Block) (o : Option Undo) → undoes b.op b.outcome o ≡ true → on_kind s b.region b.op ≡ true → list_all (is_of_kind s) (undo_added b o) ≡ true
added_kind s b None e k = refl
added_kind s b (Some u) e k = and_from (is_of_kind s (pending b u)) true (undo_kind s b.region b.op b.outcome u e k) refl

more_kinds : (s : Sizes) (b : Block) → IsBlock b → on_kind s b.region b.op ≡ true → (us : List Pending) → list_all (is_of_kind s) us ≡ true → list_all (is_of_kind s) (us ++ undo_added b b.undo) ≡ true
more_kinds s b is k us e = list_all-append (is_of_kind s) us (undo_added b b.undo) ∙ and_from _ _ e (added_kind s b b.undo (right_true (is_within b.write b.read && is_outcome_of b.op b.outcome) (undoes b.op b.outcome b.undo) is.fit) k)

pub state_kinds : (s : Sizes) (st : State) (o : Option TxnRow) → AreOfKind s o → AreOfKind s (option_map (with_state st) o)
state_kinds s st None h = tt
state_kinds s st (Some row) h = h

commit_kinds : (s : Sizes) (o : Option TxnRow) → AreOfKind s (option_map committed_row o)
commit_kinds s None = tt
commit_kinds s (Some row) = refl

-- a step that leaves regions and table
left_whole : (c e : CoreState) → IsWhole c → e.system.sizes ≡ c.system.sizes → e.regions ≡ c.regions → e.system.table ≡ c.system.table → IsWhole e
left_whole c e w sizes is same =
    whole_of c e w sizes (ap length is) (λ t. subst (λ (T : Table Pending). AreOfKind c.system.sizes (get T t)) (sym same) (w.undos t))
    (agrees_same (hold_of c) (hold_of e) (S_of c) (S_of e) (λ q. ap (λ gs. hold_in (slice_get gs q)) is) (λ u. ap (λ (T : Table Pending). state_in (get T u)) same) (agrees_of c w))

-- one that changes one row
one_row : (c e : CoreState) (t : ℕ) (row : Option TxnRow) → IsWhole c → e.system.sizes ≡ c.system.sizes → e.regions ≡ c.regions → Puts c.system.table t row e.system.table → AreOfKind c.system.sizes row → FitsState (hold_of c) t (state_in row) → IsWhole e
one_row c e t row w sizes is puts kinds fits =
    whole_of c e w sizes (ap length is) (puts_kinds c.system.sizes c.system.table e.system.table t row puts kinds w.undos)
    (agrees_same (hold_of c) (hold_of e) (S_of e) (S_of e) (λ q. ap (λ gs. hold_in (slice_get gs q)) is) (λ u. refl)
    (agrees_state (hold_of c) (S_of c) (S_of e) t (state_in row) (puts_states c.system.table e.system.table t row puts) fits (agrees_of c w)))

-- ---- steps on one region
live_is : (o : Option Hold) → IsSomeAnd o (λ h. h.dead ≡ false) → (h : Hold) × (o ≡ Some h) × (h.dead ≡ false)
live_is None l = absurd l
live_is (Some h) l = (h, refl, l)

like_same : (o : Option Hold) → IsLike o o
like_same o = record { back = λ h e. (h, e, refl, refl); on = λ k e. (k, e, refl, refl) }

like_map : (f : Hold → Hold) → ((h : Hold) → (f h).txn ≡ h.txn) → ((h : Hold) → (f h).dead ≡ h.dead) → (o : Option Hold) → IsLike o (map_hold f o)
like_map f txn dead None = record { back = λ h e. absurd (cc); on = λ k e. absurd (cc) }
like_map f txn dead (Some h) = record {
  back = λ k e. (h, refl, sym (txn h) ∙ ap (λ (z : Hold). z.txn) (some_same e), sym (dead h) ∙ ap (λ (z : Hold). z.dead) (some_same e));
  on = λ k e. (f h, refl, ap (λ (z : Hold). z.txn) (sym (some_same e)) ∙ sym (txn h), ap (λ (z : Hold). z.dead) (sym (some_same e)) ∙ sym (dead h));
}

fits_region : (c : CoreState) (r : ℕ) (g : RegionState) (x : RegionStep) → IsWhole c → slice_get c.regions r ≡ Some g → MayChange x g → IsAlone c.system x g → FitsHold (S_of c) r (region_after x g).hold
fits_region c r g (Latch txn) w at may alone = fits_latched (hold_of c) (S_of c) r (record { txn = txn; dead = false; read = 0; xor = 0; write = 0 }) (held_as c r g at ∙ may) refl alone (agrees_of c w)
fits_region c r g (NoteReads mask) w at may alone = fits_like (hold_of c) (S_of c) r (map_hold (reading mask g.words) g.hold) (subst (λ o. IsLike o (map_hold (reading mask g.words) g.hold)) (sym (held_as c r g at)) (like_map (reading mask g.words) (λ h. refl) (λ h. refl) g.hold)) (agrees_of c w)
fits_region c r g (Update word value) w at may alone = fits_like (hold_of c) (S_of c) r (map_hold (writing word) g.hold) (subst (λ o. IsLike o (map_hold (writing word) g.hold)) (sym (held_as c r g at)) (like_map (writing word) (λ h. refl) (λ h. refl) g.hold)) (agrees_of c w)
fits_region c r g TakeBack w at may alone = let h = live_is g.hold alone in fits_ended (hold_of c) (S_of c) r h.0 (held_as c r g at ∙ h.1) h.2 (agrees_of c w)
fits_region c r g (Poke word mask) w at may alone = fits_like (hold_of c) (S_of c) r g.hold (subst (λ o. IsLike o g.hold) (sym (held_as c r g at)) (like_same g.hold)) (agrees_of c w)
fits_region c r g Check w at may alone = fits_like (hold_of c) (S_of c) r g.hold (subst (λ o. IsLike o g.hold) (sym (held_as c r g at)) (like_same g.hold)) (agrees_of c w)
fits_region c r g Die w at may alone = absurd alone
fits_region c r g (Clean A) w at may alone = fits_like (hold_of c) (S_of c) r g.hold (subst (λ o. IsLike o g.hold) (sym (held_as c r g at)) (like_same g.hold)) (agrees_of c w)
fits_region c r g (Clean B) w at may alone = fits_like (hold_of c) (S_of c) r g.hold (subst (λ o. IsLike o g.hold) (sym (held_as c r g at)) (like_same g.hold)) (agrees_of c w)

-- an operation is done
fits_touched : (c : CoreState) (r t : ℕ) (b : Block) (g : RegionState) → IsWhole c → slice_get c.regions r ≡ Some g → IsOpen g t b → FitsHold (S_of c) r (touched g).hold
fits_touched c r t b g w at is_open = fits_ended (hold_of c) (S_of c) r (record { txn = t; dead = false; read = b.read; xor = b.xor; write = b.write }) (held_as c r g at ∙ is_open.hold) refl (agrees_of c w)

-- a client dies
death_whole : (c : CoreState) (t : ℕ) (o : Option ℕ) → IsWhole c → MayDie c t o → IsWhole (died c t o)
death_whole c t None w may =
    whole_of c (died c t None) w refl refl (puts_kinds c.system.sizes c.system.table _ t _ (changed c.system.table t (with_state (Dead None))) (state_kinds c.system.sizes (Dead None) (row_of c.system t) (w.undos t)) w.undos)
    (agrees_dead_none c (S_of c) (S_of (died c t None)) t may.lives may.latched (λ u. puts_states c.system.table _ t _ (changed c.system.table t (with_state (Dead None))) u ∙ ap (λ z. cond (t == u) z (S_of c u)) (state_there (row_of c.system t) Live (Dead None) may.lives)) (agrees_of c w))
death_whole c t (Some r) w may =
    whole_of c (died c t (Some r)) w refl (ap length is ∙ length-set c.regions r (dead g)) (puts_kinds c.system.sizes c.system.table _ t _ (changed c.system.table t (with_state (Dead (Some r)))) (state_kinds c.system.sizes (Dead (Some r)) (row_of c.system t) (w.undos t)) w.undos)
    (agrees_dead_some c (hold_of (died c t (Some r))) (S_of c) (S_of (died c t (Some r))) t r k may.lives may.latched held.1 held.2 holds (λ u. puts_states c.system.table _ t _ (changed c.system.table t (with_state (Dead (Some r)))) u ∙ ap (λ z. cond (t == u) z (S_of c u)) (state_there (row_of c.system t) Live (Dead (Some r)) may.lives)) (agrees_of c w))
  where
    held : (h : Hold) × (hold_of c r ≡ Some h) × (h.txn ≡ t) × (h.dead ≡ false)
    held = may.latched.held r refl

    k : Hold
    k = held.0

    region : (g : RegionState) × (slice_get c.regions r ≡ Some g) × (g.hold ≡ Some k)
    region = region_with (slice_get c.regions r) k held.1

    g : RegionState
    g = region.0

    is : dead_in c.regions (Some r) ≡ slice_set c.regions r (dead g)
    is = dead_at c.regions r g region.1

    now : (dead g).hold ≡ Some (slain k)
    now = ap (map_hold slain) region.2

    holds : OneHold (hold_of c) r (Some (slain k)) (hold_of (died c t (Some r)))
    holds q = ⊎_elim
        (λ here. inl (here.0, ap (λ gs. hold_in (slice_get gs q)) is ∙ (here.1 ∙ now)))
        (λ there. inr (there.0, ap (λ gs. hold_in (slice_get gs q)) is ∙ there.1))
        (one_set c.regions r g (dead g) region.1 q)

-- ---- who logs
pub commits_live : (o : Option State) (t : ℕ) → may_log_in o (Commit t) ≡ true → o ≡ Some Live
commits_live None t e = absurd (cc)
commits_live (Some Live) t e = refl
commits_live (Some (Dead l)) t e = absurd (cc)
commits_live (Some (Cleaning l)) t e = absurd (cc)
commits_live (Some Committed) t e = absurd (cc)

-- the next number has no row
pub none_yet : (bases : Bases) (L : List Record) (c : CoreState) → RunsOn bases L c → row_of c.system c.system.next ≡ None
none_yet bases L c run = subst (λ (o : Option TxnState). IsRow o (row_of c.system c.system.next)) (run.counts.fresh c.system.next (omega (arith, run.counts.next))) (run.table c.system.next)

step_whole : (bases : Bases) (L M : List Record) (c d : CoreState) (x : Step) → RunsOn bases L c → IsWhole c → IsStep L c x M d → IsWhole d
step_whole bases L M c d Begins run w s = subst IsWhole (sym s.1.1) (one_row c _ c.system.next (Some fresh_row) w refl refl (added c.system.table c.system.next fresh_row) refl (fits_begun (hold_of c) (S_of c) c.system.next (ap state_in (none_yet bases L c run)) (agrees_of c w)))
step_whole bases L M c d (Operates t b) run w s = subst IsWhole (sym s.3.1) (on_one c _ b.region s.0 (touched s.0) w s.2.at refl refl
    (puts_kinds c.system.sizes c.system.table _ t _ (kept c.system.table t b b.undo) (undos_kinds c.system.sizes (λ us. us ++ undo_added b b.undo) (row_of c.system t) (more_kinds c.system.sizes b s.2.spelled.1 s.2.kind) (w.undos t)) w.undos)
    (puts_same c.system.table _ t _ (kept c.system.table t b b.undo) (undos_state (λ us. us ++ undo_added b b.undo) (row_of c.system t)))
    (fits_touched c b.region t b s.0 w s.2.at s.2.is_open))
step_whole bases L M c d (TakesBack t b) run w s = subst IsWhole (sym s.2.1) (on_one c _ b.region s.0 (touched s.0) w s.1.at refl refl
    (puts_kinds c.system.sizes c.system.table _ t _ (dropped c.system.table t) (undos_kinds c.system.sizes drop_last (row_of c.system t) (less_kinds c.system.sizes) (w.undos t)) w.undos)
    (puts_same c.system.table _ t _ (dropped c.system.table t) (undos_state drop_last (row_of c.system t)))
    (fits_touched c b.region t b s.0 w s.1.at s.1.is_open))
step_whole bases L M c d (Frees p b) run w s = subst IsWhole (sym s.2.1) (on_one c _ b.region s.0 (touched s.0) w s.1.at refl refl w.undos (λ u. refl) (fits_touched c b.region p b s.0 w s.1.at s.1.is_open))
step_whole bases L M c d (Answers t k a) run w s = subst IsWhole (sym s.3.1) (left_whole c _ w refl refl refl)
step_whole bases L M c d (Commits t) run w s = subst IsWhole (sym s.2.1) (one_row c _ t _ w refl refl (changed c.system.table t committed_row) (commit_kinds c.system.sizes (row_of c.system t))
    (subst (FitsState (hold_of c) t) (sym (commit_there (row_of c.system t) Live live)) (fits_committed (hold_of c) (S_of c) t live (agrees_of c w))))
  where
    live : S_of c t ≡ Some Live
    live = commits_live (S_of c t) t s.1.by
step_whole bases L M c d (Ends t) run w s = subst IsWhole (sym s.2.1) (one_row c _ t None w refl refl (ended c.system.table t) tt (fits_over (hold_of c) t s.1.1))
step_whole bases L M c d AuditBegins run w s = subst IsWhole (sym s.2.1) (left_whole c _ w refl refl refl)
step_whole bases L M c d (AuditEnds b found) run w s = subst IsWhole (sym s.1.1) (left_whole c _ w refl refl refl)
step_whole bases L M c d (Locks t k m) run w s = subst IsWhole (sym s.2.1) (left_whole c _ w refl refl refl)
step_whole bases L M c d (Refuses t k m h) run w s = subst IsWhole (sym s.2.1) (left_whole c _ w refl refl refl)
step_whole bases L M c d (OnRegion r x) run w s = subst IsWhole (sym s.3.1) (on_one c _ r s.0 (region_after x s.0) w s.1 refl refl w.undos (λ u. refl) (fits_region c r s.0 x w s.1 s.2.0 s.2.1))
step_whole bases L M c d (Passes b r) run w s = subst IsWhole (sym s.2.1) (on_one c _ r s.0 (checked s.0) w s.1 refl refl w.undos (λ u. refl) (fits_region c r s.0 Check w s.1 tt tt))
step_whole bases L M c d (Dies t o) run w s = subst IsWhole (sym s.1.1) (death_whole c t o w s.0)
step_whole bases L M c d (Claims t) run w s = subst IsWhole (sym s.2.1) (one_row c _ t _ w refl refl (changed c.system.table t (with_state (Cleaning s.0))) (state_kinds c.system.sizes (Cleaning s.0) (row_of c.system t) (w.undos t))
    (subst (FitsState (hold_of c) t) (sym (state_there (row_of c.system t) (Dead s.0) (Cleaning s.0) s.1)) (fits_claimed (hold_of c) (S_of c) t s.0 s.1 (agrees_of c w))))
step_whole bases L M c d (GivesBack t o) run w s = subst IsWhole (sym s.1.1) (one_row c _ t _ w refl refl (changed c.system.table t (with_state (Dead o))) (state_kinds c.system.sizes (Dead o) (row_of c.system t) (w.undos t))
    (subst (FitsState (hold_of c) t) (sym (state_there (row_of c.system t) (Cleaning s.0.was) (Dead o) s.0.claimed)) (fits_given_back c t o s.0)))
step_whole bases L M c d (Recovers r) run w s = subst IsWhole (sym s.3.1) (on_one c _ r s.0 (taken_back s.0) w s.1 refl refl w.undos (λ u. refl) (fits_recovered (hold_of c) (S_of c) r s.2.hold s.2.latched (held_as c r s.0 s.1 ∙ s.2.at) s.2.claimed (agrees_of c w)))
step_whole bases L M c d Stops run w s = subst IsWhole (sym s.1.1) (left_whole c _ w refl refl refl)
step_whole bases L M c d (Checkpoints b) run w s = subst IsWhole (sym s.1.1) (left_whole c _ w refl refl refl)
step_whole bases L M c d Takes run w s = subst IsWhole (sym s.1) (left_whole c _ w refl refl refl)
step_whole bases L M c d Flushes run w s = subst IsWhole (sym s.1.1) (left_whole c _ w refl refl refl)
step_whole bases L M c d (Faults n) run w s = subst IsWhole (sym s.2.1) (left_whole c _ w refl refl refl)
step_whole bases L M c d (ReadFails n) run w s = subst IsWhole (sym s.1.1) (left_whole c _ w refl refl refl)

pub whole_keeps : WholeKeeps
whole_keeps = step_whole

pub whole_course_keeps : WholeCourseKeeps
whole_course_keeps bases before m n [] at w s = subst (λ (k : Moment). IsWhole k.core) s w
whole_course_keeps bases before m n (x ∷ xs) at w s =
    whole_course_keeps bases before s.0 n xs (step_keeps_none bases before m s.0 x at s.1)
    (step_whole bases m.log s.0.log m.core s.0.core x (subst (λ M. RunsOn bases M m.core) (sym at.log) at.run.runs) w s.1.0) s.2

-- ---- a core that was just made
no_holds : (base : List (List ℕ)) (r : ℕ) → hold_in (slice_get (map loaded base) r) ≡ None
no_holds [] r = refl
no_holds (ws ∷ base) zero = refl
no_holds (ws ∷ base) (suc r) = no_holds base r

as_many : (base : List (List ℕ)) → length (map loaded base) ≡ length base
as_many [] = refl
as_many (ws ∷ base) = ap suc (as_many base)

pub load_is_whole : LoadIsWhole
load_is_whole s base g limit v whole = record {
  regions = as_many base ∙ whole;
  undos = λ t. subst (AreOfKind s) (sym (get-empty nat_cmp t)) tt;
  dead = λ r h e d. absurd (none r h e);
  named = λ t r e. absurd (nobody t r e);
  live = λ r h e d. absurd (none r h e);
}
  where
    none : (r : ℕ) (h : Hold) → hold_in (slice_get (map loaded base) r) ≡ Some h → ⊥
    none r h e = let f : None ≡ Some h = sym (no_holds base r) ∙ e in cc

    nobody : (t r : ℕ) → state_in (get {R = nat_cmp} empty t) ≡ Some (Dead (Some r)) → ⊥
    nobody t r e = let f : state_in None ≡ Some (Dead (Some r)) = ap state_in (sym (get-empty nat_cmp t)) ∙ e in cc
