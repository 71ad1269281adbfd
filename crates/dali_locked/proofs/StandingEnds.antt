-- How a taking back begins, and that the transaction may end behind it.
use Rattle.std.proofs.Common.{◌≡◌, ◌⊎◌, inl, inr, ℕ, ◌<◌, ◌≤◌, Bool, true, false, List, [], ◌∷◌, ◌++◌, length, drop, Option, Some, None, refl, ap, sym, subst, ◌∙◌, arith}
use Rattle.std.specs.Prelude.{slice_get, ◌==◌, IsSome, is_some, if◌then◌else◌, nat_lt}
use Rattle.std.specs.FinMap.{get}
use Rattle.std.proofs.lemmas.Bool.{eqb-true, ltb-false}
use Rattle.dali_runs.proofs.CountsLemmas.Lists.{some_same}
use Rattle.dali_record.specs.declared.operations.Pending.{Pending}
use Rattle.dali_record.specs.declared.records.Record.{Record}
use Rattle.dali_record.specs.declared.records.Record.TheVariants.{Ended}
use Rattle.dali_record.specs.Log.{last_of}
use Rattle.dali_record.specs.Legal.{TxnState, Unbegun, Active, Working, Over, Committed as Ending, txn_state}
use Rattle.dali_region.specs.declared.Hold.{Hold}
use Rattle.dali_att.specs.declared.state.State.{State}
use Rattle.dali_att.specs.declared.state.State.TheVariants.{Live, Dead, Cleaning, Committed}
use Rattle.dali_att.specs.Table.{Table, undos_at, last_of as table_last}
use Rattle.dali_runs.specs.State.{SystemState, CoreState, TxnRow, state_in, state_of, hold_of}
use Rattle.dali_runs.specs.Run.{Bases, IsRow}
use Rattle.dali_runs.specs.Keeps.{IsFree, IsNext, may_log_in}
use Rattle.dali_runs.specs.Regions.{is_alive}
use Rattle.dali_runs.proofs.Tables.{last_same}
use Rattle.dali_runs.proofs.FactsLemmas.Ends.{empty_ends}
use Rattle.dali_system.specs.declared.take_back.TakeBack.{TakeBack}
use Rattle.dali_system.specs.TakenBack.{next_undo}
use Rattle.dali_crash.specs.Checkpoints.{Point}
use Rattle.dali_crash.specs.Traces.{Start, bases_of}
use Rattle.dali_notes.specs.History.{IsSeen, AllMay}
use Rattle.dali_concurrent.specs.Entries.{client_note, system_note, actor_by, live_by}
use Rattle.dali_concurrent.specs.Rules.{Outset, count_of, log_by, state_by, NoneLive, dead_by}
use Rattle.dali_concurrent.specs.Told.{History, plain, core_told}
use Rattle.dali_concurrent.specs.Kept.{SystemTold}
use Rattle.dali_concurrent.specs.Holds.{IsLed}
use Rattle.dali_concurrent.proofs.Kept.{system_meets}
use Rattle.dali_concurrent.proofs.Holds.{states_are_told, runs_there, told_live, told_dead}
use Rattle.dali_concurrent.proofs.Own.{sizes_told}
use Rattle.dali_locked.specs.Begun.{Begun, outset, may_add, Of, Led}
use Rattle.dali_locked.specs.Sights.{ClientSight, Knows}
use Rattle.dali_locked.specs.SystemSteps.{MayEnd}
use Rattle.dali_locked.specs.Undoing.{can_undo, HasUndos, StandsFree, MayUndo, Undoes}
use Rattle.dali_locked.proofs.RegionAdding.{led_on}
use Rattle.dali_locked.proofs.RegionAmid.{free_live, free_dead}
use Rattle.dali_locked.proofs.RegionUndo.{alive_of, undos_are}
use Rattle.dali_locked.proofs.Standing.{free_stays}

-- ---- it begins
-- what may be taken back is at work
works : (q : Option TxnState) (row : Option TxnRow) → IsRow q row → can_undo (state_in row) ≡ true → (w : Working) × (q ≡ Some (Active w))
works None row is can = absurd is
works (Some Unbegun) row is can = absurd (let e : false ≡ true = sym (ap (λ r. can_undo (state_in r)) is) ∙ can in cc)
works (Some (Active w)) row is can = (w, refl)
works (Some (Ending dead)) row is can = absurd (let e : false ≡ true = sym (ap (λ r. can_undo (state_in r)) is) ∙ can in cc)
works (Some Over) row is can = absurd (let e : false ≡ true = sym (ap (λ r. can_undo (state_in r)) is) ∙ can in cc)

-- no region has a hold of it
none_held : (bases : Bases) (p : Point) (o : Outset) (t : ℕ) (T : History) → IsLed bases p o T → NoneLive (plain T) t → ((r : ℕ) → r < count_of o → dead_by o r (plain T) ≡ Some t → ⊥) → IsFree (core_told o T) t
none_held bases p o t T led live dead q h there = by_test (h.txn == t) refl
  where
    other : h.txn ≡ t → (n : Bool) → h.dead ≡ n → ⊥
    other same false e = let w = told_live bases p o T led q h there e in live q w.0 (w.1 ∙ ap (λ n. Some (n, w.0)) same)
    other same true e = let w = told_dead bases p o T led q h there e in dead q w.0 (w.1 ∙ ap Some same)

    by_test : (n : Bool) → (h.txn == t) ≡ n → n ≡ false
    by_test false e = refl
    by_test true e = absurd (other (eqb-true h.txn t e) h.dead refl)

abbrev CanUndo : Option State → Option TxnState → Type 0
CanUndo state rules = can_undo state ≡ true

stands_open : (c t : ℕ) (o : Outset) (T : History) (q : State) → actor_by t (plain T) ≡ Some c → state_by o (plain T) t ≡ Some q → can_undo (Some q) ≡ true → IsFree (core_told o T) t → StandsFree c t CanUndo o T
stands_open c t o T q actor state may free =
    let can : can_undo (state_by o (plain T) t) ≡ true = ap can_undo state ∙ may in
    record { stands = record { tends = record { actor = actor; alive = alive_of (state_by o (plain T) t) can }; at = can }; free = free }

may_undo : (b : Begun) (client : ClientSight) (t : ℕ) → Led b client.seen → MayUndo b client t → Of b (StandsFree client.id t CanUndo) client.seen
may_undo b client t led (inl rests) s p each = let is = rests s p each in stands_open client.id t (outset b s p) client.seen Live is.acts.actor is.acts.lives refl is.may.free
may_undo b client t led (inr (inl drives)) s p each =
    let is = drives.2 s p each in
    subst (λ n. StandsFree client.id n CanUndo (outset b s p) client.seen) drives.1 (stands_open client.id drives.0.txn (outset b s p) client.seen Live is.acts.actor is.acts.lives refl is.at.free)
may_undo b client t led (inr (inr gives)) s p each =
    let is = gives s p each in
    stands_open client.id t (outset b s p) client.seen (Cleaning is.latched) is.cleans.actor is.cleans.state refl (none_held (bases_of s) p (outset b s p) t client.seen (led s p each).led is.none_live is.none_dead)

undo_begins : (bases : Bases) (p : Point) (o : Outset) (c t n : ℕ) (y : SystemState) (T : History) → IsLed bases p o T → y ≡ (core_told o T).system → StandsFree c t CanUndo o T
    → StandsFree c t (HasUndos (next_undo (undos_at y.table t) n) n) o T
undo_begins bases p o c t n y T led is_y at =
    let core = core_told o T in
    let run = runs_there bases p o T led in
    let works_there = works (txn_state core.system.sizes t (log_by o (plain T))) (get core.system.table t) (run.table t) (ap can_undo (states_are_told bases p o T t led) ∙ at.stands.at) in
    record {
      stands = record {
        tends = at.stands.tends;
        at = record {
          able = at.stands.at;
          working = works_there.0;
          at_work = subst (λ s. txn_state s t (log_by o (plain T)) ≡ Some (Active works_there.0)) (sizes_told bases p o T led) works_there.1;
          next = ap (λ (z : SystemState). next_undo (undos_at z.table t) n) is_y ∙ ap (λ us. next_undo us n) (undos_are core.system.sizes (log_by o (plain T)) t works_there.0 core.system.table works_there.1 (run.table t));
        };
      };
      free = at.free;
    }

pub undo_known : (b : Begun) (client : ClientSight) (t n : ℕ) (y : SystemState) (theirs now : History) → Led b client.seen → Of b (λ o T. SystemTold o y T) theirs
    → MayUndo b client t → IsSeen now (client_note b.count client.id) client.seen → IsSeen now system_note theirs → AllMay (may_add b) now
    → Of b (StandsFree client.id t (HasUndos (next_undo (undos_at y.table t) n) n)) now
undo_known b client t n y theirs now led told may mine its all s p each =
    let from = led_on b client.seen now led all s p each in
    let o = outset b s p in
    let seen : IsSeen now (client_note (count_of o) client.id) client.seen = subst (λ k. IsSeen now (client_note k client.id) client.seen) (sym from.count) mine in
    undo_begins (bases_of s) p o client.id t n y now from.led (system_meets (bases_of s) p o theirs now y its from.led.all (told s p each))
    (free_stays (bases_of s) p o client.id t CanUndo client.seen now from.led seen (may_undo b client t led may s p each))

-- ---- it is over
last_there : (u : Pending) (us : List Pending) → last_of (u ∷ us) ≡ None → ⊥
last_there u [] e = absurd (cc)
last_there u (v ∷ us) e = last_there v us e

none_is_last : (us : List Pending) → next_undo us 0 ≡ None → us ≡ []
none_is_last [] e = refl
none_is_last (u ∷ us) e = absurd (by_test (nat_lt 0 (length (u ∷ us))) refl e)
  where
    by_test : (b : Bool) → nat_lt 0 (length (u ∷ us)) ≡ b → (if b then table_last (u ∷ us) else None) ≡ None → ⊥
    by_test true is f = last_there u us (sym (last_same (u ∷ us)) ∙ f)
    by_test false is f = let low : length (u ∷ us) ≤ 0 = ltb-false 0 (length (u ∷ us)) is in omega (arith, low)

may_end : (q : Option State) (t : ℕ) → can_undo q ≡ true → may_log_in q (Ended t) ≡ true
may_end (Some Live) t e = refl
may_end (Some (Cleaning latched)) t e = refl
may_end (Some (Dead latched)) t e = absurd (cc)
may_end (Some Committed) t e = absurd (cc)
may_end None t e = absurd (cc)

pub undone_may_end : (bases : Bases) (p : Point) (o : Outset) (c : ℕ) (tb : TakeBack) (T : History) → IsLed bases p o T → Undoes c tb o T → tb.next ≡ None → tb.down_to ≡ 0 → MayEnd c tb.txn o T
undone_may_end bases p o c tb T led at none all =
    let stood = at.stands.at in
    let undos : stood.working.undos ≡ [] = none_is_last stood.working.undos (sym (stood.next ∙ ap (next_undo stood.working.undos) all) ∙ none) in
    record {
      actor = at.stands.tends.actor;
      by = may_end (state_by o (plain T) tb.txn) tb.txn stood.able;
      next = ap is_some (empty_ends o.old.system.sizes (log_by o (plain T)) tb.txn stood.working stood.at_work undos);
      none_live = free_live bases p o tb.txn T led at.free;
      none_dead = free_dead bases p o tb.txn T led at.free;
    }
