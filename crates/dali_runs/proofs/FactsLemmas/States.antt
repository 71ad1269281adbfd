-- Where the state of a transaction's row comes from, step by step.
use Rattle.std.proofs.Common.{◌≡◌, ℕ, Bool, true, false, cond, List, Option, Some, None, refl, ap, sym, subst, ◌∙◌, inl, inr}
use Rattle.std.specs.Prelude.{◌==◌}
use Rattle.std.specs.FinMap.{get}
use Rattle.std.specs.Option.{option_map}
use Rattle.std.proofs.lemmas.Bool.{eqb-true}
use Rattle.dali_lists.proofs.Options.{some_same}
use Rattle.dali_record.specs.declared.operations.Pending.{Pending}
use Rattle.dali_att.specs.declared.state.State.{State}
use Rattle.dali_att.specs.declared.state.State.TheVariants.{Live, Dead, Cleaning, Committed}
use Rattle.dali_att.specs.Table.{Table, fresh_row, with_state}
use Rattle.dali_runs.specs.State.{TxnRow, CoreState, row_of, state_in, state_of}
use Rattle.dali_runs.specs.Steps.{committed_row}
use Rattle.dali_runs.specs.Courses.{Begins, Operates, TakesBack, Answers, Commits, Ends, AuditEnds, OnRegion, Dies, Claims, GivesBack, Recovers, Stops, Checkpoints, Takes, Flushes, ReadFails}
use Rattle.dali_runs.proofs.Tables.{Puts, with_undos, changed, added, ended, kept, dropped}
use Rattle.dali_runs.proofs.WholeSteps.{commits_live, none_yet}
use Rattle.dali_runs.specs.Facts.States.{CameFrom, StatesComeFrom}

abbrev Comes : Option TxnRow → Option TxnRow → Type 0
Comes old new = (st : State) → state_in new ≡ Some st → CameFrom (state_in old) st

stays : (st : State) → CameFrom (Some st) st
stays Live = inl refl
stays (Dead o) = inl refl
stays (Cleaning o) = inl refl
stays Committed = inl refl

comes_same : (old new : Option TxnRow) → state_in new ≡ state_in old → Comes old new
comes_same old new same st e = subst (λ (o : Option State). CameFrom o st) (sym (sym same ∙ e)) (stays st)

-- one row of the table is put or removed
one_row : (old new : Table Pending) (t : ℕ) (row : Option TxnRow) → Puts old t row new → Comes (get old t) row → (u : ℕ) → Comes (get old u) (get new u)
one_row old new t row puts comes u = subst (λ (o : Option TxnRow). Comes (get old u) o) (sym (puts u)) (by_test (t == u) refl)
  where
    by_test : (b : Bool) → (t == u) ≡ b → Comes (get old u) (cond b row (get old u))
    by_test true e = subst (λ v. Comes (get old v) row) (eqb-true t u e) comes
    by_test false e = comes_same (get old u) (get old u) refl

undos_only : (f : List Pending → List Pending) (o : Option TxnRow) → Comes o (with_undos f o)
undos_only f None = comes_same None None refl
undos_only f (Some row) = comes_same (Some row) (with_undos f (Some row)) refl

begins : (old : Option TxnRow) → old ≡ None → Comes old (Some fresh_row)
begins old none Live e = inr (ap state_in none)
begins old none (Dead o) e = absurd (cc)
begins old none (Cleaning o) e = absurd (cc)
begins old none Committed e = absurd (cc)

commits : (o : Option TxnRow) → state_in o ≡ Some Live → Comes o (option_map committed_row o)
commits None live st e = absurd (cc)
commits (Some row) live Live e = absurd (cc)
commits (Some row) live (Dead o) e = absurd (cc)
commits (Some row) live (Cleaning o) e = absurd (cc)
commits (Some row) live Committed e = inr live

ends : (o : Option TxnRow) → Comes o None
ends o st e = absurd (cc)

-- the state of a row becomes another one
turns : (o : Option TxnRow) (old new : State) → state_in o ≡ Some old → CameFrom (Some old) new → Comes o (option_map (with_state new) o)
turns None old new was may st e = absurd (cc)
turns (Some row) old new was may st e = subst (λ (p : Option State). CameFrom p st) (sym was) (subst (CameFrom (Some old)) (some_same e) may)

same_table : (c d : CoreState) (t : ℕ) → d.system.table ≡ c.system.table → Comes (row_of c.system t) (row_of d.system t)
same_table c d t same = comes_same (row_of c.system t) (row_of d.system t) (ap (λ (z : Table Pending). state_in (get z t)) same)

one_changed : (c d : CoreState) (new : Table Pending) (u : ℕ) (row : Option TxnRow) (t : ℕ) → d.system.table ≡ new → Puts c.system.table u row new → Comes (row_of c.system u) row → Comes (row_of c.system t) (row_of d.system t)
one_changed c d new u row t is puts comes = subst (λ (z : Table Pending). Comes (row_of c.system t) (get z t)) (sym is) (one_row c.system.table new u row puts comes t)

abbrev table_of : CoreState → Table Pending
table_of c = c.system.table

pub states_come_from : StatesComeFrom
states_come_from bases L M c d Begins run s t = one_changed c d _ c.system.next _ t (ap table_of s.1.1) (added c.system.table c.system.next fresh_row) (begins (row_of c.system c.system.next) (none_yet bases L c run))
states_come_from bases L M c d (Operates u b) run s t = one_changed c d _ u _ t (ap table_of s.3.1) (kept c.system.table u b b.undo) (undos_only _ (row_of c.system u))
states_come_from bases L M c d (TakesBack u b) run s t = one_changed c d _ u _ t (ap table_of s.2.1) (dropped c.system.table u) (undos_only _ (row_of c.system u))
states_come_from bases L M c d (Answers u k a) run s t = same_table c d t (ap table_of s.3.1)
states_come_from bases L M c d (Commits u) run s t = one_changed c d _ u _ t (ap table_of s.2.1) (changed c.system.table u committed_row) (commits (row_of c.system u) (commits_live (state_of c.system u) u s.1.by))
states_come_from bases L M c d (Ends u) run s t = one_changed c d _ u _ t (ap table_of s.2.1) (ended c.system.table u) (ends (row_of c.system u))
states_come_from bases L M c d (AuditEnds b found) run s t = same_table c d t (ap table_of s.1.1)
states_come_from bases L M c d (OnRegion r x) run s t = same_table c d t (ap table_of s.3.1)
states_come_from bases L M c d (Dies u o) run s t = one_changed c d _ u _ t (ap table_of s.1.1) (changed c.system.table u (with_state (Dead o))) (turns (row_of c.system u) Live (Dead o) s.0.lives (inr (inl refl)))
states_come_from bases L M c d (Claims u) run s t = one_changed c d _ u _ t (ap table_of s.2.1) (changed c.system.table u (with_state (Cleaning s.0))) (turns (row_of c.system u) (Dead s.0) (Cleaning s.0) s.1 (inr refl))
states_come_from bases L M c d (GivesBack u o) run s t = one_changed c d _ u _ t (ap table_of s.1.1) (changed c.system.table u (with_state (Dead o))) (turns (row_of c.system u) (Cleaning s.0.was) (Dead o) s.0.claimed (inr (inr (s.0.was, refl))))
states_come_from bases L M c d (Recovers r) run s t = same_table c d t (ap table_of s.3.1)
states_come_from bases L M c d Stops run s t = same_table c d t (ap table_of s.1.1)
states_come_from bases L M c d (Checkpoints b) run s t = same_table c d t (ap table_of s.1.1)
states_come_from bases L M c d Takes run s t = same_table c d t (ap table_of s.1)
states_come_from bases L M c d Flushes run s t = same_table c d t (ap table_of s.1.1)
states_come_from bases L M c d (ReadFails n) run s t = same_table c d t (ap table_of s.1.1)
states_come_from bases L M c d _ run s t = same_table c d t (ap table_of s.2.1)
