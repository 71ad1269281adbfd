-- How far transactions have come behind a change of one row.
use Rattle.std.proofs.Common.{◌≡◌, ℕ, Bool, true, false, cond, List, [], ◌∷◌, ◌++◌, Option, Some, None, IsSome, refl, ap, sym, subst, ◌∙◌}
use Rattle.std.specs.Prelude.{◌==◌, is_some}
use Rattle.std.specs.Option.{option_map, option_map_or}
use Rattle.std.specs.Ordering.{nat_cmp}
use Rattle.std.specs.FinMap.{empty, get, insert, remove, get-empty}
use Rattle.std.proofs.lemmas.List.{append-nil}
use Rattle.std.proofs.lemmas.Bool.{eqb-true}
use Rattle.dali_lists.proofs.Numbers.{eqb-self}
use Rattle.dali_att.specs.declared.state.State.{State}
use Rattle.dali_att.specs.declared.state.State.TheVariants.{Live, Dead, Cleaning, Committed}
use Rattle.dali_att.specs.Table.{Row, Table, fresh_row, state_at, undos_at, with_row, with_undo, with_state, without_last, without_undos}
use Rattle.dali_record.specs.declared.operations.Block.{Block}
use Rattle.dali_record.specs.declared.operations.Pending.{Pending}
use Rattle.dali_record.specs.declared.operations.Undo.{Undo}
use Rattle.dali_record.specs.declared.records.Record.{Record}
use Rattle.dali_record.specs.declared.records.Record.TheVariants.{Begin, Forward, Commit, Ended, Restarted, Back}
use Rattle.dali_record.specs.Files.{is_restarted}
use Rattle.dali_record.specs.Log.{drop_last}
use Rattle.dali_resume.specs.Tests.{Status, Idle, Running, Waiting, is_running, status_next}
use Rattle.dali_runs.proofs.Tables.{Puts, with_undos, added, changed, ended, dropped}
use Rattle.dali_redo.specs.Redoing.{status_by, status_at, is_of}
use Rattle.dali_redo.specs.Steps.{Advances}

abbrev pub status_of : Option (Row Pending) → Status
status_of o = status_by (option_map (λ row. row.state) o) (option_map_or (λ row. row.undos) o [])

pub put_status : (m n : Table Pending) (t : ℕ) (row : Option (Row Pending)) → Puts m t row n → (u : ℕ) → status_at n u ≡ cond (t == u) (status_of row) (status_at m u)
put_status m n t row puts u = ap status_of (puts u) ∙ split (t == u)
  where
    split : (b : Bool) → status_of (cond b row (get m u)) ≡ cond b (status_of row) (status_of (get m u))
    split true = refl
    split false = refl

-- ---- a record of another
pub still_idle : (u : ℕ) (r : Record) → is_of u r ≡ false → status_next u Idle r ≡ Idle
still_idle u (Begin t) e = rw e refl
still_idle u _ e = refl

still_running : (u : ℕ) (us : List Pending) (r : Record) → is_restarted r ≡ false → is_of u r ≡ false → status_next u (Running us) r ≡ Running us
still_running u us (Forward t b) s e = rw e refl
still_running u us (Commit t) s e = rw e refl
still_running u us (Ended t) s e = rw e refl
still_running u us (Restarted rs ds) s e = absurd (cc)
still_running u us (Back t b) s e = rw e refl
still_running u us _ s e = refl

still_waiting : (u : ℕ) (r : Record) → is_restarted r ≡ false → is_of u r ≡ false → status_next u Waiting r ≡ Waiting
still_waiting u (Ended t) s e = rw e refl
still_waiting u (Restarted rs ds) s e = absurd (cc)
still_waiting u _ s e = refl

pub still : (u : ℕ) (z : Status) (r : Record) → is_restarted r ≡ false → is_of u r ≡ false → status_next u z r ≡ z
still u Idle r s e = still_idle u r e
still u (Running us) r s e = still_running u us r s e
still u Waiting r s e = still_waiting u r s e

-- one row is put, and the record is of that transaction
pub at_one : (m n : Table Pending) (t : ℕ) (row : Option (Row Pending)) (r : Record) → Puts m t row n → is_restarted r ≡ false → ((u : ℕ) → (t == u) ≡ false → is_of u r ≡ false)
    → status_of row ≡ status_next t (status_at m t) r → Advances m n r
at_one m n t row r puts s other here u = put_status m n t row puts u ∙ by_test (t == u) refl
  where
    by_test : (b : Bool) → (t == u) ≡ b → cond b (status_of row) (status_at m u) ≡ status_next u (status_at m u) r
    by_test true e = subst (λ v. status_of row ≡ status_next v (status_at m v) r) (eqb-true t u e) here
    by_test false e = sym (still u (status_at m u) r s (other u e))

-- or no row is put, and its status stays
pub at_none : (m : Table Pending) (t : ℕ) (r : Record) → is_restarted r ≡ false → ((u : ℕ) → (t == u) ≡ false → is_of u r ≡ false) → status_at m t ≡ status_next t (status_at m t) r → Advances m m r
at_none m t r s other here u = by_test (t == u) refl
  where
    by_test : (b : Bool) → (t == u) ≡ b → status_at m u ≡ status_next u (status_at m u) r
    by_test true e = subst (λ v. status_at m v ≡ status_next v (status_at m v) r) (eqb-true t u e) here
    by_test false e = sym (still u (status_at m u) r s (other u e))

-- ---- Begin
pub begins_new : (m : Table Pending) (t : ℕ) → state_at m t ≡ None → Advances m (insert m t fresh_row) (Begin t)
begins_new m t none = at_one m (insert m t fresh_row) t (Some fresh_row) (Begin t) (added m t fresh_row) refl (λ u e. e) here
  where
    here : Running [] ≡ status_next t (status_at m t) (Begin t)
    here = rw (none, eqb-self t) refl

pub begins_old : (m : Table Pending) (t : ℕ) (z : State) → state_at m t ≡ Some z → Advances m m (Begin t)
begins_old m t z some = at_none m t (Begin t) refl (λ u e. e) (rw some (same z))
  where
    same : (y : State) → status_by (Some y) (undos_at m t) ≡ status_next t (status_by (Some y) (undos_at m t)) (Begin t)
    same Live = refl
    same (Dead l) = refl
    same (Cleaning l) = refl
    same Committed = refl

-- ---- Forward
pub works_some : (m : Table Pending) (t : ℕ) → is_running (status_at m t) ≡ true → IsSome (get m t)
works_some m t h = by_row (get m t) h
  where
    by_row : (o : Option (Row Pending)) → is_running (status_of o) ≡ true → IsSome o
    by_row None e = absurd (cc)
    by_row (Some row) e = refl

pub adds_none_idle : (m : Table Pending) (t : ℕ) (b : Block) → is_running (status_at m t) ≡ false → Advances m m (Forward t b)
adds_none_idle m t b h = at_none m t (Forward t b) refl (λ u e. e) (by_status (status_at m t) h)
  where
    by_status : (z : Status) → is_running z ≡ false → z ≡ status_next t z (Forward t b)
    by_status Idle e = refl
    by_status (Running us) e = absurd (cc)
    by_status Waiting e = refl

pub adds_none : (m : Table Pending) (t : ℕ) (b : Block) → b.undo ≡ None → Advances m m (Forward t b)
adds_none m t b none = at_none m t (Forward t b) refl (λ u e. e) (by_status (status_at m t))
  where
    by_status : (z : Status) → z ≡ status_next t z (Forward t b)
    by_status Idle = refl
    by_status (Running us) = rw (eqb-self t, none, append-nil us) refl
    by_status Waiting = refl

pub adds_one : (m : Table Pending) (t : ℕ) (b : Block) (undo : Undo) → is_running (status_at m t) ≡ true → b.undo ≡ Some undo
    → Advances m (with_row m t (with_undo (record { key = b.key; region = b.region; undo = undo }))) (Forward t b)
adds_one m t b undo h is = at_one m _ t (option_map (with_undo p) (get m t)) (Forward t b) (changed m t (with_undo p)) refl (λ u e. e) (by_row (get m t) h)
  where
    p : Pending
    p = record { key = b.key; region = b.region; undo = undo }

    by_state : (s : State) (us : List Pending) → is_running (status_by (Some s) us) ≡ true
        → status_by (Some s) (us ++ record { key = b.key; region = b.region; undo = undo } ∷ []) ≡ status_next t (status_by (Some s) us) (Forward t b)
    by_state Live us e = rw (eqb-self t, is) refl
    by_state (Dead l) us e = rw (eqb-self t, is) refl
    by_state (Cleaning l) us e = rw (eqb-self t, is) refl
    by_state Committed us e = absurd (cc)

    by_row : (o : Option (Row Pending)) → is_running (status_of o) ≡ true → status_of (option_map (with_undo (record { key = b.key; region = b.region; undo = undo })) o) ≡ status_next t (status_of o) (Forward t b)
    by_row None e = absurd (cc)
    by_row (Some row) e = by_state row.state row.undos e

-- ---- Back
pub removes_one : (m : Table Pending) (t : ℕ) (b : Block) → Advances m (with_row m t without_last) (Back t b)
removes_one m t b = at_one m _ t (with_undos drop_last (get m t)) (Back t b) (dropped m t) refl (λ u e. e) (by_row (get m t))
  where
    by_state : (s : State) (us : List Pending) → status_by (Some s) (drop_last us) ≡ status_next t (status_by (Some s) us) (Back t b)
    by_state Live us = rw (eqb-self t) refl
    by_state (Dead l) us = rw (eqb-self t) refl
    by_state (Cleaning l) us = rw (eqb-self t) refl
    by_state Committed us = refl

    by_row : (o : Option (Row Pending)) → status_of (with_undos drop_last o) ≡ status_next t (status_of o) (Back t b)
    by_row None = refl
    by_row (Some row) = by_state row.state row.undos

-- ---- Commit
pub commits_none : (m : Table Pending) (t : ℕ) → state_at m t ≡ None → Advances m m (Commit t)
commits_none m t none = at_none m t (Commit t) refl (λ u e. e) (rw none refl)

some_row : (m : Table Pending) (t : ℕ) (z : State) → state_at m t ≡ Some z → (row : Row Pending) × (get m t ≡ Some row)
some_row m t z e = by_row (get m t) refl e
  where
    by_row : (o : Option (Row Pending)) → get m t ≡ o → option_map (λ row. row.state) o ≡ Some z → (row : Row Pending) × (get m t ≡ Some row)
    by_row None g f = absurd (cc)
    by_row (Some row) g f = (row, g)

cleared_row : (m : Table Pending) (t : ℕ) (row : Row Pending) → get m t ≡ Some row → get (with_row m t without_undos) t ≡ Some (without_undos row)
cleared_row m t row e = changed m t without_undos t ∙ rw (eqb-self t, e) refl

pub cleared_there : (m : Table Pending) (t : ℕ) (z : State) → state_at m t ≡ Some z → IsSome (get (with_row m t without_undos) t)
cleared_there m t z e = let w = some_row m t z e in ap is_some (cleared_row m t w.0 w.1)

pub commits_one : (m : Table Pending) (t : ℕ) (z : State) → state_at m t ≡ Some z → Advances m (with_row (with_row m t without_undos) t (with_state Committed)) (Commit t)
commits_one m t z e = at_one m _ t (Some (record { state = Committed; undos = [] })) (Commit t) puts refl (λ u f. f) (rw e (by_state z))
  where
    w : (row : Row Pending) × (get m t ≡ Some row)
    w = some_row m t z e

    puts : Puts m t (Some (record { state = Committed; undos = [] })) (with_row (with_row m t without_undos) t (with_state Committed))
    puts u = changed (with_row m t without_undos) t (with_state Committed) u ∙ by_test (t == u) refl
      where
        here : get (with_row m t without_undos) t ≡ Some (without_undos w.0)
        here = cleared_row m t w.0 w.1

        by_test : (b : Bool) → (t == u) ≡ b
            → cond b (option_map (with_state Committed) (get (with_row m t without_undos) t)) (get (with_row m t without_undos) u) ≡ cond b (Some (record { state = Committed; undos = [] })) (get m u)
        by_test true f = ap (option_map (with_state Committed)) here
        by_test false f = changed m t without_undos u ∙ rw f refl

    by_state : (y : State) → Waiting ≡ status_next t (status_by (Some y) (undos_at m t)) (Commit t)
    by_state Live = rw (eqb-self t) refl
    by_state (Dead l) = rw (eqb-self t) refl
    by_state (Cleaning l) = rw (eqb-self t) refl
    by_state Committed = refl

-- ---- Ended
pub ends_one : (m : Table Pending) (t : ℕ) → Advances m (remove m t) (Ended t)
ends_one m t = at_one m (remove m t) t None (Ended t) (ended m t) refl (λ u e. e) (by_status (status_at m t))
  where
    by_status : (z : Status) → Idle ≡ status_next t z (Ended t)
    by_status Idle = refl
    by_status (Running us) = rw (eqb-self t) refl
    by_status Waiting = rw (eqb-self t) refl

-- ---- Restarted, and records that leave it as it is
pub idle_behind : (u : ℕ) (z : Status) (rs ds : List ℕ) → Idle ≡ status_next u z (Restarted rs ds)
idle_behind u Idle rs ds = refl
idle_behind u (Running us) rs ds = refl
idle_behind u Waiting rs ds = refl

pub none_there : (u : ℕ) → status_at empty u ≡ Idle
none_there u = ap status_of (get-empty {X = Row Pending} nat_cmp u)

pub restarts : (m : Table Pending) (rs ds : List ℕ) → Advances m empty (Restarted rs ds)
restarts m rs ds u = none_there u ∙ idle_behind u (status_at m u) rs ds
