-- A walk that has left the home of its key never comes back to it: so a look at the home begins a call.
use Rattle.std.proofs.Common.{◌≡◌, ℕ, ◌+◌, ◌<◌, ◌≢◌, ◌⊎◌, inl, inr, ⊎_elim, Bool, true, false, cond, List, [], ◌∷◌, Option, Some, None, refl, sym, subst, arith, fold}
use Rattle.std.specs.Prelude.{◌==◌, ⊤, nat_lt, if◌then◌else◌, ◌&&◌, bytes_eq}
use Rattle.std.proofs.Math.Nat.{mod-lt}
use Rattle.std.proofs.lemmas.Bool.{ltb-true}
use Rattle.std.proofs.lemmas.Bool.Decides.{Decides-eqb}
use Rattle.dali_geometry.specs.Sizes.{Sizes}
use Rattle.dali_geometry.specs.Places.{home, next_index, heap_start, next_heap, is_place, region_at, cell_at}
use Rattle.dali_record.specs.declared.operations.Op.{Op}
use Rattle.dali_record.specs.declared.operations.Op.TheVariants.{Look, Add, KillEntry, Put, Read, Change, KillCell}
use Rattle.dali_record.specs.declared.operations.Outcome.{Outcome}
use Rattle.dali_record.specs.declared.operations.Outcome.TheVariants.{Found, Absent, Added, NoEntry, Killed, Put as PutIn, NoCell, Value, Changed, NotLive, OtherKey, OddLength}
use Rattle.dali_record.specs.declared.records.Call.TheVariants.{Insert}
use Rattle.dali_record.specs.declared.records.Answer.TheVariants.{FullHeap, FullIndex}
use Rattle.dali_record.specs.declared.operations.Block.{Block}
use Rattle.dali_record.specs.declared.operations.Pending.{Pending}
use Rattle.dali_record.specs.declared.records.Record.{Record}
use Rattle.dali_record.specs.declared.records.Record.TheVariants.{Begin, Forward, Done, Commit, Ended, Solo, Restarted, Back}
use Rattle.dali_record.specs.Operations.{undo_op}
use Rattle.dali_record.specs.Log.{last_of}
use Rattle.dali_record.specs.Calls.{Progress, Fresh, Walking, Nowhere, Somewhere, Storing, Adding, Removing, Finished, follow, look_next, put_next, store_next, add_next, cell_next, entry_next, after_look, after_put, after_add, after_read, after_change, after_kill_cell, after_kill_entry, when, on_item}
use Rattle.dali_record.specs.Legal.{Working, TxnState, Unbegun, Active, Committed, Over, txn_step, txn_next, txn_state, allowed, either_state, goes_on, starts, forward, back, freed, is_of, is_onward, is_level, is_answer, dead_of, rested}
use Rattle.dali_record.proofs.Moves.{over_next_is}

-- so many regions behind the home, around the index
pub record IsBehind (s : Sizes) (key region n : ℕ) : Type 0 where
  pub few : n < s.index
  pub inside : region < s.index
  pub place : (region ≡ home s key + n) ⊎ (region + s.index ≡ home s key + n)

abbrev pub IsAway : Sizes → Progress → Type 0
IsAway s (Walking key region n) = (0 < n) × IsBehind s key region n
IsAway s _ = ⊤

pub at_home : (s : Sizes) (key : ℕ) → 0 < s.index → IsBehind s key (home s key) 0
at_home s key some = record { few = some; inside = mod-lt key some; place = inl (omega arith) }

next_behind : (s : Sizes) (key region n : ℕ) → IsBehind s key region n → n + 1 < s.index → 0 < s.index → IsBehind s key (next_index s region) (n + 1)
next_behind s key region n w more some = record {
  few = more;
  inside = by_end (region + 1 == s.index) refl;
  place = by_place (region + 1 == s.index) refl w.place;
}
  where
    h : home s key < s.index
    h = mod-lt key some

    by_end : (c : Bool) → (region + 1 == s.index) ≡ c → (if c then 0 else region + 1) < s.index
    by_end true e = some
    by_end false e = omega (arith, w.inside, not_end (λ f. let g : (region + 1 == s.index) ≡ true = (Decides-eqb (region + 1) s.index).1 f in absurd (cc)))
      where
        not_end : (region + 1 ≡ s.index → ⊥) → region + 1 ≢ s.index
        not_end f = f

    by_place : (c : Bool) → (region + 1 == s.index) ≡ c → (region ≡ home s key + n) ⊎ (region + s.index ≡ home s key + n) → ((if c then 0 else region + 1) ≡ home s key + (n + 1)) ⊎ ((if c then 0 else region + 1) + s.index ≡ home s key + (n + 1))
    by_place true e (inl p) = let end = (Decides-eqb (region + 1) s.index).0 e in inr (omega (arith, p, end))
    by_place true e (inr p) = let end = (Decides-eqb (region + 1) s.index).0 e in absurd (omega (arith, p, end, h, more))
    by_place false e (inl p) = inl (omega (arith, p))
    by_place false e (inr p) = inr (omega (arith, p))

pub away_is : (s : Sizes) (key region n : ℕ) → 0 < s.index → (0 < n) × IsBehind s key region n → region ≢ home s key
away_is s key region n some w e = ⊎_elim (λ (p : region ≡ home s key + n). omega (arith, p, e, w.0)) (λ (p : region + s.index ≡ home s key + n). omega (arith, p, e, w.1.few)) w.1.place

-- ---- a block keeps it
abbrev AwayTo : Sizes → Option Progress → Type 0
AwayTo s None = ⊤
AwayTo s (Some p) = IsAway s p

in_when : (s : Sizes) (c : Bool) (o : Option Progress) → AwayTo s o → AwayTo s (when c o)
in_when s true o h = h
in_when s false o h = tt

walked : (s : Sizes) (key region n : ℕ) (c : Bool) → nat_lt (n + 1) s.index ≡ c → 0 < s.index → IsBehind s key region n → IsAway s (if c then Walking key (next_index s region) (n + 1) else Nowhere key)
walked s key region n true e some w = (omega arith, next_behind s key region n w (ltb-true (n + 1) s.index e) some)
walked s key region n false e some w = tt

after_a_look : (s : Sizes) (key region n : ℕ) (o : Outcome) → 0 < s.index → IsBehind s key region n → AwayTo s (after_look s key region n o)
after_a_look s key region n (Found entry at) some w = tt
after_a_look s key region n (Absent true) some w = walked s key region n (nat_lt (n + 1) s.index) refl some w
after_a_look s key region n (Absent false) some w = tt
after_a_look s key region n o some w = tt

either_away : (s : Sizes) (c : Bool) (p q : Progress) → IsAway s p → IsAway s q → IsAway s (if c then p else q)
either_away s true p q h g = h
either_away s false p q h g = g

after_a_put : (s : Sizes) (key region tried : ℕ) (v : List ℕ) (o : Outcome) → AwayTo s (after_put s key v region tried o)
after_a_put s key region tried v (PutIn cell) = tt
after_a_put s key region tried v NoCell = either_away s (nat_lt (tried + 1) s.heap) (Storing key v (next_heap s region) (tried + 1)) (Finished (Insert key v) FullHeap) tt tt
after_a_put s key region tried v o = tt

after_an_add : (s : Sizes) (key at region tried : ℕ) (v : List ℕ) (o : Outcome) → AwayTo s (after_add s key v at region tried o)
after_an_add s key at region tried v (Added entry) = tt
after_an_add s key at region tried v NoEntry = either_away s (nat_lt (tried + 1) s.index) (Adding key v at (next_index s region) (tried + 1)) (Finished (Insert key v) FullIndex) tt tt
after_an_add s key at region tried v o = tt

after_a_read : (s : Sizes) (key at : ℕ) (o : Outcome) → AwayTo s (after_read key at o)
after_a_read s key at (Value v) = tt
after_a_read s key at (NotLive n) = tt
after_a_read s key at (OtherKey n) = tt
after_a_read s key at (OddLength n) = tt
after_a_read s key at o = tt

after_a_change : (s : Sizes) (key at : ℕ) (v : List ℕ) (o : Outcome) → AwayTo s (after_change key at v o)
after_a_change s key at v Changed = tt
after_a_change s key at v (NotLive n) = tt
after_a_change s key at v (OtherKey n) = tt
after_a_change s key at v (OddLength n) = tt
after_a_change s key at v o = tt

after_a_kill : (s : Sizes) (key region entry at : ℕ) (o : Outcome) → AwayTo s (after_kill_cell key region entry at o)
after_a_kill s key region entry at Killed = tt
after_a_kill s key region entry at (NotLive n) = tt
after_a_kill s key region entry at (OtherKey n) = tt
after_a_kill s key region entry at (OddLength n) = tt
after_a_kill s key region entry at o = tt

after_a_removal : (s : Sizes) (key at : ℕ) (o : Outcome) → AwayTo s (after_kill_entry key at o)
after_a_removal s key at Killed = tt
after_a_removal s key at (NotLive n) = tt
after_a_removal s key at (OtherKey n) = tt
after_a_removal s key at o = tt

next_look : (s : Sizes) (key region n : ℕ) (b : Block) (op : Op) → 0 < s.index → IsBehind s key region n → AwayTo s (look_next s key region n b op)
next_look s key region n b Look some w = in_when s (on_item key region b) (after_look s key region n b.outcome) (after_a_look s key region n b.outcome some w)
next_look s key region n b op some w = tt

next_put : (s : Sizes) (key region tried : ℕ) (b : Block) (op : Op) → AwayTo s (put_next s key region tried b op)
next_put s key region tried b (Put v) = in_when s (on_item key region b) (after_put s key v region tried b.outcome) (after_a_put s key region tried v b.outcome)
next_put s key region tried b op = tt

next_store : (s : Sizes) (key region tried : ℕ) (v : List ℕ) (b : Block) (op : Op) → AwayTo s (store_next s key v region tried b op)
next_store s key region tried v b (Put x) = in_when s (on_item key region b && bytes_eq v x) (after_put s key v region tried b.outcome) (after_a_put s key region tried v b.outcome)
next_store s key region tried v b op = tt

next_add : (s : Sizes) (key at region tried : ℕ) (v : List ℕ) (b : Block) (op : Op) → AwayTo s (add_next s key v at region tried b op)
next_add s key at region tried v b (Add p) = in_when s (on_item key region b && (p == at)) (after_add s key v at region tried b.outcome) (after_an_add s key at region tried v b.outcome)
next_add s key at region tried v b op = tt

next_cell : (s : Sizes) (key region entry at : ℕ) (b : Block) (op : Op) → AwayTo s (cell_next s key region entry at b op)
next_cell s key region entry at b (Read c) = in_when s (is_place s at && on_item key (region_at at) b && (c == cell_at at)) (after_read key at b.outcome) (after_a_read s key at b.outcome)
next_cell s key region entry at b (Change c v) = in_when s (is_place s at && on_item key (region_at at) b && (c == cell_at at)) (after_change key at v b.outcome) (after_a_change s key at v b.outcome)
next_cell s key region entry at b (KillCell c) = in_when s (is_place s at && on_item key (region_at at) b && (c == cell_at at)) (after_kill_cell key region entry at b.outcome) (after_a_kill s key region entry at b.outcome)
next_cell s key region entry at b op = tt

next_entry : (s : Sizes) (key region entry at : ℕ) (b : Block) (op : Op) → AwayTo s (entry_next key region entry at b op)
next_entry s key region entry at b (KillEntry e) = in_when s (on_item key region b && (e == entry)) (after_kill_entry key at b.outcome) (after_a_removal s key at b.outcome)
next_entry s key region entry at b op = tt

follows_away : (s : Sizes) (t : ℕ) (p : Progress) (b : Block) → 0 < s.index → IsAway s p → AwayTo s (follow s t p b)
follows_away s t Fresh b some h = next_look s b.key (home s b.key) 0 b b.op some (at_home s b.key some)
follows_away s t (Walking key region n) b some h = next_look s key region n b b.op some h.1
follows_away s t (Nowhere key) b some h = next_put s key (heap_start s t) 0 b b.op
follows_away s t (Somewhere key region entry at) b some h = next_cell s key region entry at b b.op
follows_away s t (Storing key v region tried) b some h = next_store s key region tried v b b.op
follows_away s t (Adding key v at region tried) b some h = next_add s key at region tried v b b.op
follows_away s t (Removing key region entry at) b some h = next_entry s key region entry at b b.op
follows_away s t (Finished c a) b some h = tt

-- ---- along a log
abbrev AwayIn : Sizes → Option TxnState → Type 0
AwayIn s (Some (Active w)) = IsAway s w.progress
AwayIn s _ = ⊤

in_allowed : (s : Sizes) (c : Bool) (o : Option TxnState) → AwayIn s o → AwayIn s (allowed c o)
in_allowed s true o h = h
in_allowed s false o h = tt

in_cond : (s : Sizes) (c : Bool) (o p : Option TxnState) → AwayIn s o → AwayIn s p → AwayIn s (cond c o p)
in_cond s true o p h g = h
in_cond s false o p h g = g

in_some : (s : Sizes) (c : Bool) (x y : TxnState) → AwayIn s (Some x) → AwayIn s (Some y) → AwayIn s (Some (cond c x y))
in_some s true x y h g = h
in_some s false x y h g = g

in_either : (s : Sizes) (o p : Option TxnState) → AwayIn s o → AwayIn s p → AwayIn s (either_state o p)
in_either s None p h g = g
in_either s (Some x) p h g = h

in_goes_on : (s : Sizes) (w : Working) (b : Block) (o : Option Progress) → AwayTo s o → AwayIn s (goes_on w b o)
in_goes_on s w b None h = tt
in_goes_on s w b (Some p) h = h

in_starts : (s : Sizes) (w : Working) (b : Block) (o : Option Progress) → AwayTo s o → AwayIn s (starts w b o)
in_starts s w b None h = tt
in_starts s w b (Some p) h = h

in_back : (s : Sizes) (w : Working) (b : Block) (o : Option Pending) → IsAway s w.progress → AwayIn s (back w b o)
in_back s w b None h = tt
in_back s w b (Some p) h = in_allowed s (is_of (undo_op p.undo) p b) (Some (Active _)) h

in_freed : (s : Sizes) (b : Block) (ps : List Pending) → AwayIn s (freed b ps)
in_freed s b [] = tt
in_freed s b (p ∷ ps) = in_allowed s _ (Some (Committed ps)) tt

unbegun_away : (s : Sizes) (t : ℕ) (r : Record) → AwayIn s (txn_step s t Unbegun r)
unbegun_away s t (Begin u) = in_some s (u == t) _ Unbegun tt tt
unbegun_away s t (Forward u b) = in_allowed s _ (Some Unbegun) tt
unbegun_away s t (Back u b) = in_allowed s _ (Some Unbegun) tt
unbegun_away s t (Done u c a) = in_allowed s _ (Some Unbegun) tt
unbegun_away s t (Commit u) = in_allowed s _ (Some Unbegun) tt
unbegun_away s t (Ended u) = in_allowed s _ (Some Unbegun) tt
unbegun_away s t (Solo u p b) = in_cond s (u == t) _ _ (in_allowed s _ (Some Over) tt) (in_allowed s _ (Some Unbegun) tt)
unbegun_away s t r = tt

active_away : (s : Sizes) (t : ℕ) (w : Working) (r : Record) → 0 < s.index → IsAway s w.progress → AwayIn s (txn_step s t (Active w) r)
active_away s t w (Begin u) some h = in_allowed s _ (Some (Active w)) h
active_away s t w (Forward u b) some h =
    in_cond s (u == t) (forward s t w b) (Some (Active w))
    (in_either s _ _ (in_allowed s (is_onward w.way) (goes_on w b (follow s t w.progress b)) (in_goes_on s w b (follow s t w.progress b) (follows_away s t w.progress b some h)))
    (in_allowed s (is_level w) (starts w b (follow s t Fresh b)) (in_starts s w b (follow s t Fresh b) (follows_away s t Fresh b some tt)))) h
active_away s t w (Back u b) some h = in_cond s (u == t) (back w b (last_of w.undos)) (Some (Active w)) (in_back s w b (last_of w.undos) h) h
active_away s t w (Done u c a) some h = in_cond s (u == t) (allowed (is_answer s w c a) (Some (rested w))) (Some (Active w)) (in_allowed s _ (Some (rested w)) tt) h
active_away s t w (Commit u) some h = in_cond s (u == t) _ (Some (Active w)) (in_allowed s _ (Some (Committed (dead_of w.undos))) tt) h
active_away s t w (Ended u) some h = in_cond s (u == t) _ (Some (Active w)) (in_allowed s _ (Some Over) tt) h
active_away s t w (Solo u p b) some h = in_allowed s _ (Some (Active w)) h
active_away s t w (Restarted rs ds) some h = tt
active_away s t w r some h = h

committed_away : (s : Sizes) (t : ℕ) (ps : List Pending) (r : Record) → AwayIn s (txn_step s t (Committed ps) r)
committed_away s t ps (Begin u) = in_allowed s _ (Some (Committed ps)) tt
committed_away s t ps (Forward u b) = in_allowed s _ (Some (Committed ps)) tt
committed_away s t ps (Back u b) = in_allowed s _ (Some (Committed ps)) tt
committed_away s t ps (Done u c a) = in_allowed s _ (Some (Committed ps)) tt
committed_away s t ps (Commit u) = in_allowed s _ (Some (Committed ps)) tt
committed_away s t ps (Ended u) = in_cond s (u == t) _ (Some (Committed ps)) (in_allowed s _ (Some Over) tt) tt
committed_away s t ps (Solo u p b) = in_allowed s _ _ (in_cond s (p == t) (freed b ps) (Some (Committed ps)) (in_freed s b ps) tt)
committed_away s t ps r = tt

over_away : (s : Sizes) (t : ℕ) (r : Record) → AwayIn s (txn_step s t Over r)
over_away s t r = let next = over_next_is t r in subst (AwayIn s) (sym next.1) (in_allowed s next.0 (Some Over) tt)

next_away : (s : Sizes) (t : ℕ) (o : Option TxnState) (r : Record) → 0 < s.index → AwayIn s o → AwayIn s (txn_next s t o r)
next_away s t None r some h = tt
next_away s t (Some Unbegun) r some h = unbegun_away s t r
next_away s t (Some (Active w)) r some h = active_away s t w r some h
next_away s t (Some (Committed ps)) r some h = committed_away s t ps r
next_away s t (Some Over) r some h = over_away s t r

along : (s : Sizes) (t : ℕ) (o : Option TxnState) (L : List Record) → 0 < s.index → AwayIn s o → AwayIn s (fold (txn_next s t) o L)
along s t o [] some h = h
along s t o (r ∷ L) some h = along s t (txn_next s t o r) L some (next_away s t o r some h)

pub walks_away : (s : Sizes) (t : ℕ) (L : List Record) (w : Working) → 0 < s.index → txn_state s t L ≡ Some (Active w) → IsAway s w.progress
walks_away s t L w some e = subst (AwayIn s) e (along s t (Some Unbegun) L some tt)
