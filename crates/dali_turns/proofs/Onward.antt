-- Each block of a plan's next operation leads on to some plan.
use Rattle.std.proofs.Common.{◌≡◌, ℕ, ◌+◌, Bool, true, false, ◌&&◌, List, ◌++◌, Option, Some, None, if◌then◌else◌, refl, ap, sym, ◌∙◌}
use Rattle.std.specs.Prelude.{◌==◌, nat_lt, bytes_eq}
use Rattle.std.proofs.lemmas.Bool.{eq-eqb}
use Rattle.std.proofs.lemmas.Slice.Eq.{bytes_eq-Decides}
use Rattle.dali_geometry.specs.Sizes.{Sizes}
use Rattle.dali_geometry.specs.Places.{home, next_index, heap_start, next_heap, place}
use Rattle.dali_record.specs.declared.operations.Block.{Block}
use Rattle.dali_record.specs.declared.operations.Op.{Op}
use Rattle.dali_record.specs.declared.operations.Op.TheVariants.{Look, Add, KillEntry, Put}
use Rattle.dali_record.specs.declared.operations.Outcome.{Outcome}
use Rattle.dali_record.specs.declared.operations.Outcome.TheVariants.{Found, Absent, Added, NoEntry, Killed, Put as PutIn, NoCell, Value, Changed, NotLive, OtherKey, OddLength}
use Rattle.dali_record.specs.declared.records.Call.{Call}
use Rattle.dali_record.specs.declared.records.Call.TheVariants.{Insert, Update, Delete, Get}
use Rattle.dali_record.specs.declared.records.Answer.TheVariants.{Ok as AnswerOk, Got, FullHeap, FullIndex, Odd}
use Rattle.dali_record.specs.Calls.{Progress, when, look_next, put_next, store_next, add_next, after_look, after_put, after_add, after_read, after_change, after_kill_cell, after_kill_entry, follow}
use Rattle.dali_record.specs.Log.{undo_added}
use Rattle.dali_record.specs.Spelling.{is_look_outcome, is_put_outcome, is_add_outcome, is_read_outcome, is_change_outcome, is_kill_cell_outcome, is_kill_entry_outcome}
use Rattle.dali_calls.specs.declared.stage.Stage.{Stage}
use Rattle.dali_calls.specs.declared.stage.Stage.TheVariants.{Fresh, Walking, Nowhere, Somewhere, Storing, Adding, Removing, Finished}
use Rattle.dali_calls.specs.declared.plan.Phase.{Phase}
use Rattle.dali_calls.specs.declared.plan.Phase.TheVariants.{Calling, Refused, Answered}
use Rattle.dali_calls.specs.Steps.{call_key, progress_of, next_op, after_cell, is_cell_outcome, is_fresh, IsAt, IsBlockOf, IsNextBlock}
use Rattle.dali_calls.specs.Plans.{Planned, is_back, plan_next, onward_next, GoesOn, IsWhole}
use Rattle.dali_calls.proofs.Follows.{facts, somewhere_outcome, somewhere_follows, removing_follows, on_it, none_next}
use Rattle.dali_calls.proofs.Wholes.{onward_of}

-- the stage behind a block
record Comes (s : Sizes) (t : ℕ) (call : Call) (stage : Stage) (b : Block) : Type 0 where
  pub after : Stage
  pub follows : follow s t (progress_of call stage) b ≡ Some (progress_of call after)
  pub begun : is_fresh after ≡ false

-- what comes of an outcome
abbrev Leads : Call → Option Progress → Type 0
Leads call o = (after : Stage) × (o ≡ Some (progress_of call after)) × (is_fresh after ≡ false)

look_leads : (s : Sizes) (call : Call) (region looked : ℕ) (o : Outcome) → is_look_outcome o ≡ true → Leads call (after_look s (call_key call) region looked o)
look_leads s call region looked (Found entry at) e = (Somewhere region entry at, refl, refl)
look_leads s call region looked (Absent true) e = by_test (nat_lt (looked + 1) s.index)
  where
    by_test : (c : Bool) → Leads call (Some (if c then progress_of call (Walking (next_index s region) (looked + 1)) else progress_of call Nowhere))
    by_test true = (Walking (next_index s region) (looked + 1), refl, refl)
    by_test false = (Nowhere, refl, refl)
look_leads s call region looked (Absent false) e = (Nowhere, refl, refl)
look_leads s call region looked o e = absurd (cc)

put_leads : (s : Sizes) (key : ℕ) (v : List ℕ) (region tried : ℕ) (o : Outcome) → is_put_outcome o ≡ true → Leads (Insert key v) (after_put s key v region tried o)
put_leads s key v region tried (PutIn cell) e = (Adding (place region cell) (home s key) 0, refl, refl)
put_leads s key v region tried NoCell e = by_test (nat_lt (tried + 1) s.heap)
  where
    by_test : (c : Bool) → Leads (Insert key v) (Some (if c then progress_of (Insert key v) (Storing (next_heap s region) (tried + 1)) else progress_of (Insert key v) (Finished FullHeap)))
    by_test true = (Storing (next_heap s region) (tried + 1), refl, refl)
    by_test false = (Finished FullHeap, refl, refl)
put_leads s key v region tried o e = absurd (cc)

add_leads : (s : Sizes) (key : ℕ) (v : List ℕ) (at region tried : ℕ) (o : Outcome) → is_add_outcome o ≡ true → Leads (Insert key v) (after_add s key v at region tried o)
add_leads s key v at region tried (Added entry) e = (Finished AnswerOk, refl, refl)
add_leads s key v at region tried NoEntry e = by_test (nat_lt (tried + 1) s.index)
  where
    by_test : (c : Bool) → Leads (Insert key v) (Some (if c then progress_of (Insert key v) (Adding at (next_index s region) (tried + 1)) else progress_of (Insert key v) (Finished FullIndex)))
    by_test true = (Adding at (next_index s region) (tried + 1), refl, refl)
    by_test false = (Finished FullIndex, refl, refl)
add_leads s key v at region tried o e = absurd (cc)

read_leads : (key at : ℕ) (o : Outcome) → is_read_outcome o ≡ true → Leads (Get key) (after_read key at o)
read_leads key at (Value v) e = (Finished (Got v), refl, refl)
read_leads key at (NotLive n) e = (Finished (Odd at), refl, refl)
read_leads key at (OtherKey n) e = (Finished (Odd at), refl, refl)
read_leads key at (OddLength n) e = (Finished (Odd at), refl, refl)
read_leads key at o e = absurd (cc)

change_leads : (key at : ℕ) (v : List ℕ) (o : Outcome) → is_change_outcome o ≡ true → Leads (Update key v) (after_change key at v o)
change_leads key at v Changed e = (Finished AnswerOk, refl, refl)
change_leads key at v (NotLive n) e = (Finished (Odd at), refl, refl)
change_leads key at v (OtherKey n) e = (Finished (Odd at), refl, refl)
change_leads key at v (OddLength n) e = (Finished (Odd at), refl, refl)
change_leads key at v o e = absurd (cc)

kill_leads : (key region entry at : ℕ) (o : Outcome) → is_kill_cell_outcome o ≡ true → Leads (Delete key) (after_kill_cell key region entry at o)
kill_leads key region entry at Killed e = (Removing region entry at, refl, refl)
kill_leads key region entry at (NotLive n) e = (Finished (Odd at), refl, refl)
kill_leads key region entry at (OtherKey n) e = (Finished (Odd at), refl, refl)
kill_leads key region entry at (OddLength n) e = (Finished (Odd at), refl, refl)
kill_leads key region entry at o e = absurd (cc)

cell_leads : (call : Call) (region entry at : ℕ) (o : Outcome) → is_cell_outcome call o ≡ true → Leads call (after_cell call region entry at o)
cell_leads (Insert key v) region entry at o e = absurd (cc)
cell_leads (Update key v) region entry at o e = change_leads key at v o e
cell_leads (Delete key) region entry at o e = kill_leads key region entry at o e
cell_leads (Get key) region entry at o e = read_leads key at o e

-- of the entry, whatever the key is
record Removes (place : ℕ) (o : Outcome) : Type 0 where
  pub after : Stage
  pub follows : (key : ℕ) → after_kill_entry key place o ≡ Some (progress_of (Delete key) after)
  pub begun : is_fresh after ≡ false

entry_leads : (place : ℕ) (o : Outcome) → is_kill_entry_outcome o ≡ true → Removes place o
entry_leads place Killed e = record { after = Finished AnswerOk; follows = λ key. refl; begun = refl }
entry_leads place (NotLive n) e = record { after = Finished (Odd place); follows = λ key. refl; begun = refl }
entry_leads place (OtherKey n) e = record { after = Finished (Odd place); follows = λ key. refl; begun = refl }
entry_leads place o e = absurd (cc)

-- ---- by the stage
came : (s : Sizes) (t : ℕ) (call : Call) (stage : Stage) (b : Block) (o : Option Progress) → follow s t (progress_of call stage) b ≡ o → Leads call o → Comes s t call stage b
came s t call stage b o is (after, same, begun) = record { after = after; follows = is ∙ same; begun = begun }

all_of : (v : List ℕ) → bytes_eq v v ≡ true
all_of v = (bytes_eq-Decides v v).1 refl

comes : (s : Sizes) (t : ℕ) (call : Call) (stage : Stage) (b : Block) → IsAt s call stage → IsNextBlock s t call stage b → Comes s t call stage b
comes s t call Fresh b at is =
    let f = facts s t call Fresh b (home s (call_key call)) Look is refl in
    let there : b.region ≡ home s b.key = f.region ∙ ap (home s) (sym f.key) in
    came s t call Fresh b (after_look s (call_key call) (home s (call_key call)) 0 b.outcome)
    (ap (look_next s b.key (home s b.key) 0 b) f.op_is
    ∙ (ap (λ c. when c (after_look s b.key (home s b.key) 0 b.outcome)) (on_it b.key (home s b.key) b refl there)
    ∙ ap (λ k. after_look s k (home s k) 0 b.outcome) f.key))
    (look_leads s call (home s (call_key call)) 0 b.outcome f.outcome)
comes s t call (Walking region looked) b at is =
    let f = facts s t call (Walking region looked) b region Look is refl in
    came s t call (Walking region looked) b (after_look s (call_key call) region looked b.outcome)
    (ap (look_next s (call_key call) region looked b) f.op_is ∙ ap (λ c. when c (after_look s (call_key call) region looked b.outcome)) (on_it (call_key call) region b f.key f.region))
    (look_leads s call region looked b.outcome f.outcome)
comes s t (Insert key v) Nowhere b at is =
    let f = facts s t (Insert key v) Nowhere b (heap_start s t) (Put v) is refl in
    came s t (Insert key v) Nowhere b (after_put s key v (heap_start s t) 0 b.outcome)
    (ap (put_next s key (heap_start s t) 0 b) f.op_is ∙ ap (λ c. when c (after_put s key v (heap_start s t) 0 b.outcome)) (on_it key (heap_start s t) b f.key f.region))
    (put_leads s key v (heap_start s t) 0 b.outcome f.outcome)
comes s t (Update key v) Nowhere b at is = absurd (none_next (b.region, b.op) is.op)
comes s t (Delete key) Nowhere b at is = absurd (none_next (b.region, b.op) is.op)
comes s t (Get key) Nowhere b at is = absurd (none_next (b.region, b.op) is.op)
comes s t call (Somewhere region entry place) b at is = by_outcome (cell_leads call region entry place b.outcome (somewhere_outcome s t call (Somewhere region entry place) region entry place b is refl))
  where
    by_outcome : Leads call (after_cell call region entry place b.outcome) → Comes s t call (Somewhere region entry place) b
    by_outcome (after, same, begun) = record { after = after; follows = somewhere_follows s t call (Somewhere region entry place) after region entry place b is refl same; begun = begun }
comes s t (Insert key v) (Storing region tried) b at is =
    let f = facts s t (Insert key v) (Storing region tried) b region (Put v) is refl in
    came s t (Insert key v) (Storing region tried) b (after_put s key v region tried b.outcome)
    (ap (store_next s key v region tried b) f.op_is
    ∙ ap (λ c. when c (after_put s key v region tried b.outcome)) (ap (λ c. c && bytes_eq v v) (on_it key region b f.key f.region) ∙ all_of v))
    (put_leads s key v region tried b.outcome f.outcome)
comes s t (Update key v) (Storing region tried) b at is = absurd (none_next (b.region, b.op) is.op)
comes s t (Delete key) (Storing region tried) b at is = absurd (none_next (b.region, b.op) is.op)
comes s t (Get key) (Storing region tried) b at is = absurd (none_next (b.region, b.op) is.op)
comes s t (Insert key v) (Adding place region tried) b at is =
    let f = facts s t (Insert key v) (Adding place region tried) b region (Add place) is refl in
    came s t (Insert key v) (Adding place region tried) b (after_add s key v place region tried b.outcome)
    (ap (add_next s key v place region tried b) f.op_is
    ∙ ap (λ c. when c (after_add s key v place region tried b.outcome)) (ap (λ c. c && (place == place)) (on_it key region b f.key f.region) ∙ eq-eqb place place refl))
    (add_leads s key v place region tried b.outcome f.outcome)
comes s t (Update key v) (Adding place region tried) b at is = let no : false ≡ true = at.3 in absurd (cc)
comes s t (Delete key) (Adding place region tried) b at is = let no : false ≡ true = at.3 in absurd (cc)
comes s t (Get key) (Adding place region tried) b at is = let no : false ≡ true = at.3 in absurd (cc)
comes s t call (Removing region entry place) b at is =
    let f = facts s t call (Removing region entry place) b region (KillEntry entry) is refl in
    let e = entry_leads place b.outcome f.outcome in
    record { after = e.after; follows = removing_follows s t call (Removing region entry place) e.after region entry place b is refl at.2 e.follows; begun = e.begun }
comes s t call (Finished answer) b at is = absurd (none_next (b.region, b.op) is.op)

-- ---- the plan behind it
onward_op : (phase : Phase) (o : Option (ℕ × Op)) (p : ℕ × Op) → onward_next phase o ≡ Some p → o ≡ Some p
onward_op Calling o p e = e
onward_op Refused o p e = e
onward_op Answered o p e = absurd (cc)

pub leads_on : (plan : Planned) (b : Block) → IsWhole plan → is_back plan ≡ false → IsBlockOf (plan_next plan) (call_key plan.call) b → (q : Planned) × GoesOn plan b q
leads_on plan b whole way of =
    let is : IsNextBlock plan.geometry plan.txn plan.call plan.stage b = record {
      op = onward_op plan.phase (next_op plan.geometry plan.txn plan.call plan.stage) (b.region, b.op) (sym (onward_of plan (is_back plan) refl way) ∙ of.op);
      words = of.words;
      made_on = of.made_on;
      spelled = of.spelled;
    } in
    let c = comes plan.geometry plan.txn plan.call plan.stage b whole.at is in (
      record plan { stage = c.after; changes = plan.changes ++ undo_added b b.undo; operation = None },
      record { follows = c.follows; begun = c.begun; changes = refl; rest = refl },
    )
