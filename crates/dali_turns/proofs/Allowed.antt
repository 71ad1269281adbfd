-- What the rules of the log and the locks allow a plan next.
use Rattle.std.proofs.Common.{◌≡◌, ℕ, ◌+◌, ◌^◌, ◌<◌, true, false, List, [], ◌∷◌, ◌++◌, Some, None, refl, ap, sym, subst, ◌∙◌, arith}
use Rattle.std.specs.Prelude.{slice_get}
use Rattle.std.proofs.lemmas.Option.{slice_get_within}
use Rattle.dali_runs.proofs.CountsLemmas.Lists.{some_same}
use Rattle.dali_geometry.specs.Places.{regions}
use Rattle.dali_record.specs.declared.operations.Block.{Block}
use Rattle.dali_record.specs.declared.operations.Op.{Op}
use Rattle.dali_record.specs.declared.records.Answer.{Answer}
use Rattle.dali_record.specs.declared.records.Call.{Call}
use Rattle.dali_record.specs.declared.records.Call.TheVariants.{Insert, Update, Delete, Get}
use Rattle.dali_record.specs.declared.records.Record.{Record}
use Rattle.dali_record.specs.declared.records.Record.TheVariants.{Forward, Done}
use Rattle.dali_record.specs.Blocks.{AreWords, made, changes_item}
use Rattle.dali_record.specs.Locks.{IsLockLegal}
use Rattle.dali_record.specs.Log.{Touch, touch_of}
use Rattle.dali_record.specs.Spelling.{Is64, IsCall, CanBeSpelled, record_length}
use Rattle.dali_record.proofs.Made.{made_is_block}
use Rattle.dali_record.proofs.Pushes.{IsLockLegal-push}
use Rattle.dali_region.specs.State.{RegionState}
use Rattle.dali_runs.specs.State.{SystemState, CoreState, lock_of}
use Rattle.dali_runs.specs.Run.{Bases, RunsOn, covers, holds}
use Rattle.dali_runs.specs.Keeps.{IsNext, with_system}
use Rattle.dali_runs.proofs.Logging.{no_conflict}
use Rattle.dali_runs.specs.Facts.Plans.{AtWork}
use Rattle.dali_crash.specs.Checkpoints.{Point}
use Rattle.dali_calls.specs.declared.plan.Phase.TheVariants.{Calling as IsCalling}
use Rattle.dali_calls.specs.Steps.{call_key, is_get, answer_of, IsBlockOf, IsNextBlock}
use Rattle.dali_calls.specs.Plans.{Planned, is_back, plan_next, want_of, GoesOn, IsWhole}
use Rattle.dali_calls.specs.Followed.{HoldsCall, Follows}
use Rattle.dali_calls.proofs.Nexts.{next_spelled}
use Rattle.dali_calls.proofs.Stepping.{state_there, done_is_step, by_get}
use Rattle.dali_calls.proofs.Following.{onward_follows}
use Rattle.dali_calls.proofs.Wholes.{get_leaves, onward_of}
use Rattle.dali_calls.proofs.OnKind.{next_kind}
use Rattle.dali_system.specs.declared.want.Want.TheVariants.{Done as AnswerIsNext}
use Rattle.dali_calls.specs.Single.Stands.{IsAtRest}
use Rattle.dali_transcripts.specs.Causes.{GoesOn as MayGoOn}
use Rattle.dali_turns.specs.Within.{IsAtCall}
use Rattle.dali_turns.proofs.Onward.{leads_on}
use Rattle.dali_turns.proofs.Operating.{op_of, onward_op, key_there}

-- ---- the words of a region
pub words_are : (bases : Bases) (L : List Record) (c : CoreState) (r : ℕ) (g : RegionState) → RunsOn bases L c → slice_get c.regions r ≡ Some g → AreWords g.words
words_are bases L c r g runs at = (runs.regions r g at).protected.words

-- ---- the locks
owns_it : (y : SystemState) (t : ℕ) (b : Block) (a : Touch) → holds y t b ≡ true → touch_of (Forward t b) ≡ Some a → holds y a.owner a.block ≡ true
owns_it y t b a held e = subst (λ (z : Touch). holds y z.owner z.block ≡ true) (some_same e) held

locks_allow : (bases : Bases) (L : List Record) (c : CoreState) (t : ℕ) (b : Block) → RunsOn bases L c → holds c.system t b ≡ true → IsLockLegal (L ++ Forward t b ∷ [])
locks_allow bases L c t b runs held = IsLockLegal-push L (Forward t b) runs.log.locks (no_conflict c.system.sizes L (Forward t b) c.system runs.locks (λ a e. owns_it c.system t b a held e))

-- the lock of the call covers the block of its next operation
next_block : (plan : Planned) (b : Block) → is_back plan ≡ false → plan.phase ≡ IsCalling → IsBlockOf (plan_next plan) (call_key plan.call) b → IsNextBlock plan.geometry plan.txn plan.call plan.stage b
next_block plan b way phase of = record { op = onward_op plan b.region b.op way phase of.op; words = of.words; made_on = of.made_on; spelled = of.spelled }

lock_covers : (y : SystemState) (plan : Planned) (b : Block) → IsWhole plan → HoldsCall y plan → is_back plan ≡ false → plan.phase ≡ IsCalling → IsBlockOf (plan_next plan) (call_key plan.call) b → holds y plan.txn b ≡ true
lock_covers y plan b w held way phase of =
    ap (λ (k : ℕ). covers (lock_of y plan.txn k) (changes_item b)) (ap (λ (z : Block). z.key) of.made_on)
    ∙ by_get (lock_of y plan.txn (call_key plan.call)) (is_get plan.call) (changes_item b) held (λ e. (get_leaves plan.geometry plan.txn plan.call plan.stage b w.at e (next_block plan b way phase of)).0)

-- ---- a block that a plan may make next
module _ (bases : Bases) (p : Point) (plan : Planned) (t : ℕ) (call : Call) (runs : RunsOn bases p.log p.core) (is : IsAtCall p plan t call IsCalling) (whole : IsWhole plan) (way : is_back plan ≡ false) where
  pub may_go_on : (b : Block) (words : List ℕ) → IsBlockOf (plan_next plan) (call_key plan.call) b → AreWords words → b ≡ made words b.key b.region b.op → MayGoOn p.core.system.sizes p.log t call b
  may_go_on b words of are on =
      subst (λ n. MayGoOn p.core.system.sizes p.log n call b) is.txn (subst (λ k. MayGoOn p.core.system.sizes p.log plan.txn k b) is.call_is (record {
        of_call = record {
          words = words;
          are_words = are;
          of_call = op_of plan.geometry plan.txn plan.call plan.stage b.region b.op whole.at (onward_op plan b.region b.op way is.phase_is of.op);
          is_made = on ∙ ap (λ k. made words k b.region b.op) (key_there (plan_next plan) plan.call b of);
        };
        allowed = allowed (leads_on plan b whole way of);
        locked = locks_allow bases p.log p.core plan.txn b runs (lock_covers p.core.system plan b whole is.stands.holds way is.phase_is of);
      }))
    where
      allowed : (q : Planned) × GoesOn plan b q → IsNext p.core.system.sizes p.log plan.txn (Forward plan.txn b)
      allowed (q, goes) =
          let now = onward_follows p.core.system.sizes p.log plan q b is.rest.sizes whole is.stands.follows way of goes in
          let txn = ap (λ (z : Planned). z.txn) goes.rest in
          state_there _ _ (subst (λ (n : ℕ). AtWork p.core.system.sizes (p.log ++ Forward plan.txn b ∷ []) n now.working) txn now.at_work)

  -- on the words of a region
  key_fits : (k : Call) → IsCall k → Is64 (call_key k)
  key_fits (Insert key v) h = h.0
  key_fits (Update key v) h = h.0
  key_fits (Delete key) h = h
  key_fits (Get key) h = h

  pub made_there : (r : ℕ) (op : Op) (words : List ℕ) → plan_next plan ≡ Some (r, op) → AreWords words → r < 2 ^ 32 → IsBlockOf (plan_next plan) (call_key plan.call) (made words (call_key plan.call) r op)
  made_there r op words next are small = record {
    op = next;
    words = words;
    made_on = refl;
    spelled = made_is_block op (call_key plan.call) r words (next_spelled plan r op whole (sym next)) (key_fits plan.call whole.call) small are;
  }

  -- a region that is there has a small number
  pub small_region : (r : ℕ) (g : RegionState) → slice_get p.core.regions r ≡ Some g → r < 2 ^ 32
  small_region r g at =
      omega (arith, slice_get_within p.core.regions r g at, is.rest.whole, ap regions is.rest.sizes, whole.sizes.few_index, whole.sizes.few_heap)

  -- it can be spelled
  pub block_fits : (b : Block) → IsBlockOf (plan_next plan) (call_key plan.call) b → CanBeSpelled (Forward plan.txn b)
  block_fits b of = (whole.txn, of.spelled, (next_kind plan.geometry plan.txn plan.call plan.stage plan.phase b.region b.op whole.sizes whole.at (sym (onward_of plan (is_back plan) refl way) ∙ of.op)).1)

-- ---- an answer
-- where it had room it would be a step, for which it can be spelled
abbrev with_room : CoreState → ℕ → CoreState
with_room c n = with_system c (record c.system { stop = None; limit = c.system.end + n })

pub answer_fits : (L : List Record) (c : CoreState) (plan : Planned) (a : Answer) → IsAtRest c.regions c.system plan → IsWhole plan → Follows c.system.sizes L plan → want_of plan ≡ AnswerIsNext → answer_of plan.geometry plan.call plan.stage ≡ Some a → CanBeSpelled (Done plan.txn plan.call a)
answer_fits L c plan a rest whole follows want given =
    (done_is_step L (with_room c (record_length (Done plan.txn plan.call a))) plan a rest.sizes whole follows want given (record { runs = refl; room = omega arith }) rest.lives).1
