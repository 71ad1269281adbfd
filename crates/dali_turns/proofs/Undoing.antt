-- What is left to take back of a transaction, behind the deeds of a call.
use Rattle.std.proofs.Common.{◌≡◌, ℕ, ◌+◌, Bool, true, false, List, [], ◌∷◌, ◌++◌, Option, Some, None, refl, ap, sym, subst, ◌∙◌}
use Rattle.std.specs.Prelude.{◌==◌, if◌then◌else◌, fold}
use Rattle.std.proofs.lemmas.List.{append_assoc}
use Rattle.std.proofs.lemmas.List.Sums.{fold-append}
use Rattle.dali_runs.proofs.CountsLemmas.Lists.{self}
use Rattle.dali_record.specs.declared.operations.Block.{Block}
use Rattle.dali_record.specs.declared.operations.Op.{Op}
use Rattle.dali_record.specs.declared.operations.Pending.{Pending}
use Rattle.dali_record.specs.declared.records.Record.{Record}
use Rattle.dali_record.specs.declared.records.Record.TheVariants.{Back}
use Rattle.dali_record.specs.Log.{last_of, drop_last, undo_added, undo_step}
use Rattle.dali_runs.specs.State.{SystemState}
use Rattle.dali_calls.specs.Steps.{call_key, IsBlockOf}
use Rattle.dali_calls.specs.Plans.{Planned, plan_next, is_back, undo_next}
use Rattle.dali_calls.proofs.Wholes.{back_next}
use Rattle.dali_calls.proofs.Following.{drop_append}
use Rattle.dali_calls.specs.Stepwise.Opened.{IsLogged, record_on}
use Rattle.dali_transcripts.specs.World.{Deed, Logs, logged_by}
use Rattle.dali_transcripts.specs.Moves.{Receipt}
use Rattle.dali_transcripts.specs.Causes.{undos_by, undos_behind}
use Rattle.dali_transcripts.specs.Laws.{receipts_from}
use Rattle.dali_transcripts.specs.Rounds.{by}
use Rattle.dali_turns.proofs.Sides.{AreBacks}

-- ---- some deeds more
pub undone_then : (t : ℕ) (us vs : List Pending) (xs ys : List Receipt) → undos_behind t us xs ≡ vs → undos_behind t us (xs ++ ys) ≡ undos_behind t vs ys
undone_then t us vs xs ys e = fold-append (undos_by t) us xs ys ∙ ap (λ zs. undos_behind t zs ys) e

-- no deed more
pub undone_still : (t : ℕ) (us vs : List Pending) (xs : List Receipt) → undos_behind t us xs ≡ vs → undos_behind t us (xs ++ []) ≡ vs
undone_still t us vs xs e = undone_then t us vs xs [] e

-- deeds that leave everything as it was
pub undone_on : (t : ℕ) (us vs : List Pending) (xs ys : List Receipt) → undos_behind t us xs ≡ vs → ((zs : List Pending) → undos_behind t zs ys ≡ zs) → undos_behind t us (xs ++ ys) ≡ vs
undone_on t us vs xs ys e none = undone_then t us vs xs ys e ∙ none vs

-- ---- what is logged decides
pub undone_by_log : (t c n : ℕ) (us : List Pending) (ds : List Deed) → undos_behind t us (receipts_from n ds) ≡ fold (undo_step t) us (logged_by (by c ds))
undone_by_log t c n us [] = refl
undone_by_log t c n us (Logs x ∷ ds) = undone_by_log t c (n + 1) (undo_step t us x) ds
undone_by_log t c n us (_ ∷ ds) = undone_by_log t c n us ds

-- takings back of another transaction
backs_apart : (t m : ℕ) (us : List Pending) (xs : List Record) → (t == m) ≡ false → AreBacks t xs → fold (undo_step m) us xs ≡ us
backs_apart t m us [] e are = refl
backs_apart t m us (Back u b ∷ xs) e are =
    let other : (u == m) ≡ false = subst (λ n. (n == m) ≡ false) (sym are.0) e in
    ap (λ (z : Bool). fold (undo_step m) (if z then drop_last us else us) xs) other ∙ backs_apart t m us xs e are.1
backs_apart t m us (x ∷ xs) e are = absurd are.0

pub undone_apart : (t m c n : ℕ) (us : List Pending) (ds : List Deed) → (t == m) ≡ false → AreBacks t (logged_by (by c ds)) → undos_behind m us (receipts_from n ds) ≡ us
undone_apart t m c n us ds e are = undone_by_log m c n us ds ∙ backs_apart t m us (logged_by (by c ds)) e are

-- ---- an operation, or one that is taken back
next_is_some : (x : ℕ × Op) (o : Option Pending) → undo_next o ≡ Some x → (u : Pending) × (o ≡ Some u)
next_is_some x (Some u) e = (u, refl)
next_is_some x None e = absurd (cc)

pub undone_once : (p q : Planned) (b : Block) (y z : SystemState) (back : Bool) → is_back p ≡ back → IsBlockOf (plan_next p) (call_key p.call) b → IsLogged back p b y q z
    → (us : List Pending) → undo_step p.txn (us ++ p.changes) (record_on back p.txn b) ≡ us ++ q.changes
undone_once p q b y z false way of logged us =
    ap (λ (k : Bool). if k then (us ++ p.changes) ++ undo_added b b.undo else us ++ p.changes) (self p.txn)
    ∙ (append_assoc us p.changes (undo_added b b.undo) ∙ ap (λ vs. us ++ vs) (sym logged.2.changes))
undone_once p q b y z true way of logged us =
    let last = next_is_some (b.region, b.op) (last_of p.changes) (sym (back_next p (is_back p) refl way) ∙ of.op) in
    ap (λ (k : Bool). if k then drop_last (us ++ p.changes) else us ++ p.changes) (self p.txn)
    ∙ (drop_append us p.changes last.0 last.1 ∙ ap (λ vs. us ++ vs) (sym (ap (λ (m : Planned). m.changes) logged.2)))
