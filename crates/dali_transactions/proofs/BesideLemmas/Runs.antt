-- What a run says of transactions, in words of its log.
use Rattle.std.proofs.Common.{inl, inr, ◌≡◌, ℕ, Bool, true, false, not, ◌&&◌, List, [], ◌∷◌, ◌++◌, Option, Some, None, IsSome, is_some, refl, ap, sym, ◌∙◌, append_assoc, arith}
use Rattle.std.specs.Prelude.{◌==◌, ◌⊎◌, if◌then◌else◌, Contains}
use Rattle.std.proofs.lemmas.Bool.Decides.{Decides-eqb}
use Rattle.std.proofs.lemmas.List.{append-nil}
use Rattle.std.specs.FinMap.{get}
use Rattle.std.proofs.lemmas.List.Elements.{Contains-append_left, Contains-append_right}
use Rattle.dali_lists.proofs.Tests.{not_both_ways}
use Rattle.dali_record.specs.declared.operations.Block.{Block}
use Rattle.dali_record.specs.declared.operations.Undo.{Undo}
use Rattle.dali_record.specs.declared.records.Record.{Record}
use Rattle.dali_record.specs.declared.records.Record.TheVariants.{Begin, Commit, Ended}
use Rattle.dali_record.specs.Epochs.{last_epoch}
use Rattle.dali_record.specs.Log.{begin_by, commit_by, ended_by, begun, committed, ended}
use Rattle.dali_record.specs.Damage.{has}
use Rattle.dali_record.proofs.Survivors.{begin_is, commit_is}
use Rattle.dali_history.proofs.Chained.{filtered_is_Contains}
use Rattle.dali_att.specs.declared.state.State.{State}
use Rattle.dali_att.specs.declared.state.State.TheVariants.{Live, Dead, Cleaning}
use Rattle.dali_att.specs.Table.{fresh_row, with_state, with_undo, without_last}
use Rattle.dali_att.proofs.Changes.{get-added}
use Rattle.dali_history.proofs.Reported.{ended_from}
use Rattle.dali_runs.specs.State.{TxnRow, SystemState, CoreState, row_of, state_in}
use Rattle.dali_runs.specs.Run.{is_committed}
use Rattle.dali_runs.specs.Steps.{begun as begun_system, undo_kept, ended_logged}
use Rattle.dali_runs.specs.Courses.{Step, Begins, Operates, TakesBack, Frees, Answers, Commits, Ends, AuditEnds, OnRegion, Dies, Claims, GivesBack, Recovers, Stops, Checkpoints, Takes, Flushes, ReadFails, Moment, IsStep, IsCourse}
use Rattle.dali_runs.specs.Facts.Facts.{runs_in}
use Rattle.dali_runs.proofs.FactsLemmas.Begun.{holds_the_begun}
use Rattle.dali_runs.proofs.FactsLemmas.Commits.{committed_is_logged}
use Rattle.dali_calls.proofs.SingleLemmas.Undoing.{ended_others}
use Rattle.dali_calls.specs.Stepwise.Beside.{Grows}
use Rattle.dali_calls.proofs.StepwiseLemmas.Growing.{step_grows}
use Rattle.dali_transactions.specs.Beside.Runs.{GoneHasEnded, LiveIsUncommitted, EndedSince}
use Rattle.dali_transactions.proofs.BesideLemmas.Cleaning.{is_there, kept_there}

-- ---- a list of numbers, and the records that give them

no_row : (row : Option TxnRow) → row ≡ None → IsSome row → ⊥
no_row row none some = let is : is_some row ≡ true = some in let not : is_some row ≡ false = ap is_some none in cc

and_not : (a b : Bool) → a ≡ true → b ≡ false → (a && not b) ≡ true
and_not a true e f = absurd cc
and_not true false e f = refl
and_not false false e f = absurd cc

pub gone_has_ended : GoneHasEnded
gone_has_ended bases L c t run none begins = by_end (has (ended E) t) refl
  where
    E : List Record
    E = (last_epoch L).records

    first : has (begun E) t ≡ true
    first = (filtered_is_Contains begin_by (λ n. Begin n) (λ u. refl) begin_is E t).1 begins

    by_end : (b : Bool) → has (ended E) t ≡ b → Contains E (Ended t)
    by_end true e = (filtered_is_Contains ended_by (λ n. Ended n) (λ u. refl) ended_from E t).0 e
    by_end false e =
        let runs : runs_in L t ≡ true = and_not (has (begun E) t) (has (ended E) t) first e in
        absurd (no_row (row_of c.system t) none ((holds_the_begun bases L c run t).1 runs))

live_row : (row : Option TxnRow) → state_in row ≡ Some Live → (r : TxnRow) × (row ≡ Some r) × (is_committed r.state ≡ false)
live_row None e = absurd (never e)
  where
    never : (let n : Option State = None in n ≡ Some Live) → ⊥
    never f = cc
live_row (Some r) e = let is : r.state ≡ Live = cc in (r, refl, ap is_committed is)

pub live_is_uncommitted : LiveIsUncommitted
live_is_uncommitted bases L c t run lives there =
    let row = live_row (row_of c.system t) lives in
    let has_it : has (committed L) t ≡ true = (filtered_is_Contains commit_by (λ n. Commit n) (λ u. refl) commit_is L t).1 there in
    not_both_ways has_it (sym (committed_is_logged bases L c run t row.0 row.1) ∙ row.2)

-- ---- a row that goes
abbrev StaysOr : ℕ → List Record → SystemState → List Record → SystemState → Type 0
StaysOr t L y M z = (is_there z t ≡ true) ⊎ (M ≡ L ++ Ended t ∷ [])

stays : (t : ℕ) (L M : List Record) (c d e : CoreState) → d ≡ e → is_there e.system t ≡ true → StaysOr t L c.system M d.system
stays t L M c d e is there = inl (ap (λ (k : CoreState). is_there k.system t) is ∙ there)

added_there : (y : SystemState) (t : ℕ) → is_there y t ≡ true → is_there (begun_system y) t ≡ true
added_there y t there = ap is_some (get-added y.table y.next fresh_row t) ∙ by_test (y.next == t)
  where
    by_test : (b : Bool) → is_some (if b then Some fresh_row else row_of y t) ≡ true
    by_test true = refl
    by_test false = there

undo_there : (y : SystemState) (u t : ℕ) (b : Block) (o : Option Undo) → is_there y t ≡ true → is_some (get (undo_kept y.table u b o) t) ≡ true
undo_there y u t b None there = there
undo_there y u t b (Some undo) there = kept_there y u t (with_undo _) ∙ there

step_there : (t : ℕ) (L M : List Record) (c d : CoreState) (x : Step) → IsStep L c x M d → is_there c.system t ≡ true → StaysOr t L c.system M d.system
step_there t L M c d Begins s there = stays t L M c d _ s.1.1 (added_there c.system t there)
step_there t L M c d (Operates u b) s there = stays t L M c d _ s.3.1 (undo_there c.system u t b b.undo there)
step_there t L M c d (TakesBack u b) s there = stays t L M c d _ s.2.1 (kept_there c.system u t without_last ∙ there)
step_there t L M c d (Frees u b) s there = stays t L M c d _ s.2.1 there
step_there t L M c d (Answers u k a) s there = stays t L M c d _ s.3.1 there
step_there t L M c d (Commits u) s there = stays t L M c d _ s.2.1 (kept_there c.system u t _ ∙ there)
step_there t L M c d (Ends u) s there = by_test (u == t) refl
  where
    by_test : (b : Bool) → (u == t) ≡ b → StaysOr t L c.system M d.system
    by_test true e = let same : u ≡ t = (Decides-eqb u t).0 e in inr (s.2.0 ∙ ap (λ (n : ℕ). L ++ Ended n ∷ []) same)
    by_test false e = stays t L M c d _ s.2.1 (ap is_some (ended_others c.system (ended_logged c.system u) u refl t e).0 ∙ there)
step_there t L M c d (AuditEnds b found) s there = stays t L M c d _ s.1.1 there
step_there t L M c d (OnRegion r x) s there = stays t L M c d _ s.3.1 there
step_there t L M c d (Dies u o) s there = stays t L M c d _ s.1.1 (kept_there c.system u t (with_state (Dead o)) ∙ there)
step_there t L M c d (Claims u) s there = stays t L M c d _ s.2.1 (kept_there c.system u t (with_state (Cleaning s.0)) ∙ there)
step_there t L M c d (GivesBack u o) s there = stays t L M c d _ s.1.1 (kept_there c.system u t (with_state (Dead o)) ∙ there)
step_there t L M c d (Recovers r) s there = stays t L M c d _ s.3.1 there
step_there t L M c d Stops s there = stays t L M c d _ s.1.1 there
step_there t L M c d (Checkpoints b) s there = stays t L M c d _ s.1.1 there
step_there t L M c d Takes s there = stays t L M c d _ s.1 there
step_there t L M c d Flushes s there = stays t L M c d _ s.1.1 there
step_there t L M c d (ReadFails n) s there = stays t L M c d _ s.1.1 there
step_there t L M c d _ s there = stays t L M c d _ s.2.1 there

-- what a list of steps logs
grown : (m n : Moment) (xs : List Step) → IsCourse m xs n → (own : List Record) × (n.log ≡ m.log ++ own)
grown m n [] course = ([], ap (λ (k : Moment). k.log) (sym course) ∙ sym (append-nil m.log))
grown m n (x ∷ xs) course =
    let one = step_grows m.log course.0.log m.core course.0.core x course.1.0 in
    let rest = grown course.0 n xs course.2 in
    (one.0 ++ rest.0, rest.1 ∙ (ap (λ (l : List Record). l ++ rest.0) one.1 ∙ append_assoc m.log one.0 rest.0))

itself : (t : ℕ) → Contains (Ended t ∷ []) (Ended t)
itself t = (0, omega arith, refl)

abbrev HasEnded : ℕ → Moment → Moment → Type 0
HasEnded t m n = (own : List Record) × (n.log ≡ m.log ++ own) × Contains own (Ended t)

ended_one : (t : ℕ) (m k n : Moment) → Grows m.log m.core k.log k.core → StaysOr t m.log m.core.system k.log k.core.system → (is_there k.core.system t ≡ true → HasEnded t k n) → (own : List Record) × (n.log ≡ k.log ++ own) → HasEnded t m n
ended_one t m k n one (inl there) rest all =
    let more = rest there in
    (one.0 ++ more.0, more.1 ∙ (ap (λ (l : List Record). l ++ more.0) one.1 ∙ append_assoc m.log one.0 more.0), Contains-append_right one.0 more.0 (Ended t) more.2)
ended_one t m k n one (inr over) rest all =
    (Ended t ∷ all.0, all.1 ∙ (ap (λ (l : List Record). l ++ all.0) over ∙ append_assoc m.log (Ended t ∷ []) all.0), Contains-append_left (Ended t ∷ []) all.0 (Ended t) (itself t))

pub ended_since : EndedSince
ended_since m n [] t course some none = absurd (not_both_ways some (ap (λ (k : Moment). is_there k.core.system t) course ∙ ap is_some none))
ended_since m n (x ∷ xs) t course some none =
    ended_one t m course.0 n (step_grows m.log course.0.log m.core course.0.core x course.1.0) (step_there t m.log course.0.log m.core course.0.core x course.1.0 some)
    (λ there. ended_since course.0 n xs t course.2 there none) (grown course.0 n xs course.2)
