-- A transaction with a Commit has its Begin, in the same epoch.
use Rattle.std.proofs.Common.{◌≡◌, ℕ, Bool, true, false, cond, List, [], ◌∷◌, ◌++◌, Option, Some, None, refl}
use Rattle.std.specs.Prelude.{◌==◌, ◌||◌, not, ⊤, IsSome}
use Rattle.std.proofs.lemmas.List.Elements.{filter_map-append}
use Rattle.std.proofs.lemmas.Bool.{both_ways, or_left, or_right}
use mathlib.Core.Bool.{or-false}
use Rattle.dali_geometry.specs.Sizes.{Sizes}
use Rattle.dali_record.specs.declared.operations.Block.{Block}
use Rattle.dali_record.specs.declared.operations.Pending.{Pending}
use Rattle.dali_record.specs.declared.records.Record.{Record}
use Rattle.dali_record.specs.declared.records.Record.TheVariants.{Format, Begin, Forward, Done, Commit, Ended, Solo, AuditBegin, AuditClean, AuditFail, Restarted, Back}
use Rattle.dali_record.specs.Log.{begun, begin_by, committed, commit_by}
use Rattle.dali_record.specs.Damage.{has}
use Rattle.dali_record.specs.Legal.{Working, TxnState, Unbegun, Active, Committed, Over, txn_step, txn_next, txn_state, allowed, freed}
use Rattle.dali_record.proofs.Ends.{by_push}
use Rattle.dali_record.proofs.Pushes.{txn_state_push}
use Rattle.dali_history.proofs.Members.{has_append}

-- ---- what committed had begun
-- an active transaction has its Begin, and one with a Commit too
abbrev Began : Option TxnState → Bool → Bool → Type 0
Began None b c = ⊤
Began (Some Unbegun) b c = c ≡ true → b ≡ true
Began (Some (Active w)) b c = b ≡ true
Began (Some (Committed ps)) b c = c ≡ true → b ≡ true
Began (Some Over) b c = c ≡ true → b ≡ true

began_any : (o : Option TxnState) (b c : Bool) → b ≡ true → Began o b c
began_any None b c e = tt
began_any (Some Unbegun) b c e = λ f. e
began_any (Some (Active w)) b c e = e
began_any (Some (Committed ps)) b c e = λ f. e
began_any (Some Over) b c e = λ f. e

began_allowed : (d : Bool) (o : Option TxnState) (b c : Bool) → Began o b c → Began (allowed d o) b c
began_allowed true o b c h = h
began_allowed false o b c h = tt

began_either : (d : Bool) (o p : Option TxnState) (b c : Bool) → Began o b c → Began p b c → Began (cond d o p) b c
began_either true o p b c h g = h
began_either false o p b c h g = g

began_freed : (k : Block) (ps : List Pending) (b c : Bool) → (c ≡ true → b ≡ true) → Began (freed k ps) b c
began_freed k [] b c h = tt
began_freed k (p ∷ ps) b c h = began_allowed _ (Some (Committed ps)) b c h

-- whether the record is the Begin of t, the Commit of t
abbrev begins : ℕ → Record → Bool
begins t r = has (begun (r ∷ [])) t

abbrev commits : ℕ → Record → Bool
commits t r = has (committed (r ∷ [])) t

began_begins : (d : Bool) (x : Working) (b c : Bool) → (c ≡ true → b ≡ true) → Began (Some (cond d (Active x) Unbegun)) (b || (d || false)) (c || false)
began_begins true x b c h = or_right b true refl
began_begins false x b c h = λ e. rw (or-false b) (h (rw (or-false c) at e))

-- a Commit of another transaction
commit_other : (d : Bool) (x : TxnState) (b c : Bool) → Began (Some x) b c → ((b c : Bool) → (c ≡ true → b ≡ true) → Began (Some x) b c) → (c ≡ true → b ≡ true) → Began (allowed (not d) (Some x)) (b || false) (c || (d || false))
commit_other true x b c h same k = tt
commit_other false x b c h same k = same (b || false) (c || false) (λ e. rw (or-false b) (k (rw (or-false c) at e)))

kept_on : (b c : Bool) → (c ≡ true → b ≡ true) → (c || false) ≡ true → (b || false) ≡ true
kept_on b c h e = rw (or-false b) (h (rw (or-false c) at e))

more_begun : (d : Bool) (b c : Bool) → (c ≡ true → b ≡ true) → (c || false) ≡ true → (b || (d || false)) ≡ true
more_begun d b c h e = or_left b (d || false) (h (rw (or-false c) at e))

began_step : (s : Sizes) (t : ℕ) (x : TxnState) (b c : Bool) (r : Record) → Began (Some x) b c → Began (txn_step s t x r) (b || begins t r) (c || commits t r)
began_step s t Unbegun b c (Begin u) e = began_begins (u == t) _ b c e
began_step s t Unbegun b c (Forward u k) e = began_allowed _ (Some Unbegun) _ _ (kept_on b c e)
began_step s t Unbegun b c (Done u q a) e = began_allowed _ (Some Unbegun) _ _ (kept_on b c e)
began_step s t Unbegun b c (Commit u) e = commit_other (u == t) Unbegun b c e (λ p q h. h) e
began_step s t Unbegun b c (Ended u) e = began_allowed _ (Some Unbegun) _ _ (kept_on b c e)
began_step s t Unbegun b c (Solo u p k) e = began_either (u == t) _ _ _ _ (began_allowed _ (Some Over) _ _ (kept_on b c e)) (began_allowed _ (Some Unbegun) _ _ (kept_on b c e))
began_step s t Unbegun b c (Back u k) e = began_allowed _ (Some Unbegun) _ _ (kept_on b c e)
began_step s t Unbegun b c _ e = kept_on b c e
began_step s t (Active w) b c (Format i h) e = or_left b false e
began_step s t (Active w) b c (Begin u) e = began_any (txn_step s t (Active w) (Begin u)) _ _ (or_left b _ e)
began_step s t (Active w) b c (Forward u k) e = began_any (txn_step s t (Active w) (Forward u k)) _ _ (or_left b _ e)
began_step s t (Active w) b c (Done u q a) e = began_any (txn_step s t (Active w) (Done u q a)) _ _ (or_left b _ e)
began_step s t (Active w) b c (Commit u) e = began_any (txn_step s t (Active w) (Commit u)) _ _ (or_left b _ e)
began_step s t (Active w) b c (Ended u) e = began_any (txn_step s t (Active w) (Ended u)) _ _ (or_left b _ e)
began_step s t (Active w) b c (Solo u p k) e = began_any (txn_step s t (Active w) (Solo u p k)) _ _ (or_left b _ e)
began_step s t (Active w) b c AuditBegin e = or_left b false e
began_step s t (Active w) b c (AuditClean k) e = or_left b false e
began_step s t (Active w) b c (AuditFail k rs) e = or_left b false e
began_step s t (Active w) b c (Restarted rs ds) e = began_any (txn_step s t (Active w) (Restarted rs ds)) _ _ (or_left b _ e)
began_step s t (Active w) b c (Back u k) e = began_any (txn_step s t (Active w) (Back u k)) _ _ (or_left b _ e)
began_step s t (Committed ps) b c (Begin u) e = began_allowed _ (Some (Committed ps)) _ _ (more_begun (u == t) b c e)
began_step s t (Committed ps) b c (Forward u k) e = began_allowed _ (Some (Committed ps)) _ _ (kept_on b c e)
began_step s t (Committed ps) b c (Done u q a) e = began_allowed _ (Some (Committed ps)) _ _ (kept_on b c e)
began_step s t (Committed ps) b c (Commit u) e = commit_other (u == t) (Committed ps) b c e (λ p q h. h) e
began_step s t (Committed ps) b c (Ended u) e = began_either (u == t) _ (Some (Committed ps)) _ _ (began_allowed _ (Some Over) _ _ (kept_on b c e)) (kept_on b c e)
began_step s t (Committed ps) b c (Solo u p k) e = began_allowed _ _ _ _ (began_either (p == t) (freed k ps) (Some (Committed ps)) _ _ (began_freed k ps _ _ (kept_on b c e)) (kept_on b c e))
began_step s t (Committed ps) b c (Back u k) e = began_allowed _ (Some (Committed ps)) _ _ (kept_on b c e)
began_step s t (Committed ps) b c _ e = kept_on b c e
began_step s t Over b c (Begin u) e = began_allowed _ (Some Over) _ _ (more_begun (u == t) b c e)
began_step s t Over b c (Forward u k) e = began_allowed _ (Some Over) _ _ (kept_on b c e)
began_step s t Over b c (Done u q a) e = began_allowed _ (Some Over) _ _ (kept_on b c e)
began_step s t Over b c (Commit u) e = commit_other (u == t) Over b c e (λ p q h. h) e
began_step s t Over b c (Ended u) e = began_allowed _ (Some Over) _ _ (kept_on b c e)
began_step s t Over b c (Solo u p k) e = began_allowed _ (Some Over) _ _ (kept_on b c e)
began_step s t Over b c (Back u k) e = began_allowed _ (Some Over) _ _ (kept_on b c e)
began_step s t Over b c _ e = kept_on b c e

abbrev BeganIn : ℕ → Option TxnState → List Record → Type 0
BeganIn t o L = Began o (has (begun L) t) (has (committed L) t)

began_next : (s : Sizes) (t : ℕ) (o : Option TxnState) (L : List Record) (r : Record) → BeganIn t o L → BeganIn t (txn_next s t o r) (L ++ r ∷ [])
began_next s t None L r h = tt
began_next s t (Some x) L r h =
    rw (filter_map-append begin_by L (r ∷ []), filter_map-append commit_by L (r ∷ []), has_append (begun L) (begun (r ∷ [])) t, has_append (committed L) (committed (r ∷ [])) t)
    (began_step s t x (has (begun L) t) (has (committed L) t) r h)

began : (s : Sizes) (t : ℕ) (L : List Record) → BeganIn t (txn_state s t L) L
began s t L = by_push (λ M. BeganIn t (txn_state s t M) M) (λ e. absurd (both_ways false refl e)) (λ M r h. rw (txn_state_push s t M r) (began_next s t (txn_state s t M) M r h)) L

began_so : (o : Option TxnState) (b c : Bool) → IsSome o → Began o b c → c ≡ true → b ≡ true
began_so None b c k h e = absurd (cc)
began_so (Some Unbegun) b c k h e = h e
began_so (Some (Active w)) b c k h e = h
began_so (Some (Committed ps)) b c k h e = h e
began_so (Some Over) b c k h e = h e

-- where the rules allow all records of t, its Commit has its Begin
pub begun_from_committed : (s : Sizes) (t : ℕ) (L : List Record) → IsSome (txn_state s t L) → has (committed L) t ≡ true → has (begun L) t ≡ true
begun_from_committed s t L legal h = began_so (txn_state s t L) (has (begun L) t) (has (committed L) t) legal (began s t L) h
