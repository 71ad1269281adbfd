-- A legal log has at most one commit of each transaction.
use Rattle.std.proofs.Common.{◌≡◌, ℕ, ◌==◌, Bool, true, false, List, [], ◌∷◌, Option, Some, None, fold, refl, sym, ◌∙◌, ap, subst, inl, inr, ⊎_elim}
use Rattle.std.specs.Prelude.{◌⊎◌, Contains, IsSome, not, if◌then◌else◌}
use Rattle.std.specs.List.{cons_option}
use Rattle.std.proofs.lemmas.Bool.{eq-eqb}
use Rattle.dali_lists.proofs.Members.{contains_cases, contains_none}
use Rattle.dali_geometry.specs.Sizes.{Sizes}
use Rattle.dali_record.specs.declared.operations.Pending.{Pending}
use Rattle.dali_record.specs.declared.operations.Block.{Block}
use Rattle.dali_record.specs.declared.records.Record.{Record}
use Rattle.dali_record.specs.declared.records.Record.TheVariants.{Begin, Forward, Done, Commit, Ended, Solo, Back}
use Rattle.dali_record.specs.Legal.{TxnState, Unbegun, Active, Committed, Over, txn_step, txn_next, allowed, dead_of, freed, freeing_op, is_of, is_level, is_none_left, IsLegalFor}
use Rattle.dali_record.specs.Log.{commit_by, committed}
use Rattle.dali_record.proofs.Moves.{over_next_is}
use Rattle.dali_record.proofs.Survivors.{commit_is}
use Rattle.dali_served.specs.Served.{Once}

abbrev pub IsPast : TxnState → Type 0
IsPast (Committed ps) = Unit {0}
IsPast Over = Unit {0}
IsPast x = ⊥

abbrev pub StaysPast : Option TxnState → Type 0
StaysPast None = Unit {0}
StaysPast (Some x) = IsPast x

allowed_past : (b : Bool) (o : Option TxnState) → StaysPast o → StaysPast (allowed b o)
allowed_past true o h = h
allowed_past false o h = tt

either_past : (b : Bool) (o q : Option TxnState) → StaysPast o → StaysPast q → StaysPast (if b then o else q)
either_past true o q h g = h
either_past false o q h g = g

freed_past : (b : Block) (ps : List Pending) → StaysPast (freed b ps)
freed_past b [] = tt
freed_past b (p ∷ ps) = allowed_past (is_of (freeing_op p.undo) p b) (Some (Committed ps)) tt

pub past_stays : (s : Sizes) (t : ℕ) (x : TxnState) (r : Record) → IsPast x → StaysPast (txn_step s t x r)
past_stays s t Unbegun r h = absurd h
past_stays s t (Active w) r h = absurd h
past_stays s t (Committed ps) (Begin u) h = allowed_past (not (u == t)) (Some (Committed ps)) tt
past_stays s t (Committed ps) (Forward u b) h = allowed_past (not (u == t)) (Some (Committed ps)) tt
past_stays s t (Committed ps) (Back u b) h = allowed_past (not (u == t)) (Some (Committed ps)) tt
past_stays s t (Committed ps) (Done u c a) h = allowed_past (not (u == t)) (Some (Committed ps)) tt
past_stays s t (Committed ps) (Commit u) h = allowed_past (not (u == t)) (Some (Committed ps)) tt
past_stays s t (Committed ps) (Ended u) h = either_past (u == t) (allowed (is_none_left ps) (Some Over)) (Some (Committed ps)) (allowed_past (is_none_left ps) (Some Over) tt) tt
past_stays s t (Committed ps) (Solo u p b) h =
    allowed_past (not (u == t)) (if p == t then freed b ps else Some (Committed ps)) (either_past (p == t) (freed b ps) (Some (Committed ps)) (freed_past b ps) tt)
past_stays s t (Committed ps) r h = tt
past_stays s t Over r h = let next = over_next_is t r in subst StaysPast (sym next.1) (allowed_past next.0 (Some Over) tt)

not_again : (s : Sizes) (t : ℕ) (x : TxnState) → IsPast x → txn_step s t x (Commit t) ≡ None
not_again s t Unbegun h = absurd h
not_again s t (Active w) h = absurd h
not_again s t (Committed ps) h = let same = eq-eqb t t refl in rw same refl
not_again s t Over h = let same = eq-eqb t t refl in rw same refl

-- behind a commit
level_past : (b : Bool) (ps : List Pending) → StaysPast (allowed b (Some (Committed ps)))
level_past b ps = allowed_past b (Some (Committed ps)) tt

pub commits_past : (s : Sizes) (t : ℕ) (x : TxnState) → StaysPast (txn_step s t x (Commit t))
commits_past s t Unbegun = let same = eq-eqb t t refl in rw same tt
commits_past s t (Active w) = let same = eq-eqb t t refl in rw same (level_past (is_level w) (dead_of w.undos))
commits_past s t (Committed ps) = past_stays s t (Committed ps) (Commit t) tt
commits_past s t Over = past_stays s t Over (Commit t) tt

-- ---- along a log
none_stays : (s : Sizes) (t : ℕ) (K : List Record) → IsSome (fold (txn_next s t) None K) → ⊥
none_stays s t [] is = absurd cc
none_stays s t (r ∷ K) is = none_stays s t K is

-- what is behind the first record
record Next (s : Sizes) (t : ℕ) (x : TxnState) (r : Record) (K : List Record) : Type 0 where
  state : TxnState
  is : txn_step s t x r ≡ Some state
  leads : IsSome (fold (txn_next s t) (Some state) K)

next : (s : Sizes) (t : ℕ) (x : TxnState) (r : Record) (K : List Record) → IsSome (fold (txn_next s t) (Some x) (r ∷ K)) → Next s t x r K
next s t x r K is = by_state (txn_step s t x r) refl is
  where
    by_state : (o : Option TxnState) → txn_step s t x r ≡ o → IsSome (fold (txn_next s t) o K) → Next s t x r K
    by_state None e h = absurd (none_stays s t K h)
    by_state (Some y) e h = record { state = y; is = e; leads = h }

-- one more in front
in_front : (o : Option ℕ) (ts : List ℕ) (t : ℕ) → Contains (cons_option o ts) t → (o ≡ Some t) ⊎ Contains ts t
in_front None ts t h = inr h
in_front (Some u) ts t h = ⊎_elim (λ e. inl (ap (λ (x : ℕ). Some x) e)) (λ g. inr g) (contains_cases u t ts h)

past_never : (s : Sizes) (t : ℕ) (K : List Record) (x : TxnState) → IsPast x → IsSome (fold (txn_next s t) (Some x) K) → Contains (committed K) t → ⊥
past_never s t [] x past is has = contains_none t has
past_never s t (r ∷ K) x past is has =
    let n = next s t x r K is in
    ⊎_elim
    (λ e. let none : Some n.state ≡ None = sym n.is ∙ (ap (txn_step s t x) (commit_is r t e) ∙ not_again s t x past) in absurd cc)
    (λ h. past_never s t K n.state (subst StaysPast n.is (past_stays s t x r past)) n.leads h)
    (in_front (commit_by r) (committed K) t has)

once_front : (o : Option ℕ) (ts : List ℕ) → ((t : ℕ) → o ≡ Some t → Contains ts t → ⊥) → Once ts → Once (cons_option o ts)
once_front None ts none once = once
once_front (Some u) ts none once = (none u refl, once)

once_from : (s : Sizes) (K : List Record) → ((t : ℕ) → (x : TxnState) × IsSome (fold (txn_next s t) (Some x) K)) → Once (committed K)
once_from s [] all = tt
once_from s (r ∷ K) all =
    once_front (commit_by r) (committed K)
    (λ t e h. let n = next s t (all t).0 r K (all t).1 in past_never s t K n.state (subst StaysPast (ap (txn_step s t (all t).0) (sym (commit_is r t e)) ∙ n.is) (commits_past s t (all t).0)) n.leads h)
    (once_from s K (λ t. let n = next s t (all t).0 r K (all t).1 in (n.state, n.leads)))

pub commits_once : (s : Sizes) (K : List Record) → IsLegalFor s K → Once (committed K)
commits_once s K legal = once_from s K (λ t. (Unbegun, legal.txns t))
