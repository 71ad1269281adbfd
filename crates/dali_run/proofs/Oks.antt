-- What stands in a log of acknowledged transactions.
use Rattle.std.proofs.Common.{◌≡◌, ◌<◌, ◌≤◌, ◌+◌, ℕ, zero, suc, List, [], ◌∷◌, ◌++◌, length, map, take, Some, sym, ◌∙◌, ap, subst, arith}
use Rattle.std.specs.Prelude.{Contains, slice_get}
use Rattle.std.proofs.lemmas.List.{take_all, take-append-le, take-take}
use Rattle.std.proofs.lemmas.Option.{slice_get_within}
use Rattle.dali_geometry.specs.Sizes.{Sizes}
use Rattle.dali_history.proofs.Chained.{committed_is_Contains}
use Rattle.dali_history.proofs.Members.{Contains-from_has, has_from_Contains}
use Rattle.dali_history.proofs.Places.{get_from_Contains}
use Rattle.dali_lists.proofs.Lists.{get_front, get_take}
use Rattle.dali_lists.proofs.Members.{contains_first, contains_more, contains_none, contains_from_get}
use Rattle.dali_record.specs.declared.records.Record.{Record}
use Rattle.dali_record.specs.declared.records.Record.TheVariants.{Commit}
use Rattle.dali_record.specs.Legal.{IsLegalFor}
use Rattle.dali_record.specs.Log.{calls_of, committed}
use Rattle.dali_served.specs.Oks.{Transaction, StandsIn}
use Rattle.dali_served.proofs.Spans.{calls_till_commit, legal_front}
use Rattle.dali_run.specs.Headline.{transaction_of, transactions_in}
use Rattle.dali_run.specs.Survives.{BeginsWith}

-- ---- in a log that begins so, and in a front of one
pub stands_on : (L M : List Record) (n : ℕ) (x : Transaction) → StandsIn L n x → StandsIn (L ++ M) n x
stands_on L M n x s =
    let within = slice_get_within L n (Commit x.number) s.commit in
    record { commit = get_front L M n (Commit x.number) s.commit; calls = ap (calls_of x.number) (take-append-le n L M (omega (arith, within))) ∙ s.calls }

pub stands_front : (L : List Record) (k n : ℕ) (x : Transaction) → n < k → StandsIn L n x → StandsIn (take k L) n x
stands_front L k n x lt s = record { commit = get_take k n L lt ∙ s.commit; calls = ap (calls_of x.number) (take-take n k L (omega (arith, lt))) ∙ s.calls }

-- ---- in a legal log
-- it has no call of a transaction behind its Commit
whole_calls : (s : Sizes) (L : List Record) (n t : ℕ) → IsLegalFor s L → slice_get L n ≡ Some (Commit t) → calls_of t L ≡ calls_of t (take n L)
whole_calls s L n t legal at =
    ap (calls_of t) (sym (take_all (length L + suc n) L (omega arith))) ∙ calls_till_commit s L n (length L + suc n) t legal at (omega arith)

pub stands_made : (s : Sizes) (L : List Record) (n : ℕ) (x : Transaction) → IsLegalFor s L → StandsIn L n x → Contains (committed L) x.number × (calls_of x.number L ≡ x.calls)
stands_made s L n x legal st = (
  Contains-from_has (committed L) x.number ((committed_is_Contains L x.number).1 (contains_from_get L n (Commit x.number) st.commit)),
  whole_calls s L n x.number legal st.commit ∙ st.calls,
)

record Named (L : List Record) (ts : List ℕ) (x : Transaction) : Type 0 where
  txn : ℕ
  has : Contains ts txn
  is : transaction_of L txn ≡ x

named : (L : List Record) (ts : List ℕ) (x : Transaction) → Contains (map (transaction_of L) ts) x → Named L ts x
named L [] x has = absurd (contains_none x has)
named L (t ∷ ts) x (zero, within, is) = record { txn = t; has = contains_first t ts; is = is }
named L (t ∷ ts) x (suc i, within, is) = let later = named L ts x (i, omega (arith, within), is) in record { txn = later.txn; has = contains_more t later.txn ts later.has; is = later.is }

pub stands_of : (s : Sizes) (L : List Record) (x : Transaction) → IsLegalFor s L → Contains (transactions_in L) x → (n : ℕ) × StandsIn L n x
stands_of s L x legal has =
    let one = named L (committed L) x has in
    let at = get_from_Contains L (Commit one.txn) ((committed_is_Contains L one.txn).0 (has_from_Contains (committed L) one.txn one.has)) in
    subst (λ (y : Transaction). (n : ℕ) × StandsIn L n y) one.is (at.0, record { commit = at.1; calls = sym (whole_calls s L at.0 one.txn legal at.1) })

-- ---- fronts
pub front_legal : (s : Sizes) (base L : List Record) → BeginsWith base L → IsLegalFor s L → IsLegalFor s base
front_legal s base L begins legal =
    let front : take (length base) L ≡ base = ap (take (length base)) begins.1 ∙ (take-append-le (length base) base begins.0 (omega arith) ∙ take_all (length base) base (omega arith)) in
    subst (IsLegalFor s) front (legal_front s L (length base) legal)

-- a front of a log that goes on so
pub front_log : (K L M rest : List Record) (n : ℕ) → K ≡ take n L → n ≤ length L → L ++ rest ≡ M → K ≡ take n M
front_log K L M rest n is le whole = is ∙ (sym (take-append-le n L rest le) ∙ ap (take n) whole)
