-- A legal log has fewer than 2^40 records: each record that uses no room takes away what one that uses room has left to do.
-- What is left is counted twice over, so that the first record after a restart is paid for too.
use Rattle.std.proofs.Common.{◌≡◌, ℕ, zero, suc, ◌+◌, ◌*◌, ◌<◌, ◌≤◌, Bool, true, false, cond, List, [], ◌∷◌, ◌++◌, length, Option, Some, None, refl, ap, sym, subst, ◌∙◌, ◌⊎◌, inl, inr, ⊎_elim, arith}
use Rattle.std.specs.Prelude.{IsSome, ◌==◌, ◌&&◌, ◌||◌, not, filter, fold, sum_by, ◌^◌, is_some}
use Rattle.dali_geometry.specs.Sizes.{Sizes}
use Rattle.dali_record.specs.declared.operations.Block.{Block}
use Rattle.dali_record.specs.declared.operations.Pending.{Pending}
use Rattle.dali_record.specs.declared.operations.Undo.{Undo}
use Rattle.dali_record.specs.declared.records.Record.{Record}
use Rattle.dali_record.specs.declared.records.Record.TheVariants.{Format, Begin, Forward, Done, Commit, Ended, Solo, AuditBegin, AuditClean, AuditFail, Restarted, Back}
use Rattle.dali_record.specs.Log.{drop_last, last_of, undo_added}
use Rattle.dali_record.specs.Damage.{has}
use Rattle.dali_record.specs.Spelling.{record_length}
use Rattle.dali_record.specs.Calls.{Progress, Fresh, follow}
use Rattle.dali_record.specs.Legal.{TxnState, Unbegun, Active, Committed as Ending, Over, Working, txn_step, txn_state, txn_next, allowed, either_state, forward, goes_on, starts, back, is_onward, is_level, is_of, is_answer, is_none_left, rested, dead_of, is_removal, freed, freeing_op, Rules, kept_if, runs, has_room, room, passes, restarts, rules_state, rules_first, rules_behind, rules_start, IsLegalFor, rules_step}
use Rattle.dali_record.specs.Operations.{undo_op}
use Rattle.dali_record.proofs.Ends.{by_push}
use Rattle.dali_record.proofs.Pushes.{txn_state_push}
use Rattle.dali_runs.proofs.CountsLemmas.Tallies.{tallies, next_some, tells_step}
use Rattle.std.proofs.lemmas.Bool.{leb-true, cases_lt, not-true, eqb-true}
use Rattle.std.proofs.lemmas.List.Sums.{sum_by_push}
use Rattle.std.proofs.lemmas.List.{nil_from_length, length_push}
use Rattle.dali_lists.proofs.Lists.{length_filter}
use Rattle.dali_lists.proofs.Numbers.{eqb-self}
use Rattle.dali_lists.proofs.Options.{some_same}
use Rattle.dali_lists.proofs.Tests.{left_true, right_true}
use Rattle.dali_record.proofs.EpochRules.{rules_before, unless_failed}
use Rattle.dali_runs.proofs.CountsLemmas.NewNumbers.{above}
use Rattle.dali_runs.specs.Counts.Counts.{IsSmall, next_with}

-- ---- what a transaction has left: a taking back for each undo, a solo for each removal, the commit and the end
abbrev pub left_of : Option TxnState → ℕ
left_of None = 0
left_of (Some Unbegun) = 0
left_of (Some (Active w)) = length w.undos + 2
left_of (Some (Ending dead)) = length dead + 1
left_of (Some Over) = 0

-- what a record adds to that of t, and takes away
abbrev pub more : ℕ → Record → ℕ
more t (Begin u) = cond (u == t) 2 0
more t (Forward u b) = cond (u == t) 1 0
more t _ = 0

abbrev pub gone : ℕ → Record → ℕ
gone t (Back u b) = cond (u == t) 1 0
gone t (Commit u) = cond (u == t) 1 0
gone t (Ended u) = cond (u == t) 1 0
gone t (Solo u p b) = cond (p == t) 1 0
gone t _ = 0

abbrev Less : Option TxnState → ℕ → ℕ → ℕ → Type 0
Less o g l m = IsSome o → left_of o + g ≤ l + m

less_none : (g l m : ℕ) → Less None g l m
less_none g l m h = absurd (cc)

less_allowed : (c : Bool) (o : Option TxnState) (g l m : ℕ) → Less o g l m → Less (allowed c o) g l m
less_allowed true o g l m k = k
less_allowed false o g l m k = less_none g l m

less_either : (o p : Option TxnState) (g l m : ℕ) → Less o g l m → Less p g l m → Less (either_state o p) g l m
less_either None p g l m k j = j
less_either (Some x) p g l m k j = k

less_test : (c : Bool) (o p : Option TxnState) (g l m : ℕ) → Less o g l m → Less p g l m → Less (cond c o p) g l m
less_test true o p g l m k j = k
less_test false o p g l m k j = j

less_more : (c : Bool) (o p : Option TxnState) (l m : ℕ) → Less o 0 l m → Less p 0 l 0 → Less (cond c o p) 0 l (cond c m 0)
less_more true o p l m k j = k
less_more false o p l m k j = j

less_gone : (c : Bool) (o p : Option TxnState) (g l : ℕ) → Less o g l 0 → Less p 0 l 0 → Less (cond c o p) (cond c g 0) l 0
less_gone true o p g l k j = k
less_gone false o p g l k j = j

never_more : (c : Bool) (o : Option TxnState) (l m : ℕ) → Less o 0 l 0 → Less (allowed (not c) o) 0 l (cond c m 0)
never_more true o l m k = less_none 0 l m
never_more false o l m k = k

never_gone : (c : Bool) (o : Option TxnState) (g l : ℕ) → Less o 0 l 0 → Less (allowed (not c) o) (cond c g 0) l 0
never_gone true o g l k = less_none g l 0
never_gone false o g l k = k

never_both : (c d : Bool) (o : Option TxnState) (g l : ℕ) → Less o 0 l 0 → Less (allowed (not c && not d) o) (cond d g 0) l 0
never_both true d o g l k = less_none (cond d g 0) l 0
never_both false true o g l k = less_none g l 0
never_both false false o g l k = k

same : (x : TxnState) → Less (Some x) 0 (left_of (Some x)) 0
same x h = omega arith

added_few : (us : List Pending) (b : Block) (u : Option Undo) → length (us ++ undo_added b u) ≤ length us + 1
added_few [] b None = omega arith
added_few [] b (Some u) = omega arith
added_few (p ∷ us) b u = omega (arith, added_few us b u)

less_goes_on : (w : Working) (b : Block) (o : Option Progress) → Less (goes_on w b o) 0 (length w.undos + 2) 1
less_goes_on w b None h = less_none 0 (length w.undos + 2) 1 h
less_goes_on w b (Some p) h = omega (arith, added_few w.undos b b.undo)

less_starts : (w : Working) (b : Block) (o : Option Progress) → Less (starts w b o) 0 (length w.undos + 2) 1
less_starts w b None h = less_none 0 (length w.undos + 2) 1 h
less_starts w b (Some p) h = omega (arith, added_few w.undos b b.undo)

less_forward : (s : Sizes) (t : ℕ) (w : Working) (b : Block) → Less (forward s t w b) 0 (length w.undos + 2) 1
less_forward s t w b =
    less_either (allowed (is_onward w.way) (goes_on w b (follow s t w.progress b))) (allowed (is_level w) (starts w b (follow s t Fresh b))) 0 (length w.undos + 2) 1
    (less_allowed (is_onward w.way) (goes_on w b (follow s t w.progress b)) 0 (length w.undos + 2) 1 (less_goes_on w b (follow s t w.progress b)))
    (less_allowed (is_level w) (starts w b (follow s t Fresh b)) 0 (length w.undos + 2) 1 (less_starts w b (follow s t Fresh b)))

drop_one : (us : List Pending) (p : Pending) → last_of us ≡ Some p → length (drop_last us) + 1 ≡ length us
drop_one [] p e = absurd (cc)
drop_one (q ∷ []) p e = refl
drop_one (q ∷ r ∷ us) p e = omega (arith, drop_one (r ∷ us) p e)

less_back : (w : Working) (b : Block) (o : Option Pending) → last_of w.undos ≡ o → Less (back w b o) 1 (length w.undos + 2) 0
less_back w b None e = less_none 1 (length w.undos + 2) 0
less_back w b (Some p) e = less_allowed (is_of (undo_op p.undo) p b) (Some (Active _)) 1 (length w.undos + 2) 0 (λ h. omega (arith, drop_one w.undos p e))

less_freed : (b : Block) (ps : List Pending) → Less (freed b ps) 1 (length ps + 1) 0
less_freed b [] = less_none 1 1 0
less_freed b (p ∷ ps) = less_allowed (is_of (freeing_op p.undo) p b) (Some (Ending ps)) 1 (length (p ∷ ps) + 1) 0 (λ h. omega arith)

less_begin : (c : Bool) (w : Working) → length w.undos ≡ 0 → Less (Some (cond c (Active w) Unbegun)) 0 0 (cond c 2 0)
less_begin true w e h = omega (arith, e)
less_begin false w e h = omega arith

less_step : (s : Sizes) (t : ℕ) (x : TxnState) (r : Record) → Less (txn_step s t x r) (gone t r) (left_of (Some x)) (more t r)
less_step s t Unbegun (Begin u) = less_begin (u == t) _ refl
less_step s t Unbegun (Forward u b) = never_more (u == t) (Some Unbegun) 0 1 (same Unbegun)
less_step s t Unbegun (Done u c a) = less_allowed (not (u == t)) (Some Unbegun) 0 0 0 (same Unbegun)
less_step s t Unbegun (Commit u) = never_gone (u == t) (Some Unbegun) 1 0 (same Unbegun)
less_step s t Unbegun (Ended u) = never_gone (u == t) (Some Unbegun) 1 0 (same Unbegun)
less_step s t Unbegun (Solo u p b) = less_test (u == t) _ _ (cond (p == t) 1 0) 0 0 (never_gone (p == t) (Some Over) 1 0 (same Over)) (never_gone (p == t) (Some Unbegun) 1 0 (same Unbegun))
less_step s t Unbegun (Back u b) = never_gone (u == t) (Some Unbegun) 1 0 (same Unbegun)
less_step s t Unbegun _ = same Unbegun
less_step s t (Active w) (Format i h) = same (Active w)
less_step s t (Active w) (Begin u) = never_more (u == t) (Some (Active w)) (length w.undos + 2) 2 (same (Active w))
less_step s t (Active w) (Forward u b) = less_more (u == t) (forward s t w b) (Some (Active w)) (length w.undos + 2) 1 (less_forward s t w b) (same (Active w))
less_step s t (Active w) (Done u c a) = less_test (u == t) _ (Some (Active w)) 0 (length w.undos + 2) 0 (less_allowed (is_answer s w c a) (Some (rested w)) 0 (length w.undos + 2) 0 (λ h. omega arith)) (same (Active w))
less_step s t (Active w) (Commit u) = less_gone (u == t) _ (Some (Active w)) 1 (length w.undos + 2) (less_allowed (is_level w) (Some (Ending (dead_of w.undos))) 1 (length w.undos + 2) 0 (λ h. omega (arith, length_filter (λ (p : Pending). is_removal p.undo) w.undos))) (same (Active w))
less_step s t (Active w) (Ended u) = less_gone (u == t) _ (Some (Active w)) 1 (length w.undos + 2) (less_allowed (is_none_left w.undos) (Some Over) 1 (length w.undos + 2) 0 (λ h. omega arith)) (same (Active w))
less_step s t (Active w) (Solo u p b) = never_both (u == t) (p == t) (Some (Active w)) 1 (length w.undos + 2) (same (Active w))
less_step s t (Active w) AuditBegin = same (Active w)
less_step s t (Active w) (AuditClean b) = same (Active w)
less_step s t (Active w) (AuditFail b rs) = same (Active w)
less_step s t (Active w) (Restarted rs ds) = λ h. omega arith
less_step s t (Active w) (Back u b) = less_gone (u == t) (back w b (last_of w.undos)) (Some (Active w)) 1 (length w.undos + 2) (less_back w b (last_of w.undos) refl) (same (Active w))
less_step s t (Ending ps) (Format i h) = same (Ending ps)
less_step s t (Ending ps) (Begin u) = never_more (u == t) (Some (Ending ps)) (length ps + 1) 2 (same (Ending ps))
less_step s t (Ending ps) (Forward u b) = never_more (u == t) (Some (Ending ps)) (length ps + 1) 1 (same (Ending ps))
less_step s t (Ending ps) (Done u c a) = less_allowed (not (u == t)) (Some (Ending ps)) 0 (length ps + 1) 0 (same (Ending ps))
less_step s t (Ending ps) (Commit u) = never_gone (u == t) (Some (Ending ps)) 1 (length ps + 1) (same (Ending ps))
less_step s t (Ending ps) (Ended u) = less_gone (u == t) _ (Some (Ending ps)) 1 (length ps + 1) (less_allowed (is_none_left ps) (Some Over) 1 (length ps + 1) 0 (λ h. omega arith)) (same (Ending ps))
less_step s t (Ending ps) (Solo u p b) = less_allowed (not (u == t)) _ (cond (p == t) 1 0) (length ps + 1) 0 (less_gone (p == t) (freed b ps) (Some (Ending ps)) 1 (length ps + 1) (less_freed b ps) (same (Ending ps)))
less_step s t (Ending ps) AuditBegin = same (Ending ps)
less_step s t (Ending ps) (AuditClean b) = same (Ending ps)
less_step s t (Ending ps) (AuditFail b rs) = same (Ending ps)
less_step s t (Ending ps) (Restarted rs ds) = λ h. omega arith
less_step s t (Ending ps) (Back u b) = never_gone (u == t) (Some (Ending ps)) 1 (length ps + 1) (same (Ending ps))
less_step s t Over (Begin u) = never_more (u == t) (Some Over) 0 2 (same Over)
less_step s t Over (Forward u b) = never_more (u == t) (Some Over) 0 1 (same Over)
less_step s t Over (Done u c a) = less_allowed (not (u == t)) (Some Over) 0 0 0 (same Over)
less_step s t Over (Commit u) = never_gone (u == t) (Some Over) 1 0 (same Over)
less_step s t Over (Ended u) = never_gone (u == t) (Some Over) 1 0 (same Over)
less_step s t Over (Solo u p b) = never_both (u == t) (p == t) (Some Over) 1 0 (same Over)
less_step s t Over (Back u b) = never_gone (u == t) (Some Over) 1 0 (same Over)
less_step s t Over _ = same Over

-- ---- all transactions below a number
pub sum_below : (ℕ → ℕ) → ℕ → ℕ
sum_below f zero = 0
sum_below f (suc n) = sum_below f n + f n

sum_less : (f g h k : ℕ → ℕ) (n : ℕ) → ((t : ℕ) → f t + g t ≤ h t + k t) → sum_below f n + sum_below g n ≤ sum_below h n + sum_below k n
unfolding sum_below
sum_less f g h k zero e = omega arith
sum_less f g h k (suc n) e = omega (arith, sum_less f g h k n e, e n)

pub sum_none : (f : ℕ → ℕ) (n : ℕ) → ((t : ℕ) → f t ≡ 0) → sum_below f n ≡ 0
unfolding sum_below
sum_none f zero e = refl
sum_none f (suc n) e = omega (arith, sum_none f n e, e n)

-- of one transaction alone
apart_below : (u k n : ℕ) → n ≤ u → sum_below (λ t. cond (u == t) k 0) n ≡ 0
unfolding sum_below
apart_below u k zero h = refl
apart_below u k (suc n) h = by_test (u == n) refl (apart_below u k n (omega (arith, h)))
  where
    by_test : (c : Bool) → (u == n) ≡ c → sum_below (λ t. cond (u == t) k 0) n ≡ 0 → sum_below (λ t. cond (u == t) k 0) n + cond c k 0 ≡ 0
    by_test true e none = absurd (omega (arith, eqb-true u n e, h))
    by_test false e none = omega (arith, none)

pub sum_at : (u k n : ℕ) → u < n → sum_below (λ t. cond (u == t) k 0) n ≡ k
unfolding sum_below
sum_at u k zero h = absurd (omega (arith, h))
sum_at u k (suc n) h = by_test (u == n) refl (λ lt. sum_at u k n lt)
  where
    cases : (a b : ℕ) → a < suc b → (a < b) ⊎ (a ≡ b)
    cases zero zero l = inr refl
    cases zero (suc b) l = inl (omega arith)
    cases (suc a) zero l = absurd (omega (arith, l))
    cases (suc a) (suc b) l = ⊎_elim (λ lt. inl (omega (arith, lt))) (λ is. inr (ap suc is)) (cases a b (omega (arith, l)))

    other : (u == n) ≡ false → u < n
    other f = ⊎_elim (λ lt. lt) (λ is. absurd (let g : (u == n) ≡ true = subst (λ m. (u == m) ≡ true) is (eqb-self u) in cc)) (cases u n h)

    by_test : (c : Bool) → (u == n) ≡ c → (u < n → sum_below (λ t. cond (u == t) k 0) n ≡ k) → sum_below (λ t. cond (u == t) k 0) n + cond c k 0 ≡ k
    by_test true e rest = omega (arith, apart_below u k n (omega (arith, eqb-true u n e)))
    by_test false e rest = omega (arith, rest (other e))

-- ---- audits that were begun and not ended
unfoldable pub open_audits : List ℕ → List ℕ → ℕ
open_audits audits closed = length (filter (λ a. not (has closed a)) audits)

filter_less : (p q : ℕ → Bool) (xs : List ℕ) → ((x : ℕ) → q x ≡ true → p x ≡ true) → length (filter q xs) ≤ length (filter p xs)
filter_less p q [] h = omega arith
filter_less p q (x ∷ xs) h = by_tests (p x) (q x) (h x) (filter_less p q xs h)
  where
    by_tests : (c d : Bool) → (d ≡ true → c ≡ true) → length (filter q xs) ≤ length (filter p xs) → length (cond d (x ∷ filter q xs) (filter q xs)) ≤ length (cond c (x ∷ filter p xs) (filter p xs))
    by_tests true true k l = omega (arith, l)
    by_tests true false k l = omega (arith, l)
    by_tests false true k l = let f : false ≡ true = k refl in absurd (cc)
    by_tests false false k l = l

neither_had : (c d : Bool) → not (c || d) ≡ true → not d ≡ true
neither_had true d e = absurd (cc)
neither_had false d e = e

closes_one : (b : ℕ) (closed audits : List ℕ) → has audits b ≡ true → has closed b ≡ false → open_audits audits (b ∷ closed) + 1 ≤ open_audits audits closed
unfolding open_audits
closes_one b closed [] h n = absurd (cc)
closes_one b closed (a ∷ audits) h n = by_test (a == b) refl h (λ k. closes_one b closed audits k n)
  where
    rest : length (filter (λ x. not ((b == x) || has closed x)) audits) ≤ length (filter (λ x. not (has closed x)) audits)
    rest = filter_less (λ x. not (has closed x)) (λ x. not ((b == x) || has closed x)) audits (λ x k. neither_had (b == x) (has closed x) k)

    by_had : (c d : Bool) → length (filter (λ x. not ((b == x) || has closed x)) audits) + 1 ≤ length (filter (λ x. not (has closed x)) audits) → length (cond (not (c || d)) (a ∷ filter (λ x. not ((b == x) || has closed x)) audits) (filter (λ x. not ((b == x) || has closed x)) audits)) + 1 ≤ length (cond (not d) (a ∷ filter (λ x. not (has closed x)) audits) (filter (λ x. not (has closed x)) audits))
    by_had true true k = k
    by_had true false k = omega (arith, k)
    by_had false true k = k
    by_had false false k = omega (arith, k)

    here : (c d : Bool) → c ≡ true → d ≡ false → length (cond (not (c || d)) (a ∷ filter (λ x. not ((b == x) || has closed x)) audits) (filter (λ x. not ((b == x) || has closed x)) audits)) + 1 ≤ length (cond (not d) (a ∷ filter (λ x. not (has closed x)) audits) (filter (λ x. not (has closed x)) audits))
    here true false e f = omega (arith, rest)
    here true true e f = absurd (cc)
    here false d e f = absurd (cc)

    by_test : (c : Bool) → (a == b) ≡ c → (c || has audits b) ≡ true → (has audits b ≡ true → length (filter (λ x. not ((b == x) || has closed x)) audits) + 1 ≤ length (filter (λ x. not (has closed x)) audits)) → length (filter (λ x. not ((b == x) || has closed x)) (a ∷ audits)) + 1 ≤ length (filter (λ x. not (has closed x)) (a ∷ audits))
    by_test true e k more = here (b == a) (has closed a) (subst (λ x. (b == x) ≡ true) (sym (eqb-true a b e)) (eqb-self b)) (subst (λ x. has closed x ≡ false) (sym (eqb-true a b e)) n)
    by_test false e k more = by_had (b == a) (has closed a) (more k)

pub opens_one : (a : ℕ) (closed audits : List ℕ) → open_audits (a ∷ audits) closed ≤ open_audits audits closed + 1
unfolding open_audits
opens_one a closed audits = by_test (not (has closed a))
  where
    by_test : (c : Bool) → length (cond c (a ∷ filter (λ x. not (has closed x)) audits) (filter (λ x. not (has closed x)) audits)) ≤ length (filter (λ x. not (has closed x)) audits) + 1
    by_test true = omega arith
    by_test false = omega arith

-- what the rules on the whole log have left: the ends of audits, and a restart
abbrev waits : Rules → ℕ
waits g = 2 * open_audits g.audits g.closed + cond g.restarted 0 1

abbrev adds : Record → ℕ
adds AuditBegin = 3
adds (AuditClean b) = 0
adds (AuditFail b rs) = 0
adds (Restarted rs ds) = 0
adds _ = 1

abbrev takes : Record → ℕ
takes (AuditClean b) = 1
takes (AuditFail b rs) = 1
takes (Restarted rs ds) = 1
takes _ = 0

-- behind the first record
abbrev Waits : Option Rules → Rules → Record → Type 0
Waits o h x = (g : Rules) → o ≡ Some g → waits g + takes x ≤ waits h + adds x

waits_some : (k h : Rules) (x : Record) → waits k + takes x ≤ waits h + adds x → Waits (Some k) h x
waits_some k h x l g e = let is : k ≡ g = cc in subst (λ (z : Rules). waits z + takes x ≤ waits h + adds x) is l

waits_kept : (c : Bool) (k h : Rules) (x : Record) → (c ≡ true → waits k + takes x ≤ waits h + adds x) → Waits (kept_if c k) h x
waits_kept true k h x l g e = waits_some k h x (l refl) g e
waits_kept false k h x l g e = absurd (cc)

one_restart : (b : Bool) → not b ≡ true → ◌≡◌ {A = ℕ} (cond b 0 1) 1
one_restart true e = absurd (cc)
one_restart false e = refl

pub ends_audit : (h : Rules) (b : ℕ) → (has h.audits b && not (has h.closed b)) ≡ true → 2 * open_audits h.audits (b ∷ h.closed) + 2 ≤ 2 * open_audits h.audits h.closed
ends_audit h b e = omega (arith, closes_one b h.closed h.audits (left_true (has h.audits b) _ e) (not-true (has h.closed b) (right_true (has h.audits b) _ e)))

waits_runs : (s : Sizes) (h : Rules) (x : Record) → Waits (runs s h x) h x
waits_runs s h (Format i n) g e = absurd (cc)
waits_runs s h (Begin t) g e = waits_kept _ (record (passes h (Begin t)) { next = h.next + 1 }) h (Begin t) (λ k. omega arith) g e
waits_runs s h (Forward t b) g e = waits_kept _ (passes h (Forward t b)) h (Forward t b) (λ k. omega arith) g e
waits_runs s h (Done t c a) g e = waits_kept _ (passes h (Done t c a)) h (Done t c a) (λ k. omega arith) g e
waits_runs s h (Commit t) g e = waits_some (passes h (Commit t)) h (Commit t) (omega arith) g e
waits_runs s h (Ended t) g e = waits_some (passes h (Ended t)) h (Ended t) (omega arith) g e
waits_runs s h (Solo t p b) g e = waits_kept _ (record (passes h (Solo t p b)) { next = h.next + 1 }) h (Solo t p b) (λ k. omega arith) g e
waits_runs s h AuditBegin g e = waits_kept _ (record (passes h AuditBegin) { audits = h.count ∷ h.audits }) h AuditBegin (λ k. omega (arith, opens_one h.count h.closed h.audits)) g e
waits_runs s h (AuditClean b) g e = waits_kept _ (record (passes h (AuditClean b)) { closed = b ∷ h.closed }) h (AuditClean b) (λ k. omega (arith, ends_audit h b k)) g e
waits_runs s h (AuditFail b rs) g e = waits_kept _ (record (passes h (AuditFail b rs)) { closed = b ∷ h.closed; failed = true }) h (AuditFail b rs) (λ k. omega (arith, ends_audit h b (left_true (has h.audits b && not (has h.closed b)) _ k))) g e
waits_runs s h (Restarted rs ds) g e = absurd (cc)
waits_runs s h (Back t b) g e = waits_kept _ (passes h (Back t b)) h (Back t b) (λ k. omega arith) g e

waits_if : (c : Bool) (o : Option Rules) (h : Rules) (x : Record) → Waits o h x → Waits (cond c None o) h x
waits_if true o h x l g e = absurd (cc)
waits_if false o h x l g e = l g e

waits_behind : (s : Sizes) (h : Rules) (x : Record) → Waits (rules_behind s h x) h x
unfolding open_audits
waits_behind s h (Restarted rs ds) = waits_kept (not h.restarted) (restarts h (Restarted rs ds)) h (Restarted rs ds) (λ k. omega (arith, one_restart h.restarted k))
waits_behind s h (Format i n) = waits_if h.failed _ h (Format i n) (waits_runs s h (Format i n))
waits_behind s h (Begin t) = waits_if h.failed _ h (Begin t) (waits_runs s h (Begin t))
waits_behind s h (Forward t b) = waits_if h.failed _ h (Forward t b) (waits_runs s h (Forward t b))
waits_behind s h (Done t c a) = waits_if h.failed _ h (Done t c a) (waits_runs s h (Done t c a))
waits_behind s h (Commit t) = waits_if h.failed _ h (Commit t) (waits_runs s h (Commit t))
waits_behind s h (Ended t) = waits_if h.failed _ h (Ended t) (waits_runs s h (Ended t))
waits_behind s h (Solo t p b) = waits_if h.failed _ h (Solo t p b) (waits_runs s h (Solo t p b))
waits_behind s h AuditBegin = waits_if h.failed _ h AuditBegin (waits_runs s h AuditBegin)
waits_behind s h (AuditClean b) = waits_if h.failed _ h (AuditClean b) (waits_runs s h (AuditClean b))
waits_behind s h (AuditFail b rs) = waits_if h.failed _ h (AuditFail b rs) (waits_runs s h (AuditFail b rs))
waits_behind s h (Back t b) = waits_if h.failed _ h (Back t b) (waits_runs s h (Back t b))

-- ---- records that use room
abbrev pub uses : Record → ℕ
uses (Begin t) = 1
uses (Forward t b) = 1
uses (Done t c a) = 1
uses AuditBegin = 1
uses _ = 0

abbrev pub HasRoomFor : Rules → Record → Type 0
HasRoomFor h x = (uses x ≡ 0) ⊎ (h.weight + record_length x ≤ 269484032)

pub of_kept : (c : Bool) (k g : Rules) → kept_if c k ≡ Some g → c ≡ true
of_kept true k g e = refl
of_kept false k g e = absurd (cc)

room_for : (h : Rules) (x : Record) → has_room h x ≡ true → HasRoomFor h x
room_for h x e = inr (leb-true (h.weight + record_length x) room e)

room_runs : (s : Sizes) (h g : Rules) (x : Record) → runs s h x ≡ Some g → HasRoomFor h x
room_runs s h g (Begin t) e = room_for h (Begin t) (right_true (t == h.next) _ (of_kept _ _ g e))
room_runs s h g (Forward t b) e = room_for h (Forward t b) (right_true _ (has_room h (Forward t b)) (of_kept _ _ g e))
room_runs s h g (Done t c a) e = room_for h (Done t c a) (of_kept _ _ g e)
room_runs s h g AuditBegin e = room_for h AuditBegin (of_kept _ _ g e)
room_runs s h g _ e = inl refl

pub room_behind : (s : Sizes) (h g : Rules) (x : Record) → rules_behind s h x ≡ Some g → HasRoomFor h x
room_behind s h g (Begin t) e = room_runs s h g (Begin t) (unless_failed h.failed _ g e)
room_behind s h g (Forward t b) e = room_runs s h g (Forward t b) (unless_failed h.failed _ g e)
room_behind s h g (Done t c a) e = room_runs s h g (Done t c a) (unless_failed h.failed _ g e)
room_behind s h g AuditBegin e = room_runs s h g AuditBegin (unless_failed h.failed _ g e)
room_behind s h g _ e = inl refl

pub some_length : (x : Record) → 1 ≤ record_length x
some_length (Format i n) = omega arith
some_length _ = omega arith

pub uses_few : (x : Record) → uses x ≤ 1
uses_few (Format i n) = omega arith
uses_few _ = omega arith

pub uses_weight : (L : List Record) → sum_by uses L ≤ sum_by record_length L
uses_weight = by_push (λ L. sum_by uses L ≤ sum_by record_length L) (omega arith) (λ L x here. omega (arith, here, some_length x, uses_few x, sum_by_push uses L x, sum_by_push record_length L x))

-- ---- all of it
-- a transaction to which a record is allowed, where it wouldn't be before a begin, has a number that was given
pub was_given : (s : Sizes) (L : List Record) (h : Rules) (u : ℕ) (x : Record) → rules_state s L ≡ Some h → IsSome (txn_state s u (L ++ x ∷ [])) → txn_step s u Unbegun x ≡ None → u < h.next
was_given s L h u x e some none = ⊎_elim (λ lt. lt) (λ ge. absurd (late ge)) (cases_lt u h.next)
  where
    late : h.next ≤ u → ⊥
    late ge =
        let now : IsSome (txn_next s u (txn_state s u L) x) = rw (txn_state_push s u L x) at some in
        let was : txn_state s u L ≡ Some Unbegun = above s u L h e ge (next_some s u (txn_state s u L) x now) in
        let gone : txn_next s u (txn_state s u L) x ≡ None = ap (λ o. txn_next s u o x) was ∙ none in
        let isnt : is_some (txn_next s u (txn_state s u L) x) ≡ false = ap is_some gone in
        absurd (cc)

pub never_back : (u : ℕ) (o : Option TxnState) → allowed (not (u == u)) o ≡ None
never_back u o = rw (eqb-self u) refl

pub never_solo : (s : Sizes) (n p : ℕ) (b : Block) → txn_step s p Unbegun (Solo n p b) ≡ None
never_solo s n p b = by_test (n == p)
  where
    by_test : (c : Bool) → cond c (allowed (not (p == p)) (Some Over)) (allowed (not (p == p)) (Some Unbegun)) ≡ None
    by_test true = rw (eqb-self p) refl
    by_test false = rw (eqb-self p) refl

pub sum_most : (u k n : ℕ) → sum_below (λ t. cond (u == t) k 0) n ≤ k
sum_most u k n = ⊎_elim (λ lt. omega (arith, sum_at u k n lt)) (λ ge. omega (arith, apart_below u k n ge)) (cases_lt u n)

unfoldable pub lefts : Sizes → List Record → ℕ → ℕ
lefts s L n = sum_below (λ t. left_of (txn_state s t L)) n

next_less : (s : Sizes) (t : ℕ) (o : Option TxnState) (x : Record) → Less (txn_next s t o x) (gone t x) (left_of o) (more t x)
next_less s t None x = less_none (gone t x) 0 (more t x)
next_less s t (Some st) x = less_step s t st x

pub lefts_step : (s : Sizes) (L : List Record) (x : Record) (n : ℕ) → ((t : ℕ) → IsSome (txn_state s t (L ++ x ∷ []))) → lefts s (L ++ x ∷ []) n + sum_below (λ t. gone t x) n ≤ lefts s L n + sum_below (λ t. more t x) n
unfolding lefts
lefts_step s L x n some = sum_less (λ t. left_of (txn_state s t (L ++ x ∷ []))) (λ t. gone t x) (λ t. left_of (txn_state s t L)) (λ t. more t x) n (λ t. rw (txn_state_push s t L x) (next_less s t (txn_state s t L) x (rw (txn_state_push s t L x) at (some t))))

abbrev pub IsBound : Sizes → List Record → Type 0
IsBound s L = (g : Rules) → rules_state s L ≡ Some g → ((t : ℕ) → IsSome (txn_state s t L)) → (n : ℕ) → g.next ≤ n → (length L + 2 * lefts s L n + waits g ≤ 6 * sum_by uses L + 2) × (sum_by uses L ≤ 269484032)

-- what each record adds and takes away, all in all: 6 for one that uses room, and nothing for any other
abbrev Balance : Sizes → List Record → Record → ℕ → Type 0
Balance s L x n = 1 + 2 * lefts s (L ++ x ∷ []) n + adds x ≤ 2 * lefts s L n + 6 * uses x + takes x

pub none_sum : (n : ℕ) → sum_below (λ t. 0) n ≡ 0
none_sum n = sum_none (λ t. 0) n (λ t. refl)

balance : (s : Sizes) (L : List Record) (h g : Rules) (x : Record) (n : ℕ) → rules_state s L ≡ Some h → h.next ≤ n → rules_behind s h x ≡ Some g → ((t : ℕ) → IsSome (txn_state s t (L ++ x ∷ []))) → Balance s L x n
balance s L h g (Format i m) n e l r some = absurd (let f : None ≡ Some g = unless_failed h.failed None g r in cc)
balance s L h g (Begin t) n e l r some = omega (arith, lefts_step s L (Begin t) n some, sum_most t 2 n, none_sum n)
balance s L h g (Forward t b) n e l r some = omega (arith, lefts_step s L (Forward t b) n some, sum_most t 1 n, none_sum n)
balance s L h g (Done t c a) n e l r some = omega (arith, lefts_step s L (Done t c a) n some, none_sum n)
balance s L h g (Commit t) n e l r some = omega (arith, lefts_step s L (Commit t) n some, none_sum n, sum_at t 1 n (omega (arith, l, was_given s L h t (Commit t) e (some t) (never_back t (Some Unbegun)))))
balance s L h g (Ended t) n e l r some = omega (arith, lefts_step s L (Ended t) n some, none_sum n, sum_at t 1 n (omega (arith, l, was_given s L h t (Ended t) e (some t) (never_back t (Some Unbegun)))))
balance s L h g (Solo t p b) n e l r some = omega (arith, lefts_step s L (Solo t p b) n some, none_sum n, sum_at p 1 n (omega (arith, l, was_given s L h p (Solo t p b) e (some p) (never_solo s t p b))))
balance s L h g AuditBegin n e l r some = omega (arith, lefts_step s L AuditBegin n some, none_sum n)
balance s L h g (AuditClean b) n e l r some = omega (arith, lefts_step s L (AuditClean b) n some, none_sum n)
balance s L h g (AuditFail b rs) n e l r some = omega (arith, lefts_step s L (AuditFail b rs) n some, none_sum n)
balance s L h g (Restarted rs ds) n e l r some = omega (arith, lefts_step s L (Restarted rs ds) n some, none_sum n)
balance s L h g (Back t b) n e l r some = omega (arith, lefts_step s L (Back t b) n some, none_sum n, sum_at t 1 n (omega (arith, l, was_given s L h t (Back t b) e (some t) (never_back t (Some Unbegun)))))

pub next_within : (x : Record) (n m : ℕ) → next_with x n ≤ m → n ≤ m
next_within (Begin t) n m l = omega (arith, l)
next_within (Solo t p b) n m l = omega (arith, l)
next_within _ n m l = l

behind_bound : (s : Sizes) (L : List Record) (x : Record) → IsBound s L → (h g : Rules) → rules_state s L ≡ Some h → rules_behind s h x ≡ Some g → rules_state s (L ++ x ∷ []) ≡ Some g → ((t : ℕ) → IsSome (txn_state s t (L ++ x ∷ []))) → (n : ℕ) → h.next ≤ n → (length (L ++ x ∷ []) + 2 * lefts s (L ++ x ∷ []) n + waits g ≤ 6 * sum_by uses (L ++ x ∷ []) + 2) × (sum_by uses (L ++ x ∷ []) ≤ 269484032)
behind_bound s L x ih h g e r f some n l = (omega (arith, before.0, balance s L h g x n e l r some, waits_behind s h x g r, length_push L x, sum_by_push uses L x), ⊎_elim (λ none. omega (arith, none, before.1, sum_by_push uses L x)) (λ fits. omega (arith, fits, uses_few x, some_length x, uses_weight L, (tallies s L h e).1, sum_by_push uses L x)) (room_behind s h g x r))
  where
    before : (length L + 2 * lefts s L n + waits h ≤ 6 * sum_by uses L + 2) × (sum_by uses L ≤ 269484032)
    before = ih h e (λ t. next_some s t (txn_state s t L) x (rw (txn_state_push s t L x) at (some t))) n l

first_bound : (s : Sizes) (x : Record) (g : Rules) → rules_first s rules_start x ≡ Some g → (n : ℕ) → (length (x ∷ []) + 2 * lefts s (x ∷ []) n + waits g ≤ 6 * sum_by uses (x ∷ []) + 2) × (sum_by uses (x ∷ []) ≤ 269484032)
unfolding lefts open_audits
first_bound s (Format i m) g r n = (omega (arith, none, waits_one (passes rules_start (Format i m)) (kept_is _ _ g r) refl), omega arith)
  where
    kept_is : (c : Bool) (k h : Rules) → kept_if c k ≡ Some h → k ≡ h
    kept_is true k h e = some_same e
    kept_is false k h e = absurd (cc)

    waits_one : (k : Rules) → k ≡ g → waits k ≡ 1 → waits g ≡ 1
    waits_one k is e = subst (λ (z : Rules). waits z ≡ 1) is e

    none : sum_below (λ t. left_of (txn_state s t (Format i m ∷ []))) n ≡ 0
    none = sum_none (λ t. left_of (txn_state s t (Format i m ∷ []))) n (λ t. refl)
first_bound s (Begin t) g r n = absurd (cc)
first_bound s _ g r n = absurd (cc)

pub bound : (s : Sizes) (L : List Record) → IsBound s L
unfolding lefts open_audits
bound s = by_push (IsBound s) (λ g e some n l. (at_start g e n, omega arith)) step
  where
    at_start : (g : Rules) → rules_state s [] ≡ Some g → (n : ℕ) → 0 + 2 * lefts s [] n + waits g ≤ 6 * 0 + 2
    at_start g e n = let is : rules_start ≡ g = cc in subst (λ (z : Rules). 0 + 2 * sum_below (λ t. 0) n + waits z ≤ 2) is (omega (arith, none_sum n))

    step : (L : List Record) (x : Record) → IsBound s L → IsBound s (L ++ x ∷ [])
    step L x ih g e some n l =
        let b : (h : Rules) × (rules_state s L ≡ Some h) × (rules_step s h x ≡ Some g) = rules_before s L x g e in
        by_test b.0 b.1 (b.0.count == 0) refl b.2
      where
        by_test : (h : Rules) → rules_state s L ≡ Some h → (c : Bool) → (h.count == 0) ≡ c → cond c (rules_first s h x) (rules_behind s h x) ≡ Some g → (length (L ++ x ∷ []) + 2 * lefts s (L ++ x ∷ []) n + waits g ≤ 6 * sum_by uses (L ++ x ∷ []) + 2) × (sum_by uses (L ++ x ∷ []) ≤ 269484032)
        by_test h was true f r = from_start L (nil_from_length L (sym (tallies s L h was).0 ∙ eqb-true h.count 0 f)) was r
          where
            from_start : (M : List Record) → M ≡ [] → rules_state s M ≡ Some h → rules_first s h x ≡ Some g → (length (M ++ x ∷ []) + 2 * lefts s (M ++ x ∷ []) n + waits g ≤ 6 * sum_by uses (M ++ x ∷ []) + 2) × (sum_by uses (M ++ x ∷ []) ≤ 269484032)
            from_start [] q v r = let is : rules_start ≡ h = cc in first_bound s x g (subst (λ z. rules_first s z x ≡ Some g) (sym is) r) n
            from_start (y ∷ M) q v r = absurd (cc)
        by_test h was false f r = behind_bound s L x ih h g was r e some n (next_within x h.next n (omega (arith, l, (tells_step s h x g (rw f r)).2)))

pub is_small : IsSmall
is_small s L legal = by_state (rules_state s L) refl legal.rules
  where
    by_state : (o : Option Rules) → rules_state s L ≡ o → IsSome o → length L < 2 ^ 40
    by_state None e k = absurd (cc)
    by_state (Some g) e k = let b = bound s L g e legal.txns g.next (omega arith) in omega (arith, b.0, b.1)

-- so is the next transaction's number
numbers_few : (L : List Record) (n : ℕ) → fold (λ m x. next_with x m) n L ≤ n + length L
numbers_few [] n = omega arith
numbers_few (x ∷ L) n = omega (arith, numbers_few L (next_with x n), next_few x n)
  where
    next_few : (y : Record) (m : ℕ) → next_with y m ≤ m + 1
    next_few (Format i h) m = omega arith
    next_few (Begin t) m = omega arith
    next_few (Forward t b) m = omega arith
    next_few (Done t c a) m = omega arith
    next_few (Commit t) m = omega arith
    next_few (Ended t) m = omega arith
    next_few (Solo t p b) m = omega arith
    next_few AuditBegin m = omega arith
    next_few (AuditClean b) m = omega arith
    next_few (AuditFail b rs) m = omega arith
    next_few (Restarted rs ds) m = omega arith
    next_few (Back t b) m = omega arith

pub next_is_small : (s : Sizes) (L : List Record) (g : Rules) → IsLegalFor s L → rules_state s L ≡ Some g → g.next ≤ 2 ^ 40
next_is_small s L g legal e = omega (arith, (tallies s L g e).2, numbers_few L 1, is_small s L legal)
