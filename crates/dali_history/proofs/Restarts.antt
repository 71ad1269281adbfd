-- A restart that logs Restarted leaves the log to the next one as it found it: the same image, survivors, map and lists.
use Rattle.std.proofs.Common.{◌≡◌, ℕ, ◌<◌, Bool, true, false, cond, List, [], ◌∷◌, ◌++◌, length, Option, Some, None, refl, ap, sym, subst, ◌∙◌, arith}
use Rattle.std.specs.Prelude.{◌==◌, not, ⊤, filter, fold, IsSome, unwrap_or}
use Rattle.std.specs.List.{list_any}
use Rattle.std.proofs.lemmas.List.{append-nil}
use Rattle.std.proofs.lemmas.List.Folds.{fold_along, list_any-append}
use Rattle.std.proofs.lemmas.List.Elements.{filter_agree}
use Rattle.std.proofs.lemmas.Bool.{both_ways, ne_eqb}
use mathlib.Core.Bool.{or-false}
use Rattle.dali_lists.proofs.Options.{some_of}
use Rattle.dali_geometry.specs.Sizes.{Sizes}
use Rattle.dali_geometry.specs.Places.{formatted_image}
use Rattle.dali_record.specs.declared.records.Record.{Record}
use Rattle.dali_record.specs.declared.records.Record.TheVariants.{Format, Commit, Ended, Restarted}
use Rattle.dali_record.specs.Log.{calls_of, committed}
use Rattle.dali_record.specs.Epochs.{Epoch, Cut, cut, cut_step, last_epoch, recovered_or, recovered_epoch, epochs}
use Rattle.dali_record.specs.Damage.{rolled_list, deleted_list}
use Rattle.dali_record.specs.Legal.{TxnState, Unbegun, Active, Committed, Over, txn_next, txn_state, Rules, rules_start, rules_state, rules_next, rules_step, rules_first, rules_behind, runs, kept_if, sizes_of, IsLegalFor}
use Rattle.dali_record.proofs.Ends.{last_of_push}
use Rattle.dali_record.proofs.Pushes.{cut_push, committed_push, calls_of_push, IsLegalFor-push, IsLockLegal-push}
use Rattle.dali_history.specs.Serial.{empty_map, calls_after, serial, is_deleted_in, is_deleted, survivors, expected}
use Rattle.dali_history.specs.Recovered.{recover, base_of, recovered, recovered_now, IsHonestIn, AreHonest, IsHonest}
use Rattle.dali_history.specs.History.{IsHistory}
use Rattle.dali_history.proofs.Bases.{recovered-restarted}
use Rattle.dali_history.proofs.Members.{fold_within}
use Rattle.dali_history.proofs.Spelled.{AreSpelled-push}
use Rattle.dali_history.proofs.SpelledRestart.{restarted_is_spelled}
use Rattle.dali_history.proofs.ByEpochs.{counts_all}

-- ---- the rules know whether the log ends with Restarted
abbrev pub is_restart : Record → Bool
is_restart (Restarted rs ds) = true
is_restart r = false

abbrev pub Ends : Bool → Option Rules → Type 0
Ends b None = ⊤
Ends b (Some g) = g.restarted ≡ b

ends_if : (c : Bool) (b : Bool) (g : Rules) → g.restarted ≡ b → Ends b (kept_if c g)
ends_if true b g e = e
ends_if false b g e = tt

ends_either : (c : Bool) (b : Bool) (o p : Option Rules) → Ends b o → Ends b p → Ends b (cond c o p)
ends_either true b o p h g = h
ends_either false b o p h g = g

ends_runs : (s : Sizes) (g : Rules) (r : Record) → Ends false (runs s g r)
ends_runs s g (Format i h) = tt
ends_runs s g (Commit t) = refl
ends_runs s g (Ended t) = refl
ends_runs s g (Restarted rs ds) = tt
ends_runs s g _ = ends_if _ false _ refl

ends_first : (s : Sizes) (g : Rules) (r : Record) → Ends (is_restart r) (rules_first s g r)
ends_first s g (Format i h) = ends_if _ false _ refl
ends_first s g r = tt

ends_behind : (s : Sizes) (g : Rules) (r : Record) → Ends (is_restart r) (rules_behind s g r)
ends_behind s g (Restarted rs ds) = ends_if _ true _ refl
ends_behind s g r = ends_either g.failed false None _ tt (ends_runs s g r)

-- after a record that the rules allow, they know whether it was Restarted
pub ends_step : (s : Sizes) (g : Rules) (r : Record) → Ends (is_restart r) (rules_step s g r)
ends_step s g r = ends_either (g.count == 0) (is_restart r) _ _ (ends_first s g r) (ends_behind s g r)

-- an open epoch with records has no Restarted right before its end
abbrev IsEmptyBehind : Option Rules → Cut → Type 0
IsEmptyBehind None c = ⊤
IsEmptyBehind (Some g) c = g.restarted ≡ true → c.now.records ≡ []

not_behind : (o : Option Rules) (c : Cut) → Ends false o → IsEmptyBehind o c
not_behind None c e = tt
not_behind (Some g) c e = λ f. absurd (both_ways g.restarted e f)

any_behind : (o : Option Rules) (c : Cut) → c.now.records ≡ [] → IsEmptyBehind o c
any_behind None c e = tt
any_behind (Some g) c e = λ f. e

behind_step : (s : Sizes) (g : Rules) (c : Cut) (r : Record) (b : Bool) → is_restart r ≡ b → IsEmptyBehind (rules_step s g r) (cut_step c r)
behind_step s g c r false f = not_behind (rules_step s g r) (cut_step c r) (rw f at (ends_step s g r))
behind_step s g c (Restarted rs ds) true f = any_behind (rules_step s g (Restarted rs ds)) (cut_step c (Restarted rs ds)) refl
behind_step s g c r true f = absurd (cc)

behind_next : (s : Sizes) (o : Option Rules) (c : Cut) (r : Record) → IsEmptyBehind o c → IsEmptyBehind (rules_next s o r) (cut_step c r)
behind_next s None c r h = tt
behind_next s (Some g) c r h = behind_step s g c r (is_restart r) refl

behind : (s : Sizes) (L : List Record) → IsEmptyBehind (rules_state s L) (cut L)
behind s L = fold_along (rules_next s) cut_step IsEmptyBehind (λ o c r. behind_next s o c r) (Some rules_start) (record { closed = []; now = record { first = 0; records = [] } }) L (λ f. refl)

-- ---- a Restarted that the rules allow
restart_allowed : (s : Sizes) (g : Rules) (rs ds : List ℕ) → (g.count == 0) ≡ false → g.restarted ≡ false → IsSome (rules_step s g (Restarted rs ds))
restart_allowed s g rs ds e f = rw (e, f) refl

pub none_in_nothing : (L : List Record) (r : Record) (E : List Record) → (last_epoch L).records ≡ r ∷ E → 0 < length L
none_in_nothing [] r E e = absurd (cc)
none_in_nothing (x ∷ L) r E e = omega arith

pub rules_allow : (s : Sizes) (L : List Record) (r : Record) (E : List Record) (rs ds : List ℕ) → IsSome (rules_state s L) → (last_epoch L).records ≡ r ∷ E → IsSome (rules_next s (rules_state s L) (Restarted rs ds))
rules_allow s L r E rs ds legal some = rw state.1 (restart_allowed s state.0 rs ds (ne_eqb state.0.count 0 not_first) (not_restarted state.0.restarted refl))
  where
    state : (g : Rules) × (rules_state s L ≡ Some g)
    state = some_of (rules_state s L) legal

    not_first : state.0.count ≡ 0 → ⊥
    not_first e = let size : state.0.count ≡ length L = rw state.1 at (counts_all s L) in omega (arith, size, e, none_in_nothing L r E some)

    not_restarted : (b : Bool) → state.0.restarted ≡ b → state.0.restarted ≡ false
    not_restarted false e = e
    not_restarted true e =
        let empty : state.0.restarted ≡ true → (last_epoch L).records ≡ [] = rw state.1 at (behind s L) in
        let never : r ∷ E ≡ [] = sym some ∙ empty e in
        absurd (cc)

pub txn_allows : (s : Sizes) (t : ℕ) (o : Option TxnState) (rs ds : List ℕ) → IsSome o → IsSome (txn_next s t o (Restarted rs ds))
txn_allows s t None rs ds h = h
txn_allows s t (Some Unbegun) rs ds h = refl
txn_allows s t (Some (Active w)) rs ds h = refl
txn_allows s t (Some (Committed ps)) rs ds h = refl
txn_allows s t (Some Over) rs ds h = refl

-- ---- the log with the record of a restart behind it
abbrev pub restarted : List Record → List ℕ → List ℕ → List Record
restarted L rs ds = L ++ Restarted rs ds ∷ []

-- it has the same sizes
pub sizes_of-restarted : (L : List Record) (rs ds : List ℕ) → sizes_of (restarted L rs ds) ≡ sizes_of L
sizes_of-restarted [] rs ds = refl
sizes_of-restarted (Format i h ∷ L) rs ds = refl
sizes_of-restarted (x ∷ L) rs ds = refl

-- its epochs are those of the log, and an empty one
pub epochs-restarted : (L : List Record) (rs ds : List ℕ) → (e : Epoch) × (epochs (restarted L rs ds) ≡ epochs L ++ e ∷ []) × (e.records ≡ [])
epochs-restarted L rs ds = ((cut_step (cut L) (Restarted rs ds)).now, ap (λ (c : Cut). c.closed ++ c.now ∷ []) (cut_push L (Restarted rs ds)), refl)

same_calls : (L : List Record) (rs ds : List ℕ) (t : ℕ) → calls_of t (restarted L rs ds) ≡ calls_of t L
same_calls L rs ds t = calls_of_push t L (Restarted rs ds) ∙ append-nil (calls_of t L)

same_deleted : (L : List Record) (rs ds : List ℕ) (t : ℕ) → is_deleted (restarted L rs ds) t ≡ is_deleted L t
same_deleted L rs ds t =
    ap (λ (c : Cut). list_any (is_deleted_in t) (c.closed ++ c.now ∷ [])) (cut_push L (Restarted rs ds))
    ∙ list_any-append (is_deleted_in t) (epochs L) ((cut_step (cut L) (Restarted rs ds)).now ∷ [])
    ∙ or-false (is_deleted L t)

-- the same transactions survive
pub survivors-restarted : (L : List Record) (rs ds : List ℕ) → survivors (restarted L rs ds) ≡ survivors L
survivors-restarted L rs ds =
    ap (λ ts. filter (λ t. not (is_deleted (restarted L rs ds) t)) ts) (committed_push L (Restarted rs ds) ∙ append-nil (committed L))
    ∙ filter_agree (λ t. not (is_deleted (restarted L rs ds) t)) (λ t. not (is_deleted L t)) (λ t. ap not (same_deleted L rs ds t)) (committed L)

-- the same map is expected
pub expected-restarted : (L : List Record) (rs ds : List ℕ) → expected (restarted L rs ds) ≡ expected L
expected-restarted L rs ds =
    ap (λ ts. serial empty_map ts (restarted L rs ds)) (survivors-restarted L rs ds)
    ∙ fold_within (λ o t. calls_after o (calls_of t (restarted L rs ds))) (λ o t. calls_after o (calls_of t L)) (survivors L) (λ t h o. ap (λ cs. calls_after o cs) (same_calls L rs ds t)) (Some empty_map)

-- where the last epoch has a record, it is the one that a restart recovers, before and after
pub recovered-same : (s : Sizes) (L : List Record) (r : Record) (E : List Record) (rs ds : List ℕ) → (last_epoch L).records ≡ r ∷ E → recovered s (restarted L rs ds) ≡ recovered s L
recovered-same s L r E rs ds some = recovered-restarted s L rs ds ∙ sym (ap (λ R. recovered_now s (base_of s L) (cut L).now R) some)

-- the epoch that a restart closed is the one that the next one reports
pub recovered_epoch-restarted : (L : List Record) (rs ds : List ℕ) → recovered_epoch (restarted L rs ds) ≡ last_epoch L
recovered_epoch-restarted L rs ds =
    ap (λ (c : Cut). recovered_or c c.now.records) (cut_push L (Restarted rs ds))
    ∙ ap (λ o. unwrap_or o (cut_step (cut L) (Restarted rs ds)).now) (last_of_push (cut L).closed (cut L).now)

-- where the last epoch has a record, the recovered epoch is the same
pub recovered_epoch-same : (L : List Record) (r : Record) (E : List Record) (rs ds : List ℕ) → (last_epoch L).records ≡ r ∷ E → recovered_epoch (restarted L rs ds) ≡ recovered_epoch L
recovered_epoch-same L r E rs ds some = recovered_epoch-restarted L rs ds ∙ sym (ap (λ R. recovered_or (cut L) R) some)

-- ---- it is a history
-- an epoch that is honest on what those before it lead to
pub honest_push : (s : Sizes) (base : List (List ℕ)) (es : List Epoch) (e : Epoch) → AreHonest s base es → IsHonestIn (fold (recover s) base es) e → AreHonest s base (es ++ e ∷ [])
honest_push s base [] e h g = (g, tt)
honest_push s base (f ∷ es) e h g = (h.0, honest_push s (recover s base f) es e h.1 g)

-- an empty epoch is honest
pub IsHonest-restarted : (s : Sizes) (L : List Record) (rs ds : List ℕ) → IsHonest s L → IsHonest s (restarted L rs ds)
IsHonest-restarted s L rs ds honest =
    subst (λ (c : Cut). AreHonest s (formatted_image s) (c.closed ++ c.now ∷ [])) (sym (cut_push L (Restarted rs ds)))
    (honest_push s (formatted_image s) (epochs L) (cut_step (cut L) (Restarted rs ds)).now honest (λ i a e. absurd (cc)))

-- with the lists of the scan it is a history
pub IsHistory-restarted :
    (L : List Record) (r : Record) (E : List Record) (rs ds : List ℕ)
    → IsHistory L → (last_epoch L).records ≡ r ∷ E → rs ≡ rolled_list (last_epoch L) → ds ≡ deleted_list (last_epoch L) → IsHistory (restarted L rs ds)
IsHistory-restarted L r E rs ds history some rolled deleted = record {
  some_index = rw (sizes_of-restarted L rs ds) history.some_index;
  some_heap = rw (sizes_of-restarted L rs ds) history.some_heap;
  spelled = AreSpelled-push L (Restarted rs ds) history.spelled (rw (rolled, deleted) (restarted_is_spelled (sizes_of L) L history.legal.rules history.spelled));
  legal = rw (sizes_of-restarted L rs ds) legal;
  locks = IsLockLegal-push L (Restarted rs ds) history.locks (λ i a b p q c. absurd (cc));
  honest = rw (sizes_of-restarted L rs ds) (IsHonest-restarted (sizes_of L) L rs ds history.honest);
}
  where
    legal : IsLegalFor (sizes_of L) (restarted L rs ds)
    legal =
        IsLegalFor-push (sizes_of L) L (Restarted rs ds) history.legal (rules_allow (sizes_of L) L r E rs ds history.legal.rules some) (λ t c. txn_allows (sizes_of L) t (txn_state (sizes_of L) t L) rs ds (history.legal.txns t))
        (λ xs ys e. let a : rs ≡ xs = cc in let b : ds ≡ ys = cc in (sym a ∙ rolled, sym b ∙ deleted))
        (λ a e. absurd (cc))
