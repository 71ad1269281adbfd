-- The lists of restarts are those of the deleted, and the table's rows are those that a checkpoint keeps.
use Rattle.std.proofs.Common.{◌≡◌, ℕ, zero, suc, ◌-◌, Bool, true, false, List, [], ◌∷◌, ◌++◌, length, map, take, Option, Some, None, refl, ap, sym, subst, ◌∙◌, ⊎_elim, append-nil, arith}
use Rattle.std.specs.Prelude.{◌==◌, ◌||◌, not, if◌then◌else◌, IsSome, slice_get, Contains, filter, flat_map}
use Rattle.std.specs.List.{list_any}
use Rattle.std.specs.Cmp.{both_ways}
use Rattle.std.proofs.lemmas.Grind.{flat_map-append}
use Rattle.std.proofs.lemmas.Bool.{or_left, or_right, or_cases, and_parts, and_from, eq-eqb, eqb-true}
use Rattle.std.proofs.lemmas.List.{take_at, take_all}
use Rattle.dali_lists.proofs.Lists.{get_push}
use Rattle.dali_lists.proofs.Members.{contains_first, contains_more, contains_from_get}
use Rattle.dali_geometry.specs.Sizes.{Sizes}
use Rattle.dali_record.specs.declared.operations.Pending.{Pending}
use Rattle.dali_record.specs.declared.records.Record.{Record}
use Rattle.dali_record.specs.declared.records.Record.TheVariants.{Format, Begin, Forward, Done, Commit, Ended, Solo, AuditBegin, AuditClean, AuditFail, Restarted, Back}
use Rattle.dali_record.specs.Log.{undos_of, begun, committed, ended}
use Rattle.dali_record.specs.Epochs.{Epoch, Cut, cut, cut_step, epochs, last_epoch}
use Rattle.dali_record.specs.Damage.{has, deleted_list}
use Rattle.dali_record.specs.Legal.{TxnState, Unbegun, Active, Over, Committed as Ending, txn_step, txn_state, allowed, IsLegalFor, sizes_of}
use Rattle.dali_record.specs.Files.{Row, table_before, row_of as file_row}
use Rattle.dali_record.proofs.Ends.{by_push}
use Rattle.dali_record.proofs.Pushes.{cut_push}
use Rattle.dali_record.proofs.Tracks.{active-undos}
use Rattle.dali_record.proofs.Stages.{state_from, state_before}
use Rattle.dali_record.proofs.Batches.{number_is_length}
use Rattle.dali_record.proofs.Moves.{over_next_is}
use Rattle.dali_history.specs.Serial.{is_deleted, is_deleted_in}
use Rattle.dali_history.proofs.Places.{get_from_Contains}
use Rattle.dali_history.proofs.Members.{has_append, has-filter, has-filter_from, Contains-from_has, has_from_Contains}
use Rattle.dali_history.proofs.Prefixes.{IsLegalFor-front}
use Rattle.dali_history.proofs.Chained.{is_deleted_in_is_chain, is_deleted_is_chain}
use Rattle.dali_history.proofs.Reported.{deleted_list_is}
use Rattle.dali_history.proofs.Ascending.{deleted_list_ascends}
use Rattle.dali_att.specs.declared.state.State.TheVariants.{Committed}
use Rattle.dali_runs.specs.State.{TxnRow, CoreState, row_of}
use Rattle.dali_runs.specs.Run.{Bases, RunsOn, is_committed, IsRow}
use Rattle.dali_runs.proofs.FactsLemmas.Begun.{holds_the_begun}
use Rattle.dali_runs.proofs.FactsLemmas.Commits.{Com, com_all}
use Rattle.dali_during.specs.Reported.{named_deleted, reported, ReportsAllDeleted, kept_row, TableIsKept}
use Rattle.dali_history.proofs.Rising.{Up}
use Rattle.dali_during.proofs.Ascends.{increasing, same_increasing, deleted_up}
use Rattle.dali_during.proofs.EpochNow.{starts_at}

-- ---- the lists, epoch by epoch
abbrev Named : Sizes → List Record → Type 0
Named s M = IsLegalFor s M → flat_map named_deleted M ≡ flat_map deleted_list (cut M).closed

named_more : (s : Sizes) (M : List Record) (r : Record) → named_deleted r ≡ [] → (cut_step (cut M) r).closed ≡ (cut M).closed → Named s M → Named s (M ++ r ∷ [])
named_more s M r none same ih legal =
    flat_map-append named_deleted M (r ∷ [])
    ∙ ap (λ ds. flat_map named_deleted M ++ (ds ++ [])) none ∙ append-nil (flat_map named_deleted M)
    ∙ ih (IsLegalFor-front s M (r ∷ []) legal)
    ∙ ap (λ es. flat_map deleted_list es) (sym same ∙ ap (λ (c : Cut). c.closed) (sym (cut_push M r)))

named_restart : (s : Sizes) (M : List Record) (rs ds : List ℕ) → Named s M → Named s (M ++ Restarted rs ds ∷ [])
named_restart s M rs ds ih legal =
    flat_map-append named_deleted M (Restarted rs ds ∷ [])
    ∙ ap (λ xs. xs ++ (ds ++ [])) (ih (IsLegalFor-front s M (Restarted rs ds ∷ []) legal))
    ∙ ap (λ xs. flat_map deleted_list (cut M).closed ++ (xs ++ [])) here
    ∙ sym (flat_map-append deleted_list (cut M).closed ((cut M).now ∷ []))
    ∙ ap (λ (c : Cut). flat_map deleted_list c.closed) (sym (cut_push M (Restarted rs ds)))
  where
    here : ds ≡ deleted_list (last_epoch M)
    here = (legal.scans (length M) rs ds (get_push M (Restarted rs ds))).1 ∙ ap (λ K. deleted_list (last_epoch K)) (take_at M (Restarted rs ds ∷ []) (length M) refl)

named_step : (s : Sizes) (M : List Record) (r : Record) → Named s M → Named s (M ++ r ∷ [])
named_step s M (Format i h) ih = named_more s M (Format i h) refl refl ih
named_step s M (Begin t) ih = named_more s M (Begin t) refl refl ih
named_step s M (Forward t b) ih = named_more s M (Forward t b) refl refl ih
named_step s M (Done t c a) ih = named_more s M (Done t c a) refl refl ih
named_step s M (Commit t) ih = named_more s M (Commit t) refl refl ih
named_step s M (Ended t) ih = named_more s M (Ended t) refl refl ih
named_step s M (Solo t p b) ih = named_more s M (Solo t p b) refl refl ih
named_step s M AuditBegin ih = named_more s M AuditBegin refl refl ih
named_step s M (AuditClean b) ih = named_more s M (AuditClean b) refl refl ih
named_step s M (AuditFail b rs) ih = named_more s M (AuditFail b rs) refl refl ih
named_step s M (Restarted rs ds) ih = named_restart s M rs ds ih
named_step s M (Back t b) ih = named_more s M (Back t b) refl refl ih

epoch_by_epoch : (s : Sizes) (L : List Record) → IsLegalFor s L → reported L ≡ flat_map deleted_list (epochs L)
epoch_by_epoch s L legal =
    ap (λ xs. xs ++ deleted_list (last_epoch L)) (by_push (Named s) (λ h. refl) (named_step s) L legal)
    ∙ ap (λ xs. flat_map deleted_list (cut L).closed ++ xs) (sym (append-nil (deleted_list (last_epoch L))))
    ∙ sym (flat_map-append deleted_list (cut L).closed ((cut L).now ∷ []))

-- ---- their members

has_each : (t : ℕ) (es : List Epoch) → ((e : Epoch) → Contains es e → has (deleted_list e) t ≡ is_deleted_in t e) → has (flat_map deleted_list es) t ≡ list_any (is_deleted_in t) es
has_each t [] same = refl
has_each t (e ∷ es) same =
    has_append (deleted_list e) (flat_map deleted_list es) t
    ∙ ap (λ b. b || has (flat_map deleted_list es) t) (same e (contains_first e es))
    ∙ ap (λ b. is_deleted_in t e || b) (has_each t es (λ f c. same f (contains_more e f es c)))

has_own : (s : Sizes) (L : List Record) (t : ℕ) → IsLegalFor s L → (e : Epoch) → Contains (epochs L) e → has (deleted_list e) t ≡ is_deleted_in t e
has_own s L t legal e c = both_ways (has (deleted_list e) t) (is_deleted_in t e)
    (λ h. (is_deleted_in_is_chain e t).1 ((deleted_list_is s L e t legal c).0 (Contains-from_has (deleted_list e) t h)))
    (λ h. has_from_Contains (deleted_list e) t ((deleted_list_is s L e t legal c).1 ((is_deleted_in_is_chain e t).0 h)))

pub reports_all_deleted : ReportsAllDeleted
reports_all_deleted L legal = record {
  epoch_by_epoch = epoch_by_epoch (sizes_of L) L legal;
  members = λ t. (
    (λ c. (is_deleted_is_chain L t).0 (sym (same t) ∙ has_from_Contains (reported L) t c)),
    (λ d. Contains-from_has (reported L) t (same t ∙ (is_deleted_is_chain L t).1 d)),
  );
  each_ascends = λ e c. deleted_list_ascends (sizes_of L) L e legal.rules c;
  ascends = increasing (reported L) up;
  replayed = λ r is. sym (same_increasing (reported L) r.deleted up is.ascends (λ t. both_ways (has (reported L) t) (has r.deleted t)
      (λ h. has_from_Contains r.deleted t ((is.deleted t).1 ((is_deleted_is_chain L t).0 (sym (same t) ∙ h))))
      (λ h. same t ∙ (is_deleted_is_chain L t).1 ((is.deleted t).0 (Contains-from_has r.deleted t h)))));
}
  where
    up : Up (reported L)
    up = subst Up (sym (epoch_by_epoch (sizes_of L) L legal)) (deleted_up (sizes_of L) L legal.rules)

    same : (t : ℕ) → has (reported L) t ≡ is_deleted L t
    same t = ap (λ ds. has ds t) (epoch_by_epoch (sizes_of L) L legal) ∙ has_each t (epochs L) (has_own (sizes_of L) L t legal)

-- ---- who is over stays so
over_if : (c : Bool) (y : TxnState) → allowed c (Some Over) ≡ Some y → y ≡ Over
over_if true y e = let same : Over ≡ y = cc (e) in sym same
over_if false y e = absurd (cc (e))

over_next : (s : Sizes) (t : ℕ) (r : Record) (y : TxnState) → txn_step s t Over r ≡ Some y → y ≡ Over
over_next s t r y e = let next = over_next_is t r in over_if next.0 y (sym next.1 ∙ e)

over_stays : (s : Sizes) (t : ℕ) (E : List Record) (x : TxnState) → state_from s t Over E ≡ Some x → x ≡ Over
over_stays s t E = by_push (λ M. (x : TxnState) → state_from s t Over M ≡ Some x → x ≡ Over) (λ x e. over_if true x e) step E
  where
    step : (M : List Record) (r : Record) → ((x : TxnState) → state_from s t Over M ≡ Some x → x ≡ Over) → (y : TxnState) → state_from s t Over (M ++ r ∷ []) ≡ Some y → y ≡ Over
    step M r ih y e = let b = state_before s t Over M r y e in over_next s t r y (subst (λ z. txn_step s t z r ≡ Some y) (ih b.0 b.1) b.2)

-- ---- the rows
-- a row is of a transaction that the rules know from its epoch's records alone
abbrev FromEpoch : Sizes → ℕ → List Record → Option TxnState → Option TxnRow → Type 0
FromEpoch s t E o row = (r : TxnRow) → row ≡ Some r → (is_committed r.state ≡ has (committed E) t) × (r.undos ≡ (if has (committed E) t then [] else undos_of t E))

from_state : (s : Sizes) (t : ℕ) (E : List Record) (o : Option TxnState) (row : Option TxnRow) → txn_state s t E ≡ o → IsRow o row → FromEpoch s t E o row
from_state s t E None row was i r e = absurd i
from_state s t E (Some Unbegun) row was i r e = absurd (cc)
from_state s t E (Some (Active w)) row was i r e =
    let same : record { state = i.0; undos = w.undos } ≡ r = cc in
    let none : has (committed E) t ≡ false = subst (λ o. Com o (has (committed E) t)) was (com_all s t E) in
    rw none (sym (ap (λ (q : TxnRow). is_committed q.state) same) ∙ i.1, sym (ap (λ (q : TxnRow). q.undos) same) ∙ active-undos s t E w was)
from_state s t E (Some (Ending ps)) row was i r e =
    let same : record { state = Committed; undos = [] } ≡ r = cc in
    let some : has (committed E) t ≡ true = subst (λ o. Com o (has (committed E) t)) was (com_all s t E) in
    rw some (sym (ap (λ (q : TxnRow). is_committed q.state) same), sym (ap (λ (q : TxnRow). q.undos) same))
from_state s t E (Some Over) row was i r e = absurd (cc)

over_none : (row : Option TxnRow) (r : TxnRow) → IsRow (Some Over) row → row ≡ Some r → ⊥
over_none row r i e = let no : None ≡ Some r = sym i ∙ e in absurd (cc)

row_from_epoch : (bases : Bases) (L : List Record) (c : CoreState) (t : ℕ) (r : TxnRow) → RunsOn bases L c → row_of c.system t ≡ Some r → (is_committed r.state ≡ has (committed (last_epoch L).records) t) × (r.undos ≡ (if has (committed (last_epoch L).records) t then [] else undos_of t (last_epoch L).records))
row_from_epoch bases L c t r run e = ⊎_elim fresh (λ over. absurd (gone over)) start.1
  where
    E : List Record
    E = (last_epoch L).records

    start : Rattle.dali_during.proofs.EpochNow.StartsAt c.system.sizes t L (cut L)
    start = starts_at c.system.sizes t L run.log.legal.rules (run.log.legal.txns t)

    fresh : start.0 ≡ Unbegun → (is_committed r.state ≡ has (committed (last_epoch L).records) t) × (r.undos ≡ (if has (committed (last_epoch L).records) t then [] else undos_of t (last_epoch L).records))
    fresh unbegun = from_state c.system.sizes t (last_epoch L).records (txn_state c.system.sizes t (last_epoch L).records) (row_of c.system t) refl (subst (λ o. IsRow o (row_of c.system t)) (start.2 ∙ ap (λ x. state_from c.system.sizes t x (last_epoch L).records) unbegun) (run.table t)) r e

    gone : start.0 ≡ Over → ⊥
    gone over = by_state (txn_state c.system.sizes t L) refl (run.log.legal.txns t)
      where
        by_state : (o : Option TxnState) → txn_state c.system.sizes t L ≡ o → IsSome o → ⊥
        by_state None f some = absurd (cc)
        by_state (Some x) f some =
            let is : x ≡ Over = over_stays c.system.sizes t (last_epoch L).records x (sym (start.2 ∙ ap (λ y. state_from c.system.sizes t y (last_epoch L).records) over) ∙ f) in
            over_none (row_of c.system t) r (subst (λ o. IsRow o (row_of c.system t)) (f ∙ ap (λ y. Some y) is) (run.table t)) e

-- ---- the table
get_map : {X : Type 0} (f : ℕ → X) (xs : List ℕ) (i : ℕ) (w : X) → slice_get (map f xs) i ≡ Some w → (u : ℕ) × (has xs u ≡ true) × (f u ≡ w)
get_map f [] i w e = absurd (cc)
get_map f (x ∷ xs) zero w e = (x, or_left (x == x) (has xs x) (eq-eqb x x refl), let same : f x ≡ w = cc in same)
get_map f (x ∷ xs) (suc i) w e = let r = get_map f xs i w e in (r.0, or_right (x == r.0) (has xs r.0) r.1, r.2)

map_get : {X : Type 0} (f : ℕ → X) (xs : List ℕ) (u : ℕ) → has xs u ≡ true → (i : ℕ) × (slice_get (map f xs) i ≡ Some (f u))
map_get f [] u h = absurd (cc)
map_get f (x ∷ xs) u h = ⊎_elim (λ k. (0, ap (λ z. Some (f z)) (eqb-true x u k))) (λ k. let r = map_get f xs u k in (suc r.0, r.1)) (or_cases (x == u) (has xs u) h)

abbrev row_with : ℕ → Bool → List Pending → Row
row_with t c us = record { txn = t; is_committed = c; undos = us }

same_row : (t : ℕ) (c d : Bool) (us vs : List Pending) → c ≡ d → us ≡ vs → row_with t c us ≡ row_with t d vs
same_row t c d us vs e f = ap (λ b. row_with t b us) e ∙ ap (λ ps. row_with t d ps) f

pub table_is_kept : TableIsKept
table_is_kept bases L c run w = (to, from)
  where
    e : Epoch
    e = last_epoch L

    rows : List Record → List Row
    rows P = map (file_row P) (filter (λ t. not (has (ended P) t)) (begun P))

    all : take (length L - (last_epoch L).first) (last_epoch L).records ≡ (last_epoch L).records
    all = take_all (length L - (last_epoch L).first) (last_epoch L).records (omega (arith, number_is_length L))

    is_row : (r : TxnRow) (t : ℕ) → row_of c.system t ≡ Some r → file_row (last_epoch L).records t ≡ kept_row t r
    is_row r t at = let q = row_from_epoch bases L c t r run at in same_row t (has (committed (last_epoch L).records) t) (is_committed r.state) _ r.undos (sym q.0) (sym q.1)

    some_row : (t : ℕ) (o : Option TxnRow) → row_of c.system t ≡ o → IsSome o → (r : TxnRow) × (row_of c.system t ≡ Some r)
    some_row t None f s = absurd (cc)
    some_row t (Some r) f s = (r, f)

    running : (t : ℕ) → has (filter (λ u. not (has (ended (last_epoch L).records) u)) (begun (last_epoch L).records)) t ≡ true → (r : TxnRow) × (row_of c.system t ≡ Some r)
    running t h =
        let p = has-filter (λ u. not (has (ended (last_epoch L).records) u)) (begun (last_epoch L).records) t h in
        some_row t (row_of c.system t) refl ((holds_the_begun bases L c run t).1 (and_from (has (begun (last_epoch L).records) t) (not (has (ended (last_epoch L).records) t)) p.0 p.1))

    to : Contains (table_before (last_epoch L) (length L)) w → (row : TxnRow) × (row_of c.system w.txn ≡ Some row) × (w ≡ kept_row w.txn row)
    to h =
        let g = get_from_Contains (rows (last_epoch L).records) w (subst (λ P. Contains (rows P) w) all h) in
        let u = get_map (file_row (last_epoch L).records) (filter (λ t. not (has (ended (last_epoch L).records) t)) (begun (last_epoch L).records)) g.0 w g.1 in
        let r = running u.0 u.1 in
        subst (λ (z : Row). (row : TxnRow) × (row_of c.system z.txn ≡ Some row) × (z ≡ kept_row z.txn row)) u.2 (r.0, r.1, is_row r.0 u.0 r.1)

    from : (row : TxnRow) × (row_of c.system w.txn ≡ Some row) × (w ≡ kept_row w.txn row) → Contains (table_before (last_epoch L) (length L)) w
    from x =
        let some : IsSome (row_of c.system w.txn) = rw x.1 refl in
        let p = and_parts (has (begun (last_epoch L).records) w.txn) (not (has (ended (last_epoch L).records) w.txn)) ((holds_the_begun bases L c run w.txn).0 some) in
        let i = map_get (file_row (last_epoch L).records) (filter (λ t. not (has (ended (last_epoch L).records) t)) (begun (last_epoch L).records)) w.txn (has-filter_from (λ u. not (has (ended (last_epoch L).records) u)) (begun (last_epoch L).records) w.txn p.0 p.1) in
        subst (λ P. Contains (rows P) w) (sym all) (contains_from_get (rows (last_epoch L).records) i.0 w (i.1 ∙ ap (λ z. Some z) (is_row x.0 w.txn x.1 ∙ sym x.2)))
