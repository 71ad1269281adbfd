-- The rows of the system's table are those that a checkpoint keeps.
use Rattle.std.proofs.Common.{◌≡◌, ℕ, suc, ◌-◌, Bool, true, false, List, [], ◌∷◌, length, Option, Some, None, map, refl, ap, sym, subst, ◌∙◌, ⊎_elim, arith}
use Rattle.std.specs.Prelude.{◌==◌, ◌||◌, not, filter, take, is_some, Contains, slice_get}
use Rattle.std.specs.Option.{option_map, option_map_or}
use Rattle.std.proofs.lemmas.Bool.{eq-eqb, eqb-true, or_cases, and_parts, and_from}
use Rattle.std.proofs.lemmas.List.{take_all}
use Rattle.std.proofs.lemmas.List.Kept.{IsStrictlyIncreasing-filter}
use Rattle.std.specs.FinMap as finite
use Rattle.dali_lists.proofs.Members.{contains_from_get}
use Rattle.dali_lists.proofs.Tests.{same_tests}
use Rattle.dali_att.specs.declared.state.State.{State}
use Rattle.dali_att.specs.declared.state.State.TheVariants.{Live, Dead, Cleaning, Committed}
use Rattle.dali_att.specs.Table.{Table}
use Rattle.dali_record.specs.declared.operations.Pending.{Pending}
use Rattle.dali_record.specs.declared.records.Record.{Record}
use Rattle.dali_record.specs.Log.{begun, ended}
use Rattle.dali_record.specs.Epochs.{last_epoch}
use Rattle.dali_record.specs.Damage.{has}
use Rattle.dali_record.specs.Files.{Row, row_of as file_row, table_before}
use Rattle.dali_record.proofs.Batches.{number_is_length}
use Rattle.dali_history.proofs.Members.{has-filter, has-filter_from}
use Rattle.dali_history.proofs.Ascending.{begun_ascends}
use Rattle.dali_history.proofs.Rising.{keys_up, has_keys}
use Rattle.dali_runs.specs.State.{TxnRow, CoreState}
use Rattle.dali_runs.specs.Run.{Bases, RunsOn, is_committed}
use Rattle.dali_runs.proofs.FactsLemmas.Begun.{holds_the_begun}
use Rattle.dali_during.specs.Reported.{kept_row}
use Rattle.dali_during.proofs.Premises.{last_in}
use Rattle.dali_during.proofs.Ascends.{same_increasing}
use Rattle.dali_during.proofs.Reported.{table_is_kept}
use Rattle.dali_image.specs.Rows.{rows_of, row_at, is_committed as is_kept_committed}

-- ---- a row
kept_state : (s : State) → is_kept_committed (Some s) ≡ is_committed s
kept_state Live = refl
kept_state (Dead r) = refl
kept_state (Cleaning r) = refl
kept_state Committed = refl

row_is : (m : Table Pending) (t : ℕ) (o : Option TxnRow) (r : TxnRow) → finite.get m t ≡ o → o ≡ Some r → row_at m t ≡ kept_row t r
row_is m t None r e f = absurd (cc)
row_is m t (Some q) r e f =
    let one : q ≡ r = cc in
    ap (λ (x : Option TxnRow). record { txn = t; is_committed = is_kept_committed (option_map (λ row. row.state) x); undos = option_map_or (λ row. row.undos) x [] }) (e ∙ f)
    ∙ ap (λ (b : Bool). record { txn = t; is_committed = b; undos = r.undos }) (kept_state r.state)

-- ---- all rows

map_same : (f g : ℕ → Row) (xs : List ℕ) → ((t : ℕ) → has xs t ≡ true → f t ≡ g t) → map f xs ≡ map g xs
map_same f g [] h = refl
map_same f g (x ∷ xs) h = ap (λ y. y ∷ map f xs) (h x (or_here (x == x) (has xs x) (eq-eqb x x refl))) ∙ ap (λ ys. g x ∷ ys) (map_same f g xs (λ t e. h t (or_there (x == t) (has xs t) e)))
  where
    or_here : (a b : Bool) → a ≡ true → (a || b) ≡ true
    or_here true b e = refl
    or_here false b e = absurd (cc)

    or_there : (a b : Bool) → b ≡ true → (a || b) ≡ true
    or_there true b e = refl
    or_there false b e = e

map_get : (f : ℕ → Row) (xs : List ℕ) (u : ℕ) → has xs u ≡ true → (i : ℕ) × (slice_get (map f xs) i ≡ Some (f u))
map_get f [] u h = absurd (cc)
map_get f (x ∷ xs) u h = ⊎_elim (λ k. (0, ap (λ z. Some (f z)) (eqb-true x u k))) (λ k. let r = map_get f xs u k in (suc r.0, r.1)) (or_cases (x == u) (has xs u) h)

pub rows_are : (bases : Bases) (L : List Record) (c : CoreState) → RunsOn bases L c → rows_of c.system.table ≡ table_before (last_epoch L) (length L)
rows_are bases L c run = ap (map (row_at c.system.table)) keys_are ∙ (map_same (row_at c.system.table) (file_row E) running each ∙ ap rows (sym all))
  where
    E : List Record
    E = (last_epoch L).records

    rows : List Record → List Row
    rows P = map (file_row P) (filter (λ t. not (has (ended P) t)) (begun P))

    all : take (length L - (last_epoch L).first) (last_epoch L).records ≡ E
    all = take_all (length L - (last_epoch L).first) (last_epoch L).records (omega (arith, number_is_length L))

    running : List ℕ
    running = filter (λ t. not (has (ended E) t)) (begun E)

    -- who has a row runs
    is_in : (t : ℕ) → is_some (finite.get c.system.table t) ≡ true → has running t ≡ true
    is_in t e =
        let p = and_parts (has (begun E) t) (not (has (ended E) t)) ((holds_the_begun bases L c run t).0 e) in
        has-filter_from (λ u. not (has (ended E) u)) (begun E) t p.0 p.1

    has_row : (t : ℕ) → has running t ≡ true → is_some (finite.get c.system.table t) ≡ true
    has_row t e =
        let p = has-filter (λ u. not (has (ended E) u)) (begun E) t e in
        (holds_the_begun bases L c run t).1 (and_from (has (begun E) t) (not (has (ended E) t)) p.0 p.1)

    keys_are : finite.keys c.system.table ≡ running
    keys_are =
        same_increasing (finite.keys c.system.table) running (keys_up c.system.table)
        (IsStrictlyIncreasing-filter (λ t. not (has (ended E) t)) (begun E) (begun_ascends c.system.sizes L (last_epoch L) run.log.legal.rules (last_in L)))
        (λ t. has_keys c.system.table t ∙ same_tests (is_some (finite.get c.system.table t)) (has running t) (is_in t) (has_row t))

    each : (t : ℕ) → has running t ≡ true → row_at c.system.table t ≡ file_row E t
    each t e =
        let at = map_get (file_row E) running t e in
        let kept = (table_is_kept bases L c run (file_row E t)).0 (subst (λ P. Contains (rows P) (file_row E t)) (sym all) (contains_from_get (rows E) at.0 (file_row E t) at.1)) in
        row_is c.system.table t (finite.get c.system.table t) kept.0 refl kept.1 ∙ sym kept.2
