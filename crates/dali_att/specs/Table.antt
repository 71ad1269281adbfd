-- The table of running transactions, as a finite map from a transaction's number to its row.
--     Row U                     a transaction's state and its undos, the oldest first
--     Table U                   the map
--     fresh_row                 a row as a transaction begins
--     with_state s row, with_undo u row, without_last row, without_undos row      the row with one change
--     last_of us                the last undo
--     with_row m t f            the table with the change f of the row of t, where it has one
--     undos_at m t, state_at m t      the undos of t, none where it is absent;  its state
--     IsFirst m t               t is the least number of a transaction
use Rattle.std.specs.Prelude.{◌≡◌, ℕ, zero, suc, ◌-◌, ◌≤◌, IsSome, List, [], ◌∷◌, ◌++◌, Option, None, length, take, slice_get, refl}
use Rattle.std.specs.Option.{option_map, option_map_or}
use Rattle.std.specs.Ordering.{nat_cmp}
use Rattle.std.specs.FinMap as map
use Rattle.std.specs.Coded.{Coded, code_by, coded×, coded_ℕ, coded_option, coded_list}
use Rattle.dali_att.specs.declared.state.State.{State}
use Rattle.dali_att.specs.declared.state.State.TheVariants.{Live, Dead, Cleaning, Committed}

pub record Row (U : Type 0) : Type 0 where
  pub state : State
  pub undos : List U

abbrev pub Table : Type 0 → Type 0
Table U = map.FinMap nat_cmp (Row U)

abbrev pub fresh_row : {U : Type 0} → Row U
fresh_row = record { state = Live; undos = [] }

abbrev pub with_state : {U : Type 0} → State → Row U → Row U
with_state state row = record { state = state; undos = row.undos }

abbrev pub with_undo : {U : Type 0} → U → Row U → Row U
with_undo undo row = record { state = row.state; undos = row.undos ++ undo ∷ [] }

abbrev pub without_last : {U : Type 0} → Row U → Row U
without_last row = record { state = row.state; undos = take (length row.undos - 1) row.undos }

abbrev pub without_undos : {U : Type 0} → Row U → Row U
without_undos row = record { state = row.state; undos = [] }

abbrev pub last_of : {U : Type 0} → List U → Option U
last_of undos = slice_get undos (length undos - 1)

abbrev pub with_row : {U : Type 0} → Table U → ℕ → (Row U → Row U) → Table U
with_row m t change = option_map_or (λ row. map.insert m t (change row)) (map.get m t) m

abbrev pub undos_at : {U : Type 0} → Table U → ℕ → List U
undos_at m t = option_map_or (λ row. row.undos) (map.get m t) []

abbrev pub state_at : {U : Type 0} → Table U → ℕ → Option State
state_at m t = option_map (λ row. row.state) (map.get m t)

abbrev pub IsFirst : {U : Type 0} → Table U → ℕ → Type 0
IsFirst m t = IsSome (map.get m t) × ((u : ℕ) → IsSome (map.get m u) → t ≤ u)

-- ---- a code for rows
abbrev split : State → ℕ × Option ℕ
split Live = (0, None)
split (Dead latched) = (1, latched)
split (Cleaning latched) = (2, latched)
split Committed = (3, None)

abbrev joined : ℕ → Option ℕ → State
joined zero o = Live
joined (suc zero) o = Dead o
joined (suc (suc zero)) o = Cleaning o
joined (suc (suc (suc n))) o = Committed

abbrev join : ℕ × Option ℕ → State
join p = joined p.0 p.1

pub there_and_back : (s : State) → join (split s) ≡ s
there_and_back Live = refl
there_and_back (Dead latched) = refl
there_and_back (Cleaning latched) = refl
there_and_back Committed = refl

abbrev pub coded_state : Coded State
coded_state = code_by (ℕ × Option ℕ) (coded× coded_ℕ (coded_option coded_ℕ)) split join there_and_back

abbrev pub coded_row : {U : Type 0} → Coded U → Coded (Row U)
coded_row {U = U} u = code_by (State × List U) (coded× coded_state (coded_list u)) (λ row. (row.state, row.undos)) (λ p. record { state = p.0; undos = p.1 }) (λ _. refl)
