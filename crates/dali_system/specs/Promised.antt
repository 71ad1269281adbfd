-- Memory that is promised, by transaction.
--     Promised                 for how many bytes of records of each transaction there is memory
--     of_entries es            what these entries tell
--     promised_to m t          those of t, 0 where nothing is promised to it
--     total m                  those of all
--     used m t n               n fewer for t, and none below 0
--     behind m u               what is promised behind a record that uses u
--     Covers m u n             n bytes of what that record may use are promised
--     OwnChanges, OthersStay   what a change makes of its own transaction's, and of another's
use Rattle.std.specs.Prelude.{◌≡◌, ◌==◌, ◌≤◌, ℕ, ◌+◌, ◌-◌, false, List, [], ◌∷◌}
use Rattle.std.specs.Option.{option_map_or}
use Rattle.std.specs.Ordering.{nat_cmp}
use Rattle.std.specs.FinMap.{FinMap, get, insert, remove, entries, from_entries, code}
use Rattle.std.specs.Coded.{Coded, coded_ℕ}
use Rattle.dali_system.specs.declared.promises.Uses.{Uses}
use Rattle.dali_system.specs.declared.promises.Uses.TheVariants.{Nothing, Bytes, All}

abbrev pub Promised : Type 0
Promised = FinMap nat_cmp ℕ

abbrev pub promised_code : Coded Promised
promised_code = code coded_ℕ coded_ℕ

abbrev pub of_entries : List (ℕ × ℕ) → Promised
of_entries es = from_entries es

abbrev pub promised_to : Promised → ℕ → ℕ
promised_to m t = option_map_or (λ n. n) (get m t) 0

abbrev pub sum_of : List (ℕ × ℕ) → ℕ
sum_of [] = 0
sum_of (e ∷ es) = e.1 + sum_of es

abbrev pub total : Promised → ℕ
total m = sum_of (entries m)

abbrev pub used : Promised → ℕ → ℕ → Promised
used m t n = option_map_or (λ p. insert m t (p - n)) (get m t) m

abbrev pub behind : Promised → Uses → Promised
behind m Nothing = m
behind m (Bytes t n) = used m t n
behind m (All t) = remove m t

abbrev pub Covers : Promised → Uses → ℕ → Type 0
Covers m Nothing n = ⊥
Covers m (Bytes t most) n = (n ≤ most) × (n ≤ promised_to m t)
Covers m (All t) n = n ≤ promised_to m t

abbrev pub OwnChanges : Type 0
OwnChanges = (m : Promised) (t n : ℕ) → (promised_to (insert m t n) t ≡ n) × (promised_to (used m t n) t ≡ promised_to m t - n) × (promised_to (remove m t) t ≡ 0)

abbrev pub OthersStay : Type 0
OthersStay = (m : Promised) (t u n : ℕ) → (t == u) ≡ false → (promised_to (insert m t n) u ≡ promised_to m u) × (promised_to (used m t n) u ≡ promised_to m u) × (promised_to (remove m t) u ≡ promised_to m u)
