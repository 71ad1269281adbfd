-- What a plain replay of a log comes to.
--     Replayed             the map, the deleted transactions, and whether each replayed call gave its logged answer
--     IsReplay L r         r is that of the log L; where a call didn't give its answer, the map is the one before that call
use Rattle.std.specs.Coded.{Coded, code_by, coded×, coded_ℕ, coded_list, coded_bool}
use Rattle.std.specs.Prelude.{◌≡◌, ℕ, Bool, ◌↔◌, List, Some, is_some, Contains, refl}
use Rattle.std.specs.Ordering.{nat_cmp}
use Rattle.std.specs.FinMap as finite
use Rattle.std.specs.List.Sorted.{IsStrictlyIncreasing}
use Rattle.dali_record.specs.declared.records.Record.{Record}
use Rattle.dali_history.specs.Serial.{Map, empty_map, survivors, expected}
use Rattle.dali_history.specs.Acknowledged.{IsDeletedByChain}
use Rattle.dali_replay.specs.Walking.{serial_made}

pub record Replayed : Type 0 where
  pub map : finite.FinMap nat_cmp (List ℕ)
  pub deleted : List ℕ
  pub agrees : Bool

pub record IsReplay (L : List Record) (r : Replayed) : Type 0 where
  pub agrees : r.agrees ≡ is_some (expected L)
  -- where the replay is defined
  pub map : (m : Map) → expected L ≡ Some m → (k : ℕ) → finite.get r.map k ≡ m k
  -- and everywhere, up to the first call that doesn't get its answer
  pub so_far : (k : ℕ) → finite.get r.map k ≡ (serial_made empty_map (survivors L) L).map k
  pub deleted : (t : ℕ) → Contains r.deleted t ↔ IsDeletedByChain L t
  pub ascends : IsStrictlyIncreasing r.deleted

-- stored as its fields
abbrev pub replayed_code : Coded Replayed
replayed_code =
    code_by (finite.FinMap nat_cmp (List ℕ) × (List ℕ × Bool)) (coded× (finite.code coded_ℕ (coded_list coded_ℕ)) (coded× (coded_list coded_ℕ) coded_bool)) (λ r. (r.map, (r.deleted, r.agrees))) (λ p. record { map = p.0; deleted = p.1.0; agrees = p.1.1 }) (λ _. refl)
