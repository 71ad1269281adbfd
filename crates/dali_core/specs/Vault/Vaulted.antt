-- A store while the program is up.
--     Vaulted                  what contracts see of a vault
--     IsServing ..             what is true of every vault until it stops: its log ends where it says, and its anchor has as many open gates
--     grown v store f          the vault behind a flush of the frame f, which left this store
--     moved v store            behind the anchor's move
--     faulted v store          behind a fault
--     with_store v store       the same vault over this store
use Rattle.std.specs.Prelude.{◌≡◌, ℕ, ◌+◌, ◌-◌, ◌^◌, min, Bool, true, false, Option, IfSome, refl}
use Rattle.std.specs.Coded.{Coded, code_by, coded×, coded_ℕ, coded_bool}
use Rattle.dali_store.specs.Store.{Files}
use Rattle.dali_log.specs.Batch.{Framed, IsClosedAt}
use Rattle.dali_log.specs.Appending.{bodies_of, next_place}
use Rattle.dali_log.specs.Anchors.{AreAnchored}

pub record Vaulted (V : Type 0) : Type 0 where
  pub store : V
  -- the place behind the log's last batch, and how many records were flushed since the vault was made
  pub end : ℕ
  pub flushed : ℕ
  -- the number of the current image
  pub current : ℕ
  -- a call of the store has failed, and nothing more is written
  pub stopped : Bool

abbrev pub vaulted_code : {V : Type 0} → Coded V → Coded (Vaulted V)
vaulted_code {V = V} code =
    code_by (V × (ℕ × (ℕ × (ℕ × Bool)))) (coded× code (coded× coded_ℕ (coded× coded_ℕ (coded× coded_ℕ coded_bool))))
    (λ v. (v.store, (v.end, (v.flushed, (v.current, v.stopped))))) (λ p. record { store = p.0; end = p.1.0; flushed = p.1.1.0; current = p.1.1.1.0; stopped = p.1.1.1.1 }) (λ _. refl)

-- said of a store that tells what its reads give
pub record IsServing {V : Type 0} (told : V → Option Files) (may_leave : V → Files → Type 0) (v : Vaulted V) : Type 0 where
  pub closed : v.stopped ≡ false → IfSome (told v.store) (λ _. (c : Files) → may_leave v.store c → IsClosedAt v.end c.log)
  pub anchored : v.stopped ≡ false → IfSome (told v.store) (λ _. AreAnchored (may_leave v.store) v.current)

abbrev pub with_store : {V : Type 0} → Vaulted V → V → Vaulted V
with_store v store = record v { store = store }

abbrev pub grown : {V : Type 0} → Vaulted V → V → Framed → Vaulted V
grown v store f = record v { store = store; end = next_place v.end (bodies_of f.body); flushed = min (v.flushed + f.records) (2 ^ 64 - 1) }

abbrev pub moved : {V : Type 0} → Vaulted V → V → Vaulted V
moved v store = record v { store = store; current = v.current + 1 }

abbrev pub faulted : {V : Type 0} → Vaulted V → V → Vaulted V
faulted v store = record v { store = store; stopped = true }
