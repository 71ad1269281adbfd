-- The log file is a row of batches, each behind an open gate, up to the first closed gate. The byte a5 is an open gate, every other byte a closed one.
--     sized body           a body behind its gate: its length in four bytes, and its bytes
--     batch body           the same with its open gate
--     batches bodies       batches, one behind the other
--     IsBody body          a body has 1 to 2^30 bytes
--     IsOpenAt, IsClosedAt p bytes      a gate stands at place p, and it is open, or closed
--     IsUnformatted bytes  no batch was ever written: fewer than two bytes, or the first gate is closed
--     Ends bytes p bodies e    read from place p, the file has these batches and then ends at e: a closed gate stands there
--     frame_of body        what is written behind the gate of a new batch: the batch and the next closed gate
--     body_of frame, IsFrame frame      and back
--     Framed               what contracts see of a frame: its bytes, of how many records they are, and for how many bytes more it has memory
use Rattle.std.specs.Prelude.{◌<◌, ◌≡◌, ◌≢◌, ◌⊎◌, ℕ, ◌+◌, ◌-◌, ◌≤◌, ◌^◌, List, [], ◌∷◌, ◌++◌, length, take, drop, slice_index, flat_map, refl}
use Rattle.std.specs.List.{AllByRecursion}
use Rattle.std.specs.Coded.{Coded, code_by, coded×, coded_ℕ, coded_list}
use Rattle.dali_bytes.specs.Fields.{number32}

abbrev pub open_gate : ℕ
open_gate = 165

abbrev pub closed_gate : ℕ
closed_gate = 0

abbrev pub sized : List ℕ → List ℕ
sized body = number32 (length body) ++ body

abbrev pub batch : List ℕ → List ℕ
batch body = open_gate ∷ sized body

abbrev pub batches : List (List ℕ) → List ℕ
batches bodies = flat_map batch bodies

abbrev pub IsBody : List ℕ → Type 0
IsBody body = (0 < length body) × (length body ≤ 2 ^ 30)

abbrev pub IsOpenAt : ℕ → List ℕ → Type 0
IsOpenAt p bytes = (p < length bytes) × (slice_index bytes p ≡ open_gate)

abbrev pub IsClosedAt : ℕ → List ℕ → Type 0
IsClosedAt p bytes = (p < length bytes) × (slice_index bytes p ≢ open_gate)

abbrev pub IsUnformatted : List ℕ → Type 0
IsUnformatted bytes = (length bytes < 2) ⊎ (slice_index bytes 0 ≢ open_gate)

pub record Ends (bytes : List ℕ) (p : ℕ) (bodies : List (List ℕ)) (e : ℕ) : Type 0 where
  pub place : e ≡ p + length (batches bodies)
  pub spells : take e bytes ≡ take p bytes ++ batches bodies
  pub closed : IsClosedAt e bytes
  pub each : AllByRecursion IsBody bodies

abbrev pub frame_of : List ℕ → List ℕ
frame_of body = sized body ++ closed_gate ∷ []

abbrev pub body_of : List ℕ → List ℕ
body_of frame = take (length frame - 5) (drop 4 frame)

-- a frame, which may be empty so far
pub record IsFrame (frame : List ℕ) : Type 0 where
  pub whole : frame ≡ frame_of (body_of frame)
  pub room : length (body_of frame) ≤ 2 ^ 30

pub record Framed : Type 0 where
  pub body : List ℕ
  pub records : ℕ
  pub room : ℕ

abbrev pub framed_code : Coded Framed
framed_code =
    code_by (List ℕ × (ℕ × ℕ)) (coded× (coded_list coded_ℕ) (coded× coded_ℕ coded_ℕ)) (λ f. (f.body, (f.records, f.room))) (λ p. record { body = p.0; records = p.1.0; room = p.1.1 })
    (λ _. refl)
