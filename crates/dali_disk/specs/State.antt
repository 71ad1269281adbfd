-- A file between two syncs, and what a crash may leave of it.
-- Words: State, state_of, begun_with, written, wrote, kept, dropped; IsIn, IsPending, IsImage;
-- in_spans, waits_at, mixed_byte, byte_after, mixed_from, mixed, cut_by; waits_in, waits; Agree, IsRoomy.
use Rattle.std.specs.Prelude.{◌<◌, ◌≡◌, ◌⊎◌, ℕ, zero, suc, ◌+◌, ◌≤◌, List, [], ◌∷◌, ◌++◌, length, take, drop, slice_index}
use Rattle.std.specs.Prelude.{Bool, true, false, not, nat_lt, ◌&&◌, ◌||◌, ◌==◌, ◌*◌, ◌%◌, if◌then◌else◌}
use Rattle.dali_disk.specs.declared.disk.Span.{Span}

-- what a file began with, what reads give, what the last sync kept, and the ranges written since
pub record State : Type 0 where
  pub start : List ℕ
  pub seen : List ℕ
  pub synced : List ℕ
  pub spans : List Span

-- what the file began with counts as synced
abbrev pub begun_with : List ℕ → State
begun_with start = record { start = start; seen = start; synced = start; spans = [] }

-- until the first write there are no copies of what the file began with
abbrev pub state_of : Bool → List ℕ → List ℕ → List ℕ → List Span → State
state_of false start seen synced spans = begun_with start
state_of true start seen synced spans = record { start = start; seen = seen; synced = synced; spans = spans }

-- the bytes of a file after a write at a place in it
abbrev pub written : ℕ → List ℕ → List ℕ → List ℕ
written at bytes file = take at file ++ bytes ++ drop (at + length bytes) file

abbrev pub wrote : ℕ → List ℕ → State → State
wrote at bytes s = record s {
  seen = written at bytes s.seen;
  spans = s.spans ++ record { at = at; count = length bytes } ∷ [];
}

abbrev pub kept : State → State
kept s = record s { synced = s.seen; spans = [] }

abbrev pub dropped : State → State
dropped s = record s { seen = s.synced; spans = [] }

-- it is in a range that was written since the last sync
abbrev pub IsIn : List Span → ℕ → Type 0
IsIn [] i = ⊥
IsIn (span ∷ spans) i = ((span.at ≤ i) × (i < span.at + span.count)) ⊎ IsIn spans i

-- it was written since the last sync, or stands past the length at that sync
abbrev pub IsPending : State → ℕ → Type 0
IsPending s i = (length s.synced ≤ i) ⊎ IsIn s.spans i

-- A crash may leave this: some length from that at the last sync to the present one, any bytes where they are
-- pending, and the others as they are.
pub record IsImage (s : State) (c : List ℕ) : Type 0 where
  pub no_shorter : length s.synced ≤ length c
  pub no_longer : length c ≤ length s.seen
  pub same : (i : ℕ) → i < length c → (IsPending s i → ⊥) → slice_index c i ≡ slice_index s.seen i

-- the same as tests
abbrev pub in_spans : List Span → ℕ → Bool
in_spans [] i = false
in_spans (span ∷ spans) i = (not (nat_lt i span.at) && nat_lt i (span.at + span.count)) || in_spans spans i

abbrev pub waits_at : List ℕ → List Span → ℕ → Bool
waits_at synced spans i = not (nat_lt i (length synced)) || in_spans spans i

-- a third of the pending bytes as at the last sync (0 past the old end), a third as written, and a third others
abbrev pub mixed_byte : ℕ → ℕ → List ℕ → ℕ → ℕ → ℕ
mixed_byte choice file synced seen i =
    let r = (31 * choice + 17 * file + 7 * i) % 3 in
    if r == 0 then slice_index synced i else (if r == 1 then seen else (choice + i) % 256)

abbrev pub byte_after : ℕ → ℕ → List ℕ → List Span → ℕ → ℕ → ℕ
byte_after choice file synced spans i seen =
    if waits_at synced spans i then mixed_byte choice file synced seen i else seen

-- the bytes from place i on
abbrev pub mixed_from : ℕ → ℕ → List ℕ → List Span → ℕ → List ℕ → List ℕ
mixed_from choice file synced spans i [] = []
mixed_from choice file synced spans i (byte ∷ bytes) =
    byte_after choice file synced spans i byte ∷ mixed_from choice file synced spans (i + 1) bytes

abbrev pub mixed : ℕ → ℕ → State → State
mixed choice file s =
    let bytes = mixed_from choice file s.synced s.spans 0 s.seen in
    record { start = s.start; seen = bytes; synced = bytes; spans = [] }

-- a crash: choice 0 keeps all writes, 1 drops the pending ones, and every other one mixes them by the file's number
abbrev pub cut_by : ℕ → ℕ → State → State
cut_by zero file s = kept s
cut_by (suc zero) file s = dropped s
cut_by (suc (suc n)) file s = mixed (n + 2) file s

-- 1 where something was written since the last sync
abbrev pub waits_in : List Span → ℕ
waits_in [] = 0
waits_in (span ∷ spans) = 1

abbrev pub waits : State → ℕ
waits s = waits_in s.spans

-- two lists are the same but in those of the ranges that stand before the old end
abbrev pub Agree : ℕ → List Span → List ℕ → List ℕ → Type 0
Agree old spans xs ys =
    (i : ℕ) → i < length xs → (i < old → IsIn spans i → ⊥) → slice_index xs i ≡ slice_index ys i

-- there is room to keep what was written, and to drop it
pub record IsRoomy (seen synced seen_room synced_room : ℕ) : Type 0 where
  pub longer : synced ≤ seen
  pub keep : seen ≤ synced_room
  pub undo : synced ≤ seen_room
