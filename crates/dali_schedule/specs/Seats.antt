-- Seats of clients that take turns. A seat is `true` where its client is expected; a client's number is its seat's place.
--     lowest seats n           the lowest number at or above n that is expected
--     next_in_turn seats c     the lowest one above c, or else the lowest of all
--     count seats              how many are expected
--     ranked seats k           the one below which k others are expected
--     drawn seats word         the one that a word draws among them
--     next_after order seats c     the order from then on, and who is next after c
--     Table                    the seats, who has the baton, whether it has begun its turn, and the order
--     expects, leaves, ends_turn, begins_turn     what becomes of the table
--     IsKept table             who has the baton is expected, and nobody has it only where nobody is expected
use Rattle.std.specs.Prelude.{◌≡◌, ℕ, zero, suc, ◌+◌, ◌%◌, ◌^◌, ◌≤◌, ◌==◌, Bool, true, false, ◌&&◌, ltb, Option, Some, None, List, [], ◌∷◌, length, drop, max, if◌then◌else◌, slice_index_or, slice_set}
use Rattle.std.specs.Option.{ForSome, ForNone}
use Rattle.rand_pcg.specs.Pcg.{pcg32}
use Rattle.dali_schedule.specs.declared.order.Order.{Order}
use Rattle.dali_schedule.specs.declared.order.Order.TheVariants.{Turns, Seeded}

-- ---- who is next
abbrev pub lowest_from : ℕ → List Bool → Option ℕ
lowest_from n [] = None
lowest_from n (true ∷ seats) = Some n
lowest_from n (false ∷ seats) = lowest_from (suc n) seats

abbrev pub lowest : List Bool → ℕ → Option ℕ
lowest seats n = lowest_from n (drop n seats)

abbrev pub or_else : Option ℕ → Option ℕ → Option ℕ
or_else (Some c) other = Some c
or_else None other = other

abbrev pub next_in_turn : List Bool → ℕ → Option ℕ
next_in_turn seats c = or_else (lowest seats (c + 1)) (lowest seats 0)

abbrev pub one_if : Bool → ℕ
one_if true = 1
one_if false = 0

abbrev pub count : List Bool → ℕ
count [] = 0
count (seat ∷ seats) = one_if seat + count seats

abbrev pub ranked_from : ℕ → List Bool → ℕ → Option ℕ
ranked_from n [] k = None
ranked_from n (false ∷ seats) k = ranked_from (suc n) seats k
ranked_from n (true ∷ seats) zero = Some n
ranked_from n (true ∷ seats) (suc k) = ranked_from (suc n) seats k

abbrev pub ranked : List Bool → ℕ → Option ℕ
ranked seats k = ranked_from 0 seats k

abbrev pub drawn : List Bool → ℕ → Option ℕ
drawn seats word = ranked seats (word % max (count seats) 1)

abbrev pub next_after : Order → List Bool → ℕ → Order × Option ℕ
next_after Turns seats c = (Turns, next_in_turn seats c)
next_after (Seeded numbers) seats c = (Seeded (pcg32 numbers).1, drawn seats (pcg32 numbers).0)

-- ---- the table
pub record Table : Type 0 where
  pub expected : List Bool
  pub holder : Option ℕ
  pub at_work : Bool
  pub order : Order

abbrev pub is_some_of : ℕ → Option ℕ → Bool
is_some_of c None = false
is_some_of c (Some d) = d == c

abbrev pub is_holder : ℕ → Table → Bool
is_holder c t = is_some_of c t.holder

-- the baton goes on from c
abbrev pub passes : ℕ → Table → Table
passes c t = let next = next_after t.order t.expected c in record { expected = t.expected; holder = next.1; at_work = false; order = next.0 }

abbrev pub seats_with : ℕ → Bool → Table → Table
seats_with c seat t = record { expected = slice_set t.expected c seat; holder = t.holder; at_work = t.at_work; order = t.order }

-- c gets the baton where nobody has it
abbrev pub gives : ℕ → Table → Table
gives c t = record { expected = t.expected; holder = or_else t.holder (Some c); at_work = t.at_work; order = t.order }

abbrev pub expects : ℕ → Table → Table
expects c t = if ltb c (length t.expected) then gives c (seats_with c true t) else t

abbrev pub leaves : ℕ → Table → Table
leaves c t = if is_holder c t then passes c (seats_with c false t) else seats_with c false t

-- where its turn has begun
abbrev pub ends_turn : ℕ → Table → Table
ends_turn c t = if is_holder c t && t.at_work then passes c t else t

abbrev pub begins_turn : ℕ → Table → Table
begins_turn c t = if is_holder c t then record { expected = t.expected; holder = t.holder; at_work = true; order = t.order } else t

-- ---- what is kept
pub record IsKept (t : Table) : Type 0 where
  pub few : length t.expected ≤ 2 ^ 32
  pub held : ForSome t.holder (λ c. slice_index_or t.expected c false ≡ true)
  pub idle : ForNone t.holder ((c : ℕ) → slice_index_or t.expected c false ≡ false)
