-- Laws of the operations on entries.
--     InEntry j e            e reads words of entry j alone
--     StaysIn j f            f reads words of entry j alone, writes words that it reads, and depends on nothing else
--     OperationsStay         so do the operations that name an entry
--     EntriesCommute         operations on two entries do the same in either order
--     WalksWithin            a look writes nothing, and an add writes words that it reads
--     UndoesKill             the words come back
--     UndoesAdd              all words come back but the key and the place of the entry, which is free again
--     FindsFirst ws k o      o tells the first live entry of key k, or that there is none and whether the walk goes on
--     TakesFirst ws o        o tells the first free entry, or that none is free
use Rattle.std.specs.Prelude.{◌≡◌, ◌≢◌, ℕ, ◌+◌, ◌*◌, ◌<◌, ◌≤◌, ◌⊎◌, not, ◌==◌, List, length, slice_index}
use Rattle.std.specs.Int.{bit_at}
use Rattle.dali_words.specs.declared.Effect.{Effect}
use Rattle.dali_words.specs.declared.KillOutcome.TheVariants.{Killed}
use Rattle.dali_words.specs.Effects.{IsWithin, DependsOnReads}
use Rattle.dali_words.specs.Laws.{Commute}
use Rattle.dali_access.specs.declared.index.LookOutcome.{LookOutcome}
use Rattle.dali_access.specs.declared.index.LookOutcome.TheVariants.{Found, Absent}
use Rattle.dali_access.specs.declared.index.AddOutcome.{AddOutcome}
use Rattle.dali_access.specs.declared.index.AddOutcome.TheVariants.{Added, NoEntry}
use Rattle.dali_access.specs.Index.Entries.{state_of, key_of, place_of, flag_of}
use Rattle.dali_access.specs.Index.Rows as rows

abbrev pub InEntry : ℕ → Effect → Type 0
InEntry j e = (i : ℕ) → bit_at e.read i ≡ 1 → (3 * j + 1 ≤ i) × (i < 3 * j + 4)

pub record StaysIn (j : ℕ) (f : List ℕ → Effect) : Type 0 where
  pub reads : (ws : List ℕ) → InEntry j (f ws)
  pub within : (ws : List ℕ) → IsWithin ws (f ws)
  pub depends : (ws : List ℕ) → DependsOnReads f ws

pub record OperationsStay : Type 0 where
  pub kill : (e key : ℕ) → StaysIn e (λ ws. (rows.kill ws e key).0)
  pub free : (e : ℕ) → StaysIn e (λ ws. rows.free ws e)
  pub revive : (e : ℕ) → StaysIn e (λ ws. rows.revive ws e)

abbrev pub EntriesCommute : Type 0
EntriesCommute = (f g : List ℕ → Effect) (d e : ℕ) → d ≢ e → StaysIn d f → StaysIn e g → (ws : List ℕ) → Commute f g ws

pub record WalksWithin : Type 0 where
  pub look : (ws : List ℕ) (key : ℕ) → ((rows.look ws key).0.write ≡ 0) × ((rows.look ws key).0.after ≡ ws)
  pub add : (ws : List ℕ) (key p : ℕ) → IsWithin ws (rows.add ws key p).0

-- ---- what is undone right away
abbrev pub UndoesKill : Type 0
UndoesKill =
    (ws : List ℕ) (e key : ℕ) → (rows.kill ws e key).1 ≡ Killed
    → (rows.revive (rows.kill ws e key).0.after e).after ≡ ws

abbrev pub UndoesAdd : Type 0
UndoesAdd =
    (ws : List ℕ) (e key p : ℕ) → length ws ≡ 64 → (rows.add ws key p).1 ≡ Added e
    → let us = (rows.free (rows.add ws key p).0.after e).after in (length us ≡ 64) × ((i : ℕ) → (i ≤ 3 * e + 1) ⊎ (3 * e + 4 ≤ i) → slice_index us i ≡ slice_index ws i)

-- ---- the first entry
abbrev pub IsLiveOf : List ℕ → ℕ → ℕ → Type 0
IsLiveOf ws key e = (state_of ws e ≡ 1) × (key_of ws e ≡ key)

abbrev pub FindsFirst : List ℕ → ℕ → LookOutcome → Type 0
FindsFirst ws key (Found e p) = (e ≤ 20) × IsLiveOf ws key e × (place_of ws e ≡ p) × ((d : ℕ) → d < e → ¬ IsLiveOf ws key d)
FindsFirst ws key (Absent overflow) = ((d : ℕ) → d ≤ 20 → ¬ IsLiveOf ws key d) × (overflow ≡ not (flag_of ws == 0))

abbrev pub LookFindsFirst : Type 0
LookFindsFirst = (ws : List ℕ) (key : ℕ) → FindsFirst ws key (rows.look ws key).1

abbrev pub TakesFirst : List ℕ → AddOutcome → Type 0
TakesFirst ws (Added e) = (e ≤ 20) × (state_of ws e ≡ 0) × ((d : ℕ) → d < e → state_of ws d ≢ 0)
TakesFirst ws NoEntry = (d : ℕ) → d ≤ 20 → state_of ws d ≢ 0

abbrev pub AddTakesFirst : Type 0
AddTakesFirst = (ws : List ℕ) (key p : ℕ) → TakesFirst ws (rows.add ws key p).1
