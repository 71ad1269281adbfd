-- Laws of values and of effects.
--     UnpacksWhatWasPacked       a value comes back from its five words
--     WritesOnce                 writing new words over a set twice is writing them once
--     AnswersCommute f g ws      f and g, each with what it finds, do the same in either order
--     ApartCommute               two effects that depend on their reads alone, and of which neither writes what the other reads, do the same in either order
use Rattle.std.specs.Prelude.{◌≡◌, ℕ, List, length}
use Rattle.dali_words.specs.declared.Effect.{Effect}
use Rattle.dali_words.specs.Values.{IsValue, packed, unpacked}
use Rattle.dali_words.specs.Words.{write_under}
use Rattle.dali_words.specs.Effects.{carried, IsWithin, AreApart, DependsOnReads}

abbrev pub UnpacksWhatWasPacked : Type 0
UnpacksWhatWasPacked = (v : List ℕ) → IsValue v → unpacked (length v) (packed v) ≡ v

abbrev pub WritesOnce : Type 0
WritesOnce = (m : ℕ) (news ws : List ℕ) → write_under m news (write_under m news ws) ≡ write_under m news ws

-- what g does after f
pub record Commute (f g : List ℕ → Effect) (ws : List ℕ) : Type 0 where
  pub first : f (g ws).after ≡ carried (f ws) (g ws).after
  pub second : g (f ws).after ≡ carried (g ws) (f ws).after
  pub same : (f (g ws).after).after ≡ (g (f ws).after).after

-- the same with what they find: each has the same masks, new words and outcome after the other as before it
pub record AnswersCommute {O P : Type 0} (f : List ℕ → Effect × O) (g : List ℕ → Effect × P) (ws : List ℕ) : Type 0 where
  pub first : f (g ws).0.after ≡ (carried (f ws).0 (g ws).0.after, (f ws).1)
  pub second : g (f ws).0.after ≡ (carried (g ws).0 (f ws).0.after, (g ws).1)
  pub same : (f (g ws).0.after).0.after ≡ (g (f ws).0.after).0.after

abbrev pub ApartCommute : Type 0
ApartCommute =
    (f g : List ℕ → Effect) (ws : List ℕ) → DependsOnReads f ws → DependsOnReads g ws → IsWithin ws (f ws) → IsWithin ws (g ws) → AreApart (f ws) (g ws)
    → Commute f g ws
