-- What each operation on an index region does: the words that it reads and writes, and what it found.
--     look ws key            the first live entry with this key
--     add ws key p           the first free entry is written; where none is free, the overflow flag is raised
--     kill ws e key          a live entry with this key becomes dead
--     free ws e, revive ws e      take these back
use Rattle.std.specs.Prelude.{ℕ, not, ◌&&◌, List, [], ◌∷◌, ◌++◌, if◌then◌else◌, ◌==◌}
use Rattle.dali_words.specs.declared.Effect.{Effect}
use Rattle.dali_words.specs.declared.KillOutcome.{KillOutcome}
use Rattle.dali_words.specs.declared.KillOutcome.TheVariants.{NotLive, OtherKey, Killed}
use Rattle.dali_words.specs.Effects.{effect_of}
use Rattle.dali_access.specs.declared.index.LookOutcome.{LookOutcome}
use Rattle.dali_access.specs.declared.index.LookOutcome.TheVariants.{Found, Absent}
use Rattle.dali_access.specs.declared.index.AddOutcome.{AddOutcome}
use Rattle.dali_access.specs.declared.index.AddOutcome.TheVariants.{Added, NoEntry}
use Rattle.dali_access.specs.Index.Entries.{state_word, key_word, place_word, entries, state_of, key_of, place_of, flag_of}

-- the words that a look reads of an entry that isn't the one
abbrev pub passed : List ℕ → ℕ → List ℕ
passed ws e = if state_of ws e == 1 then state_word e ∷ key_word e ∷ [] else state_word e ∷ []

-- among the entries es, where these words have been read
abbrev pub look_among : List ℕ → ℕ → List ℕ → List ℕ → Effect × LookOutcome
look_among ws key read [] = (effect_of ws (read ++ 0 ∷ []) [], Absent (not (flag_of ws == 0)))
look_among ws key read (e ∷ es) =
    let later = look_among ws key (read ++ passed ws e) es in
    if (state_of ws e == 1) && (key_of ws e == key)
    then (effect_of ws (read ++ state_word e ∷ key_word e ∷ place_word e ∷ []) [], Found e (place_of ws e))
    else later

abbrev pub look : List ℕ → ℕ → Effect × LookOutcome
look ws key = look_among ws key [] entries

abbrev pub add_among : List ℕ → ℕ → ℕ → List ℕ → List ℕ → Effect × AddOutcome
add_among ws key p read [] = (effect_of ws (read ++ 0 ∷ []) (if flag_of ws == 0 then (0, 1) ∷ [] else []), NoEntry)
add_among ws key p read (e ∷ es) =
    let later = add_among ws key p (read ++ state_word e ∷ []) es in
    if state_of ws e == 0
    then (effect_of ws (read ++ state_word e ∷ key_word e ∷ place_word e ∷ []) ((state_word e, 1) ∷ (key_word e, key) ∷ (place_word e, p) ∷ []), Added e)
    else later

abbrev pub add : List ℕ → ℕ → ℕ → Effect × AddOutcome
add ws key p = add_among ws key p [] entries

abbrev pub kill : List ℕ → ℕ → ℕ → Effect × KillOutcome
kill ws e key =
    if state_of ws e == 1
    then if key_of ws e == key
    then (effect_of ws (state_word e ∷ key_word e ∷ []) ((state_word e, 2) ∷ []), Killed)
    else (effect_of ws (state_word e ∷ key_word e ∷ []) [], OtherKey (key_of ws e))
    else (effect_of ws (state_word e ∷ []) [], NotLive (state_of ws e))

abbrev pub free : List ℕ → ℕ → Effect
free ws e = effect_of ws (state_word e ∷ []) ((state_word e, 0) ∷ [])

abbrev pub revive : List ℕ → ℕ → Effect
revive ws e = effect_of ws (state_word e ∷ []) ((state_word e, 1) ∷ [])
