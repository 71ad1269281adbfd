-- What each operation on a heap region does: the words that it reads and writes, and what it found. It ends at the first test that fails, and has read no more.
--     put ws key v           the first free cell is written whole
--     read ws c key          the value of a live cell with this key
--     change ws c key v      the length and the value of such a cell are written
--     kill ws c key          its state becomes dead
--     free ws c, revive ws c, restore ws c n vs      take these back
use Rattle.std.specs.Prelude.{ℕ, List, [], ◌∷◌, ◌++◌, if◌then◌else◌, ◌==◌, length, zip}
use Rattle.dali_words.specs.declared.Effect.{Effect}
use Rattle.dali_words.specs.declared.KillOutcome.{KillOutcome}
use Rattle.dali_words.specs.declared.KillOutcome.TheVariants.{NotLive as KillNotLive, OtherKey as KillOtherKey, OddLength as KillOddLength, Killed}
use Rattle.dali_words.specs.Values.{is_size, packed, unpacked}
use Rattle.dali_words.specs.Effects.{effect_of}
use Rattle.dali_access.specs.declared.heap.PutOutcome.{PutOutcome}
use Rattle.dali_access.specs.declared.heap.PutOutcome.TheVariants.{Put, NoCell}
use Rattle.dali_access.specs.declared.heap.ReadOutcome.{ReadOutcome}
use Rattle.dali_access.specs.declared.heap.ReadOutcome.TheVariants.{NotLive as ReadNotLive, OtherKey as ReadOtherKey, OddLength as ReadOddLength, Value as ReadValue}
use Rattle.dali_access.specs.declared.heap.ChangeOutcome.{ChangeOutcome}
use Rattle.dali_access.specs.declared.heap.ChangeOutcome.TheVariants.{NotLive as ChangeNotLive, OtherKey as ChangeOtherKey, OddLength as ChangeOddLength, Changed}
use Rattle.dali_access.specs.Heap.Cells.{state_word, key_word, length_word, value_words, cell_words, cells, state_of, key_of, length_of, value_of}

-- among the cells cs, where these words have been read
abbrev pub put_among : List ℕ → ℕ → List ℕ → List ℕ → List ℕ → Effect × PutOutcome
put_among ws key v read [] = (effect_of ws read [], NoCell)
put_among ws key v read (c ∷ cs) =
    let later = put_among ws key v (read ++ state_word c ∷ []) cs in
    if state_of ws c == 0
    then (effect_of ws (read ++ cell_words c) (zip (cell_words c) (1 ∷ key ∷ length v ∷ packed v)), Put c)
    else later

abbrev pub put : List ℕ → ℕ → List ℕ → Effect × PutOutcome
put ws key v = put_among ws key v [] cells

abbrev pub read : List ℕ → ℕ → ℕ → Effect × ReadOutcome
read ws c key =
    if state_of ws c == 1
    then if key_of ws c == key
    then if is_size (length_of ws c)
    then (effect_of ws (cell_words c) [], ReadValue (unpacked (length_of ws c) (value_of ws c)))
    else (effect_of ws (state_word c ∷ key_word c ∷ length_word c ∷ []) [], ReadOddLength (length_of ws c))
    else (effect_of ws (state_word c ∷ key_word c ∷ []) [], ReadOtherKey (key_of ws c))
    else (effect_of ws (state_word c ∷ []) [], ReadNotLive (state_of ws c))

abbrev pub change : List ℕ → ℕ → ℕ → List ℕ → Effect × ChangeOutcome
change ws c key v =
    if state_of ws c == 1
    then if key_of ws c == key
    then if is_size (length_of ws c)
    then (effect_of ws (cell_words c) (zip (length_word c ∷ value_words c) (length v ∷ packed v)), Changed)
    else (effect_of ws (state_word c ∷ key_word c ∷ length_word c ∷ []) [], ChangeOddLength (length_of ws c))
    else (effect_of ws (state_word c ∷ key_word c ∷ []) [], ChangeOtherKey (key_of ws c))
    else (effect_of ws (state_word c ∷ []) [], ChangeNotLive (state_of ws c))

abbrev pub kill : List ℕ → ℕ → ℕ → Effect × KillOutcome
kill ws c key =
    if state_of ws c == 1
    then if key_of ws c == key
    then if is_size (length_of ws c)
    then (effect_of ws (state_word c ∷ key_word c ∷ length_word c ∷ []) ((state_word c, 2) ∷ []), Killed)
    else (effect_of ws (state_word c ∷ key_word c ∷ length_word c ∷ []) [], KillOddLength (length_of ws c))
    else (effect_of ws (state_word c ∷ key_word c ∷ []) [], KillOtherKey (key_of ws c))
    else (effect_of ws (state_word c ∷ []) [], KillNotLive (state_of ws c))

abbrev pub free : List ℕ → ℕ → Effect
free ws c = effect_of ws (state_word c ∷ []) ((state_word c, 0) ∷ [])

abbrev pub revive : List ℕ → ℕ → Effect
revive ws c = effect_of ws (state_word c ∷ []) ((state_word c, 1) ∷ [])

abbrev pub restore : List ℕ → ℕ → ℕ → List ℕ → Effect
restore ws c n vs = effect_of ws (length_word c ∷ value_words c) (zip (length_word c ∷ value_words c) (n ∷ vs))
