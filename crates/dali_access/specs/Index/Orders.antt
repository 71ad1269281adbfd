-- What a look and an add read, and which operations do the same before them and after them.
--     states_before e            the state words of the entries before e
--     passed_before ws e         the words that a look reads of the entries before e: the state of each, and the key of each live one
--     LookReads, AddReads        a look or an add reads these of the entries before the one that it ends at, and that entry whole; where it ends at none, those of all entries and the overflow flag
--     OperationsCommute          operations on two entries do and find the same in either order
--     StaysFound us key d o      where the words of entry d are as in us, and all others as before, a look still ends as o says. That is: entry d isn't the one that was found, and stands behind it or isn't a live one
--                                of the key
--     StaysPassed ws us d o      entry d stands behind the one that was found, or is live in both ws and us or in neither
--     LookFinds                  a look finds the same after an operation on another entry that leaves it so
--     LookCommutes               they do and find the same in either order, where the look reads the same words of that entry
--     StaysFirst us d o          as StaysFound, of an add: entry d isn't the one that was taken, and stands behind it or isn't free
--     AddCommutes                an add and an operation on another entry do and find the same in either order, unless the operation frees an entry that the add has passed
--     Passes d o, AddTakesFreed  where it does free such an entry, the add after it takes that one
--     LookAfterAdd               a look finds the same after an add of another key that took an entry, and what was added, where no live entry of its key stood before
use Rattle.std.specs.Prelude.{◌≡◌, ◌≢◌, ℕ, ◌<◌, ◌≤◌, ◌⊎◌, Bool, not, ◌==◌, List, [], ◌∷◌, ◌++◌, if◌then◌else◌, length, map, flat_map}
use Rattle.dali_words.specs.Words.{row_of}
use Rattle.dali_words.specs.Effects.{effect_of}
use Rattle.dali_words.specs.Laws.{AnswersCommute}
use Rattle.dali_access.specs.declared.index.LookOutcome.{LookOutcome}
use Rattle.dali_access.specs.declared.index.LookOutcome.TheVariants.{Found, Absent}
use Rattle.dali_access.specs.declared.index.AddOutcome.{AddOutcome}
use Rattle.dali_access.specs.declared.index.AddOutcome.TheVariants.{Added, NoEntry}
use Rattle.dali_access.specs.Index.Entries.{state_word, key_word, place_word, state_of, place_of, flag_of}
use Rattle.dali_access.specs.Index.Laws.{IsLiveOf}
use Rattle.dali_access.specs.Index.Operations.{EntryOperation, done}
use Rattle.dali_access.specs.Index.Rows as rows

abbrev pub states_before : ℕ → List ℕ
states_before e = map state_word (row_of 0 e)

abbrev pub passed_before : List ℕ → ℕ → List ℕ
passed_before ws e = flat_map (rows.passed ws) (row_of 0 e)

abbrev pub entry_words : ℕ → List ℕ
entry_words e = state_word e ∷ key_word e ∷ place_word e ∷ []

pub record LookReads : Type 0 where
  pub found : (ws : List ℕ) (key e : ℕ) → e ≤ 20 → IsLiveOf ws key e → ((d : ℕ) → d < e → ¬ IsLiveOf ws key d) → rows.look ws key ≡ (effect_of ws (passed_before ws e ++ entry_words e) [], Found e (place_of ws e))
  pub absent : (ws : List ℕ) (key : ℕ) → ((d : ℕ) → d ≤ 20 → ¬ IsLiveOf ws key d) → rows.look ws key ≡ (effect_of ws (passed_before ws 21 ++ 0 ∷ []) [], Absent (not (flag_of ws == 0)))

pub record AddReads : Type 0 where
  pub added : (ws : List ℕ) (key p e : ℕ) → e ≤ 20 → state_of ws e ≡ 0 → ((d : ℕ) → d < e → state_of ws d ≢ 0) → rows.add ws key p ≡ (effect_of ws (states_before e ++ entry_words e) ((state_word e, 1) ∷ (key_word e, key) ∷ (place_word e, p) ∷ []), Added e)
  pub none : (ws : List ℕ) (key p : ℕ) → ((d : ℕ) → d ≤ 20 → state_of ws d ≢ 0) → rows.add ws key p ≡ (effect_of ws (states_before 21 ++ 0 ∷ []) (if flag_of ws == 0 then (0, 1) ∷ [] else []), NoEntry)

abbrev pub OperationsCommute : Type 0
OperationsCommute = (o p : EntryOperation) (d e : ℕ) → d ≢ e → (ws : List ℕ) → AnswersCommute (done o d) (done p e) ws

-- ---- looks
abbrev pub StaysFound : List ℕ → ℕ → ℕ → LookOutcome → Type 0
StaysFound us key d (Found e p) = (d ≢ e) × ((e < d) ⊎ ¬ IsLiveOf us key d)
StaysFound us key d (Absent overflow) = ¬ IsLiveOf us key d

abbrev pub StaysPassed : List ℕ → List ℕ → ℕ → LookOutcome → Type 0
StaysPassed ws us d (Found e p) = (e < d) ⊎ ((state_of us d == 1) ≡ (state_of ws d == 1))
StaysPassed ws us d (Absent overflow) = (state_of us d == 1) ≡ (state_of ws d == 1)

abbrev pub LookFinds : Type 0
LookFinds =
    (o : EntryOperation) (d key : ℕ) (ws : List ℕ) → StaysFound (done o d ws).0.after key d (rows.look ws key).1
    → (rows.look (done o d ws).0.after key).1 ≡ (rows.look ws key).1

abbrev pub LookCommutes : Type 0
LookCommutes =
    (o : EntryOperation) (d key : ℕ) (ws : List ℕ) → StaysFound (done o d ws).0.after key d (rows.look ws key).1 → StaysPassed ws (done o d ws).0.after d (rows.look ws key).1
    → AnswersCommute (λ us. rows.look us key) (done o d) ws

-- ---- adds
abbrev pub StaysFirst : List ℕ → ℕ → AddOutcome → Type 0
StaysFirst us d (Added e) = (d ≢ e) × ((e < d) ⊎ (state_of us d ≢ 0))
StaysFirst us d NoEntry = state_of us d ≢ 0

abbrev pub AddCommutes : Type 0
AddCommutes =
    (o : EntryOperation) (d key p : ℕ) (ws : List ℕ) → StaysFirst (done o d ws).0.after d (rows.add ws key p).1
    → AnswersCommute (λ us. rows.add us key p) (done o d) ws

abbrev pub Passes : ℕ → AddOutcome → Type 0
Passes d (Added e) = d < e
Passes d NoEntry = d ≤ 20

abbrev pub AddTakesFreed : Type 0
AddTakesFreed =
    (o : EntryOperation) (d key p : ℕ) (ws : List ℕ) → Passes d (rows.add ws key p).1 → state_of (done o d ws).0.after d ≡ 0
    → (rows.add (done o d ws).0.after key p).1 ≡ Added d

-- ---- a look after an add
pub record LookAfterAdd : Type 0 where
  pub other : (ws : List ℕ) (key k p e : ℕ) → length ws ≡ 64 → k ≢ key → (rows.add ws k p).1 ≡ Added e → (rows.look (rows.add ws k p).0.after key).1 ≡ (rows.look ws key).1
  pub own : (ws : List ℕ) (k p e : ℕ) (overflow : Bool) → length ws ≡ 64 → (rows.add ws k p).1 ≡ Added e → (rows.look ws k).1 ≡ Absent overflow → (rows.look (rows.add ws k p).0.after k).1 ≡ Found e p
