-- The rows that lines spell.
--     Line                      a line with words: its number and its words
--     is_above rows key         whether the key is above that of the last row
--     verdict rows words        what a line says behind these rows: a row, or that they end; or the first test that it fails
--     Reads before lines rows   behind the rows before, each line says the row at its place
--     IsEnding rows lines       there is no line, or one, which says that the rows end
--     Spelled bytes rows        the bytes spell these rows
--     IsWrong bytes n kind      n is the first line that is wrong, and kind the first test that it fails
use Rattle.std.specs.Prelude.{◌≡◌, ◌⊎◌, ℕ, ◌-◌, Bool, true, nat_lt, nat_eq, ◌==◌, List, [], ◌∷◌, ◌++◌, length, slice_get, Option, Some, None, Result, Ok, Err, if◌then◌else◌, codes}
use Rattle.std.specs.Option.{option_map_or}
use Rattle.std.specs.Cmp.Lexicographic.{pointwise}
use Rattle.dali_listing.specs.declared.Listed.{Listed}
use Rattle.dali_script.specs.Faults.{◌>>=◌, test}
use Rattle.dali_script.specs.Items.{key_in, stored_in}
use Rattle.dali_script.specs.Lines.{command_lines}
use Rattle.dali_script.specs.declared.faults.Kind.{Kind}
use Rattle.dali_script.specs.declared.faults.Kind.TheVariants as kind

abbrev pub Line : Type 0
Line = ℕ × List (List ℕ)

abbrev pub last_row : List Listed → Option Listed
last_row rows = slice_get rows (length rows - 1)

abbrev pub is_above : List Listed → ℕ → Bool
is_above rows key = option_map_or (λ row. nat_lt row.key key) (last_row rows) true

-- ---- one line
abbrev pub row_of : List Listed → (key value : List ℕ) → Result (Option Listed) Kind
row_of rows k v = do
  key ← key_in k
  rising ← test (is_above rows key) kind.Number
  value ← stored_in v
  Ok (Some (record { key = key; value = value }))

abbrev pub end_of : List Listed → List ℕ → Result (Option Listed) Kind
end_of rows text = do
  count ← key_in text
  all ← test (count == length rows) kind.Number
  Ok None

abbrev pub verdict : List Listed → List (List ℕ) → Result (Option Listed) Kind
verdict rows (word ∷ text ∷ []) = if pointwise nat_eq word (codes "records") then end_of rows text else row_of rows word text
verdict rows [] = Err kind.Arguments
verdict rows (word ∷ []) = Err kind.Arguments
verdict rows (word ∷ text ∷ other ∷ words) = Err kind.Arguments

-- ---- line after line
abbrev pub Reads : List Listed → List Line → List Listed → Type 0
Reads before [] [] = Unit {0}
Reads before (line ∷ lines) (row ∷ rows) = (verdict before line.1 ≡ Ok (Some row)) × Reads (before ++ row ∷ []) lines rows
Reads before [] (row ∷ rows) = ⊥
Reads before (line ∷ lines) [] = ⊥

abbrev pub IsEnding : List Listed → List Line → Type 0
IsEnding rows [] = Unit {0}
IsEnding rows (line ∷ []) = verdict rows line.1 ≡ Ok None
IsEnding rows (line ∷ other ∷ lines) = ⊥

pub record Spelled (bytes : List ℕ) (rows : List Listed) : Type 0 where
  pub lines : List Line
  pub ending : List Line
  pub split : command_lines bytes ≡ lines ++ ending
  pub reads : Reads [] lines rows
  pub ends : IsEnding rows ending

-- the lines before it say rows, and it says neither a row nor that they end
pub record IsNoRow (bytes : List ℕ) (n : ℕ) (fault : Kind) : Type 0 where
  pub before : List Line
  pub words : List (List ℕ)
  pub behind : List Line
  pub split : command_lines bytes ≡ before ++ (n, words) ∷ behind
  pub rows : List Listed
  pub reads : Reads [] before rows
  pub refused : verdict rows words ≡ Err fault

-- it stands behind the one that says that the rows end
pub record IsBehindEnd (bytes : List ℕ) (n : ℕ) (fault : Kind) : Type 0 where
  pub before : List Line
  pub end : Line
  pub words : List (List ℕ)
  pub behind : List Line
  pub split : command_lines bytes ≡ before ++ end ∷ (n, words) ∷ behind
  pub rows : List Listed
  pub reads : Reads [] before rows
  pub ends : verdict rows end.1 ≡ Ok None
  pub placed : fault ≡ kind.Place

abbrev pub IsWrong : List ℕ → ℕ → Kind → Type 0
IsWrong bytes n fault = IsNoRow bytes n fault ⊎ IsBehindEnd bytes n fault
