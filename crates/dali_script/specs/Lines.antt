-- The lines of a script, and the words of a line.
--     lines_of bytes         the lines, without their line feeds; what stands behind the last one is a line too
--     words_of line          the words of a line
--     is_comment line        whether the line is a comment
--     command_in n line      the line with the number n as a command: the number and the words; none where it has none or is a comment
--     command_lines bytes    the lines that are commands, counted from 1
use Rattle.std.specs.Prelude.{ℕ, Bool, false, not, ◌||◌, ◌==◌, List, [], ◌∷◌, length, filter, Option, Some, None, if◌then◌else◌}
use Rattle.std.specs.List.{slice_split, filter_map, enumerate_from}
use denote.Ref.{Bor}

abbrev pub lines_of : List ℕ → List (List ℕ)
lines_of bytes = slice_split (λ byte. byte == 10) bytes

-- the lines of a text, where there is one
abbrev pub lines_left : Option (Bor (List ℕ)) → List (List ℕ)
lines_left None = []
lines_left (Some text) = lines_of text.now

-- a space, a tab or a carriage return
abbrev pub is_blank : ℕ → Bool
is_blank byte = byte == 32 || byte == 9 || byte == 13

abbrev pub is_empty : {X : Type 0} → List X → Bool
is_empty xs = length xs == 0

abbrev pub words_of : List ℕ → List (List ℕ)
words_of line = filter (λ word. not (is_empty word)) (slice_split is_blank line)

abbrev pub is_comment : List ℕ → Bool
is_comment [] = false
is_comment (byte ∷ bytes) = byte == 35

abbrev pub command_in : ℕ → List ℕ → Option (ℕ × List (List ℕ))
command_in n line = if is_comment line || is_empty (words_of line) then None else Some (n, words_of line)

abbrev pub command_lines : List ℕ → List (ℕ × List (List ℕ))
command_lines bytes = filter_map (λ l. command_in l.0 l.1) (enumerate_from 1 (lines_of bytes))
