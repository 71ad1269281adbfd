-- What is printed of a generated round.
--     line_of word n                               a word and a number
--     summary_of clients size records keys         the summary
--     summary_left clients size number             that of what the round's transactions leave
use Rattle.std.specs.Prelude.{ℕ, ◌*◌, ◌%◌, ◌^◌, List, ◌++◌, codes, length, sum}
use Rattle.std.specs.Fmt.{decimal}
use Rattle.dali_generator.specs.Left.{keys_left}

abbrev pub line_of : (word : List ℕ) (n : ℕ) → List ℕ
line_of word n = word ++ codes " " ++ decimal n ++ codes "\n"

abbrev pub summary_of : (clients size records keys : ℕ) → List ℕ
summary_of clients size records keys =
    line_of (codes "clients") clients
    ++ line_of (codes "transactions") (clients * size)
    ++ line_of (codes "records") records
    ++ line_of (codes "keys") keys

abbrev pub summary_left : (clients size number : ℕ) → List ℕ
summary_left clients size number =
    let keys = keys_left clients size number in
    summary_of clients size (length keys) (sum keys % 2 ^ 64)
