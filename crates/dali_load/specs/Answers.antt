-- What the lines of such a script say.
--     size_at count i           how many rows the i-th group of so many rows has
--     lines_at count i          the lines of the i-th round where all went well
--     expected count            all lines, where all went well
--     refusal_in words          what a line of these words says that refuses a row: there is no room for it, or none in the log
--     first_refusal lines       the first that a line says
--     verdict_of count text     all went well; or else the first refusal, or that there is none
use Rattle.std.specs.Prelude.{ℕ, ◌+◌, ◌-◌, ◌*◌, min, nat_eq, List, [], ◌∷◌, ◌++◌, flat_map, Option, Some, None, if◌then◌else◌, codes}
use Rattle.std.specs.Cmp.Lexicographic.{pointwise}
use Rattle.std.specs.Fmt.{decimal}
use Rattle.dali_access.specs.Index.Records.{below}
use Rattle.dali_script.specs.Lines.{lines_of, words_of}
use Rattle.dali_script.specs.Texts.{◌>>=◌, number_of}
use Rattle.dali_load.specs.Scripts.{groups}
use Rattle.dali_load.specs.declared.judging.Verdict.{Verdict}
use Rattle.dali_load.specs.declared.judging.Verdict.TheVariants.{AllWell, TooSmall, LogFull, NotLoaded}

-- ---- all went well
abbrev pub size_at : (count i : ℕ) → ℕ
size_at count i = min 7 (count - 7 * i)

abbrev pub inserted : ℕ → List ℕ
inserted count = flat_map (λ i. codes "1 insert ok\n") (below count)

abbrev pub lines_at : (count i : ℕ) → List ℕ
lines_at count i = codes "1 begin " ++ decimal (i + 1) ++ codes "\n" ++ inserted (size_at count i) ++ codes "1 commit ok\n"

abbrev pub expected : ℕ → List ℕ
expected count = flat_map (lines_at count) (below (groups count)) ++ codes "checkpoint 1\n"

-- ---- it didn't
abbrev pub full_at : (end limit : List ℕ) → Option Verdict
full_at end limit = number_of end >>= λ e. number_of limit >>= λ l. Some (LogFull e l)

abbrev pub refusal_in : List (List ℕ) → Option Verdict
refusal_in (client ∷ name ∷ word ∷ place ∷ []) = if pointwise nat_eq word (codes "full") then Some TooSmall else None
refusal_in (name ∷ word ∷ full ∷ end ∷ limit ∷ []) = if pointwise nat_eq word (codes "log") then full_at end limit else None
refusal_in (client ∷ name ∷ word ∷ full ∷ end ∷ limit ∷ []) = if pointwise nat_eq word (codes "log") then full_at end limit else None
refusal_in _ = None

abbrev pub either : Option Verdict → Option Verdict → Option Verdict
either (Some refusal) other = Some refusal
either None other = other

abbrev pub first_refusal : List (List ℕ) → Option Verdict
first_refusal [] = None
first_refusal (line ∷ lines) = either (refusal_in (words_of line)) (first_refusal lines)

abbrev pub refused : Option Verdict → Verdict
refused (Some refusal) = refusal
refused None = NotLoaded

abbrev pub verdict_of : ℕ → List ℕ → Verdict
verdict_of count text = if pointwise nat_eq text (expected count) then AllWell else refused (first_refusal (lines_of text))
