-- What words mean.
--     meaning words                    the task that they mean, where they mean one
--     number_between least most text   the number from least to most that the text spells
--     usage                            what is printed where they mean none
use Rattle.std.specs.Prelude.{ℕ, Bool, false, nat_lt, ◌||◌, List, [], ◌∷◌, Option, Some, None, if◌then◌else◌, codes}
use Rattle.std.specs.Option.{option_map_or}
use Rattle.std.specs.Str.{bytes_eq}
use Rattle.clap.specs.Words.{Kinds, Row, Text, fault_of, first_of, subcommand_of}
use Rattle.dali_script.specs.Texts.{◌>>=◌, number_of}
use Rattle.dali_arguments.specs.Command.{dali}
use Rattle.dali_arguments.specs.declared.task.Task.{Task}
use Rattle.dali_arguments.specs.declared.task.Task.TheVariants.{Run, Generate, Dump, Show, Status, Load}

abbrev pub usage : Text
usage = codes "usage: dali run [--precheck] [--log-limit N] | gen CLIENTS SIZE NUMBER | dump"

abbrev pub kept_between : ℕ → ℕ → ℕ → Option ℕ
kept_between least most n = if nat_lt n least || nat_lt most n then None else Some n

abbrev pub number_between : ℕ → ℕ → Text → Option ℕ
number_between least most text = number_of text >>= kept_between least most

-- ---- run
abbrev pub limit_in : List Row → Option ℕ
limit_in rows = option_map_or (number_between 4096 268435456) (first_of (codes "log-limit") rows) (Some 67108864)

-- a flag that is given has the value `true`
abbrev pub flag_in : List Row → Bool
flag_in rows = option_map_or (λ value. bytes_eq value (codes "true")) (first_of (codes "precheck") rows) false

abbrev pub run_of : List Row → Option Task
run_of rows = limit_in rows >>= λ limit. Some (Run (flag_in rows) limit)

-- ---- gen
abbrev pub amount_in : Text → ℕ → List Row → Option ℕ
amount_in name most rows = first_of name rows >>= number_between 1 most

abbrev pub generation : List Row → Option Task
generation rows = amount_in (codes "clients") 64 rows >>= λ clients. amount_in (codes "size") 1000 rows >>= λ size.
    first_of (codes "number") rows >>= λ text. number_of text >>= λ number. Some (Generate clients size number)

-- ---- load
abbrev pub loading : List Row → Option Task
loading rows = amount_in (codes "index") 32768 rows >>= λ index. amount_in (codes "heap") 65536 rows >>= λ heap. Some (Load index heap)

-- ---- the whole
abbrev pub task_named : Text → List Row → Option Task
task_named name rows = if bytes_eq name (codes "run") then run_of rows else (if bytes_eq name (codes "gen") then generation rows
    else (if bytes_eq name (codes "dump") then Some Dump else (if bytes_eq name (codes "show") then Some Show
    else (if bytes_eq name (codes "status") then Some Status else (if bytes_eq name (codes "load") then loading rows else None)))))

abbrev pub task_of : Option (Text × List Row) → Option Task
task_of chosen = chosen >>= λ c. task_named c.0 c.1

-- the task, where clap finds no fault
abbrev pub faultless : Kinds → Option Task → Option Task
faultless [] task = task
faultless (kind ∷ kinds) task = None

-- clap finds no fault, and the subcommand that it finds has its numbers in their ranges
abbrev pub meaning : List Text → Option Task
meaning words = faultless (fault_of dali words) (task_of (subcommand_of dali words))
