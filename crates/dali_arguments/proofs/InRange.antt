-- That words mean only tasks whose numbers are in their ranges.
use Rattle.std.proofs.Common.{◌≡◌, ℕ, ◌<◌, ◌≤◌, ◌^◌, Bool, true, false, cond, ◌||◌, List, [], ◌∷◌, Option, Some, None, refl, ap, subst, arith}
use Rattle.std.specs.Prelude.{nat_lt, ok_or, codes}
use Rattle.std.specs.Option.{option_map_or}
use Rattle.std.specs.Str.{bytes_eq}
use Rattle.std.proofs.lemmas.Bool.Decides.{nat_tests}
use Rattle.clap.specs.Words.{Kinds, Row, Text, fault_of, first_of, subcommand_of}
use Rattle.dali_script.specs.Texts.{◌>>=◌, number_of}
use Rattle.dali_script.specs.declared.faults.Kind.TheVariants.{Number}
use Rattle.dali_script.proofs.Ranges.{key_fits, then_some}
use Rattle.dali_arguments.specs.Command.{dali}
use Rattle.dali_arguments.specs.Laws.{IsInRange}
use Rattle.dali_arguments.specs.Meaning.{amount_in, faultless, flag_in, generation, kept_between, limit_in, loading, meaning, number_between, run_of, task_of}
use Rattle.dali_arguments.specs.declared.task.Task.{Task}
use Rattle.dali_arguments.specs.declared.task.Task.TheVariants.{Run, Generate, Dump, Show, Status, Load}

in_bounds : (least most n m : ℕ) (b : Bool) → (nat_lt n least || nat_lt most n) ≡ b → cond b None (Some n) ≡ Some m → (least ≤ m) × (m ≤ most)
in_bounds least most n m true is e = absurd (cc)
in_bounds least most n m false is e =
    let same : n ≡ m = cc in
    subst (λ (k : ℕ). (least ≤ k) × (k ≤ most)) same (grind (arith, nat_tests, is), grind (arith, nat_tests, is))

between : (least most : ℕ) (text : Text) (n : ℕ) → number_between least most text ≡ Some n → (least ≤ n) × (n ≤ most)
between least most text n e =
    let read = then_some (number_of text) (kept_between least most) n e in
    in_bounds least most read.0 n _ refl read.2

number_fits : (text : Text) (n : ℕ) → number_of text ≡ Some n → n < 2 ^ 64
number_fits text n e = key_fits text n (ap (λ o. ok_or o Number) e)

limit_right : (o : Option Text) (n : ℕ) → option_map_or (number_between 4096 268435456) o (Some 67108864) ≡ Some n → (4096 ≤ n) × (n ≤ 268435456)
limit_right (Some text) n e = between 4096 268435456 text n e
limit_right None n e = let same : 67108864 ≡ n = cc in (omega (arith, same), omega (arith, same))

amount_right : (o : Option Text) (most n : ℕ) → (o >>= number_between 1 most) ≡ Some n → (1 ≤ n) × (n ≤ most)
amount_right o most n e = let read = then_some o (number_between 1 most) n e in between 1 most read.0 n read.2

run_right : (rows : List Row) (task : Task) → run_of rows ≡ Some task → IsInRange task
run_right rows task e =
    let read = then_some (limit_in rows) (λ limit. Some (Run (flag_in rows) limit)) task e in
    let same : Run (flag_in rows) read.0 ≡ task = cc in
    subst IsInRange same (limit_right (first_of (codes "log-limit") rows) read.0 read.1)

generation_right : (rows : List Row) (task : Task) → generation rows ≡ Some task → IsInRange task
generation_right rows task e =
    let clients = then_some (amount_in (codes "clients") 64 rows) _ task e in
    let size = then_some (amount_in (codes "size") 1000 rows) _ task clients.2 in
    let text = then_some (first_of (codes "number") rows) _ task size.2 in
    let number = then_some (number_of text.0) _ task text.2 in
    let same : Generate clients.0 size.0 number.0 ≡ task = cc in
    subst IsInRange same (
      amount_right (first_of (codes "clients") rows) 64 clients.0 clients.1,
      amount_right (first_of (codes "size") rows) 1000 size.0 size.1,
      number_fits text.0 number.0 number.1,
    )

loading_right : (rows : List Row) (task : Task) → loading rows ≡ Some task → IsInRange task
loading_right rows task e =
    let index = then_some (amount_in (codes "index") 32768 rows) _ task e in
    let heap = then_some (amount_in (codes "heap") 65536 rows) _ task index.2 in
    let same : Load index.0 heap.0 ≡ task = cc in
    subst IsInRange same (
      amount_right (first_of (codes "index") rows) 32768 index.0 index.1,
      amount_right (first_of (codes "heap") rows) 65536 heap.0 heap.1,
    )

named_right : (rows : List Row) (task : Task) (a b d f g h : Bool)
    → cond a (run_of rows) (cond b (generation rows) (cond d (Some Dump) (cond f (Some Show) (cond g (Some Status) (cond h (loading rows) None))))) ≡ Some task → IsInRange task
named_right rows task true b d f g h e = run_right rows task e
named_right rows task false true d f g h e = generation_right rows task e
named_right rows task false false true f g h e = let same : Dump ≡ task = cc in subst IsInRange same tt
named_right rows task false false false true g h e = let same : Show ≡ task = cc in subst IsInRange same tt
named_right rows task false false false false true h e = let same : Status ≡ task = cc in subst IsInRange same tt
named_right rows task false false false false false true e = loading_right rows task e
named_right rows task false false false false false false e = absurd (cc)

task_right : (chosen : Option (Text × List Row)) (task : Task) → task_of chosen ≡ Some task → IsInRange task
task_right (Some c) task e = named_right c.1 task (bytes_eq c.0 (codes "run")) (bytes_eq c.0 (codes "gen")) (bytes_eq c.0 (codes "dump")) (bytes_eq c.0 (codes "show"))
    (bytes_eq c.0 (codes "status")) (bytes_eq c.0 (codes "load")) e
task_right None task e = absurd (cc)

faultless_right : (kinds : Kinds) (chosen : Option (Text × List Row)) (task : Task) → faultless kinds (task_of chosen) ≡ Some task → IsInRange task
faultless_right [] chosen task e = task_right chosen task e
faultless_right (kind ∷ kinds) chosen task e = absurd (cc)

pub in_range : (words : List Text) (task : Task) → meaning words ≡ Some task → IsInRange task
in_range words task e = faultless_right (fault_of dali words) (subcommand_of dali words) task e
