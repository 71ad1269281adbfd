-- What the getters of clap give, as the meaning of words reads it.
use Rattle.std.proofs.Common.{◌≡◌, ◌∙◌, ℕ, Bool, false, List, Option, Some, None, Bor, option_map, ap, sym}
use Rattle.std.specs.Prelude.{codes}
use Rattle.std.specs.Option.{option_map_or}
use Rattle.std.specs.Str.{bytes_eq}
use Rattle.clap.specs.Words.{Row, Text, first_of, first_value, rows_of}
use Rattle.clap.specs.declared.parser.matches.Found.{Found}
use Rattle.clap.proofs.WalkLemmas.{first_value-rows}
use Rattle.dali_script.specs.Texts.{◌>>=◌, number_of}
use Rattle.dali_arguments.specs.Meaning.{amount_in, flag_in, generation, limit_in, number_between}
use Rattle.dali_arguments.specs.declared.task.Task.TheVariants.{Generate}

abbrev pub texts : Option (Bor Text) → Option Text
texts o = option_map (λ s. s.now) o

-- the value of `name`, where o is what `get_str(name)` gave
pub given : (f : Found) (name : Text) (o : Option (Bor Text)) (text : Bor Text) → texts o ≡ first_value f name → o ≡ Some text
    → first_of name (rows_of f) ≡ Some text.now
given f name o text first is = sym (first_value-rows f name) ∙ (sym first ∙ ap texts is)

pub absent : (f : Found) (name : Text) (o : Option (Bor Text)) → texts o ≡ first_value f name → o ≡ None → first_of name (rows_of f) ≡ None
absent f name o first is = sym (first_value-rows f name) ∙ (sym first ∙ ap texts is)

-- ---- run
pub limit_given : (rows : List Row) (text : Text) (n : Option ℕ) → first_of (codes "log-limit") rows ≡ Some text → n ≡ number_between 4096 268435456 text → n ≡ limit_in rows
limit_given rows text n is read = read ∙ sym (ap (λ o. option_map_or (number_between 4096 268435456) o (Some 67108864)) is)

pub limit_absent : (rows : List Row) → first_of (codes "log-limit") rows ≡ None → Some 67108864 ≡ limit_in rows
limit_absent rows is = sym (ap (λ o. option_map_or (number_between 4096 268435456) o (Some 67108864)) is)

pub flag_given : (rows : List Row) (value : Text) (b : Bool) → first_of (codes "precheck") rows ≡ Some value → b ≡ bytes_eq value (codes "true") → b ≡ flag_in rows
flag_given rows value b is e = e ∙ sym (ap (λ o. option_map_or (λ v. bytes_eq v (codes "true")) o false) is)

pub flag_absent : (rows : List Row) → first_of (codes "precheck") rows ≡ None → false ≡ flag_in rows
flag_absent rows is = sym (ap (λ o. option_map_or (λ v. bytes_eq v (codes "true")) o false) is)

-- ---- gen
pub behind : {A B : Type 0} (o : Option A) (x : A) (f : A → Option B) → o ≡ Some x → (o >>= f) ≡ f x
behind o x f is = ap (λ p. p >>= f) is

pub nothing : {A B : Type 0} (o : Option A) (f : A → Option B) → o ≡ None → (o >>= f) ≡ None
nothing o f is = ap (λ p. p >>= f) is

-- what a generation is behind its two amounts
pub generated : (rows : List Row) (clients size : ℕ) → amount_in (codes "clients") 64 rows ≡ Some clients → amount_in (codes "size") 1000 rows ≡ Some size
    → generation rows ≡ (first_of (codes "number") rows >>= λ text. number_of text >>= λ number. Some (Generate clients size number))
generated rows clients size first second =
    behind (amount_in (codes "clients") 64 rows) clients _ first ∙ behind (amount_in (codes "size") 1000 rows) size _ second

pub generated_none : (rows : List Row) (clients size : ℕ) → amount_in (codes "clients") 64 rows ≡ Some clients → amount_in (codes "size") 1000 rows ≡ Some size
    → first_of (codes "number") rows ≡ None → generation rows ≡ None
generated_none rows clients size first second none =
    generated rows clients size first second ∙ nothing (first_of (codes "number") rows) _ none

-- where the number's text is there
read_behind : (rows : List Row) (clients size : ℕ) (text : Text) → amount_in (codes "clients") 64 rows ≡ Some clients → amount_in (codes "size") 1000 rows ≡ Some size
    → first_of (codes "number") rows ≡ Some text → generation rows ≡ (number_of text >>= λ number. Some (Generate clients size number))
read_behind rows clients size text first second there =
    generated rows clients size first second ∙ behind (first_of (codes "number") rows) text _ there

pub generated_unread : (rows : List Row) (clients size : ℕ) (text : Text) → amount_in (codes "clients") 64 rows ≡ Some clients → amount_in (codes "size") 1000 rows ≡ Some size
    → first_of (codes "number") rows ≡ Some text → number_of text ≡ None → generation rows ≡ None
generated_unread rows clients size text first second there none =
    read_behind rows clients size text first second there ∙ nothing (number_of text) _ none

pub generated_with : (rows : List Row) (clients size number : ℕ) (text : Text) → amount_in (codes "clients") 64 rows ≡ Some clients → amount_in (codes "size") 1000 rows ≡ Some size
    → first_of (codes "number") rows ≡ Some text → number_of text ≡ Some number → generation rows ≡ Some (Generate clients size number)
generated_with rows clients size number text first second there is =
    read_behind rows clients size text first second there ∙ behind (number_of text) number _ is
