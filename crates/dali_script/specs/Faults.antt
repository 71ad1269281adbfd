-- The kinds of fault, and tests in a row.
--     text_of kind           the kind as it is printed
--     r >>= f                f of the value, where there is one
--     test passes kind       nothing, where the test passes
use Rattle.std.specs.Prelude.{ℕ, Bool, List, codes, Result, Ok, Err, if◌then◌else◌}
use Rattle.dali_script.specs.declared.faults.Kind.{Kind}
use Rattle.dali_script.specs.declared.faults.Kind.TheVariants.{SizeOrOpenWanted, Unknown, Place, Arguments, Number, Value, Client, Unended}

abbrev pub text_of : Kind → List ℕ
text_of SizeOrOpenWanted = codes "size or open wanted"
text_of Unknown = codes "unknown"
text_of Place = codes "place"
text_of Arguments = codes "arguments"
text_of Number = codes "number"
text_of Value = codes "value"
text_of Client = codes "client"
text_of Unended = codes "unended"

infixl 10 ◌>>=◌
abbrev pub ◌>>=◌ : {A B E : Type 0} → Result A E → (A → Result B E) → Result B E
(Ok x) >>= f = f x
(Err e) >>= f = Err e

abbrev pub test : Bool → Kind → Result (Unit {0}) Kind
test passes kind = if passes then Ok tt else Err kind
