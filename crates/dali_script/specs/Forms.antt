-- The forms of commands' arguments.
--     fits form word             whether a word has this form
--     forms_of name              the forms of a command's arguments
--     unfit forms words          the first word that hasn't its form, and this form
--     runs_out forms words       whether there are fewer words than forms
--     refused_by forms words     the fault of arguments that are to have these forms
use Rattle.std.specs.Prelude.{ℕ, Bool, true, false, List, [], ◌∷◌, Option, Some, None, Result, Ok, Err, if◌then◌else◌, is_ok, is_some}
use Rattle.std.specs.Option.{option_map}
use Rattle.dali_script.specs.Texts.{number_of, mask_of, value_in}
use Rattle.dali_script.specs.Items.{Text, number_in}
use Rattle.dali_script.specs.declared.faults.Kind.{Kind}
use Rattle.dali_script.specs.declared.faults.Kind.TheVariants as kind
use Rattle.dali_script.specs.declared.names.Name.{Name}
use Rattle.dali_script.specs.declared.names.Name.TheVariants as name
use Rattle.dali_script.specs.declared.forms.Form.{Form}
use Rattle.dali_script.specs.declared.forms.Form.TheVariants as form

abbrev pub fits : Form → Text → Bool
fits (form.Number range) word = is_ok (number_in range.low range.high word)
fits form.Key word = is_some (number_of word)
fits form.Mask word = is_some (mask_of word)
fits form.Value word = is_some (value_in word)

abbrev pub number : ℕ → ℕ → Form
number least most = form.Number (record { low = least; high = most })

abbrev pub forms_of : Name → List Form
forms_of name.Size = number 1 32768 ∷ number 1 65536 ∷ []
forms_of name.Client = number 1 64 ∷ []
forms_of name.Insert = form.Key ∷ form.Value ∷ []
forms_of name.Update = form.Key ∷ form.Value ∷ []
forms_of name.Delete = form.Key ∷ []
forms_of name.Get = form.Key ∷ []
forms_of name.Die = number 1 1000000 ∷ []
forms_of name.Poke = number 0 4294967295 ∷ number 0 63 ∷ form.Mask ∷ []
forms_of name.Crash = number 0 1000000 ∷ []
forms_of name.Fuse = number 0 1000000000 ∷ []
forms_of _ = []

abbrev pub unfit : List Form → List Text → Option (Text × Form)
unfit [] words = None
unfit (f ∷ fs) [] = None
unfit (f ∷ fs) (word ∷ words) = if fits f word then unfit fs words else Some (word, f)

abbrev pub runs_out : List Form → List Text → Bool
runs_out [] words = false
runs_out (f ∷ fs) [] = true
runs_out (f ∷ fs) (word ∷ words) = runs_out fs words

-- ---- what the forms have to do with the grammar
abbrev pub are_as_many : List Form → List Text → Bool
are_as_many [] [] = true
are_as_many [] (word ∷ words) = false
are_as_many (f ∷ fs) [] = false
are_as_many (f ∷ fs) (word ∷ words) = are_as_many fs words

abbrev pub kind_of : Form → Kind
kind_of (form.Number range) = kind.Number
kind_of form.Key = kind.Number
kind_of form.Mask = kind.Number
kind_of form.Value = kind.Value

abbrev pub refused_by : List Form → List Text → Option Kind
refused_by fs words = if are_as_many fs words then option_map (λ x. kind_of x.1) (unfit fs words) else Some kind.Arguments

abbrev pub fault_in : {A : Type 0} → Result A Kind → Option Kind
fault_in (Ok x) = None
fault_in (Err k) = Some k
