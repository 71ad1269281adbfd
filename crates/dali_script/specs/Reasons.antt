-- What a faulty line lacked.
--     line_in n bytes            the line with the number n
--     command_words line         the words of a line, none where it is a comment
--     told kind words            of a line with these words, which has a fault of this kind, the word that is wrong and what was wanted
--     reason_in bytes n kind     the same of the line with the number n
--     wanted_text wanted         what was wanted, in words
use Rattle.std.specs.Prelude.{ℕ, ◌-◌, ◌==◌, List, [], ◌∷◌, ◌++◌, length, codes, decimal, Option, Some, None, if◌then◌else◌}
use Rattle.std.specs.List.{slice_get}
use Rattle.std.specs.Option.{option_map}
use Rattle.dali_script.specs.Texts.{◌>>=◌}
use Rattle.dali_script.specs.Lines.{lines_of, words_of, is_comment}
use Rattle.dali_script.specs.Names.{name_of}
use Rattle.dali_script.specs.Items.{Text}
use Rattle.dali_script.specs.Places.{may_stand}
use Rattle.dali_script.specs.Forms.{forms_of, unfit, runs_out}
use Rattle.dali_script.specs.declared.faults.Kind.{Kind}
use Rattle.dali_script.specs.declared.faults.Kind.TheVariants as kind
use Rattle.dali_script.specs.declared.names.Name.{Name}
use Rattle.dali_script.specs.declared.places.Place.TheVariants as place
use Rattle.dali_script.specs.declared.forms.Form.{Form}
use Rattle.dali_script.specs.declared.forms.Form.TheVariants as form
use Rattle.dali_script.specs.declared.reasons.Wanted.{Wanted}
use Rattle.dali_script.specs.declared.reasons.Wanted.TheVariants as wanted
use Rattle.dali_script.specs.declared.reasons.Reason.{Reason}
use denote.Ref.{Bor}

abbrev pub line_in : ℕ → Text → Option Text
line_in n bytes = slice_get (lines_of bytes) (n - 1)

abbrev pub command_words : Text → List Text
command_words line = if is_comment line then [] else words_of line

abbrev pub Told : Type 0
Told = Option Text × Wanted

abbrev pub count_wanted : List Form → List Text → Wanted
count_wanted forms words = if runs_out forms words then wanted.More (length forms) else wanted.Fewer (length forms)

-- the first of the words that are left
abbrev pub about_first : Wanted → List Text → Option Told
about_first w [] = None
about_first w (word ∷ words) = Some (Some word, w)

-- of a command with these words behind its own
abbrev pub told_of : Kind → Text → List Text → Option Told
told_of kind.SizeOrOpenWanted word words = Some (Some word, wanted.SizeOrOpen)
told_of kind.Unknown word words = Some (Some word, wanted.Command)
told_of kind.Place word words = name_of word >>= λ name. Some (Some word, wanted.Place name)
told_of kind.Arguments word words = name_of word >>= λ name. Some (Some word, count_wanted (forms_of name) words)
told_of kind.Number word words = name_of word >>= λ name. unfit (forms_of name) words >>= λ x. Some (Some x.0, wanted.Argument x.1)
told_of kind.Value word words = name_of word >>= λ name. unfit (forms_of name) words >>= λ x. Some (Some x.0, wanted.Argument x.1)
told_of kind.Client word words = about_first wanted.OtherClient words
told_of kind.Unended word words = about_first wanted.End words

abbrev pub told : Kind → List Text → Option Told
told kind.SizeOrOpenWanted [] = Some (None, wanted.SizeOrOpen)
told _ [] = None
told k (word ∷ words) = told_of k word words

abbrev pub reason_in : Text → ℕ → Kind → Option (ℕ × Told)
reason_in bytes n k = line_in n bytes >>= λ line. told k (command_words line) >>= λ x. Some (n, x)

-- ---- what a value of the code is seen as
abbrev pub seen_line : Option (Bor Text) → Option Text
seen_line line = option_map (λ text. text.now) line

abbrev pub seen_unfit : Option (Bor Text × Form) → Option (Text × Form)
seen_unfit found = option_map (λ x. (x.0.now, x.1)) found

abbrev pub seen_told : Option (Option (Bor Text) × Wanted) → Option Told
seen_told found = option_map (λ x. (seen_line x.0, x.1)) found

abbrev pub seen_reason : Option Reason → Option (ℕ × Told)
seen_reason found = option_map (λ r. (r.line, (seen_line r.word, r.wanted))) found

-- ---- in words
abbrev pub places_text : Name → List ℕ
places_text name = if may_stand name place.Start then codes "as the first command"
    else (if may_stand name place.InTransaction then (if may_stand name place.InBlock then codes "in a block" else codes "in a transaction")
    else (if may_stand name place.InBlock then (if may_stand name place.Outside then codes "outside a transaction" else codes "in a block outside a transaction")
    else codes "outside a block"))

abbrev pub form_text : Form → List ℕ
form_text (form.Number range) = codes "a number from " ++ decimal range.low ++ codes " to " ++ decimal range.high ++ codes " is wanted"
form_text form.Key = codes "a number from 0 to 18446744073709551615 is wanted"
form_text form.Mask = codes "1 to 16 hexadecimal digits that aren't all 0 are wanted"
form_text form.Value = codes "a value of 1 to 40 bytes is wanted, in which a backslash and bytes outside `!` to `~` are written by a backslash, `x` and two hexadecimal digits"

abbrev pub count_text : ℕ → List ℕ
count_text n = if n == 0 then codes "it takes none" else (if n == 1 then codes "it takes one" else codes "it takes " ++ decimal n)

abbrev pub wanted_text : Wanted → List ℕ
wanted_text wanted.SizeOrOpen = codes "the first command is to be `size` or `open`"
wanted_text wanted.Command = codes "no command has this name"
wanted_text (wanted.Place name) = codes "this command stands only " ++ places_text name
wanted_text (wanted.More n) = codes "too few words behind this command, " ++ count_text n
wanted_text (wanted.Fewer n) = codes "too many words behind this command, " ++ count_text n
wanted_text (wanted.Argument f) = form_text f
wanted_text wanted.OtherClient = codes "this client has a block in the round already; `next` or another single command ends a round"
wanted_text wanted.End = codes "the block of this client has no `end`"
