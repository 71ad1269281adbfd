-- What words ask of the program itself.
--     question_in words            what they ask, where they ask something
--     answer_of help version q     what is answered
use Rattle.std.specs.Prelude.{List, [], ◌∷◌, Option, Some, None, if◌then◌else◌, codes}
use Rattle.std.specs.Str.{bytes_eq}
use Rattle.clap.specs.Words.{Text}
use Rattle.dali_arguments.specs.declared.help.Question.{Question}
use Rattle.dali_arguments.specs.declared.help.Question.TheVariants.{Help, Version}

abbrev pub question_of : Text → Option Question
question_of word = if bytes_eq word (codes "--help") then Some Help else (if bytes_eq word (codes "-h") then Some Help
    else (if bytes_eq word (codes "--version") then Some Version else None))

-- one word, alone
abbrev pub question_in : List Text → Option Question
question_in [] = None
question_in (word ∷ []) = question_of word
question_in (word ∷ other ∷ words) = None

abbrev pub answer_of : (help version : Text) → Question → Text
answer_of help version Help = help
answer_of help version Version = version
