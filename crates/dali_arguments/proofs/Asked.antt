-- That words that ask of the program itself mean no task.
use Rattle.std.proofs.Common.{◌≡◌, Bool, true, false, cond, List, [], ◌∷◌, Some, None, refl, sym, subst}
use Rattle.std.specs.Prelude.{codes}
use Rattle.std.specs.Str.{bytes_eq}
use Rattle.std.specs.Cmp.Lexicographic.{bytes_decides}
use Rattle.clap.specs.Words.{Text}
use Rattle.clap.proofs.OnLiterals.{clap_on_literals}
use Rattle.dali_arguments.specs.Meaning.{meaning}
use Rattle.dali_arguments.specs.Questions.{question_in}
use Rattle.dali_arguments.specs.declared.help.Question.{Question}
use Rattle.dali_arguments.specs.declared.help.Question.TheVariants.{Help, Version}

long_help : meaning (codes "--help" ∷ []) ≡ None
unfolding clap_on_literals
long_help = refl

short_help : meaning (codes "-h" ∷ []) ≡ None
unfolding clap_on_literals
short_help = refl

version : meaning (codes "--version" ∷ []) ≡ None
unfolding clap_on_literals
version = refl

is_word : (word wanted : Text) → bytes_eq word wanted ≡ true → meaning (wanted ∷ []) ≡ None → meaning (word ∷ []) ≡ None
is_word word wanted same none = subst (λ (w : Text). meaning (w ∷ []) ≡ None) (sym ((bytes_decides word wanted).0 same)) none

by_tests : (word : Text) (a b d : Bool) (q : Question) → bytes_eq word (codes "--help") ≡ a → bytes_eq word (codes "-h") ≡ b → bytes_eq word (codes "--version") ≡ d
    → cond a (Some Help) (cond b (Some Help) (cond d (Some Version) None)) ≡ Some q → meaning (word ∷ []) ≡ None
by_tests word true b d q x y z e = is_word word (codes "--help") x long_help
by_tests word false true d q x y z e = is_word word (codes "-h") y short_help
by_tests word false false true q x y z e = is_word word (codes "--version") z version
by_tests word false false false q x y z e = absurd (cc)

pub asked_means_none : (words : List Text) (q : Question) → question_in words ≡ Some q → meaning words ≡ None
asked_means_none [] q e = absurd (cc)
asked_means_none (word ∷ []) q e = by_tests word _ _ _ q refl refl refl e
asked_means_none (word ∷ other ∷ words) q e = absurd (cc)
