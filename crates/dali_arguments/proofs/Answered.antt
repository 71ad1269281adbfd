-- What clap answers, as what words mean.
use Rattle.std.proofs.Common.{◌≡◌, ◌∙◌, List, [], ◌∷◌, Option, Some, None, Result, Ok, Err, inl, inr, true, refl, ap, sym, subst}
use Rattle.std.specs.Prelude.{IfErr, IfOk, IsErrAnd, ok_or}
use Rattle.clap.specs.Words.{App, HasKind, HasMatchesOf, Kinds, Text, fault_of, is_simple, is_simple_and_free, kind_of, subcommand_of, subcommand_rows_of}
use Rattle.clap.specs.declared.error.Error.{Error}
use Rattle.clap.specs.declared.ArgMatches.{ArgMatches}
use Rattle.clap.proofs.OnLiterals.{clap_on_literals}
use Rattle.dali_arguments.specs.Command.{dali}
use Rattle.dali_arguments.specs.Errors.{cause_of}
use Rattle.dali_arguments.specs.Meaning.{faultless, meaning, task_of}
use Rattle.dali_arguments.specs.declared.error.ArgumentError.{ArgumentError}
use Rattle.dali_arguments.specs.declared.error.ArgumentError.TheVariants.{Faulty, OutOfMemory}
use Rattle.dali_arguments.specs.declared.task.Task.{Task}

pub is_free : is_simple_and_free dali ≡ true
unfolding clap_on_literals
is_free = refl

pub is_plain : is_simple dali ≡ true
unfolding clap_on_literals
is_plain = refl

faulty_none : (kinds : Kinds) (e : Error) (t : Option Task) → HasKind kinds e → cause_of (kind_of e) ≡ Faulty → faultless kinds t ≡ None
faulty_none [] e t (inl memory) f = let wrong : OutOfMemory ≡ Faulty = sym (ap cause_of memory) ∙ f in absurd (cc)
faulty_none [] e t (inr none) f = absurd none
faulty_none (k ∷ ks) e t h f = refl

-- a command app that is d, which is simple
pub ok_means : (app d : App) (words : List Text) (m : ArgMatches) → app ≡ d → is_simple_and_free d ≡ true → is_simple d ≡ true
    → (is_simple_and_free app ≡ true → fault_of app words ≡ []) → HasMatchesOf app words m
    → faultless (fault_of d words) (task_of (subcommand_of d words)) ≡ task_of (subcommand_rows_of m)
ok_means app d words m same free simple none has =
    let fault = subst (λ (a : App). is_simple_and_free a ≡ true → fault_of a words ≡ []) same none free in
    let found = subst (λ (a : App). HasMatchesOf a words m) same has simple in
    ap (λ k. faultless k (task_of (subcommand_of d words))) fault ∙ ap task_of (sym found.1)

pub err_means : (app d : App) (words : List Text) (e : Error) → app ≡ d → is_simple_and_free d ≡ true
    → (is_simple_and_free app ≡ true → HasKind (fault_of app words) e) → cause_of (kind_of e) ≡ Faulty
    → faultless (fault_of d words) (task_of (subcommand_of d words)) ≡ None
err_means app d words e same free kinds f =
    faulty_none (fault_of d words) e (task_of (subcommand_of d words)) (subst (λ (a : App). is_simple_and_free a ≡ true → HasKind (fault_of a words) e) same kinds free) f

-- what is answered of a task, or of none
pub told : (words t o : Option Task) → words ≡ t → o ≡ t → IfOk (ok_or o Faulty) (λ task. words ≡ Some task) × IfErr (ok_or o Faulty) (λ e. e ≡ Faulty → words ≡ None)
told words (Some x) (Some y) is same = (is ∙ sym same, tt)
told words None (Some y) is same = absurd (cc)
told words (Some x) None is same = absurd (cc)
told words None None is same = (tt, λ e. is)

-- what `read` says of its result
abbrev pub Answers : List Text → Result Task ArgumentError → Type 0
Answers words r = IfOk r (λ task. meaning words ≡ Some task) × IfErr r (λ e. e ≡ Faulty → meaning words ≡ None)

pub answered : (app : App) (words : List Text) (m : ArgMatches) (o : Option Task) (r : Result Task ArgumentError) → app ≡ dali
    → (is_simple_and_free app ≡ true → fault_of app words ≡ []) → HasMatchesOf app words m → o ≡ task_of (subcommand_rows_of m) → r ≡ ok_or o Faulty → Answers words r
answered app words m o r same none has is e =
    subst (Answers words) (sym e) (told (meaning words) (task_of (subcommand_rows_of m)) o (ok_means app dali words m same is_free is_plain none has) is)

pub failed : (app : App) (words : List Text) (e : Error) (r : Result Task ArgumentError) → app ≡ dali
    → (is_simple_and_free app ≡ true → HasKind (fault_of app words) e) → IsErrAnd r (λ x. x ≡ cause_of (kind_of e)) → IfErr r (λ x. x ≡ Faulty → meaning words ≡ None)
failed app words e (Ok task) same kinds is = tt
failed app words e (Err x) same kinds is = λ f. err_means app dali words e same is_free kinds (sym is ∙ f)
