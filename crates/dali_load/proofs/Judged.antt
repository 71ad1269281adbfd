-- No refusal says that all went well.
use Rattle.std.proofs.Common.{◌≡◌, ◌↔◌, ℕ, Bool, true, false, cond, List, [], ◌∷◌, Option, Some, None, refl, sym, ◌∙◌, ap}
use Rattle.std.specs.Prelude.{nat_eq, codes}
use Rattle.std.specs.Cmp.Lexicographic.{pointwise, same_text}
use Rattle.std.proofs.lemmas.Cmp.{nat_list_eq_equiv}
use Rattle.dali_script.specs.Lines.{lines_of, words_of}
use Rattle.dali_script.specs.Texts.{◌>>=◌, number_of}
use Rattle.dali_load.specs.Answers.{expected, full_at, refusal_in, either, first_refusal, refused, verdict_of}
use Rattle.dali_load.specs.declared.judging.Verdict.{Verdict}
use Rattle.dali_load.specs.declared.judging.Verdict.TheVariants.{AllWell, TooSmall, LogFull}

full_never : (end limit : Option ℕ) → (end >>= λ e. limit >>= λ l. Some (LogFull e l)) ≡ Some AllWell → ⊥
full_never None limit h = cc
full_never (Some e) None h = cc
full_never (Some e) (Some l) h = cc

small_never : (b : Bool) → cond b (Some TooSmall) None ≡ Some AllWell → ⊥
small_never true h = cc
small_never false h = cc

log_never : (b : Bool) (end limit : List ℕ) → cond b (full_at end limit) None ≡ Some AllWell → ⊥
log_never true end limit h = full_never (number_of end) (number_of limit) h
log_never false end limit h = cc

words_never : (words : List (List ℕ)) → refusal_in words ≡ Some AllWell → ⊥
words_never [] h = cc
words_never (a ∷ []) h = cc
words_never (a ∷ b ∷ []) h = cc
words_never (a ∷ b ∷ c ∷ []) h = cc
words_never (a ∷ b ∷ c ∷ d ∷ []) h = small_never (pointwise nat_eq c (codes "full")) h
words_never (a ∷ b ∷ c ∷ d ∷ e ∷ []) h = log_never (pointwise nat_eq b (codes "log")) d e h
words_never (a ∷ b ∷ c ∷ d ∷ e ∷ f ∷ []) h = log_never (pointwise nat_eq c (codes "log")) e f h
words_never (a ∷ b ∷ c ∷ d ∷ e ∷ f ∷ g ∷ more) h = cc

either_never : (o other : Option Verdict) → (o ≡ Some AllWell → ⊥) → (other ≡ Some AllWell → ⊥) → either o other ≡ Some AllWell → ⊥
either_never (Some r) other first later h = first h
either_never None other first later h = later h

lines_never : (lines : List (List ℕ)) → first_refusal lines ≡ Some AllWell → ⊥
lines_never [] h = cc
lines_never (line ∷ lines) h = either_never (refusal_in (words_of line)) (first_refusal lines) (words_never (words_of line)) (lines_never lines) h

refused_never : (o : Option Verdict) → (o ≡ Some AllWell → ⊥) → refused o ≡ AllWell → ⊥
refused_never (Some r) never h = never (ap Some h)
refused_never None never h = cc

pub well : (count : ℕ) (text : List ℕ) → verdict_of count text ≡ AllWell ↔ text ≡ expected count
well count text = (there (pointwise nat_eq text (expected count)) refl, back)
  where
    there : (b : Bool) → pointwise nat_eq text (expected count) ≡ b → cond b AllWell (refused (first_refusal (lines_of text))) ≡ AllWell → text ≡ expected count
    there true is h = same_text text (expected count) (sym is)
    there false is h = absurd (refused_never (first_refusal (lines_of text)) (lines_never (lines_of text)) h)

    back : text ≡ expected count → verdict_of count text ≡ AllWell
    back same = ap (λ b. cond b AllWell (refused (first_refusal (lines_of text)))) (ap (λ t. pointwise nat_eq t (expected count)) same ∙ nat_list_eq_equiv.refl (expected count))
