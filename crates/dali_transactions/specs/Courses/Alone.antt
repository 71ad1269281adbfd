-- What a thread does that has a core to itself, as a course of a run.
--     moment L c a             the moment of this log and this core, with what audits have passed
--     Makes m xs n             these steps lead from the moment m to the moment n, and none of them is a stray write
--     OwnStepsAreACourse       so it is of the steps of a transaction's own; audits have passed what they had
--     AnswerEndsACourse, AbortEndsACourse, SettlingEndsACourse    of a call with its answer, of an abort and of a settling with its end
use Rattle.std.specs.Prelude.{◌≡◌, ℕ, Bool, false, List, [], ◌∷◌, ◌++◌}
use Rattle.std.specs.List.{list_any}
use Rattle.dali_record.specs.declared.records.Answer.{Answer}
use Rattle.dali_record.specs.declared.records.Call.{Call}
use Rattle.dali_record.specs.declared.records.Record.{Record}
use Rattle.dali_record.specs.declared.records.Record.TheVariants.{Done, Ended}
use Rattle.dali_runs.specs.State.{CoreState}
use Rattle.dali_runs.specs.Passes.{Audits}
use Rattle.dali_runs.specs.Courses.{Step, Answers, Ends, Moment, IsCourse}
use Rattle.dali_crash.specs.Unpoked.{pokes}
use Rattle.dali_calls.specs.Single.Single.{Leads, IsAnswered}
use Rattle.dali_calls.specs.Single.Ending.{IsEnded}
use Rattle.dali_calls.specs.Single.Settling.{IsSettled}

abbrev pub moment : List Record → CoreState → Audits → Moment
moment L c a = record { log = L; core = c; audits = a }

abbrev pub Makes : Moment → List Step → Moment → Type 0
Makes m xs n = IsCourse m xs n × (list_any pokes xs ≡ false)

abbrev pub OwnStepsAreACourse : Type 0
OwnStepsAreACourse = (precheck : Bool) (t : ℕ) (L M : List Record) (c d : CoreState) (xs : List Step) (a : Audits) → Leads precheck t L c xs M d → Makes (moment L c a) xs (moment M d a)

abbrev pub AnswerEndsACourse : Type 0
AnswerEndsACourse =
    (precheck : Bool) (L : List Record) (c d : CoreState) (t : ℕ) (call : Call) (told : Answer) (a : Audits) (e : IsAnswered precheck L c t call told d)
    → Makes (moment L c a) (e.steps ++ Answers t call told ∷ []) (moment (e.log ++ Done t call told ∷ []) d a)

abbrev pub AbortEndsACourse : Type 0
AbortEndsACourse =
    (L : List Record) (c d : CoreState) (t : ℕ) (a : Audits) (e : IsEnded L c t d) → Makes (moment L c a) (e.steps ++ Ends t ∷ []) (moment (e.log ++ Ended t ∷ []) d a)

abbrev pub SettlingEndsACourse : Type 0
SettlingEndsACourse =
    (L : List Record) (c d : CoreState) (t : ℕ) (a : Audits) (e : IsSettled L c t d) → Makes (moment L c a) (e.steps ++ Ends t ∷ []) (moment (e.log ++ Ended t ∷ []) d a)
