-- What the vault keeps, and what a round hands out of the core.
use Rattle.std.proofs.Common.{◌≡◌, ℕ, zero, suc, true, false, List, [], ◌∷◌, ◌++◌, length, Some, IfSome, refl, ap, sym, subst, ◌∙◌}
use Rattle.std.specs.Prelude.{slice_get}
use Rattle.std.proofs.lemmas.List.{append_assoc}
use Rattle.dali_lists.proofs.Lists.{get_behind}
use Rattle.dali_record.specs.declared.records.Record.{Record}
use Rattle.dali_store.specs.declared.store.Store.{Ghosts}
use Rattle.dali_runs.specs.State.{SystemState, CoreState}
use Rattle.dali_runs.specs.Run.{Bases, RunsOn, no_image}
use Rattle.dali_runs.specs.Parts.Systems.{is_taking}
use Rattle.dali_runs.proofs.PartsLemmas.Systems.{system_leaves, step_has_system}
use Rattle.dali_crash.specs.StoreRuns.{StoreRun}
use Rattle.dali_crash.proofs.StoreRuns.{bare_store_course_keeps}
use Rattle.dali_runs.specs.Courses.{Step, Takes}
use Rattle.dali_crash.specs.Checkpoints.{StoreStep, Does, Starts, Finishes, Point, IsPointStep, IsPointCourse}
use Rattle.dali_crash.specs.Traces.{bases_of}
use Rattle.dali_core.specs.Cores.{HoldsPlaces}
use Rattle.dali_notes.specs.History.{signs}
use Rattle.dali_concurrent.specs.Entries.{vault_note}
use Rattle.dali_concurrent.specs.Rules.{Outset}
use Rattle.dali_concurrent.specs.Told.{Line, History}
use Rattle.dali_concurrent.specs.Landing.{Way}
use Rattle.dali_concurrent.specs.Kept.{is_silent, Follows, AllFollow}
use Rattle.dali_concurrent.specs.Calls.{VaultAt}
use Rattle.dali_concurrent.specs.Stored.{NoneInHand, VaultMeets, NoneInHandMeets, HandsOut}
use Rattle.dali_concurrent.proofs.Lists.{take_length}
use Rattle.dali_concurrent.proofs.Landing.{front_stands}
use Rattle.dali_concurrent.proofs.Kept.{stands_of}
use Rattle.dali_concurrent.proofs.Closed.{system_is, round_stands}
use Rattle.dali_concurrent.proofs.Rests.{none_holds}
use Rattle.dali_concurrent.proofs.Calls.{at_meets, files_hold}
use Rattle.dali_concurrent.proofs.Checking.{still_rest}

-- what was taken
not_taking : (x : Step) → is_silent (Does x) ≡ true → is_taking x ≡ false
not_taking Takes h = absurd (cc)
not_taking x h = refl

silent_taken : (bases : Bases) (made : List Record) (p q : Point) (x : StoreStep) → StoreRun bases made no_image p → is_silent x ≡ true → IsPointStep p x q → q.core.system.taken ≡ p.core.system.taken
silent_taken bases made p q (Does x) run h step =
    let runs : RunsOn bases p.log p.core = subst (λ L. RunsOn bases L p.core) (sym run.run.log) run.run.run.runs in
    (system_leaves p.log q.log p.core.system q.core.system x (step_has_system bases p.log q.log p.core q.core x runs step.1.0)).taken (not_taking x h)
silent_taken bases made p q Starts run h step = ap (λ (z : Point). z.core.system.taken) step.1
silent_taken bases made p q Finishes run h step = ap (λ (z : Point). z.core.system.taken) step.1
silent_taken bases made p q x run h step = absurd (cc)

all_taken : (bases : Bases) (made : List Record) (p q : Point) (xs : List StoreStep) → StoreRun bases made no_image p → ((i : ℕ) (x : StoreStep) → slice_get xs i ≡ Some x → is_silent x ≡ true)
    → IsPointCourse p xs q → q.core.system.taken ≡ p.core.system.taken
all_taken bases made p q [] run silent course = ap (λ (z : Point). z.core.system.taken) (sym course)
all_taken bases made p q (x ∷ xs) run silent course =
    all_taken bases made course.0 q xs (bare_store_course_keeps bases made p course.0 (x ∷ []) run (course.0, course.1, refl)) (λ i y at. silent (suc i) y at) course.2
    ∙ silent_taken bases made p course.0 x run (silent zero x refl) course.1

-- entries of others leave it
others_taken : (bases : Bases) (p : Point) (o : Outset) (R S : History) (q r : Point) → AllFollow bases p o (S ++ R)
    → ((i : ℕ) (e : Line) → slice_get R i ≡ Some e → signs vault_note e.0 ≡ false) → StoreRun bases o.made no_image q → Way o S q R r → r.core.system.taken ≡ q.core.system.taken
others_taken bases p o [] S q r all none run way = ap (λ (z : Point). z.core.system.taken) (sym way)
others_taken bases p o (e ∷ R) S q r all none run way =
    let moved : S ++ e ∷ R ≡ (S ++ e ∷ []) ++ R = sym (append_assoc S (e ∷ []) R) in
    let follows : Follows bases p o S e = subst (λ Z. Follows bases p o Z e) (take_length S (e ∷ R)) (all (length S) e (get_behind S e R)) in
    others_taken bases p o R (S ++ e ∷ []) way.0 r (subst (AllFollow bases p o) moved all) (λ i x at. none (suc i) x at) (bare_store_course_keeps bases o.made q way.0 e.1.2 run way.1.course) way.2
    ∙ all_taken bases o.made q way.0 e.1.2 run (follows.silent (none zero e refl)) way.1.course

module _ {V : Type 0} (means : Ghosts V) where
  pub vault_meets : VaultMeets means
  vault_meets s B p o seen new v begins is all held = subst (λ T. VaultAt means s B p o v T) (sym is.all)
      (at_meets means s B p o seen is.rest v begins (still_rest (bases_of s) p o is.rest seen (subst (AllFollow (bases_of s) p o) is.all all) (λ i e f. is.none e (i, f))) held)

  pub none_in_hand_meets : NoneInHandMeets means
  none_in_hand_meets bases p o seen new v begins is all none runs =
      let at = stands_of bases p o new begins all in
      let front = front_stands bases p o seen is.rest new at.0 begins is.all at.1 in
      let same : at.0.core.system.taken ≡ front.0.core.system.taken =
      others_taken bases p o is.rest seen front.0 at.0 (subst (AllFollow bases p o) is.all all) (λ i e f. is.none e (i, f)) front.1.run front.2 in
      none runs ∙ (ap (λ (c : CoreState). c.system.taken) (sym front.1.comes.core) ∙ (sym same ∙ ap (λ (c : CoreState). c.system.taken) at.1.comes.core))

  pub hands_out : HandsOut means
  hands_out s B p o T closed gs y u ss values clients begins held none =
      let at = round_stands (bases_of s) p o T closed gs y values begins in
      let here = vault_meets s B p o (closed.seen vault_note) T u begins (closed.is vault_note values.both) closed.all held in
      let left : NoneInHand means o u T = none_in_hand_meets (bases_of s) p o (closed.seen vault_note) T u begins (closed.is vault_note values.both) closed.all none in
      record {
        to = at.to;
        is = at.stands;
        stands = record {
          at = record {
            regions = at.regions;
            system = at.system;
            vault = here.at at.to at.stands;
            none_in_hand = λ runs. left runs ∙ ap (λ (z : SystemState). z.taken) (sym (system_is (bases_of s) p o T closed gs y values));
          };
          whole = at.whole;
          dead = none_holds (bases_of s) p o T closed gs y ss values clients begins;
        };
        files = λ runs. subst (λ l. IfSome (means.told u.store) (HoldsPlaces l)) at.regions (files_hold means s B p o u T here runs at.to at.stands);
        keeps = at.keeps;
      }
