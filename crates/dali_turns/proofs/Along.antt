-- Calm steps, which call no store and take no frame, made by a client of a round.
use Rattle.std.proofs.Common.{◌≡◌, ℕ, Bool, true, false, List, [], ◌∷◌, ◌++◌, map, Option, Some, None, is_some, refl, ap, sym, subst, ◌∙◌}
use Rattle.std.specs.Prelude.{◌==◌}
use Rattle.std.specs.List.{list_all}
use Rattle.std.proofs.lemmas.Bool.{and_parts, and_from}
use Rattle.dali_record.specs.declared.records.Record.{Record}
use Rattle.dali_region.specs.State.{RegionState}
use Rattle.dali_store.specs.Store.{Files as Disk}
use Rattle.dali_store.specs.declared.store.Store.{Ghosts}
use Rattle.dali_runs.specs.declared.causes.Cause.{Cause}
use Rattle.dali_runs.specs.State.{SystemState, CoreState, state_of}
use Rattle.dali_runs.specs.Regions.{RegionStep, Latch, NoteReads, Update, TakeBack}
use Rattle.dali_runs.specs.Courses.{Step, Operates, TakesBack, Frees, Locks, OnRegion, Claims, GivesBack, Recovers}
use Rattle.dali_crash.specs.Checkpoints.{StoreStep, Does, Point, IsPointCourse, moment_of}
use Rattle.dali_crash.specs.Traces.{Start, bases_of}
use Rattle.dali_core.specs.Vault.Vaulted.{Vaulted}
use Rattle.dali_clean.specs.Steps.{is_own_change}
use Rattle.dali_transactions.specs.Ended.{AreOfEnd}
use Rattle.dali_transactions.specs.Beside.Went.{is_calm, Went as GoneOn}
use Rattle.dali_transactions.proofs.BesideLemmas.Calm.{taken_course, calm_quiet}
use Rattle.dali_transcripts.specs.World.{Deed, World, is_claimed_in}
use Rattle.dali_transcripts.specs.Telling.Tells.{after, Goes}
use Rattle.dali_transcripts.specs.Telling.Laws.{AreOfCourse}
use Rattle.dali_turns.specs.declared.client.State.{State}
use Rattle.dali_turns.specs.Stood.{Stood}
use Rattle.dali_turns.specs.Fits.{Owns}
use Rattle.dali_turns.specs.Others.{ImageStays}
use Rattle.dali_turns.proofs.Deeds.{course_tells}
use Rattle.dali_turns.proofs.Beside.{is_out_of, course_audit, step_image, image_still, image_then}
use Rattle.dali_turns.proofs.Coursing.{course_flag}
use Rattle.dali_turns.proofs.Doing.{Did}
use Rattle.dali_transactions.specs.Beside.Went.{is_open}

-- ---- lists

-- the steps of an end are none of an audit
pub end_out : (b t : ℕ) (xs : List Step) → AreOfEnd t xs → list_all (is_out_of b) (map Does xs) ≡ true
end_out b t [] are = refl
end_out b t (OnRegion r x ∷ xs) are = end_out b t xs are.1
end_out b t (Locks u k m ∷ xs) are = end_out b t xs are.1
end_out b t (Operates u k ∷ xs) are = end_out b t xs are.1
end_out b t (TakesBack u k ∷ xs) are = end_out b t xs are.1
end_out b t (Frees u k ∷ xs) are = end_out b t xs are.1
end_out b t (Claims u ∷ Recovers r ∷ GivesBack v o ∷ xs) are = end_out b t xs are.3
end_out b t (Recovers r ∷ xs) are = end_out b t xs are
end_out b t (x ∷ xs) are = absurd are

calm_change : (t r : ℕ) (x : RegionStep) → is_own_change t x ≡ true → is_calm (OnRegion r x) ≡ true
calm_change t r (Latch u) e = refl
calm_change t r (NoteReads mask) e = refl
calm_change t r (Update word value) e = refl
calm_change t r TakeBack e = refl
calm_change t r x e = absurd (cc)

pub end_calm : (t : ℕ) (xs : List Step) → AreOfEnd t xs → list_all is_calm xs ≡ true
end_calm t [] are = refl
end_calm t (OnRegion r x ∷ xs) are = and_from (is_calm (OnRegion r x)) (list_all is_calm xs) (calm_change t r x are.0) (end_calm t xs are.1)
end_calm t (Locks u k m ∷ xs) are = end_calm t xs are.1
end_calm t (Operates u k ∷ xs) are = end_calm t xs are.1
end_calm t (TakesBack u k ∷ xs) are = end_calm t xs are.1
end_calm t (Frees u k ∷ xs) are = end_calm t xs are.1
end_calm t (Claims u ∷ Recovers r ∷ GivesBack v o ∷ xs) are = end_calm t xs are.3
end_calm t (Recovers r ∷ xs) are = end_calm t xs are
end_calm t (x ∷ xs) are = absurd are

pub out_both : (b : ℕ) (xs ys : List StoreStep) → list_all (is_out_of b) xs ≡ true → list_all (is_out_of b) ys ≡ true → list_all (is_out_of b) (xs ++ ys) ≡ true
out_both b [] ys e f = f
out_both b (x ∷ xs) ys e f = let parts = and_parts (is_out_of b x) (list_all (is_out_of b) xs) e in and_from (is_out_of b x) (list_all (is_out_of b) (xs ++ ys)) parts.0 (out_both b xs ys parts.1 f)

-- a stop stays
stop_there : (y z : SystemState) → ((cause : Cause) → y.stop ≡ Some cause → z.stop ≡ Some cause) → is_some y.stop ≡ true → is_some z.stop ≡ true
stop_there y z stays e = by_stop y.stop refl
  where
    by_stop : (o : Option Cause) → y.stop ≡ o → is_some z.stop ≡ true
    by_stop None f = let no : false ≡ true = sym (ap is_some f) ∙ e in absurd (cc)
    by_stop (Some cause) f = ap is_some (stays cause f)

module _ {V : Type 0} (means : Ghosts V) where
  -- ---- another client's checkpoint
  pub calm_image : (s : Start) (B : List (List Record)) (p q : Point) (xs : List Step) (gs : List RegionState) (y : SystemState) (v : Vaulted V) → list_all is_calm xs ≡ true → IsPointCourse p (map Does xs) q → p.core.regions ≡ gs → p.core.system ≡ y
      → ImageStays means s B p gs y v B q q.core.regions q.core.system v
  calm_image s B p q [] gs y v calm course regions system =
      subst (λ (z : Point). ImageStays means s B p gs y v B z z.core.regions z.core.system v) course
      (subst (λ (rs : List RegionState). ImageStays means s B p gs y v B p rs p.core.system v) (sym regions)
      (subst (λ (m : SystemState). ImageStays means s B p gs y v B p gs m v) (sym system) (image_still means s B p gs y v)))
  calm_image s B p q (x ∷ xs) gs y v calm (k, step, course) regions system =
      let parts = and_parts (is_calm x) (list_all is_calm xs) calm in
      image_then means s B B B p k q gs k.core.regions q.core.regions y k.core.system q.core.system v v v (λ r. r)
      (step_image means s B p k x gs y v (calm_quiet x parts.0) step (taken_course (moment_of p) (moment_of k) (x ∷ []) (and_from (is_calm x) true parts.0 refl) (moment_of k, step.1, refl)) system)
      (calm_image s B k q xs k.core.regions k.core.system v parts.1 course refl refl)

  -- ---- what a client does by them
  module _ (precheck : Bool) (s : Start) (B : List (List Record)) (p : Point) (w : World) (gs : List RegionState) (y : SystemState) (v : Vaulted V) (stood : Stood means s B p w precheck gs y v) (c : ℕ) (state : State) where
    pub did_calm : (t : ℕ) (own : List Record) (hs : List RegionState) (z : SystemState) (g : GoneOn means t own s B p gs hs z v) (ds : List Deed) → AreOfCourse w c p (map Does g.steps) g.to ds
        → ((u : ℕ) → is_claimed_in (state_of z u) ≡ false)
        → ((u : ℕ) → is_open (state_of y u) ≡ true → (Owns state u → ⊥) → (t == u) ≡ false) → ((b : ℕ) → list_all (is_out_of b) (map Does g.steps) ≡ true)
        → Did means precheck s B p w c state gs y v ds B g.to hs z v
    did_calm t own hs z g ds are unclaimed apart out = record {
      steps = map Does g.steps;
      course = g.course;
      goes = goes;
      stood = record {
        stands = g.stands;
        files = g.places stood.files;
        quiet = record { unclaimed = unclaimed };
        stops = λ e. stop_there y z stays (stood.stops e);
        tells = goes.tells;
        precheck_is = stood.precheck_is;
        began = stood.began;
        since = stood.since;
        keeps = course_flag p g.to (map Does g.steps) g.course stood.keeps;
      };
      others = record {
        txns = λ u lives other. g.others u (apart u lives other) (ap (λ (m : SystemState). is_open (state_of m u)) stood.stands.at.system ∙ lives);
        audits = λ b less other. course_audit (bases_of s) s.log p g.to (map Does g.steps) b stood.stands.at.vault.run g.course (out b) less;
        image = λ flag other.
            subst (λ (rs : List RegionState). ImageStays means s B p gs y v B g.to rs z v) g.stands.at.regions
            (subst (λ (m : SystemState). ImageStays means s B p gs y v B g.to g.to.core.regions m v) g.stands.at.system
            (calm_image s B p g.to g.steps gs y v g.calm g.course stood.stands.at.regions stood.stands.at.system));
      };
    }
      where
        goes : Goes w c p ds (after w c ds g.to.core) g.to
        goes = course_tells (bases_of s) s.log w c p g.to (map Does g.steps) ds stood.stands.at.vault.run stood.tells are

        stays : (cause : Cause) → y.stop ≡ Some cause → z.stop ≡ Some cause
        stays cause e =
            ap (λ (m : SystemState). m.stop) (sym g.stands.at.system)
            ∙ goes.grows.stopped cause (ap (λ (k : CoreState). k.system.stop) stood.tells.core ∙ (ap (λ (m : SystemState). m.stop) stood.stands.at.system ∙ e))
