-- A clean-up leaves the vault, and what is flushed.
use Rattle.std.proofs.Common.{◌≡◌, ℕ, length, take, drop, true, ◌&&◌, List, [], ◌∷◌, ◌++◌, Option, None, Result, Ok, Err, IfErr, refl, ap, sym, subst, ◌∙◌}
use Rattle.std.specs.List.{list_all}
use Rattle.std.proofs.lemmas.Bool.Decides.{Decides-eqb}
use Rattle.std.proofs.lemmas.Bool.{and_parts}
use Rattle.dali_record.specs.declared.records.Record.{Record}
use Rattle.dali_record.specs.declared.records.Record.TheVariants.{Ended}
use Rattle.dali_region.specs.State.{RegionState}
use Rattle.dali_store.specs.Store.{Files as Disk}
use Rattle.dali_store.specs.declared.store.Store.{Ghosts}
use Rattle.dali_runs.specs.State.{SystemState, CoreState}
use Rattle.dali_runs.specs.Regions.{RegionStep, Latch, NoteReads, Update, TakeBack}
use Rattle.dali_runs.specs.Wholes.{IsWhole}
use Rattle.dali_runs.specs.Courses.{Step, TakesBack, Ends as EndsTxn, Claims, Recovers, GivesBack, OnRegion, Moment, IsStep, IsCourse}
use Rattle.dali_crash.specs.Checkpoints.{moment_of}
use Rattle.dali_crash.specs.Traces.{bases_of}
use Rattle.dali_core.specs.Vault.Vaulted.{Vaulted}
use Rattle.dali_clean.specs.declared.error.CleanError.{CleanError}
use Rattle.dali_clean.specs.declared.error.CleanError.TheVariants.{NotDead as IsNotDead}
use Rattle.dali_clean.specs.Steps.{is_own_change, is_own_step}
use Rattle.dali_clean.specs.Cleaned.{moment, InRun, IsEnded, Ends, IsGivenBack, GivesBack as GivesBackTo}
use Rattle.dali_clean.proofs.Steps.{own_steps}
use Rattle.dali_core.specs.Steps.Courses.{is_quiet, WentOn}
use Rattle.dali_core.proofs.StepsLemmas.Courses.{quiet_course}
use Rattle.dali_core.specs.Cleaned.{EndsAt, LeavesAt}

change_is_quiet : (t r : ℕ) (x : RegionStep) → is_own_change t x ≡ true → is_quiet (OnRegion r x) ≡ true
change_is_quiet t r (Latch u) e = refl
change_is_quiet t r (NoteReads mask) e = refl
change_is_quiet t r (Update word value) e = refl
change_is_quiet t r TakeBack e = refl
change_is_quiet t r x e = absurd cc

own_is_quiet : (t : ℕ) (x : Step) → is_own_step t x ≡ true → is_quiet x ≡ true
own_is_quiet t (TakesBack u b) e = refl
own_is_quiet t (EndsTxn u) e = refl
own_is_quiet t (Claims u) e = refl
own_is_quiet t (Recovers r) e = refl
own_is_quiet t (GivesBack u o) e = refl
own_is_quiet t (OnRegion r x) e = change_is_quiet t r x e
own_is_quiet t x e = absurd cc

own_leaves_taken : (t : ℕ) (L M : List Record) (c d : CoreState) (x : Step) → is_own_step t x ≡ true → IsStep L c x M d → d.system.taken ≡ c.system.taken
own_leaves_taken t L M c d (TakesBack u b) e s = ap (λ (k : CoreState). k.system.taken) s.2.1
own_leaves_taken t L M c d (EndsTxn u) e s = ap (λ (k : CoreState). k.system.taken) s.2.1
own_leaves_taken t L M c d (Claims u) e s = ap (λ (k : CoreState). k.system.taken) s.2.1
own_leaves_taken t L M c d (Recovers r) e s = ap (λ (k : CoreState). k.system.taken) s.3.1
own_leaves_taken t L M c d (GivesBack u o) e s = ap (λ (k : CoreState). k.system.taken) s.1.1
own_leaves_taken t L M c d (OnRegion r x) e s = ap (λ (k : CoreState). k.system.taken) s.3.1
own_leaves_taken t L M c d x e s = absurd cc

all_quiet : (t : ℕ) (xs : List Step) → list_all (is_own_step t) xs ≡ true → list_all is_quiet xs ≡ true
all_quiet t [] e = refl
all_quiet t (x ∷ xs) e = let both = and_parts (is_own_step t x) (list_all (is_own_step t) xs) e in ap (λ b. b && list_all is_quiet xs) (own_is_quiet t x both.0) ∙ all_quiet t xs both.1

all_leave_taken : (t : ℕ) (m n : Moment) (xs : List Step) → list_all (is_own_step t) xs ≡ true → IsCourse m xs n → n.core.system.taken ≡ m.core.system.taken
all_leave_taken t m n [] e course = ap (λ (k : Moment). k.core.system.taken) (sym course)
all_leave_taken t m n (x ∷ xs) e course =
    let both = and_parts (is_own_step t x) (list_all (is_own_step t) xs) e in
    all_leave_taken t course.0 n xs both.1 course.2 ∙ own_leaves_taken t m.log course.0.log m.core course.0.core x both.0 course.1.0

module _ {V : Type 0} (means : Ghosts V) where
  pub ends_at : (gs gs' : List RegionState) (y z : SystemState) (v : Vaulted V) (t : ℕ) → Ends gs y t gs' z → EndsAt means gs y v t gs' z
  ends_at gs gs' y z v t ends s B p at whole = record {
    to = went.to;
    steps = end.steps;
    course = went.course;
    log = end.log;
    ends = ap (λ (m : Moment). m.log) went.moment;
    by = end.by;
    beside = end.beside;
    at = record {
      regions = ap (λ (m : Moment). m.core.regions) went.moment;
      system = ap (λ (m : Moment). m.core.system) went.moment;
      vault = went.is;
      none_in_hand = λ runs. at.none_in_hand runs ∙ (ap (λ (x : SystemState). x.taken) (sym at.system) ∙ sym (all_leave_taken t (moment_of p) last end.steps own end.course));
    };
    whole = subst (λ (m : Moment). IsWhole m.core) (sym went.moment) end.whole;
    keeps = went.keeps;
  }
    where
      here : Ends p.core.regions p.core.system t gs' z
      here = subst (λ (x : SystemState). Ends p.core.regions x t gs' z) (sym at.system) (subst (λ (rs : List RegionState). Ends rs y t gs' z) (sym at.regions) ends)

      run : InRun (bases_of s) s.log (moment_of p)
      run = record { run = at.vault.run.run; whole = whole }

      end : IsEnded (bases_of s) s.log (moment_of p) t gs' z
      end = here (bases_of s) s.log p.log p.core.vault p.audits run

      own : list_all (is_own_step t) end.steps ≡ true
      own = own_steps p.core.system t (EndsTxn t) end.steps end.by ((Decides-eqb t t).1 refl)

      last : Moment
      last = moment gs' z (end.log ++ Ended t ∷ []) p.core.vault p.audits

      went : WentOn means s B p last end.steps v
      went = quiet_course means s B p last end.steps v at.vault (all_quiet t end.steps own) end.course

  pub left_at : (gs gs' : List RegionState) (y z : SystemState) (v : Vaulted V) (t : ℕ) → GivesBackTo gs y t gs' z → LeavesAt means gs y v t gs' z
  left_at gs gs' y z v t back s B p at whole = record {
    to = went.to;
    steps = given.led.steps;
    course = went.course;
    by = given.led.are;
    beside = given.beside;
    at = record {
      regions = ap (λ (m : Moment). m.core.regions) went.moment;
      system = ap (λ (m : Moment). m.core.system) went.moment;
      vault = went.is;
      none_in_hand = λ runs. at.none_in_hand runs ∙ (ap (λ (x : SystemState). x.taken) (sym at.system) ∙ sym (all_leave_taken t (moment_of p) last given.led.steps own given.led.course));
    };
    whole = subst (λ (m : Moment). IsWhole m.core) (sym went.moment) given.again.whole;
    keeps = went.keeps;
  }
    where
      here : GivesBackTo p.core.regions p.core.system t gs' z
      here = subst (λ (x : SystemState). GivesBackTo p.core.regions x t gs' z) (sym at.system) (subst (λ (rs : List RegionState). GivesBackTo rs y t gs' z) (sym at.regions) back)

      given : IsGivenBack (bases_of s) s.log (moment_of p) t gs' z
      given = here (bases_of s) s.log p.log p.core.vault p.audits (record { run = at.vault.run.run; whole = whole })

      own : list_all (is_own_step t) given.led.steps ≡ true
      own = own_steps p.core.system t (GivesBack t None) given.led.steps given.led.are refl

      last : Moment
      last = moment gs' z given.led.log p.core.vault p.audits

      went : WentOn means s B p last given.led.steps v
      went = quiet_course means s B p last given.led.steps v at.vault (all_quiet t given.led.steps own) given.led.course

  pub err_left : {X : Type 0} (r : Result X CleanError) (gs gs' : List RegionState) (y z : SystemState) (v : Vaulted V) (t : ℕ) (P : Type 0) → IfErr r (λ e. (e ≡ IsNotDead → ⊥) → GivesBackTo gs y t gs' z × P)
      → IfErr r (λ e. (e ≡ IsNotDead → ⊥) → LeavesAt means gs y v t gs' z)
  err_left (Ok x) gs gs' y z v t P h = tt
  err_left (Err e) gs gs' y z v t P h = λ f. left_at gs gs' y z v t (h f).0

-- a vector whose items were all written
pub put_back : (n : ℕ) (xs ys : List RegionState) → length xs ≡ n → take n (xs ++ drop (length xs) ys) ≡ xs
put_back n xs ys size = subst (λ k. take k (xs ++ drop (length xs) ys) ≡ xs) size (take_at xs (drop (length xs) ys))
  where
    take_at : (us vs : List RegionState) → take (length us) (us ++ vs) ≡ us
    take_at [] vs = refl
    take_at (u ∷ us) vs = ap (λ l. u ∷ l) (take_at us vs)

-- what is so of the slice is so of its vector
pub of_vector : (P : List RegionState → List RegionState → Type 0) (n : ℕ) (old now new : List RegionState) → length new ≡ n → now ≡ old → P now new → P old (take n (new ++ drop (length new) old))
of_vector P n old now new size same h = subst (λ (rs : List RegionState). P old rs) (sym (put_back n new old size)) (subst (λ (rs : List RegionState). P rs new) same h)
