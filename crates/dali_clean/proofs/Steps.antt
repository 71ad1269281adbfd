-- The steps of a clean-up: each is its own, and apart from who is alive.
use Rattle.std.proofs.Common.{◌≡◌, ℕ, Bool, true, false, not, List, [], ◌∷◌, ◌++◌, Option, Some, None, refl, sym, ap, subst, ◌∙◌}
use Rattle.std.specs.List.{list_all}
use Rattle.std.specs.Prelude.{◌==◌}
use Rattle.std.proofs.lemmas.Bool.Decides.{Decides-eqb}
use Rattle.std.proofs.lemmas.Bool.{and_from, eq-eqb, not_from_false}
use Rattle.dali_record.specs.declared.operations.Block.{Block}
use Rattle.dali_record.specs.declared.records.Record.{Record}
use Rattle.dali_att.specs.declared.state.State.TheVariants.{Dead, Cleaning}
use Rattle.dali_att.specs.Table.{with_state, without_last}
use Rattle.dali_region.specs.State.{RegionState}
use Rattle.dali_runs.specs.State.{SystemState, VaultState, CoreState, state_of, state_in}
use Rattle.dali_runs.specs.Run.{Bases}
use Rattle.dali_runs.specs.Passes.{Audits}
use Rattle.dali_runs.specs.Regions.{RegionStep, Latch, NoteReads, Update, TakeBack, Poke, Check, Die, Clean, region_after, is_alive}
use Rattle.dali_runs.specs.Courses.{Step, TakesBack, Ends, OnRegion, Claims, GivesBack, Recovers, Moment, IsStepAt, IsStep, IsCourse}
use Rattle.dali_runs.proofs.Touching.{join}
use Rattle.dali_calls.specs.Others.{is_apart_on, is_apart}
use Rattle.dali_calls.specs.Operating.{IsOwn, Goes}
use Rattle.dali_calls.proofs.Rows.{row_apart}
use Rattle.dali_calls.proofs.Operating.{steps_on}
use Rattle.dali_clean.specs.Steps.{is_own_change, AreBack, recovers, IsClaim, IsCleanUp, is_own_step, OwnSteps, AreBeside}
use Rattle.dali_clean.specs.Cleaned.{moment, InRun, Led, LeadsBy, LeadsOn}
use Rattle.dali_clean.proofs.Lists.{append_twice}
use Rattle.dali_clean.proofs.Courses.{one, in_run_on}

-- ---- one taking back behind another
pub join_back : (t : ℕ) (xs ys : List Step) → AreBack t xs → AreBack t ys → AreBack t (xs ++ ys)
join_back t [] ys p q = q
join_back t (OnRegion r x ∷ xs) ys p q = (p.0, join_back t xs ys p.1 q)
join_back t (TakesBack u b ∷ xs) ys p q = (p.0, join_back t xs ys p.1 q)
join_back t (Claims u ∷ Recovers r ∷ GivesBack v o ∷ xs) ys p q = (p.0, p.1, p.2, join_back t xs ys p.3 q)
join_back t (Recovers r ∷ xs) ys p q = join_back t xs ys p q
join_back t (x ∷ xs) ys p q = absurd p

recovered_back : (t : ℕ) (latched : Option ℕ) → AreBack t (recovers latched)
recovered_back t None = tt
recovered_back t (Some r) = tt

-- what its client left open, and the undos
all_back : (y : SystemState) (t : ℕ) (x : Step) (xs : List Step) → IsCleanUp y t x xs → (back : List Step) × (xs ≡ Claims t ∷ (back ++ x ∷ [])) × AreBack t back
all_back y t x xs is = (
  recovers is.latched ++ is.back,
  is.is ∙ ap (λ l. Claims t ∷ l) (append_twice (recovers is.latched) is.back (x ∷ [])),
  join_back t (recovers is.latched) is.back (recovered_back t is.latched) is.undone,
)

-- ---- each is its own

back_own : (t : ℕ) (x : Step) (xs : List Step) → AreBack t xs → is_own_step t x ≡ true → list_all (is_own_step t) (xs ++ x ∷ []) ≡ true
back_own t x [] p own = and_from (is_own_step t x) true own refl
back_own t x (OnRegion r c ∷ xs) p own = and_from (is_own_change t c) _ p.0 (back_own t x xs p.1 own)
back_own t x (TakesBack u b ∷ xs) p own = and_from (u == t) _ (eq-eqb u t p.0) (back_own t x xs p.1 own)
back_own t x (Claims u ∷ Recovers r ∷ GivesBack v o ∷ xs) p own = back_own t x xs p.3 own
back_own t x (Recovers r ∷ xs) p own = back_own t x xs p own
back_own t x (y ∷ xs) p own = absurd p

pub own_steps : OwnSteps
own_steps y t x xs is own = let all = all_back y t x xs is in subst (λ ys. list_all (is_own_step t) ys ≡ true) (sym all.1) (back_own t x all.0 all.2 own)

-- ---- and apart from who is alive

pub apart_change : (t u : ℕ) (c : RegionStep) → (t == u) ≡ false → is_own_change t c ≡ true → is_apart_on u c ≡ true
apart_change t u (Latch v) apart own = let same : v ≡ t = (Decides-eqb v t).0 own in not_from_false (v == u) (ap (λ (n : ℕ). n == u) same ∙ apart)
apart_change t u _ apart own = refl

-- who is dead isn't who is alive
pub dead_apart : (y : SystemState) (v u : ℕ) (o : Option ℕ) → state_of y v ≡ Some (Dead o) → is_alive (state_of y u) ≡ true → (v == u) ≡ false
dead_apart y v u o dead alive = by_test (v == u) refl
  where
    by_test : (b : Bool) → (v == u) ≡ b → (v == u) ≡ false
    by_test true e =
        let same : v ≡ u = (Decides-eqb v u).0 e in
        let gone : is_alive (state_of y u) ≡ false = ap (λ (n : ℕ). is_alive (state_of y n)) (sym same) ∙ ap is_alive dead in
        cc
    by_test false e = e

-- what a step leaves to the state of u
module _ (u : ℕ) (L M : List Record) (c d : CoreState) where
  pub region_leaves : (r : ℕ) (x : RegionStep) → IsStep L c (OnRegion r x) M d → state_of d.system u ≡ state_of c.system u
  region_leaves r x s = ap (λ (k : CoreState). state_of k.system u) s.3.1

  pub recover_leaves : (r : ℕ) → IsStep L c (Recovers r) M d → state_of d.system u ≡ state_of c.system u
  recover_leaves r s = ap (λ (k : CoreState). state_of k.system u) s.3.1

  pub back_leaves : (v : ℕ) (b : Block) → (v == u) ≡ false → IsStep L c (TakesBack v b) M d → state_of d.system u ≡ state_of c.system u
  back_leaves v b apart s = ap (λ (k : CoreState). state_of k.system u) s.2.1 ∙ ap state_in (row_apart c.system.table v u without_last apart)

  pub claim_leaves : (v : ℕ) → (v == u) ≡ false → IsStep L c (Claims v) M d → state_of d.system u ≡ state_of c.system u
  claim_leaves v apart s = ap (λ (k : CoreState). state_of k.system u) s.2.1 ∙ ap state_in (row_apart c.system.table v u (with_state (Cleaning s.0)) apart)

  pub give_leaves : (v : ℕ) (o : Option ℕ) → (v == u) ≡ false → IsStep L c (GivesBack v o) M d → state_of d.system u ≡ state_of c.system u
  give_leaves v o apart s = ap (λ (k : CoreState). state_of k.system u) s.1.1 ∙ ap state_in (row_apart c.system.table v u (with_state (Dead o)) apart)

-- who is alive isn't the dead one that is claimed, recovered and given back, and stays alive
pub apart_recovery : (u v w r : ℕ) (o : Option ℕ) (m m1 m2 m3 : Moment) → is_alive (state_of m.core.system u) ≡ true → w ≡ v
    → IsStep m.log m.core (Claims v) m1.log m1.core → IsStep m1.log m1.core (Recovers r) m2.log m2.core → IsStep m2.log m2.core (GivesBack w o) m3.log m3.core
    → ((v == u) ≡ false) × ((w == u) ≡ false) × (is_alive (state_of m3.core.system u) ≡ true)
apart_recovery u v w r o m m1 m2 m3 alive same claim recovery gift =
    let other : (v == u) ≡ false = dead_apart m.core.system v u claim.0 claim.1 alive in
    let other2 : (w == u) ≡ false = ap (λ (k : ℕ). k == u) same ∙ other in
    let alive1 = ap is_alive (claim_leaves u m.log m1.log m.core m1.core v other claim) ∙ alive in
    let alive2 = ap is_alive (recover_leaves u m1.log m2.log m1.core m2.core r recovery) ∙ alive1 in
    (other, other2, ap is_alive (give_leaves u m2.log m3.log m2.core m3.core w o other2 gift) ∙ alive2)

back_apart : (t u : ℕ) (x : Step) (m n : Moment) (xs : List Step) → (t == u) ≡ false → is_apart u x ≡ true → is_alive (state_of m.core.system u) ≡ true → AreBack t xs → IsCourse m (xs ++ x ∷ []) n
    → list_all (is_apart u) (xs ++ x ∷ []) ≡ true
back_apart t u x m n [] apart last alive p course = and_from (is_apart u x) true last refl
back_apart t u x m n (OnRegion r c ∷ xs) apart last alive p course =
    and_from (is_apart_on u c) _ (apart_change t u c apart p.0)
    (back_apart t u x course.0 n xs apart last (ap is_alive (region_leaves u m.log course.0.log m.core course.0.core r c course.1.0) ∙ alive) p.1 course.2)
back_apart t u x m n (TakesBack v b ∷ xs) apart last alive p course =
    let other : (v == u) ≡ false = ap (λ (k : ℕ). k == u) p.0 ∙ apart in
    and_from (not (v == u)) _ (not_from_false (v == u) other)
    (back_apart t u x course.0 n xs apart last (ap is_alive (back_leaves u m.log course.0.log m.core course.0.core v b other course.1.0) ∙ alive) p.1 course.2)
back_apart t u x m n (Claims v ∷ Recovers r ∷ GivesBack w o ∷ xs) apart last alive p course =
    let a = apart_recovery u v w r o m course.0 course.2.0 course.2.2.0 alive p.1 course.1.0 course.2.1.0 course.2.2.1.0 in
    and_from (not (v == u)) _ (not_from_false (v == u) a.0) (and_from (not (w == u)) _ (not_from_false (w == u) a.1) (back_apart t u x course.2.2.0 n xs apart last a.2 p.3 course.2.2.2))
back_apart t u x m n (Recovers r ∷ xs) apart last alive p course =
    back_apart t u x course.0 n xs apart last (ap is_alive (recover_leaves u m.log course.0.log m.core course.0.core r course.1.0) ∙ alive) p course.2
back_apart t u x m n (y ∷ xs) apart last alive p course = absurd p

pub are_beside : (y : SystemState) (t : ℕ) (x : Step) (m n : Moment) (xs : List Step) → ((u : ℕ) → (t == u) ≡ false → is_apart u x ≡ true) → IsCleanUp y t x xs → IsCourse m xs n → AreBeside t m.core.system xs
are_beside y t x m n xs last is course u apart alive =
    subst (λ ys. list_all (is_apart u) ys ≡ true) (sym behind.1)
    (and_from (not (t == u)) _ (not_from_false (t == u) apart)
    (back_apart t u x all.0 n behind.0 apart (last u apart) (ap is_alive (claim_leaves u m.log all.0.log m.core all.0.core t apart all.1.0) ∙ alive) behind.2 all.2))
  where
    behind : (back : List Step) × (xs ≡ Claims t ∷ (back ++ x ∷ [])) × AreBack t back
    behind = all_back y t x xs is

    all : IsCourse m (Claims t ∷ (behind.0 ++ x ∷ [])) n
    all = subst (λ ys. IsCourse m ys n) behind.1 course

pub end_is_apart : (t u : ℕ) → (t == u) ≡ false → is_apart u (Ends t) ≡ true
end_is_apart t u apart = not_from_false (t == u) apart

pub gift_is_apart : (t u : ℕ) → (t == u) ≡ false → is_apart u (GivesBack t None) ≡ true
gift_is_apart t u apart = not_from_false (t == u) apart

-- ---- lists of steps that lead on
pub change_back : (t : ℕ) (x : RegionStep) (g : RegionState) → IsOwn t x g → is_own_change t x ≡ true
change_back t (Latch u) g o = (Decides-eqb u t).1 o
change_back t (NoteReads mask) g o = refl
change_back t (Update word value) g o = refl
change_back t TakeBack g o = refl
change_back t (Poke word mask) g o = absurd o
change_back t Check g o = absurd o
change_back t Die g o = absurd o
change_back t (Clean side) g o = absurd o

pub region_back : (t r : ℕ) (g h : RegionState) (xs : List RegionStep) → Goes t g xs h → AreBack t (steps_on r xs)
region_back t r g h [] go = tt
region_back t r g h (x ∷ xs) go = (change_back t x g go.1, region_back t r (region_after x g) h xs go.2)

pub leads_further : (rs rs' rs'' : List RegionState) (y y' y'' : SystemState) (t : ℕ) → LeadsOn rs y t rs' y' → LeadsOn rs' y' t rs'' y'' → LeadsOn rs y t rs'' y''
leads_further rs rs' rs'' y y' y'' t p q bases before L v a is =
    let first = p bases before L v a is in
    let mid = moment rs' y' first.log v a in
    let next = q bases before first.log v a (in_run_on bases before (moment rs y L v a) mid first.steps is first.course) in
    record {
      log = next.log;
      steps = first.steps ++ next.steps;
      are = join_back t first.steps next.steps first.are next.are;
      course = join (moment rs y L v a) mid (moment rs'' y'' next.log v a) first.steps next.steps first.course next.course;
    }

pub stays : (rs : List RegionState) (y : SystemState) (t : ℕ) → LeadsOn rs y t rs y
stays rs y t bases before L v a is = record { log = L; steps = []; are = tt; course = refl }

-- the claim, what is taken back behind it, and the last step
claimed_first : (y : SystemState) (t : ℕ) (x : Step) (xs ys : List Step) → IsClaim y t xs → AreBack t ys → IsCleanUp y t x (xs ++ (ys ++ x ∷ []))
claimed_first y t x xs ys claim back = record { latched = claim.0; was = claim.1; back = ys; is = ap (λ l. l ++ (ys ++ x ∷ [])) claim.2; undone = back }

-- a whole clean-up, by its last step
pub record Cleaned (f : List Record → List Record) (bases : Bases) (before : List Record) (m : Moment) (t : ℕ) (x : Step) (rs : List RegionState) (z : SystemState) : Type 0 where
  pub log : List Record
  pub steps : List Step
  pub by : IsCleanUp m.core.system t x steps
  pub beside : AreBeside t m.core.system steps
  pub course : IsCourse m steps (moment rs z (f log) m.core.vault m.audits)
  pub there : InRun bases before (moment rs z (f log) m.core.vault m.audits)

pub cleaned_by : (f : List Record → List Record) (bases : Bases) (before L : List Record) (v : VaultState) (a : Audits) (rs rs1 rs' : List RegionState) (y y1 y2 z : SystemState) (t : ℕ) (x : Step)
    → InRun bases before (moment rs y L v a) → LeadsBy (IsClaim y t) rs y rs1 y1 → LeadsOn rs1 y1 t rs' y2 → ((u : ℕ) → (t == u) ≡ false → is_apart u x ≡ true)
    → ((K : List Record) → InRun bases before (moment rs' y2 K v a) → IsStepAt (moment rs' y2 K v a) x (moment rs' z (f K) v a)) → Cleaned f bases before (moment rs y L v a) t x rs' z
cleaned_by f bases before L v a rs rs1 rs' y y1 y2 z t x run claim rest apart end = record {
  log = led.log;
  steps = steps;
  by = by;
  beside = are_beside y t x m n steps apart by course;
  course = course;
  there = in_run_on bases before m n steps run course;
}
  where
    m : Moment
    m = moment rs y L v a

    first : Led (IsClaim y t) m rs1 y1
    first = claim bases before L v a run

    m1 : Moment
    m1 = moment rs1 y1 first.log v a

    run1 : InRun bases before m1
    run1 = in_run_on bases before m m1 first.steps run first.course

    led : Led (AreBack t) m1 rs' y2
    led = rest bases before first.log v a run1

    m2 : Moment
    m2 = moment rs' y2 led.log v a

    n : Moment
    n = moment rs' z (f led.log) v a

    steps : List Step
    steps = first.steps ++ (led.steps ++ x ∷ [])

    by : IsCleanUp y t x steps
    by = claimed_first y t x first.steps led.steps first.are led.are

    last : IsCourse m2 (x ∷ []) n
    last = one m2 n x (end led.log (in_run_on bases before m1 m2 led.steps run1 led.course))

    course : IsCourse m steps n
    course = join m m1 n first.steps (led.steps ++ x ∷ []) first.course (join m1 m2 n led.steps (x ∷ []) led.course last)
