-- Locks, as the deeds of a history tell them; and what is right of a refusal.
use Rattle.std.proofs.Common.{◌≡◌, ℕ, zero, suc, Bool, true, false, [], ◌∷◌, ◌++◌, List, length, Option, Some, None, refl, ap, sym, subst, ◌∙◌, ◌⊎◌, inl, inr, arith}
use Rattle.std.specs.Prelude.{IsSome, fold, ◌==◌, ◌&&◌, if◌then◌else◌}
use Rattle.std.specs.List.{list_any}
use Rattle.std.proofs.lemmas.Bool.{eqb-true, and_parts}
use Rattle.dali_record.specs.declared.records.Record.{Record}
use Rattle.dali_record.specs.declared.records.Record.TheVariants.{Ended}
use Rattle.dali_locks.specs.declared.mode.Mode.{Mode}
use Rattle.dali_locks.specs.Locks.{stronger_mode}
use Rattle.dali_locks.proofs.Changes.{get-locks_with}
use Rattle.dali_locks.proofs.Kept.{locks_without_at}
use Rattle.dali_runs.specs.declared.causes.Cause.{Cause}
use Rattle.dali_runs.specs.declared.refusals.Refusal.{Refusal}
use Rattle.dali_runs.specs.State.{TxnRow, SystemState, CoreState, state_in, row_of, state_of, lock_of}
use Rattle.dali_runs.specs.Run.{Bases, RunsOn, no_image}
use Rattle.dali_runs.specs.Steps.{refused}
use Rattle.dali_runs.specs.Courses.{Step, Ends, Locks, IsStep}
use Rattle.dali_runs.specs.Parts.Systems.{changes_lock}
use Rattle.dali_runs.proofs.PartsLemmas.Systems.{step_has_system, system_leaves}
use Rattle.dali_runs.proofs.CountsLemmas.Tallies.{tallies}
use Rattle.dali_crash.specs.Checkpoints.{StoreStep, Does, Keeps, Copies, Skips, Turns, CopyFails, TurnFails, Point, IsPointStep, IsPointCourse}
use Rattle.dali_crash.specs.StoreRuns.{StoreRun}
use Rattle.dali_crash.proofs.StoreRuns.{bare_store_course_keeps}
use Rattle.dali_transcripts.specs.World.{Deed, Logs, GetsLock, Yields, FindsDead, Happening, World, HasGot, lock_step, lock_after, claimer_step, state_step, is_dead_in, is_claimed_in, log_at, logged_by, IsNoWeaker}
use Rattle.dali_transcripts.specs.Rounds.{by}
use Rattle.dali_transcripts.specs.Causes.{IsAnothers}
use Rattle.dali_transcripts.specs.Telling.Deeds.{refusal_at}
use Rattle.dali_transcripts.specs.Telling.Tells.{after}
use Rattle.dali_concurrent.specs.Entries.{Entry, Did, deeds_of}
use Rattle.dali_concurrent.specs.Rules.{Outset, log_by, state_by}
use Rattle.dali_concurrent.specs.Told.{Effect, OnSystem, effect_on, Line, History, plain, core_told, world_told}
use Rattle.dali_concurrent.specs.Landing.{BeginsAt, Stands}
use Rattle.dali_concurrent.specs.Kept.{is_grant, Follows, AllFollow}
use Rattle.dali_concurrent.specs.Holds.{IsLed}
use Rattle.dali_concurrent.specs.Locking.{lock_by, LocksAreTold, YieldsRight, FindsDeadRight}
use Rattle.dali_concurrent.proofs.Lists.{by_fronts}
use Rattle.dali_concurrent.proofs.Entries.{neither, deeds_push}
use Rattle.dali_concurrent.proofs.Told.{plain-append}
use Rattle.dali_concurrent.proofs.Landing.{onward, told_is_whole, way_grows}
use Rattle.dali_concurrent.proofs.Sorts.{front, runs_then, state_then}
use Rattle.dali_concurrent.proofs.Steps.{no_grant}
use Rattle.dali_concurrent.proofs.Kept.{stands_of}
use Rattle.dali_concurrent.proofs.Holds.{runs_there}

-- ---- steps that grant none
module _ (bases : Bases) (made : List Record) (t k : ℕ) (m : Mode) where
  abbrev Has : Point → Type 0
  Has p = lock_of p.core.system t k ≡ Some m

  same_system : (p q : Point) → lock_of q.core.system t k ≡ lock_of p.core.system t k → Has q → Has p
  same_system p q e has = sym e ∙ has

  left_by : (p q : Point) (x : Step) → StoreRun bases made no_image p → IsStep p.log p.core x q.log q.core → changes_lock x t k ≡ false → Has q → Has p
  left_by p q x run step none has =
      let runs : RunsOn bases p.log p.core = subst (λ L. RunsOn bases L p.core) (sym run.run.log) run.run.run.runs in
      same_system p q ((system_leaves p.log q.log p.core.system q.core.system x (step_has_system bases p.log q.log p.core q.core x runs step)).locks t k none) has

  does : (p q : Point) (x : Step) → StoreRun bases made no_image p → IsStep p.log p.core x q.log q.core → is_grant (Does x) ≡ false → Has q → Has p
  does p q (Locks u j n) run step none has = absurd (cc)
  does p q (Ends u) run step none has = by_test (u == t) (sym (locks_without_at p.core.system.locks u t k) ∙ (ap (λ (c : CoreState). lock_of c.system t k) (sym step.2.1) ∙ has))
    where
      by_test : (b : Bool) → (if b then None else lock_of p.core.system t k) ≡ Some m → Has p
      by_test true e = absurd (cc)
      by_test false e = e
  does p q x run step none has = left_by p q x run step refl has

  step_had : (p q : Point) (x : StoreStep) → StoreRun bases made no_image p → IsPointStep p x q → is_grant x ≡ false → Has q → Has p
  step_had p q (Does x) run step none has = does p q x run step.1.0 none has
  step_had p q Keeps run step none has = same_system p q (ap (λ (z : Point). lock_of z.core.system t k) step.4) has
  step_had p q (Copies r n) run step none has = same_system p q (ap (λ (z : Point). lock_of z.core.system t k) step.5) has
  step_had p q (Skips r n) run step none has = same_system p q (ap (λ (z : Point). lock_of z.core.system t k) step.5) has
  step_had p q Turns run step none has = same_system p q (ap (λ (z : Point). lock_of z.core.system t k) step.5) has
  step_had p q (CopyFails r ws n) run step none has = same_system p q (ap (λ (z : Point). lock_of z.core.system t k) step.4) has
  step_had p q (TurnFails n) run step none has = same_system p q (ap (λ (z : Point). lock_of z.core.system t k) step.5) has
  step_had p q _ run step none has = same_system p q (ap (λ (z : Point). lock_of z.core.system t k) step.1) has

  course_had : (p q : Point) (xs : List StoreStep) → StoreRun bases made no_image p → IsPointCourse p xs q → list_any is_grant xs ≡ false → Has q → Has p
  course_had p q [] run course none has = subst Has (sym course) has
  course_had p q (x ∷ xs) run course none has =
      let both = neither (is_grant x) (list_any is_grant xs) none in
      step_had p course.0 x run course.1 both.0
      (course_had course.0 q xs (bare_store_course_keeps bases made p course.0 (x ∷ []) run (course.0, course.1, refl)) course.2 both.1 has)

-- ---- along the history
-- no stronger, and no weaker
between : (a b : Option Mode) → ((n : Mode) → a ≡ Some n → b ≡ Some n) → IsNoWeaker a b → a ≡ b
between None None had weaker = refl
between (Some n) b had weaker = sym (had n refl)
between None (Some n) had weaker = absurd (cc)

no_row : (row : Option TxnRow) → state_in row ≡ None → IsSome row → ⊥
no_row None e some = absurd (cc)
no_row (Some row) e some = absurd (cc)

module _ (bases : Bases) (p : Point) (o : Outset) (begins : BeginsAt bases p o) (t k : ℕ) where
  abbrev Told : History → Type 0
  Told T = lock_of (core_told o T).system t k ≡ lock_by o (plain T) t k

  module _ (A : History) (ks : List ℕ) (f : Effect) (m to : Point) (at : Stands bases p o A m) (told : Told A) where
    pushed : (x : Entry) (xs : List StoreStep) → lock_by o (plain (A ++ (ks, (x, f, xs)) ∷ [])) t k ≡ fold (lock_step t k) (lock_by o (plain A) t k) (deeds_of ((ks, x) ∷ []))
    pushed x xs = ap (λ P. lock_by o P t k) (plain-append A ((ks, (x, f, xs)) ∷ [])) ∙ deeds_push (lock_step t k) (lock_of o.old.system t k) (plain A) (ks, x)

    here : lock_of m.core.system t k ≡ lock_by o (plain A) t k
    here = ap (λ (c : CoreState). lock_of c.system t k) at.comes.core ∙ told

    quiet : (x : Entry) (xs : List StoreStep) → IsPointCourse m xs to → Stands bases p o (A ++ (ks, (x, f, xs)) ∷ []) to → list_any is_grant xs ≡ false
        → fold (lock_step t k) (lock_by o (plain A) t k) (deeds_of ((ks, x) ∷ [])) ≡ lock_by o (plain A) t k → Told (A ++ (ks, (x, f, xs)) ∷ [])
    quiet x xs course behind none left =
        let e : Line = (ks, (x, f, xs)) in
        between (lock_of (core_told o (A ++ e ∷ [])).system t k) (lock_by o (plain (A ++ e ∷ [])) t k)
        (λ n has. pushed x xs ∙ (left ∙ (sym here ∙ course_had bases o.made t k n m to xs at.run course none (ap (λ (c : CoreState). lock_of c.system t k) behind.comes.core ∙ has))))
        (behind.tells.together.locks t k)

    gone : (c : ℕ) (xs : List StoreStep) (u : ℕ) → Stands bases p o (A ++ (ks, (Did (Logs (Ended u)) c, f, xs)) ∷ []) to → (u == t) ≡ true
        → lock_of (core_told o (A ++ (ks, (Did (Logs (Ended u)) c, f, xs)) ∷ [])).system t k ≡ None
    gone c xs u behind is = by_lock (lock_of y t k) refl
      where
        e : Line
        e = (ks, (Did (Logs (Ended u)) c, f, xs))

        y : SystemState
        y = (core_told o (A ++ e ∷ [])).system

        state : state_of y t ≡ None
        state =
            behind.tells.together.states t
            ∙ (ap (λ P. state_by o P t) (plain-append A (e ∷ []))
            ∙ (deeds_push (state_step t) (state_of o.old.system t) (plain A) (ks, Did (Logs (Ended u)) c) ∙ ap (λ b. if b then None else state_by o (plain A) t) is))

        by_lock : (q : Option Mode) → lock_of y t k ≡ q → q ≡ None
        by_lock None has = refl
        by_lock (Some n) has = absurd (no_row (row_of y t) state ((told_is_whole bases p o (A ++ e ∷ []) to begins behind).1.locks.owned t k n has))

    one : (x : Entry) (xs : List StoreStep) → Follows bases p o A (ks, (x, f, xs)) → IsPointCourse m xs to → Stands bases p o (A ++ (ks, (x, f, xs)) ∷ []) to → Told (A ++ (ks, (x, f, xs)) ∷ [])
    one (Did (GetsLock u j n) c) xs follows course behind =
        ap (λ (c : CoreState). lock_of c.system t k) (sym behind.comes.core)
        ∙ (ap (λ (z : Point). lock_of z.core.system t k) (sym single.2)
        ∙ (ap (λ (c : CoreState). lock_of c.system t k) single.1.1.0.2.1
        ∙ (get-locks_with m.core.system.locks u j n t k
        ∙ (ap (λ q. if (u == t) && (j == k) then Some (stronger_mode q n) else q) here ∙ sym (pushed (Did (GetsLock u j n) c) xs)))))
      where
        single : IsPointCourse m (Does (Locks u j n) ∷ []) to
        single = subst (λ ys. IsPointCourse m ys to) follows.steps course
    one (Did (Logs (Ended u)) c) xs follows course behind = by_test (u == t) refl
      where
        by_test : (b : Bool) → (u == t) ≡ b → Told (A ++ (ks, (Did (Logs (Ended u)) c, f, xs)) ∷ [])
        by_test true is = gone c xs u behind is ∙ sym (pushed (Did (Logs (Ended u)) c) xs ∙ ap (λ b. if b then None else lock_by o (plain A) t k) is)
        by_test false is = quiet (Did (Logs (Ended u)) c) xs course behind (no_grant (Did (Logs (Ended u)) c) xs refl follows.steps) (ap (λ b. if b then None else lock_by o (plain A) t k) is)
    one x xs follows course behind = quiet x xs course behind (no_grant x xs refl follows.steps) refl

  step : (A : History) (e : Line) → AllFollow bases p o A → Follows bases p o A e → Told A → Told (A ++ e ∷ [])
  step A e all follows told =
      let at = stands_of bases p o A begins all in
      let l = follows.lands at.0 at.1 in
      one A e.0 e.1.1 at.0 l.0 at.1 told e.1.0 e.1.2 follows l.1.course (onward bases p o A e at.0 l.0 at.1 l.1)

  told_there : (T : History) → AllFollow bases p o T → Told T
  told_there T all = by_fronts (Follows bases p o) Told refl step T all

pub locks_are_told : LocksAreTold
locks_are_told bases p o T t k led = told_there bases p o led.begins t k T led.all

-- ---- whose lock it is
abbrev IsGot : List Happening → ℕ → ℕ → Type 0
IsGot xs t k = (d : ℕ) × (n : Mode) × HasGot xs d t k n

same_grant : (u j t k : ℕ) (n : Mode) (d : ℕ) → u ≡ t → j ≡ k → ◌≡◌ {A = Happening} (GetsLock u j n, d) (GetsLock t k n, d)
same_grant u j t k n d e f =
    subst (λ z. ◌≡◌ {A = Happening} (GetsLock u j n, d) (GetsLock z k n, d)) e (subst (λ z. ◌≡◌ {A = Happening} (GetsLock u j n, d) (GetsLock u z n, d)) f refl)

had_or_got : (t k : ℕ) (xs : List Happening) (q : Option Mode) → IsSome (fold (lock_step t k) q xs) → IsSome q ⊎ IsGot xs t k
had_or_got t k [] q some = inl some
had_or_got t k (x ∷ xs) q some = by_rest (had_or_got t k xs (lock_step t k q x) some)
  where
    one : (x : Happening) → IsSome (lock_step t k q x) → IsSome q ⊎ ((d : ℕ) × (n : Mode) × (x ≡ (GetsLock t k n, d)))
    one (GetsLock u j n, d) h = by_test ((u == t) && (j == k)) refl h
      where
        by_test : (b : Bool) → ((u == t) && (j == k)) ≡ b → IsSome (if b then Some (stronger_mode q n) else q) → IsSome q ⊎ ((e : ℕ) × (v : Mode) × (◌≡◌ {A = Happening} (GetsLock u j n, d) (GetsLock t k v, e)))
        by_test true is e = let both = and_parts (u == t) (j == k) is in inr (d, n, same_grant u j t k n d (eqb-true u t both.0) (eqb-true j k both.1))
        by_test false is e = inl e
    one (Logs (Ended u), d) h = by_test (u == t) h
      where
        by_test : (b : Bool) → IsSome (if b then None else q) → IsSome q ⊎ ((e : ℕ) × (n : Mode) × (◌≡◌ {A = Happening} (Logs (Ended u), d) (GetsLock t k n, e)))
        by_test true e = absurd (cc)
        by_test false e = inl e
    one x h = inl h

    by_rest : IsSome (lock_step t k q x) ⊎ IsGot xs t k → IsSome q ⊎ IsGot (x ∷ xs) t k
    by_rest (inr (d, n, (i, low, there))) = inr (d, n, (suc i, omega (arith, low), there))
    by_rest (inl h) = by_one (one x h)
      where
        by_one : IsSome q ⊎ ((d : ℕ) × (n : Mode) × (x ≡ (GetsLock t k n, d))) → IsSome q ⊎ IsGot (x ∷ xs) t k
        by_one (inl h) = inl h
        by_one (inr (d, n, e)) = inr (d, n, (zero, omega arith, e))

is_there : {X : Type 0} (q : Option X) → IsSome q → (x : X) × (q ≡ Some x)
is_there None e = absurd (cc)
is_there (Some x) e = (x, refl)

-- ---- where the system in hand refuses
module _ (bases : Bases) (p : Point) (o : Outset) (T : History) (q : Point) (led : IsLed bases p o T) (at : Stands bases p o T q) where
  abbrev w : World
  w = world_told o T

  counted : (core_told o T).system.records ≡ length (log_by o (plain T))
  counted =
      let run : RunsOn bases (log_by o (plain T)) (core_told o T) = runs_there bases p o T led in
      run.counts.records ∙ (tallies (core_told o T).system.sizes (log_by o (plain T)) run.counts.now run.counts.rules).0

  numbered : (c : ℕ) (d : Deed) (to : CoreState) → (core_told o T).system.records ≡ length (log_at (after w c (d ∷ []) to) (length w.happened))
  numbered c d to = counted ∙ ap (λ xs. length (w.before ++ logged_by xs)) (sym (front w (by c (d ∷ []))))

  -- the engine ran at the start
  ran : (core_told o T).system.stop ≡ None → o.old.system.stop ≡ None
  ran runs = by_stop o.old.system.stop refl
    where
      by_stop : (s : Option Cause) → o.old.system.stop ≡ s → s ≡ None
      by_stop None e = refl
      by_stop (Some s) e = let f : Some s ≡ None = sym ((way_grows o [] p T q at.way).stopped s e) ∙ runs in absurd (cc)

  was_dead : (h k : ℕ) → (core_told o T).system.stop ≡ None → IsSome (lock_of o.old.system h k) → is_dead_in (state_of o.old.system h) ≡ true
  was_dead h k runs some =
      let begins : BeginsAt bases p o = led.begins in
      let n = is_there (lock_of o.old.system h k) some in
      let row : IsSome (row_of p.core.system h) = begins.run.run.run.runs.locks.owned h k n.0 (ap (λ (c : CoreState). lock_of c.system h k) begins.core ∙ n.1) in
      ap (λ (c : CoreState). is_dead_in (state_of c.system h)) (sym begins.core)
      ∙ begins.between.idle (ap (λ (c : CoreState). c.system.stop) begins.core ∙ ran runs) h row

  anothers : (c h k : ℕ) (n : Mode) (ds : List Deed) (to : CoreState) → (core_told o T).system.stop ≡ None → lock_of (core_told o T).system h k ≡ Some n
      → ((n : Mode) → HasGot (deeds_of (plain T)) c h k n → ⊥) → IsAnothers (after w c ds to) c (length w.happened) h k
  anothers c h k n ds to runs has own =
      by_source (had_or_got h k (deeds_of (plain T)) (lock_of o.old.system h k) (subst IsSome (sym has ∙ locks_are_told bases p o T h k led) refl))
    where
      by_source : IsSome (lock_of o.old.system h k) ⊎ IsGot (deeds_of (plain T)) h k → IsAnothers (after w c ds to) c (length w.happened) h k
      by_source (inl had) = inl (was_dead h k runs had)
      by_source (inr (d, n, got)) = by_test (d == c) refl
        where
          by_test : (b : Bool) → (d == c) ≡ b → IsAnothers (after w c ds to) c (length w.happened) h k
          by_test true is = absurd (own n (subst (λ z. HasGot (deeds_of (plain T)) z h k n) (eqb-true d c is) got))
          by_test false is = inr (d, n, is, subst (λ xs. HasGot xs d h k n) (sym (front w (by c ds))) got)

pub yields_right : YieldsRight
yields_right bases p o T c t k h m y led is busy runs alive own unclaimed q at = (
  (
    ap (λ (z : SystemState). z.records) is ∙ numbered bases p o T q led at c (Yields f) to,
    ap is_dead_in (state_then bases p o T q c (Yields f ∷ []) to h at ∙ state_is) ∙ alive,
    runs_then bases p o T q c (Yields f ∷ []) to at runs_told,
    record {
      mode = busy.0.conflict.mode;
      holds = ap (λ xs. lock_after (world_told o T) xs h k) (front (world_told o T) (by c (Yields f ∷ []))) ∙ (sym (locks_are_told bases p o T h k led) ∙ has);
      clash = busy.0.conflict.clash;
      by_another = anothers bases p o T q led at c h k busy.0.conflict.mode (Yields f ∷ []) to runs_told has own;
      unclaimed = λ by_it. ap is_claimed_in (state_then bases p o T q c (Yields f ∷ []) to h at ∙ state_is)
          ∙ unclaimed (ap (λ xs. fold (claimer_step h) None xs) (sym (front (world_told o T) (by c (Yields f ∷ [])))) ∙ by_it);
    },
  ),
  tt,
)
  where
    f : Refusal
    f = refusal_at y t k m h

    to : CoreState
    to = effect_on (core_told o T) (OnSystem (refused y t k m h))

    state_is : state_of (core_told o T).system h ≡ state_of y h
    state_is = ap (λ (z : SystemState). state_of z h) (sym is)

    runs_told : (core_told o T).system.stop ≡ None
    runs_told = ap (λ (z : SystemState). z.stop) (sym is) ∙ runs

    has : lock_of (core_told o T).system h k ≡ Some busy.0.conflict.mode
    has = ap (λ (z : SystemState). lock_of z h k) (sym is) ∙ busy.0.conflict.holds

pub finds_dead_right : FindsDeadRight
finds_dead_right bases p o T c t k h m y led is runs dead q at = (
  (
    ap (λ (z : SystemState). z.records) is ∙ numbered bases p o T q led at c (FindsDead (refusal_at y t k m h)) to,
    ap is_dead_in (state_then bases p o T q c (FindsDead (refusal_at y t k m h) ∷ []) to h at ∙ ap (λ (z : SystemState). state_of z h) (sym is)) ∙ dead,
    runs_then bases p o T q c (FindsDead (refusal_at y t k m h) ∷ []) to at (ap (λ (z : SystemState). z.stop) (sym is) ∙ runs),
  ),
  tt,
)
  where
    to : CoreState
    to = effect_on (core_told o T) (OnSystem (refused y t k m h))
