-- Steps that end a transaction, one behind another, what they keep, and whose they are.
use Rattle.std.proofs.Common.{◌≡◌, ℕ, Bool, true, false, not, ◌&&◌, List, [], ◌∷◌, ◌++◌, Option, Some, None, refl, ap, sym, subst, ◌∙◌}
use Rattle.std.specs.Prelude.{◌==◌}
use Rattle.std.specs.List.{list_all}
use Rattle.std.proofs.lemmas.List.{append-nil, append_assoc}
use Rattle.dali_record.specs.declared.operations.Block.{Block}
use Rattle.dali_record.specs.declared.operations.Undo.{Undo}
use Rattle.dali_record.specs.declared.records.Record.{Record}
use Rattle.dali_record.specs.Blocks.{pending}
use Rattle.dali_region.specs.State.{RegionState}
use Rattle.dali_att.specs.Table.{with_undo}
use Rattle.std.specs.FinMap as map
use Rattle.std.proofs.lemmas.Bool.{and_parts, and_from, not_from_false}
use Rattle.dali_lists.proofs.Members.{all_weaker, all_append as all_both}
use Rattle.dali_runs.specs.State.{SystemState, VaultState, CoreState, state_of, state_in}
use Rattle.dali_runs.specs.Steps.{undo_kept}
use Rattle.dali_runs.specs.Run.{Bases}
use Rattle.dali_runs.specs.Regions.{RegionStep, Latch, NoteReads, Update, TakeBack, is_alive}
use Rattle.dali_runs.specs.Passes.{Audits}
use Rattle.dali_runs.specs.Courses.{Step, Operates, TakesBack, Frees, Ends, Locks, OnRegion, Claims, GivesBack, Recovers, Moment, IsStep, IsCourse}
use Rattle.dali_runs.proofs.Touching.{join}
use Rattle.dali_core.specs.Steps.Courses.{is_quiet}
use Rattle.dali_calls.specs.Others.{is_apart, is_apart_on}
use Rattle.dali_calls.proofs.Rows.{row_apart}
use Rattle.dali_clean.specs.Cleaned.{moment, AreDead, InRun}
use Rattle.dali_clean.specs.Steps.{is_own_change, AreBeside}
use Rattle.dali_clean.proofs.Lists.{append_twice}
use Rattle.dali_clean.proofs.Courses.{in_run_on}
use Rattle.dali_clean.proofs.Steps.{apart_change, apart_recovery, region_leaves, recover_leaves, back_leaves}
use Rattle.dali_transactions.specs.Ended.{AreOfEnd, ends_of, Walked, Walks}

-- ---- lists

pub all_append : (p : Step → Bool) (xs ys : List Step) → list_all p xs ≡ true → list_all p ys ≡ true → list_all p (xs ++ ys) ≡ true
all_append p [] ys a b = b
all_append p (x ∷ xs) ys a b = let both = and_parts (p x) (list_all p xs) a in ap (λ c. c && list_all p (xs ++ ys)) both.0 ∙ all_append p xs ys both.1 b

-- ---- which steps they are
abbrev pub is_change : RegionStep → Bool
is_change (Latch t) = true
is_change (NoteReads mask) = true
is_change (Update word value) = true
is_change TakeBack = true
is_change x = false

-- one of an operation, an end, or one that takes back what a dead client left open
abbrev pub is_of_end : Step → Bool
is_of_end (Operates t b) = true
is_of_end (TakesBack t b) = true
is_of_end (Frees t b) = true
is_of_end (Ends t) = true
is_of_end (Locks t k m) = true
is_of_end (OnRegion r x) = is_change x
is_of_end (Claims t) = true
is_of_end (GivesBack t o) = true
is_of_end (Recovers r) = true
is_of_end x = false

pub own_change : (t : ℕ) (x : RegionStep) → is_own_change t x ≡ true → is_change x ≡ true
own_change t (Latch u) e = refl
own_change t (NoteReads mask) e = refl
own_change t (Update word value) e = refl
own_change t TakeBack e = refl
own_change t x e = absurd cc

pub front_of_end : (t : ℕ) (xs : List Step) → AreOfEnd t xs → list_all is_of_end xs ≡ true
front_of_end t [] p = refl
front_of_end t (OnRegion r x ∷ xs) p = and_from (is_change x) _ (own_change t x p.0) (front_of_end t xs p.1)
front_of_end t (Operates u b ∷ xs) p = front_of_end t xs p.1
front_of_end t (TakesBack u b ∷ xs) p = front_of_end t xs p.1
front_of_end t (Frees u b ∷ xs) p = front_of_end t xs p.1
front_of_end t (Locks u k m ∷ xs) p = front_of_end t xs p.1
front_of_end t (Claims u ∷ Recovers r ∷ GivesBack v o ∷ xs) p = front_of_end t xs p.3
front_of_end t (Recovers r ∷ xs) p = front_of_end t xs p
front_of_end t (x ∷ xs) p = absurd p

ends_of_end : (t : ℕ) (last : List Record) → list_all is_of_end (ends_of t last) ≡ true
ends_of_end t [] = refl
ends_of_end t (x ∷ xs) = refl

pub all_of_end : (t : ℕ) (last : List Record) (front steps : List Step) → AreOfEnd t front → steps ≡ front ++ ends_of t last → list_all is_of_end steps ≡ true
all_of_end t last front steps by is = ap (list_all is_of_end) is ∙ all_append is_of_end front (ends_of t last) (front_of_end t front by) (ends_of_end t last)

pub walked_of_end : (t : ℕ) (own : Record → Type 0) (last : List Record) (m : Moment) (hs : List RegionState) (z : SystemState) (a : Walked t own last m hs z) → list_all is_of_end a.steps ≡ true
walked_of_end t own last m hs z a = all_of_end t last a.front a.steps a.by a.is

pub join_front : (t : ℕ) (xs ys : List Step) → AreOfEnd t xs → AreOfEnd t ys → AreOfEnd t (xs ++ ys)
join_front t [] ys p q = q
join_front t (OnRegion r x ∷ xs) ys p q = (p.0, join_front t xs ys p.1 q)
join_front t (Operates u b ∷ xs) ys p q = (p.0, join_front t xs ys p.1 q)
join_front t (TakesBack u b ∷ xs) ys p q = (p.0, join_front t xs ys p.1 q)
join_front t (Frees u b ∷ xs) ys p q = (p.0, join_front t xs ys p.1 q)
join_front t (Locks u k m ∷ xs) ys p q = (p.0, join_front t xs ys p.1 q)
join_front t (Claims u ∷ Recovers r ∷ GivesBack v o ∷ xs) ys p q = (p.0, p.1, p.2, join_front t xs ys p.3 q)
join_front t (Recovers r ∷ xs) ys p q = join_front t xs ys p q
join_front t (x ∷ xs) ys p q = absurd p

-- ---- what the steps leave
change_is_quiet : (r : ℕ) (x : RegionStep) → is_change x ≡ true → is_quiet (OnRegion r x) ≡ true
change_is_quiet r (Latch t) e = refl
change_is_quiet r (NoteReads mask) e = refl
change_is_quiet r (Update word value) e = refl
change_is_quiet r TakeBack e = refl
change_is_quiet r x e = absurd cc

quiet_step : (x : Step) → is_of_end x ≡ true → is_quiet x ≡ true
quiet_step (Operates t b) e = refl
quiet_step (TakesBack t b) e = refl
quiet_step (Frees t b) e = refl
quiet_step (Ends t) e = refl
quiet_step (Locks t k m) e = refl
quiet_step (OnRegion r x) e = change_is_quiet r x e
quiet_step (Claims t) e = refl
quiet_step (GivesBack t o) e = refl
quiet_step (Recovers r) e = refl
quiet_step x e = absurd cc

pub quiet_steps : (xs : List Step) → list_all is_of_end xs ≡ true → list_all is_quiet xs ≡ true
quiet_steps [] e = refl
quiet_steps (x ∷ xs) e = let both = and_parts (is_of_end x) (list_all is_of_end xs) e in ap (λ b. b && list_all is_quiet xs) (quiet_step x both.0) ∙ quiet_steps xs both.1

-- the sizes, the stop, what was taken, and the first record
pub record Same (y z : SystemState) : Type 0 where
  pub sizes : z.sizes ≡ y.sizes
  pub stop : z.stop ≡ y.stop
  pub taken : z.taken ≡ y.taken
  pub first : z.first ≡ y.first

same_by : (c d e : CoreState) → d ≡ e → e.system.sizes ≡ c.system.sizes → e.system.stop ≡ c.system.stop → e.system.taken ≡ c.system.taken → e.system.first ≡ c.system.first → Same c.system d.system
same_by c d e is sizes stop taken first = subst (λ (k : CoreState). Same c.system k.system) (sym is) (record { sizes = sizes; stop = stop; taken = taken; first = first })

same_step : (L M : List Record) (c d : CoreState) (x : Step) → is_of_end x ≡ true → IsStep L c x M d → Same c.system d.system
same_step L M c d (Operates t b) e s = same_by c d _ s.3.1 refl refl refl refl
same_step L M c d (TakesBack t b) e s = same_by c d _ s.2.1 refl refl refl refl
same_step L M c d (Frees t b) e s = same_by c d _ s.2.1 refl refl refl refl
same_step L M c d (Ends t) e s = same_by c d _ s.2.1 refl refl refl refl
same_step L M c d (Locks t k m) e s = same_by c d _ s.2.1 refl refl refl refl
same_step L M c d (OnRegion r x) e s = same_by c d _ s.3.1 refl refl refl refl
same_step L M c d (Claims t) e s = same_by c d _ s.2.1 refl refl refl refl
same_step L M c d (GivesBack t o) e s = same_by c d _ s.1.1 refl refl refl refl
same_step L M c d (Recovers r) e s = same_by c d _ s.3.1 refl refl refl refl
same_step L M c d x e s = absurd cc

pub same_course : (m n : Moment) (xs : List Step) → list_all is_of_end xs ≡ true → IsCourse m xs n → Same m.core.system n.core.system
same_course m n [] e course = subst (λ (k : Moment). Same m.core.system k.core.system) course (record { sizes = refl; stop = refl; taken = refl; first = refl })
same_course m n (x ∷ xs) e course =
    let both = and_parts (is_of_end x) (list_all is_of_end xs) e in
    let one = same_step m.log course.0.log m.core course.0.core x both.0 course.1.0 in
    let rest = same_course course.0 n xs both.1 course.2 in
    record { sizes = rest.sizes ∙ one.sizes; stop = rest.stop ∙ one.stop; taken = rest.taken ∙ one.taken; first = rest.first ∙ one.first }

-- ---- whose they are
module _ (u : ℕ) (L M : List Record) (c d : CoreState) where
  operate_leaves : (v : ℕ) (b : Block) → (v == u) ≡ false → IsStep L c (Operates v b) M d → state_of d.system u ≡ state_of c.system u
  operate_leaves v b apart s = ap (λ (k : CoreState). state_of k.system u) s.3.1 ∙ kept b.undo
    where
      kept : (o : Option Undo) → state_in (map.get (undo_kept c.system.table v b o) u) ≡ state_of c.system u
      kept None = refl
      kept (Some w) = ap state_in (row_apart c.system.table v u (with_undo (pending b w)) apart)

-- none is one of another transaction that is alive
front_apart : (t u : ℕ) (m n : Moment) (xs ys : List Step) → (t == u) ≡ false → is_alive (state_of m.core.system u) ≡ true → AreOfEnd t xs → list_all (is_apart u) ys ≡ true → IsCourse m (xs ++ ys) n
    → list_all (is_apart u) (xs ++ ys) ≡ true
front_apart t u m n [] ys apart alive p last course = last
front_apart t u m n (OnRegion r c ∷ xs) ys apart alive p last course =
    and_from (is_apart_on u c) _ (apart_change t u c apart p.0)
    (front_apart t u course.0 n xs ys apart (ap is_alive (region_leaves u m.log course.0.log m.core course.0.core r c course.1.0) ∙ alive) p.1 last course.2)
front_apart t u m n (Operates v b ∷ xs) ys apart alive p last course =
    let other : (v == u) ≡ false = ap (λ (k : ℕ). k == u) p.0 ∙ apart in
    and_from (not (v == u)) _ (not_from_false (v == u) other)
    (front_apart t u course.0 n xs ys apart (ap is_alive (operate_leaves u m.log course.0.log m.core course.0.core v b other course.1.0) ∙ alive) p.1 last course.2)
front_apart t u m n (TakesBack v b ∷ xs) ys apart alive p last course =
    let other : (v == u) ≡ false = ap (λ (k : ℕ). k == u) p.0 ∙ apart in
    and_from (not (v == u)) _ (not_from_false (v == u) other)
    (front_apart t u course.0 n xs ys apart (ap is_alive (back_leaves u m.log course.0.log m.core course.0.core v b other course.1.0) ∙ alive) p.1 last course.2)
front_apart t u m n (Frees v b ∷ xs) ys apart alive p last course =
    let other : (v == u) ≡ false = ap (λ (k : ℕ). k == u) p.0 ∙ apart in
    and_from (not (v == u)) _ (not_from_false (v == u) other)
    (front_apart t u course.0 n xs ys apart (ap (λ (k : CoreState). is_alive (state_of k.system u)) course.1.0.2.1 ∙ alive) p.1 last course.2)
front_apart t u m n (Locks v k o ∷ xs) ys apart alive p last course =
    let other : (v == u) ≡ false = ap (λ (i : ℕ). i == u) p.0 ∙ apart in
    and_from (not (v == u)) _ (not_from_false (v == u) other)
    (front_apart t u course.0 n xs ys apart (ap (λ (e : CoreState). is_alive (state_of e.system u)) course.1.0.2.1 ∙ alive) p.1 last course.2)
front_apart t u m n (Claims v ∷ Recovers r ∷ GivesBack w o ∷ xs) ys apart alive p last course =
    let a = apart_recovery u v w r o m course.0 course.2.0 course.2.2.0 alive p.1 course.1.0 course.2.1.0 course.2.2.1.0 in
    and_from (not (v == u)) _ (not_from_false (v == u) a.0) (and_from (not (w == u)) _ (not_from_false (w == u) a.1) (front_apart t u course.2.2.0 n xs ys apart a.2 p.3 last course.2.2.2))
front_apart t u m n (Recovers r ∷ xs) ys apart alive p last course =
    front_apart t u course.0 n xs ys apart (ap is_alive (recover_leaves u m.log course.0.log m.core course.0.core r course.1.0) ∙ alive) p last course.2
front_apart t u m n (x ∷ xs) ys apart alive p last course = absurd p

ends_apart : (t u : ℕ) (last : List Record) → (t == u) ≡ false → list_all (is_apart u) (ends_of t last) ≡ true
ends_apart t u [] apart = refl
ends_apart t u (x ∷ xs) apart = and_from (not (t == u)) true (not_from_false (t == u) apart) refl

pub are_beside : (t : ℕ) (last : List Record) (m n : Moment) (front steps : List Step) → AreOfEnd t front → steps ≡ front ++ ends_of t last → IsCourse m steps n → AreBeside t m.core.system steps
are_beside t last m n front steps by is course u apart alive =
    subst (λ ys. list_all (is_apart u) ys ≡ true) (sym is)
    (front_apart t u m n front (ends_of t last) apart alive by (ends_apart t u last apart) (subst (λ ys. IsCourse m ys n) is course))

-- ---- one behind another
abbrev pub walked_on : (t : ℕ) (own : Record → Type 0) (last : List Record) (m : Moment) (gs hs : List RegionState) (y z : SystemState) (a : Walked t own [] m gs y)
    → Walked t own last (moment gs y a.log m.core.vault m.audits) hs z → Walked t own last m hs z
walked_on t own last m gs hs y z a b = record {
  log = b.log;
  front = a.front ++ b.front;
  by = join_front t a.front b.front a.by b.by;
  steps = a.steps ++ b.steps;
  is =
      ap (λ (xs : List Step). xs ++ b.steps) (a.is ∙ append-nil a.front)
      ∙ (ap (λ (xs : List Step). a.front ++ xs) b.is
      ∙ append_twice a.front b.front (ends_of t last));
  course = join m (moment gs y a.log m.core.vault m.audits) (moment hs z b.log m.core.vault m.audits) a.steps b.steps a.course b.course;
  records = a.records ++ b.records;
  are = all_both own a.records b.records a.are b.are;
  logged =
      b.logged
      ∙ (ap (λ (l : List Record). l ++ b.records ++ last) (a.logged ∙ append-nil (m.log ++ a.records))
      ∙ ap (λ (l : List Record). l ++ last) (append_assoc m.log a.records b.records));
}

abbrev pub walked_more : (t : ℕ) (P Q : Record → Type 0) (last : List Record) (m : Moment) (hs : List RegionState) (z : SystemState) → ((x : Record) → P x → Q x) → Walked t P last m hs z → Walked t Q last m hs z
walked_more t P Q last m hs z f a = record { log = a.log; front = a.front; by = a.by; steps = a.steps; is = a.is; course = a.course; records = a.records; are = all_weaker P Q a.records f a.are; logged = a.logged }

-- the run goes on
pub run_on : (t : ℕ) (own : Record → Type 0) (last : List Record) (bases : Bases) (before L : List Record) (v : VaultState) (au : Audits) (gs hs : List RegionState) (y z : SystemState) → InRun bases before (moment gs y L v au)
    → (a : Walked t own last (moment gs y L v au) hs z) → InRun bases before (moment hs z a.log v au)
run_on t own last bases before L v au gs hs y z run a = in_run_on bases before (moment gs y L v au) (moment hs z a.log v au) a.steps run a.course

pub walks_on : (t : ℕ) (own : Record → Type 0) (last : List Record) (gs hs ks : List RegionState) (y m z : SystemState) → (AreDead gs → AreDead hs) → Walks t own [] gs y hs m → Walks t own last hs m ks z → Walks t own last gs y ks z
walks_on t own last gs hs ks y m z still p q bases before L v a run dead =
    let first = p bases before L v a run dead in
    walked_on t own last (moment gs y L v a) hs ks m z first (q bases before first.log v a (run_on t own [] bases before L v a gs hs y m run first) (still dead))

pub walks_more : (t : ℕ) (P Q : Record → Type 0) (last : List Record) (gs hs : List RegionState) (y z : SystemState) → ((x : Record) → P x → Q x) → Walks t P last gs y hs z → Walks t Q last gs y hs z
walks_more t P Q last gs hs y z f p bases before L v a run dead = walked_more t P Q last (moment gs y L v a) hs z f (p bases before L v a run dead)

pub walks_none : (t : ℕ) (own : Record → Type 0) (gs : List RegionState) (y : SystemState) → Walks t own [] gs y gs y
walks_none t own gs y bases before L v a run dead = record { log = L; front = []; by = tt; steps = []; is = refl; course = refl; records = []; are = tt; logged = sym (append-nil L) ∙ sym (append-nil (L ++ [])) }
