-- What an end leaves of other transactions that are live or committed: by its records, and by the rows, locks and holds that stay.
use Rattle.std.proofs.Common.{inl, inr, ◌≡◌, ◌⊎◌, ◌≤◌, ℕ, Bool, true, false, List, [], ◌∷◌, ◌++◌, Option, Some, None, IsSome, is_some, fold, refl, ap, sym, subst, ◌∙◌, arith, slice_get}
use Rattle.std.specs.Prelude.{◌==◌}
use Rattle.std.specs.List.{AllByRecursion, list_all}
use Rattle.std.proofs.lemmas.List.Sums.{fold-append}
use Rattle.std.proofs.lemmas.Bool.{and_parts}
use Rattle.dali_geometry.specs.Sizes.{Sizes}
use Rattle.dali_geometry.specs.Places.{regions}
use Rattle.dali_record.specs.declared.records.Record.{Record}
use Rattle.dali_record.specs.declared.records.Record.TheVariants.{Commit, Ended, Solo, Back}
use Rattle.dali_record.specs.Legal.{TxnState, Unbegun, Active, Committed as Ending, Over, txn_state, txn_next}
use Rattle.dali_region.specs.declared.Hold.{Hold}
use Rattle.dali_region.specs.State.{RegionState}
use Rattle.dali_store.specs.Store.{Files as Disk}
use Rattle.dali_store.specs.declared.store.Store.{Ghosts}
use Rattle.dali_runs.specs.State.{TxnRow, SystemState, CoreState, row_of, state_of, state_in, lock_of, hold_in}
use Rattle.dali_runs.specs.Run.{IsRow}
use Rattle.dali_runs.specs.Courses.{Step, Operates, TakesBack, Frees, Ends, Locks, OnRegion, Claims, GivesBack, Recovers, Moment, IsStep, IsCourse}
use Rattle.dali_runs.proofs.OneMore.{row_is}
use Rattle.dali_crash.specs.Checkpoints.{Point}
use Rattle.dali_crash.specs.Traces.{Start}
use Rattle.dali_core.specs.Vault.Vaulted.{Vaulted}
use Rattle.dali_calls.specs.Others.{HoldStays}
use Rattle.dali_clean.specs.Others.{RowStays, OthersStay}
use Rattle.dali_calls.specs.Stepwise.Beside.{LeavesBe}
use Rattle.dali_transactions.specs.Stands.{StandsAt}
use Rattle.dali_transactions.proofs.Walking.{is_of_end}
use Rattle.dali_transactions.specs.Beside.Calls.{IsOfEnd}
use Rattle.dali_transactions.proofs.BesideLemmas.Going.{runs_here}
use Rattle.dali_transactions.specs.Beside.Went.{is_open}

-- ---- the rules
apart_of : (t u v : ℕ) → v ≡ t → (t == u) ≡ false → (v == u) ≡ false
apart_of t u v own apart = ap (λ (n : ℕ). n == u) own ∙ apart

no_state : (o : Option TxnState) → o ≡ None → IsSome o → ⊥
no_state o none some = let is : is_some o ≡ true = some in let not : is_some o ≡ false = ap is_some none in cc

none_after : (s : Sizes) (u : ℕ) (xs : List Record) → IsSome (fold (txn_next s u) None xs) → ⊥
none_after s u [] some = no_state None refl some
none_after s u (x ∷ xs) some = none_after s u xs some

-- it has begun, and isn't over
abbrev is_under_way : TxnState → Bool
is_under_way (Active w) = true
is_under_way (Ending dead) = true
is_under_way o = false

-- one record of another one leaves it, or isn't allowed
one_over : (s : Sizes) (t u : ℕ) (o : TxnState) (r : Record) → is_under_way o ≡ true → (t == u) ≡ false → IsOfEnd t r → (txn_next s u (Some o) r ≡ Some o) ⊎ (txn_next s u (Some o) r ≡ None)
one_over s t u (Active w) (Back v b) begun apart own = let e : (v == u) ≡ false = apart_of t u v own apart in inl (rw e refl)
one_over s t u (Active w) (Commit v) begun apart own = let e : (v == u) ≡ false = apart_of t u v own apart in inl (rw e refl)
one_over s t u (Active w) (Ended v) begun apart own = let e : (v == u) ≡ false = apart_of t u v own apart in inl (rw e refl)
one_over s t u (Active w) (Solo n v b) begun apart own = by_number (n == u) refl
  where
    e : (v == u) ≡ false
    e = apart_of t u v own apart

    by_number : (d : Bool) → (n == u) ≡ d → (txn_next s u (Some (Active w)) (Solo n v b) ≡ Some (Active w)) ⊎ (txn_next s u (Some (Active w)) (Solo n v b) ≡ None)
    by_number true i = inr (rw i refl)
    by_number false i = inl (rw (i, e) refl)
one_over s t u (Ending dead) (Back v b) begun apart own = let e : (v == u) ≡ false = apart_of t u v own apart in inl (rw e refl)
one_over s t u (Ending dead) (Commit v) begun apart own = let e : (v == u) ≡ false = apart_of t u v own apart in inl (rw e refl)
one_over s t u (Ending dead) (Ended v) begun apart own = let e : (v == u) ≡ false = apart_of t u v own apart in inl (rw e refl)
one_over s t u (Ending dead) (Solo n v b) begun apart own = by_number (n == u) refl
  where
    e : (v == u) ≡ false
    e = apart_of t u v own apart

    by_number : (d : Bool) → (n == u) ≡ d → (txn_next s u (Some (Ending dead)) (Solo n v b) ≡ Some (Ending dead)) ⊎ (txn_next s u (Some (Ending dead)) (Solo n v b) ≡ None)
    by_number true i = inr (rw i refl)
    by_number false i = inl (rw (i, e) refl)
one_over s t u Unbegun r begun apart own = absurd (cc)
one_over s t u Over r begun apart own = absurd (cc)
one_over s t u o r begun apart own = absurd own

rules_stay : (s : Sizes) (t u : ℕ) (o : TxnState) (xs : List Record) → is_under_way o ≡ true → (t == u) ≡ false → AllByRecursion (IsOfEnd t) xs → IsSome (fold (txn_next s u) (Some o) xs)
    → fold (txn_next s u) (Some o) xs ≡ Some o
rules_stay s t u o [] begun apart are some = refl
rules_stay s t u o (x ∷ xs) begun apart are some = by_one (one_over s t u o x begun apart are.0) (rules_stay s t u o xs begun apart are.1)
  where
    by_one : (txn_next s u (Some o) x ≡ Some o) ⊎ (txn_next s u (Some o) x ≡ None) → (IsSome (fold (txn_next s u) (Some o) xs) → fold (txn_next s u) (Some o) xs ≡ Some o) → fold (txn_next s u) (txn_next s u (Some o) x) xs ≡ Some o
    by_one (inl same) rest =
        ap (λ (p : Option TxnState). fold (txn_next s u) p xs) same
        ∙ rest (subst (λ (p : Option TxnState). IsSome (fold (txn_next s u) p xs)) same some)
    by_one (inr none) rest = absurd (none_after s u xs (subst (λ (p : Option TxnState). IsSome (fold (txn_next s u) p xs)) none some))

-- where the rules have one whose row is open
under_way : (o : Option TxnState) (row : Option TxnRow) → IsRow o row → is_open (state_in row) ≡ true → (x : TxnState) × (is_under_way x ≡ true) × (o ≡ Some x)
under_way None row is begun = absurd is
under_way (Some Unbegun) row is begun = let no : false ≡ true = sym (ap (λ (r : Option TxnRow). is_open (state_in r)) is) ∙ begun in absurd (cc)
under_way (Some (Active w)) row is begun = (Active w, refl, refl)
under_way (Some (Ending dead)) row is begun = (Ending dead, refl, refl)
under_way (Some Over) row is begun = let no : false ≡ true = sym (ap (λ (r : Option TxnRow). is_open (state_in r)) is) ∙ begun in absurd (cc)

-- ---- the sizes, and the next number
abbrev pub Onward : SystemState → SystemState → Type 0
Onward y z = (z.sizes ≡ y.sizes) × (y.next ≤ z.next)

pub by_core : (c d e : CoreState) → d ≡ e → Onward c.system e.system → Onward c.system d.system
by_core c d e is onward = subst (λ (k : CoreState). Onward c.system k.system) (sym is) onward

step_onward : (L M : List Record) (c d : CoreState) (x : Step) → is_of_end x ≡ true → IsStep L c x M d → Onward c.system d.system
step_onward L M c d (Operates t b) e s = by_core c d _ s.3.1 (refl, omega arith)
step_onward L M c d (TakesBack t b) e s = by_core c d _ s.2.1 (refl, omega arith)
step_onward L M c d (Frees t b) e s = by_core c d _ s.2.1 (refl, omega arith)
step_onward L M c d (Ends t) e s = by_core c d _ s.2.1 (refl, omega arith)
step_onward L M c d (Locks t k m) e s = by_core c d _ s.2.1 (refl, omega arith)
step_onward L M c d (OnRegion r x) e s = by_core c d _ s.3.1 (refl, omega arith)
step_onward L M c d (Claims t) e s = by_core c d _ s.2.1 (refl, omega arith)
step_onward L M c d (GivesBack t o) e s = by_core c d _ s.1.1 (refl, omega arith)
step_onward L M c d (Recovers r) e s = by_core c d _ s.3.1 (refl, omega arith)
step_onward L M c d x e s = absurd cc

pub onward_on : (x y z : SystemState) → Onward x y → Onward y z → Onward x z
onward_on x y z a b = let one = a.1 in let two = b.1 in (b.0 ∙ a.0, omega (arith, one, two))

pub course_onward : (m n : Moment) (xs : List Step) → list_all is_of_end xs ≡ true → IsCourse m xs n → Onward m.core.system n.core.system
course_onward m n [] e course = subst (λ (k : Moment). Onward m.core.system k.core.system) course (refl, omega arith)
course_onward m n (x ∷ xs) e course =
    let both = and_parts (is_of_end x) (list_all is_of_end xs) e in
    onward_on m.core.system course.0.core.system n.core.system (step_onward m.log course.0.log m.core course.0.core x both.0 course.1.0) (course_onward course.0 n xs both.1 course.2)

-- ---- what is left of a transaction
stays_free : (gs hs : List RegionState) (u : ℕ) → ((r : ℕ) → HoldStays gs hs r) → ((r : ℕ) (h : Hold) → hold_in (slice_get gs r) ≡ Some h → (h.txn == u) ≡ false)
    → (r : ℕ) (h : Hold) → hold_in (slice_get hs r) ≡ Some h → (h.txn == u) ≡ false
stays_free gs hs u holds free r h held = by_hold (holds r)
  where
    none_some : (let n : Option Hold = None in n ≡ Some h) → ⊥
    none_some e = cc

    by_hold : HoldStays gs hs r → (h.txn == u) ≡ false
    by_hold (inl same) = free r h (sym same ∙ held)
    by_hold (inr none) = absurd (none_some (sym none ∙ held))

pub row_same : (gs hs : List RegionState) (y z : SystemState) (u : ℕ) → is_open (state_of y u) ≡ true → RowStays gs y u hs z → row_of z u ≡ row_of y u
row_same gs hs y z u lives (inl same) = same
row_same gs hs y z u lives (inr dead) = let no : true ≡ false = sym lives ∙ ap is_open dead.0.1 in absurd (cc)

module _ {V : Type 0} (means : Ghosts V) where
  pub left_be : (t : ℕ) (own : List Record) (s : Start) (B C : List (List Record)) (p q : Point) (gs hs : List RegionState) (y z : SystemState) (v w : Vaulted V) → StandsAt means s B p gs y v → StandsAt means s C q hs z w
      → q.log ≡ p.log ++ own → AllByRecursion (IsOfEnd t) own → Onward y z → OthersStay gs y t hs z
      → (u : ℕ) → (t == u) ≡ false → is_open (state_of p.core.system u) ≡ true → LeavesBe u p.log p.core q.log q.core
  left_be t own s B C p q gs hs y z v w k l log are onward others u away lives_at = record {
    sizes = sizes;
    next = let up = onward.1 in let here = ap (λ (x : SystemState). x.next) k.at.system in let there = ap (λ (x : SystemState). x.next) l.at.system in omega (arith, up, here, there);
    row = ap (λ (x : SystemState). row_of x u) l.at.system ∙ (row_same gs hs y z u lives (others.rows u away) ∙ ap (λ (x : SystemState). row_of x u) (sym k.at.system));
    locks = λ n. ap (λ (x : SystemState). lock_of x u n) l.at.system ∙ (others.locks u n away ∙ ap (λ (x : SystemState). lock_of x u n) (sym k.at.system));
    rules = rules;
    free = λ free r h held. stays_free gs hs u others.holds (λ r h held. free r h (ap (λ (rs : List RegionState). hold_in (slice_get rs r)) k.at.regions ∙ held)) r h (ap (λ (rs : List RegionState). hold_in (slice_get rs r)) (sym l.at.regions) ∙ held);
    count = l.whole.regions ∙ (ap regions sizes ∙ sym k.whole.regions);
  }
    where
      lives : is_open (state_of y u) ≡ true
      lives = ap (λ (x : SystemState). is_open (state_of x u)) (sym k.at.system) ∙ lives_at

      sizes : q.core.system.sizes ≡ p.core.system.sizes
      sizes = ap (λ (x : SystemState). x.sizes) l.at.system ∙ (onward.0 ∙ ap (λ (x : SystemState). x.sizes) (sym k.at.system))

      S : Sizes
      S = p.core.system.sizes

      work : (x : TxnState) × (is_under_way x ≡ true) × (txn_state S u p.log ≡ Some x)
      work = under_way (txn_state S u p.log) (row_of p.core.system u) ((runs_here means s B p gs y v k).table u) lives_at

      behind : txn_state S u q.log ≡ fold (txn_next S u) (Some work.0) own
      behind = ap (txn_state S u) log ∙ (fold-append (txn_next S u) (Some Unbegun) p.log own ∙ ap (λ (o : Option TxnState). fold (txn_next S u) o own) work.2)

      legal : IsSome (txn_state S u q.log)
      legal = subst (λ (x : Sizes). IsSome (txn_state x u q.log)) sizes (row_is (txn_state q.core.system.sizes u q.log) (row_of q.core.system u) ((runs_here means s C q hs z w l).table u))

      rules : txn_state S u q.log ≡ txn_state S u p.log
      rules = behind ∙ (rules_stay S t u work.0 own work.1 away are (subst (λ (o : Option TxnState). IsSome o) behind legal) ∙ sym work.2)
