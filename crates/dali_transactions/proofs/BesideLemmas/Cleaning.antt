-- A clean-up from a point where the core stands: what it logs.
use Rattle.std.proofs.Common.{inl, inr, ◌≡◌, ℕ, Bool, true, false, ◌&&◌, List, [], ◌∷◌, ◌++◌, Option, Some, None, is_some, refl, ap, sym, subst, ◌∙◌, option_map, append_assoc}
use Rattle.std.specs.Prelude.{◌==◌, ◌⊎◌}
use Rattle.std.specs.List.{AllByRecursion, list_all}
use Rattle.std.specs.FinMap as map
use Rattle.std.proofs.lemmas.Bool.Decides.{Decides-eqb}
use Rattle.std.proofs.lemmas.List.{append-nil}
use Rattle.std.proofs.lemmas.Bool.{and_parts}
use Rattle.dali_lists.proofs.Members.{all_append}
use Rattle.dali_lists.proofs.Tests.{not_both_ways}
use Rattle.dali_record.specs.declared.records.Record.{Record}
use Rattle.dali_record.specs.declared.records.Record.TheVariants.{Ended, Back}
use Rattle.dali_region.specs.State.{RegionState}
use Rattle.dali_att.specs.declared.state.State.{State}
use Rattle.dali_att.specs.declared.state.State.TheVariants.{Dead, Cleaning}
use Rattle.dali_att.specs.Table.{with_row, with_state, without_last}
use Rattle.dali_store.specs.Store.{Files as Disk}
use Rattle.dali_store.specs.declared.store.Store.{Ghosts}
use Rattle.dali_runs.specs.State.{TxnRow, SystemState, CoreState, row_of, state_in}
use Rattle.dali_runs.specs.Steps.{ended_logged}
use Rattle.dali_runs.specs.Keeps.{may_log_in}
use Rattle.dali_runs.specs.Courses.{Step, TakesBack, Ends, OnRegion, Claims, GivesBack, Recovers, Moment, IsStep, IsCourse}
use Rattle.dali_crash.specs.Checkpoints.{Point}
use Rattle.dali_crash.specs.Traces.{Start, bases_of}
use Rattle.dali_core.specs.Vault.Vaulted.{Vaulted}
use Rattle.dali_calls.proofs.Others.{ended_gone}
use Rattle.dali_calls.proofs.Rows.{row_here, row_apart}
use Rattle.dali_calls.specs.Single.Ending.{IsBackOf}
use Rattle.dali_clean.specs.Steps.{is_own_step, IsCleanUp, AreBeside}
use Rattle.dali_clean.specs.Cleaned.{moment, AreDead, IsEnded, IsGivenBack, Led}
use Rattle.dali_clean.proofs.Steps.{own_steps}
use Rattle.dali_clean.specs.Others.{OthersStay}
use Rattle.dali_transactions.specs.Stands.{StandsAt}
use Rattle.dali_transactions.proofs.Walking.{is_of_end, own_change}
use Rattle.dali_transactions.proofs.Standing.{run_at, arrive}
use Rattle.dali_transactions.specs.Beside.Went.{Went}
use Rattle.dali_transactions.specs.Beside.Calls.{IsOfEnd, CleanGoes, LeftGoes}
use Rattle.dali_transactions.proofs.BesideLemmas.Calls.{end_with}

-- ---- the steps
of_end_one : (t : ℕ) (x : Step) → is_own_step t x ≡ true → is_of_end x ≡ true
of_end_one t (TakesBack u b) e = refl
of_end_one t (Ends u) e = refl
of_end_one t (Claims u) e = refl
of_end_one t (Recovers r) e = refl
of_end_one t (GivesBack u o) e = refl
of_end_one t (OnRegion r x) e = own_change t x e
of_end_one t x e = absurd cc

of_end_all : (t : ℕ) (xs : List Step) → list_all (is_own_step t) xs ≡ true → list_all is_of_end xs ≡ true
of_end_all t [] e = refl
of_end_all t (x ∷ xs) e = let both = and_parts (is_own_step t x) (list_all (is_own_step t) xs) e in ap (λ b. b && list_all is_of_end xs) (of_end_one t x both.0) ∙ of_end_all t xs both.1

-- ---- the row
abbrev pub is_there : SystemState → ℕ → Bool
is_there y t = is_some (row_of y t)

mapped_there : (o : Option TxnRow) (f : TxnRow → TxnRow) → is_some (option_map f o) ≡ is_some o
mapped_there None f = refl
mapped_there (Some row) f = refl

pub kept_there : (y : SystemState) (u t : ℕ) (f : TxnRow → TxnRow) → is_some (map.get (with_row y.table u f) t) ≡ is_some (map.get y.table t)
kept_there y u t f = by_test (u == t) refl
  where
    by_test : (b : Bool) → (u == t) ≡ b → is_some (map.get (with_row y.table u f) t) ≡ is_some (map.get y.table t)
    by_test true e =
        let same : u ≡ t = (Decides-eqb u t).0 e in
        subst (λ (n : ℕ). is_some (map.get (with_row y.table u f) n) ≡ is_some (map.get y.table n)) same (ap is_some (row_here y.table u f) ∙ mapped_there (map.get y.table u) f)
    by_test false e = ap is_some (row_apart y.table u t f e)

-- what one step leaves: the row stays or not, and what is logged
abbrev IsSame : ℕ → List Record → SystemState → List Record → SystemState → Type 0
IsSame t L y M z = (M ≡ L) × (is_there z t ≡ is_there y t)

abbrev IsTaken : ℕ → List Record → SystemState → List Record → SystemState → Type 0
IsTaken t L y M z = (r : Record) × IsBackOf t r × (M ≡ L ++ r ∷ []) × (is_there y t ≡ true) × (is_there z t ≡ true)

abbrev IsOver : ℕ → List Record → SystemState → List Record → SystemState → Type 0
IsOver t L y M z = (M ≡ L ++ Ended t ∷ []) × (is_there y t ≡ true) × (is_there z t ≡ false)

abbrev LeftBy : ℕ → List Record → SystemState → List Record → SystemState → Type 0
LeftBy t L y M z = IsSame t L y M z ⊎ (IsTaken t L y M z ⊎ IsOver t L y M z)

may_there : (row : Option TxnRow) (x : Record) → may_log_in (state_in row) x ≡ true → is_some row ≡ true
may_there None x e = absurd cc
may_there (Some row) x e = refl

same_by : (t : ℕ) (L M : List Record) (c d e : CoreState) → M ≡ L → d ≡ e → is_there e.system t ≡ is_there c.system t → LeftBy t L c.system M d.system
same_by t L M c d e log is there = inl (log, ap (λ (k : CoreState). is_there k.system t) is ∙ there)

left_by : (t : ℕ) (L M : List Record) (c d : CoreState) (x : Step) → is_own_step t x ≡ true → IsStep L c x M d → LeftBy t L c.system M d.system
left_by t L M c d (TakesBack u b) e s =
    let own : u ≡ t = (Decides-eqb u t).0 e in
    let was : is_there c.system t ≡ true = subst (λ (n : ℕ). is_there c.system n ≡ true) own (may_there (row_of c.system u) (Back u b) s.1.by) in
    inr (inl (Back u b, own, s.2.0, was, ap (λ (k : CoreState). is_there k.system t) s.2.1 ∙ (kept_there c.system u t without_last ∙ was)))
left_by t L M c d (Ends u) e s =
    let own : u ≡ t = (Decides-eqb u t).0 e in
    let was : is_there c.system t ≡ true = subst (λ (n : ℕ). is_there c.system n ≡ true) own (may_there (row_of c.system u) (Ended u) s.1.0.by) in
    let gone : row_of (ended_logged c.system u) t ≡ None = subst (λ (n : ℕ). row_of (ended_logged c.system u) n ≡ None) own (ended_gone c.system (ended_logged c.system u) u refl).0 in
    inr (inr (s.2.0 ∙ ap (λ (n : ℕ). L ++ Ended n ∷ []) own, was, ap (λ (k : CoreState). is_there k.system t) s.2.1 ∙ ap is_some gone))
left_by t L M c d (OnRegion r x) e s = same_by t L M c d _ s.3.0 s.3.1 refl
left_by t L M c d (Claims u) e s = same_by t L M c d _ s.2.0 s.2.1 (kept_there c.system u t (with_state (Cleaning s.0)))
left_by t L M c d (GivesBack u o) e s = same_by t L M c d _ s.1.0 s.1.1 (kept_there c.system u t (with_state (Dead o)))
left_by t L M c d (Recovers r) e s = same_by t L M c d _ s.3.0 s.3.1 refl
left_by t L M c d x e s = absurd cc

-- who has ended logs nothing more
abbrev IsQuiet : ℕ → Moment → Moment → Type 0
IsQuiet t m n = (n.log ≡ m.log) × (is_there n.core.system t ≡ false)

over_one : (t : ℕ) (m k n : Moment) → LeftBy t m.log m.core.system k.log k.core.system → (is_there k.core.system t ≡ false → IsQuiet t k n) → is_there m.core.system t ≡ false → IsQuiet t m n
over_one t m k n (inl same) rest gone = let more = rest (same.1 ∙ gone) in (more.0 ∙ same.0, more.1)
over_one t m k n (inr (inl took)) rest gone = absurd (not_both_ways took.3 gone)
over_one t m k n (inr (inr ended)) rest gone = absurd (not_both_ways ended.1 gone)

over : (t : ℕ) (m n : Moment) (xs : List Step) → list_all (is_own_step t) xs ≡ true → IsCourse m xs n → is_there m.core.system t ≡ false → IsQuiet t m n
over t m n [] own course gone = (ap (λ (k : Moment). k.log) (sym course), ap (λ (k : Moment). is_there k.core.system t) (sym course) ∙ gone)
over t m n (x ∷ xs) own course gone =
    let both = and_parts (is_own_step t x) (list_all (is_own_step t) xs) own in
    over_one t m course.0 n (left_by t m.log course.0.log m.core course.0.core x both.0 course.1.0) (λ g. over t course.0 n xs both.1 course.2 g) gone

-- takings back, and the end or not
abbrev Logged : ℕ → Moment → Moment → Type 0
Logged t m n =
    (backs : List Record) × AllByRecursion (IsBackOf t) backs
    × (((n.log ≡ m.log ++ backs) × (is_there n.core.system t ≡ true)) ⊎ ((n.log ≡ m.log ++ (backs ++ Ended t ∷ [])) × (is_there n.core.system t ≡ false)))

logged_same : (t : ℕ) (m k n : Moment) → k.log ≡ m.log → Logged t k n → Logged t m n
logged_same t m k n same (backs, are, inl l) = (backs, are, inl (l.0 ∙ ap (λ (x : List Record). x ++ backs) same, l.1))
logged_same t m k n same (backs, are, inr l) = (backs, are, inr (l.0 ∙ ap (λ (x : List Record). x ++ (backs ++ Ended t ∷ [])) same, l.1))

one_more : (m k n : Moment) (r : Record) (ys : List Record) → k.log ≡ m.log ++ r ∷ [] → n.log ≡ k.log ++ ys → n.log ≡ m.log ++ (r ∷ ys)
one_more m k n r ys first rest = rest ∙ (ap (λ (x : List Record). x ++ ys) first ∙ append_assoc m.log (r ∷ []) ys)

logged_back : (t : ℕ) (m k n : Moment) (r : Record) → IsBackOf t r → k.log ≡ m.log ++ r ∷ [] → Logged t k n → Logged t m n
logged_back t m k n r own first (backs, are, inl l) = (r ∷ backs, (own, are), inl (one_more m k n r backs first l.0, l.1))
logged_back t m k n r own first (backs, are, inr l) = (r ∷ backs, (own, are), inr (one_more m k n r (backs ++ Ended t ∷ []) first l.0, l.1))

logged_one : (t : ℕ) (m k n : Moment) → LeftBy t m.log m.core.system k.log k.core.system → (is_there k.core.system t ≡ true → Logged t k n) → (is_there k.core.system t ≡ false → IsQuiet t k n) → is_there m.core.system t ≡ true → Logged t m n
logged_one t m k n (inl same) rest after there = logged_same t m k n same.0 (rest (same.1 ∙ there))
logged_one t m k n (inr (inl took)) rest after there = logged_back t m k n took.0 took.1 took.2 (rest took.4)
logged_one t m k n (inr (inr ended)) rest after there = let more = after ended.2 in ([], tt, inr (more.0 ∙ ended.0, more.1))

logged : (t : ℕ) (m n : Moment) (xs : List Step) → list_all (is_own_step t) xs ≡ true → IsCourse m xs n → is_there m.core.system t ≡ true → Logged t m n
logged t m n [] own course there = ([], tt, inl (ap (λ (k : Moment). k.log) (sym course) ∙ sym (append-nil m.log), ap (λ (k : Moment). is_there k.core.system t) (sym course) ∙ there))
logged t m n (x ∷ xs) own course there =
    let both = and_parts (is_own_step t x) (list_all (is_own_step t) xs) own in
    logged_one t m course.0 n (left_by t m.log course.0.log m.core course.0.core x both.0 course.1.0) (λ g. logged t course.0 n xs both.1 course.2 g) (λ g. over t course.0 n xs both.1 course.2 g) there

-- ---- as an end
pub backs_of : (t : ℕ) (xs : List Record) → AllByRecursion (IsBackOf t) xs → AllByRecursion (IsOfEnd t) xs
backs_of t [] are = tt
backs_of t (x ∷ xs) are = (on x are.0, backs_of t xs are.1)
  where
    on : (r : Record) → IsBackOf t r → IsOfEnd t r
    on (Back u b) own = own
    on r own = absurd own

pub alive_there : (row : Option TxnRow) (st : State) → state_in row ≡ Some st → is_some row ≡ true
alive_there None st e = absurd (never e)
  where
    never : (let n : Option State = None in n ≡ Some st) → ⊥
    never f = cc
alive_there (Some row) st e = refl

module _ {V : Type 0} (means : Ghosts V) where
  -- these records, from these steps
  steps_go : (records : List Record) (s : Start) (B : List (List Record)) (p : Point) (gs hs : List RegionState) (y z : SystemState) (v : Vaulted V) (t : ℕ) (log : List Record) (steps : List Step) → StandsAt means s B p gs y v
      → AreDead hs → list_all (is_own_step t) steps ≡ true → IsCourse (moment gs y p.log p.core.vault p.audits) steps (moment hs z log p.core.vault p.audits) → log ≡ p.log ++ records
      → AllByRecursion (IsOfEnd t) records → OthersStay gs y t hs z → (w : Went means t records s B p gs hs z v) × (w.steps ≡ steps)
  steps_go records s B p gs hs y z v t log steps k dead own course is are others =
      let kind = of_end_all t steps own in
      let all = end_with means records s B p gs hs y z v t steps log k kind (arrive means s B p gs hs y z v steps log k kind course dead) is are others in
      (all.0, all.2)

  pub clean_goes : CleanGoes means
  clean_goes s B p gs hs y z v t k dead cleans others was gone = by_logged (logged t m n e.steps own e.course (alive_there (row_of y t) (Dead was.0) was.1))
    where
      m : Moment
      m = moment gs y p.log p.core.vault p.audits

      e : IsEnded (bases_of s) s.log m t hs z
      e = cleans (bases_of s) s.log p.log p.core.vault p.audits (run_at means s B p gs y v k)

      own : list_all (is_own_step t) e.steps ≡ true
      own = own_steps y t (Ends t) e.steps e.by ((Decides-eqb t t).1 refl)

      n : Moment
      n = moment hs z (e.log ++ Ended t ∷ []) p.core.vault p.audits

      by_logged : Logged t m n → (backs : List Record) × AllByRecursion (IsBackOf t) backs × (w : Went means t (backs ++ Ended t ∷ []) s B p gs hs z v) × IsCleanUp y t (Ends t) w.steps × AreBeside t y w.steps
      by_logged (backs, are, inl l) = absurd (not_both_ways l.1 (ap is_some gone.0))
      by_logged (backs, are, inr l) =
          let w = steps_go (backs ++ Ended t ∷ []) s B p gs hs y z v t (e.log ++ Ended t ∷ []) e.steps k dead own e.course l.0 (all_append (IsOfEnd t) backs (Ended t ∷ []) (backs_of t backs are) (refl, tt)) others in
          (backs, are, w.0, subst (λ (xs : List Step). IsCleanUp y t (Ends t) xs) (sym w.1) e.by, subst (λ (xs : List Step). AreBeside t y xs) (sym w.1) e.beside)

  pub left_goes : LeftGoes means
  left_goes s B p gs hs y z v t k dead left others was again = by_logged (logged t m n e.steps own e.course (alive_there (row_of y t) (Dead was.0) was.1))
    where
      m : Moment
      m = moment gs y p.log p.core.vault p.audits

      g : IsGivenBack (bases_of s) s.log m t hs z
      g = left (bases_of s) s.log p.log p.core.vault p.audits (run_at means s B p gs y v k)

      e : Led (IsCleanUp y t (GivesBack t None)) m hs z
      e = g.led

      own : list_all (is_own_step t) e.steps ≡ true
      own = own_steps y t (GivesBack t None) e.steps e.are refl

      n : Moment
      n = moment hs z e.log p.core.vault p.audits

      by_logged : Logged t m n → (backs : List Record) × AllByRecursion (IsBackOf t) backs × (w : Went means t backs s B p gs hs z v) × IsCleanUp y t (GivesBack t None) w.steps × AreBeside t y w.steps
      by_logged (backs, are, inr l) = absurd (not_both_ways (alive_there (row_of z t) (Dead None) again) l.1)
      by_logged (backs, are, inl l) =
          let w = steps_go backs s B p gs hs y z v t e.log e.steps k dead own e.course l.0 (backs_of t backs are) others in
          (backs, are, w.0, subst (λ (xs : List Step). IsCleanUp y t (GivesBack t None) xs) (sym w.1) e.are, subst (λ (xs : List Step). AreBeside t y xs) (sym w.1) g.beside)
