-- The clean place and the failing regions of an epoch are found in the records from a checkpoint's number on.
use Rattle.std.proofs.Common.{◌≡◌, ℕ, suc, ◌+◌, ◌-◌, ◌<◌, ◌≤◌, Bool, true, false, cond, List, [], ◌∷◌, ◌++◌, length, Option, Some, None, refl, ap, sym, subst, ◌∙◌, ◌⊎◌, inl, inr, ⊎_elim, arith}
use Rattle.std.specs.Prelude.{not, ◌&&◌, ◌==◌, fold, IsSome, max, slice_get}
use Rattle.std.specs.List.{AllByRecursion}
use Rattle.std.proofs.lemmas.List.Folds.{fold_stays}
use Rattle.std.proofs.lemmas.List.Sums.{fold-append, fold_push}
use Rattle.std.proofs.lemmas.Bool.{both_ways, and_parts, or_cases}
use Rattle.std.proofs.lemmas.Bool.Decides.{Decides-eqb}
use Rattle.dali_lists.proofs.Members.{all_push}
use Rattle.dali_geometry.specs.Sizes.{Sizes}
use Rattle.dali_record.specs.declared.records.Record.{Record}
use Rattle.dali_record.specs.declared.records.Record.TheVariants.{Format, Begin, Forward, Done, Commit, Ended, Solo, AuditBegin, AuditClean, AuditFail, Restarted, Back}
use Rattle.dali_record.specs.Epochs.{Epoch, Cut, cut, cut_step, last_epoch, AllEpochs, separates, next_number, clean_step, clean_place, failing_step, failing}
use Rattle.dali_record.specs.Damage.{has}
use Rattle.dali_record.specs.Legal.{Rules, rules_start, passes, restarts, runs, rules_behind, rules_first, rules_step, rules_next, rules_state}
use Rattle.dali_record.proofs.Ends.{by_push}
use Rattle.dali_record.proofs.Pushes.{rules_state_push, cut_push}
use Rattle.dali_record.proofs.EpochRules.{format_first, rules_before, kept_if_some, some_rules, within_push}
use Rattle.dali_record.proofs.Stages.{IsWithin, IsWithin-front}
use Rattle.dali_resume.proofs.Standing.{IsWithin-parts}

-- ---- what a record that separates no epochs does to audits
abbrev pub Changes : Rules → Rules → Record → Type 0
Changes g h AuditBegin = (h.count ≡ g.count + 1) × (h.audits ≡ g.count ∷ g.audits) × (h.failed ≡ g.failed)
Changes g h (AuditClean b) = (h.count ≡ g.count + 1) × (h.audits ≡ g.audits) × (h.failed ≡ g.failed) × (has g.audits b ≡ true)
Changes g h (AuditFail b rs) = (h.count ≡ g.count + 1) × (h.audits ≡ g.audits) × (h.failed ≡ true) × (has g.audits b ≡ true)
Changes g h r = (h.count ≡ g.count + 1) × (h.audits ≡ g.audits) × (h.failed ≡ g.failed)

runs_changes : (s : Sizes) (g h : Rules) (r : Record) → separates r ≡ false → runs s g r ≡ Some h → Changes g h r
runs_changes s g h (Format i n) w e = absurd (cc)
runs_changes s g h (Begin t) w e = let k = (kept_if_some _ _ h e).1 in (ap (λ (x : Rules). x.count) k, ap (λ (x : Rules). x.audits) k, ap (λ (x : Rules). x.failed) k)
runs_changes s g h (Forward t b) w e = let k = (kept_if_some _ _ h e).1 in (ap (λ (x : Rules). x.count) k, ap (λ (x : Rules). x.audits) k, ap (λ (x : Rules). x.failed) k)
runs_changes s g h (Done t c a) w e = let k = (kept_if_some _ _ h e).1 in (ap (λ (x : Rules). x.count) k, ap (λ (x : Rules). x.audits) k, ap (λ (x : Rules). x.failed) k)
runs_changes s g h (Commit t) w e = let k = some_rules _ h e in (ap (λ (x : Rules). x.count) k, ap (λ (x : Rules). x.audits) k, ap (λ (x : Rules). x.failed) k)
runs_changes s g h (Ended t) w e = let k = some_rules _ h e in (ap (λ (x : Rules). x.count) k, ap (λ (x : Rules). x.audits) k, ap (λ (x : Rules). x.failed) k)
runs_changes s g h (Solo t p b) w e = let k = (kept_if_some _ _ h e).1 in (ap (λ (x : Rules). x.count) k, ap (λ (x : Rules). x.audits) k, ap (λ (x : Rules). x.failed) k)
runs_changes s g h AuditBegin w e = let k = (kept_if_some _ _ h e).1 in (ap (λ (x : Rules). x.count) k, ap (λ (x : Rules). x.audits) k, ap (λ (x : Rules). x.failed) k)
runs_changes s g h (AuditClean b) w e =
    let k = kept_if_some _ _ h e in
    (ap (λ (x : Rules). x.count) k.1, ap (λ (x : Rules). x.audits) k.1, ap (λ (x : Rules). x.failed) k.1, (and_parts (has g.audits b) (not (has g.closed b)) k.0).0)
runs_changes s g h (AuditFail b rs) w e =
    let k = kept_if_some _ _ h e in
    (ap (λ (x : Rules). x.count) k.1, ap (λ (x : Rules). x.audits) k.1, ap (λ (x : Rules). x.failed) k.1, (and_parts (has g.audits b) (not (has g.closed b)) (and_parts (has g.audits b && not (has g.closed b)) _ k.0).0).0)
runs_changes s g h (Restarted rs ds) w e = absurd (cc)
runs_changes s g h (Back t b) w e = let k = (kept_if_some _ _ h e).1 in (ap (λ (x : Rules). x.count) k, ap (λ (x : Rules). x.audits) k, ap (λ (x : Rules). x.failed) k)

unless_failed : (c : Bool) (o : Option Rules) (h : Rules) → cond c None o ≡ Some h → (c ≡ false) × (o ≡ Some h)
unless_failed true o h e = absurd (cc)
unless_failed false o h e = (refl, e)

pub behind_runs : (s : Sizes) (g h : Rules) (r : Record) → separates r ≡ false → rules_behind s g r ≡ Some h → (g.failed ≡ false) × (runs s g r ≡ Some h)
behind_runs s g h (Format i n) w e = absurd (cc)
behind_runs s g h (Restarted rs ds) w e = absurd (cc)
behind_runs s g h _ w e = unless_failed g.failed _ h e

pub first_refuses : {A : Type 0} (s : Sizes) (g h : Rules) (r : Record) → separates r ≡ false → rules_first s g r ≡ Some h → A
first_refuses s g h (Format i n) w e = absurd (cc)
first_refuses s g h _ w e = absurd (cc)

pub step_changes : (s : Sizes) (g h : Rules) (r : Record) → separates r ≡ false → rules_step s g r ≡ Some h → (g.failed ≡ false) × Changes g h r
step_changes s g h r w e = by_test (g.count == 0) refl e
  where
    by_test : (c : Bool) → (g.count == 0) ≡ c → cond c (rules_first s g r) (rules_behind s g r) ≡ Some h → (g.failed ≡ false) × Changes g h r
    by_test true f q = first_refuses s g h r w q
    by_test false f q = let b = behind_runs s g h r w q in (b.0, runs_changes s g h r w b.1)

-- ---- along an epoch
pub record Audited (e : Epoch) (g : Rules) : Type 0 where
  pub count : g.count ≡ next_number e
  pub below : (b : ℕ) → has g.audits b ≡ true → b < g.count
  pub clean : (clean_place e ≡ e.first) ⊎ (clean_place e < next_number e)
  pub fails : g.failed ≡ false → failing e ≡ []

abbrev more : Epoch → Record → Epoch
more e r = record { first = e.first; records = e.records ++ r ∷ [] }

pub length_more : (L : List Record) (r : Record) → length (L ++ r ∷ []) ≡ suc (length L)
length_more [] r = refl
length_more (x ∷ L) r = ap suc (length_more L r)

number_more : (e : Epoch) (r : Record) → next_number (more e r) ≡ next_number e + 1
number_more e r = omega (arith, length_more e.records r)

clean_more : (e : Epoch) (r : Record) → clean_place (more e r) ≡ clean_step (clean_place e) r
clean_more e r = fold_push clean_step e.first e.records r

failing_more : (e : Epoch) (r : Record) → failing (more e r) ≡ failing_step (failing e) r
failing_more e r = fold_push failing_step [] e.records r

module _ (e : Epoch) (g h : Rules) (r : Record) (a : Audited e g) (was : g.failed ≡ false) where
  quiet : h.count ≡ g.count + 1 → h.audits ≡ g.audits → clean_step (clean_place e) r ≡ clean_place e → failing_step (failing e) r ≡ failing e → Audited (more e r) h
  quiet n k p f = record {
    count = omega (arith, n, a.count, number_more e r);
    below = λ b x. omega (arith, n, a.below b (subst (λ xs. has xs b ≡ true) k x));
    clean = ⊎_elim (λ x. inl (clean_more e r ∙ (p ∙ x))) (λ x. inr (omega (arith, x, clean_more e r, p, number_more e r))) a.clean;
    fails = λ x. failing_more e r ∙ (f ∙ a.fails was);
  }

audited_step : (e : Epoch) (g h : Rules) (r : Record) → separates r ≡ false → Audited e g → g.failed ≡ false → Changes g h r → Audited (more e r) h
audited_step e g h (Format i n) w a f c = absurd (cc)
audited_step e g h (Begin t) w a f c = quiet e g h (Begin t) a f c.0 c.1 refl refl
audited_step e g h (Forward t b) w a f c = quiet e g h (Forward t b) a f c.0 c.1 refl refl
audited_step e g h (Done t k v) w a f c = quiet e g h (Done t k v) a f c.0 c.1 refl refl
audited_step e g h (Commit t) w a f c = quiet e g h (Commit t) a f c.0 c.1 refl refl
audited_step e g h (Ended t) w a f c = quiet e g h (Ended t) a f c.0 c.1 refl refl
audited_step e g h (Solo t p b) w a f c = quiet e g h (Solo t p b) a f c.0 c.1 refl refl
audited_step e g h AuditBegin w a f c = record {
  count = omega (arith, c.0, a.count, number_more e AuditBegin);
  below = λ b x. ⊎_elim (λ y. omega (arith, c.0, (Decides-eqb g.count b).0 y)) (λ y. omega (arith, c.0, a.below b y)) (or_cases (g.count == b) (has g.audits b) (subst (λ xs. has xs b ≡ true) c.1 x));
  clean = ⊎_elim (λ x. inl (clean_more e AuditBegin ∙ x)) (λ x. inr (omega (arith, x, clean_more e AuditBegin, number_more e AuditBegin))) a.clean;
  fails = λ x. failing_more e AuditBegin ∙ a.fails f;
}
audited_step e g h (AuditClean b) w a f c = record {
  count = omega (arith, c.0, a.count, number_more e (AuditClean b));
  below = λ k x. omega (arith, c.0, a.below k (subst (λ xs. has xs k ≡ true) c.1 x));
  clean = inr (omega (arith, clean_more e (AuditClean b), number_more e (AuditClean b), a.below b c.3, a.count, not_above));
  fails = λ x. failing_more e (AuditClean b) ∙ a.fails f;
}
  where
    not_above : clean_place e ≤ next_number e
    not_above = ⊎_elim (λ x. omega (arith, x)) (λ x. omega (arith, x)) a.clean
audited_step e g h (AuditFail b rs) w a f c = record {
  count = omega (arith, c.0, a.count, number_more e (AuditFail b rs));
  below = λ k x. omega (arith, c.0, a.below k (subst (λ xs. has xs k ≡ true) c.1 x));
  clean = ⊎_elim (λ x. inl (clean_more e (AuditFail b rs) ∙ x)) (λ x. inr (omega (arith, x, clean_more e (AuditFail b rs), number_more e (AuditFail b rs)))) a.clean;
  fails = λ x. absurd (both_ways h.failed x c.2);
}
audited_step e g h (Restarted rs ds) w a f c = absurd (cc)
audited_step e g h (Back t b) w a f c = quiet e g h (Back t b) a f c.0 c.1 refl refl

-- what the rules know where an epoch begins
pub record Began (s : Sizes) (e : Epoch) : Type 0 where
  pub start : Rules
  pub count : start.count ≡ e.first
  pub audits : start.audits ≡ []
  pub failed : start.failed ≡ false
  pub allowed : IsSome (fold (rules_next s) (Some start) e.records)

-- the last step of a walk that is allowed
pub last_step : (s : Sizes) (g : Rules) (E : List Record) (r : Record) (h : Rules) → fold (rules_next s) (Some g) (E ++ r ∷ []) ≡ Some h → (m : Rules) × (fold (rules_next s) (Some g) E ≡ Some m) × (rules_step s m r ≡ Some h)
last_step s g E r h e = by_state (fold (rules_next s) (Some g) E) refl (sym (fold_push (rules_next s) (Some g) E r) ∙ e)
  where
    by_state : (o : Option Rules) → fold (rules_next s) (Some g) E ≡ o → rules_next s o r ≡ Some h → (m : Rules) × (fold (rules_next s) (Some g) E ≡ Some m) × (rules_step s m r ≡ Some h)
    by_state None f q = absurd (cc)
    by_state (Some m) f q = (m, f, q)

pub audited : (s : Sizes) (f : ℕ) (start : Rules) → start.count ≡ f → start.audits ≡ [] → (E : List Record) → IsWithin E → (g : Rules) → fold (rules_next s) (Some start) E ≡ Some g → Audited (record { first = f; records = E }) g
audited s f start n none = by_push (λ E. IsWithin E → (g : Rules) → fold (rules_next s) (Some start) E ≡ Some g → Audited (record { first = f; records = E }) g) first step
  where
    first : IsWithin [] → (g : Rules) → Some start ≡ Some g → Audited (record { first = f; records = [] }) g
    first w g e = subst (Audited (record { first = f; records = [] })) (sym (some_rules start g e)) (record {
      count = omega (arith, n);
      below = λ b x. let y : has [] b ≡ true = subst (λ xs. has xs b ≡ true) none x in absurd (cc);
      clean = inl refl;
      fails = λ x. refl;
    })

    step : (E : List Record) (r : Record) → (IsWithin E → (g : Rules) → fold (rules_next s) (Some start) E ≡ Some g → Audited (record { first = f; records = E }) g)
        → IsWithin (E ++ r ∷ []) → (g : Rules) → fold (rules_next s) (Some start) (E ++ r ∷ []) ≡ Some g → Audited (record { first = f; records = E ++ r ∷ [] }) g
    step E r ih w g e =
        let in' = IsWithin-front E r w in
        let m = last_step s start E r g e in
        let c = step_changes s m.0 g r in'.1 m.2 in
        audited_step (record { first = f; records = E }) m.0 g r in'.1 (ih in'.0 m.0 m.1) c.0 c.1

-- ---- the clean place, from a number at or below it on
clean_max : (R : List Record) (p : ℕ) → fold clean_step p R ≡ max p (fold clean_step 0 R)
clean_max [] p = omega arith
clean_max (r ∷ R) p = by_step (clean_step p r) (clean_step 0 r) (step_max r) (clean_max R (clean_step p r)) (clean_max R (clean_step 0 r))
  where
    step_max : (q : Record) → clean_step p q ≡ max p (clean_step 0 q)
    step_max (Format i h) = omega arith
    step_max (Begin t) = omega arith
    step_max (Forward t b) = omega arith
    step_max (Done t c a) = omega arith
    step_max (Commit t) = omega arith
    step_max (Ended t) = omega arith
    step_max (Solo t u b) = omega arith
    step_max AuditBegin = omega arith
    step_max (AuditClean b) = omega arith
    step_max (AuditFail b rs) = omega arith
    step_max (Restarted rs ds) = omega arith
    step_max (Back t b) = omega arith

    by_step : (x y : ℕ) → x ≡ max p y → fold clean_step x R ≡ max x (fold clean_step 0 R) → fold clean_step y R ≡ max y (fold clean_step 0 R) → fold clean_step x R ≡ max p (fold clean_step y R)
    by_step x y a b c = omega (arith, a, b, c)

clean_from : (R : List Record) (p q : ℕ) → p ≤ q → q ≤ fold clean_step p R → fold clean_step q R ≡ fold clean_step p R
clean_from R p q h k = omega (arith, h, k, clean_max R p, clean_max R q)

pub clean_rises : (R : List Record) (p : ℕ) → p ≤ fold clean_step p R
clean_rises R p = omega (arith, clean_max R p)

pub front_some : (s : Sizes) (g : Rules) (P R : List Record) → IsSome (fold (rules_next s) (Some g) (P ++ R)) → (m : Rules) × (fold (rules_next s) (Some g) P ≡ Some m) × IsSome (fold (rules_next s) (Some m) R)
front_some s g P R h = by_state (fold (rules_next s) (Some g) P) refl (subst IsSome (fold-append (rules_next s) (Some g) P R) h)
  where
    by_state : (o : Option Rules) → fold (rules_next s) (Some g) P ≡ o → IsSome (fold (rules_next s) o R) → (m : Rules) × (fold (rules_next s) (Some g) P ≡ Some m) × IsSome (fold (rules_next s) (Some m) R)
    by_state None f q = let z : false ≡ true = rw (fold_stays (rules_next s) None (λ r. refl) R) at q in absurd (cc)
    by_state (Some m) f q = (m, f, q)

pub damage_is :
    (s : Sizes) (f n : ℕ) (P R : List Record) → Began s (record { first = f; records = P ++ R }) → IsWithin (P ++ R) → length P ≡ n - f → n ≤ clean_place (record { first = f; records = P ++ R })
    → (fold clean_step (max n f) R ≡ fold clean_step f (P ++ R)) × (fold failing_step [] R ≡ fold failing_step [] (P ++ R))
damage_is s f n P R began within size low = (clean_is, sym (fold-append failing_step [] P R ∙ by_rest R refl))
  where
    m : (g : Rules) × (fold (rules_next s) (Some began.start) P ≡ Some g) × IsSome (fold (rules_next s) (Some g) R)
    m = front_some s began.start P R began.allowed

    front : Audited (record { first = f; records = P }) m.0
    front = audited s f began.start began.count began.audits P (IsWithin-parts P R within).0 m.0 m.1

    c0 : ℕ
    c0 = fold clean_step f P

    all : fold clean_step f (P ++ R) ≡ fold clean_step c0 R
    all = fold-append clean_step f P R

    front_low : c0 ≤ max n f
    front_low = ⊎_elim (λ x. omega (arith, x)) (λ x. omega (arith, x, size)) front.clean

    clean_is : fold clean_step (max n f) R ≡ fold clean_step f (P ++ R)
    clean_is = clean_from R c0 (max n f) front_low (omega (arith, low, all, clean_rises (P ++ R) f)) ∙ sym all

    by_rest : (Q : List Record) → R ≡ Q → fold failing_step (fold failing_step [] P) R ≡ fold failing_step [] R
    by_rest [] e = rw e (none (⊎_elim (λ x. inl x) (λ x. absurd (omega (arith, x, size, low, all, clean_rises P f, ap (fold clean_step c0) e))) front.clean))
      where
        none : (c0 ≡ f) ⊎ ⊥ → fold failing_step [] P ≡ []
        none x = by_list P refl
          where
            by_list : (Z : List Record) → P ≡ Z → fold failing_step [] P ≡ []
            by_list [] g = rw g refl
            by_list (z ∷ Z) g = absurd (⊎_elim (λ y. omega (arith, y, size, low, all, ap (fold clean_step c0) e, ap length g)) (λ y. y) x)
    by_rest (r ∷ Q) e = ap (λ x. fold failing_step x R) (front.fails (ok m.2))
      where
        ok : IsSome (fold (rules_next s) (Some m.0) R) → m.0.failed ≡ false
        ok some = by_step (rules_step s m.0 r) refl (subst (λ Z. IsSome (fold (rules_next s) (Some m.0) Z)) e some)
          where
            mine : separates r ≡ false
            mine = (IsWithin-parts P R within).1 0 r (ap (λ (Z : List Record). slice_get Z 0) e)

            by_step : (o : Option Rules) → rules_step s m.0 r ≡ o → IsSome (fold (rules_next s) o Q) → m.0.failed ≡ false
            by_step None q z = let y : false ≡ true = rw (fold_stays (rules_next s) None (λ r. refl) Q) at z in absurd (cc)
            by_step (Some h) q z = (step_changes s m.0 h r mine q).0

-- ---- each epoch of a log that the rules allow begins so
Now : Sizes → List Record → Cut → Type 0
Now s L c = AllByRecursion (Began s) c.closed × ((g : Rules) × (g.count ≡ c.now.first) × (g.audits ≡ []) × (g.failed ≡ false) × (rules_state s L ≡ fold (rules_next s) (Some g) c.now.records)) × IsWithin c.now.records × (next_number c.now ≡ length L)

within_none : IsWithin []
within_none i r e = absurd (cc)

Plain : Sizes → List Record → Record → Type 0
Plain s L r = Now s (L ++ r ∷ []) (record { closed = (cut L).closed; now = record { first = (cut L).now.first; records = (cut L).now.records ++ r ∷ [] } })

now_more : (s : Sizes) (L : List Record) (r : Record) → Now s L (cut L) → separates r ≡ false → Plain s L r
unfolding Now Plain
now_more s L r n e = (n.0, (n.1.0, n.1.1, n.1.2, n.1.3, rules_state_push s L r ∙ (ap (λ o. rules_next s o r) n.1.4 ∙ sym (fold_push (rules_next s) (Some n.1.0) (cut L).now.records r))), within_push (cut L).now.records r n.2 e, omega (arith, n.3, length_more (cut L).now.records r, length_more L r))

pub restart_step : (s : Sizes) (g h : Rules) (rs ds : List ℕ) → rules_step s g (Restarted rs ds) ≡ Some h → (h.count ≡ g.count + 1) × (h.audits ≡ []) × (h.failed ≡ false)
restart_step s g h rs ds e = by_test (g.count == 0) e
  where
    by_test : (c : Bool) → cond c (rules_first s g (Restarted rs ds)) (rules_behind s g (Restarted rs ds)) ≡ Some h → (h.count ≡ g.count + 1) × (h.audits ≡ []) × (h.failed ≡ false)
    by_test true q = absurd (cc)
    by_test false q = let k = (kept_if_some (not g.restarted) (restarts g (Restarted rs ds)) h q).1 in (ap (λ (x : Rules). x.count) k, ap (λ (x : Rules). x.audits) k, ap (λ (x : Rules). x.failed) k)

pub format_step : (s : Sizes) (i k : ℕ) (h : Rules) → rules_state s (Format i k ∷ []) ≡ Some h → (h.count ≡ 1) × (h.audits ≡ []) × (h.failed ≡ false)
format_step s i k h e = let w = (kept_if_some _ (passes rules_start (Format i k)) h e).1 in (ap (λ (x : Rules). x.count) w, ap (λ (x : Rules). x.audits) w, ap (λ (x : Rules). x.failed) w)

now_step : (s : Sizes) (L : List Record) (r : Record) (h : Rules) → rules_state s (L ++ r ∷ []) ≡ Some h → Now s L (cut L) → Now s (L ++ r ∷ []) (cut_step (cut L) r)
unfolding Now Plain
now_step s L (Format i k) h e n =
    let empty : L ≡ [] = format_first s L i k h e in
    let w = format_step s i k h (subst (λ M. rules_state s (M ++ Format i k ∷ []) ≡ Some h) empty e) in
    let size : length L ≡ 0 = ap length empty in
    (n.0, (h, omega (arith, w.0, n.3, size), w.1, w.2, e), within_none, omega (arith, n.3, length_more L (Format i k)))
now_step s L (Begin t) h e n = now_more s L (Begin t) n refl
now_step s L (Forward t b) h e n = now_more s L (Forward t b) n refl
now_step s L (Done t c a) h e n = now_more s L (Done t c a) n refl
now_step s L (Commit t) h e n = now_more s L (Commit t) n refl
now_step s L (Ended t) h e n = now_more s L (Ended t) n refl
now_step s L (Solo t p b) h e n = now_more s L (Solo t p b) n refl
now_step s L AuditBegin h e n = now_more s L AuditBegin n refl
now_step s L (AuditClean b) h e n = now_more s L (AuditClean b) n refl
now_step s L (AuditFail b rs) h e n = now_more s L (AuditFail b rs) n refl
now_step s L (Restarted rs ds) h e n =
    let b = rules_before s L (Restarted rs ds) h e in
    let w = restart_step s b.0 h rs ds b.2 in
    let walk : fold (rules_next s) (Some n.1.0) (cut L).now.records ≡ Some b.0 = sym n.1.4 ∙ b.1 in
    let here : Audited (record { first = (cut L).now.first; records = (cut L).now.records }) b.0 = audited s (cut L).now.first n.1.0 n.1.1 n.1.2 (cut L).now.records n.2 b.0 walk in
    let closed : Began s (cut L).now = record { start = n.1.0; count = n.1.1; audits = n.1.2; failed = n.1.3; allowed = rw walk refl } in
    (all_push (Began s) (cut L).closed (cut L).now n.0 closed, (h, omega (arith, w.0, here.count), w.1, w.2, e), within_none, omega (arith, n.3, length_more L (Restarted rs ds)))
now_step s L (Back t b) h e n = now_more s L (Back t b) n refl

pub begun_epochs : (s : Sizes) (L : List Record) → IsSome (rules_state s L) → AllEpochs (Began s) L
unfolding Now
begun_epochs s L some = by_state (rules_state s L) refl some
  where
    step : (M : List Record) (r : Record) → ((h : Rules) → rules_state s M ≡ Some h → Now s M (cut M)) → (h : Rules) → rules_state s (M ++ r ∷ []) ≡ Some h → Now s (M ++ r ∷ []) (cut (M ++ r ∷ []))
    step M r ih h e = subst (Now s (M ++ r ∷ [])) (sym (cut_push M r)) (now_step s M r h e (let b = rules_before s M r h e in ih b.0 b.1))

    start : (h : Rules) → rules_state s [] ≡ Some h → Now s [] (cut [])
    start h e = (tt, (rules_start, refl, refl, refl, refl), within_none, refl)

    by_state : (o : Option Rules) → rules_state s L ≡ o → IsSome o → AllEpochs (Began s) L
    by_state None e q = absurd (cc)
    by_state (Some g) e q =
        let n : Now s L (cut L) = by_push (λ M. (h : Rules) → rules_state s M ≡ Some h → Now s M (cut M)) start step L g e in
        (n.0, record { start = n.1.0; count = n.1.1; audits = n.1.2; failed = n.1.3; allowed = subst IsSome n.1.4 some })

-- what the rules know of the last epoch
pub audited_now : (s : Sizes) (L : List Record) (h : Rules) → rules_state s L ≡ Some h → Audited (last_epoch L) h × (next_number (last_epoch L) ≡ length L)
unfolding Now
audited_now s L h e =
    let n : Now s L (cut L) = by_push (λ M. (g : Rules) → rules_state s M ≡ Some g → Now s M (cut M)) start step L h e in
    (audited s (cut L).now.first n.1.0 n.1.1 n.1.2 (cut L).now.records n.2 h (sym n.1.4 ∙ e), n.3)
  where
    step : (M : List Record) (r : Record) → ((g : Rules) → rules_state s M ≡ Some g → Now s M (cut M)) → (g : Rules) → rules_state s (M ++ r ∷ []) ≡ Some g → Now s (M ++ r ∷ []) (cut (M ++ r ∷ []))
    step M r ih g q = subst (Now s (M ++ r ∷ [])) (sym (cut_push M r)) (now_step s M r g q (let b = rules_before s M r g q in ih b.0 b.1))

    start : (g : Rules) → rules_state s [] ≡ Some g → Now s [] (cut [])
    start g q = (tt, (rules_start, refl, refl, refl, refl), within_none, refl)
