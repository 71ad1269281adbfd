-- The counts that the rules keep are those of the list.
use Rattle.std.proofs.Common.{◌≡◌, ℕ, ◌+◌, Bool, true, false, cond, List, [], ◌∷◌, ◌++◌, length, Option, Some, None, refl, ap, sym, ◌∙◌, arith}
use Rattle.std.specs.Prelude.{◌==◌, sum_by, fold, IsSome, filter_map}
use Rattle.std.proofs.lemmas.List.Sums.{fold_push, sum_by_push}
use Rattle.dali_geometry.specs.Sizes.{Sizes}
use Rattle.dali_record.specs.declared.records.Record.{Record}
use Rattle.dali_record.specs.declared.records.Record.TheVariants.{Format, Begin, Forward, Done, Commit, Ended, Solo, AuditBegin, AuditClean, AuditFail, Restarted, Back}
use Rattle.dali_record.specs.Spelling.{record_length}
use Rattle.dali_record.specs.Legal.{Rules, rules_state, rules_next, rules_step, rules_first, rules_behind, runs, kept_if, passes, restarts, TxnState, txn_next}
use Rattle.dali_record.proofs.Ends.{by_push}
use Rattle.dali_record.proofs.Pushes.{rules_state_push}
use Rattle.dali_record.specs.Files.{draws, next_after}
use Rattle.std.proofs.lemmas.List.{append-nil, length_push}
use Rattle.std.proofs.lemmas.List.Elements.{filter_map-append}
use Rattle.dali_runs.specs.Counts.Counts.{next_with}

-- one more than the number of Begins and solos
abbrev pub numbers : List Record → ℕ
numbers L = fold (λ n x. next_with x n) 1 L

abbrev pub Tells : ℕ → ℕ → ℕ → Option Rules → Type 0
Tells n w k o = (g : Rules) → o ≡ Some g → (g.count ≡ n) × (g.weight ≡ w) × (g.next ≡ k)

pub if_kept : (c : Bool) (g : Rules) → IsSome (kept_if c g) → c ≡ true
if_kept true g h = refl
if_kept false g h = h

pub if_none : (c : Bool) (o : Option Rules) → IsSome (cond c None o) → IsSome o
if_none true o h = absurd (cc)
if_none false o h = h

tells_some : (h : Rules) → Tells h.count h.weight h.next (Some h)
tells_some h g e = let same : h ≡ g = cc in (sym (ap (λ q. q.count) same), sym (ap (λ q. q.weight) same), sym (ap (λ q. q.next) same))

tells_kept : (c : Bool) (h : Rules) → Tells h.count h.weight h.next (kept_if c h)
tells_kept true h = tells_some h
tells_kept false h = λ g e. absurd (cc)

tells_if : (c : Bool) (n w k : ℕ) (o : Option Rules) → Tells n w k o → Tells n w k (cond c None o)
tells_if true n w k o h = λ g e. absurd (cc)
tells_if false n w k o h = h

tells_either : (c : Bool) (n w k : ℕ) (o p : Option Rules) → Tells n w k o → Tells n w k p → Tells n w k (cond c o p)
tells_either true n w k o p h f = h
tells_either false n w k o p h f = f

none_tells : (n w k : ℕ) → Tells n w k None
none_tells n w k g e = absurd (cc)

tells_runs : (s : Sizes) (g : Rules) (x : Record) → Tells (g.count + 1) (g.weight + record_length x) (next_with x g.next) (runs s g x)
tells_runs s g (Format i h) = none_tells _ _ _
tells_runs s g (Begin t) = tells_kept _ (record (passes g (Begin t)) { next = g.next + 1 })
tells_runs s g (Forward t b) = tells_kept _ (passes g (Forward t b))
tells_runs s g (Done t c a) = tells_kept _ (passes g (Done t c a))
tells_runs s g (Commit t) = tells_some (passes g (Commit t))
tells_runs s g (Ended t) = tells_some (passes g (Ended t))
tells_runs s g (Solo t p b) = tells_kept _ (record (passes g (Solo t p b)) { next = g.next + 1 })
tells_runs s g AuditBegin = tells_kept _ (record (passes g AuditBegin) { audits = g.count ∷ g.audits })
tells_runs s g (AuditClean b) = tells_kept _ (record (passes g (AuditClean b)) { closed = b ∷ g.closed })
tells_runs s g (AuditFail b rs) = tells_kept _ (record (passes g (AuditFail b rs)) { closed = b ∷ g.closed; failed = true })
tells_runs s g (Restarted rs ds) = none_tells _ _ _
tells_runs s g (Back t b) = tells_kept _ (passes g (Back t b))

tells_behind : (s : Sizes) (g : Rules) (x : Record) → Tells (g.count + 1) (g.weight + record_length x) (next_with x g.next) (rules_behind s g x)
tells_behind s g (Restarted rs ds) = tells_kept _ (restarts g (Restarted rs ds))
tells_behind s g (Format i h) = tells_if g.failed _ _ _ (runs s g (Format i h)) (tells_runs s g (Format i h))
tells_behind s g (Begin t) = tells_if g.failed _ _ _ (runs s g (Begin t)) (tells_runs s g (Begin t))
tells_behind s g (Forward t b) = tells_if g.failed _ _ _ (runs s g (Forward t b)) (tells_runs s g (Forward t b))
tells_behind s g (Done t c a) = tells_if g.failed _ _ _ (runs s g (Done t c a)) (tells_runs s g (Done t c a))
tells_behind s g (Commit t) = tells_if g.failed _ _ _ (runs s g (Commit t)) (tells_runs s g (Commit t))
tells_behind s g (Ended t) = tells_if g.failed _ _ _ (runs s g (Ended t)) (tells_runs s g (Ended t))
tells_behind s g (Solo t p b) = tells_if g.failed _ _ _ (runs s g (Solo t p b)) (tells_runs s g (Solo t p b))
tells_behind s g AuditBegin = tells_if g.failed _ _ _ (runs s g AuditBegin) (tells_runs s g AuditBegin)
tells_behind s g (AuditClean b) = tells_if g.failed _ _ _ (runs s g (AuditClean b)) (tells_runs s g (AuditClean b))
tells_behind s g (AuditFail b rs) = tells_if g.failed _ _ _ (runs s g (AuditFail b rs)) (tells_runs s g (AuditFail b rs))
tells_behind s g (Back t b) = tells_if g.failed _ _ _ (runs s g (Back t b)) (tells_runs s g (Back t b))

tells_first : (s : Sizes) (g : Rules) (x : Record) → Tells (g.count + 1) (g.weight + record_length x) (next_with x g.next) (rules_first s g x)
tells_first s g (Format i h) = tells_kept _ (passes g (Format i h))
tells_first s g _ = none_tells _ _ _

pub tells_step : (s : Sizes) (g : Rules) (x : Record) → Tells (g.count + 1) (g.weight + record_length x) (next_with x g.next) (rules_step s g x)
tells_step s g x = tells_either (g.count == 0) _ _ _ (rules_first s g x) (rules_behind s g x) (tells_first s g x) (tells_behind s g x)

numbers_push : (L : List Record) (x : Record) → numbers (L ++ x ∷ []) ≡ next_with x (numbers L)
numbers_push L x = fold_push (λ n r. next_with r n) 1 L x

-- the number of records, the sum of their lengths, and one more than the number of their Begins and Solos
pub tallies : (s : Sizes) (L : List Record) → Tells (length L) (sum_by record_length L) (numbers L) (rules_state s L)
tallies s = by_push (λ L. Tells (length L) (sum_by record_length L) (numbers L) (rules_state s L)) (tells_some _) (λ L x here g e. step L x here g (rules_state s L) refl (sym (rules_state_push s L x) ∙ e))
  where
    step : (L : List Record) (x : Record) → Tells (length L) (sum_by record_length L) (numbers L) (rules_state s L) → (g : Rules) (o : Option Rules) → rules_state s L ≡ o → rules_next s o x ≡ Some g → (g.count ≡ length (L ++ x ∷ [])) × (g.weight ≡ sum_by record_length (L ++ x ∷ [])) × (g.next ≡ numbers (L ++ x ∷ []))
    step L x here g None e f = absurd (cc)
    step L x here g (Some h) e f =
        let before : (h.count ≡ length L) × (h.weight ≡ sum_by record_length L) × (h.next ≡ numbers L) = here h e in
        let now : (g.count ≡ h.count + 1) × (g.weight ≡ h.weight + record_length x) × (g.next ≡ next_with x h.next) = tells_step s h x g f in
        (now.0 ∙ (ap (λ n. n + 1) before.0 ∙ sym (length_push L x)), now.1 ∙ (ap (λ n. n + record_length x) before.1 ∙ sym (sum_by_push record_length L x)), now.2 ∙ (ap (next_with x) before.2 ∙ sym (numbers_push L x)))

-- ---- transactions
pub next_some : (s : Sizes) (t : ℕ) (o : Option TxnState) (x : Record) → IsSome (txn_next s t o x) → IsSome o
next_some s t None x h = h
next_some s t (Some st) x h = refl

-- ---- numbers
drawn_push : (L : List Record) (x : Record) (n : ℕ) → next_after L ≡ n → next_after (L ++ x ∷ []) ≡ next_with x n
drawn_push L x n e = ap (λ l. length l + 1) (filter_map-append draws L (x ∷ [])) ∙ one x
  where
    one : (y : Record) → length (filter_map draws L ++ filter_map draws (y ∷ [])) + 1 ≡ next_with y n
    one (Format i h) = omega (arith, e, ap length (append-nil (filter_map draws L)))
    one (Begin t) = omega (arith, e, length_push (filter_map draws L) t)
    one (Forward t b) = omega (arith, e, ap length (append-nil (filter_map draws L)))
    one (Done t c a) = omega (arith, e, ap length (append-nil (filter_map draws L)))
    one (Commit t) = omega (arith, e, ap length (append-nil (filter_map draws L)))
    one (Ended t) = omega (arith, e, ap length (append-nil (filter_map draws L)))
    one (Solo t p b) = omega (arith, e, length_push (filter_map draws L) t)
    one AuditBegin = omega (arith, e, ap length (append-nil (filter_map draws L)))
    one (AuditClean b) = omega (arith, e, ap length (append-nil (filter_map draws L)))
    one (AuditFail b rs) = omega (arith, e, ap length (append-nil (filter_map draws L)))
    one (Restarted rs ds) = omega (arith, e, ap length (append-nil (filter_map draws L)))
    one (Back t b) = omega (arith, e, ap length (append-nil (filter_map draws L)))

pub numbers_drawn : (L : List Record) → numbers L ≡ next_after L
numbers_drawn = by_push (λ L. numbers L ≡ next_after L) refl (λ L x here. numbers_push L x ∙ sym (drawn_push L x (numbers L) (sym here)))
