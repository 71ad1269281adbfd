-- An audit that was just begun is open.
use Rattle.std.proofs.Common.{◌≡◌, ℕ, ◌+◌, ◌<◌, Bool, true, false, cond, List, [], ◌∷◌, Option, Some, None, refl, ap, sym, subst, ◌∙◌, arith}
use Rattle.std.specs.Prelude.{◌==◌, ◌&&◌, ◌||◌, not}
use Rattle.std.proofs.lemmas.Bool.{le-leb, eqb-true}
use Rattle.std.proofs.lemmas.List.{length_push}
use Rattle.dali_lists.proofs.Numbers.{eqb-self}
use Rattle.dali_lists.proofs.Options.{some_same}
use Rattle.dali_lists.proofs.Tests.{left_true, right_true}
use Rattle.dali_geometry.specs.Sizes.{Sizes}
use Rattle.dali_record.specs.declared.records.Record.{Record}
use Rattle.dali_record.specs.declared.records.Record.TheVariants.{Format, Begin, Forward, Done, Commit, Ended, Solo, AuditBegin, AuditClean, AuditFail, Restarted, Back}
use Rattle.dali_record.specs.Damage.{has}
use Rattle.dali_record.specs.Epochs.{Epoch, last_epoch, next_number}
use Rattle.dali_record.specs.Legal.{Rules, rules_state, rules_next, rules_first, rules_behind, runs, kept_if, passes, room}
use Rattle.dali_record.proofs.Ends.{by_push}
use Rattle.dali_record.proofs.Pushes.{rules_state_push}
use Rattle.dali_runs.specs.Audits.{AuditStarts, AuditGoesOn, ends_audit}
use Rattle.dali_runs.proofs.OneMore.{last_epoch-push, is_inside}
use Rattle.dali_runs.proofs.RecordSteps.{rule_of}
use Rattle.dali_runs.proofs.AuditSteps.{begin_rule}

-- every audit that was begun or ended has a number below the count
abbrev Below : ℕ → List ℕ → Type 0
Below n xs = (b : ℕ) → has xs b ≡ true → b < n

abbrev AreBelow : Rules → Type 0
AreBelow g = Below g.count g.audits × Below g.count g.closed

abbrev Holds : Option Rules → Type 0
Holds o = (g : Rules) → o ≡ Some g → AreBelow g

holds_some : (h : Rules) → AreBelow h → Holds (Some h)
holds_some h p g e = let same : h ≡ g = cc in subst AreBelow same p

holds_none : Holds None
holds_none g e = absurd (cc)

holds_kept : (c : Bool) (h : Rules) → (c ≡ true → AreBelow h) → Holds (kept_if c h)
holds_kept true h p = holds_some h (p refl)
holds_kept false h p = holds_none

more : (n : ℕ) (xs : List ℕ) → Below n xs → Below (n + 1) xs
more n xs h b e = omega (arith, h b e)

none_below : (n : ℕ) → Below n []
none_below n b e = absurd (cc)

cons_below : (n m : ℕ) (xs : List ℕ) → m < n → Below n xs → Below n (m ∷ xs)
cons_below n m xs h k b e = by_test (m == b) refl e
  where
    by_test : (c : Bool) → (m == b) ≡ c → (c || has xs b) ≡ true → b < n
    by_test true f g = subst (λ z. z < n) (eqb-true m b f) h
    by_test false f g = k b g

-- records that leave both lists
same_lists : (g h : Rules) → AreBelow g → h.count ≡ g.count + 1 → h.audits ≡ g.audits → h.closed ≡ g.closed → AreBelow h
same_lists g h p c a e = (λ b k. omega (arith, c, p.0 b (rw a at k)), λ b k. omega (arith, c, p.1 b (rw e at k)))

runs_below : (s : Sizes) (g : Rules) (x : Record) → AreBelow g → Holds (runs s g x)
runs_below s g (Format i h) p = holds_none
runs_below s g (Begin t) p = holds_kept _ _ (λ k. same_lists g (passes g (Begin t)) p refl refl refl)
runs_below s g (Forward t b) p = holds_kept _ _ (λ k. same_lists g (passes g (Forward t b)) p refl refl refl)
runs_below s g (Done t c a) p = holds_kept _ _ (λ k. same_lists g (passes g (Done t c a)) p refl refl refl)
runs_below s g (Commit t) p = holds_some _ (same_lists g (passes g (Commit t)) p refl refl refl)
runs_below s g (Ended t) p = holds_some _ (same_lists g (passes g (Ended t)) p refl refl refl)
runs_below s g (Solo t q b) p = holds_kept _ _ (λ k. same_lists g (passes g (Solo t q b)) p refl refl refl)
runs_below s g AuditBegin p = holds_kept _ _ (λ k. (cons_below (g.count + 1) g.count g.audits (omega arith) (more g.count g.audits p.0), more g.count g.closed p.1))
runs_below s g (AuditClean b) p = holds_kept _ _ (λ k. (more g.count g.audits p.0, cons_below (g.count + 1) b g.closed (omega (arith, p.0 b (left_true (has g.audits b) _ k))) (more g.count g.closed p.1)))
runs_below s g (AuditFail b rs) p = holds_kept _ _ (λ k. (more g.count g.audits p.0, cons_below (g.count + 1) b g.closed (omega (arith, p.0 b (left_true (has g.audits b) _ (left_true (has g.audits b && not (has g.closed b)) _ k)))) (more g.count g.closed p.1)))
runs_below s g (Restarted rs ds) p = holds_none
runs_below s g (Back t b) p = holds_kept _ _ (λ k. same_lists g (passes g (Back t b)) p refl refl refl)

if_below : (c : Bool) (o : Option Rules) → Holds o → Holds (cond c None o)
if_below true o h = holds_none
if_below false o h = h

behind_below : (s : Sizes) (g : Rules) (x : Record) → AreBelow g → Holds (rules_behind s g x)
behind_below s g (Restarted rs ds) p = holds_kept _ _ (λ k. (none_below _, none_below _))
behind_below s g (Format i h) p = if_below g.failed _ (runs_below s g (Format i h) p)
behind_below s g (Begin t) p = if_below g.failed _ (runs_below s g (Begin t) p)
behind_below s g (Forward t b) p = if_below g.failed _ (runs_below s g (Forward t b) p)
behind_below s g (Done t c a) p = if_below g.failed _ (runs_below s g (Done t c a) p)
behind_below s g (Commit t) p = if_below g.failed _ (runs_below s g (Commit t) p)
behind_below s g (Ended t) p = if_below g.failed _ (runs_below s g (Ended t) p)
behind_below s g (Solo t q b) p = if_below g.failed _ (runs_below s g (Solo t q b) p)
behind_below s g AuditBegin p = if_below g.failed _ (runs_below s g AuditBegin p)
behind_below s g (AuditClean b) p = if_below g.failed _ (runs_below s g (AuditClean b) p)
behind_below s g (AuditFail b rs) p = if_below g.failed _ (runs_below s g (AuditFail b rs) p)
behind_below s g (Back t b) p = if_below g.failed _ (runs_below s g (Back t b) p)

first_below : (s : Sizes) (g : Rules) (x : Record) → AreBelow g → Holds (rules_first s g x)
first_below s g (Format i h) p = holds_kept _ _ (λ k. same_lists g (passes g (Format i h)) p refl refl refl)
first_below s g _ p = holds_none

next_below : (s : Sizes) (o : Option Rules) (x : Record) → Holds o → Holds (rules_next s o x)
next_below s None x h = holds_none
next_below s (Some g) x h = by_test (g.count == 0)
  where
    by_test : (c : Bool) → Holds (cond c (rules_first s g x) (rules_behind s g x))
    by_test true = first_below s g x (h g refl)
    by_test false = behind_below s g x (h g refl)

pub audits_below : (s : Sizes) (L : List Record) (g : Rules) → rules_state s L ≡ Some g → (b : ℕ) → has g.closed b ≡ true → b < g.count
audits_below s L g e = (all L g e).1
  where
    all : (M : List Record) → Holds (rules_state s M)
    all = by_push (λ M. Holds (rules_state s M)) (holds_some _ (none_below 0, none_below 0)) (λ M x here h f. next_below s (rules_state s M) x here h (sym (rules_state_push s M x) ∙ f))

pub audit_starts : AuditStarts
audit_starts bases L c run none fits = record {
  named = λ g e. named g (some_same (sym e ∙ (rules_state_push s L AuditBegin ∙ rule)));
  within = omega (arith, run.counts.records, run.counts.number, ap (λ (q : Epoch). next_number q) (last_epoch-push L AuditBegin refl), length_push (last_epoch L).records AuditBegin);
}
  where
    s : Sizes
    s = c.system.sizes

    now : Rules
    now = run.counts.now

    rule : rules_next s (rules_state s L) AuditBegin ≡ Some (record (passes now AuditBegin) { audits = now.count ∷ now.audits })
    rule = rule_of bases L c run AuditBegin refl none ∙ begin_rule s now (le-leb (now.weight + 1) room (omega (arith, fits, run.counts.end, run.counts.limit)))

    not_closed : has now.closed now.count ≡ false
    not_closed = by_test (has now.closed now.count) refl
      where
        by_test : (b : Bool) → has now.closed now.count ≡ b → b ≡ false
        by_test false e = refl
        by_test true e = absurd (omega (arith, audits_below s L now run.counts.rules now.count e))

    named_now : (has (now.count ∷ now.audits) now.count && not (has now.closed now.count)) ≡ true
    named_now = rw (eqb-self now.count, not_closed) refl

    named : (g : Rules) → g ≡ record (passes now AuditBegin) { audits = now.count ∷ now.audits } → (has g.audits c.system.records && not (has g.closed c.system.records)) ≡ true
    named g e = subst (λ (h : Rules). (has h.audits c.system.records && not (has h.closed c.system.records)) ≡ true) (sym e) (at_count c.system.records run.counts.records)
      where
        at_count : (n : ℕ) → n ≡ now.count → (has (now.count ∷ now.audits) n && not (has now.closed n)) ≡ true
        at_count n f = subst (λ m. (has (now.count ∷ now.audits) m && not (has now.closed m)) ≡ true) (sym f) named_now

-- ---- the records of others
abbrev Named : Rules → ℕ → Type 0
Named g b = (has g.audits b && not (has g.closed b)) ≡ true

abbrev StaysNamed : Option Rules → ℕ → Type 0
StaysNamed o b = (g : Rules) → o ≡ Some g → Named g b

stays_some : (h : Rules) (b : ℕ) → Named h b → StaysNamed (Some h) b
stays_some h b p g e = subst (λ (k : Rules). Named k b) (some_same e) p

stays_kept : (c : Bool) (h : Rules) (b : ℕ) → Named h b → StaysNamed (kept_if c h) b
stays_kept true h b p g e = stays_some h b p g e
stays_kept false h b p g e = absurd (cc)

stays_none : (b : ℕ) → StaysNamed None b
stays_none b g e = absurd (cc)

stays_if : (c : Bool) (o : Option Rules) (b : ℕ) → StaysNamed o b → StaysNamed (cond c None o) b
stays_if true o b p = stays_none b
stays_if false o b p = p

-- one more begin, and one more end of another audit
begins_more : (a b : ℕ) (audits closed : List ℕ) → (has audits b && not (has closed b)) ≡ true → (has (a ∷ audits) b && not (has closed b)) ≡ true
begins_more a b audits closed p = by_test (a == b)
  where
    by_test : (c : Bool) → ((c || has audits b) && not (has closed b)) ≡ true
    by_test true = right_true (has audits b) (not (has closed b)) p
    by_test false = p

ends_other : (a b : ℕ) (audits closed : List ℕ) → (a == b) ≡ false → (has audits b && not (has closed b)) ≡ true → (has audits b && not (has (a ∷ closed) b)) ≡ true
ends_other a b audits closed e p = rw e p

runs_named : (s : Sizes) (g : Rules) (x : Record) (b : ℕ) → ends_audit b x ≡ false → Named g b → StaysNamed (runs s g x) b
runs_named s g (Format i h) b n p = stays_none b
runs_named s g (Commit t) b n p = stays_some _ b p
runs_named s g (Ended t) b n p = stays_some _ b p
runs_named s g AuditBegin b n p = stays_kept _ _ b (begins_more g.count b g.audits g.closed p)
runs_named s g (AuditClean a) b n p = stays_kept _ _ b (ends_other a b g.audits g.closed n p)
runs_named s g (AuditFail a rs) b n p = stays_kept _ _ b (ends_other a b g.audits g.closed n p)
runs_named s g (Restarted rs ds) b n p = stays_none b
runs_named s g _ b n p = stays_kept _ _ b p

behind_named : (s : Sizes) (g : Rules) (x : Record) (b : ℕ) → ends_audit b x ≡ false → Named g b → StaysNamed (rules_behind s g x) b
behind_named s g (Restarted rs ds) b n p = absurd (cc)
behind_named s g (Format i h) b n p = absurd (cc)
behind_named s g (Begin t) b n p = stays_if g.failed _ b (runs_named s g (Begin t) b n p)
behind_named s g (Forward t q) b n p = stays_if g.failed _ b (runs_named s g (Forward t q) b n p)
behind_named s g (Done t c a) b n p = stays_if g.failed _ b (runs_named s g (Done t c a) b n p)
behind_named s g (Commit t) b n p = stays_if g.failed _ b (runs_named s g (Commit t) b n p)
behind_named s g (Ended t) b n p = stays_if g.failed _ b (runs_named s g (Ended t) b n p)
behind_named s g (Solo t u q) b n p = stays_if g.failed _ b (runs_named s g (Solo t u q) b n p)
behind_named s g AuditBegin b n p = stays_if g.failed _ b (runs_named s g AuditBegin b n p)
behind_named s g (AuditClean a) b n p = stays_if g.failed _ b (runs_named s g (AuditClean a) b n p)
behind_named s g (AuditFail a rs) b n p = stays_if g.failed _ b (runs_named s g (AuditFail a rs) b n p)
behind_named s g (Back t q) b n p = stays_if g.failed _ b (runs_named s g (Back t q) b n p)

first_named : (s : Sizes) (g : Rules) (x : Record) (b : ℕ) → ends_audit b x ≡ false → StaysNamed (rules_first s g x) b
first_named s g (Format i h) b n = absurd (cc)
first_named s g (Restarted rs ds) b n = absurd (cc)
first_named s g _ b n = stays_none b

next_named : (s : Sizes) (o : Option Rules) (x : Record) (b : ℕ) → ends_audit b x ≡ false → StaysNamed o b → StaysNamed (rules_next s o x) b
next_named s None x b n p = stays_none b
next_named s (Some g) x b n p = by_test (g.count == 0)
  where
    by_test : (c : Bool) → StaysNamed (cond c (rules_first s g x) (rules_behind s g x)) b
    by_test true = first_named s g x b n
    by_test false = behind_named s g x b n (p g refl)

goes_inside : (x : Record) (b : ℕ) → ends_audit b x ≡ false → is_inside x ≡ true
goes_inside (Format i h) b n = absurd (cc)
goes_inside (Restarted rs ds) b n = absurd (cc)
goes_inside _ b n = refl

pub audit_goes_on : AuditGoesOn
audit_goes_on s L x b at legal n = record {
  named = λ g e. next_named s (rules_state s L) x b n at.named g (sym (rules_state_push s L x) ∙ e);
  within = omega (arith, at.within, ap (λ (q : Epoch). next_number q) (last_epoch-push L x (goes_inside x b n)), length_push (last_epoch L).records x);
}
