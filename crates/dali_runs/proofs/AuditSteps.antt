-- The steps of an audit keep a run.
use Rattle.std.proofs.Common.{◌≡◌, ℕ, ◌+◌, ◌-◌, ◌≤◌, Bool, true, false, List, [], ◌∷◌, ◌++◌, length, take, Option, Some, refl, ap, sym, subst, ◌∙◌, inr, arith}
use Rattle.std.specs.Prelude.{◌==◌, not, ◌&&◌, slice_get, max, nat_lt}
use Rattle.std.specs.List.{list_all}
use Rattle.std.proofs.lemmas.List.{take-append-le, length_push}
use Rattle.std.proofs.lemmas.Bool.{le-leb, or_parts}
use Rattle.dali_lists.proofs.Numbers.{max_cases}
use Rattle.dali_lists.proofs.Options.{some_same}
use Rattle.dali_geometry.specs.Sizes.{Sizes}
use Rattle.dali_geometry.specs.Places.{regions}
use Rattle.dali_record.specs.declared.records.Record.{Record}
use Rattle.dali_record.specs.declared.records.Record.TheVariants.{AuditBegin, AuditClean, AuditFail}
use Rattle.dali_record.specs.Epochs.{Epoch, last_epoch, next_number, clean_place, clean_step}
use Rattle.dali_record.specs.Damage.{has}
use Rattle.dali_record.specs.Legal.{concerns, Rules, rules_state, rules_next, runs, passes, has_room, room}
use Rattle.dali_record.proofs.Pushes.{rules_state_push}
use Rattle.dali_region.specs.State.{RegionState, checked}
use Rattle.dali_runs.specs.Run.{TableRun, failed_first, blocks_on, certified_on, RegionRun, base_at}
use Rattle.dali_runs.specs.Audits.{Certifies, AuditBeginKeeps, AuditEndKeeps, PassCertifies, PassFinds, CertifiesStays}
use Rattle.dali_runs.proofs.OneMore.{is_inside, one_more, last_epoch-push, clean_place-push, failed_first-push, TableRun-push, LogRun-push, CountRun-push, LockRun-push}
use Rattle.dali_runs.proofs.OneMoreTouch.{RegionRun-off, blocks_on-take}
use Rattle.dali_runs.proofs.Logging.{RunsOn-logged, no_conflict, regions_quiet}
use Rattle.dali_runs.proofs.Protected.{checked_keeps}
use Rattle.dali_runs.proofs.RecordSteps.{not_failed, rule_of}
use Rattle.dali_att.specs.Table.{Table}
use Rattle.dali_record.specs.declared.operations.Pending.{Pending}

TableRun-none : (s : Sizes) (L : List Record) (x : Record) (table : Table Pending) → TableRun s L table → ((u : ℕ) → concerns u x ≡ false) → TableRun s (L ++ x ∷ []) table
TableRun-none s L x table run none = TableRun-push s L x table table run (λ u e. let f : concerns u x ≡ false = none u in absurd (cc)) (λ u e. refl)

-- ---- begin
pub begin_rule : (s : Sizes) (now : Rules) → has_room now AuditBegin ≡ true → runs s now AuditBegin ≡ Some (record (passes now AuditBegin) { audits = now.count ∷ now.audits })
begin_rule s now e = rw e refl

pub audit_begin_keeps : AuditBeginKeeps
audit_begin_keeps bases L c run none fits = RunsOn-logged bases L c run AuditBegin c.system.table c.system.locks c.regions (record {
  plain = refl;
  then = record (passes now AuditBegin) { audits = now.count ∷ now.audits };
  rule = rule_of bases L c run AuditBegin refl none ∙ begin_rule c.system.sizes now (le-leb (now.weight + 1) room (omega (arith, fits, run.counts.end, run.counts.limit)));
  count = refl;
  weight = refl;
  next = refl;
  failed = refl;
  grows = omega arith;
  known = λ u h. refl;
  spelled = tt;
  reads = λ a e. absurd (cc);
  table = TableRun-none c.system.sizes L AuditBegin c.system.table run.table (λ u. refl);
  keeps = λ u k. inr refl;
  fewer = λ u k m e. (e, run.locks.owned u k m e);
  owner = λ a e. absurd (cc);
  whole = refl;
  regions = regions_quiet bases L c run AuditBegin refl refl;
})
  where
    now : Rules
    now = run.counts.now

-- ---- a pass
-- a check changes nothing that a run says of the region, but that a poke may be missed
pub RegionRun-checked : (base : List (List ℕ)) (e : Epoch) (r : ℕ) (g : RegionState) → RegionRun base e r g → RegionRun base e r (checked g)
RegionRun-checked base e r g run = record {
  protected = checked_keeps g run.protected;
  reads = run.reads;
  touches = run.touches;
  sound = run.sound;
  settled = run.settled;
  certified = λ h. run.certified (or_parts g.missed _ h).0;
}

-- a check that answers 0 certifies the blocks so far
pub pass_certifies : PassCertifies
pass_certifies base e b r g run zero_stray h = omega (arith, run.protected.all_sound unpoked, run.touches, blocks_on-take r (b - e.first) e.records)
  where
    first : (p q : Bool) → (p && q) ≡ false → q ≡ true → p ≡ false
    first true q f e = absurd (cc)
    first false q f e = refl

    unpoked : g.poked ≡ false
    unpoked = first g.poked (g.stray == 0) (or_parts g.missed _ h).1 zero_stray

-- one that doesn't finds a stray write
pub pass_finds : PassFinds
pass_finds base e r g run other = by_test g.poked refl
  where
    by_test : (b : Bool) → g.poked ≡ b → b ≡ true
    by_test true f = refl
    by_test false f = let none : (g.stray == 0) ≡ true = ap (λ n. n == 0) (run.protected.no_stray f) in absurd (cc)

-- what a pass found out stays
pub certifies_stays : CertifiesStays
certifies_stays e x b r old new within was grows misses h = rw (take-append-le (b - e.first) e.records (x ∷ []) (omega (arith, within))) (omega (arith, was (misses h), grows))

-- ---- the end

certified-clean :
    (e : Epoch) (b r : ℕ) (g : RegionState) → clean_place e ≤ next_number e → b ≤ next_number e → (g.missed ≡ false → certified_on r e ≤ g.sound) → Certifies e b r g
    → g.missed ≡ false → certified_on r (one_more e (AuditClean b)) ≤ g.sound
certified-clean e b r g c n old here h =
    rw (clean_place-push e (AuditClean b))
    (max_cases (λ m. blocks_on r (take (m - e.first) (e.records ++ AuditClean b ∷ [])) ≤ g.sound) (clean_place e) b
    (rw (take-append-le (clean_place e - e.first) e.records (AuditClean b ∷ []) (omega (arith, c))) (old h))
    (rw (take-append-le (b - e.first) e.records (AuditClean b ∷ []) (omega (arith, n))) (here h)))

certified-fail :
    (e : Epoch) (b r : ℕ) (rs : List ℕ) (g : RegionState) → clean_place e ≤ next_number e → (g.missed ≡ false → certified_on r e ≤ g.sound)
    → g.missed ≡ false → certified_on r (one_more e (AuditFail b rs)) ≤ g.sound
certified-fail e b r rs g c old h =
    rw (clean_place-push e (AuditFail b rs), take-append-le (clean_place e - e.first) e.records (AuditFail b rs ∷ []) (omega (arith, c))) (old h)

clean_within : (L : List Record) (x : Record) (n : ℕ) → is_inside x ≡ true → n ≤ next_number (last_epoch L) → clean_step (clean_place (last_epoch L)) x ≡ n → clean_place (last_epoch (L ++ x ∷ [])) ≤ next_number (last_epoch (L ++ x ∷ []))
clean_within L x n inside h e = rw (last_epoch-push L x inside, clean_place-push (last_epoch L) x, e) (omega (arith, h, length_push (last_epoch L).records x))

clean_rule : (s : Sizes) (o : Option Rules) (now : Rules) (b : ℕ) → o ≡ Some now → (now.count == 0) ≡ false → now.failed ≡ false → (has now.audits b && not (has now.closed b)) ≡ true → rules_next s o (AuditClean b) ≡ Some (record (passes now (AuditClean b)) { closed = b ∷ now.closed })
clean_rule s o now b e f g h = rw (e, f, g, h) refl

fail_rule : (s : Sizes) (o : Option Rules) (now : Rules) (b : ℕ) (rs : List ℕ) → o ≡ Some now → (now.count == 0) ≡ false → now.failed ≡ false → (has now.audits b && not (has now.closed b)) ≡ true → list_all (λ r. nat_lt r (regions s)) rs ≡ true → rules_next s o (AuditFail b rs) ≡ Some (record (passes now (AuditFail b rs)) { closed = b ∷ now.closed; failed = true })
fail_rule s o now b rs e f g h k = rw (e, f, g, h, k) refl

pub audit_end_keeps : AuditEndKeeps
audit_end_keeps bases L c b [] run may = record {
  log = LogRun-push s L x c.system.table run.log table (rw rule refl) refl may.may.spelled (λ a e. absurd (cc)) (no_conflict s L x c.system run.locks (λ a e. absurd (cc)));
  counts = CountRun-push s L x c.system run.counts then refl rule refl refl refl (λ t h. refl) (omega arith) (clean_within L x (max (clean_place (last_epoch L)) b) refl (max_cases (λ m. m ≤ next_number (last_epoch L)) (clean_place (last_epoch L)) b run.counts.clean may.may.auditing.within) refl) _ refl refl refl refl;
  table = table;
  locks = LockRun-push s L x c.system _ run.locks refl refl (λ t k. inr refl) (λ t k m e. (e, run.locks.owned t k m e)) (λ a e. absurd (cc));
  stop = record {
    damage = run.stop.damage ∙ sym (ap (λ e. failed_first e.records) (last_epoch-push L x refl) ∙ failed_first-push (last_epoch L).records x);
    failed = λ g e. let h : g ≡ then = some_same (sym e ∙ (rules_state_push s L x ∙ rule)) in ap (λ q. q.failed) h ∙ run.stop.failed now run.counts.rules;
    store = run.stop.store;
  };
  whole = run.whole;
  base = ap (λ e. length (bases e.first)) (last_epoch-push L x refl) ∙ run.base;
  regions = λ r g e. subst (λ z. RegionRun (bases z.first) z r g) (sym (last_epoch-push L x refl)) (RegionRun-off (base_at bases L) (last_epoch L) x r g (run.regions r g e) refl (certified-clean (last_epoch L) b r g run.counts.clean may.may.auditing.within (run.regions r g e).certified (each r g e)));
}
  where
    s : Sizes
    s = c.system.sizes

    x : Record
    x = AuditClean b

    now : Rules
    now = run.counts.now

    then : Rules
    then = record (passes now x) { closed = b ∷ now.closed }

    rule : rules_next s (rules_state s L) x ≡ Some then
    rule = clean_rule s (rules_state s L) now b run.counts.rules run.counts.some (not_failed bases L c run may.may.runs) (may.may.auditing.named now run.counts.rules)

    table : TableRun s (L ++ x ∷ []) c.system.table
    table = TableRun-none s L x c.system.table run.table (λ u. refl)

    each : (r : ℕ) (g : RegionState) → slice_get c.regions r ≡ Some g → Certifies (last_epoch L) b r g
    each r g e = may.certified r g e refl
audit_end_keeps bases L c b (f ∷ fs) run may = record {
  log = LogRun-push s L x c.system.table run.log table (rw rule refl) refl may.may.spelled (λ a e. absurd (cc)) (no_conflict s L x c.system run.locks (λ a e. absurd (cc)));
  counts = CountRun-push s L x c.system run.counts then refl rule refl refl refl (λ t h. refl) (omega arith) (clean_within L x (clean_place (last_epoch L)) refl run.counts.clean refl) _ refl refl refl refl;
  table = table;
  locks = LockRun-push s L x c.system _ run.locks refl refl (λ t k. inr refl) (λ t k m e. (e, run.locks.owned t k m e)) (λ a e. absurd (cc));
  stop = record {
    damage = sym (ap (λ e. failed_first e.records) (last_epoch-push L x refl) ∙ failed_first-push (last_epoch L).records x);
    failed = λ g e. let h : g ≡ then = some_same (sym e ∙ (rules_state_push s L x ∙ rule)) in ap (λ q. q.failed) h;
    store = λ e. absurd (cc);
  };
  whole = run.whole;
  base = ap (λ e. length (bases e.first)) (last_epoch-push L x refl) ∙ run.base;
  regions = λ r g e. subst (λ z. RegionRun (bases z.first) z r g) (sym (last_epoch-push L x refl)) (RegionRun-off (base_at bases L) (last_epoch L) x r g (run.regions r g e) refl (certified-fail (last_epoch L) b r (f ∷ fs) g run.counts.clean (run.regions r g e).certified));
}
  where
    s : Sizes
    s = c.system.sizes

    x : Record
    x = AuditFail b (f ∷ fs)

    now : Rules
    now = run.counts.now

    then : Rules
    then = record (passes now x) { closed = b ∷ now.closed; failed = true }

    rule : rules_next s (rules_state s L) x ≡ Some then
    rule = fail_rule s (rules_state s L) now b (f ∷ fs) run.counts.rules run.counts.some (not_failed bases L c run may.may.runs) (may.may.auditing.named now run.counts.rules) may.may.numbers

    table : TableRun s (L ++ x ∷ []) c.system.table
    table = TableRun-none s L x c.system.table run.table (λ u. refl)
