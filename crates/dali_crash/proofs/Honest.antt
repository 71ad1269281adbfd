-- From a run in which no damage escapes, the last epoch is honest.
use Rattle.std.proofs.Common.{◌≡◌, ℕ, ◌+◌, ◌-◌, ◌<◌, ◌≤◌, Bool, true, false, cond, List, [], ◌∷◌, ◌++◌, take, drop, Option, Some, None, refl, ap, sym, subst, ◌∙◌, inl, inr, ⊎_elim, arith}
use Rattle.std.specs.Prelude.{IsSome, ◌==◌, slice_get, fold}
use Rattle.std.proofs.lemmas.List.{take-append-drop, take-take}
use Rattle.std.proofs.lemmas.List.Sums.{fold-append}
use Rattle.std.proofs.lemmas.Bool.{cases_lt}
use Rattle.dali_lists.proofs.Lists.{get_within, get_take, length_take}
use Rattle.dali_lists.proofs.Tests.{left_true, right_true}
use Rattle.dali_geometry.specs.Sizes.{Sizes}
use Rattle.dali_geometry.specs.Places.{regions}
use Rattle.dali_record.specs.declared.operations.Block.{Block}
use Rattle.dali_record.specs.declared.records.Record.{Record}
use Rattle.dali_record.specs.declared.records.Record.TheVariants.{Format, Begin, Forward, Done, Commit, Ended, Solo, AuditBegin, AuditClean, AuditFail, Restarted, Back}
use Rattle.dali_record.specs.Log.{Touch, touch_of, touch_in, touch_at}
use Rattle.dali_record.specs.Epochs.{Epoch, Cut, cut, cut_step, last_epoch, clean_place, clean_step}
use Rattle.dali_record.specs.Settled.{IsSoundAt}
use Rattle.dali_record.specs.Legal.{Rules, rules_state, rules_next, rules_first, rules_behind, runs, on_kind, has_room}
use Rattle.dali_record.proofs.Ends.{by_push}
use Rattle.dali_record.proofs.Pushes.{touch_push_cases, touch_within, rules_state_push, cut_push}
use Rattle.dali_record.proofs.Batches.{clean_grows}
use Rattle.dali_record.proofs.EpochRules.{kind_in}
use Rattle.dali_region.specs.State.{RegionState}
use Rattle.dali_history.proofs.ByEpochs.{next_from}
use Rattle.dali_runs.specs.Run.{base_at, RegionRun, blocks_on}
use Rattle.dali_crash.specs.CrashLogs.{cut_to, StopsHonest, UnpokedHonest, UnpokedEscapesNone}
use Rattle.dali_runs.proofs.OneMore.{is_inside, step_inside}
use Rattle.dali_runs.proofs.OneMoreTouch.{before_less, blocks_on-take}
use Rattle.dali_runs.proofs.CountsLemmas.Tallies.{if_kept, if_none}

-- ---- the clean place only rises

clean_cut : (m : ℕ) (e : Epoch) → clean_place (cut_to m e) ≤ clean_place e
clean_cut m e =
    let parts : clean_place e ≡ fold clean_step (clean_place (cut_to m e)) (drop m e.records) = ap (fold clean_step e.first) (sym (take-append-drop m e.records)) ∙ fold-append clean_step e.first (take m e.records) (drop m e.records) in
    omega (arith, parts, clean_grows (clean_place (cut_to m e)) (drop m e.records))

-- ---- each block is on a region of the geometry
abbrev InRange : Sizes → Record → Type 0
InRange s x = (a : Touch) → touch_of x ≡ Some a → a.block.region < regions s

of_block : (s : Sizes) (t p : ℕ) (b : Block) → b.region < regions s → (a : Touch) → Some (record { txn = t; owner = p; block = b }) ≡ Some a → a.block.region < regions s
of_block s t p b h a e = let same : record { txn = t; owner = p; block = b } ≡ a = cc in subst (λ (q : Touch). q.block.region < regions s) same h

ran_within : (s : Sizes) (g : Rules) (x : Record) → IsSome (runs s g x) → InRange s x
ran_within s g (Forward t b) k a e = of_block s t t b (kind_in s b.region b.op (left_true (on_kind s b.region b.op) (has_room g (Forward t b)) (if_kept _ _ k))) a e
ran_within s g (Solo t p b) k a e = of_block s t p b (kind_in s b.region b.op (right_true (t == g.next) (on_kind s b.region b.op) (if_kept _ _ k))) a e
ran_within s g (Back t b) k a e = of_block s t t b (kind_in s b.region b.op (if_kept _ _ k)) a e
ran_within s g _ k a e = absurd (cc)

behind_within : (s : Sizes) (g : Rules) (x : Record) → IsSome (rules_behind s g x) → InRange s x
behind_within s g (Forward t b) k a e = ran_within s g (Forward t b) (if_none g.failed _ k) a e
behind_within s g (Solo t p b) k a e = ran_within s g (Solo t p b) (if_none g.failed _ k) a e
behind_within s g (Back t b) k a e = ran_within s g (Back t b) (if_none g.failed _ k) a e
behind_within s g _ k a e = absurd (cc)

first_within : (s : Sizes) (g : Rules) (x : Record) → IsSome (rules_first s g x) → InRange s x
first_within s g (Format i h) k a e = absurd (cc)
first_within s g _ k a e = absurd (cc)

next_within : (s : Sizes) (o : Option Rules) (x : Record) → IsSome (rules_next s o x) → InRange s x
next_within s None x k = absurd (cc)
next_within s (Some g) x k = by_test (g.count == 0) k
  where
    by_test : (c : Bool) → IsSome (cond c (rules_first s g x) (rules_behind s g x)) → InRange s x
    by_test true h = first_within s g x h
    by_test false h = behind_within s g x h

pub blocks_within : (s : Sizes) (L : List Record) → IsSome (rules_state s L) → (i : ℕ) (a : Touch) → touch_at (last_epoch L).records i ≡ Some a → a.block.region < regions s
blocks_within s = by_push (λ L. IsSome (rules_state s L) → (i : ℕ) (a : Touch) → touch_at (last_epoch L).records i ≡ Some a → a.block.region < regions s) (λ h i a e. absurd (cc)) (λ L x here h. step L x here (rw (rules_state_push s L x) at h))
  where
    in_cut : (c : Cut) (x : Record) → ((i : ℕ) (a : Touch) → touch_at c.now.records i ≡ Some a → a.block.region < regions s) → InRange s x → (b : Bool) → is_inside x ≡ b → (i : ℕ) (a : Touch) → touch_at (cut_step c x).now.records i ≡ Some a → a.block.region < regions s
    in_cut c x old new true e i a f = ⊎_elim (λ p. old i a p.1) (λ p. new a p.1) (touch_push_cases c.now.records x i a (rw (step_inside c x e) at f))
    in_cut c (Format m n) old new false e i a f = absurd (cc)
    in_cut c (Restarted rs ds) old new false e i a f = absurd (cc)
    in_cut c (Begin t) old new false e i a f = absurd (cc)
    in_cut c (Forward t b) old new false e i a f = absurd (cc)
    in_cut c (Done t q r) old new false e i a f = absurd (cc)
    in_cut c (Commit t) old new false e i a f = absurd (cc)
    in_cut c (Ended t) old new false e i a f = absurd (cc)
    in_cut c (Solo t p b) old new false e i a f = absurd (cc)
    in_cut c AuditBegin old new false e i a f = absurd (cc)
    in_cut c (AuditClean b) old new false e i a f = absurd (cc)
    in_cut c (AuditFail b rs) old new false e i a f = absurd (cc)
    in_cut c (Back t b) old new false e i a f = absurd (cc)

    step : (L : List Record) (x : Record) → (IsSome (rules_state s L) → (i : ℕ) (a : Touch) → touch_at (last_epoch L).records i ≡ Some a → a.block.region < regions s) → IsSome (rules_next s (rules_state s L) x) → (i : ℕ) (a : Touch) → touch_at (last_epoch (L ++ x ∷ [])).records i ≡ Some a → a.block.region < regions s
    step L x here h i a e = in_cut (cut L) x (here (next_from s (rules_state s L) x h)) (next_within s (rules_state s L) x h) (is_inside x) refl i a (subst (λ (q : Cut). touch_at q.now.records i ≡ Some a) (cut_push L x) e)

-- ---- honest
pub stops_honest : StopsHonest
stops_honest bases L c m run safe i a e = ⊎_elim (λ lt. inl (as_before (region.sound i a old refl lt))) (λ ge. inr (after_clean ge, safe.named r g at (omega (arith, ge, more)))) (cases_lt (blocks_on r (take i E)) g.sound)
  where
    E : List Record
    E = (last_epoch L).records

    r : ℕ
    r = a.block.region

    short : i < m
    short = omega (arith, touch_within (take m E) i a e, length_take m E)

    old : touch_at E i ≡ Some a
    old = ap touch_in (sym (get_take m i E short)) ∙ e

    has_region : (g : RegionState) × (slice_get c.regions r ≡ Some g)
    has_region = get_within c.regions r (omega (arith, blocks_within c.system.sizes L (rw run.counts.rules refl) i a old, run.whole))

    g : RegionState
    g = has_region.0

    at : slice_get c.regions r ≡ Some g
    at = has_region.1

    region : RegionRun (base_at bases L) (last_epoch L) r g
    region = run.regions r g at

    as_before : IsSoundAt (base_at bases L) E i → IsSoundAt (base_at bases L) (take m E) i
    as_before h = rw (take-take i m E (omega (arith, short)), get_take m i E short) h

    more : blocks_on r (take i E) < blocks_on r (take m E)
    more = rw (take-take i m E (omega (arith, short))) at (before_less r 0 (take m E) i a e refl)

    -- were the block before the clean place, it would be among the first that are sound
    after_clean : g.sound ≤ blocks_on r (take i E) → clean_place (cut_to m (last_epoch L)) ≤ (last_epoch L).first + i
    after_clean ge = ⊎_elim (λ lt. absurd (impossible ge lt)) (λ le. le) (cases_lt ((last_epoch L).first + i) (clean_place (cut_to m (last_epoch L))))
      where
        impossible : g.sound ≤ blocks_on r (take i E) → (last_epoch L).first + i < clean_place (cut_to m (last_epoch L)) → ⊥
        impossible ge lt =
            let n : ℕ = clean_place (last_epoch L) - (last_epoch L).first in
            let in_n : i < n = omega (arith, lt, clean_cut m (last_epoch L)) in
            let there : touch_at (take n E) i ≡ Some a = ap touch_in (get_take n i E in_n) ∙ old in
            let less : blocks_on r (take i E) < blocks_on r (take n E) = rw (take-take i n E (omega (arith, in_n))) at (before_less r 0 (take n E) i a there refl) in
            let sure : blocks_on r (take n E) ≤ g.sound = region.certified (safe.seen r g at) in
            omega (arith, less, sure, ge)

-- ---- without pokes
pub unpoked_honest : UnpokedHonest
unpoked_honest bases L c run clean i a e = region.sound i a e refl (omega (arith, region.protected.all_sound (clean r has_region.0 has_region.1).0, region.touches, before_less r 0 (last_epoch L).records i a e refl))
  where
    r : ℕ
    r = a.block.region

    has_region : (g : RegionState) × (slice_get c.regions r ≡ Some g)
    has_region = get_within c.regions r (omega (arith, blocks_within c.system.sizes L (rw run.counts.rules refl) i a e, run.whole))

    region : RegionRun (base_at bases L) (last_epoch L) r has_region.0
    region = run.regions r has_region.0 has_region.1

pub unpoked_escapes_none : UnpokedEscapesNone
unpoked_escapes_none bases L c m run clean = record {
  seen = λ r g e. (clean r g e).1;
  named = λ r g e h. let region : RegionRun (base_at bases L) (last_epoch L) r g = run.regions r g e in absurd (omega (arith, h, region.protected.all_sound (clean r g e).0, region.touches, blocks_on-take r m (last_epoch L).records));
}
