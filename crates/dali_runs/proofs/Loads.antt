-- A core that was just made is a run.
use Rattle.std.proofs.Common.{◌≡◌, ℕ, zero, suc, ◌+◌, ◌-◌, ◌≤◌, false, List, [], ◌∷◌, length, take, Option, Some, None, refl, ap, sym, subst, ◌∙◌, arith, Bool, true, ◌++◌, cond}
use Rattle.std.specs.Prelude.{IsSome, slice_get, map, ◌==◌, not, ◌&&◌}
use Rattle.std.proofs.lemmas.List.{length-map}
use Rattle.dali_record.specs.declared.records.Record.TheVariants.{Format, Restarted, Begin, Done, Commit, Ended, Solo, AuditBegin, AuditClean, AuditFail, Back, Forward}
use Rattle.dali_record.specs.Log.{Touch, touch_at}
use Rattle.dali_record.specs.Epochs.{Epoch, last_epoch, clean_place, Cut, cut, cut_step}
use Rattle.dali_record.specs.Settled.{words_in}
use Rattle.dali_record.specs.Legal.{TxnState, Unbegun, Active, Committed as Ending, Over, txn_state, Rules, txn_next, rules_next, rules_state, rules_first, rules_behind, kept_if, restarts, passes, rules_start}
use Rattle.dali_region.specs.State.{RegionState, loaded}
use Rattle.dali_region.proofs.Holds.{loaded_keeps}
use Rattle.std.proofs.lemmas.Option.{slice_get_within}
use Rattle.std.proofs.lemmas.List.Elements.{All-from_recursion}
use Rattle.dali_words.specs.Words.{AreWords, AllAreWords}
use Rattle.dali_runs.specs.Run.{IsRow, is_running, failed_first, blocks_on, RegionRun, base_at, LogRun}
use Rattle.dali_runs.specs.Loads.{LoadRuns, FormatRests, EmptyRests}
use Rattle.dali_runs.proofs.CountsLemmas.NewNumbers.{unbegun_above}
use Rattle.dali_runs.proofs.CountsLemmas.Tallies.{tallies}
use Rattle.std.specs.FinMap.{get, empty, get-empty}
use Rattle.std.specs.Ordering.{nat_cmp}
use Rattle.dali_locks.specs.Locks.{lock_cmp}
use Rattle.dali_record.specs.Spelling.{CanBeSpelled}
use Rattle.dali_geometry.specs.Sizes.{Sizes}
use Rattle.dali_record.specs.declared.records.Record.{Record}
use Rattle.dali_record.proofs.Pushes.{rules_state_push, txn_state_push, cut_push}
use Rattle.std.proofs.lemmas.Bool.{ne_eqb}
use Rattle.dali_lists.proofs.Lists.{push-not_nil}
use Rattle.dali_lists.proofs.Numbers.{eqb-self}
use Rattle.dali_lists.proofs.Options.{some_same}
use Rattle.dali_locks.specs.declared.mode.Mode.{Mode}
use Rattle.dali_record.proofs.Ends.{by_push}
use Rattle.dali_record.proofs.EpochRules.{format_first}
use Rattle.dali_record.proofs.Batches.{number_is_length}

idle_row : (o : Option TxnState) → IsSome o → is_running o ≡ false → IsRow o None
idle_row None h e = absurd (cc)
idle_row (Some Unbegun) h e = refl
idle_row (Some (Active w)) h e = absurd (cc)
idle_row (Some (Ending ps)) h e = absurd (cc)
idle_row (Some Over) h e = refl

get_map : (image : List (List ℕ)) (r : ℕ) (g : RegionState) → slice_get (map loaded image) r ≡ Some g → g ≡ loaded (words_in image r)
get_map [] r g e = absurd (cc)
get_map (ws ∷ image) zero g e = cc
get_map (ws ∷ image) (suc r) g e = get_map image r g e

-- the words of such a region
get_region : (image : List (List ℕ)) (r : ℕ) (g : RegionState) → slice_get (map loaded image) r ≡ Some g → slice_get image r ≡ Some (words_in image r)
get_region [] r g e = absurd (cc)
get_region (ws ∷ image) zero g e = refl
get_region (ws ∷ image) (suc r) g e = get_region image r g e

-- a region of an image of words
words_at : (image : List (List ℕ)) (r : ℕ) → AllAreWords image → slice_get image r ≡ Some (words_in image r) → AreWords (words_in image r)
words_at image r all at = All-from_recursion AreWords image all r [] (slice_get_within image r (words_in image r) at)

loaded_run : (base : List (List ℕ)) (first : ℕ) (r : ℕ) → AreWords (words_in base r) → RegionRun base (record { first = first; records = [] }) r (loaded (words_in base r))
loaded_run base first r words = record {
  protected = loaded_keeps (words_in base r) words;
  reads = tt;
  touches = refl;
  sound = λ i a e on below. absurd (cc);
  settled = λ h. refl;
  certified = λ h. no_blocks (first - first);
}
  where
    no_blocks : (n : ℕ) → blocks_on r (take n []) ≤ 0
    no_blocks zero = omega arith
    no_blocks (suc n) = omega arith

pub no_lock : (t k : ℕ) (m : Mode) → get (empty {X = Mode} {R = lock_cmp}) (t, k) ≡ Some m → ⊥
no_lock t k m e = let none : get (empty {X = Mode} {R = lock_cmp}) (t, k) ≡ None = get-empty lock_cmp (t, k) in cc

pub load_runs : LoadRuns
load_runs bases s L g limit v rest fits whole words = record {
  log = rest.log;
  counts = record {
    now = g;
    rules = rest.rules;
    some = rest.some;
    records = refl;
    end = refl;
    next = refl;
    limit = fits;
    fresh = rest.fresh;
    number = number (last_epoch L) rest.none rest.number;
    clean = clean (last_epoch L) rest.none;
  };
  table = λ t. rw (get-empty nat_cmp t) (idle_row (txn_state s t L) (rest.log.legal.txns t) (rest.idle t));
  locks = record {
    held = λ i a e. absurd (no_touch (last_epoch L) i a rest.none e);
    apart = λ t u k m n d e f. absurd (no_lock t k m e);
    owned = λ t k m e. absurd (no_lock t k m e);
    refused = λ n f e. absurd (cc);
  };
  stop = record {
    damage = sym (ap failed_first rest.none);
    failed = λ h e. let same : h ≡ g = some_same (sym e ∙ rest.rules) in ap (λ q. q.failed) same ∙ rest.failed;
    store = λ e. absurd (cc);
  };
  whole = length-map (base_at bases L) loaded ∙ whole;
  base = whole;
  regions = λ r h e. subst (λ z. RegionRun (bases z.first) z r h) (as_empty (last_epoch L) rest.none) (subst (λ z. RegionRun (base_at bases L) (record { first = (last_epoch L).first; records = [] }) r z) (sym (get_map (base_at bases L) r h e)) (loaded_run (base_at bases L) (last_epoch L).first r (words_at (base_at bases L) r words (get_region (base_at bases L) r h e))));
}
  where
    number : (e : Epoch) → e.records ≡ [] → e.first ≡ g.count → e.first + length e.records ≡ g.count
    number e n f = omega (arith, f, ap length n)

    clean : (e : Epoch) → e.records ≡ [] → clean_place e ≤ e.first + length e.records
    clean e n = rw n (omega arith)

    no_touch : (e : Epoch) (i : ℕ) (a : Touch) → e.records ≡ [] → touch_at e.records i ≡ Some a → ⊥
    no_touch e i a n t = let h = rw n at t in cc

    as_empty : (e : Epoch) → e.records ≡ [] → record { first = e.first; records = [] } ≡ e
    as_empty e n = ap (λ rs. record { first = e.first; records = rs }) (sym n)

pub format_rests : FormatRests
format_rests s fits = record {
  log = record {
    format = refl;
    spelled = only fits;
    legal = record { rules = rw (eqb-self s.index, eqb-self s.heap) refl; txns = λ t. refl; scans = λ n rs ds e. absurd (no_restart n rs ds e); reads = no_reads };
    locks = (tt, λ i j a b lt p q c. absurd (cc));
  };
  rules = rw (eqb-self s.index, eqb-self s.heap) refl;
  some = refl;
  failed = refl;
  none = refl;
  number = refl;
  idle = λ t. refl;
  fresh = λ t h. refl;
}
  where
    only : CanBeSpelled (Format s.index s.heap) → (i : ℕ) (r : Record) → slice_get (Format s.index s.heap ∷ []) i ≡ Some r → CanBeSpelled r
    only h zero r e = let is : Format s.index s.heap ≡ r = some_same e in subst CanBeSpelled is h
    only h (suc i) r e = absurd (cc)

    no_reads : (i : ℕ) (a : Touch) → touch_at (Format s.index s.heap ∷ []) i ≡ Some a → not (a.block.read == 0) ≡ true
    no_reads zero a e = absurd (cc)
    no_reads (suc i) a e = absurd (cc)

    no_restart : (n : ℕ) (rs ds : List ℕ) → slice_get (Format s.index s.heap ∷ []) n ≡ Some (Restarted rs ds) → ⊥
    no_restart zero rs ds e = cc
    no_restart (suc n) rs ds e = cc

-- ---- where the last epoch has no record

abbrev Idle : Sizes → List Record → Type 0
Idle s L = (g : Rules) → rules_state s L ≡ Some g → (last_epoch L).records ≡ [] → (g.failed ≡ false) × ((t : ℕ) → is_running (txn_state s t L) ≡ false)

restart_rules : (s : Sizes) (o : Option Rules) (rs ds : List ℕ) (g : Rules) → rules_next s o (Restarted rs ds) ≡ Some g → g.failed ≡ false
restart_rules s None rs ds g e = absurd (cc)
restart_rules s (Some h) rs ds g e = by_test (h.count == 0) e
  where
    kept : (c : Bool) → kept_if c (restarts h (Restarted rs ds)) ≡ Some g → g.failed ≡ false
    kept true f = let same : restarts h (Restarted rs ds) ≡ g = cc in sym (ap (λ q. q.failed) same)
    kept false f = absurd (cc)

    by_test : (c : Bool) → cond c (rules_first s h (Restarted rs ds)) (rules_behind s h (Restarted rs ds)) ≡ Some g → g.failed ≡ false
    by_test true f = absurd (cc)
    by_test false f = kept (not h.restarted) f

idle_after : (s : Sizes) (t : ℕ) (o : Option TxnState) (rs ds : List ℕ) → is_running (txn_next s t o (Restarted rs ds)) ≡ false
idle_after s t None rs ds = refl
idle_after s t (Some Unbegun) rs ds = refl
idle_after s t (Some (Active w)) rs ds = refl
idle_after s t (Some (Ending ps)) rs ds = refl
idle_after s t (Some Over) rs ds = refl

format_idle : (s : Sizes) (L : List Record) (i h : ℕ) (g : Rules) → L ≡ [] → rules_state s (L ++ Format i h ∷ []) ≡ Some g → (g.failed ≡ false) × ((t : ℕ) → is_running (txn_state s t (L ++ Format i h ∷ [])) ≡ false)
format_idle s [] i h g is e = (kept (i == s.index && h == s.heap) e, λ t. refl)
  where
    kept : (c : Bool) → kept_if c (passes rules_start (Format i h)) ≡ Some g → g.failed ≡ false
    kept true f = sym (ap (λ q. q.failed) (some_same f))
    kept false f = absurd (cc)
format_idle s (x ∷ L) i h g is e = absurd (cc)

idle_push : (s : Sizes) (L : List Record) (x : Record) → Idle s (L ++ x ∷ [])
idle_push s L x g e none = by_kind x g e (sym (ap (λ (c : Cut). c.now.records) (cut_push L x)) ∙ none)
  where
    by_kind : (y : Record) (h : Rules) → rules_state s (L ++ y ∷ []) ≡ Some h → (cut_step (cut L) y).now.records ≡ [] → (h.failed ≡ false) × ((t : ℕ) → is_running (txn_state s t (L ++ y ∷ [])) ≡ false)
    by_kind (Format i n) h r q = format_idle s L i n h (format_first s L i n h r) r
    by_kind (Restarted rs ds) h r q = (restart_rules s (rules_state s L) rs ds h (sym (rules_state_push s L (Restarted rs ds)) ∙ r), λ t. ap is_running (txn_state_push s t L (Restarted rs ds)) ∙ idle_after s t (txn_state s t L) rs ds)
    by_kind (Begin t) h r q = absurd (push-not_nil (cut L).now.records (Begin t) q)
    by_kind (Forward t b) h r q = absurd (push-not_nil (cut L).now.records (Forward t b) q)
    by_kind (Done t c a) h r q = absurd (push-not_nil (cut L).now.records (Done t c a) q)
    by_kind (Commit t) h r q = absurd (push-not_nil (cut L).now.records (Commit t) q)
    by_kind (Ended t) h r q = absurd (push-not_nil (cut L).now.records (Ended t) q)
    by_kind (Solo t p b) h r q = absurd (push-not_nil (cut L).now.records (Solo t p b) q)
    by_kind AuditBegin h r q = absurd (push-not_nil (cut L).now.records AuditBegin q)
    by_kind (AuditClean b) h r q = absurd (push-not_nil (cut L).now.records (AuditClean b) q)
    by_kind (AuditFail b rs) h r q = absurd (push-not_nil (cut L).now.records (AuditFail b rs) q)
    by_kind (Back t b) h r q = absurd (push-not_nil (cut L).now.records (Back t b) q)

idle : (s : Sizes) (L : List Record) → Idle s L
idle s = by_push (Idle s) (λ g e none. (sym (ap (λ q. q.failed) (some_same e)), λ t. refl)) (λ L x ih. idle_push s L x)

some_count : (s : Sizes) (L : List Record) (g : Rules) → LogRun s L → rules_state s L ≡ Some g → (g.count == 0) ≡ false
some_count s L g log e = ne_eqb g.count 0 (λ is. absurd (none L log.format (omega (arith, is, (tallies s L g e).0))))
  where
    none : (M : List Record) → slice_get M 0 ≡ Some (Format s.index s.heap) → length M ≡ 0 → ⊥
    none [] f z = cc
    none (x ∷ M) f z = omega (arith, z)

pub empty_rests : EmptyRests
empty_rests s L g log rules none = record {
  log = log;
  rules = rules;
  some = some_count s L g log rules;
  failed = (idle s L g rules none).0;
  none = none;
  number = omega (arith, number_is_length L, (tallies s L g rules).0, ap length none);
  idle = (idle s L g rules none).1;
  fresh = λ t h. unbegun_above s L g t log.legal rules h;
}
