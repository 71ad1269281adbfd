-- Lines that don't land, and what no entry tells.
use Rattle.std.proofs.Common.{◌≡◌, ◌≢◌, ℕ, zero, suc, ◌+◌, ◌<◌, ◌≤◌, Bool, true, false, List, [], ◌∷◌, ◌++◌, length, Option, Some, None, IsSome, refl, ap, sym, subst, ◌∙◌, ◌⊎◌, inl, inr, ⊎_elim, append_assoc, arith}
use Rattle.std.specs.Prelude.{◌==◌, ◌||◌, if◌then◌else◌, Contains, count_by, filter_map, fold, slice_get, take, cond, is_some}
use Rattle.std.specs.List.{list_any}
use Rattle.std.proofs.lemmas.Bool.{eqb-true, lt-ltb}
use Rattle.std.proofs.lemmas.List.{append-nil}
use Rattle.std.proofs.lemmas.List.Concat.{flat_map-cons}
use Rattle.std.proofs.lemmas.List.Elements.{filter_map-append}
use Rattle.std.proofs.lemmas.List.Sums.{fold-append, sum_by-append}
use Rattle.dali_lists.proofs.Lists.{get_behind}
use Rattle.dali_lists.proofs.Members.{contains_first}
use Rattle.dali_lists.proofs.Tests.{left_true, not_both_ways}
use Rattle.dali_runs.proofs.CountsLemmas.Lists.{some_same}
use Rattle.dali_geometry.specs.Sizes.{Sizes}
use Rattle.dali_record.specs.declared.operations.Block.{Block}
use Rattle.dali_record.specs.declared.records.Record.{Record}
use Rattle.dali_record.specs.declared.records.Record.TheVariants.{Begin, Forward, Commit, AuditClean}
use Rattle.dali_record.specs.Legal.{Rules, rules_state, rules_next, rules_step, rules_first, rules_behind, runs, has_room}
use Rattle.dali_record.proofs.Ends.{by_push}
use Rattle.dali_record.proofs.Pushes.{rules_state_push}
use Rattle.dali_locks.specs.declared.mode.Mode.{Mode}
use Rattle.dali_runs.specs.declared.causes.Cause.TheVariants.{Store}
use Rattle.dali_runs.specs.Counts.Counts.{next_with}
use Rattle.dali_runs.specs.State.{CoreState, stable, taken_to, state_of}
use Rattle.dali_runs.specs.Run.{Bases, no_image}
use Rattle.dali_runs.specs.Regions.{IsOpen, is_alive}
use Rattle.dali_runs.specs.Courses.{Step, Operates, TakesBack, Frees, Locks, Passes, Takes, Flushes, IsStep}
use Rattle.dali_region.specs.State.{RegionState}
use Rattle.dali_lists.proofs.Numbers.{eqb-self}
use Rattle.dali_runs.proofs.CountsLemmas.NewNumbers.{next_grows}
use Rattle.dali_runs.proofs.CountsLemmas.Tallies.{tells_step, if_kept, if_none}
use Rattle.dali_crash.specs.Checkpoints.{StoreStep, Does, Starts, Keeps, Copies, Skips, WritesHead, Syncs, Turns, CopyFails, HeadFails, SyncFails, TurnFails, Finishes, Head, Point, MayTurn, head_now, IsPointStep, IsPointCourse, moment_of}
use Rattle.dali_crash.specs.Growth.{GoesOn}
use Rattle.dali_crash.specs.StoreRuns.{StoreRun}
use Rattle.dali_crash.proofs.StepLeaves.{vault_goes}
use Rattle.dali_crash.proofs.Growth.{course_grows}
use Rattle.dali_crash.proofs.StoreRuns.{bare_store_course_keeps, later_than}
use Rattle.dali_transcripts.specs.Words.{StoreFailed}
use Rattle.dali_transcripts.specs.World.{Deed, Logs, Claims, GetsLock, StartsCheckpoint, MovesAnchor, EndsCheckpoint, Meets, span_step, Happening, World, record_of, logged_by, lock_after, lock_at, has_failed, failing, failed_at, cause_of, state_step}
use Rattle.dali_transcripts.specs.Moves.{Receipt, Spot, TakenBack, LeftBehind, Move, GivesWay, GivesUp, Commits, said, own, start, to as leads}
use Rattle.dali_transcripts.specs.Causes.{IsRight, AreRightFrom, HasCause}
use Rattle.dali_transcripts.specs.Transcripts.{IsPath, said_by, own_by, deeds_of as own_deeds}
use Rattle.dali_transcripts.specs.Rounds.{Standing, AreAnchors, AreSpans, Stands as StandsIn}
use Rattle.dali_transcripts.specs.Telling.Tells.{after, Tells}
use Rattle.dali_concurrent.specs.Entries.{Entry, Did, Latched, Took, Flushed, Kept, Copied, At, deed_in, deeds_of, live_by, live_step}
use Rattle.dali_concurrent.specs.Rules.{Outset, before, log_by, state_by, live_in, DeedFits}
use Rattle.dali_concurrent.specs.Told.{Line, History, plain, plain_one, core_told, world_told}
use Rattle.dali_concurrent.specs.Landing.{said_in, who_in, Stands, Landing, Way}
use Rattle.dali_concurrent.specs.Kept.{txn_in, is_named, is_grant, StepsFit, AllFollow, Follows}
use Rattle.dali_concurrent.specs.Holds.{IsLed}
use Rattle.dali_concurrent.specs.Wrong.{block_of, is_ok, is_commit_below, Beside, Besides, Unfit, Unstored, Untold}
use Rattle.dali_concurrent.proofs.Lists.{take_length, take_all}
use Rattle.dali_concurrent.proofs.Entries.{neither}
use Rattle.dali_concurrent.proofs.Steps.{is_keep, is_keeping, no_keeps}
use Rattle.dali_concurrent.proofs.Landing.{onward, stop_stands, front_stands}
use Rattle.dali_concurrent.proofs.Kept.{stands_of}
use Rattle.dali_concurrent.proofs.Told.{plain-append}
use Rattle.dali_concurrent.proofs.Holds.{holds_are_told, none_is_live, states_are_told}
use Rattle.dali_concurrent.proofs.Untold.{flushes_are_told}
use Rattle.dali_concurrent.proofs.Wrong.{one_more, entry_fits, system_stays}

-- ---- where a line leads
record Goes (bases : Bases) (p : Point) (o : Outset) (T : History) (e : Line) : Type 0 where
  from : Point
  stood : Stands bases p o T from
  to : Point
  land : Landing o T e from to
  stands : Stands bases p o (T ++ e ∷ []) to

module _ (bases : Bases) (p : Point) (o : Outset) (T : History) (e : Line) (led : IsLed bases p o T) (follows : Follows bases p o T e) where
  goes : Goes bases p o T e
  goes =
      let at = stands_of bases p o T led.begins led.all in
      let l = follows.lands at.0 at.1 in
      record { from = at.0; stood = at.1; to = l.0; land = l.1; stands = onward bases p o T e at.0 l.0 at.1 l.1 }

  core_is : goes.to.core ≡ core_told o (T ++ e ∷ [])
  core_is = goes.land.core

  -- the world with its deed
  abbrev with_deed : Deed → ℕ → World
  with_deed x c = after (world_told o T) c (x ∷ []) goes.to.core

  tells_deed : (x : Deed) (c : ℕ) → e.1.0 ≡ Did x c → Tells (with_deed x c) goes.to
  tells_deed x c is = subst (λ z. Tells (after (world_told o T) (who_in z) (said_in z) goes.to.core) goes.to) is goes.land.goes.tells

  more_flushed : stable (core_told o T) ≤ stable (core_told o (T ++ e ∷ []))
  more_flushed = subst (λ c. stable (core_told o T) ≤ stable c) core_is goes.land.goes.grows.flushed

  within_taken : stable (core_told o (T ++ e ∷ [])) ≤ taken_to (core_told o (T ++ e ∷ [])).system
  within_taken = subst (λ c. stable c ≤ taken_to c.system) core_is goes.stands.run.run.run.frame

right_behind : (w : World) (n : ℕ) (hs : List Happening) (x : Deed) (c m : ℕ) → AreRightFrom w n (hs ++ (x, c) ∷ []) → m ≡ n + length hs → IsRight w c m x
right_behind w n [] x c m h e = let same : n ≡ m = omega (arith, e) in subst (λ k. IsRight w c k x) same h.0
right_behind w n (y ∷ hs) x c m h e = right_behind w (n + 1) hs x c m h.1 (omega (arith, e))

module _ (bases : Bases) (p : Point) (o : Outset) (T : History) (e : Line) (led : IsLed bases p o T) (follows : Follows bases p o T e) (x : Deed) (c : ℕ) (is : e.1.0 ≡ Did x c) where
  right : IsRight (with_deed bases p o T e led follows x c) c (length (deeds_of (plain T))) x
  right = right_behind (with_deed bases p o T e led follows x c) 0 (deeds_of (plain T)) x c (length (deeds_of (plain T))) (tells_deed bases p o T e led follows x c is).right (omega arith)

-- ---- numbers that were begun
begin_number : (s : Sizes) (h : Rules) (u : ℕ) → IsSome (rules_step s h (Begin u)) → (u == h.next) ≡ true
begin_number s h u k = by_test (h.count == 0) k
  where
    by_test : (c : Bool) → IsSome (cond c (rules_first s h (Begin u)) (rules_behind s h (Begin u))) → (u == h.next) ≡ true
    by_test true k = absurd (cc)
    by_test false k = left_true (u == h.next) (has_room h (Begin u)) (if_kept _ _ (if_none h.failed (runs s h (Begin u)) k))

record Was (s : Sizes) (L : List Record) (x : Record) (g : Rules) : Type 0 where
  rules : Rules
  is : rules_state s L ≡ Some rules
  step : rules_step s rules x ≡ Some g

was : (s : Sizes) (L : List Record) (x : Record) (g : Rules) → rules_state s (L ++ x ∷ []) ≡ Some g → Was s L x g
was s L x g e = by_test (rules_state s L) refl (sym (rules_state_push s L x) ∙ e)
  where
    by_test : (q : Option Rules) → rules_state s L ≡ q → rules_next s q x ≡ Some g → Was s L x g
    by_test None is f = absurd (cc)
    by_test (Some h) is f = record { rules = h; is = is; step = f }

abbrev AreBelow : Sizes → ℕ → List Record → Type 0
AreBelow s t L = (n : ℕ) (g : Rules) → rules_state s L ≡ Some g → slice_get L n ≡ Some (Begin t) → t < g.next

begins_within : {X : Type 0} (L : List X) (x y : X) (n : ℕ) → slice_get (L ++ x ∷ []) n ≡ Some y → (slice_get L n ≡ Some y) ⊎ (x ≡ y)
begins_within [] x y zero e = inr (some_same e)
begins_within [] x y (suc n) e = absurd (cc)
begins_within (z ∷ L) x y zero e = inl e
begins_within (z ∷ L) x y (suc n) e = begins_within L x y n e

below_next : (s : Sizes) (t : ℕ) (L : List Record) → AreBelow s t L
below_next s t = by_push (AreBelow s t) (λ n g e there. absurd (cc)) more
  where
    more : (L : List Record) (x : Record) → AreBelow s t L → AreBelow s t (L ++ x ∷ [])
    more L x here n g e there =
        let w = was s L x g e in
        let up : g.next ≡ next_with x w.rules.next = (tells_step s w.rules x g w.step).2 in
        ⊎_elim
        (λ old. let low = here n w.rules w.is old in omega (arith, up, low, next_grows x w.rules.next))
        (λ same.
        let some : IsSome (rules_step s w.rules (Begin t)) = subst (λ y. IsSome (rules_step s w.rules y)) same (subst IsSome (sym w.step) refl) in
        let number : t ≡ w.rules.next = eqb-true t w.rules.next (begin_number s w.rules t some) in
        let one : next_with x w.rules.next ≡ w.rules.next + 1 = ap (λ y. next_with y w.rules.next) same in
        omega (arith, up, number, one))
        (begins_within L x (Begin t) n there)

begun_once : (s : Sizes) (t n : ℕ) (L : List Record) (g : Rules) → rules_state s (L ++ Begin t ∷ []) ≡ Some g → slice_get L n ≡ Some (Begin t) → ⊥
begun_once s t n L g e there =
    let w = was s L (Begin t) g e in
    let low = below_next s t L n w.rules w.is there in
    let number : t ≡ w.rules.next = eqb-true t w.rules.next (begin_number s w.rules t (subst IsSome (sym w.step) refl)) in
    omega (arith, low, number)

module _ (bases : Bases) (p : Point) (o : Outset) (T : History) (e : Line) (led : IsLed bases p o T) (follows : Follows bases p o T e) (t c : ℕ) (is : e.1.0 ≡ Did (Logs (Begin t)) c) where
  log_with : (goes bases p o T e led follows).to.log ≡ log_by o (plain T) ++ Begin t ∷ []
  log_with =
      (tells_deed bases p o T e led follows (Logs (Begin t)) c is).log
      ∙ (ap (λ l. before o ++ l) (filter_map-append record_of (deeds_of (plain T)) ((Logs (Begin t), c) ∷ []))
      ∙ sym (append_assoc (before o) (logged_by (deeds_of (plain T))) (Begin t ∷ [])))

  pub not_again : (n : ℕ) → slice_get (log_by o (plain T)) n ≡ Some (Begin t) → ⊥
  not_again n there =
      let g = goes bases p o T e led follows in
      let run = g.stands.run.run in
      begun_once g.to.core.system.sizes t n (log_by o (plain T)) run.run.runs.counts.now
      (ap (λ L. rules_state g.to.core.system.sizes L) (sym log_with ∙ run.log) ∙ run.run.runs.counts.rules) there

-- ---- holds
block_is : (L M : List Record) (c d : CoreState) (x : Step) (t : ℕ) (b : Block) → block_of x ≡ Some (t, b) → IsStep L c x M d → (g : RegionState) × (slice_get c.regions b.region ≡ Some g) × IsOpen g t b
block_is L M c d (Operates u k) t b e s = subst (λ (z : ℕ × Block). (g : RegionState) × (slice_get c.regions z.1.region ≡ Some g) × IsOpen g z.0 z.1) (some_same e) (s.0, s.2.at, s.2.is_open)
block_is L M c d (TakesBack u k) t b e s = subst (λ (z : ℕ × Block). (g : RegionState) × (slice_get c.regions z.1.region ≡ Some g) × IsOpen g z.0 z.1) (some_same e) (s.0, s.1.at, s.1.is_open)
block_is L M c d (Frees u k) t b e s = subst (λ (z : ℕ × Block). (g : RegionState) × (slice_get c.regions z.1.region ≡ Some g) × IsOpen g z.0 z.1) (some_same e) (s.0, s.1.at, s.1.is_open)
block_is L M c d x t b e s = absurd (cc)

last_same : {X : Type 0} (L : List X) (x y : X) → L ++ x ∷ [] ≡ L ++ y ∷ [] → x ≡ y
last_same L x y e = some_same (sym (get_behind L x []) ∙ (ap (λ l. slice_get l (length L)) e ∙ get_behind L y []))

block_same : (u t : ℕ) (d b : Block) → Forward u d ≡ Forward t b → d ≡ b
block_same u t d b e = cc

module _ (bases : Bases) (p : Point) (o : Outset) (T : History) (e : Line) (led : IsLed bases p o T) (follows : Follows bases p o T e) where
  block_logged : (t u c : ℕ) (b d : Block) → e.1.0 ≡ Did (Logs (Forward t b)) c → e.1.2 ≡ Does (Operates u d) ∷ [] → d ≡ b
  block_logged t u c b d is steps =
      let g = goes bases p o T e led follows in
      let course : IsPointCourse g.from (Does (Operates u d) ∷ []) g.to = subst (λ xs. IsPointCourse g.from xs g.to) steps g.land.course in
      let made : g.to.log ≡ log_by o (plain T) ++ Forward u d ∷ [] =
      ap (λ (z : Point). z.log) (sym course.2) ∙ (course.1.1.0.3.0 ∙ ap (λ l. l ++ Forward u d ∷ []) g.stood.comes.log) in
      let told : g.to.log ≡ log_by o (plain T) ++ Forward t b ∷ [] =
      (tells_deed bases p o T e led follows (Logs (Forward t b)) c is).log
      ∙ (ap (λ l. before o ++ l) (filter_map-append record_of (deeds_of (plain T)) ((Logs (Forward t b), c) ∷ []))
      ∙ sym (append_assoc (before o) (logged_by (deeds_of (plain T))) (Forward t b ∷ []))) in
      block_same u t d b (last_same (log_by o (plain T)) (Forward u d) (Forward t b) (sym made ∙ told))

  held_by : (t : ℕ) (b : Block) (x : Step) → block_of x ≡ Some (t, b) → e.1.2 ≡ Does x ∷ [] → txn_in (live_by b.region (plain T)) ≡ Some t
  held_by t b x block is =
      let g = goes bases p o T e led follows in
      let course : IsPointCourse g.from (Does x ∷ []) g.to = subst (λ xs. IsPointCourse g.from xs g.to) is g.land.course in
      let open_there = block_is g.from.log course.0.log g.from.core course.0.core x t b block course.1.1.0 in
      let at : slice_get (core_told o T).regions b.region ≡ Some open_there.0 = ap (λ (d : CoreState). slice_get d.regions b.region) (sym g.stood.comes.core) ∙ open_there.1 in
      sym (holds_are_told bases p o T led b.region open_there.0 at).1.live ∙ ap live_in open_there.2.hold

  alive_there : (r t c : ℕ) → e.1.0 ≡ Latched r t c → is_alive (state_by o (plain T) t) ≡ false → ⊥
  alive_there r t c is gone =
      let more : IsLed bases p o (T ++ e ∷ []) = record { begins = led.begins; all = one_more bases p o T e led.all follows } in
      let deeds : deeds_of (plain (T ++ e ∷ [])) ≡ deeds_of (plain T) =
      ap deeds_of (plain-append T (e ∷ []))
      ∙ (filter_map-append deed_in (plain T) (plain_one e ∷ []) ∙ (ap (λ z. deeds_of (plain T) ++ filter_map deed_in ((e.0, z) ∷ [])) is ∙ append-nil (deeds_of (plain T)))) in
      let live : live_by r (plain (T ++ e ∷ [])) ≡ Some (t, c) =
      ap (live_by r) (plain-append T (e ∷ []))
      ∙ (fold-append (live_step r) None (plain T) (plain_one e ∷ [])
      ∙ (ap (λ z. live_step r (live_by r (plain T)) (e.0, z)) is ∙ ap (λ q. if q then Some (t, c) else live_by r (plain T)) (eqb-self r))) in
      none_is_live bases p o (T ++ e ∷ []) t more (ap is_alive (states_are_told bases p o (T ++ e ∷ []) t more ∙ ap (λ l. fold (state_step t) (state_of o.old.system t) l) deeds) ∙ gone) r c live

-- ---- checkpoints
span_last : (o : Option ℕ) (c : ℕ) (hs : List Happening) → AreSpans o (hs ++ (StartsCheckpoint, c) ∷ []) → fold span_step o hs ≡ None
span_last o c [] h = h.0
span_last o c ((StartsCheckpoint, d) ∷ hs) h = span_last (Some d) c hs h.1
span_last o c ((EndsCheckpoint, d) ∷ hs) h = span_last None c hs h.1
span_last o c (_ ∷ hs) h = span_last o c hs h

span_ends : (o : Option ℕ) (c : ℕ) (hs : List Happening) → AreSpans o (hs ++ (EndsCheckpoint, c) ∷ []) → fold span_step o hs ≡ Some c
span_ends o c [] h = h.0
span_ends o c ((StartsCheckpoint, d) ∷ hs) h = span_ends (Some d) c hs h.1
span_ends o c ((EndsCheckpoint, d) ∷ hs) h = span_ends None c hs h.1
span_ends o c (_ ∷ hs) h = span_ends o c hs h

pub unfit : Unfit
unfit = record {
  committed = λ t c bases p o T e led w f. let fits : DeedFits o (plain T) (Logs (Commit t)) c = entry_fits bases p o T e f (Did (Logs (Commit t)) c) w.0 in w.1 fits.txn;
  claimed = λ t c bases p o T e led w f. let fits : DeedFits o (plain T) (Claims t) c = entry_fits bases p o T e f (Did (Claims t) c) w.0 in not_both_ways fits.txn.0 w.1;
  begun = λ t c bases p o T e led w f. let fits : DeedFits o (plain T) (Logs (Begin t)) c = entry_fits bases p o T e f (Did (Logs (Begin t)) c) w.0 in w.1 fits.txn.0;
  begun_again = λ t c n bases p o T e led w f. not_again bases p o T e led f t c w.0 n w.1;
  granted = λ t k c m bases p o T e led w f.
      w.1 (ap (λ l. fold (state_step t) (state_of o.old.system t) l) (sym (take_length (deeds_of (plain T)) ((GetsLock t k m, c) ∷ []))) ∙ (right bases p o T e led f (GetsLock t k m) c w.0).0);
  granted_in_the_way = λ t k c u m n bases p o T e led w f.
      let there : lock_at (with_deed bases p o T e led f (GetsLock t k m) c) (length (deeds_of (plain T))) u k ≡ Some n =
      ap (λ l. lock_after (world_told o T) l u k) (take_length (deeds_of (plain T)) ((GetsLock t k m, c) ∷ [])) ∙ w.2 in
      not_both_ways ((right bases p o T e led f (GetsLock t k m) c w.0).2 u n w.1 there) w.3;
  other_block = λ t u c b d bases p o T e led w f. w.2 (block_logged bases p o T e led f t u c b d w.0 w.1);
  unheld = λ t b x block bases p o T e led w f. w.1 (held_by bases p o T e led f t b x block w.0);
  latch_of_dead = λ r t c bases p o T e led w f. alive_there bases p o T e led f r t c w.0 w.1;
}

-- ---- the anchor
anchor_last : (old mid new n c : ℕ) (hs : List Happening) → AreAnchors old hs mid → AreAnchors old (hs ++ (MovesAnchor n, c) ∷ []) new → (n ≡ mid + 1) × (new ≡ n)
anchor_last old mid new n c [] h g = (omega (arith, h, g.0), g.1)
anchor_last old mid new n c ((MovesAnchor m, d) ∷ hs) h g = anchor_last m mid new n c hs h.1 g.1
anchor_last old mid new n c (_ ∷ hs) h g = anchor_last old mid new n c hs h g

anchor_stays : (old new : ℕ) (hs : List Happening) → AreAnchors old hs new → ((n c : ℕ) → Contains hs (MovesAnchor n, c) → ⊥) → new ≡ old
anchor_stays old new [] h none = h
anchor_stays old new ((MovesAnchor m, d) ∷ hs) h none = absurd (none m d (contains_first (MovesAnchor m, d) hs))
anchor_stays old new (_ ∷ hs) h none = anchor_stays old new hs h (λ n c has. none n c (suc has.0, omega (arith, has.1), has.2))

-- where it moved, it might
record MovedAt (p q : Point) (xs : List StoreStep) : Type 0 where
  mid : Point
  first : List StoreStep
  comes : IsPointCourse p first mid
  last : List StoreStep
  goes : IsPointCourse mid last q
  split : first ++ last ≡ xs
  head : Head
  begin : ℕ
  number : ℕ
  may : MayTurn mid head begin number

later : (p mid q : Point) (x : StoreStep) (xs : List StoreStep) → IsPointStep p x mid → MovedAt mid q xs → MovedAt p q (x ∷ xs)
later p mid q x xs step m = record { mid = m.mid; first = x ∷ m.first; comes = (mid, step, m.comes); last = m.last; goes = m.goes; split = ap (λ l. x ∷ l) m.split; head = m.head; begin = m.begin; number = m.number; may = m.may }

current : {q z : Point} → q ≡ z → q.core.vault.current ≡ z.core.vault.current
current e = ap (λ (y : Point). y.core.vault.current) e

one_step : (p q : Point) (x : StoreStep) → IsPointStep p x q → ((h : Head) × (b k : ℕ) × MayTurn p h b k) ⊎ (q.core.vault.current ≡ p.core.vault.current)
one_step p q (Does x) s = inr (let w = vault_goes (moment_of p) (moment_of q) x s.1 in omega (arith, w.current))
one_step p q Starts s = inr (current s.1)
one_step p q Keeps s = inr (current s.4)
one_step p q (Copies r n) s = inr (current s.5)
one_step p q (Skips r n) s = inr (current s.5)
one_step p q (WritesHead h) s = inr (current s.1)
one_step p q Syncs s = inr (current s.1)
one_step p q Turns s = inl (s.0, s.1, s.2, s.4)
one_step p q (CopyFails r ws n) s = inr (current s.4)
one_step p q (HeadFails h n) s = inr (current s.1)
one_step p q (SyncFails n) s = inr (current s.1)
one_step p q (TurnFails n) s = inr (current s.5)
one_step p q Finishes s = inr (current s.1)

moved_at : (p q : Point) (xs : List StoreStep) → IsPointCourse p xs q → q.core.vault.current ≢ p.core.vault.current → MovedAt p q xs
moved_at p q [] course moved = absurd (moved (ap (λ (z : Point). z.core.vault.current) (sym course)))
moved_at p q (x ∷ xs) course moved =
    ⊎_elim
    (λ t. record { mid = p; first = []; comes = refl; last = x ∷ xs; goes = course; split = refl; head = t.0; begin = t.1; number = t.2; may = t.3 })
    (λ same. later p course.0 q x xs course.1 (moved_at course.0 q xs course.2 (λ e. moved (e ∙ same))))
    (one_step p course.0 x course.1)

-- ---- the head that was kept
as_begun : {q z : Point} → q ≡ z → q.begun ≡ z.begun
as_begun e = ap (λ (y : Point). y.begun) e

over : (q : Point) (h : Head) → q.begun ≡ None → q.begun ≡ Some h → ⊥
over q h none e = let f : ◌≡◌ {A = Option Head} None (Some h) = sym none ∙ e in absurd (cc)

begun_one : (h : Head) (p q : Point) (x : StoreStep) → IsPointStep p x q → is_keep x ≡ false → q.begun ≡ Some h → p.begun ≡ Some h
begun_one h p q (Does x) s none e = sym (as_begun s.2) ∙ e
begun_one h p q Starts s none e = sym (as_begun s.1) ∙ e
begun_one h p q Keeps s none e = absurd (cc)
begun_one h p q (Copies r n) s none e = sym (as_begun s.5) ∙ e
begun_one h p q (Skips r n) s none e = sym (as_begun s.5) ∙ e
begun_one h p q (WritesHead g) s none e = sym (as_begun s.1) ∙ e
begun_one h p q Syncs s none e = sym (as_begun s.1) ∙ e
begun_one h p q Turns s none e = absurd (over q h (as_begun s.5) e)
begun_one h p q (CopyFails r ws n) s none e = sym (as_begun s.4) ∙ e
begun_one h p q (HeadFails g n) s none e = sym (as_begun s.1) ∙ e
begun_one h p q (SyncFails n) s none e = sym (as_begun s.1) ∙ e
begun_one h p q (TurnFails n) s none e = absurd (over q h (as_begun s.5) e)
begun_one h p q Finishes s none e = absurd (over q h (as_begun s.1) e)

begun_course : (h : Head) (p q : Point) (xs : List StoreStep) → IsPointCourse p xs q → list_any is_keep xs ≡ false → q.begun ≡ Some h → p.begun ≡ Some h
begun_course h p q [] course none e = as_begun course ∙ e
begun_course h p q (x ∷ xs) course none e =
    let both = neither (is_keep x) (list_any is_keep xs) none in
    begun_one h p course.0 x course.1 both.0 (begun_course h course.0 q xs course.2 both.1 e)

begun_way : (o : Outset) (h : Head) (S : History) (q : Point) (R : History) (r : Point) → Way o S q R r
    → ((i : ℕ) (d : Line) → slice_get R i ≡ Some d → list_any is_keep d.1.2 ≡ false) → r.begun ≡ Some h → q.begun ≡ Some h
begun_way o h S q [] r way none e = as_begun way ∙ e
begun_way o h S q (d ∷ R) r way none e =
    begun_course h q way.0 d.1.2 way.1.course (none zero d refl) (begun_way o h (S ++ d ∷ []) way.0 R r way.2 (λ i x w. none (suc i) x w) e)

any_front : (f : StoreStep → Bool) (xs ys zs : List StoreStep) → xs ++ ys ≡ zs → list_any f zs ≡ false → list_any f xs ≡ false
any_front f xs ys zs e none = front xs (ap (list_any f) e ∙ none)
  where
    front : (xs : List StoreStep) → list_any f (xs ++ ys) ≡ false → list_any f xs ≡ false
    front [] h = refl
    front (x ∷ xs) h = let both = neither (f x) (list_any f (xs ++ ys)) h in ap (λ b. b || list_any f xs) both.0 ∙ front xs both.1

get_later : {X : Type 0} (A : List X) (l : X) (R : List X) (i : ℕ) (d : X) → slice_get R i ≡ Some d → (j : ℕ) × (slice_get (A ++ l ∷ R) j ≡ Some d)
get_later [] l R i d e = (suc i, e)
get_later (a ∷ A) l R i d e = let w = get_later A l R i d e in (suc w.0, w.1)

plain_at : (R : History) (i : ℕ) (d : Line) → slice_get R i ≡ Some d → slice_get (plain R) i ≡ Some (plain_one d)
plain_at [] i d e = absurd (cc)
plain_at (x ∷ R) zero d e = ap (λ (z : Line). Some (plain_one z)) (some_same e)
plain_at (x ∷ R) (suc i) d e = plain_at R i d e

unkept : (x : Entry) → (x ≡ Kept → ⊥) → is_keeping x ≡ false
unkept Kept other = absurd (other refl)
unkept x other = refl

front_get : {X : Type 0} (xs ys : List X) (k : ℕ) (x : X) → slice_get xs k ≡ Some x → slice_get (xs ++ ys) k ≡ Some x
front_get [] ys k x e = absurd (cc)
front_get (z ∷ xs) ys zero x e = e
front_get (z ∷ xs) ys (suc k) x e = front_get xs ys k x e

module _ (bases : Bases) (p : Point) (o : Outset) (T : History) (e : Line) (led : IsLed bases p o T) (follows : Follows bases p o T e) (n c : ℕ) (is : e.1.0 ≡ Did (MovesAnchor n) c) where
  abbrev there : Goes bases p o T e
  there = goes bases p o T e led follows

  next_anchor : (n ≡ (core_told o T).vault.current + 1) × (there.to.core.vault.current ≡ n)
  next_anchor = anchor_last o.old.vault.current (core_told o T).vault.current there.to.core.vault.current n c (deeds_of (plain T)) there.stood.tells.together.anchors
      (tells_deed bases p o T e led follows (MovesAnchor n) c is).together.anchors

  moved : MovedAt there.from there.to e.1.2
  moved = moved_at there.from there.to e.1.2 there.land.course (λ same.
      let core : there.from.core.vault.current ≡ (core_told o T).vault.current = ap (λ (d : CoreState). d.vault.current) there.stood.comes.core in
      let is = next_anchor in omega (arith, is.0, is.1, same, core))

  log_same : there.to.log ≡ log_by o (plain T)
  log_same =
      (tells_deed bases p o T e led follows (MovesAnchor n) c is).log
      ∙ (ap (λ l. before o ++ l) (filter_map-append record_of (deeds_of (plain T)) ((MovesAnchor n, c) ∷ []))
      ∙ ap (λ l. before o ++ l) (append-nil (logged_by (deeds_of (plain T)))))

  certified : (k b : ℕ) × (slice_get (log_by o (plain T)) k ≡ Some (AuditClean b)) × (k < stable (core_told o (T ++ e ∷ []))) × (moved.head.first ≤ b)
  certified =
      let m = moved in
      let run : StoreRun bases o.made no_image m.mid = bare_store_course_keeps bases o.made there.from m.mid m.first there.stood.run m.comes in
      let on : GoesOn o.made m.mid there.to = course_grows bases o.made m.mid there.to m.last run.run m.goes in
      let up : stable there.to.core ≡ stable (core_told o (T ++ e ∷ [])) = ap stable there.land.core in (
        m.number,
        m.begin,
        subst (λ L. slice_get L m.number ≡ Some (AuditClean m.begin)) (sym on.log ∙ log_same) (front_get m.mid.log on.more m.number (AuditClean m.begin) m.may.clean),
        omega (arith, m.may.flushed, on.grown.flushed, up),
        later_than bases o.made no_image m.mid m.head m.begin m.number run m.may,
      )

  head_then : (A R : History) (l : Line) → T ≡ A ++ l ∷ R → l.1.0 ≡ Kept → ((i : ℕ) (ks : List ℕ) → At (plain R) i (ks, Kept) → ⊥) → moved.head.first ≡ (core_told o A).system.records
  head_then A R l same kept none =
      let m = moved in
      let front = front_stands bases p o A (l ∷ R) T there.from led.begins same there.stood in
      let way = front.2 in
      let all : AllFollow bases p o (A ++ l ∷ R) = subst (AllFollow bases p o) same led.all in
      let fit : l.1.2 ≡ Keeps ∷ [] = subst (λ y. StepsFit y l.1.2) kept (all (length A) l (get_behind A l R)).steps in
      let own : list_any is_keep e.1.2 ≡ false = no_keeps (Did (MovesAnchor n) c) e.1.2 refl (subst (λ y. StepsFit y e.1.2) is follows.steps) in
      let from_it : there.from.begun ≡ Some m.head = begun_course m.head there.from m.mid m.first m.comes (any_front is_keep m.first m.last e.1.2 m.split own) m.may.begun in
      let others : (i : ℕ) (d : Line) → slice_get R i ≡ Some d → list_any is_keep d.1.2 ≡ false =
      (λ i d at. let w = get_later A l R i d at in
      no_keeps d.1.0 d.1.2 (unkept d.1.0 (λ k. none i d.0 (plain_at R i d at ∙ ap (λ z. Some (d.0, z)) k))) (all w.0 d w.1).steps) in
      let behind : way.0.begun ≡ Some m.head = begun_way o m.head (A ++ l ∷ []) way.0 R there.from way.2 others from_it in
      let course : IsPointCourse front.0 (Keeps ∷ []) way.0 = subst (λ xs. IsPointCourse front.0 xs way.0) fit way.1.course in
      let now : way.0.begun ≡ Some (head_now front.0.log front.0.core) = as_begun (sym course.2) ∙ as_begun course.1.4 in
      ap (λ (z : Head). z.first) (some_same (sym behind ∙ now)) ∙ ap (λ (d : CoreState). d.system.records) front.1.comes.core

-- ---- the store
failed_behind : (b : Bool) (hs : List Happening) (c : ℕ) → has_failed b (hs ++ (Meets StoreFailed, c) ∷ []) ≡ true
failed_behind b hs c = fold-append failing b hs ((Meets StoreFailed, c) ∷ [])

module _ (bases : Bases) (p : Point) (o : Outset) (T : History) (led : IsLed bases p o T) where
  failed_told : (core_told o T).vault.stopped ≡ has_failed o.old.vault.stopped (deeds_of (plain T))
  failed_told = let at = stands_of bases p o T led.begins led.all in at.1.tells.together.faults.stopped

module _ (bases : Bases) (p : Point) (o : Outset) (T : History) (e : Line) (led : IsLed bases p o T) (follows : Follows bases p o T e) (c : ℕ) (is : e.1.0 ≡ Did (Meets StoreFailed) c) where
  stops : (goes bases p o T e led follows).to.core.vault.stopped ≡ true
  stops = (tells_deed bases p o T e led follows (Meets StoreFailed) c is).together.faults.stopped ∙ failed_behind o.old.vault.stopped (deeds_of (plain T)) c

  engine_stops : IsSome (core_told o (T ++ e ∷ [])).system.stop
  engine_stops = subst (λ (d : CoreState). IsSome d.system.stop) (core_is bases p o T e led follows) ((goes bases p o T e led follows).stands.halts stops)

  ran : has_failed o.old.vault.stopped (deeds_of (plain T)) ≡ false
  ran =
      ap (has_failed o.old.vault.stopped) (sym (take_length (deeds_of (plain T)) ((Meets StoreFailed, c) ∷ [])))
      ∙ (tells_deed bases p o T e led follows (Meets StoreFailed) c is).together.faults.once (length (deeds_of (plain T))) c (get_behind (deeds_of (plain T)) (Meets StoreFailed, c) [])

-- ---- what an entry's name tells
unnamed : (xs : List StoreStep) (i : ℕ) (x : StoreStep) → list_any is_named xs ≡ false → slice_get xs i ≡ Some x → is_named x ≡ false
unnamed [] i x h e = absurd (cc)
unnamed (y ∷ xs) zero x h e = subst (λ z. is_named z ≡ false) (some_same e) (neither (is_named y) (list_any is_named xs) h).0
unnamed (y ∷ xs) (suc i) x h e = unnamed xs i x (neither (is_named y) (list_any is_named xs) h).1 e

not_beside : (x : Deed) (c i : ℕ) (xs : List StoreStep) (s : StoreStep) → is_named s ≡ true → is_grant s ≡ false → StepsFit (Did x c) xs → slice_get xs i ≡ Some s → ⊥
not_beside (GetsLock t k m) c i xs s named other fit e = lone i (ap (λ l. slice_get l i) (sym fit) ∙ e)
  where
    lone : (i : ℕ) → slice_get (Does (Locks t k m) ∷ []) i ≡ Some s → ⊥
    lone zero f = not_both_ways (ap is_grant (sym (some_same f))) other
    lone (suc i) f = absurd (cc)
not_beside x c i xs s named other fit e = not_both_ways named (unnamed xs i s fit e)

other_grant : (x : Deed) (c i t k : ℕ) (m : Mode) (xs : List StoreStep) → StepsFit (Did x c) xs → slice_get xs i ≡ Some (Does (Locks t k m)) → (x ≡ GetsLock t k m → ⊥) → ⊥
other_grant (GetsLock u j n) c i t k m xs fit e other = lone i (ap (λ l. slice_get l i) (sym fit) ∙ e)
  where
    lone : (i : ℕ) → slice_get (Does (Locks u j n) ∷ []) i ≡ Some (Does (Locks t k m)) → ⊥
    lone zero f = let same : GetsLock u j n ≡ GetsLock t k m = cc in other same
    lone (suc i) f = absurd (cc)
other_grant x c i t k m xs fit e other = let none : true ≡ false = unnamed xs i (Does (Locks t k m)) fit e in absurd (cc)

one_copy : (r q n m i : ℕ) → slice_get (Copies r m ∷ []) i ≡ Some (Copies q n) → (q == r) ≡ false → ⊥
one_copy r q n m zero e h = let same : q ≡ r = cc in not_both_ways (subst (λ z. (q == z) ≡ true) same (eqb-self q)) h
one_copy r q n m (suc i) e h = absurd (cc)

one_skip : (r q n m i : ℕ) → slice_get (Skips r m ∷ []) i ≡ Some (Copies q n) → ⊥
one_skip r q n m zero e = absurd (cc)
one_skip r q n m (suc i) e = absurd (cc)

other_copy : (r q n i : ℕ) (xs : List StoreStep) → StepsFit (Copied r) xs → slice_get xs i ≡ Some (Copies q n) → (q == r) ≡ false → ⊥
other_copy r q n i xs (m, inl fit) e h = one_copy r q n m i (ap (λ l. slice_get l i) (sym fit) ∙ e) h
other_copy r q n i xs (m, inr fit) e h = one_skip r q n m i (ap (λ l. slice_get l i) (sym fit) ∙ e)

skip_is : (r q n m i : ℕ) → slice_get (Skips r m ∷ []) i ≡ Some (Skips q n) → (q == r) ≡ false → ⊥
skip_is r q n m zero e h = let same : q ≡ r = cc in not_both_ways (subst (λ z. (q == z) ≡ true) same (eqb-self q)) h
skip_is r q n m (suc i) e h = absurd (cc)

copy_is : (r q n m i : ℕ) → slice_get (Copies r m ∷ []) i ≡ Some (Skips q n) → ⊥
copy_is r q n m zero e = absurd (cc)
copy_is r q n m (suc i) e = absurd (cc)

other_skip : (r q n i : ℕ) (xs : List StoreStep) → StepsFit (Copied r) xs → slice_get xs i ≡ Some (Skips q n) → (q == r) ≡ false → ⊥
other_skip r q n i xs (m, inl fit) e h = copy_is r q n m i (ap (λ l. slice_get l i) (sym fit) ∙ e)
other_skip r q n i xs (m, inr fit) e h = skip_is r q n m i (ap (λ l. slice_get l i) (sym fit) ∙ e) h

module _ (bases : Bases) (p : Point) (o : Outset) (T : History) (e : Line) (led : IsLed bases p o T) (follows : Follows bases p o T e) where
  steps_are : (z : Entry) → e.1.0 ≡ z → StepsFit z e.1.2
  steps_are z is = subst (λ y. StepsFit y e.1.2) is follows.steps

  frame_only : e.1.0 ≡ Took → stable (core_told o (T ++ e ∷ [])) ≡ stable (core_told o T)
  frame_only is =
      let g = goes bases p o T e led follows in
      let course : IsPointCourse g.from (Does Takes ∷ []) g.to = subst (λ xs. IsPointCourse g.from xs g.to) (steps_are Took is) g.land.course in
      ap stable (sym (core_is bases p o T e led follows)) ∙ (ap (λ (z : Point). stable z.core) (sym course.2) ∙ (ap stable course.1.1.0.1 ∙ ap stable g.stood.comes.core))

  flush_only : e.1.0 ≡ Flushed → (core_told o (T ++ e ∷ [])).system ≡ (core_told o T).system
  flush_only is =
      let g = goes bases p o T e led follows in
      let course : IsPointCourse g.from (Does Flushes ∷ []) g.to = subst (λ xs. IsPointCourse g.from xs g.to) (steps_are Flushed is) g.land.course in
      ap (λ (d : CoreState). d.system) (sym (core_is bases p o T e led follows))
      ∙ (ap (λ (z : Point). z.core.system) (sym course.2) ∙ (ap (λ (d : CoreState). d.system) course.1.1.0.1.1 ∙ ap (λ (d : CoreState). d.system) g.stood.comes.core))

beside : (s : StoreStep) → is_named s ≡ true → is_grant s ≡ false → Beside s
beside s named other x c i bases p o T e led w f = not_beside x c i e.1.2 s named other (steps_are bases p o T e led f (Did x c) w.0) w.1

besides : Besides
besides = record {
  flushes = beside (Does Flushes) refl refl;
  takes = beside (Does Takes) refl refl;
  passes = λ b r. beside (Does (Passes b r)) refl refl;
  keeps = beside Keeps refl refl;
  copies = λ r n. beside (Copies r n) refl refl;
  skips = λ r n. beside (Skips r n) refl refl;
  writes = λ h. beside (WritesHead h) refl refl;
  syncs = beside Syncs refl refl;
  grants = λ x c i t k m bases p o T e led w f. other_grant x c i t k m e.1.2 (steps_are bases p o T e led f (Did x c) w.0) w.1 w.2;
}

pub unstored : Unstored
unstored = record {
  taken = λ bases p o T e led w f. w.1 (frame_only bases p o T e led f w.0);
  flushed = λ bases p o T e led w f. w.1 (flush_only bases p o T e led f w.0);
  besides = besides;
  copied = λ r q n i bases p o T e led w f. other_copy r q n i e.1.2 (steps_are bases p o T e led f (Copied r) w.0) w.1 w.2;
  skipped = λ r q n i bases p o T e led w f. other_skip r q n i e.1.2 (steps_are bases p o T e led f (Copied r) w.0) w.1 w.2;
  untaken = λ bases p o T e led w f.
      let same : taken_to (core_told o (T ++ e ∷ [])).system ≡ taken_to (core_told o T).system = ap taken_to (system_stays bases p o T e f w.0) in
      omega (arith, w.1, same, within_taken bases p o T e led f);
  again = λ bases p o T e led w f.
      let same : taken_to (core_told o (T ++ e ∷ [])).system ≡ taken_to (core_told o T).system = ap taken_to (system_stays bases p o T e f w.0) in
      w.2 (omega (arith, w.1, same, within_taken bases p o T e led f, more_flushed bases p o T e led f));
  behind_fault = λ bases p o T e led w f.
      w.1 (ap stable (sym (core_is bases p o T e led f)) ∙ (goes bases p o T e led f).land.goes.grows.sealed (failed_told bases p o T led ∙ w.0));
  no_fault = λ c bases p o T e led w f.
      not_both_ways (stops bases p o T e led f c w.0) (ap (λ (d : CoreState). d.vault.stopped) (core_is bases p o T e led f) ∙ w.1);
  no_stop = λ c bases p o T e led w f. not_both_ways (engine_stops bases p o T e led f c w.0) (ap is_some w.1);
  twice = λ c bases p o T e led w f. not_both_ways w.1 (ran bases p o T e led f c w.0);
  by_two = λ n c bases p o T e led w f. w.1 (next_anchor bases p o T e led f n c w.0).0;
  unclean = λ n c bases p o T e led w f.
      let k = certified bases p o T e led f n c w.0 in let low = w.1 k.0 k.1 k.2 in omega (arith, k.3, low);
  stale = λ n c A R l bases p o T e led w f.
      let k = certified bases p o T e led f n c w.0 in
      let kept_then = head_then bases p o T e led f n c w.0 A R l w.1 w.2 w.3 in
      let low = w.4 k.0 k.1 k.2 (omega (arith, k.4, kept_then)) in omega (arith, k.3, low);
  unready = λ n c bases p o T e led is none f.
      let m = moved bases p o T e led f n c is in
      none (goes bases p o T e led f).from m.mid m.first m.last (goes bases p o T e led f).stood m.split m.comes m.head m.begin m.number m.may;
  started = λ c bases p o T e led w f. w.1 (span_last None c (deeds_of (plain T)) (tells_deed bases p o T e led f StartsCheckpoint c w.0).together.spans);
  ended = λ c bases p o T e led w f. w.1 (span_ends None c (deeds_of (plain T)) (tells_deed bases p o T e led f EndsCheckpoint c w.0).together.spans);
  incomplete = λ bases p o T e led is none f.
      let g = goes bases p o T e led f in
      let course : IsPointCourse g.from (Turns ∷ []) g.to = subst (λ xs. IsPointCourse g.from xs g.to) is g.land.course in
      none g.from g.stood course.1.0 course.1.1 course.1.2 course.1.4;
}

-- ---- commits that were answered
count_both : {X : Type 0} (f : X → Bool) (xs ys : List X) → count_by f (xs ++ ys) ≡ count_by f xs + count_by f ys
count_both f xs ys = sum_by-append (λ x. cond (f x) 1 0) xs ys

no_less : (n : ℕ) → 0 ≤ n
no_less n = omega arith

module _ (w : World) (c : ℕ) where
  abbrev pub kept : List Receipt → ℕ
  kept xs = count_by (is_commit_below (stable w.core)) xs

  one_ok : (x : Move) → HasCause w c x → count_by is_ok (said x) ≤ kept (own x)
  one_ok (Commits t tries cs d n xs rest) h =
      let one : kept ((n, Logs (Commit t)) ∷ []) ≡ 1 = ap (λ b. 0 + cond b 1 0) (lt-ltb n (stable w.core) h.0) in
      let all : kept ((n, Logs (Commit t)) ∷ xs) ≡ 1 + kept xs =
      count_both (is_commit_below (stable w.core)) ((n, Logs (Commit t)) ∷ []) xs ∙ ap (λ z. z + kept xs) one in
      subst (λ z. 1 ≤ z) (sym all) (omega arith)
  one_ok (GivesWay t tries cs d xs call f ys (TakenBack n) rest) h = no_less _
  one_ok (GivesWay t tries cs d xs call f ys (LeftBehind n z) rest) h = no_less _
  one_ok (GivesUp t tries cs d xs call f ys (TakenBack n) rest) h = no_less _
  one_ok (GivesUp t tries cs d xs call f ys (LeftBehind n z) rest) h = no_less _
  one_ok x h = no_less _

  all_ok : (p : Spot) (xs : List Move) (q : Spot) → IsPath w c p xs q → count_by is_ok (said_by xs) ≤ kept (own_by xs)
  all_ok p [] q path = no_less _
  all_ok p (x ∷ xs) q path =
      let here = one_ok x path.1 in
      let rest = all_ok (leads x) xs q path.2 in
      let lines : count_by is_ok (said_by (x ∷ xs)) ≡ count_by is_ok (said x) + count_by is_ok (said_by xs) = ap (λ l. count_by is_ok l) (flat_map-cons said x xs) ∙ count_both is_ok (said x) (said_by xs) in
      let did : kept (own_by (x ∷ xs)) ≡ kept (own x) + kept (own_by xs) = ap (λ l. kept l) (flat_map-cons own x xs) ∙ count_both (is_commit_below (stable w.core)) (own x) (own_by xs) in
      omega (arith, here, rest, lines, did)

  all_kept : (s : Standing) → StandsIn w s → s.client ≡ c → count_by is_ok s.lines ≤ kept (own_deeds w s.client)
  all_kept s so e =
      let moves = all_ok (start s.acts) so.moves s.spot (subst (λ d. IsPath w d (start s.acts) so.moves s.spot) e so.path) in
      let lines : count_by is_ok s.lines ≡ count_by is_ok (said_by so.moves) = ap (λ l. count_by is_ok l) so.lines_are in
      let did : kept (own_deeds w s.client) ≡ kept (own_by so.moves) + kept s.pending = ap (λ l. kept l) so.did_are ∙ count_both (is_commit_below (stable w.core)) (own_by so.moves) s.pending in
      omega (arith, moves, lines, did)

-- ---- a stop
no_store : (q : Option ℕ) (b : Bool) → b ≡ false → cause_of q b ≡ Some Store → ⊥
no_store (Some r) b e h = absurd (cc)
no_store None true e h = absurd (cc)
no_store None false e h = absurd (cc)

pub untold : Untold
untold = record {
  poke = λ r g h bases p o T led w. let at = stands_of bases p o T led.begins led.all in w.2 (at.1.tells.together.pokes r g h w.0 w.1).0;
  fault = λ bases p o T led w. not_both_ways (sym (failed_told bases p o T led) ∙ w.0) w.1;
  turn = λ bases p o T led w.
      let at = stands_of bases p o T led.begins led.all in
      w.1 (anchor_stays o.old.vault.current (core_told o T).vault.current (deeds_of (plain T)) at.1.tells.together.anchors w.0);
  flush = λ bases p o T led w. w.1 (flushes_are_told bases p o led.begins T led.all w.0);
  stop = λ bases p o T led w.
      let at = stands_of bases p o T led.begins led.all in
      no_store (failed_at (world_told o T) (length (deeds_of (plain T)))) (has_failed o.old.vault.stopped (take (length (deeds_of (plain T))) (deeds_of (plain T))))
      (ap (has_failed o.old.vault.stopped) (take_all (deeds_of (plain T))) ∙ w.1) (stop_stands bases p o T at.0 at.1 ∙ w.0);
  commit = λ s o T told few.
      let all : count_by is_ok s.lines ≤ count_by (is_commit_below (stable (core_told o T))) (own_deeds (world_told o T) s.client) = all_kept (world_told o T) s.client s told.stands refl in
      omega (arith, all, few);
}
