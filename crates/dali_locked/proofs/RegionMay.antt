-- What a client tells of a region in hand may be added, whatever others add meanwhile.
use Rattle.std.proofs.Common.{◌≡◌, ◌≢◌, ℕ, ◌+◌, ◌<◌, ◌^◌, Bool, true, false, List, [], ◌∷◌, ◌++◌, Option, Some, None, IsSome, IfSome, IsSomeAnd, length, refl, ap, sym, subst, ◌∙◌, inl, arith}
use Rattle.std.specs.Prelude.{slice_get, bit_or, if◌then◌else◌}
use Rattle.dali_lists.proofs.Numbers.{eqb-self}
use Rattle.dali_runs.proofs.CountsLemmas.Lists.{some_same}
use lib.Bits.{or_zero_l}
use Rattle.atomic_table.specs.Seated.{TableId}
use Rattle.dali_record.specs.declared.records.Record.{Record}
use Rattle.dali_record.specs.declared.records.Record.TheVariants.{AuditBegin}
use Rattle.dali_region.specs.declared.Hold.{Hold}
use Rattle.dali_region.specs.State.{RegionState, IsLive, poked, latched, with_reads, updated, taken_back, map_hold, writing}
use Rattle.dali_att.specs.declared.state.State.{State}
use Rattle.dali_att.specs.declared.state.State.TheVariants.{Live}
use Rattle.dali_runs.specs.State.{SystemState, CoreState, state_of}
use Rattle.dali_runs.specs.Steps.{audit_record}
use Rattle.dali_runs.specs.Run.{Bases}
use Rattle.dali_runs.specs.Regions.{RegionStep, Latch, NoteReads, Update, TakeBack, Poke, is_alive, MayChange}
use Rattle.dali_system.specs.declared.operation.Operation.{Operation}
use Rattle.dali_system.specs.UnderWay.{OneIsUnderWay, IsUpdated}
use Rattle.dali_runs.specs.Courses.{OnRegion as StepsOn}
use Rattle.dali_crash.specs.Checkpoints.{Does, Point}
use Rattle.dali_crash.specs.Traces.{Start, bases_of}
use Rattle.dali_transcripts.specs.World.{Deed, Logs, Strays}
use Rattle.dali_notes.specs.History.{IsSeen, Sight, AllMay, AllSaw, MayAdd, Added}
use Rattle.dali_concurrent.specs.Entries.{Entry, Did, Latched, Updated, Freed, region_note, client_note, live_by, actor_by}
use Rattle.dali_concurrent.specs.Rules.{Outset, count_of, live_in, dead_in, state_by, dead_by, DeedFits, LatchFits, UpdateFits, FreeFits}
use Rattle.dali_concurrent.specs.Told.{OnRegion, Item, Line, History, plain, core_told}
use Rattle.dali_concurrent.specs.Sorts.{steps_on, after_all, MayMake}
use Rattle.dali_concurrent.specs.Landing.{Lands}
use Rattle.dali_concurrent.specs.Kept.{txn_in, RegionTold, Follows}
use Rattle.dali_concurrent.specs.Holds.{IsLed}
use Rattle.dali_concurrent.proofs.Told.{plain_seen}
use Rattle.dali_concurrent.proofs.Sorts.{region_steps_land}
use Rattle.dali_concurrent.proofs.Cases.{strays_land}
use Rattle.dali_concurrent.proofs.Kept.{fit_of}
use Rattle.dali_concurrent.proofs.Holds.{holds_are_told, hold_is_of_actor, states_are_told, actor_stays, with_txn, runs_there}
use Rattle.dali_locked.specs.Begun.{Begun, outset, may_add, Of, LedFrom, Led}
use Rattle.dali_locked.specs.Sights.{ClientSight, RegionSight, Acts, Knows, client_sight, region_sight}
use Rattle.dali_locked.specs.Regions.{RegionKept, read_in, stray_item, latch_item, update_item, freed_item}
use Rattle.dali_locked.specs.Undoing.{Tends}
use Rattle.dali_locked.specs.RegionWords.{word_of, value_of, word_item}
use Rattle.dali_locked.proofs.RegionWords.{found_word}
use Rattle.dali_locked.proofs.RegionAdding.{led_on, told_on}
use Rattle.dali_locked.proofs.RegionLines.{IsRegionLine, region_line_follows, on_silent, on_it, on_writes}

no_verdict : (r word mask b : ℕ) (found : List ℕ) → Strays r word mask ≡ Logs (audit_record b found) → ⊥
no_verdict r word mask b [] e = cc
no_verdict r word mask b (q ∷ found) e = cc

-- ---- holds
none_told : (q : Option (ℕ × ℕ)) → txn_in q ≡ None → q ≡ None
none_told None e = refl
none_told (Some w) e = absurd (cc)

live_written : (i : ℕ) (q : Option Hold) → live_in (map_hold (writing i) q) ≡ live_in q
live_written i None = refl
live_written i (Some h) = refl

dead_written : (i : ℕ) (q : Option Hold) → dead_in (map_hold (writing i) q) ≡ dead_in q
dead_written i None = refl
dead_written i (Some h) = refl

-- ---- who acts
pub acts_stay : (bases : Bases) (p : Point) (o : Outset) (c u : ℕ) (seen now : History) → IsLed bases p o now → IsSeen now (client_note (count_of o) c) seen → Acts c u o seen → Acts c u o now
acts_stay bases p o c u seen now led is acts =
    let w = actor_stays o u c (plain seen) (plain now) (fit_of bases p o now led.all) (plain_seen now (client_note (count_of o) c) seen is) acts.actor (ap is_alive acts.lives) in
    record { actor = w.0; lives = w.1 ∙ acts.lives }

pub tends_stay : (bases : Bases) (p : Point) (o : Outset) (c u : ℕ) (seen now : History) → IsLed bases p o now → IsSeen now (client_note (count_of o) c) seen → Tends c u o seen → Tends c u o now
tends_stay bases p o c u seen now led is tends =
    let w = actor_stays o u c (plain seen) (plain now) (fit_of bases p o now led.all) (plain_seen now (client_note (count_of o) c) seen is) tends.actor tends.alive in
    record { actor = w.0; alive = ap is_alive w.1 ∙ tends.alive }

pub tends_of : (c u : ℕ) (o : Outset) (T : History) → Acts c u o T → Tends c u o T
tends_of c u o T acts = record { actor = acts.actor; alive = ap is_alive acts.lives }

-- the live hold of the region in hand is its own
pub own_hold : (bases : Bases) (p : Point) (o : Outset) (c u r : ℕ) (g : RegionState) (now : History) → IsLed bases p o now → RegionTold o r g now → actor_by u (plain now) ≡ Some c → live_in g.hold ≡ Some u
    → live_by r (plain now) ≡ Some (u, c)
own_hold bases p o c u r g now led told actor held =
    let w = with_txn (live_by r (plain now)) u (sym told.hold.live ∙ held) in
    let theirs = (hold_is_of_actor o (plain now) r u w.0 (fit_of bases p o now led.all) w.1).1 in
    let same : w.0 ≡ c = some_same (sym theirs ∙ actor) in
    w.1 ∙ ap (λ d. Some (u, d)) same

-- ---- wherever others have led the history
module _ (b : Begun) (t : TableId) (k : ℕ) (x : RegionSight) (kept : RegionKept b t k x) (client : ClientSight) where
  -- each line is shown with the notes of the outset's regions
  each_line : (item : Item) → ((s : Start) (p : Point) → b.each s p → (now : History) → IsLed (bases_of s) p (outset b s p) now → RegionTold (outset b s p) x.number x.region now
      → IsSeen now (client_note (count_of (outset b s p)) client.id) client.seen
      → Follows (bases_of s) p (outset b s p) now (client_note (count_of (outset b s p)) client.id ∷ region_note x.number ∷ [], item))
      → MayAdd (may_add b) (client_sight b client ∷ region_sight b x ∷ []) item
  each_line item follows now saw all s p each =
      let led = led_on b x.seen now kept.led all s p each in
      subst (λ n. Follows (bases_of s) p (outset b s p) now (client_note n client.id ∷ region_note x.number ∷ [], item)) led.count
      (follows s p each now led.led (told_on b t k x now kept saw.1.0 all s p each) (subst (λ n. IsSeen now (client_note n client.id) client.seen) (sym led.count) saw.0))

  -- ---- a stray write
  pub stray_may : (word mask : ℕ) → word < 64 → mask ≢ 0 → mask < 2 ^ 64
      → MayAdd (may_add b) (client_sight b client ∷ region_sight b x ∷ []) (stray_item client.id x.number word mask (poked word mask x.region))
  stray_may word mask low some fits = each_line (stray_item client.id x.number word mask (poked word mask x.region)) (λ s p each now led told seen.
      region_line_follows (bases_of s) p (outset b s p) now client.id x.number x.region (poked word mask x.region) (Did (Strays x.number word mask) client.id)
      (Does (StepsOn x.number (Poke word mask)) ∷ []) (record {
        there = told.is;
        by = λ n h. h;
        fits = record { txn = tt; acts = λ u e. absurd (cc); audited = λ c found e. absurd (no_verdict x.number word mask c found e); looked = λ q e. absurd (cc); held = tt };
        lands = strays_land (bases_of s) p (outset b s p) now _ client.id x.number word mask x.region told.is low some fits;
        silent = on_silent x.number (Poke word mask ∷ []);
        steps = refl;
        writes = refl;
        core = refl;
        live = told.hold.live;
        dead = told.hold.dead;
      }))

  -- ---- a latch
  pub latch_may : (u mask : ℕ) (h : RegionState) → Knows b (Tends client.id u) client → x.region.hold ≡ None → mask < 2 ^ 64 → h ≡ with_reads mask (latched u x.region)
      → MayAdd (may_add b) (client_sight b client ∷ region_sight b x ∷ []) (latch_item client.id x.number u h)
  latch_may u mask h knows free fits is = each_line (latch_item client.id x.number u h) (λ s p each now led told seen.
      let o = outset b s p in
      let ks = client_note (count_of o) client.id ∷ region_note x.number ∷ [] in
      let acts = tends_stay (bases_of s) p o client.id u client.seen now led seen (knows s p each) in
      let read : read_in h.hold ≡ mask = ap (λ (z : RegionState). read_in z.hold) is ∙ or_zero_l mask in
      region_line_follows (bases_of s) p o now client.id x.number x.region h (Latched x.number u client.id) (steps_on x.number (Latch u ∷ NoteReads (read_in h.hold) ∷ [])) (record {
        there = told.is;
        by = λ n h. h;
        fits = record {
          within = (holds_are_told (bases_of s) p o now led x.number x.region told.is).0;
          acts = acts.actor;
          free = (none_told (live_by x.number (plain now)) (sym told.hold.live ∙ ap live_in free), sym told.hold.dead ∙ ap dead_in free);
        };
        lands = subst (λ n. Lands (bases_of s) p o now (ks, (Latched x.number u client.id, OnRegion x.number h, steps_on x.number (Latch u ∷ NoteReads n ∷ [])))) (sym read)
            (subst (λ z. Lands (bases_of s) p o now (ks, (Latched x.number u client.id, OnRegion x.number z, steps_on x.number (Latch u ∷ NoteReads mask ∷ [])))) (sym is)
            (region_steps_land (bases_of s) p o now ks (Latched x.number u client.id) x.number (Latch u ∷ NoteReads mask ∷ []) x.region refl told.is
            (refl, refl, free, ap is_alive (states_are_told (bases_of s) p o now u led) ∙ acts.alive, (refl, refl, ((refl, refl), fits), tt, tt))));
        silent = on_silent x.number (Latch u ∷ NoteReads (read_in h.hold) ∷ []);
        steps = on_it x.number (Latch u ∷ NoteReads (read_in h.hold) ∷ []);
        writes = on_writes x.number (Latched x.number u client.id) (eqb-self x.number) (Latch u ∷ NoteReads (read_in h.hold) ∷ []);
        core = refl;
        live = ap (λ (z : RegionState). live_in z.hold) is ∙ ap (λ t. txn_in (if t then Some (u, client.id) else live_by x.number (plain now))) (sym (eqb-self x.number));
        dead = ap (λ (z : RegionState). dead_in z.hold) is ∙ ap (λ t. if t then None else dead_by o x.number (plain now)) (sym (eqb-self x.number));
      }))

  -- ---- a word
  pub update_may : (u word value : ℕ) (h : RegionState) → Knows b (Tends client.id u) client → live_in x.region.hold ≡ Some u
      → ((s : Start) (p : Point) (now : History) → IsLed (bases_of s) p (outset b s p) now → RegionTold (outset b s p) x.number x.region now
      → MayChange (Update word value) x.region × (h ≡ updated word value x.region))
      → MayAdd (may_add b) (client_sight b client ∷ region_sight b x ∷ []) (update_item client.id x.number word value h)
  update_may u word value h knows held may = each_line (update_item client.id x.number word value h) (λ s p each now led told seen.
      let o = outset b s p in
      let ks = client_note (count_of o) client.id ∷ region_note x.number ∷ [] in
      let acts = tends_stay (bases_of s) p o client.id u client.seen now led seen (knows s p each) in
      let w = may s p now led told in
      region_line_follows (bases_of s) p o now client.id x.number x.region h (Updated x.number client.id) (steps_on x.number (Update word value ∷ [])) (record {
        there = told.is;
        by = λ n h. h;
        fits = (u, own_hold (bases_of s) p o client.id u x.number x.region now led told acts.actor held);
        lands = subst (λ z. Lands (bases_of s) p o now (ks, (Updated x.number client.id, OnRegion x.number z, steps_on x.number (Update word value ∷ [])))) (sym w.1)
            (region_steps_land (bases_of s) p o now ks (Updated x.number client.id) x.number (Update word value ∷ []) x.region refl told.is (refl, refl, w.0, tt, tt));
        silent = on_silent x.number (Update word value ∷ []);
        steps = on_it x.number (Update word value ∷ []);
        writes = on_writes x.number (Updated x.number client.id) (eqb-self x.number) (Update word value ∷ []);
        core = refl;
        live = ap (λ (z : RegionState). live_in z.hold) w.1 ∙ (live_written word x.region.hold ∙ told.hold.live);
        dead = ap (λ (z : RegionState). dead_in z.hold) w.1 ∙ (dead_written word x.region.hold ∙ told.hold.dead);
      }))

  -- whichever it is
  pub word_may : (u : ℕ) (h : RegionState) (op : Option Operation) → Knows b (Tends client.id u) client → live_in x.region.hold ≡ Some u → OneIsUnderWay op x.region → IsUpdated x.region h
      → MayAdd (may_add b) (client_sight b client ∷ region_sight b x ∷ []) (word_item client.id x.number x.region h)
  word_may u h op knows held under w = update_may u (word_of x.region h) (value_of x.region h) h knows held (λ s p now led told.
      let reads = reads_few x.region.hold ((runs_there (bases_of s) p (outset b s p) now led).regions x.number x.region told.is).reads in
      let f = found_word x.region h w.0 w.1 (long op x.region under) reads w.2 w.3 in
      (f.may, f.is))
    where
      reads_few : (q : Option Hold) → IfSome q (λ h. h.read < 2 ^ 64) → read_in q < 2 ^ 64
      reads_few None e = omega arith
      reads_few (Some h) e = e

      long : (op : Option Operation) (g : RegionState) → OneIsUnderWay op g → length g.words ≡ 64
      long None g under = absurd under
      long (Some o) g under = under.size

  -- ---- its hold ends
  pub freed_may : (u : ℕ) (h : RegionState) → Knows b (Tends client.id u) client → live_in x.region.hold ≡ Some u → IsLive x.region → IsSome x.region.hold → h ≡ taken_back x.region
      → MayAdd (may_add b) (client_sight b client ∷ region_sight b x ∷ []) (freed_item client.id x.number h)
  freed_may u h knows held live some is = each_line (freed_item client.id x.number h) (λ s p each now led told seen.
      let o = outset b s p in
      let ks = client_note (count_of o) client.id ∷ region_note x.number ∷ [] in
      let acts = tends_stay (bases_of s) p o client.id u client.seen now led seen (knows s p each) in
      region_line_follows (bases_of s) p o now client.id x.number x.region h (Freed x.number client.id) (steps_on x.number (TakeBack ∷ [])) (record {
        there = told.is;
        by = λ n h. h;
        fits = record { txn = u; acts = acts.actor; held = inl (own_hold (bases_of s) p o client.id u x.number x.region now led told acts.actor held) };
        lands = subst (λ z. Lands (bases_of s) p o now (ks, (Freed x.number client.id, OnRegion x.number z, steps_on x.number (TakeBack ∷ [])))) (sym is)
            (region_steps_land (bases_of s) p o now ks (Freed x.number client.id) x.number (TakeBack ∷ []) x.region refl told.is (refl, refl, some, live, tt));
        silent = on_silent x.number (TakeBack ∷ []);
        steps = inl (on_it x.number (TakeBack ∷ []));
        writes = on_writes x.number (Freed x.number client.id) (eqb-self x.number) (TakeBack ∷ []);
        core = refl;
        live = ap (λ (z : RegionState). live_in z.hold) is ∙ ap (λ t. txn_in (if t then None else live_by x.number (plain now))) (sym (eqb-self x.number));
        dead = ap (λ (z : RegionState). dead_in z.hold) is ∙ ap (λ t. if t then None else dead_by o x.number (plain now)) (sym (eqb-self x.number));
      }))
