-- Where a round ends: each client is done, or the round was cut.
use Rattle.std.proofs.Common.{◌≡◌, ℕ, zero, suc, Bool, true, false, List, [], ◌∷◌, ◌++◌, length, map, fold, Option, Some, None, is_some, refl, ap, sym, subst, ◌∙◌, arith}
use Rattle.std.specs.Prelude.{◌==◌, if◌then◌else◌, IfSome, IsSome, IsSomeAnd, slice_get}
use Rattle.std.specs.List.{list_all}
use Rattle.std.proofs.lemmas.List.{append-nil}
use Rattle.std.proofs.lemmas.List.Elements.{filter_map-append}
use Rattle.dali_lists.proofs.Lists.{set_same}
use Rattle.dali_lists.proofs.Options.{some_of_test}
use Rattle.dali_runs.proofs.CountsLemmas.Lists.{equal, some_same, and_left, and_right}
use Rattle.dali_region.specs.declared.Hold.{Hold}
use Rattle.dali_region.specs.State.{RegionState, IsLive}
use Rattle.dali_att.specs.declared.state.State.{State as TxnState}
use Rattle.dali_att.specs.declared.state.State.TheVariants.{Live, Dead, Cleaning, Committed}
use Rattle.dali_store.specs.Store.{Files as Disk}
use Rattle.dali_store.specs.declared.store.Store.{Ghosts}
use Rattle.dali_runs.specs.State.{SystemState, CoreState, TxnRow, row_of, state_in, state_of}
use Rattle.dali_runs.specs.Steps.{in_checkpoint}
use Rattle.dali_crash.specs.Checkpoints.{Finishes, Point, IsPointCourse}
use Rattle.dali_crash.specs.Traces.{Start, bases_of}
use Rattle.dali_core.specs.Vault.Vaulted.{Vaulted}
use Rattle.dali_during.proofs.Points.{point_whole_course_keeps}
use Rattle.dali_clean.specs.Cleaned.{AreDead}
use Rattle.dali_transcripts.specs.Words.{Said}
use Rattle.dali_transcripts.specs.World.{Deed, StartsCheckpoint, EndsCheckpoint, Happening, World, log_of, is_dead_in, is_claimed_in, span_step, under_way, Grows}
use Rattle.dali_transcripts.specs.Transcripts.{Told, deeds_of, number_in, numbers_of, receipts_of, AreHanded, is_among, EachTells}
use Rattle.dali_transcripts.specs.Rounds.{Standing, Stands, IsDone, told_of, lines_in, IsAtRest, IsBetween}
use Rattle.dali_transcripts.proofs.Rounds.{round_is_done, round_is_cut, deeds_are_done}
use Rattle.dali_transcripts.specs.Telling.Tells.{after, Goes}
use Rattle.dali_turns.specs.declared.client.Client.{Client}
use Rattle.dali_turns.specs.Stood.{Stood}
use Rattle.dali_turns.specs.Fits.{lines_of}
use Rattle.dali_turns.specs.Turns.{own_numbers}
use Rattle.dali_turns.proofs.Deeds.{course_tells}
use Rattle.dali_turns.proofs.Spans.{none_under_way}
use Rattle.dali_turns.proofs.Coursing.{course_flag}
use Rattle.dali_turns.proofs.Doing.{behind}
use Rattle.dali_turns.proofs.Finishing.{finish_point, finishes_there, finished_at}
use Rattle.dali_turns.proofs.Turning.{deeds_grown}
use Rattle.dali_round.specs.Leads.{RoundLeads}
use Rattle.dali_round.specs.Played.{AreOver, IsSeated, Played}
use Rattle.dali_round.proofs.Lists.{with_length, same_map}
use Rattle.dali_turns.proofs.Unfinished.{under_way_on}
use Rattle.dali_round.proofs.Marks.{ends_under_way}
use Rattle.dali_round.proofs.Places.{done_of, told_done, lines_done, over_stands, over_pending, over_owns}
use Rattle.dali_round.proofs.Seats.{is_on, numbers_on, other_client, played_by}
use Rattle.dali_round.proofs.Starts.{get_back}
use Rattle.dali_transactions.specs.Beside.Went.{is_open}

-- ---- lists
find_among : (ss : List Standing) (c : ℕ) → is_among (map told_of ss) c ≡ true → (i : ℕ) × (a : Standing) × (slice_get ss i ≡ Some a) × (a.client ≡ c)
find_among [] c e = absurd (cc)
find_among (a ∷ ss) c e = by_test (a.client == c) refl e (λ h. find_among ss c h)
  where
    by_test : (t : Bool) → (a.client == c) ≡ t → (if t then true else is_among (map told_of ss) c) ≡ true → (is_among (map told_of ss) c ≡ true → (i : ℕ) × (b : Standing) × (slice_get ss i ≡ Some b) × (b.client ≡ c))
        → (i : ℕ) × (b : Standing) × (slice_get (a ∷ ss) i ≡ Some b) × (b.client ≡ c)
    by_test true same h more = (zero, a, refl, equal a.client c same)
    by_test false same h more = let m = more h in (suc m.0, m.1, m.2, m.3)

-- who has a checkpoint under way has started it
started : (bs : List Told) (xs : List Happening) (o : Option ℕ) (c : ℕ) → fold span_step o xs ≡ Some c → list_all (λ (x : Happening). is_among bs x.1) xs ≡ true → (o ≡ Some c → is_among bs c ≡ true) → is_among bs c ≡ true
started bs [] o c e all first = first e
started bs ((StartsCheckpoint, d) ∷ xs) o c e all first =
    started bs xs (Some d) c e (and_right (is_among bs d) (list_all (λ (x : Happening). is_among bs x.1) xs) all) (λ f. ap (is_among bs) (sym (some_same f)) ∙ and_left (is_among bs d) (list_all (λ (x : Happening). is_among bs x.1) xs) all)
started bs ((EndsCheckpoint, d) ∷ xs) o c e all first = started bs xs None c e (and_right (is_among bs d) (list_all (λ (x : Happening). is_among bs x.1) xs) all) (λ f. absurd (cc))
started bs ((_, d) ∷ xs) o c e all first = started bs xs o c e (and_right (is_among bs d) (list_all (λ (x : Happening). is_among bs x.1) xs) all) first

receipts_told : (w : World) (ss : List Standing) → map (λ (a : Standing). numbers_of (deeds_of w a.client)) ss ≡ receipts_of w (map told_of ss)
receipts_told w [] = refl
receipts_told w (a ∷ ss) = ap (λ l. numbers_of (deeds_of w a.client) ∷ l) (receipts_told w ss)

handed_cut : (w : World) (ss : List Standing) (ks : List Client) → length ks ≡ length ss
    → ((i : ℕ) (a : Standing) (k : Client) → slice_get ss i ≡ Some a → slice_get ks i ≡ Some k → (lacking : List ℕ) × (numbers_of (deeds_of w a.client) ≡ k.transcript.receipts ++ lacking))
    → AreHanded false (receipts_of w (map told_of ss)) (map (λ (k : Client). k.transcript.receipts) ks)
handed_cut w [] [] e each = tt
handed_cut w [] (k ∷ ks) e each = absurd (omega (arith, e))
handed_cut w (a ∷ ss) [] e each = absurd (omega (arith, e))
handed_cut w (a ∷ ss) (k ∷ ks) e each = (each zero a k refl refl, handed_cut w ss ks (omega (arith, e)) (λ i b l at_b at_l. each (suc i) b l at_b at_l))

-- ---- cores
no_live : (gs : List RegionState) → AreDead gs → (r : ℕ) (g : RegionState) → slice_get gs r ≡ Some g → IsLive g → ⊥
no_live gs dead r g e live = by_hold g.hold (dead r g e) live
  where
    by_hold : (o : Option Hold) → IfSome o (λ (h : Hold). h.dead ≡ true) → IsSomeAnd o (λ (h : Hold). h.dead ≡ false) → ⊥
    by_hold None d l = absurd l
    by_hold (Some h) d l = let no_way : true ≡ false = sym d ∙ l in absurd (cc)

module _ {V : Type 0} (means : Ghosts V) where
  module _ (precheck : Bool) (s : Start) (p : Point) (bs : List Told) (ks : List Client) (gs : List RegionState) (y : SystemState) (v : Vaulted V) (ok : Bool) (f : Played means ok precheck s p bs ks gs y v) where
    -- ---- whose checkpoint is under way
    record Making : Type 0 where
      place : ℕ
      standing : Standing
      there : slice_get f.standings place ≡ Some standing
      client : Client
      at_client : slice_get ks place ≡ Some client
      under : under_way f.world.happened ≡ Some standing.client

    making : y.checking ≡ true → Making
    making set = record { place = one.0; standing = one.1; there = one.2; client = two.0; at_client = two.1; under = who.1 ∙ ap Some (sym one.3) }
      where
        who : (c : ℕ) × (under_way f.world.happened ≡ Some c)
        who = some_of_test (under_way f.world.happened) (sym f.stood.tells.flag ∙ (ap (λ (c : CoreState). c.system.checking) f.stood.tells.core ∙ (ap (λ (m : SystemState). m.checking) f.stood.stands.at.system ∙ set)))

        one : (i : ℕ) × (a : Standing) × (slice_get f.standings i ≡ Some a) × (a.client ≡ who.0)
        one = find_among f.standings who.0 (subst (λ l. is_among l who.0 ≡ true) (sym f.blocks) (started bs f.world.happened None who.0 who.1 f.owners (λ e. absurd (cc))))

        two : (k : Client) × (slice_get ks one.0 ≡ Some k)
        two = with_length ks f.standings one.0 one.1 (sym f.count) one.2

    -- ---- what is promised behind each end
    rests : y.checking ≡ false → IsAtRest f.to.core
    rests clear = record {
      stopped = λ e. some_of_test f.to.core.system.stop (ap (λ (m : SystemState). is_some m.stop) f.stood.stands.at.system ∙ f.stood.stops (sym f.stood.stands.at.vault.vault.stopped ∙ e));
      holds = no_live f.to.core.regions (subst AreDead (sym f.stood.stands.at.regions) f.stood.stands.dead);
      flag = ap (λ (m : SystemState). m.checking) f.stood.stands.at.system ∙ clear;
      free = λ t. ap (λ (m : SystemState). is_claimed_in (state_of m t)) f.stood.stands.at.system ∙ f.stood.quiet.unclaimed t;
    }

    leads : (lines : List (List Said)) (receipts : List (List ℕ)) → y.checking ≡ false → EachTells ok f.world bs lines → AreHanded ok (receipts_of f.world bs) receipts → (ok ≡ true → IsBetween f.to.core)
        → RoundLeads means precheck ok s p bs lines receipts gs y v
    leads lines receipts clear each handed between = record {
      to = f.to;
      batches = f.batches;
      steps = f.steps;
      course = f.course;
      stands = f.stood.stands;
      files = f.stood.files;
      keeps = f.stood.keeps;
      round = record {
        world = f.world;
        old_is = f.old_is;
        before_is = f.before_is ∙ f.log;
        precheck_is = f.stood.precheck_is;
        core_is = f.stood.tells.core;
        grew = subst (λ (c : CoreState). Grows (record f.world { happened = []; core = c }) f.world) f.old_is f.stood.tells.grew;
        log = sym f.stood.stands.at.vault.run.run.log ∙ f.stood.tells.log;
        transcripts = record { owners = f.owners; each = each };
        receipts_are = handed;
        right = f.stood.tells.right;
        together = f.stood.tells.together;
        rests = rests clear;
        between = between;
      };
    }

    lines_are : map lines_of ks ≡ map lines_in f.standings
    lines_are = same_map lines_in lines_of f.standings ks f.count (λ i a k at_a at_k. sym (f.seats i a k at_a at_k).is.lines)

  -- ---- each client is done
  module _ (precheck : Bool) (s : Start) (p : Point) (bs : List Told) (ks : List Client) (gs : List RegionState) (y : SystemState) (v : Vaulted V) (f : Played means true precheck s p bs ks gs y v) (over : AreOver ks) where
    seat_at : (i : ℕ) (a : Standing) → slice_get f.standings i ≡ Some a → (k : Client) × (slice_get ks i ≡ Some k)
    seat_at i a e = with_length ks f.standings i a (sym f.count) e

    clear : y.checking ≡ false
    clear = by_flag y.checking refl
      where
        by_flag : (b : Bool) → y.checking ≡ b → y.checking ≡ false
        by_flag false e = e
        by_flag true e =
            let m = making precheck s p bs ks gs y v true f e in
            let seat = f.seats m.place m.standing m.client m.there m.at_client in
            absurd (none_under_way f.world m.standing seat.is.stands (over_pending means s f.batches f.to f.world gs y v m.standing m.client m.client.state seat.came (over m.place m.client m.at_client)) m.under)

    done_each : (i : ℕ) (c : Standing) → slice_get (map done_of f.standings) i ≡ Some c → Stands f.world c × IsDone c
    done_each i c e =
        let back = get_back done_of f.standings i c e in
        let k = seat_at i back.0 back.1 in
        let seat = f.seats i back.0 k.0 back.1 k.1 in
        subst (λ (d : Standing). Stands f.world d × IsDone d) (sym back.2) (over_stands means s f.batches f.to f.world gs y v back.0 k.0 seat.is.stands k.0.state seat.came (over i k.0 k.1))

    each : EachTells true f.world bs (map lines_of ks)
    each =
        subst (λ l. EachTells true f.world l (map lines_of ks)) (told_done f.standings ∙ f.blocks)
        (subst (λ l. EachTells true f.world (map told_of (map done_of f.standings)) l) (lines_done f.standings ∙ sym (lines_are precheck s p bs ks gs y v true f))
        (round_is_done f.world (map done_of f.standings) (λ i c e. (done_each i c e).0) (λ i c e. (done_each i c e).1)))

    handed : AreHanded true (receipts_of f.world bs) (map (λ (k : Client). k.transcript.receipts) ks)
    handed =
        same_map (λ (a : Standing). numbers_of (deeds_of f.world a.client)) (λ (k : Client). k.transcript.receipts) f.standings ks f.count
        (λ i a k at_a at_k. let seat = f.seats i a k at_a at_k in seat.receipts ∙ ap (λ c. numbers_of (deeds_of f.world c)) (sym seat.is.client))
        ∙ (receipts_told f.world f.standings ∙ ap (receipts_of f.world) f.blocks)

    dead_rows : y.stop ≡ None → (t : ℕ) → IsSome (row_of y t) → is_dead_in (state_of y t) ≡ true
    dead_rows up t some = by_row (row_of y t) refl some
      where
        owned_by_none : is_open (state_of y t) ≡ true → is_dead_in (state_of y t) ≡ true
        owned_by_none is_so = let h = f.owned refl up t is_so in absurd (over_owns h.1.state (length h.1.rest.now == 0) t (over h.0 h.1 h.2) h.3)

        by_state : (x : TxnState) → state_of y t ≡ Some x → is_dead_in (state_of y t) ≡ true
        by_state Live e = owned_by_none (ap is_open e)
        by_state (Dead latched) e = ap is_dead_in e
        by_state (Cleaning latched) e = let no_way : true ≡ false = sym (ap is_claimed_in e) ∙ f.stood.quiet.unclaimed t in absurd (cc)
        by_state Committed e = owned_by_none (ap is_open e)

        by_row : (o : Option TxnRow) → row_of y t ≡ o → IsSome o → is_dead_in (state_of y t) ≡ true
        by_row None e h = absurd (cc)
        by_row (Some row) e h = by_state row.state (ap state_in e)

    is_between : IsBetween f.to.core
    is_between = record {
      rests = rests precheck s p bs ks gs y v true f clear;
      idle = subst (λ (m : SystemState). m.stop ≡ None → (t : ℕ) → IsSome (row_of m t) → is_dead_in (state_of m t) ≡ true) (sym f.stood.stands.at.system) dead_rows;
    }

    pub done_leads : RoundLeads means precheck true s p bs (map lines_of ks) (map (λ (k : Client). k.transcript.receipts) ks) gs y v
    done_leads = leads precheck s p bs ks gs y v true f (map lines_of ks) (map (λ (k : Client). k.transcript.receipts) ks) clear each handed (λ e. is_between)

  -- ---- the round was cut
  module _ (precheck : Bool) (s : Start) (p : Point) (bs : List Told) (ks : List Client) (gs : List RegionState) (y : SystemState) (v : Vaulted V) where
    cut_clear : Played means false precheck s p bs ks gs y v → y.checking ≡ false → RoundLeads means precheck false s p bs (map lines_of ks) (map (λ (k : Client). k.transcript.receipts) ks) gs y v
    cut_clear f clear = leads precheck s p bs ks gs y v false f (map lines_of ks) (map (λ (k : Client). k.transcript.receipts) ks) clear each handed (λ e. absurd (cc))
      where
        cut_each : (i : ℕ) (a : Standing) (e : slice_get f.standings i ≡ Some a) → IsSeated means false s f.batches f.to f.world gs y v a (with_length ks f.standings i a (sym f.count) e).0
        cut_each i a e = let k = with_length ks f.standings i a (sym f.count) e in f.seats i a k.0 e k.1

        each : EachTells false f.world bs (map lines_of ks)
        each =
            subst (λ l. EachTells false f.world l (map lines_of ks)) f.blocks
            (subst (λ l. EachTells false f.world (map told_of f.standings) l) (sym (lines_are precheck s p bs ks gs y v false f))
            (round_is_cut f.world f.standings (λ i a e. (cut_each i a e).is.stands) (λ i a e. (cut_each i a e).came)))

        handed : AreHanded false (receipts_of f.world bs) (map (λ (k : Client). k.transcript.receipts) ks)
        handed =
            subst (λ l. AreHanded false (receipts_of f.world l) (map (λ (k : Client). k.transcript.receipts) ks)) f.blocks
            (handed_cut f.world f.standings ks f.count (λ i a k at_a at_k. let seat = f.seats i a k at_a at_k in (seat.receipts.0, ap (λ c. numbers_of (deeds_of f.world c)) seat.is.client ∙ seat.receipts.1)))

  -- a checkpoint that was under way ends
  module _ (precheck : Bool) (s : Start) (p : Point) (bs : List Told) (ks : List Client) (gs : List RegionState) (y : SystemState) (v : Vaulted V) (f : Played means false precheck s p bs ks gs y v) (set : y.checking ≡ true) where
    abbrev m : Making precheck s p bs ks gs y v false f
    m = making precheck s p bs ks gs y v false f set

    abbrev a : Standing
    a = m.standing

    abbrev q : Point
    q = finish_point f.to

    abbrev ds : List Deed
    ds = EndsCheckpoint ∷ []

    abbrev x : World
    x = after f.world a.client ds q.core

    goes : Goes f.world a.client f.to ds x q
    goes =
        course_tells (bases_of s) s.log f.world a.client f.to q (Finishes ∷ []) ds f.stood.stands.at.vault.run f.stood.tells
        (q, ds, [], finishes_there means s f.batches f.to gs y v f.stood.stands.at set, (refl, m.under), (tt, tt), (refl, refl), refl)

    course : IsPointCourse f.to (Finishes ∷ []) q
    course = (q, finishes_there means s f.batches f.to gs y v f.stood.stands.at set, refl)

    late : Stood means s f.batches q x precheck gs (in_checkpoint y false) v
    late = record {
      stands = record {
        at = finished_at means s f.batches f.to gs y v f.stood.stands.at set;
        whole = point_whole_course_keeps (bases_of s) s.log f.to q (Finishes ∷ []) f.stood.stands.at.vault.run.run f.stood.stands.whole course;
        dead = f.stood.stands.dead;
      };
      files = f.stood.files;
      quiet = record { unclaimed = f.stood.quiet.unclaimed };
      stops = f.stood.stops;
      tells = goes.tells;
      precheck_is = f.stood.precheck_is;
      began = f.stood.began;
      since = f.stood.since;
      keeps = course_flag f.to q (Finishes ∷ []) course f.stood.keeps;
    }

    seat : IsSeated means false s f.batches f.to f.world gs y v a m.client
    seat = f.seats m.place a m.client m.there m.at_client

    own_seat : IsSeated means false s f.batches q x gs (in_checkpoint y false) v (behind a f.world ds) m.client
    own_seat = record {
      is = record { client = seat.is.client; lines = seat.is.lines; stands = deeds_are_done f.world x a.client a.acts a.lines a.pending a.spot ds goes.grows goes.more seat.is.stands };
      came = under_way_on f.world x goes.grows a.client a.spot (a.pending ++ (length (log_of f.world), EndsCheckpoint) ∷ []) [] (ends_under_way f.world a (length (log_of f.world)) seat.is.stands m.under seat.came);
      receipts = (seat.receipts.0, same ∙ seat.receipts.1);
    }
      where
        same : own_numbers x m.client ≡ own_numbers f.world m.client
        same =
            ap (λ c. numbers_of (deeds_of x c)) (sym seat.is.client)
            ∙ (ap numbers_of (deeds_grown f.world x a.client ds goes.grows goes.more)
            ∙ (filter_map-append number_in (deeds_of f.world a.client) ((length (log_of f.world), EndsCheckpoint) ∷ [])
            ∙ (append-nil (numbers_of (deeds_of f.world a.client)) ∙ ap (λ c. numbers_of (deeds_of f.world c)) seat.is.client)))

    other_seat : (n : ℕ) (c : Standing) (l : Client) → slice_get f.standings n ≡ Some c → slice_get ks n ≡ Some l → (n ≡ m.place → ⊥) → IsSeated means false s f.batches q x gs (in_checkpoint y false) v c l
    other_seat n c l at_c at_l apart = record {
      is = is_on means precheck s p bs ks gs y v false false f m.place a m.client m.there m.at_client f.batches q (Finishes ∷ []) course ds x goes gs (in_checkpoint y false) v late c l other old.is;
      came = under_way_on f.world x goes.grows c.client c.spot c.pending [] old.came;
      receipts = (old.receipts.0, numbers_on means precheck s p bs ks gs y v false false f m.place a m.client m.there m.at_client f.batches q (Finishes ∷ []) course ds x goes gs (in_checkpoint y false) v late c l other old.is ∙ old.receipts.1);
    }
      where
        old : IsSeated means false s f.batches f.to f.world gs y v c l
        old = f.seats n c l at_c at_l

        other : a.client ≡ c.client → ⊥
        other = other_client means precheck s p bs ks gs y v false false f m.place a m.client m.there m.at_client f.batches q (Finishes ∷ []) course ds x goes gs (in_checkpoint y false) v late n c at_c apart

    finished : Played means false precheck s p bs ks gs (in_checkpoint y false) v
    finished =
        subst (λ l. Played means false precheck s p bs l gs (in_checkpoint y false) v) (set_same ks m.place m.client m.at_client)
        (played_by means precheck s p bs ks gs y v false false f m.place a m.client m.there m.at_client f.batches q (Finishes ∷ []) course ds x goes gs (in_checkpoint y false) v late (behind a f.world ds) m.client refl refl
        own_seat other_seat (λ e. absurd (cc)))

  cut_leads : (precheck : Bool) (s : Start) (p : Point) (bs : List Told) (ks : List Client) (gs : List RegionState) (y : SystemState) (v : Vaulted V) → Played means false precheck s p bs ks gs y v
      → RoundLeads means precheck false s p bs (map lines_of ks) (map (λ (k : Client). k.transcript.receipts) ks) gs (in_checkpoint y false) v
  cut_leads precheck s p bs ks gs y v f = by_flag y.checking refl
    where
      by_flag : (b : Bool) → y.checking ≡ b → RoundLeads means precheck false s p bs (map lines_of ks) (map (λ (k : Client). k.transcript.receipts) ks) gs (in_checkpoint y false) v
      by_flag true e = cut_clear precheck s p bs ks gs (in_checkpoint y false) v (finished precheck s p bs ks gs y v f e) refl
      by_flag false e =
          let same : y ≡ in_checkpoint y false = ap (in_checkpoint y) e in
          subst (λ (z : SystemState). RoundLeads means precheck false s p bs (map lines_of ks) (map (λ (k : Client). k.transcript.receipts) ks) gs z v) same (cut_clear precheck s p bs ks gs y v f e)

  pub end_cut : (precheck : Bool) (s : Start) (p : Point) (bs : List Told) (ks : List Client) (gs : List RegionState) (y : SystemState) (v : Vaulted V) (z : SystemState) → z ≡ in_checkpoint y false → Played means false precheck s p bs ks gs y v
      → RoundLeads means precheck false s p bs (map lines_of ks) (map (λ (k : Client). k.transcript.receipts) ks) gs z v
  end_cut precheck s p bs ks gs y v z e f =
      subst (λ (x : SystemState). RoundLeads means precheck false s p bs (map lines_of ks) (map (λ (k : Client). k.transcript.receipts) ks) gs x v) (sym e) (cut_leads precheck s p bs ks gs y v f)
