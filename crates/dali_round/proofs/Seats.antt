-- A round goes on by a step of one of its clients.
use Rattle.std.proofs.Common.{◌≡◌, arith, ℕ, zero, suc, Bool, true, false, List, [], ◌∷◌, ◌++◌, length, map, Option, Some, None, refl, ap, sym, subst, ◌∙◌, ◌⊎◌, inl, inr, ⊎_elim}
use Rattle.std.specs.Prelude.{◌==◌, IsSome, slice_get, slice_set}
use Rattle.std.specs.List.{list_all}
use Rattle.std.proofs.lemmas.List.{length-set}
use Rattle.std.proofs.lemmas.Bool.{ne_eqb}
use Rattle.dali_lists.proofs.Lists.{get_set}
use Rattle.dali_runs.proofs.CountsLemmas.Lists.{self, equal, same_number, some_same}
use Rattle.dali_record.specs.declared.records.Record.{Record}
use Rattle.dali_record.specs.Legal.{rules_state}
use Rattle.dali_region.specs.State.{RegionState}
use Rattle.dali_transactions.specs.Beside.Went.{is_open}
use Rattle.dali_store.specs.Store.{Files as Disk}
use Rattle.dali_store.specs.declared.store.Store.{Ghosts}
use Rattle.dali_runs.specs.declared.causes.Cause.{Cause}
use Rattle.dali_runs.specs.State.{SystemState, CoreState, state_of, lock_of, log_after}
use Rattle.dali_crash.specs.Checkpoints.{StoreStep, Point, IsPointCourse}
use Rattle.dali_crash.specs.Traces.{Start, bases_of}
use Rattle.dali_core.specs.Vault.Vaulted.{Vaulted}
use Rattle.dali_checkpoint.proofs.Calls.{course_join}
use Rattle.dali_transcripts.specs.World.{Deed, Happening, World, HasGot, log_of, Grows}
use Rattle.dali_transcripts.specs.Transcripts.{IsSoFar, owned, deeds_of, numbers_of, Told, is_among}
use Rattle.dali_transcripts.specs.Rounds.{Standing, by, AreBlocks, told_of}
use Rattle.dali_transcripts.proofs.Growing.{world_goes_on}
use Rattle.dali_transcripts.proofs.Rounds.{others_stay}
use Rattle.dali_transcripts.specs.Telling.Tells.{Goes}
use Rattle.dali_turns.specs.declared.client.Client.{Client}
use Rattle.dali_turns.specs.declared.client.State.TheVariants.{Gone}
use Rattle.dali_turns.specs.Stood.{Stood}
use Rattle.dali_turns.specs.Fits.{rest_of, lines_of, Speaks, InTxn, OthersGot, IsOf, Owns}
use Rattle.dali_turns.specs.Goes.{Went}
use Rattle.dali_turns.specs.Turns.{own_numbers, AreReceipts, Turned, TurnGoes}
use Rattle.dali_turns.proofs.Refusals.{runs_on_log}
use Rattle.dali_turns.proofs.Staying.{others_fit}
use Rattle.dali_round.specs.Played.{EachIsOwned, IsSeated, IsHalting, Played, Halting}
use Rattle.dali_round.proofs.Lists.{get_map, map_set, get_set_other, both_set, with_length, all_append}
use Rattle.dali_round.proofs.Begun.{in_one}
use Rattle.dali_round.proofs.Places.{at_spot, owns_within, owns_in, owns_locks}

-- ---- the deeds of another client

pub deeds_same : (w x : World) (c d : ℕ) (ds : List Deed) → (g : Grows w x) → g.more ≡ by d ds → (d ≡ c → ⊥) → deeds_of x c ≡ deeds_of w c
deeds_same w x c d ds g more other =
    ap (λ (b : List Record). owned c (length b) x.happened) g.before
    ∙ (ap (owned c (length w.before)) (g.happened ∙ ap (λ l. w.happened ++ l) more) ∙ others_stay c d (length w.before) w.happened ds (ne_eqb d c other))

-- ---- whose they are
among_later : (z : Told) (bs : List Told) (c : ℕ) → is_among bs c ≡ true → is_among (z ∷ bs) c ≡ true
among_later z bs c e = by_test (z.client == c) refl
  where
    by_test : (t : Bool) → (z.client == c) ≡ t → is_among (z ∷ bs) c ≡ true
    by_test true f = rw f refl
    by_test false f = rw f e

among_first : (z : Told) (bs : List Told) → is_among (z ∷ bs) z.client ≡ true
among_first z bs = rw (self z.client) refl

is_in : (bs : List Told) (i : ℕ) (b : Told) → slice_get bs i ≡ Some b → is_among bs b.client ≡ true
is_in [] i b e = absurd (cc)
is_in (z ∷ bs) zero b e = subst (λ (c : Told). is_among (z ∷ bs) c.client ≡ true) (some_same e) (among_first z bs)
is_in (z ∷ bs) (suc i) b e = among_later z bs b.client (is_in bs i b e)

pub all_by : (bs : List Told) (c : ℕ) (ds : List Deed) → is_among bs c ≡ true → list_all (λ (x : Happening). is_among bs x.1) (by c ds) ≡ true
all_by bs c [] e = refl
all_by bs c (x ∷ ds) e = rw e (all_by bs c ds e)

-- ---- by deeds of one of the clients
module _ (bs : List Told) (are : AreBlocks bs) (standings : List Standing) (blocks : map told_of standings ≡ bs) (i : ℕ) (a : Standing) (at_a : slice_get standings i ≡ Some a) where
  pub is_one : is_among bs a.client ≡ true
  is_one = is_in bs i (told_of a) (subst (λ l. slice_get l i ≡ Some (told_of a)) blocks (get_map told_of standings i a at_a))

  -- clients at other places are others
  pub client_apart : (n : ℕ) (b : Standing) → slice_get standings n ≡ Some b → (n ≡ i → ⊥) → a.client ≡ b.client → ⊥
  client_apart n b at_b apart same =
      let one : slice_get bs i ≡ Some (told_of a) = subst (λ l. slice_get l i ≡ Some (told_of a)) blocks (get_map told_of standings i a at_a) in
      let two : slice_get bs n ≡ Some (told_of b) = subst (λ l. slice_get l n ≡ Some (told_of b)) blocks (get_map told_of standings n b at_b) in
      apart (sym (are.apart i n (told_of a) (told_of b) one two same))

module _ (w x : World) (a : Standing) (p q : Point) (ds : List Deed) (goes : Goes w a.client p ds x q) (b : Standing) (l : Client) (other : a.client ≡ b.client → ⊥) (is : Speaks w b l) where
  pub speaks_on : Speaks x b l
  speaks_on = record {
    client = is.client;
    lines = is.lines;
    stands = subst (λ did. IsSoFar x b.client b.acts b.lines did b.pending b.spot) (sym (deeds_same w x b.client a.client ds goes.grows goes.more other))
        (world_goes_on w x b.client b.acts b.lines (deeds_of w b.client) b.pending b.spot goes.grows is.stands);
  }

  pub same_numbers : own_numbers x l ≡ own_numbers w l
  same_numbers = ap numbers_of (deeds_same w x l.transcript.client a.client ds goes.grows goes.more (λ e. other (e ∙ sym is.client)))

module _ {V : Type 0} (means : Ghosts V) where
  pub legal : (precheck : Bool) (s : Start) (w : World) (r : Point) (B : List (List Record)) (rs : List RegionState) (m : SystemState) (t : Vaulted V) → Stood means s B r w precheck rs m t → IsSome (rules_state r.core.system.sizes (log_of w))
  legal precheck s w r B rs m t stood = subst (λ (L : List Record). IsSome (rules_state r.core.system.sizes L)) stood.tells.log (runs_on_log (bases_of s) s.log r stood.stands.at.vault.run).log.legal.rules

  -- ---- from one world to the next, by deeds of one client
  module _ (precheck : Bool) (s : Start) (p : Point) (bs : List Told) (ks : List Client) (gs : List RegionState) (y : SystemState) (v : Vaulted V) (was ok : Bool) (f : Played means was precheck s p bs ks gs y v)
      (i : ℕ) (a : Standing) (k : Client) (at_a : slice_get f.standings i ≡ Some a) (at_k : slice_get ks i ≡ Some k)
      (C : List (List Record)) (q : Point) (steps : List StoreStep) (course : IsPointCourse f.to steps q) (ds : List Deed) (x : World) (goes : Goes f.world a.client f.to ds x q) (hs : List RegionState) (z : SystemState) (u : Vaulted V)
      (late : Stood means s C q x precheck hs z u) where
    among : is_among bs a.client ≡ true
    among = is_one bs f.are f.standings f.blocks i a at_a

    pub other_client : (n : ℕ) (b : Standing) → slice_get f.standings n ≡ Some b → (n ≡ i → ⊥) → a.client ≡ b.client → ⊥
    other_client n b at_b apart same = client_apart bs f.are f.standings f.blocks i a at_a n b at_b apart same

    pub is_on : (b : Standing) (l : Client) → (a.client ≡ b.client → ⊥) → Speaks f.world b l → Speaks x b l
    is_on b l other is = speaks_on f.world x a f.to q ds goes b l other is

    pub numbers_on : (b : Standing) (l : Client) → (a.client ≡ b.client → ⊥) → Speaks f.world b l → own_numbers x l ≡ own_numbers f.world l
    numbers_on b l other is = same_numbers f.world x a f.to q ds goes b l other is

    pub played_by : (b : Standing) (j : Client) → b.client ≡ a.client → b.acts ≡ a.acts → IsSeated means ok s C q x hs z u b j
        → ((n : ℕ) (c : Standing) (l : Client) → slice_get f.standings n ≡ Some c → slice_get ks n ≡ Some l → (n ≡ i → ⊥) → IsSeated means ok s C q x hs z u c l)
        → (ok ≡ true → EachIsOwned (slice_set ks i j) z)
        → Played means ok precheck s p bs (slice_set ks i j) hs z u
    played_by b j client acts seat others rows = record {
      are = f.are;
      log = f.log;
      to = q;
      batches = C;
      steps = f.steps ++ steps;
      course = course_join p f.to q f.steps steps f.course course;
      world = x;
      old_is = goes.grows.old ∙ f.old_is;
      before_is = goes.grows.before ∙ f.before_is;
      stood = late;
      owners = subst (λ l. list_all (λ (h : Happening). is_among bs h.1) l ≡ true) (sym (goes.grows.happened ∙ ap (λ l. f.world.happened ++ l) goes.more))
          (all_append (λ (h : Happening). is_among bs h.1) f.world.happened (by a.client ds) f.owners (all_by bs a.client ds among));
      standings = slice_set f.standings i b;
      blocks = map_set told_of f.standings i a b at_a same ∙ f.blocks;
      count = length-set ks i j ∙ (f.count ∙ sym (length-set f.standings i b));
      seats = both_set (λ n c l. IsSeated means ok s C q x hs z u c l) f.standings ks i b j seat others;
      owned = rows;
    }
      where
        same : told_of b ≡ told_of a
        same = ap (λ c. record { client = c; acts = b.acts }) client ∙ ap (λ l. record { client = a.client; acts = l }) acts

  -- the same where the round makes no steps more
  module _ (precheck : Bool) (s : Start) (p : Point) (bs : List Told) (ks : List Client) (gs : List RegionState) (y : SystemState) (v : Vaulted V)
      (are : AreBlocks bs) (log : p.log ≡ log_after s.log p.core.system) (to : Point) (batches : List (List Record)) (steps : List StoreStep) (course : IsPointCourse p steps to) (world : World) (old_is : world.old ≡ p.core) (before_is : world.before ≡ p.log)
      (owners : list_all (λ (h : Happening). is_among bs h.1) world.happened ≡ true) (standings : List Standing) (blocks : map told_of standings ≡ bs) (count : length ks ≡ length standings)
      (i : ℕ) (a : Standing) (k : Client) (at_a : slice_get standings i ≡ Some a) (at_k : slice_get ks i ≡ Some k)
      (C : List (List Record)) (q : Point) (more : List StoreStep) (further : IsPointCourse to more q) (ds : List Deed) (x : World) (goes : Goes world a.client to ds x q) (hs : List RegionState) (z : SystemState) (u : Vaulted V)
      (late : Stood means s C q x precheck hs z u) where
    unfoldable pub halting_by : (b : Standing) (j : Client) → b.client ≡ a.client → b.acts ≡ a.acts → (upto : ℕ) → IsHalting means upto i s C q x hs z u b j
        → ((n : ℕ) (c : Standing) (l : Client) → slice_get standings n ≡ Some c → slice_get ks n ≡ Some l → (n ≡ i → ⊥) → IsHalting means upto n s C q x hs z u c l)
        → Halting means upto precheck s p bs (slice_set ks i j) hs z u
    halting_by b j client acts upto seat others = record {
      are = are;
      log = log;
      to = q;
      batches = C;
      steps = steps ++ more;
      course = course_join p to q steps more course further;
      world = x;
      old_is = goes.grows.old ∙ old_is;
      before_is = goes.grows.before ∙ before_is;
      stood = late;
      owners = subst (λ l. list_all (λ (h : Happening). is_among bs h.1) l ≡ true) (sym (goes.grows.happened ∙ ap (λ l. world.happened ++ l) goes.more))
          (all_append (λ (h : Happening). is_among bs h.1) world.happened (by a.client ds) owners
          (all_by bs a.client ds (is_one bs are standings blocks i a at_a)));
      standings = slice_set standings i b;
      blocks = map_set told_of standings i a b at_a (ap (λ c. record { client = c; acts = b.acts }) client ∙ ap (λ l. record { client = a.client; acts = l }) acts) ∙ blocks;
      count = length-set ks i j ∙ (count ∙ sym (length-set standings i b));
      seats = both_set (λ n c l. IsHalting means upto n s C q x hs z u c l) standings ks i b j seat others;
      owned = tt;
    }

    pub halting_to : (b : Standing) (j : Client) (client : b.client ≡ a.client) (acts : b.acts ≡ a.acts) (upto : ℕ) (seat : IsHalting means upto i s C q x hs z u b j)
        (others : (n : ℕ) (c : Standing) (l : Client) → slice_get standings n ≡ Some c → slice_get ks n ≡ Some l → (n ≡ i → ⊥) → IsHalting means upto n s C q x hs z u c l)
        → (halting_by b j client acts upto seat others).to ≡ q
    unfolding halting_by
    halting_to b j client acts upto seat others = refl

  -- ---- a step of a client
  module _ (precheck : Bool) (s : Start) (p : Point) (bs : List Told) (ks : List Client) (gs : List RegionState) (y : SystemState) (v : Vaulted V) (f : Played means true precheck s p bs ks gs y v)
      (i : ℕ) (k : Client) (at_k : slice_get ks i ≡ Some k) where
    pub there : (a : Standing) × (slice_get f.standings i ≡ Some a)
    there = with_length f.standings ks i k f.count at_k

    pub seat : IsSeated means true s f.batches f.to f.world gs y v there.0 k
    seat = f.seats i there.0 k there.1 at_k

    system_there : f.world.core.system ≡ y
    system_there = ap (λ (c : CoreState). c.system) f.stood.tells.core ∙ f.stood.stands.at.system

    -- clients at other places are others
    apart : (n : ℕ) (b : Standing) → slice_get f.standings n ≡ Some b → (n ≡ i → ⊥) → b.client ≡ there.0.client → ⊥
    apart n b at_b away same =
        let one : slice_get bs i ≡ Some (told_of there.0) = subst (λ l. slice_get l i ≡ Some (told_of there.0)) f.blocks (get_map told_of f.standings i there.0 there.1) in
        let two : slice_get bs n ≡ Some (told_of b) = subst (λ l. slice_get l n ≡ Some (told_of b)) f.blocks (get_map told_of f.standings n b at_b) in
        away (f.are.apart n i (told_of b) (told_of there.0) two one same)

    -- whoever is in a transaction was granted its locks
    others : OthersGot f.world there.0
    others runs t n mode lives has = by_place (owner.0 == i) refl
      where
        owner : (m : ℕ) × (l : Client) × (slice_get ks m ≡ Some l) × Owns l.state t
        owner = f.owned refl (ap (λ (m : SystemState). m.stop) (sym system_there) ∙ runs) t (ap (λ (m : SystemState). is_open (state_of m t)) (sym system_there) ∙ lives)

        held : lock_of f.to.core.system t n ≡ Some mode
        held = ap (λ (c : CoreState). lock_of c.system t n) (sym f.stood.tells.core) ∙ has

        by_place : (b : Bool) → (owner.0 == i) ≡ b → InTxn there.0.spot.place t ⊎ ((d : ℕ) × ((d == there.0.client) ≡ false) × HasGot f.world.happened d t n mode)
        by_place true e =
            let same : owner.1 ≡ k = some_same (sym owner.2 ∙ (ap (slice_get ks) (equal owner.0 i e) ∙ at_k)) in
            inl (owns_in means s f.batches f.to f.world gs y v there.0 (rest_of k) k.state t seat.came (subst (λ (l : Client). Owns l.state t) same owner.3))
        by_place false e =
            let b = with_length f.standings ks owner.0 owner.1 f.count owner.2 in
            let its = f.seats owner.0 b.0 owner.1 b.1 owner.2 in
            inr (
              b.0.client,
              ne_eqb b.0.client there.0.client (apart owner.0 b.0 b.1 (λ here. let yes : (owner.0 == i) ≡ true = same_number owner.0 i here in let no : true ≡ false = sym yes ∙ e in absurd (cc))),
              owns_locks means s f.batches f.to f.world gs y v b.0 (rest_of owner.1) owner.1.state t its.came owner.3 n mode held,
            )

    pub is_of : IsOf f.world there.0 k
    is_of = record { client = seat.is.client; lines = seat.is.lines; stands = seat.is.stands; others = others }

    module _ (ok : Bool) (j : Client) (hs : List RegionState) (z : SystemState) (u : Vaulted V) (turn : TurnGoes means precheck k gs y v ok j hs z u) where
      abbrev t : Turned means precheck s f.batches f.to f.world there.0 k gs y v ok j hs z u
      t = turn s f.batches f.to f.world there.0 f.stood is_of seat.came seat.receipts

      abbrev g : Went means precheck s f.batches f.to f.world there.0 k.state gs y v ok j hs z u
      g = t.went

      ran_before : z.stop ≡ None → y.stop ≡ None
      ran_before up = by_stop y.stop refl
        where
          there_too : (cause : Cause) → y.stop ≡ Some cause → z.stop ≡ Some cause
          there_too cause e =
              ap (λ (m : SystemState). m.stop) (sym g.stood.stands.at.system)
              ∙ (ap (λ (c : CoreState). c.system.stop) (sym g.stood.tells.core)
              ∙ g.goes.grows.stopped cause (ap (λ (c : CoreState). c.system.stop) f.stood.tells.core ∙ (ap (λ (m : SystemState). m.stop) f.stood.stands.at.system ∙ e)))

          by_stop : (o : Option Cause) → y.stop ≡ o → y.stop ≡ None
          by_stop None e = e
          by_stop (Some cause) e = let no_way : None ≡ Some cause = sym up ∙ there_too cause e in absurd (cc)

      other_seat : (n : ℕ) (b : Standing) (l : Client) → slice_get f.standings n ≡ Some b → slice_get ks n ≡ Some l → (n ≡ i → ⊥) → IsSeated means true s g.batches g.to g.world hs z u b l
      other_seat n b l at_b at_l apart = record {
        is = is_now;
        came =
            others_fit means l.state k.state s f.batches g.batches f.to g.to f.world g.world gs hs y z v u precheck b there.0 (rest_of l) g.deeds f.stood g.stood old.is.stands seat.is.stands old.came
            (at_spot means s f.batches f.to f.world gs y v there.0 (rest_of k) k.state seat.came) (λ e. other (sym e)) (λ t mine yours. other (sym (in_one _ f.world b there.0 t
            (legal precheck s f.world f.to f.batches gs y v f.stood) old.is.stands seat.is.stands
            (owns_within means s f.batches f.to f.world gs y v b (rest_of l) l.state t old.came mine)
            (owns_within means s f.batches f.to f.world gs y v there.0 (rest_of k) k.state t seat.came yours)))) g.goes g.others;
        receipts = old.receipts ∙ sym (numbers_on precheck s p bs ks gs y v true ok f i there.0 k there.1 at_k g.batches g.to g.steps g.course g.deeds g.world g.goes hs z u g.stood b l other old.is);
      }
        where
          old : IsSeated means true s f.batches f.to f.world gs y v b l
          old = f.seats n b l at_b at_l

          other : there.0.client ≡ b.client → ⊥
          other = other_client precheck s p bs ks gs y v true ok f i there.0 k there.1 at_k g.batches g.to g.steps g.course g.deeds g.world g.goes hs z u g.stood n b at_b apart

          is_now : Speaks g.world b l
          is_now = is_on precheck s p bs ks gs y v true ok f i there.0 k there.1 at_k g.batches g.to g.steps g.course g.deeds g.world g.goes hs z u g.stood b l other old.is

      still_owned : ok ≡ true → EachIsOwned (slice_set ks i j) z
      still_owned e up t lives =
          ⊎_elim
          (λ owns. (i, j, get_set ks i k j at_k, owns))
          (λ was.
          let h = f.owned refl (ran_before up) t was.0 in
          (h.0, h.1, get_set_other ks i h.0 h.1 j (λ same. was.1 (subst (λ (c : Client). Owns c.state t) (some_same (sym h.2 ∙ (ap (slice_get ks) same ∙ at_k))) h.3)) h.2, h.3))
          (g.rows e up t lives)

    pub turn_played : (j : Client) (hs : List RegionState) (z : SystemState) (u : Vaulted V) → TurnGoes means precheck k gs y v true j hs z u → Played means true precheck s p bs (slice_set ks i j) hs z u
    turn_played j hs z u turn =
        let step = g true j hs z u turn in
        played_by precheck s p bs ks gs y v true true f i there.0 k there.1 at_k step.batches step.to step.steps step.course step.deeds step.world step.goes hs z u step.stood step.standing j step.client step.acts
        (record { is = step.is; came = step.came; receipts = (t true j hs z u turn).receipts })
        (λ n b l at_b at_l apart. other_seat true j hs z u turn n b l at_b at_l apart)
        (still_owned true j hs z u turn)

    pub turn_to : (j : Client) (hs : List RegionState) (z : SystemState) (u : Vaulted V) (turn : TurnGoes means precheck k gs y v true j hs z u) → (turn_played j hs z u turn).to ≡ (g true j hs z u turn).to
    unfolding turn_played played_by
    turn_to j hs z u turn = refl

    -- memory was wanted in it: the client is gone
    pub turn_halts : (j l : Client) (hs : List RegionState) (z : SystemState) (u : Vaulted V) → TurnGoes means precheck k gs y v false j hs z u → l ≡ record j { state = Gone } → Halting means 0 precheck s p bs (slice_set ks i l) hs z u
    turn_halts j l hs z u turn is =
        let step = g false j hs z u turn in
        halting_by precheck s p bs ks gs y v f.are f.log f.to f.batches f.steps f.course f.world f.old_is f.before_is f.owners f.standings f.blocks f.count i there.0 k there.1 at_k
        step.batches step.to step.steps step.course step.deeds step.world step.goes hs z u step.stood step.standing l step.client step.acts 0
        (inl (
          λ _. ap (λ (c : Client). c.state) is,
          record {
            is = record { client = step.is.client ∙ ap (λ (c : Client). c.transcript.client) (sym is); lines = step.is.lines ∙ ap lines_of (sym is); stands = step.is.stands };
            came = step.came;
            receipts = subst (λ (c : Client). AreReceipts false step.world c) (sym is) (t false j hs z u turn).receipts;
          },
        ))
        (λ n b m at_b at_m apart. inr (omega arith, other_seat false j hs z u turn n b m at_b at_m apart))

    pub halts_to : (j l : Client) (hs : List RegionState) (z : SystemState) (u : Vaulted V) (turn : TurnGoes means precheck k gs y v false j hs z u) (is : l ≡ record j { state = Gone }) → (turn_halts j l hs z u turn is).to ≡ (g false j hs z u turn).to
    unfolding turn_halts halting_by
    halts_to j l hs z u turn is = refl
