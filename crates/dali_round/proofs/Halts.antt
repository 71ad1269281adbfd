-- A round makes no steps more: its clients are asked one behind another to end what can't be cut.
use Rattle.std.proofs.Common.{◌≡◌, ℕ, ◌+◌, ◌<◌, ◌≤◌, Bool, true, false, List, [], ◌++◌, length, Option, Some, refl, ap, sym, subst, ◌∙◌, inl, inr, ⊎_elim, arith}
use Rattle.std.specs.Prelude.{◌==◌, ⊤, slice_get, slice_set}
use Rattle.std.proofs.lemmas.Bool.{cases_lt}
use Rattle.std.proofs.lemmas.List.{append-nil}
use Rattle.std.proofs.lemmas.Option.{slice_get_within}
use Rattle.dali_lists.proofs.Lists.{set_same}
use Rattle.dali_runs.proofs.CountsLemmas.Lists.{equal, same_number, some_same}
use Rattle.dali_region.specs.State.{RegionState}
use Rattle.dali_store.specs.Store.{Files as Disk}
use Rattle.dali_runs.specs.State.{SystemState}
use Rattle.dali_record.specs.declared.records.Record.{Record}
use Rattle.dali_store.specs.declared.store.Store.{Ghosts}
use Rattle.dali_crash.specs.Checkpoints.{Point, StoreStep, IsPointCourse}
use Rattle.dali_crash.specs.Traces.{Start}
use Rattle.dali_core.specs.Vault.Vaulted.{Vaulted}
use Rattle.dali_core.specs.Cores.{IsNoShorter}
use Rattle.dali_core.specs.Moments.{Within}
use Rattle.dali_checkpoint.proofs.Calls.{course_join}
use Rattle.dali_transcripts.specs.World.{World}
use Rattle.dali_transcripts.specs.Transcripts.{Told}
use Rattle.dali_transcripts.specs.Rounds.{Standing}
use Rattle.dali_turns.specs.declared.client.Client.{Client}
use Rattle.dali_turns.specs.declared.client.State.TheVariants.{Gone}
use Rattle.dali_turns.specs.Fits.{rest_of}
use Rattle.dali_turns.specs.Goes.{Went}
use Rattle.dali_turns.specs.Turns.{Halted, HaltGoes}
use Rattle.dali_turns.specs.Moments.{LeavesHere, HaltLeavesRight}
use Rattle.dali_turns.proofs.Staying.{others_fit}
use Rattle.dali_turns.proofs.Unfinished.{under_way_on}
use Rattle.dali_round.specs.Played.{EachIsOwned, IsSeated, IsHalting, PlayedSo, Played, Halting, HaltsGo}
use Rattle.dali_round.specs.Moments.{LeavesBetween, HaltsOn, HaltsEnd}
use Rattle.dali_round.proofs.Lists.{with_length}
use Rattle.dali_round.proofs.Begun.{in_one}
use Rattle.dali_round.proofs.Places.{at_spot, owns_within}
use Rattle.dali_round.proofs.Between.{here_between, map_left, between_both, ends_right, still_left}
use Rattle.dali_round.proofs.Seats.{client_apart, speaks_on, same_numbers, legal, halting_by}

module _ {V : Type 0} (means : Ghosts V) (precheck : Bool) (s : Start) (p : Point) (bs : List Told) (ks : List Client) where
  -- the same round, with something else said of its clients
  abbrev seated_so : (IsAt IsSo : ℕ → Start → List (List Record) → Point → World → List RegionState → SystemState → Vaulted V → Standing → Client → Type 0) (Owned AreOwned : Type 0)
      (gs : List RegionState) (y : SystemState) (v : Vaulted V) (h : PlayedSo means IsAt Owned precheck s p bs ks gs y v)
      → ((i : ℕ) (a : Standing) (k : Client) → slice_get h.standings i ≡ Some a → slice_get ks i ≡ Some k → IsSo i s h.batches h.to h.world gs y v a k) → AreOwned
      → PlayedSo means IsSo AreOwned precheck s p bs ks gs y v
  seated_so IsAt IsSo Owned AreOwned gs y v h seats owned = record {
    are = h.are;
    log = h.log;
    to = h.to;
    batches = h.batches;
    steps = h.steps;
    course = h.course;
    world = h.world;
    old_is = h.old_is;
    before_is = h.before_is;
    stood = h.stood;
    owners = h.owners;
    standings = h.standings;
    blocks = h.blocks;
    count = h.count;
    seats = seats;
    owned = owned;
  }

  -- a round between two steps makes none more
  pub may_halt : (gs : List RegionState) (y : SystemState) (v : Vaulted V) → Played means true precheck s p bs ks gs y v → Halting means 0 precheck s p bs ks gs y v
  may_halt gs y v f = seated_so (λ (i : ℕ). IsSeated means true) (IsHalting means 0) (true ≡ true → EachIsOwned ks y) ⊤ gs y v f (λ i a k at_a at_k. inr (omega arith, f.seats i a k at_a at_k)) tt

  pub may_halt_to : (gs : List RegionState) (y : SystemState) (v : Vaulted V) (f : Played means true precheck s p bs ks gs y v) → (may_halt gs y v f).to ≡ f.to
  unfolding may_halt
  may_halt_to gs y v f = refl

  -- and all were asked
  pub has_halted : (upto : ℕ) (gs : List RegionState) (y : SystemState) (v : Vaulted V) → length ks ≤ upto → Halting means upto precheck s p bs ks gs y v → Played means false precheck s p bs ks gs y v
  has_halted upto gs y v all h = seated_so (IsHalting means upto) (λ (i : ℕ). IsSeated means false) ⊤ (false ≡ true → EachIsOwned ks y) gs y v h
      (λ i a k at_a at_k.
      ⊎_elim
      (λ cut. cut.1)
      (λ still. let within : i < length ks = slice_get_within ks i k at_k in absurd (omega (arith, within, all, still.0)))
      (h.seats i a k at_a at_k))
      (λ e. absurd (cc))

-- ---- one is asked
module _ {V : Type 0} (means : Ghosts V) (precheck : Bool) (s : Start) (p : Point) (bs : List Told) (ks : List Client) where
  module _ (i : ℕ) (k : Client) (at_k : slice_get ks i ≡ Some k) (gs : List RegionState) (y : SystemState) (v : Vaulted V) (h : Halting means i precheck s p bs ks gs y v) where
    -- steps lead to where it was asked
    abbrev Asks : List Client → List RegionState → SystemState → Vaulted V → Type 0
    Asks js hs z u =
        (j : Halting means (i + 1) precheck s p bs js hs z u) × (steps : List StoreStep) × IsPointCourse h.to steps j.to × Within means.told means.moment means.left_since v u (LeavesBetween s h.to j.to)

    there : (a : Standing) × (slice_get h.standings i ≡ Some a)
    there = with_length h.standings ks i k h.count at_k

    later : (n : ℕ) → i ≤ n → (n ≡ i → ⊥) → i + 1 ≤ n
    later n less apart = ⊎_elim (λ more. omega (arith, more)) (λ upto. absurd (apart (omega (arith, upto, less)))) (cases_lt i n)

    -- one that is gone has nothing to end
    gone_goes : (i ≤ i → k.state ≡ Gone) × IsSeated means false s h.batches h.to h.world gs y v there.0 k → Halting means (i + 1) precheck s p bs ks gs y v
    gone_goes own = seated_so means precheck s p bs ks (IsHalting means i) (IsHalting means (i + 1)) ⊤ ⊤ gs y v h (λ n a l at_a at_l. by_test n a l at_a at_l (n == i) refl) tt
      where
        by_test : (n : ℕ) (a : Standing) (l : Client) → slice_get h.standings n ≡ Some a → slice_get ks n ≡ Some l → (b : Bool) → (n == i) ≡ b → IsHalting means (i + 1) n s h.batches h.to h.world gs y v a l
        by_test n a l at_a at_l true e =
            let same = equal n i e in
            let client : k ≡ l = some_same (sym at_k ∙ (ap (slice_get ks) (sym same) ∙ at_l)) in
            let standing : there.0 ≡ a = some_same (sym there.1 ∙ (ap (slice_get h.standings) (sym same) ∙ at_a)) in
            inl (λ more. absurd (omega (arith, more, same)), subst (λ c. IsSeated means false s h.batches h.to h.world gs y v a c) client (subst (λ c. IsSeated means false s h.batches h.to h.world gs y v c k) standing own.1))
        by_test n a l at_a at_l false e =
            ⊎_elim
            (λ cut. inl (λ more. cut.0 (omega (arith, more)), cut.1))
            (λ still. inr (later n still.0 (λ same. let yes : (n == i) ≡ true = same_number n i same in let no : true ≡ false = sym yes ∙ e in absurd (cc)), still.1))
            (h.seats n a l at_a at_l)

    gone_to : (own : (i ≤ i → k.state ≡ Gone) × IsSeated means false s h.batches h.to h.world gs y v there.0 k) → (gone_goes own).to ≡ h.to
    unfolding gone_goes
    gone_to own = refl

    gone_asks : ((c : Disk) → means.left_since v.store (means.moment v.store) c → means.may_leave v.store c) → (i ≤ i → k.state ≡ Gone) × IsSeated means false s h.batches h.to h.world gs y v there.0 k → Asks ks gs y v
    gone_asks now own =
        let same : h.to ≡ (gone_goes own).to = sym (gone_to own) in (
          gone_goes own,
          [],
          same,
          subst (λ (q : Point). Within means.told means.moment means.left_since v v (LeavesBetween s h.to q)) same (still_left means s h.batches h.to gs y v now h.stood.stands),
        )

    -- another one stands still
    module _ (hs : List RegionState) (z : SystemState) (u : Vaulted V) (halts : HaltGoes means k gs y v hs z u) (leaves : HaltLeavesRight means gs y v u) (seat : IsSeated means true s h.batches h.to h.world gs y v there.0 k) where
      abbrev one : Halted means precheck k.state s h.batches h.to h.world there.0 k gs y v hs z u
      one = halts precheck k.state s h.batches h.to h.world there.0 h.stood seat.is seat.came

      abbrev g : Went means precheck s h.batches h.to h.world there.0 k.state gs y v false k hs z u
      g = one.went

      others : (n : ℕ) (b : Standing) (l : Client) → slice_get h.standings n ≡ Some b → slice_get ks n ≡ Some l → (n ≡ i → ⊥) → IsHalting means (i + 1) n s g.batches g.to g.world hs z u b l
      others n b l at_b at_l apart = ⊎_elim
          (λ cut. inl (
            λ more. cut.0 (omega (arith, more)),
            record {
              is = speaks_on h.world g.world there.0 h.to g.to g.deeds g.goes b l other cut.1.is;
              came = under_way_on h.world g.world g.goes.grows b.client b.spot b.pending [] cut.1.came;
              receipts = (cut.1.receipts.0, same_numbers h.world g.world there.0 h.to g.to g.deeds g.goes b l other cut.1.is ∙ cut.1.receipts.1);
            },
          ))
          (λ still. inr (
            later n still.0 apart,
            record {
              is = speaks_on h.world g.world there.0 h.to g.to g.deeds g.goes b l other still.1.is;
              came =
                  others_fit means l.state k.state s h.batches g.batches h.to g.to h.world g.world gs hs y z v u precheck b there.0 (rest_of l) g.deeds h.stood g.stood still.1.is.stands seat.is.stands still.1.came
                  (at_spot means s h.batches h.to h.world gs y v there.0 (rest_of k) k.state seat.came) (λ e. other (sym e)) (λ t mine yours. other (sym (in_one _ h.world b there.0 t
                  (legal means precheck s h.world h.to h.batches gs y v h.stood) still.1.is.stands seat.is.stands
                  (owns_within means s h.batches h.to h.world gs y v b (rest_of l) l.state t still.1.came mine)
                  (owns_within means s h.batches h.to h.world gs y v there.0 (rest_of k) k.state t seat.came yours)))) g.goes g.others;
              receipts = still.1.receipts ∙ sym (same_numbers h.world g.world there.0 h.to g.to g.deeds g.goes b l other still.1.is);
            },
          ))
          (h.seats n b l at_b at_l)
        where
          other : there.0.client ≡ b.client → ⊥
          other = client_apart bs h.are h.standings h.blocks i there.0 there.1 n b at_b apart

      still_at : Halting means (i + 1) precheck s p bs (slice_set ks i k) hs z u
      still_at =
          halting_by means precheck s p bs ks gs y v h.are h.log h.to h.batches h.steps h.course h.world h.old_is h.before_is h.owners h.standings h.blocks h.count i there.0 k there.1 at_k
          g.batches g.to g.steps g.course g.deeds g.world g.goes hs z u g.stood g.standing k g.client g.acts (i + 1)
          (inl (λ more. absurd (omega (arith, more)), record { is = g.is; came = g.came; receipts = ([], one.numbers ∙ (sym seat.receipts ∙ sym (append-nil k.transcript.receipts))) }))
          others

      still_to : still_at.to ≡ g.to
      unfolding still_at halting_by
      still_to = refl

      still_asks : Asks ks hs z u
      still_asks =
          subst (λ l. Asks l hs z u) (set_same ks i k at_k)
          (let same : g.to ≡ still_at.to = sym still_to in (
            still_at,
            g.steps,
            subst (λ (q : Point). IsPointCourse h.to g.steps q) same g.course,
            subst (λ (q : Point). Within means.told means.moment means.left_since v u (LeavesBetween s h.to q)) same
                (map_left means v u (LeavesHere s h.to gs) (LeavesBetween s h.to g.to) (here_between s h.to g.to gs g.steps h.stood.stands.at.regions g.course) (leaves precheck s h.batches h.to h.world h.stood)),
          ))

    pub one_asks : (hs : List RegionState) (z : SystemState) (u : Vaulted V) → ((c : Disk) → means.left_since v.store (means.moment v.store) c → means.may_leave v.store c) → HaltGoes means k gs y v hs z u → HaltLeavesRight means gs y v u
        → (k.state ≡ Gone → (hs ≡ gs) × (z ≡ y) × (u ≡ v)) → Asks ks hs z u
    one_asks hs z u now halts leaves gone = ⊎_elim
        (λ own.
        let same = gone (own.0 (omega arith)) in
        subst (λ (rs : List RegionState). Asks ks rs z u) (sym same.0)
        (subst (λ (m : SystemState). Asks ks gs m u) (sym same.1)
        (subst (λ (t : Vaulted V). Asks ks gs y t) (sym same.2) (gone_asks now own))))
        (λ still. still_asks hs z u halts leaves still.1)
        (h.seats i there.0 k there.1 at_k)

-- ---- one behind another
module _ {V : Type 0} (means : Ghosts V) (precheck : Bool) (ks : List Client) (os : List RegionState) (x : SystemState) (o : Vaulted V) where
  pub none_asked : ((c : Disk) → means.left_since o.store (means.moment o.store) c → means.may_leave o.store c) → HaltsOn means 0 precheck ks os x o os x o
  none_asked now s p bs h = (h, [], refl, still_left means s h.batches h.to os x o now h.stood.stands)

  pub halts_on : (i : ℕ) (k : Client) (gs hs : List RegionState) (y z : SystemState) (v u : Vaulted V) → slice_get ks i ≡ Some k → IsNoShorter means.told o v → ((c : Disk) → means.left_since v.store (means.moment v.store) c → means.may_leave v.store c)
      → HaltGoes means k gs y v hs z u → HaltLeavesRight means gs y v u → (k.state ≡ Gone → (hs ≡ gs) × (z ≡ y) × (u ≡ v))
      → HaltsOn means i precheck ks os x o gs y v → HaltsOn means (i + 1) precheck ks os x o hs z u
  halts_on i k gs hs y z v u at_k longer now halts leaves gone before s p bs h =
      let a = before s p bs h in
      let b = one_asks means precheck s p bs ks i k at_k gs y v a.0 hs z u now halts leaves gone in
      (b.0, a.1 ++ b.1, course_join h.to a.0.to b.0.to a.1 b.1 a.2 b.2, between_both means s h.to a.0.to b.0.to a.1 b.1 o v u a.2 b.2 longer a.3 b.3)

  pub halts_go : (upto : ℕ) (hs : List RegionState) (z : SystemState) (u : Vaulted V) → length ks ≤ upto → HaltsOn means upto precheck ks os x o hs z u → HaltsGo means precheck ks os x o hs z u
  halts_go upto hs z u all on s p bs h = has_halted means precheck s p bs ks upto hs z u all (on s p bs h).0

  pub halts_end : (upto : ℕ) (hs : List RegionState) (z : SystemState) (u : Vaulted V) → HaltsOn means upto precheck ks os x o hs z u → HaltsEnd means precheck ks os x o hs z u
  halts_end upto hs z u on s p bs h =
      let a = on s p bs h in ends_right means s a.0.batches h.to a.0.to a.1 hs z o u a.0.stood.stands a.2 a.3
