-- What a crash at any moment of a round leaves restarts right.
use Rattle.std.proofs.Common.{◌≡◌, ℕ, ◌<◌, Bool, true, false, List, [], ◌++◌, length, map, Option, get_or, refl, ap, sym, subst, ◌∙◌, inl, inr}
use Rattle.std.specs.Prelude.{slice_set}
use Rattle.std.proofs.lemmas.Option.{slice_get-get_or}
use Rattle.dali_region.specs.State.{RegionState}
use Rattle.dali_lists.proofs.Lists.{set_same}
use Rattle.dali_store.specs.Store.{Files as Disk}
use Rattle.dali_store.specs.declared.store.Store.{Ghosts}
use Rattle.dali_runs.specs.State.{SystemState, log_after}
use Rattle.dali_crash.specs.Checkpoints.{Point, IsPointCourse}
use Rattle.dali_crash.specs.Traces.{Start}
use Rattle.dali_core.specs.Vault.Vaulted.{Vaulted}
use Rattle.dali_core.specs.Cores.{IsNoShorter}
use Rattle.dali_core.specs.Moments.{Within}
use Rattle.dali_checkpoint.proofs.Calls.{course_join}
use Rattle.dali_transcripts.specs.Rounds.{AreBlocks}
use Rattle.dali_transcripts.specs.declared.clients.command.Block.{Block}
use Rattle.dali_transcripts.specs.Clients.Told.{told_of}
use Rattle.dali_transcripts.specs.Transcripts.{Told}
use Rattle.dali_turns.specs.declared.client.Client.{Client}
use Rattle.dali_turns.specs.Goes.{Went}
use Rattle.dali_turns.specs.Turns.{TurnGoes}
use Rattle.dali_turns.specs.Moments.{LeavesUpTo, TurnLeavesRight}
use Rattle.dali_round.specs.Played.{AreNew, Played, MoveGoes}
use Rattle.dali_round.specs.Moments.{LeavesBetween, PlayEnds, HaltsEnd, PlayLeaves, RoundLeavesRight}
use Rattle.dali_round.proofs.Between.{come_from, up_to, map_left, between_both, ends_right, still_left}
use Rattle.dali_round.proofs.Seats.{there, seat, is_of, turn_played, turn_to, turn_halts, halts_to}
use Rattle.dali_round.proofs.Halts.{may_halt, may_halt_to}
use Rattle.dali_round.proofs.Starts.{start_played}

module _ {V : Type 0} (means : Ghosts V) where
  module _ (precheck : Bool) where
    pub ends_here : (ks : List Client) (gs : List RegionState) (y : SystemState) (v : Vaulted V) → ((c : Disk) → means.left_since v.store (means.moment v.store) c → means.may_leave v.store c)
        → PlayEnds means true precheck ks gs y v ks gs y v
    ends_here ks gs y v now s p bs f = (f, [], refl, still_left means s f.batches f.to gs y v now f.stood.stands)

    pub ends_on : (ks js ls : List Client) (gs hs is : List RegionState) (y z x : SystemState) (v u t : Vaulted V) → IsNoShorter means.told v u → PlayEnds means true precheck ks gs y v js hs z u
        → PlayEnds means true precheck js hs z u ls is x t → PlayEnds means true precheck ks gs y v ls is x t
    ends_on ks js ls gs hs is y z x v u t longer one two s p bs f =
        let a = one s p bs f in
        let b = two s p bs a.0 in
        (b.0, a.1 ++ b.1, course_join f.to a.0.to b.0.to a.1 b.1 a.2 b.2, between_both means s f.to a.0.to b.0.to a.1 b.1 v u t a.2 b.2 longer a.3 b.3)

    -- the last part was cut
    pub ends_cut : (ks js ls : List Client) (gs hs is : List RegionState) (y z x : SystemState) (v u t : Vaulted V) → IsNoShorter means.told v u → PlayEnds means true precheck ks gs y v js hs z u
        → PlayEnds means false precheck js hs z u ls is x t → PlayEnds means false precheck ks gs y v ls is x t
    ends_cut ks js ls gs hs is y z x v u t longer one two s p bs f =
        let a = one s p bs f in
        let b = two s p bs a.0 in
        (b.0, a.1 ++ b.1, course_join f.to a.0.to b.0.to a.1 b.1 a.2 b.2, between_both means s f.to a.0.to b.0.to a.1 b.1 v u t a.2 b.2 longer a.3 b.3)

    -- no step more is made
    pub ends_short : (ks js : List Client) (gs hs : List RegionState) (y z : SystemState) (v u : Vaulted V) → PlayEnds means true precheck ks gs y v js hs z u
        → PlayEnds means false precheck ks gs y v js hs z u
    ends_short ks js gs hs y z v u one s p bs f =
        let a = one s p bs f in
        let same : a.0.to ≡ (may_halt means precheck s p bs js hs z u a.0).to = sym (may_halt_to means precheck s p bs js hs z u a.0) in (
          may_halt means precheck s p bs js hs z u a.0,
          a.1,
          subst (λ (q : Point). IsPointCourse f.to a.1 q) same a.2,
          subst (λ (q : Point). Within means.told means.moment means.left_since v u (LeavesBetween s f.to q)) same a.3,
        )

    pub ends_either : (ks js : List Client) (gs hs : List RegionState) (y z : SystemState) (v u : Vaulted V) (ok : Bool) → PlayEnds means ok precheck ks gs y v js hs z u
        → PlayEnds means false precheck ks gs y v js hs z u
    ends_either ks js gs hs y z v u true one = ends_short ks js gs hs y z v u one
    ends_either ks js gs hs y z v u false one = one

    pub ends_as : (ks js : List Client) (gs hs : List RegionState) (y z : SystemState) (v u : Vaulted V) (ok is : Bool) → is ≡ ok → PlayEnds means ok precheck ks gs y v js hs z u
        → PlayEnds means is precheck ks gs y v js hs z u
    ends_as ks js gs hs y z v u ok is e one = subst (λ (b : Bool). PlayEnds means b precheck ks gs y v js hs z u) (sym e) one

    -- ---- where the round ends
    pub done_leaves : (ks js : List Client) (gs hs : List RegionState) (y z : SystemState) (v u : Vaulted V) → PlayEnds means true precheck ks gs y v js hs z u
        → PlayLeaves means precheck ks gs y v hs z u
    done_leaves ks js gs hs y z v u one s p bs f =
        let a = one s p bs f in ends_right means s a.0.batches f.to a.0.to a.1 hs z v u a.0.stood.stands a.2 a.3

    -- what can't be cut was ended; the flag of a checkpoint is none of the log
    pub halts_leave : (ks js : List Client) (gs hs is : List RegionState) (y z x x' : SystemState) (v u t : Vaulted V) → x'.since ≡ x.since → IsNoShorter means.told v u → PlayEnds means false precheck ks gs y v js hs z u
        → HaltsEnd means precheck js hs z u is x t → PlayLeaves means precheck ks gs y v is x' t
    halts_leave ks js gs hs is y z x x' v u t since longer one two s p bs f =
        let a = one s p bs f in
        let b = two s p bs a.0 in
        record {
          to = b.to;
          steps = a.1 ++ b.steps;
          course = course_join f.to a.0.to b.to a.1 b.steps a.2 b.course;
          regions = b.regions;
          log = b.log ∙ ap (λ l. s.log ++ l) (sym since);
          within = between_both means s f.to a.0.to b.to a.1 b.steps v u t a.2 b.course longer a.3 b.within;
        }

    -- ---- a step of the client at this place
    module _ (ks : List Client) (i : ℕ) (d j : Client) (gs hs : List RegionState) (y z : SystemState) (v u : Vaulted V) (ok : Bool) (less : i < length ks)
        (goes : TurnGoes means precheck (get_or ks i d) gs y v ok j hs z u) (leaves : TurnLeavesRight means precheck (get_or ks i d) gs y v z u)
        (s : Start) (p : Point) (bs : List Told) (f : Played means true precheck s p bs ks gs y v) where
      abbrev k : Client
      k = get_or ks i d

      abbrev went : Went means precheck s f.batches f.to f.world (there means precheck s p bs ks gs y v f i k (slice_get-get_or ks i d less)).0 k.state gs y v ok j hs z u
      went =
          let at_k = slice_get-get_or ks i d less in
          let here = seat means precheck s p bs ks gs y v f i k at_k in
          (goes s f.batches f.to f.world (there means precheck s p bs ks gs y v f i k at_k).0 f.stood (is_of means precheck s p bs ks gs y v f i k at_k) here.came here.receipts).went

      one_within : Within means.told means.moment means.left_since v u (LeavesBetween s f.to went.to)
      one_within =
          let at_k = slice_get-get_or ks i d less in
          map_left means v u (LeavesUpTo s f.to gs z) (LeavesBetween s f.to went.to)
          (up_to s f.to went.to gs z went.steps f.stood.stands.at.regions went.course (went.stood.stands.at.vault.run.run.log ∙ ap (log_after s.log) went.stood.stands.at.system))
          (leaves s f.batches f.to f.world (there means precheck s p bs ks gs y v f i k at_k).0 f.stood (is_of means precheck s p bs ks gs y v f i k at_k) (seat means precheck s p bs ks gs y v f i k at_k).came)

    turn_ends : (ks : List Client) (i : ℕ) (d j : Client) (gs hs : List RegionState) (y z : SystemState) (v u : Vaulted V) → i < length ks → TurnGoes means precheck (get_or ks i d) gs y v true j hs z u
        → TurnLeavesRight means precheck (get_or ks i d) gs y v z u → PlayEnds means true precheck ks gs y v (slice_set ks i j) hs z u
    turn_ends ks i d j gs hs y z v u less goes leaves s p bs f =
        let k = get_or ks i d in
        let at_k = slice_get-get_or ks i d less in
        let one = went ks i d j gs hs y z v u true less goes leaves s p bs f in
        let same : one.to ≡ (turn_played means precheck s p bs ks gs y v f i k at_k j hs z u goes).to = sym (turn_to means precheck s p bs ks gs y v f i k at_k j hs z u goes) in (
          turn_played means precheck s p bs ks gs y v f i k at_k j hs z u goes,
          one.steps,
          subst (λ (q : Point). IsPointCourse f.to one.steps q) same one.course,
          subst (λ (q : Point). Within means.told means.moment means.left_since v u (LeavesBetween s f.to q)) same (one_within ks i d j gs hs y z v u true less goes leaves s p bs f),
        )

    -- one step, or none
    pub move_ends : (ks : List Client) (i : ℕ) (d j : Client) (gs hs : List RegionState) (y z : SystemState) (v u : Vaulted V) → i < length ks → ((c : Disk) → means.left_since v.store (means.moment v.store) c → means.may_leave v.store c)
        → MoveGoes means precheck (get_or ks i d) gs y v true j hs z u → TurnLeavesRight means precheck (get_or ks i d) gs y v z u
        → PlayEnds means true precheck ks gs y v (slice_set ks i j) hs z u
    move_ends ks i d j gs hs y z v u less now (inl goes) leaves = turn_ends ks i d j gs hs y z v u less goes leaves
    move_ends ks i d j gs hs y z v u less now (inr same) leaves =
        subst (λ (rs : List RegionState). PlayEnds means true precheck ks gs y v (slice_set ks i j) rs z u) (sym same.1)
        (subst (λ (m : SystemState). PlayEnds means true precheck ks gs y v (slice_set ks i j) gs m u) (sym same.2)
        (subst (λ (t : Vaulted V). PlayEnds means true precheck ks gs y v (slice_set ks i j) gs y t) (sym same.3)
        (subst (λ (ls : List Client). PlayEnds means true precheck ks gs y v ls gs y v) (sym (ap (slice_set ks i) same.0 ∙ set_same ks i (get_or ks i d) (slice_get-get_or ks i d less))) (ends_here ks gs y v now))))

    -- or memory was wanted in it
    pub move_cut : (ks : List Client) (i : ℕ) (d j : Client) (gs hs : List RegionState) (y z : SystemState) (v u : Vaulted V) → i < length ks → MoveGoes means precheck (get_or ks i d) gs y v false j hs z u
        → TurnLeavesRight means precheck (get_or ks i d) gs y v z u → PlayEnds means false precheck ks gs y v (slice_set ks i j) hs z u
    move_cut ks i d j gs hs y z v u less goes leaves s p bs f =
        let k = get_or ks i d in
        let at_k = slice_get-get_or ks i d less in
        let one = went ks i d goes.0 gs hs y z v u false less goes.1 leaves s p bs f in
        let same : one.to ≡ (turn_halts means precheck s p bs ks gs y v f i k at_k goes.0 j hs z u goes.1 goes.2).to = sym (halts_to means precheck s p bs ks gs y v f i k at_k goes.0 j hs z u goes.1 goes.2) in (
          turn_halts means precheck s p bs ks gs y v f i k at_k goes.0 j hs z u goes.1 goes.2,
          one.steps,
          subst (λ (q : Point). IsPointCourse f.to one.steps q) same one.course,
          subst (λ (q : Point). Within means.told means.moment means.left_since v u (LeavesBetween s f.to q)) same (one_within ks i d goes.0 gs hs y z v u false less goes.1 leaves s p bs f),
        )

    pub round_leaves : (bs : List Block) (ks : List Client) (gs hs : List RegionState) (y z : SystemState) (v u : Vaulted V) → AreBlocks (map told_of bs) → AreNew bs ks
        → PlayLeaves means precheck ks gs y v hs z u → RoundLeavesRight means gs y v hs z u
    round_leaves bs ks gs hs y z v u are new leaves s B p b =
        let f = start_played means precheck s B p gs y v b bs ks are new in
        let e = leaves s p (map told_of bs) f in
        record {
          to = e.to;
          steps = f.steps ++ e.steps;
          course = course_join p f.to e.to f.steps e.steps f.course e.course;
          regions = e.regions;
          log = e.log;
          within = map_left means v u (LeavesBetween s f.to e.to) (LeavesBetween s p e.to) (come_from s p f.to e.to f.steps f.course) e.within;
        }

  pub nothing_leaves : (gs : List RegionState) (y : SystemState) (v : Vaulted V) → ((c : Disk) → means.left_since v.store (means.moment v.store) c → means.may_leave v.store c) → RoundLeavesRight means gs y v gs y v
  nothing_leaves gs y v now s B p b = record {
    to = p;
    steps = [];
    course = refl;
    regions = b.stands.at.regions;
    log = b.stands.at.vault.run.run.log ∙ ap (log_after s.log) b.stands.at.system;
    within = still_left means s B p gs y v now b.stands;
  }
