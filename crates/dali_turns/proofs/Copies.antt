-- A region is copied for a checkpoint of a client, or the store fails in it.
use Rattle.std.proofs.Common.{◌≡◌, ℕ, ◌+◌, Bool, true, false, List, [], ◌∷◌, ◌++◌, length, Option, Some, None, IfSome, is_some, refl, ap, sym, subst, ◌∙◌, ⊎_elim, arith}
use Rattle.std.specs.Prelude.{◌&&◌, slice_get, slice_set}
use Rattle.std.proofs.lemmas.List.{length-set}
use Rattle.std.proofs.lemmas.Option.{slice_get_within}
use Rattle.dali_runs.proofs.CountsLemmas.Lists.{set_cases}
use Rattle.dali_record.specs.declared.records.Record.{Record}
use Rattle.dali_record.specs.Spelling.{words_bytes}
use Rattle.dali_region.specs.declared.Side.{Side}
use Rattle.dali_region.specs.declared.Hold.{Hold}
use Rattle.dali_region.specs.State.{RegionState}
use Rattle.dali_region.specs.Answers.{is_dirty, cleaned}
use Rattle.dali_store.specs.Store.{Files as Disk}
use Rattle.dali_store.specs.declared.store.Store.{Ghosts}
use Rattle.dali_runs.specs.State.{SystemState}
use Rattle.dali_runs.specs.Steps.{store_stopped, in_checkpoint}
use Rattle.dali_crash.specs.Checkpoints.{StoreStep, Does, Copies as CopiesRegion, Skips as SkipsRegion, CopyFails, Finishes, Point, target}
use Rattle.dali_crash.specs.Traces.{Start}
use Rattle.dali_runs.specs.Courses.{Stops}
use Rattle.dali_crash.specs.Disks.Disks.{image_name}
use Rattle.dali_crash.specs.Disks.Places.{place_of}
use Rattle.dali_core.specs.Vault.Vaulted.{Vaulted}
use Rattle.dali_core.specs.Steps.At.{Goes}
use Rattle.dali_core.specs.Steps.Said.{HasWritten, WriteHasFailed}
use Rattle.dali_core.proofs.StepsLemmas.Steps.{copy_faults}
use Rattle.dali_clean.specs.Cleaned.{AreDead}
use Rattle.dali_core.specs.Cores.{IsCoreAt, HoldsPlaces}
use Rattle.dali_checkpoint.specs.Kept.{Checkpointed, side_in}
use Rattle.dali_checkpoint.specs.Done.{Reaches}
use Rattle.dali_core.specs.Cores.{IsNoShorter}
use Rattle.dali_checkpoint.specs.Running.{IsCopying}
use Rattle.dali_checkpoint.specs.Laws.{Went as Further}
use Rattle.dali_checkpoint.proofs.Calls.{untouched_now, side_is_next, copy_goes_on, skip_goes_on}
use Rattle.dali_checkpoint.proofs.Lengths.{places_stay, copied_places}
use Rattle.dali_transcripts.specs.Words.{Act, Checkpoints as CheckpointAct, StoreFailed, Refused}
use Rattle.dali_transcripts.specs.World.{Deed, Meets, EndsCheckpoint, World, log_of, under_way}
use Rattle.dali_transcripts.specs.Moves.{Receipt, Outside as IsOutside, at, Move, IsRefusedCheckpoint, spanned}
use Rattle.dali_transcripts.specs.Causes.{IsCutAudit, MetCause}
use Rattle.dali_transcripts.specs.Laws.{receipts_from}
use Rattle.dali_transcripts.specs.Rounds.{Standing, IsPlaced}
use Rattle.dali_during.proofs.Points.{cleaned_hold}
use Rattle.dali_transcripts.specs.Telling.Deeds.{AreOf}
use Rattle.dali_transcripts.specs.Telling.Tells.{after}
use Rattle.dali_turns.specs.declared.client.Client.{Client}
use Rattle.dali_turns.specs.declared.client.State.{State}
use Rattle.dali_turns.specs.declared.client.State.TheVariants.{Outside, Copying}
use Rattle.dali_turns.specs.Stood.{Stood}
use Rattle.dali_turns.specs.Checkpoints.{FitsCopying}
use Rattle.dali_turns.specs.Fits.{rest_of, lines_of, IsOf, Owns, Fits}
use Rattle.dali_turns.specs.Goes.{Went}
use Rattle.dali_turns.proofs.Refusals.{done_last}
use Rattle.dali_turns.proofs.Auditing.{rows_same}
use Rattle.dali_turns.proofs.Flushing.{has_stop}
use Rattle.dali_turns.proofs.Beside.{is_beside, is_out_of}
use Rattle.dali_turns.proofs.Doing.{Did, behind, ended, outside_by, went_on, went_by, went_silent}
use Rattle.dali_turns.proofs.Coursing.{did_course}
use Rattle.dali_turns.proofs.Ending.{one_then}
use Rattle.dali_turns.proofs.Finishing.{stop_point, finish_point, stops_there, stopped_at, finishes_there, finished_at, faulted_at, done_on}
use Rattle.dali_turns.proofs.Starting.{making_on, under_then, making_spot, making_placed}

-- ---- a region whose flag is cleared keeps its hold

pub dead_cleaned : (gs : List RegionState) (r : ℕ) (side : Side) (g : RegionState) → slice_get gs r ≡ Some g → AreDead gs → AreDead (slice_set gs r (cleaned side g))
dead_cleaned gs r side g at dead q h there = ⊎_elim
    (λ same. subst (λ (o : Option Hold). IfSome o (λ (k : Hold). k.dead ≡ true)) (sym (ap (λ (x : RegionState). x.hold) same.1 ∙ cleaned_hold side g)) (dead r g at))
    (λ other. dead q h other.1)
    (set_cases gs r (cleaned side g) q h there)

-- ---- a checkpoint that the store failed
module _ {V : Type 0} (means : Ghosts V)
    (precheck : Bool) (s : Start) (B C : List (List Record)) (p q : Point) (w : World) (a : Standing) (state : State) (gs hs : List RegionState) (y z : SystemState) (v u : Vaulted V) (k j : Client) (ds : List Deed)
    (is : IsOf w a k) (did : Did means precheck s B p w a.client state gs y v ds C q hs z u) (none : (t : ℕ) → Owns state t → ⊥) (stopped : u.stopped ≡ true) (same_rows : z.table ≡ y.table)
    (more : List Act) (since until m : ℕ) (work : List Receipt) (starts : a.spot ≡ at (IsOutside false) (CheckpointAct ∷ more)) (placed : IsPlaced false more)
    (own_is : a.pending ++ receipts_from (length (log_of w)) ds ≡ spanned (Some (since, until)) (work ++ (m, Meets StoreFailed) ∷ []))
    (cut : IsCutAudit (after w a.client ds q.core) true work) (met : MetCause (after w a.client ds q.core) a.client m CheckpointAct None StoreFailed) where
  abbrev failure : Move
  failure = IsRefusedCheckpoint false (Some (since, until)) false work m StoreFailed more

  pub store_failed : j.transcript.client ≡ k.transcript.client → lines_of j ≡ lines_of k ++ Refused CheckpointAct StoreFailed ∷ [] → rest_of j ≡ more → j.state ≡ Outside → Went means precheck s B p w a state gs y v true j hs z u
  store_failed client lines rest now =
      went_by means precheck s B C p q w a state gs hs y z v u ds k j is did failure starts own_is (cut, tt, (met, tt)) client lines
      (subst (λ (x : State). Fits means s C q (after w a.client ds q.core) hs z u (ended a failure) (rest_of j) x) (sym now) (outside_by z a failure true more (rest_of j) rest (λ e. did.stood.stops stopped) refl placed))
      (rows_same state j.state y z same_rows none)

  pub store_failed_silent : j.transcript ≡ k.transcript → Went means precheck s B p w a state gs y v false j hs z u
  store_failed_silent same = went_silent means precheck s B C p q w a state gs hs y z v u ds k j is did failure starts own_is (cut, tt, (met, tt)) same

-- the deed is the last but one
pub met_store : (w : World) (c n : ℕ) (p q : Point) → n ≡ length (log_of w) → MetCause (after w c (Meets StoreFailed ∷ EndsCheckpoint ∷ []) q.core) c n CheckpointAct None StoreFailed
met_store w c n p q e = subst (λ (l : World). MetCause l c n CheckpointAct None StoreFailed) (one_then w c (Meets StoreFailed) (EndsCheckpoint ∷ []) p.core q.core)
    (subst (λ (i : ℕ). MetCause (after (after w c (Meets StoreFailed ∷ []) p.core) c (EndsCheckpoint ∷ []) q.core) c i CheckpointAct None StoreFailed) (sym e)
    (record { met = done_on (after w c (Meets StoreFailed ∷ []) p.core) c (length (log_of w)) c (Meets StoreFailed) (EndsCheckpoint ∷ []) q.core (done_last w c (Meets StoreFailed) p.core); cause = tt }))

module _ {V : Type 0} (means : Ghosts V)
    (precheck : Bool) (s : Start) (B : List (List Record)) (p : Point) (w : World) (a : Standing) (gs : List RegionState) (y : SystemState) (v : Vaulted V) (k j : Client)
    (stood : Stood means s B p w precheck gs y v) (is : IsOf w a k)
    (c : Checkpointed) (next : ℕ) (fits : FitsCopying means s B p w gs y v a (rest_of k) c next) (runs : v.stopped ≡ false)
    (g : RegionState) (there : slice_get gs next ≡ Some g) where
  abbrev state : State
  state = Copying c next

  copying : IsCopying means s B p gs y v c fits.head
  copying = fits.copying runs

  at_next : slice_get gs c.copied ≡ Some g
  at_next = ap (slice_get gs) fits.copied ∙ there

  -- behind a step by which the region is brought up to date
  module _ (x : StoreStep) (tells : AreOf w a.client p x []) (beside : (t : ℕ) → is_beside t x ≡ true) (out : (b : ℕ) → is_out_of b x ≡ true) (hs : List RegionState) (u : Vaulted V)
      (went : Further means s B p x hs y u (record c { copied = c.copied + 1 }) fits.head) (dead : AreDead hs) (files : IfSome (means.told u.store) (HoldsPlaces hs)) (ran : u.stopped ≡ false) (count : length hs ≡ length gs) where
    did : Did means precheck s B p w a.client state gs y v [] B went.to hs y u
    did = did_course means precheck s B p w gs y v stood a.client state (x ∷ []) [] B went.to hs y u (went.to, went.step, refl) (went.to, [], [], went.step, tells, tt, (refl, refl), refl)
        went.is.at dead files stood.quiet (λ e. let no : true ≡ false = sym e ∙ ran in absurd (cc))
        (λ t lives other. ap (λ b. b && true) (beside t)) (λ b other. ap (λ o. o && true) (out b)) (λ flag other. absurd (other tt))

    copied_on : j.transcript ≡ k.transcript → rest_of j ≡ rest_of k → j.state ≡ Copying (record c { copied = next + 1 }) (next + 1) → Went means precheck s B p w a state gs y v true j hs y u
    copied_on same rest now =
        went_on means precheck s B B p went.to w a state gs hs y y v u [] k j is did true same
        (subst (λ (m : State). Fits means s B went.to (after w a.client [] went.to.core) hs y u (behind a w []) (rest_of j) m) (sym now)
        (subst (λ (n : ℕ). Fits means s B went.to (after w a.client [] went.to.core) hs y u (behind a w []) (rest_of j) (Copying (record c { copied = n + 1 }) (next + 1))) fits.copied (record {
          making = making_on p went.to w a (rest_of k) (rest_of j) [] fits.making rest (ap (λ (m : SystemState). m.checking) went.is.at.system ∙ went.is.flag);
          head = fits.head;
          copying = λ _. went.is;
          copied = ap (λ n. n + 1) fits.copied;
          upto = omega (arith, slice_get_within gs next g there, count);
          sound = fits.sound;
        })))
        (λ e. rows_same state j.state y y refl (λ t none. none))

  -- its words are written
  pub copies : (u : Vaulted V) → is_dirty g (side_in c) ≡ true → HasWritten means v (image_name (side_in c)) (place_of next) (words_bytes g.back) u → IsNoShorter means.told v u → Reaches means.told (side_in c) (next + 1) u
      → j.transcript ≡ k.transcript → rest_of j ≡ rest_of k → j.state ≡ Copying (record c { copied = next + 1 }) (next + 1) → Went means precheck s B p w a state gs y v true j (slice_set gs next (cleaned (side_in c) g)) y u
  copies u dirty said longer reaches same rest now =
      copied_on (CopiesRegion c.copied (length p.log)) refl (λ t. refl) (λ b. refl) (slice_set gs next (cleaned (side_in c) g)) u
      (subst (λ (n : ℕ). Further means s B p (CopiesRegion c.copied (length p.log)) (slice_set gs n (cleaned (side_in c) g)) y u (record c { copied = c.copied + 1 }) fits.head) fits.copied
      (copy_goes_on means s B p gs y v u c fits.head g copying at_next dirty (subst (λ (n : ℕ). HasWritten means v (image_name (side_in c)) (place_of n) (words_bytes g.back) u) (sym fits.copied) said)))
      (dead_cleaned gs next (side_in c) g there stood.stands.dead) (copied_places (means.told v.store) (means.told u.store) gs next (side_in c) g there longer reaches stood.files) said.ok.runs (length-set gs next (cleaned (side_in c) g))
      same rest now

  -- its flag is clear
  pub skips : is_dirty g (side_in c) ≡ false → Reaches means.told (side_in c) (next + 1) v
      → j.transcript ≡ k.transcript → rest_of j ≡ rest_of k → j.state ≡ Copying (record c { copied = next + 1 }) (next + 1) → Went means precheck s B p w a state gs y v true j gs y v
  skips clear reaches same rest now =
      copied_on (SkipsRegion c.copied (length p.log)) refl (λ t. refl) (λ b. refl) gs v
      (skip_goes_on means s B p gs y v c fits.head g copying at_next clear (subst (λ (n : ℕ). Reaches means.told (side_in c) (n + 1) v) (sym fits.copied) reaches))
      stood.stands.dead stood.files runs refl same rest now

  -- ---- the store fails
  module _ (u : Vaulted V) (dirty : is_dirty g (side_in c) ≡ true) (said : WriteHasFailed means v (image_name (side_in c)) (place_of next) (length (words_bytes g.back)) u) (files : IsNoShorter means.told v u) where
    abbrev number : ℕ
    number = length (log_of w)

    abbrev z : SystemState
    z = in_checkpoint (store_stopped y) false

    stopped : u.stopped ≡ true
    stopped = ap (λ (x : Vaulted V). x.stopped) said.vault

    side : side_in c ≡ target p
    side = side_is_next means s B p gs y v c fits.head stood.stands.at.vault.run copying.is

    goes : Goes means s p (CopyFails c.copied [] (means.faults u.store)) B u
    goes = copy_faults means s B p v u c.copied (length p.log) g stood.stands.at.vault
        (record { at = ap (λ l. slice_get l c.copied) stood.stands.at.regions ∙ at_next; under_way = ap is_some copying.is.begun; dirty = subst (λ x. is_dirty g x ≡ true) side dirty; untouched = untouched_now p.log c.copied })
        (subst (λ x. WriteHasFailed means v (image_name x) (place_of c.copied) (length (words_bytes g.back)) u) side
        (subst (λ (n : ℕ). WriteHasFailed means v (image_name (side_in c)) (place_of n) (length (words_bytes g.back)) u) (sym fits.copied) said))

    one : IsCoreAt means s B goes.to gs y u
    one = faulted_at means s B p gs y v u (CopyFails c.copied [] (means.faults u.store)) stood.stands.at goes (ap (λ (x : Point). x.core.regions) goes.step.4) (ap (λ (x : Point). x.core.system) goes.step.4) said.vault

    set : y.checking ≡ true
    set = ap (λ (x : SystemState). x.checking) (sym stood.stands.at.system) ∙ fits.making.flag

    abbrev q : Point
    q = finish_point (stop_point goes.to)

    abbrev xs : List StoreStep
    xs = CopyFails c.copied [] (means.faults u.store) ∷ Does Stops ∷ Finishes ∷ []

    abbrev ds : List Deed
    ds = Meets StoreFailed ∷ EndsCheckpoint ∷ []

    two : IsCoreAt means s B (stop_point goes.to) gs (store_stopped y) u
    two = stopped_at means s B goes.to gs y u one stopped

    under : under_way (after (after w a.client (Meets StoreFailed ∷ []) goes.to.core) a.client [] (stop_point goes.to).core).happened ≡ Some a.client
    under = under_then (after w a.client (Meets StoreFailed ∷ []) goes.to.core) a.client [] (stop_point goes.to).core ∙ (under_then w a.client (Meets StoreFailed ∷ []) goes.to.core ∙ fits.making.under)

    failing : Did means precheck s B p w a.client state gs y v ds B q gs z u
    failing = did_course means precheck s B p w gs y v stood a.client state xs ds B q gs z u
        (goes.to, goes.step, (stop_point goes.to, stops_there means s B goes.to gs y u one stopped, (q, finishes_there means s B (stop_point goes.to) gs (store_stopped y) u two set, refl))) (
          goes.to,
          Meets StoreFailed ∷ [],
          EndsCheckpoint ∷ [],
          goes.step,
          refl,
          (tt, tt),
          (
            stop_point goes.to,
            [],
            EndsCheckpoint ∷ [],
            stops_there means s B goes.to gs y u one stopped,
            refl,
            tt,
            (q, EndsCheckpoint ∷ [], [], finishes_there means s B (stop_point goes.to) gs (store_stopped y) u two set, (refl, under), (tt, tt), (refl, refl), refl),
            refl,
          ),
          refl,
        )
        (finished_at means s B (stop_point goes.to) gs (store_stopped y) u two set) stood.stands.dead (places_stay (means.told v.store) (means.told u.store) gs files stood.files)
        (record { unclaimed = stood.quiet.unclaimed })
        (λ e. has_stop y.stop) (λ t lives other. refl) (λ b other. refl) (λ flag other. absurd (other tt))

    own_is : a.pending ++ receipts_from number ds ≡ spanned (Some (fits.making.since, number)) ([] ++ (number, Meets StoreFailed) ∷ [])
    own_is = ap (λ l. l ++ (number, Meets StoreFailed) ∷ (number, EndsCheckpoint) ∷ []) fits.making.pending

    pub copy_fails : j.transcript.client ≡ k.transcript.client → lines_of j ≡ lines_of k ++ Refused CheckpointAct StoreFailed ∷ [] → rest_of j ≡ fits.making.more → j.state ≡ Outside → Went means precheck s B p w a state gs y v true j gs z u
    copy_fails = store_failed means precheck s B B p q w a state gs gs y z v u k j ds is failing (λ t none. none) stopped refl fits.making.more fits.making.since number number [] (making_spot fits.making) (making_placed fits.making) own_is tt (met_store w a.client number goes.to q refl)

    pub copy_fails_silent : j.transcript ≡ k.transcript → Went means precheck s B p w a state gs y v false j gs z u
    copy_fails_silent = store_failed_silent means precheck s B B p q w a state gs gs y z v u k j ds is failing (λ t none. none) stopped refl fits.making.more fits.making.since number number [] (making_spot fits.making) (making_placed fits.making) own_is tt (met_store w a.client number goes.to q refl)
