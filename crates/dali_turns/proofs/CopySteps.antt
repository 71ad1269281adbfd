-- A step function of a checkpoint that copies: by what the calls in it say.
use Rattle.std.proofs.Common.{◌≡◌, ℕ, ◌+◌, ◌<◌, Bool, true, false, List, [], length, Option, Some, None, is_some, Result, Ok, Err, refl, ap, sym, subst, ◌∙◌, inl, inr, arith}
use Rattle.std.specs.Prelude.{slice_get, slice_set}
use Rattle.std.proofs.lemmas.Option.{same_Some}
use Rattle.dali_lists.proofs.Lists.{set_same}
use Rattle.dali_geometry.specs.Places.{regions}
use Rattle.dali_record.specs.declared.records.Record.{Record}
use Rattle.dali_record.specs.Spelling.{words_bytes}
use Rattle.dali_region.specs.State.{RegionState}
use Rattle.dali_region.specs.Answers.{is_dirty, cleaned}
use Rattle.dali_store.specs.Store.{Files as Disk}
use Rattle.dali_store.specs.declared.store.Store.{Ghosts}
use Rattle.dali_runs.specs.declared.causes.Cause.{Cause}
use Rattle.dali_runs.specs.State.{SystemState}
use Rattle.dali_runs.specs.Steps.{in_checkpoint}
use Rattle.dali_crash.specs.Checkpoints.{Point}
use Rattle.dali_crash.specs.Traces.{Start}
use Rattle.dali_crash.specs.Disks.Disks.{image_name}
use Rattle.dali_crash.specs.Disks.Places.{place_of}
use Rattle.dali_core.specs.Vault.Vaulted.{Vaulted}
use Rattle.dali_core.specs.Steps.Said.{HasWritten, WriteHasFailed}
use Rattle.dali_image.specs.declared.header.Header.{Header}
use Rattle.dali_checkpoint.specs.Kept.{Checkpointed, side_in, given_up}
use Rattle.dali_checkpoint.specs.Done.{Reaches}
use Rattle.dali_core.specs.Cores.{IsNoShorter}
use Rattle.dali_checkpoint.specs.declared.error.CheckpointError.{CheckpointError}
use Rattle.dali_checkpoint.specs.declared.error.CheckpointError.TheVariants.{Stopped, Fault}
use Rattle.dali_transcripts.specs.declared.clients.command.Command.TheVariants.{Checkpoint as IsCheckpoint}
use Rattle.dali_transcripts.specs.declared.clients.line.Line.TheVariants.{Refused as IsRefused}
use Rattle.dali_transcripts.specs.declared.clients.line.Why.TheVariants.{Stopped as IsStopped, StoreStopped}
use Rattle.dali_transcripts.specs.Words.{Checkpoints as CheckpointAct, StoppedBy}
use Rattle.dali_transcripts.specs.World.{World}
use Rattle.dali_transcripts.specs.Rounds.{Standing}
use Rattle.dali_turns.specs.declared.client.Client.{Client}
use Rattle.dali_turns.specs.declared.client.State.TheVariants.{Outside, Copying}
use Rattle.dali_turns.specs.Clients.{Finishes}
use Rattle.dali_turns.specs.Endings.{line_in, SaysEnd, Unsaid}
use Rattle.dali_turns.specs.Fits.{rest_of}
use Rattle.dali_turns.specs.Goes.{Went, StepGoes}
use Rattle.dali_turns.proofs.Commands.{unsaid_goes, finished_rest, finished_lines, finished_client}
use Rattle.dali_turns.proofs.AuditSteps.{behind_is}
use Rattle.dali_turns.proofs.Guarding.{Always}
use Rattle.dali_turns.proofs.Ending.{vault_runs}
use Rattle.dali_turns.proofs.Finishing.{refusal_stop, given_up as gives_up, given_up_silent}
use Rattle.dali_turns.proofs.Copies.{copies, skips, copy_fails, copy_fails_silent}

-- a call that fails isn't done
pub never_ok : {T E : Type 0} (e : E) (x : T) → (let r : Result T E = Err e in r ≡ Ok x) → ⊥
never_ok e x is = cc

module _ {V : Type 0} (means : Ghosts V) (precheck : Bool) (k j : Client) (gs : List RegionState) (y : SystemState) (v : Vaulted V)
    (c : Checkpointed) (next : ℕ) where
  -- ---- what a copy asks for
  pub may_copy : y.stop ≡ None → next < length gs → Always means precheck (Copying c next) k gs y v ((next ≡ c.copied) × (next < regions c.header.geometry))
  may_copy stop less s B p w a stood of fits =
      let runs : v.stopped ≡ false = vault_runs v.stopped (is_some y.stop) stood.stops (ap is_some stop) in
      (sym fits.copied, omega (arith, less, stood.stands.whole.regions, ap length stood.stands.at.regions, ap (λ (h : Header). regions h.geometry) (fits.copying runs).is.header))

  -- ---- Ok
  module _ (g h : RegionState) (there : slice_get gs next ≡ Some g) (stop : y.stop ≡ None) (hs : List RegionState) (left : hs ≡ slice_set gs next h) where
    pub copied_goes : (d : Checkpointed) (u : Vaulted V) → d ≡ record c { copied = next + 1 } → h ≡ cleaned (side_in c) g → Reaches means.told (side_in c) (next + 1) u
        → (is_dirty g (side_in c) ≡ false → (h ≡ g) × (u ≡ v)) → (is_dirty g (side_in c) ≡ true → HasWritten means v (image_name (side_in c)) (place_of next) (words_bytes g.back) u) → IsNoShorter means.told v u
        → j ≡ record k { state = Copying d (next + 1) } → StepGoes means precheck (Copying c next) k gs y v true j hs y u
    copied_goes d u is cleans reaches clear written longer now s B p w a stood of fits = by_flag (is_dirty g (side_in c)) refl
      where
        runs_here : v.stopped ≡ false
        runs_here = vault_runs v.stopped (is_some y.stop) stood.stops (ap is_some stop)

        state_is : j.state ≡ Copying (record c { copied = next + 1 }) (next + 1)
        state_is = ap (λ (x : Client). x.state) now ∙ ap (λ (x : Checkpointed). Copying x (next + 1)) is

        by_flag : (b : Bool) → is_dirty g (side_in c) ≡ b → Went means precheck s B p w a (Copying c next) gs y v true j hs y u
        by_flag true dirty = subst (λ (l : List RegionState). Went means precheck s B p w a (Copying c next) gs y v true j l y u) (sym (left ∙ ap (slice_set gs next) cleans))
            (copies means precheck s B p w a gs y v k j stood of c next fits runs_here g there u dirty (written dirty) longer reaches (ap (λ (x : Client). x.transcript) now) (ap rest_of now) state_is)
        by_flag false clean =
            let same = clear clean in
            subst (λ (l : List RegionState). Went means precheck s B p w a (Copying c next) gs y v true j l y u) (sym (left ∙ (ap (slice_set gs next) same.0 ∙ set_same gs next g there)))
            (subst (λ (x : Vaulted V). Went means precheck s B p w a (Copying c next) gs y v true j gs y x) (sym same.1)
            (skips means precheck s B p w a gs y v k j stood of c next fits runs_here g there clean (subst (λ (x : Vaulted V). Reaches means.told (side_in c) (next + 1) x) same.1 reaches) (ap (λ (x : Client). x.transcript) now) (ap rest_of now) state_is))

    -- ---- the store fails
    module _ (d : Checkpointed) (z : SystemState) (u : Vaulted V) (e : CheckpointError) (dirty : is_dirty g (side_in c) ≡ false → ⊥)
        (fault : v.stopped ≡ false → (e ≡ Fault) × (d ≡ record c { faulted = true }) × WriteHasFailed means v (image_name (side_in c)) (place_of next) (length (words_bytes g.back)) u)
        (stays : h ≡ g) (longer : IsNoShorter means.told v u) (ends : z ≡ given_up d.faulted y) where
      is_set : is_dirty g (side_in c) ≡ true
      is_set = by_flag (is_dirty g (side_in c)) refl
        where
          by_flag : (b : Bool) → is_dirty g (side_in c) ≡ b → is_dirty g (side_in c) ≡ true
          by_flag true is = is
          by_flag false is = absurd (dirty is)

      regions_are : hs ≡ gs
      regions_are = left ∙ (ap (slice_set gs next) stays ∙ set_same gs next g there)

      to_left : (ok : Bool) (f : Bool) → d.faulted ≡ f → StepGoes means precheck (Copying c next) k gs y v ok j gs (given_up f y) u → StepGoes means precheck (Copying c next) k gs y v ok j hs z u
      to_left ok f is goes = subst (λ (l : List RegionState). StepGoes means precheck (Copying c next) k gs y v ok j l z u) (sym regions_are)
          (subst (λ (m : SystemState). StepGoes means precheck (Copying c next) k gs y v ok j gs m u) (sym (ends ∙ ap (λ (b : Bool). given_up b y) is)) goes)

      pub copy_fails_goes : v.stopped ≡ false → SaysEnd k (Err e) j → StepGoes means precheck (Copying c next) k gs y v true j hs z u
      copy_fails_goes ran (line, given, f) =
          let failed = fault ran in
          let g1 : Finishes k Outside (IsRefused IsCheckpoint StoreStopped) j = subst (λ l. Finishes k Outside l j) (same_Some line (IsRefused IsCheckpoint StoreStopped) (sym given ∙ ap (λ (x : CheckpointError). line_in (Err x)) failed.0)) f in
          to_left true true (ap (λ (x : Checkpointed). x.faulted) failed.1) (λ s B p w a stood of fits.
          copy_fails means precheck s B p w a gs y v k j stood of c next fits ran g there u is_set failed.2 longer
          (finished_client k j Outside _ g1) (finished_lines k j Outside _ g1) (finished_rest k j Outside _ g1 ∙ behind_is k fits.making.more CheckpointAct fits.making.makes) g1.stands)

      copy_fails_silent_there : v.stopped ≡ false → Unsaid k (Err e) j → StepGoes means precheck (Copying c next) k gs y v false j hs z u
      copy_fails_silent_there ran (inl (none, is_same)) = let never : Some (IsRefused IsCheckpoint StoreStopped) ≡ None = ap (λ (x : CheckpointError). line_in (Err x)) (sym (fault ran).0) ∙ none in absurd (cc)
      copy_fails_silent_there ran (inr (line, given, f)) =
          let failed = fault ran in
          to_left false true (ap (λ (x : Checkpointed). x.faulted) failed.1) (λ s B p w a stood of fits.
          copy_fails_silent means precheck s B p w a gs y v k j stood of c next fits ran g there u is_set failed.2 longer f.transcript)

      pub copy_fails_silent_goes : (ok : Bool) → ok ≡ false → v.stopped ≡ false → Unsaid k (Err e) j → StepGoes means precheck (Copying c next) k gs y v ok j hs z u
      copy_fails_silent_goes ok err ran f = unsaid_goes means precheck (Copying c next) k j gs hs y z v u ok err (copy_fails_silent_there ran f)

  -- ---- the engine is stopped
  module _ (cause : Cause) (stop : y.stop ≡ Some cause) (z : SystemState) (ends : z ≡ given_up c.faulted y) where
    to_end : (ok : Bool) (s : Start) (B : List (List Record)) (p : Point) (w : World) (a : Standing) → c.faulted ≡ false → Went means precheck s B p w a (Copying c next) gs y v ok j gs (in_checkpoint y false) v → Went means precheck s B p w a (Copying c next) gs y v ok j gs z v
    to_end ok s B p w a sound went = subst (λ (m : SystemState). Went means precheck s B p w a (Copying c next) gs y v ok j gs m v) (sym (ends ∙ ap (λ (b : Bool). given_up b y) sound)) went

    pub stopped_goes : SaysEnd k (Err (Stopped cause)) j → StepGoes means precheck (Copying c next) k gs y v true j gs z v
    stopped_goes (line, given, f) s B p w a stood of fits =
        let g : Finishes k Outside (IsRefused IsCheckpoint (IsStopped cause)) j = subst (λ l. Finishes k Outside l j) (same_Some line (IsRefused IsCheckpoint (IsStopped cause)) (sym given)) f in
        to_end true s B p w a fits.sound
        (gives_up means precheck s B p w a (Copying c next) gs y v k j stood of tt (λ t none. none) [] fits.making (StoppedBy cause)
        (refusal_stop means precheck s B p w a (Copying c next) gs y v k j stood of tt (λ t none. none) [] fits.making cause stop (λ l. tt))
        (finished_client k j Outside _ g) (finished_lines k j Outside _ g) (finished_rest k j Outside _ g ∙ behind_is k fits.making.more CheckpointAct fits.making.makes) g.stands)

    stopped_silent_there : Unsaid k (Err (Stopped cause)) j → StepGoes means precheck (Copying c next) k gs y v false j gs z v
    stopped_silent_there (inl (none, is_same)) = let never : Some (IsRefused IsCheckpoint (IsStopped cause)) ≡ None = none in absurd (cc)
    stopped_silent_there (inr (line, given, f)) = λ s B p w a stood of fits.
        to_end false s B p w a fits.sound
        (given_up_silent means precheck s B p w a (Copying c next) gs y v k j stood of tt (λ t none. none) [] fits.making (StoppedBy cause)
        (refusal_stop means precheck s B p w a (Copying c next) gs y v k j stood of tt (λ t none. none) [] fits.making cause stop (λ l. tt)) f.transcript)

    pub stopped_silent_goes : (ok : Bool) → ok ≡ false → Unsaid k (Err (Stopped cause)) j → StepGoes means precheck (Copying c next) k gs y v ok j gs z v
    stopped_silent_goes ok err f = unsaid_goes means precheck (Copying c next) k j gs gs y z v v ok err (stopped_silent_there f)
