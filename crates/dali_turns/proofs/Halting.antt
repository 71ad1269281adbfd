-- A client makes no step more: a commit of its own that is logged is flushed, or fails; all else may be cut where it stands.
use Rattle.std.proofs.Common.{◌≡◌, ℕ, ◌+◌, ◌≤◌, ◌<◌, ◌^◌, Bool, true, false, List, [], ◌++◌, length, Option, refl, ap, sym, subst, ◌∙◌, inr}
use Rattle.std.proofs.lemmas.List.{append-nil}
use Rattle.std.proofs.lemmas.List.Elements.{filter_map-append}
use Rattle.dali_record.specs.declared.operations.Pending.{Pending}
use Rattle.dali_record.specs.declared.records.Record.{Record}
use Rattle.dali_region.specs.State.{RegionState}
use Rattle.dali_store.specs.Store.{Files as Disk}
use Rattle.dali_store.specs.declared.store.Store.{Ghosts}
use Rattle.dali_runs.specs.State.{SystemState}
use Rattle.dali_runs.specs.Steps.{store_stopped, taken}
use Rattle.dali_crash.specs.Checkpoints.{Point}
use Rattle.dali_crash.specs.Traces.{Start}
use Rattle.dali_core.specs.Vault.Vaulted.{Vaulted}
use Rattle.dali_core.proofs.StepsLemmas.Steps.{places_are_small}
use Rattle.dali_core.specs.Cores.{IsWholeCore, IsNoShorter}
use Rattle.dali_core.specs.Flushed.{FlushesAll, FlushFails}
use Rattle.dali_transcripts.specs.World.{Deed, World, log_of}
use Rattle.dali_transcripts.specs.Moves.{Move, from, own, said}
use Rattle.dali_transcripts.specs.Causes.{HasCause}
use Rattle.dali_transcripts.specs.Laws.{receipts_from}
use Rattle.dali_transcripts.specs.Transcripts.{IsUnderWay, deeds_of, number_in, numbers_of}
use Rattle.dali_transcripts.specs.Rounds.{Standing}
use Rattle.dali_transcripts.proofs.Rounds.{deeds_are_done}
use Rattle.dali_transcripts.specs.Telling.Tells.{after}
use Rattle.dali_turns.specs.declared.client.Client.{Client}
use Rattle.dali_turns.specs.declared.client.State.{State}
use Rattle.dali_turns.specs.declared.client.State.TheVariants.{Committing, Gone}
use Rattle.dali_turns.specs.declared.client.Transaction.{Transaction}
use Rattle.dali_turns.specs.Stood.{Stood}
use Rattle.dali_turns.specs.Commits.{FitsCommitting, awaits_flush}
use Rattle.dali_turns.specs.Fits.{rest_of, Speaks, Fits}
use Rattle.dali_turns.specs.Places.{ReachesNext, PlacesGo}
use Rattle.dali_turns.specs.Turns.{Halted, HaltGoes}
use Rattle.dali_turns.proofs.Placed.{places_kept}
use Rattle.dali_turns.proofs.Unfinished.{under_way_on}
use Rattle.dali_turns.proofs.Cutting.{fits_under_way}
use Rattle.dali_turns.proofs.Doing.{Did, behind, did_nothing, went_to}
use Rattle.dali_turns.proofs.Turning.{deeds_grown}
use Rattle.dali_turns.proofs.Awaiting.{not_before, stable_is, in_commit, flushed_did, commits, own_commits, commits_cause, lost_did, fault, own_fault, fault_cause, met_did, finds, own_finds, finds_cause}

module _ {V : Type 0} (means : Ghosts V) where
  module _ (precheck : Bool) (st : State) (s : Start) (B : List (List Record)) (p : Point) (w : World) (a : Standing) (k : Client) (gs : List RegionState) (y : SystemState) (v : Vaulted V)
      (stood : Stood means s B p w precheck gs y v) (is : Speaks w a k) where
    halted_by : (ds : List Deed) (C : List (List Record)) (q : Point) (hs : List RegionState) (z : SystemState) (u : Vaulted V) → Did means precheck s B p w a.client st gs y v ds C q hs z u
        → IsUnderWay (after w a.client ds q.core) a.client a.spot (a.pending ++ receipts_from (length (log_of w)) ds) [] → numbers_of (receipts_from (length (log_of w)) ds) ≡ []
        → Halted means precheck st s B p w a k gs y v hs z u
    unfolding went_to
    halted_by ds C q hs z u did under none = record {
      went =
          went_to means precheck s B C p q w a (behind a w ds) st gs hs y z v u ds false k did refl refl
          (record { client = is.client; lines = is.lines; stands = deeds_are_done w (after w a.client ds q.core) a.client a.acts a.lines a.pending a.spot ds did.goes.grows did.goes.more is.stands }) under (λ e. absurd (cc));
      numbers =
          ap (λ c. numbers_of (deeds_of (after w a.client ds q.core) c)) (sym is.client)
          ∙ (ap numbers_of (deeds_grown w (after w a.client ds q.core) a.client ds did.goes.grows did.goes.more)
          ∙ (filter_map-append number_in (deeds_of w a.client) (receipts_from (length (log_of w)) ds)
          ∙ (ap (λ l. numbers_of (deeds_of w a.client) ++ l) none ∙ (append-nil (numbers_of (deeds_of w a.client)) ∙ ap (λ c. numbers_of (deeds_of w c)) is.client))));
    }

    -- the step under way is done, and its lines lack
    halted_with : (ds : List Deed) (C : List (List Record)) (q : Point) (hs : List RegionState) (z : SystemState) (u : Vaulted V) → Did means precheck s B p w a.client st gs y v ds C q hs z u
        → (m : Move) → a.spot ≡ from m → a.pending ++ receipts_from (length (log_of w)) ds ≡ own m → HasCause (after w a.client ds q.core) a.client m → numbers_of (receipts_from (length (log_of w)) ds) ≡ []
        → Halted means precheck st s B p w a k gs y v hs z u
    halted_with ds C q hs z u did m starts own_is cause none = halted_by ds C q hs z u did (inr (record { move = m; starts = starts; own_is = own_is; cause = cause; lacking = said m; said_is = refl })) none

    halted_still : Fits means s B p w gs y v a (rest_of k) k.state → awaits_flush k.state y v ≡ false → Halted means precheck st s B p w a k gs y v gs y v
    halted_still fits none =
        let did = did_nothing means precheck s B p w gs y v stood a.client st in
        let under = fits_under_way means s B p w gs y v a (rest_of k) k.state fits (stable_is means precheck s B p w a gs y v st stood) none in
        halted_by [] B p gs y v did
        (subst (λ xs. IsUnderWay (after w a.client [] p.core) a.client a.spot xs []) (sym (append-nil a.pending)) (under_way_on w (after w a.client [] p.core) did.goes.grows a.client a.spot a.pending [] under)) refl

    module _ (x : Transaction) (number : ℕ) (us : List Pending) (next : ℕ) (fits : FitsCommitting p w a (rest_of k) x number us next) where
      halted_flushed : (z : SystemState) (u : Vaulted V) → z ≡ taken y → u.stopped ≡ false → (IsWholeCore means.told gs y v → IsWholeCore means.told gs z u) → FlushesAll means gs y v z u
          → Halted means precheck st s B p w a k gs y v gs z u
      halted_flushed z u z_is ran whole flushes =
          let f = flushes s B p stood.stands.at in
          halted_with [] f.batches f.to gs z u (flushed_did means precheck s B p w a gs y v st stood x number us next (rest_of k) fits z u z_is ran whole f)
          (commits means precheck s B p w a gs y v st stood x number us next (rest_of k) fits z u z_is ran whole f)
          (in_commit means precheck s B p w a gs y v st stood x number us next (rest_of k) fits)
          (own_commits means precheck s B p w a gs y v st stood x number us next (rest_of k) fits z u z_is ran whole f)
          (commits_cause means precheck s B p w a gs y v st stood x number us next (rest_of k) fits z u z_is ran whole f) refl

      module _ (unflushed : y.first + v.flushed ≤ number) where
        halted_lost : (z : SystemState) (u : Vaulted V) → z ≡ store_stopped (taken y) → u.stopped ≡ true → u.flushed ≡ v.flushed → (IsWholeCore means.told gs y v → IsWholeCore means.told gs z u) → FlushFails means gs y v z u
            → Halted means precheck st s B p w a k gs y v gs z u
        halted_lost z u z_is stopped same whole fails =
            let f = fails s B p stood.stands.at in
            halted_with _ B f.to gs z u (lost_did means precheck s B p w a gs y v st stood x number us next (rest_of k) fits unflushed z u z_is stopped same whole f)
            (fault means precheck s B p w a gs y v st stood x number us next (rest_of k) fits unflushed z u z_is stopped same whole f)
            (in_commit means precheck s B p w a gs y v st stood x number us next (rest_of k) fits)
            (own_fault means precheck s B p w a gs y v st stood x number us next (rest_of k) fits unflushed z u z_is stopped same whole f)
            (fault_cause means precheck s B p w a gs y v st stood x number us next (rest_of k) fits unflushed z u z_is stopped same whole f) refl

        halted_found : v.stopped ≡ true → Halted means precheck st s B p w a k gs y v gs y v
        halted_found had =
            halted_with _ B p gs y v (met_did means precheck s B p w a gs y v st stood x number us next (rest_of k) fits unflushed had)
            (finds means precheck s B p w a gs y v st stood x number us next (rest_of k) fits unflushed had)
            (in_commit means precheck s B p w a gs y v st stood x number us next (rest_of k) fits)
            (own_finds means precheck s B p w a gs y v st stood x number us next (rest_of k) fits unflushed had)
            (finds_cause means precheck s B p w a gs y v st stood x number us next (rest_of k) fits unflushed had) refl

  -- ---- the exits
  abbrev HaltsFrom : Client → List RegionState → SystemState → Vaulted V → List RegionState → SystemState → Vaulted V → State → Type 0
  HaltsFrom k gs y v hs z u state =
      (precheck : Bool) (st : State) (s : Start) (B : List (List Record)) (p : Point) (w : World) (a : Standing)
      → Stood means s B p w precheck gs y v → Speaks w a k → Fits means s B p w gs y v a (rest_of k) state
      → Halted means precheck st s B p w a k gs y v hs z u

  module _ (k : Client) (gs : List RegionState) (y : SystemState) (v : Vaulted V) where
    pub halt_still : (b : Bool) → b ≡ awaits_flush k.state y v → b ≡ false → HaltGoes means k gs y v gs y v
    halt_still b is none precheck st s B p w a stood of fits = halted_still precheck st s B p w a k gs y v stood of fits (sym is ∙ none)

    -- no run comes there
    pub halt_never : (hs : List RegionState) (z : SystemState) (u : Vaulted V) → ((v.end < 2 ^ 62) × (v.current < 2 ^ 62) → ⊥) → HaltGoes means k gs y v hs z u
    halt_never hs z u never precheck st s B p w a stood of fits = absurd (never (places_are_small means s B p v stood.stands.at.vault))

    -- a state that waits for a flush is one in a commit
    flushed_from : (state : State) → awaits_flush state y v ≡ true → (z : SystemState) (u : Vaulted V) → z ≡ taken y → u.stopped ≡ false → (IsWholeCore means.told gs y v → IsWholeCore means.told gs z u) → FlushesAll means gs y v z u
        → HaltsFrom k gs y v gs z u state
    flushed_from (Committing x number us next) e = λ z u z_is ran whole flushes precheck st s B p w a stood of fits. halted_flushed precheck st s B p w a k gs y v stood of x number us.items next fits z u z_is ran whole flushes
    flushed_from state e = absurd (cc)

    lost_from : (state : State) → awaits_flush state y v ≡ true → (z : SystemState) (u : Vaulted V) → z ≡ store_stopped (taken y) → u.stopped ≡ true → u.flushed ≡ v.flushed → (IsWholeCore means.told gs y v → IsWholeCore means.told gs z u)
        → FlushFails means gs y v z u → HaltsFrom k gs y v gs z u state
    lost_from (Committing x number us next) e = λ z u z_is stopped same whole fails precheck st s B p w a stood of fits.
        halted_lost precheck st s B p w a k gs y v stood of x number us.items next fits (not_before number (y.first + v.flushed) e) z u z_is stopped same whole fails
    lost_from state e = absurd (cc)

    found_from : (state : State) → awaits_flush state y v ≡ true → v.stopped ≡ true → HaltsFrom k gs y v gs y v state
    found_from (Committing x number us next) e = λ had precheck st s B p w a stood of fits. halted_found precheck st s B p w a k gs y v stood of x number us.items next fits (not_before number (y.first + v.flushed) e) had
    found_from state e = absurd (cc)

    reaches_from : (state : State) → awaits_flush state y v ≡ true → (u : Vaulted V) → ReachesNext means.told state u
    reaches_from (Committing x number us next) e = λ u. tt
    reaches_from state e = absurd (cc)

    module _ (b : Bool) (is : b ≡ awaits_flush k.state y v) (awaits : b ≡ true) where
      pub halt_flushed : (hs : List RegionState) (z : SystemState) (u : Vaulted V) → hs ≡ gs → z ≡ taken y → u.stopped ≡ false → (IsWholeCore means.told gs y v → IsWholeCore means.told hs z u) → FlushesAll means gs y v z u
          → HaltGoes means k gs y v hs z u
      halt_flushed hs z u regions z_is ran whole flushes = subst (λ (rs : List RegionState). HaltGoes means k gs y v rs z u) (sym regions)
          (flushed_from k.state (sym is ∙ awaits) z u z_is ran (λ h. subst (λ (rs : List RegionState). IsWholeCore means.told rs z u) regions (whole h)) flushes)

      pub halt_lost : (hs : List RegionState) (z : SystemState) (u : Vaulted V) → hs ≡ gs → z ≡ store_stopped (taken y) → u.stopped ≡ true → u.flushed ≡ v.flushed → (IsWholeCore means.told gs y v → IsWholeCore means.told hs z u)
          → FlushFails means gs y v z u → HaltGoes means k gs y v hs z u
      halt_lost hs z u regions z_is stopped same whole fails = subst (λ (rs : List RegionState). HaltGoes means k gs y v rs z u) (sym regions)
          (lost_from k.state (sym is ∙ awaits) z u z_is stopped same (λ h. subst (λ (rs : List RegionState). IsWholeCore means.told rs z u) regions (whole h)) fails)

      pub halt_found : v.stopped ≡ true → (hs : List RegionState) (z : SystemState) (u : Vaulted V) → hs ≡ gs → z ≡ y → u ≡ v → HaltGoes means k gs y v hs z u
      halt_found had hs z u regions system vault =
          subst (λ (rs : List RegionState). HaltGoes means k gs y v rs z u) (sym regions)
          (subst (λ (m : SystemState). HaltGoes means k gs y v gs m u) (sym system)
          (subst (λ (t : Vaulted V). HaltGoes means k gs y v gs y t) (sym vault) (found_from k.state (sym is ∙ awaits) had)))

      -- it makes no checkpoint
      pub halt_reaches : (hs : List RegionState) (u : Vaulted V) → hs ≡ gs → IsNoShorter means.told v u → PlacesGo means.told k.state gs v k.state hs u
      halt_reaches hs u same longer = places_kept means.told k.state k.state gs hs v u same longer (reaches_from k.state (sym is ∙ awaits) u)

-- nor is it gone
pub gone_awaits : {V P : Type 0} (st : State) (y : SystemState) (v : Vaulted V) (b : Bool) → b ≡ awaits_flush st y v → b ≡ true → st ≡ Gone → P
gone_awaits st y v b is awaits gone = let none : awaits_flush st y v ≡ false = ap (λ s. awaits_flush s y v) gone in let no : true ≡ false = sym awaits ∙ (is ∙ none) in absurd (cc)
