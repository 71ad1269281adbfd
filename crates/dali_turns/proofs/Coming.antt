-- What the calls of dali_transactions make of a transaction of the client's own.
use Rattle.std.proofs.Common.{◌≡◌, ℕ, Bool, List, [], ◌∷◌, ◌++◌, Option, Some, None, refl, ◌∙◌}
use Rattle.std.proofs.lemmas.List.{append-nil}
use Rattle.dali_record.specs.declared.records.Record.{Record}
use Rattle.dali_record.specs.declared.records.Record.TheVariants.{Ended}
use Rattle.dali_region.specs.State.{RegionState}
use Rattle.dali_att.specs.declared.state.State.TheVariants.{Live}
use Rattle.dali_store.specs.Store.{Files as Disk}
use Rattle.dali_store.specs.declared.store.Store.{Ghosts}
use Rattle.dali_runs.specs.State.{SystemState, row_of, state_of}
use Rattle.dali_crash.specs.Checkpoints.{Point}
use Rattle.dali_crash.specs.Traces.{Start}
use Rattle.dali_core.specs.Vault.Vaulted.{Vaulted}
use Rattle.dali_calls.specs.Single.Ending.{IsBackOf}
use Rattle.dali_clean.specs.Others.{OthersStay}
use Rattle.dali_transactions.specs.Ended.{HasCome}
use Rattle.dali_transactions.proofs.BesideLemmas.Committing.{backs_go}
use Rattle.dali_transcripts.specs.World.{World}
use Rattle.dali_turns.specs.declared.client.State.{State}
use Rattle.dali_turns.specs.Stood.{Stood}
use Rattle.dali_turns.specs.Fits.{Owns}
use Rattle.dali_turns.proofs.Closing.{GoesBack, GoesAway, goes_back, goes_away}

module _ {V : Type 0} (means : Ghosts V)
    (precheck : Bool) (s : Start) (B : List (List Record)) (p : Point) (w : World) (gs : List RegionState) (y : SystemState) (v : Vaulted V) (stood : Stood means s B p w precheck gs y v)
    (c : ℕ) (state : State) (t : ℕ) (lives : state_of y t ≡ Some Live) (owns : (u : ℕ) → t ≡ u → Owns state u) (hs : List RegionState) (z : SystemState) (others : OthersStay gs y t hs z) where
  pub away_of : HasCome means t (IsBackOf t) (Ended t ∷ []) s B p v hs z → row_of z t ≡ None → (to : Point) × GoesAway means precheck s B p w gs y v c state t to hs z
  away_of e gone =
      let all = backs_go means (Ended t ∷ []) s B p gs hs y z v t stood.stands e (refl, tt) others in
      (all.0.to, goes_away means precheck s B p w gs y v stood c state t lives owns (e.records ++ Ended t ∷ []) hs z all.0 others e.front e.by e.records e.are (all.2 ∙ e.is) refl gone)

  pub back_of : HasCome means t (IsBackOf t) [] s B p v hs z → state_of z t ≡ Some Live → (to : Point) × GoesBack means precheck s B p w gs y v c state t to hs z
  back_of e still =
      let all = backs_go means [] s B p gs hs y z v t stood.stands e tt others in
      (all.0.to, goes_back means precheck s B p w gs y v stood c state t lives owns (e.records ++ []) hs z all.0 others e.front e.by e.records e.are (all.2 ∙ (e.is ∙ append-nil e.front)) (append-nil e.records) still)
