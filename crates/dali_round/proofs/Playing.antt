-- A round goes on from wherever it began.
use Rattle.std.proofs.Common.{◌≡◌, ℕ, ◌<◌, Bool, true, false, List, length, Option, get_or, refl, ap, sym, subst, ◌∙◌, inl, inr}
use Rattle.std.specs.Prelude.{slice_set}
use Rattle.std.proofs.lemmas.Option.{slice_get-get_or}
use Rattle.dali_lists.proofs.Lists.{set_same}
use Rattle.dali_region.specs.State.{RegionState}
use Rattle.dali_store.specs.Store.{Files as Disk}
use Rattle.dali_store.specs.declared.store.Store.{Ghosts}
use Rattle.dali_runs.specs.State.{SystemState}
use Rattle.dali_core.specs.Vault.Vaulted.{Vaulted}
use Rattle.dali_turns.specs.declared.client.Client.{Client}
use Rattle.dali_turns.specs.Turns.{TurnGoes}
use Rattle.dali_round.specs.Played.{Played, MoveGoes, PlayGoes}
use Rattle.dali_round.proofs.Seats.{turn_played, turn_halts}
use Rattle.dali_round.proofs.Halts.{may_halt}

module _ {V : Type 0} (means : Ghosts V) (precheck : Bool) where
  pub goes_on : (ks js ls : List Client) (gs hs is : List RegionState) (y z x : SystemState) (v u t : Vaulted V) (ok : Bool) → PlayGoes means precheck ks gs y v true js hs z u → PlayGoes means precheck js hs z u ok ls is x t
      → PlayGoes means precheck ks gs y v ok ls is x t
  goes_on ks js ls gs hs is y z x v u t ok one two s p bs f = two s p bs (one s p bs f)

  -- by a step of the client at this place, or by none
  pub goes_one : (ks : List Client) (i : ℕ) (d j : Client) (gs hs : List RegionState) (y z : SystemState) (v u : Vaulted V) → i < length ks → MoveGoes means precheck (get_or ks i d) gs y v true j hs z u
      → PlayGoes means precheck ks gs y v true (slice_set ks i j) hs z u
  goes_one ks i d j gs hs y z v u less (inl goes) s p bs f = turn_played means precheck s p bs ks gs y v f i (get_or ks i d) (slice_get-get_or ks i d less) j hs z u goes
  goes_one ks i d j gs hs y z v u less (inr same) s p bs f =
      subst (λ (rs : List RegionState). Played means true precheck s p bs (slice_set ks i j) rs z u) (sym same.1)
      (subst (λ (m : SystemState). Played means true precheck s p bs (slice_set ks i j) gs m u) (sym same.2)
      (subst (λ (t : Vaulted V). Played means true precheck s p bs (slice_set ks i j) gs y t) (sym same.3)
      (subst (λ (ls : List Client). Played means true precheck s p bs ls gs y v) (sym (ap (slice_set ks i) same.0 ∙ set_same ks i (get_or ks i d) (slice_get-get_or ks i d less))) f)))

  -- or memory was wanted in it
  pub halts_one : (ks : List Client) (i : ℕ) (d j : Client) (gs hs : List RegionState) (y z : SystemState) (v u : Vaulted V) → i < length ks → MoveGoes means precheck (get_or ks i d) gs y v false j hs z u
      → PlayGoes means precheck ks gs y v false (slice_set ks i j) hs z u
  halts_one ks i d j gs hs y z v u less goes s p bs f = turn_halts means precheck s p bs ks gs y v f i (get_or ks i d) (slice_get-get_or ks i d less) goes.0 j hs z u goes.1 goes.2

  pub goes_cut : (ks js : List Client) (gs hs : List RegionState) (y z : SystemState) (v u : Vaulted V) → PlayGoes means precheck ks gs y v true js hs z u → PlayGoes means precheck ks gs y v false js hs z u
  goes_cut ks js gs hs y z v u goes s p bs f = may_halt means precheck s p bs js hs z u (goes s p bs f)

  -- whether it goes on or was cut, it may be cut here
  pub goes_either : (ks js : List Client) (gs hs : List RegionState) (y z : SystemState) (v u : Vaulted V) (ok : Bool) → PlayGoes means precheck ks gs y v ok js hs z u → PlayGoes means precheck ks gs y v false js hs z u
  goes_either ks js gs hs y z v u true goes = goes_cut ks js gs hs y z v u goes
  goes_either ks js gs hs y z v u false goes = goes

  pub goes_as : (ks js : List Client) (gs hs : List RegionState) (y z : SystemState) (v u : Vaulted V) (ok is : Bool) → is ≡ ok → PlayGoes means precheck ks gs y v ok js hs z u → PlayGoes means precheck ks gs y v is js hs z u
  goes_as ks js gs hs y z v u ok is e goes = subst (λ (b : Bool). PlayGoes means precheck ks gs y v b js hs z u) (sym e) goes

  -- ---- one move, by its calls
  pub not_due : (k : Client) (gs : List RegionState) (y : SystemState) (v : Vaulted V) → MoveGoes means precheck k gs y v true k gs y v
  not_due k gs y v = inr (refl, refl, refl, refl)

  pub moves : (k j : Client) (gs hs : List RegionState) (y z : SystemState) (v u : Vaulted V) → TurnGoes means precheck k gs y v true j hs z u → MoveGoes means precheck k gs y v true j hs z u
  moves k j gs hs y z v u goes = inl goes
