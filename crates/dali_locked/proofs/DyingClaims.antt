-- What a client knows behind its claim: that no region has a live hold of the transaction, and none has any where its row names none.
use Rattle.std.proofs.Common.{◌≡◌, ℕ, ◌<◌, List, [], ◌∷◌, ◌++◌, Option, Some, None, ap, sym, ◌∙◌}
use Rattle.std.proofs.lemmas.List.Sums.{fold-append}
use Rattle.dali_att.specs.declared.state.State.TheVariants.{Dead, Cleaning as Claimed}
use Rattle.dali_runs.specs.State.{SystemState, state_of}
use Rattle.dali_runs.specs.Steps.{in_state}
use Rattle.dali_runs.specs.Regions.{is_alive}
use Rattle.dali_runs.specs.Wholes.{latched_in}
use Rattle.dali_runs.specs.Run.{Bases}
use Rattle.dali_runs.specs.Courses.{Claims}
use Rattle.dali_crash.specs.Checkpoints.{Does, Point}
use Rattle.dali_transcripts.specs.World.{Claims as ClaimsTxn}
use Rattle.dali_concurrent.specs.Entries.{live_by, live_step}
use Rattle.dali_concurrent.specs.Rules.{Outset, count_of, dead_by}
use Rattle.dali_concurrent.specs.Told.{Line, History, plain, plain_one, core_told}
use Rattle.dali_concurrent.specs.Holds.{IsLed}
use Rattle.dali_concurrent.proofs.Told.{plain-append}
use Rattle.dali_concurrent.proofs.Holds.{none_is_live, states_are_told, dead_is_named}
use Rattle.dali_locked.specs.SystemSteps.{MayGiveBack}
use Rattle.dali_locked.specs.Dying.{IsIdle}
use Rattle.dali_locked.proofs.SystemTelling.{InHand}
use Rattle.dali_locked.proofs.SystemMore.{row, claim_cleans}

module _ (bases : Bases) (p : Point) (o : Outset) (n c : ℕ) (seen : History) (y : SystemState) (now : History) (hand : InHand bases p o n c seen y now) (t : ℕ) (latched : Option ℕ)
    (dead_now : state_of y t ≡ Some (Dead latched)) where
  abbrev line : Line
  line = row n c (ClaimsTxn t) (in_state y t (Claimed latched)) (Does (Claims t))

  pub claim_idle : IsIdle t o (now ++ line ∷ [])
  claim_idle r d live =
      let told : state_of (core_told o now).system t ≡ Some (Dead latched) = ap (λ (z : SystemState). state_of z t) (sym hand.is) ∙ dead_now in
      let same : live_by r (plain (now ++ line ∷ [])) ≡ live_by r (plain now) = ap (live_by r) (plain-append now (line ∷ [])) ∙ fold-append (live_step r) None (plain now) (plain_one line ∷ []) in
      none_is_live bases p o now t hand.led (ap is_alive told) r d (sym same ∙ live)

  pub claim_clear : IsLed bases p o (now ++ line ∷ []) → latched ≡ None → MayGiveBack c t o (now ++ line ∷ [])
  claim_clear behind none =
      let cleans = claim_cleans bases p o n c seen y now hand t latched dead_now in
      record {
        latched = latched;
        cleans = cleans;
        none_live = claim_idle;
        none_dead = λ r low held.
            clash r (sym none ∙ (sym (ap latched_in (states_are_told bases p o (now ++ line ∷ []) t behind ∙ cleans.state)) ∙ dead_is_named bases p o (now ++ line ∷ []) r t behind low held));
      }
    where
      clash : (r : ℕ) → None ≡ Some r → ⊥
      clash r e = cc
