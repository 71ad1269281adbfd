-- What each value keeps where a round begins.
use Rattle.std.proofs.Common.{[], refl, subst, ap, sym, ◌∙◌}
use Rattle.std.specs.Prelude.{slice_get}
use Rattle.dali_runs.specs.State.{CoreState, hold_in}
use Rattle.dali_store.specs.declared.store.Store.{Ghosts}
use Rattle.dali_core.specs.Steps.At.{IsAt}
use Rattle.dali_concurrent.specs.Rules.{dead_in}
use Rattle.dali_concurrent.specs.Starts.{RoundStarts, VaultStarts}
use Rattle.dali_concurrent.proofs.Holds.{none_live}

pub round_starts : RoundStarts
round_starts bases p o begins = record {
  system = refl;
  regions = λ r g at. record {
    is = at;
    hold = record {
      live = none_live g.hold (λ live. begins.between.rests.holds r g (ap (λ (c : CoreState). slice_get c.regions r) begins.core ∙ at) live);
      dead = ap (λ z. dead_in (hold_in z)) (sym at);
    };
  };
  clients = λ c acts. record {
    stands = record { moves = []; path = refl; lines_are = refl; did_are = refl };
    holds = λ r t h. absurd (cc);
    spans = λ h. absurd (cc);
    opened = λ t h. absurd (cc);
    claims = λ t h. absurd (cc);
  };
}

pub vault_starts : {V : Type 0} (means : Ghosts V) → VaultStarts means
vault_starts means s B p o v at = record { at = λ q there. subst (λ r. IsAt means s B r v) there.way at; image = λ runs q there. tt }
