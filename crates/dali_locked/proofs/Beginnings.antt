-- Where a round begins, and where it ends.
use Rattle.std.proofs.Common.{◌≡◌, ℕ, List, [], Some, length, ap, sym, ◌∙◌}
use Rattle.std.specs.Prelude.{slice_get}
use Rattle.dali_record.specs.declared.records.Record.{Record}
use Rattle.dali_store.specs.declared.store.Store.{Ghosts}
use Rattle.dali_runs.specs.State.{SystemState, CoreState}
use Rattle.dali_crash.specs.Traces.{bases_of}
use Rattle.dali_core.specs.Vault.Vaulted.{Vaulted}
use Rattle.dali_concurrent.specs.Leads.{MayBegin}
use Rattle.dali_concurrent.proofs.Starts.{round_starts}
use Rattle.dali_concurrent.proofs.Leads.{outset_begins, round_is_led}
use Rattle.dali_locked.specs.Begun.{Begun, outset}
use Rattle.dali_locked.specs.Beginnings.{ValuesBegin, RoundEndsSo}

module _ {V : Type 0} (means : Ghosts V) where
  pub values_begin : (b : Begun) → ValuesBegin means b
  values_begin b gs y v with = record {
    led = λ s p at.
        let may = with.each s p at in record {
          led = record { begins = outset_begins means b.precheck gs y v s may.0 p may.1; all = λ i e here. absurd (cc) };
          count = sym may.1.stands.whole.regions ∙ (ap length may.1.stands.at.regions ∙ sym with.count);
        };
    system = λ s p at. sym (with.each s p at).1.stands.at.system;
    regions = λ r g here s p at.
        let may = with.each s p at in
        (round_starts (bases_of s) p (outset b s p) (outset_begins means b.precheck gs y v s may.0 p may.1)).regions r g (ap (λ l. slice_get l r) may.1.stands.at.regions ∙ here);
  }

  pub round_ends_so : (b : Begun) → RoundEndsSo means b
  round_ends_so b whole gs y v H notes hs z u ss givens with finished all ends =
      round_is_led means b.precheck whole gs y v H notes hs z u ss givens finished (λ i e here s B p may. all i e here s p (with.all s B p may)) (λ s B p may. ends s p (with.all s B p may))
