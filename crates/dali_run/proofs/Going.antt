-- Rounds one behind another, and a crash behind them.
use Rattle.std.proofs.Common.{[], ◌∷◌, ◌++◌, Option, Some, None, refl, sym, subst}
use Rattle.std.specs.Prelude.{IfSome}
use Rattle.dali_store.specs.Store.{Files as Disk}
use Rattle.dali_store.specs.declared.store.Store.{Ghosts}
use Rattle.dali_runs.specs.State.{SystemState}
use Rattle.dali_crash.specs.Disks.Disks.{AllSpell}
use Rattle.dali_crash.specs.Disks.Bridges.{TracedTo}
use Rattle.dali_core.specs.Vault.Vaulted.{Vaulted}
use Rattle.dali_resume.specs.Interrupted.Found.{FindsIt}
use Rattle.dali_resume.proofs.InterruptedLemmas.Found.{crash_is_found}
use Rattle.dali_resume.proofs.InterruptedLemmas.Places.{start_has_place}
use Rattle.dali_restart.specs.Headline.{EachRestart, AnswersRight}
use Rattle.dali_restart.proofs.Headline.{crash_restarts_right}
use Rattle.dali_checkpoint.proofs.Calls.{course_join}
use Rattle.dali_round.specs.Leads.{BeginsAt}
use Rattle.dali_run.specs.Chain.{RoundBegins, RoundsBegin, CrashRestarts}

module _ {V : Type 0} (g : Ghosts V) where
  pub round_begins : RoundBegins g
  round_begins precheck s p blocks lines receipts hs z u led = record { stands = led.stands; files = led.files; keeps = led.keeps; between = led.round.between refl }

  pub rounds_begin : RoundsBegin g
  rounds_begin s B p gs hs y z v u [] begins rows =
      record {
        to = p;
        batches = B;
        steps = [];
        course = refl;
        begins =
            subst (λ l. BeginsAt g s B p l z u) (sym rows.0)
            (subst (λ (m : SystemState). BeginsAt g s B p gs m u) (sym rows.1) (subst (λ (w : Vaulted V). BeginsAt g s B p gs y w) (sym rows.2) begins));
      }
  rounds_begin s B p gs hs y z v u (r ∷ rs) begins rows =
      let led = rows.0 s B p begins in
      let more = rounds_begin s led.batches led.to r.regions hs r.system z r.vault u rs (round_begins r.precheck s p _ _ _ r.regions r.system r.vault led) rows.1 in
      record { to = more.to; batches = more.batches; steps = led.steps ++ more.steps; course = course_join p led.to more.to led.steps more.steps led.course more.course; begins = more.begins }

  pub crash_restarts : CrashRestarts g
  crash_restarts s B p gs y v stands placed none = by_told (g.told v.store) stands.at.vault.files
    where
      by_told : (o : Option Disk) → IfSome o (λ _. AllSpell (g.may_leave v.store) (TracedTo s B p)) → IfSome o (λ _. AllSpell (g.may_leave v.store) (λ F. FindsIt F × EachRestart F (AnswersRight s.log p.core F)))
      by_told None all = tt
      by_told (Some fs) all = λ c may.
          let one = all c may in
          let t = one.2 in
          (one.0, one.1, ((crash_is_found s t.first t.starts (start_has_place s t.first t.starts placed) t.steps p one.0 t.trace none).0, (crash_restarts_right s t.first t.starts placed t.steps p one.0 t.trace none).behind))
