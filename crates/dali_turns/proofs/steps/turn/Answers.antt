use Rattle.std.proofs.Common.{◌≡◌, ◌≤◌, ◌∙◌, true, false, is_ok, refl, sym, arith, ap}
use Rattle.dali_turns.proofs.Turning.{looks_put, never_shrinks, turned, halted}
use Rattle.dali_turns.proofs.Putting.{same_transcript, turn_put}
use Rattle.dali_turns.proofs.Placed.{places_both}
use Rattle.dali_turns.proofs.Moments.{turn_leaves}
use Rattle.dali_turns.proofs.CommitMoments.{halted_leaves}
use Rattle.dali_transcripts.specs.Clients.Said.{Transcribed}
use Rattle.dali_turns.proofs.AtOnce.{refuses_alike, refuses_none}
use Rattle.dali_turns.proofs.steps.turn.Goals as goal

pub returns-in-Ok-clause-goes : goal.returns-in-Ok-clause-goes
returns-in-Ok-clause-goes g c =
    let longer : c.records-first.result ≤ c.records-behind.result = grind (arith, c.if-behind-first.false) in
    turned g.V.Store c.args.setting.now.precheck c.args.client.now c.step-stepped.new.client c.replace_receipts-receipts.new.self c.replace_receipts.new.self c.log.new.self c.new.result.items c.replace_receipts-receipts.result.items c.args.core.now.regions.items c.step-stepped.new.core.regions.items c.args.core.now.system.state c.step-stepped.new.core.system.state c.args.core.now.vault c.step-stepped.new.core.vault (is_ok c.step-stepped.result)
    (is_ok c.step-stepped.result) c.records-first.result c.records-behind.result c.records-behind.result c.replace_receipts-receipts.ensures.put c.replace_receipts-receipts.ensures.taken c.step-stepped.ensures.step.goes c.replace_receipts.ensures.put c.records-first.ensures c.records-behind.ensures c.in-Ok.ensures.ok longer (omega arith) refl (λ e. refl)

pub returns-in-Err-stepped-clause-goes : goal.returns-in-Err-stepped-clause-goes
returns-in-Err-stepped-clause-goes g c =
    let noted = c.in-Err.ensures.err in
    let failed : is_ok c.step-stepped.result ≡ false = ap is_ok c.in-Err-stepped.is in
    turned g.V.Store c.args.setting.now.precheck c.args.client.now c.step-stepped.new.client c.replace_receipts-receipts.new.self c.replace_receipts.new.self c.log.new.self c.new.result.items c.replace_receipts-receipts.result.items c.args.core.now.regions.items c.step-stepped.new.core.regions.items c.args.core.now.system.state c.step-stepped.new.core.system.state c.args.core.now.vault c.step-stepped.new.core.vault (is_ok c.step-stepped.result) false c.records-first.result c.records-behind.result noted.0 c.replace_receipts-receipts.ensures.put c.replace_receipts-receipts.ensures.taken c.step-stepped.ensures.step.goes c.replace_receipts.ensures.put c.records-first.ensures c.records-behind.ensures noted.3 noted.1 noted.2
    (sym failed) (λ e. let never : false ≡ true = sym failed ∙ e in absurd (cc))

pub returns-in-Ok-stepped-clause-goes : goal.returns-in-Ok-stepped-clause-goes
returns-in-Ok-stepped-clause-goes g c =
    let noted = c.in-Err.ensures.err in
    halted g.V.Store c.args.setting.now.precheck c.args.client.now c.step-stepped.new.client c.replace_receipts-receipts.new.self c.replace_receipts.new.self c.log.new.self c.new.result.items c.replace_receipts-receipts.result.items c.args.core.now.regions.items c.step-stepped.new.core.regions.items c.halt.new.core.regions.items c.args.core.now.system.state c.step-stepped.new.core.system.state c.halt.new.core.system.state c.args.core.now.vault c.step-stepped.new.core.vault c.halt.new.core.vault
    (is_ok c.step-stepped.result) false c.records-first.result c.records-behind.result noted.0 c.replace_receipts-receipts.ensures.put c.replace_receipts-receipts.ensures.taken c.step-stepped.ensures.step.goes c.replace_receipts.ensures.put c.records-first.ensures c.records-behind.ensures noted.3 noted.1 noted.2
    refl (ap is_ok c.in-Ok-stepped.is) c.halt.ensures.goes

pub returns-then-first-behind-clause-places : goal.returns-then-first-behind-clause-places
returns-then-first-behind-clause-places g c = c.step-stepped.ensures.step.places

pub returns-then-behind-first-clause-places : goal.returns-then-behind-first-clause-places
returns-then-behind-first-clause-places g c = c.step-stepped.ensures.step.places

pub returns-in-Ok-clause-places : goal.returns-in-Ok-clause-places
returns-in-Ok-clause-places g c = c.step-stepped.ensures.step.places

pub returns-in-Err-stepped-clause-places : goal.returns-in-Err-stepped-clause-places
returns-in-Err-stepped-clause-places g c = c.step-stepped.ensures.step.places

pub returns-in-Ok-stepped-clause-places : goal.returns-in-Ok-stepped-clause-places
returns-in-Ok-stepped-clause-places g c =
    places_both g.V.Store.told c.args.client.now.state c.step-stepped.new.client.state c.args.core.now.regions.items c.step-stepped.new.core.regions.items c.halt.new.core.regions.items c.args.core.now.vault c.step-stepped.new.core.vault c.halt.new.core.vault c.step-stepped.ensures.step.places c.halt.ensures.places

pub returns-then-behind-first-clause-goes : goal.returns-then-behind-first-clause-goes
returns-then-behind-first-clause-goes g c =
    never_shrinks g.V.Store c.args.setting.now.precheck c.args.client.now (record c.args.client.now { transcript = c.replace_receipts-receipts.new.self }) c.step-stepped.new.client _ c.args.core.now.regions.items c.step-stepped.new.core.regions.items c.args.core.now.system.state c.step-stepped.new.core.system.state c.args.core.now.vault c.step-stepped.new.core.vault (is_ok c.step-stepped.result) _
    (looks_put g.V.Store c.args.client.now c.replace_receipts-receipts.new.self c.new.result.items c.replace_receipts-receipts.ensures.put) c.step-stepped.ensures.step.goes (omega (arith, c.records-first.ensures, c.records-behind.ensures, c.if-behind-first.true))

pub returns-in-Ok-clause-idle : goal.returns-in-Ok-clause-idle
returns-in-Ok-clause-idle g c = λ e.
    let put = c.step-stepped.ensures.idle e in
    let same : c.records-first.result ≡ c.records-behind.result = c.records-first.ensures ∙ (sym (ap (λ k. k.system.state.records) put.1) ∙ sym c.records-behind.ensures) in (
      turn_put c.args.core.now.system.state c.args.client.now c.step-stepped.new.client c.replace_receipts.new.self c.log.new.self c.replace_receipts-receipts.new.self c.new.result.items c.replace_receipts-receipts.result.items c.records-first.result c.records-behind.result
          c.replace_receipts-receipts.ensures.put c.replace_receipts.ensures.put c.replace_receipts-receipts.ensures.taken c.in-Ok.ensures.ok same put.0,
      put.1,
    )

pub returns-then-first-behind-clause-goes : goal.returns-then-first-behind-clause-goes
returns-then-first-behind-clause-goes g c =
    let same : c.records-first.result ≡ c.records-behind.result = omega (arith, c.if-first-behind.true) in
    turned g.V.Store c.args.setting.now.precheck c.args.client.now c.step-stepped.new.client c.replace_receipts-receipts.new.self c.replace_receipts.new.self c.replace_receipts.new.self c.new.result.items c.replace_receipts-receipts.result.items c.args.core.now.regions.items c.step-stepped.new.core.regions.items c.args.core.now.system.state c.step-stepped.new.core.system.state c.args.core.now.vault c.step-stepped.new.core.vault (is_ok c.step-stepped.result)
    (is_ok c.step-stepped.result) c.records-first.result c.records-behind.result c.records-first.result c.replace_receipts-receipts.ensures.put c.replace_receipts-receipts.ensures.taken c.step-stepped.ensures.step.goes c.replace_receipts.ensures.put c.records-first.ensures c.records-behind.ensures (sym (same_transcript c.replace_receipts.new.self c.records-first.result)) (omega arith) (omega (arith, same)) refl (λ e. same)

pub returns-then-first-behind-clause-idle : goal.returns-then-first-behind-clause-idle
returns-then-first-behind-clause-idle g c = λ e.
    let put = c.step-stepped.ensures.idle e in (
      turn_put c.args.core.now.system.state c.args.client.now c.step-stepped.new.client c.replace_receipts.new.self c.replace_receipts.new.self c.replace_receipts-receipts.new.self c.new.result.items c.replace_receipts-receipts.result.items c.records-first.result c.records-first.result
          c.replace_receipts-receipts.ensures.put c.replace_receipts.ensures.put c.replace_receipts-receipts.ensures.taken (sym (same_transcript c.replace_receipts.new.self c.records-first.result)) refl put.0,
      put.1,
    )

pub returns-then-behind-first-clause-over : goal.returns-then-behind-first-clause-over
returns-then-behind-first-clause-over g c = λ over.
    let put = c.step-stepped.ensures.idle (c.step-stepped.ensures.over over) in
    let same : c.records-first.result ≡ c.records-behind.result = c.records-first.ensures ∙ (sym (ap (λ k. k.system.state.records) put.1) ∙ sym c.records-behind.ensures) in
    absurd (omega (arith, same, c.if-behind-first.true))

pub returns-in-Ok-stepped-clause-over : goal.returns-in-Ok-stepped-clause-over
returns-in-Ok-stepped-clause-over g c = λ over.
    let put = c.step-stepped.ensures.idle (c.step-stepped.ensures.over over) in
    let same : c.records-first.result ≡ c.records-behind.result = c.records-first.ensures ∙ (sym (ap (λ k. k.system.state.records) put.1) ∙ sym c.records-behind.ensures) in
    absurd (omega (arith, same, c.if-first-behind.false))

pub returns-in-Err-stepped-clause-over : goal.returns-in-Err-stepped-clause-over
returns-in-Err-stepped-clause-over g c = λ over.
    let put = c.step-stepped.ensures.idle (c.step-stepped.ensures.over over) in
    let same : c.records-first.result ≡ c.records-behind.result = c.records-first.ensures ∙ (sym (ap (λ k. k.system.state.records) put.1) ∙ sym c.records-behind.ensures) in
    absurd (omega (arith, same, c.if-first-behind.false))

pub returns-in-Ok-clause-over : goal.returns-in-Ok-clause-over
returns-in-Ok-clause-over g c = λ over. c.step-stepped.ensures.over over

pub returns-in-Ok-clause-any_moment : goal.returns-in-Ok-clause-any_moment
returns-in-Ok-clause-any_moment g c =
    turn_leaves g.V.Store c.args.setting.now.precheck (is_ok c.step-stepped.result) c.args.core.now.regions.items c.step-stepped.new.core.regions.items c.args.core.now.system.state c.step-stepped.new.core.system.state c.args.core.now.vault c.step-stepped.new.core.vault c.args.client.now (record c.args.client.now { transcript = c.replace_receipts-receipts.new.self }) c.step-stepped.new.client
    (looks_put g.V.Store c.args.client.now c.replace_receipts-receipts.new.self c.new.result.items c.replace_receipts-receipts.ensures.put) c.step-stepped.ensures.step.goes c.step-stepped.ensures.step.any_moment

pub returns-in-Err-stepped-clause-any_moment : goal.returns-in-Err-stepped-clause-any_moment
returns-in-Err-stepped-clause-any_moment g c =
    turn_leaves g.V.Store c.args.setting.now.precheck (is_ok c.step-stepped.result) c.args.core.now.regions.items c.step-stepped.new.core.regions.items c.args.core.now.system.state c.step-stepped.new.core.system.state c.args.core.now.vault c.step-stepped.new.core.vault c.args.client.now (record c.args.client.now { transcript = c.replace_receipts-receipts.new.self }) c.step-stepped.new.client
    (looks_put g.V.Store c.args.client.now c.replace_receipts-receipts.new.self c.new.result.items c.replace_receipts-receipts.ensures.put) c.step-stepped.ensures.step.goes c.step-stepped.ensures.step.any_moment

pub returns-in-Ok-stepped-clause-any_moment : goal.returns-in-Ok-stepped-clause-any_moment
returns-in-Ok-stepped-clause-any_moment g c =
    halted_leaves g.V.Store c.args.setting.now.precheck (is_ok c.step-stepped.result) c.args.core.now.regions.items c.step-stepped.new.core.regions.items c.args.core.now.system.state c.step-stepped.new.core.system.state c.halt.new.core.system.state c.args.core.now.vault c.step-stepped.new.core.vault c.halt.new.core.vault
    c.args.client.now (record c.args.client.now { transcript = c.replace_receipts-receipts.new.self }) c.step-stepped.new.client
    (looks_put g.V.Store c.args.client.now c.replace_receipts-receipts.new.self c.new.result.items c.replace_receipts-receipts.ensures.put) c.step-stepped.ensures.step.goes c.step-stepped.ensures.step.any_moment
    (ap is_ok c.in-Ok-stepped.is) c.step-stepped.ensures.step.places.longer c.step-stepped.ensures.step.places.regions c.halt.ensures.log (λ e. ap (λ k. k.vault) (c.halt.ensures.still e)) c.halt.ensures.any_moment

pub returns-then-behind-first-clause-any_moment : goal.returns-then-behind-first-clause-any_moment
returns-then-behind-first-clause-any_moment g c =
    turn_leaves g.V.Store c.args.setting.now.precheck (is_ok c.step-stepped.result) c.args.core.now.regions.items c.step-stepped.new.core.regions.items c.args.core.now.system.state c.step-stepped.new.core.system.state c.args.core.now.vault c.step-stepped.new.core.vault c.args.client.now (record c.args.client.now { transcript = c.replace_receipts-receipts.new.self }) c.step-stepped.new.client
    (looks_put g.V.Store c.args.client.now c.replace_receipts-receipts.new.self c.new.result.items c.replace_receipts-receipts.ensures.put) c.step-stepped.ensures.step.goes c.step-stepped.ensures.step.any_moment

pub returns-then-first-behind-clause-any_moment : goal.returns-then-first-behind-clause-any_moment
returns-then-first-behind-clause-any_moment g c =
    turn_leaves g.V.Store c.args.setting.now.precheck (is_ok c.step-stepped.result) c.args.core.now.regions.items c.step-stepped.new.core.regions.items c.args.core.now.system.state c.step-stepped.new.core.system.state c.args.core.now.vault c.step-stepped.new.core.vault c.args.client.now (record c.args.client.now { transcript = c.replace_receipts-receipts.new.self }) c.step-stepped.new.client
    (looks_put g.V.Store c.args.client.now c.replace_receipts-receipts.new.self c.new.result.items c.replace_receipts-receipts.ensures.put) c.step-stepped.ensures.step.goes c.step-stepped.ensures.step.any_moment

pub returns-in-Ok-clause-refuses : goal.returns-in-Ok-clause-refuses
returns-in-Ok-clause-refuses g c =
    refuses_alike c.args.client.now (record c.args.client.now { transcript = c.replace_receipts-receipts.new.self }) c.step-stepped.new.client (record c.step-stepped.new.client { transcript = c.log.new.self }) refl (ap (λ (t : Transcribed). t.lines) c.replace_receipts-receipts.ensures.put) refl refl
    (ap (λ (t : Transcribed). t.lines) c.in-Ok.ensures.ok ∙ ap (λ (t : Transcribed). t.lines) c.replace_receipts.ensures.put) _ _ c.args.setting.now.precheck c.args.core.now.regions.items c.args.core.now.system.state c.step-stepped.result c.args.client.now.state c.step-stepped.ensures.step.refuses

pub returns-then-first-behind-clause-refuses : goal.returns-then-first-behind-clause-refuses
returns-then-first-behind-clause-refuses g c =
    refuses_alike c.args.client.now (record c.args.client.now { transcript = c.replace_receipts-receipts.new.self }) c.step-stepped.new.client (record c.step-stepped.new.client { transcript = c.replace_receipts.new.self }) refl (ap (λ (t : Transcribed). t.lines) c.replace_receipts-receipts.ensures.put) refl refl
    (ap (λ (t : Transcribed). t.lines) c.replace_receipts.ensures.put) _ _ c.args.setting.now.precheck c.args.core.now.regions.items c.args.core.now.system.state c.step-stepped.result c.args.client.now.state c.step-stepped.ensures.step.refuses

pub returns-in-Ok-stepped-clause-refuses : goal.returns-in-Ok-stepped-clause-refuses
returns-in-Ok-stepped-clause-refuses g c = refuses_none _ _ c.args.setting.now.precheck c.args.client.now _ c.args.core.now.regions.items c.args.core.now.system.state _ refl c.args.client.now.state

pub returns-in-Err-stepped-clause-refuses : goal.returns-in-Err-stepped-clause-refuses
returns-in-Err-stepped-clause-refuses g c = refuses_none _ _ c.args.setting.now.precheck c.args.client.now _ c.args.core.now.regions.items c.args.core.now.system.state _ refl c.args.client.now.state

pub returns-then-behind-first-clause-refuses : goal.returns-then-behind-first-clause-refuses
returns-then-behind-first-clause-refuses g c = refuses_none _ _ c.args.setting.now.precheck c.args.client.now _ c.args.core.now.regions.items c.args.core.now.system.state c.no_run.result c.no_run.ensures c.args.client.now.state
