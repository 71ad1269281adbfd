use Rattle.std.proofs.Common.{ℕ, List, None, sym, ◌∙◌, ap, subst, map, inl, inr}
use Rattle.std.proofs.lemmas.Result.{err_from_is_err_and, IfErr-weaker, IfOk-weaker}
use Rattle.dali_generator.proofs.Right.{right_round}
use Rattle.dali_generator.specs.Generated.{generated}
use Rattle.dali_script.specs.declared.commands.Block.{Block}
use Rattle.dali_transcripts.specs.Rounds.{AreBlocks}
use Rattle.dali_run.specs.declared.program.Program.TheVariants.{Up}
use Rattle.dali_run.specs.Generating.{IsCrashed, IsMade, IsPlayed, NotRestarted}
use Rattle.dali_run.specs.Steps.{Restarts}
use Rattle.dali_run.specs.Told.{told_by}
use Rattle.dali_run.proofs.Fit.{right_blocks}
use Rattle.dali_run.proofs.Generated.{ends_by, ends_in_restart, ends_in_round, is_crashed, is_played}
use Rattle.dali_run.proofs.generating.run_generated.Goals as goal

pub returns-in_err-core-clause-ends : goal.returns-in_err-core-clause-ends
returns-in_err-core-clause-ends g c =
    let p = err_from_is_err_and c.from_residual.result c.from_residual.ensures.1 in
    let fails = c.in_err-core.ensures.fails in
    let s = c.in_err-core.field-0.0 in
    rw (p.1, p.2)
    (ends_by g.V.Store c.args.clients c.args.size c.args.number s.halt c.args.store s.store
    (inl (fails.0, fails.1, fails.2)))

pub played-requires-clause-placed : goal.played-requires-clause-placed
played-requires-clause-placed g c =
    subst (λ (bs : List Block). AreBlocks (map told_by bs)) (sym (c.deref.ensures.value ∙ c.in-Ok.ensures))
    (right_blocks (generated c.args.clients c.args.size c.args.number) (right_round c.args.clients c.args.size c.args.number c.requires.within))

pub returns-in_err-core-2-clause-ends : goal.returns-in_err-core-2-clause-ends
returns-in_err-core-2-clause-ends g c =
    let p = err_from_is_err_and c.from_residual-in_err-core-2.result c.from_residual-in_err-core-2.ensures.1 in
    let s = c.in_err-core-2.field-0.0 in
    let made = subst (λ (l : ℕ). IsMade g.V.Store l c.args.clients c.args.size c.args.store c.in_ok-core.core) c.requires.limit c.in_ok-core.ensures.made.0 in
    rw (p.1, p.2)
    (ends_in_round g.V.Store c.args.clients c.args.size c.args.number s.halt c.args.store s.store c.in_ok-core.core (map told_by c.deref.result.now)
    (ap (λ (bs : List Block). map told_by bs) (c.deref.ensures.value ∙ c.in-Ok.ensures)) made c.in_err-core-2.ensures.stops)

pub returns-in_err-program-clause-ends : goal.returns-in_err-program-clause-ends
returns-in_err-program-clause-ends g c =
    let p = err_from_is_err_and c.from_residual-in_err-program.result c.from_residual-in_err-program.ensures.1 in
    let s = c.in_err-program.field-0.0 in
    let made = subst (λ (l : ℕ). IsMade g.V.Store l c.args.clients c.args.size c.args.store c.in_ok-core.core) c.requires.limit c.in_ok-core.ensures.made.0 in
    let played : IsPlayed g.V.Store 67108864 c.args.clients c.args.size c.args.number c.args.store None =
    is_played g.V.Store 67108864 c.args.clients c.args.size c.args.number c.args.store c.in_ok-core.core c.in_ok-core-2.core (map told_by c.deref.result.now)
    (ap (λ (bs : List Block). map told_by bs) (c.deref.ensures.value ∙ c.in-Ok.ensures)) made c.in_ok-core-2.ensures.plays.0 in
    rw (p.1, p.2)
    (ends_by g.V.Store c.args.clients c.args.size c.args.number s.halt c.args.store s.store
    (inr (inl (played, c.in_err-program.ensures.fails))))

pub returns-clause-finds : goal.returns-clause-finds
returns-clause-finds g c =
    let crash = c.in_ok-program.ensures.crash in
    let run : IsCrashed g.V.Store 67108864 c.args.clients c.args.size c.args.number c.args.store =
    is_crashed g.V.Store 67108864 c.args.clients c.args.size c.args.number c.args.store c.in_ok-core.core c.in_ok-core-2.core (map told_by c.deref.result.now) _ c.in_ok-program.program crash.0 c.requires.limit
    (ap (λ (bs : List Block). map told_by bs) (c.deref.ensures.value ∙ c.in-Ok.ensures)) c.in_ok-core.ensures.made.0 c.in_ok-core-2.ensures.plays.0 crash.1 in
    IfOk-weaker c.found.result _ _
    (λ core finds. record {
      run = run;
      text = finds.0;
      restart = subst (λ (l : ℕ). Restarts g.V.Store l c.in_ok-program.program finds.0 (Up core)) c.requires.limit finds.1;
    })
    c.found.ensures.finds

pub returns-clause-ends : goal.returns-clause-ends
returns-clause-ends g c =
    let crash = c.in_ok-program.ensures.crash in
    let run : IsCrashed g.V.Store 67108864 c.args.clients c.args.size c.args.number c.args.store =
    is_crashed g.V.Store 67108864 c.args.clients c.args.size c.args.number c.args.store c.in_ok-core.core c.in_ok-core-2.core (map told_by c.deref.result.now) _ c.in_ok-program.program crash.0 c.requires.limit
    (ap (λ (bs : List Block). map told_by bs) (c.deref.ensures.value ∙ c.in-Ok.ensures)) c.in_ok-core.ensures.made.0 c.in_ok-core-2.ensures.plays.0 crash.1 in
    IfErr-weaker c.found.result _ _
    (λ s fails. ends_in_restart g.V.Store c.args.clients c.args.size c.args.number s.halt c.args.store s.store run
    (subst (λ (l : ℕ). NotRestarted g.V.Store l c.in_ok-program.program s.halt s.store) c.requires.limit fails))
    c.found.ensures.fails
