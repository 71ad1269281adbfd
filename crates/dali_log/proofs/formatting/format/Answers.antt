use Rattle.dali_store.specs.Store.{Files, LeavesOnly}
use Rattle.std.proofs.Common.{sym, [], ◌∷◌, IfSome}
use Rattle.dali_log.specs.Appending.{AllAdded}
use Rattle.std.proofs.lemmas.Result.{on_ok_weaker}
use Rattle.dali_store.proofs.Moments.{joins, if_some_both, moved}
use Rattle.dali_log.specs.Formatting.{CloseLeaves, AreClosed, FormatLeaves, IsFormattedBy}
use Rattle.dali_log.proofs.Formats.{format_start, format_crash, formatted}
use Rattle.dali_log.proofs.formatting.format.Goals as goal

pub returns-clause-any_moment : goal.returns-clause-any_moment
returns-clause-any_moment g c =
    let s0 = c.args.store.now in
    let s1 = c.close_gates.new.store in
    let may = g.V.Store.may_leave in
    let body = c.args.frame.now.body in
    if_some_both _ _ c.close_gates.ensures.any_moment (λ run.
    if_some_both _ _ c.in_ok-close_gates.ensures.closed (λ closed.
    moved _ (g.V.Store.told s1) (g.V.Store.told s0) (sym c.close_gates.ensures.tells) c.append.ensures.any_moment (λ second.
    joins g.V.Store.moment g.V.Store.left_since s0 s1 c.append.new.store _ _ (FormatLeaves (may s0) body) run second (format_start (may s0) body)
    (format_crash (may s0) body (may s1) (λ d left. run.each d (g.met.V.Store.counts_now s1 (g.V.Store.moment s0) d run.later left)) closed))))

pub returns-clause-acknowledged : goal.returns-clause-acknowledged
returns-clause-acknowledged g c =
    let s0 = c.args.store.now in
    let s1 = c.close_gates.new.store in
    let s2 = c.append.new.store in
    let may = g.V.Store.may_leave in
    let body = c.args.frame.now.body in
    let Adds : Type 0 = IfSome (g.V.Store.told s1) (λ _. (f : Files) → may s2 f → AllAdded (may s1) 0 (body ∷ []) f) in
    let Gives : Type 0 = IfSome (g.V.Store.told s0) (λ _. (f : Files) → may s2 f → IsFormattedBy (may s0) body f) in
    let step : Adds → Gives = λ added.
    let Formatted : Type 0 = (f : Files) → may s2 f → IsFormattedBy (may s0) body f in
    if_some_both {A = Files} {P = LeavesOnly g.V.Store.moment g.V.Store.left_since s0 s1 (CloseLeaves (may s0))} Formatted (g.V.Store.told s0) c.close_gates.ensures.any_moment (λ run.
    if_some_both {A = Files} {P = (d : Files) → may s1 d → AreClosed d} Formatted (g.V.Store.told s0) c.in_ok-close_gates.ensures.closed (λ closed.
    moved {P = (f : Files) → may s2 f → AllAdded (may s1) 0 (body ∷ []) f} ((f : Files) → may s2 f → IsFormattedBy (may s0) body f) (g.V.Store.told s1) (g.V.Store.told s0) (sym c.close_gates.ensures.tells) added (λ adds f left.
    formatted (may s0) body (may s1) (λ d at. run.each d (g.met.V.Store.counts_now s1 (g.V.Store.moment s0) d run.later at)) closed f (adds f left)))) in
    on_ok_weaker {P = Adds} {Q = Gives} c.append.result step c.append.ensures.acknowledged
