use Rattle.std.proofs.Common.{◌∙◌, ℕ, List, rules, ap}
use Rattle.std.specs.Prelude.{filter}
use Rattle.std.specs.FinMap as finite
use Rattle.std.proofs.lemmas.Fn.{filter_same}
use Rattle.dali_runs.specs.State.{state_of}
use Rattle.dali_transcripts.specs.World.{is_dead_in}
use Rattle.dali_run.proofs.cleaning.dead_in.Goals as goal

pub returns : goal.returns
returns c =
    filter_same _ (λ t. is_dead_in (state_of c.args.system.now.state t)) _ (λ x b f' k. search rules) _ _ c.retain.ensures.filtered
    ∙ ap (λ (l : List ℕ). filter (λ t. is_dead_in (state_of c.args.system.now.state t)) l) (c.in_ok-dead.ensures ∙ ap (λ m. finite.keys m) c.table.ensures.table)
