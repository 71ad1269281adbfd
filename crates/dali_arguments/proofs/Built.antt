-- What the settings of a command come to.
use Rattle.std.proofs.Common.{◌≡◌, ◌∙◌, Result, Ok, Err, true, false, ap}
use Rattle.std.specs.Prelude.{IfOk, codes}
use Rattle.clap.specs.Words.{AddsSubcommand, App, app_of, shape_of, with_subcommand}
use Rattle.clap.specs.Simple.{app_of_fields, new_app, on_top}
use Rattle.clap.specs.declared.builder.Command.{Command}
use Rattle.clap.specs.declared.builder.Command.TheViews.{out-Command}

abbrev pub bare : App
bare = on_top (λ s. record s { no_binary_name = true; disable_help_flag = true; disable_help_subcommand = true; subcommand_required = true }) (new_app (codes "dali"))

pub settings : (a b c d e : Command) → app_of a ≡ new_app (codes "dali") → out-Command b ≡ record (out-Command a) { no_binary_name = true }
    → out-Command c ≡ record (out-Command b) { disable_help_flag = true } → out-Command d ≡ record (out-Command c) { disable_help_subcommand = true }
    → out-Command e ≡ record (out-Command d) { subcommand_required = true } → app_of e ≡ bare
settings a b c d e new first second third fourth =
    ap app_of_fields fourth ∙ ap (on_top (λ s. record s { subcommand_required = true }))
    (ap app_of_fields third ∙ ap (on_top (λ s. record s { disable_help_subcommand = true }))
    (ap app_of_fields second ∙ ap (on_top (λ s. record s { disable_help_flag = true }))
    (ap app_of_fields first ∙ ap (on_top (λ s. record s { no_binary_name = true })) new)))

-- a subcommand that has none of its own
pub added : (old sub new : Command) (a part : App) → app_of old ≡ a → app_of sub ≡ part → (out-Command sub).has_globals ≡ false → AddsSubcommand old sub new
    → app_of new ≡ with_subcommand a part.top
added old sub new a part is same local adds =
    adds.shape local ∙ (ap (λ (x : App). with_subcommand x (shape_of sub)) is ∙ ap (λ (x : App). with_subcommand a x.top) same)

pub added_last : {E : Type 0} (r : Result Command E) (old sub : Command) (a part : App) → app_of old ≡ a → app_of sub ≡ part → (out-Command sub).has_globals ≡ false
    → IfOk r (AddsSubcommand old sub) → IfOk r (λ c. app_of c ≡ with_subcommand a part.top)
added_last (Ok new) old sub a part is same local adds = added old sub new a part is same local adds
added_last (Err e) old sub a part is same local adds = tt
