use Rattle.clap.specs.Words.{with_subcommand}
use Rattle.clap.specs.Simple.{new_app}
use Rattle.std.specs.Prelude.{codes}
use Rattle.dali_arguments.specs.Command.{alone}
use Rattle.dali_arguments.specs.Command.{run as run_shape, generate as generate_shape, dump as dump_shape, load as load_shape, show as show_shape, status as status_shape}
use Rattle.dali_arguments.proofs.Built.{added, added_last, bare, settings}
use Rattle.dali_arguments.proofs.form.command.Goals as goal

pub returns : goal.returns
returns c =
    let begun = settings c.new.result c.no_binary_name.result c.disable_help_flag.result c.disable_help_subcommand.result c.subcommand_required.result
    c.new.ensures.app c.no_binary_name.ensures c.disable_help_flag.ensures c.disable_help_subcommand.ensures c.subcommand_required.ensures in
    let first = added c.subcommand_required.result c.in_ok-run.field-0 c.in_ok-subcommand.field-0 bare (alone run_shape)
    begun c.in_ok-run.ensures.0 c.in_ok-run.ensures.1 c.in_ok-subcommand.ensures in
    let second = added c.in_ok-subcommand.field-0 c.in_ok-generate.field-0 c.in_ok-subcommand-2.field-0 (with_subcommand bare run_shape) (alone generate_shape)
    first c.in_ok-generate.ensures.0 c.in_ok-generate.ensures.1 c.in_ok-subcommand-2.ensures in
    let third = added c.in_ok-subcommand-2.field-0 c.new-2.result c.in_ok-subcommand-3.field-0 (with_subcommand (with_subcommand bare run_shape) generate_shape) (new_app (codes "dump"))
    second c.new-2.ensures.app c.new-2.ensures.local c.in_ok-subcommand-3.ensures in
    let fourth = added c.in_ok-subcommand-3.field-0 c.new-3.result c.in_ok-subcommand-4.field-0
    (with_subcommand (with_subcommand (with_subcommand bare run_shape) generate_shape) dump_shape) (new_app (codes "show"))
    third c.new-3.ensures.app c.new-3.ensures.local c.in_ok-subcommand-4.ensures in
    let fifth = added c.in_ok-subcommand-4.field-0 c.new-4.result c.in_ok-subcommand-5.field-0
    (with_subcommand (with_subcommand (with_subcommand (with_subcommand bare run_shape) generate_shape) dump_shape) show_shape) (new_app (codes "status"))
    fourth c.new-4.ensures.app c.new-4.ensures.local c.in_ok-subcommand-5.ensures in
    added_last c.subcommand-6.result c.in_ok-subcommand-5.field-0 c.in_ok-load.field-0
    (with_subcommand (with_subcommand (with_subcommand (with_subcommand (with_subcommand bare run_shape) generate_shape) dump_shape) show_shape) status_shape) (alone load_shape)
    fifth c.in_ok-load.ensures.0 c.in_ok-load.ensures.1 c.subcommand-6.ensures
