use Rattle.std.proofs.Common.{refl}
use Rattle.dali_bytes.specs.Fields.{number32, number64}
use Rattle.dali_log_tests.proofs.tests.logs.texts_spell_the_worked_logs.Goals as goal

pub returns : goal.returns
unfolding number32 number64
returns c = record { chain = refl; undone_change = refl; damaged_writer = refl; abort = refl; restarted = refl }
