-- Where in a script a command may stand.
--     is_start, is_outside, is_in_block, is_in_transaction    tests of a place
--     may_stand name place       whether a command may stand there
--     after item place           the place behind a command line that stands there
use Rattle.std.specs.Prelude.{Bool, true, false, ◌||◌}
use Rattle.dali_script.specs.declared.places.Place.{Place}
use Rattle.dali_script.specs.declared.places.Place.TheVariants.{Start, Outside, InBlock, InTransaction}
use Rattle.dali_script.specs.declared.names.Name.{Name}
use Rattle.dali_script.specs.declared.names.Name.TheVariants as name
use Rattle.dali_script.specs.declared.items.Item.{Item}
use Rattle.dali_script.specs.declared.items.Item.TheVariants as item

abbrev pub is_start : Place → Bool
is_start Start = true
is_start Outside = false
is_start InBlock = false
is_start InTransaction = false

abbrev pub is_outside : Place → Bool
is_outside Start = false
is_outside Outside = true
is_outside InBlock = false
is_outside InTransaction = false

abbrev pub is_in_transaction : Place → Bool
is_in_transaction Start = false
is_in_transaction Outside = false
is_in_transaction InBlock = false
is_in_transaction InTransaction = true

-- in a block, in a transaction of it or not
abbrev pub is_in_block : Place → Bool
is_in_block Start = false
is_in_block Outside = false
is_in_block InBlock = true
is_in_block InTransaction = true

-- in a block outside a transaction
abbrev pub is_between : Place → Bool
is_between Start = false
is_between Outside = false
is_between InBlock = true
is_between InTransaction = false

abbrev pub may_stand : Name → Place → Bool
may_stand name.Size place = is_start place
may_stand name.Open place = is_start place
may_stand name.Client place = is_outside place
may_stand name.End place = is_in_block place
may_stand name.Begin place = is_between place
may_stand name.Poke place = is_outside place || is_between place
may_stand name.Audit place = is_outside place || is_between place
may_stand name.Checkpoint place = is_outside place || is_between place
may_stand name.Cleanup place = is_outside place
may_stand name.Crash place = is_outside place
may_stand name.Restart place = is_outside place
may_stand name.Show place = is_outside place
may_stand name.Verify place = is_outside place
may_stand name.Next place = is_outside place
may_stand name.Fuse place = is_outside place
may_stand _ place = is_in_transaction place

abbrev pub after : Item → Place → Place
after (item.Size i h) place = Outside
after item.Open place = Outside
after (item.Client n) place = InBlock
after item.End place = Outside
after item.Begin place = InTransaction
after item.Commit place = InBlock
after item.Abort place = InBlock
after _ place = place
