-- The parser's fields, as the state that reading goes through.
use Rattle.dali_script.specs.declared.parser.Parser.{Parser}
use Rattle.dali_script.specs.Reading.{State}

abbrev pub state_of : Parser → State
state_of p = record { place = p.place; opened = p.opened; client = p.client; clients = p.clients.items; steps = p.steps.items; blocks = p.blocks.items; commands = p.commands.items }
