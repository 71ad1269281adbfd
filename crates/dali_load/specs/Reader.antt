-- The reader's fields, as the state that reading goes through.
use Rattle.dali_load.specs.declared.reading.Reader.{Reader}
use Rattle.dali_load.specs.Reading.{State}

abbrev pub state_of : Reader → State
state_of r = record { rows = r.rows.items; ended = r.is_ended }
