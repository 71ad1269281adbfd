-- What changes the files.
--     event_of change     a change that a call makes, as contracts keep it
use Rattle.dali_memfiles.specs.declared.event.Event.{Event}
use Rattle.dali_memfiles.specs.declared.event.Event.TheVariants as kept
use Rattle.dali_memfiles.specs.declared.event.Change.{Change}
use Rattle.dali_memfiles.specs.declared.event.Change.TheVariants.{Wrote, Synced, Removed, Cut}

abbrev pub event_of : Change → Event
event_of (Wrote file at bytes) = kept.Wrote file at bytes.now
event_of (Synced file) = kept.Synced file
event_of (Removed file) = kept.Removed file
event_of (Cut choice) = kept.Cut choice
