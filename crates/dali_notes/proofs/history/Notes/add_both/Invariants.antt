use mathlib.Core.Option.{some}
use Rattle.dali_notes.proofs.history.Notes.add_both.Given as goal

abbrev pub ghosts-sign : goal.ghosts-sign
ghosts-sign g a = record { entry = some (g.M.Tells.entry a.about.now) }
