-- A client looks, another one writes astray to that region and begins an audit, and then comes the operation.
--     happened, world          what was done;  over a core with two regions
--     LooksStayRight           with precheck that is allowed, since the look was right; were each look at the place of its operation, it wouldn't be
use Rattle.std.specs.Prelude.{true, List, [], ◌∷◌}
use Rattle.dali_record.specs.declared.records.Record.TheVariants.{Forward, AuditBegin}
use Rattle.dali_transcripts.specs.World.{Logs, Strays, Happening, World}
use Rattle.dali_transcripts.specs.Rounds.{PrecheckTells, AreAtOnce}
use Rattle.dali_transcripts.specs.Worked.{put, before, old_core}

abbrev pub happened : List Happening
happened = (Strays 1 9 255, 2) ∷ (Logs AuditBegin, 2) ∷ (Logs (Forward 1 (put 97 0)), 1) ∷ []

abbrev pub world : World
world = record { old = old_core; before = before; precheck = true; happened = happened; core = old_core }

pub record LooksStayRight : Type 0 where
  pub looked : PrecheckTells world
  pub late : AreAtOnce world → ⊥
