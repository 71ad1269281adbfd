-- A second worked round: a poke, an audit that fails, and refusals.
--     told_1, lines_1          client 1 pokes region 1 and audits; then its begin and its checkpoint are refused
--     told_2, lines_2          client 2 aborts, and for its next begin the log is full
--     CornersRun               the clause of a round, of this one
use Rattle.std.specs.Prelude.{true, false, List, [], ◌∷◌, Some, map}
use Rattle.dali_record.specs.declared.records.Call.TheVariants.{Get}
use Rattle.dali_record.specs.declared.records.Record.TheVariants.{Begin, Ended, AuditBegin, AuditFail}
use Rattle.dali_region.specs.State.{loaded, poked}
use Rattle.dali_runs.specs.declared.causes.Cause.TheVariants.{Damage}
use Rattle.dali_runs.specs.State.{CoreState}
use Rattle.dali_runs.specs.Loads.{new_system}
use Rattle.dali_transcripts.specs.Words.{Act, Begins, Calls, Commits, Aborts, Pokes, Audits, Checkpoints, StoppedBy, Full, Said, Begun, AbortOk, PokeOk, AuditSaid, Refused}
use Rattle.dali_transcripts.specs.World.{Logs, Strays, Meets, Happening, World, logged_by}
use Rattle.dali_transcripts.specs.Transcripts.{Told}
use Rattle.dali_transcripts.specs.Rounds.{Rounds}
use Rattle.dali_transcripts.specs.Worked.{small, index_words, heap_words, before, vault, marks}

abbrev pub happened : List Happening
happened =
    (Logs (Begin 1), 2) ∷ (Strays 1 9 1, 1) ∷ (Logs (Ended 1), 2) ∷ (Logs AuditBegin, 1) ∷ (Meets (Full 29 30), 2) ∷ (Logs (AuditFail 3 (1 ∷ [])), 1)
    ∷ (Meets (StoppedBy (Damage 1)), 1) ∷ (Meets (StoppedBy (Damage 1)), 1) ∷ []

abbrev pub told_1 : List Act
told_1 = Pokes 1 9 1 ∷ Audits ∷ Begins ∷ Calls (Get 5) ∷ Commits ∷ Checkpoints ∷ []

abbrev pub told_2 : List Act
told_2 = Begins ∷ Aborts ∷ Begins ∷ Calls (Get 5) ∷ []

abbrev pub blocks : List Told
blocks = record { client = 2; acts = told_2 } ∷ record { client = 1; acts = told_1 } ∷ []

abbrev pub lines_1 : List Said
lines_1 = PokeOk ∷ AuditSaid (1 ∷ []) ∷ Refused Begins (StoppedBy (Damage 1)) ∷ Refused Checkpoints (StoppedBy (Damage 1)) ∷ []

abbrev pub lines_2 : List Said
lines_2 = Begun 1 ∷ AbortOk ∷ Refused Begins (Full 29 30) ∷ []

abbrev pub old_core : CoreState
old_core = record { regions = map loaded (index_words ∷ heap_words ∷ []); system = new_system small 1 1 10 30; vault = vault }

abbrev pub core : CoreState
core = record {
  regions = loaded index_words ∷ poked 9 1 (loaded heap_words) ∷ [];
  system = record (new_system small 5 2 46 30) { first = 1; since = logged_by happened; taken = 4; stop = Some (Damage 1) };
  vault = record vault { end = 60; flushed = 4 };
}

abbrev pub world : World
world = record { old = old_core; before = before; precheck = false; happened = happened; core = core }

-- the text goes by the clients' numbers
abbrev pub CornersRun : Type 0
CornersRun = Rounds marks false true before old_core core blocks (1 ∷ 1 ∷ 1 ∷ 1 ∷ 2 ∷ 2 ∷ 2 ∷ [])
