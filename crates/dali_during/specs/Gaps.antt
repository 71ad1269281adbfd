-- Worked runs that are cut off inside an insert and inside a delete, where a key has a gap.
--     put_so_far               from a format on transaction 1 locks key 5, doesn't find it, and puts its cell: no entry names it yet
--     killed_so_far            it adds the entry, is answered, deletes the key again, and kills its cell: the entry still names it
--     HasOpenGap gap m         at the moment m key 5 has this gap, and no other; and a running transaction has an undo on it
--     CutInInsert, CutInDelete so it is behind these steps, from a format on and without a stray write
use Rattle.std.specs.Prelude.{◌≡◌, false, List, [], ◌∷◌, ◌++◌}
use Rattle.std.specs.List.{list_any}
use Rattle.dali_geometry.specs.Places.{formatted_image}
use Rattle.dali_record.specs.declared.records.Call.TheVariants.{Insert}
use Rattle.dali_record.specs.declared.records.Answer.TheVariants.{Ok as AnswerOk}
use Rattle.dali_access.specs.Index.Invariant.{Gap, CellAlone, EntryAlone, Fits}
use Rattle.dali_locks.specs.declared.mode.Mode.TheVariants.{Exclusive}
use Rattle.dali_runs.specs.Courses.{Step, Begins, Operates, Answers, Locks, Moment, IsCourse}
use Rattle.dali_runs.specs.Worked.{small, start, touching, look as found, kill_cell}
use Rattle.dali_crash.specs.Unpoked.{pokes}
use Rattle.dali_crash.specs.Worked.{look}
use Rattle.dali_crash.specs.Restarted.{put, add, put_writes, add_writes}
use Rattle.dali_during.specs.During.{image_of, HasGap, IsIndexedNow}

abbrev pub put_so_far : List Step
put_so_far =
    Begins ∷ Locks 1 5 Exclusive ∷ []
    ++ touching 1 look [] (Operates 1 look)
    ++ touching 1 put put_writes (Operates 1 put)

abbrev pub killed_so_far : List Step
killed_so_far =
    put_so_far
    ++ touching 1 add add_writes (Operates 1 add)
    ++ Answers 1 (Insert 5 (0 ∷ [])) AnswerOk ∷ []
    ++ touching 1 found [] (Operates 1 found)
    ++ touching 1 kill_cell ((8, 2) ∷ []) (Operates 1 kill_cell)

-- whatever gaps the law gives, key 5 has this one
pub record HasOpenGap (gap : Gap) (m : Moment) : Type 0 where
  pub fits : Fits small (image_of m.core) 5 gap
  pub only : (now : IsIndexedNow m.log m.core) → now.gaps 5 ≡ gap
  pub whose : HasGap m.log m.core 5

pub record IsCutOff (steps : List Step) (gap : Gap) : Type 0 where
  pub finish : Moment
  pub course : IsCourse (start (formatted_image small)) steps finish
  pub unpoked : list_any pokes steps ≡ false
  pub open_gap : HasOpenGap gap finish

-- the cell is cell 1 of region 1, at place 9, and the entry is entry 0 of region 0
abbrev pub CutInInsert : Type 0
CutInInsert = IsCutOff put_so_far (CellAlone 9)

abbrev pub CutInDelete : Type 0
CutInDelete = IsCutOff killed_so_far (EntryAlone 0 0)
