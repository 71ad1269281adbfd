-- What the flag of a checkpoint tells, what a step leaves where none is under way, and what stays of a synced file.
use Rattle.std.proofs.Common.{◌≡◌, ℕ, Bool, true, false, cond, List, [], ◌∷◌, Option, Some, None, refl, ap, sym, subst, ◌∙◌, inl, inr, ⊎_elim}
use Rattle.std.specs.Prelude.{◌&&◌, ◌==◌, is_some}
use Rattle.dali_lists.proofs.Options.{some_same}
use Rattle.dali_record.specs.declared.records.Record.{Record}
use Rattle.dali_record.specs.Files.{Files}
use Rattle.dali_region.specs.declared.Side.{Side}
use Rattle.dali_runs.specs.State.{CoreState}
use Rattle.dali_runs.specs.ImageSteps.{same_side, told_with}
use Rattle.dali_runs.specs.Flushes.{frame_of, with_batch}
use Rattle.dali_runs.specs.Courses.{Step, Begins, Operates, Answers, AuditEnds, OnRegion, Dies, GivesBack, Recovers, Stops, Checkpoints, Takes, Flushes, ReadFails, Moment, IsStepAt}
use Rattle.dali_crash.specs.Checkpoints.{Head, Copy, Point, pass_copy, passes_region, target, head_with, synced_with, StoreStep, Does, Starts, Keeps, Copies, Skips, WritesHead, Syncs, Turns, CopyFails, HeadFails, SyncFails, TurnFails, Finishes, is_of_checkpoint, IsPointCourse, Came, IsPointStep, moment_of}
use Rattle.dali_crash.specs.StoreRuns.{point_start, FlagTells, FlagStays, CourseFlagTells, FlagChanges, LeavesImages, IdleLeavesImages, KeptStays, IsLeft, SyncedStays}
use Rattle.dali_crash.proofs.StepLeaves.{vault_goes, core_came}

abbrev flag : CoreState → Bool
flag c = c.system.checking

-- a step that is none of a checkpoint leaves the flag
same_flag : (m n : Moment) (x : Step) → is_of_checkpoint x ≡ false → IsStepAt m x n → flag n.core ≡ flag m.core
same_flag m n Begins quiet s = ap flag s.0.1.1
same_flag m n (Operates t b) quiet s = ap flag s.0.3.1
same_flag m n (Answers t k a) quiet s = ap flag s.0.3.1
same_flag m n (AuditEnds b found) quiet s = ap flag s.0.1.1
same_flag m n (OnRegion r x) quiet s = ap flag s.0.3.1
same_flag m n (Dies t o) quiet s = ap flag s.0.1.1
same_flag m n (GivesBack t o) quiet s = ap flag s.0.1.1
same_flag m n (Recovers r) quiet s = ap flag s.0.3.1
same_flag m n Stops quiet s = ap flag s.0.1.1
same_flag m n (Checkpoints b) quiet s = absurd (cc)
same_flag m n Takes quiet s = ap flag s.0.1
same_flag m n Flushes quiet s = ap flag s.0.1.1
same_flag m n (ReadFails k) quiet s = ap flag s.0.1.1
same_flag m n _ quiet s = ap flag s.0.2.1

-- flag and what was kept are as before
as_before : (st new : Point) → flag new.core ≡ flag st.core → new.begun ≡ st.begun → FlagTells st → FlagTells new
as_before st new f b tells e = f ∙ tells (ap is_some (sym b) ∙ e)

pub flag_stays : FlagStays
flag_stays st new (Does x) tells s = as_before st new (same_flag (moment_of st) (moment_of new) x s.0 s.1) (ap (λ (z : Point). z.begun) s.2) tells
flag_stays st new Starts tells s = subst FlagTells (sym s.1) (λ e. refl)
flag_stays st new Keeps tells s = subst FlagTells (sym s.4) (λ e. s.1)
flag_stays st new (Copies r n) tells s = subst FlagTells (sym s.5) tells
flag_stays st new (Skips r n) tells s = subst FlagTells (sym s.5) tells
flag_stays st new (WritesHead h) tells s = subst FlagTells (sym s.1) tells
flag_stays st new Syncs tells s = subst FlagTells (sym s.1) tells
flag_stays st new Turns tells s = subst FlagTells (sym s.5) (λ e. absurd (cc))
flag_stays st new (CopyFails r ws n) tells s = subst FlagTells (sym s.4) tells
flag_stays st new (HeadFails h n) tells s = subst FlagTells (sym s.1) tells
flag_stays st new (SyncFails n) tells s = subst FlagTells (sym s.1) tells
flag_stays st new (TurnFails n) tells s = subst FlagTells (sym s.5) (λ e. absurd (cc))
flag_stays st new Finishes tells s = subst FlagTells (sym s.1) (λ e. absurd (cc))

abbrev flag_of : Point → Bool
flag_of z = z.core.system.checking

pub flag_changes : FlagChanges
flag_changes st new (Does x) s = same_flag (moment_of st) (moment_of new) x s.0 s.1
flag_changes st new Starts s = (s.0, ap flag_of s.1)
flag_changes st new Keeps s = ap flag_of s.4
flag_changes st new (Copies r n) s = ap flag_of s.5
flag_changes st new (Skips r n) s = ap flag_of s.5
flag_changes st new (WritesHead h) s = ap flag_of s.1
flag_changes st new Syncs s = ap flag_of s.1
flag_changes st new Turns s = ap flag_of s.5
flag_changes st new (CopyFails r ws n) s = ap flag_of s.4
flag_changes st new (HeadFails h n) s = ap flag_of s.1
flag_changes st new (SyncFails n) s = ap flag_of s.1
flag_changes st new (TurnFails n) s = ap flag_of s.5
flag_changes st new Finishes s = (s.0, ap flag_of s.1)

pub along : (st new : Point) (xs : List StoreStep) → FlagTells st → IsPointCourse st xs new → FlagTells new
along st new [] tells course = subst FlagTells course tells
along st new (x ∷ xs) tells course = along course.0 new xs (flag_stays st course.0 x tells course.1) course.2

pub course_flag_tells : CourseFlagTells
course_flag_tells L g limit v told heads synced xs n course = along (point_start L g limit v told heads synced) n xs (λ e. absurd (cc)) course

-- ---- without a checkpoint
none_under_way : (o : Option Head) → is_some o ≡ true → o ≡ None → ⊥
none_under_way None e f = cc
none_under_way (Some h) e f = cc

by_equal : (st new old : Point) → new ≡ old → LeavesImages st old → LeavesImages st new
by_equal st new old e leaves = subst (LeavesImages st) (sym e) leaves

batched : (D F : Files) (b : List (List Record)) → F ≡ record D { batches = b } → F ≡ record D { batches = F.batches }
batched D F b e = e ∙ ap (λ (z : List (List Record)). record D { batches = z }) (sym (ap (λ (f : Files). f.batches) e))

passed : (b : Bool) (o : Option Copy) (k : Copy) → pass_copy b o ≡ Some k → (j : Copy) × (o ≡ Some j) × (j.at ≡ k.at)
passed b None k e = absurd (cc)
passed b (Some j) k e = (j, refl, ap (λ (z : Copy). z.at) (some_same e))

idle_leaves : (st new : Point) (x : StoreStep) → st.begun ≡ None → IsPointStep st x new → LeavesImages st new
idle_leaves st new (Does x) idle s = record {
  told = ap (λ (z : Point). z.told) s.2;
  heads = ap (λ (z : Point). z.heads) s.2;
  synced = ap (λ (z : Point). z.synced) s.2;
  current = (vault_goes (moment_of st) (moment_of new) x s.1).current;
  copies = λ side r k e. passed (passes_region st.core x r) (st.copies side r) k (ap (λ (z : Point). z.copies side r) (sym s.2) ∙ e);
}
idle_leaves st new Keeps idle s = by_equal st new _ s.4 (record { told = refl; heads = refl; synced = refl; current = refl; copies = λ side r k e. (k, e, refl) })
idle_leaves st new Starts idle s = by_equal st new _ s.1 (record { told = refl; heads = refl; synced = refl; current = refl; copies = λ side r k e. (k, e, refl) })
idle_leaves st new (Copies r n) idle s = absurd (none_under_way _ s.2.under_way idle)
idle_leaves st new (Skips r n) idle s = absurd (none_under_way _ s.2 idle)
idle_leaves st new (WritesHead h) idle s = absurd (none_under_way _ s.0.under_way idle)
idle_leaves st new Syncs idle s = absurd (none_under_way _ s.0.under_way idle)
idle_leaves st new Turns idle s = absurd (none_under_way _ s.3.under_way idle)
idle_leaves st new (CopyFails r ws n) idle s = absurd (none_under_way _ s.3.may.under_way idle)
idle_leaves st new (HeadFails h n) idle s = absurd (none_under_way _ s.0.may.under_way idle)
idle_leaves st new (SyncFails n) idle s = absurd (none_under_way _ s.0.may.under_way idle)
idle_leaves st new (TurnFails n) idle s = absurd (none_under_way _ s.3.may.under_way idle)
idle_leaves st new Finishes idle s = by_equal st new _ s.1 (record { told = refl; heads = refl; synced = refl; current = refl; copies = λ side r k e. (k, e, refl) })

-- a crash image has all but its batches from before
idle_came : (st new : Point) (x : StoreStep) → st.begun ≡ None → IsPointStep st x new → (D F : Files) → Came st x D F → F ≡ record D { batches = F.batches }
idle_came st new (Does x) idle s D F came = ⊎_elim (λ e. batched D F D.batches e) (λ e. batched D F (with_batch D.batches (frame_of st.log st.core)) e) (core_came st.log st.core x D F came)
idle_came st new (Copies r n) idle s D F came = absurd (none_under_way _ s.2.under_way idle)
idle_came st new (WritesHead h) idle s D F came = absurd (none_under_way _ s.0.under_way idle)
idle_came st new Turns idle s D F came = absurd (none_under_way _ s.3.under_way idle)
idle_came st new (CopyFails r ws n) idle s D F came = absurd (none_under_way _ s.3.may.under_way idle)
idle_came st new (HeadFails h n) idle s D F came = absurd (none_under_way _ s.0.may.under_way idle)
idle_came st new (TurnFails n) idle s D F came = absurd (none_under_way _ s.3.may.under_way idle)
idle_came st new _ idle s D F came = batched D F D.batches came

pub idle_leaves_images : IdleLeavesImages
idle_leaves_images st new x idle s = (idle_leaves st new x idle s, idle_came st new x idle s)

-- ---- what a checkpoint kept
pub kept_stays : KeptStays
kept_stays st new (Does x) h e s = inl (ap (λ (z : Point). z.begun) s.2 ∙ e)
kept_stays st new Keeps h e s = absurd (none_under_way st.begun (ap is_some e) s.2)
kept_stays st new (Copies r n) h e s = inl (ap (λ (z : Point). z.begun) s.5 ∙ e)
kept_stays st new (Skips r n) h e s = inl (ap (λ (z : Point). z.begun) s.5 ∙ e)
kept_stays st new Turns h e s = inr (ap (λ (z : Point). z.begun) s.5)
kept_stays st new (CopyFails r ws n) h e s = inl (ap (λ (z : Point). z.begun) s.4 ∙ e)
kept_stays st new (TurnFails n) h e s = inr (ap (λ (z : Point). z.begun) s.5)
kept_stays st new Finishes h e s = inr (ap (λ (z : Point). z.begun) s.1)
kept_stays st new _ h e s = inl (ap (λ (z : Point). z.begun) s.1 ∙ e)

-- ---- what is synced
-- something of the target is written: the other side is left
other_left :
    (st old : Point) (side : Side) → old.synced ≡ synced_with st.synced (target st) false → old.synced side ≡ true
    → (same_side side (target st) ≡ false → (r : ℕ) → old.told side r ≡ st.told side r)
    → (same_side side (target st) ≡ false → old.heads side ≡ st.heads side)
    → IsLeft st old side
other_left st old side synced e told head = by_test (same_side side (target st)) refl
  where
    here : synced_with st.synced (target st) false side ≡ true
    here = sym (ap (λ (f : Side → Bool). f side) synced) ∙ e

    by_test : (b : Bool) → same_side side (target st) ≡ b → IsLeft st old side
    by_test true f = let w : false ≡ true = ap (λ z. cond z false (st.synced side)) (sym f) ∙ here in absurd (cc)
    by_test false f = record { synced = ap (λ z. cond z false (st.synced side)) (sym f) ∙ here; told = told f; head = head f }

-- the place of one region, or the head
place_left : (st old : Point) (side : Side) (r : ℕ) (ws : List ℕ) → old.told ≡ told_with st.told (target st) r ws → old.heads ≡ st.heads → old.synced ≡ synced_with st.synced (target st) false → old.synced side ≡ true → IsLeft st old side
place_left st old side r ws told heads synced e =
    other_left st old side synced e
    (λ f q. ap (λ (t : Side → ℕ → List ℕ). t side q) told ∙ ap (λ z. cond (z && (q == r)) ws (st.told side q)) f)
    (λ f. ap (λ (k : Side → Head). k side) heads)

head_left : (st old : Point) (side : Side) (h : Head) → old.told ≡ st.told → old.heads ≡ head_with st.heads (target st) h → old.synced ≡ synced_with st.synced (target st) false → old.synced side ≡ true → IsLeft st old side
head_left st old side h told heads synced e =
    other_left st old side synced e
    (λ f q. ap (λ (t : Side → ℕ → List ℕ). t side q) told)
    (λ f. ap (λ (k : Side → Head). k side) heads ∙ ap (λ z. cond z h (st.heads side)) f)

same_left : (st old : Point) (side : Side) → old.told ≡ st.told → old.heads ≡ st.heads → old.synced ≡ st.synced → old.synced side ≡ true → IsLeft st old side
same_left st old side told heads synced e = record {
  synced = sym (ap (λ (f : Side → Bool). f side) synced) ∙ e;
  told = λ q. ap (λ (t : Side → ℕ → List ℕ). t side q) told;
  head = ap (λ (k : Side → Head). k side) heads;
}

pub synced_stays : SyncedStays
synced_stays st new (Does x) side quiet s = same_left st new side (ap (λ (z : Point). z.told) s.2) (ap (λ (z : Point). z.heads) s.2) (ap (λ (z : Point). z.synced) s.2)
synced_stays st new Starts side quiet s = same_left st new side (ap (λ (z : Point). z.told) s.1) (ap (λ (z : Point). z.heads) s.1) (ap (λ (z : Point). z.synced) s.1)
synced_stays st new Keeps side quiet s = same_left st new side (ap (λ (z : Point). z.told) s.4) (ap (λ (z : Point). z.heads) s.4) (ap (λ (z : Point). z.synced) s.4)
synced_stays st new (Copies r n) side quiet s = place_left st new side r s.0.back (ap (λ (z : Point). z.told) s.5) (ap (λ (z : Point). z.heads) s.5) (ap (λ (z : Point). z.synced) s.5)
synced_stays st new (Skips r n) side quiet s = same_left st new side (ap (λ (z : Point). z.told) s.5) (ap (λ (z : Point). z.heads) s.5) (ap (λ (z : Point). z.synced) s.5)
synced_stays st new (WritesHead h) side quiet s = head_left st new side h (ap (λ (z : Point). z.told) s.1) (ap (λ (z : Point). z.heads) s.1) (ap (λ (z : Point). z.synced) s.1)
synced_stays st new Syncs side quiet s = absurd (cc)
synced_stays st new Turns side quiet s = same_left st new side (ap (λ (z : Point). z.told) s.5) (ap (λ (z : Point). z.heads) s.5) (ap (λ (z : Point). z.synced) s.5)
synced_stays st new (CopyFails r ws n) side quiet s = place_left st new side r ws (ap (λ (z : Point). z.told) s.4) (ap (λ (z : Point). z.heads) s.4) (ap (λ (z : Point). z.synced) s.4)
synced_stays st new (HeadFails h n) side quiet s = head_left st new side h (ap (λ (z : Point). z.told) s.1) (ap (λ (z : Point). z.heads) s.1) (ap (λ (z : Point). z.synced) s.1)
synced_stays st new (SyncFails n) side quiet s = same_left st new side (ap (λ (z : Point). z.told) s.1) (ap (λ (z : Point). z.heads) s.1) (ap (λ (z : Point). z.synced) s.1)
synced_stays st new (TurnFails n) side quiet s = same_left st new side (ap (λ (z : Point). z.told) s.5) (ap (λ (z : Point). z.heads) s.5) (ap (λ (z : Point). z.synced) s.5)
synced_stays st new Finishes side quiet s = same_left st new side (ap (λ (z : Point). z.told) s.1) (ap (λ (z : Point). z.heads) s.1) (ap (λ (z : Point). z.synced) s.1)
