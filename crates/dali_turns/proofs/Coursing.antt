-- A list of steps of a core with its store, made by a client of a round.
use Rattle.std.proofs.Common.{◌≡◌, ℕ, Bool, true, List, [], ◌∷◌, Option, IfSome, is_some, subst}
use Rattle.std.specs.List.{list_all}
use Rattle.dali_record.specs.declared.records.Record.{Record}
use Rattle.dali_region.specs.State.{RegionState}
use Rattle.dali_store.specs.Store.{Files as Disk}
use Rattle.dali_store.specs.declared.store.Store.{Ghosts}
use Rattle.dali_runs.specs.State.{SystemState, state_of}
use Rattle.dali_crash.specs.Checkpoints.{StoreStep, Point, IsPointCourse}
use Rattle.dali_crash.specs.StoreRuns.{FlagTells}
use Rattle.dali_crash.specs.Traces.{Start, bases_of}
use Rattle.dali_crash.proofs.Flags.{flag_stays}
use Rattle.dali_core.specs.Vault.Vaulted.{Vaulted}
use Rattle.dali_during.proofs.Points.{point_whole_course_keeps}
use Rattle.dali_clean.specs.Cleaned.{AreDead}
use Rattle.dali_core.specs.Cores.{IsCoreAt, HoldsPlaces}
use Rattle.dali_transcripts.specs.World.{Deed, World}
use Rattle.dali_transcripts.specs.Telling.Tells.{after, Goes}
use Rattle.dali_transcripts.specs.Telling.Laws.{AreOfCourse}
use Rattle.dali_turns.specs.declared.client.State.{State}
use Rattle.dali_turns.specs.Stood.{IsQuiet, Stood}
use Rattle.dali_turns.specs.Fits.{Owns, Audits, Makes}
use Rattle.dali_turns.specs.Others.{ImageStays}
use Rattle.dali_turns.proofs.Deeds.{course_tells}
use Rattle.dali_turns.proofs.Beside.{is_beside, is_out_of, course_leaves, course_audit}
use Rattle.dali_turns.proofs.Doing.{Did, older}
use Rattle.dali_transactions.specs.Beside.Went.{is_open}

-- the flag tells whether a checkpoint keeps something, along any steps
pub course_flag : (p q : Point) (xs : List StoreStep) → IsPointCourse p xs q → FlagTells p → FlagTells q
course_flag p q [] course told = subst FlagTells course told
course_flag p q (x ∷ xs) course told = course_flag course.0 q xs course.2 (flag_stays p course.0 x told course.1)

module _ {V : Type 0} (means : Ghosts V)
    (precheck : Bool) (s : Start) (B : List (List Record)) (p : Point) (w : World) (gs : List RegionState) (y : SystemState) (v : Vaulted V) (stood : Stood means s B p w precheck gs y v)
    (c : ℕ) (state : State) where
  pub did_course : (xs : List StoreStep) (ds : List Deed) (C : List (List Record)) (q : Point) (hs : List RegionState) (z : SystemState) (u : Vaulted V) → IsPointCourse p xs q → AreOfCourse w c p xs q ds
      → IsCoreAt means s C q hs z u → AreDead hs → IfSome (means.told u.store) (HoldsPlaces hs) → IsQuiet z → (u.stopped ≡ true → is_some z.stop ≡ true)
      → ((t : ℕ) → is_open (state_of y t) ≡ true → (Owns state t → ⊥) → list_all (is_beside t) xs ≡ true) → ((b : ℕ) → (Audits state b → ⊥) → list_all (is_out_of b) xs ≡ true)
      → (y.checking ≡ true → (Makes state → ⊥) → ImageStays means s B p gs y v C q hs z u)
      → Did means precheck s B p w c state gs y v ds C q hs z u
  did_course xs ds C q hs z u course are at dead files calm stops apart out image = record {
    steps = xs;
    course = course;
    goes = goes;
    stood = record {
      stands = record { at = at; whole = point_whole_course_keeps (bases_of s) s.log p q xs stood.stands.at.vault.run.run stood.stands.whole course; dead = dead };
      files = files;
      quiet = calm;
      stops = stops;
      tells = goes.tells;
      precheck_is = stood.precheck_is;
      began = stood.began;
      since = stood.since;
      keeps = course_flag p q xs course stood.keeps;
    };
    others = record {
      txns = λ t lives other. course_leaves t p q xs (older means precheck s B p w gs y v stood c state t lives) (apart t lives other) course;
      audits = λ b less other. course_audit (bases_of s) s.log p q xs b stood.stands.at.vault.run course (out b other) less;
      image = image;
    };
  }
    where
      goes : Goes w c p ds (after w c ds q.core) q
      goes = course_tells (bases_of s) s.log w c p q xs ds stood.stands.at.vault.run stood.tells are
