-- What a redo tells of the scan for damage.
--     is_ended k t             t has an Ended in the present epoch
--     IsSettled k              what is so of transactions where each record passed the tests
--     FollowsScan base x d k c
--     Redoes base x d k        over the words base, x has made the records of the present epoch as the scan with the damage d judges, and k is what is known
use Rattle.std.specs.Prelude.{◌≡◌, ℕ, Bool, true, false, List, []}
use Rattle.dali_record.specs.Damage.{Damage, has}
use Rattle.dali_record.specs.Log.{ended}
use Rattle.dali_record.specs.Settled.{redo_all}
use Rattle.dali_resume.specs.Laws.{undos_in}
use Rattle.dali_resume.specs.Resumed.{Scan}
use Rattle.dali_resume.specs.Tests.{Known, is_running, is_waiting}
use Rattle.dali_redo.specs.Taint.Following.{scanned, is_begun, is_committed, IsOrderly}
use Rattle.dali_redo.specs.Redoing.{Redoing, Knows, is_left, performed}

abbrev pub is_ended : Known → ℕ → Bool
is_ended k t = has (ended k.seen) t

pub record IsSettled (k : Known) : Type 0 where
  pub ends : (t : ℕ) → is_ended k t ≡ true → is_begun k t ≡ true
  pub waits : (t : ℕ) → is_waiting (k.statuses t) ≡ true → is_committed k t ≡ true
  pub works : (t : ℕ) → is_running (k.statuses t) ≡ true → is_ended k t ≡ false
  pub runs : (t : ℕ) → is_begun k t ≡ true → is_committed k t ≡ false → is_ended k t ≡ false → is_running (k.statuses t) ≡ true

pub record FollowsScan (base : List (List ℕ)) (x : Redoing) (d : Damage) (k : Known) (c : Scan) : Type 0 where
  pub knows : Knows x k
  pub orderly : IsOrderly k c
  pub settled : IsSettled k
  pub image : x.image ≡ redo_all base c.kept
  -- the corrupt ones are those of whom a record was skipped
  pub left : (t : ℕ) → is_left x t ≡ c.corrupt t
  pub undos : (t : ℕ) → c.corrupt t ≡ true → performed x t ≡ c.undos t
  pub plain : (t : ℕ) → c.corrupt t ≡ false → is_committed k t ≡ false → undos_in (k.statuses t) ≡ c.undos t
  pub born : (t : ℕ) → is_begun k t ≡ false → c.undos t ≡ []

abbrev pub Redoes : List (List ℕ) → Redoing → Damage → Known → Type 0
Redoes base x d k = FollowsScan base x d k (scanned d k)
