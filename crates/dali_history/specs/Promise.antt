-- What a restart promises over lists of records, as its user reads it.
--     RestartsAs L M           M is a history, and a restart of it comes to what a restart of L comes to
--     RestartIsRight L         what a restart of L gives and reports, what becomes of each commit, and that a stop behind its record changes nothing
use Rattle.std.specs.Prelude.{◌≡◌, ℕ, List, [], ◌∷◌, ◌++◌, ◌↔◌, Contains}
use Rattle.std.specs.List.Sorted.{IsStrictlyIncreasing}
use Rattle.dali_record.specs.declared.records.Call.{Call}
use Rattle.dali_record.specs.declared.records.Answer.TheVariants.{Odd}
use Rattle.dali_record.specs.declared.records.Record.{Record}
use Rattle.dali_record.specs.declared.records.Record.TheVariants.{Begin, Done, Commit, Ended, Restarted}
use Rattle.dali_record.specs.Epochs.{last_epoch, recovered_epoch}
use Rattle.dali_record.specs.Damage.{damage_of, IsDeleted, rolled_list, deleted_list}
use Rattle.dali_record.specs.Legal.{sizes_of}
use Rattle.dali_history.specs.Serial.{survivors, expected}
use Rattle.dali_history.specs.Recovered.{recovered}
use Rattle.dali_history.specs.History.{IsHistory, RestartGives}
use Rattle.dali_history.specs.Acknowledged.{KeepsCommitted}

pub record RestartsAs (L M : List Record) : Type 0 where
  pub history : IsHistory M
  pub sizes : sizes_of M ≡ sizes_of L
  pub image : recovered (sizes_of M) M ≡ recovered (sizes_of L) L
  pub survivors_are : survivors M ≡ survivors L
  pub expected_is : expected M ≡ expected L
  pub epoch : recovered_epoch M ≡ recovered_epoch L

pub record RestartIsRight (L : List Record) : Type 0 where
  -- exactly the records of the surviving transactions, replayed one after another in commit order with the answers they got
  pub gives : RestartGives L (recovered (sizes_of L) L) (rolled_list (recovered_epoch L)) (deleted_list (recovered_epoch L))
  -- no answer of a survivor is Odd
  pub none_odd : (t : ℕ) (c : Call) (p : ℕ) → Contains (survivors L) t → Contains L (Done t c (Odd p)) → ⊥
  -- each commit of a log that this one goes on from survives, unless a chain deletes it
  pub keeps : (A B : List Record) → A ++ B ≡ L → KeepsCommitted A L
  -- the reported lists
  pub deleted : (t : ℕ) → Contains (deleted_list (recovered_epoch L)) t ↔ IsDeleted (damage_of (recovered_epoch L)) (recovered_epoch L).records t
  pub rolled : (t : ℕ) → Contains (rolled_list (recovered_epoch L)) t ↔ (Contains (recovered_epoch L).records (Begin t) × (Contains (recovered_epoch L).records (Commit t) → ⊥) × (Contains (recovered_epoch L).records (Ended t) → ⊥))
  pub deleted_ascends : IsStrictlyIncreasing (deleted_list (recovered_epoch L))
  pub rolled_ascends : IsStrictlyIncreasing (rolled_list (recovered_epoch L))
  -- a stop behind the record of this restart
  pub again : (r : Record) (E : List Record) → (last_epoch L).records ≡ r ∷ E → RestartsAs L (L ++ Restarted (rolled_list (recovered_epoch L)) (deleted_list (recovered_epoch L)) ∷ [])
  -- the lists that a restart named are those that the next one reports
  pub named : (A : List Record) (rs ds : List ℕ) → A ++ Restarted rs ds ∷ [] ≡ L → (rs ≡ rolled_list (recovered_epoch L)) × (ds ≡ deleted_list (recovered_epoch L))
