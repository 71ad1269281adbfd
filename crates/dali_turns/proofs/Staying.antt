-- A client that fits a world fits it behind a step of another one.
use Rattle.std.proofs.Common.{ℕ, Option, refl}
use Rattle.dali_store.specs.Store.{Files as Disk}
use Rattle.dali_store.specs.declared.store.Store.{Ghosts}
use Rattle.dali_turns.specs.declared.client.State.TheVariants.{Outside, LeftOut, Within, Calling, TakingBack, Committing, Waiting, Auditing, Copying, Certifying, Gone}
use Rattle.dali_turns.specs.Others.{OthersFit}
use Rattle.dali_turns.proofs.Resting.{outside_waits, left_out_waits, waiting_waits, within_waits, calling_waits, taking_back_waits, committing_waits}
use Rattle.dali_turns.proofs.Apart.{auditing_waits, copying_waits, certifying_waits}

module _ {V : Type 0} (means : Ghosts V) where
  pub others_fit : OthersFit means
  others_fit Outside yours s B C p q w x gs hs y z v u precheck a b rest ds stood late stands theirs fits their_fits other apart goes leaves =
      outside_waits means s B C p q w x gs hs y z v u precheck a b ds yours stood late goes leaves rest fits
  others_fit LeftOut yours s B C p q w x gs hs y z v u precheck a b rest ds stood late stands theirs fits their_fits other apart goes leaves =
      left_out_waits means s B C p q w x gs hs y z v u precheck a b ds yours stood late goes leaves rest fits
  others_fit (Within t) yours s B C p q w x gs hs y z v u precheck a b rest ds stood late stands theirs fits their_fits other apart goes leaves =
      within_waits means s B C p q w x gs hs y z v u precheck a b ds yours stood late goes leaves rest t (λ owns. apart t.txn refl owns) fits
  others_fit (Calling t plan) yours s B C p q w x gs hs y z v u precheck a b rest ds stood late stands theirs fits their_fits other apart goes leaves =
      calling_waits means s B C p q w x gs hs y z v u precheck a b ds yours stood late goes leaves rest t plan (λ owns. apart t.txn refl owns) fits
  others_fit (TakingBack t plan why) yours s B C p q w x gs hs y z v u precheck a b rest ds stood late stands theirs fits their_fits other apart goes leaves =
      taking_back_waits means s B C p q w x gs hs y z v u precheck a b ds yours stood late goes leaves rest t plan why (λ owns. apart t.txn refl owns) fits
  others_fit (Committing t number removals next) yours s B C p q w x gs hs y z v u precheck a b rest ds stood late stands theirs fits their_fits other apart goes leaves =
      committing_waits means s B C p q w x gs hs y z v u precheck a b ds yours stood late goes leaves rest t number removals.items next (λ owns. apart t.txn refl owns) fits
  others_fit (Waiting tries holder) yours s B C p q w x gs hs y z v u precheck a b rest ds stood late stands theirs fits their_fits other apart goes leaves =
      waiting_waits means s B C p q w x gs hs y z v u precheck a b ds yours stood late goes leaves rest tries holder fits
  others_fit (Auditing audit next) yours s B C p q w x gs hs y z v u precheck a b rest ds stood late stands theirs fits their_fits other apart goes leaves =
      auditing_waits means s B C p q w x gs hs y z v u precheck a b ds yours stood late other stands theirs their_fits goes leaves rest audit next fits
  others_fit (Copying c next) yours s B C p q w x gs hs y z v u precheck a b rest ds stood late stands theirs fits their_fits other apart goes leaves =
      copying_waits means s B C p q w x gs hs y z v u precheck a b ds yours stood late other stands theirs their_fits goes leaves rest c next fits
  others_fit (Certifying c audit next) yours s B C p q w x gs hs y z v u precheck a b rest ds stood late stands theirs fits their_fits other apart goes leaves =
      certifying_waits means s B C p q w x gs hs y z v u precheck a b ds yours stood late other stands theirs their_fits goes leaves rest c audit next fits
  others_fit Gone yours s B C p q w x gs hs y z v u precheck a b rest ds stood late stands theirs fits their_fits other apart goes leaves = fits
