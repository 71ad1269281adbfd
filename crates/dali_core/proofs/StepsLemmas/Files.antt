-- What is said of files where they are told, over a call.
use Rattle.std.proofs.Common.{◌≡◌, ℕ, Bool, true, false, List, Option, Some, None, IfSome, Result, Err, refl, sym, subst, ◌∙◌}
use Rattle.dali_core.specs.declared.vault.error.VaultError.{VaultError}
use Rattle.dali_core.specs.declared.vault.error.VaultError.TheVariants.{Fault, Stopped}
use Rattle.dali_store.specs.declared.store.FileName.{FileName}
use Rattle.dali_store.specs.Store.{Files as Disk, file_of, SameBut, Holds, HoldsIn, TornTold}
use Rattle.dali_region.specs.declared.Side.{Side}
use Rattle.dali_region.specs.declared.Side.TheVariants.{A, B}
use Rattle.dali_crash.specs.Disks.Disks.{image_file, image_name}

pub named : (side : Side) (fs : Disk) → file_of (image_name side) fs ≡ image_file side fs
named A fs = refl
named B fs = refl

-- the other files stay
pub torn_over : (f : FileName) (at n : ℕ) (old new : Option Disk) (P Q : Disk → Type 0) → TornTold f at n old new → ((a b : Disk) → SameBut f a b → P a → Q b) → IfSome old P → IfSome new Q
torn_over f at n (Some a) (Some b) P Q torn go is = go a b torn.same is
torn_over f at n (Some a) None P Q torn go is = tt
torn_over f at n None (Some b) P Q torn go is = absurd (cc)
torn_over f at n None None P Q torn go is = tt

-- the file holds the bytes, and the other files stay
pub held_over : (f : FileName) (at : ℕ) (bytes : List ℕ) (old new : Option Disk) (P Q : Disk → Type 0) → HoldsIn f at bytes old new → ((a b : Disk) → SameBut f a b → Holds (file_of f a) at bytes (file_of f b) → P a → Q b) → IfSome old P → IfSome new Q
held_over f at bytes (Some a) (Some b) P Q holds go is = go a b holds.1 holds.0 is
held_over f at bytes (Some a) None P Q holds go is = tt
held_over f at bytes None (Some b) P Q holds go is = absurd (cc)
held_over f at bytes None None P Q holds go is = tt

pub same_told : (old new : Option Disk) (P Q : Disk → Type 0) → new ≡ old → ((a : Disk) → P a → Q a) → IfSome old P → IfSome new Q
same_told (Some a) (Some b) P Q same go is = let e : b ≡ a = cc in subst Q (sym e) (go a is)
same_told (Some a) None P Q same go is = tt
same_told None (Some b) P Q same go is = absurd (cc)
same_told None None P Q same go is = tt

-- two facts together
pub if_both : (o : Option Disk) (P Q : Disk → Type 0) → IfSome o P → IfSome o Q → IfSome o (λ a. P a × Q a)
if_both (Some a) P Q p q = (p, q)
if_both None P Q p q = tt

-- a call that met a fault was made of a vault that ran
pub was_running : {T : Type 0} (stopped : Bool) (r : Result T VaultError) → r ≡ Err Fault → (stopped ≡ true → r ≡ Err Stopped) → stopped ≡ false
was_running false r e f = refl
was_running true r e f = absurd (clash (sym e ∙ f refl))
  where
    clash : {T : Type 0} → (let r : Result T VaultError = Err Fault in r ≡ Err Stopped) → ⊥
    clash e = cc
