-- What the laws of a store over segments rest on.
use Rattle.std.specs.Prelude.{◌≡◌, ◌≤◌, ℕ, Bool, length, Option, Some, None, IfSome, is_some, refl}
use Rattle.std.specs.Option.{ForSome}
use Rattle.std.proofs.Common.{inl, inr, ⊎_elim, sym, subst}
use Rattle.dali_store.specs.Store.{Files, NoLonger, Elapses as FilesElapse}
use Rattle.dali_store.specs.declared.store.FileName.TheVariants.{Log, ImageA, ImageB, Anchor}
use Rattle.dali_files.specs.Files.{Contents, Elapses}
use Rattle.dali_files.specs.declared.key.FileKey.{FileKey}
use Rattle.dali_files.specs.declared.key.FileKey.TheVariants.{ImageA as KeyA, ImageB as KeyB, Anchor as KeyAnchor}
use Rattle.dali_segments.specs.Segments.{store_of, told_of, LeavesWhere, IsSound}

pub reads_law : (size : ℕ) (told : Option Contents) (outcomes : Contents → Type 0)
    → IfSome told (λ fs. outcomes fs) → IfSome (told_of size told) (λ fs. LeavesWhere size told outcomes fs)
reads_law size None outcomes is = tt
reads_law size (Some fs) outcomes is = (fs, is, refl)

pub tells_law : (size : ℕ) (told cut : Option Contents) → is_some cut ≡ is_some told → is_some (told_of size cut) ≡ is_some (told_of size told)
tells_law size None None is = refl
tells_law size None (Some ds) is = is
tells_law size (Some fs) None is = is
tells_law size (Some fs) (Some ds) is = refl

pub cuts_law : (size : ℕ) (told cut : Option Contents) (outcomes : Contents → Type 0)
    → is_some cut ≡ is_some told → IfSome cut (λ fs. outcomes fs) → IfSome (told_of size cut) (λ fs. LeavesWhere size told outcomes fs)
cuts_law size told None outcomes tells is = tt
cuts_law size None (Some ds) outcomes tells is = tt
cuts_law size (Some fs) (Some ds) outcomes tells is = (ds, is, refl)

-- what is left by some contents is left by others
pub leaves_more : (size : ℕ) (told : Option Contents) (one other : Contents → Type 0) (c : Files)
    → ((d : Contents) → one d → other d) → LeavesWhere size told one c → LeavesWhere size told other c
leaves_more size None one other c more left = tt
leaves_more size (Some fs) one other c more (d, is, same) = (d, more d is, same)

-- time goes on for a log as for its files
pub time_law : (size before now : ℕ) (old new : Option Contents) (past since : ℕ → Contents → Type 0) (may_leave : Contents → Type 0)
    → is_some new ≡ is_some old → Elapses before now past since may_leave
    → FilesElapse before now (λ t. LeavesWhere size old (past t)) (λ t. LeavesWhere size new (since t)) (LeavesWhere size new may_leave)
time_law size before now None None past since may_leave tells time =
    record { later = time.later; nothing_else = λ t c le left. inr tt; keeps = λ t c le left. tt }
time_law size before now None (Some ds) past since may_leave tells time = absurd cc
time_law size before now (Some fs) None past since may_leave tells time = absurd cc
time_law size before now (Some fs) (Some ds) past since may_leave tells time = record {
  later = time.later;
  nothing_else = λ t c le left. ⊎_elim (λ old. inl (left.0, old, left.2)) (λ new. inr (left.0, new, left.2)) (time.nothing_else t left.0 le left.1);
  keeps = λ t c le left. (left.0, time.keeps t left.0 le left.1, left.2);
}

-- what a crash leaves of one file is no longer than it is
abbrev pub Shorter : (Contents → Type 0) → (FileKey → Type 0) → Contents → Type 0
Shorter outcomes going files = (c : Contents) → outcomes c → (f : FileKey) → (going f → ⊥) → length (c f) ≤ length (files f)

pub no_longer_law : (lost : Bool) (size last dropped settled : ℕ) (told : Option Contents) (outcomes : Contents → Type 0) (going : FileKey → Type 0)
    → ForSome told (λ fs. IsSound lost size last dropped settled outcomes going fs) → IfSome told (λ fs. Shorter outcomes going fs)
    → IfSome (told_of size told) (λ fs. (c : Files) → LeavesWhere size told outcomes c → NoLonger c fs)
no_longer_law lost size last dropped settled None outcomes going sound shorter = tt
no_longer_law lost size last dropped settled (Some fs) outcomes going sound shorter =
    λ c left. subst (λ (x : Files). NoLonger x (store_of size fs)) (sym left.2) (each left.0 left.1)
  where
    is : IsSound lost size last dropped settled outcomes going fs
    is = sound fs refl

    each : (d : Contents) → outcomes d → NoLonger (store_of size d) (store_of size fs)
    each d out Log = is.no_longer d out
    each d out ImageA = shorter d out KeyA is.held.images.0
    each d out ImageB = shorter d out KeyB is.held.images.1.0
    each d out Anchor = shorter d out KeyAnchor is.held.images.1.1
