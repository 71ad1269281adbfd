-- A disk is bad at one place of one file.
use Rattle.std.proofs.Common.{◌≡◌, ◌⊎◌, inl, inr, ℕ, sym, ◌∙◌}
use Rattle.dali_store.specs.declared.store.FileName.{FileName}
use Rattle.dali_store.specs.Store.{Files as Disk}
use Rattle.dali_crash.specs.Disks.Disks.{head_of}
use Rattle.dali_image.specs.Laws.{header_of, table_of}
use Rattle.dali_recovery.proofs.ReloadLemmas.OnePlace.{one_bad_place}
use Rattle.dali_restart.specs.Opening.{IsBadStore}
use Rattle.dali_restart.specs.Laws.{IsBadOnce}
use Rattle.dali_restart.specs.Restarting.{IsBadTail}
use Rattle.dali_restart.proofs.Exact.{nowhere_bad, one_answer}
use Rattle.dali_restart.proofs.Once.{bad_there, begin_same}

good_store : (fs : Disk) (f g : FileName) (at bt : ℕ) → IsBadStore fs f at → IsBadTail fs g bt → ⊥
good_store fs f g at bt store tail =
    nowhere_bad fs tail.sizes tail.files.gates (header_of tail.sizes (head_of tail.files)) tail.files.image
    (table_of tail.files.table) tail.image.reader f at tail.image.opened store

-- both speak of what stands before the records behind the image
one_tail : (fs : Disk) (f g : FileName) (at bt : ℕ) → IsBadTail fs f at → IsBadTail fs g bt → at ≡ bt
one_tail fs f g at bt a b =
    one_bad_place fs.log a.sizes a.files at bt a.bad
    (bad_there fs.log bt a.sizes b.sizes a.files b.files (begin_same fs a.sizes b.sizes a.files b.files a.image b.image) b.bad)

pub bad_once : IsBadOnce
bad_once fs f g at bt (inl a) (inl b) = (one_answer fs).one f g at bt a b
bad_once fs f g at bt (inl a) (inr b) = absurd (good_store fs f g at bt a b)
bad_once fs f g at bt (inr a) (inl b) = absurd (good_store fs g f bt at b a)
bad_once fs f g at bt (inr a) (inr b) = (a.name ∙ sym b.name, one_tail fs f g at bt a b)
