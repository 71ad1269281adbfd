-- A store over files in a folder.
--     faults_of store      how many of its calls failed
--     failure_of store     why the last of these failed
--     access_of store      what it may do
--     is_open store        its files are open
--     has_no_locks store   its files are open on a file system that has no locks
--     path_of folder file      where one of the files is
--     opened file files        one of the files that were opened
--     IsCounted old new result     a call came to this: one that is Ok leaves the store's count and failure, one that fails counts one fault and tells why
use Rattle.std.specs.Prelude.{ℕ, List, ◌++◌, codes, ◌≡◌, Bool, false, Option, Some, None, is_some, IsSome, Result, OnOk, OnErr}
use Rattle.dali_store.specs.Faults.{HasCause, one_more}
use Rattle.dali_store.specs.Store.{name_of}
use Rattle.dali_store.specs.declared.store.FileName.{FileName}
use Rattle.dali_store.specs.declared.store.FileName.TheVariants.{Log, ImageA, ImageB, Anchor}
use Rattle.dali_filestore.specs.Guards.{is_no_locks}
use Rattle.dali_filestore.specs.declared.access.Access.{Access}
use Rattle.dali_filestore.specs.declared.failure.Failure.{Failure}
use Rattle.dali_filestore.specs.declared.files.FourFiles.{FourFiles}
use Rattle.dali_filestore.specs.declared.store.FileStore.{FileStore}

abbrev pub faults_of : {F P : Type 0} → FileStore F P → ℕ
faults_of s = s.faults

abbrev pub failure_of : {F P : Type 0} → FileStore F P → Option Failure
failure_of s = s.failure

abbrev pub access_of : {F P : Type 0} → FileStore F P → Access
access_of s = s.access

abbrev pub is_open : {F P : Type 0} → FileStore F P → Bool
is_open s = is_some s.files

abbrev pub lacks_locks : {F : Type 0} → Option (FourFiles F) → Bool
lacks_locks (Some files) = is_no_locks files.guard
lacks_locks None = false

abbrev pub has_no_locks : {F P : Type 0} → FileStore F P → Bool
has_no_locks s = lacks_locks s.files

abbrev pub path_of : List ℕ → FileName → List ℕ
path_of folder file = folder ++ (codes "/dali." ++ name_of file)

abbrev pub opened : {F : Type 0} → FileName → FourFiles F → Option F
opened Log files = files.log
opened ImageA files = files.a
opened ImageB files = files.b
opened Anchor files = files.anchor

-- nothing but the files of a store is changed
pub record IsSameBut {F P : Type 0} (old new : FileStore F P) : Type 0 where
  pub faults : faults_of new ≡ faults_of old
  pub failure : failure_of new ≡ failure_of old
  pub access : access_of new ≡ access_of old

pub record IsCounted {F P T E : Type 0} (old new : FileStore F P) (result : Result T E) : Type 0 where
  pub cause : HasCause (faults_of old) (faults_of new) result
  pub kept : OnOk result (faults_of new ≡ faults_of old)
  pub still : OnOk result (failure_of new ≡ failure_of old)
  pub counted : OnErr result (faults_of new ≡ one_more (faults_of old))
  pub told : OnErr result (IsSome (failure_of new))
  pub access : access_of new ≡ access_of old
