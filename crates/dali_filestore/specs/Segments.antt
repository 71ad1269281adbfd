-- Files in a folder whose log is kept in segments.
--     faults_of files       how many calls on them failed
--     failure_of files      why the last of these failed
--     access_of files       what may be done with them
--     has_no_locks files    they are open on a file system that has no locks
--     segment_path folder number    where a segment is
--     IsCounted old new result      a call came to this: one that is Ok leaves count and failure, one that fails counts one fault and tells why
use Rattle.std.specs.Prelude.{ℕ, List, ◌++◌, codes, decimal, ◌≡◌, Bool, Option, IsSome, Result, OnOk, OnErr}
use Rattle.dali_store.specs.Faults.{HasCause, one_more}
use Rattle.dali_filestore.specs.Folder.{lacks_locks}
use Rattle.dali_filestore.specs.declared.access.Access.{Access}
use Rattle.dali_filestore.specs.declared.failure.Failure.{Failure}
use Rattle.dali_filestore.specs.declared.folder_files.FolderFiles.{FolderFiles}

abbrev pub faults_of : {F P : Type 0} → FolderFiles F P → ℕ
faults_of s = s.faults

abbrev pub failure_of : {F P : Type 0} → FolderFiles F P → Option Failure
failure_of s = s.failure

abbrev pub access_of : {F P : Type 0} → FolderFiles F P → Access
access_of s = s.access

abbrev pub has_no_locks : {F P : Type 0} → FolderFiles F P → Bool
has_no_locks s = lacks_locks s.files

abbrev pub segment_path : List ℕ → ℕ → List ℕ
segment_path folder number = folder ++ (codes "/dali.log." ++ decimal number)

-- nothing but the opened files is changed
pub record IsSameBut {F P : Type 0} (old new : FolderFiles F P) : Type 0 where
  pub faults : faults_of new ≡ faults_of old
  pub failure : failure_of new ≡ failure_of old
  pub access : access_of new ≡ access_of old

pub record IsCounted {F P T E : Type 0} (old new : FolderFiles F P) (result : Result T E) : Type 0 where
  pub cause : HasCause (faults_of old) (faults_of new) result
  pub kept : OnOk result (faults_of new ≡ faults_of old)
  pub still : OnOk result (failure_of new ≡ failure_of old)
  pub counted : OnErr result (faults_of new ≡ one_more (faults_of old))
  pub told : OnErr result (IsSome (failure_of new))
  pub access : access_of new ≡ access_of old
