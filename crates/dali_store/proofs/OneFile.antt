-- One file among four.
use Rattle.std.proofs.Common.{◌≡◌, ◌≢◌, ℕ, List, refl}
use Rattle.dali_store.specs.Store.{Files, file_of}
use Rattle.dali_store.specs.declared.store.FileName.{FileName}
use Rattle.dali_store.specs.declared.store.FileName.TheVariants.{Log, ImageA, ImageB, Anchor}

abbrev pub with_file : FileName → List ℕ → Files → Files
with_file Log bytes c = record c { log = bytes }
with_file ImageA bytes c = record c { a = bytes }
with_file ImageB bytes c = record c { b = bytes }
with_file Anchor bytes c = record c { anchor = bytes }

pub file_with : (f : FileName) (bytes : List ℕ) (c : Files) → file_of f (with_file f bytes c) ≡ bytes
file_with Log bytes c = refl
file_with ImageA bytes c = refl
file_with ImageB bytes c = refl
file_with Anchor bytes c = refl

pub file_other : (g f : FileName) (bytes : List ℕ) (c : Files) → g ≢ f → file_of g (with_file f bytes c) ≡ file_of g c
file_other Log Log bytes c other = absurd (other refl)
file_other Log ImageA bytes c other = refl
file_other Log ImageB bytes c other = refl
file_other Log Anchor bytes c other = refl
file_other ImageA Log bytes c other = refl
file_other ImageA ImageA bytes c other = absurd (other refl)
file_other ImageA ImageB bytes c other = refl
file_other ImageA Anchor bytes c other = refl
file_other ImageB Log bytes c other = refl
file_other ImageB ImageA bytes c other = refl
file_other ImageB ImageB bytes c other = absurd (other refl)
file_other ImageB Anchor bytes c other = refl
file_other Anchor Log bytes c other = refl
file_other Anchor ImageA bytes c other = refl
file_other Anchor ImageB bytes c other = refl
file_other Anchor Anchor bytes c other = absurd (other refl)
