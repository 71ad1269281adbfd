-- Which file.
--     name_of key     what is printed of it
--     IsKey key       a segment's number is below 4,096
use Rattle.std.specs.Prelude.{⊤, ◌<◌, ℕ, zero, suc, List, ◌++◌, codes, decimal}
use Rattle.dali_files.specs.declared.key.FileKey.{FileKey}
use Rattle.dali_files.specs.declared.key.FileKey.TheVariants.{ImageA, ImageB, Anchor, Segment}

abbrev pub segment_name : ℕ → List ℕ
segment_name zero = codes "log"
segment_name (suc n) = codes "log." ++ decimal (suc n)

abbrev pub name_of : FileKey → List ℕ
name_of ImageA = codes "a"
name_of ImageB = codes "b"
name_of Anchor = codes "anchor"
name_of (Segment number) = segment_name number

abbrev pub IsKey : FileKey → Type 0
IsKey ImageA = ⊤
IsKey ImageB = ⊤
IsKey Anchor = ⊤
IsKey (Segment number) = number < 4096
