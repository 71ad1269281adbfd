-- Which file of a store is which key.
-- Words: key_for.
use Rattle.std.specs.Prelude.{Option, Some, None}
use Rattle.dali_store.specs.declared.store.FileName.{FileName}
use Rattle.dali_store.specs.declared.store.FileName.TheVariants.{Log, ImageA, ImageB, Anchor}
use Rattle.dali_files.specs.declared.key.FileKey.{FileKey}
use Rattle.dali_files.specs.declared.key.FileKey.TheVariants.{ImageA as KeyA, ImageB as KeyB, Anchor as KeyAnchor}

-- the key of a file that isn't the log
abbrev pub key_for : FileName → Option FileKey
key_for Log = None
key_for ImageA = Some KeyA
key_for ImageB = Some KeyB
key_for Anchor = Some KeyAnchor
