-- Calls that change nothing of what reads give, and after which a crash leaves no more than before.
-- Words: IsQuiet.
use Rattle.std.specs.Prelude.{◌≡◌, ℕ, Option}
use Rattle.dali_files.specs.Files.{Contents, Elapses}
use Rattle.dali_files.specs.declared.key.FileKey.{FileKey}

pub record IsQuiet (old new : Option Contents) (before after : Contents → Type 0) (was_going is_going : FileKey → Type 0) (moment now : ℕ) (past since : ℕ → Contents → Type 0) : Type 0 where
  pub told : new ≡ old
  pub crash : (c : Contents) → after c → before c
  pub going : (g : FileKey) → is_going g → was_going g
  pub time : Elapses moment now past since after
