-- The batch of a restart's record.
use Rattle.std.proofs.Common.{◌≡◌, ℕ, List, [], ◌∷◌, ◌++◌, length, ap, refl, arith, length-append}
use Rattle.std.proofs.lemmas.List.{append-nil}
use Rattle.dali_bytes.specs.Fields.{number32}
use Rattle.dali_bytes.proofs.Numbers.{length-number32}
use Rattle.dali_record.specs.Spelling.{words_bytes}
use Rattle.dali_record.proofs.Lengths.{words_are_8}
use Rattle.dali_store.specs.Store.{Files}
use Rattle.dali_log.specs.Batch.{IsClosedAt}
use Rattle.dali_log.specs.Appending.{SomeAdded}
use Rattle.dali_log.proofs.Bytes.{before_of}
use Rattle.dali_restart.specs.Renewal.Logged.{restart_body, restart_bodies, restart_length}

pub one_body : (rs ds : List ℕ) → restart_bodies rs ds ≡ restart_body rs ds ∷ []
one_body rs ds = ap (λ (b : List ℕ). b ∷ []) (append-nil (restart_body rs ds))

pub body_length : (rs ds : List ℕ) → length (restart_body rs ds) ≡ restart_length rs ds
body_length rs ds =
    omega (
      arith,
      length-append (number32 (length rs) ++ words_bytes rs) (number32 (length ds) ++ words_bytes ds),
      length-append (number32 (length rs)) (words_bytes rs),
      length-append (number32 (length ds)) (words_bytes ds),
      length-number32 (length rs),
      length-number32 (length ds),
      words_are_8 rs,
      words_are_8 ds,
    )

-- nothing was added
pub none_added : (may : Files → Type 0) (at : ℕ) (more : List (List ℕ)) → ((c : Files) → may c → IsClosedAt at c.log) → (c : Files) → may c → SomeAdded may at more c
none_added may at more closed c is = record {
  others = (c, is, λ g other. refl);
  log = (c, is, 0, omega arith, before_of at c.log c.log refl (closed c is));
}
