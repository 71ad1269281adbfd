-- The fields of a clean-up, as contracts see them: it takes back all that is left.
use Rattle.std.specs.Prelude.{◌≡◌}
use Rattle.dali_clean.specs.declared.cleanup.cleaning.Cleaning.TheInside.{Inside}
use Rattle.dali_clean.specs.Cleanup.Cleaned.{Cleaned, IsWhole}

abbrev pub cleaned_of : Inside → Cleaned
cleaned_of c = record { txn = c.back.txn; claimed = c.claimed; latched = c.latched; next = c.back.next; operation = c.back.operation }

abbrev pub IsWholeInside : Inside → Type 0
IsWholeInside c = IsWhole (cleaned_of c) × (c.back.down_to ≡ 0)
