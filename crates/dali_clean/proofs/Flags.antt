-- What a clean-up does to the flags of images.
use Rattle.std.proofs.Common.{◌≡◌, ℕ, List, Option, Some, None, sym, subst}
use Rattle.dali_region.specs.State.{RegionState, taken_back}
use Rattle.dali_calls.specs.Flags.{FlagStays, FlagsStay}
use Rattle.dali_calls.proofs.Flags.{flag_taken_back, flags_equal, flags_set}
use Rattle.dali_clean.specs.Cleaned.{IsRecovered}

pub back_flag : (g h : RegionState) → h ≡ taken_back g → FlagStays g h
back_flag g h e = subst (λ (k : RegionState). FlagStays g k) (sym e) (flag_taken_back g)

pub recovered_flags : (rs rs' : List RegionState) (o : Option ℕ) → IsRecovered rs o rs' → FlagsStay rs rs'
recovered_flags rs rs' None is = flags_equal rs rs' is
recovered_flags rs rs' (Some r) is = subst (λ (l : List RegionState). FlagsStay rs l) (sym is.2) (flags_set rs r is.0 (taken_back is.0) is.1 (flag_taken_back is.0))
