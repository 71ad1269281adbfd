-- A fuse over a store.
-- Words: inner, passes_of, failed_by, failed_of, forgetful; PassesOn, Burns.
use Rattle.std.specs.Prelude.{◌≡◌, ◌≢◌, ℕ, Option, Some, None, Result, IsErr}
use Rattle.dali_store.specs.Calls.{one_less}
use Rattle.dali_store.specs.Faults.{HasCause}
use Rattle.dali_store.specs.declared.store.StoreFault.{StoreFault}
use Rattle.dali_store.specs.Faults.{one_more}
use Rattle.dali_fuse.specs.declared.fuse.Fuse.{Fuse}

-- a fuse without a number has failed none
abbrev pub failed_by : Option ℕ → ℕ → ℕ
failed_by None failed = 0
failed_by (Some left) failed = failed

module _ {V : Type 0} where
  -- the store
  abbrev pub inner : Fuse V → V
  inner f = f.store

  -- how many more calls it passes on, if not all
  abbrev pub passes_of : Fuse V → Option ℕ
  passes_of f = f.passes

  -- how many calls it failed since it last forgot them
  abbrev pub failed_of : Fuse V → ℕ
  failed_of f = failed_by f.passes f.failed

  -- it has forgotten the calls that it failed
  abbrev pub forgetful : Fuse V → Fuse V
  forgetful f = record f { failed = 0 }

  -- the call was the store's, and failed only where the store's count rose
  pub record PassesOn {T : Type 0} (faults : V → ℕ) (old new : Fuse V) (result : Result T StoreFault) : Type 0 where
    pub cause : HasCause (faults (inner old)) (faults (inner new)) result
    pub passes : passes_of new ≡ one_less (passes_of old)
    pub failed : failed_of new ≡ failed_of old

  -- the call wasn't made: it failed, and is counted
  pub record Blows {T : Type 0} (old new : Fuse V) (result : Result T StoreFault) : Type 0 where
    pub fails : IsErr result
    pub unchanged : inner new ≡ inner old
    pub passes : passes_of new ≡ passes_of old
    pub failed : failed_of new ≡ one_more (failed_of old)

  -- the call is passed on exactly where calls to pass on are left
  pub record Burns {T : Type 0} (faults : V → ℕ) (old new : Fuse V) (result : Result T StoreFault) : Type 0 where
    pub left : passes_of old ≢ Some 0 → PassesOn faults old new result
    pub none_left : passes_of old ≡ Some 0 → Blows old new result
