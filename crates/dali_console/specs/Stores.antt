-- A store that is followed.
--     followed f    the store
use Rattle.dali_console.specs.declared.followed.Followed.{Followed}

abbrev pub followed : {V E : Type 0} → Followed V E → V
followed f = f.store
