-- What contracts see of the system: the state of which runs speak, and for how many bytes of records of which transaction memory is promised.
--     Served
--     solo_room                what is promised for each solo: the longest has as many bytes
--     promised_for removals    what is promised for a commit, the solos of so many removals, and the end
use Rattle.std.specs.Prelude.{ℕ, ◌+◌, ◌*◌, refl}
use Rattle.std.specs.Coded.{Coded, code_by, coded×}
use Rattle.dali_runs.specs.State.{SystemState}
use Rattle.dali_system.specs.Coded.{system_code}
use Rattle.dali_system.specs.Promised.{Promised, promised_code}

pub record Served : Type 0 where
  pub state : SystemState
  pub promised : Promised

abbrev pub served_code : Coded Served
served_code = code_by (SystemState × Promised) (coded× system_code promised_code) (λ s. (s.state, s.promised)) (λ p. record { state = p.0; promised = p.1 }) (λ _. refl)

abbrev pub solo_room : ℕ
solo_room = 1017

abbrev pub promised_for : ℕ → ℕ
promised_for removals = 18 + removals * solo_room
