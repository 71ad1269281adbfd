-- It owns nothing, so threads may share it.
use denote.Param.Send.{IsSend, IsSync, owning_send, part_keyless}
use Rattle.dali_memfiles.specs.contracts.past.Past.{the_row, the_type}

pub sync : IsSync the_row
sync =
    let send : IsSend the_row = owning_send the_type tt (λ d. tt) (λ k x w. tt) in record { shared = λ d b o κ q. part_keyless the_row send q d b o }
