use Rattle.dali_segments.proofs.Quiets.{quiet_on}
use Rattle.dali_segments.proofs.Extents.{measures}
use Rattle.dali_segments.proofs.extent.measure_log.Goals as goal

pub returns-in_err-last-clause-quiet : goal.returns-in_err-last-clause-quiet
returns-in_err-last-clause-quiet g c = (quiet_on _ _ _ _ _ _ _ _ _ _ _ _ _ _ _ (λ t x le. g.met.F.Files.counts_now _ t x le) (record { told = c.length.ensures.told; crash = c.length.ensures.crash; going = c.length.ensures.going; time = c.length.ensures.time }) c.last_of.ensures.quiet)

pub returns-in_err-behind-clause-quiet : goal.returns-in_err-behind-clause-quiet
returns-in_err-behind-clause-quiet g c = (quiet_on _ _ _ _ _ _ _ _ _ _ _ _ _ _ _ (λ t x le. g.met.F.Files.counts_now _ t x le) (quiet_on _ _ _ _ _ _ _ _ _ _ _ _ _ _ _ (λ t x le. g.met.F.Files.counts_now _ t x le) (record { told = c.length.ensures.told; crash = c.length.ensures.crash; going = c.length.ensures.going; time = c.length.ensures.time }) c.last_of.ensures.quiet) c.length_of.ensures.quiet)

pub returns-clause-quiet : goal.returns-clause-quiet
returns-clause-quiet g c = (quiet_on _ _ _ _ _ _ _ _ _ _ _ _ _ _ _ (λ t x le. g.met.F.Files.counts_now _ t x le) (quiet_on _ _ _ _ _ _ _ _ _ _ _ _ _ _ _ (λ t x le. g.met.F.Files.counts_now _ t x le) (record { told = c.length.ensures.told; crash = c.length.ensures.crash; going = c.length.ensures.going; time = c.length.ensures.time }) c.last_of.ensures.quiet) c.length_of.ensures.quiet)

pub returns-clause-measured : goal.returns-clause-measured
returns-clause-measured g c =
    measures c.args.size c.in_ok-marked.marked c.min-most.result c.in_ok-last.last c.in_ok-behind.behind c.min-most.ensures _ _ _ c.length.ensures.told c.last_of.ensures.quiet.told
    c.in_ok-marked.ensures.length c.in_ok-last.ensures.last c.in_ok-behind.ensures.length
