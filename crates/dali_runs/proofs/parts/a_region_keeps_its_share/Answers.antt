use Rattle.dali_runs.proofs.PartsLemmas.Shares.{region_parts, region_joins, audits_certify}
use Rattle.dali_runs.proofs.parts.a_region_keeps_its_share.Goals as goal

pub returns-clause-parts : goal.returns-clause-parts
returns-clause-parts c = region_parts

pub returns-clause-joins : goal.returns-clause-joins
returns-clause-joins c = region_joins

pub returns-clause-audits : goal.returns-clause-audits
returns-clause-audits c = audits_certify
