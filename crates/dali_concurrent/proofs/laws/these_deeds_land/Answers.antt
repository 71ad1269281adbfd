use Rattle.dali_concurrent.proofs.Cases.{begins_land, answers_land, commits_land, claims_land, audit_begins_land, grants_land, yields_land, strays_land, operates_land, takes_back_land, frees_land, ends_land, dies_land, gives_back_land, recovers_land, takes_land, look_is_made}
use Rattle.dali_concurrent.proofs.laws.these_deeds_land.Goals as goal

pub returns : goal.returns
returns c = record {
  begins = begins_land;
  answers = answers_land;
  commits = commits_land;
  claims = claims_land;
  audits = audit_begins_land;
  grants = grants_land;
  yields = yields_land;
  strays = strays_land;
  operates = operates_land;
  back = takes_back_land;
  frees = frees_land;
  ends = ends_land;
  dies = dies_land;
  given = gives_back_land;
  recovers = recovers_land;
  takes = takes_land;
  looks = look_is_made;
}
