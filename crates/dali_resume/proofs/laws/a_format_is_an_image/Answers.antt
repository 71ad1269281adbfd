use Rattle.dali_resume.proofs.Formats.{format_rests}
use Rattle.dali_resume.proofs.Stopped.{format_fits, format_hands_out}
use Rattle.dali_resume.proofs.laws.a_format_is_an_image.Goals as goal

pub returns-clause-fits : goal.returns-clause-fits
returns-clause-fits c = format_fits

pub returns-clause-rests : goal.returns-clause-rests
returns-clause-rests c = format_rests

pub returns-clause-gives : goal.returns-clause-gives
returns-clause-gives c = format_hands_out
