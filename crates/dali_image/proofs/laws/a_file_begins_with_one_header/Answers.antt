use Rattle.dali_image.proofs.OneHeader.{headers_are_bytes, one_header}
use Rattle.dali_image.proofs.laws.a_file_begins_with_one_header.Goals as goal

pub returns : goal.returns
returns c = record { bytes = headers_are_bytes; one = one_header }
