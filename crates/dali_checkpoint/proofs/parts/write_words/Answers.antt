use Rattle.std.proofs.Common.{◌≡◌, ◌+◌, ◌*◌, rules, arith, length}
use Rattle.std.specs.Prelude.{flat_map}
use Rattle.dali_record.specs.Spelling.{words_bytes}
use Rattle.dali_crash.specs.Disks.Disks.{image_name}
use Rattle.dali_crash.specs.Disks.Places.{place_of}
use Rattle.dali_core.specs.Steps.Said.{HasWritten}
use Rattle.dali_image.proofs.Sizes.{regions_are_512, sized}
use Rattle.dali_checkpoint.proofs.Lengths.{torn_unless_stopped, written_reaches}
use Rattle.dali_checkpoint.proofs.parts.write_words.Goals as goal

pub returns-in_err-image_write-clause-files : goal.returns-in_err-image_write-clause-files
returns-in_err-image_write-clause-files g c = torn_unless_stopped g.V.Store.told c.args.vault.now c.image_write.new.vault (image_name c.args.side) _ _ (λ stopped. (c.image_write.ensures.stopped stopped).1) c.image_write.ensures.torn

pub returns-clause-files : goal.returns-clause-files
returns-clause-files g c = torn_unless_stopped g.V.Store.told c.args.vault.now c.image_write.new.vault (image_name c.args.side) _ _ (λ stopped. (c.image_write.ensures.stopped stopped).1) c.image_write.ensures.torn

pub returns-clause-reaches : goal.returns-clause-reaches
returns-clause-reaches g c =
    let said : HasWritten g.V.Store c.args.vault.now (image_name c.args.side) (place_of c.args.from) (flat_map words_bytes c.args.words.now) c.image_write.new.vault = search rules in
    let long : length (flat_map words_bytes c.args.words.now) ≡ 512 * length c.args.words.now = regions_are_512 c.args.words.now (sized c.args.words.now c.told-words) in
    written_reaches c.args.side (place_of c.args.from) (c.args.from + length c.args.words.now) (flat_map words_bytes c.args.words.now) (g.V.Store.told c.args.vault.now.store) (g.V.Store.told c.image_write.new.vault.store)
    (omega (arith, long)) c.requires.inside said.written
