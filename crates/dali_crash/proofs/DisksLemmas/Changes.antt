-- What a disk spells behind a change of one file.
use Rattle.std.proofs.Common.{◌≢◌, ◌+◌, sym, subst, arith}
use Rattle.dali_store.specs.declared.store.FileName.TheVariants.{Log, Anchor}
use Rattle.dali_log.specs.Log.{LogOf}
use Rattle.dali_crash.specs.Checkpoints.{side_of}
use Rattle.dali_crash.specs.Disks.Disks.{IsImageOf, image_name, head_of, sizes_in}
use Rattle.dali_log.specs.Anchors.{IsAnchor}
use Rattle.dali_crash.specs.Disks.Changes.{SpellsBeside, SpellsLonger, SpellsTurned}
use Rattle.dali_crash.proofs.DisksLemmas.Bridges.{sides_turn, two_names, file_named, no_image, other_files, spells_grown}

pub spells_beside : SpellsBeside
spells_beside c d F is same = record {
  end = is.end;
  log = subst (λ bytes. LogOf bytes F.batches is.end) (sym (same Log (no_image (side_of (F.gates + 1))).0)) is.log;
  anchor = subst (λ bytes. IsAnchor bytes F.gates) (sym (same Anchor (no_image (side_of (F.gates + 1))).1)) is.anchor;
  none = is.none;
  image = λ e. subst (λ bytes. IsImageOf (sizes_in F) bytes (head_of F) F.image) (sym (file_named c d (side_of F.gates) (same (image_name (side_of F.gates)) apart))) (is.image e);
}
  where
    apart : image_name (side_of F.gates) ≢ image_name (side_of (F.gates + 1))
    apart = two_names (side_of F.gates) (side_of (F.gates + 1)) (sides_turn F.gates)

pub spells_longer : SpellsLonger
spells_longer c d F more end is same log = spells_grown c d F F.batches more is.end end is is.log same log

pub spells_turned : SpellsTurned
spells_turned c d F h image is same anchor holds = record {
  end = is.end;
  log = subst (λ bytes. LogOf bytes F.batches is.end) (sym (same Log (λ e. absurd (cc)))) is.log;
  anchor = anchor;
  none = λ e. absurd (omega (arith, e));
  image = λ e. subst (λ bytes. IsImageOf (sizes_in F) bytes h image) (sym (other_files c d (side_of (F.gates + 1)) same)) holds;
}
