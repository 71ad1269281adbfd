-- A region's fields, as what contracts see of it.
use Rattle.dali_region.specs.declared.Region.TheInside.{Inside}
use Rattle.dali_region.specs.State.{RegionState, IsProtected, restored, written}

abbrev pub state_of : Inside → RegionState
state_of r = record {
  words = r.words;
  back = restored (written r.hold) r.olds r.words;
  hold = r.hold;
  codeword = r.codeword;
  dirty_a = r.dirty_a;
  dirty_b = r.dirty_b;
  touches = r.touches;
  stray = r.mirror.stray;
  poked = r.mirror.poked;
  sound = r.mirror.sound;
  missed = r.mirror.missed;
}

abbrev pub KeepsItsCodeword : Inside → Type 0
KeepsItsCodeword r = IsProtected (state_of r)
