-- Looks that are made where the operation itself is, and what follows of them.
use Rattle.std.proofs.Common.{ℕ, length, arith}
use Rattle.dali_record.specs.declared.records.Record.TheVariants.{Forward}
use Rattle.dali_region.specs.State.{RegionState}
use Rattle.dali_transcripts.specs.World.{Deed, Logs, DiesOn, World}
use Rattle.dali_transcripts.specs.Rounds.{WasRight, HasLooked}
use Rattle.dali_transcripts.specs.Together.{RightBy, RightNow, AtOnceTells}

-- between a look and an operation at the same place there is nothing
pub looks_now : (w : World) (c i r : ℕ) (g : RegionState) → WasRight w i r g → HasLooked w c i r g
looks_now w c i r g was = record { place = i; before = omega arith; right = was; held = λ k d x from below there. absurd (omega (arith, from, below)) }

one_looks : (v : World) (c : ℕ) (x : Deed) → RightNow v x → RightBy v c x
one_looks v c (Logs (Forward t b)) h = λ g was. looks_now v c (length v.happened) b.region g (h g was)
one_looks v c (DiesOn t r) h = λ g was. looks_now v c (length v.happened) r g (h g was)
one_looks v c x h = tt

pub at_once_tells : AtOnceTells
at_once_tells = record {
  all = λ w h. record {
    operations = λ i t c b g e was. looks_now w c i b.region g (h.operations i t c b g e was);
    deaths = λ i t r c g e was. looks_now w c i r g (h.deaths i t r c g e was);
  };
  one = one_looks;
}
