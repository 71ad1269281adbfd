-- A step that the end of the round cuts short stays so while the world goes on.
use Rattle.std.proofs.Common.{ℕ, List, inl, inr}
use Rattle.dali_transcripts.specs.Words.{Said}
use Rattle.dali_transcripts.specs.World.{World, Grows}
use Rattle.dali_transcripts.specs.Moves.{Receipt, Spot}
use Rattle.dali_transcripts.specs.Transcripts.{IsUnderWay}
use Rattle.dali_transcripts.proofs.Growing.{unfinished, has_cause}

module _ (v w : World) (g : Grows v w) where
  pub under_way_on : (c : ℕ) (q : Spot) (pending : List Receipt) (part : List Said) → IsUnderWay v c q pending part → IsUnderWay w c q pending part
  under_way_on c q pending part (inl h) = inl (h.0, unfinished v w g c q.place q.rest pending h.1)
  under_way_on c q pending part (inr h) = inr (record { move = h.move; starts = h.starts; own_is = h.own_is; cause = has_cause v w g c h.move h.cause; lacking = h.lacking; said_is = h.said_is })
