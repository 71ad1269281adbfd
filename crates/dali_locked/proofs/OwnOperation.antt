-- The operation of a step outside of a plan's call, from its latch to its record. P: what its block is.
use Rattle.std.proofs.Common.{◌≡◌, ℕ, ◌<◌, ◌^◌, true, Option, Some, None, IsSome, IfSome, IsSomeAnd, Result, Err, IfErr, refl, ap, sym, subst, ◌∙◌}
use Rattle.dali_record.specs.declared.operations.Block.{Block}
use Rattle.dali_region.specs.State.{RegionState, latched, with_reads, touched}
use Rattle.dali_region.specs.declared.Receipt.{Receipt}
use Rattle.dali_runs.specs.State.{SystemState}
use Rattle.dali_runs.specs.Regions.{IsOpen}
use Rattle.dali_system.specs.Served.{Served}
use Rattle.dali_system.specs.Refused.{stop_refusal}
use Rattle.dali_system.specs.declared.error.SystemError.{SystemError}
use Rattle.dali_system.specs.declared.error.SystemError.TheVariants.{OutOfMemory as Memory}
use Rattle.dali_system.specs.declared.operation.Operation.{Operation}
use Rattle.dali_system.specs.UnderWay.{IsUnderWay, OneIsUnderWay, all_written}
use Rattle.dali_system.proofs.UnderWays.{written_is_open}
use Rattle.dali_concurrent.specs.Rules.{live_in}
use Rattle.dali_locked.specs.Undoing.{IsOf}
use Rattle.dali_locked.proofs.RegionKnows.{Opening}

module _ (t : ℕ) (P : Block → Type 0) where
  -- it is latched
  pub own_opening : ((b : Block) → P b → b.read < 2 ^ 64) → (op : Option Operation) (g h : RegionState)
      → IsSomeAnd op (λ o. (o.txn ≡ t) × P o.block × IsUnderWay o.txn o.block o.left o.taken h × (h ≡ with_reads o.block.read (latched t g)))
      → Opening op t g h
  own_opening few None g h w = absurd w
  own_opening few (Some o) g h w = record { mask = o.block.read; fits = few o.block w.1; is = w.3; under_way = w.2 }

  pub own_opened : (op : Option Operation) (g h : RegionState)
      → IsSomeAnd op (λ o. (o.txn ≡ t) × P o.block × IsUnderWay o.txn o.block o.left o.taken h × (h ≡ with_reads o.block.read (latched t g)))
      → IsSomeAnd op (λ o. (o.txn ≡ t) × P o.block × (h ≡ with_reads o.block.read (latched t g)))
  own_opened None g h w = w
  own_opened (Some o) g h w = (w.0, w.1, w.3)

  pub own_if : (op : Option Operation) (F G : Operation → Type 0) → IsSomeAnd op (λ o. (o.txn ≡ t) × P o.block × F o × G o) → IsOf t P op
  own_if None F G w = tt
  own_if (Some o) F G w = (w.0, w.1)

  -- a word is written
  pub own_updated : (op q : Option Operation) → IsOf t P op → IsSome op → IfSome op (λ o. IsSomeAnd q (λ k. (k.txn ≡ o.txn) × (k.block ≡ o.block))) → IsOf t P q
  own_updated None q own some same = absurd (cc)
  own_updated (Some o) None own some same = absurd same
  own_updated (Some o) (Some k) own some same = (same.0 ∙ own.0, subst P (sym same.1) own.1)

  pub own_held : (op : Option Operation) (g : RegionState) → IsOf t P op → OneIsUnderWay op g → live_in g.hold ≡ Some t
  own_held None g own under = absurd under
  own_held (Some o) g own under = ap live_in under.hold ∙ ap Some own.0

  -- all are
  pub own_written : (op : Option Operation) (g : RegionState) → IsOf t P op → OneIsUnderWay op g → all_written op ≡ true → IsSomeAnd op (λ o. (o.txn ≡ t) × P o.block × IsOpen g o.txn o.block)
  own_written op g own under all = of op own (written_is_open op g under all)
    where
      of : (q : Option Operation) → IsOf t P q → IsSomeAnd q (λ o. IsOpen g o.txn o.block) → IsSomeAnd q (λ o. (o.txn ≡ t) × P o.block × IsOpen g o.txn o.block)
      of None own is = is
      of (Some o) own is = (own.0, own.1, is)

pub record InHand (t : ℕ) (P : Block → Type 0) (operation : Option Operation) (g : RegionState) : Type 0 where
  pub op : Operation
  pub is_it : operation ≡ Some op
  pub own : op.txn ≡ t
  pub block : P op.block
  pub written : IsOpen g op.txn op.block
  pub held : live_in g.hold ≡ Some t

pub in_hand : (t : ℕ) (P : Block → Type 0) (operation : Option Operation) (g : RegionState) → IsOf t P operation → OneIsUnderWay operation g → all_written operation ≡ true → InHand t P operation g
in_hand t P operation g own under all = of operation refl (own_written t P operation g own under all)
  where
    of : (q : Option Operation) → operation ≡ q → IsSomeAnd q (λ o. (o.txn ≡ t) × P o.block × IsOpen g o.txn o.block) → InHand t P operation g
    of None e is = absurd is
    of (Some o) e is = record { op = o; is_it = e; own = is.0; block = is.1; written = is.2; held = ap live_in is.2.hold ∙ ap Some is.0 }

-- why the system refuses
module _ (y z : SystemState) (same : y ≡ z) (r : Result Receipt SystemError) where
  pub stop_refused : IfSome (stop_refusal y) (λ e. r ≡ Err e) → IfSome (stop_refusal z) (λ e. r ≡ Err e)
  stop_refused h = subst (λ u. IfSome (stop_refusal u) (λ e. r ≡ Err e)) same h

  pub stop_memory : (stop_refusal y ≡ None → IfErr r (λ e. e ≡ Memory)) → stop_refusal z ≡ None → IfErr r (λ e. e ≡ Memory)
  stop_memory h none = h (ap stop_refusal same ∙ none)

-- behind the system's answer
pub if_it : (q : Option Operation) (op : Operation) (F : Operation → Type 0) → q ≡ Some op → IfSome q F → F op
if_it q op F is h = subst (λ z. IfSome z F) is h
