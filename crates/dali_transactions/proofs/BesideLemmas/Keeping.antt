-- A core between the calls of its clients, behind a begin, a call, a death and a clean-up.
use Rattle.std.proofs.Common.{◌≡◌, ℕ, Bool, false, [], ◌∷◌, ◌++◌, Option, Some, None, refl, ap, sym, ◌∙◌, option_map}
use Rattle.std.specs.Prelude.{◌==◌, if◌then◌else◌}
use Rattle.dali_record.specs.declared.records.Record.TheVariants.{Begin, Ended}
use Rattle.dali_att.specs.declared.state.State.{State}
use Rattle.dali_att.specs.declared.state.State.TheVariants.{Live, Dead}
use Rattle.dali_att.specs.Table.{fresh_row, with_state}
use Rattle.dali_att.proofs.Changes.{get-added}
use Rattle.dali_store.specs.Store.{Files as Disk}
use Rattle.dali_store.specs.declared.store.Store.{Ghosts}
use Rattle.dali_runs.specs.State.{TxnRow, SystemState, row_of, state_of, state_in}
use Rattle.dali_runs.specs.Steps.{begun, in_state}
use Rattle.dali_calls.proofs.Rows.{row_here}
use Rattle.dali_calls.specs.Single.Stands.{core}
use Rattle.dali_calls.specs.Single.Single.{MayCall, OthersStay as RowsStay}
use Rattle.dali_transactions.specs.Beside.Keeps.{BeginKeeps, PerformKeeps, DieKeeps, CleanKeeps}
use Rattle.dali_transactions.proofs.BesideLemmas.Going.{may_at, between_goes}
use Rattle.dali_transactions.proofs.BesideLemmas.Calls.{begin_goes, perform_goes, die_goes}
use Rattle.dali_transactions.proofs.BesideLemmas.Cleaning.{clean_goes}
use Rattle.dali_transactions.proofs.BesideLemmas.Committing.{gone_is_dead, was_live}

-- who has another row's place
was_there : (y : SystemState) (u : ℕ) → (y.next == u) ≡ false → state_of (begun y) u ≡ Some Live → state_of y u ≡ Some Live
was_there y u away lives =
    ap state_in (sym (get-added y.table y.next fresh_row u ∙ ap (λ (b : Bool). if b then Some fresh_row else row_of y u) away)) ∙ lives

rows_live : (y z : SystemState) (t : ℕ) → RowsStay y t z → (u : ℕ) → (t == u) ≡ false → state_of z u ≡ Some Live → state_of y u ≡ Some Live
rows_live y z t stay u away lives = ap state_in (sym (stay u away).0) ∙ lives

dead_now : (y : SystemState) (t : ℕ) (o : Option ℕ) → state_of (in_state y t (Dead o)) t ≡ Some Live → ⊥
dead_now y t o lives = by_row (row_of y t) (sym (ap state_in (row_here y.table t (with_state (Dead o)))) ∙ lives)
  where
    never : (let n : Option State = None in n ≡ Some Live) → ⊥
    never e = cc

    differ : Some (Dead o) ≡ Some Live → ⊥
    differ e = cc

    by_row : (row : Option TxnRow) → state_in (option_map (with_state (Dead o)) row) ≡ Some Live → ⊥
    by_row None e = never e
    by_row (Some row) e = differ e

module _ {V : Type 0} (means : Ghosts V) where
  pub begin_keeps : BeginKeeps means
  begin_keeps gs y v b room =
      let g = begin_goes means b.up.start b.up.batches b.up.point gs y v b.up.stands room in
      between_goes means y.next (Begin y.next ∷ []) gs gs y (begun y) v b g.0 (λ lives. g.1) (was_there y)

  pub perform_keeps : PerformKeeps means
  perform_keeps precheck gs hs y z v t call a b lives answers stay =
      let p = b.up.point in
      let k = b.up.stands in
      let may : MayCall p.log (core gs y p.core.vault) t = may_at p.log p.log p.core (core gs y p.core.vault) t refl (sym k.at.system) (sym k.at.regions) (b.each t lives) in
      let g = perform_goes means precheck b.up.start b.up.batches p gs hs y z v t call a k (answers p.log p.core.vault may) in
      between_goes means t g.0 gs hs y z v b g.1 (λ still. g.2) (rows_live y z t stay)

  pub die_keeps : DieKeeps means
  die_keeps precheck gs hs y z v plan b lives death stay =
      let g = die_goes means precheck b.up.start b.up.batches b.up.point gs hs y z v plan b.up.stands (b.each plan.txn lives).free death in
      between_goes means plan.txn [] gs hs y z v b g
      (λ still. absurd (dead_now y plan.txn (Some death.block.region) (ap (λ (x : SystemState). state_of x plan.txn) (sym death.system) ∙ still)))
      (rows_live y z plan.txn stay)

  pub clean_keeps : CleanKeeps means
  clean_keeps gs hs y z v t b dead ends others was gone =
      let g = clean_goes means b.up.start b.up.batches b.up.point gs hs y z v t b.up.stands dead ends others was gone in
      between_goes means t (g.0 ++ Ended t ∷ []) gs hs y z v b g.2
      (λ still. absurd (gone_is_dead z t gone.0 still))
      (λ u away lives. was_live gs hs y z u (others.rows u away) lives)
