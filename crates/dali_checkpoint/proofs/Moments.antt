-- What a crash at any moment of a call leaves restarts right.
use Rattle.std.proofs.Common.{◌≡◌, ℕ, ◌+◌, Bool, true, [], ◌∷◌, Option, Some, None, IfSome, is_some, refl, ap, sym, subst, ◌∙◌, inl, inr, ⊎_elim}
use Rattle.std.proofs.lemmas.Option.{IfSome_then}
use Rattle.dali_record.specs.Files.{Files}
use Rattle.dali_region.specs.declared.Side.{Side}
use Rattle.dali_store.specs.declared.store.FileName.{FileName}
use Rattle.dali_store.specs.Store.{Files as Disk, LeavesOnly}
use Rattle.dali_store.specs.declared.store.Store.{Ghosts}
use Rattle.dali_runs.specs.State.{SystemState}
use Rattle.dali_runs.specs.Steps.{taken, in_checkpoint}
use Rattle.dali_runs.specs.Courses.{Takes, Flushes}
use Rattle.dali_crash.specs.Checkpoints.{Does, Starts, Keeps, Syncs, Point, IsPointCourse, target, side_of}
use Rattle.dali_crash.specs.Traces.{Start}
use Rattle.dali_crash.proofs.Courses.{flush_logs_none}
use Rattle.dali_crash.specs.Disks.Disks.{Spells, image_name}
use Rattle.dali_crash.specs.Disks.Bridges.{LeavesRightAt}
use Rattle.dali_log.specs.Anchors.{MayHaveMoved}
use Rattle.dali_core.specs.Vault.Vaulted.{Vaulted}
use Rattle.dali_core.specs.Steps.Said.{TornFrom, HasSynced}
use Rattle.dali_core.proofs.StepsLemmas.Steps.{write_is_right_in, turn_is_right_in, crash_is_right}
use Rattle.dali_core.specs.Flushed.{FlushesFrame}
use Rattle.dali_core.specs.Moments.{FlushLeaves, Within, IsRightWithin}
use Rattle.dali_core.proofs.Moments.{none_added, flush_right, leaves_more, leaves_both, leaves_none}
use Rattle.dali_checkpoint.specs.Kept.{side_in}
use Rattle.dali_checkpoint.specs.Moments.{WriteLeft, WriteLeaves, SyncLeft, TurnLeft, TurnLeaves, StartIsRight, CopyIsRight, SettleIsRight, CertifyIsRight, FailureIsRight}
use Rattle.dali_checkpoint.proofs.Joined.{flushes_over}
use Rattle.dali_checkpoint.proofs.Calls.{start_keeps, KeptAt, side_is_next, copying_flushed, CopyingFlushed, settled_flushed, SettledFlushed, certify_turn, CertifyTurn}

-- ---- where the store tells what its reads give
pub each_told : (o : Option Disk) (X : Type 0) → (is_some o ≡ true → X) → IfSome o (λ _. X)
each_told (Some d) X x = x refl
each_told None X x = tt

pub there : (o : Option Disk) (X : Type 0) → is_some o ≡ true → IfSome o (λ _. X) → X
there (Some d) X e x = x
there None X e x = absurd (cc)

-- ---- these steps log nothing
kept_log : (p q : Point) → IsPointCourse p (Starts ∷ Does Takes ∷ Does Flushes ∷ Keeps ∷ []) q → q.log ≡ p.log
kept_log p q c = ap (λ (z : Point). z.log) (sym c.2.2.2.2) ∙ (ap (λ (z : Point). z.log) c.2.2.2.1.4 ∙ (c.2.2.1.1.0.1.0 ∙ (c.2.1.1.0.0 ∙ ap (λ (z : Point). z.log) c.1.1)))

synced_log : (p q : Point) → IsPointCourse p (Does Takes ∷ Does Flushes ∷ Syncs ∷ []) q → q.log ≡ p.log
synced_log p q c = ap (λ (z : Point). z.log) (sym c.2.2.2) ∙ (ap (λ (z : Point). z.log) c.2.2.1.1 ∙ (c.2.1.1.0.1.0 ∙ c.1.1.0.0))

abbrev SpellsRight : Start → Point → Disk → Type 0
SpellsRight s p c = (F : Files) × Spells c F × IsRightWithin s p F

here : (s : Start) (p : Point) (c : Disk) → ((F : Files) × Spells c F × LeavesRightAt s p F) → SpellsRight s p c
here s p c D = (D.0, D.1, record { to = p; steps = []; course = refl; same = refl; regions = refl; right = D.2 })

module _ {V : Type 0} (means : Ghosts V) where
  -- ---- no call was made
  pub none_left : (y : SystemState) (v : Vaulted V) (c : Disk) → means.may_leave v.store c → FlushLeaves means.may_leave y v c
  none_left y v c left = none_added (means.may_leave v.store) v.end _ c left

  -- ---- the flag is none of what is left
  pub left_over : (y z : SystemState) (v : Vaulted V) (f : FileName) (at n : ℕ) (c : Disk) (b : Bool) → z ≡ in_checkpoint y b → WriteLeaves means z v f at n c → WriteLeaves means y v f at n c
  left_over y z v f at n c b e left = ⊎_elim (λ flush. inl flush) (λ w. inr (record { mid = w.mid; flushed = flushes_over means y b v w.mid w.flushed; torn = w.torn })) (subst (λ x. WriteLeaves means x v f at n c) e left)

  -- ---- a start
  pub start_right : StartIsRight means
  start_right s B p gs y v idle runs = each_told (means.told v.store) _ (λ e c left. ⊎_elim
      (λ flush. there (means.told v.store) _ e (flush_right means s B p gs y v idle.at runs) c flush)
      (λ (w : WriteLeft means y v (image_name (side_of (v.current + 1))) 0 64 c).
      let k : KeptAt means s p gs (in_checkpoint (taken y) true) w.mid = start_keeps means s B p gs y v w.mid idle w.flushed in
      let current : k.to.core.vault.current ≡ v.current = k.at.vault.vault.current ∙ ap (λ (z : Vaulted V). z.current) w.flushed.2.vault in
      let torn : TornFrom (means.may_leave w.mid.store) (image_name (target k.to)) 0 64 c = subst (λ n. TornFrom (means.may_leave w.mid.store) (image_name (side_of (n + 1))) 0 64 c) (sym current) w.torn in
      let D = there (means.told w.mid.store) _ (w.flushed.2.ok.tells ∙ e) (write_is_right_in means s k.batches k.to w.mid 0 64 k.at.vault w.flushed.2.ok.runs) c torn in
      (D.0, D.1, record { to = k.to; steps = Starts ∷ Does Takes ∷ Does Flushes ∷ Keeps ∷ []; course = k.course; same = kept_log p k.to k.course; regions = k.at.regions ∙ sym idle.at.regions; right = D.2 }))
      left)

  -- ---- a copy
  pub copy_right : CopyIsRight means
  copy_right s B p gs y v c h at n k runs =
      let side = side_is_next means s B p gs y v c h k.at.vault.run k.is in
      each_told (means.told v.store) _ (λ e d left.
      here s p d (there (means.told v.store) _ e (write_is_right_in means s B p v at n k.at.vault runs) d (subst (λ z. TornFrom (means.may_leave v.store) (image_name z) at n d) side left)))

  -- ---- a settlement
  pub settle_right : SettleIsRight means
  settle_right s B p gs y v c h at n k runs = each_told (means.told v.store) _ (λ e d left. ⊎_elim
      (λ flush. there (means.told v.store) _ e (flush_right means s B p gs y v k.at runs) d flush)
      (λ (w : WriteLeft means y v (image_name (side_in c)) at n d).
      let f : CopyingFlushed means s p gs (taken y) w.mid c h = copying_flushed means s B p gs y (taken y) v w.mid c h k w.flushed refl in
      let side = side_is_next means s f.batches f.to gs (taken y) w.mid c h f.is.at.vault.run f.is.is in
      let D = there (means.told w.mid.store) _ (w.flushed.2.ok.tells ∙ e) (write_is_right_in means s f.batches f.to w.mid at n f.is.at.vault w.flushed.2.ok.runs) d (subst (λ z. TornFrom (means.may_leave w.mid.store) (image_name z) at n d) side w.torn) in
      (D.0, D.1, record { to = f.to; steps = Does Takes ∷ Does Flushes ∷ []; course = f.course; same = flush_logs_none p f.to f.course; regions = f.is.at.regions ∙ sym k.at.regions; right = D.2 }))
      left)

  -- ---- the anchor
  pub certify_right : CertifyIsRight means
  certify_right s B p gs y v c h n b k certified runs = each_told (means.told v.store) _ (λ e d left. ⊎_elim
      (λ flush. there (means.told v.store) _ e (flush_right means s B p gs y v k.at runs) d flush)
      (λ later. ⊎_elim
      (λ (w : SyncLeft means y v d).
      let f : SettledFlushed means s p gs (taken y) w.mid c h n = settled_flushed means s B p gs y (taken y) v w.mid c h n k w.flushed refl in
      let D = there (means.told w.mid.store) _ (w.flushed.2.ok.tells ∙ e) (crash_is_right means s f.batches f.to w.mid f.is.at.vault) d w.left in
      (D.0, D.1, record { to = f.to; steps = Does Takes ∷ Does Flushes ∷ []; course = f.course; same = flush_logs_none p f.to f.course; regions = f.is.at.regions ∙ sym k.at.regions; right = D.2 }))
      (λ (w : TurnLeft means y v (side_in c) d).
      let t : CertifyTurn means s p gs (taken y) w.late h b = certify_turn means s B p gs y v w.mid w.late c h n b k certified w.flushed w.synced in
      let D = there (means.told w.late.store) _ (w.synced.ok.tells ∙ (w.flushed.2.ok.tells ∙ e))
      (turn_is_right_in means s t.batches t.to w.late h b t.end t.at.vault w.synced.ok.runs (ap is_some t.may.begun) t.may t.held) d w.moved in
      (D.0, D.1, record { to = t.to; steps = Does Takes ∷ Does Flushes ∷ Syncs ∷ []; course = t.course; same = synced_log p t.to t.course; regions = t.at.regions ∙ sym k.at.regions; right = D.2 }))
      later)
      left)

  pub failure_right : FailureIsRight means
  failure_right s B p gs y v at runs = flush_right means s B p gs y v at runs

-- ---- a call that is made of several
module _ {V : Type 0} (means : Ghosts V) where
  -- none of them was made
  pub no_call : (v w : Vaulted V) (P : Disk → Type 0) → ((c : Disk) → means.left_since v.store (means.moment v.store) c → means.may_leave v.store c) → w ≡ v → ((c : Disk) → means.may_leave v.store c → P c) → Within means.told means.moment means.left_since v w P
  no_call v w P now same is = each_told (means.told v.store) _ (λ e. subst (λ (x : Vaulted V). LeavesOnly means.moment means.left_since v.store x.store P) (sym same) (leaves_none means.moment means.left_since means.may_leave v.store P now is))

  pub more_left : (v w : Vaulted V) (P Q : Disk → Type 0) → ((c : Disk) → P c → Q c) → Within means.told means.moment means.left_since v w P → Within means.told means.moment means.left_since v w Q
  more_left v w P Q is one = IfSome_then (means.told v.store) one (λ fs only. leaves_more means.moment means.left_since v.store w.store P Q is only)

  pub flush_write : (y : SystemState) (v mid w : Vaulted V) (f : FileName) (at n : ℕ) → FlushesFrame means y v mid
      → Within means.told means.moment means.left_since v mid (FlushLeaves means.may_leave y v) → LeavesOnly means.moment means.left_since mid.store w.store (TornFrom (means.may_leave mid.store) f at n)
      → Within means.told means.moment means.left_since v w (WriteLeaves means y v f at n)
  flush_write y v mid w f at n flushed one two = IfSome_then (means.told v.store) one (λ fs only.
      leaves_both means.moment means.left_since v.store mid.store w.store (FlushLeaves means.may_leave y v) (TornFrom (means.may_leave mid.store) f at n) (WriteLeaves means y v f at n)
      (λ c left. inl left) (λ c torn. inr (record { mid = mid; flushed = flushed; torn = torn })) only two)

  pub flush_sync : (y : SystemState) (v mid w : Vaulted V) (side : Side) → FlushesFrame means y v mid
      → Within means.told means.moment means.left_since v mid (FlushLeaves means.may_leave y v) → LeavesOnly means.moment means.left_since mid.store w.store (means.may_leave mid.store)
      → Within means.told means.moment means.left_since v w (TurnLeaves means y v side)
  flush_sync y v mid w side flushed one two = IfSome_then (means.told v.store) one (λ fs only.
      leaves_both means.moment means.left_since v.store mid.store w.store (FlushLeaves means.may_leave y v) (means.may_leave mid.store) (TurnLeaves means y v side)
      (λ c left. inl left) (λ c left. inr (inl (record { mid = mid; flushed = flushed; left = left }))) only two)

  pub flush_turn : (y : SystemState) (v mid late w : Vaulted V) (side : Side) → FlushesFrame means y v mid → HasSynced means mid (image_name side) late
      → Within means.told means.moment means.left_since v mid (FlushLeaves means.may_leave y v) → LeavesOnly means.moment means.left_since mid.store late.store (means.may_leave mid.store) → Within means.told means.moment means.left_since late w (MayHaveMoved (means.may_leave late.store) late.current)
      → Within means.told means.moment means.left_since v w (TurnLeaves means y v side)
  flush_turn y v mid late w side flushed synced one two three = each_told (means.told v.store) _ (λ e.
      leaves_both means.moment means.left_since v.store late.store w.store (TurnLeaves means y v side) (MayHaveMoved (means.may_leave late.store) late.current) (TurnLeaves means y v side)
      (λ c left. left) (λ c moved. inr (inr (record { mid = mid; flushed = flushed; late = late; synced = synced; moved = moved })))
      (there (means.told v.store) _ e (flush_sync y v mid late side flushed one two))
      (there (means.told late.store) _ (synced.ok.tells ∙ (flushed.2.ok.tells ∙ e)) three))
