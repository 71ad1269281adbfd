-- A crash inside a whole checkpoint restarts right.
use Rattle.std.proofs.Common.{◌≡◌, ℕ, ◌+◌, Bool, true, false, List, [], ◌∷◌, ◌++◌, Option, IfSome, is_some, refl, sym, subst, ◌∙◌}
use Rattle.dali_record.specs.declared.records.Record.{Record}
use Rattle.dali_record.specs.Files.{Files}
use Rattle.dali_region.specs.State.{RegionState}
use Rattle.dali_store.specs.Store.{Files as Disk, LeavesOnly}
use Rattle.dali_store.specs.declared.store.Store.{Ghosts}
use Rattle.dali_runs.specs.State.{SystemState}
use Rattle.dali_runs.specs.Steps.{taken, in_checkpoint}
use Rattle.dali_audit.specs.Findings.{Judged}
use Rattle.dali_crash.specs.Checkpoints.{Head, StoreStep, Point, IsPointCourse, side_of}
use Rattle.dali_crash.specs.Traces.{Start}
use Rattle.dali_crash.specs.Disks.Disks.{AllSpell, Spells, image_name}
use Rattle.dali_core.specs.Vault.Vaulted.{Vaulted}
use Rattle.dali_core.specs.Steps.Said.{TornFrom}
use Rattle.dali_core.proofs.StepsLemmas.Steps.{crash_is_right}
use Rattle.dali_core.specs.Moments.{FlushLeaves, Within, IsRightWithin}
use Rattle.dali_core.proofs.Moments.{leaves_more, leaves_both}
use Rattle.dali_checkpoint.specs.Kept.{Checkpointed, side_in}
use Rattle.dali_checkpoint.specs.Done.{HasStarted}
use Rattle.dali_checkpoint.specs.Moments.{WriteLeaves, TurnLeaves}
use Rattle.dali_checkpoint.specs.Running.{IsCopying, IsSettled, IsCertifiedAt}
use Rattle.dali_checkpoint.specs.Runs.{is_run_dirty}
use Rattle.dali_checkpoint.specs.Making.{SpellsOnward, StaysRight, CopiesStayRight, ImageStaysRight, HasCopied, HasImage}
use Rattle.dali_checkpoint.proofs.Calls.{course_join}
use Rattle.dali_checkpoint.proofs.Copying.{CopiesTo}
use Rattle.dali_checkpoint.proofs.Moments.{each_told, there, start_right, copy_right, settle_right, certify_right, failure_right, no_call, more_left}
use Rattle.dali_checkpoint.proofs.Results.{still_runs}
use Rattle.dali_checkpoint.proofs.Whole.{start_steps, start_of}

further : (s : Start) (p q : Point) (xs : List StoreStep) → IsPointCourse p xs q → (c : Disk) → SpellsOnward s q c → SpellsOnward s p c
further s p q xs course c D = (D.0, D.1, record { to = D.2.to; steps = xs ++ D.2.steps; course = course_join p q D.2.to xs D.2.steps course D.2.course; right = D.2.right })

onward : (s : Start) (p : Point) (c : Disk) → ((F : Files) × Spells c F × IsRightWithin s p F) → SpellsOnward s p c
onward s p c D = (D.0, D.1, record { to = D.2.to; steps = D.2.steps; course = D.2.course; right = D.2.right })

module _ {V : Type 0} (means : Ghosts V) where
  both_within : (v u w : Vaulted V) (P : Disk → Type 0) → is_some (means.told u.store) ≡ is_some (means.told v.store) → Within means.told means.moment means.left_since v u P → Within means.told means.moment means.left_since u w P → Within means.told means.moment means.left_since v w P
  both_within v u w P tells one two = each_told (means.told v.store) _ (λ e. leaves_both means.moment means.left_since v.store u.store w.store P P P (λ c left. left) (λ c left. left) (there (means.told v.store) _ e one) (there (means.told u.store) _ (tells ∙ e) two))

  -- from a point on
  within_on : (s : Start) (p q : Point) (xs : List StoreStep) → IsPointCourse p xs q → (v w : Vaulted V) → Within means.told means.moment means.left_since v w (SpellsOnward s q) → Within means.told means.moment means.left_since v w (SpellsOnward s p)
  within_on s p q xs course v w one = more_left means v w (SpellsOnward s q) (SpellsOnward s p) (further s p q xs course) one

  right_on : (s : Start) (q : Point) (v w : Vaulted V) (P : Disk → Type 0) → IfSome (means.told v.store) (λ _. AllSpell P (IsRightWithin s q)) → Within means.told means.moment means.left_since v w P → Within means.told means.moment means.left_since v w (SpellsOnward s q)
  right_on s q v w P right one = each_told (means.told v.store) _ (λ e. leaves_more means.moment means.left_since v.store w.store P (SpellsOnward s q) (λ c left. onward s q c (there (means.told v.store) _ e right c left)) (there (means.told v.store) _ e one))

  -- ---- the copies
  pub copies_right_none : (gs : List RegionState) (v : Vaulted V) (c : Checkpointed) → ((d : Disk) → means.left_since v.store (means.moment v.store) d → means.may_leave v.store d) → CopiesStayRight means gs v c v
  copies_right_none gs v c now runs s B p y h k =
      right_on s p v v (means.may_leave v.store) (each_told (means.told v.store) _ (λ e d left. crash s B p gs y v c h k e d left)) (no_call means v v (means.may_leave v.store) now refl (λ d left. left))
    where
      crash : (s : Start) (B : List (List Record)) (p : Point) (gs : List RegionState) (y : SystemState) (v : Vaulted V) (c : Checkpointed) (h : Head) → IsCopying means s B p gs y v c h → is_some (means.told v.store) ≡ true
          → (d : Disk) → means.may_leave v.store d → (F : Files) × Spells d F × IsRightWithin s p F
      crash s B p gs y v c h k e d left =
          let D = there (means.told v.store) _ e (crash_is_right means s B p v k.at.vault) d left in
          (D.0, D.1, record { to = p; steps = []; course = refl; same = refl; regions = refl; right = D.2 })

  pub copies_right_next : (c0 : Checkpointed) (init : List RegionState) (v0 : Vaulted V) (c : Checkpointed) (gs : List RegionState) (v : Vaulted V) → CopiesTo means c0 init v0 c gs v
      → (w : Vaulted V) (at n : ℕ) → CopiesStayRight means init v0 c0 v
      → (is_run_dirty c gs ≡ false → w ≡ v)
      → (is_run_dirty c gs ≡ true → v.stopped ≡ false → LeavesOnly means.moment means.left_since v.store w.store (TornFrom (means.may_leave v.store) (image_name (side_in c)) at n))
      → CopiesStayRight means init v0 c0 w
  copies_right_next c0 init v0 c gs v k w at n before clean torn = by_flag (is_run_dirty c gs) refl
    where
      by_flag : (b : Bool) → is_run_dirty c gs ≡ b → CopiesStayRight means init v0 c0 w
      by_flag false e = subst (λ (x : Vaulted V). CopiesStayRight means init v0 c0 x) (sym (clean e)) before
      by_flag true e = λ runs s B p y h is.
          let a = k.goes s B p y h is in
          let still = still_runs v0 v k.vault runs in
          both_within v0 v w (SpellsOnward s p) k.tells (before runs s B p y h is)
          (within_on s p a.to a.steps a.course v w
          (right_on s a.to v w (TornFrom (means.may_leave v.store) (image_name (side_in c)) at n) (copy_right means s B a.to gs y v c h at n a.is still) (each_told (means.told v.store) _ (λ there_is. torn e still))))

  -- ---- the image
  pub image_right : (gs ks : List RegionState) (y : SystemState) (v u w : Vaulted V) (c d : Checkpointed) (k : HasCopied means c gs v d ks u) (at n : ℕ) → CopiesStayRight means gs v c u
      → (u.stopped ≡ false → Within means.told means.moment means.left_since u w (WriteLeaves means y u (image_name (side_in d)) at n))
      → ImageStaysRight means gs y v c w
  image_right gs ks y v u w c d k at n copies settles runs s B p h is =
      let a = k.goes s B p y h is in
      let still = still_runs v u k.vault runs in
      both_within v u w (SpellsOnward s p) k.tells (copies runs s B p y h is)
      (within_on s p a.to a.steps a.course u w
      (right_on s a.to u w (WriteLeaves means y u (image_name (side_in d)) at n) (settle_right means s B a.to ks y u d h at n a.is still) (settles still)))

  -- ---- the whole
  pub start_stays_right : (gs : List RegionState) (y : SystemState) (v u : Vaulted V) → (v.stopped ≡ false → Within means.told means.moment means.left_since v u (WriteLeaves means y v (image_name (side_of (v.current + 1))) 0 64))
      → StaysRight means gs y v u
  start_stays_right gs y v u starts runs s B p is = right_on s p v u (WriteLeaves means y v (image_name (side_of (v.current + 1))) 0 64) (start_right means s B p gs y v is runs) (starts runs)

  module _ (gs : List RegionState) (y x : SystemState) (v u : Vaulted V) (c : Checkpointed) (started : HasStarted means y v c u) (is : x ≡ in_checkpoint (taken y) true)
      (first : StaysRight means gs y v u) where
    start_tells : is_some (means.told u.store) ≡ is_some (means.told v.store)
    start_tells = started.writes.written.ok.tells ∙ started.writes.flushed.2.ok.tells

    pub image_stays_right : (m : Vaulted V) → ImageStaysRight means gs x u c m → StaysRight means gs y v m
    image_stays_right m image runs s B p idle =
        let a = start_of means gs gs y x x v u m c started is s B p idle in
        both_within v u m (SpellsOnward s p) start_tells (first runs s B p idle)
        (within_on s p a.to (start_steps a.head) a.course u m (image started.writes.written.ok.runs s a.batches a.to a.head a.is))

    pub end_stays_right : (hs : List RegionState) (t : SystemState) (m w : Vaulted V) (d : Checkpointed) (j : Judged) → HasImage means gs x u c j hs t m d
        → ImageStaysRight means gs x u c m
        → (j.failing ≡ [] → m.stopped ≡ false → Within means.told means.moment means.left_since m w (TurnLeaves means t m (side_in d)))
        → ((j.failing ≡ [] → ⊥) → m.stopped ≡ false → Within means.told means.moment means.left_since m w (FlushLeaves means.may_leave t m))
        → StaysRight means gs y v w
    end_stays_right hs t m w d j k image turns fails runs s B p idle =
        let a = start_of means gs hs y x t v u m c started is s B p idle in
        let b = k.goes s a.batches a.to a.head a.is in
        both_within v m w (SpellsOnward s p) (k.tells ∙ start_tells) (image_stays_right m image runs s B p idle)
        (within_on s p a.to (start_steps a.head) a.course m w (within_on s a.to b.to b.steps b.course m w (by_found s b.batches b.to a.head b.is b.certified j.failing refl)))
      where
        by_found : (s : Start) (C : List (List Record)) (q : Point) (h : Head) (settled : IsSettled means s C q hs t m d h x.records) (certified : j.failing ≡ [] → IsCertifiedAt q x.records x.records)
            → (found : List ℕ) → j.failing ≡ found → Within means.told means.moment means.left_since m w (SpellsOnward s q)
        by_found s C q h settled certified [] none = right_on s q m w (TurnLeaves means t m (side_in d)) (certify_right means s C q hs t m d h x.records x.records settled (certified none) k.runs) (turns none k.runs)
        by_found s C q h settled certified (r ∷ rs) some = right_on s q m w (FlushLeaves means.may_leave t m) (failure_right means s C q hs t m settled.at k.runs)
            (fails (λ none. let no : r ∷ rs ≡ [] = sym some ∙ none in cc) k.runs)
