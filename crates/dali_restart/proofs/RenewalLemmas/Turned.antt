-- What is left of the stages where the image and the anchor's move stand behind each other.
use Rattle.std.proofs.Common.{◌≡◌, ℕ, ◌+◌, ◌<◌, ◌≤◌, ◌^◌, List, [], ◌∷◌, length, Option, IfSome, ap, sym, subst, ◌∙◌}
use Rattle.std.specs.Prelude.{is_some}
use Rattle.dali_geometry.specs.Places.{regions}
use Rattle.dali_region.specs.declared.Side.{Side}
use Rattle.dali_store.specs.declared.store.FileName.{FileName}
use Rattle.dali_store.specs.Store.{Files as Disk, HoldsIn, LeavesOnly, file_of}
use Rattle.dali_store.proofs.Moments.{if_some_both, moved}
use Rattle.dali_log.specs.Appending.{SomeAdded, AllAdded}
use Rattle.dali_log.specs.Batch.{IsClosedAt}
use Rattle.dali_crash.specs.Checkpoints.{side_of}
use Rattle.dali_log.specs.Anchors.{AreAnchored, HasMoved, MayHaveMoved}
use Rattle.dali_crash.specs.Disks.Disks.{CanBeImage, IsImageOf, image_file, image_name}
use Rattle.dali_restart.specs.declared.renewal.renewing.Standing.{Standing}
use Rattle.dali_restart.specs.Renewal.Written.{WritesOnly, head_in, new_image}
use Rattle.dali_restart.specs.Renewal.Renewed.{ImageTurns, LogKeeps, LogStops, TurnKeeps, TurnStops, header_at}
use Rattle.dali_restart.proofs.RenewalLemmas.Images.{image_held}
use Rattle.dali_restart.proofs.RenewalLemmas.Kept.{log_keeps, move_keeps}
use Rattle.dali_restart.proofs.RenewalLemmas.Staged.{image_turns, log_stops, move_stops, tells_beside}

module _ {V : Type 0} (told : V → Option Disk) (may_leave : V → Disk → Type 0) (moment : V → ℕ) (left_since : V → ℕ → Disk → Type 0) (counts : (s : V) (t : ℕ) (c : Disk) → t ≤ moment s → may_leave s c → left_since s t c) where
  module _ (side : Side) (f : FileName) (p : Standing) (words : List (List ℕ)) (old mid new : V) (file : f ≡ image_name side) (next : side ≡ side_of (p.current + 1)) (current : p.current < 2 ^ 62) (place : p.place < 2 ^ 62) (whole : length words ≡ regions p.geometry)
      (only : WritesOnly told may_leave moment left_since f old mid) (written : HoldsIn f 0 (new_image (header_at p) words) (told old) (told mid)) (durable : IfSome (told mid) (λ fs. (c : Disk) → may_leave mid c → file_of f c ≡ file_of f fs))
      (anchored : IfSome (told old) (λ _. AreAnchored (may_leave old) p.current)) where
    -- the image that was written
    held : IfSome (told old) (λ _. CanBeImage p.geometry (head_in (header_at p)) words → (c : Disk) → may_leave mid c → IsImageOf p.geometry (image_file (side_of (p.current + 1)) c) (head_in (header_at p)) words)
    held =
        subst (λ s. IfSome (told old) (λ _. CanBeImage p.geometry (head_in (header_at p)) words → (c : Disk) → may_leave mid c → IsImageOf p.geometry (image_file s c) (head_in (header_at p)) words)) next
        (image_held side f (header_at p) words (told old) (told mid) (may_leave mid) file written durable)

    same : is_some (told old) ≡ is_some (told mid)
    same = sym (tells_beside f (told old) (told mid) only.reads)

    -- the anchor may have moved
    pub stops_moving : IfSome (told mid) (λ _. LeavesOnly moment left_since mid new (MayHaveMoved (may_leave mid) p.current)) → IfSome (told old) (λ _. TurnStops may_leave moment left_since p words old new)
    stops_moving ran =
        if_some_both _ (told old) anchored (λ at.
        if_some_both _ (told old) held (λ image.
        moved _ (told mid) (told old) same ran (λ run. move_stops told may_leave moment left_since counts f p words old mid new (file ∙ ap image_name next) only current place whole image at run)))

    pub keeps_moving : IfSome (told mid) (λ _. LeavesOnly moment left_since mid new (MayHaveMoved (may_leave mid) p.current)) → IfSome (told old) (λ _. TurnKeeps may_leave moment left_since p words old new)
    keeps_moving ran =
        if_some_both _ (told old) held (λ image.
        moved _ (told mid) (told old) same ran (λ run. move_keeps told may_leave moment left_since counts f p words old mid new (file ∙ ap image_name next) only image run))

    -- it has moved
    pub turns_moved : IfSome (told mid) (λ _. (c : Disk) → may_leave new c → HasMoved (may_leave mid) p.current c) → IfSome (told old) (λ _. ImageTurns may_leave moment left_since p words old new)
    turns_moved has =
        if_some_both _ (told old) anchored (λ at.
        if_some_both _ (told old) held (λ image.
        moved _ (told mid) (told old) same has (λ is. image_turns told may_leave moment left_since counts f p words old mid new (file ∙ ap image_name next) only current place whole image at is)))

  -- the same behind the record
  pub stops_logged_turn :
      (p : Standing) (body : List ℕ) (words : List (List ℕ)) (old mid new : V) → is_some (told mid) ≡ is_some (told old)
      → IfSome (told old) (λ _. (c : Disk) → may_leave old c → IsClosedAt p.place c.log)
      → IfSome (told old) (λ _. LeavesOnly moment left_since old mid (SomeAdded (may_leave old) p.place (body ∷ [])))
      → IfSome (told old) (λ _. (c : Disk) → may_leave mid c → AllAdded (may_leave old) p.place (body ∷ []) c)
      → IfSome (told mid) (λ _. TurnStops may_leave moment left_since p words mid new)
      → IfSome (told old) (λ _. LogStops may_leave moment left_since p body words old new)
  stops_logged_turn p body words old mid new tells shut ran has stopped =
      if_some_both _ (told old) shut (λ closed.
      if_some_both _ (told old) ran (λ run.
      if_some_both _ (told old) has (λ added.
      moved _ (told mid) (told old) (sym tells) stopped (λ stops. log_stops told may_leave moment left_since counts p body words old mid new closed run added stops))))

  pub keeps_logged_turn :
      (p : Standing) (body : List ℕ) (words : List (List ℕ)) (old mid new : V) → is_some (told mid) ≡ is_some (told old)
      → IfSome (told old) (λ _. LeavesOnly moment left_since old mid (SomeAdded (may_leave old) p.place (body ∷ [])))
      → IfSome (told old) (λ _. (c : Disk) → may_leave mid c → AllAdded (may_leave old) p.place (body ∷ []) c)
      → IfSome (told mid) (λ _. TurnKeeps may_leave moment left_since p words mid new)
      → IfSome (told old) (λ _. LogKeeps may_leave moment left_since p body words old new)
  keeps_logged_turn p body words old mid new tells ran has kept =
      if_some_both _ (told old) ran (λ run.
      if_some_both _ (told old) has (λ added.
      moved _ (told mid) (told old) (sym tells) kept (λ keeps. log_keeps told may_leave moment left_since counts p body words old mid new run added keeps)))
