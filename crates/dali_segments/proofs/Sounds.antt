-- What is known of the files behind calls that change nothing, and behind a sync of the log.
use Rattle.std.specs.Prelude.{◌⊎◌, ◌*◌, Bool, false, Option, Some, None, IfSome, is_some, refl}
use Rattle.std.specs.Option.{ForSome}
use Rattle.std.proofs.Common.{◌≡◌, inl, inr, ⊎_elim, ℕ, ◌+◌, ◌-◌, ◌≤◌, ◌<◌, List, length, sym, ◌∙◌, ap, subst, arith}
use Rattle.std.proofs.lemmas.Bool.Decides.{nat_tests}
use Rattle.dali_store.specs.Store.{Files, file_of, Elapses as FilesElapse}
use Rattle.dali_store.specs.Drops.{IsSynced}
use Rattle.dali_store.specs.declared.store.FileName.TheVariants.{Log}
use Rattle.dali_files.specs.Files.{Contents}
use Rattle.dali_files.specs.declared.key.FileKey.{FileKey}
use Rattle.dali_files.specs.declared.key.FileKey.TheVariants.{ImageA as KeyA, ImageB as KeyB, Anchor as KeyAnchor, Segment}
use Rattle.dali_segments.specs.Segments.{mark, is_dropped, piece, log_of, told_of, LeavesWhere, IsReady, IsHeld, IsSound, EndsIn}
use Rattle.dali_segments.specs.Laws.{leaves_more, time_law}
use Rattle.dali_segments.specs.Quiet.{IsQuiet}
use Rattle.dali_segments.proofs.Joins.{joined_same, length_joined}
use Rattle.dali_segments.proofs.Logs.{piece_same, piece_kept}
use Rattle.dali_segments.proofs.Quiets.{AreKept}

-- a crash leaves less, and fewer files wait for the sync of a removal
pub ready_fewer : (size last dropped settled : ℕ) (outcomes later : Contents → Type 0) (was_going is_going : FileKey → Type 0) (fs : Contents)
    → ((d : Contents) → later d → outcomes d) → ((f : FileKey) → is_going f → was_going f)
    → IsReady size last dropped settled outcomes was_going fs → IsReady size last dropped settled later is_going fs
ready_fewer size last dropped settled outcomes later was_going is_going fs fewer less is = record {
  marked = is.marked;
  full = is.full;
  ends = is.ends;
  none = is.none;
  same_mark = λ d left. is.same_mark d (fewer d left);
  settled_same = λ d left. is.settled_same d (fewer d left);
  none_left = λ d left. is.none_left d (fewer d left);
  stays = λ n above lt going. is.stays n above lt (less (Segment n) going);
  first = λ going. is.first (less (Segment 0) going);
}

pub held_fewer : (size : ℕ) (outcomes later : Contents → Type 0) (was_going is_going : FileKey → Type 0)
    → ((d : Contents) → later d → outcomes d) → ((f : FileKey) → is_going f → was_going f) → IsHeld size outcomes was_going → IsHeld size later is_going
held_fewer size outcomes later was_going is_going fewer less is = record {
  images = (λ going. is.images.0 (less KeyA going), (λ going. is.images.1.0 (less KeyB going), λ going. is.images.1.1 (less KeyAnchor going)));
  marked = λ going. is.marked (less mark going);
  small = λ d left. is.small d (fewer d left);
  behind = λ d left n lt going kept full. is.behind d (fewer d left) n lt (less (Segment n) going) kept full;
}

pub sound_fewer : (lost : Bool) (size last dropped settled : ℕ) (outcomes later : Contents → Type 0) (was_going is_going : FileKey → Type 0) (fs : Contents)
    → ((d : Contents) → later d → outcomes d) → ((f : FileKey) → is_going f → was_going f)
    → IsSound lost size last dropped settled outcomes was_going fs → IsSound lost size last dropped settled later is_going fs
sound_fewer lost size last dropped settled outcomes later was_going is_going fs fewer less is = record {
  no_longer = λ d left. is.no_longer d (fewer d left);
  held = held_fewer size outcomes later was_going is_going fewer less is.held;
  ready = λ found. ready_fewer size last dropped settled outcomes later was_going is_going fs fewer less (is.ready found);
}

module _ {old new : Option Contents} {before after : Contents → Type 0} {was_going is_going : FileKey → Type 0} {moment now : ℕ} {past since : ℕ → Contents → Type 0}
    (quiet : IsQuiet old new before after was_going is_going moment now past since) (size : ℕ) where
  pub sound_quiet : (lost : Bool) (last dropped settled : ℕ) → ForSome old (λ fs. IsSound lost size last dropped settled before was_going fs)
      → ForSome new (λ fs. IsSound lost size last dropped settled after is_going fs)
  sound_quiet lost last dropped settled sound fs is =
      sound_fewer lost size last dropped settled before after was_going is_going fs quiet.crash quiet.going (sound fs (sym quiet.told ∙ is))

  pub told_quiet : told_of size new ≡ told_of size old
  told_quiet = ap (λ (t : Option Contents). told_of size t) quiet.told

  pub crash_quiet : (c : Files) → LeavesWhere size new after c → LeavesWhere size old before c
  crash_quiet c left = leaves_more size old after before c quiet.crash (subst (λ (t : Option Contents). LeavesWhere size t after c) quiet.told left)

  pub time_quiet : FilesElapse moment now (λ t. LeavesWhere size old (past t)) (λ t. LeavesWhere size new (since t)) (LeavesWhere size new after)
  time_quiet = time_law size moment now old new past since after (ap (λ (t : Option Contents). is_told t) quiet.told) quiet.time
    where
      is_told : Option Contents → Bool
      is_told t = is_some t

-- where the log is settled, all outcomes have the same log
pub ready_log : (size last dropped : ℕ) (outcomes : Contents → Type 0) (going : FileKey → Type 0) (fs : Contents)
    → IsReady size last dropped (last + 1) outcomes going fs → (d : Contents) → outcomes d → log_of size d ≡ log_of size fs
ready_log size last dropped outcomes going fs is d left =
    joined_same size (λ n. piece size fs n) (λ n. piece size d n) 0 4095 (λ n from lt. each n (omega (arith, lt)) (place n last))
  where
    place : (n last : ℕ) → (n < last + 1) ⊎ (last < n)
    place n last = grind arith

    each : (n : ℕ) → n < 4095 → (n < last + 1) ⊎ (last < n) → piece size d n ≡ piece size fs n
    each n lt (inl below) = is.settled_same d left n below
    each n lt (inr above) = is.none_left d left n above lt ∙ sym (is.none n above lt)

-- a sync of the segments from the first one that may wait on
pub ready_synced : (size last dropped settled : ℕ) (outcomes : Contents → Type 0) (going : FileKey → Type 0) (fs : Contents)
    → ((c : Contents) → outcomes c → (n : ℕ) → settled ≤ n → n < last + 1 → c (Segment n) ≡ fs (Segment n))
    → IsReady size last dropped settled outcomes going fs → IsReady size last dropped (last + 1) outcomes going fs
ready_synced size last dropped settled outcomes going fs kept is = record {
  marked = is.marked;
  full = is.full;
  ends = is.ends;
  none = is.none;
  same_mark = is.same_mark;
  settled_same = λ d left n lt. ⊎_elim
      (λ below. is.settled_same d left n below)
      (λ above. piece_same size fs d n (is.same_mark d left ∙ sym is.marked) (kept d left n above lt))
      (place n settled);
  none_left = is.none_left;
  stays = is.stays;
  first = is.first;
}
  where
    place : (n settled : ℕ) → (n < settled) ⊎ (settled ≤ n)
    place n settled = grind arith

pub sound_synced : (lost : Bool) (size last dropped settled : ℕ) (told : Option Contents) (outcomes : Contents → Type 0) (going : FileKey → Type 0)
    → AreKept told outcomes settled (last + 1) → ForSome told (λ fs. IsSound lost size last dropped settled outcomes going fs)
    → ForSome told (λ fs. IsSound lost size last dropped (last + 1) outcomes going fs)
sound_synced lost size last dropped settled None outcomes going kept sound fs is = absurd (none_some fs is)
  where
    none_some : (x : Contents) → None ≡ Some x → ⊥
    none_some x e = cc
sound_synced lost size last dropped settled (Some gs) outcomes going kept sound fs is =
    let was = sound fs is in
    let same : gs ≡ fs = some_same gs fs is in
    let kept_fs = subst (λ (x : Contents). (c : Contents) → outcomes c → (n : ℕ) → settled ≤ n → n < last + 1 → c (Segment n) ≡ x (Segment n)) same kept in
    record {
      no_longer = was.no_longer;
      held = was.held;
      ready = λ found. ready_synced size last dropped settled outcomes going fs kept_fs (was.ready found);
    }
  where
    some_same : (x y : Contents) → Some x ≡ Some y → x ≡ y
    some_same x y e = cc

pub log_durable : (size last dropped : ℕ) (lost : Bool) → lost ≡ false → (old new : Option Contents) (outcomes : Contents → Type 0) (going : FileKey → Type 0)
    → new ≡ old → ForSome new (λ fs. IsSound lost size last dropped (last + 1) outcomes going fs)
    → IfSome (told_of size old) (λ fs. (c : Files) → LeavesWhere size new outcomes c → file_of Log c ≡ file_of Log fs)
log_durable size last dropped lost found old new outcomes going same sound =
    subst (λ (t : Option Contents). IfSome (told_of size t) (λ fs. (c : Files) → LeavesWhere size new outcomes c → file_of Log c ≡ file_of Log fs)) same (by_told new sound)
  where
    by_told : (t : Option Contents) → ForSome t (λ fs. IsSound lost size last dropped (last + 1) outcomes going fs)
        → IfSome (told_of size t) (λ fs. (c : Files) → LeavesWhere size t outcomes c → file_of Log c ≡ file_of Log fs)
    by_told None is = tt
    by_told (Some fs) is = λ c left. ap (λ (x : Files). x.log) left.2 ∙ ready_log size last dropped outcomes going fs ((is fs refl).ready found) left.0 left.1

-- where the log ends
pub ready_ends : (size last dropped settled : ℕ) (outcomes : Contents → Type 0) (going : FileKey → Type 0) (fs : Contents)
    → IsReady size last dropped settled outcomes going fs → EndsIn size last dropped fs
ready_ends size last dropped settled outcomes going fs is = record { marked = is.marked; full = is.full; ends = is.ends; nothing_more = inr is.none }

-- how long the log is
pub ends_length : (size last dropped : ℕ) (fs : Contents) → 64 ≤ size → last < 4095 → EndsIn size last dropped fs
    → length (log_of size fs) ≡ last * size + length (piece size fs last)
ends_length size last dropped fs large below is =
    length_joined size (omega (arith, large)) (λ n. piece size fs n) 0 last 4095 below
    (λ k from lt. is.full k (omega (arith, lt)))
    (⊎_elim
    (λ short. inl (λ full. short (ap (λ (n : ℕ). length (piece size fs n)) (sym here) ∙ full)))
    (λ empty. inr (λ k from lt. empty k (omega (arith, from)) (omega (arith, lt))))
    is.nothing_more)
    ∙ ap (λ (n : ℕ). last * size + length (piece size fs n)) here
  where
    here : 0 + last ≡ last
    here = omega arith

not_dropped : (marked n : ℕ) → marked ≤ n - 1 → is_dropped marked n ≡ false
not_dropped marked n le = grind (arith, nat_tests)

pub last_kept : (size last dropped : ℕ) (fs : Contents) → dropped ≤ last - 1 → EndsIn size last dropped fs → piece size fs last ≡ fs (Segment last)
last_kept size last dropped fs above is = piece_kept size fs last (not_dropped (length (fs mark)) last (omega (arith, is.marked, above)))

pub length_told : (lost : Bool) (size last dropped settled behind : ℕ) (told : Option Contents) (outcomes : Contents → Type 0) (going : FileKey → Type 0)
    → lost ≡ false → 64 ≤ size → last < 4095 → dropped ≤ last - 1 → ForSome told (λ fs. IsSound lost size last dropped settled outcomes going fs)
    → IfSome told (λ fs. behind ≡ length (fs (Segment last)))
    → IfSome (told_of size told) (λ fs. last * size + behind ≡ length fs.log)
length_told lost size last dropped settled behind None outcomes going found large below above sound is = tt
length_told lost size last dropped settled behind (Some fs) outcomes going found large below above sound is =
    let ends : EndsIn size last dropped fs = ready_ends size last dropped settled outcomes going fs ((sound fs refl).ready found) in
    ap (λ (n : ℕ). last * size + n) (is ∙ ap (λ (l : List ℕ). length l) (sym (last_kept size last dropped fs above ends)))
    ∙ sym (ends_length size last dropped fs large below ends)

-- behind a sync and a drop a crash leaves of the log what reads give
pub drop_synced : (size last dropped settled : ℕ) (lost : Bool) → settled ≡ last + 1 → lost ≡ false → (told : Option Contents) (outcomes : Contents → Type 0) (going : FileKey → Type 0)
    → ForSome told (λ fs. IsSound lost size last dropped settled outcomes going fs) → IsSynced Log (told_of size told) (LeavesWhere size told outcomes)
drop_synced size last dropped settled lost all found None outcomes going sound = tt
drop_synced size last dropped settled lost all found (Some fs) outcomes going sound =
    log_durable size last dropped lost found (Some fs) (Some fs) outcomes going refl
    (subst (λ (n : ℕ). ForSome (Some fs) (λ fs. IsSound lost size last dropped n outcomes going fs)) all sound)
