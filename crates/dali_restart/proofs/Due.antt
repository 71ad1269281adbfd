-- What is due behind what was read, and where a core begins then.
use Rattle.std.proofs.Common.{◌≡◌, ℕ, ◌+◌, ◌-◌, ◌<◌, ◌≤◌, ◌^◌, Bool, true, false, List, [], length, Option, Some, None, IfSome, Result, Ok, Err, refl, ap, sym, subst, ◌∙◌, arith, length-append}
use Rattle.std.specs.Prelude.{IfOk, OnOk, if◌then◌else◌}
use Rattle.std.proofs.Math.Nat.{lt_of_not-le}
use Rattle.dali_lists.proofs.Options.{if_some_then}
use Rattle.dali_store.specs.Store.{Files as Disk}
use Rattle.dali_store.specs.declared.store.Store.{Ghosts}
use Rattle.dali_log.specs.Appending.{next_place}
use Rattle.dali_log.specs.Batch.{IsClosedAt, batch, batches}
use Rattle.dali_log.proofs.Bytes.{length-batch}
use Rattle.dali_log.specs.Anchors.{AreAnchored}
use Rattle.dali_log.specs.Anchors.{IsAnchor}
use Rattle.dali_recovery.specs.declared.reload.counts.BeforeRestart.{BeforeRestart}
use Rattle.dali_restart.specs.Renewal.Logged.{restart_bodies, restart_body, restart_length}
use Rattle.dali_restart.specs.Renewal.Renewed.{AreReady, Keeps, Renews, Stops, end_of}
use Rattle.dali_restart.specs.declared.renewal.renewing.Standing.{Standing}
use Rattle.dali_restart.proofs.RenewalLemmas.Bodies.{body_length, one_body}
use Rattle.dali_restart.specs.declared.rise.rising.Resting.{Resting}
use Rattle.dali_restart.specs.declared.restarting.Due.TheVariants as dues
use Rattle.dali_restart.specs.declared.restarting.Found.{Found}
use Rattle.dali_restart.specs.Deciding.{IsInOrder, IsReadIn, IsSmallRest, IsWritten, LogsRecord, WritesImage, at_end, before, due_by, due_of, resting_of}

-- what is said of a result where it is Ok, twice
pub if_ok_both : {T E : Type 0} (P R : T → Type 0) (Q : Type 0) (result : Result T E) → IfOk result P → OnOk result Q → ((x : T) → P x → Q → R x)
    → IfOk result R
if_ok_both P R Q (Ok x) p q f = f x p q
if_ok_both P R Q (Err e) p q f = tt

-- ---- what is due
none_image : (p : Standing) (b : Bool) → (if b then dues.Nothing else dues.Record) ≡ dues.Image p → ⊥
none_image p true e = absurd cc
none_image p false e = absurd cc

some_image : (q p : Standing) (b : Bool) → (if b then dues.Nothing else dues.Image q) ≡ dues.Image p → p ≡ q
some_image q p true e = absurd cc
some_image q p false e = let is : q ≡ p = cc in sym is

pub due_image : (x : Found) (p : Standing) → due_of x ≡ dues.Image p → (m : BeforeRestart) × (x.reloaded.counts.restarted ≡ Some m) × (p ≡ before x m)
due_image x p e = by x.reloaded.counts.restarted refl e
  where
    by : (o : Option BeforeRestart) → x.reloaded.counts.restarted ≡ o → due_by x o ≡ dues.Image p
        → (m : BeforeRestart) × (x.reloaded.counts.restarted ≡ Some m) × (p ≡ before x m)
    by None same due = absurd (none_image p _ due)
    by (Some m) same due = (m, same, some_image (before x m) p _ due)

-- it stands before the log's end
pub is_before : (x : Found) (p : Standing) → IsInOrder x → due_of x ≡ dues.Image p → (p.place < 2 ^ 62) × (p.current < 2 ^ 62)
is_before x p is due =
    let q = due_image x p due in
    let small = subst (λ (o : Option BeforeRestart). IfSome o (λ m. (m.place ≤ x.reloaded.end) × (m.bytes ≤ x.reloaded.end))) q.1 is.small.before in
    let place : p.place ≡ q.0.place = ap (λ (r : Standing). r.place) q.2 in
    let current : p.current ≡ x.base.current = ap (λ (r : Standing). r.current) q.2 in
    (omega (arith, place, small.0, is.small.end), omega (arith, current, is.room.current))

pub same_sizes : (x : Found) (p : Standing) → due_of x ≡ dues.Image p → p.geometry ≡ x.base.geometry
same_sizes x p due = ap (λ (r : Standing). r.geometry) (due_image x p due).2

pub same_current : (x : Found) (p : Standing) → due_of x ≡ dues.Image p → p.current ≡ x.base.current
same_current x p due = ap (λ (r : Standing). r.current) (due_image x p due).2

-- ---- before it is written
pub is_closed : (fs : Disk) (may : Disk → Type 0) (x : Found) → IsReadIn fs may x → (c : Disk) → may c → IsClosedAt x.reloaded.end c.log
is_closed fs may x is c left =
    subst (λ (d : Disk). IsClosedAt x.reloaded.end d.log) (sym (is.only c left)) (is.reads x.base.geometry is.files is.begins).1.tail.closed

pub are_anchored : (fs : Disk) (may : Disk → Type 0) (x : Found) → IsReadIn fs may x → AreAnchored may x.base.current
are_anchored fs may x is c left =
    let same = (is.reads x.base.geometry is.files is.begins).0.current in
    subst (λ (d : Disk). IsAnchor d.anchor x.base.current) (sym (is.only c left)) (subst (IsAnchor fs.anchor) (sym same) is.begins.opened.anchor)

pub closed_there : (told : Option Disk) (may : Disk → Type 0) (x : Found) (p : Standing) → p ≡ at_end x → IfSome told (λ fs. IsReadIn fs may x) → IfSome told (λ _. (c : Disk) → may c → IsClosedAt p.place c.log)
closed_there told may x p is read = if_some_then _ _ told read (λ fs found c left. subst (λ (q : Standing). IsClosedAt q.place c.log) (sym is) (is_closed fs may x found c left))

pub are_ready : (fs : Disk) (may : Disk → Type 0) (x : Found) → IsReadIn fs may x → AreReady may x.reloaded.end x.base.current
are_ready fs may x is = record { closed = is_closed fs may x is; anchored = are_anchored fs may x is }

-- ---- where a core begins
pub next_is : (p : ℕ) (rs ds : List ℕ) → next_place p (restart_bodies rs ds) ≡ p + 5 + restart_length rs ds
next_is p rs ds =
    ap (λ (bs : List (List ℕ)). p + length (batches bs)) (one_body rs ds)
    ∙ omega (arith, length-append (batch (restart_body rs ds)) [], length-batch (restart_body rs ds), body_length rs ds)

abbrev made : Standing → Resting → ℕ → Resting
made p q end = record { geometry = q.geometry; records = p.first + 1; weight = p.weight + (end - p.place - 5); next = q.next; end = end; current = p.current + 1 }

abbrev end_behind : Found → ℕ
end_behind x = end_of None (at_end x) x.reloaded.recovered.rolled_back.items x.reloaded.recovered.deleted.items

made_at_end : (x : Found) (q : Resting) (end : ℕ) → q ≡ resting_of (at_end x) → end ≡ end_behind x → LogsRecord x (made (at_end x) q end)
made_at_end x q end rest ends =
    let rs = x.reloaded.recovered.rolled_back.items in
    let ds = x.reloaded.recovered.deleted.items in
    let weight : end_behind x - x.reloaded.end - 5 ≡ restart_length rs ds = omega (arith, next_is x.reloaded.end rs ds) in
    ap (λ (r : Resting). made (at_end x) r end) rest
    ∙ (ap (λ (k : ℕ). made (at_end x) (resting_of (at_end x)) k) ends
    ∙ ap (λ (w : ℕ). record { geometry = x.base.geometry; records = (at_end x).first + 1; weight = (at_end x).weight + w; next = (at_end x).next; end = end_behind x; current = x.base.current + 1 }) weight)

pub logs_record :
    (x : Found) (p : Standing) (q : Resting) (end : ℕ) → p ≡ at_end x → q ≡ resting_of p
    → end ≡ end_of None p x.reloaded.recovered.rolled_back.items x.reloaded.recovered.deleted.items
    → LogsRecord x (made p q end)
logs_record x p q end same rest ends =
    subst (λ (a : Standing). LogsRecord x (made a q end)) (sym same)
    (made_at_end x q end (rest ∙ ap resting_of same) (ends ∙ ap (λ (a : Standing). end_of None a x.reloaded.recovered.rolled_back.items x.reloaded.recovered.deleted.items) same))

pub writes_image : (x : Found) (p : Standing) (q : Resting) (end : ℕ) → p ≡ at_end x → q ≡ resting_of p → end ≡ p.place → WritesImage x (record { geometry = q.geometry; records = q.records; weight = q.weight; next = q.next; end = end; current = p.current + 1 })
writes_image x p q end same rest ends =
    ap (λ (r : Resting). record { geometry = r.geometry; records = r.records; weight = r.weight; next = r.next; end = end; current = p.current + 1 }) rest
    ∙ (ap (λ (k : ℕ). record { geometry = p.geometry; records = p.first; weight = p.weight; next = p.next; end = k; current = p.current + 1 }) ends
    ∙ ap (λ (r : Standing). record { geometry = r.geometry; records = r.first; weight = r.weight; next = r.next; end = r.place; current = r.current + 1 }) same)

-- the record has no more bytes than a batch, where it was written
pub not_longer : (n : ℕ) → (2 ^ 30 < n → ⊥) → n ≤ 2 ^ 30
not_longer n never =
    let less : n < 2 ^ 30 + 1 = lt_of_not-le (λ le. never (omega (arith, le))) in
    omega (arith, less)

-- ---- what was written
moved_to :
    (P : Standing → Option ℕ → List ℕ → List ℕ → List (List ℕ) → Type 0) (p q : Standing) (m n : Option ℕ) (rs rt ds dt : List ℕ) (ws wt : List (List ℕ))
    → p ≡ q → m ≡ n → rs ≡ rt → ds ≡ dt → ws ≡ wt → P p m rs ds ws → P q n rt dt wt
moved_to P p q m n rs rt ds dt ws wt one two three four five h =
    subst (P q n rt dt) five (subst (λ (d : List ℕ). P q n rt d ws) four (subst (λ (r : List ℕ). P q n r ds ws) three (subst (λ (k : Option ℕ). P q k rs ds ws) two (subst (λ (s : Standing). P s m rs ds ws) one h))))

-- what a renewal made with what was read through slices, it made with what was found
pub written_at : {V T E : Type 0} (means : Ghosts V) (p q : Standing) (m n : Option ℕ) (rs rt ds dt : List ℕ) (ws wt : List (List ℕ)) (old new : V) (result : Result T E)
    → p ≡ q → m ≡ n → rs ≡ rt → ds ≡ dt → ws ≡ wt → OnOk result (IfSome (means.told old) (λ _. Renews means.may_leave means.moment means.left_since p m rs ds ws old new))
    → IfSome (means.told old) (λ _. Stops means.may_leave means.moment means.left_since p m rs ds ws old new)
    → IfSome (means.told old) (λ _. Keeps means.may_leave means.moment means.left_since p m rs ds ws old new)
    → IsWritten means (record { standing = q; logged = n; rolled = rt; deleted = dt; words = wt }) old new result
written_at means p q m n rs rt ds dt ws wt old new result one two three four five renews stops keeps = record {
  renews = moved_to (λ s k r d l. OnOk result (IfSome (means.told old) (λ _. Renews means.may_leave means.moment means.left_since s k r d l old new))) p q m n rs rt ds dt ws wt one two three four five renews;
  stops = moved_to (λ s k r d l. IfSome (means.told old) (λ _. Stops means.may_leave means.moment means.left_since s k r d l old new)) p q m n rs rt ds dt ws wt one two three four five stops;
  keeps = moved_to (λ s k r d l. IfSome (means.told old) (λ _. Keeps means.may_leave means.moment means.left_since s k r d l old new)) p q m n rs rt ds dt ws wt one two three four five keeps;
}

-- ---- it is small
pub rest_is_small : (x : Found) → IsInOrder x → IsSmallRest x (resting_of (at_end x))
rest_is_small x is = record {
  records = omega (arith, is.room.first.1, is.small.records, is.small.end);
  weight = omega (arith, is.room.weight, is.small.bytes, is.small.end);
  next = omega (arith, is.ordered.next);
  geometry = refl;
}

pub record_is_small : (x : Found) (r : Resting) → IsInOrder x → LogsRecord x r
    → restart_length x.reloaded.recovered.rolled_back.items x.reloaded.recovered.deleted.items ≤ 2 ^ 30 → IsSmallRest x r
record_is_small x r is logs long =
    subst (IsSmallRest x) (sym logs)
    (record {
      records = omega (arith, is.room.first.1, is.small.records, is.small.end);
      weight = omega (arith, is.room.weight, is.small.bytes, is.small.end, long);
      next = omega (arith, is.ordered.next);
      geometry = refl;
    })

pub image_is_small : (x : Found) (r : Resting) → IsInOrder x → WritesImage x r → IsSmallRest x r
image_is_small x r is writes = subst (IsSmallRest x) (sym writes) (let q = rest_is_small x is in record { records = q.records; weight = q.weight; next = q.next; geometry = q.geometry })
