-- The bytes that an append leaves spell files that came along the step of a flush.
use Rattle.std.proofs.Common.{◌≡◌, ◌≢◌, ℕ, ◌%◌, Bool, true, false, cond, zero, suc, ◌+◌, ◌≤◌, List, [], ◌∷◌, ◌++◌, length, take, drop, Some, refl, ap, sym, subst, ◌∙◌, inl, inr, ⊎_elim, arith, Option, IfSome}
use Rattle.std.specs.Prelude.{◌⊎◌, ◌==◌, flat_map, slice_get, sum_by}
use Rattle.std.specs.List.{AllByRecursion}
use Rattle.std.proofs.lemmas.Option.{IfSome_then}
use Rattle.std.proofs.lemmas.List.{append-nil}
use Rattle.std.proofs.lemmas.Grind.{flat_map-append}
use Rattle.std.proofs.lemmas.Bool.{eqb-true, eq-eqb}
use Rattle.dali_record.specs.declared.records.Record.{Record}
use Rattle.dali_record.specs.declared.records.Record.TheVariants.{Format, Restarted}
use Rattle.dali_record.specs.Spelling.{CanBeSpelled, spelling}
use Rattle.dali_record.specs.Epochs.{Cut, last_epoch}
use Rattle.dali_record.specs.Legal.{sizes_of}
use Rattle.dali_record.specs.Files.{Files, batch_length}
use Rattle.dali_record.proofs.Pushes.{cut_push}
use Rattle.dali_history.specs.Recovered.{recovered}
use Rattle.dali_region.specs.declared.Side.{Side}
use Rattle.dali_region.specs.declared.Side.TheVariants.{A, B}
use Rattle.dali_store.specs.Store.{Files as Disk, file_of, SameBut}
use Rattle.dali_store.specs.declared.store.FileName.TheVariants.{Log, ImageA, ImageB, Anchor}
use Rattle.dali_runs.specs.State.{CoreState, taken_to, stable, log_after}
use Rattle.dali_runs.specs.Run.{Bases, IsPrefix, IsRun, log_in, no_image as no_crash, only}
use Rattle.dali_runs.specs.Flushes.{frame_of, with_batch, with_frame}
use Rattle.dali_runs.specs.Courses.{Flushes, Faults, Step}
use Rattle.dali_crash.specs.Checkpoints.{Head, Point, StoreStep, Does, Copies, WritesHead, CopyFails, HeadFails, Turns, TurnFails, side_of, target, image_in, turned, IsTurnedFrom, Came, Inside, IsPointStep}
use Rattle.dali_crash.specs.StoreRuns.{StoreRun}
use Rattle.dali_crash.proofs.Restarts.{sizes_take, begins_behind}
use Rattle.dali_crash.proofs.Courses.{format_is_history}
use Rattle.dali_crash.proofs.Starts.{lawful}
use Rattle.dali_log.specs.Batch.{batches}
use Rattle.dali_log.specs.Appending.{bodies_of, next_place, Adds, SomeAdded, AllAdded}
use Rattle.dali_log.specs.Log.{body_bytes, AreSpelled, bodies, records_in, HasFormat, LogOf}
use Rattle.dali_log.specs.Formatting.{IsFormattedBy}
use Rattle.dali_log.proofs.Bytes.{batches_length}
use Rattle.dali_log.proofs.Rows.{grown, first_log}
use Rattle.dali_log.proofs.Unique.{some_bytes, one_log}
use Rattle.dali_crash.specs.Disks.Disks.{IsImageOf, image_file, image_name, head_of, sizes_in, unchecked, Spells, AllSpell}
use Rattle.dali_log.specs.Anchors.{IsAnchor}
use Rattle.dali_log.specs.Anchors.{HasMoved, MayHaveMoved}
use Rattle.dali_crash.specs.Disks.Changes.{longer, SpellsGrown, FlushSpells, FaultSpells}
use Rattle.dali_crash.specs.Disks.Bridges.{IsRightNow, TracedTo, LeavesRightAt, body_at, batches_on, AreRight, HaveOneLog, HaveOneAnchor, StoreStarts, InsideOf, MomentsAreRight, FlushIsRight, WriteIsRight, FlushGoesOn, FaultGoesOn, QuietGoesOn, WriteGoesOn, TurnGoesOn, TurnFaultGoesOn, is_image_write, HoldsNext, FormatStarts, restarted_records, closed_head, IsRestartedBy, RestartStarts, GoesOnBy, StopsBy, IsRightIn, TurnsBy, TurnStopsBy, TurnIsRightIn}
use Rattle.dali_crash.proofs.Traces.{every_moment_is_right, trace_prefix, moment_prefix, every_trace_is_right, fresh_rests, trace_goes_on, trace_runs}
use Rattle.dali_crash.proofs.DisksLemmas.Growth.{point_runs}
use Rattle.dali_crash.specs.Traces.{IsFreshImage, Start, bases_of, start_point}

-- ---- more batches in the log
pub same_sizes : (L more : List (List Record)) → HasFormat L → sizes_of (flat_map (λ b. b) (L ++ more)) ≡ sizes_of (flat_map (λ b. b) L)
same_sizes L more has = subst (λ M. sizes_of (flat_map (λ b. b) (M ++ more)) ≡ sizes_of (flat_map (λ b. b) M)) (sym has.3) refl

pub same_image : (c d : Disk) (side : Side) → SameBut Log d c → image_file side c ≡ image_file side d
same_image c d A same = same ImageA (λ e. absurd (cc))
same_image c d B same = same ImageB (λ e. absurd (cc))

pub spells_grown : SpellsGrown
spells_grown c d D made more at end is whole same log = record {
  end = end;
  log = subst (λ M. LogOf c.log (M ++ more) end) batches log;
  anchor = subst (λ bytes. IsAnchor bytes D.gates) (sym (same Anchor (λ e. absurd (cc)))) is.anchor;
  none = λ e. ap (λ (z : Files). longer z more) (is.none e) ∙ ap (λ s. unchecked s (D.batches ++ more)) (sym sizes);
  image = λ e. subst (λ s. IsImageOf s (image_file (side_of D.gates) c) (head_of D) D.image) (sym sizes)
      (subst (λ bytes. IsImageOf (sizes_in D) bytes (head_of D) D.image) (sym (same_image c d (side_of D.gates) same)) (is.image e));
}
  where
    batches : made ≡ D.batches
    batches = (one_log d.log made D.batches at is.end whole is.log).0

    sizes : sizes_in (longer D more) ≡ sizes_in D
    sizes = same_sizes D.batches more is.log.format

-- the other files are those of another disk from before, with the same batches
spells_added : (c d l : Disk) (D : Files) (made more : List (List Record)) (at : ℕ) → LogOf d.log made at → LogOf l.log made at → Spells d D → AllByRecursion AreSpelled more → SameBut Log d c → Adds at (bodies more) l.log c.log → Spells c (longer D more)
spells_added c d l D made more at whole log is each same adds = spells_grown c d D made more at (next_place at (bodies more)) is whole same (grown l.log c.log made more at log each adds)

-- ---- the batches of a frame
abbrev pub frames : List Record → List (List Record)
frames [] = []
frames (r ∷ rs) = (r ∷ rs) ∷ []

not_empty : (body : List ℕ) → ([] ≡ body → ⊥) → body ∷ [] ≡ bodies_of body
not_empty [] some = absurd (some refl)
not_empty (b ∷ bs) some = refl

pub frame_bodies : (rs : List Record) → bodies (frames rs) ≡ bodies_of (body_bytes rs)
frame_bodies [] = refl
frame_bodies (r ∷ rs) = not_empty (body_bytes (r ∷ rs)) (some_bytes r (body_bytes rs))

longer_none : (D : Files) → longer D [] ≡ D
longer_none D = ap (λ bs. let F : Files = record { batches = bs; gates = D.gates; number = D.number; place = D.place; first = D.first; weight = D.weight; next = D.next; image = D.image; table = D.table } in F) (append-nil D.batches)

frame_with : (D : Files) (rs : List Record) → longer D (frames rs) ≡ with_frame D rs
frame_with D [] = longer_none D
frame_with D (r ∷ rs) = refl

pub frames_spelled : (rs : List Record) → AreSpelled rs → AllByRecursion AreSpelled (frames rs)
frames_spelled [] all = tt
frames_spelled (r ∷ rs) all = (all, tt)

-- ---- what an append leaves, with no run asked for
module _ (old : Disk → Type 0) (made : List (List Record)) (at : ℕ) (frame : List Record) (c : Disk) (logs : (d : Disk) → old d → LogOf d.log made at) (each : AreSpelled frame) where
  with_it : (d l : Disk) → old d → old l → SameBut Log d c → Adds at (bodies_of (body_bytes frame)) l.log c.log → (F : Files) → Spells d F → Spells c (with_frame F frame)
  with_it d l left left_l same adds F is = subst (Spells c) (frame_with F frame)
      (spells_added c d l F made (frames frame) at (logs d left) (logs l left_l) is (frames_spelled frame each) same
      (subst (λ more. Adds at more l.log c.log) (sym (frame_bodies frame)) adds))

  without_it : (d l : Disk) → old d → old l → SameBut Log d c → Adds at [] l.log c.log → (F : Files) → Spells d F → Spells c F
  without_it d l left left_l same adds F is = subst (Spells c) (longer_none F) (spells_added c d l F made [] at (logs d left) (logs l left_l) is tt same adds)

  pub all_spelled : AllAdded old at (bodies_of (body_bytes frame)) c → (d : Disk) × old d × ((F : Files) → Spells d F → Spells c (with_frame F frame))
  all_spelled added = let o = added.others in let l = added.log in (o.0, o.1, with_it o.0 l.0 o.1 l.1 o.2 l.2)

  pub some_spelled : SomeAdded old at (bodies_of (body_bytes frame)) c → (d : Disk) × old d × (((F : Files) → Spells d F → Spells c F) ⊎ ((F : Files) → Spells d F → Spells c (with_frame F frame)))
  some_spelled added = (o.0, o.1, by_count (bodies_of (body_bytes frame)) refl l.2 l.3 l.4)
    where
      o : (d : Disk) × old d × SameBut Log d c
      o = added.others

      l : (d : Disk) × old d × (n : ℕ) × (n ≤ length (bodies_of (body_bytes frame))) × Adds at (take n (bodies_of (body_bytes frame))) d.log c.log
      l = added.log

      none : Adds at [] l.0.log c.log → ((F : Files) → Spells o.0 F → Spells c F) ⊎ ((F : Files) → Spells o.0 F → Spells c (with_frame F frame))
      none adds = inl (without_it o.0 l.0 o.1 l.1 o.2 adds)

      whole : Adds at (bodies_of (body_bytes frame)) l.0.log c.log → ((F : Files) → Spells o.0 F → Spells c F) ⊎ ((F : Files) → Spells o.0 F → Spells c (with_frame F frame))
      whole adds = inr (with_it o.0 l.0 o.1 l.1 o.2 adds)

      by_body : (body : List ℕ) → body_bytes frame ≡ body → (n : ℕ) → n ≤ length (bodies_of body) → Adds at (take n (bodies_of body)) l.0.log c.log → ((F : Files) → Spells o.0 F → Spells c F) ⊎ ((F : Files) → Spells o.0 F → Spells c (with_frame F frame))
      by_body body e zero le adds = none adds
      by_body [] e (suc n) le adds = none adds
      by_body (b ∷ bs) e (suc zero) le adds = whole (subst (λ x. Adds at (bodies_of x) l.0.log c.log) (sym e) adds)
      by_body (b ∷ bs) e (suc (suc n)) le adds = absurd (omega (arith, le))

      by_count : (more : List (List ℕ)) → bodies_of (body_bytes frame) ≡ more → (n : ℕ) → n ≤ length more → Adds at (take n more) l.0.log c.log → ((F : Files) → Spells o.0 F → Spells c F) ⊎ ((F : Files) → Spells o.0 F → Spells c (with_frame F frame))
      by_count more e n le adds = by_body (body_bytes frame) refl n (subst (λ m. n ≤ length m) (sym e) le) (subst (λ m. Adds at (take n m) l.0.log c.log) (sym e) adds)

pub flush_spells : (old : Disk → Type 0) → FlushSpells old
flush_spells old made at frame c logs each added = all_spelled old made at frame c logs each added

pub fault_spells : (old : Disk → Type 0) → FaultSpells old
fault_spells old made at frame c logs each added = some_spelled old made at frame c logs each added

pub spelled_behind : (n : ℕ) (L : List Record) → ((i : ℕ) (r : Record) → slice_get L i ≡ Some r → CanBeSpelled r) → AreSpelled (drop n L)
spelled_behind zero [] each = tt
spelled_behind zero (r ∷ L) each = (each 0 r refl, spelled_behind zero L (λ i s e. each (suc i) s e))
spelled_behind (suc n) [] each = tt
spelled_behind (suc n) (r ∷ L) each = spelled_behind n L (λ i s e. each (suc i) s e)

pub get_in_take : (m : ℕ) (L : List Record) (i : ℕ) (r : Record) → slice_get (take m L) i ≡ Some r → slice_get L i ≡ Some r
get_in_take zero L i r e = absurd (cc)
get_in_take (suc m) [] i r e = absurd (cc)
get_in_take (suc m) (x ∷ L) zero r e = e
get_in_take (suc m) (x ∷ L) (suc i) r e = get_in_take m L i r e

-- ---- the bytes of batches
pub ends_at : (bytes : List ℕ) (L : List (List Record)) (e : ℕ) → LogOf bytes L e → e ≡ sum_by batch_length L
ends_at bytes L e log = log.front.place ∙ batches_length L log.front.each

-- ---- files that came along steps
pub runs_at : (s : Start) (made : List (List Record)) (p : Point) (D : Files) → TracedTo s made p D → StoreRun (bases_of s) s.log (only D) p
runs_at s made p D t = trace_runs s t.first t.starts t.steps p D t.trace

pub frame_spelled : (bases : Bases) (before : List Record) (c : CoreState) → IsRun bases before no_crash c → AreSpelled (frame_of (log_after before c.system) c)
frame_spelled bases before c run =
    spelled_behind (stable c) (take (taken_to c.system) (log_after before c.system)) (λ i r e. run.runs.log.spelled i r (get_in_take (taken_to c.system) (log_after before c.system) i r e))

spelled_frame : (s : Start) (made : List (List Record)) (p : Point) (D : Files) → TracedTo s made p D → AreSpelled (frame_of p.log p.core)
spelled_frame s made p D t = let run = (runs_at s made p D t).run in
    spelled_behind (stable p.core) (take (taken_to p.core.system) p.log) (λ i r e. subst (λ L. (i : ℕ) (r : Record) → slice_get L i ≡ Some r → CanBeSpelled r) (sym run.log) run.run.runs.log.spelled i r (get_in_take (taken_to p.core.system) p.log i r e))

traced_on : (s : Start) (made C : List (List Record)) (p q : Point) (x : StoreStep) (D F : Files) → TracedTo s made p D → IsPointStep p x q → Came p x D F → (q.core.vault.stopped ≡ false → F.batches ≡ C) → TracedTo s C q F
traced_on s made C p q x D F t step came batches = record { first = t.first; starts = t.starts; steps = t.steps ++ x ∷ []; trace = trace_goes_on (start_point s) p q t.first D F t.steps x t.trace step came; batches = batches }

-- the batches are as before
same_batches : (s : Start) (made : List (List Record)) (p q : Point) (x : StoreStep) (D F : Files) → TracedTo s made p D → IsPointStep p x q → F.batches ≡ D.batches → q.core.vault.stopped ≡ false → F.batches ≡ made
same_batches s made p q x D F t step same h = same ∙ t.batches (point_runs p q x step h)

right_at : (s : Start) (made : List (List Record)) (p : Point) (F : Files) → TracedTo s made p F → LeavesRightAt s p F
right_at s made p F t = record {
  came = inl (made, t);
  prefix = trace_prefix s t.first t.starts t.steps p F t.trace;
  right = every_trace_is_right s t.first t.starts t.steps p F t.trace;
}

pub have_one_log : (old : Disk → Type 0) → HaveOneLog old
have_one_log old s made p all runs d left =
    let D = all d left in
    let is : Spells d D.0 = D.1 in
    let t : TracedTo s made p D.0 = D.2 in
    let end : is.end ≡ p.core.vault.end = ends_at d.log D.0.batches is.end is.log ∙ sym ((runs_at s made p D.0 t).run.run.vault.exact runs D.0 refl).end in
    subst (λ M. LogOf d.log M p.core.vault.end) (t.batches runs) (subst (LogOf d.log D.0.batches) end is.log)

pub have_one_anchor : (old : Disk → Type 0) → HaveOneAnchor old
have_one_anchor old s made p all runs d left =
    let D = all d left in
    subst (IsAnchor d.anchor) ((runs_at s made p D.0 D.2).anchor runs D.0 refl) D.1.anchor

pub store_starts : (old : Disk → Type 0) → StoreStarts old
store_starts old s made all c left =
    let D = all c left in
    (D.0, D.1, record { first = D.0; starts = D.2.0; steps = []; trace = (refl, refl); batches = λ h. D.2.1 })

-- ---- what an append leaves
abbrev Comes : (Disk → Type 0) → Start → List (List Record) → Point → (Files → Files → Type 0) → Disk → Type 0
Comes old s made p Step c = (D : Files) × TracedTo s made p D × (F : Files) × Spells c F × Step D F

module _ (old : Disk → Type 0) (s : Start) (made : List (List Record)) (p : Point) (all : AllSpell old (TracedTo s made p)) (runs : p.core.vault.stopped ≡ false) where
  abbrev frame : List Record
  frame = frame_of p.log p.core

  abbrev at : ℕ
  at = p.core.vault.end

  logs : (d : Disk) → old d → LogOf d.log made at
  logs = have_one_log old s made p all runs

  pub comes_all : (c : Disk) → AllAdded old at (bodies_of (body_at p)) c → Comes old s made p (Came p (Does Flushes)) c
  comes_all c added =
      let D = all added.others.0 added.others.1 in
      let w = flush_spells old made at frame c logs (spelled_frame s made p D.0 D.2) added in
      let E = all w.0 w.1 in
      (E.0, E.2, with_frame E.0 frame, w.2 E.0 E.1, refl)

  pub comes_some : (c : Disk) → SomeAdded old at (bodies_of (body_at p)) c → Comes old s made p (λ D F. (F ≡ D) ⊎ (F ≡ with_frame D frame)) c
  comes_some c added =
      let D = all added.others.0 added.others.1 in
      let w = fault_spells old made at frame c logs (spelled_frame s made p D.0 D.2) added in
      let E = all w.0 w.1 in
      ⊎_elim {C = Comes old s made p (λ D F. (F ≡ D) ⊎ (F ≡ with_frame D frame)) c} (λ same. (E.0, E.2, E.0, same E.0 E.1, inl refl)) (λ more. (E.0, E.2, with_frame E.0 frame, more E.0 E.1, inr refl)) w.2

-- ---- the laws
pub are_right : (old : Disk → Type 0) → AreRight old
are_right old s made p all c left = let D = all c left in (D.0, D.1, right_at s made p D.0 D.2)

pub is_right_now : (told : Option Disk) (old : Disk → Type 0) → IfSome told old → IsRightNow told old
is_right_now told old now s made p all = IfSome_then told now (λ fs left. are_right old s made p all fs left)

pub flush_goes_on : (old new : Disk → Type 0) → FlushGoesOn old new
flush_goes_on old new s made p q all step added c left =
    let w = comes_all old s made p all step.1.0.0 c (added c left) in
    let t : TracedTo s made p w.0 = w.1 in (
      w.2,
      w.3,
      traced_on s made (batches_on made p) p q (Does Flushes) w.0 w.2 t step w.4 (λ h. ap (λ (f : Files). f.batches) w.4 ∙ ap (λ M. with_batch M (frame_of p.log p.core)) (t.batches step.1.0.0)),
    )

halted_by : (p q : Point) (n : ℕ) → IsPointStep p (Does (Faults n)) q → q.core.vault.stopped ≡ true
halted_by p q n step = ap (λ (c : CoreState). c.vault.stopped) step.1.0.2.1

no_longer_runs : {A : Type 0} {b : Bool} → b ≡ true → b ≡ false → A
no_longer_runs e f = absurd (cc)

pub fault_goes_on : (old new : Disk → Type 0) → FaultGoesOn old new
fault_goes_on old new s made p q n all step added c left =
    let w = comes_some old s made p all step.1.0.0 c (added c left) in
    (w.2, w.3, traced_on s made made p q (Does (Faults n)) w.0 w.2 w.1 step w.4 (no_longer_runs (halted_by p q n step)))

pub quiet_goes_on : (old new : Disk → Type 0) → QuietGoesOn old new
quiet_goes_on old new s made p q x all step stays less c left =
    let D = all c (less c left) in
    (D.0, D.1, traced_on s made made p q x D.0 D.0 D.2 step (stays D.0) (same_batches s made p q x D.0 D.0 D.2 step refl))

pub moments_are_right : (since : Disk → Type 0) → MomentsAreRight since
moments_are_right since s p q x step all c left =
    let w = all c left in
    let i : InsideOf s p x w.0 = w.2 in
    let t : TracedTo s i.batches p i.was = i.traced in (
      w.0,
      w.1,
      record {
        came = inr (x, q, step, i);
        prefix = moment_prefix s t.first t.starts t.steps p i.was t.trace x q w.0 step i.inside;
        right = every_moment_is_right s t.first t.starts t.steps p i.was t.trace x q w.0 step i.inside;
      },
    )

pub flush_is_right : (old : Disk → Type 0) → FlushIsRight old
flush_is_right old s made p q all step =
    moments_are_right (SomeAdded old p.core.vault.end (bodies_of (body_at p))) s p q (Does Flushes) step
    (λ c added. let w = comes_some old s made p all step.1.0.0 c added in (w.2, w.3, record { batches = made; was = w.0; traced = w.1; inside = w.4 }))

-- ---- images
-- two checkpoints, one behind the other, have two files
pub sides_turn : (n : ℕ) → side_of n ≡ side_of (n + 1) → ⊥
sides_turn n e = by_tests (n % 2 == 1) ((n + 1) % 2 == 1) refl refl e
  where
    clash : {b : Bool} → b ≡ true → b ≡ false → ⊥
    clash g h = cc

    by_tests : (b d : Bool) → (n % 2 == 1) ≡ b → ((n + 1) % 2 == 1) ≡ d → cond b A B ≡ cond d A B → ⊥
    by_tests true true p q f = let x : n % 2 ≡ 1 = eqb-true (n % 2) 1 p in let y : (n + 1) % 2 ≡ 1 = eqb-true ((n + 1) % 2) 1 q in omega (arith, x, y)
    by_tests true false p q f = cc
    by_tests false true p q f = cc
    by_tests false false p q f =
        let x : n % 2 ≡ 1 → ⊥ = λ w. clash (eq-eqb (n % 2) 1 w) p in
        let y : (n + 1) % 2 ≡ 1 → ⊥ = λ w. clash (eq-eqb ((n + 1) % 2) 1 w) q in
        omega (arith, x, y)

pub two_names : (a b : Side) → (a ≡ b → ⊥) → image_name a ≢ image_name b
two_names A A other = λ e. absurd (other refl)
two_names A B other = λ e. absurd (cc)
two_names B A other = λ e. absurd (cc)
two_names B B other = λ e. absurd (other refl)

pub file_named : (c d : Disk) (side : Side) → file_of (image_name side) c ≡ file_of (image_name side) d → image_file side c ≡ image_file side d
file_named c d A e = e
file_named c d B e = e

pub no_image : (side : Side) → (Log ≢ image_name side) × (Anchor ≢ image_name side)
no_image A = ((λ e. absurd (cc)), λ e. absurd (cc))
no_image B = ((λ e. absurd (cc)), λ e. absurd (cc))

pub gates_at : (s : Start) (made : List (List Record)) (p : Point) (D : Files) → TracedTo s made p D → p.core.vault.stopped ≡ false → D.gates ≡ p.core.vault.current
gates_at s made p D t runs = (runs_at s made p D t).anchor runs D refl

-- a write to the next image leaves what the disk spells
pub spells_written : (p : Point) (c d : Disk) (D : Files) → D.gates ≡ p.core.vault.current → SameBut (image_name (target p)) d c → Spells d D → Spells c D
spells_written p c d D gates same is = record {
  end = is.end;
  log = subst (λ bytes. LogOf bytes D.batches is.end) (sym (same Log (no_image (target p)).0)) is.log;
  anchor = subst (λ bytes. IsAnchor bytes D.gates) (sym (same Anchor (no_image (target p)).1)) is.anchor;
  none = is.none;
  image = λ e. subst (λ bytes. IsImageOf (sizes_in D) bytes (head_of D) D.image) (sym (file_named c d (side_of D.gates) (same (image_name (side_of D.gates)) other))) (is.image e);
}
  where
    other : image_name (side_of D.gates) ≢ image_name (target p)
    other = two_names (side_of D.gates) (target p) (λ e. sides_turn p.core.vault.current (ap side_of (sym gates) ∙ e))

pub write_goes_on : (old new : Disk → Type 0) → WriteGoesOn old new
write_goes_on old new s made p q x all step writes same c left = by_step x step writes
  where
    w : (d : Disk) × old d × SameBut (image_name (target p)) d c
    w = same c left

    D : (F : Files) × Spells w.0 F × TracedTo s made p F
    D = all w.0 w.1

    goes : (y : StoreStep) → IsPointStep p y q → Came p y D.0 D.0 → p.core.vault.stopped ≡ false → (F : Files) × Spells c F × TracedTo s made q F
    goes y st came runs = (D.0, spells_written p c w.0 D.0 (gates_at s made p D.0 D.2 runs) w.2 D.1, traced_on s made made p q y D.0 D.0 D.2 st came (same_batches s made p q y D.0 D.0 D.2 st refl))

    by_step : (y : StoreStep) → IsPointStep p y q → is_image_write y ≡ true → (F : Files) × Spells c F × TracedTo s made q F
    by_step (Copies r n) st e = goes (Copies r n) st (inl refl) st.2.runs
    by_step (WritesHead h) st e = goes (WritesHead h) st (inl refl) st.0.runs
    by_step (CopyFails r ws n) st e = goes (CopyFails r ws n) st (inl refl) st.3.may.runs
    by_step (HeadFails h n) st e = goes (HeadFails h n) st (inl refl) st.0.may.runs
    by_step y st e = absurd (cc)

pub write_is_right : (old : Disk → Type 0) → WriteIsRight old
write_is_right old s made p all runs c w =
    let D = all w.0 w.1 in
    (D.0, spells_written p c w.0 D.0 (gates_at s made p D.0 D.2 runs) w.2 D.1, right_at s made p D.0 D.2)

-- ---- the anchor's move
-- what the anchor names then
abbrev moved : Point → Files → Files
moved p D = turned D (p.heads (target p)) (image_in p.core.system.sizes p.told (target p))

sizes_at : (s : Start) (made : List (List Record)) (p : Point) (D : Files) → TracedTo s made p D → sizes_in D ≡ p.core.system.sizes
sizes_at s made p D t = ap sizes_of is.log ∙ sizes_take p.core.system.sizes p.log is.count format (omega (arith, begins_behind p.core.system.sizes p.log format, is.flushed, began, there.run.run.first))
  where
    there : StoreRun (bases_of s) s.log (only D) p
    there = runs_at s made p D t

    is : IsPrefix p.log (stable p.core) D
    is = (right_at s made p D t).prefix

    began : (last_epoch p.log).first ≤ length s.log
    began = subst (λ M. (last_epoch M).first ≤ length s.log) (sym there.run.log) there.run.run.began

    format : slice_get p.log 0 ≡ Some (Format p.core.system.sizes.index p.core.system.sizes.heap)
    format = subst (λ M. slice_get M 0 ≡ Some (Format p.core.system.sizes.index p.core.system.sizes.heap)) (sym there.run.log) there.run.run.runs.log.format

pub other_files : (c d : Disk) (side : Side) → SameBut Anchor d c → image_file side c ≡ image_file side d
other_files c d A same = same ImageA (λ e. absurd (cc))
other_files c d B same = same ImageB (λ e. absurd (cc))

spells_moved : (p : Point) (c d : Disk) (D : Files) → D.gates ≡ p.core.vault.current → sizes_in D ≡ p.core.system.sizes → SameBut Anchor d c → IsAnchor c.anchor (p.core.vault.current + 1) → HoldsNext p d → Spells d D → Spells c (moved p D)
spells_moved p c d D gates sizes same anchor holds is = record {
  end = is.end;
  log = subst (λ bytes. LogOf bytes D.batches is.end) (sym (same Log (λ e. absurd (cc)))) is.log;
  anchor = subst (λ n. IsAnchor c.anchor (n + 1)) (sym gates) anchor;
  none = λ e. absurd (omega (arith, e));
  image = λ e. subst (λ n. IsImageOf (sizes_in D) (image_file (side_of (n + 1)) c) (p.heads (target p)) (image_in p.core.system.sizes p.told (target p))) (sym gates)
      (subst (λ z. IsImageOf z (image_file (target p) c) (p.heads (target p)) (image_in p.core.system.sizes p.told (target p))) (sym sizes)
      (subst (λ bytes. IsImageOf p.core.system.sizes bytes (p.heads (target p)) (image_in p.core.system.sizes p.told (target p))) (sym (other_files c d (target p) same)) holds));
}

-- the anchor stayed
pub spells_unmoved : (c d : Disk) (D : Files) → SameBut Anchor d c → IsAnchor c.anchor D.gates → Spells d D → Spells c D
spells_unmoved c d D same anchor is = record {
  end = is.end;
  log = subst (λ bytes. LogOf bytes D.batches is.end) (sym (same Log (λ e. absurd (cc)))) is.log;
  anchor = anchor;
  none = is.none;
  image = λ e. subst (λ bytes. IsImageOf (sizes_in D) bytes (head_of D) D.image) (sym (other_files c d (side_of D.gates) same)) (is.image e);
}

moves : (p : Point) (D : Files) → D.gates ≡ p.core.vault.current → IsTurnedFrom p D (moved p D)
moves p D gates = (
  p.heads (target p),
  image_in p.core.system.sizes p.told (target p),
  record { head_is = λ e. ap (λ n. p.heads (side_of (n + 1))) (sym gates); image_is = λ e. ap (λ n. image_in p.core.system.sizes p.told (side_of (n + 1))) (sym gates) },
  refl,
)

pub turn_goes_on : (old new : Disk → Type 0) → TurnGoesOn old new
turn_goes_on old new s made p q all step holds turned c left =
    let w : HasMoved old p.core.vault.current c = turned c left in
    let o = w.others in
    let D = all o.0 o.1 in
    let gates = gates_at s made p D.0 D.2 step.3.runs in (
      moved p D.0,
      spells_moved p c o.0 D.0 gates (sizes_at s made p D.0 D.2) o.2 w.anchor (holds o.0 o.1) D.1,
      traced_on s made made p q Turns D.0 (moved p D.0) D.2 step (moves p D.0 gates) (same_batches s made p q Turns D.0 (moved p D.0) D.2 step refl),
    )

-- the anchor stayed, or has moved
may_move : (old : Disk → Type 0) (s : Start) (made : List (List Record)) (p : Point) → AllSpell old (TracedTo s made p) → p.core.vault.stopped ≡ false → ((d : Disk) → old d → HoldsNext p d)
    → (c : Disk) → MayHaveMoved old p.core.vault.current c
    → (D : Files) × TracedTo s made p D × (F : Files) × Spells c F × ((F ≡ D) ⊎ IsTurnedFrom p D F)
may_move old s made p all runs holds c w =
    let o = w.others in
    let D = all o.0 o.1 in
    let gates = gates_at s made p D.0 D.2 runs in
    ⊎_elim
    (λ stays. (D.0, D.2, D.0, spells_unmoved c o.0 D.0 o.2 (subst (λ k. IsAnchor c.anchor k) (sym gates) stays) D.1, inl refl))
    (λ more. (D.0, D.2, moved p D.0, spells_moved p c o.0 D.0 gates (sizes_at s made p D.0 D.2) o.2 more (holds o.0 o.1) D.1, inr (moves p D.0 gates)))
    w.anchor

pub turn_fault_goes_on : (old new : Disk → Type 0) → TurnFaultGoesOn old new
turn_fault_goes_on old new s made p q n all step holds turned c left =
    let w = may_move old s made p all step.3.may.runs holds c (turned c left) in
    (w.2, w.3, traced_on s made made p q (TurnFails n) w.0 w.2 w.1 step w.4 (no_longer_runs (ap (λ (z : Point). z.core.vault.stopped) step.5)))

pub turn_is_right : (old : Disk → Type 0) (s : Start) (made : List (List Record)) (p q : Point) → AllSpell old (TracedTo s made p) → IsPointStep p Turns q → ((d : Disk) → old d → HoldsNext p d)
    → AllSpell (MayHaveMoved old p.core.vault.current) (LeavesRightAt s p)
turn_is_right old s made p q all step holds =
    moments_are_right (MayHaveMoved old p.core.vault.current) s p q Turns step
    (λ c moving. let w = may_move old s made p all step.3.runs holds c moving in (w.2, w.3, record { batches = made; was = w.0; traced = w.1; inside = within w.0 w.2 w.4 }))
  where
    within : (D F : Files) → (F ≡ D) ⊎ IsTurnedFrom p D F → Inside p Turns D F
    within D F came = came

-- ---- starts
pub format_starts : (old new : Disk → Type 0) → FormatStarts old new
format_starts old new index heap g limit v told heads synced can rules fits vault formatted c left =
    let is : IsFormattedBy old (spelling (Format index heap)) c = formatted c left in
    let F : Files = unchecked (record { index = index; heap = heap }) ((Format index heap ∷ []) ∷ []) in
    let history = format_is_history (record { index = index; heap = heap }) can in (
      F,
      record {
        end = next_place 0 (spelling (Format index heap) ∷ []);
        log = first_log c.log index heap (next_place 0 (spelling (Format index heap) ∷ [])) can is.log;
        anchor = record { gates = λ i lt. absurd (omega (arith, lt)); closed = is.anchor };
        none = λ e. refl;
        image = λ lt. absurd (omega (arith, lt));
      },
      record {
        first = F;
        starts = record {
          lawful = lawful (Format index heap ∷ []) history;
          rules = rules;
          fits = fits;
          rests = fresh_rests (Format index heap ∷ []) v F (record {
            vault = record { runs = vault.runs; flushed = vault.flushed; faults = vault.faults; faults_fit = vault.faults_fit; short = omega (arith, vault.end); moved = omega (arith, vault.current) };
            none = refl;
            files = record { log = refl; kind = inl (record { batches = refl; gates = refl; place = refl; first = refl; weight = refl; next = refl; image = refl; table = refl }) };
            end = vault.end;
            current = sym vault.current;
          });
        };
        steps = [];
        trace = (refl, refl);
        batches = λ h. refl;
      },
    )

pub restart_starts : (new : Disk → Type 0) → RestartStarts new
restart_starts new s older rolled deleted r E is_lawful log some rules fits vault end restarted c left = (
  F,
  spells,
  record {
    first = F;
    starts = record { lawful = is_lawful; rules = rules; fits = fits; rests = fresh_rests s.log s.vault F fresh };
    steps = [];
    trace = (refl, refl);
    batches = λ h. refl;
  },
)
  where
    is : IsRestartedBy older rolled deleted s.vault.current c
    is = restarted c left

    K : List Record
    K = restarted_records older rolled deleted

    h : Head
    h = closed_head s.vault.current older

    F : Files
    F = record {
      batches = older ++ (Restarted rolled deleted ∷ []) ∷ [];
      gates = s.vault.current;
      number = h.number;
      place = h.place;
      first = h.first;
      weight = h.weight;
      next = h.next;
      image = recovered (sizes_of K) K;
      table = [];
    }

    whole : log_in F ≡ K
    whole = flat_map-append (λ b. b) older ((Restarted rolled deleted ∷ []) ∷ [])

    spells : Spells c F
    spells = record {
      end = is.end;
      log = is.log;
      anchor = is.anchor;
      none = λ e. absurd (omega (arith, e, is.some));
      image = λ e. subst (λ z. IsImageOf z (image_file (side_of s.vault.current) c) h (recovered (sizes_of K) K)) (ap sizes_of (sym whole)) is.image;
    }

    fresh : IsFreshImage s.log s.vault F
    fresh = record {
      vault = vault;
      none = ap (λ M. (last_epoch M).records) log ∙ ap (λ (q : Cut). q.now.records) (cut_push (records_in older) (Restarted rolled deleted));
      files = record {
        log = whole ∙ sym log;
        kind = inr (record {
          closed = records_in older;
          rolled = rolled;
          deleted = deleted;
          log = log;
          some = (r, E, some);
          older = older;
          batches = refl;
          spell = refl;
          gates = is.some;
          number = refl;
          place = refl;
          first = refl;
          weight = refl;
          next = refl;
          image = ap (λ M. recovered (sizes_of M) M) (sym log);
          table = refl;
        });
      };
      end = end;
      current = refl;
    }

-- ---- a call that flushes
pub goes_on_by : (old new : Disk → Type 0) (at : ℕ) (body : List ℕ) → ((c : Disk) → new c → AllAdded old at (bodies_of body) c) → GoesOnBy old new at body
goes_on_by old new at body added s made p q all there same step =
    flush_goes_on old new s made p q all step (λ c left. subst (λ n. AllAdded old n (bodies_of (body_at p)) c) (sym there) (subst (λ b. AllAdded old at (bodies_of b) c) (sym same) (added c left)))

pub stops_by : (old new : Disk → Type 0) (at : ℕ) (body : List ℕ) → ((c : Disk) → new c → SomeAdded old at (bodies_of body) c) → StopsBy old new at body
stops_by old new at body added s made p q n all there same step =
    fault_goes_on old new s made p q n all step (λ c left. subst (λ k. SomeAdded old k (bodies_of (body_at p)) c) (sym there) (subst (λ b. SomeAdded old at (bodies_of b) c) (sym same) (added c left)))

pub is_right_in : (old since : Disk → Type 0) (at : ℕ) (body : List ℕ) → ((c : Disk) → since c → SomeAdded old at (bodies_of body) c) → IsRightIn old since at body
is_right_in old since at body added s made p q all there same step c left =
    flush_is_right old s made p q all step c (subst (λ k. SomeAdded old k (bodies_of (body_at p)) c) (sym there) (subst (λ b. SomeAdded old at (bodies_of b) c) (sym same) (added c left)))

-- ---- a call that moves the anchor
pub turns_by : (old new : Disk → Type 0) (n : ℕ) → ((c : Disk) → new c → HasMoved old n c) → TurnsBy old new n
turns_by old new n moved s made p q all there holds step = turn_goes_on old new s made p q all step holds (λ c left. subst (λ k. HasMoved old k c) (sym there) (moved c left))

pub turn_stops_by : (old new : Disk → Type 0) (n : ℕ) → ((c : Disk) → new c → MayHaveMoved old n c) → TurnStopsBy old new n
turn_stops_by old new n moved s made p q k all there holds step = turn_fault_goes_on old new s made p q k all step holds (λ c left. subst (λ m. MayHaveMoved old m c) (sym there) (moved c left))

pub turn_is_right_in : (old since : Disk → Type 0) (n : ℕ) → ((c : Disk) → since c → MayHaveMoved old n c) → TurnIsRightIn old since n
turn_is_right_in old since n moved s made p q all there holds step c left = turn_is_right old s made p q all step holds c (subst (λ m. MayHaveMoved old m c) (sym there) (moved c left))
