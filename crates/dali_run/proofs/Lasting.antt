-- What a round's memory says at its end of every point before: where no damage escapes at the end from what a crash left, none did where the files came from.
use Rattle.std.proofs.Common.{◌≡◌, ◌-◌, ◌<◌, ◌≤◌, ℕ, Bool, true, false, List, [], ◌∷◌, Some, length, refl, ap, sym, subst, ◌∙◌, inl, inr, arith}
use Rattle.std.specs.Prelude.{slice_get}
use Rattle.std.proofs.lemmas.Option.{slice_get_within}
use Rattle.dali_lists.proofs.Lists.{get_within}
use Rattle.dali_geometry.specs.Places.{regions}
use Rattle.dali_record.specs.declared.records.Record.{Record}
use Rattle.dali_record.specs.Damage.{has}
use Rattle.dali_record.specs.Epochs.{Cut, Epoch, failing, last_epoch}
use Rattle.dali_record.specs.Files.{Files}
use Rattle.dali_region.specs.State.{RegionState}
use Rattle.dali_runs.specs.Courses.{Moment, RunsAt}
use Rattle.dali_runs.specs.Crashes.{NoneEscapes}
use Rattle.dali_runs.specs.Run.{Bases, IsPrefix, RegionRun, RunsOn, base_at, blocks_on, log_in, no_image, only}
use Rattle.dali_runs.specs.State.{CoreState, stable}
use Rattle.dali_runs.proofs.Courses.{runs_on}
use Rattle.dali_runs.proofs.OneMoreTouch.{blocks_on-take}
use Rattle.dali_crash.specs.Checkpoints.{Point, StoreStep, IsPointStep, IsPointCourse, moment_of}
use Rattle.dali_crash.specs.CrashLogs.{cut_to}
use Rattle.dali_crash.specs.Traces.{Start, bases_of, start_point}
use Rattle.dali_crash.proofs.CrashLogs.{cut_parts}
use Rattle.dali_crash.proofs.StoreRuns.{store_step_none}
use Rattle.dali_crash.proofs.StoreStarts.{store_goes}
use Rattle.dali_crash.proofs.Traces.{moment_halts, trace_runs}
use Rattle.dali_store.specs.declared.store.Store.{Ghosts}
use Rattle.dali_crash.specs.Disks.Bridges.{ComesTo}
use Rattle.dali_run.specs.Honest.{EndsTellRounds}
use Rattle.dali_run.proofs.Lasts.{Lasts, stays, on, point_was, never_yet}
use Rattle.dali_run.proofs.Poked.{course_runs}

-- ---- and over steps
record IsLater (new : List RegionState) (r : ℕ) (g : RegionState) : Type 0 where
  now : RegionState
  at : slice_get new r ≡ Some now
  lasts : Lasts g now

some_is : {a b : RegionState} → Some a ≡ Some b → a ≡ b
some_is f = cc

step_later : (bases : Bases) (before : List Record) (p q : Point) (x : StoreStep) → RunsAt bases before no_image (moment_of p) → IsPointStep p x q
    → (r : ℕ) (g : RegionState) → slice_get p.core.regions r ≡ Some g → IsLater q.core.regions r g
step_later bases before p q x run s r g e =
    let behind = store_step_none bases before p q x run s in
    let count : length q.core.regions ≡ length p.core.regions =
    (runs_on bases before no_image (moment_of q) behind).whole ∙ (ap regions (store_goes p q x s).sizes ∙ sym (runs_on bases before no_image (moment_of p) run).whole) in
    let within = slice_get_within p.core.regions r g e in
    let there = get_within q.core.regions r (omega (arith, within, count)) in
    let w = point_was p q x s r there.0 there.1 in
    record { now = there.0; at = there.1; lasts = subst (λ (k : RegionState). Lasts k there.0) (some_is (sym w.at ∙ e)) w.lasts }

course_later : (bases : Bases) (before : List Record) (p q : Point) (xs : List StoreStep) → RunsAt bases before no_image (moment_of p) → IsPointCourse p xs q
    → (r : ℕ) (g : RegionState) → slice_get p.core.regions r ≡ Some g → IsLater q.core.regions r g
course_later bases before p q [] run course r g e = record { now = g; at = subst (λ (z : Point). slice_get z.core.regions r ≡ Some g) course e; lasts = stays g }
course_later bases before p q (x ∷ xs) run course r g e =
    let one = step_later bases before p course.0 x run course.1 r g e in
    let more = course_later bases before course.0 q xs (store_step_none bases before p course.0 x run course.1) course.2 r one.now one.at in
    record { now = more.now; at = more.at; lasts = on g one.now more.now one.lasts more.lasts }

-- ---- a region that nobody wrote to astray has no more blocks in what a crash left than are sound
abbrev FewBlocks : Files → List RegionState → Type 0
FewBlocks F gs = (r : ℕ) (g : RegionState) → slice_get gs r ≡ Some g → g.poked ≡ false → blocks_on r (last_epoch (log_in F)).records ≤ g.sound

few_blocks : (bases : Bases) (before : List Record) (m : Moment) (F : Files) → RunsAt bases before (only F) m → FewBlocks F m.core.regions
few_blocks bases before m F at r g e quiet = subst (λ (k : Epoch). blocks_on r k.records ≤ g.sound) (sym left) (omega (arith, region.protected.all_sound quiet, region.touches, blocks_on-take r count (last_epoch m.log).records))
  where
    runs : RunsOn bases m.log m.core
    runs = subst (λ M. RunsOn bases M m.core) (sym at.log) at.run.runs

    region : RegionRun (base_at bases m.log) (last_epoch m.log) r g
    region = runs.regions r g e

    is : IsPrefix m.log (stable m.core) F
    is = subst (λ M. IsPrefix M (stable m.core) F) (sym at.log) (at.run.vault.prefix F refl)

    began : (last_epoch m.log).first ≤ length before
    began = subst (λ M. (last_epoch M).first ≤ length before) (sym at.log) at.run.began

    count : ℕ
    count = is.count - (last_epoch m.log).first

    left : last_epoch (log_in F) ≡ cut_to count (last_epoch m.log)
    left = ap last_epoch is.log ∙ ap (λ (q : Cut). q.now) (cut_parts m.log is.count (omega (arith, is.flushed, began, at.run.first)) is.within)

few_left : (s : Start) (p : Point) (F : Files) → ComesTo s p F → FewBlocks F p.core.regions
few_left s p F (inl along) = let t = along.1 in few_blocks (bases_of s) s.log (moment_of p) F (trace_runs s t.first t.starts t.steps p F t.trace).run
few_left s p F (inr inside) =
    let i = inside.3 in
    let t = i.traced in
    let h = moment_halts (start_point s) p inside.1 t.first i.was F t.steps inside.0 t.trace inside.2 i.inside in
    let same : h.point.core.regions ≡ p.core.regions = ap (λ (c : CoreState). c.regions) h.core in
    subst (FewBlocks F) same (few_blocks (bases_of s) s.log (moment_of h.point) F (trace_runs s t.first t.starts h.steps h.point F h.trace).run)

-- ---- what escapes none at the end
named_by : (e : Epoch) (r : ℕ) (g : RegionState) (b : Bool) → g.poked ≡ b → (g.poked ≡ false → blocks_on r e.records ≤ g.sound)
    → (g.poked ≡ true → g.sound < blocks_on r e.records → has (failing e) r ≡ true) → g.sound < blocks_on r e.records → has (failing e) r ≡ true
named_by e r g false is few named less = let most = few is in absurd (omega (arith, most, less))
named_by e r g true is few named less = named is less

none_before : (e : Epoch) (gs : List RegionState) (c d : CoreState) → c.regions ≡ gs → ((r : ℕ) (g : RegionState) → slice_get gs r ≡ Some g → IsLater d.regions r g)
    → ((r : ℕ) (g : RegionState) → slice_get gs r ≡ Some g → g.poked ≡ false → blocks_on r e.records ≤ g.sound) → NoneEscapes e d → NoneEscapes e c
none_before e gs c d same later few none = record {
  seen = λ r g there. let w = later r g (moved r g there) in never_yet g.missed (λ m. sym (w.lasts.missed m) ∙ none.seen r w.now w.at);
  named = λ r g there less.
      let w = later r g (moved r g there) in
      named_by e r g g.poked refl (few r g (moved r g there)) (λ p l. none.named r w.now w.at (subst (λ n. n < blocks_on r e.records) (sym (w.lasts.sound p)) l)) less;
}
  where
    moved : (r : ℕ) (g : RegionState) → slice_get c.regions r ≡ Some g → slice_get gs r ≡ Some g
    moved r g there = ap (λ (l : List RegionState). slice_get l r) (sym same) ∙ there

module _ {V : Type 0} (g : Ghosts V) where
  pub ends_tell_rounds : EndsTellRounds g
  ends_tell_rounds c d base a q F same is none =
      let bases = bases_of a.start in
      let runs = course_runs bases a.start.log a.point is.between is.before a.begins.stands.at.vault.run.run is.comes in
      let few : FewBlocks F is.between.core.regions = subst (FewBlocks F) is.regions (few_left a.start is.to F is.right.came) in
      none_before (last_epoch (log_in F)) is.between.core.regions is.between.core q.core refl (course_later bases a.start.log is.between q is.behind runs is.goes) few none
