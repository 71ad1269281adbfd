use Rattle.std.specs.Prelude.{true, false}
use Rattle.std.proofs.Common.{◌≡◌, ℕ, ◌≤◌, ◌<◌, ◌+◌, ◌-◌, ◌*◌, ◌/◌, refl, arith}
use Rattle.dali_segments.proofs.Quiets.{cause_from, cause_here}
use Rattle.dali_segments.proofs.Sounds.{drop_synced}
use Rattle.dali_segments.proofs.LogDrops.{a_wanted, drop_place, whole_drop}
use Rattle.dali_segments.proofs.Droppings.{drops_told, drops_crash, drops_time, drops_lost, drops_sound}
use Rattle.dali_segments.proofs.segmented.Segmented.drop_below.Goals as goal

few_of : (wanted last : ℕ) → wanted < last → last < 4095 → wanted < 4095
few_of wanted last lt below = omega (arith, lt, below)

last_of : (wanted last : ℕ) → wanted < last → wanted ≤ last - 1
last_of wanted last lt = omega (arith, lt)

kept_of : (settled last : ℕ) → settled ≡ last + 1 → last < settled
kept_of settled last is = omega (arith, is)

below_of : (before wanted size below : ℕ) → before < wanted → wanted ≡ below / size - 1 → (wanted + 1) * size ≤ below
below_of before wanted size below lt is = drop_place size below wanted before lt (a_wanted size below wanted is)

pub returns-then-wanted-self-clause-cause : goal.returns-then-wanted-self-clause-cause
returns-then-wanted-self-clause-cause g c =
    cause_from _ _ _ c.refuse.result c.in_ok-sync_log.ensures.cause.kept (cause_here _ _ _ c.refuse.result c.refuse.ensures.fits c.refuse.ensures.more c.refuse.ensures.err)

pub invariant_of-self-in-Break-branch-2 : goal.invariant_of-self-in-Break-branch-2
invariant_of-self-in-Break-branch-2 g c = record {
  in_range = (c.sync_log.new.self.in_range.0, (c.sync_log.new.self.in_range.1.0, (c.sync_log.new.self.in_range.1.1.0, last_of c.saturating_sub-wanted.result c.sync_log.new.self.last c.if-wanted-self.false)));
  sound = drops_lost c.sync_log.new.self.size c.sync_log.new.self.dropped c.saturating_sub-wanted.result c.if-wanted-before.false (few_of _ c.sync_log.new.self.last c.if-wanted-self.false c.sync_log.new.self.in_range.1.0) c.sync_log.new.self.in_range.0 c.sync_log.new.self.last c.sync_log.new.self.settled ((c.saturating_sub-wanted.result + 1) * c.sync_log.new.self.size) c.if-wanted-self.false c.sync_log.new.self.in_range.1.0 (kept_of _ _ c.in_ok-sync_log.ensures.settled.0) c.sync_log.new.self.in_range.1.1.0 (omega arith) c.sync_log.new.self.lost c.in_ok-sync_log.ensures.settled.1 (g.F.Files.told c.sync_log.new.self.files) (g.F.Files.told c.drop_segments.new.files) (g.F.Files.may_leave c.sync_log.new.self.files) (g.F.Files.may_leave c.drop_segments.new.files) (g.F.Files.is_going c.sync_log.new.self.files) (g.F.Files.is_going c.drop_segments.new.files) (g.F.Files.moment c.sync_log.new.self.files) (g.F.Files.moment c.drop_segments.new.files) (g.F.Files.left_since c.sync_log.new.self.files) (g.F.Files.left_since c.drop_segments.new.files) c.sync_log.new.self.sound c.drop_segments.ensures.drops true refl c.saturating_sub-wanted.result (g.met.F.Files.reads_now c.drop_segments.new.files) (g.met.F.Files.no_longer c.drop_segments.new.files);
}

pub invariant_of-self-in-Some : goal.invariant_of-self-in-Some
invariant_of-self-in-Some g c = record {
  in_range = (c.sync_log.new.self.in_range.0, (c.sync_log.new.self.in_range.1.0, (c.sync_log.new.self.in_range.1.1.0, last_of c.saturating_sub-wanted.result c.sync_log.new.self.last c.if-wanted-self.false)));
  sound = drops_sound c.sync_log.new.self.size c.sync_log.new.self.dropped c.saturating_sub-wanted.result c.if-wanted-before.false (few_of _ c.sync_log.new.self.last c.if-wanted-self.false c.sync_log.new.self.in_range.1.0) c.sync_log.new.self.in_range.0 c.sync_log.new.self.last c.sync_log.new.self.settled ((c.saturating_sub-wanted.result + 1) * c.sync_log.new.self.size) c.if-wanted-self.false c.sync_log.new.self.in_range.1.0 (kept_of _ _ c.in_ok-sync_log.ensures.settled.0) c.sync_log.new.self.in_range.1.1.0 (omega arith) c.sync_log.new.self.lost c.in_ok-sync_log.ensures.settled.1 (g.F.Files.told c.sync_log.new.self.files) (g.F.Files.told c.drop_segments.new.files) (g.F.Files.may_leave c.sync_log.new.self.files) (g.F.Files.may_leave c.drop_segments.new.files) (g.F.Files.is_going c.sync_log.new.self.files) (g.F.Files.is_going c.drop_segments.new.files) (g.F.Files.moment c.sync_log.new.self.files) (g.F.Files.moment c.drop_segments.new.files) (g.F.Files.left_since c.sync_log.new.self.files) (g.F.Files.left_since c.drop_segments.new.files) c.sync_log.new.self.sound c.drop_segments.ensures.drops false (g.met.F.Files.reads_now c.drop_segments.new.files) (g.met.F.Files.no_longer c.drop_segments.new.files) c.in_ok-drop_segments-in-Some.ensures.done;
}

pub returns-in_err-drop_segments-in-Some-clause-drops : goal.returns-in_err-drop_segments-in-Some-clause-drops
returns-in_err-drop_segments-in-Some-clause-drops g c =
    whole_drop c.args.below c.args.self.now.size c.sync_log.new.self.size c.args.self.now.dropped c.sync_log.new.self.dropped c.saturating_sub-wanted.result _ _ _ _ _ _ _ _ _ _ _ _
    c.sync_log.ensures.told c.sync_log.ensures.crash c.sync_log.ensures.time c.args.self.now.in_range.0 c.sync_log.ensures.extent.0 c.sync_log.ensures.extent.1.1.0 c.if-wanted-before.false c.saturating_sub-wanted.ensures
    (λ place le. drops_told c.sync_log.new.self.size c.sync_log.new.self.dropped c.saturating_sub-wanted.result c.if-wanted-before.false (few_of _ c.sync_log.new.self.last c.if-wanted-self.false c.sync_log.new.self.in_range.1.0) c.sync_log.new.self.in_range.0 c.sync_log.new.self.last c.sync_log.new.self.settled place c.if-wanted-self.false c.sync_log.new.self.in_range.1.0 (kept_of _ _ c.in_ok-sync_log.ensures.settled.0) c.sync_log.new.self.in_range.1.1.0 le c.sync_log.new.self.lost c.in_ok-sync_log.ensures.settled.1 (g.F.Files.told c.sync_log.new.self.files) (g.F.Files.told c.drop_segments.new.files) (g.F.Files.may_leave c.sync_log.new.self.files) (g.F.Files.may_leave c.drop_segments.new.files) (g.F.Files.is_going c.sync_log.new.self.files) (g.F.Files.is_going c.drop_segments.new.files) (g.F.Files.moment c.sync_log.new.self.files) (g.F.Files.moment c.drop_segments.new.files) (g.F.Files.left_since c.sync_log.new.self.files) (g.F.Files.left_since c.drop_segments.new.files) c.sync_log.new.self.sound c.drop_segments.ensures.drops)
    (drops_crash c.sync_log.new.self.size c.sync_log.new.self.dropped c.saturating_sub-wanted.result c.if-wanted-before.false (few_of _ c.sync_log.new.self.last c.if-wanted-self.false c.sync_log.new.self.in_range.1.0) c.sync_log.new.self.in_range.0 c.sync_log.new.self.last c.sync_log.new.self.settled c.args.below c.if-wanted-self.false c.sync_log.new.self.in_range.1.0 (kept_of _ _ c.in_ok-sync_log.ensures.settled.0) c.sync_log.new.self.in_range.1.1.0 (below_of c.sync_log.new.self.dropped c.saturating_sub-wanted.result c.sync_log.new.self.size c.args.below c.if-wanted-before.false c.saturating_sub-wanted.ensures) c.sync_log.new.self.lost c.in_ok-sync_log.ensures.settled.1 (g.F.Files.told c.sync_log.new.self.files) (g.F.Files.told c.drop_segments.new.files) (g.F.Files.may_leave c.sync_log.new.self.files) (g.F.Files.may_leave c.drop_segments.new.files) (g.F.Files.is_going c.sync_log.new.self.files) (g.F.Files.is_going c.drop_segments.new.files) (g.F.Files.moment c.sync_log.new.self.files) (g.F.Files.moment c.drop_segments.new.files) (g.F.Files.left_since c.sync_log.new.self.files) (g.F.Files.left_since c.drop_segments.new.files) c.sync_log.new.self.sound c.drop_segments.ensures.drops)
    (drops_time c.sync_log.new.self.size c.sync_log.new.self.dropped c.saturating_sub-wanted.result c.if-wanted-before.false (few_of _ c.sync_log.new.self.last c.if-wanted-self.false c.sync_log.new.self.in_range.1.0) c.sync_log.new.self.in_range.0 c.sync_log.new.self.last c.sync_log.new.self.settled c.args.below c.if-wanted-self.false c.sync_log.new.self.in_range.1.0 (kept_of _ _ c.in_ok-sync_log.ensures.settled.0) c.sync_log.new.self.in_range.1.1.0 (below_of c.sync_log.new.self.dropped c.saturating_sub-wanted.result c.sync_log.new.self.size c.args.below c.if-wanted-before.false c.saturating_sub-wanted.ensures) c.sync_log.new.self.lost c.in_ok-sync_log.ensures.settled.1 (g.F.Files.told c.sync_log.new.self.files) (g.F.Files.told c.drop_segments.new.files) (g.F.Files.may_leave c.sync_log.new.self.files) (g.F.Files.may_leave c.drop_segments.new.files) (g.F.Files.is_going c.sync_log.new.self.files) (g.F.Files.is_going c.drop_segments.new.files) (g.F.Files.moment c.sync_log.new.self.files) (g.F.Files.moment c.drop_segments.new.files) (g.F.Files.left_since c.sync_log.new.self.files) (g.F.Files.left_since c.drop_segments.new.files) c.sync_log.new.self.sound c.drop_segments.ensures.drops)

pub returns-in_ok-drop_segments-in-Some-clause-drops : goal.returns-in_ok-drop_segments-in-Some-clause-drops
returns-in_ok-drop_segments-in-Some-clause-drops g c =
    whole_drop c.args.below c.args.self.now.size c.sync_log.new.self.size c.args.self.now.dropped c.sync_log.new.self.dropped c.saturating_sub-wanted.result _ _ _ _ _ _ _ _ _ _ _ _
    c.sync_log.ensures.told c.sync_log.ensures.crash c.sync_log.ensures.time c.args.self.now.in_range.0 c.sync_log.ensures.extent.0 c.sync_log.ensures.extent.1.1.0 c.if-wanted-before.false c.saturating_sub-wanted.ensures
    (λ place le. drops_told c.sync_log.new.self.size c.sync_log.new.self.dropped c.saturating_sub-wanted.result c.if-wanted-before.false (few_of _ c.sync_log.new.self.last c.if-wanted-self.false c.sync_log.new.self.in_range.1.0) c.sync_log.new.self.in_range.0 c.sync_log.new.self.last c.sync_log.new.self.settled place c.if-wanted-self.false c.sync_log.new.self.in_range.1.0 (kept_of _ _ c.in_ok-sync_log.ensures.settled.0) c.sync_log.new.self.in_range.1.1.0 le c.sync_log.new.self.lost c.in_ok-sync_log.ensures.settled.1 (g.F.Files.told c.sync_log.new.self.files) (g.F.Files.told c.drop_segments.new.files) (g.F.Files.may_leave c.sync_log.new.self.files) (g.F.Files.may_leave c.drop_segments.new.files) (g.F.Files.is_going c.sync_log.new.self.files) (g.F.Files.is_going c.drop_segments.new.files) (g.F.Files.moment c.sync_log.new.self.files) (g.F.Files.moment c.drop_segments.new.files) (g.F.Files.left_since c.sync_log.new.self.files) (g.F.Files.left_since c.drop_segments.new.files) c.sync_log.new.self.sound c.drop_segments.ensures.drops)
    (drops_crash c.sync_log.new.self.size c.sync_log.new.self.dropped c.saturating_sub-wanted.result c.if-wanted-before.false (few_of _ c.sync_log.new.self.last c.if-wanted-self.false c.sync_log.new.self.in_range.1.0) c.sync_log.new.self.in_range.0 c.sync_log.new.self.last c.sync_log.new.self.settled c.args.below c.if-wanted-self.false c.sync_log.new.self.in_range.1.0 (kept_of _ _ c.in_ok-sync_log.ensures.settled.0) c.sync_log.new.self.in_range.1.1.0 (below_of c.sync_log.new.self.dropped c.saturating_sub-wanted.result c.sync_log.new.self.size c.args.below c.if-wanted-before.false c.saturating_sub-wanted.ensures) c.sync_log.new.self.lost c.in_ok-sync_log.ensures.settled.1 (g.F.Files.told c.sync_log.new.self.files) (g.F.Files.told c.drop_segments.new.files) (g.F.Files.may_leave c.sync_log.new.self.files) (g.F.Files.may_leave c.drop_segments.new.files) (g.F.Files.is_going c.sync_log.new.self.files) (g.F.Files.is_going c.drop_segments.new.files) (g.F.Files.moment c.sync_log.new.self.files) (g.F.Files.moment c.drop_segments.new.files) (g.F.Files.left_since c.sync_log.new.self.files) (g.F.Files.left_since c.drop_segments.new.files) c.sync_log.new.self.sound c.drop_segments.ensures.drops)
    (drops_time c.sync_log.new.self.size c.sync_log.new.self.dropped c.saturating_sub-wanted.result c.if-wanted-before.false (few_of _ c.sync_log.new.self.last c.if-wanted-self.false c.sync_log.new.self.in_range.1.0) c.sync_log.new.self.in_range.0 c.sync_log.new.self.last c.sync_log.new.self.settled c.args.below c.if-wanted-self.false c.sync_log.new.self.in_range.1.0 (kept_of _ _ c.in_ok-sync_log.ensures.settled.0) c.sync_log.new.self.in_range.1.1.0 (below_of c.sync_log.new.self.dropped c.saturating_sub-wanted.result c.sync_log.new.self.size c.args.below c.if-wanted-before.false c.saturating_sub-wanted.ensures) c.sync_log.new.self.lost c.in_ok-sync_log.ensures.settled.1 (g.F.Files.told c.sync_log.new.self.files) (g.F.Files.told c.drop_segments.new.files) (g.F.Files.may_leave c.sync_log.new.self.files) (g.F.Files.may_leave c.drop_segments.new.files) (g.F.Files.is_going c.sync_log.new.self.files) (g.F.Files.is_going c.drop_segments.new.files) (g.F.Files.moment c.sync_log.new.self.files) (g.F.Files.moment c.drop_segments.new.files) (g.F.Files.left_since c.sync_log.new.self.files) (g.F.Files.left_since c.drop_segments.new.files) c.sync_log.new.self.sound c.drop_segments.ensures.drops)

pub returns-in_ok-drop_segments-in-Some-clause-durable : goal.returns-in_ok-drop_segments-in-Some-clause-durable
returns-in_ok-drop_segments-in-Some-clause-durable g c = λ some.
    drop_synced c.sync_log.new.self.size c.sync_log.new.self.last c.saturating_sub-wanted.result c.sync_log.new.self.settled false c.in_ok-sync_log.ensures.settled.0 refl (g.F.Files.told c.drop_segments.new.files) (g.F.Files.may_leave c.drop_segments.new.files) (g.F.Files.is_going c.drop_segments.new.files) (drops_sound c.sync_log.new.self.size c.sync_log.new.self.dropped c.saturating_sub-wanted.result c.if-wanted-before.false (few_of _ c.sync_log.new.self.last c.if-wanted-self.false c.sync_log.new.self.in_range.1.0) c.sync_log.new.self.in_range.0 c.sync_log.new.self.last c.sync_log.new.self.settled ((c.saturating_sub-wanted.result + 1) * c.sync_log.new.self.size) c.if-wanted-self.false c.sync_log.new.self.in_range.1.0 (kept_of _ _ c.in_ok-sync_log.ensures.settled.0) c.sync_log.new.self.in_range.1.1.0 (omega arith) c.sync_log.new.self.lost c.in_ok-sync_log.ensures.settled.1 (g.F.Files.told c.sync_log.new.self.files) (g.F.Files.told c.drop_segments.new.files) (g.F.Files.may_leave c.sync_log.new.self.files) (g.F.Files.may_leave c.drop_segments.new.files) (g.F.Files.is_going c.sync_log.new.self.files) (g.F.Files.is_going c.drop_segments.new.files) (g.F.Files.moment c.sync_log.new.self.files) (g.F.Files.moment c.drop_segments.new.files) (g.F.Files.left_since c.sync_log.new.self.files) (g.F.Files.left_since c.drop_segments.new.files) c.sync_log.new.self.sound c.drop_segments.ensures.drops false (g.met.F.Files.reads_now c.drop_segments.new.files) (g.met.F.Files.no_longer c.drop_segments.new.files) c.in_ok-drop_segments-in-Some.ensures.done)
