-- The parts of a run about regions, and about the stop, with one more record at the end of the log.
use Rattle.std.proofs.Common.{◌≡◌, ℕ, zero, suc, ◌+◌, ◌-◌, ◌<◌, ◌≤◌, Bool, true, false, cond, List, [], ◌∷◌, ◌++◌, length, take, Option, Some, None, refl, ap, sym, subst, ◌∙◌, ⊎_elim, arith, ◌⊎◌}
use Rattle.std.specs.Prelude.{is_some, ◌==◌, fold, ◌^◌}
use Rattle.std.proofs.lemmas.List.{take-append-le, take_at, length-set, get_or-set_same, get_or-set_other}
use Rattle.std.proofs.lemmas.Bool.Decides.{Decides-eqb}
use Rattle.dali_geometry.specs.Sizes.{Sizes}
use Rattle.dali_record.specs.declared.records.Record.{Record}
use Rattle.dali_record.specs.Blocks.{rewritten, IsSoundOn}
use Rattle.dali_record.specs.Log.{Touch, touch_of, touch_at}
use Rattle.dali_record.specs.Epochs.{Epoch, last_epoch, next_number, clean_place}
use Rattle.dali_record.specs.Damage.{any_touch}
use Rattle.dali_record.specs.Settled.{words_in, redo, redo_touch, redo_all, settled, IsSoundAt, IsSoundIn}
use Rattle.dali_record.specs.Legal.{Rules, rules_state, rules_next}
use Rattle.dali_record.proofs.Pushes.{rules_state_push, redo_all_push, touch_push_cases, IsSoundAt-old, IsSoundAt-new}
use Rattle.dali_region.specs.State.{RegionState, counted, touched}
use Rattle.dali_region.proofs.Holds.{touched_keeps}
use Rattle.dali_runs.specs.State.{SystemState, VaultState}
use Rattle.dali_runs.specs.Run.{failed_first, damage_in, StopRun, on_region, on_step, blocks_on, certified_on, RegionRun}
use Rattle.dali_runs.specs.Regions.{IsOpen}
use Rattle.dali_runs.proofs.OneMore.{is_plain, one_more, clean_place-plain, blocks_on-push, failed_first-push, fail_plain, last_epoch-push, plain_inside}

-- ---- the stop
pub StopRun-push :
    (s : Sizes) (L : List Record) (x : Record) (y z : SystemState) (v : VaultState) → StopRun s L y v → is_plain x ≡ true
    → (old new : Rules) → rules_state s L ≡ Some old → rules_next s (rules_state s L) x ≡ Some new → new.failed ≡ old.failed
    → z.stop ≡ y.stop
    → StopRun s (L ++ x ∷ []) z v
StopRun-push s L x y z v run plain old new was is same stays = record {
  damage = ap damage_in stays ∙ (run.damage ∙ sym (ap (λ e. failed_first e.records) (last_epoch-push L x (plain_inside x plain)) ∙ (failed_first-push (last_epoch L).records x ∙ fail_plain (failed_first (last_epoch L).records) x plain)));
  failed = λ g e. let h : g ≡ new = some_same (sym e ∙ (rules_state_push s L x ∙ is)) in ap (λ q. q.failed) h ∙ (same ∙ (run.failed old was ∙ ap (λ c. is_some (damage_in c)) (sym stays)));
  store = λ e. run.store (sym stays ∙ e);
}
  where
    some_same : {p q : Rules} → Some p ≡ Some q → p ≡ q
    some_same e = cc

-- ---- words
length-redo_touch : (image : List (List ℕ)) (o : Option Touch) → length (redo_touch image o) ≡ length image
length-redo_touch image None = refl
length-redo_touch image (Some a) = length-set image a.block.region _

pub length-redo_all : (base : List (List ℕ)) (E : List Record) → length (redo_all base E) ≡ length base
length-redo_all base [] = refl
length-redo_all base (x ∷ E) = length-redo_all (redo base x) E ∙ length-redo_touch base (touch_of x)

words_other : (image : List (List ℕ)) (q : ℕ) (o : Option Touch) → any_touch (λ a. a.block.region == q) o ≡ false → words_in (redo_touch image o) q ≡ words_in image q
words_other image q None e = refl
words_other image q (Some a) e = get_or-set_other image a.block.region q _ [] (λ same. let f : (a.block.region == q) ≡ true = (Decides-eqb a.block.region q).1 (sym same) in absurd (cc))

pub settled-other : (base : List (List ℕ)) (E : List Record) (x : Record) (q : ℕ) → on_region q x ≡ false → settled base (E ++ x ∷ []) q ≡ settled base E q
settled-other base E x q e = ap (λ image. words_in image q) (redo_all_push base E x) ∙ words_other (redo_all base E) q (touch_of x) e

pub settled-touch : (base : List (List ℕ)) (E : List Record) (x : Record) (a : Touch) → touch_of x ≡ Some a → a.block.region < length base → settled base (E ++ x ∷ []) a.block.region ≡ rewritten a.block (settled base E a.block.region)
settled-touch base E x a e h =
    ap (λ image. words_in image a.block.region) (redo_all_push base E x ∙ ap (redo_touch (redo_all base E)) e)
    ∙ get_or-set_same (redo_all base E) a.block.region (rewritten a.block (words_in (redo_all base E) a.block.region)) [] (omega (arith, h, length-redo_all base E))

-- ---- a region that the record isn't on
pub not_on : (r n : ℕ) (x : Record) → on_region r x ≡ false → on_step r n x ≡ n
not_on r n x e = rw e refl

is_on : (r n : ℕ) (x : Record) → on_region r x ≡ true → on_step r n x ≡ n + 1
is_on r n x e = rw e refl

pub certified-plain : (r : ℕ) (e : Epoch) (x : Record) → is_plain x ≡ true → clean_place e ≤ next_number e → certified_on r (one_more e x) ≡ certified_on r e
certified-plain r e x plain within = ap (λ n. blocks_on r (take (n - e.first) (e.records ++ x ∷ []))) (clean_place-plain e x plain) ∙ ap (blocks_on r) (take-append-le (clean_place e - e.first) e.records (x ∷ []) (omega (arith, within)))

touch_apart : (o : Option Touch) (r : ℕ) (a : Touch) → any_touch (λ b. b.block.region == r) o ≡ false → o ≡ Some a → a.block.region ≡ r → Unit {0}
touch_apart o r a e f g = tt

other_touch : (x : Record) (r : ℕ) (a : Touch) → on_region r x ≡ false → touch_of x ≡ Some a → a.block.region ≡ r → (a.block.region == r) ≡ false
other_touch x r a e f g = rw f at e

pub RegionRun-off :
    (base : List (List ℕ)) (e : Epoch) (x : Record) (r : ℕ) (g : RegionState) → RegionRun base e r g
    → on_region r x ≡ false → (g.missed ≡ false → certified_on r (one_more e x) ≤ g.sound)
    → RegionRun base (one_more e x) r g
RegionRun-off base e x r g run off certified = record {
  protected = run.protected;
  reads = run.reads;
  touches = run.touches ∙ sym (blocks_on-push r e.records x ∙ not_on r (blocks_on r e.records) x off);
  sound = λ i a h on below. ⊎_elim
      (λ old. IsSoundAt-old base e.records x i old.0 (run.sound i a old.1 on (rw (take-append-le i e.records (x ∷ []) (omega (arith, old.0))) at below)))
      (λ new. let f : (a.block.region == r) ≡ false = other_touch x r a off new.1 on in let t : (a.block.region == r) ≡ true = (Decides-eqb a.block.region r).1 on in absurd (cc))
      (touch_push_cases e.records x i a h);
  settled = λ h. run.settled h ∙ sym (settled-other base e.records x r off);
  certified = certified;
}

pub RegionRun-other :
    (base : List (List ℕ)) (e : Epoch) (x : Record) (r : ℕ) (g : RegionState) → RegionRun base e r g
    → on_region r x ≡ false → is_plain x ≡ true → clean_place e ≤ next_number e
    → RegionRun base (one_more e x) r g
RegionRun-other base e x r g run off plain within = RegionRun-off base e x r g run off (λ h. rw (certified-plain r e x plain within) (run.certified h))

-- ---- the region that the block is on
on_its : (x : Record) (a : Touch) → touch_of x ≡ Some a → on_region a.block.region x ≡ true
on_its x a e = rw e ((Decides-eqb a.block.region a.block.region).1 refl)

more_if : (b : Bool) (n : ℕ) → n ≤ cond b n (n + 1)
more_if true n = omega arith
more_if false n = omega arith

step_grows : (r n : ℕ) (x : Record) → n ≤ on_step r n x
step_grows r n x = by_test (on_region r x)
  where
    by_test : (b : Bool) → n ≤ cond b (n + 1) n
    by_test true = omega arith
    by_test false = omega arith

pub fold_grows : (r n : ℕ) (E : List Record) → n ≤ fold (on_step r) n E
fold_grows r n [] = omega arith
fold_grows r n (x ∷ E) = omega (arith, step_grows r n x, fold_grows r (on_step r n x) E)

-- a block on r isn't among those before it
pub before_less : (r n : ℕ) (E : List Record) (i : ℕ) (b : Touch) → touch_at E i ≡ Some b → b.block.region ≡ r → fold (on_step r) n (take i E) < fold (on_step r) n E
before_less r n [] i b e on = absurd (cc)
before_less r n (x ∷ E) zero b e on = let f : on_region r x ≡ true = subst (λ q. on_region q x ≡ true) on (on_its x b e) in omega (arith, is_on r n x f, fold_grows r (on_step r n x) E)
before_less r n (x ∷ E) (suc i) b e on = before_less r (on_step r n x) E i b e on

-- the first n of them
pub blocks_on-take : (r n : ℕ) (E : List Record) → blocks_on r (take n E) ≤ blocks_on r E
blocks_on-take r n E = from r 0 n E
  where
    from : (r a n : ℕ) (E : List Record) → fold (on_step r) a (take n E) ≤ fold (on_step r) a E
    from r a zero E = fold_grows r a E
    from r a (suc n) [] = omega arith
    from r a (suc n) (x ∷ E) = from r (on_step r a x) n E

-- the counts have room: an epoch has fewer than 2^40 records
pub blocks_few : (r n : ℕ) (E : List Record) → fold (on_step r) n E ≤ n + length E
blocks_few r n [] = omega arith
blocks_few r n (x ∷ E) = omega (arith, blocks_few r (on_step r n x) E, step_few (on_region r x))
  where
    step_few : (b : Bool) → cond b (n + 1) n ≤ n + 1
    step_few true = omega arith
    step_few false = omega arith

counted_few : (n : ℕ) → n < 2 ^ 40 → counted n ≡ n + 1
counted_few n h = omega (arith, h)

pub RegionRun-touched :
    (base : List (List ℕ)) (e : Epoch) (x : Record) (g : RegionState) (a : Touch) (owner : ℕ) → touch_of x ≡ Some a
    → RegionRun base e a.block.region g → IsOpen g owner a.block
    → is_plain x ≡ true → clean_place e ≤ next_number e → a.block.region < length base → length e.records < 2 ^ 40
    → RegionRun base (one_more e x) a.block.region (touched g)
RegionRun-touched base e x g a owner is run is_open plain within inside few = record {
  protected = touched_keeps g run.protected (omega (arith, touches_few));
  reads = tt;
  touches = counted_few g.touches touches_few ∙ (ap (λ n. n + 1) run.touches ∙ sym one);
  sound = λ i b h on below. by_cases i b on (rw (counted_few g.sound sound_few) at below) (touch_push_cases e.records x i b h);
  settled = λ h. is_open.stands h ∙ (ap (rewritten a.block) (run.settled h) ∙ sym (settled-touch base e.records x a is inside));
  certified = λ h. rw (certified-plain a.block.region e x plain within, counted_few g.sound sound_few) (omega (arith, run.certified h, more_if g.poked g.sound));
}
  where
    touches_few : g.touches < 2 ^ 40
    touches_few = omega (arith, run.touches, blocks_few a.block.region 0 e.records, few)

    sound_few : g.sound < 2 ^ 40
    sound_few = omega (arith, run.protected.within, touches_few)

    one : blocks_on a.block.region (e.records ++ x ∷ []) ≡ blocks_on a.block.region e.records + 1
    one = blocks_on-push a.block.region e.records x ∙ is_on a.block.region (blocks_on a.block.region e.records) x (on_its x a is)

    -- an old block among the first `sound`, or the region isn't poked and all are
    by_poked : (p : Bool) → g.poked ≡ p → (i : ℕ) (b : Touch) → i < length e.records → touch_at e.records i ≡ Some b → b.block.region ≡ a.block.region → blocks_on a.block.region (take i e.records) < cond g.poked g.sound (g.sound + 1) → IsSoundAt base e.records i
    by_poked true q i b h at on below = run.sound i b at on (rw q at below)
    by_poked false q i b h at on below = run.sound i b at on (omega (arith, run.protected.all_sound q, run.touches, before_less a.block.region 0 e.records i b at on))

    at_end : (p : Bool) → g.poked ≡ p → blocks_on a.block.region e.records < cond g.poked g.sound (g.sound + 1) → IsSoundIn (redo_all base e.records) x
    at_end true q below = let f : blocks_on a.block.region e.records < g.sound = rw q at below in absurd (omega (arith, f, run.protected.within, run.touches))
    at_end false q below = rw is (subst (λ ws. IsSoundOn ws a.block) (run.settled q) (is_open.sound q))

    by_cases :
        (i : ℕ) (b : Touch) → b.block.region ≡ a.block.region
        → blocks_on a.block.region (take i (e.records ++ x ∷ [])) < cond g.poked g.sound (g.sound + 1)
        → ((i < length e.records) × (touch_at e.records i ≡ Some b)) ⊎ ((i ≡ length e.records) × (touch_of x ≡ Some b))
        → IsSoundAt base (e.records ++ x ∷ []) i
    by_cases i b on below = ⊎_elim
        (λ old. IsSoundAt-old base e.records x i old.0 (by_poked g.poked refl i b old.0 old.1 on (rw (take-append-le i e.records (x ∷ []) (omega (arith, old.0))) at below)))
        (λ new. subst (λ k. IsSoundAt base (e.records ++ x ∷ []) k) (sym new.0) (IsSoundAt-new base e.records x (at_end g.poked refl (rw (take_at e.records (x ∷ []) i (sym new.0)) at below))))
