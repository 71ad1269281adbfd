-- What a dead client left open on a region is taken back.
use Rattle.std.proofs.Common.{inl, inr, ◌≡◌, ℕ, zero, suc, ◌+◌, ◌<◌, ◌≤◌, Bool, true, false, List, [], ◌∷◌, ◌++◌, Option, Some, None, is_some, refl, ap, sym, subst, ◌∙◌, arith, length, slice_get, slice_set}
use Rattle.std.specs.Prelude.{◌==◌, ◌⊎◌, if◌then◌else◌}
use Rattle.std.specs.List.{list_all}
use Rattle.std.proofs.lemmas.Bool.Decides.{Decides-eqb}
use Rattle.std.proofs.lemmas.List.{append-nil}
use Rattle.std.proofs.lemmas.Option.{none-some, same_Some}
use Rattle.dali_lists.proofs.Lists.{set_same}
use Rattle.dali_lists.proofs.Options.{if_some_at}
use Rattle.dali_region.specs.declared.Hold.{Hold}
use Rattle.dali_region.specs.State.{RegionState, taken_back}
use Rattle.dali_att.specs.declared.state.State.{State}
use Rattle.dali_att.specs.declared.state.State.TheVariants.{Live, Dead, Cleaning, Committed}
use Rattle.dali_att.specs.Table.{with_state}
use Rattle.dali_record.specs.declared.records.Record.{Record}
use Rattle.dali_runs.specs.State.{SystemState, VaultState, row_of, state_of, state_in, hold_in}
use Rattle.dali_runs.specs.Run.{Bases}
use Rattle.dali_runs.specs.Passes.{Audits}
use Rattle.dali_runs.specs.Steps.{in_state}
use Rattle.dali_runs.specs.Regions.{is_alive}
use Rattle.dali_runs.specs.Keeps.{MayRecover, MayGiveBack}
use Rattle.dali_runs.specs.Wholes.{latched_in}
use Rattle.dali_runs.specs.Courses.{Step, Claims, Recovers, GivesBack, Moment, IsCourse}
use Rattle.dali_runs.proofs.Deaths.{region_with}
use Rattle.dali_system.specs.Served.{Served}
use Rattle.dali_calls.specs.Others.{HoldStays}
use Rattle.dali_calls.proofs.Rows.{row_here, row_apart}
use Rattle.dali_calls.proofs.Operating.{held_of}
use Rattle.dali_calls.proofs.Others.{promises_same}
use Rattle.dali_clean.specs.Undone.{IsReclaimed, Released}
use Rattle.dali_clean.specs.Cleaned.{core, moment, AreDead, InRun}
use Rattle.dali_clean.proofs.Cleaning.{if_some_by, state_mapped}
use Rattle.dali_clean.proofs.Steps.{dead_apart}
use Rattle.dali_clean.proofs.Others.{release_others, released_locks}
use Rattle.dali_transactions.specs.Ended.{AreOfEnd, Walks}
use Rattle.dali_transactions.specs.Left.{held, none_of, Cleared}
use Rattle.dali_transactions.proofs.Guarding.{clash}
use Rattle.dali_transactions.proofs.Walking.{is_of_end}

-- ---- holds
-- the hold of a region is dead
pub hold_is_dead : (gs : List RegionState) (r : ℕ) (h : Hold) → AreDead gs → hold_in (slice_get gs r) ≡ Some h → h.dead ≡ true
hold_is_dead gs r h dead there = let own = region_with (slice_get gs r) h there in if_some_at own.0.hold _ h own.2 (dead r own.0 own.1)

pub dead_on : (gs hs : List RegionState) → AreDead gs → ((r : ℕ) → HoldStays gs hs r) → AreDead hs
dead_on gs hs dead holds r g at = if_some_by g.hold _ (λ h there. by_hold h (ap hold_in at ∙ there) (holds r))
  where
    by_hold : (h : Hold) → hold_in (slice_get hs r) ≡ Some h → HoldStays gs hs r → h.dead ≡ true
    by_hold h there (inl same) = hold_is_dead gs r h dead (sym same ∙ there)
    by_hold h there (inr none) = absurd (none-some h (sym none ∙ there))

-- ---- the steps
module _ (gs : List RegionState) (y : SystemState) (r : ℕ) (g : RegionState) (k : Hold) (dead : AreDead gs) (at : slice_get gs r ≡ Some g) (there : g.hold ≡ Some k) where
  abbrev behind : List RegionState
  behind = slice_set gs r (taken_back g)

  gone : k.dead ≡ true
  gone = hold_is_dead gs r k dead (ap hold_in at ∙ there)

  -- its transaction is claimed, and dead again
  claimed_course : (o : Option ℕ) → state_of y k.txn ≡ Some (Dead o) → (bases : Bases) (before L : List Record) (v : VaultState) (a : Audits) → InRun bases before (moment gs y L v a)
      → IsCourse (moment gs y L v a) (Claims k.txn ∷ Recovers r ∷ GivesBack k.txn None ∷ []) (moment behind (in_state (in_state y k.txn (Cleaning o)) k.txn (Dead None)) L v a)
  claimed_course o was bases before L v a run = (
    moment gs y1 L v a,
    ((o, was, (refl, refl)), refl),
    (
      moment behind y1 L v a,
      ((g, at, record { hold = k; at = there; dead = gone; latched = o; claimed = now }, (refl, refl)), refl),
      (moment behind y2 L v a, ((may, (refl, refl)), refl), refl),
    ),
  )
    where
      y1 : SystemState
      y1 = in_state y k.txn (Cleaning o)

      y2 : SystemState
      y2 = in_state y1 k.txn (Dead None)

      now : state_of y1 k.txn ≡ Some (Cleaning o)
      now = ap state_in (row_here y.table k.txn (with_state (Cleaning o))) ∙ state_mapped (Cleaning o) (row_of y k.txn) (Dead o) was

      names : latched_in (state_of y k.txn) ≡ Some r
      names = run.whole.dead r k (ap hold_in at ∙ there) gone

      may : MayGiveBack (core behind y1 v) k.txn None
      may = record {
        was = o;
        claimed = now;
        left = record {
          held = λ q e. absurd (none-some q e);
          only = λ q h is own late.
              let before = held_of gs r g (taken_back g) q h at refl is in
              absurd (before.0 (same_Some r q (sym names ∙ (ap (λ (n : ℕ). latched_in (state_of y n)) (sym own) ∙ run.whole.dead q h before.1 late))));
        };
        idle = record {
          held = λ q e. absurd (none-some q e);
          only = λ q h is own lives. absurd (clash lives (hold_is_dead gs q h dead (held_of gs r g (taken_back g) q h at refl is).1));
        };
      }

  -- or who claimed it has it in hand
  recovered_course : ((o : Option ℕ) → state_of y k.txn ≡ Some (Dead o) → ⊥) → (bases : Bases) (before L : List Record) (v : VaultState) (a : Audits) → InRun bases before (moment gs y L v a)
      → IsCourse (moment gs y L v a) (Recovers r ∷ []) (moment behind y L v a)
  recovered_course not bases before L v a run = (moment behind y L v a, ((g, at, may (state_of y k.txn) refl (run.whole.dead r k (ap hold_in at ∙ there) gone), (refl, refl)), refl), refl)
    where
      may : (st : Option State) → state_of y k.txn ≡ st → latched_in st ≡ Some r → MayRecover (core gs y v) g
      may None e l = absurd (none-some r l)
      may (Some Live) e l = absurd (none-some r l)
      may (Some Committed) e l = absurd (none-some r l)
      may (Some (Dead latched)) e l = absurd (not latched e)
      may (Some (Cleaning latched)) e l = record { hold = k; at = there; dead = gone; latched = latched; claimed = e }

-- no step, three, or one alone
abbrev pub AreOfRelease : SystemState → ℕ → Option Hold → List Step → Type 0
AreOfRelease y r None xs = xs ≡ []
AreOfRelease y r (Some k) xs = ((o : Option ℕ) × (state_of y k.txn ≡ Some (Dead o)) × (xs ≡ Claims k.txn ∷ Recovers r ∷ GivesBack k.txn None ∷ [])) ⊎ (xs ≡ Recovers r ∷ [])

pub record HasReleased (m : Moment) (r : ℕ) (o : Option Hold) (hs : List RegionState) (z : SystemState) : Type 0 where
  pub steps : List Step
  pub are : AreOfRelease m.core.system r o steps
  pub course : IsCourse m steps (moment hs z m.log m.core.vault m.audits)

pub release_leads : (gs : List RegionState) (y z : SystemState) (r : ℕ) (g h : RegionState) → AreDead gs → slice_get gs r ≡ Some g → Released g y h z → (bases : Bases) (before L : List Record) (v : VaultState) (a : Audits) → InRun bases before (moment gs y L v a)
    → HasReleased (moment gs y L v a) r g.hold (slice_set gs r h) z
release_leads gs y z r g h dead at (inl none) bases before L v a run = record {
  steps = [];
  are = subst (λ (o : Option Hold). AreOfRelease y r o []) (sym none.0) refl;
  course = ap (λ (rs : List RegionState). moment rs y L v a) (sym (set_same gs r h (at ∙ ap Some (sym none.1)))) ∙ ap (λ (x : SystemState). moment (slice_set gs r h) x L v a) (sym none.2);
}
release_leads gs y z r g h dead at (inr some) bases before L v a run = subst (λ (x : RegionState). HasReleased (moment gs y L v a) r g.hold (slice_set gs r x) z) (sym some.2) (by_claim some.3)
  where
    by_claim : IsReclaimed y some.0.txn z → HasReleased (moment gs y L v a) r g.hold (slice_set gs r (taken_back g)) z
    by_claim (inl was) = subst (λ (x : SystemState). HasReleased (moment gs y L v a) r g.hold (slice_set gs r (taken_back g)) x) (sym was.2) (record {
      steps = Claims some.0.txn ∷ Recovers r ∷ GivesBack some.0.txn None ∷ [];
      are = subst (λ (o : Option Hold). AreOfRelease y r o (Claims some.0.txn ∷ Recovers r ∷ GivesBack some.0.txn None ∷ [])) (sym some.1) (inl (was.0, was.1, refl));
      course = claimed_course gs y r g some.0 dead at some.1 was.0 was.1 bases before L v a run;
    })
    by_claim (inr not) = subst (λ (x : SystemState). HasReleased (moment gs y L v a) r g.hold (slice_set gs r (taken_back g)) x) (sym not.1) (record {
      steps = Recovers r ∷ [];
      are = subst (λ (o : Option Hold). AreOfRelease y r o (Recovers r ∷ [])) (sym some.1) (inr refl);
      course = recovered_course gs y r g some.0 dead at some.1 not.0 bases before L v a run;
    })

release_front : (y : SystemState) (t r : ℕ) (o : Option Hold) (xs : List Step) → is_alive (state_of y t) ≡ true → AreOfRelease y r o xs → AreOfEnd t xs
release_front y t r None xs alive are = subst (AreOfEnd t) (sym are) tt
release_front y t r (Some k) xs alive (inl all) = subst (AreOfEnd t) (sym all.2) (dead_apart y k.txn t all.0 all.1 alive, refl, refl, tt)
release_front y t r (Some k) xs alive (inr one) = subst (AreOfEnd t) (sym one) tt

pub release_of_end : (y : SystemState) (r : ℕ) (o : Option Hold) (xs : List Step) → AreOfRelease y r o xs → list_all is_of_end xs ≡ true
release_of_end y r None xs are = ap (list_all is_of_end) are
release_of_end y r (Some k) xs (inl all) = ap (list_all is_of_end) all.2
release_of_end y r (Some k) xs (inr one) = ap (list_all is_of_end) one

release_walks : (t : ℕ) (gs : List RegionState) (y z : SystemState) (r : ℕ) (g h : RegionState) → is_alive (state_of y t) ≡ true → slice_get gs r ≡ Some g → Released g y h z → Walks t none_of [] gs y (slice_set gs r h) z
release_walks t gs y z r g h alive at released bases before L v a run dead =
    let led = release_leads gs y z r g h dead at released bases before L v a run in
    record {
      log = L;
      front = led.steps;
      by = release_front y t r g.hold led.steps alive led.are;
      steps = led.steps;
      is = sym (append-nil led.steps);
      course = led.course;
      records = [];
      are = tt;
      logged = sym (append-nil L) ∙ sym (append-nil (L ++ []));
    }

-- ---- another transaction's state
apart_row : (y : SystemState) (u t : ℕ) (o : Option ℕ) → is_alive (state_of y t) ≡ true → state_of y u ≡ Some (Dead o) → row_of (in_state (in_state y u (Cleaning o)) u (Dead None)) t ≡ row_of y t
apart_row y u t o alive was = by_test (u == t) refl
  where
    by_test : (b : Bool) → (u == t) ≡ b → row_of (in_state (in_state y u (Cleaning o)) u (Dead None)) t ≡ row_of y t
    by_test true e =
        let dead : is_alive (state_of y t) ≡ false = ap (λ (n : ℕ). is_alive (state_of y n)) (sym ((Decides-eqb u t).0 e)) ∙ ap is_alive was in
        absurd (clash dead alive)
    by_test false e = row_apart (in_state y u (Cleaning o)).table u t (with_state (Dead None)) e ∙ row_apart y.table u t (with_state (Cleaning o)) e

pub released_row : (y z : SystemState) (t : ℕ) (g h : RegionState) → is_alive (state_of y t) ≡ true → Released g y h z → row_of z t ≡ row_of y t
released_row y z t g h alive (inl none) = ap (λ (x : SystemState). row_of x t) none.2
released_row y z t g h alive (inr some) = by_claim some.3
  where
    by_claim : IsReclaimed y some.0.txn z → row_of z t ≡ row_of y t
    by_claim (inl was) = ap (λ (x : SystemState). row_of x t) was.2 ∙ apart_row y some.0.txn t was.0 alive was.1
    by_claim (inr not) = ap (λ (x : SystemState). row_of x t) not.1

released_sizes : (g h : RegionState) (y z : SystemState) → Released g y h z → z.sizes ≡ y.sizes
released_sizes g h y z (inl none) = ap (λ (x : SystemState). x.sizes) none.2
released_sizes g h y z (inr some) = by_claim some.3
  where
    by_claim : IsReclaimed y some.0.txn z → z.sizes ≡ y.sizes
    by_claim (inl was) = ap (λ (x : SystemState). x.sizes) was.2
    by_claim (inr not) = ap (λ (x : SystemState). x.sizes) not.1

released_stop : (g h : RegionState) (y z : SystemState) → Released g y h z → z.stop ≡ y.stop
released_stop g h y z (inl none) = ap (λ (x : SystemState). x.stop) none.2
released_stop g h y z (inr some) = by_claim some.3
  where
    by_claim : IsReclaimed y some.0.txn z → z.stop ≡ y.stop
    by_claim (inl was) = ap (λ (x : SystemState). x.stop) was.2
    by_claim (inr not) = ap (λ (x : SystemState). x.stop) not.1

pub cleared : (gs : List RegionState) (s z : Served) (t r : ℕ) (g h : RegionState) → is_alive (state_of s.state t) ≡ true → slice_get gs r ≡ Some g → Released g s.state h z.state → z.promised ≡ s.promised
    → Cleared t gs s (slice_set gs r h) z
cleared gs s z t r g h alive at released promised = record {
  left = record {
    walks = release_walks t gs s.state z.state r g h alive at released;
    others = release_others gs s.state z.state t r g h at released;
    promises = promises_same s z t promised;
  };
  sizes = released_sizes g h s.state z.state released;
  stop = released_stop g h s.state z.state released;
  locks = released_locks g h s.state z.state released;
  promised = promised;
  row = released_row s.state z.state t g h alive released;
}

-- ---- how many regions are latched
abbrev count : RegionState → ℕ
count g = if is_some g.hold then 1 else 0

counted : (g : RegionState) (o : Option Hold) → g.hold ≡ o → count g ≡ (if is_some o then 1 else 0)
counted g o e = ap (λ (x : Option Hold). let n : ℕ = if is_some x then 1 else 0 in n) e

pub held_less : (gs : List RegionState) (r : ℕ) (g h : RegionState) (k : Hold) → slice_get gs r ≡ Some g → g.hold ≡ Some k → h.hold ≡ None → held (slice_set gs r h) < held gs
held_less [] r g h k at there none = absurd (none-some g at)
held_less (x ∷ gs) zero g h k at there none =
    let one : count x ≡ 1 = counted x (Some k) (ap (λ (o : RegionState). o.hold) (same_Some x g at) ∙ there) in
    let zero_now : count h ≡ 0 = counted h None none in
    let now : held (h ∷ gs) ≡ count h + held gs = refl in
    let was : held (x ∷ gs) ≡ count x + held gs = refl in
    omega (arith, one, zero_now, now, was)
held_less (x ∷ gs) (suc r) g h k at there none =
    let rest = held_less gs r g h k at there none in
    let now : held (x ∷ slice_set gs r h) ≡ count x + held (slice_set gs r h) = refl in
    let was : held (x ∷ gs) ≡ count x + held gs = refl in
    omega (arith, rest, now, was)

pub held_no_more : (gs hs : List RegionState) → length hs ≡ length gs → ((r : ℕ) → HoldStays gs hs r) → held hs ≤ held gs
held_no_more [] [] size holds = omega arith
held_no_more [] (h ∷ hs) size holds = absurd (omega (arith, size))
held_no_more (g ∷ gs) [] size holds = absurd (omega (arith, size))
held_no_more (g ∷ gs) (h ∷ hs) size holds =
    let rest = held_no_more gs hs (omega (arith, size)) (λ r. holds (suc r)) in
    let here = one (holds 0) in
    let now : held (h ∷ hs) ≡ count h + held hs = refl in
    let was : held (g ∷ gs) ≡ count g + held gs = refl in
    omega (arith, rest, here, now, was)
  where
    one : HoldStays (g ∷ gs) (h ∷ hs) 0 → count h ≤ count g
    one (inl same) = let e = counted h g.hold same in omega (arith, e)
    one (inr none) = let e : count h ≡ 0 = counted h None none in omega (arith, e)
