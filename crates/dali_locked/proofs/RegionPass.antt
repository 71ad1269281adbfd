-- An audit passes the region in hand.
use Rattle.std.proofs.Common.{◌≡◌, ℕ, zero, suc, ◌+◌, ◌<◌, ◌≤◌, Bool, true, false, List, [], ◌∷◌, ◌++◌, length, Option, Some, None, refl, ap, sym, subst, ◌∙◌, ◌⊎◌, inl, inr, ⊎_elim, arith}
use Rattle.std.specs.Prelude.{slice_get, take, ◌==◌, ◌||◌}
use Rattle.std.proofs.lemmas.List.{append_assoc}
use Rattle.atomic_table.specs.Seated.{TableId}
use Rattle.dali_lists.proofs.Lists.{get_set, get_push}
use Rattle.dali_lists.proofs.Numbers.{eqb-self}
use Rattle.std.proofs.lemmas.Bool.{eqb-true}
use Rattle.dali_runs.proofs.CountsLemmas.Lists.{some_same}
use Rattle.dali_region.specs.State.{RegionState, checked}
use Rattle.dali_runs.specs.Run.{Bases}
use Rattle.dali_runs.specs.Courses.{Passes}
use Rattle.dali_runs.specs.Audits.{IsAuditing}
use Rattle.dali_crash.specs.Checkpoints.{StoreStep, Does, Point}
use Rattle.dali_crash.specs.Traces.{Start, bases_of}
use Rattle.dali_notes.specs.History.{IsSeen, Sight, signs, AllMay, MayAdd, Added}
use Rattle.dali_concurrent.specs.Entries.{Entry, Passed, Entries, At, region_note, notes_of}
use Rattle.dali_concurrent.specs.Rules.{Outset, count_of, log_by, BeganAudit, AllFit}
use Rattle.dali_concurrent.specs.Told.{OnRegion, Item, Line, History, plain, plain_one, core_told}
use Rattle.dali_concurrent.specs.Kept.{is_silent, HoldIs, RegionTold, Follows}
use Rattle.dali_concurrent.specs.Holds.{IsLed}
use Rattle.dali_concurrent.specs.Audits.{NotPassed, NotEnded}
use Rattle.dali_concurrent.proofs.Lists.{get_of_front, get_back_of}
use Rattle.dali_concurrent.proofs.Told.{plain-append, plain_seen, told_push}
use Rattle.dali_concurrent.proofs.Kept.{fit_of}
use Rattle.dali_concurrent.proofs.Holds.{holds_are_told}
use Rattle.dali_concurrent.proofs.Audits.{began_is_here, pass_fits_here, passes_land}
use Rattle.dali_concurrent.proofs.Auditing.{audit_stays_open, open_until_passed}
use Rattle.dali_locked.specs.Begun.{Begun, outset, may_add, Of}
use Rattle.dali_locked.specs.Sights.{RegionSight, region_sight}
use Rattle.dali_locked.specs.SystemSteps.{Auditing}
use Rattle.dali_locked.specs.Regions.{RegionKept, IsOpenAudit, HasPassed, pass_item}
use Rattle.dali_locked.proofs.RegionLines.{hold_next}
use Rattle.dali_locked.proofs.RegionAdding.{led_on, seen_further, told_on, own_pass, passes_meet, passes_next, kept_behind}
use Rattle.dali_locked.proofs.RegionOps.{uncounted, operation_stays, under_way_checked}
use Rattle.dali_locked.proofs.Adding.{one_silent}

-- behind what was seen it began there still
began_on : (o : Outset) (P R : Entries) (c b : ℕ) → BeganAudit o P c b → BeganAudit o (P ++ R) c b
began_on o P R c b w =
    let front = get_of_front P R w.place _ w.there in
    record { place = w.place; notes = w.notes; there = front.0; number = w.number ∙ ap (λ Q. length (log_by o Q)) (sym front.1) }

signs_alone : (r : ℕ) → signs (region_note r) (region_note r ∷ []) ≡ true
signs_alone r = ap (λ b. b || false) (eqb-self (region_note r))

one_alone : (r q : ℕ) → signs (region_note q) (region_note r ∷ []) ≡ true → r ≡ q
one_alone r q h = of (region_note r == region_note q) refl h
  where
    of : (b : Bool) → (region_note r == region_note q) ≡ b → (b || false) ≡ true → r ≡ q
    of true e f = let same : region_note r ≡ region_note q = eqb-true (region_note r) (region_note q) e in omega (arith, same)
    of false e f = absurd (cc)

module _ (bases : Bases) (p : Point) (o : Outset) (T : History) (b r : ℕ) (g : RegionState) (led : IsLed bases p o T) (told : RegionTold o r g T) (c : ℕ) (began : BeganAudit o (plain T) c b)
    (is_open : IsAuditing (core_told o T).system.sizes (log_by o (plain T)) b) (none : NotPassed (plain T) b r) where
  pub pass_follows : Follows bases p o T (region_note r ∷ [], pass_item r b (g.stray == 0) (checked g))
  pass_follows = record {
    fits = record { by = λ k h. h; fits = pass_fits_here bases p o T b r g led (began_is_here o T c b began) told.is };
    effect = signs_alone r;
    lands = passes_land bases p o T (region_note r ∷ []) b r (g.stray == 0) g led (began_is_here o T c b began) is_open none told.is;
    silent = λ quiet. one_silent (Does (Passes b r)) refl;
    steps = refl;
    writes = refl;
    holds = λ q k low signed at.
        let here : r ≡ q = one_alone r q signed in
        let behind : slice_get (core_told o (T ++ (region_note r ∷ [], pass_item r b (g.stray == 0) (checked g)) ∷ [])).regions r ≡ Some (checked g) =
        ap (λ d. slice_get d.regions r) (told_push o T (region_note r ∷ [], pass_item r b (g.stray == 0) (checked g))) ∙ get_set (core_told o T).regions r g (checked g) told.is in
        let now : checked g ≡ k = some_same (sym behind ∙ (ap (λ z. slice_get (core_told o (T ++ (region_note r ∷ [], pass_item r b (g.stray == 0) (checked g)) ∷ [])).regions z) here ∙ at)) in
        subst (λ z. HoldIs o z k (plain (T ++ (region_note r ∷ [], pass_item r b (g.stray == 0) (checked g)) ∷ []))) here
        (subst (λ z. HoldIs o r z (plain (T ++ (region_note r ∷ [], pass_item r b (g.stray == 0) (checked g)) ∷ []))) now
        (subst (HoldIs o r (checked g)) (sym (plain-append T ((region_note r ∷ [], pass_item r b (g.stray == 0) (checked g)) ∷ [])))
        (hold_next o r (checked g) (plain T) (region_note r ∷ [], Passed r b (g.stray == 0)) told.hold.live told.hold.dead)));
    checks = λ some. absurd (cc);
  }

-- ---- wherever others have led the history
pub pass_may :
    (b : Begun) (t : TableId) (k : ℕ) (x : RegionSight) (kept : RegionKept b t k x) (seen rest : History) (begin : ℕ) → x.seen ≡ seen ++ rest → Of b (IsOpenAudit begin) seen → x.audits ≤ begin
    → MayAdd (may_add b) (region_sight b x ∷ []) (pass_item x.number begin (x.region.stray == 0) (checked x.region))
pass_may b t k x kept seen rest begin is knows fresh now saw all s p each = pass_follows (bases_of s) p o now begin x.number x.region led told (knows s p each).0 began is_open none
  where
    o : Outset
    o = outset b s p

    led : IsLed (bases_of s) p o now
    led = (led_on b x.seen now kept.led all s p each).led

    told : RegionTold o x.number x.region now
    told = told_on b t k x now kept saw.0 all s p each

    all_seen : now ≡ seen ++ (rest ++ saw.0.rest)
    all_seen = saw.0.all ∙ (ap (λ l. l ++ saw.0.rest) is ∙ append_assoc seen rest saw.0.rest)

    plain_is : plain now ≡ plain seen ++ plain (rest ++ saw.0.rest)
    plain_is = ap plain all_seen ∙ plain-append seen (rest ++ saw.0.rest)

    began : BeganAudit o (plain now) (knows s p each).0 begin
    began = subst (λ P. BeganAudit o P (knows s p each).0 begin) (sym plain_is) (began_on o (plain seen) (plain (rest ++ saw.0.rest)) (knows s p each).0 begin (knows s p each).1.began)

    good : AllFit o (plain now)
    good = fit_of (bases_of s) p o now led.all

    none : NotPassed (plain now) begin x.number
    none i ks right at =
        let signed = (good i (ks, Passed x.number begin right) at).by (region_note x.number) (signs_alone x.number) in
        let w = own_pass x.number (plain x.seen) (plain now) i begin ks right (plain_seen now (region_note x.number) x.seen saw.0) at signed in
        let below = kept.passed.below w.0 begin ks right w.1 signed in
        omega (arith, below, fresh)

    unended : NotEnded (plain now) begin
    unended = open_until_passed o (plain now) begin x.number good (holds_are_told (bases_of s) p o now led x.number x.region told.is).0 none

    is_open : IsAuditing (core_told o now).system.sizes (log_by o (plain now)) begin
    is_open = subst (λ T. IsAuditing (core_told o T).system.sizes (log_by o (plain T)) begin) (sym all_seen)
        (audit_stays_open (bases_of s) p o seen (rest ++ saw.0.rest) begin (subst (IsLed (bases_of s) p o) all_seen led) (knows s p each).1.is_open
        (λ i d ks found at. unended (length (plain seen) + i) d ks found (ap (λ P. slice_get P (length (plain seen) + i)) plain_is ∙ (get_back_of (plain seen) (plain (rest ++ saw.0.rest)) i ∙ at))))

-- ---- behind it
pub passed_kept :
    (b : Begun) (t : TableId) (k : ℕ) (x : RegionSight) (kept : RegionKept b t k x) (begin : ℕ) (right : Bool) (new : History) → x.audits ≤ begin
    → Added (region_sight b x ∷ []) (pass_item x.number begin right (checked x.region)) new → AllMay (may_add b) new
    → RegionKept b t k (record { number = x.number; steps = x.steps; audits = begin + 1; region = checked x.region; seen = new })
passed_kept b t k x kept begin right new low added all =
    let line : Line = (region_note x.number ∷ [], pass_item x.number begin right (checked x.region)) in
    subst (λ T. RegionKept b t k (record { number = x.number; steps = x.steps; audits = begin + 1; region = checked x.region; seen = T })) (sym added.2)
    (kept_behind b t k x.steps (begin + 1) x (checked x.region) added.0 line kept added.1.0 (subst (AllMay (may_add b)) added.2 all) (signs_alone x.number)
    (λ c at. get_set c.regions x.number x.region (checked x.region) at)
    (operation_stays x.number x.steps x.region (checked x.region) x.seen added.0 line kept.operation added.1.0 (uncounted x.number (region_note x.number ∷ []) line.1 (signs_alone x.number) refl) (under_way_checked x.region))
    (passes_next x.number x.audits begin (region_note x.number ∷ []) right added.0 line low refl (passes_meet x.number x.audits x.seen added.0 added.1.0 kept.passed)))

-- the region's note had met others before
pub pass_before : (b : Begun) (x : RegionSight) (mid : History) (item : Item) (new : History) → IsSeen mid (region_note x.number) x.seen
    → Added (region_sight b (record x { seen = mid }) ∷ []) item new → Added (region_sight b x ∷ []) item new
pass_before b x mid item new is added = (added.0, (seen_further (region_note x.number) x.seen mid added.0 is added.1.0, tt), added.2)

-- who has seen it knows that it was passed
pub passed_told : (b : Begun) (x : RegionSight) (begin : ℕ) (right : Bool) (h : RegionState) (new theirs : History) (k : ℕ) → Added (region_sight b x ∷ []) (pass_item x.number begin right h) new → IsSeen theirs k new
    → Of b (HasPassed x.number begin right) theirs
passed_told b x begin right h new theirs k added is s p each =
    let line : Line = (region_note x.number ∷ [], pass_item x.number begin right h) in
    let there : slice_get (plain new) (length (plain added.0)) ≡ Some (plain_one line) = ap (λ T. slice_get (plain T) (length (plain added.0))) added.2 ∙ (ap (λ P. slice_get P (length (plain added.0))) (plain-append added.0 (line ∷ [])) ∙ get_push (plain added.0) (plain_one line)) in (
      length (plain added.0),
      region_note x.number ∷ [],
      ap (λ P. slice_get P (length (plain added.0))) (plain_seen theirs k new is).all ∙ (get_of_front (plain new) (plain_seen theirs k new is).rest (length (plain added.0)) (plain_one line) there).0,
    )

-- which audit has passed it
pub last_pass : (b : Begun) (t : TableId) (k : ℕ) (x : RegionSight) (begin : ℕ) → RegionKept b t k x → begin < x.audits
    → (n : ℕ) × (begin ≤ n) × (i : ℕ) × (ks : List ℕ) × (right : Bool) × At (plain x.seen) i (ks, Passed x.number n right)
last_pass b t k x begin kept low = of x.audits refl
  where
    of : (a : ℕ) → x.audits ≡ a → (n : ℕ) × (begin ≤ n) × (i : ℕ) × (ks : List ℕ) × (right : Bool) × At (plain x.seen) i (ks, Passed x.number n right)
    of zero e = absurd (omega (arith, low, e))
    of (suc n) e = let w = kept.passed.last n e in (n, omega (arith, low, e), w.0, w.1, w.2, w.3)

pub may_of_one : (b : Begun) (n n' : Sight Item) (item item' : Item) → n ≡ n' → item ≡ item' → MayAdd (may_add b) (n' ∷ []) item' → MayAdd (may_add b) (n ∷ []) item
may_of_one b n n' item item' e f may = subst (λ z. MayAdd (may_add b) (z ∷ []) item) (sym e) (subst (λ z. MayAdd (may_add b) (n' ∷ []) z) (sym f) may)

pub added_of_one : (n n' : Sight Item) (item item' : Item) (new : History) → n ≡ n' → item ≡ item' → Added (n ∷ []) item new → Added (n' ∷ []) item' new
added_of_one n n' item item' new e f added = subst (λ z. Added (z ∷ []) item' new) e (subst (λ z. Added (n ∷ []) z new) f added)
