-- A clean-up, from its claim to its end.
use Rattle.std.proofs.Common.{inl, inr, ◌≡◌, ℕ, ◌<◌, Bool, true, false, List, [], ◌∷◌, ◌++◌, Option, Some, None, IsSome, IsSomeAnd, IfSome, OnOk, Result, Ok, refl, sym, ap, subst, ◌∙◌, arith, length, slice_get, slice_set, option_map}
use Rattle.std.specs.Prelude.{◌==◌, ◌&&◌}
use Rattle.std.specs.List.{list_all}
use Rattle.std.specs.FinMap.{get}
use Rattle.std.proofs.lemmas.List.{length-set, set-set}
use Rattle.std.proofs.lemmas.Bool.Decides.{Decides-eqb}
use Rattle.std.proofs.lemmas.Option.{none-some, same_Some}
use Rattle.dali_lists.proofs.Lists.{set_same, get_set}
use Rattle.dali_lists.proofs.Options.{if_some_at}
use Rattle.dali_geometry.specs.Sizes.{Sizes}
use Rattle.dali_record.specs.declared.operations.Block.{Block}
use Rattle.dali_record.specs.declared.operations.Pending.{Pending}
use Rattle.dali_record.specs.declared.records.Record.{Record}
use Rattle.dali_record.specs.declared.records.Record.TheVariants.{Back, Ended}
use Rattle.dali_record.specs.Operations.{undo_op}
use Rattle.dali_record.specs.Log.{last_of, drop_last}
use Rattle.dali_record.specs.Spelling.{Is64}
use Rattle.dali_record.proofs.EpochRules.{kind_in}
use Rattle.dali_region.specs.declared.Hold.{Hold}
use Rattle.dali_region.specs.Answers.{latch_answer}
use Rattle.dali_region.specs.State.{RegionState, touched, taken_back}
use Rattle.dali_att.specs.declared.state.State.{State}
use Rattle.dali_att.specs.declared.state.State.TheVariants.{Live, Dead, Cleaning, Committed}
use Rattle.dali_att.specs.Table.{undos_at, with_row, with_state, without_last}
use Rattle.dali_runs.specs.State.{TxnRow, SystemState, VaultState, row_of, state_of, state_in, hold_in, lock_of}
use Rattle.dali_runs.specs.Run.{covers}
use Rattle.dali_runs.specs.Steps.{in_state, back_logged}
use Rattle.dali_runs.specs.Keeps.{with_region, with_touched, may_log_in, moves_to, MayRecover, MayGiveBack, IsFree}
use Rattle.dali_runs.specs.Regions.{RegionStep, IsOpen, is_alive}
use Rattle.dali_runs.specs.Passes.{Audits}
use Rattle.dali_runs.specs.Wholes.{AreOfKind, is_of_kind, latched_in}
use Rattle.dali_runs.specs.Courses.{Claims as ClaimsTxn, Recovers, GivesBack as GivesTxnBack, TakesBack, Ends as EndsTxn, Moment, IsStepAt, IsStep, IsCourse}
use Rattle.dali_runs.proofs.Deaths.{region_with}
use Rattle.dali_runs.proofs.Tables.{but_last}
use Rattle.dali_runs.proofs.Touching.{join}
use Rattle.dali_runs.proofs.WholeSteps.{state_kinds, less_kinds}
use Rattle.dali_system.specs.declared.take_back.TakeBack.{TakeBack}
use Rattle.dali_system.specs.declared.want.Want.TheVariants.{Region}
use Rattle.dali_system.specs.TakenBack.{next_undo, want_of, IsMadeOf, IsUndoBlock}
use Rattle.dali_system.specs.Served.{Served}
use Rattle.dali_runs.proofs.FactsLemmas.Ends.{empty_end_is_step}
use Rattle.dali_calls.specs.Operating.{Goes, Undone, IsTakenBack}
use Rattle.dali_calls.specs.TakingBack.{is_claimed}
use Rattle.dali_calls.proofs.TakingBack.{taking_back_is_step, claimed_by, latched_of}
use Rattle.dali_calls.proofs.Following.{last_all}
use Rattle.dali_calls.proofs.Operating.{steps_on, held_of}
use Rattle.dali_calls.proofs.Rows.{undos_in, row_here, row_apart}
use Rattle.dali_calls.proofs.Undoing.{next_last, drop_one, wanted_undo}
use Rattle.dali_clean.specs.Undone.{IsReclaimed, Released}
use Rattle.dali_clean.specs.Cleaned.{core, moment, AreDead, AreQuiet, MayClean, WholeMayClean, InRun, LeadsBy, LeadsOn, IsCleaning, IsLeftAt, IsRecovered, Claims, IsUndone, Ends, GivesBack}
use Rattle.dali_clean.specs.Steps.{IsClaim}
use Rattle.dali_clean.proofs.Steps.{join_back, region_back, leads_further, stays, Cleaned, cleaned_by, end_is_apart, gift_is_apart}
use Rattle.dali_clean.proofs.Courses.{locked_keys, one, in_run_on, on_region, runs_of, work_of}

-- ---- options
pub if_some_by : {A : Type 0} (o : Option A) (P : A → Type 0) → ((x : A) → o ≡ Some x → P x) → IfSome o P
if_some_by None P f = tt
if_some_by (Some x) P f = f x refl

pub if_some_then : {A : Type 0} (o : Option A) (P Q : A → Type 0) → IfSome o P → ((x : A) → P x → Q x) → IfSome o Q
if_some_then None P Q h f = tt
if_some_then (Some x) P Q h f = f x h

pub on_ok_of : {T E : Type 0} (r : Result T E) (P : Type 0) (x : T) → r ≡ Ok x → OnOk r P → P
on_ok_of r P x e h = subst (λ z. OnOk z P) e h

pub unheld_answer : (g : RegionState) → g.hold ≡ None → latch_answer false g ≡ Ok tt
unheld_answer g e = rw e refl

-- ---- rows
undos_mapped : (st : State) (row : Option TxnRow) → undos_in (option_map (with_state st) row) ≡ undos_in row
undos_mapped st None = refl
undos_mapped st (Some row) = refl

pub state_mapped : (st : State) (row : Option TxnRow) (old : State) → state_in row ≡ Some old → state_in (option_map (with_state st) row) ≡ Some st
state_mapped st None old e = absurd (none-some old e)
state_mapped st (Some row) old e = refl

-- the state of u changes, whatever row t has
module _ (y : SystemState) (u t : ℕ) (st : State) where
  by_row : (P : Option TxnRow → Type 0) → (u ≡ t → P (option_map (with_state st) (get y.table t))) → ((u == t) ≡ false → P (get y.table t)) → P (row_of (in_state y u st) t)
  by_row P own other = by_test (u == t) refl
    where
      by_test : (b : Bool) → (u == t) ≡ b → P (row_of (in_state y u st) t)
      by_test true e =
          let same : u ≡ t = (Decides-eqb u t).0 e in
          subst (λ (n : ℕ). P (get (with_row y.table n (with_state st)) t)) (sym same) (subst P (sym (row_here y.table t (with_state st))) (own same))
      by_test false e = subst P (sym (row_apart y.table u t (with_state st) e)) (other e)

  undos_put : undos_at (in_state y u st).table t ≡ undos_at y.table t
  undos_put = by_row (λ row. undos_in row ≡ undos_in (get y.table t)) (λ same. undos_mapped st (get y.table t)) (λ apart. refl)

  kinds_put : AreOfKind y.sizes (row_of y t) → AreOfKind y.sizes (row_of (in_state y u st) t)
  kinds_put h = by_row (AreOfKind y.sizes) (λ same. state_kinds y.sizes st (get y.table t) h) (λ apart. h)

state_put : (y : SystemState) (t : ℕ) (st old : State) → state_of y t ≡ Some old → state_of (in_state y t st) t ≡ Some st
state_put y t st old e = ap state_in (row_here y.table t (with_state st)) ∙ state_mapped st (get y.table t) old e

state_apart : (y : SystemState) (u t : ℕ) (st : State) → (u == t) ≡ false → state_of (in_state y u st) t ≡ state_of y t
state_apart y u t st apart = ap state_in (row_apart y.table u t (with_state st) apart)

claimed_lives : (o : Option State) → IsSomeAnd o is_claimed → is_alive o ≡ true
claimed_lives o h = ap is_alive (latched_of o h).1

-- ---- regions
pub quiet_set : (t : ℕ) (rs : List RegionState) (r : ℕ) (g h : RegionState) → AreQuiet t rs → slice_get rs r ≡ Some g → h.hold ≡ None → AreQuiet t (slice_set rs r h)
quiet_set t rs r g h quiet at none q k there = if_some_by k.hold _ (λ o held.
    let was = held_of rs r g h q o at none (ap hold_in there ∙ held) in
    let own = region_with (slice_get rs q) o was.1 in
    if_some_at own.0.hold _ o own.2 (quiet q own.0 own.1))

pub dead_of_quiet : (t : ℕ) (rs : List RegionState) → AreQuiet t rs → AreDead rs
dead_of_quiet t rs quiet r g at = if_some_then g.hold _ _ (quiet r g at) (λ h both. both.0)

-- the hold of a region, by the region
pub holds_at : (rs : List RegionState) (r : ℕ) (g : RegionState) (h : Hold) → slice_get rs r ≡ Some g → g.hold ≡ Some h → hold_in (slice_get rs r) ≡ Some h
holds_at rs r g h at held = ap hold_in at ∙ held

-- ---- the claim
pub left_there : (rs : List RegionState) (y : SystemState) (t : ℕ) (latched : Option ℕ) → MayClean rs y t → state_of y t ≡ Some (Dead latched) → IfSome latched (λ r. IsLeftAt rs r)
left_there rs y t None may dead = tt
left_there rs y t (Some r) may dead =
    let named = may.named r dead in
    let own = region_with (slice_get rs r) named.0 named.1 in
    (own.0, own.1, subst (λ o. IsSome o) (sym own.2) refl)

pub whole_may_clean : WholeMayClean
whole_may_clean rs y v t whole dead = record {
  regions = whole.regions;
  kind = whole.undos t;
  dead = dead;
  own = λ r h held own.
      let by = region_with (slice_get rs r) h held in
      ap (λ (n : ℕ). latched_in (state_of y n)) (sym own) ∙ whole.dead r h held (if_some_at by.0.hold _ h by.2 (dead r by.0 by.1));
  named = λ r is. whole.named t r is;
}

claim_course : (rs : List RegionState) (y : SystemState) (t : ℕ) (latched : Option ℕ) → state_of y t ≡ Some (Dead latched) → (L : List Record) (v : VaultState) (a : Audits) → IsCourse (moment rs y L v a) (ClaimsTxn t ∷ []) (moment rs (in_state y t (Cleaning latched)) L v a)
claim_course rs y t latched dead L v a = one (moment rs y L v a) (moment rs (in_state y t (Cleaning latched)) L v a) (ClaimsTxn t) ((latched, dead, (refl, refl)), refl)

recover_course : (rs : List RegionState) (y : SystemState) (r : ℕ) (g : RegionState) → slice_get rs r ≡ Some g → (L : List Record) (v : VaultState) (a : Audits) → MayRecover (core rs y v) g → IsCourse (moment rs y L v a) (Recovers r ∷ []) (moment (slice_set rs r (taken_back g)) y L v a)
recover_course rs y r g at L v a may = one (moment rs y L v a) (moment (slice_set rs r (taken_back g)) y L v a) (Recovers r) ((g, at, may, (refl, refl)), refl)

pub claimed : (rs rs' : List RegionState) (y z : SystemState) (t : ℕ) (latched : Option ℕ) → MayClean rs y t → state_of y t ≡ Some (Dead latched)
    → z ≡ in_state y t (Cleaning latched) → IsRecovered rs latched rs' → Claims rs y t rs' z
claimed rs rs' y z t latched cleans dead is back = subst (λ (x : SystemState). Claims rs y t rs' x) (sym is) (by_latched latched dead back)
  where
    now : Option ℕ → SystemState
    now o = in_state y t (Cleaning o)

    -- a hold of t would be where its row says
    own_hold : (o : Option ℕ) → state_of y t ≡ Some (Dead o) → (r : ℕ) (h : Hold) → hold_in (slice_get rs r) ≡ Some h → (h.txn == t) ≡ true → o ≡ Some r
    own_hold o d r h held e = let same : h.txn ≡ t = (Decides-eqb h.txn t).0 e in
        sym (ap latched_in d) ∙ cleans.own r h held same

    each : (o : Option ℕ) → state_of y t ≡ Some (Dead o) → (r : ℕ) (h : Hold) → hold_in (slice_get rs r) ≡ Some h → (o ≡ Some r → ⊥) → (h.dead ≡ true) × ((h.txn == t) ≡ false)
    each o d r h held none =
        let own = region_with (slice_get rs r) h held in
        let gone = if_some_at own.0.hold _ h own.2 (cleans.dead r own.0 own.1) in
        (gone, by_test (h.txn == t) refl gone)
      where
        by_test : (b : Bool) → (h.txn == t) ≡ b → h.dead ≡ true → (h.txn == t) ≡ false
        by_test true e gone = absurd (none (own_hold o d r h held e))
        by_test false e gone = e

    is_cleaning : (o : Option ℕ) (gs : List RegionState) → state_of y t ≡ Some (Dead o) → length gs ≡ length rs → AreQuiet t gs → IsCleaning gs (now o) t
    is_cleaning o gs d size still = record {
      regions = size ∙ cleans.regions;
      kind = kinds_put y t t (Cleaning o) cleans.kind;
      quiet = still;
      claimed = claimed_by (state_of (now o) t) o (state_put y t (Cleaning o) (Dead o) d);
    }

    by_latched : (o : Option ℕ) → state_of y t ≡ Some (Dead o) → IsRecovered rs o rs' → Claims rs y t rs' (now o)
    by_latched None d same = subst (λ (gs : List RegionState). Claims rs y t gs (now None)) (sym same) (record {
      goes = λ bases before L v a is. record { log = L; steps = ClaimsTxn t ∷ []; are = (None, d, refl); course = claim_course rs y t None d L v a };
      is = is_cleaning None rs d refl (λ r g at. if_some_by g.hold _ (λ h held. each None d r h (holds_at rs r g h at held) (none-some r)));
      stop = refl;
    })
    by_latched (Some r) d same = subst (λ (gs : List RegionState). Claims rs y t gs (now (Some r))) (sym same.2) (record {
      goes = λ bases before L v a is. record {
        log = L;
        steps = ClaimsTxn t ∷ [] ++ Recovers r ∷ [];
        are = (Some r, d, refl);
        course = join (moment rs y L v a) (moment rs (now (Some r)) L v a) (moment (slice_set rs r (taken_back same.0)) (now (Some r)) L v a) (ClaimsTxn t ∷ []) (Recovers r ∷ []) (claim_course rs y t (Some r) d L v a)
            (recover_course rs (now (Some r)) r same.0 same.1 L v a (may v));
      };
      is = is_cleaning (Some r) (slice_set rs r (taken_back same.0)) d (length-set rs r (taken_back same.0)) (λ q k at. if_some_by k.hold _ (λ h held.
          let was = held_of rs r same.0 (taken_back same.0) q h same.1 refl (holds_at (slice_set rs r (taken_back same.0)) q k h at held) in
          each (Some r) d q h was.1 (λ e. was.0 (same_Some r q e))));
      stop = refl;
    })
      where
        named : (h : Hold) × (hold_in (slice_get rs r) ≡ Some h) × (h.txn ≡ t) × (h.dead ≡ true)
        named = cleans.named r d

        there : (g : RegionState) × (slice_get rs r ≡ Some g) × (g.hold ≡ Some named.0)
        there = region_with (slice_get rs r) named.0 named.1

        may : (v : VaultState) → MayRecover (core rs (now (Some r)) v) same.0
        may v = record {
          hold = named.0;
          at = ap (λ (g : RegionState). g.hold) (same_Some same.0 there.0 (sym same.1 ∙ there.1)) ∙ there.2;
          dead = named.3;
          latched = Some r;
          claimed = ap (λ (n : ℕ). state_of (now (Some r)) n) named.2 ∙ state_put y t (Cleaning (Some r)) (Dead (Some r)) d;
        }

-- ---- another client's operation in the way
pub record Freed (rs : List RegionState) (y : SystemState) (t r : ℕ) (h : RegionState) (z : SystemState) : Type 0 where
  pub goes : LeadsOn rs y t (slice_set rs r h) z
  pub is : IsCleaning (slice_set rs r h) z t
  pub stop : z.stop ≡ y.stop
  pub undos : undos_at z.table t ≡ undos_at y.table t

pub freed : (rs : List RegionState) (y z : SystemState) (t r : ℕ) (g h : RegionState) → IsCleaning rs y t → slice_get rs r ≡ Some g → Released g y h z → Freed rs y t r h z
freed rs y z t r g h is at (inl none) =
    subst (λ (x : SystemState). Freed rs y t r h x) (sym none.2) (
    let same : slice_set rs r h ≡ rs = set_same rs r h (at ∙ ap Some (sym none.1)) in
    record {
      goes = subst (λ (gs : List RegionState). LeadsOn rs y t gs y) (sym same) (stays rs y t);
      is = subst (λ (gs : List RegionState). IsCleaning gs y t) (sym same) is;
      stop = refl;
      undos = refl;
    })
freed rs y z t r g h is at (inr some) = subst (λ (k : RegionState). Freed rs y t r k z) (sym some.2) (by_claim some.3)
  where
    k : Hold
    k = some.0

    u : ℕ
    u = k.txn

    mine : (k.dead ≡ true) × ((k.txn == t) ≡ false)
    mine = if_some_at g.hold _ k some.1 (is.quiet r g at)

    gs : List RegionState
    gs = slice_set rs r (taken_back g)

    held : hold_in (slice_get rs r) ≡ Some k
    held = holds_at rs r g k at some.1

    still_quiet : AreQuiet t gs
    still_quiet = quiet_set t rs r g (taken_back g) is.quiet at refl

    by_claim : IsReclaimed y u z → Freed rs y t r (taken_back g) z
    by_claim (inl was) = subst (λ (x : SystemState). Freed rs y t r (taken_back g) x) (sym was.2) (record {
      goes = goes;
      is = record {
        regions = length-set rs r (taken_back g) ∙ is.regions;
        kind = kinds_put y1 u t (Dead None) (kinds_put y u t (Cleaning o) is.kind);
        quiet = still_quiet;
        claimed = subst (λ x. IsSomeAnd x is_claimed) (sym (state_apart y1 u t (Dead None) mine.1 ∙ state_apart y u t (Cleaning o) mine.1)) is.claimed;
      };
      stop = refl;
      undos = undos_put y1 u t (Dead None) ∙ undos_put y u t (Cleaning o);
    })
      where
        o : Option ℕ
        o = was.0

        y1 : SystemState
        y1 = in_state y u (Cleaning o)

        y2 : SystemState
        y2 = in_state y1 u (Dead None)

        now : state_of y1 u ≡ Some (Cleaning o)
        now = state_put y u (Cleaning o) (Dead o) was.1

        goes : LeadsOn rs y t gs y2
        goes bases before L v a run = record {
          log = L;
          steps = (ClaimsTxn u ∷ [] ++ Recovers r ∷ []) ++ GivesTxnBack u None ∷ [];
          are = (mine.1, refl, refl, tt);
          course = join m0 m2 (moment gs y2 L v a) (ClaimsTxn u ∷ [] ++ Recovers r ∷ []) (GivesTxnBack u None ∷ []) course (one m2 (moment gs y2 L v a) (GivesTxnBack u None) ((may, (refl, refl)), refl));
        }
          where
            m0 : Moment
            m0 = moment rs y L v a

            m2 : Moment
            m2 = moment gs y1 L v a

            course : IsCourse m0 (ClaimsTxn u ∷ [] ++ Recovers r ∷ []) m2
            course = join m0 (moment rs y1 L v a) m2 (ClaimsTxn u ∷ []) (Recovers r ∷ []) (claim_course rs y u o was.1 L v a) (recover_course rs y1 r g at L v a (record { hold = k; at = some.1; dead = mine.0; latched = o; claimed = now }))

            there : InRun bases before m2
            there = in_run_on bases before m0 m2 (ClaimsTxn u ∷ [] ++ Recovers r ∷ []) run course

            names : o ≡ Some r
            names = sym (ap latched_in was.1) ∙ run.whole.dead r k held mine.0

            may : MayGiveBack m2.core u None
            may = record {
              was = o;
              claimed = now;
              left = record {
                held = λ q e. absurd (none-some q e);
                only = λ q h there_is own gone. absurd ((held_of rs r g (taken_back g) q h at refl there_is).0
                    (same_Some r q (sym names ∙ (sym (ap latched_in now) ∙ (ap (λ (n : ℕ). latched_in (state_of y1 n)) (sym own) ∙ there.whole.dead q h there_is gone)))));
              };
              idle = record {
                held = λ q e. absurd (none-some q e);
                only = λ q h there_is own lives. absurd (clash lives (
                    let was_there = (held_of rs r g (taken_back g) q h at refl there_is).1 in
                    let by = region_with (slice_get rs q) h was_there in
                    (if_some_at by.0.hold _ h by.2 (is.quiet q by.0 by.1)).0));
              };
            }
              where
                clash : {b : Bool} → b ≡ false → b ≡ true → ⊥
                clash e f = cc
    by_claim (inr not) = subst (λ (x : SystemState). Freed rs y t r (taken_back g) x) (sym not.1) (record {
      goes = λ bases before L v a run. record { log = L; steps = Recovers r ∷ []; are = tt; course = recover_course rs y r g at L v a (may (state_of y u) refl (run.whole.dead r k held mine.0)) };
      is = record { regions = length-set rs r (taken_back g) ∙ is.regions; kind = is.kind; quiet = still_quiet; claimed = is.claimed };
      stop = refl;
      undos = refl;
    })
      where
        may : {v : VaultState} (st : Option State) → state_of y u ≡ st → latched_in st ≡ Some r → MayRecover (core rs y v) g
        may None e l = absurd (none-some r l)
        may (Some Live) e l = absurd (none-some r l)
        may (Some Committed) e l = absurd (none-some r l)
        may (Some (Dead latched)) e l = absurd (not.0 latched e)
        may (Some (Cleaning latched)) e l = record { hold = k; at = some.1; dead = mine.0; latched = latched; claimed = e }

-- ---- the last undo
kinds_of : (s : Sizes) (row : Option TxnRow) → AreOfKind s row → list_all (is_of_kind s) (undos_in row) ≡ true
kinds_of s None h = refl
kinds_of s (Some row) h = h

last_kind : (s : Sizes) (us : List Pending) (u : Pending) → list_all (is_of_kind s) us ≡ true → last_of us ≡ Some u → is_of_kind s u ≡ true
last_kind s [] u h e = absurd (none-some u e)
last_kind s (v ∷ []) u h e = let same : v ≡ u = cc in ap (is_of_kind s) (sym same) ∙ left_true (is_of_kind s v) _ h
  where
    left_true : (a b : Bool) → (a && b) ≡ true → a ≡ true
    left_true true b e = refl
    left_true false b e = absurd cc
last_kind s (v ∷ w ∷ us) u h e = last_kind s (w ∷ us) u (right_true (is_of_kind s v) _ h) e
  where
    right_true : (a b : Bool) → (a && b) ≡ true → b ≡ true
    right_true true b e = e
    right_true false b e = absurd cc

popped_in : (s : Sizes) (row : Option TxnRow) → AreOfKind s row → AreOfKind s (option_map without_last row)
popped_in s None h = h
popped_in s (Some row) h = subst (λ us. list_all (is_of_kind s) us ≡ true) (sym (but_last row.undos)) (less_kinds s row.undos h)

popped_undos : (row : Option TxnRow) → undos_in (option_map without_last row) ≡ drop_last (undos_in row)
popped_undos None = refl
popped_undos (Some row) = but_last row.undos

popped_state : (row : Option TxnRow) → state_in (option_map without_last row) ≡ state_in row
popped_state None = refl
popped_state (Some row) = refl

undos_popped : (y : SystemState) (t : ℕ) (b : Block) → undos_at (back_logged y t b).table t ≡ drop_last (undos_at y.table t)
undos_popped y t b = ap undos_in (row_here y.table t without_last) ∙ popped_undos (get y.table t)

pub region_in : (rs : List RegionState) (y : SystemState) (t r : ℕ) (next : Option Pending) → IsCleaning rs y t → next ≡ next_undo (undos_at y.table t) 0 → Region r ≡ want_of next → r < length rs
region_in rs y t r next is e want =
    let u = wanted_undo next r want in
    let kind = last_kind y.sizes (undos_at y.table t) u.0 (kinds_of y.sizes (row_of y t) is.kind) (next_last (undos_at y.table t) u.0 (sym e ∙ u.1)) in
    let less = kind_in y.sizes u.0.region (undo_op u.0.undo) kind in
    omega (arith, less, u.2, is.regions)

pub record Back1 (rs : List RegionState) (y : SystemState) (t r : ℕ) (h : RegionState) (z : SystemState) : Type 0 where
  pub goes : LeadsOn rs y t (slice_set rs r h) z
  pub is : IsCleaning (slice_set rs r h) z t
  pub stop : z.stop ≡ y.stop

one_back : (rs : List RegionState) (y : SystemState) (t : ℕ) (u : Pending) (b : Block) (g opened : RegionState) (xs : List RegionStep) → Is64 t → IsCleaning rs y t → last_of (undos_at y.table t) ≡ Some u → IsMadeOf u b
    → y.stop ≡ None → slice_get rs u.region ≡ Some g → Goes t g xs opened → IsOpen opened t b → Back1 rs y t u.region (touched opened) (back_logged y t b)
one_back rs y t u b g opened xs fits is last made runs at goes open_now = record {
  goes = λ bases before L v a run.
      let work = work_of y.sizes L t (row_of y t) (Cleaning claim.0) ((runs_of bases before (moment rs y L v a) run).table t) claim.1 refl in
      let c = with_region (core rs y v) u.region opened in
      let here = get_set rs u.region g opened at in
      let by = taking_back_is_step L c t work.working u b opened work.at_work (ap last_of (sym work.undos) ∙ last) (record {
        txn = fits;
        runs = runs;
        by = ap (λ o. may_log_in o (Back t b)) claim.1;
        holds = last_all (λ (p : Pending). covers (lock_of y t p.key) true ≡ true) (undos_at y.table t) u (locked_keys bases before (moment rs y L v a) t run) last;
        kind = last_kind y.sizes (undos_at y.table t) u (kinds_of y.sizes (row_of y t) is.kind) last;
        made = made;
        at = here;
        written = open_now;
      }) in
      record {
        log = L ++ Back t b ∷ [];
        steps = steps_on u.region xs ++ TakesBack t b ∷ [];
        are = join_back t (steps_on u.region xs) (TakesBack t b ∷ []) (region_back t u.region g opened xs goes) (refl, tt);
        course = join (moment rs y L v a) (moment (slice_set rs u.region opened) y L v a) (moment (slice_set rs u.region (touched opened)) (back_logged y t b) (L ++ Back t b ∷ []) v a) (steps_on u.region xs) (TakesBack t b ∷ [])
            (on_region rs y L v a t u.region g opened xs (claimed_lives (state_of y t) is.claimed) at goes)
            (one (moment (slice_set rs u.region opened) y L v a) (moment (slice_set rs u.region (touched opened)) (back_logged y t b) (L ++ Back t b ∷ []) v a) (TakesBack t b) (
              subst (λ (gs : List RegionState). IsStep L c (TakesBack t b) (L ++ Back t b ∷ []) (core gs (back_logged y t b) v)) (set-set rs u.region opened (touched opened))
                  (subst (λ (n : ℕ). IsStep L c (TakesBack t b) (L ++ Back t b ∷ []) (with_touched c (back_logged y t b) n opened)) same by.step),
              refl,
            ));
      };
  is = record {
    regions = length-set rs u.region (touched opened) ∙ is.regions;
    kind = subst (AreOfKind y.sizes) (sym (row_here y.table t without_last)) (popped_in y.sizes (row_of y t) is.kind);
    quiet = quiet_set t rs u.region g (touched opened) is.quiet at refl;
    claimed = subst (λ x. IsSomeAnd x is_claimed) (sym (ap state_in (row_here y.table t without_last) ∙ popped_state (row_of y t))) is.claimed;
  };
  stop = refl;
}
  where
    claim : (latched : Option ℕ) × (state_of y t ≡ Some (Cleaning latched))
    claim = latched_of (state_of y t) is.claimed

    same : b.region ≡ u.region
    same = ap (λ (x : Block). x.region) made.made_on

pub undone_so : (rs : List RegionState) (y z : SystemState) (t r : ℕ) (p q : TakeBack) (g h : RegionState) → Is64 t → IsCleaning rs y t → p.txn ≡ t → p.next ≡ next_undo (undos_at y.table t) 0 → Region r ≡ want_of p.next
    → slice_get rs r ≡ Some g → Undone p g y q h z → Back1 rs y t r h z
undone_so rs y z t r p q g h fits is txn next want at o =
    let u = wanted_undo p.next r want in
    subst (λ (n : ℕ). Back1 rs y t n h z) u.2
    (subst (λ (k : RegionState). Back1 rs y t u.0.region k z) (sym o.region)
    (subst (λ (x : SystemState). Back1 rs y t u.0.region (touched o.opened) x) (sym (o.system ∙ ap (λ (n : ℕ). back_logged y n o.block) txn))
    (one_back rs y t u.0 o.block g o.opened o.steps fits is (next_last (undos_at y.table t) u.0 (sym next ∙ u.1)) (subst (λ (n : Option Pending). IsUndoBlock n o.block) u.1 o.of) o.runs
    (ap (slice_get rs) u.2 ∙ at) (subst (λ (n : ℕ). Goes n g o.steps o.opened) txn o.goes) (subst (λ (n : ℕ). IsOpen o.opened n o.block) txn o.is_open))))

pub undone_fewer : (y z : SystemState) (t r : ℕ) (p q : TakeBack) (g h : RegionState) → p.txn ≡ t → p.next ≡ next_undo (undos_at y.table t) 0 → Region r ≡ want_of p.next → Undone p g y q h z
    → length (undos_at z.table t) < length (undos_at y.table t)
undone_fewer y z t r p q g h txn next want o =
    let u = wanted_undo p.next r want in
    let is = ap (λ (x : SystemState). length (undos_at x.table t)) (o.system ∙ ap (λ (n : ℕ). back_logged y n o.block) txn) in
    let less = drop_one (undos_at y.table t) u.0 (next_last (undos_at y.table t) u.0 (sym next ∙ u.1)) in
    omega (arith, is, ap length (undos_popped y t o.block), less)

pub undone_next : (z : SystemState) (t : ℕ) (p q : TakeBack) (g h : RegionState) (y : SystemState) → p.txn ≡ t → p.down_to ≡ 0 → Undone p g y q h z → q.next ≡ next_undo (undos_at z.table t) 0
undone_next z t p q g h y txn down o = ap (λ (x : TakeBack). x.next) o.next ∙ (ap (λ (n : ℕ). next_undo (undos_at z.table n) p.down_to) txn ∙ ap (next_undo (undos_at z.table t)) down)

-- it was refused, and its words are taken back
pub back_refused : (rs : List RegionState) (y : SystemState) (t r : ℕ) (g h : RegionState) → IsCleaning rs y t → slice_get rs r ≡ Some g → IsTakenBack t g h → Back1 rs y t r h y
back_refused rs y t r g h is at back = record {
  goes = λ bases before L v a run. record { log = L; steps = steps_on r back.0; are = region_back t r g h back.0 back.1; course = on_region rs y L v a t r g h back.0 (claimed_lives (state_of y t) is.claimed) at back.1 };
  is = record { regions = length-set rs r h ∙ is.regions; kind = is.kind; quiet = quiet_set t rs r g h is.quiet at back.2; claimed = is.claimed };
  stop = refl;
}

-- ---- the end
free_of_quiet : (rs : List RegionState) (y : SystemState) (v : VaultState) (t : ℕ) → AreQuiet t rs → IsFree (core rs y v) t
free_of_quiet rs y v t quiet r h held = let own = region_with (slice_get rs r) h held in (if_some_at own.0.hold _ h own.2 (quiet r own.0 own.1)).1

pub ends_so : (rs rs1 rs' : List RegionState) (y y1 z : SystemState) (t : ℕ) → LeadsBy (IsClaim y t) rs y rs1 y1 → IsUndone rs1 y1 t rs' z → Ends rs y t rs' z
ends_so rs rs1 rs' y y1 z t claim o bases before L v a run = record {
  log = all.log;
  steps = all.steps;
  by = all.by;
  beside = all.beside;
  course = all.course;
  run = all.there.run;
  whole = all.there.whole;
}
  where
    claimed_now : (latched : Option ℕ) × (state_of o.mid t ≡ Some (Cleaning latched))
    claimed_now = latched_of (state_of o.mid t) o.is.claimed

    step : (K : List Record) → InRun bases before (moment rs' o.mid K v a) → IsStepAt (moment rs' o.mid K v a) (EndsTxn t) (moment rs' z (K ++ Ended t ∷ []) v a)
    step K there =
        let work = work_of o.mid.sizes K t (row_of o.mid t) (Cleaning claimed_now.0) ((runs_of bases before (moment rs' o.mid K v a) there).table t) claimed_now.1 refl in
        subst (λ (x : SystemState). IsStepAt (moment rs' o.mid K v a) (EndsTxn t) (moment rs' x (K ++ Ended t ∷ []) v a)) (sym o.system)
        (empty_end_is_step K (core rs' o.mid v) t work.working work.at_work (sym work.undos ∙ o.none) o.runs (free_of_quiet rs' o.mid v t o.is.quiet) (ap (λ s. may_log_in s (Ended t)) claimed_now.1), refl)

    all : Cleaned (λ K. K ++ Ended t ∷ []) bases before (moment rs y L v a) t (EndsTxn t) rs' z
    all = cleaned_by (λ K. K ++ Ended t ∷ []) bases before L v a rs rs1 rs' y y1 o.mid z t (EndsTxn t) run claim o.goes (end_is_apart t) step

-- ---- the claim is given back
pub given_back : (rs rs1 rs' : List RegionState) (y y1 y2 z : SystemState) (t : ℕ) → LeadsBy (IsClaim y t) rs y rs1 y1 → LeadsOn rs1 y1 t rs' y2 → IsCleaning rs' y2 t → z ≡ in_state y2 t (Dead None) → GivesBack rs y t rs' z × (state_of z t ≡ Some (Dead None))
given_back rs rs1 rs' y y1 y2 z t first rest is back = (by, ap (λ (x : SystemState). state_of x t) back ∙ state_put y2 t (Dead None) (Cleaning claim.0) claim.1)
  where
    claim : (latched : Option ℕ) × (state_of y2 t ≡ Some (Cleaning latched))
    claim = latched_of (state_of y2 t) is.claimed

    apart : {n : ℕ} → (n == t) ≡ false → n ≡ t → ⊥
    apart {n = n} e f = let is : (n == t) ≡ true = (Decides-eqb n t).1 f in cc

    may : (v : VaultState) → MayGiveBack (core rs' y2 v) t None
    may v = record {
      was = claim.0;
      claimed = claim.1;
      left = record { held = λ q e. absurd (none-some q e); only = λ q h held own dead. absurd (apart (free_of_quiet rs' y2 v t is.quiet q h held) own) };
      idle = record { held = λ q e. absurd (none-some q e); only = λ q h held own dead. absurd (apart (free_of_quiet rs' y2 v t is.quiet q h held) own) };
    }

    by : GivesBack rs y t rs' z
    by bases before L v a run =
        let all : Cleaned (λ K. K) bases before (moment rs y L v a) t (GivesTxnBack t None) rs' z =
        cleaned_by (λ K. K) bases before L v a rs rs1 rs' y y1 y2 z t (GivesTxnBack t None) run first rest (gift_is_apart t)
        (λ K there. ((may v, (refl, ap (λ (x : SystemState). core rs' x v) back)), refl)) in
        record { led = record { log = all.log; steps = all.steps; are = all.by; course = all.course }; beside = all.beside; again = all.there }

-- ---- a turn of the loop
pub there_still : (rs : List RegionState) (r : ℕ) (h : RegionState) → r < length rs → r < length (slice_set rs r h)
there_still rs r h less = subst (λ (n : ℕ). r < n) (sym (length-set rs r h)) less

pub record Turned (rs0 : List RegionState) (y0 : SystemState) (t : ℕ) (rs : List RegionState) (z : SystemState) : Type 0 where
  pub goes : LeadsOn rs0 y0 t rs z
  pub is : IsCleaning rs z t
  pub stop : z.stop ≡ y0.stop

module _ (rs0 rs : List RegionState) (y0 y z1 : SystemState) (t r : ℕ) (p : TakeBack) (g1 h1 g2 h2 : RegionState) (goes : LeadsOn rs0 y0 t rs y) (is : IsCleaning rs y t) (stop : y.stop ≡ y0.stop) (txn : p.txn ≡ t)
    (next : p.next ≡ next_undo (undos_at y.table t) 0) (want : Region r ≡ want_of p.next) (at : slice_get rs r ≡ Some g1) (freeing : Released g1 y h1 z1) (at2 : slice_get (slice_set rs r h1) r ≡ Some g2) where
  first : Freed rs y t r h1 z1
  first = freed rs y z1 t r g1 h1 is at freeing

  next_still : p.next ≡ next_undo (undos_at z1.table t) 0
  next_still = next ∙ ap (λ us. next_undo us 0) (sym first.undos)

  further : (rs' : List RegionState) (z : SystemState) → LeadsOn (slice_set rs r h1) z1 t rs' z → LeadsOn rs0 y0 t rs' z
  further rs' z more = leads_further rs0 rs rs' y0 y z t goes (leads_further rs (slice_set rs r h1) rs' y z1 z t first.goes more)

  pub turned : (z2 : SystemState) (q : TakeBack) → Is64 t → Undone p g2 z1 q h2 z2 → Turned rs0 y0 t (slice_set (slice_set rs r h1) r h2) z2
  turned z2 q fits o =
      let one = undone_so (slice_set rs r h1) z1 z2 t r p q g2 h2 fits first.is txn next_still want at2 o in
      record { goes = further (slice_set (slice_set rs r h1) r h2) z2 one.goes; is = one.is; stop = one.stop ∙ (first.stop ∙ stop) }

  pub turn_fewer : (z2 : SystemState) (q : TakeBack) → Undone p g2 z1 q h2 z2 → length (undos_at z2.table t) < length (undos_at y.table t)
  turn_fewer z2 q o = let less = undone_fewer z1 z2 t r p q g2 h2 txn next_still want o in omega (arith, less, ap length first.undos)

  pub refused_turn : IsTakenBack p.txn g2 h2 → Turned rs0 y0 t (slice_set (slice_set rs r h1) r h2) z1
  refused_turn back =
      let one = back_refused (slice_set rs r h1) z1 t r g2 h2 first.is at2 (subst (λ (n : ℕ). IsTakenBack n g2 h2) txn back) in
      record { goes = further (slice_set (slice_set rs r h1) r h2) z1 one.goes; is = one.is; stop = one.stop ∙ (first.stop ∙ stop) }

-- ---- for the calls
pub may_die : (y z : SystemState) (t : ℕ) (o : Option ℕ) → state_of y t ≡ Some (Dead o) → z ≡ in_state y t (Cleaning o) → IsSomeAnd (state_of z t) (λ s. moves_to s (Dead None) ≡ true)
may_die y z t o dead is = subst (λ x. IsSomeAnd x (λ s. moves_to s (Dead None) ≡ true)) (sym (ap (λ (x : SystemState). state_of x t) is ∙ state_put y t (Cleaning o) (Dead o) dead)) refl

pub claimed_may_die : (o : Option State) → IsSomeAnd o is_claimed → IsSomeAnd o (λ s. moves_to s (Dead None) ≡ true)
claimed_may_die o h = subst (λ x. IsSomeAnd x (λ s. moves_to s (Dead None) ≡ true)) (sym (latched_of o h).1) refl

pub turned_as : (rs0 : List RegionState) (y0 : SystemState) (t : ℕ) (rs : List RegionState) (s z : Served) → z ≡ s → Turned rs0 y0 t rs s.state → Turned rs0 y0 t rs z.state
turned_as rs0 y0 t rs s z e turn = subst (λ (x : Served). Turned rs0 y0 t rs x.state) (sym e) turn

-- what was freed and then refused, whatever the system is called
pub refused_as :
    (rs0 rs : List RegionState) (y0 y : SystemState) (s z : Served) (t r : ℕ) (p : TakeBack) (g1 h1 g2 h2 : RegionState) → LeadsOn rs0 y0 t rs y → IsCleaning rs y t → y.stop ≡ y0.stop → p.txn ≡ t
    → p.next ≡ next_undo (undos_at y.table t) 0 → Region r ≡ want_of p.next → slice_get rs r ≡ Some g1 → Released g1 y h1 s.state → slice_get (slice_set rs r h1) r ≡ Some g2
    → z ≡ s → IsTakenBack p.txn g2 h2 → Turned rs0 y0 t (slice_set (slice_set rs r h1) r h2) z.state
refused_as rs0 rs y0 y s z t r p g1 h1 g2 h2 goes is stop txn next want at freeing at2 same back =
    turned_as rs0 y0 t (slice_set (slice_set rs r h1) r h2) s z same (refused_turn rs0 rs y0 y s.state t r p g1 h1 g2 h2 goes is stop txn next want at freeing at2 back)
