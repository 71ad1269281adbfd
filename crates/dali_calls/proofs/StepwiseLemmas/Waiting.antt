-- What a step leaves to a transaction that it isn't one of.
use Rattle.std.proofs.Common.{◌≡◌, ℕ, ◌<◌, ◌≤◌, Bool, true, false, not, ◌||◌, List, [], ◌∷◌, ◌++◌, Option, Some, None, IsSomeAnd, refl, sym, ap, subst, ◌∙◌, arith, slice_get, slice_set}
use Rattle.std.specs.Prelude.{◌==◌, if◌then◌else◌}
use Rattle.std.specs.FinMap.{get}
use Rattle.std.specs.List.{list_all}
use Rattle.std.proofs.lemmas.Bool.Decides.{Decides-eqb}
use Rattle.std.proofs.lemmas.List.{length-set}
use Rattle.std.proofs.lemmas.Bool.{and_parts}
use Rattle.dali_lists.proofs.Lists.{get_set, get_set_other}
use Rattle.dali_lists.proofs.Numbers.{eqb_greater}
use Rattle.dali_geometry.specs.Sizes.{Sizes}
use Rattle.dali_geometry.specs.Places.{regions}
use Rattle.dali_record.specs.declared.records.Record.{Record}
use Rattle.dali_record.specs.declared.records.Record.TheVariants.{Begin, Forward, Done, Commit, Ended, Solo, AuditBegin, Back}
use Rattle.dali_record.specs.Legal.{Working, concerns, txn_state}
use Rattle.dali_region.specs.declared.Hold.{Hold}
use Rattle.dali_region.specs.declared.Side.TheVariants.{A, B}
use Rattle.dali_region.specs.State.{RegionState, map_hold, touched, dead, checked}
use Rattle.dali_locks.specs.declared.mode.Mode.{Mode}
use Rattle.dali_att.specs.declared.state.State.{State}
use Rattle.dali_att.specs.declared.state.State.TheVariants.{Dead, Cleaning}
use Rattle.dali_att.specs.Table.{fresh_row, with_state, without_last}
use Rattle.dali_att.proofs.Changes.{get-added}
use Rattle.dali_runs.specs.State.{SystemState, VaultState, CoreState, row_of, state_in, lock_of, hold_in}
use Rattle.dali_runs.specs.Steps.{begun, op_logged, back_logged, solo_logged, done_logged, commit_logged, ended_logged, audit_begun, audit_ended, audit_record, granted, refused, in_state}
use Rattle.dali_runs.specs.Keeps.{IsFree, with_system, with_region, with_touched, died, dead_in}
use Rattle.dali_runs.specs.Regions.{RegionStep, Latch, NoteReads, Update, TakeBack, Poke, Check, Die, Clean, IsAlone, region_after}
use Rattle.dali_runs.specs.Courses.{Step, Begins, Operates, TakesBack, Frees, Answers, Commits, Ends, AuditBegins, AuditEnds, Locks, Refuses, OnRegion, Passes, Dies, Claims, GivesBack, Recovers, Stops, Checkpoints, Takes, Flushes, Faults, ReadFails, Moment}
use Rattle.dali_runs.specs.Facts.Plans.{AtWork}
use Rattle.dali_runs.proofs.FactsLemmas.Ends.{others_leave}
use Rattle.dali_calls.specs.Steps.{call_key, is_get}
use Rattle.dali_calls.specs.Operating.{IsOwn}
use Rattle.dali_calls.specs.Others.{is_apart, is_apart_on}
use Rattle.dali_calls.proofs.Rows.{row_apart}
use Rattle.dali_runs.specs.Run.{covers}
use Rattle.dali_calls.specs.Single.Single.{Look, look_behind, LeadsFrom}
use Rattle.dali_calls.proofs.SingleLemmas.Going.{kept_apart}
use Rattle.dali_calls.proofs.SingleLemmas.Calling.{lock_apart}
use Rattle.dali_calls.proofs.SingleLemmas.Undoing.{ended_others}
use Rattle.dali_calls.proofs.SingleLemmas.Settled.{commit_others}
use Rattle.dali_calls.specs.Stepwise.Beside.{LeavesBe, EachLeavesBe, CourseLeavesBe, OwnStepIsApart, LedLeavesBe, PlanWaits, CallWaits, RestWaits}

-- ---- numbers
other_than : (u t : ℕ) → not (u == t) ≡ true → (u == t) ≡ false
other_than u t e = by_test (u == t) e
  where
    by_test : (b : Bool) → not b ≡ true → b ≡ false
    by_test true e = absurd cc
    by_test false e = refl

-- ---- the regions
-- no hold is one of t
abbrev IsOthers : ℕ → Option Hold → Type 0
IsOthers t o = (h : Hold) → o ≡ Some h → (h.txn == t) ≡ false

none_is : (t : ℕ) (o : Option Hold) → o ≡ None → IsOthers t o
none_is t o none h e = absurd (no (sym none ∙ e))
  where
    no : (let n : Option Hold = None in n ≡ Some h) → ⊥
    no f = cc

some_is : (t : ℕ) (k : Hold) → (k.txn == t) ≡ false → IsOthers t (Some k)
some_is t k apart h e = ap (λ (n : ℕ). n == t) (ap (λ (x : Hold). x.txn) (sym (inside k h e))) ∙ apart
  where
    inside : (a b : Hold) → (let s : Option Hold = Some b in Some a ≡ s) → a ≡ b
    inside a b f = cc

mapped_is : (t : ℕ) (f : Hold → Hold) (o : Option Hold) → ((h : Hold) → (f h).txn ≡ h.txn) → IsOthers t o → IsOthers t (map_hold f o)
mapped_is t f None same others = none_is t None refl
mapped_is t f (Some h) same others = some_is t (f h) (ap (λ (n : ℕ). n == t) (same h) ∙ others h refl)

-- one region has another hold
free_set : (t : ℕ) (rs : List RegionState) (r : ℕ) (g k : RegionState) → slice_get rs r ≡ Some g → IsOthers t k.hold
    → ((q : ℕ) (h : Hold) → hold_in (slice_get rs q) ≡ Some h → (h.txn == t) ≡ false) → (q : ℕ) (h : Hold) → hold_in (slice_get (slice_set rs r k) q) ≡ Some h → (h.txn == t) ≡ false
free_set t rs r g k at others free q h held = by_place (r == q) refl
  where
    apart : r ≡ q → (r == q) ≡ false → ⊥
    apart f n = let is : (r == q) ≡ true = (Decides-eqb r q).1 f in cc

    by_place : (b : Bool) → (r == q) ≡ b → (h.txn == t) ≡ false
    by_place true i =
        let same : r ≡ q = (Decides-eqb r q).0 i in
        let here : hold_in (slice_get (slice_set rs r k) q) ≡ k.hold = subst (λ (n : ℕ). hold_in (slice_get (slice_set rs r k) n) ≡ k.hold) same (ap hold_in (get_set rs r g k at)) in
        others h (sym here ∙ held)
    by_place false i = free q h (ap hold_in (sym (get_set_other rs r k q (λ same. apart same i))) ∙ held)

-- what stood there was no hold of t
was_others : (t : ℕ) (c : CoreState) (r : ℕ) (g : RegionState) → slice_get c.regions r ≡ Some g → IsFree c t → IsOthers t g.hold
was_others t c r g at free h e = free r h (ap hold_in at ∙ e)

-- ---- one step
-- of the system alone
beside : (t : ℕ) (L : List Record) (c : CoreState) (y : SystemState) (M : List Record) → y.sizes ≡ c.system.sizes → c.system.next ≤ y.next → row_of y t ≡ row_of c.system t → ((k : ℕ) → lock_of y t k ≡ lock_of c.system t k)
    → txn_state c.system.sizes t M ≡ txn_state c.system.sizes t L → LeavesBe t L c M (with_system c y)
beside t L c y M sizes next row locks rules = record { sizes = sizes; next = next; row = row; locks = locks; rules = rules; free = λ free. free; count = refl }

-- and of one region
on_one : (t : ℕ) (L : List Record) (c : CoreState) (y : SystemState) (M : List Record) (r : ℕ) (g k : RegionState) → slice_get c.regions r ≡ Some g → (IsFree c t → IsOthers t k.hold)
    → y.sizes ≡ c.system.sizes → c.system.next ≤ y.next → row_of y t ≡ row_of c.system t → ((k : ℕ) → lock_of y t k ≡ lock_of c.system t k)
    → txn_state c.system.sizes t M ≡ txn_state c.system.sizes t L → LeavesBe t L c M (record { regions = slice_set c.regions r k; system = y; vault = c.vault })
on_one t L c y M r g k at others sizes next row locks rules = record {
  sizes = sizes;
  next = next;
  row = row;
  locks = locks;
  rules = rules;
  free = λ free. free_set t c.regions r g k at (others free) free;
  count = length-set c.regions r k;
}

-- or of the vault
same_system : (t : ℕ) (L : List Record) (c : CoreState) (v : VaultState) → LeavesBe t L c L (record c { vault = v })
same_system t L c v = record { sizes = refl; next = omega arith; row = refl; locks = λ k. refl; rules = refl; free = λ free. free; count = refl }

put_behind : (t : ℕ) (L M K : List Record) (c d e : CoreState) → M ≡ K → d ≡ e → LeavesBe t L c K e → LeavesBe t L c M d
put_behind t L M K c d e log now a = subst (λ (l : List Record). LeavesBe t L c l d) (sym log) (subst (λ (x : CoreState). LeavesBe t L c K x) (sym now) a)

after_change : (t r : ℕ) (c : CoreState) (g : RegionState) (x : RegionStep) → slice_get c.regions r ≡ Some g → is_apart_on t x ≡ true → IsAlone c.system x g → IsFree c t → IsOthers t (region_after x g).hold
after_change t r c g (Latch u) at apart alone free = some_is t (record { txn = u; dead = false; read = 0; xor = 0; write = 0 }) (other_than u t apart)
after_change t r c g (NoteReads mask) at apart alone free = mapped_is t _ g.hold (λ h. refl) (was_others t c r g at free)
after_change t r c g (Update word value) at apart alone free = mapped_is t _ g.hold (λ h. refl) (was_others t c r g at free)
after_change t r c g TakeBack at apart alone free = none_is t None refl
after_change t r c g (Poke word mask) at apart alone free = was_others t c r g at free
after_change t r c g Check at apart alone free = was_others t c r g at free
after_change t r c g Die at apart alone free = absurd alone
after_change t r c g (Clean A) at apart alone free = was_others t c r g at free
after_change t r c g (Clean B) at apart alone free = was_others t c r g at free

audit_apart : (t b : ℕ) (found : List ℕ) → concerns t (audit_record b found) ≡ false
audit_apart t b [] = refl
audit_apart t b (r ∷ rs) = refl

-- the death of another client
dead_there : (t u : ℕ) (L : List Record) (c : CoreState) (o : Option ℕ) (y : SystemState) → y.sizes ≡ c.system.sizes → c.system.next ≤ y.next → row_of y t ≡ row_of c.system t → ((k : ℕ) → lock_of y t k ≡ lock_of c.system t k)
    → LeavesBe t L c L (record { regions = dead_in c.regions o; system = y; vault = c.vault })
dead_there t u L c None y sizes next row locks = beside t L c y L sizes next row locks refl
dead_there t u L c (Some r) y sizes next row locks = by_region (slice_get c.regions r) refl
  where
    by_region : (p : Option RegionState) → slice_get c.regions r ≡ p → LeavesBe t L c L (record { regions = dead_in c.regions (Some r); system = y; vault = c.vault })
    by_region None i = subst (λ (gs : List RegionState). LeavesBe t L c L (record { regions = gs; system = y; vault = c.vault })) (sym (none_dead i)) (beside t L c y L sizes next row locks refl)
      where
        none_dead : slice_get c.regions r ≡ None → dead_in c.regions (Some r) ≡ c.regions
        none_dead e = rw e refl
    by_region (Some g) i = subst (λ (gs : List RegionState). LeavesBe t L c L (record { regions = gs; system = y; vault = c.vault })) (sym (some_dead i)) (on_one t L c y L r g (dead g) i (λ free. mapped_is t _ g.hold (λ h. refl) (was_others t c r g i free)) sizes next row locks refl)
      where
        some_dead : slice_get c.regions r ≡ Some g → dead_in c.regions (Some r) ≡ slice_set c.regions r (dead g)
        some_dead e = rw e refl

state_apart : (t u : ℕ) (y : SystemState) (st : State) → (u == t) ≡ false → row_of (in_state y u st) t ≡ row_of y t
state_apart t u y st apart = row_apart y.table u t (with_state st) apart

pub each_leaves : EachLeavesBe
each_leaves t L M c d Begins less apart s =
    let new = eqb_greater c.system.next t less in
    put_behind t L M (L ++ Begin c.system.next ∷ []) c d (with_system c (begun c.system)) s.1.0 s.1.1
    (beside t L c (begun c.system) (L ++ Begin c.system.next ∷ []) refl (omega arith) (get-added c.system.table c.system.next fresh_row t ∙ ap (λ (b : Bool). if b then Some fresh_row else get c.system.table t) new) (λ k. refl)
    (others_leave c.system.sizes L t (Begin c.system.next) new))
each_leaves t L M c d (Operates u b) less apart s =
    let other = other_than u t apart in
    put_behind t L M (L ++ Forward u b ∷ []) c d (with_touched c (op_logged c.system u b) b.region s.0) s.3.0 s.3.1
    (on_one t L c (op_logged c.system u b) (L ++ Forward u b ∷ []) b.region s.0 (touched s.0) s.2.at (λ free. none_is t None refl) refl (omega arith) (kept_apart c.system.table u t b b.undo other) (λ k. refl)
    (others_leave c.system.sizes L t (Forward u b) other))
each_leaves t L M c d (TakesBack u b) less apart s =
    let other = other_than u t apart in
    put_behind t L M (L ++ Back u b ∷ []) c d (with_touched c (back_logged c.system u b) b.region s.0) s.2.0 s.2.1
    (on_one t L c (back_logged c.system u b) (L ++ Back u b ∷ []) b.region s.0 (touched s.0) s.1.at (λ free. none_is t None refl) refl (omega arith) (row_apart c.system.table u t without_last other) (λ k. refl)
    (others_leave c.system.sizes L t (Back u b) other))
each_leaves t L M c d (Frees u b) less apart s =
    let other = other_than u t apart in
    let new = eqb_greater c.system.next t less in
    put_behind t L M (L ++ Solo c.system.next u b ∷ []) c d (with_touched c (solo_logged c.system u b) b.region s.0) s.2.0 s.2.1
    (on_one t L c (solo_logged c.system u b) (L ++ Solo c.system.next u b ∷ []) b.region s.0 (touched s.0) s.1.at (λ free. none_is t None refl) refl (omega arith) refl (λ k. refl)
    (others_leave c.system.sizes L t (Solo c.system.next u b) (ap (λ (a : Bool). a || (u == t)) new ∙ other)))
each_leaves t L M c d (Answers u call a) less apart s =
    put_behind t L M (L ++ Done u call a ∷ []) c d (with_system c (done_logged c.system u call a)) s.3.0 s.3.1
    (beside t L c (done_logged c.system u call a) (L ++ Done u call a ∷ []) refl (omega arith) refl (λ k. refl) (others_leave c.system.sizes L t (Done u call a) (other_than u t apart)))
each_leaves t L M c d (Commits u) less apart s =
    let other = other_than u t apart in
    let stay = commit_others c.system (commit_logged c.system u) u refl t other in
    put_behind t L M (L ++ Commit u ∷ []) c d (with_system c (commit_logged c.system u)) s.2.0 s.2.1
    (beside t L c (commit_logged c.system u) (L ++ Commit u ∷ []) refl (omega arith) stay.0 stay.1 (others_leave c.system.sizes L t (Commit u) other))
each_leaves t L M c d (Ends u) less apart s =
    let other = other_than u t apart in
    let stay = ended_others c.system (ended_logged c.system u) u refl t other in
    put_behind t L M (L ++ Ended u ∷ []) c d (with_system c (ended_logged c.system u)) s.2.0 s.2.1
    (beside t L c (ended_logged c.system u) (L ++ Ended u ∷ []) refl (omega arith) stay.0 stay.1 (others_leave c.system.sizes L t (Ended u) other))
each_leaves t L M c d AuditBegins less apart s =
    put_behind t L M (L ++ AuditBegin ∷ []) c d (with_system c (audit_begun c.system)) s.2.0 s.2.1
    (beside t L c (audit_begun c.system) (L ++ AuditBegin ∷ []) refl (omega arith) refl (λ k. refl) (others_leave c.system.sizes L t AuditBegin refl))
each_leaves t L M c d (AuditEnds b found) less apart s =
    put_behind t L M (L ++ audit_record b found ∷ []) c d (with_system c (audit_ended c.system b found)) s.1.0 s.1.1
    (beside t L c (audit_ended c.system b found) (L ++ audit_record b found ∷ []) refl (audit_next found) refl (λ k. refl) (others_leave c.system.sizes L t (audit_record b found) (audit_apart t b found)))
  where
    audit_next : (found : List ℕ) → c.system.next ≤ (audit_ended c.system b found).next
    audit_next [] = omega arith
    audit_next (r ∷ rs) = omega arith
each_leaves t L M c d (Locks u k m) less apart s =
    put_behind t L M L c d (with_system c (granted c.system u k m)) s.2.0 s.2.1
    (beside t L c (granted c.system u k m) L refl (omega arith) refl (λ j. lock_apart c.system.locks u t k j m (other_than u t apart)) refl)
each_leaves t L M c d (Refuses u k m h) less apart s =
    put_behind t L M L c d (with_system c (refused c.system u k m h)) s.2.0 s.2.1 (beside t L c (refused c.system u k m h) L refl (omega arith) refl (λ j. refl) refl)
each_leaves t L M c d (OnRegion r x) less apart s =
    put_behind t L M L c d (with_region c r (region_after x s.0)) s.3.0 s.3.1
    (on_one t L c c.system L r s.0 (region_after x s.0) s.1 (after_change t r c s.0 x s.1 apart s.2.1) refl (omega arith) refl (λ k. refl) refl)
each_leaves t L M c d (Passes b r) less apart s =
    put_behind t L M L c d (with_region c r (checked s.0)) s.2.0 s.2.1
    (on_one t L c c.system L r s.0 (checked s.0) s.1 (was_others t c r s.0 s.1) refl (omega arith) refl (λ k. refl) refl)
each_leaves t L M c d (Dies u o) less apart s =
    put_behind t L M L c d (died c u o) s.1.0 s.1.1 (dead_there t u L c o (in_state c.system u (Dead o)) refl (omega arith) (state_apart t u c.system (Dead o) (other_than u t apart)) (λ k. refl))
each_leaves t L M c d (Claims u) less apart s =
    put_behind t L M L c d (with_system c (in_state c.system u (Cleaning s.0))) s.2.0 s.2.1 (beside t L c (in_state c.system u (Cleaning s.0)) L refl (omega arith) (state_apart t u c.system (Cleaning s.0) (other_than u t apart)) (λ k. refl) refl)
each_leaves t L M c d (GivesBack u o) less apart s =
    put_behind t L M L c d (with_system c (in_state c.system u (Dead o))) s.1.0 s.1.1 (beside t L c (in_state c.system u (Dead o)) L refl (omega arith) (state_apart t u c.system (Dead o) (other_than u t apart)) (λ k. refl) refl)
each_leaves t L M c d (Recovers r) less apart s =
    put_behind t L M L c d _ s.3.0 s.3.1 (on_one t L c c.system L r s.0 _ s.1 (λ free. none_is t None refl) refl (omega arith) refl (λ k. refl) refl)
each_leaves t L M c d Stops less apart s = put_behind t L M L c d _ s.1.0 s.1.1 (beside t L c _ L refl (omega arith) refl (λ k. refl) refl)
each_leaves t L M c d (Checkpoints b) less apart s = put_behind t L M L c d _ s.1.0 s.1.1 (beside t L c _ L refl (omega arith) refl (λ k. refl) refl)
each_leaves t L M c d Takes less apart s = put_behind t L M L c d _ s.0 s.1 (beside t L c _ L refl (omega arith) refl (λ k. refl) refl)
each_leaves t L M c d Flushes less apart s = put_behind t L M L c d _ s.1.0 s.1.1 (same_system t L c _)
each_leaves t L M c d (Faults n) less apart s = put_behind t L M L c d _ s.2.0 s.2.1 (same_system t L c _)
each_leaves t L M c d (ReadFails n) less apart s = put_behind t L M L c d _ s.1.0 s.1.1 (same_system t L c _)

-- ---- one behind another
pub further : (t : ℕ) (L K M : List Record) (c m d : CoreState) → LeavesBe t L c K m → LeavesBe t K m M d → LeavesBe t L c M d
further t L K M c m d a b = record {
  sizes = b.sizes ∙ a.sizes;
  next = let one = a.next in let two = b.next in omega (arith, one, two);
  row = b.row ∙ a.row;
  locks = λ k. b.locks k ∙ a.locks k;
  rules = subst (λ (s : Sizes). txn_state s t M ≡ txn_state s t K) a.sizes b.rules ∙ a.rules;
  free = λ free. b.free (a.free free);
  count = b.count ∙ a.count;
}

nothing : (t : ℕ) (L M : List Record) (c d : CoreState) → L ≡ M → c ≡ d → LeavesBe t L c M d
nothing t L M c d log now = put_behind t L M L c d c (sym log) (sym now) (beside t L c c.system L refl (omega arith) refl (λ k. refl) refl)

pub course_leaves : CourseLeavesBe
course_leaves t m n [] less apart go = nothing t m.log n.log m.core n.core (ap (λ (x : Moment). x.log) go) (ap (λ (x : Moment). x.core) go)
course_leaves t m n (x ∷ xs) less apart go =
    let two = and_parts (is_apart t x) (list_all (is_apart t) xs) apart in
    let one = each_leaves t m.log go.0.log m.core go.0.core x less two.0 go.1.0 in
    let later : t < go.0.core.system.next = let up = one.next in omega (arith, less, up) in
    further t m.log go.0.log n.log m.core go.0.core n.core one (course_leaves t go.0 n xs later two.1 go.2)

-- ---- the steps of another transaction's own
apart_from : (t u v : ℕ) → v ≡ u → (u == t) ≡ false → not (v == t) ≡ true
apart_from t u v own apart = ap (λ (n : ℕ). not (n == t)) own ∙ ap not apart

own_on : (t u : ℕ) (x : RegionStep) (g : RegionState) → (u == t) ≡ false → IsOwn u x g → is_apart_on t x ≡ true
own_on t u (Latch v) g apart own = apart_from t u v own apart
own_on t u _ g apart own = refl

own_in : (t u : ℕ) (x : RegionStep) (o : Option RegionState) → (u == t) ≡ false → IsSomeAnd o (IsOwn u x) → is_apart_on t x ≡ true
own_in t u x None apart own = absurd own
own_in t u x (Some g) apart own = own_on t u x g apart own

pub own_apart : OwnStepIsApart
own_apart t u c (Operates v b) apart own = apart_from t u v own apart
own_apart t u c (OnRegion r x) apart own = own_in t u x (slice_get c.regions r) apart own
own_apart t u c _ apart own = grind (arith, apart, own)

led_from : (precheck : Bool) (t u : ℕ) (o : Look) (L M : List Record) (c d : CoreState) (xs : List Step) → (u == t) ≡ false → t < c.system.next → LeadsFrom precheck u o L c xs M d → LeavesBe t L c M d
led_from precheck t u o L M c d [] apart less l = nothing t L M c d l.0 l.1
led_from precheck t u o L M c d (x ∷ xs) apart less l =
    let one = each_leaves t L l.0 c l.1 x less (own_apart t u c x apart l.2.1) l.2.0 in
    let later : t < l.1.system.next = let up = one.next in omega (arith, less, up) in
    further t L l.0 M c l.1 d one (led_from precheck t u (look_behind c x o) l.0 M l.1 d xs apart later l.3)

pub led_leaves : LedLeavesBe
led_leaves precheck t u L M c d xs apart less l = led_from precheck t u None L M c d xs apart less l

-- ---- who waits
still_at : (t : ℕ) (L M : List Record) (c d : CoreState) (w : Working) → LeavesBe t L c M d → AtWork c.system.sizes L t w → AtWork d.system.sizes M t w
still_at t L M c d w a at = subst (λ (s : Sizes). AtWork s M t w) (sym a.sizes) (a.rules ∙ at)

pub plan_waits : PlanWaits
plan_waits L M c d p a plan = record {
  follows = record {
    working = plan.follows.working;
    at_work = still_at p.txn L M c d plan.follows.working a plan.follows.at_work;
    before = plan.follows.before;
    undos = plan.follows.undos;
    rests = plan.follows.rests;
    progress = plan.follows.progress;
    mark = plan.follows.mark;
    winds = plan.follows.winds;
    onward = plan.follows.onward;
  };
  holds = ap (λ (o : Option Mode). covers o (not (is_get p.call))) (a.locks (call_key p.call)) ∙ plan.holds;
  free = a.free plan.free;
}

pub call_waits : CallWaits
call_waits L M c d t a may = record { working = may.working; at_work = still_at t L M c d may.working a may.at_work; level = may.level; free = a.free may.free }

pub rest_waits : RestWaits
rest_waits L M c d p a rest = record {
  sizes = rest.sizes ∙ sym a.sizes;
  whole = a.count ∙ (rest.whole ∙ ap regions (sym a.sizes));
  lives = ap state_in a.row ∙ rest.lives;
  closed = rest.closed;
}
