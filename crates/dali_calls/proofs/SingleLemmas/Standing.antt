-- What a transaction's own step leaves to the others.
use Rattle.std.proofs.Common.{◌≡◌, ℕ, ◌+◌, ◌<◌, ◌≤◌, Bool, true, false, ◌||◌, List, [], ◌∷◌, ◌++◌, Option, Some, None, IsSomeAnd, refl, sym, ap, subst, ◌∙◌, arith, slice_get, slice_set}
use Rattle.std.specs.Prelude.{◌==◌, ◌↔◌, nat_lt}
use Rattle.std.proofs.lemmas.Bool.{ltb-true, ltb-false}
use Rattle.dali_record.specs.declared.operations.Pending.{Pending}
use Rattle.std.proofs.lemmas.Bool.Decides.{Decides-eqb}
use Rattle.dali_lists.proofs.Lists.{get_set, get_set_other}
use Rattle.dali_lists.proofs.Numbers.{eqb_greater}
use Rattle.dali_geometry.specs.Sizes.{Sizes}
use Rattle.dali_record.specs.declared.operations.Block.{Block}
use Rattle.dali_record.specs.declared.records.Record.{Record}
use Rattle.dali_record.specs.declared.records.Record.TheVariants.{Forward, Back, Solo, Done, Commit, Ended}
use Rattle.dali_record.specs.Legal.{Unbegun, Committed as Ending, concerns, txn_state}
use Rattle.dali_runs.specs.Facts.Ends.{IsUnbegun, IsEnding}
use Rattle.dali_region.specs.declared.Hold.{Hold}
use Rattle.dali_region.specs.State.{RegionState, touched, map_hold, writing, reading}
use Rattle.dali_att.specs.Table.{without_last}
use Rattle.dali_runs.specs.State.{SystemState, CoreState, hold_in}
use Rattle.dali_runs.specs.Steps.{op_logged, back_logged, solo_logged, done_logged, commit_logged, ended_logged, granted}
use Rattle.dali_runs.specs.Keeps.{IsFree, with_system, with_region, with_touched}
use Rattle.dali_runs.specs.Regions.{RegionStep, Latch, NoteReads, Update, TakeBack, Poke, Check, Die, Clean, IsOpen, MayChange, region_after}
use Rattle.dali_runs.specs.Courses.{Step, Begins, Operates, TakesBack, Frees, Answers, Commits, Ends, AuditBegins, AuditEnds, Locks as AsksLock, Refuses, OnRegion, IsStep}
use Rattle.dali_runs.proofs.FactsLemmas.Ends.{others_leave}
use Rattle.dali_calls.specs.Operating.{IsOwn}
use Rattle.dali_calls.proofs.Operating.{still_held}
use Rattle.dali_calls.proofs.Rows.{row_apart}
use Rattle.dali_calls.specs.Single.Stands.{core}
use Rattle.dali_calls.specs.Single.Single.{IsOwnStep, Look, look_behind, LeadsFrom, HoldsStay, StandAside}
use Rattle.dali_calls.specs.Single.Others.{OwnStepStandsAside, OwnStepsStandAside, CommittedWaits}
use Rattle.dali_calls.proofs.SingleLemmas.Going.{kept_apart}
use Rattle.dali_calls.proofs.SingleLemmas.Calling.{lock_apart}
use Rattle.dali_calls.proofs.SingleLemmas.Undoing.{ended_others}
use Rattle.dali_calls.proofs.SingleLemmas.Settled.{commit_others, above}

-- ---- the holds
-- a hold that stands is one of t
abbrev pub IsMine : ℕ → Option Hold → Type 0
IsMine t o = (h : Hold) → o ≡ Some h → h.txn ≡ t

mine_none : (t : ℕ) (o : Option Hold) → o ≡ None → IsMine t o
mine_none t o none h e = absurd (no (sym none ∙ e))
  where
    no : (let n : Option Hold = None in n ≡ Some h) → ⊥
    no f = cc

mine_some : (t : ℕ) (o : Option Hold) (k : Hold) → o ≡ Some k → k.txn ≡ t → IsMine t o
mine_some t o k is own h e = ap (λ (x : Hold). x.txn) (sym (inside k h (sym is ∙ e))) ∙ own
  where
    inside : (a b : Hold) → (let s : Option Hold = Some b in Some a ≡ s) → a ≡ b
    inside a b f = cc

mine_held : (t : ℕ) (o : Option Hold) → IsSomeAnd o (λ h. (h.txn ≡ t) × (h.dead ≡ false)) → IsMine t o
mine_held t None held = absurd held
mine_held t (Some k) held = mine_some t (Some k) k refl held.0

still_read : (t m : ℕ) (ws : List ℕ) (o : Option Hold) → IsSomeAnd o (λ h. (h.txn ≡ t) × (h.dead ≡ false)) → IsSomeAnd (map_hold (reading m ws) o) (λ h. (h.txn ≡ t) × (h.dead ≡ false))
still_read t m ws None held = held
still_read t m ws (Some h) held = held

never_other : (t u : ℕ) (o : Option Hold) (h : Hold) → IsMine t o → (t == u) ≡ false → h.txn ≡ u → o ≡ Some h → ⊥
never_other t u o h mine e own is = let same : (t == u) ≡ true = (Decides-eqb t u).1 (sym (mine h is) ∙ own) in let no : false ≡ true = sym e ∙ same in cc

holds_set : (t : ℕ) (c : CoreState) (y : SystemState) (r : ℕ) (g k : RegionState) → slice_get c.regions r ≡ Some g → IsMine t g.hold → IsMine t k.hold → HoldsStay t c (core (slice_set c.regions r k) y c.vault)
holds_set t c y r g k at was now u q h e own = by_place (r == q) refl
  where
    by_place : (b : Bool) → (r == q) ≡ b → (hold_in (slice_get c.regions q) ≡ Some h) ↔ (hold_in (slice_get (slice_set c.regions r k) q) ≡ Some h)
    by_place true i =
        let same : r ≡ q = (Decides-eqb r q).0 i in
        let before : hold_in (slice_get c.regions q) ≡ g.hold = subst (λ (n : ℕ). hold_in (slice_get c.regions n) ≡ g.hold) same (ap hold_in at) in
        let behind : hold_in (slice_get (slice_set c.regions r k) q) ≡ k.hold = subst (λ (n : ℕ). hold_in (slice_get (slice_set c.regions r k) n) ≡ k.hold) same (ap hold_in (get_set c.regions r g k at)) in
        (λ is. absurd (never_other t u g.hold h was e own (sym before ∙ is)), λ is. absurd (never_other t u k.hold h now e own (sym behind ∙ is)))
    by_place false i =
        let there : hold_in (slice_get (slice_set c.regions r k) q) ≡ hold_in (slice_get c.regions q) = ap hold_in (get_set_other c.regions r k q (λ same. apart same i)) in
        (λ is. there ∙ is, λ is. sym there ∙ is)
      where
        apart : r ≡ q → (r == q) ≡ false → ⊥
        apart f n = let is : (r == q) ≡ true = (Decides-eqb r q).1 f in cc

-- ---- one step
-- a record that doesn't concern the others
rules_with : (t : ℕ) (L : List Record) (c : CoreState) (x : Record) → ((u : ℕ) → (t == u) ≡ false → u < c.system.next → concerns u x ≡ false)
    → (u : ℕ) → (t == u) ≡ false → u < c.system.next → txn_state c.system.sizes u (L ++ x ∷ []) ≡ txn_state c.system.sizes u L
rules_with t L c x apart u e less = others_leave c.system.sizes L u x (apart u e less)

later_with : (t : ℕ) (L : List Record) (c : CoreState) (m : ℕ) (x : Record) → ((u : ℕ) → (t == u) ≡ false → m ≤ u → concerns u x ≡ false)
    → (u : ℕ) → (t == u) ≡ false → m ≤ u → txn_state c.system.sizes u (L ++ x ∷ []) ≡ txn_state c.system.sizes u L
later_with t L c m x apart u e more = others_leave c.system.sizes L u x (apart u e more)

same_holds : (t : ℕ) (c : CoreState) (y : SystemState) → HoldsStay t c (with_system c y)
same_holds t c y u r h e own = (λ is. is, λ is. is)

put_behind : (t : ℕ) (L M : List Record) (c d e : CoreState) (K : List Record) → M ≡ K → d ≡ e → StandAside t L c K e → StandAside t L c M d
put_behind t L M c d e K log now a = subst (λ (l : List Record). StandAside t L c l d) (sym log) (subst (λ (x : CoreState). StandAside t L c K x) (sym now) a)

-- ---- each kind of step; the step is of v, which is t
apart_too : (t v u : ℕ) → v ≡ t → (t == u) ≡ false → (v == u) ≡ false
apart_too t v u own e = ap (λ (n : ℕ). n == u) own ∙ e

mine_open : (t v : ℕ) (b : Block) (g : RegionState) → v ≡ t → IsOpen g v b → IsMine t g.hold
mine_open t v b g own o = mine_some t g.hold (record { txn = v; dead = false; read = b.read; xor = b.xor; write = b.write }) o.hold own

operated : (t v : ℕ) (L : List Record) (c : CoreState) (b : Block) (g : RegionState) → v ≡ t → slice_get c.regions b.region ≡ Some g → IsOpen g v b
    → StandAside t L c (L ++ Forward v b ∷ []) (with_touched c (op_logged c.system v b) b.region g)
operated t v L c b g own at is = record {
  sizes = refl;
  next = omega arith;
  system = λ u e. (kept_apart c.system.table v u b b.undo (apart_too t v u own e), λ k. refl);
  holds = holds_set t c (op_logged c.system v b) b.region g (touched g) at (mine_open t v b g own is) (mine_none t None refl);
  rules = rules_with t L c (Forward v b) (λ u e less. apart_too t v u own e);
  later = later_with t L c c.system.next (Forward v b) (λ u e more. apart_too t v u own e);
}

went_back : (t v : ℕ) (L : List Record) (c : CoreState) (b : Block) (g : RegionState) → v ≡ t → slice_get c.regions b.region ≡ Some g → IsOpen g v b
    → StandAside t L c (L ++ Back v b ∷ []) (with_touched c (back_logged c.system v b) b.region g)
went_back t v L c b g own at is = record {
  sizes = refl;
  next = omega arith;
  system = λ u e. (row_apart c.system.table v u without_last (apart_too t v u own e), λ k. refl);
  holds = holds_set t c (back_logged c.system v b) b.region g (touched g) at (mine_open t v b g own is) (mine_none t None refl);
  rules = rules_with t L c (Back v b) (λ u e less. apart_too t v u own e);
  later = later_with t L c c.system.next (Back v b) (λ u e more. apart_too t v u own e);
}

freed : (t v : ℕ) (L : List Record) (c : CoreState) (b : Block) (g : RegionState) → v ≡ t → slice_get c.regions b.region ≡ Some g → IsOpen g v b
    → StandAside t L c (L ++ Solo c.system.next v b ∷ []) (with_touched c (solo_logged c.system v b) b.region g)
freed t v L c b g own at is = record {
  sizes = refl;
  next = omega arith;
  system = λ u e. (refl, λ k. refl);
  holds = holds_set t c (solo_logged c.system v b) b.region g (touched g) at (mine_open t v b g own is) (mine_none t None refl);
  rules = rules_with t L c (Solo c.system.next v b) (λ u e less. ap (λ (b : Bool). b || (v == u)) (eqb_greater c.system.next u less) ∙ apart_too t v u own e);
  later = later_with t L c (c.system.next + 1) (Solo c.system.next v b) (λ u e more. ap (λ (b : Bool). b || (v == u)) (above c.system.next u more) ∙ apart_too t v u own e);
}

on_region : (t r : ℕ) (L : List Record) (c : CoreState) (g : RegionState) (x : RegionStep) → slice_get c.regions r ≡ Some g → IsMine t g.hold → IsMine t (region_after x g).hold
    → StandAside t L c L (with_region c r (region_after x g))
on_region t r L c g x at was now = record {
  sizes = refl;
  next = omega arith;
  system = λ u e. (refl, λ k. refl);
  holds = holds_set t c c.system r g (region_after x g) at was now;
  rules = λ u e less. refl;
  later = λ u e more. refl;
}

by_region : (t r : ℕ) (L : List Record) (c : CoreState) (g : RegionState) (x : RegionStep) → slice_get c.regions r ≡ Some g → MayChange x g → IsOwn t x g → StandAside t L c L (with_region c r (region_after x g))
by_region t r L c g (Latch u) at may own = on_region t r L c g (Latch u) at (mine_none t g.hold may) (mine_some t (Some (record { txn = u; dead = false; read = 0; xor = 0; write = 0 })) (record { txn = u; dead = false; read = 0; xor = 0; write = 0 }) refl own)
by_region t r L c g (NoteReads mask) at may own = on_region t r L c g (NoteReads mask) at (mine_held t g.hold own) (mine_held t (map_hold (reading mask g.words) g.hold) (still_read t mask g.words g.hold own))
by_region t r L c g (Update word value) at may own = on_region t r L c g (Update word value) at (mine_held t g.hold own) (mine_held t (map_hold (writing word) g.hold) (still_held t word g.hold own))
by_region t r L c g TakeBack at may own = on_region t r L c g TakeBack at (mine_held t g.hold own) (mine_none t None refl)
by_region t r L c g (Poke word mask) at may own = absurd own
by_region t r L c g Check at may own = absurd own
by_region t r L c g Die at may own = absurd own
by_region t r L c g (Clean side) at may own = absurd own

own_here : (t : ℕ) (x : RegionStep) (o : Option RegionState) (g : RegionState) → o ≡ Some g → IsSomeAnd o (IsOwn t x) → IsOwn t x g
own_here t x o g at own = let now : IsSomeAnd (Some g) (IsOwn t x) = subst (λ (p : Option RegionState). IsSomeAnd p (IsOwn t x)) at own in now

own_aside : (t : ℕ) (L M : List Record) (c d : CoreState) (x : Step) → IsStep L c x M d → IsOwnStep t c x → StandAside t L c M d
own_aside t L M c d Begins s own = absurd own
own_aside t L M c d (Operates v b) s own = put_behind t L M c d (with_touched c (op_logged c.system v b) b.region s.0) (L ++ Forward v b ∷ []) s.3.0 s.3.1 (operated t v L c b s.0 own s.2.at s.2.is_open)
own_aside t L M c d (TakesBack v b) s own = put_behind t L M c d (with_touched c (back_logged c.system v b) b.region s.0) (L ++ Back v b ∷ []) s.2.0 s.2.1 (went_back t v L c b s.0 own s.1.at s.1.is_open)
own_aside t L M c d (Frees v b) s own = put_behind t L M c d (with_touched c (solo_logged c.system v b) b.region s.0) (L ++ Solo c.system.next v b ∷ []) s.2.0 s.2.1 (freed t v L c b s.0 own s.1.at s.1.is_open)
own_aside t L M c d (Answers v call a) s own = put_behind t L M c d (with_system c (done_logged c.system v call a)) (L ++ Done v call a ∷ []) s.3.0 s.3.1 (record {
  sizes = refl;
  next = omega arith;
  system = λ u e. (refl, λ k. refl);
  holds = same_holds t c (done_logged c.system v call a);
  rules = rules_with t L c (Done v call a) (λ u e less. apart_too t v u own e);
  later = later_with t L c c.system.next (Done v call a) (λ u e more. apart_too t v u own e);
})
own_aside t L M c d (Commits v) s own = put_behind t L M c d (with_system c (commit_logged c.system v)) (L ++ Commit v ∷ []) s.2.0 s.2.1 (record {
  sizes = refl;
  next = omega arith;
  system = λ u e. commit_others c.system (commit_logged c.system v) v refl u (apart_too t v u own e);
  holds = same_holds t c (commit_logged c.system v);
  rules = rules_with t L c (Commit v) (λ u e less. apart_too t v u own e);
  later = later_with t L c c.system.next (Commit v) (λ u e more. apart_too t v u own e);
})
own_aside t L M c d (Ends v) s own = put_behind t L M c d (with_system c (ended_logged c.system v)) (L ++ Ended v ∷ []) s.2.0 s.2.1 (record {
  sizes = refl;
  next = omega arith;
  system = λ u e. ended_others c.system (ended_logged c.system v) v refl u (apart_too t v u own e);
  holds = same_holds t c (ended_logged c.system v);
  rules = rules_with t L c (Ended v) (λ u e less. apart_too t v u own e);
  later = later_with t L c c.system.next (Ended v) (λ u e more. apart_too t v u own e);
})
own_aside t L M c d AuditBegins s own = absurd own
own_aside t L M c d (AuditEnds b found) s own = absurd own
own_aside t L M c d (AsksLock v k m) s own = put_behind t L M c d (with_system c (granted c.system v k m)) L s.2.0 s.2.1 (record {
  sizes = refl;
  next = omega arith;
  system = λ u e. (refl, λ j. lock_apart c.system.locks v u k j m (apart_too t v u own e));
  holds = same_holds t c (granted c.system v k m);
  rules = λ u e less. refl;
  later = λ u e more. refl;
})
own_aside t L M c d (Refuses v k m h) s own = absurd own
own_aside t L M c d (OnRegion r x) s own = put_behind t L M c d (with_region c r (region_after x s.0)) L s.3.0 s.3.1 (by_region t r L c s.0 x s.1 s.2.0 (own_here t x (slice_get c.regions r) s.0 s.1 own))
own_aside t L M c d _ s own = absurd own

pub own_step_stands : OwnStepStandsAside
own_step_stands t L M c d x s own = own_aside t L M c d x s own

-- ---- one behind another
further : (t : ℕ) (L K M : List Record) (c m d : CoreState) → StandAside t L c K m → StandAside t K m M d → StandAside t L c M d
further t L K M c m d a b = record {
  sizes = b.sizes ∙ a.sizes;
  next = let one = a.next in let two = b.next in omega (arith, one, two);
  system = λ u e. ((b.system u e).0 ∙ (a.system u e).0, λ k. (b.system u e).1 k ∙ (a.system u e).1 k);
  holds = λ u r h e own. (λ is. (b.holds u r h e own).0 ((a.holds u r h e own).0 is), λ is. (a.holds u r h e own).1 ((b.holds u r h e own).1 is));
  rules = λ u e less.
      let later : u < m.system.next = let one = a.next in omega (arith, one, less) in
      let two = b.rules u e later in
      subst (λ (s : Sizes). txn_state s u M ≡ txn_state s u K) a.sizes two ∙ a.rules u e less;
  later = λ u e more.
      let before : m.system.next ≤ u = let two = b.next in omega (arith, two, more) in
      let further = b.later u e more in
      subst (λ (s : Sizes). txn_state s u M ≡ txn_state s u K) a.sizes further ∙ a.later u e before;
}

all_aside : (precheck : Bool) (t : ℕ) (o : Look) (L M : List Record) (c d : CoreState) (xs : List Step) → LeadsFrom precheck t o L c xs M d → StandAside t L c M d
all_aside precheck t o L M c d [] l = put_behind t L M c d c L (sym l.0) (sym l.1) (record { sizes = refl; next = omega arith; system = λ u e. (refl, λ k. refl); holds = λ u r h e own. (λ is. is, λ is. is); rules = λ u e less. refl; later = λ u e more. refl })
all_aside precheck t o L M c d (x ∷ xs) l = further t L l.0 M c l.1 d (own_aside t L l.0 c l.1 x l.2.0 l.2.1) (all_aside precheck t (look_behind c x o) l.0 M l.1 d xs l.3)

pub own_steps_stand : OwnStepsStandAside
own_steps_stand precheck t L M c d xs l = all_aside precheck t None L M c d xs l

-- ---- what is committed and waits
-- a number that has a record is given
given : (s : Sizes) (L : List Record) (t next : ℕ) (us : List Pending) → IsEnding s L t us → ((n : ℕ) → next ≤ n → IsUnbegun s L n) → t < next
given s L t next us is unbegun = by_order (nat_lt t next) refl
  where
    never : Some (Ending us) ≡ Some Unbegun → ⊥
    never e = cc

    by_order : (b : Bool) → nat_lt t next ≡ b → t < next
    by_order true e = ltb-true t next e
    by_order false e = absurd (never (sym is ∙ unbegun t (ltb-false t next e)))

still_free : (t u : ℕ) (c d : CoreState) → (u == t) ≡ false → HoldsStay u c d → IsFree c t → IsFree d t
still_free t u c d apart holds free r h held = by_test (h.txn == t) refl
  where
    by_test : (b : Bool) → (h.txn == t) ≡ b → (h.txn == t) ≡ false
    by_test true e = free r h ((holds t r h apart ((Decides-eqb h.txn t).0 e)).1 held)
    by_test false e = e

pub committed_waits : CommittedWaits
committed_waits L M c d t u us apart stands begun is = record {
  ending = subst (λ (s : Sizes). IsEnding s M t us) (sym stands.sizes) (stands.rules t apart (given c.system.sizes L t c.system.next us is.ending is.unbegun) ∙ is.ending);
  free = still_free t u c d apart stands.holds is.free;
  unbegun = λ n more.
      let before : c.system.next ≤ n = let next = stands.next in omega (arith, next, more) in
      subst (λ (s : Sizes). IsUnbegun s M n) (sym stands.sizes) (stands.later n (below u n c.system.next begun before) more ∙ is.unbegun n before);
}
  where
    below : (m n k : ℕ) → m < k → k ≤ n → (m == n) ≡ false
    below m n k less more = by_test (m == n) refl
      where
        by_test : (b : Bool) → (m == n) ≡ b → (m == n) ≡ false
        by_test true q = absurd (let same : m ≡ n = (Decides-eqb m n).0 q in omega (arith, less, more, same))
        by_test false q = q
