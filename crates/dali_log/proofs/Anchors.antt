-- What a crash leaves in each step while the anchor is moved.
use Rattle.std.proofs.Common.{◌≡◌, ◌⊎◌, inl, inr, ⊎_elim, ℕ, ◌+◌, ◌<◌, ◌≤◌, List, [], ◌∷◌, ◌++◌, length, get_or, take, drop, refl, sym, ◌∙◌, ap, subst, arith, append_assoc, length-append, Option, Some, None, IfSome}
use Rattle.std.specs.Prelude.{is_some}
use Rattle.std.proofs.lemmas.Bool.{cases_eq, cases_lt}
use Rattle.std.proofs.lemmas.List.{get_or-take, get_or-drop, get_or_at, length-take-le, take-append-le, take-take, drop_at}
use Rattle.dali_store.specs.Store.{Files, Holds, HoldsIn, Torn, TornIn, TornTold, Follows, Elapses, LeavesOnly}
use Rattle.dali_store.specs.declared.store.FileName.TheVariants.{Anchor}
use Rattle.dali_store.proofs.Moments.{moved, started, goes_on}
use Rattle.dali_log.specs.Batch.{IsOpenAt, IsClosedAt}
use Rattle.dali_log.specs.Formatting.{IsFormattedBy}
use Rattle.dali_log.proofs.Bytes.{take_below, closed_same}
use Rattle.dali_log.specs.Anchors.{IsAnchor}
use Rattle.dali_log.specs.Anchors.{HasMoved, MayHaveMoved, AreAnchored}

-- ---- bytes
open_same : (at : ℕ) (old new : List ℕ) → length old ≤ length new → take (at + 1) new ≡ take (at + 1) old → IsOpenAt at old → IsOpenAt at new
open_same at old new longer same is = (
  omega (arith, is.0, longer),
  sym (get_or-take (at + 1) new at 0 (omega arith)) ∙ (ap (λ (l : List ℕ). get_or l at 0) same ∙ (get_or-take (at + 1) old at 0 (omega arith) ∙ is.1)),
)

-- the front with all gates and the closed one behind them stays
front_same : (n : ℕ) (old new : List ℕ) → length old ≤ length new → take (n + 1) new ≡ take (n + 1) old → IsAnchor old n → IsAnchor new n
front_same n old new longer same is = record {
  gates = λ i lt. open_same i old new longer (take_below (i + 1) (n + 1) new old (omega (arith, lt)) same) (is.gates i lt);
  closed = closed_same n old new longer same is.closed;
}

pub staged : (n : ℕ) (old new : List ℕ) → Torn (n + 1) 1 old new → IsAnchor old n → IsAnchor new n
staged n old new torn is = front_same n old new torn.no_shorter torn.before is

-- the closed gate was written
pub closed_behind : (n : ℕ) (old new : List ℕ) → n < length old → Holds old (n + 1) (0 ∷ []) new → IsClosedAt (n + 1) new
closed_behind n old new inside holds = (
  omega (arith, ap length there, length-append (take (n + 1) old) (0 ∷ drop (n + 1 + 1) old), front),
  λ is_open. let zero_is : 0 ≡ 165 = sym (ap (λ (l : List ℕ). get_or l (n + 1) 0) there ∙ get_or_at (take (n + 1) old) 0 (drop (n + 1 + 1) old) 0 (n + 1) front) ∙ is_open in omega (arith, zero_is),
)
  where
    front : length (take (n + 1) old) ≡ n + 1
    front = length-take-le (n + 1) old (omega (arith, inside))

    there : new ≡ take (n + 1) old ++ 0 ∷ drop (n + 1 + 1) old
    there = holds ∙ append_assoc (take (n + 1) old) (0 ∷ []) (drop (n + 1 + 1) old)

-- what stands behind a torn gate
behind_same : (n : ℕ) (old new : List ℕ) → length old ≤ length new → drop (n + 1) new ≡ drop (n + 1) old → IsClosedAt (n + 1) old → IsClosedAt (n + 1) new
behind_same n old new longer same is = (
  omega (arith, is.0, longer),
  λ is_open. is.1 (sym (at_behind old) ∙ (ap (λ (l : List ℕ). get_or l 0 0) (sym same) ∙ (at_behind new ∙ is_open))),
)
  where
    at_behind : (l : List ℕ) → get_or (drop (n + 1) l) 0 0 ≡ get_or l (n + 1) 0
    at_behind l = get_or-drop (n + 1) l 0 0 ∙ ap (λ (k : ℕ). get_or l k 0) (let e : n + 1 + 0 ≡ n + 1 = omega arith in e)

pub moved_on : (n : ℕ) (old new : List ℕ) → Torn n 1 old new → IsAnchor old n → IsClosedAt (n + 1) old → get_or new n 0 ≡ 165 → IsAnchor new (n + 1)
moved_on n old new torn is next open_is = record { gates = gates; closed = behind_same n old new torn.no_shorter torn.after next }
  where
    gates : (i : ℕ) → i < n + 1 → IsOpenAt i new
    gates i lt = ⊎_elim
        (λ before. open_same i old new torn.no_shorter (take_below (i + 1) n new old (omega (arith, before)) torn.before) (is.gates i before))
        (λ le. let here : i ≡ n = omega (arith, lt, le) in subst (λ (k : ℕ). IsOpenAt k new) (sym here) (omega (arith, is.closed.0, torn.no_shorter), open_is))
        (cases_lt i n)

pub either_gate : (n : ℕ) (old new : List ℕ) → Torn n 1 old new → IsAnchor old n → IsClosedAt (n + 1) old → IsAnchor new n ⊎ IsAnchor new (n + 1)
either_gate n old new torn is next = ⊎_elim
    (λ open_is. inr (moved_on n old new torn is next open_is))
    (λ shut. inl (record {
      gates = λ i lt. open_same i old new torn.no_shorter (take_below (i + 1) n new old (omega (arith, lt)) torn.before) (is.gates i lt);
      closed = (omega (arith, is.closed.0, torn.no_shorter), shut);
    }))
    (cases_eq (get_or new n 0) 165)

pub gate_is : (n : ℕ) (old new : List ℕ) → n ≤ length old → Holds old n (165 ∷ []) new → get_or new n 0 ≡ 165
gate_is n old new inside holds =
    ap (λ (l : List ℕ). get_or l n 0) (holds ∙ append_assoc (take n old) (165 ∷ []) (drop (n + 1) old))
    ∙ get_or_at (take n old) 165 (drop (n + 1) old) 0 n (length-take-le n old inside)

-- ---- crashes
module _ (n : ℕ) (may0 : Files → Type 0) (anchored : (c : Files) → may0 c → IsAnchor c.anchor n) where
  -- before the first call
  pub at_start : (c : Files) → may0 c → MayHaveMoved may0 n c
  at_start c left = record { others = (c, left, λ g other. refl); anchor = inl (anchored c left) }

  -- the closed gate is being written
  pub stage_crash : (may1 : Files → Type 0) → Follows (TornIn Anchor (n + 1) 1) may0 may1 → (c : Files) → may1 c → MayHaveMoved may0 n c
  stage_crash may1 follows c left =
      let from = follows c left in
      record { others = (from.0, from.1, from.2.same); anchor = inl (staged n from.0.anchor c.anchor from.2.torn (anchored from.0 from.1)) }

  module _ (t0 t1 : Option Files) (may1 may2 may3 : Files → Type 0) (now : IfSome t0 (λ fs. may0 fs)) (holds : HoldsIn Anchor (n + 1) (0 ∷ []) t0 t1) (torn : TornTold Anchor (n + 1) 1 t0 t1)
      (first : Follows (TornIn Anchor (n + 1) 1) may0 may1) (kept : (c : Files) → may2 c → may1 c)
      (durable : IfSome t1 (λ fs. (c : Files) → may2 c → c.anchor ≡ fs.anchor)) (second : Follows (TornIn Anchor n 1) may2 may3) where
    -- the gate is being opened
    pub gate_crash : IfSome t0 (λ _. (c : Files) → may3 c → MayHaveMoved may0 n c)
    gate_crash = by_told t0 t1 now holds torn durable
      where
        by_told : (t u : Option Files) → IfSome t (λ fs. may0 fs) → HoldsIn Anchor (n + 1) (0 ∷ []) t u → TornTold Anchor (n + 1) 1 t u → IfSome u (λ fs. (c : Files) → may2 c → c.anchor ≡ fs.anchor)
            → IfSome t (λ _. (c : Files) → may3 c → MayHaveMoved may0 n c)
        by_told None u here written cut keeps = tt
        by_told (Some fs) None here written cut keeps = absurd written
        by_told (Some fs) (Some gs) here written cut keeps = λ c left.
            let from = second c left in
            let before = first from.0 (kept from.0 from.1) in
            let is : IsAnchor gs.anchor n = staged n fs.anchor gs.anchor cut.torn (anchored fs here) in
            let next : IsClosedAt (n + 1) gs.anchor = closed_behind n fs.anchor gs.anchor (anchored fs here).closed.0 written.0 in
            record {
              others = (before.0, before.1, λ g other. from.2.same g other ∙ before.2.same g other);
              anchor = either_gate n gs.anchor c.anchor (subst (λ (l : List ℕ). Torn n 1 l c.anchor) (keeps from.0 from.1) from.2.torn) is next;
            }

    -- it has been opened
    pub opened : (t2 t3 : Option Files) (may4 : Files → Type 0) → t2 ≡ t1 → HoldsIn Anchor n (165 ∷ []) t2 t3 → TornTold Anchor n 1 t2 t3
        → ((c : Files) → may4 c → may3 c) → IfSome t3 (λ fs. (c : Files) → may4 c → c.anchor ≡ fs.anchor)
        → IfSome t0 (λ _. (c : Files) → may4 c → HasMoved may0 n c)
    opened t2 t3 may4 same holds2 torn2 kept2 durable2 = by_told t0 t1 t3 now holds torn (subst (λ (t : Option Files). HoldsIn Anchor n (165 ∷ []) t t3) same holds2) (subst (λ (t : Option Files). TornTold Anchor n 1 t t3) same torn2) durable2
      where
        by_told : (t u v : Option Files) → IfSome t (λ fs. may0 fs) → HoldsIn Anchor (n + 1) (0 ∷ []) t u → TornTold Anchor (n + 1) 1 t u → HoldsIn Anchor n (165 ∷ []) u v → TornTold Anchor n 1 u v → IfSome v (λ fs. (c : Files) → may4 c → c.anchor ≡ fs.anchor)
            → IfSome t (λ _. (c : Files) → may4 c → HasMoved may0 n c)
        by_told None u v here written cut written2 cut2 keeps = tt
        by_told (Some fs) None v here written cut written2 cut2 keeps = absurd written
        by_told (Some fs) (Some gs) None here written cut written2 cut2 keeps = absurd written2
        by_told (Some fs) (Some gs) (Some hs) here written cut written2 cut2 keeps = λ c left.
            let from = second c (kept2 c left) in
            let before = first from.0 (kept from.0 from.1) in
            let is : IsAnchor gs.anchor n = staged n fs.anchor gs.anchor cut.torn (anchored fs here) in
            let next : IsClosedAt (n + 1) gs.anchor = closed_behind n fs.anchor gs.anchor (anchored fs here).closed.0 written.0 in
            record {
              others = (before.0, before.1, λ g other. from.2.same g other ∙ before.2.same g other);
              anchor = subst (λ (l : List ℕ). IsAnchor l (n + 1)) (sym (keeps c left)) (moved_on n gs.anchor hs.anchor cut2.torn is next (gate_is n gs.anchor hs.anchor (omega (arith, is.closed.0)) written2.0));
            }

-- ---- all moments of the calls
module _ {D : Type 0} (moment : D → ℕ) (left_since : D → ℕ → Files → Type 0) (n : ℕ) (may0 may1 : Files → Type 0) (anchored : (c : Files) → may0 c → IsAnchor c.anchor n) (s0 s1 : D)
    (only : (c : Files) → left_since s0 (moment s0) c → may0 c) (first : Follows (TornIn Anchor (n + 1) 1) may0 may1) (time1 : Elapses (moment s0) (moment s1) (left_since s0) (left_since s1) may1) where
  -- the closed gate is written
  pub staged_run : LeavesOnly moment left_since s0 s1 (MayHaveMoved may0 n)
  staged_run =
      let start = started moment left_since s0 (MayHaveMoved may0 n) (λ c left. at_start n may0 anchored c (only c left)) in
      goes_on moment left_since s0 s0 s1 (MayHaveMoved may0 n) may1 start time1 (stage_crash n may0 anchored may1 first)

  module _ (s2 : D) (may2 : Files → Type 0) (kept : (c : Files) → may2 c → may1 c) (time2 : Elapses (moment s1) (moment s2) (left_since s1) (left_since s2) may2) where
    -- the anchor is synced
    pub synced_run : LeavesOnly moment left_since s0 s2 (MayHaveMoved may0 n)
    synced_run = goes_on moment left_since s0 s1 s2 (MayHaveMoved may0 n) may2 staged_run time2 (λ c left. stage_crash n may0 anchored may1 first c (kept c left))

    -- the gate is opened
    pub opened_run : (s3 : D) (may3 : Files → Type 0) → Elapses (moment s2) (moment s3) (left_since s2) (left_since s3) may3 → ((c : Files) → may3 c → MayHaveMoved may0 n c) → LeavesOnly moment left_since s0 s3 (MayHaveMoved may0 n)
    opened_run s3 may3 time3 gate = goes_on moment left_since s0 s2 s3 (MayHaveMoved may0 n) may3 synced_run time3 gate

    -- the anchor is synced again
    pub whole_run : (s3 s4 : D) (may3 may4 : Files → Type 0) → Elapses (moment s2) (moment s3) (left_since s2) (left_since s3) may3 → ((c : Files) → may4 c → may3 c) → Elapses (moment s3) (moment s4) (left_since s3) (left_since s4) may4
        → ((c : Files) → may3 c → MayHaveMoved may0 n c) → LeavesOnly moment left_since s0 s4 (MayHaveMoved may0 n)
    whole_run s3 s4 may3 may4 time3 kept2 time4 gate =
        goes_on moment left_since s0 s3 s4 (MayHaveMoved may0 n) may4 (opened_run s3 may3 time3 gate) time4 (λ c left. gate c (kept2 c left))

-- the place of the next gate is within the file, or at its end
pub inside_now : (n : ℕ) (may0 : Files → Type 0) (t : Option Files) → IfSome t (λ _. (c : Files) → may0 c → IsAnchor c.anchor n) → IfSome t (λ fs. may0 fs) → IfSome t (λ fs. n + 1 ≤ length fs.anchor)
inside_now n may0 None anchored now = tt
inside_now n may0 (Some fs) anchored now = omega (arith, (anchored fs now).closed.0)

pub inside_then : (n : ℕ) (t u v : Option Files) → IfSome t (λ fs. n + 1 ≤ length fs.anchor) → TornTold Anchor (n + 1) 1 t u → v ≡ u → IfSome v (λ fs. n ≤ length fs.anchor)
inside_then n t u v inside torn same = subst (λ (w : Option Files). IfSome w (λ fs. n ≤ length fs.anchor)) (sym same) (by_told t u inside torn)
  where
    by_told : (t u : Option Files) → IfSome t (λ fs. n + 1 ≤ length fs.anchor) → TornTold Anchor (n + 1) 1 t u → IfSome u (λ fs. n ≤ length fs.anchor)
    by_told None None inside torn = tt
    by_told None (Some gs) inside torn = absurd cc
    by_told (Some fs) None inside torn = tt
    by_told (Some fs) (Some gs) inside torn = omega (arith, inside, torn.torn.no_shorter)

-- what reads give then: both gates in one piece
two_gates : (n : ℕ) (old mid new : List ℕ) → n < length old → Holds old (n + 1) (0 ∷ []) mid → Holds mid n (165 ∷ []) new → Holds old n (165 ∷ 0 ∷ []) new
two_gates n old mid new inside one two =
    two
    ∙ (ap (λ (l : List ℕ). (l ++ 165 ∷ []) ++ drop (n + 1) mid) front
    ∙ (ap (λ (l : List ℕ). (take n old ++ 165 ∷ []) ++ l) back
    ∙ (append_assoc (take n old) (165 ∷ []) (0 ∷ drop (n + 2) old)
    ∙ sym (append_assoc (take n old) (165 ∷ 0 ∷ []) (drop (n + 2) old)))))
  where
    size : length (take (n + 1) old) ≡ n + 1
    size = length-take-le (n + 1) old (omega (arith, inside))

    there : mid ≡ take (n + 1) old ++ 0 ∷ drop (n + 1 + 1) old
    there = one ∙ append_assoc (take (n + 1) old) (0 ∷ []) (drop (n + 1 + 1) old)

    front : take n mid ≡ take n old
    front = ap (take n) there ∙ (take-append-le n (take (n + 1) old) (0 ∷ drop (n + 1 + 1) old) (omega (arith, size)) ∙ take-take n (n + 1) old (omega arith))

    back : drop (n + 1) mid ≡ 0 ∷ drop (n + 2) old
    back = ap (drop (n + 1)) there ∙ (drop_at (take (n + 1) old) (0 ∷ drop (n + 1 + 1) old) (n + 1) size ∙ ap (λ (k : ℕ). 0 ∷ drop k old) (let e : n + 1 + 1 ≡ n + 2 = omega arith in e))

pub told_gates : (n : ℕ) (t0 t1 t2 t3 t4 : Option Files) → IfSome t0 (λ fs. n + 1 ≤ length fs.anchor) → HoldsIn Anchor (n + 1) (0 ∷ []) t0 t1 → t2 ≡ t1 → HoldsIn Anchor n (165 ∷ []) t2 t3 → t4 ≡ t3
    → HoldsIn Anchor n (165 ∷ 0 ∷ []) t0 t4
told_gates n t0 t1 t2 t3 t4 now one same two same2 =
    subst (λ (t : Option Files). HoldsIn Anchor n (165 ∷ 0 ∷ []) t0 t) (sym same2) (by_told t0 t1 t3 now one (subst (λ (t : Option Files). HoldsIn Anchor n (165 ∷ []) t t3) same two))
  where
    by_told : (t0 t1 t3 : Option Files) → IfSome t0 (λ fs. n + 1 ≤ length fs.anchor) → HoldsIn Anchor (n + 1) (0 ∷ []) t0 t1 → HoldsIn Anchor n (165 ∷ []) t1 t3 → HoldsIn Anchor n (165 ∷ 0 ∷ []) t0 t3
    by_told None None t3 now holds holds2 = holds2
    by_told None (Some gs) t3 now holds holds2 = absurd cc
    by_told (Some fs) None t3 now holds holds2 = absurd holds
    by_told (Some fs) (Some gs) None now holds holds2 = absurd holds2
    by_told (Some fs) (Some gs) (Some hs) now holds holds2 = (two_gates n fs.anchor gs.anchor hs.anchor (omega (arith, now)) holds.0 holds2.0, λ g other. holds2.1 g other ∙ holds.1 g other)

-- the anchor behind a format, of a store that tells its contents
pub anchor_formatted : (old new : Files → Type 0) (body : List ℕ) (t0 t1 : Option Files) → is_some t1 ≡ is_some t0 → IfSome t0 (λ _. (c : Files) → new c → IsFormattedBy old body c) → IfSome t1 (λ _. AreAnchored new 0)
anchor_formatted old new body t0 t1 tells all =
    moved {P = (c : Files) → new c → IsFormattedBy old body c} (AreAnchored new 0) t0 t1 tells all (λ each c left. record { gates = λ i lt. absurd (omega (arith, lt)); closed = (each c left).anchor })
