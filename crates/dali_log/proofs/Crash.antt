-- What a crash leaves in each step while a batch is added.
use Rattle.std.proofs.Common.{◌≡◌, ◌⊎◌, inl, inr, ℕ, ◌+◌, ◌<◌, ◌≤◌, List, [], ◌∷◌, ◌++◌, length, get_or, take, drop, refl, sym, ◌∙◌, ap, subst, arith, append_assoc, length-append, Option, Some, None, IfSome}
use Rattle.std.proofs.lemmas.List.{take_more}
use Rattle.dali_store.specs.Store.{Files, Holds, HoldsIn, Torn, TornIn, Follows, Elapses, LeavesOnly}
use Rattle.dali_store.specs.declared.store.FileName.TheVariants.{Log}
use Rattle.dali_store.proofs.Moments.{started, goes_on}
use Rattle.dali_log.specs.Batch.{batch, IsClosedAt, IsBody, frame_of}
use Rattle.dali_log.specs.Appending.{next_place, Adds, SomeAdded, AllAdded}
use Rattle.dali_log.proofs.Bytes.{closed_same, before_of, none_more, take_below, gated, gate_at, regrouped, torn_gate, written_gate, either, open_gate, open_closed, length-frame_of, length-batch}

-- none or one of one batch
pub of_one : (may0 : Files → Type 0) (at : ℕ) (body : List ℕ) (old : Files) (new : List ℕ) → may0 old → Adds at [] old.log new ⊎ Adds at (body ∷ []) old.log new
    → (d : Files) × may0 d × (n : ℕ) × (n ≤ length (body ∷ [])) × Adds at (take n (body ∷ [])) d.log new
of_one may0 at body old new left (inl none) = (old, left, 0, omega arith, none)
of_one may0 at body old new left (inr one) = (old, left, 1, omega arith, one)

module _ (at : ℕ) (body : List ℕ) (is : IsBody body) where
  -- the log that stands once the frame is written
  pub staged : (old new frame : List ℕ) (inside : at < length old) → frame ≡ frame_of body → Holds old (at + 1) frame new
      → new ≡ gated at body is old (drop (at + 1 + length frame) old) inside (get_or new at 0)
  staged old new frame inside framed holds =
      let rest = drop (at + 1 + length frame) old in
      let gate = get_or old at 0 in
      let there : new ≡ gated at body is old rest inside gate =
      holds
      ∙ ap (λ (l : List ℕ). l ++ frame ++ rest) (take_more old at 0 inside)
      ∙ ap (λ (l : List ℕ). (take at old ++ gate ∷ []) ++ l ++ rest) framed
      ∙ append_assoc (take at old ++ gate ∷ []) (frame_of body) rest
      ∙ append_assoc (take at old) (gate ∷ []) (frame_of body ++ rest) in
      let gate_is : get_or new at 0 ≡ gate = ap (λ (l : List ℕ). get_or l at 0) there ∙ gate_at at body is old rest inside gate in
      there ∙ ap (gated at body is old rest inside) (sym gate_is)

  -- what reads give then: the batch and the next gate in one piece
  whole_batch : (old gs hs frame : List ℕ) → at < length old → frame ≡ frame_of body → Holds old (at + 1) frame gs → Holds gs at (165 ∷ []) hs → Holds old at (batch body ++ 0 ∷ []) hs
  whole_batch old gs hs frame inside framed one two =
      let rest = drop (at + 1 + length frame) old in
      let stands = staged old gs frame inside framed one in
      let size : length frame ≡ length body + 5 = ap length framed ∙ length-frame_of body in
      let place : at + 1 + length frame ≡ at + length (batch body ++ 0 ∷ []) = omega (arith, size, length-batch body, length-append (batch body) (0 ∷ [])) in
      written_gate at body is old rest inside gs hs stands two
      ∙ regrouped at body is old rest inside
      ∙ append_assoc (take at old) (batch body) (0 ∷ rest)
      ∙ ap (λ (l : List ℕ). take at old ++ l) (sym (append_assoc (batch body) (0 ∷ []) rest))
      ∙ sym (append_assoc (take at old) (batch body ++ 0 ∷ []) rest)
      ∙ ap (λ (n : ℕ). take at old ++ (batch body ++ 0 ∷ []) ++ drop n old) place

  pub told_batch : (frame : List ℕ) (t0 t1 t2 t3 t4 : Option Files) → frame ≡ frame_of body → IfSome t0 (λ fs. at < length fs.log) → HoldsIn Log (at + 1) frame t0 t1 → t2 ≡ t1 → HoldsIn Log at (165 ∷ []) t2 t3 → t4 ≡ t3
      → HoldsIn Log at (batch body ++ 0 ∷ []) t0 t4
  told_batch frame t0 t1 t2 t3 t4 framed now one same two same2 =
      subst (λ (t : Option Files). HoldsIn Log at (batch body ++ 0 ∷ []) t0 t) (sym same2) (by_cases t0 t1 t3 now one (subst (λ (t : Option Files). HoldsIn Log at (165 ∷ []) t t3) same two))
    where
      by_cases : (t0 t1 t3 : Option Files) → IfSome t0 (λ fs. at < length fs.log) → HoldsIn Log (at + 1) frame t0 t1 → HoldsIn Log at (165 ∷ []) t1 t3 → HoldsIn Log at (batch body ++ 0 ∷ []) t0 t3
      by_cases None None t3 now holds holds2 = holds2
      by_cases None (Some gs) t3 now holds holds2 = absurd cc
      by_cases (Some fs) None t3 now holds holds2 = absurd holds
      by_cases (Some fs) (Some gs) None now holds holds2 = absurd holds2
      by_cases (Some fs) (Some gs) (Some hs) now holds holds2 =
          (whole_batch fs.log gs.log hs.log frame now framed holds.0 holds2.0, λ g other. holds2.1 g other ∙ holds.1 g other)

-- a closed gate stands there in what reads give
pub inside_now : (at : ℕ) (may0 : Files → Type 0) (t : Option Files) → IfSome t (λ _. (c : Files) → may0 c → IsClosedAt at c.log) → IfSome t (λ fs. may0 fs) → IfSome t (λ fs. at < length fs.log)
inside_now at may0 None closed now = tt
inside_now at may0 (Some fs) closed now = (closed fs now).0

module _ (at : ℕ) (body : List ℕ) (is : IsBody body) (may0 : Files → Type 0) (closed : (c : Files) → may0 c → IsClosedAt at c.log) where
  -- before the first call
  pub at_start : (c : Files) → may0 c → SomeAdded may0 at (body ∷ []) c
  at_start c left = record { others = (c, left, λ g other. refl); log = of_one may0 at body c c.log left (inl (λ p bodies ends. none_more c.log p bodies at ends)) }

  -- the frame is being written
  pub stage_crash : (n : ℕ) (may1 : Files → Type 0) → Follows (TornIn Log (at + 1) n) may0 may1 → (c : Files) → may1 c → SomeAdded may0 at (body ∷ []) c
  stage_crash n may1 follows c left =
      let from = follows c left in
      let torn = from.2.torn in
      record {
        others = (from.0, from.1, from.2.same);
        log = of_one may0 at body from.0 c.log from.1 (inl (before_of at from.0.log c.log (take_below at (at + 1) c.log from.0.log (omega arith) torn.before)
            (closed_same at from.0.log c.log torn.no_shorter torn.before (closed from.0 from.1))));
      }

  -- the gate is being opened
  pub gate_crash : (frame : List ℕ) (t0 t1 : Option Files) (may1 may2 may3 : Files → Type 0) → frame ≡ frame_of body
      → IfSome t0 (λ fs. may0 fs) → HoldsIn Log (at + 1) frame t0 t1 → Follows (TornIn Log (at + 1) (length frame)) may0 may1
      → ((c : Files) → may2 c → may1 c) → IfSome t1 (λ fs. (c : Files) → may2 c → c.log ≡ fs.log) → Follows (TornIn Log at 1) may2 may3
      → IfSome t0 (λ _. (c : Files) → may3 c → SomeAdded may0 at (body ∷ []) c)
  gate_crash frame None t1 may1 may2 may3 framed now holds first kept durable second = tt
  gate_crash frame (Some fs) None may1 may2 may3 framed now holds first kept durable second = absurd holds
  gate_crash frame (Some fs) (Some gs) may1 may2 may3 framed now holds first kept durable second = λ c left.
      let from = second c left in
      let before = first from.0 (kept from.0 from.1) in
      let inside : at < length fs.log = (closed fs now).0 in
      let rest = drop (at + 1 + length frame) fs.log in
      let stands = staged at body is fs.log gs.log frame inside framed holds.0 in
      let torn : Torn at 1 gs.log c.log = subst (λ (l : List ℕ). Torn at 1 l c.log) (durable from.0 from.1) from.2.torn in
      record {
        others = (before.0, before.1, λ g other. from.2.same g other ∙ before.2.same g other);
        log = of_one may0 at body fs c.log now (either at body is fs.log rest inside c.log (torn_gate at body is fs.log rest inside gs.log c.log stands torn));
      }

  -- the gate has been opened
  pub opened : (frame : List ℕ) (t0 t1 t2 t3 : Option Files) (may1 may2 may3 may4 : Files → Type 0) → frame ≡ frame_of body
      → IfSome t0 (λ fs. may0 fs) → HoldsIn Log (at + 1) frame t0 t1 → Follows (TornIn Log (at + 1) (length frame)) may0 may1
      → ((c : Files) → may2 c → may1 c) → t2 ≡ t1 → HoldsIn Log at (165 ∷ []) t2 t3 → Follows (TornIn Log at 1) may2 may3
      → ((c : Files) → may4 c → may3 c) → IfSome t3 (λ fs. (c : Files) → may4 c → c.log ≡ fs.log)
      → IfSome t0 (λ _. (c : Files) → may4 c → AllAdded may0 at (body ∷ []) c)
  opened frame t0 t1 t2 t3 may1 may2 may3 may4 framed now holds first kept same holds2 second kept2 durable =
      by_cases t0 t1 t3 now holds (subst (λ (t : Option Files). HoldsIn Log at (165 ∷ []) t t3) same holds2) durable
    where
      by_cases : (t0 t1 t3 : Option Files) → IfSome t0 (λ fs. may0 fs) → HoldsIn Log (at + 1) frame t0 t1 → HoldsIn Log at (165 ∷ []) t1 t3
          → IfSome t3 (λ fs. (c : Files) → may4 c → c.log ≡ fs.log) → IfSome t0 (λ _. (c : Files) → may4 c → AllAdded may0 at (body ∷ []) c)
      by_cases None t1 t3 now holds holds2 durable = tt
      by_cases (Some fs) None t3 now holds holds2 durable = absurd holds
      by_cases (Some fs) (Some gs) None now holds holds2 durable = absurd holds2
      by_cases (Some fs) (Some gs) (Some hs) now holds holds2 durable = λ c left.
          let from = second c (kept2 c left) in
          let before = first from.0 (kept from.0 from.1) in
          let inside : at < length fs.log = (closed fs now).0 in
          let rest = drop (at + 1 + length frame) fs.log in
          let stands = staged at body is fs.log gs.log frame inside framed holds.0 in
          let open_is : c.log ≡ gated at body is fs.log rest inside 165 =
          durable c left ∙ written_gate at body is fs.log rest inside gs.log hs.log stands holds2.0 in
          record {
            others = (before.0, before.1, λ g other. from.2.same g other ∙ before.2.same g other);
            log = (fs, now, subst (Adds at (body ∷ []) fs.log) (sym open_is) (open_gate at body is fs.log rest inside));
            closed = subst (IsClosedAt (next_place at (body ∷ []))) (sym open_is) (open_closed at body is fs.log rest inside);
          }

-- ---- all moments of the calls
module _ {D : Type 0} (moment : D → ℕ) (left_since : D → ℕ → Files → Type 0) (at : ℕ) (body : List ℕ) (is : IsBody body) (may0 may1 : Files → Type 0) (closed : (c : Files) → may0 c → IsClosedAt at c.log) (n : ℕ) (s0 s1 : D)
    (only : (c : Files) → left_since s0 (moment s0) c → may0 c) (first : Follows (TornIn Log (at + 1) n) may0 may1) (time1 : Elapses (moment s0) (moment s1) (left_since s0) (left_since s1) may1) where
  -- the frame is written
  pub staged_run : LeavesOnly moment left_since s0 s1 (SomeAdded may0 at (body ∷ []))
  staged_run =
      let start = started moment left_since s0 (SomeAdded may0 at (body ∷ [])) (λ c left. at_start at body is may0 closed c (only c left)) in
      goes_on moment left_since s0 s0 s1 (SomeAdded may0 at (body ∷ [])) may1 start time1 (stage_crash at body is may0 closed n may1 first)

  module _ (s2 : D) (may2 : Files → Type 0) (kept : (c : Files) → may2 c → may1 c) (time2 : Elapses (moment s1) (moment s2) (left_since s1) (left_since s2) may2) where
    -- the log is synced
    pub synced_run : LeavesOnly moment left_since s0 s2 (SomeAdded may0 at (body ∷ []))
    synced_run = goes_on moment left_since s0 s1 s2 (SomeAdded may0 at (body ∷ [])) may2 staged_run time2 (λ c left. stage_crash at body is may0 closed n may1 first c (kept c left))

    -- the gate is opened
    pub opened_run : (s3 : D) (may3 : Files → Type 0) → Elapses (moment s2) (moment s3) (left_since s2) (left_since s3) may3 → ((c : Files) → may3 c → SomeAdded may0 at (body ∷ []) c) → LeavesOnly moment left_since s0 s3 (SomeAdded may0 at (body ∷ []))
    opened_run s3 may3 time3 gate = goes_on moment left_since s0 s2 s3 (SomeAdded may0 at (body ∷ [])) may3 synced_run time3 gate

    -- the log is synced again
    pub whole_run : (s3 s4 : D) (may3 may4 : Files → Type 0) → Elapses (moment s2) (moment s3) (left_since s2) (left_since s3) may3 → ((c : Files) → may4 c → may3 c) → Elapses (moment s3) (moment s4) (left_since s3) (left_since s4) may4
        → ((c : Files) → may3 c → SomeAdded may0 at (body ∷ []) c) → LeavesOnly moment left_since s0 s4 (SomeAdded may0 at (body ∷ []))
    whole_run s3 s4 may3 may4 time3 kept2 time4 gate =
        goes_on moment left_since s0 s3 s4 (SomeAdded may0 at (body ∷ [])) may4 (opened_run s3 may3 time3 gate) time4 (λ c left. gate c (kept2 c left))
