-- What a crash leaves in each step while a log is formatted.
use Rattle.std.proofs.Common.{◌≡◌, ◌⊎◌, inl, inr, ℕ, zero, suc, ◌+◌, ◌≤◌, ◌<◌, List, [], ◌∷◌, ◌++◌, length, take, drop, refl, sym, ◌∙◌, subst, arith, Option, Some, None, IfSome}
use Rattle.std.specs.Prelude.{is_some}
use Rattle.dali_store.specs.Store.{Files, NoLonger, Torn, TornIn, HoldsIn, Follows, SameBut, Elapses, LeavesOnly}
use Rattle.dali_store.specs.declared.store.FileName.TheVariants.{Log, ImageA, ImageB, Anchor}
use Rattle.dali_store.proofs.Moments.{moved, started, goes_on}
use Rattle.dali_log.specs.Batch.{IsClosedAt, IsUnformatted, Ends}
use Rattle.dali_log.specs.Appending.{next_place, Adds, SomeAdded, AllAdded}
use Rattle.dali_log.specs.Formatting.{SameImages, CloseLeaves, AreClosed, HasFirst, FormatLeaves, IsFormattedBy}
use Rattle.dali_log.proofs.Torn.{torn_same, torn_then}

-- a log that ends at its first gate
pub closed_ends : (bytes : List ℕ) → IsClosedAt 0 bytes → Ends bytes 0 [] 0
closed_ends bytes shut = record { place = refl; spells = refl; closed = shut; each = tt }

-- a log without batches that has a gate
pub closed_first : (bytes : List ℕ) → IsUnformatted bytes → 2 ≤ length bytes → IsClosedAt 0 bytes
closed_first bytes (inl short) long = absurd (omega (arith, short, long))
closed_first bytes (inr shut) long = (omega (arith, long), shut)

-- the first gate was written
pub closed_written : (old new : List ℕ) → new ≡ take 0 old ++ (0 ∷ []) ++ drop (0 + 1) old → IsClosedAt 0 new
closed_written old new e =
    let here : new ≡ 0 ∷ drop (0 + 1) old = e in
    subst (IsClosedAt 0) (sym here) (omega arith, λ is_open. let zero_is : 0 ≡ 165 = is_open in omega (arith, zero_is))

-- the log as it reads once its first gate was written
pub log_closed : (t0 t1 : Option Files) (may2 : Files → Type 0) → HoldsIn Log 0 (0 ∷ []) t0 t1 → IfSome t1 (λ fs. (c : Files) → may2 c → c.log ≡ fs.log) → IfSome t0 (λ _. (c : Files) → may2 c → IsClosedAt 0 c.log)
log_closed None t1 may2 holds durable = tt
log_closed (Some fs) None may2 holds durable = absurd holds
log_closed (Some fs) (Some gs) may2 holds durable = λ c left. subst (IsClosedAt 0) (sym (durable c left)) (closed_written fs.log gs.log holds.0)

-- the log as it reads where it has two bytes and no batches
pub log_stands : (t : Option Files) (n : ℕ) (may0 may2 : Files → Type 0) → 2 ≤ n → IfSome t (λ _. (c : Files) → may0 c → IsUnformatted c.log) → IfSome t (λ fs. may0 fs) → IfSome t (λ fs. n ≡ length fs.log)
    → IfSome t (λ fs. (c : Files) → may2 c → c.log ≡ fs.log) → IfSome t (λ _. (c : Files) → may2 c → IsClosedAt 0 c.log)
log_stands None n may0 may2 two unformatted now long durable = tt
log_stands (Some fs) n may0 may2 two unformatted now long durable = λ c left. subst (IsClosedAt 0) (sym (durable c left)) (closed_first fs.log (unformatted fs now) (omega (arith, two, long)))

module _ (may0 : Files → Type 0) where
  -- before the first call
  pub close_start : ((c : Files) → may0 c → IsUnformatted c.log) → (c : Files) → may0 c → CloseLeaves may0 c
  close_start unformatted c left = record { others = (c, left, refl, refl, torn_same 0 1 c.anchor); log = unformatted c left }

  -- the log's gate is being closed
  pub close_log_crash : (t : Option Files) (n : ℕ) (may1 may2 : Files → Type 0) → n < 2 → IfSome t (λ fs. (c : Files) → may0 c → NoLonger c fs) → IfSome t (λ fs. n ≡ length fs.log)
      → ((c : Files) → may1 c → may0 c) → Follows (TornIn Log 0 1) may1 may2 → IfSome t (λ _. (c : Files) → may2 c → CloseLeaves may0 c)
  close_log_crash None n may1 may2 short longest is kept follows = tt
  close_log_crash (Some fs) n may1 may2 short longest is kept follows = λ c left.
      let from = follows c left in
      let old = kept from.0 from.1 in
      let same = from.2.same in
      record {
        others = (from.0, old, same ImageA (λ e. cc), same ImageB (λ e. cc), subst (Torn 0 1 from.0.anchor) (sym (same Anchor (λ e. cc))) (torn_same 0 1 from.0.anchor));
        log = inl (omega (arith, from.2.torn.no_longer, longest from.0 old Log, short, is));
      }

  -- the anchor's gate is being closed
  pub close_anchor_crash : (may1 may2 : Files → Type 0) → ((d : Files) → may1 d → CloseLeaves may0 d) → Follows (TornIn Anchor 0 1) may1 may2 → (c : Files) → may2 c → CloseLeaves may0 c
  close_anchor_crash may1 may2 closing follows c left =
      let from = follows c left in
      let old = closing from.0 from.1 in
      let same = from.2.same in
      record {
        others = (old.others.0, old.others.1, same ImageA (λ e. cc) ∙ old.others.2, same ImageB (λ e. cc) ∙ old.others.3, torn_then 0 1 old.others.0.anchor from.0.anchor c.anchor old.others.4 from.2.torn);
        log = subst IsUnformatted (sym (same Log (λ e. cc))) old.log;
      }

  -- both are closed
  pub both_closed : (t1 t2 : Option Files) (may1 may2 may3 : Files → Type 0) → IfSome t1 (λ _. (c : Files) → may1 c → IsClosedAt 0 c.log) → Follows (TornIn Anchor 0 1) may1 may2
      → HoldsIn Anchor 0 (0 ∷ []) t1 t2 → ((c : Files) → may3 c → may2 c) → IfSome t2 (λ fs. (c : Files) → may3 c → c.anchor ≡ fs.anchor) → IfSome t1 (λ _. (c : Files) → may3 c → AreClosed c)
  both_closed None t2 may1 may2 may3 closed follows holds kept durable = tt
  both_closed (Some fs) None may1 may2 may3 closed follows holds kept durable = absurd holds
  both_closed (Some fs) (Some gs) may1 may2 may3 closed follows holds kept durable = λ c left.
      let from = follows c (kept c left) in
      record {
        log = subst (IsClosedAt 0) (sym (from.2.same Log (λ e. cc))) (closed from.0 from.1);
        anchor = subst (IsClosedAt 0) (sym (durable c left)) (closed_written fs.anchor gs.anchor holds.0);
      }

  module _ (body : List ℕ) where
    -- before the batch
    pub format_start : (c : Files) → CloseLeaves may0 c → FormatLeaves may0 body c
    format_start c closing = record { others = closing.others; log = inl closing.log }

    images_of : (d c : Files) → SameImages may0 d → SameBut Log d c → SameImages may0 c
    images_of d c from same = (from.0, from.1, same ImageA (λ e. cc) ∙ from.2, same ImageB (λ e. cc) ∙ from.3, subst (Torn 0 1 from.0.anchor) (sym (same Anchor (λ e. cc))) from.4)

    none_or_one : (n : ℕ) (old : List ℕ) (c : Files) → n ≤ 1 → IsClosedAt 0 old → IsClosedAt 0 c.anchor → Adds 0 (take n (body ∷ [])) old c.log → IsUnformatted c.log ⊎ HasFirst body c
    none_or_one zero old c le shut anchor adds = inl (inr ((adds 0 [] (closed_ends old shut)).closed.1))
    none_or_one (suc zero) old c le shut anchor adds = inr (record { anchor = anchor; log = adds 0 [] (closed_ends old shut) })
    none_or_one (suc (suc n)) old c le shut anchor adds = absurd (omega (arith, le))

    anchor_of : (d c : Files) → AreClosed d → SameBut Log d c → IsClosedAt 0 c.anchor
    anchor_of d c closed same = subst (IsClosedAt 0) (sym (same Anchor (λ e. cc))) closed.anchor

    -- the batch is being added
    pub format_crash : (may1 : Files → Type 0) → ((d : Files) → may1 d → CloseLeaves may0 d) → ((d : Files) → may1 d → AreClosed d) → (c : Files) → SomeAdded may1 0 (body ∷ []) c → FormatLeaves may0 body c
    format_crash may1 closing closed c added = record {
      others = images_of added.others.0 c (closing added.others.0 added.others.1).others added.others.2;
      log = none_or_one added.log.2 added.log.0.log c added.log.3 (closed added.log.0 added.log.1).log (anchor_of added.others.0 c (closed added.others.0 added.others.1) added.others.2) added.log.4;
    }

    -- it has been added
    pub formatted : (may1 : Files → Type 0) → ((d : Files) → may1 d → CloseLeaves may0 d) → ((d : Files) → may1 d → AreClosed d) → (c : Files) → AllAdded may1 0 (body ∷ []) c → IsFormattedBy may0 body c
    formatted may1 closing closed c added = record {
      others = images_of added.others.0 c (closing added.others.0 added.others.1).others added.others.2;
      anchor = anchor_of added.others.0 c (closed added.others.0 added.others.1) added.others.2;
      log = added.log.2 0 [] (closed_ends added.log.0.log (closed added.log.0 added.log.1).log);
    }

-- ---- all moments of the calls
module _ {D : Type 0} (moment : D → ℕ) (left_since : D → ℕ → Files → Type 0) (may_leave : D → Files → Type 0) (s0 s1 s2 : D) where
  -- the log's length is read, and its gate is written
  module _ (unformatted : (c : Files) → may_leave s0 c → IsUnformatted c.log) (only : (c : Files) → left_since s0 (moment s0) c → may_leave s0 c) (kept : (c : Files) → may_leave s1 c → may_leave s0 c)
      (time1 : Elapses (moment s0) (moment s1) (left_since s0) (left_since s1) (may_leave s1)) (time2 : Elapses (moment s1) (moment s2) (left_since s1) (left_since s2) (may_leave s2)) (crash : (c : Files) → may_leave s2 c → CloseLeaves (may_leave s0) c) where
    pub log_run : LeavesOnly moment left_since s0 s2 (CloseLeaves (may_leave s0))
    log_run =
        let start = started moment left_since s0 (CloseLeaves (may_leave s0)) (λ c left. close_start (may_leave s0) unformatted c (only c left)) in
        let first = goes_on moment left_since s0 s0 s1 (CloseLeaves (may_leave s0)) (may_leave s1) start time1 (λ c left. close_start (may_leave s0) unformatted c (kept c left)) in
        goes_on moment left_since s0 s1 s2 (CloseLeaves (may_leave s0)) (may_leave s2) first time2 crash

    -- the log is synced
    pub log_synced : (s3 : D) → ((c : Files) → may_leave s3 c → may_leave s2 c) → Elapses (moment s2) (moment s3) (left_since s2) (left_since s3) (may_leave s3) → LeavesOnly moment left_since s0 s3 (CloseLeaves (may_leave s0))
    log_synced s3 kept3 time3 = goes_on moment left_since s0 s2 s3 (CloseLeaves (may_leave s0)) (may_leave s3) log_run time3 (λ c left. crash c (kept3 c left))

  -- behind a run the anchor's gate is written
  module _ (counts_now : (s : D) (t : ℕ) (c : Files) → t ≤ moment s → may_leave s c → left_since s t c) (run : LeavesOnly moment left_since s0 s1 (CloseLeaves (may_leave s0)))
      (torn : Follows (TornIn Anchor 0 1) (may_leave s1) (may_leave s2)) (time : Elapses (moment s1) (moment s2) (left_since s1) (left_since s2) (may_leave s2)) where
    anchor_crash : (c : Files) → may_leave s2 c → CloseLeaves (may_leave s0) c
    anchor_crash = close_anchor_crash (may_leave s0) (may_leave s1) (may_leave s2) (λ c left. run.each c (counts_now s1 (moment s0) c run.later left)) torn

    pub anchor_run : LeavesOnly moment left_since s0 s2 (CloseLeaves (may_leave s0))
    anchor_run = goes_on moment left_since s0 s1 s2 (CloseLeaves (may_leave s0)) (may_leave s2) run time anchor_crash

    -- the anchor is synced
    pub anchor_synced : (s3 : D) → ((c : Files) → may_leave s3 c → may_leave s2 c) → Elapses (moment s2) (moment s3) (left_since s2) (left_since s3) (may_leave s3) → LeavesOnly moment left_since s0 s3 (CloseLeaves (may_leave s0))
    anchor_synced s3 kept time3 = goes_on moment left_since s0 s2 s3 (CloseLeaves (may_leave s0)) (may_leave s3) anchor_run time3 (λ c left. anchor_crash c (kept c left))

-- where a formatted log ends, of a store that tells its contents
pub log_formatted : (old new : Files → Type 0) (body : List ℕ) (end : ℕ) (t0 t1 : Option Files) → is_some t1 ≡ is_some t0 → end ≡ next_place 0 (body ∷ []) → IfSome t0 (λ _. (c : Files) → new c → IsFormattedBy old body c) → IfSome t1 (λ _. (c : Files) → new c → IsClosedAt end c.log)
log_formatted old new body end t0 t1 tells place all =
    moved {P = (c : Files) → new c → IsFormattedBy old body c} ((c : Files) → new c → IsClosedAt end c.log) t0 t1 tells all (λ each c left. subst (λ (e : ℕ). IsClosedAt e c.log) (sym place) (each c left).log.closed)
