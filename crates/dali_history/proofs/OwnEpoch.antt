-- All records of a transaction stand in one epoch.
--     is_by t r          r is a record of t
--     is_loud t e        some record of the epoch is
--     louds t es         how many of these epochs have one
use Rattle.std.proofs.Common.{◌≡◌, ℕ, suc, ◌+◌, ◌≤◌, Bool, true, false, cond, List, [], ◌∷◌, ◌++◌, length, Option, Some, None, refl, ap, ◌∙◌, ◌⊎◌, inl, inr, ⊎_elim, arith}
use Rattle.std.specs.Prelude.{◌==◌, ◌&&◌, ◌||◌, not, ⊤, filter, IsSome}
use Rattle.std.specs.List.{list_any, AllByRecursion}
use Rattle.std.proofs.lemmas.List.Folds.{fold_along, list_any-append}
use Rattle.std.proofs.lemmas.List.Elements.{filter-append, filter_map-append}
use Rattle.std.proofs.lemmas.List.{length-append}
use Rattle.std.proofs.lemmas.Bool.{or_from, or_parts, both_ways}
use mathlib.Core.Bool.{or-false}
use Rattle.dali_geometry.specs.Sizes.{Sizes}
use Rattle.dali_record.specs.declared.operations.Block.{Block}
use Rattle.dali_record.specs.declared.operations.Pending.{Pending}
use Rattle.dali_record.specs.declared.records.Record.{Record}
use Rattle.dali_record.specs.declared.records.Record.TheVariants.{Format, Begin, Forward, Done, Commit, Ended, Solo, AuditBegin, AuditClean, AuditFail, Restarted, Back}
use Rattle.dali_record.specs.Operations.{undo_op}
use Rattle.dali_record.specs.Log.{txn_of, last_of, calls_of, call_by, committed, commit_by}
use Rattle.dali_record.specs.Epochs.{Epoch, Cut, cut, cut_step, epochs}
use Rattle.dali_record.specs.Damage.{any_txn, has}
use Rattle.dali_record.specs.Calls.{Progress, Fresh, follow}
use Rattle.dali_record.proofs.Pushes.{separates}
use Rattle.dali_record.specs.Legal.{Working, TxnState, Unbegun, Active, Committed, Over, txn_step, txn_next, txn_state, allowed, either_state, goes_on, starts, forward, back, is_of, is_onward, is_level, is_answer, is_none_left, dead_of, freed, rested}

abbrev pub is_by : ℕ → Record → Bool
is_by t r = any_txn (λ u. u == t) (txn_of r)

abbrev pub is_loud : ℕ → Epoch → Bool
is_loud t e = list_any (is_by t) e.records

abbrev pub louds : ℕ → List Epoch → ℕ
louds t es = length (filter (is_loud t) es)

-- how many closed epochs have a record of t, and whether the open one has, by t's state
abbrev Stays : Option TxnState → ℕ → Bool → Type 0
Stays None n b = ⊤
Stays (Some Unbegun) n b = (n ≡ 0) × (b ≡ false)
Stays (Some (Active w)) n b = n ≡ 0
Stays (Some (Committed ps)) n b = n ≡ 0
Stays (Some Over) n b = (n ≡ 0) ⊎ ((n ≤ 1) × (b ≡ false))

in_allowed : (c : Bool) (o : Option TxnState) (n : ℕ) (b : Bool) → Stays o n b → Stays (allowed c o) n b
in_allowed true o n b h = h
in_allowed false o n b h = tt

in_either : (o p : Option TxnState) (n : ℕ) (b : Bool) → Stays o n b → Stays p n b → Stays (either_state o p) n b
in_either None p n b h g = g
in_either (Some x) p n b h g = h

in_goes_on : (w : Working) (k : Block) (o : Option Progress) (n : ℕ) (b : Bool) → n ≡ 0 → Stays (goes_on w k o) n b
in_goes_on w k None n b z = tt
in_goes_on w k (Some p) n b z = z

in_starts : (w : Working) (k : Block) (o : Option Progress) (n : ℕ) (b : Bool) → n ≡ 0 → Stays (starts w k o) n b
in_starts w k None n b z = tt
in_starts w k (Some p) n b z = z

in_forward : (s : Sizes) (t : ℕ) (w : Working) (k : Block) (n : ℕ) (b : Bool) → n ≡ 0 → Stays (forward s t w k) n b
in_forward s t w k n b z =
    in_either (allowed (is_onward w.way) (goes_on w k (follow s t w.progress k))) (allowed (is_level w) (starts w k (follow s t Fresh k))) n b
    (in_allowed (is_onward w.way) (goes_on w k (follow s t w.progress k)) n b (in_goes_on w k (follow s t w.progress k) n b z))
    (in_allowed (is_level w) (starts w k (follow s t Fresh k)) n b (in_starts w k (follow s t Fresh k) n b z))

in_back : (w : Working) (k : Block) (o : Option Pending) (n : ℕ) (b : Bool) → n ≡ 0 → Stays (back w k o) n b
in_back w k None n b z = tt
in_back w k (Some p) n b z = in_allowed (is_of (undo_op p.undo) p k) (Some (Active _)) n b z

in_freed : (k : Block) (ps : List Pending) (n : ℕ) (b : Bool) → n ≡ 0 → Stays (freed k ps) n b
in_freed k [] n b z = tt
in_freed k (p ∷ ps) n b z = in_allowed _ (Some (Committed ps)) n b z

either_way : (c : Bool) (o p : Option TxnState) (n : ℕ) (b : Bool) → Stays o n b → Stays p n b → Stays (cond c o p) n b
either_way true o p n b h g = h
either_way false o p n b h g = g

-- ---- before the Begin
unbegun_other : (c : Bool) (n : ℕ) (b : Bool) → n ≡ 0 → b ≡ false → Stays (allowed (not c) (Some Unbegun)) n (b || c)
unbegun_other true n b z f = tt
unbegun_other false n b z f = (z, or_from b false f refl)

unbegun_begins : (c : Bool) (x : Working) (n : ℕ) (b : Bool) → n ≡ 0 → b ≡ false → Stays (Some (cond c (Active x) Unbegun)) n (b || c)
unbegun_begins true x n b z f = z
unbegun_begins false x n b z f = (z, or_from b false f refl)

unbegun_solo : (c d : Bool) (n : ℕ) (b : Bool) → n ≡ 0 → b ≡ false → Stays (cond c (allowed d (Some Over)) (allowed d (Some Unbegun))) n (b || c)
unbegun_solo true true n b z f = inl z
unbegun_solo true false n b z f = tt
unbegun_solo false true n b z f = (z, or_from b false f refl)
unbegun_solo false false n b z f = tt

-- ---- behind the end
over_quiet : (n : ℕ) (b : Bool) → Stays (Some Over) n b → Stays (Some Over) n (b || false)
over_quiet n b h = ⊎_elim (λ z. inl z) (λ g. inr (g.0, or_from b false g.1 refl)) h

over_other : (c : Bool) (n : ℕ) (b : Bool) → Stays (Some Over) n b → Stays (allowed (not c) (Some Over)) n (b || c)
over_other true n b h = tt
over_other false n b h = over_quiet n b h

over_solo : (c d : Bool) (n : ℕ) (b : Bool) → Stays (Some Over) n b → Stays (allowed (not c && d) (Some Over)) n (b || c)
over_solo true d n b h = tt
over_solo false false n b h = tt
over_solo false true n b h = over_quiet n b h

-- ---- one more record
-- that separates no epochs
stays_step : (s : Sizes) (t : ℕ) (x : TxnState) (n : ℕ) (b : Bool) (r : Record) → separates r ≡ false → Stays (Some x) n b → Stays (txn_step s t x r) n (b || is_by t r)
stays_step s t Unbegun n b (Format i h) f e = absurd (cc)
stays_step s t Unbegun n b (Begin u) f e = unbegun_begins (u == t) _ n b e.0 e.1
stays_step s t Unbegun n b (Forward u k) f e = unbegun_other (u == t) n b e.0 e.1
stays_step s t Unbegun n b (Done u c a) f e = unbegun_other (u == t) n b e.0 e.1
stays_step s t Unbegun n b (Commit u) f e = unbegun_other (u == t) n b e.0 e.1
stays_step s t Unbegun n b (Ended u) f e = unbegun_other (u == t) n b e.0 e.1
stays_step s t Unbegun n b (Solo u p k) f e = unbegun_solo (u == t) (not (p == t)) n b e.0 e.1
stays_step s t Unbegun n b AuditBegin f e = (e.0, or_from b false e.1 refl)
stays_step s t Unbegun n b (AuditClean k) f e = (e.0, or_from b false e.1 refl)
stays_step s t Unbegun n b (AuditFail k rs) f e = (e.0, or_from b false e.1 refl)
stays_step s t Unbegun n b (Restarted rs ds) f e = absurd (cc)
stays_step s t Unbegun n b (Back u k) f e = unbegun_other (u == t) n b e.0 e.1
stays_step s t (Active w) n b (Format i h) f e = absurd (cc)
stays_step s t (Active w) n b (Begin u) f e = in_allowed _ (Some (Active w)) n _ e
stays_step s t (Active w) n b (Forward u k) f e = either_way (u == t) (forward s t w k) (Some (Active w)) n _ (in_forward s t w k n _ e) e
stays_step s t (Active w) n b (Done u c a) f e = either_way (u == t) _ (Some (Active w)) n _ (in_allowed (is_answer s w c a) (Some (rested w)) n _ e) e
stays_step s t (Active w) n b (Commit u) f e = either_way (u == t) _ (Some (Active w)) n _ (in_allowed (is_level w) (Some (Committed (dead_of w.undos))) n _ e) e
stays_step s t (Active w) n b (Ended u) f e = either_way (u == t) _ (Some (Active w)) n _ (in_allowed (is_none_left w.undos) (Some Over) n _ (inl e)) e
stays_step s t (Active w) n b (Solo u p k) f e = in_allowed _ (Some (Active w)) n _ e
stays_step s t (Active w) n b AuditBegin f e = e
stays_step s t (Active w) n b (AuditClean k) f e = e
stays_step s t (Active w) n b (AuditFail k rs) f e = e
stays_step s t (Active w) n b (Restarted rs ds) f e = absurd (cc)
stays_step s t (Active w) n b (Back u k) f e = either_way (u == t) (back w k (last_of w.undos)) (Some (Active w)) n _ (in_back w k (last_of w.undos) n _ e) e
stays_step s t (Committed ps) n b (Format i h) f e = absurd (cc)
stays_step s t (Committed ps) n b (Ended u) f e = either_way (u == t) _ (Some (Committed ps)) n _ (in_allowed _ (Some Over) n _ (inl e)) e
stays_step s t (Committed ps) n b (Solo u p k) f e = in_allowed _ _ n _ (either_way (p == t) (freed k ps) (Some (Committed ps)) n _ (in_freed k ps n _ e) e)
stays_step s t (Committed ps) n b AuditBegin f e = e
stays_step s t (Committed ps) n b (AuditClean k) f e = e
stays_step s t (Committed ps) n b (AuditFail k rs) f e = e
stays_step s t (Committed ps) n b (Restarted rs ds) f e = absurd (cc)
stays_step s t (Committed ps) n b _ f e = in_allowed _ (Some (Committed ps)) n _ e
stays_step s t Over n b (Format i h) f e = absurd (cc)
stays_step s t Over n b (Begin u) f e = over_other (u == t) n b e
stays_step s t Over n b (Forward u k) f e = over_other (u == t) n b e
stays_step s t Over n b (Done u c a) f e = over_other (u == t) n b e
stays_step s t Over n b (Commit u) f e = over_other (u == t) n b e
stays_step s t Over n b (Ended u) f e = over_other (u == t) n b e
stays_step s t Over n b (Solo u p k) f e = over_solo (u == t) (not (p == t)) n b e
stays_step s t Over n b AuditBegin f e = over_quiet n b e
stays_step s t Over n b (AuditClean k) f e = over_quiet n b e
stays_step s t Over n b (AuditFail k rs) f e = over_quiet n b e
stays_step s t Over n b (Restarted rs ds) f e = absurd (cc)
stays_step s t Over n b (Back u k) f e = over_other (u == t) n b e

-- the record of a format or of a restart
stays_fresh : (x : TxnState) (n : ℕ) (b : Bool) → Stays (Some x) n b → Stays (Some x) n false
stays_fresh Unbegun n b e = (e.0, refl)
stays_fresh (Active w) n b e = e
stays_fresh (Committed ps) n b e = e
stays_fresh Over n b e = ⊎_elim (λ z. inl z) (λ g. inr (g.0, refl)) e

abbrev one_if : Bool → ℕ
one_if b = cond b 1 0

stays_over : (n : ℕ) (b : Bool) → n ≡ 0 → Stays (Some Over) (n + one_if b) false
stays_over n true z = inr (omega (arith, z), refl)
stays_over n false z = inr (omega (arith, z), refl)

stays_restart : (s : Sizes) (t : ℕ) (x : TxnState) (n : ℕ) (b : Bool) (rs ds : List ℕ) → Stays (Some x) n b → Stays (txn_step s t x (Restarted rs ds)) (n + one_if b) false
stays_restart s t Unbegun n true rs ds e = absurd (both_ways true e.1 refl)
stays_restart s t Unbegun n false rs ds e = (omega (arith, e.0), refl)
stays_restart s t (Active w) n b rs ds e = stays_over n b e
stays_restart s t (Committed ps) n b rs ds e = stays_over n b e
stays_restart s t Over n b rs ds e = ⊎_elim (λ z. stays_over n b z) (λ g. inr (rw g.1 (omega (arith, g.0)), refl)) e

one_epoch : (t : ℕ) (e : Epoch) → louds t (e ∷ []) ≡ one_if (is_loud t e)
one_epoch t e = by_test (is_loud t e)
  where
    by_test : (b : Bool) → length (cond b (e ∷ []) []) ≡ one_if b
    by_test true = refl
    by_test false = refl

-- of two lists of epochs
pub louds-append : (t : ℕ) (es fs : List Epoch) → louds t (es ++ fs) ≡ louds t es + louds t fs
louds-append t es fs = ap length (filter-append (is_loud t) es fs) ∙ length-append (filter (is_loud t) es) (filter (is_loud t) fs)

louds_push : (t : ℕ) (es : List Epoch) (e : Epoch) → louds t (es ++ e ∷ []) ≡ louds t es + one_if (is_loud t e)
louds_push t es e = louds-append t es (e ∷ []) ∙ ap (λ n. louds t es + n) (one_epoch t e)

loud_push : (t : ℕ) (E : List Record) (r : Record) → list_any (is_by t) (E ++ r ∷ []) ≡ (list_any (is_by t) E || is_by t r)
loud_push t E r = list_any-append (is_by t) E (r ∷ []) ∙ ap (λ b. list_any (is_by t) E || b) (or-false (is_by t r))

abbrev StaysIn : ℕ → Option TxnState → Cut → Type 0
StaysIn t o c = Stays o (louds t c.closed) (is_loud t c.now)

-- a record that separates no epochs goes to the end of the open one
pub cut_step_more : (c : Cut) (r : Record) → separates r ≡ false → cut_step c r ≡ record { closed = c.closed; now = record { first = c.now.first; records = c.now.records ++ r ∷ [] } }
cut_step_more c (Format i h) f = absurd (cc)
cut_step_more c (Restarted rs ds) f = absurd (cc)
cut_step_more c _ f = refl

stays_same : (s : Sizes) (t : ℕ) (x : TxnState) (i h : ℕ) → txn_step s t x (Format i h) ≡ Some x
stays_same s t Unbegun i h = refl
stays_same s t (Active w) i h = refl
stays_same s t (Committed ps) i h = refl
stays_same s t Over i h = refl

by_kind : (s : Sizes) (t : ℕ) (x : TxnState) (c : Cut) (r : Record) → StaysIn t (Some x) c → (b : Bool) → separates r ≡ b → StaysIn t (txn_step s t x r) (cut_step c r)
by_kind s t x c r e false f = rw (cut_step_more c r f, loud_push t c.now.records r) (stays_step s t x (louds t c.closed) (is_loud t c.now) r f e)
by_kind s t x c (Format i h) e true f = rw (stays_same s t x i h) (stays_fresh x (louds t c.closed) (is_loud t c.now) e)
by_kind s t x c (Restarted rs ds) e true f = rw (louds_push t c.closed c.now) (stays_restart s t x (louds t c.closed) (is_loud t c.now) rs ds e)
by_kind s t x c r e true f = absurd (cc)

stays_next : (s : Sizes) (t : ℕ) (o : Option TxnState) (c : Cut) (r : Record) → StaysIn t o c → StaysIn t (txn_next s t o r) (cut_step c r)
stays_next s t None c r e = tt
stays_next s t (Some x) c r e = by_kind s t x c r e (separates r) refl

stays : (s : Sizes) (t : ℕ) (L : List Record) → StaysIn t (txn_state s t L) (cut L)
stays s t L = fold_along (txn_next s t) cut_step (StaysIn t) (λ o c r. stays_next s t o c r) (Some Unbegun) (record { closed = []; now = record { first = 0; records = [] } }) L (refl, refl)

at_most : (o : Option TxnState) (n : ℕ) (b : Bool) → IsSome o → Stays o n b → n + one_if b ≤ 1
at_most None n b h e = absurd (cc)
at_most (Some Unbegun) n b h e = rw e.1 (omega (arith, e.0))
at_most (Some (Active w)) n true h e = omega (arith, e)
at_most (Some (Active w)) n false h e = omega (arith, e)
at_most (Some (Committed ps)) n true h e = omega (arith, e)
at_most (Some (Committed ps)) n false h e = omega (arith, e)
at_most (Some Over) n true h e = ⊎_elim (λ z. omega (arith, z)) (λ g. absurd (both_ways true g.1 refl)) e
at_most (Some Over) n false h e = ⊎_elim (λ z. omega (arith, z)) (λ g. omega (arith, g.0)) e

-- where the rules allow all records of t, at most one epoch has records of it
pub at_most_one : (s : Sizes) (t : ℕ) (L : List Record) → IsSome (txn_state s t L) → louds t (epochs L) ≤ 1
at_most_one s t L legal = rw (louds_push t (cut L).closed (cut L).now) (at_most (txn_state s t L) (louds t (cut L).closed) (is_loud t (cut L).now) legal (stays s t L))

-- ---- the other epochs
abbrev pub AreQuiet : ℕ → List Epoch → Type 0
AreQuiet t es = AllByRecursion (λ e. is_loud t e ≡ false) es

quiet_of : (t : ℕ) (es : List Epoch) → louds t es ≡ 0 → AreQuiet t es
quiet_of t [] z = tt
quiet_of t (e ∷ es) z = by_test (λ y. quiet_of t es y) (is_loud t e) refl
  where
    by_test : (louds t es ≡ 0 → AreQuiet t es) → (b : Bool) → is_loud t e ≡ b → AreQuiet t (e ∷ es)
    by_test later true f = let never : suc (louds t es) ≡ 0 = rw f at z in absurd (omega (arith, never))
    by_test later false f = (f, later (rw f at z))

-- an epoch with a record of t stands alone
pub others_are_quiet : (s : Sizes) (t : ℕ) (L : List Record) (A : List Epoch) (e : Epoch) (B : List Epoch) → IsSome (txn_state s t L) → epochs L ≡ A ++ e ∷ B → is_loud t e ≡ true → AreQuiet t A × AreQuiet t B
others_are_quiet s t L A e B legal split loud =
    let most : louds t (A ++ e ∷ B) ≤ 1 = rw split at (at_most_one s t L legal) in
    let sum : louds t (A ++ e ∷ B) ≡ louds t A + louds t (e ∷ B) = louds-append t A (e ∷ B) in
    let here : louds t (e ∷ B) ≡ suc (louds t B) = rw loud refl in
    (quiet_of t A (omega (arith, most, sum, here)), quiet_of t B (omega (arith, most, sum, here)))

-- ---- what a quiet epoch doesn't have
quiet_call : (t : ℕ) (r : Record) → is_by t r ≡ false → call_by t r ≡ None
quiet_call t (Done u a b) f = rw f refl
quiet_call t _ f = refl

-- no call of t was answered in it
pub quiet_calls : (t : ℕ) (E : List Record) → list_any (is_by t) E ≡ false → calls_of t E ≡ []
quiet_calls t [] f = refl
quiet_calls t (r ∷ E) f = let p = or_parts (is_by t r) (list_any (is_by t) E) f in rw (quiet_call t r p.0) (quiet_calls t E p.1)

quiet_commit : (t : ℕ) (r : Record) → is_by t r ≡ false → has (committed (r ∷ [])) t ≡ false
quiet_commit t (Commit u) f = rw f refl
quiet_commit t _ f = refl

-- t has no Commit in it
pub quiet_committed : (t : ℕ) (E : List Record) → list_any (is_by t) E ≡ false → has (committed E) t ≡ false
quiet_committed t [] f = refl
quiet_committed t (r ∷ E) f =
    let p = or_parts (is_by t r) (list_any (is_by t) E) f in
    ap (λ ts. has ts t) (filter_map-append commit_by (r ∷ []) E) ∙ list_any-append (λ x. x == t) (committed (r ∷ [])) (committed E) ∙ or_from (has (committed (r ∷ [])) t) (has (committed E) t) (quiet_commit t r p.0) (quiet_committed t E p.1)

-- an epoch with a Commit of t has a record of t
pub loud_from_committed : (t : ℕ) (e : Epoch) → has (committed e.records) t ≡ true → is_loud t e ≡ true
loud_from_committed t e h = by_test (is_loud t e) refl
  where
    by_test : (b : Bool) → is_loud t e ≡ b → is_loud t e ≡ true
    by_test true f = f
    by_test false f = absurd (both_ways (has (committed e.records) t) (quiet_committed t e.records f) h)
