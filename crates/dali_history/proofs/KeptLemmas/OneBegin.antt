-- Each transaction has one Begin, but one that was a solo alone: it has none, and no undos.
--     Once t J                 t has one Begin in J, or none and no undos
use Rattle.std.proofs.Common.{◌≡◌, ℕ, ◌+◌, Bool, true, false, not, List, [], ◌∷◌, ◌++◌, Option, Some, None, refl, ap, sym, subst, ◌∙◌, ◌⊎◌, inl, inr, ⊎_elim, arith}
use Rattle.std.specs.Prelude.{◌==◌, ◌&&◌, if◌then◌else◌}
use Rattle.std.proofs.lemmas.List.Elements.{filter_map-append}
use Rattle.std.proofs.lemmas.Bool.Decides.{eqb_tells}
use Rattle.std.proofs.lemmas.Bool.{eq-eqb}
use Rattle.dali_lists.proofs.Options.{some_of}
use Rattle.dali_geometry.specs.Sizes.{Sizes}
use Rattle.dali_record.specs.declared.operations.Pending.{Pending}
use Rattle.dali_record.specs.declared.operations.Block.{Block}
use Rattle.dali_record.specs.declared.records.Call.{Call}
use Rattle.dali_record.specs.declared.records.Answer.{Answer}
use Rattle.dali_record.specs.declared.records.Record.{Record}
use Rattle.dali_record.specs.declared.records.Record.TheVariants.{Format, Begin, Forward, Done, Commit, Ended, Solo, AuditBegin, AuditClean, AuditFail, Restarted, Back}
use Rattle.dali_record.specs.Log.{undos_of, undo_step, begun, begin_by, last_of}
use Rattle.dali_record.specs.Calls.{Fresh}
use Rattle.dali_record.specs.Legal.{Working, Onward, TxnState, Unbegun, Active, Over, concerns, allowed, is_level, is_answer, is_none_left, dead_of, Committed as IsOver}
use Rattle.dali_record.proofs.Ends.{by_push}
use Rattle.dali_record.proofs.Pushes.{undos_of_push}
use Rattle.dali_history.specs.Kept.Kept.{KeepsCalls, kept_state, kept_step, kept_next, freed_later}
use Rattle.dali_history.proofs.KeptLemmas.WithoutLast.{kept_state_push, kept_before, calls_before}
use Rattle.dali_history.proofs.KeptLemmas.OperationsKeep.{forward_is}
use Rattle.dali_history.proofs.KeptLemmas.KnownTxns.{back_is, is_allowed, freed_is}
use Rattle.dali_history.proofs.KeptLemmas.InvariantAlong.{step_beside, forward_state, back_state, commit_state, done_state, refused}
use Rattle.dali_history.proofs.KeptLemmas.Counts.{count, count-append}

abbrev pub Once : ℕ → List Record → Type 0
Once t J = (count t (begun J) ≡ 1) ⊎ ((count t (begun J) ≡ 0) × (undos_of t J ≡ []))

abbrev Held : ℕ → List Record → Option TxnState → Type 0
Held t J None = ⊥
Held t J (Some Unbegun) = (count t (begun J) ≡ 0) × (undos_of t J ≡ [])
Held t J (Some (Active w)) = count t (begun J) ≡ 1
Held t J (Some (IsOver ps)) = count t (begun J) ≡ 1
Held t J (Some Over) = Once t J

once : (t : ℕ) (J : List Record) (x : TxnState) → Held t J (Some x) → Once t J
once t J Unbegun h = inr h
once t J (Active w) h = inl h
once t J (IsOver ps) h = inl h
once t J Over h = h

begun_push : (t : ℕ) (J : List Record) (r : Record) → count t (begun (J ++ r ∷ [])) ≡ count t (begun J) + count t (begun (r ∷ []))
begun_push t J r = ap (count t) (filter_map-append begin_by J (r ∷ [])) ∙ count-append t (begun J) (begun (r ∷ []))

-- a record that is no Begin of t, and one that leaves its undos
same_count : (t : ℕ) (J : List Record) (r : Record) → count t (begun (r ∷ [])) ≡ 0 → count t (begun (J ++ r ∷ [])) ≡ count t (begun J)
same_count t J r e = begun_push t J r ∙ ap (λ n. count t (begun J) + n) e ∙ omega arith

once_stays : (t : ℕ) (J : List Record) (r : Record) → count t (begun (r ∷ [])) ≡ 0 → undo_step t (undos_of t J) r ≡ undos_of t J → Once t J → Once t (J ++ r ∷ [])
once_stays t J r e f (inl h) = inl (same_count t J r e ∙ h)
once_stays t J r e f (inr h) = inr (same_count t J r e ∙ h.0, undos_of_push t J r ∙ f ∙ h.1)

held_stays : (t : ℕ) (J : List Record) (r : Record) (x : TxnState) → count t (begun (r ∷ [])) ≡ 0 → undo_step t (undos_of t J) r ≡ undos_of t J → Held t J (Some x) → Held t (J ++ r ∷ []) (Some x)
held_stays t J r Unbegun e f h = (same_count t J r e ∙ h.0, undos_of_push t J r ∙ f ∙ h.1)
held_stays t J r (Active w) e f h = same_count t J r e ∙ h
held_stays t J r (IsOver ps) e f h = same_count t J r e ∙ h
held_stays t J r Over e f h = once_stays t J r e f h

-- a record that doesn't concern t
no_begin : (t : ℕ) (r : Record) → concerns t r ≡ false → count t (begun (r ∷ [])) ≡ 0
no_begin t (Begin u) e = rw e refl
no_begin t _ e = refl

no_undo : (t : ℕ) (us : List Pending) (r : Record) → concerns t r ≡ false → undo_step t us r ≡ us
no_undo t us (Forward u b) e = rw e refl
no_undo t us (Back u b) e = rw e refl
no_undo t us _ e = refl

held_beside : (s : Sizes) (t : ℕ) (J : List Record) (r : Record) (x y : TxnState) → concerns t r ≡ false → Held t J (Some x) → kept_step s t x r ≡ Some y → Held t (J ++ r ∷ []) (Some y)
held_beside s t J r x y n h e =
    let same : Some x ≡ Some y = sym (step_beside s t x r n) ∙ e in
    subst (λ o. Held t (J ++ r ∷ []) o) same (held_stays t J r x (no_begin t r n) (no_undo t (undos_of t J) r n) h)

-- ---- a record of t itself
held_begin : (s : Sizes) (t : ℕ) (J : List Record) (x y : TxnState) → Held t J (Some x) → kept_step s t x (Begin t) ≡ Some y → Held t (J ++ Begin t ∷ []) (Some y)
held_begin s t J Unbegun y h e =
    let z : Some (Active (record { undos = []; mark = 0; progress = Fresh; way = Onward })) ≡ Some y = rw (eq-eqb t t refl) at e in
    let own : count t (begun (Begin t ∷ [])) ≡ 1 = rw (eq-eqb t t refl) refl in
    let sum : count t (begun (J ++ Begin t ∷ [])) ≡ 0 + 1 = begun_push t J (Begin t) ∙ ap (λ n. n + count t (begun (Begin t ∷ []))) h.0 ∙ ap (λ n. 0 + n) own in
    subst (λ o. Held t (J ++ Begin t ∷ []) o) z (omega (arith, sum))
held_begin s t J (Active w) y h e = absurd (refused t (Active w) y e)
held_begin s t J (IsOver ps) y h e = absurd (refused t (IsOver ps) y e)
held_begin s t J Over y h e = absurd (refused t Over y e)

-- one that runs goes on running, or is over, with its one Begin
ran : (t : ℕ) (J : List Record) (r : Record) (x y : TxnState) (w : Working) → count t (begun (r ∷ [])) ≡ 0 → x ≡ Active w → Held t J (Some x) → (count t (begun (J ++ r ∷ [])) ≡ 1 → Held t (J ++ r ∷ []) (Some y)) → Held t (J ++ r ∷ []) (Some y)
ran t J r x y w none is h f = f (same_count t J r none ∙ subst (λ z. Held t J (Some z)) is h)

held_forward : (s : Sizes) (t : ℕ) (J : List Record) (b : Block) (x y : TxnState) → Held t J (Some x) → kept_step s t x (Forward t b) ≡ Some y → Held t (J ++ Forward t b ∷ []) (Some y)
held_forward s t J b x y h e =
    let z = forward_state s t x y b e in
    let f = forward_is s t z.0 b y z.2 in
    ran t J (Forward t b) x y z.0 refl z.1 h (λ one. ⊎_elim (λ a. subst (λ v. Held t (J ++ Forward t b ∷ []) (Some v)) (sym a.2) one) (λ a. subst (λ v. Held t (J ++ Forward t b ∷ []) (Some v)) (sym a.2) one) f.1)

held_back : (s : Sizes) (t : ℕ) (J : List Record) (b : Block) (x y : TxnState) → Held t J (Some x) → kept_step s t x (Back t b) ≡ Some y → Held t (J ++ Back t b ∷ []) (Some y)
held_back s t J b x y h e =
    let z = back_state s t x y b e in
    let f = back_is z.0 b (last_of z.0.undos) y z.2 in
    ran t J (Back t b) x y z.0 refl z.1 h (λ one. subst (λ v. Held t (J ++ Back t b ∷ []) (Some v)) f.3 one)

held_done : (s : Sizes) (t : ℕ) (J : List Record) (c : Call) (a : Answer) (x y : TxnState) → Held t J (Some x) → kept_step s t x (Done t c a) ≡ Some y → Held t (J ++ Done t c a ∷ []) (Some y)
held_done s t J c a x y h e =
    let z = done_state s t x y c a e in
    let f = is_allowed (is_answer s z.0 c a) (Rattle.dali_record.specs.Legal.rested z.0) y z.2 in
    ran t J (Done t c a) x y z.0 refl z.1 h (λ one. subst (λ v. Held t (J ++ Done t c a ∷ []) (Some v)) f.1 one)

held_commit : (s : Sizes) (t : ℕ) (J : List Record) (x y : TxnState) → Held t J (Some x) → kept_step s t x (Commit t) ≡ Some y → Held t (J ++ Commit t ∷ []) (Some y)
held_commit s t J x y h e =
    let z = commit_state s t x y e in
    let f = is_allowed (is_level z.0) (IsOver (dead_of z.0.undos)) y z.2 in
    ran t J (Commit t) x y z.0 refl z.1 h (λ one. subst (λ v. Held t (J ++ Commit t ∷ []) (Some v)) f.1 one)

-- one that is over then
over_then : (t : ℕ) (J : List Record) (r : Record) (x y : TxnState) → count t (begun (r ∷ [])) ≡ 0 → undo_step t (undos_of t J) r ≡ undos_of t J → Over ≡ y → Held t J (Some x) → Held t (J ++ r ∷ []) (Some y)
over_then t J r x y none still is h = subst (λ v. Held t (J ++ r ∷ []) (Some v)) is (once_stays t J r none still (once t J x h))

held_ended : (s : Sizes) (t : ℕ) (J : List Record) (x y : TxnState) → Held t J (Some x) → kept_step s t x (Ended t) ≡ Some y → Held t (J ++ Ended t ∷ []) (Some y)
held_ended s t J Unbegun y h e = absurd (refused t Unbegun y e)
held_ended s t J (Active w) y h e = over_then t J (Ended t) (Active w) y refl refl (is_allowed (is_none_left w.undos) Over y (rw (eq-eqb t t refl) at e)).1 h
held_ended s t J (IsOver ps) y h e = let z : Some Over ≡ Some y = rw (eq-eqb t t refl) at e in over_then t J (Ended t) (IsOver ps) y refl refl (cc (z)) h
held_ended s t J Over y h e = absurd (refused t Over y e)

held_restarted : (s : Sizes) (t : ℕ) (J : List Record) (rs ds : List ℕ) (x y : TxnState) → Held t J (Some x) → kept_step s t x (Restarted rs ds) ≡ Some y → Held t (J ++ Restarted rs ds ∷ []) (Some y)
held_restarted s t J rs ds Unbegun y h e = subst (λ o. Held t (J ++ Restarted rs ds ∷ []) o) e (held_stays t J (Restarted rs ds) Unbegun refl refl h)
held_restarted s t J rs ds (Active w) y h e = over_then t J (Restarted rs ds) (Active w) y refl refl (cc (e)) h
held_restarted s t J rs ds (IsOver ps) y h e = over_then t J (Restarted rs ds) (IsOver ps) y refl refl (cc (e)) h
held_restarted s t J rs ds Over y h e = over_then t J (Restarted rs ds) Over y refl refl (cc (e)) h

-- ---- a solo
held_solo : (s : Sizes) (t u p : ℕ) (J : List Record) (b : Block) (x y : TxnState) → Held t J (Some x) → kept_step s t x (Solo u p b) ≡ Some y → Held t (J ++ Solo u p b ∷ []) (Some y)
held_solo s t u p J b Unbegun y h e = go (u == t) (not (p == t)) e
  where
    go : (c d : Bool) → (if c then allowed d (Some Over) else allowed d (Some Unbegun)) ≡ Some y → Held t (J ++ Solo u p b ∷ []) (Some y)
    go true true g = over_then t J (Solo u p b) Unbegun y refl refl (cc (g)) h
    go true false g = absurd (cc (g))
    go false true g = subst (λ o. Held t (J ++ Solo u p b ∷ []) o) g (held_stays t J (Solo u p b) Unbegun refl refl h)
    go false false g = absurd (cc (g))
held_solo s t u p J b (Active w) y h e =
    let z = is_allowed (not (u == t) && not (p == t)) (Active w) y e in
    subst (λ v. Held t (J ++ Solo u p b ∷ []) (Some v)) z.1 (held_stays t J (Solo u p b) (Active w) refl refl h)
held_solo s t u p J b (IsOver ps) y h e = go (not (u == t)) (p == t) e
  where
    one : count t (begun (J ++ Solo u p b ∷ [])) ≡ 1
    one = same_count t J (Solo u p b) refl ∙ h

    go : (c d : Bool) → allowed c (if d then freed_later b ps else Some (IsOver ps)) ≡ Some y → Held t (J ++ Solo u p b ∷ []) (Some y)
    go true true g = subst (λ v. Held t (J ++ Solo u p b ∷ []) (Some v)) (sym (freed_is b ps y g).1) one
    go true false g = subst (λ o. Held t (J ++ Solo u p b ∷ []) o) g one
    go false d g = absurd (cc (g))
held_solo s t u p J b Over y h e =
    let z = is_allowed (not (u == t) && not (p == t)) Over y e in
    subst (λ v. Held t (J ++ Solo u p b ∷ []) (Some v)) z.1 (held_stays t J (Solo u p b) Over refl refl h)

-- ---- any record
held_own : (s : Sizes) (t u : ℕ) (J : List Record) (f : ℕ → Record) (x y : TxnState) → ((v : ℕ) → concerns t (f v) ≡ (v == t)) → (kept_step s t x (f t) ≡ Some y → Held t (J ++ f t ∷ []) (Some y)) → Held t J (Some x) → kept_step s t x (f u) ≡ Some y → Held t (J ++ f u ∷ []) (Some y)
held_own s t u J f x y own g h e = ⊎_elim (λ a. subst (λ v. kept_step s t x (f v) ≡ Some y → Held t (J ++ f v ∷ []) (Some y)) (sym a.1) g e) (λ a. held_beside s t J (f u) x y (own u ∙ a.0) h e) (eqb_tells u t)

held_step : (s : Sizes) (t : ℕ) (J : List Record) (r : Record) (x y : TxnState) → Held t J (Some x) → kept_step s t x r ≡ Some y → Held t (J ++ r ∷ []) (Some y)
held_step s t J (Format i n) x y h e = held_beside s t J (Format i n) x y refl h e
held_step s t J (Begin u) x y h e = held_own s t u J (λ v. Begin v) x y (λ v. refl) (held_begin s t J x y h) h e
held_step s t J (Forward u b) x y h e = held_own s t u J (λ v. Forward v b) x y (λ v. refl) (held_forward s t J b x y h) h e
held_step s t J (Done u c a) x y h e = held_own s t u J (λ v. Done v c a) x y (λ v. refl) (held_done s t J c a x y h) h e
held_step s t J (Commit u) x y h e = held_own s t u J (λ v. Commit v) x y (λ v. refl) (held_commit s t J x y h) h e
held_step s t J (Ended u) x y h e = held_own s t u J (λ v. Ended v) x y (λ v. refl) (held_ended s t J x y h) h e
held_step s t J (Solo u p b) x y h e = held_solo s t u p J b x y h e
held_step s t J AuditBegin x y h e = held_beside s t J AuditBegin x y refl h e
held_step s t J (AuditClean b) x y h e = held_beside s t J (AuditClean b) x y refl h e
held_step s t J (AuditFail b rs) x y h e = held_beside s t J (AuditFail b rs) x y refl h e
held_step s t J (Restarted rs ds) x y h e = held_restarted s t J rs ds x y h e
held_step s t J (Back u b) x y h e = held_own s t u J (λ v. Back v b) x y (λ v. refl) (held_back s t J b x y h) h e

held_all : (s : Sizes) (t : ℕ) (K : List Record) → KeepsCalls s K → Held t K (kept_state s t K)
held_all s t K = by_push (λ J. KeepsCalls s J → Held t J (kept_state s t J)) (λ h. (refl, refl)) step K
  where
    step : (J : List Record) (r : Record) → (KeepsCalls s J → Held t J (kept_state s t J)) → KeepsCalls s (J ++ r ∷ []) → Held t (J ++ r ∷ []) (kept_state s t (J ++ r ∷ []))
    step J r ih h =
        let x = some_of (kept_state s t J) (kept_before s t J r (h.txns t)) in
        let y = some_of (kept_state s t (J ++ r ∷ [])) (h.txns t) in
        let e : kept_step s t x.0 r ≡ Some y.0 = sym (kept_state_push s t J r ∙ ap (λ o. kept_next s t o r) x.1) ∙ y.1 in
        subst (λ o. Held t (J ++ r ∷ []) o) (sym y.1) (held_step s t J r x.0 y.0 (subst (λ o. Held t J o) x.1 (ih (calls_before s J r h))) e)

-- a transaction has one Begin, or none and no undos
pub once_kept : (s : Sizes) (t : ℕ) (K : List Record) → KeepsCalls s K → Once t K
once_kept s t K h = let x = some_of (kept_state s t K) (h.txns t) in once t K x.0 (subst (λ o. Held t K o) x.1 (held_all s t K h))
