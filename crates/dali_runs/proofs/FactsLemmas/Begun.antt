-- The table has just the transactions of the last epoch with a Begin and no Ended.
use Rattle.std.proofs.Common.{◌≡◌, ℕ, Bool, true, false, cond, List, [], ◌∷◌, ◌++◌, Option, Some, None, refl, ap, sym, subst, ◌∙◌}
use Rattle.std.specs.Prelude.{◌==◌, ◌&&◌, ◌||◌, not, ⊤, is_some, filter_map}
use Rattle.std.proofs.lemmas.List.{append-nil}
use Rattle.std.proofs.lemmas.List.Elements.{filter_map-append}
use mathlib.Core.Bool.{or-false, or-true}
use Rattle.dali_geometry.specs.Sizes.{Sizes}
use Rattle.dali_record.specs.declared.operations.Block.{Block}
use Rattle.dali_record.specs.declared.operations.Pending.{Pending}
use Rattle.dali_record.specs.declared.records.Record.{Record}
use Rattle.dali_record.specs.declared.records.Record.TheVariants.{Format, Begin, Forward, Done, Commit, Ended, Solo, AuditBegin, AuditClean, AuditFail, Restarted, Back}
use Rattle.dali_record.specs.Log.{begin_by, begun, ended_by, ended, last_of}
use Rattle.dali_record.specs.Epochs.{Cut, cut, cut_step, last_epoch}
use Rattle.dali_record.specs.Damage.{has}
use Rattle.dali_record.specs.Calls.{Progress, Fresh, follow}
use Rattle.dali_record.specs.Legal.{TxnState, Unbegun, Active, Committed as Ending, Over, Working, txn_state, txn_next, txn_step, allowed, either_state, goes_on, starts, forward, back, is_onward, is_level, is_answer, is_none_left, dead_of, freed, rested, Rules, rules_state}
use Rattle.dali_record.proofs.Ends.{by_push}
use Rattle.dali_record.proofs.Pushes.{txn_state_push, cut_push}
use Rattle.dali_record.proofs.EpochRules.{format_first, rules_before}
use Rattle.dali_record.proofs.Moves.{over_next_is}
use Rattle.dali_runs.specs.State.{TxnRow}
use Rattle.dali_runs.specs.Run.{IsRow, is_running}
use Rattle.dali_runs.proofs.OneMore.{is_inside, step_inside}
use Rattle.dali_runs.specs.Facts.Facts.{HoldsTheBegun}
use Rattle.dali_runs.proofs.FactsLemmas.Commits.{has_push}

-- b tells whether the epoch has its Begin, e whether it has its Ended
abbrev pub Stands : Option TxnState → Bool → Bool → Type 0
Stands None b e = ⊤
Stands (Some Unbegun) b e = (b ≡ false) × (e ≡ false)
Stands (Some (Active w)) b e = (b ≡ true) × (e ≡ false)
Stands (Some (Ending ps)) b e = (b ≡ true) × (e ≡ false)
Stands (Some Over) b e = (b && not e) ≡ false

-- a transaction that runs
abbrev Runs : Bool → Bool → Type 0
Runs b e = (b ≡ true) × (e ≡ false)

st_allowed : (c : Bool) (o : Option TxnState) (b e : Bool) → Stands o b e → Stands (allowed c o) b e
st_allowed true o b e h = h
st_allowed false o b e h = tt

st_either : (o p : Option TxnState) (b e : Bool) → Stands o b e → Stands p b e → Stands (either_state o p) b e
st_either None p b e h g = g
st_either (Some x) p b e h g = h

st_test : (c : Bool) (o p : Option TxnState) (b e : Bool) → Stands o b e → Stands p b e → Stands (cond c o p) b e
st_test true o p b e h g = h
st_test false o p b e h g = g

st_goes_on : (w : Working) (q : Block) (o : Option Progress) (b e : Bool) → Runs b e → Stands (goes_on w q o) b e
st_goes_on w q None b e h = tt
st_goes_on w q (Some p) b e h = h

st_starts : (w : Working) (q : Block) (o : Option Progress) (b e : Bool) → Runs b e → Stands (starts w q o) b e
st_starts w q None b e h = tt
st_starts w q (Some p) b e h = h

st_forward : (s : Sizes) (t : ℕ) (w : Working) (q : Block) (b e : Bool) → Runs b e → Stands (forward s t w q) b e
st_forward s t w q b e h =
    st_either (allowed (is_onward w.way) (goes_on w q (follow s t w.progress q))) (allowed (is_level w) (starts w q (follow s t Fresh q))) b e
    (st_allowed (is_onward w.way) (goes_on w q (follow s t w.progress q)) b e (st_goes_on w q (follow s t w.progress q) b e h))
    (st_allowed (is_level w) (starts w q (follow s t Fresh q)) b e (st_starts w q (follow s t Fresh q) b e h))

st_back : (w : Working) (q : Block) (o : Option Pending) (b e : Bool) → Runs b e → Stands (back w q o) b e
st_back w q None b e h = tt
st_back w q (Some p) b e h = st_allowed _ (Some (Active _)) b e h

st_freed : (q : Block) (ps : List Pending) (b e : Bool) → Runs b e → Stands (freed q ps) b e
st_freed q [] b e h = tt
st_freed q (p ∷ ps) b e h = st_allowed _ (Some (Ending ps)) b e h

unbegun_over : (b e : Bool) → b ≡ false → (b && not e) ≡ false
unbegun_over true e h = absurd (cc)
unbegun_over false e h = refl

-- a record that is neither a Begin nor an Ended
abbrev is_between : Record → Bool
is_between (Format i h) = false
is_between (Begin t) = false
is_between (Ended t) = false
is_between (Restarted rs ds) = false
is_between _ = true

st_between : (s : Sizes) (t : ℕ) (x : TxnState) (r : Record) (b e : Bool) → is_between r ≡ true → Stands (Some x) b e → Stands (txn_step s t x r) b e
st_between s t x (Format i n) b e k h = absurd (cc)
st_between s t x (Begin u) b e k h = absurd (cc)
st_between s t x (Ended u) b e k h = absurd (cc)
st_between s t x (Restarted rs ds) b e k h = absurd (cc)
st_between s t Unbegun (Solo u p q) b e k h = st_test (u == t) _ _ b e (st_allowed _ (Some Over) b e (unbegun_over b e h.0)) (st_allowed _ (Some Unbegun) b e h)
st_between s t Unbegun AuditBegin b e k h = h
st_between s t Unbegun (AuditClean a) b e k h = h
st_between s t Unbegun (AuditFail a rs) b e k h = h
st_between s t Unbegun _ b e k h = st_allowed _ (Some Unbegun) b e h
st_between s t (Active w) (Forward u q) b e k h = st_test (u == t) (forward s t w q) (Some (Active w)) b e (st_forward s t w q b e h) h
st_between s t (Active w) (Back u q) b e k h = st_test (u == t) (back w q (last_of w.undos)) (Some (Active w)) b e (st_back w q (last_of w.undos) b e h) h
st_between s t (Active w) (Done u c a) b e k h = st_test (u == t) _ (Some (Active w)) b e (st_allowed (is_answer s w c a) (Some (rested w)) b e h) h
st_between s t (Active w) (Commit u) b e k h = st_test (u == t) _ (Some (Active w)) b e (st_allowed (is_level w) (Some (Ending (dead_of w.undos))) b e h) h
st_between s t (Active w) (Solo u p q) b e k h = st_allowed _ (Some (Active w)) b e h
st_between s t (Active w) _ b e k h = h
st_between s t (Ending ps) (Solo u p q) b e k h = st_allowed (not (u == t)) _ b e (st_test (p == t) (freed q ps) (Some (Ending ps)) b e (st_freed q ps b e h) h)
st_between s t (Ending ps) AuditBegin b e k h = h
st_between s t (Ending ps) (AuditClean a) b e k h = h
st_between s t (Ending ps) (AuditFail a rs) b e k h = h
st_between s t (Ending ps) _ b e k h = st_allowed _ (Some (Ending ps)) b e h
st_between s t Over r b e k h = let next = over_next_is t r in subst (λ (o : Option TxnState). Stands o b e) (sym next.1) (st_allowed next.0 (Some Over) b e h)

-- ---- a Begin and an Ended

over_ended : (b e : Bool) → (b && not (e || true)) ≡ false
over_ended true e = ap not (or-true e)
over_ended false e = refl

same_flags : (o : Option TxnState) (b e : Bool) → Stands o b e → Stands o (b || false) (e || false)
same_flags o b e h = subst (λ c. Stands o c (e || false)) (sym (or-false b)) (subst (λ c. Stands o b c) (sym (or-false e)) h)

never_now : (c : Bool) (o : Option TxnState) (b e : Bool) → Stands o b e → Stands (allowed (not c) o) (b || c) (e || false)
never_now true o b e h = tt
never_now false o b e h = same_flags o b e h

begins_now : (c : Bool) (w : Working) (b e : Bool) → Stands (Some Unbegun) b e → Stands (Some (cond c (Active w) Unbegun)) (b || c) (e || false)
begins_now true w b e h = (or-true b, or-false e ∙ h.1)
begins_now false w b e h = same_flags (Some Unbegun) b e h

st_begin : (s : Sizes) (t u : ℕ) (x : TxnState) (b e : Bool) → Stands (Some x) b e → Stands (txn_step s t x (Begin u)) (b || (u == t)) (e || false)
st_begin s t u Unbegun b e h = begins_now (u == t) _ b e h
st_begin s t u (Active w) b e h = never_now (u == t) (Some (Active w)) b e h
st_begin s t u (Ending ps) b e h = never_now (u == t) (Some (Ending ps)) b e h
st_begin s t u Over b e h = never_now (u == t) (Some Over) b e h

ends_now : (c d : Bool) (x : TxnState) (b e : Bool) → Stands (Some x) b e → Stands (cond c (allowed d (Some Over)) (Some x)) (b || false) (e || c)
ends_now true d x b e h = st_allowed d (Some Over) (b || false) (e || true) (over_ended (b || false) e)
ends_now false d x b e h = same_flags (Some x) b e h

never_ends : (c : Bool) (o : Option TxnState) (b e : Bool) → Stands o b e → Stands (allowed (not c) o) (b || false) (e || c)
never_ends true o b e h = tt
never_ends false o b e h = same_flags o b e h

st_ended : (s : Sizes) (t u : ℕ) (x : TxnState) (b e : Bool) → Stands (Some x) b e → Stands (txn_step s t x (Ended u)) (b || false) (e || (u == t))
st_ended s t u Unbegun b e h = never_ends (u == t) (Some Unbegun) b e h
st_ended s t u (Active w) b e h = ends_now (u == t) (is_none_left w.undos) (Active w) b e h
st_ended s t u (Ending ps) b e h = ends_now (u == t) (is_none_left ps) (Ending ps) b e h
st_ended s t u Over b e h = never_ends (u == t) (Some Over) b e h

abbrev hits : Option ℕ → ℕ → Bool
hits None t = false
hits (Some u) t = u == t

st_inside : (s : Sizes) (t : ℕ) (o : Option TxnState) (x : Record) (b e : Bool) → is_inside x ≡ true → Stands o b e → Stands (txn_next s t o x) (b || hits (begin_by x) t) (e || hits (ended_by x) t)
st_inside s t None x b e k h = tt
st_inside s t (Some st) (Format i n) b e k h = absurd (cc)
st_inside s t (Some st) (Begin u) b e k h = st_begin s t u st b e h
st_inside s t (Some st) (Forward u q) b e k h = same_flags _ b e (st_between s t st (Forward u q) b e refl h)
st_inside s t (Some st) (Done u c a) b e k h = same_flags _ b e (st_between s t st (Done u c a) b e refl h)
st_inside s t (Some st) (Commit u) b e k h = same_flags _ b e (st_between s t st (Commit u) b e refl h)
st_inside s t (Some st) (Ended u) b e k h = st_ended s t u st b e h
st_inside s t (Some st) (Solo u p q) b e k h = same_flags _ b e (st_between s t st (Solo u p q) b e refl h)
st_inside s t (Some st) AuditBegin b e k h = same_flags _ b e (st_between s t st AuditBegin b e refl h)
st_inside s t (Some st) (AuditClean a) b e k h = same_flags _ b e (st_between s t st (AuditClean a) b e refl h)
st_inside s t (Some st) (AuditFail a rs) b e k h = same_flags _ b e (st_between s t st (AuditFail a rs) b e refl h)
st_inside s t (Some st) (Restarted rs ds) b e k h = absurd (cc)
st_inside s t (Some st) (Back u q) b e k h = same_flags _ b e (st_between s t st (Back u q) b e refl h)

st_restart : (s : Sizes) (t : ℕ) (o : Option TxnState) (rs ds : List ℕ) → (b e : Bool) → Stands o b e → Stands (txn_next s t o (Restarted rs ds)) false false
st_restart s t None rs ds b e h = tt
st_restart s t (Some Unbegun) rs ds b e h = (refl, refl)
st_restart s t (Some (Active w)) rs ds b e h = refl
st_restart s t (Some (Ending ps)) rs ds b e h = refl
st_restart s t (Some Over) rs ds b e h = refl

-- ---- all logs
filter_hits : (h : Record → Option ℕ) (E : List Record) (x : Record) (t : ℕ) → has (filter_map h (E ++ x ∷ [])) t ≡ (has (filter_map h E) t || hits (h x) t)
filter_hits h E x t = ap (λ l. has l t) (filter_map-append h E (x ∷ [])) ∙ by_value (h x) refl
  where
    by_value : (o : Option ℕ) → h x ≡ o → has (filter_map h E ++ filter_map h (x ∷ [])) t ≡ (has (filter_map h E) t || hits o t)
    by_value None e = rw e (ap (λ l. has l t) (append-nil (filter_map h E)) ∙ sym (or-false (has (filter_map h E) t)))
    by_value (Some u) e = rw e (has_push (filter_map h E) u t)

abbrev pub StandsIn : Sizes → ℕ → List Record → Type 0
StandsIn s t L = (g : Rules) → rules_state s L ≡ Some g → Stands (txn_state s t L) (has (begun (last_epoch L).records) t) (has (ended (last_epoch L).records) t)

abbrev StandsCut : Sizes → ℕ → Option TxnState → Cut → Type 0
StandsCut s t o c = Stands o (has (begun c.now.records) t) (has (ended c.now.records) t)

stands_more : (s : Sizes) (t : ℕ) (o : Option TxnState) (c : Cut) (x : Record) → is_inside x ≡ true → StandsCut s t o c → StandsCut s t (txn_next s t o x) (cut_step c x)
stands_more s t o c x inside h =
    subst (λ (d : Cut). StandsCut s t (txn_next s t o x) d) (sym (step_inside c x inside))
    (subst (λ b. Stands (txn_next s t o x) b (has (ended (c.now.records ++ x ∷ [])) t)) (sym (filter_hits begin_by c.now.records x t))
    (subst (λ e. Stands (txn_next s t o x) (has (begun c.now.records) t || hits (begin_by x) t) e) (sym (filter_hits ended_by c.now.records x t))
    (st_inside s t o x (has (begun c.now.records) t) (has (ended c.now.records) t) inside h)))

at_format : (s : Sizes) (t : ℕ) (L : List Record) (i n : ℕ) → L ≡ [] → StandsCut s t (txn_state s t (L ++ Format i n ∷ [])) (cut (L ++ Format i n ∷ []))
at_format s t [] i n e = (refl, refl)
at_format s t (x ∷ L) i n e = absurd (cc)

stands_push : (s : Sizes) (t : ℕ) (L : List Record) (x : Record) → StandsIn s t L → StandsIn s t (L ++ x ∷ [])
stands_push s t L x ih g e = by_kind x e
  where
    more : (y : Record) → is_inside y ≡ true → rules_state s (L ++ y ∷ []) ≡ Some g → StandsCut s t (txn_state s t (L ++ y ∷ [])) (cut (L ++ y ∷ []))
    more y inside f =
        let before = rules_before s L y g f in
        subst (λ (c : Cut). StandsCut s t (txn_state s t (L ++ y ∷ [])) c) (sym (cut_push L y))
        (subst (λ o. StandsCut s t o (cut_step (cut L) y)) (sym (txn_state_push s t L y)) (stands_more s t (txn_state s t L) (cut L) y inside (ih before.0 before.1)))

    by_kind : (y : Record) → rules_state s (L ++ y ∷ []) ≡ Some g → StandsCut s t (txn_state s t (L ++ y ∷ [])) (cut (L ++ y ∷ []))
    by_kind (Format i n) f = at_format s t L i n (format_first s L i n g f)
    by_kind (Restarted rs ds) f =
        let before = rules_before s L (Restarted rs ds) g f in
        subst (λ (c : Cut). StandsCut s t (txn_state s t (L ++ Restarted rs ds ∷ [])) c) (sym (cut_push L (Restarted rs ds)))
        (subst (λ o. StandsCut s t o (cut_step (cut L) (Restarted rs ds))) (sym (txn_state_push s t L (Restarted rs ds)))
        (st_restart s t (txn_state s t L) rs ds (has (begun (last_epoch L).records) t) (has (ended (last_epoch L).records) t) (ih before.0 before.1)))
    by_kind y f = more y refl f

pub stands : (s : Sizes) (t : ℕ) (L : List Record) → StandsIn s t L
stands s t = by_push (StandsIn s t) (λ g e. (refl, refl)) (λ L x ih. stands_push s t L x ih)

-- ---- the table
running : (b e : Bool) → Runs b e → (b && not e) ≡ true
running b e h = rw (h.0, h.1) refl

not_running : (b e : Bool) → (b ≡ false) × (e ≡ false) → (b && not e) ≡ false
not_running b e h = rw h.0 refl

row_stands : (o : Option TxnState) (row : Option TxnRow) (b e : Bool) → IsRow o row → Stands o b e → is_some row ≡ (b && not e)
row_stands None row b e i h = absurd i
row_stands (Some Unbegun) row b e i h = ap is_some i ∙ sym (not_running b e h)
row_stands (Some (Active w)) row b e i h = ap is_some i.2 ∙ sym (running b e h)
row_stands (Some (Ending ps)) row b e i h = ap is_some i ∙ sym (running b e h)
row_stands (Some Over) row b e i h = ap is_some i ∙ sym h

pub holds_the_begun : HoldsTheBegun
holds_the_begun bases L c run t =
    let same = row_stands (txn_state c.system.sizes t L) _ (has (begun (last_epoch L).records) t) (has (ended (last_epoch L).records) t) (run.table t) (stands c.system.sizes t L run.counts.now run.counts.rules) in
    (λ h. sym same ∙ h, λ h. same ∙ h)

-- who runs by the rules has a Begin and no Ended
pub running_stands : (o : Option TxnState) (b e : Bool) → is_running o ≡ true → Stands o b e → (b && not e) ≡ true
running_stands None b e r h = absurd (cc)
running_stands (Some Unbegun) b e r h = absurd (cc)
running_stands (Some (Active w)) b e r h = running b e h
running_stands (Some (Ending ps)) b e r h = running b e h
running_stands (Some Over) b e r h = absurd (cc)
