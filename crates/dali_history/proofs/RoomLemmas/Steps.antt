-- How a record moves a transaction, where solos may be missing.
use Rattle.std.proofs.Common.{◌≡◌, ℕ, Bool, true, false, not, List, [], ◌∷◌, Some, None, refl, ap, sym, subst, ◌∙◌}
use Rattle.std.specs.Prelude.{◌==◌, ◌&&◌, if◌then◌else◌}
use Rattle.std.proofs.lemmas.Bool.{eqb-true, eq-eqb}
use Rattle.dali_geometry.specs.Sizes.{Sizes}
use Rattle.dali_record.specs.declared.operations.Pending.{Pending}
use Rattle.dali_record.specs.declared.operations.Block.{Block}
use Rattle.dali_record.specs.declared.records.Call.{Call}
use Rattle.dali_record.specs.declared.records.Answer.{Answer}
use Rattle.dali_record.specs.declared.records.Record.{Record}
use Rattle.dali_record.specs.declared.records.Record.TheVariants.{Format, Begin, Forward, Done, Commit, Ended, Solo, AuditBegin, AuditClean, AuditFail, Restarted, Back}
use Rattle.dali_record.specs.Operations.{undo_op}
use Rattle.dali_record.specs.Log.{drop_last, last_of}
use Rattle.dali_record.specs.Calls.{Fresh}
use Rattle.dali_record.specs.Legal.{Working, Onward, TxnState, Unbegun, Active, Over, Committed as IsOver, concerns, allowed, is_answer, is_level, is_none_left, is_of, dead_of, rested, way_back, freeing_op}
use Rattle.dali_record.proofs.Moves.{some_state}
use Rattle.dali_history.specs.Kept.Kept.{kept_step, freed_later}
use Rattle.dali_history.proofs.KeptLemmas.OperationsKeep.{Forwards, forward_is}
use Rattle.dali_history.proofs.KeptLemmas.KnownTxns.{is_allowed, back_is}
use Rattle.dali_history.proofs.KeptLemmas.InvariantAlong.{step_beside, forward_state, back_state, commit_state, done_state, refused}

abbrev pub fresh : Working
fresh = record { undos = []; mark = 0; progress = Fresh; way = Onward }

abbrev pub taken_back : Working → Working
taken_back w = record { undos = drop_last w.undos; mark = w.mark; progress = w.progress; way = way_back w }

pub data Stepped (s : Sizes) (t : ℕ) (x : TxnState) (r : Record) (y : TxnState) : Type 0 where
  stays : concerns t r ≡ false → y ≡ x → Stepped s t x r y
  begins : x ≡ Unbegun → r ≡ Begin t → y ≡ Active fresh → Stepped s t x r y
  goes : (w : Working) → (b : Block) → x ≡ Active w → r ≡ Forward t b → Forwards s t w b y → Stepped s t x r y
  backs : (w : Working) → (b : Block) → (p : Pending) → x ≡ Active w → r ≡ Back t b → last_of w.undos ≡ Some p → is_of (undo_op p.undo) p b ≡ true → y ≡ Active (taken_back w) → Stepped s t x r y
  answers : (w : Working) → (c : Call) → (a : Answer) → x ≡ Active w → r ≡ Done t c a → is_answer s w c a ≡ true → y ≡ rested w → Stepped s t x r y
  commits : (w : Working) → x ≡ Active w → r ≡ Commit t → is_level w ≡ true → y ≡ IsOver (dead_of w.undos) → Stepped s t x r y
  ends : (w : Working) → x ≡ Active w → r ≡ Ended t → is_none_left w.undos ≡ true → y ≡ Over → Stepped s t x r y
  closes : (ps : List Pending) → x ≡ IsOver ps → r ≡ Ended t → y ≡ Over → Stepped s t x r y
  -- a solo that frees for t, and one with this number
  frees : (u : ℕ) → (b : Block) → (p : Pending) → (ps qs : List Pending) → x ≡ IsOver ps → r ≡ Solo u t b → is_of (freeing_op p.undo) p b ≡ true → y ≡ IsOver qs → Stepped s t x r y
  alone : (p : ℕ) → (b : Block) → x ≡ Unbegun → r ≡ Solo t p b → y ≡ Over → Stepped s t x r y
  restarts : (rs ds : List ℕ) → r ≡ Restarted rs ds → ((w : Working) → y ≡ Active w → ⊥) → Stepped s t x r y

-- ---- own records
begin_step : (s : Sizes) (t : ℕ) (x y : TxnState) → kept_step s t x (Begin t) ≡ Some y → (x ≡ Unbegun) × (y ≡ Active fresh)
begin_step s t Unbegun y e = let f : Some (Active fresh) ≡ Some y = rw (eq-eqb t t refl) at e in (refl, some_state _ y f)
begin_step s t (Active w) y e = absurd (refused t (Active w) y e)
begin_step s t (IsOver ps) y e = absurd (refused t (IsOver ps) y e)
begin_step s t Over y e = absurd (refused t Over y e)

ended_step : (s : Sizes) (t : ℕ) (x y : TxnState) → kept_step s t x (Ended t) ≡ Some y → Stepped s t x (Ended t) y
ended_step s t Unbegun y e = absurd (refused t Unbegun y e)
ended_step s t (Active w) y e = let f : allowed (is_none_left w.undos) (Some Over) ≡ Some y = rw (eq-eqb t t refl) at e in let g = is_allowed (is_none_left w.undos) Over y f in ends w refl refl g.0 (sym g.1)
ended_step s t (IsOver ps) y e = let f : Some Over ≡ Some y = rw (eq-eqb t t refl) at e in closes ps refl refl (some_state Over y f)
ended_step s t Over y e = absurd (refused t Over y e)

freed_of : (b : Block) (ps : List Pending) (y : TxnState) → freed_later b ps ≡ Some y → (p : Pending) × (qs : List Pending) × (is_of (freeing_op p.undo) p b ≡ true) × (y ≡ IsOver qs)
freed_of b [] y e = absurd (cc (e))
freed_of b (p ∷ ps) y e = go (is_of (freeing_op p.undo) p b) refl e (freed_of b ps y)
  where
    go :
        (c : Bool) → is_of (freeing_op p.undo) p b ≡ c → (if c then Some (IsOver ps) else freed_later b ps) ≡ Some y
        → (freed_later b ps ≡ Some y → (p : Pending) × (qs : List Pending) × (is_of (freeing_op p.undo) p b ≡ true) × (y ≡ IsOver qs))
        → (p : Pending) × (qs : List Pending) × (is_of (freeing_op p.undo) p b ≡ true) × (y ≡ IsOver qs)
    go true f g later = (p, ps, f, some_state _ y g)
    go false f g later = later g

-- a solo that frees for t
abbrev pub HasFreed : Block → TxnState → TxnState → Type 0
HasFreed b x y = (ps qs : List Pending) × (p : Pending) × (x ≡ IsOver ps) × (is_of (freeing_op p.undo) p b ≡ true) × (y ≡ IsOver qs)

pub solo_frees : (s : Sizes) (t u : ℕ) (b : Block) (x y : TxnState) → kept_step s t x (Solo u t b) ≡ Some y → HasFreed b x y
solo_frees s t u b Unbegun y e = go (u == t) e
  where
    go : (c : Bool) → (if c then allowed (not (t == t)) (Some Over) else allowed (not (t == t)) (Some Unbegun)) ≡ Some y → HasFreed b Unbegun y
    go true f = absurd (refused t Over y f)
    go false f = absurd (refused t Unbegun y f)
solo_frees s t u b (Active w) y e = go (u == t) (rw (eq-eqb t t refl) at e)
  where
    go : (c : Bool) → allowed (not c && false) (Some (Active w)) ≡ Some y → HasFreed b (Active w) y
    go true f = absurd (cc (f))
    go false f = absurd (cc (f))
solo_frees s t u b (IsOver ps) y e = go (u == t) (rw (eq-eqb t t refl) at e)
  where
    go : (c : Bool) → allowed (not c) (freed_later b ps) ≡ Some y → HasFreed b (IsOver ps) y
    go true f = absurd (cc (f))
    go false f = let g = freed_of b ps y f in (ps, g.1, g.0, refl, g.2, g.3)
solo_frees s t u b Over y e = go (u == t) (rw (eq-eqb t t refl) at e)
  where
    go : (c : Bool) → allowed (not c && false) (Some Over) ≡ Some y → HasFreed b Over y
    go true f = absurd (cc (f))
    go false f = absurd (cc (f))

-- one with this number
solo_own : (s : Sizes) (t p : ℕ) (b : Block) (x y : TxnState) → kept_step s t x (Solo t p b) ≡ Some y → Stepped s t x (Solo t p b) y
solo_own s t p b Unbegun y e = go (p == t) (rw (eq-eqb t t refl) at e)
  where
    go : (c : Bool) → allowed (not c) (Some Over) ≡ Some y → Stepped s t Unbegun (Solo t p b) y
    go true f = absurd (cc (f))
    go false f = alone p b refl refl (some_state Over y f)
solo_own s t p b (Active w) y e = let f : None ≡ Some y = rw (eq-eqb t t refl) at e in absurd (cc (f))
solo_own s t p b (IsOver ps) y e = let f : None ≡ Some y = rw (eq-eqb t t refl) at e in absurd (cc (f))
solo_own s t p b Over y e = let f : None ≡ Some y = rw (eq-eqb t t refl) at e in absurd (cc (f))

restarted : (s : Sizes) (t : ℕ) (x y : TxnState) (rs ds : List ℕ) → kept_step s t x (Restarted rs ds) ≡ Some y → (w : Working) → y ≡ Active w → ⊥
restarted s t Unbegun y rs ds e w f = let g : y ≡ Unbegun = some_state Unbegun y e in let h : Active w ≡ Unbegun = sym f ∙ g in cc (h)
restarted s t (Active v) y rs ds e w f = let g : y ≡ Over = some_state Over y e in let h : Active w ≡ Over = sym f ∙ g in cc (h)
restarted s t (IsOver ps) y rs ds e w f = let g : y ≡ Over = some_state Over y e in let h : Active w ≡ Over = sym f ∙ g in cc (h)
restarted s t Over y rs ds e w f = let g : y ≡ Over = some_state Over y e in let h : Active w ≡ Over = sym f ∙ g in cc (h)

-- ---- each record
pub stepped : (s : Sizes) (t : ℕ) (x : TxnState) (r : Record) (y : TxnState) → kept_step s t x r ≡ Some y → Stepped s t x r y
stepped s t x r y e = by_concern (concerns t r) refl
  where
    own : (r : Record) → concerns t r ≡ true → kept_step s t x r ≡ Some y → Stepped s t x r y
    own (Format i h) c e = absurd (cc (c))
    own (Begin u) c e = let at = eqb-true u t c in let f = begin_step s t x y (subst (λ z. kept_step s t x (Begin z) ≡ Some y) at e) in begins f.0 (ap Begin at) f.1
    own (Forward u b) c e =
        let at = eqb-true u t c in
        let f = forward_state s t x y b (subst (λ z. kept_step s t x (Forward z b) ≡ Some y) at e) in
        goes f.0 b f.1 (ap (λ z. Forward z b) at) (forward_is s t f.0 b y f.2)
    own (Done u k a) c e =
        let at = eqb-true u t c in
        let f = done_state s t x y k a (subst (λ z. kept_step s t x (Done z k a) ≡ Some y) at e) in
        let g = is_allowed (is_answer s f.0 k a) (rested f.0) y f.2 in
        answers f.0 k a f.1 (ap (λ z. Done z k a) at) g.0 (sym g.1)
    own (Commit u) c e =
        let at = eqb-true u t c in
        let f = commit_state s t x y (subst (λ z. kept_step s t x (Commit z) ≡ Some y) at e) in
        let g = is_allowed (is_level f.0) (IsOver (dead_of f.0.undos)) y f.2 in
        commits f.0 f.1 (ap Commit at) g.0 (sym g.1)
    own (Ended u) c e =
        let at = eqb-true u t c in
        subst (λ z. Stepped s t x (Ended z) y) (sym at) (ended_step s t x y (subst (λ z. kept_step s t x (Ended z) ≡ Some y) at e))
    own (Solo u p b) c e = by_number (u == t) refl
      where
        by_number : (d : Bool) → (u == t) ≡ d → Stepped s t x (Solo u p b) y
        by_number true f = let at = eqb-true u t f in subst (λ z. Stepped s t x (Solo z p b) y) (sym at) (solo_own s t p b x y (subst (λ z. kept_step s t x (Solo z p b) ≡ Some y) at e))
        by_number false f =
            let g : (p == t) ≡ true = rw f at c in
            let at = eqb-true p t g in
            let f = solo_frees s t u b x y (subst (λ z. kept_step s t x (Solo u z b) ≡ Some y) at e) in
            frees u b f.2 f.0 f.1 f.3 (ap (λ z. Solo u z b) at) f.4 f.5
    own AuditBegin c e = absurd (cc (c))
    own (AuditClean b) c e = absurd (cc (c))
    own (AuditFail b rs) c e = absurd (cc (c))
    own (Restarted rs ds) c e = restarts rs ds refl (restarted s t x y rs ds e)
    own (Back u b) c e =
        let at = eqb-true u t c in
        let f = back_state s t x y b (subst (λ z. kept_step s t x (Back z b) ≡ Some y) at e) in
        let g = back_is f.0 b (last_of f.0.undos) y f.2 in
        backs f.0 b g.0 f.1 (ap (λ z. Back z b) at) g.1 g.2 (sym g.3)

    by_concern : (c : Bool) → concerns t r ≡ c → Stepped s t x r y
    by_concern true c = own r c e
    by_concern false c = stays c (some_state x y (sym (step_beside s t x r c) ∙ e))
