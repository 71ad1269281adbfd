-- How many slots of one kind a transaction takes, and how many of its inserts are answered.
--     Tells                    which blocks take a slot, and which calls under way have taken one
--     taken_by t J             how many blocks of t in J take one
--     Tally t J x back         so many at most, where t stands at x and has taken something back that it didn't answer
use Rattle.std.proofs.Common.{◌≡◌, ℕ, ◌+◌, ◌≤◌, Bool, true, false, cond, not, List, [], ◌∷◌, ◌++◌, length, Some, None, refl, ap, sym, subst, ◌∙◌, inl, inr, arith, length-append}
use Rattle.std.specs.Prelude.{◌==◌, if◌then◌else◌, filter, sum_by}
use Rattle.std.specs.List.{cons_option}
use Rattle.std.proofs.lemmas.Bool.{and_parts, eq-eqb, eqb-true}
use Rattle.std.proofs.lemmas.List.Sums.{sum_by_push, sum_by-cons}
use Rattle.dali_geometry.specs.Sizes.{Sizes}
use Rattle.dali_record.specs.declared.operations.Block.{Block}
use Rattle.dali_record.specs.declared.operations.Pending.{Pending}
use Rattle.dali_record.specs.declared.records.Call.{Call}
use Rattle.dali_record.specs.declared.records.Answer.{Answer}
use Rattle.dali_record.specs.declared.records.Record.{Record}
use Rattle.dali_record.specs.declared.records.Record.TheVariants.{Format, Begin, Forward, Done, Commit, Ended, Solo, AuditBegin, AuditClean, AuditFail, Restarted, Back}
use Rattle.dali_record.specs.Blocks.{IsSoundOn}
use Rattle.dali_record.specs.Log.{undo_added, calls_of, call_by}
use Rattle.dali_record.specs.Epochs.{separates}
use Rattle.dali_record.specs.Calls.{Progress, Fresh, follow, answers}
use Rattle.dali_record.specs.Legal.{Working, TxnState, Unbegun, Active, Over, Committed as IsOver, concerns, is_level, is_unwinding, is_none_left}
use Rattle.dali_history.proofs.KeptLemmas.OperationsKeep.{Forwards}
use Rattle.dali_history.specs.Room.Room.{is_insert, inserts_of, unless, steady_step}
use Rattle.dali_history.proofs.RoomLemmas.Steps.{Stepped, stays, begins, goes, backs, answers as answered, commits, ends, closes, frees, alone, restarts}

-- ---- one kind of slot
abbrev pub one_if : Bool → ℕ
one_if true = 1
one_if false = 0

pub record Tells (takes : Block → ℕ) (pend : Progress → ℕ) : Type 0 where
  pub follows : (s : Sizes) (t : ℕ) (q : Progress) (b : Block) (p : Progress) → follow s t q b ≡ Some p → pend p ≡ takes b + pend q
  pub first : pend Fresh ≡ 0
  pub answered : (s : Sizes) (p : Progress) (c : Call) (a : Answer) → answers s p c a ≡ true → pend p ≤ one_if (is_insert c)
  pub undone : (ws : List ℕ) (b : Block) → IsSoundOn ws b → takes b ≤ length (undo_added b b.undo)

-- ---- counts
abbrev pub weight : (Block → ℕ) → ℕ → Record → ℕ
weight takes t (Forward u b) = if u == t then takes b else 0
weight takes t _ = 0

abbrev pub taken_by : (Block → ℕ) → ℕ → List Record → ℕ
taken_by takes t J = sum_by (weight takes t) J

abbrev pub insert_weight : ℕ → Record → ℕ
insert_weight t (Done u c a) = if u == t then one_if (is_insert c) else 0
insert_weight t _ = 0

-- inserts as a sum
none_added : (t : ℕ) (J : List Record) (x : Record) → call_by t x ≡ None → insert_weight t x ≡ 0 → inserts_of J t ≡ sum_by (insert_weight t) J → inserts_of (x ∷ J) t ≡ sum_by (insert_weight t) (x ∷ J)
none_added t J x e f ih = rw e (ih ∙ omega (arith, sum_by-cons (insert_weight t) x J, f))

pub inserts_are : (t : ℕ) (J : List Record) → inserts_of J t ≡ sum_by (insert_weight t) J
inserts_are t [] = refl
inserts_are t (Format i h ∷ J) = none_added t J (Format i h) refl refl (inserts_are t J)
inserts_are t (Begin u ∷ J) = none_added t J (Begin u) refl refl (inserts_are t J)
inserts_are t (Forward u b ∷ J) = none_added t J (Forward u b) refl refl (inserts_are t J)
inserts_are t (Done u c a ∷ J) = go (u == t) (is_insert c) (inserts_are t J) ∙ sym (sum_by-cons (insert_weight t) (Done u c a) J)
  where
    go :
        (d i : Bool) → inserts_of J t ≡ sum_by (insert_weight t) J
        → length (filter (λ p. is_insert p.0) (cons_option (if d then Some (c, a) else None) (calls_of t J))) ≡ (if d then one_if (is_insert c) else 0) + sum_by (insert_weight t) J
    go true i ih = by_call (is_insert c)
      where
        by_call : (b : Bool) → length (cond b ((c, a) ∷ filter (λ p. is_insert p.0) (calls_of t J)) (filter (λ p. is_insert p.0) (calls_of t J))) ≡ one_if b + sum_by (insert_weight t) J
        by_call true = omega (arith, ih)
        by_call false = omega (arith, ih)
    go false i ih = omega (arith, ih)
inserts_are t (Commit u ∷ J) = none_added t J (Commit u) refl refl (inserts_are t J)
inserts_are t (Ended u ∷ J) = none_added t J (Ended u) refl refl (inserts_are t J)
inserts_are t (Solo u p b ∷ J) = none_added t J (Solo u p b) refl refl (inserts_are t J)
inserts_are t (AuditBegin ∷ J) = none_added t J AuditBegin refl refl (inserts_are t J)
inserts_are t (AuditClean b ∷ J) = none_added t J (AuditClean b) refl refl (inserts_are t J)
inserts_are t (AuditFail b rs ∷ J) = none_added t J (AuditFail b rs) refl refl (inserts_are t J)
inserts_are t (Restarted rs ds ∷ J) = none_added t J (Restarted rs ds) refl refl (inserts_are t J)
inserts_are t (Back u b ∷ J) = none_added t J (Back u b) refl refl (inserts_are t J)

-- ---- records of others
others_weigh : (takes : Block → ℕ) (t : ℕ) (x : Record) → concerns t x ≡ false → (weight takes t x ≡ 0) × (insert_weight t x ≡ 0)
others_weigh takes t (Forward u b) e = (rw e refl, refl)
others_weigh takes t (Done u c a) e = (refl, rw e refl)
others_weigh takes t _ e = (refl, refl)

others_steady : (t : ℕ) (back : Bool) (x : Record) → concerns t x ≡ false → steady_step t back x ≡ Some back
others_steady t back (Forward u b) e = rw e refl
others_steady t back (Done u c a) e = rw e refl
others_steady t back (Commit u) e = rw e refl
others_steady t back (Ended u) e = rw e refl
others_steady t back (Back u b) e = rw e refl
others_steady t back _ e = refl

-- ---- what holds of one transaction
abbrev pub Little : (Block → ℕ) → ℕ → List Record → ℕ → Type 0
Little takes t J more = taken_by takes t J ≤ sum_by (insert_weight t) J + more

abbrev pub Tally : (Block → ℕ) → (Progress → ℕ) → ℕ → List Record → TxnState → Bool → Type 0
Tally takes pend t J (Active w) back = Little takes t J (pend w.progress) × (back ≡ false → pend w.progress + w.mark ≤ length w.undos)
Tally takes pend t J _ back = Little takes t J 0

module _ (takes : Block → ℕ) (pend : Progress → ℕ) (tells : Tells takes pend) (t : ℕ) (J : List Record) where
  -- one record more
  grown : (x : Record) (n m more less : ℕ) → weight takes t x ≡ n → insert_weight t x ≡ m → n + less ≤ m + more → Little takes t J less → Little takes t (J ++ x ∷ []) more
  grown x n m more less e f g h = omega (arith, sum_by_push (weight takes t) J x, sum_by_push (insert_weight t) J x, e, f, g, h)

  level_none : (w : Working) → is_level w ≡ true → length w.undos ≡ w.mark
  level_none w h = eqb-true (length w.undos) w.mark (and_parts (length w.undos == w.mark) (not (is_unwinding w.way)) h).0

  was_steady : (back : Bool) (back' : Bool) → unless back ≡ Some back' → (back ≡ false) × (back' ≡ false)
  was_steady true back' e = absurd (cc (e))
  was_steady false back' e = let same : false ≡ back' = cc (e) in (refl, sym same)

  own_unless : (back back' : Bool) → (if t == t then unless back else Some back) ≡ Some back' → (back ≡ false) × (back' ≡ false)
  own_unless back back' e = was_steady back back' (rw (eq-eqb t t refl) at e)

  -- an operation
  forward_tally : (s : Sizes) (w : Working) (b : Block) (y : TxnState) (back : Bool) → takes b ≤ length (undo_added b b.undo) → Forwards s t w b y → Tally takes pend t J (Active w) false → Tally takes pend t (J ++ Forward t b ∷ []) y back
  forward_tally s w b y back undo (p, inl a) h = subst (λ z. Tally takes pend t (J ++ Forward t b ∷ []) z back) (sym a.2)
      (grown (Forward t b) (takes b) 0 (pend p) (pend w.progress) (rw (eq-eqb t t refl) refl) refl (omega (arith, next)) h.0, λ e. omega (arith, next, undo, h.1 refl, length-append w.undos (undo_added b b.undo)))
    where
      next : pend p ≡ takes b + pend w.progress
      next = tells.follows s t w.progress b p a.1
  forward_tally s w b y back undo (p, inr a) h = subst (λ z. Tally takes pend t (J ++ Forward t b ∷ []) z back) (sym a.2)
      (grown (Forward t b) (takes b) 0 (pend p) (pend w.progress) (rw (eq-eqb t t refl) refl) refl (omega (arith, next, level_none w a.0, h.1 refl)) h.0, λ e. omega (arith, next, undo, length-append w.undos (undo_added b b.undo)))
    where
      next : pend p ≡ takes b
      next = tells.follows s t Fresh b p a.1 ∙ omega (arith, tells.first)

  -- each record
  pub tally_push :
      (s : Sizes) (x : Record) (z y : TxnState) (back back' : Bool) → separates x ≡ false
      → ((b : Block) → x ≡ Forward t b → takes b ≤ length (undo_added b b.undo))
      → Stepped s t z x y → steady_step t back x ≡ Some back' → Tally takes pend t J z back → Tally takes pend t (J ++ x ∷ []) y back'
  tally_push s x z y back back' plain undo (stays c e) f h =
      let same : back ≡ back' = let g = sym (others_steady t back x c) ∙ f in cc (g) in
      let o = others_weigh takes t x c in
      subst (λ v. Tally takes pend t (J ++ x ∷ []) v back') (sym e) (subst (λ v. Tally takes pend t (J ++ x ∷ []) z v) same (go z h o))
    where
      go : (v : TxnState) → Tally takes pend t J v back → (weight takes t x ≡ 0) × (insert_weight t x ≡ 0) → Tally takes pend t (J ++ x ∷ []) v back
      go Unbegun h o = grown x 0 0 0 0 o.0 o.1 (omega arith) h
      go (Active w) h o = (grown x 0 0 (pend w.progress) (pend w.progress) o.0 o.1 (omega arith) h.0, h.1)
      go (IsOver ps) h o = grown x 0 0 0 0 o.0 o.1 (omega arith) h
      go Over h o = grown x 0 0 0 0 o.0 o.1 (omega arith) h
  tally_push s x z y back back' plain undo (begins u r e) f h = subst (λ v. Tally takes pend t (J ++ x ∷ []) v back') (sym e)
      (subst (λ v. Little takes t (J ++ v ∷ []) (pend Fresh)) (sym r) (grown (Begin t) 0 0 (pend Fresh) 0 refl refl (omega arith) (subst (λ v. Tally takes pend t J v back) u h)), λ g. omega (arith, tells.first))
  tally_push s x z y back back' plain undo (goes w b a r g) f h =
      let steady = own_unless back back' (subst (λ v. steady_step t back v ≡ Some back') r f) in
      subst (λ v. Tally takes pend t (J ++ v ∷ []) y back') (sym r) (forward_tally s w b y back' (undo b r) g (subst (λ v. Tally takes pend t J (Active w) v) steady.0 (subst (λ v. Tally takes pend t J v back) a h)))
  tally_push s x z y back back' plain undo (backs w b p a r l i e) f h =
      let at : Some true ≡ Some back' = rw (eq-eqb t t refl) at (subst (λ v. steady_step t back v ≡ Some back') r f) in
      let yes : true ≡ back' = cc (at) in
      let was : Tally takes pend t J (Active w) back = subst (λ v. Tally takes pend t J v back) a h in
      subst (λ v. Tally takes pend t (J ++ x ∷ []) v back') (sym e)
      (subst (λ v. Little takes t (J ++ v ∷ []) (pend w.progress)) (sym r) (grown (Back t b) 0 0 (pend w.progress) (pend w.progress) refl refl (omega arith) was.0), λ g. let no : true ≡ false = yes ∙ g in absurd (cc (no)))
  tally_push s x z y back back' plain undo (answered w c k a r i e) f h =
      let was : Tally takes pend t J (Active w) back = subst (λ v. Tally takes pend t J v back) a h in
      let few : pend w.progress ≤ one_if (is_insert c) = tells.answered s w.progress c k (and_parts (answers s w.progress c k) _ i).0 in
      subst (λ v. Tally takes pend t (J ++ x ∷ []) v back') (sym e)
      (subst (λ v. Little takes t (J ++ v ∷ []) (pend Fresh)) (sym r) (grown (Done t c k) 0 (one_if (is_insert c)) (pend Fresh) (pend w.progress) refl (rw (eq-eqb t t refl) refl) (omega (arith, few)) was.0), λ g. omega (arith, tells.first))
  tally_push s x z y back back' plain undo (commits w a r l e) f h =
      let steady = own_unless back back' (subst (λ v. steady_step t back v ≡ Some back') r f) in
      let was : Tally takes pend t J (Active w) back = subst (λ v. Tally takes pend t J v back) a h in
      subst (λ v. Tally takes pend t (J ++ x ∷ []) v back') (sym e)
      (subst (λ v. Little takes t (J ++ v ∷ []) 0) (sym r) (grown (Commit t) 0 0 0 (pend w.progress) refl refl (omega (arith, was.1 steady.0, level_none w l)) was.0))
  tally_push s x z y back back' plain undo (ends w a r l e) f h =
      let steady = own_unless back back' (subst (λ v. steady_step t back v ≡ Some back') r f) in
      let was : Tally takes pend t J (Active w) back = subst (λ v. Tally takes pend t J v back) a h in
      subst (λ v. Tally takes pend t (J ++ x ∷ []) v back') (sym e)
      (subst (λ v. Little takes t (J ++ v ∷ []) 0) (sym r) (grown (Ended t) 0 0 0 (pend w.progress) refl refl (omega (arith, was.1 steady.0, none_left w.undos l)) was.0))
    where
      none_left : (ps : List Pending) → is_none_left ps ≡ true → length ps ≡ 0
      none_left [] e = refl
      none_left (p ∷ ps) e = absurd (cc (e))
  tally_push s x z y back back' plain undo (closes ps a r e) f h =
      subst (λ v. Tally takes pend t (J ++ x ∷ []) v back') (sym e)
      (subst (λ v. Little takes t (J ++ v ∷ []) 0) (sym r) (grown (Ended t) 0 0 0 0 refl refl (omega arith) (subst (λ v. Tally takes pend t J v back) a h)))
  tally_push s x z y back back' plain undo (frees u b p ps qs a r i e) f h =
      subst (λ v. Tally takes pend t (J ++ x ∷ []) v back') (sym e)
      (subst (λ v. Little takes t (J ++ v ∷ []) 0) (sym r) (grown (Solo u t b) 0 0 0 0 refl refl (omega arith) (subst (λ v. Tally takes pend t J v back) a h)))
  tally_push s x z y back back' plain undo (alone p b a r e) f h =
      subst (λ v. Tally takes pend t (J ++ x ∷ []) v back') (sym e)
      (subst (λ v. Little takes t (J ++ v ∷ []) 0) (sym r) (grown (Solo t p b) 0 0 0 0 refl refl (omega arith) (subst (λ v. Tally takes pend t J v back) a h)))
  tally_push s x z y back back' plain undo (restarts rs ds r n) f h = let no : true ≡ false = sym (ap separates r) ∙ plain in absurd (cc (no))
