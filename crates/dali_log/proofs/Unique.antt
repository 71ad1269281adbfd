-- A log of bytes is read in one way only.
use Rattle.std.proofs.Common.{◌≡◌, ◌⊎◌, inl, inr, ⊎_elim, ℕ, ◌+◌, ◌≤◌, ◌<◌, List, [], ◌∷◌, ◌++◌, length, take, drop, refl, sym, ◌∙◌, ap, subst, arith, append_assoc, length-append, take-append-drop}
use Rattle.std.specs.List.{AllByRecursion}
use Rattle.std.proofs.lemmas.List.{append-nil, take_at, drop_at, drop-drop}
use Rattle.dali_bytes.specs.Fields.{number32}
use Rattle.dali_bytes.proofs.Numbers.{length-number32}
use Rattle.dali_record.specs.declared.records.Record.{Record}
use Rattle.dali_record.specs.declared.records.Record.TheVariants.{Format}
use Rattle.dali_record.specs.Spelling.{spelling, Begins}
use Rattle.dali_record.proofs.Spelled.{one_begins}
use Rattle.dali_log.specs.Batch.{sized, batch, batches, IsBody, IsClosedAt, IsUnformatted}
use Rattle.dali_log.specs.Finding.{BatchAt, NoBatch, IsBad}
use Rattle.dali_log.specs.Log.{body_bytes, AreSpelled, bodies, HasFormat, IsFront, LogOf, NoRecordAt, BadBody, BadAt}
use Rattle.dali_log.proofs.Finds.{same_number}
use Rattle.dali_log.proofs.Fronts.{open_of_batch, front_is_formatted}

-- ---- bodies
-- one length and so many bytes begin only one way
pub same_body : (a b x y : List ℕ) → IsBody a → IsBody b → sized a ++ x ≡ sized b ++ y → (a ≡ b) × (x ≡ y)
same_body a b x y ia ib e =
    let number : number32 (length a) ≡ number32 (length b) =
    sym (take_at (number32 (length a)) (a ++ x) 4 (length-number32 (length a)))
    ∙ ap (λ (l : List ℕ). take 4 l) (sym (append_assoc (number32 (length a)) a x) ∙ e ∙ append_assoc (number32 (length b)) b y)
    ∙ take_at (number32 (length b)) (b ++ y) 4 (length-number32 (length b)) in
    let count : length a ≡ length b = same_number (length a) (length b) (omega (arith, ia.1)) (omega (arith, ib.1)) number in
    let behind : a ++ x ≡ b ++ y =
    sym (drop_at (number32 (length a)) (a ++ x) 4 (length-number32 (length a)))
    ∙ ap (λ (l : List ℕ). drop 4 l) (sym (append_assoc (number32 (length a)) a x) ∙ e ∙ append_assoc (number32 (length b)) b y)
    ∙ drop_at (number32 (length b)) (b ++ y) 4 (length-number32 (length b)) in (
      sym (take_at a x (length a) refl) ∙ ap (λ (l : List ℕ). take (length a) l) behind ∙ take_at b y (length a) (sym count),
      sym (drop_at a x (length a) refl) ∙ ap (λ (l : List ℕ). drop (length a) l) behind ∙ drop_at b y (length a) (sym count),
    )

tail_of : (x y : ℕ) (xs ys : List ℕ) → x ∷ xs ≡ y ∷ ys → xs ≡ ys
tail_of x y xs ys e = cc

pub same_batch : (a b x y : List ℕ) → IsBody a → IsBody b → batch a ++ x ≡ batch b ++ y → (a ≡ b) × (x ≡ y)
same_batch a b x y ia ib e = same_body a b x y ia ib (tail_of 165 165 (sized a ++ x) (sized b ++ y) e)

-- ---- records of a body
pub some_bytes : (r : Record) (more : List ℕ) → [] ≡ spelling r ++ more → ⊥
some_bytes (Format index heap) more e = absurd cc
some_bytes _ more e = absurd cc

-- whole records, and what is left behind records
pub front_of : (rs ss : List Record) (rest : List ℕ) → AreSpelled rs → AreSpelled ss → body_bytes rs ++ rest ≡ body_bytes ss → (later : List Record) × AreSpelled later × (ss ≡ rs ++ later) × (rest ≡ body_bytes later)
front_of [] ss rest one two e = (ss, two, refl, e)
front_of (r ∷ rs) [] rest one two e = absurd (some_bytes r (body_bytes rs ++ rest) (sym e ∙ append_assoc (spelling r) (body_bytes rs) rest))
front_of (r ∷ rs) (s ∷ ss) rest one two e =
    let first = one_begins r s (body_bytes rs ++ rest) (body_bytes ss) one.0 two.0 (sym (append_assoc (spelling r) (body_bytes rs) rest) ∙ e) in
    let ih = front_of rs ss rest one.1 two.1 first.1 in
    (ih.0, ih.1, ap (λ (q : Record). q ∷ ss) (sym first.0) ∙ ap (λ (l : List Record). r ∷ l) ih.2, ih.3)

-- the same records spell the same bytes, and no others
pub same_records : (rs ss : List Record) → AreSpelled rs → AreSpelled ss → body_bytes rs ≡ body_bytes ss → rs ≡ ss
same_records [] [] one two e = refl
same_records [] (s ∷ ss) one two e = absurd (some_bytes s (body_bytes ss) e)
same_records (r ∷ rs) [] one two e = absurd (some_bytes r (body_bytes rs) (sym e))
same_records (r ∷ rs) (s ∷ ss) one two e =
    let first = one_begins r s (body_bytes rs) (body_bytes ss) one.0 two.0 e in
    ap (λ (q : Record). q ∷ rs) first.0 ∙ ap (λ (l : List Record). s ∷ l) (same_records rs ss one.1 two.1 first.1)

-- whole records have no bad place
pub whole_is_good : (ss : List Record) (body : List ℕ) (at : ℕ) → AreSpelled ss → body ≡ body_bytes ss → NoRecordAt body at → ⊥
whole_is_good ss body at each e none = by_later (front_of none.0 ss none.1 none.2 each (sym none.3 ∙ e))
  where
    by_list : (later : List Record) → AreSpelled later → none.1 ≡ body_bytes later → ⊥
    by_list [] all is = omega (arith, none.5, ap length is)
    by_list (r ∷ later) all is = none.6 r (all.0, body_bytes later, is)

    by_later : (later : List Record) × AreSpelled later × (ss ≡ none.0 ++ later) × (none.1 ≡ body_bytes later) → ⊥
    by_later found = by_list found.0 found.1 found.3

-- where no record begins behind one row of records, no longer row begins
shorter : (rs ss : List Record) (x y : List ℕ) → AreSpelled rs → AreSpelled ss → body_bytes rs ++ x ≡ body_bytes ss ++ y → 0 < length x → ((r : Record) → Begins x r → ⊥) → length (body_bytes ss) ≤ length (body_bytes rs)
shorter [] [] x y one two e some none = omega arith
shorter [] (s ∷ ss) x y one two e some none = absurd (none s (two.0, body_bytes ss ++ y, e ∙ append_assoc (spelling s) (body_bytes ss) y))
shorter (r ∷ rs) [] x y one two e some none = omega arith
shorter (r ∷ rs) (s ∷ ss) x y one two e some none =
    let first = one_begins r s (body_bytes rs ++ x) (body_bytes ss ++ y) one.0 two.0 (sym (append_assoc (spelling r) (body_bytes rs) x) ∙ e ∙ append_assoc (spelling s) (body_bytes ss) y) in
    let ih = shorter rs ss x y one.1 two.1 first.1 some none in
    omega (arith, ih, ap (λ (q : Record). length (spelling q)) first.0, length-append (spelling r) (body_bytes rs), length-append (spelling s) (body_bytes ss))

pub same_place : (body : List ℕ) (at bt : ℕ) → NoRecordAt body at → NoRecordAt body bt → at ≡ bt
same_place body at bt a b =
    let one = shorter a.0 b.0 a.1 b.1 a.2 b.2 (sym a.3 ∙ b.3) a.5 a.6 in
    let two = shorter b.0 a.0 b.1 a.1 b.2 a.2 (sym b.3 ∙ a.3) b.5 b.6 in
    omega (arith, one, two, a.4, b.4)

pub same_within : (L : List (List Record)) (body : List ℕ) (at bt : ℕ) → BadBody L body at → BadBody L body bt → at ≡ bt
same_within [] body at bt a b = a.1 ∙ sym b.1
same_within (rs ∷ L) body at bt a b = same_place body at bt a b

-- ---- fronts
-- a batch of records stands there
abbrev pub Goes : List ℕ → Type 0
Goes x = (m : List Record) × AreSpelled m × IsBody (body_bytes m) × (rest : List ℕ) × (x ≡ batch (body_bytes m) ++ rest)

-- the same behind batches L: the first one is a format
abbrev pub GoesOn : List (List Record) → List ℕ → Type 0
GoesOn L x = Goes x × ((m : List Record) (rest : List ℕ) → AreSpelled m → IsBody (body_bytes m) → x ≡ batch (body_bytes m) ++ rest → L ≡ [] → (index heap : ℕ) × (m ≡ Format index heap ∷ []))

cons_both : {A : Type 0} (x y : A) (xs ys : List A) → x ≡ y → xs ≡ ys → x ∷ xs ≡ y ∷ ys
cons_both x y xs ys one two = ap (λ (z : _). z ∷ xs) one ∙ ap (λ (l : List _). y ∷ l) two

head_is : {A : Type 0} (x y : A) (xs ys : List A) → x ∷ xs ≡ y ∷ ys → x ≡ y
head_is x y xs ys e = cc

weak : (L M : List (List Record)) (x y : List ℕ) → AllByRecursion AreSpelled L → AllByRecursion AreSpelled M → AllByRecursion IsBody (bodies L) → AllByRecursion IsBody (bodies M)
    → batches (bodies L) ++ x ≡ batches (bodies M) ++ y → ((L ≡ M) × (x ≡ y)) ⊎ Goes x ⊎ Goes y
weak [] [] x y al am bl bm e = inl (refl, e)
weak [] (m ∷ M) x y al am bl bm e = inr (inl (m, am.0, bm.0, batches (bodies M) ++ y, e ∙ append_assoc (batch (body_bytes m)) (batches (bodies M)) y))
weak (l ∷ L) [] x y al am bl bm e = inr (inr (l, al.0, bl.0, batches (bodies L) ++ x, sym e ∙ append_assoc (batch (body_bytes l)) (batches (bodies L)) x))
weak (l ∷ L) (m ∷ M) x y al am bl bm e =
    let first = same_batch (body_bytes l) (body_bytes m) (batches (bodies L) ++ x) (batches (bodies M) ++ y) bl.0 bm.0 (sym (append_assoc (batch (body_bytes l)) (batches (bodies L)) x) ∙ e ∙ append_assoc (batch (body_bytes m)) (batches (bodies M)) y) in
    let same = same_records l m al.0 am.0 first.0 in
    ⊎_elim (λ ih. inl (cons_both l m L M same ih.0, ih.1)) (λ goes. inr goes) (weak L M x y al.1 am.1 bl.1 bm.1 first.1)

-- what stands first in one reading stands first in the other
first_format : (m n : List Record) (M : List (List Record)) (x y rest : List ℕ) → HasFormat (m ∷ M) → AreSpelled m → IsBody (body_bytes m) → x ≡ batch (body_bytes m) ++ y → AreSpelled n → IsBody (body_bytes n) → x ≡ batch (body_bytes n) ++ rest
    → (index heap : ℕ) × (n ≡ Format index heap ∷ [])
first_format m n M x y rest has am bm one an bn two =
    let bytes = same_batch (body_bytes n) (body_bytes m) rest y bn bm (sym two ∙ one) in
    (has.0, has.1, same_records n m an am bytes.0 ∙ head_is m (Format has.0 has.1 ∷ []) M has.2 has.3)

has_first : (m : List Record) (M : List (List Record)) → ((m ∷ M) ≡ []) ⊎ HasFormat (m ∷ M) → HasFormat (m ∷ M)
has_first m M (inl none) = absurd cc
has_first m M (inr has) = has

no_more : (L : List (List Record)) (l : List Record) (x : List ℕ) → Goes x → GoesOn (l ∷ L) x
no_more L l x goes = (goes, λ m rest all is e none. absurd (not_empty none))
  where
    not_empty : (l ∷ L) ≡ [] → ⊥
    not_empty none = cc

strong : (L M : List (List Record)) (x y : List ℕ) → AllByRecursion AreSpelled L → AllByRecursion AreSpelled M → AllByRecursion IsBody (bodies L) → AllByRecursion IsBody (bodies M) → (L ≡ []) ⊎ HasFormat L → (M ≡ []) ⊎ HasFormat M
    → batches (bodies L) ++ x ≡ batches (bodies M) ++ y → ((L ≡ M) × (x ≡ y)) ⊎ GoesOn L x ⊎ GoesOn M y
strong [] [] x y al am bl bm fl fm e = inl (refl, e)
strong [] (m ∷ M) x y al am bl bm fl fm e =
    let here : x ≡ batch (body_bytes m) ++ (batches (bodies M) ++ y) = e ∙ append_assoc (batch (body_bytes m)) (batches (bodies M)) y in
    inr (inl ((m, am.0, bm.0, batches (bodies M) ++ y, here), λ n rest an bn two none. first_format m n M x (batches (bodies M) ++ y) rest (has_first m M fm) am.0 bm.0 here an bn two))
strong (l ∷ L) [] x y al am bl bm fl fm e =
    let here : y ≡ batch (body_bytes l) ++ (batches (bodies L) ++ x) = sym e ∙ append_assoc (batch (body_bytes l)) (batches (bodies L)) x in
    inr (inr ((l, al.0, bl.0, batches (bodies L) ++ x, here), λ n rest an bn two none. first_format l n L y (batches (bodies L) ++ x) rest (has_first l L fl) al.0 bl.0 here an bn two))
strong (l ∷ L) (m ∷ M) x y al am bl bm fl fm e =
    ⊎_elim (λ same. inl same) (λ goes. ⊎_elim (λ one. inr (inl (no_more L l x one))) (λ two. inr (inr (no_more M m y two))) goes) (weak (l ∷ L) (m ∷ M) x y al am bl bm e)

pub two_readings : (bytes : List ℕ) (L M : List (List Record)) (p q : ℕ) → IsFront bytes L p → IsFront bytes M q → ((L ≡ M) × (p ≡ q)) ⊎ GoesOn L (drop p bytes) ⊎ GoesOn M (drop q bytes)
two_readings bytes L M p q one two =
    let whole : batches (bodies L) ++ drop p bytes ≡ batches (bodies M) ++ drop q bytes =
    ap (λ (l : List ℕ). l ++ drop p bytes) (sym one.spells) ∙ take-append-drop p bytes ∙ sym (take-append-drop q bytes) ∙ ap (λ (l : List ℕ). l ++ drop q bytes) two.spells in
    ⊎_elim (λ same. inl (same.0, one.place ∙ ap (λ (N : List (List Record)). length (batches (bodies N))) same.0 ∙ sym two.place)) (λ goes. inr goes)
    (strong L M (drop p bytes) (drop q bytes) one.each two.each one.sizes two.sizes one.first two.first whole)

-- ---- the end of a front
abbrev pub IsBadThere : List ℕ → List (List Record) → ℕ → ℕ → Type 0
IsBadThere bytes L p at = IsBad bytes p at ⊎ ((body : List ℕ) × (within : ℕ) × BatchAt bytes p body × BadBody L body within × (at ≡ p + 5 + within))

behind_gate : (bytes : List ℕ) (p : ℕ) (body rest : List ℕ) → drop p bytes ≡ batch body ++ rest → drop (p + 1) bytes ≡ sized body ++ rest
behind_gate bytes p body rest e = sym (drop-drop 1 p bytes) ∙ ap (λ (l : List ℕ). drop 1 l) e

-- a batch is no bad length
pub no_batch : (bytes : List ℕ) (p : ℕ) (body : List ℕ) → BatchAt bytes p body → NoBatch bytes p → ⊥
no_batch bytes p body found none = none.none body found.1 found.0 (behind_gate bytes p body found.1 found.2)

goes_there : (bytes : List ℕ) (p : ℕ) (goes : Goes (drop p bytes)) → BatchAt bytes p (body_bytes goes.0)
goes_there bytes p goes = (goes.2, goes.3, goes.4)

goes_not_closed : (bytes : List ℕ) (p : ℕ) → Goes (drop p bytes) → IsClosedAt p bytes → ⊥
goes_not_closed bytes p goes shut = shut.1 (open_of_batch bytes p (body_bytes goes.0) (goes_there bytes p goes)).1

good_body : (L : List (List Record)) (body : List ℕ) (within : ℕ) (m : List Record) → AreSpelled m → body ≡ body_bytes m → ((L ≡ []) → (index heap : ℕ) × (m ≡ Format index heap ∷ [])) → BadBody L body within → ⊥
good_body [] body within m all e first bad =
    let is = first refl in
    let can : AreSpelled (Format is.0 is.1 ∷ []) = subst AreSpelled is.2 all in
    bad.0 is.0 is.1 can.0 (e ∙ ap body_bytes is.2 ∙ append-nil (spelling (Format is.0 is.1)))
good_body (rs ∷ L) body within m all e first bad = whole_is_good m body within all e bad

goes_not_bad : (bytes : List ℕ) (L : List (List Record)) (p at : ℕ) → GoesOn L (drop p bytes) → IsBadThere bytes L p at → ⊥
goes_not_bad bytes L p at goes (inl (inl none)) = omega (arith, none.0, (open_of_batch bytes p (body_bytes goes.0.0) (goes_there bytes p goes.0)).0)
goes_not_bad bytes L p at goes (inl (inr none)) = no_batch bytes p (body_bytes goes.0.0) (goes_there bytes p goes.0) none.0
goes_not_bad bytes L p at goes (inr bad) =
    let m = goes.0.0 in
    let same = same_batch bad.0 (body_bytes m) bad.2.1 goes.0.3 bad.2.0 goes.0.2 (sym bad.2.2 ∙ goes.0.4) in
    good_body L bad.0 bad.1 m goes.0.1 same.0 (λ none. goes.1 m goes.0.3 goes.0.1 goes.0.2 goes.0.4 none) bad.3

closed_not_bad : (bytes : List ℕ) (L : List (List Record)) (p at : ℕ) → IsClosedAt p bytes → IsBadThere bytes L p at → ⊥
closed_not_bad bytes L p at shut (inl (inl none)) = omega (arith, none.0, shut.0)
closed_not_bad bytes L p at shut (inl (inr none)) = shut.1 none.0.gate.1
closed_not_bad bytes L p at shut (inr bad) = shut.1 (open_of_batch bytes p bad.0 bad.2).1

same_bad : (bytes : List ℕ) (L : List (List Record)) (p at bt : ℕ) → IsBadThere bytes L p at → IsBadThere bytes L p bt → at ≡ bt
same_bad bytes L p at bt (inl (inl a)) (inl (inl b)) = a.1 ∙ sym b.1
same_bad bytes L p at bt (inl (inl a)) (inl (inr b)) = absurd (omega (arith, a.0, b.0.gate.0))
same_bad bytes L p at bt (inl (inl a)) (inr b) = absurd (omega (arith, a.0, (open_of_batch bytes p b.0 b.2).0))
same_bad bytes L p at bt (inl (inr a)) (inl (inl b)) = absurd (omega (arith, b.0, a.0.gate.0))
same_bad bytes L p at bt (inl (inr a)) (inl (inr b)) = a.1 ∙ sym b.1
same_bad bytes L p at bt (inl (inr a)) (inr b) = absurd (no_batch bytes p b.0 b.2 a.0)
same_bad bytes L p at bt (inr a) (inl (inl b)) = absurd (omega (arith, b.0, (open_of_batch bytes p a.0 a.2).0))
same_bad bytes L p at bt (inr a) (inl (inr b)) = absurd (no_batch bytes p a.0 a.2 b.0)
same_bad bytes L p at bt (inr a) (inr b) =
    let same = same_batch a.0 b.0 a.2.1 b.2.1 a.2.0 b.2.0 (sym a.2.2 ∙ b.2.2) in
    let within = same_within L b.0 a.1 b.1 (subst (λ (body : List ℕ). BadBody L body a.1) same.0 a.3) b.3 in
    omega (arith, a.4, b.4, within)

-- ---- the laws
module _ (bytes : List ℕ) where
  pub one_log : (L M : List (List Record)) (e f : ℕ) → LogOf bytes L e → LogOf bytes M f → (L ≡ M) × (e ≡ f)
  one_log L M e f a b = ⊎_elim (λ same. same) (λ goes. absurd (⊎_elim (λ one. goes_not_closed bytes e one.0 a.closed) (λ two. goes_not_closed bytes f two.0 b.closed) goes)) (two_readings bytes L M e f a.front b.front)

  pub log_is_good : (L : List (List Record)) (e at : ℕ) → LogOf bytes L e → BadAt bytes at → ⊥
  log_is_good L e at a b = ⊎_elim
      (λ same. closed_not_bad bytes b.front b.place at (subst (λ (p : ℕ). IsClosedAt p bytes) same.1 a.closed) b.bad)
      (λ goes. ⊎_elim (λ one. goes_not_closed bytes e one.0 a.closed) (λ two. goes_not_bad bytes b.front b.place at two b.bad) goes) (two_readings bytes L b.front e b.place a.front b.good)

  pub one_place : (at bt : ℕ) → BadAt bytes at → BadAt bytes bt → at ≡ bt
  one_place at bt a b = ⊎_elim
      (λ same. same_bad bytes b.front b.place at bt (subst (λ (p : ℕ). IsBadThere bytes b.front p at) same.1 (subst (λ (L : List (List Record)). IsBadThere bytes L a.place at) same.0 a.bad)) b.bad)
      (λ goes. absurd (⊎_elim (λ one. goes_not_bad bytes a.front a.place at one a.bad) (λ two. goes_not_bad bytes b.front b.place bt two b.bad) goes)) (two_readings bytes a.front b.front a.place b.place a.good b.good)

  pub log_is_formatted : (L : List (List Record)) (e : ℕ) → LogOf bytes L e → IsUnformatted bytes → ⊥
  log_is_formatted L e a = front_is_formatted bytes L e a.front a.format
