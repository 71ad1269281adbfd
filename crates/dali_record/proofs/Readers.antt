-- Readers and what they read: what is taken is the spelling of the result, and what is spelled is read again.
use Rattle.std.proofs.Common.{◌≡◌, ℕ, suc, Bool, true, false, cond, ◌==◌, List, [], ◌∷◌, ◌++◌, Option, Some, None, refl, sym, ap, subst, ◌∙◌, append_assoc, inl, inr, ◌⊎◌}
use Rattle.std.proofs.lemmas.Bool.{eqb-true}
use Rattle.dali_bytes.specs.Cursor.{IsBytes}
use Rattle.dali_record.specs.Reading.{At, ◌>>=◌, only, nothing, one, two, three, tested, chosen, numbered}

pub record Takes (bytes text rest : List ℕ) : Type 0 where
  pub parts : bytes ≡ text ++ rest
  pub rest_fits : IsBytes rest

pub Takes-then : (a x b y c : List ℕ) → Takes a x b → Takes b y c → Takes a (x ++ y) c
Takes-then a x b y c p q = record { parts = p.parts ∙ ap (λ (t : List ℕ). x ++ t) q.parts ∙ sym (append_assoc x y c); rest_fits = q.rest_fits }

pub Takes-cons : (n : ℕ) (a x b : List ℕ) → Takes a x b → Takes (n ∷ a) (n ∷ x) b
Takes-cons n a x b p = record { parts = ap (λ (t : List ℕ). n ∷ t) p.parts; rest_fits = p.rest_fits }

pub IsBytes-rest : (n : ℕ) (bytes : List ℕ) → IsBytes (n ∷ bytes) → IsBytes bytes
IsBytes-rest n bytes h i = h (suc i)

-- the value of a step that did not fail
pub bind_some : {A B : Type 0} (r : Option A) (f : A → Option B) (y : B) → (r >>= f) ≡ Some y → (x : A) × (r ≡ Some x) × (f x ≡ Some y)
bind_some (Some x) f y e = (x, refl, e)
bind_some None f y e = absurd cc

pub only_some : {A : Type 0} (b : Bool) (x y : A) → only b x ≡ Some y → (b ≡ true) × (x ≡ y)
only_some true x y e = (refl, cc)
only_some false x y e = absurd cc

abbrev pub found : {A : Type 0} → A → Option A
found x = Some x

pub some_is : {A : Type 0} (x y : A) → found x ≡ Some y → x ≡ y
some_is x y e = cc

pub chosen_is : {A : Type 0} (b : Bool) (x y z : A) → cond b x y ≡ z → ((b ≡ true) × (x ≡ z)) ⊎ ((b ≡ false) × (y ≡ z))
chosen_is true x y z e = inl (refl, e)
chosen_is false x y z e = inr (refl, e)

pub record IsReader {X : Type 0} (x_at : At X) (spell : X → List ℕ) (Is : X → Type 0) : Type 0 where
  pub takes : (bytes : List ℕ) (x : X) (rest : List ℕ) → IsBytes bytes → x_at bytes ≡ Some (x, rest) → Takes bytes (spell x) rest × Is x
  pub again : (x : X) (rest : List ℕ) → Is x → x_at (spell x ++ rest) ≡ Some (x, rest)

-- ---- readers put together
pub again_1 : {X Y : Type 0} {x_at : At X} {s : X → List ℕ} {P : X → Type 0} (r : IsReader x_at s P) (f : X → Y) (x : X) (rest : List ℕ) → P x → one f x_at (s x ++ rest) ≡ Some (f x, rest)
again_1 r f x rest p = rw (r.again x rest p) refl

pub again_2 : {X Z Y : Type 0} {x_at : At X} {s : X → List ℕ} {P : X → Type 0} {z_at : At Z} {t : Z → List ℕ} {Q : Z → Type 0}
    (r : IsReader x_at s P) (q : IsReader z_at t Q) (f : X → Z → Y) (x : X) (z : Z) (rest : List ℕ) → P x → Q z → two f x_at z_at ((s x ++ t z) ++ rest) ≡ Some (f x z, rest)
again_2 {s = s} {t = t} r q f x z rest p h = rw (append_assoc (s x) (t z) rest, r.again x (t z ++ rest) p, q.again z rest h) refl

pub again_3 : {X Z W Y : Type 0} {x_at : At X} {s : X → List ℕ} {P : X → Type 0} {z_at : At Z} {t : Z → List ℕ} {Q : Z → Type 0} {w_at : At W} {u : W → List ℕ} {R : W → Type 0}
    (r : IsReader x_at s P) (q : IsReader z_at t Q) (o : IsReader w_at u R) (f : X → Z → W → Y) (x : X) (z : Z) (w : W) (rest : List ℕ) → P x → Q z → R w
    → three f x_at z_at w_at ((s x ++ (t z ++ u w)) ++ rest) ≡ Some (f x z w, rest)
again_3 {s = s} {t = t} {u = u} r q o f x z w rest p h i =
    rw (append_assoc (s x) (t z ++ u w) rest, r.again x ((t z ++ u w) ++ rest) p, append_assoc (t z) (u w) rest, q.again z (u w ++ rest) h, o.again w rest i) refl

pub takes_2 : {X Z Y : Type 0} {x_at : At X} {s : X → List ℕ} {P : X → Type 0} {z_at : At Z} {t : Z → List ℕ} {Q : Z → Type 0}
    (r : IsReader x_at s P) (q : IsReader z_at t Q) (f : X → Z → Y) (bytes : List ℕ) (y : Y) (rest : List ℕ) → IsBytes bytes → two f x_at z_at bytes ≡ Some (y, rest)
    → (x : X) × (z : Z) × (f x z ≡ y) × Takes bytes (s x ++ t z) rest × P x × Q z
takes_2 {Y = Y} {x_at = x_at} {s = s} {z_at = z_at} {t = t} r q f bytes y rest fits e =
    let a = bind_some (x_at bytes) (λ x. z_at x.1 >>= λ z. Some (f x.0 z.0, z.1)) (y, rest) e in
    let b = bind_some (z_at a.0.1) (λ z. Some (f a.0.0 z.0, z.1)) (y, rest) a.2 in
    let k = r.takes bytes a.0.0 a.0.1 fits a.1 in
    let m = q.takes a.0.1 b.0.0 b.0.1 k.0.rest_fits b.1 in
    let same = some_is (f a.0.0 b.0.0, b.0.1) (y, rest) b.2 in
    let whole = Takes-then bytes (s a.0.0) a.0.1 (t b.0.0) b.0.1 k.0 m.0 in
    (a.0.0, b.0.0, ap (λ (p : Y × List ℕ). p.0) same, subst (λ (p : Y × List ℕ). Takes bytes (s a.0.0 ++ t b.0.0) p.1) same whole, k.1, m.1)

pub one_reader : {X Y : Type 0} {x_at : At X} {s : X → List ℕ} {P : X → Type 0} (r : IsReader x_at s P) (f : X → Y) (bytes : List ℕ) (y : Y) (rest : List ℕ) → IsBytes bytes → one f x_at bytes ≡ Some (y, rest)
    → (x : X) × (f x ≡ y) × Takes bytes (s x) rest × P x
one_reader {Y = Y} {x_at = x_at} {s = s} r f bytes y rest fits e =
    let a = bind_some (x_at bytes) (λ x. Some (f x.0, x.1)) (y, rest) e in
    let k = r.takes bytes a.0.0 a.0.1 fits a.1 in
    let same = some_is (f a.0.0, a.0.1) (y, rest) a.2 in
    (a.0.0, ap (λ (p : Y × List ℕ). p.0) same, subst (λ (p : Y × List ℕ). Takes bytes (s a.0.0) p.1) same k.0, k.1)

pub takes_3 : {X Z W Y : Type 0} {x_at : At X} {s : X → List ℕ} {P : X → Type 0} {z_at : At Z} {t : Z → List ℕ} {Q : Z → Type 0} {w_at : At W} {u : W → List ℕ} {R : W → Type 0}
    (r : IsReader x_at s P) (q : IsReader z_at t Q) (o : IsReader w_at u R) (f : X → Z → W → Y) (bytes : List ℕ) (y : Y) (rest : List ℕ) → IsBytes bytes → three f x_at z_at w_at bytes ≡ Some (y, rest)
    → (x : X) × (z : Z) × (w : W) × (f x z w ≡ y) × Takes bytes (s x ++ (t z ++ u w)) rest × P x × Q z × R w
takes_3 {Y = Y} {x_at = x_at} {s = s} {z_at = z_at} {t = t} {w_at = w_at} {u = u} r q o f bytes y rest fits e =
    let a = bind_some (x_at bytes) (λ x. z_at x.1 >>= λ z. w_at z.1 >>= λ w. Some (f x.0 z.0 w.0, w.1)) (y, rest) e in
    let k = r.takes bytes a.0.0 a.0.1 fits a.1 in
    let m = takes_2 q o (λ z w. f a.0.0 z w) a.0.1 y rest k.0.rest_fits a.2 in
    (a.0.0, m.0, m.1, m.2, Takes-then bytes (s a.0.0) a.0.1 (t m.0 ++ u m.1) rest k.0 m.3, k.1, m.4, m.5)

-- ---- a test
pub tested_reader : {X : Type 0} {x_at : At X} {s : X → List ℕ} {P : X → Type 0} (r : IsReader x_at s P) (test : X → Bool) → IsReader (tested test x_at) s (λ x. P x × (test x ≡ true))
tested_reader {X = X} {x_at = x_at} {s = s} {P = P} r test = record {
  takes = λ bytes x rest fits e.
      let a = bind_some (x_at bytes) (λ y. only (test y.0) y) (x, rest) e in
      let b = only_some (test a.0.0) a.0 (x, rest) a.2 in
      let k = r.takes bytes a.0.0 a.0.1 fits a.1 in
      subst (λ (p : X × List ℕ). Takes bytes (s p.0) p.1 × (P p.0 × (test p.0 ≡ true))) b.1 (k.0, (k.1, b.0));
  again = λ x rest p. rw (r.again x rest p.0, p.1) refl;
}

-- ---- rows
pub record IsRow {Y : Type 0} (spell : Y → List ℕ) (Is : Y → Type 0) (n : ℕ) (y_at : At Y) : Type 0 where
  pub takes : (bytes : List ℕ) (y : Y) (rest : List ℕ) → IsBytes bytes → y_at bytes ≡ Some (y, rest) → Takes (n ∷ bytes) (spell y) rest × Is y

pub row_nothing : {Y : Type 0} (spell : Y → List ℕ) (Is : Y → Type 0) (n : ℕ) (y : Y) → spell y ≡ n ∷ [] → Is y → IsRow spell Is n (nothing y)
row_nothing {Y = Y} spell Is n y s h = record {
  takes = λ bytes z rest fits e.
      let same = some_is (y, bytes) (z, rest) e in
      let whole : Takes (n ∷ bytes) (spell y) bytes = record { parts = rw s refl; rest_fits = fits } in
      subst (λ (p : Y × List ℕ). Takes (n ∷ bytes) (spell p.0) p.1 × Is p.0) same (whole, h);
}

pub row_one : {X Y : Type 0} (spell : Y → List ℕ) (Is : Y → Type 0) {x_at : At X} {s : X → List ℕ} {P : X → Type 0} (n : ℕ) (f : X → Y) (r : IsReader x_at s P)
    → ((x : X) → spell (f x) ≡ n ∷ s x) → ((x : X) → P x → Is (f x)) → IsRow spell Is n (one f x_at)
row_one {Y = Y} spell Is {s = s} n f r spells is = record {
  takes = λ bytes y rest fits e.
      let k = one_reader r f bytes y rest fits e in
      let whole : Takes (n ∷ bytes) (spell (f k.0)) rest = rw (spells k.0) (Takes-cons n bytes (s k.0) rest k.2) in
      subst (λ (z : Y). Takes (n ∷ bytes) (spell z) rest × Is z) k.1 (whole, is k.0 k.3);
}

pub row_two : {X Z Y : Type 0} (spell : Y → List ℕ) (Is : Y → Type 0) {x_at : At X} {s : X → List ℕ} {P : X → Type 0} {z_at : At Z} {t : Z → List ℕ} {Q : Z → Type 0} (n : ℕ) (f : X → Z → Y)
    (r : IsReader x_at s P) (q : IsReader z_at t Q) → ((x : X) (z : Z) → spell (f x z) ≡ n ∷ (s x ++ t z)) → ((x : X) (z : Z) → P x → Q z → Is (f x z)) → IsRow spell Is n (two f x_at z_at)
row_two {Y = Y} spell Is {s = s} {t = t} n f r q spells is = record {
  takes = λ bytes y rest fits e.
      let k = takes_2 r q f bytes y rest fits e in
      let whole : Takes (n ∷ bytes) (spell (f k.0 k.1)) rest = rw (spells k.0 k.1) (Takes-cons n bytes (s k.0 ++ t k.1) rest k.3) in
      subst (λ (z : Y). Takes (n ∷ bytes) (spell z) rest × Is z) k.2 (whole, is k.0 k.1 k.4 k.5);
}

pub row_three : {X Z W Y : Type 0} (spell : Y → List ℕ) (Is : Y → Type 0) {x_at : At X} {s : X → List ℕ} {P : X → Type 0} {z_at : At Z} {t : Z → List ℕ} {Q : Z → Type 0} {w_at : At W} {u : W → List ℕ} {R : W → Type 0}
    (n : ℕ) (f : X → Z → W → Y) (r : IsReader x_at s P) (q : IsReader z_at t Q) (o : IsReader w_at u R)
    → ((x : X) (z : Z) (w : W) → spell (f x z w) ≡ n ∷ (s x ++ (t z ++ u w))) → ((x : X) (z : Z) (w : W) → P x → Q z → R w → Is (f x z w)) → IsRow spell Is n (three f x_at z_at w_at)
row_three {Y = Y} spell Is {s = s} {t = t} {u = u} n f r q o spells is = record {
  takes = λ bytes y rest fits e.
      let k = takes_3 r q o f bytes y rest fits e in
      let whole : Takes (n ∷ bytes) (spell (f k.0 k.1 k.2)) rest = rw (spells k.0 k.1 k.2) (Takes-cons n bytes (s k.0 ++ (t k.1 ++ u k.2)) rest k.4) in
      subst (λ (z : Y). Takes (n ∷ bytes) (spell z) rest × Is z) k.3 (whole, is k.0 k.1 k.2 k.5 k.6 k.7);
}

abbrev pub AreRows : {Y : Type 0} → (Y → List ℕ) → (Y → Type 0) → List (ℕ × At Y) → Type 0
AreRows spell Is [] = Unit {0}
AreRows spell Is (row ∷ rows) = IsRow spell Is row.0 row.1 × AreRows spell Is rows

pub chosen_takes : {Y : Type 0} (spell : Y → List ℕ) (Is : Y → Type 0) (rows : List (ℕ × At Y)) → AreRows spell Is rows → (n : ℕ) (bytes : List ℕ) (y : Y) (rest : List ℕ) → IsBytes bytes → chosen rows n bytes ≡ Some (y, rest)
    → Takes (n ∷ bytes) (spell y) rest × Is y
chosen_takes spell Is [] are n bytes y rest fits e = absurd cc
chosen_takes spell Is (row ∷ rows) are n bytes y rest fits e =
    elim (chosen_is (n == row.0) (row.1 bytes) (chosen rows n bytes) (Some (y, rest)) e) [
      | inl h ↦ rw (eqb-true n row.0 h.0) (are.0.takes bytes y rest fits h.1)
      | inr h ↦ chosen_takes spell Is rows are.1 n bytes y rest fits h.1
    ]

pub numbered_takes : {Y : Type 0} (spell : Y → List ℕ) (Is : Y → Type 0) (rows : List (ℕ × At Y)) → AreRows spell Is rows → (bytes : List ℕ) (y : Y) (rest : List ℕ) → IsBytes bytes → numbered rows bytes ≡ Some (y, rest)
    → Takes bytes (spell y) rest × Is y
numbered_takes spell Is rows are [] y rest fits e = absurd cc
numbered_takes spell Is rows are (n ∷ bytes) y rest fits e = chosen_takes spell Is rows are n bytes y rest (IsBytes-rest n bytes fits) e
