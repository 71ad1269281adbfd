-- Pieces that are joined, where one of them changes.
use Rattle.std.specs.Prelude.{◌⊎◌, ◌≢◌, ◌*◌, ◌==◌, if◌then◌else◌, Bool, true, false}
use Rattle.std.proofs.Common.{◌≡◌, inl, inr, ⊎_elim, ℕ, zero, suc, ◌+◌, ◌-◌, ◌≤◌, ◌<◌, List, [], ◌++◌, length, take, drop, refl, sym, ◌∙◌, ap, subst, arith, length-append, length-drop}
use Rattle.std.proofs.lemmas.List.{append-nil, take-append-le, drop-append-le}
use Rattle.std.proofs.lemmas.Bool.Decides.{nat_tests}
use Rattle.std.proofs.Math.Nat.{suc-mul}
use Rattle.std.proofs.Math.Seq.{drop-append-add}
use Rattle.dali_store.specs.Store.{Torn, Holds}
use Rattle.dali_segments.specs.Pieces.{joined}
use Rattle.dali_segments.proofs.Parts.{torn_same, torn_before, torn_behind, holds_before, holds_behind}

none_mul : (size : ℕ) → 0 * size ≡ 0
none_mul size = omega arith

-- whether a piece has this size
abbrev pub HasSize : ℕ → ℕ → Type 0
HasSize n size = (((n == size) ≡ true) × (n ≡ size)) ⊎ (((n == size) ≡ false) × (n ≢ size))

pub size_or : (n size : ℕ) → HasSize n size
size_or n size = by_test (n == size) refl
  where
    by_test : (t : Bool) → (n == size) ≡ t → (((n == size) ≡ true) × (n ≡ size)) ⊎ (((n == size) ≡ false) × (n ≢ size))
    by_test true is = inl (is, grind (arith, nat_tests))
    by_test false is = inr (is, λ same. grind (arith, nat_tests))

pub joined_none : (size : ℕ) (p : ℕ → List ℕ) (n : ℕ) → joined size p n zero ≡ []
unfolding joined
joined_none size p n = refl

joined_step : (size : ℕ) (p : ℕ → List ℕ) (n f : ℕ)
    → joined size p n (suc f) ≡ (if length (p n) == size then p n ++ joined size p (suc n) f else p n)
unfolding joined
joined_step size p n f = refl

pub joined_full : (size : ℕ) (p : ℕ → List ℕ) (n f : ℕ) → length (p n) ≡ size → joined size p n (suc f) ≡ p n ++ joined size p (suc n) f
joined_full size p n f full =
    let tested : (length (p n) == size) ≡ true = ⊎_elim (λ is. is.0) (λ no. absurd (no.1 full)) (size_or (length (p n)) size) in
    joined_step size p n f ∙ ap (λ (b : Bool). if b then p n ++ joined size p (suc n) f else p n) tested

pub joined_short : (size : ℕ) (p : ℕ → List ℕ) (n f : ℕ) → length (p n) ≢ size → joined size p n (suc f) ≡ p n
joined_short size p n f short =
    let tested : (length (p n) == size) ≡ false = ⊎_elim (λ is. absurd (short is.1)) (λ no. no.0) (size_or (length (p n)) size) in
    joined_step size p n f ∙ ap (λ (b : Bool). if b then p n ++ joined size p (suc n) f else p n) tested

-- the same pieces are joined to the same bytes
pub joined_same : (size : ℕ) (p q : ℕ → List ℕ) (n f : ℕ) → ((k : ℕ) → n ≤ k → k < n + f → q k ≡ p k) → joined size q n f ≡ joined size p n f
joined_same size p q n zero same = joined_none size q n ∙ sym (joined_none size p n)
joined_same size p q n (suc f) same =
    let here : q n ≡ p n = same n (omega arith) (omega arith) in
    let rest : joined size q (suc n) f ≡ joined size p (suc n) f = joined_same size p q (suc n) f (λ k le lt. same k (omega (arith, le)) (omega (arith, lt))) in
    joined_step size q n f
    ∙ ap (λ (l : List ℕ). if length l == size then l ++ joined size q (suc n) f else l) here
    ∙ ap (λ (l : List ℕ). if length (p n) == size then p n ++ l else p n) rest
    ∙ sym (joined_step size p n f)

-- no pieces with bytes are joined to no bytes
pub joined_empty : (size : ℕ) (p : ℕ → List ℕ) (n f : ℕ) → 1 ≤ size → ((k : ℕ) → n ≤ k → k < n + f → p k ≡ []) → joined size p n f ≡ []
joined_empty size p n zero some none = joined_none size p n
joined_empty size p n (suc f) some none =
    let here : p n ≡ [] = none n (omega arith) (omega arith) in
    joined_short size p n f (λ full. omega (arith, full, ap length here, some)) ∙ here

-- longer pieces are joined to more bytes: only those count that stand behind full ones
longer_step : (size : ℕ) (p q : ℕ → List ℕ) (n f : ℕ)
    → (length (q n) ≤ length (p n)) × (length (p n) ≤ size)
    → (length (q n) ≡ size → length (joined size q (suc n) f) ≤ length (joined size p (suc n) f))
    → HasSize (length (q n)) size → HasSize (length (p n)) size
    → length (joined size q n (suc f)) ≤ length (joined size p n (suc f))
longer_step size p q n f here rest (inl q_full) (inl p_full) = omega (
  arith,
  rest q_full.1,
  here.0,
  ap length (joined_full size q n f q_full.1),
  ap length (joined_full size p n f p_full.1),
  length-append (q n) (joined size q (suc n) f),
  length-append (p n) (joined size p (suc n) f),
)
longer_step size p q n f here rest (inl q_full) (inr p_short) = absurd (p_short.1 (omega (arith, q_full.1, here.0, here.1)))
longer_step size p q n f here rest (inr q_short) (inl p_full) = omega (
  arith,
  here.0,
  ap length (joined_short size q n f q_short.1),
  ap length (joined_full size p n f p_full.1),
  length-append (p n) (joined size p (suc n) f),
)
longer_step size p q n f here rest (inr q_short) (inr p_short) =
    omega (arith, here.0, ap length (joined_short size q n f q_short.1), ap length (joined_short size p n f p_short.1))

pub joined_longer : (size : ℕ) (p q : ℕ → List ℕ) (n f : ℕ)
    → ((k : ℕ) → n ≤ k → k < n + f → ((m : ℕ) → n ≤ m → m < k → length (q m) ≡ size) → (length (q k) ≤ length (p k)) × (length (p k) ≤ size))
    → length (joined size q n f) ≤ length (joined size p n f)
joined_longer size p q n zero longer = omega (arith, ap length (joined_none size q n))
joined_longer size p q n (suc f) longer =
    longer_step size p q n f
    (longer n (omega arith) (omega arith) (λ m from lt. absurd (omega (arith, from, lt))))
    (λ full. joined_longer size p q (suc n) f (λ k le lt before. longer k (omega (arith, le)) (omega (arith, lt)) (λ m from under. ⊎_elim
    (λ is. subst (λ (i : ℕ). length (q i) ≡ size) (sym is) full)
    (λ above. before m above under)
    (first_or m n from))))
    (size_or (length (q n)) size)
    (size_or (length (p n)) size)
  where
    first_or : (m n : ℕ) → n ≤ m → (m ≡ n) ⊎ (suc n ≤ m)
    first_or m n from = grind arith

-- what stands behind so many full pieces
pub joined_behind : (size : ℕ) (p : ℕ → List ℕ) (n c f : ℕ) → c ≤ f → ((k : ℕ) → n ≤ k → k < n + c → length (p k) ≡ size)
    → drop (c * size) (joined size p n f) ≡ joined size p (n + c) (f - c)
joined_behind size p n zero f le full =
    let here : n + zero ≡ n = omega arith in
    let size_of : f - zero ≡ f = omega arith in
    ap (λ (k : ℕ). drop k (joined size p n f)) (none_mul size)
    ∙ sym (ap (λ (k : ℕ). joined size p k (f - zero)) here ∙ ap (λ (k : ℕ). joined size p n k) size_of)
joined_behind size p n (suc c) zero le full = absurd (omega (arith, le))
joined_behind size p n (suc c) (suc f) le full =
    let first : length (p n) ≡ size = full n (omega arith) (omega arith) in
    let far : suc c * size ≡ length (p n) + c * size = omega (arith, suc-mul c size, first) in
    let next : suc n + c ≡ n + suc c = omega arith in
    let less : f - c ≡ suc f - suc c = omega arith in
    ap (λ (l : List ℕ). drop (suc c * size) l) (joined_full size p n f first)
    ∙ ap (λ (k : ℕ). drop k (p n ++ joined size p (suc n) f)) far
    ∙ drop-append-add (p n) (joined size p (suc n) f) (c * size)
    ∙ joined_behind size p (suc n) c f (omega (arith, le)) (λ k from lt. full k (omega (arith, from)) (omega (arith, lt)))
    ∙ ap (λ (k : ℕ). joined size p k (f - c)) next
    ∙ ap (λ (k : ℕ). joined size p (n + suc c) k) less

-- the first bytes of joined pieces are those of the first piece
pub joined_front : (size : ℕ) (p : ℕ → List ℕ) (n f off k : ℕ) → off + k ≤ length (p n)
    → take k (drop off (joined size p n (suc f))) ≡ take k (drop off (p n))
joined_front size p n f off k inside = ⊎_elim
    (λ is.
    ap (λ (l : List ℕ). take k (drop off l)) (joined_full size p n f is.1)
    ∙ ap (λ (l : List ℕ). take k l) (drop-append-le off (p n) (joined size p (suc n) f) (omega (arith, inside)))
    ∙ take-append-le k (drop off (p n)) (joined size p (suc n) f) (omega (arith, inside, length-drop off (p n))))
    (λ is. ap (λ (l : List ℕ). take k (drop off l)) (joined_short size p n f is.1))
    (size_or (length (p n)) size)

-- pieces of which one was written to
module _ (size : ℕ) (some : 1 ≤ size) (p q : ℕ → List ℕ) (at m : ℕ) (inside : at + m ≤ size) where
  -- a write to the first one
  torn_first : (n f : ℕ) → ((k : ℕ) → n < k → k < n + suc f → q k ≡ p k) → Torn at m (p n) (q n) → length (p n) ≤ size
      → (length (p n) ≡ size) ⊎ ((k : ℕ) → n < k → k < n + suc f → p k ≡ []) → Torn at m (joined size p n (suc f)) (joined size q n (suc f))
  torn_first n f same torn le is = by_size (size_or (length (p n)) size) (size_or (length (q n)) size)
    where
      same_rest : joined size q (suc n) f ≡ joined size p (suc n) f
      same_rest = joined_same size p q (suc n) f (λ k from lt. same k (omega (arith, from)) (omega (arith, lt)))

      both : (xs ys : List ℕ) → joined size p n (suc f) ≡ xs → joined size q n (suc f) ≡ ys → Torn at m xs ys
          → Torn at m (joined size p n (suc f)) (joined size q n (suc f))
      both xs ys one two step =
          subst (λ (l : List ℕ). Torn at m l (joined size q n (suc f))) (sym one) (subst (λ (l : List ℕ). Torn at m xs l) (sym two) step)

      empty_rest : length (p n) ≢ size → joined size p (suc n) f ≡ []
      empty_rest short = ⊎_elim
          (λ full. absurd (short full))
          (λ none. joined_empty size p (suc n) f some (λ k from lt. none k (omega (arith, from)) (omega (arith, lt))))
          is

      by_size : (((length (p n) == size) ≡ true) × (length (p n) ≡ size)) ⊎ (((length (p n) == size) ≡ false) × (length (p n) ≢ size))
          → (((length (q n) == size) ≡ true) × (length (q n) ≡ size)) ⊎ (((length (q n) == size) ≡ false) × (length (q n) ≢ size))
          → Torn at m (joined size p n (suc f)) (joined size q n (suc f))
      by_size (inl p_full) (inl q_full) = both (p n ++ joined size p (suc n) f) (q n ++ joined size p (suc n) f)
          (joined_full size p n f p_full.1)
          (joined_full size q n f q_full.1 ∙ ap (λ (l : List ℕ). q n ++ l) same_rest)
          (torn_before (joined size p (suc n) f) at m (p n) (q n) (omega (arith, p_full.1, inside)) torn)
      by_size (inl p_full) (inr q_short) = absurd (q_short.1 (omega (arith, p_full.1, torn.no_shorter, torn.no_longer, inside)))
      by_size (inr p_short) (inl q_full) = both (p n) (q n)
          (joined_short size p n f p_short.1)
          (joined_full size q n f q_full.1 ∙ ap (λ (l : List ℕ). q n ++ l) (same_rest ∙ empty_rest p_short.1) ∙ append-nil (q n))
          torn
      by_size (inr p_short) (inr q_short) = both (p n) (q n) (joined_short size p n f p_short.1) (joined_short size q n f q_short.1) torn

  torn_both : (n f i j : ℕ) (xs ys : List ℕ) → i ≡ j → joined size p n f ≡ xs → joined size q n f ≡ ys → Torn i m xs ys
      → Torn j m (joined size p n f) (joined size q n f)
  torn_both n f i j xs ys place one two step =
      subst (λ (l : List ℕ). Torn j m l (joined size q n f)) (sym one)
      (subst (λ (l : List ℕ). Torn j m xs l) (sym two) (subst (λ (k : ℕ). Torn k m xs ys) place step))

  torn_step : (n c f : ℕ) → q n ≡ p n → Torn (c * size + at) m (joined size p (suc n) f) (joined size q (suc n) f)
      → HasSize (length (p n)) size → Torn (suc c * size + at) m (joined size p n (suc f)) (joined size q n (suc f))
  torn_step n c f first rest (inl full) =
      torn_both n (suc f) (length (p n) + (c * size + at)) (suc c * size + at)
      (p n ++ joined size p (suc n) f) (p n ++ joined size q (suc n) f)
      (omega (arith, full.1, suc-mul c size))
      (joined_full size p n f full.1)
      (joined_full size q n f (ap length first ∙ full.1) ∙ ap (λ (l : List ℕ). l ++ joined size q (suc n) f) first)
      (torn_behind (p n) (c * size + at) m (joined size p (suc n) f) (joined size q (suc n) f) rest)
  torn_step n c f first rest (inr short) =
      torn_both n (suc f) (suc c * size + at) (suc c * size + at) (p n) (p n) refl
      (joined_short size p n f short.1)
      (joined_short size q n f (λ full. short.1 (sym (ap length first) ∙ full)) ∙ first)
      (torn_same (suc c * size + at) m (p n))

  -- a write to one behind so many others
  pub torn_joined : (n c f : ℕ) → c < f → ((k : ℕ) → n ≤ k → k < n + f → k ≢ n + c → q k ≡ p k) → Torn at m (p (n + c)) (q (n + c)) → length (p (n + c)) ≤ size
      → (length (p (n + c)) ≡ size) ⊎ ((k : ℕ) → n + c < k → k < n + f → p k ≡ [])
      → Torn (c * size + at) m (joined size p n f) (joined size q n f)
  torn_joined n c zero below same torn le is = absurd (omega (arith, below))
  torn_joined n zero (suc f) below same torn le is =
      let here : n + zero ≡ n = omega arith in
      let place : at ≡ zero * size + at = omega (arith, none_mul size) in
      subst (λ (k : ℕ). Torn k m (joined size p n (suc f)) (joined size q n (suc f))) place
      (
      torn_first n f
      (λ k from lt. same k (omega (arith, from)) lt (λ same_place. omega (arith, same_place, from)))
      (subst (λ (k : ℕ). Torn at m (p k) (q k)) here torn)
      (subst (λ (k : ℕ). length (p k) ≤ size) here le)
      (⊎_elim (λ full. inl (subst (λ (k : ℕ). length (p k) ≡ size) here full)) (λ none. inr (λ k from lt. none k (omega (arith, from)) lt)) is)
      )
  torn_joined n (suc c) (suc f) below same torn le is =
      let next : n + suc c ≡ suc n + c = omega arith in
      torn_step n c f
      (same n (omega arith) (omega arith) (λ here. omega (arith, here)))
      (
      torn_joined (suc n) c f (omega (arith, below))
      (λ k from lt differs. same k (omega (arith, from)) (omega (arith, lt)) (λ here. differs (omega (arith, here))))
      (subst (λ (k : ℕ). Torn at m (p k) (q k)) next torn)
      (subst (λ (k : ℕ). length (p k) ≤ size) next le)
      (⊎_elim (λ full. inl (subst (λ (k : ℕ). length (p k) ≡ size) next full)) (λ none. inr (λ k from lt. none k (omega (arith, from)) (omega (arith, lt)))) is)
      )
      (size_or (length (p n)) size)

  -- and the bytes that it holds, where the others before it are full
  holds_first : (bytes : List ℕ) → length bytes ≡ m → (n f : ℕ) → ((k : ℕ) → n < k → k < n + suc f → q k ≡ p k) → Holds (p n) at bytes (q n)
      → Torn at m (p n) (q n) → length (p n) ≤ size
      → (length (p n) ≡ size) ⊎ ((k : ℕ) → n < k → k < n + suc f → p k ≡ []) → Holds (joined size p n (suc f)) at bytes (joined size q n (suc f))
  holds_first bytes long n f same holds torn le is = by_size (size_or (length (p n)) size) (size_or (length (q n)) size)
    where
      same_rest : joined size q (suc n) f ≡ joined size p (suc n) f
      same_rest = joined_same size p q (suc n) f (λ k from lt. same k (omega (arith, from)) (omega (arith, lt)))

      both : (xs ys : List ℕ) → joined size p n (suc f) ≡ xs → joined size q n (suc f) ≡ ys → Holds xs at bytes ys
          → Holds (joined size p n (suc f)) at bytes (joined size q n (suc f))
      both xs ys one two step =
          subst (λ (l : List ℕ). Holds l at bytes (joined size q n (suc f))) (sym one) (subst (λ (l : List ℕ). Holds xs at bytes l) (sym two) step)

      empty_rest : length (p n) ≢ size → joined size p (suc n) f ≡ []
      empty_rest short = ⊎_elim
          (λ full. absurd (short full))
          (λ none. joined_empty size p (suc n) f some (λ k from lt. none k (omega (arith, from)) (omega (arith, lt))))
          is

      by_size : HasSize (length (p n)) size → HasSize (length (q n)) size → Holds (joined size p n (suc f)) at bytes (joined size q n (suc f))
      by_size (inl p_full) (inl q_full) = both (p n ++ joined size p (suc n) f) (q n ++ joined size p (suc n) f)
          (joined_full size p n f p_full.1)
          (joined_full size q n f q_full.1 ∙ ap (λ (l : List ℕ). q n ++ l) same_rest)
          (holds_before (joined size p (suc n) f) at bytes (p n) (q n) (omega (arith, p_full.1, inside, long)) holds)
      by_size (inl p_full) (inr q_short) = absurd (q_short.1 (omega (arith, p_full.1, torn.no_shorter, torn.no_longer, inside)))
      by_size (inr p_short) (inl q_full) = both (p n) (q n)
          (joined_short size p n f p_short.1)
          (joined_full size q n f q_full.1 ∙ ap (λ (l : List ℕ). q n ++ l) (same_rest ∙ empty_rest p_short.1) ∙ append-nil (q n))
          holds
      by_size (inr p_short) (inr q_short) = both (p n) (q n) (joined_short size p n f p_short.1) (joined_short size q n f q_short.1) holds

  holds_step : (bytes : List ℕ) (n c f : ℕ) → q n ≡ p n → length (p n) ≡ size → Holds (joined size p (suc n) f) (c * size + at) bytes (joined size q (suc n) f)
      → Holds (joined size p n (suc f)) (suc c * size + at) bytes (joined size q n (suc f))
  holds_step bytes n c f first full rest =
      let place : length (p n) + (c * size + at) ≡ suc c * size + at = omega (arith, full, suc-mul c size) in
      subst (λ (l : List ℕ). Holds l (suc c * size + at) bytes (joined size q n (suc f))) (sym (joined_full size p n f full))
      (
      subst (λ (l : List ℕ). Holds (p n ++ joined size p (suc n) f) (suc c * size + at) bytes l)
      (sym (joined_full size q n f (ap length first ∙ full) ∙ ap (λ (l : List ℕ). l ++ joined size q (suc n) f) first))
      (
      subst (λ (k : ℕ). Holds (p n ++ joined size p (suc n) f) k bytes (p n ++ joined size q (suc n) f)) place
      (holds_behind (p n) (c * size + at) bytes (joined size p (suc n) f) (joined size q (suc n) f) rest)
      )
      )

  pub holds_joined : (bytes : List ℕ) → length bytes ≡ m → (n c f : ℕ) → c < f → ((k : ℕ) → n ≤ k → k < n + c → length (p k) ≡ size)
      → ((k : ℕ) → n ≤ k → k < n + f → k ≢ n + c → q k ≡ p k) → Holds (p (n + c)) at bytes (q (n + c)) → Torn at m (p (n + c)) (q (n + c)) → length (p (n + c)) ≤ size
      → (length (p (n + c)) ≡ size) ⊎ ((k : ℕ) → n + c < k → k < n + f → p k ≡ [])
      → Holds (joined size p n f) (c * size + at) bytes (joined size q n f)
  holds_joined bytes long n c zero below full same holds torn le is = absurd (omega (arith, below))
  holds_joined bytes long n zero (suc f) below full same holds torn le is =
      let here : n + zero ≡ n = omega arith in
      let place : at ≡ zero * size + at = omega (arith, none_mul size) in
      subst (λ (k : ℕ). Holds (joined size p n (suc f)) k bytes (joined size q n (suc f))) place
      (
      holds_first bytes long n f
      (λ k from lt. same k (omega (arith, from)) lt (λ same_place. omega (arith, same_place, from)))
      (subst (λ (k : ℕ). Holds (p k) at bytes (q k)) here holds)
      (subst (λ (k : ℕ). Torn at m (p k) (q k)) here torn)
      (subst (λ (k : ℕ). length (p k) ≤ size) here le)
      (⊎_elim (λ full. inl (subst (λ (k : ℕ). length (p k) ≡ size) here full)) (λ none. inr (λ k from lt. none k (omega (arith, from)) lt)) is)
      )
  holds_joined bytes long n (suc c) (suc f) below full same holds torn le is =
      let next : n + suc c ≡ suc n + c = omega arith in
      holds_step bytes n c f
      (same n (omega arith) (omega arith) (λ here. omega (arith, here)))
      (full n (omega arith) (omega arith))
      (
      holds_joined bytes long (suc n) c f (omega (arith, below))
      (λ k from lt. full k (omega (arith, from)) (omega (arith, lt)))
      (λ k from lt differs. same k (omega (arith, from)) (omega (arith, lt)) (λ here. differs (omega (arith, here))))
      (subst (λ (k : ℕ). Holds (p k) at bytes (q k)) next holds)
      (subst (λ (k : ℕ). Torn at m (p k) (q k)) next torn)
      (subst (λ (k : ℕ). length (p k) ≤ size) next le)
      (⊎_elim (λ full. inl (subst (λ (k : ℕ). length (p k) ≡ size) next full)) (λ none. inr (λ k from lt. none k (omega (arith, from)) (omega (arith, lt)))) is)
      )

-- how long so many full pieces and another one are
pub length_joined : (size : ℕ) → 1 ≤ size → (p : ℕ → List ℕ) (n c f : ℕ) → c < f → ((k : ℕ) → n ≤ k → k < n + c → length (p k) ≡ size)
    → (length (p (n + c)) ≢ size) ⊎ ((k : ℕ) → n + c < k → k < n + f → p k ≡ []) → length (joined size p n f) ≡ c * size + length (p (n + c))
length_joined size some p n c zero below full none = absurd (omega (arith, below))
length_joined size some p n zero (suc f) below full none =
    let here : n + zero ≡ n = omega arith in
    let rest : length (p n) ≡ size → joined size p (suc n) f ≡ [] = λ is. ⊎_elim
    (λ short. absurd (short (ap (λ (k : ℕ). length (p k)) here ∙ is)))
    (λ empty. joined_empty size p (suc n) f some (λ k from lt. empty k (omega (arith, from)) (omega (arith, lt))))
    none in
    ⊎_elim
    (λ is. ap length (joined_full size p n f is.1 ∙ ap (λ (l : List ℕ). p n ++ l) (rest is.1) ∙ append-nil (p n)))
    (λ is. ap length (joined_short size p n f is.1))
    (size_or (length (p n)) size)
    ∙ ap (λ (k : ℕ). length (p k)) (sym here)
    ∙ omega (arith, none_mul size)
length_joined size some p n (suc c) (suc f) below full none =
    let next : suc n + c ≡ n + suc c = omega arith in
    let rest : length (joined size p (suc n) f) ≡ c * size + length (p (suc n + c)) = length_joined size some p (suc n) c f (omega (arith, below))
    (λ k from lt. full k (omega (arith, from)) (omega (arith, lt)))
    (⊎_elim
    (λ short. inl (λ is. short (ap (λ (k : ℕ). length (p k)) (sym next) ∙ is)))
    (λ empty. inr (λ k from lt. empty k (omega (arith, from)) (omega (arith, lt))))
    none) in
    let here : length (p n) ≡ size = full n (omega arith) (omega arith) in
    ap length (joined_full size p n f here)
    ∙ length-append (p n) (joined size p (suc n) f)
    ∙ omega (arith, here, rest, suc-mul c size, ap (λ (k : ℕ). length (p k)) next)
