-- A part of a file that is written, and what of the whole.
use Rattle.std.proofs.Common.{◌≡◌, ℕ, ◌+◌, ◌-◌, ◌≤◌, List, ◌++◌, length, take, drop, refl, sym, ◌∙◌, ap, subst, arith, append_assoc, length-append}
use Rattle.std.proofs.lemmas.List.{take-take, take-append-le, drop-append-le, drop-drop, take_at, length-take-le}
use Rattle.std.proofs.Math.Seq.{take-append-add, drop-append-add}
use Rattle.dali_store.specs.Store.{Torn, Holds}

take_below : (n m : ℕ) (xs ys : List ℕ) → n ≤ m → take m xs ≡ take m ys → take n xs ≡ take n ys
take_below n m xs ys le same = sym (take-take n m xs le) ∙ ap (λ (l : List ℕ). take n l) same ∙ take-take n m ys le

pub drop_above : (n m : ℕ) (xs ys : List ℕ) → n ≤ m → drop n xs ≡ drop n ys → drop m xs ≡ drop m ys
drop_above n m xs ys le same =
    let here : n + (m - n) ≡ m = omega arith in
    subst (λ (k : ℕ). drop k xs ≡ drop k ys) here (sym (drop-drop (m - n) n xs) ∙ ap (λ (l : List ℕ). drop (m - n) l) same ∙ drop-drop (m - n) n ys)

pub torn_same : (at n : ℕ) (xs : List ℕ) → Torn at n xs xs
torn_same at n xs = record { before = refl; after = refl; no_shorter = omega arith; no_longer = omega arith }

-- one write after another at its end
pub torn_on : (at n m : ℕ) (old mid new : List ℕ) → Torn at n old mid → Torn (at + n) m mid new → Torn at (n + m) old new
torn_on at n m old mid new one two = record {
  before = take_below at (at + n) new mid (omega arith) two.before ∙ one.before;
  after =
      let here : at + (n + m) ≡ (at + n) + m = omega arith in
      let behind : drop ((at + n) + m) new ≡ drop ((at + n) + m) old =
      two.after ∙ drop_above (at + n) ((at + n) + m) mid old (omega arith) one.after in
      subst (λ (k : ℕ). drop k new ≡ drop k old) (sym here) behind;
  no_shorter = omega (arith, one.no_shorter, two.no_shorter);
  no_longer = omega (arith, one.no_longer, two.no_longer);
}

-- bytes stand before it
pub torn_behind : (xs : List ℕ) (at n : ℕ) (old new : List ℕ) → Torn at n old new → Torn (length xs + at) n (xs ++ old) (xs ++ new)
torn_behind xs at n old new torn = record {
  before = take-append-add xs new at ∙ ap (λ (l : List ℕ). xs ++ l) torn.before ∙ sym (take-append-add xs old at);
  after =
      let here : (length xs + at) + n ≡ length xs + (at + n) = omega arith in
      let behind : drop (length xs + (at + n)) (xs ++ new) ≡ drop (length xs + (at + n)) (xs ++ old) =
      drop-append-add xs new (at + n) ∙ torn.after ∙ sym (drop-append-add xs old (at + n)) in
      subst (λ (k : ℕ). drop k (xs ++ new) ≡ drop k (xs ++ old)) (sym here) behind;
  no_shorter = omega (arith, torn.no_shorter, length-append xs old, length-append xs new);
  no_longer = omega (arith, torn.no_longer, length-append xs old, length-append xs new);
}

-- bytes stand behind it
pub torn_before : (ys : List ℕ) (at n : ℕ) (old new : List ℕ) → at + n ≤ length old → Torn at n old new → Torn at n (old ++ ys) (new ++ ys)
torn_before ys at n old new inside torn = record {
  before =
      take-append-le at new ys (omega (arith, inside, torn.no_shorter))
      ∙ torn.before
      ∙ sym (take-append-le at old ys (omega (arith, inside)));
  after =
      drop-append-le (at + n) new ys (omega (arith, inside, torn.no_shorter))
      ∙ ap (λ (l : List ℕ). l ++ ys) torn.after
      ∙ sym (drop-append-le (at + n) old ys inside);
  no_shorter = omega (arith, torn.no_shorter, length-append old ys, length-append new ys);
  no_longer = omega (arith, torn.no_longer, length-append old ys, length-append new ys, inside);
}

-- bytes stand before it
pub holds_behind : (xs : List ℕ) (at : ℕ) (bytes old new : List ℕ) → Holds old at bytes new → Holds (xs ++ old) (length xs + at) bytes (xs ++ new)
holds_behind xs at bytes old new holds =
    let n : ℕ = at + length bytes in
    let here : length xs + at + length bytes ≡ length xs + n = omega arith in
    let rest : drop (length xs + at + length bytes) (xs ++ old) ≡ drop n old =
    ap (λ (k : ℕ). drop k (xs ++ old)) here ∙ drop-append-add xs old n in
    ap (λ (l : List ℕ). xs ++ l) holds
    ∙ sym (append_assoc xs (take at old ++ bytes) (drop n old))
    ∙ ap (λ (l : List ℕ). l ++ drop n old) (sym (append_assoc xs (take at old) bytes) ∙ ap (λ (l : List ℕ). l ++ bytes) (sym (take-append-add xs old at)))
    ∙ ap (λ (l : List ℕ). take (length xs + at) (xs ++ old) ++ bytes ++ l) (sym rest)

-- bytes stand behind it
pub holds_before : (ys : List ℕ) (at : ℕ) (bytes old new : List ℕ) → at + length bytes ≤ length old → Holds old at bytes new → Holds (old ++ ys) at bytes (new ++ ys)
holds_before ys at bytes old new inside holds =
    let n : ℕ = at + length bytes in
    let le : at ≤ length old = omega (arith, inside) in
    ap (λ (l : List ℕ). l ++ ys) holds
    ∙ append_assoc (take at old ++ bytes) (drop n old) ys
    ∙ ap (λ (l : List ℕ). take at old ++ bytes ++ l) (sym (drop-append-le n old ys inside))
    ∙ ap (λ (l : List ℕ). l ++ bytes ++ drop n (old ++ ys)) (sym (take-append-le at old ys le))

-- one write after another at its end
pub holds_on : (at : ℕ) (one two old mid new : List ℕ) → at ≤ length old → Holds old at one mid → Holds mid (at + length one) two new → Holds old at (one ++ two) new
holds_on at one two old mid new le first second =
    let front : length (take at old ++ one) ≡ at + length one = omega (arith, length-append (take at old) one, length-take-le at old le) in
    let kept : take (at + length one) mid ≡ take at old ++ one =
    ap (λ (l : List ℕ). take (at + length one) l) first ∙ take_at (take at old ++ one) (drop (at + length one) old) (at + length one) front in
    let there : at + length one + length two ≡ length (take at old ++ one) + length two = omega (arith, front) in
    let there2 : (at + length one) + length two ≡ at + length (one ++ two) = omega (arith, length-append one two) in
    let behind : drop (at + length one + length two) mid ≡ drop (at + length (one ++ two)) old =
    ap (λ (l : List ℕ). drop (at + length one + length two) l) first
    ∙ ap (λ (k : ℕ). drop k (take at old ++ one ++ drop (at + length one) old)) there
    ∙ drop-append-add (take at old ++ one) (drop (at + length one) old) (length two)
    ∙ drop-drop (length two) (at + length one) old
    ∙ ap (λ (k : ℕ). drop k old) there2 in
    second
    ∙ ap (λ (l : List ℕ). l ++ two ++ drop (at + length one + length two) mid) kept
    ∙ ap (λ (l : List ℕ). l ++ drop (at + length one + length two) mid) (append_assoc (take at old) one two)
    ∙ ap (λ (l : List ℕ). take at old ++ (one ++ two) ++ l) behind
