-- A write of bytes is a write of the first ones and then of the others.
use Rattle.std.proofs.Common.{◌≡◌, ℕ, ◌+◌, ◌≤◌, ◌<◌, Bool, true, false, List, [], ◌++◌, length, take, drop, Option, Some, None, IfSome, refl, ap, sym, subst, ◌∙◌, arith, append_assoc, length-append}
use Rattle.std.specs.Prelude.{min, nat_lt}
use Rattle.std.proofs.lemmas.Bool.{ltb-true, ltb-false}
use Rattle.std.proofs.lemmas.List.{take_at, drop_at, drop-drop, length-take, length-take-le, length-drop, append-nil, take-take, drop_all}
use Rattle.dali_store.specs.declared.store.FileName.{FileName}
use Rattle.dali_store.specs.Store.{Files as Disk, file_of, Holds, HoldsIn, Torn, TornIn}
use Rattle.dali_store.proofs.OneFile.{with_file, file_with, file_other}

-- ---- bytes that were written
abbrev pub first_held : ℕ → List ℕ → List ℕ → List ℕ
first_held p us old = take p old ++ us ++ drop (p + length us) old

holds_split : (p : ℕ) (old new us bs : List ℕ) → p ≤ length old → Holds old p (us ++ bs) new → Holds (first_held p us old) (p + length us) bs new
holds_split p old new us bs within holds =
    holds
    ∙ (ap (λ l. l ++ drop (p + length (us ++ bs)) old) (sym (append_assoc (take p old) us bs))
    ∙ (ap (λ l. (l ++ bs) ++ drop (p + length (us ++ bs)) old) (sym front)
    ∙ ap (λ l. (take (p + length us) (first_held p us old) ++ bs) ++ l) (sym back)))
  where
    size : length (take p old ++ us) ≡ p + length us
    size = omega (arith, length-append (take p old) us, length-take-le p old within)

    front : take (p + length us) (first_held p us old) ≡ take p old ++ us
    front = take_at (take p old ++ us) (drop (p + length us) old) (p + length us) size

    behind : drop (p + length us) (first_held p us old) ≡ drop (p + length us) old
    behind = drop_at (take p old ++ us) (drop (p + length us) old) (p + length us) size

    back : drop (p + length us + length bs) (first_held p us old) ≡ drop (p + length (us ++ bs)) old
    back =
        sym (drop-drop (length bs) (p + length us) (first_held p us old))
        ∙ (ap (drop (length bs)) behind
        ∙ (drop-drop (length bs) (p + length us) old
        ∙ ap (λ (k : ℕ). drop k old) (let e : p + length us + length bs ≡ p + length (us ++ bs) = omega (arith, length-append us bs) in e)))

-- ---- bytes that were torn
-- the first ones are torn, and the others as before
abbrev first_torn : ℕ → List ℕ → List ℕ → List ℕ
first_torn q old new = take q new ++ drop q old

module _ (at m n : ℕ) (old new : List ℕ) (t : Torn at (m + n) old new) where
  abbrev pub fine : Type 0
  fine = Torn at m old (first_torn (at + m) old new) × Torn (at + m) n (first_torn (at + m) old new) new

  drop_both : drop (at + m + n) new ≡ drop (at + m + n) old
  drop_both =
      ap (λ (k : ℕ). drop k new) (let e : at + m + n ≡ at + (m + n) = omega arith in e)
      ∙ (t.after ∙ ap (λ (k : ℕ). drop k old) (let e : at + (m + n) ≡ at + m + n = omega arith in e))

  take_same : take at (take (at + m) new) ≡ take at old
  take_same = take-take at (at + m) new (omega arith) ∙ t.before

  -- the old bytes reach to the end of the first range
  torn_within : at + m ≤ length old → fine
  torn_within long = (
    record {
      before = sym (take-take at (at + m) mid (omega arith)) ∙ (ap (take at) front ∙ take_same);
      after = behind;
      no_shorter = omega (arith, size);
      no_longer = omega (arith, size, long);
    },
    record {
      before = sym front;
      after = drop_both ∙ (sym (drop-drop n (at + m) old) ∙ (ap (drop n) (sym behind) ∙ drop-drop n (at + m) mid));
      no_shorter = omega (arith, size, t.no_shorter);
      no_longer = omega (arith, size, t.no_longer);
    },
  )
    where
      mid : List ℕ
      mid = first_torn (at + m) old new

      taken : length (take (at + m) new) ≡ at + m
      taken = length-take-le (at + m) new (omega (arith, long, t.no_shorter))

      front : take (at + m) mid ≡ take (at + m) new
      front = take_at (take (at + m) new) (drop (at + m) old) (at + m) taken

      behind : drop (at + m) mid ≡ drop (at + m) old
      behind = drop_at (take (at + m) new) (drop (at + m) old) (at + m) taken

      size : length mid ≡ length old
      size = length-append (take (at + m) new) (drop (at + m) old) ∙ omega (arith, taken, length-drop (at + m) old, long)

  -- they end before
  torn_past : length old < at + m → fine
  torn_past short = (
    record {
      before = ap (take at) is ∙ take_same;
      after = drop_all (at + m) mid (omega (arith, size)) ∙ sym none;
      no_shorter = omega (arith, size, t.no_shorter, short);
      no_longer = omega (arith, size);
    },
    record {
      before = sym (ap (take (at + m)) is ∙ take-take (at + m) (at + m) new (omega arith));
      after = drop_both ∙ (drop_all (at + m + n) old (omega (arith, short)) ∙ sym (drop_all (at + m + n) mid (omega (arith, size))));
      no_shorter = omega (arith, size);
      no_longer = omega (arith, size, t.no_longer, t.no_shorter, short);
    },
  )
    where
      mid : List ℕ
      mid = first_torn (at + m) old new

      none : drop (at + m) old ≡ []
      none = drop_all (at + m) old (omega (arith, short))

      is : mid ≡ take (at + m) new
      is = ap (λ l. take (at + m) new ++ l) none ∙ append-nil (take (at + m) new)

      size : length mid ≡ min (at + m) (length new)
      size = ap length is ∙ length-take (at + m) new

  pub torn_split : fine
  torn_split = by_length (nat_lt (length old) (at + m)) refl
    where
      by_length : (b : Bool) → nat_lt (length old) (at + m) ≡ b → fine
      by_length true e = torn_past (ltb-true (length old) (at + m) e)
      by_length false e = torn_within (ltb-false (length old) (at + m) e)

-- ---- one file among four
abbrev pub torn_between : FileName → ℕ → Disk → Disk → Disk
torn_between f q old new = with_file f (first_torn q (file_of f old) (file_of f new)) old

pub torn_in_split : (f : FileName) (at m n : ℕ) (old new : Disk) → TornIn f at (m + n) old new → TornIn f at m old (torn_between f (at + m) old new) × TornIn f (at + m) n (torn_between f (at + m) old new) new
torn_in_split f at m n old new t = (
  record {
    torn = subst (Torn at m (file_of f old)) (sym is) both.0;
    same = λ g other. file_other g f bytes old other;
  },
  record {
    torn = subst (λ l. Torn (at + m) n l (file_of f new)) (sym is) both.1;
    same = λ g other. t.same g other ∙ sym (file_other g f bytes old other);
  },
)
  where
    bytes : List ℕ
    bytes = first_torn (at + m) (file_of f old) (file_of f new)

    is : file_of f (torn_between f (at + m) old new) ≡ bytes
    is = file_with f bytes old

    both : Torn at m (file_of f old) bytes × Torn (at + m) n bytes (file_of f new)
    both = torn_split at m n (file_of f old) (file_of f new) t.torn

-- what reads give behind the first bytes
abbrev pub held_between : FileName → ℕ → List ℕ → Option Disk → Option Disk
held_between f p us None = None
held_between f p us (Some old) = Some (with_file f (first_held p us (file_of f old)) old)

pub held_first : (f : FileName) (p : ℕ) (us : List ℕ) (o : Option Disk) → HoldsIn f p us o (held_between f p us o)
held_first f p us None = refl
held_first f p us (Some old) = (file_with f (first_held p us (file_of f old)) old, λ g other. file_other g f (first_held p us (file_of f old)) old other)

pub held_rest : (f : FileName) (p : ℕ) (us bs : List ℕ) (o q : Option Disk) → IfSome o (λ fs. p ≤ length (file_of f fs)) → HoldsIn f p (us ++ bs) o q → HoldsIn f (p + length us) bs (held_between f p us o) q
held_rest f p us bs None q within holds = holds
held_rest f p us bs (Some old) None within holds = holds
held_rest f p us bs (Some old) (Some new) within holds = (
  subst (λ l. Holds l (p + length us) bs (file_of f new)) (sym (file_with f (first_held p us (file_of f old)) old)) (holds_split p (file_of f old) (file_of f new) us bs within holds.0),
  λ g other. holds.1 g other ∙ sym (file_other g f (first_held p us (file_of f old)) old other),
)

pub held_inside : (f : FileName) (p : ℕ) (us : List ℕ) (o : Option Disk) → IfSome o (λ fs. p ≤ length (file_of f fs)) → IfSome (held_between f p us o) (λ fs. p + length us ≤ length (file_of f fs))
held_inside f p us None within = tt
held_inside f p us (Some old) within =
    let size : length (first_held p us (file_of f old)) ≡ (length (take p (file_of f old)) + length us) + length (drop (p + length us) (file_of f old)) =
    length-append (take p (file_of f old) ++ us) (drop (p + length us) (file_of f old)) ∙ ap (λ n. n + length (drop (p + length us) (file_of f old))) (length-append (take p (file_of f old)) us) in
    omega (arith, size, length-take-le p (file_of f old) within, ap length (file_with f (first_held p us (file_of f old)) old))
