-- The blocks of records written over an image, one region at a time.
use Rattle.std.proofs.Common.{◌≡◌, ℕ, zero, suc, ◌≤◌, ◌/◌, Bool, true, false, cond, List, [], ◌∷◌, ◌++◌, length, take, drop, get_or, Option, Some, None, refl, ap, sym, subst, ◌∙◌, ◌⊎◌, inl, inr, ⊎_elim, arith}
use Rattle.std.specs.Prelude.{◌==◌, fold}
use Rattle.std.proofs.lemmas.List.{append-nil, take-append-drop, drop-append-le, ext_get_or}
use Rattle.std.proofs.lemmas.List.Sums.{fold-append}
use Rattle.std.proofs.lemmas.Bool.{eqb-true, eq-eqb}
use Rattle.dali_lists.proofs.Lists.{take_further, length_take_least}
use Rattle.dali_words.specs.Words.{has_first, first_or, rest_of, write_under}
use Rattle.dali_words.proofs.Masks.{length-write_under}
use Rattle.dali_record.specs.declared.records.Record.{Record}
use Rattle.dali_record.specs.Blocks.{rewritten}
use Rattle.dali_record.specs.Log.{Touch, touch_of}
use Rattle.dali_record.specs.Settled.{words_in, redo, redo_touch, redo_all}
use Rattle.dali_record.proofs.Recovery.{words_redo-same, words_redo-other}

-- ---- one region
abbrev part_touch : ℕ → List ℕ → Option Touch → List ℕ
part_touch r ws None = ws
part_touch r ws (Some a) = cond (a.block.region == r) (rewritten a.block ws) ws

abbrev part_step : ℕ → List ℕ → Record → List ℕ
part_step r ws x = part_touch r ws (touch_of x)

-- the words of region r after these records
abbrev part : ℕ → List ℕ → List Record → List ℕ
part r ws E = fold (part_step r) ws E

touch_part : (image : List (List ℕ)) (o : Option Touch) (r : ℕ) → words_in (redo_touch image o) r ≡ part_touch r (words_in image r) o
touch_part image None r = refl
touch_part image (Some a) r = by_test (a.block.region == r) refl
  where
    by_test : (b : Bool) → (a.block.region == r) ≡ b → words_in (redo_touch image (Some a)) r ≡ cond b (rewritten a.block (words_in image r)) (words_in image r)
    by_test true e = subst (λ q. words_in (redo_touch image (Some a)) q ≡ rewritten a.block (words_in image q)) (eqb-true a.block.region r e) (words_redo-same image a)
    by_test false e = words_redo-other image a r (λ h. let f : (a.block.region == r) ≡ true = eq-eqb a.block.region r (sym h) in absurd (cc))

redo_part : (image : List (List ℕ)) (E : List Record) (r : ℕ) → words_in (redo_all image E) r ≡ part r (words_in image r) E
redo_part image [] r = refl
redo_part image (x ∷ E) r = redo_part (redo image x) E r ∙ ap (λ ws. part r ws E) (touch_part image (touch_of x) r)

-- ---- once more
-- what is written in a word doesn't look at the words before
written_or : (m : ℕ) (news xs ys : List ℕ) (i : ℕ) → length xs ≡ length ys
    → (get_or (write_under m news xs) i 0 ≡ get_or (write_under m news ys) i 0) ⊎ ((get_or (write_under m news xs) i 0 ≡ get_or xs i 0) × (get_or (write_under m news ys) i 0 ≡ get_or ys i 0))
written_or m news [] [] i e = inl refl
written_or m news [] (y ∷ ys) i e = absurd (omega (arith, e))
written_or m news (x ∷ xs) [] i e = absurd (omega (arith, e))
written_or m news (x ∷ xs) (y ∷ ys) (suc i) e = written_or (m / 2) (cond (has_first m) (rest_of news) news) xs ys i (omega (arith, e))
written_or m news (x ∷ xs) (y ∷ ys) zero e = by_test (has_first m) news
  where
    by_test : (b : Bool) (ns : List ℕ) → (cond b (first_or x ns) x ≡ cond b (first_or y ns) y) ⊎ ((cond b (first_or x ns) x ≡ x) × (cond b (first_or y ns) y ≡ y))
    by_test false ns = inr (refl, refl)
    by_test true [] = inr (refl, refl)
    by_test true (n ∷ ns) = inl refl

Told : List ℕ → List ℕ → List ℕ → List ℕ → ℕ → Type 0
Told xs us ys vs i = (get_or us i 0 ≡ get_or vs i 0) ⊎ ((get_or us i 0 ≡ get_or xs i 0) × (get_or vs i 0 ≡ get_or ys i 0))

touch_told : (r : ℕ) (o : Option Touch) (xs ys : List ℕ) (i : ℕ) → length xs ≡ length ys → Told xs (part_touch r xs o) ys (part_touch r ys o) i
unfolding Told
touch_told r None xs ys i e = inr (refl, refl)
touch_told r (Some a) xs ys i e = by_test (a.block.region == r)
  where
    by_test : (b : Bool) → Told xs (cond b (rewritten a.block xs) xs) ys (cond b (rewritten a.block ys) ys) i
    by_test true = written_or a.block.write a.block.after xs ys i e
    by_test false = inr (refl, refl)

length-touch : (r : ℕ) (o : Option Touch) (ws : List ℕ) → length (part_touch r ws o) ≡ length ws
length-touch r None ws = refl
length-touch r (Some a) ws = by_test (a.block.region == r)
  where
    by_test : (b : Bool) → length (cond b (rewritten a.block ws) ws) ≡ length ws
    by_test true = length-write_under a.block.write a.block.after ws
    by_test false = refl

length-part : (r : ℕ) (E : List Record) (ws : List ℕ) → length (part r ws E) ≡ length ws
length-part r [] ws = refl
length-part r (x ∷ E) ws = length-part r E (part_step r ws x) ∙ length-touch r (touch_of x) ws

then_told : (xs ps us ys qs vs : List ℕ) (i : ℕ) → Told xs ps ys qs i → Told ps us qs vs i → Told xs us ys vs i
unfolding Told
then_told xs ps us ys qs vs i (inl a) (inl c) = inl c
then_told xs ps us ys qs vs i (inl a) (inr c) = inl (c.0 ∙ (a ∙ sym c.1))
then_told xs ps us ys qs vs i (inr a) (inl c) = inl c
then_told xs ps us ys qs vs i (inr a) (inr c) = inr (c.0 ∙ a.0, c.1 ∙ a.1)

part_told : (r : ℕ) (E : List Record) (xs ys : List ℕ) (i : ℕ) → length xs ≡ length ys → Told xs (part r xs E) ys (part r ys E) i
unfolding Told
part_told r [] xs ys i e = inr (refl, refl)
part_told r (x ∷ E) xs ys i e =
    then_told xs (part_step r xs x) (part r (part_step r xs x) E) ys (part_step r ys x) (part r (part_step r ys x) E) i
    (touch_told r (touch_of x) xs ys i e)
    (part_told r E (part_step r xs x) (part_step r ys x) i (length-touch r (touch_of x) xs ∙ (e ∙ sym (length-touch r (touch_of x) ys))))

-- the same records once more change nothing
part_twice : (r : ℕ) (E : List Record) (ws : List ℕ) → part r (part r ws E) E ≡ part r ws E
unfolding Told
part_twice r E ws = ext_get_or 0 (part r (part r ws E) E) (part r ws E) (length-part r E (part r ws E)) (λ i h. ⊎_elim (λ a. a) (λ c. c.0) (part_told r E (part r ws E) ws i (length-part r E ws)))

-- an image that has a region as some records left it: the later ones of these, written over it, leave it so
pub redone_twice : (base image : List (List ℕ)) (P : List Record) (k r : ℕ) → words_in image r ≡ words_in (redo_all base P) r → words_in (redo_all image (drop k P)) r ≡ words_in (redo_all base P) r
redone_twice base image P k r same = redo_part image (drop k P) r ∙ (ap (λ ws. part r ws (drop k P)) (same ∙ parts) ∙ (part_twice r (drop k P) (part r (words_in base r) (take k P)) ∙ sym parts))
  where
    parts : words_in (redo_all base P) r ≡ part r (part r (words_in base r) (take k P)) (drop k P)
    parts = redo_part base P r ∙ (ap (λ Q. part r (words_in base r) Q) (sym (take-append-drop k P)) ∙ fold-append (part_step r) (words_in base r) (take k P) (drop k P))

-- ---- and those that follow
-- more elements of a longer list

-- a region that is right after the records below m is right after those below n
pub redone_on :
    (base image : List (List ℕ)) (E B : List Record) (k m n r : ℕ) → k ≤ m → m ≤ n → k ≤ length E
    → words_in (redo_all image (drop k (take m E))) r ≡ words_in (redo_all base (take m E)) r
    → words_in (redo_all image (drop k (take n (E ++ B)))) r ≡ words_in (redo_all base (take n (E ++ B))) r
redone_on base image E B k m n r km mn within same =
    let w = take_further m n E B mn in
    let X : List Record = take m E in
    let Z : List Record = w.0 in
    let split : drop k (X ++ Z) ≡ drop k X ++ Z = drop-append-le k X Z (length_take_least k m E km within) in
    let left : words_in (redo_all image (drop k (X ++ Z))) r ≡ part r (words_in (redo_all image (drop k X)) r) Z = ap (λ D. words_in (redo_all image D) r) split ∙ (ap (λ im. words_in im r) (fold-append redo image (drop k X) Z) ∙ redo_part (redo_all image (drop k X)) Z r) in
    let right : words_in (redo_all base (X ++ Z)) r ≡ part r (words_in (redo_all base X) r) Z = ap (λ im. words_in im r) (fold-append redo base X Z) ∙ redo_part (redo_all base X) Z r in
    let both : words_in (redo_all image (drop k (X ++ Z))) r ≡ words_in (redo_all base (X ++ Z)) r = left ∙ (ap (λ ws. part r ws Z) same ∙ sym right) in
    subst (λ T. words_in (redo_all image (drop k T)) r ≡ words_in (redo_all base T) r) (sym w.1) both

-- the same of a whole list
pub redone_to :
    (base image : List (List ℕ)) (E : List Record) (k m n r : ℕ) → k ≤ m → m ≤ n → k ≤ length E
    → words_in (redo_all image (drop k (take m E))) r ≡ words_in (redo_all base (take m E)) r
    → words_in (redo_all image (drop k (take n E))) r ≡ words_in (redo_all base (take n E)) r
redone_to base image E k m n r km mn within same =
    subst (λ T. words_in (redo_all image (drop k (take n T))) r ≡ words_in (redo_all base (take n T)) r) (append-nil E)
    (redone_on base image E [] k m n r km mn within same)

-- a region that was copied after the records below m, and of which the blocks from k on are written again
pub copied_then :
    (base image : List (List ℕ)) (E : List Record) (k m n r : ℕ) → k ≤ m → m ≤ n → k ≤ length E
    → words_in image r ≡ words_in (redo_all base (take m E)) r
    → words_in (redo_all image (drop k (take n E))) r ≡ words_in (redo_all base (take n E)) r
copied_then base image E k m n r km mn within same = redone_to base image E k m n r km mn within (redone_twice base image (take m E) k r same)
