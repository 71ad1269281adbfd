-- The clients of some blocks, one by one; and those that are done.
use Rattle.std.proofs.Common.{◌≡◌, ℕ, zero, suc, ◌+◌, ◌<◌, ◌≤◌, true, List, [], ◌∷◌, ◌++◌, length, take, drop, Some, refl, ap, sym, subst, ◌∙◌, ◌⊎◌, inl, inr, ⊎_elim, arith}
use Rattle.std.specs.Prelude.{◌==◌, slice_get}
use Rattle.std.proofs.lemmas.List.{length-append}
use Rattle.std.proofs.lemmas.Option.{slice_get_within}
use Rattle.dali_runs.proofs.CountsLemmas.Lists.{some_same, get_take}
use Rattle.dali_transcripts.specs.declared.clients.command.Block.{Block}
use Rattle.dali_turns.specs.declared.client.Client.{Client}
use Rattle.dali_turns.specs.Clients.{is_over}
use Rattle.dali_round.specs.Played.{IsNew, AreNew, AreOver}
use Rattle.dali_round.proofs.Lists.{by_less}

-- an element of a list with one more behind it
pub get_push : {X : Type 0} (xs : List X) (x y : X) (i : ℕ) → slice_get (xs ++ x ∷ []) i ≡ Some y → ((i < length xs) × (slice_get xs i ≡ Some y)) ⊎ ((i ≡ length xs) × (y ≡ x))
get_push [] x y zero e = inr (refl, sym (some_same e))
get_push [] x y (suc i) e = absurd (cc)
get_push (z ∷ xs) x y zero e = inl (omega arith, e)
get_push (z ∷ xs) x y (suc i) e = ⊎_elim (λ h. inl (omega (arith, h.0), h.1)) (λ h. inr (omega (arith, h.0), h.1)) (get_push xs x y i e)

length_take : {X : Type 0} (xs : List X) (i : ℕ) → i ≤ length xs → length (take i xs) ≡ i
length_take xs zero h = refl
length_take [] (suc i) h = absurd (omega (arith, h))
length_take (x ∷ xs) (suc i) h = let e = length_take xs i (omega (arith, h)) in omega (arith, e)

pub none_made : (bs : List Block) → AreNew (take 0 bs) []
none_made bs = record { count = refl; each = λ i b k e f. absurd (cc) }

pub one_made : (bs : List Block) (ks : List Client) (i : ℕ) (b : Block) (k : Client) → AreNew (take i bs) ks → slice_get bs i ≡ Some b → IsNew b k → AreNew (take (i + 1) bs) (ks ++ k ∷ [])
one_made bs ks i b k made at_b new = record {
  count = let one = length-append ks (k ∷ []) in let two = length_take bs (i + 1) (omega (arith, within)) in omega (arith, one, two, many);
  each = λ n c l at_c at_l.
      ⊎_elim
      (λ h. made.each n c l (get_take i n bs (omega (arith, h.0, many)) ∙ (sym (get_take (i + 1) n bs (omega (arith, h.0, many))) ∙ at_c)) h.1)
      (λ h.
      let here : n ≡ i = omega (arith, h.0, many) in
      let same : b ≡ c = some_same (sym at_b ∙ (ap (slice_get bs) (sym here) ∙ (sym (get_take (i + 1) n bs (omega (arith, here))) ∙ at_c))) in
      subst (λ z. IsNew c z) (sym h.1) (subst (λ z. IsNew z k) same new))
      (get_push ks k l n at_l);
}
  where
    within : i < length bs
    within = slice_get_within bs i b at_b

    many : length ks ≡ i
    many = made.count ∙ length_take bs i (omega (arith, within))

take_all : {X : Type 0} (xs : List X) (i : ℕ) → length xs ≤ i → take i xs ≡ xs
take_all [] zero h = refl
take_all [] (suc i) h = refl
take_all (x ∷ xs) zero h = absurd (omega (arith, h))
take_all (x ∷ xs) (suc i) h = ap (λ l. x ∷ l) (take_all xs i (omega (arith, h)))

-- a vector that was lent whole
pub put_back : {X : Type 0} (n : ℕ) (xs ys : List X) → length xs ≡ n → take n (xs ++ drop (length xs) ys) ≡ xs
put_back n xs ys size = subst (λ k. take k (xs ++ drop (length xs) ys) ≡ xs) size (take_at xs (drop (length xs) ys))
  where
    take_at : {X : Type 0} (us vs : List X) → take (length us) (us ++ vs) ≡ us
    take_at [] vs = refl
    take_at (u ∷ us) vs = ap (λ l. u ∷ l) (take_at us vs)

pub all_made : (bs : List Block) (ks : List Client) (i : ℕ) → AreNew (take i bs) ks → length bs ≤ i → AreNew bs ks
all_made bs ks i made h = subst (λ l. AreNew l ks) (take_all bs i h) made

-- ---- done
abbrev pub OverTo : ℕ → List Client → Type 0
OverTo n ks = (i : ℕ) (k : Client) → i < n → slice_get ks i ≡ Some k → is_over k.state (length k.rest.now == 0) ≡ true

pub one_over : (ks : List Client) (n : ℕ) (k : Client) → slice_get ks n ≡ Some k → is_over k.state (length k.rest.now == 0) ≡ true → OverTo n ks → OverTo (n + 1) ks
one_over ks n k at_k over before i l less at_l =
    ⊎_elim
    (λ h. before i l h at_l)
    (λ h. subst (λ (z : Client). is_over z.state (length z.rest.now == 0) ≡ true) (some_same (sym at_k ∙ (ap (slice_get ks) (sym h) ∙ at_l))) over)
    (by_less i n less)

pub all_over : (ks : List Client) (n : ℕ) → OverTo n ks → length ks ≤ n → AreOver ks
all_over ks n over h i k at_k = over i k (let within = slice_get_within ks i k at_k in omega (arith, within, h)) at_k
