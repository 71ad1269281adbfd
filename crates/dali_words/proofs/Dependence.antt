-- What depends on the words that it reads alone.
use Rattle.std.proofs.Common.{◌≡◌, ℕ, List, length, refl, ap, sym, subst, ◌∙◌, inl, get_or, map}
use Rattle.std.specs.Int.{bit_at}
use Rattle.dali_words.specs.declared.Effect.{Effect}
use Rattle.dali_words.specs.Words.{under, write_under, mask_of, AgreeUnder}
use Rattle.dali_words.specs.Effects.{effect_of, write_all, carried, IsWithin, DependsOnReads, AnswersByReads}
use Rattle.dali_words.proofs.Masks.{IsIn, under_same, mask_of-in, in-mask_of, write_all_same, length-write_all}
use Rattle.dali_words.proofs.Writes.{written_back, other_words}

-- ---- what depends on its reads alone
-- the lists are equally long, and have the same words at these places
abbrev pub Agree : List ℕ → List ℕ → List ℕ → Type 0
Agree reads ws us = (length ws ≡ length us) × ((i : ℕ) → IsIn reads i → get_or ws i 0 ≡ get_or us i 0)

-- what a row gives on ws, it gives on all words that agree where it reads
pub record Row (O : Type 0) (f : List ℕ → Effect × O) (ws : List ℕ) : Type 0 where
  pub reads : List ℕ
  pub writes : List (ℕ × ℕ)
  pub out : O
  pub inside : (i : ℕ) → IsIn (map (λ p. p.0) writes) i → IsIn reads i
  pub gives : (us : List ℕ) → Agree reads ws us → f us ≡ (effect_of us reads writes, out)

-- words that agree under the set agree at its places
agrees : (reads : List ℕ) (m : ℕ) (ws us : List ℕ) → m ≡ mask_of reads → AgreeUnder m ws us → Agree reads ws us
agrees reads m ws us e a = (a.count, λ i h. a.same i (subst (λ n. bit_at n i ≡ 1) (sym e) (mask_of-in reads i h)))

-- the same reads and writes on other words
pub effect_carried : (reads : List ℕ) (writes : List (ℕ × ℕ)) (ws us : List ℕ) → length ws ≡ length us → effect_of us reads writes ≡ carried (effect_of ws reads writes) us
effect_carried reads writes ws us size = λ i. record { read = mask_of reads; write = mask_of (map (λ p. p.0) writes); after = words i }
  where
    same : under (mask_of (map (λ p. p.0) writes)) (write_all us writes) ≡ under (mask_of (map (λ p. p.0) writes)) (write_all ws writes)
    same =
        under_same (mask_of (map (λ p. p.0) writes)) (write_all us writes) (write_all ws writes) (length-write_all us writes ∙ sym size ∙ sym (length-write_all ws writes))
        (λ i h. write_all_same us ws writes i (sym size) (inl (in-mask_of (map (λ p. p.0) writes) i h)))

    words : write_all us writes ≡ write_under (mask_of (map (λ p. p.0) writes)) (under (mask_of (map (λ p. p.0) writes)) (write_all ws writes)) us
    words = sym (written_back us writes) ∙ ap (λ xs. write_under (mask_of (map (λ p. p.0) writes)) xs us) same

pub row_answers : {O : Type 0} (f : List ℕ → Effect × O) (ws : List ℕ) → Row O f ws → AnswersByReads f ws
row_answers {O} f ws R us a = R.gives us agree ∙ ap (λ (e : Effect). (e, R.out)) (effect_carried R.reads R.writes ws us a.count) ∙ sym (ap (λ (r : Effect × O). (carried r.0 us, r.1)) here)
  where
    here : f ws ≡ (effect_of ws R.reads R.writes, R.out)
    here = R.gives ws (refl, λ i h. refl)

    agree : Agree R.reads ws us
    agree = agrees R.reads (f ws).0.read ws us (ap (λ (r : Effect × O). r.0.read) here) a

pub effect_depends : (reads : List ℕ) (writes : List (ℕ × ℕ)) (ws : List ℕ) → DependsOnReads (λ us. effect_of us reads writes) ws
effect_depends reads writes ws us a = effect_carried reads writes ws us a.count

-- ---- writes within reads
pub effect_within : (reads : List ℕ) (writes : List (ℕ × ℕ)) (ws : List ℕ) → ((i : ℕ) → IsIn (map (λ p. p.0) writes) i → IsIn reads i) → IsWithin ws (effect_of ws reads writes)
effect_within reads writes ws inside = record {
  count = length-write_all ws writes;
  inside = λ i h. mask_of-in reads i (inside i (in-mask_of (map (λ p. p.0) writes) i h));
  others = λ i h. other_words 0 ws writes i h;
}

pub row_within : {O : Type 0} (f : List ℕ → Effect × O) (ws : List ℕ) → Row O f ws → IsWithin ws (f ws).0
row_within {O} f ws R = subst (λ (r : Effect × O). IsWithin ws r.0) (sym (R.gives ws (refl, λ i h. refl))) (effect_within R.reads R.writes ws R.inside)

-- the same reads, writes and outcome on other words
pub answer_carried : {O : Type 0} (r t : Effect × O) (reads : List ℕ) (writes : List (ℕ × ℕ)) (ws us : List ℕ) (o : O) → length ws ≡ length us → r ≡ (effect_of ws reads writes, o) → t ≡ (effect_of us reads writes, o) → t ≡ (carried r.0 us, r.1)
answer_carried {O} r t reads writes ws us o size here there = there ∙ ap (λ (e : Effect). (e, o)) (effect_carried reads writes ws us size) ∙ sym (ap (λ (x : Effect × O). (carried x.0 us, x.1)) here)

-- with an outcome that tells nothing
pub depends_answers : {O : Type 0} (f : List ℕ → Effect) (o : O) (ws : List ℕ) → DependsOnReads f ws → AnswersByReads (λ us. (f us, o)) ws
depends_answers f o ws d us a = ap (λ (e : Effect). (e, o)) (d us a)
