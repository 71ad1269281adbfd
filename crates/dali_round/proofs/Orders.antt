-- The places of some blocks by ascending number: those of each smaller number, and of this one those before a place.
use Rattle.std.proofs.Common.{◌≡◌, ℕ, zero, suc, ◌+◌, ◌<◌, ◌≤◌, List, [], ◌∷◌, ◌++◌, length, map, Some, refl, ap, sym, subst, ◌∙◌, ⊎_elim, arith}
use Rattle.std.specs.Prelude.{slice_get}
use Rattle.std.proofs.lemmas.Option.{slice_get_within}
use Rattle.dali_lists.proofs.Lists.{get_within}
use Rattle.dali_runs.proofs.CountsLemmas.Lists.{some_same}
use Rattle.dali_transcripts.specs.declared.clients.command.Block.{Block}
use Rattle.dali_transcripts.specs.Clients.Told.{told_of}
use Rattle.dali_transcripts.specs.Rounds.{AreBlocks}
use Rattle.dali_round.specs.Idle.{IsOrder}
use Rattle.dali_round.proofs.Lists.{by_less, get_map}
use Rattle.dali_round.proofs.Made.{get_push}

abbrev IsListed : List ℕ → ℕ → Type 0
IsListed order i = (j : ℕ) × (slice_get order j ≡ Some i)

pub record AreListed (number place : ℕ) (bs : List Block) (order : List ℕ) : Type 0 where
  smaller : (i : ℕ) (b : Block) → slice_get bs i ≡ Some b → b.client < number → IsListed order i
  here : (i : ℕ) (b : Block) → slice_get bs i ≡ Some b → i < place → b.client ≡ number → IsListed order i
  within : (j i : ℕ) → slice_get order j ≡ Some i → i < length bs

-- what stands in a list stands in it with one more behind it
stays_in : (xs ys : List ℕ) (i j : ℕ) → slice_get xs j ≡ Some i → slice_get (xs ++ ys) j ≡ Some i
stays_in [] ys i j e = absurd (cc)
stays_in (x ∷ xs) ys i zero e = e
stays_in (x ∷ xs) ys i (suc j) e = stays_in xs ys i j e

pushed_in : (xs : List ℕ) (i : ℕ) → IsListed (xs ++ i ∷ []) i
pushed_in [] i = (zero, refl)
pushed_in (x ∷ xs) i = let there = pushed_in xs i in (suc there.0, there.1)

still : (order more : List ℕ) (i : ℕ) → IsListed order i → IsListed (order ++ more) i
still order more i (j, at) = (j, stays_in order more i j at)

number_of : (bs : List Block) (i : ℕ) (b : Block) → AreBlocks (map told_of bs) → slice_get bs i ≡ Some b → (1 ≤ b.client) × (b.client ≤ 64)
number_of bs i b are at = are.numbers i (told_of b) (get_map told_of bs i b at)

pub none_listed : (bs : List Block) → AreBlocks (map told_of bs) → AreListed 1 0 bs []
none_listed bs are = record {
  smaller = λ i b at less. let least = (number_of bs i b are at).0 in absurd (omega (arith, less, least));
  here = λ i b at before same. absurd (omega (arith, before));
  within = λ j i at. absurd (cc);
}

pub one_listed : (bs : List Block) (order : List ℕ) (number place : ℕ) → place < length bs → AreListed number place bs order → AreListed number (place + 1) bs (order ++ place ∷ [])
one_listed bs order number place less listed = record {
  smaller = λ i b at low. still order (place ∷ []) i (listed.smaller i b at low);
  here = λ i b at upto same. ⊎_elim (λ before. still order (place ∷ []) i (listed.here i b at before same)) (λ last. subst (IsListed (order ++ place ∷ [])) (sym last) (pushed_in order place)) (by_less i place upto);
  within = λ j i at. ⊎_elim (λ old. listed.within j i old.1) (λ new. omega (arith, new.1, less)) (get_push order place i j at);
}

pub other_listed : (bs : List Block) (order : List ℕ) (number place : ℕ) (c : Block) → slice_get bs place ≡ Some c → (c.client ≡ number → ⊥) → AreListed number place bs order → AreListed number (place + 1) bs order
other_listed bs order number place c at_c other listed = record {
  smaller = listed.smaller;
  here = λ i b at upto same.
      ⊎_elim (λ before. listed.here i b at before same) (λ last. absurd (other (ap (λ (x : Block). x.client) (some_same (sym at_c ∙ (ap (slice_get bs) (sym last) ∙ at))) ∙ same))) (by_less i place upto);
  within = listed.within;
}

pub number_listed : (bs : List Block) (order : List ℕ) (number place : ℕ) → length bs ≤ place → AreListed number place bs order → AreListed (number + 1) 0 bs order
number_listed bs order number place far listed = record {
  smaller = λ i b at upto. ⊎_elim (λ low. listed.smaller i b at low) (λ same. let less = slice_get_within bs i b at in listed.here i b at (omega (arith, less, far)) same) (by_less b.client number upto);
  here = λ i b at before same. absurd (omega (arith, before));
  within = listed.within;
}

pub all_listed : (bs : List Block) (order : List ℕ) (number : ℕ) → 65 ≤ number → AreBlocks (map told_of bs) → AreListed number 0 bs order → IsOrder order (length bs)
all_listed bs order number past are listed = record {
  all = λ i less.
      let there = get_within bs i less in
      let most = (number_of bs i there.0 are there.1).1 in
      listed.smaller i there.0 there.1 (omega (arith, past, most));
  within = listed.within;
}
