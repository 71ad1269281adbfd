-- Blocks that are looked through one by one.
use Rattle.std.proofs.Common.{◌≡◌, ℕ, zero, suc, ◌+◌, ◌<◌, ◌≤◌, Bool, true, false, List, [], ◌∷◌, length, map, drop, Some, refl, ap, sym, subst, arith}
use Rattle.std.specs.Prelude.{slice_get}
use Rattle.dali_runs.proofs.CountsLemmas.Lists.{some_same}
use Rattle.dali_transcripts.specs.Transcripts.{Told}
use Rattle.dali_transcripts.specs.Rounds.{IsPlaced, AreBlocks}
use Rattle.dali_transcripts.specs.declared.clients.command.Block.{Block}
use Rattle.dali_transcripts.specs.declared.clients.command.Command.{Command}
use Rattle.dali_transcripts.specs.Clients.Told.{act_of, told_of}
use Rattle.dali_round_tests.specs.Placing.{Leads, Ascend}

-- ---- one more
drop_one : {X : Type 0} (xs : List X) (i : ℕ) (x : X) → slice_get xs i ≡ Some x → drop i xs ≡ x ∷ drop (suc i) xs
drop_one [] i x e = absurd (cc)
drop_one (y ∷ xs) zero x e = ap (λ z. z ∷ xs) (some_same e)
drop_one (y ∷ xs) (suc i) x e = drop_one xs i x e

drop_all : {X : Type 0} (xs : List X) (i : ℕ) → length xs ≤ i → drop i xs ≡ []
drop_all [] zero h = refl
drop_all [] (suc i) h = refl
drop_all (x ∷ xs) zero h = absurd (omega (arith, h))
drop_all (x ∷ xs) (suc i) h = drop_all xs i (omega (arith, h))

-- ---- the commands of a block
abbrev pub PlacedFrom : Bool → ℕ → List Command → Type 0
PlacedFrom within i cs = IsPlaced within (map act_of (drop i cs)) → IsPlaced false (map act_of cs)

pub placed_on : (within behind : Bool) (i : ℕ) (cs : List Command) (c : Command) → slice_get cs i ≡ Some c → Leads within (act_of c) behind → PlacedFrom within i cs → PlacedFrom behind (i + 1) cs
placed_on within behind i cs c at leads from =
    let next : suc i ≡ i + 1 = omega arith in
    subst (λ n. PlacedFrom behind n cs) next (λ h. from (subst (λ l. IsPlaced within (map act_of l)) (sym (drop_one cs i c at)) (leads (map act_of (drop (suc i) cs)) h)))

none_placed : (within : Bool) → IsPlaced within []
none_placed true = tt
none_placed false = tt

pub placed_all : (within : Bool) (i : ℕ) (cs : List Command) → length cs ≤ i → PlacedFrom within i cs → IsPlaced false (map act_of cs)
placed_all within i cs h from = from (subst (λ l. IsPlaced within (map act_of l)) (sym (drop_all cs i h)) (none_placed within))

-- ---- the blocks
abbrev pub AscendFrom : ℕ → ℕ → List Block → Type 0
AscendFrom last i bs = Ascend last (map told_of (drop i bs)) → Ascend 0 (map told_of bs)

pub ascend_on : (last i : ℕ) (bs : List Block) (b : Block) → slice_get bs i ≡ Some b → last < b.client → b.client ≤ 64 → IsPlaced false (map act_of b.commands.items) → AscendFrom last i bs → AscendFrom b.client (i + 1) bs
ascend_on last i bs b at above most placed from =
    let next : suc i ≡ i + 1 = omega arith in
    subst (λ n. AscendFrom b.client n bs) next (λ h. from (subst (λ l. Ascend last (map told_of l)) (sym (drop_one bs i b at)) (above, most, placed, h)))

above_all : (from : ℕ) (bs : List Told) → Ascend from bs → (i : ℕ) (b : Told) → slice_get bs i ≡ Some b → (from < b.client) × (b.client ≤ 64) × IsPlaced false b.acts
above_all from [] a i b e = absurd (cc)
above_all from (c ∷ bs) a zero b e = subst (λ (z : Told). (from < z.client) × (z.client ≤ 64) × IsPlaced false z.acts) (some_same e) (a.0, a.1, a.2)
above_all from (c ∷ bs) a (suc i) b e = let more = above_all c.client bs a.3 i b e in (omega (arith, more.0, a.0), more.1, more.2)

apart_all : (from : ℕ) (bs : List Told) → Ascend from bs → (i j : ℕ) (a b : Told) → slice_get bs i ≡ Some a → slice_get bs j ≡ Some b → a.client ≡ b.client → i ≡ j
apart_all from [] h i j a b at_a at_b same = absurd (cc)
apart_all from (c ∷ bs) h zero zero a b at_a at_b same = refl
apart_all from (c ∷ bs) h zero (suc j) a b at_a at_b same =
    let first : c.client ≡ a.client = ap (λ (z : Told). z.client) (some_same at_a) in
    let more = (above_all c.client bs h.3 j b at_b).0 in
    absurd (omega (arith, more, same, first))
apart_all from (c ∷ bs) h (suc i) zero a b at_a at_b same =
    let first : c.client ≡ b.client = ap (λ (z : Told). z.client) (some_same at_b) in
    let more = (above_all c.client bs h.3 i a at_a).0 in
    absurd (omega (arith, more, same, first))
apart_all from (c ∷ bs) h (suc i) (suc j) a b at_a at_b same = ap suc (apart_all c.client bs h.3 i j a b at_a at_b same)

pub ascend_all : (last i : ℕ) (bs : List Block) → length bs ≤ i → AscendFrom last i bs → AreBlocks (map told_of bs)
ascend_all last i bs h from = record {
  numbers = λ n b e. let at = above_all 0 (map told_of bs) all n b e in (omega (arith, at.0), at.1);
  placed = λ n b e. (above_all 0 (map told_of bs) all n b e).2;
  apart = λ n m a b e f same. apart_all 0 (map told_of bs) all n m a b e f same;
}
  where
    all : Ascend 0 (map told_of bs)
    all = from (subst (λ l. Ascend last (map told_of l)) (sym (drop_all bs i h)) tt)
