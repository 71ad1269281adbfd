-- The parts of a generated round, put together.
use Rattle.std.proofs.Common.{◌≡◌, ℕ, suc, ◌+◌, ◌-◌, ◌*◌, ◌≤◌, List, [], ◌∷◌, ◌++◌, map, flat_map, sym, ◌∙◌, ap, arith}
use Rattle.std.specs.List.{range_with_len}
use Rattle.std.proofs.Math.Nat.{mul-le-mul_left}
use Rattle.std.proofs.lemmas.List.FromFn.{map-range_with_len_more}
use Rattle.dali_script.specs.declared.commands.Block.{Block}
use Rattle.dali_script.specs.declared.commands.ClientCommand.{ClientCommand}
use Rattle.dali_generator.specs.Generated.{next, state, draw, transaction, block, generated}
use Rattle.dali_generator.proofs.Ranges.{flat_more}

pub few : (clients size : ℕ) → clients ≤ 64 → size ≤ 1000 → clients * size ≤ 64000
few clients size c s = omega (arith, mul-le-mul_left clients s)

pub state_more : (number client i : ℕ) → state number client (i + 1) ≡ next (state number client i)
state_more number client i = let more : i + 1 ≡ suc i = omega arith in ap (state number client) more

pub transactions_more : (number client i drawn : ℕ) (done all : List ClientCommand)
    → done ≡ flat_map (λ j. transaction client j (draw number client j)) (range_with_len 0 i)
    → drawn ≡ draw number client i → all ≡ done ++ transaction client i drawn
    → all ≡ flat_map (λ j. transaction client j (draw number client j)) (range_with_len 0 (i + 1))
transactions_more number client i drawn done all before is added =
    let more = flat_more (λ j. transaction client j (draw number client j)) i in
    added ∙ ap (λ l. l ++ transaction client i drawn) before
    ∙ ap (λ d. flat_map (λ j. transaction client j (draw number client j)) (range_with_len 0 i) ++ transaction client i d) is
    ∙ sym more

pub blocks_more : (number size client : ℕ) (done all : List Block) (made : Block) → 1 ≤ client
    → done ≡ map (block number size) (range_with_len 1 (client - 1)) → made ≡ block number size client → all ≡ done ++ made ∷ []
    → all ≡ map (block number size) (range_with_len 1 (client + 1 - 1))
blocks_more number size client done all made some before is added =
    let place : client + 1 - 1 ≡ client - 1 + 1 = omega arith in
    let last : 1 + (client - 1) ≡ client = omega arith in
    added ∙ ap (λ l. l ++ made ∷ []) before ∙ ap (λ b. map (block number size) (range_with_len 1 (client - 1)) ++ b ∷ []) is
    ∙ sym (map-range_with_len_more (block number size) 1 (client - 1) client last)
    ∙ ap (λ n. map (block number size) (range_with_len 1 n)) (sym place)

pub all_made : (number size clients client : ℕ) (items : List Block) → items ≡ map (block number size) (range_with_len 1 (client - 1)) → client - 1 ≡ clients
    → items ≡ generated clients size number
all_made number size clients client items before last = before ∙ ap (λ n. map (block number size) (range_with_len 1 n)) last
