use Rattle.std.proofs.Common.{◌≡◌, ℕ, ◌≤◌, ◌-◌, ◌++◌, List, [], ◌∷◌, length, take, drop, get_or, arith}
use Rattle.std.specs.Prelude.{flat_map}
use Rattle.std.proofs.lemmas.Grind.{common_steps}
use Rattle.dali_lists.proofs.Options.{on_err_any}
use Rattle.dali_report.specs.Texts.{list_of}
use Rattle.dali_report.proofs.Fronts.{front_of}
use Rattle.dali_report.proofs.leaves.put_list.Goals as goal

-- the first number, and those behind it
all_of : {N : Type 0} (text : N → List ℕ) (numbers : List N) (first : N) (old begun all : List ℕ) (count : ℕ)
    → 1 ≤ length numbers → first ≡ get_or numbers 0 first → begun ≡ old ++ text first
    → all ≡ begun ++ flat_map (λ number. 32 ∷ text number) (take count (take (length numbers - 1) (drop 1 numbers)))
    → length (take (length numbers - 1) (drop 1 numbers)) ≤ count → all ≡ old ++ list_of text numbers
all_of text [] first old begun all count some is one more end = absurd (omega (arith, some))
all_of text (number ∷ numbers) first old begun all count some is one more end =
    let whole : take count (take (length (number ∷ numbers) - 1) numbers) ≡ numbers = grind (arith, common_steps) in
    let then_all : all ≡ begun ++ flat_map (λ number. 32 ∷ text number) numbers = rw whole at more in
    grind (arith, common_steps)

pub returns-in_err-put_text-2-clause-err : goal.returns-in_err-put_text-2-clause-err
returns-in_err-put_text-2-clause-err g c =
    let within_loop = front_of _ _ _ _ c.loop-number.invariant c.in_err-put_text-2.ensures.err in
    on_err_any _ (front_of _ _ _ _ c.in_ok-put_text.ensures.ok within_loop)

pub returns-in_err-put_text-3-clause-err : goal.returns-in_err-put_text-3-clause-err
returns-in_err-put_text-3-clause-err g c =
    let behind_blank = front_of _ _ _ _ c.in_ok-put_text-2.ensures.ok c.in_err-put_text-3.ensures.err in
    let within_loop = front_of _ _ _ _ c.loop-number.invariant behind_blank in
    on_err_any _ (front_of _ _ _ _ c.in_ok-put_text.ensures.ok within_loop)

pub returns-clause-ok : goal.returns-clause-ok
returns-clause-ok g c =
    let old = c.args.into.now.items in
    let begun = c.put_text-2.new.into.items in
    let first = c.first-item.result in
    let one : begun ≡ old ++ g.N.Integer.text first =
    grind (arith, common_steps, c.in_ok-put_text.ensures.ok, c.as_bytes.ensures.value, c.format.ensures.text) in
    all_of g.N.Integer.text c.args.numbers.now first old begun c.loop-number.into.items c.loop-number.number-index
    c.in-len1-up.len_at_least c.first-item.is one c.loop-number.invariant (omega arith)
