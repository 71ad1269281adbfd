-- What was read at a place of the log.
use Rattle.std.proofs.Common.{◌≡◌, ◌⊎◌, inl, inr, ℕ, ◌+◌, ◌-◌, ◌^◌, ◌≤◌, ◌<◌, List, [], ◌∷◌, ◌++◌, length, get_or, take, drop, sym, ◌∙◌, ap, subst, arith, append_assoc, length-append, length-drop, length-take, take-append-drop, Option, Some, None, IfSome}
use Rattle.std.proofs.lemmas.List.{take_at, drop_all, get_or-take, get_or-drop, drop-drop, drop_more, append-nil}
use Rattle.dali_bytes.specs.Fields.{number32}
use Rattle.dali_bytes.specs.Reading.{number32_at}
use Rattle.dali_bytes.proofs.Numbers.{length-number32, number32_again}
use Rattle.dali_store.specs.Store.{ReadsAt}
use Rattle.dali_log.specs.Batch.{sized, batch, IsBody, IsOpenAt}
use Rattle.dali_log.specs.Finding.{BatchAt, NoBatch}
use Rattle.dali_log.proofs.Bytes.{length-sized}

pub if_some_two : {A : Type 0} (P Q R : A → Type 0) (o : Option A) → IfSome o P → IfSome o Q → ((x : A) → P x → Q x → R x) → IfSome o R
if_some_two P Q R None p q f = tt
if_some_two P Q R (Some x) p q f = f x p q

pub if_some_three : {A : Type 0} (P Q S R : A → Type 0) (o : Option A) → IfSome o P → IfSome o Q → IfSome o S → ((x : A) → P x → Q x → S x → R x) → IfSome o R
if_some_three P Q S R None p q s f = tt
if_some_three P Q S R (Some x) p q s f = f x p q s

-- said of any contents
pub if_some_any : {A : Type 0} (P : A → Type 0) (o : Option A) → ((x : A) → P x) → IfSome o P
if_some_any P None f = tt
if_some_any P (Some x) f = f x

-- said of what another store told, which is the same
pub if_some_same : {A : Type 0} (P : A → Type 0) (o p : Option A) → p ≡ o → IfSome p P → IfSome o P
if_some_same {A = A} P o p same h = subst (λ (t : Option A). IfSome t P) same h

-- all of a buffer was read
pub filled : (file into after : List ℕ) (at n : ℕ) → 0 < length into → ReadsAt file at into n after → n ≡ length into → (at + length into ≤ length file) × (after ≡ take (length into) (drop at file))
filled file into after at n some reads all =
    let rest : drop (length into) into ≡ [] = drop_all (length into) into (omega arith) in
    (omega (arith, reads.count, all, some), reads.bytes ∙ ap (λ (k : ℕ). take k (drop at file) ++ drop k into) all ∙ ap (λ (l : List ℕ). take (length into) (drop at file) ++ l) rest ∙ append-nil (take (length into) (drop at file)))

abbrev first_of : Option (ℕ × List ℕ) → ℕ
first_of None = 0
first_of (Some read) = read.0

-- what is read where a number stands
read_again : (n : ℕ) → n < 2 ^ 32 → first_of (number32_at (number32 n ++ [])) ≡ n
read_again n lt = ap first_of (number32_again n [] lt)

pub same_number : (n m : ℕ) → n < 2 ^ 32 → m < 2 ^ 32 → number32 n ≡ number32 m → n ≡ m
same_number n m ln lm e = sym (read_again n ln) ∙ ap (λ (l : List ℕ). first_of (number32_at (l ++ []))) e ∙ read_again m lm

-- an open gate was read
pub open_read : (log gate : List ℕ) (at : ℕ) → at + 1 ≤ length log → gate ≡ take 1 (drop at log) → get_or gate 0 0 ≡ 165 → IsOpenAt at log
open_read log gate at long e is =
    let there : get_or log (at + 0) 0 ≡ 165 = sym (get_or-drop at log 0 0) ∙ sym (get_or-take 1 (drop at log) 0 0 (omega arith)) ∙ sym (ap (λ (l : List ℕ). get_or l 0 0) e) ∙ is in
    let here : at + 0 ≡ at = omega arith in
    (omega (arith, long), subst (λ (n : ℕ). get_or log n 0 ≡ 165) here there)

-- the length is cut short
pub cut_length : (log : List ℕ) (at : ℕ) → IsOpenAt at log → length log < at + 1 + 4 → NoBatch log at
cut_length log at gate short = record {
  gate = gate;
  none = λ body rest is e. omega (arith, short, is.0, ap length e, length-drop (at + 1) log, length-append (sized body) rest, length-sized body);
}

-- the length isn't that of a batch, or has too few bytes behind it
pub bad_length : (log : List ℕ) (at size : ℕ) → IsOpenAt at log → number32 size ≡ take 4 (drop (at + 1) log) → size < 2 ^ 32 → (size ≡ 0) ⊎ (2 ^ 30 < size) ⊎ (length log < at + 5 + size) → NoBatch log at
bad_length log at size gate e fits bad = record {
  gate = gate;
  none = λ body rest is there.
      let spelled : take 4 (drop (at + 1) log) ≡ number32 (length body) = ap (λ (l : List ℕ). take 4 l) (there ∙ append_assoc (number32 (length body)) body rest) ∙ take_at (number32 (length body)) (body ++ rest) 4 (length-number32 (length body)) in
      let same : size ≡ length body = same_number size (length body) fits (omega (arith, is.1)) (e ∙ spelled) in
      let long : length log - (at + 1) ≡ length body + 4 + length rest = omega (arith, ap length there, length-drop (at + 1) log, length-append (sized body) rest, length-sized body) in
      none_of body rest bad is same long;
}
  where
    none_of : (body rest : List ℕ) → (size ≡ 0) ⊎ (2 ^ 30 < size) ⊎ (length log < at + 5 + size) → IsBody body → size ≡ length body → length log - (at + 1) ≡ length body + 4 + length rest → ⊥
    none_of body rest (inl none) is same long = omega (arith, none, is.0, same)
    none_of body rest (inr (inl much)) is same long = omega (arith, much, is.1, same)
    none_of body rest (inr (inr short)) is same long = omega (arith, short, is.0, same, long)

-- a batch was read
pub batch_read : (log bytes : List ℕ) (at size : ℕ) → IsOpenAt at log → number32 size ≡ take 4 (drop (at + 1) log) → at + 5 + size ≤ length log → bytes ≡ take size (drop (at + 5) log) → 0 < size → size ≤ 2 ^ 30
    → BatchAt log at bytes × (at + 5 + size ≡ at + 5 + length bytes)
batch_read log bytes at size gate e long are some most =
    let count : length bytes ≡ size = omega (arith, ap length are, length-take size (drop (at + 5) log), length-drop (at + 5) log) in
    let rest = drop size (drop (at + 5) log) in
    let place : at + 1 + 4 ≡ at + 5 = omega arith in
    let behind : drop 4 (drop (at + 1) log) ≡ bytes ++ rest =
    drop-drop 4 (at + 1) log ∙ ap (λ (n : ℕ). drop n log) place ∙ sym (take-append-drop size (drop (at + 5) log)) ∙ ap (λ (l : List ℕ). l ++ rest) (sym are) in
    let all : drop at log ≡ batch bytes ++ rest =
    drop_more log at 0 gate.0
    ∙ ap (λ (b : ℕ). b ∷ drop (at + 1) log) gate.1
    ∙ ap (λ (l : List ℕ). 165 ∷ l) (sym (take-append-drop 4 (drop (at + 1) log)) ∙ ap (λ (l : List ℕ). l ++ drop 4 (drop (at + 1) log)) (sym e) ∙ ap (λ (l : List ℕ). number32 size ++ l) behind ∙ ap (λ (n : ℕ). number32 n ++ (bytes ++ rest)) (sym count) ∙ sym (append_assoc (number32 (length bytes)) bytes rest)) in
    let body : IsBody bytes = (omega (arith, count, some), omega (arith, count, most)) in
    let found : BatchAt log at bytes = (body, rest, all) in
    let next : at + 5 + size ≡ at + 5 + length bytes = omega (arith, count) in
    (found, next)
