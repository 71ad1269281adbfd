-- Texts that are written one behind another.
use Rattle.std.proofs.Common.{◌≡◌, ℕ, zero, suc, ◌+◌, ◌≤◌, List, [], ◌∷◌, ◌++◌, length, length-append, take, Option, Some, None, refl, ◌∙◌, ap, arith, append_assoc}
use Rattle.dali_streams.specs.Streams.{Appends, AppendsSome}

pub appends_then : (t0 t1 t2 : Option (List ℕ)) (a b : List ℕ) → Appends t0 a t1 → Appends t1 b t2 → Appends t0 (a ++ b) t2
appends_then None None t2 a b one two = two
appends_then None (Some y) t2 a b one two = absurd cc
appends_then (Some x) None t2 a b one two = absurd cc
appends_then (Some x) (Some y) t2 a b one two = two ∙ ap (λ (o : Option (List ℕ)). add o b) one ∙ ap Some (append_assoc x a b)
  where
    add : Option (List ℕ) → List ℕ → Option (List ℕ)
    add None l = None
    add (Some y) l = Some (y ++ l)

take_front : (n : ℕ) (a b : List ℕ) → n ≤ length a → take n a ≡ take n (a ++ b)
take_front zero a b le = refl
take_front (suc n) [] b le = absurd (omega (arith, le))
take_front (suc n) (x ∷ a) b le = ap (λ (l : List ℕ). x ∷ l) (take_front n a b (omega (arith, le)))

pub some_first : (t0 t1 : Option (List ℕ)) (a b : List ℕ) → AppendsSome t0 a t1 → AppendsSome t0 (a ++ b) t1
some_first None t1 a b one = one
some_first (Some x) None a b one = one
some_first (Some x) (Some y) a b one = record {
  count = one.count;
  inside = omega (arith, one.inside, length-append a b);
  added = one.added ∙ ap (λ (l : List ℕ). x ++ l) (take_front one.count a b one.inside);
}

take_past : (a b : List ℕ) (n : ℕ) → a ++ take n b ≡ take (length a + n) (a ++ b)
take_past [] b n = ap (λ (k : ℕ). take k b) (omega arith)
take_past (x ∷ a) b n = ap (λ (l : List ℕ). x ∷ l) (take_past a b n) ∙ ap (λ (k : ℕ). take k (x ∷ a ++ b)) next
  where
    next : suc (length a + n) ≡ length (x ∷ a) + n
    next = omega arith

pub then_some : (t0 t1 t2 : Option (List ℕ)) (a b : List ℕ) → Appends t0 a t1 → AppendsSome t1 b t2 → AppendsSome t0 (a ++ b) t2
then_some None None t2 a b one two = two
then_some None (Some y) t2 a b one two = absurd cc
then_some (Some x) None t2 a b one two = absurd cc
then_some (Some x) (Some y) None a b one two = two
then_some (Some x) (Some y) (Some z) a b one two =
    let same : y ≡ x ++ a = cc in
    record {
      count = length a + two.count;
      inside = omega (arith, two.inside, length-append a b);
      added = two.added ∙ ap (λ (l : List ℕ). l ++ take two.count b) same ∙ append_assoc x a (take two.count b) ∙ ap (λ (l : List ℕ). x ++ l) (take_past a b two.count);
    }
