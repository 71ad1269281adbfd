-- Effects of which neither writes what the other reads.
use Rattle.std.proofs.Common.{◌≡◌, ℕ, List, length, get_or, ap, sym, ◌∙◌, ◌⊎◌, inl, inr, arith}
use Rattle.std.specs.Int.{bit_at}
use Rattle.std.proofs.lemmas.List.{ext_get_or}
use Rattle.std.proofs.lemmas.Nat.Bits.{bit_at-lt}
use Rattle.dali_words.specs.declared.Effect.{Effect}
use Rattle.dali_words.specs.Words.{under, write_under, AgreeUnder}
use Rattle.dali_words.specs.Effects.{carried, IsWithin, AnswersByReads}
use Rattle.dali_words.specs.Laws.{AnswersCommute, ApartCommute}
use Rattle.dali_words.proofs.Masks.{length-write_under, write_under_other}
use Rattle.dali_words.proofs.Writes.{write_under_in}

-- a bit is 0 or 1
bit_cases : (m i : ℕ) → (bit_at m i ≡ 0) ⊎ (bit_at m i ≡ 1)
bit_cases m i = let low = bit_at-lt m i in grind arith

-- what e leaves agrees where f reads
pub agree_after : (ws : List ℕ) (e f : Effect) → IsWithin ws e → ((i : ℕ) → bit_at e.write i ≡ 1 → bit_at f.read i ≡ 0) → AgreeUnder f.read ws e.after
agree_after ws e f within apart = record { count = sym within.count; same = λ i h. go i h (bit_cases e.write i) }
  where
    go : (i : ℕ) → bit_at f.read i ≡ 1 → (bit_at e.write i ≡ 0) ⊎ (bit_at e.write i ≡ 1) → get_or ws i 0 ≡ get_or e.after i 0
    go i h (inl a) = sym (within.others i a)
    go i h (inr a) = let no = apart i a in absurd (omega arith)

-- new words of one over those of the other
over : (ws : List ℕ) (e f : Effect) → IsWithin ws e → IsWithin ws f → ((i : ℕ) → bit_at e.write i ≡ 1 → bit_at f.read i ≡ 0) → write_under e.write (under e.write e.after) f.after ≡ write_under f.write (under f.write f.after) e.after
over ws e f a b apart = ext_get_or 0 (write_under e.write (under e.write e.after) f.after) (write_under f.write (under f.write f.after) e.after) sizes (λ i _. each i (bit_cases e.write i) (bit_cases f.write i))
  where
    here : length e.after ≡ length f.after
    here = a.count ∙ sym b.count

    sizes : length (write_under e.write (under e.write e.after) f.after) ≡ length (write_under f.write (under f.write f.after) e.after)
    sizes = length-write_under e.write (under e.write e.after) f.after ∙ sym here ∙ sym (length-write_under f.write (under f.write f.after) e.after)

    each : (i : ℕ) → (bit_at e.write i ≡ 0) ⊎ (bit_at e.write i ≡ 1) → (bit_at f.write i ≡ 0) ⊎ (bit_at f.write i ≡ 1) → get_or (write_under e.write (under e.write e.after) f.after) i 0 ≡ get_or (write_under f.write (under f.write f.after) e.after) i 0
    each i (inl p) (inl q) = write_under_other e.write (under e.write e.after) f.after i p ∙ b.others i q ∙ sym (a.others i p) ∙ sym (write_under_other f.write (under f.write f.after) e.after i q)
    each i (inl p) (inr q) = write_under_other e.write (under e.write e.after) f.after i p ∙ sym (write_under_in f.write f.after e.after i (sym here) q)
    each i (inr p) (inl q) = write_under_in e.write e.after f.after i here p ∙ sym (write_under_other f.write (under f.write f.after) e.after i q)
    each i (inr p) (inr q) = let no = apart i p in let yes = b.inside i q in absurd (omega arith)

pub apart_commute : ApartCommute
apart_commute f g ws df dg wf wg apart = record { first = first; second = second; same = ap (λ (e : Effect). e.after) first ∙ over ws (f ws) (g ws) wf wg apart.left ∙ sym (ap (λ (e : Effect). e.after) second) }
  where
    first : f (g ws).after ≡ carried (f ws) (g ws).after
    first = df (g ws).after (agree_after ws (g ws) (f ws) wg apart.right)

    second : g (f ws).after ≡ carried (g ws) (f ws).after
    second = dg (f ws).after (agree_after ws (f ws) (g ws) wf apart.left)

-- f does the same after g as before it, and writes nothing that g reads
pub answers_commute :
    {O P : Type 0} (f : List ℕ → Effect × O) (g : List ℕ → Effect × P) (ws : List ℕ)
    → f (g ws).0.after ≡ (carried (f ws).0 (g ws).0.after, (f ws).1)
    → AnswersByReads g ws → IsWithin ws (f ws).0 → IsWithin ws (g ws).0
    → ((i : ℕ) → bit_at (f ws).0.write i ≡ 1 → bit_at (g ws).0.read i ≡ 0)
    → AnswersCommute f g ws
answers_commute {O} {P} f g ws first dg wf wg apart = record { first = first; second = second; same = ap (λ (r : Effect × O). r.0.after) first ∙ over ws (f ws).0 (g ws).0 wf wg apart ∙ sym (ap (λ (r : Effect × P). r.0.after) second) }
  where
    second : g (f ws).0.after ≡ (carried (g ws).0 (f ws).0.after, (g ws).1)
    second = dg (f ws).0.after (agree_after ws (f ws).0 (g ws).0 wf apart)
