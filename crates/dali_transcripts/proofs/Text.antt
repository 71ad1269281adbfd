-- The text of a round goes by the clients' numbers.
use Rattle.std.proofs.Common.{◌≡◌, ℕ, zero, suc, ◌+◌, ◌-◌, ◌≤◌, List, [], ◌++◌, ap, sym, ◌∙◌, arith}
use Rattle.std.proofs.lemmas.List.{append_assoc, append-nil}
use Rattle.dali_transcripts.specs.Words.{Said}
use Rattle.dali_transcripts.specs.Transcripts.{Told, lines_of, text_up_to}
use Rattle.dali_transcripts.specs.Laws.{TextAscends}

record Part (whole part : List ℕ) : Type 0 where
  behind : List ℕ
  is : whole ≡ part ++ behind

module _ (text : ℕ → List Said → List ℕ) (blocks : List Told) (lines : List (List Said)) where
  -- the text up to a client begins with the text up to one before
  begins : (c k d : ℕ) → d ≡ c + k → Part (text_up_to text blocks lines d) (text_up_to text blocks lines c)
  begins c zero d e =
      let same : d ≡ c = omega (arith, e) in
      record { behind = []; is = ap (text_up_to text blocks lines) same ∙ sym (append-nil (text_up_to text blocks lines c)) }
  begins c (suc k) zero e = absurd (omega (arith, e))
  begins c (suc k) (suc d) e =
      let p = begins c k d (omega (arith, e)) in
      record {
        behind = p.behind ++ text (suc d) (lines_of blocks lines (suc d));
        is = ap (λ l. l ++ text (suc d) (lines_of blocks lines (suc d))) p.is
            ∙ append_assoc (text_up_to text blocks lines c) p.behind (text (suc d) (lines_of blocks lines (suc d)));
      }

  part : (c d : ℕ) → c ≤ d → Part (text_up_to text blocks lines d) (text_up_to text blocks lines c)
  part c d h = begins c (d - c) d (omega (arith, h))

pub text_ascends : TextAscends
text_ascends text blocks lines zero d h below within = absurd (omega (arith, h))
text_ascends text blocks lines (suc c) zero h below within = absurd (omega (arith, below))
text_ascends text blocks lines (suc c) (suc d) h below within =
    let U = text_up_to text blocks lines in
    let p = part text blocks lines (suc c) d (omega (arith, below)) in
    let q = part text blocks lines (suc d) 64 within in
    let first = text (suc c) (lines_of blocks lines (suc c)) in
    let second = text (suc d) (lines_of blocks lines (suc d)) in
    record {
      front = U c;
      between = p.behind;
      behind = q.behind;
      is = q.is
          ∙ (append_assoc (U d) second q.behind
          ∙ (ap (λ l. l ++ (second ++ q.behind)) p.is
          ∙ (append_assoc (U c ++ first) p.behind (second ++ q.behind)
          ∙ append_assoc (U c) first (p.behind ++ (second ++ q.behind)))));
    }
