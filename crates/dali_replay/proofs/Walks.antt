-- One step of a walk over records with their marks.
use Rattle.std.proofs.Common.{◌≡◌, ℕ, zero, suc, ◌+◌, ◌<◌, Bool, true, false, List, [], ◌∷◌, ◌++◌, length, take, drop, refl, ap, sym, subst, ◌∙◌, arith, append_assoc}
use Rattle.std.specs.Prelude.{◌||◌}
use Rattle.std.proofs.lemmas.List.{append-nil}
use Rattle.dali_record.specs.declared.operations.Block.{Block}
use Rattle.dali_record.specs.declared.records.Record.{Record}
use Rattle.dali_replay.specs.Marking.{linked_here, linked_after, corrupt_here, corrupted}

-- a first record that is linked
pub linked_first : (before rs : List Record) (ks : List Bool) (t : ℕ) (b : Block) → linked_here before rs ks t b ≡ true → linked_after before rs ks t b ≡ true
linked_first before [] ks t b h = h
linked_first before (r ∷ rs) [] t b h = h
linked_first before (r ∷ rs) (k ∷ ks) t b h = rw h refl

-- one that isn't
linked_next : (before : List Record) (r : Record) (rs : List Record) (k : Bool) (ks : List Bool) (t : ℕ) (b : Block) → linked_here before (r ∷ rs) (k ∷ ks) t b ≡ false → linked_after before (r ∷ rs) (k ∷ ks) t b ≡ linked_after (before ++ r ∷ []) rs ks t b
linked_next before r rs k ks t b h = rw h refl

linked_from : (F rs : List Record) (ks : List Bool) (n t : ℕ) (b : Block) → n < length rs → length ks ≡ length rs → linked_here (F ++ take n rs) (drop n rs) (drop n ks) t b ≡ false → linked_after (F ++ take n rs) (drop n rs) (drop n ks) t b ≡ linked_after (F ++ take (suc n) rs) (drop (suc n) rs) (drop (suc n) ks) t b
linked_from F [] ks n t b l e h = absurd (omega (arith, l))
linked_from F (r ∷ rs) [] n t b l e h = absurd (omega (arith, e))
linked_from F (r ∷ rs) (k ∷ ks) zero t b l e h = linked_next (F ++ []) r rs k ks t b h ∙ ap (λ G. linked_after (G ++ r ∷ []) rs ks t b) (append-nil F)
linked_from F (r ∷ rs) (k ∷ ks) (suc n) t b l e h =
    ap (λ G. linked_after G (drop n rs) (drop n ks) t b) (sym (append_assoc F (r ∷ []) (take n rs)))
    ∙ linked_from (F ++ r ∷ []) rs ks n t b (omega (arith, l)) (omega (arith, e)) (subst (λ G. linked_here G (drop n rs) (drop n ks) t b ≡ false) (sym (append_assoc F (r ∷ []) (take n rs))) h)
    ∙ ap (λ G. linked_after G (drop (suc n) rs) (drop (suc n) ks) t b) (append_assoc F (r ∷ []) (take (suc n) rs))

pub linked_step : (rs : List Record) (ks : List Bool) (n t : ℕ) (b : Block) → n < length rs → length ks ≡ length rs → linked_here (take n rs) (drop n rs) (drop n ks) t b ≡ false → linked_after (take n rs) (drop n rs) (drop n ks) t b ≡ linked_after (take (n + 1) rs) (drop (n + 1) rs) (drop (n + 1) ks) t b
linked_step rs ks n t b l e h = let more : suc n ≡ n + 1 = omega arith in subst (λ m. linked_after (take n rs) (drop n rs) (drop n ks) t b ≡ linked_after (take m rs) (drop m rs) (drop m ks) t b) more (linked_from [] rs ks n t b l e h)

-- nothing is left
pub linked_none : (before rs : List Record) (ks : List Bool) (n t : ℕ) (b : Block) → length rs ≡ n → linked_after before (drop n rs) ks t b ≡ false
linked_none before [] ks zero t b e = refl
linked_none before [] ks (suc n) t b e = refl
linked_none before (r ∷ rs) ks zero t b e = absurd (omega (arith, e))
linked_none before (r ∷ rs) ks (suc n) t b e = linked_none before rs ks n t b (omega (arith, e))

-- ---- the same, where a transaction is looked for
pub corrupt_first : (rs : List Record) (ks : List Bool) (t : ℕ) → corrupt_here rs ks t ≡ true → corrupted rs ks t ≡ true
corrupt_first [] ks t h = h
corrupt_first (r ∷ rs) [] t h = h
corrupt_first (r ∷ rs) (k ∷ ks) t h = rw h refl

corrupt_from : (rs : List Record) (ks : List Bool) (n t : ℕ) → n < length rs → length ks ≡ length rs → corrupt_here (drop n rs) (drop n ks) t ≡ false → corrupted (drop n rs) (drop n ks) t ≡ corrupted (drop (suc n) rs) (drop (suc n) ks) t
corrupt_from [] ks n t l e h = absurd (omega (arith, l))
corrupt_from (r ∷ rs) [] n t l e h = absurd (omega (arith, e))
corrupt_from (r ∷ rs) (k ∷ ks) zero t l e h = rw h refl
corrupt_from (r ∷ rs) (k ∷ ks) (suc n) t l e h = corrupt_from rs ks n t (omega (arith, l)) (omega (arith, e)) h

pub corrupt_step : (rs : List Record) (ks : List Bool) (n t : ℕ) → n < length rs → length ks ≡ length rs → corrupt_here (drop n rs) (drop n ks) t ≡ false → corrupted (drop n rs) (drop n ks) t ≡ corrupted (drop (n + 1) rs) (drop (n + 1) ks) t
corrupt_step rs ks n t l e h = let more : suc n ≡ n + 1 = omega arith in subst (λ m. corrupted (drop n rs) (drop n ks) t ≡ corrupted (drop m rs) (drop m ks) t) more (corrupt_from rs ks n t l e h)

pub corrupt_none : (rs : List Record) (ks : List Bool) (n t : ℕ) → length rs ≡ n → corrupted (drop n rs) ks t ≡ false
corrupt_none [] ks zero t e = refl
corrupt_none [] ks (suc n) t e = refl
corrupt_none (r ∷ rs) ks zero t e = absurd (omega (arith, e))
corrupt_none (r ∷ rs) ks (suc n) t e = corrupt_none rs ks n t (omega (arith, e))
