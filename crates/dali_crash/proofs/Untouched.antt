-- A region that no block of some records is on has the same words with them and without them.
use Rattle.std.proofs.Common.{◌≡◌, ℕ, zero, suc, ◌+◌, ◌-◌, Bool, true, false, cond, List, [], ◌∷◌, take, drop, Option, Some, None, refl, ap, sym, ◌∙◌, arith}
use Rattle.std.specs.Prelude.{◌==◌, fold}
use Rattle.std.proofs.lemmas.List.{take-append-drop, drop-drop}
use Rattle.std.proofs.lemmas.List.Sums.{fold-append}
use Rattle.std.proofs.lemmas.Bool.{eq-eqb}
use Rattle.dali_record.specs.declared.records.Record.{Record}
use Rattle.dali_record.specs.Log.{Touch, touch_of}
use Rattle.dali_record.specs.Damage.{any_touch}
use Rattle.dali_record.specs.Epochs.{last_epoch}
use Rattle.dali_record.specs.Settled.{words_in, redo, redo_touch, redo_all}
use Rattle.dali_record.proofs.Recovery.{words_redo-other}
use Rattle.dali_runs.specs.Run.{on_region, on_step, blocks_on}
use Rattle.dali_runs.proofs.LastEpochs.{is_behind}
use Rattle.dali_runs.proofs.OneMoreTouch.{fold_grows}

none_here : (r : ℕ) (x : Record) (E : List Record) → blocks_on r (x ∷ E) ≡ 0 → (on_region r x ≡ false) × (blocks_on r E ≡ 0)
none_here r x E h = by_test (on_region r x) refl h
  where
    by_test : (b : Bool) → on_region r x ≡ b → fold (on_step r) (cond b 1 0) E ≡ 0 → (on_region r x ≡ false) × (blocks_on r E ≡ 0)
    by_test true e k = absurd (omega (arith, k, fold_grows r 1 E))
    by_test false e k = (e, k)

none_dropped : (r k : ℕ) (E : List Record) → blocks_on r E ≡ 0 → blocks_on r (drop k E) ≡ 0
none_dropped r zero E h = h
none_dropped r (suc k) [] h = h
none_dropped r (suc k) (x ∷ E) h = none_dropped r k E (none_here r x E h).1

left_touch : (image : List (List ℕ)) (o : Option Touch) (r : ℕ) → any_touch (λ a. a.block.region == r) o ≡ false → words_in (redo_touch image o) r ≡ words_in image r
left_touch image None r h = refl
left_touch image (Some a) r h = words_redo-other image a r (λ e. let f : (a.block.region == r) ≡ true = eq-eqb a.block.region r (sym e) in absurd (cc))

left_words : (image : List (List ℕ)) (E : List Record) (r : ℕ) → blocks_on r E ≡ 0 → words_in (redo_all image E) r ≡ words_in image r
left_words image [] r h = refl
left_words image (x ∷ E) r h = let w = none_here r x E h in left_words (redo image x) E r w.1 ∙ left_touch image (touch_of x) r w.0

-- no block of the last epoch either
none_behind : (L : List Record) (r n : ℕ) → blocks_on r (drop n L) ≡ 0 → blocks_on r (drop (n - (last_epoch L).first) (last_epoch L).records) ≡ 0
none_behind L r n h = ap (blocks_on r) same ∙ none_dropped r (f + (n - f) - n) (drop n L) h
  where
    f : ℕ
    f = (last_epoch L).first

    same : drop (n - f) (last_epoch L).records ≡ drop (f + (n - f) - n) (drop n L)
    same = ap (drop (n - f)) (is_behind L).0 ∙ (drop-drop (n - f) f L ∙ (ap (λ k. drop k L) (omega arith) ∙ sym (drop-drop (f + (n - f) - n) n L)))

-- so its words are those that the records below n leave
pub untouched_words : (base : List (List ℕ)) (L : List Record) (r n : ℕ) → blocks_on r (drop n L) ≡ 0 → words_in (redo_all base (last_epoch L).records) r ≡ words_in (redo_all base (take (n - (last_epoch L).first) (last_epoch L).records)) r
untouched_words base L r n h =
    let E : List Record = (last_epoch L).records in
    let k : ℕ = n - (last_epoch L).first in
    ap (λ P. words_in (redo_all base P) r) (sym (take-append-drop k E))
    ∙ (ap (λ (image : List (List ℕ)). words_in image r) (fold-append redo base (take k E) (drop k E))
    ∙ left_words (redo_all base (take k E)) (drop k E) r (none_behind L r n h))
