-- The last epoch of a log, and the records behind its beginning.
use Rattle.std.proofs.Common.{◌≡◌, ℕ, zero, suc, ◌+◌, ◌-◌, ◌<◌, ◌≤◌, Bool, true, false, List, [], ◌∷◌, ◌++◌, length, drop, None, refl, ap, sym, subst, ◌∙◌, append_assoc, arith}
use Rattle.std.specs.Prelude.{nat_lt, unwrap_or}
use Rattle.std.specs.List.{AllByRecursion, find, list_any}
use Rattle.std.proofs.lemmas.List.{append-nil, drop-append-le, drop_all, drop-drop, length_push}
use Rattle.std.proofs.lemmas.Bool.{ltb-true, or_parts}
use Rattle.std.proofs.lemmas.List.Folds.{list_any-append}
use Rattle.dali_lists.proofs.Members.{all_push}
use Rattle.dali_record.specs.declared.records.Record.{Record}
use Rattle.dali_record.specs.declared.records.Record.TheVariants.{Format, Begin, Forward, Done, Commit, Ended, Solo, AuditBegin, AuditClean, AuditFail, Restarted, Back}
use Rattle.dali_record.specs.Epochs.{separates, Epoch, Cut, next_number, cut_step, cut, last_epoch}
use Rattle.dali_record.specs.Files.{ends_behind, epoch_from}
use Rattle.dali_record.proofs.Ends.{by_push}
use Rattle.dali_record.proofs.Pushes.{cut_push}
use Rattle.dali_record.proofs.Batches.{last_push}

-- ---- records behind it
pub last_epoch-append : (L B : List Record) → list_any separates B ≡ false → last_epoch (L ++ B) ≡ record { first = (last_epoch L).first; records = (last_epoch L).records ++ B }
last_epoch-append L [] h = ap last_epoch (append-nil L) ∙ ap (λ (rs : List Record). record { first = (last_epoch L).first; records = rs }) (sym (append-nil (last_epoch L).records))
last_epoch-append L (x ∷ B) h =
    let parts = or_parts (separates x) (list_any separates B) h in
    ap last_epoch (sym (append_assoc L (x ∷ []) B))
    ∙ (last_epoch-append (L ++ x ∷ []) B parts.1
    ∙ (ap (λ (e : Epoch). record { first = e.first; records = e.records ++ B }) (last_push L x parts.0)
    ∙ ap (λ (rs : List Record). record { first = (last_epoch L).first; records = rs }) (append_assoc (last_epoch L).records (x ∷ []) B)))

-- ---- its own records
abbrev IsBehind : Cut → List Record → Type 0
IsBehind c L = (c.now.records ≡ drop c.now.first L) × (list_any separates c.now.records ≡ false) × (c.now.first + length c.now.records ≡ length L)

any_push : (E : List Record) (x : Record) → list_any separates E ≡ false → separates x ≡ false → list_any separates (E ++ x ∷ []) ≡ false
any_push E x h g = list_any-append separates E (x ∷ []) ∙ rw (h, g) refl

one_inside : (c : Cut) (L : List Record) (x : Record) → separates x ≡ false → IsBehind c L → IsBehind (record { closed = c.closed; now = record { first = c.now.first; records = c.now.records ++ x ∷ [] } }) (L ++ x ∷ [])
one_inside c L x h is = (
  ap (λ l. l ++ x ∷ []) is.0 ∙ sym (drop-append-le c.now.first L (x ∷ []) (omega (arith, is.2))),
  any_push c.now.records x is.1 h,
  omega (arith, is.2, length_push c.now.records x, length_push L x),
)

one_apart : (closed : List Epoch) (c : Cut) (L : List Record) (x : Record) → IsBehind c L → IsBehind (record { closed = closed; now = record { first = next_number c.now + 1; records = [] } }) (L ++ x ∷ [])
one_apart closed c L x is = (
  sym (drop_all (next_number c.now + 1) (L ++ x ∷ []) (omega (arith, is.2, length_push L x))),
  refl,
  omega (arith, is.2, length_push L x),
)

behind_step : (c : Cut) (L : List Record) (x : Record) → IsBehind c L → IsBehind (cut_step c x) (L ++ x ∷ [])
behind_step c L (Format i h) is = one_apart c.closed c L (Format i h) is
behind_step c L (Restarted rs ds) is = one_apart (c.closed ++ c.now ∷ []) c L (Restarted rs ds) is
behind_step c L (Begin t) is = one_inside c L (Begin t) refl is
behind_step c L (Forward t b) is = one_inside c L (Forward t b) refl is
behind_step c L (Done t q r) is = one_inside c L (Done t q r) refl is
behind_step c L (Commit t) is = one_inside c L (Commit t) refl is
behind_step c L (Ended t) is = one_inside c L (Ended t) refl is
behind_step c L (Solo t p b) is = one_inside c L (Solo t p b) refl is
behind_step c L AuditBegin is = one_inside c L AuditBegin refl is
behind_step c L (AuditClean b) is = one_inside c L (AuditClean b) refl is
behind_step c L (AuditFail b rs) is = one_inside c L (AuditFail b rs) refl is
behind_step c L (Back t b) is = one_inside c L (Back t b) refl is

-- the log from the number of its first record on
pub is_behind : (L : List Record) → IsBehind (cut L) L
is_behind L = by_push (λ M. IsBehind (cut M) M) (refl, refl, refl) (λ M x is. subst (λ (c : Cut). IsBehind c (M ++ x ∷ [])) (sym (cut_push M x)) (behind_step (cut M) M x is)) L

any_drop : (n : ℕ) (E : List Record) → list_any separates E ≡ false → list_any separates (drop n E) ≡ false
any_drop zero E h = h
any_drop (suc n) [] h = refl
any_drop (suc n) (x ∷ E) h = any_drop n E (or_parts (separates x) (list_any separates E) h).1

-- none of the records from there on separates epochs
pub none_separates : (L : List Record) (n : ℕ) → (last_epoch L).first ≤ n → list_any separates (drop n L) ≡ false
none_separates L n h =
    let is : IsBehind (cut L) L = is_behind L in
    let parts : drop (n - (last_epoch L).first) (last_epoch L).records ≡ drop n L = ap (drop (n - (last_epoch L).first)) is.0 ∙ (drop-drop (n - (last_epoch L).first) (last_epoch L).first L ∙ ap (λ k. drop k L) (omega (arith, h))) in
    subst (λ l. list_any separates l ≡ false) parts (any_drop (n - (last_epoch L).first) (last_epoch L).records is.1)

-- ---- the epochs before it
abbrev pub EndBefore : ℕ → List Epoch → Type 0
EndBefore n es = AllByRecursion (λ (e : Epoch). next_number e < n) es

before_more : (m n : ℕ) (es : List Epoch) → m ≤ n → EndBefore m es → EndBefore n es
before_more m n [] h b = tt
before_more m n (e ∷ es) h b = (omega (arith, h, b.0), before_more m n es h b.1)

before_step : (c : Cut) (x : Record) → EndBefore c.now.first c.closed → EndBefore (cut_step c x).now.first (cut_step c x).closed
before_step c (Format i h) b = before_more c.now.first (next_number c.now + 1) c.closed (omega arith) b
before_step c (Restarted rs ds) b = all_push (λ (e : Epoch). next_number e < next_number c.now + 1) c.closed c.now (before_more c.now.first (next_number c.now + 1) c.closed (omega arith) b) (omega arith)
before_step c _ b = b

-- each of them ends before it begins
pub end_before : (L : List Record) → EndBefore (last_epoch L).first (cut L).closed
end_before L = by_push (λ M. EndBefore (cut M).now.first (cut M).closed) tt (λ M x b. subst (λ (c : Cut). EndBefore c.now.first c.closed) (sym (cut_push M x)) (before_step (cut M) x b)) L

-- ---- the epoch of a number
not_for : (n : ℕ) (e : Epoch) → next_number e ≤ n → ends_behind n e ≡ false
not_for n e h = by_test (nat_lt n (next_number e)) refl
  where
    by_test : (b : Bool) → nat_lt n (next_number e) ≡ b → b ≡ false
    by_test true q = absurd (omega (arith, ltb-true n (next_number e) q, h))
    by_test false q = refl

-- no epoch ends behind n
none_for : (n : ℕ) (es : List Epoch) → AllByRecursion (λ (d : Epoch). next_number d ≤ n) es → find (ends_behind n) es ≡ None
none_for n [] b = refl
none_for n (d ∷ es) b = rw (not_for n d b.0) (none_for n es b.1)

pub sooner : (m n : ℕ) (es : List Epoch) → m ≤ n + 1 → EndBefore m es → AllByRecursion (λ (d : Epoch). next_number d ≤ n) es
sooner m n [] h b = tt
sooner m n (d ∷ es) h b = (omega (arith, h, b.0), sooner m n es h b.1)

-- a number in the last epoch, or that of the record right before it
pub epoch_of : (L : List Record) (n : ℕ) → (last_epoch L).first ≤ n + 1 → epoch_from n L ≡ last_epoch L
epoch_of L n h = ap (λ o. unwrap_or o (last_epoch L)) (none_for n (cut L).closed (sooner (last_epoch L).first n (cut L).closed h (end_before L)))
