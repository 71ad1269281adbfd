-- One record more, in a walk that cuts a log into epochs.
use Rattle.std.proofs.Common.{◌≡◌, ℕ, ◌+◌, ◌-◌, ◌<◌, ◌≤◌, Bool, true, false, List, [], ◌∷◌, ◌++◌, length, take, drop, get_or, refl, ap, sym, subst, ◌∙◌, arith}
use Rattle.std.specs.Prelude.{flat_map}
use Rattle.std.proofs.Math.ListN.{drop_of_length-le}
use Rattle.std.proofs.lemmas.List.{append-nil, take_more, length-take-le, drop-append-le, drop-take, length-drop, take_all}
use Rattle.std.proofs.lemmas.Grind.{flat_map-append}
use Rattle.dali_record.specs.declared.records.Record.{Record}
use Rattle.dali_record.specs.declared.records.Record.TheVariants.{Format, Restarted}
use Rattle.dali_record.specs.Epochs.{Cut, cut, cut_step}
use Rattle.dali_record.proofs.Pushes.{cut_push, separates}
use Rattle.dali_history.proofs.OwnEpoch.{cut_step_more}
use Rattle.dali_replay.specs.Marking.{deleted_of}
use Rattle.dali_replay.specs.Cutting.{opens, closes, IsCutAt}

opens_is : (r : Record) → opens r ≡ separates r
opens_is (Format i h) = refl
opens_is _ = refl

pub cut_start : (L : List Record) → IsCutAt L 0 0 []
cut_start L = record { within = omega arith; number = refl; records = refl; deleted = refl }

-- the place of the next record, and what is left of the open epoch there
module _ (L : List Record) (n first : ℕ) (ds : List ℕ) (r : Record) (inside : n < length L) (is : r ≡ get_or L n r) (h : IsCutAt L n first ds) where
  whole : take (n + 1) L ≡ take n L ++ r ∷ []
  whole = take_more L n r inside ∙ ap (λ x. take n L ++ x ∷ []) (sym is)

  stepped : cut (take (n + 1) L) ≡ cut_step (cut (take n L)) r
  stepped = ap cut whole ∙ cut_push (take n L) r

  long : length (take n L) ≡ n
  long = length-take-le n L (omega (arith, inside))

  pub cut_more : opens r ≡ false → IsCutAt L (n + 1) first ds
  cut_more o = record {
    within = omega (arith, h.within);
    number = ap (λ (c : Cut). c.now.first) same ∙ h.number;
    records = ap (λ (c : Cut). c.now.records) same ∙ ap (λ xs. xs ++ r ∷ []) h.records ∙ sym (ap (drop first) whole ∙ drop-append-le first (take n L) (r ∷ []) (omega (arith, h.within, long)));
    deleted = h.deleted ∙ sym (ap (λ (c : Cut). flat_map deleted_of c.closed) same);
  }
    where
      same : cut (take (n + 1) L) ≡ record { closed = (cut (take n L)).closed; now = record { first = (cut (take n L)).now.first; records = (cut (take n L)).now.records ++ r ∷ [] } }
      same = stepped ∙ cut_step_more (cut (take n L)) r (sym (opens_is r) ∙ o)

  -- the open epoch begins behind this record
  next : (cut (take n L)).now.first + length (cut (take n L)).now.records + 1 ≡ n + 1
  next = omega (arith, h.number, h.within, ap length h.records, length-drop first (take n L), long)

  none : [] ≡ drop (n + 1) (take (n + 1) L)
  none = sym (drop_of_length-le (take (n + 1) L) (omega (arith, length-take-le (n + 1) L (omega (arith, inside)))))

  now_is : (cut (take n L)).now ≡ record { first = first; records = take (n - first) (drop first L) }
  now_is = ap (λ x. record { first = x; records = (cut (take n L)).now.records }) h.number ∙ ap (λ xs. record { first = first; records = xs }) (h.records ∙ ap (λ m. drop first (take m L)) split ∙ drop-take first (n - first) L)
    where
      split : n ≡ first + (n - first)
      split = omega (arith, h.within)

  pub cut_format : opens r ≡ true → closes r ≡ false → IsCutAt L (n + 1) (n + 1) ds
  cut_format o c = by_record r stepped o c
    where
      by_record : (x : Record) → cut (take (n + 1) L) ≡ cut_step (cut (take n L)) x → opens x ≡ true → closes x ≡ false → IsCutAt L (n + 1) (n + 1) ds
      by_record (Format i k) s p q = record {
        within = omega arith;
        number = ap (λ (d : Cut). d.now.first) s ∙ next;
        records = ap (λ (d : Cut). d.now.records) s ∙ none;
        deleted = h.deleted ∙ sym (ap (λ (d : Cut). flat_map deleted_of d.closed) s);
      }
      by_record (Restarted rs es) s p q = absurd (cc)
      by_record x s p q = absurd (cc)

  pub cut_close : closes r ≡ true → (es : List ℕ) → es ≡ ds ++ deleted_of (record { first = first; records = take (n - first) (drop first L) }) → IsCutAt L (n + 1) (n + 1) es
  cut_close c es e = by_record r stepped c
    where
      all : es ≡ flat_map deleted_of ((cut (take n L)).closed ++ (cut (take n L)).now ∷ [])
      all =
          e ∙ ap (λ xs. xs ++ deleted_of (record { first = first; records = take (n - first) (drop first L) })) h.deleted
          ∙ ap (λ x. flat_map deleted_of (cut (take n L)).closed ++ deleted_of x) (sym now_is)
          ∙ ap (λ xs. flat_map deleted_of (cut (take n L)).closed ++ xs) (sym (append-nil (deleted_of (cut (take n L)).now)))
          ∙ sym (flat_map-append deleted_of (cut (take n L)).closed ((cut (take n L)).now ∷ []))

      by_record : (x : Record) → cut (take (n + 1) L) ≡ cut_step (cut (take n L)) x → closes x ≡ true → IsCutAt L (n + 1) (n + 1) es
      by_record (Restarted rs qs) s p = record {
        within = omega arith;
        number = ap (λ (d : Cut). d.now.first) s ∙ next;
        records = ap (λ (d : Cut). d.now.records) s ∙ none;
        deleted = all ∙ sym (ap (λ (d : Cut). flat_map deleted_of d.closed) s);
      }
      by_record x s p = absurd (cc)
