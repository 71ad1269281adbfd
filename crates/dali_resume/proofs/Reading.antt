-- The records that a restart reads behind an image are those of its epoch.
use Rattle.std.proofs.Common.{◌≡◌, ℕ, zero, suc, ◌+◌, ◌-◌, ◌<◌, ◌≤◌, Bool, true, false, cond, List, [], ◌∷◌, ◌++◌, length, drop, Option, Some, None, refl, ap, sym, subst, ◌∙◌, ◌⊎◌, inl, inr, ⊎_elim, append_assoc, arith}
use Rattle.std.specs.Prelude.{Contains, max, IsSome, slice_get, unwrap_or}
use Rattle.std.specs.List.{AllByRecursion, find}
use Rattle.std.proofs.lemmas.List.{append-nil, drop-append-le, length-append, length-drop}
use Rattle.std.proofs.lemmas.Bool.{cases_lt, ltb-false}
use Rattle.dali_lists.proofs.Lists.{push-not_nil, get_push}
use Rattle.dali_lists.proofs.Members.{all_weaker, all_push, contains_first, contains_more}
use Rattle.dali_geometry.specs.Sizes.{Sizes}
use Rattle.dali_record.specs.declared.records.Record.{Record}
use Rattle.dali_record.specs.declared.records.Record.TheVariants.{Format, Begin, Forward, Done, Commit, Ended, Solo, AuditBegin, AuditClean, AuditFail, Restarted, Back}
use Rattle.dali_record.specs.Epochs.{Epoch, Cut, cut, cut_step, epochs, separates, next_number}
use Rattle.dali_record.specs.Epochs.{last_epoch, recovered_epoch, recovered_or}
use Rattle.dali_record.specs.Log.{last_of}
use Rattle.dali_record.specs.Files.{ends_behind, epoch_from}
use Rattle.dali_record.specs.Legal.{Rules, rules_state}
use Rattle.dali_record.proofs.Ends.{by_push, get_old}
use Rattle.dali_record.proofs.Pushes.{cut_push}
use Rattle.dali_record.proofs.Stages.{IsWithin}
use Rattle.dali_record.proofs.EpochRules.{format_first, rules_before, within_push}
use Rattle.dali_crash.proofs.Fitting.{within_epoch}
use Rattle.dali_resume.specs.Resumed.{first_from, records_from}
use Rattle.dali_resume.specs.Reading.{up_to_next, part_from, number_from}
use Rattle.dali_resume.specs.Laws.{ReadsEpoch}
use Rattle.dali_resume.proofs.Audits.{length_more}

-- ---- where an epoch stands in its log
-- what follows is nothing, or begins with what separates epochs
abbrev pub IsEnd : List Record → Type 0
IsEnd [] = Unit {0}
IsEnd (r ∷ Z) = separates r ≡ true

-- before the first record of an epoch one separates epochs, if any stands there
abbrev pub IsLed : List Record → ℕ → Type 0
IsLed L zero = Unit {0}
IsLed L (suc f) = (r : Record) × (slice_get L f ≡ Some r) × (separates r ≡ true)

pub record Placed (L : List Record) (e : Epoch) : Type 0 where
  pub led : IsLed L e.first
  pub behind : List Record
  pub there : drop e.first L ≡ e.records ++ behind
  pub end : IsEnd behind
  pub within : IsWithin e.records
  pub low : e.first ≤ length L

led_more : (L : List Record) (r : Record) (f : ℕ) → f ≤ length L → IsLed L f → IsLed (L ++ r ∷ []) f
led_more L r zero h w = tt
led_more L r (suc f) h w = (w.0, get_old L r f (omega (arith, h)) ∙ w.1, w.2)

end_more : (Z : List Record) (r : Record) → IsEnd Z → (Z ≡ [] → separates r ≡ true) → IsEnd (Z ++ r ∷ [])
end_more [] r h k = k refl
end_more (z ∷ Z) r h k = h

-- a record more, where it ends the epoch or this was ended
placed_more : (L : List Record) (r : Record) (e : Epoch) (p : Placed L e) → (p.behind ≡ [] → separates r ≡ true) → Placed (L ++ r ∷ []) e
placed_more L r e p k = record {
  led = led_more L r e.first p.low p.led;
  behind = p.behind ++ r ∷ [];
  there = drop-append-le e.first L (r ∷ []) p.low ∙ (ap (λ X. X ++ r ∷ []) p.there ∙ append_assoc e.records p.behind (r ∷ []));
  end = end_more p.behind r p.end k;
  within = p.within;
  low = omega (arith, p.low, length_more L r);
}

IsClosed : List Record → Epoch → Type 0
IsClosed L e = (p : Placed L e) × (p.behind ≡ [] → ⊥)

closed_more : (L : List Record) (r : Record) (e : Epoch) → IsClosed L e → IsClosed (L ++ r ∷ []) e
unfolding IsClosed placed_more
closed_more L r e w = (placed_more L r e w.0 (λ h. absurd (w.1 h)), λ h. never w.0.behind h)
  where
    never : (Z : List Record) → Z ++ r ∷ [] ≡ [] → ⊥
    never [] h = cc
    never (z ∷ Z) h = cc

-- two epochs stand side by side
abbrev AreLinked : List Epoch → Epoch → Type 0
AreLinked [] now = Unit {0}
AreLinked (e ∷ []) now = now.first ≡ next_number e + 1
AreLinked (e ∷ d ∷ es) now = (d.first ≡ next_number e + 1) × AreLinked (d ∷ es) now

-- the first of them
abbrev head_first : List Epoch → Epoch → ℕ
head_first [] now = now.first
head_first (e ∷ es) now = e.first

record State (L : List Record) (c : Cut) : Type 0 where
  closed : AllByRecursion (IsClosed L) c.closed
  now : Placed L c.now
  open' : now.behind ≡ []
  count : next_number c.now ≡ length L
  linked : AreLinked c.closed c.now
  head : head_first c.closed c.now ≤ 1
  -- where no record was logged, nothing is closed
  fresh : L ≡ [] → c.closed ≡ []

linked_same : (es : List Epoch) (a b : Epoch) → a.first ≡ b.first → AreLinked es a → AreLinked es b
linked_same [] a b h w = tt
linked_same (e ∷ []) a b h w = sym h ∙ w
linked_same (e ∷ d ∷ es) a b h w = (w.0, linked_same (d ∷ es) a b h w.1)

linked_push : (es : List Epoch) (e now : Epoch) → AreLinked es e → now.first ≡ next_number e + 1 → AreLinked (es ++ e ∷ []) now
linked_push [] e now w h = h
linked_push (x ∷ []) e now w h = (w, h)
linked_push (x ∷ y ∷ es) e now w h = (w.0, linked_push (y ∷ es) e now w.1 h)

linked_last : (es : List Epoch) (e now : Epoch) → last_of es ≡ Some e → AreLinked es now → now.first ≡ next_number e + 1
linked_last [] e now h w = absurd (cc)
linked_last (x ∷ []) e now h w = let same : x ≡ e = cc in w ∙ ap (λ z. next_number z + 1) same
linked_last (x ∷ y ∷ es) e now h w = linked_last (y ∷ es) e now h w.1

head_push : (es : List Epoch) (e now : Epoch) → head_first (es ++ e ∷ []) now ≡ head_first es e
head_push [] e now = refl
head_push (x ∷ es) e now = refl

head_same : (es : List Epoch) (a b : Epoch) → a.first ≡ b.first → head_first es a ≡ head_first es b
head_same [] a b h = h
head_same (x ∷ es) a b h = refl

drop_whole : {X : Type 0} (L : List X) (r : X) → drop (suc (length L)) (L ++ r ∷ []) ≡ []
drop_whole [] r = refl
drop_whole (x ∷ L) r = drop_whole L r

within_none : IsWithin []
within_none i r e = absurd (cc)

-- the epoch behind a record that separates
fresh_place : (L : List Record) (r : Record) (f : ℕ) → separates r ≡ true → f ≡ suc (length L) → Placed (L ++ r ∷ []) (record { first = f; records = [] })
fresh_place L r f sep h = record {
  led = subst (IsLed (L ++ r ∷ [])) (sym h) (r, get_push L r, sep);
  behind = [];
  there = ap (λ k. drop k (L ++ r ∷ [])) h ∙ drop_whole L r;
  end = tt;
  within = within_none;
  low = omega (arith, h, length_more L r);
}

state_plain : (L : List Record) (c : Cut) (r : Record) → State L c → separates r ≡ false → State (L ++ r ∷ []) (record { closed = c.closed; now = record { first = c.now.first; records = c.now.records ++ r ∷ [] } })
state_plain L c r w plain = record {
  closed = all_weaker (IsClosed L) (IsClosed (L ++ r ∷ [])) c.closed (λ e k. closed_more L r e k) w.closed;
  now = record {
    led = led_more L r c.now.first w.now.low w.now.led;
    behind = [];
    there = drop-append-le c.now.first L (r ∷ []) w.now.low ∙ (ap (λ X. X ++ r ∷ []) (w.now.there ∙ (ap (λ Z. c.now.records ++ Z) w.open' ∙ append-nil c.now.records)) ∙ sym (append-nil (c.now.records ++ r ∷ [])));
    end = tt;
    within = within_push c.now.records r w.now.within plain;
    low = omega (arith, w.now.low, length_more L r);
  };
  open' = refl;
  count = omega (arith, w.count, length_more L r, length_more c.now.records r);
  linked = linked_same c.closed c.now (record { first = c.now.first; records = c.now.records ++ r ∷ [] }) refl w.linked;
  head = omega (arith, w.head, head_same c.closed c.now (record { first = c.now.first; records = c.now.records ++ r ∷ [] }) refl);
  fresh = λ h. absurd (push-not_nil L r h);
}

state_step : (s : Sizes) (L : List Record) (r : Record) (h : Rules) → rules_state s (L ++ r ∷ []) ≡ Some h → State L (cut L) → State (L ++ r ∷ []) (cut_step (cut L) r)
unfolding fresh_place IsClosed placed_more
state_step s L (Format i k) h e w =
    let empty : L ≡ [] = format_first s L i k h e in
    let none : (cut L).closed ≡ [] = w.fresh empty in
    let size : length L ≡ 0 = ap length empty in
    record {
      closed = all_weaker (IsClosed L) (IsClosed (L ++ Format i k ∷ [])) (cut L).closed (λ d c. closed_more L (Format i k) d c) w.closed;
      now = fresh_place L (Format i k) (next_number (cut L).now + 1) refl (omega (arith, w.count));
      open' = refl;
      count = omega (arith, w.count, length_more L (Format i k));
      linked = subst (λ es. AreLinked es (record { first = next_number (cut L).now + 1; records = [] })) (sym none) tt;
      head = omega (arith, w.count, size, ap (λ es. head_first es (record { first = next_number (cut L).now + 1; records = [] })) none);
      fresh = λ x. absurd (push-not_nil L (Format i k) x);
    }
state_step s L (Begin t) h e w = state_plain L (cut L) (Begin t) w refl
state_step s L (Forward t b) h e w = state_plain L (cut L) (Forward t b) w refl
state_step s L (Done t c a) h e w = state_plain L (cut L) (Done t c a) w refl
state_step s L (Commit t) h e w = state_plain L (cut L) (Commit t) w refl
state_step s L (Ended t) h e w = state_plain L (cut L) (Ended t) w refl
state_step s L (Solo t p b) h e w = state_plain L (cut L) (Solo t p b) w refl
state_step s L AuditBegin h e w = state_plain L (cut L) AuditBegin w refl
state_step s L (AuditClean b) h e w = state_plain L (cut L) (AuditClean b) w refl
state_step s L (AuditFail b rs) h e w = state_plain L (cut L) (AuditFail b rs) w refl
state_step s L (Restarted rs ds) h e w = record {
  closed = all_push (IsClosed (L ++ Restarted rs ds ∷ [])) (cut L).closed (cut L).now (all_weaker (IsClosed L) (IsClosed (L ++ Restarted rs ds ∷ [])) (cut L).closed (λ d c. closed_more L (Restarted rs ds) d c) w.closed) just;
  now = fresh_place L (Restarted rs ds) (next_number (cut L).now + 1) refl (omega (arith, w.count));
  open' = refl;
  count = omega (arith, w.count, length_more L (Restarted rs ds));
  linked = linked_push (cut L).closed (cut L).now (record { first = next_number (cut L).now + 1; records = [] }) w.linked refl;
  head = omega (arith, w.head, head_push (cut L).closed (cut L).now (record { first = next_number (cut L).now + 1; records = [] }));
  fresh = λ x. absurd (push-not_nil L (Restarted rs ds) x);
}
  where
    just : IsClosed (L ++ Restarted rs ds ∷ []) (cut L).now
    just = (placed_more L (Restarted rs ds) (cut L).now w.now (λ z. refl), λ z. push-not_nil w.now.behind (Restarted rs ds) z)
state_step s L (Back t b) h e w = state_plain L (cut L) (Back t b) w refl

state_of : (s : Sizes) (L : List Record) → IsSome (rules_state s L) → State L (cut L)
state_of s L some = by_state (rules_state s L) refl some
  where
    start : (h : Rules) → rules_state s [] ≡ Some h → State [] (cut [])
    start h e = record {
      closed = tt;
      now = record { led = tt; behind = []; there = refl; end = tt; within = within_none; low = omega arith };
      open' = refl;
      count = refl;
      linked = tt;
      head = omega arith;
      fresh = λ x. refl;
    }

    step : (M : List Record) (r : Record) → ((h : Rules) → rules_state s M ≡ Some h → State M (cut M)) → (h : Rules) → rules_state s (M ++ r ∷ []) ≡ Some h → State (M ++ r ∷ []) (cut (M ++ r ∷ []))
    step M r ih h e = let b = rules_before s M r h e in subst (State (M ++ r ∷ [])) (sym (cut_push M r)) (state_step s M r h e (ih b.0 b.1))

    by_state : (o : Option Rules) → rules_state s L ≡ o → IsSome o → State L (cut L)
    by_state None e q = absurd (cc)
    by_state (Some g) e q = by_push (λ M. (h : Rules) → rules_state s M ≡ Some h → State M (cut M)) start step L g e

-- ---- the epoch that is found

found_low : (n : ℕ) (es : List Epoch) (now : Epoch) → AreLinked es now → head_first es now ≤ n + 1 → (unwrap_or (find (ends_behind n) es) now).first ≤ n + 1
found_low n [] now w h = h
found_low n (d ∷ es) now w h = by_test (ends_behind n d) refl (λ low. found_low n es now (tail es w) low)
  where
    tail : (ds : List Epoch) → AreLinked (d ∷ ds) now → AreLinked ds now
    tail [] k = tt
    tail (x ∷ ds) k = k.1

    next : (ds : List Epoch) → AreLinked (d ∷ ds) now → head_first ds now ≡ next_number d + 1
    next [] k = k
    next (x ∷ ds) k = k.0

    by_test : (b : Bool) → ends_behind n d ≡ b → (head_first es now ≤ n + 1 → (unwrap_or (find (ends_behind n) es) now).first ≤ n + 1) → (unwrap_or (cond b (Some d) (find (ends_behind n) es)) now).first ≤ n + 1
    by_test true k later = h
    by_test false k later = later (omega (arith, next es w, ltb-false n (next_number d) k))

-- what is so of each epoch is so of the one that is found
found_all : (Q : Epoch → Type 0) (n : ℕ) (es : List Epoch) (now : Epoch) → AllByRecursion Q es → Q now → Q (unwrap_or (find (ends_behind n) es) now)
found_all Q n [] now all last = last
found_all Q n (d ∷ es) now all last = by_test (ends_behind n d) (found_all Q n es now all.1 last)
  where
    by_test : (b : Bool) → Q (unwrap_or (find (ends_behind n) es) now) → Q (unwrap_or (cond b (Some d) (find (ends_behind n) es)) now)
    by_test true later = all.0
    by_test false later = later

pub found_in : (n : ℕ) (L : List Record) (e : Epoch) → epoch_from n L ≡ e → Contains (epochs L) e
found_in n L e is = subst (Contains (epochs L)) is (in_either (cut L).closed (cut L).now)
  where
    in_either : (es : List Epoch) (now : Epoch) → Contains (es ++ now ∷ []) (unwrap_or (find (ends_behind n) es) now)
    in_either [] now = contains_first now []
    in_either (d ∷ es) now = by_test (ends_behind n d) (in_either es now)
      where
        by_test : (b : Bool) → Contains (es ++ now ∷ []) (unwrap_or (find (ends_behind n) es) now)
            → Contains (d ∷ (es ++ now ∷ [])) (unwrap_or (cond b (Some d) (find (ends_behind n) es)) now)
        by_test true later = contains_first d (es ++ now ∷ [])
        by_test false later = contains_more d _ (es ++ now ∷ []) later

-- where the epoch of a number stands
pub placed : (s : Sizes) (L : List Record) (e : Epoch) (n : ℕ) → IsSome (rules_state s L) → epoch_from n L ≡ e → Placed L e × (e.first ≤ n + 1)
unfolding IsClosed
placed s L e n rules found = (
  subst (Placed L) found (found_all (Placed L) n (cut L).closed (cut L).now (all_weaker (IsClosed L) (Placed L) (cut L).closed (λ x w. w.0) st.closed) st.now),
  subst (λ (x : Epoch). x.first ≤ n + 1) found (found_low n (cut L).closed (cut L).now st.linked (omega (arith, st.head))),
)
  where
    st : State L (cut L)
    st = state_of s L rules

-- ---- what is read
up_to_end : (D Z : List Record) → IsWithin D → IsEnd Z → up_to_next (D ++ Z) ≡ D
up_to_end [] [] h k = refl
up_to_end [] (z ∷ Z) h k = rw k refl
up_to_end (r ∷ D) Z h k = rw (h 0 r refl) (ap (λ X. r ∷ X) (up_to_end D Z (λ i q e. h (suc i) q e) k))

within_drop : (k : ℕ) (E : List Record) → IsWithin E → IsWithin (drop k E)
within_drop zero E h = h
within_drop (suc k) [] h = h
within_drop (suc k) (r ∷ E) h = within_drop k E (λ i q e. h (suc i) q e)

pub get_then : {X : Type 0} (L : List X) (n : ℕ) (r : X) → slice_get L n ≡ Some r → drop n L ≡ r ∷ drop (suc n) L
get_then [] n r e = absurd (cc)
get_then (x ∷ L) zero r e = let same : x ≡ r = cc in ap (λ z. z ∷ L) same
get_then (x ∷ L) (suc n) r e = get_then L n r e

pub drop_more : {X : Type 0} (f k : ℕ) (L : List X) → drop k (drop f L) ≡ drop (f + k) L
drop_more zero k L = let same : 0 + k ≡ k = omega arith in rw same refl
drop_more (suc f) zero [] = let same : suc f + 0 ≡ suc (f + 0) = omega arith in rw same refl
drop_more (suc f) (suc k) [] = let same : suc f + suc k ≡ suc (f + suc k) = omega arith in rw same refl
drop_more (suc f) k (x ∷ L) = let same : suc f + k ≡ suc (f + k) = omega arith in rw same (drop_more f k L)

-- behind the epoch stands at most one record
pub near : (s : Sizes) (L : List Record) (e : Epoch) → IsSome (rules_state s L) → (e ≡ recovered_epoch L) ⊎ (e ≡ last_epoch L) → length L ≤ next_number e + 1
near s L e rules recent = ⊎_elim (by_records (cut L).now.records refl) at_last recent
  where
    st : State L (cut L)
    st = state_of s L rules

    at_last : e ≡ (cut L).now → length L ≤ next_number e + 1
    at_last h = omega (arith, st.count, ap next_number h)

    by_records : (rs : List Record) → (cut L).now.records ≡ rs → e ≡ recovered_or (cut L) rs → length L ≤ next_number e + 1
    by_records (r ∷ rs) k h = at_last h
    by_records [] k h = by_last (last_of (cut L).closed) refl h
      where
        by_last : (o : Option Epoch) → last_of (cut L).closed ≡ o → e ≡ unwrap_or o (cut L).now → length L ≤ next_number e + 1
        by_last None q g = at_last g
        by_last (Some d) q g = omega (arith, linked_last (cut L).closed d (cut L).now q st.linked, ap next_number g, st.count, ap length k)

pub reads_epoch : ReadsEpoch
unfolding IsClosed
reads_epoch s L e n legal inside found recent = ⊎_elim before behind (cases_lt n e.first)
  where
    p : Placed L e
    p = (placed s L e n legal.rules found).0

    low : e.first ≤ n + 1
    low = (placed s L e n legal.rules found).1

    within : n - e.first ≤ length e.records
    within = within_epoch n L e inside found

    before : n < e.first → (part_from (drop n L) ≡ records_from n e) × ((number_from n (drop n L) ≡ first_from n e) ⊎ (part_from (drop n L) ≡ []))
    before lt =
        let at : e.first ≡ suc n = omega (arith, lt, low) in
        let led : IsLed L (suc n) = subst (IsLed L) at p.led in
        let read : drop n L ≡ led.0 ∷ (e.records ++ p.behind) = get_then L n led.0 led.1 ∙ ap (λ X. led.0 ∷ X) (ap (λ k. drop k L) (sym at) ∙ p.there) in
        let none : n - e.first ≡ 0 = omega (arith, lt) in
        let part : part_from (drop n L) ≡ e.records = rw (read, led.2) (up_to_end e.records p.behind p.within p.end) in
        (part ∙ sym (ap (λ k. drop k e.records) none), inl (rw (read, led.2) (omega (arith, at))))

    behind : e.first ≤ n → (part_from (drop n L) ≡ records_from n e) × ((number_from n (drop n L) ≡ first_from n e) ⊎ (part_from (drop n L) ≡ []))
    behind ge = by_rest (drop (n - e.first) e.records) refl
      where
        place : e.first + (n - e.first) ≡ n
        place = omega (arith, ge)

        read : drop n L ≡ drop (n - e.first) e.records ++ p.behind
        read = ap (λ k. drop k L) (sym place) ∙ (sym (drop_more e.first (n - e.first) L) ∙ (ap (drop (n - e.first)) p.there ∙ drop-append-le (n - e.first) e.records p.behind within))

        number : max n e.first ≡ n
        number = omega (arith, ge)

        by_rest : (D : List Record) → drop (n - e.first) e.records ≡ D → (part_from (drop n L) ≡ drop (n - e.first) e.records) × ((number_from n (drop n L) ≡ max n e.first) ⊎ (part_from (drop n L) ≡ []))
        by_rest (r ∷ D) g =
            let inside : IsWithin (r ∷ D) = subst IsWithin g (within_drop (n - e.first) e.records p.within) in
            let plain : separates r ≡ false = inside 0 r refl in
            rw (read, g, plain) (ap (λ X. r ∷ X) (up_to_end D p.behind (λ i q k. inside (suc i) q k) p.end), inl (sym number))
        by_rest [] g = by_end p.behind refl
          where
            by_end : (Z : List Record) → p.behind ≡ Z → (part_from (drop n L) ≡ drop (n - e.first) e.records) × ((number_from n (drop n L) ≡ max n e.first) ⊎ (part_from (drop n L) ≡ []))
            by_end [] k = rw (read, g, k) (refl, inl (sym number))
            by_end (z ∷ []) k = let sep : separates z ≡ true = subst IsEnd k p.end in rw (read, g, k, sep) (refl, inr refl)
            by_end (z ∷ y ∷ Z) k = absurd (omega (arith, near s L e legal.rules recent, p.low, length-drop e.first L, ap length p.there, length-append e.records p.behind, ap length k))
