-- Rows of batches at a place, without the last one.
use Rattle.std.proofs.Common.{◌≡◌, ◌⊎◌, inl, inr, ℕ, ◌+◌, ◌≤◌, ◌<◌, List, [], ◌∷◌, ◌++◌, refl, ap, sym, subst, ◌∙◌, arith, length, take, drop, append_assoc, length-append, take-append-drop}
use Rattle.std.specs.List.{AllByRecursion}
use Rattle.std.proofs.lemmas.List.{append-nil, drop-drop, drop_at, take_at}
use Rattle.dali_lists.proofs.Lists.{push-not_nil}
use Rattle.dali_record.specs.declared.records.Record.{Record}
use Rattle.dali_record.specs.Spelling.{spelling}
use Rattle.dali_log.specs.declared.reader.Placed.{Placed}
use Rattle.dali_log.specs.Batch.{IsBody, batch, batches}
use Rattle.dali_log.specs.Finding.{BatchAt}
use Rattle.dali_log.specs.Log.{AreSpelled, IsRun, bodies, body_bytes}
use Rattle.dali_log.specs.Stream.{HandsOut, IsReadFrom, IsWithin, Reading, place_of}
use Rattle.dali_log.proofs.Bodies.{bytes_push}
use Rattle.dali_log.proofs.Bytes.{length-batch}
use Rattle.dali_log.proofs.Fronts.{batches_push, bodies_push}
use Rattle.dali_recovery.specs.Reload.Reading.{HasRecords}

split_left : {X : Type 0} (P : X → Type 0) (L : List X) (x : X) → AllByRecursion P (L ++ x ∷ []) → AllByRecursion P L × P x
split_left P [] x all = (tt, all.0)
split_left P (y ∷ L) x all = let w = split_left P L x all.1 in ((all.0, w.0), w.1)

batches_pushed : (front : List (List Record)) (b : List Record) → batches (bodies (front ++ b ∷ [])) ≡ batches (bodies front) ++ batch (body_bytes b)
batches_pushed front b = ap batches (bodies_push front b) ∙ batches_push (bodies front) (body_bytes b)

pub batches_long : (front : List (List Record)) (b : List Record)
    → length (batches (bodies (front ++ b ∷ []))) ≡ length (batches (bodies front)) + 5 + length (body_bytes b)
batches_long front b =
    omega (arith, ap length (batches_pushed front b), length-append (batches (bodies front)) (batch (body_bytes b)), length-batch (body_bytes b))

abbrev none : List Record
none = []

-- without the last batch
run_pop : (log : List ℕ) (p : ℕ) (front : List (List Record)) (b : List Record) (q : ℕ) → IsRun log p (front ++ b ∷ []) q → HasRecords log p front b
run_pop log p front b q run = record {
  place = p + length old;
  run = record {
    place = refl;
    spells =
        ap (take (length old)) whole
        ∙ (ap (take (length old)) (append_assoc old (batch (body_bytes b)) behind) ∙ take_at old (batch (body_bytes b) ++ behind) (length old) refl);
    sizes = sizes.0;
    each = each.0;
  };
  spelled = each.1;
  rest = [];
  batch = subst (BatchAt log (p + length old)) (sym (append-nil (body_bytes b))) (sizes.1, behind, there);
}
  where
    old : List ℕ
    old = batches (bodies front)

    behind : List ℕ
    behind = drop (length (batches (bodies (front ++ b ∷ [])))) (drop p log)

    whole : drop p log ≡ (old ++ batch (body_bytes b)) ++ behind
    whole = sym (take-append-drop (length (batches (bodies (front ++ b ∷ [])))) (drop p log)) ∙ ap (λ z. z ++ behind) (run.spells ∙ batches_pushed front b)

    there : drop (p + length old) log ≡ batch (body_bytes b) ++ behind
    there =
        sym (drop-drop (length old) p log)
        ∙ (ap (drop (length old)) whole
        ∙ (ap (drop (length old)) (append_assoc old (batch (body_bytes b)) behind)
        ∙ drop_at old (batch (body_bytes b) ++ behind) (length old) refl))

    sizes : AllByRecursion IsBody (bodies front) × IsBody (body_bytes b)
    sizes = split_left IsBody (bodies front) (body_bytes b) (subst (AllByRecursion IsBody) (bodies_push front b) run.sizes)

    each : AllByRecursion AreSpelled front × AreSpelled b
    each = split_left AreSpelled front b run.each

-- ---- a batch that has begun
within_has : (log : List ℕ) (p : ℕ) (front : List (List Record)) (done : List Record) (r : Reading) → IsWithin log p front done r → HasRecords log p front done
within_has log p front done r w = record { place = w.place; run = w.good; spelled = w.spelled; rest = w.begins.0; batch = subst (BatchAt log w.place) w.begins.1 w.batch }

pub done_stands : (log : List ℕ) (p : ℕ) (front : List (List Record)) (done : List Record) (r : Reading) → IsReadFrom log p front done r
    → (done ≡ []) ⊎ HasRecords log p front done
done_stands log p front done r read = by_place read.stands
  where
    by_place : ((r.at ≡ r.end) × IsRun log p front r.at × (done ≡ [])) ⊎ ((r.at < r.end) × IsWithin log p front done r)
        → (done ≡ []) ⊎ HasRecords log p front done
    by_place (inl z) = inl z.2
    by_place (inr z) = inr (within_has log p front done r z.1)

pub record_stands : (log : List ℕ) (p : ℕ) (front : List (List Record)) (done : List Record) (g : Placed) (t : Reading)
    → HandsOut log p front done g t → HasRecords log p front (done ++ g.entry ∷ [])
record_stands log p front done g t h = by_sum h.goes
  where
    more : List Record
    more = done ++ g.entry ∷ []

    begun : ((t.at ≡ t.end) × IsRun log p front t.at × (more ≡ [])) ⊎ ((t.at < t.end) × IsWithin log p front more t) → HasRecords log p front more
    begun (inl z) = absurd (push-not_nil done g.entry z.2)
    begun (inr z) = within_has log p front more t z.1

    ended : ((t.at ≡ t.end) × IsRun log p (front ++ more ∷ []) t.at × (none ≡ [])) ⊎ ((t.at < t.end) × IsWithin log p (front ++ more ∷ []) [] t)
        → HasRecords log p front more
    ended (inl z) = run_pop log p front more t.at z.1
    ended (inr z) = run_pop log p front more z.1.place z.1.good

    by_sum : IsReadFrom log p front more t ⊎ IsReadFrom log p (front ++ more ∷ []) [] t → HasRecords log p front more
    by_sum (inl z) = begun z.stands
    by_sum (inr z) = ended z.stands

-- ---- the places
pub before_record : (log : List ℕ) (p : ℕ) (front : List (List Record)) (done : List Record) (r : Reading) → IsReadFrom log p front done r
    → r.at ≤ place_of p front done
before_record log p front done r read = by_place read.stands
  where
    by_place : ((r.at ≡ r.end) × IsRun log p front r.at × (done ≡ [])) ⊎ ((r.at < r.end) × IsWithin log p front done r) → r.at ≤ place_of p front done
    by_place (inl z) = omega (arith, z.1.place)
    by_place (inr z) = omega (arith, z.1.reached, z.1.good.place)

pub behind_record : (log : List ℕ) (p : ℕ) (front : List (List Record)) (done : List Record) (g : Placed) (t : Reading) → HandsOut log p front done g t
    → place_of p front done + length (spelling g.entry) ≤ t.at
behind_record log p front done g t h = by_sum h.goes
  where
    more : List Record
    more = done ++ g.entry ∷ []

    long : length (body_bytes more) ≡ length (body_bytes done) + length (spelling g.entry)
    long = sym (ap length (bytes_push done g.entry)) ∙ length-append (body_bytes done) (spelling g.entry)

    begun : ((t.at ≡ t.end) × IsRun log p front t.at × (more ≡ [])) ⊎ ((t.at < t.end) × IsWithin log p front more t)
        → place_of p front done + length (spelling g.entry) ≤ t.at
    begun (inl z) = absurd (push-not_nil done g.entry z.2)
    begun (inr z) = omega (arith, z.1.reached, z.1.good.place, long)

    ended : ((t.at ≡ t.end) × IsRun log p (front ++ more ∷ []) t.at × (none ≡ [])) ⊎ ((t.at < t.end) × IsWithin log p (front ++ more ∷ []) [] t)
        → place_of p front done + length (spelling g.entry) ≤ t.at
    ended (inl z) = omega (arith, z.1.place, batches_long front more, long)
    ended (inr z) = omega (arith, z.1.reached, z.1.good.place, batches_long front more, long)

    by_sum : IsReadFrom log p front more t ⊎ IsReadFrom log p (front ++ more ∷ []) [] t → place_of p front done + length (spelling g.entry) ≤ t.at
    by_sum (inl z) = begun z.stands
    by_sum (inr z) = ended z.stands
