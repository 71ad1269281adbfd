-- What a log reads as while a batch is added.
use Rattle.std.proofs.Common.{◌≡◌, ◌≢◌, ◌⊎◌, inl, inr, ℕ, ◌+◌, ◌≤◌, ◌<◌, List, [], ◌∷◌, ◌++◌, length, get_or, take, drop, refl, sym, ◌∙◌, ap, subst, arith, append_assoc, length-append, take-append-drop}
use Rattle.std.proofs.lemmas.List.{take_at, take-take, get_or-take, get_or_at, drop_at, drop_more, length-take-le, append-nil}
use Rattle.std.proofs.lemmas.List.{flat_map_more}
use Rattle.std.proofs.lemmas.Bool.{cases_eq}
use Rattle.std.specs.List.{AllByRecursion}
use Rattle.std.specs.Prelude.{sum_by}
use Rattle.std.proofs.lemmas.List.Sums.{sum_by-cons}
use Rattle.dali_bytes.specs.Fields.{number32}
use Rattle.dali_bytes.proofs.Numbers.{length-number32}
use Rattle.dali_record.specs.declared.records.Record.{Record}
use Rattle.dali_record.specs.Files.{batch_length}
use Rattle.dali_record.specs.Spelling.{record_length, spelling}
use Rattle.dali_record.proofs.Lengths.{length-spelling}
use Rattle.dali_store.specs.Store.{Torn, Holds}
use Rattle.dali_log.specs.Batch.{sized, batch, batches, IsClosedAt, IsBody, Ends, frame_of}
use Rattle.dali_log.specs.Appending.{next_place, Adds}
use Rattle.dali_log.specs.Log.{AreSpelled, bodies, body_bytes}

pub length-sized : (body : List ℕ) → length (sized body) ≡ length body + 4
length-sized body = omega (arith, length-append (number32 (length body)) body, length-number32 (length body))

pub length-batch : (body : List ℕ) → length (batch body) ≡ length body + 5
length-batch body = omega (arith, length-sized body)

pub length-frame_of : (body : List ℕ) → length (frame_of body) ≡ length body + 5
length-frame_of body = omega (arith, length-sized body, length-append (sized body) (0 ∷ []))

-- the place behind one batch
pub next_one : (at : ℕ) (body : List ℕ) → next_place at (body ∷ []) ≡ at + length body + 5
next_one at body = omega (arith, length-batch body, length-append (batch body) [])

pub take_below : (n m : ℕ) (xs ys : List ℕ) → n ≤ m → take m xs ≡ take m ys → take n xs ≡ take n ys
take_below n m xs ys le same = sym (take-take n m xs le) ∙ ap (λ (l : List ℕ). take n l) same ∙ take-take n m ys le

pub closed_same : (at : ℕ) (old new : List ℕ) → length old ≤ length new → take (at + 1) new ≡ take (at + 1) old → IsClosedAt at old → IsClosedAt at new
closed_same at old new longer same shut = (
  omega (arith, shut.0, longer),
  λ is_open. shut.1 (sym (get_or-take (at + 1) old at 0 (omega arith)) ∙ ap (λ (l : List ℕ). get_or l at 0) (sym same) ∙ get_or-take (at + 1) new at 0 (omega arith) ∙ is_open),
)

-- no batch more
pub none_more : (new : List ℕ) (p : ℕ) (bodies : List (List ℕ)) (e : ℕ) → Ends new p bodies e → Ends new p (bodies ++ []) (next_place e [])
none_more new p bodies e ends =
    let here : e ≡ next_place e [] = omega arith in
    subst (λ (l : List (List ℕ)). Ends new p l (next_place e [])) (sym (append-nil bodies)) (subst (λ (n : ℕ). Ends new p bodies n) here ends)

pub before_of : (at : ℕ) (old new : List ℕ) → take at new ≡ take at old → IsClosedAt at new → Adds at [] old new
before_of at old new same shut p bodies ends = none_more new p bodies at (record {
  place = ends.place;
  spells = same ∙ ends.spells ∙ ap (λ (l : List ℕ). l ++ batches bodies) (sym (take_below p at new old (omega (arith, ends.place)) same));
  closed = shut;
  each = ends.each;
})

pub all_push : (bodies : List (List ℕ)) (body : List ℕ) → AllByRecursion IsBody bodies → IsBody body → AllByRecursion IsBody (bodies ++ body ∷ [])
all_push [] body all is = (is, tt)
all_push (b ∷ bodies) body all is = (all.0, all_push bodies body all.1 is)

module _ (at : ℕ) (body : List ℕ) (is : IsBody body) (old rest : List ℕ) (inside : at < length old) where
  front : length (take at old) ≡ at
  front = length-take-le at old (omega (arith, inside))

  -- the log with the frame behind the gate, and a gate
  abbrev pub gated : ℕ → List ℕ
  gated gate = take at old ++ gate ∷ (frame_of body ++ rest)

  pub front_gated : (gate : ℕ) → take at (gated gate) ≡ take at old
  front_gated gate = take_at (take at old) (gate ∷ (frame_of body ++ rest)) at front

  pub gate_at : (gate : ℕ) → get_or (gated gate) at 0 ≡ gate
  gate_at gate = get_or_at (take at old) gate (frame_of body ++ rest) 0 at front

  length_gated : (gate : ℕ) → length (gated gate) ≡ at + 1 + (length body + 5) + length rest
  length_gated gate = omega (arith, front, length-append (take at old) (gate ∷ (frame_of body ++ rest)), length-append (frame_of body) rest, length-frame_of body)

  pub shut_gate : (gate : ℕ) → gate ≢ 165 → Adds at [] old (gated gate)
  shut_gate gate shut = before_of at old (gated gate) (front_gated gate) (omega (arith, length_gated gate), λ is_open. shut (sym (gate_at gate) ∙ is_open))

  pub regrouped : gated 165 ≡ (take at old ++ batch body) ++ 0 ∷ rest
  regrouped = ap (λ (l : List ℕ). take at old ++ 165 ∷ l) (append_assoc (sized body) (0 ∷ []) rest) ∙ sym (append_assoc (take at old) (batch body) (0 ∷ rest))

  length_new : length (take at old ++ batch body) ≡ at + length body + 5
  length_new = omega (arith, front, length-append (take at old) (batch body), length-batch body)

  open_closed_at : IsClosedAt (at + length body + 5) (gated 165)
  open_closed_at = (
    omega (arith, length_gated 165),
    λ is_open. let zero_is : 0 ≡ 165 = sym (ap (λ (l : List ℕ). get_or l (at + length body + 5) 0) regrouped ∙ get_or_at (take at old ++ batch body) 0 rest 0 (at + length body + 5) length_new) ∙ is_open in omega (arith, zero_is),
  )

  pub open_closed : IsClosedAt (next_place at (body ∷ [])) (gated 165)
  open_closed = subst (λ (e : ℕ). IsClosedAt e (gated 165)) (sym (next_one at body)) open_closed_at

  pub open_gate : Adds at (body ∷ []) old (gated 165)
  open_gate p bodies ends =
      let next = at + length body + 5 in
      let start : take p (gated 165) ≡ take p old = take_below p at (gated 165) old (omega (arith, ends.place)) (front_gated 165) in
      let more = flat_map_more batch (take p old) bodies body in
      let reads : take next (gated 165) ≡ take p old ++ batches (bodies ++ body ∷ []) =
      ap (λ (l : List ℕ). take next l) regrouped ∙ take_at (take at old ++ batch body) (0 ∷ rest) next length_new ∙ ap (λ (l : List ℕ). l ++ batch body) ends.spells ∙ more in
      let sizes : length (batches bodies) + length (batch body) ≡ length (batches (bodies ++ body ∷ [])) = sym (length-append (batches bodies) (batch body)) ∙ ap length (flat_map_more batch [] bodies body) in
      subst (λ (e : ℕ). Ends (gated 165) p (bodies ++ body ∷ []) e) (sym (next_one at body)) (record {
        place = omega (arith, ends.place, sizes, length-batch body);
        spells = reads ∙ ap (λ (l : List ℕ). l ++ batches (bodies ++ body ∷ [])) (sym start);
        closed = open_closed_at;
        each = all_push bodies body ends.each is;
      })

  behind : (s : List ℕ) → s ≡ gated (get_or s at 0) → drop (at + 1) s ≡ frame_of body ++ rest
  behind s staged =
      ap (λ (l : List ℕ). drop (at + 1) l) (staged ∙ sym (append_assoc (take at old) (get_or s at 0 ∷ []) (frame_of body ++ rest)))
      ∙ drop_at (take at old ++ get_or s at 0 ∷ []) (frame_of body ++ rest) (at + 1) (omega (arith, front, length-append (take at old) (get_or s at 0 ∷ [])))

  head : (s : List ℕ) → s ≡ gated (get_or s at 0) → take at s ≡ take at old
  head s staged = ap (λ (l : List ℕ). take at l) staged ∙ front_gated (get_or s at 0)

  -- what a torn gate leaves
  pub torn_gate : (s c : List ℕ) → s ≡ gated (get_or s at 0) → Torn at 1 s c → c ≡ gated (get_or c at 0)
  torn_gate s c staged torn =
      let long : at < length c = omega (arith, torn.no_shorter, ap length staged, length_gated (get_or s at 0)) in
      sym (take-append-drop at c) ∙ ap (λ (l : List ℕ). take at c ++ l) (drop_more c at 0 long) ∙ ap (λ (l : List ℕ). l ++ get_or c at 0 ∷ drop (at + 1) c) (torn.before ∙ head s staged)
      ∙ ap (λ (l : List ℕ). take at old ++ get_or c at 0 ∷ l) (torn.after ∙ behind s staged)

  -- what stands once the gate is written
  pub written_gate : (s c : List ℕ) → s ≡ gated (get_or s at 0) → Holds s at (165 ∷ []) c → c ≡ gated 165
  written_gate s c staged holds =
      holds
      ∙ ap (λ (l : List ℕ). l ++ (165 ∷ []) ++ drop (at + 1) s) (head s staged)
      ∙ ap (λ (l : List ℕ). take at old ++ (165 ∷ []) ++ l) (behind s staged)
      ∙ append_assoc (take at old) (165 ∷ []) (frame_of body ++ rest)

  pub either : (c : List ℕ) → c ≡ gated (get_or c at 0) → Adds at [] old c ⊎ Adds at (body ∷ []) old c
  either c is_gated = elim (cases_eq (get_or c at 0) 165) [
    | inl open_is ↦ inr (subst (Adds at (body ∷ []) old) (sym (is_gated ∙ ap gated open_is)) open_gate)
    | inr shut ↦ inl (subst (Adds at [] old) (sym is_gated) (shut_gate (get_or c at 0) shut))
  ]

-- ---- the bytes of batches
pub body_length : (rs : List Record) → AreSpelled rs → length (body_bytes rs) ≡ sum_by record_length rs
body_length [] all = refl
body_length (r ∷ rs) all = length-append (spelling r) (body_bytes rs) ∙ (ap (λ n. n + length (body_bytes rs)) (length-spelling r all.0) ∙ (ap (λ n. record_length r + n) (body_length rs all.1) ∙ sym (sum_by-cons record_length r rs)))

pub batches_length : (L : List (List Record)) → AllByRecursion AreSpelled L → length (batches (bodies L)) ≡ sum_by batch_length L
batches_length [] all = refl
batches_length (rs ∷ L) all =
    let one : length (batch (body_bytes rs)) ≡ batch_length rs = omega (arith, length-batch (body_bytes rs), body_length rs all.0) in
    length-append (batch (body_bytes rs)) (batches (bodies L)) ∙ (ap (λ n. n + length (batches (bodies L))) one ∙ (ap (λ n. batch_length rs + n) (batches_length L all.1) ∙ sym (sum_by-cons batch_length rs L)))
