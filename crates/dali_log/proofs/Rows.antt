-- Rows of batches that are added one after another.
use Rattle.std.proofs.Common.{◌≡◌, inr, ℕ, zero, suc, ◌+◌, ◌≤◌, List, [], ◌∷◌, ◌++◌, length, take, refl, sym, ◌∙◌, ap, subst, arith, append_assoc, length-append}
use Rattle.std.specs.List.{AllByRecursion}
use Rattle.std.proofs.lemmas.List.{take-append-le, append-nil, take-map, length-map}
use Rattle.dali_lists.proofs.Members.{all_append}
use Rattle.dali_store.specs.Store.{Files, LeavesOnly, SameBut}
use Rattle.dali_store.specs.declared.store.FileName.TheVariants.{Log}
use Rattle.dali_store.proofs.Moments.{joins}
use Rattle.dali_record.specs.declared.records.Record.{Record}
use Rattle.dali_record.specs.declared.records.Record.TheVariants.{Format}
use Rattle.dali_record.specs.Spelling.{spelling, CanBeSpelled}
use Rattle.dali_log.specs.Batch.{batch, batches, IsClosedAt, Ends}
use Rattle.dali_log.specs.Appending.{next_place, Adds, SomeAdded, AllAdded}
use Rattle.dali_log.specs.Log.{body_bytes, AreSpelled, bodies, HasFormat, LogOf}
use Rattle.dali_log.specs.Laws.{Added, AppendsGoOn}
use Rattle.dali_log.proofs.Fronts.{bodies_join}

pub batches-append : (one two : List (List ℕ)) → batches (one ++ two) ≡ batches one ++ batches two
batches-append [] two = refl
batches-append (b ∷ one) two = ap (λ (l : List ℕ). batch b ++ l) (batches-append one two) ∙ sym (append_assoc (batch b) (batches one) (batches two))

pub next_both : (at : ℕ) (one two : List (List ℕ)) → next_place (next_place at one) two ≡ next_place at (one ++ two)
next_both at one two = omega (arith, ap length (batches-append one two), length-append (batches one) (batches two))

pub adds_join : (at : ℕ) (one two : List (List ℕ)) (a b c : List ℕ) → Adds at one a b → Adds (next_place at one) two b c → Adds at (one ++ two) a c
adds_join at one two a b c first second p bodies ends =
    subst (λ (e : ℕ). Ends c p (bodies ++ (one ++ two)) e) (next_both at one two)
    (subst (λ (l : List (List ℕ)). Ends c p l (next_place (next_place at one) two)) (append_assoc bodies one two) (second p (bodies ++ one) (first p bodies ends)))

take_past : {A : Type 0} (n : ℕ) (one two : List A) → take (length one + n) (one ++ two) ≡ one ++ take n two
take_past n [] two = let here : 0 + n ≡ n = omega arith in ap (λ (k : ℕ). take k two) here
take_past n (x ∷ one) two =
    let here : length (x ∷ one) + n ≡ suc (length one + n) = omega arith in
    ap (λ (k : ℕ). take k (x ∷ (one ++ two))) here ∙ ap (λ (l : List _). x ∷ l) (take_past n one two)

module _ (may0 : Files → Type 0) (at : ℕ) (one two : List (List ℕ)) where
  pub some_first : (c : Files) → SomeAdded may0 at one c → SomeAdded may0 at (one ++ two) c
  some_first c some = record {
    others = some.others;
    log = (some.log.0, some.log.1, some.log.2, omega (arith, some.log.3, length-append one two), subst (λ (l : List (List ℕ)). Adds at l some.log.0.log c.log) (sym (take-append-le some.log.2 one two some.log.3)) some.log.4);
  }

  others_of : (may1 : Files → Type 0) → ((d : Files) → may1 d → AllAdded may0 at one d) → (c : Files) → (d : Files) × may1 d × SameBut Log d c → (d : Files) × may0 d × SameBut Log d c
  others_of may1 added c from = let old = (added from.0 from.1).others in (old.0, old.1, λ g other. from.2 g other ∙ old.2 g other)

  pub some_second : (may1 : Files → Type 0) → ((d : Files) → may1 d → AllAdded may0 at one d) → (c : Files) → SomeAdded may1 (next_place at one) two c → SomeAdded may0 at (one ++ two) c
  some_second may1 added c some =
      let old = (added some.log.0 some.log.1).log in
      record {
        others = others_of may1 added c some.others;
        log = (
          old.0,
          old.1,
          length one + some.log.2,
          omega (arith, some.log.3, length-append one two),
          subst (λ (l : List (List ℕ)). Adds at l old.0.log c.log) (sym (take_past some.log.2 one two)) (adds_join at one (take some.log.2 two) old.0.log some.log.0.log c.log old.2 some.log.4),
        );
      }

  pub all_second : (may1 : Files → Type 0) → ((d : Files) → may1 d → AllAdded may0 at one d) → (c : Files) → AllAdded may1 (next_place at one) two c → AllAdded may0 at (one ++ two) c
  all_second may1 added c all =
      let old = (added all.log.0 all.log.1).log in
      record {
        others = others_of may1 added c all.others;
        log = (old.0, old.1, adds_join at one two old.0.log all.log.0.log c.log old.2 all.log.2);
        closed = subst (λ (e : ℕ). IsClosedAt e c.log) (next_both at one two) all.closed;
      }

pub appends : {D : Type 0} (moment : D → ℕ) (left_since : D → ℕ → Files → Type 0) (may_leave : D → Files → Type 0) (at : ℕ) (one two : List (List ℕ)) (old mid new : D) → AppendsGoOn moment left_since may_leave at one two old mid new
appends moment left_since may_leave at one two old mid new =
    let since : Added moment left_since may_leave at one old mid → LeavesOnly moment left_since mid new (SomeAdded (may_leave mid) (next_place at one) two) → LeavesOnly moment left_since old new (SomeAdded (may_leave old) at (one ++ two)) =
    λ first second. joins moment left_since old mid new _ _ (SomeAdded (may_leave old) at (one ++ two)) first.since second (some_first (may_leave old) at one two) (some_second (may_leave old) at one two (may_leave mid) first.now) in
    record {
      both = λ first second. record { since = since first second.since; now = λ c left. all_second (may_leave old) at one two (may_leave mid) first.now c (second.now c left) };
      some = since;
    }

-- ---- logs

pub ends_of : (bytes : List ℕ) (L : List (List Record)) (e : ℕ) → LogOf bytes L e → Ends bytes 0 (bodies L) e
ends_of bytes L e log = record { place = omega (arith, log.front.place); spells = log.front.spells; closed = log.closed; each = log.front.sizes }

pub log_of_ends : (bytes : List ℕ) (L : List (List Record)) (e : ℕ) → Ends bytes 0 (bodies L) e → AllByRecursion AreSpelled L → HasFormat L → LogOf bytes L e
log_of_ends bytes L e ends each has = record {
  front = record { place = omega (arith, ends.place); spells = ends.spells; sizes = ends.each; each = each; first = inr has };
  format = has;
  closed = ends.closed;
}

pub grown : (old new : List ℕ) (L more : List (List Record)) (at : ℕ) → LogOf old L at → AllByRecursion AreSpelled more → Adds at (bodies more) old new → LogOf new (L ++ more) (next_place at (bodies more))
grown old new L more at log each adds =
    let has = log.format in
    log_of_ends new (L ++ more) (next_place at (bodies more)) (subst (λ (l : List (List ℕ)). Ends new 0 l (next_place at (bodies more))) (sym (bodies_join L more)) (adds 0 (bodies L) (ends_of old L at log)))
    (all_append AreSpelled L more log.front.each each) (has.0, has.1, has.2 ++ more, ap (λ (l : List (List Record)). l ++ more) has.3)

all_take : (n : ℕ) (L : List (List Record)) → AllByRecursion AreSpelled L → AllByRecursion AreSpelled (take n L)
all_take zero L all = tt
all_take (suc n) [] all = tt
all_take (suc n) (rs ∷ L) all = (all.0, all_take n L all.1)

-- the log of one format
pub first_log : (bytes : List ℕ) (index heap e : ℕ) → CanBeSpelled (Format index heap) → Ends bytes 0 (spelling (Format index heap) ∷ []) e → LogOf bytes ((Format index heap ∷ []) ∷ []) e
first_log bytes index heap e can ends =
    let same : spelling (Format index heap) ∷ [] ≡ bodies ((Format index heap ∷ []) ∷ []) = ap (λ (b : List ℕ). b ∷ []) (sym (append-nil (spelling (Format index heap)))) in
    log_of_ends bytes ((Format index heap ∷ []) ∷ []) e (subst (λ (l : List (List ℕ)). Ends bytes 0 l e) same ends) ((can, tt), tt) (index, heap, [], refl)

-- what a crash leaves of a log while batches of records are added, and once they have been
pub some_grown : (may0 : Files → Type 0) (L more : List (List Record)) (at : ℕ) → ((d : Files) → may0 d → LogOf d.log L at) → AllByRecursion AreSpelled more → (c : Files) → SomeAdded may0 at (bodies more) c
    → (n : ℕ) × (n ≤ length more) × LogOf c.log (L ++ take n more) (next_place at (bodies (take n more)))
some_grown may0 L more at logs each c some =
    let n = some.log.2 in
    let count : length (bodies more) ≡ length more = length-map more body_bytes in
    (n, omega (arith, count, some.log.3), grown some.log.0.log c.log L (take n more) at (logs some.log.0 some.log.1) (all_take n more each) (subst (λ (l : List (List ℕ)). Adds at l some.log.0.log c.log) (take-map body_bytes n more) some.log.4))

pub all_grown : (may0 : Files → Type 0) (L more : List (List Record)) (at : ℕ) → ((d : Files) → may0 d → LogOf d.log L at) → AllByRecursion AreSpelled more → (c : Files) → AllAdded may0 at (bodies more) c → LogOf c.log (L ++ more) (next_place at (bodies more))
all_grown may0 L more at logs each c all = grown all.log.0.log c.log L more at (logs all.log.0 all.log.1) each all.log.2
