-- A serial replay that is defined has no Odd among its answers.
use Rattle.std.proofs.Common.{◌≡◌, ℕ, zero, suc, true, false, List, [], ◌∷◌, Option, Some, None, refl, ap, sym, ◌∙◌, ⊎_elim}
use Rattle.std.specs.Prelude.{slice_get, Contains, ◌==◌, fold}
use Rattle.std.proofs.lemmas.List.Folds.{fold_stays}
use Rattle.std.proofs.lemmas.Bool.{both_ways, or_cases}
use Rattle.std.proofs.lemmas.Bool.Decides.{Decides-eqb}
use Rattle.dali_record.specs.declared.records.Call.{Call}
use Rattle.dali_record.specs.declared.records.Call.TheVariants.{Insert}
use Rattle.dali_record.specs.declared.records.Answer.{Answer}
use Rattle.dali_record.specs.declared.records.Answer.TheVariants.{Odd}
use Rattle.dali_record.specs.declared.records.Record.{Record}
use Rattle.dali_record.specs.declared.records.Record.TheVariants.{Done}
use Rattle.dali_record.specs.Log.{calls_of, call_by}
use Rattle.dali_record.specs.Damage.{has}
use Rattle.dali_history.specs.Serial.{Map, empty_map, value_after, call_key, with_value, call_step, calls_after, survivors, expected}
use Rattle.dali_history.proofs.Places.{get_from_Contains}
use Rattle.dali_history.proofs.Members.{has_from_Contains}
use Rattle.dali_history.proofs.ByKey.{none_stays}

pub odd_value : (o : Option (List ℕ)) (c : Call) (p : ℕ) → value_after o c (Odd p) ≡ None
odd_value None (Insert k v) p = refl
odd_value (Some w) (Insert k v) p = refl
odd_value None _ p = refl
odd_value (Some w) _ p = refl

-- the rest of the calls is defined too, on some map
first_step : (o : Option Map) (cs : List (Call × Answer)) (n : Map) → calls_after o cs ≡ Some n → (m : Map) × (o ≡ Some m)
first_step None cs n e = let never : None ≡ Some n = sym (none_stays cs) ∙ e in absurd (cc)
first_step (Some m) cs n e = (m, refl)

no_odd_call : (o : Option Map) (cs : List (Call × Answer)) (n : Map) (i : ℕ) (c : Call) (p : ℕ) → calls_after o cs ≡ Some n → slice_get cs i ≡ Some (c, Odd p) → ⊥
no_odd_call o [] n i c p e g = absurd (cc)
no_odd_call o (q ∷ cs) n (suc i) c p e g = no_odd_call (call_step o q) cs n i c p e g
no_odd_call o (q ∷ cs) n zero c p e g =
    let start = first_step o (q ∷ cs) n e in
    let next = first_step (call_step o q) cs n e in
    let same : q ≡ (c, Odd p) = cc in
    let refused : call_step (Some start.0) (c, Odd p) ≡ None = ap (with_value start.0 (call_key c)) (odd_value (start.0 (call_key c)) c p) in
    let never : None ≡ Some next.0 = sym refused ∙ ap (λ x. call_step (Some start.0) x) (sym same) ∙ ap (λ x. call_step x q) (sym start.1) ∙ next.1 in
    absurd (cc)

-- each of the transactions replays its calls on some map
replays : (L : List Record) (o : Option Map) (ts : List ℕ) (n : Map) (t : ℕ) → fold (λ p u. calls_after p (calls_of u L)) o ts ≡ Some n → has ts t ≡ true → (p : Option Map) × (m : Map) × (calls_after p (calls_of t L) ≡ Some m)
replays L o [] n t e h = absurd (both_ways false refl h)
replays L o (u ∷ ts) n t e h = ⊎_elim here (λ k. replays L (calls_after o (calls_of u L)) ts n t e k) (or_cases (u == t) (has ts t) h)
  where
    defined : (p : Option Map) → calls_after o (calls_of u L) ≡ p → (m : Map) × (calls_after o (calls_of u L) ≡ Some m)
    defined None f =
        let never : None ≡ Some n = sym (fold_stays (λ p v. calls_after p (calls_of v L)) None (λ v. none_stays (calls_of v L)) ts) ∙ ap (λ p. fold (λ q v. calls_after q (calls_of v L)) p ts) (sym f) ∙ e in
        absurd (cc)
    defined (Some m) f = (m, f)

    here : (u == t) ≡ true → (p : Option Map) × (m : Map) × (calls_after p (calls_of t L) ≡ Some m)
    here k = let d = defined (calls_after o (calls_of u L)) refl in (o, d.0, ap (λ v. calls_after o (calls_of v L)) (sym ((Decides-eqb u t).0 k)) ∙ d.1)

-- the place of an answered call among those of its transaction
call_at : (t : ℕ) (c : Call) (a : Answer) (L : List Record) (i : ℕ) → slice_get L i ≡ Some (Done t c a) → (j : ℕ) × (slice_get (calls_of t L) j ≡ Some (c, a))
call_at t c a [] i e = absurd (cc)
call_at t c a (r ∷ L) zero e =
    let same : r ≡ Done t c a = cc in
    let self : (t == t) ≡ true = (Decides-eqb t t).1 refl in
    let at : call_by t r ≡ Some (c, a) = ap (call_by t) same ∙ (rw self refl) in
    rw at (0, refl)
call_at t c a (r ∷ L) (suc i) e = by_value (call_by t r) (call_at t c a L i e)
  where
    by_value : (o : Option (Call × Answer)) → ((j : ℕ) × (slice_get (calls_of t L) j ≡ Some (c, a))) → (j : ℕ) × (slice_get (Rattle.std.specs.List.cons_option o (calls_of t L)) j ≡ Some (c, a))
    by_value None k = k
    by_value (Some q) k = (suc k.0, k.1)

-- no answer of a survivor is Odd
pub survivors_have_no_odd : (L : List Record) (m : Map) → expected L ≡ Some m → (t : ℕ) (c : Call) (p : ℕ) → Contains (survivors L) t → Contains L (Done t c (Odd p)) → ⊥
survivors_have_no_odd L m e t c p s d =
    let r = replays L (Some empty_map) (survivors L) m t e (has_from_Contains (survivors L) t s) in
    let g = get_from_Contains L (Done t c (Odd p)) d in
    let k = call_at t c (Odd p) L g.0 g.1 in
    no_odd_call r.0 (calls_of t L) r.1 k.0 c p r.2 k.1
