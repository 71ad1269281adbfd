-- What a client knows at the start, and by what it has seen.
use Rattle.std.proofs.Common.{◌≡◌, ℕ, zero, suc, ◌<◌, ◌≤◌, Bool, true, false, not, List, [], ◌∷◌, ◌++◌, length, Option, Some, None, refl, ap, sym, subst, ◌∙◌, arith}
use Rattle.std.specs.Prelude.{slice_get, filter_map, map}
use Rattle.std.proofs.lemmas.List.{append_assoc}
use Rattle.std.proofs.lemmas.List.Elements.{filter_map-append}
use Rattle.dali_lists.proofs.Lists.{get_within}
use Rattle.dali_record.specs.declared.records.Record.{Record}
use Rattle.dali_crash.specs.Traces.{Start}
use Rattle.dali_transcripts.specs.World.{record_of, logged_by}
use Rattle.dali_audit.specs.declared.audit.Finding.{Finding}
use Rattle.dali_audit.specs.Findings.{is_passed, is_damaged}
use Rattle.dali_concurrent.specs.Entries.{Entries, deed_in, deeds_of}
use Rattle.dali_concurrent.specs.Rules.{Outset, before, count_of, log_by}
use Rattle.dali_concurrent.specs.Told.{History, plain}
use Rattle.dali_concurrent.specs.Own.{HasOnly}
use Rattle.dali_concurrent.proofs.Lists.{get_of_front}
use Rattle.dali_concurrent.proofs.Told.{plain-append}
use Rattle.dali_concurrent.proofs.Own.{only_starts}
use Rattle.dali_locked.specs.Begun.{Begun, outset}
use Rattle.dali_locked.specs.Sights.{ClientSight, Knows, HasLogged}
use Rattle.dali_locked.specs.SystemSteps.{HasJust, NotChecking, PassesTold}
use Rattle.dali_locked.specs.Regions.{HasPassed}
use Rattle.dali_locked.specs.Locking.{Begins, HasAtMost, ClientBegins, StaysSeen, SeenStays, NumbersAscend, PassesAreKnown}

pub client_begins : (b : Begun) → ClientBegins b
client_begins b x none = (
  (λ s p from. subst (HasJust x.id None None (outset b s p)) (sym none) (only_starts (outset b s p) x.id)),
  (λ s p from. subst (NotChecking x.id (outset b s p)) (sym none) (λ h. absurd (cc))),
)

pub log_grows : (o : Outset) (S R : History) → log_by o (plain (S ++ R)) ≡ log_by o (plain S) ++ logged_by (deeds_of (plain R))
log_grows o S R =
    ap (λ (P : Entries). log_by o P) (plain-append S R)
    ∙ (ap (λ l. before o ++ logged_by l) (filter_map-append deed_in (plain S) (plain R))
    ∙ (ap (λ l. before o ++ l) (filter_map-append record_of (deeds_of (plain S)) (deeds_of (plain R))) ∙ sym (append_assoc (before o) (logged_by (deeds_of (plain S))) (logged_by (deeds_of (plain R))))))

pub seen_stays : (b : Begun) → SeenStays b
seen_stays b x z more = record {
  passed = λ r a right had s p from.
      let w = had s p from in
      (w.0, w.1, ap (λ T. slice_get (plain T) w.0) more.1 ∙ (ap (λ P. slice_get P w.0) (plain-append x.seen more.0) ∙ (get_of_front (plain x.seen) (plain more.0) w.0 _ w.2).0));
  logged = λ n y had s p from.
      ap (λ T. slice_get (log_by (outset b s p) (plain T)) n) more.1
      ∙ (ap (λ l. slice_get l n) (log_grows (outset b s p) x.seen more.0) ∙ (get_of_front (log_by (outset b s p) (plain x.seen)) (logged_by (deeds_of (plain more.0))) n y (had s p from)).0);
}

low : {X : Type 0} (xs : List X) (i : ℕ) (x : X) → slice_get xs i ≡ Some x → i < length xs
low [] i x e = absurd (cc)
low (y ∷ xs) zero x e = omega arith
low (y ∷ xs) (suc i) x e = let less = low xs i x e in omega (arith, less)

pub numbers_ascend : (b : Begun) → NumbersAscend b
numbers_ascend b x n m y logged most s p from =
    let less = low (log_by (outset b s p) (plain x.seen)) n y (logged s p from) in
    let few = most s p from in
    omega (arith, less, few)

pub passes_are_known : (b : Begun) → PassesAreKnown b
passes_are_known b x a fs all passed s p from = record {
  each = λ r less. get_within fs r (let count = all s p from in omega (arith, less, count));
  passed = λ r f there is. passed r f there is s p from;
  within = λ r f there. let less = low fs r f there in let count = all s p from in omega (arith, less, count);
}
