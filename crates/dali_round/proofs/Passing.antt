-- A client that makes no step in a pass.
use Rattle.std.proofs.Common.{◌≡◌, ◌≢◌, ℕ, ◌+◌, ◌<◌, ◌≤◌, List, length, Some, get_or, ap, sym, subst, ◌∙◌, ◌⊎◌, inl, inr, ⊎_elim, arith}
use Rattle.std.specs.Prelude.{◌==◌, slice_get, slice_set}
use Rattle.std.proofs.lemmas.Option.{slice_get_within, slice_get-get_or}
use Rattle.dali_runs.proofs.CountsLemmas.Lists.{set_cases, some_same}
use Rattle.dali_runs.specs.State.{SystemState}
use Rattle.dali_turns.specs.declared.client.Client.{Client}
use Rattle.dali_turns.specs.declared.client.State.{State}
use Rattle.dali_turns.specs.Clients.{Stays}
use Rattle.dali_turns.specs.Waits.{MakesNone, StaysPut}
use Rattle.dali_round.specs.Idle.{AreIdle, IsOrder}
use Rattle.dali_round.proofs.Lists.{by_less}

-- where it stands it makes no step
reason_stays : (y : SystemState) (k j : Client) → Stays k k.state j → MakesNone y k.state (length k.rest.now == 0) → MakesNone y j.state (length j.rest.now == 0)
reason_stays y k j stays none =
    subst (λ r. MakesNone y j.state (length r == 0)) (sym stays.rest) (subst (λ (s : State). MakesNone y s (length k.rest.now == 0)) (sym stays.stands) none)

-- who stands in an order is there
pub in_order : (order : List ℕ) (n d : ℕ) (ks js : List Client) → IsOrder order (length js) → n < length order → length ks ≡ length js → get_or order n d < length ks
in_order order n d ks js is less size = let within = is.within n (get_or order n d) (slice_get-get_or order n d less) in omega (arith, within, size)

-- each client at one of the first n places of an order makes no step
abbrev pub AreIdleIn : SystemState → List Client → List ℕ → ℕ → Type 0
AreIdleIn y ks order n = (m i : ℕ) (k : Client) → m < n → slice_get order m ≡ Some i → slice_get ks i ≡ Some k → MakesNone y k.state (length k.rest.now == 0)

pub one_more_idle : (y z : SystemState) (ks : List Client) (order : List ℕ) (n i : ℕ) (d j : Client) → z ≡ y → slice_get order n ≡ Some i → StaysPut y (get_or ks i d).state (get_or ks i d) j
    → AreIdleIn y ks order n → AreIdleIn z (slice_set ks i j) order (n + 1)
one_more_idle y z ks order n i d j same at_n put idle m p k below at_m at =
    subst (λ (x : SystemState). MakesNone x k.state (length k.rest.now == 0)) (sym same)
    (⊎_elim (λ here. subst (λ (x : Client). MakesNone y x.state (length x.rest.now == 0)) (sym here.1) (reason_stays y (get_or ks i d) j put.stays put.reason)) (λ away. by_place away (by_less m n below)) (set_cases ks i j p k at))
  where
    by_place : (i ≢ p) × (slice_get ks p ≡ Some k) → (m < n) ⊎ (m ≡ n) → MakesNone y k.state (length k.rest.now == 0)
    by_place away (inl before) = idle m p k before at_m away.1
    by_place away (inr last) = absurd (away.0 (some_same (sym at_n ∙ (ap (slice_get order) (sym last) ∙ at_m))))

pub all_idle : (y : SystemState) (ks : List Client) (order : List ℕ) (n most : ℕ) → length ks ≡ most → IsOrder order most → length order ≤ n → AreIdleIn y ks order n → AreIdle y ks (length ks)
all_idle y ks order n most size all far idle i k below at =
    let there = all.all i (omega (arith, below, size)) in
    let within = slice_get_within order there.0 i there.1 in
    idle there.0 i k (omega (arith, within, far)) there.1 at
