-- What a restart gives is what the restart of the log with its Restarted record gives, and no second Restarted may follow.
use Rattle.std.proofs.Common.{◌≡◌, ℕ, ◌+◌, ◌<◌, ◌≤◌, Bool, true, false, List, [], ◌∷◌, length, Option, Some, None, refl, ap, sym, ◌∙◌, ◌⊎◌, inl, inr, ⊎_elim, arith}
use Rattle.std.specs.Prelude.{◌==◌, ⊤, IsSome, ◌↔◌}
use Rattle.std.proofs.lemmas.List.Folds.{fold_along}
use Rattle.std.proofs.lemmas.Bool.{ne_eqb}
use Rattle.dali_lists.proofs.Lists.{push-not_nil}
use Rattle.dali_lists.proofs.Options.{some_of}
use Rattle.dali_geometry.specs.Sizes.{Sizes}
use Rattle.dali_record.specs.declared.records.Record.{Record}
use Rattle.dali_record.specs.declared.records.Record.TheVariants.{Format, Restarted}
use Rattle.dali_record.specs.Epochs.{Cut, cut, cut_step, last_epoch, recovered_or, recovered_epoch}
use Rattle.dali_record.specs.Damage.{rolled_list, deleted_list}
use Rattle.dali_record.specs.Legal.{Rules, rules_start, rules_state, rules_next, rules_step, sizes_of, IsLegalFor}
use Rattle.dali_record.proofs.Pushes.{rules_state_push, separates}
use Rattle.dali_history.specs.Serial.{expected}
use Rattle.dali_history.specs.Recovered.{recovered}
use Rattle.dali_history.specs.History.{IsHistory, HasExpected, RestartGives}
use Rattle.dali_history.specs.Promise.{RestartsAs}
use Rattle.dali_history.proofs.OwnEpoch.{cut_step_more}
use Rattle.dali_history.proofs.ByEpochs.{counts_all, counts_step, format_at_head, next_from}
use Rattle.dali_history.proofs.Restarts.{ends_step, restarted, sizes_of-restarted, survivors-restarted, expected-restarted, recovered-same, recovered_epoch-same, IsHistory-restarted}
use Rattle.dali_history.proofs.HeadlineLemmas.EpochByEpoch.{recovered_is_expected}

-- ---- what a restart hands out
-- from a history: the recovered image, and the lists of the recovered epoch
pub restart_gives :
    (L : List Record) → IsHistory L
    → RestartGives L (recovered (sizes_of L) L) (rolled_list (recovered_epoch L)) (deleted_list (recovered_epoch L))
restart_gives L history = record { records = recovered_is_expected L history; rolled_is = refl; deleted_is = refl }

-- a stop behind the record of a restart
pub restarts_as :
    (L : List Record) (r : Record) (E : List Record) (rs ds : List ℕ)
    → IsHistory L → (last_epoch L).records ≡ r ∷ E
    → rs ≡ rolled_list (last_epoch L) → ds ≡ deleted_list (last_epoch L) → RestartsAs L (restarted L rs ds)
restarts_as L r E rs ds history some rolled deleted = record {
  history = IsHistory-restarted L r E rs ds history some rolled deleted;
  sizes = sizes_of-restarted L rs ds;
  image = rw (sizes_of-restarted L rs ds) (recovered-same (sizes_of L) L r E rs ds some);
  survivors_are = survivors-restarted L rs ds;
  expected_is = expected-restarted L rs ds;
  epoch = recovered_epoch-same L r E rs ds some;
}

-- the lists that it names are those that the next restart reports
pub names_the_report : (L : List Record) (r : Record) (E : List Record) → (last_epoch L).records ≡ r ∷ E → recovered_epoch L ≡ last_epoch L
names_the_report L r E some = ap (λ R. recovered_or (cut L) R) some

HasExpected-same : (L M : List Record) (image : List (List ℕ)) → sizes_of M ≡ sizes_of L → expected M ≡ expected L → HasExpected L image → HasExpected M image
HasExpected-same L M image s e h = record { map = h.map; expected_is = e ∙ h.expected_is; records_are = rw s h.records_are }

-- what a restart gives from one of them, it gives from the other
pub gives_the_same : (L M : List Record) (image : List (List ℕ)) (rolled deleted : List ℕ) → RestartsAs L M → RestartGives L image rolled deleted ↔ RestartGives M image rolled deleted
gives_the_same L M image rolled deleted again = (
  (λ g. record {
    records = HasExpected-same L M image again.sizes again.expected_is g.records;
    rolled_is = g.rolled_is ∙ ap rolled_list (sym again.epoch);
    deleted_is = g.deleted_is ∙ ap deleted_list (sym again.epoch);
  }),
  (λ g. record {
    records = HasExpected-same M L image (sym again.sizes) (sym again.expected_is) g.records;
    rolled_is = g.rolled_is ∙ ap rolled_list again.epoch;
    deleted_is = g.deleted_is ∙ ap deleted_list again.epoch;
  }),
)

-- ---- no second one
-- an open epoch without records stands behind Restarted, or behind the format alone
abbrev IsBehind : Option Rules → Cut → Type 0
IsBehind None c = ⊤
IsBehind (Some g) c = c.now.records ≡ [] → (g.restarted ≡ true) ⊎ (g.count ≤ 1)

with_records : (o : Option Rules) (c : Cut) → (c.now.records ≡ [] → ⊥) → IsBehind o c
with_records None c h = tt
with_records (Some g) c h = λ e. absurd (h e)

behind_restart : (s : Sizes) (g : Rules) (rs ds : List ℕ) (o : Option Rules) (c : Cut) → rules_step s g (Restarted rs ds) ≡ o → IsBehind o c
behind_restart s g rs ds None c e = tt
behind_restart s g rs ds (Some h) c e = λ f. inl (rw e at (ends_step s g (Restarted rs ds)))

behind_format : (s : Sizes) (g : Rules) (i n : ℕ) (o : Option Rules) (c : Cut) → rules_step s g (Format i n) ≡ o → IsBehind o c
behind_format s g i n None c e = tt
behind_format s g i n (Some h) c e =
    let first : g.count ≡ 0 = format_at_head s g i n (rw e refl) in
    let size : h.count ≡ g.count + 1 = rw e at (counts_step s g (Format i n)) in
    λ f. inr (omega (arith, first, size))

behind_kind : (s : Sizes) (g : Rules) (c : Cut) (r : Record) (b : Bool) → separates r ≡ b → IsBehind (rules_step s g r) (cut_step c r)
behind_kind s g c r false f = with_records (rules_step s g r) (cut_step c r) (λ e. push-not_nil c.now.records r (rw (cut_step_more c r f) at e))
behind_kind s g c (Format i n) true f = behind_format s g i n (rules_step s g (Format i n)) (cut_step c (Format i n)) refl
behind_kind s g c (Restarted rs ds) true f = behind_restart s g rs ds (rules_step s g (Restarted rs ds)) (cut_step c (Restarted rs ds)) refl
behind_kind s g c r true f = absurd (cc)

behind_next : (s : Sizes) (o : Option Rules) (c : Cut) (r : Record) → IsBehind o c → IsBehind (rules_next s o r) (cut_step c r)
behind_next s None c r h = tt
behind_next s (Some g) c r h = behind_kind s g c r (separates r) refl

behind : (s : Sizes) (L : List Record) → IsBehind (rules_state s L) (cut L)
behind s L = fold_along (rules_next s) cut_step IsBehind (λ o c r. behind_next s o c r) (Some rules_start) (record { closed = []; now = record { first = 0; records = [] } }) L (λ f. inr (omega arith))

refused : (s : Sizes) (g : Rules) (rs ds : List ℕ) → (g.count == 0) ≡ false → g.restarted ≡ true → IsSome (rules_step s g (Restarted rs ds)) → ⊥
refused s g rs ds e f h = let never : IsSome {T = Rules} None = rw (e, f) at h in absurd (cc)

-- where the last epoch has no record, and the log isn't the format alone, the rules allow no Restarted
pub no_second_restart : (s : Sizes) (L : List Record) (rs ds : List ℕ) → 1 < length L → (last_epoch L).records ≡ [] → IsLegalFor s (restarted L rs ds) → ⊥
no_second_restart s L rs ds long none legal = ⊎_elim (λ again. refused s state.0 rs ds (ne_eqb state.0.count 0 (λ e. absurd (omega (arith, e, size, long)))) again step) (λ short. absurd (omega (arith, short, size, long))) (at none)
  where
    next : IsSome (rules_next s (rules_state s L) (Restarted rs ds))
    next = rw (rules_state_push s L (Restarted rs ds)) at legal.rules

    state : (g : Rules) × (rules_state s L ≡ Some g)
    state = some_of (rules_state s L) (next_from s (rules_state s L) (Restarted rs ds) next)

    size : state.0.count ≡ length L
    size = rw state.1 at (counts_all s L)

    step : IsSome (rules_step s state.0 (Restarted rs ds))
    step = rw state.1 at next

    at : (last_epoch L).records ≡ [] → (state.0.restarted ≡ true) ⊎ (state.0.count ≤ 1)
    at = rw state.1 at (behind s L)
