-- A log without an audit that failed.
use Rattle.std.proofs.Common.{◌≡◌, ℕ, suc, false, List, [], ◌∷◌, ◌++◌, fold, refl, ◌∙◌, ap, arith}
use Rattle.std.specs.Prelude.{Contains}
use Rattle.std.specs.List.{AllByRecursion}
use Rattle.std.proofs.lemmas.List.Sums.{fold-append}
use Rattle.dali_history.proofs.HeadlineLemmas.Undamaged.{all_survive}
use Rattle.dali_history.specs.Serial.{survivors}
use Rattle.dali_record.specs.declared.records.Record.{Record}
use Rattle.dali_record.specs.declared.records.Record.TheVariants.{Format, AuditFail, Restarted}
use Rattle.dali_record.specs.Epochs.{Epoch, Cut, cut_step, cut, failing, failing_step}
use Rattle.dali_record.specs.Log.{committed}
use Rattle.dali_served.proofs.Owners.{fails}

abbrev IsCalm : Epoch → Type 0
IsCalm e = failing e ≡ []

abbrev AreCalm : List Epoch → Type 0
AreCalm es = AllByRecursion IsCalm es

calm_push : (es : List Epoch) (e : Epoch) → AreCalm es → IsCalm e → AreCalm (es ++ e ∷ [])
calm_push [] e all one = (one, tt)
calm_push (x ∷ es) e all one = (all.0, calm_push es e all.1 one)

record IsCalmCut (c : Cut) : Type 0 where
  closed : AreCalm c.closed
  now : IsCalm c.now

-- one record more
more : (rs : List Record) (r : Record) → fold failing_step [] rs ≡ [] → failing_step [] r ≡ [] → fold failing_step [] (rs ++ r ∷ []) ≡ []
more rs r calm one = fold-append failing_step [] rs (r ∷ []) ∙ (ap (λ l. failing_step l r) calm ∙ one)

step : (c : Cut) (r : Record) → fails r ≡ false → IsCalmCut c → IsCalmCut (cut_step c r)
step c (Format i h) e calm = record { closed = calm.closed; now = refl }
step c (Restarted rs ds) e calm = record { closed = calm_push c.closed c.now calm.closed calm.now; now = refl }
step c (AuditFail b rs) e calm = absurd cc
step c r e calm = record { closed = calm.closed; now = more c.now.records r calm.now refl }

along : (L : List Record) (c : Cut) → AllByRecursion (λ r. fails r ≡ false) L → IsCalmCut c → IsCalmCut (fold cut_step c L)
along [] c all calm = calm
along (r ∷ L) c all calm = along L (cut_step c r) all.1 (step c r all.0 calm)

pub calm_survive : (L : List Record) → AllByRecursion (λ r. fails r ≡ false) L → survivors L ≡ committed L
calm_survive L all =
    let c = along L (record { closed = []; now = record { first = 0; records = [] } }) all (record { closed = tt; now = refl }) in
    all_survive L (calm_push (cut L).closed (cut L).now c.closed c.now)

-- told by the records that it hasn't
pub none_in : (L : List Record) → ((b : ℕ) (rs : List ℕ) → Contains L (AuditFail b rs) → ⊥) → AllByRecursion (λ r. fails r ≡ false) L
none_in [] none = tt
none_in (r ∷ L) none = (one r (λ b rs e. none b rs (0, omega arith, e)), none_in L (λ b rs h. none b rs (suc h.0, omega (arith, h.1), h.2)))
  where
    one : (x : Record) → ((b : ℕ) (rs : List ℕ) → x ≡ AuditFail b rs → ⊥) → fails x ≡ false
    one (AuditFail b rs) never = absurd (never b rs refl)
    one x never = refl
