use Rattle.std.proofs.Common.{◌≡◌, rules, inl, inr, refl, sym, subst, ◌∙◌}
use Rattle.std.specs.Prelude.{IsNone}
use Rattle.dali_recovery.specs.Standing.{Scans}
use Rattle.dali_recovery.specs.Reload.Scanning.{HasDamageFor}
use Rattle.dali_recovery.proofs.reload.scanning.scan_known.Goals as goal

pub returns-in_default-clause-ok : goal.returns-in_default-clause-ok
returns-in_default-clause-ok c =
    let nothing : IsNone c.known_at.result = search rules in
    inl (refl, λ new h. c.known_at.ensures.none nothing (subst (HasDamageFor c.args.known.now) (sym new ∙ sym c.number.ensures) h))

pub returns-in-Ok-clause-ok : goal.returns-in-Ok-clause-ok
returns-in-Ok-clause-ok c =
    let new : c.args.recovery.now.number ≡ c.args.recovery.now.first = search rules in
    let found = rw c.in-Some.is at c.known_at.ensures.some in
    inr (record {
      damage = c.in-Some.damage.now;
      known = found.0;
      first = found.1 ∙ (c.number.ensures ∙ new);
      begins = new;
      scans = subst (Scans c.args.recovery.now c.scan.new.self c.in-Some.damage.now.clean) c.as_slice.ensures.value c.in-Ok.ensures.ok;
    })
