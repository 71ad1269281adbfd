use Rattle.std.proofs.Common.{◌≡◌, ℕ, ◌+◌, ◌-◌, ◌<◌, [], length, length-append, refl, sym, ap, ◌∙◌, subst, arith}
use Rattle.dali_claims.specs.Rule.{hand}
use Rattle.dali_claims.proofs.Lists.{fresh_more}
use Rattle.dali_claims.proofs.Moves.{splits}
use Rattle.dali_claims.proofs.claim.deal.Goals as goal

pub split_seat-seat-requires : goal.split_seat-seat-requires
split_seat-seat-requires c =
    let i = c.loop-dealt.invariant in
    let few : 0 < c.args.seats - c.loop-dealt.dealt = omega arith in
    (i.table, omega (arith, c.requires.words), splits _ _ _ _ (subst (λ (n : ℕ). 0 < n) (sym (ap (λ me. me.0.seats) i.host)) few) (ap (λ me. me.0.over) i.host) (ap (λ me. me.0.drawn) i.host))

pub loop-dealt-preserved : goal.loop-dealt-preserved
loop-dealt-preserved c =
    let i = c.loop-dealt.invariant in
    let less : c.args.seats - c.loop-dealt.dealt - 1 ≡ c.args.seats - (c.loop-dealt.dealt + 1) = omega arith in
    record {
      within = omega arith;
      table = c.split_seat-seat.ensures.0 ∙ i.table;
      host = c.split_seat-seat.ensures.2 ∙ (ap (λ me. (hand (me.0.seats - 1) me.0.drawn me.0.over, me.1)) i.host ∙ ap (λ n. (hand n [] 0, [])) less);
      many = ap length c.in_ok-push.ensures.items ∙ (length-append c.loop-dealt.list.items _ ∙ omega arith);
      fresh = rw c.in_ok-push.ensures.items (fresh_more _ _ _ i.fresh (c.split_seat-seat.ensures.3 ∙ i.table) (ap (λ me. me.0.drawn) c.split_seat-seat.ensures.4) refl);
    }
