use Rattle.std.proofs.Common.{Err, map, sym, ap, subst, ◌∙◌}
use Rattle.dali_lists.proofs.Options.{if_some_then}
use Rattle.dali_log.specs.Reads.{OnlyReads}
use Rattle.dali_log.proofs.Finds.{if_some_any, if_some_same, if_some_two}
use Rattle.dali_recovery.specs.Laws.{outcome_of}
use Rattle.dali_region.specs.State.{loaded}
use Rattle.dali_restart.specs.declared.error.RestartError.TheVariants as errors
use Rattle.dali_restart.specs.Restarting.{IsLeft}
use Rattle.dali_restart.proofs.Fitting.{is_due}
use Rattle.dali_restart.proofs.Handing.{begins_over, err_same, gives_in, left_reading, left_settling, none_read, reads_in, reads_out, rests_over}
use Rattle.dali_restart.proofs.Idle.{rests_idle}
use Rattle.dali_restart.proofs.restarting.restart.Goals as goal

-- the log isn't read
pub returns-in-Err-clause-any_moment : goal.returns-in-Err-clause-any_moment
returns-in-Err-clause-any_moment g c =
    left_reading g.V.Store c.args.store c.read.new.store c.read.ensures.store.reads c.read.ensures.store.later c.read.ensures.store.passes

pub returns-in-Err-clause-none : goal.returns-in-Err-clause-none
returns-in-Err-clause-none g c = if_some_any _ (g.V.Store.told c.args.store) (λ fs without. c.read.ensures.store.reads)

-- nothing is written that is due, or not all of it
pub returns-in-Err-settle-clause-long : goal.returns-in-Err-settle-clause-long
returns-in-Err-settle-clause-long g c h =
    if_some_then _ _ (g.V.Store.told c.args.store) c.in-Ok.ensures.ok
    (λ fs is. (outcome_of c.in-Ok.found.reloaded.recovered, reads_in fs _ c.in-Ok.found is, (c.in-Err-settle.ensures.long.0 (ap Err h)).1))

pub returns-in-Err-settle-clause-reads : goal.returns-in-Err-settle-clause-reads
returns-in-Err-settle-clause-reads g c no_fault no_memory =
    subst (OnlyReads g.V.Store.told g.V.Store.moment g.V.Store.left_since g.V.Store.may_leave c.args.store) (sym (c.in-Err-settle.ensures.store.untouched (λ q. no_fault (err_same c.in-Err-settle.error errors.Fault q)))) c.read.ensures.store.reads

pub returns-in-Err-settle-clause-none : goal.returns-in-Err-settle-clause-none
returns-in-Err-settle-clause-none g c = if_some_then _ _ (g.V.Store.told c.args.store) c.in-Ok.ensures.ok (λ fs is without. absurd (none_read fs _ c.in-Ok.found is without))

pub returns-in-Err-settle-clause-any_moment : goal.returns-in-Err-settle-clause-any_moment
returns-in-Err-settle-clause-any_moment g c =
    let s = c.settle.new.store in
    left_settling g.V.Store c.args.store c.read.new.store s (g.met.V.Store.counts_now s) (g.met.V.Store.reads_now s)
    c.read.ensures.store.reads c.in-Ok.found c.in-Ok.ensures.ok c.settle.ensures.any_moment c.settle.ensures.appends c.settle.ensures.store.tells c.read.ensures.store.later c.settle.ensures.store.later c.read.ensures.store.passes c.settle.ensures.store.passes

-- no memory for a core
pub returns-clause-any_moment : goal.returns-clause-any_moment
returns-clause-any_moment g c =
    let s = c.settle.new.store in
    subst (IsLeft g.V.Store c.args.store) (sym c.in-Err-rise.ensures.refused)
    (left_settling g.V.Store c.args.store c.read.new.store s (g.met.V.Store.counts_now s) (g.met.V.Store.reads_now s)
    c.read.ensures.store.reads c.in-Ok.found c.in-Ok.ensures.ok c.settle.ensures.any_moment c.settle.ensures.appends c.settle.ensures.store.tells c.read.ensures.store.later c.settle.ensures.store.later c.read.ensures.store.passes c.settle.ensures.store.passes)

pub returns-clause-none : goal.returns-clause-none
returns-clause-none g c = if_some_then _ _ (g.V.Store.told c.args.store) c.in-Ok.ensures.ok (λ fs is without. absurd (none_read fs _ c.in-Ok.found is without))

-- the core
pub returns-in-Ok-rise-clause-gives : goal.returns-in-Ok-rise-clause-gives
returns-in-Ok-rise-clause-gives g c =
    let gs = c.in-Ok-rise.core.regions.items in
    let made = c.in-Ok-rise.ensures.core.regions ∙ ap (map loaded) c.deref.ensures.value in
    if_some_then _ _ (g.V.Store.told c.args.store) c.in-Ok.ensures.ok (λ fs is. gives_in fs _ c.in-Ok.found gs is made)

pub returns-in-Ok-rise-clause-read : goal.returns-in-Ok-rise-clause-read
returns-in-Ok-rise-clause-read g c =
    let gs = c.in-Ok-rise.core.regions.items in
    let made = c.in-Ok-rise.ensures.core.regions ∙ ap (map loaded) c.deref.ensures.value in
    if_some_then _ _ (g.V.Store.told c.args.store) c.in-Ok.ensures.ok (λ fs is. reads_out fs _ c.in-Ok.found gs is made)

pub returns-in-Ok-rise-clause-begins : goal.returns-in-Ok-rise-clause-begins
returns-in-Ok-rise-clause-begins g c =
    let core = c.in-Ok-rise.core in
    if_some_two _ _ _ (g.V.Store.told c.args.store) c.in-Ok.ensures.ok (if_some_same _ _ _ c.read.ensures.store.reads.same c.in-Ok-settle.ensures.settles)
    (λ fs is settles. begins_over g.V.Store c.args.limit c.requires.limit c.in-Ok.found c.in-Ok-settle.resting c.settle.new.store core.regions.items core.system core.vault _ c.deref.ensures.value c.in-Ok-rise.ensures.core c.in-Ok-rise.ensures.begins fs _ is settles)

pub returns-in-Ok-rise-clause-rests : goal.returns-in-Ok-rise-clause-rests
returns-in-Ok-rise-clause-rests g c =
    let core = c.in-Ok-rise.core in
    if_some_two _ _ _ (g.V.Store.told c.args.store) c.in-Ok.ensures.ok (if_some_same _ _ _ c.read.ensures.store.reads.same c.in-Ok-settle.ensures.settles)
    (λ fs is settles. rests_over g.V.Store c.args.limit c.requires.limit c.in-Ok.found c.in-Ok-settle.resting c.settle.new.store core.regions.items core.system core.vault _ c.deref.ensures.value c.in-Ok-rise.ensures.core c.in-Ok-rise.ensures.begins fs _ is settles)

pub returns-in-Ok-rise-clause-any_moment : goal.returns-in-Ok-rise-clause-any_moment
returns-in-Ok-rise-clause-any_moment g c =
    let s = c.settle.new.store in
    subst (IsLeft g.V.Store c.args.store) (sym (ap (λ v. v.store) c.in-Ok-rise.ensures.core.vault))
    (left_settling g.V.Store c.args.store c.read.new.store s (g.met.V.Store.counts_now s) (g.met.V.Store.reads_now s)
    c.read.ensures.store.reads c.in-Ok.found c.in-Ok.ensures.ok c.settle.ensures.any_moment c.settle.ensures.appends c.settle.ensures.store.tells c.read.ensures.store.later c.settle.ensures.store.later c.read.ensures.store.passes c.settle.ensures.store.passes)

pub returns-in-Ok-rise-clause-idle : goal.returns-in-Ok-rise-clause-idle
returns-in-Ok-rise-clause-idle g c =
    if_some_then _ _ (g.V.Store.told c.args.store) c.in-Ok.ensures.ok
    (λ fs is F spells finds rests.
    subst (OnlyReads g.V.Store.told g.V.Store.moment g.V.Store.left_since g.V.Store.may_leave c.args.store)
    (sym (ap (λ v. v.store) c.in-Ok-rise.ensures.core.vault ∙ c.settle.ensures.idle (rests_idle fs F c.in-Ok.found spells finds is.reads rests))) c.read.ensures.store.reads)

pub returns-in-Ok-rise-clause-none : goal.returns-in-Ok-rise-clause-none
returns-in-Ok-rise-clause-none g c = if_some_then _ _ (g.V.Store.told c.args.store) c.in-Ok.ensures.ok (λ fs is. none_read fs _ c.in-Ok.found is)

pub returns-in-Ok-rise-clause-fits : goal.returns-in-Ok-rise-clause-fits
returns-in-Ok-rise-clause-fits g c =
    if_some_then _ _ (g.V.Store.told c.args.store) c.in-Ok.ensures.ok
    (λ fs is o large. let e = c.in-Ok-settle.ensures.long.1 (is_due fs _ c.in-Ok.found o is large) in absurd (cc))
