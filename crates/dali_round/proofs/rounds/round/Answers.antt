use Rattle.std.proofs.Common.{◌≡◌, ◌∙◌, ℕ, List, length, map, false, ap, sym, subst, inl, arith}
use Rattle.std.proofs.lemmas.Grind.{common_steps}
use Rattle.dali_transcripts.specs.Clients.Said.{Transcribed}
use Rattle.dali_transcripts.specs.Clients.Told.{told_of}
use Rattle.dali_round.specs.Leads.{is_done, lines_in, RoundLeads}
use Rattle.dali_round.specs.Idle.{IsOrder}
use Rattle.dali_round.specs.Played.{AreNew}
use Rattle.dali_round.specs.Ends.{named}
use Rattle.dali_round.proofs.Made.{put_back}
use Rattle.dali_round.proofs.Keeping.{new_places, as_long}
use Rattle.dali_round.proofs.Whole.{none_leads, round_leads, many_named, numbers_same}
use Rattle.dali_round.proofs.Moments.{nothing_leaves, round_leaves}
use Rattle.dali_round.proofs.rounds.round.Goals as goal

pub returns-in_default-clause-leads : goal.returns-in_default-clause-leads
returns-in_default-clause-leads g c = λ s B p b.
    let bs = map told_of c.args.blocks.now in
    subst (λ l. RoundLeads g.V.Store c.args.precheck false s p bs (map lines_in l) (map (λ (t : Transcribed). t.receipts) l) c.args.core.regions.items c.args.core.system.state c.args.core.vault) (sym c.new.ensures.items)
    (none_leads g.V.Store c.args.precheck s B p c.args.core.regions.items c.args.core.system.state c.args.core.vault bs b)

pub play-end-requires : goal.play-end-requires
play-end-requires g c = record {
  places = new_places g.V.Store.told c.args.blocks.now c.deref_mut.result.now c.args.core.regions.items c.args.core.vault (subst (AreNew c.args.blocks.now) (sym c.deref_mut.ensures.value) c.in-Ok.ensures.clients) c.requires.files;
  order = subst (λ n. IsOrder c.deref.result.now n) (sym (ap length c.deref_mut.ensures.value ∙ c.in-Ok.ensures.clients.count)) (subst (λ (l : List ℕ). IsOrder l (length c.args.blocks.now)) (sym c.deref.ensures.value) c.in-Ok.ensures.order);
}

pub returns-clause-leads : goal.returns-clause-leads
returns-clause-leads g c = λ s B p b.
    let size : length c.play-end.new.clients ≡ c.in-Ok.clients.len = grind (arith, common_steps, c.play-end.auto.clients, c.deref_mut.ensures.value) in
    let many : length c.play-end.new.clients ≡ length c.args.blocks.now = c.play-end.auto.clients ∙ (ap length c.deref_mut.ensures.value ∙ c.in-Ok.ensures.clients.count) in
    round_leads g.V.Store c.args.precheck c.args.core.regions.items c.play-end.new.core.regions.items c.args.core.system.state c.play-end.new.core.system.state c.args.core.vault c.play-end.new.core.vault (is_done c.play-end.result) c.args.blocks.now c.deref_mut.result.now c.play-end.new.clients c.transcripts_of.result.items c.requires.placed
    (subst (AreNew c.args.blocks.now) (sym c.deref_mut.ensures.value) c.in-Ok.ensures.clients) c.play-end.ensures.goes many
    (c.transcripts_of.ensures ∙ ap (named c.args.blocks.now) (put_back c.in-Ok.clients.len c.play-end.new.clients c.in-Ok.clients.items size)) s B p b

pub returns-clause-clients : goal.returns-clause-clients
returns-clause-clients g c =
    let size : length c.play-end.new.clients ≡ c.in-Ok.clients.len = grind (arith, common_steps, c.play-end.auto.clients, c.deref_mut.ensures.value) in
    let many : length c.play-end.new.clients ≡ length c.args.blocks.now = c.play-end.auto.clients ∙ (ap length c.deref_mut.ensures.value ∙ c.in-Ok.ensures.clients.count) in
    inl
    (ap (map (λ (t : Transcribed). t.client)) (c.transcripts_of.ensures ∙ ap (named c.args.blocks.now) (put_back c.in-Ok.clients.len c.play-end.new.clients c.in-Ok.clients.items size))
    ∙ numbers_same c.args.blocks.now c.play-end.new.clients many)

pub returns-clause-nothing : goal.returns-clause-nothing
returns-clause-nothing g c = λ less.
    let size : length c.play-end.new.clients ≡ c.in-Ok.clients.len = grind (arith, common_steps, c.play-end.auto.clients, c.deref_mut.ensures.value) in
    let many : length c.play-end.new.clients ≡ length c.args.blocks.now = c.play-end.auto.clients ∙ (ap length c.deref_mut.ensures.value ∙ c.in-Ok.ensures.clients.count) in
    let all : length c.transcripts_of.result.items ≡ length c.args.blocks.now = ap length (c.transcripts_of.ensures ∙ ap (named c.args.blocks.now) (put_back c.in-Ok.clients.len c.play-end.new.clients c.in-Ok.clients.items size)) ∙ many_named c.args.blocks.now c.play-end.new.clients many in
    absurd (omega (arith, all, less))

pub returns-in_default-clause-longer : goal.returns-in_default-clause-longer
returns-in_default-clause-longer g c = as_long g.V.Store.told c.args.core.vault

pub returns-in_default-clause-any_moment : goal.returns-in_default-clause-any_moment
returns-in_default-clause-any_moment g c = nothing_leaves g.V.Store c.args.core.regions.items c.args.core.system.state c.args.core.vault (λ d past. g.met.V.Store.only_now c.args.core.vault.store d past)

pub returns-clause-any_moment : goal.returns-clause-any_moment
returns-clause-any_moment g c =
    round_leaves g.V.Store c.args.precheck c.args.blocks.now c.deref_mut.result.now c.args.core.regions.items c.play-end.new.core.regions.items c.args.core.system.state c.play-end.new.core.system.state c.args.core.vault c.play-end.new.core.vault c.requires.placed (subst (AreNew c.args.blocks.now) (sym c.deref_mut.ensures.value) c.in-Ok.ensures.clients) c.play-end.ensures.any_moment
