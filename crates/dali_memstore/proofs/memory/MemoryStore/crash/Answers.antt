use Rattle.std.proofs.Common.{◌<◌, ◌≡◌, [], ◌∷◌, length, sym, ◌∙◌, ap, subst, arith, length-append}
use Rattle.dali_memstore.specs.declared.disks.Disks.{Disks}
use Rattle.dali_memstore.specs.Memory.{disks, apply, replay, begun, starts_of, waits_of}
use Rattle.dali_memstore.proofs.Crashes.{waits_cut, starts_apply}
use Rattle.dali_memstore.proofs.Events.{replay_push, replayed_sound}
use Rattle.dali_memstore.specs.declared.event.Event.TheVariants.{Cut}
use Rattle.dali_memstore.proofs.memory.MemoryStore.crash.Goals as goal

-- the files are what a history makes of them
pub cut-requires : goal.cut-requires
cut-requires c = replayed_sound c.self.inside.events.items c.self.inside.disks c.self.invariant.replays

pub invariant_of-self : goal.invariant_of-self
invariant_of-self c =
    let events = c.self.inside.events.items in
    let event = Cut c.args.choice in
    let ds = c.self.inside.disks in
    let olds = c.self.invariant.replays in
    let begin = begun (starts_of ds) in
    let starts : begun (starts_of c.cut.new.self) ≡ begin = ap begun (ap starts_of c.cut.ensures ∙ starts_apply event ds) in
    let same = sym (olds ∙ ap (λ m. disks m.history) c.self.view_is) in
    let some = subst (λ (es : Disks). 0 < waits_of es) same c.requires in
    record {
      replays = c.cut.ensures ∙ ap (apply event) olds ∙ sym (replay_push events event begin) ∙ ap (λ es. replay es begin) (sym c.push_reserved.ensures.items) ∙ ap (replay c.push_reserved.new.self.items) (sym starts);
      room = omega (arith, some, c.self.invariant.room, ap waits_of c.cut.ensures, waits_cut c.args.choice ds, ap length c.push_reserved.ensures.items, length-append events (event ∷ []), c.push_reserved.ensures.capacity);
    }
