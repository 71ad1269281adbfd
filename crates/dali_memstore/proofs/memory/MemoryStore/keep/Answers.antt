use Rattle.std.proofs.Common.{◌<◌, ◌≡◌, [], ◌∷◌, length, sym, ◌∙◌, ap, subst, arith, length-append}
use Rattle.dali_memstore.specs.Memory.{disks, disk_of, apply, replay, begun, starts_of, waits_of}
use Rattle.dali_memstore.specs.State.{waits}
use Rattle.dali_memstore.proofs.Crashes.{waits_kept, starts_apply}
use Rattle.dali_memstore.proofs.Events.{replay_push, replayed_sound}
use Rattle.dali_memstore.specs.declared.event.Event.TheVariants.{Synced}
use Rattle.dali_memstore.proofs.memory.MemoryStore.keep.Goals as goal

-- the files are what a history makes of them
pub sync-requires : goal.sync-requires
sync-requires c = replayed_sound c.self.inside.events.items c.self.inside.disks c.self.invariant.replays

pub invariant_of-self : goal.invariant_of-self
invariant_of-self c =
    let file = c.args.file in
    let events = c.self.inside.events.items in
    let event = Synced file in
    let olds = c.self.invariant.replays in
    let begin = begun (starts_of c.self.inside.disks) in
    let starts : begun (starts_of c.sync.new.self) ≡ begin = ap begun (ap starts_of c.sync.ensures ∙ starts_apply event c.self.inside.disks) in
    let same = sym (olds ∙ ap (λ m. disks m.history) c.self.view_is) in
    let some = subst (λ ds. 0 < waits (disk_of file ds)) same c.requires in
    record {
      replays = c.sync.ensures ∙ ap (apply event) olds ∙ sym (replay_push events event begin) ∙ ap (λ es. replay es begin) (sym c.push_reserved.ensures.items) ∙ ap (replay c.push_reserved.new.self.items) (sym starts);
      room = omega (arith, c.self.invariant.room, waits_kept file _ some, ap waits_of c.sync.ensures, ap length c.push_reserved.ensures.items, length-append events (event ∷ []), c.push_reserved.ensures.capacity);
    }
