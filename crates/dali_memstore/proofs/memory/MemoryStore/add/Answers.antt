use Rattle.std.proofs.Common.{◌≡◌, [], ◌∷◌, ◌++◌, length, sym, ◌∙◌, ap, arith, length-append}
use Rattle.dali_memstore.specs.Memory.{apply, replay, begun, starts_of}
use Rattle.dali_memstore.proofs.Crashes.{waits_few, starts_apply}
use Rattle.dali_memstore.proofs.Events.{replay_push}
use Rattle.dali_memstore.specs.declared.event.Event.TheVariants.{Wrote}
use Rattle.dali_memstore.proofs.memory.MemoryStore.add.Goals as goal

pub invariant_of-self-2 : goal.invariant_of-self-2
invariant_of-self-2 c =
    let file = c.args.file in
    let events = c.self.inside.events.items in
    let olds = c.self.invariant.replays in
    let event = Wrote file c.args.at c.args.bytes.now in
    let begin = begun (starts_of c.self.inside.disks) in
    let news = c.write.new.self in
    let applied : news ≡ apply event c.self.inside.disks = c.in_ok-write.ensures.ok in
    let starts : begun (starts_of news) ≡ begin = ap begun (ap starts_of applied ∙ starts_apply event c.self.inside.disks) in
    let pushed : c.push_reserved.new.self.items ≡ events ++ event ∷ [] =
    c.push_reserved.ensures.items ∙ ap (λ es. es ++ Wrote file c.args.at c.in_ok-copy.copy ∷ []) c.reserve.ensures.items ∙ ap (λ b. events ++ Wrote file c.args.at b ∷ []) c.in_ok-copy.ensures in
    record {
      replays = applied ∙ ap (apply event) olds ∙ sym (replay_push events event begin) ∙ ap (λ es. replay es begin) (sym pushed) ∙ ap (replay c.push_reserved.new.self.items) (sym starts);
      room = omega (arith, waits_few news, ap length pushed, length-append events (event ∷ []), c.push_reserved.ensures.capacity, c.in_ok-reserve.ensures.ok);
    }
