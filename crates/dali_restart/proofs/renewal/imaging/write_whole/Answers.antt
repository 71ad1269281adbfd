use Rattle.std.proofs.Common.{◌≡◌, ◌+◌, ◌*◌, ◌++◌, length, flat_map, refl, sym, subst, arith, length-append}
use Rattle.std.proofs.lemmas.Result.{on_ok_weaker}
use Rattle.dali_bytes.specs.Fields.{number32}
use Rattle.dali_record.specs.Spelling.{words_bytes}
use Rattle.dali_store.specs.Store.{HoldsIn}
use Rattle.dali_image.specs.Headers.{heading}
use Rattle.dali_image.proofs.OneHeader.{heading_is_64}
use Rattle.dali_restart.specs.Renewal.Written.{new_image, without_rows}
use Rattle.dali_restart.proofs.RenewalLemmas.Beside.{only_then}
use Rattle.dali_restart.proofs.RenewalLemmas.Bytes.{from_start, held_front, held_then, held_to, regions_are_512, sized}
use Rattle.dali_restart.proofs.renewal.imaging.write_whole.Goals as goal

pub returns-in_err-write_regions-clause-only : goal.returns-in_err-write_regions-clause-only
returns-in_err-write_regions-clause-only g c =
    only_then g.V.Store.told g.V.Store.may_leave g.V.Store.moment g.V.Store.left_since c.args.file c.args.store.now c.write.new.store c.write_regions.new.store g.met.V.Store.counts_now c.write.ensures.only c.write_regions.ensures.only

pub write-requires-2 : goal.write-requires-2
write-requires-2 g c =
    let h = without_rows c.args.header.now in
    let words = flat_map words_bytes c.args.regions.now in
    let long : length words ≡ 512 * length c.args.regions.now = regions_are_512 c.args.regions.now (sized c.args.regions.now c.told-regions) in
    held_to c.args.file 0 (64 + 512 * length c.args.regions.now) (heading h ++ words) (g.V.Store.told c.args.store.now) (g.V.Store.told c.write_regions.new.store) (omega (arith, long, length-append (heading h) words, heading_is_64 h)) (from_start c.args.file (g.V.Store.told c.args.store.now))
    (held_front c.args.file h c.header_bytes.result words (g.V.Store.told c.args.store.now) (g.V.Store.told c.write.new.store) (g.V.Store.told c.write_regions.new.store) c.header_bytes.ensures c.in_ok-write.ensures.written c.in_ok-write_regions.ensures.written)

pub returns-in_err-write-2-clause-only : goal.returns-in_err-write-2-clause-only
returns-in_err-write-2-clause-only g c =
    let two = only_then g.V.Store.told g.V.Store.may_leave g.V.Store.moment g.V.Store.left_since c.args.file c.args.store.now c.write.new.store c.write_regions.new.store g.met.V.Store.counts_now c.write.ensures.only c.write_regions.ensures.only in
    only_then g.V.Store.told g.V.Store.may_leave g.V.Store.moment g.V.Store.left_since c.args.file c.args.store.now c.write_regions.new.store c.write-2.new.store g.met.V.Store.counts_now two c.write-2.ensures.only

pub returns-clause-written : goal.returns-clause-written
unfolding number32
returns-clause-written g c =
    let h = without_rows c.args.header.now in
    let words = flat_map words_bytes c.args.regions.now in
    let long : length words ≡ 512 * length c.args.regions.now = regions_are_512 c.args.regions.now (sized c.args.regions.now c.told-regions) in
    let t0 = g.V.Store.told c.args.store.now in
    let t2 = g.V.Store.told c.write_regions.new.store in
    let front : HoldsIn c.args.file 0 (heading h ++ words) t0 t2 = held_front c.args.file h c.header_bytes.result words t0 (g.V.Store.told c.write.new.store) t2 c.header_bytes.ensures c.in_ok-write.ensures.written c.in_ok-write_regions.ensures.written in
    let all : HoldsIn c.args.file 0 (new_image c.args.header.now c.args.regions.now) t0 (g.V.Store.told c.write-2.new.store) =
    held_then c.args.file 0 (64 + 512 * length c.args.regions.now) (heading h ++ words) (number32 0) (new_image c.args.header.now c.args.regions.now) t0 t2 (g.V.Store.told c.write-2.new.store)
    (omega (arith, long, length-append (heading h) words, heading_is_64 h)) refl (from_start c.args.file t0) front c.in_ok-write-2.ensures.written
    in
    on_ok_weaker c.sync.result (λ kept. subst (HoldsIn c.args.file 0 (new_image c.args.header.now c.args.regions.now) t0) (sym c.sync.ensures.told) all) c.sync.ensures.durable

pub returns-clause-only : goal.returns-clause-only
returns-clause-only g c =
    let two = only_then g.V.Store.told g.V.Store.may_leave g.V.Store.moment g.V.Store.left_since c.args.file c.args.store.now c.write.new.store c.write_regions.new.store g.met.V.Store.counts_now c.write.ensures.only c.write_regions.ensures.only in
    let three = only_then g.V.Store.told g.V.Store.may_leave g.V.Store.moment g.V.Store.left_since c.args.file c.args.store.now c.write_regions.new.store c.write-2.new.store g.met.V.Store.counts_now two c.write-2.ensures.only in
    only_then g.V.Store.told g.V.Store.may_leave g.V.Store.moment g.V.Store.left_since c.args.file c.args.store.now c.write-2.new.store c.sync.new.store g.met.V.Store.counts_now three c.sync.ensures.only
