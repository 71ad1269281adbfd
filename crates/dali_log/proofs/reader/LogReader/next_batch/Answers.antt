use Rattle.std.proofs.Common.{ℕ, ◌+◌, take, drop, sym, ap, subst}
use Rattle.std.proofs.lemmas.Result.{err_from_is_err_and}
use Rattle.dali_lists.proofs.Options.{if_some_then}
use Rattle.dali_log.specs.Finding.{IsBad, BatchAt}
use Rattle.dali_log.specs.Stream.{Reading, IsWindow}
use Rattle.dali_log.proofs.Finds.{if_some_two}
use Rattle.dali_log.proofs.Streaming.{bad_batch, batch_begun}
use Rattle.dali_log.proofs.reader.LogReader.next_batch.Goals as goal

pub returns-in_err-size-clause-bad : goal.returns-in_err-size-clause-bad
returns-in_err-size-clause-bad g c =
    let p = err_from_is_err_and c.from_residual.result c.from_residual.ensures.1 in
    rw (p.1, p.2) (λ bad e.
    if_some_then _ _ (g.V.Store.told c.args.store.now) (c.in_err-size.ensures.bad bad e)
    (λ fs is start front done read. bad_batch fs.log c.args.self.now c.args.self.now bad c.requires.read (subst (λ (r : Reading). IsBad fs.log r.end bad) c.self.view_is (is read.window)) start front done read))

pub returns-clause-stands : goal.returns-clause-stands
returns-clause-stands g c = λ more.
    let size = c.in-Some.size in
    let batch = rw c.in-Some.is at c.in_ok-size.ensures.batch in
    let there = rw c.in-Some.is at c.in_ok-size.ensures.there in
    let e = ap (λ (r : Reading). r.end) c.self.view_is in
    if_some_two _ _ _ (g.V.Store.told c.args.store.now) batch c.in_ok-size.ensures.window (λ fs is opens start front done read.
    let found = is read.window in
    batch_begun fs.log c.args.self.now _ (take size (drop (c.self.inside.end + 5) fs.log)) size c.requires.read (subst (λ (n : ℕ). BatchAt fs.log n (take size (drop (c.self.inside.end + 5) fs.log))) e found.0) found.1 (ap (λ (n : ℕ). n + 5) e) (ap (λ (n : ℕ). n + 5) e) (ap (λ (n : ℕ). n + 5 + size) e) there.2
    (λ window. let o = subst (IsWindow fs.log) (sym c.self-2.view_is) (opens window) in record { all = o.all; part = o.part; within = o.within }) start front done read)
