use Rattle.std.proofs.Common.{◌≡◌, ◌∷◌, []}
use Rattle.std.proofs.lemmas.Result.{IfOk-weaker}
use Rattle.dali_report.specs.Lines.{texts}
use Rattle.dali_report.specs.declared.printed.Line.TheVariants as lines
use Rattle.dali_run.proofs.Fuses.{fuse_down, fuse_up, images_up}
use Rattle.dali_run.proofs.stores.fuse.Goals as goal

pub returns-in-Up-clause-steps : goal.returns-in-Up-clause-steps
returns-in-Up-clause-steps g c =
    let set = c.set_fuse.ensures in
    IfOk-weaker c.text_of_line-text.result (λ text. text.items ≡ texts (lines.Fuse c.args.passes ∷ [])) _
    (λ text printed. (fuse_up c.args.passes c.args.program c.in-Up.core c.set_fuse.new.self c.in-Up.is set.same (record { store = set.inner; set = set.passes; failed = set.failed }), printed))
    c.text_of_line-text.ensures.text

pub returns-in-Up-clause-images : goal.returns-in-Up-clause-images
returns-in-Up-clause-images g c = images_up g.V.Store c.args.program c.in-Up.core c.set_fuse.new.self.store c.in-Up.is c.set_fuse.ensures.inner c.requires.images

pub returns-in-Down-clause-steps : goal.returns-in-Down-clause-steps
returns-in-Down-clause-steps g c =
    let set = c.set.ensures in
    IfOk-weaker c.text_of_line-text.result (λ text. text.items ≡ texts (lines.Fuse c.args.passes ∷ [])) _
    (λ text printed. (fuse_down c.args.passes c.args.program c.in-Down.store c.set.new.self c.in-Down.is (record { store = set.inner; set = set.passes; failed = set.failed }), printed))
    c.text_of_line-text.ensures.text
