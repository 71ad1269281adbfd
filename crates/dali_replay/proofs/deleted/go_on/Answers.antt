use Rattle.std.proofs.Common.{◌∙◌, sym}
use Rattle.dali_replay.proofs.Cuts.{cut_more, cut_format, cut_close}
use Rattle.dali_replay.proofs.deleted.go_on.Goals as goal
use Rattle.dali_replay.proofs.deleted.go_on.Goals.{then-closes+in_ok-delete_in, else-closes}

pub returns-then-not-opens : goal.returns-then-not-opens
returns-then-not-opens c = cut_more c.args.log.now c.args.at c.args.first c.args.deleted.now.items c.index-log-at.result c.requires.within c.index-log-at.is c.requires.cut (sym c.opens.ensures ∙ c.if-not-opens.true)

pub returns : goal.returns
returns c = elim c.if-closes.branch [
  | then-closes+in_ok-delete_in w ↦ rw w.deleted-is (cut_close c.args.log.now c.args.at c.args.first c.args.deleted.now.items c.index-log-at.result c.requires.within c.index-log-at.is c.requires.cut (sym c.closes.ensures ∙ w.if-closes.true) w.delete_in.new.deleted.items w.in_ok-delete_in.ensures)
  | else-closes w ↦ rw w.deleted-is (cut_format c.args.log.now c.args.at c.args.first c.args.deleted.now.items c.index-log-at.result c.requires.within c.index-log-at.is c.requires.cut (sym c.opens.ensures ∙ c.if-not-opens.false) (sym c.closes.ensures ∙ w.if-closes.false))
]
