use Rattle.std.proofs.Common.{◌≡◌, ◌++◌, take, drop}
use Rattle.dali_memfiles.proofs.Shelves.{cut_from}
use Rattle.dali_memfiles.proofs.shelf.cut_all.Given as goal

abbrev pub invariant-loop-number : goal.invariant-loop-number
invariant-loop-number l = take l.number l.files ++ cut_from l.choice l.number (drop l.number l.files) ≡ cut_from l.choice 0 l.fn.files
