use Rattle.dali_calls.proofs.SingleLemmas.Calling.{is_asked, answered_there, answered_keeps, failed_there, failed_keeps, busy_keeps}
use Rattle.dali_calls.proofs.SingleLemmas.Causes.{not_asked}
use Rattle.dali_calls.proofs.single.call.perform.Goals as goal

pub returns-in-Ok-clause-ok : goal.returns-in-Ok-clause-ok
returns-in-Ok-clause-ok c =
    let is = is_asked c.args.system.now c.request.new.self c.args.txn c.args.call c.new-plan.result c.geometry.result c.lock-key.result c.in-Ok-Granted.field-0 c.in-Ok-Granted.field-0-is c.geometry.ensures c.new-plan.ensures c.lock-key.ensures c.in-Ok-Granted.ensures.ok c.in-Ok-Granted.ensures.answer in
    answered_there c.args.precheck c.args.regions.now c.finish.new.regions c.args.system.now c.request.new.self c.finish.new.system.state c.args.txn c.args.call c.new-plan.result c.in-Ok.answer c.requires.whole c.requires.lives is c.in-Ok.ensures.ok

pub returns-in-Err-finish-clause-err : goal.returns-in-Err-finish-clause-err
returns-in-Err-finish-clause-err c =
    let is = is_asked c.args.system.now c.request.new.self c.args.txn c.args.call c.new-plan.result c.geometry.result c.lock-key.result c.in-Ok-Granted.field-0 c.in-Ok-Granted.field-0-is c.geometry.ensures c.new-plan.ensures c.lock-key.ensures c.in-Ok-Granted.ensures.ok c.in-Ok-Granted.ensures.answer in
    failed_there c.args.precheck c.give_up.result c.args.regions.now c.finish.new.regions c.give_up.new.regions c.args.system.now c.request.new.self c.finish.new.system.state c.give_up.new.system.state c.args.txn c.args.call c.new-plan.result c.finish.new.plan c.in-Err-finish.cause c.requires.lives is c.in-Err-finish.ensures.cause c.give_up.ensures.given_up

pub returns-in-Ok-Busy-clause-keeps : goal.returns-in-Ok-Busy-clause-keeps
returns-in-Ok-Busy-clause-keeps c = busy_keeps c.args.system.now c.request.new.self c.args.txn c.lock-key.result.0 c.lock-key.result.1 c.in-Ok-Busy.field-0 c.in-Ok-Busy.holder c.in-Ok-Busy.field-0-is c.in-Ok-Busy.ensures.ok

pub returns-in-Ok-clause-keeps : goal.returns-in-Ok-clause-keeps
returns-in-Ok-clause-keeps c =
    let is = is_asked c.args.system.now c.request.new.self c.args.txn c.args.call c.new-plan.result c.geometry.result c.lock-key.result c.in-Ok-Granted.field-0 c.in-Ok-Granted.field-0-is c.geometry.ensures c.new-plan.ensures c.lock-key.ensures c.in-Ok-Granted.ensures.ok c.in-Ok-Granted.ensures.answer in
    answered_keeps c.args.precheck c.args.regions.now c.finish.new.regions c.args.system.now c.request.new.self c.finish.new.system.state c.args.txn c.args.call c.new-plan.result c.in-Ok.answer c.requires.lives is c.in-Ok.ensures.ok

pub returns-in-Err-finish-clause-keeps : goal.returns-in-Err-finish-clause-keeps
returns-in-Err-finish-clause-keeps c =
    let is = is_asked c.args.system.now c.request.new.self c.args.txn c.args.call c.new-plan.result c.geometry.result c.lock-key.result c.in-Ok-Granted.field-0 c.in-Ok-Granted.field-0-is c.geometry.ensures c.new-plan.ensures c.lock-key.ensures c.in-Ok-Granted.ensures.ok c.in-Ok-Granted.ensures.answer in
    failed_keeps c.args.precheck c.give_up.result c.args.regions.now c.finish.new.regions c.give_up.new.regions c.args.system.now c.request.new.self c.finish.new.system.state c.give_up.new.system.state c.args.txn c.args.call c.new-plan.result c.finish.new.plan c.in-Err-finish.cause c.requires.lives is c.in-Err-finish.ensures.cause c.give_up.ensures.given_up

pub returns-in-Err-clause-err : goal.returns-in-Err-clause-err
returns-in-Err-clause-err c = not_asked c.args.precheck c.args.regions.now c.args.system.now c.request.new.self c.args.txn c.args.call c.into.result c.in-Err.cause c.into.ensures c.in-Err.ensures.err c.in-Err.ensures.refused c.in-Err.ensures.memory
