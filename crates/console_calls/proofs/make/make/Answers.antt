use Rattle.std.proofs.Common.{rules, length, take}
use Rattle.model.specs.Calls.{narrow, strike, bind, keep, save, restore, changes, show}
use Rattle.model.specs.Planners.{changed, domain}
use Rattle.console_calls.specs.Calls.{call_of}
use Rattle.console_calls.proofs.Fronts.{put_makes, asks_makes}
use Rattle.console_calls.proofs.make.make.Goals as goal

pub returns-in-Strike-clause-made : goal.returns-in-Strike-clause-made
returns-in-Strike-clause-made g c =
    put_makes c.args.planner.now c.strike.new.planner (call_of c.args.kind c.args.payload.now) (narrow (strike c.from.result c.from-in-Strike.result)) c.strike.result c.args.list.now c.put.new.list c.put.result
    (search rules) c.strike.ensures c.put.ensures

pub returns-in-Bind-clause-made : goal.returns-in-Bind-clause-made
returns-in-Bind-clause-made g c =
    put_makes c.args.planner.now c.bind.new.planner (call_of c.args.kind c.args.payload.now) (narrow (bind c.from-in-Bind.result c.from-in-Bind-2.result)) c.bind.result c.args.list.now c.put-in-Bind.new.list c.put-in-Bind.result
    (search rules) c.bind.ensures c.put-in-Bind.ensures

pub returns-in-Keep-clause-made : goal.returns-in-Keep-clause-made
returns-in-Keep-clause-made g c =
    put_makes c.args.planner.now c.keep.new.self (call_of c.args.kind c.args.payload.now) (narrow (keep c.from-in-Keep.result (take c.positions-many.result c.positions-many.new.list))) c.keep.result c.args.list.now c.put-in-Keep.new.list c.put-in-Keep.result
    (search rules) c.keep.ensures.made c.put-in-Keep.ensures

pub returns-in-Save-clause-made : goal.returns-in-Save-clause-made
returns-in-Save-clause-made g c =
    put_makes c.args.planner.now c.save.new.self (call_of c.args.kind c.args.payload.now) (save) c.save.result c.args.list.now c.put-in-Save.new.list c.put-in-Save.result
    (search rules) c.save.ensures.made c.put-in-Save.ensures

pub returns-in-Restore-clause-made : goal.returns-in-Restore-clause-made
returns-in-Restore-clause-made g c =
    put_makes c.args.planner.now c.restore.new.self (call_of c.args.kind c.args.payload.now) (restore) c.restore.result c.args.list.now c.put-in-Restore.new.list c.put-in-Restore.result
    (search rules) c.restore.ensures.made c.put-in-Restore.ensures

pub returns-in-Changes-clause-made : goal.returns-in-Changes-clause-made
returns-in-Changes-clause-made g c =
    asks_makes c.args.planner.now (call_of c.args.kind c.args.payload.now) (changes c.from-in-Changes.result c.from-in-Changes-2.result (length c.args.list.now)) (λ plan s. changed plan s c.from-in-Changes.result c.from-in-Changes-2.result) c.args.list.now c.changes.result c.changes.new.list
    (search rules) c.changes.ensures.asked

pub returns-in-Show-clause-made : goal.returns-in-Show-clause-made
returns-in-Show-clause-made g c =
    asks_makes c.args.planner.now (call_of c.args.kind c.args.payload.now) (show c.from-in-Show.result (length c.args.list.now)) (λ plan s. domain plan s c.from-in-Show.result) c.args.list.now c.show.result c.show.new.list
    (search rules) c.show.ensures.asked
