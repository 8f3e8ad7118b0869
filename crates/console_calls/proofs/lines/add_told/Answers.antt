use Rattle.std.proofs.Common.{string_bytes, codes, sym, arith}
use Rattle.std.proofs.lemmas.List.{append-nil}
use Rattle.std.proofs.lemmas.Result.{on_ok_weaker}
use Rattle.console_calls.specs.Calls.{word_of}
use Rattle.console_calls.proofs.Spacing.{one_more, line}
use Rattle.console_calls.proofs.lines.add_told.Goals as goal

pub loop-n-init : goal.loop-n-init
loop-n-init c = sym (append-nil (string_bytes c.write.new.self))

pub loop-n-preserved : goal.loop-n-preserved
loop-n-preserved c =
    one_more (string_bytes c.write.new.self) (string_bytes c.loop-n.out) (string_bytes c.add_number.new.out) c.args.numbers.now c.loop-n.n-index
    c.loop-n-test.true c.loop-n.invariant c.in_ok-add_number.ensures

pub returns : goal.returns
returns c =
    on_ok_weaker c.writeln.result
    (line (string_bytes c.args.out.now) (word_of c.args.kind) c.args.numbers.now (codes "\n") (string_bytes c.write.new.self) (string_bytes c.loop-n.out)
    (string_bytes c.writeln.new.self) c.loop-n.n-index (omega arith) c.in_ok-write.ensures.bytes c.loop-n.invariant)
    c.writeln.ensures.bytes
